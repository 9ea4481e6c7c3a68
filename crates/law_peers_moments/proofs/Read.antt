-- what is among the messages that are read of what was put, and in a front of them
use Rattle.law_order.proofs.Vocabulary.{◌≡◌, ℕ, suc, ◌+◌, ◌≤◌, Bool, true, false, if◌then◌else◌, List, [], ◌∷◌, ◌++◌, length, inl, inr, arith, refl, ap, subst, IsPrefix}
use Rattle.law_moves.proofs.Vocabulary.{Named, is_ping, Message, Text, Pdu, Packet, all_read_of, pdu_bytes, count_of, Has, HasOne}
use Rattle.law_moves.proofs.Lemmas.{bytes_rise, count_rises, has_more, one_more_so}

-- ---- what is read of them

pub read_bytes : (put : List Message) → pdu_bytes (all_read_of put) ≡ pdu_bytes put
read_bytes [] = refl
read_bytes (Text bytes ∷ put) = read_bytes put
read_bytes (Pdu pdu ∷ put) = ap (λ (n : ℕ). length pdu + n) (read_bytes put)
read_bytes (Packet named ∷ put) = by (is_ping named) (read_bytes put)
  where
    by : (t : Bool) → pdu_bytes (all_read_of put) ≡ pdu_bytes put
        → pdu_bytes ((if t then [] else Packet named ∷ []) ++ all_read_of put) ≡ pdu_bytes put
    by true rest = rest
    by false rest = rest

module _ (named : Named) where
  read_has : (put : List Message) → Has named (all_read_of put) → Has named put
  read_has [] has = has
  read_has (Text bytes ∷ put) has = inr (read_has put has)
  read_has (Pdu pdu ∷ put) (inl is) = absurd cc
  read_has (Pdu pdu ∷ put) (inr has) = inr (read_has put has)
  read_has (Packet other ∷ put) has = by (is_ping other) (read_has put) has
    where
      by : (t : Bool) → (Has named (all_read_of put) → Has named put)
          → Has named ((if t then [] else Packet other ∷ []) ++ all_read_of put)
          → Has named (Packet other ∷ put)
      by true rest has = inr (rest has)
      by false rest (inl is) = inl is
      by false rest (inr has) = inr (rest has)

module _ (P : Named → Type 0) where
  read_one : (put : List Message) → HasOne P (all_read_of put) → HasOne P put
  read_one [] has = has
  read_one (Text bytes ∷ put) has = read_one put has
  read_one (Pdu pdu ∷ put) has = read_one put has
  read_one (Packet other ∷ put) has = by (is_ping other) (read_one put) has
    where
      by : (t : Bool) → (HasOne P (all_read_of put) → HasOne P put)
          → HasOne P ((if t then [] else Packet other ∷ []) ++ all_read_of put)
          → HasOne P (Packet other ∷ put)
      by true rest has = inr (rest has)
      by false rest (inl is) = inl is
      by false rest (inr has) = inr (rest has)

-- if one more counts
one_over : (t : Bool) (a b : ℕ) → a ≤ b → a ≤ (if t then suc b else b)
one_over true a b h = omega (arith, h)
one_over false a b h = h

both_over : (t : Bool) (a b : ℕ) → a ≤ b
    → (if t then suc a else a) ≤ (if t then suc b else b)
both_over true a b h = omega (arith, h)
both_over false a b h = h

module _ (test : Named → Bool) where
  read_count : (put : List Message) → count_of test (all_read_of put) ≤ count_of test put
  read_count [] = omega arith
  read_count (Text bytes ∷ put) = read_count put
  read_count (Pdu pdu ∷ put) = read_count put
  read_count (Packet other ∷ put) = by (is_ping other) (read_count put)
    where
      by : (t : Bool) → count_of test (all_read_of put) ≤ count_of test put
          → count_of test ((if t then [] else Packet other ∷ []) ++ all_read_of put)
          ≤ count_of test (Packet other ∷ put)
      by true rest =
          one_over (test other) (count_of test (all_read_of put)) (count_of test put) rest
      by false rest =
          both_over (test other) (count_of test (all_read_of put)) (count_of test put) rest

-- ---- what came is a front of that

pub front_count : (test : Named → Bool) (came put : List Message)
    → IsPrefix came (all_read_of put) → count_of test came ≤ count_of test put
front_count test came put p =
    let front : count_of test came ≤ count_of test (all_read_of put) =
    subst (λ (all : List Message). count_of test came ≤ count_of test all) p.1
    (count_rises test came p.0) in
    let read = read_count test put in omega (arith, front, read)

pub front_bytes : (came put : List Message) → IsPrefix came (all_read_of put)
    → pdu_bytes came ≤ pdu_bytes put
front_bytes came put p =
    subst (λ (n : ℕ). pdu_bytes came ≤ n) (read_bytes put)
    (subst (λ (all : List Message). pdu_bytes came ≤ pdu_bytes all) p.1 (bytes_rise came p.0))

pub front_has : (named : Named) (came put : List Message) → IsPrefix came (all_read_of put)
    → Has named came → Has named put
front_has named came put p has =
    read_has named put
    (subst (λ (all : List Message). Has named all) p.1 (has_more named came p.0 has))

pub front_one : (P : Named → Type 0) (came put : List Message)
    → IsPrefix came (all_read_of put) → HasOne P came → HasOne P put
front_one P came put p has =
    read_one P put
    (subst (λ (all : List Message). HasOne P all) p.1 (one_more_so P came p.0 has))
