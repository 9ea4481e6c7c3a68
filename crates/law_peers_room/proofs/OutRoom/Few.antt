-- where few channels are acknowledged in each stretch with one IN_R1/A3 or IN_R2/A3 at most, few
-- are behind the last but one of these
use Rattle.law_order.proofs.Vocabulary.{◌≡◌, ℕ, suc, ◌+◌, ◌≤◌, Bool, true, false, if◌then◌else◌, List, [], ◌∷◌, ◌++◌, length, refl, sym, ap, ◌∙◌, subst, arith, append-nil, append_assoc, IsPrefix}
use Rattle.rh_sig.specs.declared.named.Named.TheVariants as named
use Rattle.law_moves.proofs.Vocabulary.{Cookie, Named, is_ping, Message, Text, Pdu, Packet, all_read_of, count_of, HasOne}
use Rattle.law_peers_moments.proofs.Read.{front_one}
use Rattle.law_peers_room.proofs.OutRoom.Behind.{split_behind}
use Rattle.law_peers_room.specs.OutRoom.Room.{AcksFew, AcksFewBetween, AreAcked}
use Rattle.law_peers_room.specs.OutRoom.Waits.{AcksFor, AreDifferent, behind, is_in_a3}

-- ---- what is read of messages in two parts

abbrev first_in : Message → List Message → Message
first_in other [] = other
first_in other (m ∷ ms) = m

abbrev but_first : List Message → List Message
but_first [] = []
but_first (m ∷ ms) = ms

record ReadApart (put one other : List Message) : Type 0 where
  pub before : List Message
  pub after : List Message
  pub is : put ≡ before ++ after
  pub first : all_read_of before ≡ one
  pub second : all_read_of after ≡ other

-- a message more before, of which nothing is read
apart_over : (m : Message) (put one other : List Message)
    → ((ms : List Message) → all_read_of (m ∷ ms) ≡ all_read_of ms) → ReadApart put one other
    → ReadApart (m ∷ put) one other
apart_over m put one other none rest = record {
  before = m ∷ rest.before;
  after = rest.after;
  is = ap (λ (ms : List Message). m ∷ ms) rest.is;
  first = none rest.before ∙ rest.first;
  second = rest.second;
}

-- or it is read itself
apart_with : (m n : Message) (put one other : List Message)
    → ((ms : List Message) → all_read_of (m ∷ ms) ≡ m ∷ all_read_of ms) → m ≡ n
    → ReadApart put one other → ReadApart (m ∷ put) (n ∷ one) other
apart_with m n put one other itself same rest = record {
  before = m ∷ rest.before;
  after = rest.after;
  is = ap (λ (ms : List Message). m ∷ ms) rest.is;
  first = itself rest.before ∙ ap (λ (ms : List Message). m ∷ ms) rest.first
      ∙ ap (λ (x : Message). x ∷ one) same;
  second = rest.second;
}

read_apart : (put one other : List Message) → all_read_of put ≡ one ++ other
    → ReadApart put one other
read_apart put [] other e = record {
  before = [];
  after = put;
  is = refl;
  first = refl;
  second = e;
}
read_apart [] (n ∷ one) other e = absurd cc
read_apart (Text bytes ∷ put) (n ∷ one) other e =
    apart_over (Text bytes) put (n ∷ one) other (λ ms. refl) (read_apart put (n ∷ one) other e)
read_apart (Pdu pdu ∷ put) (n ∷ one) other e =
    apart_with (Pdu pdu) n put one other (λ ms. refl) (ap (first_in (Pdu pdu)) e)
    (read_apart put one other (ap but_first e))
read_apart (Packet m ∷ put) (n ∷ one) other e =
    by (is_ping m) refl e (read_apart put (n ∷ one) other) (read_apart put one other)
  where
    read : (b : Bool) → is_ping m ≡ b → (ms : List Message)
        → all_read_of (Packet m ∷ ms) ≡ (if b then [] else Packet m ∷ []) ++ all_read_of ms
    read b f ms = ap (λ (t : Bool). (if t then [] else Packet m ∷ []) ++ all_read_of ms) f

    by : (b : Bool) → is_ping m ≡ b
        → (if b then [] else Packet m ∷ []) ++ all_read_of put ≡ n ∷ one ++ other
        → (all_read_of put ≡ n ∷ one ++ other → ReadApart put (n ∷ one) other)
        → (all_read_of put ≡ one ++ other → ReadApart put one other)
        → ReadApart (Packet m ∷ put) (n ∷ one) other
    by true f e over with_it =
        apart_over (Packet m) put (n ∷ one) other (read true f) (over e)
    by false f e over with_it =
        apart_with (Packet m) n put one other (read false f) (ap (first_in (Packet m)) e)
        (with_it (ap but_first e))

-- a test that Pings don't pass counts the same of what is read
module _ (test : Named → Bool) (none : test named.Ping ≡ false) where
  ping_fails : (m : Named) → is_ping m ≡ true → test m ≡ false
  ping_fails named.Ping e = none
  ping_fails m e = absurd cc

  read_same : (put : List Message) → count_of test (all_read_of put) ≡ count_of test put
  read_same [] = refl
  read_same (Text bytes ∷ put) = read_same put
  read_same (Pdu pdu ∷ put) = read_same put
  read_same (Packet m ∷ put) = by (is_ping m) refl (read_same put)
    where
      over : (t : Bool) → t ≡ false → (n : ℕ) → (if t then suc n else n) ≡ n
      over true e n = absurd cc
      over false e n = refl

      by : (b : Bool) → is_ping m ≡ b → count_of test (all_read_of put) ≡ count_of test put
          → count_of test ((if b then [] else Packet m ∷ []) ++ all_read_of put)
          ≡ (if test m then suc (count_of test put) else count_of test put)
      by true e rest = rest ∙ sym (over (test m) (ping_fails m e) (count_of test put))
      by false e rest = ap (λ (n : ℕ). if test m then suc n else n) rest

-- ---- few in a stretch of what came

read_has : (P : Named → Type 0) (put came : List Message) → all_read_of put ≡ came
    → HasOne P came → HasOne P put
read_has P put came e has =
    front_one P came put ([], append-nil came ∙ sym e) has

few_in : (put came before stretch after : List Message) → AcksFewBetween put
    → IsPrefix came (all_read_of put) → came ≡ (before ++ stretch) ++ after
    → count_of is_in_a3 stretch ≤ 1 → AcksFew stretch
few_in put came before stretch after few front is most cookies different acked =
    few first.before second.before second.after
    (first.is ∙ ap (λ (ms : List Message). first.before ++ ms) second.is
    ∙ sym (append_assoc first.before second.before second.after))
    (subst (λ (n : ℕ). n ≤ 1)
    (ap (count_of is_in_a3) (sym second.first) ∙ read_same is_in_a3 refl second.before) most)
    cookies different (all_acked cookies acked)
  where
    all : all_read_of put ≡ before ++ (stretch ++ (after ++ front.0))
    all =
        sym front.1 ∙ ap (λ (ms : List Message). ms ++ front.0) is
        ∙ append_assoc (before ++ stretch) after front.0
        ∙ append_assoc before stretch (after ++ front.0)

    first : ReadApart put before (stretch ++ (after ++ front.0))
    first = read_apart put before (stretch ++ (after ++ front.0)) all

    second : ReadApart first.after stretch (after ++ front.0)
    second = read_apart first.after stretch (after ++ front.0) first.second

    all_acked : (cookies : List Cookie) → AreAcked stretch cookies
        → AreAcked second.before cookies
    all_acked [] acked = tt
    all_acked (cookie ∷ cookies) acked = (
      read_has (AcksFor cookie) second.before stretch second.first acked.0,
      all_acked cookies acked.1,
    )

-- ---- behind all IN_R1/A3 and IN_R2/A3 but one

module _ (put came : List Message) (few : AcksFewBetween put)
    (front : IsPrefix came (all_read_of put)) where
  pub few_wait : (k : ℕ) → k ≤ count_of is_in_a3 came → count_of is_in_a3 came ≤ k + 1
      → (cookies : List Cookie) → AreDifferent cookies
      → AreAcked (behind is_in_a3 k came) cookies → length cookies ≤ 10
  few_wait k least most cookies different acked =
      let split = split_behind is_in_a3 k came least in
      let left = split.left in
      few_in put came split.front (behind is_in_a3 k came) [] few front
      (split.is ∙ sym (append-nil (split.front ++ behind is_in_a3 k came)))
      (omega (arith, left, most)) cookies different acked
