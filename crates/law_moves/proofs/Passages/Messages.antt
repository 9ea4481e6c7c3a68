-- more messages, and a front of them
use Rattle.law_order.proofs.Vocabulary.{◌≡◌, suc, ◌+◌, ◌≤◌, Bool, true, false, if◌then◌else◌, List, [], ◌∷◌, ◌++◌, inl, inr, refl, ap, arith, AllByRecursion}
use Rattle.law_moves.proofs.Vocabulary.{Named, Leg, LegKind, Message, Text, Pdu, Packet, same_leg, is_of, OnLeg, of_leg, pdu_bytes, Has, count_of, of_kind, HasOne}

pub all_append : {X : Type 0} (P : X → Type 0) (a b : List X) → AllByRecursion P a
    → AllByRecursion P b → AllByRecursion P (a ++ b)
all_append P [] b all more = more
all_append P (x ∷ a) b all more = (all.0, all_append P a b all.1 more)

pub each_so : {X : Type 0} (P Q : X → Type 0) → ((x : X) → P x → Q x) → (xs : List X)
    → AllByRecursion P xs → AllByRecursion Q xs
each_so P Q so [] h = tt
each_so P Q so (x ∷ xs) h = (so x h.0, each_so P Q so xs h.1)

-- ---- bytes

pub bytes_append : (a b : List Message) → pdu_bytes (a ++ b) ≡ pdu_bytes a + pdu_bytes b
bytes_append [] b = omega arith
bytes_append (Text bytes ∷ a) b = bytes_append a b
bytes_append (Pdu pdu ∷ a) b = let rest = bytes_append a b in omega (arith, rest)
bytes_append (Packet named ∷ a) b = bytes_append a b

pub bytes_rise : (a b : List Message) → pdu_bytes a ≤ pdu_bytes (a ++ b)
bytes_rise a b = let both = bytes_append a b in omega (arith, both)

-- ---- packets

pub has_more : (named : Named) (a b : List Message) → Has named a → Has named (a ++ b)
has_more named [] b h = absurd h
has_more named (m ∷ a) b (inl is) = inl is
has_more named (m ∷ a) b (inr rest) = inr (has_more named a b rest)

pub has_last : (named : Named) (a : List Message) → Has named (a ++ Packet named ∷ [])
has_last named [] = inl refl
has_last named (m ∷ a) = inr (has_last named a)

pub one_so : (P Q : Named → Type 0) → ((named : Named) → P named → Q named)
    → (ms : List Message) → HasOne P ms → HasOne Q ms
one_so P Q so [] h = absurd h
one_so P Q so (Text bytes ∷ ms) h = one_so P Q so ms h
one_so P Q so (Pdu pdu ∷ ms) h = one_so P Q so ms h
one_so P Q so (Packet named ∷ ms) (inl is) = inl (so named is)
one_so P Q so (Packet named ∷ ms) (inr rest) = inr (one_so P Q so ms rest)

pub one_more_so : (P : Named → Type 0) (a b : List Message) → HasOne P a → HasOne P (a ++ b)
one_more_so P [] b h = absurd h
one_more_so P (Text bytes ∷ a) b h = one_more_so P a b h
one_more_so P (Pdu pdu ∷ a) b h = one_more_so P a b h
one_more_so P (Packet named ∷ a) b (inl is) = inl is
one_more_so P (Packet named ∷ a) b (inr rest) = inr (one_more_so P a b rest)

pub last_one_so : (P : Named → Type 0) (a : List Message) (named : Named) → P named
    → HasOne P (a ++ Packet named ∷ [])
last_one_so P [] named is = inl is
last_one_so P (Text bytes ∷ a) named is = last_one_so P a named is
last_one_so P (Pdu pdu ∷ a) named is = last_one_so P a named is
last_one_so P (Packet other ∷ a) named is = inr (last_one_so P a named is)

pub count_append : (test : Named → Bool) (a b : List Message)
    → count_of test (a ++ b) ≡ count_of test a + count_of test b
count_append test [] b = omega arith
count_append test (Text bytes ∷ a) b = count_append test a b
count_append test (Pdu pdu ∷ a) b = count_append test a b
count_append test (Packet named ∷ a) b = by (test named) (count_append test a b)
  where
    by : (t : Bool) → count_of test (a ++ b) ≡ count_of test a + count_of test b
        → (if t then suc (count_of test (a ++ b)) else count_of test (a ++ b))
        ≡ (if t then suc (count_of test a) else count_of test a) + count_of test b
    by true rest = omega (arith, rest)
    by false rest = rest

pub count_rises : (test : Named → Bool) (a b : List Message)
    → count_of test a ≤ count_of test (a ++ b)
count_rises test a b = let both = count_append test a b in omega (arith, both)

-- ---- a message more in a log

-- on a leg
pub leg_more : (leg : Leg) (log : List OnLeg) (one : OnLeg)
    → of_leg leg (log ++ one ∷ []) ≡ of_leg leg log ++ of_leg leg (one ∷ [])
leg_more leg [] one = refl
leg_more leg (first ∷ log) one = by (same_leg first.0 leg) (leg_more leg log one)
  where
    by : (b : Bool) → of_leg leg (log ++ one ∷ []) ≡ of_leg leg log ++ of_leg leg (one ∷ [])
        → (if b then first.1 ∷ of_leg leg (log ++ one ∷ []) else of_leg leg (log ++ one ∷ []))
        ≡ (if b then first.1 ∷ of_leg leg log else of_leg leg log) ++ of_leg leg (one ∷ [])
    by true rest = ap (λ (ms : List Message). first.1 ∷ ms) rest
    by false rest = rest

-- on the legs of a kind
pub kind_more : (kind : LegKind) (log : List OnLeg) (one : OnLeg)
    → of_kind kind (log ++ one ∷ []) ≡ of_kind kind log ++ of_kind kind (one ∷ [])
kind_more kind [] one = refl
kind_more kind (first ∷ log) one = by (is_of kind first.0) (kind_more kind log one)
  where
    by : (b : Bool)
        → of_kind kind (log ++ one ∷ []) ≡ of_kind kind log ++ of_kind kind (one ∷ [])
        → (if b then first.1 ∷ of_kind kind (log ++ one ∷ []) else of_kind kind (log ++ one ∷ []))
        ≡ (if b then first.1 ∷ of_kind kind log else of_kind kind log)
        ++ of_kind kind (one ∷ [])
    by true rest = ap (λ (ms : List Message). first.1 ∷ ms) rest
    by false rest = rest
