-- what comes next of a list, and what stands before it there
use Rattle.law_order.proofs.Vocabulary.{◌≡◌, ◌⊎◌, ℕ, suc, ◌≤◌, Bool, true, false, if◌then◌else◌, List, [], ◌∷◌, ◌++◌, inl, inr, arith, refl, ap, subst, AllByRecursion, IsPrefix}
use Rattle.law_moves.proofs.Vocabulary.{Named, is_ping, Message, Text, Pdu, Packet, all_read_of, packets, count_of, Has, HasOne}
use Rattle.law_role_client_rows.specs.Putting.{IsPacket}

-- ---- a front

pub front_so : (Q : Message → Type 0) (came all : List Message) → IsPrefix came all
    → AllByRecursion Q all → AllByRecursion Q came
front_so Q [] all p h = tt
front_so Q (x ∷ came) [] p h = absurd (let e = p.1 in cc)
front_so Q (x ∷ came) (y ∷ all) p h =
    let same : y ≡ x = (let e = p.1 in cc) in
    let rest : (came ++ p.0) ≡ all = (let e = p.1 in cc) in
    (subst Q same h.0, front_so Q came all (p.0, rest) h.1)

last_so : (Q : Message → Type 0) (came : List Message) (m : Message)
    → AllByRecursion Q (came ++ m ∷ []) → Q m
last_so Q [] m h = h.0
last_so Q (x ∷ came) m h = last_so Q came m h.1

pub next_so : (Q : Message → Type 0) (came all : List Message) (m : Message)
    → IsPrefix (came ++ m ∷ []) all → AllByRecursion Q all → Q m
next_so Q came all m p h = last_so Q came m (front_so Q (came ++ m ∷ []) all p h)

-- ---- the first, and those behind it

module _ (First Rest : Message → Type 0) where
  abbrev pub IsRead : List Message → Type 0
  IsRead [] = Unit {0}
  IsRead (first ∷ rest) = First first × AllByRecursion Rest rest

  abbrev pub HasFirst : List Message → Type 0
  HasFirst [] = ⊥
  HasFirst (first ∷ rest) = First first

  pub next_stands : (came all : List Message) (m : Message) → IsRead all
      → IsPrefix (came ++ m ∷ []) all → ((came ≡ []) × First m) ⊎ (HasFirst came × Rest m)
  next_stands [] [] m h p = absurd (let e = p.1 in cc)
  next_stands [] (y ∷ all) m h p =
      let same : y ≡ m = (let e = p.1 in cc) in inl (refl, subst First same h.0)
  next_stands (x ∷ came) [] m h p = absurd (let e = p.1 in cc)
  next_stands (x ∷ came) (y ∷ all) m h p =
      let same : y ≡ x = (let e = p.1 in cc) in
      let rest : ((came ++ m ∷ []) ++ p.0) ≡ all = (let e = p.1 in cc) in
      inr (subst First same h.0, next_so Rest came all m (p.0, rest) h.1)

pub first_counts : (Is : Named → Type 0) (Rest : Message → Type 0) (came : List Message)
    → HasFirst (IsPacket Is) Rest came → 1 ≤ packets came
first_counts Is Rest [] h = absurd h
first_counts Is Rest (Text bytes ∷ came) h = absurd h
first_counts Is Rest (Pdu pdu ∷ came) h = absurd h
first_counts Is Rest (Packet named ∷ came) h = omega arith

-- ---- what is read

-- the packet is no Ping
pub read_first : (named : Named) (rest : List Message) → is_ping named ≡ false
    → all_read_of (Packet named ∷ rest) ≡ Packet named ∷ all_read_of rest
read_first named rest e =
    ap (λ (b : Bool). (if b then [] else Packet named ∷ []) ++ all_read_of rest) e

pub read_so : (Q : Message → Type 0) (ms : List Message) → AllByRecursion Q ms
    → AllByRecursion Q (all_read_of ms)
read_so Q [] h = tt
read_so Q (Text bytes ∷ ms) h = read_so Q ms h.1
read_so Q (Pdu pdu ∷ ms) h = (h.0, read_so Q ms h.1)
read_so Q (Packet named ∷ ms) h = by (is_ping named) h.0 (read_so Q ms h.1)
  where
    by : (b : Bool) → Q (Packet named) → AllByRecursion Q (all_read_of ms)
        → AllByRecursion Q ((if b then [] else Packet named ∷ []) ++ all_read_of ms)
    by true one rest = rest
    by false one rest = (one, rest)

-- ---- what stands behind a packet

module _ (test : Named → Bool) (Q : Message → Type 0) where
  -- behind each that passes the test all are so
  abbrev pub AreBehind : List Message → Type 0
  AreBehind [] = Unit {0}
  AreBehind (Text bytes ∷ ms) = AreBehind ms
  AreBehind (Pdu pdu ∷ ms) = AreBehind ms
  AreBehind (Packet named ∷ ms) =
      (test named ≡ true → AllByRecursion Q ms) × AreBehind ms

  abbrev pub Splits : List Message → Type 0
  Splits ms =
      (before later : List Message) (named : Named) → test named ≡ true
      → ms ≡ before ++ Packet named ∷ later → AllByRecursion Q later

  less : (m : Message) (ms : List Message) → Splits (m ∷ ms) → Splits ms
  less m ms law before later named e is =
      law (m ∷ before) later named e (ap (λ (all : List Message). m ∷ all) is)

  pub are_behind : (ms : List Message) → Splits ms → AreBehind ms
  are_behind [] law = tt
  are_behind (Text bytes ∷ ms) law = are_behind ms (less (Text bytes) ms law)
  are_behind (Pdu pdu ∷ ms) law = are_behind ms (less (Pdu pdu) ms law)
  are_behind (Packet named ∷ ms) law =
      (λ e. law [] ms named e refl, are_behind ms (less (Packet named) ms law))

  pub read_behind : (ms : List Message) → AreBehind ms → AreBehind (all_read_of ms)
  read_behind [] h = tt
  read_behind (Text bytes ∷ ms) h = read_behind ms h
  read_behind (Pdu pdu ∷ ms) h = read_behind ms h
  read_behind (Packet named ∷ ms) h = by (is_ping named) h.0 (read_behind ms h.1)
    where
      by : (b : Bool) → (test named ≡ true → AllByRecursion Q ms) → AreBehind (all_read_of ms)
          → AreBehind ((if b then [] else Packet named ∷ []) ++ all_read_of ms)
      by true one rest = rest
      by false one rest = (λ e. read_so Q ms (one e), rest)

  pub next_behind : (came all : List Message) (m : Message) → AreBehind all
      → IsPrefix (came ++ m ∷ []) all → 1 ≤ count_of test came → Q m
  next_behind [] all m h p some = absurd (omega (arith, some))
  next_behind (x ∷ came) [] m h p some = absurd (let e = p.1 in cc)
  next_behind (x ∷ came) (y ∷ all) m h p some =
      let same : y ≡ x = (let e = p.1 in cc) in
      let rest : ((came ++ m ∷ []) ++ p.0) ≡ all = (let e = p.1 in cc) in
      by x (subst (λ (z : Message). AreBehind (z ∷ all)) same h) some
      (λ tail. next_behind came all m tail (p.0, rest)) (next_so Q came all m (p.0, rest))
    where
      by : (z : Message) → AreBehind (z ∷ all) → 1 ≤ count_of test (z ∷ came)
          → (AreBehind all → 1 ≤ count_of test came → Q m) → (AllByRecursion Q all → Q m) → Q m
      by (Text bytes) tail some rest here = rest tail some
      by (Pdu pdu) tail some rest here = rest tail some
      by (Packet named) tail some rest here = at (test named) refl some
        where
          at : (b : Bool) → test named ≡ b
              → 1 ≤ (if b then suc (count_of test came) else count_of test came) → Q m
          at true e some = here (tail.0 e)
          at false e some = rest tail.1 some

-- ---- packets that are there

-- one that is so counts
pub one_counts : (P : Named → Type 0) (test : Named → Bool) → ((m : Named) → P m → test m ≡ true)
    → (ms : List Message) → HasOne P ms → 1 ≤ count_of test ms
one_counts P test so [] h = absurd h
one_counts P test so (Text bytes ∷ ms) h = one_counts P test so ms h
one_counts P test so (Pdu pdu ∷ ms) h = one_counts P test so ms h
one_counts P test so (Packet named ∷ ms) h = by (test named) refl h (one_counts P test so ms)
  where
    by : (b : Bool) → test named ≡ b → P named ⊎ HasOne P ms
        → (HasOne P ms → 1 ≤ count_of test ms)
        → 1 ≤ (if b then suc (count_of test ms) else count_of test ms)
    by true e h rest = omega arith
    by false e (inl is) rest = absurd (let yes = so named is in cc)
    by false e (inr h) rest = rest h

-- and one that counts is so
pub counts_one : (P : Named → Type 0) (test : Named → Bool) → ((m : Named) → test m ≡ true → P m)
    → (ms : List Message) → 1 ≤ count_of test ms → HasOne P ms
counts_one P test so [] h = absurd (omega (arith, h))
counts_one P test so (Text bytes ∷ ms) h = counts_one P test so ms h
counts_one P test so (Pdu pdu ∷ ms) h = counts_one P test so ms h
counts_one P test so (Packet named ∷ ms) h = by (test named) refl h (counts_one P test so ms)
  where
    by : (b : Bool) → test named ≡ b
        → 1 ≤ (if b then suc (count_of test ms) else count_of test ms)
        → (1 ≤ count_of test ms → HasOne P ms) → P named ⊎ HasOne P ms
    by true e h rest = inl (so named e)
    by false e h rest = inr (rest h)

-- where tests are the same
pub same_counts : (one other : Named → Bool) → ((named : Named) → one named ≡ other named)
    → (ms : List Message) → count_of one ms ≡ count_of other ms
same_counts one other so [] = refl
same_counts one other so (Text bytes ∷ ms) = same_counts one other so ms
same_counts one other so (Pdu pdu ∷ ms) = same_counts one other so ms
same_counts one other so (Packet named ∷ ms) =
    subst (λ (b : Bool). (if one named then suc (count_of one ms) else count_of one ms)
    ≡ (if b then suc (count_of other ms) else count_of other ms)) (so named)
    (ap (λ (k : ℕ). if one named then suc k else k) (same_counts one other so ms))

pub has_counts : (m : Named) (test : Named → Bool) → test m ≡ true → (ms : List Message)
    → Has m ms → 1 ≤ count_of test ms
has_counts m test e [] h = absurd h
has_counts m test e (Text bytes ∷ ms) (inl is) = absurd cc
has_counts m test e (Text bytes ∷ ms) (inr h) = has_counts m test e ms h
has_counts m test e (Pdu pdu ∷ ms) (inl is) = absurd cc
has_counts m test e (Pdu pdu ∷ ms) (inr h) = has_counts m test e ms h
has_counts m test e (Packet named ∷ ms) h =
    by (test named) refl h (has_counts m test e ms)
  where
    by : (b : Bool) → test named ≡ b → (Packet named ≡ Packet m) ⊎ Has m ms
        → (Has m ms → 1 ≤ count_of test ms)
        → 1 ≤ (if b then suc (count_of test ms) else count_of test ms)
    by true f h rest = omega arith
    by false f (inl is) rest = absurd (let same : named ≡ m = cc in let yes = ap test same in cc)
    by false f (inr h) rest = rest h

-- no Ping is read
abbrev pub IsNoPing : Message → Type 0
IsNoPing (Text bytes) = Unit {0}
IsNoPing (Pdu pdu) = Unit {0}
IsNoPing (Packet named) = is_ping named ≡ false

pub read_no_ping : (ms : List Message) → AllByRecursion IsNoPing (all_read_of ms)
read_no_ping [] = tt
read_no_ping (Text bytes ∷ ms) = read_no_ping ms
read_no_ping (Pdu pdu ∷ ms) = (tt, read_no_ping ms)
read_no_ping (Packet named ∷ ms) = by (is_ping named) refl (read_no_ping ms)
  where
    by : (b : Bool) → is_ping named ≡ b → AllByRecursion IsNoPing (all_read_of ms)
        → AllByRecursion IsNoPing ((if b then [] else Packet named ∷ []) ++ all_read_of ms)
    by true e rest = rest
    by false e rest = (e, rest)
