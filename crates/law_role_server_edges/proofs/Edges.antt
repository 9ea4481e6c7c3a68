-- the greatest edge among packets that wait, and among those that came since a channel began
use Rattle.law_order.proofs.Vocabulary.{◌≡◌, ℕ, suc, ◌+◌, ◌≤◌, ◌==◌, ◌&&◌, max, Bool, true, false, true≢false, if◌then◌else◌, List, [], ◌∷◌, ◌++◌, Some, None, arith, refl, sym, ap, ◌∙◌, and_from, and_parts, eqb-true, eq-eqb, bytes_eq, bytes_eq-Decides, find, nat_tests, Option}
use Rattle.law_moves.proofs.Vocabulary.{by_test, Cookie, Named, OutServer, Message, Text, Pdu, Packet, is_of, one_if, Due, Key, are_one, edge_of, key_of, without_first, OnLeg, count_of, of_kind}
use Rattle.law_moves.specs.Merging.{greatest, told}
use Rattle.law_role_server.proofs.Vocabulary.{often}
use Rattle.law_role_server.proofs.Counted.Logs.{often_more}
use Rattle.law_role_edges.specs.Passing.{greatest_in, told_in}
use Rattle.law_role_server_edges.specs.Passing.{begins_on, begins_out, since}

-- ---- packets that wait

-- no edge falls
abbrev pub Rises : List Due → List Due → Type 0
Rises low high = (key : Key) → greatest key low ≤ greatest key high

pub rises_push : (dues : List Due) (due : Due) → Rises dues (dues ++ due ∷ [])
rises_push [] due key = omega arith
rises_push (first ∷ dues) due key = let rest = rises_push dues due key in omega (arith, rest)

-- where one goes, it has what the others have not
abbrev pub Leaves : Key → List Due → List Due → Option Due → Type 0
Leaves key dues others None = greatest key dues ≤ greatest key others
Leaves key dues others (Some due) =
    greatest key dues ≤ max (greatest key others) (told key due.packet)

pub first_leaves : (key : Key) (may_go : Due → Bool) (dues : List Due)
    → Leaves key dues (without_first may_go dues) (find may_go dues)
first_leaves key may_go [] = omega arith
first_leaves key may_go (due ∷ dues) =
    by (may_go due) (find may_go dues) (first_leaves key may_go dues)
  where
    by : (b : Bool) (x : Option Due) → Leaves key dues (without_first may_go dues) x
        → Leaves key (due ∷ dues) (if b then dues else due ∷ without_first may_go dues)
        (if b then Some due else x)
    by true x rest = omega arith
    by false None rest = omega (arith, rest)
    by false (Some other) rest = omega (arith, rest)

-- where those that may go tell none, none falls
pub others_keep : (key : Key) (may_go : Due → Bool)
    → ((due : Due) → may_go due ≡ true → told key due.packet ≡ 0) → (dues : List Due)
    → greatest key dues ≤ greatest key (without_first may_go dues)
others_keep key may_go none [] = omega arith
others_keep key may_go none (due ∷ dues) =
    by_test (λ (xs : List Due).
    max (told key due.packet) (greatest key dues) ≤ greatest key xs) (may_go due) dues
    (due ∷ without_first may_go dues)
    (λ e. let zero = none due e in omega (arith, zero))
    (λ e. let rest = others_keep key may_go none dues in omega (arith, rest))

-- ---- keys

alike : (one other : Key) → are_one (Some one) (Some other) ≡ true
    → (one.destination ≡ other.destination) × (one.channel.0 ≡ other.channel.0)
alike one other h =
    let parts = and_parts (one.destination == other.destination)
    (bytes_eq one.channel.0 other.channel.0) h in
    (eqb-true _ _ parts.0, (bytes_eq-Decides one.channel.0 other.channel.0).0 parts.1)

both : (o : Option Key) (key other : Key) → are_one o (Some other) ≡ true
    → are_one o (Some key) ≡ true → are_one (Some other) (Some key) ≡ true
both None key other e f = absurd cc
both (Some one) key other e f =
    let first = alike one other e in
    let second = alike one key f in
    and_from _ _ (eq-eqb _ _ (sym first.0 ∙ second.0))
    ((bytes_eq-Decides other.channel.0 key.channel.0).1 (sym first.1 ∙ second.1))

-- an acknowledgement tells nothing of another key
pub not_told : (key other : Key) → are_one (Some other) (Some key) ≡ false → (packet : Named)
    → are_one (key_of packet) (Some other) ≡ true → told key packet ≡ 0
not_told key other apart packet e =
    by_test (λ (n : ℕ). n ≡ 0) (are_one (key_of packet) (Some key)) (edge_of packet) 0
    (λ f. absurd (true≢false (sym (both (key_of packet) key other e f) ∙ apart))) (λ f. refl)

-- ---- packets that came

pub greatest_last : (key : Key) (log : List OnLeg) (one : OnLeg)
    → greatest_in key (log ++ one ∷ []) ≡ max (greatest_in key log) (told_in key one.1)
greatest_last key [] one = grind (arith, nat_tests)
greatest_last key (other ∷ log) one =
    let rest = greatest_last key log one in grind (arith, nat_tests, rest)

module _ (cookie : Cookie) where
  -- how many began a channel
  abbrev pub began : List OnLeg → ℕ
  began came = often (begins_out cookie) OutServer came

  pub began_next : (one : OnLeg) (came : List OnLeg)
      → began (one ∷ came) ≡ one_if (begins_on cookie one) + began came
  began_next (leg, Text bytes) came = by (is_of OutServer leg)
    where
      all : List Message
      all = of_kind OutServer came

      by : (c : Bool) → count_of (begins_out cookie) (if c then Text bytes ∷ all else all)
          ≡ 0 + count_of (begins_out cookie) all
      by true = omega arith
      by false = omega arith
  began_next (leg, Pdu pdu) came = by (is_of OutServer leg)
    where
      all : List Message
      all = of_kind OutServer came

      by : (c : Bool) → count_of (begins_out cookie) (if c then Pdu pdu ∷ all else all)
          ≡ 0 + count_of (begins_out cookie) all
      by true = omega arith
      by false = omega arith
  began_next (leg, Packet m) came = by (is_of OutServer leg) (begins_out cookie m) refl
    where
      all : List Message
      all = of_kind OutServer came

      n : ℕ
      n = count_of (begins_out cookie) all

      by : (c b : Bool) → begins_out cookie m ≡ b
          → count_of (begins_out cookie) (if c then Packet m ∷ all else all)
          ≡ one_if (c && b) + count_of (begins_out cookie) all
      by true true e =
          let is = ap {B = ℕ} (λ (t : Bool). if t then suc n else n) e in omega (arith, is)
      by true false e =
          let is = ap {B = ℕ} (λ (t : Bool). if t then suc n else n) e in omega (arith, is)
      by false b e = omega arith

  pub began_last : (came : List OnLeg) (one : OnLeg)
      → began (came ++ one ∷ []) ≡ began came + one_if (begins_on cookie one)
  began_last came one =
      let more = often_more (begins_out cookie) OutServer came one in
      let last = began_next one [] in omega (arith, more, last)

  -- before it began nothing came since
  pub since_none : (came : List OnLeg) → began came ≡ 0 → since cookie came ≡ []
  since_none [] none = refl
  since_none (one ∷ came) none =
      let all = began_next one came in
      by_test (λ (xs : List OnLeg). xs ≡ []) (begins_on cookie one) came (since cookie came)
      (λ e. let is = ap one_if e in absurd (omega (arith, all, none, is)))
      (λ e. since_none came (omega (arith, all, none)))

  pub since_last : (key : Key) (came : List OnLeg) (one : OnLeg)
      → greatest_in key (since cookie (came ++ one ∷ []))
      ≤ max (greatest_in key (since cookie came)) (told_in key one.1)
  since_last key [] one =
      by_test (λ (xs : List OnLeg).
      greatest_in key xs ≤ max (greatest_in key []) (told_in key one.1)) (begins_on cookie one) []
      [] (λ e. omega arith) (λ e. omega arith)
  since_last key (other ∷ came) one = by (begins_on cookie other) (since_last key came one)
    where
      by : (b : Bool)
          → greatest_in key (since cookie (came ++ one ∷ []))
          ≤ max (greatest_in key (since cookie came)) (told_in key one.1)
          → greatest_in key
          (if b then came ++ one ∷ [] else since cookie (came ++ one ∷ []))
          ≤ max (greatest_in key (if b then came else since cookie came)) (told_in key one.1)
      by true rest = let last = greatest_last key came one in omega (arith, last)
      by false rest = rest
