-- logs and their legs, and what is read of messages
use Rattle.law_order.proofs.Vocabulary.{◌≡◌, ◌⊎◌, ℕ, zero, suc, ◌+◌, ◌≤◌, Bool, true, false, if◌then◌else◌, List, [], ◌∷◌, ◌++◌, inl, inr, arith, refl, sym, ap, ◌∙◌, subst, nat_tests, AllByRecursion, IsPrefix}
use Rattle.law_moves.proofs.Vocabulary.{Named, Ping, Leg, LegKind, is_ping, Message, Text, Pdu, Packet, is_of, same_leg, OnLeg, of_leg, all_read_of, count_of, of_kind, Has}
use Rattle.law_moves.proofs.Lemmas.{count_append, leg_is, of_append as leg_append}
use Rattle.law_node_history.proofs.Vocabulary.{leg_at}

-- ---- a log in two parts

pub all_front : {X : Type 0} (P : X → Type 0) (a b : List X) → AllByRecursion P (a ++ b)
    → AllByRecursion P a
all_front P [] b all = tt
all_front P (x ∷ a) b all = (all.0, all_front P a b all.1)

pub all_behind : {X : Type 0} (P : X → Type 0) (a b : List X) → AllByRecursion P (a ++ b)
    → AllByRecursion P b
all_behind P [] b all = all
all_behind P (x ∷ a) b all = all_behind P a b all.1

-- ---- the legs of a kind

module _ (P : Message → Type 0) where
  abbrev Each : List Message → Type 0
  Each ms = AllByRecursion P ms

  pub leg_of_kind : (kind : LegKind) (n : ℕ) (log : List OnLeg) → Each (of_kind kind log)
      → Each (of_leg (leg_at kind n) log)
  leg_of_kind kind n [] all = tt
  leg_of_kind kind n (one ∷ log) all =
      by (is_of kind one.0) (same_leg one.0 (leg_at kind n)) refl refl (leg_of_kind kind n log) all
    where
      by : (k l : Bool) → is_of kind one.0 ≡ k → same_leg one.0 (leg_at kind n) ≡ l
          → (Each (of_kind kind log) → Each (of_leg (leg_at kind n) log))
          → Each (if k then one.1 ∷ of_kind kind log else of_kind kind log)
          → Each (if l then one.1 ∷ of_leg (leg_at kind n) log else of_leg (leg_at kind n) log)
      by true true e f rest more = (more.0, rest more.1)
      by true false e f rest more = rest more.1
      by false false e f rest more = rest more
      by false true e f rest more = absurd (grind (arith, nat_tests, e, f))

  less : (leg : Leg) (one : OnLeg) (log : List OnLeg) → Each (of_leg leg (one ∷ log))
      → Each (of_leg leg log)
  less leg one log all = by (same_leg one.0 leg) all
    where
      by : (t : Bool) → Each (if t then one.1 ∷ of_leg leg log else of_leg leg log)
          → Each (of_leg leg log)
      by true more = more.1
      by false more = more

  pub kind_by_legs : (kind : LegKind) (log : List OnLeg)
      → ((n : ℕ) → Each (of_leg (leg_at kind n) log)) → Each (of_kind kind log)
  kind_by_legs kind [] each = tt
  kind_by_legs kind (one ∷ log) each =
      by (is_of kind one.0) refl
      (kind_by_legs kind log (λ n. less (leg_at kind n) one log (each n)))
    where
      here : same_leg one.0 (leg_at kind one.0.number) ≡ true → P one.1
      here e =
          (subst (λ (t : Bool). Each (if t then one.1 ∷ of_leg (leg_at kind one.0.number) log
          else of_leg (leg_at kind one.0.number) log)) e (each one.0.number)).0

      by : (k : Bool) → is_of kind one.0 ≡ k → Each (of_kind kind log)
          → Each (if k then one.1 ∷ of_kind kind log else of_kind kind log)
      by true e rest = (here (grind (arith, nat_tests, e)), rest)
      by false e rest = rest

  abbrev pub Of : OnLeg → Type 0
  Of one = P one.1

  pub log_by_legs : (log : List OnLeg) → ((leg : Leg) → Each (of_leg leg log))
      → AllByRecursion Of log
  log_by_legs [] each = tt
  log_by_legs (one ∷ log) each = (
    here (grind (arith, nat_tests)),
    log_by_legs log (λ leg. less leg one log (each leg)),
  )
    where
      here : same_leg one.0 one.0 ≡ true → P one.1
      here e =
          (subst (λ (t : Bool). Each (if t then one.1 ∷ of_leg one.0 log else of_leg one.0 log)) e
          (each one.0)).0

  pub leg_of_log : (leg : Leg) (log : List OnLeg) → AllByRecursion Of log → Each (of_leg leg log)
  leg_of_log leg [] all = tt
  leg_of_log leg (one ∷ log) all = by (same_leg one.0 leg) (leg_of_log leg log all.1)
    where
      by : (t : Bool) → Each (of_leg leg log)
          → Each (if t then one.1 ∷ of_leg leg log else of_leg leg log)
      by true rest = (all.0, rest)
      by false rest = rest

  -- what is read of messages
  pub read_each : (ms : List Message) → Each ms → Each (all_read_of ms)
  read_each [] all = tt
  read_each (Text bytes ∷ ms) all = read_each ms all.1
  read_each (Pdu pdu ∷ ms) all = (all.0, read_each ms all.1)
  read_each (Packet named ∷ ms) all = by (is_ping named) (read_each ms all.1)
    where
      by : (t : Bool) → Each (all_read_of ms)
          → Each ((if t then [] else Packet named ∷ []) ++ all_read_of ms)
      by true rest = rest
      by false rest = (all.0, rest)

  pub front_each : (came put : List Message) → IsPrefix came (all_read_of put) → Each put
      → Each came
  front_each came put front all =
      all_front P came front.0 (subst Each (sym front.1) (read_each put all))

-- ---- counts

module _ (test : Named → Bool) where
  abbrev count : List Message → ℕ
  count ms = count_of test ms

  head_counts : (m : Message) (ms : List Message) → count (m ∷ ms) ≡ count (m ∷ []) + count ms
  head_counts m ms = count_append test (m ∷ []) ms

  pub leg_counts : (kind : LegKind) (n : ℕ) (log : List OnLeg)
      → count (of_leg (leg_at kind n) log) ≤ count (of_kind kind log)
  leg_counts kind n [] = omega arith
  leg_counts kind n (one ∷ log) =
      by (is_of kind one.0) (same_leg one.0 (leg_at kind n)) refl refl (leg_counts kind n log)
    where
      by : (k l : Bool) → is_of kind one.0 ≡ k → same_leg one.0 (leg_at kind n) ≡ l
          → count (of_leg (leg_at kind n) log) ≤ count (of_kind kind log)
          → count (if l then one.1 ∷ of_leg (leg_at kind n) log else of_leg (leg_at kind n) log)
          ≤ count (if k then one.1 ∷ of_kind kind log else of_kind kind log)
      by true true e f rest =
          let a = head_counts one.1 (of_leg (leg_at kind n) log) in
          let b = head_counts one.1 (of_kind kind log) in
          omega (arith, a, b, rest)
      by true false e f rest =
          let b = head_counts one.1 (of_kind kind log) in omega (arith, b, rest)
      by false false e f rest = rest
      by false true e f rest = absurd (grind (arith, nat_tests, e, f))

  -- where one is on the legs of a kind, it is on one of them
  pub some_leg : (kind : LegKind) (log : List OnLeg) → 1 ≤ count (of_kind kind log)
      → (n : ℕ) × (1 ≤ count (of_leg (leg_at kind n) log))
  some_leg kind [] some = absurd (omega (arith, some))
  some_leg kind (one ∷ log) some = by (is_of kind one.0) refl (some_leg kind log) some
    where
      longer : (n : ℕ) → 1 ≤ count (of_leg (leg_at kind n) log)
          → 1 ≤ count (of_leg (leg_at kind n) (one ∷ log))
      longer n more = on (same_leg one.0 (leg_at kind n))
        where
          on : (t : Bool)
              → 1 ≤ count (if t then one.1 ∷ of_leg (leg_at kind n) log
              else of_leg (leg_at kind n) log)
          on true =
              let a = head_counts one.1 (of_leg (leg_at kind n) log) in omega (arith, a, more)
          on false = more

      on_longer : (n : ℕ) × (1 ≤ count (of_leg (leg_at kind n) log))
          → (n : ℕ) × (1 ≤ count (of_leg (leg_at kind n) (one ∷ log)))
      on_longer found = (found.0, longer found.0 found.1)

      here : same_leg one.0 (leg_at kind one.0.number) ≡ true → 1 ≤ count (one.1 ∷ [])
          → 1 ≤ count (of_leg (leg_at kind one.0.number) (one ∷ log))
      here e counts =
          subst (λ (t : Bool). 1 ≤ count (if t then one.1 ∷ of_leg (leg_at kind one.0.number) log
          else of_leg (leg_at kind one.0.number) log)) (sym e)
          (let a = head_counts one.1 (of_leg (leg_at kind one.0.number) log) in
          omega (arith, a, counts))

      of_one : (c : ℕ) → count (one.1 ∷ []) ≡ c → same_leg one.0 (leg_at kind one.0.number) ≡ true
          → (1 ≤ count (of_kind kind log) → (n : ℕ) × (1 ≤ count (of_leg (leg_at kind n) log)))
          → 1 ≤ count (one.1 ∷ of_kind kind log)
          → (n : ℕ) × (1 ≤ count (of_leg (leg_at kind n) (one ∷ log)))
      of_one zero none e rest more =
          on_longer (rest
          (let a = head_counts one.1 (of_kind kind log) in omega (arith, a, none, more)))
      of_one (suc c) is e rest more = (one.0.number, here e (omega (arith, is)))

      by : (k : Bool) → is_of kind one.0 ≡ k
          → (1 ≤ count (of_kind kind log) → (n : ℕ) × (1 ≤ count (of_leg (leg_at kind n) log)))
          → 1 ≤ count (if k then one.1 ∷ of_kind kind log else of_kind kind log)
          → (n : ℕ) × (1 ≤ count (of_leg (leg_at kind n) (one ∷ log)))
      by true e rest more =
          of_one (count (one.1 ∷ [])) refl (grind (arith, nat_tests, e)) rest more
      by false e rest more = on_longer (rest more)

  -- of what is read only Pings are lost
  pub read_all_count : test Ping ≡ false → (ms : List Message) → count (all_read_of ms) ≡ count ms
  read_all_count other [] = refl
  read_all_count other (Text bytes ∷ ms) = read_all_count other ms
  read_all_count other (Pdu pdu ∷ ms) = read_all_count other ms
  read_all_count other (Packet Ping ∷ ms) =
      read_all_count other ms
      ∙ sym (ap (λ (t : Bool). if t then suc (count ms) else count ms) other)
  read_all_count other (Packet named ∷ ms) =
      ap (λ (n : ℕ). if test named then suc n else n) (read_all_count other ms)

-- ---- a message in a log

pub record Found (leg : Leg) (log : List OnLeg) (test : Named → Bool) : Type 0 where
  pub before : List OnLeg
  pub named : Named
  pub behind : List OnLeg
  pub is : log ≡ before ++ (leg, Packet named) ∷ behind
  pub passes : test named ≡ true

module _ (leg : Leg) (test : Named → Bool) where
  one_before : (one : OnLeg) (log : List OnLeg) → Found leg log test → Found leg (one ∷ log) test
  one_before one log found = record {
    before = one ∷ found.before;
    named = found.named;
    behind = found.behind;
    is = ap (λ (l : List OnLeg). one ∷ l) found.is;
    passes = found.passes;
  }

  pub find : (log : List OnLeg) → 1 ≤ count_of test (of_leg leg log) → Found leg log test
  find [] some = absurd (omega (arith, some))
  find ((other, m) ∷ log) some = by (same_leg other leg) refl m (find log) some
    where
      first : (named : Named) (t : Bool) → test named ≡ t → other ≡ leg
          → (1 ≤ count_of test (of_leg leg log) → Found leg log test)
          → 1 ≤ (if t then suc (count_of test (of_leg leg log)) else count_of test (of_leg leg log))
          → Found leg ((other, Packet named) ∷ log) test
      first named true passes is rest more = record {
        before = [];
        named = named;
        behind = log;
        is = ap (λ (l : Leg). (l, Packet named) ∷ log) is;
        passes = passes;
      }
      first named false fails is rest more =
          one_before (other, Packet named) log (rest more)

      by : (t : Bool) → same_leg other leg ≡ t → (x : Message)
          → (1 ≤ count_of test (of_leg leg log) → Found leg log test)
          → 1 ≤ count_of test (if t then x ∷ of_leg leg log else of_leg leg log)
          → Found leg ((other, x) ∷ log) test
      by true e (Text bytes) rest more = one_before (other, Text bytes) log (rest more)
      by true e (Pdu pdu) rest more = one_before (other, Pdu pdu) log (rest more)
      by true e (Packet named) rest more =
          first named (test named) refl (leg_is other leg e) rest more
      by false e x rest more = one_before (other, x) log (rest more)

-- a packet among messages
pub record Part (ms : List Message) (test : Named → Bool) : Type 0 where
  pub before : List Message
  pub named : Named
  pub behind : List Message
  pub is : ms ≡ before ++ Packet named ∷ behind
  pub passes : test named ≡ true

module _ (test : Named → Bool) where
  part_behind : (m : Message) (ms : List Message) → Part ms test → Part (m ∷ ms) test
  part_behind m ms part = record {
    before = m ∷ part.before;
    named = part.named;
    behind = part.behind;
    is = ap (λ (l : List Message). m ∷ l) part.is;
    passes = part.passes;
  }

  pub part : (ms : List Message) → 1 ≤ count_of test ms → Part ms test
  part [] some = absurd (omega (arith, some))
  part (Text bytes ∷ ms) some = part_behind (Text bytes) ms (part ms some)
  part (Pdu pdu ∷ ms) some = part_behind (Pdu pdu) ms (part ms some)
  part (Packet named ∷ ms) some = by (test named) refl (part ms) some
    where
      by : (t : Bool) → test named ≡ t → (1 ≤ count_of test ms → Part ms test)
          → 1 ≤ (if t then suc (count_of test ms) else count_of test ms)
          → Part (Packet named ∷ ms) test
      by true passes rest more =
          record { before = []; named = named; behind = ms; is = refl; passes = passes }
      by false fails rest more = part_behind (Packet named) ms (rest more)

-- the next of what is read of a leg, and what was put before it
pub record Split (leg : Leg) (log : List OnLeg) (came : List Message) (m : Message)
    : Type 0 where
  pub before : List OnLeg
  pub behind : List OnLeg
  pub is : log ≡ before ++ (leg, m) ∷ behind
  pub came_before : all_read_of (of_leg leg before) ≡ came

module _ (leg : Leg) (m : Message) where
  -- what is read of a message more at the front
  abbrev Reads : Leg → Message → List Message → Type 0
  Reads other x reads =
      (log : List OnLeg)
      → all_read_of (of_leg leg ((other, x) ∷ log)) ≡ reads ++ all_read_of (of_leg leg log)

  longer : (other : Leg) (x : Message) (reads : List Message) (log : List OnLeg)
      (came : List Message) → Reads other x reads → Split leg log came m
      → Split leg ((other, x) ∷ log) (reads ++ came) m
  longer other x reads log came so split = record {
    before = (other, x) ∷ split.before;
    behind = split.behind;
    is = ap (λ (l : List OnLeg). (other, x) ∷ l) split.is;
    came_before = so split.before ∙ ap (λ (ms : List Message). reads ++ ms) split.came_before;
  }

  passed_over : (other : Leg) (x : Message) → same_leg other leg ≡ false → Reads other x []
  passed_over other x e log =
      ap (λ (t : Bool). all_read_of (if t then x ∷ of_leg leg log else of_leg leg log)) e

  read_here : (other : Leg) (x : Message) → same_leg other leg ≡ true
      → Reads other x (all_read_of (x ∷ []))
  read_here other x e log =
      ap (λ (t : Bool). all_read_of (if t then x ∷ of_leg leg log else of_leg leg log)) e
      ∙ one x
    where
      one : (y : Message) → all_read_of (y ∷ of_leg leg log)
          ≡ all_read_of (y ∷ []) ++ all_read_of (of_leg leg log)
      one (Text bytes) = refl
      one (Pdu pdu) = refl
      one (Packet named) = by (is_ping named)
        where
          by : (t : Bool) → (if t then [] else Packet named ∷ []) ++ all_read_of (of_leg leg log)
              ≡ ((if t then [] else Packet named ∷ []) ++ []) ++ all_read_of (of_leg leg log)
          by true = refl
          by false = refl

  pub split : (log : List OnLeg) (came rest : List Message)
      → all_read_of (of_leg leg log) ≡ came ++ m ∷ rest → Split leg log came m
  split [] [] rest e = absurd cc
  split [] (c ∷ came) rest e = absurd cc
  split ((other, x) ∷ log) came rest e = by (same_leg other leg) refl (λ c. split log c rest)
    where
      first : other ≡ leg → x ≡ m → Split leg ((other, x) ∷ log) [] m
      first at_leg is = record {
        before = [];
        behind = log;
        is = ap (λ (l : Leg). (l, x) ∷ log) at_leg ∙ ap (λ (y : Message). (leg, y) ∷ log) is;
        came_before = refl;
      }

      over : ((c : List Message) → all_read_of (of_leg leg log) ≡ c ++ m ∷ rest
          → Split leg log c m) → Reads other x [] → Split leg ((other, x) ∷ log) came m
      over next so = longer other x [] log came so (next came (sym (so log) ∙ e))

      taken : ((c : List Message) → all_read_of (of_leg leg log) ≡ c ++ m ∷ rest
          → Split leg log c m) → (before : List Message) → other ≡ leg → Reads other x (x ∷ [])
          → x ∷ all_read_of (of_leg leg log) ≡ before ++ m ∷ rest
          → Split leg ((other, x) ∷ log) before m
      taken next [] at_leg so f = first at_leg (let same : x ≡ m = cc in same)
      taken next (c ∷ before) at_leg so f =
          let head : x ≡ c = cc in
          let tail : all_read_of (of_leg leg log) ≡ before ++ m ∷ rest = cc in
          subst (λ (y : Message). Split leg ((other, x) ∷ log) (y ∷ before) m) head
          (longer other x (x ∷ []) log before so (next before tail))

      here : ((c : List Message) → all_read_of (of_leg leg log) ≡ c ++ m ∷ rest
          → Split leg log c m) → same_leg other leg ≡ true
          → (all_read_of (x ∷ []) ≡ []) ⊎ (all_read_of (x ∷ []) ≡ x ∷ [])
          → Split leg ((other, x) ∷ log) came m
      here next g (inl none) = over next (subst (Reads other x) none (read_here other x g))
      here next g (inr one) =
          let so = subst (Reads other x) one (read_here other x g) in
          taken next came (leg_is other leg g) so (sym (so log) ∙ e)

      read_is : (y : Message) → (all_read_of (y ∷ []) ≡ []) ⊎ (all_read_of (y ∷ []) ≡ y ∷ [])
      read_is (Text bytes) = inl refl
      read_is (Pdu pdu) = inr refl
      read_is (Packet named) = ping (is_ping named)
        where
          ping : (p : Bool) → ((if p then [] else Packet named ∷ []) ++ [] ≡ [])
              ⊎ ((if p then [] else Packet named ∷ []) ++ [] ≡ Packet named ∷ [])
          ping true = inl refl
          ping false = inr refl

      by : (t : Bool) → same_leg other leg ≡ t
          → ((c : List Message) → all_read_of (of_leg leg log) ≡ c ++ m ∷ rest
          → Split leg log c m) → Split leg ((other, x) ∷ log) came m
      by false g next = over next (passed_over other x g)
      by true g next = here next g (read_is x)

-- a message in the middle of a log is on its leg
pub here_in : (leg : Leg) (before : List OnLeg) (m : Message) (behind : List OnLeg)
    → of_leg leg (before ++ (leg, m) ∷ behind) ≡ of_leg leg before ++ m ∷ of_leg leg behind
here_in leg before m behind =
    leg_append leg before ((leg, m) ∷ behind)
    ∙ ap (λ (t : Bool).
    of_leg leg before ++ (if t then m ∷ of_leg leg behind else of_leg leg behind))
    (itself leg)
  where
    itself : (l : Leg) → same_leg l l ≡ true
    itself l = grind (arith, nat_tests)

pub has_in : (named : Named) (a b : List Message) → Has named (a ++ Packet named ∷ b)
has_in named [] b = inl refl
has_in named (m ∷ a) b = inr (has_in named a b)
