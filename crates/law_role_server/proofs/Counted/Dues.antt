-- the packets that wait, and how many of a kind they are
use Rattle.law_order.proofs.Vocabulary.{◌≡◌, ◌⊎◌, inl, inr, subst, ◌==◌, ℕ, suc, ◌+◌, ◌||◌, ◌&&◌, Bool, true, false, true≢false, nat_lt, if◌then◌else◌, List, [], ◌∷◌, ◌++◌, Some, None, arith, refl, sym, ap, ◌∙◌, false≢true, and_parts, IfSome, find, AllByRecursion, list_any, Option}
use Rattle.rh_sig.specs.declared.named.Named.TheVariants as named
use Rattle.rh_shell.specs.Waiting.{is_of}
use Rattle.law_moves.proofs.Vocabulary.{by_test, same_number, Cookie, Named, each_push, Due, Own, Forwarded, Waiting, key_of, are_one, own, to_forward, takes, edge_of, better, merged, with_due, pushed, count, forwarded, without_first, taken}
use Rattle.law_role_server.proofs.Vocabulary.{Kind, is_ack, is_ack_of, is_kind, is_own, has, is_some, is_ack_to, is_conn_c1, waiting_of}

-- no packet passes both tests
abbrev pub Apart : (Named → Bool) → (Named → Bool) → Type 0
Apart one other = (packet : Named) → one packet ≡ true → other packet ≡ false

-- one by itself
abbrev pub one_waits : (Named → Bool) → Named → ℕ
one_waits test packet = if test packet then 1 else 0

pub alone_none : (test : Named → Bool) (packet : Named) → test packet ≡ false
    → one_waits test packet ≡ 0
alone_none test packet e = ap {B = ℕ} (λ (b : Bool). if b then 1 else 0) e

-- ---- one more, one less

pub push_waits : (test : Named → Bool) (dues : List Due) (due : Due)
    → waiting_of test (dues ++ due ∷ []) ≡ waiting_of test dues + one_waits test due.packet
push_waits test [] due = by (test due.packet)
  where
    by : (b : Bool) → (if b then suc 0 else 0) ≡ 0 + (if b then 1 else 0)
    by true = refl
    by false = refl
push_waits test (first ∷ dues) due = by (test first.packet) (push_waits test dues due)
  where
    by : (b : Bool)
        → waiting_of test (dues ++ due ∷ []) ≡ waiting_of test dues + one_waits test due.packet
        → (if b then suc (waiting_of test (dues ++ due ∷ []))
        else waiting_of test (dues ++ due ∷ []))
        ≡ (if b then suc (waiting_of test dues) else waiting_of test dues)
        + one_waits test due.packet
    by true rest = omega (arith, rest)
    by false rest = rest

-- behind the first that may go
abbrev pub Went : (Named → Bool) → List Due → List Due → Option Due → Type 0
Went test dues others None = waiting_of test others ≡ waiting_of test dues
Went test dues others (Some due) =
    waiting_of test others + one_waits test due.packet ≡ waiting_of test dues

pub first_goes : (test : Named → Bool) (may_go : Due → Bool) (dues : List Due)
    → Went test dues (without_first may_go dues) (find may_go dues)
first_goes test may_go [] = refl
first_goes test may_go (due ∷ dues) =
    by (may_go due) (find may_go dues) (first_goes test may_go dues)
  where
    here : (b : Bool) → waiting_of test dues + (if b then 1 else 0)
        ≡ (if b then suc (waiting_of test dues) else waiting_of test dues)
    here true = omega arith
    here false = omega arith

    later : (b : Bool) (x : Option Due) → Went test dues (without_first may_go dues) x
        → Went test (due ∷ dues) (due ∷ without_first may_go dues) x
    later b None rest = none (test due.packet) rest
      where
        none : (c : Bool) → waiting_of test (without_first may_go dues) ≡ waiting_of test dues
            → (if c then suc (waiting_of test (without_first may_go dues))
            else waiting_of test (without_first may_go dues))
            ≡ (if c then suc (waiting_of test dues) else waiting_of test dues)
        none true same = ap suc same
        none false same = same
    later b (Some found) rest = some (test due.packet) rest
      where
        some : (c : Bool)
            → waiting_of test (without_first may_go dues) + one_waits test found.packet
            ≡ waiting_of test dues
            → (if c then suc (waiting_of test (without_first may_go dues))
            else waiting_of test (without_first may_go dues)) + one_waits test found.packet
            ≡ (if c then suc (waiting_of test dues) else waiting_of test dues)
        some true same = omega (arith, same)
        some false same = same

    by : (b : Bool) (x : Option Due) → Went test dues (without_first may_go dues) x
        → Went test (due ∷ dues)
        (if b then dues else due ∷ without_first may_go dues) (if b then Some due else x)
    by true x rest = here (test due.packet)
    by false x rest = later false x rest

-- it may go
pub found_may : (may_go : Due → Bool) (dues : List Due)
    → IfSome (find may_go dues) (λ (due : Due). may_go due ≡ true)
found_may may_go [] = tt
found_may may_go (due ∷ dues) =
    by_test (λ o. IfSome o (λ (d : Due). may_go d ≡ true)) (may_go due) (Some due)
    (find may_go dues) (λ t. t) (λ t. found_may may_go dues)

-- ---- whose they are

-- the server's own, or an acknowledgement
abbrev pub HasOrigin : Due → Type 0
HasOrigin due = is_of Own due || is_ack due.packet ≡ true

abbrev pub HaveOrigins : List Due → Type 0
HaveOrigins dues = AllByRecursion HasOrigin dues

pub others_have : (may_go : Due → Bool) (dues : List Due) → HaveOrigins dues
    → HaveOrigins (without_first may_go dues)
others_have may_go [] all = tt
others_have may_go (due ∷ dues) all =
    by_test HaveOrigins (may_go due) dues (due ∷ without_first may_go dues) (λ t. all.1)
    (λ t. (all.0, others_have may_go dues all.1))

-- where none of a kind waits, none waits that passes a test of that kind
pub record IsOfKind (kind : Kind) (test : Named → Bool) : Type 0 where
  pub kinds : (packet : Named) → test packet ≡ true → is_kind kind packet ≡ true
  pub acks : Apart is_ack test

pub none_waits : (kind : Kind) (test : Named → Bool) → IsOfKind kind test → (dues : List Due)
    → HaveOrigins dues → is_some (find (is_own kind) dues) ≡ false → waiting_of test dues ≡ 0
none_waits kind test of [] all none = refl
none_waits kind test of (due ∷ dues) all none =
    by (is_of Own due) (test due.packet) refl all.0 (of.kinds due.packet)
    (of.acks due.packet) (none_waits kind test of dues all.1) none
  where
    Rest : Type 0
    Rest = is_some (find (is_own kind) dues) ≡ false → waiting_of test dues ≡ 0

    mine : (k t : Bool) → (t ≡ true → k ≡ true) → Rest
        → is_some (if k then Some due else find (is_own kind) dues) ≡ false
        → (if t then suc (waiting_of test dues) else waiting_of test dues) ≡ 0
    mine true t so rest e = absurd (true≢false e)
    mine false true so rest e = absurd (false≢true (so refl))
    mine false false so rest e = rest e

    by : (o t : Bool) → test due.packet ≡ t → o || is_ack due.packet ≡ true
        → (test due.packet ≡ true → is_kind kind due.packet ≡ true)
        → (is_ack due.packet ≡ true → test due.packet ≡ false) → Rest
        → is_some (if o && is_kind kind due.packet then Some due else find (is_own kind) dues)
        ≡ false
        → (if t then suc (waiting_of test dues) else waiting_of test dues) ≡ 0
    by true t is has kinds acks rest e =
        mine (is_kind kind due.packet) t (λ f. kinds (is ∙ f)) rest e
    by false true is has kinds acks rest e = absurd (true≢false (sym is ∙ acks has))
    by false false is has kinds acks rest e = rest e

-- and where none waits that passes a test, none of its kind does
pub none_found : (kind : Kind) (test : Named → Bool)
    → ((packet : Named) → is_kind kind packet ≡ true → test packet ≡ true) → (dues : List Due)
    → waiting_of test dues ≡ 0 → is_some (find (is_own kind) dues) ≡ false
none_found kind test all [] none = refl
none_found kind test all (due ∷ dues) none =
    by (is_own kind due) refl (all due.packet) none
    (none_found kind test all dues)
  where
    kind_is : (o k : Bool) → o && k ≡ true → k ≡ true
    kind_is true k e = e
    kind_is false k e = absurd (false≢true e)

    by : (k : Bool) → is_own kind due ≡ k
        → (is_kind kind due.packet ≡ true → test due.packet ≡ true)
        → (if test due.packet then suc (waiting_of test dues) else waiting_of test dues) ≡ 0
        → (waiting_of test dues ≡ 0 → is_some (find (is_own kind) dues) ≡ false)
        → is_some (if k then Some due else find (is_own kind) dues) ≡ false
    by true e is none rest =
        absurd (passed (test due.packet) (is (kind_is (is_of Own due) (is_kind kind due.packet) e))
        none)
      where
        passed : (u : Bool) → u ≡ true
            → (if u then suc (waiting_of test dues) else waiting_of test dues) ≡ 0 → ⊥
        passed true f g = absurd (omega (arith, g))
        passed false f g = false≢true f
    by false e is none rest = rest (less (test due.packet) none)
      where
        less : (u : Bool)
            → (if u then suc (waiting_of test dues) else waiting_of test dues) ≡ 0
            → waiting_of test dues ≡ 0
        less true g = absurd (omega (arith, g))
        less false g = g

-- ---- CONN/C1 is the first but for acknowledgements to out proxies

abbrev pub FirstIsC1 : List Due → Type 0
FirstIsC1 [] = ⊥
FirstIsC1 (due ∷ dues) = (is_conn_c1 due.packet ≡ true)
    ⊎ ((is_ack_to 3 due.packet ≡ true) × FirstIsC1 dues)

pub no_both : (packet : Named) → is_conn_c1 packet ≡ true → is_ack packet ≡ true → ⊥
no_both (named.ConnC1 a b c) e f = false≢true f
no_both packet e f = false≢true e

first_push : (dues : List Due) (due : Due) → FirstIsC1 dues → FirstIsC1 (dues ++ due ∷ [])
first_push [] due is = absurd is
first_push (first ∷ dues) due (inl c1) = inl c1
first_push (first ∷ dues) due (inr is) = inr (is.0, first_push dues due is.1)

first_behind : (due : Due) (dues new : List Due) → (FirstIsC1 dues → FirstIsC1 new)
    → FirstIsC1 (due ∷ dues) → FirstIsC1 (due ∷ new)
first_behind due dues new rest (inl c1) = inl c1
first_behind due dues new rest (inr is) = inr (is.0, rest is.1)

pub first_left : (may_go : Due → Bool)
    → ((due : Due) → is_conn_c1 due.packet ≡ true → may_go due ≡ false) → (dues : List Due)
    → FirstIsC1 dues → FirstIsC1 (without_first may_go dues)
first_left may_go stays [] is = absurd is
first_left may_go stays (due ∷ dues) (inl c1) =
    by_test FirstIsC1 (may_go due) dues (due ∷ without_first may_go dues)
    (λ t. absurd (true≢false (sym t ∙ stays due c1))) (λ t. inl c1)
first_left may_go stays (due ∷ dues) (inr is) =
    by_test FirstIsC1 (may_go due) dues (due ∷ without_first may_go dues) (λ t. is.1)
    (λ t. inr (is.0, first_left may_go stays dues is.1))

-- where CONN/C1 may go, it goes, or an acknowledgement to an out proxy
abbrev pub C1Goes : Option Due → List Due → Type 0
C1Goes None left = ⊥
C1Goes (Some due) left = (is_conn_c1 due.packet ≡ true)
    ⊎ ((is_ack_to 3 due.packet ≡ true) × FirstIsC1 left)

pub first_goes_c1 : (may_go : Due → Bool)
    → ((due : Due) → is_conn_c1 due.packet ≡ true → may_go due ≡ true) → (dues : List Due)
    → FirstIsC1 dues → C1Goes (find may_go dues) (without_first may_go dues)
first_goes_c1 may_go goes [] is = absurd is
first_goes_c1 may_go goes (due ∷ dues) is =
    by (may_go due) refl is (λ rest. first_goes_c1 may_go goes dues rest)
  where
    later : (x : Option Due) (left : List Due) → is_ack_to 3 due.packet ≡ true → C1Goes x left
        → C1Goes x (due ∷ left)
    later None left ack none = none
    later (Some found) left ack (inl c1) = inl c1
    later (Some found) left ack (inr rest) = inr (rest.0, inr (ack, rest.1))

    by : (b : Bool) → may_go due ≡ b → FirstIsC1 (due ∷ dues)
        → (FirstIsC1 dues → C1Goes (find may_go dues) (without_first may_go dues))
        → C1Goes (if b then Some due else find may_go dues)
        (if b then dues else due ∷ without_first may_go dues)
    by true e (inl c1) rest = inl c1
    by true e (inr ack) rest = inr ack
    by false e (inl c1) rest = absurd (true≢false (sym (goes due c1) ∙ e))
    by false e (inr ack) rest =
        later (find may_go dues) (without_first may_go dues) ack.0 (rest ack.1)

-- ---- what is added

-- packets of a kind may be added, or acknowledgements merged or dropped; all else stays
pub record Adds (kind : Named → Bool) (dues new : List Due) : Type 0 where
  pub counts : (test : Named → Bool) → Apart kind test
      → waiting_of test new ≡ waiting_of test dues
  pub origins : HaveOrigins dues → HaveOrigins new
  pub firsts : FirstIsC1 dues → FirstIsC1 new

pub adds_none : (kind : Named → Bool) (dues : List Due) → Adds kind dues dues
adds_none kind dues = record {
  counts = λ test apart. refl;
  origins = λ all. all;
  firsts = λ is. is;
}

pub adds_own : (kind : Named → Bool) (packet : Named) → kind packet ≡ true → (dues : List Due)
    → Adds kind dues (dues ++ own packet ∷ [])
adds_own kind packet is dues = record {
  counts = λ test apart.
      let none = alone_none test packet (apart packet is) in
      let more = push_waits test dues (own packet) in omega (arith, none, more);
  origins = λ all. each_push HasOrigin dues (own packet) all refl;
  firsts = first_push dues (own packet);
}

-- ---- acknowledgements

-- only an acknowledgement is merged with another
takes_acks : (packet : Named) (due : Due) → takes packet due ≡ true → is_ack due.packet ≡ true
takes_acks packet due e = by due.packet e
  where
    by : (p : Named) → takes packet (record { packet = p; origin = due.origin }) ≡ true
        → is_ack p ≡ true
    by (named.AckTo a b c d) f = refl
    by p f = absurd (false≢true f)

-- the one that is left is an acknowledgement, with the same origin
better_is : (packet : Named) (due : Due) → is_ack packet ≡ true → is_ack due.packet ≡ true
    → (is_ack (better due packet).packet ≡ true) × HasOrigin (better due packet)
better_is packet due is was =
    by_test (λ (d : Due). (is_ack d.packet ≡ true) × HasOrigin d)
    (nat_lt (edge_of packet) (edge_of due.packet)) due
    (record { packet = packet; origin = due.origin })
    (λ t. (was, has (is_of Own due) due.packet was))
    (λ t. (is, has (is_of Own due) packet is))
  where
    has : (o : Bool) (p : Named) → is_ack p ≡ true → o || is_ack p ≡ true
    has true p e = refl
    has false p e = e

-- both go to the same
same_to : (packet other : Named) → are_one (key_of other) (key_of packet) ≡ true
    → is_ack_to 3 other ≡ true → is_ack_to 3 packet ≡ true
same_to (named.AckTo a b c d) (named.AckTo i j k l) one is =
    let same = same_number i a (and_parts (i == a) _ one).0 in
    subst (λ (n : ℕ). n == 3 ≡ true) same is
same_to packet (named.AckTo i j k l) one is = absurd (false≢true one)
same_to packet other one is = absurd (false≢true is)

first_merged : (packet : Named) → is_ack packet ≡ true → (due : Due) (dues : List Due)
    → takes packet due ≡ true → FirstIsC1 (due ∷ dues)
    → FirstIsC1 (better due packet ∷ dues)
first_merged packet ack due dues takes_it (inl c1) =
    absurd (no_both due.packet c1 (takes_acks packet due takes_it))
first_merged packet ack due dues takes_it (inr is) =
    by_test (λ (d : Due). FirstIsC1 (d ∷ dues))
    (nat_lt (edge_of packet) (edge_of due.packet)) due
    (record { packet = packet; origin = due.origin }) (λ t. inr is)
    (λ t. inr (same_to packet due.packet takes_it is.0, is.1))

adds_merged : (packet : Named) → is_ack packet ≡ true → (dues : List Due)
    → Adds is_ack dues (merged dues packet)
adds_merged packet is [] = adds_none is_ack []
adds_merged packet is (due ∷ dues) =
    by_test (Adds is_ack (due ∷ dues)) (takes packet due) (better due packet ∷ dues)
    (due ∷ merged dues packet)
    (λ t.
    let was = takes_acks packet due t in
    let now = better_is packet due is was in record {
      counts = λ test apart.
          same test (test due.packet) (test (better due packet).packet) (apart due.packet was)
          (apart (better due packet).packet now.0);
      origins = λ all. (now.1, all.1);
      firsts = first_merged packet is due dues t;
    })
    (λ t.
    let rest = adds_merged packet is dues in record {
      counts = λ test apart. more test (test due.packet) (rest.counts test apart);
      origins = λ all. (all.0, rest.origins all.1);
      firsts = first_behind due dues (merged dues packet) rest.firsts;
    })
  where
    same : (test : Named → Bool) (a b : Bool) → a ≡ false → b ≡ false
        → (if b then suc (waiting_of test dues) else waiting_of test dues)
        ≡ (if a then suc (waiting_of test dues) else waiting_of test dues)
    same test true b e f = absurd (true≢false e)
    same test false true e f = absurd (true≢false f)
    same test false false e f = refl

    more : (test : Named → Bool) (a : Bool)
        → waiting_of test (merged dues packet) ≡ waiting_of test dues
        → (if a then suc (waiting_of test (merged dues packet))
        else waiting_of test (merged dues packet))
        ≡ (if a then suc (waiting_of test dues) else waiting_of test dues)
    more test true e = ap suc e
    more test false e = e

pub adds_forwarded : (packet : Named) → is_ack packet ≡ true → (w : Waiting)
    → Adds is_ack w.due (forwarded w packet).0.due
adds_forwarded packet is w =
    by_test Forwards (list_any (takes packet) w.due)
    (with_due w (merged w.due packet), true)
    (if nat_lt (count Forwarded w.due) w.room then (pushed w (to_forward packet), true)
    else (w, false))
    (λ t. adds_merged packet is w.due)
    (λ t. by_test Forwards (nat_lt (count Forwarded w.due) w.room)
    (pushed w (to_forward packet), true) (w, false)
    (λ u. record {
      counts = λ test apart.
          let none = alone_none test packet (apart packet is) in
          let more = push_waits test w.due (to_forward packet) in omega (arith, none, more);
      origins = λ all. each_push HasOrigin w.due (to_forward packet) all is;
      firsts = first_push w.due (to_forward packet);
    })
    (λ u. adds_none is_ack w.due))
  where
    Forwards : Waiting × Bool → Type 0
    Forwards x = Adds is_ack w.due x.0.due

-- the first of those for a channel is dropped
pub adds_dropped : (cookie : Cookie) (w : Waiting)
    → Adds is_ack w.due (taken (is_ack_of cookie) w).0.due
adds_dropped cookie w = record {
  counts = λ test apart.
      by test apart (find (is_ack_of cookie) w.due)
      (found_ack w.due) (first_goes test (is_ack_of cookie) w.due);
  origins = others_have (is_ack_of cookie) w.due;
  firsts = first_left (is_ack_of cookie)
      (λ due c1. no_ack due (is_ack_of cookie due) refl c1) w.due;
}
  where
    left : List Due
    left = without_first (is_ack_of cookie) w.due

    no_ack : (due : Due) (b : Bool) → is_ack_of cookie due ≡ b → is_conn_c1 due.packet ≡ true
        → is_ack_of cookie due ≡ false
    no_ack due false e c1 = e
    no_ack due true e c1 =
        absurd (no_both due.packet c1 (takes_acks (named.AckTo 3 0 0 cookie) due e))

    found_ack : (dues : List Due)
        → IfSome (find (is_ack_of cookie) dues) (λ (due : Due). is_ack due.packet ≡ true)
    found_ack [] = tt
    found_ack (due ∷ dues) =
        by_test (λ o. IfSome o (λ (d : Due). is_ack d.packet ≡ true)) (is_ack_of cookie due)
        (Some due) (find (is_ack_of cookie) dues)
        (λ t. takes_acks (named.AckTo 3 0 0 cookie) due t) (λ t. found_ack dues)

    by : (test : Named → Bool) → Apart is_ack test → (x : Option Due)
        → IfSome x (λ (due : Due). is_ack due.packet ≡ true) → Went test w.due left x
        → waiting_of test left ≡ waiting_of test w.due
    by test apart None is went = went
    by test apart (Some due) is went =
        let none = alone_none test due.packet (apart due.packet is) in
        omega (arith, none, went)
