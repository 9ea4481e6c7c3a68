-- how many of the packets that wait pass a test, with one more that is to be forwarded
use Rattle.law_order.proofs.Vocabulary.{◌≡◌, ◌+◌, ◌||◌, nat_lt, Bool, true, false, List, [], ◌∷◌, ◌++◌, Some, None, refl, ap, arith, list_any, is_some, Option}
use Rattle.law_moves.proofs.Vocabulary.{by_test, Named, AckTo, Due, Forwarded, one_if, Waiting, Key, key_of, are_one, better, edge_of, merged, takes, with_due, pushed, to_forward, count, forwarded}
use Rattle.law_moves.proofs.Lemmas.{IsNoAck}
use Rattle.law_role_edges.specs.Forwarding.{waiting_of}

both_are : (a b : Option Key) → are_one a b ≡ true → (is_some a ≡ true) × (is_some b ≡ true)
both_are (Some one) (Some other) e = (refl, refl)
both_are (Some one) None e = absurd cc
both_are None other e = absurd cc

module _ (test : Named → Bool) (none : IsNoAck test) where
  append_waits : (dues : List Due) (due : Due)
      → waiting_of test (dues ++ due ∷ []) ≡ waiting_of test dues + one_if (test due.packet)
  append_waits [] due = omega arith
  append_waits (first ∷ dues) due =
      let rest = append_waits dues due in omega (arith, rest)

  -- what is merged passes no test
  ack_is_none : (m : Named) → is_some (key_of m) ≡ true → test m ≡ false
  ack_is_none (AckTo to received available channel) e = none to received available channel
  ack_is_none m e = absurd cc

  taken_are_none : (m : Named) (due : Due) → takes m due ≡ true
      → (test due.packet ≡ false) × (test m ≡ false)
  taken_are_none m due e =
      let both = both_are (key_of due.packet) (key_of m) e in
      (ack_is_none due.packet both.0, ack_is_none m both.1)

  better_is_none : (due : Due) (m : Named) → takes m due ≡ true
      → one_if (test (better due m).packet) ≡ 0
  better_is_none due m e =
      let both = taken_are_none m due e in
      by_test (λ (d : Due). one_if (test d.packet) ≡ 0) (nat_lt (edge_of m) (edge_of due.packet))
      due (record { packet = m; origin = due.origin }) (λ f. ap one_if both.0)
      (λ f. ap one_if both.1)

  merged_waits : (dues : List Due) (m : Named)
      → waiting_of test (merged dues m) ≡ waiting_of test dues
  merged_waits [] m = refl
  merged_waits (due ∷ dues) m =
      by_test (λ (ds : List Due). waiting_of test ds
      ≡ one_if (test due.packet) + waiting_of test dues) (takes m due) (better due m ∷ dues)
      (due ∷ merged dues m)
      (λ e.
      let old = ap one_if (taken_are_none m due e).0 in
      let new = better_is_none due m e in omega (arith, old, new))
      (λ e. let rest = merged_waits dues m in omega (arith, rest))

  any_is_none : (dues : List Due) (m : Named) → list_any (takes m) dues ≡ true
      → test m ≡ false
  any_is_none [] m e = absurd cc
  any_is_none (due ∷ dues) m e = by (takes m due) refl e (any_is_none dues m)
    where
      by : (t : Bool) → takes m due ≡ t → t || list_any (takes m) dues ≡ true
          → (list_any (takes m) dues ≡ true → test m ≡ false) → test m ≡ false
      by true is f rest = (taken_are_none m due is).1
      by false is f rest = rest f

  -- where it waits one more passes, if it does
  abbrev pub WaitsBy : Waiting → Named → Waiting × Bool → Type 0
  WaitsBy w m (v, true) =
      waiting_of test v.due ≡ waiting_of test w.due + one_if (test m)
  WaitsBy w m (v, false) = waiting_of test v.due ≡ waiting_of test w.due

  pub forwarded_by : (w : Waiting) (m : Named) → WaitsBy w m (forwarded w m)
  forwarded_by w m =
      by_test (WaitsBy w m) (list_any (takes m) w.due) (with_due w (merged w.due m), true) _
      (λ e.
      let same = merged_waits w.due m in
      let quiet = ap one_if (any_is_none w.due m e) in omega (arith, same, quiet))
      (λ e. by_test (WaitsBy w m) (nat_lt (count Forwarded w.due) w.room)
      (pushed w (to_forward m), true) (w, false) (λ f. append_waits w.due (to_forward m))
      (λ f. refl))
