-- an in proxy may lose a ci leg for which it has no use, also while that is the newest one
use Rattle.law_order.proofs.Vocabulary.{◌≡◌, ◌⊎◌, inl, inr, ◌<◌, ◌==◌, ◌&&◌, ◌||◌, ◌∙◌, ℕ, List, Bool, true, false, true≢false, not, nat_lt, arith, refl, sym, ap, subst, ltb-true, Option, has_handover}
use Rattle.rh_inproxy.specs.Machine.{first_node, rooms}
use Rattle.law_moves.proofs.Vocabulary.{same_number, Pipe, Leg, Passage, started, all_moved, is_at_work, is_in_use, Event, after_events}
use Rattle.law_role_inproxy.proofs.Vocabulary.{Before, Came, Passed, InProxyConfig, InProxy, first, has_come, has_passed, is_done, is_newest, is_succeeded, rules as proxy_rules, KeepsOrder, came_log, ci_leg, put_items}
use Rattle.rh_inproxy.specs.declared.state.Handover.{Handover}
use Rattle.law_role_marks.specs.Marks.{marks_handed}
use Rattle.law_node_streams.specs.Streams.{Stream}

abbrev Agrees : InProxy → ℕ → Type 0
Agrees s n = marks_handed s (ci_leg n) ≡ proxy_rules.only_marks s (ci_leg n)

come : (h : Handover) → has_passed h ≡ true → has_come h ≡ true
come Before e = absurd (true≢false (sym e))
come (Came cookie) e = refl
come Passed e = refl

and_true : (t : Bool) → (t && true) ≡ t
and_true true = refl
and_true false = refl

all_same : (a b c : Bool) → c ≡ true → (a && (not b || c)) ≡ a
all_same a true true e = and_true a
all_same a false true e = and_true a
all_same a b false e = absurd (true≢false (sym e))

-- no leg behind the current one is done
not_done : (c n : ℕ) (x : Bool) → c < n → (nat_lt n c || ((n == c) && x)) ≡ true → ⊥
not_done c n x above = by (nat_lt n c) refl
  where
    same : (b : Bool) → n == c ≡ b → (b && x) ≡ true → ⊥
    same true e f = absurd (let is : n ≡ c = same_number n c e in omega (arith, above, is))
    same false e f = true≢false (sym f)

    by : (b : Bool) → nat_lt n c ≡ b → (b || ((n == c) && x)) ≡ true → ⊥
    by true e f = absurd (let less : n < c = ltb-true n c e in omega (arith, above, less))
    by false e f = same (n == c) refl f

unused_cases : (work done : Bool) → (work && not done) ≡ false
    → (work ≡ false) ⊎ (done ≡ true)
unused_cases true true e = inr refl
unused_cases true false e = absurd (true≢false e)
unused_cases false done e = inl refl

module _ (config : InProxyConfig) (pipe : Leg → Option Pipe) (events : List Event)
    (stream : Stream proxy_rules (first config) rooms pipe events)
    (order : KeepsOrder config.number
    (all_moved proxy_rules (started (first config)) stream.leads.moves))
    (may : (let p = all_moved proxy_rules (started (first config)) stream.leads.moves in (n : ℕ)
    → has_handover (came_log p.came n) ≡ true → Agrees p.role n))
    (let_go : is_at_work proxy_rules (after_events proxy_rules (first_node config) events).role
    ≡ false → has_handover (put_items stream.passage.put) ≡ true)
    (n : ℕ) where
  abbrev s : InProxy
  s = (after_events proxy_rules (first_node config) events).role

  handed_over : has_handover (came_log stream.passage.came n) ≡ true → Agrees s n
  handed_over came =
      subst (λ (r : InProxy). Agrees r n) stream.role
      (subst (λ (p : Passage InProxy). has_handover (came_log p.came n) ≡ true → Agrees p.role n)
      stream.leads.reached (may n) came)

  -- behind IN_R1/A6 it may lose any
  over : is_at_work proxy_rules s ≡ false → Agrees s n
  over stopped =
      all_same (proxy_rules.only_marks s (ci_leg n)) (is_newest s (ci_leg n)) (has_come s.handover)
      (come s.handover passed)
    where
      kept : KeepsOrder config.number stream.passage
      kept = subst (KeepsOrder config.number) stream.leads.reached order

      passed : has_passed s.handover ≡ true
      passed =
          ap (λ (r : InProxy). has_passed r.handover) (sym stream.role)
          ∙ kept.handover_put ∙ let_go stopped

  pub may_lose_unused : is_in_use proxy_rules s (ci_leg n) ≡ false
      → (has_handover (came_log stream.passage.came n) ≡ true) ⊎ (s.current.number < n)
      → Agrees s n
  may_lose_unused unused (inl came) = handed_over came
  may_lose_unused unused (inr above) =
      by (unused_cases (is_at_work proxy_rules s) (is_done s (ci_leg n)) unused)
    where
      by : (is_at_work proxy_rules s ≡ false) ⊎ (is_done s (ci_leg n) ≡ true) → Agrees s n
      by (inl stopped) = over stopped
      by (inr done) =
          absurd (not_done s.current.number n (is_succeeded s.successor) above done)
