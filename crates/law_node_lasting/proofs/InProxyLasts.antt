-- when the work of an in proxy is over, by its logs
use Rattle.law_order.proofs.Vocabulary.{◌≡◌, ◌⊎◌, inl, inr, ◌<◌, ◌≤◌, ◌==◌, ◌&&◌, ◌||◌, ℕ, List, Bool, true, false, true≢false, not, nat_lt, arith, refl, sym, ◌∙◌, subst, cases_lt, and_parts, le-leb, ltb-true, AllByRecursion, Option, has_handover}
use Rattle.rh_inproxy.specs.Machine.{first_node, rooms}
use Rattle.law_moves.proofs.Vocabulary.{InR1B1, Pipe, Leg, Move, Passage, AreAllowed, started, all_moved, of_leg, Has, is_at_work, is_in_use, Event, after_events}
use Rattle.law_role_inproxy.proofs.Vocabulary.{Absent, Follows, Joined, Successor, TellsServer, Told, Up, InProxyConfig, InProxy, first, hands_over, has_come, is_done, is_succeeded, rules as proxy_rules, KeepsOrder, came_log, ci_leg, put_items, is_leg}
use Rattle.law_role_inproxy.proofs.Refusing.Keeps.{legs_are_known}
use Rattle.law_node_streams.specs.Streams.{Stream}
use Rattle.law_node_ends.specs.Passed.{AsksNoEcho, HeadsAre}
use Rattle.law_node_lasting.specs.Lasting.{IsLostUnhanded}
use Rattle.law_node_lasting.proofs.InProxyTold.{IsTold, over_why}

-- IN_R1/A6 was put, and IN_R1/B1 came
abbrev pub WasLetGo : ℕ → Passage InProxy → Type 0
WasLetGo number p =
    (has_handover (put_items p.put) ≡ true) × Has InR1B1 (of_leg (is_leg number) p.came)

pub over_by_logs : (config : InProxyConfig) (moves : List Move)
    → AreAllowed proxy_rules (started (first config)) moves
    → AllByRecursion (HeadsAre (AsksNoEcho true)) moves
    → (let p = all_moved proxy_rules (started (first config)) moves in
    KeepsOrder config.number p → is_at_work proxy_rules p.role ≡ false
    → WasLetGo config.number p ⊎ IsLostUnhanded p.role)
over_by_logs config moves may asks order over = by (over_why config moves may asks over)
  where
    p : Passage InProxy
    p = all_moved proxy_rules (started (first config)) moves

    by : IsTold p ⊎ IsLostUnhanded p.role → WasLetGo config.number p ⊎ IsLostUnhanded p.role
    by (inl t) =
        inl (
          sym order.handover_put ∙ t.passed,
          subst (λ (k : ℕ). Has InR1B1 (of_leg (is_leg k) p.came))
              (legs_are_known config moves).number t.told,
        )
    by (inr lost) = inr lost

module _ (config : InProxyConfig) (pipe : Leg → Option Pipe) (events : List Event)
    (stream : Stream proxy_rules (first config) rooms pipe events)
    (why : (let p = all_moved proxy_rules (started (first config)) stream.leads.moves in
    is_at_work proxy_rules p.role ≡ false → WasLetGo config.number p ⊎ IsLostUnhanded p.role))
    (handed : (let s = (after_events proxy_rules (first_node config) events).role in
    s.newest_lost ≡ true → has_come s.handover ≡ true)) where
  pub let_go : is_at_work proxy_rules (after_events proxy_rules (first_node config) events).role
      ≡ false → WasLetGo config.number stream.passage
  let_go over =
      by (subst (λ (p : Passage InProxy). is_at_work proxy_rules p.role ≡ false
      → WasLetGo config.number p ⊎ IsLostUnhanded p.role) stream.leads.reached why
      (subst (λ (s : InProxy). is_at_work proxy_rules s ≡ false) (sym stream.role) over))
    where
      by : WasLetGo config.number stream.passage ⊎ IsLostUnhanded stream.passage.role
          → WasLetGo config.number stream.passage
      by (inl told) = told
      by (inr lost) =
          absurd (true≢false (sym (subst (λ (s : InProxy). s.newest_lost ≡ true
          → has_come s.handover ≡ true) (sym stream.role) handed lost.0) ∙ lost.1))

-- ---- ci legs that it is done with

module _ (config : InProxyConfig) (p : Passage InProxy) (order : KeepsOrder config.number p)
    (n : ℕ) (from : config.number ≤ n) where
  abbrev c : ℕ
  c = p.role.current.number

  -- IN_R1/A5 came there, or it is behind the current one
  abbrev Came : Type 0
  Came = (has_handover (came_log p.came n) ≡ true) ⊎ (c < n)

  upto : hands_over p.role.successor p.role.handover ≡ true → Came
  upto finished = by (cases_lt n c)
    where
      here : (c < n) ⊎ (n ≤ c) → c ≤ n → Came
      here (inl above) least = inr above
      here (inr most) least =
          let same : c ≡ n = omega (arith, least, most) in
          inl (subst (λ (k : ℕ). has_handover (came_log p.came k) ≡ true) same
          (sym order.shelved.holds.finished ∙ finished))

      by : (n < c) ⊎ (c ≤ n) → Came
      by (inl less) = inl (order.shelved.past n less (le-leb config.number n from))
      by (inr least) = here (cases_lt c n) least

  succeeded : (z : Successor) → is_succeeded z ≡ true → hands_over z p.role.handover ≡ true
  succeeded Absent e = absurd (true≢false (sym e))
  succeeded (Up number) e = absurd (true≢false (sym e))
  succeeded (Joined leg (TellsServer behind)) e = absurd (true≢false (sym e))
  succeeded (Joined leg Told) e = absurd (true≢false (sym e))
  succeeded (Joined leg Follows) e = refl

  pub done_came : is_done p.role (ci_leg n) ≡ true → Came
  done_came done = by (nat_lt n c) refl done
    where
      by : (b : Bool) → nat_lt n c ≡ b → (b || ((n == c) && is_succeeded p.role.successor)) ≡ true
          → Came
      by true e f =
          inl (order.shelved.past n (ltb-true n c e) (le-leb config.number n from))
      by false e f =
          upto (succeeded p.role.successor
          (and_parts (n == c) (is_succeeded p.role.successor) f).1)

  pub over_came : has_handover (put_items p.put) ≡ true → Came
  over_came put = upto (order.handover_came (order.handover_put ∙ put)).0

module _ (config : InProxyConfig) (pipe : Leg → Option Pipe) (events : List Event)
    (stream : Stream proxy_rules (first config) rooms pipe events)
    (order : KeepsOrder config.number
    (all_moved proxy_rules (started (first config)) stream.leads.moves))
    (let_go : is_at_work proxy_rules
    (after_events proxy_rules (first_node config) events).role ≡ false
    → WasLetGo config.number stream.passage) (n : ℕ) (from : config.number ≤ n) where
  abbrev Handed : InProxy → Type 0
  Handed s = (has_handover (came_log stream.passage.came n) ≡ true) ⊎ (s.current.number < n)

  kept_order : KeepsOrder config.number stream.passage
  kept_order = subst (KeepsOrder config.number) stream.leads.reached order

  pub unused_came : is_in_use proxy_rules
      (after_events proxy_rules (first_node config) events).role (ci_leg n) ≡ false
      → Handed (after_events proxy_rules (first_node config) events).role
  unused_came unused =
      subst Handed stream.role
      (by (is_at_work proxy_rules stream.passage.role) refl
      (subst (λ (s : InProxy). is_in_use proxy_rules s (ci_leg n) ≡ false) (sym stream.role)
      unused))
    where
      undone : (b : Bool) → not b ≡ false → b ≡ true
      undone true e = refl
      undone false e = absurd (true≢false e)

      by : (b : Bool) → is_at_work proxy_rules stream.passage.role ≡ b
          → (b && not (is_done stream.passage.role (ci_leg n))) ≡ false
          → Handed stream.passage.role
      by true e f =
          done_came config stream.passage kept_order n from
          (undone (is_done stream.passage.role (ci_leg n)) f)
      by false e f =
          over_came config stream.passage kept_order n from
          (let_go (subst (λ (s : InProxy). is_at_work proxy_rules s ≡ false) stream.role e)).0
