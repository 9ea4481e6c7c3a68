-- where a mark passed on a leg, the node at which it ends goes on
use Rattle.law_order.proofs.Vocabulary.{◌≡◌, ◌⊎◌, inl, inr, ◌&&◌, ◌∙◌, if◌then◌else◌, ℕ, Bool, true, false, true≢false, not, List, [], refl, sym, ap, subst, Option, has_handover}
use Rattle.rh_shell.specs.declared.answers.Phase.TheVariants as phases
use Rattle.rh_inproxy.specs.Machine as in_proxy
use Rattle.rh_inproxy.specs.State as in_state
use Rattle.rh_outproxy.specs.Machine as out_proxy
use Rattle.rh_server.specs.Servers as server
use Rattle.rh_server.specs.Acknowledging.{out_server as os}
use Rattle.law_moves.proofs.Vocabulary.{nil_back, Pipe, Leg, Going, is_ended, Shell, begun, ended, spelled, EndPassage, Passage, started, all_moved, all_end_moved, end_started, of_leg, is_at_work, is_in_use, Event, EndEvent, after_events, after_end_events}
use Rattle.law_role_inproxy.proofs.Vocabulary.{InProxyConfig, InProxy, ci_leg}
use Rattle.law_role_inproxy.specs.Order as in_order
use Rattle.law_role_server.proofs.Vocabulary.{Server, sent}
use Rattle.law_role_outproxy.proofs.Vocabulary.{ROOMS, OutProxyConfig, OutProxy, is_over, is_server_down, new_proxy}
use Rattle.law_role_outproxy.specs.Order as out_order
use Rattle.law_node_streams.specs.Streams.{EndStream, Stream}
use Rattle.law_node_marks.specs.Losing.{DrewAll}
use Rattle.law_role_marks.specs.Marking.{OnlyMarks, has_passed}
use Rattle.law_node_marks.proofs.GoesOn.{goes_on}

-- ---- an out proxy

-- while it works it has use for each leg
out_used : (s : OutProxy) (leg : Leg) → is_at_work out_proxy.rules s ≡ true
    → is_in_use out_proxy.rules s leg ≡ true
out_used s leg work = by (is_over s) work
  where
    by : (b : Bool)
        → not (is_ended (if b then phases.Ended
        else (if is_server_down s.server then phases.Opening else phases.Open))) ≡ true
        → (not (is_ended (if b then phases.Ended
        else (if is_server_down s.server then phases.Opening else phases.Open))) && not b) ≡ true
    by true e = absurd (true≢false (sym e))
    by false e = ap (λ (t : Bool). t && true) e

module _ (config : OutProxyConfig) (pipe : Leg → Option Pipe) (events : List Event)
    (stream : Stream out_proxy.rules (new_proxy config) ROOMS pipe events)
    (law : (let p = all_moved out_proxy.rules (started (new_proxy config)) stream.leads.moves in
    has_passed (out_order.put_items config.number p.put) ≡ true
    → (leg : Leg) → OnlyMarks out_proxy.rules p.role leg)) where
  abbrev out_node : Shell OutProxy
  out_node = after_events out_proxy.rules (begun (new_proxy config) ROOMS) events

  out_marks : has_passed (out_order.put_items config.number stream.passage.put) ≡ true
      → (leg : Leg) → OnlyMarks out_proxy.rules stream.passage.role leg
  out_marks =
      subst (λ (p : Passage OutProxy). has_passed (out_order.put_items config.number p.put) ≡ true
      → (leg : Leg) → OnlyMarks out_proxy.rules p.role leg) stream.leads.reached law

  pub out_goes_on : has_passed (out_order.put_items config.number stream.passage.put) ≡ true
      → (leg : Leg) → (ended out_proxy.rules out_node leg).0.course ≡ out_node.course
  out_goes_on passed leg =
      goes_on out_proxy.rules out_node leg
      (λ work. inl (subst (λ (s : OutProxy). OnlyMarks out_proxy.rules s leg) stream.role
      (out_marks passed leg) (out_used out_node.role leg work)))

-- ---- a server

module _ (window : ℕ) (pipe : Leg → Option Pipe) (events : List EndEvent)
    (stream : EndStream server.rules server.acts (server.first window) server.rooms pipe events)
    (n : ℕ)
    (law : (let p = all_end_moved server.rules server.acts (end_started (server.first window))
    stream.leads.moves in has_handover (sent p n) ≡ true
    → server.rules.only_marks p.passage.role (os n) ≡ true)) where
  abbrev server_node : Shell Server
  server_node = after_end_events server.rules server.acts (server.new_server window) events

  server_marks : has_handover (sent stream.passage n) ≡ true
      → server.rules.only_marks stream.passage.passage.role (os n) ≡ true
  server_marks =
      subst (λ (p : EndPassage Server). has_handover (sent p n) ≡ true
      → server.rules.only_marks p.passage.role (os n) ≡ true) stream.leads.reached law

  pub server_goes_on : has_handover (sent stream.passage n) ≡ true
      → (ended server.rules server_node (os n)).0.course ≡ server_node.course
  server_goes_on handed =
      goes_on server.rules server_node (os n)
      (λ work. inl (subst (λ (s : Server). server.rules.only_marks s (os n) ≡ true) stream.role
      (server_marks handed)))

-- ---- an in proxy

module _ (config : InProxyConfig) (pipe : Leg → Option Pipe) (events : List Event)
    (stream : Stream in_proxy.rules (in_state.first config) in_proxy.rooms pipe events) (n : ℕ)
    (law : (let p = all_moved in_proxy.rules (started (in_state.first config)) stream.leads.moves
    in has_passed (in_order.came_log p.came n) ≡ true → OnlyMarks in_proxy.rules p.role (ci_leg n)))
    (unput : (let p = all_moved in_proxy.rules (started (in_state.first config)) stream.leads.moves
    in of_leg (ci_leg n) p.put ≡ [])) where
  abbrev in_node : Shell InProxy
  in_node = after_events in_proxy.rules (in_proxy.first_node config) events

  in_marks : has_passed (in_order.came_log stream.passage.came n) ≡ true
      → OnlyMarks in_proxy.rules in_node.role (ci_leg n)
  in_marks passed =
      subst (λ (s : InProxy). OnlyMarks in_proxy.rules s (ci_leg n)) stream.role
      (subst (λ (p : Passage InProxy). has_passed (in_order.came_log p.came n) ≡ true
      → OnlyMarks in_proxy.rules p.role (ci_leg n)) stream.leads.reached law passed)

  none_put : of_leg (ci_leg n) stream.passage.put ≡ []
  none_put =
      subst (λ (p : Passage InProxy). of_leg (ci_leg n) p.put ≡ []) stream.leads.reached unput

  drew : in_node.course ≡ Going → DrewAll in_node (ci_leg n)
  drew going end at =
      nil_back _ end.begun
      (sym (stream.seats (ci_leg n) end going at).spells ∙ ap spelled none_put)

  pub in_goes_on : in_node.course ≡ Going
      → has_passed (in_order.came_log stream.passage.came n) ≡ true
      → (ended in_proxy.rules in_node (ci_leg n)).0.course ≡ in_node.course
  in_goes_on going passed =
      goes_on in_proxy.rules in_node (ci_leg n)
      (λ work. by work (in_proxy.rules.is_done in_node.role (ci_leg n)) refl)
    where
      by : is_at_work in_proxy.rules in_node.role ≡ true → (t : Bool)
          → in_proxy.rules.is_done in_node.role (ci_leg n) ≡ t
          → (in_proxy.rules.only_marks in_node.role (ci_leg n) ≡ true)
          ⊎ ((in_proxy.rules.is_done in_node.role (ci_leg n) ≡ true)
          × DrewAll in_node (ci_leg n))
      by work true e = inr (e, drew going)
      by work false e = inl (in_marks passed (used work e))
        where
          used : is_at_work in_proxy.rules in_node.role ≡ true
              → in_proxy.rules.is_done in_node.role (ci_leg n) ≡ false
              → is_in_use in_proxy.rules in_node.role (ci_leg n) ≡ true
          used a b = rw (a, b) refl

-- ---- an in proxy that is done

module _ (config : InProxyConfig) (pipe : Leg → Option Pipe) (events : List Event)
    (stream : Stream in_proxy.rules (in_state.first config) in_proxy.rooms pipe events)
    (law : (let p = all_moved in_proxy.rules (started (in_state.first config)) stream.leads.moves
    in is_at_work in_proxy.rules p.role ≡ false)) (leg : Leg) where
  abbrev done_node : Shell InProxy
  done_node = after_events in_proxy.rules (in_proxy.first_node config) events

  pub done_goes_on : (ended in_proxy.rules done_node leg).0.course ≡ done_node.course
  done_goes_on =
      goes_on in_proxy.rules done_node leg
      (λ work. absurd (true≢false (sym work
      ∙ subst (λ (s : InProxy). is_at_work in_proxy.rules s ≡ false) stream.role
      (subst (λ (p : Passage InProxy). is_at_work in_proxy.rules p.role ≡ false)
      stream.leads.reached law))))
