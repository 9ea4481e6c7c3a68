-- where the end nearer the client has finished a leg, the node that loses it goes on
use Rattle.std.specs.List.{AllByRecursion}
use Rattle.rh_text.specs.declared.ends.Side.TheVariants as side
use Rattle.law_order.proofs.Vocabulary.{◌≡◌, ◌⊎◌, inl, inr, ◌<◌, ◌&&◌, ◌∙◌, if◌then◌else◌, ℕ, Bool, true, false, true≢false, not, List, [], ◌∷◌, refl, sym, ap, subst, Option, lt-ltb, IsRoute, Route, has_end, has_handover}
use Rattle.rh_shell.specs.declared.answers.Phase.TheVariants as phases
use Rattle.rh_inproxy.specs.Machine as in_proxy
use Rattle.rh_inproxy.specs.State as in_state
use Rattle.rh_outproxy.specs.Machine as out_proxy
use Rattle.rh_outproxy.specs.OutProxy.{is_over, is_server_down}
use Rattle.rh_server.specs.Servers as server
use Rattle.rh_server.specs.States.{is_put}
use Rattle.rh_window.specs.Sides.{IsWindow}
use Rattle.law_moves.proofs.Vocabulary.{neither, nil_back, spelled, Going, Leg, Pipe, Shell, ended, begun, Passage, Move, AreAllowed, all_moved, started, of_leg, is_at_work, is_ended, is_in_use, Event, ComesUp, Hears, Ends, Breaks, Draws, Ticks, EndEvent, after_events, after_end_events}
use Rattle.law_role_inproxy.proofs.Vocabulary.{InProxyConfig, InProxy}
use Rattle.law_role_inproxy.specs.Order as in_order
use Rattle.law_role_client.proofs.Vocabulary.{ClientRole, has_leg}
use Rattle.law_role_server.proofs.Vocabulary.{Server, got, sent}
use Rattle.law_node_history.proofs.Vocabulary.{reader_of, World, History}
use Rattle.law_role_outproxy.proofs.Vocabulary.{ROOMS, OutProxyConfig, OutProxy, new_proxy}
use Rattle.law_role_outproxy.specs.Order as out_order
use Rattle.law_role_marks.specs.Marking.{has_passed}
use Rattle.law_node_streams.specs.Streams.{EndStream, Stream}
use Rattle.law_node_ends.specs.Passed.{AsksNoEcho, HeadsAre}
use Rattle.law_node_begins.specs.ProxiesBegin.Pipes.{ci, co, in_pipe, is, os}
use Rattle.law_node_traces.proofs.Vocabulary.{rules}
use Rattle.law_peers_routes.specs.Downwards.{proxy_reads, server_reads}
use Rattle.law_node_marks.specs.Losing.{DrewAll, KeepsLeg, MayLose}
use Rattle.law_world_order.proofs.Vocabulary.{Numbers, down_route_of}
use Rattle.law_world_ways.specs.OnPaths.Lost.{is_loss_of, was_lost}
use Rattle.law_world_ways.specs.OnPaths.Ways.{AreOnTheirWay, in_node, out_node, server_node}
use Rattle.law_world_ways.specs.ExactPaths.GoingOn.{AllGoOn}
use Rattle.law_world_ways.specs.ExactPaths.Over.{HavePassed, IsOverUpwards}
use Rattle.law_world_marks.proofs.Marked.{either, handover_more, of_there, passed_more}
use Rattle.law_world_marks.specs.GoingOn.{GoOnWhereOver}

-- ---- the laws that this stands on

pub record MarksLaws : Type 0 where
  pub out_goes : (config : OutProxyConfig) (pipe : Leg → Option Pipe) (events : List Event)
      (stream : Stream out_proxy.rules (new_proxy config) ROOMS pipe events)
      → has_passed (out_order.put_items config.number stream.passage.put) ≡ true → (leg : Leg)
      → (let node = after_events out_proxy.rules (begun (new_proxy config) ROOMS) events in
      (ended out_proxy.rules node leg).0.course ≡ node.course)
  pub in_goes : (config : InProxyConfig) (pipe : Leg → Option Pipe) (events : List Event)
      (stream : Stream in_proxy.rules (in_state.first config) in_proxy.rooms pipe events)
      → AllByRecursion (HeadsAre (AsksNoEcho true)) stream.leads.moves → (n : ℕ)
      → has_passed (in_order.came_log stream.passage.came n) ≡ true
      → (let node = after_events in_proxy.rules (in_proxy.first_node config) events in
      node.course ≡ Going → (ended in_proxy.rules node (ci n)).0.course ≡ node.course)
  pub unput : (config : InProxyConfig) (moves : List Move)
      → AreAllowed in_proxy.rules (started (in_state.first config)) moves
      → AllByRecursion (HeadsAre (AsksNoEcho true)) moves → (n : ℕ)
      → of_leg (ci n) (all_moved in_proxy.rules (started (in_state.first config)) moves).put ≡ []
  pub may_lose : (node : Shell InProxy) (leg : Leg) → MayLose in_proxy.rules node leg
      → (ended in_proxy.rules node leg).0.course ≡ node.course
  pub kept : (config : OutProxyConfig) (pipe : Leg → Option Pipe) (events : List Event)
      (stream : Stream out_proxy.rules (new_proxy config) ROOMS pipe events)
      → AllByRecursion (HeadsAre (AsksNoEcho false)) stream.leads.moves
      → AllByRecursion (KeepsLeg (os config.number)) events
      → is_at_work out_proxy.rules
      (after_events out_proxy.rules (begun (new_proxy config) ROOMS) events).role ≡ false
      → (has_handover (out_order.put_items config.number stream.passage.put) ≡ true)
      × (has_handover (out_order.came_log stream.passage.came config.number) ≡ true)
  pub handed : (window : ℕ) (pipe : Leg → Option Pipe) (events : List EndEvent)
      (stream : EndStream server.rules server.acts (server.first window) server.rooms pipe events)
      (n : ℕ) → has_handover (sent stream.passage n) ≡ true
      → (let node = after_end_events server.rules server.acts (server.new_server window) events in
      (ended server.rules node (os n)).0.course ≡ node.course)
  pub was_handed : (window : ℕ) (pipe : Leg → Option Pipe) (events : List EndEvent)
      (stream : EndStream server.rules server.acts (server.first window) server.rooms pipe events)
      (n : ℕ) → has_handover (got stream.passage n) ≡ true
      → (let node = after_end_events server.rules server.acts (server.new_server window) events in
      (server.rules.is_done node.role (is n) ≡ true → DrewAll node (is n))
      → (ended server.rules node (is n)).0.course ≡ node.course)
  pub was_ended : (window : ℕ) → IsWindow window → (pipe : Leg → Option Pipe)
      (events : List EndEvent)
      (stream : EndStream server.rules server.acts (server.first window) server.rooms pipe events)
      (n : ℕ) → has_end (got stream.passage n) ≡ true
      → is_put stream.passage.passage.role.end_mark ≡ true
      → (let node = after_end_events server.rules server.acts (server.new_server window) events in
      (server.rules.is_done node.role (is n) ≡ true → DrewAll node (is n))
      → (ended server.rules node (is n)).0.course ≡ node.course)

-- ---- legs that are not lost

one_keeps : (leg : Leg) (event : Event) → is_loss_of leg event ≡ false → KeepsLeg leg event
one_keeps leg (Ends other) e = e
one_keeps leg (Breaks other) e = e
one_keeps leg (ComesUp other cookie) e = tt
one_keeps leg (Hears other piece) e = tt
one_keeps leg (Draws other room) e = tt
one_keeps leg (Ticks now) e = tt

all_keep : (leg : Leg) (events : List Event) → was_lost leg events ≡ false
    → AllByRecursion (KeepsLeg leg) events
all_keep leg [] e = tt
all_keep leg (event ∷ events) e =
    let both = neither (is_loss_of leg event) (was_lost leg events) e in
    (one_keeps leg event both.0, all_keep leg events both.1)

-- an out proxy that has no use for a leg is done
out_rests : (s : OutProxy) (leg : Leg) → is_in_use out_proxy.rules s leg ≡ false
    → is_at_work out_proxy.rules s ≡ false
out_rests s leg = by (is_over s)
  where
    alone : (a : Bool) → (a && true) ≡ false → a ≡ false
    alone true e = absurd (true≢false e)
    alone false e = refl

    by : (b : Bool)
        → (not (is_ended (if b then phases.Ended
        else (if is_server_down s.server then phases.Opening else phases.Open))) && not b) ≡ false
        → not (is_ended (if b then phases.Ended
        else (if is_server_down s.server then phases.Opening else phases.Open))) ≡ false
    by true e = refl
    by false e =
        alone (not (is_ended (if is_server_down s.server then phases.Opening else phases.Open))) e

-- ---- at a moment

module _ (law : MarksLaws) {K : Type 0} (numbers : Numbers)
    (v : World K ClientRole Server InProxy OutProxy) (h : History) (going : AllGoOn numbers h)
    (ways : AreOnTheirWay numbers v h) (passed : HavePassed numbers v h ways.directions)
    (route : IsRoute (down_route_of ways.directions)) (window : IsWindow numbers.window)
    (heads : (n : ℕ)
    → AllByRecursion (HeadsAre (AsksNoEcho true)) (ways.directions.up.proxies n).leads.moves)
    (out_heads : (n : ℕ)
    → AllByRecursion (HeadsAre (AsksNoEcho false)) (ways.directions.down.proxies n).leads.moves)
  where
    abbrev r : Route
    r = down_route_of ways.directions

    -- ---- legs of the client

    outs : (n : ℕ) → 0 < n → IsOverUpwards rules v h (co n) → (leg : Leg)
        → (ended out_proxy.rules (out_node numbers h n) leg).0.course ≡ Going
    outs n some over leg =
        let stream = ways.directions.down.proxies n in
        let put : has_passed (out_order.put_items n stream.passage.put) ≡ true =
        of_there (has_leg n) (out_order.put_items n stream.passage.put)
        (passed_more (r.got n) (r.put n) (route.far n) (passed.outs n some over)) in
        law.out_goes (numbers.outs n) (proxy_reads (numbers.outs n)) (h.outs n) stream
        (subst (λ (k : ℕ). has_passed (out_order.put_items k stream.passage.put) ≡ true)
        (sym (ways.directions.down.numbered n)) put) leg
        ∙ going.outs n

    done_with : (ended done : Bool) → (not ended && not done) ≡ false → not ended ≡ true
        → done ≡ true
    done_with true done e work = absurd (true≢false (sym work))
    done_with false true e work = refl
    done_with false false e work = absurd (true≢false e)

    -- the in proxy that reads a channel
    abbrev number : ℕ → ℕ
    number n = reader_of v.readers n

    abbrev in_there : ℕ → Shell InProxy
    in_there n = in_node numbers h (number n)

    abbrev in_stream : (n : ℕ) → Stream in_proxy.rules (in_state.first (numbers.ins (number n)))
        in_proxy.rooms (in_pipe (numbers.ins (number n))) (h.ins (number n))
    in_stream n = ways.directions.up.proxies (number n)

    ins : (n : ℕ) → 0 < n → IsOverUpwards rules v h (ci n)
        → (ended in_proxy.rules (in_there n) (ci n)).0.course ≡ Going
    ins n some over = by (passed.ins n some over)
      where
        none_put : of_leg (ci n) (in_stream n).passage.put ≡ []
        none_put =
            subst (λ (p : Passage InProxy). of_leg (ci n) p.put ≡ []) (in_stream n).leads.reached
            (law.unput (numbers.ins (number n)) (in_stream n).leads.moves
            (in_stream n).leads.allowed (heads (number n)) n)

        drew : DrewAll (in_there n) (ci n)
        drew end at =
            nil_back _ end.begun
            (sym ((in_stream n).seats (ci n) end (going.ins (number n)) at).spells
            ∙ ap spelled none_put)

        by : (has_passed (in_order.came_log (in_stream n).passage.came n) ≡ true)
            ⊎ (is_in_use in_proxy.rules (in_there n).role (ci n) ≡ false)
            → (ended in_proxy.rules (in_there n) (ci n)).0.course ≡ Going
        by (inl came) =
            law.in_goes (numbers.ins (number n)) (in_pipe (numbers.ins (number n)))
            (h.ins (number n)) (in_stream n) (heads (number n)) n came (going.ins (number n))
            ∙ going.ins (number n)
        by (inr unused) =
            law.may_lose (in_there n) (ci n)
            (λ work. inr (
              done_with (is_ended (in_proxy.rules.phase (in_there n).role))
                  (in_proxy.rules.is_done (in_there n).role (ci n)) unused work,
              drew,
            ))
            ∙ going.ins (number n)

    -- ---- legs of the server

    out_servers : (n : ℕ) → 0 < n → IsOverUpwards rules v h (os n)
        → (ended server.rules (server_node numbers h) (os n)).0.course ≡ Going
    out_servers n some over =
        law.handed numbers.window server_reads h.server ways.directions.down.giver n
        (handover_more (r.came n n) (r.sent n) (route.near n n (lt-ltb 0 n some)) came)
        ∙ going.server
      where
        keeps : AllByRecursion (KeepsLeg (os (numbers.outs n).number)) (h.outs n)
        keeps =
            subst (λ (k : ℕ). AllByRecursion (KeepsLeg (os k)) (h.outs n))
            (sym (ways.directions.down.numbered n))
            (all_keep (os n) (h.outs n) (over.untold side.Client))

        came : has_handover (r.came n n) ≡ true
        came =
            subst (λ (k : ℕ). has_handover (r.came n k) ≡ true) (ways.directions.down.numbered n)
            (law.kept (numbers.outs n) (proxy_reads (numbers.outs n)) (h.outs n)
            (ways.directions.down.proxies n) (out_heads n) keeps
            (out_rests (out_node numbers h n).role (os n) (passed.out_done n over))).1

    abbrev stream : EndStream server.rules server.acts (server.first numbers.window) server.rooms
        server_reads h.server
    stream = ways.directions.up.taker

    in_servers : (n : ℕ) → IsOverUpwards rules v h (is n)
        → (let node = server_node numbers h in is_put node.role.end_mark ≡ true
        → (server.rules.is_done node.role (is n) ≡ true → DrewAll node (is n))
        → (ended server.rules node (is n)).0.course ≡ Going)
    in_servers n over put drew =
        by (either (has_handover (got stream.passage n)) (has_end (got stream.passage n))
        (passed.in_servers n over))
      where
        by : (has_handover (got stream.passage n) ≡ true)
            ⊎ (has_end (got stream.passage n) ≡ true)
            → (ended server.rules (server_node numbers h) (is n)).0.course ≡ Going
        by (inl handed) =
            law.was_handed numbers.window server_reads h.server stream n handed drew ∙ going.server
        by (inr ended) =
            law.was_ended numbers.window window server_reads h.server stream n ended
            (ap (λ (s : Server). is_put s.end_mark) stream.role ∙ put) drew
            ∙ going.server

    pub go_on : GoOnWhereOver numbers v h
    go_on = record {
      outs = outs;
      ins = ins;
      out_servers = out_servers;
      in_servers = in_servers;
    }
