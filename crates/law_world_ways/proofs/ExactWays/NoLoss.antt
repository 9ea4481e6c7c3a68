-- in a world in which no leg was lost each leg gives all, or its handover mark or END passed
use Rattle.rh_text.specs.declared.ends.Side.TheVariants as side
use Rattle.law_order.proofs.Vocabulary.{◌≡◌, ◌≢◌, ◌⊎◌, inl, inr, ◌≤◌, ℕ, true, false, true≢false, List, Some, sym, ap, ◌∙◌, subst, AllByRecursion, has_end, below, reader, stops_at, Route}
use Rattle.rh_record.specs.declared.answer.Who.TheVariants as who
use Rattle.rh_inproxy.specs.Machine as in_proxy
use Rattle.rh_inproxy.specs.State as in_state
use Rattle.rh_outproxy.specs.Machine as out_proxy
use Rattle.rh_client.specs.Client as client
use Rattle.rh_server.specs.Servers as server
use Rattle.law_moves.proofs.Vocabulary.{U, D, CiU, IsU, CoD, OsD, ClientConfig, Leg, begun, EndMove, EndPassage, is_in_use, EndEvent, Event, after_end_events, after_events}
use Rattle.law_role_inproxy.proofs.Vocabulary.{InProxyConfig, InProxy}
use Rattle.law_role_client.proofs.Vocabulary.{ClientRole, AreAllowedMoves, TakesInOrder, client_moved, has_leg}
use Rattle.law_role_client.specs.Order as client_order
use Rattle.law_role_server.proofs.Vocabulary.{Server}
use Rattle.law_node_history.proofs.Vocabulary.{reader_of, World, AreAccepted, AreAcceptedAtEnd, came_up, happened, History}
use Rattle.law_role_outproxy.proofs.Vocabulary.{ROOMS, OutProxyConfig, OutProxy, new_proxy}
use Rattle.law_node_streams.specs.Streams.{Stream}
use Rattle.law_node_ends.specs.Passed.{AsksNoEcho, HeadsAre}
use Rattle.law_node_begins.specs.EndsBegin.{server_reads}
use Rattle.law_node_begins.specs.ProxiesBegin.Pipes.{ci, co, in_pipe, is, os}
use Rattle.law_peers_routes.specs.Downwards.{proxy_reads}
use Rattle.law_peers_routes.specs.Upwards as goes_up
use Rattle.law_world_order.proofs.Vocabulary.{down_route_of, up_route_of, Numbers}
use Rattle.law_world_ways.proofs.ExactWays.LegGoes.{leg_goes}
use Rattle.law_world_ways.proofs.ExactWays.Passing.{InLaw, OutLaw, ServerLaw, client_passes, in_passes, out_passes, server_passes}
use Rattle.law_world_ways.proofs.ExactPaths.DownLegs.{own_reader}
use Rattle.law_world_ways.proofs.OnPaths.Used.{passed_goes}
use Rattle.law_world_ways.specs.LiveIntakes.{ReadsLeg}
use Rattle.law_world_ways.specs.OnPaths.Legs.{has_passed}
use Rattle.law_world_ways.specs.OnPaths.Lost.{was_lost}
use Rattle.law_world_ways.specs.OnPaths.OnWay.{is_lost}
use Rattle.law_world_ways.specs.OnPaths.Ways.{AreOnTheirWay, client_node, down_far, down_lost, down_near, in_node, out_node, server_node, up_far, up_lost, up_near}
use Rattle.law_world_ways.specs.ExactWays.Keeping.{KeepsIfOfUse, KnowsLeg}
use Rattle.law_world_ways.specs.ExactWays.Pdus.{IsBehindEnd, NoneStopsButBehindEnd}
use Rattle.law_world_ways.specs.ExactWays.Unlost.{NoneIsLost}

-- ---- the laws that this stands on

pub record NodeLaws : Type 0 where
  pub keeps_client : (config : ClientConfig) (events : List EndEvent) (leg : Leg)
      → AreAcceptedAtEnd client.rules client.acts (client.first_client config) events
      → came_up leg (happened events) ≡ true → was_lost leg (happened events) ≡ false
      → KeepsIfOfUse client.rules
      (after_end_events client.rules client.acts (client.first_client config) events) leg
  pub keeps_server : (window : ℕ) (events : List EndEvent) (leg : Leg)
      → AreAcceptedAtEnd server.rules server.acts (server.new_server window) events
      → came_up leg (happened events) ≡ true → was_lost leg (happened events) ≡ false
      → KeepsIfOfUse server.rules
      (after_end_events server.rules server.acts (server.new_server window) events) leg
  pub keeps_in : (config : InProxyConfig) (events : List Event) (leg : Leg)
      → AreAccepted in_proxy.rules (in_proxy.first_node config) events
      → came_up leg events ≡ true → was_lost leg events ≡ false
      → KeepsIfOfUse in_proxy.rules
      (after_events in_proxy.rules (in_proxy.first_node config) events) leg
  pub keeps_out : (config : OutProxyConfig) (events : List Event) (leg : Leg)
      → AreAccepted out_proxy.rules (begun (new_proxy config) ROOMS) events
      → came_up leg events ≡ true → was_lost leg events ≡ false
      → KeepsIfOfUse out_proxy.rules
      (after_events out_proxy.rules (begun (new_proxy config) ROOMS) events) leg
  pub knows_client : (config : ClientConfig) (events : List EndEvent) (leg : Leg)
      → AreAcceptedAtEnd client.rules client.acts (client.first_client config) events
      → KnowsLeg client.rules
      (after_end_events client.rules client.acts (client.first_client config) events) leg
      (came_up leg (happened events))
  pub knows_server : (window : ℕ) (events : List EndEvent) (leg : Leg)
      → AreAcceptedAtEnd server.rules server.acts (server.new_server window) events
      → KnowsLeg server.rules
      (after_end_events server.rules server.acts (server.new_server window) events) leg
      (came_up leg (happened events))
  pub knows_in : (config : InProxyConfig) (events : List Event) (leg : Leg)
      → AreAccepted in_proxy.rules (in_proxy.first_node config) events
      → KnowsLeg in_proxy.rules
      (after_events in_proxy.rules (in_proxy.first_node config) events) leg (came_up leg events)
  pub knows_out : (config : OutProxyConfig) (events : List Event) (leg : Leg)
      → AreAccepted out_proxy.rules (begun (new_proxy config) ROOMS) events
      → KnowsLeg out_proxy.rules
      (after_events out_proxy.rules (begun (new_proxy config) ROOMS) events) leg
      (came_up leg events)
  pub out_law : OutLaw
  pub in_law : InLaw
  pub server_law : ServerLaw
  pub takes : (config : ClientConfig) (moves : List EndMove) → AreAllowedMoves config moves
      → TakesInOrder (client_moved config moves)

-- each leg came up where it might
pub record Accepted (numbers : Numbers) (h : History) : Type 0 where
  pub client : AreAcceptedAtEnd client.rules client.acts (client.first_client numbers.client)
      h.client
  pub server : AreAcceptedAtEnd server.rules server.acts (server.new_server numbers.window)
      h.server
  pub ins : (n : ℕ) → AreAccepted in_proxy.rules (in_proxy.first_node (numbers.ins n)) (h.ins n)
  pub outs : (n : ℕ) → AreAccepted out_proxy.rules (begun (new_proxy (numbers.outs n)) ROOMS)
      (h.outs n)

-- no head that came asks for an echo
pub record NoEchoes (numbers : Numbers) (h : History) : Type 0 where
  pub ins : (n : ℕ) (one : Stream in_proxy.rules (in_state.first (numbers.ins n))
      in_proxy.rooms (in_pipe (numbers.ins n)) (h.ins n))
      → AllByRecursion (HeadsAre (AsksNoEcho true)) one.leads.moves
  pub outs : (n : ℕ) (one : Stream out_proxy.rules (new_proxy (numbers.outs n)) ROOMS
      (proxy_reads (numbers.outs n)) (h.outs n))
      → AllByRecursion (HeadsAre (AsksNoEcho false)) one.leads.moves

-- what comes is read
pub record AreRead (numbers : Numbers) (h : History) : Type 0 where
  pub client : (leg : Leg) → ReadsLeg (client_node numbers h) leg
  pub server : (leg : Leg) → ReadsLeg (server_node numbers h) leg
  pub ins : (n : ℕ) (leg : Leg) → ReadsLeg (in_node numbers h n) leg
  pub outs : (n : ℕ) (leg : Leg) → ReadsLeg (out_node numbers h n) leg

only : {A : Type 0} → A ⊎ ⊥ → A
only (inl a) = a
only (inr bad) = absurd bad

module _ {K : Type 0} (law : NodeLaws) (numbers : Numbers)
    (v : World K ClientRole Server InProxy OutProxy) (h : History)
    (ways : AreOnTheirWay numbers v h) (accepted : Accepted numbers h)
    (echoes : NoEchoes numbers h) (are_read : AreRead numbers h)
    (none : NoneIsLost numbers v h) where
  -- ---- down

  abbrev down : Route
  down = down_route_of ways.directions

  down_near_goes : (n : ℕ)
      → (stops_at ((down_lost numbers v h).near n) (down.came (reader down.legs n) n) ≡ false)
      ⊎ IsBehindEnd down n
  down_near_goes n =
      leg_goes v h (os n) D (Some OsD) (server_node numbers h) out_proxy.rules
      (out_node numbers h n) (down.came (reader down.legs n) n) (IsBehindEnd down n) none.server
      (none.outs n) (none.up (os n) side.Server) (none.up (os n) side.Client)
      (none.told who.Server (os n))
      (λ up. law.keeps_out (numbers.outs n) (h.outs n) (os n) (accepted.outs n) up
      (none.told (who.Out n) (os n)) (none.outs n))
      (law.knows_out (numbers.outs n) (h.outs n) (os n) (accepted.outs n)).absent
      (are_read.outs n (os n))
      (λ up unused.
      inl (passed_goes (is_lost (down_near numbers v h n)) (down.came (reader down.legs n) n)
      (subst (λ (m : ℕ). has_passed (down.came m n) ≡ true) (sym (own_reader n))
      (out_passes law.out_law (numbers.outs n) n (ways.directions.down.numbered n) (h.outs n)
      (ways.directions.down.proxies n) (echoes.outs n (ways.directions.down.proxies n))
      unused))))

  client_passed : (n : ℕ) → down.taker.shelves.current ≤ n
      → client.rules.was_up (client_node numbers h).role (co n) ≡ true
      → is_in_use client.rules (client_node numbers h).role (co n) ≡ false
      → has_passed (down.got n) ≡ true
  client_passed n from known unused =
      let taker = ways.directions.down.taker in
      subst (λ (p : EndPassage ClientRole). p.passage.role.current.number ≤ n
      → client.rules.was_up p.passage.role (co n) ≡ true
      → is_in_use client.rules p.passage.role (co n) ≡ false
      → has_passed (client_order.came_log p.passage.came n) ≡ true) taker.leads.reached
      (λ at_most was.
      client_passes numbers.client taker.leads.moves taker.leads.allowed
      (law.takes numbers.client taker.leads.moves taker.leads.allowed) n at_most was) from
      (subst (λ (s : ClientRole). client.rules.was_up s (co n) ≡ true) (sym taker.role) known)
      (subst (λ (s : ClientRole). is_in_use client.rules s (co n) ≡ false) (sym taker.role)
      unused)

  down_far_goes : (n : ℕ) → down.taker.shelves.current ≤ n
      → stops_at ((down_lost numbers v h).far n) (down.got n) ≡ false
  down_far_goes n from =
      only (leg_goes v h (co n) D (Some CoD) (out_node numbers h n) client.rules
      (client_node numbers h) (down.got n) ⊥ (none.outs n) none.client
      (none.up (co n) side.Server) (none.up (co n) side.Client)
      (none.told (who.Out n) (co n))
      (λ up. law.keeps_client numbers.client h.client (co n) accepted.client up
      (none.told who.Client (co n)) none.client)
      (law.knows_client numbers.client h.client (co n) accepted.client).absent
      (are_read.client (co n))
      (λ up unused.
      inl (passed_goes (is_lost (down_far numbers v h n)) (down.got n)
      (client_passed n from
      ((law.knows_client numbers.client h.client (co n) accepted.client).known up) unused))))

  pub down_goes : NoneStopsButBehindEnd down (down_lost numbers v h)
  down_goes = record {
    near = λ n from within. down_near_goes n;
    far = λ n from within leg. down_far_goes n from;
  }

  -- ---- up

  module _ (reads : (n : ℕ) → reader_of v.readers n ≢ 0
      → reader (goes_up.has_leg (reader_of v.readers)) n ≡ reader_of v.readers n) where
    abbrev up : Route
    up = up_route_of ways.directions

    -- a channel that came up at its in proxy has one
    is_read : (n : ℕ) → came_up (ci n) (h.ins (reader_of v.readers n)) ≡ true
        → reader_of v.readers n ≢ 0
    is_read n rose zero_is =
        let readers = ways.directions.up.readers in
        true≢false (sym rose
        ∙ ap (came_up (ci n)) (ap h.ins zero_is ∙ readers.unmade 0 readers.none))

    in_passed : (n : ℕ) → came_up (ci n) (h.ins (reader_of v.readers n)) ≡ true
        → is_in_use in_proxy.rules (in_node numbers h (reader_of v.readers n)).role (ci n)
        ≡ false
        → (stops_at ((up_lost numbers v h).near n) (up.came (reader up.legs n) n) ≡ false)
        ⊎ IsBehindEnd up n
    in_passed n rose unused =
        by (in_passes law.in_law (numbers.ins k) n (h.ins k) (ways.directions.up.proxies k)
        (echoes.ins k (ways.directions.up.proxies k))
        ((law.knows_in (numbers.ins k) (h.ins k) (ci n) (accepted.ins k)).known rose) unused)
      where
        k : ℕ
        k = reader_of v.readers n

        same : reader up.legs n ≡ reader_of v.readers n
        same = reads n (is_read n rose)

        by : (has_passed (up.came (reader_of v.readers n) n) ≡ true)
            ⊎ (has_end (below (up.came (reader_of v.readers n)) n) ≡ true)
            → (stops_at ((up_lost numbers v h).near n) (up.came (reader up.legs n) n) ≡ false)
            ⊎ IsBehindEnd up n
        by (inl passed) =
            inl (passed_goes (is_lost (up_near numbers v h n)) (up.came (reader up.legs n) n)
            (subst (λ (m : ℕ). has_passed (up.came m n) ≡ true) (sym same) passed))
        by (inr ended) =
            inr (subst (λ (m : ℕ). has_end (below (up.came m) n) ≡ true) (sym same) ended)

    up_near_goes : (n : ℕ)
        → (stops_at ((up_lost numbers v h).near n) (up.came (reader up.legs n) n) ≡ false)
        ⊎ IsBehindEnd up n
    up_near_goes n =
        let k = reader_of v.readers n in
        leg_goes v h (ci n) U (Some CiU) (client_node numbers h) in_proxy.rules
        (in_node numbers h k) (up.came (reader up.legs n) n) (IsBehindEnd up n) none.client
        (none.ins k) (none.up (ci n) side.Client) (none.up (ci n) side.Server)
        (none.told who.Client (ci n))
        (λ rose. law.keeps_in (numbers.ins k) (h.ins k) (ci n) (accepted.ins k) rose
        (none.told (who.In k) (ci n)) (none.ins k))
        (law.knows_in (numbers.ins k) (h.ins k) (ci n) (accepted.ins k)).absent
        (are_read.ins k (ci n)) (in_passed n)

    up_far_goes : (n : ℕ) → stops_at ((up_lost numbers v h).far n) (up.got n) ≡ false
    up_far_goes n =
        only (leg_goes v h (is n) U (Some IsU) (in_node numbers h n) server.rules
        (server_node numbers h) (up.got n) ⊥ (none.ins n) none.server
        (none.up (is n) side.Client) (none.up (is n) side.Server)
        (none.told (who.In n) (is n))
        (λ rose. law.keeps_server numbers.window h.server (is n) accepted.server rose
        (none.told who.Server (is n)) none.server)
        (law.knows_server numbers.window h.server (is n) accepted.server).absent
        (are_read.server (is n))
        (λ rose unused.
        inl (passed_goes (is_lost (up_far numbers v h n)) (up.got n)
        (server_passes law.server_law numbers.window n server_reads h.server
        ways.directions.up.taker rose unused))))

    pub up_goes : NoneStopsButBehindEnd up (up_lost numbers v h)
    up_goes = record {
      near = λ n from within. up_near_goes n;
      far = λ n from within leg. up_far_goes n;
    }
