-- so they are in a world of roles, at each moment
use Rattle.law_order.proofs.Vocabulary.{◌≡◌, ℕ, List, [], subst}
use Rattle.rh_inproxy.specs.Machine as in_proxy
use Rattle.rh_inproxy.specs.State as in_state
use Rattle.law_moves.proofs.Vocabulary.{IsWindow, ClientConfig, AreAllowed, EndMove, EndPassage, Move, Passage, all_moved, started, of_leg, AreUpFirst}
use Rattle.law_role_inproxy.proofs.Vocabulary.{InProxyConfig, InProxy}
use Rattle.law_role_client.proofs.Vocabulary.{ClientRole, co, AreAllowedMoves, client_moved}
use Rattle.law_role_client.specs.Receiving.{OpensWith}
use Rattle.law_role_server.proofs.Vocabulary.{Server}
use Rattle.law_node_history.proofs.Vocabulary.{reader_of, Makers, World, IsTraced, happened, History}
use Rattle.law_role_outproxy.proofs.Vocabulary.{OutProxy}
use Rattle.law_role_windows.specs.Room.{ClientRoom, InProxyRoom, held_by_client, held_by_in_proxy}
use Rattle.law_peers_moments.specs.Moments.{AreJoined, Passages}
use Rattle.law_node_traces.proofs.Vocabulary.{ByChanges, AreOurs, deeds, rules, history_at}
use Rattle.law_world_order.proofs.Joined.{AreAlone, all, joined_at}
use Rattle.law_world_order.proofs.Legs.{Reads}
use Rattle.law_world_order.proofs.Vocabulary.{IsFlowing, numbers_of, AreDistinct, AreInRange}
use Rattle.law_world_windows.proofs.ClientHops.Honest.{RoleLaws, are_honest}
use Rattle.law_world_windows.proofs.ClientHops.Joining.{client_opened}
use Rattle.law_world_windows.proofs.ClientHops.Kept.{in_is_kept, out_is_kept}
use Rattle.law_world_windows.proofs.ClientHops.Routes.{AreHonest}
use Rattle.law_world_windows.specs.Known.{Laws}
use Rattle.law_world_windows.specs.ClientHops.{HasOneWindow}
use Rattle.law_world_windows.specs.KeptAfar.{ClientHopsAreKept, InIsKept, OpensOut}

-- what each receiver told, whatever it did
pub record RoomLaws : Type 0 where
  pub ins : (config : InProxyConfig) (moves : List Move) (n : ℕ) → IsWindow config.window
      → AreAllowed in_proxy.rules (started (in_state.first config)) moves
      → let p = all_moved in_proxy.rules (started (in_state.first config)) moves in
      InProxyRoom config.window (held_by_in_proxy n p.role) n p.came p.put
  pub client : (config : ClientConfig) (moves : List EndMove) (k : ℕ) → IsWindow config.window
      → AreAllowedMoves config moves → AreUpFirst [] moves
      → let p = (client_moved config moves).passage in
      ClientRoom config.window (held_by_client k p.role) k moves p.came p.put
  pub opens : (config : ClientConfig) (moves : List EndMove) → IsWindow config.window
      → AreAllowedMoves config moves
      → OpensWith config.window (client_moved config moves).passage.put

module _ {K : Type 0} (law : RoleLaws) (rooms : RoomLaws) (reads : Reads)
    (m : Makers K InProxy OutProxy) (w : World K ClientRole Server InProxy OutProxy)
    (ours : AreOurs m w.company w.cast) (ranges : AreInRange (numbers_of ours))
    (one : HasOneWindow (numbers_of ours)) (laws : Laws m w ours) (alone : AreAlone m w)
    (v : World K ClientRole Server InProxy OutProxy) (by : ByChanges rules m deeds w v)
    (distinct : AreDistinct (happened (history_at m w v by.leads).client))
    (flowing : IsFlowing (numbers_of ours) w v (history_at m w v by.leads)) where
  abbrev h : History
  h = history_at m w v by.leads

  abbrev reader : ℕ → ℕ
  reader = reader_of v.readers

  abbrev passages : Passages
  passages = all reads m w v ours h flowing

  abbrev moves : List EndMove
  moves = flowing.flows.client.leads.moves

  abbrev window : ℕ
  window = (ours.in_config 1).window

  traced : IsTraced rules m deeds w.company v h
  traced = (laws.known v by.leads).traced

  joined : AreJoined reader passages
  joined = joined_at reads m w ours v h flowing (laws.drawn v h traced) (alone v h traced)

  honest : AreHonest window moves passages
  honest = are_honest law reads m w ours ranges v h flowing joined one distinct

  in_room : (k n : ℕ)
      → let p = passages.ins k in
      InProxyRoom window (held_by_in_proxy n p.role) n p.came p.put
  in_room k n =
      let f = flowing.flows.ins k in
      let q : Passage InProxy =
      all_moved in_proxy.rules (started (in_state.first (ours.in_config k))) f.leads.moves in
      subst (λ (p : Passage InProxy). InProxyRoom window (held_by_in_proxy n p.role) n p.came p.put)
      f.leads.reached
      (subst (λ (size : ℕ). InProxyRoom size (held_by_in_proxy n q.role) n q.came q.put) (one k 1)
      (rooms.ins (ours.in_config k) f.leads.moves n (subst IsWindow (one 1 k) (ranges.ins 0).window)
      f.leads.allowed))

  client_room : (k : ℕ)
      → let p = passages.client in
      ClientRoom ours.config.window (held_by_client k p.role) k moves p.came p.put
  client_room k =
      let f = flowing.flows.client in
      subst (λ (p : EndPassage ClientRole). ClientRoom ours.config.window
      (held_by_client k p.passage.role) k moves p.passage.came p.passage.put) f.leads.reached
      (rooms.client ours.config f.leads.moves k ranges.client.window f.leads.allowed f.up_first)

  opens : (k edge : ℕ) → OpensOut k passages.client edge → edge ≡ ours.config.window
  opens k edge =
      let f = flowing.flows.client in
      let is = subst (λ (p : EndPassage ClientRole). OpensWith ours.config.window p.passage.put)
      f.leads.reached
      (rooms.opens ours.config f.leads.moves ranges.client.window f.leads.allowed) in
      client_opened (λ (size : ℕ). size ≡ ours.config.window) edge
      (of_leg (co k) passages.client.put) (is.first (co k)) (is.later (co k))

  pub client_hops_are_kept : ClientHopsAreKept m w ours v h flowing
  client_hops_are_kept = record {
    up = λ n.
        subst (λ (size : ℕ).
        InIsKept size (reader n) n passages.client (passages.ins (reader n))) (one 1 (reader n))
        (in_is_kept reader passages joined window ours.config.window moves honest n
        (in_room (reader n) n));
    down = λ n.
        out_is_kept reader passages joined window ours.config.window moves honest n (opens n)
        (client_room n);
  }
