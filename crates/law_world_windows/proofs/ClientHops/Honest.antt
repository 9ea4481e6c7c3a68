-- at each moment of a world of roles each sees to its part, and channels begin apart
use Rattle.rh_text.specs.declared.ends.Side.TheVariants as side
use Rattle.law_order.proofs.Vocabulary.{◌≡◌, ℕ, ◌≤◌, Bool, true, false, if◌then◌else◌, List, [], ◌∷◌, ◌++◌, inl, inr, arith, subst}
use Rattle.rh_record.specs.declared.answer.Who.TheVariants as who
use Rattle.rh_inproxy.specs.Machine as in_proxy
use Rattle.rh_inproxy.specs.State as in_state
use Rattle.rh_outproxy.specs.Machine as out_proxy
use Rattle.rh_server.specs.Servers as server
use Rattle.rh_wires.specs.Legs as legs
use Rattle.law_moves.proofs.Vocabulary.{Dir, U, IsWindow, Cookie, ClientConfig, Leg, ClientIn, ClientOut, Shell, AreAllowed, AreAllowedAtEnd, EndMove, EndPassage, Move, Passage, all_end_moved, all_moved, end_started, started, Event, Hears, after_end_events, of_leg, count_of, AreUpFirst, CameUpWith, HasComeUp}
use Rattle.law_role_inproxy.proofs.Vocabulary.{InProxyConfig, InProxy}
use Rattle.law_role_client.proofs.Vocabulary.{ClientRole, ci, co, AreAllowedMoves, client_moved}
use Rattle.law_role_server.proofs.Vocabulary.{Server}
use Rattle.law_node_history.proofs.Vocabulary.{reader_of, receiver, Makers, World, at, is_same, happened, IsFed, History, noted, told_to}
use Rattle.law_node_history.proofs.Lemmas.{happened_more}
use Rattle.law_role_outproxy.proofs.Vocabulary.{OutProxyConfig, OutProxy, new_proxy, opens}
use Rattle.law_peers_moments.proofs.Read.{front_count}
use Rattle.law_peers_moments.specs.Moments.{AreJoined, Passages}
use Rattle.law_node_traces.proofs.Vocabulary.{AreOurs, deeds, rules}
use Rattle.law_world_order.proofs.Joined.{all}
use Rattle.law_world_order.proofs.Legs.{Reads}
use Rattle.law_world_order.proofs.Vocabulary.{IsFlowing, numbers_of, AreDistinct, AreInRange}
use Rattle.law_world_windows.proofs.ClientHops.Roles.{AreApart, ClientBegins, ClientReceives, ClientSends, InProxySees, OutProxySees, ServerSees}
use Rattle.law_world_windows.proofs.ClientHops.Routes.{AreHonest}
use Rattle.law_world_windows.specs.ClientHops.{HasOneWindow}

-- ---- the laws that this stands on, over every list of moves

pub record RoleLaws : Type 0 where
  pub sends : (config : ClientConfig) (moves : List EndMove) → AreAllowedMoves config moves
      → ClientSends moves (client_moved config moves).passage
  pub receives : (config : ClientConfig) (moves : List EndMove) → IsWindow config.window
      → AreAllowedMoves config moves → AreUpFirst [] moves
      → ClientReceives moves (client_moved config moves).passage
  pub begins : (config : ClientConfig) (moves : List EndMove) → AreAllowedMoves config moves
      → ClientBegins moves (client_moved config moves).passage
  pub opens_once : (config : ClientConfig) (moves : List EndMove) → AreAllowedMoves config moves
      → (n : ℕ) → count_of opens (of_leg (co n) (client_moved config moves).passage.put) ≤ 1
  pub servers : (window : ℕ) (moves : List EndMove)
      → AreAllowedAtEnd server.rules server.acts (end_started (server.first window)) moves
      → ServerSees
      (all_end_moved server.rules server.acts (end_started (server.first window)) moves).passage
  pub ins : (config : InProxyConfig) (moves : List Move) → IsWindow config.window
      → AreAllowed in_proxy.rules (started (in_state.first config)) moves
      → InProxySees config.window config.number
      (all_moved in_proxy.rules (started (in_state.first config)) moves)
  pub outs : (config : OutProxyConfig) (moves : List Move)
      → AreAllowed out_proxy.rules (started (new_proxy config)) moves
      → count_of opens (of_leg (co config.number)
      (all_moved out_proxy.rules (started (new_proxy config)) moves).came) ≤ 1
      → OutProxySees config.number
      (all_moved out_proxy.rules (started (new_proxy config)) moves)

module _ {K : Type 0} (law : RoleLaws) (reads : Reads) (m : Makers K InProxy OutProxy)
    (w : World K ClientRole Server InProxy OutProxy)
    (ours : AreOurs m w.company w.cast) (ranges : AreInRange (numbers_of ours))
    (u : World K ClientRole Server InProxy OutProxy) (g : History)
    (flowing : IsFlowing (numbers_of ours) w u g)
    (joined : AreJoined (reader_of u.readers) (all reads m w u ours g flowing)) where
  abbrev passages : Passages
  passages = all reads m w u ours g flowing

  -- ---- an out proxy: at most one packet opened its channel

  once : (n : ℕ) → count_of opens (of_leg (co n) (passages.outs n).came) ≤ 1
  once n =
      let f = flowing.flows.client in
      let put : count_of opens (of_leg (co n) passages.client.put) ≤ 1 =
      subst (λ (p : EndPassage ClientRole). count_of opens (of_leg (co n) p.passage.put) ≤ 1)
      f.leads.reached (law.opens_once ours.config f.leads.moves f.leads.allowed n) in
      let front = front_count opens (of_leg (co n) (passages.outs n).came)
      (of_leg (co n) passages.client.put) (joined.front (co n) U) in
      omega (arith, put, front)

  pub out_sees : (n : ℕ) → OutProxySees n (passages.outs n)
  out_sees n =
      let f = flowing.flows.outs n in
      subst (λ (p : Passage OutProxy). count_of opens (of_leg (co n) p.came) ≤ 1
      → OutProxySees n p) f.leads.reached
      (subst (λ (k : ℕ). count_of opens (of_leg (co k)
      (all_moved out_proxy.rules (started (new_proxy (ours.out_config n))) f.leads.moves).came)
      ≤ 1 → OutProxySees k
      (all_moved out_proxy.rules (started (new_proxy (ours.out_config n))) f.leads.moves))
      (ours.out_number n) (law.outs (ours.out_config n) f.leads.moves f.leads.allowed)) (once n)

  -- ---- all of them

  module _ (one : HasOneWindow (numbers_of ours)) (distinct : AreDistinct (happened g.client))
    where
      -- the window of the in proxies
      abbrev pub window : ℕ
      window = (ours.in_config 1).window

      abbrev moves : List EndMove
      moves = flowing.flows.client.leads.moves

      client_sends : ClientSends moves passages.client
      client_sends =
          let f = flowing.flows.client in
          subst (λ (p : EndPassage ClientRole). ClientSends moves p.passage) f.leads.reached
          (law.sends ours.config f.leads.moves f.leads.allowed)

      client_receives : ClientReceives moves passages.client
      client_receives =
          let f = flowing.flows.client in
          subst (λ (p : EndPassage ClientRole). ClientReceives moves p.passage) f.leads.reached
          (law.receives ours.config f.leads.moves ranges.client.window f.leads.allowed
          f.up_first)

      client_begins : ClientBegins moves passages.client
      client_begins =
          let f = flowing.flows.client in
          subst (λ (p : EndPassage ClientRole). ClientBegins moves p.passage) f.leads.reached
          (law.begins ours.config f.leads.moves f.leads.allowed)

      came_up : (leg : Leg) (cookie : Cookie) → HasComeUp moves leg cookie
          → CameUpWith (happened g.client) leg cookie
      came_up = flowing.flows.client.raised

      apart : AreApart moves
      apart = record {
        ins = λ cookie l n here there.
            distinct ClientIn l n cookie (came_up (ci l) cookie here) (came_up (ci n) cookie there);
        outs = λ cookie l n here there.
            distinct ClientOut l n cookie (came_up (co l) cookie here)
            (came_up (co n) cookie there);
      }

      server_sees : ServerSees passages.server
      server_sees =
          let f = flowing.flows.server in
          subst (λ (p : EndPassage Server). ServerSees p.passage) f.leads.reached
          (law.servers ours.window f.leads.moves f.leads.allowed)

      in_sees : (n : ℕ) → InProxySees window n (passages.ins n)
      in_sees n =
          let f = flowing.flows.ins n in
          subst (λ (p : Passage InProxy). InProxySees window n p) f.leads.reached
          (subst (λ (k : ℕ). InProxySees window k
          (all_moved in_proxy.rules (started (in_state.first (ours.in_config n))) f.leads.moves))
          (ours.in_number n)
          (subst (λ (k : ℕ). InProxySees k (ours.in_config n).number
          (all_moved in_proxy.rules (started (in_state.first (ours.in_config n))) f.leads.moves))
          (one n 1)
          (law.ins (ours.in_config n) f.leads.moves
          (subst IsWindow (one 1 n) (ranges.ins 0).window) f.leads.allowed)))

      pub are_honest : AreHonest window moves passages
      are_honest = record {
        sends = client_sends;
        receives = client_receives;
        begins = client_begins;
        apart = apart;
        server = server_sees;
        ins = in_sees;
        outs = out_sees;
      }

-- ---- a piece that is fed brings no leg up

pub up_before : (leg on : Leg) (cookie : Cookie) (piece : List ℕ) (fed : Bool) (events : List Event)
    → CameUpWith (events ++ (if fed then Hears on piece ∷ [] else [])) leg cookie
    → CameUpWith events leg cookie
up_before leg on cookie piece true [] (inl is) = absurd cc
up_before leg on cookie piece true [] (inr none) = none
up_before leg on cookie piece false [] none = none
up_before leg on cookie piece fed (event ∷ events) (inl is) = inl is
up_before leg on cookie piece fed (event ∷ events) (inr has) =
    inr (up_before leg on cookie piece fed events has)

pub distinct_behind : {K : Type 0} (first : Shell ClientRole)
    (v : World K ClientRole Server InProxy OutProxy) (h : History) (leg : Leg) (dir : Dir)
    (count : ℕ)
    → v.company.client ≡ after_end_events rules.client deeds.client first h.client
    → AreDistinct (happened h.client)
    → AreDistinct (happened (noted v h (IsFed leg dir count)).client)
distinct_behind first v h leg dir count run distinct kind l n cookie here there =
    distinct kind l n cookie (before _ here) (before _ there)
  where
    fed : Bool
    fed = is_same (at v leg (receiver dir)) who.Client

    piece : List ℕ
    piece = (legs.take_out leg dir count v.legs).1

    same : happened (noted v h (IsFed leg dir count)).client
        ≡ happened h.client ++ (if fed then Hears leg piece ∷ [] else [])
    same =
        happened_more rules.client deeds.client first v.company.client h.client
        (told_to v (IsFed leg dir count) who.Client) (IsFed leg dir count) side.Client run

    before : (other : Leg)
        → CameUpWith (happened (noted v h (IsFed leg dir count)).client) other cookie
        → CameUpWith (happened h.client) other cookie
    before other has =
        up_before other leg cookie piece fed (happened h.client)
        (subst (λ (es : List Event). CameUpWith es other cookie) same has)
