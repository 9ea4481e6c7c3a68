-- in a world of roles at rest the hops that lie on one leg are known
use Rattle.law_order.proofs.Vocabulary.{◌≡◌, ℕ, ◌≤◌, List, [], Some, arith, refl, sym, ap, ◌∙◌, subst, append-nil, AllByRecursion, IfSome, Option}
use Rattle.rh_inproxy.specs.Machine as in_proxy
use Rattle.rh_inproxy.specs.Opening.{is_unknown}
use Rattle.rh_inproxy.specs.State as in_state
use Rattle.rh_outproxy.specs.Machine as out_proxy
use Rattle.rh_server.specs.Servers as server
use Rattle.rh_server.specs.States.{out_leg}
use Rattle.rh_server.specs.declared.state.OutLeg.{OutLeg}
use Rattle.law_moves.proofs.Vocabulary.{Going, InServer, IsWindow, Passage, EndPassage, EndMove, Move, AreAllowedAtEnd, all_end_moved, all_moved, end_started, started, all_read_of, of_leg, opens_server, pdu_bytes}
use Rattle.law_role_inproxy.proofs.Vocabulary.{InProxy, InProxyConfig, is_leg}
use Rattle.law_role_server.proofs.Vocabulary.{Server, often_at}
use Rattle.law_role_outproxy.proofs.Vocabulary.{OutProxy, OutProxyConfig, new_proxy, os_leg}
use Rattle.law_role_edges.specs.Edges.{IsWithin, KnowsEdges, edge_told}
use Rattle.law_role_edges.specs.OutProxies.{IsToldIn, TellsServer}
use Rattle.law_role_server_edges.specs.Windows.{KnowsOutProxy, TellsInProxy}
use Rattle.law_role_bytes.specs.Bytes.{CountsCame, CountsPut, WasToldThere}
use Rattle.rh_world.specs.Roles as roles
use Rattle.law_peers_moments.proofs.Read.{front_count, read_bytes}
use Rattle.law_world_reports.proofs.Vocabulary.{AreInRange, WorldConfig}
use Rattle.law_world_reports.specs.ToldHistories.{IsLedTo}
use Rattle.law_world_order.proofs.Recorded.{in_range, ours}
use Rattle.law_world_order.proofs.Vocabulary.{numbers_of}
use Rattle.law_world_order.specs.Premises as premises
use Rattle.law_world_rest.specs.Rest.{IsAtRest}
use Rattle.law_world_ways.specs.EndsInTime.Both.{AreUpAtBoth}
use Rattle.law_world_free.specs.Drained.{IsKnown}
use Rattle.law_world_known.proofs.Heard.{on_one, told_read, told_within}
use Rattle.law_world_known.proofs.Worlds.{Laws, came_back_there, came_down_there, came_from_there, came_up_there, flow, in_role, out_role, passing_in, passing_out, server_role, serving}
use Rattle.law_world_known.specs.Known.{AreKnown, IsHopDown, IsHopUp, IsToldDown, IsToldUp}

-- ---- what this stands on besides: of each machine

pub record Counting : Type 0 where
  pub in_sent : (config : InProxyConfig) (moves : List Move)
      → (let p = all_moved in_proxy.rules (started (in_state.first config)) moves in
      CountsPut (is_leg config.number) p.put p.role.window)
  pub in_told : (config : InProxyConfig) (moves : List Move) → WasToldThere config.number
      (all_moved in_proxy.rules (started (in_state.first config)) moves)
  pub out_received : (config : OutProxyConfig) (moves : List Move)
      → (let p = all_moved out_proxy.rules (started (new_proxy config)) moves in
      CountsCame (os_leg config.number) p.came p.role.line.current.window)
  pub server_sent : (window n : ℕ) (moves : List EndMove) (leg : OutLeg)
      → (let p = (all_end_moved server.rules server.acts (end_started (server.first window))
      moves).passage in
      out_leg n p.role.outs ≡ Some leg → CountsPut (os_leg n) p.put leg.window)
  pub server_received : (window : ℕ) (moves : List EndMove) → IsWindow window
      → AreAllowedAtEnd server.rules server.acts (end_started (server.first window)) moves
      → (let p = (all_end_moved server.rules server.acts (end_started (server.first window))
      moves).passage in
      CountsCame (is_leg p.role.current.leg) p.came p.role.line.current.window)

pub record Telling : Type 0 where
  pub in_knows : (config : InProxyConfig) (moves : List Move)
      → (let p = all_moved in_proxy.rules (started (in_state.first config)) moves in
      KnowsEdges p.role p.came)
  pub out_tells : (config : OutProxyConfig) (moves : List Move)
      → TellsServer config.number (all_moved out_proxy.rules (started (new_proxy config)) moves)
  pub server_knows : (window : ℕ) (moves : List EndMove)
      → AreAllowedAtEnd server.rules server.acts (end_started (server.first window)) moves
      → (n : ℕ) → KnowsOutProxy n
      (all_end_moved server.rules server.acts (end_started (server.first window)) moves).passage
  pub server_tells : (window : ℕ) (moves : List EndMove) → TellsInProxy
      (all_end_moved server.rules server.acts (end_started (server.first window)) moves).passage

module _ (law : Laws) (counts : Counting) (tells : Telling) (config : WorldConfig)
    (ranges : AreInRange config) (world : roles.World) (by : IsLedTo config world)
    (both : AreUpAtBoth world) (rest : IsAtRest roles.rules roles.makers roles.deeds world) where
  abbrev at_server : world.company.server.course ≡ Going → Passage Server
  at_server goes = serving law config ranges world by both rest goes

  same_server : (goes : world.company.server.course ≡ Going)
      → (at_server goes).role ≡ world.company.server.role
  same_server goes = server_role law config ranges world by both rest goes

  numbers_in_range : premises.AreInRange (numbers_of (ours config))
  numbers_in_range = in_range config ranges

  -- ---- a server

  received : (goes : world.company.server.course ≡ Going)
      → CountsCame (is_leg (at_server goes).role.current.leg) (at_server goes).came
      (at_server goes).role.line.current.window
  received goes =
      let f = (flow law config ranges world by both rest).flows.server in
      subst (λ (p : EndPassage Server). CountsCame (is_leg p.passage.role.current.leg)
      p.passage.came p.passage.role.line.current.window) f.leads.reached
      (counts.server_received (ours config).window f.leads.moves numbers_in_range.window
      f.leads.allowed)

  sent : (goes : world.company.server.course ≡ Going) (n : ℕ) (leg : OutLeg)
      → out_leg n (at_server goes).role.outs ≡ Some leg
      → CountsPut (os_leg n) (at_server goes).put leg.window
  sent goes n leg =
      let f = (flow law config ranges world by both rest).flows.server in
      subst (λ (p : EndPassage Server). out_leg n p.passage.role.outs ≡ Some leg
      → CountsPut (os_leg n) p.passage.put leg.window) f.leads.reached
      (counts.server_sent (ours config).window n f.leads.moves leg)

  server_told : (goes : world.company.server.course ≡ Going) → TellsInProxy (at_server goes)
  server_told goes =
      let f = (flow law config ranges world by both rest).flows.server in
      subst (λ (p : EndPassage Server). TellsInProxy p.passage) f.leads.reached
      (tells.server_tells (ours config).window f.leads.moves)

  server_knows : (goes : world.company.server.course ≡ Going) (n : ℕ)
      → KnowsOutProxy n (at_server goes)
  server_knows goes n =
      let f = (flow law config ranges world by both rest).flows.server in
      subst (λ (p : EndPassage Server). KnowsOutProxy n p.passage) f.leads.reached
      (tells.server_knows (ours config).window f.leads.moves f.leads.allowed n)

  -- ---- up

  module _ (hop : IsHopUp world) where
    abbrev m : ℕ
    m = world.company.server.role.current.leg

    abbrev s : Passage Server
    s = at_server hop.server_goes

    abbrev i : Passage InProxy
    i = passing_in law config ranges world by both rest hop.server_goes m hop.node hop.legs
        hop.there hop.goes hop.up

    same_in : i.role ≡ hop.node.role
    same_in =
        in_role law config ranges world by both rest hop.server_goes m hop.node hop.legs hop.there
        hop.goes hop.up

    -- the leg of the current channel
    leg_is : s.role.current.leg ≡ m
    leg_is = ap (λ (r : Server). r.current.leg) (same_server hop.server_goes)

    in_passage : (P : ℕ → Passage InProxy → Type 0)
        → ((moves : List Move) → P ((ours config).in_config m).number
        (all_moved in_proxy.rules (started (in_state.first ((ours config).in_config m))) moves))
        → P m i
    in_passage P so =
        let f = (flow law config ranges world by both rest).flows.ins m in
        subst (λ (p : Passage InProxy). P m p) f.leads.reached
        (subst (λ (k : ℕ). P k (all_moved in_proxy.rules
        (started (in_state.first ((ours config).in_config m))) f.leads.moves))
        ((ours config).in_number m) (so f.leads.moves))

    up_there : of_leg (is_leg m) s.came ≡ all_read_of (of_leg (is_leg m) i.put)
    up_there =
        came_up_there law config ranges world by both rest hop.server_goes m hop.node hop.legs
        hop.there hop.goes hop.up

    back_there : of_leg (is_leg m) i.came ≡ all_read_of (of_leg (is_leg m) s.put)
    back_there =
        came_back_there law config ranges world by both rest hop.server_goes m hop.node hop.legs
        hop.there hop.goes hop.up

    pub up_came : world.company.server.role.line.current.window.received
        ≡ hop.node.role.window.sent
    up_came =
        sym (ap (λ (r : Server). r.line.current.window.received) (same_server hop.server_goes))
        ∙ received hop.server_goes
        ∙ ap (λ (n : ℕ). pdu_bytes (of_leg (is_leg n) s.came)) leg_is
        ∙ ap pdu_bytes up_there ∙ read_bytes (of_leg (is_leg m) i.put)
        ∙ sym (in_passage (λ n p. CountsPut (is_leg n) p.put p.role.window)
        (counts.in_sent ((ours config).in_config m)))
        ∙ ap (λ (r : InProxy). r.window.sent) same_in

    module _ (told : IsToldUp world hop) where
      abbrev edge : ℕ
      edge = s.role.line.current.window.told

      same_edge : edge ≡ world.company.server.role.line.current.window.told
      same_edge =
          ap (λ (r : Server). r.line.current.window.told) (same_server hop.server_goes)

      -- CONN/B3 or IN_R1/B2 was put there, since it came
      opened : 1 ≤ often_at opens_server InServer s.role.current.leg s.put
      opened =
          let came = in_passage WasToldThere (counts.in_told ((ours config).in_config m))
          (ap (λ (r : InProxy). is_unknown r.edge) same_in
          ∙ told.known) in
          let put = front_count opens_server (of_leg (is_leg m) i.came) (of_leg (is_leg m) s.put)
          ([], append-nil (of_leg (is_leg m) i.came) ∙ back_there) in
          subst (λ (n : ℕ). 1 ≤ often_at opens_server InServer n s.put) (sym leg_is)
          (omega (arith, came, put))

      -- so all that the server told came to the proxy
      heard : IsToldIn edge (of_leg (is_leg m) i.came)
      heard =
          subst (IsToldIn edge) (sym back_there)
          (told_read edge (let some = told.told.opened in omega (arith, some, same_edge))
          (of_leg (is_leg m) s.put)
          (subst (λ (n : ℕ). IsToldIn edge (of_leg (is_leg n) s.put)) leg_is
          (server_told hop.server_goes opened)))

      pub up_known : IsKnown hop.node.role.window
          world.company.server.role.line.current.window
      up_known = record {
        opened = told.told.opened;
        came = up_came;
        told =
            let known = told_within edge i.role.window.edge (of_leg (is_leg m) i.came)
            (on_one i.role.window.edge (is_leg m) refl i.came
            (in_passage (λ n p. KnowsEdges p.role p.came)
            (tells.in_knows ((ours config).in_config m)))) heard in
            let same = ap (λ (r : InProxy). r.window.edge) same_in in
            omega (arith, known, same, same_edge);
        fits = told.told.fits;
      }

  -- ---- down

  module _ (n : ℕ) (hop : IsHopDown n world) where
    abbrev t : Passage Server
    t = at_server hop.server_goes

    abbrev o : Passage OutProxy
    o = passing_out law config ranges world by both rest hop.server_goes n hop.node hop.legs
        hop.there hop.goes hop.up

    same_out : o.role ≡ hop.node.role
    same_out =
        out_role law config ranges world by both rest hop.server_goes n hop.node hop.legs hop.there
        hop.goes hop.up

    out_passage : (P : ℕ → Passage OutProxy → Type 0)
        → ((moves : List Move) → P ((ours config).out_config n).number
        (all_moved out_proxy.rules (started (new_proxy ((ours config).out_config n))) moves))
        → P n o
    out_passage P so =
        let f = (flow law config ranges world by both rest).flows.outs n in
        subst (λ (p : Passage OutProxy). P n p) f.leads.reached
        (subst (λ (k : ℕ). P k (all_moved out_proxy.rules
        (started (new_proxy ((ours config).out_config n))) f.leads.moves))
        ((ours config).out_number n) (so f.leads.moves))

    down_there : of_leg (os_leg n) o.came ≡ all_read_of (of_leg (os_leg n) t.put)
    down_there =
        came_down_there law config ranges world by both rest hop.server_goes n hop.node hop.legs
        hop.there hop.goes hop.up

    from_there : of_leg (os_leg n) t.came ≡ all_read_of (of_leg (os_leg n) o.put)
    from_there =
        came_from_there law config ranges world by both rest hop.server_goes n hop.node hop.legs
        hop.there hop.goes hop.up

    kept : out_leg n t.role.outs ≡ Some hop.leg
    kept = ap (λ (r : Server). out_leg n r.outs) (same_server hop.server_goes) ∙ hop.kept

    pub down_came : hop.node.role.line.current.window.received ≡ hop.leg.window.sent
    down_came =
        sym (ap (λ (r : OutProxy). r.line.current.window.received) same_out)
        ∙ out_passage (λ k p. CountsCame (os_leg k) p.came p.role.line.current.window)
        (counts.out_received ((ours config).out_config n))
        ∙ ap pdu_bytes down_there ∙ read_bytes (of_leg (os_leg n) t.put)
        ∙ sym (sent hop.server_goes n hop.leg kept)

    module _ (told : IsToldDown n world hop) where
      abbrev reach : ℕ
      reach = o.role.line.current.window.told

      same_reach : reach ≡ hop.node.role.line.current.window.told
      same_reach = ap (λ (r : OutProxy). r.line.current.window.told) same_out

      -- all that the proxy told came to the server
      told_there : IsToldIn reach (of_leg (os_leg n) t.came)
      told_there =
          subst (IsToldIn reach) (sym from_there)
          (told_read reach (let some = told.told.opened in omega (arith, some, same_reach))
          (of_leg (os_leg n) o.put)
          (out_passage TellsServer (tells.out_tells ((ours config).out_config n))
          (ap (λ (r : OutProxy). r.server) same_out ∙ told.begun)))

      within : AllByRecursion (IsWithin edge_told hop.leg.window.edge) (of_leg (os_leg n) t.came)
      within =
          subst (λ (leg : Option OutLeg). IfSome leg (λ (one : OutLeg).
          AllByRecursion (IsWithin edge_told one.window.edge) (of_leg (os_leg n) t.came))) kept
          (server_knows hop.server_goes n)

      pub down_known : IsKnown hop.leg.window hop.node.role.line.current.window
      down_known = record {
        opened = told.told.opened;
        came = down_came;
        told =
            let known = told_within reach hop.leg.window.edge (of_leg (os_leg n) t.came) within
            told_there in omega (arith, known, same_reach);
        fits = told.told.fits;
      }

  pub are_known : AreKnown world
  are_known = record {
    up_came = up_came;
    up = up_known;
    down_came = down_came;
    down = down_known;
  }
