-- in a world of roles at rest whose hops are known nothing is left
use Rattle.law_order.proofs.Vocabulary.{◌≡◌, ◌++◌, ℕ, List, [], ◌∷◌, Bool, true, false, if◌then◌else◌, Some, refl, sym, ap, ◌∙◌, subst, append-nil, eq-eqb}
use Rattle.rh_inproxy.specs.Machine as in_proxy
use Rattle.rh_outproxy.specs.Machine as out_proxy
use Rattle.rh_outproxy.specs.Rows.{co as co_of, is_co}
use Rattle.law_moves.proofs.Vocabulary.{Client, Server, CoU, OsD, Going, IsWindow, Leg, Passage, Shell, begun, same_leg}
use Rattle.law_moves.proofs.Lemmas.{leg_is}
use Rattle.rh_line.specs.Lines.{IsLine}
use Rattle.law_role_inproxy.proofs.Vocabulary.{InProxy}
use Rattle.law_role_inproxy.specs.Order as in_order
use Rattle.law_role_client.proofs.Vocabulary.{ClientRole}
use Rattle.law_role_client.specs.Order as client_order
use Rattle.law_role_server.proofs.Vocabulary.{Server as Serving}
use Rattle.law_role_server.specs.Order as server_order
use Rattle.law_node_history.proofs.Vocabulary.{Answer, First, History, IsRun, Line, Settle, events, given, is_up, offered, taken}
use Rattle.law_role_outproxy.proofs.Vocabulary.{ROOMS, OutProxy, OutProxyConfig, new_proxy}
use Rattle.law_role_outproxy.specs.Order as out_order
use Rattle.rh_world.specs.Roles as roles
use Rattle.law_node_begins.specs.ProxiesBegin.Pipes.{co, os, out_pipe}
use Rattle.law_node_streams.specs.Streams.{HasPipes}
use Rattle.law_world_reports.proofs.Vocabulary.{AnyWorld, Before, Direct, Settings, Roles, after, answers, in_window}
use Rattle.law_world_reports.specs.ToldHistories.{history_of}
use Rattle.law_world_order.proofs.Marked.{RouteLaws, down_is_route, up_is_route}
use Rattle.law_world_order.proofs.Vocabulary.{Directions, Numbers, down_route_of, numbers_of, up_route_of}
use Rattle.law_world_ways.specs.ExactPaths.GoingOn.{AllGoOn}
use Rattle.law_world_ways.specs.OnPaths.Ways.{in_node, out_node}
use Rattle.law_world_free.specs.Free.{IsFree}
use Rattle.law_world_waits.specs.HeldUp.{HoldsUpClient}
use Rattle.law_world_waits.specs.Recordings.{TellsWaits, TellsWaitsIn, WaitsWhereQuiet}
use Rattle.law_world_waits.specs.Waits.{waits}
use Rattle.law_world_drained.proofs.Places.{in_number, out_found, out_number}
use Rattle.law_world_drained.proofs.Sound.{client_sound, in_sound, out_sound, server_sound}
use Rattle.law_world_drained.proofs.Ways.{down_none, up_none}
use Rattle.law_world_drained.specs.Drained.{IsKnownDown, IsKnownUp, Writes}
use Rattle.law_world_drained.specs.Left.{LeavesNone, LeavesNoneIn, LeavesNoneWhereQuiet}

pub record Laws : Type 0 where
  pub routes : RouteLaws
  pub pipes : (config : OutProxyConfig)
      → HasPipes out_proxy.rules (new_proxy config) (out_pipe config)
  pub waiting : (before : List Line) (rounds : ℕ) → WaitsWhereQuiet before rounds

flag : (a b : Bool) → (if a then Some CoU else Some OsD) ≡ (if b then Some CoU else Some OsD)
    → b ≡ true → a ≡ true
flag true b same is = refl
flag false true same is = absurd cc
flag false false same is = is

module _ (law : Laws) (lines : List Line) (answered : List Answer) (world : roles.World)
    (tells : TellsWaits lines answered world) where
  abbrev h : History
  h = history_of tells.told.config world tells.told.by

  abbrev numbers : Numbers
  numbers = numbers_of tells.ours

  abbrev d : Directions numbers world h
  d = tells.ways.directions

  abbrev c : ClientRole
  c = world.company.client.role

  abbrev s : Serving
  s = world.company.server.role

  -- ---- the ends

  client_window : IsWindow numbers.client.window
  client_window =
      subst IsWindow (ap (λ (n : Shell ClientRole). n.role.config.window) tells.ours.client)
      (in_window tells.told.config.cwin tells.told.ranges.cwin)

  server_window : IsWindow numbers.window
  server_window =
      subst IsWindow (ap (λ (n : Shell Serving). n.role.line.size) tells.ours.server)
      (in_window tells.told.config.swin tells.told.ranges.swin)

  down_client : d.down.taker.passage.passage.role ≡ c
  down_client =
      d.down.taker.role ∙ sym (ap (λ (n : Shell ClientRole). n.role) tells.ways.nodes.client)

  down_server : d.down.giver.passage.passage.role ≡ s
  down_server =
      d.down.giver.role ∙ sym (ap (λ (n : Shell Serving). n.role) tells.ways.nodes.server)

  up_client : d.up.giver.passage.passage.role ≡ c
  up_client =
      d.up.giver.role ∙ sym (ap (λ (n : Shell ClientRole). n.role) tells.ways.nodes.client)

  up_server : d.up.taker.passage.passage.role ≡ s
  up_server =
      d.up.taker.role ∙ sym (ap (λ (n : Shell Serving). n.role) tells.ways.nodes.server)

  client_line : IsLine c.line
  client_line =
      subst (λ (r : ClientRole). IsLine r.line) down_client
      (client_sound numbers.client d.down.taker.passage client_window d.down.taker.leads)

  server_line : IsLine s.line
  server_line =
      subst (λ (r : Serving). IsLine r.line) up_server
      (server_sound numbers.window d.up.taker.passage server_window d.up.taker.leads)

  module _ (going : AllGoOn numbers h) (free : IsFree world) where
    client_goes : world.company.client.course ≡ Going
    client_goes = ap (λ (n : Shell ClientRole). n.course) tells.ways.nodes.client ∙ going.client

    server_goes : world.company.server.course ≡ Going
    server_goes = ap (λ (n : Shell Serving). n.course) tells.ways.nodes.server ∙ going.server

    held : Writes world → HoldsUpClient c
    held writes = tells.held_up.client client_goes writes.up writes.begun

    -- ---- down

    module _ (known : IsKnownDown world) where
      abbrev n : ℕ
      n = c.current.number

      abbrev o : OutProxy
      o = known.node.role

      out_is : known.node ≡ out_node numbers h n
      out_is =
          subst (IsRun out_proxy.rules (begun (new_proxy (numbers.outs n)) ROOMS) (h.outs n))
          known.there (tells.ways.nodes.outs n)

      out_goes : known.node.course ≡ Going
      out_goes = ap (λ (x : Shell OutProxy). x.course) out_is ∙ going.outs n

      out_role : (d.down.proxies n).passage.role ≡ o
      out_role = (d.down.proxies n).role ∙ sym (ap (λ (x : Shell OutProxy). x.role) out_is)

      out_window : IsWindow (numbers.outs n).window
      out_window =
          subst IsWindow (ap (λ (x : Shell OutProxy). x.role.config.window) (tells.ours.outs n))
          (in_window tells.told.config.owin tells.told.ranges.owin)

      out_line : IsLine o.line
      out_line =
          subst (λ (r : OutProxy). IsLine r.line) out_role
          (out_sound (numbers.outs n) (d.down.proxies n).passage out_window
          (d.down.proxies n).leads)

      -- the proxy has the channel's number
      numbered : o.config.number ≡ n
      numbered =
          let p = d.down.proxies n in
          let pipe =
          subst (λ (q : Passage OutProxy).
          out_proxy.rules.pipe q.role (co n) ≡ out_pipe (numbers.outs n) (co n)) p.leads.reached
          (law.pipes (numbers.outs n) p.leads.moves (co n) p.leads.allowed) in
          let here = flag (is_co p.passage.role (co n))
          (same_leg (co (numbers.outs n).number) (co n)) pipe
          (eq-eqb (numbers.outs n).number n (d.down.numbered n)) in
          ap (λ (r : OutProxy). r.config.number) (sym out_role)
          ∙ ap (λ (l : Leg). l.number) (leg_is (co_of p.passage.role) (co n) here)

      abbrev kept : known.leg.number ≡ s.writing
      kept = out_number s.writing s.outs known.leg known.kept

      down_waits : waits (down_route_of d) ≡ []
      down_waits =
          let place = out_found s.writing s.outs known.leg known.kept in
          down_none (down_route_of d) (down_is_route law.routes d) (tells.down going).untaken c s o
          known.leg (ap client_order.shelves_of down_client)
          (ap (down_route_of d).proxies
          (ap (λ (r : ClientRole). r.current.number) down_client)
          ∙ ap out_order.passer_of out_role)
          (ap (server_order.giver_of d.down.giver.passage.given) down_server) client_line out_line
          free.client free.server (numbered ∙ sym known.same) known.kept kept known.far known.near
          known.short (held known.writes)
          (tells.held_up.outs n known.node known.legs known.there out_goes known.to_client)
          (tells.held_up.out_acks n known.node known.legs known.there out_goes known.from_server
          known.cookie known.begun)
          (tells.held_up.server server_goes known.is_open s.writing place.place known.leg
          place.first place.at
          (subst (λ (k : ℕ). is_up world (os k) ≡ true) (sym known.same) known.from_server))

      pub down_taken : given Server (offered lines) (events answered)
          ≡ taken Client (events answered)
      down_taken =
          (tells.down going).all
          ∙ ap (λ (list : List (List ℕ)). taken Client (events answered) ++ list) down_waits
          ∙ append-nil (taken Client (events answered))

    -- ---- up

    module _ (known : IsKnownUp world) where
      abbrev m : ℕ
      m = s.current.leg

      abbrev i : InProxy
      i = known.node.role

      in_is : known.node ≡ in_node numbers h m
      in_is =
          subst (IsRun in_proxy.rules (in_proxy.first_node (numbers.ins m)) (h.ins m)) known.there
          (tells.ways.nodes.ins m)

      in_goes : known.node.course ≡ Going
      in_goes = ap (λ (x : Shell InProxy). x.course) in_is ∙ going.ins m

      in_role : (d.up.proxies m).passage.role ≡ i
      in_role = (d.up.proxies m).role ∙ sym (ap (λ (x : Shell InProxy). x.role) in_is)

      in_window_of : IsWindow (numbers.ins m).window
      in_window_of =
          subst IsWindow (ap (λ (x : Shell InProxy). x.role.config.window) (tells.ours.ins m))
          (in_window tells.told.config.iwin tells.told.ranges.iwin)

      in_line : IsLine i.line
      in_line =
          subst (λ (r : InProxy). IsLine r.line) in_role
          (in_sound (numbers.ins m) (d.up.proxies m).passage in_window_of (d.up.proxies m).leads)

      up_waits : waits (up_route_of d) ≡ []
      up_waits =
          up_none (up_route_of d) (up_is_route law.routes d) (tells.up going).untaken c s i
          known.leg (ap server_order.shelves_of up_server)
          (ap (up_route_of d).proxies (ap (λ (r : Serving). r.current.leg) up_server)
          ∙ ap in_order.passer_of in_role)
          (ap (client_order.giver_of d.up.giver.passage.given) up_client) server_line in_line
          free.client known.reads (in_number m s.ins known.leg known.kept) known.is_open known.far
          known.near known.short (held known.writes)
          (tells.held_up.ins m known.node known.legs known.there in_goes known.to_server)
          (tells.held_up.server_acks server_goes m known.leg known.kept known.to_server)

      pub up_taken : given Client (offered lines) (events answered)
          ≡ taken Server (events answered)
      up_taken =
          (tells.up going).all
          ∙ ap (λ (list : List (List ℕ)). taken Server (events answered) ++ list) up_waits
          ∙ append-nil (taken Server (events answered))

  leaves_none : LeavesNone lines answered world
  leaves_none = record {
    told = tells.told;
    ours = tells.ours;
    down = down_taken;
    up = up_taken;
  }

-- ---- recordings

module _ (law : Laws) where
  in_roles : (lines : List Line) (answered : List Answer) (world : AnyWorld)
      → TellsWaitsIn lines answered world → LeavesNoneIn lines answered world
  in_roles lines answered Before tells = tt
  in_roles lines answered (Direct world) tells = tt
  in_roles lines answered (Settings config) tells = tt
  in_roles lines answered (Roles world) tells = leaves_none law lines answered world tells

  pub none_left_where_quiet : (before : List Line) (rounds : ℕ)
      → LeavesNoneWhereQuiet before rounds
  none_left_where_quiet before rounds all count quiet =
      let lines = First true ∷ (before ++ Settle rounds ∷ []) in
      in_roles lines (answers Before lines) (after Before lines)
      (law.waiting before rounds all count quiet)
