-- what the roles expect of each other at the moments of a virtual connection (MS-RPCH 3.2; profile)
use Rattle.std.specs.Prelude.{◌≡◌, ◌≤◌, ℕ, List, Some}
use Rattle.rh_rts.specs.declared.command.Cookie.{Cookie}
use Rattle.rh_line.specs.declared.cause.Cause.{Cause}
use Rattle.rh_line.specs.declared.cause.Cause.TheVariants.{CookieMismatch, Unexpected}
use Rattle.rh_line.specs.declared.leg.Leg.{Leg}
use Rattle.rh_record.specs.declared.answer.Who.{Who}
use Rattle.rh_shell.specs.declared.course.Course.TheVariants.{Going}
use Rattle.rh_shell.specs.declared.stage.Stage.TheVariants as stage
use Rattle.rh_shell.specs.NearEnds.{NearEnd}
use Rattle.rh_shell.specs.Shells.{begun, end_at}
use Rattle.rh_inproxy.specs.Machine as in_proxy
use Rattle.rh_inproxy.specs.State.{InProxy}
use Rattle.rh_outproxy.specs.declared.out_proxy.TheConstants.{ROOMS}
use Rattle.rh_outproxy.specs.Machine as out_proxy
use Rattle.rh_outproxy.specs.OutProxy.{OutProxy, new_proxy}
use Rattle.rh_client.specs.declared.state.ClientRole.{ClientRole}
use Rattle.rh_client.specs.Client as client
use Rattle.rh_client.specs.State.{ci, co}
use Rattle.rh_server.specs.Servers as server
use Rattle.rh_server.specs.States.{Server, no_cookie}
use Rattle.rh_wires.specs.Readers.{reader_of}
use Rattle.rh_nodes.specs.Opening.{Makers}
use Rattle.rh_nodes.specs.World.{World}
use Rattle.law_moves.specs.Moving.{Event, after_events}
use Rattle.law_moves.specs.Wires.{of_leg}
use Rattle.law_moves.specs.Passages.Rising.{CameUpWith}
use Rattle.law_moves.specs.ReadBack.Reading.{all_read_of}
use Rattle.law_node_history.specs.Carried.{happened}
use Rattle.law_node_history.specs.Changes.{ByLines, Change, MayChange}
use Rattle.law_node_history.specs.Closes.{ClosesNode}
use Rattle.law_node_history.specs.Histories.{History, IsNew}
use Rattle.law_peers_moments.specs.Expecting.{Expects, HasNoPingFirst}
use Rattle.law_peers_moments.specs.Moments.{Moves, Numbers, client_behind, in_behind, out_behind, server_behind}
use Rattle.law_node_traces.specs.Traced.Cookies.{ByChanges}
use Rattle.law_node_traces.specs.Traced.Ours.{AreOurs, deeds, rules}
use Rattle.law_node_traces.specs.Traced.Recordings.{history_at}
use Rattle.law_world_order.specs.Flows as fifo
use Rattle.law_world_order.specs.Flows.{IsFlowing}
use Rattle.law_world_order.specs.Premises.{AreDistinct, AreInRange}
use Rattle.law_world_order.specs.FirstTexts.{IsPort}
use Rattle.law_world_order.specs.Pasts.{moves_of, numbers}
use Rattle.law_world_windows.specs.Hops.{is_leg, os_leg}

-- ---- what the roles expect at each

-- what holds of moves, by the in proxies that read the IN channels of the client
abbrev pub Facts : Type 1
Facts = (ℕ → ℕ) → Moves → Type 0

-- the client expects what an out proxy put on its co leg
pub record ClientExpects (all : Numbers) (reader : ℕ → ℕ) (moves : Moves) : Type 0 where
  pub next : (n : ℕ) → Expects client.rules (client_behind all moves).passage (co n)
      (all_read_of (of_leg (co n) (out_behind all moves n).put))

-- an in proxy expects what the client put on a ci leg that it reads, where no Ping goes first
pub record InExpectsClient (all : Numbers) (reader : ℕ → ℕ) (moves : Moves) : Type 0 where
  pub next : (m n : ℕ) → reader n ≡ m → 1 ≤ m
      → Expects in_proxy.rules (in_behind all moves m) (ci n)
      (all_read_of (of_leg (ci n) (client_behind all moves).passage.put))
  pub first : (n : ℕ) → HasNoPingFirst (of_leg (ci n) (client_behind all moves).passage.put)

-- and what the server put on its is leg
pub record InExpectsServer (all : Numbers) (reader : ℕ → ℕ) (moves : Moves) : Type 0 where
  pub next : (m : ℕ) → Expects in_proxy.rules (in_behind all moves m) (is_leg m)
      (all_read_of (of_leg (is_leg m) (server_behind all moves).passage.put))

pub record InExpects (all : Numbers) (reader : ℕ → ℕ) (moves : Moves) : Type 0 where
  pub client : InExpectsClient all reader moves
  pub server : InExpectsServer all reader moves

-- an out proxy expects what the client put on its co leg, where no Ping goes first
pub record OutExpectsClient (all : Numbers) (reader : ℕ → ℕ) (moves : Moves) : Type 0 where
  pub next : (n : ℕ) → Expects out_proxy.rules (out_behind all moves n) (co n)
      (all_read_of (of_leg (co n) (client_behind all moves).passage.put))
  pub first : (n : ℕ) → HasNoPingFirst (of_leg (co n) (client_behind all moves).passage.put)

-- and what the server put on its os leg
pub record OutExpectsServer (all : Numbers) (reader : ℕ → ℕ) (moves : Moves) : Type 0 where
  pub next : (n : ℕ) → Expects out_proxy.rules (out_behind all moves n) (os_leg n)
      (all_read_of (of_leg (os_leg n) (server_behind all moves).passage.put))

-- the server expects what an in proxy put to it, where no Ping goes first
pub record ServerExpectsIn (all : Numbers) (reader : ℕ → ℕ) (moves : Moves) : Type 0 where
  pub next : (m : ℕ) → Expects server.rules (server_behind all moves).passage (is_leg m)
      (all_read_of (of_leg (is_leg m) (in_behind all moves m).put))
  pub first : (m : ℕ) → HasNoPingFirst (of_leg (is_leg m) (in_behind all moves m).put)

-- and what an out proxy put to it
pub record ServerExpectsOut (all : Numbers) (reader : ℕ → ℕ) (moves : Moves) : Type 0 where
  pub next : (n : ℕ) → Expects server.rules (server_behind all moves).passage (os_leg n)
      (all_read_of (of_leg (os_leg n) (out_behind all moves n).put))
  pub first : (n : ℕ) → HasNoPingFirst (of_leg (os_leg n) (out_behind all moves n).put)

-- ---- premises

-- what is said of a world, of one that changes led to from it, and of what happened until then
abbrev pub Premise : Type 0 → Type 1
Premise K =
    Makers K InProxy OutProxy → World K ClientRole Server InProxy OutProxy
    → World K ClientRole Server InProxy OutProxy → History → Type 0

-- of what happened at the client
abbrev pub OfClient : {K : Type 0} → (List Event → Type 0) → Premise K
OfClient Fits m w v h = Fits (happened h.client)

-- no two legs of one kind came up under one cookie, and no OUT leg under the cookie of zeros, which
-- a server takes for none (MS-RPCH 2.2.3.1; profile)
pub record HaveCookies (events : List Event) : Type 0 where
  pub distinct : AreDistinct events
  pub some : (n : ℕ) → CameUpWith events (co n) no_cookie → ⊥

-- all of it happened by changes of lines alone, and no two legs of one kind came up at the client
-- under one cookie
pub record IsByLines {K : Type 0} (m : Makers K InProxy OutProxy)
    (w v : World K ClientRole Server InProxy OutProxy) (h : History) : Type 0 where
  pub lines : ByLines rules m deeds w v
  pub same : history_at m w v lines.leads ≡ h
  pub distinct : AreDistinct (happened h.client)

-- ---- and in the worlds of roles

-- a world has streams that the roles expect so, where that is said of it
pub record IsExpecting {K : Type 0} (Fits : Premise K) (Holds : Numbers → Facts)
    (m : Makers K InProxy OutProxy) (w : World K ClientRole Server InProxy OutProxy)
    (ours : AreOurs m w.company w.cast) (v : World K ClientRole Server InProxy OutProxy)
    (by : ByChanges rules m deeds w v) : Type 0
  where
    pub flowing : IsFlowing (fifo.numbers_of ours) w v (history_at m w v by.leads)
    pub expects : Fits m w v (history_at m w v by.leads)
        → Holds (numbers ours) (reader_of v.readers) (moves_of flowing)

-- so it is in each world that changes of lines and half steps reach from new roles whose numbers
-- are in their ranges
abbrev pub WorldsExpect : (K : Type 0) → Premise K → (Numbers → Facts) → Type 0
WorldsExpect K Fits Holds =
    (m : Makers K InProxy OutProxy) (w : World K ClientRole Server InProxy OutProxy) → IsNew w
    → (ours : AreOurs m w.company w.cast) → AreInRange (fifo.numbers_of ours)
    → (v : World K ClientRole Server InProxy OutProxy) (by : ByChanges rules m deeds w v)
    → IsExpecting Fits Holds m w ours v by

-- ---- behind a request

-- an out proxy whose node goes on and reads frames on the leg of its client expects what that put
abbrev pub OutsServe : {K : Type 0} {m : Makers K InProxy OutProxy}
    {w : World K ClientRole Server InProxy OutProxy} (ours : AreOurs m w.company w.cast)
    (v : World K ClientRole Server InProxy OutProxy) (h : History)
    → IsFlowing (fifo.numbers_of ours) w v h → Type 0
OutsServe ours v h flowing =
    (n : ℕ) (end : NearEnd)
    → (let node = after_events out_proxy.rules (begun (new_proxy (ours.out_config n)) ROOMS)
    (h.outs n) in
    node.course ≡ Going → end_at node (co n) ≡ Some end → end.intake.stage ≡ stage.Frames
    → Expects out_proxy.rules (flowing.flows.outs n).passage (co n)
    (all_read_of (of_leg (co n) flowing.flows.client.passage.passage.put)))

-- so it is in each such world where the port of the client's server is one, whichever moves lead to
-- the roles
abbrev pub WorldsServe : Type 0 → Type 0
WorldsServe K =
    (m : Makers K InProxy OutProxy) (w : World K ClientRole Server InProxy OutProxy) → IsNew w
    → (ours : AreOurs m w.company w.cast) → IsPort ours.config.port
    → (v : World K ClientRole Server InProxy OutProxy) (by : ByChanges rules m deeds w v)
    → (flowing : IsFlowing (fifo.numbers_of ours) w v (history_at m w v by.leads))
    → OutsServe ours v (history_at m w v by.leads) flowing

-- ---- what closes no node

-- no further change closes the node with that cause
abbrev pub NeverCloses : {K : Type 0} → World K ClientRole Server InProxy OutProxy → Who → Cause
    → Type 0
NeverCloses v node why =
    (change : Change) → MayChange rules v change → ClosesNode rules v change node why → ⊥

-- none closes it since what came on the leg was not to come there
abbrev pub IsExpected : {K : Type 0} → World K ClientRole Server InProxy OutProxy → Who → Leg
    → Type 0
IsExpected v node leg = (place : ℕ) → NeverCloses v node (Unexpected leg place)

-- nor since it named another cookie
abbrev pub RefusesNone : {K : Type 0} → World K ClientRole Server InProxy OutProxy → Who → Leg
    → Type 0
RefusesNone v node leg =
    IsExpected v node leg
    × ((expected got : Cookie) → NeverCloses v node (CookieMismatch leg expected got))
