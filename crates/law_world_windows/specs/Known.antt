-- what the laws of closes know: of a node, of what is read, of a world, and of the hops on one leg
use Rattle.std.specs.Prelude.{◌≡◌, ◌++◌, ℕ, List, None}
use Rattle.std.specs.List.{AllByRecursion}
use Rattle.std.specs.declared.option.Option.{Option}
use mathlib.Core.List.{IsPrefix}
use Rattle.rh_text.specs.declared.ends.Dir.{Dir}
use Rattle.rh_window.specs.Sides.{IsWindow}
use Rattle.rh_sig.specs.declared.name.Pipe.{Pipe}
use Rattle.rh_line.specs.declared.cause.Cause.{Cause}
use Rattle.rh_line.specs.declared.leg.Leg.{Leg}
use Rattle.rh_line.specs.declared.leg.LegKind.TheVariants.{ClientIn, ClientOut, InServer, OutServer}
use Rattle.rh_shell.specs.Rules.{Message, Rules}
use Rattle.rh_shell.specs.Shells.{Shell, begun, bytes}
use Rattle.rh_inproxy.specs.declared.state.InProxyConfig.{InProxyConfig}
use Rattle.rh_inproxy.specs.Machine as in_proxy
use Rattle.rh_inproxy.specs.State as in_state
use Rattle.rh_inproxy.specs.State.{InProxy}
use Rattle.rh_outproxy.specs.declared.out_proxy.TheConstants.{ROOMS}
use Rattle.rh_outproxy.specs.declared.state.OutProxyConfig.{OutProxyConfig}
use Rattle.rh_outproxy.specs.Machine as out_proxy
use Rattle.rh_outproxy.specs.OutProxy.{OutProxy, new_proxy}
use Rattle.rh_client.specs.declared.state.ClientRole.{ClientRole}
use Rattle.rh_client.specs.Client as client
use Rattle.rh_server.specs.Servers as server
use Rattle.rh_server.specs.States.{Server}
use Rattle.rh_wires.specs.Wires.{receiver, sender}
use Rattle.rh_company.specs.declared.event.Event as told
use Rattle.rh_company.specs.Telling.{tell}
use Rattle.rh_nodes.specs.Opening.{Makers}
use Rattle.rh_nodes.specs.Settling.{leg_at}
use Rattle.rh_nodes.specs.World.{World}
use Rattle.law_moves.specs.Carrying.{spelled}
use Rattle.law_moves.specs.Laws.{ClosedWith, Stays}
use Rattle.law_moves.specs.Legible.Legible.{IsFineMessage, MayGoOn, ReadsBack}
use Rattle.law_moves.specs.Moves.{AreAllowed, AreAllowedAtEnd, EndMove, Move, all_end_moved, all_moved, end_started, started}
use Rattle.law_moves.specs.Moving.{Event, after_events}
use Rattle.law_moves.specs.ReadBack.Reading.{Begins, all_read_of, begin, messages_from, messages_read, reading_after}
use Rattle.law_moves.specs.ReadBack.Well.{Answers, ReadsWell, ReadsWellFrom}
use Rattle.law_node_history.specs.Carried.{IsTraced, LegsComeUpOnce, drawn_by, end_node, events_of, heard_on}
use Rattle.law_node_history.specs.Changes.{Change, Leads, MayChange, changed}
use Rattle.law_node_history.specs.Histories.{History, noted}
use Rattle.law_node_causes.specs.Closings.{ClosesWith, ComesFrom, MayClose}
use Rattle.law_node_causes.specs.Refusals.{MayRefuseOn}
use Rattle.law_node_traces.specs.Traced.Cookies.{ByChanges}
use Rattle.law_node_traces.specs.Traced.Ours.{AreOurs, deeds, rules}
use Rattle.law_node_traces.specs.Traced.Recordings.{IsKnown, history_at}
use Rattle.law_world_order.specs.Flows.{IsFlowing, numbers_of, read_on}
use Rattle.law_world_honest.specs.Honesty.Honest.{well_on}
use Rattle.law_world_windows.specs.Hops.{ReceivesWithin, SendsWithin, is_leg, os_leg}

-- ---- a node, whatever its role is

pub record NodeLaws {S : Type 0} (its : Rules S) : Type 0 where
  -- it makes no difference how what comes is cut
  pub cuts : (s : Shell S) (leg : Leg) (a b : List ℕ)
      → bytes its s leg (a ++ b) ≡ bytes its (bytes its s leg a).0 leg b
  -- it closes once, and keeps the first cause
  pub stays : (s : Shell S) (why : Cause) → ClosedWith why s.course → Stays its s why
  pub closed : (s : Shell S) (event : told.Event) (why : Cause) → ClosesWith its s event why
      → ClosedWith why (tell its s event).0.course
  pub again : (s : Shell S) (why : Cause) (event : told.Event) → ClosedWith why s.course
      → (tell its s event).1 ≡ None
  -- its cause tells the event that closed it, and the leg
  pub amiss : (s : Shell S) (event : told.Event) (why : Cause) → ClosesWith its s event why
      → MayClose its s event why
  pub comes : (s : Shell S) (event : told.Event) (why : Cause) → ClosesWith its s event why
      → ComesFrom its s event why

pub record NodesLaws : Type 0 where
  pub client : NodeLaws client.rules
  pub server : NodeLaws server.rules
  pub ins : NodeLaws in_proxy.rules
  pub outs : NodeLaws out_proxy.rules

-- ---- messages that were put

pub record Readings : Type 0 where
  pub put : (pipe : Option Pipe) (put : List Message) (drawn heard : List ℕ) → Begins pipe put
      → AllByRecursion (ReadsBack pipe) put → IsPrefix drawn (spelled put)
      → IsPrefix heard drawn → IsPrefix (messages_read pipe heard) (all_read_of put)
  pub fine : (pipe : Option Pipe) (put came : List Message) → AllByRecursion (MayGoOn pipe) put
      → IsPrefix came (all_read_of put) → AllByRecursion IsFineMessage came
  pub parts : (pipe : Option Pipe) (a b : List ℕ)
      → messages_read pipe (a ++ b)
      ≡ messages_read pipe a ++ messages_from pipe (reading_after pipe (begin pipe) a) b
  pub piece : (well : Answers) (pipe : Option Pipe) (heard piece : List ℕ)
      → ReadsWell well pipe (heard ++ piece)
      → ReadsWellFrom well pipe (reading_after pipe (begin pipe) heard) piece

-- ---- a world, and all that changes lead to from it

pub record Laws {K : Type 0} (m : Makers K InProxy OutProxy)
    (w : World K ClientRole Server InProxy OutProxy) (ours : AreOurs m w.company w.cast)
    : Type 0 where
  pub known : (v : World K ClientRole Server InProxy OutProxy) (leads : Leads rules m deeds w v)
      → IsKnown m w v leads
  pub flowing : (v : World K ClientRole Server InProxy OutProxy) (by : ByChanges rules m deeds w v)
      → IsFlowing (numbers_of ours) w v (history_at m w v by.leads)
  pub well : (v : World K ClientRole Server InProxy OutProxy) (by : ByChanges rules m deeds w v)
      → (change : Change) → MayChange rules v change → (leg : Leg) (dir : Dir)
      → ReadsWell (well_on leg.kind dir) (read_on leg.kind dir)
      (heard_on leg (events_of (noted v (history_at m w v by.leads) change)
      (end_node (changed rules m deeds v change).readers leg (receiver dir))))
  pub before : (v : World K ClientRole Server InProxy OutProxy) (h : History)
      → IsTraced rules m deeds w.company v h → LegsComeUpOnce rules m deeds w.company v.cast
      → (change : Change) → MayChange rules v change → (leg : Leg) (dir : Dir)
      → IsPrefix (heard_on leg (events_of (noted v h change)
      (end_node (changed rules m deeds v change).readers leg (receiver dir))))
      (drawn_by rules m deeds w.company v.cast h (end_node v.readers leg (sender dir)) leg)
  pub drawn : (v : World K ClientRole Server InProxy OutProxy) (h : History)
      → IsTraced rules m deeds w.company v h → (leg : Leg) (dir : Dir)
      → IsPrefix (heard_on leg (events_of h (end_node v.readers leg (receiver dir))))
      (drawn_by rules m deeds w.company v.cast h (end_node v.readers leg (sender dir)) leg)

-- ---- the hops that lie on one leg (MS-RPCH 3.2)

pub record HopLaws : Type 0 where
  pub nodes : NodesLaws
  pub readings : Readings
  pub server_receives : (window n : ℕ) (moves : List EndMove) → IsWindow window
      → AreAllowedAtEnd server.rules server.acts (end_started (server.first window)) moves
      → ReceivesWithin server.rules (is_leg n)
      (all_end_moved server.rules server.acts (end_started (server.first window)) moves).passage
  pub server_sends : (window n : ℕ) (moves : List EndMove)
      → AreAllowedAtEnd server.rules server.acts (end_started (server.first window)) moves
      → SendsWithin server.rules (os_leg n)
      (all_end_moved server.rules server.acts (end_started (server.first window)) moves).passage
  pub in_sends : (config : InProxyConfig) (moves : List Move)
      → AreAllowed in_proxy.rules (started (in_state.first config)) moves
      → SendsWithin in_proxy.rules (is_leg config.number)
      (all_moved in_proxy.rules (started (in_state.first config)) moves)
  pub out_receives : (config : OutProxyConfig) (moves : List Move) → IsWindow config.window
      → AreAllowed out_proxy.rules (started (new_proxy config)) moves
      → ReceivesWithin out_proxy.rules (os_leg config.number)
      (all_moved out_proxy.rules (started (new_proxy config)) moves)
  pub in_refuses : (config : InProxyConfig) (events : List Event)
      → MayRefuseOn (leg_at ClientIn config.number) (leg_at InServer config.number)
      (after_events in_proxy.rules (in_proxy.first_node config) events).course
  pub out_refuses : (config : OutProxyConfig) (events : List Event)
      → MayRefuseOn (leg_at ClientOut config.number) (leg_at OutServer config.number)
      (after_events out_proxy.rules (begun (new_proxy config) ROOMS) events).course
