-- what stands on the legs of a world of roles (profile)
use Rattle.std.specs.Prelude.{◌≡◌, ◌≤◌, ◌⊎◌, not, ℕ, List, [], Bool, true, if◌then◌else◌, Some}
use Rattle.std.specs.declared.option.Option.{Option}
use Rattle.rh_text.specs.declared.ends.Dir.TheVariants.{U, D}
use Rattle.law_order.specs.Items.{Item}
use Rattle.law_order.specs.Paths.{Losses, OnLegs, reader}
use Rattle.law_order.specs.Routes.{Route}
use Rattle.rh_sig.specs.declared.name.Pipe.TheVariants.{CiU, IsU, CoD, OsD}
use Rattle.rh_shell.specs.declared.course.Course.{Course}
use Rattle.rh_shell.specs.Rules.{Message}
use Rattle.rh_shell.specs.Shells.{Shell, begun, is_going}
use Rattle.rh_inproxy.specs.Machine as in_proxy
use Rattle.rh_inproxy.specs.State.{InProxy}
use Rattle.rh_outproxy.specs.declared.out_proxy.TheConstants.{ROOMS}
use Rattle.rh_outproxy.specs.Machine as out_proxy
use Rattle.rh_outproxy.specs.OutProxy.{OutProxy, new_proxy}
use Rattle.rh_client.specs.declared.state.ClientRole.{ClientRole}
use Rattle.rh_client.specs.Client as client
use Rattle.rh_server.specs.Servers as server
use Rattle.rh_server.specs.States.{Server}
use Rattle.rh_wires.specs.Readers.{reader_of}
use Rattle.rh_nodes.specs.World.{World}
use Rattle.law_moves.specs.Moving.{after_events, after_end_events}
use Rattle.law_role_inproxy.specs.Order.{item_came}
use Rattle.law_role_client.specs.Order.{down_items, has_leg}
use Rattle.law_role_server.specs.Order.{in_items}
use Rattle.law_node_history.specs.Histories.{History, IsRun, in_place, out_place}
use Rattle.law_role_outproxy.specs.Order.{from_server}
use Rattle.law_node_streams.specs.Streams.{all_given, all_taken}
use Rattle.law_node_begins.specs.ProxiesBegin.Pipes.{ci, co, is, os}
use Rattle.law_peers_routes.specs.Upwards as goes_up
use Rattle.law_world_order.specs.Directions.{Directions, down_route_of, up_route_of}
use Rattle.law_world_order.specs.Flows.{Numbers}
use Rattle.law_world_ways.specs.OnPaths.Laws.{IsOnItsWay}
use Rattle.law_world_ways.specs.OnPaths.Legs.{IsInUse, has_passed, on_leg}
use Rattle.law_world_ways.specs.OnPaths.OnWay.{is_lost, items_on_way}

-- ---- the nodes, as their histories made them

abbrev pub client_node : Numbers → History → Shell ClientRole
client_node numbers h =
    after_end_events client.rules client.acts (client.first_client numbers.client) h.client

abbrev pub server_node : Numbers → History → Shell Server
server_node numbers h =
    after_end_events server.rules server.acts (server.new_server numbers.window) h.server

abbrev pub in_node : Numbers → History → ℕ → Shell InProxy
in_node numbers h n =
    after_events in_proxy.rules (in_proxy.first_node (numbers.ins n)) (h.ins n)

abbrev pub out_node : Numbers → History → ℕ → Shell OutProxy
out_node numbers h n =
    after_events out_proxy.rules (begun (new_proxy (numbers.outs n)) ROOMS) (h.outs n)

-- ---- the legs of a direction

-- what stands on them, as order sees it: on the near legs, and on the far legs that there are
abbrev pub on_legs : (Message → List Item) → (Message → List Item) → (ℕ → Bool)
    → (ℕ → Option (List Message)) → (ℕ → Option (List Message)) → OnLegs
on_legs near_view far_view has near far = record {
  near = λ n. items_on_way near_view (near n);
  far = λ n. if has n then items_on_way far_view (far n) else [];
}

-- the legs that give nothing more, and the proxies that closed
abbrev pub losses : (ℕ → Option (List Message)) → (ℕ → Option (List Message)) → (ℕ → Course)
    → Losses
losses near far course = record {
  near = λ n. is_lost (near n);
  far = λ n. is_lost (far n);
  closed = λ n. not (is_going (course n));
}

-- ---- down

-- from the server to the out proxy of a number
abbrev pub down_near : {K C S I O : Type 0} → Numbers → World K C S I O → History → ℕ
    → Option (List Message)
down_near numbers v h n =
    on_leg v h (os n) D (Some OsD) (server_node numbers h) out_proxy.rules (out_node numbers h n)

-- and from there to the client
abbrev pub down_far : {K C S I O : Type 0} → Numbers → World K C S I O → History → ℕ
    → Option (List Message)
down_far numbers v h n =
    on_leg v h (co n) D (Some CoD) (out_node numbers h n) client.rules (client_node numbers h)

-- there is no out proxy 0
abbrev pub down_on : {K C S I O : Type 0} → Numbers → World K C S I O → History → OnLegs
down_on numbers v h =
    on_legs from_server down_items has_leg (down_near numbers v h) (down_far numbers v h)

abbrev pub down_lost : {K C S I O : Type 0} → Numbers → World K C S I O → History → Losses
down_lost numbers v h =
    losses (down_near numbers v h) (down_far numbers v h) (λ n. (out_node numbers h n).course)

-- ---- up

-- from the client to the in proxy that reads the channel
abbrev pub up_near : {K C S I O : Type 0} → Numbers → World K C S I O → History → ℕ
    → Option (List Message)
up_near numbers v h n =
    on_leg v h (ci n) U (Some CiU) (client_node numbers h) in_proxy.rules
    (in_node numbers h (reader_of v.readers n))

-- and from an in proxy to the server
abbrev pub up_far : {K C S I O : Type 0} → Numbers → World K C S I O → History → ℕ
    → Option (List Message)
up_far numbers v h n =
    on_leg v h (is n) U (Some IsU) (in_node numbers h n) server.rules (server_node numbers h)

-- the channels with a leg to the server
abbrev pub up_on : {K C S I O : Type 0} → Numbers → World K C S I O → History → OnLegs
up_on numbers v h =
    on_legs item_came in_items (goes_up.has_leg (reader_of v.readers)) (up_near numbers v h)
    (up_far numbers v h)

abbrev pub up_lost : {K C S I O : Type 0} → Numbers → World K C S I O → History → Losses
up_lost numbers v h =
    losses (up_near numbers v h) (up_far numbers v h) (λ n. (in_node numbers h n).course)

-- ---- a moment of a world

-- the nodes are those of the world, as far as they are there
pub record AreNodes {K : Type 0} (numbers : Numbers)
    (v : World K ClientRole Server InProxy OutProxy) (h : History) : Type 0 where
  pub client : v.company.client ≡ client_node numbers h
  pub server : v.company.server ≡ server_node numbers h
  pub ins : (n : ℕ) → IsRun in_proxy.rules (in_proxy.first_node (numbers.ins n)) (h.ins n)
      (in_place v.company n)
  pub outs : (n : ℕ) → IsRun out_proxy.rules (begun (new_proxy (numbers.outs n)) ROOMS) (h.outs n)
      (out_place v.company n)

-- a direction is from what an end accepted to what was taken at the other
pub record IsBetween (r : Route) (accepted took : List (List ℕ)) : Type 0 where
  pub given : r.giver.given ≡ accepted
  pub taken : r.taker.taken ≡ took

-- in both directions what was put and did not come is on its way, or its leg is lost
pub record AreOnTheirWay {K : Type 0} (numbers : Numbers)
    (v : World K ClientRole Server InProxy OutProxy) (h : History) : Type 0 where
  pub nodes : AreNodes numbers v h
  pub directions : Directions numbers v h
  pub down : IsOnItsWay (down_route_of directions) (down_on numbers v h) (down_lost numbers v h)
  pub up : IsOnItsWay (up_route_of directions) (up_on numbers v h) (up_lost numbers v h)
  pub down_ends : IsBetween (down_route_of directions)
      (all_given server.rules server.acts (server.new_server numbers.window) h.server)
      (all_taken client.rules client.acts (client.first_client numbers.client) h.client)
  pub up_ends : IsBetween (up_route_of directions)
      (all_given client.rules client.acts (client.first_client numbers.client) h.client)
      (all_taken server.rules server.acts (server.new_server numbers.window) h.server)

-- ---- legs that are in use

-- each leg down, of the channels from the client's current one up to that on which the server
-- writes, is in use, or its handover mark or END passed
pub record AreInUseDown {K : Type 0} (numbers : Numbers)
    (v : World K ClientRole Server InProxy OutProxy) (h : History) (r : Route) : Type 0 where
  pub near : (n : ℕ) → r.taker.shelves.current ≤ n → n ≤ r.giver.writing
      → IsInUse v h (os n) D (server_node numbers h) out_proxy.rules (out_node numbers h n)
      ⊎ (has_passed (r.came (reader r.legs n) n) ≡ true)
  pub far : (n : ℕ) → r.taker.shelves.current ≤ n → n ≤ r.giver.writing
      → IsInUse v h (co n) D (out_node numbers h n) client.rules (client_node numbers h)
      ⊎ (has_passed (r.got n) ≡ true)

-- and each leg up, from the server's current one; a channel that shares its predecessor's leg to
-- the server has none of its own
pub record AreInUseUp {K : Type 0} (numbers : Numbers)
    (v : World K ClientRole Server InProxy OutProxy) (h : History) (r : Route) : Type 0 where
  pub near : (n : ℕ) → r.taker.shelves.current ≤ n → n ≤ r.giver.writing
      → IsInUse v h (ci n) U (client_node numbers h) in_proxy.rules
      (in_node numbers h (reader_of v.readers n))
      ⊎ (has_passed (r.came (reader r.legs n) n) ≡ true)
  pub far : (n : ℕ) → r.taker.shelves.current ≤ n → n ≤ r.giver.writing → r.legs n ≡ true
      → IsInUse v h (is n) U (in_node numbers h n) server.rules (server_node numbers h)
      ⊎ (has_passed (r.got n) ≡ true)
