-- in a world of roles at rest each node that goes on is held up on each of its legs that is up
use Rattle.rh_text.specs.declared.ends.Side.TheVariants as side
use Rattle.law_order.proofs.Vocabulary.{◌≡◌, ℕ, List, Bool, true, false, if◌then◌else◌, get_or, Some, None, refl, sym, ap, ◌∙◌, subst, eq-eqb}
use Rattle.rh_record.specs.declared.answer.Who.TheVariants as who
use Rattle.rh_inproxy.specs.Machine as in_proxy
use Rattle.rh_inproxy.specs.State.{is_server_leg}
use Rattle.rh_outproxy.specs.Machine as out_proxy
use Rattle.rh_outproxy.specs.Rows.{is_co}
use Rattle.rh_client.specs.Client as client
use Rattle.rh_server.specs.Servers as server
use Rattle.rh_company.specs.Company as company
use Rattle.rh_company.specs.Places as places
use Rattle.law_moves.proofs.Vocabulary.{CoU, IsD, OsD, Side, Leg, same_leg, Going, Rules, Shell, begun, Event, after_events}
use Rattle.law_role_inproxy.proofs.Vocabulary.{InProxy}
use Rattle.law_role_client.proofs.Vocabulary.{ClientRole}
use Rattle.law_role_server.proofs.Vocabulary.{Server}
use Rattle.law_node_history.proofs.Vocabulary.{Absent, Here, History, IsRun, Makers, Place, Who, World, ask, at, came_up, events_of, happened, in_place, is_up, out_place}
use Rattle.law_node_history.proofs.Numbers.{asked}
use Rattle.law_role_outproxy.proofs.Vocabulary.{ROOMS, OutProxy, new_proxy}
use Rattle.law_node_begins.specs.ProxiesBegin.Pipes.{ci, co, in_pipe, is, os, out_pipe}
use Rattle.law_node_traces.proofs.Vocabulary.{deeds, rules}
use Rattle.law_world_order.proofs.Vocabulary.{Numbers}
use Rattle.law_world_rest.specs.Rest.{IsAtRest}
use Rattle.law_world_ways.specs.ExactWays.Keeping.{KnowsLeg}
use Rattle.law_world_ways.specs.OnPaths.Ways.{AreNodes, client_node, in_node, out_node, server_node}
use Rattle.law_world_waits.proofs.HeldUp.Clients.{client_held_up}
use Rattle.law_world_waits.proofs.HeldUp.InProxies.{in_held_up}
use Rattle.law_world_waits.proofs.HeldUp.OutProxies.{out_acks_none, out_held_up}
use Rattle.law_world_waits.proofs.HeldUp.Servers.{server_acks_none, server_held_up}
use Rattle.law_world_waits.proofs.Kept.{puts_none}
use Rattle.law_world_waits.specs.HeldUp.{AcksNoneOut, HoldsUpIn, HoldsUpOut}
use Rattle.law_world_waits.specs.HeldUpWorlds.{AreHeldUp}
use Rattle.law_world_waits.specs.Puts.{PutNothing, PutsNoneThere}

-- ---- what this stands on

-- each role knows the legs that came up, and each proxy its number
pub record Knows (numbers : Numbers) (h : History) : Type 0 where
  pub client : (leg : Leg) → KnowsLeg client.rules (client_node numbers h) leg
      (came_up leg (happened h.client))
  pub server : (leg : Leg) → KnowsLeg server.rules (server_node numbers h) leg
      (came_up leg (happened h.server))
  pub ins : (n : ℕ) (leg : Leg) → KnowsLeg in_proxy.rules (in_node numbers h n) leg
      (came_up leg (h.ins n))
  pub outs : (n : ℕ) (leg : Leg) → KnowsLeg out_proxy.rules (out_node numbers h n) leg
      (came_up leg (h.outs n))
  pub in_pipes : (n : ℕ) (leg : Leg) → in_proxy.rules.pipe (in_node numbers h n).role leg
      ≡ in_pipe (numbers.ins n) leg
  pub out_pipes : (n : ℕ) (leg : Leg) → out_proxy.rules.pipe (out_node numbers h n).role leg
      ≡ out_pipe (numbers.outs n) leg
  pub in_number : (n : ℕ) → (numbers.ins n).number ≡ n
  pub out_number : (n : ℕ) → (numbers.outs n).number ≡ n

-- ---- the proxies' own legs

server_flag : (a b : Bool) → (if a then Some IsD else None) ≡ (if b then Some IsD else None)
    → b ≡ true → a ≡ true
server_flag true b same is = refl
server_flag false true same is = absurd cc
server_flag false false same is = is

client_flag : (a b : Bool) → (if a then Some CoU else Some OsD) ≡ (if b then Some CoU else Some OsD)
    → b ≡ true → a ≡ true
client_flag true b same is = refl
client_flag false true same is = absurd cc
client_flag false false same is = is

-- ---- a proxy

module _ {S : Type 0} (its : Rules S) (made : Shell S) (events : List Event) (leg : Leg)
    (list : List (Place S)) (n : ℕ) (node : Shell S) (legs : ℕ)
    (there : get_or list n Absent ≡ Here node legs)
    (run : IsRun its made events (get_or list n Absent)) where
  pub node_is : node ≡ after_events its made events
  node_is = subst (IsRun its made events) there run

  pub proxy_puts_none : node.course ≡ Going → PutsNoneThere its (get_or list n Absent) leg
      → ask (places.finished its leg) false list n ≡ false
      → its.was_up (after_events its made events).role leg ≡ true → its.put node.role leg ≡ None
  proxy_puts_none going none unfinished known =
      puts_none its node leg going
      (subst (λ (p : Place S). places.finished its leg p ≡ false) there
      (sym (asked Absent (places.finished its leg) list n) ∙ unfinished))
      (ap (λ (s : Shell S). its.was_up s.role leg) node_is ∙ known)
      (subst (λ (p : Place S). PutsNoneThere its p leg) there none)

-- ---- the world

module _ {K : Type 0} (m : Makers K InProxy OutProxy) (numbers : Numbers)
    (v : World K ClientRole Server InProxy OutProxy) (h : History) (nodes : AreNodes numbers v h)
    (rest : IsAtRest rules m deeds v)
    (puts : (leg : Leg) → is_up v leg ≡ true → PutNothing rules v leg)
    (rose : (leg : Leg) → is_up v leg ≡ true → (end : Side)
    → came_up leg (events_of h (at v leg end)) ≡ true)
    (knows : Knows numbers h) where
  unfinished : (leg : Leg) (end : Side) (node : Who) → at v leg end ≡ node → is_up v leg ≡ true
      → company.finished rules v.company node leg ≡ false
  unfinished leg end node stands up =
      subst (λ (one : Who). company.finished rules v.company one leg ≡ false) stands
      (rest.unfinished leg end up)

  -- ---- in proxies

  in_held : (n : ℕ) (node : Shell InProxy) (legs : ℕ) → in_place v.company n ≡ Here node legs
      → node.course ≡ Going → is_up v (is n) ≡ true → HoldsUpIn node.role
  in_held n node legs there going up =
      let made = in_proxy.first_node (numbers.ins n) in
      let same = node_is in_proxy.rules made (h.ins n) (is n) v.company.ins n node legs there
      (nodes.ins n) in
      in_held_up node.role (is n)
      (ap (λ (s : Shell InProxy). is_server_leg s.role (is n)) same
      ∙ server_flag (is_server_leg (in_node numbers h n).role (is n))
      (same_leg (is (numbers.ins n).number) (is n)) (knows.in_pipes n (is n))
      (eq-eqb (numbers.ins n).number n (knows.in_number n)))
      (proxy_puts_none in_proxy.rules made (h.ins n) (is n) v.company.ins n node legs there
      (nodes.ins n) going ((puts (is n) up).ins n side.Client refl)
      (unfinished (is n) side.Client (who.In n) refl up)
      ((knows.ins n (is n)).known (rose (is n) up side.Client)))

  -- ---- out proxies

  module _ (n : ℕ) (node : Shell OutProxy) (legs : ℕ)
      (there : out_place v.company n ≡ Here node legs) (going : node.course ≡ Going) where
    abbrev made : Shell OutProxy
    made = begun (new_proxy (numbers.outs n)) ROOMS

    -- on the client's leg, and so on the server's, which has the same number
    numbered : is_co node.role (co n) ≡ true
    numbered =
        ap (λ (s : Shell OutProxy). is_co s.role (co n))
        (node_is out_proxy.rules made (h.outs n) (co n) v.company.outs n node legs there
        (nodes.outs n))
        ∙ client_flag (is_co (out_node numbers h n).role (co n))
        (same_leg (co (numbers.outs n).number) (co n)) (knows.out_pipes n (co n))
        (eq-eqb (numbers.outs n).number n (knows.out_number n))

    on_leg : (leg : Leg) (end : Side) → at v leg end ≡ who.Out n → is_up v leg ≡ true
        → came_up leg (h.outs n) ≡ true → out_proxy.rules.put node.role leg ≡ None
    on_leg leg end stands up came =
        proxy_puts_none out_proxy.rules made (h.outs n) leg v.company.outs n node legs there
        (nodes.outs n) going ((puts leg up).outs n end stands)
        (unfinished leg end (who.Out n) stands up) ((knows.outs n leg).known came)

    out_held : is_up v (co n) ≡ true → HoldsUpOut node.role
    out_held up =
        out_held_up node.role (co n) numbered
        (on_leg (co n) side.Server refl up (rose (co n) up side.Server))

    out_acked : is_up v (os n) ≡ true → AcksNoneOut node.role
    out_acked up =
        out_acks_none node.role (os n) numbered
        (on_leg (os n) side.Client refl up (rose (os n) up side.Client))

  -- ---- the ends

  client_puts : (leg : Leg) → v.company.client.course ≡ Going
      → at v leg side.Client ≡ who.Client → is_up v leg ≡ true
      → client.rules.put v.company.client.role leg ≡ None
  client_puts leg going stands up =
      puts_none client.rules v.company.client leg going
      (unfinished leg side.Client who.Client stands up)
      (ap (λ (s : Shell ClientRole). client.rules.was_up s.role leg) nodes.client
      ∙ (knows.client leg).known
      (subst (λ (one : Who). came_up leg (events_of h one) ≡ true) stands
      (rose leg up side.Client)))
      ((puts leg up).client side.Client stands)

  server_puts : (leg : Leg) → v.company.server.course ≡ Going
      → at v leg side.Server ≡ who.Server → is_up v leg ≡ true
      → server.rules.put v.company.server.role leg ≡ None
  server_puts leg going stands up =
      puts_none server.rules v.company.server leg going
      (unfinished leg side.Server who.Server stands up)
      (ap (λ (s : Shell Server). server.rules.was_up s.role leg) nodes.server
      ∙ (knows.server leg).known
      (subst (λ (one : Who). came_up leg (events_of h one) ≡ true) stands
      (rose leg up side.Server)))
      ((puts leg up).server side.Server stands)

  pub are_held_up : AreHeldUp v
  are_held_up = record {
    ins = in_held;
    outs = out_held;
    out_acks = out_acked;
    client = λ going up is.
        client_held_up v.company.client.role is
        (client_puts (ci v.company.client.role.writing.number) going refl up);
    server = λ going open_now n place leg at_place leg_is up.
        server_held_up v.company.server.role place leg leg_is n at_place open_now
        (server_puts (os n) going refl up);
    server_acks = λ going n leg at_leg up.
        server_acks_none v.company.server.role n leg at_leg (server_puts (is n) going refl up);
  }
