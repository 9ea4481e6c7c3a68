-- what an out proxy of a world of roles drew on its client's leg is no response that is too long
use Rattle.law_order.proofs.Vocabulary.{◌≡◌, ℕ, suc, ◌+◌, ◌*◌, ◌-◌, ◌≤◌, List, Bool, if◌then◌else◌, Some, arith, sym, ap, subst, AllByRecursion, Option, IsPrefix}
use Rattle.rh_record.specs.declared.answer.Who.TheVariants as who
use Rattle.rh_outproxy.specs.Machine as out_proxy
use Rattle.rh_client.specs.Client as client
use Rattle.rh_server.specs.Servers as server
use Rattle.law_moves.proofs.Vocabulary.{Dir, U, D, prefix_trans, Pipe, CoU, OsU, OsD, Leg, ClientOut, OutServer, Message, begun, spelled, EndPassage, Passage, all_moved, started, Event, after_events, of_leg, MayGoOn, ReadsBack, Begins, all_read_of, messages_read}
use Rattle.law_role_inproxy.proofs.Vocabulary.{InProxy}
use Rattle.law_role_client.proofs.Vocabulary.{ClientRole}
use Rattle.law_role_client.specs.Legible as client_legible
use Rattle.law_role_server.proofs.Vocabulary.{Server}
use Rattle.law_role_server.specs.Legible as server_legible
use Rattle.law_node_history.proofs.Vocabulary.{receiver, sender, Makers, leg_at, World, drawn_by, drawn_on, end_drawn_on, end_node, events_of, happened, heard_on, History}
use Rattle.law_node_history.proofs.Lemmas.{same_itself}
use Rattle.law_node_causes.specs.Refusals.{MayRefuseOn}
use Rattle.law_role_outproxy.proofs.Vocabulary.{ROOMS, OutProxyConfig, OutProxy, new_proxy, ping_room}
use Rattle.law_role_outproxy.proofs.Counted.OutProxyOwes.{co_at as co, os_at as os}
use Rattle.law_role_outproxy.specs.Legible as out_legible
use Rattle.law_node_streams.proofs.Streams.LegLogs.{on_leg}
use Rattle.law_node_traces.proofs.Vocabulary.{AreOurs, deeds, rules}
use Rattle.law_peers_routes.specs.Downwards as down
use Rattle.law_world_order.proofs.Heard.{from_client, from_out, from_server}
use Rattle.law_world_order.proofs.FirstTexts.OutTexts.{puts_200}
use Rattle.law_world_order.proofs.Vocabulary.{IsFlowing, numbers_of}
use Rattle.law_world_honest.proofs.Honesty.Drawn.{free_by}
use Rattle.law_world_bodies.proofs.Once.{once}
use Rattle.law_world_bodies.proofs.OutFirsts.{replacing, told_once}
use Rattle.law_world_bodies.proofs.OutMoves.{asking, books_hold, passes, sum}
use Rattle.law_world_bodies.proofs.OutPuts.{behind}
use Rattle.law_world_bodies.proofs.Passing.{came_less}
use Rattle.law_world_bodies.proofs.Responses.{drawn_none}
use Rattle.law_world_bodies.proofs.ServerMoves.{allowing, within_lifetimes}
use Rattle.law_world_bodies.specs.Behind.{HasBody}
use Rattle.law_world_bodies.specs.Bodies.{KeepsLength, RequestTells}

-- the laws that this stands on
pub record EachDrew : Type 0 where
  pub read : (pipe : Option Pipe) (put : List Message) (drawn heard : List ℕ) → Begins pipe put
      → AllByRecursion (ReadsBack pipe) put → IsPrefix drawn (spelled put)
      → IsPrefix heard drawn → IsPrefix (messages_read pipe heard) (all_read_of put)
  pub refuses : (config : OutProxyConfig) (events : List Event)
      → MayRefuseOn (leg_at ClientOut config.number) (leg_at OutServer config.number)
      (after_events out_proxy.rules (begun (new_proxy config) ROOMS) events).course

module _ {K : Type 0} (m : Makers K InProxy OutProxy)
    (w v : World K ClientRole Server InProxy OutProxy) (ours : AreOurs m w.company w.cast)
    (h : History) (flowing : IsFlowing (numbers_of ours) w v h) (law : EachDrew)
    (drew : (leg : Leg) (dir : Dir)
    → IsPrefix (heard_on leg (events_of h (end_node v.readers leg (receiver dir))))
    (drawn_by rules m deeds w.company w.cast h (end_node v.readers leg (sender dir)) leg))
    (keeps : (leg : Leg) → KeepsLength (RequestTells ours.config leg.kind)
    (of_leg leg flowing.flows.client.passage.passage.put))
    (ranges : (n : ℕ) → out_legible.IsConfig (ours.out_config n)) (n : ℕ) where
  abbrev client_put : List Message
  client_put = of_leg (co n) flowing.flows.client.passage.passage.put

  abbrev asked : List Message
  asked = of_leg (co n) (flowing.flows.outs n).passage.came

  abbrev server_put : List Message
  server_put = of_leg (os n) flowing.flows.server.passage.passage.put

  abbrev passed : List Message
  passed = of_leg (os n) (flowing.flows.outs n).passage.came

  abbrev first_put : List Message
  first_put = of_leg (os n) (flowing.flows.outs n).passage.put

  abbrev allowed : List Message
  allowed = of_leg (os n) flowing.flows.server.passage.passage.came

  abbrev answered : List Message
  answered = of_leg (co n) (flowing.flows.outs n).passage.put

  -- ---- what came was put

  reads_client : down.proxy_reads (ours.out_config n) (co n) ≡ Some CoU
  reads_client =
      subst (λ (k : ℕ). down.proxy_reads (record (ours.out_config n) { number = k }) (co n)
      ≡ Some CoU) (sym (ours.out_number n))
      (ap (λ (b : Bool). if b then Some CoU else Some OsD) (same_itself (co n)))

  of_client : IsPrefix asked (all_read_of client_put)
  of_client =
      let heard = heard_on (co n) (h.outs n) in
      prefix_trans asked (messages_read (Some CoU) heard) (all_read_of client_put)
      (subst (λ (pipe : Option Pipe). IsPrefix asked (messages_read pipe heard)) reads_client
      ((flowing.flows.outs n).read (co n)))
      (law.read (Some CoU) client_put
      (end_drawn_on client.rules client.acts (client.first_client ours.config) (co n) h.client)
      heard (flowing.begun.client_out n)
      (on_leg client_legible.pipe_put ReadsBack (co n) flowing.flows.client.passage.passage.put
      flowing.legible.client.read_back) (flowing.flows.client.drawn (co n))
      (from_client m w.company w.cast ours h (co n) heard (drew (co n) U)))

  of_server : IsPrefix passed (all_read_of server_put)
  of_server =
      let heard = heard_on (os n) (h.outs n) in
      prefix_trans passed (messages_read (Some OsD) heard) (all_read_of server_put)
      ((flowing.flows.outs n).read (os n))
      (law.read (Some OsD) server_put
      (end_drawn_on server.rules server.acts (server.new_server ours.window) (os n) h.server)
      heard (flowing.begun.server_out n)
      (on_leg server_legible.pipe_put ReadsBack (os n) flowing.flows.server.passage.passage.put
      flowing.legible.server.read_back) (flowing.flows.server.drawn (os n))
      (from_server m w.company w.cast ours h (os n) heard (drew (os n) D)))

  of_proxy : IsPrefix allowed (all_read_of first_put)
  of_proxy =
      let heard = heard_on (os n) (happened h.server) in
      let node = after_events out_proxy.rules (begun (new_proxy (ours.out_config n)) ROOMS)
      (h.outs n) in
      prefix_trans allowed (messages_read (Some OsU) heard) (all_read_of first_put)
      (flowing.flows.server.read (os n))
      (law.read (Some OsU) first_put
      (drawn_on out_proxy.rules (begun (new_proxy (ours.out_config n)) ROOMS) (os n) (h.outs n))
      heard (flowing.begun.out_server n)
      (on_leg out_legible.pipe_put ReadsBack (os n) (flowing.flows.outs n).passage.put
      (flowing.legible.outs n).read_back)
      ((flowing.flows.outs n).unrefused (os n)
      (free_by (leg_at ClientOut (ours.out_config n).number)
      (leg_at OutServer (ours.out_config n).number) (os n) node.course
      (law.refuses (ours.out_config n) (h.outs n)) (λ e. absurd (cc))))
      (from_out m w.company w.cast ours h n (os n) heard (drew (os n) U)))

  -- ---- in sum

  abbrev Books : ℕ → Passage OutProxy → Type 0
  Books k p =
      sum behind (of_leg (co k) p.put)
      ≤ sum passes (of_leg (os k) p.came) + (28 * sum asking (of_leg (co k) p.came) + ping_room)

  books : Books n (flowing.flows.outs n).passage
  books =
      let leads = (flowing.flows.outs n).leads in
      subst (Books n) leads.reached
      (subst (λ (k : ℕ). Books k (all_moved out_proxy.rules
      (started (new_proxy (ours.out_config n))) leads.moves)) (ours.out_number n)
      (books_hold (ours.out_config n) leads.moves leads.allowed))

  abbrev IsTold : ℕ → Passage OutProxy → Type 0
  IsTold k p =
      (sum allowing (of_leg (os k) p.put) ≤ (ours.out_config n).lifetime)
      × (sum allowing (of_leg (os k) p.put)
      ≤ ((ours.out_config n).lifetime - 28) + 28 * sum replacing (of_leg (co k) p.came))

  told_here : IsTold n (flowing.flows.outs n).passage
  told_here =
      let leads = (flowing.flows.outs n).leads in
      subst (IsTold n) leads.reached
      (subst (λ (k : ℕ). IsTold k (all_moved out_proxy.rules
      (started (new_proxy (ours.out_config n))) leads.moves)) (ours.out_number n)
      (told_once (ours.out_config n) leads.moves leads.allowed))

  within : sum passes server_put ≤ sum allowing allowed
  within =
      let leads = flowing.flows.server.leads in
      subst (λ (p : EndPassage Server). sum passes (of_leg (os n) p.passage.put)
      ≤ sum allowing (of_leg (os n) p.passage.came)) leads.reached
      (within_lifetimes ours.window leads.moves n)

  opened_once : sum asking client_put + sum replacing client_put ≤ 1
  opened_once =
      once ours.config client_put (keeps (co n))
      (on_leg client_legible.pipe_put MayGoOn (co n) flowing.flows.client.passage.passage.put
      flowing.legible.client.may_go)

  pub responses_fit : sum behind answered ≤ (ours.out_config n).lifetime + ping_room
  responses_fit =
      let told = told_here in
      let all_asked = came_less asking asked client_put of_client in
      let all_replaced = came_less replacing asked client_put of_client in
      let all_passed = came_less passes passed server_put of_server in
      let all_allowed = came_less allowing allowed first_put of_proxy in
      omega (
        arith,
        books,
        told.0,
        told.1,
        within,
        opened_once,
        all_asked,
        all_replaced,
        all_passed,
        all_allowed,
        (ranges n).lifetime.0,
      )

  -- ---- what was drawn

  pub response_none : (pipe : Option Pipe) (heard : List ℕ) (told : ℕ)
      → HasBody client.rules pipe (leg_at ClientOut n) heard (suc told) told
      → IsPrefix heard (drawn_by rules m deeds w.company w.cast h (who.Out n)
      (leg_at ClientOut n)) → ⊥
  response_none pipe heard told body front =
      drawn_none (ours.out_config n) (ranges n) pipe (co n) heard told body answered
      (drawn_on out_proxy.rules (begun (new_proxy (ours.out_config n)) ROOMS) (co n) (h.outs n))
      (puts_200 (ours.out_config n) (flowing.flows.outs n).passage (co n)
      (flowing.flows.outs n).leads)
      (on_leg out_legible.pipe_put MayGoOn (co n) (flowing.flows.outs n).passage.put
      (flowing.legible.outs n).may_go) (flowing.begun.out_client n) responses_fit
      (flowing.begun.out_client_drew n)
      (from_out m w.company w.cast ours h n (co n) heard front)
