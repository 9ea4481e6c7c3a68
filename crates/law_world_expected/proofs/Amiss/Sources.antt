-- what a Ping that is heard on a leg towards the server says of what was put at its other end
use Rattle.law_order.proofs.Vocabulary.{◌≡◌, ℕ, List, [], ◌∷◌, ◌++◌, Some, AllByRecursion, Option, IsPrefix}
use Rattle.rh_inproxy.specs.Machine as in_proxy
use Rattle.rh_outproxy.specs.Machine as out_proxy
use Rattle.rh_client.specs.Client as client
use Rattle.law_moves.proofs.Vocabulary.{Dir, U, D, Pipe, CiU, IsU, CoU, OsU, Leg, LegKind, ClientOut, OutServer, ClientIn, InServer, Count, Refused, Message, Text, Pdu, Packet, begun, of_leg, ReadsBack, packets, AreNoTexts, IsNoText, messages_read}
use Rattle.law_moves.proofs.Legible.Each.{each_so}
use Rattle.law_role_inproxy.proofs.Vocabulary.{InProxy}
use Rattle.law_role_inproxy.specs.Legible as in_legible
use Rattle.law_role_client.proofs.Vocabulary.{ClientRole}
use Rattle.law_role_client.specs.Legible as client_legible
use Rattle.law_role_server.proofs.Vocabulary.{Server}
use Rattle.law_node_history.proofs.Vocabulary.{Who, sender, Makers, leg_at, World, drawn_by, drawn_on, end_drawn_on, end_node, History}
use Rattle.law_role_outproxy.proofs.Vocabulary.{ROOMS, OutProxy, new_proxy}
use Rattle.law_role_outproxy.specs.Legible as out_legible
use Rattle.law_node_streams.proofs.Streams.LegLogs.{on_leg}
use Rattle.law_peers_moments.specs.Expecting.{HasNoPingFirst}
use Rattle.law_peers_moments.specs.Moments.{Passages, put_by}
use Rattle.law_node_traces.proofs.Vocabulary.{AreOurs, deeds, rules}
use Rattle.law_world_order.proofs.Heard.{from_client, from_in, from_out}
use Rattle.law_world_order.proofs.Legs.{Reads}
use Rattle.law_world_order.proofs.Joined.{all}
use Rattle.law_world_order.proofs.Vocabulary.{IsFlowing, numbers_of, read_on}
use Rattle.law_world_expected.proofs.Amiss.Pings.{IsHead, drawn_pinged, put_pinged}
use Rattle.law_world_expected.proofs.Amiss.Stops.{PingsFirst}

-- what has no texts has no texts that are none
no_texts : (put : List Message) → AreNoTexts put → AllByRecursion IsHead put
no_texts put none = each_so IsNoText IsHead (λ message is. one message is) put none
  where
    one : (message : Message) → IsNoText message → IsHead message
    one (Text bytes) is = absurd is
    one (Pdu pdu) is = tt
    one (Packet named) is = tt

module _ {K : Type 0} (law : Reads) (m : Makers K InProxy OutProxy)
    (w u : World K ClientRole Server InProxy OutProxy) (ours : AreOurs m w.company w.cast)
    (g : History) (flowing : IsFlowing (numbers_of ours) w u g)
    (heads : (leg : Leg) → AllByRecursion IsHead (of_leg leg
    flowing.flows.client.passage.passage.put)) (r : Refused) (count : Count) (heard : List ℕ)
    (b : ℕ) where
  abbrev passages : Passages
  passages = all law m w u ours g flowing

  -- the bytes that were heard, and this one, were drawn
  abbrev Drew : Who → Leg → Type 0
  Drew node leg =
      IsPrefix (heard ++ b ∷ []) (drawn_by rules m deeds w.company w.cast g node leg)

  abbrev Pinged : Option Pipe → List Message → Type 0
  Pinged pipe put =
      PingsFirst pipe r count heard b → packets (messages_read pipe heard) ≡ 0
      → HasNoPingFirst put → ⊥

  by_kind : (readers : List ℕ) (kind : LegKind) (n : ℕ) (dir : Dir)
      → (let node = end_node readers (leg_at kind n) (sender dir) in
      Drew node (leg_at kind n)
      → Pinged (read_on kind dir) (of_leg (leg_at kind n) (put_by passages node)))
  by_kind readers ClientIn n U p ping none first =
      let leg = leg_at ClientIn n in
      put_pinged (Some CiU) b ping.held ping.is ping.whole (of_leg leg passages.client.put)
      (end_drawn_on client.rules client.acts (client.first_client ours.config) leg g.client) heard
      (flowing.begun.client_in n) (λ e. absurd cc) (heads leg)
      (on_leg client_legible.pipe_put ReadsBack leg passages.client.put
      flowing.legible.client.read_back) (flowing.flows.client.drawn leg)
      (from_client m w.company w.cast ours g leg (heard ++ b ∷ []) p) ping.after none first
  by_kind readers ClientOut n U p ping none first =
      let leg = leg_at ClientOut n in
      put_pinged (Some CoU) b ping.held ping.is ping.whole (of_leg leg passages.client.put)
      (end_drawn_on client.rules client.acts (client.first_client ours.config) leg g.client) heard
      (flowing.begun.client_out n) (λ e. absurd cc) (heads leg)
      (on_leg client_legible.pipe_put ReadsBack leg passages.client.put
      flowing.legible.client.read_back) (flowing.flows.client.drawn leg)
      (from_client m w.company w.cast ours g leg (heard ++ b ∷ []) p) ping.after none first
  by_kind readers InServer n U p ping none first =
      let leg = leg_at InServer n in
      drawn_pinged (Some IsU) tt b ping.held ping.is ping.whole
      (of_leg leg (passages.ins n).put)
      (drawn_on in_proxy.rules (in_proxy.first_node (ours.in_config n)) leg (g.ins n)) heard
      (flowing.begun.in_server n) (λ e. absurd cc)
      (no_texts (of_leg leg (passages.ins n).put) (flowing.begun.in_server n))
      (on_leg in_legible.pipe_put ReadsBack leg (passages.ins n).put
      (flowing.legible.ins n).read_back) (flowing.begun.in_server_drew n)
      (from_in m w.company w.cast ours g n leg (heard ++ b ∷ []) p) ping.after none first
  by_kind readers OutServer n U p ping none first =
      let leg = leg_at OutServer n in
      drawn_pinged (Some OsU) tt b ping.held ping.is ping.whole
      (of_leg leg (passages.outs n).put)
      (drawn_on out_proxy.rules (begun (new_proxy (ours.out_config n)) ROOMS) leg (g.outs n))
      heard (flowing.begun.out_server n) (λ e. absurd cc)
      (no_texts (of_leg leg (passages.outs n).put) (flowing.begun.out_server n))
      (on_leg out_legible.pipe_put ReadsBack leg (passages.outs n).put
      (flowing.legible.outs n).read_back) (flowing.begun.out_server_drew n)
      (from_out m w.company w.cast ours g n leg (heard ++ b ∷ []) p) ping.after none first
  by_kind readers ClientIn n D p ping none first = let up = ping.upward in absurd cc
  by_kind readers ClientOut n D p ping none first = let up = ping.upward in absurd cc
  by_kind readers InServer n D p ping none first = let up = ping.upward in absurd cc
  by_kind readers OutServer n D p ping none first = let up = ping.upward in absurd cc

  pub leg_pinged : (readers : List ℕ) (leg : Leg) (dir : Dir)
      → (let node = end_node readers leg (sender dir) in
      Drew node leg → Pinged (read_on leg.kind dir) (of_leg leg (put_by passages node)))
  leg_pinged readers leg dir = by_kind readers leg.kind leg.number dir
