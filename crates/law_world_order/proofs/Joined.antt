-- what came at each node of a world of roles is of what was put at the other end of its leg
use Rattle.law_order.proofs.Vocabulary.{◌≡◌, ℕ, List, [], ◌∷◌, ◌++◌, inl, inr, sym, ap, ◌∙◌, subst, AllByRecursion, Option, IsPrefix}
use Rattle.rh_record.specs.declared.answer.Who.TheVariants as who
use Rattle.rh_inproxy.specs.Machine as in_proxy
use Rattle.rh_outproxy.specs.Machine as out_proxy
use Rattle.rh_client.specs.Client as client
use Rattle.rh_server.specs.Servers as server
use Rattle.law_moves.proofs.Vocabulary.{Dir, U, D, Side, nil_front, prefix_trans, Pipe, refusal_text, Leg, LegKind, ClientOut, OutServer, ClientIn, InServer, Message, begun, of_leg, IsFineMessage, MayGoOn, Begins, all_read_of, messages_read}
use Rattle.law_role_inproxy.proofs.Vocabulary.{InProxy}
use Rattle.law_role_inproxy.specs.Legible as in_legible
use Rattle.law_role_client.proofs.Vocabulary.{ClientRole}
use Rattle.law_role_client.specs.Legible as client_legible
use Rattle.law_role_server.proofs.Vocabulary.{Server}
use Rattle.law_role_server.specs.Legible as server_legible
use Rattle.law_node_history.proofs.Vocabulary.{Who, reader_of, receiver, sender, Makers, leg_at, World, IsTraced, drawn_by, drawn_on, end_drawn_on, end_node, events_of, heard_on, History}
use Rattle.law_role_outproxy.proofs.Vocabulary.{ROOMS, OutProxy, new_proxy}
use Rattle.law_role_outproxy.specs.Legible as out_legible
use Rattle.law_node_streams.specs.Streams.{IsDrawn}
use Rattle.law_peers_moments.proofs.Joining.{nothing_front}
use Rattle.law_peers_moments.specs.Moments.{AreJoined, Passages, came_to, put_by}
use Rattle.law_node_traces.proofs.Vocabulary.{AreOurs, deeds, rules}
use Rattle.law_world_order.proofs.Fine.{Source, on_leg, sourced}
use Rattle.law_world_order.proofs.Heard.{as_first, from_client, from_in, from_out, from_server, node_reads, reads_on}
use Rattle.law_world_order.proofs.Legs.{Reads}
use Rattle.law_world_order.proofs.Vocabulary.{IsFlowing, numbers_of, read_on}

last_of : (P : Message → Type 0) (ms : List Message) (m : Message)
    → AllByRecursion P (ms ++ m ∷ []) → P m
last_of P [] m all = all.0
last_of P (n ∷ ms) m all = last_of P ms m all.1

-- what is read of bytes is of what was put, also where the client was refused
read_front : Reads → (pipe : Option Pipe) (put : List Message) (drawn bytes : List ℕ)
    → Source pipe put drawn → IsPrefix bytes drawn
    → IsPrefix (messages_read pipe bytes) (all_read_of put)
read_front law pipe put drawn bytes source p = by source.drew
  where
    by : IsDrawn put drawn → IsPrefix (messages_read pipe bytes) (all_read_of put)
    by (inl front) = law.put pipe put drawn bytes source.begins source.read_back front p
    by (inr refused) =
        nothing_front (messages_read pipe bytes) (all_read_of put)
        (law.refusal pipe refused.1 bytes
        (prefix_trans bytes drawn (refusal_text refused.1) p refused.2))

module _ {K : Type 0} (law : Reads) (m : Makers K InProxy OutProxy)
    (w u : World K ClientRole Server InProxy OutProxy) (ours : AreOurs m w.company w.cast)
    (g : History) (flowing : IsFlowing (numbers_of ours) w u g) where
  abbrev pub all : Passages
  all = record {
    client = flowing.flows.client.passage.passage;
    server = flowing.flows.server.passage.passage;
    ins = λ n. (flowing.flows.ins n).passage;
    outs = λ n. (flowing.flows.outs n).passage;
  }

  -- ---- what each node drew on a leg is of what it put

  abbrev Drew : Who → Leg → List ℕ → Type 0
  Drew node leg bytes = IsPrefix bytes (drawn_by rules m deeds w.company w.cast g node leg)

  -- what is read of it is
  abbrev Reads_of : Who → LegKind → ℕ → Dir → List ℕ → Type 0
  Reads_of node kind n dir bytes =
      IsPrefix (messages_read (read_on kind dir) bytes)
      (all_read_of (of_leg (leg_at kind n) (put_by all node)))

  client_read : (leg : Leg) (bytes : List ℕ)
      → Begins (client_legible.pipe_put leg) (of_leg leg all.client.put)
      → Drew who.Client leg bytes
      → IsPrefix (messages_read (client_legible.pipe_put leg) bytes)
      (all_read_of (of_leg leg all.client.put))
  client_read leg bytes begins p =
      let drawn = end_drawn_on client.rules client.acts (client.first_client ours.config) leg
      g.client in
      read_front law (client_legible.pipe_put leg) (of_leg leg all.client.put) drawn bytes
      (sourced client_legible.pipe_put all.client.put flowing.legible.client leg drawn begins
      (inl (flowing.flows.client.drawn leg))) (from_client m w.company w.cast ours g leg bytes p)

  server_read : (leg : Leg) (bytes : List ℕ)
      → Begins (server_legible.pipe_put leg) (of_leg leg all.server.put)
      → Drew who.Server leg bytes
      → IsPrefix (messages_read (server_legible.pipe_put leg) bytes)
      (all_read_of (of_leg leg all.server.put))
  server_read leg bytes begins p =
      let drawn = end_drawn_on server.rules server.acts (server.new_server ours.window) leg
      g.server in
      read_front law (server_legible.pipe_put leg) (of_leg leg all.server.put) drawn bytes
      (sourced server_legible.pipe_put all.server.put flowing.legible.server leg drawn begins
      (inl (flowing.flows.server.drawn leg))) (from_server m w.company w.cast ours g leg bytes p)

  in_read : (k : ℕ) (leg : Leg) (bytes : List ℕ)
      → Begins (in_legible.pipe_put leg) (of_leg leg (all.ins k).put)
      → IsDrawn (of_leg leg (all.ins k).put)
      (drawn_on in_proxy.rules (in_proxy.first_node (ours.in_config k)) leg (g.ins k))
      → Drew (who.In k) leg bytes
      → IsPrefix (messages_read (in_legible.pipe_put leg) bytes)
      (all_read_of (of_leg leg (all.ins k).put))
  in_read k leg bytes begins drew p =
      let drawn = drawn_on in_proxy.rules (in_proxy.first_node (ours.in_config k)) leg
      (g.ins k) in
      read_front law (in_legible.pipe_put leg) (of_leg leg (all.ins k).put) drawn bytes
      (sourced in_legible.pipe_put (all.ins k).put (flowing.legible.ins k) leg drawn begins drew)
      (from_in m w.company w.cast ours g k leg bytes p)

  out_read : (k : ℕ) (leg : Leg) (bytes : List ℕ)
      → Begins (out_legible.pipe_put leg) (of_leg leg (all.outs k).put)
      → IsDrawn (of_leg leg (all.outs k).put)
      (drawn_on out_proxy.rules (begun (new_proxy (ours.out_config k)) ROOMS) leg (g.outs k))
      → Drew (who.Out k) leg bytes
      → IsPrefix (messages_read (out_legible.pipe_put leg) bytes)
      (all_read_of (of_leg leg (all.outs k).put))
  out_read k leg bytes begins drew p =
      let drawn = drawn_on out_proxy.rules (begun (new_proxy (ours.out_config k)) ROOMS) leg
      (g.outs k) in
      read_front law (out_legible.pipe_put leg) (of_leg leg (all.outs k).put) drawn bytes
      (sourced out_legible.pipe_put (all.outs k).put (flowing.legible.outs k) leg drawn begins
      drew) (from_out m w.company w.cast ours g k leg bytes p)

  -- of the node that puts there, whichever in proxy reads an IN leg of the client
  by_kind : (readers : List ℕ) (kind : LegKind) (n : ℕ) (dir : Dir) (bytes : List ℕ)
      → (let node = end_node readers (leg_at kind n) (sender dir) in
      Drew node (leg_at kind n) bytes → Reads_of node kind n dir bytes)
  by_kind readers ClientIn n U bytes p =
      client_read (leg_at ClientIn n) bytes (flowing.begun.client_in n) p
  by_kind readers ClientOut n U bytes p =
      client_read (leg_at ClientOut n) bytes (flowing.begun.client_out n) p
  by_kind readers InServer n D bytes p =
      server_read (leg_at InServer n) bytes (flowing.begun.server_in n) p
  by_kind readers OutServer n D bytes p =
      server_read (leg_at OutServer n) bytes (flowing.begun.server_out n) p
  by_kind readers ClientIn n D bytes p =
      let k = reader_of readers n in
      in_read k (leg_at ClientIn n) bytes (flowing.begun.in_client k n)
      (flowing.begun.in_client_drew k n) p
  by_kind readers InServer n U bytes p =
      in_read n (leg_at InServer n) bytes (flowing.begun.in_server n)
      (flowing.begun.in_server_drew n) p
  by_kind readers ClientOut n D bytes p =
      out_read n (leg_at ClientOut n) bytes (flowing.begun.out_client n)
      (flowing.begun.out_client_drew n) p
  by_kind readers OutServer n U bytes p =
      out_read n (leg_at OutServer n) bytes (flowing.begun.out_server n)
      (flowing.begun.out_server_drew n) p

  pub reads_put : (readers : List ℕ) (leg : Leg) (dir : Dir) (bytes : List ℕ)
      → Drew (end_node readers leg (sender dir)) leg bytes
      → IsPrefix (messages_read (read_on leg.kind dir) bytes)
      (all_read_of (of_leg leg (put_by all (end_node readers leg (sender dir)))))
  reads_put readers leg dir bytes p = by_kind readers leg.kind leg.number dir bytes p

  -- the next message of what an out proxy put for its client is fine
  pub put_is_fine : (k : ℕ) (came : List Message) (x : Message)
      → IsPrefix (came ++ x ∷ []) (all_read_of (of_leg (leg_at ClientOut k) (all.outs k).put))
      → IsFineMessage x
  put_is_fine k came x p =
      last_of IsFineMessage came x
      (law.fine (out_legible.pipe_put (leg_at ClientOut k))
      (of_leg (leg_at ClientOut k) (all.outs k).put) (came ++ x ∷ [])
      (on_leg out_legible.pipe_put MayGoOn (leg_at ClientOut k) (all.outs k).put
      (flowing.legible.outs k).may_go) p)

  -- ---- what came

  pub came_read : (node : Who) (leg : Leg)
      → IsPrefix (of_leg leg (came_to all node))
      (messages_read (node_reads ours node leg) (heard_on leg (events_of g node)))
  came_read who.Client leg = flowing.flows.client.read leg
  came_read who.Server leg = flowing.flows.server.read leg
  came_read (who.In n) leg = (flowing.flows.ins n).read leg
  came_read (who.Out n) leg = (flowing.flows.outs n).read leg

  module _ (readers : List ℕ)
      (drew : (leg : Leg) (dir : Dir)
      → Drew (end_node readers leg (sender dir)) leg
      (heard_on leg (events_of g (end_node readers leg (receiver dir)))))
      (alone : (node : Who) (leg : Leg) → ((end : Side) → end_node readers leg end ≡ node → ⊥)
      → heard_on leg (events_of g node) ≡ []) where
    front : (leg : Leg) (dir : Dir)
        → IsPrefix (of_leg leg (came_to all (end_node readers leg (receiver dir))))
        (all_read_of (of_leg leg (put_by all (end_node readers leg (sender dir)))))
    front leg dir =
        let takes = end_node readers leg (receiver dir) in
        let heard = heard_on leg (events_of g takes) in
        prefix_trans (of_leg leg (came_to all takes))
        (messages_read (read_on leg.kind dir) heard) _
        (subst (λ (pipe : Option Pipe). IsPrefix (of_leg leg (came_to all takes))
        (messages_read pipe heard))
        (sym (reads_on ours (reader_of readers leg.number) leg.number leg.kind dir))
        (came_read takes leg)) (reads_put readers leg dir heard (drew leg dir))

    elsewhere : (node : Who) (leg : Leg)
        → ((end : Side) → end_node readers leg end ≡ node → ⊥) → of_leg leg (came_to all node) ≡ []
    elsewhere node leg away =
        let came = came_read node leg in
        nil_front (of_leg leg (came_to all node)) came.0
        (came.1 ∙ ap (messages_read (node_reads ours node leg)) (alone node leg away))

    pub are_joined : AreJoined (reader_of readers) all
    are_joined = record { front = front; elsewhere = elsewhere }

-- ---- by the history

-- a node that stands at no end of a leg heard nothing there
abbrev pub AreAlone : {K : Type 0} → Makers K InProxy OutProxy
    → World K ClientRole Server InProxy OutProxy → Type 0
AreAlone {K} m w =
    (u : World K ClientRole Server InProxy OutProxy) (h : History)
    → IsTraced rules m deeds w.company u h → (node : Who) (leg : Leg)
    → ((end : Side) → end_node u.readers leg end ≡ node → ⊥)
    → heard_on leg (events_of h node) ≡ []

pub joined_at : {K : Type 0} (reads : Reads) (m : Makers K InProxy OutProxy)
    (w : World K ClientRole Server InProxy OutProxy) (ours : AreOurs m w.company w.cast)
    (u : World K ClientRole Server InProxy OutProxy) (g : History)
    (flowing : IsFlowing (numbers_of ours) w u g)
    → ((leg : Leg) (dir : Dir)
    → IsPrefix (heard_on leg (events_of g (end_node u.readers leg (receiver dir))))
    (drawn_by rules m deeds w.company u.cast g (end_node u.readers leg (sender dir)) leg))
    → ((node : Who) (leg : Leg) → ((end : Side) → end_node u.readers leg end ≡ node → ⊥)
    → heard_on leg (events_of g node) ≡ [])
    → AreJoined (reader_of u.readers) (all reads m w u ours g flowing)
joined_at reads m w ours u g flowing drawn alone =
    are_joined reads m w u ours g flowing u.readers (λ leg dir.
    as_first m w u flowing.cast g (end_node u.readers leg (sender dir)) leg
    (heard_on leg (events_of g (end_node u.readers leg (receiver dir)))) (drawn leg dir)) alone
