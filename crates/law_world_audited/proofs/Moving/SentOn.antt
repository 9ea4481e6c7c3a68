-- what moved on each leg is of what was put there
use Rattle.law_order.proofs.Vocabulary.{◌≡◌, ℕ, false, List, inl, inr, refl, sym, ap, subst, AllByRecursion, Some, Option, IsPrefix}
use Rattle.law_order.proofs.Prefixes.{prefix_trans}
use Rattle.rh_record.specs.declared.answer.Who.TheVariants as who
use Rattle.rh_inproxy.specs.Machine as in_proxy
use Rattle.rh_outproxy.specs.Machine as out_proxy
use Rattle.rh_client.specs.Client as client
use Rattle.rh_server.specs.Servers as server
use Rattle.law_moves.proofs.Vocabulary.{Dir, U, D, Pipe, CiU, IsU, CoU, CoD, OsU, OsD, Leg, LegKind, ClientOut, OutServer, ClientIn, InServer, Course, Going, Closed, Refusing, Message, Passage, EndPassage, OnLeg, Event, after_events, begun, of_leg, same_leg, spelled, MayGoOn, Begins, AreLegible}
use Rattle.law_role_inproxy.proofs.Vocabulary.{InProxyConfig, InProxy}
use Rattle.law_role_inproxy.specs.Legible as in_legible
use Rattle.law_role_client.proofs.Vocabulary.{ClientRole}
use Rattle.law_role_client.specs.Legible as client_legible
use Rattle.law_role_server.proofs.Vocabulary.{Server}
use Rattle.law_role_server.specs.Legible as server_legible
use Rattle.law_node_history.proofs.Vocabulary.{Who, sender, Makers, leg_at, World, drawn_by, drawn_on, end_drawn_on, end_node, History}
use Rattle.law_node_causes.specs.Refusals.{MayRefuseOn}
use Rattle.law_role_outproxy.proofs.Vocabulary.{ROOMS, OutProxyConfig, OutProxy, new_proxy}
use Rattle.law_role_outproxy.specs.Legible as out_legible
use Rattle.law_node_streams.proofs.Streams.LegLogs.{on_leg}
use Rattle.law_node_streams.specs.Streams.{IsDrawn, is_refused_on}
use Rattle.law_peers_moments.specs.Moments.{Passages, passages, put_by}
use Rattle.law_node_traces.proofs.Vocabulary.{AreOurs, deeds, rules}
use Rattle.rh_capture.specs.Moves.{pipe_of}
use Rattle.law_world_order.proofs.Heard.{from_client, from_in, from_out, from_server}
use Rattle.law_world_order.proofs.Vocabulary.{IsFlowing, numbers_of}
use Rattle.law_world_order.specs.Pasts.{moves_of, numbers}
use Rattle.law_world_audited.specs.Moving.Sent.{IsOf, IsSent, sent_on}

-- ---- no proxy refuses on a leg to the server

module _ (server_leg client_leg : Leg) (apart : (leg : Leg) → leg.kind ≡ client_leg.kind
    → same_leg leg server_leg ≡ false) where
  free_on : (course : Course) → MayRefuseOn client_leg server_leg course
      → is_refused_on server_leg course ≡ false
  free_on Going may = refl
  free_on (Closed why) may = refl
  free_on (Refusing why leg rest) (inl asked) = apart leg asked.kind
  free_on (Refusing why leg rest) (inr told) =
      apart leg (ap (λ (l : Leg). l.kind) told.told)

in_apart : (n : ℕ) (leg : Leg) → leg.kind ≡ ClientIn → same_leg leg (leg_at InServer n) ≡ false
in_apart n leg is =
    subst (λ (kind : LegKind). same_leg (leg_at kind leg.number) (leg_at InServer n) ≡ false)
    (sym is) refl

out_apart : (n : ℕ) (leg : Leg) → leg.kind ≡ ClientOut
    → same_leg leg (leg_at OutServer n) ≡ false
out_apart n leg is =
    subst (λ (kind : LegKind). same_leg (leg_at kind leg.number) (leg_at OutServer n) ≡ false)
    (sym is) refl

pub record MayRefuse : Type 0 where
  pub ins : (config : InProxyConfig) (events : List Event)
      → MayRefuseOn (leg_at ClientIn config.number) (leg_at InServer config.number)
      (after_events in_proxy.rules (in_proxy.first_node config) events).course
  pub outs : (config : OutProxyConfig) (events : List Event)
      → MayRefuseOn (leg_at ClientOut config.number) (leg_at OutServer config.number)
      (after_events out_proxy.rules (begun (new_proxy config) ROOMS) events).course

-- ---- what each node put

-- of one leg
sent : (pipe : Leg → Option Pipe) (log : List OnLeg) → AreLegible pipe log → (leg : Leg)
    (named : Pipe) → pipe leg ≡ Some named → (bytes : List ℕ)
    → Begins (Some named) (of_leg leg log) → IsOf named (of_leg leg log) bytes
    → IsSent named (of_leg leg log) bytes
sent pipe log legible leg named is bytes begins drew = record {
  begins = begins;
  may_go = subst (λ (o : Option Pipe). AllByRecursion (MayGoOn o) (of_leg leg log)) is
      (on_leg pipe MayGoOn leg log legible.may_go);
  of_put = drew;
}

-- a front of bytes that are drawn
drawn_front : (put : List Message) (drawn bytes : List ℕ) → IsDrawn put drawn
    → IsPrefix bytes drawn → IsDrawn put bytes
drawn_front put drawn bytes (inl front) p = inl (prefix_trans bytes drawn (spelled put) p front)
drawn_front put drawn bytes (inr refused) p =
    inr (refused.0, refused.1, prefix_trans bytes drawn _ p refused.2)

module _ {K : Type 0} (refusing : MayRefuse) (m : Makers K InProxy OutProxy)
    (w u : World K ClientRole Server InProxy OutProxy) (ours : AreOurs m w.company w.cast)
    (g : History) (flowing : IsFlowing (numbers_of ours) w u g) where
  abbrev all : Passages
  all = record {
    client = flowing.flows.client.passage.passage;
    server = flowing.flows.server.passage.passage;
    ins = λ n. (flowing.flows.ins n).passage;
    outs = λ n. (flowing.flows.outs n).passage;
  }

  abbrev Drew : Who → Leg → List ℕ → Type 0
  Drew node leg bytes = IsPrefix bytes (drawn_by rules m deeds w.company w.cast g node leg)

  -- by the passages of the nodes, whichever in proxy reads an IN channel
  abbrev Sends : List ℕ → LegKind → ℕ → Dir → Pipe → List ℕ → Type 0
  Sends readers kind n dir pipe bytes =
      Drew (end_node readers (leg_at kind n) (sender dir)) (leg_at kind n) bytes
      → IsSent pipe (sent_on all readers (leg_at kind n) dir) bytes

  in_goes : (n : ℕ) (bytes : List ℕ) → Drew (who.In n) (leg_at InServer n) bytes
      → IsPrefix bytes (spelled (of_leg (leg_at InServer n) (all.ins n).put))
  in_goes n bytes p =
      let leg = leg_at InServer n in
      let stream = flowing.flows.ins n in
      let config = ours.in_config n in
      prefix_trans bytes
      (drawn_on in_proxy.rules (in_proxy.first_node config) leg (g.ins n)) _
      (from_in m w.company w.cast ours g n leg bytes p)
      (stream.unrefused leg
      (free_on leg (leg_at ClientIn n) (in_apart n) _
      (subst (λ (k : ℕ). MayRefuseOn (leg_at ClientIn k) (leg_at InServer k)
      (after_events in_proxy.rules (in_proxy.first_node config) (g.ins n)).course)
      (ours.in_number n) (refusing.ins config (g.ins n)))))

  out_goes : (n : ℕ) (bytes : List ℕ) → Drew (who.Out n) (leg_at OutServer n) bytes
      → IsPrefix bytes (spelled (of_leg (leg_at OutServer n) (all.outs n).put))
  out_goes n bytes p =
      let leg = leg_at OutServer n in
      let stream = flowing.flows.outs n in
      let config = ours.out_config n in
      prefix_trans bytes
      (drawn_on out_proxy.rules (begun (new_proxy config) ROOMS) leg (g.outs n)) _
      (from_out m w.company w.cast ours g n leg bytes p)
      (stream.unrefused leg
      (free_on leg (leg_at ClientOut n) (out_apart n) _
      (subst (λ (k : ℕ). MayRefuseOn (leg_at ClientOut k) (leg_at OutServer k)
      (after_events out_proxy.rules (begun (new_proxy config) ROOMS) (g.outs n)).course)
      (ours.out_number n) (refusing.outs config (g.outs n)))))

  client_goes : (leg : Leg) (bytes : List ℕ) → Drew who.Client leg bytes
      → IsPrefix bytes (spelled (of_leg leg all.client.put))
  client_goes leg bytes p =
      prefix_trans bytes
      (end_drawn_on client.rules client.acts (client.first_client ours.config) leg g.client) _
      (from_client m w.company w.cast ours g leg bytes p) (flowing.flows.client.drawn leg)

  server_goes : (leg : Leg) (bytes : List ℕ) → Drew who.Server leg bytes
      → IsPrefix bytes (spelled (of_leg leg all.server.put))
  server_goes leg bytes p =
      prefix_trans bytes
      (end_drawn_on server.rules server.acts (server.new_server ours.window) leg g.server) _
      (from_server m w.company w.cast ours g leg bytes p) (flowing.flows.server.drawn leg)

  client_in : (readers : List ℕ) (n : ℕ) (bytes : List ℕ)
      → Sends readers ClientIn n U CiU bytes
  client_in readers n bytes p =
      sent client_legible.pipe_put all.client.put flowing.legible.client (leg_at ClientIn n) CiU
      refl bytes (flowing.begun.client_in n) (client_goes (leg_at ClientIn n) bytes p)

  client_out : (readers : List ℕ) (n : ℕ) (bytes : List ℕ)
      → Sends readers ClientOut n U CoU bytes
  client_out readers n bytes p =
      sent client_legible.pipe_put all.client.put flowing.legible.client (leg_at ClientOut n) CoU
      refl bytes (flowing.begun.client_out n) (client_goes (leg_at ClientOut n) bytes p)

  in_server : (readers : List ℕ) (n : ℕ) (bytes : List ℕ)
      → Sends readers InServer n U IsU bytes
  in_server readers n bytes p =
      sent in_legible.pipe_put (all.ins n).put (flowing.legible.ins n) (leg_at InServer n) IsU
      refl bytes (flowing.begun.in_server n) (in_goes n bytes p)

  out_server : (readers : List ℕ) (n : ℕ) (bytes : List ℕ)
      → Sends readers OutServer n U OsU bytes
  out_server readers n bytes p =
      sent out_legible.pipe_put (all.outs n).put (flowing.legible.outs n) (leg_at OutServer n) OsU
      refl bytes (flowing.begun.out_server n) (out_goes n bytes p)

  out_client : (readers : List ℕ) (n : ℕ) (bytes : List ℕ)
      → Sends readers ClientOut n D CoD bytes
  out_client readers n bytes p =
      let leg = leg_at ClientOut n in
      sent out_legible.pipe_put (all.outs n).put (flowing.legible.outs n) leg CoD
      refl bytes (flowing.begun.out_client n)
      (drawn_front (of_leg leg (all.outs n).put)
      (drawn_on out_proxy.rules (begun (new_proxy (ours.out_config n)) ROOMS) leg (g.outs n)) bytes
      (flowing.begun.out_client_drew n) (from_out m w.company w.cast ours g n leg bytes p))

  server_out : (readers : List ℕ) (n : ℕ) (bytes : List ℕ)
      → Sends readers OutServer n D OsD bytes
  server_out readers n bytes p =
      sent server_legible.pipe_put all.server.put flowing.legible.server (leg_at OutServer n) OsD
      refl bytes (flowing.begun.server_out n) (server_goes (leg_at OutServer n) bytes p)

  -- ---- on any pipe

  some_pipe : (a b : Pipe) → Some a ≡ Some b → a ≡ b
  some_pipe a b same = cc

  on_pipe : (readers : List ℕ) (kind : LegKind) (n : ℕ) (dir : Dir) (named pipe : Pipe)
      (bytes : List ℕ) → Sends readers kind n dir named bytes → Some named ≡ Some pipe
      → Sends readers kind n dir pipe bytes
  on_pipe readers kind n dir named pipe bytes sends is =
      subst (λ (q : Pipe). Sends readers kind n dir q bytes) (some_pipe named pipe is) sends

  by_kind : (readers : List ℕ) (kind : LegKind) (n : ℕ) (dir : Dir) (pipe : Pipe)
      (bytes : List ℕ) → pipe_of kind dir ≡ Some pipe → Sends readers kind n dir pipe bytes
  by_kind readers ClientIn n U pipe bytes is =
      on_pipe readers ClientIn n U CiU pipe bytes (client_in readers n bytes) is
  by_kind readers InServer n U pipe bytes is =
      on_pipe readers InServer n U IsU pipe bytes (in_server readers n bytes) is
  by_kind readers ClientOut n U pipe bytes is =
      on_pipe readers ClientOut n U CoU pipe bytes (client_out readers n bytes) is
  by_kind readers ClientOut n D pipe bytes is =
      on_pipe readers ClientOut n D CoD pipe bytes (out_client readers n bytes) is
  by_kind readers OutServer n U pipe bytes is =
      on_pipe readers OutServer n U OsU pipe bytes (out_server readers n bytes) is
  by_kind readers OutServer n D pipe bytes is =
      on_pipe readers OutServer n D OsD pipe bytes (server_out readers n bytes) is
  by_kind readers ClientIn n D pipe bytes is = absurd cc
  by_kind readers InServer n D pipe bytes is = absurd cc

  -- ---- and by the moves

  put_is : (node : Who)
      → put_by all node ≡ put_by (passages (numbers ours) (moves_of flowing)) node
  put_is who.Client =
      ap (λ (p : EndPassage ClientRole). p.passage.put) (sym flowing.flows.client.leads.reached)
  put_is who.Server =
      ap (λ (p : EndPassage Server). p.passage.put) (sym flowing.flows.server.leads.reached)
  put_is (who.In n) =
      ap (λ (p : Passage InProxy). p.put) (sym (flowing.flows.ins n).leads.reached)
  put_is (who.Out n) =
      ap (λ (p : Passage OutProxy). p.put) (sym (flowing.flows.outs n).leads.reached)

  pub sends_put : (readers : List ℕ) (leg : Leg) (dir : Dir) (pipe : Pipe) (bytes : List ℕ)
      → pipe_of leg.kind dir ≡ Some pipe → Drew (end_node readers leg (sender dir)) leg bytes
      → IsSent pipe (sent_on (passages (numbers ours) (moves_of flowing)) readers leg dir) bytes
  sends_put readers leg dir pipe bytes is p =
      subst (λ (put : List OnLeg). IsSent pipe (of_leg leg put) bytes)
      (put_is (end_node readers leg (sender dir)))
      (by_kind readers leg.kind leg.number dir pipe bytes is p)
