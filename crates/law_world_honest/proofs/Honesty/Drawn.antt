-- what each node drew on a leg reads well at its other end
use Rattle.law_order.proofs.Vocabulary.{◌≡◌, ◌⊎◌, ℕ, false, List, refl, sym, ap, ◌∙◌, subst, inl, inr, Some, None, AllByRecursion, Option, IsPrefix}
use Rattle.rh_record.specs.declared.answer.Who.TheVariants as who
use Rattle.rh_shell.specs.declared.stage.Stage.TheVariants as stage
use Rattle.rh_inproxy.specs.Machine as in_proxy
use Rattle.rh_inproxy.specs.State as in_state
use Rattle.rh_outproxy.specs.Machine as out_proxy
use Rattle.rh_client.specs.Client as client
use Rattle.rh_client.specs.State as client_state
use Rattle.rh_server.specs.Servers as server
use Rattle.law_moves.proofs.Vocabulary.{Dir, U, D, prefix_trans, Pipe, IsU, CoD, OsU, ClientConfig, Refusal, refusal_text, Leg, LegKind, ClientOut, OutServer, ClientIn, InServer, Course, Going, Closed, Refusing, Rooms, first_stage, Acts, Message, Rules, begun, same_leg, spelled, EndMove, EndPassage, Move, Passage, AreAllowed, AreAllowedAtEnd, all_end_moved, all_moved, end_started, started, EndEvent, Event, after_events, of_leg, AreLegible, MayGoOn, Begins, Answers, AreTaken}
use Rattle.law_moves.proofs.Vocabulary.{IsWellText, ReadsWell, TextIsWell, is_named, is_packet, AreInTurn}
use Rattle.law_role_inproxy.proofs.Vocabulary.{InProxyConfig, InProxy}
use Rattle.law_role_inproxy.specs.Legible as in_legible
use Rattle.law_role_client.proofs.Vocabulary.{ClientRole, AreAllowedMoves, client_moved}
use Rattle.law_role_client.specs.Legible as client_legible
use Rattle.law_role_server.proofs.Vocabulary.{Server}
use Rattle.law_role_server.specs.Legible as server_legible
use Rattle.law_node_history.proofs.Vocabulary.{Who, sender, Makers, leg_at, World, drawn_by, drawn_on, end_drawn_on, end_node, History}
use Rattle.law_node_history.proofs.Lemmas.{cases_leg}
use Rattle.law_node_causes.specs.Refusals.{MayRefuseOn}
use Rattle.law_role_outproxy.proofs.Vocabulary.{ROOMS, OutProxyConfig, OutProxy, new_proxy}
use Rattle.law_role_outproxy.specs.Legible as out_legible
use Rattle.law_node_streams.proofs.Streams.LegLogs.{on_leg}
use Rattle.law_node_streams.specs.Streams.{EndStream, IsDrawn, Stream, is_refused_on}
use Rattle.law_node_begins.specs.ProxiesBegin.Pipes as pipes
use Rattle.law_node_traces.proofs.Vocabulary.{AreOurs, deeds, rules}
use Rattle.law_peers_routes.specs.Downwards as down
use Rattle.law_world_order.proofs.Heard.{as_first, from_client, from_in, from_out, from_server}
use Rattle.law_world_order.proofs.Vocabulary.{IsFlowing, numbers_of, read_on}
use Rattle.law_world_honest.specs.Honesty.Honest.{well_on}

-- ---- the laws that this stands on

pub record Texts : Type 0 where
  pub put : (well : Answers) (pipe : Option Pipe) (put : List Message) (drawn heard : List ℕ)
      → AreTaken well → Begins pipe put → AllByRecursion (MayGoOn pipe) put
      → AllByRecursion (IsWellText well pipe) put → IsPrefix drawn (spelled put)
      → IsPrefix heard drawn → ReadsWell well pipe heard
  pub refusals : (well : Answers) (pipe : Option Pipe) (refusal : Refusal)
      → first_stage pipe ≡ stage.Head → TextIsWell well pipe (refusal_text refusal)
  pub client : (well : Answers) (config : ClientConfig) (moves : List EndMove)
      → AreAllowedMoves config moves → (leg : Leg)
      → AllByRecursion (IsWellText well (client_legible.pipe_put leg))
      (of_leg leg (client_moved config moves).passage.put)
  pub server : (well : Answers) (window : ℕ) (moves : List EndMove)
      → AreAllowedAtEnd server.rules server.acts (end_started (server.first window)) moves
      → (leg : Leg) → AllByRecursion (IsWellText well (server_legible.pipe_put leg))
      (of_leg leg (all_end_moved server.rules server.acts
      (end_started (server.first window)) moves).passage.put)
  pub in_server : (well : Answers) (config : InProxyConfig) (moves : List Move)
      → AreAllowed in_proxy.rules (started (in_state.first config)) moves
      → AllByRecursion (IsWellText well (Some IsU)) (of_leg (pipes.is config.number)
      (all_moved in_proxy.rules (started (in_state.first config)) moves).put)
  pub in_client : (config : InProxyConfig) (moves : List Move) (number : ℕ)
      → AreAllowed in_proxy.rules (started (in_state.first config)) moves
      → AreInTurn in_proxy.rules (in_state.first config) moves
      → AllByRecursion (IsWellText is_packet None) (of_leg (pipes.ci number)
      (all_moved in_proxy.rules (started (in_state.first config)) moves).put)
  pub out_server : (well : Answers) (config : OutProxyConfig) (moves : List Move)
      → AreAllowed out_proxy.rules (started (new_proxy config)) moves
      → AllByRecursion (IsWellText well (Some OsU)) (of_leg (pipes.os config.number)
      (all_moved out_proxy.rules (started (new_proxy config)) moves).put)
  pub out_client : (config : OutProxyConfig) (moves : List Move)
      → AreAllowed out_proxy.rules (started (new_proxy config)) moves
      → AreInTurn out_proxy.rules (new_proxy config) moves
      → AllByRecursion (IsWellText is_packet (Some CoD)) (of_leg (pipes.co config.number)
      (all_moved out_proxy.rules (started (new_proxy config)) moves).put)
  pub in_refuses : (config : InProxyConfig) (events : List Event)
      → MayRefuseOn (leg_at ClientIn config.number) (leg_at InServer config.number)
      (after_events in_proxy.rules (in_proxy.first_node config) events).course
  pub out_refuses : (config : OutProxyConfig) (events : List Event)
      → MayRefuseOn (leg_at ClientOut config.number) (leg_at OutServer config.number)
      (after_events out_proxy.rules (begun (new_proxy config) ROOMS) events).course

-- a client is refused on legs of its own kind alone
pub free_by : (client server leg : Leg) (course : Course) → MayRefuseOn client server course
    → (leg.kind ≡ client.kind → ⊥) → is_refused_on leg course ≡ false
free_by client server leg Going may other = refl
free_by client server leg (Closed why) may other = refl
free_by client server leg (Refusing why on rest) may other = by (cases_leg on leg)
  where
    kinds : on ≡ leg → leg.kind ≡ client.kind
    kinds e = ap (λ (l : Leg). l.kind) (sym e) ∙ of_may may
      where
        of_may : MayRefuseOn client server (Refusing why on rest) → on.kind ≡ client.kind
        of_may (inl request) = request.kind
        of_may (inr told) = ap (λ (l : Leg). l.kind) told.told

    by : (on ≡ leg) ⊎ (same_leg on leg ≡ false) → same_leg on leg ≡ false
    by (inl e) = absurd (other (kinds e))
    by (inr e) = e

named_taken : AreTaken is_named
named_taken named = refl

packet_taken : AreTaken is_packet
packet_taken named = refl

-- ---- what an end drew

module _ {S : Type 0} (law : Texts) (its : Rules S) (acts : Acts S) (start : S) (rooms : Rooms)
    (reads puts : Leg → Option Pipe) (events : List EndEvent)
    (f : EndStream its acts start rooms reads events)
    (legible : AreLegible puts f.passage.passage.put)
    (texts : (moves : List EndMove) → AreAllowedAtEnd its acts (end_started start) moves
    → (leg : Leg) → AllByRecursion (IsWellText is_named (puts leg))
    (of_leg leg (all_end_moved its acts (end_started start) moves).passage.put)) where
  of_end : (leg : Leg) (bytes : List ℕ)
      → Begins (puts leg) (of_leg leg f.passage.passage.put)
      → IsPrefix bytes (end_drawn_on its acts (begun start rooms) leg events)
      → ReadsWell is_named (puts leg) bytes
  of_end leg bytes begins p =
      law.put is_named (puts leg) (of_leg leg f.passage.passage.put)
      (end_drawn_on its acts (begun start rooms) leg events) bytes named_taken begins
      (on_leg puts MayGoOn leg f.passage.passage.put legible.may_go)
      (subst (λ (p : EndPassage S).
      AllByRecursion (IsWellText is_named (puts leg)) (of_leg leg p.passage.put)) f.leads.reached
      (texts f.leads.moves f.leads.allowed leg)) (f.drawn leg) p

-- ---- what a proxy drew

module _ {S : Type 0} (law : Texts) (its : Rules S) (start : S) (rooms : Rooms)
    (reads puts : Leg → Option Pipe) (events : List Event)
    (f : Stream its start rooms reads events) (legible : AreLegible puts f.passage.put)
    (kind : LegKind) (n : ℕ) where
  abbrev leg : Leg
  leg = leg_at kind n

  abbrev put : List Message
  put = of_leg leg f.passage.put

  abbrev drawn : List ℕ
  drawn = drawn_on its (begun start rooms) leg events

  -- its texts, by its own number
  abbrev AreWell : Answers → ℕ → Type 0
  AreWell well number =
      (moves : List Move) → AreAllowed its (started start) moves → AreInTurn its start moves
      → AllByRecursion (IsWellText well (puts leg))
      (of_leg (leg_at kind number) (all_moved its (started start) moves).put)

  texts_there : (well : Answers) (number : ℕ) → number ≡ n → AreWell well number
      → AllByRecursion (IsWellText well (puts leg)) put
  texts_there well number is texts =
      subst (λ (p : Passage S). AllByRecursion (IsWellText well (puts leg)) (of_leg leg p.put))
      f.leads.reached
      (subst (AreWell well) is texts f.leads.moves f.leads.allowed f.in_turn)

  -- where it refuses nobody
  to_server : (client server : Leg) (number : ℕ) (bytes : List ℕ) → number ≡ n
      → (leg.kind ≡ client.kind → ⊥)
      → MayRefuseOn client server (after_events its (begun start rooms) events).course
      → Begins (puts leg) put → AreWell is_named number → IsPrefix bytes drawn
      → ReadsWell is_named (puts leg) bytes
  to_server client server number bytes is other may begins texts p =
      law.put is_named (puts leg) put drawn bytes named_taken begins
      (on_leg puts MayGoOn leg f.passage.put legible.may_go) (texts_there is_named number is texts)
      (f.unrefused leg (free_by client server leg
      (after_events its (begun start rooms) events).course may other)) p

  -- and where it may have refused its client
  to_client : (number : ℕ) (bytes : List ℕ) → number ≡ n → first_stage (puts leg) ≡ stage.Head
      → Begins (puts leg) put → AreWell is_packet number → IsDrawn put drawn
      → IsPrefix bytes drawn → ReadsWell is_packet (puts leg) bytes
  to_client number bytes is first begins texts (inl front) p =
      law.put is_packet (puts leg) put drawn bytes packet_taken begins
      (on_leg puts MayGoOn leg f.passage.put legible.may_go) (texts_there is_packet number is texts)
      front p
  to_client number bytes is first begins texts (inr refused) p =
      law.refusals is_packet (puts leg) refused.1 first bytes
      (prefix_trans bytes drawn (refusal_text refused.1) p refused.2)

-- ---- what each node drew

module _ {K : Type 0} (law : Texts) (m : Makers K InProxy OutProxy)
    (w v : World K ClientRole Server InProxy OutProxy) (ours : AreOurs m w.company w.cast)
    (h : History) (flowing : IsFlowing (numbers_of ours) w v h) where
  abbrev Drew : Who → Leg → List ℕ → Type 0
  Drew node leg bytes = IsPrefix bytes (drawn_by rules m deeds w.company w.cast h node leg)

  of_client : (leg : Leg) (bytes : List ℕ) → Begins (client_legible.pipe_put leg)
      (of_leg leg flowing.flows.client.passage.passage.put) → Drew who.Client leg bytes
      → ReadsWell is_named (client_legible.pipe_put leg) bytes
  of_client leg bytes begins p =
      of_end law client.rules client.acts (client_state.first ours.config) client.rooms
      down.client_reads client_legible.pipe_put h.client flowing.flows.client
      flowing.legible.client (law.client is_named ours.config) leg bytes begins
      (from_client m w.company w.cast ours h leg bytes p)

  of_server : (leg : Leg) (bytes : List ℕ) → Begins (server_legible.pipe_put leg)
      (of_leg leg flowing.flows.server.passage.passage.put) → Drew who.Server leg bytes
      → ReadsWell is_named (server_legible.pipe_put leg) bytes
  of_server leg bytes begins p =
      of_end law server.rules server.acts (server.first ours.window) server.rooms
      down.server_reads server_legible.pipe_put h.server flowing.flows.server
      flowing.legible.server (law.server is_named ours.window) leg bytes begins
      (from_server m w.company w.cast ours h leg bytes p)

  of_in_server : (n : ℕ) (bytes : List ℕ) → Drew (who.In n) (leg_at InServer n) bytes
      → ReadsWell is_named (Some IsU) bytes
  of_in_server n bytes p =
      let config = ours.in_config n in
      to_server law in_proxy.rules (in_state.first config) in_proxy.rooms (pipes.in_pipe config)
      in_legible.pipe_put (h.ins n) (flowing.flows.ins n) (flowing.legible.ins n) InServer n
      (leg_at ClientIn config.number) (leg_at InServer config.number) config.number bytes
      (ours.in_number n) (λ e. absurd cc) (law.in_refuses config (h.ins n))
      (flowing.begun.in_server n)
      (λ moves allowed turn. law.in_server is_named config moves allowed)
      (from_in m w.company w.cast ours h n (leg_at InServer n) bytes p)

  of_in_client : (k n : ℕ) (bytes : List ℕ) → Drew (who.In k) (leg_at ClientIn n) bytes
      → ReadsWell is_packet None bytes
  of_in_client k n bytes p =
      let config = ours.in_config k in
      to_client law in_proxy.rules (in_state.first config) in_proxy.rooms (pipes.in_pipe config)
      in_legible.pipe_put (h.ins k) (flowing.flows.ins k) (flowing.legible.ins k) ClientIn n n bytes
      refl refl (flowing.begun.in_client k n) (λ moves. law.in_client config moves n)
      (flowing.begun.in_client_drew k n)
      (from_in m w.company w.cast ours h k (leg_at ClientIn n) bytes p)

  of_out_server : (n : ℕ) (bytes : List ℕ) → Drew (who.Out n) (leg_at OutServer n) bytes
      → ReadsWell is_named (Some OsU) bytes
  of_out_server n bytes p =
      let config = ours.out_config n in
      to_server law out_proxy.rules (new_proxy config) ROOMS (down.proxy_reads config)
      out_legible.pipe_put (h.outs n) (flowing.flows.outs n) (flowing.legible.outs n) OutServer n
      (leg_at ClientOut config.number) (leg_at OutServer config.number) config.number bytes
      (ours.out_number n) (λ e. absurd cc) (law.out_refuses config (h.outs n))
      (flowing.begun.out_server n)
      (λ moves allowed turn. law.out_server is_named config moves allowed)
      (from_out m w.company w.cast ours h n (leg_at OutServer n) bytes p)

  of_out_client : (n : ℕ) (bytes : List ℕ) → Drew (who.Out n) (leg_at ClientOut n) bytes
      → ReadsWell is_packet (Some CoD) bytes
  of_out_client n bytes p =
      let config = ours.out_config n in
      to_client law out_proxy.rules (new_proxy config) ROOMS (down.proxy_reads config)
      out_legible.pipe_put (h.outs n) (flowing.flows.outs n) (flowing.legible.outs n) ClientOut n
      config.number bytes (ours.out_number n) refl (flowing.begun.out_client n)
      (law.out_client config) (flowing.begun.out_client_drew n)
      (from_out m w.company w.cast ours h n (leg_at ClientOut n) bytes p)

  -- ---- on any leg

  by_kind : (readers : List ℕ) (kind : LegKind) (n : ℕ) (dir : Dir) (bytes : List ℕ)
      → Drew (end_node readers (leg_at kind n) (sender dir)) (leg_at kind n) bytes
      → ReadsWell (well_on kind dir) (read_on kind dir) bytes
  by_kind readers ClientOut n U bytes p =
      of_client (leg_at ClientOut n) bytes (flowing.begun.client_out n) p
  by_kind readers ClientOut n D bytes p = of_out_client n bytes p
  by_kind readers OutServer n U bytes p = of_out_server n bytes p
  by_kind readers OutServer n D bytes p =
      of_server (leg_at OutServer n) bytes (flowing.begun.server_out n) p
  by_kind readers ClientIn n U bytes p =
      of_client (leg_at ClientIn n) bytes (flowing.begun.client_in n) p
  by_kind readers ClientIn n D bytes p = of_in_client _ n bytes p
  by_kind readers InServer n U bytes p = of_in_server n bytes p
  by_kind readers InServer n D bytes p =
      of_server (leg_at InServer n) bytes (flowing.begun.server_in n) p

  pub leg_well : (readers : List ℕ) (leg : Leg) (dir : Dir) (bytes : List ℕ)
      → IsPrefix bytes
      (drawn_by rules m deeds w.company v.cast h (end_node readers leg (sender dir)) leg)
      → ReadsWell (well_on leg.kind dir) (read_on leg.kind dir) bytes
  leg_well readers leg dir bytes p =
      by_kind readers leg.kind leg.number dir bytes
      (as_first m w v flowing.cast h (end_node readers leg (sender dir)) leg bytes p)
