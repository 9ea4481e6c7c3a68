-- what moved on each leg is a stream of what was put there
use Rattle.law_order.proofs.Vocabulary.{◌≡◌, ◌+◌, ◌++◌, ℕ, Bool, false, List, [], ◌∷◌, refl, sym, ap, ◌∙◌, subst, inl, inr, AllByRecursion, Some, None, Option, IsPrefix}
use Rattle.rh_inproxy.specs.Machine as in_proxy
use Rattle.rh_inproxy.specs.State as in_state
use Rattle.rh_outproxy.specs.Machine as out_proxy
use Rattle.rh_outproxy.specs.Putting.{ping_room}
use Rattle.rh_server.specs.Servers as server
use Rattle.rh_http.specs.declared.config.ClientConfig.{ClientConfig}
use Rattle.rh_http.specs.declared.refusal.Refusal.{Refusal}
use Rattle.rh_http.specs.Texts.{in_request, out_request, refusal_text, response_text}
use Rattle.rh_sig.specs.declared.name.Pipe.{Pipe}
use Rattle.rh_sig.specs.declared.name.Pipe.TheVariants.{CiU, IsU, IsD, CoU, CoD, OsU, OsD}
use Rattle.rh_audit.specs.Streams.{stream, stream_is}
use Rattle.rh_capture.specs.Moves.{pipe_of}
use Rattle.law_moves.proofs.Legible.Each.{each_so}
use Rattle.law_moves.proofs.Vocabulary.{Dir, U, D, Leg, LegKind, ClientOut, OutServer, ClientIn, InServer, Message, Text, Pdu, Packet, Move, HeadCame, EndMove, AreAllowed, all_moved, all_end_moved, started, end_started, of_leg, spelled, MayGoOn, Begins, BeginsWith, AreNoTexts}
use Rattle.law_moves.specs.Passages.Counted.{AreCounted}
use Rattle.law_moves.specs.Passages.Rising.{HasComeUp}
use Rattle.law_moves.specs.Turns.{AreInTurn}
use Rattle.law_role_inproxy.proofs.Vocabulary.{InProxyConfig}
use Rattle.law_role_inproxy.specs.Putting.Puts.{PutsInOrder, is_leg}
use Rattle.law_role_client.specs.Order.{AreAllowedMoves}
use Rattle.law_role_client_rows.specs.Putting.{OpenedBefore, OpensInChannels, OpensOutChannels, out_length}
use Rattle.law_role_outproxy.proofs.Vocabulary.{OutProxyConfig, new_proxy}
use Rattle.law_role_outproxy.specs.Counted.{co_leg, os_leg}
use Rattle.law_role_outproxy.specs.Putting.{PutsToServer}
use Rattle.law_role_server_rows.specs.Putting.Greeting.{GreetsFirst}
use Rattle.law_node_history.proofs.Vocabulary.{leg_at}
use Rattle.law_node_ends.specs.Passed as ends
use Rattle.law_node_ends.specs.Passed.{HeadsAre}
use Rattle.law_peers_expects.specs.Asked.Asking.{AsksNoEcho, ServesClient}
use Rattle.law_peers_moments.specs.Moments.{AreMade, Moves, Numbers, in_behind, out_behind, passages}
use Rattle.law_audit.specs.Streams.Put.{IsStreamOf, IsStreamed, behind_text}
use Rattle.law_audit.specs.Streams.Texts.{IsFineText}
use Rattle.law_audit.specs.Streams.Whole.{IsFrontOf}
use Rattle.law_world_audited.specs.Moving.Sent.{IsOf, IsSent, sent_on}
use Rattle.law_world_audited.specs.Moving.Streams.{MayBegin}
use Rattle.law_world_audited.proofs.Moving.Beginnings.{greets, in_channel, in_stream, out_channel, to_client, to_server}

-- ---- a pipe

pub record StreamLaws : Type 0 where
  pub streams : (pipe : Pipe) (put : List Message) (bytes : List ℕ) → IsStreamed pipe put
      → IsPrefix bytes (spelled put) → IsStreamOf pipe (behind_text put) bytes
  pub refusals : (refusal : Refusal) (bytes : List ℕ) → IsPrefix bytes (refusal_text refusal)
      → IsFrontOf CoD [] bytes
  pub none : (pipe : Pipe) → stream pipe [] ≡ stream_is [] None

no_front : {X : Type 0} (a b : List X) → a ++ b ≡ [] → a ≡ []
no_front [] b e = refl
no_front (x ∷ a) b e = absurd cc

-- behind a text there is none
text_begins : (pipe : Option Pipe) (is_whole : List ℕ → Bool) (put : List Message)
    → BeginsWith pipe is_whole put → AreNoTexts (behind_text put)
text_begins pipe is_whole [] h = tt
text_begins pipe is_whole (Text text ∷ ms) (inl h) = h.1
text_begins pipe is_whole (Text text ∷ ms) (inr h) =
    subst (λ (l : List Message). AreNoTexts l) (sym h.1) tt
text_begins pipe is_whole (Pdu pdu ∷ ms) h = absurd h
text_begins pipe is_whole (Packet named ∷ ms) h = absurd h

frames_begin : (put : List Message) → AreNoTexts put → AreNoTexts (behind_text put)
frames_begin [] h = tt
frames_begin (Text text ∷ ms) h = absurd h.0
frames_begin (Pdu pdu ∷ ms) h = h
frames_begin (Packet named ∷ ms) h = h

pub no_texts : (pipe : Pipe) (put : List Message) → Begins (Some pipe) put
    → AreNoTexts (behind_text put)
no_texts CiU put h = text_begins (Some CiU) _ put h
no_texts CoU put h = text_begins (Some CoU) _ put h
no_texts CoD put h = text_begins (Some CoD) _ put h
no_texts IsD put h = text_begins (Some IsD) _ put h
no_texts OsD put h = text_begins (Some OsD) _ put h
no_texts IsU put h = frames_begin put h
no_texts OsU put h = frames_begin put h

pub all_behind : (P : Message → Type 0) (put : List Message) → AllByRecursion P put
    → AllByRecursion P (behind_text put)
all_behind P [] h = tt
all_behind P (Text text ∷ ms) h = h.1
all_behind P (Pdu pdu ∷ ms) h = h
all_behind P (Packet named ∷ ms) h = h

module _ (law : StreamLaws) where
  of_front : (pipe : Pipe) (put : List Message) (bytes : List ℕ) → Begins (Some pipe) put
      → AllByRecursion (MayGoOn (Some pipe)) put → MayBegin pipe put
      → IsPrefix bytes (spelled put) → IsStreamOf pipe (behind_text put) bytes
  of_front pipe put bytes begins may (inl none) p = record {
    front = [];
    of_messages = (behind_text put, refl);
    is =
        ap (stream pipe)
        (no_front bytes p.0 (p.1 ∙ ap (λ (ms : List Message). spelled ms) none))
        ∙ law.none pipe;
  }
  of_front pipe put bytes begins may (inr fine) p =
      law.streams pipe put bytes (record {
        text = fine.text;
        no_texts = no_texts pipe put begins;
        may_go = all_behind (MayGoOn (Some pipe)) put may;
        first = fine.first;
      }) p

  of_refusal : (put : List Message) (refusal : Refusal) (bytes : List ℕ)
      → IsPrefix bytes (refusal_text refusal) → IsStreamOf CoD (behind_text put) bytes
  of_refusal put refusal bytes p =
      let whole = law.refusals refusal bytes p in
      let none = no_front whole.front whole.of_frames.0 whole.of_frames.1 in
      record {
        front = [];
        of_messages = (behind_text put, refl);
        is = whole.is ∙ ap (λ (fs : List (List ℕ)). stream_is fs None) none;
      }

  down_client : (put : List Message) (bytes : List ℕ) → Begins (Some CoD) put
      → AllByRecursion (MayGoOn (Some CoD)) put → MayBegin CoD put → IsOf CoD put bytes
      → IsStreamOf CoD (behind_text put) bytes
  down_client put bytes begins may first (inl p) = of_front CoD put bytes begins may first p
  down_client put bytes begins may first (inr refused) =
      of_refusal put refused.1 bytes refused.2

  pub streamed : (pipe : Pipe) (put : List Message) (bytes : List ℕ) → IsSent pipe put bytes
      → MayBegin pipe put → IsStreamOf pipe (behind_text put) bytes
  streamed CoD put bytes s may = down_client put bytes s.begins s.may_go may s.of_put
  streamed CiU put bytes s may = of_front CiU put bytes s.begins s.may_go may s.of_put
  streamed IsU put bytes s may = of_front IsU put bytes s.begins s.may_go may s.of_put
  streamed IsD put bytes s may = of_front IsD put bytes s.begins s.may_go may s.of_put
  streamed CoU put bytes s may = of_front CoU put bytes s.begins s.may_go may s.of_put
  streamed OsU put bytes s may = of_front OsU put bytes s.begins s.may_go may s.of_put
  streamed OsD put bytes s may = of_front OsD put bytes s.begins s.may_go may s.of_put

-- ---- the roles

pub record RoleLaws : Type 0 where
  pub ins : (config : ClientConfig) (moves : List EndMove) → AreAllowedMoves config moves
      → OpensInChannels config moves
  pub outs : (config : ClientConfig) (moves : List EndMove) → AreAllowedMoves config moves
      → OpensOutChannels config moves
  pub in_proxies : (config : InProxyConfig) (moves : List Move)
      → AreAllowed in_proxy.rules (started (in_state.first config)) moves
      → AreInTurn in_proxy.rules (in_state.first config) moves
      → PutsInOrder config (all_moved in_proxy.rules (started (in_state.first config)) moves)
  pub to_servers : (config : OutProxyConfig) (moves : List Move)
      → AreAllowed out_proxy.rules (started (new_proxy config)) moves
      → AreCounted out_proxy.rules (started (new_proxy config)) moves
      → AreInTurn out_proxy.rules (new_proxy config) moves
      → PutsToServer config (all_moved out_proxy.rules (started (new_proxy config)) moves)
  pub to_clients : (config : OutProxyConfig) (moves : List Move)
      → AreAllowed out_proxy.rules (started (new_proxy config)) moves
      → AreCounted out_proxy.rules (started (new_proxy config)) moves
      → AreInTurn out_proxy.rules (new_proxy config) moves
      → AllByRecursion (AsksNoEcho (co_leg config.number)) moves
      → ServesClient config (all_moved out_proxy.rules (started (new_proxy config)) moves)
  pub servers : (window : ℕ) (moves : List EndMove)
      → GreetsFirst (all_end_moved server.rules server.acts (end_started (server.first window))
      moves).passage

-- the texts of roles with these numbers
pub record FineTexts (numbers : Numbers) : Type 0 where
  pub ins : IsFineText CiU (in_request numbers.client)
  pub outs : (k : ℕ) → IsFineText CoU (out_request numbers.client (out_length k))
  pub down : (n : ℕ) → IsFineText CoD (response_text ((numbers.outs n).lifetime + ping_room))

module _ (law : RoleLaws) (numbers : Numbers) (moves : Moves) (made : AreMade numbers moves)
    (fine : FineTexts numbers)
    (heads : (n : ℕ) → AllByRecursion (HeadsAre (ends.AsksNoEcho false)) (moves.outs n)) where
  asks_none : (leg : Leg) (move : Move) → HeadsAre (ends.AsksNoEcho false) move
      → AsksNoEcho leg move
  asks_none leg (HeadCame other text) h = λ same asked is. h asked is
  asks_none leg move h = tt

  in_servers : (n : ℕ)
      → MayBegin IsU (of_leg (leg_at InServer n) (in_behind numbers moves n).put)
  in_servers n =
      let config = numbers.ins n in
      subst (λ (k : ℕ). MayBegin IsU (of_leg (is_leg k) (in_behind numbers moves n).put))
      (made.in_number n)
      (in_stream config (in_behind numbers moves n).came
      (of_leg (is_leg config.number) (in_behind numbers moves n).put)
      (law.in_proxies config (moves.ins n) (made.ins n) (made.ins_turn n)))

  out_servers : (n : ℕ)
      → MayBegin OsU (of_leg (leg_at OutServer n) (out_behind numbers moves n).put)
  out_servers n =
      let config = numbers.outs n in
      subst (λ (k : ℕ). MayBegin OsU (of_leg (os_leg k) (out_behind numbers moves n).put))
      (made.out_number n)
      (to_server config (of_leg (co_leg config.number) (out_behind numbers moves n).came)
      (of_leg (os_leg config.number) (out_behind numbers moves n).put)
      (law.to_servers config (moves.outs n) (made.outs n) (made.outs_counted n)
      (made.outs_turn n)))

  out_clients : (n : ℕ)
      → MayBegin CoD (of_leg (leg_at ClientOut n) (out_behind numbers moves n).put)
  out_clients n =
      let config = numbers.outs n in
      subst (λ (k : ℕ). MayBegin CoD (of_leg (co_leg k) (out_behind numbers moves n).put))
      (made.out_number n)
      (to_client config (of_leg (co_leg config.number) (out_behind numbers moves n).came)
      (of_leg (os_leg config.number) (out_behind numbers moves n).came)
      (of_leg (co_leg config.number) (out_behind numbers moves n).put) (fine.down n)
      (law.to_clients config (moves.outs n) (made.outs n) (made.outs_counted n)
      (made.outs_turn n)
      (each_so (HeadsAre (ends.AsksNoEcho false)) (AsksNoEcho (co_leg config.number))
      (asks_none (co_leg config.number)) (moves.outs n) (heads n))))

  abbrev Starts : List ℕ → LegKind → ℕ → Dir → Pipe → Type 0
  Starts readers kind n dir pipe =
      MayBegin pipe (sent_on (passages numbers moves) readers (leg_at kind n) dir)

  some_pipe : (a b : Pipe) → Some a ≡ Some b → a ≡ b
  some_pipe a b same = cc

  by_kind : (readers : List ℕ) (kind : LegKind) (n : ℕ) (dir : Dir) (pipe : Pipe)
      → pipe_of kind dir ≡ Some pipe → Starts readers kind n dir pipe
  by_kind readers ClientIn n U pipe is =
      subst (λ (q : Pipe). Starts readers ClientIn n U q) (some_pipe CiU pipe is)
      (in_channel numbers.client (HasComeUp moves.client) (OpenedBefore numbers.client moves.client)
      fine.ins n (sent_on (passages numbers moves) readers (leg_at ClientIn n) U)
      (law.ins numbers.client moves.client made.client n))
  by_kind readers ClientOut n U pipe is =
      subst (λ (q : Pipe). Starts readers ClientOut n U q) (some_pipe CoU pipe is)
      (out_channel numbers.client (HasComeUp moves.client)
      (OpenedBefore numbers.client moves.client) fine.outs n
      (sent_on (passages numbers moves) readers (leg_at ClientOut n) U)
      (law.outs numbers.client moves.client made.client n))
  by_kind readers InServer n U pipe is =
      subst (λ (q : Pipe). Starts readers InServer n U q) (some_pipe IsU pipe is) (in_servers n)
  by_kind readers OutServer n U pipe is =
      subst (λ (q : Pipe). Starts readers OutServer n U q) (some_pipe OsU pipe is) (out_servers n)
  by_kind readers ClientOut n D pipe is =
      subst (λ (q : Pipe). Starts readers ClientOut n D q) (some_pipe CoD pipe is) (out_clients n)
  by_kind readers OutServer n D pipe is =
      subst (λ (q : Pipe). Starts readers OutServer n D q) (some_pipe OsD pipe is)
      (greets (sent_on (passages numbers moves) readers (leg_at OutServer n) D)
      ((law.servers numbers.window moves.server).out_proxies n))
  by_kind readers ClientIn n D pipe is = absurd cc
  by_kind readers InServer n D pipe is = absurd cc

  pub may_begin : (readers : List ℕ) (leg : Leg) (dir : Dir) (pipe : Pipe)
      → pipe_of leg.kind dir ≡ Some pipe
      → MayBegin pipe (sent_on (passages numbers moves) readers leg dir)
  may_begin readers leg dir pipe is = by_kind readers leg.kind leg.number dir pipe is
