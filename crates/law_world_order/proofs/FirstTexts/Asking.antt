-- what a client drew on a leg begins with its request
use Rattle.law_order.proofs.Vocabulary.{◌≡◌, inl, inr, ℕ, List, sym, subst, AllByRecursion, Option, IsPrefix}
use Rattle.rh_shell.specs.declared.stage.Stage.TheVariants as stage
use Rattle.rh_client.specs.Client as client
use Rattle.rh_client.specs.State as client_state
use Rattle.law_moves.proofs.Vocabulary.{prefix_trans, Pipe, ClientConfig, in_request, out_request, Leg, LegKind, ClientIn, ClientOut, InServer, OutServer, Stage, is_whole_head, first_stage, Message, spelled, EndMove, EndPassage, EndEvent, of_leg, BeginsBy, BeginsWith, IsWholeText}
use Rattle.law_role_client.proofs.Vocabulary.{ClientRole, pipe_put, AreAllowedMoves, client_moved}
use Rattle.law_node_history.proofs.Vocabulary.{end_drawn_on}
use Rattle.law_node_streams.specs.Streams.{EndStream, IsFirstHead}
use Rattle.law_node_begins.specs.EndsBegin.{Asks, BeginsLegs, IsRequestOf}
use Rattle.law_world_order.proofs.FirstTexts.Requests.{begun_by, head_asked}

-- requests are whole
pub whole_requests : ((config : ClientConfig) → IsWholeText is_whole_head (in_request config))
    → ((config : ClientConfig) (n : ℕ) → IsWholeText is_whole_head (out_request config n))
    → (config : ClientConfig) (kind : LegKind) (request : List ℕ)
    → IsRequestOf config kind request → IsWholeText is_whole_head request
whole_requests ins outs config ClientIn request is =
    subst (IsWholeText is_whole_head) (sym is) (ins config)
whole_requests ins outs config ClientOut request (inl is) =
    subst (IsWholeText is_whole_head) (sym is) (outs config 76)
whole_requests ins outs config ClientOut request (inr is) =
    subst (IsWholeText is_whole_head) (sym is) (outs config 120)
whole_requests ins outs config OutServer request is = absurd is
whole_requests ins outs config InServer request is = absurd is

-- ---- what the client drew begins with its request

module _ {reads : Leg → Option Pipe}
    (begins : (config : ClientConfig) (moves : List EndMove) → AreAllowedMoves config moves
    → BeginsLegs pipe_put (client_moved config moves).passage.put)
    (asks : (config : ClientConfig) (moves : List EndMove) (leg : Leg)
    → AreAllowedMoves config moves
    → AllByRecursion (Asks config leg.kind) (of_leg leg (client_moved config moves).passage.put))
    (whole : (config : ClientConfig) (kind : LegKind) (request : List ℕ)
    → IsRequestOf config kind request → IsWholeText is_whole_head request)
    (config : ClientConfig) (events : List EndEvent)
    (stream : EndStream client.rules client.acts (client_state.first config) client.rooms reads
    events)
    (leg : Leg) (asks_first : first_stage (pipe_put leg) ≡ stage.Head) where
  abbrev put : List Message
  put = of_leg leg stream.passage.passage.put

  begins_there : BeginsWith (pipe_put leg) is_whole_head put
  begins_there =
      let all : BeginsLegs pipe_put stream.passage.passage.put =
      subst (λ (p : EndPassage ClientRole). BeginsLegs pipe_put p.passage.put)
      stream.leads.reached (begins config stream.leads.moves stream.leads.allowed) in
      subst (λ (s : Stage). BeginsBy (pipe_put leg) s put) asks_first (all.begins leg)

  asked_there : AllByRecursion (Asks config leg.kind) put
  asked_there =
      subst (λ (p : EndPassage ClientRole).
      AllByRecursion (Asks config leg.kind) (of_leg leg p.passage.put)) stream.leads.reached
      (asks config stream.leads.moves leg stream.leads.allowed)

  -- so a head that is heard of that is the request
  pub head_is : (heard text : List ℕ)
      → IsPrefix heard
      (end_drawn_on client.rules client.acts (client.first_client config) leg events)
      → IsFirstHead text heard → IsRequestOf config leg.kind text
  head_is heard text near =
      head_asked config leg.kind (spelled put) heard text (whole config leg.kind)
      (begun_by config leg.kind (pipe_put leg) put begins_there asked_there)
      (prefix_trans heard
      (end_drawn_on client.rules client.acts (client.first_client config) leg events)
      (spelled put) near (stream.drawn leg))
