-- each head that came to an out proxy of a world is the request of its client
use Rattle.law_order.proofs.Vocabulary.{◌≡◌, inl, inr, ℕ, zero, suc, List, [], ◌∷◌, false, Ok, refl, sym, ap, ◌∙◌, subst, AllByRecursion, IsPrefix}
use Rattle.rh_client.specs.Client as client
use Rattle.rh_client.specs.State as client_state
use Rattle.law_moves.proofs.Vocabulary.{prefix_trans, Cookie, ClientConfig, out_request, request_verdict, Leg, ClientOut, is_whole_head, Message, spelled, EndMove, EndPassage, Move, Up, HeadCame, PduCame, PacketCame, Puts, IsDrawn, Marks, Pings, EndEvent, of_leg, HasComeUp, IsWholeText}
use Rattle.law_moves.proofs.Lemmas.{each_so}
use Rattle.law_role_client.proofs.Vocabulary.{ClientRole, AreAllowedMoves}
use Rattle.law_node_history.proofs.Vocabulary.{leg_at, end_drawn_on}
use Rattle.law_role_client_rows.specs.Putting.{IsChannel, OpenedBefore, OpensOutChannels, out_length, out_way}
use Rattle.law_node_streams.specs.Streams.{EndStream, IsFirstHead, IsHeadOf}
use Rattle.law_peers_expects.specs.Asked.Requests.{AsksFor, IsRequest}
use Rattle.law_peers_routes.specs.Downwards as down
use Rattle.law_world_order.proofs.FirstTexts.Requests.{BegunBy, head_holds, request_asks}
use Rattle.law_world_order.proofs.FirstTexts.Taken.{asked_for}
use Rattle.law_world_order.proofs.Vocabulary.{IsPort}
use Rattle.law_world_honest.specs.WorldAsked.{IsOwn, IsOwnHead}

-- ---- what a client put on the leg of a channel begins with its request

module _ (config : ClientConfig) (Comes : Leg → Cookie → Type 0) (Early : Leg → Type 0) where
  own_begun : (n : ℕ) (put : List Message) → IsChannel (out_way config) Comes Early n put
      → BegunBy (IsOwn config n) (spelled put)
  own_begun zero put is = inl (ap spelled is)
  own_begun (suc n) [] is = inl refl
  own_begun (suc n) (text ∷ []) is =
      inr (
        out_request config (out_length n),
        spelled [],
        record { below = n; number = refl; is = refl },
        ap (λ (t : Message). spelled (t ∷ [])) is,
      )
  own_begun (suc n) (text ∷ first ∷ rest) is =
      inr (
        out_request config (out_length n),
        spelled (first ∷ rest),
        record { below = n; number = refl; is = refl },
        ap (λ (t : Message). spelled (t ∷ first ∷ rest)) is.0,
      )

-- ---- so does what was heard of that

module _ (opens : (config : ClientConfig) (moves : List EndMove) → AreAllowedMoves config moves
    → OpensOutChannels config moves)
    (whole : (config : ClientConfig) (n : ℕ) → IsWholeText is_whole_head (out_request config n))
    (config : ClientConfig) (events : List EndEvent)
    (f : EndStream client.rules client.acts (client_state.first config) client.rooms
    down.client_reads events) (n : ℕ) where
  abbrev leg : Leg
  leg = leg_at ClientOut n

  begun_there : BegunBy (IsOwn config n) (spelled (of_leg leg f.passage.passage.put))
  begun_there =
      own_begun config (HasComeUp f.leads.moves) (OpenedBefore config f.leads.moves) n
      (of_leg leg f.passage.passage.put)
      (subst (λ (p : EndPassage ClientRole). IsChannel (out_way config) (HasComeUp f.leads.moves)
      (OpenedBefore config f.leads.moves) n (of_leg leg p.passage.put)) f.leads.reached
      (opens config f.leads.moves f.leads.allowed n))

  own_whole : (text : List ℕ) → IsOwn config n text → IsWholeText is_whole_head text
  own_whole text own =
      subst (IsWholeText is_whole_head) (sym own.is) (whole config (out_length own.below))

  is_own : (heard text : List ℕ)
      → IsPrefix heard
      (end_drawn_on client.rules client.acts (client.first_client config) leg events)
      → IsFirstHead text heard → IsOwn config n text
  is_own heard text near first =
      head_holds (IsOwn config n) (spelled (of_leg leg f.passage.passage.put)) heard text own_whole
      begun_there
      (prefix_trans heard
      (end_drawn_on client.rules client.acts (client.first_client config) leg events)
      (spelled (of_leg leg f.passage.passage.put)) near (f.drawn leg)) first

  pub heads_own : (heard : List ℕ) (moves : List Move)
      → IsPrefix heard
      (end_drawn_on client.rules client.acts (client.first_client config) leg events)
      → AllByRecursion (IsHeadOf leg heard) moves → AllByRecursion (IsOwnHead config n) moves
  heads_own heard moves near all =
      each_so (IsHeadOf leg heard) (IsOwnHead config n) one moves all
    where
      one : (move : Move) → IsHeadOf leg heard move → IsOwnHead config n move
      one (HeadCame other text) h = λ same. is_own heard text near (h same)
      one (Up other cookie) h = tt
      one (PduCame other count pdu) h = tt
      one (PacketCame other count named) h = tt
      one (Puts other) h = tt
      one (IsDrawn other) h = tt
      one (Marks other) h = tt
      one (Pings other) h = tt

-- ---- and it is read

module _ (config : ClientConfig) (port : IsPort config.port) where
  own_read : (below : ℕ)
      → request_verdict false (out_request config (out_length below))
      ≡ Ok (asked_for config (out_length below))
  own_read zero = request_asks false config 76 port refl
  own_read (suc below) = request_asks false config 120 port refl

  asks : (n : ℕ) (text : List ℕ) → IsOwn config n text → AsksFor n text
  asks n text own = record {
    below = own.below;
    number = own.number;
    asked = asked_for config (out_length own.below);
    reads = ap (request_verdict false) own.is ∙ own_read own.below;
    tells = refl;
  }

  pub heads_read : (n : ℕ) (moves : List Move) → AllByRecursion (IsOwnHead config n) moves
      → AllByRecursion (IsRequest n) moves
  heads_read n moves all = each_so (IsOwnHead config n) (IsRequest n) one moves all
    where
      one : (move : Move) → IsOwnHead config n move → IsRequest n move
      one (HeadCame other text) h = λ same. asks n text (h same)
      one (Up other cookie) h = tt
      one (PduCame other count pdu) h = tt
      one (PacketCame other count named) h = tt
      one (Puts other) h = tt
      one (IsDrawn other) h = tt
      one (Marks other) h = tt
      one (Pings other) h = tt
