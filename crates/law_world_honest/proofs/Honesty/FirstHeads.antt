-- the head with which what each node drew on a leg begins is a request or a response
use Rattle.law_order.proofs.Vocabulary.{◌≡◌, ◌≤◌, ℕ, List, [], ◌∷◌, ◌++◌, length, true, false, Ok, arith, inl, inr, refl, sym, ◌∙◌, AllByRecursion, Some, append-nil, IsPrefix}
use Rattle.rh_http.specs.declared.got.Got.TheVariants.{Head}
use Rattle.rh_record.specs.declared.answer.Who.TheVariants as who
use Rattle.rh_shell.specs.declared.stage.Stage.TheVariants as stage
use Rattle.rh_inproxy.specs.Machine as in_proxy
use Rattle.rh_outproxy.specs.Machine as out_proxy
use Rattle.law_moves.proofs.Vocabulary.{Dir, U, D, prefix_trans, CoD, refusal_told, response_told, response_answered, ClientConfig, Refusal, Response, JudgesResponse, IsToldAs, in_request, out_request, refusal_text, response_text, status_of, response_verdict, Leg, LegKind, ClientOut, OutServer, ClientIn, InServer, is_whole_head, first_stage, Message, Text, Pdu, Packet, begun, spelled, EndMove, of_leg, Begins, IsWholeText}
use Rattle.law_role_inproxy.proofs.Vocabulary.{echo_packet, InProxy}
use Rattle.law_role_client.proofs.Vocabulary.{ClientRole, pipe_put, AreAllowedMoves, client_moved}
use Rattle.law_role_server.proofs.Vocabulary.{Server}
use Rattle.law_node_history.proofs.Vocabulary.{Who, sender, Makers, leg_at, World, drawn_by, drawn_on, end_node, History}
use Rattle.law_role_outproxy.proofs.Vocabulary.{ROOMS, OutProxyConfig, OutProxy, new_proxy, IsConfig}
use Rattle.law_node_streams.specs.Streams.{IsDrawn, IsFirstHead}
use Rattle.law_node_begins.specs.EndsBegin.{Asks, BeginsLegs, IsRequestOf}
use Rattle.law_node_traces.proofs.Vocabulary.{AreOurs, deeds, rules}
use Rattle.law_world_order.proofs.Heard.{as_first, from_client, from_in, from_out}
use Rattle.law_world_order.proofs.FirstTexts.InTexts.{IsEcho, echo_begins, echoes_alone}
use Rattle.law_world_order.proofs.FirstTexts.Asking.{head_is, whole_requests}
use Rattle.law_world_order.proofs.FirstTexts.OutTexts.{Succeeds, in_range, puts_200, success_begins}
use Rattle.law_world_order.proofs.FirstTexts.Requests.{BegunBy, answered, head_holds, short, whole_verdict}
use Rattle.law_world_order.proofs.FirstTexts.Taken.{asked_for, in_asks, out_asks}
use Rattle.law_world_order.proofs.Vocabulary.{IsFlowing, numbers_of, AreInRange, IsPort}
use Rattle.law_world_honest.specs.Honesty.Heads.{HeadIsRead, IsRequest, IsResponse}

-- ---- the laws that this stands on

pub record Heads : Type 0 where
  pub begins : (config : ClientConfig) (moves : List EndMove) → AreAllowedMoves config moves
      → BeginsLegs pipe_put (client_moved config moves).passage.put
  pub asks : (config : ClientConfig) (moves : List EndMove) (leg : Leg)
      → AreAllowedMoves config moves
      → AllByRecursion (Asks config leg.kind) (of_leg leg (client_moved config moves).passage.put)
  pub in_requests : (config : ClientConfig) → IsWholeText is_whole_head (in_request config)
  pub out_requests : (config : ClientConfig) (n : ℕ)
      → IsWholeText is_whole_head (out_request config n)
  pub responses : (n : ℕ) → IsWholeText is_whole_head (response_text n)
  pub refusals : (refusal : Refusal) → IsWholeText is_whole_head (refusal_text refusal)

-- ---- responses

-- a text that is told as a response is one
told_read : (status n : ℕ) (text : List ℕ) → IsToldAs status n text
    → response_verdict text ≡ Ok (record { status = status; length = n })
told_read status n text told =
    let value : Response = record { status = status; length = n } in
    sym (response_answered text (Head value (length text))
    (short JudgesResponse text value (told [])) (answered JudgesResponse text value (told [])))
    ∙ whole_verdict value (length text)

module _ (law : Heads) where
  -- a whole head that is a response
  record IsAnswerHead (text : List ℕ) : Type 0 where
    whole : IsWholeText is_whole_head text
    read : IsResponse text

  success : (n : ℕ) → n ≤ 2147549184 → IsAnswerHead (response_text n)
  success n most = record {
    whole = law.responses n;
    read = (
      record { status = 200; length = n },
      told_read 200 n (response_text n) (response_told n most),
    );
  }

  refusal_begins : (refusal : Refusal) → BegunBy IsAnswerHead (refusal_text refusal)
  refusal_begins refusal =
      let text = refusal_text refusal in
      inr (
        text,
        [],
        record {
          whole = law.refusals refusal;
          read = (
            record { status = status_of refusal; length = 0 },
            told_read (status_of refusal) 0 text (refusal_told refusal),
          );
        },
        sym (append-nil text),
      )

  echo_answers : (put : List Message) → AllByRecursion IsEcho put
      → BegunBy IsAnswerHead (spelled put)
  echo_answers [] all = inl refl
  echo_answers (message ∷ put) all =
      inr (
        response_text 20,
        echo_packet ++ spelled put,
        success 20 (omega arith),
        echo_begins message put all.0,
      )

  out_answers : (config : OutProxyConfig) → IsConfig config → (put : List Message)
      → AllByRecursion (Succeeds config) put → Begins (Some CoD) put
      → BegunBy IsAnswerHead (spelled put)
  out_answers config range [] all begins = inl refl
  out_answers config range (Text bytes ∷ put) all begins =
      inr (
        response_text all.0.number,
        all.0.behind ++ spelled put,
        success all.0.number (in_range config range bytes all.0),
        success_begins config bytes put all.0,
      )
  out_answers config range (Pdu pdu ∷ put) all begins = absurd begins
  out_answers config range (Packet named ∷ put) all begins = absurd begins

  -- the head at the front of what a proxy drew to its client
  drawn_answers : (put : List Message) (drawn heard text : List ℕ)
      → BegunBy IsAnswerHead (spelled put) → IsDrawn put drawn → IsPrefix heard drawn
      → IsFirstHead text heard → IsResponse text
  drawn_answers put drawn heard text begun (inl front) p first =
      (head_holds IsAnswerHead (spelled put) heard text (λ one is. is.whole) begun
      (prefix_trans heard drawn (spelled put) p front) first).read
  drawn_answers put drawn heard text begun (inr refused) p first =
      (head_holds IsAnswerHead (refusal_text refused.1) heard text (λ one is. is.whole)
      (refusal_begins refused.1)
      (prefix_trans heard drawn (refusal_text refused.1) p refused.2) first).read

module _ {K : Type 0} (law : Heads) (m : Makers K InProxy OutProxy)
    (w v : World K ClientRole Server InProxy OutProxy) (ours : AreOurs m w.company w.cast)
    (ranges : AreInRange (numbers_of ours)) (port : IsPort ours.config.port) (h : History)
    (flowing : IsFlowing (numbers_of ours) w v h) where
  abbrev Drew : Who → Leg → List ℕ → Type 0
  Drew node leg bytes = IsPrefix bytes (drawn_by rules m deeds w.company w.cast h node leg)

  -- ---- requests

  -- the head with which what the client drew on the leg of a channel begins is its request
  of_client : (leg : Leg) (bytes text : List ℕ) → first_stage (pipe_put leg) ≡ stage.Head
      → Drew who.Client leg bytes → IsFirstHead text bytes
      → IsRequestOf ours.config leg.kind text
  of_client leg bytes text asks p =
      head_is law.begins law.asks (whole_requests law.in_requests law.out_requests) ours.config
      h.client flowing.flows.client leg asks bytes text
      (from_client m w.company w.cast ours h leg bytes p)

  of_out_request : (n : ℕ) (bytes text : List ℕ) → Drew who.Client (leg_at ClientOut n) bytes
      → IsFirstHead text bytes → IsRequest false text
  of_out_request n bytes text p first =
      out_asks ours.config text port (of_client (leg_at ClientOut n) bytes text refl p first)

  of_in_request : (n : ℕ) (bytes text : List ℕ) → Drew who.Client (leg_at ClientIn n) bytes
      → IsFirstHead text bytes → IsRequest true text
  of_in_request n bytes text p first = (
    asked_for ours.config ours.config.lifetime,
    in_asks ours.config text ranges.client port
        (of_client (leg_at ClientIn n) bytes text refl p first),
  )

  -- ---- responses

  of_out_response : (n : ℕ) (bytes text : List ℕ)
      → Drew (who.Out n) (leg_at ClientOut n) bytes → IsFirstHead text bytes → IsResponse text
  of_out_response n bytes text p first =
      let f = flowing.flows.outs n in
      let leg = leg_at ClientOut n in
      let put = of_leg leg f.passage.put in
      drawn_answers law put
      (drawn_on out_proxy.rules (begun (new_proxy (ours.out_config n)) ROOMS) leg (h.outs n))
      bytes text
      (out_answers law (ours.out_config n) (ranges.outs n) put
      (puts_200 (ours.out_config n) f.passage leg f.leads) (flowing.begun.out_client n))
      (flowing.begun.out_client_drew n) (from_out m w.company w.cast ours h n leg bytes p) first

  of_in_response : (k n : ℕ) (bytes text : List ℕ)
      → Drew (who.In k) (leg_at ClientIn n) bytes → IsFirstHead text bytes → IsResponse text
  of_in_response k n bytes text p first =
      let f = flowing.flows.ins k in
      let leg = leg_at ClientIn n in
      let put = of_leg leg f.passage.put in
      drawn_answers law put
      (drawn_on in_proxy.rules (in_proxy.first_node (ours.in_config k)) leg (h.ins k)) bytes text
      (echo_answers law put (echoes_alone (ours.in_config k) leg refl f.passage f.leads))
      (flowing.begun.in_client_drew k n) (from_in m w.company w.cast ours h k leg bytes p) first

  -- ---- on any leg

  by_kind : (readers : List ℕ) (kind : LegKind) (n : ℕ) (dir : Dir) (bytes text : List ℕ)
      → Drew (end_node readers (leg_at kind n) (sender dir)) (leg_at kind n) bytes
      → IsFirstHead text bytes → HeadIsRead kind dir text
  by_kind readers ClientOut n U bytes text p first = of_out_request n bytes text p first
  by_kind readers ClientOut n D bytes text p first = of_out_response n bytes text p first
  by_kind readers ClientIn n U bytes text p first = of_in_request n bytes text p first
  by_kind readers ClientIn n D bytes text p first = of_in_response _ n bytes text p first
  by_kind readers OutServer n dir bytes text p first = tt
  by_kind readers InServer n dir bytes text p first = tt

  pub head_read : (readers : List ℕ) (leg : Leg) (dir : Dir) (bytes text : List ℕ)
      → IsPrefix bytes
      (drawn_by rules m deeds w.company v.cast h (end_node readers leg (sender dir)) leg)
      → IsFirstHead text bytes → HeadIsRead leg.kind dir text
  head_read readers leg dir bytes text p first =
      by_kind readers leg.kind leg.number dir bytes text
      (as_first m w v flowing.cast h (end_node readers leg (sender dir)) leg bytes p) first
