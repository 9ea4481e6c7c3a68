-- each text that a client puts is the request for the channel of its leg
use Rattle.law_order.proofs.Vocabulary.{ℕ, Bool, true, false, ◌&&◌, if◌then◌else◌, List, Some, None, inl, inr, refl, subst, AllByRecursion, IfSome, Option}
use Rattle.rh_client.specs.Putting.{pdu_by}
use Rattle.rh_client.specs.declared.replacement.InStage.TheVariants as in_stage
use Rattle.rh_client.specs.declared.replacement.OutStage.TheVariants as out_stage
use Rattle.rh_client.specs.Putting as putting
use Rattle.law_moves.proofs.Vocabulary.{Ack, may_put, fits, by_test, CONN_B1_LEN, IN_R1_A1_LEN, IN_R1_A5_LEN, OUT_R1_A7_LEN, END_A1_LEN, ACK_TO_LEN, PING_LEN, ClientConfig, each_push, front_length, Leg, LegKind, ClientOut, OutServer, ClientIn, InServer, Which, Current, Next, Message, same_leg, EndMove, of_leg}
use Rattle.law_moves.proofs.Lemmas.{leg_is}
use Rattle.law_role_client.proofs.Vocabulary.{Opening, NotUp, Request, First, Second, Put, Replacement, NoneUnderWay, In, Out, ClientRole, ack_due, rules, acts, is_writing, is_in_successor, is_current, is_out_successor, Pick, or_else, put_by, put_conn_b1, put_in_r1_a1, put_current, put_out_successor, put_out, due_by, put_due, ack_by, put_ack_of, put_ack, lets_pdu, put_pdu, is_end_due, put_end, put_ping, put_successor_ping, put_next, put_writing, put_in_successor, put_in}
use Rattle.law_role_client.proofs.Vocabulary.{settled_pick, AreAllowedMoves, client_moved, client_started}
use Rattle.law_node_begins.proofs.EndsBegin.Stands.{Logs, grown}
use Rattle.law_node_begins.proofs.EndsBegin.Moves.{StepsKeep, moves_keep}
use Rattle.law_node_begins.proofs.EndsBegin.ClientPuts.{AreFirst}
use Rattle.law_node_begins.proofs.EndsBegin.ClientMoves.{Any, AnyUp, Holds, LegCame, says_kind, starts, steps}
use Rattle.law_node_begins.specs.EndsBegin.{Asks}

-- ---- what is picked

module _ (config : ClientConfig) (kind : LegKind) where
  abbrev pub Fine : Pick → Type 0
  Fine None = Unit {0}
  Fine (Some pick) = Asks config kind pick.1

  or_fine : (a b : Pick) → Fine a → Fine b → Fine (or_else a b)
  or_fine None b p q = q
  or_fine (Some pick) b p q = p

  fine_if : (t : Bool) (role : ClientRole) (message : Message) → Asks config kind message
      → Fine (if t then Some (role, message) else None)
  fine_if true role message asks = asks
  fine_if false role message asks = tt

  settled_fine : (pick : Pick) → Fine pick → Fine (settled_pick pick)
  settled_fine None h = tt
  settled_fine (Some pick) h = h

module _ (s : ClientRole) where
  abbrev FineOn : LegKind → Pick → Type 0
  FineOn kind pick = Fine s.config kind pick

  current_fine : (o : Opening) → FineOn ClientOut (put_current s o)
  unfolding put_current
  current_fine NotUp = tt
  current_fine Request = inl refl
  current_fine First = tt
  current_fine Second = tt
  current_fine Put = tt

  out_successor_fine : (o : Opening) → FineOn ClientOut (put_out_successor s o)
  unfolding put_out_successor
  out_successor_fine NotUp = tt
  out_successor_fine Request = inr refl
  out_successor_fine First = tt
  out_successor_fine Second = tt
  out_successor_fine Put = tt

  out_fine : (n : ℕ) → FineOn ClientOut (put_out s n)
  unfolding put_out
  out_fine n =
      by_test (FineOn ClientOut) (is_current s n) (put_current s s.current.opening)
      (if is_out_successor s n then put_out_successor s s.out_successor.opening else None)
      (λ e. current_fine s.current.opening)
      (λ e. by_test (FineOn ClientOut) (is_out_successor s n)
      (put_out_successor s s.out_successor.opening) None
      (λ o. out_successor_fine s.out_successor.opening) (λ o. tt))

  due_fine : (r : Replacement) → FineOn ClientIn (due_by s r)
  due_fine NoneUnderWay = tt
  due_fine (In in_stage.Asked w) = tt
  due_fine (In in_stage.Answered w) =
      fine_if s.config ClientIn (fits s.writing.meter IN_R1_A5_LEN) _ _ tt
  due_fine (Out out_stage.Asked w) = tt
  due_fine (Out out_stage.Answered w) =
      fine_if s.config ClientIn (fits s.writing.meter OUT_R1_A7_LEN) _ _ tt
  due_fine (Out out_stage.Switched w) = tt
  due_fine (Out out_stage.Finished w) = tt

  ack_fine : (which : Which) (ack : Option Ack) → FineOn ClientIn (ack_by s which ack)
  ack_fine which None = tt
  ack_fine which (Some ack) =
      fine_if s.config ClientIn (may_put s.writing.meter ACK_TO_LEN) _ _ tt

  pdu_fine : (len : Option ℕ) → FineOn ClientIn (pdu_by s len)
  pdu_fine None = tt
  pdu_fine (Some len) = fine_if s.config ClientIn (lets_pdu s len) _ _ tt

  next_fine : FineOn ClientIn (put_next s)
  unfolding put_next put_due put_ack put_ack_of put_pdu put_end put_ping
  next_fine =
      or_fine s.config ClientIn (due_by s s.replacement) _ (due_fine s.replacement)
      (or_fine s.config ClientIn (or_else (ack_by s Current (ack_due s Current))
      (ack_by s Next (ack_due s Next))) _
      (or_fine s.config ClientIn (ack_by s Current (ack_due s Current))
      (ack_by s Next (ack_due s Next)) (ack_fine Current (ack_due s Current))
      (ack_fine Next (ack_due s Next)))
      (or_fine s.config ClientIn (pdu_by s (front_length s.queue)) _
      (pdu_fine (front_length s.queue))
      (or_fine s.config ClientIn _ _
      (fine_if s.config ClientIn (is_end_due s && fits s.writing.meter END_A1_LEN) _ _ tt)
      (fine_if s.config ClientIn (s.writing.is_ping_due && may_put s.writing.meter PING_LEN) _ _
      tt))))

  writing_fine : (o : Opening) → FineOn ClientIn (put_writing s o)
  unfolding put_writing put_conn_b1
  writing_fine NotUp = tt
  writing_fine Request = refl
  writing_fine First =
      fine_if s.config ClientIn (may_put s.writing.meter CONN_B1_LEN) _ _ tt
  writing_fine Second = tt
  writing_fine Put = next_fine

  in_successor_fine : (o : Opening) → FineOn ClientIn (put_in_successor s o)
  unfolding put_in_successor put_in_r1_a1 put_successor_ping
  in_successor_fine NotUp = tt
  in_successor_fine Request = refl
  in_successor_fine First =
      fine_if s.config ClientIn (may_put s.in_successor.meter IN_R1_A1_LEN) _ _ tt
  in_successor_fine Second = tt
  in_successor_fine Put =
      fine_if s.config ClientIn
      (s.in_successor.is_ping_due && may_put s.in_successor.meter PING_LEN) _ _ tt

  in_fine : (n : ℕ) → FineOn ClientIn (put_in s n)
  unfolding put_in
  in_fine n =
      by_test (FineOn ClientIn) (is_writing s n) (put_writing s s.writing.opening)
      (if is_in_successor s n then put_in_successor s s.in_successor.opening else None)
      (λ e. writing_fine s.writing.opening)
      (λ e. by_test (FineOn ClientIn) (is_in_successor s n)
      (put_in_successor s s.in_successor.opening) None
      (λ o. in_successor_fine s.in_successor.opening) (λ o. tt))

  by_kind : (n : ℕ) (kind : LegKind) → FineOn kind (put_by s n kind)
  unfolding put_by
  by_kind n ClientOut = out_fine n
  by_kind n ClientIn = in_fine n
  by_kind n OutServer = tt
  by_kind n InServer = tt

  pub put_fine : (leg : Leg) → FineOn leg.kind (putting.put s leg)
  put_fine leg =
      settled_fine s.config leg.kind (put_by s leg.number leg.kind) (by_kind leg.number leg.kind)

-- ---- all moves

module _ (config : ClientConfig) where
  abbrev AllAsk : Logs → Type 0
  AllAsk logs = (leg : Leg) → AllByRecursion (Asks config leg.kind) (logs leg)

  grown_asks : (leg : Leg) (message : Message) (logs : Logs) → Asks config leg.kind message
      → AllAsk logs → AllAsk (grown leg message logs)
  grown_asks leg message logs asks all other =
      by_test (AllByRecursion (Asks config other.kind)) (same_leg leg other) _ (logs other)
      (λ e. each_push (Asks config other.kind) (logs other) message (all other)
      (subst (λ (l : Leg). Asks config l.kind message) (leg_is leg other e) asks))
      (λ e. all other)

  any_first : AreFirst config Any
  any_first = record { ins = tt; outs = λ len. tt }

  abbrev Keeps : Logs → ClientRole → Type 0
  Keeps logs s = Holds config Any AnyUp any_first logs s × AllAsk logs

  put_asks : (logs : Logs) (leg : Leg) (pick : Pick)
      → IfSome pick (λ (put : ClientRole × Message).
      Holds config Any AnyUp any_first (grown leg put.1 logs) put.0)
      → Fine config leg.kind pick → AllAsk logs
      → IfSome pick (λ (put : ClientRole × Message). Keeps (grown leg put.1 logs) put.0)
  put_asks logs leg None holds fine all = tt
  put_asks logs leg (Some pick) holds fine all =
      (holds, grown_asks leg pick.1 logs fine all)

  asking : StepsKeep rules acts Keeps (LegCame config Any AnyUp any_first)
  asking =
      let old = steps config Any AnyUp any_first in
      record {
        up = λ logs s leg cookie may up k. (old.up logs s leg cookie may up k.0, k.1);
        head = λ logs s leg text k. (old.head logs s leg text k.0, k.1);
        pdu = λ logs s leg count bytes k. (old.pdu logs s leg count bytes k.0, k.1);
        packet = λ logs s leg count named k. (old.packet logs s leg count named k.0, k.1);
        put = λ logs s leg k.
            put_asks logs leg (putting.put s leg) (old.put logs s leg k.0)
            (subst (λ (c : ClientConfig). Fine c leg.kind (putting.put s leg))
            k.0.config_stays (put_fine s leg)) k.1;
        drawn = λ logs s leg k. (old.drawn logs s leg k.0, k.1);
        mark = λ logs s leg k. (old.mark logs s leg k.0, k.1);
        ping = λ logs s leg k. (old.ping logs s leg k.0, k.1);
        give = λ logs s bytes k. (old.give logs s bytes k.0, k.1);
        take = λ logs s k. (old.take logs s k.0, k.1);
        close = λ logs s k. (old.close logs s k.0, k.1);
        recycle = λ logs s k. (old.recycle logs s k.0, k.1);
      }

  pub client_asks : (all : List EndMove) (leg : Leg) → AreAllowedMoves config all
      → AllByRecursion (Asks config leg.kind) (of_leg leg (client_moved config all).passage.put)
  client_asks all leg allowed =
      (moves_keep rules acts Keeps (LegCame config Any AnyUp any_first) asking
      (client_started config) all allowed
      (λ other e. says_kind config Any AnyUp any_first other.number other.kind (λ is. tt))
      (starts config Any AnyUp any_first, λ other. tt)).1 leg
