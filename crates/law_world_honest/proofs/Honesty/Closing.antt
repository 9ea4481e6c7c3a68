-- whatever a change of a world of honest roles is, it closes no node for bad bytes
use Rattle.law_order.proofs.Vocabulary.{◌≡◌, ℕ, List, inl, inr, sym, ◌∙◌, refl, subst, Some, None}
use Rattle.rh_line.specs.declared.cause.Cause.TheVariants as cause
use Rattle.rh_record.specs.declared.answer.Who.TheVariants as who
use Rattle.rh_shell.specs.declared.answers.Refused.TheVariants as refused
use Rattle.rh_inproxy.specs.Machine as in_proxy
use Rattle.rh_outproxy.specs.Machine as out_proxy
use Rattle.rh_client.specs.Client as client
use Rattle.rh_server.specs.Servers as server
use Rattle.rh_company.specs.Company as company
use Rattle.rh_company.specs.Places as places
use Rattle.law_moves.proofs.Vocabulary.{Dir, FLOW_CONTROL_ACK, Cause, Leg, Rules, Shell}
use Rattle.law_role_inproxy.proofs.Vocabulary.{InProxy}
use Rattle.law_role_client.proofs.Vocabulary.{ClientRole}
use Rattle.law_role_server.proofs.Vocabulary.{Server}
use Rattle.law_node_history.proofs.Vocabulary.{Who, Event, Comes, Place, Absent, Here, Gone, World, Change, IsTold, IsFed, IsDrawn, GoesUp, RaisesAlone, GoesDown, OpensIn, OpensOut, OpensSame, Gives, Takes, Closes, RecyclesIn, RecyclesOut, MovesTo, Draws, Reports, MayChange, ClosesNode, in_place, out_place}
use Rattle.law_node_history.proofs.Lemmas.{answered}
use Rattle.law_node_causes.specs.Closings.{ClosesWith, ComesFrom, IsPiece}
use Rattle.law_role_outproxy.proofs.Vocabulary.{OutProxy}
use Rattle.law_node_traces.proofs.Vocabulary.{rules}
use Rattle.law_world_order.proofs.Vocabulary.{read_on}
use Rattle.law_world_honest.proofs.Honesty.Fed.{told_what}
use Rattle.law_world_honest.specs.Honesty.Causes.{IsOfHeard, RowRefuses}
use Rattle.law_world_honest.specs.Honesty.Honest.{IsOfNode}
use Rattle.law_world_honest.specs.Honesty.Rows.{IsOfAck, RefusesAcks}

-- ---- the laws that this stands on

abbrev ComesByEvent : {S : Type 0} → Rules S → Type 0
ComesByEvent {S} rules =
    (node : Shell S) (event : Event) (why : Cause) → ClosesWith rules node event why
    → ComesFrom rules node event why

pub record EachComes : Type 0 where
  pub client : ComesByEvent client.rules
  pub server : ComesByEvent server.rules
  pub ins : ComesByEvent in_proxy.rules
  pub outs : ComesByEvent out_proxy.rules

pub each_of : ComesByEvent client.rules → ComesByEvent server.rules
    → ComesByEvent in_proxy.rules → ComesByEvent out_proxy.rules → EachComes
each_of client server ins outs =
    record { client = client; server = server; ins = ins; outs = outs }

pub record EachRefuses : Type 0 where
  pub client : RefusesAcks client.rules
  pub server : RefusesAcks server.rules
  pub ins : RefusesAcks in_proxy.rules
  pub outs : RefusesAcks out_proxy.rules

-- ---- a cause of a piece comes by one

abbrev pub IsOfPiece : Event → Cause → Type 1
IsOfPiece event why =
    (S : Type 0) (rules : Rules S) (node : Shell S) → ComesFrom rules node event why
    → IsPiece event

module _ {K : Type 0} (each : EachComes) (v : World K ClientRole Server InProxy OutProxy)
    (event : Event) (why : Cause) (piece : IsOfPiece event why) where
  in_piece : (place : Place InProxy) → (places.tell in_proxy.rules event place).1 ≡ Some why
      → IsPiece event
  in_piece Absent e = absurd cc
  in_piece (Here node legs) e = piece InProxy in_proxy.rules node (each.ins node event why e)
  in_piece (Gone now) e = absurd cc

  out_piece : (place : Place OutProxy) → (places.tell out_proxy.rules event place).1 ≡ Some why
      → IsPiece event
  out_piece Absent e = absurd cc
  out_piece (Here node legs) e = piece OutProxy out_proxy.rules node (each.outs node event why e)
  out_piece (Gone now) e = absurd cc

  is_piece : (node : Who) → (company.tell rules v.company node event).1 ≡ Some why
      → IsPiece event
  is_piece who.Client e =
      piece ClientRole client.rules v.company.client (each.client v.company.client event why e)
  is_piece who.Server e =
      piece Server server.rules v.company.server (each.server v.company.server event why e)
  is_piece (who.In n) e =
      in_piece (in_place v.company n)
      (sym (answered Absent (places.tell in_proxy.rules event) None refl v.company.ins n) ∙ e)
  is_piece (who.Out n) e =
      out_piece (out_place v.company n)
      (sym (answered Absent (places.tell out_proxy.rules event) None refl v.company.outs n) ∙ e)

-- ---- and a piece is fed

-- what follows where one that is fed closes the node follows where any change does
module _ {K : Type 0} (v : World K ClientRole Server InProxy OutProxy) (node : Who) (why : Cause)
    (X : Type 0) (fed : (leg : Leg) (dir : Dir) (count : ℕ)
    → MayChange rules v (IsFed leg dir count) → ClosesNode rules v (IsFed leg dir count) node why
    → X) where
  never : {a : Who × Event} → None ≡ Some a → X
  never e = absurd cc

  by_change : (change : Change) → MayChange rules v change
      → (is : ClosesNode rules v change node why) → IsPiece is.event → X
  by_change (IsFed leg dir count) may is piece = fed leg dir count may is
  by_change (IsTold other event) may is piece =
      absurd (none event (told_what other node event is.event is.told ∙ piece.is) may)
    where
      none : (event : Event) → event ≡ Comes piece.leg piece.piece
          → MayChange rules v (IsTold other event) → ⊥
      none event e may = subst (λ (x : Event). MayChange rules v (IsTold other x)) e may
  by_change (IsDrawn leg dir count) may is piece = never is.told
  by_change (GoesUp other leg end cookie) may is piece = never is.told
  by_change (RaisesAlone other leg end cookie) may is piece = never is.told
  by_change (GoesDown other leg end) may is piece = never is.told
  by_change (OpensIn n cookie) may is piece = never is.told
  by_change (OpensOut n cookie) may is piece = never is.told
  by_change (OpensSame n cookie) may is piece = never is.told
  by_change (Gives end pdu) may is piece = never is.told
  by_change (Takes end) may is piece = never is.told
  by_change (Closes end) may is piece = never is.told
  by_change RecyclesIn may is piece = never is.told
  by_change RecyclesOut may is piece = never is.told
  by_change (MovesTo now) may is piece = never is.told
  by_change (Draws cookies) may is piece = never is.told
  by_change Reports may is piece = never is.told

  pub by_fed : EachComes → (change : Change) → MayChange rules v change
      → (is : ClosesNode rules v change node why) → IsOfPiece is.event why → X
  by_fed each change may is piece =
      by_change change may is (is_piece each v is.event why piece node is.closes)

-- ---- no bad bytes

-- what follows of such a cause whatever the rules are
pub of_rules : (node : Who) (on : Leg) (dir : Dir) (heard : List ℕ) (why : Cause) (X : Type 0)
    → ((S : Type 0) (its : Rules S) → IsOfHeard its on (read_on on.kind dir) heard why → X)
    → IsOfNode node on dir heard why → X
of_rules who.Client on dir heard why X law is = law ClientRole client.rules is
of_rules who.Server on dir heard why X law is = law Server server.rules is
of_rules (who.In n) on dir heard why X law is = law InProxy in_proxy.rules is
of_rules (who.Out n) on dir heard why X law is = law OutProxy out_proxy.rules is

of_row : {S : Type 0} (its : Rules S) → RefusesAcks its → (leg : Leg) (command value : ℕ)
    → RowRefuses its leg (refused.OutOfRange command value) → command ≡ FLOW_CONTROL_ACK
of_row its law leg command value (inl packet) =
    subst IsOfAck packet.3 (law.packet packet.0 leg packet.1 packet.2)
of_row its law leg command value (inr pdu) =
    subst IsOfAck pdu.3 (law.pdu pdu.0 leg pdu.1 pdu.2)

pub of_acknowledgement : EachRefuses → (node : Who) (on : Leg) (dir : Dir) (heard : List ℕ)
    (leg : Leg) (command value : ℕ)
    → IsOfNode node on dir heard (cause.OutOfRange leg command value)
    → command ≡ FLOW_CONTROL_ACK
of_acknowledgement law who.Client on dir heard leg command value is =
    of_row client.rules law.client on command value is
of_acknowledgement law who.Server on dir heard leg command value is =
    of_row server.rules law.server on command value is
of_acknowledgement law (who.In n) on dir heard leg command value is =
    of_row in_proxy.rules law.ins on command value is
of_acknowledgement law (who.Out n) on dir heard leg command value is =
    of_row out_proxy.rules law.outs on command value is
