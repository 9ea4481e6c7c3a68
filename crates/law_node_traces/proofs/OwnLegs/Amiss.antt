-- where a node closes since what came was not to come there, it keeps an end of that leg; and a
-- client does so on its OUT legs alone
use Rattle.law_order.proofs.Vocabulary.{◌≡◌, inl, inr, ℕ, List, Some, None, refl, sym, ap, ◌∙◌, subst, Option}
use Rattle.rh_line.specs.declared.cause.Cause.TheVariants as cause
use Rattle.rh_client.specs.declared.state.ClientRole.{ClientRole}
use Rattle.rh_client.specs.Client as client
use Rattle.law_moves.proofs.Vocabulary.{Refusal, Cause, Leg, ClientOut, Course, Going, Closed, Refusing, Stop, Turn, goes, hear, NearEnd, Rules, Shell, bytes_at, bytes_by, end_at, place, stop_by, stopped, with_end, ClosedWith}
use Rattle.law_node_history.proofs.Vocabulary.{Event, Comes, tell}
use Rattle.law_node_causes.specs.Closings.{ClosesWith, ComesFrom, IsPiece, MayClose}
use Rattle.law_node_causes.specs.Reasons.{ComesAmiss}
use Rattle.law_node_traces.proofs.OwnLegs.InLegs.{IsOfHead, StopsByHead, piece_waits}
use Rattle.law_node_traces.proofs.Vocabulary.{IsAmissOn, IsOfClient, KeepsEnds, KeepsLegs}

-- ---- the laws that this stands on

-- which event closes a node with which cause
pub record ClosesBy {S : Type 0} (rules : Rules S) : Type 0 where
  pub comes : (node : Shell S) (event : Event) (why : Cause) → ClosesWith rules node event why
      → ComesFrom rules node event why
  pub may : (node : Shell S) (event : Event) (why : Cause) → ClosesWith rules node event why
      → MayClose rules node event why

-- and it closes once
pub record ClosesOnce {S : Type 0} (rules : Rules S) : Type 0 where
  pub closed : (node : Shell S) (event : Event) (why : Cause) → ClosesWith rules node event why
      → ClosedWith why (tell rules node event).0.course
  pub again : (node : Shell S) (why : Cause) (event : Event) → ClosedWith why node.course
      → (tell rules node event).1 ≡ None

-- ---- a piece came on that leg, of which the node keeps an end

pub record CameOn {S : Type 0} (node : Shell S) (event : Event) (leg : Leg) : Type 0 where
  pub piece : List ℕ
  pub is : event ≡ Comes leg piece
  pub end : NearEnd
  pub at : end_at node leg ≡ Some end
  pub same : end.leg ≡ leg

module _ {S : Type 0} (rules : Rules S) (law : ClosesBy rules) (node : Shell S) (event : Event)
    (leg : Leg) where
  by_piece : (why : Cause) (came : IsPiece event) → ClosesWith rules node event why
      → (ComesAmiss rules node came.leg came.piece why → leg ≡ came.leg)
      → CameOn node event leg
  by_piece why came closes names =
      let amiss = subst (λ (e : Event). MayClose rules node e why) came.is
      (law.may node event why closes) in
      let here = sym (names amiss) in
      record {
        piece = came.piece;
        is = came.is ∙ ap (λ (l : Leg). Comes l came.piece) here;
        end = amiss.end;
        at = subst (λ (l : Leg). end_at node l ≡ Some amiss.end) here amiss.at;
        same = amiss.same ∙ here;
      }

  pub came_on : (why : Cause) → IsAmissOn leg why → ClosesWith rules node event why
      → CameOn node event leg
  came_on why (inl (place, is)) closes =
      let unexpected = cause.Unexpected leg place in
      let now = subst (ClosesWith rules node event) is closes in
      by_piece unexpected (law.comes node event unexpected now) now (λ amiss. amiss.cause)
  came_on why (inr (expected, got, is)) closes =
      let mismatch = cause.CookieMismatch leg expected got in
      let now = subst (ClosesWith rules node event) is closes in
      by_piece mismatch (law.comes node event mismatch now) now (λ amiss. amiss.cause)

  -- so it is a leg as the node keeps
  pub on_its_leg : (On : Leg → Type 0) → KeepsLegs On node → (why : Cause)
      → IsAmissOn leg why → ClosesWith rules node event why → On leg
  on_its_leg On keeps why amiss closes =
      let came = came_on why amiss closes in
      subst On came.same (keeps came.end (record { place = place leg node.legs; at = came.at }))

-- ---- what stops the node

abbrev StopsWith : Cause → Option Stop → Type 0
StopsWith why None = ⊥
StopsWith why (Some stop) = stop.cause ≡ why

module _ {S : Type 0} (rules : Rules S) (node : Shell S) (leg : Leg) (piece : List ℕ)
    (why : Cause) (end : NearEnd) (at : end_at node leg ≡ Some end)
    (goes_on : (first : Cause) → ClosedWith first node.course → ⊥) where
  abbrev turn : Turn S
  turn = hear rules node.now (goes end node.role) piece

  abbrev behind : Shell S
  behind = with_end node leg turn.end turn.role

  by_refusal : (stop : Stop) (o : Option Refusal)
      → ClosedWith why (stop_by behind leg stop.cause o).course → stop.cause ≡ why
  by_refusal stop None closed = closed
  by_refusal stop (Some refusal) closed = closed

  by_stop : (o : Option Stop) → ClosedWith why (stopped behind leg o).course → StopsWith why o
  by_stop None closed = goes_on why closed
  by_stop (Some stop) closed = by_refusal stop stop.refusal closed

  by_course : (c : Course) → node.course ≡ c
      → ClosedWith why (bytes_by rules node leg piece c).course → StopsWith why turn.stop
  by_course Going is closed =
      by_stop turn.stop
      (subst (λ (o : Option NearEnd). ClosedWith why (bytes_at rules node leg piece o).course) at
      closed)
  by_course (Closed first) is closed =
      absurd (goes_on first (subst (ClosedWith first) (sym is) refl))
  by_course (Refusing first on rest) is closed =
      absurd (goes_on first (subst (ClosedWith first) (sym is) refl))

  stops_with : ClosedWith why (bytes_by rules node leg piece node.course).course
      → StopsWith why turn.stop
  stops_with closed = by_course node.course refl closed

-- ---- a client

of_head : (why : Cause) (o : Option Stop) → StopsWith why o → StopsByHead o → IsOfHead why
of_head why None stops is = absurd stops
of_head why (Some stop) stops is = subst IsOfHead stops is

-- no head has such a cause
not_of_head : (leg : Leg) (why : Cause) → IsAmissOn leg why → IsOfHead why → ⊥
not_of_head leg why (inl (place, is)) head = subst IsOfHead is head
not_of_head leg why (inr (expected, got, is)) head = subst IsOfHead is head

pub client_on_outs : ClosesBy client.rules → ClosesOnce client.rules
    → (node : Shell ClientRole) → KeepsEnds IsOfClient node → (event : Event) (leg : Leg)
    (why : Cause) → IsAmissOn leg why → ClosesWith client.rules node event why
    → leg.kind ≡ ClientOut
client_on_outs law once node keeps event leg why amiss closes =
    let came = came_on client.rules law node event leg why amiss closes in
    by came (keeps came.end (record { place = place leg node.legs; at = came.at }))
  where
    some_none : {A : Type 0} {a : A} → None ≡ Some a → ⊥
    some_none e = absurd cc

    by : (came : CameOn node event leg) → IsOfClient came.end → leg.kind ≡ ClientOut
    by came (inl out) = subst (λ (l : Leg). l.kind ≡ ClientOut) came.same out
    by came (inr (kind, waits)) =
        let now = subst (λ (e : Event). ClosesWith client.rules node e why) came.is closes in
        let goes_on = λ (first : Cause) (closed : ClosedWith first node.course).
        some_none (sym (once.again node first (Comes leg came.piece) closed) ∙ now) in
        let stops = stops_with client.rules node leg came.piece why came.end came.at goes_on
        (once.closed node (Comes leg came.piece) why now) in
        absurd (not_of_head leg why amiss
        (of_head why _ stops (piece_waits node.now came.end node.role came.piece kind waits).stop))
