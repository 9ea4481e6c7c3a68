-- what is still to be reported are nodes that are closed
use Rattle.law_order.proofs.Vocabulary.{◌≡◌, [], Some, sym, subst, ⊎_elim}
use Rattle.rh_wires.specs.Legs as legs
use Rattle.rh_company.specs.Company as company
use Rattle.law_moves.proofs.Vocabulary.{Cause}
use Rattle.law_node_history.proofs.Vocabulary.{Who, receiver, Closing, Event, Comes, Rulebook, Deeds, Makers, World, at, Change, IsTold, IsFed, MayChange, Leads, changed, IsOneOf, ClosesNode, HasClosed}
use Rattle.law_node_history.proofs.Leading.{leads_keep}
use Rattle.law_node_history.proofs.Closed.{tell_closes, closed_stays}
use Rattle.law_node_history.proofs.Reported.{told_is, none_told}
use Rattle.law_node_history.proofs.Reporting.{change_closes}

module _ {K C S I O : Type 0} (r : Rulebook C S I O) (m : Makers K I O) (d : Deeds C S) where
  -- by what a node was told
  closed_by : (w : World K C S I O) (other : Who) (event : Event) (node : Who) (why : Cause)
      (said : Event) → ◌≡◌ {A = Who × Event} (other, event) (node, said)
      → (company.tell r w.company node said).1 ≡ Some why
      → HasClosed (company.tell r w.company other event).0 node why
  closed_by w other event node why said is closes =
      subst (λ (p : Who × Event). HasClosed (company.tell r w.company p.0 p.1).0 node why)
      (sym is) (tell_closes r why w.company node said closes)

  closed_behind : (w : World K C S I O) (change : Change) (node : Who) (why : Cause)
      → ClosesNode r w change node why → HasClosed (changed r m d w change).company node why
  closed_behind w (IsTold other event) node why c =
      closed_by w other event node why c.event
      (told_is r m d (other, event) (node, c.event) c.told) c.closes
  closed_behind w (IsFed leg dir count) node why c =
      let other = at w leg (receiver dir) in
      let event = Comes leg (legs.take_out leg dir count w.legs).1 in
      closed_by w other event node why c.event
      (told_is r m d (other, event) (node, c.event) c.told) c.closes
  closed_behind w change node why c = absurd (none_told r m d (node, c.event) c.told)

  abbrev AllClosed : World K C S I O → Type 0
  AllClosed w = (x : Closing) → IsOneOf x w.closed → HasClosed w.company x.who x.cause

  keeps_closed : (w : World K C S I O) (change : Change) → AllClosed w → MayChange r w change
      → AllClosed (changed r m d w change)
  keeps_closed w change all may x there =
      ⊎_elim (λ old. closed_stays r m d x.cause x.who w change (all x old) may)
      (λ new. closed_behind w change x.who x.cause new) (change_closes r m d w change x there)

  pub closed_to_report : (w v : World K C S I O) → w.closed ≡ [] → Leads r m d w v
      → (x : Closing) → IsOneOf x v.closed → HasClosed v.company x.who x.cause
  closed_to_report w v none leads =
      leads_keep r m d AllClosed keeps_closed w v leads
      (λ x there. absurd (subst (λ list. IsOneOf x list) none there))
