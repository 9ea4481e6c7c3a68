-- each node that a line reports as closed was closed by one of its changes
use Rattle.rh_text.specs.declared.ends.Side.TheVariants as side
use Rattle.law_order.proofs.Vocabulary.{◌≡◌, ℕ, zero, suc, List, [], ◌∷◌, ◌++◌, true, Some, None, refl, sym, ap, ◌∙◌, subst, ◌⊎◌, inl, inr, ⊎_elim, ap₂, insert, list_all, Option, and_parts, false≢true}
use Rattle.rh_record.specs.declared.answer.Who.TheVariants as who
use Rattle.rh_wires.specs.Legs as legs
use Rattle.rh_company.specs.Closings.{noted}
use Rattle.rh_company.specs.Company as company
use Rattle.law_moves.proofs.Vocabulary.{Cause}
use Rattle.law_node_history.proofs.Vocabulary.{Answer, NodeClosed, Who, Line, receiver, Closing, Event, Comes, place, lines, Rulebook, Deeds, Makers, step, step_line, World, at, Change, IsTold, IsFed, IsDrawn, GoesUp, RaisesAlone, GoesDown, OpensIn, OpensOut, OpensSame, Gives, Takes, Closes, RecyclesIn, RecyclesOut, MovesTo, Draws, Reports, changed, all_changed, told_by, IsOneOf, ClosesNode, IsClosedBy, LineCloses}
use Rattle.law_node_history.proofs.Answering.{is_other}
use Rattle.law_node_history.proofs.Lines.{goes_step_line}

-- ---- lists

pub one_of_both : {X : Type 0} (x : X) (xs ys : List X) → IsOneOf x (xs ++ ys)
    → IsOneOf x xs ⊎ IsOneOf x ys
one_of_both x [] ys h = inr h
one_of_both x (z ∷ xs) ys (inl here) = inl (inl here)
one_of_both x (z ∷ xs) ys (inr behind) =
    ⊎_elim (λ in_xs. inl (inr in_xs)) (λ in_ys. inr in_ys) (one_of_both x xs ys behind)

one_of_insert : {X : Type 0} (x y : X) (list : List X) (i : ℕ) → IsOneOf x (insert list i y)
    → IsOneOf x list ⊎ (y ≡ x)
one_of_insert x y [] zero (inl here) = inr here
one_of_insert x y [] zero (inr behind) = absurd behind
one_of_insert x y [] (suc i) (inl here) = inr here
one_of_insert x y [] (suc i) (inr behind) = absurd behind
one_of_insert x y (z ∷ list) zero (inl here) = inr here
one_of_insert x y (z ∷ list) zero (inr behind) = inl behind
one_of_insert x y (z ∷ list) (suc i) (inl here) = inl (inl here)
one_of_insert x y (z ∷ list) (suc i) (inr behind) =
    ⊎_elim (λ old. inl (inr old)) (λ new. inr new) (one_of_insert x y list i behind)

-- ---- closings

one_of_noted : (x : Closing) (list : List Closing) (node : Who) (o : Option Cause)
    → IsOneOf x (noted list node o)
    → IsOneOf x list ⊎ ((node ≡ x.who) × (o ≡ Some x.cause))
one_of_noted x list node None h = inl h
one_of_noted x list node (Some why) h =
    ⊎_elim (λ old. inl old)
    (λ new. inr (ap (λ (c : Closing). c.who) new, ap (λ (c : Closing). Some c.cause) new))
    (one_of_insert x (record { who = node; cause = why }) list (place node list) h)

-- what an answer tells
told_who : Answer → Who
told_who (NodeClosed node why) = node
told_who one = who.Client

told_cause : Cause → Answer → Cause
told_cause other (NodeClosed node why) = why
told_cause other one = other

pub one_of_lines : (node : Who) (why : Cause) (list : List Closing)
    → IsOneOf (NodeClosed node why) (lines list)
    → IsOneOf (record { who = node; cause = why }) list
unfolding told_who told_cause
one_of_lines node why [] h = absurd h
one_of_lines node why (closing ∷ list) (inl here) =
    let w : closing.who ≡ node = ap told_who here in
    let c : closing.cause ≡ why = ap (told_cause why) here in
    inl (ap₂ (λ a b. record { who = a; cause = b }) w c)
one_of_lines node why (closing ∷ list) (inr behind) = inr (one_of_lines node why list behind)

-- no other answer tells of a closed node
none_of_others : (node : Who) (why : Cause) (list : List Answer)
    → list_all is_other list ≡ true → IsOneOf (NodeClosed node why) list → ⊥
none_of_others node why [] others h = h
none_of_others node why (one ∷ list) others (inl here) =
    false≢true (ap is_other (sym here) ∙ (and_parts (is_other one) (list_all is_other list)
    others).0)
none_of_others node why (one ∷ list) others (inr behind) =
    none_of_others node why list (and_parts (is_other one) (list_all is_other list) others).1
    behind

module _ {K C S I O : Type 0} (r : Rulebook C S I O) (m : Makers K I O) (d : Deeds C S) where
  -- ---- a change

  abbrev pub Found : World K C S I O → Change → Closing → Type 0
  Found w change x = IsOneOf x w.closed ⊎ ClosesNode r w change x.who x.cause

  told_closes : (w : World K C S I O) (change : Change) (node : Who) (event : Event) (x : Closing)
      → told_by w change ≡ Some (node, event)
      → IsOneOf x (noted w.closed node (company.tell r w.company node event).1)
      → Found w change x
  told_closes w change node event x is h =
      ⊎_elim (λ old. inl old) (λ (new : (node ≡ x.who)
      × ((company.tell r w.company node event).1 ≡ Some x.cause)). inr (record {
        event = event;
        told = is ∙ ap (λ n. Some (n, event)) new.0;
        closes = ap (λ n. (company.tell r w.company n event).1) (sym new.0) ∙ new.1;
      })) (one_of_noted x w.closed node (company.tell r w.company node event).1 h)

  pub change_closes : (w : World K C S I O) (change : Change) (x : Closing)
      → IsOneOf x (changed r m d w change).closed → Found w change x
  change_closes w (IsTold node event) x h =
      told_closes w (IsTold node event) node event x refl h
  change_closes w (IsFed leg dir count) x h =
      told_closes w (IsFed leg dir count) (at w leg (receiver dir))
      (Comes leg (legs.take_out leg dir count w.legs).1) x refl h
  change_closes w (IsDrawn leg dir count) x h = inl h
  change_closes w (GoesUp node leg end cookie) x h = inl h
  change_closes w (RaisesAlone node leg end cookie) x h = inl h
  change_closes w (GoesDown node leg end) x h = inl h
  change_closes w (OpensIn k cookie) x h = inl h
  change_closes w (OpensOut k cookie) x h = inl h
  change_closes w (OpensSame k cookie) x h = inl h
  change_closes w (Gives side.Client pdu) x h = inl h
  change_closes w (Gives side.Server pdu) x h = inl h
  change_closes w (Takes side.Client) x h = inl h
  change_closes w (Takes side.Server) x h = inl h
  change_closes w (Closes side.Client) x h = inl h
  change_closes w (Closes side.Server) x h = inl h
  change_closes w RecyclesIn x h = inl h
  change_closes w RecyclesOut x h = inl h
  change_closes w (MovesTo now) x h = inl h
  change_closes w (Draws cookies) x h = inl h
  change_closes w Reports x h = absurd h

  -- ---- changes

  pub changes_close : (w : World K C S I O) (changes : List Change) (x : Closing)
      → IsOneOf x (all_changed r m d w changes).closed
      → IsOneOf x w.closed ⊎ IsClosedBy r m d w changes x.who x.cause
  changes_close w [] x h = inl h
  changes_close w (change ∷ changes) x h =
      by (changes_close (changed r m d w change) changes x h)
    where
      first : Found w change x
          → IsOneOf x w.closed ⊎ IsClosedBy r m d w (change ∷ changes) x.who x.cause
      first (inl old) = inl old
      first (inr new) = inr (record {
        before = [];
        change = change;
        after = changes;
        split = refl;
        closes = new;
      })

      by : IsOneOf x (changed r m d w change).closed
          ⊎ IsClosedBy r m d (changed r m d w change) changes x.who x.cause
          → IsOneOf x w.closed ⊎ IsClosedBy r m d w (change ∷ changes) x.who x.cause
      by (inl old) = first (change_closes w change x old)
      by (inr later) = inr (record {
        before = change ∷ later.before;
        change = later.change;
        after = later.after;
        split = ap (λ cs. change ∷ cs) later.split;
        closes = later.closes;
      })

  -- ---- a line

  pub line_closes : (one : Line) (w : World K C S I O) (node : Who) (why : Cause)
      → w.closed ≡ [] → IsOneOf (NodeClosed node why) (step r m d one w).1
      → LineCloses r m d one w node why
  line_closes one w node why none h =
      let goes = goes_step_line r m d one w in
      let x : Closing = record { who = node; cause = why } in
      let closed = ⊎_elim (λ other. absurd (none_of_others node why (step_line r m d one w).1
      goes.others other)) (λ line. one_of_lines node why (step_line r m d one w).0.closed line)
      (one_of_both (NodeClosed node why) (step_line r m d one w).1
      (lines (step_line r m d one w).0.closed) h) in
      record {
        works = goes.works;
        closed =
            ⊎_elim (λ old. absurd (subst (λ list. IsOneOf x list) none old)) (λ by. by)
            (changes_close w goes.works.leads.changes x
            (subst (λ (v : World K C S I O). IsOneOf x v.closed) (sym goes.works.leads.reached)
            closed));
      }
