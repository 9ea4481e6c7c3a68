-- a node that a line closed is reported
use Rattle.rh_text.specs.declared.ends.Side.TheVariants as side
use Rattle.law_order.proofs.Vocabulary.{◌≡◌, ℕ, zero, suc, List, [], ◌∷◌, ◌++◌, true, Some, None, refl, sym, ap, ◌∙◌, subst, inl, inr, insert, list_all, Option, and_parts, false≢true, list_all-append}
use Rattle.rh_wires.specs.Legs as legs
use Rattle.rh_company.specs.Closings.{noted}
use Rattle.rh_company.specs.Company as company
use Rattle.law_moves.proofs.Vocabulary.{Cause}
use Rattle.law_node_history.proofs.Vocabulary.{NodeClosed, Who, Line, receiver, Closing, Event, Comes, place, lines, Rulebook, Deeds, Makers, step, step_line, World, at, Change, IsTold, IsFed, IsDrawn, GoesUp, RaisesAlone, GoesDown, OpensIn, OpensOut, OpensSame, Gives, Takes, Closes, RecyclesIn, RecyclesOut, MovesTo, Draws, Reports, changed, all_changed, is_work, Works, IsOneOf, ClosesNode, IsClosedBy}
use Rattle.law_node_history.proofs.Leading.{changed_append}

-- ---- lists

pub one_behind : {X : Type 0} (x : X) (xs ys : List X) → IsOneOf x ys → IsOneOf x (xs ++ ys)
one_behind x [] ys h = h
one_behind x (z ∷ xs) ys h = inr (one_behind x xs ys h)

inserted : {X : Type 0} (x : X) (list : List X) (i : ℕ) → IsOneOf x (insert list i x)
inserted x [] zero = inl refl
inserted x [] (suc i) = inl refl
inserted x (z ∷ list) zero = inl refl
inserted x (z ∷ list) (suc i) = inr (inserted x list i)

still_there : {X : Type 0} (x y : X) (list : List X) (i : ℕ) → IsOneOf x list
    → IsOneOf x (insert list i y)
still_there x y [] i h = absurd h
still_there x y (z ∷ list) zero h = inr h
still_there x y (z ∷ list) (suc i) (inl here) = inl here
still_there x y (z ∷ list) (suc i) (inr behind) = inr (still_there x y list i behind)

one_line : (x : Closing) (list : List Closing) → IsOneOf x list
    → IsOneOf (NodeClosed x.who x.cause) (lines list)
one_line x [] h = absurd h
one_line x (y ∷ list) (inl here) = inl (ap (λ (c : Closing). NodeClosed c.who c.cause) here)
one_line x (y ∷ list) (inr behind) = inr (one_line x list behind)

still_noted : (x : Closing) (list : List Closing) (node : Who) (o : Option Cause)
    → IsOneOf x list → IsOneOf x (noted list node o)
still_noted x list node None h = h
still_noted x list node (Some why) h =
    still_there x (record { who = node; cause = why }) list (place node list) h

now_noted : (list : List Closing) (node : Who) (why : Cause) (o : Option Cause) → o ≡ Some why
    → IsOneOf (record { who = node; cause = why }) (noted list node o)
now_noted list node why o e =
    subst (λ (p : Option Cause). IsOneOf (record { who = node; cause = why }) (noted list node p))
    (sym e) (inserted (record { who = node; cause = why }) list (place node list))

module _ {K C S I O : Type 0} (r : Rulebook C S I O) (m : Makers K I O) (d : Deeds C S) where
  -- ---- what is to be reported stays so until it is

  kept_on : (w : World K C S I O) (change : Change) (x : Closing) → is_work change ≡ true
      → IsOneOf x w.closed → IsOneOf x (changed r m d w change).closed
  kept_on w (IsTold node event) x work h =
      still_noted x w.closed node (company.tell r w.company node event).1 h
  kept_on w (IsFed leg dir count) x work h =
      let node = at w leg (receiver dir) in
      let event = Comes leg (legs.take_out leg dir count w.legs).1 in
      still_noted x w.closed node (company.tell r w.company node event).1 h
  kept_on w (IsDrawn leg dir count) x work h = h
  kept_on w (GoesUp node leg end cookie) x work h = h
  kept_on w (RaisesAlone node leg end cookie) x work h = h
  kept_on w (GoesDown node leg end) x work h = h
  kept_on w (OpensIn k cookie) x work h = h
  kept_on w (OpensOut k cookie) x work h = h
  kept_on w (OpensSame k cookie) x work h = h
  kept_on w (Gives side.Client pdu) x work h = h
  kept_on w (Gives side.Server pdu) x work h = h
  kept_on w (Takes side.Client) x work h = h
  kept_on w (Takes side.Server) x work h = h
  kept_on w (Closes side.Client) x work h = h
  kept_on w (Closes side.Server) x work h = h
  kept_on w RecyclesIn x work h = h
  kept_on w RecyclesOut x work h = h
  kept_on w (MovesTo now) x work h = h
  kept_on w (Draws cookies) x work h = h
  kept_on w Reports x work h = absurd (false≢true work)

  all_kept_on : (w : World K C S I O) (changes : List Change) (x : Closing)
      → list_all is_work changes ≡ true → IsOneOf x w.closed
      → IsOneOf x (all_changed r m d w changes).closed
  all_kept_on w [] x work h = h
  all_kept_on w (change ∷ changes) x work h =
      let parts = and_parts (is_work change) (list_all is_work changes) work in
      all_kept_on (changed r m d w change) changes x parts.1 (kept_on w change x parts.0 h)

  -- ---- what closes a node is to be reported

  some_of : {A : Type 0} → A → Option A → A
  some_of other (Some x) = x
  some_of other None = other

  pub told_is : (a b : Who × Event) → Some a ≡ Some b → a ≡ b
  unfolding some_of
  told_is a b e = ap (some_of a) e

  pub none_told : {A : Type 0} (x : A) → None ≡ Some x → ⊥
  none_told x e = absurd cc

  -- by what a node was told
  from_told : (w : World K C S I O) (other : Who) (event : Event) (node : Who) (why : Cause)
      (said : Event) → ◌≡◌ {A = Who × Event} (other, event) (node, said)
      → (company.tell r w.company node said).1 ≡ Some why
      → IsOneOf (record { who = node; cause = why })
      (noted w.closed other (company.tell r w.company other event).1)
  from_told w other event node why said is closes =
      subst (λ (p : Who × Event). IsOneOf (record { who = node; cause = why })
      (noted w.closed p.0 (company.tell r w.company p.0 p.1).1)) (sym is)
      (now_noted w.closed node why (company.tell r w.company node said).1 closes)

  closed_now : (w : World K C S I O) (change : Change) (node : Who) (why : Cause)
      → ClosesNode r w change node why
      → IsOneOf (record { who = node; cause = why }) (changed r m d w change).closed
  closed_now w (IsTold other event) node why c =
      from_told w other event node why c.event (told_is (other, event) (node, c.event) c.told)
      c.closes
  closed_now w (IsFed leg dir count) node why c =
      let other = at w leg (receiver dir) in
      let event = Comes leg (legs.take_out leg dir count w.legs).1 in
      from_told w other event node why c.event (told_is (other, event) (node, c.event) c.told)
      c.closes
  closed_now w change node why c = absurd (none_told (node, c.event) c.told)

  -- ---- a line

  pub closed_is_reported : (one : Line) (w : World K C S I O) (node : Who) (why : Cause)
      (works : Works r m d w (step_line r m d one w).0)
      → IsClosedBy r m d w works.leads.changes node why
      → IsOneOf (NodeClosed node why) (step r m d one w).1
  closed_is_reported one w node why works by =
      let x : Closing = record { who = node; cause = why } in
      let u = all_changed r m d w by.before in
      let v = changed r m d u by.change in
      let work : list_all is_work (by.before ++ by.change ∷ by.after) ≡ true =
      ap (list_all is_work) (sym by.split) ∙ works.work in
      let behind = and_parts (list_all is_work by.before)
      (list_all is_work (by.change ∷ by.after))
      (sym (list_all-append is_work by.before (by.change ∷ by.after)) ∙ work) in
      let rest = and_parts (is_work by.change) (list_all is_work by.after) behind.1 in
      let there = all_kept_on v by.after x rest.1 (closed_now u by.change node why by.closes) in
      let reached : all_changed r m d v by.after ≡ (step_line r m d one w).0 =
      sym (changed_append r m d w by.before (by.change ∷ by.after))
      ∙ ap (all_changed r m d w) (sym by.split) ∙ works.leads.reached in
      one_behind (NodeClosed node why) (step_line r m d one w).1
      (lines (step_line r m d one w).0.closed)
      (one_line x (step_line r m d one w).0.closed
      (subst (λ (z : World K C S I O). IsOneOf x z.closed) reached there))
