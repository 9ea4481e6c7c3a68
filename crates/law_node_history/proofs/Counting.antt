-- a node is reported as closed once
use Rattle.rh_text.specs.declared.ends.Side.TheVariants as side
use Rattle.law_order.proofs.Vocabulary.{◌≡◌, ℕ, zero, suc, ◌+◌, ◌≤◌, List, [], ◌∷◌, ◌++◌, true, false, if◌then◌else◌, Some, None, refl, sym, ap, ◌∙◌, subst, ◌⊎◌, inl, inr, ⊎_elim, arith, insert, list_all, Option, and_parts, false≢true, cases_Bool}
use Rattle.rh_record.specs.declared.answer.Answer.TheVariants as answer
use Rattle.rh_wires.specs.Legs as legs
use Rattle.rh_company.specs.Closings.{noted}
use Rattle.rh_company.specs.Company as company
use Rattle.law_moves.proofs.Vocabulary.{Cause}
use Rattle.law_node_history.proofs.Vocabulary.{Answer, Who, Line, receiver, Closing, Event, Comes, place, lines, Rulebook, Deeds, is_same, Makers, step, step_line, told, World, at, Change, IsTold, IsFed, IsDrawn, GoesUp, RaisesAlone, GoesDown, OpensIn, OpensOut, OpensSame, Gives, Takes, Closes, RecyclesIn, RecyclesOut, MovesTo, Draws, Reports, MayChange, changed, HasClosed, closing_of, closings_of}
use Rattle.law_node_history.proofs.Answering.{is_other}
use Rattle.law_node_history.proofs.Closed.{tell_closes, tell_silent, closed_stays}
use Rattle.law_node_history.proofs.Leading.{leads_keep}
use Rattle.law_node_history.proofs.Lines.{goes_step_line, same_who}

-- how often a node stands in a list of closed nodes
abbrev times : Who → List Closing → ℕ
times node [] = 0
times node (x ∷ list) = (if is_same x.who node then 1 else 0) + times node list

times_insert : (node : Who) (list : List Closing) (i : ℕ) (x : Closing)
    → times node (insert list i x) ≡ (if is_same x.who node then 1 else 0) + times node list
times_insert node [] zero x = refl
times_insert node [] (suc i) x = refl
times_insert node (y ∷ list) zero x = refl
times_insert node (y ∷ list) (suc i) x =
    let h = times_insert node list i x in
    ap (λ n. (if is_same y.who node then 1 else 0) + n) h
    ∙ swap (if is_same y.who node then 1 else 0) (if is_same x.who node then 1 else 0)
    (times node list)
  where
    swap : (a b c : ℕ) → a + (b + c) ≡ b + (a + c)
    swap a b c = omega arith

pub some_none : {A : Type 0} (x : A) → Some x ≡ None → ⊥
some_none x e = absurd cc

-- ---- reports

others_none : (node : Who) (one : Answer) → is_other one ≡ true → closing_of node one ≡ 0
others_none node (answer.NodeClosed closed why) e = absurd (false≢true e)
others_none node one e = refl

all_others_none : (node : Who) (list : List Answer) → list_all is_other list ≡ true
    → closings_of node list ≡ 0
all_others_none node [] e = refl
all_others_none node (one ∷ list) e =
    let parts = and_parts (is_other one) (list_all is_other list) e in
    let a = others_none node one parts.0 in
    let b = all_others_none node list parts.1 in
    omega (arith, a, b)

closings_append : (node : Who) (xs ys : List Answer)
    → closings_of node (xs ++ ys) ≡ closings_of node xs + closings_of node ys
closings_append node [] ys = omega arith
closings_append node (x ∷ xs) ys =
    let h = closings_append node xs ys in omega (arith, h)

closings_lines : (node : Who) (list : List Closing)
    → closings_of node (lines list) ≡ times node list
closings_lines node [] = refl
closings_lines node (x ∷ list) =
    ap (λ n. (if is_same x.who node then 1 else 0) + n) (closings_lines node list)

module _ {K C S I O : Type 0} (r : Rulebook C S I O) (m : Makers K I O) (d : Deeds C S)
    (node : Who) where
  abbrev IsClosed : World K C S I O → Type 0
  IsClosed w = (why : Cause) × HasClosed w.company node why

  -- it closed, and stands so often at most among those to be told
  abbrev Stands : ℕ → World K C S I O → Type 0
  Stands n w = (times node w.closed ≤ n) × IsClosed w

  -- it does not stand there, or it closed and stands there once at most
  abbrev IsCounted : World K C S I O → Type 0
  IsCounted w = (times node w.closed ≡ 0) ⊎ Stands 1 w

  -- ---- a node is told something

  module _ (w v : World K C S I O) (other : Who) (event : Event)
      (company_is : v.company ≡ (company.tell r w.company other event).0)
      (closed_is : v.closed
      ≡ noted w.closed other (company.tell r w.company other event).1) where
    abbrev answer_is : Option Cause
    answer_is = (company.tell r w.company other event).1

    times_none : answer_is ≡ None → times node v.closed ≡ times node w.closed
    times_none e =
        ap (times node) (closed_is ∙ ap (noted w.closed other) e)

    times_some : (why : Cause) → answer_is ≡ Some why
        → times node v.closed ≡ (if is_same other node then 1 else 0) + times node w.closed
    times_some why e =
        ap (times node) (closed_is ∙ ap (noted w.closed other) e)
        ∙ times_insert node w.closed (place other w.closed)
        (record { who = other; cause = why })

    -- one that closed is not told of again
    stands_told : (n : ℕ) → Stands n w → IsClosed v → Stands n v
    stands_told n k closed = (by answer_is refl, closed)
      where
        by : (o : Option Cause) → answer_is ≡ o → times node v.closed ≤ n
        by None e = let is = times_none e in omega (arith, is, k.0)
        by (Some why) e =
            let is = times_some why e in
            let not : is_same other node ≡ false =
            ⊎_elim (λ same. absurd (some_none why (sym e
            ∙ ap (λ x. (company.tell r w.company x event).1) (same_who other node same)
            ∙ tell_silent r k.1.0 w.company node event k.1.1))) (λ f. f)
            (cases_Bool (is_same other node)) in
            let none = ap {B = ℕ} (λ b. if b then 1 else 0) not in
            omega (arith, is, none, k.0)

    counted_told : IsCounted w → (IsClosed w → IsClosed v) → IsCounted v
    counted_told (inr k) stays = inr (stands_told 1 k (stays k.1))
    counted_told (inl zero_times) stays = by answer_is refl
      where
        by : (o : Option Cause) → answer_is ≡ o → IsCounted v
        by None e = inl (times_none e ∙ zero_times)
        by (Some why) e =
            let is = times_some why e in
            ⊎_elim (λ same.
            let one = ap {B = ℕ} (λ b. if b then 1 else 0) same in
            let closed = tell_closes r why w.company other event e in
            inr (
              omega (arith, is, one, zero_times),
              (
                why,
                subst (λ x. HasClosed v.company x why) (same_who other node same)
                    (subst (λ x. HasClosed x other why) (sym company_is) closed),
              ),
            ))
            (λ apart. let none = ap {B = ℕ} (λ b. if b then 1 else 0) apart in
            inl (omega (arith, is, none, zero_times))) (cases_Bool (is_same other node))

  -- ---- any change

  closed_on : (w : World K C S I O) (change : Change) → MayChange r w change → IsClosed w
      → IsClosed (changed r m d w change)
  closed_on w change may closed =
      (closed.0, closed_stays r m d closed.0 node w change closed.1 may)

  stands_on : (n : ℕ) (w : World K C S I O) (change : Change) → Stands n w
      → MayChange r w change → Stands n (changed r m d w change)
  stands_on n w (IsTold other event) k may =
      stands_told w (changed r m d w (IsTold other event)) other event refl refl n k
      (closed_on w (IsTold other event) may k.1)
  stands_on n w (IsFed leg dir count) k may =
      stands_told w (changed r m d w (IsFed leg dir count)) (at w leg (receiver dir))
      (Comes leg (legs.take_out leg dir count w.legs).1) refl refl n k
      (closed_on w (IsFed leg dir count) may k.1)
  stands_on n w (IsDrawn leg dir count) k may =
      (k.0, closed_on w (IsDrawn leg dir count) may k.1)
  stands_on n w (GoesUp other leg end cookie) k may =
      (k.0, closed_on w (GoesUp other leg end cookie) may k.1)
  stands_on n w (RaisesAlone other leg end cookie) k may =
      (k.0, closed_on w (RaisesAlone other leg end cookie) may k.1)
  stands_on n w (GoesDown other leg end) k may =
      (k.0, closed_on w (GoesDown other leg end) may k.1)
  stands_on n w (OpensIn i cookie) k may = (k.0, closed_on w (OpensIn i cookie) may k.1)
  stands_on n w (OpensOut i cookie) k may = (k.0, closed_on w (OpensOut i cookie) may k.1)
  stands_on n w (OpensSame i cookie) k may = (k.0, closed_on w (OpensSame i cookie) may k.1)
  stands_on n w (Gives side.Client pdu) k may =
      (k.0, closed_on w (Gives side.Client pdu) may k.1)
  stands_on n w (Gives side.Server pdu) k may =
      (k.0, closed_on w (Gives side.Server pdu) may k.1)
  stands_on n w (Takes side.Client) k may = (k.0, closed_on w (Takes side.Client) may k.1)
  stands_on n w (Takes side.Server) k may = (k.0, closed_on w (Takes side.Server) may k.1)
  stands_on n w (Closes side.Client) k may = (k.0, closed_on w (Closes side.Client) may k.1)
  stands_on n w (Closes side.Server) k may = (k.0, closed_on w (Closes side.Server) may k.1)
  stands_on n w RecyclesIn k may = (k.0, closed_on w RecyclesIn may k.1)
  stands_on n w RecyclesOut k may = (k.0, closed_on w RecyclesOut may k.1)
  stands_on n w (MovesTo now) k may = (k.0, closed_on w (MovesTo now) may k.1)
  stands_on n w (Draws cookies) k may = (k.0, closed_on w (Draws cookies) may k.1)
  stands_on n w Reports k may = (omega arith, closed_on w Reports may k.1)

  -- where nothing closes
  counted_as : (w : World K C S I O) (change : Change) → IsCounted w → MayChange r w change
      → times node (changed r m d w change).closed ≡ times node w.closed
      → IsCounted (changed r m d w change)
  counted_as w change (inl none) may same = inl (same ∙ none)
  counted_as w change (inr k) may same = inr (stands_on 1 w change k may)

  counted_on : (w : World K C S I O) (change : Change) → IsCounted w → MayChange r w change
      → IsCounted (changed r m d w change)
  counted_on w (IsTold other event) k may =
      counted_told w (changed r m d w (IsTold other event)) other event refl refl k
      (closed_on w (IsTold other event) may)
  counted_on w (IsFed leg dir count) k may =
      counted_told w (changed r m d w (IsFed leg dir count)) (at w leg (receiver dir))
      (Comes leg (legs.take_out leg dir count w.legs).1) refl refl k
      (closed_on w (IsFed leg dir count) may)
  counted_on w (IsDrawn leg dir count) k may =
      counted_as w (IsDrawn leg dir count) k may refl
  counted_on w (GoesUp other leg end cookie) k may =
      counted_as w (GoesUp other leg end cookie) k may refl
  counted_on w (RaisesAlone other leg end cookie) k may =
      counted_as w (RaisesAlone other leg end cookie) k may refl
  counted_on w (GoesDown other leg end) k may =
      counted_as w (GoesDown other leg end) k may refl
  counted_on w (OpensIn i cookie) k may = counted_as w (OpensIn i cookie) k may refl
  counted_on w (OpensOut i cookie) k may = counted_as w (OpensOut i cookie) k may refl
  counted_on w (OpensSame i cookie) k may = counted_as w (OpensSame i cookie) k may refl
  counted_on w (Gives side.Client pdu) k may = counted_as w (Gives side.Client pdu) k may refl
  counted_on w (Gives side.Server pdu) k may = counted_as w (Gives side.Server pdu) k may refl
  counted_on w (Takes side.Client) k may = counted_as w (Takes side.Client) k may refl
  counted_on w (Takes side.Server) k may = counted_as w (Takes side.Server) k may refl
  counted_on w (Closes side.Client) k may = counted_as w (Closes side.Client) k may refl
  counted_on w (Closes side.Server) k may = counted_as w (Closes side.Server) k may refl
  counted_on w RecyclesIn k may = counted_as w RecyclesIn k may refl
  counted_on w RecyclesOut k may = counted_as w RecyclesOut k may refl
  counted_on w (MovesTo now) k may = counted_as w (MovesTo now) k may refl
  counted_on w (Draws cookies) k may = counted_as w (Draws cookies) k may refl
  counted_on w Reports k may = inl refl

  -- ---- lines

  none_stand : (w : World K C S I O) → w.closed ≡ [] → times node w.closed ≡ 0
  none_stand w none = ap (times node) none

  -- what a line reports of the node is what stands behind it
  line_times : (one : Line) (w : World K C S I O)
      → closings_of node (step r m d one w).1
      ≡ times node (step_line r m d one w).0.closed
  line_times one w =
      let did = step_line r m d one w in
      let a = closings_append node did.1 (lines did.0.closed) in
      let b = all_others_none node did.1 (goes_step_line r m d one w).others in
      let c = closings_lines node did.0.closed in
      omega (arith, a, b, c)

  -- one that closed before is not reported
  line_stands : (one : Line) (w : World K C S I O) → w.closed ≡ [] → IsClosed w
      → Stands 0 (step_line r m d one w).0
  line_stands one w none closed =
      let start = none_stand w none in
      leads_keep r m d (Stands 0) (stands_on 0) w (step_line r m d one w).0
      (goes_step_line r m d one w).works.leads (omega (arith, start), closed)

  line_counted : (one : Line) (w : World K C S I O) → w.closed ≡ []
      → IsCounted (step_line r m d one w).0
  line_counted one w none =
      leads_keep r m d IsCounted counted_on w (step_line r m d one w).0
      (goes_step_line r m d one w).works.leads (inl (none_stand w none))

  -- ---- recordings

  told_none : (list : List Line) (w : World K C S I O) → w.closed ≡ [] → IsClosed w
      → closings_of node (told r m d w list) ≡ 0
  told_none [] w none closed = refl
  told_none (one ∷ list) w none closed =
      let k = line_stands one w none closed in
      let rest = told_none list (step r m d one w).0 refl k.1 in
      let here = line_times one w in
      let all = closings_append node (step r m d one w).1
      (told r m d (step r m d one w).0 list) in
      omega (arith, k.0, rest, here, all)

  once_by : (one : Line) (list : List Line) (w : World K C S I O)
      → closings_of node (told r m d (step r m d one w).0 list) ≤ 1
      → IsCounted (step_line r m d one w).0
      → closings_of node (told r m d w (one ∷ list)) ≤ 1
  once_by one list w rest (inl zero_times) =
      let here = line_times one w in
      let all = closings_append node (step r m d one w).1
      (told r m d (step r m d one w).0 list) in
      omega (arith, zero_times, rest, here, all)
  once_by one list w rest (inr k) =
      let none = told_none list (step r m d one w).0 refl k.1 in
      let here = line_times one w in
      let all = closings_append node (step r m d one w).1
      (told r m d (step r m d one w).0 list) in
      omega (arith, k.0, none, here, all)

  pub told_once : (list : List Line) (w : World K C S I O) → w.closed ≡ []
      → closings_of node (told r m d w list) ≤ 1
  told_once [] w none = omega arith
  told_once (one ∷ list) w none =
      once_by one list w (told_once list (step r m d one w).0 refl) (line_counted one w none)
