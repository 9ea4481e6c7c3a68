-- an end that was told to close gives no more, whatever happens then
use Rattle.law_order.proofs.Vocabulary.{◌≡◌, ◌++◌, List, [], ◌∷◌, Bool, true, refl, sym, ap, ◌∙◌, subst, append_assoc, append-nil}
use Rattle.law_moves.proofs.Vocabulary.{Course, Going, Closed, Refusing, cause_of, close_where, with_role, Rules, Acts, Shell, ClosedWith, AreHeld, EndEvent, IsClosed, after_end_event, after_end_events}
use Rattle.law_node_streams.specs.Streams.{all_given, given_by}
use Rattle.law_node_ends.specs.Stops.{ClosedEndsAreSilent, EventsGiveNoMore}
use Rattle.law_world_reports.proofs.Vocabulary.{GivesUntilClosing}

-- ---- what is given in events behind events

module _ {S : Type 0} (rules : Rules S) (acts : Acts S) where
  given_append : (s : Shell S) (xs ys : List EndEvent)
      → all_given rules acts s (xs ++ ys)
      ≡ all_given rules acts s xs ++ all_given rules acts (after_end_events rules acts s xs) ys
  given_append s [] ys = refl
  given_append s (x ∷ xs) ys =
      let t = after_end_event rules acts s x in
      let u = after_end_events rules acts t xs in
      ap (λ more. given_by acts s x ++ more) (given_append t xs ys)
      ∙ sym (append_assoc (given_by acts s x) (all_given rules acts t xs)
      (all_given rules acts u ys))

  none_behind : (s : Shell S) (before later : List EndEvent)
      → all_given rules acts (after_end_events rules acts s before) later ≡ []
      → all_given rules acts s (before ++ later) ≡ all_given rules acts s before
  none_behind s before later none =
      given_append s before later
      ∙ ap (λ more. all_given rules acts s before ++ more) none
      ∙ append-nil (all_given rules acts s before)

-- ---- an end that is told to close

module _ {S : Type 0} (rules : Rules S) (acts : Acts S) (is_closing : S → Bool)
    (closes : (s : S) → is_closing (acts.close s) ≡ true)
    (stays : EventsGiveNoMore rules acts is_closing) (silent : ClosedEndsAreSilent rules acts)
  where
    by_course : (s : Shell S) (later : List EndEvent) → AreHeld s → (course : Course)
        → s.course ≡ course
        → all_given rules acts (close_where acts s (cause_of course)) later ≡ []
    by_course s later held Going e =
        (stays (with_role s (acts.close s.role)) later (closes s.role) held).given
    by_course s later held (Closed why) e =
        (silent s why later (subst (ClosedWith why) (sym e) refl)).given
    by_course s later held (Refusing why leg rest) e =
        (silent s why later (subst (ClosedWith why) (sym e) refl)).given

    pub gives_until_closing : (first : Shell S)
        → ((events : List EndEvent) → AreHeld (after_end_events rules acts first events))
        → GivesUntilClosing rules acts is_closing first
    gives_until_closing first held = record {
      told = λ before later closing.
          let s = after_end_events rules acts first before in
          none_behind rules acts first before later (stays s later closing (held before)).given;
      close = λ before later.
          let s = after_end_events rules acts first before in
          ap (all_given rules acts first) (append_assoc before (IsClosed ∷ []) later)
          ∙ none_behind rules acts first before (IsClosed ∷ later)
          (by_course s later (held before) s.course refl);
    }
