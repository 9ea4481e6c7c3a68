-- what is told behind a moment from which on an end gives or takes nothing
use Rattle.law_order.proofs.Vocabulary.{◌≡◌, ◌++◌, ℕ, List, [], ◌∷◌, refl, sym, ap, ◌∙◌, append_assoc, append-nil, append_cancel_left}
use Rattle.rh_record.specs.Events.Events.{Event, Closes}
use Rattle.law_moves.proofs.Vocabulary.{Side}
use Rattle.law_node_history.proofs.Vocabulary.{Line, events, offered, given, taken, Rulebook, Deeds, Makers, told, World}
use Rattle.law_world_reports.proofs.Telling.Adding.{Given, Taken}
use Rattle.law_world_reports.proofs.Telling.Parts.{said_more, part}
use Rattle.law_world_reports.proofs.Telling.Shut.{stays_passed}
use Rattle.law_world_reports.proofs.Telling.Splits.{runs_until, told_moment}
use Rattle.law_world_reports.proofs.Vocabulary.{Moment, end_given, end_taken, until, in_the_end}

pub taken_append : (end : Side) (xs ys : List Event)
    → taken end (xs ++ ys) ≡ taken end xs ++ taken end ys
taken_append end [] ys = refl
taken_append end (x ∷ xs) ys =
    said_more Taken end [] x (xs ++ ys)
    ∙ ap (λ behind. part Taken end [] x ++ behind) (taken_append end xs ys)
    ∙ sym (append_assoc (part Taken end [] x) (taken end xs) (taken end ys))
    ∙ ap (λ front. front ++ taken end ys) (sym (said_more Taken end [] x xs))

module _ {K C S I O : Type 0} (r : Rulebook C S I O) (m : Makers K I O) (d : Deeds C S) where
  pub none_taken : (w : World K C S I O) (pdus : List (List ℕ)) (front behind : List Event)
      (moment : Moment r m d w pdus front behind) (end : Side)
      → end_taken r d w.company (in_the_end moment) end
      ≡ end_taken r d w.company (until moment) end
      → taken end behind ≡ []
  none_taken w pdus front behind moment end still =
      append_cancel_left (taken end front) (taken end behind) []
      (sym (taken_append end front behind) ∙ moment.whole.takes end ∙ still
      ∙ sym (moment.here.takes end) ∙ sym (append-nil (taken end front)))

  pub none_given : (w : World K C S I O) (pdus : List (List ℕ)) (front behind : List Event)
      (moment : Moment r m d w pdus front behind) (end : Side)
      → end_given r d w.company (in_the_end moment) end
      ≡ end_given r d w.company (until moment) end
      → given end pdus (front ++ behind) ≡ given end pdus front
  none_given w pdus front behind moment end still =
      moment.whole.gives end ∙ still ∙ sym (moment.here.gives end)

  -- ---- of an end that closed

  module _ (lines : List Line) (w : World K C S I O) (none : w.closed ≡ []) (end : Side)
      (front behind : List Event)
      (e : events (told r m d w lines) ≡ front ++ Closes end ∷ behind) where
    abbrev at : Moment r m d w (offered lines) front (Closes end ∷ behind)
    at = told_moment r m d lines w none front (Closes end ∷ behind) e

    pub closed_takes : taken end behind ≡ []
    closed_takes =
        none_taken w (offered lines) front (Closes end ∷ behind) at end
        (stays_passed r m d at.next.0 Taken w.company at.v at.u (until at) at.after.leads end
        refl (runs_until r m d w at.v at.before) at.next.1)

    pub closed_gives : given end (offered lines) (events (told r m d w lines))
        ≡ given end (offered lines) front
    closed_gives =
        ap (given end (offered lines)) e
        ∙ none_given w (offered lines) front (Closes end ∷ behind) at end
        (stays_passed r m d at.next.0 Given w.company at.v at.u (until at) at.after.leads end
        refl (runs_until r m d w at.v at.before) at.next.1)
