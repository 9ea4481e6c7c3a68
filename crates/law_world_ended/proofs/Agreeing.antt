-- events by which a node agrees with its rules in which legs are only marked
use Rattle.law_order.proofs.Vocabulary.{◌≡◌, List, [], ◌∷◌, ◌++◌, Bool, true, false, true≢false, sym, ◌∙◌}
use Rattle.law_moves.proofs.Vocabulary.{neither, Leg, Rules, Shell, Event, ComesUp, Hears, Ends, Breaks, Draws, Ticks, after_event, after_events}
use Rattle.law_node_history.proofs.Lemmas.{same_itself}
use Rattle.law_node_marks.specs.Losing.{AgreeOn, AllAgree, KeepsLeg}
use Rattle.law_world_ways.specs.OnPaths.Lost.{is_loss_of, was_lost}
use Rattle.law_node_kept.specs.Keeping.{KeptLeg}

module _ {S : Type 0} (rules : Rules S) (marks : S → Leg → Bool) where
  pub agree_append : (s : Shell S) (es fs : List Event) → AllAgree rules marks s es
      → AllAgree rules marks (after_events rules s es) fs → AllAgree rules marks s (es ++ fs)
  agree_append s [] fs a b = b
  agree_append s (event ∷ es) fs a b =
      (a.0, agree_append (after_event rules s event) es fs a.1 b)

  -- no leg is lost by an event
  one_agrees : (s : S) (event : Event) → ((leg : Leg) → is_loss_of leg event ≡ false)
      → AgreeOn rules marks s event
  one_agrees s (Ends leg) none = absurd (true≢false (sym (same_itself leg) ∙ none leg))
  one_agrees s (Breaks leg) none = absurd (true≢false (sym (same_itself leg) ∙ none leg))
  one_agrees s (ComesUp leg cookie) none = tt
  one_agrees s (Hears leg piece) none = tt
  one_agrees s (Draws leg room) none = tt
  one_agrees s (Ticks now) none = tt

  -- nor by any of these
  pub unlost_agree : (s : Shell S) (events : List Event)
      → ((leg : Leg) → was_lost leg events ≡ false) → AllAgree rules marks s events
  unlost_agree s [] none = tt
  unlost_agree s (event ∷ events) none = (
    one_agrees s.role event
        (λ leg. (neither (is_loss_of leg event) (was_lost leg events) (none leg)).0),
    unlost_agree (after_event rules s event) events
        (λ leg. (neither (is_loss_of leg event) (was_lost leg events) (none leg)).1),
  )

one_keeps : (leg : Leg) (event : Event) → is_loss_of leg event ≡ false → KeepsLeg leg event
one_keeps leg (Ends other) e = e
one_keeps leg (Breaks other) e = e
one_keeps leg (ComesUp other cookie) e = tt
one_keeps leg (Hears other piece) e = tt
one_keeps leg (Draws other room) e = tt
one_keeps leg (Ticks now) e = tt

-- a node that was not told of a leg kept it
pub all_kept : (leg : Leg) (events : List Event) → was_lost leg events ≡ false
    → KeptLeg leg events
all_kept leg [] e = tt
all_kept leg (event ∷ events) e =
    let both = neither (is_loss_of leg event) (was_lost leg events) e in
    (one_keeps leg event both.0, all_kept leg events both.1)
