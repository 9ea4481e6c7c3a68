-- an end of a leg is marked only where the node was told that the leg is lost
use Rattle.rh_shell.specs.declared.standing.Standing.{Standing}
use Rattle.law_order.proofs.Vocabulary.{◌≡◌, ℕ, List, [], ◌∷◌, false, true≢false, Some, refl, sym, ◌∙◌}
use Rattle.law_moves.proofs.Vocabulary.{neither, Leg, Rooms, NearEnd, is_marked, Acts, Rules, Shell, begun, end_at, Event, ComesUp, Hears, Ends, Breaks, Draws, Ticks, after_event, after_events, EndEvent, Happens, IsGiven, IsTaken, IsClosed, IsRecycled, after_end_event, after_end_events}
use Rattle.law_node_history.proofs.Vocabulary.{happened}
use Rattle.law_node_causes.proofs.OnceUp.{AllFollow, AllFollowAtEnd}
use Rattle.law_world_ways.specs.OnPaths.Lost.{is_loss_of, was_lost}
use Rattle.law_world_downwards.proofs.EndsStay.{AllKeep, AllKeepAtEnd, Keeps, KeepsAtEnd, found, run_has, run_has_at_end}

module _ {S : Type 0} (rules : Rules S) (leg : Leg) where
  abbrev IsUnmarked : Standing → List ℕ → Type 0
  IsUnmarked standing bytes = is_marked standing ≡ false

  one_keeps : (s : Shell S) (event : Event) → is_loss_of leg event ≡ false
      → Keeps rules leg IsUnmarked s event
  one_keeps s (ComesUp k cookie) kept = tt
  one_keeps s (Hears k piece) kept = tt
  one_keeps s (Ends k) kept = λ this. absurd (true≢false (sym this ∙ kept))
  one_keeps s (Breaks k) kept = λ this. absurd (true≢false (sym this ∙ kept))
  one_keeps s (Draws k room) kept = λ this going end at unmarked p. p
  one_keeps s (Ticks now) kept = tt

  all_keep : (s : Shell S) (events : List Event) → was_lost leg events ≡ false
      → AllKeep rules leg IsUnmarked s events
  all_keep s [] kept = tt
  all_keep s (event ∷ events) kept =
      let both = neither (is_loss_of leg event) (was_lost leg events) kept in
      (one_keeps s event both.0, all_keep (after_event rules s event) events both.1)

  pub unmarked : AllFollow rules → (first : S) (rooms : Rooms) (events : List Event)
      → was_lost leg events ≡ false → (end : NearEnd)
      → end_at (after_events rules (begun first rooms) events) leg ≡ Some end
      → is_marked end.standing ≡ false
  unmarked follow first rooms events kept =
      found rules leg IsUnmarked (after_events rules (begun first rooms) events)
      (run_has rules leg IsUnmarked refl follow first rooms events
      (all_keep (begun first rooms) events kept))

  -- ---- and at an end

  one_keeps_at_end : (s : Shell S) (event : EndEvent) (events : List EndEvent)
      → was_lost leg (happened (event ∷ events)) ≡ false
      → KeepsAtEnd rules leg IsUnmarked s event × (was_lost leg (happened events) ≡ false)
  one_keeps_at_end s (Happens event) events kept =
      let both = neither (is_loss_of leg event) (was_lost leg (happened events)) kept in
      (one_keeps s event both.0, both.1)
  one_keeps_at_end s (IsGiven pdu) events kept = (tt, kept)
  one_keeps_at_end s IsTaken events kept = (tt, kept)
  one_keeps_at_end s IsClosed events kept = (tt, kept)
  one_keeps_at_end s IsRecycled events kept = (tt, kept)

  module _ (acts : Acts S) where
    all_keep_at_end : (s : Shell S) (events : List EndEvent)
        → was_lost leg (happened events) ≡ false
        → AllKeepAtEnd rules leg IsUnmarked acts s events
    all_keep_at_end s [] kept = tt
    all_keep_at_end s (event ∷ events) kept =
        let both = one_keeps_at_end s event events kept in
        (both.0, all_keep_at_end (after_end_event rules acts s event) events both.1)

    pub unmarked_at_end : AllFollowAtEnd rules acts → (first : S) (rooms : Rooms)
        (events : List EndEvent) → was_lost leg (happened events) ≡ false → (end : NearEnd)
        → end_at (after_end_events rules acts (begun first rooms) events) leg ≡ Some end
        → is_marked end.standing ≡ false
    unmarked_at_end follow first rooms events kept =
        found rules leg IsUnmarked (after_end_events rules acts (begun first rooms) events)
        (run_has_at_end rules leg IsUnmarked refl acts follow first rooms events
        (all_keep_at_end (begun first rooms) events kept))
