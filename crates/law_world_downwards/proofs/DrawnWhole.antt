-- where each draw of a leg gives fewer bytes than it has room for, nothing is left to draw there
use Rattle.rh_shell.specs.declared.standing.Standing.{Standing}
use Rattle.law_order.proofs.Vocabulary.{◌≡◌, ◌<◌, ℕ, zero, suc, List, [], ◌∷◌, length, Bool, false, Some, arith, refl, ap, ◌∙◌, subst, if◌then◌else◌, Option}
use Rattle.law_moves.proofs.Vocabulary.{Leg, Course, Going, Rooms, NearEnd, is_marked, Drawn, draw, filled, left_by, next_byte, Acts, Rules, Shell, begun, drawn_at, drawn_by, end_at, put_back, EndEvent, Event, ComesUp, Hears, Ends, Breaks, Draws, Ticks, Happens, IsGiven, IsTaken, IsClosed, IsRecycled, after_end_event, after_end_events}
use Rattle.law_node_causes.proofs.OnceUp.{AllFollowAtEnd}
use Rattle.law_node_marks.specs.Losing.{DrewAll}
use Rattle.law_world_downwards.proofs.EndsStay.{AllKeepAtEnd, Keeps, KeepsAtEnd, found, run_has_at_end}
use Rattle.law_world_downwards.specs.Drawing.{AllDrawWhole, DrawsWhole, DrawsWholeAtEnd}

-- ---- one draw

fewer : (n k : ℕ) → suc k < suc n → k < n
fewer n k p = omega (arith, p)

module _ {S : Type 0} (rules : Rules S) (now : ℕ) where
  module _ (n : ℕ) (rest : (end : NearEnd) (role : S)
      → length (draw rules now n end role).bytes < n
      → (draw rules now n end role).end.begun ≡ []) where
    behind_bytes : (f : Drawn S) (bytes : List ℕ) → f.end.begun ≡ bytes
        → length (next_byte rules f bytes (draw rules now n)).bytes < suc n
        → (next_byte rules f bytes (draw rules now n)).end.begun ≡ []
    behind_bytes f [] is less = is
    behind_bytes f (b ∷ bytes) is less =
        let left = left_by rules f.end f.role bytes in
        rest left.end left.role
        (fewer n (length (draw rules now n left.end left.role).bytes) less)

  pub draw_whole : (room : ℕ) (end : NearEnd) (role : S)
      → length (draw rules now room end role).bytes < room
      → (draw rules now room end role).end.begun ≡ []
  unfolding draw
  draw_whole zero end role less = absurd (omega (arith, less))
  draw_whole (suc n) end role less =
      let f = filled rules now end role in
      behind_bytes n (draw_whole n) f f.end.begun refl less

-- ---- at a node

module _ {S : Type 0} (rules : Rules S) (leg : Leg) where
  abbrev IsEmpty : Standing → List ℕ → Type 0
  IsEmpty standing bytes = bytes ≡ []

  module _ (s : Shell S) (k : Leg) (room : ℕ) (going : s.course ≡ Going) (end : NearEnd)
      (at : end_at s k ≡ Some end) (unmarked : is_marked end.standing ≡ false) where
    bytes_are : (drawn_by rules s k room s.course).1 ≡ (draw rules s.now room end s.role).bytes
    bytes_are =
        ap (λ (c : Course). (drawn_by rules s k room c).1) going
        ∙ ap (λ (o : Option NearEnd). (drawn_at rules s k room o).1) at
        ∙ ap (λ (t : Bool). let did : Shell S × List ℕ = if t then (s, [])
        else put_back s k (draw rules s.now room end s.role) in did.1) unmarked

  one_keeps : (s : Shell S) (event : Event) → DrawsWhole rules leg s event
      → Keeps rules leg IsEmpty s event
  one_keeps s (ComesUp k cookie) whole = tt
  one_keeps s (Hears k piece) whole = tt
  one_keeps s (Ends k) whole = λ this standing bytes p. p
  one_keeps s (Breaks k) whole = λ this standing bytes p. p
  one_keeps s (Draws k room) whole = λ this going end at unmarked p.
      draw_whole rules s.now room end s.role
      (subst (λ (bytes : List ℕ). length bytes < room)
      (bytes_are s k room going end at unmarked) (whole this))
  one_keeps s (Ticks now) whole = tt

  module _ (acts : Acts S) where
    one_keeps_at_end : (s : Shell S) (event : EndEvent) → DrawsWholeAtEnd rules leg s event
        → KeepsAtEnd rules leg IsEmpty s event
    one_keeps_at_end s (Happens event) whole = one_keeps s event whole
    one_keeps_at_end s (IsGiven pdu) whole = tt
    one_keeps_at_end s IsTaken whole = tt
    one_keeps_at_end s IsClosed whole = tt
    one_keeps_at_end s IsRecycled whole = tt

    all_keep : (s : Shell S) (events : List EndEvent) → AllDrawWhole rules acts leg s events
        → AllKeepAtEnd rules leg IsEmpty acts s events
    all_keep s [] whole = tt
    all_keep s (event ∷ events) whole = (
      one_keeps_at_end s event whole.0,
      all_keep (after_end_event rules acts s event) events whole.1,
    )

    pub all_drawn : AllFollowAtEnd rules acts → (first : S) (rooms : Rooms)
        (events : List EndEvent) → AllDrawWhole rules acts leg (begun first rooms) events
        → DrewAll (after_end_events rules acts (begun first rooms) events) leg
    all_drawn follow first rooms events whole =
        found rules leg IsEmpty (after_end_events rules acts (begun first rooms) events)
        (run_has_at_end rules leg IsEmpty refl acts follow first rooms events
        (all_keep (begun first rooms) events whole))
