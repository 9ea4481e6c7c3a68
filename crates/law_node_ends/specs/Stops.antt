-- an end that was told to close gives no more; one that closed neither gives nor takes; and what a
-- take tells that ends (profile)
use Rattle.std.specs.Prelude.{◌≡◌, List, [], Bool, true, None}
use Rattle.rh_line.specs.Lines.{is_ended}
use Rattle.rh_line.specs.declared.cause.Cause.{Cause}
use Rattle.rh_shell.specs.Ends.{cause_of}
use Rattle.rh_shell.specs.Rules.{Rules, Acts}
use Rattle.rh_shell.specs.Shells.{Shell}
use Rattle.law_moves.specs.Laws.{ClosedWith}
use Rattle.law_moves.specs.Moves.{EndMove, EndPassage, all_end_moved}
use Rattle.law_moves.specs.Moving.{AreHeld, EndEvent, after_end_events}
use Rattle.law_node_streams.specs.Streams.{all_given, all_taken}

-- ---- an end that was told to close

-- it is closing behind, and accepted nothing on the way
pub record GaveNoMore {S : Type 0} (is_closing : S → Bool) (p q : EndPassage S) : Type 0 where
  pub closes : is_closing q.passage.role ≡ true
  pub given : q.given ≡ p.given

-- so it is over every list of moves
abbrev pub MovesGiveNoMore : {S : Type 0} → Rules S → Acts S → (S → Bool) → Type 0
MovesGiveNoMore {S} rules acts is_closing =
    (p : EndPassage S) (moves : List EndMove) → is_closing p.passage.role ≡ true
    → GaveNoMore is_closing p (all_end_moved rules acts p moves)

-- it is closing behind what happens, and accepts nothing of what is given
pub record GivesNoMore {S : Type 0} (rules : Rules S) (acts : Acts S) (is_closing : S → Bool)
    (s : Shell S) (events : List EndEvent) : Type 0 where
  pub closes : is_closing (after_end_events rules acts s events).role ≡ true
  pub given : all_given rules acts s events ≡ []

-- so it is over every list of events at its node
abbrev pub EventsGiveNoMore : {S : Type 0} → Rules S → Acts S → (S → Bool) → Type 0
EventsGiveNoMore {S} rules acts is_closing =
    (s : Shell S) (events : List EndEvent) → is_closing s.role ≡ true → AreHeld s
    → GivesNoMore rules acts is_closing s events

-- ---- an end that closed

-- it neither accepts nor hands out a PDU, whatever happens
pub record NeitherGivesNorTakes {S : Type 0} (rules : Rules S) (acts : Acts S) (s : Shell S)
    (events : List EndEvent) : Type 0 where
  pub given : all_given rules acts s events ≡ []
  pub taken : all_taken rules acts s events ≡ []

-- so it is over every list of events, whatever closed it
abbrev pub ClosedEndsAreSilent : {S : Type 0} → Rules S → Acts S → Type 0
ClosedEndsAreSilent {S} rules acts =
    (s : Shell S) (why : Cause) (events : List EndEvent) → ClosedWith why s.course
    → NeitherGivesNorTakes rules acts s events

-- ---- what a take tells

-- the node did not close, END came, and no PDU is left
pub record HasNothingLeft {S : Type 0} (acts : Acts S) (s : Shell S) : Type 0 where
  pub going : cause_of s.course ≡ None
  pub ended : is_ended (acts.line s.role) ≡ true
  pub empty : (acts.line s.role).current.pdus ≡ []
