-- draws that leave nothing of what was put on a leg (profile)
use Rattle.std.specs.Prelude.{◌≡◌, ◌<◌, List, [], ◌∷◌, length, true}
use Rattle.rh_line.specs.declared.leg.Leg.{Leg}
use Rattle.rh_shell.specs.Rules.{Acts, Rules}
use Rattle.rh_shell.specs.Shells.{Shell, drawn, same_leg}
use Rattle.law_moves.specs.Moving.{Draws, EndEvent, Event, Happens, after_end_event}

-- a draw of the leg gives fewer bytes than it has room for
abbrev pub DrawsWhole : {S : Type 0} → Rules S → Leg → Shell S → Event → Type 0
DrawsWhole rules leg node (Draws other room) =
    same_leg other leg ≡ true → length (drawn rules node other room).1 < room
DrawsWhole rules leg node event = Unit {0}

abbrev pub DrawsWholeAtEnd : {S : Type 0} → Rules S → Leg → Shell S → EndEvent → Type 0
DrawsWholeAtEnd rules leg node (Happens event) = DrawsWhole rules leg node event
DrawsWholeAtEnd rules leg node act = Unit {0}

-- so does each of these
abbrev pub AllDrawWhole : {S : Type 0} → Rules S → Acts S → Leg → Shell S → List EndEvent → Type 0
AllDrawWhole rules acts leg node [] = Unit {0}
AllDrawWhole rules acts leg node (event ∷ events) =
    DrawsWholeAtEnd rules leg node event
    × AllDrawWhole rules acts leg (after_end_event rules acts node event) events
