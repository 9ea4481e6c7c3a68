-- What the calls of a turn do to a seat.
use Rattle.std.specs.Prelude.{◌≡◌, ◌+◌, List, [], ◌∷◌, ◌++◌, length, Some, slice_get}
use mathlib.Core.List.{IsPrefix}
use Rattle.rh_turn.specs.History.{replies, longer}
use Rattle.rh_turn.specs.Values.{SeatValue}

-- An event is acted. It stands at the end of a history that begins with all that the seat had seen;
-- the answer is the machine's reply at that place, and the place is one more of the seat's own.
pub record Acts {S E R : Type 0} (next : S → E → S) (reply : S → E → R) (first : S) (event : E)
    (answer : R) (old now : SeatValue E) : Type 0 where
  pub before : List E
  pub goes_on : IsPrefix old.seen before
  pub seat : now ≡ record old {
    seen = before ++ event ∷ [];
    mine = old.mine ++ length before ∷ [];
  }
  pub answers : slice_get (replies next reply first (before ++ event ∷ [])) (length before)
      ≡ Some answer

-- Two seats are made one. It has seen what that one has that saw more, which begins with what the
-- other one has seen; and it has the places and the parts of both.
pub record Joins {E : Type 0} (into from now : SeatValue E) : Type 0 where
  pub seat : now ≡ record into {
    seen = longer into.seen from.seen;
    mine = into.mine ++ from.mine;
    parts = into.parts + from.parts;
  }
  pub into_begins : IsPrefix into.seen now.seen
  pub from_begins : IsPrefix from.seen now.seen
