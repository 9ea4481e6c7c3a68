-- acknowledgements that a proxy passes on, by the edges that they tell (MS-RPCH 3.2.1)
use Rattle.std.specs.Prelude.{◌≤◌, ℕ, max, List, [], ◌∷◌}
use Rattle.rh_shell.specs.Rules.{Message, Text, Pdu, Packet}
use Rattle.rh_shell.specs.Waiting.{Key}
use Rattle.rh_inproxy.specs.State.{InProxy}
use Rattle.law_moves.specs.Merging.{greatest, told}
use Rattle.law_moves.specs.Moves.{OnLeg, Passage}

-- the edge that a message tells of a channel to a destination
abbrev pub told_in : Key → Message → ℕ
told_in key (Text bytes) = 0
told_in key (Pdu pdu) = 0
told_in key (Packet named) = told key named

-- the greatest among messages on legs
abbrev pub greatest_in : Key → List OnLeg → ℕ
greatest_in key [] = 0
greatest_in key (one ∷ log) = max (told_in key one.1) (greatest_in key log)

-- of those that came the greatest edge was put, or waits
abbrev pub PassesOn : Key → Passage InProxy → Type 0
PassesOn key p =
    greatest_in key p.came ≤ max (greatest key p.role.waiting.due) (greatest_in key p.put)
