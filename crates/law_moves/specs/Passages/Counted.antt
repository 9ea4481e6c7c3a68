-- moves that are counted as a node counts them: with each packet how many came on its leg before,
-- up to two (profile)
use Rattle.std.specs.Prelude.{◌≡◌, ◌≤◌, ℕ, List, [], ◌∷◌, Bool, true}
use Rattle.rh_sig.specs.declared.named.Named.{Named}
use Rattle.rh_shell.specs.declared.answers.Count.{Count}
use Rattle.rh_shell.specs.declared.answers.Count.TheVariants as count
use Rattle.rh_shell.specs.Rules.{Acts, Message, Rules}
use Rattle.law_moves.specs.Moves.{Move, PacketCame, Passage, moved, EndMove, Moves, EndPassage, end_moved}
use Rattle.law_moves.specs.Wires.{of_leg}
use Rattle.law_moves.specs.Passages.Passing.{count_of}

abbrev pub is_any : Named → Bool
is_any named = true

-- so many packets; Pings are not among them, for they come to no row
abbrev pub packets : List Message → ℕ
packets messages = count_of is_any messages

abbrev pub Tells : Count → ℕ → Type 0
Tells count.Zero n = n ≡ 0
Tells count.One n = n ≡ 1
Tells count.More n = 2 ≤ n

abbrev pub IsCounted : {S : Type 0} → Passage S → Move → Type 0
IsCounted p (PacketCame leg count named) = Tells count (packets (of_leg leg p.came))
IsCounted p move = Unit {0}

abbrev pub AreCounted : {S : Type 0} → Rules S → Passage S → List Move → Type 0
AreCounted rules p [] = Unit {0}
AreCounted rules p (move ∷ moves) =
    IsCounted p move × AreCounted rules (moved rules p move) moves

-- and at an end
abbrev pub IsCountedAtEnd : {S : Type 0} → EndPassage S → EndMove → Type 0
IsCountedAtEnd p (Moves move) = IsCounted p.passage move
IsCountedAtEnd p act = Unit {0}

abbrev pub AreCountedAtEnd : {S : Type 0} → Rules S → Acts S → EndPassage S → List EndMove
    → Type 0
AreCountedAtEnd rules acts p [] = Unit {0}
AreCountedAtEnd rules acts p (move ∷ moves) =
    IsCountedAtEnd p move × AreCountedAtEnd rules acts (end_moved rules acts p move) moves
