-- a recording that runs, and is told while it does
use Rattle.std.specs.Prelude.{◌≡◌, ℕ, List, [], ◌∷◌, ◌++◌}
use Rattle.rh_record.specs.declared.line.Line.{Line}
use Rattle.rh_teller.specs.Tales.{Tale, told, behind}
use Rattle.rh_world.specs.declared.any_world.AnyWorld.{AnyWorld}
use Rattle.rh_world.specs.declared.any_world.AnyWorld.TheVariants.{Before}
use Rattle.rh_world.specs.Any.{step, last}
use Rattle.rh_word.specs.Words.{Deeds}

-- the world that the lines made so far, and who tells of it
pub record Retold (T : Type 0) : Type 0 where
  pub world : AnyWorld
  pub teller : T

-- what is told of a line and then of its answers
abbrev pub line_told : {T : Type 0} → Tale T → Retold T → Line → List ℕ
line_told tale s line =
    tale.line s.teller line ++ told tale (tale.heard s.teller line) (step s.world line).1

-- and what there is behind it
abbrev pub line_behind : {T : Type 0} → Tale T → Retold T → Line → Retold T
line_behind tale s line = record {
  world = (step s.world line).0;
  teller = behind tale (tale.heard s.teller line) (step s.world line).1;
}

-- it starts before the first line, does a line to the world that it makes, and tells of the line
-- and of what is answered
abbrev pub retelling : {T : Type 0} → Tale T → Deeds (Retold T) Line
retelling tale = record {
  Starts = λ s. (s.world ≡ Before) × (s.teller ≡ tale.first);
  Does = λ s line said next. (said ≡ line_told tale s line) × (next ≡ line_behind tale s line);
  Ends = λ s said. said ≡ told tale s.teller (last s.world);
}

-- what is told of lines, one after the other, and of the last answers
abbrev pub retold : {T : Type 0} → Tale T → Retold T → List Line → List ℕ
retold tale s [] = told tale s.teller (last s.world)
retold tale s (line ∷ lines) = line_told tale s line ++ retold tale (line_behind tale s line) lines
