-- what the word `play` does, and what it writes of the script that came
use Rattle.std.specs.Prelude.{◌≡◌, ℕ, List, [], ◌++◌}
use Rattle.rh_text.specs.Lines.{TextOf}
use Rattle.rh_script.specs.declared.step.Step.{Step}
use Rattle.rh_script.specs.Scripts.{script}
use Rattle.rh_play.specs.Players.{Player, first, step, answers}
use Rattle.rh_told.specs.Answers.{told_text, script_text}
use Rattle.rh_word.specs.Words.{Deeds}

-- the player behind a line, and the text of what the line is answered
unfoldable pub answered : Player → Step → Player × List ℕ
answered player line = ((step player line).0, told_text (step player line).1)

-- the player is the one behind the line, and the text of the answer is appended
abbrev pub Adds : Player × List ℕ → Player → List ℕ → List ℕ → Type 0
Adds did next before after = (next ≡ did.0) × (after ≡ before ++ did.1)

-- it starts with no node, does a line to the node that plays, and writes the text of the answer
abbrev pub playing : Deeds Player Step
playing = record {
  Starts = λ player. player ≡ first;
  Does = λ player line told next. (next, told) ≡ answered player line;
  Ends = λ player told. told ≡ [];
}

-- what came is a script, and what was written is what its lines are answered
pub record IsPlayed (came written : List ℕ) : Type 0 where
  pub lines : List Step
  pub is_text : TextOf script came lines
  pub played : written ≡ script_text (answers first lines)
