-- what the word `name` does, and what it writes of the packets that came
use Rattle.std.specs.Prelude.{◌≡◌, ℕ, List, [], ◌∷◌, ◌++◌}
use Rattle.rh_text.specs.declared.lines.TheConstants.{LINE_FEED}
use Rattle.rh_text.specs.Lines.{TextOf}
use Rattle.rh_name.specs.declared.reader.Asked.{Asked}
use Rattle.rh_name.specs.Lines.{asked, names_text}
use Rattle.rh_name.specs.Telling.{told}
use Rattle.rh_word.specs.Words.{Deeds}

-- it writes what each packet is called, in one line, and keeps nothing
abbrev pub naming : Deeds (Unit {0}) Asked
naming = record {
  Starts = λ _. Unit {0};
  Does = λ _ line said _. said ≡ told line.pipe line.bytes ++ LINE_FEED ∷ [];
  Ends = λ _ said. said ≡ [];
}

-- what came are such lines, and what was written is what their packets are called
pub record IsNamed (came written : List ℕ) : Type 0 where
  pub lines : List Asked
  pub is_text : TextOf asked came lines
  pub named : written ≡ names_text lines
