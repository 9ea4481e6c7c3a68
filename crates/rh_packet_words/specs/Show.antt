-- what the word `show` does, and what it writes of the packets that came
use Rattle.std.specs.Prelude.{◌≡◌, ℕ, List, [], ◌∷◌, ◌++◌}
use Rattle.rh_text.specs.declared.lines.TheConstants.{LINE_FEED}
use Rattle.rh_text.specs.Lines.{TextOf}
use Rattle.rh_show.specs.Lines.{packets}
use Rattle.rh_show.specs.Shown.{ShownAs, ShowText}
use Rattle.rh_word.specs.Words.{Deeds}

-- it writes one line for each packet, and keeps nothing
abbrev pub showing : Deeds (Unit {0}) (List ℕ)
showing = record {
  Starts = λ _. Unit {0};
  Does = λ _ bytes told _. (line : List ℕ) × ShownAs bytes line × (told ≡ line ++ LINE_FEED ∷ []);
  Ends = λ _ told. told ≡ [];
}

-- what came are lines of hex, and what was written is one line for each packet
pub record IsShown (came written : List ℕ) : Type 0 where
  pub lines : List (List ℕ)
  pub is_text : TextOf packets came lines
  pub shown : ShowText lines written
