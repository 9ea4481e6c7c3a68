-- what the word `story` writes of the recording that came, with or without hex
use Rattle.std.specs.Prelude.{◌≡◌, ℕ, Bool, List}
use Rattle.rh_text.specs.Lines.{TextOf}
use Rattle.rh_record.specs.declared.line.Line.{Line}
use Rattle.rh_record.specs.Places.{recording}
use Rattle.rh_story.specs.Stories.{Telling}
use Rattle.rh_story.specs.Tale.{story}
use Rattle.rh_world.specs.declared.any_world.AnyWorld.TheVariants.{Before}
use Rattle.rh_words.specs.Retelling.{Retold, retold}

-- no line came yet, and nothing was told
abbrev pub untold : Bool → Retold Telling
untold hex = record { world = Before; teller = (story hex).first }

-- what came is a recording, and what was written is its story
pub record IsStory (hex : Bool) (came written : List ℕ) : Type 0 where
  pub lines : List Line
  pub is_text : TextOf recording came lines
  pub story_of : written ≡ retold (story hex) (untold hex) lines
