-- a story can do any line and end at any time, and what it writes line by line is the story of the
-- recording
use Rattle.std.proofs.Common.{◌≡◌, ℕ, Bool, List, ◌∙◌, ap}
use Rattle.rh_record.specs.declared.line.Line.{Line}
use Rattle.rh_record.specs.declared.place.Place.{Place}
use Rattle.rh_record.specs.Places.{Stands, recording}
use Rattle.rh_story.specs.Stories.{Telling}
use Rattle.rh_story.specs.Tale.{story}
use Rattle.rh_world.specs.declared.any_world.AnyWorld.{AnyWorld}
use Rattle.rh_world.specs.declared.any_world.AnyWorld.TheVariants.{Before}
use Rattle.rh_word.specs.Words.{SaysOf}
use Rattle.rh_words.specs.Retelling.{Retold, retelling, retold}
use Rattle.rh_words.specs.Retellings as laws
use Rattle.rh_words.specs.Story.{IsStory, untold}

-- what a world and a teller are
abbrev of : AnyWorld → Telling → Retold Telling
of world teller = record { world = world; teller = teller }

module _ (hex : Bool) where
  pub goes_on : (s : Retold Telling) (place : Place) (text : List ℕ) (line : Line)
      → Stands place text line
      → (said : List ℕ) × (next : Retold Telling) × (retelling (story hex)).Does s line said next
  goes_on s place text line h = laws.goes_on (story hex) s line

  pub comes_to_end : (s : Retold Telling) → (said : List ℕ) × (retelling (story hex)).Ends s said
  comes_to_end s = laws.comes_to_end (story hex) s

  first_is : (s : Retold Telling) → s.world ≡ Before → s.teller ≡ (story hex).first
      → s ≡ untold hex
  first_is s h k =
      ap (λ (w : AnyWorld). of w s.teller) h ∙ ap (λ (t : Telling). of Before t) k

  pub means : (text written : List ℕ) → SaysOf recording (retelling (story hex)) text written
      → IsStory hex text written
  means text written h = record {
    lines = h.lines;
    is_text = h.is_text;
    story_of = laws.tells_retold (story hex) h.word h.lines written h.tells
        ∙ ap (λ (s : Retold Telling). retold (story hex) s h.lines)
        (first_is h.word h.starts.0 h.starts.1);
  }
