-- runs from bytes in memory to room in memory, where no call of either is to fail
use Rattle.std.specs.Prelude.{◌≡◌, ◌⊎◌, ◌≤◌, ℕ, true, false, List, [], ◌++◌, length, Some}
use Rattle.std.specs.declared.option.Option.{Option}
use Rattle.rh_text.specs.Lines.{IsText}
use Rattle.rh_record.specs.Places.{recording}
use Rattle.rh_show.specs.Lines.{packets}
use Rattle.rh_name.specs.Lines.{asked}
use Rattle.rh_script.specs.Scripts.{script}
use Rattle.rh_made.specs.Texts.{summary_text}
use Rattle.rh_generate.specs.Summaries.{summary}
use Rattle.rh_capture.specs.Recordings.{roles_recording}
use Rattle.rh_capture.specs.Reading.{captures}
use Rattle.rh_words.specs.declared.form.Form.{Form}
use Rattle.rh_words.specs.declared.form.Form.TheVariants.{Replay, Story, HexStory, Show, Name, Play, Capture, Audit, Make, Help, Version}
use Rattle.rh_words.specs.declared.status.Status.{Status}
use Rattle.rh_words.specs.declared.status.Status.TheVariants as statuses
use Rattle.rh_word.specs.Words.{most_input}
use Rattle.rh_words.specs.Replay.{IsReplayed}
use Rattle.rh_words.specs.Story.{IsStory}
use Rattle.rh_packet_words.specs.Show.{IsShown}
use Rattle.rh_packet_words.specs.Name.{IsNamed}
use Rattle.rh_words.specs.Capture.{IsCaptured}
use Rattle.rh_packet_words.specs.Audit.{IsAudited}
use Rattle.rh_words.specs.Play.{IsPlayed}

-- what a form writes of a text, whole; `help` and `version` are what the program tells of itself
abbrev pub IsOutput : (help version : List ℕ) → Form → List ℕ → List ℕ → Type 0
IsOutput help version Replay text whole = IsReplayed text whole
IsOutput help version Story text whole = IsStory false text whole
IsOutput help version HexStory text whole = IsStory true text whole
IsOutput help version Show text whole = IsShown text whole
IsOutput help version Name text whole = IsNamed text whole
IsOutput help version Play text whole = IsPlayed text whole
IsOutput help version Capture text whole = IsCaptured text whole
IsOutput help version Audit text whole = IsAudited text whole
IsOutput help version (Make count) text whole = whole ≡ summary_text (summary count)
IsOutput help version Help text whole = whole ≡ help
IsOutput help version Version text whole = whole ≡ version

-- nothing is wrong with the text for this form
abbrev pub IsInput : Form → List ℕ → Type 0
IsInput Replay text = IsText recording text × (length text ≤ most_input)
IsInput Story text = IsText recording text × (length text ≤ most_input)
IsInput HexStory text = IsText recording text × (length text ≤ most_input)
IsInput Show text = IsText packets text × (length text ≤ most_input)
IsInput Name text = IsText asked text × (length text ≤ most_input)
IsInput Play text = IsText script text × (length text ≤ most_input)
IsInput Capture text = IsText roles_recording text × (length text ≤ most_input)
IsInput Audit text = IsText captures text × (length text ≤ most_input)
IsInput (Make count) text = Unit {0}
IsInput Help text = Unit {0}
IsInput Version text = Unit {0}

-- neither the input nor the output failed
abbrev pub NoneFailed : Status → Type 0
NoneFailed statuses.Done = Unit {0}
NoneFailed statuses.Usage = Unit {0}
NoneFailed (statuses.BadInput line) = Unit {0}
NoneFailed statuses.ReadFault = ⊥
NoneFailed statuses.WriteFault = ⊥
NoneFailed statuses.NoMemory = Unit {0}
NoneFailed statuses.TooLong = Unit {0}

-- there is room for all that the form writes of the text
abbrev pub IsRoomFor : (help version : List ℕ) → Form → List ℕ → ℕ → Type 0
IsRoomFor help version form text room =
    (whole : List ℕ) → IsOutput help version form text whole → length whole ≤ room

-- where all is done, what was written is the whole output, and at want of memory a front of that;
-- where nothing is wrong with the text, all is done but for want of memory
pub record RanIn (Input : Type 0) (Output : List ℕ → Type 0) (status : Status)
    (written : Option (List ℕ)) : Type 0 where
  pub none_failed : NoneFailed status
  pub whole : status ≡ statuses.Done
      → (output : List ℕ) × (written ≡ Some output) × Output output
  pub begun : status ≡ statuses.NoMemory
      → (front : List ℕ) × (written ≡ Some front)
      × ((front ≡ []) ⊎ ((behind : List ℕ) × Output (front ++ behind)))
  pub done : Input → (status ≡ statuses.Done) ⊎ (status ≡ statuses.NoMemory)

abbrev pub RanInMemory : (help version : List ℕ) → Form → List ℕ → Status → Option (List ℕ)
    → Type 0
RanInMemory help version form text status written =
    RanIn (IsInput form text) (IsOutput help version form text) status written
