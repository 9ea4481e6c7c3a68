-- the forms of a command line, and what each is answered
use Rattle.std.specs.Prelude.{◌≡◌, ◌⊎◌, ◌≢◌, ◌≤◌, ℕ, true, false, List, [], ◌∷◌, ◌++◌, length, codes, map, string_bytes, Some}
use Rattle.std.specs.Fmt.{decimal}
use Rattle.std.specs.declared.option.Option.{Option}
use Rattle.std.specs.declared.string.String.{String}
use Rattle.std.specs.Global.{Global}
use Rattle.std.specs.Io.KnownBytes.{Appends}
use Rattle.rh_io.specs.Bytes.{Moves}
use Rattle.rh_io.specs.Counts.{Rose}
use Rattle.rh_text.specs.Lines.{Rules, IsText, FirstBad}
use Rattle.rh_record.specs.Places.{recording}
use Rattle.rh_show.specs.Lines.{packets}
use Rattle.rh_name.specs.Lines.{asked}
use Rattle.rh_script.specs.Scripts.{script}
use Rattle.rh_made.specs.Making.{IsCount}
use Rattle.rh_made.specs.Texts.{summary_text}
use Rattle.rh_generate.specs.Summaries.{summary}
use Rattle.rh_capture.specs.Recordings.{roles_recording}
use Rattle.rh_capture.specs.Reading.{captures}
use Rattle.rh_words.specs.declared.form.Form.{Form}
use Rattle.rh_words.specs.declared.form.Form.TheVariants.{Replay, Story, HexStory, Show, Name, Play, Capture, Audit, Make, Help, Version}
use Rattle.rh_words.specs.declared.status.Status.{Status}
use Rattle.rh_words.specs.declared.status.Status.TheVariants.{Done, WriteFault, NoMemory}
use Rattle.rh_word.specs.declared.word.Ended.{Ended}
use Rattle.rh_word.specs.declared.word.Ended.TheVariants as ends
use Rattle.rh_words.specs.Statuses.{status_of}
use Rattle.rh_word.specs.Words.{Answers, Counts, counts, Counted, IsTaken, IsWhole, most_input}
use Rattle.rh_words.specs.Replay.{IsReplayed}
use Rattle.rh_words.specs.Story.{IsStory}
use Rattle.rh_packet_words.specs.Show.{IsShown}
use Rattle.rh_packet_words.specs.Name.{IsNamed}
use Rattle.rh_words.specs.Capture.{IsCaptured}
use Rattle.rh_packet_words.specs.Audit.{IsAudited}
use Rattle.rh_words.specs.Play.{IsPlayed}

-- the words that ask for it
abbrev pub form_words : Form → List (List ℕ)
form_words Replay = codes "replay" ∷ []
form_words Story = codes "story" ∷ []
form_words HexStory = codes "story" ∷ codes "hex" ∷ []
form_words Show = codes "show" ∷ []
form_words Name = codes "name" ∷ []
form_words Play = codes "play" ∷ []
form_words Capture = codes "capture" ∷ []
form_words Audit = codes "audit" ∷ []
form_words (Make count) = codes "make" ∷ decimal count ∷ []
form_words Help = codes "--help" ∷ []
form_words Version = codes "--version" ∷ []

-- a generated recording gives as many PDUs as it may
abbrev pub IsMade : Form → Type 0
IsMade Replay = Unit {0}
IsMade Story = Unit {0}
IsMade HexStory = Unit {0}
IsMade Show = Unit {0}
IsMade Name = Unit {0}
IsMade Play = Unit {0}
IsMade Capture = Unit {0}
IsMade Audit = Unit {0}
IsMade (Make count) = IsCount count
IsMade Help = Unit {0}
IsMade Version = Unit {0}

abbrev pub IsForm : Form → List (String Global) → Type 0
IsForm form words =
    (map (λ (word : String Global). string_bytes word) words ≡ form_words form) × IsMade form

-- what the input tells as left and as read, what the output tells as written, and their counts
pub record Outside : Type 0 where
  pub left : Option (List ℕ)
  pub read : Option (List ℕ)
  pub written : Option (List ℕ)
  pub counts : Counts
  -- how many bytes the output takes for sure
  pub takes : ℕ

-- what a source and a sink tell of themselves, by what tells each of these
abbrev pub outside : {I O : Type 0} → (left read : I → Option (List ℕ)) → (read_faults ends : I → ℕ)
    → (written : O → Option (List ℕ)) → (write_faults takes : O → ℕ) → I → O → Outside
outside left read read_faults ends written write_faults takes input output = record {
  left = left input;
  read = read input;
  written = written output;
  counts = counts read_faults ends write_faults input output;
  takes = takes output;
}

-- a text that comes is read by these rules, and what it says is written
pub record Reads {P L : Type 0} (rules : Rules P L) (Says : List ℕ → List ℕ → Type 0)
    (Unfailing : Type 0)
    (ended : Ended) (before after : Outside) : Type 0 where
  -- the bytes that came are answered, and what was written is what they say, or a front of it
  pub answers : (came : List ℕ) × (written : List ℕ)
      × Moves before.left after.left before.read after.read came
      × Appends before.written after.written written
      × Answers (FirstBad rules) Says ended after.left came written
  pub counted : Counted ended before.counts after.counts
  -- and there are bytes written only of an input that ended
  pub whole : IsWhole before.counts.ends after.counts.ends before.written after.written
  -- where the input tells that it holds such a text, no more than is read, nothing is wrong with it
  pub taken : (text : List ℕ) → before.left ≡ Some text → IsText rules text
      → length text ≤ most_input
      → IsTaken ended
  -- an input of which no read fails, and an output that takes all that the text says, don't fail
  pub unfailing : Unfailing → ended ≢ ends.ReadFault
  pub takes : (text : List ℕ) → before.left ≡ Some text
      → ((whole : List ℕ) → Says text whole → length whole ≤ before.takes) → ended ≢ ends.WriteFault

-- a text was written whole, or a front of it where the output failed; an output that takes it all
-- doesn't fail
pub record Tells (text : List ℕ) (status : Status) (before after : Option (List ℕ))
    (faults now takes : ℕ)
    : Type 0 where
  pub written : List ℕ
  pub behind : List ℕ
  pub wrote : Appends before after written
  pub front : text ≡ written ++ behind
  pub ended : ((status ≡ Done) × (behind ≡ []) × (now ≡ faults))
      ⊎ ((status ≡ WriteFault) × Rose faults now)
  pub sure : length text ≤ takes → status ≡ Done

-- a text that is made is written, or there was no memory for it, and nothing was written
abbrev pub Made : (text : List ℕ) → Status → Outside → Outside → Type 0
Made text status before after =
    ((status ≡ NoMemory) × (after ≡ before))
    ⊎ Tells text status before.written after.written before.counts.write_faults
    after.counts.write_faults before.takes

-- what a form is answered; `help` and `version` are what the program tells of itself
abbrev pub Ran : (help version : List ℕ) (Unfailing : Type 0) → Form → Status → Outside → Outside
    → Type 0
Ran help version Unfailing Replay status before after =
    (ended : Ended) × (status ≡ status_of ended)
    × Reads recording IsReplayed Unfailing ended before after
Ran help version Unfailing Story status before after =
    (ended : Ended) × (status ≡ status_of ended)
    × Reads recording (IsStory false) Unfailing ended before after
Ran help version Unfailing HexStory status before after =
    (ended : Ended) × (status ≡ status_of ended)
    × Reads recording (IsStory true) Unfailing ended before after
Ran help version Unfailing Show status before after =
    (ended : Ended) × (status ≡ status_of ended)
    × Reads packets IsShown Unfailing ended before after
Ran help version Unfailing Name status before after =
    (ended : Ended) × (status ≡ status_of ended)
    × Reads asked IsNamed Unfailing ended before after
Ran help version Unfailing Play status before after =
    (ended : Ended) × (status ≡ status_of ended)
    × Reads script IsPlayed Unfailing ended before after
Ran help version Unfailing Capture status before after =
    (ended : Ended) × (status ≡ status_of ended)
    × Reads roles_recording IsCaptured Unfailing ended before after
Ran help version Unfailing Audit status before after =
    (ended : Ended) × (status ≡ status_of ended)
    × Reads captures IsAudited Unfailing ended before after
Ran help version Unfailing (Make count) status before after =
    Made (summary_text (summary count)) status before after
Ran help version Unfailing Help status before after =
    Tells help status before.written after.written before.counts.write_faults
    after.counts.write_faults before.takes
Ran help version Unfailing Version status before after =
    Tells version status before.written after.written before.counts.write_faults
    after.counts.write_faults before.takes
