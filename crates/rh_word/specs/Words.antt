-- a word that reads a text of lines and writes what they say
use Rattle.std.specs.Prelude.{◌≡◌, ℕ, ◌+◌, ◌≤◌, ◌⊎◌, List, [], ◌∷◌, ◌++◌, length}
use Rattle.std.specs.declared.option.Option.{Option}
use Rattle.std.specs.Io.KnownBytes.{IsAtEnd}
use Rattle.rh_io.specs.Counts.{Rose}
use Rattle.rh_text.specs.Lines.{Rules, TextOf}
use Rattle.rh_word.specs.declared.word.TheConstants.{MOST_INPUT}
use Rattle.rh_word.specs.declared.word.Ended.{Ended}
use Rattle.rh_word.specs.declared.word.Ended.TheVariants.{Done, BadInput, ReadFault, WriteFault, NoMemory, TooLong}

-- the most bytes of input that are read
abbrev pub most_input : ℕ
most_input = MOST_INPUT

-- ---- what a word does

-- as what it starts; what it writes of a line, and what it is then; what it writes behind the last
-- line
pub record Deeds (Word Line : Type 0) : Type 1 where
  pub Starts : Word → Type 0
  pub Does : Word → Line → List ℕ → Word → Type 0
  pub Ends : Word → List ℕ → Type 0

-- what is written of these lines, one after the other, and behind the last
abbrev pub Tells : {W L : Type 0} → Deeds W L → W → List L → List ℕ → Type 0
Tells deeds word [] written = deeds.Ends word written
Tells {W} deeds word (line ∷ lines) written =
    (told : List ℕ) × (more : List ℕ) × (next : W)
    × deeds.Does word line told next × (written ≡ told ++ more) × Tells deeds next lines more

-- what is written of a text
pub record SaysOf {P L W : Type 0} (rules : Rules P L) (deeds : Deeds W L)
    (text written : List ℕ) : Type 0 where
  pub lines : List L
  pub is_text : TextOf rules text lines
  pub word : W
  pub starts : deeds.Starts word
  pub tells : Tells deeds word lines written

-- ---- how it ends

-- what was written is a front of the output of what came
abbrev pub IsBegun : (Says : List ℕ → List ℕ → Type 0) → List ℕ → List ℕ → Type 0
IsBegun Says came written = (behind : List ℕ) × Says came (written ++ behind)

-- what came, what the input tells as left, and what was written. `Says` has the output of a text,
-- and `Refuses` the first line that is outside the grammar.
abbrev pub Answers : (Refuses : List ℕ → ℕ → Type 0) (Says : List ℕ → List ℕ → Type 0)
    → Ended → Option (List ℕ) → List ℕ → List ℕ → Type 0
Answers Refuses Says Done left came written =
    (length came ≤ most_input) × IsAtEnd left × Says came written
Answers Refuses Says (BadInput line) left came written =
    (length came ≤ most_input) × IsAtEnd left × Refuses came line × (written ≡ [])
Answers Refuses Says ReadFault left came written = (length came ≤ most_input) × (written ≡ [])
Answers Refuses Says WriteFault left came written =
    (length came ≤ most_input) × IsAtEnd left × IsBegun Says came written
Answers Refuses Says NoMemory left came written =
    (written ≡ []) ⊎ ((length came ≤ most_input) × IsAtEnd left × IsBegun Says came written)
Answers Refuses Says TooLong left came written = (length came ≡ most_input + 1) × (written ≡ [])

-- the input was read to its end, which is counted, or the output tells that nothing was written
abbrev pub IsWhole : (before after : ℕ) → (was is : Option (List ℕ)) → Type 0
IsWhole before after was is = Rose before after ⊎ (is ≡ was)

-- how often the input failed and ended, and the output failed
pub record Counts : Type 0 where
  pub read_faults : ℕ
  pub ends : ℕ
  pub write_faults : ℕ

-- what a source and a sink count, by what tells each of these
abbrev pub counts : {I O : Type 0} → (read_faults ends : I → ℕ) → (write_faults : O → ℕ) → I → O
    → Counts
counts read_faults ends write_faults input output = record {
  read_faults = read_faults input;
  ends = ends input;
  write_faults = write_faults output;
}

-- the count whose cause came rose, and no other
abbrev pub Counted : Ended → Counts → Counts → Type 0
Counted Done before after = Rose before.ends after.ends
    × (after.read_faults ≡ before.read_faults) × (after.write_faults ≡ before.write_faults)
Counted (BadInput line) before after = Rose before.ends after.ends
    × (after.read_faults ≡ before.read_faults) × (after.write_faults ≡ before.write_faults)
Counted ReadFault before after = Rose before.read_faults after.read_faults
    × (after.ends ≡ before.ends) × (after.write_faults ≡ before.write_faults)
Counted WriteFault before after = Rose before.write_faults after.write_faults
    × Rose before.ends after.ends × (after.read_faults ≡ before.read_faults)
Counted NoMemory before after = (before.ends ≤ after.ends)
    × (after.read_faults ≡ before.read_faults) × (after.write_faults ≡ before.write_faults)
Counted TooLong before after = (after.ends ≡ before.ends)
    × (after.read_faults ≡ before.read_faults) × (after.write_faults ≡ before.write_faults)

-- nothing is wrong with the text that came
abbrev pub IsTaken : Ended → Type 0
IsTaken Done = Unit {0}
IsTaken (BadInput line) = ⊥
IsTaken ReadFault = Unit {0}
IsTaken WriteFault = Unit {0}
IsTaken NoMemory = Unit {0}
IsTaken TooLong = ⊥
