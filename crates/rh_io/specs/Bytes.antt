-- what reads and writes do to the bytes that are told of a source and of a writer
use Rattle.std.specs.Prelude.{ℕ, ◌≤◌, List, length, take, MatchResult}
use Rattle.std.specs.declared.option.Option.{Option}
use Rattle.std.specs.declared.result.Result.{Result}
use Rattle.std.specs.Io.KnownBytes.{Consumes, Appends, Keeps}

-- the bytes move from the front of those left to the end of those read
pub record Moves (left next read after : Option (List ℕ)) (bytes : List ℕ) : Type 0 where
  pub from : Consumes left next bytes
  pub to : Appends read after bytes

-- no told byte changes
pub record Stays (left next read after : Option (List ℕ)) : Type 0 where
  pub same_left : Keeps left next
  pub same_read : Keeps read after

-- a front of the piece went out: as long as is answered, or some where the write or its flush
-- failed
abbrev pub SendsFront : {E : Type 0} → Option (List ℕ) → Option (List ℕ) → Result ℕ E → List ℕ
    → Type 0
SendsFront before after result piece =
    MatchResult result (λ n. Appends before after (take n piece))
    (λ _. (k : ℕ) × (k ≤ length piece) × Appends before after (take k piece))
