-- text that is gathered and written in pieces: a front of it is written, and the rest is gathered
use Rattle.std.specs.Prelude.{◌≡◌, ℕ, ◌+◌, ◌≤◌, List, ◌++◌, length}
use Rattle.std.specs.declared.option.Option.{Option}
use Rattle.std.specs.Io.KnownBytes.{Appends}

-- what an output tells as written, and how many bytes it takes for sure
pub record Out : Type 0 where
  pub known : Option (List ℕ)
  pub takes : ℕ

abbrev pub out : {O : Type 0} → (written : O → Option (List ℕ)) → (takes : O → ℕ) → O → Out
out written takes output = record { known = written output; takes = takes output }

-- the output took this piece; where it was sure to take so much, it is still sure to take the rest
pub record Took (before now : Out) (piece : List ℕ) : Type 0 where
  pub wrote : Appends before.known now.known piece
  pub paid : length piece ≤ before.takes → before.takes ≤ now.takes + length piece

-- a front of a text was written, and the rest of it is gathered
pub record Gathers (text gathered : List ℕ) (before now : Out) : Type 0 where
  pub written : List ℕ
  pub took : Took before now written
  pub text_is : text ≡ written ++ gathered

-- a front of it was written, and no more
pub record Stops (text : List ℕ) (before now : Option (List ℕ)) : Type 0 where
  pub written : List ℕ
  pub behind : List ℕ
  pub wrote : Appends before now written
  pub text_is : text ≡ written ++ behind
