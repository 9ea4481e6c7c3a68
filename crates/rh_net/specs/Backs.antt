-- legs as a net gives them, and as it takes them back
use Rattle.std.specs.Prelude.{◌≡◌, ℕ, List, [], ◌∷◌, ◌++◌, None, Some}
use Rattle.std.specs.declared.option.Option.{Option}

-- a source that was taken back: the bytes read from it, where it tells them, and its counts
pub record BackSource : Type 0 where
  pub read : Option (List ℕ)
  pub faults : ℕ
  pub ends : ℕ

-- a sink that was taken back: the bytes written to it, where it tells them, and its count
pub record BackSink : Type 0 where
  pub written : Option (List ℕ)
  pub faults : ℕ

-- the legs that were taken back, in the order in which they came
pub record Backs : Type 0 where
  pub sources : List BackSource
  pub sinks : List BackSink

-- no legs
abbrev pub no_backs : Backs
no_backs = record { sources = []; sinks = [] }

-- the same legs and this source
abbrev pub with_source : Backs → BackSource → Backs
with_source backs source = record backs { sources = backs.sources ++ source ∷ [] }

-- the same legs and this sink
abbrev pub with_sink : Backs → BackSink → Backs
with_sink backs sink = record backs { sinks = backs.sinks ++ sink ∷ [] }

-- a net that told the legs taken back tells these, or none from then on
abbrev pub TellsAtMost : Option Backs → Option Backs → (Backs → Backs) → Type 0
TellsAtMost (Some old) (Some new) change = new ≡ change old
TellsAtMost (Some old) None change = Unit {0}
TellsAtMost None (Some new) change = ⊥
TellsAtMost None None change = Unit {0}

-- no byte, where bytes are told
abbrev pub IsNothing : Option (List ℕ) → Type 0
IsNothing None = Unit {0}
IsNothing (Some bytes) = bytes ≡ []

-- of a source: nothing was read, and it neither failed nor ended
pub record IsUnread (read : Option (List ℕ)) (faults ends : ℕ) : Type 0 where
  pub no_byte : IsNothing read
  pub no_fault : faults ≡ 0
  pub no_end : ends ≡ 0

-- of a sink: nothing was written, and it didn't fail
pub record IsUnwritten (written : Option (List ℕ)) (faults : ℕ) : Type 0 where
  pub no_byte : IsNothing written
  pub no_fault : faults ≡ 0
