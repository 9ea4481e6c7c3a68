-- the legs of a script
use Rattle.std.specs.Prelude.{◌≡◌, ℕ, ◌==◌, Bool, false, List, [], ◌∷◌, ◌++◌, None, Some}
use Rattle.std.specs.declared.option.Option.{Option}
use Rattle.rh_net.specs.Backs.{Backs, BackSource, BackSink}
use Rattle.rh_net.specs.declared.way.NetCall.{NetCall}
use Rattle.rh_net.specs.declared.way.NetCall.TheVariants.{Connect, Accept}

-- a call for which a script has no leg, where it has so many to connect
abbrev pub lacks_leg : NetCall → ℕ → Bool
lacks_leg (Connect to) legs = legs == 0
lacks_leg Accept legs = false

-- the leg of this source and sink was the last of the list, and is no longer in it
abbrev pub GivesLast : {A B : Type 0} → List (A × B) → List (A × B) → A → Option B → Type 0
GivesLast old new source (Some sink) = old ≡ new ++ (source, sink) ∷ []
GivesLast old new source None = ⊥

-- the same where the list has a leg; else a leg that nobody made, with what is left of its source
abbrev pub GivesLastOrEnd :
    {A B : Type 0} → List (A × B) → List (A × B) → Option (List ℕ) → A → Option B → Type 0
GivesLastOrEnd old new left source (Some sink) = old ≡ new ++ (source, sink) ∷ []
GivesLastOrEnd old new left source None = (old ≡ []) × (new ≡ []) × (left ≡ Some [])

-- a source that was taken back
abbrev pub back_source : Option (List ℕ) → ℕ → ℕ → BackSource
back_source read faults ends = record { read = read; faults = faults; ends = ends }

-- a sink that was taken back
abbrev pub back_sink : Option (List ℕ) → ℕ → BackSink
back_sink written faults = record { written = written; faults = faults }

-- the legs that were taken back
abbrev pub backs_of : List BackSource → List BackSink → Backs
backs_of sources sinks = record { sources = sources; sinks = sinks }
