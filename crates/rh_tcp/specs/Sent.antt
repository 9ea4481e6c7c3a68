-- what a write to a stream sends
use Rattle.std.specs.Prelude.{◌≡◌, ℕ, List, None, Some}
use Rattle.std.specs.declared.option.Option.{Option}
use Rattle.std.specs.declared.result.Result.{Result}
use Rattle.std.specs.Io.KnownBytes.{WriteAppends}

-- to a stream that is there, whose bytes are told so, went what is answered; one that isn't there
-- still isn't
abbrev pub Sends : {W E : Type 0} → (W → Option (List ℕ)) → Option W → Option W → Result ℕ E
    → List ℕ → Type 0
Sends contents (Some old) (Some new) result piece =
    WriteAppends (contents old) (contents new) result piece
Sends contents (Some old) None result piece = ⊥
Sends contents None stream result piece = stream ≡ None
