-- what a row answers, and what may go next
use Rattle.std.specs.Prelude.{Bool, true, false, Some, None, Ok, Err}
use Rattle.std.specs.declared.option.Option.{Option}
use Rattle.rh_shell.specs.declared.answers.Refused.{Refused}
use Rattle.rh_shell.specs.declared.answers.Refused.TheVariants.{Unexpected}
use Rattle.rh_shell.specs.Rules.{Row, Message}
use Rattle.rh_inproxy.specs.State.{InProxy}

-- the proxy behind a row, which takes what came or refuses it
abbrev pub Done : Type 0
Done = InProxy × Row

abbrev pub taken : InProxy → Done
taken s = (s, Ok tt)

abbrev pub refuse : InProxy → Refused → Done
refuse s why = (s, Err why)

abbrev pub unexpected : InProxy → Done
unexpected s = refuse s Unexpected

-- a message that may go, and the proxy behind it
abbrev pub Pick : Type 0
Pick = Option (InProxy × Message)

abbrev pub or_else : Pick → Pick → Pick
or_else None later = later
or_else (Some pick) later = Some pick

abbrev pub is_some : {A : Type 0} → Option A → Bool
is_some None = false
is_some (Some x) = true
