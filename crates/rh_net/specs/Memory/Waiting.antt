-- who connected, and who waits for whom
use Rattle.std.specs.Prelude.{ℕ, zero, suc, ◌==◌, ◌&&◌, Bool, true, false, List, [], ◌∷◌, position, take}
use Rattle.std.specs.Str.{bytes_eq}
use Rattle.std.specs.declared.option.Option.{Option}
use Rattle.rh_net.specs.declared.address.Address.{Address}
use Rattle.rh_net.specs.declared.in_memory.callers.Caller.{Caller}
use Rattle.rh_net.specs.declared.in_memory.callers.Calling.{Calling}
use Rattle.rh_net.specs.declared.in_memory.callers.Calling.TheVariants.{Waits, Taken}

-- two addresses are of the same host and port
abbrev pub same_address : Address → Address → Bool
same_address a b = bytes_eq (take a.len a.host) (take b.len b.host) && a.port == b.port

-- a caller's leg was not taken yet
abbrev pub is_waiting : Calling → Bool
is_waiting Waits = true
is_waiting Taken = false

-- the caller waits for this address
abbrev pub waits_for : Address → Caller → Bool
waits_for at caller = is_waiting caller.calling && same_address caller.to at

-- a caller that waits for this address
abbrev pub waiting_at : Address → Caller
waiting_at to = record { to = to; calling = Waits }

-- how many came before the first who waits for this address
abbrev pub first_for : Address → List Caller → Option ℕ
first_for at callers = position (waits_for at) callers

-- a caller whose leg was taken
abbrev pub taken_from : Caller → Caller
taken_from caller = record caller { calling = Taken }

-- the callers, of which the one at a place waits no longer
abbrev pub taken_at : ℕ → List Caller → List Caller
taken_at n [] = []
taken_at zero (c ∷ cs) = taken_from c ∷ cs
taken_at (suc n) (c ∷ cs) = c ∷ taken_at n cs
