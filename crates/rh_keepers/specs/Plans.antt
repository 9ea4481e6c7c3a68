-- where the legs of a client lead (profile)
use Rattle.std.specs.Prelude.{ℕ, ◌-◌, ◌%◌, List, [], ◌∷◌, length, slice_get, None}
use Rattle.std.specs.declared.option.Option.{Option}
use Rattle.rh_net.specs.declared.address.Address.{Address}

-- the address of the channel of this number, from 1: they are used in turn
abbrev pub address_at : List Address → ℕ → Option Address
address_at [] number = None
address_at (one ∷ more) number = slice_get (one ∷ more) ((number - 1) % length (one ∷ more))
