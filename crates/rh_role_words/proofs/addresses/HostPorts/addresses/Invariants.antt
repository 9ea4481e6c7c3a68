-- the first address is named, and those before a place
use Rattle.std.proofs.Common.{◌∷◌, take}
use Rattle.rh_role_words.specs.Making.{NamesEach}
use Rattle.rh_role_words.proofs.addresses.HostPorts.addresses.Given as goal

abbrev pub invariant-loop-at : goal.invariant-loop-at
invariant-loop-at l = NamesEach l.addresses.items (l.self.first ∷ take l.at l.self.more.items)
