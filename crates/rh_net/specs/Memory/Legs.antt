-- which pipe a party of a leg reads and writes
use Rattle.std.specs.Prelude.{ℕ, List, [], ◌∷◌, None, Some, slice_index_or}
use Rattle.std.specs.declared.option.Option.{Option}
use Rattle.rh_net.specs.declared.in_memory.two_ways.TwoWays.{TwoWays}
use Rattle.rh_net.specs.declared.in_memory.two_ways.Party.{Party}
use Rattle.rh_net.specs.declared.in_memory.two_ways.Party.TheVariants.{Caller, Callee}
use Rattle.rh_net.specs.declared.in_memory.two_ways.Half.{Half}
use Rattle.rh_net.specs.declared.in_memory.two_ways.Half.TheVariants.{Reading, Writing}

-- what a party's half reads or writes: what one party reads, the other writes
abbrev pub the_way : {T : Type 0} → TwoWays T → Party → Half → T
the_way ways Caller Reading = ways.to_caller
the_way ways Caller Writing = ways.to_callee
the_way ways Callee Reading = ways.to_callee
the_way ways Callee Writing = ways.to_caller

-- the ways of the leg at a place; of no leg, and past the last one, those that ended
abbrev pub of_leg : {T : Type 0} → List (TwoWays T) → Option ℕ → TwoWays T → TwoWays T
of_leg legs None ended = ended
of_leg legs (Some place) ended = slice_index_or legs place ended
