-- two slots for each number before this one
use Rattle.std.proofs.Common.{◌≡◌, ◌*◌, vec_len}
use Rattle.rh_slots.proofs.slot.slots_of.Given as goal

abbrev pub invariant-loop-pair : goal.invariant-loop-pair
invariant-loop-pair g l = vec_len l.slots ≡ l.pair * 2
