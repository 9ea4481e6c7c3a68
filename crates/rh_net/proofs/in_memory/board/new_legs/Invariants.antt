-- as many legs are made as rounds were gone
use Rattle.std.proofs.Common.{◌≡◌, vec_len}
use Rattle.rh_net.proofs.in_memory.board.new_legs.Given as goal

abbrev pub invariant-loop-leg : goal.invariant-loop-leg
invariant-loop-leg l = vec_len l.made ≡ l._leg
