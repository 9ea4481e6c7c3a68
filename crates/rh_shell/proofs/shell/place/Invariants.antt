use Rattle.std.proofs.Common.{◌≡◌, ◌+◌, drop}
use Rattle.rh_shell.specs.Shells.{first_where, is_at}
use Rattle.rh_shell.proofs.shell.place.Given as goal

abbrev pub invariant-loop-i : goal.invariant-loop-i
invariant-loop-i l =
    l.i + first_where (is_at l.leg) (drop l.i l.legs) ≡ first_where (is_at l.leg) l.legs
