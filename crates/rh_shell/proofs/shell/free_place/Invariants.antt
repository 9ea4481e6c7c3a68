use Rattle.std.proofs.Common.{◌≡◌, ◌+◌, drop}
use Rattle.rh_shell.specs.Shells.{first_where, is_free}
use Rattle.rh_shell.proofs.shell.free_place.Given as goal

abbrev pub invariant-loop-i : goal.invariant-loop-i
invariant-loop-i g l =
    l.i + first_where (is_free g.R.Role.rules l.role l.kind) (drop l.i l.legs) ≡ first_where
    (is_free g.R.Role.rules l.role l.kind) l.legs
