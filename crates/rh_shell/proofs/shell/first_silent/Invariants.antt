use Rattle.std.proofs.Common.{◌≡◌, drop, None}
use Rattle.rh_shell.specs.Shells.{first_silent}
use Rattle.rh_shell.proofs.shell.first_silent.Given as goal

abbrev pub invariant-loop-i : goal.invariant-loop-i
invariant-loop-i g l =
    first_silent g.R.Role.rules l.role l.now (drop l.i l.legs) l.first
    ≡ first_silent g.R.Role.rules l.role l.now l.legs None
