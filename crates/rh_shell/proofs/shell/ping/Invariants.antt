use Rattle.std.proofs.Common.{◌≡◌, drop}
use Rattle.rh_shell.specs.Shells.{pinged}
use Rattle.rh_shell.proofs.shell.ping.Given as goal

abbrev pub invariant-loop-i : goal.invariant-loop-i
invariant-loop-i g l =
    pinged g.R.Role.rules l.now (drop l.i l.legs) l.role
    ≡ pinged g.R.Role.rules l.now l.legs l.fn.role
