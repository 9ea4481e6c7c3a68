use Rattle.std.proofs.Common.{◌≡◌, ◌+◌, ◌≤◌, drop}
use Rattle.rh_shell.specs.Shells.{unfinished}
use Rattle.rh_shell.proofs.shell.unfinished.Given as goal

abbrev pub invariant-loop-i : goal.invariant-loop-i
invariant-loop-i g l = record {
  counted : l.count + unfinished g.R.Role.rules l.role l.kind (drop l.i l.legs)
      ≡ unfinished g.R.Role.rules l.role l.kind l.legs;
  most : l.count ≤ l.i;
}
