-- what is left is heard as all of it
use Rattle.std.proofs.Common.{◌≡◌, length}
use Rattle.rh_shell.specs.Hearing.{goes, hear}
use Rattle.rh_shell.proofs.near_end.NearEnd.hear.Given as goal

abbrev pub decreases-items : goal.decreases-items
decreases-items g l = length l.left

abbrev pub invariant-items : goal.invariant-items
invariant-items g l =
    hear g.R.Role.rules l.now (goes l.self l.role) l.left
    ≡ hear g.R.Role.rules l.now (goes l.fn.self l.fn.role) l.fn.piece
