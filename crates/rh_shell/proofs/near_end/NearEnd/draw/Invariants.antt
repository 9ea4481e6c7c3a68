-- what was drawn so far, and what is drawn into the rest of the room
use Rattle.std.proofs.Common.{◌≡◌, ◌≤◌, ◌-◌, length, take, drop}
use Rattle.rh_shell.specs.Drawing.{draw}
use Rattle.rh_shell.proofs.Draws.{behind}
use Rattle.rh_shell.proofs.near_end.NearEnd.draw.Given as goal

abbrev pub decreases-messages : goal.decreases-messages
decreases-messages g l = length l.room - l.count

abbrev pub invariant-messages : goal.invariant-messages
invariant-messages g l = record {
  fits : l.count ≤ length l.room;
  drawn : behind (take l.count l.room) (draw g.R.Role.rules l.now (length l.room - l.count) l.self
      l.role)
      ≡ draw g.R.Role.rules l.now (length l.fn.room) l.fn.self l.fn.role;
  rest : drop l.count l.room ≡ drop l.count l.fn.room;
  same : length l.room ≡ length l.fn.room;
}
