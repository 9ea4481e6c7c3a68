use Rattle.std.proofs.Common.{◌++◌, ◌-◌, length}
use Rattle.std.specs.List.{concat}
use Rattle.rh_line.proofs.Drawing.{IsDrawn}
use Rattle.rh_line.proofs.begun.draw.Given as goal

abbrev pub invariant-pdus : goal.invariant-pdus
invariant-pdus l =
    IsDrawn (l.fn.begun ++ concat l.fn.queue) l.fn.room l.fn.queue
    (length l.fn.room - length l.fn.begun)
    l.drawn l.room l.begun l.queue

abbrev pub decreases-pdus : goal.decreases-pdus
decreases-pdus l = length l.queue
