-- a write that was interrupted took nothing
use Rattle.std.specs.Io.KnownBytes.{Keeps}
use Rattle.rh_tcp.proofs.leg.write_again.Given as goal

abbrev pub invariant-loop : goal.invariant-loop
invariant-loop g l = Keeps (g.W.Write.contents l.fn.stream) (g.W.Write.contents l.stream)
