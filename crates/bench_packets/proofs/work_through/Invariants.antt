-- work_through: what is left of the bytes shrinks
use Rattle.std.proofs.Common.{length}
use Rattle.bench_packets.proofs.work_through.Given as goal

abbrev pub decreases-packets : goal.decreases-packets
decreases-packets l = length l.rest
