use Rattle.std.proofs.Common.{arith}
use Rattle.rh_sig.specs.Naming.{named_bytes}
use Rattle.rh_sig.proofs.Small.{at_most_140}
use Rattle.rh_shell.proofs.begun.Begun.begin_packet.Goals as goal

pub unreachable-requires : goal.unreachable-requires
unfolding named_bytes
unreachable-requires c = omega (
  arith,
  c.in-Err.ensures.writes.0,
  c.in-Err.ensures.writes.1,
  at_most_140 c.args.packet.now c.write_named.ensures.packet,
  c.self.told,
)
