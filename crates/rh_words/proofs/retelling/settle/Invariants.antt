-- what is told of the rounds so far was gathered, and a front of it written
use Rattle.std.proofs.Common.{◌≡◌, true, string_bytes}
use Rattle.rh_world.specs.Any.{settles}
use Rattle.rh_word.specs.Outputs.{out}
use Rattle.rh_words.proofs.Settling.{Settling}
use Rattle.rh_words.proofs.retelling.settle.Given as goal

abbrev pub invariant-rounds : goal.invariant-rounds
invariant-rounds g l = record {
  settles : settles l.fn.world ≡ true;
  settling : Settling g.T.Teller.tale l.fn.teller l.fn.world l.rounds l.count l.world l.teller
      (string_bytes l.fn.gathered) (string_bytes l.gathered)
      (out g.W.Sink.written g.W.Sink.takes l.fn.output)
      (out g.W.Sink.written g.W.Sink.takes l.output);
  faults : g.W.Sink.faults l.output ≡ g.W.Sink.faults l.fn.output;
}
