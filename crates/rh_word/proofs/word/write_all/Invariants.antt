-- what was written so far
use Rattle.std.proofs.Common.{◌≡◌, ◌+◌, ◌≤◌, length, string_bytes}
use Rattle.rh_word.specs.Outputs.{out}
use Rattle.rh_word.proofs.Writing.{Writing}
use Rattle.rh_word.proofs.word.write_all.Given as goal

abbrev pub decreases-lines : goal.decreases-lines
decreases-lines g l = length l.rest

abbrev pub invariant-lines : goal.invariant-lines
invariant-lines g l = record {
  writing : Writing g.G.Grammar.rules g.X.Word.deeds l.text l.place l.rest l.word
      (string_bytes l.gathered)
      (out g.W.Sink.written g.W.Sink.takes l.fn.output)
      (out g.W.Sink.written g.W.Sink.takes l.output);
  counted : g.X.Word.done l.word + length l.rest ≤ length l.text;
  faults : g.W.Sink.faults l.output ≡ g.W.Sink.faults l.fn.output;
}
