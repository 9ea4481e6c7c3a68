-- the answers before a place are told, and those from it on are left
use Rattle.std.proofs.Common.{◌≡◌, drop, string_bytes}
use Rattle.rh_text.proofs.Appending.{IsWritten}
use Rattle.rh_teller.specs.Tales.{told, behind}
use Rattle.rh_teller.proofs.telling.tell_all.Given as goal

abbrev pub invariant-loop-answer : goal.invariant-loop-answer
invariant-loop-answer g l = record {
  written : IsWritten (told g.T.Teller.tale l.fn.teller l.answers)
      (string_bytes l.fn.out) (string_bytes l.out)
      (told g.T.Teller.tale l.teller (drop l.answer-index l.answers));
  left : behind g.T.Teller.tale l.teller (drop l.answer-index l.answers)
      ≡ behind g.T.Teller.tale l.fn.teller l.answers;
}
