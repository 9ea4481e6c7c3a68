-- the lines of the answers before a place are there, and those from it on are left
use Rattle.std.proofs.Common.{◌≡◌, ◌++◌, [], drop}
use Rattle.rh_capture.specs.Captured.{captured_behind}
use Rattle.rh_capture.proofs.capturing.capture.Given as goal

abbrev pub invariant-loop-answer : goal.invariant-loop-answer
invariant-loop-answer l =
    captured_behind [] l.report
    ≡ l.lines.items ++ captured_behind l.tags (drop l.answer-index l.report)
