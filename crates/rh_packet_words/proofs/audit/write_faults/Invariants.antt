-- the faults before a place are written, and those from it on are left
use Rattle.std.proofs.Common.{drop, string_bytes}
use Rattle.rh_text.proofs.Appending.{IsWritten}
use Rattle.rh_packet_words.specs.AuditTexts.{faults_text}
use Rattle.rh_packet_words.proofs.audit.write_faults.Given as goal

abbrev pub invariant-loop-fault : goal.invariant-loop-fault
invariant-loop-fault l =
    IsWritten (faults_text l.faults) (string_bytes l.fn.out) (string_bytes l.out)
    (faults_text (drop l.fault-index l.faults))
