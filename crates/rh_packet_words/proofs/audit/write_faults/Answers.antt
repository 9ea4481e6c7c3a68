-- where a fault could not be told, a front of all was
use Rattle.std.proofs.Common.{suc, drop, string_bytes, ap}
use Rattle.std.proofs.Math.Seq.{drop-cons}
use Rattle.std.proofs.lemmas.Result.{err_from_is_err_and}
use Rattle.rh_text.proofs.Appending.{written_part}
use Rattle.rh_packet_words.specs.AuditTexts.{faults_text}
use Rattle.rh_packet_words.proofs.audit.write_faults.Goals as goal

pub returns-in_err-write_fault : goal.returns-in_err-write_fault
returns-in_err-write_fault c =
    let p = err_from_is_err_and c.from_residual.result c.from_residual.ensures.1 in
    let faults = c.args.faults.now in
    let l = c.loop-fault in
    let i = l.fault-index in
    let cut = ap faults_text (drop-cons faults i _ c.loop-fault-test.true) in
    rw p.1 (written_part (faults_text faults) (string_bytes c.args.out.now) (string_bytes l.out)
    (string_bytes c.write_fault.new.out) (faults_text (drop i faults)) _
    (faults_text (drop (suc i) faults)) p.0 cut c.in_err-write_fault.ensures l.invariant)
