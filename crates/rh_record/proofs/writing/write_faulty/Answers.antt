use Rattle.std.proofs.Common.{◌++◌, codes, string_bytes}
use Rattle.std.proofs.lemmas.Result.{err_from_is_err_and}
use Rattle.rh_text.specs.Writing.{parts_text}
use Rattle.rh_pdu.specs.Texts.{pdu_fault_text}
use Rattle.rh_text.proofs.Appending.{writes_one}
use Rattle.rh_record.proofs.Reports.{second_failed, third_done}
use Rattle.rh_record.proofs.writing.write_faulty.Goals as goal

pub returns-in_err-write_parts : goal.returns-in_err-write_parts
returns-in_err-write_parts c =
    let p = err_from_is_err_and c.from_residual.result c.from_residual.ensures.1 in
    rw p.1 (writes_one (parts_text c.args.front.now) (pdu_fault_text c.args.fault ++ codes "\n") p.0
    (string_bytes c.args.out.now) (string_bytes c.write_parts.new.out) c.in_err-write_parts.ensures)

pub returns-in_err-write_pdu_fault : goal.returns-in_err-write_pdu_fault
returns-in_err-write_pdu_fault c =
    let residual = c.from_residual-in_err-write_pdu_fault in
    let p = err_from_is_err_and residual.result residual.ensures.1 in
    rw p.1 (second_failed (parts_text c.args.front.now) (pdu_fault_text c.args.fault)
    (codes "\n") p.0
    (string_bytes c.args.out.now) (string_bytes c.write_parts.new.out)
    (string_bytes c.write_pdu_fault.new.out)
    c.in_ok-write_parts.ensures c.in_err-write_pdu_fault.ensures)

pub returns : goal.returns
returns c =
    third_done (parts_text c.args.front.now) (pdu_fault_text c.args.fault)
    (codes "\n") c.write_parts-2.result
    (string_bytes c.args.out.now) (string_bytes c.write_parts.new.out)
    (string_bytes c.write_pdu_fault.new.out)
    (string_bytes c.write_parts-2.new.out) c.in_ok-write_parts.ensures
    c.in_ok-write_pdu_fault.ensures c.write_parts-2.ensures
