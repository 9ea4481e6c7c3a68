use Rattle.std.proofs.lemmas.Result.{err_from_is_err_and}
use Rattle.rh_pdu.specs.Texts.{head_fault_text}
use Rattle.rh_text.proofs.Appending.{writes_one}
use Rattle.rh_line.specs.Texts.{number_word, word}
use Rattle.rh_line.proofs.texts.write_bad_frame.Goals as goal

pub returns-in_err-write_number : goal.returns-in_err-write_number
returns-in_err-write_number c =
    let p = err_from_is_err_and c.from_residual.result c.from_residual.ensures.1 in
    rw (p.1) (writes_one (number_word c.args.place) (word (head_fault_text c.args.fault)) p.0
    _ _ c.in_err-write_number.ensures)
