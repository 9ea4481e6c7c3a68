-- what was written and what was not are what was gathered
use Rattle.std.proofs.Common.{sym, ◌∙◌, take, drop}
use Rattle.std.proofs.lemmas.List.{take-append-drop}
use Rattle.rh_word.proofs.output.pass_on.Goals as goal

pub returns-in-Err-clause-err : goal.returns-in-Err-clause-err
returns-in-Err-clause-err g c =
    let bytes = c.as_bytes.result.now in
    let e = c.in-Err.ensures.err in
    let whole = sym c.as_bytes.ensures.value ∙ sym (take-append-drop e.0 bytes) in
    record { written = take e.0 bytes; behind = drop e.0 bytes; wrote = e.2; text_is = whole }
