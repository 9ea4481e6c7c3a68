use Rattle.std.proofs.Common.{string_bytes}
use Rattle.std.proofs.lemmas.Result.{err_from_is_err_and}
use Rattle.rh_text.proofs.Appending.{writes_both, writes_one}
use Rattle.rh_told.specs.Answers as seen
use Rattle.rh_told.proofs.Telling.{nothing_behind, nothing_failed}
use Rattle.rh_told.proofs.told.write_event.Goals as goal

pub returns-in_err-write_on_leg : goal.returns-in_err-write_on_leg
returns-in_err-write_on_leg c =
    let p = err_from_is_err_and c.from_residual.result c.from_residual.ensures.1 in
    let front = seen.on_leg c.args.word.now c.args.leg in
    let before = string_bytes c.args.out.now in
    let after = string_bytes c.write_on_leg.new.out in
    rw p.1 (writes_one front (seen.verdict_text c.args.verdict.now) p.0 before after
    (nothing_failed front p.0 before after c.in_err-write_on_leg.ensures))

pub returns : goal.returns
returns c =
    let front = seen.on_leg c.args.word.now c.args.leg in
    let before = string_bytes c.args.out.now in
    let after = string_bytes c.write_on_leg.new.out in
    writes_both front (seen.verdict_text c.args.verdict.now) c.write_verdict.result before after
    (string_bytes c.write_verdict.new.out)
    (nothing_behind front before after c.in_ok-write_on_leg.ensures) c.write_verdict.ensures
