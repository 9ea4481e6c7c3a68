use Rattle.std.proofs.Common.{string_bytes}
use Rattle.std.proofs.lemmas.Result.{err_from_is_err_and}
use Rattle.rh_text.proofs.Appending.{writes_both, writes_one}
use Rattle.rh_told.specs.Answers.{drawn_text}
use Rattle.rh_told.specs.Names.{names_among}
use Rattle.rh_told.proofs.told.write_drawn_names.Goals as goal

pub returns-in_err-write_drawn : goal.returns-in_err-write_drawn
returns-in_err-write_drawn c =
    let p = err_from_is_err_and c.from_residual.result c.from_residual.ensures.1 in
    rw p.1 (writes_one (drawn_text c.args.leg c.args.bytes.now)
    (names_among c.args.pipe c.args.bytes.now) p.0 (string_bytes c.args.out.now)
    (string_bytes c.write_drawn.new.out) c.in_err-write_drawn.ensures)

pub returns : goal.returns
returns c =
    writes_both (drawn_text c.args.leg c.args.bytes.now) (names_among c.args.pipe c.args.bytes.now)
    c.write_names.result (string_bytes c.args.out.now) (string_bytes c.write_drawn.new.out)
    (string_bytes c.write_names.new.out) c.in_ok-write_drawn.ensures c.write_names.ensures
