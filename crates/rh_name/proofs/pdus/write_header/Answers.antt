use Rattle.std.proofs.Common.{string_bytes}
use Rattle.std.proofs.lemmas.Result.{err_from_is_err_and}
use Rattle.rh_text.proofs.Appending.{writes_both, writes_one}
use Rattle.rh_name.specs.Pdus as seen
use Rattle.rh_name.proofs.pdus.write_header.Goals as goal

pub returns-in_err-write_numbers : goal.returns-in_err-write_numbers
returns-in_err-write_numbers c =
    let p = err_from_is_err_and c.from_residual.result c.from_residual.ensures.1 in
    rw p.1 (writes_one (seen.numbers_text c.args.header.now)
    (seen.set_flags c.args.header.now.flags) p.0
    (string_bytes c.args.out.now) (string_bytes c.write_numbers.new.out)
    c.in_err-write_numbers.ensures)

pub returns : goal.returns
returns c =
    writes_both (seen.numbers_text c.args.header.now) (seen.set_flags c.args.header.now.flags)
    c.write_set_flags.result (string_bytes c.args.out.now)
    (string_bytes c.write_numbers.new.out) (string_bytes c.write_set_flags.new.out)
    c.in_ok-write_numbers.ensures c.write_set_flags.ensures
