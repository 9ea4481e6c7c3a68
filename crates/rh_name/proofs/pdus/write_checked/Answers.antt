use Rattle.std.proofs.Common.{◌++◌, slice_get, string_bytes}
use Rattle.std.proofs.lemmas.Result.{err_from_is_err_and}
use Rattle.rh_text.proofs.Appending.{writes_both, writes_one}
use Rattle.rh_name.specs.Pdus as seen
use Rattle.rh_name.proofs.pdus.write_checked.Goals as goal

pub returns-in_err-write_kind : goal.returns-in_err-write_kind
returns-in_err-write_kind c =
    let p = err_from_is_err_and c.from_residual.result c.from_residual.ensures.1 in
    let h = c.args.header.now in
    rw p.1 (writes_one (seen.kind_by h.ptype (slice_get seen.kinds h.ptype))
    (seen.numbers_text h ++ seen.set_flags h.flags) p.0
    (string_bytes c.args.out.now) (string_bytes c.write_kind.new.out)
    c.in_err-write_kind.ensures)

pub returns : goal.returns
returns c =
    let h = c.args.header.now in
    writes_both (seen.kind_by h.ptype (slice_get seen.kinds h.ptype))
    (seen.numbers_text h ++ seen.set_flags h.flags) c.write_header.result
    (string_bytes c.args.out.now) (string_bytes c.write_kind.new.out)
    (string_bytes c.write_header.new.out) c.in_ok-write_kind.ensures c.write_header.ensures
