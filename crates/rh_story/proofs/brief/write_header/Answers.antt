use Rattle.std.proofs.Common.{string_bytes, slice_get}
use Rattle.std.proofs.lemmas.Result.{err_from_is_err_and}
use Rattle.rh_text.proofs.Appending.{writes_both, writes_one}
use Rattle.rh_name.specs.Pdus.{kind_by, kinds}
use Rattle.rh_story.specs.Brief.{numbers_brief}
use Rattle.rh_story.proofs.brief.write_header.Goals as goal

pub returns-in_err-write_kind : goal.returns-in_err-write_kind
returns-in_err-write_kind c =
    let p = err_from_is_err_and c.from_residual.result c.from_residual.ensures.1 in
    rw p.1 (writes_one (kind_by c.args.header.now.ptype (slice_get kinds c.args.header.now.ptype))
    (numbers_brief c.args.header.now) p.0 (string_bytes c.args.out.now)
    (string_bytes c.write_kind.new.out) c.in_err-write_kind.ensures)

pub returns : goal.returns
returns c =
    writes_both (kind_by c.args.header.now.ptype (slice_get kinds c.args.header.now.ptype))
    (numbers_brief c.args.header.now) c.write_numbers.result
    (string_bytes c.args.out.now) (string_bytes c.write_kind.new.out)
    (string_bytes c.write_numbers.new.out)
    c.in_ok-write_kind.ensures c.write_numbers.ensures
