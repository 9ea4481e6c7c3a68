use Rattle.std.proofs.Common.{◌++◌, [], codes, string_bytes}
use Rattle.std.proofs.lemmas.Result.{err_from_is_err_and}
use Rattle.rh_text.proofs.Appending.{writes_both, writes_one}
use Rattle.rh_name.specs.Fields.{counts_field}
use Rattle.rh_story.specs.Brief.{short_id}
use Rattle.rh_story.proofs.brief.write_ack.Goals as goal

pub returns-in_err-write_counts : goal.returns-in_err-write_counts
returns-in_err-write_counts c =
    let p = err_from_is_err_and c.from_residual.result c.from_residual.ensures.1 in
    rw p.1 (writes_one (counts_field [] c.args.received c.args.window)
    (codes " channel" ++ short_id c.args.cookie.0) p.0 (string_bytes c.args.out.now)
    (string_bytes c.write_counts.new.out) c.in_err-write_counts.ensures)

pub returns : goal.returns
returns c =
    writes_both (counts_field [] c.args.received c.args.window)
    (codes " channel" ++ short_id c.args.cookie.0) c.write_short.result
    (string_bytes c.args.out.now) (string_bytes c.write_counts.new.out)
    (string_bytes c.write_short.new.out)
    c.in_ok-write_counts.ensures c.write_short.ensures
