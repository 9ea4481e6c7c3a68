-- each byte is told in its turn
use Rattle.std.proofs.Common.{string_bytes}
use Rattle.std.proofs.lemmas.Result.{err_from_is_err_and}
use Rattle.rh_story.proofs.LineTexts.{walked, walk_failed}
use Rattle.rh_story.proofs.lines.write_items.Goals as goal

pub returns-in_err-write_by_byte-clause-text : goal.returns-in_err-write_by_byte-clause-text
returns-in_err-write_by_byte-clause-text c =
    let p = err_from_is_err_and c.from_residual.result c.from_residual.ensures.1 in
    rw p.1 (walk_failed c.args.manner.moment c.args.manner.hex c.args.stream.leg
    c.args.stream.dir c.args.held.now.items c.args.bytes.now (string_bytes c.args.out.now)
    c.bytes.held.items (string_bytes c.bytes.out) (string_bytes c.write_by_byte.new.out)
    c.bytes.byte-index _ p.0 c.bytes-test.true c.in_err-write_by_byte.ensures.text
    c.bytes.invariant)

pub bytes-preserved : goal.bytes-preserved
bytes-preserved c =
    walked c.args.manner.moment c.args.manner.hex c.args.stream.leg c.args.stream.dir
    c.args.held.now.items c.args.bytes.now (string_bytes c.args.out.now) c.bytes.held.items
    (string_bytes c.bytes.out) c.write_by_byte.new.held.items
    (string_bytes c.write_by_byte.new.out) c.bytes.byte-index _ c.bytes-test.true
    c.in_ok-write_by_byte.ensures.held c.in_ok-write_by_byte.ensures.text c.bytes.invariant
