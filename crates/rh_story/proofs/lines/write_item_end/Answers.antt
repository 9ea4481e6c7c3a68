use Rattle.std.proofs.Common.{string_bytes}
use Rattle.std.proofs.lemmas.Result.{err_from_is_err_and}
use Rattle.rh_text.proofs.Appending.{writes_both, writes_one}
use Rattle.rh_story.specs.Brief.{item_brief}
use Rattle.rh_story.specs.Streams.{pipe_of}
use Rattle.rh_story.specs.Stories.{end_text}
use Rattle.rh_story.proofs.lines.write_item_end.Goals as goal

pub returns-in_err-write_item : goal.returns-in_err-write_item
returns-in_err-write_item c =
    let p = err_from_is_err_and c.from_residual.result c.from_residual.ensures.1 in
    let front = rw c.pipe_of.ensures at c.in_err-write_item.ensures in
    rw p.1 (writes_one (item_brief (pipe_of c.args.stream.leg c.args.stream.dir) c.args.bytes.now)
    (end_text c.args.hex c.args.bytes.now) p.0 (string_bytes c.args.out.now)
    (string_bytes c.write_item.new.out) front)

pub returns : goal.returns
returns c =
    let front = rw c.pipe_of.ensures at c.in_ok-write_item.ensures in
    writes_both (item_brief (pipe_of c.args.stream.leg c.args.stream.dir) c.args.bytes.now)
    (end_text c.args.hex c.args.bytes.now) c.write_end.result
    (string_bytes c.args.out.now) (string_bytes c.write_item.new.out)
    (string_bytes c.write_end.new.out)
    front c.write_end.ensures
