use Rattle.std.proofs.Common.{◌++◌, string_bytes}
use Rattle.std.proofs.lemmas.Result.{err_from_is_err_and}
use Rattle.rh_text.proofs.Appending.{writes_both, writes_one}
use Rattle.rh_story.specs.Brief.{item_brief}
use Rattle.rh_story.specs.Streams.{pipe_of}
use Rattle.rh_story.specs.Stories.{end_text, stream_text}
use Rattle.rh_story.proofs.lines.write_item_line.Goals as goal

pub returns-in_err-write_stream : goal.returns-in_err-write_stream
returns-in_err-write_stream c =
    let p = err_from_is_err_and c.from_residual.result c.from_residual.ensures.1 in
    rw p.1 (writes_one (stream_text c.args.manner.moment c.args.stream.leg c.args.stream.dir)
    (item_brief (pipe_of c.args.stream.leg c.args.stream.dir) c.args.bytes.now
    ++ end_text c.args.manner.hex c.args.bytes.now) p.0 (string_bytes c.args.out.now)
    (string_bytes c.write_stream.new.out) c.in_err-write_stream.ensures)

pub returns : goal.returns
returns c =
    writes_both (stream_text c.args.manner.moment c.args.stream.leg c.args.stream.dir)
    (item_brief (pipe_of c.args.stream.leg c.args.stream.dir) c.args.bytes.now
    ++ end_text c.args.manner.hex c.args.bytes.now) c.write_item_end.result
    (string_bytes c.args.out.now) (string_bytes c.write_stream.new.out)
    (string_bytes c.write_item_end.new.out)
    c.in_ok-write_stream.ensures c.write_item_end.ensures
