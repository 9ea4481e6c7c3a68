use Rattle.std.proofs.Common.{string_bytes, None}
use Rattle.std.proofs.lemmas.Result.{err_from_is_err_and}
use Rattle.rh_text.proofs.Appending.{writes_both, writes_one}
use Rattle.rh_story.specs.Brief.{frame_brief}
use Rattle.rh_story.specs.Stories.{end_text}
use Rattle.rh_story.proofs.lines.write_pdu_end.Goals as goal

pub returns-in_err-write_frame : goal.returns-in_err-write_frame
returns-in_err-write_frame c =
    let p = err_from_is_err_and c.from_residual.result c.from_residual.ensures.1 in
    rw p.1 (writes_one (frame_brief None c.args.bytes.now)
    (end_text c.args.hex c.args.bytes.now) p.0 (string_bytes c.args.out.now)
    (string_bytes c.write_frame.new.out) c.in_err-write_frame.ensures)

pub returns : goal.returns
returns c =
    writes_both (frame_brief None c.args.bytes.now)
    (end_text c.args.hex c.args.bytes.now) c.write_end.result
    (string_bytes c.args.out.now) (string_bytes c.write_frame.new.out)
    (string_bytes c.write_end.new.out)
    c.in_ok-write_frame.ensures c.write_end.ensures
