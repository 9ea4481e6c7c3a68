use Rattle.std.proofs.Common.{◌++◌, None, string_bytes}
use Rattle.std.proofs.lemmas.Result.{err_from_is_err_and}
use Rattle.rh_text.proofs.Appending.{writes_both, writes_one}
use Rattle.rh_story.specs.Brief.{frame_brief}
use Rattle.rh_story.specs.Stories.{end_text, side_text}
use Rattle.rh_story.proofs.lines.write_pdu_line.Goals as goal

pub returns-in_err-write_end_of : goal.returns-in_err-write_end_of
returns-in_err-write_end_of c =
    let p = err_from_is_err_and c.from_residual.result c.from_residual.ensures.1 in
    rw p.1 (writes_one (side_text c.args.manner.moment c.args.verb.now c.args.side)
    (frame_brief None c.args.bytes.now
    ++ end_text c.args.manner.hex c.args.bytes.now) p.0 (string_bytes c.args.out.now)
    (string_bytes c.write_end_of.new.out) c.in_err-write_end_of.ensures)

pub returns : goal.returns
returns c =
    writes_both (side_text c.args.manner.moment c.args.verb.now c.args.side)
    (frame_brief None c.args.bytes.now
    ++ end_text c.args.manner.hex c.args.bytes.now) c.write_pdu_end.result
    (string_bytes c.args.out.now) (string_bytes c.write_end_of.new.out)
    (string_bytes c.write_pdu_end.new.out)
    c.in_ok-write_end_of.ensures c.write_pdu_end.ensures
