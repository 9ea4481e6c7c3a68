-- a line is judged as what it spells, a give by whether its last word is hex
use Rattle.rh_record.specs.declared.line.Line.TheVariants.{Give}
use Rattle.rh_record.proofs.Judging.{judged, give_spelled}
use Rattle.rh_record.proofs.recording.RecordingGrammar.judge_line.Goals as goal

pub returns-in-Plain : goal.returns-in-Plain
returns-in-Plain c =
    judged c.args.place c.args.text.now c.in-Plain.line c.behind.result
    (rw c.in-Plain.is at c.in_ok-line.ensures)
    c.behind.ensures

pub returns-then-is_hex : goal.returns-then-is_hex
returns-then-is_hex c =
    let give = c.in-Give in
    let bytes = c.is_hex.ensures.0 c.if-is_hex.true in
    let spelled = give_spelled c.args.text.now give.side give.hex.now bytes.0
    (rw give.is at c.in_ok-line.ensures) bytes.1 in
    judged c.args.place c.args.text.now (Give give.side bytes.0) c.behind_give.result spelled
    (c.behind_give.ensures give.side bytes.0)
