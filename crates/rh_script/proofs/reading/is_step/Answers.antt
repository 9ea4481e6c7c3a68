use Rattle.rh_script.proofs.StepLaws.{line_of, whole_of}
use Rattle.rh_script.proofs.reading.is_step.Goals as goal

pub returns-in-Some : goal.returns-in-Some
returns-in-Some c = (
  λ whole. line_of c.in-Some.parsed c.args.text.now c.in-Some.ensures (c.is_whole.ensures.0 whole),
  λ line. c.is_whole.ensures.1
      (whole_of c.in-Some.parsed c.args.text.now line.0 c.in-Some.ensures line.1),
)
