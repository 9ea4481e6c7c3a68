use Rattle.rh_script.proofs.StepLaws.{if_read, whole_of}
use Rattle.rh_script.proofs.reading.read_step.Goals as goal

pub returns-in-Some-clause-step : goal.returns-in-Some-clause-step
returns-in-Some-clause-step c =
    if_read c.in-Some.parsed c.args.text.now c.read_last.result c.in-Some.ensures
    c.read_last.ensures.step

pub returns-in-Some-clause-grammar : goal.returns-in-Some-clause-grammar
returns-in-Some-clause-grammar c = λ refused step spelled.
    c.read_last.ensures.grammar refused
    (whole_of c.in-Some.parsed c.args.text.now step c.in-Some.ensures spelled)
