use Rattle.rh_audit.proofs.LineLaws.{no_verb, behind_verb, no_leg, digits_of}
use Rattle.rh_audit.proofs.reading.read_seen.Goals as goal

pub returns-in_default-clause-grammar : goal.returns-in_default-clause-grammar
returns-in_default-clause-grammar c = λ _. no_verb c.args.text.now c.in_default.ensures

pub returns-in_default-split_leg-clause-grammar : goal.returns-in_default-split_leg-clause-grammar
returns-in_default-split_leg-clause-grammar c = λ _ seen h.
    no_leg c.in-Some.words.now c.in_default-split_leg.ensures seen
    (behind_verb c.args.text.now c.in-Some.words.now c.in-Some.ensures seen h)

pub returns-in-None-clause-grammar : goal.returns-in-None-clause-grammar
returns-in-None-clause-grammar c = λ _ seen h.
    let words = behind_verb c.args.text.now c.in-Some.words.now c.in-Some.ensures seen h in
    let leg = c.in-Some-split_leg in
    (rw c.in-None.is at c.in_ok-bytes.ensures) seen.bytes
    (digits_of c.in-Some.words.now leg.hex.now leg.tag leg.pipe leg.ensures seen words)
