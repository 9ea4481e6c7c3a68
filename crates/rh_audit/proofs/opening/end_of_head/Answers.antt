use Rattle.std.proofs.Common.{sym, ◌∙◌, ap, arith, Some, None}
use Rattle.std.proofs.lemmas.Bool.Decides.{nat_tests}
use Rattle.rh_http.proofs.EndLemmas.{fits}
use Rattle.rh_audit.specs.Openings.{or_most}
use Rattle.rh_audit.proofs.Ends.{first_end_is, first_end_none, front_end}
use Rattle.rh_audit.proofs.opening.end_of_head.Goals as goal

pub returns-in-Some-clause-end : goal.returns-in-Some-clause-end
returns-in-Some-clause-end c =
    sym (front_end c.args.front.now (Some c.in-Some.end) c.requires
    (first_end_is c.args.front.now c.in-Some.end c.in-Some.ensures.end))

pub returns-in-Some-clause-within : goal.returns-in-Some-clause-within
returns-in-Some-clause-within c =
    let ends = c.in-Some.ensures.end.ends in
    omega (arith, fits c.args.front.now _ ends.1, ends.0)

pub returns-in-None-clause-end : goal.returns-in-None-clause-end
returns-in-None-clause-end c =
    let long = c.if-front-eq-GREATEST_HEAD.true in
    sym (front_end c.args.front.now None c.requires
    (first_end_none c.args.front.now c.in-None.ensures.end)
    ∙ grind (arith, nat_tests, long))

pub returns-in-None-2-clause-end : goal.returns-in-None-2-clause-end
returns-in-None-2-clause-end c =
    let short = c.if-front-eq-GREATEST_HEAD.false in
    let most = c.requires in
    sym (front_end c.args.front.now None c.requires
    (first_end_none c.args.front.now c.in-None.ensures.end)
    ∙ grind (arith, nat_tests, short, most))
