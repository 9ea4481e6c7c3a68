-- one of the others is passed by
use Rattle.std.proofs.Common.{◌+◌, drop, sym, ap, ◌∙◌}
use Rattle.std.proofs.lemmas.List.{drop_more}
use Rattle.rh_company.specs.Cookies.{past}
use Rattle.rh_company.proofs.cookies.past_others.Goals as goal

pub others-preserved : goal.others-preserved
others-preserved c =
    let list = c.args.others.now in
    let first = drop_more list c.others._at 0 c.others-test.true in
    ap (λ n. past list (drop (c.others._at + 1) list) n) c.past_one-past.ensures
    ∙ sym (ap (λ rest. past list rest c.others.past) first) ∙ c.others.invariant
