use Rattle.std.proofs.Common.{ℕ, ◌-◌, ap, ◌∙◌}
use Rattle.rh_http.proofs.EndLemmas.{first_found, none_found}
use Rattle.rh_http.proofs.end.HeadEnd.find.Goals as goal

pub returns-in-Some-clause-end : goal.returns-in-Some-clause-end
returns-in-Some-clause-end c =
    first_found c.args.bytes.now c.split_at.result.1.now c.args.self.now
    c.saturating_sub-start.result c.in-Some.at
    (c.saturating_sub-start.ensures
    ∙ ap (λ (n : ℕ). n - 3) c.self.view_is) c.split_at.ensures.back c.requires.none
    c.in-Some.ensures.1 c.in-Some.ensures.0.before

pub returns-in-None-clause-end : goal.returns-in-None-clause-end
returns-in-None-clause-end c =
    none_found c.args.bytes.now c.split_at.result.1.now c.args.self.now
    c.saturating_sub-start.result
    (c.saturating_sub-start.ensures
    ∙ ap (λ (n : ℕ). n - 3) c.self.view_is) c.split_at.ensures.back c.requires.none
    c.in-None.ensures
