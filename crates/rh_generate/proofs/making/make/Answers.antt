use Rattle.std.proofs.Common.{◌≡◌, IfOk, ℕ, arith, ◌∙◌, ap, subst}
use Rattle.rh_made.specs.declared.summary.Summary.{Summary}
use Rattle.rh_made.specs.Making.{front}
use Rattle.rh_generate.specs.Steps.{made_by}
use Rattle.rh_generate.specs.Summaries.{summary, summary_of}
use Rattle.rh_generate.proofs.Recordings.{begun, one_turn, summed}
use Rattle.rh_generate.proofs.making.make.Goals as goal

pub loop-before-init : goal.loop-before-init
loop-before-init c = record {
  done = c.in_ok-making.ensures.done ∙ begun c.get-count.result;
  of_roles = c.in_ok-making.ensures.of_roles;
}

pub loop-before-preserved : goal.loop-before-preserved
loop-before-preserved c = record {
  done = c.in_ok-turn.ensures.done
      ∙ one_turn c.get-count.result c.loop-before.before c.loop-before.making
      c.loop-before.invariant.done;
  of_roles = c.in_ok-turn.ensures.of_roles;
}

pub returns : goal.returns
returns c =
    let n = c.get-count.result in
    let made = c.loop-before.making in
    let all : c.loop-before.before ≡ n = omega arith in
    let done : made ≡ made_by (front n n) =
    c.loop-before.invariant.done ∙ ap (λ (i : ℕ). made_by (front n i)) all in
    let is : summary_of c.end.new.self ≡ summary c.args.count =
    ap summary_of c.in_ok-end.ensures ∙ summed n made done
    ∙ ap summary c.get-count.ensures.number in
    subst (λ (x : Summary). IfOk c.summary.result (λ one. one ≡ x)) is c.summary.ensures
