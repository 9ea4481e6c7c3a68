use Rattle.std.proofs.Common.{◌≡◌, ◌+◌, ℕ, suc, take, subst, ap, ◌∙◌, arith}
use Rattle.rh_audit.specs.Links.{legs_of}
use Rattle.rh_audit.specs.Walks.{all_pdus}
use Rattle.rh_audit.proofs.Marks.{Halved, halved_all, halved_last, halved_more}
use Rattle.rh_audit.proofs.walk.up_to_unmarked.Goals as goal

pub returns-then-not-links-i : goal.returns-then-not-links-i
returns-then-not-links-i c =
    let links = c.args.links.now in
    let i = c.loop-i.i in
    let next : suc i ≡ i + 1 = omega arith in
    halved_last i links c.index-links-i.result c.loop-i-test.true c.loop-i.invariant
    c.if-not-links-i.true
    ∙ ap (λ (n : ℕ). all_pdus (legs_of (take n links))) next

pub loop-i-preserved : goal.loop-i-preserved
loop-i-preserved c =
    let links = c.args.links.now in
    let i = c.loop-i.i in
    let next : suc i ≡ i + 1 = omega arith in
    subst (λ n. Halved n links) next
    (halved_more i links c.index-links-i.result c.loop-i-test.true c.loop-i.invariant
    c.if-not-links-i.false)

pub returns : goal.returns
returns c =
    halved_all c.loop-i.i c.args.links.now (omega (arith, c.loop-i-test.false))
    c.loop-i.invariant
