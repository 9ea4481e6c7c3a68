use Rattle.std.proofs.Common.{sym, ap, ◌∙◌, arith}
use Rattle.rh_shell.specs.Shells.{is_at}
use Rattle.rh_shell.proofs.Places.{at_here, at_behind, at_end}
use Rattle.rh_shell.proofs.shell.place.Goals as goal

pub returns-then-is_at : goal.returns-then-is_at
returns-then-is_at c =
    let test = is_at c.args.leg in
    let here = at_here test c.args.legs.now c.loop-i.i c.index-legs-i.result c.loop-i-test.true
    (ap test (sym c.index-legs-i.is) ∙ sym c.is_at.ensures ∙ c.if-is_at.true) in
    omega (arith, here, c.loop-i.invariant)

pub loop-i-preserved : goal.loop-i-preserved
loop-i-preserved c =
    let test = is_at c.args.leg in
    let behind = at_behind test c.args.legs.now c.loop-i.i c.index-legs-i.result c.loop-i-test.true
    (ap test (sym c.index-legs-i.is) ∙ sym c.is_at.ensures ∙ c.if-is_at.false) in
    omega (arith, behind, c.loop-i.invariant)

pub returns : goal.returns
returns c =
    let test = is_at c.args.leg in
    let last = at_end test c.args.legs.now c.loop-i.i c.loop-i-test.false in
    omega (arith, last, c.loop-i.invariant, c.loop-i.auto.i-end)
