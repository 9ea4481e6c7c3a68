use Rattle.std.proofs.Common.{sym, ap, ◌∙◌, arith}
use Rattle.rh_shell.specs.Shells.{is_free}
use Rattle.rh_shell.proofs.Places.{at_here, at_behind, at_end}
use Rattle.rh_shell.proofs.shell.free_place.Goals as goal

pub returns-then-is_free : goal.returns-then-is_free
returns-then-is_free g c =
    let test = is_free g.R.Role.rules c.args.role.now c.args.kind in
    let here = at_here test c.args.legs.now c.loop-i.i c.index-legs-i.result c.loop-i-test.true
    (ap test (sym c.index-legs-i.is) ∙ sym c.is_free.ensures ∙ c.if-is_free.true) in
    omega (arith, here, c.loop-i.invariant)

pub loop-i-preserved : goal.loop-i-preserved
loop-i-preserved g c =
    let test = is_free g.R.Role.rules c.args.role.now c.args.kind in
    let behind = at_behind test c.args.legs.now c.loop-i.i c.index-legs-i.result c.loop-i-test.true
    (ap test (sym c.index-legs-i.is) ∙ sym c.is_free.ensures ∙ c.if-is_free.false) in
    omega (arith, behind, c.loop-i.invariant)

pub returns : goal.returns
returns g c =
    let test = is_free g.R.Role.rules c.args.role.now c.args.kind in
    let last = at_end test c.args.legs.now c.loop-i.i c.loop-i-test.false in
    omega (arith, last, c.loop-i.invariant, c.loop-i.auto.i-end)
