-- the ends are told one after the other
use Rattle.std.proofs.Common.{◌≤◌, inl, length, refl, arith}
use Rattle.rh_role_words.specs.Tellings.{IsToldOf}
use Rattle.rh_role_words.proofs.Tellings.{alike_are, done_where, tells, told_all, told_next}
use Rattle.rh_role_words.proofs.status.status_of_ends.Goals as goal

pub loop-end-init : goal.loop-end-init
loop-end-init c = inl (tt, refl)

pub loop-end-preserved : goal.loop-end-preserved
loop-end-preserved c =
    told_next c.args.ends.now c.loop-end.end-index _ c.loop-end.first _ c.loop-end-test.true
    c.or-first.ensures.told c.loop-end.invariant

pub returns : goal.returns
returns c =
    let ends = c.args.ends.now in
    let first = c.loop-end.first in
    let over : length ends ≤ c.loop-end.end-index = omega (arith, c.loop-end-test.false) in
    let told : IsToldOf ends first = told_all ends c.loop-end.end-index first over
    c.loop-end.invariant in
    record {
      told_of_all = tells ends first c.from.result c.from.ensures told;
      done = done_where ends first c.from.result c.from.ensures told;
      alike = alike_are ends first c.from.result c.from.ensures told;
    }
