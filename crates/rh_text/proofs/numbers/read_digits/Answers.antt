use Rattle.std.proofs.Common.{subst}
use Rattle.std.proofs.Math.Seq.{drop-cons}
use Rattle.rh_text.proofs.Decimals.{IsRead, read_stop}
use Rattle.rh_text.proofs.numbers.read_digits.Goals as goal

pub returns-in_default : goal.returns-in_default
returns-in_default c =
    let p = c.loop-digit in
    let here = subst (IsRead c.args.text.now p.number)
    (drop-cons c.args.text.now p.digit-index 0 c.loop-digit-test.true) p.invariant in
    read_stop c.args.text.now p.number _ _ c.in_default.ensures here
