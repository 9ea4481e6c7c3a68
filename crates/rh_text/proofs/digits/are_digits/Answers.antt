use Rattle.rh_text.proofs.HexDigits.{digits_more}
use Rattle.rh_text.proofs.digits.are_digits.Goals as goal

pub loop-digit-preserved : goal.loop-digit-preserved
loop-digit-preserved c =
    let l = c.loop-digit in
    rw c.is_ascii_hexdigit-all.ensures.value
    (digits_more l.all c.args.text.now l.digit-index c.loop-digit-test.true l.invariant)
