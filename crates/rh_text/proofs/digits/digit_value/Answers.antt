use Rattle.std.proofs.Common.{◌<◌, ◌≤◌, get_or, ap, arith}
use Rattle.std.proofs.lemmas.Bool.Decides.{nat_tests}
use Rattle.hex.specs.Hex.{digit_or_error}
use Rattle.rh_text.proofs.Table.{table, digit_read, digit_refused}
use Rattle.rh_text.proofs.digits.digit_value.Goals as goal

pub returns-then-value-lt16 : goal.returns-then-value-lt16
returns-then-value-lt16 c =
    let small : get_or table c.args.digit 0 < 16 = grind (arith, nat_tests) in
    ap (digit_or_error c.args.digit c.args.place) (digit_read c.args.digit (omega arith) small)

pub returns-else-value-lt16 : goal.returns-else-value-lt16
returns-else-value-lt16 c =
    let big : 16 ≤ get_or table c.args.digit 0 = grind (arith, nat_tests) in
    let refused = digit_refused c.args.digit (omega arith) big in
    rw c.from.ensures (ap (digit_or_error c.args.digit c.args.place) refused)
