use Rattle.std.proofs.Common.{◌<◌, length, get_or, arith}
use Rattle.std.specs.Int.{IsInRange}
use Rattle.std.proofs.lemmas.Bool.Decides.{nat_tests}
use Rattle.rh_http.proofs.NumberLemmas.{read_below, read_more, read_whole, each_digit}
use Rattle.rh_http.proofs.numbers.read_length.Goals as goal

pub returns-then-not-is_ascii_digit : goal.returns-then-not-is_ascii_digit
returns-then-not-is_ascii_digit c = λ n h.
    let digit = each_digit c.args.text.now n c.loop-place.place h c.loop-place-test.true in
    grind (
      arith,
      nat_tests,
      digit.0,
      digit.1,
      c.is_ascii_digit.ensures.value,
      c.if-not-is_ascii_digit.true,
    )

pub with_digit-number-requires-clause-number : goal.with_digit-number-requires-clause-number
with_digit-number-requires-clause-number c =
    read_below c.args.text.now c.loop-place.place c.loop-place.number c.loop-place-test.true
    c.if-text-gt-MOST_DIGITS.false c.loop-place.invariant

pub loop-place-preserved : goal.loop-place-preserved
loop-place-preserved c =
    let digit : IsInRange 48 57 (get_or c.args.text.now c.loop-place.place 0) =
    grind (arith, nat_tests, c.is_ascii_digit.ensures.value, c.if-not-is_ascii_digit.false) in
    read_more c.args.text.now c.loop-place.place c.loop-place.number c.with_digit-number.result
    c.loop-place-test.true c.loop-place.invariant digit c.with_digit-number.ensures

pub returns : goal.returns
returns c =
    let some : 0 < length c.args.text.now =
    grind (arith, nat_tests, c.is_empty.ensures, c.if-is_empty.false) in
    read_whole c.args.text.now c.loop-place.place c.loop-place.number some
    c.if-text-gt-MOST_DIGITS.false
    c.loop-place-test.false c.loop-place.invariant
