use Rattle.std.proofs.Common.{refl, rules, arith}
use Rattle.rh_text.proofs.Decimals.{number_spelled, spelled_number}
use Rattle.rh_text.proofs.numbers.read_number.Goals as goal

pub returns-then-not-begins_well : goal.returns-then-not-begins_well
returns-then-not-begins_well c = λ number h.
    let is = number_spelled c.args.least c.args.most c.args.text.now number (omega arith) h in
    let well = c.begins_well.ensures.1 (is.some, is.lead) in
    search rules

pub returns-in_default : goal.returns-in_default
returns-in_default c = λ number h.
    let is = number_spelled c.args.least c.args.most c.args.text.now number (omega arith) h in
    omega (arith, c.in_default.ensures is.digits, is.value, c.ranges.most.fits, h.most)

pub returns-then-number-least : goal.returns-then-number-least
returns-then-number-least c = λ number h.
    let is = number_spelled c.args.least c.args.most c.args.text.now number (omega arith) h in
    let same = c.in-Some.ensures.1 in
    grind (arith, is.value, same, h.least, h.most, c.then-number-least.either)

pub returns : goal.returns
returns c =
    let well = c.if-not-begins_well.ensures.0 refl in
    record {
      digits = spelled_number c.args.text.now c.in-Some.number (omega arith) (record {
        some = well.0;
        digits = c.in-Some.ensures.0;
        value = c.in-Some.ensures.1;
        lead = well.1;
      });
      least = omega arith;
      most = omega arith;
    }
