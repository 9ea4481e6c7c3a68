-- the digits before a place are read, and those from it on are left
use Rattle.std.proofs.Common.{drop}
use Rattle.rh_text.proofs.Decimals.{IsRead}
use Rattle.rh_text.proofs.numbers.read_digits.Given as goal

abbrev pub invariant-loop-digit : goal.invariant-loop-digit
invariant-loop-digit l = IsRead l.text l.number (drop l.digit-index l.text)
