-- answers behind others come to what they come to together
use Rattle.std.proofs.Common.{◌≡◌, ℕ, ◌+◌, List, ◌++◌, arith, refl, sym, ◌∙◌, ap}
use Rattle.std.proofs.lemmas.List.Sums.{sum_by-append}
use Rattle.std.proofs.lemmas.Bool.Decides.{nat_tests}
use Rattle.std.specs.List.{sum_by}
use Rattle.rh_pdu.specs.Feeding.{capped}
use Rattle.rh_record.specs.declared.answer.Answer.{Answer}
use Rattle.rh_made.specs.Sums.{bytes_of, rounds_of}
use Rattle.rh_made.specs.Tallies.{tally_of, with}

capped_more : (a b : ℕ) → capped (capped a + b) ≡ capped (a + b)
capped_more a b = grind (arith, nat_tests)

counted : (f : Answer → ℕ) (front more : List Answer)
    → capped (capped (sum_by f front) + sum_by f more) ≡ capped (sum_by f (front ++ more))
counted f front more =
    capped_more (sum_by f front) (sum_by f more) ∙ ap capped (sym (sum_by-append f front more))

pub tallied : (front more : List Answer) → with (tally_of front) more ≡ tally_of (front ++ more)
tallied front more = rw (counted bytes_of front more, counted rounds_of front more) refl
