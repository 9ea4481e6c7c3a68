-- what is left gives the same number
use Rattle.std.proofs.Common.{◌≡◌, drop}
use Rattle.rh_company.specs.Cookies.{past}
use Rattle.rh_company.proofs.cookies.past_others.Given as goal

abbrev pub invariant-others : goal.invariant-others
invariant-others l =
    past l.others (drop l._at l.others) l.past ≡ past l.others l.others l.number
