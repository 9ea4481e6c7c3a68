use Rattle.law_shares.proofs.Ones.{ones-are-those}
use Rattle.law_shares.proofs.laws.ones_are_those.Goals as goal

pub returns : goal.returns
returns g c = λ next reply first history before own behind test dealt fail_before fail_behind.
    ones-are-those next reply first history test c.own_are_those.ensures before own behind dealt
    fail_before fail_behind
