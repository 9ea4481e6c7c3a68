-- one call more of a seat
use Rattle.std.proofs.Common.{List, [], ◌∷◌, ◌++◌, refl, subst}
use Rattle.rh_turn.specs.Calls.{Acts}
use Rattle.rh_turn.specs.Values.{SeatValue}
use Rattle.rh_runs.specs.Runs.{Ran}

pub ran-more : {S E R : Type 0} (next : S → E → S) (reply : S → E → R) (first : S)
    (old mid now : SeatValue E) (calls : List (E × R)) (call : E × R)
    → Ran next reply first old mid calls
    → Acts next reply first call.0 call.1 mid now
    → Ran next reply first old now (calls ++ call ∷ [])
ran-more next reply first old mid now [] call same acts =
    (now, subst (λ s. Acts next reply first call.0 call.1 s now) same acts, refl)
ran-more next reply first old mid now (c ∷ calls) call ran acts =
    (ran.0, ran.1, ran-more next reply first ran.0 mid now calls call ran.2 acts)

-- what a seat did, and then did
pub ran-on : {S E R : Type 0} (next : S → E → S) (reply : S → E → R) (first : S)
    (old mid now : SeatValue E) (calls more : List (E × R))
    → Ran next reply first old mid calls
    → Ran next reply first mid now more
    → Ran next reply first old now (calls ++ more)
ran-on next reply first old mid now [] more same then =
    subst (λ s. Ran next reply first s now more) same then
ran-on next reply first old mid now (c ∷ calls) more ran then =
    (ran.0, ran.1, ran-on next reply first ran.0 mid now calls more ran.2 then)
