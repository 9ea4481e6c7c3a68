use Rattle.rh_script.proofs.StepLaws.{no_up_leg, no_up_cookie}
use Rattle.rh_script.proofs.reading.read_up.Goals as goal

pub returns-in_err-leg-in-Some : goal.returns-in_err-leg-in-Some
returns-in_err-leg-in-Some c =
    rw c.from_residual-in_err-leg-in-Some.ensures
    (no_up_leg c.args.text.now _ _ c.in-Some.ensures c.in_err-leg-in-Some.ensures)

pub returns-in_err-cookie-in-Some : goal.returns-in_err-cookie-in-Some
returns-in_err-cookie-in-Some c =
    rw c.from_residual-in_err-cookie-in-Some.ensures
    (no_up_cookie c.args.text.now _ _ c.in-Some.ensures c.in_err-cookie-in-Some.ensures)
