use Rattle.std.proofs.Common.{ap, sym, ◌∙◌, refl, length, drop}
use Rattle.rh_shell.specs.Keeping.{room}
use Rattle.rh_shell.specs.Intakes.{counted}
use Rattle.rh_shell.specs.NearEnds.{NearEnd}
use Rattle.rh_shell.proofs.Scans.{passed_scanned}
use Rattle.rh_shell.proofs.Steps.{overrun_taken, shut_goes_on}
use Rattle.rh_shell.proofs.near_end.NearEnd.hear_next.Goals as goal

pub returns-in-PassedOver-clause-heard : goal.returns-in-PassedOver-clause-heard
returns-in-PassedOver-clause-heard g c =
    let e = c.args.self.now in
    let n = room (length c.args.piece.now) e.intake.body in
    overrun_taken g.R.Role.rules {end = e} {now = e} refl c.args.role.now c.args.piece.now
    (c.pass_over.new.self, c.pass_over.result.0, c.pass_over.result.1.now)
    (record e.intake { body = counted n e.intake.body }) (drop n c.args.piece.now)
    (c.pass_over.ensures.passed n refl)
    (passed_scanned e.intake c.args.piece.now n (ap (λ (x : NearEnd). x.intake.stage) (sym
    c.self.view_is) ∙ c.in-PassedOver.is) c.pass_over.ensures.within refl)

pub returns-in-Shut-clause-heard : goal.returns-in-Shut-clause-heard
returns-in-Shut-clause-heard g c =
    let e = c.args.self.now in
    shut_goes_on g.R.Role.rules {end = e} {now = e} refl c.args.role.now c.args.piece.now
    (ap (λ (x : NearEnd). x.intake.stage) (sym c.self.view_is) ∙ c.in-Shut.is)
