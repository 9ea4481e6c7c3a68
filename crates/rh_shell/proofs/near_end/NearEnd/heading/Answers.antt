use Rattle.std.proofs.Common.{ap}
use Rattle.rh_shell.specs.NearEnds.{NearEnd}
use Rattle.rh_shell.specs.Hearing.{heading}
use Rattle.rh_shell.proofs.near_end.NearEnd.heading.Goals as goal

pub returns : goal.returns
returns c = ap (λ (e : NearEnd). heading e e.intake.place) c.self.view_is
