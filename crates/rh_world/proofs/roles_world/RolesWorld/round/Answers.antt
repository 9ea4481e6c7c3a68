-- what is behind the pointer does the round
use Rattle.std.proofs.Common.{subst, ◌∙◌}
use Rattle.rh_nodes.specs.Reports.{Tells}
use Rattle.rh_world.specs.Roles as roles
use Rattle.rh_world.proofs.roles_world.RolesWorld.round.Goals as goal

pub returns : goal.returns
returns c =
    subst (λ (world : roles.World). Tells (roles.round world) c.round.result c.round.new.self
    c.args.report.now c.round.new.report)
    (c.deref_mut.ensures.value ∙ c.self.view_is)
    c.round.ensures
