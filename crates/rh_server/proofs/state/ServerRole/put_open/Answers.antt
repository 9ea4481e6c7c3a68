use Rattle.std.proofs.Common.{sym, ◌∙◌}
use Rattle.rh_server.specs.States.{is_open}
use Rattle.rh_server.specs.Putting.{next_out}
use Rattle.rh_server.proofs.Picks.{settled_put}
use Rattle.rh_server.proofs.state.ServerRole.put_open.Goals as goal

pub returns-then-next_out : goal.returns-then-next_out
returns-then-next_out c =
    settled_put c.args.self.now c.next_out.new.self c.settle.new.self c.next_out.new.begun
    (next_out c.args.self.now c.args.place) (is_open c.args.self.now.stage)
    c.next_out.ensures.put (sym c.next_out.ensures.told ∙ c.if-next_out.true) c.settle.ensures
    (sym c.is_open.ensures ∙ c.if-is_open.true)
