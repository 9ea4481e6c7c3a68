use Rattle.std.proofs.Common.{ap, sym, ◌∙◌}
use Rattle.std.specs.declared.option.Option.{Option}
use Rattle.rh_shell.specs.declared.due.Due.{Due}
use Rattle.rh_server.proofs.Picks.{waited}
use Rattle.rh_server.proofs.state.ServerRole.put_waiting.Goals as goal

pub returns-clause-put : goal.returns-clause-put
returns-clause-put c =
    waited _ c.args.self.now c.args.place c.gate-gate.result c.take.new.self c.in-Some.due
    c.was_put.new.self c.begin_packet.new.self c.self.view_is c.gate-gate.ensures
    (ap (λ (o : Option Due). (c.take.new.self, o)) (sym c.in-Some.is) ∙ c.take.ensures.taken)
    c.was_put.ensures c.begin_packet.ensures
