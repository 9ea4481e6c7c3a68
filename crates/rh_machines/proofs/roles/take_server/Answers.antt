use Rattle.std.proofs.Common.{rules}
use Rattle.rh_server.specs.Servers.{acts}
use Rattle.rh_machines.proofs.Taking.{taken_block}
use Rattle.rh_machines.proofs.roles.take_server.Goals as goal

pub returns-clause-taken : goal.returns-clause-taken
returns-clause-taken c =
    taken_block acts c.args.node.now _ _ _ _ _ c.take-answer.ensures.answer c.taken_len.ensures
    c.take-answer.ensures.room (search rules) (search rules)
