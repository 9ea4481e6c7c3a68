use Rattle.std.proofs.Common.{sym, ◌∙◌}
use Rattle.rh_server.specs.States.{Server}
use Rattle.rh_server.specs.Putting.{put_waiting, put_pdu_or_end}
use Rattle.rh_server.proofs.Picks.{or_told, or_put}
use Rattle.rh_server.proofs.state.ServerRole.next_out.Goals as goal

pub returns-else-put_waiting-clause-told : goal.returns-else-put_waiting-clause-told
returns-else-put_waiting-clause-told c =
    or_told c.args.self.now c.put_waiting.new.self c.put_waiting.new.begun
    (put_waiting c.args.self.now c.args.place) (λ (s : Server). put_pdu_or_end s c.args.place)
    c.put_pdu_or_end.result c.put_waiting.ensures.put
    (sym c.put_waiting.ensures.told ∙ c.if-put_waiting.false) c.put_pdu_or_end.ensures.told

pub returns-else-put_waiting-clause-put : goal.returns-else-put_waiting-clause-put
returns-else-put_waiting-clause-put c =
    or_put c.args.self.now c.put_waiting.new.self c.put_pdu_or_end.new.self
    c.put_waiting.new.begun c.put_pdu_or_end.new.begun
    (put_waiting c.args.self.now c.args.place) (λ (s : Server). put_pdu_or_end s c.args.place)
    c.put_waiting.ensures.put (sym c.put_waiting.ensures.told ∙ c.if-put_waiting.false)
    c.put_pdu_or_end.ensures.put
