-- nothing is in flight
use Rattle.std.proofs.Common.{sym, ap, ◌∙◌}
use Rattle.rh_wires.specs.Legs.{is_clear}
use Rattle.rh_company.specs.Company.{rules_of}
use Rattle.rh_nodes.specs.World.{World}
use Rattle.rh_nodes.proofs.NoBytes.{carry_clear}
use Rattle.rh_nodes.proofs.nodes.Nodes.carry_bytes.Goals as goal

pub returns-then-is_clear : goal.returns-then-is_clear
returns-then-is_clear g c =
    let r = (rules_of g.K.Client.Role.rules g.K.Server.Role.rules g.K.InProxy.Role.rules
    g.K.OutProxy.Role.rules) in
    let view = ap (λ (w : World _ _ _ _ _). is_clear c.args.leg c.args.dir w.legs) c.self.view_is in
    carry_clear r c.args.leg c.args.dir c.args.self.now c.send.new.self c.in_ok-send.field-0
    c.in_ok-send.ensures (sym view ∙ sym c.is_clear.ensures ∙ c.if-is_clear.true)
