-- one end, and then the other
use Rattle.rh_nodes.specs.Settling.{take_one}
use Rattle.rh_text.specs.declared.ends.Side.TheVariants.{Client, Server}
use Rattle.rh_nodes.specs.Giving.{deeds_of}
use Rattle.rh_nodes.proofs.Told.{tells_then, tells_handed}
use Rattle.rh_nodes.proofs.nodes.Nodes.take_both.Goals as goal

pub returns-in_err-take_one : goal.returns-in_err-take_one
returns-in_err-take_one g c =
    let by = deeds_of g.K.Client.EndRole.acts g.K.Server.EndRole.acts in
    tells_handed _ (take_one by Client c.args.self.now) (take_one by Server) c.from_residual.result
    _ _ _ _ _
    c.from_residual.ensures.1 c.in_err-take_one.ensures

pub returns : goal.returns
returns g c =
    let by = deeds_of g.K.Client.EndRole.acts g.K.Server.EndRole.acts in
    tells_then (take_one by Client c.args.self.now) (take_one by Server) c.take_one-2.result
    c.take_one.new.self
    c.take_one-2.new.self c.args.report.now c.take_one.new.report c.take_one-2.new.report
    c.in_ok-take_one.ensures.world c.in_ok-take_one.ensures.report c.take_one-2.ensures
