-- the proxy was made, and may have the leg up
use Rattle.std.proofs.Common.{◌≡◌, true}
use Rattle.rh_shell.specs.Shells as shell
use Rattle.rh_company.specs.Company.{rules_of}
use Rattle.rh_nodes.proofs.Opened.{opened_in}
use Rattle.rh_nodes.proofs.nodes.Nodes.open_in_to_new.Goals as goal

pub returns : goal.returns
returns g c =
    let r = rules_of g.K.Client.Role.rules g.K.Server.Role.rules g.K.InProxy.Role.rules
    g.K.OutProxy.Role.rules in
    let leg = c.args.leg in
    let allowed = c.may_up.ensures in
    let free = c.if-not-may_up.false in
    let up : shell.may_up r.in_proxy c.in_ok-node.node leg ≡ true = cc in
    opened_in r g.K.Cast.in_proxy c.args.self.now c.make_in.new.self
    c.connect_client.new.self leg c.in_ok-node.node c.in_ok-node.ensures up
    c.in_ok-make_in.ensures c.in_ok-connect_client.ensures
