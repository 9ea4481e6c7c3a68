-- four things, one after the other
use Rattle.rh_company.specs.Company.{rules_of}
use Rattle.rh_nodes.specs.Opening.{makers_of}
use Rattle.rh_nodes.specs.Settling.{open_client_outs, open_out_servers, open_client_ins, open_in_servers}
use Rattle.rh_nodes.proofs.Fours.{four_all, four_first, four_second, four_third}
use Rattle.rh_nodes.proofs.nodes.Nodes.open_all.Goals as goal

pub returns-in_err-open_client_outs : goal.returns-in_err-open_client_outs
returns-in_err-open_client_outs g c =
    let r = rules_of g.K.Client.Role.rules g.K.Server.Role.rules g.K.InProxy.Role.rules
    g.K.OutProxy.Role.rules in
    let m = makers_of g.K.Cast.in_proxy g.K.Cast.out_proxy in
    let w = c.args.self.now in
    four_first _ (open_client_outs r m w) (open_out_servers r m) (open_client_ins r m)
    (open_in_servers r m)
    c.from_residual.result _ _ _ _ _
    c.from_residual.ensures.1 c.in_err-open_client_outs.ensures

pub returns-in_err-open_out_servers : goal.returns-in_err-open_out_servers
returns-in_err-open_out_servers g c =
    let r = rules_of g.K.Client.Role.rules g.K.Server.Role.rules g.K.InProxy.Role.rules
    g.K.OutProxy.Role.rules in
    let m = makers_of g.K.Cast.in_proxy g.K.Cast.out_proxy in
    let w = c.args.self.now in
    four_second _ (open_client_outs r m w) (open_out_servers r m) (open_client_ins r m)
    (open_in_servers r m)
    c.from_residual-in_err-open_out_servers.result _ _ _ _ _ _ _
    c.from_residual-in_err-open_out_servers.ensures.1 c.in_ok-open_client_outs.ensures
    c.in_err-open_out_servers.ensures

pub returns-in_err-open_client_ins : goal.returns-in_err-open_client_ins
returns-in_err-open_client_ins g c =
    let r = rules_of g.K.Client.Role.rules g.K.Server.Role.rules g.K.InProxy.Role.rules
    g.K.OutProxy.Role.rules in
    let m = makers_of g.K.Cast.in_proxy g.K.Cast.out_proxy in
    let w = c.args.self.now in
    four_third _ (open_client_outs r m w) (open_out_servers r m) (open_client_ins r m)
    (open_in_servers r m)
    c.from_residual-in_err-open_client_ins.result _ _ _ _ _ _ _ _ _
    c.from_residual-in_err-open_client_ins.ensures.1 c.in_ok-open_client_outs.ensures
    c.in_ok-open_out_servers.ensures c.in_err-open_client_ins.ensures

pub returns : goal.returns
returns g c =
    let r = rules_of g.K.Client.Role.rules g.K.Server.Role.rules g.K.InProxy.Role.rules
    g.K.OutProxy.Role.rules in
    let m = makers_of g.K.Cast.in_proxy g.K.Cast.out_proxy in
    let w = c.args.self.now in
    four_all (open_client_outs r m w) (open_out_servers r m) (open_client_ins r m)
    (open_in_servers r m)
    c.open_in_servers.result _ _ _ _ _ _ _ _ _
    c.in_ok-open_client_outs.ensures c.in_ok-open_out_servers.ensures
    c.in_ok-open_client_ins.ensures c.open_in_servers.ensures
