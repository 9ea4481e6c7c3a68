-- four things, one after the other
use Rattle.rh_line.specs.declared.leg.LegKind.TheVariants.{ClientOut, OutServer, ClientIn, InServer}
use Rattle.rh_company.specs.Company.{rules_of}
use Rattle.rh_nodes.specs.Settling.{end_kind}
use Rattle.rh_nodes.proofs.Fours.{four_all, four_first, four_second, four_third}
use Rattle.rh_nodes.proofs.nodes.Nodes.end_all.Goals as goal

pub returns-in_err-end_kind : goal.returns-in_err-end_kind
returns-in_err-end_kind g c =
    let r = rules_of g.K.Client.Role.rules g.K.Server.Role.rules g.K.InProxy.Role.rules
    g.K.OutProxy.Role.rules in
    let w = c.args.self.now in
    four_first _ (end_kind r ClientOut w) (end_kind r OutServer) (end_kind r ClientIn)
    (end_kind r InServer)
    c.from_residual.result _ _ _ _ _
    c.from_residual.ensures.1 c.in_err-end_kind.ensures

pub returns-in_err-end_kind-2 : goal.returns-in_err-end_kind-2
returns-in_err-end_kind-2 g c =
    let r = rules_of g.K.Client.Role.rules g.K.Server.Role.rules g.K.InProxy.Role.rules
    g.K.OutProxy.Role.rules in
    let w = c.args.self.now in
    four_second _ (end_kind r ClientOut w) (end_kind r OutServer) (end_kind r ClientIn)
    (end_kind r InServer)
    c.from_residual-in_err-end_kind-2.result _ _ _ _ _ _ _
    c.from_residual-in_err-end_kind-2.ensures.1 c.in_ok-end_kind.ensures c.in_err-end_kind-2.ensures

pub returns-in_err-end_kind-3 : goal.returns-in_err-end_kind-3
returns-in_err-end_kind-3 g c =
    let r = rules_of g.K.Client.Role.rules g.K.Server.Role.rules g.K.InProxy.Role.rules
    g.K.OutProxy.Role.rules in
    let w = c.args.self.now in
    four_third _ (end_kind r ClientOut w) (end_kind r OutServer) (end_kind r ClientIn)
    (end_kind r InServer)
    c.from_residual-in_err-end_kind-3.result _ _ _ _ _ _ _ _ _
    c.from_residual-in_err-end_kind-3.ensures.1 c.in_ok-end_kind.ensures c.in_ok-end_kind-2.ensures
    c.in_err-end_kind-3.ensures

pub returns : goal.returns
returns g c =
    let r = rules_of g.K.Client.Role.rules g.K.Server.Role.rules g.K.InProxy.Role.rules
    g.K.OutProxy.Role.rules in
    let w = c.args.self.now in
    four_all (end_kind r ClientOut w) (end_kind r OutServer) (end_kind r ClientIn)
    (end_kind r InServer)
    c.end_kind-4.result _ _ _ _ _ _ _ _ _
    c.in_ok-end_kind.ensures c.in_ok-end_kind-2.ensures c.in_ok-end_kind-3.ensures
    c.end_kind-4.ensures
