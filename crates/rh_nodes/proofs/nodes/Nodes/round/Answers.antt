-- four things, one after the other
use Rattle.rh_company.specs.Company.{rules_of}
use Rattle.rh_nodes.specs.Giving.{deeds_of}
use Rattle.rh_nodes.specs.Opening.{makers_of}
use Rattle.rh_nodes.specs.Settling.{open_all, carry_all, take_both, end_all}
use Rattle.rh_nodes.proofs.Fours.{four_all, four_first, four_second, four_third}
use Rattle.rh_nodes.proofs.nodes.Nodes.round.Goals as goal

pub returns-in_err-open_all : goal.returns-in_err-open_all
returns-in_err-open_all g c =
    let r = rules_of g.K.Client.Role.rules g.K.Server.Role.rules g.K.InProxy.Role.rules
    g.K.OutProxy.Role.rules in
    let m = makers_of g.K.Cast.in_proxy g.K.Cast.out_proxy in
    let d = deeds_of g.K.Client.EndRole.acts g.K.Server.EndRole.acts in
    let w = c.args.self.now in
    four_first _ (open_all r m w) (carry_all r) (take_both d) (end_all r)
    c.from_residual.result _ _ _ _ _
    c.from_residual.ensures.1 c.in_err-open_all.ensures

pub returns-in_err-carry_all : goal.returns-in_err-carry_all
returns-in_err-carry_all g c =
    let r = rules_of g.K.Client.Role.rules g.K.Server.Role.rules g.K.InProxy.Role.rules
    g.K.OutProxy.Role.rules in
    let m = makers_of g.K.Cast.in_proxy g.K.Cast.out_proxy in
    let d = deeds_of g.K.Client.EndRole.acts g.K.Server.EndRole.acts in
    let w = c.args.self.now in
    four_second _ (open_all r m w) (carry_all r) (take_both d) (end_all r)
    c.from_residual-in_err-carry_all.result _ _ _ _ _ _ _
    c.from_residual-in_err-carry_all.ensures.1 c.in_ok-open_all.ensures c.in_err-carry_all.ensures

pub returns-in_err-take_both : goal.returns-in_err-take_both
returns-in_err-take_both g c =
    let r = rules_of g.K.Client.Role.rules g.K.Server.Role.rules g.K.InProxy.Role.rules
    g.K.OutProxy.Role.rules in
    let m = makers_of g.K.Cast.in_proxy g.K.Cast.out_proxy in
    let d = deeds_of g.K.Client.EndRole.acts g.K.Server.EndRole.acts in
    let w = c.args.self.now in
    four_third _ (open_all r m w) (carry_all r) (take_both d) (end_all r)
    c.from_residual-in_err-take_both.result _ _ _ _ _ _ _ _ _
    c.from_residual-in_err-take_both.ensures.1 c.in_ok-open_all.ensures c.in_ok-carry_all.ensures
    c.in_err-take_both.ensures

pub returns : goal.returns
returns g c =
    let r = rules_of g.K.Client.Role.rules g.K.Server.Role.rules g.K.InProxy.Role.rules
    g.K.OutProxy.Role.rules in
    let m = makers_of g.K.Cast.in_proxy g.K.Cast.out_proxy in
    let d = deeds_of g.K.Client.EndRole.acts g.K.Server.EndRole.acts in
    let w = c.args.self.now in
    four_all (open_all r m w) (carry_all r) (take_both d) (end_all r)
    c.end_all.result _ _ _ _ _ _ _ _ _
    c.in_ok-open_all.ensures c.in_ok-carry_all.ensures c.in_ok-take_both.ensures c.end_all.ensures
