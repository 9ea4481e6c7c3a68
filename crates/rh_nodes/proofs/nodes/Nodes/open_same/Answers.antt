-- the client wants the leg, and the proxy before may have it up
use Rattle.std.proofs.Common.{◌≡◌, true, ap}
use Rattle.rh_record.specs.declared.answer.Who.TheVariants as who
use Rattle.rh_company.specs.Company as company
use Rattle.rh_company.specs.Company.{rules_of}
use Rattle.rh_nodes.specs.Opening.{is_client_in, may_open_same}
use Rattle.rh_nodes.specs.World.{World}
use Rattle.rh_nodes.proofs.Opened.{opened_same_to}
use Rattle.rh_nodes.proofs.nodes.Nodes.open_same.Goals as goal

pub returns : goal.returns
returns g c =
    let r = rules_of g.K.Client.Role.rules g.K.Server.Role.rules g.K.InProxy.Role.rules
    g.K.OutProxy.Role.rules in
    let w = c.args.self.now in
    let leg = c.args.leg in
    let told = c.is_client_in.ensures in
    let one = c.if-not-is_client_in.false in
    let kind : is_client_in leg.kind ≡ true = cc in
    let asked = c.wants.ensures in
    let yes = c.if-not-wants.false in
    let there = ap (λ (v : World _ _ _ _ _). company.wants r v.company who.Client leg)
    c.self.view_is in
    let wanted : company.wants r w.company who.Client leg ≡ true = cc in
    let looked = c.may_open_same.ensures in
    let free = c.if-not-may_open_same.false in
    let may : may_open_same r w leg ≡ true = cc in
    opened_same_to r w c.read_on.new.self c.connect_client.new.self leg kind wanted may
    c.in_ok-read_on.ensures c.in_ok-connect_client.ensures
