-- the cookie that was drawn
use Rattle.std.proofs.Common.{◌≡◌, OnOk, ap, ◌∙◌, subst}
use Rattle.rh_rts.specs.declared.command.Cookie.{Cookie}
use Rattle.rh_company.specs.Company.{rules_of}
use Rattle.rh_company.specs.Cookies.{Cookies, draw}
use Rattle.rh_nodes.specs.Opening.{connect_with}
use Rattle.rh_nodes.specs.World.{World}
use Rattle.rh_nodes.proofs.nodes.Nodes.connect_client.Goals as goal

pub returns : goal.returns
returns g c =
    let r = rules_of g.K.Client.Role.rules g.K.Server.Role.rules g.K.InProxy.Role.rules
    g.K.OutProxy.Role.rules in
    let w = c.args.self.now in
    let drawn = c.draw-cookie.ensures
    ∙ ap (λ (v : World _ _ _ _ _). draw v.cookies) c.self.view_is in
    let here = subst (λ (v : World _ _ _ _ _). OnOk c.connect.result
    (c.connect.new.self ≡ connect_with r v c.args.leg
    (c.draw-cookie.new.self, c.draw-cookie.result)))
    c.self.view_is c.connect.ensures in
    subst (λ (d : Cookies × Cookie). OnOk c.connect.result
    (c.connect.new.self ≡ connect_with r w c.args.leg d)) drawn here
