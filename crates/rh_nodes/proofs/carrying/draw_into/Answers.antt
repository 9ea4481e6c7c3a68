-- none were drawn
use Rattle.std.proofs.Common.{◌≡◌, ℕ, length, take, ap, arith}
use Rattle.rh_company.specs.Company.{rules_of, draw}
use Rattle.rh_nodes.proofs.NoBytes.{none_drawn}
use Rattle.rh_nodes.proofs.carrying.draw_into.Goals as goal

pub returns-then-count-eq0 : goal.returns-then-count-eq0
returns-then-count-eq0 g c =
    let r = (rules_of g.K.Client.Role.rules g.K.Server.Role.rules g.K.InProxy.Role.rules
    g.K.OutProxy.Role.rules) in
    let none : c.draw-count.result ≡ 0 = omega (arith, c.if-count-eq0.true) in
    none_drawn c.args.legs.now c.args.at.1 c.args.at.2
    (draw r c.args.company.now c.args.at.0 c.args.at.1 (length c.args.room.now))
    c.draw-count.new.self (take c.draw-count.result c.draw-count.new.room)
    c.draw-count.ensures.drawn (ap (λ (n : ℕ). take n c.draw-count.new.room) none)
