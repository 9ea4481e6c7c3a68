-- what is left to be done and reported is the rest of the whole
use Rattle.std.proofs.Common.{◌-◌}
use Rattle.rh_company.specs.Company.{rules_of}
use Rattle.rh_nodes.specs.Giving.{deeds_of}
use Rattle.rh_nodes.specs.Opening.{makers_of}
use Rattle.rh_nodes.specs.Settling.{round, rounds_from, settle}
use Rattle.rh_nodes.proofs.Settles.{Settles}
use Rattle.rh_nodes.proofs.nodes.Nodes.settle.Given as goal

abbrev pub invariant-rounds : goal.invariant-rounds
invariant-rounds g l =
    let r = rules_of g.K.Client.Role.rules g.K.Server.Role.rules g.K.InProxy.Role.rules
    g.K.OutProxy.Role.rules in
    let m = makers_of g.K.Cast.in_proxy g.K.Cast.out_proxy in
    let d = deeds_of g.K.Client.EndRole.acts g.K.Server.EndRole.acts in
    Settles (settle r m d l.rounds l.fn.self)
    (rounds_from (l.rounds - l.count) l.count (round r m d) l.self) l.fn.report l.report
