-- what was done at the numbers so far was reported
use Rattle.rh_line.specs.declared.leg.LegKind.TheVariants.{InServer}
use Rattle.rh_company.specs.Company.{rules_of}
use Rattle.rh_nodes.specs.Opening.{makers_of}
use Rattle.rh_nodes.specs.Reports.{each}
use Rattle.rh_nodes.specs.Settling.{open_next, leg_at}
use Rattle.rh_nodes.proofs.Told.{Reached}
use Rattle.rh_nodes.proofs.nodes.Nodes.open_in_servers.Given as goal

abbrev pub invariant-legs : goal.invariant-legs
invariant-legs g l =
    Reached (each l.number (λ number. open_next
    (rules_of g.K.Client.Role.rules g.K.Server.Role.rules g.K.InProxy.Role.rules
    g.K.OutProxy.Role.rules)
    (makers_of g.K.Cast.in_proxy g.K.Cast.out_proxy) (leg_at InServer number)) l.fn.self)
    l.self l.fn.report l.report
