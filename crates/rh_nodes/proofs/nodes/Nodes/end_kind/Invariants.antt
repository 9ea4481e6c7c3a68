-- what was done at the numbers so far was reported
use Rattle.rh_company.specs.Company.{rules_of}
use Rattle.rh_nodes.specs.Reports.{each}
use Rattle.rh_nodes.specs.Settling.{end_one, leg_at}
use Rattle.rh_nodes.proofs.Told.{Reached}
use Rattle.rh_nodes.proofs.nodes.Nodes.end_kind.Given as goal

abbrev pub invariant-legs : goal.invariant-legs
invariant-legs g l =
    Reached (each l.number (λ number. end_one
    (rules_of g.K.Client.Role.rules g.K.Server.Role.rules g.K.InProxy.Role.rules
    g.K.OutProxy.Role.rules)
    (leg_at l.fn.kind number)) l.fn.self) l.self l.fn.report l.report
