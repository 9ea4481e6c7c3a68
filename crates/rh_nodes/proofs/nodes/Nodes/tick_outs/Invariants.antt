-- the proxies so far were told
use Rattle.std.proofs.Common.{◌≡◌}
use Rattle.rh_record.specs.declared.answer.Who.TheVariants as who
use Rattle.rh_company.specs.Company.{rules_of}
use Rattle.rh_nodes.specs.Time.{for_each}
use Rattle.rh_nodes.specs.World.{tell}
use Rattle.rh_nodes.proofs.nodes.Nodes.tick_outs.Given as goal

abbrev pub invariant-outs : goal.invariant-outs
invariant-outs g l =
    l.self ≡ for_each l.number (λ number world. tell
    (rules_of g.K.Client.Role.rules g.K.Server.Role.rules g.K.InProxy.Role.rules
    g.K.OutProxy.Role.rules)
    world (who.Out number) l.event) l.fn.self
