-- one address more
use Rattle.std.proofs.Common.{arith, subst}
use Rattle.rh_role_words.specs.declared.addresses.HostPort.{HostPort}
use Rattle.rh_role_words.specs.Making.{Names}
use Rattle.rh_role_words.proofs.Naming.{first_named, one_named_more}
use Rattle.rh_role_words.proofs.addresses.HostPorts.addresses.Goals as goal

pub loop-at-init : goal.loop-at-init
loop-at-init c =
    first_named c.new-addresses.result.items _ _ _ c.new-addresses.ensures.items
    c.in_ok-push.ensures.items (c.address.ensures.host, c.address.ensures.port)

pub loop-at-preserved : goal.loop-at-preserved
loop-at-preserved c =
    one_named_more _ _ c.args.self.now.first c.args.self.now.more.items c.loop-at.at
    c.index.result.now c.address-in-loop-at.result
    (omega (arith, c.loop-at-test.true, c.len-at-end.ensures, c.args.self.now.more.ok.0))
    c.loop-at.invariant
    (subst (λ (at : HostPort). Names c.address-in-loop-at.result at) c.index.ensures
    (c.address-in-loop-at.ensures.host, c.address-in-loop-at.ensures.port))
    c.in_ok-push-2.ensures.items
