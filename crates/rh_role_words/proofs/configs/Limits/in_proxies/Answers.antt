-- and with one more
use Rattle.std.proofs.Common.{◌+◌, arith, subst, sym}
use Rattle.rh_inproxy.specs.State.{IsConfig}
use Rattle.rh_role_words.specs.Making.{in_proxy_of}
use Rattle.rh_role_words.proofs.Each.{Each, each-more}
use Rattle.rh_role_words.proofs.Numbering.{one_numbered_more}
use Rattle.rh_role_words.proofs.configs.Limits.in_proxies.Goals as goal

pub loop-before-preserved : goal.loop-before-preserved
loop-before-preserved c =
    record {
      can_make = subst (Each IsConfig) (sym c.in_ok-push.ensures.items)
          (each-more IsConfig _ _ c.loop-before.invariant.can_make c.in_proxy.ensures.can_make);
      each = one_numbered_more (in_proxy_of c.args.self.now) c.loop-before.before
          (c.loop-before.before + 1) c.saturating_add.result c.loop-before.configs.items _
          c.in_proxy.result c.loop-before.invariant.each c.in_proxy.ensures.limits
          (omega (arith, c.saturating_add.ensures, c.loop-before-test.true, c.ranges.count))
          (omega arith) c.in_ok-push.ensures.items;
    }
