-- nodes can be made with those before this one, which are numbered from 1 on
use Rattle.std.proofs.Common.{◌≡◌}
use Rattle.rh_inproxy.specs.State.{IsConfig}
use Rattle.rh_role_words.specs.Making.{in_proxy_of, numbered}
use Rattle.rh_role_words.proofs.Each.{Each}
use Rattle.rh_role_words.proofs.configs.Limits.in_proxies.Given as goal

abbrev pub invariant-loop-before : goal.invariant-loop-before
invariant-loop-before l = record {
  can_make : Each IsConfig l.configs.items;
  each : l.configs.items ≡ numbered (in_proxy_of l.self) l.before;
}
