-- nodes can be made with those before this one, which are numbered from 1 on
use Rattle.std.proofs.Common.{◌≡◌, ◌≤◌}
use Rattle.rh_outproxy.specs.declared.state.OutProxyConfig.{OutProxyConfig}
use Rattle.rh_window.specs.Sides.{IsWindow}
use Rattle.rh_sig.specs.Values.{IsLifetime, IsTimeout}
use Rattle.rh_role_words.specs.Making.{numbered, out_proxy_of}
use Rattle.rh_role_words.proofs.Each.{Each}
use Rattle.rh_role_words.proofs.configs.Limits.out_proxies.Given as goal

abbrev pub invariant-loop-before : goal.invariant-loop-before
invariant-loop-before l = record {
  can_make : Each (λ (config : OutProxyConfig). (1 ≤ config.number) × IsWindow config.window
      × IsLifetime config.lifetime × IsTimeout config.timeout) l.configs.items;
  each : l.configs.items ≡ numbered (out_proxy_of l.self) l.before;
}
