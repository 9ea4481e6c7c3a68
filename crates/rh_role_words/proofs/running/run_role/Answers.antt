-- nodes can be made with the configurations that were made, and there are so many
use Rattle.std.proofs.Common.{◌≤◌, subst, sym}
use Rattle.std.proofs.lemmas.Result.{IfOk-weaker}
use Rattle.rh_inproxy.specs.State.{IsConfig}
use Rattle.rh_outproxy.specs.declared.state.OutProxyConfig.{OutProxyConfig}
use Rattle.rh_window.specs.Sides.{IsWindow}
use Rattle.rh_sig.specs.Values.{IsLifetime, IsTimeout}
use Rattle.rh_role_words.specs.Making.{in_proxy_of, out_proxy_of}
use Rattle.rh_role_words.proofs.Each.{Each}
use Rattle.rh_role_words.proofs.Numbering.{all_numbered}
use Rattle.rh_role_words.proofs.Endings.{client_ran, in_proxy_ran, out_proxy_ran, server_ran}
use Rattle.rh_role_words.proofs.running.run_role.Goals as goal

pub run_nodes-requires-clause-configs : goal.run_nodes-requires-clause-configs
run_nodes-requires-clause-configs g c κs within =
    subst (Each IsConfig) (sym c.deref.ensures.value) c.in_ok-configs-in-InProxy.ensures.can_make

pub run_nodes-requires-in-OutProxy-clause-configs :
    goal.run_nodes-requires-in-OutProxy-clause-configs
run_nodes-requires-in-OutProxy-clause-configs g c κs within =
    subst (Each (λ (config : OutProxyConfig). (1 ≤ config.number) × IsWindow config.window
    × IsLifetime config.lifetime × IsTimeout config.timeout))
    (sym c.deref-in-OutProxy.ensures.value)
    c.in_ok-configs-in-OutProxy.ensures.can_make

pub returns-in-Client : goal.returns-in-Client
returns-in-Client g c = record {
  ran = IfOk-weaker c.run_client.result _ _
      (λ ran went. client_ran (record {
        counts = g.N.Net.counts;
        faults = g.K.Cookies.faults;
        answered = g.K.Cookies.answered;
      })
      (g.P.Spawner.faults c.args.spawner.now, g.P.Spawner.faults c.run_client.new.spawner)
      (g.P.Spawner.ran c.args.spawner.now, g.P.Spawner.ran c.run_client.new.spawner)
      c.args.outside ran c.args.form.now _ _ _ c.in-Client.is went) c.run_client.ensures.ran;
}

pub returns-in-InProxy : goal.returns-in-InProxy
returns-in-InProxy g c = record {
  ran = IfOk-weaker c.run_nodes.result _ _
      (λ ran went. in_proxy_ran (record {
        counts = g.N.Net.counts;
        faults = g.K.Cookies.faults;
        answered = g.K.Cookies.answered;
      })
      (g.P.Spawner.faults c.args.spawner.now, g.P.Spawner.faults c.run_nodes.new.spawner)
      (g.P.Spawner.ran c.args.spawner.now, g.P.Spawner.ran c.run_nodes.new.spawner)
      c.args.outside ran c.args.form.now _ _ _ c.in-InProxy.is
      (all_numbered (in_proxy_of c.args.running.limits) _ _ _ c.deref.ensures.value
      c.in_ok-configs-in-InProxy.ensures.each) went) c.run_nodes.ensures.went;
}

pub returns-in-OutProxy : goal.returns-in-OutProxy
returns-in-OutProxy g c = record {
  ran = IfOk-weaker c.run_nodes-in-OutProxy.result _ _
      (λ ran went. out_proxy_ran (record {
        counts = g.N.Net.counts;
        faults = g.K.Cookies.faults;
        answered = g.K.Cookies.answered;
      }) (
        g.P.Spawner.faults c.args.spawner.now,
        g.P.Spawner.faults c.run_nodes-in-OutProxy.new.spawner,
      )
      (g.P.Spawner.ran c.args.spawner.now, g.P.Spawner.ran c.run_nodes-in-OutProxy.new.spawner)
      c.args.outside ran c.args.form.now _ _ _ c.in-OutProxy.is
      (all_numbered (out_proxy_of c.args.running.limits) _ _ _ c.deref-in-OutProxy.ensures.value
      c.in_ok-configs-in-OutProxy.ensures.each) went) c.run_nodes-in-OutProxy.ensures.went;
}

pub returns : goal.returns
returns g c = record {
  ran = IfOk-weaker c.run_nodes-in-Server.result _ _
      (λ ran went. server_ran (record {
        counts = g.N.Net.counts;
        faults = g.K.Cookies.faults;
        answered = g.K.Cookies.answered;
      })
      (g.P.Spawner.faults c.args.spawner.now, g.P.Spawner.faults c.run_nodes-in-Server.new.spawner)
      (g.P.Spawner.ran c.args.spawner.now, g.P.Spawner.ran c.run_nodes-in-Server.new.spawner)
      c.args.outside ran c.args.form.now _ c.in-Server.is went) c.run_nodes-in-Server.ensures.went;
}
