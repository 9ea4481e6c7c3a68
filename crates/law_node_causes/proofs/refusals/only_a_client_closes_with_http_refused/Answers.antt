use Rattle.rh_inproxy.specs.Machine as in_proxy
use Rattle.rh_outproxy.specs.Machine as out_proxy
use Rattle.law_node_causes.proofs.RoleRefusals.{client_closes, in_no_status, out_no_status, never_refused, server_never}
use Rattle.law_node_causes.proofs.refusals.only_a_client_closes_with_http_refused.Goals as goal

pub returns : goal.returns
returns c = record {
  client = client_closes;
  in_proxies = in_no_status;
  out_proxies = out_no_status;
  in_proxy = never_refused in_proxy.rules in_no_status;
  out_proxy = never_refused out_proxy.rules out_no_status;
  server = server_never;
}
