use Rattle.law_world_windows.proofs.known.hops_keep_their_laws.Goals as goal

pub returns : goal.returns
returns c = record {
  nodes = c.nodes_keep_their_laws.ensures;
  readings = c.what_was_put_reads_back.ensures;
  server_receives = c.a_server_receives_within_its_window.ensures.refused;
  server_sends = c.a_server_sends_within_the_proxys_window.ensures;
  in_sends = c.an_in_proxy_sends_within_the_servers_window.ensures;
  out_receives = c.an_out_proxy_receives_within_its_window.ensures.refused;
  in_refuses = c.a_proxy_refuses_for_a_reason.ensures.in_proxy;
  out_refuses = c.a_proxy_refuses_for_a_reason.ensures.out_proxy;
}
