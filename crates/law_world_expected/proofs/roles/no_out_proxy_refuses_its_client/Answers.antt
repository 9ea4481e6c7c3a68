use Rattle.law_world_expected.proofs.roles.no_out_proxy_refuses_its_client.Goals as goal

pub returns : goal.returns
returns g c = record {
  unexpected = λ m w new ours ranges port v by change may k n place.
      (c.no_node_refuses_what_it_expects.ensures.out_serving
      c.an_out_proxy_of_a_world_expects_its_client.ensures m w new ours ranges port v by k n).0 place
      change may;
  cookie = λ m w new ours ranges port v by change may k n expected got.
      (c.no_node_refuses_what_it_expects.ensures.out_serving
      c.an_out_proxy_of_a_world_expects_its_client.ensures m w new ours ranges port v by k n).1
      expected got change may;
}
