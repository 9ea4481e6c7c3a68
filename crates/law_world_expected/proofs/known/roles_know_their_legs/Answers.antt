use Rattle.law_world_expected.proofs.known.roles_know_their_legs.Goals as goal

pub returns : goal.returns
returns c = record {
  roles = record {
    in_pipes = c.proxies_keep_their_pipes.ensures.in_proxy;
    out_pipes = c.proxies_keep_their_pipes.ensures.out_proxy;
    in_unused = c.a_leg_that_an_in_proxy_left_stays_unused.ensures;
    out_unused = c.a_leg_that_an_out_proxy_left_stays_unused.ensures;
    server_refuses = c.an_end_never_refuses.ensures.server;
    server_unused = c.a_leg_that_a_server_left_stays_unused.ensures.calls;
    in_legs = λ config. record {
      comes = c.an_in_proxys_leg_comes_up_once.ensures.comes config;
      once = c.an_in_proxys_leg_comes_up_once.ensures.once config;
    };
    out_legs = λ config. record {
      comes = c.an_out_proxys_leg_comes_up_once.ensures.comes config;
      once = c.an_out_proxys_leg_comes_up_once.ensures.once config;
    };
    server_legs = λ window. record {
      comes = c.a_servers_leg_comes_up_once.ensures.comes window;
      once = c.a_servers_leg_comes_up_once.ensures.once window;
    };
    asks = c.a_client_asks_by_its_requests.ensures;
    in_request = c.texts_are_whole.ensures.in_request;
    out_request = c.texts_are_whole.ensures.out_request;
  };
  client = record {
    refuses = c.an_end_never_refuses.ensures.client;
    unused = c.a_leg_that_a_client_left_stays_unused.ensures.calls;
    legs = λ config. record {
      comes = c.a_clients_leg_comes_up_once.ensures.comes config;
      once = c.a_clients_leg_comes_up_once.ensures.once config;
    };
  };
}
