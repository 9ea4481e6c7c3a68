use Rattle.law_peers_forwarding.proofs.out_proxies.an_out_proxy_has_room.Goals as goal

pub returns : goal.returns
returns c numbers reader moves moment lifetimes n =
    c.an_out_proxy_has_room_to_forward.ensures numbers reader moves moment.now.made
    moment.now.joined n
    (c.a_server_acknowledges_few_between_answers.ensures numbers reader moves moment lifetimes n)
