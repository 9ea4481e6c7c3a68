use Rattle.law_node_traces.proofs.Vocabulary.{history_at}
use Rattle.law_world_honest.proofs.WorldAsked.Expecting.{flow_expects}
use Rattle.law_world_honest.proofs.world_asked.expects.an_out_proxy_of_a_world_expects_its_client.Goals as goal

pub returns : goal.returns
returns g c = λ m w new ours port v by flowing n end going at frames.
    let h = history_at m w v by.leads in
    flow_expects ours.config h.client flowing.flows.client (ours.out_config n) n
    (ours.out_number n) (h.outs n) (flowing.flows.outs n)
    (c.an_out_proxy_hears_its_clients_request.ensures.read m w new ours port v by flowing n)
    (c.frames_come_to_an_out_proxy_behind_a_request.ensures m w new ours v by n end going at
    frames)
    c.a_client_opens_out_channels_in_order.ensures c.what_an_out_proxy_refuses.ensures
