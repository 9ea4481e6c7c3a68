use Rattle.law_node_traces.proofs.Vocabulary.{deeds, rules, history_at}
use Rattle.law_world_honest.proofs.Honesty.FirstHeads.{Heads, head_read}
use Rattle.law_world_honest.proofs.honest.worlds.heads_that_are_heard_break_no_rule.Goals as goal

pub returns : goal.returns
returns g c = λ m w new ours ranges port v by change may leg dir text first.
    let heads : Heads = record {
      begins = c.a_client_begins_with_a_request.ensures;
      asks = c.a_client_asks_by_its_requests.ensures;
      in_requests = c.texts_are_whole.ensures.in_request;
      out_requests = c.texts_are_whole.ensures.out_request;
      responses = c.texts_are_whole.ensures.response;
      refusals = c.texts_are_whole.ensures.refusal;
    } in
    let known = c.a_recording_of_roles_is_known.ensures.changes m w v new ours by.leads in
    let h = history_at m w v by.leads in
    head_read heads m w v ours ranges port h
    (c.what_is_put_is_legible.ensures m w new ours ranges v by) v.readers leg dir _ text
    (c.what_is_heard_was_drawn_before.ensures rules m deeds w.company v h known.traced known.once
    change may leg dir) first
