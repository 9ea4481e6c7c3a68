use Rattle.law_node_traces.proofs.Vocabulary.{deeds, rules, history_at}
use Rattle.law_world_honest.proofs.Honesty.Drawn.{Texts, leg_well}
use Rattle.law_world_honest.proofs.honest.worlds.what_is_heard_reads_well.Goals as goal

pub returns : goal.returns
returns g c = λ m w new ours ranges v by change may leg dir.
    let texts : Texts = record {
      put = c.what_was_put_reads_well.ensures;
      refusals = λ well pipe refusal first. c.texts_read_well.ensures.head well pipe _ first
          (c.texts_are_whole.ensures.refusal refusal);
      client = c.what_a_client_puts_first_reads_well.ensures;
      server = c.what_a_server_puts_first_reads_well.ensures;
      in_server = c.what_an_in_proxy_puts_first_reads_well.ensures.server;
      in_client = c.what_an_in_proxy_puts_first_reads_well.ensures.client;
      out_server = c.what_an_out_proxy_puts_first_reads_well.ensures.server;
      out_client = c.what_an_out_proxy_puts_first_reads_well.ensures.client;
      in_refuses = c.a_proxy_refuses_for_a_reason.ensures.in_proxy;
      out_refuses = c.a_proxy_refuses_for_a_reason.ensures.out_proxy;
    } in
    let known = c.a_recording_of_roles_is_known.ensures.changes m w v new ours by.leads in
    let h = history_at m w v by.leads in
    leg_well texts m w v ours h (c.what_is_put_is_legible.ensures m w new ours ranges v by)
    v.readers leg dir _
    (c.what_is_heard_was_drawn_before.ensures rules m deeds w.company v h known.traced known.once
    change may leg dir)
