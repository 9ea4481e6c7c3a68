use Rattle.rh_record.specs.declared.answer.Who.TheVariants as who
use Rattle.law_moves.proofs.Vocabulary.{D, ClientOut}
use Rattle.law_node_history.proofs.Vocabulary.{leg_at}
use Rattle.law_node_traces.proofs.Vocabulary.{deeds, rules, history_at}
use Rattle.law_world_order.proofs.Heard.{as_first, from_out}
use Rattle.law_world_honest.proofs.WorldAsked.Named.{Texts, reads_named}
use Rattle.law_world_honest.proofs.world_asked.names.what_comes_to_a_client_has_a_name.Goals as goal

pub returns : goal.returns
returns g c = λ m w new ours ranges port v by change may n.
    let texts : Texts = record {
      put = c.what_was_put_reads_well.ensures;
      refusals = λ well pipe refusal first. c.texts_read_well.ensures.head well pipe _ first
          (c.texts_are_whole.ensures.refusal refusal);
      served = c.what_an_out_proxy_serves_reads_well.ensures;
    } in
    let known = c.a_recording_of_roles_is_known.ensures.changes m w v new ours by.leads in
    let h = history_at m w v by.leads in
    let leg = leg_at ClientOut n in
    let flowing = c.what_is_put_is_legible.ensures m w new ours ranges v by in
    reads_named texts (ours.out_config n) n (ours.out_number n) (h.outs n) (flowing.flows.outs n)
    (flowing.legible.outs n)
    (c.an_out_proxy_hears_its_clients_request.ensures.read m w new ours port v by flowing n) _
    (flowing.begun.out_client n) (flowing.begun.out_client_drew n)
    (from_out m w.company w.cast ours h n leg _
    (as_first m w v flowing.cast h (who.Out n) leg _
    (c.what_is_heard_was_drawn_before.ensures rules m deeds w.company v h known.traced known.once
    change may leg D)))
