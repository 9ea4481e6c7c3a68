use Rattle.law_order.proofs.Vocabulary.{◌≡◌, sym, subst}
use Rattle.rh_line.specs.declared.cause.Cause.TheVariants as cause
use Rattle.law_moves.proofs.Vocabulary.{FLOW_CONTROL_ACK}
use Rattle.law_node_history.proofs.Vocabulary.{Who, reader_of, receiver, at, events_of, heard_on, IsFed, noted}
use Rattle.law_node_traces.proofs.Vocabulary.{history_at}
use Rattle.law_world_honest.proofs.Honesty.BadHeads.{no_bad_head}
use Rattle.law_world_honest.proofs.Honesty.Closing.{EachRefuses, by_fed, each_of, of_acknowledgement, of_rules}
use Rattle.law_world_honest.proofs.Honesty.Fed.{told_who}
use Rattle.law_world_honest.proofs.honest.worlds.no_change_closes_a_node_for_bad_bytes.Goals as goal
use Rattle.law_world_honest.specs.Honesty.Honest.{IsOfNode}

pub returns-clause-frame : goal.returns-clause-frame
returns-clause-frame g c = λ m w new ours ranges v by change node leg place fault may is.
    let why = cause.BadFrame leg place fault in
    by_fed v node why ⊥ (λ on dir count fed closes.
    of_rules node on dir _ why ⊥ (λ S its bad. bad)
    (c.what_is_fed_closes_for_the_role.ensures m w new ours ranges v by on dir count node why fed
    closes))
    (each_of c.causes_come_from_their_events.ensures c.causes_come_from_their_events-2.ensures
    c.causes_come_from_their_events-3.ensures c.causes_come_from_their_events-4.ensures)
    change may is (λ S rules shell comes. comes)

pub returns-clause-packet : goal.returns-clause-packet
returns-clause-packet g c = λ m w new ours ranges v by change node leg place fault may is.
    let why = cause.BadPacket leg place fault in
    by_fed v node why ⊥ (λ on dir count fed closes.
    of_rules node on dir _ why ⊥ (λ S its bad. bad)
    (c.what_is_fed_closes_for_the_role.ensures m w new ours ranges v by on dir count node why fed
    closes))
    (each_of c.causes_come_from_their_events.ensures c.causes_come_from_their_events-2.ensures
    c.causes_come_from_their_events-3.ensures c.causes_come_from_their_events-4.ensures)
    change may is (λ S rules shell comes. comes)

pub returns-clause-range : goal.returns-clause-range
returns-clause-range g c = λ m w new ours ranges v by change node leg command value may is.
    let why = cause.OutOfRange leg command value in
    let rows : EachRefuses = record {
      client = c.rows_refuse_values_of_acknowledgements.ensures.client;
      server = c.rows_refuse_values_of_acknowledgements.ensures.server;
      ins = c.rows_refuse_values_of_acknowledgements.ensures.in_proxy;
      outs = c.rows_refuse_values_of_acknowledgements.ensures.out_proxy;
    } in
    by_fed v node why (command ≡ FLOW_CONTROL_ACK) (λ on dir count fed closes.
    of_acknowledgement rows node on dir _ leg command value
    (c.what_is_fed_closes_for_the_role.ensures m w new ours ranges v by on dir count node why fed
    closes))
    (each_of c.causes_come_from_their_events.ensures c.causes_come_from_their_events-2.ensures
    c.causes_come_from_their_events-3.ensures c.causes_come_from_their_events-4.ensures)
    change may is (λ S rules shell comes. comes)

pub returns-clause-head : goal.returns-clause-head
returns-clause-head g c = λ m w new ours ranges port v by change node leg place fault may is.
    let why = cause.BadHead leg place fault in
    by_fed v node why ⊥ (λ on dir count fed closes.
    let heard = heard_on on (events_of (noted v (history_at m w v by.leads) (IsFed on dir count))
    (at v on (receiver dir))) in
    no_bad_head (reader_of v.readers on.number) on.number on.kind dir heard leg place fault
    (c.heads_that_are_heard_break_no_rule.ensures m w new ours ranges port v by
    (IsFed on dir count) fed on dir)
    (subst (λ (x : Who). IsOfNode x on dir heard why) (sym (told_who _ _ _ _ closes.told))
    (c.what_is_fed_closes_for_the_role.ensures m w new ours ranges v by on dir count node why fed
    closes)))
    (each_of c.causes_come_from_their_events.ensures c.causes_come_from_their_events-2.ensures
    c.causes_come_from_their_events-3.ensures c.causes_come_from_their_events-4.ensures)
    change may is (λ S rules shell comes. comes)
