use Rattle.law_world_windows.proofs.known.a_node_keeps_its_laws.Goals as goal

pub returns : goal.returns
returns g c = record {
  cuts = c.cuts_change_nothing.ensures.bytes;
  stays = c.first_cause_is_kept.ensures;
  closed = c.a_node_closes_once.ensures.closed;
  again = c.a_node_closes_once.ensures.again;
  amiss = c.events_close_with_their_causes.ensures;
  comes = c.causes_come_from_their_events.ensures;
}
