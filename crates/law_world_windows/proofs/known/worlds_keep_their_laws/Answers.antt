use Rattle.law_node_traces.proofs.Vocabulary.{deeds, rules}
use Rattle.law_world_windows.proofs.known.worlds_keep_their_laws.Goals as goal

pub returns : goal.returns
returns g c = λ m w new ours ranges. record {
  known = λ u leads. c.a_recording_of_roles_is_known.ensures.changes m w u new ours leads;
  flowing = c.what_is_put_is_legible.ensures m w new ours ranges;
  well = c.what_is_heard_reads_well.ensures m w new ours ranges;
  before = c.what_is_heard_was_drawn_before.ensures rules m deeds w.company;
  drawn = c.what_is_heard_was_drawn.ensures rules m deeds w.company;
}
