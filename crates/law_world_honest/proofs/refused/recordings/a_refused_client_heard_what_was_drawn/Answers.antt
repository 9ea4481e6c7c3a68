use Rattle.law_order.proofs.Vocabulary.{refl}
use Rattle.law_moves.proofs.Vocabulary.{D, ClientIn, ClientOut}
use Rattle.law_node_history.proofs.Vocabulary.{leg_at}
use Rattle.law_node_traces.proofs.Vocabulary.{deeds, rules}
use Rattle.law_world_honest.proofs.Refusals.Drawn.{drawn_refused}
use Rattle.law_world_honest.proofs.refused.recordings.a_refused_client_heard_what_was_drawn.Goals as goal

pub returns : goal.returns
returns g c =
    let closed = c.what_a_client_holds_of_a_head.ensures.closed in
    let known = c.a_recording_of_roles_is_known.ensures.changes in
    record {
      out_leg = λ m w v new ours leads n status.
          drawn_refused closed known
          (λ m first w h traced leg.
          c.what_is_heard_was_drawn.ensures rules m deeds first w h traced leg D) m w v new ours
          leads (leg_at ClientOut n) status refl;
      in_leg = λ m w v new ours leads n status.
          drawn_refused closed known
          (λ m first w h traced leg.
          c.what_is_heard_was_drawn.ensures rules m deeds first w h traced leg D) m w v new ours
          leads (leg_at ClientIn n) status refl;
    }
