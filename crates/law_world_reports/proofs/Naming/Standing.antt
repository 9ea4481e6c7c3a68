-- what the law of closed ends stands on: a closed end tells its cause, and stays closed
use Rattle.law_order.proofs.Vocabulary.{◌≡◌, []}
use Rattle.law_moves.proofs.Vocabulary.{Cause}
use Rattle.law_node_history.proofs.Vocabulary.{Who, Client, Server, Line, Closing, Rulebook, Deeds, Makers, open_all, carry_all, end_all, step, step_line, World, Change, Works, GoesQuietly, Leads, MayChange, changed, ClientTells, HasClosed, IsOneOf, ServerTells}

pub record Stands {K C S I O : Type 0} (r : Rulebook C S I O) (m : Makers K I O) (d : Deeds C S)
    : Type 0 where
  pub client : (w : World K C S I O) (why : Cause) → HasClosed w.company Client why
      → ClientTells r d w why
  pub server : (w : World K C S I O) (why : Cause) → HasClosed w.company Server why
      → ServerTells r d w why
  pub change : (why : Cause) (node : Who) (w : World K C S I O) (change : Change)
      → HasClosed w.company node why → MayChange r w change
      → HasClosed (changed r m d w change).company node why
  pub ever : (why : Cause) (node : Who) (w v : World K C S I O) → Leads r m d w v
      → HasClosed w.company node why → HasClosed v.company node why
  pub opens : (w : World K C S I O) → GoesQuietly r m d w (open_all r m w)
  pub carries : (w : World K C S I O) → GoesQuietly r m d w (carry_all r w)
  pub ends : (w : World K C S I O) → GoesQuietly r m d w (end_all r w)
  pub line : (one : Line) (w : World K C S I O) → Leads r m d w (step r m d one w).0
  pub unreported : (one : Line) (w : World K C S I O) → Works r m d w (step_line r m d one w).0
  pub to_report : (w v : World K C S I O) → w.closed ≡ [] → Leads r m d w v → (x : Closing)
      → IsOneOf x v.closed → HasClosed v.company x.who x.cause
