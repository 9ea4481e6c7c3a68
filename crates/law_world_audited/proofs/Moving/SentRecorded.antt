-- what the answers of a recording tell moved is of what was put
use Rattle.law_order.proofs.Vocabulary.{List, ◌∷◌, true, sym, subst, IsPrefix}
use Rattle.rh_world.specs.Config.{AreInRange}
use Rattle.rh_world.specs.Roles as roles
use Rattle.law_node_history.proofs.Vocabulary.{Answer, Line, First, sender, Leads, drawn_by, end_node}
use Rattle.law_node_traces.proofs.Traced.ByChanges.{lines_by_changes}
use Rattle.law_node_traces.specs.Traced.Recordings.{IsKnown}
use Rattle.law_world_reports.proofs.Vocabulary.{AnyWorld, Before, Direct, Settings, Roles, WorldConfig, after, answers}
use Rattle.law_world_reports.specs.ToldHistories.{IsLedTo, history_of}
use Rattle.law_world_order.proofs.FirstTexts.Taken.{recorded_port}
use Rattle.law_world_order.proofs.Heard.{as_first}
use Rattle.law_world_order.proofs.Recorded.{in_range, ours}
use Rattle.law_world_order.specs.Pasts.{HasMoment}
use Rattle.law_world_audited.specs.Moving.Moved.{moved_on}
use Rattle.law_world_audited.specs.Moving.Sent.{TellsSent, TellsSentIn, TellsSentOf}
use Rattle.law_world_audited.specs.Moving.ToldMoves.{TellsMoves, TellsMovesIn, TellsMovesOf}
use Rattle.law_world_audited.proofs.Moving.SentOn.{MayRefuse, sends_put}

module _ (refusing : MayRefuse)
    (known : (config : WorldConfig) (world : roles.World)
    (leads : Leads roles.rules roles.makers roles.deeds (roles.begun config) world)
    → IsKnown roles.makers (roles.begun config) world leads)
    (moments : (config : WorldConfig) → AreInRange config → (world : roles.World)
    (by : IsLedTo config world)
    → HasMoment roles.makers (roles.begun config) (ours config) world
    (lines_by_changes roles.rules roles.makers roles.deeds (roles.begun config) world by)) where
  told_sent : (answered : List Answer) (world : roles.World) → TellsMoves answered world
      → TellsSent answered world
  told_sent answered world told =
      let config = told.config in
      let w = roles.begun config in
      let h = history_of config world told.by in
      let has = moments config told.ranges world told.by in
      let carried = (known config world told.by.leads).traced.carried in
      record {
        told = told;
        ours = ours config;
        ranges = in_range config told.ranges;
        port = recorded_port config;
        flowing = has.flowing;
        made = has.made;
        joined = has.joined;
        moment = has.moment;
        sent = λ leg dir pipe is.
            let puts = end_node world.readers leg (sender dir) in
            let bytes = moved_on leg dir answered in
            sends_put refusing roles.makers w world (ours config) h has.flowing world.readers leg
            dir pipe bytes is
            (as_first roles.makers w world has.flowing.cast h puts leg bytes
            (subst (λ bytes. IsPrefix bytes
            (drawn_by roles.rules roles.makers roles.deeds w.company world.cast h puts leg))
            (sym (told.moved leg dir)) (carried.each leg dir).wire.in_order));
      }

  sent_in : (answered : List Answer) (world : AnyWorld) → TellsMovesIn answered world
      → TellsSentIn answered world
  sent_in answered Before told = tt
  sent_in answered (Direct world) told = tt
  sent_in answered (Settings config) told = tt
  sent_in answered (Roles world) told = told_sent answered world told

  pub recording_sends : ((behind : List Line) → TellsMovesOf (First true ∷ behind))
      → (behind : List Line) → TellsSentOf (First true ∷ behind)
  recording_sends moves behind =
      sent_in (answers Before (First true ∷ behind)) (after Before (First true ∷ behind))
      (moves behind)
