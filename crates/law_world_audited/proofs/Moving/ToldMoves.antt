-- the answers of a recording tell what its nodes were fed
use Rattle.law_order.proofs.Vocabulary.{◌≡◌, List, [], ◌∷◌, true, refl, sym, ◌∙◌, subst}
use Rattle.rh_world.specs.Config.{AreInRange, roles_config, with_number}
use Rattle.rh_world.specs.Roles as roles
use Rattle.law_node_history.proofs.Vocabulary.{Answer, Line, First, Set}
use Rattle.law_node_history.specs.Changes.{Leads}
use Rattle.law_node_traces.specs.Traced.Recordings.{IsKnown}
use Rattle.law_world_reports.proofs.Bounded.Reached.{behind_lines}
use Rattle.law_world_reports.proofs.Vocabulary.{AnyWorld, Before, Settings, Roles, WorldConfig, after, answers}
use Rattle.law_world_audited.specs.Moving.Moved.{moved_on}
use Rattle.law_world_audited.specs.Moving.ToldMoves.{TellsMoves, TellsMovesIn, TellsMovesOf}
use Rattle.law_world_audited.proofs.Moving.FedAtEnds.{fed_is}
use Rattle.law_world_audited.proofs.Moving.FedRounds.{step_goes}
use Rattle.law_world_audited.proofs.Moving.Feeding.{Feeds, dry_none, feeds_then, moved_append}

-- ---- lines behind each other

record IsBehind (lines : List Line) (w : roles.World) : Type 0 where
  v : roles.World
  is : after (Roles w) lines ≡ Roles v
  feeds : Feeds roles.rules roles.makers roles.deeds
      (λ leg dir. moved_on leg dir (answers (Roles w) lines)) w v

is_behind : (lines : List Line) (w : roles.World) → IsBehind lines w
is_behind [] w = record {
  v = w;
  is = refl;
  feeds = dry_none roles.rules roles.makers roles.deeds w;
}
is_behind (one ∷ lines) w =
    let did = roles.step one w in
    let rest = is_behind lines did.0 in
    let more = answers (Roles did.0) lines in
    let both = feeds_then roles.rules roles.makers roles.deeds (λ leg dir. moved_on leg dir did.1)
    (λ leg dir. moved_on leg dir more) w did.0 rest.v
    (step_goes roles.rules roles.makers roles.deeds one w) rest.feeds in
    record {
      v = rest.v;
      is = rest.is;
      feeds = record {
        by = both.by;
        drawn = both.drawn;
        fed = λ leg dir. moved_append leg dir did.1 more ∙ both.fed leg dir;
      };
    }

-- ---- recordings

module _ (known : (config : WorldConfig) (world : roles.World)
    (leads : Leads roles.rules roles.makers roles.deeds (roles.begun config) world)
    → IsKnown roles.makers (roles.begun config) world leads) where
  told_moves : (config : WorldConfig) → AreInRange config → (answered : List Answer)
      (world : roles.World)
      → Feeds roles.rules roles.makers roles.deeds (λ leg dir. moved_on leg dir answered)
      (roles.begun config) world
      → TellsMoves answered world
  told_moves config ranges answered world a = record {
    config = config;
    ranges = ranges;
    by = a.by;
    drawn = a.drawn;
    moved = λ leg dir.
        a.fed leg dir
        ∙ fed_is roles.rules roles.makers roles.deeds (roles.begun config) a.by.leads.changes _
        world.legs world.readers (known config world a.by.leads).traced.carried
        (λ node other. refl) leg dir;
  }

  begun_tells : (config : WorldConfig) → AreInRange config → (lines : List Line)
      → TellsMovesIn (answers (Roles (roles.begun config)) lines)
      (after (Roles (roles.begun config)) lines)
  begun_tells config ranges lines =
      let w = roles.begun config in
      let all = is_behind lines w in
      subst (λ (world : AnyWorld). TellsMovesIn (answers (Roles w) lines) world) (sym all.is)
      (told_moves config ranges (answers (Roles w) lines) all.v all.feeds)

  settings_tell : (lines : List Line) (config : WorldConfig) → AreInRange config
      → TellsMovesIn (answers (Settings config) lines) (after (Settings config) lines)
  settings_tell [] config ranges = tt
  settings_tell (Set key value ∷ lines) config ranges =
      settings_tell lines (with_number config key value)
      (behind_lines (Settings config) (Set key value ∷ []) ranges)
  settings_tell (line ∷ lines) config ranges = begun_tells config ranges (line ∷ lines)

  pub recording_moves : (behind : List Line) → TellsMovesOf (First true ∷ behind)
  recording_moves behind =
      settings_tell behind roles_config (behind_lines Before (First true ∷ []) tt)
