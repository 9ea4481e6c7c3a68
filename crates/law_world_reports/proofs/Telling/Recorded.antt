-- a history of a recording that its answers tell
use Rattle.std.proofs.Common.{◌≡◌, ◌++◌, List, [], ◌∷◌, true, refl, sym, ap, ◌∙◌, subst}
use Rattle.rh_text.specs.declared.ends.Side.{Side}
use Rattle.rh_record.specs.declared.answer.Answer.{Answer}
use Rattle.rh_record.specs.declared.line.Line.{Line}
use Rattle.rh_record.specs.declared.line.Line.TheVariants.{First, Set}
use Rattle.rh_record.specs.Events.Events.{Event, events, offered}
use Rattle.law_node_history.specs.Histories.{nothing}
use Rattle.rh_world.specs.declared.any_world.AnyWorld.{AnyWorld}
use Rattle.rh_world.specs.declared.any_world.AnyWorld.TheVariants.{Before, Direct, Settings, Roles}
use Rattle.rh_world.specs.declared.config.WorldConfig.{WorldConfig}
use Rattle.rh_world.specs.Any.{after, answers}
use Rattle.rh_world.specs.Config.{AreInRange, roles_config, with_number}
use Rattle.rh_world.specs.Roles as roles
use Rattle.law_world_reports.specs.Telling.{Agrees}
use Rattle.law_world_reports.specs.ToldHistories.{HasTold, HasToldIn, TellsHistory, history_of}
use Rattle.law_world_reports.proofs.Bounded.Reached.{behind_lines}
use Rattle.law_world_reports.proofs.Telling.Adding.{Way, all_add_to, gains, passed}
use Rattle.law_world_reports.proofs.Telling.Lines.{step_tale}
use Rattle.law_world_reports.proofs.Telling.Parts.{events_append}
use Rattle.law_world_reports.proofs.Telling.Splits.{Whole, agrees, none_passed, whole}
use Rattle.law_world_reports.proofs.Telling.Tales.{Tale, idle_none, tale_append}

-- ---- worlds of roles

-- the world behind lines, and the tale of what they are answered
record IsTold (lines : List Line) (w : roles.World) : Type 0 where
  v : roles.World
  is : after (Roles w) lines ≡ Roles v
  tale : Tale roles.rules roles.makers roles.deeds w v (offered lines) []
      (events (answers (Roles w) lines))

is_told : (lines : List Line) (w : roles.World) → w.closed ≡ [] → IsTold lines w
is_told [] w none = record {
  v = w;
  is = refl;
  tale = (idle_none roles.rules roles.makers roles.deeds w, refl);
}
is_told (one ∷ lines) w none =
    let did = roles.step one w in
    let rest = is_told lines did.0 refl in
    record {
      v = rest.v;
      is = rest.is;
      tale = subst (λ (es : List Event). Tale roles.rules roles.makers roles.deeds w rest.v
          (offered (one ∷ lines)) [] es)
          (sym (events_append did.1 (answers (Roles did.0) lines)))
          (tale_append roles.rules roles.makers roles.deeds w did.0 rest.v
          (offered (one ∷ lines)) (offered lines) [] (events did.1)
          (events (answers (Roles did.0) lines))
          (step_tale roles.rules roles.makers roles.deeds one (offered lines) w none) rest.tale);
    }

abbrev pub told_by : (config : WorldConfig) → AreInRange config → (lines : List Line) (v : roles.World)
    (answered : List Answer)
    → Whole roles.rules roles.makers roles.deeds (roles.begun config) v (offered lines)
    (events answered)
    → HasTold lines answered v
told_by config ranges lines v answered all =
    let w = roles.begun config in
    let changes = all.lines.leads.changes in
    let h = history_of config v all.lines in
    let here : (way : Way) (end : Side)
    → passed roles.rules roles.deeds way w.company h end
    ≡ gains roles.rules roles.makers roles.deeds all.lines way end =
    λ way end. all_add_to roles.rules roles.makers roles.deeds way w.company w nothing changes end
    all.lines.leads.allowed (record { client = refl; server = refl })
    ∙ ap (λ front. front ++ gains roles.rules roles.makers roles.deeds all.lines way end)
    (none_passed roles.rules roles.makers roles.deeds way w.company end) in
    record {
      config = config;
      ranges = ranges;
      by = all.lines;
      agrees = agrees roles.rules roles.makers roles.deeds w.company h (offered lines)
          (events answered) (λ way end. sym (here way end ∙ all.gain way end));
    }

begun_tells : (config : WorldConfig) → AreInRange config → (lines : List Line)
    → HasToldIn lines (answers (Roles (roles.begun config)) lines)
    (after (Roles (roles.begun config)) lines)
begun_tells config ranges lines =
    let w = roles.begun config in
    let told = is_told lines w refl in
    let answered = answers (Roles w) lines in
    subst (λ (world : AnyWorld). HasToldIn lines answered world) (sym told.is)
    (told_by config ranges lines told.v answered
    (whole roles.rules roles.makers roles.deeds w told.v (offered lines) [] (events answered)
    told.tale))

-- ---- recordings

-- a line that offers nothing and is answered nothing
past : (line : Line) (lines : List Line) (answered : List Answer) (world : AnyWorld)
    → offered (line ∷ lines) ≡ offered lines → HasToldIn lines answered world
    → HasToldIn (line ∷ lines) answered world
past line lines answered Before same h = tt
past line lines answered (Direct w) same h = tt
past line lines answered (Settings config) same h = tt
past line lines answered (Roles w) same h = record {
  config = h.config;
  ranges = h.ranges;
  by = h.by;
  agrees = subst (λ pdus. Agrees roles.rules roles.deeds (roles.begun h.config).company
      (history_of h.config w h.by) pdus (events answered)) (sym same) h.agrees;
}

settings_tell : (lines : List Line) (config : WorldConfig) → AreInRange config
    → HasToldIn lines (answers (Settings config) lines) (after (Settings config) lines)
settings_tell [] config ranges = tt
settings_tell (Set key value ∷ lines) config ranges =
    let next = with_number config key value in
    past (Set key value) lines (answers (Settings next) lines) (after (Settings next) lines) refl
    (settings_tell lines next (behind_lines (Settings config) (Set key value ∷ []) ranges))
settings_tell (line ∷ lines) config ranges = begun_tells config ranges (line ∷ lines)

pub recording_tells : (behind : List Line) → TellsHistory (First true ∷ behind)
recording_tells behind =
    past (First true) behind (answers (Settings roles_config) behind)
    (after (Settings roles_config) behind) refl
    (settings_tell behind roles_config (behind_lines Before (First true ∷ []) tt))
