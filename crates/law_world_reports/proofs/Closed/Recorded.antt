-- each line of a recording, whatever its form
use Rattle.law_order.proofs.Vocabulary.{◌≡◌, List, [], ◌∷◌, true, false, refl, sym, ap, ◌∙◌, inl, inr, false≢true}
use Rattle.rh_record.specs.declared.answer.Answer.TheVariants as answer
use Rattle.law_moves.proofs.Vocabulary.{Cause}
use Rattle.law_node_history.proofs.Vocabulary.{Answer, Who, Line, First, Set, Leads, IsOneOf}
use Rattle.law_node_history.proofs.Lemmas.{is_other, leads_none, leads_then, leads_step}
use Rattle.rh_world.specs.Direct as direct
use Rattle.rh_world.specs.Roles as roles
use Rattle.law_world_reports.proofs.Vocabulary.{AnyWorld, Before, Direct, Settings, Roles, WorldConfig, act, after, prepared, step, Deed, Offers, Asks, Draws, Feeds, Nothing, deed, IsLicensedAt, IsLicensedIn}

-- ---- worlds of roles come from new ones

-- it came from a new one by changes, and has nothing to report
pub record IsReached (w : roles.World) : Type 0 where
  pub config : WorldConfig
  pub leads : Leads roles.rules roles.makers roles.deeds (roles.begun config) w
  pub none : w.closed ≡ []

abbrev pub Reached : AnyWorld → Type 0
Reached Before = Unit {0}
Reached (Direct w) = Unit {0}
Reached (Settings config) = Unit {0}
Reached (Roles w) = IsReached w

begun_reached : (config : WorldConfig) → IsReached (roles.begun config)
begun_reached config = record {
  config = config;
  leads = leads_none roles.rules roles.makers roles.deeds (roles.begun config);
  none = refl;
}

pub reached_prepared : (world : AnyWorld) (line : Line) → Reached world
    → Reached (prepared world line)
reached_prepared Before (First false) h = tt
reached_prepared Before (First true) h = tt
reached_prepared Before line h = tt
reached_prepared (Direct w) line h = tt
reached_prepared (Settings config) (Set key value) h = tt
reached_prepared (Settings config) line h = begun_reached config
reached_prepared (Roles w) line h = h

reached_act : (world : AnyWorld) (line : Line) → Reached world → Reached (act world line).0
reached_act Before line h = tt
reached_act (Direct w) line h = tt
reached_act (Settings config) line h = tt
reached_act (Roles w) line h = record {
  config = h.config;
  leads =
      leads_then roles.rules roles.makers roles.deeds (roles.begun h.config) w
      (roles.step line w).0 h.leads (leads_step roles.rules roles.makers roles.deeds line w);
  none = refl;
}

reached_after : (world : AnyWorld) (lines : List Line) → Reached world
    → Reached (after world lines)
reached_after world [] h = h
reached_after world (line ∷ lines) h =
    reached_after (step world line).0 lines
    (reached_act (prepared world line) line (reached_prepared world line h))

-- the world that a line of a recording is done to
pub reached_in : (before : List Line) (line : Line)
    → Reached (prepared (after Before before) line)
reached_in before line =
    reached_prepared (after Before before) line (reached_after Before before tt)

-- ---- a direct recording tells of no node

module _ (node : Who) (why : Cause) where
  other_one : (one : Answer) → is_other one ≡ true
      → IsOneOf (answer.NodeClosed node why) (one ∷ []) → ⊥
  other_one one other (inl here) = false≢true (sym (ap is_other here) ∙ other)
  other_one one other (inr behind) = behind

  none_direct : (w : direct.World) (done : Deed)
      → IsOneOf (answer.NodeClosed node why) (direct.act w done).1 → ⊥
  none_direct w (Offers side pdu) h =
      other_one (answer.Give side
      (direct.give (direct.way_of w (direct.giving side)) pdu).1) refl h
  none_direct w (Asks side) h =
      other_one (answer.Take side
      (direct.take_pdu (direct.way_of w (direct.taking side))).1) refl h
  none_direct w (Draws dir count) h =
      other_one (direct.sent dir (direct.send (direct.way_of w dir) count).1) refl h
  none_direct w (Feeds dir count) h =
      other_one (direct.moved dir (direct.move (direct.way_of w dir) count).1) refl h
  none_direct w Nothing h = h

  -- ---- what a line reports closed

  module _ (licensed : (line : Line) (w : roles.World) → w.closed ≡ []
      → IsOneOf (answer.NodeClosed node why) (roles.step line w).1
      → IsLicensedAt w line node why) where
    act_licenses : (world : AnyWorld) (line : Line) → Reached world
        → IsOneOf (answer.NodeClosed node why) (act world line).1
        → IsLicensedIn world line node why
    act_licenses Before line reached h = absurd h
    act_licenses (Direct w) line reached h = absurd (none_direct w (deed line) h)
    act_licenses (Settings config) line reached h = absurd h
    act_licenses (Roles w) line reached h = licensed line w reached.none h

    pub recording_licenses : (before : List Line) (line : Line)
        → IsOneOf (answer.NodeClosed node why) (step (after Before before) line).1
        → IsLicensedIn (prepared (after Before before) line) line node why
    recording_licenses before line h =
        act_licenses (prepared (after Before before) line) line (reached_in before line) h
