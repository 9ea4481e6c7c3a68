-- in a calm recording no node closes, if none closes since a leg ended late
use Rattle.law_order.proofs.Vocabulary.{◌≡◌, ℕ, List, [], ◌∷◌, ◌++◌, append_assoc, Bool, true, false, ◌&&◌, if◌then◌else◌, nat_le, refl, sym, ap, ◌∙◌, subst, and_from, and_parts, list_all, list_all-append}
use Rattle.law_moves.proofs.Vocabulary.{Cause, LegKind, Rooms, Rules, begun, is_working, passed, tick, ClosedWith}
use Rattle.law_node_history.proofs.Vocabulary.{NodeClosed, Who, Line, First, Set, IsOneOf, History, MakesGoing, nothing}
use Rattle.rh_world.specs.Roles as roles
use Rattle.law_world_reports.proofs.Vocabulary.{AnyWorld, Before, Direct, Settings, Roles, WorldConfig, AreInRange, act, after, prepared, step, IsLicensedIn}
use Rattle.law_world_reports.proofs.Bounded.Reached.{prepared_is_recorded}
use Rattle.law_world_order.proofs.Recorded.{new, ours}
use Rattle.law_world_ways.specs.EndsInTime.Both.{AreUpAtBoth}
use Rattle.law_world_ways.proofs.EndsInTime.Both.{none_up}
use Rattle.law_world_ways.proofs.EndsInTime.EachLine.{step_keeps}
use Rattle.law_world_calm.specs.Calm.{IsEndOfLeg, is_calm}
use Rattle.law_world_unclosed.proofs.Along.{AlongLaws, behind_line, none_reported}
use Rattle.law_world_unclosed.proofs.Until.{Until, until_first}
use Rattle.law_world_unclosed.specs.Late.{ClosedLate, ClosedWhere, ReportsClosed, is_late}

-- ---- no proxy is closed as it is made

begun_goes : {S : Type 0} (rules : Rules S) (role : S) (rooms : Rooms) (now : ℕ) (why : Cause)
    → ClosedWith why (tick rules (begun role rooms) now).0.course → ⊥
begun_goes {S} rules role rooms now why =
    by (is_working rules (begun role rooms) && nat_le 0 now)
  where
    by : (t : Bool) → ClosedWith why (if t then passed rules (record (begun role rooms) { now = now })
        else begun role rooms).course → ⊥
    by true h = h
    by false h = h

pub makes_going : MakesGoing roles.rules roles.makers
makes_going = record {
  ins = λ config n now why.
      begun_goes roles.rules.in_proxy (roles.in_proxy config n).role
      (roles.in_proxy config n).rooms now why;
  outs = λ config n now why.
      begun_goes roles.rules.out_proxy (roles.out_proxy config n).role
      (roles.out_proxy config n).rooms now why;
}

-- ---- what this stands on

pub record RecordLaws : Type 0 where
  pub along : (config : WorldConfig) → AreInRange config
      → AlongLaws roles.makers (roles.begun config) (ours config)
  pub ends : (before : List Line) (one : Line) (node : Who) (why : Cause)
      → list_all is_calm (before ++ one ∷ []) ≡ true
      → IsOneOf (NodeClosed node why) (step (after Before before) one).1 → IsEndOfLeg why
  pub licensed : (before : List Line) (one : Line) (node : Who) (why : Cause)
      → IsOneOf (NodeClosed node why) (step (after Before before) one).1
      → IsLicensedIn (prepared (after Before before) one) one node why

-- ---- worlds of calm recordings

after_one : (world : AnyWorld) (lines : List Line) (one : Line)
    → after world (lines ++ one ∷ []) ≡ (step (after world lines) one).0
after_one world [] one = refl
after_one world (line ∷ lines) one = after_one (step world line).0 lines one

-- what each line keeps that closes no node late
module _ (late : Who → LegKind → Bool) (Is : WorldConfig → roles.World → History → Type 0)
    (first_is : (config : WorldConfig) → AreInRange config
    → Is config (roles.begun config) nothing)
    (kept : (config : WorldConfig) → AreInRange config → (one : Line) (w : roles.World)
    (h : History) → Is config w h → AreUpAtBoth w → is_calm one ≡ true
    → ((node : Who) (why : Cause)
    → IsOneOf (NodeClosed node why) (roles.step one w).1
    → IsEndOfLeg why × (ClosedWhere late node why → ⊥))
    → (later : History) × Is config (roles.step one w).0 later)
    (none_told : (config : WorldConfig) → AreInRange config → (one : Line) (w : roles.World)
    (h : History) → Is config w h → AreUpAtBoth w → is_calm one ≡ true
    → ((node : Who) (why : Cause)
    → IsOneOf (NodeClosed node why) (roles.step one w).1
    → IsEndOfLeg why × (ClosedWhere late node why → ⊥))
    → (node : Who) (why : Cause)
    → IsOneOf (NodeClosed node why) (roles.step one w).1 → ⊥) where
  -- no node closed on the way there
  pub record IsCalmly (w : roles.World) : Type 0 where
    pub config : WorldConfig
    pub ranges : AreInRange config
    pub both : AreUpAtBoth w
    pub history : History
    pub so : Is config w history

  abbrev pub Calmly : AnyWorld → Type 0
  Calmly Before = Unit {0}
  Calmly (Direct w) = Unit {0}
  Calmly (Settings config) = AreInRange config
  Calmly (Roles w) = IsCalmly w

  begun_calmly : (config : WorldConfig) → AreInRange config → IsCalmly (roles.begun config)
  begun_calmly config ranges = record {
    config = config;
    ranges = ranges;
    both = none_up;
    history = nothing;
    so = first_is config ranges;
  }

  prepared_calmly : (world : AnyWorld) (one : Line) → Calmly world → Calmly (prepared world one)
  prepared_calmly Before (First false) calmly = tt
  prepared_calmly Before (First true) calmly = prepared_is_recorded Before (First true) tt
  prepared_calmly Before one calmly = tt
  prepared_calmly (Direct w) one calmly = tt
  prepared_calmly (Settings config) (Set key value) calmly =
      prepared_is_recorded (Settings config) (Set key value) calmly
  prepared_calmly (Settings config) one calmly = begun_calmly config calmly
  prepared_calmly (Roles w) one calmly = calmly

  module _ (ends_alone : (before : List Line) (one : Line) (node : Who) (why : Cause)
      → list_all is_calm (before ++ one ∷ []) ≡ true
      → IsOneOf (NodeClosed node why) (step (after Before before) one).1 → IsEndOfLeg why)
      (licensed : (before : List Line) (one : Line) (node : Who) (why : Cause)
      → IsOneOf (NodeClosed node why) (step (after Before before) one).1
      → IsLicensedIn (prepared (after Before before) one) one node why)
      (lines : List Line) (calm : list_all is_calm lines ≡ true)
      (never : (node : Who) (why : Cause) → ReportsClosed lines node why
      → ClosedWhere late node why → ⊥) where
    -- what a line may report
    abbrev Ends : AnyWorld → Line → Type 0
    Ends world one =
        (node : Who) (why : Cause) → IsOneOf (NodeClosed node why) (act world one).1
        → IsEndOfLeg why × (ClosedWhere late node why → ⊥)

    module _ (before : List Line) (one : Line) (behind : List Line)
        (split : lines ≡ before ++ one ∷ behind) where
      parts : (list_all is_calm before ≡ true) × (list_all is_calm (one ∷ behind) ≡ true)
      parts =
          and_parts (list_all is_calm before) (list_all is_calm (one ∷ behind))
          (sym (list_all-append is_calm before (one ∷ behind))
          ∙ subst (λ (list : List Line). list_all is_calm list ≡ true) split calm)

      calm_line : is_calm one ≡ true
      calm_line = (and_parts (is_calm one) (list_all is_calm behind) parts.1).0

      calm_front : list_all is_calm (before ++ one ∷ []) ≡ true
      calm_front =
          list_all-append is_calm before (one ∷ [])
          ∙ and_from (list_all is_calm before) (list_all is_calm (one ∷ [])) parts.0
          (and_from (is_calm one) true calm_line refl)

      ends_here : Ends (prepared (after Before before) one) one
      ends_here node why told = (
        ends_alone before one node why calm_front told,
        (λ lately. never node why (record {
          before = before;
          line = one;
          behind = behind;
          split = split;
          told = told;
        }) lately),
      )

    acted : (world : AnyWorld) (one : Line) → is_calm one ≡ true → Ends world one → Calmly world
        → Calmly (act world one).0
    acted Before one is ends calmly = tt
    acted (Direct w) one is ends calmly = tt
    acted (Settings config) one is ends calmly = calmly
    acted (Roles w) one is ends calmly =
        let later = kept calmly.config calmly.ranges one w calmly.history calmly.so calmly.both is
        ends in
        record {
          config = calmly.config;
          ranges = calmly.ranges;
          both = step_keeps roles.rules roles.makers roles.deeds one w calmly.both;
          history = later.0;
          so = later.1;
        }

    calmly_behind : (before : List Line) (rest : List Line) (world : AnyWorld)
        → world ≡ after Before before → Calmly world → (b c : List Line) → rest ≡ b ++ c
        → lines ≡ before ++ rest → Calmly (after world b)
    calmly_behind before rest world at calmly [] c cut split = calmly
    calmly_behind before rest world at calmly (one ∷ b) c cut split =
        let whole : lines ≡ before ++ one ∷ (b ++ c) =
        split ∙ ap (λ (list : List Line). before ++ list) cut in
        calmly_behind (before ++ one ∷ []) (b ++ c) (step world one).0
        (ap (λ (x : AnyWorld). (step x one).0) at ∙ sym (after_one Before before one))
        (acted (prepared world one) one (calm_line before one (b ++ c) whole)
        (subst (λ (x : AnyWorld). Ends (prepared x one) one) (sym at)
        (ends_here before one (b ++ c) whole)) (prepared_calmly world one calmly)) b c refl
        (whole ∙ sym (append_assoc before (one ∷ []) (b ++ c)))

    -- so it is behind each front of the lines
    pub calmly_after : (b c : List Line) → lines ≡ b ++ c → Calmly (after Before b)
    calmly_after b c split = calmly_behind [] lines Before refl tt b c split refl

    none_at : (world : AnyWorld) (one : Line) → is_calm one ≡ true → Ends world one
        → Calmly world → (node : Who) (why : Cause) → IsLicensedIn world one node why
        → IsOneOf (NodeClosed node why) (act world one).1 → ⊥
    none_at Before one is ends calmly node why license told = license
    none_at (Direct w) one is ends calmly node why license told = license
    none_at (Settings config) one is ends calmly node why license told = license
    none_at (Roles w) one is ends calmly node why license told =
        none_told calmly.config calmly.ranges one w calmly.history calmly.so calmly.both is ends
        node why told

    pub none_closes_so : (node : Who) (why : Cause) → ReportsClosed lines node why → ⊥
    none_closes_so node why r =
        none_at (prepared (after Before r.before) r.line) r.line
        (calm_line r.before r.line r.behind r.split) (ends_here r.before r.line r.behind r.split)
        (prepared_calmly (after Before r.before) r.line
        (calmly_after r.before (r.line ∷ r.behind) r.split)) node why
        (licensed r.before r.line node why r.told) r.told

-- ---- where late is what ends from the end nearer the server

module _ (law : RecordLaws) (lines : List Line) (calm : list_all is_calm lines ≡ true)
    (never : (node : Who) (why : Cause) → ReportsClosed lines node why → ClosedLate node why → ⊥)
  where
    pub none_closes : (node : Who) (why : Cause) → ReportsClosed lines node why → ⊥
    none_closes =
        none_closes_so is_late
        (λ config. Until roles.rules roles.makers roles.deeds (roles.begun config))
        (λ config ranges. until_first roles.rules roles.makers roles.deeds (roles.begun config))
        (λ config ranges one w h u both is ends.
        behind_line roles.makers (roles.begun config) (new config) (ours config)
        (law.along config ranges) one w h u both is ends)
        (λ config ranges one w h u both is ends.
        none_reported roles.makers (roles.begun config) (new config) (ours config)
        (law.along config ranges) one w h u both is ends refl)
        law.ends law.licensed lines calm never
