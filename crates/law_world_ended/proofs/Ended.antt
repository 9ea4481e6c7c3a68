-- in a calm recording no node closes, if none closes since a leg ended that is late still
use Rattle.std.specs.List.{AllByRecursion}
use Rattle.rh_inproxy.specs.Machine as in_proxy
use Rattle.rh_inproxy.specs.State as in_state
use Rattle.rh_shell.specs.declared.answers.Phase.TheVariants as phases
use Rattle.rh_wires.specs.Legs as legs
use Rattle.rh_company.specs.Company as company
use Rattle.law_order.proofs.Vocabulary.{◌≡◌, ◌⊎◌, inr, ℕ, List, [], ◌∷◌, ◌++◌, true, false, None, refl, sym, subst, list_all, append-nil}
use Rattle.law_moves.proofs.Vocabulary.{Cause, Dir, Side, Leg}
use Rattle.law_role_inproxy.proofs.Vocabulary.{InProxy}
use Rattle.law_node_history.proofs.Vocabulary.{NodeClosed, Who, Line, receiver, Ends, Makers, at, ByLines, Change, ClosesNode, MayChange, changed, all_changed, of_line, IsOneOf, History, IsNew, all_noted, noted, nothing}
use Rattle.law_node_history.proofs.Lemmas.{cast_kept}
use Rattle.rh_nodes.specs.Steps.{step as world_step}
use Rattle.law_role_outproxy.proofs.Vocabulary.{OutProxy}
use Rattle.rh_world.specs.Roles as roles
use Rattle.law_node_streams.specs.Streams.{Stream}
use Rattle.law_node_ends.specs.Passed.{AsksNoEcho, HeadsAre}
use Rattle.law_node_begins.specs.ProxiesBegin.Pipes.{in_pipe}
use Rattle.law_node_traces.proofs.Traced.ByChanges.{lines_by_changes}
use Rattle.law_node_traces.proofs.Vocabulary.{AreOurs, ByChanges, ComeUpInOrder, ComeUpByLines, deeds, history_at, rules}
use Rattle.law_node_traces.specs.LetGo.{was_let_go}
use Rattle.law_node_history.specs.Changes.{Leads}
use Rattle.law_world_reports.proofs.Vocabulary.{AnyWorld, Before, Direct, Settings, Roles, WorldConfig, AreInRange, after, prepared, step, IsLicensedIn}
use Rattle.law_world_order.proofs.Moments.{OurWorld}
use Rattle.law_world_order.proofs.Recorded.{new, ours}
use Rattle.law_world_order.proofs.Vocabulary.{numbers_of}
use Rattle.law_world_ways.specs.EndsInTime.Both.{AreUpAtBoth}
use Rattle.law_world_ways.specs.EndsInTime.InTime.{EndsInTime, ended_by}
use Rattle.law_world_ways.specs.LiveIntakes.{ReadsLeg}
use Rattle.law_world_ways.specs.OnPaths.Ways.{client_node, in_node, server_node}
use Rattle.law_world_ways.specs.ExactPaths.GoingOn.{AllGoOn}
use Rattle.law_world_ways.specs.ExactPaths.Over.{PassesWhereOver}
use Rattle.law_world_marks.specs.WentRound.{WentRound}
use Rattle.law_world_calm.proofs.Steps.{EndsLeg, MayStep}
use Rattle.law_world_calm.specs.Calm.{IsEndOfLeg, is_calm}
use Rattle.law_world_unclosed.proofs.Along.{AlongLaws, ends_or_late, go_on, going, here, kept_by_line, none_by_line, until_ended, until_plainly}
use Rattle.law_world_unclosed.proofs.Changing.{ending}
use Rattle.law_world_unclosed.proofs.Recorded.{Calmly, calmly_after, none_closes_so}
use Rattle.law_world_unclosed.proofs.Until.{Until, in_time, leads, until_first}
use Rattle.law_world_unclosed.specs.Late.{ClosedWhere, ReportsClosed}
use Rattle.law_world_ended.specs.Handed.{AreEndedBehindMarks, EndBehindMarks, LoseHandedOver}
use Rattle.law_world_ended.specs.StillLate.{ClosedStillLate, is_still_late}
use Rattle.law_world_ended.proofs.Facts.{At, NodeLaws}
use Rattle.law_world_ended.proofs.Marked.{ending_marked, plain_marked}
use Rattle.law_world_ended.proofs.ServerEnds.{silent_or_late}

-- ---- the laws of worlds that this stands on

pub record WorldLaws {K : Type 0} (m : Makers K InProxy OutProxy) (first : OurWorld K)
    (ours : AreOurs m first.company first.cast) : Type 0 where
  pub along : AlongLaws m first ours
  pub passes : (v : OurWorld K) (ends : EndsInTime rules m deeds first v)
      → (let h = all_noted rules m deeds first nothing ends.lines.leads.changes in
      AllGoOn (numbers_of ours) h → PassesWhereOver (numbers_of ours) v h)
  pub heads : (v : OurWorld K) (by : ByChanges rules m deeds first v) (n : ℕ)
      (stream : Stream in_proxy.rules (in_state.first (ours.in_config n)) in_proxy.rooms
      (in_pipe (ours.in_config n)) ((history_at m first v by.leads).ins n))
      → AllByRecursion (HeadsAre (AsksNoEcho true)) stream.leads.moves
  pub live_in : (v : OurWorld K) (by : ByChanges rules m deeds first v) (n : ℕ) (leg : Leg)
      → ReadsLeg (in_node (numbers_of ours) (history_at m first v by.leads) n) leg
  pub live_server : (v : OurWorld K) (by : ByChanges rules m deeds first v) (leg : Leg)
      → ReadsLeg (server_node (numbers_of ours) (history_at m first v by.leads)) leg
  pub round : (v : OurWorld K) (by : ByChanges rules m deeds first v)
      → (let h = history_at m first v by.leads in
      (client_node (numbers_of ours) h).role.phase ≡ phases.Ended
      → WentRound (numbers_of ours) h)
  pub order : (v : OurWorld K) (by : ByChanges rules m deeds first v)
      → ComeUpInOrder v (history_at m first v by.leads)
  pub led : (v : OurWorld K) (lines : ByLines rules m deeds first v)
      → ComeUpByLines v (all_noted rules m deeds first nothing lines.leads.changes)
  pub low : (v : OurWorld K) → Leads rules m deeds first v → (leg : Leg) (end : Side)
      → was_let_go v.company (at v leg end) ≡ true → legs.is_up leg end v.legs ≡ false

module _ (laws : NodeLaws) {K : Type 0} (m : Makers K InProxy OutProxy) (first : OurWorld K)
    (fresh : IsNew first) (ours : AreOurs m first.company first.cast)
    (law : WorldLaws m first ours) where
  -- no node closed on the way, and legs ended behind their marks
  pub record Is (w : OurWorld K) (h : History) : Type 0 where
    pub until : Until rules m deeds first w h
    pub marked : EndBehindMarks (numbers_of ours) h

  facts : (w : OurWorld K) (h : History) → Until rules m deeds first w h → At m first ours w h
  facts w h u = subst (At m first ours w) u.history there
    where
      ends : EndsInTime rules m deeds first w
      ends = in_time rules m deeds first w h u

      by : ByChanges rules m deeds first w
      by = lines_by_changes rules m deeds first w (in_time rules m deeds first w h u).lines

      goes : AllGoOn (numbers_of ours) (all_noted rules m deeds first nothing u.changes)
      goes = going m first fresh ours law.along w h u

      passed : PassesWhereOver (numbers_of ours) w
          (all_noted rules m deeds first nothing u.changes)
      passed = law.passes w ends goes

      there : At m first ours w (all_noted rules m deeds first nothing u.changes)
      there = record {
        cast = cast_kept rules m deeds first w (leads rules m deeds first w h u);
        traced = (here m first fresh ours law.along w h u).traced;
        read = (here m first fresh ours law.along w h u).read;
        going = goes;
        ways = passed.ways;
        heads = λ n. law.heads w by n (passed.ways.directions.up.proxies n);
        live_in = law.live_in w by;
        live_server = law.live_server w by;
        round = law.round w by;
        order = law.order w by;
        led = law.led w ends.lines;
        low = law.low w (leads rules m deeds first w h u);
        go_on = law.along.over w ends goes;
      }

  first_is : LoseHandedOver (numbers_of ours) nothing → Is first nothing
  first_is handed = record { until = until_first rules m deeds first; marked = inr handed }

  pub first_so : Is first nothing
  first_so = first_is (λ n. tt)

  plain : (w : OurWorld K) (h : History) → Is w h → (c : Change) → MayChange rules w c
      → of_line c ≡ true → ended_by c ≡ None
      → ((node : Who) (why : Cause) → ClosesNode rules w c node why → ⊥)
      → Is (changed rules m deeds w c) (noted w h c)
  plain w h i c may line none_ended none = record {
    until = until_plainly m first fresh ours law.along w h i.until c may line none_ended none;
    marked = plain_marked laws m first ours w h c none_ended i.marked;
  }

  ends_so : (w : OurWorld K) (h : History) → Is w h → (leg : Leg) (dir : Dir)
      → MayStep rules m deeds w (EndsLeg leg dir)
      → (company.tell rules w.company (at w leg (receiver dir)) (Ends leg)).1 ≡ None
      → Is (all_changed rules m deeds w (ending rules m deeds w leg dir))
      (all_noted rules m deeds w h (ending rules m deeds w leg dir))
  ends_so w h i leg dir may silent = record {
    until = until_ended m first fresh ours law.along w h i.until leg dir may silent;
    marked =
        ending_marked laws m first ours w h (facts w h i.until) i.until.untold leg dir may i.marked;
  }

  silent : (w : OurWorld K) (h : History) → Is w h → (leg : Leg) (dir : Dir)
      → MayStep rules m deeds w (EndsLeg leg dir)
      → ((company.tell rules w.company (at w leg (receiver dir)) (Ends leg)).1 ≡ None)
      ⊎ (is_still_late (at w leg (receiver dir)) leg.kind ≡ true)
  silent w h i leg dir may =
      silent_or_late laws m first w h ours (facts w h i.until) i.until.untold i.marked leg dir may
      (ends_or_late m first fresh ours law.along w h i.until leg dir may)

  module _ (one : Line) (w : OurWorld K) (h : History) (i : Is w h) (both : AreUpAtBoth w)
      (calm : is_calm one ≡ true)
      (ends : (node : Who) (why : Cause)
      → IsOneOf (NodeClosed node why) (world_step rules m deeds one w).1
      → IsEndOfLeg why × (ClosedWhere is_still_late node why → ⊥)) where
    pub none_told : first.closed ≡ [] → (node : Who) (why : Cause)
        → IsOneOf (NodeClosed node why) (world_step rules m deeds one w).1 → ⊥
    none_told =
        none_by_line m first fresh ours law.along is_still_late Is plain ends_so silent
        (λ v g x. x.until) one w h i both calm ends

    pub kept : (later : History) × Is (world_step rules m deeds one w).0 later
    kept =
        kept_by_line m first fresh ours law.along is_still_late Is plain ends_so silent
        (λ v g x. x.until) one w h i both calm ends

-- ---- recordings

pub record RecordLaws : Type 0 where
  pub nodes : NodeLaws
  pub worlds : (config : WorldConfig) → AreInRange config
      → WorldLaws roles.makers (roles.begun config) (ours config)
  pub ends : (before : List Line) (one : Line) (node : Who) (why : Cause)
      → list_all is_calm (before ++ one ∷ []) ≡ true
      → IsOneOf (NodeClosed node why) (step (after Before before) one).1 → IsEndOfLeg why
  pub licensed : (before : List Line) (one : Line) (node : Who) (why : Cause)
      → IsOneOf (NodeClosed node why) (step (after Before before) one).1
      → IsLicensedIn (prepared (after Before before) one) one node why

module _ (law : RecordLaws) (lines : List Line) (calm : list_all is_calm lines ≡ true)
    (never : (node : Who) (why : Cause) → ReportsClosed lines node why
    → ClosedStillLate node why → ⊥) where
  -- what is kept from the settings on
  record So (config : WorldConfig) (w : roles.World) (h : History) : Type 0 where
    ranges : AreInRange config
    so : Is law.nodes roles.makers (roles.begun config) (new config) (ours config)
        (law.worlds config ranges) w h

  begins : (config : WorldConfig) → AreInRange config → So config (roles.begun config) nothing
  begins config ranges = record {
    ranges = ranges;
    so =
        first_so law.nodes roles.makers (roles.begun config) (new config) (ours config)
        (law.worlds config ranges);
  }

  goes : (config : WorldConfig) → AreInRange config → (one : Line) (w : roles.World) (h : History)
      → So config w h → AreUpAtBoth w → is_calm one ≡ true
      → ((node : Who) (why : Cause) → IsOneOf (NodeClosed node why) (roles.step one w).1
      → IsEndOfLeg why × (ClosedWhere is_still_late node why → ⊥))
      → (later : History) × So config (roles.step one w).0 later
  goes config ranges one w h s both is ends =
      let later = kept law.nodes roles.makers (roles.begun config) (new config) (ours config)
      (law.worlds config s.ranges) one w h s.so both is ends in
      (later.0, record { ranges = s.ranges; so = later.1 })

  tells_none : (config : WorldConfig) → AreInRange config → (one : Line) (w : roles.World)
      (h : History) → So config w h → AreUpAtBoth w → is_calm one ≡ true
      → ((node : Who) (why : Cause) → IsOneOf (NodeClosed node why) (roles.step one w).1
      → IsEndOfLeg why × (ClosedWhere is_still_late node why → ⊥))
      → (node : Who) (why : Cause) → IsOneOf (NodeClosed node why) (roles.step one w).1 → ⊥
  tells_none config ranges one w h s both is ends =
      none_told law.nodes roles.makers (roles.begun config) (new config) (ours config)
      (law.worlds config s.ranges) one w h s.so both is ends refl

  pub none_closes : (node : Who) (why : Cause) → ReportsClosed lines node why → ⊥
  none_closes =
      none_closes_so is_still_late So begins goes tells_none law.ends law.licensed lines calm never

  of_world : (world : AnyWorld) → Calmly is_still_late So begins goes tells_none world
      → AreEndedBehindMarks world
  of_world Before calmly = tt
  of_world (Direct w) calmly = tt
  of_world (Settings config) calmly = tt
  of_world (Roles w) calmly =
      let config = calmly.config in
      let u = calmly.so.so.until in
      record {
        config = config;
        ours = ours config;
        ends = in_time roles.rules roles.makers roles.deeds (roles.begun config) w calmly.history u;
        marked =
            subst (EndBehindMarks (numbers_of (ours config))) (sym u.history) calmly.so.so.marked;
      }

  pub ended_behind_marks : AreEndedBehindMarks (after Before lines)
  ended_behind_marks =
      of_world (after Before lines)
      (calmly_after is_still_late So begins goes tells_none law.ends law.licensed lines calm never
      lines [] (sym (append-nil lines)))
