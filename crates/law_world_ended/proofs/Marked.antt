-- in proxies lose their newest ci leg only once IN_R1/A5 came there, or the client's work is done
use Rattle.law_order.proofs.Vocabulary.{◌≡◌, ◌≢◌, ◌⊎◌, inl, inr, ◌<◌, ◌≤◌, ◌++◌, ℕ, zero, suc, List, [], ◌∷◌, Bool, true, false, not, map, None, arith, refl, sym, ap, ◌∙◌, subst, and_parts, append-nil, if◌then◌else◌, has_handover}
use Rattle.rh_text.specs.declared.ends.Side.TheVariants as side
use Rattle.rh_client.specs.Client as client
use Rattle.rh_inproxy.specs.Machine as in_proxy
use Rattle.rh_shell.specs.declared.answers.Phase.TheVariants as phases
use Rattle.rh_record.specs.declared.answer.Who.TheVariants as who
use Rattle.rh_wires.specs.Legs as legs
use Rattle.rh_company.specs.Company as company
use Rattle.law_moves.proofs.Vocabulary.{Dir, U, D, Side, Leg, LegKind, ClientOut, OutServer, ClientIn, InServer, Phase, Shell, is_at_work, is_ended, is_in_use, EndEvent, after_events}
use Rattle.law_moves.specs.Moving as moving
use Rattle.law_role_inproxy.proofs.Vocabulary.{InProxy}
use Rattle.law_role_inproxy.specs.Order as in_order
use Rattle.law_role_client.proofs.Vocabulary.{ClientRole}
use Rattle.law_node_history.proofs.Vocabulary.{Who, reader_of, receiver, sender, Event, Ends, Breaks, Place, Absent, Here, Gone, is_same, leg_at, at, is_finished, is_up, Change, IsTold, GoesDown, changed, all_changed, History, acts_by, all_noted, at_place, heard, in_place, made_by, noted, to_node, told_to}
use Rattle.law_node_history.proofs.Lemmas.{end_events_append, same_who}
use Rattle.law_role_outproxy.proofs.Vocabulary.{OutProxy}
use Rattle.law_role_marks.specs.Marks.{marks_handed}
use Rattle.law_node_begins.specs.ProxiesBegin.Pipes.{ci, is}
use Rattle.law_node_traces.proofs.Vocabulary.{AreOurs, deeds, rules}
use Rattle.rh_nodes.specs.Opening.{Makers}
use Rattle.law_node_marks.specs.Losing.{AgreeOn, AllAgree}
use Rattle.law_world_order.proofs.Moments.{OurWorld}
use Rattle.law_world_order.proofs.Vocabulary.{numbers_of}
use Rattle.law_world_ways.specs.EndsInTime.InTime.{ended_by}
use Rattle.law_world_ways.proofs.EndsInTime.Both.{up_for}
use Rattle.law_world_ways.specs.OnPaths.Lost.{was_lost}
use Rattle.law_world_ways.specs.OnPaths.Ways.{client_node, in_node}
use Rattle.law_world_calm.proofs.Steps.{EndsLeg, MayStep}
use Rattle.law_world_unclosed.proofs.Changing.{ending}
use Rattle.law_world_unclosed.proofs.Untold.{IsUntold, made_not, told_none}
use Rattle.law_world_ended.specs.Handed.{EndBehindMarks, LoseHandedOver}
use Rattle.law_world_ended.proofs.Agreeing.{agree_append, unlost_agree}
use Rattle.law_world_ended.proofs.Facts.{At, NodeLaws, in_handed_over, in_unused, may_lose_handed, may_lose_unused, not_told, rose}

-- nothing is told and nothing made
none : {X : Type 0} (p : Place X) → at_place p [] [] ≡ []
none Absent = refl
none (Here node count) = refl
none (Gone now) = refl

number_is : (a b : ℕ) → who.In a ≡ who.In b → a ≡ b
number_is a b e = cc

not_done : (f : Phase) → (f ≡ phases.Ended) ⊎ (not (is_ended f) ≡ true)
not_done phases.Opening = inr refl
not_done phases.Open = inr refl
not_done phases.Ended = inl refl

module _ (laws : NodeLaws) {K : Type 0} (m : Makers K InProxy OutProxy) (first : OurWorld K)
    (ours : AreOurs m first.company first.cast) where
  abbrev Handed : History → Type 0
  Handed h = LoseHandedOver (numbers_of ours) h

  abbrev Done : History → Type 0
  Done h = (client_node (numbers_of ours) h).role.phase ≡ phases.Ended

  abbrev In : ℕ → Shell InProxy
  In n = in_proxy.first_node (ours.in_config n)

  -- ---- the client's work stays done

  done_noted : (w : OurWorld K) (h : History) (c : Change) → Done h → Done (noted w h c)
  done_noted w h c done =
      let more : List EndEvent =
      map moving.Happens (told_to w c who.Client) ++ acts_by c side.Client in
      ap (λ (s : Shell ClientRole). s.role.phase)
      (end_events_append client.rules client.acts (client.first_client ours.config) h.client more)
      ∙ laws.client_rests ours.config h.client more done

  -- ---- changes that lose no leg

  quiet_noted : (w : OurWorld K) (h : History) (c : Change)
      → ((n : ℕ) (leg : Leg) → was_lost leg (at_place (in_place w.company n)
      (told_to w c (who.In n)) (made_by w c (who.In n))) ≡ false)
      → Handed h → Handed (noted w h c)
  quiet_noted w h c quiet handed n =
      let more = at_place (in_place w.company n) (told_to w c (who.In n))
      (made_by w c (who.In n)) in
      agree_append in_proxy.rules marks_handed (In n) (h.ins n) more (handed n)
      (unlost_agree in_proxy.rules marks_handed
      (after_events in_proxy.rules (In n) (h.ins n)) more (quiet n))

  pub plain_marked : (w : OurWorld K) (h : History) (c : Change) → ended_by c ≡ None
      → EndBehindMarks (numbers_of ours) h → EndBehindMarks (numbers_of ours) (noted w h c)
  plain_marked w h c plain (inl done) = inl (done_noted w h c done)
  plain_marked w h c plain (inr handed) = inr (quiet_noted w h c quiet handed)
    where
      by : (place : Place InProxy) (n : ℕ) (leg : Leg)
          → was_lost leg (at_place place (told_to w c (who.In n)) (made_by w c (who.In n)))
          ≡ false
      by Absent n leg = made_not leg w c (who.In n)
      by (Here node count) n leg = told_none leg w c (who.In n) plain
      by (Gone now) n leg = refl

      quiet : (n : ℕ) (leg : Leg) → was_lost leg (at_place (in_place w.company n)
          (told_to w c (who.In n)) (made_by w c (who.In n))) ≡ false
      quiet n leg = by (in_place w.company n) n leg

  -- a leg is down for a node
  down_noted : (w : OurWorld K) (h : History) (node : Who) (leg : Leg) (end : Side) → Handed h
      → Handed (noted w h (GoesDown node leg end))
  down_noted w h node leg end handed =
      quiet_noted w h (GoesDown node leg end)
      (λ n other. ap (was_lost other) (none (in_place w.company n))) handed

  -- ---- a node is told that a leg is lost

  told_noted : (w : OurWorld K) (h : History) (node : Who) (event : Event)
      → ((n : ℕ) → node ≡ who.In n → (in_place w.company n ≡ Absent → ⊥)
      → AgreeOn in_proxy.rules marks_handed (in_node (numbers_of ours) h n).role (heard event))
      → Handed h → Handed (noted w h (IsTold node event))
  told_noted w h node event agrees handed n =
      agree_append in_proxy.rules marks_handed (In n) (h.ins n) _ (handed n)
      (by (in_place w.company n) refl (is_same node (who.In n)) refl)
    where
      by : (place : Place InProxy) → in_place w.company n ≡ place → (b : Bool)
          → is_same node (who.In n) ≡ b
          → AllAgree in_proxy.rules marks_handed (after_events in_proxy.rules (In n) (h.ins n))
          (at_place place (if b then heard event ∷ [] else []) [])
      by Absent at b same = tt
      by (Here x count) at true same =
          (agrees n (same_who node (who.In n) same) (λ absent. there absent), tt)
        where
          there : in_place w.company n ≡ Absent → ⊥
          there absent = absurd (let bad = sym at ∙ absent in cc)
      by (Here x count) at false same = tt
      by (Gone now) at b same = tt

  -- another node is told, and has it down
  other_noted : (w v : OurWorld K) (h : History) (node : Who) (event : Event) (leg : Leg)
      (end : Side) (n : ℕ) → is_same node (who.In n) ≡ false
      → (noted v (noted w h (IsTold node event)) (GoesDown node leg end)).ins n ≡ h.ins n
  other_noted w v h node event leg end n other =
      ap (λ (es : List moving.Event). (h.ins n ++ at_place (in_place w.company n)
      (to_node node (who.In n) (heard event)) []) ++ es) (none (in_place v.company n))
      ∙ append-nil _
      ∙ ap (λ (es : List moving.Event). h.ins n ++ es)
      (ap (λ (b : Bool). at_place (in_place w.company n)
      (if b then heard event ∷ [] else []) []) other ∙ none (in_place w.company n))
      ∙ append-nil (h.ins n)

  -- ---- a leg ends

  module _ (w : OurWorld K) (h : History) (a : At m first ours w h)
      (untold : IsUntold rules m deeds first.company w h) where
    -- both ends are told so
    both_noted : (leg : Leg) (dir : Dir)
        → ((n : ℕ) → at w leg (sender dir) ≡ who.In n → (in_place w.company n ≡ Absent → ⊥)
        → AgreeOn in_proxy.rules marks_handed (in_node (numbers_of ours) h n).role
        (moving.Breaks leg))
        → ((g : History) (n : ℕ) → at w leg (receiver dir) ≡ who.In n
        → (in_place (all_changed rules m deeds w
        (IsTold (at w leg (sender dir)) (Breaks leg)
        ∷ GoesDown (at w leg (sender dir)) leg (sender dir) ∷ [])).company n ≡ Absent → ⊥)
        → g.ins n ≡ h.ins n
        → AgreeOn in_proxy.rules marks_handed (in_node (numbers_of ours) g n).role
        (moving.Ends leg))
        → ((n : ℕ) → at w leg (receiver dir) ≡ who.In n
        → is_same (at w leg (sender dir)) (who.In n) ≡ false)
        → Handed h → Handed (all_noted rules m deeds w h (ending rules m deeds w leg dir))
    both_noted leg dir gives takes apart handed =
        let giver = at w leg (sender dir) in
        let taker = at w leg (receiver dir) in
        let one = changed rules m deeds w (IsTold giver (Breaks leg)) in
        let told = noted w h (IsTold giver (Breaks leg)) in
        let two = changed rules m deeds one (GoesDown giver leg (sender dir)) in
        let down = noted one told (GoesDown giver leg (sender dir)) in
        let three = changed rules m deeds two (IsTold taker (Ends leg)) in
        down_noted three (noted two down (IsTold taker (Ends leg))) taker leg (receiver dir)
        (told_noted two down taker (Ends leg)
        (λ n is here. takes down n is here
        (other_noted w one h giver (Breaks leg) leg (sender dir) n (apart n is)))
        (down_noted one told giver leg (sender dir)
        (told_noted w h giver (Breaks leg) gives handed)))

    -- the in proxy that reads a channel, for which its ci leg ends
    module _ (n : ℕ) (up : (end : Side) → legs.is_up (ci n) end w.legs ≡ true)
        (handed : Handed h) where
      abbrev k : ℕ
      k = reader_of w.readers n

      within : k ≢ 0 → k ≤ n
      within read = (a.read.each n read).below

      ends_by_client : is_finished rules (ci n) U w ≡ true
          → is_at_work client.rules (client_node (numbers_of ours) h).role ≡ true → k ≢ 0
          → marks_handed (in_node (numbers_of ours) h k).role (ci n)
          ≡ in_proxy.rules.only_marks (in_node (numbers_of ours) h k).role (ci n)
      ends_by_client done work read =
          by (in_handed_over laws m first w h ours a untold n up parts.0 (above k n read (within read))
          read parts.1 work)
        where
          parts : (company.finished rules w.company who.Client (ci n) ≡ true)
              × (legs.is_clear (ci n) U w.legs ≡ true)
          parts =
              and_parts (company.finished rules w.company who.Client (ci n))
              (legs.is_clear (ci n) U w.legs) done

          above : (j i : ℕ) → j ≢ 0 → j ≤ i → 0 < i
          above zero i some most = absurd (some refl)
          above (suc j) i some most = omega (arith, most)

          by : (has_handover (in_order.came_log (a.ways.directions.up.proxies k).passage.came n)
              ≡ true)
              ⊎ (is_in_use in_proxy.rules (in_node (numbers_of ours) h k).role (ci n) ≡ false)
              → marks_handed (in_node (numbers_of ours) h k).role (ci n)
              ≡ in_proxy.rules.only_marks (in_node (numbers_of ours) h k).role (ci n)
          by (inl came) =
              may_lose_handed laws m first w h ours a untold k n (within read) (handed k) came
          by (inr unused) =
              may_lose_unused laws m first w h ours a untold k n (within read) (handed k) unused

      ends_by_proxy : is_finished rules (ci n) D w ≡ true → k ≢ 0
          → marks_handed (in_node (numbers_of ours) h k).role (ci n)
          ≡ in_proxy.rules.only_marks (in_node (numbers_of ours) h k).role (ci n)
      ends_by_proxy done read =
          may_lose_unused laws m first w h ours a untold k n (within read) (handed k)
          (in_unused laws m first w h ours a untold k (ci n)
          (rose laws m first w h ours a untold (ci n) up side.Server)
          (not_told laws m first w h ours a untold (ci n) up side.Server)
          (and_parts (company.finished rules w.company (who.In k) (ci n))
          (legs.is_clear (ci n) D w.legs) done).0)

      -- there is no in proxy 0
      some : (j : ℕ) → who.In k ≡ who.In j → (in_place w.company j ≡ Absent → ⊥) → k ≢ 0
      some j same there zero_is =
          there (ap (in_place w.company) (sym (number_is k j same) ∙ zero_is) ∙ a.traced.zero)

    pub ending_handed : (leg : Leg) (dir : Dir) → MayStep rules m deeds w (EndsLeg leg dir)
        → is_at_work client.rules (client_node (numbers_of ours) h).role ≡ true → Handed h
        → Handed (all_noted rules m deeds w h (ending rules m deeds w leg dir))
    ending_handed leg dir = by leg.kind leg.number dir
      where
        by : (kind : LegKind) (n : ℕ) (dir : Dir)
            → MayStep rules m deeds w (EndsLeg (leg_at kind n) dir)
            → is_at_work client.rules (client_node (numbers_of ours) h).role ≡ true → Handed h
            → Handed (all_noted rules m deeds w h (ending rules m deeds w (leg_at kind n) dir))
        by ClientOut n U may work handed =
            both_noted (leg_at ClientOut n) U (λ j is. absurd cc) (λ g j is. absurd cc)
            (λ j is. absurd cc) handed
        by ClientOut n D may work handed =
            both_noted (leg_at ClientOut n) D (λ j is. absurd cc) (λ g j is. absurd cc)
            (λ j is. absurd cc) handed
        by OutServer n U may work handed =
            both_noted (leg_at OutServer n) U (λ j is. absurd cc) (λ g j is. absurd cc)
            (λ j is. absurd cc) handed
        by OutServer n D may work handed =
            both_noted (leg_at OutServer n) D (λ j is. absurd cc) (λ g j is. absurd cc)
            (λ j is. absurd cc) handed
        by ClientIn n U may work handed =
            both_noted (ci n) U (λ j is. absurd cc) (λ g j is there same.
            subst (λ (es : List moving.Event).
            marks_handed (after_events in_proxy.rules (In j) es).role (ci n)
            ≡ in_proxy.rules.only_marks (after_events in_proxy.rules (In j) es).role (ci n))
            (sym same)
            (subst (λ (i : ℕ). marks_handed (in_node (numbers_of ours) h i).role (ci n)
            ≡ in_proxy.rules.only_marks (in_node (numbers_of ours) h i).role (ci n))
            (number_is (reader_of w.readers n) j is)
            (ends_by_client n (λ end. up_for w (ci n) end may.0 may.1) handed may.2 work
            (some n (λ end. up_for w (ci n) end may.0 may.1) handed j is there))))
            (λ j is. refl) handed
        by ClientIn n D may work handed =
            both_noted (ci n) D (λ j is there.
            subst (λ (i : ℕ). marks_handed (in_node (numbers_of ours) h i).role (ci n)
            ≡ in_proxy.rules.only_marks (in_node (numbers_of ours) h i).role (ci n))
            (number_is (reader_of w.readers n) j is)
            (ends_by_proxy n (λ end. up_for w (ci n) end may.0 may.1) handed may.2
            (some n (λ end. up_for w (ci n) end may.0 may.1) handed j is there)))
            (λ g j is. absurd cc) (λ j is. absurd cc) handed
        by InServer n U may work handed =
            both_noted (leg_at InServer n) U (λ j is there. refl) (λ g j is. absurd cc)
            (λ j is. absurd cc) handed
        by InServer n D may work handed =
            both_noted (leg_at InServer n) D (λ j is. absurd cc) (λ g j is there same. refl)
            (λ j is. refl) handed

    done_ended : (leg : Leg) (dir : Dir) → Done h
        → Done (all_noted rules m deeds w h (ending rules m deeds w leg dir))
    done_ended leg dir done =
        let giver = at w leg (sender dir) in
        let taker = at w leg (receiver dir) in
        let one = changed rules m deeds w (IsTold giver (Breaks leg)) in
        let told = noted w h (IsTold giver (Breaks leg)) in
        let two = changed rules m deeds one (GoesDown giver leg (sender dir)) in
        let down = noted one told (GoesDown giver leg (sender dir)) in
        let three = changed rules m deeds two (IsTold taker (Ends leg)) in
        done_noted three (noted two down (IsTold taker (Ends leg)))
        (GoesDown taker leg (receiver dir))
        (done_noted two down (IsTold taker (Ends leg))
        (done_noted one told (GoesDown giver leg (sender dir))
        (done_noted w h (IsTold giver (Breaks leg)) done)))

    pub ending_marked : (leg : Leg) (dir : Dir) → MayStep rules m deeds w (EndsLeg leg dir)
        → EndBehindMarks (numbers_of ours) h
        → EndBehindMarks (numbers_of ours)
        (all_noted rules m deeds w h (ending rules m deeds w leg dir))
    ending_marked leg dir may (inl done) = inl (done_ended leg dir done)
    ending_marked leg dir may (inr handed) =
        by (not_done (client_node (numbers_of ours) h).role.phase)
      where
        by : ((client_node (numbers_of ours) h).role.phase ≡ phases.Ended)
            ⊎ (not (is_ended (client_node (numbers_of ours) h).role.phase) ≡ true)
            → EndBehindMarks (numbers_of ours)
            (all_noted rules m deeds w h (ending rules m deeds w leg dir))
        by (inl done) = inl (done_ended leg dir done)
        by (inr work) = inr (ending_handed leg dir may work handed)
