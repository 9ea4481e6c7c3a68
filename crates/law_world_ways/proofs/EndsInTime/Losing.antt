-- a leg that is over is lost in time; and bytes that are carried, and time that passes, end no leg
use Rattle.std.proofs.Common.{◌≡◌, ℕ, Bool, true, false, ◌&&◌, if◌then◌else◌, length, Some, None, refl, sym, subst, inl, inr}
use Rattle.std.specs.Prelude.{IfSome, nat_le}
use Rattle.std.proofs.lemmas.Bool.{leb-true}
use Rattle.rh_text.specs.declared.ends.Dir.{Dir}
use Rattle.rh_text.specs.declared.ends.Side.{Side}
use Rattle.rh_text.specs.declared.ends.Side.TheVariants as side
use Rattle.law_order.proofs.ByNumber.{by_test}
use Rattle.rh_line.specs.declared.leg.Leg.{Leg}
use Rattle.rh_record.specs.declared.answer.Who.{Who}
use Rattle.rh_record.specs.declared.answer.Who.TheVariants as who
use Rattle.rh_wires.specs.Legs as legs
use Rattle.rh_wires.specs.Wires.{sender, receiver}
use Rattle.rh_company.specs.declared.event.Event.{Event}
use Rattle.rh_company.specs.declared.event.Event.TheVariants.{Ends, Breaks, Passes}
use Rattle.rh_company.specs.Company as company
use Rattle.rh_company.specs.Company.{Rulebook}
use Rattle.rh_nodes.specs.Breaking.{is_up, lost, lose, refuse, break_leg, end_leg}
use Rattle.rh_nodes.specs.Carrying.{send, sent, draw_into, feed, fed}
use Rattle.rh_nodes.specs.Giving.{Deeds}
use Rattle.rh_nodes.specs.Opening.{Makers}
use Rattle.rh_nodes.specs.Time.{tick, tick_all, tick_ins, tick_outs, at_moment}
use Rattle.rh_nodes.specs.World.{World, at, tell}
use Rattle.law_node_history.specs.Changes.{IsTold, IsFed, IsDrawn, GoesDown, MovesTo, HasUp, MayBeTold, is_quiet}
use Rattle.law_world_ways.specs.EndsInTime.InTime.{IsOver, ended_by}
use Rattle.law_world_ways.proofs.EndsInTime.Behind.{NoLeg, OrNow}
use Rattle.law_world_ways.proofs.EndsInTime.Goes.{GoesBehind, QuietInTime, goes_none, goes_one, goes_then, goes_for_each, goes_over}

module _ {K C S I O : Type 0} (r : Rulebook C S I O) (m : Makers K I O) (d : Deeds C S) where
  -- ---- a leg is lost that was over before

  abbrev IsLeg : Leg → Leg → Type 0
  IsLeg leg other = other ≡ leg

  told_one : (w : World K C S I O) (leg : Leg) (node : Who) (event : Event)
      → ended_by (IsTold node event) ≡ Some leg → MayBeTold r w node event
      → GoesBehind is_quiet r m d (IsLeg leg) w (tell r w node event)
  told_one w leg node event is may =
      goes_one r m d (IsLeg leg) w (IsTold node event) may refl
      (subst (λ o. IfSome o (OrNow r m d (IsLeg leg) w)) (sym is) (inl refl))

  lose_goes : (w : World K C S I O) (leg : Leg) (end : Side) (event : Event)
      → (HasUp w (at w leg end) leg end → MayBeTold r w (at w leg end) event)
      → ended_by (IsTold (at w leg end) event) ≡ Some leg
      → GoesBehind is_quiet r m d (IsLeg leg) w (lose r w leg end event)
  lose_goes w leg end event may is =
      let node = at w leg end in
      by_test (λ (v : World K C S I O). GoesBehind is_quiet r m d (IsLeg leg) w v)
      (legs.is_up leg end w.legs) (lost r w node leg end event) w
      (λ e.
      let v = tell r w node event in
      goes_then r m d (IsLeg leg) w v (lost r w node leg end event)
      (told_one w leg node event is (may (record { stands = refl; up = e })))
      (goes_one r m d (IsLeg leg) v (GoesDown node leg end) (record { stands = refl; up = e }) refl
      (inl refl)))
      (λ e. goes_none r m d (IsLeg leg) w)

  broken_goes : (w : World K C S I O) (leg : Leg) (end : Side)
      → GoesBehind is_quiet r m d (IsLeg leg) w (lose r w leg end (Breaks leg))
  broken_goes w leg end = lose_goes w leg end (Breaks leg) (λ has. inl (end, has)) refl

  ended_goes : (w : World K C S I O) (leg : Leg) (end : Side)
      → GoesBehind is_quiet r m d (IsLeg leg) w (lose r w leg end (Ends leg))
  ended_goes w leg end = lose_goes w leg end (Ends leg) (λ has. (end, has)) refl

  -- a leg that is over now
  over_goes : (w v : World K C S I O) (leg : Leg) → IsOver r w leg
      → GoesBehind is_quiet r m d (IsLeg leg) w v → QuietInTime r m d w v
  over_goes w v leg over a =
      goes_over r m d (IsLeg leg) NoLeg w v
      (λ other is. inr (subst (λ (one : Leg). IsOver r w one) (sym is) over)) a

  -- ---- a leg is lost where it is over

  -- what was done is of a leg that is over
  abbrev LosesOver : World K C S I O → Leg → World K C S I O × Bool → Type 0
  LosesOver w leg did = (did.1 ≡ true → IsOver r w leg) → QuietInTime r m d w did.0

  refused_in_time : (w : World K C S I O) (leg : Leg) → LosesOver w leg (refuse r w leg)
  refused_in_time w leg =
      let client = at w leg side.Client in
      let server = at w leg side.Server in
      by_test (LosesOver w leg) (company.wants r w.company client leg)
      (tell r w client (Breaks leg), true)
      (if company.wants r w.company server leg then (tell r w server (Breaks leg), true)
      else (w, false))
      (λ e over. over_goes w (tell r w client (Breaks leg)) leg (over refl)
      (told_one w leg client (Breaks leg) refl (inr e)))
      (λ f. by_test (LosesOver w leg) (company.wants r w.company server leg)
      (tell r w server (Breaks leg), true) (w, false)
      (λ e over. over_goes w (tell r w server (Breaks leg)) leg (over refl)
      (told_one w leg server (Breaks leg) refl (inr e)))
      (λ e over. goes_none r m d NoLeg w))

  pub break_in_time : (w : World K C S I O) (leg : Leg) → LosesOver w leg (break_leg r w leg)
  break_in_time w leg =
      let v = lose r w leg side.Client (Breaks leg) in
      let u = lose r v leg side.Server (Breaks leg) in
      by_test (LosesOver w leg) (is_up w leg) (u, true) (refuse r w leg)
      (λ e over. over_goes w u leg (over refl)
      (goes_then r m d (IsLeg leg) w v u (broken_goes w leg side.Client)
      (broken_goes v leg side.Server)))
      (λ e. refused_in_time w leg)

  pub end_in_time : (w : World K C S I O) (leg : Leg) (dir : Dir)
      → LosesOver w leg (end_leg r w leg dir)
  end_in_time w leg dir =
      let v = lose r w leg (sender dir) (Breaks leg) in
      let u = lose r v leg (receiver dir) (Ends leg) in
      by_test (LosesOver w leg) (is_up w leg && legs.is_clear leg dir w.legs) (u, true) (w, false)
      (λ e over. over_goes w u leg (over refl)
      (goes_then r m d (IsLeg leg) w v u (broken_goes w leg (sender dir))
      (ended_goes v leg (receiver dir))))
      (λ e over. goes_none r m d NoLeg w)

  -- ---- bytes are carried

  pub send_in_time : (w : World K C S I O) (leg : Leg) (dir : Dir) (count : ℕ)
      → QuietInTime r m d w (send r w leg dir count).0
  send_in_time w leg dir count = by (legs.is_up leg (sender dir) w.legs) refl
    where
      by : (t : Bool) → legs.is_up leg (sender dir) w.legs ≡ t
          → QuietInTime r m d w (if t
          then sent w (draw_into r w.company w.legs (at w leg (sender dir)) leg dir count)
          else (w, None)).0
      by true e = goes_one r m d NoLeg w (IsDrawn leg dir count) e refl tt
      by false e = goes_none r m d NoLeg w

  pub feed_in_time : (w : World K C S I O) (leg : Leg) (dir : Dir) (count : ℕ)
      → QuietInTime r m d w (feed r w leg dir count).0
  feed_in_time w leg dir count = by (legs.is_up leg (receiver dir) w.legs) refl
    where
      by : (t : Bool) → legs.is_up leg (receiver dir) w.legs ≡ t
          → QuietInTime r m d w (if t then fed r w leg dir (legs.take_out leg dir count w.legs)
          else (w, None)).0
      by true e = goes_one r m d NoLeg w (IsFed leg dir count) e refl tt
      by false e = goes_none r m d NoLeg w

  -- ---- time passes

  passed : (w : World K C S I O) (node : Who) (now : ℕ)
      → QuietInTime r m d w (tell r w node (Passes now))
  passed w node now = goes_one r m d NoLeg w (IsTold node (Passes now)) tt refl tt

  tick_all_in_time : (w : World K C S I O) (now : ℕ)
      → QuietInTime r m d w (tick_all r (Passes now) w)
  tick_all_in_time w now =
      let client = tell r w who.Client (Passes now) in
      let server = tell r client who.Server (Passes now) in
      let ins = tick_ins r (Passes now) server in
      let outs = tick_outs r (Passes now) ins in
      goes_then r m d NoLeg w client outs (passed w who.Client now)
      (goes_then r m d NoLeg client server outs (passed client who.Server now)
      (goes_then r m d NoLeg server ins outs
      (goes_for_each r m d NoLeg (length server.company.ins)
      (λ number world. tell r world (who.In number) (Passes now)) server
      (λ number v. passed v (who.In number) now))
      (goes_for_each r m d NoLeg (length ins.company.outs)
      (λ number world. tell r world (who.Out number) (Passes now)) ins
      (λ number v. passed v (who.Out number) now))))

  pub tick_in_time : (w : World K C S I O) (now : ℕ) → QuietInTime r m d w (tick r w now).0
  tick_in_time w now =
      let v = at_moment now w in
      by_test (λ (did : World K C S I O × Bool). QuietInTime r m d w did.0) (nat_le w.now now)
      (tick_all r (Passes now) v, true) (w, false)
      (λ e. goes_then r m d NoLeg w v (tick_all r (Passes now) v)
      (goes_one r m d NoLeg w (MovesTo now) (leb-true w.now now e) refl tt)
      (tick_all_in_time v now))
      (λ e. goes_none r m d NoLeg w)
