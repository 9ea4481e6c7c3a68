-- what the lines tell by which a leg is lost, bytes are carried or time passes, they answer
use Rattle.rh_text.specs.declared.ends.Side.TheVariants as side
use Rattle.law_order.proofs.Vocabulary.{◌≡◌, ℕ, List, [], Bool, true, false, ◌&&◌, if◌then◌else◌, length, Some, None, refl, ◌⊎◌, inl, inr, nat_le, leb-true}
use Rattle.rh_record.specs.declared.answer.Answer.TheVariants as answer
use Rattle.rh_record.specs.declared.answer.Who.TheVariants as who
use Rattle.rh_wires.specs.Legs as legs
use Rattle.rh_company.specs.Company as company
use Rattle.rh_nodes.specs.Time.{at_moment}
use Rattle.rh_nodes.specs.World.{tell}
use Rattle.law_moves.proofs.Vocabulary.{Dir, Side, Leg}
use Rattle.law_node_history.proofs.Vocabulary.{Answer, Who, sender, receiver, Event, Ends, Breaks, Passes, Rulebook, is_up, lost, lose, refuse, break_leg, end_leg, send, sent, draw_into, feed, fed, Deeds, Makers, tick, tick_all, tick_ins, tick_outs, World, at, IsTold, IsFed, IsDrawn, GoesDown, MovesTo, HasUp, MayBeTold, IsOneOf}
use Rattle.law_world_reports.proofs.Closed.Showing.{ShownOk, shown_none, shown_one, shown_then, shown_more, shown_for_each}
use Rattle.law_world_reports.proofs.Vocabulary.{Shows, ShownWorks}

module _ {K C S I O : Type 0} (r : Rulebook C S I O) (m : Makers K I O) (d : Deeds C S)
    (all : List Answer) where
  -- what was done is answered
  abbrev Answers : World K C S I O × Bool → Answer → Type 0
  Answers did one = did.1 ≡ true → IsOneOf one all

  -- ---- a leg is lost

  shown_lose : (w : World K C S I O) (leg : Leg) (end : Side) (event : Event)
      → (HasUp w (at w leg end) leg end → MayBeTold r w (at w leg end) event)
      → (HasUp w (at w leg end) leg end → Shows all w (at w leg end) event)
      → ShownWorks r m d all w (lose r w leg end event)
  shown_lose w leg end event may shows = by (legs.is_up leg end w.legs) refl
    where
      by : (t : Bool) → legs.is_up leg end w.legs ≡ t
          → ShownWorks r m d all w (if t then lost r w (at w leg end) leg end event else w)
      by false e = shown_none r m d all w
      by true e =
          let node = at w leg end in
          let has : HasUp w node leg end = record { stands = refl; up = e } in
          shown_more r m d all w (tell r w node event) (GoesDown node leg end)
          (shown_one r m d all w (IsTold node event) (may has) refl (shows has))
          (record { stands = refl; up = e }) refl tt

  shown_broken : (w : World K C S I O) (leg : Leg) (end : Side)
      → (HasUp w (at w leg end) leg end → Shows all w (at w leg end) (Breaks leg))
      → ShownWorks r m d all w (lose r w leg end (Breaks leg))
  shown_broken w leg end shows =
      shown_lose w leg end (Breaks leg) (λ has. inl (end, has)) shows

  shown_refused : (w : World K C S I O) (leg : Leg)
      → Answers (refuse r w leg) (answer.BreakLeg leg true)
      → ShownWorks r m d all w (refuse r w leg).0
  shown_refused w leg =
      by_client (company.wants r w.company (at w leg side.Client) leg) refl
    where
      by_server : (t : Bool) → company.wants r w.company (at w leg side.Server) leg ≡ t
          → Answers (if t then (tell r w (at w leg side.Server) (Breaks leg), true)
          else (w, false)) (answer.BreakLeg leg true)
          → ShownOk r m d all w (if t then (tell r w (at w leg side.Server) (Breaks leg), true)
          else (w, false))
      by_server true e told =
          shown_one r m d all w (IsTold (at w leg side.Server) (Breaks leg)) (inr e) refl
          (inl (told refl))
      by_server false e told = shown_none r m d all w

      by_client : (t : Bool) → company.wants r w.company (at w leg side.Client) leg ≡ t
          → Answers (if t then (tell r w (at w leg side.Client) (Breaks leg), true)
          else (if company.wants r w.company (at w leg side.Server) leg
          then (tell r w (at w leg side.Server) (Breaks leg), true) else (w, false)))
          (answer.BreakLeg leg true)
          → ShownOk r m d all w (if t then (tell r w (at w leg side.Client) (Breaks leg), true)
          else (if company.wants r w.company (at w leg side.Server) leg
          then (tell r w (at w leg side.Server) (Breaks leg), true) else (w, false)))
      by_client true e told =
          shown_one r m d all w (IsTold (at w leg side.Client) (Breaks leg)) (inr e) refl
          (inl (told refl))
      by_client false e told =
          by_server (company.wants r w.company (at w leg side.Server) leg) refl told

  pub shown_break_leg : (w : World K C S I O) (leg : Leg)
      → Answers (break_leg r w leg) (answer.BreakLeg leg true)
      → ShownWorks r m d all w (break_leg r w leg).0
  shown_break_leg w leg = by (is_up w leg)
    where
      by : (t : Bool) → Answers (if t
          then (lose r (lose r w leg side.Client (Breaks leg)) leg side.Server (Breaks leg), true)
          else refuse r w leg) (answer.BreakLeg leg true)
          → ShownOk r m d all w (if t
          then (lose r (lose r w leg side.Client (Breaks leg)) leg side.Server (Breaks leg), true)
          else refuse r w leg)
      by true told =
          let v = lose r w leg side.Client (Breaks leg) in
          shown_then r m d all w v (lose r v leg side.Server (Breaks leg))
          (shown_broken w leg side.Client (λ has. inl (told refl)))
          (shown_broken v leg side.Server (λ has. inl (told refl)))
      by false told = shown_refused w leg told

  pub shown_end_leg : (w : World K C S I O) (leg : Leg) (dir : Dir)
      → Answers (end_leg r w leg dir) (answer.EndLeg leg dir true)
      → ShownWorks r m d all w (end_leg r w leg dir).0
  shown_end_leg w leg dir = by (is_up w leg && legs.is_clear leg dir w.legs)
    where
      by : (t : Bool) → Answers (if t
          then (lose r (lose r w leg (sender dir) (Breaks leg)) leg (receiver dir) (Ends leg), true)
          else (w, false)) (answer.EndLeg leg dir true)
          → ShownOk r m d all w (if t
          then (lose r (lose r w leg (sender dir) (Breaks leg)) leg (receiver dir) (Ends leg), true)
          else (w, false))
      by true told =
          let v = lose r w leg (sender dir) (Breaks leg) in
          shown_then r m d all w v (lose r v leg (receiver dir) (Ends leg))
          (shown_broken w leg (sender dir)
          (λ has. inr (record { dir = dir; puts = refl; up = has.up; shown = told refl })))
          (shown_lose v leg (receiver dir) (Ends leg) (λ has. (receiver dir, has))
          (λ has. record { dir = dir; reads = refl; shown = told refl }))
      by false told = shown_none r m d all w

  -- ---- bytes are carried

  pub shown_send : (w : World K C S I O) (leg : Leg) (dir : Dir) (count : ℕ)
      → ShownWorks r m d all w (send r w leg dir count).0
  shown_send w leg dir count = by (legs.is_up leg (sender dir) w.legs) refl
    where
      by : (t : Bool) → legs.is_up leg (sender dir) w.legs ≡ t
          → ShownWorks r m d all w (if t
          then sent w (draw_into r w.company w.legs (at w leg (sender dir)) leg dir count)
          else (w, None)).0
      by true e = shown_one r m d all w (IsDrawn leg dir count) e refl tt
      by false e = shown_none r m d all w

  pub shown_feed : (w : World K C S I O) (leg : Leg) (dir : Dir) (count : ℕ)
      → ((bytes : List ℕ) → (feed r w leg dir count).1 ≡ Some bytes
      → (bytes ≡ []) ⊎ IsOneOf (answer.Move (Some leg) dir (Some bytes)) all)
      → ShownWorks r m d all w (feed r w leg dir count).0
  shown_feed w leg dir count = by (legs.is_up leg (receiver dir) w.legs) refl
    where
      by : (t : Bool) → legs.is_up leg (receiver dir) w.legs ≡ t
          → ((bytes : List ℕ)
          → (if t then fed r w leg dir (legs.take_out leg dir count w.legs)
          else (w, None)).1 ≡ Some bytes
          → (bytes ≡ []) ⊎ IsOneOf (answer.Move (Some leg) dir (Some bytes)) all)
          → ShownWorks r m d all w (if t then fed r w leg dir (legs.take_out leg dir count w.legs)
          else (w, None)).0
      by true e told =
          shown_one r m d all w (IsFed leg dir count) e refl
          (record {
            dir = dir;
            reads = refl;
            shown = told (legs.take_out leg dir count w.legs).1 refl;
          })
      by false e told = shown_none r m d all w

  -- ---- time passes

  module _ (now : ℕ) (told : IsOneOf (answer.Tick now true) all) where
    shown_passed : (w : World K C S I O) (node : Who)
        → ShownWorks r m d all w (tell r w node (Passes now))
    shown_passed w node = shown_one r m d all w (IsTold node (Passes now)) tt refl told

    shown_tick_all : (w : World K C S I O) → ShownWorks r m d all w (tick_all r (Passes now) w)
    shown_tick_all w =
        let client = tell r w who.Client (Passes now) in
        let server = tell r client who.Server (Passes now) in
        let ins = tick_ins r (Passes now) server in
        shown_then r m d all w client (tick_outs r (Passes now) ins) (shown_passed w who.Client)
        (shown_then r m d all client server (tick_outs r (Passes now) ins)
        (shown_passed client who.Server)
        (shown_then r m d all server ins (tick_outs r (Passes now) ins)
        (shown_for_each r m d all (length server.company.ins)
        (λ number world. tell r world (who.In number) (Passes now)) server
        (λ number v. shown_passed v (who.In number)))
        (shown_for_each r m d all (length ins.company.outs)
        (λ number world. tell r world (who.Out number) (Passes now)) ins
        (λ number v. shown_passed v (who.Out number)))))

  pub shown_tick : (w : World K C S I O) (now : ℕ)
      → Answers (tick r w now) (answer.Tick now true)
      → ShownWorks r m d all w (tick r w now).0
  shown_tick w now = by (nat_le w.now now) refl
    where
      by : (t : Bool) → nat_le w.now now ≡ t
          → Answers (if t then (tick_all r (Passes now) (at_moment now w), true)
          else (w, false)) (answer.Tick now true)
          → ShownOk r m d all w (if t then (tick_all r (Passes now) (at_moment now w), true)
          else (w, false))
      by true e told =
          let v = at_moment now w in
          shown_then r m d all w v (tick_all r (Passes now) v)
          (shown_one r m d all w (MovesTo now) (leb-true w.now now e) refl tt)
          (shown_tick_all now (told refl) v)
      by false e told = shown_none r m d all w
