-- lines tell what they feed
use Rattle.rh_text.specs.declared.ends.Side.TheVariants as side
use Rattle.law_order.proofs.Vocabulary.{◌≡◌, ℕ, List, [], Bool, true, false, ◌&&◌, if◌then◌else◌, length, Some, None, Option, refl, sym, inl, inr, nat_le, leb-true, append-nil}
use Rattle.law_order.proofs.ByNumber.{by_test}
use Rattle.rh_record.specs.declared.answer.Answer.TheVariants as answer
use Rattle.rh_record.specs.declared.answer.Who.TheVariants as who
use Rattle.rh_record.specs.declared.line.Line.TheVariants as line
use Rattle.rh_wires.specs.Legs as legs
use Rattle.rh_company.specs.Company as company
use Rattle.rh_nodes.specs.Time.{at_moment}
use Rattle.rh_nodes.specs.World.{tell}
use Rattle.law_moves.proofs.Vocabulary.{Dir, Side, Leg}
use Rattle.law_node_history.proofs.Connecting.{joins_open_leg, joins_open_same}
use Rattle.law_node_history.proofs.Drawing.{stands}
use Rattle.law_node_history.proofs.Vocabulary.{Answer, Who, Line, sender, receiver, Event, Ends, Breaks, Passes, Rulebook, is_up, lost, lose, refuse, break_leg, end_leg, send, sent, draw_into, feed, fed, Deeds, Makers, open_leg, open_same, reported, ending_answer, leg_answer, answer_of, tick, tick_all, tick_ins, tick_outs, World, at, IsTold, IsFed, IsDrawn, GoesDown, MovesTo, Gives, Takes, Closes, RecyclesIn, RecyclesOut, HasUp, MayBeTold}
use Rattle.law_node_history.proofs.Working.{works_one}
use Rattle.law_world_audited.specs.Moving.Moved.{moved_by}
use Rattle.law_world_audited.proofs.Moving.Feeding.{Dry, Feeds, Goes, dry_connecting, dry_for_each, dry_none, dry_one, dry_then, goes_one}

module _ {K C S I O : Type 0} (r : Rulebook C S I O) (m : Makers K I O) (d : Deeds C S) where
  -- ---- a leg is lost

  told_dry : (w : World K C S I O) (node : Who) (event : Event) → MayBeTold r w node event
      → Dry r m d w (tell r w node event)
  told_dry w node event may = dry_one r m d w (IsTold node event) may refl (λ leg dir. refl)

  lose_dry : (w : World K C S I O) (leg : Leg) (end : Side) (event : Event)
      → (HasUp w (at w leg end) leg end → MayBeTold r w (at w leg end) event)
      → Dry r m d w (lose r w leg end event)
  lose_dry w leg end event may =
      let node = at w leg end in
      by_test (λ (v : World K C S I O). Dry r m d w v) (legs.is_up leg end w.legs)
      (lost r w node leg end event) w
      (λ e.
      let v = tell r w node event in
      dry_then r m d w v (lost r w node leg end event)
      (told_dry w node event (may (record { stands = refl; up = e })))
      (dry_one r m d v (GoesDown node leg end) (record { stands = refl; up = e }) refl
      (λ other dir. refl)))
      (λ e. dry_none r m d w)

  broken_dry : (w : World K C S I O) (leg : Leg) (end : Side)
      → Dry r m d w (lose r w leg end (Breaks leg))
  broken_dry w leg end = lose_dry w leg end (Breaks leg) (λ has. inl (end, has))

  abbrev DryOk : World K C S I O → World K C S I O × Bool → Type 0
  DryOk w did = Dry r m d w did.0

  refused_dry : (w : World K C S I O) (leg : Leg) → DryOk w (refuse r w leg)
  refused_dry w leg =
      let client = at w leg side.Client in
      let server = at w leg side.Server in
      by_test (DryOk w) (company.wants r w.company client leg) (tell r w client (Breaks leg), true)
      (if company.wants r w.company server leg then (tell r w server (Breaks leg), true)
      else (w, false))
      (λ e. told_dry w client (Breaks leg) (inr e))
      (λ f. by_test (DryOk w) (company.wants r w.company server leg)
      (tell r w server (Breaks leg), true) (w, false)
      (λ e. told_dry w server (Breaks leg) (inr e)) (λ e. dry_none r m d w))

  break_dry : (w : World K C S I O) (leg : Leg) → DryOk w (break_leg r w leg)
  break_dry w leg =
      let v = lose r w leg side.Client (Breaks leg) in
      let u = lose r v leg side.Server (Breaks leg) in
      by_test (DryOk w) (is_up w leg) (u, true) (refuse r w leg)
      (λ e. dry_then r m d w v u (broken_dry w leg side.Client) (broken_dry v leg side.Server))
      (λ e. refused_dry w leg)

  pub end_dry : (w : World K C S I O) (leg : Leg) (dir : Dir) → DryOk w (end_leg r w leg dir)
  end_dry w leg dir =
      let v = lose r w leg (sender dir) (Breaks leg) in
      let u = lose r v leg (receiver dir) (Ends leg) in
      by_test (DryOk w) (is_up w leg && legs.is_clear leg dir w.legs) (u, true) (w, false)
      (λ e. dry_then r m d w v u (broken_dry w leg (sender dir))
      (lose_dry v leg (receiver dir) (Ends leg) (λ has. (receiver dir, has))))
      (λ e. dry_none r m d w)

  -- ---- bytes are carried

  pub send_dry : (w : World K C S I O) (leg : Leg) (dir : Dir) (count : ℕ)
      → Dry r m d w (send r w leg dir count).0
  send_dry w leg dir count = by (legs.is_up leg (sender dir) w.legs) refl
    where
      by : (t : Bool) → legs.is_up leg (sender dir) w.legs ≡ t
          → Dry r m d w (if t
          then sent w (draw_into r w.company w.legs (at w leg (sender dir)) leg dir count)
          else (w, None)).0
      by true e = dry_one r m d w (IsDrawn leg dir count) e refl (λ other way. refl)
      by false e = dry_none r m d w

  -- what is fed is told
  abbrev pub FeedsOn : World K C S I O → Leg → Dir → World K C S I O × Option (List ℕ) → Type 0
  FeedsOn w leg dir did =
      Feeds r m d (λ other way. moved_by other way (answer.Move (Some leg) dir did.1)) w did.0

  pub feed_feeds : (w : World K C S I O) (leg : Leg) (dir : Dir) (count : ℕ)
      → FeedsOn w leg dir (feed r w leg dir count)
  feed_feeds w leg dir count = by (legs.is_up leg (receiver dir) w.legs) refl
    where
      by : (t : Bool) → legs.is_up leg (receiver dir) w.legs ≡ t
          → FeedsOn w leg dir (if t
          then fed r w leg dir (legs.take_out leg dir count w.legs)
          else (w, None))
      by true e = record {
        by = works_one r m d w (IsFed leg dir count) e refl;
        drawn = stands r m d w;
        fed = λ other way.
            sym (append-nil (moved_by other way
            (answer.Move (Some leg) dir (Some (legs.take_out leg dir count w.legs).1))));
      }
      by false e = dry_none r m d w

  -- ---- time passes

  passed : (w : World K C S I O) (node : Who) (now : ℕ)
      → Dry r m d w (tell r w node (Passes now))
  passed w node now = told_dry w node (Passes now) tt

  tick_all_dry : (w : World K C S I O) (now : ℕ) → Dry r m d w (tick_all r (Passes now) w)
  tick_all_dry w now =
      let client = tell r w who.Client (Passes now) in
      let server = tell r client who.Server (Passes now) in
      let ins = tick_ins r (Passes now) server in
      let outs = tick_outs r (Passes now) ins in
      dry_then r m d w client outs (passed w who.Client now)
      (dry_then r m d client server outs (passed client who.Server now)
      (dry_then r m d server ins outs
      (dry_for_each r m d (length server.company.ins)
      (λ number world. tell r world (who.In number) (Passes now)) server
      (λ number v. passed v (who.In number) now))
      (dry_for_each r m d (length ins.company.outs)
      (λ number world. tell r world (who.Out number) (Passes now)) ins
      (λ number v. passed v (who.Out number) now))))

  tick_dry : (w : World K C S I O) (now : ℕ) → DryOk w (tick r w now)
  tick_dry w now =
      let v = at_moment now w in
      by_test (DryOk w) (nat_le w.now now) (tick_all r (Passes now) v, true) (w, false)
      (λ e. dry_then r m d w v (tick_all r (Passes now) v)
      (dry_one r m d w (MovesTo now) (leb-true w.now now e) refl (λ leg dir. refl))
      (tick_all_dry v now))
      (λ e. dry_none r m d w)

  -- ---- lines

  abbrev told_by : Option Answer → Leg → Dir → List ℕ
  told_by None leg dir = []
  told_by (Some one) leg dir = moved_by leg dir one

  abbrev Answers : World K C S I O → World K C S I O × Option Answer → Type 0
  Answers w did = Feeds r m d (told_by did.1) w did.0

  ending_tells : (w : World K C S I O) (one : Line) → Answers w (ending_answer r w one)
  ending_tells w (line.BreakLeg leg) = break_dry w leg
  ending_tells w (line.EndLeg leg dir) = end_dry w leg dir
  ending_tells w (line.Tick now) = tick_dry w now
  ending_tells w one = dry_none r m d w

  leg_tells : (w : World K C S I O) (one : Line) → Answers w (leg_answer r m w one)
  leg_tells w (line.Send (Some leg) dir count) = send_dry w leg dir count
  leg_tells w (line.Move (Some leg) dir count) = feed_feeds w leg dir count
  leg_tells w (line.OpenLeg leg) =
      dry_connecting r m d w (open_leg r m w leg).0 (joins_open_leg r m d w leg)
  leg_tells w (line.OpenSame leg) =
      dry_connecting r m d w (open_same r w leg).0 (joins_open_same r m d w leg)
  leg_tells w one = ending_tells w one

  answer_tells : (w : World K C S I O) (one : Line) → Answers w (answer_of r m d w one)
  answer_tells w (line.Give side.Client pdu) =
      dry_one r m d w (Gives side.Client pdu) tt refl (λ leg dir. refl)
  answer_tells w (line.Give side.Server pdu) =
      dry_one r m d w (Gives side.Server pdu) tt refl (λ leg dir. refl)
  answer_tells w (line.Take end) = dry_one r m d w (Takes end) tt refl (λ leg dir. refl)
  answer_tells w (line.Close side.Client) =
      dry_one r m d w (Closes side.Client) tt refl (λ leg dir. refl)
  answer_tells w (line.Close side.Server) =
      dry_one r m d w (Closes side.Server) tt refl (λ leg dir. refl)
  answer_tells w line.RecycleIn = dry_one r m d w RecyclesIn tt refl (λ leg dir. refl)
  answer_tells w line.RecycleOut = dry_one r m d w RecyclesOut tt refl (λ leg dir. refl)
  answer_tells w one = leg_tells w one

  reported_goes : (w : World K C S I O) (did : World K C S I O × Option Answer)
      → Answers w did → Goes r m d w (reported did)
  reported_goes w (v, None) a = a
  reported_goes w (v, Some one) a = goes_one r m d w v one a

  pub answer_goes : (w : World K C S I O) (one : Line)
      → Goes r m d w (reported (answer_of r m d w one))
  answer_goes w one = reported_goes w (answer_of r m d w one) (answer_tells w one)
