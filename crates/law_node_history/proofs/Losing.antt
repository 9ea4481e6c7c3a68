-- the lines by which a leg is lost are changes, and those by which bytes are carried or time passes
use Rattle.rh_text.specs.declared.ends.Side.TheVariants as side
use Rattle.law_order.proofs.Vocabulary.{◌≡◌, ℕ, Bool, true, false, ◌&&◌, if◌then◌else◌, length, None, refl, inl, inr, nat_le, leb-true}
use Rattle.rh_record.specs.declared.answer.Who.TheVariants as who
use Rattle.rh_wires.specs.Legs as legs
use Rattle.rh_company.specs.Company as company
use Rattle.rh_nodes.specs.Time.{at_moment}
use Rattle.rh_nodes.specs.World.{tell}
use Rattle.law_moves.proofs.Vocabulary.{Dir, Side, Leg}
use Rattle.law_node_history.proofs.Vocabulary.{Who, sender, receiver, Event, Ends, Breaks, Passes, Rulebook, is_up, lost, lose, refuse, break_leg, end_leg, send, sent, draw_into, feed, fed, Deeds, Makers, tick, tick_all, tick_ins, tick_outs, World, at, IsTold, IsFed, IsDrawn, GoesDown, MovesTo, HasUp, MayBeTold}
use Rattle.law_node_history.proofs.Drawing.{DrawsOk, DrawsQuietly, draws_none, draws_one, draws_then, draws_more, draws_for_each}

module _ {K C S I O : Type 0} (r : Rulebook C S I O) (m : Makers K I O) (d : Deeds C S) where
  -- ---- a leg is lost

  pub draws_lose : (w : World K C S I O) (leg : Leg) (end : Side) (event : Event)
      → (HasUp w (at w leg end) leg end → MayBeTold r w (at w leg end) event)
      → DrawsQuietly r m d w (lose r w leg end event)
  draws_lose w leg end event may = by (legs.is_up leg end w.legs) refl
    where
      by : (t : Bool) → legs.is_up leg end w.legs ≡ t
          → DrawsQuietly r m d w (if t then lost r w (at w leg end) leg end event else w)
      by false e = draws_none r m d w
      by true e =
          let node = at w leg end in
          let has : HasUp w node leg end = record { stands = refl; up = e } in
          draws_more r m d w (tell r w node event) (GoesDown node leg end)
          (draws_one r m d w (IsTold node event) (may has) refl) (record { stands = refl; up = e })
          refl

  pub draws_broken : (w : World K C S I O) (leg : Leg) (end : Side)
      → DrawsQuietly r m d w (lose r w leg end (Breaks leg))
  draws_broken w leg end = draws_lose w leg end (Breaks leg) (λ has. inl (end, has))

  pub draws_ended : (w : World K C S I O) (leg : Leg) (end : Side)
      → DrawsQuietly r m d w (lose r w leg end (Ends leg))
  draws_ended w leg end = draws_lose w leg end (Ends leg) (λ has. (end, has))

  draws_refused : (w : World K C S I O) (leg : Leg) → DrawsQuietly r m d w (refuse r w leg).0
  draws_refused w leg =
      by_client (company.wants r w.company (at w leg side.Client) leg) refl
    where
      by_server : (t : Bool) → company.wants r w.company (at w leg side.Server) leg ≡ t
          → DrawsOk r m d w (if t then (tell r w (at w leg side.Server) (Breaks leg), true)
          else (w, false))
      by_server true e =
          draws_one r m d w (IsTold (at w leg side.Server) (Breaks leg)) (inr e) refl
      by_server false e = draws_none r m d w

      by_client : (t : Bool) → company.wants r w.company (at w leg side.Client) leg ≡ t
          → DrawsOk r m d w (if t then (tell r w (at w leg side.Client) (Breaks leg), true)
          else (if company.wants r w.company (at w leg side.Server) leg
          then (tell r w (at w leg side.Server) (Breaks leg), true) else (w, false)))
      by_client true e =
          draws_one r m d w (IsTold (at w leg side.Client) (Breaks leg)) (inr e) refl
      by_client false e = by_server (company.wants r w.company (at w leg side.Server) leg) refl

  pub draws_break_leg : (w : World K C S I O) (leg : Leg)
      → DrawsQuietly r m d w (break_leg r w leg).0
  draws_break_leg w leg = by (is_up w leg)
    where
      by : (t : Bool) → DrawsOk r m d w (if t
          then (lose r (lose r w leg side.Client (Breaks leg)) leg side.Server (Breaks leg), true)
          else refuse r w leg)
      by true =
          let v = lose r w leg side.Client (Breaks leg) in
          draws_then r m d w v (lose r v leg side.Server (Breaks leg))
          (draws_broken w leg side.Client) (draws_broken v leg side.Server)
      by false = draws_refused w leg

  pub draws_end_leg : (w : World K C S I O) (leg : Leg) (dir : Dir)
      → DrawsQuietly r m d w (end_leg r w leg dir).0
  draws_end_leg w leg dir = by (is_up w leg && legs.is_clear leg dir w.legs)
    where
      by : (t : Bool) → DrawsOk r m d w (if t
          then (lose r (lose r w leg (sender dir) (Breaks leg)) leg (receiver dir) (Ends leg), true)
          else (w, false))
      by true =
          let v = lose r w leg (sender dir) (Breaks leg) in
          draws_then r m d w v (lose r v leg (receiver dir) (Ends leg))
          (draws_broken w leg (sender dir)) (draws_ended v leg (receiver dir))
      by false = draws_none r m d w

  -- ---- bytes are carried

  pub draws_send : (w : World K C S I O) (leg : Leg) (dir : Dir) (count : ℕ)
      → DrawsQuietly r m d w (send r w leg dir count).0
  draws_send w leg dir count = by (legs.is_up leg (sender dir) w.legs) refl
    where
      by : (t : Bool) → legs.is_up leg (sender dir) w.legs ≡ t
          → DrawsQuietly r m d w (if t
          then sent w (draw_into r w.company w.legs (at w leg (sender dir)) leg dir count)
          else (w, None)).0
      by true e = draws_one r m d w (IsDrawn leg dir count) e refl
      by false e = draws_none r m d w

  pub draws_feed : (w : World K C S I O) (leg : Leg) (dir : Dir) (count : ℕ)
      → DrawsQuietly r m d w (feed r w leg dir count).0
  draws_feed w leg dir count = by (legs.is_up leg (receiver dir) w.legs) refl
    where
      by : (t : Bool) → legs.is_up leg (receiver dir) w.legs ≡ t
          → DrawsQuietly r m d w (if t then fed r w leg dir (legs.take_out leg dir count w.legs)
          else (w, None)).0
      by true e = draws_one r m d w (IsFed leg dir count) e refl
      by false e = draws_none r m d w

  -- ---- time passes

  draws_passed : (w : World K C S I O) (node : Who) (now : ℕ)
      → DrawsQuietly r m d w (tell r w node (Passes now))
  draws_passed w node now = draws_one r m d w (IsTold node (Passes now)) tt refl

  draws_tick_all : (w : World K C S I O) (now : ℕ)
      → DrawsQuietly r m d w (tick_all r (Passes now) w)
  draws_tick_all w now =
      let client = tell r w who.Client (Passes now) in
      let server = tell r client who.Server (Passes now) in
      let ins = tick_ins r (Passes now) server in
      draws_then r m d w client (tick_outs r (Passes now) ins) (draws_passed w who.Client now)
      (draws_then r m d client server (tick_outs r (Passes now) ins)
      (draws_passed client who.Server now)
      (draws_then r m d server ins (tick_outs r (Passes now) ins)
      (draws_for_each r m d (length server.company.ins)
      (λ number world. tell r world (who.In number) (Passes now)) server
      (λ number v. draws_passed v (who.In number) now))
      (draws_for_each r m d (length ins.company.outs)
      (λ number world. tell r world (who.Out number) (Passes now)) ins
      (λ number v. draws_passed v (who.Out number) now))))

  pub draws_tick : (w : World K C S I O) (now : ℕ) → DrawsQuietly r m d w (tick r w now).0
  draws_tick w now = by (nat_le w.now now) refl
    where
      by : (t : Bool) → nat_le w.now now ≡ t
          → DrawsOk r m d w (if t then (tick_all r (Passes now) (at_moment now w), true)
          else (w, false))
      by true e =
          let v = at_moment now w in
          draws_then r m d w v (tick_all r (Passes now) v)
          (draws_one r m d w (MovesTo now) (leb-true w.now now e) refl)
          (draws_tick_all v now)
      by false e = draws_none r m d w
