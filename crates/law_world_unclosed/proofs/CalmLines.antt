-- each line of a calm recording is done in steps
use Rattle.law_order.proofs.Vocabulary.{◌≡◌, ℕ, zero, suc, Bool, true, false, Some, None, refl, length, nat_le, leb-true, Option}
use Rattle.rh_record.specs.declared.answer.Who.TheVariants as who
use Rattle.rh_record.specs.declared.line.Line.TheVariants as line
use Rattle.law_moves.proofs.Vocabulary.{by_test}
use Rattle.law_node_history.proofs.Vocabulary.{Answer, Who, Line, Passes, Rulebook, Deeds, Makers, open_leg, open_same, answer_of, ending_answer, leg_answer, reported, step_line, for_each, tick, tick_all, tick_ins, tick_outs, World, IsTold, Gives, Takes, Closes, RecyclesIn, RecyclesOut, MovesTo}
use Rattle.law_node_history.proofs.Lemmas.{connects_open_leg, connects_open_same}
use Rattle.rh_nodes.specs.Time.{at_moment}
use Rattle.rh_nodes.specs.World.{tell}
use Rattle.law_world_ways.specs.EndsInTime.Both.{AreUpAtBoth}
use Rattle.law_world_calm.proofs.Steps.{InSteps, IsPlain, connecting, feed_in_steps, in_none, in_one, in_then, send_in_steps, settles_in_steps}
use Rattle.law_world_calm.specs.Calm.{is_calm}

module _ {K C S I O : Type 0} (r : Rulebook C S I O) (m : Makers K I O) (d : Deeds C S) where
  abbrev Does : World K C S I O → World K C S I O → Type 0
  Does w v = InSteps r m d w v

  -- ---- time passes

  passed : (w : World K C S I O) (node : Who) (now : ℕ) → Does w (tell r w node (Passes now))
  passed w node now = in_one r m d w (IsPlain (IsTold node (Passes now))) (tt, refl)

  each_does : (n : ℕ) (act : ℕ → World K C S I O → World K C S I O) (w : World K C S I O)
      → ((k : ℕ) (v : World K C S I O) → Does v (act k v)) → Does w (for_each n act w)
  each_does zero act w one = in_none r m d w
  each_does (suc n) act w one =
      in_then r m d w (for_each n act w) (act n (for_each n act w)) (each_does n act w one)
      (one n (for_each n act w))

  all_passed : (w : World K C S I O) (now : ℕ) → Does w (tick_all r (Passes now) w)
  all_passed w now =
      let client = tell r w who.Client (Passes now) in
      let server = tell r client who.Server (Passes now) in
      let ins = tick_ins r (Passes now) server in
      let outs = tick_outs r (Passes now) ins in
      in_then r m d w client outs (passed w who.Client now)
      (in_then r m d client server outs (passed client who.Server now)
      (in_then r m d server ins outs
      (each_does (length server.company.ins)
      (λ number world. tell r world (who.In number) (Passes now)) server
      (λ number v. passed v (who.In number) now))
      (each_does (length ins.company.outs)
      (λ number world. tell r world (who.Out number) (Passes now)) ins
      (λ number v. passed v (who.Out number) now))))

  tick_does : (w : World K C S I O) (now : ℕ) → Does w (tick r w now).0
  tick_does w now =
      let v = at_moment now w in
      by_test (λ (did : World K C S I O × Bool). Does w did.0) (nat_le w.now now)
      (tick_all r (Passes now) v, true) (w, false)
      (λ e. in_then r m d w v (tick_all r (Passes now) v)
      (in_one r m d w (IsPlain (MovesTo now)) (leb-true w.now now e, refl)) (all_passed v now))
      (λ e. in_none r m d w)

  -- ---- lines

  ending_does : (w : World K C S I O) (one : Line) → is_calm one ≡ true
      → Does w (ending_answer r w one).0
  ending_does w (line.BreakLeg leg) calm = absurd cc
  ending_does w (line.EndLeg leg dir) calm = absurd cc
  ending_does w (line.Tick now) calm = tick_does w now
  ending_does w one calm = in_none r m d w

  leg_does : (w : World K C S I O) (one : Line) → is_calm one ≡ true
      → Does w (leg_answer r m w one).0
  leg_does w (line.Send (Some leg) dir count) calm = send_in_steps r m d w leg dir count
  leg_does w (line.Move (Some leg) dir count) calm = feed_in_steps r m d w leg dir count
  leg_does w (line.OpenLeg leg) calm =
      connecting r m d w (open_leg r m w leg).0 (connects_open_leg r m d w leg)
  leg_does w (line.OpenSame leg) calm =
      connecting r m d w (open_same r w leg).0 (connects_open_same r m d w leg)
  leg_does w one calm = ending_does w one calm

  answer_does : (w : World K C S I O) (one : Line) → is_calm one ≡ true
      → Does w (answer_of r m d w one).0
  answer_does w (line.Give end pdu) calm = in_one r m d w (IsPlain (Gives end pdu)) (tt, refl)
  answer_does w (line.Take end) calm = in_one r m d w (IsPlain (Takes end)) (tt, refl)
  answer_does w (line.Close end) calm = in_one r m d w (IsPlain (Closes end)) (tt, refl)
  answer_does w line.RecycleIn calm = in_one r m d w (IsPlain RecyclesIn) (tt, refl)
  answer_does w line.RecycleOut calm = in_one r m d w (IsPlain RecyclesOut) (tt, refl)
  answer_does w one calm = leg_does w one calm

  reported_does : (w : World K C S I O) (did : World K C S I O × Option Answer) → Does w did.0
      → Does w (reported did).0
  reported_does w (v, None) a = a
  reported_does w (v, Some one) a = a

  pub line_in_steps : (one : Line) (w : World K C S I O) → AreUpAtBoth w
      → is_calm one ≡ true → Does w (step_line r m d one w).0
  line_in_steps (line.Settle rounds) w both calm = (settles_in_steps r m d rounds w both).1
  line_in_steps one w both calm = reported_does w (answer_of r m d w one) (answer_does w one calm)
