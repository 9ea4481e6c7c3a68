-- each line ends a leg only where it is over, and keeps each leg up for both of its ends or for
-- neither
use Rattle.law_order.proofs.Vocabulary.{◌≡◌, true, Some, None, refl, Option}
use Rattle.rh_record.specs.declared.line.Line.TheVariants as line
use Rattle.law_node_history.proofs.Vocabulary.{Answer, Line, Rulebook, Deeds, Makers, open_leg, open_same, reported, ending_answer, leg_answer, answer_of, step_line, step, World, Gives, Takes, Closes, RecyclesIn, RecyclesOut, Reports}
use Rattle.law_node_history.proofs.Lemmas.{connects_open_leg, connects_open_same}
use Rattle.law_world_ways.proofs.EndsInTime.Behind.{NoLeg}
use Rattle.law_world_ways.proofs.EndsInTime.Both.{break_keeps, close_keeps, end_keeps, feed_keeps, give_keeps, open_keeps, same_keeps, send_keeps, take_keeps, tick_keeps}
use Rattle.law_world_ways.proofs.EndsInTime.Goes.{InTime, QuietInTime, goes_connecting, goes_none, goes_one, goes_then, quiet_in_time}
use Rattle.law_world_ways.proofs.EndsInTime.Losing.{break_in_time, end_in_time, send_in_time, feed_in_time, tick_in_time}
use Rattle.law_world_ways.proofs.EndsInTime.Rounds.{settle_in_time}
use Rattle.law_world_ways.specs.EndsInTime.Both.{AreUpAtBoth}
use Rattle.law_world_ways.specs.EndsInTime.Losses.{LosesInTime, loses_no_leg}

module _ {K C S I O : Type 0} (r : Rulebook C S I O) where
  pub others_lose_none : (w : World K C S I O) (one : Line) → loses_no_leg one ≡ true
      → LosesInTime r w one
  others_lose_none w (line.BreakLeg leg) is = absurd cc
  others_lose_none w (line.EndLeg leg dir) is = absurd cc
  others_lose_none w one is = tt

module _ {K C S I O : Type 0} (r : Rulebook C S I O) (m : Makers K I O) (d : Deeds C S) where
  -- ---- each leg is up for both of its ends, or for neither

  ending_keeps : (w : World K C S I O) (one : Line) → AreUpAtBoth w
      → AreUpAtBoth (ending_answer r w one).0
  ending_keeps w (line.BreakLeg leg) both = break_keeps r w leg both
  ending_keeps w (line.EndLeg leg dir) both = end_keeps r w leg dir both
  ending_keeps w (line.Tick now) both = tick_keeps r w now both
  ending_keeps w one both = both

  leg_keeps : (w : World K C S I O) (one : Line) → AreUpAtBoth w
      → AreUpAtBoth (leg_answer r m w one).0
  leg_keeps w (line.Send (Some leg) dir count) both = send_keeps r w leg dir count both
  leg_keeps w (line.Move (Some leg) dir count) both = feed_keeps r w leg dir count both
  leg_keeps w (line.OpenLeg leg) both = open_keeps r m w leg both
  leg_keeps w (line.OpenSame leg) both = same_keeps r m w leg both
  leg_keeps w one both = ending_keeps w one both

  answer_keeps : (w : World K C S I O) (one : Line) → AreUpAtBoth w
      → AreUpAtBoth (answer_of r m d w one).0
  answer_keeps w (line.Give end pdu) both = give_keeps d w both end pdu
  answer_keeps w (line.Take end) both = take_keeps d w both end
  answer_keeps w (line.Close end) both = close_keeps d w both end
  answer_keeps w line.RecycleIn both = both
  answer_keeps w line.RecycleOut both = both
  answer_keeps w one both = leg_keeps w one both

  reported_keeps : (did : World K C S I O × Option Answer) → AreUpAtBoth did.0
      → AreUpAtBoth (reported did).0
  reported_keeps (v, None) both = both
  reported_keeps (v, Some one) both = both

  pub step_line_keeps : (one : Line) (w : World K C S I O) → AreUpAtBoth w
      → AreUpAtBoth (step_line r m d one w).0
  step_line_keeps (line.Settle rounds) w both = (settle_in_time r m d rounds w both).0
  step_line_keeps one w both =
      reported_keeps (answer_of r m d w one) (answer_keeps w one both)

  pub step_keeps : (one : Line) (w : World K C S I O) → AreUpAtBoth w
      → AreUpAtBoth (step r m d one w).0
  step_keeps one w both = step_line_keeps one w both

  -- ---- legs end in time

  ending_in_time : (w : World K C S I O) (one : Line) → LosesInTime r w one
      → QuietInTime r m d w (ending_answer r w one).0
  ending_in_time w (line.BreakLeg leg) over = break_in_time r m d w leg over
  ending_in_time w (line.EndLeg leg dir) over = end_in_time r m d w leg dir over
  ending_in_time w (line.Tick now) over = tick_in_time r m d w now
  ending_in_time w one over = goes_none r m d NoLeg w

  pub leg_in_time : (w : World K C S I O) (one : Line) → LosesInTime r w one
      → QuietInTime r m d w (leg_answer r m w one).0
  leg_in_time w (line.Send (Some leg) dir count) over = send_in_time r m d w leg dir count
  leg_in_time w (line.Move (Some leg) dir count) over = feed_in_time r m d w leg dir count
  leg_in_time w (line.OpenLeg leg) over =
      goes_connecting r m d NoLeg w (open_leg r m w leg).0 (connects_open_leg r m d w leg)
  leg_in_time w (line.OpenSame leg) over =
      goes_connecting r m d NoLeg w (open_same r w leg).0 (connects_open_same r m d w leg)
  leg_in_time w one over = ending_in_time w one over

  answer_in_time : (w : World K C S I O) (one : Line) → LosesInTime r w one
      → InTime r m d w (answer_of r m d w one).0
  answer_in_time w (line.Give end pdu) over = goes_one r m d NoLeg w (Gives end pdu) tt refl tt
  answer_in_time w (line.Take end) over = goes_one r m d NoLeg w (Takes end) tt refl tt
  answer_in_time w (line.Close end) over = goes_one r m d NoLeg w (Closes end) tt refl tt
  answer_in_time w line.RecycleIn over = goes_one r m d NoLeg w RecyclesIn tt refl tt
  answer_in_time w line.RecycleOut over = goes_one r m d NoLeg w RecyclesOut tt refl tt
  answer_in_time w one over =
      quiet_in_time r m d w (leg_answer r m w one).0 (leg_in_time w one over)

  reported_goes : (w : World K C S I O) (did : World K C S I O × Option Answer)
      → InTime r m d w did.0 → InTime r m d w (reported did).0
  reported_goes w (v, None) a = a
  reported_goes w (v, Some one) a = a

  pub step_line_in_time : (one : Line) (w : World K C S I O) → AreUpAtBoth w
      → LosesInTime r w one → InTime r m d w (step_line r m d one w).0
  step_line_in_time (line.Settle rounds) w both over = (settle_in_time r m d rounds w both).1
  step_line_in_time one w both over =
      reported_goes w (answer_of r m d w one) (answer_in_time w one over)

  -- the whole line, which ends with a report
  pub step_in_time : (one : Line) (w : World K C S I O) → AreUpAtBoth w → LosesInTime r w one
      → InTime r m d w (step r m d one w).0
  step_in_time one w both over =
      let v = (step_line r m d one w).0 in
      goes_then r m d NoLeg w v (step r m d one w).0 (step_line_in_time one w both over)
      (goes_one r m d NoLeg v Reports tt refl tt)
