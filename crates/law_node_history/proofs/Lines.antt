-- each line is a list of changes
use Rattle.rh_text.specs.declared.ends.Side.TheVariants as side
use Rattle.law_order.proofs.Vocabulary.{◌≡◌, Bool, true, Some, None, refl, ap, Option, eqb-true}
use Rattle.rh_record.specs.declared.line.Line.TheVariants as line
use Rattle.law_node_history.proofs.Vocabulary.{Answer, Who, Client, Server, In, Out, Line, Rulebook, Deeds, is_same, Makers, reported, ending_answer, leg_answer, answer_of, step_line, step, World, Gives, Takes, Closes, RecyclesIn, RecyclesOut, Reports, is_silent, Change, ByLines, GoesQuietly, Leads, DrawnByLines, DrawsBy}
use Rattle.law_node_history.proofs.Drawing.{DrawsQuietly, DrawsWork, draws_none, draws_one, draws_more, draws_quietly, draws_by_lines}
use Rattle.law_node_history.proofs.Losing.{draws_break_leg, draws_end_leg, draws_send, draws_feed, draws_tick}
use Rattle.law_node_history.proofs.Connecting.{draws_open_leg, draws_open_same}
use Rattle.law_node_history.proofs.Answering.{DrawsAs, is_other, silent_other, Goes, GoesDrawing, QuietlyDrawing, goes_quiet, goes_one, goes_plainly}
use Rattle.law_node_history.proofs.Rounds.{draws_settle}

-- two nodes that are the same
pub same_who : (a b : Who) → is_same a b ≡ true → a ≡ b
same_who Client Client e = refl
same_who Client Server e = absurd cc
same_who Client (In n) e = absurd cc
same_who Client (Out n) e = absurd cc
same_who Server Client e = absurd cc
same_who Server Server e = refl
same_who Server (In n) e = absurd cc
same_who Server (Out n) e = absurd cc
same_who (In a) Client e = absurd cc
same_who (In a) Server e = absurd cc
same_who (In a) (In b) e = ap In (eqb-true a b e)
same_who (In a) (Out n) e = absurd cc
same_who (Out a) Client e = absurd cc
same_who (Out a) Server e = absurd cc
same_who (Out a) (In n) e = absurd cc
same_who (Out a) (Out b) e = ap Out (eqb-true a b e)

module _ {K C S I O : Type 0} (r : Rulebook C S I O) (m : Makers K I O) (d : Deeds C S) where
  -- ---- lines

  ending_draws : (w : World K C S I O) (one : Line)
      → DrawsQuietly r m d w (ending_answer r w one).0
  ending_draws w (line.BreakLeg leg) = draws_break_leg r m d w leg
  ending_draws w (line.EndLeg leg dir) = draws_end_leg r m d w leg dir
  ending_draws w (line.Tick now) = draws_tick r m d w now
  ending_draws w one = draws_none r m d w

  leg_draws : (w : World K C S I O) (one : Line) → DrawsQuietly r m d w (leg_answer r m w one).0
  leg_draws w (line.Send (Some leg) dir count) = draws_send r m d w leg dir count
  leg_draws w (line.Move (Some leg) dir count) = draws_feed r m d w leg dir count
  leg_draws w (line.OpenLeg leg) = draws_open_leg r m d w leg
  leg_draws w (line.OpenSame leg) = draws_open_same r m d w leg
  leg_draws w one = ending_draws w one

  answer_draws : (w : World K C S I O) (one : Line) → DrawsWork r m d w (answer_of r m d w one).0
  answer_draws w (line.Give end pdu) = draws_one r m d w (Gives end pdu) tt refl
  answer_draws w (line.Take end) = draws_one r m d w (Takes end) tt refl
  answer_draws w (line.Close end) = draws_one r m d w (Closes end) tt refl
  answer_draws w line.RecycleIn = draws_one r m d w RecyclesIn tt refl
  answer_draws w line.RecycleOut = draws_one r m d w RecyclesOut tt refl
  answer_draws w one =
      draws_quietly r m d w (leg_answer r m w one).0 (leg_draws w one)

  -- the answer of a line, where it has one
  abbrev where_any : (Answer → Bool) → Option Answer → Bool
  where_any tells None = true
  where_any tells (Some one) = tells one

  ending_silent : (w : World K C S I O) (one : Line)
      → where_any is_silent (ending_answer r w one).1 ≡ true
  ending_silent w (line.BreakLeg leg) = refl
  ending_silent w (line.EndLeg leg dir) = refl
  ending_silent w (line.Tick now) = refl
  ending_silent w one = refl

  leg_silent : (w : World K C S I O) (one : Line)
      → where_any is_silent (leg_answer r m w one).1 ≡ true
  leg_silent w (line.Send (Some leg) dir count) = refl
  leg_silent w (line.Move (Some leg) dir count) = refl
  leg_silent w (line.OpenLeg leg) = refl
  leg_silent w (line.OpenSame leg) = refl
  leg_silent w one = ending_silent w one

  any_other : (o : Option Answer) → where_any is_silent o ≡ true → where_any is_other o ≡ true
  any_other None silent = refl
  any_other (Some one) silent = silent_other one silent

  answer_others : (w : World K C S I O) (one : Line)
      → where_any is_other (answer_of r m d w one).1 ≡ true
  answer_others w (line.Give side.Client pdu) = refl
  answer_others w (line.Give side.Server pdu) = refl
  answer_others w (line.Take end) = refl
  answer_others w (line.Close side.Client) = refl
  answer_others w (line.Close side.Server) = refl
  answer_others w line.RecycleIn = refl
  answer_others w line.RecycleOut = refl
  answer_others w one = any_other (leg_answer r m w one).1 (leg_silent w one)

  reported_draws : {kind : Change → Bool} (tells : Answer → Bool) (w : World K C S I O)
      (did : World K C S I O × Option Answer) → DrawsBy kind r m d w did.0
      → where_any tells did.1 ≡ true → DrawsAs kind tells r m d w (reported did)
  reported_draws tells w (v, None) a other = goes_quiet r m d w v a
  reported_draws tells w (v, Some one) a other = goes_one r m d w v one a other

  leg_as_drawn : (one : Line) (w : World K C S I O)
      → QuietlyDrawing r m d w (reported (leg_answer r m w one))
  leg_as_drawn one w =
      reported_draws is_silent w (leg_answer r m w one) (leg_draws w one) (leg_silent w one)

  pub draws_step_line : (one : Line) (w : World K C S I O)
      → GoesDrawing r m d w (step_line r m d one w)
  draws_step_line (line.Settle rounds) w = draws_settle r m d rounds w
  draws_step_line one w =
      reported_draws is_other w (answer_of r m d w one) (answer_draws w one) (answer_others w one)

  -- the whole line, which ends with a report
  pub step_draws : (one : Line) (w : World K C S I O)
      → DrawnByLines r m d w (step r m d one w).0
  step_draws one w =
      let v = (step_line r m d one w).0 in
      draws_more r m d w v Reports (draws_by_lines r m d w v (draws_step_line one w).draws) tt refl

  -- ---- whatever the cookies

  pub leg_goes : (one : Line) (w : World K C S I O)
      → GoesQuietly r m d w (reported (leg_answer r m w one))
  leg_goes one w = goes_plainly r m d w (reported (leg_answer r m w one)) (leg_as_drawn one w)

  pub goes_step_line : (one : Line) (w : World K C S I O)
      → Goes r m d w (step_line r m d one w)
  goes_step_line one w = goes_plainly r m d w (step_line r m d one w) (draws_step_line one w)

  -- each change is one of a line
  pub step_by_lines : (one : Line) (w : World K C S I O) → ByLines r m d w (step r m d one w).0
  step_by_lines one w = (step_draws one w).works

  pub leads_step : (one : Line) (w : World K C S I O) → Leads r m d w (step r m d one w).0
  leads_step one w = (step_by_lines one w).leads
