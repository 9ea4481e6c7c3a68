-- what each line tells shows in its answers
use Rattle.law_order.proofs.Vocabulary.{◌≡◌, List, true, Some, None, refl, ap, inl, inr, Option}
use Rattle.rh_record.specs.declared.answer.Answer.TheVariants as answer
use Rattle.rh_record.specs.declared.line.Line.TheVariants as line
use Rattle.law_node_history.proofs.Vocabulary.{Answer, Line, Rulebook, Deeds, Makers, reported, ending_answer, leg_answer, answer_of, step_line, World, Gives, Takes, Closes, RecyclesIn, RecyclesOut, IsOneOf}
use Rattle.law_world_reports.proofs.Closed.Showing.{shown_none, shown_one}
use Rattle.law_world_reports.proofs.Closed.Connected.{shown_open_leg, shown_open_same}
use Rattle.law_world_reports.proofs.Closed.Losing.{shown_break_leg, shown_end_leg, shown_send, shown_feed, shown_tick}
use Rattle.law_world_reports.proofs.Closed.Going.{Goes}
use Rattle.law_world_reports.proofs.Closed.Rounds.{goes_settle}
use Rattle.law_world_reports.proofs.Vocabulary.{ShownWorks}

-- the answer of a line, where it has one
abbrev pub Has : List Answer → Option Answer → Type 0
Has all o = (x : Answer) → o ≡ Some x → IsOneOf x all

some_of : Answer → Option Answer → Answer
some_of other None = other
some_of other (Some one) = one

module _ {K C S I O : Type 0} (r : Rulebook C S I O) (m : Makers K I O) (d : Deeds C S) where
  module _ (all : List Answer) where
    ending_shown : (w : World K C S I O) (one : Line) → Has all (ending_answer r w one).1
        → ShownWorks r m d all w (ending_answer r w one).0
    ending_shown w (line.BreakLeg leg) has =
        shown_break_leg r m d all w leg
        (λ e. has (answer.BreakLeg leg true) (ap (λ ok. Some (answer.BreakLeg leg ok)) e))
    ending_shown w (line.EndLeg leg dir) has =
        shown_end_leg r m d all w leg dir
        (λ e. has (answer.EndLeg leg dir true) (ap (λ ok. Some (answer.EndLeg leg dir ok)) e))
    ending_shown w (line.Tick now) has =
        shown_tick r m d all w now
        (λ e. has (answer.Tick now true) (ap (λ ok. Some (answer.Tick now ok)) e))
    ending_shown w one has = shown_none r m d all w

    leg_shown : (w : World K C S I O) (one : Line) → Has all (leg_answer r m w one).1
        → ShownWorks r m d all w (leg_answer r m w one).0
    leg_shown w (line.Send (Some leg) dir count) has = shown_send r m d all w leg dir count
    leg_shown w (line.Move (Some leg) dir count) has =
        shown_feed r m d all w leg dir count
        (λ bytes e. inr (has (answer.Move (Some leg) dir (Some bytes))
        (ap (λ fed. Some (answer.Move (Some leg) dir fed)) e)))
    leg_shown w (line.OpenLeg leg) has = shown_open_leg r m d all w leg
    leg_shown w (line.OpenSame leg) has = shown_open_same r m d all w leg
    leg_shown w one has = ending_shown w one has

    answer_shown : (w : World K C S I O) (one : Line) → Has all (answer_of r m d w one).1
        → ShownWorks r m d all w (answer_of r m d w one).0
    answer_shown w (line.Give end pdu) has = shown_one r m d all w (Gives end pdu) tt refl tt
    answer_shown w (line.Take end) has = shown_one r m d all w (Takes end) tt refl tt
    answer_shown w (line.Close end) has = shown_one r m d all w (Closes end) tt refl tt
    answer_shown w line.RecycleIn has = shown_one r m d all w RecyclesIn tt refl tt
    answer_shown w line.RecycleOut has = shown_one r m d all w RecyclesOut tt refl tt
    answer_shown w one has = leg_shown w one has

  reported_goes : (w : World K C S I O) (did : World K C S I O × Option Answer)
      → ((all : List Answer) → Has all did.1 → ShownWorks r m d all w did.0)
      → Goes r m d w (reported did)
  unfolding some_of
  reported_goes w (v, None) a = λ all are_in. a all (λ x e. absurd cc)
  reported_goes w (v, Some one) a = λ all are_in.
      a all (λ x e. are_in x (inl (ap (some_of one) e)))

  pub goes_step_line : (one : Line) (w : World K C S I O) → Goes r m d w (step_line r m d one w)
  goes_step_line (line.Settle rounds) w = goes_settle r m d rounds w
  goes_step_line one w =
      reported_goes w (answer_of r m d w one) (λ all. answer_shown all w one)
