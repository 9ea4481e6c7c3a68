-- a node doesn't close where a leg ends that it may lose
use Rattle.law_order.proofs.Vocabulary.{◌≡◌, ◌⊎◌, inl, inr, ◌||◌, ◌&&◌, ◌∙◌, ℕ, List, [], ◌∷◌, length, cond, Bool, true, false, true≢false, not, Some, None, refl, sym, ap, Option}
use Rattle.rh_line.specs.declared.cause.Cause.TheVariants as cause
use Rattle.rh_shell.specs.NearEnds.{is_empty}
use Rattle.law_moves.proofs.Vocabulary.{Leg, Cause, Course, Going, Closed, Refusing, NearEnd, is_ended, is_finished, is_marked, marked, Rules, Shell, close, end_at, ended, ended_at, ended_by, lose, lost, with_end}
use Rattle.law_moves.proofs.Lemmas.{leg_is}
use Rattle.law_node_streams.proofs.Streams.Ends.{end_is, end_leg}
use Rattle.law_node_marks.specs.Losing.{DrewAll, MayLose}

module _ {S : Type 0} (rules : Rules S) (node : Shell S) (leg : Leg)
    (may : MayLose rules node leg) where
  abbrev Same : Shell S → Type 0
  Same t = t.course ≡ node.course

  all_drawn : (m d w : Bool) (begun : List ℕ) → d ≡ true → begun ≡ []
      → (m || ((d || w) && is_empty begun)) ≡ true
  all_drawn true d w begun e f = refl
  all_drawn false true w [] e f = refl
  all_drawn false true w (b ∷ begun) e f = absurd cc
  all_drawn false false w begun e f = absurd (true≢false (sym e))

  -- a leg that is done, and drawn to its end, is finished
  finished : (end : NearEnd) → end_at node leg ≡ Some end
      → rules.is_done node.role leg ≡ true → DrewAll node leg
      → is_finished rules node.role end ≡ true
  finished end at done drew =
      let same : end.leg ≡ leg =
      leg_is end.leg leg (end_leg leg node.legs end (sym (end_is leg node.legs) ∙ at)) in
      all_drawn (is_marked end.standing) (rules.is_done node.role end.leg)
      (is_ended (rules.phase node.role)) end.begun (ap (rules.is_done node.role) same ∙ done)
      (drew end at)

  loses : (end : NearEnd) (why : Cause) → end_at node leg ≡ Some end
      → Same (lost rules node leg end why)
  loses end why at = by (is_finished rules node.role end) refl
    where
      by_marks : is_finished rules node.role end ≡ false
          → (rules.only_marks node.role leg ≡ true)
          ⊎ ((rules.is_done node.role leg ≡ true) × DrewAll node leg)
          → (t : Bool) → rules.only_marks node.role leg ≡ t
          → Same (cond t (with_end node leg (marked end) (rules.mark node.role leg))
          (close node why))
      by_marks f so true e = refl
      by_marks f (inl only) false e = absurd (true≢false (sym only ∙ e))
      by_marks f (inr done) false e =
          absurd (true≢false (sym (finished end at done.0 done.1) ∙ f))

      by_phase : is_finished rules node.role end ≡ false → (t : Bool)
          → is_ended (rules.phase node.role) ≡ t
          → Same (cond t (with_end node leg (marked end) node.role)
          (cond (rules.only_marks node.role leg)
          (with_end node leg (marked end) (rules.mark node.role leg)) (close node why)))
      by_phase f true e = refl
      by_phase f false e = by_marks f (may (ap not e)) (rules.only_marks node.role leg) refl

      by : (t : Bool) → is_finished rules node.role end ≡ t
          → Same (cond t node (lose rules node leg end why))
      by true e = refl
      by false e = by_phase e (is_ended (rules.phase node.role)) refl

  pub goes_on : (ended rules node leg).0.course ≡ node.course
  goes_on = by node.course
    where
      on : (o : Option NearEnd) → end_at node leg ≡ o → Same (ended_at rules node leg o)
      on None e = refl
      on (Some end) e = loses end (cause.LegEnded leg (length end.intake.held)) e

      by : (c : Course) → Same (ended_by rules node leg c)
      by Going = on (end_at node leg) refl
      by (Closed why) = refl
      by (Refusing why client rest) = refl
