-- what a node has of a leg, as its ends and its course change
use Rattle.law_order.proofs.Vocabulary.{◌≡◌, ℕ, List, [], cond, Bool, true, false, ◌||◌, Some, None, refl, sym, ap, ◌∙◌, subst, slice_set, not, is_some, Option}
use Rattle.rh_shell.specs.declared.answers.Phase.TheVariants as phase
use Rattle.law_moves.proofs.Vocabulary.{refusal_text, Refusal, Leg, Phase, Course, Going, Closed, Refusing, Stage, Stop, is_stopped, Intake, NearEnd, is_ended, marked, Shell, with_end, place, stop_by, stopped, bytes, same_leg, is_working_by, state_by}
use Rattle.law_moves.proofs.Lemmas.{leg_is}
use Rattle.law_node_streams.proofs.Streams.Ends.{IsLeftOf, end_of, set_beside, set_here}
use Rattle.law_node_streams.proofs.Streams.Staging.{IsNext}
use Rattle.law_node_streams.proofs.Streams.Ways.{or_false}
use Rattle.law_node_streams.proofs.Streams.Turns.{Seat, Nowhere, Sits, Answers, IsLeft, IsOn, IsStaged, IsSilent, IsStill, seat_by, seat_refused, seat_stopped}

pub at_work : (c : Course) (f : Phase) → is_working_by (state_by c f) ≡ true
    → (c ≡ Going) × (not (is_ended f) ≡ true)
at_work Going phase.Opening h = (refl, refl)
at_work Going phase.Open h = (refl, refl)
at_work Going phase.Ended h = absurd cc
at_work (Closed why) f h = absurd cc
at_work (Refusing why leg rest) f h = absurd cc

-- ---- what a node has of a leg

abbrev pub seat : {S : Type 0} → Leg → Shell S → Seat
seat leg s = seat_by leg s.course (end_of leg s.legs)

pub left_self : (x : Seat) → IsLeft x x
left_self Nowhere = tt
left_self (Sits end) = record {
  before = end;
  seat = refl;
  still = record {
    leg = refl;
    pipe = refl;
    intake = refl;
    begun = refl;
    count = refl;
    standing = λ e. e;
  };
}
left_self (Answers rest) = refl

pub left_as : (x y : Seat) → y ≡ x → IsLeft x y
left_as x y e = subst (IsLeft x) (sym e) (left_self x)

pub silent_none : (x : Seat) → IsSilent [] x
silent_none Nowhere = tt
silent_none (Sits end) = refl
silent_none (Answers rest) = tt

-- the same course, and the end of the leg is left or forgotten
pub left_of : (leg : Leg) (c : Course) (a b : Option NearEnd) → IsLeftOf a b
    → IsLeft (seat_by leg c a) (seat_by leg c b)
left_of leg Going a None l = tt
left_of leg Going a (Some end) l =
    left_as (seat_by leg Going a) (Sits end) (ap (seat_by leg Going) (sym l))
left_of leg (Closed why) a b l = tt
left_of leg (Refusing why client rest) a b l =
    left_self (cond (same_leg client leg) (Answers rest) Nowhere)

pub marked_still : (end : NearEnd) → IsStill end (marked end)
marked_still end = record {
  leg = refl;
  pipe = refl;
  intake = refl;
  begun = refl;
  count = refl;
  standing = λ e. absurd cc;
}

pub marked_left : (end : NearEnd) (x : Seat) → x ≡ Sits end → IsLeft x (Sits (marked end))
marked_left end x e = record { before = end; seat = e; still = marked_still end }

-- ---- what comes next

pub on_left : (next : Option Stage) (x y : Seat) → IsLeft x y → IsOn next x → IsOn next y
on_left next x Nowhere left on = tt
on_left next x (Sits end) left on =
    subst (λ (i : Intake). IsNext next i.stage × (is_some next ≡ true)) (sym left.still.intake)
    (subst (IsOn next) left.seat on)
on_left next x (Answers rest) left on = tt

-- a refusal takes nothing
pub on_answers : (next : Option Stage) (t : Bool) (rest : List ℕ)
    → IsOn next (cond t (Answers rest) Nowhere)
on_answers next true rest = tt
on_answers next false rest = tt

pub on_stopped : (next : Option Stage) (end : NearEnd) (o : Option Stop)
    → (is_stopped o ≡ false → IsNext next end.intake.stage) → is_some next ≡ true
    → IsOn next (seat_stopped end o)
on_stopped next end None on up = (on refl, up)
on_stopped next end (Some why) on up = by why.refusal
  where
    by : (r : Option Refusal) → IsOn next (seat_refused r)
    by None = tt
    by (Some refusal) = tt

-- no leg comes up
pub staged_on : (g h : Option Stage) (x y : Seat) (up : Bool) → h ≡ g
    → (IsOn g x → IsOn g y) → IsStaged g x up → IsStaged h y (up || false)
staged_on g h x y up same goes staged = record {
  on = subst (λ n. IsOn n y) (sym same) (goes staged.on);
  none = λ e. same ∙ staged.none (sym (or_false up) ∙ e);
}

-- no bytes are lost where the leg has no end, or the node goes on no more
pub silent_closed : (bytes : List ℕ) (leg : Leg) (c : Course) (o : Option NearEnd)
    → (c ≡ Going → o ≡ None) → IsSilent bytes (seat_by leg c o)
silent_closed bytes leg Going None none = tt
silent_closed bytes leg Going (Some end) none =
    absurd (let bad : Some end ≡ None = none refl in cc)
silent_closed bytes leg (Closed why) o none = tt
silent_closed bytes leg (Refusing why client rest) o none = by (same_leg client leg)
  where
    by : (t : Bool) → IsSilent bytes (cond t (Answers rest) Nowhere)
    by true = tt
    by false = tt

module _ {S : Type 0} where
  -- an end in the place of what it was
  pub beside_seat : (s : Shell S) (k leg : Leg) (end new : NearEnd) (role : S)
      → end_of k s.legs ≡ Some end → new.leg ≡ end.leg → same_leg k leg ≡ false
      → seat leg (with_end s k new role) ≡ seat leg s
  beside_seat s k leg end new role at same other =
      ap (seat_by leg s.course) (set_beside k leg s.legs end new at same other)

  pub here_seat : (s : Shell S) (k leg : Leg) (end new : NearEnd) (role : S)
      → end_of k s.legs ≡ Some end → new.leg ≡ end.leg → same_leg k leg ≡ true
      → s.course ≡ Going → seat leg (with_end s k new role) ≡ Sits new
  here_seat s k leg end new role at same this going =
      subst (λ (l : Leg). seat l (with_end s k new role) ≡ Sits new) (leg_is k leg this)
      (ap (λ c. seat_by k c (end_of k (slice_set s.legs (place k s.legs) new))) going
      ∙ ap (seat_by k Going) (set_here k s.legs end new at same))

  pub was_seat : (s : Shell S) (k leg : Leg) (end : NearEnd) → end_of k s.legs ≡ Some end
      → same_leg k leg ≡ true → s.course ≡ Going → seat leg s ≡ Sits end
  was_seat s k leg end at this going =
      subst (λ (l : Leg). seat l s ≡ Sits end) (leg_is k leg this)
      (ap (λ c. seat_by k c (end_of k s.legs)) going ∙ ap (seat_by k Going) at)

  -- the node stops, and refuses a request maybe
  pub stop_here : (s : Shell S) (k leg : Leg) (end : NearEnd) (o : Option Stop)
      → seat leg s ≡ Sits end → same_leg k leg ≡ true
      → seat leg (stopped s k o) ≡ seat_stopped end o
  stop_here s k leg end None at this = at
  stop_here s k leg end (Some why) at this = by why.refusal
    where
      by : (r : Option Refusal) → seat leg (stop_by s k why.cause r) ≡ seat_refused r
      by None = refl
      by (Some refusal) = ap (λ t. cond t (Answers (refusal_text refusal)) Nowhere) this

  pub stop_there : (s : Shell S) (k leg : Leg) (x : Seat) (o : Option Stop) → IsLeft x (seat leg s)
      → same_leg k leg ≡ false → IsLeft x (seat leg (stopped s k o))
  stop_there s k leg x None left other = left
  stop_there s k leg x (Some why) left other = by why.refusal
    where
      by : (r : Option Refusal) → IsLeft x (seat leg (stop_by s k why.cause r))
      by None = tt
      by (Some refusal) =
          subst (λ t. IsLeft x (cond t (Answers (refusal_text refusal)) Nowhere)) (sym other) tt

  -- what stays where a node stops
  pub record StopKeeps (s t : Shell S) : Type 0 where
    pub role : t.role ≡ s.role
    pub legs : t.legs ≡ s.legs

  pub stop_keeps : (s : Shell S) (k : Leg) (o : Option Stop) → StopKeeps s (stopped s k o)
  stop_keeps s k None = record { role = refl; legs = refl }
  stop_keeps s k (Some why) = by why.refusal
    where
      by : (r : Option Refusal) → StopKeeps s (stop_by s k why.cause r)
      by None = record { role = refl; legs = refl }
      by (Some refusal) = record { role = refl; legs = refl }
