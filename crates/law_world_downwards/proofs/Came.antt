-- where a node drew all that it put on a leg, of which nothing is in flight, all of it came; or the
-- node that takes has no use for the leg
use Rattle.rh_wires.specs.Legs as legs
use Rattle.rh_wires.specs.Wires as wires
use Rattle.law_order.proofs.Vocabulary.{◌≡◌, ◌⊎◌, inl, inr, ◌==◌, ◌&&◌, ◌||◌, ◌++◌, ◌∙◌, ℕ, List, [], ◌∷◌, length, Bool, true, false, true≢false, not, Some, None, refl, sym, ap, Option}
use Rattle.law_moves.proofs.Vocabulary.{Dir, U, D, same_number, Side, Pipe, Leg, Going, NearEnd, is_useless, Rules, Shell, end_at, is_in_use, messages_from, reading}
use Rattle.law_node_history.proofs.Vocabulary.{blank, in_flight, receiver, sender, World, wire_at, History}
use Rattle.law_node_history.proofs.Lemmas.{asked, is_up_at}
use Rattle.law_node_marks.specs.Losing.{DrewAll}
use Rattle.law_world_ways.proofs.OnPaths.Used.{way_told, read_told}
use Rattle.law_world_ways.proofs.ExactWays.LegGoes.{unused}
use Rattle.law_world_ways.specs.LiveIntakes.{ReadsLeg}
use Rattle.law_world_ways.specs.OnPaths.Legs.{is_cut, is_unheard, on_leg, was_told, was_up}
use Rattle.law_world_ways.specs.OnPaths.OnWay.{left_on, read_on}
use Rattle.law_world_ways.specs.ExactWays.Keeping.{KeepsEnd}

not_cut : (a b x y z : Bool) → x ≡ true → y ≡ true
    → ((a && not x) || ((b && not y) && z)) ≡ false
not_cut a b false y z p q = absurd (true≢false (sym p))
not_cut a b true false z p q = absurd (true≢false (sym q))
not_cut true true true true z p q = refl
not_cut true false true true z p q = refl
not_cut false true true true z p q = refl
not_cut false false true true z p q = refl

no_bytes : (bytes : List ℕ) → (length bytes == 0) ≡ true → bytes ≡ []
no_bytes [] e = refl
no_bytes (b ∷ bytes) e = absurd (let bad = same_number (length (b ∷ bytes)) 0 e in cc)

pub clear_is : {K C S I O : Type 0} (dir : Dir) (leg : Leg) (v : World K C S I O)
    → legs.is_clear leg dir v.legs ≡ true → in_flight dir (wire_at v.legs leg) ≡ []
clear_is U leg v e =
    no_bytes (in_flight U (wire_at v.legs leg))
    (sym (asked blank (wires.is_clear U) (legs.of leg.kind v.legs) leg.number) ∙ e)
clear_is D leg v e =
    no_bytes (in_flight D (wire_at v.legs leg))
    (sym (asked blank (wires.is_clear D) (legs.of leg.kind v.legs) leg.number) ∙ e)

-- nothing is begun at a node that goes on
none_left : {S : Type 0} (node : Shell S) (leg : Leg) (up told : Bool)
    → node.course ≡ Going → told ≡ false → DrewAll node leg
    → left_on node leg up told ≡ Some []
none_left node leg up told going untold drew = by (end_at node leg) refl up refl
  where
    by : (o : Option NearEnd) → end_at node leg ≡ o → (u : Bool) → up ≡ u
        → left_on node leg up told ≡ Some []
    by (Some end) at u is =
        let kept : left_on node leg up told ≡ Some end.begun = rw (going, at) refl in
        kept ∙ ap (λ (bytes : List ℕ). Some bytes) (drew end at)
    by None at true is = rw (going, at, is, untold) refl
    by None at false is = rw (going, at, is) refl

module _ {K C S I O P T : Type 0} (v : World K C S I O) (h : History) (leg : Leg) (dir : Dir)
    (pipe : Option Pipe) (puts : Shell P) (rules : Rules T) (takes : Shell T)
    (puts_on : puts.course ≡ Going) (takes_on : takes.course ≡ Going)
    (up : (end : Side) → legs.is_up leg end v.legs ≡ true)
    (untold : was_told v h leg (sender dir) ≡ false) (drew : DrewAll puts leg)
    (clear : legs.is_clear leg dir v.legs ≡ true)
    (kept : KeepsEnd takes leg ⊎ (is_in_use rules takes.role leg ≡ false))
    (reads : ReadsLeg takes leg) where
  uncut : is_cut v h leg dir ≡ false
  uncut =
      not_cut (was_up v h leg (receiver dir)) (was_up v h leg (sender dir))
      (wires.is_up (receiver dir) (wire_at v.legs leg))
      (wires.is_up (sender dir) (wire_at v.legs leg)) (is_unheard v h leg dir)
      (sym (is_up_at v.legs leg (receiver dir)) ∙ up (receiver dir))
      (sym (is_up_at v.legs leg (sender dir)) ∙ up (sender dir))

  none_stands : (k : KeepsEnd takes leg) → is_useless rules k.end takes.role ≡ false
      → on_leg v h leg dir pipe puts rules takes ≡ Some []
  none_stands k of_use =
      way_told pipe (is_cut v h leg dir)
      (read_on rules takes pipe leg (was_up v h leg (receiver dir)))
      (in_flight dir (wire_at v.legs leg))
      (left_on puts leg (was_up v h leg (sender dir)) (was_told v h leg (sender dir)))
      (reading k.end.intake.stage k.end.intake.held) [] uncut
      (read_told rules takes pipe leg (was_up v h leg (receiver dir)) k.end takes_on k.at
      (ap (λ (b : Bool). b || is_useless rules k.end takes.role) k.unmarked ∙ of_use)
      (reads takes_on k.end k.at))
      (none_left puts leg (was_up v h leg (sender dir)) (was_told v h leg (sender dir)) puts_on
      untold drew)
      ∙ ap (λ (bytes : List ℕ). Some (messages_from pipe
      (reading k.end.intake.stage k.end.intake.held) (bytes ++ []))) (clear_is dir leg v clear)

  -- nothing stands there
  pub came_or_left : (on_leg v h leg dir pipe puts rules takes ≡ Some [])
      ⊎ (is_in_use rules takes.role leg ≡ false)
  came_or_left = by kept
    where
      of_end : (k : KeepsEnd takes leg) → (t : Bool) → is_useless rules k.end takes.role ≡ t
          → (on_leg v h leg dir pipe puts rules takes ≡ Some [])
          ⊎ (is_in_use rules takes.role leg ≡ false)
      of_end k true over = inr (unused rules takes leg k.end k.at over)
      of_end k false of_use = inl (none_stands k of_use)

      by : KeepsEnd takes leg ⊎ (is_in_use rules takes.role leg ≡ false)
          → (on_leg v h leg dir pipe puts rules takes ≡ Some [])
          ⊎ (is_in_use rules takes.role leg ≡ false)
      by (inl k) = of_end k (is_useless rules k.end takes.role) refl
      by (inr none) = inr none
