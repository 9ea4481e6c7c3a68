-- a leg that was not lost gives all that was put there, or the one that takes has no use for it
use Rattle.law_order.proofs.Vocabulary.{◌≡◌, ◌⊎◌, inl, inr, ℕ, Bool, true, false, List, [], Some, None, refl, sym, ap, ◌∙◌, subst, ◌&&◌, ◌||◌, not, Option, Item, stops_at}
use Rattle.rh_wires.specs.Wires.{is_up}
use Rattle.law_moves.proofs.Vocabulary.{Dir, Pipe, Leg, Going, NearEnd, is_ended, is_over, is_useless, Message, Rules, Shell, end_at, is_in_use, Reading, begin, messages_from, reading}
use Rattle.law_moves.proofs.Lemmas.{leg_is}
use Rattle.law_node_history.proofs.Vocabulary.{in_flight, receiver, sender, World, wire_at, History}
use Rattle.law_node_streams.proofs.Streams.Ends.{end_is, end_leg}
use Rattle.law_world_ways.proofs.OnPaths.Used.{way_told, read_told}
use Rattle.law_world_ways.specs.LiveIntakes.{ReadsLeg}
use Rattle.law_world_ways.specs.OnPaths.Legs.{is_cut, is_unheard, on_leg, was_told, was_up}
use Rattle.law_world_ways.specs.OnPaths.OnWay.{is_lost, left_at, left_on, read_on}
use Rattle.law_world_ways.specs.ExactWays.Keeping.{KeepsEnd}

not_left : (a x : Bool) → (a ≡ true → x ≡ true) → (a && not x) ≡ false
not_left true true up = refl
not_left true false up = absurd (let bad : false ≡ true = up refl in cc)
not_left false x up = refl

uncut : (a x b y z : Bool) → (a ≡ true → x ≡ true) → (b ≡ true → y ≡ true)
    → ((a && not x) || ((b && not y) && z)) ≡ false
uncut a x b y z up there =
    ap (λ (t : Bool). t || ((b && not y) && z)) (not_left a x up)
    ∙ ap (λ (t : Bool). t && z) (not_left b y there)

left_told : {S : Type 0} (s : Shell S) (leg : Leg) (up lost : Bool) (o : Option (List ℕ))
    → s.course ≡ Going → left_at up lost (end_at s leg) ≡ o → left_on s leg up lost ≡ o
left_told s leg up lost o going e = rw going e

pub read_new : {S : Type 0} (rules : Rules S) (s : Shell S) (pipe : Option Pipe) (leg : Leg)
    (up : Bool) → s.course ≡ Going → end_at s leg ≡ None → up ≡ false
    → read_on rules s pipe leg up ≡ Some (begin pipe)
read_new rules s pipe leg up going at e = rw (going, at, e) refl

pub unused : {S : Type 0} (rules : Rules S) (s : Shell S) (leg : Leg) (end : NearEnd)
    → end_at s leg ≡ Some end → is_useless rules end s.role ≡ true
    → is_in_use rules s.role leg ≡ false
unused rules s leg end at e =
    subst (λ (l : Leg). is_in_use rules s.role l ≡ false)
    (leg_is end.leg leg (end_leg leg s.legs end (sym (end_is leg s.legs) ∙ at)))
    (by (rules.is_done s.role end.leg) (is_ended (rules.phase s.role)) e)
  where
    by : (done ended : Bool) → (done || ended) ≡ true → (not ended && not done) ≡ false
    by true true e = refl
    by true false e = refl
    by false true e = refl
    by false false e = absurd cc

module _ {K C S I O P T : Type 0} (v : World K C S I O) (h : History) (leg : Leg) (dir : Dir)
    (pipe : Option Pipe) (puts : Shell P) (rules : Rules T) (takes : Shell T) (came : List Item)
    (Else : Type 0) (puts_on : puts.course ≡ Going) (takes_on : takes.course ≡ Going)
    (up_here : was_up v h leg (sender dir) ≡ true
    → is_up (sender dir) (wire_at v.legs leg) ≡ true)
    (up_there : was_up v h leg (receiver dir) ≡ true
    → is_up (receiver dir) (wire_at v.legs leg) ≡ true)
    (untold : was_told v h leg (sender dir) ≡ false)
    (kept : was_up v h leg (receiver dir) ≡ true
    → KeepsEnd takes leg ⊎ (is_in_use rules takes.role leg ≡ false))
    (absent : was_up v h leg (receiver dir) ≡ false → end_at takes leg ≡ None)
    (reads : ReadsLeg takes leg)
    (passes : was_up v h leg (receiver dir) ≡ true → is_in_use rules takes.role leg ≡ false
    → (stops_at (is_lost (on_leg v h leg dir pipe puts rules takes)) came ≡ false) ⊎ Else) where
  abbrev Goes : Type 0
  Goes = (stops_at (is_lost (on_leg v h leg dir pipe puts rules takes)) came ≡ false) ⊎ Else

  not_cut : is_cut v h leg dir ≡ false
  not_cut =
      uncut (was_up v h leg (receiver dir)) (is_up (receiver dir) (wire_at v.legs leg))
      (was_up v h leg (sender dir)) (is_up (sender dir) (wire_at v.legs leg))
      (is_unheard v h leg dir) up_there up_here

  -- what is begun is told
  abbrev up : Bool
  up = was_up v h leg (sender dir)

  abbrev lost : Bool
  lost = was_told v h leg (sender dir)

  left_is : (begun : List ℕ) × (left_on puts leg up lost ≡ Some begun)
  left_is = by up refl (end_at puts leg) refl
    where
      by : (a : Bool) → up ≡ a → (o : Option NearEnd) → end_at puts leg ≡ o
          → (begun : List ℕ) × (left_on puts leg up lost ≡ Some begun)
      by a e (Some end) at = (
        end.begun,
        left_told puts leg up lost (Some end.begun) puts_on (ap (left_at up lost) at),
      )
      by false e None at = (
        [],
        left_told puts leg up lost (Some []) puts_on
            (ap (left_at up lost) at ∙ ap (λ (t : Bool). left_at t lost None) e),
      )
      by true e None at = (
        [],
        left_told puts leg up lost (Some []) puts_on
            (ap (left_at up lost) at ∙ ap (λ (t : Bool). left_at t lost None) e
            ∙ ap (λ (t : Bool). left_at true t None) untold),
      )

  goes_by : (r : Reading)
      → read_on rules takes pipe leg (was_up v h leg (receiver dir)) ≡ Some r → Goes
  goes_by r read =
      inl (ap (λ (o : Option (List Message)). stops_at (is_lost o) came)
      (way_told pipe (is_cut v h leg dir)
      (read_on rules takes pipe leg (was_up v h leg (receiver dir)))
      (in_flight dir (wire_at v.legs leg)) (left_on puts leg up lost) r left_is.0 not_cut read
      left_is.1))

  pub leg_goes : Goes
  leg_goes = by (was_up v h leg (receiver dir)) refl
    where
      of_end : was_up v h leg (receiver dir) ≡ true → (k : KeepsEnd takes leg) → (t : Bool)
          → is_useless rules k.end takes.role ≡ t → Goes
      of_end e k true over = passes e (unused rules takes leg k.end k.at over)
      of_end e k false over =
          goes_by (reading k.end.intake.stage k.end.intake.held)
          (read_told rules takes pipe leg (was_up v h leg (receiver dir)) k.end takes_on k.at
          (ap (λ (b : Bool). b || is_useless rules k.end takes.role) k.unmarked ∙ over)
          (reads takes_on k.end k.at))

      of_kept : was_up v h leg (receiver dir) ≡ true
          → KeepsEnd takes leg ⊎ (is_in_use rules takes.role leg ≡ false) → Goes
      of_kept e (inl k) = of_end e k (is_useless rules k.end takes.role) refl
      of_kept e (inr none) = passes e none

      by : (b : Bool) → was_up v h leg (receiver dir) ≡ b → Goes
      by false e =
          goes_by (begin pipe)
          (read_new rules takes pipe leg (was_up v h leg (receiver dir)) takes_on (absent e) e)
      by true e = of_kept e (kept e)
