-- a leg behind the last one of its kind is down, and none of the server is opened for a proxy that
-- was not made
use Rattle.law_order.proofs.Vocabulary.{◌≡◌, ◌≤◌, ℕ, List, Bool, true, false, ◌&&◌, ◌||◌, if◌then◌else◌, length, get_or_past, None, Some, Option, refl, ap, ap₂, ◌∙◌, subst, sym, nat_lt}
use Rattle.rh_record.specs.declared.answer.Who.TheVariants as who
use Rattle.rh_wires.specs.Legs as legs
use Rattle.rh_wires.specs.Wires as wires
use Rattle.rh_company.specs.Company as company
use Rattle.rh_company.specs.Places as places
use Rattle.law_moves.proofs.Vocabulary.{Dir, U, D, Side, Client, Server, Leg, OutServer, InServer, NO_COOKIE, Rules}
use Rattle.law_node_history.proofs.Vocabulary.{Place, Absent, Rulebook, Makers, Deeds, World, ask, blank, carry, connect, end_one, end_where, ends_now, is_finished, is_wanted, leg_at, open_next, opened, sender}
use Rattle.law_node_history.proofs.Numbers.{asked}
use Rattle.law_node_history.proofs.Wired.{is_up_at}
use Rattle.law_world_ways.specs.EndsInTime.Both.{AreUpAtBoth}
use Rattle.law_world_rest.proofs.Carrying.{down_carries}
use Rattle.law_world_rest.specs.Rest.{IsSilent}

-- ---- legs

blank_down : (end : Side) → wires.is_up end blank ≡ false
blank_down Client = refl
blank_down Server = refl

module _ {K C S I O : Type 0} (r : Rulebook C S I O) (w : World K C S I O) (leg : Leg)
    (past : length (legs.of leg.kind w.legs) ≤ leg.number) where
  down_past : (end : Side) → legs.is_up leg end w.legs ≡ false
  down_past end =
      is_up_at w.legs leg end
      ∙ ap (wires.is_up end)
      (get_or_past (legs.of leg.kind w.legs) leg.number blank past)
      ∙ blank_down end

  pub carry_past : (d : Deeds C S) → AreUpAtBoth w → (dir : Dir) → IsSilent (carry r leg dir w)
  carry_past d both dir =
      ap (λ what. what.1) (down_carries r d w both leg dir (down_past (sender dir)))

  none_ends : ends_now r leg w ≡ None
  none_ends =
      ap (λ (up : Bool). if up then (if is_finished r leg U w then Some U
      else (if is_finished r leg D w then Some D else None)) else None)
      (ap₂ (λ a b. a || b) (down_past Client) (down_past Server))

  pub end_past : IsSilent (end_one r leg w)
  end_past = subst (λ (o : Option Dir). IsSilent (end_where r leg w o)) (sym none_ends) refl

-- ---- proxies that were not made

module _ {S : Type 0} (rules : Rules S) (leg : Leg) (list : List (Place S)) (n : ℕ)
    (past : length list ≤ n) where
  none_wants : ask (places.wants rules leg) false list n ≡ false
  none_wants =
      asked Absent (places.wants rules leg) list n
      ∙ ap (places.wants rules leg) (get_or_past list n Absent past)

  none_may : ask (places.may_up rules leg) false list n ≡ false
  none_may =
      asked Absent (places.may_up rules leg) list n
      ∙ ap (places.may_up rules leg) (get_or_past list n Absent past)

neither : (a b c d : Bool) → a ≡ false → d ≡ false → (a && b || c && d) ≡ false
neither true b c d e f = absurd cc
neither false b c true e f = absurd cc
neither false b true false e f = refl
neither false b false false e f = refl

and_not : (a b : Bool) → b ≡ false → (a && b) ≡ false
and_not true b none = none
and_not false b none = refl

module _ {K C S I O : Type 0} (r : Rulebook C S I O) (m : Makers K I O) (w : World K C S I O)
  where
    refused : (leg : Leg) (test : Bool) (v : World K C S I O) → test ≡ false
        → IsSilent (opened leg (if test then (v, true) else (w, false)))
    refused leg true v none = absurd cc
    refused leg false v none = refl

    unwanted : (leg : Leg) → is_wanted r w leg ≡ false
        → IsSilent (opened leg (if nat_lt 0 leg.number && is_wanted r w leg
        then (connect r w leg NO_COOKIE, true) else (w, false)))
    unwanted leg none =
        refused leg (nat_lt 0 leg.number && is_wanted r w leg) (connect r w leg NO_COOKIE)
        (and_not (nat_lt 0 leg.number) (is_wanted r w leg) none)

    pub out_past : (n : ℕ) → length w.company.outs ≤ n
        → IsSilent (open_next r m (leg_at OutServer n) w)
    out_past n past =
        let leg = leg_at OutServer n in
        unwanted leg
        (neither (company.wants r w.company (who.Out n) leg)
        (company.may_up r w.company who.Server leg) (company.wants r w.company who.Server leg)
        (company.may_up r w.company (who.Out n) leg)
        (none_wants r.out_proxy leg w.company.outs n past)
        (none_may r.out_proxy leg w.company.outs n past))

    pub in_past : (n : ℕ) → length w.company.ins ≤ n
        → IsSilent (open_next r m (leg_at InServer n) w)
    in_past n past =
        let leg = leg_at InServer n in
        unwanted leg
        (neither (company.wants r w.company (who.In n) leg)
        (company.may_up r w.company who.Server leg) (company.wants r w.company who.Server leg)
        (company.may_up r w.company (who.In n) leg)
        (none_wants r.in_proxy leg w.company.ins n past)
        (none_may r.in_proxy leg w.company.ins n past))
