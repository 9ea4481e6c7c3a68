-- on a leg that one end has finished all that was put there came, where nothing is in flight
use Rattle.law_order.proofs.Vocabulary.{◌≡◌, ◌⊎◌, inl, inr, ◌==◌, ◌++◌, ℕ, List, [], ◌∷◌, length, Bool, true, false, true≢false, IfSome, Some, None, Option, Item, seen, stops_at, refl, sym, ap, ap₂, ◌∙◌, append-nil, if◌then◌else◌}
use Rattle.rh_wires.specs.Legs as legs
use Rattle.rh_wires.specs.Wires as wires
use Rattle.law_moves.proofs.Vocabulary.{same_number, Dir, U, D, Side, Pipe, Leg, Going, NearEnd, Message, Rules, Shell, end_at, is_in_use, Reading, messages_from}
use Rattle.law_node_history.proofs.Vocabulary.{blank, in_flight, receiver, sender, World, wire_at, History}
use Rattle.law_node_history.proofs.Lemmas.{asked, is_up_at}
use Rattle.law_node_streams.specs.Streams.{is_refused_on}
use Rattle.law_node_marks.specs.Losing.{DrewAll}
use Rattle.law_world_ways.proofs.ExactWays.LegGoes.{leg_goes}
use Rattle.law_world_ways.specs.LiveIntakes.{ReadsLeg}
use Rattle.law_world_ways.specs.OnPaths.Legs.{is_cut, on_leg, was_told, was_up}
use Rattle.law_world_ways.specs.OnPaths.OnWay.{is_lost, items_on_way, left_at, left_on, on_way, read_on}
use Rattle.law_world_ways.specs.ExactWays.Keeping.{KeepsEnd}

-- ---- nothing is on its way

no_bytes : (bytes : List ℕ) → (length bytes == 0) ≡ true → bytes ≡ []
no_bytes [] e = refl
no_bytes (b ∷ bytes) e = absurd (let bad = same_number (length (b ∷ bytes)) 0 e in cc)

clear_is : {K C S I O : Type 0} (dir : Dir) (leg : Leg) (w : World K C S I O)
    → legs.is_clear leg dir w.legs ≡ true → in_flight dir (wire_at w.legs leg) ≡ []
clear_is U leg w e =
    no_bytes (in_flight U (wire_at w.legs leg))
    (sym (asked blank (wires.is_clear U) (legs.of leg.kind w.legs) leg.number) ∙ e)
clear_is D leg w e =
    no_bytes (in_flight D (wire_at w.legs leg))
    (sym (asked blank (wires.is_clear D) (legs.of leg.kind w.legs) leg.number) ∙ e)

abbrev IsEmpty : Option (List ℕ) → Type 0
IsEmpty left = IfSome left (λ bytes. bytes ≡ [])

none_on_way : (view : Message → List Item) (pipe : Option Pipe) (cut : Bool)
    (read : Option Reading) (flight : List ℕ) (left : Option (List ℕ)) → flight ≡ []
    → IsEmpty left → items_on_way view (on_way pipe cut read flight left) ≡ []
none_on_way view pipe true read flight left clear none = refl
none_on_way view pipe false None flight left clear none = refl
none_on_way view pipe false (Some r) flight None clear none = refl
none_on_way view pipe false (Some r) flight (Some begun) clear none =
    ap₂ (λ (a b : List ℕ). seen view (messages_from pipe r (a ++ b))) clear none

module _ {S : Type 0} (node : Shell S) (leg : Leg) (drew : DrewAll node leg) where
  forgotten : (up told : Bool) → IsEmpty (left_at up told None)
  forgotten true true = tt
  forgotten true false = refl
  forgotten false told = refl

  none_left : (up told : Bool) → IsEmpty (left_on node leg up told)
  none_left up told = by (is_refused_on leg node.course) (end_at node leg) refl
    where
      by : (refused : Bool) (end : Option NearEnd) → end_at node leg ≡ end
          → IsEmpty (if refused then None else left_at up told end)
      by true end is = tt
      by false None is = forgotten up told
      by false (Some end) is = drew end is

unlost : (lost : Bool) → stops_at lost [] ≡ false → lost ≡ false
unlost true e = absurd (true≢false e)
unlost false e = refl

-- ---- on such a leg

module _ {K C S I O P T : Type 0} (v : World K C S I O) (h : History) (leg : Leg) (dir : Dir)
    (pipe : Option Pipe) (puts : Shell P) (rules : Rules T) (takes : Shell T)
    (view : Message → List Item) (puts_on : puts.course ≡ Going) (takes_on : takes.course ≡ Going)
    (up : (end : Side) → legs.is_up leg end v.legs ≡ true)
    (rose : was_up v h leg (receiver dir) ≡ true)
    (untold : was_told v h leg (sender dir) ≡ false)
    (kept : KeepsEnd takes leg ⊎ (is_in_use rules takes.role leg ≡ false))
    (reads : ReadsLeg takes leg) (drew : DrewAll puts leg)
    (clear : legs.is_clear leg dir v.legs ≡ true) where
  abbrev way : Option (List Message)
  way = on_leg v h leg dir pipe puts rules takes

  abbrev Unused : Type 0
  Unused = is_in_use rules takes.role leg ≡ false

  wire_up : (end : Side) → wires.is_up end (wire_at v.legs leg) ≡ true
  wire_up end = sym (is_up_at v.legs leg end) ∙ up end

  told : (is_lost way ≡ false) ⊎ Unused
  told =
      by (leg_goes v h leg dir pipe puts rules takes [] Unused puts_on takes_on
      (λ e. wire_up (sender dir)) (λ e. wire_up (receiver dir)) untold (λ e. kept)
      (λ down. absurd (true≢false (sym rose ∙ down))) reads (λ e none. inr none))
    where
      by : (stops_at (is_lost way) [] ≡ false) ⊎ Unused → (is_lost way ≡ false) ⊎ Unused
      by (inl e) = inl (unlost (is_lost way) e)
      by (inr none) = inr none

  nothing_there : items_on_way view way ≡ []
  nothing_there =
      none_on_way view pipe (is_cut v h leg dir)
      (read_on rules takes pipe leg (was_up v h leg (receiver dir)))
      (in_flight dir (wire_at v.legs leg))
      (left_on puts leg (was_up v h leg (sender dir)) (was_told v h leg (sender dir)))
      (clear_is dir leg v clear)
      (none_left puts leg drew (was_up v h leg (sender dir)) (was_told v h leg (sender dir)))

  -- or the node that takes has no use for it
  pub all_came : (sent came : List Item)
      → (is_lost way ≡ false → sent ≡ came ++ items_on_way view way)
      → (sent ≡ came) ⊎ Unused
  all_came sent came arrives = by told
    where
      by : (is_lost way ≡ false) ⊎ Unused → (sent ≡ came) ⊎ Unused
      by (inl e) =
          inl (arrives e ∙ ap (λ (items : List Item). came ++ items) nothing_there
          ∙ append-nil came)
      by (inr none) = inr none
