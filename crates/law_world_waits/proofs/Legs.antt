-- at a world at rest no leg has anything on it, or it gives nothing more
use Rattle.law_order.proofs.Vocabulary.{◌≡◌, ◌⊎◌, inl, inr, ℕ, List, [], ◌∷◌, ◌++◌, ◌&&◌, ◌||◌, not, Bool, true, false, if◌then◌else◌, IfSome, None, Some, Option, Item, seen, refl, sym, ap, ap₂, ◌∙◌}
use Rattle.rh_shell.specs.NearEnds.{is_empty}
use Rattle.rh_wires.specs.Legs as legs
use Rattle.rh_wires.specs.Wires as wires
use Rattle.law_moves.proofs.Vocabulary.{Dir, Side, Client, Server, Pipe, Leg, Going, NearEnd, Rooms, Acts, Rules, Message, Shell, begun, end_at, spelled, EndEvent, Event, Reading, after_end_events, after_events, messages_from}
use Rattle.law_node_history.proofs.Vocabulary.{Rulebook, Deeds, Makers, World, at, came_up, drawn_on, end_drawn_on, happened, in_flight, is_up, receiver, sender, wire_at, History}
use Rattle.law_node_history.proofs.Lemmas.{is_up_at}
use Rattle.law_node_streams.specs.Streams.{EndStream, Stream, is_refused_on}
use Rattle.law_world_rest.proofs.Carrying.{clear_at, no_bytes, none_behind}
use Rattle.law_world_rest.specs.Rest.{IsAtRest}
use Rattle.law_world_ways.specs.OnPaths.Legs.{is_cut, was_up}
use Rattle.law_world_ways.specs.OnPaths.OnWay.{items_on_way, left_at, left_on, on_way}
use Rattle.law_world_waits.proofs.Low.{AreLowClear}

-- ---- what order sees

-- the leg gives nothing more; or nothing is in flight, and nothing begun
abbrev pub IsSpent : Bool → List ℕ → Option (List ℕ) → Type 0
IsSpent cut flight left = (cut ≡ true) ⊎ ((flight ≡ []) × IfSome left (λ begun. begun ≡ []))

pub none_on_way : (view : Message → List Item) (pipe : Option Pipe) (cut : Bool)
    (read : Option Reading) (flight : List ℕ) (left : Option (List ℕ)) → IsSpent cut flight left
    → items_on_way view (on_way pipe cut read flight left) ≡ []
none_on_way view pipe true read flight left spent = refl
none_on_way view pipe false None flight left spent = refl
none_on_way view pipe false (Some r) flight None spent = refl
none_on_way view pipe false (Some r) flight (Some begun) (inl cut) = absurd cc
none_on_way view pipe false (Some r) flight (Some begun) (inr none) =
    ap₂ (λ (a b : List ℕ). seen view (messages_from pipe r (a ++ b))) none.0 none.1

-- ---- the end that puts

-- nothing is begun there, if the node keeps the leg
abbrev pub HasBegunNone : {S : Type 0} → Shell S → Leg → Type 0
HasBegunNone node leg = (end : NearEnd) → end_at node leg ≡ Some end → end.begun ≡ []

module _ {S : Type 0} (node : Shell S) (leg : Leg) (none : HasBegunNone node leg) where
  forgotten : (up told : Bool) → IfSome (left_at up told None) (λ begun. begun ≡ [])
  forgotten true true = tt
  forgotten true false = refl
  forgotten false told = refl

  pub none_left : (up told : Bool) → IfSome (left_on node leg up told) (λ begun. begun ≡ [])
  none_left up told = by (is_refused_on leg node.course) (end_at node leg) refl
    where
      by : (refused : Bool) (end : Option NearEnd) → end_at node leg ≡ end
          → IfSome (if refused then None else left_at up told end) (λ begun. begun ≡ [])
      by true end is = tt
      by false None is = forgotten up told
      by false (Some end) is = none end is

-- on a leg that did not come up nothing was put, so that none is begun
module _ {S : Type 0} {rules : Rules S} {made : S} {rooms : Rooms} {pipe : Leg → Option Pipe}
    (leg : Leg) where
  pub none_put : {events : List Event} (stream : Stream rules made rooms pipe events)
      → (after_events rules (begun made rooms) events).course ≡ Going
      → came_up leg events ≡ false
      → HasBegunNone (after_events rules (begun made rooms) events) leg
  none_put {events} stream going never end at =
      none_behind (drawn_on rules (begun made rooms) leg events) end.begun
      (sym (stream.left leg end (ap (is_refused_on leg) going) at)
      ∙ ap spelled (stream.unput leg never))

  pub none_put_at_end : {acts : Acts S} {events : List EndEvent}
      (stream : EndStream rules acts made rooms pipe events)
      → (after_end_events rules acts (begun made rooms) events).course ≡ Going
      → came_up leg (happened events) ≡ false
      → HasBegunNone (after_end_events rules acts (begun made rooms) events) leg
  none_put_at_end {acts} {events} stream going never end at =
      none_behind (end_drawn_on rules acts (begun made rooms) leg events) end.begun
      (sym (stream.left leg end (ap (is_refused_on leg) going) at)
      ∙ ap spelled (stream.unput leg never))

-- ---- both ends

-- neither end has the leg up: one that had it up did not hear all, and else nothing was heard
cut_by : (was here did puts : Bool) (flight fed : List ℕ) → here ≡ false → puts ≡ false
    → flight ≡ [] → (was ≡ false → fed ≡ [])
    → ((was && not here) || ((did && not puts) && (is_empty flight && is_empty fed)) ≡ true)
    ⊎ (did ≡ false)
cut_by was true did puts flight fed low down none unfed = absurd cc
cut_by was here did true flight fed low down none unfed = absurd cc
cut_by true false did false flight fed low down none unfed = inl refl
cut_by false false false false flight fed low down none unfed = inr refl
cut_by false false true false flight fed low down none unfed =
    inl (ap₂ (λ (a b : List ℕ). is_empty a && is_empty b) none (unfed refl))

neither : (a b : Bool) → (a || b) ≡ false → (a ≡ false) × (b ≡ false)
neither true b none = absurd cc
neither false b none = (refl, none)

module _ {K C S I O : Type 0} (r : Rulebook C S I O) (m : Makers K I O) (d : Deeds C S)
    (v : World K C S I O) (rest : IsAtRest r m d v) (low : AreLowClear v.legs) (h : History)
    (leg : Leg) (dir : Dir)
    (unfed : was_up v h leg (receiver dir) ≡ false → h.fed (at v leg (receiver dir)) leg ≡ [])
  where
    abbrev flight : List ℕ
    flight = in_flight dir (wire_at v.legs leg)

    module _ {P : Type 0} (puts : Shell P) (told : Bool)
        (begun_up : is_up v leg ≡ true → HasBegunNone puts leg)
        (begun_never : was_up v h leg (sender dir) ≡ false → HasBegunNone puts leg) where
      abbrev left : Option (List ℕ)
      left = left_on puts leg (was_up v h leg (sender dir)) told

      low_end : (end : Side) → is_up v leg ≡ false
          → wires.is_up end (wire_at v.legs leg) ≡ false
      low_end Client down =
          sym (is_up_at v.legs leg Client)
          ∙ (neither (legs.is_up leg Client v.legs) (legs.is_up leg Server v.legs) down).0
      low_end Server down =
          sym (is_up_at v.legs leg Server)
          ∙ (neither (legs.is_up leg Client v.legs) (legs.is_up leg Server v.legs) down).1

      when_down : is_up v leg ≡ false → IsSpent (is_cut v h leg dir) flight left
      when_down down = by cut
        where
          none : flight ≡ []
          none = low leg dir (low_end Client down) (low_end Server down)

          cut : (is_cut v h leg dir ≡ true) ⊎ (was_up v h leg (sender dir) ≡ false)
          cut =
              cut_by (was_up v h leg (receiver dir))
              (wires.is_up (receiver dir) (wire_at v.legs leg)) (was_up v h leg (sender dir))
              (wires.is_up (sender dir) (wire_at v.legs leg)) flight
              (h.fed (at v leg (receiver dir)) leg) (low_end (receiver dir) down)
              (low_end (sender dir) down) none unfed

          by : (is_cut v h leg dir ≡ true) ⊎ (was_up v h leg (sender dir) ≡ false)
              → IsSpent (is_cut v h leg dir) flight left
          by (inl is) = inl is
          by (inr never) =
              inr (
                none,
                none_left puts leg (begun_never never) (was_up v h leg (sender dir))
                    told,
              )

      when_up : is_up v leg ≡ true → IsSpent (is_cut v h leg dir) flight left
      when_up up =
          inr (
            no_bytes flight (sym (clear_at v.legs leg dir) ∙ rest.clear leg dir up),
            none_left puts leg (begun_up up) (was_up v h leg (sender dir)) told,
          )

      pub spent : IsSpent (is_cut v h leg dir) flight left
      spent = by (is_up v leg) refl
        where
          by : (up : Bool) → is_up v leg ≡ up → IsSpent (is_cut v h leg dir) flight left
          by true is = when_up is
          by false is = when_down is
