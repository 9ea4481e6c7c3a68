-- What always holds of a turn's table: its three words (tickets drawn, ticket served, events
-- entered), its slot, and the views of all seats.
use Rattle.std.specs.Prelude.{◌≡◌, ℕ, ◌+◌, ◌^◌, ◌<◌, ◌==◌, Bool, true, false, nat_lt, if◌then◌else◌, List, [], ◌∷◌, length, Some}
use Rattle.std.specs.List.{sum_by}
use Rattle.std.specs.declared.option.Option.{Option}
use mathlib.Core.Option.{Option as Home}
use mathlib.Core.Option.{some, none}
use mathlib.Core.List.{IsPrefix}
use lib.ListN.{get_elem?}
use Rattle.atomic_table.specs.Table.{State}
use Rattle.rh_turn.specs.declared.view.View.{View}
use Rattle.rh_turn.specs.declared.view.Stage.{Stage}
use Rattle.rh_turn.specs.declared.view.Stage.TheVariants.{Idle, Waiting, Holding, Entered, Joined}
use Rattle.rh_turn.specs.History.{state_after, times, one_if}

-- the numbers of a turn, its history, and whether a seat holds the turn
pub record Account (E : Type 0) : Type 0 where
  pub tickets : ℕ
  pub serving : ℕ
  pub log : List E
  pub is_held : Bool

abbrev pub words_of : {E : Type 0} → Account E → List ℕ
words_of a = a.tickets ∷ a.serving ∷ length a.log ∷ []

-- What is dealt out among the seats: each ticket and each place of the history to one of them, the
-- turn to one at most, and the parts.
pub data Dealt : Type 0 where
  ticket : ℕ → Dealt
  turn : Dealt
  place : ℕ → Dealt
  parts : Dealt

-- a seat at this stage holds the turn
abbrev pub has_turn : {E : Type 0} → Stage E → Bool
has_turn Idle = false
has_turn Waiting = false
has_turn Holding = true
has_turn Entered = true
has_turn (Joined one other) = false

-- a seat at this stage has a ticket: it waits, or holds the turn
abbrev pub has_ticket : {E : Type 0} → Stage E → Bool
has_ticket Waiting = true
has_ticket stage = has_turn stage

-- how much a seat has of it
abbrev pub has : {E : Type 0} → Dealt → View E → ℕ
has (ticket k) v = if has_ticket v.stage then one_if (v.ticket == k) else 0
has turn v = one_if (has_turn v.stage)
has (place k) v = times k v.mine
has parts v = v.parts

-- how much of it is used up: tickets before the one that is served
abbrev pub used : {E : Type 0} → Dealt → Account E → ℕ
used (ticket k) a = one_if (nat_lt k a.serving)
used turn a = 0
used (place k) a = 0
used parts a = 0

-- how much of it there was to deal out
abbrev pub made : {E : Type 0} → ℕ → Dealt → Account E → ℕ
made seats (ticket k) a = one_if (nat_lt k a.tickets)
made seats turn a = one_if a.is_held
made seats (place k) a = one_if (nat_lt k (length a.log))
made seats parts a = seats

-- Who holds the turn has the ticket that is served, and has seen all of the history, which has one
-- entry more once its own is entered. Who took another seat in has seen what each of the two had.
abbrev pub Knows : {E : Type 0} → List E → ℕ → ℕ → List E → Stage E → Type 0
Knows log serving t seen Idle = Unit {0}
Knows log serving t seen Waiting = Unit {0}
Knows log serving t seen Holding = (t ≡ serving) × (seen ≡ log) × (length log ≡ serving)
Knows log serving t seen Entered = (t ≡ serving) × (seen ≡ log) × (length log ≡ serving + 1)
Knows log serving t seen (Joined one other) = IsPrefix one seen × IsPrefix other seen

-- what holds of one view
pub record Fits {E : Type 0} (log : List E) (serving : ℕ) (v : View E) : Type 0 where
  pub begins : IsPrefix v.seen log
  pub knows : Knows log serving v.ticket v.seen v.stage
  pub within : (k : ℕ) → 0 < times k v.mine → k < length v.seen
  pub spent : v.parts ≡ 0 → (d : Dealt) → has d v ≡ 0

-- what holds of all views
pub record AreSeats {E : Type 0} (seats : ℕ) (views : List (View E)) (a : Account E) : Type 0 where
  pub dealt : (d : Dealt) → sum_by (has d) views + used d a ≡ made seats d a
  pub fits : (id : ℕ) (v : View E) → get_elem? views id ≡ some v → Fits a.log a.serving v

-- the slot: out while a seat holds the turn, else at home with the history's state
abbrev pub slot_of : {S E : Type 0} → (S → E → S) → S → Bool → List E → Home (Option S)
slot_of next first true log = none
slot_of next first false log = some (Some (state_after next first log))

-- what holds of the whole
pub record IsKept {S E : Type 0} (next : S → E → S) (first : S) (seats : ℕ)
    (s : State (Option S) (View E)) (a : Account E) : Type 0 where
  pub words_are : s.words ≡ words_of a
  pub in_range : a.tickets < 2 ^ 64
  pub at_rest : a.is_held ≡ false → length a.log ≡ a.serving
  pub slot_is : s.homes ≡ slot_of next first a.is_held a.log ∷ []
  pub seats_are : AreSeats seats s.views a

-- there is one history
abbrev pub Kept : {S E : Type 0} → (S → E → S) → S → ℕ → State (Option S) (View E) → Type 0
Kept {S} {E} next first seats s = (a : Account E) × IsKept next first seats s a

-- the view of the first seat
abbrev pub first_view : {E : Type 0} → ℕ → View E
first_view seats = record { seen = []; mine = []; stage = Idle; ticket = 0; parts = seats }
