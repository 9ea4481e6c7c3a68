-- What each kind of step does to the view of the seat that makes it, and what it tells.
use Rattle.std.specs.Prelude.{◌≡◌, ℕ, ◌+◌, ◌-◌, ◌==◌, List, [], ◌∷◌, ◌++◌, length, Some, MatchBool}
use Rattle.std.specs.declared.option.Option.{Option}
use mathlib.Core.List.{IsPrefix}
use Rattle.atomic_table.specs.Table.{Me, Step, rest}
use Rattle.rh_turn.specs.declared.view.View.{View}
use Rattle.rh_turn.specs.declared.view.Stage.TheVariants.{Idle, Waiting, Holding, Entered, Joined}
use Rattle.rh_turn.specs.History.{state_after, longer, AreOwn}

module _ {E : Type 0} where
  -- a ticket is drawn
  abbrev pub waiting : View E → ℕ → View E
  waiting v t = record v { stage = Waiting; ticket = t }

  -- the turn is held, and the whole history seen
  abbrev pub holding : View E → List E → View E
  holding v log = record v { seen = log; stage = Holding }

  -- an event stands at the end
  abbrev pub entered : View E → E → View E
  entered v event = record v {
    seen = v.seen ++ event ∷ [];
    mine = v.mine ++ length v.seen ∷ [];
    stage = Entered;
  }

  -- between two calls
  abbrev pub idle : View E → View E
  idle v = record v { stage = Idle }

  -- one part is given up
  abbrev pub kept_part : View E → View E
  kept_part v = record v { parts = v.parts - 1 }

  -- a new seat has seen as much, and has that part
  abbrev pub new_part : View E → View E
  new_part v = record v { mine = []; stage = Idle; parts = 1 }

  -- a seat took another in
  abbrev pub joined : View E → View E → View E
  joined v w = record v {
    seen = longer v.seen w.seen;
    mine = v.mine ++ w.mine;
    stage = Joined v.seen w.seen;
    parts = v.parts + w.parts;
  }

  -- the seat that was taken in
  abbrev pub spent : View E
  spent = record { seen = []; mine = []; stage = Idle; ticket = 0; parts = 0 }

-- a seat's view, and the slots that it holds
abbrev pub Mine : Type 0 → Type 0 → Type 0
Mine S E = Me (Option S) (View E)

module _ {S E : Type 0} where
  -- the ticket is drawn, or nothing changes
  abbrev pub Draws : Step (Option S) → Mine S E → ℕ → Mine S E → Type 0
  Draws s m found r = MatchBool (found == s.first) (r ≡ (waiting m.0 found, m.1)) (r ≡ m)

  -- the turn is taken: the whole history is seen, and its state is in the slot that the seat takes
  abbrev pub TakesTurn : (S → E → S) → S → Mine S E → Mine S E → Type 0
  TakesTurn next first m r = (log : List E) × IsPrefix m.0.seen log
      × (r ≡ (holding m.0 log, (0, Some (state_after next first log)) ∷ m.1))

  -- the turn is taken where the seat's ticket is served; else nothing changes
  abbrev pub Looks : (S → E → S) → Option S → Step (Option S) → Mine S E → ℕ → Mine S E → Type 0
  Looks next named s m found r = (first : S) → named ≡ Some first
      → MatchBool (found == m.0.ticket) (TakesTurn next first m r) (r ≡ m)

  -- the event is entered behind all that was seen
  abbrev pub Enters : Option E → Step (Option S) → Mine S E → ℕ → Mine S E → Type 0
  Enters named s m found r = (event : E) → named ≡ Some event → r ≡ (entered m.0 event, m.1)

  -- the turn goes on, with the slot; each place is the seat's once
  abbrev pub Raises : Step (Option S) → Mine S E → ℕ → Mine S E → Type 0
  Raises s m found r = (r ≡ (idle m.0, rest m.1)) × AreOwn r.0.mine r.0.seen

  -- a join is done: what each had seen begins what was seen, and each place is the seat's once
  abbrev pub Settles : Step (Option S) → Mine S E → ℕ → Mine S E → Type 0
  Settles s m found r = (one other : List E) → m.0.stage ≡ Joined one other
      → (r ≡ (idle m.0, m.1)) × IsPrefix one r.0.seen × IsPrefix other r.0.seen
      × AreOwn r.0.mine r.0.seen
