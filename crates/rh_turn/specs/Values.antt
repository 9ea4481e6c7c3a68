-- What contracts see of a turn and of a seat.
use Rattle.std.specs.Prelude.{◌≡◌, ℕ, ◌<◌, List, [], refl}
use Rattle.std.specs.Coded.{Coded, code_by, coded×, coded_ℕ, coded_list}
use Rattle.atomic_table.specs.Table.{Me}
use Rattle.atomic_table.specs.Seated.{TableId, table_id_coded}
use Rattle.rh_turn.specs.declared.view.View.{View}
use Rattle.rh_turn.specs.declared.view.Stage.TheVariants.{Idle}

-- a turn: which one it is, the state that its machine began with, and the parts of all its seats
pub record TurnValue (S : Type 0) : Type 0 where
  pub id : TableId
  pub first : S
  pub seats : ℕ

-- a seat: whose it is, the beginning of the history that it has seen, the places of its own calls
-- there, and its parts
pub record SeatValue (E : Type 0) : Type 0 where
  pub turn : TableId
  pub seen : List E
  pub mine : List ℕ
  pub parts : ℕ

abbrev pub turn_code : {S : Type 0} → Coded S → Coded (TurnValue S)
turn_code {S} code =
    code_by (TableId × (S × ℕ)) (coded× table_id_coded (coded× code coded_ℕ))
    (λ t. (t.id, (t.first, t.seats)))
    (λ p. record { id = p.0; first = p.1.0; seats = p.1.1 })
    (λ _. refl)

abbrev pub seat_code : {E : Type 0} → Coded E → Coded (SeatValue E)
seat_code {E} code =
    code_by (TableId × (List E × (List ℕ × ℕ)))
    (coded× table_id_coded (coded× (coded_list code) (coded× (coded_list coded_ℕ) coded_ℕ)))
    (λ s. (s.turn, (s.seen, (s.mine, s.parts))))
    (λ p. record { turn = p.0; seen = p.1.0; mine = p.1.1.0; parts = p.1.1.1 })
    (λ _. refl)

-- what is seen of a seat with this view
abbrev pub seat_value : {E : Type 0} → TableId → View E → SeatValue E
seat_value turn v = record { turn = turn; seen = v.seen; mine = v.mine; parts = v.parts }

-- between two calls a seat holds no slot and no ticket, and it has a part
pub record IsAtRest {S E : Type 0} (me : Me S (View E)) : Type 0 where
  pub no_slot : me.1 ≡ []
  pub is_idle : me.0.stage ≡ Idle
  pub some_part : 0 < me.0.parts
