use Rattle.std.proofs.Common.{◌∷◌, Some, ◌∙◌, sym, ap}
use Rattle.atomic_table.specs.Table.{rest}
use Rattle.rh_turn.proofs.board.Board.take.Goals as goal

pub exchange-requires : goal.exchange-requires
exchange-requires g c =
    let slot = c.requires.slot in
    let value = Some slot.0 in
    (c.requires.table, (value, slot.1 ∙ ap (λ held. (0, value) ∷ rest held) (sym slot.1)))
