use Rattle.law_order.proofs.Vocabulary.{refl}
use Rattle.law_moves.proofs.Puttings.{draw_puts}
use Rattle.law_moves.proofs.moving.messages_are_drawn_in_order.Goals as goal

pub returns : goal.returns
returns g c = λ now passage end room.
    draw_puts g.R.Role.rules now room passage end passage.role refl
