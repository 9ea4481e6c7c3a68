use Rattle.std.proofs.Common.{◌∙◌, ◌<◌, sym, ap, arith, subst}
use Rattle.rh_turn.proofs.Turning.{draw_allows}
use Rattle.rh_turn.proofs.board.Board.draw.Goals as goal

pub compare_exchange-found-requires : goal.compare_exchange-found-requires
compare_exchange-found-requires g c =
    let words = c.args.self.now.table.shared in
    let key = words.key in
    let token = c.loop.token in
    let same = c.loop.invariant.me in (
      c.loop.invariant.table ∙ c.requires.table,
      omega arith,
      draw_allows g.M.Machine.next key.first.value key.seats words.table_id.slots token.id
          c.loop.tickets token.me (ap (λ m. m.0.stage) same ∙ c.requires.idle)
          (subst (λ m. 0 < m.0.parts) (sym same) c.requires.some_part) (omega arith),
    )
