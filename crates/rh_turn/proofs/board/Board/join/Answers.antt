use Rattle.std.proofs.Common.{◌<◌, ◌∙◌, sym, ap, subst, arith}
use Rattle.rh_turn.proofs.Sharing.{join_allows, settle_allows}
use Rattle.rh_turn.proofs.board.Board.join.Goals as goal

pub join_seat-requires : goal.join_seat-requires
join_seat-requires g c =
    let key = c.args.self.now.table.shared.key in
    let token = c.args.token.now in
    let other = c.args.other in
    let asked = c.requires in (
      asked.table,
      asked.other_table,
      asked.other_at_rest.no_slot,
      omega arith,
      join_allows g.M.Machine.next key.first.value key.seats token.id token.me.0 other.id other.me.0
          asked.at_rest.is_idle asked.other_at_rest.is_idle asked.at_rest.some_part,
    )

pub load-requires : goal.load-requires
load-requires g c =
    let words = c.args.self.now.table.shared in
    let key = words.key in
    let token = c.join_seat.new.seat in
    let joined = c.join_seat.ensures.2 in
    let some_part = c.requires.at_rest.some_part in (
      c.join_seat.ensures.0 ∙ c.requires.table,
      omega arith,
      settle_allows g.M.Machine.next key.first.value key.seats words.table_id.slots token.id
          token.me c.args.token.now.me.0.seen c.args.other.me.0.seen
          (ap (λ m. m.0.stage) joined)
          (subst (λ m. 0 < m.0.parts) (sym joined) (omega arith)),
    )

pub returns-clause-own : goal.returns-clause-own
returns-clause-own g c =
    let joined = c.join_seat.ensures.2 in
    let told = c.load.ensures.2 c.args.token.now.me.0.seen c.args.other.me.0.seen in
    (told (ap (λ m. m.0.stage) joined)).3
