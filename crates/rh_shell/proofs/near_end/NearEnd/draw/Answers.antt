use Rattle.std.proofs.Common.{◌≡◌, ◌+◌, ◌-◌, ◌<◌, ◌≤◌, false, [], length, take, drop, true, sym, ap, ◌∙◌, arith}
use Rattle.std.proofs.lemmas.List.{append-nil, length-take-le, length-drop, drop-drop}
use Rattle.rh_shell.proofs.FilledRooms.{filled_room, taken, dropped, same_length}
use Rattle.rh_shell.specs.NearEnds.{is_empty}
use Rattle.rh_shell.specs.Drawing.{Drawn, drawn, filled, draw}
use Rattle.rh_shell.proofs.Draws.{behind, joined, nonempty, draw_none, draw_empty, draw_step}
use Rattle.rh_shell.proofs.near_end.NearEnd.draw.Goals as goal

pub returns-then-count-room-clause-drawn : goal.returns-then-count-room-clause-drawn
returns-then-count-room-clause-drawn g c =
    let front = take c.messages.count c.messages.room in
    ap (drawn c.messages.self c.messages.role) (sym (append-nil front))
    ∙ ap (behind front) (draw_none g.R.Role.rules c.args.now (length c.messages.room -
    c.messages.count) c.messages.self c.messages.role (omega arith))
    ∙ c.messages.invariant.drawn

pub returns-then-is_drawn-clause-drawn : goal.returns-then-is_drawn-clause-drawn
returns-then-is_drawn-clause-drawn g c =
    let front = take c.messages.count c.messages.room in
    let rules = g.R.Role.rules in
    let h : is_empty (filled rules c.args.now c.messages.self c.messages.role).end.begun ≡ true =
    ap (λ (x : Drawn g.row.R.Denot). is_empty x.end.begun) (sym c.fill.ensures) ∙ sym
    c.is_drawn.ensures ∙ c.if-is_drawn.true in
    let n = length c.messages.room - c.messages.count in
    ap (drawn c.fill.new.self c.fill.new.role) (sym (append-nil front))
    ∙ ap (behind front) (c.fill.ensures ∙ draw_empty rules c.args.now n c.messages.self
    c.messages.role (omega arith) h)
    ∙ c.messages.invariant.drawn

pub messages-preserved : goal.messages-preserved
messages-preserved g c =
    let rules = g.R.Role.rules in
    let room = c.messages.room in
    let a = c.messages.count in
    let k = length room - a in
    let r = c.drain-count.result in
    let bytes = c.fill.new.self.begun in
    let whole : a + k ≡ length room = omega (arith, c.messages.invariant.fits) in
    let rest_length : length (take k (drop a room)) ≡ k = length-take-le k (drop a room)
    (omega (arith, length-drop a room)) in
    let fits : r ≤ k = omega (arith, c.drain-count.ensures.count) in
    let there : r ≤ length bytes = omega (arith, c.drain-count.ensures.count) in
    let begun : is_empty bytes ≡ false = sym c.is_drawn.ensures ∙ c.if-is_drawn.false in
    let more : 0 < length bytes = nonempty bytes begun in
    let some : 0 < r = omega (arith, c.drain-count.ensures.count) in
    let f = drawn c.fill.new.self c.fill.new.role [] in
    let left = drawn c.drain-count.new.self c.drain-count.new.role [] in
    let step = draw_step rules c.args.now k r c.messages.self c.messages.role f c.fill.ensures begun
    some fits there left c.drain-count.ensures.left in
    let size = same_length room bytes a k r whole fits there in
    let rest : k - r ≡ length (filled_room room bytes a k r whole fits there) - (a + r) = omega
    arith in
    rw c.drain-count.ensures.room (record {
      fits = omega arith;
      drawn = rw (taken room bytes a k r whole fits there, ← rest)
          (joined (take a room) (take r bytes) (draw rules c.args.now (k - r) left.end left.role)
          ∙ ap (behind (take a room)) step ∙ c.messages.invariant.drawn);
      rest = dropped room bytes a k r whole fits there ∙ sym (drop-drop r a room) ∙ ap (drop r)
          c.messages.invariant.rest ∙ drop-drop r a c.args.room.now;
      same = size ∙ c.messages.invariant.same;
    })
