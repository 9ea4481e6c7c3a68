use Rattle.std.proofs.Common.{◌≢◌, ◌+◌, ◌-◌, ◌++◌, length, sym, ◌∙◌}
use Rattle.std.specs.List.{concat}
use borrow.Rule.Slice.PartMut.{put_mid}
use Rattle.rh_line.proofs.Drawing.{Drew, drawn_length, drawn_step, drawn_out, drawn_next, drawn_full, drawn_all}
use Rattle.rh_line.proofs.begun.draw.Goals as goal
use Rattle.rh_line.proofs.begun.draw.Goals.{then-drawn-room-via-then-drawn-room, then-drawn-room-via-else-drawn-room+then-not-begin_next}

drew : (c : goal.Joined-then-drawn-room)
    → Drew (c.args.begun.now ++ concat c.args.queue.now) c.args.room.now c.args.queue.now
    (length c.args.room.now - length c.args.begun.now) (c.pdus.drawn + c.draw-drawn.result)
    (put_mid c.pdus.drawn (length c.pdus.room - c.pdus.drawn) c.pdus.room c.draw-drawn.new.room)
    c.then-drawn-room.begun c.then-drawn-room.queue
drew c =
    let p = c.pdus in
    let step = drawn_step _ c.args.room.now c.args.queue.now _ p.drawn p.room p.begun p.queue
    c.draw-drawn.result c.draw-drawn.new.room c.draw-drawn.new.self c.draw-drawn.ensures.count
    c.draw-drawn.ensures.room c.draw-drawn.ensures.left p.invariant in
    elim c.then-drawn-room.branch [
      | then-drawn-room-via-then-drawn-room w ↦
          let size = drawn_length _ c.args.room.now c.args.queue.now _
          (p.drawn + c.draw-drawn.result) _ _ _ step in
          let full = drawn_full _ c.args.room.now c.args.queue.now _ (p.drawn + c.draw-drawn.result)
          _ _ _
          (w.if-drawn-room.true ∙ size) step in
          rw (w.begun-is, w.queue-is) full
      | then-drawn-room-via-else-drawn-room+then-not-begin_next w ↦
          let size = drawn_length _ c.args.room.now c.args.queue.now _
          (p.drawn + c.draw-drawn.result) _ _ _ step in
          let over = drawn_out _ c.args.room.now c.args.queue.now _ p.drawn p.room p.begun p.queue
          c.draw-drawn.result c.draw-drawn.new.self c.draw-drawn.ensures.count
          c.draw-drawn.ensures.left (λ e. w.if-drawn-room.false (e ∙ sym size)) p.invariant in
          let none = w.if-not-begin_next.ensures.none in
          let all = drawn_all _ c.args.room.now c.args.queue.now _ (p.drawn + c.draw-drawn.result) _
          c.draw-drawn.new.self
          p.queue w.begin_next.new.queue over none.0 none.1 step in
          rw (w.begun-is, w.queue-is, none.2) all
    ]

pub returns-then-drawn-room-clause-count : goal.returns-then-drawn-room-clause-count
returns-then-drawn-room-clause-count c = (drew c).count

pub returns-then-drawn-room-clause-room : goal.returns-then-drawn-room-clause-room
returns-then-drawn-room-clause-room c = (drew c).room_is

pub returns-then-drawn-room-clause-left : goal.returns-then-drawn-room-clause-left
returns-then-drawn-room-clause-left c = (drew c).left

pub returns-then-drawn-room-clause-queue : goal.returns-then-drawn-room-clause-queue
returns-then-drawn-room-clause-queue c = (drew c).queue_is

pub pdus-preserved : goal.pdus-preserved
pdus-preserved c =
    let p = c.pdus in
    let step = drawn_step _ c.args.room.now c.args.queue.now _ p.drawn p.room p.begun p.queue
    c.draw-drawn.result c.draw-drawn.new.room c.draw-drawn.new.self c.draw-drawn.ensures.count
    c.draw-drawn.ensures.room c.draw-drawn.ensures.left p.invariant in
    let size = drawn_length _ c.args.room.now c.args.queue.now _
    (p.drawn + c.draw-drawn.result) _ _ _ step in
    let unfilled : p.drawn + c.draw-drawn.result ≢ length c.args.room.now =
    λ e. c.if-drawn-room.false (e ∙ sym size) in
    let over = drawn_out _ c.args.room.now c.args.queue.now _ p.drawn p.room p.begun p.queue
    c.draw-drawn.result c.draw-drawn.new.self c.draw-drawn.ensures.count c.draw-drawn.ensures.left
    unfilled p.invariant in
    drawn_next _ c.args.room.now c.args.queue.now _ (p.drawn + c.draw-drawn.result) _
    c.draw-drawn.new.self p.queue c.begin_next.new.self c.begin_next.new.queue unfilled over
    c.if-not-begin_next.ensures.begun step
