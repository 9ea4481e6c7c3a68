-- the room is full of what is drawn
use Rattle.std.proofs.Common.{◌≡◌, ◌++◌, List, ℕ, [], take, drop, length, arith, ap, ◌∙◌}
use Rattle.std.proofs.lemmas.List.{append-nil, drop_all, length-take-le}
use Rattle.std.specs.List.{concat}
use Rattle.rh_wires.proofs.Rings.{filled}
use Rattle.rh_world.proofs.way.carry.Goals as goal

pub returns-clause-flight : goal.returns-clause-flight
returns-clause-flight c =
    let all = c.args.begun.now ++ concat c.args.queue.now in
    let size : length (take (length c.args.room.now) all) ≡ length c.args.room.now =
    length-take-le (length c.args.room.now) all c.requires.few in
    let none : drop c.draw.result c.args.room.now ≡ [] =
    drop_all c.draw.result c.args.room.now (omega (arith, c.draw.ensures.count, size)) in
    let full : c.draw.new.room ≡ take (length c.args.room.now) all =
    c.draw.ensures.room ∙ ap (λ (x : List ℕ). take (length c.args.room.now) all ++ x) none
    ∙ append-nil (take (length c.args.room.now) all) in
    let long = ap length full in
    let fill = filled c.args.flight.now c.fill_from_slice.new.self c.draw.new.room
    c.fill_from_slice.result
    c.fill_from_slice.ensures.count c.fill_from_slice.ensures.items
    (omega (arith, c.requires.fits, long, size)) in
    fill.0 ∙ ap (λ (x : List ℕ). c.args.flight.now.items ++ x) full
