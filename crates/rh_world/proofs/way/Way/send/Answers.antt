-- what is drawn stays on its way
use Rattle.std.proofs.Common.{◌≡◌, ℕ, ◌+◌, ◌-◌, List, ◌++◌, take, drop, length, min, arith, refl, sym, ap, ◌∙◌, subst}
use Rattle.std.specs.List.{concat}
use Rattle.rh_line.specs.Queue.{total, untouched}
use Rattle.rh_world.specs.Carrying.{way_with}
use Rattle.rh_world.specs.Direct.{Way, send}
use Rattle.rh_world.proofs.Ways.{length-undrawn, drawn_carried, send_done}
use Rattle.rh_world.proofs.way.Way.send.Goals as goal

pub carry-requires-clause-few : goal.carry-requires-clause-few
carry-requires-clause-few c =
    omega (
      arith,
      length-undrawn c.self.inside.begun c.self.inside.queue,
      c.split_at_mut-room.ensures.front_len,
      c.min-count.ensures,
      c.len.ensures.bytes,
      c.held.ensures.bytes,
    )

pub invariant_of-self-2 : goal.invariant_of-self-2
invariant_of-self-2 c =
    let f = c.self.inside in
    let n = length c.split_at_mut-room.result.0.now in
    let flight : c.carry.new.flight.items ≡ f.flight.items ++ take n (f.begun ++ concat f.queue) =
    c.carry.ensures.flight
    ∙ ap (λ (x : List ℕ). x ++ take n (f.begun ++ concat f.queue))
    c.in_ok-make_room.ensures.items in
    rw (c.carry.ensures.left, flight)
    (drawn_carried (f.begun ++ concat f.queue) f.flight.items f.framer f.untaken.pdus f.given
    f.taken n c.self.invariant)

pub returns-clause-done : goal.returns-clause-done
returns-clause-done c =
    let f = c.self.inside in
    let n = length c.split_at_mut-room.result.0.now in
    let count : c.min-count.result ≡ n = sym c.split_at_mut-room.ensures.front_len in
    let way : Way =
    way_with f.queue f.begun f.flight.items f.framer f.untaken.pdus f.given f.taken in
    let least : c.min-count.result ≡ min c.args.count (length f.begun + total f.queue) =
    omega (arith, c.min-count.ensures, c.len.ensures.bytes, c.held.ensures.bytes) in
    let queue : c.carry.new.queue ≡ untouched (c.min-count.result - length f.begun) f.queue =
    c.carry.ensures.queue ∙ ap (λ (k : ℕ). untouched (k - length f.begun) f.queue) (sym count) in
    let left : c.carry.new.begun ++ concat c.carry.new.queue ≡ drop c.min-count.result
    (f.begun ++ concat f.queue) =
    c.carry.ensures.left ∙ ap (λ (k : ℕ). drop k (f.begun ++ concat f.queue)) (sym count) in
    let flight : c.carry.new.flight.items ≡ f.flight.items ++ take c.min-count.result
    (f.begun ++ concat f.queue) =
    c.carry.ensures.flight
    ∙ ap (λ (x : List ℕ). x ++ take n (f.begun ++ concat f.queue))
    c.in_ok-make_room.ensures.items
    ∙ ap (λ (k : ℕ). f.flight.items ++ take k (f.begun ++ concat f.queue)) (sym count) in
    let done = send_done way c.args.count f.begun c.carry.new.queue
    (c.carry.new.begun ++ concat c.carry.new.queue)
    c.carry.new.flight.items c.min-count.result refl least queue left flight in
    let next : Way = record way {
      queue = c.carry.new.queue;
      undrawn = c.carry.new.begun ++ concat c.carry.new.queue;
      flight = c.carry.new.flight.items;
    } in
    subst (λ (w : Way). (next, c.min-count.result) ≡ send w c.args.count) c.self.view_is done
