-- the pieces stay, in rooms no smaller
use Rattle.rh_world.proofs.received.Received.reserve.Goals as goal

pub invariant_of-self : goal.invariant_of-self
invariant_of-self c =
    let old = c.self.invariant in
    rw (c.make_room.ensures.items) (record {
      whole = old.whole;
      lengths_fit = old.lengths_fit;
      bytes_fit = rw c.make_room.ensures.items at c.make_room.ensures.within;
    })

pub invariant_of-self-2 : goal.invariant_of-self-2
invariant_of-self-2 c =
    let old = c.self.invariant in
    rw (c.make_room.ensures.items, c.make_room-2.ensures.items) (record {
      whole = old.whole;
      lengths_fit = rw c.make_room-2.ensures.items at c.make_room-2.ensures.within;
      bytes_fit = rw c.make_room.ensures.items at c.make_room.ensures.within;
    })
