-- there is memory for a packet wherever a room isn't full
use Rattle.std.proofs.Common.{arith, subst, sym, ◌<◌}
use Rattle.rh_shell.specs.declared.due.Due.{Due}
use Rattle.rh_shell.specs.Waiting.{Waiting, count, room_of, IsKept}
use Rattle.rh_shell.proofs.Kept.{fits, kept_pushed}
use Rattle.rh_shell.proofs.waiting.Waiting.push.Goals as goal

abbrev HasRoom : Due → Waiting → Type 0
HasRoom due w = count due.origin w.due < room_of due.origin w

pub unreachable-requires : goal.unreachable-requires
unreachable-requires c =
    let due = c.args.due in
    let w : Waiting = record { room = c.self.inside.room; due = c.self.inside.due.items } in
    let room : HasRoom due w = subst (HasRoom due) (sym c.self.view_is) c.requires.room in
    let kept = c.self.invariant.0 in
    omega (arith, c.in_default.ensures.full, fits w due.origin _ kept c.self.invariant.1 room)

pub invariant_of-self : goal.invariant_of-self
invariant_of-self c =
    let due = c.args.due in
    let w : Waiting = record { room = c.self.inside.room; due = c.self.inside.due.items } in
    let room : HasRoom due w = subst (HasRoom due) (sym c.self.view_is) c.requires.room in
    let kept = kept_pushed w due.packet due.origin c.self.invariant.0 c.requires.writable room in (
      subst (IsKept w.room) (sym c.in-Ok.ensures.items) kept,
      omega (arith, c.in-Ok.ensures.capacity, c.self.invariant.1),
    )
