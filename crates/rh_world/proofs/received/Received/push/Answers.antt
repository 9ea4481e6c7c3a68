-- the PDU lies behind the others
use Rattle.std.proofs.Common.{◌≡◌, ◌-◌, ◌++◌, ◌∷◌, [], length, arith, ap, ◌∙◌, refl}
use Rattle.std.proofs.lemmas.List.{length-append, length_push}
use Rattle.rh_world.specs.Pieces.{Received}
use Rattle.rh_wires.proofs.Rings.{filled, pushed}
use Rattle.rh_world.proofs.PieceLaws.{pieces_push, added_push}
use Rattle.rh_world.proofs.received.Received.push.Goals as goal

record Behind (c : goal.After-push_back) : Type 0 where
  bytes : c.fill_from_slice.new.self.items ≡ c.self.inside.bytes.items ++ c.args.pdu.now
  bytes_room : c.fill_from_slice.new.self.capacity ≡ c.self.inside.bytes.capacity
  lengths : c.push_back.new.self.items ≡ c.self.inside.lengths.items ++ length c.args.pdu.now ∷ []
  lengths_room : c.push_back.new.self.capacity ≡ c.self.inside.lengths.capacity

behind : (c : goal.After-push_back) → Behind c
behind c =
    let bytes = c.self.inside.bytes in
    let lengths = c.self.inside.lengths in
    let old = c.self.invariant in
    let room : bytes.capacity - length bytes.items ≡ c.args.self.now.room =
    ap (λ (r : Received). r.room) c.self.view_is in
    let places : lengths.capacity - length lengths.items ≡ c.args.self.now.places =
    ap (λ (r : Received). r.places) c.self.view_is in
    let full = filled bytes c.fill_from_slice.new.self c.args.pdu.now c.fill_from_slice.result
    c.fill_from_slice.ensures.count c.fill_from_slice.ensures.items
    (omega (arith, old.bytes_fit, c.requires.room)) in
    let next = pushed lengths c.push_back.new.self (length c.args.pdu.now) c.push_back.ensures.items
    (omega (arith, old.lengths_fit, c.requires.place)) in
    record { bytes = full.0; bytes_room = full.1; lengths = next.0; lengths_room = next.1 }

pub invariant_of-self : goal.invariant_of-self
invariant_of-self c =
    let b = behind c in
    let old = c.self.invariant in
    let lengths = c.self.inside.lengths in
    let bytes = c.self.inside.bytes in
    let room : bytes.capacity - length bytes.items ≡ c.args.self.now.room =
    ap (λ (r : Received). r.room) c.self.view_is in
    let places : lengths.capacity - length lengths.items ≡ c.args.self.now.places =
    ap (λ (r : Received). r.places) c.self.view_is in
    rw (b.lengths, b.bytes, b.lengths_room, b.bytes_room) (record {
      whole = omega (
        arith,
        old.whole,
        added_push lengths.items (length c.args.pdu.now),
        length-append bytes.items c.args.pdu.now,
      );
      lengths_fit = omega (
        arith,
        old.lengths_fit,
        c.requires.place,
        length_push lengths.items (length c.args.pdu.now),
      );
      bytes_fit = omega (
        arith,
        old.bytes_fit,
        c.requires.room,
        length-append bytes.items c.args.pdu.now,
      );
    })

pub returns-clause-pdus : goal.returns-clause-pdus
returns-clause-pdus c =
    let b = behind c in
    rw (b.lengths, b.bytes)
    (pieces_push c.self.inside.lengths.items c.self.inside.bytes.items c.args.pdu.now
    (length c.args.pdu.now) c.self.invariant.whole refl
    ∙ ap (λ (r : Received). r.pdus ++ c.args.pdu.now ∷ []) c.self.view_is)
