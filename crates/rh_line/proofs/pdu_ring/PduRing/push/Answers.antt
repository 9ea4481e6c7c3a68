-- the PDU's bytes lie behind the others
use Rattle.std.proofs.Common.{◌≡◌, ℕ, ◌≤◌, ◌++◌, ◌∷◌, [], List, length, ◌∙◌, ap, arith}
use Rattle.std.proofs.lemmas.List.{take_all}
use Rattle.circular_buffer.specs.Buffer.{Buffer, buffer}
use Rattle.rh_pdu.specs.Cut.{frames_of}
use Rattle.rh_line.specs.Queue.{total}
use Rattle.rh_line.specs.Rings.{Ring, ring}
use Rattle.rh_line.proofs.RingLaws.{held_bytes, pushed}
use Rattle.rh_line.proofs.pdu_ring.PduRing.push.Goals as goal

bytes_are : (c : goal.After-fill_from_slice) → c.fill_from_slice.new.self
    ≡ buffer (c.self.inside.bytes.items ++ c.args.pdu.now) c.self.inside.bytes.capacity
bytes_are c =
    let bytes = c.self.inside.bytes.items in
    let pdu = c.args.pdu.now in
    let held : length bytes ≡ total c.args.self.now.pdus =
    held_bytes bytes c.self.invariant ∙ ap (λ (r : Ring). total r.pdus) c.self.view_is in
    let room : c.self.inside.bytes.capacity ≡ c.args.self.now.room =
    ap (λ (r : Ring). r.room) c.self.view_is in
    let all : length pdu ≤ c.fill_from_slice.result =
    omega (arith, c.fill_from_slice.ensures.count, c.requires.room, held, room) in
    c.fill_from_slice.ensures.items
    ∙ ap (λ (x : List ℕ). buffer (bytes ++ x) c.self.inside.bytes.capacity)
    (take_all c.fill_from_slice.result pdu all)

pub invariant_of-self : goal.invariant_of-self
invariant_of-self c =
    rw (bytes_are c)
    (pushed c.self.inside.bytes.items c.args.pdu.now c.self.invariant c.requires.pdu).1

pub returns : goal.returns
returns c =
    let more = pushed c.self.inside.bytes.items c.args.pdu.now c.self.invariant c.requires.pdu in
    ap (λ (b : Buffer ℕ). ring (frames_of b.items) b.capacity) (bytes_are c)
    ∙ ap (λ (x : List (List ℕ)). ring x c.self.inside.bytes.capacity) more.0
    ∙ ap (λ (r : Ring). ring (r.pdus ++ c.args.pdu.now ∷ []) r.room) c.self.view_is
