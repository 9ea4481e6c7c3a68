-- the bytes of the first PDU leave
use Rattle.std.proofs.Common.{◌≡◌, ℕ, List, drop, ◌∙◌, ap, arith, refl}
use Rattle.std.proofs.lemmas.List.{length-take-le}
use Rattle.circular_buffer.specs.Buffer.{Buffer, buffer}
use Rattle.rh_pdu.specs.Cut.{frames_of}
use Rattle.rh_line.specs.Queue.{behind}
use Rattle.rh_line.specs.Rings.{Ring, ring}
use Rattle.rh_line.proofs.RingLaws.{Begins, front_begins}
use Rattle.rh_line.proofs.pdu_ring.PduRing.pop.Goals as goal

first : (c : goal.After-read_into) → Begins c.self.inside.bytes.items
    (frames_of c.self.inside.bytes.items) c.in_ok-len.len
first c =
    front_begins c.self.inside.bytes.items _ c.in_ok-len.len refl c.self.invariant
    c.in_ok-len.ensures.len

left : (c : goal.After-read_into) → c.read_into.new.self
    ≡ buffer (drop c.in_ok-len.len c.self.inside.bytes.items) c.self.inside.bytes.capacity
left c =
    let all : c.read_into.result ≡ c.in_ok-len.len =
    omega (
      arith,
      c.read_into.ensures.count,
      (first c).within,
      (first c).long,
      length-take-le c.in_ok-len.len c.args.room.now,
    ) in
    c.read_into.ensures.items
    ∙ ap (λ (n : ℕ). buffer (drop n c.self.inside.bytes.items) c.self.inside.bytes.capacity) all

pub invariant_of-self : goal.invariant_of-self
invariant_of-self c = rw (left c) (first c).there

pub returns-clause-rest : goal.returns-clause-rest
returns-clause-rest c =
    ap (λ (b : Buffer ℕ). ring (frames_of b.items) b.capacity) (left c)
    ∙ ap (λ (x : List (List ℕ)). ring x c.self.inside.bytes.capacity) (first c).rest
    ∙ ap (λ (r : Ring). ring (behind r.pdus) r.room) c.self.view_is
