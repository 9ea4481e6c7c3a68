-- what is fed stays whole
use Rattle.std.proofs.Common.{ap, ◌∙◌, ◌++◌, List, ℕ}
use Rattle.std.specs.List.{concat}
use Rattle.rh_pdu.specs.Cut.{rest_of}
use Rattle.rh_world.proofs.Ways.{fed_sound, fed_carried}
use Rattle.rh_world.proofs.way.Way.feed.Goals as goal

pub deliver-requires-clause-sound : goal.deliver-requires-clause-sound
deliver-requires-clause-sound c =
    let f = c.self.inside in
    rw (c.as_slice.ensures, c.in_ok-piece.ensures.taken)
    (fed_sound (f.begun ++ concat f.queue) f.flight.items f.framer f.untaken.pdus f.given f.taken
    c.args.count c.self.invariant)

pub invariant_of-self-2 : goal.invariant_of-self-2
invariant_of-self-2 c =
    let f = c.self.inside in
    let piece = c.as_slice.ensures ∙ c.in_ok-piece.ensures.taken in
    let rest = c.deliver.ensures.rest ∙ ap (λ (x : List ℕ). rest_of (f.framer.rest ++ x)) piece in
    rw (c.in_ok-piece.ensures.left, c.deliver.ensures.frames, c.in_ok-reserve.ensures.pdus, piece)
    (fed_carried (f.begun ++ concat f.queue) f.flight.items f.framer c.deliver.new.framer
    f.untaken.pdus f.given f.taken
    c.args.count c.deliver.ensures.going rest c.self.invariant)
