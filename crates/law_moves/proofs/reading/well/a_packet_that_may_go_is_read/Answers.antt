use Rattle.law_order.proofs.Vocabulary.{◌≡◌, ap, ◌∙◌, Some, Ok}
use Rattle.law_moves.proofs.Vocabulary.{read_packet, Pipe, Named, named_of, named_bytes, parts_of, packet_of, packet_by, named_by}
use Rattle.law_moves.proofs.reading.well.a_packet_that_may_go_is_read.Goals as goal

read_as : (pipe : Pipe) (named : Named) → read_packet (named_bytes named) ≡ Ok (parts_of named)
    → named_of (parts_of named) pipe ≡ Ok named
    → packet_of (named_bytes named) (Some pipe) ≡ Ok named
unfolding packet_of
read_as pipe named back fine = ap (λ r. packet_by pipe r) back ∙ ap named_by fine

pub returns : goal.returns
returns c = λ pipe named may.
    let is = c.packets_are_named.ensures.sound named may.fine.destination may.fine.sizes in
    read_as pipe named (c.packets_are_named.ensures.back named is)
    (c.packets_are_named.ensures.fine named pipe may.carried may.fine.ranges)
