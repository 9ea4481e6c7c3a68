use Rattle.std.proofs.Common.{◌≡◌, ◌≤◌, ◌++◌, length, Some, None, sym, ap, ◌∙◌, subst}
use Rattle.rh_pdu.specs.Feeding.{FramerState}
use Rattle.rh_pdu.specs.Frames.{IsBad}
use Rattle.rh_audit.proofs.Streams.{bad_cut, bad_left}
use Rattle.rh_audit.proofs.frames.Frames.next_frame.Goals as goal

pub returns-in-Fault : goal.returns-in-Fault
returns-in-Fault c =
    let inside = c.pieces.self-inside in
    let fed = c.in-Fault.ensures.fed in
    let rest = inside.framer.rest in
    let piece = inside.piece.now in
    let more = inside.pieces.bytes in
    let bad : IsBad (rest ++ piece) = record {
      long = fed.long;
      head = λ none. (let both = sym fed.head ∙ none in cc);
    } in
    let held = ap (λ (s : FramerState). s.rest) fed.after in (
      subst IsBad c.pieces.invariant (bad_cut rest piece more bad),
      subst (λ old. length (c.feed.new.self.rest ++ more) ≤ length old) c.pieces.invariant
          (bad_left rest piece more c.feed.new.self.rest held),
    )
