use Rattle.std.proofs.Common.{◌≤◌, length, arith}
use Rattle.std.proofs.lemmas.Bool.Decides.{nat_tests}
use Rattle.rh_audit.proofs.Fronts.{put_on, skip_on}
use Rattle.rh_audit.proofs.pieces.Pieces.put.Goals as goal

pub pieces-preserved : goal.pieces-preserved
pieces-preserved c =
    let over : length c.pieces.piece.now ≤ c.pieces.left =
    (let e = c.if-left-piece.false in grind (arith, nat_tests, e)) in (
      put_on c.pieces.left c.pieces.room.items _ c.pieces.piece.now c.pieces.self.bytes
          c.in-Some.next.now c.next_piece.new.self.bytes _ over
          c.in_ok-extend_from_slice-2.ensures.items c.in-Some.ensures.bytes c.pieces.invariant.0,
      skip_on c.pieces.left c.pieces.piece.now c.pieces.self.bytes c.in-Some.next.now
          c.next_piece.new.self.bytes _ over c.in-Some.ensures.bytes
          c.pieces.invariant.1,
    )
