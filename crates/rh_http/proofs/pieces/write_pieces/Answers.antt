use Rattle.std.proofs.Common.{ℕ, ◌++◌, drop, sym, ap, ◌∙◌}
use Rattle.rh_rts.proofs.Overs.{over_front}
use Rattle.rh_http.proofs.Joined.{joined}
use Rattle.rh_http.proofs.pieces.write_pieces.Goals as goal

pub returns : goal.returns
returns c =
    let text = joined c.args.pieces.now in (
      c.length_of-need.ensures,
      c.if-need-room.false,
      c.put_all.ensures ∙ over_front c.args.room.now text
          ∙ ap (λ (n : ℕ). text ++ drop n c.args.room.now) (sym c.length_of-need.ensures),
    )
