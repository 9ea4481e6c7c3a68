-- where the byte stands first, it divides the text
use Rattle.std.proofs.Common.{sym, ◌∙◌}
use Rattle.rh_http.proofs.Splits.{before_none, before_place, divided}
use Rattle.rh_role_words.proofs.addresses.split_first.Goals as goal

pub returns-in_err-place-clause-none : goal.returns-in_err-place-clause-none
returns-in_err-place-clause-none c =
    rw c.from_residual.ensures (before_none c.args.byte c.args.text.now c.in_err-place.ensures)

pub returns-clause-some : goal.returns-clause-some
returns-clause-some c =
    let found = c.in_ok-place.ensures in
    let front = c.split_at.ensures.front in (
      before_place c.args.byte c.args.text.now c.in_ok-place.place found.0 found.1 ∙ sym front,
      divided c.args.byte c.args.text.now c.split_at.result.0.now c.split_at.result.1.now
          c.split_at-2.result.1.now
          c.in_ok-place.place found.0.high found.1 front c.split_at.ensures.back
          c.split_at-2.ensures.back,
    )
