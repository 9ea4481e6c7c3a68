use Rattle.std.proofs.Common.{arith, Err, ap, refl, sym, ◌∙◌}
use Rattle.std.proofs.lemmas.Result.{err_from_is_err_and}
use Rattle.hex.proofs.Pairs.{decode_step, decode_done, decode_err, decode_sized-pairs}
use Rattle.rh_text.proofs.digits.decode_whole.Goals as goal

pub returns-in_err-room : goal.returns-in_err-room
returns-in_err-room c =
    let p = err_from_is_err_and c.from_residual.result c.from_residual.ensures.1 in
    let was = sym c.byte_value.ensures ∙ c.in_err-room.was in
    let whole = decode_sized-pairs _ _ c.if-text-ne0.false c.if-text-room.false in
    let stopped = decode_err _ c.bytes.room c.bytes.i _ (omega arith) was c.bytes.invariant in
    rw (whole ∙ stopped) (p.1 ∙ ap Err p.2)

pub bytes-preserved : goal.bytes-preserved
bytes-preserved c =
    let read = sym c.byte_value.ensures ∙ c.in_ok-room.was in
    decode_step _ _ c.bytes.i _ (omega arith) (omega arith) read c.bytes.invariant

pub returns : goal.returns
returns c =
    let whole = decode_sized-pairs _ _ c.if-text-ne0.false c.if-text-room.false in
    let done = decode_done _ c.bytes.room c.bytes.i (omega arith) (omega arith) c.bytes.invariant in
    rw (whole ∙ done) (refl, refl)
