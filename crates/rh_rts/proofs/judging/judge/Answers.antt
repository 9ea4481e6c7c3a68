use Rattle.std.proofs.Common.{arith}
use Rattle.std.proofs.lemmas.List.{length-drop}
use Rattle.std.proofs.lemmas.Result.{err_from_is_err_and}
use Rattle.rh_rts.proofs.Packets.{is_packet_of, is_first}
use Rattle.rh_rts.proofs.judging.judge.Goals as goal

pub check_body-requires : goal.check_body-requires
check_body-requires c = rw c.in_ok-flags.ensures.3 (omega (arith, length-drop 20 c.args.bytes.now))

pub returns-in_err-check_body : goal.returns-in_err-check_body
returns-in_err-check_body c =
    let given = c.from_residual-in_err-check_body in
    let p = err_from_is_err_and given.result given.ensures.1 in
    rw (p.1, p.2) (is_first c.args.bytes.now c.in_ok-flags.rest.now c.in_ok-flags.count _
    c.in_ok-flags.ensures.0 c.in_ok-flags.ensures.2 c.in_ok-flags.ensures.3
    c.in_err-check_body.ensures)

pub returns : goal.returns
returns c =
    is_packet_of c.args.bytes.now c.in_ok-flags.rest.now c.in_ok-flags.flags c.in_ok-flags.count
    (λ i. omega (arith, c.type_inv.bytes i)) c.in_ok-flags.ensures.0 c.in_ok-flags.ensures.1
    c.in_ok-flags.ensures.2 c.in_ok-flags.ensures.3 c.in_ok-check_body.ensures
