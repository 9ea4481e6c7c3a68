use Rattle.std.proofs.Common.{List, ℕ, ◌++◌, ◌∙◌, ap, arith}
use Rattle.rh_rts.specs.Commands.{le4, spelling}
use Rattle.rh_rts.specs.Writing.{over}
use Rattle.rh_rts.proofs.Overs.{over_over}
use Rattle.rh_rts.proofs.encoding.put_command.Goals as goal

pub returns-in-FlowControlAck-clause-bytes : goal.returns-in-FlowControlAck-clause-bytes
unfolding spelling
returns-in-FlowControlAck-clause-bytes c =
    let a = c.in-FlowControlAck in
    rw a.is (c.put_cookie.ensures.bytes
    ∙ ap (λ (x : List ℕ). over x c.put_pair-at.result
    (le4 a.b ++ a.c.0)) c.put_pair-at.ensures.bytes
    ∙ over_over c.args.room.now c.args.at (le4 1 ++ le4 a.a) (le4 a.b ++ a.c.0) c.put_pair-at.result
    c.put_pair-at.ensures.place (omega (arith, c.requires.room)))
