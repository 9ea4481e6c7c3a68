use Rattle.std.proofs.Common.{arith, drop, ◌+◌}
use Rattle.std.proofs.lemmas.List.{drop_more}
use Rattle.std.proofs.Math.ListN.{drop_of_length-le}
use Rattle.rh_rts.proofs.Encoded.{comes_on, all_came}
use Rattle.rh_rts.proofs.encoding.put_commands.Goals as goal

pub loop-command-preserved : goal.loop-command-preserved
loop-command-preserved c =
    let cs = c.args.commands.now in
    let i = c.loop-command.command-index in
    comes_on c.loop-command.room c.put_command-place.new.room _ c.loop-command.place
    c.put_command-place.result _
    c.command-item.result (drop i cs) (drop (i + 1) cs)
    (rw c.command-item.is (drop_more cs i _ c.loop-command-test.true))
    c.put_command-place.ensures.bytes c.put_command-place.ensures.place
    (omega (
      arith,
      c.requires.room,
      c.loop-command.invariant.1,
      c.loop-command.auto.room,
    )) c.loop-command.invariant

pub returns-clause-bytes : goal.returns-clause-bytes
returns-clause-bytes c =
    let cs = c.args.commands.now in
    let i = c.loop-command.command-index in
    all_came c.loop-command.room _ c.loop-command.place _ (drop i cs)
    (drop_of_length-le cs c.loop-command-test.false) c.loop-command.invariant
