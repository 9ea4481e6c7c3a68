use Rattle.std.proofs.Common.{List, length, ◌+◌, sym, ap, ◌∙◌, arith}
use Rattle.rh_rts.specs.declared.command.Command.{Command}
use Rattle.rh_rts.specs.Commands.{spellings}
use Rattle.rh_rts.proofs.OneReading.{sized}
use Rattle.rh_rts.proofs.decoding.read.Goals as goal

pub overflow_cast-bytes : goal.overflow_cast-bytes
overflow_cast-bytes c =
    let is = c.in-Ok.ensures.reads.0 in
    omega (arith, is.length, sized c.args.bytes.now c.in-Ok.seen c.in-Ok.ensures.reads.1)

pub of-requires-clause-length : goal.of-requires-clause-length
of-requires-clause-length c =
    sized c.args.bytes.now c.in-Ok.seen c.in-Ok.ensures.reads.1
    ∙ ap (λ (cs : List Command). 20 + length (spellings cs))
    (sym (c.in_ok-commands.ensures ∙ c.commands.ensures))
