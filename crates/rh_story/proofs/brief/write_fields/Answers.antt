use Rattle.std.proofs.Common.{List, string_bytes, ap}
use Rattle.std.proofs.lemmas.Result.{err_from_is_err_and}
use Rattle.rh_rts.specs.declared.command.Command.{Command}
use Rattle.rh_rts.specs.Showing.{shown}
use Rattle.rh_text.proofs.Appending.{written_part}
use Rattle.rh_name.specs.Fields.{counted}
use Rattle.rh_story.specs.Brief.{brief_field, brief_fields}
use Rattle.rh_story.proofs.brief.write_fields.Goals as goal

pub returns-in_err-write_field : goal.returns-in_err-write_field
returns-in_err-write_field c =
    let l = c.loop-command in
    let p = err_from_is_err_and c.from_residual.result c.from_residual.ensures.1 in
    let command = shown c.in-Some.command in
    rw p.1 (written_part (brief_fields c.args.name 0 c.args.packet.now.commands)
    (string_bytes c.args.out.now) (string_bytes l.out) _ _
    (brief_field c.args.name l.number command)
    (brief_fields c.args.name (counted l.number command) c.next.new.self) p.0
    (ap (λ (cs : List Command). brief_fields c.args.name l.number cs) c.in-Some.ensures.steps)
    c.in_err-write_field.ensures l.invariant)
