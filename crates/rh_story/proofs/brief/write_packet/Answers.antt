use Rattle.std.proofs.Common.{string_bytes}
use Rattle.std.proofs.lemmas.Result.{err_from_is_err_and}
use Rattle.rh_text.proofs.Appending.{writes_both, writes_one}
use Rattle.rh_name.specs.Words.{name_word}
use Rattle.rh_story.specs.Brief.{brief_fields}
use Rattle.rh_story.proofs.brief.write_packet.Goals as goal

pub returns-in_err-write_name : goal.returns-in_err-write_name
returns-in_err-write_name c =
    let p = err_from_is_err_and c.from_residual.result c.from_residual.ensures.1 in
    rw p.1 (writes_one (name_word c.args.name)
    (brief_fields c.args.name 0 c.args.packet.now.commands) p.0 (string_bytes c.args.out.now)
    (string_bytes c.write_name.new.out) c.in_err-write_name.ensures)

pub returns : goal.returns
returns c =
    writes_both (name_word c.args.name)
    (brief_fields c.args.name 0 c.args.packet.now.commands) c.write_fields.result
    (string_bytes c.args.out.now) (string_bytes c.write_name.new.out)
    (string_bytes c.write_fields.new.out)
    c.in_ok-write_name.ensures c.write_fields.ensures
