use Rattle.std.proofs.Common.{◌++◌, string_bytes, Err}
use Rattle.std.proofs.lemmas.Result.{err_from_is_err_and}
use Rattle.rh_text.proofs.Appending.{writes_both, writes_one}
use Rattle.rh_name.specs.Fields.{fields_text}
use Rattle.rh_name.specs.Telling.{others_text}
use Rattle.rh_name.specs.Words.{name_word}
use Rattle.rh_name.proofs.telling.write_behind.Goals as goal

pub returns-in_err-push : goal.returns-in_err-push
returns-in_err-push c =
    let p = err_from_is_err_and c.from_residual.result c.from_residual.ensures.1 in
    let front = rw c.name_word.ensures at c.in_err-push.ensures in
    rw p.1 (writes_one (name_word c.args.name)
    (others_text c.args.others.now ++ fields_text c.args.name 0 c.args.packet.now.commands) p.0
    (string_bytes c.args.out.now) (string_bytes c.push.new.out) front)

pub returns-in_err-write_others : goal.returns-in_err-write_others
returns-in_err-write_others c =
    let residual = c.from_residual-in_err-write_others in
    let p = err_from_is_err_and residual.result residual.ensures.1 in
    let fields = fields_text c.args.name 0 c.args.packet.now.commands in
    let front = rw c.name_word.ensures at c.in_ok-push.ensures in
    rw p.1 (writes_both (name_word c.args.name) (others_text c.args.others.now ++ fields)
    (Err p.0) (string_bytes c.args.out.now) (string_bytes c.push.new.out)
    (string_bytes c.write_others.new.out) front
    (writes_one (others_text c.args.others.now) fields p.0
    (string_bytes c.push.new.out) (string_bytes c.write_others.new.out)
    c.in_err-write_others.ensures))

pub returns : goal.returns
returns c =
    let fields = fields_text c.args.name 0 c.args.packet.now.commands in
    let front = rw c.name_word.ensures at c.in_ok-push.ensures in
    writes_both (name_word c.args.name) (others_text c.args.others.now ++ fields)
    c.write_fields.result (string_bytes c.args.out.now) (string_bytes c.push.new.out)
    (string_bytes c.write_fields.new.out) front
    (writes_both (others_text c.args.others.now) fields c.write_fields.result
    (string_bytes c.push.new.out) (string_bytes c.write_others.new.out)
    (string_bytes c.write_fields.new.out) c.in_ok-write_others.ensures c.write_fields.ensures)
