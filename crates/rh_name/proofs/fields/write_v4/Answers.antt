use Rattle.std.proofs.Common.{string_bytes}
use Rattle.rh_name.proofs.Parts.{v4_by}
use Rattle.rh_name.proofs.fields.write_v4.Goals as goal

pub returns : goal.returns
returns c =
    v4_by c.args.bytes.now _ _ _ _ c.write_parts.result (string_bytes c.args.out.now)
    (string_bytes c.write_parts.new.out) c.number-a.ensures c.number-b.ensures c.number-c.ensures
    c.number-d.ensures c.write_parts.ensures
