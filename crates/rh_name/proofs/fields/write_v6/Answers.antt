use Rattle.std.proofs.Common.{string_bytes}
use Rattle.rh_name.proofs.Parts.{v6_by}
use Rattle.rh_name.proofs.fields.write_v6.Goals as goal

pub returns : goal.returns
returns c =
    v6_by c.args.bytes.now _ _ _ _ _ _ _ _ c.write_parts.result (string_bytes c.args.out.now)
    (string_bytes c.write_parts.new.out) c.pair-a.ensures c.pair-b.ensures c.pair-c.ensures
    c.pair-d.ensures c.pair-e.ensures c.pair-f.ensures c.pair-g.ensures c.pair-h.ensures
    c.write_parts.ensures
