use Rattle.std.proofs.Common.{string_bytes}
use Rattle.rh_name.proofs.Parts.{flags_by}
use Rattle.rh_name.proofs.pdus.write_set_flags.Goals as goal

pub returns : goal.returns
returns c =
    flags_by c.args.flags _ _ _ _ _ _ _ _ c.write_parts.result (string_bytes c.args.out.now)
    (string_bytes c.write_parts.new.out) c.flag_word.ensures c.flag_word-2.ensures
    c.flag_word-3.ensures c.flag_word-4.ensures c.flag_word-5.ensures c.flag_word-6.ensures
    c.flag_word-7.ensures c.flag_word-8.ensures c.write_parts.ensures
