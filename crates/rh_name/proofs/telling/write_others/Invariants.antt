-- the names so far are written, and the others are left
use Rattle.std.proofs.Common.{drop, string_bytes}
use Rattle.rh_text.proofs.Appending.{IsWritten}
use Rattle.rh_name.specs.Telling.{others_text}
use Rattle.rh_name.proofs.telling.write_others.Given as goal

abbrev pub invariant-names : goal.invariant-names
invariant-names l =
    IsWritten (others_text l.names) (string_bytes l.fn.out) (string_bytes l.out)
    (others_text (drop l.name-index l.names))
