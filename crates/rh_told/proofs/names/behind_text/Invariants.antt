-- what is sought stands in the bytes that are left
use Rattle.std.proofs.Common.{◌≡◌, length}
use Rattle.rh_told.specs.Names.{behind_text}
use Rattle.rh_told.proofs.names.behind_text.Given as goal

abbrev pub invariant-bytes : goal.invariant-bytes
invariant-bytes l = behind_text l.rest ≡ behind_text l.bytes

abbrev pub decreases-bytes : goal.decreases-bytes
decreases-bytes l = length l.rest
