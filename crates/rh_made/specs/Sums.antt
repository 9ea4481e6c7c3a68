-- what answers come to (profile)
use Rattle.std.specs.Prelude.{ℕ, List, length, Some}
use Rattle.std.specs.List.{sum_by}
use Rattle.rh_pdu.specs.Feeding.{capped}
use Rattle.rh_record.specs.declared.answer.Answer.{Answer}
use Rattle.rh_record.specs.declared.answer.Answer.TheVariants.{Move, Quiet, Spent}

-- the number of bytes of a move
abbrev pub bytes_of : Answer → ℕ
bytes_of (Move leg dir (Some bytes)) = length bytes
bytes_of _ = 0

-- the number of rounds of a settling
abbrev pub rounds_of : Answer → ℕ
rounds_of (Quiet rounds) = rounds
rounds_of (Spent rounds) = rounds
rounds_of _ = 0

-- the bytes of all moves, and the rounds of all settlings; sums that pass the greatest number of 64
-- bits stay there
abbrev pub moved : List Answer → ℕ
moved report = capped (sum_by bytes_of report)

abbrev pub rounds : List Answer → ℕ
rounds report = capped (sum_by rounds_of report)
