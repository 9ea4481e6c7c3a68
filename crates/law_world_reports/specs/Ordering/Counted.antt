-- what the last lines of a report count (profile)
use Rattle.std.specs.Prelude.{◌≡◌, ◌-◌, ◌^◌, ℕ, List, ◌∷◌, ◌++◌, length, min}
use Rattle.rh_text.specs.declared.ends.Side.TheVariants.{Client, Server}
use Rattle.rh_record.specs.declared.line.Line.{Line}
use Rattle.rh_record.specs.declared.answer.Answer.{Answer}
use Rattle.rh_record.specs.declared.answer.Answer.TheVariants.{Up, Down}
use Rattle.rh_record.specs.Events.Events.{events, given, offered, taken}

-- a count stands still at the end of its type
abbrev pub capped_count : ℕ → ℕ
capped_count n = min n (2 ^ 32 - 1)

-- what was given and taken in each direction, as far as the counts go, with other lines behind
abbrev pub CountsCapped : List Line → List Answer → Type 0
CountsCapped lines report =
    (front : List Answer) × (behind : List Answer) × (report ≡ front
    ++ Up (capped_count (length (given Client (offered lines) (events report))))
    (capped_count (length (taken Server (events report))))
    ∷ Down (capped_count (length (given Server (offered lines) (events report))))
    (capped_count (length (taken Client (events report))))
    ∷ behind)
