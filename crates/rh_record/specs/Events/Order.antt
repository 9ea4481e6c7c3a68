-- the order law: what each end takes is what the other gave, each PDU once and in order (profile)
use Rattle.std.specs.Prelude.{◌≡◌, ℕ, List, [], ◌∷◌, ◌++◌, length, take}
use Rattle.rh_text.specs.declared.ends.Side.{Side}
use Rattle.rh_text.specs.declared.ends.Side.TheVariants.{Client, Server}
use Rattle.rh_record.specs.declared.line.Line.{Line}
use Rattle.rh_record.specs.declared.answer.Answer.{Answer}
use Rattle.rh_record.specs.declared.answer.Answer.TheVariants.{Up, Down}
use Rattle.rh_record.specs.Events.Events.{Event, Ends, StopsTaking, StopsGiving, events, given, offered, other, taken}

-- the front of a list
abbrev pub IsPrefix : List (List ℕ) → List (List ℕ) → Type 0
IsPrefix front all = (rest : List (List ℕ)) × (all ≡ front ++ rest)

-- the last lines count what was given and taken in each direction
abbrev pub Counts : List Line → List Answer → Type 0
Counts lines report =
    (front : List Answer) × (report ≡ front
    ++ Up (length (given Client (offered lines) (events report)))
    (length (taken Server (events report)))
    ∷ Down (length (given Server (offered lines) (events report)))
    (length (taken Client (events report)))
    ∷ [])

-- the order law of a recording and its report
pub record IsOrdered (lines : List Line) (report : List Answer) : Type 0 where
  -- at every line, what an end took is a prefix of what the other end gave
  pub in_order : (end : Side) (k : ℕ)
      → IsPrefix (taken end (take k (events report)))
      (given (other end) (offered lines) (take k (events report)))
  -- an end takes nothing after it closed or ended
  pub none_taken_after : (end : Side) (front behind : List Event) (stop : Event)
      → events report ≡ front ++ stop ∷ behind → StopsTaking end stop → taken end behind ≡ []
  -- an end gives nothing after it closed or was told to give no more
  pub none_given_after : (end : Side) (front behind : List Event) (stop : Event)
      → events report ≡ front ++ stop ∷ behind → StopsGiving end stop
      → given end (offered lines) (events report) ≡ given end (offered lines) front
  -- at a clean end, all that the other end gave was taken
  pub all_at_clean_end : (end : Side) (front behind : List Event)
      → events report ≡ front ++ Ends end ∷ behind
      → taken end front ≡ given (other end) (offered lines) front

-- and that of a direct recording, whose report counts
pub record InOrder (lines : List Line) (report : List Answer) : Type 0 where
  pub order : IsOrdered lines report
  pub counted : Counts lines report
