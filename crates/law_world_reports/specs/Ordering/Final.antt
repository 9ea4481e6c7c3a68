-- a clean end is final (profile)
use Rattle.std.specs.Prelude.{◌≡◌, ◌++◌, List, ◌∷◌}
use Rattle.rh_text.specs.declared.ends.Side.{Side}
use Rattle.rh_record.specs.declared.answer.Answer.{Answer}
use Rattle.rh_record.specs.declared.line.Line.{Line}
use Rattle.rh_record.specs.Events.Events.{Ends, Event, Stops, events, given, offered, other}
use Rattle.law_node_history.specs.Closes.{IsOneOf}

-- where an end reports that all was taken and no more comes, the other end was told before to give
-- no more, and gives nothing behind
pub record EndsForGood (lines : List Line) (report : List Answer) : Type 0 where
  pub told : (end : Side) (front behind : List Event)
      → events report ≡ front ++ Ends end ∷ behind → IsOneOf (Stops (other end)) front
  pub gives_none : (end : Side) (front behind : List Event)
      → events report ≡ front ++ Ends end ∷ behind
      → given (other end) (offered lines) (events report)
      ≡ given (other end) (offered lines) front
