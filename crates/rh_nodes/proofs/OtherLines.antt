-- a line that has one answer
use Rattle.std.proofs.Common.{◌≡◌, ℕ, refl}
use Rattle.rh_record.specs.declared.line.Line.{Line}
use Rattle.rh_record.specs.declared.line.Line.TheVariants as line
use Rattle.rh_company.specs.Company.{Rulebook}
use Rattle.rh_nodes.specs.Giving.{Deeds}
use Rattle.rh_nodes.specs.Opening.{Makers}
use Rattle.rh_nodes.specs.Steps.{answer_of, reported, step_line}
use Rattle.rh_nodes.specs.World.{World}

-- each line but `settle` is reported by its answer
pub other_line : {K C S I O : Type 0} (r : Rulebook C S I O) (m : Makers K I O) (d : Deeds C S)
    (one : Line) (w : World K C S I O) → ((rounds : ℕ) → one ≡ line.Settle rounds → ⊥)
    → step_line r m d one w ≡ reported (answer_of r m d w one)
other_line r m d (line.First roles) w other = refl
other_line r m d (line.Set key value) w other = refl
other_line r m d (line.Give side pdu) w other = refl
other_line r m d (line.Take side) w other = refl
other_line r m d (line.Close side) w other = refl
other_line r m d (line.Send leg dir count) w other = refl
other_line r m d (line.Move leg dir count) w other = refl
other_line r m d (line.OpenLeg leg) w other = refl
other_line r m d (line.OpenSame leg) w other = refl
other_line r m d (line.BreakLeg leg) w other = refl
other_line r m d (line.EndLeg leg dir) w other = refl
other_line r m d (line.Tick now) w other = refl
other_line r m d line.RecycleIn w other = refl
other_line r m d line.RecycleOut w other = refl
other_line r m d (line.Settle rounds) w other = absurd (other rounds refl)
