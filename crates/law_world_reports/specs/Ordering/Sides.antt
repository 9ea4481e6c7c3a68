-- which end each give of a report is of (profile)
use Rattle.std.specs.Prelude.{◌≡◌, List, [], ◌∷◌}
use Rattle.rh_text.specs.declared.ends.Side.{Side}
use Rattle.rh_record.specs.declared.answer.Answer.{Answer}
use Rattle.rh_record.specs.declared.answer.Answer.TheVariants as answer
use Rattle.rh_record.specs.declared.line.Line.{Line}
use Rattle.rh_record.specs.declared.line.Line.TheVariants as line

-- the ends at which lines offer PDUs, in order
abbrev pub offering : List Line → List Side
offering [] = []
offering (line.Give end pdu ∷ lines) = end ∷ offering lines
offering (one ∷ lines) = offering lines

-- the ends that the answers to gives name, in order
abbrev pub giving : List Answer → List Side
giving [] = []
giving (answer.Give end given ∷ answers) = end ∷ giving answers
giving (one ∷ answers) = giving answers

-- each answer to a give names the end of its line: the first that of the first, and so on
abbrev pub NamesSides : List Line → List Answer → Type 0
NamesSides lines report = giving report ≡ offering lines
