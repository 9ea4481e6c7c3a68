-- what is told of a recording, line by line and answer by answer
use Rattle.std.specs.Prelude.{ℕ, List, [], ◌∷◌, ◌++◌}
use Rattle.rh_record.specs.declared.answer.Answer.{Answer}
use Rattle.rh_record.specs.declared.line.Line.{Line}

pub record Tale (Teller : Type 0) : Type 0 where
  -- before the first line
  pub first : Teller
  -- what is told of a line, before it is answered, and the teller behind that
  pub line : Teller → Line → List ℕ
  pub heard : Teller → Line → Teller
  -- what is told of an answer, and the teller behind it
  pub answer : Teller → Answer → List ℕ
  pub after : Teller → Answer → Teller

-- what is told of answers, one behind the other
abbrev pub told : {T : Type 0} → Tale T → T → List Answer → List ℕ
told tale teller [] = []
told tale teller (answer ∷ answers) =
    tale.answer teller answer ++ told tale (tale.after teller answer) answers

-- the teller behind them
abbrev pub behind : {T : Type 0} → Tale T → T → List Answer → T
behind tale teller [] = teller
behind tale teller (answer ∷ answers) = behind tale (tale.after teller answer) answers
