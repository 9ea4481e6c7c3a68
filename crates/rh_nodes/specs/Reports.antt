-- a world afterwards, and what is reported meanwhile
use Rattle.std.specs.Prelude.{◌≡◌, ℕ, zero, suc, List, [], ◌++◌, OnOk}
use Rattle.std.specs.declared.result.Result.{Result}
use Rattle.rh_text.specs.Writing.{Writes}
use Rattle.rh_record.specs.declared.answer.Answer.{Answer}

-- and then something else is done
abbrev pub and_then : {W : Type 0} → W × List Answer → (W → W × List Answer) → W × List Answer
and_then did act = ((act did.0).0, did.1 ++ (act did.0).1)

-- something is done for each number below one, the lower first
abbrev pub each : {W : Type 0} → ℕ → (ℕ → W → W × List Answer) → W → W × List Answer
each zero act w = (w, [])
each (suc n) act w = and_then (each n act w) (act n)

-- it was done and reported; or, for want of memory, a front of the report was added
pub record Tells {W E : Type 0} (did : W × List Answer) (result : Result (Unit {0}) E) (now : W)
    (before after : List Answer) : Type 0 where
  pub world : OnOk result (now ≡ did.0)
  pub report : Writes did.1 result before after
