use Rattle.rh_http.proofs.NumberLemmas.{Read}
use Rattle.rh_http.proofs.numbers.read_length.Given as goal

abbrev pub invariant-loop-place : goal.invariant-loop-place
invariant-loop-place l = Read l.text l.place l.number
