use Rattle.rh_http.proofs.Founds.{Searched}
use Rattle.rh_http.proofs.lengths.find_lengths.Given as goal

abbrev pub invariant-loop-field : goal.invariant-loop-field
invariant-loop-field l = Searched l.head l.fields l.field-index l.found
