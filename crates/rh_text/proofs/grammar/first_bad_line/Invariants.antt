-- the lines so far are in the grammar
use Rattle.std.proofs.Common.{length}
use Rattle.rh_text.proofs.Texts.{Reads}
use Rattle.rh_text.proofs.grammar.first_bad_line.Given as goal

abbrev pub invariant-lines : goal.invariant-lines
invariant-lines g l = Reads g.G.Grammar.rules l.text l.place l.rest l.number

abbrev pub decreases-lines : goal.decreases-lines
decreases-lines g l = length l.rest
