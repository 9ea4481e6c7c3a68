-- none so far is the word
use Rattle.rh_script.proofs.WordTables.{MissesLones}
use Rattle.rh_script.proofs.verb.Lone.of_word.Given as goal

abbrev pub invariant-lones : goal.invariant-lones
invariant-lones l = MissesLones l.at l.word
