-- none so far is the word
use Rattle.rh_script.proofs.WordTables.{MissesVerbs}
use Rattle.rh_script.proofs.verb.Verb.of_word.Given as goal

abbrev pub invariant-verbs : goal.invariant-verbs
invariant-verbs l = MissesVerbs l.at l.word
