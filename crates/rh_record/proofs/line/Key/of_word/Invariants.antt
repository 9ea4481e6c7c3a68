-- none so far is the word
use Rattle.rh_record.proofs.WordTables.{MissesKeys}
use Rattle.rh_record.proofs.line.Key.of_word.Given as goal

abbrev pub invariant-keys : goal.invariant-keys
invariant-keys l = MissesKeys l.at l.word
