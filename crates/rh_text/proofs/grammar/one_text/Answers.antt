use Rattle.rh_text.proofs.Texts.{one_text_of, one_first_bad, never_both}
use Rattle.rh_text.proofs.grammar.one_text.Goals as goal

pub returns-clause-lines : goal.returns-clause-lines
returns-clause-lines g c = one_text_of g.G.Grammar.rules g.met.G.Grammar.one g.met.G.Grammar.some

pub returns-clause-bad : goal.returns-clause-bad
returns-clause-bad g c = one_first_bad g.G.Grammar.rules g.met.G.Grammar.one g.met.G.Grammar.some

pub returns-clause-never_both : goal.returns-clause-never_both
returns-clause-never_both g c = never_both g.G.Grammar.rules g.met.G.Grammar.one
    g.met.G.Grammar.some
