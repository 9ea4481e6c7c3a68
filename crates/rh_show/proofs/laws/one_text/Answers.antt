use Rattle.rh_show.proofs.Shows.{one_shown, one_show_text}
use Rattle.rh_show.proofs.Telling.{told, show_text}
use Rattle.rh_show.proofs.laws.one_text.Goals as goal

pub returns-clause-told : goal.returns-clause-told
returns-clause-told c = told

pub returns-clause-shown : goal.returns-clause-shown
returns-clause-shown c = one_shown

pub returns-clause-each : goal.returns-clause-each
returns-clause-each c = show_text

pub returns-clause-lines : goal.returns-clause-lines
returns-clause-lines c = one_show_text
