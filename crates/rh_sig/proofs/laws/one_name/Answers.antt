use Rattle.rh_sig.proofs.Clear.{one_carried, one_name, one_value, one_reading}
use Rattle.rh_sig.proofs.laws.one_name.Goals as goal

pub returns-clause-row : goal.returns-clause-row
returns-clause-row c = λ pipe a b p q flags types. one_carried pipe a b p q flags types

pub returns-clause-name : goal.returns-clause-name
returns-clause-name c = λ p pipe a b x y. one_name p pipe a b x y

pub returns-clause-value : goal.returns-clause-value
returns-clause-value c = λ a b name commands. one_value a b name commands

pub returns-clause-reading : goal.returns-clause-reading
returns-clause-reading c = λ p pipe a b x y. one_reading p pipe a b x y
