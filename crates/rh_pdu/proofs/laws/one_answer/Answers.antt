-- a law of answers
use Rattle.rh_pdu.proofs.OneAnswer as law
use Rattle.rh_pdu.proofs.laws.one_answer.Goals as goal

pub returns : goal.returns
returns c = law.one_answer
