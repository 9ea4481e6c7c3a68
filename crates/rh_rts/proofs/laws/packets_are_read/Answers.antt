use Rattle.rh_rts.proofs.OneReading.{judged_so, packet_read, own_length}
use Rattle.rh_rts.proofs.Verdicts.{judged}
use Rattle.rh_rts.proofs.laws.packets_are_read.Goals as goal

pub returns-clause-judged : goal.returns-clause-judged
returns-clause-judged c = λ bytes fits. judged bytes fits

pub returns-clause-only : goal.returns-clause-only
returns-clause-only c = λ bytes verdict h. judged_so bytes verdict h

pub returns-clause-back : goal.returns-clause-back
returns-clause-back c = λ p is. packet_read p is

pub returns-clause-length : goal.returns-clause-length
returns-clause-length c = λ p rest is. own_length p rest is
