use Rattle.rh_rts.proofs.OneReading.{one_packet, no_longer, one_fault, never_both}
use Rattle.rh_rts.proofs.Verdicts.{some_verdict}
use Rattle.rh_rts.proofs.laws.one_packet.Goals as goal

pub returns-clause-verdict : goal.returns-clause-verdict
returns-clause-verdict c = λ bytes fits. some_verdict bytes fits

pub returns-clause-packet : goal.returns-clause-packet
returns-clause-packet c = λ a b p q same. one_packet a b p q same

pub returns-clause-prefix : goal.returns-clause-prefix
returns-clause-prefix c = λ a b rest p q same. no_longer a b rest p q same

pub returns-clause-fault : goal.returns-clause-fault
returns-clause-fault c = λ bytes x y p q. one_fault bytes x y p q

pub returns-clause-never_both : goal.returns-clause-never_both
returns-clause-never_both c = λ p x is wrong. never_both p x is wrong
