use Rattle.rh_rts.proofs.OneReading.{judged_so}
use Rattle.rh_rts.proofs.Exact.{seen_packet, seen_fault}
use Rattle.rh_rts.proofs.judging.view.Goals as goal

pub returns-clause-computed : goal.returns-clause-computed
returns-clause-computed c = judged_so c.args.bytes.now c.judge.result c.judge.ensures

pub returns-clause-packet : goal.returns-clause-packet
returns-clause-packet c = seen_packet c.args.bytes.now c.judge.result c.judge.ensures

pub returns-clause-fault : goal.returns-clause-fault
returns-clause-fault c = seen_fault c.args.bytes.now c.judge.result c.judge.ensures
