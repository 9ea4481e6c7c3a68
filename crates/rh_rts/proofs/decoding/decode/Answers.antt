use Rattle.rh_rts.proofs.Exact.{decoded_so, decoded_packet, decoded_fault}
use Rattle.rh_rts.proofs.decoding.decode.Goals as goal

pub returns-clause-computed : goal.returns-clause-computed
returns-clause-computed c = decoded_so c.args.bytes.now c.read.result c.read.ensures

pub returns-clause-packet : goal.returns-clause-packet
returns-clause-packet c = decoded_packet c.args.bytes.now c.read.result c.read.ensures

pub returns-clause-fault : goal.returns-clause-fault
returns-clause-fault c = decoded_fault c.args.bytes.now c.read.result c.read.ensures
