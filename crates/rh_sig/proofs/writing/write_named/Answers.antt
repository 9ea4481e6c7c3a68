use Rattle.rh_sig.specs.Values.{name_of_named, parts_of}
use Rattle.rh_sig.specs.Written.{IsWritten}
use Rattle.rh_sig.proofs.Clear.{one_name, one_reading, reads_as}
use Rattle.rh_sig.proofs.writing.write_named.Goals as goal

pub returns-clause-writes : goal.returns-clause-writes
unfolding IsWritten
returns-clause-writes c = c.write_row.ensures.0

pub returns-clause-packet : goal.returns-clause-packet
unfolding IsWritten
returns-clause-packet c = c.write_row.ensures.1

pub returns-clause-reads : goal.returns-clause-reads
returns-clause-reads c = λ pipe is. reads_as c.args.named.now pipe is

pub returns-clause-alone : goal.returns-clause-alone
returns-clause-alone c = λ pipe other is named.
    one_name (parts_of c.args.named.now) pipe other (name_of_named c.args.named.now) named
    (reads_as c.args.named.now pipe is).0

pub returns-clause-back : goal.returns-clause-back
returns-clause-back c = λ pipe other is reads.
    one_reading (parts_of c.args.named.now) pipe other c.args.named.now reads
    (reads_as c.args.named.now pipe is)
