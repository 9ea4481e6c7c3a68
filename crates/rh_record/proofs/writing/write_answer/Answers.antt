use Rattle.rh_record.proofs.writing.write_answer.Goals as goal

pub returns-in-RecycleOut : goal.returns-in-RecycleOut
returns-in-RecycleOut c = rw c.in-RecycleOut.is c.write_recycle-in-RecycleOut.ensures
