use Rattle.rh_sig.proofs.Computing.{reads, computed_fine, refused, written, written_fine}
use Rattle.rh_sig.proofs.Computing.{bytes_back, bytes_told}
use Rattle.rh_sig.proofs.Small.{sound, at_most_140}
use Rattle.rh_sig.proofs.laws.packets_are_named.Goals as goal

pub returns-clause-agrees : goal.returns-clause-agrees
returns-clause-agrees c = λ p pipe. reads p pipe

pub returns-clause-read : goal.returns-clause-read
returns-clause-read c = λ p pipe named h fine. computed_fine p pipe named h fine

pub returns-clause-refused : goal.returns-clause-refused
returns-clause-refused c = λ p pipe fault h. refused p pipe fault h

pub returns-clause-sound : goal.returns-clause-sound
returns-clause-sound c = λ named may sizes. sound named may sizes

pub returns-clause-back : goal.returns-clause-back
returns-clause-back c = λ named is. bytes_back named is

pub returns-clause-told : goal.returns-clause-told
returns-clause-told c = λ named pipe is. written named pipe is

pub returns-clause-fine : goal.returns-clause-fine
returns-clause-fine c = λ named pipe is fine. written_fine named pipe is fine

pub returns-clause-length : goal.returns-clause-length
returns-clause-length c = λ named rest is. bytes_told named rest is

pub returns-clause-short : goal.returns-clause-short
returns-clause-short c = λ named is. at_most_140 named is
