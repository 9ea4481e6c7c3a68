-- what is on its way is taken
use Rattle.rh_window.proofs.HopLaws.{taken_on_its_way}
use Rattle.rh_window.proofs.laws.hop_is_honest.Goals as goal

pub returns-clause-ack : goal.returns-clause-ack
returns-clause-ack c = λ h ack hop on. taken_on_its_way h ack hop (hop.acks ack on)
