-- all are laws of lists
use Rattle.rh_pdu.proofs.Framing.{framed, framing_is, framing_appends}
use Rattle.rh_pdu.proofs.laws.one_framing.Goals as goal

pub returns : goal.returns
returns c = record {
  framed = framed;
  only = λ bytes frames rest h. framing_is frames bytes rest h;
  append = λ bytes more. framing_appends bytes more;
}
