use Rattle.law_role_outproxy.proofs.Refusing.Law.{refuses}
use Rattle.law_role_outproxy.proofs.Vocabulary.{co_leg}
use Rattle.law_role_outproxy.proofs.refusals.what_an_out_proxy_refuses.Goals as goal

pub returns : goal.returns
returns c = λ config moves counted.
    refuses config moves counted
    (c.an_out_proxy_is_opened_once.ensures config moves counted (co_leg config.number))
