use Rattle.law_role_client_rows.proofs.Refusing.Why.{refuses}
use Rattle.law_role_client_rows.proofs.refusals.what_a_client_refuses.Goals as goal

pub returns : goal.returns
returns c = refuses
