use Rattle.law_role_server_rows.proofs.InTurn.Owned.{passes_on_own}
use Rattle.law_role_server_rows.proofs.turns.acks.a_server_passes_acks_on_their_leg.Goals as goal

pub returns : goal.returns
returns c = λ window. passes_on_own window (c.what_a_server_refuses.ensures window)
