use Rattle.law_order.proofs.Vocabulary.{refl}
use Rattle.law_role_server.proofs.Vocabulary.{is_conn_a2, is_out_r1_a4}
use Rattle.law_role_server_rows.proofs.Refusing.FirstLeg.{first_so}
use Rattle.law_role_server_rows.proofs.Refusing.Steps.{known}
use Rattle.law_role_server_rows.proofs.Refusing.BegunSteps.{begun_so}
use Rattle.law_role_server_rows.proofs.Refusing.WritingSteps.{writes_so}
use Rattle.law_role_server_rows.proofs.Refusing.Packets.{refuses_for}
use Rattle.law_role_server_rows.proofs.refusals.what_a_server_refuses.Goals as goal

pub returns : goal.returns
returns c = λ window moves may.
    refuses_for _ (c.a_server_opens_once.ensures window moves)
    (c.a_server_replaces_out_channels_one_by_one.ensures.counts window moves)
    (begun_so is_conn_a2 (λ v1 v2 v3. refl) (λ v1. refl) window moves may)
    (begun_so is_out_r1_a4 (λ v1 v2 v3. refl) (λ v1. refl) window moves may)
    (writes_so window moves may)
    (c.a_server_replaces_out_channels_one_by_one.ensures.legs window moves)
    (first_so window moves) (known window moves)
