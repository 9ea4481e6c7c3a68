use Rattle.law_role_client.proofs.Receiving.Receives.{within_windows, within_acks, no_packet}
use Rattle.law_role_client.proofs.Vocabulary.{client_moved}
use Rattle.law_role_client.proofs.receives.a_client_receives_within_its_window.Goals as goal

pub returns-clause-windows : goal.returns-clause-windows
returns-clause-windows c = within_windows

pub returns-clause-acks : goal.returns-clause-acks
returns-clause-acks c = within_acks

pub returns-clause-packets : goal.returns-clause-packets
returns-clause-packets c = λ config moves leg count named.
    no_packet (client_moved config moves).passage.role leg count named
