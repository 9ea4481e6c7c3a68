use Rattle.law_role_client.proofs.Receiving.Receives.{acks_within, counts_what_came, opens_with}
use Rattle.law_role_client.proofs.receives.a_client_tells_what_its_windows_told.Goals as goal

pub returns-clause-counted : goal.returns-clause-counted
returns-clause-counted c = counts_what_came

pub returns-clause-opened : goal.returns-clause-opened
returns-clause-opened c = opens_with

pub returns-clause-acks : goal.returns-clause-acks
returns-clause-acks c = acks_within
