use Rattle.law_node_history.proofs.Closed.{client_tells, server_tells}
use Rattle.law_node_history.proofs.closes.a_closed_end_tells_its_cause.Goals as goal

pub returns : goal.returns
returns g c = record { client = client_tells; server = server_tells }
