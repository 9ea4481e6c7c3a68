use Rattle.law_node_history.proofs.Noting.{begins, change_is_noted, changes_are_noted}
use Rattle.law_node_history.proofs.histories.each_node_is_what_its_history_made.Goals as goal

pub returns : goal.returns
returns g c =
    record { begins = begins; change = change_is_noted; changes = changes_are_noted }
