use Rattle.law_node_history.proofs.Lines.{leg_goes}
use Rattle.law_node_history.proofs.Rounds.{open_goes, carry_all_goes, end_all_goes}
use Rattle.law_node_history.proofs.changing.what_carries_is_quiet.Goals as goal

pub returns : goal.returns
returns g c = record {
  opens = open_goes;
  carries = carry_all_goes;
  ends = end_all_goes;
  line = leg_goes;
}
