use Rattle.law_moves.proofs.ClosedNodes.{hear_cut}
use Rattle.law_moves.proofs.Cuttings.{bytes_cut}
use Rattle.law_moves.proofs.RoomCuts.{rooms_cut}
use Rattle.law_moves.proofs.laws.cuts_change_nothing.Goals as goal

pub returns : goal.returns
returns g c =
    let rules = g.R.Role.rules in
    record {
      heard = λ now turn first second. hear_cut rules now turn first second;
      bytes = λ node leg first second. bytes_cut rules node leg second first;
      filled = λ node leg room more. (rooms_cut rules node leg room more).0;
      short = λ node leg room more. (rooms_cut rules node leg room more).1;
    }
