use Rattle.law_moves.proofs.OnWires.{put_out, put_elsewhere, quiet_out, out_then}
use Rattle.law_moves.proofs.wires.puts_are_carried.Goals as goal

pub returns : goal.returns
returns g c = record {
  here = put_out g.R.Role.rules;
  elsewhere = put_elsewhere g.R.Role.rules;
  quiet = quiet_out;
  then = out_then;
}
