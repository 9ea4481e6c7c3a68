use Rattle.law_moves.proofs.OnWires.{took_in, took_elsewhere, quiet_in, in_then}
use Rattle.law_moves.proofs.wires.frames_are_carried.Goals as goal

pub returns : goal.returns
returns g c = record {
  here = took_in g.R.Role.rules;
  elsewhere = took_elsewhere g.R.Role.rules;
  quiet = quiet_in;
  then = in_then;
}
