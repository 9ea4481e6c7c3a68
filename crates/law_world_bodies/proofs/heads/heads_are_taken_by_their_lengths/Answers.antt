use Rattle.law_world_bodies.proofs.Lengths.{client_takes, in_takes, out_takes, server_takes}
use Rattle.law_world_bodies.proofs.heads.heads_are_taken_by_their_lengths.Goals as goal

pub returns : goal.returns
returns c = record {
  in_proxy = in_takes;
  out_proxy = out_takes;
  client = client_takes;
  server = server_takes;
}
