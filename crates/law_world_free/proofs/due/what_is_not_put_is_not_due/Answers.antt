use Rattle.law_world_free.proofs.Acks.{client_due, in_due, out_due, server_due}
use Rattle.law_world_free.proofs.due.what_is_not_put_is_not_due.Goals as goal

pub returns : goal.returns
returns c = record {
  client = client_due;
  out_proxy = out_due;
  in_proxy = in_due;
  server = server_due;
}
