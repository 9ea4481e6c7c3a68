use Rattle.law_world_honest.proofs.Honesty.ClientRows.{client_rows}
use Rattle.law_world_honest.proofs.Honesty.ServerRows.{server_rows}
use Rattle.law_world_honest.proofs.Honesty.InRows.{in_rows}
use Rattle.law_world_honest.proofs.Honesty.OutRows.{out_rows}
use Rattle.law_world_honest.proofs.honest.ranges.rows_refuse_values_of_acknowledgements.Goals as goal

pub returns : goal.returns
returns c = record {
  client = client_rows;
  server = server_rows;
  in_proxy = in_rows;
  out_proxy = out_rows;
}
