use Rattle.law_world_windows.proofs.Windowed.ClientRows.{client_rows}
use Rattle.law_world_windows.proofs.Windowed.InRows.{in_rows}
use Rattle.law_world_windows.proofs.Windowed.OutRows.{out_rows}
use Rattle.law_world_windows.proofs.Windowed.ServerRows.{server_rows}
use Rattle.law_world_windows.proofs.windows.rows.rows_refuse_on_their_legs.Goals as goal

pub returns : goal.returns
returns c = record {
  client = client_rows;
  server = server_rows;
  in_proxy = in_rows;
  out_proxy = out_rows;
}
