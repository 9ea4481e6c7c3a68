use Rattle.law_world_reports.proofs.Bounded.Windows.{RolesHold, same_cast, reached_hold, turns_hold}
use Rattle.law_world_reports.proofs.bounds.windows_hold_in_a_world_of_roles.Goals as goal

pub returns : goal.returns
returns c =
    let law : RolesHold = record {
      client = c.what_a_client_holds.ensures.events;
      server = c.what_a_server_holds.ensures.events;
      in_proxy = c.what_an_in_proxy_holds.ensures.events;
      out_proxy = c.what_an_out_proxy_holds.ensures.events;
    } in
    record { cast = same_cast; windows = reached_hold law; turns = turns_hold law }
