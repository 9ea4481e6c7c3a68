use Rattle.law_world_windows.proofs.Closing.{no_in_range, no_out_window, no_server_range, no_server_window}
use Rattle.law_world_windows.proofs.worlds.no_hop_on_one_leg_closes_a_node.Goals as goal

pub returns : goal.returns
returns g c =
    let hop = c.hops_keep_their_laws.ensures in
    let law = c.worlds_keep_their_laws.ensures in record {
      server_window = λ m w new ours ranges v by change may n reached edge closes.
          no_server_window hop m w ours ranges (law m w new ours ranges) v by change may n reached
          edge closes;
      server_range = λ m w new ours ranges v by change may n command value closes.
          no_server_range hop m w ours ranges (law m w new ours ranges) v by change may n command
          value closes;
      in_range = λ m w new ours ranges v by change may k n command value closes.
          no_in_range hop m w ours ranges (law m w new ours ranges) v by change may k n command
          value closes;
      out_window = λ m w new ours ranges v by change may k n reached edge closes.
          no_out_window hop m w ours ranges (law m w new ours ranges) v by change may k n reached
          edge closes;
    }
