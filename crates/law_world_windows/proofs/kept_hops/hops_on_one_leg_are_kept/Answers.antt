use Rattle.law_world_windows.proofs.EachHop.{RoomLaws, hops_are_kept}
use Rattle.law_world_windows.proofs.kept_hops.hops_on_one_leg_are_kept.Goals as goal

pub returns : goal.returns
returns g c = λ m w new ours ranges.
    let rooms : RoomLaws = record {
      server = c.a_server_receives_within_its_window.ensures.told;
      outs = c.an_out_proxy_receives_within_its_window.ensures.told;
    } in
    hops_are_kept c.hops_keep_their_laws.ensures rooms m w ours ranges
    (c.worlds_keep_their_laws.ensures m w new ours ranges)
