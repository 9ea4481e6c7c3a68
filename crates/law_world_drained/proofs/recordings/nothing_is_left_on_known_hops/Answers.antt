use Rattle.law_world_drained.proofs.Worlds.{Laws, none_left_where_quiet}
use Rattle.law_world_drained.proofs.recordings.nothing_is_left_on_known_hops.Goals as goal

pub returns : goal.returns
returns c = none_left_where_quiet laws
  where
    laws : Laws
    laws = record {
      routes = record {
        down = c.what_goes_down_is_a_route.ensures;
        up = c.what_goes_up_is_a_route.ensures;
      };
      pipes = c.proxies_keep_their_pipes.ensures.out_proxy;
      waiting = c.what_is_not_taken_waits_at_nodes.ensures;
    }
