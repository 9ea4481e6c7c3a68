use Rattle.law_world_known.proofs.Besides.{none_left_where_quiet}
use Rattle.law_world_known.proofs.left.nothing_is_left_where_clients_hops_are_known.Goals as goal

pub returns : goal.returns
returns c =
    none_left_where_quiet c.hops_to_the_server_are_known_at_rest.ensures
    c.nothing_is_left_on_known_hops.ensures
