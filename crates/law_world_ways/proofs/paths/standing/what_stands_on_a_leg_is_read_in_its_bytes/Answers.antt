use Rattle.law_moves.proofs.Vocabulary.{end_at}
use Rattle.law_node_history.proofs.Vocabulary.{in_flight, receiver, sender, wire_at}
use Rattle.law_world_ways.proofs.OnPaths.Used.{closed_read, unread_way, used_leg}
use Rattle.law_world_ways.proofs.paths.standing.what_stands_on_a_leg_is_read_in_its_bytes.Goals as goal
use Rattle.law_world_ways.specs.OnPaths.Legs.{is_cut, was_told, was_up}
use Rattle.law_world_ways.specs.OnPaths.OnWay.{left_on, read_on}

pub returns : goal.returns
returns g c = record {
  used = used_leg;
  closed = λ v h leg dir pipe puts rules takes closed.
      let take_up = was_up v h leg (receiver dir) in
      unread_way pipe (is_cut v h leg dir) (read_on rules takes pipe leg take_up)
      (in_flight dir (wire_at v.legs leg))
      (left_on puts leg (was_up v h leg (sender dir)) (was_told v h leg (sender dir)))
      (closed_read rules takes.role pipe take_up (end_at takes leg) takes.course closed);
}
