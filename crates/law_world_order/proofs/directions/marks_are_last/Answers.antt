use Rattle.law_world_order.proofs.Marked.{MarkLaw, both_mark}
use Rattle.law_world_order.proofs.directions.marks_are_last.Goals as goal

pub returns : goal.returns
returns g c = λ m w new ours ranges v by.
    let law : MarkLaw = record {
      routes = record {
        down = c.what_goes_down_is_a_route.ensures;
        up = c.what_goes_up_is_a_route.ensures;
      };
      near = c.nothing_stands_behind_a_mark.ensures.near;
      far = c.nothing_stands_behind_a_mark.ensures.far;
    } in
    both_mark law (c.directions_are_joined.ensures m w new ours ranges v by)
