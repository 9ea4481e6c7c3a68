use Rattle.law_order.proofs.Vocabulary.{[], ◌∷◌}
use Rattle.law_moves.proofs.Vocabulary.{begun, ComesUp, after_event, after_events}
use Rattle.law_node_causes.proofs.OnceUp.{run_once, new_legs, first_once, first_held, was_up_is, comes_up}
use Rattle.law_node_causes.proofs.once.a_leg_comes_up_once.Goals as goal

pub returns : goal.returns
returns g c =
    let rules = g.R.Role.rules in
    let Holds = g.R.UpOnce.holds in
    let law = c.requires in
    let all = c.roles_move_by_their_rules.ensures.event in
    record {
      comes = λ role rooms events leg cookie holds may.
          let first = begun role rooms in
          let node = after_events rules first events in
          let g = run_once rules Holds law all first events (first_held rules Holds law role rooms)
          (first_once rules Holds law role rooms holds) in
          let next = run_once rules Holds law all node (ComesUp leg cookie ∷ []) g.held g.are in
          was_up_is rules Holds law (after_event rules node (ComesUp leg cookie)) leg
          next.are.holds (comes_up rules Holds law node leg cookie g.are.holds may);
      once = λ role rooms events later leg holds was.
          let first = begun role rooms in
          let node = after_events rules first events in
          let g = run_once rules Holds law all first events (first_held rules Holds law role rooms)
          (first_once rules Holds law role rooms holds) in
          let next = run_once rules Holds law all node later g.held g.are in
          was_up_is rules Holds law (after_events rules node later) leg next.are.holds
          (next.up leg was);
      new = λ role rooms events holds.
          new_legs rules Holds law all (begun role rooms) events
          (first_held rules Holds law role rooms) (first_once rules Holds law role rooms holds);
    }
