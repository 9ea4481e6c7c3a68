use Rattle.law_world_ways.proofs.MarksPut.ClientMarks.{marks}
use Rattle.law_world_ways.proofs.marks_put.client.a_client_puts_a_mark.Goals as goal

pub returns : goal.returns
returns c = λ config moves allowed.
    marks c.a_clients_leg_comes_up_once.ensures.moves c.a_clients_leg_comes_up_once.ensures.calls
    config moves allowed (c.a_client_gives_in_order.ensures config moves allowed)
