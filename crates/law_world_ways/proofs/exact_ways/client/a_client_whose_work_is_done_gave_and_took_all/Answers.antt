use Rattle.law_world_ways.proofs.ExactWays.ClientOver.{gave_all, took_all}
use Rattle.law_world_ways.proofs.exact_ways.client.a_client_whose_work_is_done_gave_and_took_all.Goals as goal

pub returns : goal.returns
returns c = record {
  gave = λ config moves allowed.
      gave_all config moves allowed (c.a_client_gives_in_order.ensures config moves allowed);
  took = took_all;
}
