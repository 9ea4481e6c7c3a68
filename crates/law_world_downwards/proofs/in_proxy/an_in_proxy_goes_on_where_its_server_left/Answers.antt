use Rattle.law_node_traces.proofs.Vocabulary.{deeds, rules}
use Rattle.law_node_begins.specs.ProxiesBegin.Pipes.{is}
use Rattle.law_world_downwards.proofs.Downwards.{InLaws, in_goes}
use Rattle.law_world_downwards.proofs.in_proxy.an_in_proxy_goes_on_where_its_server_left.Goals as goal

pub returns : goal.returns
returns g c = λ m w new ours ranges port v by going n over.
    let once = c.legs_of_roles_come_up_once.ensures m w.company w.cast ours in
    let ways = c.nothing_on_its_way_is_lost.ensures m w new ours ranges v by in
    in_goes m w v ours by.leads
    (c.a_recording_of_roles_is_known.ensures.changes m w v new ours by.leads)
    (c.a_proxy_that_was_let_go_has_no_leg_up.ensures rules m deeds w v new once by.leads) ways going
    law n over
    (c.no_head_that_comes_asks_for_an_echo.ensures.ins m w new ours ranges port v by n
    (ways.directions.up.proxies n))
    (c.what_comes_is_read.ensures.ins m w new ours ranges port v by n (is n))
  where
    law : InLaws
    law = record {
      keeps_in = c.a_leg_of_use_is_kept.ensures.in_proxy;
      in_loses = c.a_node_goes_on_where_it_may_lose_a_leg.ensures;
      in_told = c.no_end_closes_an_in_proxy_that_was_told.ensures;
    }
