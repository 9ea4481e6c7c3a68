use Rattle.law_order.proofs.Vocabulary.{subst}
use Rattle.law_role_inproxy.proofs.Vocabulary.{InProxy}
use Rattle.law_role_client.proofs.Vocabulary.{ClientRole}
use Rattle.law_role_server.proofs.Vocabulary.{Server}
use Rattle.law_node_history.proofs.Vocabulary.{Makers, World, IsNew, all_noted, nothing}
use Rattle.law_role_outproxy.proofs.Vocabulary.{OutProxy}
use Rattle.law_node_traces.proofs.Vocabulary.{AreOurs, deeds, rules}
use Rattle.law_world_order.proofs.Vocabulary.{down_route_of, up_route_of, numbers_of, AreInRange, IsPort}
use Rattle.law_world_ways.proofs.ExactPaths.DownLegs.{none_stops_down}
use Rattle.law_world_ways.proofs.ExactPaths.UpLegs.{none_stops_up}
use Rattle.law_world_ways.proofs.ExactPaths.OverUp.{passes_where_over}
use Rattle.law_world_ways.proofs.ExactPaths.AtFronts.{NodeLaws, WorldLaws}
use Rattle.law_world_ways.proofs.exact_paths.worlds.what_is_lost_in_time_had_passed.Goals as goal
use Rattle.law_world_ways.specs.OnPaths.Ways.{AreOnTheirWay, down_lost, up_lost}
use Rattle.law_world_ways.specs.ExactWays.Pdus.{NoneStopsButBehindEnd}
use Rattle.law_world_ways.specs.ExactPaths.Over.{PassesWhereOver}

pub returns : goal.returns
returns g c = record {
  down = λ m w new ours ranges port v ends going.
      let changes = ends.lines.leads.changes in
      let h = all_noted rules m deeds w nothing changes in
      let numbers = numbers_of ours in
      subst (λ (x : World g.row.K.Denot ClientRole Server InProxy OutProxy).
      (ways : AreOnTheirWay numbers x h)
      → NoneStopsButBehindEnd (down_route_of ways.directions) (down_lost numbers x h))
      ends.lines.leads.reached
      (none_stops_down m w new ours nodes (world m w new ours ranges port) changes
      ends.lines.leads.allowed ends.lines.work ends.in_time going);
  up = λ m w new ours ranges port v ends going.
      let changes = ends.lines.leads.changes in
      let h = all_noted rules m deeds w nothing changes in
      let numbers = numbers_of ours in
      subst (λ (x : World g.row.K.Denot ClientRole Server InProxy OutProxy).
      (ways : AreOnTheirWay numbers x h)
      → NoneStopsButBehindEnd (up_route_of ways.directions) (up_lost numbers x h))
      ends.lines.leads.reached
      (none_stops_up m w new ours nodes (world m w new ours ranges port) changes
      ends.lines.leads.allowed ends.lines.work ends.in_time going);
  over = λ m w new ours ranges port v ends going.
      let changes = ends.lines.leads.changes in
      let h = all_noted rules m deeds w nothing changes in
      subst (λ (x : World g.row.K.Denot ClientRole Server InProxy OutProxy).
      PassesWhereOver (numbers_of ours) x h) ends.lines.leads.reached
      (passes_where_over m w new ours nodes (world m w new ours ranges port) changes
      ends.lines.leads.allowed ends.lines.work ends.in_time going);
}
  where
    nodes : NodeLaws
    nodes = record {
      keeps_client = c.a_leg_of_use_is_kept.ensures.client;
      keeps_server = c.a_leg_of_use_is_kept.ensures.server;
      keeps_in = c.a_leg_of_use_is_kept.ensures.in_proxy;
      keeps_out = c.a_leg_of_use_is_kept.ensures.out_proxy;
      knows_client = c.a_leg_that_came_up_is_known.ensures.client;
      knows_server = c.a_leg_that_came_up_is_known.ensures.server;
      knows_in = c.a_leg_that_came_up_is_known.ensures.in_proxy;
      knows_out = c.a_leg_that_came_up_is_known.ensures.out_proxy;
      routes = record {
        down = c.what_goes_down_is_a_route.ensures;
        up = c.what_goes_up_is_a_route.ensures;
      };
      out_law = c.an_out_proxy_is_done_behind_a_mark.ensures;
      in_law = c.an_in_proxy_is_done_behind_a_mark_or_end.ensures;
      server_law = c.a_server_is_done_behind_a_mark.ensures;
      client_order = c.a_client_takes_in_order.ensures;
      server_order = c.a_server_takes_in_order.ensures;
      in_order = c.an_in_proxy_keeps_order.ensures;
      out_order = c.an_out_proxy_keeps_order.ensures;
      client_grows = c.an_ends_stream_grows.ensures;
      server_grows = c.an_ends_stream_grows-2.ensures;
      in_grows = c.a_nodes_stream_grows.ensures;
      out_grows = c.a_nodes_stream_grows-2.ensures;
      in_pipes = c.proxies_keep_their_pipes.ensures.in_proxy;
      out_pipes = c.proxies_keep_their_pipes.ensures.out_proxy;
      in_unused = c.a_leg_that_an_in_proxy_left_stays_unused.ensures;
      out_unused = c.a_leg_that_an_out_proxy_left_stays_unused.ensures;
      client_unused = c.a_leg_that_a_client_left_stays_unused.ensures.calls;
      server_unused = c.a_leg_that_a_server_left_stays_unused.ensures.calls;
      client_follows = c.ends_move_by_their_rules.ensures.event;
      server_follows = c.ends_move_by_their_rules-2.ensures.event;
      in_follows = c.roles_move_by_their_rules.ensures.event;
      out_follows = c.roles_move_by_their_rules-2.ensures.event;
      client_refuses = c.an_end_never_refuses.ensures.client;
      server_refuses = c.an_end_never_refuses.ensures.server;
      client_marks = c.a_client_puts_a_mark.ensures;
      server_marks = c.a_server_puts_a_mark.ensures.marks;
      server_uses = c.a_server_puts_a_mark.ensures.behind;
      in_marks = c.an_in_proxy_puts_a_mark.ensures;
      out_marks = c.an_out_proxy_puts_a_mark.ensures;
    }

    world : (m : Makers g.row.K.Denot InProxy OutProxy)
        (w : World g.row.K.Denot ClientRole Server InProxy OutProxy) → IsNew w
        → (ours : AreOurs m w.company w.cast) → AreInRange (numbers_of ours)
        → IsPort ours.config.port → WorldLaws m w ours
    world m w new ours ranges port =
        let once = c.legs_of_roles_come_up_once.ensures m w.company w.cast ours in
        record {
          once = once;
          known = λ v by. c.a_recording_of_roles_is_known.ensures.changes m w v new ours by.leads;
          order = λ v.
              c.channels_come_up_in_order.ensures.changes rules m deeds w v new once;
          led = λ v. c.channels_come_up_in_order.ensures.lines rules m deeds w v new once;
          ways = c.nothing_on_its_way_is_lost.ensures m w new ours ranges;
          live_client = c.what_comes_is_read.ensures.client m w new ours;
          live_server = c.what_comes_is_read.ensures.server m w new ours;
          live_in = c.what_comes_is_read.ensures.ins m w new ours ranges port;
          live_out = c.what_comes_is_read.ensures.outs m w new ours ranges port;
          in_echoes = c.no_head_that_comes_asks_for_an_echo.ensures.ins m w new ours ranges port;
          out_echoes = c.no_head_that_comes_asks_for_an_echo.ensures.outs m w new ours ranges port;
          low = λ v by.
              c.a_proxy_that_was_let_go_has_no_leg_up.ensures rules m deeds w v new once by.leads;
        }
