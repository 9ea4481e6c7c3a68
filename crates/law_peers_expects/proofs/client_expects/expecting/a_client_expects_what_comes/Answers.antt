use Rattle.law_peers_expects.proofs.ClientExpects.Expected.{expects}
use Rattle.law_peers_expects.proofs.ClientExpects.GoingRound.{RoundLaws}
use Rattle.law_peers_expects.proofs.ClientExpects.Known.{Laws}
use Rattle.law_peers_expects.proofs.client_expects.expecting.a_client_expects_what_comes.Goals as goal

pub returns : goal.returns
returns c = expects laws
  where
    rounds : RoundLaws
    rounds = record {
      replaces = c.a_client_replaces_out_channels_one_by_one.ensures;
      asks = c.a_client_asks_where_a_successor_is_wanted.ensures;
      turns = c.a_server_replaces_out_channels_one_by_one.ensures.legs;
      forwards = c.an_out_proxy_forwards_what_came.ensures;
      round = c.replacements_go_round.ensures;
    }

    laws : Laws
    laws = record {
      rounds = rounds;
      wanted = c.successors_are_wanted_in_turn.ensures;
      opens = c.a_client_opens_once.ensures;
      refuses = c.what_a_client_refuses.ensures;
      names = c.a_client_names_its_out_channels.ensures;
      server_opens = c.a_server_opens_once.ensures;
      writes = c.a_server_writes_on_channels_that_began.ensures;
      counts = c.a_server_has_numbers_for_out_channels.ensures;
      order = c.an_out_proxy_keeps_order.ensures;
      puts = c.an_out_proxy_opens_to_its_client_in_order.ensures;
    }
