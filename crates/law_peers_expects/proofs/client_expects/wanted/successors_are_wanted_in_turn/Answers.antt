use Rattle.law_peers_expects.proofs.ClientExpects.GoingRound.{RoundLaws}
use Rattle.law_peers_expects.proofs.ClientExpects.Pasts.{wanted_in_turn}
use Rattle.law_peers_expects.proofs.client_expects.wanted.successors_are_wanted_in_turn.Goals as goal

pub returns : goal.returns
returns c = wanted_in_turn laws
  where
    laws : RoundLaws
    laws = record {
      replaces = c.a_client_replaces_out_channels_one_by_one.ensures;
      asks = c.a_client_asks_where_a_successor_is_wanted.ensures;
      turns = c.a_server_replaces_out_channels_one_by_one.ensures.legs;
      forwards = c.an_out_proxy_forwards_what_came.ensures;
      round = c.replacements_go_round.ensures;
    }
