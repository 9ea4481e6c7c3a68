use Rattle.law_peers_in_channels.proofs.PdusInTurn.Behind.{tells_behind}
use Rattle.law_peers_in_channels.proofs.pdus_in_turn.servers.a_server_tells_a_window_behind_handovers.Goals as goal

pub returns : goal.returns
returns c = λ window moves may.
    tells_behind window
    (record {
      answers = c.a_server_answers_in_proxies_in_order.ensures window;
      takes = c.a_server_takes_in_order.ensures window;
      legs = c.what_a_server_refuses_of_in_channels.ensures.legs window;
    })
    moves may
