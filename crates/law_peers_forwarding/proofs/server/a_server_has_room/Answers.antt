use Rattle.law_peers_forwarding.proofs.Fitting.{are_answered, has_room}
use Rattle.law_peers_forwarding.proofs.server.a_server_has_room.Goals as goal

pub returns : goal.returns
returns c numbers reader moves moment lifetimes =
    has_room numbers reader moves
    (record {
      forwards = c.what_a_server_forwards.ensures numbers.window moves.server;
      fills = c.fifteen_wait_where_there_is_no_room.ensures numbers.window moves.server;
      oldest = c.an_acknowledgement_waits_longest.ensures numbers.window moves.server;
      taken = c.few_channels_are_answered_before_an_acknowledgement.ensures numbers.window
          moves.server;
      wait = c.no_more_acknowledgements_wait_than_channels.ensures numbers reader moves moment.now;
      late = c.few_channels_are_late.ensures numbers reader moves moment;
      due = c.one_answer_is_due.ensures numbers reader moves moment;
      long = c.lifetimes_are_long.ensures numbers reader moves moment lifetimes;
      packets = c.few_packets_wait_at_a_server.ensures numbers.window;
      answered = are_answered numbers reader moves moment
          (λ reader_then moves_then joined.
          c.replacements_go_round.ensures numbers reader_then moves_then joined.made
          joined.joined)
          (c.a_server_opens_once.ensures numbers.window);
    })
