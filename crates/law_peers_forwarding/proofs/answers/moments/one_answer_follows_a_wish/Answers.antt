use Rattle.law_order.proofs.Vocabulary.{ℕ, subst}
use Rattle.law_peers_moments.specs.Moments.{out_behind}
use Rattle.law_peers_room.specs.OutRoom.Waits.{WaitsInOrder}
use Rattle.law_peers_forwarding.proofs.Answering.OneMore.{one_follows}
use Rattle.law_peers_forwarding.proofs.answers.moments.one_answer_follows_a_wish.Goals as goal

pub returns : goal.returns
returns c numbers reader moves moment n =
    one_follows numbers reader moves moment (record {
      joined_rounds = λ r ms is.
          c.replacements_go_round.ensures numbers r ms is.made is.joined;
      joined_waits = λ r ms is k.
          subst (λ (i : ℕ). WaitsInOrder i (out_behind numbers ms k)) (is.made.out_number k)
          (c.what_waits_at_an_out_proxy.ensures (numbers.outs k) (ms.outs k));
      joined_before = λ r ms is k.
          c.answers_come_before_a_wish.ensures numbers r ms is.made is.joined k;
      asks_one = c.a_client_asks_for_one_in_channel_behind_a_wish.ensures numbers.client;
      replaces = c.a_client_replaces_out_channels_one_by_one.ensures numbers.client;
      asks = c.a_client_asks_where_a_successor_is_wanted.ensures numbers.client;
      turn = λ ms.
          c.a_server_replaces_out_channels_one_by_one.ensures.legs numbers.window ms.server;
      writes = λ ms.
          c.a_server_writes_on_channels_that_began.ensures numbers.window ms.server;
    }) n
