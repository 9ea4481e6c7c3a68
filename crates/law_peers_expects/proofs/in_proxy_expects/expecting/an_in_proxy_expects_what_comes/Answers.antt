use Rattle.law_order.proofs.Vocabulary.{ℕ, subst}
use Rattle.law_moves.proofs.Vocabulary.{of_leg}
use Rattle.law_role_inproxy.proofs.Vocabulary.{PutsForWhatCame, is_leg, RefusesFor}
use Rattle.law_peers_moments.specs.Moments.{AreMade, IsJoined, IsMoment, Moves, Numbers, in_behind, server_behind}
use Rattle.law_peers_expects.proofs.InProxyExpects.Answered.{read_answers}
use Rattle.law_peers_expects.proofs.InProxyExpects.Expects.{Rest, expects_client, expects_server}
use Rattle.law_peers_expects.proofs.InProxyExpects.Untold.{Laws}
use Rattle.law_peers_expects.proofs.in_proxy_expects.expecting.an_in_proxy_expects_what_comes.Goals as goal
use Rattle.law_peers_expects.specs.InProxyExpects.Announcing.{AnnouncesWhatCame}

pub returns : goal.returns
returns c = record {
  client = λ numbers reader moves moment up_reads m n reads least.
      expects_client numbers (laws numbers)
      (c.a_client_replaces_in_channels_one_by_one.ensures numbers.client) reader moves moment
      (rest numbers reader moves moment) m n reads least up_reads;
  server = λ numbers reader moves moment m.
      expects_server numbers (laws numbers)
      (c.a_client_replaces_in_channels_one_by_one.ensures numbers.client) reader moves moment m
      (refuses numbers moves moment.now.made m)
      (read_answers m (server_behind numbers moves).passage.came
      (of_leg (is_leg m) (server_behind numbers moves).passage.put)
      ((c.a_server_answers_in_proxies_in_order.ensures numbers.window moves.server
      moment.now.made.server).order m));
}
  where
    laws : (numbers : Numbers) (reader : ℕ → ℕ) (moves : Moves)
        → IsJoined numbers reader moves → Laws numbers reader moves
    laws numbers reader moves now = record {
      opens = c.a_client_opens_in_channels_in_order.ensures numbers.client moves.client
          now.made.client;
      replaces = c.a_client_replaces_in_channels_one_by_one.ensures numbers.client moves.client
          now.made.client;
      puts = λ m.
          subst (λ (k : ℕ). PutsForWhatCame k (in_behind numbers moves m)) (now.made.in_number m)
          (c.an_in_proxy_puts_for_what_came.ensures (numbers.ins m) (moves.ins m));
      rounds = c.replacements_go_round.ensures numbers reader moves now.made now.joined;
      announces = λ m.
          subst (λ (k : ℕ). AnnouncesWhatCame k (in_behind numbers moves m))
          (now.made.in_number m)
          (c.an_in_proxy_announces_what_came.ensures (numbers.ins m) (moves.ins m));
      raised = λ m. c.an_in_proxys_legs_came_up.ensures (numbers.ins m) (moves.ins m);
    }

    refuses : (numbers : Numbers) (moves : Moves) → AreMade numbers moves → (m : ℕ)
        → RefusesFor m (in_behind numbers moves m)
    refuses numbers moves made m =
        subst (λ (k : ℕ). RefusesFor k (in_behind numbers moves m)) (made.in_number m)
        (c.what_an_in_proxy_refuses.ensures (numbers.ins m) (moves.ins m) (made.ins m))

    rest : (numbers : Numbers) (reader : ℕ → ℕ) (moves : Moves) → IsMoment numbers reader moves
        → Rest numbers moves
    rest numbers reader moves moment = record {
      left = c.nothing_follows_in_r1_a5.ensures numbers.client moves.client;
      ends = c.no_pdu_follows_end.ensures.once numbers.client moves.client;
      over = c.no_pdu_follows_end.ensures.all numbers.client moves.client;
      refuses = λ m.
          subst (λ (k : ℕ). RefusesFor k (in_behind numbers moves m))
          (moment.now.made.in_number m)
          (c.what_an_in_proxy_refuses.ensures (numbers.ins m) (moves.ins m)
          (moment.now.made.ins m));
      late = c.no_client_is_opened_early.ensures.ins numbers reader moves moment;
    }
