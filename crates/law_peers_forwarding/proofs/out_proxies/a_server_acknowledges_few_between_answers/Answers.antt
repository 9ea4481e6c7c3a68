use Rattle.law_order.proofs.Vocabulary.{inr, ap, ◌∙◌, arith}
use Rattle.law_moves.proofs.Vocabulary.{LEAST_LIFETIME}
use Rattle.law_peers_forwarding.proofs.Opened.{few_open}
use Rattle.law_peers_forwarding.proofs.Stretches.{few_between}
use Rattle.law_peers_forwarding.proofs.out_proxies.a_server_acknowledges_few_between_answers.Goals as goal
use Rattle.law_peers_forwarding.specs.Passing.{lets_acks_on}

pub returns : goal.returns
returns c numbers reader moves moment lifetimes =
    few_between numbers reader moves moment LEAST_LIFETIME (record {
      enough = omega arith;
      long = c.lifetimes_are_long.ensures numbers reader moves moment lifetimes;
      few_wait = c.few_packets_wait_at_a_server.ensures numbers.window;
      one_due = c.one_answer_is_due.ensures numbers reader moves moment;
      one_follows = c.one_answer_follows_a_wish.ensures numbers reader moves moment;
      writes = c.a_server_writes_on_channels_that_began.ensures numbers.window moves.server;
      forwards = c.a_server_forwards_what_came.ensures numbers.window;
      oldest = c.an_acknowledgement_waits_longest.ensures numbers.window;
      answers = λ front later channel leg long room one writes may waited stays.
          c.few_answers_pass_an_acknowledgement.ensures numbers.window front later LEAST_LIFETIME
          channel long room one (inr (ap lets_acks_on writes ∙ may)) waited stays;
      are_late = c.acknowledgements_are_of_late_channels.ensures numbers;
      names = λ reader moves joined.
          c.a_client_names_its_in_channels.ensures numbers.client moves.client joined.made.client;
      few_late = λ front later rest is.
          let found = c.few_channels_are_late.ensures numbers reader moves moment front later rest
          is in record { those = found.0; few = found.1.few; all = found.1.all };
      few_open = few_open numbers reader moves moment (c.replacements_go_round.ensures numbers)
          (c.a_server_opens_once.ensures numbers.window);
    })
