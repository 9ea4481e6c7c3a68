use Rattle.law_order.proofs.Vocabulary.{◌≡◌, ◌⊎◌, ℕ, inl, inr, subst}
use Rattle.law_moves.proofs.Vocabulary.{Cookie, AckTo, of_leg, Has, HasComeUp}
use Rattle.law_role_client.proofs.Vocabulary.{ci, co}
use Rattle.law_role_server.proofs.Vocabulary.{no_cookie}
use Rattle.law_role_outproxy.proofs.Vocabulary.{OpensAsAsked, OpensWhatCame, RefusesFor}
use Rattle.law_role_server_rows.specs.Putting.Puts.{os}
use Rattle.law_role_server_rows.specs.Refusing.Cookies.{IsOutChannel}
use Rattle.law_peers_moments.specs.Moments.{IsMoment, Moves, Numbers, out_behind, passages}
use Rattle.law_peers_expects.proofs.OutProxyExpects.Expecting.{SeeToIt, expects}
use Rattle.law_peers_expects.proofs.OutProxyExpects.Ordered.{EarlyLaws, ServerLaws}
use Rattle.law_peers_expects.proofs.OutProxyExpects.Zeros.{from_client}
use Rattle.law_peers_expects.proofs.out_proxy_expects.expects.an_out_proxy_expects_its_server.Goals as goal
use Rattle.law_peers_expects.specs.OutProxyExpects.Premises.{AreFit}

pub returns : goal.returns
returns c = λ numbers reader moves moment fit.
    expects numbers reader moves server early fit.lifetimes moment
    (see numbers reader moves moment fit)
  where
    server : ServerLaws
    server = record {
      opens = c.a_server_opens_once.ensures;
      c1_first = c.a_server_puts_conn_c1_first.ensures;
      order = c.a_server_replaces_out_channels_one_by_one.ensures.order;
      legs = c.a_server_replaces_out_channels_one_by_one.ensures.legs;
      writes = c.a_server_writes_in_turn.ensures;
      begun = c.a_server_writes_on_channels_that_began.ensures;
      copies = c.a_server_copies_what_came.ensures;
    }

    early : EarlyLaws
    early = record {
      acks = c.no_server_is_early.ensures.acks;
      room = c.no_server_is_early.ensures.room;
    }

    see : (numbers : Numbers) (reader : ℕ → ℕ) (moves : Moves) → IsMoment numbers reader moves
        → AreFit numbers moves → SeeToIt numbers moves
    see numbers reader moves moment fit =
        let made = moment.now.made in
        record {
          client = c.a_client_names_its_out_channels.ensures numbers.client moves.client
              made.client;
          opens = λ n.
              subst (λ (k : ℕ). OpensWhatCame k (out_behind numbers moves n)) (made.out_number n)
              (c.an_out_proxy_opens_what_came.ensures (numbers.outs n) (moves.outs n)
              (made.outs n));
          asked = λ n.
              subst (λ (k : ℕ). OpensAsAsked k (out_behind numbers moves n)) (made.out_number n)
              (c.an_out_proxy_opens_as_it_was_asked.ensures (numbers.outs n) (moves.outs n));
          refuses = λ n.
              subst (λ (k : ℕ). RefusesFor k (moves.outs n) (out_behind numbers moves n))
              (made.out_number n)
              (c.what_an_out_proxy_refuses.ensures (numbers.outs n) (moves.outs n)
              (made.outs_counted n));
          acks = acks;
        }
      where
        came_up : (n received available : ℕ) (cookie : Cookie)
            → Has (AckTo 3 received available cookie)
            (of_leg (os n) (passages numbers moves).server.put)
            → (k : ℕ) × HasComeUp moves.client (co k) cookie
        came_up n received available cookie has =
            let made = moment.now.made in
            let put = from_client reader (passages numbers moves) moment.now.joined
            (c.a_server_passes_acknowledgements_on.ensures numbers.window moves.server 3)
            (λ m. c.an_in_proxy_passes_acknowledgements_on.ensures (numbers.ins m) (moves.ins m))
            n received available cookie has in
            let ack = c.a_client_acknowledges_what_came.ensures.acks numbers.client moves.client
            fit.window made.client made.client_up (ci put.0) 3 received available cookie put.1 in
            (ack.number, ack.up)

        acks : (n received available : ℕ) (cookie : Cookie)
            → Has (AckTo 3 received available cookie)
            (of_leg (os n) (passages numbers moves).server.put)
            → IsOutChannel n cookie (passages numbers moves).server.came
        acks n received available cookie has =
            by (c.a_server_passes_acks_on_their_leg.ensures numbers.window moves.server
            moment.now.made.server n received available cookie has)
          where
            by : IsOutChannel n cookie (passages numbers moves).server.came
                ⊎ (cookie ≡ no_cookie)
                → IsOutChannel n cookie (passages numbers moves).server.came
            by (inl is) = is
            by (inr zeros) =
                let up = came_up n received available cookie has in
                absurd (fit.cookies up.0
                (subst (λ (x : Cookie). HasComeUp moves.client (co up.0) x) zeros up.1))
