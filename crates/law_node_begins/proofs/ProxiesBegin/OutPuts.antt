-- what an out proxy puts, where its moves are in their turn
use Rattle.law_order.proofs.Vocabulary.{◌≡◌, ◌⊎◌, inl, inr, ℕ, List, [], ◌∷◌, ◌++◌, true, false, Some, None, refl, sym, ap, ◌∙◌, subst, if◌then◌else◌, IfSome}
use Rattle.rh_outproxy.specs.declared.state.Answer.{Answer}
use Rattle.rh_outproxy.specs.declared.state.Channel.{Channel}
use Rattle.rh_outproxy.specs.declared.state.OutProxyConfig.{OutProxyConfig}
use Rattle.rh_outproxy.specs.OutProxy.{OutProxy, is_server_down, new_proxy}
use Rattle.rh_outproxy.specs.Rows.{is_co, is_os}
use Rattle.rh_outproxy.specs.Machine.{rules}
use Rattle.rh_outproxy.specs.Putting.{Pick, answer_by, behind_response, echo_text, next_co, next_os, or_else, out_response, put}
use Rattle.rh_outproxy.specs.declared.state.Answer.TheVariants as answers
use Rattle.rh_outproxy.specs.declared.state.Channel.TheVariants as channels
use Rattle.law_moves.proofs.Vocabulary.{by_test, request_verdict, Leg, Message, Text, same_leg, OnLeg, of_leg, IsNoText, Stages, none_up}
use Rattle.law_moves.proofs.Lemmas.{itself}
use Rattle.law_node_begins.proofs.ProxiesBegin.Legs.{each_append, one_here, one_elsewhere}
use Rattle.law_node_begins.proofs.ProxiesBegin.Turning.{TurnsKeep}
use Rattle.law_node_begins.proofs.ProxiesBegin.OutGoes.{Seen, seen, IsQuiet, Serves, ServesPut, ServerPut, later_serves, nothing_later, os_put, put_later}
use Rattle.law_node_begins.proofs.ProxiesBegin.OutTurns.{Answers, AnswersAt, IsResponse, Stands, length_of, packet_answers, pdu_answers, mark_answers, ping_answers, serves_on, serves_answers}
use Rattle.law_node_begins.proofs.ProxiesBegin.OutRole.{here, there, up_answers, head_answers, drawn_answers}
use Rattle.law_node_begins.specs.ProxiesBegin.Pipes.{co}

-- one more that is no text
grows_by : (on : List Message) (m : Message) → IsNoText m → (n : ℕ) → IsResponse n on
    → IsResponse n (on ++ m ∷ [])
grows_by on m plain n r = record {
  behind = r.behind ++ m ∷ [];
  is = ap (λ (l : List Message). l ++ m ∷ []) r.is;
  none = each_append IsNoText r.behind m r.none plain;
}

quiet_by : (a : Seen) (x : Answer) → IsQuiet a → IsQuiet (record a { answer = x })
quiet_by a x q = record {
  pdus = q.pdus;
  dues = q.dues;
  end = q.end;
  handover = q.handover;
  ping = q.ping;
}

-- behind the response go the timeout or what is forwarded
responded : (c : Channel) (a : Seen) (on : List Message) → is_server_down a.server ≡ false
    → IsResponse (length_of a) on → Stands (behind_response c) a on
responded channels.Unknown a on up r = (up, r)
responded (channels.New connection cookie) a on up r = (up, r)
responded (channels.Joined connection cookie) a on up r = (up, r)
responded (channels.Successor connection predecessor cookie) a on up r = (up, r)

module _ (config : OutProxyConfig) (g : Stages) where
  -- another answer is due
  answered : (a : Seen) (on more : List Message) (x : Answer)
      → Answers config g a on → (a.answer ≡ answers.Awaited → ⊥)
      → Stands x (record a { answer = x }) more
      → Answers config g (record a { answer = x }) more
  answered a on more x k asked stands = record {
    config_is = k.config_is;
    heads = k.heads;
    unasked = λ h. absurd (asked (k.unasked h).answer);
    served = k.served;
    quiet = λ down. quiet_by a x (k.quiet down);
    stands = stands;
  }

  -- ---- to the client

  module _ (s : OutProxy) (on : List Message) where
    abbrev CoPut : Pick → Type 0
    CoPut pick =
        IfSome pick (λ (x : OutProxy × Message). Answers config g (seen x.0) (on ++ x.1 ∷ []))

    abbrev with_answer : Answer → OutProxy
    with_answer x = record s { answer = x }

    none_later : (x : Answer) → Answers config g (seen (with_answer x)) on
        → is_server_down s.server ≡ true → CoPut (put_later (with_answer x))
    none_later x k down = subst CoPut (sym (nothing_later (with_answer x) (k.quiet down))) tt

    later : (pick : Pick) (x : Answer) → Answers config g (seen (with_answer x)) on
        → is_server_down s.server ≡ false → (x ≡ answers.ResponseDue → ⊥)
        → ServesPut (seen (with_answer x)) pick → CoPut pick
    later None x k up not goes = tt
    later (Some y) x k up not goes =
        serves_on config g (seen (with_answer x)) (seen y.0) on (on ++ y.1 ∷ []) up goes.0
        (grows_by on y.1 goes.1) (λ e f. absurd (not f)) k

    co_put : (x : Answer) → Answers config g (seen (with_answer x)) on
        → CoPut (or_else (answer_by x (with_answer x)) (put_later (with_answer x)))
    co_put answers.Awaited k = none_later answers.Awaited k k.stands.0
    co_put answers.EchoPut k = none_later answers.EchoPut k k.stands.0.server
    co_put answers.EchoDrawn k = none_later answers.EchoDrawn k k.stands.0.server
    co_put answers.EchoDue k =
        let a = seen (with_answer answers.EchoDue) in
        answered a on (on ++ Text echo_text ∷ []) answers.EchoPut k (λ e. absurd cc) (
          record {
            server = k.stands.0.server;
            channel = k.stands.0.channel;
            request = k.stands.0.request;
          },
          ap (λ (l : List Message). l ++ Text echo_text ∷ []) k.stands.1,
        )
    co_put answers.ResponseDue k =
        let a = seen (with_answer answers.ResponseDue) in
        let more = on ++ Text (out_response s) ∷ [] in
        answered a on more (behind_response s.channel) k (λ e. absurd cc)
        (responded s.channel (record a { answer = behind_response s.channel }) more k.stands.0
        (record {
          behind = [];
          is = ap (λ (l : List Message). l ++ Text (out_response s) ∷ []) k.stands.1;
          none = tt;
        }))
    co_put answers.TimeoutDue k =
        let a = seen (with_answer answers.TimeoutDue) in
        answered a on _ answers.Put k (λ e. absurd cc)
        (k.stands.0, grows_by on _ tt (length_of a) k.stands.1)
    co_put answers.Put k =
        later (put_later (with_answer answers.Put)) answers.Put k k.stands.0 (λ e. absurd cc)
        (later_serves (with_answer answers.Put))

  -- ---- on both legs

  module _ (s : OutProxy) (log : List OnLeg) (leg : Leg) (k : AnswersAt config g s log) where
    abbrev PutAnswers : Pick → Type 0
    PutAnswers pick =
        IfSome pick (λ (x : OutProxy × Message). AnswersAt config g x.0 (log ++ (leg, x.1) ∷ []))

    to_client : (pick : Pick) → is_co s leg ≡ true → CoPut s (of_leg (co config.number) log) pick
        → PutAnswers pick
    to_client None e h = tt
    to_client (Some x) e h =
        subst (Answers config g (seen x.0))
        (sym (one_here (co config.number) leg log x.1
        (ap (λ (l : Leg). same_leg l (co config.number)) (here config g s log k leg e)
        ∙ itself (co config.number)))) h

    to_server : (pick : Pick) → is_os s leg ≡ true → ServerPut (seen s) pick → PutAnswers pick
    to_server None e h = tt
    to_server (Some x) e h =
        subst (Answers config g (seen x.0))
        (sym (one_elsewhere (co config.number) leg log x.1
        (ap (λ (l : Leg). same_leg l (co config.number)) (there config g s log k leg e))))
        (by h.0)
      where
        by : (seen x.0 ≡ seen s) ⊎ ((is_server_down s.server ≡ false) × Serves (seen s) (seen x.0))
            → Answers config g (seen x.0) (of_leg (co config.number) log)
        by (inl e) =
            subst (λ (a : Seen). Answers config g a (of_leg (co config.number) log)) (sym e) k
        by (inr goes) =
            serves_answers config g (seen s) (seen x.0) (of_leg (co config.number) log) goes.0
            goes.1 k

    put_answers : PutAnswers (put s leg)
    put_answers =
        by_test PutAnswers (is_co s leg) (next_co s) (if is_os s leg then next_os s else None)
        (λ e. to_client (next_co s) e (co_put s (of_leg (co config.number) log) s.answer k))
        (λ e. by_test PutAnswers (is_os s leg) (next_os s) None
        (λ f. to_server (next_os s) f (os_put s)) (λ f. tt))

-- ---- the role

module _ (config : OutProxyConfig) where
  pub out_turns_keep : TurnsKeep rules (AnswersAt config)
  out_turns_keep = record {
    up = λ g s put leg cookie k may none. up_answers config g s put k leg cookie may none;
    head = λ g s put leg text k turn.
        head_answers config g s put k leg (request_verdict false text) turn;
    pdu = λ g s put leg count bytes k turn. pdu_answers config g s put k leg count bytes turn;
    packet = λ g s put leg count named k turn.
        packet_answers config g s put k leg count named turn;
    put = λ g s log leg k. put_answers config g s log leg k;
    drawn = λ g s put leg k. drawn_answers config g s put k leg;
    mark = λ g s put leg k may. mark_answers config g s put k leg may;
    ping = λ g s put leg k may. ping_answers config g s put k leg may;
  }

  pub out_starts : AnswersAt config none_up (new_proxy config) []
  out_starts = record {
    config_is = refl;
    heads = λ leg e. absurd cc;
    unasked = λ e. record { request = refl; answer = refl; channel = refl };
    served = λ e. absurd cc;
    quiet = λ e. record {
      pdus = refl;
      dues = refl;
      end = refl;
      handover = refl;
      ping = refl;
    };
    stands = (refl, refl);
  }
