-- the texts that an out proxy puts are responses of success
use Rattle.law_order.proofs.Vocabulary.{◌≡◌, ℕ, ◌+◌, ◌≤◌, ◌&&◌, ◌⊎◌, inl, inr, List, [], ◌∷◌, ◌++◌, append_assoc, length, Some, None, arith, refl, sym, ap, ◌∙◌, subst, nat_le, if◌then◌else◌, AllByRecursion, Option, append-nil}
use Rattle.rh_outproxy.specs.declared.state.Answer.TheVariants as answers
use Rattle.rh_outproxy.specs.declared.state.Mark.TheVariants as marks
use Rattle.law_moves.proofs.Vocabulary.{may_send, after_sent, Ack, by_test, Cookie, Named, OutR1A10, EndB2, Ping, greatest_response, response_text, Leg, after_take, is_empty, Due, Message, Text, Pdu, Packet, spelled, Passage, started, Leads, of_leg}
use Rattle.law_node_causes.proofs.OutProxyLegs.{later_move}
use Rattle.law_role_outproxy.proofs.Vocabulary.{OutProxyConfig, Answer, NotDue, OutProxy, new_proxy, is_due, is_ping_due, is_server_first, joined, is_co, is_os, first_packet, ack_due, Pick, echo_packet, ping_room, or_else, answer_by, put_answer, put_waiting, waiting_by, pdu_by, put_pdu, put_end, put_handover, put_ping, put_mark, next_co, first_by, put_first, ack_by, put_ack, next_os, put, rules as proxy_rules, IsConfig}
use Rattle.law_world_order.proofs.FirstTexts.PutAll.{Picked, all_put}

-- ---- what an out proxy puts

-- the response of success with its length; or that to an echo request, with what follows it
pub record IsSuccess (config : OutProxyConfig) (bytes : List ℕ) : Type 0 where
  pub number : ℕ
  pub told : (number ≡ 20) ⊎ (number ≡ config.lifetime + ping_room)
  pub behind : List ℕ
  pub is : bytes ≡ response_text number ++ behind
  pub echo : number ≡ 20 → length behind ≡ 20
  pub alone : number ≡ config.lifetime + ping_room → behind ≡ []

-- its length is in the range of responses
pub in_range : (config : OutProxyConfig) → IsConfig config → (bytes : List ℕ)
    → (success : IsSuccess config bytes) → success.number ≤ greatest_response
in_range config range bytes success = by success.told
  where
    by : (success.number ≡ 20) ⊎ (success.number ≡ config.lifetime + ping_room)
        → success.number ≤ greatest_response
    by (inl is) = omega (arith, is)
    by (inr is) = omega (arith, is, range.lifetime.1)

-- the response stands at the front
pub success_begins : (config : OutProxyConfig) (bytes : List ℕ) (put : List Message)
    → (success : IsSuccess config bytes)
    → spelled (Text bytes ∷ put)
    ≡ response_text success.number ++ (success.behind ++ spelled put)
success_begins config bytes put success =
    ap (λ (x : List ℕ). x ++ spelled put) success.is
    ∙ append_assoc (response_text success.number) success.behind (spelled put)

abbrev pub Succeeds : OutProxyConfig → Message → Type 0
Succeeds config (Text bytes) = IsSuccess config bytes
Succeeds config (Pdu pdu) = Unit {0}
Succeeds config (Packet named) = Unit {0}

-- ---- what goes next

abbrev Fine : OutProxy → Pick → Type 0
Fine s = Picked (Succeeds s.config)

or_fine : (s : OutProxy) (a b : Pick) → Fine s a → Fine s b → Fine s (or_else a b)
or_fine s None b p q = q
or_fine s (Some pick) b p q = p

answer_fine : (a : Answer) (s : OutProxy) → Fine s (answer_by a s)
answer_fine answers.Awaited s = tt
answer_fine answers.EchoDue s = record {
  number = 20;
  told = inl refl;
  behind = echo_packet;
  is = refl;
  echo = λ e. refl;
  alone = λ e. absurd (omega (arith, e));
}
answer_fine answers.EchoPut s = tt
answer_fine answers.EchoDrawn s = tt
answer_fine answers.ResponseDue s = record {
  number = s.config.lifetime + ping_room;
  told = inr refl;
  behind = [];
  is = sym (append-nil (response_text (s.config.lifetime + ping_room)));
  echo = λ e. absurd (omega (arith, e));
  alone = λ e. refl;
}
answer_fine answers.TimeoutDue s = tt
answer_fine answers.Put s = tt

waiting_fine : (s : OutProxy) (dues : List Due) → Fine s (waiting_by s dues)
waiting_fine s [] = tt
waiting_fine s (due ∷ dues) = tt

pdu_fine : (s : OutProxy) (pdus : List (List ℕ)) → Fine s (pdu_by s pdus)
pdu_fine s [] = tt
pdu_fine s (bytes ∷ pdus) =
    by_test (Fine s) (may_send s.window (length bytes))
    (Some (
      record s { line = after_take s.line; window = after_sent s.window (length bytes) },
      Pdu bytes,
    )) None (λ e. tt) (λ e. tt)

end_fine : (s : OutProxy) → Fine s (put_end s)
end_fine s =
    by_test (Fine s) (is_empty s.line.current.pdus && is_due s.end)
    (Some (record s { end = marks.Put }, Packet EndB2)) None (λ e. tt) (λ e. tt)

handover_fine : (s : OutProxy) → Fine s (put_handover s)
handover_fine s =
    by_test (Fine s) (is_empty s.line.current.pdus && is_due s.handover)
    (Some (record s { handover = marks.Put }, Packet OutR1A10)) None (λ e. tt) (λ e. tt)

ping_fine : (s : OutProxy) → Fine s (put_ping s)
ping_fine s =
    by_test (Fine s) (is_ping_due s.ping && nat_le (s.pinged + 20) ping_room)
    (Some (record s { ping = NotDue; pinged = s.pinged + 20 }, Packet Ping)) None
    (λ e. tt) (λ e. tt)

first_fine : (s : OutProxy) (o : Option Named) → Fine s (first_by s o)
first_fine s None = tt
first_fine s (Some packet) = tt

ack_fine : (s : OutProxy) (cookie : Option Cookie) (ack : Option Ack) → Fine s (ack_by s cookie ack)
ack_fine s None ack = tt
ack_fine s (Some cookie) None = tt
ack_fine s (Some cookie) (Some ack) = tt

co_fine : (s : OutProxy) → Fine s (next_co s)
co_fine s =
    or_fine s (put_answer s)
    (or_else (put_waiting s) (or_else (put_pdu s) (or_else (put_mark s) (put_ping s))))
    (answer_fine s.answer s)
    (or_fine s (put_waiting s) (or_else (put_pdu s) (or_else (put_mark s) (put_ping s)))
    (waiting_fine s s.waiting.due)
    (or_fine s (put_pdu s) (or_else (put_mark s) (put_ping s)) (pdu_fine s s.line.current.pdus)
    (or_fine s (put_mark s) (put_ping s)
    (or_fine s (put_end s) (put_handover s) (end_fine s) (handover_fine s)) (ping_fine s))))

os_fine : (s : OutProxy) → Fine s (next_os s)
os_fine s =
    or_fine s (put_first s) (put_ack s)
    (by_test (Fine s) (is_server_first s.server) (first_by s (first_packet s s.channel)) None
    (λ e. first_fine s (first_packet s s.channel)) (λ e. tt))
    (ack_fine s (joined s.channel) (ack_due s))

put_fine : (s : OutProxy) (leg : Leg) → Fine s (put s leg)
put_fine s leg =
    by_test (Fine s) (is_co s leg) (next_co s) (if is_os s leg then next_os s else None)
    (λ e. co_fine s)
    (λ e. by_test (Fine s) (is_os s leg) (next_os s) None (λ f. os_fine s) (λ f. tt))

-- ---- all that was put

pub puts_200 : (config : OutProxyConfig) (q : Passage OutProxy) (leg : Leg)
    → Leads proxy_rules (started (new_proxy config)) q
    → AllByRecursion (Succeeds config) (of_leg leg q.put)
puts_200 config q leg leads =
    all_put proxy_rules leg (Succeeds config) (λ (s : OutProxy). s.config ≡ config)
    (λ p move is. (later_move p move).config ∙ is)
    (λ s is. subst (λ (c : OutProxyConfig). Picked (Succeeds c) (put s leg)) is (put_fine s leg))
    (new_proxy config) q refl leads
