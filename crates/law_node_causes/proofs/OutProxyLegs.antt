-- an out proxy's two legs come up once each
use Rattle.law_order.proofs.Vocabulary.{◌≡◌, ℕ, ◌+◌, ◌==◌, ◌&&◌, ◌||◌, List, [], ◌∷◌, length, Bool, true, false, not, Some, None, Ok, Err, refl, sym, ap, ◌∙◌, subst, rules, nat_le, if◌then◌else◌, Option, Result}
use Rattle.rh_outproxy.specs.declared.state.OutProxyConfig.{OutProxyConfig}
use Rattle.rh_outproxy.specs.declared.state.Answer.{Answer}
use Rattle.rh_outproxy.specs.declared.state.ClientLeg.{ClientLeg}
use Rattle.rh_outproxy.specs.declared.state.Ping.TheVariants.{NotDue}
use Rattle.rh_outproxy.specs.declared.state.ServerLeg.{ServerLeg}
use Rattle.rh_outproxy.specs.OutProxy.{OutProxy, is_due, is_ping_due, is_client_down, is_server_down, is_server_first, is_known, joined}
use Rattle.rh_outproxy.specs.Rows.{Done, is_co, is_os, unexpected}
use Rattle.rh_outproxy.specs.Opening.{may_up, was_up, up, head, head_by, on_conn_a1, on_out_r1_a3, on_out_r2_c1, on_conn_c1, first_packet}
use Rattle.rh_outproxy.specs.Acknowledging.{on_ack_to, ack_due}
use Rattle.rh_outproxy.specs.InReplacement.{on_in_r1_a3, on_in_r2_a3}
use Rattle.rh_outproxy.specs.OutReplacement.{on_out_r1_a1, on_out_r1_a5, on_out_r1_a9}
use Rattle.rh_outproxy.specs.Ending.{on_end_b1, drawn, mark}
use Rattle.rh_outproxy.specs.Putting.{Pick, ping_room, or_else, answer_by, put_answer, put_waiting, waiting_by, pdu_by, put_pdu, put_end, put_handover, put_ping, put_mark, next_co, first_by, put_first, ack_by, put_ack, next_os, put}
use Rattle.rh_outproxy.specs.Machine.{packet, pdu, on_co, on_os, rules as proxy_rules}
use Rattle.rh_outproxy.specs.declared.state.Answer.TheVariants as answers
use Rattle.rh_outproxy.specs.declared.state.ClientLeg.TheVariants as clients
use Rattle.rh_outproxy.specs.declared.state.Mark.TheVariants as marks
use Rattle.rh_outproxy.specs.declared.state.ServerLeg.TheVariants as servers
use Rattle.law_moves.proofs.Vocabulary.{may_send, after_sent, Ack, by_test, Cookie, Named, ConnA1, ConnC1, OutR1A3, OutR2C1, InR1A3, InR2A3, OutR1A1, OutR1A5, OutR1A9, OutR1A10, EndB1, EndB2, AckTo, Ping, Asked, request_verdict, HttpFault, Leg, LegKind, ClientOut, OutServer, ClientIn, InServer, after_take, is_empty, Count, Due, Pdu, Packet, kind_number, same_leg, Move, Up, HeadCame, PduCame, PacketCame, Puts, IsDrawn, Marks, Pings, Passage, moved}
use Rattle.law_node_causes.proofs.Sorts.{and_false}
use Rattle.law_node_causes.proofs.MoveRoles.{by_row, behind_put, by_put}
use Rattle.law_node_causes.specs.Once.{ComesUpOnce}

-- its numbers and its two legs
pub record Legs : Type 0 where
  pub config : OutProxyConfig
  pub client : ClientLeg
  pub server : ServerLeg

abbrev pub legs : OutProxy → Legs
legs s = record { config = s.config; client = s.client; server = s.server }

abbrev pub Same : OutProxy → OutProxy → Type 0
Same s t = legs t ≡ legs s

-- its numbers stay, and a leg that is not down is not down again
pub record Grows (x y : Legs) : Type 0 where
  pub config : y.config ≡ x.config
  pub client : is_client_down x.client ≡ false → is_client_down y.client ≡ false
  pub server : is_server_down x.server ≡ false → is_server_down y.server ≡ false

grows_self : (x : Legs) → Grows x x
grows_self x = record { config = refl; client = λ h. h; server = λ h. h }

abbrev pub Later : OutProxy → OutProxy → Type 0
Later s t = Grows (legs s) (legs t)

later_same : (s t : OutProxy) → Same s t → Later s t
later_same s t same = subst (Grows (legs s)) (sym same) (grows_self (legs s))

-- ---- rows

same_conn_a1 : (s : OutProxy) (count : Count) (a b : Cookie) (n : ℕ)
    → Same s (on_conn_a1 s count a b n).0
same_conn_a1 s count a b n = search rules

same_out_r1_a3 : (s : OutProxy) (count : Count) (a b c : Cookie) (n : ℕ)
    → Same s (on_out_r1_a3 s count a b c n).0
same_out_r1_a3 s count a b c n = search rules

same_out_r2_c1 : (s : OutProxy) (count : Count) → Same s (on_out_r2_c1 s count).0
same_out_r2_c1 s count = search rules

same_conn_c1 : (s : OutProxy) (a b c : ℕ) → Same s (on_conn_c1 s a b c).0
same_conn_c1 s a b c = search rules

same_ack_to : (s : OutProxy) (a b c : ℕ) (d : Cookie) → Same s (on_ack_to s a b c d).0
same_ack_to s a b c d = search rules

same_in_r1_a3 : (s : OutProxy) (a b c d : ℕ) → Same s (on_in_r1_a3 s a b c d).0
same_in_r1_a3 s a b c d = search rules

same_in_r2_a3 : (s : OutProxy) (a : ℕ) → Same s (on_in_r2_a3 s a).0
same_in_r2_a3 s a = search rules

same_out_r1_a1 : (s : OutProxy) (a : ℕ) → Same s (on_out_r1_a1 s a).0
same_out_r1_a1 s a = search rules

same_out_r1_a5 : (s : OutProxy) (a b c : ℕ) → Same s (on_out_r1_a5 s a b c).0
same_out_r1_a5 s a b c = search rules

same_out_r1_a9 : (s : OutProxy) → Same s (on_out_r1_a9 s).0
same_out_r1_a9 s = search rules

same_end_b1 : (s : OutProxy) → Same s (on_end_b1 s).0
same_end_b1 s = search rules

same_pdu : (s : OutProxy) (leg : Leg) (count : Count) (bytes : List ℕ)
    → Same s (pdu s leg count bytes).0
same_pdu s leg count bytes = search rules

same_co : (s : OutProxy) (count : Count) (packet : Named) → Same s (on_co s count packet).0
same_co s count (ConnA1 v1 v2 v3 v4) = same_conn_a1 s count v2 v3 v4
same_co s count (OutR1A3 v1 v2 v3 v4 v5) = same_out_r1_a3 s count v2 v3 v4 v5
same_co s count OutR2C1 = same_out_r2_c1 s count
same_co s count packet = refl

same_os : (s : OutProxy) (packet : Named) → Same s (on_os s packet).0
same_os s (ConnC1 v1 v2 v3) = same_conn_c1 s v1 v2 v3
same_os s (AckTo v1 v2 v3 v4) = same_ack_to s v1 v2 v3 v4
same_os s (InR1A3 v1 v2 v3 v4) = same_in_r1_a3 s v1 v2 v3 v4
same_os s (InR2A3 v1) = same_in_r2_a3 s v1
same_os s (OutR1A1 v1) = same_out_r1_a1 s v1
same_os s (OutR1A5 v1 v2 v3) = same_out_r1_a5 s v1 v2 v3
same_os s OutR1A9 = same_out_r1_a9 s
same_os s EndB1 = same_end_b1 s
same_os s packet = refl

same_packet : (s : OutProxy) (leg : Leg) (count : Count) (named : Named)
    → Same s (packet s leg count named).0
same_packet s leg count named =
    by_test (λ (d : Done). Same s d.0) (is_co s leg) (on_co s count named)
    (if is_os s leg then on_os s named else unexpected s)
    (λ e. same_co s count named)
    (λ e. by_test (λ (d : Done). Same s d.0) (is_os s leg) (on_os s named) (unexpected s)
    (λ f. same_os s named) (λ f. refl))

same_head : (s : OutProxy) (leg : Leg) (text : List ℕ) → Same s (head s leg text).0
same_head s leg text = by (request_verdict false text)
  where
    by : (r : Result Asked HttpFault) → Same s (head_by s r).0
    by (Err fault) = refl
    by (Ok request) = search rules

-- ---- what is put, drawn and lost

same_drawn : (s : OutProxy) (leg : Leg) → Same s (drawn s leg)
same_drawn s leg = search rules

later_mark : (s : OutProxy) (leg : Leg) → Later s (mark s leg)
later_mark s leg =
    by_test (Later s) (is_co s leg) (record s { client = clients.Marked })
    (record s { server = servers.Marked })
    (λ e. record { config = refl; client = λ h. refl; server = λ h. h })
    (λ e. record { config = refl; client = λ h. h; server = λ h. refl })

later_up : (s : OutProxy) (leg : Leg) (cookie : Cookie) → Later s (up s leg cookie)
later_up s leg cookie =
    by_test (Later s) (is_co s leg) (record s { client = clients.Up })
    (record s { server = servers.FirstDue; answer = answers.ResponseDue })
    (λ e. record { config = refl; client = λ h. refl; server = λ h. h })
    (λ e. record { config = refl; client = λ h. h; server = λ h. refl })

abbrev LaterPick : OutProxy → Pick → Type 0
LaterPick s pick = Later s (behind_put s pick)

or_later : (s : OutProxy) (a b : Pick) → LaterPick s a → LaterPick s b → LaterPick s (or_else a b)
or_later s None b p q = q
or_later s (Some pick) b p q = p

answer_later : (a : Answer) (s : OutProxy) → LaterPick s (answer_by a s)
answer_later answers.Awaited s = grows_self (legs s)
answer_later answers.EchoDue s = grows_self (legs s)
answer_later answers.EchoPut s = grows_self (legs s)
answer_later answers.EchoDrawn s = grows_self (legs s)
answer_later answers.ResponseDue s = grows_self (legs s)
answer_later answers.TimeoutDue s = grows_self (legs s)
answer_later answers.Put s = grows_self (legs s)

waiting_later : (s : OutProxy) (dues : List Due) → LaterPick s (waiting_by s dues)
waiting_later s [] = grows_self (legs s)
waiting_later s (due ∷ dues) = grows_self (legs s)

pdu_later : (s : OutProxy) (pdus : List (List ℕ)) → LaterPick s (pdu_by s pdus)
pdu_later s [] = grows_self (legs s)
pdu_later s (bytes ∷ pdus) =
    by_test (LaterPick s) (may_send s.window (length bytes))
    (Some (
      record s { line = after_take s.line; window = after_sent s.window (length bytes) },
      Pdu bytes,
    )) None (λ e. grows_self (legs s)) (λ e. grows_self (legs s))

end_later : (s : OutProxy) → LaterPick s (put_end s)
end_later s =
    by_test (LaterPick s) (is_empty s.line.current.pdus && is_due s.end)
    (Some (record s { end = marks.Put }, Packet EndB2)) None (λ e. grows_self (legs s))
    (λ e. grows_self (legs s))

handover_later : (s : OutProxy) → LaterPick s (put_handover s)
handover_later s =
    by_test (LaterPick s) (is_empty s.line.current.pdus && is_due s.handover)
    (Some (record s { handover = marks.Put }, Packet OutR1A10)) None (λ e. grows_self (legs s))
    (λ e. grows_self (legs s))

ping_later : (s : OutProxy) → LaterPick s (put_ping s)
ping_later s =
    by_test (LaterPick s) (is_ping_due s.ping && nat_le (s.pinged + 20) ping_room)
    (Some (record s { ping = NotDue; pinged = s.pinged + 20 }, Packet Ping)) None
    (λ e. grows_self (legs s)) (λ e. grows_self (legs s))

first_later : (s : OutProxy) (o : Option Named) → LaterPick s (first_by s o)
first_later s None = grows_self (legs s)
first_later s (Some packet) = record { config = refl; client = λ h. h; server = λ h. refl }

ack_later : (s : OutProxy) (cookie : Option Cookie) (ack : Option Ack)
    → LaterPick s (ack_by s cookie ack)
ack_later s None ack = grows_self (legs s)
ack_later s (Some cookie) None = grows_self (legs s)
ack_later s (Some cookie) (Some ack) = grows_self (legs s)

co_later : (s : OutProxy) → LaterPick s (next_co s)
co_later s =
    or_later s (put_answer s)
    (or_else (put_waiting s) (or_else (put_pdu s) (or_else (put_mark s) (put_ping s))))
    (answer_later s.answer s)
    (or_later s (put_waiting s) (or_else (put_pdu s) (or_else (put_mark s) (put_ping s)))
    (waiting_later s s.waiting.due)
    (or_later s (put_pdu s) (or_else (put_mark s) (put_ping s)) (pdu_later s s.line.current.pdus)
    (or_later s (put_mark s) (put_ping s)
    (or_later s (put_end s) (put_handover s) (end_later s) (handover_later s)) (ping_later s))))

os_later : (s : OutProxy) → LaterPick s (next_os s)
os_later s =
    or_later s (put_first s) (put_ack s)
    (by_test (LaterPick s) (is_server_first s.server) (first_by s (first_packet s s.channel)) None
    (λ e. first_later s (first_packet s s.channel)) (λ e. grows_self (legs s)))
    (ack_later s (joined s.channel) (ack_due s))

put_later : (s : OutProxy) (leg : Leg) → LaterPick s (put s leg)
put_later s leg =
    by_test (LaterPick s) (is_co s leg) (next_co s) (if is_os s leg then next_os s else None)
    (λ e. co_later s)
    (λ e. by_test (LaterPick s) (is_os s leg) (next_os s) None (λ f. os_later s)
    (λ f. grows_self (legs s)))

-- ---- moves

pub later_move : (p : Passage OutProxy) (move : Move)
    → Later p.role (moved proxy_rules p move).role
later_move p (Up leg cookie) = later_up p.role leg cookie
later_move p (HeadCame leg text) =
    later_same p.role (head p.role leg text).0 (same_head p.role leg text)
later_move p (PduCame leg count bytes) =
    by_row (Later p.role) p leg (Pdu bytes) (pdu p.role leg count bytes)
    (later_same p.role (pdu p.role leg count bytes).0 (same_pdu p.role leg count bytes))
later_move p (PacketCame leg count named) =
    by_row (Later p.role) p leg (Packet named) (packet p.role leg count named)
    (later_same p.role (packet p.role leg count named).0 (same_packet p.role leg count named))
later_move p (Puts leg) =
    by_put (Later p.role) p leg (put p.role leg) (put_later p.role leg)
later_move p (IsDrawn leg) = later_same p.role (drawn p.role leg) (same_drawn p.role leg)
later_move p (Marks leg) = later_mark p.role leg
later_move p (Pings leg) = grows_self (legs p.role)

-- ---- what was up

-- a leg is not both
apart : (k : LegKind) (same : Bool)
    → (((kind_number ClientOut == kind_number k) && same)
    && ((kind_number OutServer == kind_number k) && same)) ≡ false
apart ClientOut same = and_false same
apart OutServer same = refl
apart ClientIn same = refl
apart InServer same = refl

not_both : (s : OutProxy) (leg : Leg) → (is_co s leg && is_os s leg) ≡ false
not_both s leg = apart leg.kind (s.config.number == leg.number)

-- by whether it is the client's leg, or the server's, and whether these are down
once_by : (c o down lost known : Bool) → (c && o) ≡ false
    → ((c && not down) || (o && not lost)) ≡ true
    → ((o && (known && lost)) || (c && down)) ≡ false
once_by true true down lost known apart h = absurd cc
once_by true false true lost known apart h = absurd cc
once_by true false false lost known apart h = refl
once_by false false down lost known apart h = absurd cc
once_by false true down true known apart h = absurd cc
once_by false true down false true apart h = refl
once_by false true down false false apart h = refl

unwanted_by : (c o down lost known : Bool) → (c && o) ≡ false
    → ((c && not down) || (o && not lost)) ≡ true → (o && (known && lost)) ≡ false
unwanted_by true true down lost known apart h = absurd cc
unwanted_by true false down lost known apart h = refl
unwanted_by false false down lost known apart h = refl
unwanted_by false true down true known apart h = absurd cc
unwanted_by false true down false true apart h = refl
unwanted_by false true down false false apart h = refl

stays_by : (c o down lost below gone : Bool) → (down ≡ false → below ≡ false)
    → (lost ≡ false → gone ≡ false) → ((c && not down) || (o && not lost)) ≡ true
    → ((c && not below) || (o && not gone)) ≡ true
stays_by true o false lost false gone p q h = refl
stays_by true o false lost true gone p q h = let e = p refl in absurd cc
stays_by true false true lost below gone p q h = absurd cc
stays_by true true true true below gone p q h = absurd cc
stays_by true true true false false gone p q h = refl
stays_by true true true false true false p q h = refl
stays_by true true true false true true p q h = let e = q refl in absurd cc
stays_by false false down lost below gone p q h = absurd cc
stays_by false true down true below gone p q h = absurd cc
stays_by false true down false below false p q h = refl
stays_by false true down false below true p q h = let e = q refl in absurd cc

stays_up : (s t : OutProxy) (leg : Leg) → Later s t → was_up s leg ≡ true → was_up t leg ≡ true
stays_up s t leg g h =
    let client : is_co t leg ≡ is_co s leg =
    ap (λ (c : OutProxyConfig). same_leg (record { kind = ClientOut; number = c.number }) leg)
    g.config in
    let server : is_os t leg ≡ is_os s leg =
    ap (λ (c : OutProxyConfig). same_leg (record { kind = OutServer; number = c.number }) leg)
    g.config in
    ap (λ (c : Bool). (c && not (is_client_down t.client))
    || (is_os t leg && not (is_server_down t.server))) client
    ∙ ap (λ (o : Bool). (is_co s leg && not (is_client_down t.client))
    || (o && not (is_server_down t.server))) server
    ∙ stays_by (is_co s leg) (is_os s leg) (is_client_down s.client) (is_server_down s.server)
    (is_client_down t.client) (is_server_down t.server) g.client g.server h

comes_up : (s : OutProxy) (leg : Leg) (cookie : Cookie) → may_up s leg ≡ true
    → was_up (up s leg cookie) leg ≡ true
comes_up s leg cookie may =
    by_test (λ (t : OutProxy). was_up t leg ≡ true) (is_co s leg)
    (record s { client = clients.Up })
    (record s { server = servers.FirstDue; answer = answers.ResponseDue })
    (λ c. client (is_co s leg) (is_os s leg && not (is_server_down s.server)) c)
    (λ c. server (is_co s leg) (is_os s leg) (is_client_down s.client)
    (is_known s.channel && is_server_down s.server) c may)
  where
    client : (c rest : Bool) → c ≡ true → ((c && true) || rest) ≡ true
    client true rest e = refl
    client false rest e = absurd cc

    server : (c o down want : Bool) → c ≡ false → ((o && want) || (c && down)) ≡ true
        → ((c && not down) || (o && true)) ≡ true
    server true o down want e h = absurd cc
    server false true down want e h = refl
    server false false down want e h = absurd cc

pub out_proxy_once : ComesUpOnce proxy_rules (λ s. Unit {0})
out_proxy_once = record {
  kept = λ p move holds may. tt;
  stays = λ p move leg holds may h.
      stays_up p.role (moved proxy_rules p move).role leg (later_move p move) h;
  up = λ s leg cookie holds may. comes_up s leg cookie may.1;
  once = λ s leg holds h.
      once_by (is_co s leg) (is_os s leg) (is_client_down s.client) (is_server_down s.server)
      (is_known s.channel) (not_both s leg) h;
  unwanted = λ s leg holds h.
      unwanted_by (is_co s leg) (is_os s leg) (is_client_down s.client)
      (is_server_down s.server) (is_known s.channel) (not_both s leg) h;
}
