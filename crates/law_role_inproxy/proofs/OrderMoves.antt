-- each row and each move of an in proxy keeps its law of order
use Rattle.rh_window.specs.Sending as windows
use Rattle.law_order.proofs.Vocabulary.{◌≡◌, ℕ, suc, ◌+◌, Bool, true, false, not, ◌&&◌, List, [], ◌∷◌, ◌++◌, arith, refl, sym, ap, ◌∙◌, subst, append_assoc, append-nil, Some, None, Ok, Err, if◌then◌else◌, nat_eq, nat_le, nat_lt, list_any, Option, Result, fun_ext, Item, Piece, Log, more}
use Rattle.rh_sig.specs.declared.named.Named.TheVariants as named
use Rattle.rh_shell.specs.declared.answers.Refused.TheVariants as refused
use Rattle.rh_shell.specs.Waiting as waiting
use Rattle.rh_inproxy.specs.declared.state.Work.TheVariants as work
use Rattle.law_moves.proofs.Vocabulary.{BadAck, by_test, same_number, passer_starts, Cookie, Named, HttpFault, Asked, request_verdict, Leg, InServer, Which, Current, Next, Count, HeadRefused, HeadTaken, Due, Forwarded, Message, Text, Pdu, Packet, is_of, Move, OnLeg, Passage, moved, put_by, taken_by, all_moved, started}
use Rattle.law_moves.specs.Moves as moves
use Rattle.law_role_inproxy.proofs.Vocabulary.{Handover, Before, Came, Passed, InProxyConfig, Joining, Opener, ClientLeg, Opening, AwaitsClient, AwaitsPacket, WantsServer, Announces, Announced, Successor, Absent, Up, Joined, Work, ack_for, acked, acked_by, forward_by, on_ack_to, Done, Pick, taken, refuse, unexpected, is_newest, mark, settled_pick, has_passed, is_newcomer, join, joined, on_in_r1_a1, on_later_in_r1_a1, on_channel, on_channel_by, on_ci, on_is, packet, pdu}
use Rattle.law_role_inproxy.proofs.Vocabulary.{pdu_by, rules, accepted, accepts, accepts_later, connected, drawn_by, echo_answer, echo_asked, channel_asked, echo_by, head_by, is_absent, is_connection, is_first, is_replacement, is_unknown, kept_for, may_accept, on_conn_b1, on_first_in_r1_a1, opened, opener, opener_of, put_echo, up, wants, with_edge, ECHO_LENGTH, GREATEST_LENGTHS, Connects, on_out_r1_a7, next, put, InProxy, channel_of, first, has_a5, has_come, is_client_leg}
use Rattle.law_role_inproxy.proofs.Vocabulary.{is_server_leg, same_cookie, on_keep_alive, KeepsOrder, came_log, came_on, item_came, item_put, put_items, put_on_server}
use Rattle.law_role_inproxy.proofs.OrderKeeps.{Kept, KeptRow, ArePlain, both, by_channel, on_pdu_now, on_pdu_next, on_end_now, on_end_next, on_a5_now, on_a5_next, quiet_row, quiet_put}
use Rattle.law_role_inproxy.proofs.OrderPuts.{KeptPick, put_keeps, settled_keeps}
use Rattle.law_role_inproxy.proofs.Putting.Tests.{four, not_so}

-- ---- rows of a channel

-- a row that is about no item
quiet : (first : ℕ) (came : Log) (put : List Item) (n : ℕ) (done : Done)
    → Kept first came put done.0 → KeptRow first came put n [] done
quiet first came put n (t, Ok taken) k = quiet_row first came put n t k
quiet first came put n (t, Err why) k = k

plain_push : (dues : List Due) (due : Due) → ArePlain dues → item_put (Packet due.packet) ≡ []
    → ArePlain (dues ++ due ∷ [])
plain_push [] due p e = (e, tt)
plain_push (one ∷ dues) due p e = (p.0, plain_push dues due p.1 e)

plain_better : (older : Due) (packet : Named) → item_put (Packet older.packet) ≡ []
    → item_put (Packet packet) ≡ []
    → item_put (Packet (waiting.better older packet).packet) ≡ []
plain_better older packet p e =
    by_test (λ (due : Due). item_put (Packet due.packet) ≡ [])
    (nat_lt (waiting.edge_of packet) (waiting.edge_of older.packet)) older
    (record { packet = packet; origin = older.origin }) (λ f. p) (λ f. e)

plain_merged : (dues : List Due) (packet : Named) → ArePlain dues
    → item_put (Packet packet) ≡ [] → ArePlain (waiting.merged dues packet)
plain_merged [] packet p e = tt
plain_merged (due ∷ dues) packet p e =
    by_test ArePlain (waiting.takes packet due) (waiting.better due packet ∷ dues)
    (due ∷ waiting.merged dues packet)
    (λ f. (plain_better due packet p.0 e, p.1))
    (λ f. (p.0, plain_merged dues packet p.1 e))

plain_forwarded : (w : waiting.Waiting) (packet : Named) → ArePlain w.due
    → item_put (Packet packet) ≡ [] → ArePlain (waiting.forwarded w packet).0.due
plain_forwarded w packet p e =
    by_test (λ (q : waiting.Waiting × Bool). ArePlain q.0.due)
    (list_any (waiting.takes packet) w.due)
    (waiting.with_due w (waiting.merged w.due packet), true)
    (if nat_lt (waiting.count Forwarded w.due) w.room
    then (waiting.pushed w (waiting.to_forward packet), true)
    else (w, false))
    (λ f. plain_merged w.due packet p e)
    (λ f. by_test (λ (q : waiting.Waiting × Bool). ArePlain q.0.due)
    (nat_lt (waiting.count Forwarded w.due) w.room)
    (waiting.pushed w (waiting.to_forward packet), true) (w, false)
    (λ g. plain_push w.due (waiting.to_forward packet) p e)
    (λ g. p))

forward_by_keeps : (first : ℕ) (came : Log) (put : List Item) (s : InProxy)
    (answer : waiting.Waiting × Bool) → ArePlain answer.0.due → Kept first came put s
    → Kept first came put (forward_by s answer).0
forward_by_keeps first came put s (w, true) p k = record {
  sound = record {
    joined = k.sound.joined;
    behind = k.sound.behind;
    unmarked = k.sound.unmarked;
    finished = k.sound.finished;
    marked = k.sound.marked;
    plain = p;
  };
  law = k.law;
}
forward_by_keeps first came put s (w, false) p k = record {
  sound = record {
    joined = k.sound.joined;
    behind = k.sound.behind;
    unmarked = k.sound.unmarked;
    finished = k.sound.finished;
    marked = k.sound.marked;
    plain = p;
  };
  law = k.law;
}

forwards_keep : (first : ℕ) (came : Log) (put : List Item) (s : InProxy) (packet : Named)
    → item_put (Packet packet) ≡ [] → Kept first came put s
    → Kept first came put (forward_by s (waiting.forwarded s.waiting packet)).0
forwards_keep first came put s packet e k =
    forward_by_keeps first came put s (waiting.forwarded s.waiting packet)
    (plain_forwarded s.waiting packet k.sound.plain e) k

ack_to_keeps : (first : ℕ) (came : Log) (put : List Item) (s : InProxy) (which : Which)
    (to received available : ℕ) (channel : Cookie) → Kept first came put s
    → Kept first came put (on_ack_to s which to received available channel).0
ack_to_keeps first came put s which to received available channel k =
    by_test (λ (d : Done). Kept first came put d.0) (not (has_a5 s which) && nat_eq to 3)
    (forward_by s (waiting.forwarded s.waiting (named.AckTo 3 received available channel)))
    (unexpected s)
    (λ e. forwards_keep first came put s (named.AckTo 3 received available channel) refl k)
    (λ e. k)

a7_keeps : (first : ℕ) (came : Log) (put : List Item) (s : InProxy) (which : Which) (to : ℕ)
    (successor : Cookie) → Kept first came put s
    → Kept first came put (on_out_r1_a7 s which to successor).0
a7_keeps first came put s which to successor k =
    by_test (λ (d : Done). Kept first came put d.0) (not (has_a5 s which) && nat_eq to 2)
    (forward_by s (waiting.forwarded s.waiting (named.OutR1A8 2 successor))) (unexpected s)
    (λ e. forwards_keep first came put s (named.OutR1A8 2 successor) refl k)
    (λ e. k)

keep_alive_keeps : (first : ℕ) (came : Log) (put : List Item) (s : InProxy) (which : Which)
    (keepalive : ℕ) → Kept first came put s
    → Kept first came put (on_keep_alive s which keepalive).0
keep_alive_keeps first came put s which keepalive k =
    by_test (λ (d : Done). Kept first came put d.0) (has_a5 s which) (unexpected s)
    (taken (record s { keepalive = kept_for keepalive }))
    (λ e. k) (λ e. record { sound = k.sound; law = k.law })

channel_now : (first : ℕ) (came : Log) (put : List Item) (s : InProxy) (packet : Named)
    → Kept first came put s
    → KeptRow first came put s.current.number (item_came (Packet packet))
    (on_channel s Current packet)
channel_now first came put s (named.AckTo to received available channel) k =
    quiet first came put s.current.number (on_ack_to s Current to received available channel)
    (ack_to_keeps first came put s Current to received available channel k)
channel_now first came put s (named.OutR1A7 to successor) k =
    quiet first came put s.current.number (on_out_r1_a7 s Current to successor)
    (a7_keeps first came put s Current to successor k)
channel_now first came put s (named.KeepAlive keepalive) k =
    quiet first came put s.current.number (on_keep_alive s Current keepalive)
    (keep_alive_keeps first came put s Current keepalive k)
channel_now first came put s named.EndA1 k = on_end_now first came put s k
channel_now first came put s (named.InR1A5 successor) k =
    on_a5_now first came put s successor k
channel_now first came put s packet k = k

channel_next : (first : ℕ) (came : Log) (put : List Item) (s : InProxy) (leg : ClientLeg)
    (stage : Joining) (packet : Named)
    → Kept first came put (record s { successor = Joined leg stage })
    → KeptRow first came put (suc s.current.number) (item_came (Packet packet))
    (on_channel (record s { successor = Joined leg stage }) Next packet)
channel_next first came put s leg stage (named.AckTo to received available channel) k =
    let t = record s { successor = Joined leg stage } in
    quiet first came put (suc s.current.number)
    (on_ack_to t Next to received available channel)
    (ack_to_keeps first came put t Next to received available channel k)
channel_next first came put s leg stage (named.OutR1A7 to successor) k =
    let t = record s { successor = Joined leg stage } in
    quiet first came put (suc s.current.number) (on_out_r1_a7 t Next to successor)
    (a7_keeps first came put t Next to successor k)
channel_next first came put s leg stage (named.KeepAlive keepalive) k =
    let t = record s { successor = Joined leg stage } in
    quiet first came put (suc s.current.number) (on_keep_alive t Next keepalive)
    (keep_alive_keeps first came put t Next keepalive k)
channel_next first came put s leg stage named.EndA1 k =
    on_end_next first came put s leg stage k
channel_next first came put s leg stage (named.InR1A5 successor) k =
    on_a5_next first came put s leg stage successor k
channel_next first came put s leg stage packet k = k

-- ---- first packets

conn_b1_keeps : (first : ℕ) (came : Log) (put : List Item) (s : InProxy) (n : ℕ)
    (connection channel : Cookie) (keepalive : ℕ) (group : Cookie) → Kept first came put s
    → Kept first came put (on_conn_b1 s n connection channel keepalive group).0
conn_b1_keeps first came put s n connection channel keepalive group k =
    by_test (λ (d : Done). Kept first came put d.0) (is_first s n)
    (opened s (opener connection channel (Connects group)) (kept_for keepalive))
    (unexpected s)
    (λ e. record { sound = k.sound; law = k.law })
    (λ e. k)

-- a later ci leg joins
joins : (first : ℕ) (came : Log) (put : List Item) (s : InProxy) (n : ℕ) (channel : Cookie)
    (successor : Successor) (handover : Handover) → is_newcomer successor n ≡ true
    → Kept first came put (record s { successor = successor; handover = handover })
    → Kept first came put
    (joined (record s { successor = successor; handover = handover }) n channel)
joins first came put s n channel Absent handover e k = absurd cc
joins first came put s n channel (Joined leg stage) handover e k = absurd cc
joins first came put s n channel (Up number) (Came cookie) e k =
    let u = k.sound.unmarked in absurd cc
joins first came put s n channel (Up number) Passed e k =
    let u = k.sound.unmarked in absurd cc
joins first came put s n channel (Up number) Before e k = record {
  sound = record {
    joined = refl;
    behind = sym (same_number number n e) ∙ k.sound.behind;
    unmarked = refl;
    finished = k.sound.finished;
    marked = λ passed. absurd cc;
    plain = k.sound.plain;
  };
  law = k.law;
}

join_keeps : (first : ℕ) (came : Log) (put : List Item) (s : InProxy) (o : Opener) (n : ℕ)
    (connection predecessor channel : Cookie) → is_newcomer s.successor n ≡ true
    → Kept first came put s
    → Kept first came put (join s o n connection predecessor channel).0
join_keeps first came put s o n connection predecessor channel e k =
    by_test (λ (d : Done). Kept first came put d.0) (not (same_cookie o.connection connection))
    (refuse s (refused.Cookie o.connection connection))
    (if not (same_cookie s.current.cookie predecessor)
    then refuse s (refused.Cookie s.current.cookie predecessor)
    else taken (joined s n channel))
    (λ f. k)
    (λ f. by_test (λ (d : Done). Kept first came put d.0)
    (not (same_cookie s.current.cookie predecessor))
    (refuse s (refused.Cookie s.current.cookie predecessor)) (taken (joined s n channel))
    (λ g. k)
    (λ g. joins first came put s n channel s.successor s.handover e k))

later_a1_keeps : (first : ℕ) (came : Log) (put : List Item) (s : InProxy) (o : Option Opener)
    (n : ℕ) (connection predecessor channel : Cookie) → Kept first came put s
    → Kept first came put (on_later_in_r1_a1 s o n connection predecessor channel).0
later_a1_keeps first came put s None n connection predecessor channel k = k
later_a1_keeps first came put s (Some o) n connection predecessor channel k =
    by_test (λ (d : Done). Kept first came put d.0) (is_newcomer s.successor n)
    (join s o n connection predecessor channel) (unexpected s)
    (λ e. join_keeps first came put s o n connection predecessor channel e k)
    (λ e. k)

a1_keeps : (first : ℕ) (came : Log) (put : List Item) (s : InProxy) (n : ℕ)
    (connection predecessor channel : Cookie) → Kept first came put s
    → Kept first came put (on_in_r1_a1 s n connection predecessor channel).0
a1_keeps first came put s n connection predecessor channel k =
    by_test (λ (d : Done). Kept first came put d.0) (is_first s n)
    (on_first_in_r1_a1 s connection predecessor channel)
    (on_later_in_r1_a1 s (opener_of s.opening) n connection predecessor channel)
    (λ e. record { sound = k.sound; law = k.law })
    (λ e. later_a1_keeps first came put s (opener_of s.opening) n connection predecessor channel
    k)

-- ---- rows of a leg

ci_keeps : (first : ℕ) (came : Log) (put : List Item) (s : InProxy) (n : ℕ) (packet : Named)
    → Kept first came put s
    → KeptRow first came put n (item_came (Packet packet)) (on_ci s n packet)
ci_keeps first came put s n
    (named.ConnB1 version connection channel lifetime keepalive group) k =
    quiet first came put n (on_conn_b1 s n connection channel keepalive group)
    (conn_b1_keeps first came put s n connection channel keepalive group k)
ci_keeps first came put s n (named.InR1A1 version connection predecessor channel) k =
    quiet first came put n (on_in_r1_a1 s n connection predecessor channel)
    (a1_keeps first came put s n connection predecessor channel k)
ci_keeps first came put s n packet k =
    by_channel
    (λ t m which. Kept first came put t
    → KeptRow first came put m (item_came (Packet packet)) (on_channel_by t which packet))
    s n k.sound.behind (λ z l. l) (channel_now first came put s packet)
    (λ leg stage. channel_next first came put s leg stage packet) k

acked_keeps : (first : ℕ) (came : Log) (put : List Item) (s : InProxy)
    (verdict : Result (Unit {0}) BadAck) → Kept first came put s
    → Kept first came put (acked_by s verdict).0
acked_keeps first came put s (Ok applied) k = k
acked_keeps first came put s (Err bad) k = k

ack_for_keeps : (first : ℕ) (came : Log) (put : List Item) (s : InProxy) (o : Option Opener)
    (received available : ℕ) (channel : Cookie) → Kept first came put s
    → Kept first came put (ack_for s o received available channel).0
ack_for_keeps first came put s None received available channel k = k
ack_for_keeps first came put s (Some o) received available channel k =
    by_test (λ (d : Done). Kept first came put d.0) (same_cookie o.channel channel)
    (acked s received available) (refuse s (refused.Cookie o.channel channel))
    (λ e. acked_keeps first came put
    (record s { window = windows.after_acked s.window received available })
    (windows.ack_verdict s.window received available)
    (record { sound = k.sound; law = k.law }))
    (λ e. k)

is_keeps : (first : ℕ) (came : Log) (put : List Item) (s : InProxy) (packet : Named)
    → Kept first came put s → Kept first came put (on_is s packet).0
is_keeps first came put s (named.ConnB3 size version) k =
    by_test (λ (d : Done). Kept first came put d.0)
    (is_connection (opener_of s.opening) && is_unknown s.edge) (with_edge s size) (unexpected s)
    (λ e. record { sound = k.sound; law = k.law }) (λ e. k)
is_keeps first came put s (named.InR1B2 size) k =
    by_test (λ (d : Done). Kept first came put d.0)
    (is_replacement (opener_of s.opening) && is_unknown s.edge) (with_edge s size)
    (unexpected s)
    (λ e. record { sound = k.sound; law = k.law }) (λ e. k)
is_keeps first came put s named.InR1B1 k =
    by_test (λ (d : Done). Kept first came put d.0) (has_passed s.handover)
    (taken (record s { work = work.Done })) (unexpected s)
    (λ e. record { sound = k.sound; law = k.law }) (λ e. k)
is_keeps first came put s (named.Ack received available channel) k =
    by_test (λ (d : Done). Kept first came put d.0) (is_unknown s.edge) (unexpected s)
    (ack_for s (opener_of s.opening) received available channel)
    (λ e. k)
    (λ e. ack_for_keeps first came put s (opener_of s.opening) received available channel k)
is_keeps first came put s packet k = k

pdu_keeps : (first : ℕ) (came : Log) (put : List Item) (s : InProxy) (n : ℕ) (bytes : List ℕ)
    → Kept first came put s
    → KeptRow first came put n (Piece bytes ∷ []) (pdu_by s (channel_of s n) bytes)
pdu_keeps first came put s n bytes k =
    by_channel
    (λ t m which. Kept first came put t
    → KeptRow first came put m (Piece bytes ∷ []) (pdu_by t which bytes))
    s n k.sound.behind (λ z l. l) (on_pdu_now first came put s bytes)
    (λ leg stage. on_pdu_next first came put s leg stage bytes) k

-- ---- legs

-- a later ci leg comes up
later_up : (first : ℕ) (came : Log) (put : List Item) (s : InProxy) (n : ℕ)
    (successor : Successor) → is_absent successor ≡ true → n ≡ suc s.current.number
    → has_come s.handover ≡ false
    → Kept first came put (record s { successor = successor })
    → Kept first came put (record s { successor = Up n; newest_lost = false })
later_up first came put s n (Up number) e b h k = absurd cc
later_up first came put s n (Joined leg stage) e b h k = absurd cc
later_up first came put s n Absent e b h k = record {
  sound = record {
    joined = k.sound.joined;
    behind = b;
    unmarked = h;
    finished = k.sound.finished;
    marked = k.sound.marked;
    plain = k.sound.plain;
  };
  law = k.law;
}

accepts_later_keeps : (first : ℕ) (came : Log) (put : List Item) (s : InProxy) (n : ℕ)
    → accepts_later s n ≡ true → Kept first came put s
    → Kept first came put (record s { successor = Up n; newest_lost = false })
accepts_later_keeps first came put s n e k =
    let may = four (nat_eq n (s.current.number + 1)) (is_absent s.successor)
    (nat_le s.lengths GREATEST_LENGTHS) (not (has_come s.handover)) e in
    let number = same_number n (s.current.number + 1) may.0 in
    later_up first came put s n s.successor may.1 (omega (arith, number))
    (not_so (has_come s.handover) may.2) k

accepted_keeps : (first : ℕ) (came : Log) (put : List Item) (s : InProxy) (opening : Opening)
    (n : ℕ) → accepts s opening n ≡ true → Kept first came put s
    → Kept first came put (accepted s opening n)
accepted_keeps first came put s AwaitsClient n e k = record { sound = k.sound; law = k.law }
accepted_keeps first came put s AwaitsPacket n e k = absurd cc
accepted_keeps first came put s (WantsServer o) n e k =
    accepts_later_keeps first came put s n e k
accepted_keeps first came put s (Announces o) n e k =
    accepts_later_keeps first came put s n e k
accepted_keeps first came put s (Announced o) n e k =
    accepts_later_keeps first came put s n e k

connected_keeps : (first : ℕ) (came : Log) (put : List Item) (s : InProxy) (opening : Opening)
    → Kept first came put s → Kept first came put (connected s opening)
connected_keeps first came put s (WantsServer o) k = record { sound = k.sound; law = k.law }
connected_keeps first came put s opening k = k

up_keeps : (first : ℕ) (came : Log) (put : List Item) (s : InProxy) (leg : Leg)
    → Kept first came put s → Kept first came put (up s leg)
up_keeps first came put s leg k =
    by_test (Kept first came put) (may_accept s leg) (accepted s s.opening leg.number)
    (if wants s leg then connected s s.opening else s)
    (λ e. accepted_keeps first came put s s.opening leg.number
    (both (is_client_leg leg) (accepts s s.opening leg.number) e).1 k)
    (λ e. by_test (Kept first came put) (wants s leg) (connected s s.opening) s
    (λ f. connected_keeps first came put s s.opening k) (λ f. k))

head_by_keeps : (first : ℕ) (came : Log) (put : List Item) (s : InProxy) (n : ℕ)
    (verdict : Result Asked HttpFault) → Kept first came put s
    → Kept first came put (head_by s n verdict).0
head_by_keeps first came put s n (Err fault) k = k
head_by_keeps first came put s n (Ok asked) k =
    by_test
    (λ (d : InProxy × Result HeadTaken HeadRefused). Kept first came put d.0)
    (nat_le asked.length ECHO_LENGTH) (echo_asked s n asked) (channel_asked s asked)
    (λ e. record { sound = k.sound; law = k.law })
    (λ e. record { sound = k.sound; law = k.law })

drawn_keeps : (first : ℕ) (came : Log) (put : List Item) (s : InProxy) (w : Work) (n : ℕ)
    → Kept first came put s → Kept first came put (drawn_by s w n)
drawn_keeps first came put s work.Underway n k = k
drawn_keeps first came put s (work.EchoDue asked_on) n k = k
drawn_keeps first came put s work.Done n k = k
drawn_keeps first came put s (work.EchoPut asked_on) n k =
    by_test (Kept first came put) (nat_eq asked_on n) (record s { work = work.Done }) s
    (λ e. record { sound = k.sound; law = k.law }) (λ e. k)

-- ---- what came, and what was put

came_more : (ones : List OnLeg) (one : OnLeg) (n : ℕ)
    → came_log (ones ++ one ∷ []) n ≡ came_log ones n ++ came_on n one
came_more [] one n = append-nil (came_on n one)
came_more (before ∷ ones) one n =
    ap (λ items. came_on n before ++ items) (came_more ones one n)
    ∙ sym (append_assoc (came_on n before) (came_log ones n) (came_on n one))

put_more : (ones : List OnLeg) (one : OnLeg)
    → put_items (ones ++ one ∷ []) ≡ put_items ones ++ put_on_server one
put_more [] one = append-nil (put_on_server one)
put_more (before ∷ ones) one =
    ap (λ items. put_on_server before ++ items) (put_more ones one)
    ∙ sym (append_assoc (put_on_server before) (put_items ones) (put_on_server one))

on_this : (client same : Bool) (before items : List Item) → client ≡ true
    → before ++ (if client && same then items else []) ≡ if same then before ++ items else before
on_this true true before items c = refl
on_this true false before items c = append-nil before
on_this false same before items c = absurd cc

on_another : (client same : Bool) (before items : List Item) → client ≡ false
    → before ++ (if client && same then items else []) ≡ before
on_another false same before items c = append-nil before
on_another true same before items c = absurd cc

-- on a ci leg
came_there : (ones : List OnLeg) (leg : Leg) (message : Message) → is_client_leg leg ≡ true
    → more leg.number (item_came message) (came_log ones)
    ≡ came_log (ones ++ (leg, message) ∷ [])
came_there ones leg message c =
    fun_ext (λ n. sym (came_more ones (leg, message) n
    ∙ on_this (is_client_leg leg) (nat_eq n leg.number) (came_log ones n) (item_came message) c))

-- on the is leg
came_elsewhere : (ones : List OnLeg) (leg : Leg) (message : Message)
    → is_client_leg leg ≡ false → came_log ones ≡ came_log (ones ++ (leg, message) ∷ [])
came_elsewhere ones leg message c =
    fun_ext (λ n. sym (came_more ones (leg, message) n
    ∙ on_another (is_client_leg leg) (nat_eq n leg.number) (came_log ones n)
    (item_came message) c))

-- ---- moves

abbrev pub KeptPassage : ℕ → Passage InProxy → Type 0
KeptPassage first p = Kept first (came_log p.came) (put_items p.put) p.role

row_kept : (first : ℕ) (p : Passage InProxy) (leg : Leg) (message : Message) (done : Done)
    → is_client_leg leg ≡ true
    → KeptRow first (came_log p.came) (put_items p.put) leg.number (item_came message) done
    → KeptPassage first (taken_by p leg message done)
row_kept first p leg message (t, Ok taken) c k =
    subst (λ log. Kept first log (put_items p.put) t) (came_there p.came leg message c) k
row_kept first p leg message (t, Err why) c k = k

other_kept : (first : ℕ) (p : Passage InProxy) (leg : Leg) (message : Message) (done : Done)
    → is_client_leg leg ≡ false
    → Kept first (came_log p.came) (put_items p.put) done.0
    → KeptPassage first (taken_by p leg message done)
other_kept first p leg message (t, Ok taken) c k =
    subst (λ log. Kept first log (put_items p.put) t) (came_elsewhere p.came leg message c) k
other_kept first p leg message (t, Err why) c k = k

pdu_moves : (first : ℕ) (p : Passage InProxy) (leg : Leg) (count : Count) (bytes : List ℕ)
    → KeptPassage first p
    → KeptPassage first (taken_by p leg (Pdu bytes) (pdu p.role leg count bytes))
pdu_moves first p leg count bytes k =
    by_test (λ (d : Done). KeptPassage first (taken_by p leg (Pdu bytes) d))
    (is_client_leg leg) (pdu_by p.role (channel_of p.role leg.number) bytes)
    (unexpected p.role)
    (λ e. row_kept first p leg (Pdu bytes)
    (pdu_by p.role (channel_of p.role leg.number) bytes) e
    (pdu_keeps first (came_log p.came) (put_items p.put) p.role leg.number bytes k))
    (λ e. k)

packet_moves : (first : ℕ) (p : Passage InProxy) (leg : Leg) (count : Count) (named : Named)
    → KeptPassage first p
    → KeptPassage first (taken_by p leg (Packet named) (packet p.role leg count named))
packet_moves first p leg count named k =
    by_test (λ (d : Done). KeptPassage first (taken_by p leg (Packet named) d))
    (is_client_leg leg) (on_ci p.role leg.number named)
    (if is_server_leg p.role leg then on_is p.role named else unexpected p.role)
    (λ e. row_kept first p leg (Packet named) (on_ci p.role leg.number named) e
    (ci_keeps first (came_log p.came) (put_items p.put) p.role leg.number named k))
    (λ e. by_test (λ (d : Done). KeptPassage first (taken_by p leg (Packet named) d))
    (is_server_leg p.role leg) (on_is p.role named) (unexpected p.role)
    (λ f. other_kept first p leg (Packet named) (on_is p.role named) e
    (is_keeps first (came_log p.came) (put_items p.put) p.role named k))
    (λ f. k))

on_server : (there : Bool) (items : List Item) → there ≡ true
    → items ≡ if there then items else []
on_server true items e = refl
on_server false items e = absurd cc

-- what is no item on either side of a test
either : {X : Type 0} (b : Bool) (x : X) → (if b then x else x) ≡ x
either true x = refl
either false x = refl

server_puts : (first : ℕ) (p : Passage InProxy) (leg : Leg) (pick : Pick)
    → is_of InServer leg ≡ true → KeptPassage first p
    → KeptPick first (came_log p.came) (put_items p.put) pick
    → KeptPassage first (put_by p leg pick)
server_puts first p leg None there k l = k
server_puts first p leg (Some pick) there k l =
    subst (λ items. Kept first (came_log p.came) items pick.0)
    (sym (put_more p.put (leg, pick.1)))
    (subst (λ (items : List Item). Kept first (came_log p.came) (put_items p.put ++ items) pick.0)
    (on_server (is_of InServer leg) (item_put pick.1) there) l)

echo_puts : (first : ℕ) (p : Passage InProxy) (leg : Leg) (w : Work) → KeptPassage first p
    → KeptPassage first (put_by p leg (echo_by p.role w leg.number))
echo_puts first p leg work.Underway k = k
echo_puts first p leg (work.EchoPut asked_on) k = k
echo_puts first p leg work.Done k = k
echo_puts first p leg (work.EchoDue asked_on) k =
    by_test (λ (pick : Pick). KeptPassage first (put_by p leg pick))
    (nat_eq asked_on leg.number)
    (Some (record (p.role) { work = work.EchoPut asked_on }, Text echo_answer)) None
    (λ e. subst
    (λ items. Kept first (came_log p.came) items
    (record (p.role) { work = work.EchoPut asked_on }))
    (sym (put_more p.put (leg, Text echo_answer)))
    (quiet_put first (came_log p.came) (put_items p.put)
    (put_on_server (leg, Text echo_answer))
    (record (p.role) { work = work.EchoPut asked_on }) (either (is_of InServer leg) [])
    (record { sound = k.sound; law = k.law })))
    (λ e. k)

put_moves : (first : ℕ) (p : Passage InProxy) (leg : Leg) → KeptPassage first p
    → KeptPassage first (put_by p leg (put p.role leg))
put_moves first p leg k =
    by_test (λ (pick : Pick). KeptPassage first (put_by p leg pick)) (is_client_leg leg)
    (put_echo p.role leg.number)
    (if is_server_leg p.role leg then settled_pick (next p.role) else None)
    (λ e. echo_puts first p leg p.role.work k)
    (λ e. by_test (λ (pick : Pick). KeptPassage first (put_by p leg pick))
    (is_server_leg p.role leg) (settled_pick (next p.role)) None
    (λ f. server_puts first p leg (settled_pick (next p.role))
    (both (is_of InServer leg) (nat_eq p.role.config.number leg.number) f).0 k
    (put_keeps first (came_log p.came) (put_items p.put) p.role k))
    (λ f. k))

marks_keep : (first : ℕ) (came : Log) (put : List Item) (s : InProxy) (leg : Leg)
    → Kept first came put s → Kept first came put (mark s leg)
marks_keep first came put s leg k =
    settled_keeps first came put
    (if is_newest s leg then record s { newest_lost = true } else s)
    (by_test (Kept first came put) (is_newest s leg) (record s { newest_lost = true }) s
    (λ e. record { sound = k.sound; law = k.law }) (λ e. k))

pub move_keeps : (first : ℕ) (p : Passage InProxy) (move : Move) → KeptPassage first p
    → KeptPassage first (moved rules p move)
move_keeps first p (moves.Up leg cookie) k =
    up_keeps first (came_log p.came) (put_items p.put) p.role leg k
move_keeps first p (moves.HeadCame leg text) k =
    head_by_keeps first (came_log p.came) (put_items p.put) p.role leg.number
    (request_verdict true text) k
move_keeps first p (moves.PduCame leg count bytes) k = pdu_moves first p leg count bytes k
move_keeps first p (moves.PacketCame leg count named) k =
    packet_moves first p leg count named k
move_keeps first p (moves.Puts leg) k = put_moves first p leg k
move_keeps first p (moves.IsDrawn leg) k =
    by_test (Kept first (came_log p.came) (put_items p.put)) (is_client_leg leg)
    (drawn_by p.role p.role.work leg.number) p.role
    (λ e. drawn_keeps first (came_log p.came) (put_items p.put) p.role p.role.work leg.number k)
    (λ e. k)
move_keeps first p (moves.Marks leg) k =
    marks_keep first (came_log p.came) (put_items p.put) p.role leg k
move_keeps first p (moves.Pings leg) k =
    by_test (Kept first (came_log p.came) (put_items p.put)) (is_server_leg p.role leg)
    (record (p.role) { ping_due = true }) p.role
    (λ e. record { sound = k.sound; law = k.law }) (λ e. k)

pub start_keeps : (config : InProxyConfig) → KeptPassage config.number (started (first config))
start_keeps config = record {
  sound = record {
    joined = refl;
    behind = tt;
    unmarked = tt;
    finished = refl;
    marked = λ passed. absurd cc;
    plain = tt;
  };
  law = passer_starts config.number;
}

pub moves_keep : (first : ℕ) (p : Passage InProxy) (all : List Move) → KeptPassage first p
    → KeptPassage first (all_moved rules p all)
moves_keep first p [] k = k
moves_keep first p (move ∷ all) k =
    moves_keep first (moved rules p move) all (move_keeps first p move k)

pub order_is_kept : (config : InProxyConfig) (all : List Move)
    → KeepsOrder config.number (all_moved rules (started (first config)) all)
order_is_kept config all =
    (moves_keep config.number (started (first config)) all (start_keeps config)).law
