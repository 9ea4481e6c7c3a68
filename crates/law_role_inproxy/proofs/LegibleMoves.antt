-- whatever moves an in proxy makes, what it puts reads back
use Rattle.rh_window.specs.Receiving as receiving
use Rattle.rh_window.specs.Sending as windows
use Rattle.law_order.proofs.Vocabulary.{◌≡◌, ℕ, Bool, true, false, not, ◌&&◌, ◌||◌, List, [], ◌∷◌, ◌++◌, length, arith, refl, subst, Some, None, Ok, Err, if◌then◌else◌, is_ok, nat_eq, nat_le, nat_lt, ◌==◌, list_any, Option, Result}
use Rattle.rh_sig.specs.declared.named.Named.TheVariants as named
use Rattle.rh_line.specs.Lines as line
use Rattle.rh_shell.specs.declared.answers.Refused.TheVariants as refused
use Rattle.rh_shell.specs.Waiting as waiting
use Rattle.rh_inproxy.specs.declared.state.Work.TheVariants as work
use Rattle.rh_inproxy.specs.Passing as passing
use Rattle.law_moves.proofs.Vocabulary.{Receiver, BadAck, by_test, IsPdu, Cookie, Pipe, IsU, Named, HttpFault, Asked, request_verdict, each_push, Incoming, Leg, LegKind, ClientOut, OutServer, ClientIn, InServer, LineFault, Window, Over, Which, Current, Next, Count, HeadRefused, HeadTaken, Due, Forwarded, Message, Pdu, Packet, is_of, kind_number, AllMayGo, AllReadBack, AreFine, IsFine, IsFineMessage, IsLegible, MayGo, MayGoOn, Move, OnLeg, Passage, moved, now_at, put_by}
use Rattle.law_moves.proofs.Vocabulary.{taken_by, all_moved, started}
use Rattle.law_moves.proofs.Lemmas.{each_parted}
use Rattle.law_moves.specs.Moves as moves
use Rattle.law_role_inproxy.proofs.Vocabulary.{ECHO_LENGTH, ClientLeg, Connects, Replaces, Came, InProxyConfig, TellsServer, Told, Follows, Opener, Opening, AwaitsClient, AwaitsPacket, WantsServer, Announces, Successor, Absent, Up, Joined, Work, ack_for, acked, acked_by, forward_by, forwarded, on_ack_to, Done, Pick, taken, refuse, unexpected, has_later, is_newest, mark, on_end_a1, settled_pick, finish_by, finished, handed_over, has_passed, is_newcomer, join, joined}
use Rattle.law_role_inproxy.proofs.Vocabulary.{on_in_r1_a1, on_in_r1_a5, on_later_in_r1_a1, on_channel, on_channel_by, on_ci, on_is, packet, pdu, pdu_by, rules, accepted, channel_asked, connected, drawn, drawn_by, echo_asked, head_by, is_connection, is_first, is_replacement, is_unknown, kept_for, may_accept, on_conn_b1, on_first_in_r1_a1, opened, opener, opener_of, put_echo, up, wants, with_edge, on_out_r1_a7, next, put, InProxy, IsConfig, channel_of, first, has_a5}
use Rattle.law_role_inproxy.proofs.Vocabulary.{is_client_leg, is_server_leg, same_cookie, on_keep_alive, ping, HasSizes, pipe_put, pipe_to}
use Rattle.law_role_inproxy.proofs.LegibleKeeps.{IsSized, IsOpener, IsOpening, IsSuccessor, IsTold, IsChannel, MayWait, IsSound, opening_is, current_is, successor_is, handover_is, waiting_is, channel_is, channel_at, settles, opens_next, admits}
use Rattle.law_role_inproxy.proofs.LegiblePuts.{SoundPick, echo_goes, server_goes, settled_is, to_server}
use Rattle.law_role_inproxy.proofs.OrderKeeps.{both}

-- ---- packets that are forwarded

-- where it takes what is fine, and where it refuses, a row keeps what may be put
abbrev pub SoundRow : Message → Done → Type 0
SoundRow message (t, Ok taken) = IsFineMessage message → IsSound t
SoundRow message (t, Err why) = IsSound t

better_may : (older : Due) (packet : Named) → MayGo IsU older.packet → MayGo IsU packet
    → MayGo IsU (waiting.better older packet).packet
better_may older packet before may =
    by_test (λ (due : Due). MayGo IsU due.packet)
    (nat_lt (waiting.edge_of packet) (waiting.edge_of older.packet)) older
    (record { packet = packet; origin = older.origin }) (λ e. before) (λ e. may)

merged_may : (dues : List Due) (packet : Named) → MayWait dues → MayGo IsU packet
    → MayWait (waiting.merged dues packet)
merged_may [] packet all may = tt
merged_may (due ∷ dues) packet all may =
    by_test MayWait (waiting.takes packet due) (waiting.better due packet ∷ dues)
    (due ∷ waiting.merged dues packet)
    (λ e. (better_may due packet all.0 may, all.1))
    (λ e. (all.0, merged_may dues packet all.1 may))

pushed_may : (dues : List Due) (packet : Named) → MayWait dues → MayGo IsU packet
    → MayWait (dues ++ waiting.to_forward packet ∷ [])
pushed_may dues packet all may =
    each_push (λ (due : Due). MayGo IsU due.packet) dues (waiting.to_forward packet) all may

-- a packet is forwarded that may go where what came is fine
forwards : (s : InProxy) (message : Message) (packet : Named)
    → (IsFineMessage message → MayGo IsU packet) → IsSound s
    → SoundRow message (forwarded s packet)
forwards s message packet may k =
    by_test (λ (q : waiting.Waiting × Bool). SoundRow message (forward_by s q))
    (list_any (waiting.takes packet) s.waiting.due)
    (waiting.with_due s.waiting (waiting.merged s.waiting.due packet), true)
    (if nat_lt (waiting.count Forwarded s.waiting.due) s.waiting.room
    then (waiting.pushed s.waiting (waiting.to_forward packet), true)
    else (s.waiting, false))
    (λ e fine. waiting_is s
    (waiting.with_due s.waiting (waiting.merged s.waiting.due packet))
    (merged_may s.waiting.due packet k.waits (may fine)) k)
    (λ e. by_test (λ (q : waiting.Waiting × Bool). SoundRow message (forward_by s q))
    (nat_lt (waiting.count Forwarded s.waiting.due) s.waiting.room)
    (waiting.pushed s.waiting (waiting.to_forward packet), true) (s.waiting, false)
    (λ f fine. waiting_is s (waiting.pushed s.waiting (waiting.to_forward packet))
    (pushed_may s.waiting.due packet k.waits (may fine)) k)
    (λ f. k))

ack_to_goes : (to received available : ℕ) (channel : Cookie)
    → IsFine (named.AckTo to received available channel)
    → MayGo IsU (named.AckTo 3 received available channel)
ack_to_goes to received available channel fine =
    to_server (named.AckTo 3 received available channel) refl
    (record {
      sizes = (omega arith, fine.sizes.1);
      ranges = fine.ranges;
      destination = omega arith;
    })

a8_goes : (to : ℕ) (successor : Cookie) → IsFine (named.OutR1A7 to successor)
    → MayGo IsU (named.OutR1A8 2 successor)
a8_goes to successor fine =
    to_server (named.OutR1A8 2 successor) refl
    (record {
      sizes = (omega arith, fine.sizes.1);
      ranges = fine.ranges;
      destination = omega arith;
    })

-- ---- rows of a channel

ack_to_row : (s : InProxy) (which : Which) (to received available : ℕ) (channel : Cookie)
    → IsSound s
    → SoundRow (Packet (named.AckTo to received available channel))
    (on_ack_to s which to received available channel)
ack_to_row s which to received available channel k =
    by_test (SoundRow (Packet (named.AckTo to received available channel)))
    (not (has_a5 s which) && nat_eq to 3)
    (forwarded s (named.AckTo 3 received available channel)) (unexpected s)
    (λ e. forwards s (Packet (named.AckTo to received available channel))
    (named.AckTo 3 received available channel) (ack_to_goes to received available channel) k)
    (λ e. k)

a7_row : (s : InProxy) (which : Which) (to : ℕ) (successor : Cookie) → IsSound s
    → SoundRow (Packet (named.OutR1A7 to successor)) (on_out_r1_a7 s which to successor)
a7_row s which to successor k =
    by_test (SoundRow (Packet (named.OutR1A7 to successor)))
    (not (has_a5 s which) && nat_eq to 2) (forwarded s (named.OutR1A8 2 successor))
    (unexpected s)
    (λ e. forwards s (Packet (named.OutR1A7 to successor)) (named.OutR1A8 2 successor)
    (a8_goes to successor) k)
    (λ e. k)

keep_alive_row : (s : InProxy) (which : Which) (keepalive : ℕ) → IsSound s
    → SoundRow (Packet (named.KeepAlive keepalive)) (on_keep_alive s which keepalive)
keep_alive_row s which keepalive k =
    by_test (SoundRow (Packet (named.KeepAlive keepalive))) (has_a5 s which) (unexpected s)
    (taken (record s { keepalive = kept_for keepalive })) (λ e. k) (λ e fine. k)

ended_is : (c : Incoming) → IsChannel c → IsChannel (line.with_end c)
ended_is c is = record { each = is.each; within = is.within }

end_row : (s : InProxy) (which : Which) → IsSound s
    → SoundRow (Packet named.EndA1) (on_end_a1 s which)
end_row s which k =
    by_test (SoundRow (Packet named.EndA1))
    (has_a5 s which || (line.channel_of s.line which).ended || has_later s which) (unexpected s)
    (taken (record s { line = line.after_end s.line which })) (λ e. k)
    (λ e fine. channel_is s which (line.with_end (line.channel_of s.line which))
    (ended_is (line.channel_of s.line which) (channel_at s which k)) k)

hands_over : (s : InProxy) (cookie : Cookie) → IsSound s
    → SoundRow (Packet (named.InR1A5 cookie)) (handed_over s cookie)
hands_over s cookie k = λ fine. handover_is s (Came cookie) fine.sizes.0 k

finishes : (s : InProxy) (leg : ClientLeg) → IsSized leg.cookie → IsSound s
    → IsSound (finished s leg)
finishes s leg is k =
    settles
    (record s { line = record (s.line) { finished = true }; successor = Joined leg Follows })
    (successor_is s (Joined leg Follows) is k)

finish_row : (s : InProxy) (successor : Successor) (cookie : Cookie) → IsSuccessor successor
    → IsSound s → SoundRow (Packet (named.InR1A5 cookie)) (finish_by s successor cookie)
finish_row s Absent cookie is k = hands_over s cookie k
finish_row s (Up number) cookie is k = k
finish_row s (Joined leg (TellsServer behind)) cookie is k = k
finish_row s (Joined leg Follows) cookie is k = k
finish_row s (Joined leg Told) cookie is k =
    by_test (SoundRow (Packet (named.InR1A5 cookie))) (same_cookie leg.cookie cookie)
    (taken (finished s leg)) (refuse s (refused.Cookie leg.cookie cookie))
    (λ e fine. finishes s leg is k) (λ e. k)

a5_row : (s : InProxy) (which : Which) (cookie : Cookie) → IsSound s
    → SoundRow (Packet (named.InR1A5 cookie)) (on_in_r1_a5 s which cookie)
a5_row s Current cookie k =
    by_test (SoundRow (Packet (named.InR1A5 cookie))) (has_a5 s Current) (unexpected s)
    (finish_by s s.successor cookie) (λ e. k)
    (λ e. finish_row s s.successor cookie k.behind k)
a5_row s Next cookie k =
    by_test (SoundRow (Packet (named.InR1A5 cookie))) (has_a5 s Next) (unexpected s)
    (handed_over s cookie) (λ e. k) (λ e. hands_over s cookie k)

channel_row : (s : InProxy) (which : Which) (packet : Named) → IsSound s
    → SoundRow (Packet packet) (on_channel s which packet)
channel_row s which (named.AckTo to received available channel) k =
    ack_to_row s which to received available channel k
channel_row s which (named.OutR1A7 to successor) k = a7_row s which to successor k
channel_row s which (named.KeepAlive keepalive) k = keep_alive_row s which keepalive k
channel_row s which named.EndA1 k = end_row s which k
channel_row s which (named.InR1A5 successor) k = a5_row s which successor k
channel_row s which packet k = k

channel_row_by : (s : InProxy) (which : Option Which) (packet : Named) → IsSound s
    → SoundRow (Packet packet) (on_channel_by s which packet)
channel_row_by s None packet k = k
channel_row_by s (Some which) packet k = channel_row s which packet k

-- ---- first packets

opens : (s : InProxy) (o : Opener) → IsOpener o → IsSound s
    → IsSound (record s {
      opening = WantsServer o;
      current = record { number = s.current.number; cookie = o.channel };
    })
opens s o is k =
    let leg : ClientLeg = record { number = s.current.number; cookie = o.channel } in
    opening_is (record s { current = leg }) (WantsServer o) is (current_is s leg is.channel k)

conn_b1_row : (s : InProxy) (n version : ℕ) (connection channel : Cookie)
    (lifetime keepalive : ℕ) (group : Cookie) → IsSound s
    → SoundRow (Packet (named.ConnB1 version connection channel lifetime keepalive group))
    (on_conn_b1 s n connection channel keepalive group)
conn_b1_row s n version connection channel lifetime keepalive group k =
    by_test
    (SoundRow (Packet (named.ConnB1 version connection channel lifetime keepalive group)))
    (is_first s n)
    (opened s (opener connection channel (Connects group)) (kept_for keepalive)) (unexpected s)
    (λ e fine. opens s (opener connection channel (Connects group))
    (record {
      connection = fine.sizes.1.0;
      channel = fine.sizes.1.1.0;
      entry = fine.sizes.1.1.1.1.1.0;
    }) k)
    (λ e. k)

-- a later ci leg joins
joins : (s : InProxy) (n : ℕ) (channel : Cookie) → IsSized channel → IsSound s
    → IsSound (joined s n channel)
joins s n channel is k =
    let leg : ClientLeg = record { number = n; cookie = channel } in
    successor_is (record s { line = line.after_open_next s.line false })
    (Joined leg (TellsServer (waiting.count Forwarded s.waiting.due))) is (opens_next s k)

join_row : (s : InProxy) (o : Opener) (n version : ℕ) (connection predecessor channel : Cookie)
    → IsSound s
    → SoundRow (Packet (named.InR1A1 version connection predecessor channel))
    (join s o n connection predecessor channel)
join_row s o n version connection predecessor channel k =
    by_test (SoundRow (Packet (named.InR1A1 version connection predecessor channel)))
    (not (same_cookie o.connection connection))
    (refuse s (refused.Cookie o.connection connection))
    (if not (same_cookie s.current.cookie predecessor)
    then refuse s (refused.Cookie s.current.cookie predecessor)
    else taken (joined s n channel))
    (λ e. k)
    (λ e. by_test (SoundRow (Packet (named.InR1A1 version connection predecessor channel)))
    (not (same_cookie s.current.cookie predecessor))
    (refuse s (refused.Cookie s.current.cookie predecessor)) (taken (joined s n channel))
    (λ f. k)
    (λ f fine. joins s n channel fine.sizes.1.1.1.0 k))

later_a1_row : (s : InProxy) (o : Option Opener) (n version : ℕ)
    (connection predecessor channel : Cookie) → IsSound s
    → SoundRow (Packet (named.InR1A1 version connection predecessor channel))
    (on_later_in_r1_a1 s o n connection predecessor channel)
later_a1_row s None n version connection predecessor channel k = k
later_a1_row s (Some o) n version connection predecessor channel k =
    by_test (SoundRow (Packet (named.InR1A1 version connection predecessor channel)))
    (is_newcomer s.successor n) (join s o n connection predecessor channel) (unexpected s)
    (λ e. join_row s o n version connection predecessor channel k)
    (λ e. k)

a1_row : (s : InProxy) (n version : ℕ) (connection predecessor channel : Cookie) → IsSound s
    → SoundRow (Packet (named.InR1A1 version connection predecessor channel))
    (on_in_r1_a1 s n connection predecessor channel)
a1_row s n version connection predecessor channel k =
    by_test (SoundRow (Packet (named.InR1A1 version connection predecessor channel)))
    (is_first s n) (on_first_in_r1_a1 s connection predecessor channel)
    (on_later_in_r1_a1 s (opener_of s.opening) n connection predecessor channel)
    (λ e fine. opens s (opener connection channel (Replaces predecessor))
    (record {
      connection = fine.sizes.1.0;
      channel = fine.sizes.1.1.1.0;
      entry = fine.sizes.1.1.0;
    }) k)
    (λ e. later_a1_row s (opener_of s.opening) n version connection predecessor channel k)

-- ---- rows of a leg

ci_row : (s : InProxy) (n : ℕ) (packet : Named) → IsSound s
    → SoundRow (Packet packet) (on_ci s n packet)
ci_row s n (named.ConnB1 version connection channel lifetime keepalive group) k =
    conn_b1_row s n version connection channel lifetime keepalive group k
ci_row s n (named.InR1A1 version connection predecessor channel) k =
    a1_row s n version connection predecessor channel k
ci_row s n packet k = channel_row_by s (channel_of s n) packet k

acked_row : (s : InProxy) (message : Message) (verdict : Result (Unit {0}) BadAck) → IsSound s
    → SoundRow message (acked_by s verdict)
acked_row s message (Ok applied) k = λ fine. k
acked_row s message (Err bad) k = k

ack_for_row : (s : InProxy) (o : Option Opener) (received available : ℕ) (channel : Cookie)
    → IsSound s
    → SoundRow (Packet (named.Ack received available channel))
    (ack_for s o received available channel)
ack_for_row s None received available channel k = k
ack_for_row s (Some o) received available channel k =
    by_test (SoundRow (Packet (named.Ack received available channel)))
    (same_cookie o.channel channel) (acked s received available)
    (refuse s (refused.Cookie o.channel channel))
    (λ e. acked_row (record s { window = windows.after_acked s.window received available })
    (Packet (named.Ack received available channel))
    (windows.ack_verdict s.window received available) k)
    (λ e. k)

is_row : (s : InProxy) (packet : Named) → IsSound s → SoundRow (Packet packet) (on_is s packet)
is_row s (named.ConnB3 size version) k =
    by_test (SoundRow (Packet (named.ConnB3 size version)))
    (is_connection (opener_of s.opening) && is_unknown s.edge) (with_edge s size) (unexpected s)
    (λ e fine. k) (λ e. k)
is_row s (named.InR1B2 size) k =
    by_test (SoundRow (Packet (named.InR1B2 size)))
    (is_replacement (opener_of s.opening) && is_unknown s.edge) (with_edge s size)
    (unexpected s) (λ e fine. k) (λ e. k)
is_row s named.InR1B1 k =
    by_test (SoundRow (Packet named.InR1B1)) (has_passed s.handover)
    (taken (record s { work = work.Done })) (unexpected s) (λ e fine. k) (λ e. k)
is_row s (named.Ack received available channel) k =
    by_test (SoundRow (Packet (named.Ack received available channel))) (is_unknown s.edge)
    (unexpected s) (ack_for s (opener_of s.opening) received available channel) (λ e. k)
    (λ e. ack_for_row s (opener_of s.opening) received available channel k)
is_row s packet k = k

packet_row : (s : InProxy) (leg : Leg) (count : Count) (named : Named) → IsSound s
    → SoundRow (Packet named) (packet s leg count named)
packet_row s leg count named k =
    by_test (SoundRow (Packet named)) (is_client_leg leg) (on_ci s leg.number named)
    (if is_server_leg s leg then on_is s named else unexpected s)
    (λ e. ci_row s leg.number named k)
    (λ e. by_test (SoundRow (Packet named)) (is_server_leg s leg) (on_is s named) (unexpected s)
    (λ f. is_row s named k) (λ f. k))

-- ---- RPC PDUs

-- where it is admitted the channel has one more, and else nothing changes
admitted_row : (s : InProxy) (which : Which) (pdu : List ℕ) (c : Incoming) (window : Receiver)
    (verdict : Result (Unit {0}) LineFault) → IsTold window → IsChannel c → IsSound s
    → SoundRow (Pdu pdu)
    (passing.pdu_by
    (record s {
      line = line.with_channel s.line which
          (if is_ok verdict
          then record c { pdus = c.pdus ++ pdu ∷ []; window = window }
          else c);
    }) verdict)
admitted_row s which pdu c window (Ok admitted) told is k =
    λ fine. channel_is s which (record c { pdus = c.pdus ++ pdu ∷ []; window = window })
    (record { each = each_push IsPdu c.pdus pdu is.each fine; within = told }) k
admitted_row s which pdu c window (Err (Window exceeded)) told is k = channel_is s which c is k
admitted_row s which pdu c window (Err Over) told is k = channel_is s which c is k

channel_pdu_row : (s : InProxy) (which : Which) (pdu : List ℕ) → IsSound s
    → SoundRow (Pdu pdu) (passing.on_pdu s which pdu)
channel_pdu_row s which pdu k =
    let c = line.channel_of s.line which in
    by_test (SoundRow (Pdu pdu)) (has_a5 s which || line.is_ended s.line) (unexpected s)
    (passing.pdu_by (record s { line = line.after_admit s.line which pdu })
    (line.admit_verdict s.line which pdu))
    (λ e. k)
    (λ e. admitted_row s which pdu c (receiving.after_admit c.window (length pdu))
    (line.channel_verdict c pdu)
    (admits c.window (length pdu) (channel_at s which k).within) (channel_at s which k) k)

pdu_row_by : (s : InProxy) (which : Option Which) (bytes : List ℕ) → IsSound s
    → SoundRow (Pdu bytes) (pdu_by s which bytes)
pdu_row_by s None bytes k = k
pdu_row_by s (Some which) bytes k = channel_pdu_row s which bytes k

pdu_row : (s : InProxy) (leg : Leg) (count : Count) (bytes : List ℕ) → IsSound s
    → SoundRow (Pdu bytes) (pdu s leg count bytes)
pdu_row s leg count bytes k =
    by_test (SoundRow (Pdu bytes)) (is_client_leg leg)
    (pdu_by s (channel_of s leg.number) bytes) (unexpected s)
    (λ e. pdu_row_by s (channel_of s leg.number) bytes k) (λ e. k)

-- ---- legs

accepted_is : (s : InProxy) (opening : Opening) (n : ℕ) → IsSound s
    → IsSound (accepted s opening n)
accepted_is s AwaitsClient n k = opening_is s AwaitsPacket tt k
accepted_is s opening n k = successor_is s (Up n) tt k

connected_is : (s : InProxy) (opening : Opening) → IsOpening opening → IsSound s
    → IsSound (connected s opening)
connected_is s (WantsServer o) is k = opening_is s (Announces o) is k
connected_is s opening is k = k

up_is : (s : InProxy) (leg : Leg) → IsSound s → IsSound (up s leg)
up_is s leg k =
    by_test IsSound (may_accept s leg) (accepted s s.opening leg.number)
    (if wants s leg then connected s s.opening else s)
    (λ e. accepted_is s s.opening leg.number k)
    (λ e. by_test IsSound (wants s leg) (connected s s.opening) s
    (λ f. connected_is s s.opening k.opener k) (λ f. k))

head_is : (s : InProxy) (n : ℕ) (verdict : Result Asked HttpFault) → IsSound s
    → IsSound (head_by s n verdict).0
head_is s n (Err fault) k = k
head_is s n (Ok asked) k =
    by_test (λ (d : InProxy × Result HeadTaken HeadRefused). IsSound d.0)
    (nat_le asked.length ECHO_LENGTH) (echo_asked s n asked) (channel_asked s asked)
    (λ e. k) (λ e. k)

drawn_by_is : (s : InProxy) (w : Work) (n : ℕ) → IsSound s → IsSound (drawn_by s w n)
drawn_by_is s work.Underway n k = k
drawn_by_is s (work.EchoDue asked_on) n k = k
drawn_by_is s work.Done n k = k
drawn_by_is s (work.EchoPut asked_on) n k =
    by_test IsSound (nat_eq asked_on n) (record s { work = work.Done }) s (λ e. k) (λ e. k)

drawn_is : (s : InProxy) (leg : Leg) → IsSound s → IsSound (drawn s leg)
drawn_is s leg k =
    by_test IsSound (is_client_leg leg) (drawn_by s s.work leg.number) s
    (λ e. drawn_by_is s s.work leg.number k) (λ e. k)

marked_is : (s : InProxy) (leg : Leg) → IsSound s → IsSound (mark s leg)
marked_is s leg k =
    settled_is (if is_newest s leg then record s { newest_lost = true } else s)
    (by_test IsSound (is_newest s leg) (record s { newest_lost = true }) s (λ e. k) (λ e. k))

pinged_is : (s : InProxy) (leg : Leg) → IsSound s → IsSound (ping s leg)
pinged_is s leg k =
    by_test IsSound (is_server_leg s leg) (record s { ping_due = true }) s (λ e. k) (λ e. k)

-- ---- moves

abbrev pub Goes : OnLeg → Type 0
Goes one = MayGoOn (pipe_put one.0) one.1

-- where all that came is fine, what is put from now on may go, as all that was put
abbrev pub Kept : Passage InProxy → Type 0
Kept p = AreFine p.came → IsSound p.role × AllMayGo pipe_put p.put

now_keeps : (p : Passage InProxy) (t : InProxy) → (IsSound p.role → IsSound t) → Kept p
    → Kept (now_at p t)
now_keeps p t sound k = λ fine. let before = k fine in (sound before.0, before.1)

row_keeps : (p : Passage InProxy) (leg : Leg) (message : Message) (done : Done)
    → (IsSound p.role → SoundRow message done) → Kept p → Kept (taken_by p leg message done)
row_keeps p leg message (t, Ok taken) row k =
    λ fine.
    let came = each_parted (λ (one : OnLeg). IsFineMessage one.1) p.came (leg, message) fine in
    let before = k came.0 in (row before.0 came.1, before.1)
row_keeps p leg message (t, Err why) row k =
    λ fine. let before = k fine in (row before.0, before.1)

put_keeps : (p : Passage InProxy) (leg : Leg) (pick : Pick)
    → (IsSound p.role → SoundPick (pipe_put leg) pick) → Kept p → Kept (put_by p leg pick)
put_keeps p leg None goes k = k
put_keeps p leg (Some pick) goes k =
    λ fine. let before = k fine in
    let behind = goes before.0 in
    (behind.0, each_push Goes p.put (leg, pick.1) before.1 behind.1)

-- what is put on the is leg is read there
server_pipe : (kind : LegKind) → (kind_number InServer == kind_number kind) ≡ true
    → Some IsU ≡ pipe_to kind
server_pipe InServer e = refl
server_pipe ClientOut e = absurd cc
server_pipe OutServer e = absurd cc
server_pipe ClientIn e = absurd cc

put_goes : (s : InProxy) (leg : Leg) → IsSound s → SoundPick (pipe_put leg) (put s leg)
put_goes s leg k =
    by_test (SoundPick (pipe_put leg)) (is_client_leg leg) (put_echo s leg.number)
    (if is_server_leg s leg then settled_pick (next s) else None)
    (λ e. echo_goes (pipe_put leg) s s.work leg.number k)
    (λ e. by_test (SoundPick (pipe_put leg)) (is_server_leg s leg) (settled_pick (next s)) None
    (λ f. subst (λ (pipe : Option Pipe). SoundPick pipe (settled_pick (next s)))
    (server_pipe leg.kind
    (both (is_of InServer leg) (nat_eq s.config.number leg.number) f).0) (server_goes s k))
    (λ f. tt))

move_keeps : (p : Passage InProxy) (move : Move) → Kept p → Kept (moved rules p move)
move_keeps p (moves.Up leg cookie) k = now_keeps p (up p.role leg) (up_is p.role leg) k
move_keeps p (moves.HeadCame leg text) k =
    now_keeps p (head_by p.role leg.number (request_verdict true text)).0
    (head_is p.role leg.number (request_verdict true text)) k
move_keeps p (moves.PduCame leg count bytes) k =
    row_keeps p leg (Pdu bytes) (pdu p.role leg count bytes) (pdu_row p.role leg count bytes) k
move_keeps p (moves.PacketCame leg count named) k =
    row_keeps p leg (Packet named) (packet p.role leg count named)
    (packet_row p.role leg count named) k
move_keeps p (moves.Puts leg) k =
    put_keeps p leg (put p.role leg) (put_goes p.role leg) k
move_keeps p (moves.IsDrawn leg) k = now_keeps p (drawn p.role leg) (drawn_is p.role leg) k
move_keeps p (moves.Marks leg) k = now_keeps p (mark p.role leg) (marked_is p.role leg) k
move_keeps p (moves.Pings leg) k = now_keeps p (ping p.role leg) (pinged_is p.role leg) k

moves_keep : (p : Passage InProxy) (all : List Move) → Kept p → Kept (all_moved rules p all)
moves_keep p [] k = k
moves_keep p (move ∷ all) k = moves_keep (moved rules p move) all (move_keeps p move k)

first_is : (config : InProxyConfig) → IsConfig config → HasSizes config → IsSound (first config)
first_is config ranges sizes = record {
  ranges = ranges;
  sizes = sizes;
  opener = tt;
  channel = refl;
  behind = tt;
  handed = tt;
  waits = tt;
  current = record { each = tt; within = omega arith };
  following = record { each = tt; within = omega arith };
}

-- a message that may go reads back
pub all_reads_back : ((pipe : Leg → Option Pipe) (log : List OnLeg) → AllMayGo pipe log
    → AllReadBack pipe log) → (config : InProxyConfig) → IsConfig config → HasSizes config
    → (all : List Move) → IsLegible pipe_put (all_moved rules (started (first config)) all)
all_reads_back reads config ranges sizes all =
    let start = started (first config) in
    let kept = moves_keep start all (λ fine. (first_is config ranges sizes, tt)) in
    λ fine. record {
      may_go = (kept fine).1;
      read_back = reads pipe_put (all_moved rules start all).put (kept fine).1;
    }
