-- which ci leg is the newest one at an in proxy, and whether the server was told of it, behind each
-- rule
use Rattle.rh_window.specs.declared.recv_window.Ack as told
use Rattle.law_order.proofs.Vocabulary.{◌≡◌, ℕ, ◌+◌, ◌==◌, ◌≤◌, ◌&&◌, List, [], ◌∷◌, ◌++◌, length, Bool, true, false, not, Some, None, refl, sym, ◌∙◌, subst, rules, arith, and_parts, if◌then◌else◌, nat_lt, IfSome, list_any, AllByRecursion, Option}
use Rattle.rh_line.specs.Lines as line
use Rattle.rh_shell.specs.declared.answers.Refused.TheVariants as refused
use Rattle.rh_shell.specs.Waiting as waiting
use Rattle.rh_inproxy.specs.declared.state.Successor.TheVariants as successors
use Rattle.rh_inproxy.specs.declared.state.Work.TheVariants as works
use Rattle.law_moves.proofs.Vocabulary.{may_send, by_test, same_number, Cookie, Named, ConnB1, InR1A1, InR1A5, InR2A2, OutR1A7, OutR1A8, EndA1, EndA2, AckTo, KeepAlive, Ping, after_finish, after_take, Leg, Which, Current, Next, Count, Due, Forwarded, Message, Text, Pdu, Packet, Waiting, better, merged, takes, edge_of}
use Rattle.law_role_inproxy.proofs.Vocabulary.{ClientLeg, Entry, Connects, Replaces, Handover, Before, Came, Passed, TellsServer, Told, Follows, Opener, Opening, AwaitsClient, AwaitsPacket, WantsServer, Announces, Announced, Successor, Absent, Joined, Work, Done, Pick, or_else, taken, refuse, unexpected, InProxy, channel_of, has_a5, follows, is_client_leg, is_server_leg, same_cookie, is_absent, head, drawn, is_first, opener_of, announcement, on_first_in_r1_a1, on_conn_b1}
use Rattle.law_role_inproxy.proofs.Vocabulary.{first_by, put_first, echo_answer, echo_by, put_echo, forwarded, forward_by, on_ack_to, ack_due, ack_by, current_ack, next_ack, put_acks, is_newest, on_end_a1, mark, put_end, settled, settled_pick, has_passed, is_newcomer, joined, join, on_later_in_r1_a1, on_in_r1_a1, on_in_r1_a5, told_by, put_in_r2_a2, one_less, finished, finish_by, hand_over, mark_by, put_in_r1_a6, on_out_r1_a7, passed, next_pdu, put_pdu, put, next, waiting_by}
use Rattle.law_role_inproxy.proofs.Vocabulary.{put_waiting, put_control, put_early, put_stream, put_behind, put_mark, on_keep_alive, ping, put_ping, packet, pdu, on_ci, on_is, on_channel, on_channel_by}
use Rattle.law_peers_routes.proofs.Upwards.Told.{tells}

-- ---- what these facts are about

pub record Seen : Type 0 where
  pub number : ℕ
  pub successor : Successor
  pub handover : Handover
  pub due : List Due

abbrev pub seen : InProxy → Seen
seen s = record {
  number = s.current.number;
  successor = s.successor;
  handover = s.handover;
  due = s.waiting.due;
}

-- the number of the newest ci leg
abbrev pub top : ℕ → Successor → ℕ
top n Absent = n
top n (successors.Up number) = number
top n (Joined leg stage) = leg.number

-- the server was not told of it
abbrev pub untold : Successor → ℕ
untold Absent = 0
untold (successors.Up number) = 1
untold (Joined leg (TellsServer behind)) = 1
untold (Joined leg Told) = 0
untold (Joined leg Follows) = 0

-- no packet that waits tells of one
abbrev pub IsQuiet : Due → Type 0
IsQuiet due = tells (Packet due.packet) ≡ 0

abbrev pub AreQuiet : List Due → Type 0
AreQuiet dues = AllByRecursion IsQuiet dues

-- where IN_R1/A6 was put, no ci leg is behind the current one
abbrev pub IsLast : Seen → Type 0
IsLast x = has_passed x.handover ≡ true → is_absent x.successor ≡ true

-- from one to the other the server was told so many times, and no ci leg came up
pub record Goes (x : Seen) (count : ℕ) (y : Seen) : Type 0 where
  pub newest : top y.number y.successor ≡ top x.number x.successor
  pub untold : count + untold y.successor ≤ untold x.successor
  pub above : x.number ≤ top x.number x.successor → y.number ≤ top y.number y.successor
  pub last : IsLast x → IsLast y
  pub quiet : AreQuiet x.due → AreQuiet y.due

abbrev pub Later : InProxy → InProxy → Type 0
Later s t = Goes (seen s) 0 (seen t)

stays : (x : Seen) → Goes x 0 x
stays x = record {
  newest = refl;
  untold = omega arith;
  above = λ h. h;
  last = λ h. h;
  quiet = λ h. h;
}

abbrev Same : InProxy → InProxy → Type 0
Same s t = seen t ≡ seen s

pub same_later : (s t : InProxy) → Same s t → Later s t
same_later s t same = subst (Goes (seen s) 0) (sym same) (stays (seen s))

-- ---- rules that leave them

same_conn_b1 : (s : InProxy) (n : ℕ) (a b : Cookie) (c : ℕ) (d : Cookie)
    → Same s (on_conn_b1 s n a b c d).0
same_conn_b1 s n a b c d = search rules

same_keep_alive : (s : InProxy) (which : Which) (a : ℕ) → Same s (on_keep_alive s which a).0
same_keep_alive s which a = search rules

same_end_a1 : (s : InProxy) (which : Which) → Same s (on_end_a1 s which).0
same_end_a1 s which = search rules

same_is : (s : InProxy) (named : Named) → Same s (on_is s named).0
same_is s named = search rules

pub same_pdu : (s : InProxy) (leg : Leg) (count : Count) (bytes : List ℕ)
    → Same s (pdu s leg count bytes).0
same_pdu s leg count bytes = search rules

pub same_head : (s : InProxy) (leg : Leg) (text : List ℕ) → Same s (head s leg text).0
same_head s leg text = search rules

pub same_drawn : (s : InProxy) (leg : Leg) → Same s (drawn s leg)
same_drawn s leg = search rules

same_settled : (s : InProxy) → Same s (settled s)
same_settled s = search rules

pub same_mark : (s : InProxy) (leg : Leg) → Same s (mark s leg)
same_mark s leg =
    same_settled (if is_newest s leg then record s { newest_lost = true } else s)
    ∙ by_test (Same s) (is_newest s leg) (record s { newest_lost = true }) s (λ e. refl)
    (λ e. refl)

pub same_ping : (s : InProxy) (leg : Leg) → Same s (ping s leg)
same_ping s leg = search rules

-- ---- packets that wait

merged_quiet : (packet : Named) → tells (Packet packet) ≡ 0 → (dues : List Due) → AreQuiet dues
    → AreQuiet (merged dues packet)
merged_quiet packet none [] q = tt
merged_quiet packet none (due ∷ dues) q =
    by_test AreQuiet (takes packet due) (better due packet ∷ dues) (due ∷ merged dues packet)
    (λ e. (
      by_test IsQuiet (nat_lt (edge_of packet) (edge_of due.packet)) due
          (record { packet = packet; origin = due.origin }) (λ f. q.0) (λ f. none),
      q.1,
    ))
    (λ e. (q.0, merged_quiet packet none dues q.1))

pushed_quiet : (packet : Named) → tells (Packet packet) ≡ 0 → (dues : List Due) → AreQuiet dues
    → AreQuiet (dues ++ waiting.to_forward packet ∷ [])
pushed_quiet packet none [] q = (none, tt)
pushed_quiet packet none (due ∷ dues) q = (q.0, pushed_quiet packet none dues q.1)

forwarded_later : (s : InProxy) (packet : Named) → tells (Packet packet) ≡ 0
    → Later s (forwarded s packet).0
forwarded_later s packet none =
    by_test (λ (w : Waiting × Bool). Later s (forward_by s w).0)
    (list_any (takes packet) s.waiting.due)
    (waiting.with_due s.waiting (merged s.waiting.due packet), true)
    (if nat_lt (waiting.count Forwarded s.waiting.due) s.waiting.room
    then (waiting.pushed s.waiting (waiting.to_forward packet), true)
    else (s.waiting, false))
    (λ e. waits (merged s.waiting.due packet) (merged_quiet packet none s.waiting.due))
    (λ e. by_test (λ (w : Waiting × Bool). Later s (forward_by s w).0)
    (nat_lt (waiting.count Forwarded s.waiting.due) s.waiting.room)
    (waiting.pushed s.waiting (waiting.to_forward packet), true) (s.waiting, false)
    (λ f. waits (s.waiting.due ++ waiting.to_forward packet ∷ [])
    (pushed_quiet packet none s.waiting.due))
    (λ f. stays (seen s)))
  where
    waits : (dues : List Due) → (AreQuiet s.waiting.due → AreQuiet dues)
        → Goes (seen s) 0 (record (seen s) { due = dues })
    waits dues quiet = record {
      newest = refl;
      untold = omega arith;
      above = λ h. h;
      last = λ h. h;
      quiet = quiet;
    }

ack_to_later : (s : InProxy) (which : Which) (a b c : ℕ) (d : Cookie)
    → Later s (on_ack_to s which a b c d).0
ack_to_later s which a b c d =
    by_test (λ (x : Done). Later s x.0) (not (has_a5 s which) && (a == 3))
    (forwarded s (AckTo 3 b c d)) (unexpected s) (λ e. forwarded_later s (AckTo 3 b c d) refl)
    (λ e. stays (seen s))

out_r1_a7_later : (s : InProxy) (which : Which) (a : ℕ) (b : Cookie)
    → Later s (on_out_r1_a7 s which a b).0
out_r1_a7_later s which a b =
    by_test (λ (x : Done). Later s x.0) (not (has_a5 s which) && (a == 2))
    (forwarded s (OutR1A8 2 b)) (unexpected s) (λ e. forwarded_later s (OutR1A8 2 b) refl)
    (λ e. stays (seen s))

-- ---- a ci leg is joined, and follows

joined_later : (s : InProxy) (n : ℕ) (cookie : Cookie) (z : Successor) → s.successor ≡ z
    → is_newcomer z n ≡ true → Later s (joined s n cookie)
joined_later s n cookie Absent is e = absurd cc
joined_later s n cookie (Joined leg stage) is e = absurd cc
joined_later s n cookie (successors.Up number) is e =
    let same : number ≡ n = same_number number n e in
    let goes : Goes (record (seen s) { successor = successors.Up number }) 0
    (seen (joined s n cookie)) =
    record {
      newest = sym same;
      untold = omega arith;
      above = λ h. omega (arith, h, same);
      last = λ h f. absurd (let g = h f in cc);
      quiet = λ h. h;
    } in
    subst (λ (x : Successor). Goes (record (seen s) { successor = x }) 0
    (seen (joined s n cookie))) (sym is) goes

join_later : (s : InProxy) (o : Opener) (n : ℕ) (a b c : Cookie) → is_newcomer s.successor n ≡ true
    → Later s (join s o n a b c).0
join_later s o n a b c e =
    by_test (λ (d : Done). Later s d.0) (not (same_cookie o.connection a))
    (refuse s (refused.Cookie o.connection a))
    (if not (same_cookie s.current.cookie b) then refuse s (refused.Cookie s.current.cookie b)
    else taken (joined s n c))
    (λ f. stays (seen s))
    (λ f. by_test (λ (d : Done). Later s d.0) (not (same_cookie s.current.cookie b))
    (refuse s (refused.Cookie s.current.cookie b)) (taken (joined s n c))
    (λ g. stays (seen s)) (λ g. joined_later s n c s.successor refl e))

in_r1_a1_later : (s : InProxy) (n : ℕ) (a b c : Cookie) → Later s (on_in_r1_a1 s n a b c).0
in_r1_a1_later s n a b c =
    by_test (λ (d : Done). Later s d.0) (is_first s n) (on_first_in_r1_a1 s a b c)
    (on_later_in_r1_a1 s (opener_of s.opening) n a b c) (λ e. stays (seen s))
    (λ e. by (opener_of s.opening))
  where
    by : (o : Option Opener) → Later s (on_later_in_r1_a1 s o n a b c).0
    by None = stays (seen s)
    by (Some o) =
        by_test (λ (d : Done). Later s d.0) (is_newcomer s.successor n) (join s o n a b c)
        (unexpected s) (λ e. join_later s o n a b c e) (λ e. stays (seen s))

-- the next channel becomes current
follows_goes : (x : Seen) (count : ℕ) (c : ClientLeg) (z : Successor) (h : Handover)
    (dues : List Due) (has_next : Bool)
    → Goes x count (record { number = c.number; successor = z; handover = h; due = dues })
    → Goes x count (record {
      number = (follows has_next c z).0.number;
      successor = (follows has_next c z).1;
      handover = h;
      due = dues;
    })
follows_goes x count c Absent h dues true g = g
follows_goes x count c Absent h dues false g = g
follows_goes x count c (successors.Up number) h dues true g = g
follows_goes x count c (successors.Up number) h dues false g = g
follows_goes x count c (Joined leg stage) h dues true g = g
follows_goes x count c (Joined leg stage) h dues false g = record {
  newest = g.newest;
  untold = let u = g.untold in omega (arith, u);
  above = λ k. omega arith;
  last = λ k e. refl;
  quiet = g.quiet;
}

-- IN_R1/A5 on an earlier ci leg
finished_later : (s : InProxy) (leg : ClientLeg) → s.successor ≡ Joined leg Told
    → Later s (finished s leg)
finished_later s leg is =
    follows_goes (seen s) 0 s.current (Joined leg Follows) s.handover s.waiting.due
    (after_finish s.line).has_next
    (subst (λ (z : Successor). Goes (record (seen s) { successor = z }) 0
    (record (seen s) { successor = Joined leg Follows })) (sym is)
    (record {
      newest = refl;
      untold = omega arith;
      above = λ h. h;
      last = λ h. h;
      quiet = λ h. h;
    }))

-- on the newest one: no IN_R1/A6 was put yet
handed_later : (s : InProxy) (cookie : Cookie)
    → Later s (record s { handover = Came cookie })
handed_later s cookie = record {
  newest = refl;
  untold = omega arith;
  above = λ h. h;
  last = λ h e. absurd cc;
  quiet = λ h. h;
}

in_r1_a5_later : (s : InProxy) (which : Which) (cookie : Cookie)
    → Later s (on_in_r1_a5 s which cookie).0
in_r1_a5_later s which cookie =
    by_test (λ (d : Done). Later s d.0) (has_a5 s which) (unexpected s) (hand_over s which cookie)
    (λ e. stays (seen s)) (λ e. by which)
  where
    finish : (z : Successor) → s.successor ≡ z → Later s (finish_by s z cookie).0
    finish Absent is = handed_later s cookie
    finish (successors.Up number) is = stays (seen s)
    finish (Joined leg (TellsServer behind)) is = stays (seen s)
    finish (Joined leg Follows) is = stays (seen s)
    finish (Joined leg Told) is =
        by_test (λ (d : Done). Later s d.0) (same_cookie leg.cookie cookie)
        (taken (finished s leg)) (refuse s (refused.Cookie leg.cookie cookie))
        (λ e. finished_later s leg is) (λ e. stays (seen s))

    by : (w : Which) → Later s (hand_over s w cookie).0
    by Current = finish s.successor refl
    by Next = handed_later s cookie

channel_later : (s : InProxy) (which : Which) (packet : Named)
    → Later s (on_channel s which packet).0
channel_later s which (AckTo v1 v2 v3 v4) = ack_to_later s which v1 v2 v3 v4
channel_later s which (OutR1A7 v1 v2) = out_r1_a7_later s which v1 v2
channel_later s which (KeepAlive v1) =
    same_later s (on_keep_alive s which v1).0 (same_keep_alive s which v1)
channel_later s which EndA1 = same_later s (on_end_a1 s which).0 (same_end_a1 s which)
channel_later s which (InR1A5 v1) = in_r1_a5_later s which v1
channel_later s which packet = stays (seen s)

by_channel : (s : InProxy) (o : Option Which) (packet : Named)
    → Later s (on_channel_by s o packet).0
by_channel s None packet = stays (seen s)
by_channel s (Some which) packet = channel_later s which packet

ci_later : (s : InProxy) (n : ℕ) (packet : Named) → Later s (on_ci s n packet).0
ci_later s n (ConnB1 v1 v2 v3 v4 v5 v6) =
    same_later s (on_conn_b1 s n v2 v3 v5 v6).0 (same_conn_b1 s n v2 v3 v5 v6)
ci_later s n (InR1A1 v1 v2 v3 v4) = in_r1_a1_later s n v2 v3 v4
ci_later s n packet = by_channel s (channel_of s n) packet

pub packet_later : (s : InProxy) (leg : Leg) (count : Count) (named : Named)
    → Later s (packet s leg count named).0
packet_later s leg count named =
    by_test (λ (d : Done). Later s d.0) (is_client_leg leg) (on_ci s leg.number named)
    (if is_server_leg s leg then on_is s named else unexpected s)
    (λ e. ci_later s leg.number named)
    (λ e. by_test (λ (d : Done). Later s d.0) (is_server_leg s leg) (on_is s named)
    (unexpected s) (λ f. same_later s (on_is s named).0 (same_is s named)) (λ f. stays (seen s)))

-- ---- what is put

abbrev pub PickGoes : InProxy → Pick → Type 0
PickGoes s pick =
    IfSome pick (λ (put : InProxy × Message). Goes (seen s) (tells put.1) (seen put.0))

or_goes : (s : InProxy) (a b : Pick) → PickGoes s a → PickGoes s b → PickGoes s (or_else a b)
or_goes s None b h k = k
or_goes s (Some pick) b h k = h

counted : (s t : InProxy) (message : Message) → tells message ≡ 0 → Later s t
    → Goes (seen s) (tells message) (seen t)
counted s t message none g = subst (λ n. Goes (seen s) n (seen t)) (sym none) g

first_goes : (s : InProxy) (o : Opening) → PickGoes s (first_by s o)
first_goes s AwaitsClient = tt
first_goes s AwaitsPacket = tt
first_goes s (WantsServer opener) = tt
first_goes s (Announced opener) = tt
first_goes s (Announces opener) =
    counted s (record s { opening = Announced opener })
    (Packet (announcement s opener opener.entry)) (by opener.entry) (stays (seen s))
  where
    by : (entry : Entry) → tells (Packet (announcement s opener entry)) ≡ 0
    by (Connects group) = refl
    by (Replaces predecessor) = refl

told_goes : (s : InProxy) (z : Successor) → s.successor ≡ z → PickGoes s (told_by s z)
told_goes s Absent is = tt
told_goes s (successors.Up number) is = tt
told_goes s (Joined leg Told) is = tt
told_goes s (Joined leg Follows) is = tt
told_goes s (Joined leg (TellsServer behind)) is =
    by_test (PickGoes s) (behind == 0)
    (Some (record s { successor = Joined leg Told }, Packet (InR2A2 leg.cookie))) None
    (λ e. subst (λ (z : Successor). Goes (record (seen s) { successor = z }) 1
    (record (seen s) { successor = Joined leg Told })) (sym is)
    (record {
      newest = refl;
      untold = omega arith;
      above = λ h. h;
      last = λ h. h;
      quiet = λ h. h;
    }))
    (λ e. tt)

less_goes : (x : Seen) (z : Successor) (dues : List Due) → x.successor ≡ z
    → (AreQuiet x.due → AreQuiet dues)
    → Goes x 0 (record x { successor = one_less z; due = dues })
less_goes x z dues is q =
    subst (λ (y : Successor). Goes (record x { successor = y }) 0
    (record x { successor = one_less z; due = dues })) (sym is) (by z)
  where
    alike : {a b : Seen} → top b.number b.successor ≡ top a.number a.successor
        → 0 + untold b.successor ≤ untold a.successor
        → (a.number ≤ top a.number a.successor → b.number ≤ top b.number b.successor)
        → (IsLast a → IsLast b) → (AreQuiet a.due → AreQuiet b.due) → Goes a 0 b
    alike newest less above last quiet = record {
      newest = newest;
      untold = less;
      above = above;
      last = last;
      quiet = quiet;
    }

    by : (y : Successor)
        → Goes (record x { successor = y }) 0 (record x { successor = one_less y; due = dues })
    by Absent = alike refl (omega arith) (λ h. h) (λ h. h) q
    by (successors.Up number) = alike refl (omega arith) (λ h. h) (λ h. h) q
    by (Joined leg Told) = alike refl (omega arith) (λ h. h) (λ h. h) q
    by (Joined leg Follows) = alike refl (omega arith) (λ h. h) (λ h. h) q
    by (Joined leg (TellsServer behind)) = alike refl (omega arith) (λ h. h) (λ h. h) q

-- the packet that waits longest
waiting_goes : (s : InProxy) (dues : List Due) → s.waiting.due ≡ dues → AreQuiet dues
    → PickGoes s (waiting_by s dues)
waiting_goes s [] is q = tt
waiting_goes s (due ∷ dues) is q =
    subst (λ n. Goes (seen s) n (record (seen s) { successor = one_less s.successor; due = dues }))
    (sym q.0) (less_goes (seen s) s.successor dues refl (λ h. q.1))

ack_goes : (s : InProxy) (which : Which) (cookie : Cookie) (o : Option told.Ack)
    → PickGoes s (ack_by s which cookie o)
ack_goes s which cookie None = tt
ack_goes s which cookie (Some ack) = stays (seen s)

next_goes : (s : InProxy) (z : Successor) → PickGoes s (next_ack s z)
next_goes s Absent = tt
next_goes s (successors.Up number) = tt
next_goes s (Joined leg stage) = ack_goes s Next leg.cookie (ack_due s Next)

pdu_goes : (s : InProxy) (pdus : List (List ℕ)) → PickGoes s (next_pdu s pdus)
pdu_goes s [] = tt
pdu_goes s (pdu ∷ pdus) =
    by_test (PickGoes s) (may_send s.window (length pdu))
    (Some (passed s (length pdu), Pdu pdu)) None
    (λ e. follows_goes (seen s) 0 s.current s.successor s.handover s.waiting.due
    (after_take s.line).has_next (stays (seen s)))
    (λ e. tt)

mark_goes : (s : InProxy) (handover : Handover) → is_absent s.successor ≡ true
    → PickGoes s (mark_by s handover)
mark_goes s Before e = tt
mark_goes s Passed e = tt
mark_goes s (Came cookie) e = record {
  newest = refl;
  untold = omega arith;
  above = λ h. h;
  last = λ h f. e;
  quiet = λ h. h;
}

behind_goes : (s : InProxy) → PickGoes s (put_behind s)
behind_goes s =
    or_goes s (put_mark s) (put_ping s)
    (or_goes s (put_end s) (put_in_r1_a6 s)
    (by_test (PickGoes s)
    (s.line.current.ended && not s.end_put && line.is_empty s.line.current.pdus)
    (Some (record s { end_put = true }, Packet EndA2)) None (λ e. stays (seen s)) (λ e. tt))
    (by_test (PickGoes s) (is_absent s.successor && line.is_empty s.line.current.pdus)
    (mark_by s s.handover) None
    (λ e. mark_goes s s.handover
    (and_parts (is_absent s.successor) (line.is_empty s.line.current.pdus) e).0)
    (λ e. tt)))
    (by_test (PickGoes s) s.ping_due (Some (record s { ping_due = false }, Packet Ping)) None
    (λ e. stays (seen s)) (λ e. tt))

server_goes : (s : InProxy) → AreQuiet s.waiting.due → PickGoes s (next s)
server_goes s q =
    or_goes s (put_control s) (put_stream s)
    (or_goes s (put_early s) (put_acks s)
    (or_goes s (put_first s) (or_else (put_in_r2_a2 s) (put_waiting s)) (first_goes s s.opening)
    (or_goes s (put_in_r2_a2 s) (put_waiting s) (told_goes s s.successor refl)
    (waiting_goes s s.waiting.due refl q)))
    (or_goes s (current_ack s) (next_ack s s.successor)
    (ack_goes s Current s.current.cookie (ack_due s Current)) (next_goes s s.successor)))
    (or_goes s (put_pdu s) (put_behind s) (pdu_goes s s.line.current.pdus) (behind_goes s))

settled_goes : (s : InProxy) (pick : Pick) → PickGoes s pick → PickGoes s (settled_pick pick)
settled_goes s None g = tt
settled_goes s (Some pick) g = subst (Goes (seen s) (tells pick.1)) (sym (same_settled pick.0)) g

echo_goes : (s : InProxy) (work : Work) (n : ℕ) → PickGoes s (echo_by s work n)
echo_goes s works.Underway n = tt
echo_goes s (works.EchoPut asked_on) n = tt
echo_goes s works.Done n = tt
echo_goes s (works.EchoDue asked_on) n =
    by_test (PickGoes s) (asked_on == n)
    (Some (record s { work = works.EchoPut asked_on }, Text echo_answer)) None
    (λ e. stays (seen s)) (λ e. tt)

pub put_goes : (s : InProxy) (leg : Leg) → AreQuiet s.waiting.due → PickGoes s (put s leg)
put_goes s leg q =
    by_test (PickGoes s) (is_client_leg leg) (put_echo s leg.number)
    (if is_server_leg s leg then settled_pick (next s) else None)
    (λ e. echo_goes s s.work leg.number)
    (λ e. by_test (PickGoes s) (is_server_leg s leg) (settled_pick (next s)) None
    (λ f. settled_goes s (next s) (server_goes s q)) (λ f. tt))
