-- an in proxy's channels go up by their numbers, and no leg that is done comes in use again
use Rattle.law_order.proofs.Vocabulary.{◌≡◌, ℕ, ◌+◌, ◌==◌, ◌≤◌, ◌&&◌, ◌||◌, List, [], ◌∷◌, length, Bool, true, false, not, nat_lt, Some, None, refl, sym, ap, ◌∙◌, subst, rules, arith, IfSome, nat_le, if◌then◌else◌, Option, nat_tests}
use Rattle.rh_line.specs.Lines as line
use Rattle.rh_shell.specs.declared.answers.Refused.TheVariants as refused
use Rattle.rh_inproxy.specs.declared.state.Joining.TheVariants as joining
use Rattle.rh_inproxy.specs.declared.state.Successor.TheVariants as successors
use Rattle.rh_inproxy.specs.declared.state.Work.TheVariants as works
use Rattle.law_moves.proofs.Vocabulary.{may_send, by_test, Cookie, Named, ConnB1, InR1A1, InR1A5, Leg, Which, Current, Next, Count, Due, Message, Pdu}
use Rattle.law_role_inproxy.proofs.Vocabulary.{GREATEST_LENGTHS, ClientLeg, TellsServer, Follows, Opener, Opening, AwaitsClient, AwaitsPacket, Successor, Absent, Joined, Work, Done, Pick, or_else, taken, refuse, unexpected, InProxy, first, is_server_leg, is_client_leg, channel_of, has_come, has_a5, follows, same_cookie, wants, up, is_absent, accepts, may_accept, accepted, connected, head, drawn, drawn_by, is_first, opener_of, on_first_in_r1_a1, put_first, put_echo, put_acks}
use Rattle.law_role_inproxy.proofs.Vocabulary.{current_ack, next_ack, mark, settled, settled_pick, is_newest, is_succeeded, joined, join, is_newcomer, on_later_in_r1_a1, on_in_r1_a1, on_in_r1_a5, told_by, put_in_r2_a2, one_less, finish_by, finished, hand_over, passed, next_pdu, put_pdu, put, next, put_waiting, waiting_by, put_control, put_early, put_stream, put_behind, put_mark, ping, put_ping, packet, pdu, on_ci, on_is, on_channel, on_channel_by, rules as proxy_rules}
use Rattle.law_node_causes.specs.Numbers.{AreNumbered, IsAbove}
use Rattle.law_node_causes.specs.Once.{ComesUpOnce}
use Rattle.law_node_ends.proofs.Unused.Behind.{behind, below}
use Rattle.law_node_ends.proofs.Unused.Staying.{StaysDone, Keeps, RoleKeeps, either}

-- ---- how far its channels are

-- the current channel's number, and whether IN_R1/A5 came there and the next one follows
pub record Said : Type 0 where
  pub number : ℕ
  pub succeeded : Bool

abbrev said : InProxy → Said
said s = record { number = s.current.number; succeeded = is_succeeded s.successor }

abbrev Same : InProxy → InProxy → Type 0
Same s t = said t ≡ said s

abbrev far : Said → ℕ
far x = behind x.succeeded x.number

abbrev GoesOn : InProxy → InProxy → Type 0
GoesOn s t = far (said s) ≤ far (said t)

goes_same : (s t : InProxy) → Same s t → GoesOn s t
goes_same s t same = subst (λ (x : Said). far (said s) ≤ far x) (sym same) (omega arith)

goes_self : (s : InProxy) → GoesOn s s
goes_self s = omega arith

-- ---- which legs are done

is_behind : (n c : ℕ) (succeeded : Bool)
    → (nat_lt n c || ((n == c) && succeeded)) ≡ nat_lt n (behind succeeded c)
is_behind n c true = grind (arith, nat_tests)
is_behind n c false = grind (arith, nat_tests)

goes_done : (s t : InProxy) → GoesOn s t → StaysDone proxy_rules s t
goes_done s t goes leg = by (is_client_leg leg)
  where
    by : (b : Bool)
        → (b && (nat_lt leg.number s.current.number
        || ((leg.number == s.current.number) && is_succeeded s.successor))) ≡ true
        → (b && (nat_lt leg.number t.current.number
        || ((leg.number == t.current.number) && is_succeeded t.successor))) ≡ true
    by true h =
        is_behind leg.number t.current.number (is_succeeded t.successor)
        ∙ below leg.number (far (said s)) (far (said t)) goes
        (sym (is_behind leg.number s.current.number (is_succeeded s.successor)) ∙ h)
    by false h = absurd cc

-- ---- the next channel becomes current

abbrev with_successor : InProxy → Successor → InProxy
with_successor s z = record s { successor = z }

follows_goes : (current : ClientLeg) (z : Successor) (has_next : Bool)
    → IsAbove current.number z
    → behind (is_succeeded z) current.number
    ≤ behind (is_succeeded (follows has_next current z).1) (follows has_next current z).0.number
follows_goes current Absent true above = omega arith
follows_goes current Absent false above = omega arith
follows_goes current (successors.Up number) true above = omega arith
follows_goes current (successors.Up number) false above = omega arith
follows_goes current (Joined leg Follows) true above = omega arith
follows_goes current (Joined leg Follows) false above = omega (arith, above)
follows_goes current (Joined leg joining.Told) true above = omega arith
follows_goes current (Joined leg joining.Told) false above = omega (arith, above)
follows_goes current (Joined leg (TellsServer n)) true above = omega arith
follows_goes current (Joined leg (TellsServer n)) false above = omega (arith, above)

-- ---- rows

joined_same : (s : InProxy) (n : ℕ) (cookie : Cookie) (z : Successor) → is_newcomer z n ≡ true
    → Same (with_successor s z) (joined s n cookie)
joined_same s n cookie (successors.Up number) e = refl
joined_same s n cookie Absent e = absurd cc
joined_same s n cookie (Joined leg stage) e = absurd cc

join_goes : (s : InProxy) (o : Opener) (n : ℕ) (a b c : Cookie)
    → is_newcomer s.successor n ≡ true → GoesOn s (join s o n a b c).0
join_goes s o n a b c e =
    either (GoesOn s) (not (same_cookie o.connection a))
    (refuse s (refused.Cookie o.connection a)) _ (goes_self s)
    (either (GoesOn s) (not (same_cookie s.current.cookie b))
    (refuse s (refused.Cookie s.current.cookie b)) (taken (joined s n c)) (goes_self s)
    (goes_same s (joined s n c) (joined_same s n c s.successor e)))

in_r1_a1_goes : (s : InProxy) (n : ℕ) (a b c : Cookie) → GoesOn s (on_in_r1_a1 s n a b c).0
in_r1_a1_goes s n a b c =
    either (GoesOn s) (is_first s n) (on_first_in_r1_a1 s a b c) _ (goes_self s)
    (by (opener_of s.opening))
  where
    by : (o : Option Opener) → GoesOn s (on_later_in_r1_a1 s o n a b c).0
    by None = goes_self s
    by (Some o) =
        by_test (λ (d : Done). GoesOn s d.0) (is_newcomer s.successor n) (join s o n a b c)
        (unexpected s) (λ e. join_goes s o n a b c e) (λ e. goes_self s)

-- IN_R1/A5 on an earlier ci leg: that leg's channel is finished
finish_goes : (s : InProxy) (z : Successor) (cookie : Cookie) → IsAbove s.current.number z
    → GoesOn (with_successor s z) (finish_by (with_successor s z) z cookie).0
finish_goes s (Joined leg joining.Told) cookie above =
    let now : InProxy = with_successor s (Joined leg joining.Told) in
    let later = follows_goes s.current (Joined leg Follows) (line.after_finish s.line).has_next
    above in
    either (GoesOn now) (same_cookie leg.cookie cookie) (taken (finished now leg))
    (refuse now (refused.Cookie leg.cookie cookie)) (omega (arith, later)) (goes_self now)
finish_goes s z cookie above = goes_self (with_successor s z)

in_r1_a5_goes : (s : InProxy) (which : Which) (cookie : Cookie) → AreNumbered s
    → GoesOn s (on_in_r1_a5 s which cookie).0
in_r1_a5_goes s which cookie are =
    either (GoesOn s) (has_a5 s which) (unexpected s) (hand_over s which cookie) (goes_self s)
    (by which)
  where
    by : (w : Which) → GoesOn s (hand_over s w cookie).0
    by Current = finish_goes s s.successor cookie are.behind
    by Next = goes_self s

channel_goes : (s : InProxy) (which : Which) (packet : Named) → AreNumbered s
    → GoesOn s (on_channel s which packet).0
channel_goes s which (InR1A5 successor) are = in_r1_a5_goes s which successor are
channel_goes s which packet are = goes_same s (on_channel s which packet).0 (search rules)

ci_goes : (s : InProxy) (n : ℕ) (packet : Named) → AreNumbered s → GoesOn s (on_ci s n packet).0
ci_goes s n (ConnB1 v1 v2 v3 v4 v5 v6) are =
    goes_same s (on_ci s n (ConnB1 v1 v2 v3 v4 v5 v6)).0 (search rules)
ci_goes s n (InR1A1 v1 v2 v3 v4) are = in_r1_a1_goes s n v2 v3 v4
ci_goes s n packet are = by (channel_of s n)
  where
    by : (o : Option Which) → GoesOn s (on_channel_by s o packet).0
    by None = goes_self s
    by (Some which) = channel_goes s which packet are

is_goes : (s : InProxy) (packet : Named) → GoesOn s (on_is s packet).0
is_goes s packet = goes_same s (on_is s packet).0 (search rules)

packet_goes : (s : InProxy) (leg : Leg) (count : Count) (named : Named) → AreNumbered s
    → GoesOn s (packet s leg count named).0
packet_goes s leg count named are =
    either (GoesOn s) (is_client_leg leg) (on_ci s leg.number named)
    (if is_server_leg s leg then on_is s named else unexpected s)
    (ci_goes s leg.number named are)
    (either (GoesOn s) (is_server_leg s leg) (on_is s named) (unexpected s) (is_goes s named)
    (goes_self s))

-- ---- legs that come up

-- a later ci leg comes up where none is behind the current one
later_same : (s : InProxy) (number : ℕ) (z : Successor) (a b c : Bool)
    → (a && is_absent z && b && c) ≡ true
    → Same (with_successor s z)
    (record s { successor = successors.Up number; newest_lost = false })
later_same s number Absent a b c e = refl
later_same s number (successors.Up n) true b c e = absurd cc
later_same s number (successors.Up n) false b c e = absurd cc
later_same s number (Joined leg stage) true b c e = absurd cc
later_same s number (Joined leg stage) false b c e = absurd cc

accepted_same : (s : InProxy) (opening : Opening) (n : ℕ) → accepts s opening n ≡ true
    → Same s (accepted s opening n)
accepted_same s AwaitsClient n e = refl
accepted_same s AwaitsPacket n e = absurd cc
accepted_same s opening n e =
    later_same s n s.successor (n == s.current.number + 1) (nat_le s.lengths GREATEST_LENGTHS)
    (not (has_come s.handover)) e

connected_same : (s : InProxy) (opening : Opening) → Same s (connected s opening)
connected_same s opening = search rules

accept_parts : (a b : Bool) → (a && b) ≡ true → b ≡ true
accept_parts true b h = h
accept_parts false b h = absurd cc

up_same : (s : InProxy) (leg : Leg) → Same s (up s leg)
up_same s leg =
    by_test (Same s) (may_accept s leg) (accepted s s.opening leg.number)
    (if wants s leg then connected s s.opening else s)
    (λ e. accepted_same s s.opening leg.number
    (accept_parts (is_client_leg leg) (accepts s s.opening leg.number) e))
    (λ e. by_test (Same s) (wants s leg) (connected s s.opening) s
    (λ f. connected_same s s.opening) (λ f. refl))

-- ---- puts

abbrev PickGoes : InProxy → Pick → Type 0
PickGoes s pick = IfSome pick (λ (put : InProxy × Message). GoesOn s put.0)

abbrev PickIsSame : InProxy → Pick → Type 0
PickIsSame s pick = IfSome pick (λ (put : InProxy × Message). Same s put.0)

pick_same : (s : InProxy) (pick : Pick) → PickIsSame s pick → PickGoes s pick
pick_same s None h = tt
pick_same s (Some put) h = goes_same s put.0 h

or_goes : (s : InProxy) (a b : Pick) → PickGoes s a → PickGoes s b → PickGoes s (or_else a b)
or_goes s None b first later = later
or_goes s (Some pick) b first later = first

first_same : (s : InProxy) → PickIsSame s (put_first s)
first_same s = search rules

told_same : (s : InProxy) (z : Successor)
    → PickIsSame (with_successor s z) (told_by (with_successor s z) z)
told_same s (Joined leg (TellsServer n)) = search rules
told_same s z = tt

less_same : (z : Successor) → is_succeeded (one_less z) ≡ is_succeeded z
less_same (Joined leg (TellsServer n)) = refl
less_same z = refl

waiting_same : (s : InProxy) (dues : List Due) → PickIsSame s (waiting_by s dues)
waiting_same s [] = tt
waiting_same s (due ∷ dues) =
    ap (λ b. record { number = s.current.number; succeeded = b }) (less_same s.successor)

acks_same : (s : InProxy) → PickGoes s (put_acks s)
acks_same s =
    or_goes s (current_ack s) (next_ack s s.successor) (pick_same s (current_ack s) (search rules))
    (pick_same s (next_ack s s.successor) (search rules))

pdu_goes : (s : InProxy) (pdus : List (List ℕ)) → AreNumbered s → PickGoes s (next_pdu s pdus)
pdu_goes s [] are = tt
pdu_goes s (bytes ∷ pdus) are =
    by_test (PickGoes s) (may_send s.window (length bytes))
    (Some (passed s (length bytes), Pdu bytes)) None
    (λ e. follows_goes s.current s.successor (line.after_take s.line).has_next are.behind)
    (λ e. tt)

mark_same : (s : InProxy) → PickIsSame s (put_mark s)
mark_same s = search rules

ping_same : (s : InProxy) → PickIsSame s (put_ping s)
ping_same s = search rules

next_goes : (s : InProxy) → AreNumbered s → PickGoes s (next s)
next_goes s are =
    or_goes s (put_control s) (put_stream s)
    (or_goes s (put_early s) (put_acks s)
    (or_goes s (put_first s) _ (pick_same s (put_first s) (first_same s))
    (or_goes s (put_in_r2_a2 s) (put_waiting s)
    (pick_same s (put_in_r2_a2 s) (told_same s s.successor))
    (pick_same s (put_waiting s) (waiting_same s s.waiting.due))))
    (acks_same s))
    (or_goes s (put_pdu s) (put_behind s) (pdu_goes s s.line.current.pdus are)
    (or_goes s (put_mark s) (put_ping s) (pick_same s (put_mark s) (mark_same s))
    (pick_same s (put_ping s) (ping_same s))))

settled_same : (s : InProxy) → Same s (settled s)
settled_same s = search rules

settled_goes : (s : InProxy) (pick : Pick) → PickGoes s pick → PickGoes s (settled_pick pick)
settled_goes s None goes = tt
settled_goes s (Some (t, message)) goes =
    subst (λ (x : Said). far (said s) ≤ far x) (sym (settled_same t)) goes

put_goes : (s : InProxy) (leg : Leg) → AreNumbered s → PickGoes s (put s leg)
put_goes s leg are =
    by_test (PickGoes s) (is_client_leg leg) (put_echo s leg.number)
    (if is_server_leg s leg then settled_pick (next s) else None)
    (λ e. pick_same s (put_echo s leg.number) (search rules))
    (λ e. by_test (PickGoes s) (is_server_leg s leg) (settled_pick (next s)) None
    (λ f. settled_goes s (next s) (next_goes s are)) (λ f. tt))

put_done : (s : InProxy) (pick : Pick) → PickGoes s pick
    → IfSome pick (λ (put : InProxy × Message). StaysDone proxy_rules s put.0)
put_done s None goes = tt
put_done s (Some put) goes = goes_done s put.0 goes

-- ---- legs that are lost or drawn

lost_same : (s : InProxy) (leg : Leg) → Same s (mark s leg)
lost_same s leg =
    settled_same (if is_newest s leg then record s { newest_lost = true } else s)
    ∙ by_test (Same s) (is_newest s leg) (record s { newest_lost = true }) s (λ e. refl) (λ e. refl)

drawn_keeps : (s : InProxy) (leg : Leg) → Keeps proxy_rules s (drawn s leg)
drawn_keeps s leg =
    by_test (Keeps proxy_rules s) (is_client_leg leg) (drawn_by s s.work leg.number) s
    (λ e. by s.work) (λ e. self)
  where
    self : Keeps proxy_rules s s
    self = record { ended = λ e. e; done = λ other e. e }

    by : (work : Work) → Keeps proxy_rules s (drawn_by s work leg.number)
    by (works.EchoPut on) =
        by_test (Keeps proxy_rules s) (on == leg.number) (record s { work = works.Done }) s
        (λ e. record { ended = λ o. refl; done = λ other o. o }) (λ e. self)
    by work = self

ping_keeps : (s : InProxy) (leg : Leg) → Keeps proxy_rules s (ping s leg)
ping_keeps s leg =
    by_test (Keeps proxy_rules s) (is_server_leg s leg) (record s { ping_due = true }) s
    (λ e. record { ended = λ o. o; done = λ other o. o })
    (λ e. record { ended = λ o. o; done = λ other o. o })

-- ---- the law

pub in_proxy_keeps : ComesUpOnce proxy_rules AreNumbered → RoleKeeps proxy_rules AreNumbered
in_proxy_keeps once = record {
  kept = once.kept;
  up = λ s leg cookie other are work may e.
      goes_done s (up s leg) (goes_same s (up s leg) (up_same s leg)) other;
  head = λ s leg text are may.
      let t = (head s leg text).0 in goes_done s t (goes_same s t (search rules));
  pdu = λ s leg count bytes are may.
      let t = (pdu s leg count bytes).0 in goes_done s t (goes_same s t (search rules));
  packet = λ s leg count named are may.
      goes_done s (packet s leg count named).0 (packet_goes s leg count named are);
  put = λ s leg are may. put_done s (put s leg) (put_goes s leg are);
  drawn = λ s leg are. drawn_keeps s leg;
  mark = λ s leg are work may.
      goes_done s (mark s leg) (goes_same s (mark s leg) (lost_same s leg));
  ping = λ s leg are. ping_keeps s leg;
}
