-- an in proxy that lost its newest ci leg behind IN_R1/A5 alone
use Rattle.law_order.proofs.Vocabulary.{◌≡◌, ◌&&◌, ◌||◌, ◌==◌, ℕ, Bool, true, false, true≢false, not, List, [], ◌∷◌, Some, None, Ok, Err, nat_le, refl, sym, ◌∙◌, subst, and_parts, All-nil, if◌then◌else◌, IfSome, Result}
use Rattle.rh_sig.specs.declared.named.Named.TheVariants as packets
use Rattle.rh_inproxy.specs.Machine.{first_node}
use Rattle.rh_inproxy.specs.declared.state.Work.TheVariants as works
use Rattle.law_moves.proofs.Vocabulary.{by_test, Named, ConnB3, InR1B1, InR1B2, request_verdict, greatest_echo, Asked, HttpFault, HeadRefused, HeadTaken, Leg, Count, Message, Pdu, Packet, Row, Rules, Shell, put_by, taken_by, AreAllowed, MayMove, Move, Up, HeadCame, PduCame, PacketCame, Puts, IsDrawn, Marks, Pings, Passage, started, moved, all_moved, Event, AreHeld, IsHeld, Follows, after_event, after_events}
use Rattle.law_role_inproxy.proofs.Vocabulary.{InProxyConfig, Work, Done, Pick, taken, unexpected, InProxy, has_come, has_passed, is_client_leg, is_server_leg, channel_asked, echo_asked, head_by, drawn, drawn_by, echo_by, is_newest, is_over, settled, settled_pick, mark, on_ci, on_is, on_conn_b3, on_in_r1_b2, on_ack, pdu, packet, ping, put_echo, next, put as put_of, rules as proxy_rules}
use Rattle.law_role_marks.specs.Marks.{marks_handed}
use Rattle.law_node_marks.specs.Losing.{AgreeOn, AllAgree, marking}
use Rattle.law_node_marks.proofs.InProxyRows.{ci_kept, next_kept, pdu_kept, same_ack, same_b2, same_conn_b3, same_kept, up_kept}
use Rattle.law_node_marks.proofs.InProxyRows as rows
use Rattle.law_node_lasting.proofs.EventMoves.{event_follows}

-- however far the work is
abbrev anyhow : Work → Type 0
anyhow w = Unit {0}

abbrev pub Handed : InProxy → Type 0
Handed = rows.Kept (Unit {0}) anyhow

abbrev handed_rules : Rules InProxy
handed_rules = marking proxy_rules marks_handed

-- only the work changes
working : (s : InProxy) (w : Work) → Handed s → Handed (record s { work = w })
working s w h = record { handed = h.handed; work = tt }

-- ---- rows

head_handed : (s : InProxy) (n : ℕ) (verdict : Result Asked HttpFault) → Handed s
    → Handed (head_by s n verdict).0
head_handed s n (Err fault) h = h
head_handed s n (Ok request) h =
    by_test (λ (x : InProxy × Result HeadTaken HeadRefused). Handed x.0)
    (nat_le request.length greatest_echo) (echo_asked s n request) (channel_asked s request)
    (λ e. working s (works.EchoDue n) h)
    (λ e. same_kept (Unit {0}) anyhow s (channel_asked s request).0 refl h)

is_handed : (s : InProxy) (m : Named) → Handed s → Handed (on_is s m).0
is_handed s (ConnB3 size version) h =
    same_kept (Unit {0}) anyhow s (on_conn_b3 s size).0 (same_conn_b3 s size) h
is_handed s (InR1B2 size) h =
    same_kept (Unit {0}) anyhow s (on_in_r1_b2 s size).0 (same_b2 s size) h
is_handed s InR1B1 h =
    by_test (λ (x : Done). Handed x.0) (has_passed s.handover)
    (taken (record s { work = works.Done })) (unexpected s) (λ e. working s works.Done h) (λ e. h)
is_handed s (packets.Ack received available channel) h =
    same_kept (Unit {0}) anyhow s (on_ack s received available channel).0
    (same_ack s received available channel) h
is_handed s m h = h

packet_handed : (s : InProxy) (leg : Leg) (count : Count) (m : Named) → Handed s
    → Handed (packet s leg count m).0
packet_handed s leg count m h =
    by_test (λ (x : Done). Handed x.0) (is_client_leg leg) (on_ci s leg.number m)
    (if is_server_leg s leg then on_is s m else unexpected s)
    (λ e. ci_kept (Unit {0}) anyhow s leg.number m h)
    (λ e. by_test (λ (x : Done). Handed x.0) (is_server_leg s leg) (on_is s m) (unexpected s)
    (λ f. is_handed s m h) (λ f. h))

-- ---- what is put

settled_handed : (s : InProxy) → Handed s → Handed (settled s)
settled_handed s h =
    by_test Handed (is_over s) (record s { work = works.Done }) s (λ e. working s works.Done h)
    (λ e. h)

abbrev PutHanded : Pick → Type 0
PutHanded pick = IfSome pick (λ (one : InProxy × Message). Handed one.0)

settled_put : (pick : Pick) → PutHanded pick → PutHanded (settled_pick pick)
settled_put None h = tt
settled_put (Some one) h = settled_handed one.0 h

echo_handed : (s : InProxy) (w : Work) (n : ℕ) → Handed s → PutHanded (echo_by s w n)
echo_handed s works.Underway n h = tt
echo_handed s (works.EchoDue asked_on) n h =
    by_test PutHanded (asked_on == n) _ None (λ e. working s (works.EchoPut asked_on) h) (λ e. tt)
echo_handed s (works.EchoPut asked_on) n h = tt
echo_handed s works.Done n h = tt

puts_handed : (s : InProxy) (leg : Leg) → Handed s → PutHanded (put_of s leg)
puts_handed s leg h =
    by_test PutHanded (is_client_leg leg) (put_echo s leg.number)
    (if is_server_leg s leg then settled_pick (next s) else None)
    (λ e. echo_handed s s.work leg.number h)
    (λ e. by_test PutHanded (is_server_leg s leg) (settled_pick (next s)) None
    (λ f. settled_put (next s) (next_kept (Unit {0}) anyhow s h)) (λ f. tt))

-- ---- legs are drawn and lost, and Pings become due

drawn_handed : (s : InProxy) (leg : Leg) → Handed s → Handed (drawn s leg)
drawn_handed s leg h =
    by_test Handed (is_client_leg leg) (drawn_by s s.work leg.number) s (λ e. by s.work)
    (λ e. h)
  where
    by : (w : Work) → Handed (drawn_by s w leg.number)
    by works.Underway = h
    by (works.EchoDue asked_on) = h
    by (works.EchoPut asked_on) =
        by_test Handed (asked_on == leg.number) (record s { work = works.Done }) s
        (λ e. working s works.Done h) (λ e. h)
    by works.Done = h

mark_handed : (s : InProxy) (leg : Leg) → marks_handed s leg ≡ true → Handed s
    → Handed (mark s leg)
mark_handed s leg marks h =
    settled_handed (if is_newest s leg then record s { newest_lost = true } else s)
    (by_test Handed (is_newest s leg) (record s { newest_lost = true }) s
    (λ e. record {
      handed = λ any lost.
          newest (is_newest s leg) (has_come s.handover) e
          (and_parts (proxy_rules.only_marks s leg)
          (not (is_newest s leg) || has_come s.handover) marks).1;
      work = tt;
    })
    (λ e. h))
  where
    newest : (a b : Bool) → a ≡ true → (not a || b) ≡ true → b ≡ true
    newest true b e so = so
    newest false b e so = absurd (true≢false (sym e))

ping_handed : (s : InProxy) (leg : Leg) → Handed s → Handed (ping s leg)
ping_handed s leg h =
    by_test Handed (is_server_leg s leg) (record s { ping_due = true }) s
    (λ e. record { handed = h.handed; work = tt }) (λ e. h)

-- ---- moves

row_handed : (p : Passage InProxy) (leg : Leg) (m : Message) (x : InProxy × Row) → Handed x.0
    → Handed (taken_by p leg m x).role
row_handed p leg m (s, Ok taken) h = h
row_handed p leg m (s, Err refused) h = h

put_handed : (p : Passage InProxy) (leg : Leg) (pick : Pick) → Handed p.role → PutHanded pick
    → Handed (put_by p leg pick).role
put_handed p leg None h goes = h
put_handed p leg (Some one) h goes = goes

move_handed : (p : Passage InProxy) (move : Move) → MayMove handed_rules p.role move
    → Handed p.role → Handed (moved handed_rules p move).role
move_handed p (Up leg cookie) may h = up_kept (Unit {0}) anyhow p.role leg h
move_handed p (HeadCame leg text) may h =
    head_handed p.role leg.number (request_verdict true text) h
move_handed p (PduCame leg count bytes) may h =
    row_handed p leg (Pdu bytes) (pdu p.role leg count bytes)
    (pdu_kept (Unit {0}) anyhow p.role leg count bytes h)
move_handed p (PacketCame leg count m) may h =
    row_handed p leg (Packet m) (packet p.role leg count m) (packet_handed p.role leg count m h)
move_handed p (Puts leg) may h =
    put_handed p leg (put_of p.role leg) h (puts_handed p.role leg h)
move_handed p (IsDrawn leg) may h = drawn_handed p.role leg h
move_handed p (Marks leg) may h = mark_handed p.role leg may.1 h
move_handed p (Pings leg) may h = ping_handed p.role leg h

moves_handed : (p : Passage InProxy) (moves : List Move) → AreAllowed handed_rules p moves
    → Handed p.role → Handed (all_moved handed_rules p moves).role
moves_handed p [] may h = h
moves_handed p (move ∷ moves) may h =
    moves_handed (moved handed_rules p move) moves may.1 (move_handed p move may.0 h)

-- ---- events

module _ (same : (node : Shell InProxy) (event : Event)
    → AgreeOn proxy_rules marks_handed node.role event
    → after_event handed_rules node event ≡ after_event proxy_rules node event) where
  record At (s : Shell InProxy) : Type 0 where
    held : AreHeld s
    handed : Handed s.role

  event_at : (s : Shell InProxy) (event : Event) → AgreeOn proxy_rules marks_handed s.role event
      → At s → At (after_event proxy_rules s event)
  event_at s event agree h =
      subst At (same s event agree) (record {
        held = f.held;
        handed =
            subst Handed f.role
            (subst (λ (q : Passage InProxy). Handed q.role) f.leads.reached
            (moves_handed (started s.role) f.leads.moves f.leads.allowed h.handed));
      })
    where
      f : Follows handed_rules (started s.role) (after_event handed_rules s event)
      f = event_follows handed_rules (started s.role) s refl h.held event

  events_at : (s : Shell InProxy) (events : List Event)
      → AllAgree proxy_rules marks_handed s events → At s → At (after_events proxy_rules s events)
  events_at s [] agree h = h
  events_at s (event ∷ events) agree h =
      events_at (after_event proxy_rules s event) events agree.1 (event_at s event agree.0 h)

  pub handed_behind : (config : InProxyConfig) (events : List Event)
      → AllAgree proxy_rules marks_handed (first_node config) events
      → (let s = (after_events proxy_rules (first_node config) events).role in
      s.newest_lost ≡ true → has_come s.handover ≡ true)
  handed_behind config events agree =
      (events_at (first_node config) events agree (record {
        held = All-nil IsHeld;
        handed = record { handed = λ any lost. absurd (true≢false (sym lost)); work = tt };
      })).handed.handed tt
