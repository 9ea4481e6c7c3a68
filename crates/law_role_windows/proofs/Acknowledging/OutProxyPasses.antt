-- an out proxy passes on the acknowledgements of an in proxy
use Rattle.law_order.proofs.Vocabulary.{◌≡◌, ℕ, ◌==◌, Bool, true, false, ◌&&◌, List, [], ◌∷◌, ◌++◌, Some, None, refl, sym, rules, subst, and_parts, eqb-true, if◌then◌else◌, AllByRecursion, Option}
use Rattle.rh_sig.specs.declared.named.Named.TheVariants as named
use Rattle.rh_shell.specs.Waiting as waits
use Rattle.rh_outproxy.specs.declared.state.Answer.{Answer}
use Rattle.rh_outproxy.specs.declared.state.Channel.{Channel}
use Rattle.rh_outproxy.specs.declared.state.OutProxyConfig.{OutProxyConfig}
use Rattle.rh_outproxy.specs.OutProxy.{OutProxy, is_client_marked, is_server_first, joined, new_proxy}
use Rattle.rh_outproxy.specs.Rows.{Done, is_co, is_os, is_carrying, taken, unexpected, forwarded, forwarded_by, passed_on}
use Rattle.rh_outproxy.specs.Opening.{up, head, conn_c1_by, first_packet}
use Rattle.rh_outproxy.specs.Acknowledging.{on_ack, on_ack_to, ack_due}
use Rattle.rh_outproxy.specs.Ending.{drawn, mark, on_end_b1}
use Rattle.rh_outproxy.specs.OutReplacement.{on_out_r1_a9}
use Rattle.rh_outproxy.specs.Putting.{Pick, or_else, answer_by, put_answer, waiting_by, put_waiting, pdu_by, put_pdu, put_end, put_handover, put_mark, put_ping, next_co, first_by, put_first, ack_by, put_ack, next_os, put as put_of}
use Rattle.rh_outproxy.specs.Machine.{pdu, packet, on_co, on_os, rules as proxy_rules}
use Rattle.rh_outproxy.specs.declared.state.Channel.TheVariants as channels
use Rattle.law_moves.proofs.Vocabulary.{Ack, by_test, Cookie, TO_OUT_PROXY, Named, Leg, OutServer, Count, Due, Pdu, Packet, is_of, OnLeg, Move, started, all_moved, HasOn}
use Rattle.law_moves.proofs.Lemmas.{RowKeeps, PutKeeps, StepsKeep, moves_keep}
use Rattle.law_role_windows.proofs.Acknowledging.Waiting.{EachIs, Joins, forwarded_joins}
use Rattle.law_role_windows.proofs.Acknowledging.Sources.{IsFrom, has_on_last, tells_on_last, from_stays}
use Rattle.law_role_windows.proofs.Acknowledging.Passing.{Of, each_stays, put_one}
use Rattle.law_role_windows.proofs.Acknowledging.Passing as passing
use Rattle.law_role_windows.specs.Acknowledging.Acks.{OfPacket}
use Rattle.law_role_windows.specs.Acknowledging.Windows.{ByConnC1, ByInR1A3}

abbrev waiting : OutProxy → waits.Waiting
waiting s = s.waiting

module _ (to : ℕ) where
  abbrev Is : Of Named
  Is = IsFrom OutServer to 0

  abbrev Sound : Of waits.Waiting
  Sound came w = EachIs (Is came) w.due

  abbrev Holds : OutProxy → List OnLeg → List OnLeg → Type 0
  Holds = passing.Holds waiting Is Sound

  abbrev Same : OutProxy → OutProxy → Type 0
  Same = passing.Same waiting Is Sound

  sound_stays : (came : List OnLeg) (one : OnLeg) (w : waits.Waiting) → Sound came w
      → Sound (came ++ one ∷ []) w
  sound_stays came one w h = each_stays Is (from_stays OutServer to 0) came one w.due h

  same_holds : (s t : OutProxy) (came put : List OnLeg) → Same s t → Holds s came put
      → Holds t came put
  same_holds = passing.same_holds waiting Is Sound

  -- ---- what leaves these alone

  same_up : (s : OutProxy) (leg : Leg) (cookie : Cookie) → Same s (up s leg cookie)
  same_up s leg cookie = search rules

  same_head : (s : OutProxy) (leg : Leg) (text : List ℕ) → Same s (head s leg text).0
  same_head s leg text = search rules

  same_pdu : (s : OutProxy) (leg : Leg) (count : Count) (bytes : List ℕ)
      → Same s (pdu s leg count bytes).0
  same_pdu s leg count bytes = search rules

  same_co : (s : OutProxy) (count : Count) (named : Named) → Same s (on_co s count named).0
  same_co s count named = search rules

  same_ack : (s : OutProxy) (received available : ℕ) (channel : Cookie)
      → Same s (on_ack s received available channel).0
  same_ack s received available channel = search rules

  same_a9 : (s : OutProxy) → Same s (on_out_r1_a9 s).0
  same_a9 s = search rules

  same_end : (s : OutProxy) → Same s (on_end_b1 s).0
  same_end s = search rules

  same_drawn : (s : OutProxy) (leg : Leg) → Same s (drawn s leg)
  same_drawn s leg = search rules

  same_mark : (s : OutProxy) (leg : Leg) → Same s (mark s leg)
  same_mark s leg = search rules

  -- ---- rows

  module _ (leg : Leg) (m : Named) (came put : List OnLeg) where
    abbrev Row : Done → Type 0
    Row x = RowKeeps Holds (leg, Packet m) came put x

    abbrev after : List OnLeg
    after = came ++ (leg, Packet m) ∷ []

    same_row : (s : OutProxy) → Holds s came put → (x : Done) → Same s x.0 → Row x
    same_row s h =
        passing.same_row waiting Is Sound (from_stays OutServer to 0) sound_stays s (leg, Packet m)
        came put h

    -- a packet is to be forwarded, or dropped
    forward_row : (s : OutProxy) → Holds s came put → (named : Named) → Is after named
        → Row (forwarded s named)
    forward_row s h named is =
        by_test Row (is_client_marked s.client) (taken s)
        (forwarded_by s (waits.forwarded s.waiting named)) (λ t. k)
        (λ t. by (waits.forwarded s.waiting named) (forwarded_joins (Is after) s.waiting named))
      where
        k : Holds s after put
        k = same_row s h (taken s) refl

        by : (r : waits.Waiting × Bool) → Joins (Is after) named s.waiting r
            → Row (forwarded_by s r)
        by (w, true) joins = (joins is k.0, k.1)
        by (w, false) same =
            subst (λ (v : waits.Waiting). Holds (record s { waiting = v }) came put) (sym same) h

    passed_row : (s : OutProxy) → Holds s came put → (destination : ℕ) (named : Named)
        → (destination ≡ 0 → Is after named) → Row (passed_on s destination named)
    passed_row s h destination named is =
        by_test Row (is_carrying s && (destination == 0)) (forwarded s named) (unexpected s)
        (λ t. forward_row s h named
        (is (eqb-true destination 0 (and_parts (is_carrying s) (destination == 0) t).1)))
        (λ t. h)

    c1_row : (s : OutProxy) → Holds s came put → (channel : Channel) (version size timeout : ℕ)
        → Is after (named.ConnC2 version size timeout)
        → Row (conn_c1_by channel s version size timeout)
    c1_row s h channels.Unknown version size timeout is = h
    c1_row s h (channels.New connection cookie) version size timeout is =
        forward_row (record s { channel = channels.Joined connection cookie }) h
        (named.ConnC2 version size timeout) is
    c1_row s h (channels.Joined connection cookie) version size timeout is = h
    c1_row s h (channels.Successor connection predecessor cookie) version size timeout is = h

  ack_row : (s : OutProxy) (leg : Leg) (destination received available : ℕ) (channel : Cookie)
      (came put : List OnLeg) → is_of OutServer leg ≡ true → Holds s came put
      → Row leg (named.AckTo destination received available channel) came put
      (on_ack_to s destination received available channel)
  ack_row s leg destination received available channel came put on h =
      by_test (Row leg m came put) (destination == TO_OUT_PROXY)
      (on_ack s received available channel)
      (passed_on s destination (named.AckTo 0 received available channel))
      (λ t. same_row leg m came put s h (on_ack s received available channel)
      (same_ack s received available channel))
      (λ t. passed_row leg m came put s h destination
      (named.AckTo 0 received available channel) (λ is same. here is))
    where
      m : Named
      m = named.AckTo destination received available channel

      here : destination ≡ 0
          → HasOn OutServer (named.AckTo 0 received available channel)
          (came ++ (leg, Packet m) ∷ [])
      here is =
          subst (λ (n : ℕ).
          HasOn OutServer (named.AckTo n received available channel)
          (came ++ (leg, Packet m) ∷ [])) is
          (has_on_last OutServer leg m came on)

  os_row : (s : OutProxy) (leg : Leg) (m : Named) (came put : List OnLeg)
      → is_of OutServer leg ≡ true → Holds s came put → Row leg m came put (on_os s m)
  os_row s leg (named.ConnC1 version size timeout) came put on h =
      c1_row leg (named.ConnC1 version size timeout) came put s h s.channel version size timeout
      (tells_on_last ByConnC1 OutServer size leg (named.ConnC1 version size timeout) came on refl)
  os_row s leg (named.AckTo destination received available channel) came put on h =
      ack_row s leg destination received available channel came put on h
  os_row s leg (named.InR1A3 destination version size timeout) came put on h =
      passed_row leg (named.InR1A3 destination version size timeout) came put s h destination
      (named.InR1A4 0 version size timeout)
      (λ is. tells_on_last ByInR1A3 OutServer size leg
      (named.InR1A3 destination version size timeout) came on refl)
  os_row s leg (named.InR2A3 destination) came put on h =
      passed_row leg (named.InR2A3 destination) came put s h destination (named.InR2A4 0)
      (λ is. tt)
  os_row s leg (named.OutR1A1 destination) came put on h =
      passed_row leg (named.OutR1A1 destination) came put s h destination (named.OutR1A2 0)
      (λ is. tt)
  os_row s leg (named.OutR1A5 destination version timeout) came put on h =
      passed_row leg (named.OutR1A5 destination version timeout) came put s h destination
      (named.OutR1A6 0 version timeout) (λ is. tt)
  os_row s leg named.OutR1A9 came put on h =
      same_row leg named.OutR1A9 came put s h (on_out_r1_a9 s) (same_a9 s)
  os_row s leg named.EndB1 came put on h =
      same_row leg named.EndB1 came put s h (on_end_b1 s) (same_end s)
  os_row s leg m came put on h = h

  packet_row : (s : OutProxy) (leg : Leg) (count : Count) (m : Named) (came put : List OnLeg)
      → Holds s came put → Row leg m came put (packet s leg count m)
  packet_row s leg count m came put h =
      by_test (Row leg m came put) (is_co s leg) (on_co s count m)
      (if is_os s leg then on_os s m else unexpected s)
      (λ t. same_row leg m came put s h (on_co s count m) (same_co s count m))
      (λ t. by_test (Row leg m came put) (is_os s leg) (on_os s m) (unexpected s)
      (λ u. os_row s leg m came put
      (and_parts (is_of OutServer leg) (s.config.number == leg.number) u).0 h) (λ u. h))

  -- ---- what is put

  module _ (leg : Leg) (came put : List OnLeg) where
    abbrev Puts : Pick → Type 0
    Puts pick = PutKeeps Holds leg came put pick

    abbrev Quiet : OutProxy → Pick → Type 0
    Quiet = passing.Quiet waiting Is Sound came leg

    quiet_put : (s : OutProxy) (pick : Pick) → Quiet s pick → Holds s came put → Puts pick
    quiet_put = passing.quiet_put waiting Is Sound leg came put

    or_put : (a b : Pick) → Puts a → Puts b → Puts (or_else a b)
    or_put None b h k = k
    or_put (Some pick) b h k = h

    quiet_answer : (s : OutProxy) (a : Answer) → Quiet s (answer_by a s)
    quiet_answer s a = search rules

    quiet_pdu : (s : OutProxy) (pdus : List (List ℕ)) → Quiet s (pdu_by s pdus)
    quiet_pdu s pdus = search rules

    quiet_end : (s : OutProxy) → Quiet s (put_end s)
    quiet_end s = search rules

    quiet_handover : (s : OutProxy) → Quiet s (put_handover s)
    quiet_handover s = search rules

    quiet_ping : (s : OutProxy) → Quiet s (put_ping s)
    quiet_ping s = search rules

    quiet_first : (s : OutProxy) (c : Channel) → Quiet s (first_by s (first_packet s c))
    quiet_first s c = search rules

    quiet_ack : (s : OutProxy) (o : Option Cookie) (a : Option Ack) → Quiet s (ack_by s o a)
    quiet_ack s o a = search rules

    waiting_put : (s : OutProxy) (dues : List Due) → EachIs (Is came) dues → Holds s came put
        → Puts (waiting_by s dues)
    waiting_put s [] all h = tt
    waiting_put s (due ∷ dues) all h =
        let w = waits.with_due s.waiting dues in
        put_one waiting Is Sound (record s { waiting = w }) came put (leg, Packet due.packet) all.0
        (all.1, h.1)

    co_put : (s : OutProxy) → Holds s came put → Puts (next_co s)
    co_put s h =
        or_put (put_answer s) _ (quiet_put s (put_answer s) (quiet_answer s s.answer) h)
        (or_put (put_waiting s) _ (waiting_put s s.waiting.due h.0 h)
        (or_put (put_pdu s) _ (quiet_put s (put_pdu s) (quiet_pdu s s.line.current.pdus) h)
        (or_put (put_mark s) (put_ping s)
        (or_put (put_end s) (put_handover s) (quiet_put s (put_end s) (quiet_end s) h)
        (quiet_put s (put_handover s) (quiet_handover s) h))
        (quiet_put s (put_ping s) (quiet_ping s) h))))

    first_packet_put : (s : OutProxy) → Holds s came put → Puts (put_first s)
    first_packet_put s h =
        by_test Puts (is_server_first s.server) (first_by s (first_packet s s.channel)) None
        (λ t. quiet_put s (first_by s (first_packet s s.channel)) (quiet_first s s.channel) h)
        (λ t. tt)

    os_put : (s : OutProxy) → Holds s came put → Puts (next_os s)
    os_put s h =
        or_put (put_first s) (put_ack s) (first_packet_put s h)
        (quiet_put s (put_ack s) (quiet_ack s (joined s.channel) (ack_due s)) h)

    puts : (s : OutProxy) → Holds s came put → Puts (put_of s leg)
    puts s h =
        by_test Puts (is_co s leg) (next_co s) (if is_os s leg then next_os s else None)
        (λ t. co_put s h)
        (λ t. by_test Puts (is_os s leg) (next_os s) None (λ u. os_put s h) (λ u. tt))

  -- ---- the role

  keeps : StepsKeep proxy_rules Holds
  keeps = record {
    up = λ s leg cookie came put.
        same_holds s (up s leg cookie) came put (same_up s leg cookie);
    head = λ s leg text came put.
        same_holds s (head s leg text).0 came put (same_head s leg text);
    pdu = λ s leg count bytes came put h.
        passing.same_row waiting Is Sound (from_stays OutServer to 0) sound_stays s
        (leg, Pdu bytes) came put h (pdu s leg count bytes) (same_pdu s leg count bytes);
    packet = packet_row;
    put = λ s leg came put. puts leg came put s;
    drawn = λ s leg came put.
        same_holds s (drawn s leg) came put (same_drawn s leg);
    mark = λ s leg came put.
        same_holds s (mark s leg) came put (same_mark s leg);
    ping = λ s leg came put h. h;
  }

-- behind all moves
pub out_proxy_from : (config : OutProxyConfig) (moves : List Move) (to : ℕ)
    → AllByRecursion
    (OfPacket (IsFrom OutServer to 0
    (all_moved proxy_rules (started (new_proxy config)) moves).came))
    (all_moved proxy_rules (started (new_proxy config)) moves).put
out_proxy_from config moves to =
    (moves_keep proxy_rules (Holds to) (keeps to) (started (new_proxy config)) moves
    (tt, tt)).1
