-- each step of an out proxy keeps the greatest edge of those that are to be passed to its client
use Rattle.law_order.proofs.Vocabulary.{◌≡◌, ◌≢◌, ℕ, ◌==◌, ◌≤◌, ◌+◌, Bool, true, false, true≢false, ◌&&◌, List, [], ◌∷◌, Some, None, Ok, Err, arith, refl, sym, ◌∙◌, subst, and_parts, eqb-true, if◌then◌else◌, IfSome, bytes_eq, nat_tests}
use Rattle.rh_sig.specs.declared.named.Named.TheVariants as named
use Rattle.rh_shell.specs.Waiting as waits
use Rattle.rh_outproxy.specs.declared.state.Answer.TheVariants as answers
use Rattle.rh_outproxy.specs.declared.state.Channel.TheVariants as channels
use Rattle.rh_outproxy.specs.declared.state.ClientLeg.{ClientLeg}
use Rattle.rh_outproxy.specs.declared.state.ClientLeg.TheVariants as clients
use Rattle.rh_outproxy.specs.declared.state.ServerLeg.TheVariants as servers
use Rattle.law_moves.proofs.Vocabulary.{by_test, Cookie, TO_OUT_PROXY, Named, Leg, Count, Due, Message, Pdu, Packet, OnLeg, Move, Waiting, Key, started, all_moved, AreAllowed}
use Rattle.law_moves.proofs.Lemmas.{PutKeeps, RowKeeps, allowed_rise}
use Rattle.law_moves.specs.Merging.{Raises, greatest, told}
use Rattle.law_role_outproxy.proofs.Vocabulary.{Channel, OutProxyConfig, OutProxy, is_client_marked, new_proxy, Done, taken, is_carrying, is_co, is_os, unexpected, forwarded, forwarded_by, passed_on, head, conn_c1_by, on_ack, on_ack_to, on_out_r1_a9, drawn, mark, on_end_b1, Pick, or_else, put_answer, waiting_by, put_waiting, put_pdu, put_end, put_handover, put_mark, put_ping, next_co, next_os, put as put_of, pdu, packet, on_co, on_os, rules as proxy_rules}
use Rattle.law_role_edges.proofs.Beside.{KeepBeside, moves_keep_beside}
use Rattle.law_role_edges.proofs.Greatest.{Keeps, came_more, greatest_last, kept_more, put_more}
use Rattle.law_role_edges.proofs.OutKnows.{Holds as Knows, knows_always, knows_first}
use Rattle.law_role_edges.proofs.OutLegs.{MayUp, up_has_client}
use Rattle.law_role_edges.proofs.OutViews.{Seen, Same, quiet_answer, quiet_end, quiet_front, quiet_handover, quiet_os, quiet_ping, same_a9, same_co, same_drawn, same_end, same_head, same_on_ack, same_pdu, same_ping}
use Rattle.law_role_edges.specs.Forwarding.{PassesToClient}
use Rattle.law_role_edges.specs.Passing.{told_in}

module _ (raising : (w : Waiting) (packet : Named) (key : Key) → Raises w packet key)
    (key : Key) (other : key.destination ≢ TO_OUT_PROXY) where
  -- as long as the client's leg was not lost
  abbrev HoldsOf : ClientLeg → Waiting → List OnLeg → List OnLeg → Type 0
  HoldsOf client w came put = is_client_marked client ≡ false → Keeps key w.due came put

  abbrev Holds : OutProxy → List OnLeg → List OnLeg → Type 0
  Holds s came put = HoldsOf s.client s.waiting came put

  same_holds : (s t : OutProxy) (came put : List OnLeg) → Same s t → Holds s came put
      → Holds t came put
  same_holds s t came put same h =
      subst (λ (x : Seen). HoldsOf x.client x.waiting came put) (sym same) h

  -- ---- what comes

  module _ (s : OutProxy) (leg : Leg) (came put : List OnLeg) (h : Holds s came put) where
    abbrev Row : Message → Done → Type 0
    Row m x = RowKeeps Holds (leg, m) came put x

    -- a row that leaves these alone takes what tells none
    same_row : (m : Message) (x : Done) → told_in key m ≡ 0 → Same s x.0 → Row m x
    same_row m (t, Ok taken) none same = λ free.
        came_more key t.waiting.due t.waiting.due came put (leg, m) (omega arith)
        (omega (arith, none)) (same_holds s t came put same h free)
    same_row m (t, Err why) none same = same_holds s t came put same h

    -- one that is to be forwarded as another, which tells as much
    forwarded_row : (t : OutProxy) (m as_other : Named) → Same s t
        → told key m ≤ told key as_other → Row (Packet m) (forwarded t as_other)
    forwarded_row t m as_other same tells =
        by_test (Row (Packet m)) (is_client_marked t.client) (taken t)
        (forwarded_by t (waits.forwarded t.waiting as_other))
        (λ e free. absurd (true≢false (sym e ∙ free)))
        (λ e. by (waits.forwarded t.waiting as_other) refl)
      where
        k : Holds t came put
        k = same_holds s t came put same h

        by : (x : Waiting × Bool) → waits.forwarded t.waiting as_other ≡ x
            → Row (Packet m) (forwarded_by t x)
        by (w, true) e = λ free.
            let r = raising t.waiting as_other key in
            let kept = subst (λ (y : Waiting × Bool).
            greatest key t.waiting.due ≤ greatest key y.0.due) e r.kept in
            let reached = subst (λ (y : Waiting × Bool).
            y.1 ≡ true → told key as_other ≤ greatest key y.0.due) e r.reached refl in
            came_more key t.waiting.due w.due came put (leg, Packet m) kept
            (omega (arith, tells, reached)) (k free)
        by (w, false) e = λ free.
            let r = raising t.waiting as_other key in
            let kept = subst (λ (y : Waiting × Bool).
            greatest key t.waiting.due ≤ greatest key y.0.due) e r.kept in
            kept_more key t.waiting.due w.due came put kept (k free)

    passed_row : (m as_other : Named) (to : ℕ) → (to ≡ 0 → told key m ≤ told key as_other)
        → Row (Packet m) (passed_on s to as_other)
    passed_row m as_other to tells =
        by_test (Row (Packet m)) (is_carrying s && (to == 0)) (forwarded s as_other) (unexpected s)
        (λ e. forwarded_row s m as_other refl
        (tells (eqb-true to 0 (and_parts (is_carrying s) (to == 0) e).1)))
        (λ e. h)

    -- ---- acknowledgements

    -- to the proxy itself
    own_tells : (to received available : ℕ) (cookie : Cookie) → to ≡ TO_OUT_PROXY
        → told key (named.AckTo to received available cookie) ≡ 0
    own_tells to received available cookie is =
        by_test (λ (n : ℕ). n ≡ 0)
        ((to == key.destination) && bytes_eq cookie.0 key.channel.0) (received + available) 0
        (λ e. absurd (other (sym (eqb-true to key.destination
        (and_parts (to == key.destination) (bytes_eq cookie.0 key.channel.0) e).0) ∙ is)))
        (λ e. refl)

    ack_row : (to received available : ℕ) (cookie : Cookie)
        → Row (Packet (named.AckTo to received available cookie))
        (on_ack_to s to received available cookie)
    ack_row to received available cookie =
        by_test (Row (Packet (named.AckTo to received available cookie))) (to == TO_OUT_PROXY)
        (on_ack s received available cookie)
        (passed_on s to (named.AckTo 0 received available cookie))
        (λ e. same_row (Packet (named.AckTo to received available cookie))
        (on_ack s received available cookie)
        (own_tells to received available cookie (eqb-true to TO_OUT_PROXY e))
        (same_on_ack s received available cookie))
        (λ e. passed_row (named.AckTo to received available cookie)
        (named.AckTo 0 received available cookie) to
        (λ is. subst (λ (n : ℕ). told key (named.AckTo n received available cookie)
        ≤ told key (named.AckTo 0 received available cookie)) (sym is) (omega arith)))

    -- ---- on the legs

    c1_row : (version size timeout : ℕ) (c : Channel)
        → Row (Packet (named.ConnC1 version size timeout)) (conn_c1_by c s version size timeout)
    c1_row version size timeout channels.Unknown = h
    c1_row version size timeout (channels.New connection cookie) =
        forwarded_row (record s { channel = channels.Joined connection cookie })
        (named.ConnC1 version size timeout) (named.ConnC2 version size timeout) refl (omega arith)
    c1_row version size timeout (channels.Joined connection cookie) = h
    c1_row version size timeout (channels.Successor connection predecessor cookie) = h

    os_row : (m : Named) → Row (Packet m) (on_os s m)
    os_row (named.ConnC1 version size timeout) = c1_row version size timeout s.channel
    os_row (named.AckTo to received available cookie) = ack_row to received available cookie
    os_row (named.InR1A3 to version size timeout) =
        passed_row (named.InR1A3 to version size timeout) (named.InR1A4 0 version size timeout) to
        (λ e. omega arith)
    os_row (named.InR2A3 to) =
        passed_row (named.InR2A3 to) (named.InR2A4 0) to (λ e. omega arith)
    os_row (named.OutR1A1 to) =
        passed_row (named.OutR1A1 to) (named.OutR1A2 0) to (λ e. omega arith)
    os_row (named.OutR1A5 to version timeout) =
        passed_row (named.OutR1A5 to version timeout) (named.OutR1A6 0 version timeout) to
        (λ e. omega arith)
    os_row named.OutR1A9 = same_row (Packet named.OutR1A9) (on_out_r1_a9 s) refl (same_a9 s)
    os_row named.EndB1 = same_row (Packet named.EndB1) (on_end_b1 s) refl (same_end s)
    os_row m = h

    co_row : (count : Count) (m : Named) → Row (Packet m) (on_co s count m)
    co_row count (named.ConnA1 version connection cookie size) =
        same_row (Packet (named.ConnA1 version connection cookie size))
        (on_co s count (named.ConnA1 version connection cookie size)) refl
        (same_co s count (named.ConnA1 version connection cookie size))
    co_row count (named.OutR1A3 version connection predecessor cookie size) =
        same_row (Packet (named.OutR1A3 version connection predecessor cookie size))
        (on_co s count (named.OutR1A3 version connection predecessor cookie size)) refl
        (same_co s count (named.OutR1A3 version connection predecessor cookie size))
    co_row count named.OutR2C1 =
        same_row (Packet named.OutR2C1) (on_co s count named.OutR2C1) refl
        (same_co s count named.OutR2C1)
    co_row count m = h

    packet_row : (count : Count) (m : Named) → Row (Packet m) (packet s leg count m)
    packet_row count m =
        by_test (Row (Packet m)) (is_co s leg) (on_co s count m)
        (if is_os s leg then on_os s m else unexpected s) (λ e. co_row count m)
        (λ e. by_test (Row (Packet m)) (is_os s leg) (on_os s m) (unexpected s) (λ f. os_row m)
        (λ f. h))

    -- ---- what is put

    abbrev Goes : Pick → Type 0
    Goes pick = PutKeeps Holds leg came put pick

    or_put : (a b : Pick) → Goes a → Goes b → Goes (or_else a b)
    or_put None b g k = k
    or_put (Some pick) b g k = g

    quiet_put : (pick : Pick) → IfSome pick (λ (one : OutProxy × Message). Same s one.0)
        → Goes pick
    quiet_put None quiet = tt
    quiet_put (Some one) quiet = λ free.
        put_more key one.0.waiting.due came put (leg, one.1)
        (same_holds s one.0 came put quiet h free)

    waiting_put : (dues : List Due) → s.waiting.due ≡ dues → Goes (waiting_by s dues)
    waiting_put [] e = tt
    waiting_put (due ∷ dues) e = λ free.
        let k = subst (λ (list : List Due). Keeps key list came put) e (h free) in
        let last = greatest_last key put (leg, Packet due.packet) in
        grind (arith, nat_tests, k, last)

    co_put : Goes (next_co s)
    co_put =
        or_put (put_answer s) _ (quiet_put (put_answer s) (quiet_answer s s.answer))
        (or_put (put_waiting s) _ (waiting_put s.waiting.due refl)
        (or_put (put_pdu s) _ (quiet_put (put_pdu s) (quiet_front s s.line.current.pdus))
        (or_put (put_mark s) (put_ping s)
        (or_put (put_end s) (put_handover s) (quiet_put (put_end s) (quiet_end s))
        (quiet_put (put_handover s) (quiet_handover s)))
        (quiet_put (put_ping s) (quiet_ping s)))))

    puts : Goes (put_of s leg)
    puts =
        by_test Goes (is_co s leg) (next_co s) (if is_os s leg then next_os s else None)
        (λ e. co_put)
        (λ e. by_test Goes (is_os s leg) (next_os s) None
        (λ f. quiet_put (next_os s) (quiet_os s)) (λ f. tt))

  -- ---- the role

  mark_row : (s : OutProxy) (leg : Leg) (came put : List OnLeg) → Holds s came put
      → Holds (mark s leg) came put
  mark_row s leg came put h =
      by_test (λ (t : OutProxy). Holds t came put) (is_co s leg)
      (record s { client = clients.Marked }) (record s { server = servers.Marked })
      (λ e free. absurd cc)
      (λ e. h)

  module _ (config : OutProxyConfig) where
    keeps : KeepBeside proxy_rules MayUp (Knows config) Holds
    keeps = record {
      up = λ s leg cookie came put may a h free.
          by_test (λ (t : OutProxy). Keeps key t.waiting.due came put) (is_co s leg)
          (record s { client = clients.Up })
          (record s { server = servers.FirstDue; answer = answers.ResponseDue })
          (λ e. h (up_has_client s leg cookie may free))
          (λ e. h (up_has_client s leg cookie may free));
      head = λ s leg text came put a.
          same_holds s (head s leg text).0 came put (same_head s leg text);
      pdu = λ s leg count bytes came put a h.
          same_row s leg came put h (Pdu bytes) (pdu s leg count bytes) refl
          (same_pdu s leg count bytes);
      packet = λ s leg count m came put a h. packet_row s leg came put h count m;
      put = λ s leg came put a h. puts s leg came put h;
      drawn = λ s leg came put a. same_holds s (drawn s leg) came put (same_drawn s leg);
      mark = λ s leg came put a h. mark_row s leg came put h;
      ping = λ s leg came put a. same_holds s (proxy_rules.ping s leg) came put (same_ping s leg);
    }

pub out_passes : ((w : Waiting) (packet : Named) (key : Key) → Raises w packet key)
    → (config : OutProxyConfig) (moves : List Move) (key : Key)
    → AreAllowed proxy_rules (started (new_proxy config)) moves
    → PassesToClient key (all_moved proxy_rules (started (new_proxy config)) moves)
out_passes raising config moves key allowed other =
    moves_keep_beside proxy_rules MayUp (Knows config) (Holds raising key other)
    (keeps raising key other config) (knows_always config) (started (new_proxy config)) moves
    (allowed_rise proxy_rules MayUp (λ s leg may. may) (started (new_proxy config)) moves allowed)
    (knows_first config) (λ free. omega arith)
