-- what an out proxy owes behind a row: no more than what came is worth
use Rattle.law_order.proofs.Vocabulary.{◌≡◌, ℕ, ◌+◌, ◌≤◌, ◌==◌, Bool, true, false, ◌&&◌, if◌then◌else◌, Ok, Err, refl, sym, ap, arith}
use Rattle.rh_sig.specs.declared.named.Named.TheVariants as named
use Rattle.rh_shell.specs.Waiting as waiting
use Rattle.rh_outproxy.specs.declared.state.Channel.TheVariants as channels
use Rattle.rh_outproxy.specs.declared.state.Mark.TheVariants as marks
use Rattle.law_moves.proofs.Vocabulary.{by_test, Cookie, TO_OUT_PROXY, Named, Leg, Count, one_if}
use Rattle.law_moves.proofs.Lemmas.{IsSame, waits, forwarded_waits, refused_waits}
use Rattle.law_role_outproxy.proofs.Vocabulary.{Channel, OutProxyConfig, OutProxy, is_client_marked, is_known, is_server_down, Done, is_co, is_os, is_first, is_carrying, takes_pdus, taken, unexpected, forwarded, forwarded_by, passed_on, told_length, new_length, successor_length, opened, on_out_r2_c1, conn_c1_by, on_ack, on_ack_to, on_end_b1, on_out_r1_a9, packet, on_co, on_os}
use Rattle.law_role_outproxy.proofs.Counted.OutProxyOwes.{Leads, is_early, if_owes, other_owes, same_c1, same_ack}
use Rattle.law_role_outproxy.proofs.Counted.OutProxyOwes as due

module _ (client server put : Named → Bool) (strict : Bool)
    (leads : Leads client server put strict) (n : ℕ) where
  abbrev owes : OutProxy → ℕ
  owes = due.owes put n strict leads.closed

  abbrev Knows : OutProxy → Type 0
  Knows = due.Knows put n strict leads.closed

  abbrev Gains : ℕ → OutProxy → Done → Type 0
  Gains = due.Gains put n strict leads.closed

  abbrev channel_owes : OutProxyConfig → Channel → ℕ
  channel_owes = due.channel_owes put n strict leads.closed

  abbrev timeout_owes : OutProxyConfig → Channel → ℕ
  timeout_owes = due.timeout_owes put n strict leads.closed

  module _ (s : OutProxy) (h : Knows s) where
    -- a packet opens the channel
    opened_gains : (k : ℕ) (c : Channel) (size : ℕ) → is_known c ≡ true
        → channel_owes s.config c + timeout_owes s.config c ≤ k
        → Gains k s (taken (opened s c size))
    opened_gains k c size known worth = (
      record { number = h.number; down = h.down; known = λ e f. known },
      (let first = if_owes (is_early s.server) (channel_owes s.config s.channel)
          (channel_owes s.config c) in
          let now = one_if (put (named.ConnA3 s.config.timeout)) in
          let later = timeout_owes s.config s.channel in
          let second = other_owes (is_server_down s.server) now later s.answer
          (timeout_owes s.config c) in
          omega (arith, worth, first, second)),
    )

    co_gains : (count : Count) (m : Named) → Gains (one_if (client m)) s (on_co s count m)
    co_gains count (named.ConnA1 version connection cookie size) =
        by_test (Gains (one_if (client (named.ConnA1 version connection cookie size))) s)
        (is_first count && told_length s.request new_length)
        (taken (opened s (channels.New connection cookie) size)) (unexpected s)
        (λ e. opened_gains _ (channels.New connection cookie) size refl
        (leads.connects version size s.config.lifetime s.config.window s.config.timeout connection
        cookie))
        (λ e. (h, omega arith))
    co_gains count (named.OutR1A3 version connection predecessor cookie size) =
        by_test (Gains (one_if (client
        (named.OutR1A3 version connection predecessor cookie size))) s)
        (is_first count && told_length s.request successor_length)
        (taken (opened s (channels.Successor connection predecessor cookie) size)) (unexpected s)
        (λ e.
        let worth = leads.replaces version size s.config.lifetime s.config.window
        s.config.timeout connection predecessor cookie in
        opened_gains _ (channels.Successor connection predecessor cookie) size refl
        (omega (arith, worth)))
        (λ e. (h, omega arith))
    co_gains count named.OutR2C1 =
        due.same_gains put n strict leads.closed _ s (on_out_r2_c1 s count) h (same_c1 s count)
    co_gains count m = (h, omega arith)

    forward_gains : (m : Named) → Gains (one_if (put m)) s (forwarded s m)
    forward_gains m =
        by_test (Gains (one_if (put m)) s) (is_client_marked s.client) (taken s)
        (forwarded_by s (waiting.forwarded s.waiting m)) (λ e. (h, omega arith))
        (λ e. by (waiting.forwarded s.waiting m) (forwarded_waits put leads.acks s.waiting m)
        (refused_waits put leads.acks s.waiting m))
      where
        by : (r : waiting.Waiting × Bool)
            → waits put r.0.due ≤ waits put s.waiting.due + one_if (put m)
            → IsSame put leads.acks s.waiting r → Gains (one_if (put m)) s (forwarded_by s r)
        by (w, true) more same = (
          record { number = h.number; down = h.down; known = h.known },
          omega (arith, more),
        )
        by (w, false) more same =
            let is = ap (λ (v : waiting.Waiting). waits put v.due) same in (
              record { number = h.number; down = h.down; known = h.known },
              omega (arith, is),
            )

    passed_gains : (k to : ℕ) (m : Named) → one_if (put m) ≤ k → Gains k s (passed_on s to m)
    passed_gains k to m worth =
        by_test (Gains k s) (is_carrying s && (to == 0)) (forwarded s m) (unexpected s)
        (λ e. due.more_gains put n strict leads.closed (one_if (put m)) k s (forwarded s m) worth
        (forward_gains m))
        (λ e. (h, omega arith))

  c1_gains : (s : OutProxy) (h : Knows s) (c : Channel) → s.channel ≡ c
      → (version size timeout : ℕ)
      → Gains (one_if (server (named.ConnC1 version size timeout))) s
      (conn_c1_by c s version size timeout)
  c1_gains s h channels.Unknown e version size timeout = (h, omega arith)
  c1_gains s h (channels.Joined connection cookie) e version size timeout = (h, omega arith)
  c1_gains s h (channels.Successor connection predecessor cookie) e version size timeout =
      (h, omega arith)
  c1_gains s h (channels.New connection cookie) e version size timeout =
      of_s (forwarded t (named.ConnC2 version size timeout))
      (forward_gains t k (named.ConnC2 version size timeout))
    where
      t : OutProxy
      t = record s { channel = channels.Joined connection cookie }

      k : Knows t
      k = record { number = h.number; down = h.down; known = λ f g. refl }

      -- it owes the same
      same : owes t ≡ owes s
      same = ap (λ (c : Channel). due.owed put n strict leads.closed (record {
        config = s.config;
        answer = s.answer;
        channel = c;
        server = s.server;
        waiting = s.waiting;
        end = s.end;
        handover = s.handover;
      })) (sym e)

      of_s : (x : Done) → Gains (one_if (put (named.ConnC2 version size timeout))) t x
          → Gains (one_if (server (named.ConnC1 version size timeout))) s x
      of_s (u, Ok taken) g =
          let less = g.1 in let worth = leads.opens version size timeout in
          (g.0, omega (arith, less, worth, same))
      of_s (u, Err why) g = let less = g.1 in (g.0, omega (arith, less, same))

  module _ (s : OutProxy) (h : Knows s) where
    ack_gains : (k to received available : ℕ) (cookie : Cookie)
        → Gains k s (on_ack_to s to received available cookie)
    ack_gains k to received available cookie =
        by_test (Gains k s) (to == TO_OUT_PROXY) (on_ack s received available cookie)
        (passed_on s to (named.AckTo 0 received available cookie))
        (λ e. due.same_gains put n strict leads.closed k s (on_ack s received available cookie) h
        (same_ack s received available cookie))
        (λ e. let none = ap one_if (leads.acks 0 received available cookie) in
        passed_gains s h k to (named.AckTo 0 received available cookie) (omega (arith, none)))

    a9_gains : Gains (one_if (server named.OutR1A9)) s (on_out_r1_a9 s)
    a9_gains =
        by_test (Gains (one_if (server named.OutR1A9)) s) (is_carrying s)
        (taken (record s { handover = marks.Came })) (unexpected s)
        (λ e. let worth = leads.leaves in (
          record { number = h.number; down = h.down; known = h.known },
          omega (arith, worth),
        ))
        (λ e. (h, omega arith))

    end_gains : Gains (one_if (server named.EndB1)) s (on_end_b1 s)
    end_gains =
        by_test (Gains (one_if (server named.EndB1)) s) (takes_pdus s)
        (taken (record s { end = marks.Came })) (unexpected s)
        (λ e. let worth = leads.ends in (
          record { number = h.number; down = h.down; known = h.known },
          omega (arith, worth),
        ))
        (λ e. (h, omega arith))

    os_gains : (m : Named) → Gains (one_if (server m)) s (on_os s m)
    os_gains (named.ConnC1 version size timeout) =
        c1_gains s h s.channel refl version size timeout
    os_gains (named.AckTo to received available cookie) = ack_gains _ to received available cookie
    os_gains (named.InR1A3 to version size timeout) =
        passed_gains s h _ to (named.InR1A4 0 version size timeout)
        (leads.in_r1 to version size timeout)
    os_gains (named.InR2A3 to) = passed_gains s h _ to (named.InR2A4 0) (leads.in_r2 to)
    os_gains (named.OutR1A1 to) = passed_gains s h _ to (named.OutR1A2 0) (leads.wishes to)
    os_gains (named.OutR1A5 to version timeout) =
        passed_gains s h _ to (named.OutR1A6 0 version timeout)
        (leads.answers to version timeout)
    os_gains named.OutR1A9 = a9_gains
    os_gains named.EndB1 = end_gains
    os_gains m = (h, omega arith)

    pub packet_gains : (leg : Leg) (count : Count) (m : Named)
        → Gains (if is_co s leg then one_if (client m)
        else (if is_os s leg then one_if (server m) else 0)) s (packet s leg count m)
    packet_gains leg count m = by (is_co s leg) (is_os s leg)
      where
        by : (a b : Bool) → Gains (if a then one_if (client m)
            else (if b then one_if (server m) else 0)) s
            (if a then on_co s count m else (if b then on_os s m else unexpected s))
        by true b = co_gains s h count m
        by false true = os_gains m
        by false false = (h, omega arith)
