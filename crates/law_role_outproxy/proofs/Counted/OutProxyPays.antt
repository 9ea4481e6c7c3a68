-- an out proxy puts no more packets of a kind than came for them
use Rattle.law_order.proofs.Vocabulary.{◌≡◌, ℕ, ◌+◌, ◌≤◌, Bool, true, false, ◌&&◌, if◌then◌else◌, List, [], ◌∷◌, ◌++◌, length, Some, None, refl, sym, ap, ◌∙◌, subst, arith, nat_le, and_parts, Option}
use Rattle.rh_sig.specs.declared.named.Named.TheVariants as named
use Rattle.rh_outproxy.specs.declared.state.Answer.TheVariants as answers
use Rattle.rh_outproxy.specs.declared.state.Channel.TheVariants as channels
use Rattle.rh_outproxy.specs.declared.state.Mark.TheVariants as marks
use Rattle.rh_outproxy.specs.declared.state.ServerLeg.TheVariants as servers
use Rattle.law_moves.proofs.Vocabulary.{may_send, Ack, by_test, Cookie, Named, is_empty, Leg, Due, Packet, one_if, OnLeg, Move, started, all_moved, of_leg, count_of}
use Rattle.law_moves.proofs.Lemmas.{leg_is, one_counts, leg_rises, leg_here, waits, StepsPay, Rise, moves_pay}
use Rattle.law_role_outproxy.proofs.Vocabulary.{Answer, Channel, Mark, OutProxyConfig, OutProxy, is_due, is_ping_due, is_known, is_server_down, is_server_first, joined, new_proxy, is_co, is_os, first_packet, ack_due, Pick, or_else, ping_room, behind_response, answer_by, put_answer, waiting_by, put_waiting, pdu_by, put_pdu, put_end, put_handover, put_mark, put_ping, next_co, first_by, put_first, ack_by, put_ack, next_os, put as put_of, pdu, rules as proxy_rules}
use Rattle.law_role_outproxy.proofs.Counted.OutProxyOwes.{Leads, is_answering, is_response_due, first_is_early, if_zero, both_ways, answer_owes, marked_owes, same_pdu, co_at, os_at}
use Rattle.law_role_outproxy.proofs.Counted.OutProxyGains.{packet_gains}
use Rattle.law_role_outproxy.proofs.Counted.OutProxyOwes as due

module _ (client server put : Named → Bool) (strict : Bool)
    (leads : Leads client server put strict) (n : ℕ) where
  abbrev owes : OutProxy → ℕ
  owes = due.owes put n strict leads.closed

  abbrev Knows : OutProxy → Type 0
  Knows = due.Knows put n strict leads.closed

  abbrev Owes : ℕ → OutProxy → Type 0
  Owes = due.Owes put n strict leads.closed

  abbrev Spends : OutProxy → Pick → Type 0
  Spends = due.Spends put n strict leads.closed

  abbrev channel_owes : OutProxyConfig → Channel → ℕ
  channel_owes = due.channel_owes put n strict leads.closed

  abbrev timeout_owes : OutProxyConfig → Channel → ℕ
  timeout_owes = due.timeout_owes put n strict leads.closed

  abbrev mark_owes : Named → Mark → ℕ
  mark_owes = due.mark_owes put n strict leads.closed

  module _ (s : OutProxy) (h : Knows s) where
    or_spends : (a b : Pick) → Spends s a → Spends s b → Spends s (or_else a b)
    or_spends None b g k = k
    or_spends (Some pick) b g k = g

    not_down : strict ≡ true → is_answering s.answer ≡ true → is_server_down s.server ≡ false
    not_down f e = by (is_server_down s.server) refl
      where
        by : (t : Bool) → is_server_down s.server ≡ t → is_server_down s.server ≡ false
        by true d = both_ways (is_answering s.answer) e (h.down f d)
        by false d = d

    timeout_due : (c : Channel) → s.channel ≡ c → s.answer ≡ answers.ResponseDue
        → timeout_owes s.config c ≡ one_if (put (named.ConnA3 s.config.timeout))
        → Owes (owes s) (record s { answer = answers.TimeoutDue })
    timeout_due c e a due = (
      record {
        number = h.number;
        down = λ f d. both_ways (is_answering s.answer) (ap is_answering a) (h.down f d);
        known = λ f g. absurd cc;
      },
      (let now = one_if (put (named.ConnA3 s.config.timeout)) in
          let later = timeout_owes s.config s.channel in
          let is = ap (λ (x : Answer). answer_owes x (is_server_down s.server) now later) a in
          let same = ap (timeout_owes s.config) e in omega (arith, is, same, due)),
    )

    -- the timeout becomes due behind the response, where one is
    behind_spends : (c : Channel) → s.channel ≡ c → s.answer ≡ answers.ResponseDue
        → Owes (owes s) (record s { answer = behind_response c })
    behind_spends channels.Unknown e a =
        due.modes put n strict leads.closed
        (Owes (owes s) (record s { answer = behind_response channels.Unknown }))
        (λ f. both_ways (is_known s.channel) (h.known f (ap is_response_due a)) (ap is_known e))
        (λ f. timeout_due channels.Unknown e a
        (sym (due.now_zero put n strict leads.closed f s.config.timeout)))
    behind_spends (channels.New connection cookie) e a =
        timeout_due (channels.New connection cookie) e a refl
    behind_spends (channels.Joined connection cookie) e a =
        timeout_due (channels.Joined connection cookie) e a refl
    behind_spends (channels.Successor connection predecessor cookie) e a =
        due.answers_owes put n strict leads.closed s answers.Put h refl (λ f. absurd cc)

    nothing_later : is_answering s.answer ≡ true
        → (if is_server_down s.server then timeout_owes s.config s.channel else 0) ≡ 0
    nothing_later e =
        due.modes put n strict leads.closed _
        (λ f. ap (λ (t : Bool). if t then timeout_owes s.config s.channel else 0)
        (not_down f e))
        (λ f. if_zero (is_server_down s.server) (timeout_owes s.config s.channel)
        (due.later_zero put n strict leads.closed f s.config s.channel))

    answer_spends : (a : Answer) → s.answer ≡ a → Spends s (answer_by a s)
    answer_spends answers.Awaited e = tt
    answer_spends answers.EchoPut e = tt
    answer_spends answers.EchoDrawn e = tt
    answer_spends answers.Put e = tt
    answer_spends answers.EchoDue e =
        let less = due.answers_owes put n strict leads.closed s answers.EchoPut h refl
        (λ f. absurd cc) in
        let fits = less.1 in (less.0, omega (arith, fits))
    answer_spends answers.ResponseDue e =
        let less = behind_spends s.channel refl e in
        let fits = less.1 in (less.0, omega (arith, fits))
    answer_spends answers.TimeoutDue e = (
      record { number = h.number; down = λ f g. refl; known = λ f g. absurd cc },
      (let one = one_counts put (named.ConnA3 s.config.timeout) in
          let now = one_if (put (named.ConnA3 s.config.timeout)) in
          let later = timeout_owes s.config s.channel in
          let is = ap (λ (a : Answer). answer_owes a (is_server_down s.server) now later) e in
          let none = nothing_later (ap is_answering e) in
          omega (arith, one, is, none)),
    )

    waiting_spends : (dues : List Due) → s.waiting.due ≡ dues → Spends s (waiting_by s dues)
    waiting_spends [] e = tt
    waiting_spends (due ∷ dues) e = (
      record { number = h.number; down = h.down; known = h.known },
      (let is = ap (waits put) e in
          let one = one_counts put due.packet in omega (arith, is, one)),
    )

    pdu_spends : (pdus : List (List ℕ)) → Spends s (pdu_by s pdus)
    pdu_spends [] = tt
    pdu_spends (pdu ∷ pdus) =
        by_test (Spends s) (may_send s.window (length pdu)) _ None
        (λ e. (
          record { number = h.number; down = h.down; known = h.known },
          omega arith,
        ))
        (λ e. tt)

    due_owes : (m : Named) (mark : Mark) → is_due mark ≡ true
        → mark_owes m mark ≡ one_if (put m)
    due_owes m marks.Came e = refl
    due_owes m marks.Awaited e = absurd cc
    due_owes m marks.Put e = absurd cc

    end_spends : Spends s (put_end s)
    end_spends =
        by_test (Spends s) (is_empty s.line.current.pdus && is_due s.end) _ None
        (λ e. (
          record { number = h.number; down = h.down; known = h.known },
          (let due = due_owes named.EndB2 s.end
              (and_parts (is_empty s.line.current.pdus) (is_due s.end) e).1 in
              let one = one_counts put named.EndB2 in omega (arith, due, one)),
        ))
        (λ e. tt)

    handover_spends : Spends s (put_handover s)
    handover_spends =
        by_test (Spends s) (is_empty s.line.current.pdus && is_due s.handover) _ None
        (λ e. (
          record { number = h.number; down = h.down; known = h.known },
          (let due = due_owes named.OutR1A10 s.handover
              (and_parts (is_empty s.line.current.pdus) (is_due s.handover) e).1 in
              let one = one_counts put named.OutR1A10 in omega (arith, due, one)),
        ))
        (λ e. tt)

    ping_spends : Spends s (put_ping s)
    ping_spends =
        by_test (Spends s) (is_ping_due s.ping && nat_le (s.pinged + 20) ping_room) _ None
        (λ e. (
          record { number = h.number; down = h.down; known = h.known },
          (let one = one_counts put named.Ping in
              let none = ap one_if leads.pings in omega (arith, one, none)),
        ))
        (λ e. tt)

    co_spends : Spends s (next_co s)
    co_spends =
        or_spends (put_answer s) _ (answer_spends s.answer refl)
        (or_spends (put_waiting s) _ (waiting_spends s.waiting.due refl)
        (or_spends (put_pdu s) _ (pdu_spends s.line.current.pdus)
        (or_spends (put_mark s) (put_ping s)
        (or_spends (put_end s) (put_handover s) end_spends handover_spends) ping_spends)))

    first_put : (c : Channel) (m : Named) → s.channel ≡ c → is_server_first s.server ≡ true
        → channel_owes s.config c ≡ one_if (put m)
        → Spends s (Some (record s { server = servers.Up }, Packet m))
    first_put c m e first due = (
      record { number = h.number; down = λ f g. absurd cc; known = h.known },
      (let early = first_is_early s.server first in
          let now = one_if (put (named.ConnA3 s.config.timeout)) in
          let later = timeout_owes s.config s.channel in
          let is = ap (λ (t : Bool). if t then channel_owes s.config s.channel else 0) early.0 in
          let same = ap (channel_owes s.config) e in
          let less = marked_owes (is_server_down s.server) now later s.answer in
          let one = one_counts put m in omega (arith, due, is, same, less, one)),
    )

    first_spends : (c : Channel) → s.channel ≡ c → is_server_first s.server ≡ true
        → Spends s (first_by s (first_packet s c))
    first_spends channels.Unknown e first = tt
    first_spends (channels.New connection cookie) e first =
        first_put (channels.New connection cookie)
        (named.ConnA2 1 connection cookie s.config.lifetime s.config.window) e first refl
    first_spends (channels.Joined connection cookie) e first =
        first_put (channels.Joined connection cookie)
        (named.ConnA2 1 connection cookie s.config.lifetime s.config.window) e first refl
    first_spends (channels.Successor connection predecessor cookie) e first =
        first_put (channels.Successor connection predecessor cookie)
        (named.OutR1A4 1 connection predecessor cookie s.config.lifetime s.config.window
        s.config.timeout) e first refl

    ack_spends : (o : Option Cookie) (a : Option Ack) → Spends s (ack_by s o a)
    ack_spends None a = tt
    ack_spends (Some cookie) None = tt
    ack_spends (Some cookie) (Some ack) = (
      record { number = h.number; down = h.down; known = h.known },
      (let one = one_counts put (named.Ack ack.received ack.available cookie) in
          let none = ap one_if (leads.own_acks ack.received ack.available cookie) in
          omega (arith, one, none)),
    )

    os_spends : Spends s (next_os s)
    os_spends =
        or_spends (put_first s) (put_ack s)
        (by_test (Spends s) (is_server_first s.server) (first_by s (first_packet s s.channel)) None
        (λ e. first_spends s.channel refl e) (λ e. tt))
        (ack_spends (joined s.channel) (ack_due s))

    put_spends : (leg : Leg) → Spends s (put_of s leg)
    put_spends leg =
        by_test (Spends s) (is_co s leg) (next_co s) (if is_os s leg then next_os s else None)
        (λ e. co_spends)
        (λ e. by_test (Spends s) (is_os s leg) (next_os s) None (λ f. os_spends) (λ f. tt))

  -- ---- the role

  abbrev worth : OutProxy → Leg → Named → ℕ
  worth s leg m =
      if is_co s leg then one_if (client m)
      else (if is_os s leg then one_if (server m) else 0)

  abbrev MayUp : OutProxy → Leg → Type 0
  MayUp = due.MayUp put n strict leads.closed

  steps : StepsPay proxy_rules MayUp Knows owes worth put
  steps = record {
    up = λ s leg cookie known may. due.up_owes put n strict leads.closed s leg cookie known may;
    head = λ s leg text known. due.head_owes put n strict leads.closed s leg text known;
    pdu = λ s leg count bytes known.
        due.same_gains put n strict leads.closed 0 s (pdu s leg count bytes) known
        (same_pdu s leg count bytes);
    packet = λ s leg count m known.
        packet_gains client server put strict leads n s known leg count m;
    put = λ s leg known. put_spends s known leg;
    drawn = λ s leg known. due.drawn_owes put n strict leads.closed s leg known;
    mark = λ s leg known. due.mark_owed put n strict leads.closed s leg known;
    ping = λ s leg known. (known, omega arith);
  }

  abbrev co : Leg
  co = co_at n

  abbrev os : Leg
  os = os_at n

  abbrev counted : List OnLeg → ℕ
  counted log = count_of client (of_leg co log) + count_of server (of_leg os log)

  rises : (log : List OnLeg) (one : OnLeg) → counted log ≤ counted (log ++ one ∷ [])
  rises log one =
      let first = leg_rises client co log one in
      let second = leg_rises server os log one in omega (arith, first, second)

  here : (s : OutProxy) (log : List OnLeg) (leg : Leg) (m : Named) → Knows s
      → counted log + worth s leg m ≤ counted (log ++ (leg, Packet m) ∷ [])
  here s log leg m h =
      by_test Fits (is_co s leg) (one_if (client m)) _
      (λ e.
      let first = subst (λ (l : Leg). count_of client (of_leg co (log ++ (l, Packet m) ∷ []))
      ≡ count_of client (of_leg co log) + one_if (client m))
      (ap co_at (sym h.number) ∙ leg_is (co_at s.config.number) leg e)
      (leg_here client co log m) in
      let second = leg_rises server os log (leg, Packet m) in omega (arith, first, second))
      (λ e. by_test Fits (is_os s leg) (one_if (server m)) 0
      (λ f.
      let second = subst (λ (l : Leg). count_of server (of_leg os (log ++ (l, Packet m) ∷ []))
      ≡ count_of server (of_leg os log) + one_if (server m))
      (ap os_at (sym h.number) ∙ leg_is (os_at s.config.number) leg f)
      (leg_here server os log m) in
      let first = leg_rises client co log (leg, Packet m) in omega (arith, first, second))
      (λ f. let all = rises log (leg, Packet m) in omega (arith, all)))
    where
      Fits : ℕ → Type 0
      Fits k = counted log + k ≤ counted (log ++ (leg, Packet m) ∷ [])

  pub out_proxy_pays : (config : OutProxyConfig) (moves : List Move) → config.number ≡ n
      → Rise proxy_rules MayUp (started (new_proxy config)) moves → (to : Leg)
      → (let p = all_moved proxy_rules (started (new_proxy config)) moves in
      count_of put (of_leg to p.put)
      ≤ count_of client (of_leg (co_at n) p.came) + count_of server (of_leg (os_at n) p.came))
  out_proxy_pays config moves is rise to =
      let paid = (moves_pay proxy_rules MayUp Knows owes worth put steps to counted rises here
      (started (new_proxy config)) moves rise
      (record { number = is; down = λ e f. refl; known = λ e f. absurd cc }, omega arith)).1 in
      omega (arith, paid)
