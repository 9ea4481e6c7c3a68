-- an in proxy refuses a PDU of the client for its window only where that ends behind all that it
-- told
use Rattle.rh_window.specs.Receiving as windows
use Rattle.law_order.proofs.Vocabulary.{◌≡◌, ℕ, ◌+◌, ◌<◌, ◌≤◌, ◌==◌, Bool, true, false, ◌&&◌, ◌||◌, List, length, Some, None, Ok, Err, arith, refl, rules, sym, subst, and_parts, eqb-true, nat_tests, if◌then◌else◌, nat_le, Option}
use Rattle.rh_line.specs.Lines as line
use Rattle.rh_inproxy.specs.declared.state.Successor.{Successor}
use Rattle.rh_inproxy.specs.declared.state.Successor.TheVariants.{Absent, Up, Joined}
use Rattle.rh_inproxy.specs.Answers.{Done, unexpected}
use Rattle.rh_inproxy.specs.InReplacement.{on_in_r1_a1}
use Rattle.rh_inproxy.specs.Machine.{packet, pdu, on_channel, on_channel_by, on_ci}
use Rattle.rh_inproxy.specs.Opening.{on_conn_b1}
use Rattle.rh_inproxy.specs.Passing.{on_pdu, pdu_by}
use Rattle.rh_inproxy.specs.State.{InProxy, channel_of, next_of, has_opened, has_a5}
use Rattle.rh_inproxy.specs.Machine as machine
use Rattle.law_moves.proofs.Vocabulary.{by_test, Cookie, Named, AckTo, ConnB1, InR1A1, Incoming, Over, InServer, Which, Current, Next, Count, OnLeg, of_leg, pdu_bytes}
use Rattle.law_role_windows.proofs.Acknowledging.Found.{has_found}
use Rattle.law_role_windows.proofs.Acknowledging.InAcks.{told_now, IsAck, AreAcks}
use Rattle.law_role_windows.proofs.Acknowledging.InChannels.{Counts, IsBehind, WasTold}
use Rattle.law_role_windows.proofs.Acknowledging.InPdus.{Holds}
use Rattle.law_role_windows.specs.Acknowledging.Acks.{ci_leg as ci}
use Rattle.law_role_windows.specs.Acknowledging.Receiving.{EndsBehind, RefusesOnly}

-- ---- packets

b1_refuses : (s : InProxy) (n : ℕ) (a b : Cookie) (c : ℕ) (d : Cookie)
    → RefusesOnly ⊥ (on_conn_b1 s n a b c d).1
b1_refuses s n a b c d = search rules

a1_refuses : (s : InProxy) (n : ℕ) (a b c : Cookie) → RefusesOnly ⊥ (on_in_r1_a1 s n a b c).1
a1_refuses s n a b c = search rules

channel_refuses : (s : InProxy) (which : Which) (named : Named)
    → RefusesOnly ⊥ (on_channel s which named).1
channel_refuses s which named = search rules

by_refuses : (s : InProxy) (o : Option Which) (named : Named)
    → RefusesOnly ⊥ (on_channel_by s o named).1
by_refuses s None named = tt
by_refuses s (Some which) named = channel_refuses s which named

ci_refuses : (s : InProxy) (n : ℕ) (named : Named) → RefusesOnly ⊥ (on_ci s n named).1
ci_refuses s n (ConnB1 v1 v2 v3 v4 v5 v6) = b1_refuses s n v2 v3 v5 v6
ci_refuses s n (InR1A1 v1 v2 v3 v4) = a1_refuses s n v2 v3 v4
ci_refuses s n named = by_refuses s (channel_of s n) named

pub packet_refuses : (s : InProxy) (n : ℕ) (count : Count) (named : Named)
    → RefusesOnly ⊥ (packet s (ci n) count named).1
packet_refuses s n count named = ci_refuses s n named

-- ---- PDUs

-- one that the window refuses ends behind what was told
verdict_refuses : (B : Type 0) (s : InProxy) (c : Incoming) (bytes : List ℕ)
    → (c.window.told < c.window.received + length bytes → B)
    → RefusesOnly B (pdu_by s (line.channel_verdict c bytes)).1
verdict_refuses B s c bytes so = by c.ended
  where
    within : (b : Bool) → nat_le (c.window.received + length bytes) c.window.told ≡ b
        → RefusesOnly B (pdu_by s (line.by_window (if b then Ok tt else Err (record {
          reached = c.window.received + length bytes;
          edge = c.window.told;
        })))).1
    within true e = tt
    within false e = so (grind (arith, nat_tests, e))

    by : (b : Bool)
        → RefusesOnly B (pdu_by s
        (if b then Err Over
        else line.by_window (windows.admit_verdict c.window (length bytes)))).1
    by true = tt
    by false = within (nat_le (c.window.received + length bytes) c.window.told) refl

-- and so behind all that was told for the channel
ends_behind : (window n : ℕ) (c : Incoming) (came put : List OnLeg) (All : ℕ → ℕ → Type 0)
    (len : ℕ) → Counts window c (of_leg (ci n) came)
    → ((m edge : ℕ) → All m edge → m ≡ n → edge ≤ c.window.told) → AreAcks window came All put
    → c.window.told < c.window.received + len
    → EndsBehind window n came put (pdu_bytes (of_leg (ci n) came) + len)
ends_behind window n c came put All len counts within acks over =
    let received = counts.received in
    let told = counts.told in
    record {
      opened = omega (arith, received, told, over);
      acked = λ r a cookie has only.
          let ack = has_found (IsAck window came All) (AckTo 0 r a cookie)
          (record { kind = InServer; number = has.0 }) put acks has.1 refl in
          let below = within ack.0 (r + a) ack.2 (only ack.0 ack.1.begun) in
          omega (arith, below, received, over);
    }

module _ (window : ℕ) (s : InProxy) (came put : List OnLeg) (h : Holds window s came put)
  where
    abbrev Behind : ℕ → ℕ → Type 0
    Behind n len = EndsBehind window n came put (pdu_bytes (of_leg (ci n) came) + len)

    on_refuses : (n : ℕ) (which : Which) (bytes : List ℕ)
        → ((line.channel_of s.line which).window.told
        < (line.channel_of s.line which).window.received + length bytes → Behind n (length bytes))
        → RefusesOnly (Behind n (length bytes)) (on_pdu s which bytes).1
    on_refuses n which bytes so =
        by_test (λ (x : Done). RefusesOnly (Behind n (length bytes)) x.1)
        (has_a5 s which || line.is_ended s.line) (unexpected s)
        (pdu_by t (line.admit_verdict s.line which bytes)) (λ e. tt)
        (λ e. verdict_refuses (Behind n (length bytes)) t (line.channel_of s.line which) bytes so)
      where
        t : InProxy
        t = record s { line = line.after_admit s.line which bytes }

    next_refuses : (n : ℕ) (bytes : List ℕ) (z : Successor) → z ≡ s.successor
        → RefusesOnly (Behind n (length bytes)) (machine.pdu_by s (next_of z n) bytes).1
    next_refuses n bytes Absent e = tt
    next_refuses n bytes (Up number) e = tt
    next_refuses n bytes (Joined client stage) e =
        by_test (λ (o : Option Which).
        RefusesOnly (Behind n (length bytes)) (machine.pdu_by s o bytes).1)
        (client.number == n) (Some Next) None
        (λ f. on_refuses n Next bytes (λ over.
        subst (λ (k : ℕ). Behind k (length bytes)) (eqb-true client.number n f)
        (ends_behind window client.number s.line.next came put
        (WasTold s.line s.current (Joined client stage)) (length bytes) behind.0
        (λ m edge told. told.2) acks over)))
        (λ f. tt)
      where
        behind : IsBehind window (Joined client stage) s.line.next came
        behind =
            subst (λ (y : Successor). IsBehind window y s.line.next came) (sym e) h.channels.behind

        acks : AreAcks window came (WasTold s.line s.current (Joined client stage)) put
        acks =
            subst (λ (y : Successor). AreAcks window came (WasTold s.line s.current y) put) (sym e)
            h.channels.acks

    pub pdu_refuses : (n : ℕ) (count : Count) (bytes : List ℕ)
        → RefusesOnly (Behind n (length bytes)) (pdu s (ci n) count bytes).1
    pdu_refuses n count bytes =
        by_test (λ (o : Option Which).
        RefusesOnly (Behind n (length bytes)) (machine.pdu_by s o bytes).1)
        (has_opened s.opening && (s.current.number == n)) (Some Current) (next_of s.successor n)
        (λ e.
        let same : s.current.number ≡ n =
        eqb-true s.current.number n
        (and_parts (has_opened s.opening) (s.current.number == n) e).1 in
        on_refuses n Current bytes (λ over.
        subst (λ (k : ℕ). Behind k (length bytes)) same
        (ends_behind window s.current.number s.line.current came put
        (WasTold s.line s.current s.successor) (length bytes) h.channels.now
        (told_now s.current.number s.line.current.window.told s.line.next.window.told s.successor)
        h.channels.acks over)))
        (λ e. next_refuses n bytes s.successor refl)
