-- an in proxy acknowledges no more than its window, which begins behind what it passed on
use Rattle.law_order.proofs.Vocabulary.{◌≡◌, ℕ, ◌+◌, ◌≤◌, ◌==◌, List, arith, refl, sym, ap, ◌∙◌, subst}
use Rattle.rh_inproxy.specs.declared.state.Successor.{Successor}
use Rattle.rh_inproxy.specs.declared.state.Successor.TheVariants.{Absent, Up, Joined}
use Rattle.rh_inproxy.specs.State.{InProxy, is_joined}
use Rattle.law_moves.proofs.Vocabulary.{by_test, same_number, Cookie, AckTo, Incoming, total, IsWithin, InServer, OnLeg, of_leg, pdu_bytes, HasOn}
use Rattle.law_role_windows.proofs.Acknowledging.Found.{has_found}
use Rattle.law_role_windows.proofs.Acknowledging.InAcks.{IsTold, told_now, IsAck}
use Rattle.law_role_windows.proofs.Acknowledging.InChannels.{Counts, IsBehind, WasTold}
use Rattle.law_role_windows.proofs.Acknowledging.InPdus as pdus
use Rattle.law_role_windows.specs.Acknowledging.Acks.{ci_leg as ci}
use Rattle.law_role_windows.specs.Acknowledging.Receiving.{IsOnlyOn}
use Rattle.law_role_windows.specs.Held.{Holds}
use Rattle.law_role_windows.specs.Room.{InProxyRoom, held_behind, held_by_in_proxy}

module _ (window : ℕ) (s : InProxy) (came put : List OnLeg) (h : pdus.Holds window s came put)
    (held : Holds window s.line) where
  abbrev All : ℕ → ℕ → Type 0
  All = WasTold s.line s.current s.successor

  abbrev Room : ℕ → ℕ → Type 0
  Room n holds = InProxyRoom window holds n came put

  -- an acknowledgement for the channel of the leg
  found : (n received available : ℕ) (cookie : Cookie)
      → HasOn InServer (AckTo 0 received available cookie) put → IsOnlyOn n cookie came
      → (received ≤ pdu_bytes (of_leg (ci n) came)) × All n (received + available)
      × (available ≤ window)
  found n received available cookie has only =
      let ack = has_found (IsAck window came All) (AckTo 0 received available cookie)
      (record { kind = InServer; number = has.0 }) put h.channels.acks has.1 refl in
      subst (λ (k : ℕ). (received ≤ pdu_bytes (of_leg (ci k) came))
      × All k (received + available) × (available ≤ window)) (only ack.0 ack.1.begun)
      (ack.1.came, ack.2, ack.3)

  -- one that is read
  room_of : (n : ℕ) (c : Incoming) → Counts window c (of_leg (ci n) came) → IsWithin c window
      → ((edge : ℕ) → All n edge → edge ≤ c.window.told) → Room n (total c.pdus)
  room_of n c counts within told =
      let counted = counts.counted in
      let arrived = counts.received in
      let reach = within.advertised in
      record {
        held = omega (arith, counted, arrived);
        acked = λ received available cookie has only.
            let ack = found n received available cookie has only in
            let edge = told (received + available) ack.1 in
            omega (arith, edge, reach, counted, arrived);
      }

  -- and another one, of which nothing is held
  none : (n : ℕ) → Room n 0
  none n = record {
    held = omega arith;
    acked = λ received available cookie has only.
        let ack = found n received available cookie has only in
        let arrived = ack.0 in let small = ack.2 in omega (arith, arrived, small);
  }

  behind : (n : ℕ) (z : Successor) → s.successor ≡ z → Room n (held_behind n s.line z)
  behind n Absent e = none n
  behind n (Up number) e = none n
  behind n (Joined client stage) e =
      by_test (Room n) (client.number == n) (total s.line.next.pdus) 0
      (λ f.
      let same = same_number client.number n f in
      let is = subst (λ (z : Successor). IsBehind window z s.line.next came) e h.channels.behind in
      room_of n s.line.next
      (subst (λ (k : ℕ). Counts window s.line.next (of_leg (ci k) came)) same is.0)
      (held.next (h.channels.there ∙ ap is_joined e)).within
      (λ edge all.
      (subst (λ (z : Successor).
      IsTold s.current.number s.line.current.window.told z s.line.next.window.told n edge) e all).2
      (sym same)))
      (λ f. none n)

  pub in_proxy_room : (n : ℕ) → Room n (held_by_in_proxy n s)
  in_proxy_room n =
      by_test (Room n) (s.current.number == n) (total s.line.current.pdus)
      (held_behind n s.line s.successor)
      (λ e.
      let number : ℕ = s.current.number in
      subst (λ (k : ℕ). Room k (total s.line.current.pdus)) (same_number number n e)
      (room_of number s.line.current h.channels.now held.current.within
      (λ edge all. told_now number s.line.current.window.told s.line.next.window.told s.successor
      number edge all refl)))
      (λ e. behind n s.successor refl)
