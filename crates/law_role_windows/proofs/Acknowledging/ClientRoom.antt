-- a client acknowledges no more than its window, which begins behind what was taken
use Rattle.law_order.proofs.Vocabulary.{◌≡◌, ℕ, suc, ◌≤◌, ◌==◌, ◌&&◌, if◌then◌else◌, true, List, arith, sym, ◌∙◌, subst, and_parts}
use Rattle.law_moves.proofs.Vocabulary.{by_test, same_number, Cookie, AckTo, total, Leg, EndMove, Passage, of_leg, pdu_bytes, Has}
use Rattle.law_role_client.proofs.Vocabulary.{ClientRole, co}
use Rattle.law_role_client.specs.Receiving.{CountsWhatCame, IsWithinWindow}
use Rattle.law_role_windows.specs.Held.{Holds}
use Rattle.law_role_windows.specs.Room.{ClientRoom, held_by_client}

module _ (window : ℕ) (moves : List EndMove) (p : Passage ClientRole) (counts : CountsWhatCame p)
    (held : Holds window p.role.line)
    (acks : (leg : Leg) (destination received available : ℕ) (cookie : Cookie)
    → Has (AckTo destination received available cookie) (of_leg leg p.put)
    → IsWithinWindow window moves p received available cookie) where
  abbrev s : ClientRole
  s = p.role

  abbrev came_on : ℕ → ℕ
  came_on k = pdu_bytes (of_leg (co k) p.came)

  abbrev Room : ℕ → ℕ → Type 0
  Room k holds = ClientRoom window holds k moves p.came p.put

  now : (k : ℕ) → s.current.number ≡ k → Room k (total s.line.current.pdus)
  now k same =
      let w = held.current.within in
      let counted = w.held in
      let reach = w.advertised in
      let arrived =
      subst (λ (n : ℕ). s.line.current.window.received ≤ came_on n) same counts.current in
      record {
        held = omega (arith, counted, arrived);
        acked = λ leg received available cookie has up only.
            let ack = acks leg 3 received available cookie has in
            let edge = ack.told (only ack.number ack.up ∙ sym same) in
            omega (arith, edge, reach, counted, arrived);
      }

  next : (k : ℕ) → s.line.has_next ≡ true → suc s.current.number ≡ k
      → Room k (total s.line.next.pdus)
  next k there same =
      let w = (held.next there).within in
      let counted = w.held in
      let arrived = subst (λ (n : ℕ). s.line.next.window.received ≤ came_on n) same counts.next in
      record {
        held = omega (arith, counted, arrived);
        acked = λ leg received available cookie has up only.
            let ack = acks leg 3 received available cookie has in
            let low = ack.low in
            let is = only ack.number ack.up in
            absurd (omega (arith, low, is, same));
      }

  none : (k : ℕ) → Room k 0
  none k = record {
    held = omega arith;
    acked = λ leg received available cookie has up only.
        let ack = acks leg 3 received available cookie has in
        let arrived =
        subst (λ (n : ℕ). received ≤ came_on n) (only ack.number ack.up) ack.arrived in
        let small = ack.small in omega (arith, arrived, small);
  }

  pub client_room : (k : ℕ) → Room k (held_by_client k s)
  client_room k =
      by_test (Room k) (s.current.number == k) (total s.line.current.pdus)
      (if s.line.has_next && (suc s.current.number == k) then total s.line.next.pdus else 0)
      (λ e. now k (same_number s.current.number k e))
      (λ e. by_test (Room k) (s.line.has_next && (suc s.current.number == k))
      (total s.line.next.pdus) 0
      (λ f.
      let both = and_parts s.line.has_next (suc s.current.number == k) f in
      next k both.0 (same_number (suc s.current.number) k both.1))
      (λ f. none k))
