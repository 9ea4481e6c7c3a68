-- a hop at rest whose sender knows all that was told lets each PDU go
use Rattle.law_order.proofs.Vocabulary.{◌≡◌, ℕ, ◌+◌, ◌-◌, ◌*◌, ◌^◌, ◌≤◌, ◌<◌, Bool, true, false, true≢false, List, [], ◌∷◌, length, sym, ap, ◌∙◌, AllByRecursion, ◌&&◌, ◌||◌, nat_lt, nat_le, Some, None, if◌then◌else◌, refl, arith, nat_tests, and_from, or_right, lt-ltb}
use Rattle.rh_window.specs.Receiving.{due, edge_of, is_due}
use Rattle.rh_window.specs.Sending.{may_send}
use Rattle.rh_window.specs.Sides.{Receiver, Sender}
use Rattle.rh_window.specs.declared.range.TheConstants.{LEAST_WINDOW}
use Rattle.rh_window.specs.declared.recv_window.Ack.{Ack}
use Rattle.rh_pdu.proofs.Headers.{frag_bounds}
use Rattle.rh_pdu.specs.Frames.{IsPdu}
use Rattle.rh_line.specs.Lines.{Incoming}
use Rattle.rh_line.specs.Queue.{total}
use Rattle.law_world_free.specs.Drained.{IsDrained, IsKnown, IsShort, WaitsForWindow}

-- none is due
not_due : (b : Bool) (ack : Ack) → (if b then Some ack else None) ≡ None → b ≡ false
not_due true ack e = absurd cc
not_due false ack e = refl

module _ (s : Sender) (r : Receiver) (len : ℕ) (known : IsKnown s r)
    (empty : r.released ≡ r.received) (size : LEAST_WINDOW ≤ r.size) (short : len ≤ LEAST_WINDOW)
  where
    -- where a PDU doesn't fit, an acknowledgement is due
    due_then : r.told < r.received + len → is_due r ≡ true
    due_then less =
        let opened = known.opened in
        let fits = known.fits in
        let half = nat_le r.size (2 * (edge_of r - r.told)) in
        let longest = nat_lt (r.told - r.received) LEAST_WINDOW in
        and_from (nat_lt 0 r.told && nat_lt r.told (edge_of r) && nat_lt (edge_of r) (2 ^ 32))
        (half || longest)
        (and_from (nat_lt 0 r.told && nat_lt r.told (edge_of r)) (nat_lt (edge_of r) (2 ^ 32))
        (and_from (nat_lt 0 r.told) (nat_lt r.told (edge_of r)) (lt-ltb 0 r.told opened)
        (lt-ltb r.told (edge_of r) (omega (arith, less, empty, size, short))))
        (lt-ltb (edge_of r) (2 ^ 32) fits))
        (or_right half longest
        (lt-ltb (r.told - r.received) LEAST_WINDOW (omega (arith, less, short))))

    lets : due r ≡ None → may_send s len ≡ true
    lets none = by (may_send s len) refl
      where
        by : (b : Bool) → may_send s len ≡ b → b ≡ true
        by true e = refl
        by false e =
            let told = known.told in
            let came = known.came in
            let far : s.edge < s.sent + len = grind (arith, nat_tests, e) in
            let is = due_then (omega (arith, far, told, came)) in
            let no = not_due (is_due r) _ none in
            absurd cc

-- ---- so the sender has none left

-- an RPC PDU has 8,192 bytes at most
pub held_short : (pdus : List (List ℕ)) → AllByRecursion IsPdu pdus → IsShort pdus
held_short [] are = tt
held_short (pdu ∷ pdus) are =
    let is = are.0 in
    let bounds = (frag_bounds pdu is.frame.head).1 in
    let whole = is.frame.whole in omega (arith, bounds, whole)

module _ (s : Sender) (c : Incoming) (drained : IsDrained s c) where
  released : c.window.released ≡ c.window.received
  released =
      let counted = drained.sound.counted in
      let none : total c.pdus ≡ 0 = ap total drained.empty in
      omega (arith, counted, none)

  lets_each : (len : ℕ) → len ≤ LEAST_WINDOW → may_send s len ≡ true
  lets_each len less =
      lets s c.window len drained.known released drained.sound.side.window.least less
      drained.none

  pub none_left : (pdus : List (List ℕ)) → IsShort pdus → WaitsForWindow s pdus → pdus ≡ []
  none_left [] less waits = refl
  none_left (pdu ∷ pdus) less waits =
      absurd (true≢false (sym (lets_each (length pdu) less) ∙ waits))
