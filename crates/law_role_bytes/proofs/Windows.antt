-- what a receive window counts of a PDU
use Rattle.law_order.proofs.Vocabulary.{◌≡◌, ℕ, ◌+◌, List, ◌∷◌, ◌++◌, [], length, true, Ok, Err, refl, ap, rules, if◌then◌else◌, is_ok, nat_le, Bool, false, Result, ◌∙◌}
use Rattle.rh_window.specs.Receiving as windows
use Rattle.law_moves.proofs.Vocabulary.{Incoming, admitted, by_window, channel_verdict, LineFault, Over, WindowExceeded}

module _ (c : Incoming) (pdu : List ℕ) where
  abbrev after_verdict : Result (Unit {0}) LineFault → Incoming
  after_verdict v =
      if is_ok v
      then record c { pdus = c.pdus ++ pdu ∷ []; window = windows.after_admit c.window (length pdu) }
      else c

  -- one that is refused changes nothing
  pub admitted_same : (fault : LineFault) → channel_verdict c pdu ≡ Err fault
      → admitted c pdu ≡ c
  admitted_same fault e = ap after_verdict e

  abbrev within : Bool → Result (Unit {0}) WindowExceeded
  within b = if b then Ok tt else Err (record {
    reached = c.window.received + length pdu;
    edge = c.window.told;
  })

  -- one that is taken is counted
  pub admitted_more : channel_verdict c pdu ≡ Ok tt
      → (admitted c pdu).window.received ≡ c.window.received + length pdu
  admitted_more e =
      ap (λ (v : Result (Unit {0}) LineFault). (after_verdict v).window.received) e ∙ by c.ended e
    where
      counts : (b : Bool) → by_window (within b) ≡ Ok tt
          → (if is_ok (within b) then record c.window { received = c.window.received + length pdu }
          else c.window).received ≡ c.window.received + length pdu
      counts true f = refl
      counts false f = absurd cc

      by : (over : Bool)
          → (if over then Err Over else by_window (windows.admit_verdict c.window (length pdu)))
          ≡ Ok tt
          → (windows.after_admit c.window (length pdu)).received
          ≡ c.window.received + length pdu
      by true f = absurd cc
      by false f = counts (nat_le (c.window.received + length pdu) c.window.told) f

  -- and none releases anything
  pub admitted_released : (admitted c pdu).window.released ≡ c.window.released
  admitted_released = search rules
