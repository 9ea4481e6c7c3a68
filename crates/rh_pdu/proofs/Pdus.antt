-- laws of PDUs
use Rattle.std.proofs.Common.{◌≡◌, ◌≢◌, ℕ, ◌≤◌, List, length, slice_index, true, false, cond, nat_lt}
use Rattle.std.proofs.Common.{Some, None}
use Rattle.std.proofs.Common.{arith, sym, refl}
use Rattle.std.proofs.Math.Logic.{◌↔◌}
use Rattle.std.proofs.lemmas.Bool.Decides.{nat_tests}
use Rattle.std.specs.declared.option.Option.{Option}
use Rattle.rh_pdu.specs.declared.fault.HeadFault.{HeadFault}
use Rattle.rh_pdu.specs.declared.fault.PduFault.TheVariants.{Cut}
use Rattle.rh_pdu.specs.Header.{frag_of, head_fault}
use Rattle.rh_pdu.specs.Frames.{IsFrame, IsPdu}
use Rattle.rh_pdu.specs.Checking.{fault_behind, pdu_fault}
use Rattle.rh_pdu.proofs.Headers.{frag_bounds}

-- a frame has 16 to 8,192 bytes
pub frame_bounds : (b : List ℕ) → IsFrame b → (16 ≤ length b) × (length b ≤ 8192)
frame_bounds b h = let bounds = frag_bounds b h.head in let whole = h.whole in (h.long, omega arith)

behind_none : (b : List ℕ) (o : Option HeadFault) → fault_behind b o ≡ None
    → (o ≡ None) × (slice_index b 2 ≢ 20) × (frag_of b ≡ length b)
behind_none b (Some f) h = absurd (cc)
behind_none b None h = (refl, grind (arith, nat_tests), grind (arith, nat_tests))

-- no fault is found exactly where the bytes are a PDU
pub pdu_from_none : (b : List ℕ) → pdu_fault b ≡ None → IsPdu b
pdu_from_none b h =
    elim (nat_lt (length b) 16) as (λ t. nat_lt (length b) 16 ≡ t
    → cond t (Some (Cut (length b))) (fault_behind b (head_fault b)) ≡ None → IsPdu b) [
      | true ↦ λ e k. absurd (cc)
      | false ↦ λ e k.
          let is = behind_none b (head_fault b) k in
          record {
            frame = record { long = grind (arith, nat_tests); head = is.0; whole = sym is.2 };
            not_rts = is.1;
          }
    ] refl h

pub none_from_pdu : (b : List ℕ) → IsPdu b → pdu_fault b ≡ None
none_from_pdu b h =
    let long = h.frame.long in
    let head = h.frame.head in
    let whole = h.frame.whole in
    let other = h.not_rts in
    rw head (grind (arith, nat_tests))

pub pdu_is : (b : List ℕ) → IsPdu b ↔ pdu_fault b ≡ None
pdu_is b = (none_from_pdu b, pdu_from_none b)
