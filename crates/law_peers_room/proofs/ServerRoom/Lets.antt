-- what the gates of a server's os legs let go, and what is known where they let none
use Rattle.law_order.proofs.Vocabulary.{◌≡◌, ℕ, ◌+◌, ◌≤◌, ◌==◌, ◌&&◌, Bool, true, false, if◌then◌else◌, refl, sym, ◌∙◌, subst, arith, and_parts, false≢true, nat_tests, bytes_eq}
use Rattle.rh_sig.specs.declared.named.Named.TheVariants as named
use Rattle.rh_server.specs.declared.state.Replacement.TheVariants as replacement
use Rattle.rh_server.specs.declared.state.Stage.TheVariants as stage
use Rattle.law_moves.proofs.Vocabulary.{Meter, fits, may_put, same_number, test_same, Cookie, Named, Due, Message, Text, Pdu, Packet}
use Rattle.law_role_server.proofs.Vocabulary.{OutLeg, Replacement, Stage, Gate, length_of, lets, lets_packet, Server, is_confirmed, is_open, same_cookie, gate}
use Rattle.law_peers_room.proofs.ServerRoom.Meters.{is_begun, is_answered}
use Rattle.law_peers_room.proofs.ServerRoom.Ahead as ahead
use Rattle.law_peers_room.specs.ServerRoom.Overtaking.{is_ack_for}

-- ---- the server

pub open_begun : (x : Stage) → is_open x ≡ true → is_begun x ≡ true
open_begun stage.Waits e = absurd cc
open_begun (stage.OutCame connection) e = absurd cc
open_begun (stage.InCame connection window timeout) e = absurd cc
open_begun (stage.Open connection) e = refl
open_begun stage.Ended e = absurd cc

pub confirmed_answered : (x : Replacement) → is_confirmed x ≡ true → is_answered x ≡ true
confirmed_answered replacement.Steady e = absurd cc
confirmed_answered replacement.Asked e = absurd cc
confirmed_answered (replacement.Answered successor) e = absurd cc
confirmed_answered replacement.Confirmed e = refl

pub fits_so : (meter : Meter) (len : ℕ) → fits meter len ≡ true → meter.count + len ≤ meter.length
fits_so meter len e = grind (arith, nat_tests)

pub leaves_so : (meter : Meter) (len : ℕ) → may_put meter len ≡ true
    → meter.count + len ≤ meter.length
leaves_so meter len e = grind (arith, nat_tests)

pub short_so : (meter : Meter) → may_put meter 56 ≡ false → meter.length ≤ meter.count + 311
short_so meter e = grind (arith, nat_tests)

-- what a gate lets go that asks the meter
pub record IsLet (g : Gate) (packet : Named) : Type 0 where
  pub writing : g.is_writing ≡ true
  pub bytes : ahead.bytes_of packet ≤ length_of packet
  pub small : length_of packet ≤ 56
  pub in_it : g.meter.count + length_of packet ≤ g.meter.length

is_let : (g : Gate) (packet : Named) (b : Bool) → g.is_writing && b ≡ true
    → (b ≡ true → g.meter.count + length_of packet ≤ g.meter.length)
    → ahead.bytes_of packet ≤ length_of packet → length_of packet ≤ 56 → IsLet g packet
is_let g packet b e so bytes small =
    let parts = and_parts g.is_writing b e in record {
      writing = parts.0;
      bytes = bytes;
      small = small;
      in_it = so parts.1;
    }

pub let_of : (g : Gate) (packet : Named)
    → ((to received window : ℕ) (cookie : Cookie)
    → packet ≡ named.AckTo to received window cookie → to ≡ 3 → ⊥)
    → lets_packet g packet ≡ true → IsLet g packet
let_of g (named.ConnC1 a b c) other e =
    is_let g (named.ConnC1 a b c) (may_put g.meter 44) e (leaves_so g.meter 44) (omega arith)
    (omega arith)
let_of g (named.InR1A3 a b c d) other e =
    is_let g (named.InR1A3 a b c d) (fits g.meter 52) e (fits_so g.meter 52) (omega arith)
    (omega arith)
let_of g (named.InR2A3 a) other e =
    is_let g (named.InR2A3 a) (fits g.meter 28) e (fits_so g.meter 28) (omega arith) (omega arith)
let_of g (named.OutR1A1 a) other e =
    is_let g (named.OutR1A1 a) (fits g.meter 28) e (fits_so g.meter 28) (omega arith)
    (omega arith)
let_of g (named.OutR1A5 a b c) other e =
    is_let g (named.OutR1A5 a b c) (fits g.meter 44) e (fits_so g.meter 44) (omega arith)
    (omega arith)
let_of g named.OutR1A9 other e =
    is_let g named.OutR1A9 (g.hands_over && fits g.meter 24) e
    (λ f. fits_so g.meter 24 (and_parts g.hands_over (fits g.meter 24) f).1) (omega arith)
    (omega arith)
let_of g (named.AckTo to received window cookie) other e =
    by (to == 3) refl e
  where
    by : (b : Bool) → (to == 3) ≡ b
        → (if b then same_cookie cookie g.cookie else g.is_writing && may_put g.meter 56) ≡ true
        → IsLet g (named.AckTo to received window cookie)
    by true is e = absurd (other to received window cookie refl (same_number to 3 is))
    by false is e =
        is_let g (named.AckTo to received window cookie) (may_put g.meter 56) e
        (leaves_so g.meter 56) (omega arith) (omega arith)
let_of g packet other e = absurd (never g.is_writing e)
  where
    never : (b : Bool) → b && false ≡ true → ⊥
    never true e = false≢true e
    never false e = false≢true e

module _ (channel : Cookie) where
  abbrev pub is_acked : Message → Bool
  is_acked (Text bytes) = false
  is_acked (Pdu pdu) = false
  is_acked (Packet packet) = is_ack_for channel packet

  abbrev pub bytes_in : Message → ℕ
  bytes_in (Text bytes) = 0
  bytes_in (Pdu pdu) = 0
  bytes_in (Packet packet) = ahead.bytes_of packet

  -- the meter of the writing channel refused it
  pub short_of : (s : Server) (leg : OutLeg) (due : Due) → ahead.is_for channel due ≡ true
      → lets (gate s leg) due ≡ false → leg.number ≡ s.writing
      → leg.meter.length ≤ leg.meter.count + 311
  short_of s leg due is e writes = by due.packet is e
    where
      by : (packet : Named) → is_ack_for channel packet ≡ true
          → lets_packet (gate s leg) packet ≡ false
          → leg.meter.length ≤ leg.meter.count + 311
      by (named.AckTo to received window cookie) is e =
          let zero_is = same_number to 0 (and_parts (to == 0) (bytes_eq cookie.0 channel.0) is).0 in
          let zero_then = subst (λ (n : ℕ). (if n == 3 then same_cookie cookie (gate s leg).cookie
          else (leg.number == s.writing) && may_put leg.meter 56) ≡ false) zero_is e in
          let here = subst (λ (n : ℕ). (n == s.writing) && may_put leg.meter 56 ≡ false)
          writes zero_then in
          short_so leg.meter (sym (one_alone (s.writing == s.writing) (may_put leg.meter 56)
          (test_same s.writing)) ∙ here)
        where
          one_alone : (a b : Bool) → a ≡ true → a && b ≡ b
          one_alone true b e = refl
          one_alone false b e = absurd cc
      by packet is e = absurd cc
