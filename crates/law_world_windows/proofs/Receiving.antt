-- a receive window, and the messages of its leg
use Rattle.rh_window.specs.Receiving as windows
use Rattle.law_order.proofs.Vocabulary.{◌≡◌, ℕ, ◌+◌, ◌≤◌, ◌<◌, nat_le, Bool, true, false, if◌then◌else◌, List, [], ◌∷◌, ◌++◌, length, Some, Ok, Err, arith, refl, ap, rules, is_ok, Result, nat_tests}
use Rattle.law_moves.proofs.Vocabulary.{Receiver, Ack, Incoming, admitted, channel_verdict, by_window, IsWithin, LineFault, Over, Message, Pdu, total}
use Rattle.law_moves.proofs.Lemmas.{bytes_append, bytes_rise}
use Rattle.law_role_client.proofs.Receiving.Windows.{IsBehind}
use Rattle.law_world_windows.proofs.Counts.{edges_within}
use Rattle.law_world_windows.specs.Hops.{HasRoom, pdu_bytes, greatest_edge}

-- it counted no more than came, and told all that was put
pub record Receives (r : Receiver) (came put : List Message) : Type 0 where
  pub received : r.received ≤ pdu_bytes came
  pub told : greatest_edge put ≤ r.told

pub came_more : (r : Receiver) (came put more : List Message) → Receives r came put
    → Receives r (came ++ more) put
came_more r came put more h = record {
  received = let rise = bytes_rise came more in let before = h.received in
      omega (arith, rise, before);
  told = h.told;
}

-- and its window is told from behind what it passed on
pub room_of : (c : Incoming) (size : ℕ) (came put : List Message) → IsWithin c size
    → Receives c.window came put → HasRoom size (total c.pdus) came put
room_of c size came put w r =
    let held = w.held in let advertised = w.advertised in
    let received = r.received in let told = r.told in
    record {
      held = omega (arith, held, received);
      told = omega (arith, held, advertised, received, told);
    }

-- what is put that tells no more
pub put_within : (r : Receiver) (came put more : List Message) → greatest_edge more ≤ r.told
    → Receives r came put → Receives r came (put ++ more)
put_within r came put more within h = record {
  received = h.received;
  told = edges_within r.told put more h.told within;
}

-- ---- a PDU comes

pub admitted_size : (c : Incoming) (pdu : List ℕ)
    → (admitted c pdu).window.size ≡ c.window.size
admitted_size c pdu = search rules

pub admitted_received : (c : Incoming) (pdu : List ℕ)
    → (admitted c pdu).window.received ≤ c.window.received + length pdu
admitted_received c pdu = search rules

pub received_more : (c : Incoming) (came : List Message) (pdu : List ℕ)
    → c.window.received ≤ pdu_bytes came
    → (admitted c pdu).window.received ≤ pdu_bytes (came ++ Pdu pdu ∷ [])
received_more c came pdu before =
    let one = admitted_received c pdu in
    let all = bytes_append came (Pdu pdu ∷ []) in omega (arith, one, all, before)

-- one that is refused changes nothing
pub refused_same : (c : Incoming) (pdu : List ℕ) (fault : LineFault)
    → channel_verdict c pdu ≡ Err fault → admitted c pdu ≡ c
refused_same c pdu fault e =
    ap (λ (v : Result (Unit {0}) LineFault).
    if is_ok v then record c {
      pdus = c.pdus ++ pdu ∷ [];
      window = windows.after_admit c.window (length pdu);
    } else c) e

pub refused_behind : (c : Incoming) (came put : List Message) (pdu : List ℕ)
    → Receives c.window came put
    → IsBehind (greatest_edge put) (pdu_bytes came + length pdu) (channel_verdict c pdu)
refused_behind c came put pdu h = by c.ended
  where
    within : (b : Bool) → nat_le (c.window.received + length pdu) c.window.told ≡ b
        → IsBehind (greatest_edge put) (pdu_bytes came + length pdu)
        (by_window (if b then Ok tt else Err (record {
          reached = c.window.received + length pdu;
          edge = c.window.told;
        })))
    within true e = tt
    within false e =
        let received = h.received in let told = h.told in
        grind (arith, nat_tests, e, received, told)

    by : (b : Bool) → IsBehind (greatest_edge put) (pdu_bytes came + length pdu)
        (if b then Err Over else by_window (windows.admit_verdict c.window (length pdu)))
    by true = tt
    by false = within (nat_le (c.window.received + length pdu) c.window.told) refl

-- ---- an acknowledgement is due

-- it tells the truth, and more than was told
pub record IsDueAck (r : Receiver) (ack : Ack) : Type 0 where
  pub opened : 0 < r.told
  pub received : ack.received ≡ r.received
  pub more : r.told ≤ ack.received + ack.available
  pub size : ack.available ≤ r.size

pub due_is : (c : Incoming) (size : ℕ) (ack : Ack) → IsWithin c size
    → windows.due c.window ≡ Some ack → IsDueAck c.window ack
due_is c size ack within e =
    let held = within.held in let told = within.told in
    record {
      opened = grind (arith, nat_tests, e);
      received = grind (arith, nat_tests, e);
      more = grind (arith, nat_tests, e, held, told);
      size = grind (arith, nat_tests, e, held, told);
    }
