-- the receive window of an OUT channel, and what came on its leg
use Rattle.rh_window.specs.Receiving as windows
use Rattle.rh_window.specs.declared.recv_window.Ack as told
use Rattle.law_order.proofs.Vocabulary.{◌≡◌, ℕ, ◌+◌, ◌≤◌, ◌<◌, Bool, true, false, List, [], ◌∷◌, ◌++◌, length, Some, Ok, Err, arith, refl, rules, sym, ap, subst, nat_tests, if◌then◌else◌, is_ok, nat_le, Result}
use Rattle.rh_line.specs.Lines as line
use Rattle.law_moves.proofs.Vocabulary.{WindowExceeded, total_push, Incoming, total, Leg, LineFault, Window, Over, Message, Pdu, same_leg, OnLeg, of_leg, pdu_bytes}
use Rattle.law_moves.proofs.Lemmas.{bytes_append, bytes_rise, leg_more}

-- ---- the bytes of a leg

pub leg_rises : (leg : Leg) (came : List OnLeg) (one : OnLeg)
    → pdu_bytes (of_leg leg came) ≤ pdu_bytes (of_leg leg (came ++ one ∷ []))
leg_rises leg came one =
    subst (λ (ms : List Message). pdu_bytes (of_leg leg came) ≤ pdu_bytes ms)
    (sym (leg_more leg came one)) (bytes_rise (of_leg leg came) (of_leg leg (one ∷ [])))

pub leg_counts : (leg other : Leg) (came : List OnLeg) (pdu : List ℕ)
    → same_leg other leg ≡ true
    → pdu_bytes (of_leg leg (came ++ (other, Pdu pdu) ∷ []))
    ≡ pdu_bytes (of_leg leg came) + length pdu
leg_counts leg other came pdu same =
    subst (λ (ms : List Message). pdu_bytes ms ≡ pdu_bytes (of_leg leg came) + length pdu)
    (sym (leg_more leg came (other, Pdu pdu)))
    (subst (λ (b : Bool).
    pdu_bytes (of_leg leg came ++ (if b then Pdu pdu ∷ [] else []))
    ≡ pdu_bytes (of_leg leg came) + length pdu)
    (sym same)
    (let all = bytes_append (of_leg leg came) (Pdu pdu ∷ []) in omega (arith, all)))

-- ---- a channel counts no more than came on its leg

pub record Counts (window : ℕ) (c : Incoming) (came : ℕ) : Type 0 where
  pub received : c.window.received ≤ came
  pub counted : c.window.released + total c.pdus ≡ c.window.received
  pub size : c.window.size ≡ window

pub counts_more : (window : ℕ) (c : Incoming) (a b : ℕ) → a ≤ b → Counts window c a
    → Counts window c b
counts_more window c a b more h = record {
  received = let before = h.received in omega (arith, before, more);
  counted = h.counted;
  size = h.size;
}

pub admitted_told : (c : Incoming) (pdu : List ℕ)
    → (line.admitted c pdu).window.told ≡ c.window.told
admitted_told c pdu = search rules

pub admitted_released : (c : Incoming) (pdu : List ℕ)
    → (line.admitted c pdu).window.released ≡ c.window.released
admitted_released c pdu = search rules

pub admitted_counts : (window : ℕ) (c : Incoming) (pdu : List ℕ) (a b : ℕ)
    → b ≡ a + length pdu → Counts window c a → Counts window (line.admitted c pdu) b
admitted_counts window c pdu a b more h =
    by c.ended (nat_le (c.window.received + length pdu) c.window.told)
  where
    exceeded : WindowExceeded
    exceeded = record { reached = c.window.received + length pdu; edge = c.window.told }

    verdict : Bool → Result (Unit {0}) WindowExceeded
    verdict t = if t then Ok tt else Err exceeded

    now : Bool → Bool → Incoming
    now e t =
        if is_ok (if e then Err Over else line.by_window (verdict t))
        then record c {
          pdus = c.pdus ++ pdu ∷ [];
          window =
              if is_ok (verdict t)
              then record (c.window) { received = c.window.received + length pdu }
              else c.window;
        }
        else c

    same : Counts window c b
    same = counts_more window c a b (omega (arith, more)) h

    by : (e t : Bool) → Counts window (now e t) b
    by true t = same
    by false true =
        let before = h.received in
        let counted = h.counted in
        let push = total_push c.pdus pdu in
        record {
          received = omega (arith, before, more);
          counted = omega (arith, counted, push);
          size = h.size;
        }
    by false false = same

pub released_counts : (window : ℕ) (c : Incoming) (pdus : List (List ℕ)) (came : ℕ)
    → c.pdus ≡ pdus → Counts window c came → Counts window (line.released pdus c) came
released_counts window c [] came is h = h
released_counts window c (pdu ∷ pdus) came is h =
    let counted =
    subst (λ (all : List (List ℕ)). c.window.released + total all ≡ c.window.received) is
    h.counted in
    record {
      received = h.received;
      counted = omega (arith, counted);
      size = h.size;
    }

-- one that is refused changes nothing
pub refused_same : (c : Incoming) (pdu : List ℕ) (fault : LineFault)
    → line.channel_verdict c pdu ≡ Err fault → line.admitted c pdu ≡ c
refused_same c pdu fault e =
    ap (λ (v : Result (Unit {0}) LineFault).
    if is_ok v then record c {
      pdus = c.pdus ++ pdu ∷ [];
      window = windows.after_admit c.window (length pdu);
    } else c) e

-- one that the window refuses ends behind what was told
abbrev pub IsBehind : ℕ → ℕ → Result (Unit {0}) LineFault → Type 0
IsBehind edge reached (Err (Window exceeded)) = edge < reached
IsBehind edge reached verdict = Unit {0}

pub refused_behind : (window : ℕ) (c : Incoming) (came : ℕ) (pdu : List ℕ) → Counts window c came
    → IsBehind c.window.told (came + length pdu) (line.channel_verdict c pdu)
refused_behind window c came pdu h = by c.ended
  where
    within : (b : Bool) → nat_le (c.window.received + length pdu) c.window.told ≡ b
        → IsBehind c.window.told (came + length pdu)
        (line.by_window (if b then Ok tt else Err (record {
          reached = c.window.received + length pdu;
          edge = c.window.told;
        })))
    within true e = tt
    within false e = let received = h.received in grind (arith, nat_tests, e, received)

    by : (b : Bool) → IsBehind c.window.told (came + length pdu)
        (if b then Err Over else line.by_window (windows.admit_verdict c.window (length pdu)))
    by true = tt
    by false = within (nat_le (c.window.received + length pdu) c.window.told) refl

-- ---- an acknowledgement is due

-- it tells what was received, and more than was told; something was received
pub record IsDue (window : ℕ) (c : Incoming) (ack : told.Ack) : Type 0 where
  pub received : ack.received ≡ c.window.received
  pub came : 0 < c.window.received
  pub more : c.window.told ≤ ack.received + ack.available
  pub size : ack.available ≤ window

pub due_is : (window : ℕ) (c : Incoming) (came : ℕ) (ack : told.Ack) → Counts window c came
    → window ≤ c.window.told → windows.due c.window ≡ Some ack → IsDue window c ack
due_is window c came ack h least e =
    let counted = h.counted in
    let size = h.size in
    record {
      received = grind (arith, nat_tests, e);
      came = grind (arith, nat_tests, e, counted, size, least);
      more = grind (arith, nat_tests, e, counted, size);
      size = grind (arith, nat_tests, e, counted, size);
    }

-- none is due before something was released
pub none_due : (window : ℕ) (c : Incoming) (came : ℕ) (ack : told.Ack) → Counts window c came
    → c.window.told ≡ window → c.window.released ≡ 0 → windows.due c.window ≡ Some ack → ⊥
none_due window c came ack h told released e =
    let size = h.size in grind (arith, nat_tests, e, size, told, released)
