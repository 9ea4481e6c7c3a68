-- what order sees of a ci leg, as messages that came there
use Rattle.law_order.proofs.Vocabulary.{◌≡◌, ℕ, suc, zero, ◌<◌, ◌≤◌, ◌==◌, ◌&&◌, Bool, true, false, nat_eq, if◌then◌else◌, List, [], ◌∷◌, ◌++◌, inl, inr, refl, sym, ap, subst, ◌∙◌, arith, ◌⊎◌, or_cases, Item, pdus, has_end, has_handover}
use Rattle.law_order.specs.Logs as logs
use Rattle.rh_sig.specs.declared.named.Named.TheVariants as named
use Rattle.law_moves.proofs.Vocabulary.{same_number, other_number, test_same, test_other, has_end-append, Named, is_empty, Message, Text, Pdu, Packet, kind_number, same_leg, OnLeg, of_leg, Has, count_of, is_in_r1_a5}
use Rattle.law_role_inproxy.proofs.Vocabulary.{came_log, is_on, item_came, HasPduIn, ci_leg}

-- ---- of a log

pub swapped : (a b : ℕ) → (a == b) ≡ (b == a)
swapped a b = by (a == b) refl
  where
    by : (t : Bool) → (a == b) ≡ t → t ≡ (b == a)
    by true e = sym (subst (λ (j : ℕ). nat_eq j a ≡ true) (same_number a b e) (test_same a))
    by false e = sym (test_other b a (λ f. other_number a b e (sym f)))

is_there : (k : ℕ) (one : OnLeg) → is_on k one ≡ same_leg one.0 (ci_leg k)
is_there k one =
    ap (λ (t : Bool). t && nat_eq k one.0.number) (swapped 2 (kind_number one.0.kind))
    ∙ ap (λ (t : Bool). (kind_number one.0.kind == 2) && t) (swapped k one.0.number)

pub came_is : (k : ℕ) (log : List OnLeg)
    → came_log log k ≡ logs.seen item_came (of_leg (ci_leg k) log)
came_is k [] = refl
came_is k (one ∷ log) =
    by (is_on k one) (same_leg one.0 (ci_leg k)) (is_there k one) (came_is k log)
  where
    by : (a b : Bool) → a ≡ b → came_log log k ≡ logs.seen item_came (of_leg (ci_leg k) log)
        → (if a then item_came one.1 else []) ++ came_log log k
        ≡ logs.seen item_came (if b then one.1 ∷ of_leg (ci_leg k) log else of_leg (ci_leg k) log)
    by true true e rest = ap (λ (items : List Item). item_came one.1 ++ items) rest
    by false false e rest = rest
    by true false e rest = absurd cc
    by false true e rest = absurd cc

-- ---- of messages

abbrev items : List Message → List Item
items messages = logs.seen item_came messages

handed_by : (m : Named) (ms : List Message)
    → (has_handover (items ms) ≡ true → 1 ≤ count_of is_in_r1_a5 ms)
    → has_handover (items (Packet m ∷ ms)) ≡ true → 1 ≤ count_of is_in_r1_a5 (Packet m ∷ ms)
handed_by (named.InR1A5 successor) ms rest e = omega arith
handed_by named.EndA1 ms rest e = rest e
handed_by m ms rest e = rest e

pub handed_counts : (ms : List Message) → has_handover (items ms) ≡ true
    → 1 ≤ count_of is_in_r1_a5 ms
handed_counts [] e = absurd cc
handed_counts (Text bytes ∷ ms) e = handed_counts ms e
handed_counts (Pdu pdu ∷ ms) e = handed_counts ms e
handed_counts (Packet m ∷ ms) e = handed_by m ms (handed_counts ms) e

ended_by : (m : Named) (ms : List Message) → (has_end (items ms) ≡ true → Has named.EndA1 ms)
    → has_end (items (Packet m ∷ ms)) ≡ true → Has named.EndA1 (Packet m ∷ ms)
ended_by (named.InR1A5 successor) ms rest e = inr (rest e)
ended_by named.EndA1 ms rest e = inl refl
ended_by m ms rest e = inr (rest e)

pub ended_has : (ms : List Message) → has_end (items ms) ≡ true → Has named.EndA1 ms
ended_has [] e = absurd cc
ended_has (Text bytes ∷ ms) e = inr (ended_has ms e)
ended_has (Pdu pdu ∷ ms) e = inr (ended_has ms e)
ended_has (Packet m ∷ ms) e = ended_by m ms (ended_has ms) e

pdus_by : (m : Named) (ms : List Message) → (is_empty (pdus (items ms)) ≡ false → HasPduIn ms)
    → is_empty (pdus (items (Packet m ∷ ms))) ≡ false → HasPduIn ms
pdus_by (named.InR1A5 successor) ms rest e = rest e
pdus_by named.EndA1 ms rest e = rest e
pdus_by m ms rest e = rest e

pub pdus_have : (ms : List Message) → is_empty (pdus (items ms)) ≡ false → HasPduIn ms
pdus_have [] e = absurd cc
pdus_have (Text bytes ∷ ms) e = pdus_have ms e
pdus_have (Pdu pdu ∷ ms) e = tt
pdus_have (Packet m ∷ ms) e = pdus_by m ms (pdus_have ms) e

-- ---- of several legs

pub below_ended : (log : logs.Log) (c : ℕ) → has_end (logs.below log c) ≡ true
    → (j : ℕ) × (j < c) × (has_end (log j) ≡ true)
below_ended log zero e = absurd cc
below_ended log (suc c) e =
    by (below_ended log c) (or_cases (has_end (logs.below log c)) (has_end (log c))
    (sym (has_end-append (logs.below log c) (log c)) ∙ e))
  where
    by : (has_end (logs.below log c) ≡ true → (j : ℕ) × (j < c) × (has_end (log j) ≡ true))
        → (has_end (logs.below log c) ≡ true) ⊎ (has_end (log c) ≡ true)
        → (j : ℕ) × (j < suc c) × (has_end (log j) ≡ true)
    by find (inl before) =
        let found = find before in
        let less = found.1 in (found.0, omega (arith, less), found.2)
    by find (inr here) = (c, omega arith, here)
