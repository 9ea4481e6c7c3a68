-- what a row refuses on a hop cannot come from the other end
use Rattle.law_order.proofs.Vocabulary.{inl, inr, ℕ, ◌+◌, ◌≤◌, ◌<◌, Bool, true, false, if◌then◌else◌, List, [], ◌∷◌, ◌++◌, length, arith, sym, ◌∙◌, subst, rules, AllByRecursion, nat_tests, IsPrefix}
use Rattle.rh_sig.specs.declared.named.Named.TheVariants.{Ack}
use Rattle.rh_shell.specs.declared.answers.Refused.TheVariants as refused
use Rattle.law_moves.proofs.Vocabulary.{WindowExceeded, Named, Leg, is_ping, Message, Text, Pdu, Packet, Rules, Passage, of_leg, all_read_of}
use Rattle.law_moves.proofs.Lemmas.{bytes_append, bytes_rise}
use Rattle.law_peers_moments.proofs.Read.{read_bytes}
use Rattle.law_world_windows.proofs.Counts.{edges_rise}
use Rattle.law_world_windows.specs.Hops.{pdu_bytes, greatest_edge, IsFalseAck, RefusesFalseAcks, IsTrueAck, IsNoWindow, RefusesBehind, SendsWithin, ReceivesWithin}
use Rattle.law_world_windows.specs.Refusing.{RefusesMessage}

-- ---- what is read of what was put

pub read_edges : (put : List Message) → greatest_edge (all_read_of put) ≤ greatest_edge put
read_edges [] = omega arith
read_edges (Text bytes ∷ put) = let rest = read_edges put in grind (arith, nat_tests, rest)
read_edges (Pdu pdu ∷ put) = let rest = read_edges put in grind (arith, nat_tests, rest)
read_edges (Packet named ∷ put) = by (is_ping named) (read_edges put)
  where
    by : (t : Bool) → greatest_edge (all_read_of put) ≤ greatest_edge put
        → greatest_edge ((if t then [] else Packet named ∷ []) ++ all_read_of put)
        ≤ greatest_edge (Packet named ∷ put)
    by true rest = grind (arith, nat_tests, rest)
    by false rest = grind (arith, nat_tests, rest)

read_all : (P : Message → Type 0) (put : List Message) → AllByRecursion P put
    → AllByRecursion P (all_read_of put)
read_all P [] all = tt
read_all P (Text bytes ∷ put) all = read_all P put all.1
read_all P (Pdu pdu ∷ put) all = (all.0, read_all P put all.1)
read_all P (Packet named ∷ put) all = by (is_ping named) (read_all P put all.1)
  where
    by : (t : Bool) → AllByRecursion P (all_read_of put)
        → AllByRecursion P ((if t then [] else Packet named ∷ []) ++ all_read_of put)
    by true rest = rest
    by false rest = (all.0, rest)

-- ---- and of a front of that

pub front_bytes : (a b : List Message) → IsPrefix a b → pdu_bytes a ≤ pdu_bytes b
front_bytes a b p = subst (λ (all : List Message). pdu_bytes a ≤ pdu_bytes all) p.1
    (bytes_rise a p.0)

pub front_edges : (a b : List Message) → IsPrefix a b → greatest_edge a ≤ greatest_edge b
front_edges a b p = subst (λ (all : List Message). greatest_edge a ≤ greatest_edge all) p.1
    (edges_rise a p.0)

all_front : (P : Message → Type 0) (a b : List Message) → AllByRecursion P (a ++ b)
    → AllByRecursion P a
all_front P [] b all = tt
all_front P (m ∷ a) b all = (all.0, all_front P a b all.1)

last_of : (P : Message → Type 0) (a : List Message) (m : Message)
    → AllByRecursion P (a ++ m ∷ []) → P m
last_of P [] m all = all.0
last_of P (n ∷ a) m all = last_of P a m all.1

-- ---- nothing is refused

-- what came there and is to come was put at the other end, and what came there was put here
pub record IsJoined (came put other_came other_put : List Message) (next : Message) : Type 0 where
  pub ahead : IsPrefix (came ++ next ∷ []) (all_read_of other_put)
  pub back : IsPrefix other_came (all_read_of put)

within_edge : (came put other_came other_put : List Message) (pdu : List ℕ)
    → IsJoined came put other_came other_put (Pdu pdu)
    → pdu_bytes other_put ≤ greatest_edge other_came
    → greatest_edge put < pdu_bytes came + length pdu → ⊥
within_edge came put other_came other_put pdu j within behind =
    let all = bytes_append came (Pdu pdu ∷ []) in
    let a = front_bytes (came ++ Pdu pdu ∷ []) (all_read_of other_put) j.ahead in
    let b = read_bytes other_put in
    let c = front_edges other_came (all_read_of put) j.back in
    let d = read_edges put in
    absurd (omega (arith, all, a, b, c, d, within, behind))

false_of : (came put other_came other_put : List Message) (named : Named)
    → IsJoined came put other_came other_put (Packet named)
    → AllByRecursion (IsTrueAck (pdu_bytes other_came)) other_put
    → IsFalseAck (pdu_bytes put) named → ⊥
false_of came put other_came other_put named j acks false_ack =
    by named (last_of True came (Packet named)
    (all_front True (came ++ Packet named ∷ []) j.ahead.0
    (subst (AllByRecursion True) (sym j.ahead.1) (read_all True other_put acks)))) false_ack
  where
    True : Message → Type 0
    True m = IsTrueAck (pdu_bytes other_came) m

    known : pdu_bytes other_came ≤ pdu_bytes put
    known =
        let a = front_bytes other_came (all_read_of put) j.back in
        let b = read_bytes put in omega (arith, a, b)

    by : (x : Named) → IsTrueAck (pdu_bytes other_came) (Packet x) → IsFalseAck (pdu_bytes put) x
        → ⊥
    by (Ack received available channel) is (inl more) =
        let came_there = is.0 in let rest = known in absurd (omega (arith, came_there, rest, more))
    by (Ack received available channel) is (inr great) =
        let small = is.1 in absurd (omega (arith, small, great))
    by x is false_one = search rules

module _ {S T : Type 0} (rules : Rules S) (others : Rules T) (leg : Leg) (p : Passage S)
    (q : Passage T) (m : Message)
    (j : IsJoined (of_leg leg p.came) (of_leg leg p.put) (of_leg leg q.came) (of_leg leg q.put)
    m) where
  -- where the role receives
  pub never_exceeded : (exceeded : WindowExceeded) → ReceivesWithin rules leg p
      → SendsWithin others leg q
      → RefusesMessage rules p.role leg (refused.Window exceeded) m → ⊥
  never_exceeded exceeded receives sends is = by m j is
    where
      by : (x : Message)
          → IsJoined (of_leg leg p.came) (of_leg leg p.put) (of_leg leg q.came) (of_leg leg q.put) x
          → RefusesMessage rules p.role leg (refused.Window exceeded) x → ⊥
      by (Text bytes) k refuses = refuses
      by (Pdu pdu) k refuses =
          within_edge (of_leg leg p.came) (of_leg leg p.put) (of_leg leg q.came) (of_leg leg q.put)
          pdu k sends.within
          (subst (RefusesBehind (greatest_edge (of_leg leg p.put))
          (pdu_bytes (of_leg leg p.came) + length pdu)) refuses.1
          (receives.refuses refuses.0 pdu))
      by (Packet named) k refuses =
          subst IsNoWindow refuses.1 (receives.packets refuses.0 named)

  -- where it sends
  pub never_out_of_range : (command value : ℕ) → SendsWithin rules leg p
      → ReceivesWithin others leg q
      → RefusesMessage rules p.role leg (refused.OutOfRange command value) m → ⊥
  never_out_of_range command value sends receives is = by m j is
    where
      by : (x : Message)
          → IsJoined (of_leg leg p.came) (of_leg leg p.put) (of_leg leg q.came) (of_leg leg q.put) x
          → RefusesMessage rules p.role leg (refused.OutOfRange command value) x → ⊥
      by (Text bytes) k refuses = refuses
      by (Pdu pdu) k refuses =
          absurd (let bad = sym refuses.1 ∙ sends.pdus refuses.0 pdu in cc)
      by (Packet named) k refuses =
          false_of (of_leg leg p.came) (of_leg leg p.put) (of_leg leg q.came) (of_leg leg q.put)
          named k receives.acks
          (subst (RefusesFalseAcks (pdu_bytes (of_leg leg p.put)) named) refuses.1
          (sends.refuses refuses.0 named))
