-- what is next of all that was put on a leg: one packet more was put there; and RPC PDUs that came
-- were put there
use Rattle.law_order.proofs.Vocabulary.{◌≡◌, ℕ, ◌+◌, ◌≤◌, Bool, true, false, if◌then◌else◌, List, [], ◌∷◌, ◌++◌, refl, sym, ap, subst, arith, IsPrefix}
use Rattle.law_moves.proofs.Vocabulary.{Named, is_ping, Message, Text, Pdu, Packet, all_read_of, count_of}
use Rattle.law_moves.proofs.Lemmas.{count_append}
use Rattle.law_peers_moments.proofs.Read.{front_count}

pub ahead_counts : (test : Named → Bool) (named : Named) (came put : List Message)
    → test named ≡ true → IsPrefix (came ++ Packet named ∷ []) (all_read_of put)
    → count_of test came + 1 ≤ count_of test put
ahead_counts test named came put is ahead =
    let front = front_count test (came ++ Packet named ∷ []) put ahead in
    let both = count_append test came (Packet named ∷ []) in
    let one : count_of test (Packet named ∷ []) ≡ 1 =
    subst (λ (b : Bool). ◌≡◌ {A = ℕ} (if b then 1 else 0) 1) (sym is) refl in
    omega (arith, front, both, one)

-- ---- RPC PDUs

abbrev pub HasPdu : List Message → Type 0
HasPdu [] = ⊥
HasPdu (Text bytes ∷ messages) = HasPdu messages
HasPdu (Pdu pdu ∷ messages) = Unit {0}
HasPdu (Packet named ∷ messages) = HasPdu messages

pdu_more : (a b : List Message) → HasPdu a → HasPdu (a ++ b)
pdu_more [] b has = absurd has
pdu_more (Text bytes ∷ a) b has = pdu_more a b has
pdu_more (Pdu pdu ∷ a) b has = tt
pdu_more (Packet named ∷ a) b has = pdu_more a b has

pub pdu_last : (a : List Message) (pdu : List ℕ) → HasPdu (a ++ Pdu pdu ∷ [])
pdu_last [] pdu = tt
pdu_last (Text bytes ∷ a) pdu = pdu_last a pdu
pdu_last (Pdu other ∷ a) pdu = tt
pdu_last (Packet named ∷ a) pdu = pdu_last a pdu

read_pdu : (put : List Message) → HasPdu (all_read_of put) → HasPdu put
read_pdu [] has = has
read_pdu (Text bytes ∷ put) has = read_pdu put has
read_pdu (Pdu pdu ∷ put) has = tt
read_pdu (Packet named ∷ put) has = by (is_ping named) (read_pdu put) has
  where
    by : (b : Bool) → (HasPdu (all_read_of put) → HasPdu put)
        → HasPdu ((if b then [] else Packet named ∷ []) ++ all_read_of put) → HasPdu put
    by true rest has = rest has
    by false rest has = rest has

pub front_pdu : (came put : List Message) → IsPrefix came (all_read_of put) → HasPdu came
    → HasPdu put
front_pdu came put front has =
    read_pdu put (subst HasPdu front.1 (pdu_more came front.0 has))

-- one of them, and what is before it and behind it
pub record OnePdu (ms : List Message) : Type 0 where
  pub before : List Message
  pub pdu : List ℕ
  pub behind : List Message
  pub all : ms ≡ before ++ Pdu pdu ∷ behind

one_behind : (m : Message) (ms : List Message) → OnePdu ms → OnePdu (m ∷ ms)
one_behind m ms one = record {
  before = m ∷ one.before;
  pdu = one.pdu;
  behind = one.behind;
  all = ap (λ (rest : List Message). m ∷ rest) one.all;
}

pub one_pdu : (ms : List Message) → HasPdu ms → OnePdu ms
one_pdu [] has = absurd has
one_pdu (Text bytes ∷ ms) has = one_behind (Text bytes) ms (one_pdu ms has)
one_pdu (Pdu pdu ∷ ms) has = record { before = []; pdu = pdu; behind = ms; all = refl }
one_pdu (Packet named ∷ ms) has = one_behind (Packet named) ms (one_pdu ms has)
