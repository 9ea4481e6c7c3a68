-- the acknowledgements that an in proxy put, and what was told of the channels that it reads
use Rattle.law_order.proofs.Vocabulary.{◌≡◌, ℕ, ◌+◌, ◌≤◌, true, List, [], ◌∷◌, ◌++◌, arith, rules, nat_tests, AllByRecursion}
use Rattle.rh_inproxy.specs.declared.state.Joining.{Joining}
use Rattle.rh_inproxy.specs.declared.state.Successor.{Successor}
use Rattle.rh_inproxy.specs.declared.state.Successor.TheVariants.{Absent, Up, Joined}
use Rattle.rh_inproxy.specs.InReplacement.{is_newcomer}
use Rattle.rh_inproxy.specs.Opening.{leg_of}
use Rattle.law_moves.proofs.Vocabulary.{Cookie, Named, AckTo, Leg, Text, Pdu, Packet, OnLeg, of_leg}
use Rattle.law_moves.proofs.Lemmas.{each_so}
use Rattle.law_role_client.proofs.Receiving.Windows.{leg_rises}
use Rattle.law_role_windows.proofs.Acknowledging.Legs.{leg_begun}
use Rattle.law_role_windows.proofs.Acknowledging.Passing.{packets_so}
use Rattle.law_role_windows.specs.Acknowledging.Acks.{ci_leg as ci, OfPacket, IsTrueOn, IsTrue}

-- ---- the legs of the client are numbered

abbrev pub IsNextNumber : ℕ → Successor → Type 0
IsNextNumber number (Joined leg stage) = leg.number ≡ number + 1
IsNextNumber number (Up n) = n ≡ number + 1
IsNextNumber number Absent = Unit {0}

pub newcomer_number : (number n : ℕ) (z : Successor) → is_newcomer z n ≡ true
    → IsNextNumber number z → n ≡ number + 1
newcomer_number number n (Up k) e is = grind (arith, nat_tests, e, is)
newcomer_number number n (Joined leg stage) e is = absurd cc
newcomer_number number n Absent e is = absurd cc

-- ---- what was told of the channel of a leg

-- the channel of the current leg is told up to there, and the one behind it; an acknowledgement for
-- one of these reaches no further, and there is none for a leg behind them
abbrev pub IsTold : ℕ → ℕ → Successor → ℕ → ℕ → ℕ → Type 0
IsTold number told (Joined leg stage) next m edge =
    (m ≤ leg.number) × (m ≡ number → edge ≤ told) × (m ≡ leg.number → edge ≤ next)
IsTold number told (Up n) next m edge = (m ≤ number) × (m ≡ number → edge ≤ told)
IsTold number told Absent next m edge = (m ≤ number) × (m ≡ number → edge ≤ told)

-- more is told
pub told_rises : (number a b c d : ℕ) (z : Successor) → a ≤ b → c ≤ d → (m edge : ℕ)
    → IsTold number a z c m edge → IsTold number b z d m edge
told_rises number a b c d (Joined leg stage) ab cd m edge h = (
  h.0,
  λ e. let x = h.1 e in omega (arith, x, ab),
  λ e. let x = h.2 e in omega (arith, x, cd),
)
told_rises number a b c d (Up n) ab cd m edge h =
    (h.0, λ e. let x = h.1 e in omega (arith, x, ab))
told_rises number a b c d Absent ab cd m edge h =
    (h.0, λ e. let x = h.1 e in omega (arith, x, ab))

-- a channel joins behind the current one
pub told_joins : (number told next opened n : ℕ) (cookie : Cookie) (stage : Joining)
    (z : Successor) → is_newcomer z n ≡ true → n ≡ number + 1 → (m edge : ℕ)
    → IsTold number told z next m edge
    → IsTold number told (Joined (leg_of n cookie) stage) opened m edge
told_joins number told next opened n cookie stage (Up k) e is m edge h =
    let below = h.0 in
    (omega (arith, below, is), h.1, λ same. absurd (omega (arith, below, is, same)))
told_joins number told next opened n cookie stage (Joined leg other) e is m edge h = absurd cc
told_joins number told next opened n cookie stage Absent e is m edge h = absurd cc

-- ---- of the channel itself

pub told_now : (number told next : ℕ) (z : Successor) (m edge : ℕ)
    → IsTold number told z next m edge → m ≡ number → edge ≤ told
told_now number told next (Joined leg stage) m edge h = h.1
told_now number told next (Up n) m edge h = h.1
told_now number told next Absent m edge h = h.1

pub now_told : (number edge next : ℕ) (z : Successor) → IsNextNumber number z
    → IsTold number edge z next number edge
now_told number edge next (Joined leg stage) is =
    (omega (arith, is), λ e. omega arith, λ e. absurd (omega (arith, is, e)))
now_told number edge next (Up n) is = (omega arith, λ e. omega arith)
now_told number edge next Absent is = (omega arith, λ e. omega arith)

-- ---- acknowledgements

-- one to the client is true, is for a channel that was told that, and of no greater window
abbrev pub IsAck : ℕ → List OnLeg → (ℕ → ℕ → Type 0) → Named → Type 0
IsAck window came Told (AckTo destination received available cookie) =
    destination ≡ 0
    → (m : ℕ) × IsTrueOn (of_leg (ci m) came) received available cookie
    × Told m (received + available) × (available ≤ window)
IsAck window came Told packet = Unit {0}

abbrev pub AreAcks : ℕ → List OnLeg → (ℕ → ℕ → Type 0) → List OnLeg → Type 0
AreAcks window came Told put = AllByRecursion (OfPacket (IsAck window came Told)) put

-- more came
pub acks_more : (window : ℕ) (came : List OnLeg) (one : OnLeg) (Told : ℕ → ℕ → Type 0)
    (put : List OnLeg) → AreAcks window came Told put → AreAcks window (came ++ one ∷ []) Told put
acks_more window came one Told put all =
    packets_so (IsAck window came Told) (IsAck window (came ++ one ∷ []) Told) more put all
  where
    more : (named : Named) → IsAck window came Told named
        → IsAck window (came ++ one ∷ []) Told named
    more (AckTo destination received available cookie) h = λ e.
        let is = h e in (
          is.0,
          record {
            begun = leg_begun (ci is.0) cookie came one is.1.begun;
            came =
                let before = is.1.came in
                let rise = leg_rises (ci is.0) came one in omega (arith, before, rise);
            window = is.1.window;
          },
          is.2,
          is.3,
        )
    more named h = tt

-- what was told is known otherwise
pub acks_so : (window : ℕ) (came : List OnLeg) (Told Other : ℕ → ℕ → Type 0)
    → ((m edge : ℕ) → Told m edge → Other m edge) → (put : List OnLeg)
    → AreAcks window came Told put → AreAcks window came Other put
acks_so window came Told Other so put all =
    packets_so (IsAck window came Told) (IsAck window came Other) other put all
  where
    other : (named : Named) → IsAck window came Told named → IsAck window came Other named
    other (AckTo destination received available cookie) h = λ e.
        let is = h e in (is.0, is.1, so is.0 (received + available) is.2, is.3)
    other named h = tt

pub all_true : (window : ℕ) (came : List OnLeg) (Told : ℕ → ℕ → Type 0) (put : List OnLeg)
    → AreAcks window came Told put → AllByRecursion (IsTrue came) put
all_true window came Told put all =
    each_so (OfPacket (IsAck window came Told)) (IsTrue came) true_one put all
  where
    true_named : (leg : Leg) (named : Named) → IsAck window came Told named
        → IsTrue came (leg, Packet named)
    true_named leg (AckTo destination received available cookie) h = λ e.
        let is = h e in (is.0, is.1)
    true_named leg named h = search rules

    true_one : (one : OnLeg) → OfPacket (IsAck window came Told) one → IsTrue came one
    true_one (leg, Text bytes) h = tt
    true_one (leg, Pdu pdu) h = tt
    true_one (leg, Packet named) h = true_named leg named h

-- no acknowledgement to the client
abbrev pub IsOther : Named → Type 0
IsOther (AckTo destination received available channel) = destination ≡ 0 → ⊥
IsOther packet = Unit {0}

pub other_ack : (window : ℕ) (came : List OnLeg) (Told : ℕ → ℕ → Type 0) (named : Named)
    → IsOther named → IsAck window came Told named
other_ack window came Told (AckTo destination received available cookie) h = λ e. absurd (h e)
other_ack window came Told named h = tt
