-- acknowledgements that wait, and where they stand in what a client put
use Rattle.law_order.proofs.Vocabulary.{◌≡◌, ℕ, suc, ◌+◌, ◌≤◌, ◌==◌, ◌&&◌, Bool, true, false, true≢false, if◌then◌else◌, List, [], ◌∷◌, ◌++◌, append_assoc, length, arith, sym, ap, ◌∙◌, subst, and_from, eq-eqb, bytes_eq-Decides, AllByRecursion, bytes_eq, IsPrefix}
use Rattle.law_moves.proofs.Vocabulary.{test_same, Cookie, Named, AckTo, OutR1A7, OutR1A8, Leg, Due, Message, Text, Pdu, Packet, one_if, is_ping, are_one, key_of, OnLeg, of_leg, all_read_of}
use Rattle.law_moves.proofs.Lemmas.{of_append as leg_append}
use Rattle.law_role_client.proofs.Vocabulary.{ci}
use Rattle.law_role_server.proofs.Vocabulary.{is_out_r1_a8}
use Rattle.law_peers_room.proofs.InRoom.Keeping.{on_here}
use Rattle.law_peers_room.proofs.InRoom.Known.{often_in}
use Rattle.law_peers_room.proofs.InRoom.Names.{AreDistinct}
use Rattle.law_peers_room.specs.InRoom.Waiting.{AreApart, CameBehind, IsInTurn, WaitFrom, switches}
use Rattle.law_peers_room.specs.InRoom.Acks.{AcksFrom, IsNear}

-- ---- those that wait

-- their channels
abbrev channel_of : Named → List Cookie
channel_of (AckTo to received available channel) = channel ∷ []
channel_of m = []

abbrev pub acked : List Due → List Cookie
acked [] = []
acked (due ∷ dues) = channel_of due.packet ++ acked dues

module _ (came : List OnLeg) where
  -- each came so, each channel once, and all others that wait are OUT_R1/A8
  pub record AreFound (low often : ℕ) (dues : List Due) : Type 0 where
    pub counted : length dues + often ≡ length (acked dues) + switches came
    pub behind : AllByRecursion (λ (channel : Cookie). CameBehind low channel came) (acked dues)
    pub apart : AreDistinct (acked dues)

  abbrev IsApart : Named → Due → Type 0
  IsApart m other = are_one (key_of m) (key_of other.packet) ≡ false

  sooner : (low often : ℕ) (channel : Cookie) → low ≤ often → CameBehind often channel came
      → CameBehind low channel came
  sooner low often channel least h = record {
    before = h.before;
    later = h.later;
    number = h.number;
    received = h.received;
    available = h.available;
    is = h.is;
    behind = let behind = h.behind in omega (arith, least, behind);
    near = h.near;
  }

  -- of another channel than each of these
  differs : (received available : ℕ) (channel : Cookie) (often : ℕ) (dues : List Due)
      → WaitFrom often came dues
      → AllByRecursion (IsApart (AckTo 3 received available channel)) dues
      → AllByRecursion (λ (other : Cookie). channel ≡ other → ⊥) (acked dues)
  differs received available channel often [] h apart = tt
  differs received available channel often (due ∷ dues) h apart =
      by due.packet h.0 apart.0
      (differs received available channel (often + one_if (is_out_r1_a8 due.packet)) dues h.1
      apart.1)
    where
      Differs : List Cookie → Type 0
      Differs cookies = AllByRecursion (λ (other : Cookie). channel ≡ other → ⊥) cookies

      apart_by : (to : ℕ) (other : Cookie) → to ≡ 3
          → ((3 == to) && bytes_eq channel.0 other.0) ≡ false → channel ≡ other → ⊥
      apart_by to other is e same =
          let first : (3 == to) ≡ true = eq-eqb 3 to (sym is) in
          let second : bytes_eq channel.0 other.0 ≡ true =
          (bytes_eq-Decides channel.0 other.0).1 (ap (λ (c : Cookie). c.0) same) in
          true≢false (sym (and_from (3 == to) (bytes_eq channel.0 other.0) first second) ∙ e)

      by : (m : Named) → IsInTurn often came m
          → are_one (key_of (AckTo 3 received available channel)) (key_of m) ≡ false
          → Differs (acked dues) → Differs (channel_of m ++ acked dues)
      by (AckTo to r a other) is e rest = (apart_by to other is.0 e, rest)
      by (OutR1A8 to successor) is e rest = rest
      by m is e rest = absurd is

  pub found : (low often : ℕ) (dues : List Due) → low ≤ often → WaitFrom often came dues
      → AreApart dues → AreFound low often dues
  found low often [] least h apart =
      record { counted = omega (arith, h); behind = tt; apart = tt }
  found low often (due ∷ dues) least h apart =
      by due.packet h.0 h.1 apart.0
      (found low (often + one_if (is_out_r1_a8 due.packet)) dues (omega (arith, least)) h.1
      apart.1)
    where
      by : (m : Named) → IsInTurn often came m
          → WaitFrom (often + one_if (is_out_r1_a8 m)) came dues
          → AllByRecursion (IsApart m) dues
          → AreFound low (often + one_if (is_out_r1_a8 m)) dues
          → AreFound low often (record due { packet = m } ∷ dues)
      by (AckTo to received available channel) is waits others rest = record {
        counted = let counted = rest.counted in omega (arith, counted);
        behind = (sooner low often channel least is.1, rest.behind);
        apart = (
          differs received available channel (often + 0) dues waits
              (subst (λ (k : ℕ). AllByRecursion (IsApart (AckTo k received available channel))
              dues) is.0 others),
          rest.apart,
        );
      }
      by (OutR1A8 to successor) is waits others rest = record {
        counted = let counted = rest.counted in omega (arith, counted);
        behind = rest.behind;
        apart = rest.apart;
      }
      by m is waits others rest = absurd is

-- ---- what is read of what was put

module _ (Comes : Leg → Cookie → Type 0) where
  acks_front : (often : ℕ) (a b : List Message) → AcksFrom Comes often (a ++ b)
      → AcksFrom Comes (often + often_in a) b
  acks_front often [] b h = subst (λ (n : ℕ). AcksFrom Comes n b) (omega arith) h
  acks_front often (Text bytes ∷ a) b h = acks_front often a b h
  acks_front often (Pdu pdu ∷ a) b h = acks_front often a b h
  acks_front often (Packet (OutR1A7 to successor) ∷ a) b h =
      subst (λ (n : ℕ). AcksFrom Comes n b) (omega arith) (acks_front (suc often) a b h)
  acks_front often (Packet (AckTo to received available channel) ∷ a) b h =
      acks_front often a b h.1
  acks_front often (Packet m ∷ a) b h = acks_front often a b h

  acks_read : (often : ℕ) (put : List Message) → AcksFrom Comes often put
      → AcksFrom Comes often (all_read_of put)
  acks_read often [] h = tt
  acks_read often (Text bytes ∷ put) h = acks_read often put h
  acks_read often (Pdu pdu ∷ put) h = acks_read often put h
  acks_read often (Packet (OutR1A7 to successor) ∷ put) h = acks_read (suc often) put h
  acks_read often (Packet (AckTo to received available channel) ∷ put) h =
      (h.0, acks_read often put h.1)
  acks_read often (Packet m ∷ put) h = by (is_ping m) (acks_read often put h)
    where
      by : (t : Bool) → AcksFrom Comes often (all_read_of put)
          → AcksFrom Comes often ((if t then [] else Packet m ∷ []) ++ all_read_of put)
      by true rest = rest
      by false rest = rest

  -- one that came, by the OUT_R1/A7 that came before it on its leg
  pub near_it : (often : ℕ) (n : ℕ) (came put : List OnLeg)
      → IsPrefix (of_leg (ci n) came) (all_read_of (of_leg (ci n) put))
      → AcksFrom Comes often (of_leg (ci n) put) → (before later : List OnLeg)
      → (received available : ℕ) (channel : Cookie)
      → came ≡ before ++ (ci n, Packet (AckTo 3 received available channel)) ∷ later
      → IsNear Comes (often + often_in (of_leg (ci n) before)) channel
  near_it often n came put front h before later received available channel is =
      (acks_front often (of_leg (ci n) before) (m ∷ (of_leg (ci n) later ++ front.0))
      (subst (AcksFrom Comes often) all (acks_read often (of_leg (ci n) put) h))).0
    where
      m : Message
      m = Packet (AckTo 3 received available channel)

      on : of_leg (ci n) came ≡ of_leg (ci n) before ++ m ∷ of_leg (ci n) later
      on =
          ap (of_leg (ci n)) is
          ∙ leg_append (ci n) before ((ci n, m) ∷ later)
          ∙ ap (λ (ms : List Message). of_leg (ci n) before ++ ms)
          (on_here (ci n) (ci n, m) later (test_same n))

      all : all_read_of (of_leg (ci n) put)
          ≡ of_leg (ci n) before ++ m ∷ (of_leg (ci n) later ++ front.0)
      all =
          sym front.1
          ∙ ap (λ (ms : List Message). ms ++ front.0) on
          ∙ append_assoc (of_leg (ci n) before) (m ∷ of_leg (ci n) later) front.0
