-- what comes next of what an in proxy put on its is leg
use Rattle.law_order.proofs.Vocabulary.{◌≡◌, ◌⊎◌, ℕ, suc, ◌+◌, ◌≤◌, Bool, true, false, if◌then◌else◌, List, [], ◌∷◌, ◌++◌, inl, inr, refl, sym, ap, ◌∙◌, subst, arith, append-nil, AllByRecursion, IsPrefix}
use Rattle.law_moves.proofs.Vocabulary.{Cookie, Named, ConnB1, ConnB2, InR1A2, InR1A6, InR2A2, Ping, is_ping, Message, Text, Pdu, Packet, OnLeg, of_leg, all_read_of, read_of, count_of, HasOne}
use Rattle.law_moves.proofs.Lemmas.{one_so}
use Rattle.law_role_inproxy.proofs.Vocabulary.{InProxyConfig, ci, HasPdu, IsFirst, IsFront, IsPacket, IsPing, IsPlainPacket, IsRest, IsStream}
use Rattle.law_role_inproxy.specs.Putting.Puts as puts
use Rattle.law_role_server.proofs.Vocabulary.{is_conn_b2, is_in_r1_a2, is_in_r1_a6}
use Rattle.law_peers_moments.proofs.Read.{front_count}
use Rattle.law_peers_expects.proofs.InProxyExpects.Channels.{no_next as nothing_next}
use Rattle.law_peers_in_channels.proofs.ServerExpects.FirstIn.{IsConnB1, IsConnB2}

-- ---- packets

-- what came first came
pub first_one : (Is : Named → Type 0) (ms : List Message) → IsFront Is ms → HasOne Is ms
first_one Is [] h = absurd h
first_one Is (Text bytes ∷ ms) h = absurd h
first_one Is (Pdu pdu ∷ ms) h = absurd h
first_one Is (Packet m ∷ ms) h = inl h

pub connects_conn_b1 : (connection channel group : Cookie) (m : Named)
    → puts.Connects connection channel group m → IsConnB1 m
connects_conn_b1 connection channel group
    (ConnB1 version of own lifetime keepalive in_group) h = tt
connects_conn_b1 connection channel group m h = absurd h

-- ---- the next message that is read

-- it stands behind those that came, and is no Ping
pub record IsNext (came put : List Message) (message : Message) : Type 0 where
  pub before : List Message
  pub later : List Message
  pub stands : put ≡ before ++ message ∷ later
  pub read : all_read_of before ≡ came
  pub no_ping : message ≡ Packet Ping → ⊥

behind_unread : (x : Message) (came put : List Message) (m : Message) → read_of x ≡ []
    → IsNext came put m → IsNext came (x ∷ put) m
behind_unread x came put m none next = record {
  before = x ∷ next.before;
  later = next.later;
  stands = ap (λ (xs : List Message). x ∷ xs) next.stands;
  read = ap (λ (xs : List Message). xs ++ all_read_of next.before) none ∙ next.read;
  no_ping = next.no_ping;
}

behind_read : (x : Message) (came put : List Message) (m : Message) → read_of x ≡ x ∷ []
    → (x ≡ Packet Ping → ⊥)
    → ((rest : List Message) → IsPrefix (rest ++ m ∷ []) (all_read_of put) → IsNext rest put m)
    → IsPrefix (came ++ m ∷ []) (x ∷ all_read_of put) → IsNext came (x ∷ put) m
behind_read x [] put m one none next_in front =
    let e : m ∷ front.0 ≡ x ∷ all_read_of put = front.1 in
    let same : x ≡ m = cc in
    record {
      before = [];
      later = put;
      stands = ap (λ (y : Message). y ∷ put) same;
      read = refl;
      no_ping = λ is. none (same ∙ is);
    }
behind_read x (y ∷ came) put m one none next_in front =
    let e : y ∷ ((came ++ m ∷ []) ++ front.0) ≡ x ∷ all_read_of put = front.1 in
    let same : x ≡ y = cc in
    let tail : (came ++ m ∷ []) ++ front.0 ≡ all_read_of put = cc in
    let next = next_in came (front.0, tail) in
    record {
      before = x ∷ next.before;
      later = next.later;
      stands = ap (λ (xs : List Message). x ∷ xs) next.stands;
      read = ap (λ (xs : List Message). xs ++ all_read_of next.before) one
          ∙ ap (λ (xs : List Message). x ∷ xs) next.read
          ∙ ap (λ (z : Message). z ∷ came) same;
      no_ping = next.no_ping;
    }

pub next_of : (came : List Message) (m : Message) (put : List Message)
    → IsPrefix (came ++ m ∷ []) (all_read_of put) → IsNext came put m
next_of came m [] front = absurd (nothing_next came m front)
next_of came m (Text bytes ∷ put) front =
    behind_unread (Text bytes) came put m refl (next_of came m put front)
next_of came m (Pdu pdu ∷ put) front =
    behind_read (Pdu pdu) came put m refl (λ e. absurd cc) (λ rest. next_of rest m put) front
next_of came m (Packet other ∷ put) front =
    by (is_ping other) refl front (λ rest. next_of rest m put)
  where
    read_by : Bool → List Message
    read_by b = if b then [] else Packet other ∷ []

    by : (b : Bool) → is_ping other ≡ b → IsPrefix (came ++ m ∷ []) (read_by b ++ all_read_of put)
        → ((rest : List Message) → IsPrefix (rest ++ m ∷ []) (all_read_of put)
        → IsNext rest put m)
        → IsNext came (Packet other ∷ put) m
    by true e ahead next_in =
        behind_unread (Packet other) came put m (ap read_by e) (next_in came ahead)
    by false e ahead next_in =
        behind_read (Packet other) came put m (ap read_by e)
        (λ is. let same : other ≡ Ping = cc in let yes = ap is_ping same in absurd cc) next_in
        ahead

-- no more of them came than stand before it
pub came_before : (test : Named → Bool) (came put : List Message) (m : Message)
    (next : IsNext came put m) → count_of test came ≤ count_of test next.before
came_before test came put m next =
    front_count test came next.before ([], append-nil came ∙ sym next.read)

-- ---- the first packet

module _ (config : InProxyConfig) (log : List OnLeg) where
  first_read : (m : Named) → IsFirst config log m → read_of (Packet m) ≡ Packet m ∷ []
  first_read (ConnB2 version connection channel window timeout group address padding) h = refl
  first_read (InR1A2 version connection predecessor successor window timeout) h = refl
  first_read m h = absurd h

  -- it begins a channel, and hands none over
  pub first_begins : (m : Named) (ms : List Message) → IsFirst config log m
      → 1 ≤ count_of is_conn_b2 (Packet m ∷ ms) + count_of is_in_r1_a2 (Packet m ∷ ms)
  first_begins (ConnB2 version connection channel window timeout group address padding) ms h =
      omega arith
  first_begins (InR1A2 version connection predecessor successor window timeout) ms h = omega arith
  first_begins m ms h = absurd h

  first_stays : (m : Named) (ms : List Message) → IsFirst config log m
      → count_of is_in_r1_a6 (Packet m ∷ ms) ≡ count_of is_in_r1_a6 ms
  first_stays (ConnB2 version connection channel window timeout group address padding) ms h = refl
  first_stays (InR1A2 version connection predecessor successor window timeout) ms h = refl
  first_stays m ms h = absurd h

  -- ---- behind the first packet

  -- of those that tell the server of a later channel, or hand over, nothing is said; a Ping is
  -- never next
  abbrev pub IsBehindPacket : Named → Type 0
  IsBehindPacket (InR2A2 successor) = Unit {0}
  IsBehindPacket (InR1A6 successor) = Unit {0}
  IsBehindPacket Ping = ⊥
  IsBehindPacket packet = IsPlainPacket log packet

  -- an RPC PDU came on a ci leg
  abbrev pub IsBehind : Message → Type 0
  IsBehind (Text bytes) = ⊥
  IsBehind (Pdu pdu) = (n : ℕ) × HasPdu pdu (of_leg (ci n) log)
  IsBehind (Packet packet) = IsBehindPacket packet

  plain_behind : (m : Named) → (Packet m ≡ Packet Ping → ⊥) → IsPlainPacket log m
      → IsBehindPacket m
  plain_behind (InR2A2 successor) none h = tt
  plain_behind (InR1A6 successor) none h = tt
  plain_behind Ping none h = absurd (none refl)
  plain_behind m none h = h

  is_behind : (n : ℕ) (m : Message) (later : List Message) → IsRest log n (m ∷ later)
      → (m ≡ Packet Ping → ⊥) → IsBehind m
  is_behind n (Text bytes) later h none = absurd h.0
  is_behind n (Pdu pdu) later h none = (h.0.0, h.0.2)
  is_behind n (Packet (InR2A2 successor)) later h none = tt
  is_behind n (Packet (InR1A6 successor)) later h none = tt
  is_behind n (Packet packet) later h none = plain_behind packet none h.0

  last_ping : (before : List Message) (m : Message) (later : List Message)
      → AllByRecursion IsPing (before ++ m ∷ later) → m ≡ Packet Ping
  last_ping [] m later h = h.0
  last_ping (x ∷ before) m later h = last_ping before m later h.1

  -- and no IN_R1/A6 stands before it
  rest_behind : (n : ℕ) (before : List Message) (m : Message) (later : List Message)
      → IsRest log n (before ++ m ∷ later) → (m ≡ Packet Ping → ⊥)
      → IsBehind m × (count_of is_in_r1_a6 before ≡ 0)
  rest_behind n [] m later h none = (is_behind n m later h none, refl)
  rest_behind n (Text bytes ∷ before) m later h none = absurd h.0
  rest_behind n (Pdu pdu ∷ before) m later h none = rest_behind n before m later h.1 none
  rest_behind n (Packet (InR2A2 successor) ∷ before) m later h none =
      rest_behind (suc n) before m later h.1 none
  rest_behind n (Packet (InR1A6 successor) ∷ before) m later h none =
      absurd (none (last_ping before m later h.1))
  rest_behind n (Packet packet ∷ before) m later h none = rest_behind n before m later h.1 none

  -- ---- a message more

  pub record IsFirstMessage (came : List Message) (m : Message) : Type 0 where
    pub none : came ≡ []
    pub first : IsPacket (IsFirst config log) m

  pub record IsLaterMessage (came : List Message) (m : Message) : Type 0 where
    pub packet : Named
    pub first : IsFirst config log packet
    pub rest : List Message
    pub stands : came ≡ Packet packet ∷ rest
    pub behind : IsBehind m
    pub stays : count_of is_in_r1_a6 came ≡ 0

  pub next_message : (came : List Message) (m : Message) (put : List Message)
      → IsStream config log put → IsNext came put m
      → IsFirstMessage came m ⊎ IsLaterMessage came m
  next_message came m put h next =
      by next.before (subst (IsStream config log) next.stands h) next.read
      (came_before is_in_r1_a6 came put m next)
    where
      by : (before : List Message) → IsStream config log (before ++ m ∷ next.later)
          → all_read_of before ≡ came → count_of is_in_r1_a6 came ≤ count_of is_in_r1_a6 before
          → IsFirstMessage came m ⊎ IsLaterMessage came m
      by [] stream read most = inl (record { none = sym read; first = stream.0 })
      by (Text bytes ∷ before) stream read most = absurd stream.0
      by (Pdu pdu ∷ before) stream read most = absurd stream.0
      by (Packet first ∷ before) stream read most =
          let behind = rest_behind config.number before m next.later stream.1 next.no_ping in
          let same = first_stays first before stream.0 in
          let zero = behind.1 in
          inr (record {
            packet = first;
            first = stream.0;
            rest = all_read_of before;
            stands = sym read
                ∙ ap (λ (xs : List Message). xs ++ all_read_of before) (first_read first stream.0);
            behind = behind.0;
            stays = omega (arith, most, same, zero);
          })

  -- ---- CONN/B2

  plain_conn_b2 : (m : Named) → IsPlainPacket log m → IsConnB2 m → ⊥
  plain_conn_b2 (ConnB2 version connection channel window timeout group address padding) h is = h
  plain_conn_b2 m h is = is

  pings_conn_b2 : (ms : List Message) → AllByRecursion IsPing ms → HasOne IsConnB2 ms → ⊥
  pings_conn_b2 [] h has = has
  pings_conn_b2 (m ∷ ms) h has =
      by (subst (λ (x : Message). HasOne IsConnB2 (x ∷ ms)) h.0 has) (pings_conn_b2 ms h.1)
    where
      by : ⊥ ⊎ HasOne IsConnB2 ms → (HasOne IsConnB2 ms → ⊥) → ⊥
      by (inl none) rest = none
      by (inr more) rest = rest more

  rest_conn_b2 : (n : ℕ) (ms : List Message) → IsRest log n ms → HasOne IsConnB2 ms → ⊥
  rest_conn_b2 n [] h has = has
  rest_conn_b2 n (Text bytes ∷ ms) h has = h.0
  rest_conn_b2 n (Pdu pdu ∷ ms) h has = rest_conn_b2 n ms h.1 has
  rest_conn_b2 n (Packet (InR2A2 successor) ∷ ms) h (inl is) = is
  rest_conn_b2 n (Packet (InR2A2 successor) ∷ ms) h (inr has) = rest_conn_b2 (suc n) ms h.1 has
  rest_conn_b2 n (Packet (InR1A6 successor) ∷ ms) h (inl is) = is
  rest_conn_b2 n (Packet (InR1A6 successor) ∷ ms) h (inr has) = pings_conn_b2 ms h.1 has
  rest_conn_b2 n (Packet packet ∷ ms) h (inl is) = plain_conn_b2 packet h.0 is
  rest_conn_b2 n (Packet packet ∷ ms) h (inr has) = rest_conn_b2 n ms h.1 has

  first_conn_b2 : (m : Named) → IsFirst config log m → IsConnB2 m
      → HasOne IsConnB1 (of_leg (ci config.number) log)
  first_conn_b2 (ConnB2 version connection channel window timeout group address padding) h is =
      one_so (puts.Connects connection channel group) IsConnB1
      (connects_conn_b1 connection channel group) (of_leg (ci config.number) log)
      (first_one (puts.Connects connection channel group) (of_leg (ci config.number) log) h.4)
  first_conn_b2 m h is = absurd is

  -- where it was put, CONN/B1 came first
  pub conn_b2_asked : (put : List Message) → IsStream config log put → HasOne IsConnB2 put
      → HasOne IsConnB1 (of_leg (ci config.number) log)
  conn_b2_asked [] h has = absurd has
  conn_b2_asked (Text bytes ∷ rest) h has = absurd h.0
  conn_b2_asked (Pdu pdu ∷ rest) h has = absurd h.0
  conn_b2_asked (Packet m ∷ rest) h (inl is) = first_conn_b2 m h.0 is
  conn_b2_asked (Packet m ∷ rest) h (inr has) =
      absurd (rest_conn_b2 config.number rest h.1 has)
