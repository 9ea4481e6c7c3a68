-- which channel opens with what came from a client, and what an out proxy puts to the server for it
use Rattle.law_order.proofs.Vocabulary.{◌≡◌, ◌⊎◌, ℕ, zero, suc, List, [], ◌∷◌, ◌++◌, inl, inr, refl, sym, ap, ◌∙◌, subst, AllByRecursion, IsPrefix}
use Rattle.rh_sig.specs.declared.named.Named.TheVariants.{Ack}
use Rattle.law_moves.proofs.Vocabulary.{Cookie, Named, ConnA2, OutR1A4, OutR2C1, ClientConfig, Leg, Message, Text, Pdu, Packet, all_read_of, read_of, HasOne}
use Rattle.law_role_client.proofs.Vocabulary.{co}
use Rattle.law_role_outproxy.proofs.Vocabulary.{OutProxyConfig, NamesNew, NamesSuccessor, AcksPacket, IsAck, IsToServer, OpensServer}
use Rattle.law_role_client_rows.specs.Putting.{Begins, IsBegun, IsChannel, IsPacket, OutRest, out_way}
use Rattle.law_peers_in_channels.proofs.ServerExpects.Refused.{same_packet}

-- ---- an OUT channel of the client

-- what begins it, or is the rest
begun_one : (request : List ℕ) (Begin : Named → Type 0) (Rest : List Message → Type 0)
    (P : Named → Type 0) → ((ms : List Message) → Rest ms → HasOne P ms → ⊥)
    → (put : List Message) → IsBegun request Begin Rest put → HasOne P put
    → (m : Named) × Begin m × P m
begun_one request Begin Rest P none [] h has = absurd has
begun_one request Begin Rest P none (text ∷ []) h has =
    absurd (subst (λ (m : Message). HasOne P (m ∷ [])) h has)
begun_one request Begin Rest P none (text ∷ first ∷ rest) h has =
    by first h.1 (subst (λ (m : Message). HasOne P (m ∷ first ∷ rest)) h.0 has)
  where
    by : (m : Message) → IsPacket Begin m → HasOne P (m ∷ rest)
        → (n : Named) × Begin n × P n
    by (Text bytes) is one = absurd is
    by (Pdu pdu) is one = absurd is
    by (Packet m) is (inl so) = (m, is, so)
    by (Packet m) is (inr more) = absurd (none rest h.2 more)

out_rest_none : (P : Named → Type 0) → (P OutR2C1 → ⊥) → (n : ℕ) (ms : List Message)
    → OutRest n ms → HasOne P ms → ⊥
out_rest_none P none zero ms e has = absurd (subst (HasOne P) e has)
out_rest_none P none (suc n) ms (inl e) has = absurd (subst (HasOne P) e has)
out_rest_none P none (suc n) ms (inr e) has = by (subst (HasOne P) e has)
  where
    by : P OutR2C1 ⊎ ⊥ → ⊥
    by (inl is) = none is
    by (inr no') = no'

module _ (config : ClientConfig) (Comes : Leg → Cookie → Type 0) (Early : Leg → Type 0) where
  abbrev IsOut : ℕ → List Message → Type 0
  IsOut n put = IsChannel (out_way config) Comes Early n put

  abbrev Opening : ℕ → Named → Type 0
  Opening n m = Begins (out_way config) Comes Early n m

  begun : (P : Named → Type 0) → (P OutR2C1 → ⊥) → (n : ℕ) (put : List Message)
      → IsOut (suc n) put → HasOne P put → (m : Named) × Opening n m × P m
  begun P none n put h has =
      begun_one ((out_way config).request n) (Opening n) (OutRest n) P (out_rest_none P none n) put
      h has

  -- CONN/A1 is on the first
  pub record IsNew (n : ℕ) (connection channel : Cookie) : Type 0 where
    pub first : n ≡ 1
    pub of : config.connection ≡ connection
    pub comes : Comes (co 1) channel

  pub new_named : (connection channel : Cookie) (n : ℕ) (put : List Message) → IsOut n put
      → HasOne (NamesNew connection channel) put → IsNew n connection channel
  new_named connection channel zero put h has =
      absurd (subst (HasOne (NamesNew connection channel)) h has)
  new_named connection channel (suc n) put h has =
      by n (begun (NamesNew connection channel) (λ no'. no') n put h has)
    where
      by : (k : ℕ) → (m : Named) × Opening k m × NamesNew connection channel m
          → IsNew (suc k) connection channel
      by zero one =
          let is = subst (NamesNew connection channel) one.1.is one.2 in record {
            first = refl;
            of = is.0;
            comes = subst (Comes (co 1)) is.1 one.1.names;
          }
      by (suc k) one = absurd (subst (NamesNew connection channel) one.1.is one.2)

  -- OUT_R1/A3 is on each other
  pub record IsNext (n : ℕ) (connection predecessor successor : Cookie) : Type 0 where
    pub below : ℕ
    pub number : n ≡ suc (suc below)
    pub of : config.connection ≡ connection
    pub comes : Comes (co (suc (suc below))) successor
    pub follows : Comes (co (suc below)) predecessor ⊎ ((below ≡ 0) × Early (co 1))

  pub next_named : (connection predecessor successor : Cookie) (n : ℕ) (put : List Message)
      → IsOut n put → HasOne (NamesSuccessor connection predecessor successor) put
      → IsNext n connection predecessor successor
  next_named connection predecessor successor zero put h has =
      absurd (subst (HasOne (NamesSuccessor connection predecessor successor)) h has)
  next_named connection predecessor successor (suc n) put h has =
      by n (begun (NamesSuccessor connection predecessor successor) (λ no'. no') n put h has)
    where
      by : (k : ℕ)
          → (m : Named) × Opening k m × NamesSuccessor connection predecessor successor m
          → IsNext (suc k) connection predecessor successor
      by zero one =
          absurd (subst (NamesSuccessor connection predecessor successor) one.1.is one.2)
      by (suc k) one =
          let is = subst (NamesSuccessor connection predecessor successor) one.1.is one.2 in
          record {
            below = k;
            number = refl;
            of = is.0;
            comes = subst (Comes (co (suc (suc k)))) is.2 one.1.names;
            follows = subst (λ (c : Cookie). Comes (co (suc k)) c ⊎ ((k ≡ 0) × Early (co 1))) is.1
                one.1.follows;
          }

  -- ---- a channel at the server

  -- the packet opens the channel of this number as the client opened it
  abbrev pub OpensRightly : ℕ → Named → Type 0
  OpensRightly n (ConnA2 version connection channel lifetime window) =
      IsNew n connection channel
  OpensRightly n (OutR1A4 version connection predecessor successor lifetime window timeout) =
      IsNext n connection predecessor successor
  OpensRightly n packet = ⊥

-- ---- what an out proxy puts to the server

module _ (config : OutProxyConfig) (asked : List Message) where
  first_read : (cookie : Cookie) (m : Named) → OpensServer config asked cookie m
      → read_of (Packet m) ≡ Packet m ∷ []
  first_read cookie (ConnA2 version connection channel lifetime window) h = refl
  first_read cookie (OutR1A4 version connection predecessor successor lifetime window timeout) h =
      refl
  first_read cookie m h = absurd h

  acks_read : (cookie : Cookie) (ms : List Message) → AllByRecursion (IsAck cookie) ms
      → all_read_of ms ≡ ms
  acks_read cookie [] h = refl
  acks_read cookie (Text bytes ∷ ms) h = absurd h.0
  acks_read cookie (Pdu pdu ∷ ms) h = absurd h.0
  acks_read cookie (Packet (Ack received available channel) ∷ ms) h =
      ap (λ (xs : List Message). Packet (Ack received available channel) ∷ xs)
      (acks_read cookie ms h.1)
  acks_read cookie (Packet m ∷ ms) h = absurd h.0

  -- all of it is read
  all_read : (put : List Message) → IsToServer config asked put → all_read_of put ≡ put
  all_read [] h = refl
  all_read (first ∷ rest) h =
      subst (λ (m : Message). all_read_of (m ∷ rest) ≡ m ∷ rest) (sym h.is)
      (ap (λ (xs : List Message). xs ++ all_read_of rest) (first_read h.cookie h.packet h.opens)
      ∙ ap (λ (xs : List Message). Packet h.packet ∷ xs) (acks_read h.cookie rest h.acks))

  acks_front : (cookie : Cookie) (a b : List Message) → AllByRecursion (IsAck cookie) (a ++ b)
      → AllByRecursion (IsAck cookie) a
  acks_front cookie [] b h = tt
  acks_front cookie (m ∷ a) b h = (h.0, acks_front cookie a b h.1)

  front_to_server : (a b : List Message) → IsToServer config asked (a ++ b)
      → IsToServer config asked a
  front_to_server [] b h = tt
  front_to_server (m ∷ a) b h = record {
    packet = h.packet;
    is = h.is;
    cookie = h.cookie;
    opens = h.opens;
    acks = acks_front h.cookie a b h.acks;
  }

  -- so is what came of it
  pub came_to_server : (came put : List Message) → IsPrefix came (all_read_of put)
      → IsToServer config asked put → IsToServer config asked came
  came_to_server came put front h =
      front_to_server came front.0
      (subst (IsToServer config asked) (sym (front.1 ∙ all_read put h)) h)

  -- ---- what is among it

  pub no_acks : (P : Named → Type 0)
      → ((received available : ℕ) (channel : Cookie) → P (Ack received available channel) → ⊥)
      → (cookie : Cookie) (ms : List Message) → AllByRecursion (IsAck cookie) ms → HasOne P ms → ⊥
  no_acks P none cookie [] h has = absurd has
  no_acks P none cookie (Text bytes ∷ ms) h has = absurd h.0
  no_acks P none cookie (Pdu pdu ∷ ms) h has = absurd h.0
  no_acks P none cookie (Packet (Ack received available channel) ∷ ms) h (inl is) =
      none received available channel is
  no_acks P none cookie (Packet (Ack received available channel) ∷ ms) h (inr has) =
      no_acks P none cookie ms h.1 has
  no_acks P none cookie (Packet m ∷ ms) h has = absurd h.0

  -- what is no acknowledgement is the packet that opens the channel
  pub record IsOpening (P : Named → Type 0) : Type 0 where
    pub packet : Named
    pub cookie : Cookie
    pub opens : OpensServer config asked cookie packet
    pub so : P packet

  pub opening : (P : Named → Type 0)
      → ((received available : ℕ) (channel : Cookie) → P (Ack received available channel) → ⊥)
      → (ms : List Message) → IsToServer config asked ms → HasOne P ms → IsOpening P
  opening P none [] h has = absurd has
  opening P none (first ∷ rest) h has =
      by (subst (λ (m : Message). HasOne P (m ∷ rest)) h.is has)
    where
      by : P h.packet ⊎ HasOne P rest → IsOpening P
      by (inl so) =
          record { packet = h.packet; cookie = h.cookie; opens = h.opens; so = so }
      by (inr more) = absurd (no_acks P none h.cookie rest h.acks more)

  -- ---- a message more

  -- it is the first, and opens the channel; or it acknowledges with the channel's cookie
  pub record IsFirstPacket (came : List Message) (m : Named) : Type 0 where
    pub none : came ≡ []
    pub cookie : Cookie
    pub opens : OpensServer config asked cookie m

  pub record IsLaterPacket (came : List Message) (m : Named) : Type 0 where
    pub packet : Named
    pub rest : List Message
    pub behind : came ≡ Packet packet ∷ rest
    pub cookie : Cookie
    pub opens : OpensServer config asked cookie packet
    pub acks : AllByRecursion (IsAck cookie) rest
    pub acked : AcksPacket cookie m

  last_ack : (cookie : Cookie) (rest : List Message) (message : Message)
      → AllByRecursion (IsAck cookie) (rest ++ message ∷ []) → IsAck cookie message
  last_ack cookie [] message h = h.0
  last_ack cookie (x ∷ rest) message h = last_ack cookie rest message h.1

  pub next_packet : (came : List Message) (m : Named)
      → IsToServer config asked (came ++ Packet m ∷ [])
      → IsFirstPacket came m ⊎ IsLaterPacket came m
  next_packet [] m h =
      inl (record {
        none = refl;
        cookie = h.cookie;
        opens = subst (OpensServer config asked h.cookie) (sym (same_packet m h.packet h.is))
            h.opens;
      })
  next_packet (first ∷ rest) m h =
      inr (record {
        packet = h.packet;
        rest = rest;
        behind = ap (λ (x : Message). x ∷ rest) h.is;
        cookie = h.cookie;
        opens = h.opens;
        acks = acks_front h.cookie rest (Packet m ∷ []) h.acks;
        acked = last_ack h.cookie rest (Packet m) h.acks;
      })

  -- no RPC PDU is next
  pub no_pdu : (came : List Message) (bytes : List ℕ)
      → IsToServer config asked (came ++ Pdu bytes ∷ []) → ⊥
  no_pdu [] bytes h = let is : Pdu bytes ≡ Packet h.packet = h.is in absurd cc
  no_pdu (first ∷ rest) bytes h = last_ack h.cookie rest (Pdu bytes) h.acks
