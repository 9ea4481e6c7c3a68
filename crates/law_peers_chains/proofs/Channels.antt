-- what begins a channel on the client's leg, and what an out proxy opens for it
use Rattle.law_order.proofs.Vocabulary.{◌≡◌, ◌⊎◌, ℕ, zero, suc, List, [], ◌∷◌, Some, None, inl, inr, refl, sym, ap, ◌∙◌, subst, AllByRecursion}
use Rattle.rh_sig.specs.declared.named.Named.TheVariants.{Ack, AckTo, EndA1, OutR1A7}
use Rattle.rh_audit.specs.declared.packet.First.{First}
use Rattle.law_moves.proofs.Vocabulary.{Cookie, Named, ConnA1, ConnA2, InR1A5, InR2A2, OutR1A3, OutR1A4, OutR2C1, Ping, ClientConfig, Leg, Message, Text, Pdu, Packet, HasOne}
use Rattle.law_moves.proofs.Lemmas.{one_so}
use Rattle.law_role_client.proofs.Vocabulary.{ci, co}
use Rattle.law_role_client_rows.specs.Putting.{Begins, Direction, IsBegun, IsBehind, IsBehindPacket, IsChannel, IsPacket, OutRest, in_way, leg_of, out_way}
use Rattle.law_role_outproxy.proofs.Vocabulary.{OutProxyConfig, NamesNew, NamesSuccessor, AcksPacket, IsAck, IsToServer, OpensServer}
use Rattle.law_peers_in_channels.proofs.InChannels.Announces.{IsInR1A1}
use Rattle.law_peers_chains.specs.Shown.{framed}
use Rattle.law_peers_chains.proofs.Fronts as fronts
use Rattle.law_peers_chains.proofs.Fronts.{IsInR2A2, Starts}

-- ---- a channel

-- the packet that begins it, of which the others are none
begun_by : (request : List ℕ) (Begin : Named → Type 0) (Rest : List Message → Type 0)
    (P : Named → Type 0) → ((ms : List Message) → Rest ms → HasOne P ms → ⊥)
    → (put : List Message) → IsBegun request Begin Rest put → HasOne P put
    → (m : Named) × Begin m × P m
begun_by request Begin Rest P none [] h has = absurd has
begun_by request Begin Rest P none (text ∷ []) h has =
    absurd (subst (λ (m : Message). HasOne P (m ∷ [])) h has)
begun_by request Begin Rest P none (text ∷ first ∷ rest) h has =
    by first h.1 (subst (λ (m : Message). HasOne P (m ∷ first ∷ rest)) h.0 has)
  where
    by : (m : Message) → IsPacket Begin m → HasOne P (m ∷ rest)
        → (n : Named) × Begin n × P n
    by (Text bytes) is one = absurd is
    by (Pdu pdu) is one = absurd is
    by (Packet m) is (inl so) = (m, is, so)
    by (Packet m) is (inr more) = absurd (none rest h.2 more)

-- which stands there then
has_by : (request : List ℕ) (Begin : Named → Type 0) (Rest : List Message → Type 0)
    (P Q : Named → Type 0) → ((m : Named) → Begin m → Q m) → (put : List Message)
    → IsBegun request Begin Rest put → HasOne P put → HasOne Q put
has_by request Begin Rest P Q so [] h has = absurd has
has_by request Begin Rest P Q so (text ∷ []) h has =
    absurd (subst (λ (m : Message). HasOne P (m ∷ [])) h has)
has_by request Begin Rest P Q so (text ∷ first ∷ rest) h has = by first h.1
  where
    by : (m : Message) → IsPacket Begin m → HasOne Q (text ∷ m ∷ rest)
    by (Text bytes) is = absurd is
    by (Pdu pdu) is = absurd is
    by (Packet m) is =
        subst (λ (x : Message). HasOne Q (x ∷ Packet m ∷ rest)) (sym h.0) (inl (so m is))

starts_by : (request : List ℕ) (Begin : Named → Type 0) (Rest : List Message → Type 0)
    → ((m : Named) → Begin m → (begun : First) × fronts.Begins begun m)
    → (put : List Message) → IsBegun request Begin Rest put → Starts put
starts_by request Begin Rest so [] h = inl refl
starts_by request Begin Rest so (text ∷ []) h =
    inl (ap (λ (m : Message). framed (m ∷ [])) h)
starts_by request Begin Rest so (text ∷ first ∷ rest) h = by first h.1
  where
    by : (m : Message) → IsPacket Begin m → Starts (text ∷ m ∷ rest)
    by (Text bytes) is = absurd is
    by (Pdu pdu) is = absurd is
    by (Packet m) is =
        let begun = so m is in
        inr (
          m,
          framed rest,
          begun.0,
          ap (λ (x : Message). framed (x ∷ Packet m ∷ rest)) h.0,
          begun.1,
        )

-- the first channel connects, and another replaces the one below it
pub record IsNew (Comes : ℕ → Cookie → Type 0) (n : ℕ) (begun : First) : Type 0 where
  pub number : n ≡ 1
  pub own : Comes n begun.own
  pub none : begun.predecessor ≡ None

pub record IsNext (Comes : ℕ → Cookie → Type 0) (n : ℕ) (begun : First) : Type 0 where
  pub below : ℕ
  pub number : n ≡ suc (suc below)
  pub own : Comes n begun.own
  pub before : Cookie
  pub some : begun.predecessor ≡ Some before
  pub follows : Comes (suc below) before

abbrev pub IsOne : (ℕ → Cookie → Type 0) → ℕ → First → Type 0
IsOne Comes n begun = IsNew Comes n begun ⊎ IsNext Comes n begun

same_begun : (a b : First) → Some a ≡ Some b → a ≡ b
same_begun a b e = cc

module _ (Comes : Leg → Cookie → Type 0) (Early : Leg → Type 0) (way : Direction)
    (late : Early (leg_of way 1) → ⊥)
    (first_so : (own : Cookie)
    → fronts.Begins (fronts.new own) (way.first own))
    (next_so : (before own : Cookie)
    → fronts.Begins (fronts.next before own) (way.next before own)) where
  abbrev pub Ups : ℕ → Cookie → Type 0
  Ups n cookie = Comes (leg_of way n) cookie

  begins_one : (k : ℕ) (m : Named) → Begins way Comes Early k m
      → (begun : First) × fronts.Begins begun m
  begins_one zero m h =
      let begun : First = fronts.new h.own in
      (begun, subst (fronts.Begins begun) (sym h.is) (first_so h.own))
  begins_one (suc k) m h =
      let begun : First = fronts.next h.before h.own in
      (begun, subst (fronts.Begins begun) (sym h.is) (next_so h.before h.own))

  -- the packet is that of this channel
  begun_is : (k : ℕ) (m : Named) (begun : First) → Begins way Comes Early k m
      → fronts.Begins begun m → IsOne Ups (suc k) begun
  begun_is zero m begun h is =
      let this : First = fronts.new h.own in
      subst (IsOne Ups 1)
      (same_begun this begun (sym (first_so h.own) ∙ subst (fronts.Begins begun) h.is is))
      (inl (record { number = refl; own = h.names; none = refl }))
  begun_is (suc k) m begun h is =
      let this : First = fronts.next h.before h.own in
      subst (IsOne Ups (suc (suc k)))
      (same_begun this begun (sym (next_so h.before h.own) ∙ subst (fronts.Begins begun) h.is is))
      (inr (record {
        below = k;
        number = refl;
        own = h.names;
        before = h.before;
        some = refl;
        follows = by h.follows;
      }))
    where
      by : Comes (leg_of way (suc k)) h.before ⊎ ((k ≡ 0) × Early (leg_of way 1))
          → Comes (leg_of way (suc k)) h.before
      by (inl comes) = comes
      by (inr early) = absurd (late early.1)

  pub starts : (n : ℕ) (put : List Message) → IsChannel way Comes Early n put → Starts put
  starts zero put h = inl (ap framed h)
  starts (suc k) put h =
      starts_by (way.request k) (Begins way Comes Early k) (way.Rest k) (begins_one k) put h

  module _ (P : Named → Type 0)
      (none : (k : ℕ) (ms : List Message) → way.Rest k ms → HasOne P ms → ⊥) where
    -- a packet that is none of the rest begins the channel
    abbrev pub Begun : ℕ → Type 0
    Begun n = (k : ℕ) × (n ≡ suc k) × (m : Named) × Begins way Comes Early k m × P m

    pub channel_one : (n : ℕ) (put : List Message) → IsChannel way Comes Early n put
        → HasOne P put → Begun n
    channel_one zero put h has = absurd (subst (HasOne P) h has)
    channel_one (suc k) put h has =
        let one = begun_by (way.request k) (Begins way Comes Early k) (way.Rest k) P (none k) put h
        has in (k, refl, one.0, one.1, one.2)

  -- a channel that is not the first begins by such a packet
  pub replaced_by : (P Q : Named → Type 0) → ((before own : Cookie) → Q (way.next before own))
      → (below : ℕ) (put : List Message) → IsChannel way Comes Early (suc (suc below)) put
      → HasOne P put → HasOne Q put
  replaced_by P Q so below put h has =
      has_by (way.request (suc below)) (Begins way Comes Early (suc below)) (way.Rest (suc below)) P
      Q (λ m begun. subst Q (sym begun.is) (so begun.before begun.own)) put h has

  pub begins : (n : ℕ) (put : List Message) (begun : First) → IsChannel way Comes Early n put
      → ((k : ℕ) (ms : List Message) → way.Rest k ms → HasOne (fronts.Begins begun) ms → ⊥)
      → HasOne (fronts.Begins begun) put → IsOne Ups n begun
  begins n put begun h none has =
      let one = channel_one (fronts.Begins begun) none n put h has in
      subst (λ (k : ℕ). IsOne Ups k begun) (sym one.1)
      (begun_is one.0 one.2 begun one.3 one.4)

-- ---- IN channels

begins_none : (begun : First) (IsNext : Cookie → Type 0) (m : Named) → IsBehindPacket IsNext m
    → fronts.Begins begun m → ⊥
begins_none begun IsNext (AckTo to received available cookie) h is = let both = is in absurd cc
begins_none begun IsNext (OutR1A7 to successor) h is = let both = is in absurd cc
begins_none begun IsNext EndA1 h is = let both = is in absurd cc
begins_none begun IsNext (InR1A5 successor) h is = let both = is in absurd cc
begins_none begun IsNext Ping h is = let both = is in absurd cc
begins_none begun IsNext m h is = h

anew_none : (IsNext : Cookie → Type 0) (m : Named) → IsBehindPacket IsNext m → IsInR2A2 m → ⊥
anew_none IsNext (InR2A2 successor) h is = h
anew_none IsNext m h is = is

module _ (P : Named → Type 0)
    (none : (IsNext : Cookie → Type 0) (m : Named) → IsBehindPacket IsNext m → P m → ⊥)
    (IsNext : Cookie → Type 0) where
  behind_none : (ms : List Message) → AllByRecursion (IsBehind IsNext) ms → HasOne P ms → ⊥
  behind_none [] all h = h
  behind_none (Text bytes ∷ ms) all h = all.0
  behind_none (Pdu pdu ∷ ms) all h = behind_none ms all.1 h
  behind_none (Packet m ∷ ms) all (inl is) = none IsNext m all.0 is
  behind_none (Packet m ∷ ms) all (inr h) = behind_none ms all.1 h

module _ (config : ClientConfig) (Comes : Leg → Cookie → Type 0) (Early : Leg → Type 0)
    (late : Early (ci 1) → ⊥) (n : ℕ) (put : List Message)
    (h : IsChannel (in_way config Comes) Comes Early n put) where
  pub in_starts : Starts put
  in_starts =
      starts Comes Early (in_way config Comes) late (λ own. refl) (λ before own. refl) n put h

  pub in_begins : (begun : First) → HasOne (fronts.Begins begun) put
      → IsOne (λ k cookie. Comes (ci k) cookie) n begun
  in_begins begun has =
      begins Comes Early (in_way config Comes) late (λ own. refl) (λ before own. refl) n put begun h
      (λ k ms rest.
      behind_none (fronts.Begins begun) (begins_none begun) (Comes (ci (suc (suc k)))) ms rest) has

  pub in_none_anew : HasOne IsInR2A2 put → ⊥
  in_none_anew has =
      let one = channel_one Comes Early (in_way config Comes) late (λ own. refl)
      (λ before own. refl) IsInR2A2
      (λ k ms rest. behind_none IsInR2A2 anew_none (Comes (ci (suc (suc k)))) ms rest) n put h has
      in by one.0 one.2 one.3 one.4
    where
      by : (k : ℕ) (m : Named) → Begins (in_way config Comes) Comes Early k m → IsInR2A2 m → ⊥
      by zero m first is = subst IsInR2A2 first.is is
      by (suc k) m first is = subst IsInR2A2 first.is is

-- a channel that is not the first begins by IN_R1/A1
pub in_asks : (config : ClientConfig) (Comes : Leg → Cookie → Type 0) (Early : Leg → Type 0)
    → (Early (ci 1) → ⊥) → (below : ℕ) (put : List Message)
    → IsChannel (in_way config Comes) Comes Early (suc (suc below)) put → (P : Named → Type 0)
    → HasOne P put → HasOne IsInR1A1 put
in_asks config Comes Early late below put h P has =
    replaced_by Comes Early (in_way config Comes) late (λ own. refl) (λ before own. refl) P IsInR1A1
    (λ before own. tt) below put h has

-- ---- OUT channels

abbrev pub IsOutR1A3 : Named → Type 0
IsOutR1A3 (OutR1A3 version connection predecessor successor window) = Unit {0}
IsOutR1A3 packet = ⊥

-- a channel that is not the first begins by OUT_R1/A3
pub out_asks : (config : ClientConfig) (Comes : Leg → Cookie → Type 0) (Early : Leg → Type 0)
    → (Early (co 1) → ⊥) → (below : ℕ) (put : List Message)
    → IsChannel (out_way config) Comes Early (suc (suc below)) put → (P : Named → Type 0)
    → HasOne P put → HasOne IsOutR1A3 put
out_asks config Comes Early late below put h P has =
    replaced_by Comes Early (out_way config) late (λ own. refl) (λ before own. refl) P IsOutR1A3
    (λ before own. tt) below put h has

out_none : (P : Named → Type 0) → (P OutR2C1 → ⊥) → (n : ℕ) (ms : List Message)
    → OutRest n ms → HasOne P ms → ⊥
out_none P none zero ms e has = absurd (subst (HasOne P) e has)
out_none P none (suc n) ms (inl e) has = absurd (subst (HasOne P) e has)
out_none P none (suc n) ms (inr e) has = by (subst (HasOne P) e has)
  where
    by : P OutR2C1 ⊎ ⊥ → ⊥
    by (inl is) = none is
    by (inr no') = no'

module _ (config : ClientConfig) (Comes : Leg → Cookie → Type 0) (Early : Leg → Type 0)
    (late : Early (co 1) → ⊥) (n : ℕ) (put : List Message)
    (h : IsChannel (out_way config) Comes Early n put) where
  pub out_starts : Starts put
  out_starts = starts Comes Early (out_way config) late (λ own. refl) (λ before own. refl) n put h

  pub out_begins : (begun : First) → HasOne (fronts.Begins begun) put
      → IsOne (λ k cookie. Comes (co k) cookie) n begun
  out_begins begun has =
      begins Comes Early (out_way config) late (λ own. refl) (λ before own. refl) n put begun h
      (out_none (fronts.Begins begun) (λ is. let both = is in absurd cc)) has

  pub out_none_anew : HasOne IsInR2A2 put → ⊥
  out_none_anew has =
      let one = channel_one Comes Early (out_way config) late (λ own. refl) (λ before own. refl)
      IsInR2A2 (out_none IsInR2A2 (λ is. is)) n put h has in by one.0 one.2 one.3 one.4
    where
      by : (k : ℕ) (m : Named) → Begins (out_way config) Comes Early k m → IsInR2A2 m → ⊥
      by zero m first is = subst IsInR2A2 first.is is
      by (suc k) m first is = subst IsInR2A2 first.is is

-- ---- what an out proxy puts to the server

abbrev pub IsConnA2 : Named → Type 0
IsConnA2 (ConnA2 version connection channel lifetime window) = Unit {0}
IsConnA2 packet = ⊥

-- CONN/A2 or OUT_R1/A4
abbrev pub IsOpening : Named → Type 0
IsOpening (ConnA2 version connection channel lifetime window) = Unit {0}
IsOpening (OutR1A4 version connection predecessor successor lifetime window timeout) = Unit {0}
IsOpening packet = ⊥

names_new : (connection channel : Cookie) (m : Named) → NamesNew connection channel m
    → fronts.Begins (fronts.new channel) m
names_new connection channel (ConnA1 version of own window) h =
    ap (λ (c : Cookie). Some (fronts.new c)) h.1
names_new connection channel m h = absurd h

names_successor : (connection predecessor successor : Cookie) (m : Named)
    → NamesSuccessor connection predecessor successor m
    → fronts.Begins (fronts.next predecessor successor) m
names_successor connection predecessor successor (OutR1A3 version of before own window) h =
    ap (λ (c : Cookie). Some (fronts.next c own)) h.1
    ∙ ap (λ (c : Cookie). Some (fronts.next predecessor c)) h.2
names_successor connection predecessor successor m h = absurd h

module _ (config : OutProxyConfig) (asked : List Message) where
  no_ack : (P : Named → Type 0) (none : (received available : ℕ) (channel : Cookie)
      → P (Ack received available channel) → ⊥) (cookie : Cookie) (m : Named)
      → AcksPacket cookie m → P m → ⊥
  no_ack P none cookie (Ack received available channel) h is = none received available channel is
  no_ack P none cookie m h is = h

  module _ (P : Named → Type 0)
      (none : (received available : ℕ) (channel : Cookie) → P (Ack received available channel)
      → ⊥) where
    acks_none : (cookie : Cookie) (ms : List Message) → AllByRecursion (IsAck cookie) ms
        → HasOne P ms → ⊥
    acks_none cookie [] h has = has
    acks_none cookie (Text bytes ∷ ms) h has = h.0
    acks_none cookie (Pdu pdu ∷ ms) h has = h.0
    acks_none cookie (Packet m ∷ ms) h (inl is) = no_ack P none cookie m h.0 is
    acks_none cookie (Packet m ∷ ms) h (inr has) = acks_none cookie ms h.1 has

    -- a packet that is no acknowledgement opens the channel
    pub opens : (put : List Message) → IsToServer config asked put → HasOne P put
        → (cookie : Cookie) × (m : Named) × OpensServer config asked cookie m × P m
    opens [] h has = absurd has
    opens (first ∷ rest) h has =
        by (subst (λ (x : Message). HasOne P (x ∷ rest)) h.is has)
      where
        by : P h.packet ⊎ HasOne P rest
            → (cookie : Cookie) × (m : Named) × OpensServer config asked cookie m × P m
        by (inl is) = (h.cookie, h.packet, h.opens, is)
        by (inr more) = absurd (acks_none h.cookie rest h.acks more)

  -- CONN/A2 for CONN/A1, or OUT_R1/A4 for OUT_R1/A3
  opened_is : (cookie : Cookie) (m : Named) (begun : First) → OpensServer config asked cookie m
      → fronts.Begins begun m → HasOne (fronts.Begins begun) asked
  opened_is cookie (ConnA2 version connection channel lifetime window) begun h is =
      subst (λ (f : First). HasOne (fronts.Begins f) asked)
      (same_begun (fronts.new channel) begun is)
      (one_so (NamesNew connection channel) (fronts.Begins (fronts.new channel))
      (names_new connection channel) asked h.4)
  opened_is cookie (OutR1A4 version connection predecessor successor lifetime window timeout) begun
      h is =
      subst (λ (f : First). HasOne (fronts.Begins f) asked)
      (same_begun (fronts.next predecessor successor) begun is)
      (one_so (NamesSuccessor connection predecessor successor)
      (fronts.Begins (fronts.next predecessor successor))
      (names_successor connection predecessor successor) asked h.5)
  opened_is cookie m begun h is = absurd h

  opens_begins : (cookie : Cookie) (m : Named) → OpensServer config asked cookie m
      → (begun : First) × fronts.Begins begun m
  opens_begins cookie (ConnA2 version connection channel lifetime window) h =
      (fronts.new channel, refl)
  opens_begins cookie (OutR1A4 version connection predecessor successor lifetime window timeout) h =
      (fronts.next predecessor successor, refl)
  opens_begins cookie m h = absurd h

  pub to_server_starts : (put : List Message) → IsToServer config asked put → Starts put
  to_server_starts [] h = inl refl
  to_server_starts (first ∷ rest) h =
      let begun = opens_begins h.cookie h.packet h.opens in
      inr (
        h.packet,
        framed rest,
        begun.0,
        ap (λ (x : Message). framed (x ∷ rest)) h.is,
        begun.1,
      )

  pub to_server_begins : (begun : First) (put : List Message) → IsToServer config asked put
      → HasOne (fronts.Begins begun) put → HasOne (fronts.Begins begun) asked
  to_server_begins begun put h has =
      let one = opens (fronts.Begins begun)
      (λ received available channel is. let both = is in absurd cc) put h has in
      opened_is one.0 one.1 begun one.2 one.3

  no_anew : (cookie : Cookie) (m : Named) → OpensServer config asked cookie m → IsInR2A2 m → ⊥
  no_anew cookie (InR2A2 successor) h is = h
  no_anew cookie m h is = is

  pub to_server_none_anew : (put : List Message) → IsToServer config asked put
      → HasOne IsInR2A2 put → ⊥
  to_server_none_anew put h has =
      let one = opens IsInR2A2 (λ received available channel is. is) put h has in
      no_anew one.0 one.1 one.2 one.3

  -- ---- what came for it

  pub opening_asked : (put : List Message) → IsToServer config asked put → HasOne IsOpening put
      → (begun : First) × HasOne (fronts.Begins begun) asked
  opening_asked put h has =
      let one = opens IsOpening (λ received available channel is. is) put h has in
      let begun = opens_begins one.0 one.1 one.2 in
      (begun.0, opened_is one.0 one.1 begun.0 one.2 begun.1)

  conn_a2_by : (cookie : Cookie) (m : Named) → OpensServer config asked cookie m → IsConnA2 m
      → (channel : Cookie) × HasOne (fronts.Begins (fronts.new channel)) asked
  conn_a2_by cookie (ConnA2 version connection channel lifetime window) h is = (
    channel,
    opened_is cookie (ConnA2 version connection channel lifetime window)
        (fronts.new channel) h refl,
  )
  conn_a2_by cookie m h is = absurd is

  pub conn_a2_asked : (put : List Message) → IsToServer config asked put → HasOne IsConnA2 put
      → (channel : Cookie) × HasOne (fronts.Begins (fronts.new channel)) asked
  conn_a2_asked put h has =
      let one = opens IsConnA2 (λ received available channel is. is) put h has in
      conn_a2_by one.0 one.1 one.2 one.3
