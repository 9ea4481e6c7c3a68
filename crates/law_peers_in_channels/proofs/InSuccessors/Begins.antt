-- what begins an IN channel of the client, and which cookies that names
use Rattle.law_order.proofs.Vocabulary.{◌≡◌, ◌⊎◌, ℕ, zero, suc, List, [], ◌∷◌, inl, inr, refl, sym, subst, AllByRecursion}
use Rattle.law_moves.proofs.Vocabulary.{Cookie, Named, ConnB1, InR1A1, ClientConfig, Leg, Message, Text, Pdu, Packet, EndMove, of_leg, BeginsIn, HasBegunIn, HasOne, HasComeUp}
use Rattle.law_role_inproxy.specs.Putting.Puts as puts
use Rattle.law_role_client.proofs.Vocabulary.{ci, client_moved}
use Rattle.law_role_client_rows.specs.Putting.{Begins, Direction, IsBegun, IsBehind, IsBehindPacket, OpenedBefore, OpensInChannels, in_way}

module _ (config : ClientConfig) (moves : List EndMove) (opens : OpensInChannels config moves) where
  abbrev pub put : ℕ → List Message
  put n = of_leg (ci n) (client_moved config moves).passage.put

  abbrev pub Comes : Leg → Cookie → Type 0
  Comes = HasComeUp moves

  abbrev pub Early : Leg → Type 0
  Early = OpenedBefore config moves

  abbrev way : Direction
  way = in_way config Comes

  -- the packet that begins the channel behind so many
  abbrev pub Begin : ℕ → Named → Type 0
  Begin k = Begins way Comes Early k

  abbrev Next : ℕ → Cookie → Type 0
  Next k = Comes (ci (suc (suc k)))

  -- ---- a packet that is none of those behind the first

  module _ (P : Named → Type 0)
      (none : (IsNext : Cookie → Type 0) (m : Named) → IsBehindPacket IsNext m → P m → ⊥) where
    none_behind : (k : ℕ) (ms : List Message) → AllByRecursion (IsBehind (Next k)) ms
        → HasOne P ms → ⊥
    none_behind k [] all h = h
    none_behind k (Text bytes ∷ ms) all h = all.0
    none_behind k (Pdu pdu ∷ ms) all h = none_behind k ms all.1 h
    none_behind k (Packet m ∷ ms) all (inl is) = none (Next k) m all.0 is
    none_behind k (Packet m ∷ ms) all (inr h) = none_behind k ms all.1 h

    abbrev pub First : ℕ → Type 0
    First n = (k : ℕ) × (n ≡ suc k) × (m : Named) × (Begin k m × P m)

    begun_is : (k : ℕ) (ms : List Message)
        → IsBegun (way.request k) (Begin k) (way.Rest k) ms → HasOne P ms → First (suc k)
    begun_is k [] h has = absurd has
    begun_is k (Text bytes ∷ []) h has = absurd has
    begun_is k (Pdu pdu ∷ []) h has = absurd cc
    begun_is k (Packet m ∷ []) h has = absurd cc
    begun_is k (text ∷ Text bytes ∷ rest) h has = absurd h.1
    begun_is k (text ∷ Pdu pdu ∷ rest) h has = absurd h.1
    begun_is k (Pdu pdu ∷ Packet m ∷ rest) h has = absurd (let e = h.0 in cc)
    begun_is k (Packet other ∷ Packet m ∷ rest) h has = absurd (let e = h.0 in cc)
    begun_is k (Text bytes ∷ Packet m ∷ rest) h (inl is) = (k, refl, m, (h.1, is))
    begun_is k (Text bytes ∷ Packet m ∷ rest) h (inr has) =
        absurd (none_behind k rest h.2 has)

    pub first_is : (n : ℕ) → HasOne P (put n) → First n
    first_is zero has = absurd (subst (HasOne P) (opens zero) has)
    first_is (suc k) has = begun_is k (put (suc k)) (opens (suc k)) has

  -- ---- its own cookie

  no_begin : (cookie : Cookie) (IsNext : Cookie → Type 0) (m : Named) → IsBehindPacket IsNext m
      → BeginsIn cookie m → ⊥
  no_begin cookie IsNext (ConnB1 version connection channel lifetime keepalive group) h is = h
  no_begin cookie IsNext (InR1A1 version connection predecessor channel) h is = h
  no_begin cookie IsNext m h is = is

  up_by : (k : ℕ) (m : Named) (cookie : Cookie) → Begin k m → BeginsIn cookie m
      → Comes (ci (suc k)) cookie
  up_by zero m cookie h is =
      subst (Comes (ci 1)) (subst (BeginsIn cookie) h.is is) h.names
  up_by (suc k) m cookie h is =
      subst (Comes (ci (suc (suc k)))) (subst (BeginsIn cookie) h.is is) h.names

  -- a channel began with a cookie with which its leg came up
  pub begun_up : (n : ℕ) (cookie : Cookie) → HasBegunIn cookie (put n) → Comes (ci n) cookie
  begun_up n cookie has =
      let first = first_is (BeginsIn cookie) (no_begin cookie) n has in
      subst (λ (j : ℕ). Comes (ci j) cookie) (sym first.1)
      (up_by first.0 first.2 cookie first.3.0 first.3.1)

  -- ---- CONN/B1

  no_connects : (connection channel group : Cookie) (IsNext : Cookie → Type 0) (m : Named)
      → IsBehindPacket IsNext m → puts.Connects connection channel group m → ⊥
  no_connects connection channel group IsNext
      (ConnB1 version of own lifetime keepalive in_group) h is = h
  no_connects connection channel group IsNext m h is = is

  connects_named : (k : ℕ) (m : Named) (connection channel group : Cookie) → Begin k m
      → puts.Connects connection channel group m → config.connection ≡ connection
  connects_named zero m connection channel group h is =
      (subst (puts.Connects connection channel group) h.is is).0
  connects_named (suc k) m connection channel group h is =
      absurd (subst (puts.Connects connection channel group) h.is is)

  -- it names the client's connection
  pub connects_of : (n : ℕ) (connection channel group : Cookie)
      → HasOne (puts.Connects connection channel group) (put n) → config.connection ≡ connection
  connects_of n connection channel group has =
      let first = first_is (puts.Connects connection channel group)
      (no_connects connection channel group) n has in
      connects_named first.0 first.2 connection channel group first.3.0 first.3.1

  -- ---- IN_R1/A1

  no_replaces : (connection predecessor successor : Cookie) (IsNext : Cookie → Type 0) (m : Named)
      → IsBehindPacket IsNext m → puts.Replaces connection predecessor successor m → ⊥
  no_replaces connection predecessor successor IsNext (InR1A1 version of before own) h is = h
  no_replaces connection predecessor successor IsNext m h is = is

  -- it is on a channel behind another, and names the client's connection and that one's cookie
  pub record IsNextTo (n : ℕ) (connection predecessor : Cookie) : Type 0 where
    pub below : ℕ
    pub number : n ≡ suc (suc below)
    pub of : config.connection ≡ connection
    pub follows : Comes (ci (suc below)) predecessor ⊎ ((below ≡ 0) × Early (ci 1))

  pub replaces_next : (n : ℕ) (connection predecessor successor : Cookie)
      → HasOne (puts.Replaces connection predecessor successor) (put n)
      → IsNextTo n connection predecessor
  replaces_next n connection predecessor successor has =
      let first = first_is (puts.Replaces connection predecessor successor)
      (no_replaces connection predecessor successor) n has in
      by first.0 first.1 first.2 first.3.0 first.3.1
    where
      by : (k : ℕ) → n ≡ suc k → (m : Named) → Begin k m
          → puts.Replaces connection predecessor successor m → IsNextTo n connection predecessor
      by zero number m h is =
          absurd (subst (puts.Replaces connection predecessor successor) h.is is)
      by (suc k) number m h is =
          let same = subst (puts.Replaces connection predecessor successor) h.is is in record {
            below = k;
            number = number;
            of = same.0;
            follows = subst (λ (c : Cookie). Comes (ci (suc k)) c ⊎ ((k ≡ 0) × Early (ci 1)))
                same.1 h.follows;
          }
