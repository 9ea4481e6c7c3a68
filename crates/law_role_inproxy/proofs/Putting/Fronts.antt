-- what stands on the is leg, and one message more
use Rattle.law_order.proofs.Vocabulary.{◌≡◌, ℕ, suc, List, [], ◌∷◌, ◌++◌, Some, None, inl, inr, refl, sym, ap, subst, Option}
use Rattle.rh_sig.specs.declared.named.Named.TheVariants as named
use Rattle.law_moves.proofs.Vocabulary.{Named, Message, Text, Pdu, Packet, OnLeg, of_leg, BeginsIn, HasOne}
use Rattle.law_moves.proofs.Lemmas.{all_append, leg_more, one_more_so}
use Rattle.law_role_inproxy.proofs.Vocabulary.{InProxyConfig, ci, CameOn, CameFirst, IsFront, Acknowledges, Joins, Leaves, Switches, IsFirst, IsPlainPacket, IsPlain, IsPing, HasPdu, IsRest, IsStream}
use Rattle.law_role_inproxy.specs.Putting.Puts.{Connects, Replaces}

-- the last ci leg that the server was told, until IN_R1/A6
abbrev pub reached : ℕ → List Message → Option ℕ
reached n [] = Some n
reached n (Packet (named.InR2A2 successor) ∷ ms) = reached (suc n) ms
reached n (Packet (named.InR1A6 successor) ∷ ms) = None
reached n (m ∷ ms) = reached n ms

abbrev number_of : Option ℕ → ℕ
number_of None = 0
number_of (Some n) = n

-- ---- one message more

module _ (came : List OnLeg) where
  abbrev Stands : ℕ → List Message → Option ℕ → Type 0
  Stands n ms now = IsRest came n ms × (reached n ms ≡ now)

  pub plain_first : (n : ℕ) (m : Message) → IsPlain came n m → Stands n (m ∷ []) (Some n)
  plain_first n (Text bytes) is = absurd is
  plain_first n (Packet (named.InR2A2 successor)) is = absurd is
  plain_first n (Packet (named.InR1A6 successor)) is = absurd is
  plain_first n m is = ((is, tt), refl)

  -- a Ping behind IN_R1/A6
  pub ping_more : (n : ℕ) (ms : List Message) → reached n ms ≡ None → IsRest came n ms
      → Stands n (ms ++ Packet named.Ping ∷ []) None
  ping_more n [] e h = absurd cc
  ping_more n (Packet (named.InR2A2 successor) ∷ ms) e h =
      let rest = ping_more (suc n) ms e h.1 in ((h.0, rest.0), rest.1)
  ping_more n (Packet (named.InR1A6 successor) ∷ ms) e h =
      ((h.0, all_append IsPing ms (Packet named.Ping ∷ []) h.1 (refl, tt)), refl)
  ping_more n (other ∷ ms) e h =
      let rest = ping_more n ms e h.1 in ((h.0, rest.0), rest.1)

  -- where IN_R1/A6 was not put
  pub more_at : (n k : ℕ) (ms : List Message) (m : Message) → reached n ms ≡ Some k
      → IsRest came k (m ∷ []) → IsRest came n ms
      → Stands n (ms ++ m ∷ []) (reached k (m ∷ []))
  more_at n k [] m e is h =
      subst (λ (j : ℕ). Stands j (m ∷ []) (reached k (m ∷ []))) (sym (ap number_of e)) (is, refl)
  more_at n k (Packet (named.InR2A2 successor) ∷ ms) m e is h =
      let rest = more_at (suc n) k ms m e is h.1 in ((h.0, rest.0), rest.1)
  more_at n k (Packet (named.InR1A6 successor) ∷ ms) m e is h = absurd cc
  more_at n k (other ∷ ms) m e is h =
      let rest = more_at n k ms m e is h.1 in ((h.0, rest.0), rest.1)

-- ---- one more came

pub came_stays : (Is : Named → Type 0) (n : ℕ) (came : List OnLeg) (one : OnLeg)
    → CameOn n Is came → CameOn n Is (came ++ one ∷ [])
came_stays Is n came one h =
    subst (HasOne Is) (sym (leg_more (ci n) came one))
    (one_more_so Is (of_leg (ci n) came) (of_leg (ci n) (one ∷ [])) h)

front_more : (Is : Named → Type 0) (a b : List Message) → IsFront Is a → IsFront Is (a ++ b)
front_more Is [] b h = absurd h
front_more Is (m ∷ a) b h = h

pub first_stays_first : (Is : Named → Type 0) (n : ℕ) (came : List OnLeg) (one : OnLeg)
    → CameFirst n Is came → CameFirst n Is (came ++ one ∷ [])
first_stays_first Is n came one h =
    subst (IsFront Is) (sym (leg_more (ci n) came one))
    (front_more Is (of_leg (ci n) came) (of_leg (ci n) (one ∷ [])) h)

pub pdu_more : (pdu : List ℕ) (a b : List Message) → HasPdu pdu a → HasPdu pdu (a ++ b)
pdu_more pdu [] b h = absurd h
pdu_more pdu (m ∷ a) b (inl is) = inl is
pdu_more pdu (m ∷ a) b (inr rest) = inr (pdu_more pdu a b rest)

pub last_pdu : (pdu : List ℕ) (a : List Message) → HasPdu pdu (a ++ Pdu pdu ∷ [])
last_pdu pdu [] = inl refl
last_pdu pdu (m ∷ a) = inr (last_pdu pdu a)

pub pdu_stays : (pdu : List ℕ) (n : ℕ) (came : List OnLeg) (one : OnLeg)
    → HasPdu pdu (of_leg (ci n) came) → HasPdu pdu (of_leg (ci n) (came ++ one ∷ []))
pdu_stays pdu n came one h =
    subst (HasPdu pdu) (sym (leg_more (ci n) came one))
    (pdu_more pdu (of_leg (ci n) came) (of_leg (ci n) (one ∷ [])) h)

module _ (came : List OnLeg) (one : OnLeg) where
  abbrev later : List OnLeg
  later = came ++ one ∷ []

  pub packet_stays : (packet : Named) → IsPlainPacket came packet → IsPlainPacket later packet
  packet_stays (named.AckTo to received available channel) (inl is) =
      inl (is.0, (is.1.0, came_stays (BeginsIn channel) is.1.0 came one is.1.1))
  packet_stays (named.AckTo to received available channel) (inr is) =
      inr (
        is.0,
        (
          is.1.0,
          came_stays (Acknowledges received available channel) is.1.0 came one is.1.1,
        ),
      )
  packet_stays (named.OutR1A8 to successor) is =
      (is.0, (is.1.0, came_stays (Switches successor) is.1.0 came one is.1.1))
  packet_stays named.EndA2 is = tt
  packet_stays named.Ping is = tt
  packet_stays packet is = absurd is

  plain_stays : (n : ℕ) (m : Message) → IsPlain came n m → IsPlain later n m
  plain_stays n (Text bytes) is = absurd is
  plain_stays n (Pdu pdu) is = (is.0, is.1, pdu_stays pdu is.0 came one is.2)
  plain_stays n (Packet packet) is = packet_stays packet is

  rest_stays : (n : ℕ) (ms : List Message) → IsRest came n ms → IsRest later n ms
  rest_stays n [] h = tt
  rest_stays n (Packet (named.InR2A2 successor) ∷ ms) h =
      (came_stays (Joins successor) (suc n) came one h.0, rest_stays (suc n) ms h.1)
  rest_stays n (Packet (named.InR1A6 successor) ∷ ms) h =
      (came_stays (Leaves successor) n came one h.0, h.1)
  rest_stays n (m ∷ ms) h = (plain_stays n m h.0, rest_stays n ms h.1)

  module _ (config : InProxyConfig) where
    first_stays : (packet : Named) → IsFirst config came packet → IsFirst config later packet
    first_stays (named.ConnB2 version connection channel window timeout group address padding) h = (
      h.0,
      h.1,
      h.2,
      h.3,
      first_stays_first (Connects connection channel group) config.number came one h.4,
    )
    first_stays (named.InR1A2 version connection predecessor successor window timeout) h = (
      h.0,
      h.1,
      h.2,
      first_stays_first (Replaces connection predecessor successor) config.number came one h.3,
    )
    first_stays packet h = absurd h

    pub stream_stays : (ms : List Message) → IsStream config came ms → IsStream config later ms
    stream_stays [] h = tt
    stream_stays (Text bytes ∷ ms) h = absurd h.0
    stream_stays (Pdu pdu ∷ ms) h = absurd h.0
    stream_stays (Packet packet ∷ ms) h =
        (first_stays packet h.0, rest_stays config.number ms h.1)
