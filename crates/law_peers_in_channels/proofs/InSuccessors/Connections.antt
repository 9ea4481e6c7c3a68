-- which connection what came at the server names, of CONN/A2 and CONN/B2
use Rattle.law_order.proofs.Vocabulary.{◌≡◌, ◌⊎◌, ℕ, suc, List, [], ◌∷◌, inl, inr, sym, ◌∙◌, subst, AllByRecursion}
use Rattle.rh_sig.specs.declared.named.Named.TheVariants.{Ack}
use Rattle.law_moves.proofs.Vocabulary.{Cookie, Named, ConnA1, ConnA2, ConnB2, InR1A2, InR1A6, InR2A2, OutR1A4, Leg, Message, Text, Pdu, Packet, OnLeg, of_leg, HasOne}
use Rattle.law_role_inproxy.proofs.Vocabulary.{InProxyConfig, ci, IsRest, IsStream}
use Rattle.law_role_inproxy.specs.Putting.Puts as puts
use Rattle.law_role_client.proofs.Vocabulary.{EachBehind, NamesOut}
use Rattle.law_role_outproxy.proofs.Vocabulary.{OutProxyConfig, NamesNew, AcksPacket, IsAck, IsToServer, OpensServer}
use Rattle.law_role_server_rows.specs.Refusing.Cookies.{Connects}
use Rattle.law_peers_in_channels.proofs.ServerExpects.Streams.{first_one}
use Rattle.law_peers_in_channels.proofs.InSuccessors.Logs.{each_one}
use Rattle.law_peers_in_channels.proofs.InSuccessors.Streams.{pings_rest}

-- ---- the client's CONN/A1

new_names : (connection of channel : Cookie) (front : List OnLeg) (leg : Leg) (m : Named)
    → NamesOut connection front (leg, Packet m) → NamesNew of channel m → connection ≡ of
new_names connection of channel front leg (ConnA1 version other own window) names is =
    sym names ∙ is.0
new_names connection of channel front leg m names is = absurd is

pub new_of : (connection of channel : Cookie) (leg : Leg) (log : List OnLeg)
    → EachBehind (NamesOut connection) [] log → HasOne (NamesNew of channel) (of_leg leg log)
    → connection ≡ of
new_of connection of channel leg log names has =
    each_one (NamesOut connection) (NamesNew of channel) (connection ≡ of)
    (new_names connection of channel) leg [] log names has

-- ---- what an out proxy put

module _ (config : OutProxyConfig) (asked : List Message) (connection : Cookie) where
  abbrev Asked : Type 0
  Asked = (channel : Cookie) × HasOne (NamesNew connection channel) asked

  no_ack : (cookie : Cookie) (m : Named) → AcksPacket cookie m → Connects connection m → ⊥
  no_ack cookie (Ack received available channel) h is = is
  no_ack cookie m h is = h

  acks_none : (cookie : Cookie) (ms : List Message) → AllByRecursion (IsAck cookie) ms
      → HasOne (Connects connection) ms → ⊥
  acks_none cookie [] h has = has
  acks_none cookie (Text bytes ∷ ms) h has = h.0
  acks_none cookie (Pdu pdu ∷ ms) h has = h.0
  acks_none cookie (Packet m ∷ ms) h (inl is) = no_ack cookie m h.0 is
  acks_none cookie (Packet m ∷ ms) h (inr has) = acks_none cookie ms h.1 has

  opens_asked : (cookie : Cookie) (m : Named) → OpensServer config asked cookie m
      → Connects connection m → Asked
  opens_asked cookie (ConnA2 version of channel lifetime window) h is = (
    channel,
    subst (λ (c : Cookie). HasOne (NamesNew c channel) asked) is h.4,
  )
  opens_asked cookie (OutR1A4 version of predecessor successor lifetime window timeout) h is =
      absurd is
  opens_asked cookie m h is = absurd h

  -- CONN/A1 of the connection came for it
  pub connects_asked : (put : List Message) → IsToServer config asked put
      → HasOne (Connects connection) put → Asked
  connects_asked [] h has = absurd has
  connects_asked (first ∷ rest) h has =
      by (subst (λ (x : Message). HasOne (Connects connection) (x ∷ rest)) h.is has)
    where
      by : Connects connection h.packet ⊎ HasOne (Connects connection) rest → Asked
      by (inl is) = opens_asked h.cookie h.packet h.opens is
      by (inr more) = absurd (acks_none h.cookie rest h.acks more)

-- ---- what came of what an in proxy put

module _ (config : InProxyConfig) (log : List OnLeg) (connection : Cookie) where
  rest_none : (n : ℕ) (ms : List Message) → IsRest log n ms → HasOne (Connects connection) ms → ⊥
  rest_none n [] h has = has
  rest_none n (Text bytes ∷ ms) h has = h.0
  rest_none n (Pdu pdu ∷ ms) h has = rest_none n ms h.1 has
  rest_none n (Packet (InR2A2 successor) ∷ ms) h (inl is) = is
  rest_none n (Packet (InR2A2 successor) ∷ ms) h (inr has) = rest_none (suc n) ms h.1 has
  rest_none n (Packet (InR1A6 successor) ∷ ms) h (inl is) = is
  rest_none n (Packet (InR1A6 successor) ∷ ms) h (inr has) =
      rest_none n ms (pings_rest config log n ms h.1) has
  rest_none n (Packet (ConnA2 version of channel lifetime window) ∷ ms) h has = h.0
  rest_none n (Packet (ConnB2 version of channel window timeout group address padding) ∷ ms) h
      has = h.0
  rest_none n (Packet m ∷ ms) h (inl is) = is
  rest_none n (Packet m ∷ ms) h (inr has) = rest_none n ms h.1 has

  -- CONN/B1 of the connection came for it
  pub record IsAsked : Type 0 where
    pub channel : Cookie
    pub group : Cookie
    pub came : HasOne (puts.Connects connection channel group) (of_leg (ci config.number) log)

  pub stream_asked : (came : List Message) → IsStream config log came
      → HasOne (Connects connection) came → IsAsked
  stream_asked [] h has = absurd has
  stream_asked (Text bytes ∷ ms) h has = absurd h.0
  stream_asked (Pdu pdu ∷ ms) h has = absurd h.0
  stream_asked (Packet (ConnB2 version of channel window timeout group address padding) ∷ ms) h
      (inl is) = record {
        channel = channel;
        group = group;
        came = subst (λ (c : Cookie). HasOne (puts.Connects c channel group)
            (of_leg (ci config.number) log)) is
            (first_one (puts.Connects of channel group) (of_leg (ci config.number) log) h.0.4);
      }
  stream_asked (Packet (InR1A2 version of predecessor successor window timeout) ∷ ms) h
      (inl is) = absurd is
  stream_asked (Packet m ∷ ms) h (inl is) = absurd h.0
  stream_asked (Packet m ∷ ms) h (inr has) = absurd (rest_none config.number ms h.1 has)
