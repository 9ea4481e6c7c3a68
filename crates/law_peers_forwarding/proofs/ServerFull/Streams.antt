-- what stands on an is leg before an acknowledgement to the client
use Rattle.law_order.proofs.Vocabulary.{◌≡◌, ℕ, suc, ◌+◌, ◌≤◌, List, [], ◌∷◌, ◌++◌, append_assoc, refl, sym, ◌∙◌, subst, arith, IsPrefix}
use Rattle.law_moves.proofs.Vocabulary.{Cookie, AckTo, ConnB2, InR1A2, InR1A6, InR2A2, Ping, Message, Text, Pdu, Packet, OnLeg, all_read_of, count_of}
use Rattle.law_role_inproxy.proofs.Vocabulary.{InProxyConfig, IsRest, IsStream}
use Rattle.law_role_server.proofs.Vocabulary.{is_conn_b2, is_in_r1_a2, is_in_r1_a6}
use Rattle.law_peers_in_channels.proofs.InHandovers.Streams.{pings_read, only_pings}

-- ---- Pings

module _ (config : InProxyConfig) (log : List OnLeg) where
  -- ---- what is read of them

  rest_read : (n : ℕ) (ms : List Message) → IsRest log n ms → IsRest log n (all_read_of ms)
  rest_read n [] h = tt
  rest_read n (Text bytes ∷ ms) h = absurd h.0
  rest_read n (Pdu pdu ∷ ms) h = (h.0, rest_read n ms h.1)
  rest_read n (Packet (InR2A2 successor) ∷ ms) h = (h.0, rest_read (suc n) ms h.1)
  rest_read n (Packet (InR1A6 successor) ∷ ms) h = (h.0, pings_read ms h.1)
  rest_read n (Packet Ping ∷ ms) h = rest_read n ms h.1
  rest_read n (Packet other ∷ ms) h = (h.0, rest_read n ms h.1)

  stream_read : (ms : List Message) → IsStream config log ms
      → IsStream config log (all_read_of ms)
  stream_read [] h = tt
  stream_read (Text bytes ∷ ms) h = absurd h.0
  stream_read (Pdu pdu ∷ ms) h = absurd h.0
  stream_read (Packet (ConnB2 version connection channel window timeout group address padding)
      ∷ ms) h =
      (h.0, rest_read config.number ms h.1)
  stream_read (Packet (InR1A2 version connection predecessor successor window timeout) ∷ ms) h =
      (h.0, rest_read config.number ms h.1)
  stream_read (Packet m ∷ ms) h = absurd h.0

  -- ---- where an acknowledgement to the client stands

  module _ (received window : ℕ) (channel : Cookie) where
    abbrev ack : Message
    ack = Packet (AckTo 0 received window channel)

    stays : (n : ℕ) (before later : List Message) → IsRest log n (before ++ ack ∷ later)
        → count_of is_in_r1_a6 before ≡ 0
    stays n [] later h = refl
    stays n (Text bytes ∷ before) later h = absurd h.0
    stays n (Pdu pdu ∷ before) later h = stays n before later h.1
    stays n (Packet (InR2A2 other) ∷ before) later h = stays (suc n) before later h.1
    stays n (Packet (InR1A6 other) ∷ before) later h =
        let e = only_pings ack before later h.1 in absurd cc
    stays n (Packet other ∷ before) later h = stays n before later h.1

    -- the leg began, and no IN_R1/A6 stands before
    pub record IsOpen (before : List Message) : Type 0 where
      pub began : 1 ≤ count_of is_conn_b2 before + count_of is_in_r1_a2 before
      pub stays : count_of is_in_r1_a6 before ≡ 0

    is_open : (before later : List Message) → IsStream config log (before ++ ack ∷ later)
        → IsOpen before
    is_open [] later h = absurd h.0
    is_open (Text bytes ∷ before) later h = absurd h.0
    is_open (Pdu pdu ∷ before) later h = absurd h.0
    is_open
        (Packet (ConnB2 version connection own window timeout group address padding) ∷ before)
        later h =
        record { began = omega arith; stays = stays config.number before later h.1 }
    is_open (Packet (InR1A2 version connection predecessor other window timeout) ∷ before) later
        h =
        record { began = omega arith; stays = stays config.number before later h.1 }
    is_open (Packet m ∷ before) later h = absurd h.0

    pub open_before : (before put : List Message) → IsStream config log put
        → IsPrefix (before ++ ack ∷ []) (all_read_of put) → IsOpen before
    open_before before put h ahead =
        is_open before ahead.0
        (subst (IsStream config log)
        (sym (sym (append_assoc before (ack ∷ []) ahead.0) ∙ ahead.1)) (stream_read put h))
