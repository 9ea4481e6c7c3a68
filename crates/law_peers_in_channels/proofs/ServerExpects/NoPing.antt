-- what proxies put first to the server is no Ping
use Rattle.law_order.proofs.Vocabulary.{◌≡◌, List, [], ◌∷◌, sym, subst}
use Rattle.law_moves.proofs.Vocabulary.{Cookie, Named, ConnA2, ConnB2, InR1A2, OutR1A4, Ping, Message, Text, Pdu, Packet, OnLeg}
use Rattle.law_role_inproxy.proofs.Vocabulary.{InProxyConfig, IsFirst, IsStream}
use Rattle.law_role_outproxy.proofs.Vocabulary.{OutProxyConfig, IsToServer, OpensServer}
use Rattle.law_peers_moments.specs.Expecting.{HasNoPingFirst}

module _ (config : OutProxyConfig) (asked : List Message) where
  opens_no_ping : (cookie : Cookie) (m : Named) → OpensServer config asked cookie m → m ≡ Ping → ⊥
  opens_no_ping cookie (ConnA2 version connection channel lifetime window) h e = absurd cc
  opens_no_ping cookie
      (OutR1A4 version connection predecessor successor lifetime window timeout) h e = absurd cc
  opens_no_ping cookie m h e = absurd h

  pub no_ping_out : (put : List Message) → IsToServer config asked put → HasNoPingFirst put
  no_ping_out [] h = tt
  no_ping_out (first ∷ rest) h =
      subst (λ (m : Message). HasNoPingFirst (m ∷ rest)) (sym h.is)
      (opens_no_ping h.cookie h.packet h.opens)

module _ (config : InProxyConfig) (came : List OnLeg) where
  first_no_ping : (m : Named) → IsFirst config came m → m ≡ Ping → ⊥
  first_no_ping (ConnB2 version connection channel window timeout group address padding) h e =
      absurd cc
  first_no_ping (InR1A2 version connection predecessor successor window timeout) h e = absurd cc
  first_no_ping m h e = absurd h

  pub no_ping_in : (put : List Message) → IsStream config came put → HasNoPingFirst put
  no_ping_in [] h = tt
  no_ping_in (Text bytes ∷ rest) h = absurd h.0
  no_ping_in (Pdu pdu ∷ rest) h = absurd h.0
  no_ping_in (Packet m ∷ rest) h = first_no_ping m h.0
