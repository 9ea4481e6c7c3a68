-- all cookies of connections that came at the server are the client's, and those of OUT channels
-- are the ones with which their legs came up
use Rattle.law_order.proofs.Vocabulary.{◌≡◌, ◌⊎◌, ℕ, Bool, true, false, if◌then◌else◌, List, [], ◌∷◌, ◌++◌, sym, ◌∙◌, subst, arith, inl, inr}
use Rattle.law_moves.proofs.Vocabulary.{Cookie, Named, ConnA2, ConnB1, ConnB2, OutR1A4, Leg, ClientIn, InServer, OutServer, Message, Text, Pdu, Packet, same_leg, OnLeg, of_leg, HasOne, of_kind, HasComeUp}
use Rattle.law_role_client.proofs.Vocabulary.{co, EachBehind, NamesIn, NamesIns}
use Rattle.law_role_server_rows.specs.Refusing.Cookies.{Connects, IsConnection, IsOutChannel, OpensOut}
use Rattle.law_peers_moments.proofs.Joining.{in_front, is_front}
use Rattle.law_peers_moments.proofs.Read.{front_one}
use Rattle.law_peers_moments.specs.Moments.{AreJoined, Moves, Numbers, client_behind, in_behind, passages, server_behind}
use Rattle.law_peers_in_channels.proofs.ServerExpects.Cookies.{cookie_same, is_same, same_cookie}
use Rattle.law_peers_in_channels.proofs.ServerExpects.Logs.{counted_some, leg_at, some_counted, some_leg}
use Rattle.law_peers_in_channels.proofs.ServerExpects.Moment.{OpensOuts}
use Rattle.law_peers_in_channels.proofs.ServerExpects.Moment as at
use Rattle.law_peers_in_channels.specs.ServerExpects.Connecting.{asks, connects, ConnectsForWhatCame}

-- ---- packets

module _ (cookie : Cookie) where
  connects_same : (m : Named) → Connects cookie m → connects (is_same cookie) m ≡ true
  connects_same (ConnA2 version connection channel lifetime window) h =
      cookie_same cookie connection (sym h)
  connects_same (ConnB2 version connection channel window timeout group address padding) h =
      cookie_same cookie connection (sym h)
  connects_same m h = absurd h

  -- CONN/B1 of this connection
  abbrev pub Asks : Named → Type 0
  Asks (ConnB1 version connection channel lifetime keepalive group) = cookie ≡ connection
  Asks m = ⊥

  asks_same : (m : Named) → asks (is_same cookie) m ≡ true → Asks m
  asks_same (ConnB1 version connection channel lifetime keepalive group) e =
      same_cookie cookie connection e
  asks_same m e = absurd cc

  -- ---- the client's CONN/B1 name its connection

  module _ (of : Cookie) where
    asked_same : (front : List OnLeg) (leg : Leg) (message : Message)
        → NamesIn of front (leg, message) → HasOne Asks (message ∷ []) → of ≡ cookie
    asked_same front leg (Text bytes) h has = absurd has
    asked_same front leg (Pdu pdu) h has = absurd has
    asked_same front leg
        (Packet (ConnB1 version connection channel lifetime keepalive group)) h (inl is) =
        sym h ∙ sym is
    asked_same front leg (Packet m) h (inl is) = absurd is
    asked_same front leg (Packet m) h (inr has) = absurd has

    pub all_same : (leg : Leg) (front log : List OnLeg) → EachBehind (NamesIn of) front log
        → HasOne Asks (of_leg leg log) → of ≡ cookie
    all_same leg front [] h has = absurd has
    all_same leg front (one ∷ log) h has =
        by (same_leg one.0 leg) one.1 h.0 (all_same leg (front ++ one ∷ []) log h.1) has
      where
        by : (b : Bool) (message : Message) → NamesIn of front (one.0, message)
            → (HasOne Asks (of_leg leg log) → of ≡ cookie)
            → HasOne Asks (if b then message ∷ of_leg leg log else of_leg leg log) → of ≡ cookie
        by false message names rest has = rest has
        by true (Text bytes) names rest has = rest has
        by true (Pdu pdu) names rest has = rest has
        by true (Packet m) names rest (inl is) =
            asked_same front one.0 (Packet m) names (inl is)
        by true (Packet m) names rest (inr has) = rest has

-- ---- a moment

-- what else is known of the in proxies and the client
pub record Connecting (numbers : Numbers) (moves : Moves) : Type 0 where
  pub client : NamesIns numbers.client.connection (client_behind numbers moves).passage
  pub ins : (m : ℕ) → ConnectsForWhatCame (in_behind numbers moves m)

module _ (numbers : Numbers) (reader : ℕ → ℕ) (moves : Moves)
    (joined : AreJoined reader (passages numbers moves)) (opens : OpensOuts numbers moves)
    (ins : Connecting numbers moves) where
  abbrev came : List OnLeg
  came = (server_behind numbers moves).passage.came

  -- ---- connections

  of_in_proxies : (cookie : Cookie) → IsConnection InServer cookie came
      → numbers.client.connection ≡ cookie
  of_in_proxies cookie has =
      let leg = some_leg (Connects cookie) InServer came has in
      let proxy = in_behind numbers moves leg.0 in
      let put = counted_some (Connects cookie) (connects (is_same cookie)) (connects_same cookie)
      (of_leg (leg_at InServer leg.0) proxy.put)
      (front_one (Connects cookie) (of_leg (leg_at InServer leg.0) came)
      (of_leg (leg_at InServer leg.0) proxy.put)
      (is_front reader (passages numbers moves) joined leg.0) leg.1) in
      let paid = ins.ins leg.0 (is_same cookie) (leg_at InServer leg.0) in
      let asked = some_leg (Asks cookie) ClientIn proxy.came
      (some_counted (Asks cookie) (asks (is_same cookie)) (asks_same cookie)
      (of_kind ClientIn proxy.came) (omega (arith, put, paid))) in
      all_same cookie numbers.client.connection (leg_at ClientIn asked.0) []
      (client_behind numbers moves).passage.put ins.client.names
      (front_one (Asks cookie) (of_leg (leg_at ClientIn asked.0) proxy.came)
      (of_leg (leg_at ClientIn asked.0) (client_behind numbers moves).passage.put)
      (in_front reader (passages numbers moves) joined leg.0 asked.0) asked.1)

  of_out_proxies : (cookie : Cookie) → IsConnection OutServer cookie came
      → numbers.client.connection ≡ cookie
  of_out_proxies cookie has =
      let on = at.on_some numbers reader moves joined opens (Connects cookie)
      (λ received available channel is. is) has in
      by on.0 on.1.packet
      (at.is_right numbers reader moves joined opens on.0 on.1.cookie on.1.packet on.1.opens)
      on.1.so
    where
      by : (n : ℕ) (m : Named) → at.IsRight numbers reader moves joined opens n m
          → Connects cookie m → numbers.client.connection ≡ cookie
      by n (ConnA2 version connection channel lifetime window) h is = h.of ∙ is
      by n (OutR1A4 version connection predecessor successor lifetime window timeout) h is =
          absurd is
      by n m h is = absurd h

  -- whichever it is of
  pub connection_is : (cookie : Cookie)
      → IsConnection OutServer cookie came ⊎ IsConnection InServer cookie came
      → numbers.client.connection ≡ cookie
  connection_is cookie (inl has) = of_out_proxies cookie has
  connection_is cookie (inr has) = of_in_proxies cookie has

  -- ---- OUT channels

  pub channel_is : (n : ℕ) (cookie : Cookie) → IsOutChannel n cookie came
      → HasComeUp moves.client (co n) cookie
  channel_is n cookie has =
      let on = at.on_leg numbers reader moves joined opens (OpensOut cookie)
      (λ received available channel is. is) n has in
      by on.packet
      (at.is_right numbers reader moves joined opens n on.cookie on.packet on.opens) on.so
    where
      Comes : ℕ → Cookie → Type 0
      Comes k c = HasComeUp moves.client (co k) c

      by : (m : Named) → at.IsRight numbers reader moves joined opens n m → OpensOut cookie m
          → Comes n cookie
      by (ConnA2 version connection channel lifetime window) h is =
          subst (Comes n) is (subst (λ (k : ℕ). Comes k channel) (sym h.first) h.comes)
      by (OutR1A4 version connection predecessor successor lifetime window timeout) h is =
          subst (Comes n) is (subst (λ (k : ℕ). Comes k successor) (sym h.number) h.comes)
      by m h is = absurd h
