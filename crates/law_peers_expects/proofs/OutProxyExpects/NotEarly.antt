-- no acknowledgement comes to a server before it put CONN/C1: the client puts none before CONN/C2
-- came
use Rattle.rh_text.specs.declared.ends.Side.TheVariants as side
use Rattle.rh_keep.specs.Meters.{started as metered}
use Rattle.law_order.proofs.Vocabulary.{◌≡◌, ℕ, true, List, [], ◌∷◌, refl, sym, subst, arith, nat_tests, IsTrue, AllByRecursion}
use Rattle.rh_record.specs.declared.answer.Who.TheVariants as who
use Rattle.rh_inproxy.specs.Machine as in_proxy
use Rattle.rh_inproxy.specs.State as in_state
use Rattle.rh_outproxy.specs.Machine as out_proxy
use Rattle.rh_client.specs.Client as clients
use Rattle.rh_client.specs.State as client_state
use Rattle.law_moves.proofs.Vocabulary.{Side, may_put, Cookie, Named, ConnA2, AckTo, IsLifetime, ClientConfig, Leg, LegKind, ClientOut, OutServer, ClientIn, InServer, Message, Text, Pdu, Packet, AreAllowedAtEnd, EndMove, Move, OnLeg, all_end_moved, all_moved, end_started, started, of_leg, count_of, of_kind}
use Rattle.law_moves.proofs.Lemmas.{each_so, by_proxies}
use Rattle.law_moves.specs.Chains.Ways.{total}
use Rattle.law_moves.specs.PacketKinds as at_proxy
use Rattle.law_role_inproxy.proofs.Vocabulary.{InProxyConfig}
use Rattle.law_role_client.proofs.Vocabulary.{OpensOnce}
use Rattle.law_role_client.specs.Counted.Counting as at_client
use Rattle.law_role_server.proofs.Vocabulary.{HasRoom, HasRoomIn, HaveRoom}
use Rattle.law_role_server.specs.Counted.Counting as at_server
use Rattle.law_node_history.proofs.Vocabulary.{leg_at}
use Rattle.law_role_outproxy.proofs.Vocabulary.{OutProxyConfig, new_proxy, ForwardsWhatCame, IsAck, IsToServer, OpensServer}
use Rattle.law_role_windows.specs.Acknowledging.Acks.{OfPacket}
use Rattle.law_peers_moments.proofs.Joining.{co_back, in_front, is_front, os_back, os_front}
use Rattle.law_peers_moments.proofs.Read.{front_count}
use Rattle.law_peers_moments.specs.Moments.{AreJoined, AreMade, Moves, Numbers, Passages, end_of, out_behind, passages}
use Rattle.law_peers_expects.proofs.OutProxyExpects.Logs.{front_each, kind_by_legs, leg_of_kind, leg_of_log, log_by_legs, Of}
use Rattle.law_peers_expects.proofs.InProxyExpects.Counts.{conn_c2 as same_c2, conn_c1 as same_c1}
use Rattle.law_peers_expects.proofs.InProxyExpects.Fronts.{same_counts}
use Rattle.law_peers_expects.specs.OutProxyExpects.Early.{HasGreeted, IsQuiet, PutsQuietly}

-- ---- messages

abbrev pub IsGreeting : Message → Type 0
IsGreeting m = at_client.is_greeting m ≡ true

abbrev IsQuietMessage : Message → Type 0
IsQuietMessage (Text bytes) = Unit {0}
IsQuietMessage (Pdu pdu) = Unit {0}
IsQuietMessage (Packet named) = IsQuiet named

abbrev LeavesRoom : Message → Type 0
LeavesRoom (Text bytes) = Unit {0}
LeavesRoom (Pdu pdu) = Unit {0}
LeavesRoom (Packet named) = HasRoom named

quiet_so : (one : OnLeg) → OfPacket IsQuiet one → IsQuietMessage one.1
quiet_so (leg, Text bytes) h = tt
quiet_so (leg, Pdu pdu) h = tt
quiet_so (leg, Packet named) h = h

room_so : (one : OnLeg) → LeavesRoom one.1 → HasRoomIn one
room_so (leg, Text bytes) h = tt
room_so (leg, Pdu pdu) h = tt
room_so (leg, Packet named) h = h

quiet_leaves_room : (m : Message) → IsQuietMessage m → LeavesRoom m
quiet_leaves_room (Text bytes) h = tt
quiet_leaves_room (Pdu pdu) h = tt
quiet_leaves_room (Packet (ConnA2 version connection channel lifetime window)) h = absurd h
quiet_leaves_room (Packet named) h = tt

none_acks : (to : ℕ) (ms : List Message) → AllByRecursion IsQuietMessage ms
    → count_of (at_server.is_ack_to to) ms ≡ 0
none_acks to [] h = refl
none_acks to (Text bytes ∷ ms) h = none_acks to ms h.1
none_acks to (Pdu pdu ∷ ms) h = none_acks to ms h.1
none_acks to (Packet (AckTo other received available cookie) ∷ ms) h = absurd h.0
none_acks to (Packet named ∷ ms) h = none_acks to ms h.1

-- ---- what an out proxy puts to the server leaves room

lifetime_is_enough : (lifetime : ℕ) → IsLifetime lifetime
    → IsTrue (may_put (metered lifetime 28) 44)
lifetime_is_enough lifetime is = grind (arith, nat_tests, is)

module _ (config : OutProxyConfig) (is : IsLifetime config.lifetime) where
  first_leaves : (came : List Message) (cookie : Cookie) (named : Named)
      → OpensServer config came cookie named → HasRoom named
  first_leaves came cookie (ConnA2 version connection channel lifetime window) h =
      subst (λ (n : ℕ). IsTrue (may_put (metered n 28) 44)) (sym h.2)
      (lifetime_is_enough config.lifetime is)
  first_leaves came cookie named h = tt

  ack_leaves : (cookie : Cookie) (m : Message) → IsAck cookie m → LeavesRoom m
  ack_leaves cookie (Text bytes) h = absurd h
  ack_leaves cookie (Pdu pdu) h = absurd h
  ack_leaves cookie (Packet (ConnA2 version connection channel lifetime window)) h = absurd h
  ack_leaves cookie (Packet named) h = tt

  pub server_leaves : (came put : List Message) → IsToServer config came put
      → AllByRecursion LeavesRoom put
  server_leaves came [] h = tt
  server_leaves came (first ∷ rest) h = (
    subst LeavesRoom (sym h.is) (first_leaves came h.cookie h.packet h.opens),
    each_so (IsAck h.cookie) LeavesRoom (ack_leaves h.cookie) rest h.acks,
  )

-- ---- at a moment

-- what the roles see to
pub record SeeToIt (all : Passages) : Type 0 where
  pub client : OpensOnce all.client
  pub ins : (m : ℕ) → PutsQuietly (all.ins m)
  pub outs : (n : ℕ) → ForwardsWhatCame n (all.outs n)

pub record Laws : Type 0 where
  pub client : (config : ClientConfig) (moves : List EndMove)
      → AreAllowedAtEnd clients.rules clients.acts (end_started (client_state.first config)) moves
      → OpensOnce (all_end_moved clients.rules clients.acts
      (end_started (client_state.first config)) moves).passage
  pub ins : (config : InProxyConfig) (moves : List Move)
      → PutsQuietly (all_moved in_proxy.rules (started (in_state.first config)) moves)
  pub outs : (config : OutProxyConfig) (moves : List Move)
      → ForwardsWhatCame config.number
      (all_moved out_proxy.rules (started (new_proxy config)) moves)

pub see_to_it : Laws → (numbers : Numbers) (moves : Moves) → AreMade numbers moves
    → SeeToIt (passages numbers moves)
see_to_it laws numbers moves made = record {
  client = laws.client numbers.client moves.client made.client;
  ins = λ m. laws.ins (numbers.ins m) (moves.ins m);
  outs = λ n.
      subst (λ (k : ℕ). ForwardsWhatCame k (out_behind numbers moves n)) (made.out_number n)
      (laws.outs (numbers.outs n) (moves.outs n));
}

module _ (reader : ℕ → ℕ) (all : Passages) (joined : AreJoined reader all)
    (see : SeeToIt all) (none : at_server.out_put at_server.is_conn_c1 all.server ≡ 0) where
  no_c2 : total at_client.is_conn_c2 ClientOut all.client.came ≡ 0
  no_c2 =
      let way = by_proxies at_proxy.is_conn_c1 at_proxy.is_conn_c2 OutServer ClientOut
      all.client.came all.server.put (λ n. (all.outs n).came) (λ n. (all.outs n).put)
      (λ n. front_count at_proxy.is_conn_c2 (of_leg (leg_at ClientOut n) all.client.came)
      (of_leg (leg_at ClientOut n) (all.outs n).put) (co_back reader all joined n))
      (λ n. (see.outs n).connection)
      (λ n. front_count at_proxy.is_conn_c1 (of_leg (leg_at OutServer n) (all.outs n).came)
      (of_leg (leg_at OutServer n) all.server.put) (os_back reader all joined n)) in
      let c1 = same_counts at_server.is_conn_c1 at_proxy.is_conn_c1 same_c1
      (of_kind OutServer all.server.put) in
      let c2 = same_counts at_client.is_conn_c2 at_proxy.is_conn_c2 same_c2
      (of_kind ClientOut all.client.came) in
      omega (arith, way, c1, c2, none)

  greeted : (m : ℕ) → HasGreeted (all.ins m).came
  greeted m =
      kind_by_legs IsGreeting ClientIn (all.ins m).came
      (λ n. front_each IsGreeting (of_leg (leg_at ClientIn n) (all.ins m).came)
      (of_leg (leg_at ClientIn n) all.client.put) (in_front reader all joined m n)
      (leg_of_kind IsGreeting ClientIn n all.client.put (see.client.unused no_c2).greets))

  quiet_on : (m : ℕ) → AllByRecursion IsQuietMessage (of_leg (leg_at InServer m) all.server.came)
  quiet_on m =
      front_each IsQuietMessage (of_leg (leg_at InServer m) all.server.came)
      (of_leg (leg_at InServer m) (all.ins m).put) (is_front reader all joined m)
      (leg_of_log IsQuietMessage (leg_at InServer m) (all.ins m).put
      (each_so (OfPacket IsQuiet) (Of IsQuietMessage) quiet_so (all.ins m).put
      (see.ins m (greeted m))))

  pub no_acks : (to : ℕ) → at_server.in_came (at_server.is_ack_to to) all.server ≡ 0
  no_acks to =
      none_acks to (of_kind InServer all.server.came)
      (kind_by_legs IsQuietMessage InServer all.server.came quiet_on)

  pub has_room : (outs : (n : ℕ)
      → AllByRecursion LeavesRoom (of_leg (leg_at OutServer n) (all.outs n).put))
      → HaveRoom all.server.came
  has_room outs =
      each_so (Of LeavesRoom) HasRoomIn room_so all.server.came
      (log_by_legs LeavesRoom all.server.came (λ leg. on leg.kind leg.number))
    where
      nowhere : (leg : Leg) → ((end : Side) → end_of reader leg end ≡ who.Server → ⊥)
          → AllByRecursion LeavesRoom (of_leg leg all.server.came)
      nowhere leg apart =
          subst (AllByRecursion LeavesRoom) (sym (joined.elsewhere who.Server leg apart)) tt

      on : (kind : LegKind) (n : ℕ)
          → AllByRecursion LeavesRoom (of_leg (leg_at kind n) all.server.came)
      on InServer n =
          each_so IsQuietMessage LeavesRoom quiet_leaves_room
          (of_leg (leg_at InServer n) all.server.came) (quiet_on n)
      on OutServer n =
          front_each LeavesRoom (of_leg (leg_at OutServer n) all.server.came)
          (of_leg (leg_at OutServer n) (all.outs n).put) (os_front reader all joined n) (outs n)
      on ClientIn n = nowhere (leg_at ClientIn n) (at_ends n)
        where
          at_ends : (k : ℕ) (end : Side) → end_of reader (leg_at ClientIn k) end ≡ who.Server → ⊥
          at_ends k side.Client e = absurd cc
          at_ends k side.Server e = absurd cc
      on ClientOut n = nowhere (leg_at ClientOut n) (at_ends n)
        where
          at_ends : (k : ℕ) (end : Side) → end_of reader (leg_at ClientOut k) end ≡ who.Server → ⊥
          at_ends k side.Client e = absurd cc
          at_ends k side.Server e = absurd cc
