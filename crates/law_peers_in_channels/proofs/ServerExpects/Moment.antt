-- OUT channels at a moment of a virtual connection, by what came at the server and what the client
-- put
use Rattle.law_order.proofs.Vocabulary.{◌≡◌, ℕ, true, List, subst, IsPrefix}
use Rattle.rh_sig.specs.declared.named.Named.TheVariants.{Ack}
use Rattle.law_moves.proofs.Vocabulary.{Cookie, Named, ConnA2, OutR1A4, Leg, OutServer, Message, Passage, of_leg, all_read_of, HasOne, of_kind, HasComeUp}
use Rattle.law_role_client.proofs.Vocabulary.{ClientRole, co}
use Rattle.law_role_server.proofs.Vocabulary.{Server, is_conn_a2}
use Rattle.law_role_outproxy.proofs.Vocabulary.{OutProxy, co_leg, os_leg, NamesNew, NamesSuccessor, IsToServer, OpensServer, PutsToServer}
use Rattle.law_role_client_rows.specs.Putting.{OpenedBefore, OpensOutChannels}
use Rattle.law_peers_moments.proofs.Joining.{co_front, os_front}
use Rattle.law_peers_moments.proofs.Read.{front_one}
use Rattle.law_peers_moments.specs.Moments.{AreJoined, Moves, Numbers, client_behind, out_behind, passages, server_behind}
use Rattle.law_peers_in_channels.proofs.ServerExpects.Logs.{some_leg}
use Rattle.law_peers_in_channels.proofs.ServerExpects.Opened.{IsOpening, came_to_server, opening}
use Rattle.law_peers_in_channels.proofs.ServerExpects.Opened as opened

-- ---- packets that open the first channel

abbrev pub IsConnA2 : Named → Type 0
IsConnA2 (ConnA2 version connection channel lifetime window) = Unit {0}
IsConnA2 packet = ⊥

pub passes_conn_a2 : (named : Named) → is_conn_a2 named ≡ true → IsConnA2 named
passes_conn_a2 (ConnA2 version connection channel lifetime window) passes = tt
passes_conn_a2 packet passes = absurd cc

-- ---- a moment

-- the client opens its OUT channels in order, and each out proxy opens one to the server
pub record OpensOuts (numbers : Numbers) (moves : Moves) : Type 0 where
  pub client : OpensOutChannels numbers.client moves.client
  pub outs : (n : ℕ) → PutsToServer (numbers.outs n) (out_behind numbers moves n)
  pub number : (n : ℕ) → (numbers.outs n).number ≡ n

module _ (numbers : Numbers) (reader : ℕ → ℕ) (moves : Moves)
    (joined : AreJoined reader (passages numbers moves)) (opens : OpensOuts numbers moves) where
  abbrev pub client : Passage ClientRole
  client = (client_behind numbers moves).passage

  abbrev pub server : Passage Server
  server = (server_behind numbers moves).passage

  abbrev pub out : ℕ → Passage OutProxy
  out n = out_behind numbers moves n

  -- what came on an os leg, what the out proxy put there, and what came at it from the client
  abbrev pub came_on : ℕ → List Message
  came_on n = of_leg (os_leg n) server.came

  abbrev pub put_on : ℕ → List Message
  put_on n = of_leg (os_leg n) (out n).put

  abbrev pub asked_on : ℕ → List Message
  asked_on n = of_leg (co_leg n) (out n).came

  abbrev pub Comes : Leg → Cookie → Type 0
  Comes = HasComeUp moves.client

  abbrev pub Early : Leg → Type 0
  Early = OpenedBefore numbers.client moves.client

  abbrev pub IsRight : ℕ → Named → Type 0
  IsRight n m = opened.OpensRightly numbers.client Comes Early n m

  -- ---- what an out proxy was asked

  pub asked_front : (P : Named → Type 0) (n : ℕ) → HasOne P (asked_on n)
      → HasOne P (of_leg (co n) client.put)
  asked_front P n has =
      front_one P (asked_on n) (of_leg (co n) client.put)
      (co_front reader (passages numbers moves) joined n) has

  pub is_right : (n : ℕ) (cookie : Cookie) (m : Named)
      → OpensServer (numbers.outs n) (asked_on n) cookie m → IsRight n m
  is_right n cookie (ConnA2 version connection channel lifetime window) h =
      opened.new_named numbers.client Comes Early connection channel n
      (of_leg (co n) client.put) (opens.client n)
      (asked_front (NamesNew connection channel) n h.4)
  is_right n cookie (OutR1A4 version connection predecessor successor lifetime window timeout) h =
      opened.next_named numbers.client Comes Early connection predecessor successor n
      (of_leg (co n) client.put) (opens.client n)
      (asked_front (NamesSuccessor connection predecessor successor) n h.5)
  is_right n cookie m h = absurd h

  -- ---- what comes at the server

  to_server : (n : ℕ) → IsToServer (numbers.outs n) (asked_on n) (put_on n)
  to_server n =
      subst (λ (k : ℕ). IsToServer (numbers.outs n) (of_leg (co_leg k) (out n).came)
      (of_leg (os_leg k) (out n).put)) (opens.number n) (opens.outs n)

  pub so_far : (n : ℕ) (came : List Message) → IsPrefix came (all_read_of (put_on n))
      → IsToServer (numbers.outs n) (asked_on n) came
  so_far n came front =
      came_to_server (numbers.outs n) (asked_on n) came (put_on n) front (to_server n)

  module _ (P : Named → Type 0)
      (none : (received available : ℕ) (channel : Cookie)
      → P (Ack received available channel) → ⊥) where
    -- what came on a leg and is no acknowledgement
    pub on_leg : (n : ℕ) → HasOne P (came_on n)
        → IsOpening (numbers.outs n) (asked_on n) P
    on_leg n has =
        opening (numbers.outs n) (asked_on n) P none (came_on n)
        (so_far n (came_on n) (os_front reader (passages numbers moves) joined n)) has

    -- on which it came
    pub on_some : HasOne P (of_kind OutServer server.came)
        → (n : ℕ) × IsOpening (numbers.outs n) (asked_on n) P
    on_some has =
        let leg = some_leg P OutServer server.came has in (leg.0, on_leg leg.0 leg.1)

  -- ---- CONN/A2

  -- it came on the first leg, for a CONN/A1 of the client
  pub conn_a2_on_first : (n : ℕ) → IsOpening (numbers.outs n) (asked_on n) IsConnA2 → n ≡ 1
  conn_a2_on_first n one = by one.packet (is_right n one.cookie one.packet one.opens) one.so
    where
      by : (m : Named) → IsRight n m → IsConnA2 m → n ≡ 1
      by (ConnA2 version connection channel lifetime window) h is = h.first
      by m h is = absurd is
