-- a moment of a virtual connection: the moves that each of its roles made until then, and what came
-- at the one end of a leg is of what was put at the other (MS-RPCH 3.2; profile)
use Rattle.std.specs.Prelude.{◌≡◌, ◌⊎◌, ◌++◌, ℕ, suc, List, []}
use mathlib.Core.List.{IsPrefix}
use Rattle.rh_text.specs.declared.ends.Dir.{Dir}
use Rattle.rh_text.specs.declared.ends.Side.{Side}
use Rattle.rh_rts.specs.declared.command.Cookie.{Cookie}
use Rattle.rh_http.specs.declared.config.ClientConfig.{ClientConfig}
use Rattle.rh_line.specs.declared.leg.Leg.{Leg}
use Rattle.rh_line.specs.declared.leg.LegKind.{LegKind}
use Rattle.rh_record.specs.declared.answer.Who.{Who}
use Rattle.rh_record.specs.declared.answer.Who.TheVariants as who
use Rattle.law_moves.specs.Moves.{EndMove, EndPassage, Move, OnLeg, Passage, started, end_started, all_moved, all_end_moved, AreAllowed, AreAllowedAtEnd}
use Rattle.law_moves.specs.Wires.{of_leg}
use Rattle.rh_wires.specs.Wires.{receiver, sender}
use Rattle.rh_nodes.specs.World.{node_at}
use Rattle.rh_client.specs.declared.state.ClientRole.{ClientRole}
use Rattle.rh_client.specs.Client as clients
use Rattle.rh_client.specs.State as client_state
use Rattle.rh_inproxy.specs.declared.state.InProxyConfig.{InProxyConfig}
use Rattle.rh_inproxy.specs.Machine as in_proxy
use Rattle.rh_inproxy.specs.State.{InProxy}
use Rattle.rh_inproxy.specs.State as in_state
use Rattle.rh_outproxy.specs.declared.state.OutProxyConfig.{OutProxyConfig}
use Rattle.rh_outproxy.specs.Machine as out_proxy
use Rattle.rh_outproxy.specs.OutProxy.{OutProxy, new_proxy}
use Rattle.rh_server.specs.Servers as servers
use Rattle.rh_server.specs.States.{Server}
use Rattle.law_moves.specs.ReadBack.Reading.{all_read_of}
use Rattle.law_moves.specs.Passages.Counted.{AreCounted, AreCountedAtEnd}
use Rattle.law_moves.specs.Passages.Rising.{AreUpFirst, HasComeUp}
use Rattle.law_moves.specs.Turns.{AreInTurn}

-- ---- the roles

-- the numbers with which they were made
pub record Numbers : Type 0 where
  pub client : ClientConfig
  pub window : ℕ
  pub ins : ℕ → InProxyConfig
  pub outs : ℕ → OutProxyConfig

-- and the moves that they made
pub record Moves : Type 0 where
  pub client : List EndMove
  pub server : List EndMove
  pub ins : ℕ → List Move
  pub outs : ℕ → List Move

-- what passed them so
pub record Passages : Type 0 where
  pub client : Passage ClientRole
  pub server : Passage Server
  pub ins : ℕ → Passage InProxy
  pub outs : ℕ → Passage OutProxy

abbrev pub client_behind : Numbers → Moves → EndPassage ClientRole
client_behind numbers moves =
    all_end_moved clients.rules clients.acts (end_started (client_state.first numbers.client))
    moves.client

abbrev pub server_behind : Numbers → Moves → EndPassage Server
server_behind numbers moves =
    all_end_moved servers.rules servers.acts (end_started (servers.first numbers.window))
    moves.server

abbrev pub in_behind : Numbers → Moves → ℕ → Passage InProxy
in_behind numbers moves m =
    all_moved in_proxy.rules (started (in_state.first (numbers.ins m))) (moves.ins m)

abbrev pub out_behind : Numbers → Moves → ℕ → Passage OutProxy
out_behind numbers moves n =
    all_moved out_proxy.rules (started (new_proxy (numbers.outs n))) (moves.outs n)

abbrev pub passages : Numbers → Moves → Passages
passages numbers moves = record {
  client = (client_behind numbers moves).passage;
  server = (server_behind numbers moves).passage;
  ins = in_behind numbers moves;
  outs = out_behind numbers moves;
}

abbrev pub put_by : Passages → Who → List OnLeg
put_by all who.Client = all.client.put
put_by all who.Server = all.server.put
put_by all (who.In m) = (all.ins m).put
put_by all (who.Out n) = (all.outs n).put

abbrev pub came_to : Passages → Who → List OnLeg
came_to all who.Client = all.client.came
came_to all who.Server = all.server.came
came_to all (who.In m) = (all.ins m).came
came_to all (who.Out n) = (all.outs n).came

-- ---- the legs

-- the node at an end of a leg, where these in proxies read the IN channels of the client
abbrev pub end_of : (ℕ → ℕ) → Leg → Side → Who
end_of reader leg end = node_at (reader leg.number) leg end

-- what came at the one end of a leg is of what was put at the other, and nothing came at a node
-- that stands at none
pub record AreJoined (reader : ℕ → ℕ) (all : Passages) : Type 0 where
  pub front : (leg : Leg) (dir : Dir)
      → IsPrefix (of_leg leg (came_to all (end_of reader leg (receiver dir))))
      (all_read_of (of_leg leg (put_by all (end_of reader leg (sender dir)))))
  pub elsewhere : (node : Who) (leg : Leg)
      → ((end : Side) → end_of reader leg end ≡ node → ⊥) → of_leg leg (came_to all node) ≡ []

-- an in proxy reads the channel of its number, and then those behind it (profile)
pub record ReadInTurn (reader : ℕ → ℕ) : Type 0 where
  pub none : reader 0 ≡ 0
  pub next : (n : ℕ) → (reader (suc n) ≡ 0) ⊎ ((reader (suc n) ≡ suc n)
      ⊎ (reader (suc n) ≡ reader n))

-- a leg of the client came up under one cookie, and no other leg of its kind under that
pub record HaveCookies (moves : List EndMove) : Type 0 where
  pub one : (leg : Leg) (a b : Cookie) → HasComeUp moves leg a → HasComeUp moves leg b → a ≡ b
  pub own : (kind : LegKind) (l n : ℕ) (cookie : Cookie)
      → HasComeUp moves (record { kind = kind; number = l }) cookie
      → HasComeUp moves (record { kind = kind; number = n }) cookie → l ≡ n

-- ---- a moment

-- the moves are allowed and in turn, with true counts
pub record AreMade (numbers : Numbers) (moves : Moves) : Type 0 where
  pub client : AreAllowedAtEnd clients.rules clients.acts
      (end_started (client_state.first numbers.client)) moves.client
  pub client_counted : AreCountedAtEnd clients.rules clients.acts
      (end_started (client_state.first numbers.client)) moves.client
  pub client_up : AreUpFirst [] moves.client
  pub server : AreAllowedAtEnd servers.rules servers.acts
      (end_started (servers.first numbers.window)) moves.server
  pub server_counted : AreCountedAtEnd servers.rules servers.acts
      (end_started (servers.first numbers.window)) moves.server
  pub server_up : AreUpFirst [] moves.server
  pub ins : (m : ℕ)
      → AreAllowed in_proxy.rules (started (in_state.first (numbers.ins m))) (moves.ins m)
  pub ins_counted : (m : ℕ)
      → AreCounted in_proxy.rules (started (in_state.first (numbers.ins m))) (moves.ins m)
  pub ins_turn : (m : ℕ)
      → AreInTurn in_proxy.rules (in_state.first (numbers.ins m)) (moves.ins m)
  pub outs : (n : ℕ)
      → AreAllowed out_proxy.rules (started (new_proxy (numbers.outs n))) (moves.outs n)
  pub outs_counted : (n : ℕ)
      → AreCounted out_proxy.rules (started (new_proxy (numbers.outs n))) (moves.outs n)
  pub outs_turn : (n : ℕ) → AreInTurn out_proxy.rules (new_proxy (numbers.outs n)) (moves.outs n)
  -- each proxy has its number
  pub in_number : (m : ℕ) → (numbers.ins m).number ≡ m
  pub out_number : (n : ℕ) → (numbers.outs n).number ≡ n

-- and joined by legs
pub record IsJoined (numbers : Numbers) (reader : ℕ → ℕ) (moves : Moves) : Type 0 where
  pub made : AreMade numbers moves
  pub joined : AreJoined reader (passages numbers moves)
  pub read : ReadInTurn reader
  pub cookies : HaveCookies moves.client

-- one before it
pub record IsPast (numbers : Numbers) (moves : Moves) : Type 0 where
  pub moves_then : Moves
  pub reader_then : ℕ → ℕ
  pub then_joined : IsJoined numbers reader_then moves_then
  pub client : IsPrefix moves_then.client moves.client
  pub server : IsPrefix moves_then.server moves.server
  pub ins : (m : ℕ) → IsPrefix (moves_then.ins m) (moves.ins m)
  pub outs : (n : ℕ) → IsPrefix (moves_then.outs n) (moves.outs n)

-- each front of the moves of an end was all of them at a moment before
pub record IsMoment (numbers : Numbers) (reader : ℕ → ℕ) (moves : Moves) : Type 0 where
  pub now : IsJoined numbers reader moves
  pub client_past : (front later : List EndMove) → moves.client ≡ front ++ later
      → (past : IsPast numbers moves) × (past.moves_then.client ≡ front)
  pub server_past : (front later : List EndMove) → moves.server ≡ front ++ later
      → (past : IsPast numbers moves) × (past.moves_then.server ≡ front)
