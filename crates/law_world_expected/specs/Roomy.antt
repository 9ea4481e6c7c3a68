-- where the roles have room for what they forward: no row finds the leg full on which a packet is
-- to go on (MS-RPCH 2.2.4; the rooms are this profile's)
use Rattle.std.specs.Prelude.{◌≡◌, ◌≤◌, ℕ, List, IsTrue, Err}
use Rattle.rh_sig.specs.declared.named.Named.{Named}
use Rattle.rh_line.specs.declared.leg.LegKind.{LegKind}
use Rattle.rh_line.specs.declared.leg.Leg.{Leg}
use Rattle.rh_shell.specs.declared.answers.Count.{Count}
use Rattle.rh_shell.specs.declared.answers.Refused.TheVariants as refused
use Rattle.rh_shell.specs.Rules.{Message, Packet, Row, Rules}
use Rattle.rh_inproxy.specs.Machine as in_proxy
use Rattle.rh_outproxy.specs.Machine as out_proxy
use Rattle.rh_client.specs.State.{ci}
use Rattle.rh_server.specs.Servers as server
use Rattle.rh_nodes.specs.Settling.{leg_at}
use Rattle.law_moves.specs.Moves.{Passage, is_in_use}
use Rattle.law_moves.specs.Wires.{of_leg}
use Rattle.law_moves.specs.Passages.Counted.{Tells, packets}
use Rattle.law_moves.specs.ReadBack.Reading.{all_read_of}
use Rattle.law_peers_moments.specs.Expecting.{IsAhead}
use Rattle.law_peers_moments.specs.Moments.{Moves, Numbers, client_behind, in_behind, out_behind, server_behind}
use Rattle.law_world_windows.specs.Hops.{is_leg, os_leg}

-- ---- rows

-- the row finds no leg full
abbrev pub FindsRoom : Row → Type 0
FindsRoom (Err (refused.Full full)) = ⊥
FindsRoom row = Unit {0}

-- so does each row of the role for an RPC PDU
abbrev pub PdusFindRoom : {S : Type 0} → Rules S → Type 0
PdusFindRoom {S} rules =
    (role : S) (leg : Leg) (count : Count) (pdu : List ℕ)
    → FindsRoom (rules.pdu role leg count pdu).1

-- and for a packet on a leg of this kind
abbrev pub PacketsFindRoom : {S : Type 0} → Rules S → LegKind → Type 0
PacketsFindRoom {S} rules kind =
    (role : S) (number : ℕ) (count : Count) (named : Named)
    → FindsRoom (rules.packet role (leg_at kind number) count named).1

-- ---- at a moment

-- on a leg that was up and is in use, so does the row for the next packet, by its true count
abbrev pub NextFindsRoom : {S : Type 0} → Rules S → Passage S → Leg → List Message → Type 0
NextFindsRoom rules p leg all =
    (count : Count) (named : Named) → IsTrue (is_in_use rules p.role leg)
    → IsTrue (rules.was_up p.role leg) → Tells count (packets (of_leg leg p.came))
    → IsAhead p leg all (Packet named) → FindsRoom (rules.packet p.role leg count named).1

-- an in proxy has room for what the client put on a ci leg that it reads
abbrev pub InHasRoom : Numbers → (ℕ → ℕ) → Moves → Type 0
InHasRoom all reader moves =
    (m n : ℕ) → reader n ≡ m → 1 ≤ m
    → NextFindsRoom in_proxy.rules (in_behind all moves m) (ci n)
    (all_read_of (of_leg (ci n) (client_behind all moves).passage.put))

-- an out proxy for what the server put on its os leg
abbrev pub OutHasRoom : Numbers → (ℕ → ℕ) → Moves → Type 0
OutHasRoom all reader moves =
    (n : ℕ) → NextFindsRoom out_proxy.rules (out_behind all moves n) (os_leg n)
    (all_read_of (of_leg (os_leg n) (server_behind all moves).passage.put))

-- and the server for what an in proxy put on its is leg
abbrev pub ServerHasRoom : Numbers → (ℕ → ℕ) → Moves → Type 0
ServerHasRoom all reader moves =
    (m : ℕ) → NextFindsRoom server.rules (server_behind all moves).passage (is_leg m)
    (all_read_of (of_leg (is_leg m) (in_behind all moves m).put))
