-- what an end puts first on each leg, what it reads there, and which legs came up at it (profile)
use Rattle.std.specs.Prelude.{ℕ, ◌≡◌, ◌⊎◌, List, [], Bool, None}
use Rattle.std.specs.List.{list_any}
use Rattle.std.specs.declared.option.Option.{Option}
use Rattle.rh_sig.specs.declared.name.Pipe.{Pipe}
use Rattle.rh_http.specs.declared.config.ClientConfig.{ClientConfig}
use Rattle.rh_http.specs.Texts.{in_request, out_request}
use Rattle.rh_line.specs.declared.leg.Leg.{Leg}
use Rattle.rh_line.specs.declared.leg.LegKind.{LegKind}
use Rattle.rh_line.specs.declared.leg.LegKind.TheVariants.{ClientOut, OutServer, ClientIn, InServer}
use Rattle.rh_shell.specs.Rules.{Message, Text, Pdu, Packet}
use Rattle.rh_client.specs.declared.lengths.TheConstants.{CONN_A1_LEN, OUT_R1_A3_C1_LEN}
use Rattle.rh_client.specs.Opening.{pipe_by}
use Rattle.rh_server.specs.Servers.{pipe_of}
use Rattle.law_moves.specs.Wires.{of_leg}
use Rattle.law_moves.specs.Moves.{OnLeg, EndMove}
use Rattle.law_moves.specs.ReadBack.Reading.{Begins}
use Rattle.law_node_streams.specs.Streams.{is_end_up_on}

-- what was put on each leg begins as its end reads it, by the pipe that is read there; and nothing
-- was put on a leg that has none
pub record BeginsLegs (pipe : Leg → Option Pipe) (put : List OnLeg) : Type 0 where
  pub begins : (leg : Leg) → Begins (pipe leg) (of_leg leg put)
  pub nothing : (leg : Leg) → pipe leg ≡ None → of_leg leg put ≡ []

-- the leg came up by one of the moves
abbrev pub came_up : Leg → List EndMove → Bool
came_up leg moves = list_any (is_end_up_on leg) moves

-- a client asks for an IN channel by its lifetime, and for an OUT channel by the bytes of the
-- packets that open it, or replace another (MS-RPCH 2.1.2, profile)
abbrev pub IsRequestOf : ClientConfig → LegKind → List ℕ → Type 0
IsRequestOf config ClientIn text = text ≡ in_request config
IsRequestOf config ClientOut text =
    (text ≡ out_request config CONN_A1_LEN) ⊎ (text ≡ out_request config OUT_R1_A3_C1_LEN)
IsRequestOf config OutServer text = ⊥
IsRequestOf config InServer text = ⊥

-- if it is a text, it asks so
abbrev pub Asks : ClientConfig → LegKind → Message → Type 0
Asks config kind (Text text) = IsRequestOf config kind text
Asks config kind (Pdu pdu) = Unit {0}
Asks config kind (Packet named) = Unit {0}

-- ---- the ends

-- what a client reads on a leg, and what a server reads (MS-RPCH 2.2.4)
abbrev pub client_reads : Leg → Option Pipe
client_reads leg = pipe_by leg.kind

abbrev pub server_reads : Leg → Option Pipe
server_reads leg = pipe_of leg.kind
