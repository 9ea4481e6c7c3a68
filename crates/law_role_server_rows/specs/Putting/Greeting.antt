-- a server greets first on each leg (profile)
use Rattle.std.specs.Prelude.{ℕ, ◌≡◌, List, [], ◌∷◌}
use Rattle.std.specs.List.{AllByRecursion}
use Rattle.rh_line.specs.declared.leg.Leg.{Leg}
use Rattle.rh_line.specs.declared.leg.LegKind.TheVariants.{InServer}
use Rattle.rh_shell.specs.Hearing.{greeting}
use Rattle.rh_shell.specs.Rules.{Message, Text, Pdu, Packet}
use Rattle.rh_server.specs.States.{Server}
use Rattle.law_moves.specs.Moves.{Passage}
use Rattle.law_moves.specs.Wires.{of_leg}
use Rattle.law_role_server_rows.specs.Putting.Puts.{os}

-- an RPC PDU or a packet
abbrev pub IsFrame : Message → Type 0
IsFrame (Text bytes) = ⊥
IsFrame (Pdu pdu) = Unit {0}
IsFrame (Packet packet) = Unit {0}

-- the greeting, and then frames
abbrev pub IsGreeted : List Message → Type 0
IsGreeted [] = ⊥
IsGreeted (first ∷ rest) = (first ≡ Text greeting) × AllByRecursion IsFrame rest

-- as far as they were put
abbrev pub MayGreet : List Message → Type 0
MayGreet [] = Unit {0}
MayGreet (first ∷ rest) = IsGreeted (first ∷ rest)

abbrev pub is : ℕ → Leg
is n = record { kind = InServer; number = n }

pub record GreetsFirst (p : Passage Server) : Type 0 where
  pub out_proxies : (n : ℕ) → MayGreet (of_leg (os n) p.put)
  pub in_proxies : (n : ℕ) → MayGreet (of_leg (is n) p.put)
