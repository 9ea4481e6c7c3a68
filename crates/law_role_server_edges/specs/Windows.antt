-- what a server knows of the receive windows of out proxies, and what it tells in proxies of its
-- own (MS-RPCH 3.2; successors are this profile's)
use Rattle.std.specs.Prelude.{◌≤◌, ℕ, List, IfSome}
use Rattle.std.specs.List.{AllByRecursion}
use Rattle.rh_line.specs.declared.leg.LegKind.TheVariants.{InServer, OutServer}
use Rattle.rh_server.specs.declared.state.InLeg.{InLeg}
use Rattle.rh_server.specs.declared.state.InStage.{InStage}
use Rattle.rh_server.specs.declared.state.InStage.TheVariants as in_stage
use Rattle.rh_server.specs.declared.state.OutLeg.{OutLeg}
use Rattle.rh_server.specs.declared.state.Tells.{Tells}
use Rattle.rh_server.specs.declared.state.Tells.TheVariants as tells
use Rattle.rh_server.specs.States.{Server, in_leg, out_leg}
use Rattle.law_moves.specs.Moves.{OnLeg, Passage}
use Rattle.law_moves.specs.PacketKinds.{opens_server}
use Rattle.law_moves.specs.Wires.{of_leg}
use Rattle.law_role_server.specs.Counted.Counting.{leg_at, often_at}
use Rattle.law_role_edges.specs.Edges.{IsWithin, edge_told}
use Rattle.law_role_edges.specs.OutProxies.{IsToldIn}

-- where os leg n is kept, the edge up to which the server sends there is none below any that it was
-- told there
abbrev pub KnowsOutProxy : ℕ → Passage Server → Type 0
KnowsOutProxy n p =
    IfSome (out_leg n p.role.outs) (λ (leg : OutLeg).
    AllByRecursion (IsWithin edge_told leg.window.edge) (of_leg (leg_at OutServer n) p.came))

-- CONN/B3 or IN_R1/B2 was put on is leg n
abbrev pub HasToldWindow : ℕ → List OnLeg → Type 0
HasToldWindow n put = 1 ≤ often_at opens_server InServer n put

-- once it was on the leg of the current IN channel, one of the packets that were put there tells
-- all that the channel's window told
abbrev pub TellsInProxy : Passage Server → Type 0
TellsInProxy p =
    HasToldWindow p.role.current.leg p.put
    → IsToldIn p.role.line.current.window.told
    (of_leg (leg_at InServer p.role.current.leg) p.put)

-- a channel of the leg is open
abbrev pub IsOpened : InStage → Type 0
IsOpened in_stage.Fresh = ⊥
IsOpened (in_stage.Waits window timeout ended) = ⊥
IsOpened in_stage.Opened = Unit {0}

-- neither of the two packets is due
abbrev pub TellsNothing : Tells → Type 0
TellsNothing tells.Nothing = Unit {0}
TellsNothing tells.ConnB3 = ⊥
TellsNothing tells.InR1B2 = ⊥

-- where is leg n is kept, and its channel is open, one of them is due, or was put
abbrev pub TellsWindow : ℕ → Passage Server → Type 0
TellsWindow n p =
    IfSome (in_leg n p.role.ins) (λ (leg : InLeg).
    IsOpened leg.stage → TellsNothing leg.tells → HasToldWindow n p.put)
