-- the legs that each node has, and what a node closes with where what came was not to come there
-- (MS-RPCH 3.2; which leg has which number, and what is amiss, is this profile's)
use Rattle.std.specs.Prelude.{ℕ, ◌≡◌, ◌⊎◌}
use Rattle.rh_rts.specs.declared.command.Cookie.{Cookie}
use Rattle.rh_line.specs.declared.cause.Cause.{Cause}
use Rattle.rh_line.specs.declared.cause.Cause.TheVariants.{CookieMismatch, Unexpected}
use Rattle.rh_line.specs.declared.leg.Leg.{Leg}
use Rattle.rh_line.specs.declared.leg.LegKind.TheVariants.{ClientOut, OutServer, ClientIn, InServer}
use Rattle.rh_shell.specs.declared.stage.Stage.TheVariants as stage
use Rattle.rh_shell.specs.NearEnds.{NearEnd}
use Rattle.rh_shell.specs.Shells.{Shell}
use Rattle.law_node_causes.specs.Reasons.{StandsIn}

-- ---- legs

-- an in proxy is between a client and the server on the way in
abbrev pub IsOfInProxy : Leg → Type 0
IsOfInProxy leg = (leg.kind ≡ ClientIn) ⊎ (leg.kind ≡ InServer)

-- an out proxy is on the way out
abbrev pub IsOfOutProxy : Leg → Type 0
IsOfOutProxy leg = (leg.kind ≡ ClientOut) ⊎ (leg.kind ≡ OutServer)

-- the server has those of the proxies
abbrev pub IsOfServer : Leg → Type 0
IsOfServer leg = (leg.kind ≡ InServer) ⊎ (leg.kind ≡ OutServer)

-- ---- ends

-- a client's end is of an OUT leg, or of an IN leg, where a head is waited for: a response that is
-- whole there closes the client
abbrev pub IsOfClient : NearEnd → Type 0
IsOfClient end =
    (end.leg.kind ≡ ClientOut)
    ⊎ ((end.leg.kind ≡ ClientIn) × (end.intake.stage ≡ stage.Head))

-- so is each end that the node keeps
abbrev pub KeepsEnds : {S : Type 0} → (NearEnd → Type 0) → Shell S → Type 0
KeepsEnds Of node = (end : NearEnd) → StandsIn node.legs end → Of end

-- each leg of which the node keeps an end is so
abbrev pub KeepsLegs : {S : Type 0} → (Leg → Type 0) → Shell S → Type 0
KeepsLegs On node = KeepsEnds (λ end. On end.leg) node

-- ---- causes

-- what came on the leg was not to come there, or named another cookie
abbrev pub IsAmissOn : Leg → Cause → Type 0
IsAmissOn leg why =
    ((place : ℕ) × (why ≡ Unexpected leg place))
    ⊎ ((expected : Cookie) × (got : Cookie) × (why ≡ CookieMismatch leg expected got))
