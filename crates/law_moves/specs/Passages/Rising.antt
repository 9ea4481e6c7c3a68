-- legs that come up, with the cookies of their channels (MS-RPCH 2.2.3.1)
use Rattle.std.specs.Prelude.{◌≡◌, ◌⊎◌, List, [], ◌∷◌, ◌++◌}
use Rattle.rh_rts.specs.declared.command.Cookie.{Cookie}
use Rattle.rh_line.specs.declared.leg.Leg.{Leg}
use Rattle.law_moves.specs.Moves.{EndMove, Moves, Up, PduCame, PacketCame}
use Rattle.law_moves.specs.Moving.{Event, ComesUp}

-- at one of these moves of an end the leg came up, with this cookie
abbrev pub HasComeUp : List EndMove → Leg → Cookie → Type 0
HasComeUp [] leg cookie = ⊥
HasComeUp (move ∷ moves) leg cookie =
    (move ≡ Moves (Up leg cookie)) ⊎ HasComeUp moves leg cookie

-- and at one of these events of a node
abbrev pub CameUpWith : List Event → Leg → Cookie → Type 0
CameUpWith [] leg cookie = ⊥
CameUpWith (event ∷ events) leg cookie =
    (event ≡ ComesUp leg cookie) ⊎ CameUpWith events leg cookie

-- with some cookie
abbrev pub WasUp : List EndMove → Leg → Type 0
WasUp moves leg = (cookie : Cookie) × HasComeUp moves leg cookie

-- a PDU or a packet comes only on a leg that came up before
abbrev pub IsUpFirst : List EndMove → EndMove → Type 0
IsUpFirst before (Moves (PduCame leg count pdu)) = WasUp before leg
IsUpFirst before (Moves (PacketCame leg count named)) = WasUp before leg
IsUpFirst before move = Unit {0}

abbrev pub AreUpFirst : List EndMove → List EndMove → Type 0
AreUpFirst before [] = Unit {0}
AreUpFirst before (move ∷ moves) =
    IsUpFirst before move × AreUpFirst (before ++ move ∷ []) moves
