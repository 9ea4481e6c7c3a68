-- the pipes that a capture has (MS-RPCH 3.2), and what is carried on them
use Rattle.std.specs.Prelude.{◌≡◌, ℕ, List, [], ◌∷◌, codes, Bool, true, false, IsTrue}
use Rattle.rh_sig.specs.declared.name.Pipe.{Pipe}
use Rattle.rh_sig.specs.declared.name.Pipe.TheVariants.{CiU, IsU, IsD, CoU, CoD, OsU, OsD}
use Rattle.rh_line.specs.declared.leg.LegKind.{LegKind}
use Rattle.rh_line.specs.declared.leg.LegKind.TheVariants.{ClientOut, OutServer, ClientIn, InServer}

-- the word for a pipe
abbrev pub pipe_word : Pipe → List ℕ
pipe_word CiU = codes "ciu"
pipe_word IsU = codes "isu"
pipe_word IsD = codes "isd"
pipe_word CoU = codes "cou"
pipe_word CoD = codes "cod"
pipe_word OsU = codes "osu"
pipe_word OsD = codes "osd"

-- a capture has all pipes but the one from the server to an in proxy, by which no RPC PDU comes
abbrev pub is_seen : Pipe → Bool
is_seen CiU = true
is_seen IsU = true
is_seen IsD = false
is_seen CoU = true
is_seen CoD = true
is_seen OsU = true
is_seen OsD = true

-- the text is the word for such a pipe
pub record IsPipe (pipe : Pipe) (text : List ℕ) : Type 0 where
  pub seen : IsTrue (is_seen pipe)
  pub spelled : text ≡ pipe_word pipe

-- those pipes, in the order in which faults are told
abbrev pub pipes : List Pipe
pipes = CiU ∷ IsU ∷ CoU ∷ CoD ∷ OsU ∷ OsD ∷ []

-- a pipe towards the server
abbrev pub is_upward : Pipe → Bool
is_upward CiU = true
is_upward IsU = true
is_upward IsD = false
is_upward CoU = true
is_upward CoD = false
is_upward OsU = true
is_upward OsD = false

-- ---- legs

-- the kind of leg that has the pipe
abbrev pub kind_of : Pipe → LegKind
kind_of CiU = ClientIn
kind_of IsU = InServer
kind_of IsD = InServer
kind_of CoU = ClientOut
kind_of CoD = ClientOut
kind_of OsU = OutServer
kind_of OsD = OutServer

-- the pipe on which a leg's first packet goes: towards the server
abbrev pub first_pipe : LegKind → Pipe
first_pipe ClientIn = CiU
first_pipe InServer = IsU
first_pipe ClientOut = CoU
first_pipe OutServer = OsU

-- the pipe on which a leg's RPC PDUs go
abbrev pub pdu_pipe : LegKind → Pipe
pdu_pipe ClientIn = CiU
pdu_pipe InServer = IsU
pdu_pipe ClientOut = CoD
pdu_pipe OutServer = OsD
