-- what a server keeps, without the bytes of its legs (MS-RPCH 3.2.5; replacement and a clean end
-- are this profile's)
use Rattle.std.specs.Prelude.{ℕ, ◌==◌, ◌≡◌, List, [], ◌∷◌, Bool, true, false, position, slice_get, slice_set, remove, replicate, Some, None}
use Rattle.std.specs.Str.{bytes_eq}
use Rattle.std.specs.declared.option.Option.{Option}
use Rattle.rh_rts.specs.declared.command.Cookie.{Cookie}
use Rattle.rh_line.specs.Lines.{Line}
use Rattle.rh_shell.specs.Waiting.{Waiting}
use Rattle.rh_shell.specs.declared.answers.Phase.{Phase}
use Rattle.rh_shell.specs.declared.answers.Phase.TheVariants as phase
use Rattle.rh_rts.specs.declared.command.TheConstants.{COOKIE_LEN}
use Rattle.rh_server.specs.declared.state.Stage.{Stage}
use Rattle.rh_server.specs.declared.state.Stage.TheVariants.{Waits, OutCame, InCame, Open, Ended}
use Rattle.rh_server.specs.declared.state.Giving.{Giving}
use Rattle.rh_server.specs.declared.state.Giving.TheVariants.{Going, Closing}
use Rattle.rh_server.specs.declared.state.EndMark.{EndMark}
use Rattle.rh_server.specs.declared.state.EndMark.TheVariants as end_mark
use Rattle.rh_server.specs.declared.state.Greeting.{Greeting}
use Rattle.rh_server.specs.declared.state.Greeting.TheVariants as greeting
use Rattle.rh_server.specs.declared.state.Edge.{Edge}
use Rattle.rh_server.specs.declared.state.Edge.TheVariants as edge
use Rattle.rh_server.specs.declared.state.InStage.{InStage}
use Rattle.rh_server.specs.declared.state.InStage.TheVariants as in_stage
use Rattle.rh_server.specs.declared.state.Leaving.{Leaving}
use Rattle.rh_server.specs.declared.state.Leaving.TheVariants.{Stays, InR1B1, Left, Lost}
use Rattle.rh_server.specs.declared.state.InLeg.{InLeg}
use Rattle.rh_server.specs.declared.state.InChannel.{InChannel}
use Rattle.rh_server.specs.declared.state.Newest.{Newest}
use Rattle.rh_server.specs.declared.state.OutLeg.{OutLeg}
use Rattle.rh_server.specs.declared.state.Replacement.{Replacement}
use Rattle.rh_server.specs.declared.state.Replacement.TheVariants.{Steady, Asked, Answered, Confirmed}

pub record Server : Type 0 where
  pub stage : Stage
  -- the PDUs that came: the current channel's leg and that of the next, where there is one; whether
  -- the current one's window was told; and the newest leg on which a packet came
  pub line : Line
  pub current : InChannel
  pub next : InChannel
  pub edge : Edge
  pub newest : Newest
  -- the newest IN number that was given, to a leg or by IN_R2/A2
  pub newest_in : ℕ
  -- the is legs that are not finished, in the order in which they came up
  pub ins : List InLeg
  -- the PDUs that are to go, and the number of the channel on which they go
  pub queue : List (List ℕ)
  pub giving : Giving
  pub writing : ℕ
  pub end_mark : EndMark
  pub replacement : Replacement
  -- the packets that wait for the writing channel, and AckTo 3 for any
  pub waiting : Waiting
  pub newest_out : ℕ
  pub outs : List OutLeg

-- ---- tests

abbrev pub is_some : {A : Type 0} → Option A → Bool
is_some None = false
is_some (Some x) = true

abbrev pub is_nil : {A : Type 0} → List A → Bool
is_nil [] = true
is_nil (x ∷ xs) = false

abbrev pub same_cookie : Cookie → Cookie → Bool
same_cookie one other = bytes_eq one.0 other.0

-- what stands for a cookie that is not known
abbrev pub no_cookie : Cookie
no_cookie = record { 0 = replicate COOKIE_LEN 0 }

abbrev pub is_open : Stage → Bool
is_open Waits = false
is_open (OutCame connection) = false
is_open (InCame connection window timeout) = false
is_open (Open connection) = true
is_open Ended = false

abbrev pub phase_of : Stage → Phase
phase_of Waits = phase.Opening
phase_of (OutCame connection) = phase.Opening
phase_of (InCame connection window timeout) = phase.Opening
phase_of (Open connection) = phase.Open
phase_of Ended = phase.Ended

abbrev pub is_closing : Giving → Bool
is_closing Going = false
is_closing Closing = true

abbrev pub is_put : EndMark → Bool
is_put end_mark.Unput = false
is_put end_mark.Put = true

abbrev pub is_due : Greeting → Bool
is_due greeting.Due = true
is_due greeting.Put = false

abbrev pub is_shut : Edge → Bool
is_shut edge.Told = false
is_shut edge.Shut = true

abbrev pub is_fresh : InStage → Bool
is_fresh in_stage.Fresh = true
is_fresh (in_stage.Waits window timeout ended) = false
is_fresh in_stage.Opened = false

abbrev pub is_waiting : InStage → Bool
is_waiting in_stage.Fresh = false
is_waiting (in_stage.Waits window timeout ended) = true
is_waiting in_stage.Opened = false

abbrev pub stays : Leaving → Bool
stays Stays = true
stays InR1B1 = false
stays Left = false
stays Lost = true

-- IN_R1/B1 was put
abbrev pub has_left : Leaving → Bool
has_left Stays = false
has_left InR1B1 = false
has_left Left = true
has_left Lost = false

abbrev pub is_lost : Leaving → Bool
is_lost Stays = false
is_lost InR1B1 = false
is_lost Left = false
is_lost Lost = true

abbrev pub is_steady : Replacement → Bool
is_steady Steady = true
is_steady Asked = false
is_steady (Answered successor) = false
is_steady Confirmed = false

abbrev pub is_confirmed : Replacement → Bool
is_confirmed Steady = false
is_confirmed Asked = false
is_confirmed (Answered successor) = false
is_confirmed Confirmed = true

-- a window that is still to be told is shut
abbrev pub IsEdge : Edge → Line → Type 0
IsEdge edge.Told line = Unit {0}
IsEdge edge.Shut line = line.current.window.told ≡ 0

abbrev pub with_stage : Server → Stage → Server
with_stage s stage = record s { stage = stage }

-- ---- legs

abbrev pub in_place : ℕ → List InLeg → Option ℕ
in_place number legs = position (λ (leg : InLeg). leg.number == number) legs

abbrev pub in_at : List InLeg → Option ℕ → Option InLeg
in_at legs None = None
in_at legs (Some place) = slice_get legs place

-- the is leg of that number, where it is kept
abbrev pub in_leg : ℕ → List InLeg → Option InLeg
in_leg number legs = in_at legs (in_place number legs)

abbrev pub set_at : {A : Type 0} → List A → A → Option ℕ → List A
set_at legs leg None = legs
set_at legs leg (Some place) = slice_set legs place leg

abbrev pub removed_at : {A : Type 0} → List A → Option ℕ → List A
removed_at legs None = legs
removed_at legs (Some place) = remove legs place

-- the leg of that number has changed
abbrev pub with_in : Server → InLeg → Server
with_in s leg = record s { ins = set_at s.ins leg (in_place leg.number s.ins) }

abbrev pub without_in : Server → ℕ → Server
without_in s number = record s { ins = removed_at s.ins (in_place number s.ins) }

abbrev pub out_place : ℕ → List OutLeg → Option ℕ
out_place number legs = position (λ (leg : OutLeg). leg.number == number) legs

abbrev pub out_at : List OutLeg → Option ℕ → Option OutLeg
out_at legs None = None
out_at legs (Some place) = slice_get legs place

abbrev pub out_leg : ℕ → List OutLeg → Option OutLeg
out_leg number legs = out_at legs (out_place number legs)

abbrev pub cookie_by : Option OutLeg → Option Cookie
cookie_by None = None
cookie_by (Some leg) = leg.cookie

-- the cookie of an os leg's channel
abbrev pub out_cookie : ℕ → List OutLeg → Option Cookie
out_cookie number legs = cookie_by (out_leg number legs)

abbrev pub without_out : Server → ℕ → Server
without_out s number = record s { outs = removed_at s.outs (out_place number s.outs) }
