-- the machines of nodes: an event is one call of a core, and the reply is what that answers (profile)
use Rattle.std.specs.Prelude.{ℕ, List, [], ◌∷◌, None, Some}
use Rattle.std.specs.declared.option.Option.{Option}
use Rattle.rh_rts.specs.declared.command.Cookie.{Cookie}
use Rattle.rh_line.specs.declared.cause.Cause.{Cause}
use Rattle.rh_line.specs.declared.leg.Leg.{Leg}
use Rattle.rh_line.specs.declared.state.Take.{Take as Taking}
use Rattle.rh_line.specs.declared.state.Take.TheVariants as takes
use Rattle.rh_line.specs.declared.state.Verdict.{Verdict}
use Rattle.rh_shell.specs.Rules.{Rules, Acts}
use Rattle.rh_shell.specs.Shells as shells
use Rattle.rh_shell.specs.Shells.{Shell}
use Rattle.rh_shell.specs.Ends as ends
use Rattle.rh_machines.specs.declared.event.NodeEvent.{NodeEvent}
use Rattle.rh_machines.specs.declared.event.NodeEvent.TheVariants as event
use Rattle.rh_machines.specs.declared.event.NodeReply.{NodeReply}
use Rattle.rh_machines.specs.declared.event.NodeReply.TheVariants as reply

-- ---- the state behind an event; `named` is what the role makes of a leg's cookie

module _ {S : Type 0} (rules : Rules S) (named : Cookie → Cookie) where
  abbrev pub next : Shell S → NodeEvent → Shell S
  next s (event.Wants leg) = s
  next s (event.Up leg cookie) = shells.up rules s leg (named cookie)
  next s (event.Bytes leg piece) = (shells.bytes rules s leg piece).0
  next s (event.Ended leg) = (shells.ended rules s leg).0
  next s (event.Broken leg) = (shells.broken rules s leg).0
  next s (event.Draw leg room) = (shells.drawn rules s leg room).0
  next s (event.Finished leg) = s
  next s (event.Tick now) = (shells.tick rules s now).0
  next s event.State = s
  next s event.Target = s
  next s (event.Give block) = s
  next s (event.Take room) = s
  next s event.Close = s
  next s event.Recycle = s

-- an end besides takes PDUs in and gives them out
module _ {S : Type 0} (rules : Rules S) (named : Cookie → Cookie) (acts : Acts S) where
  abbrev pub end_next : Shell S → NodeEvent → Shell S
  end_next s (event.Give block) = (ends.give acts s block).0
  end_next s (event.Take room) = ends.after_take acts s
  end_next s event.Close = ends.close acts s
  end_next s event.Recycle = (ends.recycle acts rules s).0
  end_next s e = next rules named s e

-- ---- the reply

-- the server that a proxy's client named; an end knows none
abbrev pub target_told : Option (Option (List ℕ × ℕ)) → NodeReply
target_told (Some server) = reply.Target server
target_told None = reply.NotHere

module _ {S : Type 0} (rules : Rules S) (target : S → Option (Option (List ℕ × ℕ))) where
  -- the verdict on a piece, and whether the leg is finished behind it
  abbrev pub fed : Leg → List ℕ → Shell S × Verdict → NodeReply
  fed leg piece heard = reply.Fed heard.1 (shells.finished rules heard.0 leg) piece

  abbrev pub replied : Shell S → NodeEvent → NodeReply
  replied s (event.Wants leg) = reply.Told (shells.wants rules s leg)
  replied s (event.Up leg cookie) = reply.Told (shells.may_up rules s leg)
  replied s (event.Bytes leg piece) = fed leg piece (shells.bytes rules s leg piece)
  replied s (event.Ended leg) = reply.Verdict (shells.ended rules s leg).1
  replied s (event.Broken leg) = reply.Verdict (shells.broken rules s leg).1
  replied s (event.Draw leg room) = reply.Drawn (shells.drawn rules s leg room).1
  replied s (event.Finished leg) = reply.Told (shells.finished rules s leg)
  replied s (event.Tick now) = reply.Verdict (shells.tick rules s now).1
  replied s event.State = reply.State (shells.state_of rules s)
  replied s event.Target = target_told (target s.role)
  replied s (event.Give block) = reply.NotHere
  replied s (event.Take room) = reply.NotHere
  replied s event.Close = reply.NotHere
  replied s event.Recycle = reply.NotHere

-- how many bytes stand at the front of the room behind a take
abbrev pub taken_len : Taking → ℕ
taken_len (takes.Pdu len) = len
taken_len takes.Empty = 0
taken_len takes.Ended = 0
taken_len (takes.Closed why) = 0

-- the first of these PDUs, or no bytes
abbrev pub first_pdu : List (List ℕ) → List ℕ
first_pdu [] = []
first_pdu (pdu ∷ pdus) = pdu

module _ {S : Type 0} (acts : Acts S) where
  -- what is taken of an end: none where it closed
  abbrev pub taken_where : Shell S → Option Cause → List ℕ
  taken_where s (Some why) = []
  taken_where s None = first_pdu (acts.line s.role).current.pdus

  abbrev pub taken : Shell S → List ℕ
  taken s = taken_where s (ends.cause_of s.course)

  abbrev pub taken_of : Shell S → NodeReply
  taken_of s = reply.Taken (ends.take_answer acts s) (taken s)

module _ {S : Type 0} (rules : Rules S) (acts : Acts S) where
  abbrev pub end_reply : Shell S → NodeEvent → NodeReply
  end_reply s (event.Give block) = reply.Given (ends.give acts s block).1 block
  end_reply s (event.Take room) = taken_of acts s
  end_reply s event.Close = reply.Done
  end_reply s event.Recycle = reply.Recycled (ends.recycle acts rules s).1
  end_reply s e = replied rules (λ _. None) s e
