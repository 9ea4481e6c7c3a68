-- what came on a line and what was taken, over any sequence of calls
use Rattle.std.specs.Prelude.{ℕ, ◌≡◌, ◌+◌, ◌≤◌, ◌++◌, List, [], ◌∷◌, Bool, true, false, ◌&&◌, ◌||◌, if◌then◌else◌, Some, Ok, Err}
use Rattle.std.specs.declared.result.Result.{Result}
use Rattle.rh_pdu.specs.Frames.{IsPdu}
use Rattle.rh_window.specs.declared.recv_window.Ack.{Ack}
use Rattle.rh_line.specs.declared.line_fault.LineFault.{LineFault}
use Rattle.rh_line.specs.declared.which.Which.{Which}
use Rattle.rh_line.specs.declared.which.Which.TheVariants.{Current, Next}
use Rattle.rh_line.specs.Queue.{total}
use Rattle.rh_line.specs.Lines.{Incoming, Line, IsThere, channel_of, first_line, is_empty, moved_on, released, admit_verdict, due, after_admit, after_end, after_finish, after_open_next, after_tell, after_told, after_take}

-- ---- calls

pub data Call : Type 0 where
  -- a PDU comes on a channel
  Admits : Which → List ℕ → Call
  -- END comes on a channel
  Ends : Which → Call
  -- the current channel is finished
  Finishes : Call
  -- a successor is opened, its window shut (true) or told
  OpensNext : Bool → Call
  -- a window that was shut is told
  Tells : Which → Call
  -- an acknowledgement that is due goes to the sender
  Acknowledges : Which → Ack → Call
  -- the next PDU is asked for
  Takes : Call

-- when it may be
abbrev pub CanCall : Line → Call → Type 0
CanCall line (Admits which pdu) = IsThere line which × IsPdu pdu
CanCall line (Ends which) = IsThere line which
CanCall line Finishes = line.has_next ≡ true
CanCall line (OpensNext shut) = line.has_next ≡ false
CanCall line (Tells which) = IsThere line which × ((channel_of line which).window.told ≡ 0)
CanCall line (Acknowledges which ack) = IsThere line which × (due line which ≡ Some ack)
CanCall line Takes = Unit {0}

abbrev pub after : Line → Call → Line
after line (Admits which pdu) = after_admit line which pdu
after line (Ends which) = after_end line which
after line Finishes = after_finish line
after line (OpensNext shut) = after_open_next line shut
after line (Tells which) = after_tell line which
after line (Acknowledges which ack) = after_told line which ack
after line Takes = after_take line

abbrev pub CanRun : Line → List Call → Type 0
CanRun line [] = Unit {0}
CanRun line (call ∷ calls) = CanCall line call × CanRun (after line call) calls

abbrev pub line_behind : Line → List Call → Line
line_behind line [] = line
line_behind line (call ∷ calls) = line_behind (after line call) calls

-- ---- what came and what was taken

-- a channel that was current before: the PDUs that were admitted on it, and whether END came
pub record Past : Type 0 where
  pub admitted : List (List ℕ)
  pub ended : Bool

pub record History : Type 0 where
  pub line : Line
  -- the channels that were current before, in order of number
  pub past : List Past
  -- the PDUs that were admitted on the current channel, and on the next one
  pub current : List (List ℕ)
  pub next : List (List ℕ)
  -- the PDUs that were taken
  pub taken : List (List ℕ)

abbrev pub begun : ℕ → History
begun size =
    record { line = first_line size; past = []; current = []; next = []; taken = [] }

-- the PDU, where it is admitted
abbrev pub came : Result (Unit {0}) LineFault → List ℕ → List (List ℕ)
came (Ok admitted) pdu = pdu ∷ []
came (Err fault) pdu = []

-- the next channel becomes current
abbrev pub shifted : History → History
shifted h = record {
  line = moved_on h.line;
  past = h.past ++ record { admitted = h.current; ended = h.line.current.ended } ∷ [];
  current = h.next;
  next = [];
  taken = h.taken;
}

abbrev pub with_finish : History → History
with_finish h = record h { line = record h.line { finished = true } }

abbrev pub settles : History → History
settles h = if h.line.finished && is_empty h.line.current.pdus then shifted h else h

-- the first PDU is taken, and these are left
abbrev pub with_taken : List ℕ → List (List ℕ) → History → History
with_taken pdu pdus h = record h {
  line = record h.line { current = released (pdu ∷ pdus) h.line.current };
  taken = h.taken ++ pdu ∷ [];
}

abbrev pub taking : List (List ℕ) → History → History
taking [] h = h
taking (pdu ∷ pdus) h = settles (with_taken pdu pdus h)

abbrev pub goes : History → Call → History
goes h (Admits Current pdu) = record h {
  line = after_admit h.line Current pdu;
  current = h.current ++ came (admit_verdict h.line Current pdu) pdu;
}
goes h (Admits Next pdu) = record h {
  line = after_admit h.line Next pdu;
  next = h.next ++ came (admit_verdict h.line Next pdu) pdu;
}
goes h (Ends which) = record h { line = after_end h.line which }
goes h Finishes = settles (with_finish h)
goes h (OpensNext shut) = record h { line = after_open_next h.line shut; next = [] }
goes h (Tells which) = record h { line = after_tell h.line which }
goes h (Acknowledges which ack) = record h { line = after_told h.line which ack }
goes h Takes = taking h.line.current.pdus h

abbrev pub history : History → List Call → History
history h [] = h
history h (call ∷ calls) = history (goes h call) calls

-- the PDUs that were admitted on channels, in order of number
abbrev pub joined : List Past → List (List ℕ)
joined [] = []
joined (channel ∷ channels) = channel.admitted ++ joined channels

-- END came on one of them
abbrev pub some_ended : List Past → Bool
some_ended [] = false
some_ended (channel ∷ channels) = channel.ended || some_ended channels

-- what was taken is all that was admitted on the channels that were current before, and then a
-- front of what was admitted on the current one; the rest of that is held, and all of the next one;
-- and it is known whether END came on a channel that was current before
pub record IsInOrder (h : History) : Type 0 where
  pub given : List (List ℕ)
  pub taken : h.taken ≡ joined h.past ++ given
  pub current : h.current ≡ given ++ h.line.current.pdus
  pub next : h.next ≡ h.line.next.pdus
  pub marked : h.line.was_ended ≡ some_ended h.past

-- what is held of a channel is what its window counts as received and not released; it is within
-- what the sender was told, and that is within the window (MS-RPCH 3.2)
pub record IsWithin (c : Incoming) (size : ℕ) : Type 0 where
  pub held : c.window.released + total c.pdus ≡ c.window.received
  pub told : c.window.released + total c.pdus ≤ c.window.told
  pub advertised : c.window.told ≤ c.window.released + size
