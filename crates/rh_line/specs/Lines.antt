-- the receiver's side of a line: its channels in order of number, of which a later one gives
-- nothing before the earlier one is finished and empty (profile)
use Rattle.std.specs.Prelude.{ℕ, ◌≡◌, ◌+◌, ◌++◌, List, [], ◌∷◌, length, Bool, true, false, ◌&&◌, ◌||◌, is_ok, if◌then◌else◌, Ok, Err}
use Rattle.std.specs.declared.option.Option.{Option}
use Rattle.std.specs.declared.result.Result.{Result}
use Rattle.std.specs.List.{AllByRecursion}
use Rattle.rh_pdu.specs.Frames.{IsPdu}
use Rattle.rh_window.specs.Sides.{Receiver, IsReceiver}
use Rattle.rh_window.specs.Receiving as windows
use Rattle.rh_window.specs.declared.fault.WindowExceeded.{WindowExceeded}
use Rattle.rh_window.specs.declared.recv_window.Ack.{Ack}
use Rattle.rh_line.specs.declared.line_fault.LineFault.{LineFault}
use Rattle.rh_line.specs.declared.line_fault.LineFault.TheVariants.{Window, Over}
use Rattle.rh_line.specs.declared.line_take.LineTake.{LineTake}
use Rattle.rh_line.specs.declared.line_take.LineTake.TheVariants as takes
use Rattle.rh_line.specs.declared.which.Which.{Which}
use Rattle.rh_line.specs.declared.which.Which.TheVariants.{Current, Next}
use Rattle.rh_line.specs.Queue.{total}

-- ---- a channel

-- what was admitted and not taken, the first one first; whether END came; and the window
pub record Incoming : Type 0 where
  pub pdus : List (List ℕ)
  pub ended : Bool
  pub window : Receiver

abbrev pub incoming : List (List ℕ) → Bool → Receiver → Incoming
incoming pdus ended window = record { pdus = pdus; ended = ended; window = window }

-- nothing came
abbrev pub fresh : Receiver → Incoming
fresh window = incoming [] false window

-- no PDU is there
abbrev pub is_empty : List (List ℕ) → Bool
is_empty [] = true
is_empty (pdu ∷ pdus) = false

abbrev pub by_window : Result (Unit {0}) WindowExceeded → Result (Unit {0}) LineFault
by_window (Ok admitted) = Ok tt
by_window (Err exceeded) = Err (Window exceeded)

-- nothing is admitted behind END; else the window decides
abbrev pub channel_verdict : Incoming → List ℕ → Result (Unit {0}) LineFault
channel_verdict c pdu =
    if c.ended then Err Over else by_window (windows.admit_verdict c.window (length pdu))

abbrev pub admitted : Incoming → List ℕ → Incoming
admitted c pdu =
    if is_ok (channel_verdict c pdu)
    then record c {
      pdus = c.pdus ++ pdu ∷ [];
      window = windows.after_admit c.window (length pdu);
    }
    else c

-- the first PDU is taken, and released to the window
abbrev pub released : List (List ℕ) → Incoming → Incoming
released [] c = c
released (pdu ∷ pdus) c =
    record c { pdus = pdus; window = windows.after_release c.window (length pdu) }

abbrev pub with_end : Incoming → Incoming
with_end c = record c { ended = true }

abbrev pub with_window : Incoming → Receiver → Incoming
with_window c window = record c { window = window }

-- the PDUs are what its window counts as held, received and not released
pub record IsIncoming (c : Incoming) : Type 0 where
  pub side : IsReceiver c.window
  pub each : AllByRecursion IsPdu c.pdus
  pub counted : c.window.released + total c.pdus ≡ c.window.received

-- ---- a line

pub record Line : Type 0 where
  -- the size of each channel's window, in bytes
  pub size : ℕ
  -- the channel from which is taken
  pub current : Incoming
  -- nothing is to come on it any more
  pub finished : Bool
  -- END came on a channel that was current before
  pub was_ended : Bool
  -- there is a next channel
  pub has_next : Bool
  pub next : Incoming

abbrev pub line_of : ℕ → Incoming → Bool → Bool → Bool → Incoming → Line
line_of size current finished was_ended has_next next = record {
  size = size;
  current = current;
  finished = finished;
  was_ended = was_ended;
  has_next = has_next;
  next = next;
}

-- the place of a next channel, where there is none
abbrev pub unopened : ℕ → Incoming
unopened size = fresh (windows.shut size)

-- a first channel, whose window is told
abbrev pub first_line : ℕ → Line
first_line size =
    line_of size (fresh (windows.opened size)) false false false (unopened size)

-- one of the two channels
abbrev pub channel_of : Line → Which → Incoming
channel_of line Current = line.current
channel_of line Next = line.next

abbrev pub with_channel : Line → Which → Incoming → Line
with_channel line Current c = record line { current = c }
with_channel line Next c = record line { next = c }

-- the channel is there
abbrev pub IsThere : Line → Which → Type 0
IsThere line Current = Unit {0}
IsThere line Next = line.has_next ≡ true

-- the windows are all of one size, and count what is held; there is nothing where no next channel
-- is; and the current channel is finished only while PDUs are left on it and a next one is there
pub record IsLine (line : Line) : Type 0 where
  pub current : IsIncoming line.current
  pub next : IsIncoming line.next
  pub current_size : line.current.window.size ≡ line.size
  pub next_size : line.next.window.size ≡ line.size
  pub unopened : line.has_next ≡ false → line.next ≡ unopened line.size
  pub finished : line.finished ≡ true
      → (line.has_next ≡ true) × (is_empty line.current.pdus ≡ false)

-- ---- what each call does

abbrev pub admit_verdict : Line → Which → List ℕ → Result (Unit {0}) LineFault
admit_verdict line which pdu = channel_verdict (channel_of line which) pdu

abbrev pub after_admit : Line → Which → List ℕ → Line
after_admit line which pdu = with_channel line which (admitted (channel_of line which) pdu)

abbrev pub after_end : Line → Which → Line
after_end line which = with_channel line which (with_end (channel_of line which))

abbrev pub after_open_next : Line → Bool → Line
after_open_next line shut = record line {
  has_next = true;
  next = fresh (if shut then windows.shut line.size else windows.opened line.size);
}

-- the next channel takes the place of the current one, and there is no next one
abbrev pub moved_on : Line → Line
moved_on line = record line {
  current = line.next;
  finished = false;
  was_ended = line.was_ended || line.current.ended;
  has_next = false;
  next = unopened line.size;
}

-- that is so at once where the current one is finished and empty
abbrev pub settled : Line → Line
settled line = if line.finished && is_empty line.current.pdus then moved_on line else line

abbrev pub after_finish : Line → Line
after_finish line = settled (record line { finished = true })

abbrev pub after_tell : Line → Which → Line
after_tell line which =
    let c = channel_of line which in
    with_channel line which (with_window c (windows.after_tell c.window))

abbrev pub due : Line → Which → Option Ack
due line which = windows.due (channel_of line which).window

abbrev pub after_told : Line → Which → Ack → Line
after_told line which ack =
    let c = channel_of line which in
    with_channel line which (with_window c (windows.after_told c.window ack))

-- END came on a channel that is current, or was
abbrev pub is_ended : Line → Bool
is_ended line = line.was_ended || line.current.ended

-- the first PDU is told by its length; where none is there, END tells that none will be
abbrev pub take_of : List (List ℕ) → Bool → LineTake
take_of [] true = takes.Ended
take_of [] false = takes.Empty
take_of (pdu ∷ pdus) ended = takes.Pdu (length pdu)

abbrev pub take_answer : Line → LineTake
take_answer line = take_of line.current.pdus (is_ended line)

-- where none is there, nothing changes
abbrev pub taken : List (List ℕ) → Line → Line
taken [] line = line
taken (pdu ∷ pdus) line =
    settled (record line { current = released (pdu ∷ pdus) line.current })

abbrev pub after_take : Line → Line
after_take line = taken line.current.pdus line
