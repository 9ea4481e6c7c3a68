-- a node that closes for a window does so where a row refuses for it
use Rattle.law_order.proofs.Vocabulary.{◌≡◌, inl, inr, ℕ, List, [], ◌∷◌, length, cond, Bool, true, false, Some, None, Ok, Err, refl, subst, slice_index, ◌==◌, ◌&&◌, ◌||◌, Option, Result}
use Rattle.rh_sig.specs.declared.fault.SigFault.TheVariants as sig
use Rattle.rh_line.specs.declared.cause.Cause.TheVariants as cause
use Rattle.rh_shell.specs.Intakes.{Over}
use Rattle.rh_shell.specs.declared.answers.HeadRefused.TheVariants as head
use Rattle.rh_shell.specs.declared.answers.Refused.TheVariants as refused
use Rattle.rh_shell.specs.declared.reading.PacketFault.TheVariants as unread
use Rattle.rh_shell.specs.declared.stage.Stage.TheVariants as stage
use Rattle.law_moves.proofs.Vocabulary.{rts, Named, Refusal, Leg, Cause, Count, HeadRefused, HeadTaken, Refused, Course, Going, Heading, PacketFault, Stop, Turn, goes, stops, stop, head_row, begun_body, behind_head, behind_frame, row_by, close_row, one_more, is_zero, is_upward, is_ping, take_ping, take_packet, take_frame, is_greeting, heading, touched, with_intake, take, hear_byte, hear, heard, is_stopped, Came, Nothing, Head, Greeting, Frame, Fault, on_byte, NearEnd, is_over}
use Rattle.law_moves.proofs.Vocabulary.{packet_of, Rules, Row, Shell, bytes_at, bytes_by, end_at, stop_by, stopped, with_end, ClosedWith}
use Rattle.law_world_honest.specs.Honesty.Causes.{RowRefuses}

module _ {S : Type 0} (rules : Rules S) where
  -- a window is exceeded for a row alone
  abbrev pub IsOfRow : Cause → Type 0
  IsOfRow (cause.WindowExceeded leg reached edge) =
      RowRefuses rules leg (refused.Window (record { reached = reached; edge = edge }))
  IsOfRow why = Unit {0}

  -- ---- frames

  abbrev RowTells : Result Count Cause → Type 0
  RowTells (Ok next) = Unit {0}
  RowTells (Err why) = IsOfRow why

  module _ (at : Heading) (role : S) where
    row_is : (next : Count) (r : Row)
        → ((why : Refused) → r ≡ Err why → RowRefuses rules at.leg why)
        → RowTells (row_by at next r)
    row_is next (Ok taken) refuses = tt
    row_is next (Err refused.Unexpected) refuses = tt
    row_is next (Err (refused.Cookie expected got)) refuses = tt
    row_is next (Err (refused.Window window)) refuses = refuses (refused.Window window) refl
    row_is next (Err (refused.OutOfRange command value)) refuses = tt
    row_is next (Err (refused.Full full)) refuses = tt

    pdu_is : (frame : List ℕ)
        → RowTells (close_row at at.count (rules.pdu role at.leg at.count frame)).1
    pdu_is frame =
        row_is at.count (rules.pdu role at.leg at.count frame).1 (λ why e.
        inr (role, at.count, frame, e))

    ping_is : (t : Bool)
        → RowTells (cond t (Err (cause.Unexpected at.leg at.place)) (Ok at.count))
    ping_is true = tt
    ping_is false = tt

    named_is : (named : Named) (t : Bool)
        → RowTells (cond {A = S × Result Count Cause} t (role, take_ping at)
        (close_row at (one_more at.count) (rules.packet role at.leg at.count named))).1
    named_is named true = ping_is (is_zero at.count && is_upward at.pipe)
    named_is named false =
        row_is (one_more at.count) (rules.packet role at.leg at.count named).1 (λ why e.
        inl (role, at.count, named, e))

    packet_is : (r : Result Named PacketFault) → RowTells (take_packet rules at role r).1
    packet_is (Ok named) = named_is named (is_ping named)
    packet_is (Err (unread.Rts fault)) = tt
    packet_is (Err (unread.Sig sig.Unknown)) = tt
    packet_is (Err (unread.Sig (sig.OutOfRange command value))) = tt

    by_type : (frame : List ℕ) (t : Bool)
        → RowTells (cond {A = S × Result Count Cause} t
        (take_packet rules at role (packet_of frame at.pipe))
        (close_row at at.count (rules.pdu role at.leg at.count frame))).1
    by_type frame true = packet_is (packet_of frame at.pipe)
    by_type frame false = pdu_is frame

    frame_is : (frame : List ℕ) → RowTells (take_frame rules at role frame).1
    unfolding take_frame
    frame_is frame = by_type frame (slice_index frame 2 == rts)

  -- ---- what became whole

  abbrev StopTells : Option Stop → Type 0
  StopTells None = Unit {0}
  StopTells (Some why) = IsOfRow why.cause

  module _ (end : NearEnd) (role : S) where
    head_is : (text : List ℕ) (x : S × Result HeadTaken HeadRefused)
        → StopTells (behind_head end (head_row end.leg (length text) x)).stop
    head_is text (r, Ok taken) = tt
    head_is text (r, Err (head.Request fault)) = tt
    head_is text (r, Err (head.Response fault)) = tt
    head_is text (r, Err (head.Status status)) = tt

    greeting_is : (t : Bool)
        → StopTells (cond t (goes (begun_body end stage.Frames None) role)
        (stops end role (stop (cause.Unexpected end.leg 0)))).stop
    greeting_is true = tt
    greeting_is false = tt

    behind_is : (x : S × Result Count Cause) → RowTells x.1
        → StopTells (behind_frame end x).stop
    behind_is (r, Ok next) is = tt
    behind_is (r, Err why) is = is

    came_is : (c : Came) → StopTells (take rules end role c).stop
    unfolding take
    came_is Nothing = tt
    came_is (Head text) = head_is text (rules.head role end.leg text)
    came_is (Greeting text) = greeting_is (is_greeting text)
    came_is (Frame place frame) =
        behind_is (take_frame rules (heading end place) role frame)
        (frame_is (heading end place) role frame)
    came_is (Fault place fault) = tt
    came_is (Over told) = tt

  -- ---- bytes

  module _ (now : ℕ) where
    byte_is : (t : Turn S) (b : ℕ) → StopTells t.stop → StopTells (hear_byte rules now t b).stop
    unfolding hear_byte
    byte_is t b is = by (is_stopped t.stop || is_over rules t.end t.role)
      where
        by : (d : Bool) → StopTells (cond d t (heard rules now t.end t.role b)).stop
        by true = is
        by false =
            came_is (with_intake (touched t.end now) (on_byte t.end.intake b).0) t.role
            (on_byte t.end.intake b).1

    bytes_are : (t : Turn S) (piece : List ℕ) → StopTells t.stop
        → StopTells (hear rules now t piece).stop
    unfolding hear
    bytes_are t [] is = is
    bytes_are t (b ∷ rest) is = bytes_are (hear_byte rules now t b) rest (byte_is t b is)

  -- ---- a node

  stopped_is : (s : Shell S) (l : Leg) (why : Cause) (o : Option Stop) → s.course ≡ Going
      → StopTells o → ClosedWith why (stopped s l o).course → IsOfRow why
  stopped_is s l why None going is closed = absurd (subst (ClosedWith why) going closed)
  stopped_is s l why (Some first) going is closed = by first.refusal closed
    where
      by : (r : Option Refusal) → ClosedWith why (stop_by s l first.cause r).course → IsOfRow why
      by None same = subst IsOfRow same is
      by (Some refusal) same = subst IsOfRow same is

  pub piece_is : (s : Shell S) (leg : Leg) (piece : List ℕ) (why : Cause) → s.course ≡ Going
      → ClosedWith why (bytes_by rules s leg piece s.course).course → IsOfRow why
  piece_is s leg piece why going closed =
      by (end_at s leg)
      (subst (λ (c : Course). ClosedWith why (bytes_by rules s leg piece c).course) going closed)
    where
      by : (o : Option NearEnd) → ClosedWith why (bytes_at rules s leg piece o).course
          → IsOfRow why
      by None closes = absurd (subst (ClosedWith why) going closes)
      by (Some end) closes =
          let t : Turn S = hear rules s.now (goes end s.role) piece in
          stopped_is (with_end s leg t.end t.role) leg why t.stop going
          (bytes_are s.now (goes end s.role) piece tt) closes
