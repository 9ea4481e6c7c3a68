-- a framer: the unfinished bytes, the frame that it lends, its place in the stream, and the fault
-- that it told
use Rattle.std.specs.Prelude.{ℕ, ◌+◌, ◌-◌, ◌^◌, ◌++◌, List, [], length, take, min}
use Rattle.std.specs.Prelude.{Some, None, ◌≡◌, ◌<◌, ◌≤◌}
use Rattle.std.specs.declared.option.Option.{Option}
use Rattle.rh_pdu.specs.declared.fault.HeadFault.{HeadFault}
use Rattle.rh_pdu.specs.declared.feed.Feed.{Feed}
use Rattle.rh_pdu.specs.declared.feed.Feed.TheVariants.{Need, Frame, Fault}
use Rattle.rh_pdu.specs.Header.{header_length, head_fault}
use Rattle.rh_pdu.specs.Frames.{IsFrame, IsUnfinished}

-- what contracts see of a framer
pub record FramerState : Type 0 where
  pub rest : List ℕ
  pub frame : List ℕ
  pub place : ℕ
  pub fault : Option HeadFault

-- a count of bytes that stands still at its end
abbrev pub capped : ℕ → ℕ
capped n = min n (2 ^ 64 - 1)

-- a framer before the first byte of the stream
abbrev pub new_framer : FramerState
new_framer = record { rest = []; frame = []; place = 0; fault = None }

-- what is held is unfinished, or it is the header whose fault was told
abbrev pub IsSoundBy : List ℕ → Option HeadFault → Type 0
IsSoundBy rest None = IsUnfinished rest
IsSoundBy rest (Some fault) = (length rest ≡ header_length) × (head_fault rest ≡ Some fault)

-- so it is at every call
abbrev pub IsSound : FramerState → Type 0
IsSound s = IsSoundBy s.rest s.fault

-- ---- one piece

-- all bytes are held, and are unfinished
pub record FedNeed (s t : FramerState) (all : List ℕ) : Type 0 where
  pub was : s.fault ≡ None
  pub unfinished : IsUnfinished all
  pub after : t ≡ record { rest = all; frame = []; place = s.place; fault = None }

-- the first frame is lent; it ends within the piece, and not before it
pub record FedFrame (s t : FramerState) (piece : List ℕ) (used len : ℕ) : Type 0 where
  pub was : s.fault ≡ None
  pub frame : IsFrame t.frame
  pub bytes : t.frame ≡ s.rest ++ take used piece
  pub size : len ≡ length t.frame
  pub some : 0 < used
  pub within : used ≤ length piece
  pub after : t ≡ record {
    rest = [];
    frame = t.frame;
    place = capped (s.place + len);
    fault = None;
  }

-- the header at the front is whole and breaks this rule; it alone is held
pub record FedFault (s t : FramerState) (all : List ℕ) (at : ℕ) (fault : HeadFault) : Type 0 where
  pub long : header_length ≤ length all
  pub head : head_fault all ≡ Some fault
  pub place : at ≡ s.place
  pub after : t ≡ record {
    rest = take header_length all;
    frame = [];
    place = s.place;
    fault = Some fault;
  }

-- what each answer to a piece says of the framer before and the framer after
abbrev pub Fed : Feed → FramerState → FramerState → List ℕ → Type 0
Fed Need s t piece = FedNeed s t (s.rest ++ piece)
Fed (Frame used len) s t piece = FedFrame s t piece used len
Fed (Fault place fault) s t piece = FedFault s t (s.rest ++ piece) place fault
