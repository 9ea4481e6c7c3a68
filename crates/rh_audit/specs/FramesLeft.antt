-- the bytes of a stream that are left, and the frame that was taken off their front
use Rattle.std.specs.Prelude.{◌≡◌, ℕ, ◌≤◌, ◌++◌, List, [], length}
use Rattle.rh_pdu.specs.Frames.{IsBad, IsFrame, IsUnfinished}
use Rattle.rh_audit.specs.declared.frames.Cut.{Cut}
use Rattle.rh_audit.specs.declared.frames.Cut.TheVariants.{Frame, End, Bad}

pub record FramesLeft : Type 0 where
  pub bytes : List ℕ
  pub frame : List ℕ

-- before the first frame was taken
abbrev pub left_at : List ℕ → FramesLeft
left_at bytes = record { bytes = bytes; frame = [] }

-- a frame was at the front; or the bytes are no whole frame; or they are none's front
abbrev pub IsCut : Cut → FramesLeft → FramesLeft → Type 0
IsCut Frame old new = IsFrame new.frame × (old.bytes ≡ new.frame ++ new.bytes)
IsCut End old new = IsUnfinished old.bytes × (new.bytes ≡ old.bytes)
IsCut Bad old new = IsBad old.bytes × (length new.bytes ≤ length old.bytes)
