-- PDUs end to end
use Rattle.std.specs.Prelude.{ℕ, ◌≡◌, List}
use Rattle.std.specs.List.{concat, AllByRecursion}
use Rattle.rh_pdu.specs.Frames.{IsPdu}
use Rattle.rh_pdu.specs.Cut.{frames_of}

-- PDUs, and how many bytes there is room for
pub record Ring : Type 0 where
  pub pdus : List (List ℕ)
  pub room : ℕ

abbrev pub ring : List (List ℕ) → ℕ → Ring
ring pdus room = record { pdus = pdus; room = room }

-- the bytes are their frames end to end, and each frame is a PDU
pub record IsEndToEnd (bytes : List ℕ) : Type 0 where
  pub whole : concat (frames_of bytes) ≡ bytes
  pub each : AllByRecursion IsPdu (frames_of bytes)
