-- a framer that was fed pieces: what it told, and what it holds
use Rattle.std.specs.Prelude.{ℕ, ◌++◌, List, [], ◌∷◌, length, take, drop, Some, None, ◌≡◌, ◌≤◌}
use Rattle.std.specs.declared.option.Option.{Option}
use Rattle.std.specs.List.{concat}
use Rattle.rh_pdu.specs.declared.fault.HeadFault.{HeadFault}
use Rattle.rh_pdu.specs.Header.{header_length, head_fault}
use Rattle.rh_pdu.specs.Frames.{IsBad}
use Rattle.rh_pdu.specs.Cut.{frames_of, rest_of}
use Rattle.rh_pdu.specs.Feeding.{FramerState, capped, FedNeed, FedFrame, FedFault}

-- a piece fed to its end, and the frames that this gave: in the end more bytes are needed, or a
-- fault is told; before it a frame is lent, and what it left of the piece is fed again
pub data FedWhole : FramerState → List ℕ → List (List ℕ) → FramerState → Type 0 where
  asks : {s t : FramerState} {piece : List ℕ} → FedNeed s t (s.rest ++ piece)
      → FedWhole s piece [] t
  refuses : {s t : FramerState} {piece : List ℕ} (place : ℕ) (fault : HeadFault)
      → FedFault s t (s.rest ++ piece) place fault → FedWhole s piece [] t
  lends : {s u t : FramerState} {piece : List ℕ} {frames : List (List ℕ)} (used len : ℕ)
      → FedFrame s u piece used len → FedWhole u (drop used piece) frames t
      → FedWhole s piece (u.frame ∷ frames) t

-- pieces, one after the other
pub data FedAll : FramerState → List (List ℕ) → List (List ℕ) → FramerState → Type 0 where
  no_piece : {s : FramerState} → FedAll s [] [] s
  next_piece : {s u t : FramerState} {piece : List ℕ} {pieces frames later : List (List ℕ)}
      → FedWhole s piece frames u → FedAll u pieces later t
      → FedAll s (piece ∷ pieces) (frames ++ later) t

-- what is held of the bytes behind the frames: all of them; or the header alone where it breaks a
-- rule
abbrev pub IsHeld : Option HeadFault → List ℕ → List ℕ → Type 0
IsHeld None held rest = (held ≡ rest) × ¬ IsBad rest
IsHeld (Some fault) held rest =
    (header_length ≤ length rest) × (head_fault rest ≡ Some fault)
    × (held ≡ take header_length rest)

-- the frames are those of the bytes, the place is behind them, and what is there is held, or at
-- fault
pub record IsTold (bytes : List ℕ) (frames : List (List ℕ)) (framer : FramerState) : Type 0 where
  pub given : frames ≡ frames_of bytes
  pub held : IsHeld framer.fault framer.rest (rest_of bytes)
  pub place : framer.place ≡ capped (length (concat frames))
