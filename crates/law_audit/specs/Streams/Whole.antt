-- streams in which nothing is wrong
use Rattle.std.specs.Prelude.{◌≡◌, ℕ, Bool, List, [], ◌∷◌, true, false, None}
use mathlib.Core.List.{IsPrefix}
use Rattle.rh_sig.specs.declared.name.Pipe.{Pipe}
use Rattle.rh_audit.specs.Packets.{met}
use Rattle.rh_audit.specs.Streams.{stands, stream, stream_is}

-- each frame may stand where it does, the first of them at the beginning of the stream or not
abbrev pub AllStand : Pipe → Bool → List (List ℕ) → Type 0
AllStand pipe begins [] = Unit {0}
AllStand pipe begins (frame ∷ frames) =
    (stands pipe begins (met pipe frame) ≡ true) × AllStand pipe false frames

-- the bytes are a stream that is not broken, of the first of these frames
pub record IsFrontOf (pipe : Pipe) (frames : List (List ℕ)) (bytes : List ℕ) : Type 0 where
  pub front : List (List ℕ)
  pub of_frames : IsPrefix front frames
  pub is : stream pipe bytes ≡ stream_is front None
