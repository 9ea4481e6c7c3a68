-- what is left of a stream
use Rattle.std.specs.Prelude.{◌≡◌, ℕ, ◌+◌, List, [], ◌∷◌, ◌++◌, drop, length, Bool, Some, None}
use Rattle.std.specs.declared.option.Option.{Option}
use Rattle.rh_sig.specs.declared.name.Pipe.{Pipe}
use Rattle.rh_audit.specs.declared.packet.Met.{Met}
use Rattle.rh_audit.specs.declared.place.Place.{Place}
use Rattle.rh_audit.specs.declared.stream.Next.{Next}
use Rattle.rh_audit.specs.declared.stream.Next.TheVariants.{Frame, End, Broken}
use Rattle.rh_audit.specs.Packets.{met}
use Rattle.rh_audit.specs.Streams.{Stream, framed, stream_is}

-- the frames that are to come, and the one that came last; the bytes that are left to be cut, and
-- behind how many others they stand
pub record StreamLeft : Type 0 where
  pub pipe : Pipe
  pub stream : Stream
  pub frame : List ℕ
  pub place : ℕ
  pub bytes : List ℕ

-- of the bytes that are left, unless a fault was told
abbrev pub stream_left : Option ℕ → Pipe → Bool → ℕ → List ℕ → Stream
stream_left None pipe begins place bytes = framed pipe begins place bytes
stream_left (Some broken) pipe begins place bytes = stream_is [] (Some broken)

-- bytes stand there in these
abbrev pub StandsIn : List ℕ → ℕ → List ℕ → Type 0
StandsIn all place bytes = (later : List ℕ) × (drop place all ≡ bytes ++ later)

-- before the first frame came of the stream that these bytes are
pub record IsBegun (on : Pipe) (all : List ℕ) (is : Stream) (left : StreamLeft) : Type 0 where
  pub pipe_is : left.pipe ≡ on
  pub stream_is : left.stream ≡ is
  pub stands : StandsIn all left.place left.bytes

-- the first of the frames came, this it is, and there it stands
pub record IsTaken (m : Met) (at : Place) (old new : StreamLeft) : Type 0 where
  pub frames : old.stream ≡ stream_is (new.frame ∷ new.stream.frames) new.stream.broken
  pub is : m ≡ met old.pipe new.frame
  pub pipe_same : new.pipe ≡ old.pipe
  pub from : at.at ≡ old.place
  pub size : at.len ≡ length new.frame
  pub cut : old.bytes ≡ new.frame ++ new.bytes
  pub onwards : new.place ≡ old.place + length new.frame

-- a frame came; or there is none
abbrev pub IsNext : Next → StreamLeft → StreamLeft → Type 0
IsNext (Frame m at) old new = IsTaken m at old new
IsNext End old new = old.stream ≡ stream_is [] None
IsNext (Broken place) old new = old.stream ≡ stream_is [] (Some place)
