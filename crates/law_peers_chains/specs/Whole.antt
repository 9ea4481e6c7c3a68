-- messages that are whole in bytes (C706 12.6.3.1; RFC 9112 section 2.1; profile)
use Rattle.std.specs.Prelude.{◌≡◌, ◌⊎◌, ◌<◌, ◌++◌, ℕ, List, [], ◌∷◌, length, map, Some}
use mathlib.Core.List.{IsPrefix}
use Rattle.rh_pdu.specs.Cut.{frames_of}
use Rattle.rh_sig.specs.declared.name.Pipe.{Pipe}
use Rattle.rh_shell.specs.Rules.{Message, Text, Pdu, Packet, spell}
use Rattle.law_moves.specs.ReadBack.Reading.{all_read_of, messages_read}
use Rattle.law_peers_chains.specs.Shown.{framed}

-- the text with which messages begin, if any
abbrev pub lead : List Message → List ℕ
lead [] = []
lead (Text bytes ∷ messages) = bytes
lead (Pdu pdu ∷ messages) = []
lead (Packet named ∷ messages) = []

-- the frames that are whole in bytes behind a text; none before it is whole
abbrev pub AreWhole : List ℕ → List ℕ → List (List ℕ) → Type 0
AreWhole text bytes frames =
    ((frames ≡ []) × (length bytes < length text))
    ⊎ ((behind : List ℕ) × (bytes ≡ text ++ behind) × (frames ≡ frames_of behind))

-- these frames are the first messages that were put, and what is read of the bytes is theirs
pub record AreRead (pipe : Pipe) (put : List Message) (bytes : List ℕ)
    (frames : List (List ℕ)) : Type 0 where
  pub messages : List Message
  pub of_put : IsPrefix messages (framed put)
  pub are : frames ≡ map spell messages
  pub read : messages_read (Some pipe) bytes ≡ all_read_of messages
