-- the streams of a node behind each front of its events: the moves of each are a front of those of
-- the next (profile)
use Rattle.std.specs.Prelude.{◌≡◌, ◌++◌, List, [], ◌∷◌}
use Rattle.std.specs.declared.option.Option.{Option}
use mathlib.Core.List.{IsPrefix}
use Rattle.rh_sig.specs.declared.name.Pipe.{Pipe}
use Rattle.rh_line.specs.declared.leg.Leg.{Leg}
use Rattle.rh_shell.specs.declared.rooms.Rooms.{Rooms}
use Rattle.law_moves.specs.Moving.{EndEvent, Event}
use Rattle.rh_shell.specs.Rules.{Acts, Rules}
use Rattle.law_node_streams.specs.Streams.{EndStream, Stream}

-- behind each event that comes later the moves go on
abbrev pub Grows : {S : Type 0} (rules : Rules S) (first : S) (rooms : Rooms)
    (pipe : Leg → Option Pipe) (events later : List Event) → Stream rules first rooms pipe events
    → Type 0
Grows rules first rooms pipe events [] stream = Unit {0}
Grows rules first rooms pipe events (event ∷ later) stream =
    (next : Stream rules first rooms pipe (events ++ event ∷ []))
    × IsPrefix stream.leads.moves next.leads.moves
    × Grows rules first rooms pipe (events ++ event ∷ []) later next

-- from the start, before any move
pub record Growing {S : Type 0} (rules : Rules S) (first : S) (rooms : Rooms)
    (pipe : Leg → Option Pipe) (events : List Event) : Type 0 where
  pub start : Stream rules first rooms pipe []
  pub none : start.leads.moves ≡ []
  pub grows : Grows rules first rooms pipe [] events start

-- the same at an end
abbrev pub EndGrows : {S : Type 0} (rules : Rules S) (acts : Acts S) (first : S) (rooms : Rooms)
    (pipe : Leg → Option Pipe) (events later : List EndEvent)
    → EndStream rules acts first rooms pipe events → Type 0
EndGrows rules acts first rooms pipe events [] stream = Unit {0}
EndGrows rules acts first rooms pipe events (event ∷ later) stream =
    (next : EndStream rules acts first rooms pipe (events ++ event ∷ []))
    × IsPrefix stream.leads.moves next.leads.moves
    × EndGrows rules acts first rooms pipe (events ++ event ∷ []) later next

pub record EndGrowing {S : Type 0} (rules : Rules S) (acts : Acts S) (first : S) (rooms : Rooms)
    (pipe : Leg → Option Pipe) (events : List EndEvent) : Type 0 where
  pub start : EndStream rules acts first rooms pipe []
  pub none : start.leads.moves ≡ []
  pub grows : EndGrows rules acts first rooms pipe [] events start
