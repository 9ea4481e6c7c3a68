-- what is on its way in a direct recording (profile)
use Rattle.std.specs.Prelude.{◌≡◌, ◌++◌, ℕ, List, []}
use Rattle.rh_text.specs.declared.ends.Side.TheVariants.{Client, Server}
use Rattle.rh_pdu.specs.Cut.{frames_of, rest_of}
use Rattle.rh_record.specs.declared.line.Line.{Line}
use Rattle.rh_record.specs.Events.Events.{Event, events, given, offered, taken}
use Rattle.rh_world.specs.declared.any_world.AnyWorld.{AnyWorld}
use Rattle.rh_world.specs.declared.any_world.AnyWorld.TheVariants.{Before, Direct, Settings, Roles}
use Rattle.rh_world.specs.Any.{after, answers}
use Rattle.rh_world.specs.Direct as direct
use Rattle.rh_world.specs.Direct.{Way}

-- the bytes that were given and made no whole frame at the end that takes: those fed, those in
-- flight, and those of the PDU begun and of the queue
abbrev pub bytes_on_way : Way → List ℕ
bytes_on_way way = way.fed ++ (way.flight ++ way.undrawn)

-- what an end gave is exactly what the other took, what is held there, and the frames of the bytes
-- between them, which are whole frames
pub record IsKept (way : Way) (gave took : List (List ℕ)) : Type 0 where
  pub exact : gave ≡ took ++ (way.untaken ++ frames_of (bytes_on_way way))
  pub whole : rest_of (bytes_on_way way) ≡ []

-- so it is in both directions with what these events tell, where these PDUs were offered
pub record BothKept (w : direct.World) (pdus : List (List ℕ)) (told : List Event) : Type 0 where
  pub up : IsKept w.up (given Client pdus told) (taken Server told)
  pub down : IsKept w.down (given Server pdus told) (taken Client told)

-- only a direct world has ways of this kind
abbrev pub KeptIn : AnyWorld → List (List ℕ) → List Event → Type 0
KeptIn Before pdus told = Unit {0}
KeptIn (Direct w) pdus told = BothKept w pdus told
KeptIn (Settings config) pdus told = Unit {0}
KeptIn (Roles w) pdus told = Unit {0}

-- behind the lines, with what they are answered
abbrev pub KeepsDirectly : List Line → Type 0
KeepsDirectly lines =
    KeptIn (after Before lines) (offered lines) (events (answers Before lines))
