-- a direction by its parts, and what it keeps true of them
use Rattle.std.specs.Prelude.{◌≡◌, ℕ, List, [], ◌++◌, length, None, ◌+◌}
use Rattle.std.specs.List.{concat}
use Rattle.rh_pdu.specs.Cut.{frames_of, rest_of}
use Rattle.rh_pdu.specs.Feeding.{FramerState}
use Rattle.rh_world.specs.Direct.{Way}

-- the direction with these parts
abbrev pub way_with : (queue : List (List ℕ)) (begun flight : List ℕ) (framer : FramerState)
    (untaken : List (List ℕ)) (given taken : ℕ) → Way
way_with queue begun flight framer untaken given taken = record {
  queue = queue;
  undrawn = begun ++ concat queue;
  flight = flight;
  fed = framer.rest;
  untaken = untaken;
  given = given;
  taken = taken;
}

-- the bytes on the way are whole frames, none of them at fault, and as many PDUs were given as
-- taken and on the way
pub record IsCarrying (undrawn flight : List ℕ) (framer : FramerState) (untaken : List (List ℕ))
    (given taken : ℕ) : Type 0 where
  pub going : framer.fault ≡ None
  pub whole : rest_of (framer.rest ++ (flight ++ undrawn)) ≡ []
  pub counted : given
      ≡ taken + (length untaken + length (frames_of (framer.rest ++ (flight ++ undrawn))))
