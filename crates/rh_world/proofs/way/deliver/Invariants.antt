-- the frames so far and those of what is left are those of all
use Rattle.std.proofs.Common.{◌≡◌, ◌≤◌, ◌/◌, ◌++◌, length, None}
use Rattle.rh_pdu.specs.Cut.{frames_of, rest_of}
use Rattle.rh_world.proofs.way.deliver.Given as goal

abbrev pub decreases-frames : goal.decreases-frames
decreases-frames l = length l.left

abbrev pub invariant-frames : goal.invariant-frames
invariant-frames l = record {
  going : l.framer.fault ≡ None;
  frames : l.untaken.pdus ++ frames_of (l.framer.rest ++ l.left)
      ≡ l.fn.untaken.pdus ++ frames_of (l.fn.framer.rest ++ l.fn.piece);
  rest : rest_of (l.framer.rest ++ l.left) ≡ rest_of (l.fn.framer.rest ++ l.fn.piece);
  room : length (l.framer.rest ++ l.left) ≤ l.untaken.room;
  places : length (l.framer.rest ++ l.left) / 16 ≤ l.untaken.places;
}
