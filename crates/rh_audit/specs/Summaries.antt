-- what a stream says of its leg
use Rattle.std.specs.Prelude.{◌≡◌, ℕ, ◌||◌, List, [], ◌∷◌, Bool, false, if◌then◌else◌, None}
use Rattle.std.specs.declared.option.Option.{Option}
use Rattle.rh_sig.specs.declared.name.Pipe.{Pipe}
use Rattle.rh_audit.specs.declared.packet.Met.{Met}
use Rattle.rh_audit.specs.declared.seen.Seen.{Seen}
use Rattle.rh_audit.specs.declared.summary.StreamRead.{StreamRead}
use Rattle.rh_audit.specs.declared.summary.Summary.{Summary}
use Rattle.rh_audit.specs.Chains.{stream_in}
use Rattle.rh_audit.specs.Packets.{first_met, is_mark, renewed_by}
use Rattle.rh_audit.specs.Places.{ArePlaces}
use Rattle.rh_audit.specs.Streams.{Stream, first_among, is_marked, later, mets, renewed}

abbrev pub summary : Pipe → Stream → Summary
summary pipe s = record {
  first = first_among (mets pipe s);
  anew = renewed None (mets pipe s);
  marked = is_marked (mets pipe s);
  broken = s.broken;
}

-- this is what the stream of a pipe in lines says, and where its RPC PDUs stand
pub record IsStreamRead (pipe : Pipe) (lines : List Seen) (read : StreamRead) : Type 0 where
  pub says : read.says ≡ summary pipe (stream_in pipe lines)
  pub places : ArePlaces pipe lines read.places.items

-- ---- the same, frame by frame

abbrev pub none_found : Summary
none_found = record { first = None; anew = None; marked = false; broken = None }

abbrev pub with_met : Summary → Bool → Met → Summary
with_met found begins m = record {
  first = if begins then first_met m else found.first;
  anew = later found.anew (renewed_by m);
  marked = found.marked || is_mark m;
  broken = found.broken;
}

abbrev pub summed : Summary → Bool → List Met → Option ℕ → Summary
summed found begins [] broken = record found { broken = broken }
summed found begins (m ∷ ms) broken = summed (with_met found begins m) false ms broken
