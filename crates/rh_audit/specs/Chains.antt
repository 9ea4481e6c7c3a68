-- the legs of a kind, one behind the other as each replaces the one before it (profile)
use Rattle.std.specs.Prelude.{ℕ, zero, suc, ◌++◌, List, [], ◌∷◌, length, Bool, true, false, if◌then◌else◌, bytes_eq, Some, None}
use Rattle.std.specs.List.{flat_map}
use Rattle.std.specs.declared.option.Option.{Option}
use Rattle.rh_rts.specs.declared.command.Cookie.{Cookie}
use Rattle.rh_sig.specs.declared.name.Pipe.{Pipe}
use Rattle.rh_line.specs.declared.leg.LegKind.{LegKind}
use Rattle.rh_audit.specs.declared.packet.First.{First}
use Rattle.rh_audit.specs.declared.packet.Met.{Met}
use Rattle.rh_audit.specs.declared.seen.Seen.{Seen}
use Rattle.rh_audit.specs.Captures.{carried, of_tag}
use Rattle.rh_audit.specs.Pipes.{first_pipe, pdu_pipe}
use Rattle.rh_audit.specs.Streams.{Stream, first_among, is_marked, mets, pdus, renewed, stream}

-- ---- legs

-- what a tag says: the cookie of its predecessor, its own newest one, whether its handover mark was
-- seen, and its RPC PDUs
pub record Leg : Type 0 where
  pub tag : ℕ
  pub predecessor : Option Cookie
  pub newest : Cookie
  pub marked : Bool
  pub pdus : List (List ℕ)

-- the stream of a pipe in the lines of a tag, and what its frames are
abbrev pub stream_in : Pipe → List Seen → Stream
stream_in pipe lines = stream pipe (carried pipe lines)

abbrev pub mets_in : Pipe → List Seen → List Met
mets_in pipe lines = mets pipe (stream_in pipe lines)

abbrev pub pdus_in : Pipe → List Seen → List (List ℕ)
pdus_in pipe lines = pdus pipe (stream_in pipe lines).frames

-- the newest cookie: its own, or the last that it got anew
abbrev pub newest_of : Option Cookie → Cookie → Cookie
newest_of None own = own
newest_of (Some cookie) own = cookie

abbrev pub leg_by : ℕ → Option Cookie → Bool → List (List ℕ) → Option First → List Leg
leg_by tag anew marked pdus None = []
leg_by tag anew marked pdus (Some first) = record {
  tag = tag;
  predecessor = first.predecessor;
  newest = newest_of anew first.own;
  marked = marked;
  pdus = pdus;
} ∷ []

-- the leg of a kind that the lines of a tag tell; none where no first packet is there
abbrev pub leg_in : LegKind → ℕ → List Seen → List Leg
leg_in kind tag lines =
    let begun = mets_in (first_pipe kind) lines in
    leg_by tag (renewed None begun) (is_marked (mets_in (pdu_pipe kind) lines))
    (pdus_in (pdu_pipe kind) lines) (first_among begun)

-- those of some tags
abbrev pub legs : LegKind → List Seen → List ℕ → List Leg
legs kind seen tags = flat_map (λ tag. leg_in kind tag (of_tag tag seen)) tags

-- ---- chains

abbrev pub with_other : Leg → Option (Leg × List Leg) → Option (Leg × List Leg)
with_other leg None = None
with_other leg (Some (found, others)) = Some (found, leg ∷ others)

-- the first leg that passes a test, and the others
abbrev pub first_and_others : (Leg → Bool) → List Leg → Option (Leg × List Leg)
first_and_others passes [] = None
first_and_others passes (leg ∷ legs) =
    if passes leg then Some (leg, legs) else with_other leg (first_and_others passes legs)

-- a leg that replaces none
abbrev pub is_connected : Option Cookie → Bool
is_connected None = true
is_connected (Some cookie) = false

abbrev pub connects : Leg → Bool
connects leg = is_connected leg.predecessor

-- a leg that replaces the one with this cookie
abbrev pub is_cookie : Cookie → Option Cookie → Bool
is_cookie cookie None = false
is_cookie cookie (Some other) = bytes_eq other.0 cookie.0

abbrev pub replaces : Cookie → Leg → Bool
replaces cookie leg = is_cookie cookie leg.predecessor

-- the next leg is the first among the others that replaces the one before; at most n legs
abbrev pub next_by : (Leg → List Leg → List Leg) → Option (Leg × List Leg) → List Leg
next_by more None = []
next_by more (Some (leg, others)) = leg ∷ more leg others

abbrev pub follow : ℕ → Cookie → List Leg → List Leg
follow zero newest others = []
follow (suc n) newest others =
    next_by (λ leg left. follow n leg.newest left) (first_and_others (replaces newest) others)

-- it begins with the first leg that replaces none
unfoldable pub chain : List Leg → List Leg
chain legs =
    next_by (λ leg left. follow (length left) leg.newest left) (first_and_others connects legs)

-- ---- what a chain carried

-- the RPC PDUs of the legs in order, up to and with the first leg whose mark was not seen
unfoldable pub joined : List Leg → List (List ℕ)
joined [] = []
joined (leg ∷ legs) = leg.pdus ++ (if leg.marked then joined legs else [])
