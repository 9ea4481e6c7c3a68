-- legs whose lines stand elsewhere
use Rattle.std.specs.Prelude.{ℕ, ◌==◌, List, [], map, Bool, if◌then◌else◌}
use Rattle.rh_line.specs.declared.leg.LegKind.{LegKind}
use Rattle.rh_line.specs.declared.leg.LegKind.TheVariants.{ClientOut, OutServer, ClientIn, InServer}
use Rattle.rh_audit.specs.declared.link.Link.{Link}
use Rattle.rh_audit.specs.declared.fault.AuditFault.{AuditFault}
use Rattle.rh_audit.specs.declared.seen.Seen.{Seen}
use Rattle.rh_audit.specs.Audits.{broken_by}
use Rattle.rh_audit.specs.Captures.{same_pipe}
use Rattle.rh_audit.specs.Chains.{Leg, pdus_in, stream_in}
use Rattle.rh_audit.specs.Pieces.{all_seen}
use Rattle.rh_audit.specs.Pipes.{first_pipe, pdu_pipe}

abbrev pub leg_of : Link → Leg
leg_of link = record {
  tag = link.tag;
  predecessor = link.predecessor;
  newest = link.newest;
  marked = link.marked;
  pdus = pdus_in (pdu_pipe link.kind) (all_seen link.lines.now);
}

abbrev pub legs_of : List Link → List Leg
legs_of links = map leg_of links

abbrev pub kind_number : LegKind → ℕ
kind_number ClientOut = 0
kind_number OutServer = 1
kind_number ClientIn = 2
kind_number InServer = 3

abbrev pub same_kind : LegKind → LegKind → Bool
same_kind a b = kind_number a == kind_number b

-- the legs of one kind, as those of any
abbrev pub legs_if : LegKind → LegKind → List Leg → List Leg
legs_if any kind legs = if same_kind any kind then legs else []

-- what is told of the stream of a leg's RPC PDUs, where it is not that of its first packet
abbrev pub told_behind : ℕ → LegKind → List Seen → List AuditFault
told_behind tag kind lines =
    if same_pipe (first_pipe kind) (pdu_pipe kind)
    then []
    else broken_by tag (pdu_pipe kind) (stream_in (pdu_pipe kind) lines).broken
