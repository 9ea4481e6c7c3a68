-- the legs that were read, by their kinds and in the order of their tags
use Rattle.std.specs.Prelude.{◌≡◌, ℕ, ◌++◌, List, [], ◌∷◌, map, not, if◌then◌else◌, Some, None}
use Rattle.std.specs.declared.option.Option.{Option}
use Rattle.std.specs.List.{flat_map}
use Rattle.rh_line.specs.declared.leg.LegKind.{LegKind}
use Rattle.rh_line.specs.declared.leg.LegKind.TheVariants.{ClientOut, OutServer, ClientIn, InServer}
use Rattle.rh_audit.specs.declared.auditing.Chains.{Chains}
use Rattle.rh_audit.specs.declared.fault.AuditFault.{AuditFault}
use Rattle.rh_audit.specs.declared.fault.AuditFault.TheVariants.{Unchained}
use Rattle.rh_audit.specs.declared.link.Link.{Link}
use Rattle.rh_audit.specs.declared.legs.Begun.{Begun}
use Rattle.rh_audit.specs.declared.legs.Legs.{Legs}
use Rattle.rh_audit.specs.declared.prefixed.Prefixed.{Prefixed}
use Rattle.rh_audit.specs.declared.read_leg.ReadLeg.{ReadLeg}
use Rattle.rh_audit.specs.declared.seen.Seen.{Seen}
use Rattle.rh_audit.specs.Audits.{AreTags, broken_in, has, kinds, prefixed}
use Rattle.rh_audit.specs.Captures.{of_tag}
use Rattle.rh_audit.specs.Chains.{Leg, chain, joined, leg_in, legs, pdus_in}
use Rattle.rh_audit.specs.Links.{legs_of, same_kind}
use Rattle.rh_audit.specs.Pieces.{all_seen}
use Rattle.rh_audit.specs.Pipes.{pdu_pipe}

-- a leg that was read
abbrev pub leg_read : ReadLeg → Leg
leg_read leg = record {
  tag = leg.tag;
  predecessor = leg.predecessor;
  newest = leg.newest;
  marked = leg.marked;
  pdus = pdus_in (pdu_pipe leg.kind) (all_seen leg.lines.now);
}

abbrev pub legs_read : List ReadLeg → List Leg
legs_read legs = map leg_read legs

abbrev pub read_in : LegKind → Legs → List ReadLeg
read_in ClientIn read = read.client_in.items
read_in InServer read = read.in_server.items
read_in ClientOut read = read.client_out.items
read_in OutServer read = read.out_server.items

-- the legs of one kind, where it is that
abbrev pub read_if : LegKind → LegKind → List ReadLeg → List ReadLeg
read_if any kind legs = if same_kind any kind then legs else []

-- the kind of a leg whose first packet was seen
abbrev pub begun_by : ℕ → LegKind → List Leg → List Begun
begun_by tag kind [] = []
begun_by tag kind (leg ∷ legs) = record { tag = tag; kind = kind } ∷ []

abbrev pub begun_if : ℕ → LegKind → Option ReadLeg → List Begun
begun_if tag kind None = []
begun_if tag kind (Some leg) = record { tag = tag; kind = kind } ∷ []

abbrev pub begun_in : List Seen → ℕ → List Begun
begun_in seen tag = flat_map (λ kind. begun_by tag kind (leg_in kind tag (of_tag tag seen))) kinds

pub record AreLegs (seen : List Seen) (tags : List ℕ) (read : Legs) : Type 0 where
  pub each : (kind : LegKind) → legs_read (read_in kind read) ≡ legs kind seen tags
  pub begun : read.begun.items ≡ flat_map (begun_in seen) tags

-- the lines were read, and it was told where their streams are broken
pub record IsReading (seen : List Seen) (read : Legs) (before after : List AuditFault) : Type 0 where
  pub tags : List ℕ
  pub are_tags : AreTags seen tags
  pub are_legs : AreLegs seen tags read
  pub told : after ≡ before ++ flat_map (λ tag. broken_in tag (of_tag tag seen)) tags

-- ---- chains

abbrev pub chains_of : Chains → LegKind → List Link
chains_of chains ClientIn = chains.client_in
chains_of chains InServer = chains.in_server
chains_of chains ClientOut = chains.client_out
chains_of chains OutServer = chains.out_server

-- a leg whose first packet was seen, where it stands in no chain
abbrev pub left_of : Chains → Begun → List AuditFault
left_of chains leg =
    if not (has leg.tag (legs_of (chains_of chains leg.kind)))
    then Unchained leg.tag ∷ []
    else []

-- the legs that were read were chained, and this was told of them, behind what was told before
pub record IsTold (read : Legs) (before after : List AuditFault) (up down : Prefixed) : Type 0 where
  pub chains : Chains
  pub chained : (kind : LegKind)
      → legs_of (chains_of chains kind) ≡ chain (legs_read (read_in kind read))
  pub told : after ≡ before ++ flat_map (left_of chains) read.begun.items
  pub up_told : up ≡ prefixed (joined (legs_of (chains_of chains InServer)))
      (joined (legs_of (chains_of chains ClientIn)))
  pub down_told : down ≡ prefixed (joined (legs_of (chains_of chains ClientOut)))
      (joined (legs_of (chains_of chains OutServer)))
