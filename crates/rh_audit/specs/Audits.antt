-- what an audit of a capture tells (profile)
use Rattle.std.specs.Prelude.{◌≡◌, ℕ, suc, ◌<◌, ◌==◌, ◌&&◌, not, ◌++◌, List, [], ◌∷◌, length, Bool, true, false, if◌then◌else◌, bytes_eq, Some, None}
use Rattle.std.specs.List.{AllByRecursion, flat_map, list_any}
use Rattle.std.specs.declared.option.Option.{Option}
use Rattle.rh_sig.specs.declared.name.Pipe.{Pipe}
use Rattle.rh_line.specs.declared.leg.LegKind.{LegKind}
use Rattle.rh_line.specs.declared.leg.LegKind.TheVariants.{ClientOut, OutServer, ClientIn, InServer}
use Rattle.rh_audit.specs.declared.fault.AuditFault.{AuditFault}
use Rattle.rh_audit.specs.declared.fault.AuditFault.TheVariants.{Broken, Unchained}
use Rattle.rh_audit.specs.declared.prefixed.Prefixed.{Prefixed}
use Rattle.rh_audit.specs.declared.prefixed.Prefixed.TheVariants.{Yes, No}
use Rattle.rh_audit.specs.declared.seen.Seen.{Seen}
use Rattle.rh_audit.specs.Captures.{has_tag, of_tag}
use Rattle.rh_audit.specs.Chains.{Leg, chain, joined, leg_in, legs, stream_in}
use Rattle.rh_audit.specs.Pipes.{pipes}

-- ---- tags

-- each is below those behind it
abbrev pub IsAscending : List ℕ → Type 0
IsAscending [] = Unit {0}
IsAscending (tag ∷ tags) = AllByRecursion (λ later. tag < later) tags × IsAscending tags

-- the tags of the lines, each once, in order
pub record AreTags (seen : List Seen) (tags : List ℕ) : Type 0 where
  pub ascending : IsAscending tags
  pub all : (tag : ℕ) → list_any (λ other. other == tag) tags ≡ list_any (has_tag tag) seen

-- ---- faults

abbrev pub broken_by : ℕ → Pipe → Option ℕ → List AuditFault
broken_by tag pipe None = []
broken_by tag pipe (Some place) = Broken tag pipe place ∷ []

-- the places at which the streams of a tag are broken, pipe by pipe
abbrev pub broken_in : ℕ → List Seen → List AuditFault
broken_in tag lines = flat_map (λ pipe. broken_by tag pipe (stream_in pipe lines).broken) pipes

-- all kinds of legs
abbrev pub kinds : List LegKind
kinds = ClientIn ∷ InServer ∷ ClientOut ∷ OutServer ∷ []

abbrev pub is_empty : List Leg → Bool
is_empty [] = true
is_empty (leg ∷ legs) = false

abbrev pub has : ℕ → List Leg → Bool
has tag legs = list_any (λ leg. leg.tag == tag) legs

-- the tag has a first packet of the kind, and does not stand in its chain
abbrev pub is_left : List Seen → List ℕ → ℕ → LegKind → Bool
is_left seen tags tag kind =
    not (is_empty (leg_in kind tag (of_tag tag seen)))
    && not (has tag (chain (legs kind seen tags)))

abbrev pub unchained_by : ℕ → Bool → List AuditFault
unchained_by tag left = if left then Unchained tag ∷ [] else []

abbrev pub unchained_in : List Seen → List ℕ → ℕ → List AuditFault
unchained_in seen tags tag = flat_map (λ kind. unchained_by tag (is_left seen tags tag kind)) kinds

-- the streams that are broken, by tag and pipe, and then the tags that are in no chain
abbrev pub faults : List Seen → List ℕ → List AuditFault
faults seen tags =
    flat_map (λ tag. broken_in tag (of_tag tag seen)) tags
    ++ flat_map (unchained_in seen tags) tags

-- ---- fronts

-- how many PDUs are the same from the front
abbrev pub common : List (List ℕ) → List (List ℕ) → ℕ
common [] near = 0
common (pdu ∷ far) [] = 0
common (pdu ∷ far) (other ∷ near) = if bytes_eq pdu other then suc (common far near) else 0

-- what was seen on the far legs is a front of what was seen on the near ones; or else the place of
-- the first PDU that is not
abbrev pub prefixed : List (List ℕ) → List (List ℕ) → Prefixed
prefixed far near =
    if common far near == length far then Yes (length far) (length near) else No (common far near)

-- what was seen on the legs of a kind
abbrev pub carried_by : LegKind → List Seen → List ℕ → List (List ℕ)
carried_by kind seen tags = joined (chain (legs kind seen tags))

-- ---- an audit

pub record IsAudit (seen : List Seen) (told : List AuditFault) (up down : Prefixed) : Type 0 where
  pub tags : List ℕ
  pub are_tags : AreTags seen tags
  pub faults_are : told ≡ faults seen tags
  pub up_is : up ≡ prefixed (carried_by InServer seen tags) (carried_by ClientIn seen tags)
  pub down_is : down ≡ prefixed (carried_by ClientOut seen tags) (carried_by OutServer seen tags)
