-- an audit of lines that were sorted is that of the lines as they stood
use Rattle.std.proofs.Common.{◌≡◌, ℕ, ◌<◌, ◌^◌, List, [], ◌∷◌, ◌++◌, length, refl, sym, ap, ◌∙◌, subst, arith}
use Rattle.std.specs.Prelude.{◌&&◌, not, if◌then◌else◌}
use Rattle.std.specs.List.{flat_map}
use Rattle.std.proofs.lemmas.List.{append-nil}
use Rattle.std.proofs.lemmas.List.Concat.{flat_map-append}
use mathlib.Core.Path.{fun_ext}
use Rattle.rh_line.specs.declared.leg.LegKind.{LegKind}
use Rattle.rh_line.specs.declared.leg.LegKind.TheVariants.{ClientOut, OutServer, ClientIn, InServer}
use Rattle.rh_audit.specs.declared.auditing.Chains.{Chains}
use Rattle.rh_audit.specs.declared.fault.AuditFault.{AuditFault}
use Rattle.rh_audit.specs.declared.fault.AuditFault.TheVariants.{Unchained}
use Rattle.rh_audit.specs.declared.legs.Legs.{Legs}
use Rattle.rh_audit.specs.declared.prefixed.Prefixed.{Prefixed}
use Rattle.rh_audit.specs.declared.seen.Seen.{Seen}
use Rattle.rh_audit.specs.Audits.{AreTags, IsAudit, prefixed, broken_in, carried_by, faults, has, is_empty, kinds, unchained_by, unchained_in}
use Rattle.rh_audit.specs.Captures.{AreOfLeg, IsCapture, has_tag, of_tag}
use Rattle.rh_audit.specs.Chains.{Leg, chain, joined, leg_in, legs}
use Rattle.rh_audit.specs.Links.{legs_of}
use Rattle.rh_audit.specs.Reads.{IsReading, IsTold, begun_by, begun_in, chains_of, left_of, legs_read, read_in}
use Rattle.rh_audit.proofs.SortLaws.{any_same}
use Rattle.rh_audit.proofs.Weights.{carried_by_few, tag_few}

-- ---- unchained tags

flat_map-flat_map : {X Y Z : Type 0} (g : Y → List Z) (f : X → List Y) (xs : List X)
    → flat_map g (flat_map f xs) ≡ flat_map (λ x. flat_map g (f x)) xs
flat_map-flat_map g f [] = refl
flat_map-flat_map g f (x ∷ xs) =
    flat_map-append g (f x) (flat_map f xs)
    ∙ ap (λ more. flat_map g (f x) ++ more) (flat_map-flat_map g f xs)

-- of one kind
left_by : (chains : Chains) (tag : ℕ) (kind : LegKind) (here all : List Leg)
    → legs_of (chains_of chains kind) ≡ chain all
    → flat_map (left_of chains) (begun_by tag kind here)
    ≡ unchained_by tag (not (is_empty here) && not (has tag (chain all)))
left_by chains tag kind [] all is = refl
left_by chains tag kind (leg ∷ here) all is =
    append-nil (if not (has tag (legs_of (chains_of chains kind))) then Unchained tag ∷ [] else [])
    ∙ ap (λ legs. if not (has tag legs) then Unchained tag ∷ [] else []) is

pub left_is : (chains : Chains) (seen : List Seen) (tags some : List ℕ)
    → ((kind : LegKind) → legs_of (chains_of chains kind) ≡ chain (legs kind seen tags))
    → flat_map (left_of chains) (flat_map (begun_in seen) some)
    ≡ flat_map (unchained_in seen tags) some
left_is chains seen tags some is =
    flat_map-flat_map (left_of chains) (begun_in seen) some
    ∙ ap (λ (f : ℕ → List AuditFault). flat_map f some) (fun_ext (λ tag.
    flat_map-flat_map (left_of chains)
    (λ kind. begun_by tag kind (leg_in kind tag (of_tag tag seen))) kinds
    ∙ ap (λ (f : LegKind → List AuditFault). flat_map f kinds) (fun_ext (λ kind.
    left_by chains tag kind (leg_in kind tag (of_tag tag seen)) (legs kind seen tags)
    (is kind)))))

-- ---- as they stood

abbrev pub SameTags : List Seen → List Seen → Type 0
SameTags a b = (tag : ℕ) → of_tag tag a ≡ of_tag tag b

-- the legs of the lines of each tag
abbrev legs_by : LegKind → (ℕ → List Seen) → List ℕ → List Leg
legs_by kind lines tags = flat_map (λ tag. leg_in kind tag (lines tag)) tags

abbrev of : List Seen → ℕ → List Seen
of seen tag = of_tag tag seen

same_lines : (a b : List Seen) → SameTags a b → of a ≡ of b
same_lines a b h = fun_ext (λ tag. h tag)

pub same_tags : (a b : List Seen) (tags : List ℕ) → SameTags a b → AreTags a tags → AreTags b tags
same_tags a b tags h is = record {
  ascending = is.ascending;
  all = λ tag. is.all tag ∙ any_same (has_tag tag) a b (h tag);
}

pub same_carried : (kind : LegKind) (a b : List Seen) (tags : List ℕ) → SameTags a b
    → carried_by kind a tags ≡ carried_by kind b tags
same_carried kind a b tags h =
    ap (λ (lines : ℕ → List Seen). joined (chain (legs_by kind lines tags))) (same_lines a b h)

abbrev faults_by : (ℕ → List Seen) → List ℕ → List AuditFault
faults_by lines tags =
    flat_map (λ tag. broken_in tag (lines tag)) tags
    ++ flat_map (λ tag. flat_map (λ kind. unchained_by tag
    (not (is_empty (leg_in kind tag (lines tag)))
    && not (has tag (chain (legs_by kind lines tags))))) kinds) tags

pub same_faults : (a b : List Seen) (tags : List ℕ) → SameTags a b → faults a tags ≡ faults b tags
same_faults a b tags h = ap (λ (lines : ℕ → List Seen). faults_by lines tags) (same_lines a b h)

-- the lines of each tag are of one leg
pub of_leg : (seen sorted : List Seen) → IsCapture seen → SameTags sorted seen
    → (tag : ℕ) → AreOfLeg (of_tag tag sorted)
of_leg seen sorted h same tag =
    let found = h.kinds tag in
    subst AreOfLeg (sym (same tag)) (record {
      kind = found.0;
      each = found.1;
      short = omega (arith, tag_few tag seen, h.short);
    })

-- and there are fewer PDUs than a number of 32 bits can count
pub carried_short : (kind : LegKind) (seen sorted : List Seen) (tags : List ℕ) → IsCapture seen
    → SameTags sorted seen → AreTags sorted tags
    → length (carried_by kind sorted tags) < 2 ^ 32
carried_short kind seen sorted tags h same are =
    omega (
      arith,
      carried_by_few kind seen tags are.ascending,
      h.short,
      ap length (same_carried kind sorted seen tags same),
    )

-- ---- what the chains of sorted lines tell

module _ (seen sorted : List Seen) (read : Legs) (broke : List AuditFault)
    (same : SameTags sorted seen) (h : IsReading sorted read [] broke) where
  pub legs_short : IsCapture seen → (kind : LegKind)
      → length (joined (chain (legs_read (read_in kind read)))) < 2 ^ 32
  legs_short capture kind =
      omega (
        arith,
        carried_short kind seen sorted h.tags capture same h.are_tags,
        ap length (ap joined (ap chain (h.are_legs.each kind))),
      )

  joined_is : (chains : Chains)
      → ((kind : LegKind) → legs_of (chains_of chains kind) ≡ chain (legs_read (read_in kind read)))
      → (kind : LegKind)
      → joined (legs_of (chains_of chains kind)) ≡ carried_by kind seen h.tags
  joined_is chains is kind =
      ap joined (is kind ∙ ap chain (h.are_legs.each kind))
      ∙ same_carried kind sorted seen h.tags same

  pub audited : (all : List AuditFault) (up down : Prefixed) → IsTold read broke all up down
      → IsAudit seen all up down
  audited all up down t = record {
    tags = h.tags;
    are_tags = same_tags sorted seen h.tags same h.are_tags;
    faults_are = t.told
        ∙ ap (λ x. x ++ flat_map (left_of t.chains) read.begun.items) h.told
        ∙ ap (λ x. flat_map (λ tag. broken_in tag (of_tag tag sorted)) h.tags ++ x)
        (ap (flat_map (left_of t.chains)) h.are_legs.begun
        ∙ left_is t.chains sorted h.tags h.tags
        (λ kind. t.chained kind ∙ ap chain (h.are_legs.each kind)))
        ∙ same_faults sorted seen h.tags same;
    up_is = t.up_told
        ∙ ap (λ x. prefixed x (joined (legs_of (chains_of t.chains ClientIn))))
        (joined_is t.chains t.chained InServer)
        ∙ ap (prefixed (carried_by InServer seen h.tags))
        (joined_is t.chains t.chained ClientIn);
    down_is = t.down_told
        ∙ ap (λ x. prefixed x (joined (legs_of (chains_of t.chains OutServer))))
        (joined_is t.chains t.chained ClientOut)
        ∙ ap (prefixed (carried_by ClientOut seen h.tags))
        (joined_is t.chains t.chained OutServer);
  }
