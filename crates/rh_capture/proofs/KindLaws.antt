-- the kinds of legs of a capture
use Rattle.std.proofs.Common.{◌≡◌, ℕ, ◌+◌, ◌≤◌, List, [], ◌∷◌, ◌++◌, length, Bool, true, false, Some, None, refl, sym, ap, ◌∙◌, subst, arith}
use Rattle.std.specs.Prelude.{◌==◌, ◌<◌, ◌^◌, IsTrue, cond, if◌then◌else◌}
use Rattle.std.specs.List.{AllByRecursion, filter}
use Rattle.std.specs.declared.option.Option.{Option}
use Rattle.std.proofs.lemmas.Bool.Decides.{nat_tests}
use Rattle.std.proofs.lemmas.List.{append-nil}
use Rattle.rh_line.specs.declared.leg.LegKind.{LegKind}
use Rattle.rh_line.specs.declared.leg.LegKind.TheVariants.{ClientOut, OutServer, ClientIn, InServer}
use Rattle.rh_audit.specs.declared.seen.Seen.{Seen}
use Rattle.rh_audit.specs.Captures.{IsCapture, IsOfKind, has_tag, of_tag, total}
use Rattle.rh_audit.specs.Links.{same_kind}
use Rattle.rh_audit.specs.Pipes.{kind_of, is_seen}
use Rattle.rh_capture.specs.declared.kinds.Kinds.{Kinds}
use Rattle.rh_capture.specs.Kinds.{HasKind, HasKinds, fits_with, kind_at, known_with}
use Rattle.rh_capture.specs.Reading.{MayFollow}
use Rattle.rh_capture.proofs.TagLaws.{same_kind_is}

-- ---- lines of a tag

filter_append : (p : Seen → Bool) (xs ys : List Seen)
    → filter p (xs ++ ys) ≡ filter p xs ++ filter p ys
filter_append p [] ys = refl
filter_append p (x ∷ xs) ys = by (p x) (filter_append p xs ys)
  where
    by : (t : Bool) → filter p (xs ++ ys) ≡ filter p xs ++ filter p ys
        → cond t (x ∷ filter p (xs ++ ys)) (filter p (xs ++ ys))
        ≡ cond t (x ∷ filter p xs) (filter p xs) ++ filter p ys
    by true h = ap (λ (more : List Seen). x ∷ more) h
    by false h = h

-- one line more
of_tag_more : (tag : ℕ) (seen : List Seen) (line : Seen)
    → of_tag tag (seen ++ line ∷ [])
    ≡ of_tag tag seen ++ cond (has_tag tag line) (line ∷ []) []
of_tag_more tag seen line = filter_append (has_tag tag) seen (line ∷ [])

all_more : (kind : LegKind) (lines : List Seen) (line : Seen) → AllByRecursion (IsOfKind kind) lines
    → IsOfKind kind line → AllByRecursion (IsOfKind kind) (lines ++ line ∷ [])
all_more kind [] line all one = (one, tt)
all_more kind (other ∷ lines) line all one = (all.0, all_more kind lines line all.1 one)

pub total_more : (seen : List Seen) (line : Seen)
    → total (seen ++ line ∷ []) ≡ total seen + length line.bytes
total_more [] line = omega arith
total_more (one ∷ seen) line = let rest = total_more seen line in omega (arith, rest)

-- ---- kinds

-- a line fits where what is known of its tag says so
may_be : (known : Option LegKind) (lines : List Seen) (kind : LegKind) → HasKind known lines
    → fits_with known kind ≡ true → AllByRecursion (IsOfKind kind) lines
may_be None lines kind h fits = subst (λ (x : List Seen). AllByRecursion (IsOfKind kind) x) (sym h) tt
may_be (Some known) lines kind (line, more, is, all) fits =
    subst (λ (k : LegKind). AllByRecursion (IsOfKind k) lines) (same_kind_is known kind fits) all

pub may_follow : (kinds : Kinds) (seen : List Seen) (line : Seen) → HasKinds kinds seen
    → fits_with (kind_at kinds line.tag) (kind_of line.pipe) ≡ true → MayFollow seen line
may_follow kinds seen line h fits =
    may_be (kind_at kinds line.tag) (of_tag line.tag seen) (kind_of line.pipe) (h line.tag) fits

same_kind_self : (a : LegKind) → same_kind a a ≡ true
same_kind_self ClientIn = refl
same_kind_self InServer = refl
same_kind_self ClientOut = refl
same_kind_self OutServer = refl

-- and does not where it says not
may_not : (known : Option LegKind) (lines : List Seen) (kind : LegKind) → HasKind known lines
    → fits_with known kind ≡ false → AllByRecursion (IsOfKind kind) lines → ⊥
may_not None lines kind h fits all = absurd (cc)
may_not (Some known) lines kind (line, more, is, has) fits all =
    let here : kind_of line.pipe ≡ known =
    (subst (λ (x : List Seen). AllByRecursion (IsOfKind known) x) is has).0.0 in
    let there : kind_of line.pipe ≡ kind =
    (subst (λ (x : List Seen). AllByRecursion (IsOfKind kind) x) is all).0.0 in
    let same : known ≡ kind = sym here ∙ there in
    let fit : same_kind known kind ≡ true =
    subst (λ (k : LegKind). same_kind known k ≡ true) same (same_kind_self known) in
    absurd (let both : true ≡ false = sym fit ∙ fits in cc)

pub may_not_follow : (kinds : Kinds) (seen : List Seen) (line : Seen) → HasKinds kinds seen
    → fits_with (kind_at kinds line.tag) (kind_of line.pipe) ≡ false → MayFollow seen line → ⊥
may_not_follow kinds seen line h fits all =
    may_not (kind_at kinds line.tag) (of_tag line.tag seen) (kind_of line.pipe) (h line.tag) fits
    all

-- a line more of a tag
known_more : (known : Option LegKind) (lines : List Seen) (line : Seen) → HasKind known lines
    → fits_with known (kind_of line.pipe) ≡ true → IsTrue (is_seen line.pipe)
    → HasKind (known_with known (kind_of line.pipe)) (lines ++ line ∷ [])
known_more None lines line h fits seen =
    let none : lines ++ line ∷ [] ≡ line ∷ [] = ap (λ (x : List Seen). x ++ line ∷ []) h in (
      line,
      [],
      none,
      subst (λ (x : List Seen). AllByRecursion (IsOfKind (kind_of line.pipe)) x) (sym none)
          ((refl, seen), tt),
    )
known_more (Some known) lines line (one, more, is, all) fits seen = (
  one,
  more ++ line ∷ [],
  ap (λ (x : List Seen). x ++ line ∷ []) is,
  all_more known lines line all (sym (same_kind_is known (kind_of line.pipe) fits), seen),
)

pub kinds_more : (kinds next : Kinds) (seen : List Seen) (line : Seen) → HasKinds kinds seen
    → fits_with (kind_at kinds line.tag) (kind_of line.pipe) ≡ true
    → IsTrue (is_seen line.pipe)
    → ((other : ℕ) → kind_at next other
    ≡ (if line.tag == other then known_with (kind_at kinds other) (kind_of line.pipe)
    else kind_at kinds other))
    → HasKinds next (seen ++ line ∷ [])
kinds_more kinds next seen line h fits some noted tag =
    subst (λ (k : Option LegKind). HasKind k (of_tag tag (seen ++ line ∷ []))) (sym (noted tag))
    (subst
    (λ (x : List Seen). HasKind (cond (line.tag == tag)
    (known_with (kind_at kinds tag) (kind_of line.pipe)) (kind_at kinds tag)) x)
    (sym (of_tag_more tag seen line)) (by (line.tag == tag) refl))
  where
    by : (t : Bool) → (line.tag == tag) ≡ t
        → HasKind (cond t (known_with (kind_at kinds tag) (kind_of line.pipe)) (kind_at kinds tag))
        (of_tag tag seen ++ cond t (line ∷ []) [])
    by true e =
        let same : line.tag ≡ tag = grind (arith, nat_tests, e) in
        known_more (kind_at kinds tag) (of_tag tag seen) line (h tag)
        (subst (λ (n : ℕ). fits_with (kind_at kinds n) (kind_of line.pipe) ≡ true) same fits) some
    by false e =
        subst (λ (x : List Seen). HasKind (kind_at kinds tag) x)
        (sym (append-nil (of_tag tag seen))) (h tag)

-- ---- captures

kind_known : (known : Option LegKind) (lines : List Seen) → HasKind known lines
    → (kind : LegKind) × AllByRecursion (IsOfKind kind) lines
kind_known None lines h =
    (ClientIn, subst (λ (x : List Seen). AllByRecursion (IsOfKind ClientIn) x) (sym h) tt)
kind_known (Some known) lines (line, more, is, all) = (known, all)

pub is_capture : (kinds : Kinds) (seen : List Seen) (most : ℕ) → HasKinds kinds seen
    → total seen ≤ most → most < 2 ^ 36 → IsCapture seen
is_capture kinds seen most h fits few = record {
  kinds = λ tag. kind_known (kind_at kinds tag) (of_tag tag seen) (h tag);
  short = omega (arith, fits, few);
}
