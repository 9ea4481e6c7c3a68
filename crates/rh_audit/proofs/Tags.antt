-- lines in the order of their tags, one tag after the other
use Rattle.std.proofs.Common.{◌≡◌, ◌≢◌, ℕ, ◌<◌, ◌≤◌, List, [], ◌∷◌, ◌++◌, Bool, true, false, refl, sym, ap, ◌∙◌, subst, arith}
use Rattle.std.specs.Prelude.{◌==◌, ◌||◌, cond}
use Rattle.std.specs.List.{AllByRecursion, filter, flat_map, list_any}
use Rattle.std.proofs.lemmas.Bool.Decides.{Decides-eqb, nat_tests}
use Rattle.std.proofs.lemmas.List.{append-nil, append_assoc}
use Rattle.rh_audit.specs.declared.seen.Seen.{Seen}
use Rattle.rh_audit.specs.Audits.{AreTags, IsAscending}
use Rattle.rh_audit.specs.Captures.{has_tag, of_tag}
use Rattle.rh_audit.specs.Tags.{IsRising, HasOther}

-- ---- lines of one tag, and of others

all_map : {X : Type 0} (P Q : X → Type 0) (xs : List X) → ((x : X) → P x → Q x)
    → AllByRecursion P xs → AllByRecursion Q xs
all_map P Q [] f h = tt
all_map P Q (x ∷ xs) f h = (f x h.0, all_map P Q xs f h.1)

all_append : {X : Type 0} (P : X → Type 0) (xs ys : List X) → AllByRecursion P xs
    → AllByRecursion P ys
    → AllByRecursion P (xs ++ ys)
all_append P [] ys h k = k
all_append P (x ∷ xs) ys h k = (h.0, all_append P xs ys h.1 k)

of_same : (tag : ℕ) (lines : List Seen) → AllByRecursion (λ (line : Seen). line.tag ≡ tag) lines
    → of_tag tag lines ≡ lines
of_same tag [] h = refl
of_same tag (line ∷ lines) h =
    ap (λ t. cond t (line ∷ of_tag tag lines) (of_tag tag lines))
    ((Decides-eqb line.tag tag).1 h.0)
    ∙ ap (λ more. line ∷ more) (of_same tag lines h.1)

of_others : (tag : ℕ) (lines : List Seen) → AllByRecursion (λ (line : Seen). line.tag ≢ tag) lines
    → of_tag tag lines ≡ []
of_others tag [] h = refl
of_others tag (line ∷ lines) h =
    let other : (line.tag == tag) ≡ false = (let not_it = h.0 in grind (arith, nat_tests, not_it)) in
    ap (λ t. cond t (line ∷ of_tag tag lines) (of_tag tag lines)) other
    ∙ of_others tag lines h.1

of_append : (tag : ℕ) (xs ys : List Seen) → of_tag tag (xs ++ ys) ≡ of_tag tag xs ++ of_tag tag ys
of_append tag [] ys = refl
of_append tag (x ∷ xs) ys = by (has_tag tag x) (of_append tag xs ys)
  where
    by : (t : Bool) → of_tag tag (xs ++ ys) ≡ of_tag tag xs ++ of_tag tag ys
        → cond t (x ∷ of_tag tag (xs ++ ys)) (of_tag tag (xs ++ ys))
        ≡ cond t (x ∷ of_tag tag xs) (of_tag tag xs) ++ of_tag tag ys
    by true h = ap (λ more. x ∷ more) h
    by false h = h

-- ---- a run

pub rising_behind : (run behind : List Seen) → IsRising (run ++ behind) → IsRising behind
rising_behind [] behind h = h
rising_behind (line ∷ run) behind h = rising_behind run behind h.1

later_behind : (P : Seen → Type 0) (run behind : List Seen) → AllByRecursion P (run ++ behind)
    → AllByRecursion P behind
later_behind P [] behind h = h
later_behind P (line ∷ run) behind h = later_behind P run behind h.1

-- all behind the lines with a tag have greater tags
pub above : (tag : ℕ) (behind : List Seen) → IsRising behind → HasOther tag behind
    → AllByRecursion (λ (line : Seen). tag ≤ line.tag) behind
    → AllByRecursion (λ (line : Seen). tag < line.tag) behind
above tag [] up other least = tt
above tag (line ∷ behind) up other least =
    let more : tag < line.tag = (let not_it = other in omega (arith, least.0, not_it)) in (
      more,
      all_map (λ (later : Seen). line.tag ≤ later.tag) (λ (later : Seen). tag < later.tag) behind
          (λ later h. omega (arith, h, more)) up.0,
    )

-- each line has a greater tag than all of these
abbrev pub AreBelow : List ℕ → List Seen → Type 0
AreBelow tags lines = AllByRecursion (λ (line : Seen). AllByRecursion (λ tag. tag < line.tag) tags) lines

below_more : (tags : List ℕ) (tag : ℕ) (lines : List Seen) → AreBelow tags lines
    → AllByRecursion (λ (line : Seen). tag < line.tag) lines
    → AreBelow (tags ++ tag ∷ []) lines
below_more tags tag [] h k = tt
below_more tags tag (line ∷ lines) h k =
    (all_append (λ t. t < line.tag) tags (tag ∷ []) h.0 (k.0, tt), below_more tags tag lines h.1 k.1)

ascending_more : (tags : List ℕ) (tag : ℕ) → IsAscending tags
    → AllByRecursion (λ t. t < tag) tags
    → IsAscending (tags ++ tag ∷ [])
ascending_more [] tag up h = (tt, tt)
ascending_more (t ∷ tags) tag up h = (
  all_append (λ later. t < later) tags (tag ∷ []) up.0 (h.0, tt),
  ascending_more tags tag up.1 h.1,
)

-- ---- which tags are there

any_append : {X : Type 0} (p : X → Bool) (xs ys : List X)
    → list_any p (xs ++ ys) ≡ (list_any p xs || list_any p ys)
any_append p [] ys = refl
any_append p (x ∷ xs) ys = by (p x) (any_append p xs ys)
  where
    by : (t : Bool) → list_any p (xs ++ ys) ≡ (list_any p xs || list_any p ys)
        → (t || list_any p (xs ++ ys)) ≡ ((t || list_any p xs) || list_any p ys)
    by true h = refl
    by false h = h

any_same : (tag other : ℕ) (line : Seen) (run : List Seen) → line.tag ≡ tag
    → AllByRecursion (λ (line : Seen). line.tag ≡ tag) run
    → list_any (has_tag other) (line ∷ run) ≡ (tag == other)
any_same tag other line [] is h =
    ap (λ t. (t == other) || false) is ∙ or_none (tag == other)
  where
    or_none : (b : Bool) → (b || false) ≡ b
    or_none true = refl
    or_none false = refl
any_same tag other line (next ∷ run) is h =
    ap (λ t. (t == other) || list_any (has_tag other) (next ∷ run)) is
    ∙ ap (λ t. (tag == other) || t) (any_same tag other next run h.0 h.1)
    ∙ or_same (tag == other)
  where
    or_same : (b : Bool) → (b || b) ≡ b
    or_same true = refl
    or_same false = refl

-- ---- lines that were read, of all

-- the tags of those that were read, and what is left
pub record AreRead (all done rest : List Seen) (tags : List ℕ) : Type 0 where
  pub joined : all ≡ done ++ rest
  pub rising : IsRising rest
  pub ascending : IsAscending tags
  pub below : AreBelow tags rest
  pub lower : AllByRecursion (λ (line : Seen). AllByRecursion (λ (other : Seen). other.tag < line.tag) done) rest
  pub same : (tag : ℕ) → list_any (λ other. other == tag) tags ≡ list_any (has_tag tag) done

lower_more : (done run behind : List Seen) (tag : ℕ)
    → AllByRecursion (λ (line : Seen). AllByRecursion (λ (other : Seen). other.tag < line.tag) done) behind
    → AllByRecursion (λ (line : Seen). line.tag ≡ tag) run
    → AllByRecursion (λ (line : Seen). tag < line.tag) behind
    → AllByRecursion (λ (line : Seen). AllByRecursion (λ (other : Seen). other.tag < line.tag) (done ++ run)) behind
lower_more done run [] tag h is k = tt
lower_more done run (line ∷ behind) tag h is k = (
  all_append (λ (other : Seen). other.tag < line.tag) done run h.0
      (all_map (λ (other : Seen). other.tag ≡ tag) (λ (other : Seen). other.tag < line.tag) run
      (λ other e. omega (arith, e, k.0)) is),
  lower_more done run behind tag h.1 is k.1,
)

pub read_none : (all : List Seen) → IsRising all → AreRead all [] all []
read_none all up = record {
  joined = refl;
  rising = up;
  ascending = tt;
  below = nothing_below all;
  lower = nothing_lower all;
  same = λ tag. refl;
}
  where
    nothing_below : (lines : List Seen) → AreBelow [] lines
    nothing_below [] = tt
    nothing_below (line ∷ lines) = (tt, nothing_below lines)

    nothing_lower : (lines : List Seen)
        → AllByRecursion (λ (line : Seen). AllByRecursion (λ (other : Seen). other.tag < line.tag) []) lines
    nothing_lower [] = tt
    nothing_lower (line ∷ lines) = (tt, nothing_lower lines)

-- the next tag: its lines are these of all, and they are read
pub record IsRun (all done : List Seen) (line : Seen) (run behind : List Seen) (tags : List ℕ)
    : Type 0 where
  pub here : of_tag line.tag all ≡ line ∷ run
  pub next : AreRead all (done ++ line ∷ run) behind (tags ++ line.tag ∷ [])

pub read_run : (all done : List Seen) (line : Seen) (run behind : List Seen) (tags : List ℕ)
    → AreRead all done (line ∷ (run ++ behind)) tags
    → AllByRecursion (λ (other : Seen). other.tag ≡ line.tag) run
    → HasOther line.tag behind
    → IsRun all done line run behind tags
read_run all done line run behind tags h same other =
    let tag = line.tag in
    let up = rising_behind run behind h.rising.1 in
    let more = above tag behind up other
    (later_behind (λ (later : Seen). tag ≤ later.tag) run behind h.rising.0) in
    let joined : all ≡ (done ++ line ∷ run) ++ behind =
    h.joined ∙ sym (append_assoc done (line ∷ run) behind) in
    let before : of_tag tag done ≡ [] = of_others tag done
    (all_map (λ (other : Seen). other.tag < tag) (λ (other : Seen). other.tag ≢ tag) done
    (λ other less is. absurd (omega (arith, less, is))) h.lower.0) in
    let after : of_tag tag behind ≡ [] = of_others tag behind
    (all_map (λ (later : Seen). tag < later.tag) (λ (later : Seen). later.tag ≢ tag) behind
    (λ later less is. absurd (omega (arith, less, is))) more) in
    let mine : of_tag tag (line ∷ run) ≡ line ∷ run = of_same tag (line ∷ run) (refl, same) in
    record {
      here = ap (of_tag tag) joined ∙ of_append tag (done ++ line ∷ run) behind
          ∙ ap (λ x. x ++ of_tag tag behind) (of_append tag done (line ∷ run))
          ∙ ap (λ x. (x ++ of_tag tag (line ∷ run)) ++ of_tag tag behind) before
          ∙ ap (λ x. x ++ of_tag tag behind) mine
          ∙ ap (λ x. (line ∷ run) ++ x) after ∙ append-nil (line ∷ run);
      next = record {
        joined = joined;
        rising = up;
        ascending = ascending_more tags tag h.ascending h.below.0;
        below = below_more tags tag behind
            (later_behind (λ (later : Seen). AllByRecursion (λ t. t < later.tag) tags) run behind h.below.1)
            more;
        lower = lower_more done (line ∷ run) behind tag
            (later_behind
            (λ (later : Seen). AllByRecursion (λ (other : Seen). other.tag < later.tag) done) run behind h.lower.1)
            (refl, same) more;
        same = λ t. any_append (λ other. other == t) tags (tag ∷ [])
            ∙ ap (λ x. x || ((tag == t) || false)) (h.same t)
            ∙ ap (λ x. list_any (has_tag t) done || x) (or_none (tag == t)
            ∙ sym (any_same tag t line run refl same))
            ∙ sym (any_append (has_tag t) done (line ∷ run));
      };
    }
  where
    or_none : (b : Bool) → (b || false) ≡ b
    or_none true = refl
    or_none false = refl

-- all were read
pub all_read : (all done : List Seen) (tags : List ℕ) → AreRead all done [] tags → AreTags all tags
all_read all done tags h = record {
  ascending = h.ascending;
  all = λ tag. h.same tag
      ∙ ap (list_any (has_tag tag)) (sym (append-nil done) ∙ sym h.joined);
}
