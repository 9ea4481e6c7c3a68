-- what is held of streams, in the order of their keys
use Rattle.std.proofs.Common.{◌≡◌, ℕ, Bool, true, false, List, [], ◌∷◌, cond, if◌then◌else◌, Some, refl, ap, ◌∙◌}
use Rattle.std.specs.declared.option.Option.{Option}
use Rattle.std.specs.declared.cmp.Ordering.{Ordering}
use Rattle.std.specs.declared.cmp.Ordering.TheVariants.{Less, Equal, Greater}
use Rattle.std.specs.Cmp.Lexicographic.{slice_cmp}
use Rattle.std.specs.Ordering.{is_eq, match_ordering, nat_cmp}
use Rattle.std.specs.BTreeMap.{insert_entry}
use Rattle.std.specs.Map.{lookup}
use Rattle.std.proofs.lemmas.Map.Text.{is_eq-slice_cmp}
use Rattle.std.proofs.lemmas.Slice.Eq.{bytes_eq-Decides}
use Rattle.rh_story.specs.Streams.{bytes_in, held_of, seen_as, with_held}

abbrev compare : List ℕ → List ℕ → Ordering
compare = slice_cmp nat_cmp

-- a key is the same as itself
tied : (o : Ordering) → is_eq o ≡ true → o ≡ Equal
tied Equal h = refl
tied Less h = absurd (cc)
tied Greater h = absurd (cc)

same_key : (key : List ℕ) → compare key key ≡ Equal
same_key key =
    tied (compare key key) (is_eq-slice_cmp key key ∙ (bytes_eq-Decides key key).1 refl)

-- bytes that are put at a key
put_by : {V : Type 0} (bytes : V → List ℕ) (e : List ℕ × V) (entries : List (List ℕ × V))
    (key : List ℕ) (v : V) (o : Ordering)
    → seen_as bytes (insert_entry compare entries key v)
    ≡ with_held (seen_as bytes entries) key (bytes v)
    → seen_as bytes (match_ordering o ((key, v) ∷ e ∷ entries) ((e.0, v) ∷ entries)
    (e ∷ insert_entry compare entries key v))
    ≡ match_ordering o ((key, bytes v) ∷ (e.0, bytes e.1) ∷ seen_as bytes entries)
    ((e.0, bytes v) ∷ seen_as bytes entries)
    ((e.0, bytes e.1) ∷ with_held (seen_as bytes entries) key (bytes v))
put_by bytes e entries key v Less h = refl
put_by bytes e entries key v Equal h = refl
put_by bytes e entries key v Greater h =
    ap (λ (es : List (List ℕ × List ℕ)). (e.0, bytes e.1) ∷ es) h

pub put_there : {V : Type 0} (bytes : V → List ℕ) (entries : List (List ℕ × V)) (key : List ℕ)
    (v : V)
    → seen_as bytes (insert_entry compare entries key v)
    ≡ with_held (seen_as bytes entries) key (bytes v)
put_there bytes [] key v = refl
put_there bytes (e ∷ entries) key v =
    put_by bytes e entries key v (compare key e.0) (put_there bytes entries key v)

-- bytes that stand at a key
found_by : {V : Type 0} (bytes : V → List ℕ) (v : V) (later : Option V) (held : List ℕ)
    (t : Bool) → bytes_in bytes later ≡ held
    → bytes_in bytes (cond t (Some v) later) ≡ (if t then bytes v else held)
found_by bytes v later held true h = refl
found_by bytes v later held false h = h

pub found_there : {V : Type 0} (bytes : V → List ℕ) (entries : List (List ℕ × V))
    (key : List ℕ)
    → bytes_in bytes (lookup (λ (q : List ℕ). is_eq (compare key q)) entries)
    ≡ held_of (seen_as bytes entries) key
found_there bytes [] key = refl
found_there bytes (e ∷ entries) key =
    found_by bytes e.1 (lookup (λ (q : List ℕ). is_eq (compare key q)) entries)
    (held_of (seen_as bytes entries) key) (is_eq (compare key e.0))
    (found_there bytes entries key)

-- the last of two that are put there counts
again_by : (e : List ℕ × List ℕ) (entries : List (List ℕ × List ℕ)) (key one two : List ℕ)
    (o : Ordering) → compare key e.0 ≡ o
    → with_held (with_held entries key one) key two ≡ with_held entries key two
    → with_held (match_ordering o ((key, one) ∷ e ∷ entries) ((e.0, one) ∷ entries)
    (e ∷ with_held entries key one)) key two
    ≡ match_ordering o ((key, two) ∷ e ∷ entries) ((e.0, two) ∷ entries)
    (e ∷ with_held entries key two)
again_by e entries key one two Less is h = rw (same_key key) refl
again_by e entries key one two Equal is h = rw is refl
again_by e entries key one two Greater is h =
    rw is (ap (λ (es : List (List ℕ × List ℕ)). e ∷ es) h)

pub put_again : (entries : List (List ℕ × List ℕ)) (key one two : List ℕ)
    → with_held (with_held entries key one) key two ≡ with_held entries key two
put_again [] key one two = rw (same_key key) refl
put_again (e ∷ entries) key one two =
    again_by e entries key one two (compare key e.0) refl (put_again entries key one two)
