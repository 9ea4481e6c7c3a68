-- frames that come one behind the other are the items of their bytes
use Rattle.std.proofs.Common.{◌≡◌, ◌<◌, ◌≤◌, ℕ, Bool, true, false, nat_le, List, [], ◌∷◌, ◌++◌, length, take, None, refl, sym, ◌∙◌, ap, subst, append_assoc, arith}
use Rattle.std.specs.List.{AllByRecursion, concat}
use Rattle.std.proofs.lemmas.List.{length-append, take-append-le}
use Rattle.std.proofs.lemmas.Bool.Decides.{nat_tests}
use Rattle.rh_pdu.specs.Header.{frag_of, head_fault}
use Rattle.rh_pdu.specs.Frames.{IsFrame}
use Rattle.rh_pdu.proofs.Headers.{head_same, frag_same}
use Rattle.rh_story.specs.Items.{frame_whole, is_framed, is_whole, items_from, held_from}

-- a header that breaks no rule begins with the version
begins_framed : (f : List ℕ) → head_fault f ≡ None → is_framed f ≡ true
unfolding head_fault
begins_framed f h = grind (arith, nat_tests)

-- a frame is whole
whole_frame : (f : List ℕ) → IsFrame f → is_whole f ≡ true
unfolding is_whole frame_whole
whole_frame f h =
    let long = h.long in
    let head = h.head in
    let whole = h.whole in
    rw (begins_framed f head, head) (grind (arith, nat_tests))

-- the first bytes of a frame
first_byte : (p q : List ℕ) → 0 < length p → is_framed (p ++ q) ≡ true → is_framed p ≡ true
first_byte [] q some h = absurd (omega (arith, some))
first_byte (b ∷ p) q some h = h

-- are no frame
open_short : (p : List ℕ) → nat_le 16 (length p) ≡ false → frame_whole p ≡ false
unfolding frame_whole
open_short p e = rw e refl

open_long : (p q : List ℕ) → IsFrame (p ++ q) → 0 < length q → nat_le 16 (length p) ≡ true
    → frame_whole p ≡ false
unfolding frame_whole
open_long p q h some e =
    let size = length-append p q in
    let sixteen : 16 ≤ length p = grind (arith, nat_tests, e) in
    let front : take 16 p ≡ take 16 (p ++ q) = sym (take-append-le 16 p q sixteen) in
    let head : head_fault p ≡ None = head_same p (p ++ q) front ∙ h.head in
    let frag : frag_of p ≡ length (p ++ q) = frag_same p (p ++ q) front ∙ sym h.whole in
    let below : nat_le (frag_of p) (length p) ≡ false =
    grind (arith, nat_tests, frag, size, some) in
    rw (e, head, below) refl

part_open : (p q : List ℕ) → IsFrame (p ++ q) → 0 < length q → frame_whole p ≡ false
part_open p q h some = by (nat_le 16 (length p)) refl
  where
    by : (long : Bool) → nat_le 16 (length p) ≡ long → frame_whole p ≡ false
    by false e = open_short p e
    by true e = open_long p q h some e

part_not_whole : (p q : List ℕ) → IsFrame (p ++ q) → 0 < length p → 0 < length q
    → is_whole p ≡ false
unfolding is_whole
part_not_whole p q h some more =
    rw (first_byte p q some (begins_framed (p ++ q) h.head)) (part_open p q h more)

-- ---- one frame

abbrev Told : List ℕ → List ℕ → List ℕ → List ℕ → Type 0
Told held bytes frame more =
    (items_from held (bytes ++ more) ≡ frame ∷ items_from [] more)
    × (held_from held (bytes ++ more) ≡ held_from [] more)

-- the last byte makes it whole, and no other does
from_part : (p q more : List ℕ) → IsFrame (p ++ q) → 0 < length q → Told p q (p ++ q) more
from_part p [] more h some = absurd (omega (arith, some))
from_part p (b ∷ []) more h some =
    let whole = whole_frame (p ++ b ∷ []) h in (rw whole refl, rw whole refl)
from_part p (b ∷ c ∷ q) more h some =
    let joined = append_assoc p (b ∷ []) (c ∷ q) in
    let frame : IsFrame ((p ++ b ∷ []) ++ c ∷ q) = subst IsFrame (sym joined) h in
    let size = length-append p (b ∷ []) in
    let part = part_not_whole (p ++ b ∷ []) (c ∷ q) frame (omega (arith, size)) (omega arith) in
    let rest = from_part (p ++ b ∷ []) (c ∷ q) more frame (omega arith) in (
      rw part (rest.0 ∙ ap (λ (f : List ℕ). f ∷ items_from [] more) joined),
      rw part rest.1,
    )

-- ---- frames

some_bytes : (f : List ℕ) → IsFrame f → 0 < length f
some_bytes f h = let long = h.long in omega (arith, long)

pub frames_told : (frames : List (List ℕ)) (more : List ℕ) → AllByRecursion IsFrame frames
    → items_from [] (concat frames ++ more) ≡ frames ++ items_from [] more
frames_told [] more h = refl
frames_told (f ∷ frames) more h =
    ap (λ (bytes : List ℕ). items_from [] bytes) (append_assoc f (concat frames) more)
    ∙ (from_part [] f (concat frames ++ more) h.0 (some_bytes f h.0)).0
    ∙ ap (λ (items : List (List ℕ)). f ∷ items) (frames_told frames more h.1)

pub none_held : (frames : List (List ℕ)) (more : List ℕ) → AllByRecursion IsFrame frames
    → held_from [] (concat frames ++ more) ≡ held_from [] more
none_held [] more h = refl
none_held (f ∷ frames) more h =
    ap (λ (bytes : List ℕ). held_from [] bytes) (append_assoc f (concat frames) more)
    ∙ (from_part [] f (concat frames ++ more) h.0 (some_bytes f h.0)).1
    ∙ none_held frames more h.1
