-- the header: its bytes, and what they are read as
use Rattle.std.proofs.Common.{◌≡◌, ℕ, zero, suc, ◌+◌, ◌^◌, ◌<◌, ◌≤◌, List, [], ◌∷◌, ◌++◌, length}
use Rattle.std.proofs.Common.{take, drop, refl, sym, ap, ◌∙◌, arith, true, false, Bool, nat_lt, inl}
use Rattle.std.proofs.Common.{inr}
use Rattle.std.specs.Prelude.{Some, None, ◌==◌, ◌⊎◌, if◌then◌else◌, slice_index}
use Rattle.std.specs.declared.option.Option.{Option}
use Rattle.std.proofs.lemmas.Bool.{eqb-true, eqb-false, eq-eqb, ne_eqb, ltb-true, ltb-false, lt-ltb}
use Rattle.std.proofs.lemmas.Bool.{le-ltb}
use Rattle.std.proofs.lemmas.List.{drop_more}
use Rattle.std.proofs.lemmas.Nat.{le_bytes_2, from_le_bytes-to_le_bytes_2}
use Rattle.rh_rts.specs.declared.fault.RtsFault.{RtsFault}
use Rattle.rh_rts.specs.declared.fault.RtsKind.{RtsKind}
use Rattle.rh_rts.specs.declared.fault.RtsKind.TheVariants.{BadHeader, BadLength, BadFlags}
use Rattle.rh_rts.specs.declared.fault.RtsKind.TheVariants.{CutShort}
use Rattle.rh_rts.specs.declared.packet.TheConstants.{ALL_FLAGS}
use Rattle.rh_rts.specs.Commands.{IsBytes}
use Rattle.rh_rts.specs.Packets.{le2, header_front, header_bytes}
use Rattle.rh_rts.specs.Refusals.{fault, header_like, le2_at, frag_of, flags_of, count_of}
use Rattle.rh_rts.specs.Refusals.{DiffersAt, IsLike, IsHead, HeadFault}
use Rattle.rh_rts.specs.Reading.{agreed, told_fault, like_fault, header_fault}
use Rattle.rh_rts.proofs.Fields.{front}

-- ---- the first byte that differs

-- so many bytes are as they are to be, and then one that isn't; or all are
abbrev Agrees : List ℕ → List ℕ → ℕ → Type 0
Agrees want b same =
    (DiffersAt same want b) ⊎ ((same ≡ length want) × (take (length want) b ≡ want))

one_more : (w x : ℕ) (want b : List ℕ) (same : ℕ) → x ≡ w → Agrees want b same
    → Agrees (w ∷ want) (x ∷ b) (suc same)
one_more w x want b same is (inl h) = inl (record {
  same = ap (λ (n : ℕ). n ∷ take same b) is ∙ ap (λ (xs : List ℕ). w ∷ xs) h.same;
  within = omega (arith, h.within);
  other = h.other;
})
one_more w x want b same is (inr h) = inr (
  ap suc h.0,
  ap (λ (n : ℕ). n ∷ take (length want) b) is ∙ ap (λ (xs : List ℕ). w ∷ xs) h.1,
)

agrees_by : (w x : ℕ) (want b : List ℕ) (t : Bool) → (x == w) ≡ t → Agrees want b (agreed want b)
    → Agrees (w ∷ want) (x ∷ b) (if t then suc (agreed want b) else 0)
agrees_by w x want b true is h = one_more w x want b _ (eqb-true _ _ is) h
agrees_by w x want b false is h =
    inl (record { same = refl; within = omega arith; other = eqb-false _ _ is })

agrees : (want b : List ℕ) → length want ≤ length b → Agrees want b (agreed want b)
agrees [] b long = inr (refl, refl)
agrees (w ∷ want) [] long = absurd (omega (arith, long))
agrees (w ∷ want) (x ∷ b) long =
    agrees_by w x want b (x == w) refl (agrees want b (omega (arith, long)))

-- the first that differs is found
differs_found : (want b : List ℕ) (n : ℕ) → length want ≤ length b → DiffersAt n want b
    → agreed want b ≡ n
differs_found [] b n long h = absurd (omega (arith, h.within))
differs_found (w ∷ want) [] n long h = absurd (omega (arith, long))
differs_found (w ∷ want) (x ∷ b) zero long h = rw (ne_eqb x w h.other) refl
differs_found (w ∷ want) (x ∷ b) (suc n) long h =
    let same : x ∷ take n b ≡ w ∷ take n want = h.same in
    let first : x ≡ w = cc in
    let later : take n b ≡ take n want = cc in
    let more = differs_found want b n (omega (arith, long))
    (record { same = later; within = omega (arith, h.within); other = h.other }) in
    rw (eq-eqb x w first) (ap suc more)

-- where none differs, all are as they are to be
same_found : (want b : List ℕ) → take (length want) b ≡ want → agreed want b ≡ length want
same_found [] b e = refl
same_found (w ∷ want) [] e = absurd cc
same_found (w ∷ want) (x ∷ b) e =
    let first : x ≡ w = cc in
    let later : take (length want) b ≡ want = cc in
    rw (eq-eqb x w first) (ap suc (same_found want b later))

-- ---- what is wrong with a header, test by test

-- that is the first to be wrong, if anything is
abbrev pub HeadIs : List ℕ → Option RtsFault → Type 0
HeadIs b None = IsHead b
HeadIs b (Some wrong) = HeadFault b wrong.place wrong.kind

by_flags : (b : List ℕ) (t : Bool) → IsLike b → frag_of b ≡ length b
    → nat_lt ALL_FLAGS (flags_of b) ≡ t
    → HeadIs b (if t then fault 16 BadFlags else None)
by_flags b true like frag e = (refl, like, frag, ltb-true _ _ e)
by_flags b false like frag e = record { like = like; frag = frag; flags = ltb-false _ _ e }

by_frag : (b : List ℕ) (t : Bool) → IsLike b → (frag_of b == length b) ≡ t
    → HeadIs b (if t then (if nat_lt ALL_FLAGS (flags_of b) then fault 16 BadFlags else None)
    else fault 8 BadLength)
by_frag b true like e = by_flags b _ like (eqb-true _ _ e) refl
by_frag b false like e = (refl, like, eqb-false _ _ e)

by_like : (b : List ℕ) (same : ℕ) (t : Bool) → 20 ≤ length b → Agrees (header_like b) b same
    → nat_lt same 16 ≡ t → HeadIs b (if t then fault same BadHeader else told_fault b)
by_like b same true long (inl h) e = (long, h)
by_like b same true long (inr h) e = absurd (omega (arith, h.0, ltb-true _ _ e))
by_like b same false long (inl h) e = absurd (omega (arith, h.within, ltb-false _ _ e))
by_like b same false long (inr h) e = by_frag b _ (record { long = long; front = h.1 }) refl

by_length : (b : List ℕ) (t : Bool) → nat_lt (length b) 20 ≡ t
    → HeadIs b (if t then fault (length b) CutShort else like_fault (agreed (header_like b) b) b)
by_length b true e = (refl, ltb-true _ _ e)
by_length b false e =
    let long : 20 ≤ length b = ltb-false _ _ e in
    by_like b _ _ long (agrees (header_like b) b (omega (arith, long))) refl

pub head_is : (b : List ℕ) → HeadIs b (header_fault b)
unfolding header_fault
head_is b = by_length b _ refl

-- nothing is wrong with a header, as far as it is of the right length and like what it is to be
liked : (b : List ℕ) → IsLike b → header_fault b ≡ told_fault b
unfolding header_fault
liked b h = rw (le-ltb _ _ h.long, same_found (header_like b) b h.front) refl

pub no_fault : (b : List ℕ) → IsHead b → header_fault b ≡ None
no_fault b h = liked b h.like ∙ rw (eq-eqb _ _ h.frag, le-ltb _ _ h.flags) refl

-- what is the first to be wrong is found
pub fault_found : (b : List ℕ) (place : ℕ) (kind : RtsKind) → HeadFault b place kind
    → header_fault b ≡ fault place kind
unfolding header_fault
fault_found b place CutShort h = rw (lt-ltb _ _ h.1, h.0) refl
fault_found b place BadHeader h =
    rw (
      le-ltb _ _ h.0,
      differs_found (header_like b) b place (omega (arith, h.0)) h.1,
      lt-ltb _ _ h.1.within,
    ) refl
fault_found b place BadLength h = rw h.0 (liked b h.1 ∙ rw (ne_eqb _ _ h.2) refl)
fault_found b place BadFlags h = rw h.0 (liked b h.1 ∙ rw (eq-eqb _ _ h.2, lt-ltb _ _ h.3) refl)
fault_found b place kind h = absurd h

-- ---- the bytes of a header

-- two bytes are bytes
two_bytes : (x y : ℕ) → x < 256 → y < 256 → IsBytes (x ∷ y ∷ [])
two_bytes x y a b zero = a
two_bytes x y a b (suc zero) = b
two_bytes x y a b (suc (suc i)) = omega arith

-- two bytes spell the number that they are
short_front : (b : List ℕ) (at : ℕ) → IsBytes b
    → slice_index b at ∷ slice_index b (at + 1) ∷ [] ≡ le2 (le2_at b at)
short_front b at fits =
    sym (le_bytes_2 (slice_index b at ∷ slice_index b (at + 1) ∷ []) (le2_at b at) refl
    (two_bytes (slice_index b at) (slice_index b (at + 1)) (fits at) (fits (at + 1))) refl)

last_four : (b : List ℕ) → 20 ≤ length b
    → drop 16 b ≡ slice_index b 16 ∷ slice_index b 17 ∷ slice_index b 18 ∷ slice_index b 19
    ∷ drop 20 b
last_four b long =
    drop_more b 16 0 (omega (arith, long))
    ∙ ap (λ (x : List ℕ). slice_index b 16 ∷ x) (drop_more b 17 0 (omega (arith, long))
    ∙ ap (λ (x : List ℕ). slice_index b 17 ∷ x) (drop_more b 18 0 (omega (arith, long))
    ∙ ap (λ (x : List ℕ). slice_index b 18 ∷ x) (drop_more b 19 0 (omega (arith, long)))))

-- a header of these parts, each as it is spelled
abbrev spelled : List ℕ → List ℕ → List ℕ → List ℕ → List ℕ
spelled frag flags count rest = (header_front frag ++ (flags ++ count)) ++ rest

-- the bytes of a header with nothing wrong
pub head_bytes : (b : List ℕ) → IsBytes b → IsHead b
    → b ≡ header_bytes (length b) (flags_of b) (count_of b) ++ drop 20 b
head_bytes b fits h =
    let rest = drop 20 b in
    let frag = slice_index b 8 ∷ slice_index b 9 ∷ [] in
    let flags = slice_index b 16 ∷ slice_index b 17 ∷ [] in
    let count = slice_index b 18 ∷ slice_index b 19 ∷ [] in
    let cells : b ≡ spelled frag flags count rest =
    front 16 b ∙ ap (λ (x : List ℕ). x ++ drop 16 b) h.like.front
    ∙ ap (λ (x : List ℕ). header_like b ++ x) (last_four b h.like.long) in
    cells
    ∙ ap (λ (x : List ℕ). spelled x flags count rest) (short_front b 8 fits ∙ ap le2 h.frag)
    ∙ ap (λ (x : List ℕ). spelled (le2 (length b)) x count rest) (short_front b 16 fits)
    ∙ ap (λ (x : List ℕ). spelled (le2 (length b)) (le2 (flags_of b)) x rest)
    (short_front b 18 fits)

-- a header is read as it was spelled
pub record HeadAgain (told many : ℕ) (rest b : List ℕ) : Type 0 where
  pub head : IsHead b
  pub flags : flags_of b ≡ told
  pub count : count_of b ≡ many
  pub body : drop 20 b ≡ rest

-- the frag_length that a header spells, whatever stands behind
pub frag_again : (frag flags count : ℕ) (body : List ℕ) → frag < 2 ^ 16
    → frag_of (header_bytes frag flags count ++ body) ≡ frag
frag_again frag flags count body fits = from_le_bytes-to_le_bytes_2 frag fits

pub head_again : (flags count : ℕ) (body : List ℕ) → flags ≤ ALL_FLAGS → 20 + length body ≤ 65535
    → count ≤ 65535
    → HeadAgain flags count body (header_bytes (20 + length body) flags count ++ body)
head_again flags count body few fits small =
    let b = header_bytes (20 + length body) flags count ++ body in
    let size : length b ≡ 20 + length body = omega arith in
    let told : flags_of b ≡ flags = from_le_bytes-to_le_bytes_2 flags (omega (arith, few)) in
    record {
      head = record {
        like = record { long = omega (arith, size); front = refl };
        frag = frag_again (20 + length body) flags count body (omega (arith, fits)) ∙ sym size;
        flags = omega (arith, told, few);
      };
      flags = told;
      count = from_le_bytes-to_le_bytes_2 count (omega (arith, small));
      body = refl;
    }
