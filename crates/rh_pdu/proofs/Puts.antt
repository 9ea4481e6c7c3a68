-- what a buffer holds once a piece was put behind the bytes held
use Rattle.std.proofs.Common.{◌≡◌, ℕ, ◌+◌, ◌-◌, ◌≤◌, ◌<◌, min, List, ◌++◌, take, drop, length, None, arith}
use Rattle.std.proofs.Common.{sym, ◌∙◌, ap, subst}
use Rattle.std.proofs.lemmas.List.{length-append, length-take, length-take-le, take-append-drop, take-append-le}
use Rattle.std.proofs.lemmas.List.{take-take, take_all}
use Rattle.std.proofs.Math.Seq.{take-append-add, drop-append-add}
use Rattle.rh_pdu.specs.declared.feed.Put.TheVariants.{Part, Whole}
use Rattle.rh_pdu.specs.Header.{frag_of, head_fault}
use Rattle.rh_pdu.specs.Frames.{IsUnfinished}
use Rattle.rh_pdu.specs.Filling.{Holds}
use Rattle.rh_pdu.proofs.Headers.{frag_bounds, head_same, frag_same}

-- what is put stands behind what was held
pub take_put : (h r : ℕ) (old piece : List ℕ) → h ≤ length old
    → take (h + r) (take h old ++ piece) ≡ take h old ++ take r piece
take_put h r old piece fits =
    let e : length (take h old) ≡ h = length-take-le h old fits in
    subst (λ n. take (n + r) (take h old ++ piece) ≡ take h old ++ take r piece) e
    (take-append-add (take h old) piece r)

-- behind n bytes are those of the piece behind what was held
pub behind_of : (n : ℕ) (rest piece : List ℕ) → length rest ≤ n
    → drop n (rest ++ piece) ≡ drop (n - length rest) piece
behind_of n rest piece fits =
    ap (λ k. drop k (rest ++ piece)) {x = n} {y = length rest + (n - length rest)} (omega arith)
    ∙ drop-append-add rest piece (n - length rest)

-- and n bytes in front are what was held and those of the piece
pub front_of : (n : ℕ) (rest piece : List ℕ) → length rest ≤ n
    → take n (rest ++ piece) ≡ rest ++ take (n - length rest) piece
front_of n rest piece fits =
    ap (λ k. take k (rest ++ piece)) {x = n} {y = length rest + (n - length rest)} (omega arith)
    ∙ take-append-add rest piece (n - length rest)

-- the header of the bytes held is that of the buffer
pub header_held : (held : ℕ) (buf : List ℕ) → length buf ≡ 8192 → held ≤ 8192 → 16 ≤ held
    → IsUnfinished (take held buf) → (head_fault buf ≡ None) × (held < frag_of buf)
header_held held buf size fits long unfinished =
    let same = take-take 16 held buf long in
    let count : length (take held buf) ≡ held = length-take-le held buf (omega arith) in
    let is = unfinished (omega arith) in (
      sym (head_same (take held buf) buf same) ∙ is.0,
      omega (arith, is.1, frag_same (take held buf) buf same),
    )

-- ---- behind a whole header

-- the header of all bytes is that of the buffer
behind_header : (held : ℕ) (old piece : List ℕ) → length old ≡ 8192 → held ≤ 8192 → 16 ≤ held
    → take 16 (take held old ++ piece) ≡ take 16 old
behind_header held old piece size fits long =
    let count : length (take held old) ≡ held = length-take-le held old (omega arith) in
    take-append-le 16 (take held old) piece (omega arith) ∙ take-take 16 held old long

-- the frame is not whole
pub part_behind : (held now : ℕ) (old piece new : List ℕ) → length old ≡ 8192 → 16 ≤ held
    → head_fault old ≡ None → held ≤ frag_of old → now ≡ min (frag_of old) (held + length piece)
    → take now new ≡ take now (take held old ++ piece) → now < frag_of old
    → Holds (Part now) (take held old ++ piece) new
part_behind held now old piece new size long sound below is put less =
    let all = take held old ++ piece in
    let bounds = frag_bounds old sound in
    let same = behind_header held old piece size (omega arith) long in
    let count : now ≡ length all =
    omega (arith, length-append (take held old) piece, length-take held old) in (
      count,
      omega arith,
      put ∙ take_all now all (omega arith),
      λ _. (head_same all old same ∙ sound, omega (arith, frag_same all old same)),
    )

-- the frame is whole
pub whole_behind : (held now : ℕ) (old piece new : List ℕ) → length old ≡ 8192 → 16 ≤ held
    → head_fault old ≡ None → held ≤ frag_of old → now ≡ min (frag_of old) (held + length piece)
    → take now new ≡ take now (take held old ++ piece) → frag_of old ≤ now
    → Holds (Whole (frag_of old)) (take held old ++ piece) new
whole_behind held now old piece new size long sound below is put enough =
    let all = take held old ++ piece in
    let bounds = frag_bounds old sound in
    let same = behind_header held old piece size (omega arith) long in
    let count : now ≡ frag_of old = omega arith in (
      bounds.0,
      omega (arith, length-append (take held old) piece, length-take held old),
      bounds.1,
      subst (λ n. take n new ≡ take n all) count put,
      head_same all old same ∙ sound,
      sym (frag_same all old same),
    )

-- ---- a header that was filled up

-- the buffer begins with all bytes
pub header_filled : (held now : ℕ) (old piece new : List ℕ) → now ≡ min 16 (held + length piece)
    → 16 ≤ now
    → take now new ≡ take now (take held old ++ piece)
    → take 16 new ≡ take 16 (take held old ++ piece)
header_filled held now old piece new is enough put =
    let count : now ≡ 16 = omega arith in
    subst (λ n. take n new ≡ take n (take held old ++ piece)) count put

-- and with what is behind it, all of them are there
pub all_behind : (held : ℕ) (old piece new behind : List ℕ) → length old ≡ 8192 → held < 16
    → take 16 new ≡ take 16 (take held old ++ piece) → behind ≡ drop (16 - held) piece
    → take 16 new ++ behind ≡ take held old ++ piece
all_behind held old piece new behind size short front is =
    let all = take held old ++ piece in
    let count : length (take held old) ≡ held = length-take-le held old (omega arith) in
    let rest : drop 16 all ≡ behind =
    behind_of 16 (take held old) piece (omega arith) ∙ ap (λ n. drop (16 - n) piece) count
    ∙ sym is in
    ap (λ x. x ++ behind) front ∙ ap (λ x. take 16 all ++ x) (sym rest) ∙ take-append-drop 16 all
