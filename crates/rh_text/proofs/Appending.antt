-- appending a text in pieces
use Rattle.std.proofs.Common.{◌≡◌, ℕ, suc, ◌+◌, ◌<◌, List, [], ◌∷◌, ◌++◌, drop, length, get_or, Ok, Err}
use Rattle.std.proofs.Common.{IsUtf8, refl, sym, subst, ◌∙◌, ap, append_assoc, arith}
use Rattle.std.proofs.lemmas.Str.{IsUtf8-append, IsUtf8-nil}
use Rattle.std.specs.declared.result.Result.{Result}
use Rattle.std.proofs.lemmas.List.{append-nil}
use Rattle.std.proofs.Math.Seq.{drop-cons}
use Rattle.rh_text.specs.declared.writing.Part.{Part}
use Rattle.rh_text.specs.Writing.{Writes, part_text, parts_text}

-- a front of a text was appended, and the rest is left
pub record IsWritten (text before now rest : List ℕ) : Type 0 where
  pub front : List ℕ
  pub cut : text ≡ front ++ rest
  pub here : now ≡ before ++ front

pub written_none : (text before : List ℕ) → IsWritten text before before text
written_none text before = record { front = []; cut = refl; here = sym (append-nil before) }

-- a piece more
pub written_more : (text before now next left piece rest : List ℕ) → left ≡ piece ++ rest
    → next ≡ now ++ piece
    → IsWritten text before now left → IsWritten text before next rest
written_more text before now next left piece rest parts more h = record {
  front = h.front ++ piece;
  cut = h.cut ∙ ap (λ (x : List ℕ). h.front ++ x) parts ∙ sym (append_assoc h.front piece rest);
  here = more ∙ ap (λ (x : List ℕ). x ++ piece) h.here ∙ append_assoc before h.front piece;
}

-- nothing is left
pub written_all : (text before now : List ℕ) → IsWritten text before now [] → now ≡ before ++ text
written_all text before now h =
    h.here ∙ ap (λ (x : List ℕ). before ++ x) (sym (append-nil h.front) ∙ sym h.cut)

-- where a piece could not be appended, a front of the whole was
pub written_part : {E : Type 0} (text before now next left piece rest : List ℕ) (failed : E)
    → left ≡ piece ++ rest → Writes piece (Err failed) now next → IsWritten text before now left
    → Writes text (Err failed) before next
written_part text before now next left piece rest failed parts (front, behind, cut, there) h = (
  h.front ++ front,
  behind ++ rest,
  h.cut ∙ ap (λ (x : List ℕ). h.front ++ x) parts ∙ ap (λ (x : List ℕ). h.front ++ (x ++ rest)) cut
      ∙ ap (λ (x : List ℕ). h.front ++ x) (append_assoc front behind rest)
      ∙ sym (append_assoc h.front front (behind ++ rest)),
  there ∙ ap (λ (x : List ℕ). x ++ front) h.here ∙ append_assoc before h.front front,
)

-- one text and then another are the two
pub writes_both : {E : Type 0} (one two : List ℕ) (result : Result (Unit {0}) E)
    (before now next : List ℕ)
    → now ≡ before ++ one → Writes two result now next → Writes (one ++ two) result before next
writes_both one two (Ok done) before now next h k =
    k ∙ ap (λ (x : List ℕ). x ++ two) h ∙ append_assoc before one two
writes_both one two (Err failed) before now next h (front, behind, cut, there) = (
  one ++ front,
  behind,
  ap (λ (x : List ℕ). one ++ x) cut ∙ sym (append_assoc one front behind),
  there ∙ ap (λ (x : List ℕ). x ++ front) h ∙ append_assoc before one front,
)

-- where the first text could not be appended, a front of the two was
pub writes_one : {E : Type 0} (one two : List ℕ) (failed : E) (before now : List ℕ)
    → Writes one (Err failed) before now → Writes (one ++ two) (Err failed) before now
writes_one one two failed before now (front, behind, cut, there) =
    (front, behind ++ two, ap (λ (x : List ℕ). x ++ two) cut ∙ append_assoc front behind two, there)

-- ---- parts

-- the first part, and those behind it
pub parts_text-cons : (part : Part) (parts : List Part)
    → parts_text (part ∷ parts) ≡ part_text part ++ parts_text parts
parts_text-cons part [] = sym (append-nil (part_text part))
parts_text-cons part (next ∷ parts) = refl

-- the part at a place, and those behind it
pub parts_text-drop : (parts : List Part) (i : ℕ) (or : Part) → i < length parts
    → parts_text (drop i parts) ≡ part_text (get_or parts i or) ++ parts_text (drop (i + 1) parts)
parts_text-drop parts i or within =
    let next : i + 1 ≡ suc i = omega arith in
    rw next (ap parts_text (drop-cons parts i or within)
    ∙ parts_text-cons (get_or parts i or) (drop (suc i) parts))

-- ---- gathering

-- a front of a text was appended, then some was gathered, and the rest is left
pub record IsGathered (text before now gathered rest : List ℕ) : Type 0 where
  pub written : IsWritten text before now (gathered ++ rest)
  pub utf8 : IsUtf8 gathered

pub gathered_none : (text before : List ℕ) → IsGathered text before before [] text
gathered_none text before = record { written = written_none text before; utf8 = IsUtf8-nil }

-- what is left begins with a piece
gathered_joined : (gathered left piece rest : List ℕ) → left ≡ piece ++ rest
    → gathered ++ left ≡ (gathered ++ piece) ++ rest
gathered_joined gathered left piece rest parts =
    ap (λ (x : List ℕ). gathered ++ x) parts ∙ sym (append_assoc gathered piece rest)

-- a piece more is gathered
pub gathered_more : (text before now gathered left piece rest : List ℕ) → left ≡ piece ++ rest
    → IsUtf8 piece
    → IsGathered text before now gathered left → IsGathered text before now (gathered ++ piece) rest
gathered_more text before now gathered left piece rest parts utf8 h = record {
  written = subst (IsWritten text before now)
      (gathered_joined gathered left piece rest parts) h.written;
  utf8 = IsUtf8-append gathered piece h.utf8 utf8;
}

-- what was gathered is appended, and a piece more
pub gathered_past : (text before now next gathered left piece rest : List ℕ) → left ≡ piece ++ rest
    → next ≡ now ++ (gathered ++ piece) → IsGathered text before now gathered left
    → IsGathered text before next [] rest
gathered_past text before now next gathered left piece rest parts more h = record {
  written = written_more text before now next (gathered ++ left) (gathered ++ piece) rest
      (gathered_joined gathered left piece rest parts) more h.written;
  utf8 = IsUtf8-nil;
}

-- where that could not be appended, a front of the whole was
pub gathered_part : {E : Type 0} (text before now next gathered left piece rest : List ℕ)
    (failed : E)
    → left ≡ piece ++ rest → Writes (gathered ++ piece) (Err failed) now next
    → IsGathered text before now gathered left → Writes text (Err failed) before next
gathered_part text before now next gathered left piece rest failed parts behind h =
    written_part text before now next (gathered ++ left) (gathered ++ piece) rest failed
    (gathered_joined gathered left piece rest parts) behind h.written

-- the last of the text is appended, or could not be
pub gathered_end : {E : Type 0} (text before now next gathered : List ℕ)
    (result : Result (Unit {0}) E)
    → IsGathered text before now gathered [] → Writes gathered result now next
    → Writes text result before next
gathered_end text before now next gathered (Ok done) h k =
    written_all text before next
    (written_more text before now next (gathered ++ []) gathered [] refl k h.written)
gathered_end text before now next gathered (Err failed) h k =
    written_part text before now next (gathered ++ []) gathered [] failed refl k h.written
