-- adding to a list in pieces
use Rattle.std.proofs.Common.{◌≡◌, List, [], ◌++◌, Ok, Err, refl, sym, ◌∙◌, ap, append_assoc}
use Rattle.std.proofs.lemmas.List.{append-nil}
use Rattle.std.specs.declared.result.Result.{Result}
use Rattle.rh_text.specs.Writing.{Writes}

-- a front of the whole was added, and the rest is left
pub record IsAdded {X : Type 0} (whole before now rest : List X) : Type 0 where
  pub front : List X
  pub cut : whole ≡ front ++ rest
  pub here : now ≡ before ++ front

pub added_none : {X : Type 0} (whole before : List X) → IsAdded whole before before whole
added_none whole before = record { front = []; cut = refl; here = sym (append-nil before) }

-- a piece more
pub added_more : {X : Type 0} (whole before now next left piece rest : List X)
    → left ≡ piece ++ rest → next ≡ now ++ piece → IsAdded whole before now left
    → IsAdded whole before next rest
added_more {X} whole before now next left piece rest parts more h = record {
  front = h.front ++ piece;
  cut = h.cut ∙ ap (λ (x : List X). h.front ++ x) parts ∙ sym (append_assoc h.front piece rest);
  here = more ∙ ap (λ (x : List X). x ++ piece) h.here ∙ append_assoc before h.front piece;
}

-- nothing is left
pub added_all : {X : Type 0} (whole before now : List X) → IsAdded whole before now []
    → now ≡ before ++ whole
added_all {X} whole before now h =
    h.here ∙ ap (λ (x : List X). before ++ x) (sym (append-nil h.front) ∙ sym h.cut)

-- a front of the whole stands there, where the rest could not be added
pub added_cut : {X E : Type 0} (whole before now rest : List X) (failed : E)
    → IsAdded whole before now rest → Writes whole (Err failed) before now
added_cut whole before now rest failed h = (h.front, rest, h.cut, h.here)

-- one list and then another are the two
pub writes_both : {X E : Type 0} (one two : List X) (result : Result (Unit {0}) E)
    (before now next : List X)
    → now ≡ before ++ one → Writes two result now next → Writes (one ++ two) result before next
writes_both {X} one two (Ok done) before now next h k =
    k ∙ ap (λ (x : List X). x ++ two) h ∙ append_assoc before one two
writes_both {X} one two (Err failed) before now next h (front, behind, cut, there) = (
  one ++ front,
  behind,
  ap (λ (x : List X). one ++ x) cut ∙ sym (append_assoc one front behind),
  there ∙ ap (λ (x : List X). x ++ front) h ∙ append_assoc before one front,
)

-- where the first list could not be added, a front of the two was
pub writes_one : {X E : Type 0} (one two : List X) (failed : E) (before now : List X)
    → Writes one (Err failed) before now → Writes (one ++ two) (Err failed) before now
writes_one {X} one two failed before now (front, behind, cut, there) =
    (front, behind ++ two, ap (λ (x : List X). x ++ two) cut ∙ append_assoc front behind two, there)
