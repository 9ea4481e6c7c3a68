-- a frame is taken at its end, and no front of it is
use Rattle.law_order.proofs.Vocabulary.{◌≡◌, ◌<◌, ◌≤◌, ℕ, Bool, true, false, if◌then◌else◌, nat_lt, List, [], ◌∷◌, ◌++◌, length, take, arith, refl, sym, ap, ◌∙◌, None, Option, nat_tests, append_assoc, length-append, take-append-le}
use Rattle.rh_shell.specs.declared.stage.Stage.TheVariants as stage
use Rattle.law_moves.proofs.Vocabulary.{by_test, frag_same, head_same, IsFrame, frag_of, head_fault, Pipe, Message, message_in, Reading, frame_read, read_by, reading}
use Rattle.law_moves.proofs.ReadBack.Taking.{TakesAt}

-- with a header that breaks no rule
abbrev Next : Type 0
Next = Reading × List Message

by_length : (pipe : Option Pipe) (all : List ℕ) (next : Next) → head_fault all ≡ None
    → (if nat_lt (length all) (frag_of all) then (reading stage.Frames all, [])
    else (reading stage.Frames [], message_in pipe all)) ≡ next
    → frame_read pipe all (head_fault all) ≡ next
by_length pipe all next head e = ap (frame_read pipe all) head ∙ e

-- a front of a frame
front_held : (pipe : Option Pipe) (frame front rest : List ℕ) → IsFrame frame
    → front ++ rest ≡ frame → 0 < length rest
    → read_by pipe stage.Frames front ≡ (reading stage.Frames front, [])
front_held pipe frame front rest is joined some =
    by_test (λ (q : Next). q ≡ (reading stage.Frames front, [])) (nat_lt (length front) 16)
    (reading stage.Frames front, []) (frame_read pipe front (head_fault front)) (λ e. refl)
    (λ e.
    let long : 16 ≤ length front = grind (arith, nat_tests) in
    let same : take 16 front ≡ take 16 frame =
    sym (take-append-le 16 front rest long) ∙ ap (take 16) joined in
    let short : nat_lt (length front) (frag_of front) ≡ true =
    grind (
      arith,
      nat_tests,
      frag_same front frame same,
      is.whole,
      ap length joined,
      length-append front rest,
    ) in
    by_length pipe front (reading stage.Frames front, []) (head_same front frame same ∙ is.head)
    (ap (λ (t : Bool). if t then (reading stage.Frames front, [])
    else (reading stage.Frames [], message_in pipe front)) short))

whole_taken : (pipe : Option Pipe) (frame : List ℕ) → IsFrame frame
    → read_by pipe stage.Frames frame ≡ (reading stage.Frames [], message_in pipe frame)
whole_taken pipe frame is =
    let long : nat_lt (length frame) 16 ≡ false = grind (arith, nat_tests, is.long) in
    let full : nat_lt (length frame) (frag_of frame) ≡ false =
    grind (arith, nat_tests, is.whole) in
    ap (λ (t : Bool). if t then (reading stage.Frames frame, [])
    else frame_read pipe frame (head_fault frame)) long
    ∙ by_length pipe frame (reading stage.Frames [], message_in pipe frame) is.head
    (ap (λ (t : Bool). if t then (reading stage.Frames frame, [])
    else (reading stage.Frames [], message_in pipe frame)) full)

pub frame_taken : (pipe : Option Pipe) (frame : List ℕ) (out : List Message) → IsFrame frame
    → message_in pipe frame ≡ out → TakesAt pipe stage.Frames frame out
frame_taken pipe frame out is e = record {
  some = omega (arith, is.long);
  front = λ a c x joined some.
      front_held pipe frame (a ++ x ∷ []) c is (append_assoc a (x ∷ []) c ∙ joined) some;
  whole = whole_taken pipe frame is
      ∙ ap (λ (ms : List Message). (reading stage.Frames [], ms)) e;
}
