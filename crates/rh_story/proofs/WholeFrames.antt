-- whether a frame is whole, by the header of its first 16 bytes
use Rattle.std.proofs.Common.{◌≡◌, ◌≤◌, ℕ, true, List, take, length, nat_le, Some, None, refl, sym, ◌∙◌, ap, arith}
use Rattle.std.proofs.lemmas.Bool.Decides.{nat_tests}
use Rattle.std.proofs.lemmas.List.{take-take}
use Rattle.rh_pdu.specs.declared.fault.HeadFault.{HeadFault}
use Rattle.rh_pdu.specs.Header.{frag_of, head_fault}
use Rattle.rh_pdu.proofs.Headers.{frag_same, head_same}
use Rattle.rh_story.specs.Items.{frame_whole}

-- the front has the same first bytes
same_front : (held head : List ℕ) → head ≡ take 16 held → take 16 held ≡ take 16 head
same_front held head is =
    sym (ap (λ (b : List ℕ). take 16 b) is ∙ take-take 16 16 held (omega arith))

pub whole_ok : (held head : List ℕ) (frag : ℕ) → 16 ≤ length held → head ≡ take 16 held
    → head_fault head ≡ None → frag ≡ frag_of head
    → nat_le frag (length held) ≡ frame_whole held
unfolding frame_whole
whole_ok held head frag long is sound size =
    let enough : nat_le 16 (length held) ≡ true = grind (arith, nat_tests, long) in
    let same = same_front held head is in
    let none : head_fault held ≡ None = head_same held head same ∙ sound in
    let told : frag ≡ frag_of held = size ∙ sym (frag_same held head same) in
    rw (enough, none, told) refl

pub whole_bad : (held head : List ℕ) (fault : HeadFault) → 16 ≤ length held
    → head ≡ take 16 held → head_fault head ≡ Some fault → true ≡ frame_whole held
unfolding frame_whole
whole_bad held head fault long is bad =
    let enough : nat_le 16 (length held) ≡ true = grind (arith, nat_tests, long) in
    let some : head_fault held ≡ Some fault =
    head_same held head (same_front held head is) ∙ bad in
    rw (enough, some) refl
