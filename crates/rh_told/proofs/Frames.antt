-- whether a frame stands at the front, told by the sixteen bytes of the header
use Rattle.std.proofs.Common.{◌≡◌, ◌≤◌, ◌<◌, ℕ, List, [], ◌∷◌, take, drop, length, Some, None, sym, ◌∙◌, ap, subst, arith}
use Rattle.std.proofs.lemmas.List.{take-append-drop, take-take}
use Rattle.rh_pdu.specs.declared.fault.HeadFault.{HeadFault}
use Rattle.rh_pdu.specs.Header.{frag_of, head_fault}
use Rattle.rh_pdu.specs.Cut.{frames_of}
use Rattle.rh_pdu.proofs.Headers.{frag_bounds, frag_same, head_same}
use Rattle.rh_pdu.proofs.Cuts.{BeginsWhole, front_is_frame}
use Rattle.rh_pdu.proofs.Framing.{cut_is, framed_none, frames_behind}

-- ---- none does

none_whole : (b : List ℕ) → ¬ BeginsWhole b → frames_of b ≡ []
none_whole b none = (cut_is [] b b (framed_none b none)).0

pub none_short : (b : List ℕ) → length b < 16 → frames_of b ≡ []
none_short b few =
    none_whole b (λ whole. let long = whole.long in absurd (omega (arith, few, long)))

same_front : (b head : List ℕ) → head ≡ take 16 b → take 16 head ≡ take 16 b
same_front b head is = ap (λ (x : List ℕ). take 16 x) is ∙ take-take 16 16 b (omega arith)

pub none_faulty : (b head : List ℕ) (fault : HeadFault) → head ≡ take 16 b
    → head_fault head ≡ Some fault → frames_of b ≡ []
none_faulty b head fault is wrong =
    let same = head_same head b (same_front b head is) in
    none_whole b (λ whole. let both : None ≡ Some fault = sym whole.head ∙ sym same ∙ wrong in
    absurd (cc))

pub none_cut_short : (b head : List ℕ) (len : ℕ) → head ≡ take 16 b → len ≡ frag_of head
    → length b < len → frames_of b ≡ []
none_cut_short b head len is frag few =
    let same = frag ∙ frag_same head b (same_front b head is) in
    none_whole b (λ whole. let all = whole.whole in absurd (omega (arith, few, all, same)))

-- ---- one does

pub some_bytes : (head : List ℕ) (len : ℕ) → head_fault head ≡ None → len ≡ frag_of head → 16 ≤ len
some_bytes head len fine frag = let bounds = frag_bounds head fine in omega (arith, bounds.0, frag)

pub one_first : (b head : List ℕ) (len : ℕ) → head ≡ take 16 b → 16 ≤ length b
    → head_fault head ≡ None → len ≡ frag_of head → len ≤ length b
    → frames_of b ≡ take len b ∷ frames_of (drop len b)
one_first b head len is long fine frag all =
    let front = same_front b head is in
    let same : frag_of b ≡ len = sym (frag_same head b front) ∙ sym frag in
    let whole : BeginsWhole b = record {
      long = long;
      head = sym (head_same head b front) ∙ fine;
      whole = omega (arith, all, same);
    } in
    subst (λ (n : ℕ). frames_of b ≡ take n b ∷ frames_of (drop n b)) same
    (ap (λ (x : List ℕ). frames_of x) (sym (take-append-drop (frag_of b) b))
    ∙ (frames_behind (take (frag_of b) b) (drop (frag_of b) b) (front_is_frame b whole)).0)
