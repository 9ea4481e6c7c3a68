-- the test for a whole frame at the front, and frames at the front
use Rattle.std.proofs.Common.{◌≡◌, ℕ, ◌≤◌, List, ◌++◌, take, drop, length, Bool, true, false, nat_le, ◌&&◌}
use Rattle.std.proofs.Common.{Some, None, arith, sym, ◌∙◌, ap, subst, refl}
use Rattle.std.proofs.lemmas.List.{length-append, length-take-le, take-take, take_at, drop_at}
use Rattle.std.proofs.lemmas.Bool.Decides.{nat_tests}
use Rattle.std.specs.declared.option.Option.{Option}
use Rattle.rh_pdu.specs.declared.fault.HeadFault.{HeadFault}
use Rattle.rh_pdu.specs.Header.{frag_of, head_fault}
use Rattle.rh_pdu.specs.Frames.{IsFrame}
use Rattle.rh_pdu.specs.Cut.{is_sound, begins_whole}
use Rattle.rh_pdu.proofs.Headers.{frag_bounds, head_same, frag_same}

-- the header at the front breaks no rule, and all bytes that it says are there
pub record BeginsWhole (b : List ℕ) : Type 0 where
  pub long : 16 ≤ length b
  pub head : head_fault b ≡ None
  pub whole : frag_of b ≤ length b

-- so the test finds it
pub whole_found : (b : List ℕ) → BeginsWhole b → begins_whole b ≡ true
unfolding begins_whole
whole_found b h =
    let long = h.long in
    let head = h.head in
    let whole = h.whole in
    rw head (grind (arith, nat_tests))

sound_none : (o : Option HeadFault) → is_sound o ≡ true → o ≡ None
sound_none None h = refl
sound_none (Some f) h = absurd (cc)

and_true : (a b c : Bool) → (a && (b && c)) ≡ true → (a ≡ true) × (b ≡ true) × (c ≡ true)
and_true true true true h = (refl, refl, refl)
and_true true true false h = absurd (cc)
and_true true false c h = absurd (cc)
and_true false b c h = absurd (cc)

-- and finds nothing else
pub found_whole : (b : List ℕ) → begins_whole b ≡ true → BeginsWhole b
unfolding begins_whole
found_whole b h =
    let is =
    and_true (nat_le 16 (length b)) (is_sound (head_fault b)) (nat_le (frag_of b) (length b)) h in
    record {
      long = grind (arith, nat_tests, is.0);
      head = sound_none (head_fault b) is.1;
      whole = grind (arith, nat_tests, is.2);
    }

-- ---- frames

-- what a header says is a frame, where it breaks no rule and all is there
pub front_is_frame : (b : List ℕ) → BeginsWhole b → IsFrame (take (frag_of b) b)
front_is_frame b h =
    let bounds = frag_bounds b h.head in
    let size = length-take-le (frag_of b) b h.whole in
    let front = take-take 16 (frag_of b) b bounds.0 in
    record {
      long = omega arith;
      head = head_same (take (frag_of b) b) b front ∙ h.head;
      whole = size ∙ sym (frag_same (take (frag_of b) b) b front);
    }

-- and a front that is a frame is what the header says
pub frame_at : (k : ℕ) (b : List ℕ) → k ≤ length b → IsFrame (take k b)
    → BeginsWhole b × (frag_of b ≡ k)
frame_at k b fits frame =
    let size = length-take-le k b fits in
    let long : 16 ≤ k = omega (arith, frame.long) in
    let front = take-take 16 k b long in
    let frag : frag_of b ≡ k = sym (frag_same (take k b) b front) ∙ sym frame.whole ∙ size in (
      record {
        long = omega arith;
        head = sym (head_same (take k b) b front) ∙ frame.head;
        whole = omega arith;
      },
      frag,
    )

-- a frame, and what is behind it
pub record StandsFirst (b f x : List ℕ) : Type 0 where
  pub begins : BeginsWhole b
  pub first : take (frag_of b) b ≡ f
  pub behind : drop (frag_of b) b ≡ x

pub stands_first : (b f x : List ℕ) → IsFrame f → b ≡ f ++ x → StandsFirst b f x
stands_first b f x h joined =
    let fits : length f ≤ length b = omega (arith, ap length joined, length-append f x) in
    let first : take (length f) b ≡ f = ap (take (length f)) joined ∙ take_at f x (length f) refl in
    let is = frame_at (length f) b fits (subst IsFrame (sym first) h) in
    record {
      begins = is.0;
      first = ap (λ n. take n b) is.1 ∙ first;
      behind = ap (λ n. drop n b) is.1 ∙ ap (drop (length f)) joined ∙ drop_at f x (length f) refl;
    }
