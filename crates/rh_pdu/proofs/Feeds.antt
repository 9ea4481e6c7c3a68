-- what was put, in the words of the framing
use Rattle.std.proofs.Common.{◌≡◌, ℕ, ◌+◌, ◌-◌, ◌≤◌, ◌<◌, List, [], ◌++◌, take, length, true, false, nat_lt, Some, None}
use Rattle.std.proofs.Common.{arith, sym, ◌∙◌, ap, refl, subst}
use Rattle.std.proofs.lemmas.List.{length-append, length-take-le, take-append-le, take-take, take_all}
use Rattle.std.proofs.lemmas.Bool.Decides.{nat_tests}
use Rattle.std.specs.declared.option.Option.{Option}
use Rattle.rh_pdu.specs.declared.fault.HeadFault.{HeadFault}
use Rattle.rh_pdu.specs.declared.feed.Put.TheVariants.{Whole}
use Rattle.rh_pdu.specs.Header.{frag_of, head_fault}
use Rattle.rh_pdu.specs.Frames.{IsFrame, IsUnfinished}
use Rattle.rh_pdu.specs.Feeding.{FramerState, capped, IsSoundBy, FedFrame, FedFault}
use Rattle.rh_pdu.specs.Filling.{Holds}
use Rattle.rh_pdu.proofs.Headers.{frag_bounds, head_same, frag_same}
use Rattle.rh_pdu.proofs.Cuts.{BeginsWhole, front_is_frame}
use Rattle.rh_pdu.proofs.Puts.{front_of}

-- a fault that was told before is told again
pub fault_stays : (s : FramerState) (rest piece lent : List ℕ) (place : ℕ) (o : Option HeadFault)
    (f : HeadFault)
    → record { rest = rest; frame = lent; place = place; fault = o } ≡ s → o ≡ Some f
    → IsSoundBy rest o
    → FedFault s (record { rest = rest; frame = []; place = place; fault = o }) (s.rest ++ piece)
    place f
fault_stays s rest piece lent place o f is was =
    let with : Option HeadFault → List ℕ → List ℕ → FramerState =
    λ o r lent. record { rest = r; frame = lent; place = place; fault = o } in
    subst (λ s. IsSoundBy rest o → FedFault s (with o rest []) (s.rest ++ piece) place f) is
    (subst
    (λ o. IsSoundBy rest o → FedFault (with o rest lent) (with o rest []) (rest ++ piece) place f)
    (sym was)
    (λ sound.
    let long : 16 ≤ length rest = omega (arith, sound.0) in
    let front = take-append-le 16 rest piece long in
    record {
      long = omega (arith, length-append rest piece);
      head = head_same (rest ++ piece) rest front ∙ sound.1;
      place = refl;
      after =
          ap (λ r. with (Some f) r []) (sym (front ∙ take_all 16 rest (omega (arith, sound.0))));
    }))

-- the header alone is held of a stream whose header breaks a rule
pub header_kept : (all buf : List ℕ) (f : HeadFault) → 16 ≤ length all → take 16 buf ≡ take 16 all
    → head_fault all ≡ Some f → (length (take 16 buf) ≡ 16) × (head_fault (take 16 buf) ≡ Some f)
header_kept all buf f long front head = (
  ap length front ∙ length-take-le 16 all long,
  head_same (take 16 buf) all (take-take 16 16 buf (omega arith) ∙ front) ∙ head,
)

-- what is held is less than the frame at the front
pub rest_below : (rest piece : List ℕ) → IsUnfinished rest → head_fault (rest ++ piece) ≡ None
    → length rest < frag_of (rest ++ piece)
rest_below rest piece unfinished head =
    let all = rest ++ piece in
    let bounds = frag_bounds all head in
    let short = nat_lt (length rest) 16 in
    elim short as (λ t. short ≡ t → length rest < frag_of all) [
      | false ↦ λ e.
          let long : 16 ≤ length rest = grind (arith, nat_tests) in
          let known = unfinished long in
          let same = frag_same all rest (take-append-le 16 rest piece long) in
          omega arith
      | true ↦ λ e. let below : length rest < 16 = grind (arith, nat_tests) in omega arith
    ] refl

-- so that it is held in front of a whole frame
pub held_below : (held frag : ℕ) (buf piece new : List ℕ) → length buf ≡ 8192 → held ≤ 8192
    → IsUnfinished (take held buf) → Holds (Whole frag) (take held buf ++ piece) new → held < frag
held_below held frag buf piece new size fits unfinished h =
    let below = rest_below (take held buf) piece unfinished h.4 in
    let count : length (take held buf) ≡ held = length-take-le held buf (omega arith) in
    omega (arith, h.5)

-- the first frame is lent
pub frame_lent : (s : FramerState) (held frag place next : ℕ) (buf piece new lent : List ℕ)
    (o : Option HeadFault)
    → record { rest = take held buf; frame = lent; place = place; fault = o } ≡ s → o ≡ None
    → length buf ≡ 8192
    → held ≤ 8192 → IsSoundBy (take held buf) o → Holds (Whole frag) (take held buf ++ piece) new
    → next ≡ capped (place + frag)
    → FedFrame s (record { rest = []; frame = take frag new; place = next; fault = o }) piece
    (frag - held) frag
frame_lent s held frag place next buf piece new lent o is_view going size fits sound h is_next =
    let rest = take held buf in
    let all = rest ++ piece in
    let unfinished = subst (IsSoundBy rest) going sound in
    let below = held_below held frag buf piece new size fits unfinished h in
    let count : length rest ≡ held = length-take-le held buf (omega arith) in
    let is : take frag new ≡ take (frag_of all) all = h.3 ∙ ap (λ n. take n all) h.5 in
    let begins : BeginsWhole all =
    record { long = omega (arith, h.0, h.1); head = h.4; whole = omega (arith, h.1, h.5) } in
    let after : ℕ → Option HeadFault → FramerState =
    λ n o. record { rest = []; frame = take frag new; place = n; fault = o } in
    subst (λ s. FedFrame s (after next o) piece (frag - held) frag) is_view
    (record {
      was = going;
      frame = subst IsFrame (sym is) (front_is_frame all begins);
      bytes = h.3 ∙ front_of frag rest piece (omega arith)
          ∙ ap (λ n. rest ++ take (frag - n) piece) count;
      size = sym (ap length h.3 ∙ length-take-le frag all h.1);
      some = omega arith;
      within = omega (arith, h.1, length-append rest piece);
      after = ap (λ n. after n o) is_next ∙ ap (after (capped (place + frag))) going;
    })
