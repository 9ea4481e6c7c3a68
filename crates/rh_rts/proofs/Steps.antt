-- one command further, and what is found behind the last
use Rattle.std.proofs.Common.{◌≡◌, ℕ, zero, suc, ◌+◌, ◌-◌, ◌<◌, ◌≤◌, List, [], length, drop, refl}
use Rattle.std.proofs.Common.{ap, ◌∙◌, arith, true, false}
use Rattle.std.specs.Prelude.{Some, None, Ok, Err, ◌==◌, ◌≢◌, if◌then◌else◌, MatchResult}
use Rattle.std.specs.declared.result.Result.{Result}
use Rattle.std.proofs.lemmas.Bool.{eq-eqb, ne_eqb}
use Rattle.std.proofs.lemmas.List.{length-drop, nil_from_length}
use Rattle.rh_rts.specs.declared.fault.RtsFault.{RtsFault}
use Rattle.rh_rts.specs.declared.fault.RtsKind.TheVariants.{Left}
use Rattle.rh_rts.specs.Refusals.{fault, command_fault, BodyFault}
use Rattle.rh_rts.specs.Listing.{length_of, listed, AreAll}
use Rattle.rh_rts.specs.Commands.{IsBytes}
use Rattle.rh_rts.specs.Reading.{body_fault}
use Rattle.rh_rts.proofs.Bodies.{all_listed, first_found}

-- behind so many whole commands of the body, the rest stands
abbrev pub Reaches : ℕ → ℕ → ℕ → List ℕ → List ℕ → Type 0
Reaches total count i body rest =
    (body_fault total count body ≡ body_fault total (count - i) rest) × (length rest ≤ length body)

pub body_step : (total count i : ℕ) (body rest after : List ℕ) → i < count
    → command_fault (total - length rest) rest ≡ None → after ≡ drop (length_of rest) rest
    → Reaches total count i body rest → Reaches total count (i + 1) body after
body_step total count i body rest after below fine next h =
    let k : count - i ≡ suc (count - (i + 1)) = omega (arith, below) in
    let one : body_fault total (count - i) rest ≡ body_fault total (count - (i + 1)) after =
    rw (k, fine, next) refl in
    (h.0 ∙ one, rw next (omega (arith, length-drop (length_of rest) rest, h.1)))

pub body_wrong : (total count i : ℕ) (body rest : List ℕ) (wrong : RtsFault) → i < count
    → command_fault (total - length rest) rest ≡ Some wrong → Reaches total count i body rest
    → body_fault total count body ≡ Some wrong
body_wrong total count i body rest wrong below is h =
    let k : count - i ≡ suc (count - (i + 1)) = omega (arith, below) in
    let one : body_fault total (count - i) rest ≡ Some wrong = rw (k, is) refl in
    h.0 ∙ one

body_over : (total count i : ℕ) (body rest : List ℕ) → count ≤ i → Reaches total count i body rest
    → body_fault total count body ≡
    (if length rest == 0 then None else fault (total - length rest) Left)
body_over total count i body rest over h =
    let k : count - i ≡ zero = omega (arith, over) in
    let one : body_fault total (count - i) rest
    ≡ (if length rest == 0 then None else fault (total - length rest) Left) =
    rw k refl in
    h.0 ∙ one

-- what is found behind the last command is what is found in the body
pub body_judged : (total count i : ℕ) (body rest : List ℕ) (r : Result (Unit {0}) RtsFault)
    → IsBytes body → count ≤ i
    → Reaches total count i body rest
    → MatchResult r (λ _. rest ≡ [])
    (λ wrong. (rest ≢ []) × (fault (total - length rest) Left ≡ Some wrong))
    → MatchResult r (λ _. AreAll count (listed count body) body)
    (λ wrong. BodyFault total count body wrong)
body_judged total count i body rest (Ok done) fits over h none =
    let nothing : (length rest == 0) ≡ true = eq-eqb _ _ (ap (λ (x : List ℕ). length x) none) in
    all_listed total count body fits (body_over total count i body rest over h ∙ rw nothing refl)
body_judged total count i body rest (Err wrong) fits over h left =
    let something : (length rest == 0) ≡ false =
    ne_eqb _ _ (λ e. left.0 (nil_from_length rest e)) in
    first_found total count body wrong fits
    (body_over total count i body rest over h ∙ rw something left.1)
