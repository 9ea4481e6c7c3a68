-- what makes no line of a capture
use Rattle.std.proofs.Common.{◌≡◌, ℕ, List, codes, refl, subst}
use Rattle.rh_text.specs.Digits.{IsHex}
use Rattle.rh_sig.specs.declared.name.Pipe.{Pipe}
use Rattle.rh_record.specs.Words.{Is, Then, Word, most_bytes}
use Rattle.rh_record.specs.WordLaws.{behind}
use Rattle.rh_audit.specs.declared.seen.Seen.{Seen}
use Rattle.rh_audit.specs.Pipes.{IsPipe}
use Rattle.rh_audit.specs.Lines.{IsTag, SeenText}

-- what stands behind the verb
abbrev pub Behind : Seen → List ℕ → Type 0
Behind seen =
    Then (IsTag seen.tag) (Then (IsPipe seen.pipe) (λ last. IsHex most_bytes last seen.bytes))

pub no_verb : (text : List ℕ) → ((rest : List ℕ) → Word (codes "seen") (Is rest) text → ⊥)
    → (seen : Seen) → SeenText seen text → ⊥
no_verb text none seen h = none h.1 (h.0, h.1, h.2, h.3, refl)

pub behind_verb : (text words : List ℕ) → Word (codes "seen") (Is words) text
    → (seen : Seen) → SeenText seen text → Behind seen words
behind_verb text words found seen h =
    subst (Behind seen) found.4 (behind text found.0 found.1 found.2 h).1

pub no_leg : (words : List ℕ)
    → ((tag : ℕ) (pipe : Pipe) (last : List ℕ)
    → Then (IsTag tag) (Then (IsPipe pipe) (Is last)) words → ⊥)
    → (seen : Seen) → Behind seen words → ⊥
no_leg words none seen h =
    let rest = h.4 in
    none seen.tag seen.pipe rest.1
    (h.0, h.1, h.2, h.3, (rest.0, rest.1, rest.2, rest.3, refl))

pub digits_of : (words hex : List ℕ) (tag : ℕ) (pipe : Pipe)
    → Then (IsTag tag) (Then (IsPipe pipe) (Is hex)) words
    → (seen : Seen) → Behind seen words → IsHex most_bytes hex seen.bytes
digits_of words hex tag pipe found seen h =
    let more = (behind words found.0 found.1 found.2 h).1 in
    let last = found.4 in
    subst (λ x. IsHex most_bytes x seen.bytes) last.4
    (behind found.1 last.0 last.1 last.2 more).1
