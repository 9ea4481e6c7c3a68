-- words that make a recording are in no other form
use Rattle.std.proofs.Common.{◌≡◌, ◌≢◌, ◌⊎◌, ℕ, List, [], length, get_or, refl, sym, ◌∙◌, ap, inl, inr, arith}
use Rattle.std.proofs.lemmas.Fmt.{decimal_injective}
use Rattle.std.specs.declared.string.String.{String}
use Rattle.std.specs.Global.{Global}
use Rattle.rh_words.specs.declared.form.Form.{Form}
use Rattle.rh_words.specs.declared.form.Form.TheVariants.{Replay, Story, HexStory, Show, Name, Play, Capture, Audit, Make, Help, Version}
use Rattle.rh_words.specs.declared.status.Status.{Status}
use Rattle.rh_words.specs.declared.status.Status.TheVariants.{Done, Usage, BadInput, ReadFault, WriteFault, NoMemory, TooLong}
use Rattle.rh_words.specs.Forms.{IsForm, form_words}

-- two forms have the same words
two : (a b : Form) (words : List (String Global)) → IsForm a words → IsForm b words
    → form_words a ≡ form_words b
two a b words h k = sym h.0 ∙ k.0

pub only_make : (form : Form) (count : ℕ) (words : List (String Global)) → IsForm form words
    → IsForm (Make count) words → form ≡ Make count
only_make Replay count words h k =
    absurd (let e = ap length (two Replay (Make count) words h k) in cc)
only_make Story count words h k =
    absurd (let e = ap length (two Story (Make count) words h k) in cc)
only_make HexStory count words h k =
    absurd (let e = ap (λ (x : List (List ℕ)). length (get_or x 0 []))
    (two HexStory (Make count) words h k) in cc)
only_make Show count words h k =
    absurd (let e = ap length (two Show (Make count) words h k) in cc)
only_make Name count words h k =
    absurd (let e = ap length (two Name (Make count) words h k) in cc)
only_make Play count words h k =
    absurd (let e = ap length (two Play (Make count) words h k) in cc)
only_make Capture count words h k =
    absurd (let e = ap length (two Capture (Make count) words h k) in cc)
only_make Audit count words h k =
    absurd (let e = ap length (two Audit (Make count) words h k) in cc)
only_make (Make other) count words h k =
    ap Make (decimal_injective other count (omega (arith, h.1.1)) (omega (arith, k.1.1))
    (ap (λ (x : List (List ℕ)). get_or x 1 []) (two (Make other) (Make count) words h k)))
only_make Help count words h k =
    absurd (let e = ap length (two Help (Make count) words h k) in cc)
only_make Version count words h k =
    absurd (let e = ap length (two Version (Make count) words h k) in cc)

-- there was no memory, or something else came
pub by_memory : (status : Status) (A B : Type 0) → (status ≢ NoMemory → B)
    → (status ≡ NoMemory → A) → ((status ≡ NoMemory) × A) ⊎ B
by_memory Done A B other none = inr (other (λ e. absurd (cc)))
by_memory Usage A B other none = inr (other (λ e. absurd (cc)))
by_memory (BadInput line) A B other none = inr (other (λ e. absurd (cc)))
by_memory ReadFault A B other none = inr (other (λ e. absurd (cc)))
by_memory WriteFault A B other none = inr (other (λ e. absurd (cc)))
by_memory NoMemory A B other none = inl (refl, none refl)
by_memory TooLong A B other none = inr (other (λ e. absurd (cc)))
