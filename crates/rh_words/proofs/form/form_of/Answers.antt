-- one word is in the form that it names, and two are where a number of PDUs is named
use Rattle.std.proofs.Common.{◌≡◌, ◌≢◌, ◌<◌, ◌≤◌, List, [], ◌∷◌, Some, None, length, get_or, string_bytes, ap, sym, ◌∙◌, arith}
use Rattle.std.specs.declared.option.Option.{Option}
use Rattle.std.specs.declared.string.String.{String}
use Rattle.std.specs.Global.{Global}
use Rattle.std.specs.Option.{MatchOption}
use Rattle.rh_words.specs.declared.form.Form.{Form}
use Rattle.rh_words.specs.Forms.{IsForm, IsMade, form_words}
use Rattle.rh_words.proofs.form.form_of.Goals as goal

-- the words are the first of them alone
alone : (words : List (String Global)) (word : String Global) → 1 ≤ length words → length words < 2
    → word ≡ get_or words 0 word → words ≡ word ∷ []
alone [] word some few is = absurd (omega (arith, some))
alone (w ∷ []) word some few is = ap (λ (v : String Global). v ∷ []) (sym is)
alone (w ∷ v ∷ words) word some few is = absurd (omega (arith, few))

one_word : (found : Option Form) (word : String Global)
    → MatchOption found ((form : Form) → string_bytes word ∷ [] ≢ form_words form)
    (λ form. (string_bytes word ∷ [] ≡ form_words form) × IsMade form)
    → MatchOption found ((form : Form) → ¬ IsForm form (word ∷ []))
    (λ form. IsForm form (word ∷ []))
one_word None word h = λ form is. h form is.0
one_word (Some form) word h = h

pub returns-in-len1 : goal.returns-in-len1
returns-in-len1 c =
    let word = c.word-item.result in
    let words = alone c.args.words.now word c.in-len1.len_at_least c.in-len1.len_below
    c.word-item.is in
    rw words (one_word c.form_of_word.result word
    (rw c.as_str.ensures.value at c.form_of_word.ensures))

-- ---- two words

two : (words : List (String Global)) (word number : String Global) → 2 ≤ length words
    → length words < 3 → word ≡ get_or words 0 word → number ≡ get_or words 1 number
    → words ≡ word ∷ number ∷ []
two [] word number some few is then = absurd (omega (arith, some))
two (w ∷ []) word number some few is then = absurd (omega (arith, some))
two (w ∷ v ∷ []) word number some few is then =
    ap (λ (x : String Global). x ∷ v ∷ []) (sym is)
    ∙ ap (λ (x : String Global). word ∷ x ∷ []) (sym then)
two (w ∷ v ∷ u ∷ words) word number some few is then = absurd (omega (arith, few))

two_words : (found : Option Form) (word number : String Global)
    → MatchOption found ((form : Form)
    → string_bytes word ∷ string_bytes number ∷ [] ≡ form_words form → ¬ IsMade form)
    (λ form. (string_bytes word ∷ string_bytes number ∷ [] ≡ form_words form) × IsMade form)
    → MatchOption found ((form : Form) → ¬ IsForm form (word ∷ number ∷ []))
    (λ form. IsForm form (word ∷ number ∷ []))
two_words None word number h = λ form is. h form is.0 is.1
two_words (Some form) word number h = h

pub returns-in-len2 : goal.returns-in-len2
returns-in-len2 c =
    let word = c.word-item-then-words-lt3.result in
    let number = c.number-item.result in
    let words = two c.args.words.now word number c.in-len2.len_at_least c.in-len2.len_below
    c.word-item-then-words-lt3.is c.number-item.is in
    rw words (two_words c.form_of_words.result word number
    (rw (c.as_str-in-len2.ensures.value, c.as_str-in-len2-2.ensures.value)
    at c.form_of_words.ensures))
