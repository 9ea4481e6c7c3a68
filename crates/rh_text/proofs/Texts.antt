-- texts are read line by line, in one way
use Rattle.std.proofs.Common.{◌≡◌, ◌+◌, ◌≢◌, ℕ, suc, ◌<◌, ◌≤◌, ◌⊎◌, inl, inr, List, [], ◌∷◌, ◌++◌, length}
use Rattle.std.proofs.Common.{refl, sym, ◌∙◌, ap, subst, arith}
use Rattle.std.specs.List.{Contains}
use Rattle.std.proofs.lemmas.List.{length-append, length_push}
use Rattle.rh_text.specs.Lines.{BeginsWith, Rules, FirstLine, Leads, TextOf, IsText, FirstBad}

-- ---- the first line

-- the rest of what has no LF has none
behind_none : (x : ℕ) (xs : List ℕ) → ¬ Contains (x ∷ xs) 10 → ¬ Contains xs 10
behind_none x xs none (k, below, is) = none (suc k, omega (arith, below), is)

front_none : (x : ℕ) (xs : List ℕ) → ¬ Contains (x ∷ xs) 10 → x ≢ 10
front_none x xs none is = none (0, omega arith, is)

-- the first LF cuts in one place
one_cut : (a b : List ℕ) (rest more : List ℕ) → ¬ Contains a 10 → ¬ Contains b 10
    → a ++ 10 ∷ rest ≡ b ++ 10 ∷ more → (a ≡ b) × (rest ≡ more)
one_cut [] [] rest more na nb e = (refl, (let h = e in cc))
one_cut [] (y ∷ b) rest more na nb e = absurd (front_none y b nb (let h = e in cc))
one_cut (x ∷ a) [] rest more na nb e = absurd (front_none x a na (let h = e in cc))
one_cut (x ∷ a) (y ∷ b) rest more na nb e =
    let heads : x ≡ y = (let h = e in cc) in
    let tails : a ++ 10 ∷ rest ≡ b ++ 10 ∷ more = (let h = e in cc) in
    let same = one_cut a b rest more (behind_none x a na) (behind_none y b nb) tails in
    let fronts : a ≡ b = same.0 in
    ((cc), same.1)

-- what has an LF has it
lf_inside : (a rest : List ℕ) → Contains (a ++ 10 ∷ rest) 10
lf_inside [] rest = (0, omega arith, refl)
lf_inside (x ∷ a) rest = let h = lf_inside a rest in (suc h.0, omega (arith, h.1), h.2)

-- a text has one first line, and one rest
pub begins_same : (text a b rest more : List ℕ) → BeginsWith text a rest → BeginsWith text b more
    → (a ≡ b) × (rest ≡ more)
begins_same text a b rest more h k =
    elim h.joined as (λ _. (a ≡ b) × (rest ≡ more)) [
      | inl e ↦ elim k.joined as (λ _. (a ≡ b) × (rest ≡ more)) [
        | inl f ↦ one_cut a b rest more h.one k.one (sym e ∙ f)
        | inr f ↦ absurd (k.one (subst (λ t. Contains t 10) (sym e ∙ f.0) (lf_inside a rest)))
      ]
      | inr e ↦ elim k.joined as (λ _. (a ≡ b) × (rest ≡ more)) [
        | inl f ↦ absurd (h.one (subst (λ t. Contains t 10) (sym f ∙ e.0) (lf_inside b more)))
        | inr f ↦ (sym e.0 ∙ f.0, e.1 ∙ sym f.1)
      ]
    ]

-- ---- what rules are to keep

-- a text is one line at most at a place
abbrev pub OneLine : {P L : Type 0} → Rules P L → Type 0
OneLine {P} {L} rules =
    (place : P) (text : List ℕ) (a b : L) → rules.Spells place text a → rules.Spells place text b
    → a ≡ b

-- no line is spelled by nothing
abbrev pub NoEmpty : {P L : Type 0} → Rules P L → Type 0
NoEmpty {P} {L} rules = (place : P) (line : L) → rules.Spells place [] line → ⊥

module _ {P L : Type 0} (rules : Rules P L) where
  -- one line more
  pub Leads-push : (place : P) (lines : List L) (text : List ℕ) (next : P) (rest : List ℕ)
      (line : L) (behind : List ℕ) → Leads rules place lines text next rest
      → FirstLine rules next rest line behind
      → Leads rules place (lines ++ line ∷ []) text (rules.next next line) behind
  Leads-push place [] text next rest line behind h k = (
    behind,
    subst (λ t. FirstLine rules place t line behind) (sym h.0)
        (subst (λ p. FirstLine rules p rest line behind) (sym h.1) k),
    (refl, ap (λ p. rules.next p line) h.1),
  )
  Leads-push place (first ∷ lines) text next rest line behind h k =
      (h.0, h.1, Leads-push (rules.next place first) lines h.0 next rest line behind h.2 k)

  -- lines behind lines
  pub Leads-append : (place : P) (lines more : List L) (text : List ℕ) (next last : P)
      (rest end : List ℕ)
      → Leads rules place lines text next rest → Leads rules next more rest last end
      → Leads rules place (lines ++ more) text last end
  Leads-append place [] more text next last rest end h k =
      subst (λ t. Leads rules place more t last end) (sym h.0)
      (subst (λ p. Leads rules p more rest last end) (sym h.1) k)
  Leads-append place (first ∷ lines) more text next last rest end h k =
      (h.0, h.1, Leads-append (rules.next place first) lines more h.0 next last rest end h.2 k)

  -- a line that the text begins with is its first line
  pub first_line : (place : P) (text spelling rest : List ℕ) (line : L)
      → BeginsWith text spelling rest
      → rules.Spells place spelling line → FirstLine rules place text line rest
  first_line place text spelling rest line begins is =
      record { spelling = spelling; spelled = is; begins = begins }

  -- where the first line spells nothing, no line is first
  pub no_line : (place : P) (text spelling rest : List ℕ) → BeginsWith text spelling rest
      → ((line : L) → rules.Spells place spelling line → ⊥)
      → (line : L) (behind : List ℕ) → FirstLine rules place text line behind → ⊥
  no_line place text spelling rest begins none line behind h =
      let same = (begins_same text h.spelling spelling behind rest h.begins begins).0 in
      none line (subst (λ x. rules.Spells place x line) same h.spelled)

module _ {P L : Type 0} (rules : Rules P L) (some : NoEmpty rules) where
  some_text : (place : P) (text : List ℕ) (line : L) → rules.Spells place text line
      → 0 < length text
  some_text place [] line h = absurd (some place line h)
  some_text place (x ∷ text) line h = omega arith

  -- what stands behind the first line of a text is shorter
  pub first_shorter : (place : P) (text : List ℕ) (line : L) (behind : List ℕ)
      → FirstLine rules place text line behind → length behind < length text
  first_shorter place text line behind h =
      elim h.begins.joined as (λ _. length behind < length text) [
        | inl e ↦
            let size = ap length e in
            omega (arith, size, length-append h.spelling (10 ∷ behind))
        | inr e ↦
            let here = ap length e.0 in
            let none = ap length e.1 in
            omega (arith, here, none, some_text place h.spelling line h.spelled)
      ]

  -- nothing has no first line
  pub no_first : (place : P) (line : L) (behind : List ℕ) → FirstLine rules place [] line behind → ⊥
  no_first place line behind h =
      let shorter = first_shorter place [] line behind h in absurd (omega (arith, shorter))

module _ {P L : Type 0} (rules : Rules P L) (one : OneLine rules) where
  -- two first lines of one text are the same, and so is what stands behind
  pub one_first : (place : P) (text : List ℕ) (a b : L) (rest more : List ℕ)
      → FirstLine rules place text a rest → FirstLine rules place text b more
      → (a ≡ b) × (rest ≡ more)
  one_first place text a b rest more h k =
      let same = begins_same text h.spelling k.spelling rest more h.begins k.begins in
      let spelled = subst (λ x. rules.Spells place x a) same.0 h.spelled in
      (one place k.spelling a b spelled k.spelled, same.1)

  -- lines that go on until no line follows are the same
  pub both_stop : (place : P) (a b : List L) (text : List ℕ) (next last : P) (rest end : List ℕ)
      → Leads rules place a text next rest → Leads rules place b text last end
      → ((l : L) (behind : List ℕ) → FirstLine rules next rest l behind → ⊥)
      → ((l : L) (behind : List ℕ) → FirstLine rules last end l behind → ⊥)
      → (a ≡ b) × (rest ≡ end) × (next ≡ last)
  both_stop place [] [] text next last rest end h k none over = (refl, sym h.0 ∙ k.0, sym h.1 ∙ k.1)
  both_stop place [] (l ∷ b) text next last rest end h k none over =
      absurd (none l k.0 (subst (λ t. FirstLine rules next t l k.0) h.0
      (subst (λ p. FirstLine rules p text l k.0) h.1 k.1)))
  both_stop place (l ∷ a) [] text next last rest end h k none over =
      absurd (over l h.0 (subst (λ t. FirstLine rules last t l h.0) k.0
      (subst (λ p. FirstLine rules p text l h.0) k.1 h.1)))
  both_stop place (l ∷ a) (m ∷ b) text next last rest end h k none over =
      let same = one_first place text l m h.0 k.0 h.1 k.1 in
      let heads : l ≡ m = same.0 in
      let behind : Leads rules (rules.next place m) a k.0 next rest =
      subst (λ t. Leads rules (rules.next place m) a t next rest) same.1
      (subst (λ x. Leads rules (rules.next place x) a h.0 next rest) heads h.2) in
      let later = both_stop (rules.next place m) a b k.0 next last rest end behind k.2 none over in
      let tails : a ≡ b = later.0 in
      ((cc), later.1, later.2)

module _ {P L : Type 0} (rules : Rules P L) (one : OneLine rules) (some : NoEmpty rules) where
  -- behind the first line stand the other lines
  pub lines_behind : (place : P) (first : L) (lines : List L) (text : List ℕ) (last : P) (line : L)
      (behind : List ℕ) → Leads rules place (first ∷ lines) text last []
      → FirstLine rules place text line behind
      → (first ≡ line) × Leads rules (rules.next place line) lines behind last []
  lines_behind place first lines text last line behind h k =
      let same = one_first rules one place text first line h.0 behind h.1 k in (
        same.0,
        subst (λ r. Leads rules (rules.next place line) lines r last []) same.1
            (subst (λ x. Leads rules (rules.next place x) lines h.0 last []) same.0 h.2),
      )

  -- where nothing is left, no line is
  pub none_left : (place : P) (lines : List L) (last : P) → Leads rules place lines [] last []
      → (lines ≡ []) × (place ≡ last)
  none_left place [] last h = (refl, h.1)
  none_left place (line ∷ lines) last h = absurd (no_first rules some place line h.0 h.1)

  -- a text is that of one list of lines at most
  pub one_text_of : (text : List ℕ) (a b : List L) → TextOf rules text a → TextOf rules text b
      → a ≡ b
  one_text_of text a b h k =
      (both_stop rules one rules.first a b text h.last k.last [] [] h.read k.read
      (no_first rules some h.last) (no_first rules some k.last)).0

  -- it has one first bad line at most
  pub one_first_bad : (text : List ℕ) (n m : ℕ) → FirstBad rules text n → FirstBad rules text m
      → n ≡ m
  one_first_bad text n m h k =
      let same = both_stop rules one rules.first h.before k.before text h.place k.place h.rest
      k.rest h.read k.read h.none k.none in
      h.counted ∙ ap (λ (lines : List L). length lines + 1) same.0 ∙ sym k.counted

  -- and it is never both
  pub never_both : (text : List ℕ) (n : ℕ) → IsText rules text → FirstBad rules text n → ⊥
  never_both text n (lines, h) k =
      let same = both_stop rules one rules.first lines k.before text h.last k.place [] k.rest
      h.read k.read (no_first rules some h.last) k.none in
      elim k.here as (λ _. ⊥) [
        | inl more ↦ more (sym same.1)
        | inr going ↦ going (subst (λ p. rules.MayEnd p) same.2 h.over)
      ]

-- ---- looking for the first bad line

-- the lines before a place of the text
pub record Reads {P L : Type 0} (rules : Rules P L) (text : List ℕ) (place : P) (rest : List ℕ)
    (number : ℕ) : Type 0 where
  pub before : List L
  pub read : Leads rules rules.first before text place rest
  pub counted : number ≡ length before + 1
  pub fits : number + length rest ≤ length text + 1

module _ {P L : Type 0} (rules : Rules P L) where
  pub reads_none : (text : List ℕ) → Reads rules text rules.first text 1
  reads_none text = record {
    before = [];
    read = (refl, refl);
    counted = omega arith;
    fits = omega arith;
  }

  pub reads_more : (some : NoEmpty rules) (text : List ℕ) (place : P) (rest : List ℕ) (number : ℕ)
      (spelling behind : List ℕ) (line : L) → BeginsWith rest spelling behind
      → rules.Spells place spelling line → Reads rules text place rest number
      → Reads rules text (rules.next place line) behind (number + 1)
  reads_more some text place rest number spelling behind line begins is h =
      let first = first_line rules place rest spelling behind line begins is in
      let shorter = first_shorter rules some place rest line behind first in
      record {
        before = h.before ++ line ∷ [];
        read = Leads-push rules rules.first h.before text place rest line behind h.read first;
        counted = omega (arith, h.counted, length_push h.before line);
        fits = omega (arith, h.fits, shorter);
      }

  pub reads_all : (text : List ℕ) (place : P) (rest : List ℕ) (number : ℕ) → rest ≡ []
      → rules.MayEnd place
      → Reads rules text place rest number → IsText rules text
  reads_all text place rest number none over h = (
    h.before,
    record {
      last = place;
      read = subst (λ r. Leads rules rules.first h.before text place r) none h.read;
      over = over;
    },
  )

  pub reads_bad : (text : List ℕ) (place : P) (rest : List ℕ) (number : ℕ)
      (spelling behind : List ℕ)
      → BeginsWith rest spelling behind → ((line : L) → rules.Spells place spelling line → ⊥)
      → ((rest ≢ []) ⊎ (¬ rules.MayEnd place)) → Reads rules text place rest number
      → FirstBad rules text number
  reads_bad text place rest number spelling behind begins none here h = record {
    before = h.before;
    place = place;
    rest = rest;
    read = h.read;
    counted = h.counted;
    here = here;
    none = no_line rules place rest spelling behind begins none;
  }
