-- a text spells one value of each kind of word at most
use Rattle.std.proofs.Common.{◌≡◌, ◌≢◌, ◌+◌, ◌*◌, ◌^◌, ℕ, suc, ◌<◌, List, [], ◌∷◌, ◌++◌, length, get_or, slice_index, codes, Some, None, refl, sym, ◌∙◌, ap, subst, arith}
use Rattle.std.specs.List.{Contains}
use Rattle.std.proofs.lemmas.Fmt.{decimal_injective}
use Rattle.hex.proofs.HexLemmas.{decode_of-same}
use Rattle.rh_text.specs.declared.ends.Side.{Side}
use Rattle.rh_text.specs.declared.ends.Side.TheVariants.{Client, Server}
use Rattle.rh_text.specs.declared.ends.Dir.{Dir}
use Rattle.rh_text.specs.declared.ends.Dir.TheVariants.{U, D}
use Rattle.rh_text.specs.Ends.{side_word, dir_word}
use Rattle.rh_text.specs.Digits.{IsHex}
use Rattle.rh_text.specs.Numbers.{IsNumber}
use Rattle.std.specs.declared.option.Option.{Option}
use Rattle.std.specs.Fmt.{decimal}
use Rattle.std.proofs.lemmas.List.{append_cancel_left}
use Rattle.rh_line.specs.declared.leg.Leg.{Leg}
use Rattle.rh_line.specs.declared.leg.LegKind.{LegKind}
use Rattle.rh_line.specs.declared.leg.LegKind.TheVariants.{ClientOut, OutServer, ClientIn, InServer}
use Rattle.rh_line.specs.Texts.{letters_of}
use Rattle.rh_record.specs.Words.{Cut, Then, IsLeg, IsRoute, key_word}
use Rattle.rh_record.specs.declared.words.TheConstants.{BLANK}
use Rattle.rh_record.specs.declared.line.Key.{Key}
use Rattle.rh_record.specs.declared.line.Key.TheVariants.{Cwin, Iwin, Owin, Swin, Ilife, Olife, Itime, Otime, Keep, Same}

-- ---- the first blank

behind_none : (x : ℕ) (xs : List ℕ) → ¬ Contains (x ∷ xs) BLANK → ¬ Contains xs BLANK
behind_none x xs none (k, below, is) = none (suc k, omega (arith, below), is)

front_none : (x : ℕ) (xs : List ℕ) → ¬ Contains (x ∷ xs) BLANK → x ≢ BLANK
front_none x xs none is = none (0, omega arith, is)

one_blank : (a b : List ℕ) (rest more : List ℕ) → ¬ Contains a BLANK → ¬ Contains b BLANK
    → a ++ BLANK ∷ rest ≡ b ++ BLANK ∷ more → (a ≡ b) × (rest ≡ more)
one_blank [] [] rest more na nb e = (refl, (let h = e in cc))
one_blank [] (y ∷ b) rest more na nb e = absurd (front_none y b nb (let h = e in cc))
one_blank (x ∷ a) [] rest more na nb e = absurd (front_none x a na (let h = e in cc))
one_blank (x ∷ a) (y ∷ b) rest more na nb e =
    let heads : x ≡ y = (let h = e in cc) in
    let tails : a ++ BLANK ∷ rest ≡ b ++ BLANK ∷ more = (let h = e in cc) in
    let same = one_blank a b rest more (behind_none x a na) (behind_none y b nb) tails in
    let fronts : a ≡ b = same.0 in
    ((cc), same.1)

-- a text begins with one word, and has one rest
pub one_cut : (text word rest other more : List ℕ) → Cut text word rest → Cut text other more
    → (word ≡ other) × (rest ≡ more)
one_cut text word rest other more h k = one_blank word other rest more h.one k.one
    (sym h.joined ∙ k.joined)

-- ---- each kind of word

pub one_side : (word : List ℕ) (a b : Side) → word ≡ side_word a → word ≡ side_word b → a ≡ b
one_side word Client Client h k = refl
one_side word Server Server h k = refl
one_side word _ _ h k = absurd (omega (arith, ap (λ (w : List ℕ). get_or w 0 0) (sym h ∙ k)))

pub one_dir : (word : List ℕ) (a b : Dir) → word ≡ dir_word a → word ≡ dir_word b → a ≡ b
one_dir word U U h k = refl
one_dir word D D h k = refl
one_dir word _ _ h k = absurd (omega (arith, ap (λ (w : List ℕ). get_or w 0 0) (sym h ∙ k)))

-- the first two letters of a key's word tell it
abbrev two_letters : List ℕ → ℕ
two_letters word = get_or word 0 0 * 256 + get_or word 1 0

pub one_key : (word : List ℕ) (a b : Key) → word ≡ key_word a → word ≡ key_word b → a ≡ b
one_key word Cwin Cwin h k = refl
one_key word Iwin Iwin h k = refl
one_key word Owin Owin h k = refl
one_key word Swin Swin h k = refl
one_key word Ilife Ilife h k = refl
one_key word Olife Olife h k = refl
one_key word Itime Itime h k = refl
one_key word Otime Otime h k = refl
one_key word Keep Keep h k = refl
one_key word Same Same h k = refl
one_key word _ _ h k = absurd (omega (arith, ap two_letters (sym h ∙ k)))

-- ---- words in a row

-- the blank stands behind the word
blank_at : (word rest : List ℕ) → (length word < length (word ++ BLANK ∷ rest))
    × (slice_index (word ++ BLANK ∷ rest) (length word) ≡ BLANK)
blank_at [] rest = (omega arith, refl)
blank_at (x ∷ word) rest = let h = blank_at word rest in (omega (arith, h.0), h.1)

pub cut_blank : (text word rest : List ℕ) → Cut text word rest
    → (length word < length text) × (slice_index text (length word) ≡ BLANK)
cut_blank text word rest cut =
    subst (λ t. (length word < length t) × (slice_index t (length word) ≡ BLANK)) (sym cut.joined)
    (blank_at word rest)

-- two readings of one text by words begin with the same word, and go on with the same text
pub both : {Here Behind There After : List ℕ → Type 0} (text : List ℕ) → Then Here Behind text
    → Then There After text
    → (word : List ℕ) × (rest : List ℕ) × (Here word × There word) × (Behind rest × After rest)
both {There = There} {After = After} text (word, rest, cut, here, behind)
    (other, more, also, there, after) =
    let same = one_cut text other more word rest also cut in
    (word, rest, (here, subst There same.0 there), (behind, subst After same.1 after))

-- behind a word stands what the text says there
pub behind : {Here Behind : List ℕ → Type 0} (text word rest : List ℕ) → Cut text word rest
    → Then Here Behind text
    → Here word × Behind rest
behind {Here} {Behind} text word rest cut (other, more, also, here, there) =
    let same = one_cut text other more word rest also cut in
    (subst Here same.0 here, subst Behind same.1 there)

-- ---- numbers, legs and bytes

pub one_number : (lowest greatest : ℕ) (word : List ℕ) (a b : ℕ) → greatest < 2 ^ 64
    → IsNumber lowest greatest word a → IsNumber lowest greatest word b → a ≡ b
one_number lowest greatest word a b within h k =
    decimal_injective a b (omega (arith, within, h.most)) (omega (arith, within, k.most))
    (sym h.digits ∙ k.digits)

pub one_hex : (most : ℕ) (word a b : List ℕ) → IsHex most word a → IsHex most word b → a ≡ b
one_hex most word a b h k = decode_of-same word a b h.digits k.digits

-- the letters of a leg's kind, before its number
one_kind : (a b : LegKind) (m n : List ℕ) → letters_of a ++ m ≡ letters_of b ++ n → a ≡ b
one_kind ClientOut ClientOut m n e = refl
one_kind OutServer OutServer m n e = refl
one_kind ClientIn ClientIn m n e = refl
one_kind InServer InServer m n e = refl
one_kind _ _ m n e = absurd (omega (arith, ap two_letters e))

abbrev make_leg : LegKind → ℕ → Leg
make_leg kind number = record { kind = kind; number = number }

pub one_leg : (word : List ℕ) (a b : Leg) → IsLeg a word → IsLeg b word → a ≡ b
one_leg word a b h k =
    let same = sym h.spelled ∙ k.spelled in
    let kinds : a.kind ≡ b.kind = one_kind a.kind b.kind (decimal a.number)
    (decimal b.number) same in
    let digits = append_cancel_left (letters_of a.kind) (decimal a.number) (decimal b.number)
    (same ∙ ap (λ (kind : LegKind). letters_of kind ++ decimal b.number) (sym kinds)) in
    let numbers : a.number ≡ b.number =
    decimal_injective a.number b.number (omega (arith, h.most)) (omega (arith, k.most)) digits in
    ap (λ (kind : LegKind). make_leg kind a.number) kinds
    ∙ ap (λ (number : ℕ). make_leg b.kind number) numbers

other_letters : (kind : LegKind) (number : List ℕ) → codes "cs" ≡ letters_of kind ++ number → ⊥
other_letters ClientOut number e = absurd (omega (arith, ap two_letters e))
other_letters _ number e = absurd (omega (arith, ap two_letters e))

-- no leg is called cs
no_cs : (leg : Leg) → IsLeg leg (codes "cs") → ⊥
no_cs leg h = other_letters leg.kind (decimal leg.number) h.spelled

pub one_route : (word : List ℕ) (a b : Option Leg) → IsRoute a word → IsRoute b word → a ≡ b
one_route word None None h k = refl
one_route word (Some a) (Some b) h k = ap Some (one_leg word a b h k)
one_route word None (Some b) h k = absurd (no_cs b (subst (IsLeg b) h k))
one_route word (Some a) None h k = absurd (no_cs a (subst (IsLeg a) k h))
