-- a text spells one line at most, since lines of different verbs begin with different words; and
-- no line is spelled by nothing
use Rattle.std.proofs.Common.{◌≡◌, ◌+◌, ◌*◌, ℕ, Bool, true, false, List, [], ◌∷◌, ◌++◌, get_or, refl, sym, ◌∙◌, ap, subst, arith}
use Rattle.std.specs.declared.option.Option.{Option}
use Rattle.rh_text.specs.declared.ends.Dir.{Dir}
use Rattle.rh_text.specs.Ends.{dir_word}
use Rattle.rh_line.specs.declared.leg.Leg.{Leg}
use Rattle.rh_record.specs.declared.line.Line.{Line}
use Rattle.rh_record.specs.declared.line.Line.TheVariants.{First, Set, Give, Take, Close, Send, Move}
use Rattle.rh_record.specs.declared.line.Line.TheVariants.{OpenLeg, OpenSame, BreakLeg, EndLeg, Tick, RecycleIn, RecycleOut, Settle}
use Rattle.rh_record.specs.declared.verb.Verb.{Verb}
use Rattle.rh_record.specs.declared.verb.Verb.TheVariants as verbs
use Rattle.rh_record.specs.Verbs.{verb_word}
use Rattle.rh_record.specs.Words.{Cut, Then, Word, IsCount, IsRoute, most_bytes, most_number}
use Rattle.rh_record.specs.declared.words.TheConstants.{BLANK}
use Rattle.rh_record.specs.declared.reading.TheConstants.{LAST_MOMENT, MOST_ROUNDS}
use Rattle.rh_record.specs.Recording.{LineText, form_word}
use Rattle.rh_record.specs.declared.line.RecordKind.{RecordKind}
use Rattle.rh_record.specs.declared.place.Place.{Place}
use Rattle.rh_record.specs.Places.{Stands}
use Rattle.rh_record.specs.WordLaws.{both, one_cut, one_dir, one_hex, one_key, one_leg, one_number, one_route, one_side}

-- ---- verbs

-- the verb of a line
abbrev pub verb : Line → Verb
verb (First _) = verbs.Rh
verb (Set _ _) = verbs.Set
verb (Give _ _) = verbs.Give
verb (Take _) = verbs.Take
verb (Close _) = verbs.Close
verb (Send _ _ _) = verbs.Send
verb (Move _ _ _) = verbs.Move
verb (OpenLeg _) = verbs.Open
verb (OpenSame _) = verbs.Open
verb (BreakLeg _) = verbs.Break
verb (EndLeg _ _) = verbs.End
verb (Tick _) = verbs.Tick
verb RecycleIn = verbs.Recycle
verb RecycleOut = verbs.Recycle
verb (Settle _) = verbs.Settle

-- its word
abbrev pub verb_of : Line → List ℕ
verb_of line = verb_word (verb line)

-- a line begins with its verb
pub begins : (line : Line) (text : List ℕ) → LineText line text
    → (rest : List ℕ) × Cut text (verb_of line) rest
begins (First _) text (word, rest, cut, is, h) = (rest, subst (λ w. Cut text w rest) is cut)
begins _ text (word, rest, cut, is, h) = (rest, subst (λ w. Cut text w rest) is cut)

-- the letters that tell a verb
abbrev pub letters : List ℕ → ℕ
letters word = get_or word 0 0 * 65536 + get_or word 2 0 * 256 + get_or word 3 0

-- two lines of one text have the same verb
pub same_verb : (text : List ℕ) (a b : Line) → LineText a text → LineText b text
    → letters (verb_of a) ≡ letters (verb_of b)
same_verb text a b h k =
    let one = begins a text h in
    let two = begins b text k in
    ap letters (one_cut text (verb_of a) one.0 (verb_of b) two.0 one.1 two.1).0

-- ---- one reading

pub one_form : (word : List ℕ) (a b : Bool) → word ≡ form_word a → word ≡ form_word b → a ≡ b
one_form word true true h k = refl
one_form word false false h k = refl
one_form word _ _ h k = absurd (omega (arith, ap (λ (w : List ℕ). get_or w 0 0) (sym h ∙ k)))

no_cut : (word rest : List ℕ) → [] ≡ word ++ BLANK ∷ rest → ⊥
no_cut [] rest e = (let h = e in cc)
no_cut (x ∷ word) rest e = (let h = e in cc)

one_piece : (text : List ℕ) (leg other : Option Leg) (dir way : Dir) (count many : ℕ)
    → Then (IsRoute leg) (Word (dir_word dir) (IsCount count)) text
    → Then (IsRoute other) (Word (dir_word way) (IsCount many)) text
    → (leg ≡ other) × (dir ≡ way) × (count ≡ many)
one_piece text leg other dir way count many h k =
    let here = both text h k in
    let later = both here.1 here.3.0 here.3.1 in (
      one_route here.0 leg other here.2.0 here.2.1,
      one_dir later.0 dir way later.2.0 later.2.1,
      one_number 1 most_bytes later.1 count many (omega arith) later.3.0 later.3.1,
    )

-- two lines of one text are the same line
pub one_line : (text : List ℕ) (a b : Line) → LineText a text → LineText b text → a ≡ b
one_line text (First r) (First s) h k =
    let here = both text h k in
    let form = both here.1 here.3.0 here.3.1 in
    ap First (one_form form.1 r s form.3.0 form.3.1)
one_line text (Set a v) (Set b w) h k =
    let here = both text h k in
    let later = both here.1 here.3.0 here.3.1 in
    let keys : a ≡ b = one_key later.0 a b later.2.0 later.2.1 in
    let values : v ≡ w = one_number 0 most_number later.1 v w
    (omega arith) later.3.0.spelled later.3.1.spelled in cc
one_line text (Give a p) (Give b q) h k =
    let here = both text h k in
    let later = both here.1 here.3.0 here.3.1 in
    let sides : a ≡ b = one_side later.0 a b later.2.0 later.2.1 in
    let bytes : p ≡ q = one_hex most_bytes later.1 p q later.3.0 later.3.1 in cc
one_line text (Take a) (Take b) h k =
    let here = both text h k in ap Take (one_side here.1 a b here.3.0 here.3.1)
one_line text (Close a) (Close b) h k =
    let here = both text h k in ap Close (one_side here.1 a b here.3.0 here.3.1)
one_line text (Send l d n) (Send m e o) h k =
    let here = both text h k in
    let same = one_piece here.1 l m d e n o here.3.0 here.3.1 in
    let legs : l ≡ m = same.0 in
    let dirs : d ≡ e = same.1 in
    let counts : n ≡ o = same.2 in cc
one_line text (Move l d n) (Move m e o) h k =
    let here = both text h k in
    let same = one_piece here.1 l m d e n o here.3.0 here.3.1 in
    let legs : l ≡ m = same.0 in
    let dirs : d ≡ e = same.1 in
    let counts : n ≡ o = same.2 in cc
one_line text (OpenLeg l) (OpenLeg m) h k =
    let here = both text h k in ap OpenLeg (one_leg here.1 l m here.3.0.0 here.3.1.0)
one_line text (OpenLeg l) (OpenSame m) h k =
    let here = both text h k in absurd (here.3.0.1 here.3.1.0 here.3.1.1 here.3.1.2)
one_line text (OpenSame l) (OpenLeg m) h k =
    let here = both text h k in absurd (here.3.1.1 here.3.0.0 here.3.0.1 here.3.0.2)
one_line text (OpenSame l) (OpenSame m) h k =
    let here = both text h k in
    let later = both here.1 here.3.0 here.3.1 in
    ap OpenSame (one_leg later.0 l m later.2.0.named later.2.1.named)
one_line text (BreakLeg l) (BreakLeg m) h k =
    let here = both text h k in ap BreakLeg (one_leg here.1 l m here.3.0 here.3.1)
one_line text (EndLeg l d) (EndLeg m e) h k =
    let here = both text h k in
    let later = both here.1 here.3.0 here.3.1 in
    let legs : l ≡ m = one_leg later.0 l m later.2.0 later.2.1 in
    let dirs : d ≡ e = one_dir later.1 d e later.3.0 later.3.1 in cc
one_line text (Tick n) (Tick o) h k =
    let here = both text h k in
    ap Tick (one_number 0 LAST_MOMENT here.1 n o (omega arith) here.3.0 here.3.1)
one_line text RecycleIn RecycleIn h k = refl
one_line text RecycleOut RecycleOut h k = refl
one_line text RecycleIn RecycleOut h k =
    let here = both text h k in absurd (omega (
      arith,
      ap (λ (w : List ℕ). get_or w 0 0)
          (sym here.3.0 ∙ here.3.1),
    ))
one_line text RecycleOut RecycleIn h k =
    let here = both text h k in absurd (omega (
      arith,
      ap (λ (w : List ℕ). get_or w 0 0)
          (sym here.3.0 ∙ here.3.1),
    ))
one_line text (Settle n) (Settle o) h k =
    let here = both text h k in ap Settle (one_number 1 MOST_ROUNDS here.1 n o
    (omega arith) here.3.0 here.3.1)
one_line text a b h k = absurd (omega (arith, same_verb text a b h k))

-- no line is spelled by nothing
pub no_line_of_nothing : (line : Line) → LineText line [] → ⊥
no_line_of_nothing line h =
    let here = begins line [] h in no_cut (verb_of line) here.0 here.1.joined

-- ---- laws of the grammars

pub one_line_at : (place : Place) (text : List ℕ) (a b : Line) → Stands place text a
    → Stands place text b → a ≡ b
one_line_at place text a b h k = one_line text a b h.line_of.spelled k.line_of.spelled

pub no_empty : (place : Place) (line : Line) → Stands place [] line → ⊥
no_empty place line h = no_line_of_nothing line h.line_of.spelled
