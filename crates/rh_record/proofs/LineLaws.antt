-- what makes no line: words behind a verb that are none of its own
use Rattle.std.proofs.Common.{◌≡◌, ◌≢◌, ℕ, zero, suc, nat_lt, Bool, true, ◌&&◌, List, [], ◌∷◌, ◌++◌, codes, None}
use Rattle.std.proofs.Common.{refl, ap, arith}
use Rattle.std.proofs.lemmas.Bool.{and_parts}
use Rattle.std.proofs.lemmas.Bool.Decides.{nat_tests}
use Rattle.std.specs.List.{Contains}
use Rattle.std.specs.declared.option.Option.{Option}
use Rattle.rh_text.specs.declared.ends.Side.{Side}
use Rattle.rh_text.specs.declared.ends.Dir.{Dir}
use Rattle.rh_text.specs.declared.ends.Dir.TheVariants.{U, D}
use Rattle.rh_text.specs.Ends.{side_word, dir_word}
use Rattle.rh_line.specs.declared.leg.Leg.{Leg}
use Rattle.rh_record.specs.declared.line.Key.{Key}
use Rattle.rh_record.specs.declared.line.Line.{Line}
use Rattle.rh_record.specs.declared.line.Line.TheVariants.{First, Set, Give, Take, Close, Send, Move}
use Rattle.rh_record.specs.declared.line.Line.TheVariants.{OpenLeg, OpenSame, BreakLeg, EndLeg, Tick, RecycleIn, RecycleOut, Settle}
use Rattle.rh_record.specs.Words.{Alone, Cut, Is, Then, Word, IsCount, IsInLeg, IsLeg, IsMoment, IsRounds, IsRoute, IsValue, key_word}
use Rattle.rh_record.specs.Recording.{LineText, form_word}
use Rattle.rh_record.specs.ParsedLines.{IsBehind}
use Rattle.rh_record.specs.WordLaws.{behind, one_cut}
use Rattle.rh_record.specs.Readings.{begins, letters, verb, verb_of}
use Rattle.rh_record.specs.declared.words.TheConstants.{BLANK}
use Rattle.rh_record.specs.declared.verb.Verb.{Verb}
use Rattle.rh_record.specs.declared.verb.Verb.TheVariants as verbs
use Rattle.rh_record.specs.Verbs.{verb_word}
use Rattle.rh_record.specs.ParsedLines.{IsParsed}

-- behind its verb a text is a line of that verb alone
pub same_as : (line : Line) (text verb rest : List ℕ) → Cut text verb rest → LineText line text
    → letters (verb_of line) ≡ letters verb
same_as line text verb rest cut h =
    let here = begins line text h in
    ap letters (one_cut text (verb_of line) here.0 verb rest here.1 cut).0

pub no_first : (rest : List ℕ) → ((roles : Bool) → Word (codes "1") (Is (form_word roles)) rest → ⊥)
    → IsBehind (codes "rh") rest None
no_first rest none text cut (First roles) h = none roles (behind text _ _ cut h).1
no_first rest none text cut line h = absurd (omega (arith, same_as line text _ _ cut h))

pub no_set : (rest : List ℕ)
    → ((key : Key) (value : ℕ) → Word (key_word key) (IsValue key value) rest → ⊥)
    → IsBehind (codes "set") rest None
no_set rest none text cut (Set key value) h = none key value (behind text _ _ cut h).1
no_set rest none text cut line h = absurd (omega (arith, same_as line text _ _ cut h))

pub no_give : (rest : List ℕ)
    → ((side : Side) (last : List ℕ) → Word (side_word side) (Is last) rest → ⊥)
    → IsBehind (codes "give") rest None
no_give rest none text cut (Give side pdu) h =
    let words = (behind text _ _ cut h).1 in none side words.1
    (words.0, words.1, words.2, words.3, refl)
no_give rest none text cut line h = absurd (omega (arith, same_as line text _ _ cut h))

pub no_take : (rest : List ℕ) → ((side : Side) → rest ≡ side_word side → ⊥)
    → IsBehind (codes "take") rest None
no_take rest none text cut (Take side) h = none side (behind text _ _ cut h).1
no_take rest none text cut line h = absurd (omega (arith, same_as line text _ _ cut h))

pub no_close : (rest : List ℕ) → ((side : Side) → rest ≡ side_word side → ⊥)
    → IsBehind (codes "close") rest None
no_close rest none text cut (Close side) h = none side (behind text _ _ cut h).1
no_close rest none text cut line h = absurd (omega (arith, same_as line text _ _ cut h))

-- the words of a send or a move
abbrev NoPiece : List ℕ → Type 0
NoPiece rest = (leg : Option Leg) (dir : Dir) (count : ℕ)
    → Then (IsRoute leg) (Word (dir_word dir) (IsCount count)) rest → ⊥

pub no_send : (rest : List ℕ) → NoPiece rest → IsBehind (codes "send") rest None
no_send rest none text cut (Send leg dir count) h = none leg dir count (behind text _ _ cut h).1
no_send rest none text cut line h = absurd (omega (arith, same_as line text _ _ cut h))

pub no_move : (rest : List ℕ) → NoPiece rest → IsBehind (codes "move") rest None
no_move rest none text cut (Move leg dir count) h = none leg dir count (behind text _ _ cut h).1
no_move rest none text cut line h = absurd (omega (arith, same_as line text _ _ cut h))

-- an open of one word, and an open of two
pub no_open : (rest : List ℕ) → ((leg : Leg) → Alone (IsLeg leg) rest → ⊥)
    → ((leg : Leg) → Then (IsInLeg leg) (Is (codes "same")) rest → ⊥)
    → IsBehind (codes "open") rest None
no_open rest one two text cut (OpenLeg leg) h = one leg (behind text _ _ cut h).1
no_open rest one two text cut (OpenSame leg) h = two leg (behind text _ _ cut h).1
no_open rest one two text cut line h = absurd (omega (arith, same_as line text _ _ cut h))

pub no_break : (rest : List ℕ) → ((leg : Leg) → IsLeg leg rest → ⊥)
    → IsBehind (codes "break") rest None
no_break rest none text cut (BreakLeg leg) h = none leg (behind text _ _ cut h).1
no_break rest none text cut line h = absurd (omega (arith, same_as line text _ _ cut h))

pub no_end : (rest : List ℕ)
    → ((leg : Leg) (dir : Dir) → Then (IsLeg leg) (Is (dir_word dir)) rest → ⊥)
    → IsBehind (codes "end") rest None
no_end rest none text cut (EndLeg leg dir) h = none leg dir (behind text _ _ cut h).1
no_end rest none text cut line h = absurd (omega (arith, same_as line text _ _ cut h))

pub no_tick : (rest : List ℕ) → ((now : ℕ) → IsMoment now rest → ⊥)
    → IsBehind (codes "tick") rest None
no_tick rest none text cut (Tick now) h = none now (behind text _ _ cut h).1
no_tick rest none text cut line h = absurd (omega (arith, same_as line text _ _ cut h))

pub no_recycle : (rest : List ℕ) → (rest ≢ codes "in") → (rest ≢ codes "out")
    → IsBehind (codes "recycle") rest None
no_recycle rest one two text cut RecycleIn h = one (behind text _ _ cut h).1
no_recycle rest one two text cut RecycleOut h = two (behind text _ _ cut h).1
no_recycle rest one two text cut line h = absurd (omega (arith, same_as line text _ _ cut h))

pub no_settle : (rest : List ℕ) → ((rounds : ℕ) → IsRounds rounds rest → ⊥)
    → IsBehind (codes "settle") rest None
no_settle rest none text cut (Settle rounds) h = none rounds (behind text _ _ cut h).1
no_settle rest none text cut line h = absurd (omega (arith, same_as line text _ _ cut h))

-- a text that begins with no verb is no line
pub no_verb : (text : List ℕ)
    → ((verb : Verb) (rest : List ℕ) → Cut text (verb_word verb) rest → ⊥) → IsParsed None text
no_verb text none line h =
    let here = begins line text h in none (verb line) here.0 here.1

-- ---- a word that is known, and what stands behind its blank

-- each byte is above a blank
abbrev all_above : List ℕ → Bool
all_above [] = true
all_above (x ∷ xs) = nat_lt BLANK x && all_above xs

-- such a word has no blank
none_among : (word : List ℕ) → all_above word ≡ true → ¬ Contains word BLANK
none_among [] all (k, below, is) = absurd (omega (arith, below))
none_among (x ∷ xs) all (zero, below, is) =
    let here : x ≡ BLANK = is in
    let above = (and_parts (nat_lt BLANK x) (all_above xs) all).0 in
    absurd (grind (arith, nat_tests, above, here))
none_among (x ∷ xs) all (suc k, below, is) =
    none_among xs (and_parts (nat_lt BLANK x) (all_above xs) all).1 (k, omega (arith, below), is)

all_letters : (verb : Verb) → all_above (verb_word verb) ≡ true
all_letters verbs.Rh = refl
all_letters verbs.Set = refl
all_letters verbs.Give = refl
all_letters verbs.Take = refl
all_letters verbs.Close = refl
all_letters verbs.Send = refl
all_letters verbs.Move = refl
all_letters verbs.Open = refl
all_letters verbs.Break = refl
all_letters verbs.End = refl
all_letters verbs.Tick = refl
all_letters verbs.Recycle = refl
all_letters verbs.Settle = refl

-- a text that begins with a verb, cut behind it
pub cut_verb : (verb : Verb) (text words : List ℕ) → text ≡ verb_word verb ++ BLANK ∷ words
    → Cut text (verb_word verb) words
cut_verb verb text words is = record {
  one = none_among (verb_word verb) (all_letters verb);
  joined = is;
}

all_letters_in : (dir : Dir) → all_above (dir_word dir) ≡ true
all_letters_in U = refl
all_letters_in D = refl

-- a piece of the leg of a direct recording, up to its count
abbrev direct_text : Dir → List ℕ → List ℕ
direct_text dir count = codes "cs" ++ BLANK ∷ (dir_word dir ++ BLANK ∷ count)

cut_direct : (text : List ℕ) (dir : Dir) (count : List ℕ) → text ≡ direct_text dir count
    → Cut text (codes "cs") (dir_word dir ++ BLANK ∷ count)
cut_direct text dir count is = record {
  one = none_among (codes "cs") refl;
  joined = is;
}

cut_dir : (dir : Dir) (count : List ℕ) → Cut (dir_word dir ++ BLANK ∷ count) (dir_word dir) count
cut_dir dir count = record {
  one = none_among (dir_word dir) (all_letters_in dir);
  joined = refl;
}

pub direct_piece : (text : List ℕ) (dir : Dir) (word : List ℕ) (count : ℕ)
    → text ≡ direct_text dir word → IsCount count word
    → Then (IsRoute None) (Word (dir_word dir) (IsCount count)) text
direct_piece text dir word count is h = (
  codes "cs",
  dir_word dir ++ BLANK ∷ word,
  cut_direct text dir word is,
  refl,
  (dir_word dir, word, cut_dir dir word, refl, h),
)

pub no_direct : (text : List ℕ) (dir : Dir) (word : List ℕ) → text ≡ direct_text dir word
    → ((count : ℕ) → IsCount count word → ⊥) → NoPiece text
no_direct text dir word is none leg other count h =
    let later = (behind text _ _ (cut_direct text dir word is) h).1 in
    none count (behind (dir_word dir ++ BLANK ∷ word) _ _ (cut_dir dir word) later).1
