-- a text is one capture at most
use Rattle.std.proofs.Common.{◌≡◌, ℕ, List, [], ◌∷◌, ◌++◌, codes, refl, sym, ap, ◌∙◌, subst, get_or, arith, ◌+◌, ◌*◌, ◌≤◌, ◌⊎◌, inl, inr, ◌≢◌}
use Rattle.std.specs.Prelude.{◌^◌, ◌<◌, ◌==◌, if◌then◌else◌, length, true, false}
use Rattle.std.proofs.lemmas.List.{length_push, nil_from_length}
use Rattle.rh_text.specs.Lines.{BeginsWith, FirstLine, Leads, IsText, FirstBad, TextOf}
use Rattle.rh_text.proofs.Texts.{OneLine, Leads-push, never_both, first_line, first_shorter, no_line}
use Rattle.rh_record.specs.Words.{most_bytes}
use Rattle.rh_record.specs.WordLaws.{behind, one_hex, one_number}
use Rattle.rh_sig.specs.declared.name.Pipe.{Pipe}
use Rattle.rh_sig.specs.declared.name.Pipe.TheVariants.{CiU, IsU, IsD, CoU, CoD, OsU, OsD}
use Rattle.rh_audit.specs.declared.seen.Seen.{Seen}
use Rattle.rh_audit.specs.Lines.{SeenText, most_tag}
use Rattle.rh_audit.specs.Captures.{IsCapture, total}
use Rattle.rh_audit.specs.Pipes.{kind_of, pipe_word}
use Rattle.rh_capture.specs.declared.kinds.Kinds.{Kinds}
use Rattle.rh_capture.specs.declared.refused.CaptureRefused.{CaptureRefused}
use Rattle.rh_capture.specs.declared.refused.CaptureRefused.TheVariants.{BadLine, NoMemory}
use Rattle.rh_capture.specs.Kinds.{HasKinds, fits_with, kind_at, known_with}
use Rattle.rh_capture.specs.Reading.{CaptureLine, CapturePlace, First, Saw, Header, Behind, Follows, MayFollow, Refuses, Stands, captures, lines_with}
use Rattle.rh_capture.proofs.KindLaws.{is_capture, kinds_more, may_follow, may_not_follow, total_more}
use Rattle.rh_capture.proofs.LineLaws.{behind_fits, bytes_fit, lines_more, none_empty, pipe_seen}

-- the second and the third letter of a pipe's word tell it
abbrev letters : List ℕ → ℕ
letters word = (get_or word 0 0 * 256 + get_or word 1 0) * 256 + get_or word 2 0

one_pipe : (word : List ℕ) (a b : Pipe) → word ≡ pipe_word a → word ≡ pipe_word b → a ≡ b
one_pipe word CiU CiU h k = refl
one_pipe word IsU IsU h k = refl
one_pipe word IsD IsD h k = refl
one_pipe word CoU CoU h k = refl
one_pipe word CoD CoD h k = refl
one_pipe word OsU OsU h k = refl
one_pipe word OsD OsD h k = refl
one_pipe word _ _ h k = absurd (omega (arith, ap letters (sym h ∙ k)))

abbrev seen_of : ℕ → Pipe → List ℕ → Seen
seen_of tag pipe bytes = record { tag = tag; pipe = pipe; bytes = bytes }

one_seen : (text : List ℕ) (a b : Seen) → SeenText a text → SeenText b text → a ≡ b
one_seen text a b (
  v,
  words,
  cut,
  is,
  (tag, more, cut-tag, is-tag, (pipe, hex, cut-pipe, is-pipe, digits)),
) h =
    let words-are = (behind text v words cut h).1 in
    let tag-is = behind words tag more cut-tag words-are in
    let pipe-is = behind more pipe hex cut-pipe tag-is.1 in
    let tags : a.tag ≡ b.tag = one_number 1 most_tag tag a.tag b.tag (omega arith) is-tag tag-is.0 in
    let pipes : a.pipe ≡ b.pipe =
    one_pipe pipe a.pipe b.pipe is-pipe.spelled pipe-is.0.spelled in
    let bytes : a.bytes ≡ b.bytes = one_hex most_bytes hex a.bytes b.bytes digits pipe-is.1 in
    ap (λ (n : ℕ). seen_of n a.pipe a.bytes) tags
    ∙ ap (λ (p : Pipe). seen_of b.tag p a.bytes) pipes
    ∙ ap (λ (x : List ℕ). seen_of b.tag b.pipe x) bytes

one_line : OneLine captures
one_line Header text First First h k = refl
one_line Header text First (Saw b) h k = absurd k
one_line Header text (Saw a) b h k = absurd h
one_line (Behind seen) text First b h k = absurd h
one_line (Behind seen) text (Saw a) First h k = absurd k
one_line (Behind seen) text (Saw a) (Saw b) h k = ap Saw (one_seen text a b h.spelled k.spelled)

-- ---- a line

-- a line whose pipe fits what is known of its tag
pub line_follows : (seen : List Seen) (text : List ℕ) (line : Seen) (kinds next : Kinds)
    → SeenText line text → fits_with (kind_at kinds line.tag) (kind_of line.pipe) ≡ true
    → ((other : ℕ) → kind_at next other
    ≡ (if line.tag == other then known_with (kind_at kinds other) (kind_of line.pipe)
    else kind_at kinds other))
    → HasKinds kinds seen → Follows seen text line × HasKinds next (seen ++ line ∷ [])
line_follows seen text line kinds next spelled fits noted h = (
  record { spelled = spelled; fits = may_follow kinds seen line h fits },
  kinds_more kinds next seen line h fits (pipe_seen line text spelled) noted,
)

-- one that doesn't
pub none_follows : (seen : List Seen) (text : List ℕ) (line : Seen) (kinds : Kinds)
    → SeenText line text → fits_with (kind_at kinds line.tag) (kind_of line.pipe) ≡ false
    → HasKinds kinds seen → (other : Seen) → Follows seen text other → ⊥
none_follows seen text line kinds spelled fits h other follows =
    may_not_follow kinds seen line h fits
    (subst (λ (l : Seen). MayFollow seen l) (one_seen text other line follows.spelled spelled)
    follows.fits)

-- ---- reading a capture

-- what was seen in the lines so far
pub record Reading (text rest : List ℕ) (number : ℕ) (seen : List Seen) (kinds : Kinds) : Type 0 where
  pub read : Leads captures Header (lines_with seen) text (Behind seen) rest
  pub counted : number ≡ length (lines_with seen) + 1
  pub fits : number + length rest ≤ length text + 1
  pub few : total seen + length rest ≤ length text
  pub known : HasKinds kinds seen

-- behind the first line
pub reading_first : (text first rest : List ℕ) (kinds : Kinds) → BeginsWith text first rest
    → first ≡ codes "cap 1" → HasKinds kinds []
    → Reading text rest 2 [] kinds
reading_first text first rest kinds begins is known =
    let one = first_line captures Header text first rest First begins is in
    let shorter = first_shorter captures none_empty Header text First rest one in
    record {
      read = (rest, one, (refl, refl));
      counted = refl;
      fits = omega (arith, shorter);
      few = omega (arith, shorter);
      known = known;
    }

-- a line more
pub reading_more : (text rest line behind : List ℕ) (number : ℕ) (seen : List Seen)
    (kinds next : Kinds) (one : Seen)
    → BeginsWith rest line behind → Follows seen line one → HasKinds next (seen ++ one ∷ [])
    → Reading text rest number seen kinds
    → Reading text behind (number + 1) (seen ++ one ∷ []) next
reading_more text rest line behind number seen kinds next one begins follows known h =
    let first = first_line captures (Behind seen) rest line behind (Saw one) begins follows in
    let shorter = first_shorter captures none_empty (Behind seen) rest (Saw one) behind first in
    let all = lines_more seen one in
    let long = length_push (lines_with seen) (Saw one) in
    let size = ap length all in
    let bytes = bytes_fit one line follows.spelled in
    let room = behind_fits rest line behind begins in
    record {
      read = subst
          (λ (x : List CaptureLine). Leads captures Header x text (Behind (seen ++ one ∷ [])) behind)
          (sym all)
          (Leads-push captures Header (lines_with seen) text (Behind seen) rest (Saw one) behind
          h.read first);
      counted = omega (arith, h.counted, long, size);
      fits = omega (arith, h.fits, shorter);
      few = omega (arith, h.few, bytes, room, total_more seen one);
      known = known;
    }

pub reading_capture : (text rest : List ℕ) (number : ℕ) (seen : List Seen) (kinds : Kinds)
    → length text < 2 ^ 36 → Reading text rest number seen kinds → IsCapture seen
reading_capture text rest number seen kinds short h =
    is_capture kinds seen (length text) h.known (omega (arith, h.few)) short

-- the next line is none
bad_line : (text rest line behind : List ℕ) (number : ℕ) (seen : List Seen) (kinds : Kinds)
    → BeginsWith rest line behind → ((one : Seen) → Follows seen line one → ⊥)
    → rest ≢ [] → Reading text rest number seen kinds → FirstBad captures text number
bad_line text rest line behind number seen kinds begins none some h = record {
  before = lines_with seen;
  place = Behind seen;
  rest = rest;
  read = h.read;
  counted = h.counted;
  here = inl some;
  none = no_line captures (Behind seen) rest line behind begins (no_such line seen none);
}
  where
    no_such : (line : List ℕ) (seen : List Seen) → ((one : Seen) → Follows seen line one → ⊥)
        → (l : CaptureLine) → Stands (Behind seen) line l → ⊥
    no_such line seen none First h = h
    no_such line seen none (Saw one) h = none one h

pub reading_bad : (text rest line behind : List ℕ) (number : ℕ) (seen : List Seen) (kinds : Kinds)
    → BeginsWith rest line behind → ((one : Seen) → Follows seen line one → ⊥)
    → rest ≢ [] → Reading text rest number seen kinds
    → FirstBad captures text number × (IsText captures text → ⊥)
reading_bad text rest line behind number seen kinds begins none some h =
    let bad = bad_line text rest line behind number seen kinds begins none some h in
    (bad, λ is. never_both captures one_line none_empty text number is bad)

-- the first line is none
first_is_bad : (text line behind : List ℕ) → BeginsWith text line behind
    → (line ≡ codes "cap 1" → ⊥) → FirstBad captures text 1
first_is_bad text line behind begins other = record {
  before = [];
  place = Header;
  rest = text;
  read = (refl, refl);
  counted = refl;
  here = inr (λ over. over);
  none = no_line captures Header text line behind begins (no_such line other);
}
  where
    no_such : (line : List ℕ) → (line ≡ codes "cap 1" → ⊥)
        → (l : CaptureLine) → Stands Header line l → ⊥
    no_such line other First h = other h
    no_such line other (Saw one) h = h

pub reading_no_first : (text line behind : List ℕ) → BeginsWith text line behind
    → (line ≡ codes "cap 1" → ⊥) → FirstBad captures text 1 × (IsText captures text → ⊥)
reading_no_first text line behind begins other =
    let bad = first_is_bad text line behind begins other in
    (bad, λ is. never_both captures one_line none_empty text 1 is bad)

-- the next line was refused
pub line_refused : (text rest line behind : List ℕ) (number : ℕ) (seen : List Seen)
    (kinds : Kinds) (refused : CaptureRefused)
    → BeginsWith rest line behind → rest ≢ [] → Reading text rest number seen kinds
    → ((n : ℕ) → refused ≡ BadLine n → (n ≡ number)
    × ((lines : List Seen) → HasKinds kinds lines → (one : Seen) → Follows lines line one → ⊥))
    → Refuses text refused
line_refused text rest line behind number seen kinds (BadLine n) begins some h why =
    let (is, none) = why n refl in
    subst (λ (m : ℕ). FirstBad captures text m × (IsText captures text → ⊥)) (sym is)
    (reading_bad text rest line behind number seen kinds begins (none seen h.known) some h)
line_refused text rest line behind number seen kinds NoMemory begins some h why = tt
