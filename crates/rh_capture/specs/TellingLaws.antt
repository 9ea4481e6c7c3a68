-- what is told of a run is the text of its capture
use Rattle.std.proofs.Common.{◌≡◌, ℕ, List, [], ◌∷◌, ◌++◌, true, refl, sym, ◌∙◌, ap, subst, append_assoc}
use Rattle.std.specs.Prelude.{IsTrue, Bool, false}
use Rattle.rh_text.specs.Lines.{Leads, TextOf}
use Rattle.rh_line.specs.declared.leg.Leg.{Leg}
use Rattle.rh_record.specs.declared.answer.Answer.{Answer}
use Rattle.rh_record.specs.declared.line.Line.{Line}
use Rattle.rh_record.specs.declared.line.Line.TheVariants.{First, Set}
use Rattle.rh_record.specs.declared.line.RecordKind.{RecordKind}
use Rattle.rh_record.specs.declared.line.RecordKind.TheVariants as kinds
use Rattle.rh_record.specs.declared.place.Place.{Place}
use Rattle.rh_record.specs.declared.place.Place.TheVariants.{Header, Direct, Settings, Roles}
use Rattle.rh_record.specs.Places.{MayEnd, Stands, kind_of, next}
use Rattle.rh_record.specs.Recording.{fits}
use Rattle.rh_audit.specs.declared.seen.Seen.{Seen}
use Rattle.rh_teller.specs.Tales.{Tale, told, behind}
use Rattle.rh_capture.specs.Captured.{captured_behind, line_of, met}
use Rattle.rh_capture.specs.Recordings.{StandsInRoles, is_of_roles, roles_recording}
use Rattle.rh_capture.specs.Telling.{capturing, first_told}
use Rattle.rh_capture.specs.Texts.{line_text, lines_text}

pub lines_text-append : (front more : List Seen)
    → lines_text (front ++ more) ≡ lines_text front ++ lines_text more
lines_text-append [] more = refl
lines_text-append (line ∷ front) more =
    ap (λ (x : List ℕ). line_text line ++ x) (lines_text-append front more)
    ∙ sym (append_assoc (line_text line) (lines_text front) (lines_text more))

-- answers, and then others
pub captured-append : (legs : List Leg) (front more : List Answer)
    → captured_behind legs (front ++ more)
    ≡ captured_behind legs front ++ captured_behind (behind capturing legs front) more
captured-append legs [] more = refl
captured-append legs (answer ∷ front) more =
    ap (λ (x : List Seen). line_of legs answer ++ x) (captured-append (met legs answer) front more)
    ∙ sym (append_assoc (line_of legs answer) (captured_behind (met legs answer) front)
    (captured_behind (behind capturing (met legs answer) front) more))

-- what is told of answers is the text of their lines
pub told_captured : (legs : List Leg) (answers : List Answer)
    → told capturing legs answers ≡ lines_text (captured_behind legs answers)
told_captured legs [] = refl
told_captured legs (answer ∷ answers) =
    ap (λ (x : List ℕ). lines_text (line_of legs answer) ++ x)
    (told_captured (met legs answer) answers)
    ∙ sym (lines_text-append (line_of legs answer) (captured_behind (met legs answer) answers))

-- ---- first lines

-- behind the first line there is none
abbrev pub NoFirst : List Line → Type 0
NoFirst [] = Unit {0}
NoFirst (line ∷ lines) = (first_told line ≡ []) × NoFirst lines

no_first_fits : (line : Line) → IsTrue (fits kinds.Roles line) → first_told line ≡ []
no_first_fits (First roles) h = absurd (cc)
no_first_fits _ h = refl

stays_of_roles : (place : Place) (line : Line) → kind_of place ≡ kinds.Roles
    → kind_of (next place line) ≡ kinds.Roles
stays_of_roles Header line is = absurd (cc)
stays_of_roles Direct line is = absurd (cc)
stays_of_roles (Settings keys) (Set key value) is = refl
stays_of_roles (Settings keys) _ is = refl
stays_of_roles Roles line is = refl

no_first : (place last : Place) (lines : List Line) (text rest : List ℕ)
    → kind_of place ≡ kinds.Roles → Leads roles_recording place lines text last rest
    → NoFirst lines
no_first place last [] text rest is h = tt
no_first place last (line ∷ lines) text rest is (behind, first, more) = (
  no_first_fits line (subst (λ (k : RecordKind). IsTrue (fits k line)) is
      first.spelled.stands.line_of.fitting),
  no_first (next place line) last lines behind rest (stays_of_roles place line is) more,
)

-- a recording of roles is its first line and others behind it
pub record IsOfRoles (lines : List Line) : Type 0 where
  pub others : List Line
  pub is : lines ≡ First true ∷ others
  pub none : NoFirst others

header_line : (line : Line) → IsTrue (fits kinds.Header line) → (roles : Bool) × (line ≡ First roles)
header_line (First roles) h = (roles, refl)
header_line _ h = absurd (cc)

first_of_roles : (line : Line) (roles : Bool) (lines : List Line) (last : Place)
    (text rest : List ℕ) → line ≡ First roles
    → IsTrue (is_of_roles (next Header line))
    → Leads roles_recording (next Header line) lines text last rest
    → IsOfRoles (line ∷ lines)
first_of_roles line true lines last text rest is of_roles h = record {
  others = lines;
  is = ap (λ (l : Line). l ∷ lines) is;
  none = no_first (next Header line) last lines text rest
      (ap (λ (l : Line). kind_of (next Header l)) is) h;
}
first_of_roles line false lines last text rest is of_roles h =
    absurd (let both : false ≡ true =
    subst (λ (l : Line). IsTrue (is_of_roles (next Header l))) is of_roles in cc)

pub of_roles : (text : List ℕ) (lines : List Line) → TextOf roles_recording text lines
    → IsOfRoles lines
of_roles text [] h = absurd (subst (λ (p : Place). MayEnd p) (sym h.read.1) h.over)
of_roles text (line ∷ lines) h =
    let (behind, first, more) = h.read in
    let (roles, is) = header_line line first.spelled.stands.line_of.fitting in
    first_of_roles line roles lines h.last behind [] is first.spelled.of_roles more
