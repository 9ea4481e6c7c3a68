-- what stands in the capture of a report
use Rattle.law_order.proofs.Vocabulary.{◌≡◌, ◌==◌, ◌++◌, ℕ, List, [], ◌∷◌, Bool, true, false, ◌&&◌, cond, Some, None, Option, refl, sym, ap, ◌∙◌, eq-eqb, ne_eqb, eqb-true, append_assoc, append-nil, AllByRecursion, if◌then◌else◌, IfSome, IsTrue, subst, true≢false}
use Rattle.std.proofs.lemmas.List.Elements.{filter-append}
use Rattle.law_order.proofs.ByNumber.{by_test}
use Rattle.rh_text.specs.declared.ends.Dir.{Dir}
use Rattle.rh_text.specs.declared.ends.Dir.TheVariants.{U, D}
use Rattle.rh_sig.specs.declared.name.Pipe.{Pipe}
use Rattle.rh_line.specs.declared.leg.Leg.{Leg}
use Rattle.rh_line.specs.declared.leg.LegKind.{LegKind}
use Rattle.rh_line.specs.declared.leg.LegKind.TheVariants.{ClientOut, OutServer, ClientIn, InServer}
use Rattle.rh_record.specs.declared.answer.Answer.{Answer}
use Rattle.rh_record.specs.declared.answer.Answer.TheVariants as answer
use Rattle.rh_shell.specs.Shells as shell
use Rattle.rh_shell.specs.Shells.{kind_number}
use Rattle.rh_teller.specs.Tales.{behind}
use Rattle.rh_audit.specs.declared.seen.Seen.{Seen}
use Rattle.rh_audit.specs.Links.{same_kind}
use Rattle.rh_audit.specs.Pipes.{is_seen, kind_of}
use Rattle.rh_audit.specs.Captures.{IsOfKind, bytes_on, carried, has_tag, of_tag, same_pipe}
use Rattle.rh_capture.specs.Captured.{captured, captured_behind, legs_behind, line_of, lines_of}
use Rattle.rh_capture.specs.Captured.{met as met_behind}
use Rattle.rh_capture.specs.Legs as tags
use Rattle.rh_capture.specs.Legs.{tag_of, with_leg}
use Rattle.rh_capture.specs.Moves.{Move, move_on, moves, pipe_of}
use Rattle.rh_capture.specs.Telling.{capturing}
use Rattle.law_world_audited.specs.Moving.Moved.{moved_by, moved_on, same_dir}
use Rattle.law_world_audited.specs.Moving.Tagged.{IsLineOf, is_met, legs_met}
use Rattle.law_world_audited.proofs.Moving.Tags.{are_same, met_stays, met_with, same_itself, tag_stays, tag_with, tags_differ}

-- ---- lines behind each other

carried_append : (pipe : Pipe) (xs ys : List Seen)
    → carried pipe (xs ++ ys) ≡ carried pipe xs ++ carried pipe ys
carried_append pipe [] ys = refl
carried_append pipe (x ∷ xs) ys =
    by (same_pipe x.pipe pipe) (carried_append pipe xs ys)
  where
    by : (t : Bool) → carried pipe (xs ++ ys) ≡ carried pipe xs ++ carried pipe ys
        → cond t (x.bytes ++ carried pipe (xs ++ ys)) (carried pipe (xs ++ ys))
        ≡ cond t (x.bytes ++ carried pipe xs) (carried pipe xs) ++ carried pipe ys
    by true later =
        ap (λ (bytes : List ℕ). x.bytes ++ bytes) later
        ∙ sym (append_assoc x.bytes (carried pipe xs) (carried pipe ys))
    by false later = later

pub bytes_append : (tag : ℕ) (pipe : Pipe) (xs ys : List Seen)
    → bytes_on tag pipe (xs ++ ys) ≡ bytes_on tag pipe xs ++ bytes_on tag pipe ys
bytes_append tag pipe xs ys =
    ap (carried pipe) (filter-append (has_tag tag) xs ys)
    ∙ carried_append pipe (of_tag tag xs) (of_tag tag ys)

all_append : {X : Type 0} (P : X → Type 0) (xs ys : List X) → AllByRecursion P xs
    → AllByRecursion P ys → AllByRecursion P (xs ++ ys)
all_append P [] ys a b = b
all_append P (x ∷ xs) ys a b = (a.0, all_append P xs ys a.1 b)

-- ---- legs that are met stay so, with their tags

record Keeps (legs all : List Leg) (leg : Leg) : Type 0 where
  met : is_met all leg ≡ true
  tag : tag_of all leg ≡ tag_of legs leg

keeps_moves : (legs : List Leg) (moved : List Move) (leg : Leg) → is_met legs leg ≡ true
    → Keeps legs (legs_behind legs moved) leg
keeps_moves legs [] leg met = record { met = met; tag = refl }
keeps_moves legs (move ∷ moved) leg met =
    let more = keeps_moves (with_leg legs move.leg) moved leg (met_stays legs move.leg leg met) in
    record { met = more.met; tag = more.tag ∙ tag_stays legs move.leg leg met }

keeps_answers : (legs : List Leg) (answers : List Answer) (leg : Leg) → is_met legs leg ≡ true
    → Keeps legs (behind capturing legs answers) leg
keeps_answers legs [] leg met = record { met = met; tag = refl }
keeps_answers legs (one ∷ answers) leg met =
    let here = keeps_moves legs (moves one) leg met in
    let more = keeps_answers (met_behind legs one) answers leg here.met in
    record { met = more.met; tag = more.tag ∙ here.tag }

-- of one that is met now
keeps_new : (legs : List Leg) (answers : List Answer) (leg : Leg)
    → Keeps legs (behind capturing (with_leg legs leg) answers) leg
keeps_new legs answers leg =
    let more = keeps_answers (with_leg legs leg) answers leg (met_with legs leg) in
    record { met = more.met; tag = more.tag ∙ tag_with legs leg }

-- ---- the pipes of a leg

alike : (a b : Leg) → shell.same_leg a b ≡ tags.same_leg a b
alike a b = ap (λ t. t && (a.number == b.number)) (by a.kind b.kind)
  where
    by : (j k : LegKind) → (kind_number j == kind_number k) ≡ same_kind j k
    by ClientOut ClientOut = refl
    by OutServer OutServer = refl
    by ClientIn ClientIn = refl
    by InServer InServer = refl
    by j k = refl

abbrev AreSame : LegKind → Dir → Dir → Type 0
AreSame kind way dir =
    IfSome (pipe_of kind way) (λ (p : Pipe).
    IfSome (pipe_of kind dir) (λ (q : Pipe). same_pipe p q ≡ same_dir way dir))

are_pipes : (kind : LegKind) (way dir : Dir) → AreSame kind way dir
are_pipes ClientIn U U = refl
are_pipes ClientIn U D = tt
are_pipes ClientIn D dir = tt
are_pipes InServer U U = refl
are_pipes InServer U D = tt
are_pipes InServer D dir = tt
are_pipes ClientOut U U = refl
are_pipes ClientOut U D = refl
are_pipes ClientOut D U = refl
are_pipes ClientOut D D = refl
are_pipes OutServer U U = refl
are_pipes OutServer U D = refl
are_pipes OutServer D U = refl
are_pipes OutServer D D = refl

same_pipes : (kind : LegKind) (way dir : Dir) (p q : Pipe) → pipe_of kind way ≡ Some p
    → pipe_of kind dir ≡ Some q → same_pipe p q ≡ same_dir way dir
same_pipes kind way dir p q e f =
    subst (λ (o : Option Pipe). IfSome o (λ (y : Pipe). same_pipe p y ≡ same_dir way dir)) f
    (subst (λ (o : Option Pipe). IfSome o (λ (x : Pipe).
    IfSome (pipe_of kind dir) (λ (y : Pipe). same_pipe x y ≡ same_dir way dir))) e
    (are_pipes kind way dir))

abbrev IsOn : LegKind → Dir → Type 0
IsOn kind dir =
    IfSome (pipe_of kind dir) (λ (p : Pipe). (kind_of p ≡ kind) × IsTrue (is_seen p))

are_on : (kind : LegKind) (dir : Dir) → IsOn kind dir
are_on ClientIn U = (refl, refl)
are_on ClientIn D = tt
are_on InServer U = (refl, refl)
are_on InServer D = tt
are_on ClientOut U = (refl, refl)
are_on ClientOut D = (refl, refl)
are_on OutServer U = (refl, refl)
are_on OutServer D = (refl, refl)

-- ---- a line

module _ (legs : List Leg) (rest : List Answer) (other : Leg) (p : Pipe) (b : ℕ) (bytes : List ℕ)
  where
    abbrev all : List Leg
    all = behind capturing (with_leg legs other) rest

    abbrev line : Seen
    line = record { tag = tag_of legs other; pipe = p; bytes = b ∷ bytes }

    line_bytes : (way dir : Dir) (leg : Leg) (pipe : Pipe) → pipe_of other.kind way ≡ Some p
        → pipe_of leg.kind dir ≡ Some pipe
        → bytes_on (tag_of all leg) pipe (line ∷ [])
        ≡ (if shell.same_leg other leg && same_dir way dir then b ∷ bytes else [])
    line_bytes way dir leg pipe e f =
        by (tags.same_leg other leg) refl
        ∙ ap (λ t. cond (t && same_dir way dir) (b ∷ bytes) []) (sym (alike other leg))
      where
        keeps : Keeps legs all other
        keeps = keeps_new legs rest other

        of_same : (t u : Bool) → t ≡ u
            → cond t ((b ∷ bytes) ++ []) [] ≡ cond (true && u) (b ∷ bytes) []
        of_same true true same = append-nil (b ∷ bytes)
        of_same false false same = refl
        of_same true false same = absurd cc
        of_same false true same = absurd cc

        by : (t : Bool) → tags.same_leg other leg ≡ t
            → carried pipe (cond (tag_of legs other == tag_of all leg) (line ∷ []) [])
            ≡ cond (t && same_dir way dir) (b ∷ bytes) []
        by true is =
            let one = are_same other leg is in
            ap (λ t. carried pipe (cond t (line ∷ []) []))
            (eq-eqb (tag_of legs other) (tag_of all leg) (sym keeps.tag ∙ ap (tag_of all) one))
            ∙ of_same (same_pipe p pipe) (same_dir way dir)
            (same_pipes leg.kind way dir p pipe
            (ap (λ (l : Leg). pipe_of l.kind way) (sym one) ∙ e) f)
        by false is =
            ap (λ t. carried pipe (cond t (line ∷ []) []))
            (ne_eqb (tag_of legs other) (tag_of all leg) (λ same.
            let one = tags_differ all other leg keeps.met (keeps.tag ∙ same) in
            true≢false (sym (same_itself other) ∙ ap (tags.same_leg other) one ∙ is)))

    line_is : (way : Dir) → pipe_of other.kind way ≡ Some p → IsLineOf all line
    line_is way e =
        let keeps = keeps_new legs rest other in
        record { leg = other; dir = way; met = keeps.met; tag = sym keeps.tag; pipe = e }

-- ---- an answer

-- no pipe, no bytes
none_moved : (other leg : Leg) (way dir : Dir) (pipe : Pipe) (bytes : List ℕ)
    → pipe_of other.kind way ≡ None → pipe_of leg.kind dir ≡ Some pipe
    → [] ≡ (if shell.same_leg other leg && same_dir way dir then bytes else [])
none_moved other leg way dir pipe bytes e f =
    by (shell.same_leg other leg) (same_dir way dir) refl refl
  where
    dirs : (way dir : Dir) → same_dir way dir ≡ true → way ≡ dir
    dirs U U is = refl
    dirs U D is = absurd cc
    dirs D U is = absurd cc
    dirs D D is = refl

    no_pipe : (o : Option Pipe) → o ≡ None → o ≡ Some pipe → ⊥
    no_pipe o a b = absurd cc

    by : (t u : Bool) → shell.same_leg other leg ≡ t → same_dir way dir ≡ u
        → [] ≡ cond (t && u) bytes []
    by true true s d =
        let one = are_same other leg (sym (alike other leg) ∙ s) in
        absurd (no_pipe (pipe_of other.kind way) e
        (ap (λ (l : Leg). pipe_of l.kind way) one ∙ ap (pipe_of leg.kind) (dirs way dir d) ∙ f))
    by true false s d = refl
    by false u s d = refl

answer_bytes : (legs : List Leg) (one : Answer) (rest : List Answer) (leg : Leg) (dir : Dir)
    (pipe : Pipe) → pipe_of leg.kind dir ≡ Some pipe
    → bytes_on (tag_of (behind capturing (met_behind legs one) rest) leg) pipe (line_of legs one)
    ≡ moved_by leg dir one
answer_bytes legs (answer.Move (Some other) way (Some bytes)) rest leg dir pipe is =
    by (pipe_of other.kind way) refl bytes
  where
    by : (o : Option Pipe) → pipe_of other.kind way ≡ o → (piece : List ℕ)
        → bytes_on (tag_of (behind capturing (legs_behind legs (move_on other o piece)) rest) leg)
        pipe (lines_of legs (move_on other o piece))
        ≡ (if shell.same_leg other leg && same_dir way dir then piece else [])
    by None e piece = none_moved other leg way dir pipe piece e is
    by (Some p) e [] =
        by_test (λ (l : List ℕ). [] ≡ l) (shell.same_leg other leg && same_dir way dir) [] []
        (λ t. refl) (λ t. refl)
    by (Some p) e (b ∷ piece) = line_bytes legs rest other p b piece way dir leg pipe e is
answer_bytes legs one rest leg dir pipe is = refl

answer_lines : (legs : List Leg) (one : Answer) (rest : List Answer)
    → AllByRecursion (IsLineOf (behind capturing (met_behind legs one) rest)) (line_of legs one)
answer_lines legs (answer.Move (Some other) way (Some bytes)) rest =
    by (pipe_of other.kind way) refl bytes
  where
    by : (o : Option Pipe) → pipe_of other.kind way ≡ o → (piece : List ℕ)
        → AllByRecursion
        (IsLineOf (behind capturing (legs_behind legs (move_on other o piece)) rest))
        (lines_of legs (move_on other o piece))
    by None e piece = tt
    by (Some p) e [] = tt
    by (Some p) e (b ∷ piece) = (line_is legs rest other p b piece way e, tt)
answer_lines legs one rest = tt

-- ---- a report

bytes_behind : (legs : List Leg) (report : List Answer) (leg : Leg) (dir : Dir) (pipe : Pipe)
    → pipe_of leg.kind dir ≡ Some pipe
    → bytes_on (tag_of (behind capturing legs report) leg) pipe (captured_behind legs report)
    ≡ moved_on leg dir report
bytes_behind legs [] leg dir pipe is = refl
bytes_behind legs (one ∷ report) leg dir pipe is =
    let tag = tag_of (behind capturing legs (one ∷ report)) leg in
    bytes_append tag pipe (line_of legs one) (captured_behind (met_behind legs one) report)
    ∙ ap (λ (front : List ℕ).
    front ++ bytes_on tag pipe (captured_behind (met_behind legs one) report))
    (answer_bytes legs one report leg dir pipe is)
    ∙ ap (λ (more : List ℕ). moved_by leg dir one ++ more)
    (bytes_behind (met_behind legs one) report leg dir pipe is)

lines_behind : (legs : List Leg) (report : List Answer)
    → AllByRecursion (IsLineOf (behind capturing legs report)) (captured_behind legs report)
lines_behind legs [] = tt
lines_behind legs (one ∷ report) =
    all_append (IsLineOf (behind capturing legs (one ∷ report))) (line_of legs one)
    (captured_behind (met_behind legs one) report) (answer_lines legs one report)
    (lines_behind (met_behind legs one) report)

pub bytes_are_moved : (report : List Answer) (leg : Leg) (dir : Dir) (pipe : Pipe)
    → pipe_of leg.kind dir ≡ Some pipe
    → bytes_on (tag_of (legs_met report) leg) pipe (captured report) ≡ moved_on leg dir report
bytes_are_moved report leg dir pipe is = bytes_behind [] report leg dir pipe is

pub lines_are : (report : List Answer)
    → AllByRecursion (IsLineOf (legs_met report)) (captured report)
lines_are report = lines_behind [] report

-- ---- all lines of a tag are of one kind

of_kind : (legs : List Leg) (leg : Leg) (line : Seen) → is_met legs leg ≡ true → IsLineOf legs line
    → has_tag (tag_of legs leg) line ≡ true → IsOfKind leg.kind line
of_kind legs leg line met of here =
    let tag = sym of.tag ∙ eqb-true line.tag (tag_of legs leg) here in
    let one = tags_differ legs of.leg leg of.met tag in
    subst (λ (l : Leg). IsOfKind l.kind line) one
    (subst (λ (o : Option Pipe). IfSome o (λ (p : Pipe).
    (kind_of p ≡ of.leg.kind) × IsTrue (is_seen p))) of.pipe (are_on of.leg.kind of.dir))

kinds_of : (legs : List Leg) (leg : Leg) (lines : List Seen) → is_met legs leg ≡ true
    → AllByRecursion (IsLineOf legs) lines
    → AllByRecursion (IsOfKind leg.kind) (of_tag (tag_of legs leg) lines)
kinds_of legs leg [] met each = tt
kinds_of legs leg (line ∷ lines) met each =
    let more = kinds_of legs leg lines met each.1 in
    by_test (λ (list : List Seen). AllByRecursion (IsOfKind leg.kind) list)
    (has_tag (tag_of legs leg) line) (line ∷ of_tag (tag_of legs leg) lines)
    (of_tag (tag_of legs leg) lines) (λ here. (of_kind legs leg line met each.0 here, more))
    (λ e. more)

pub one_kind : (report : List Answer) (leg : Leg) → is_met (legs_met report) leg ≡ true
    → AllByRecursion (IsOfKind leg.kind)
    (of_tag (tag_of (legs_met report) leg) (captured report))
one_kind report leg met = kinds_of (legs_met report) leg (captured report) met (lines_are report)
