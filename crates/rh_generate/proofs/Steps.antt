-- lines done one after the other come to what they come to together
use Rattle.std.proofs.Common.{◌≡◌, ℕ, ◌+◌, List, [], ◌∷◌, ◌++◌, add-zero, append_assoc}
use Rattle.std.proofs.Common.{refl, sym, ◌∙◌, ap}
use Rattle.std.proofs.lemmas.List.{append-nil}
use Rattle.std.proofs.lemmas.List.Sums.{sum_by-append}
use Rattle.std.specs.List.{sum_by}
use Rattle.rh_pdu.specs.Feeding.{capped}
use Rattle.rh_record.specs.declared.answer.Answer.{Answer}
use Rattle.rh_record.specs.declared.line.Line.{Line}
use Rattle.rh_record.specs.declared.line.Line.TheVariants.{Set}
use Rattle.rh_world.specs.declared.any_world.AnyWorld.{AnyWorld}
use Rattle.rh_world.specs.declared.any_world.AnyWorld.TheVariants.{Before, Direct, Settings, Roles}
use Rattle.rh_world.specs.Any.{act, after, answers, given, last, prepared, run, step, told}
use Rattle.rh_made.specs.Sums.{bytes_of, moved, rounds, rounds_of}
use Rattle.rh_made.proofs.Tallies.{tallied}
use Rattle.rh_generate.specs.Steps.{IsOfRoles, Made, do_all, does, made_by}

-- ---- worlds of roles

pub none_given : (world : AnyWorld) → IsOfRoles world → given world ≡ 0
none_given Before h = absurd h
none_given (Direct world) h = absurd h
none_given (Settings config) h = refl
none_given (Roles world) h = refl

prepared_of_roles : (world : AnyWorld) (line : Line) → IsOfRoles world
    → IsOfRoles (prepared world line)
prepared_of_roles Before line h = absurd h
prepared_of_roles (Direct world) line h = absurd h
prepared_of_roles (Settings config) (Set key value) h = tt
prepared_of_roles (Settings config) line h = tt
prepared_of_roles (Roles world) line h = tt

act_of_roles : (world : AnyWorld) (line : Line) → IsOfRoles world → IsOfRoles (act world line).0
act_of_roles Before line h = absurd h
act_of_roles (Direct world) line h = absurd h
act_of_roles (Settings config) line h = tt
act_of_roles (Roles world) line h = tt

-- a world of roles stays one
pub stays_roles : (world : AnyWorld) (line : Line) → IsOfRoles world
    → IsOfRoles (step world line).0
stays_roles world line h =
    act_of_roles (prepared world line) line (prepared_of_roles world line h)

-- ---- lines

after_append : (world : AnyWorld) (front more : List Line)
    → after world (front ++ more) ≡ after (after world front) more
after_append world [] more = refl
after_append world (line ∷ front) more = after_append (step world line).0 front more

answers_append : (world : AnyWorld) (front more : List Line)
    → answers world (front ++ more) ≡ answers world front ++ answers (after world front) more
answers_append world [] more = refl
answers_append world (line ∷ front) more =
    ap (λ (x : List Answer). (step world line).1 ++ x)
    (answers_append (step world line).0 front more)
    ∙ sym (append_assoc (step world line).1 (answers (step world line).0 front)
    (answers (after (step world line).0 front) more))

one_more : (front : List Line) (line : Line)
    → does (made_by front) line ≡ made_by (front ++ line ∷ [])
unfolding made_by
one_more front line =
    let told = (step (after Before front) line).1 in
    let behind : answers Before (front ++ line ∷ []) ≡ answers Before front ++ told =
    answers_append Before front (line ∷ [])
    ∙ ap (λ (x : List Answer). answers Before front ++ x) (append-nil told) in
    rw (after_append Before front (line ∷ []), behind, tallied (answers Before front) told) refl

-- lines behind lines
pub all_more : (front more : List Line) → do_all (made_by front) more ≡ made_by (front ++ more)
all_more front [] = ap made_by (sym (append-nil front))
all_more front (line ∷ more) =
    ap (λ (made : Made). do_all made more) (one_more front line)
    ∙ all_more (front ++ line ∷ []) more
    ∙ ap made_by (append_assoc front (line ∷ []) more)

-- a report is what its lines were answered, and then its last lines
pub told_is : (world : AnyWorld) (lines : List Line)
    → told world lines ≡ answers world lines ++ last (after world lines)
told_is world [] = refl
told_is world (line ∷ lines) =
    ap (λ (x : List Answer). (step world line).1 ++ x) (told_is (step world line).0 lines)
    ∙ sym (append_assoc (step world line).1 (answers (step world line).0 lines)
    (last (after (step world line).0 lines)))

-- the last lines are no moves and no settlings
last_moves : (world : AnyWorld) → sum_by bytes_of (last world) ≡ 0
last_moves Before = refl
last_moves (Direct world) = refl
last_moves (Settings config) = refl
last_moves (Roles world) = refl

last_settles : (world : AnyWorld) → sum_by rounds_of (last world) ≡ 0
last_settles Before = refl
last_settles (Direct world) = refl
last_settles (Settings config) = refl
last_settles (Roles world) = refl

sum_told : (f : Answer → ℕ) (lines : List Line) → sum_by f (last (after Before lines)) ≡ 0
    → sum_by f (run lines) ≡ sum_by f (answers Before lines)
sum_told f lines none =
    ap (sum_by f) (told_is Before lines)
    ∙ sum_by-append f (answers Before lines) (last (after Before lines))
    ∙ ap (λ (n : ℕ). sum_by f (answers Before lines) + n) none
    ∙ add-zero (sum_by f (answers Before lines))

pub moved_told : (lines : List Line) → moved (run lines) ≡ moved (answers Before lines)
moved_told lines = ap capped (sum_told bytes_of lines (last_moves (after Before lines)))

pub rounds_told : (lines : List Line) → rounds (run lines) ≡ rounds (answers Before lines)
rounds_told lines = ap capped (sum_told rounds_of lines (last_settles (after Before lines)))
