-- behind the answers of a report come its last lines, and nothing else
use Rattle.law_order.proofs.Vocabulary.{◌≡◌, ◌++◌, List, [], ◌∷◌, true, refl, sym, ap, ◌∙◌, append_assoc, length, append-nil}
use Rattle.law_moves.proofs.Vocabulary.{Side, Client, Server}
use Rattle.law_node_history.proofs.Vocabulary.{Answer, Up, Down, Line, First, Set, events, given, offered, taken, Counts, none}
use Rattle.rh_world.specs.Any as any
use Rattle.rh_world.specs.Roles as roles
use Rattle.law_world_reports.proofs.Vocabulary.{AnyWorld, Before, Settings, Roles, WorldConfig, after, answers, told, roles_config, with_number, capped_count, EndsWithLast, counts_told, ends_in, ends_of}
use Rattle.law_world_reports.proofs.Ordering.Capping.{counted_none}
use Rattle.law_world_reports.proofs.Ordering.Counting.{CountsTold, reports}

-- the report is what the lines are answered, and the last lines of the world behind them
told_is : (lines : List Line) (world : AnyWorld)
    → told world lines ≡ answers world lines ++ any.last (after world lines)
told_is [] world = refl
told_is (line ∷ lines) world =
    let did = any.step world line in
    ap (λ behind. did.1 ++ behind) (told_is lines did.0)
    ∙ sym (append_assoc did.1 (answers did.0 lines) (any.last (after did.0 lines)))

-- ---- worlds of roles

abbrev counting : (lines : List Line) (w : roles.World)
    → CountsTold roles.rules roles.makers roles.deeds w lines
counting lines w = reports roles.rules roles.makers roles.deeds lines w

front_is : (lines : List Line) (w : roles.World)
    → (counting lines w).front ≡ answers (Roles w) lines
unfolding reports
front_is [] w = refl
front_is (line ∷ lines) w =
    let did = roles.step line w in ap (λ behind. did.1 ++ behind) (front_is lines did.0)

world_is : (lines : List Line) (w : roles.World)
    → after (Roles w) lines ≡ Roles (counting lines w).v
unfolding reports
world_is [] w = refl
world_is (line ∷ lines) w = world_is lines (roles.step line w).0

module _ (lines : List Line) (w : roles.World) (no_up : w.up ≡ none) (no_down : w.down ≡ none)
  where
    abbrev at : CountsTold roles.rules roles.makers roles.deeds w lines
    at = counting lines w

    gives : (end : Side)
        → given end (offered lines) (events (answers (Roles w) lines)) ≡ at.passes.gave end
    gives end =
        ap (λ (xs : List Answer). given end (offered lines) (events xs)) (sym (front_is lines w))
        ∙ ap (given end (offered lines)) (sym (append-nil (events at.front)))
        ∙ at.passes.gives end []
        ∙ append-nil (at.passes.gave end)

    takes : (end : Side) → taken end (events (answers (Roles w) lines)) ≡ at.passes.took end
    takes end =
        ap (λ (xs : List Answer). taken end (events xs)) (sym (front_is lines w))
        ∙ ap (taken end) (sym (append-nil (events at.front)))
        ∙ at.passes.takes end []
        ∙ append-nil (at.passes.took end)

    abbrev counts_lines : Counts → Counts → List Answer
    counts_lines up down = Up up.given up.taken ∷ Down down.given down.taken ∷ []

    counts_are : counts_lines at.v.up at.v.down ≡ counts_told lines (answers (Roles w) lines)
    counts_are =
        let told_here = events (answers (Roles w) lines) in
        let up = counted_none w.up at.v.up (at.passes.gave Client) (at.passes.took Server)
        (given Client (offered lines) told_here) (taken Server told_here) no_up at.passes.up
        (gives Client) (takes Server) in
        let down = counted_none w.down at.v.down (at.passes.gave Server) (at.passes.took Client)
        (given Server (offered lines) told_here) (taken Client told_here) no_down at.passes.down
        (gives Server) (takes Client) in
        ap (λ (counts : Counts). counts_lines counts at.v.down) up
        ∙ ap (λ (counts : Counts). Up (capped_count (length (given Client (offered lines) told_here)))
        (capped_count (length (taken Server told_here)))
        ∷ Down counts.given counts.taken ∷ []) down

    pub roles_end : EndsWithLast (Roles w) lines
    roles_end =
        let answered = answers (Roles w) lines in
        told_is lines (Roles w)
        ∙ ap (λ (world : AnyWorld). answered ++ any.last world) (world_is lines w)
        ∙ ap (λ (counts : List Answer). answered ++ (counts ++ ends_of at.v)) counts_are
        ∙ ap (λ (world : AnyWorld). answered ++ (counts_told lines answered ++ ends_in world))
        (sym (world_is lines w))

settings_end : (lines : List Line) (config : WorldConfig) → EndsWithLast (Settings config) lines
settings_end [] config = roles_end [] (roles.begun config) refl refl
settings_end (Set key value ∷ lines) config =
    settings_end lines (with_number config key value)
settings_end (line ∷ lines) config = roles_end (line ∷ lines) (roles.begun config) refl refl

pub recording_ends : (lines : List Line) → EndsWithLast Before (First true ∷ lines)
recording_ends lines = settings_end lines roles_config
