-- the last lines of a report of roles (profile)
use Rattle.std.specs.Prelude.{◌≡◌, ◌++◌, List, [], ◌∷◌, length}
use Rattle.rh_text.specs.declared.ends.Side.TheVariants.{Client, Server}
use Rattle.rh_record.specs.declared.answer.Answer.{Answer}
use Rattle.rh_record.specs.declared.answer.Answer.TheVariants.{Up, Down}
use Rattle.rh_record.specs.declared.line.Line.{Line}
use Rattle.rh_record.specs.Events.Events.{events, given, offered, taken}
use Rattle.rh_nodes.specs.Steps.{last_of}
use Rattle.rh_world.specs.declared.any_world.AnyWorld.{AnyWorld}
use Rattle.rh_world.specs.declared.any_world.AnyWorld.TheVariants.{Before, Direct, Settings, Roles}
use Rattle.rh_world.specs.Any.{after, answers, told}
use Rattle.rh_world.specs.Roles as roles
use Rattle.law_world_reports.specs.Ordering.Counted.{capped_count}

-- what each end is
abbrev pub ends_of : roles.World → List Answer
ends_of w = last_of roles.rules roles.deeds w Client ∷ last_of roles.rules roles.deeds w Server ∷ []

abbrev pub ends_in : AnyWorld → List Answer
ends_in Before = []
ends_in (Direct w) = []
ends_in (Settings config) = ends_of (roles.begun config)
ends_in (Roles w) = ends_of w

-- what these answers tell of gives and takes in each direction, as far as the counts go
abbrev pub counts_told : List Line → List Answer → List Answer
counts_told lines answered =
    Up (capped_count (length (given Client (offered lines) (events answered))))
    (capped_count (length (taken Server (events answered))))
    ∷ Down (capped_count (length (given Server (offered lines) (events answered))))
    (capped_count (length (taken Client (events answered))))
    ∷ []

-- the report of lines that are done to a world is what they are answered, and then the counts of
-- that and what each end is behind them, and nothing more
abbrev pub EndsWithLast : AnyWorld → List Line → Type 0
EndsWithLast world lines =
    told world lines
    ≡ answers world lines
    ++ (counts_told lines (answers world lines) ++ ends_in (after world lines))
