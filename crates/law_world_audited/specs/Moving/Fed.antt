-- the bytes that changes feed on a leg in a direction (profile)
use Rattle.std.specs.Prelude.{ℕ, ◌&&◌, ◌++◌, List, [], ◌∷◌, if◌then◌else◌}
use Rattle.rh_text.specs.declared.ends.Dir.{Dir}
use Rattle.rh_line.specs.declared.leg.Leg.{Leg}
use Rattle.rh_shell.specs.Shells.{same_leg}
use Rattle.rh_wires.specs.Legs as legs
use Rattle.rh_company.specs.Company.{Rulebook}
use Rattle.rh_nodes.specs.Giving.{Deeds}
use Rattle.rh_nodes.specs.Opening.{Makers}
use Rattle.rh_nodes.specs.World.{World}
use Rattle.law_node_history.specs.Changes.{Change, IsFed, changed}
use Rattle.law_world_audited.specs.Moving.Moved.{same_dir}

abbrev pub fed_there : {K C S I O : Type 0} → World K C S I O → Leg → Dir → Change → List ℕ
fed_there w leg dir (IsFed other way count) =
    if same_leg other leg && same_dir way dir
    then (legs.take_out other way count w.legs).1
    else []
fed_there w leg dir change = []

abbrev pub all_fed : {K C S I O : Type 0} → Rulebook C S I O → Makers K I O → Deeds C S
    → World K C S I O → Leg → Dir → List Change → List ℕ
all_fed r m d w leg dir [] = []
all_fed r m d w leg dir (change ∷ changes) =
    fed_there w leg dir change ++ all_fed r m d (changed r m d w change) leg dir changes
