-- recordings, whatever their form
use Rattle.law_order.proofs.Vocabulary.{◌≡◌, List, [], ◌∷◌, ◌++◌, true, false, refl, ap, subst}
use Rattle.rh_nodes.specs.Steps as steps
use Rattle.law_node_history.proofs.Vocabulary.{Answer, Line, First, Set}
use Rattle.rh_world.specs.Direct as direct
use Rattle.rh_world.specs.Roles as roles
use Rattle.law_world_reports.proofs.Vocabulary.{Direct, Settings, Roles, WorldConfig, run, told, roles_config, with_number, Deed, Offers, Asks, Draws, Feeds, Nothing, deed, NamesIt}
use Rattle.law_world_reports.proofs.Naming.Naming.{AllName, all_name_it, all_others}

-- a direct world reports no end as closed
one_more : (w : direct.World) (done : Deed) (more : List Answer) → AllName more
    → AllName ((direct.act w done).1 ++ more)
one_more w (Offers side pdu) more all = (λ end why is. absurd cc, all)
one_more w (Asks side) more all = (λ end why is. absurd cc, all)
one_more w (Draws dir count) more all = (λ end why is. absurd cc, all)
one_more w (Feeds dir count) more all = (λ end why is. absurd cc, all)
one_more w Nothing more all = all

direct_all : (lines : List Line) (w : direct.World) → AllName (told (Direct w) lines)
direct_all [] w = all_others (direct.last w) refl
direct_all (line ∷ lines) w =
    let next = (direct.step w line).0 in
    one_more w (deed line) (told (Direct next) lines) (direct_all lines next)

told_roles : (lines : List Line) (w : roles.World)
    → steps.told roles.rules roles.makers roles.deeds w lines ≡ told (Roles w) lines
told_roles [] w = refl
told_roles (line ∷ lines) w =
    ap (λ (behind : List Answer). (roles.step line w).1 ++ behind)
    (told_roles lines (roles.step line w).0)

module _ (law : (config : WorldConfig) (lines : List Line)
    → NamesIt (steps.told roles.rules roles.makers roles.deeds (roles.begun config) lines)) where
  roles_name : (lines : List Line) (config : WorldConfig)
      → NamesIt (told (Roles (roles.begun config)) lines)
  roles_name lines config =
      subst NamesIt (told_roles lines (roles.begun config)) (law config lines)

  settings_name : (lines : List Line) (config : WorldConfig)
      → NamesIt (told (Settings config) lines)
  settings_name [] config = roles_name [] config
  settings_name (Set key value ∷ lines) config =
      settings_name lines (with_number config key value)
  settings_name (line ∷ lines) config = roles_name (line ∷ lines) config

  pub run_names : (lines : List Line) → NamesIt (run lines)
  run_names [] = all_name_it [] tt
  run_names (First false ∷ lines) =
      all_name_it (run (First false ∷ lines)) (direct_all (First false ∷ lines) direct.empty)
  run_names (First true ∷ lines) = settings_name lines roles_config
  run_names (line ∷ lines) = run_names lines
