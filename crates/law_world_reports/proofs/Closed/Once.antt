-- a recording reports a node as closed once at most
use Rattle.law_order.proofs.Vocabulary.{◌≡◌, ◌≤◌, List, [], ◌∷◌, ◌++◌, true, false, refl, sym, ap, ◌∙◌, subst, arith}
use Rattle.rh_nodes.specs.Steps as nodes
use Rattle.law_node_history.proofs.Vocabulary.{Answer, Who, Line, First, Set, closings_of}
use Rattle.law_node_history.proofs.Lemmas.{told_once}
use Rattle.rh_world.specs.Direct as direct
use Rattle.rh_world.specs.Roles as roles
use Rattle.law_world_reports.proofs.Vocabulary.{Before, Direct, Settings, Roles, WorldConfig, run, told, roles_config, with_number, Deed, Offers, Asks, Draws, Feeds, Nothing, deed}

-- the report of a world of roles is that of its nodes
told_of_roles : (lines : List Line) (w : roles.World)
    → told (Roles w) lines ≡ nodes.told roles.rules roles.makers roles.deeds w lines
told_of_roles [] w = refl
told_of_roles (line ∷ lines) w =
    ap (λ x. (roles.step line w).1 ++ x) (told_of_roles lines (roles.step line w).0)

module _ (node : Who) where
  -- a direct one tells of none
  one_none : (w : direct.World) (done : Deed) (more : List Answer)
      → closings_of node ((direct.act w done).1 ++ more) ≡ closings_of node more
  one_none w (Offers side pdu) more = omega arith
  one_none w (Asks side) more = omega arith
  one_none w (Draws dir count) more = omega arith
  one_none w (Feeds dir count) more = omega arith
  one_none w Nothing more = refl

  direct_none : (lines : List Line) (w : direct.World)
      → closings_of node (told (Direct w) lines) ≡ 0
  direct_none [] w = refl
  direct_none (line ∷ lines) w =
      one_none w (deed line) (told (Direct (direct.step w line).0) lines)
      ∙ direct_none lines (direct.step w line).0

  roles_once : (lines : List Line) (w : roles.World) → w.closed ≡ []
      → closings_of node (told (Roles w) lines) ≤ 1
  roles_once lines w none =
      subst (λ x. closings_of node x ≤ 1) (sym (told_of_roles lines w))
      (told_once roles.rules roles.makers roles.deeds node lines w none)

  settings_once : (lines : List Line) (config : WorldConfig)
      → closings_of node (told (Settings config) lines) ≤ 1
  settings_once [] config = roles_once [] (roles.begun config) refl
  settings_once (Set key value ∷ lines) config =
      settings_once lines (with_number config key value)
  settings_once (line ∷ lines) config = roles_once (line ∷ lines) (roles.begun config) refl

  from_first : (lines : List Line) → closings_of node (told Before lines) ≤ 1
  from_first [] = omega arith
  from_first (First false ∷ lines) =
      let none = direct_none (First false ∷ lines) direct.empty in omega (arith, none)
  from_first (First true ∷ lines) = settings_once lines roles_config
  from_first (line ∷ lines) = from_first lines

  pub run_once : (lines : List Line) → closings_of node (run lines) ≤ 1
  run_once lines = from_first lines
