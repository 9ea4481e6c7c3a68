-- what an audit of a recording says
use Rattle.law_order.proofs.Vocabulary.{◌≡◌, ◌⊎◌, ℕ, true, List, [], ◌∷◌, length, refl, sym, subst, inl, inr}
use Rattle.rh_line.specs.declared.leg.LegKind.{LegKind}
use Rattle.rh_record.specs.declared.answer.Answer.{Answer}
use Rattle.rh_record.specs.declared.line.Line.{Line}
use Rattle.rh_record.specs.declared.line.Line.TheVariants.{First}
use Rattle.rh_audit.specs.declared.seen.Seen.{Seen}
use Rattle.rh_audit.specs.declared.prefixed.Prefixed.TheVariants.{Yes}
use Rattle.rh_audit.specs.Audits.{AreTags, carried_by, prefixed}
use Rattle.rh_audit.specs.Chains.{chain, joined}
use Rattle.rh_capture.specs.Captured.{captured}
use Rattle.rh_world.specs.declared.config.WorldConfig.{WorldConfig}
use Rattle.rh_world.specs.declared.any_world.AnyWorld.{AnyWorld}
use Rattle.rh_world.specs.declared.any_world.AnyWorld.TheVariants.{Settings, Roles}
use Rattle.rh_world.specs.Any.{after, answers, run}
use Rattle.rh_world.specs.Config.{roles_config}
use Rattle.rh_world.specs.Roles as roles
use Rattle.law_node_traces.specs.Traced.Ours.{AreOurs}
use Rattle.law_world_reports.specs.ToldHistories.{IsLedTo, history_of}
use Rattle.law_world_order.specs.Directions.{Directions}
use Rattle.law_world_order.specs.Flows.{numbers_of}
use Rattle.law_world_order.specs.Premises.{AreInRange}
use Rattle.law_world_audited.proofs.Moving.NoFaults.{roles_or_none}
use Rattle.law_world_audited.proofs.FaultsNone.{captured_run, no_tags}
use Rattle.law_world_audited.specs.Sides.{TellsSides, TellsSidesIn, TellsSidesOf}

abbrev pub Joins : Type 0
Joins =
    (config : WorldConfig) (world : roles.World)
    → (ours : AreOurs roles.makers (roles.begun config).company config)
    → AreInRange (numbers_of ours) → (by : IsLedTo config world)
    → Directions (numbers_of ours) world (history_of config world by)

module _ (far near : LegKind) where
  -- it says yes from the near legs to the far ones
  abbrev pub SaysYes : List Seen → List ℕ → Type 0
  SaysYes seen tags =
      prefixed (carried_by far seen tags) (carried_by near seen tags)
      ≡ Yes (length (carried_by far seen tags)) (length (carried_by near seen tags))

  -- also where nothing was seen
  none_yes : SaysYes [] []
  unfolding joined chain
  none_yes = refl

  module _ (yes : (said : List Answer) (world : roles.World) (tells : TellsSides said world)
      (tags : List ℕ) → AreTags (captured said) tags
      → Directions (numbers_of tells.chains.told.told.ours) world
      (history_of tells.chains.told.told.told.config world tells.chains.told.told.told.by)
      → SaysYes (captured said) tags) (joins : Joins) where
    of_roles : (said : List Answer) (world : roles.World) → TellsSides said world
        → (tags : List ℕ) → AreTags (captured said) tags → SaysYes (captured said) tags
    of_roles said world tells tags are =
        let sent = tells.chains.told.told in
        yes said world tells tags are
        (joins sent.told.config world sent.ours sent.ranges sent.told.by)

    says : (said : List Answer) (world : AnyWorld)
        → (said ≡ []) ⊎ ((v : roles.World) × (world ≡ Roles v)) → TellsSidesIn said world
        → (tags : List ℕ) → AreTags (captured said) tags → SaysYes (captured said) tags
    says said world (inl e) tells tags are =
        let none = no_tags tags (subst (λ (x : List Answer). AreTags (captured x) tags) e are) in
        subst (λ (x : List Answer). SaysYes (captured x) tags) (sym e)
        (subst (λ (some : List ℕ). SaysYes [] some) (sym none) none_yes)
    says said world (inr has) tells tags are =
        of_roles said has.0 (subst (λ (w : AnyWorld). TellsSidesIn said w) has.1 tells) tags are

    pub recording_says : ((behind : List Line) → TellsSidesOf (First true ∷ behind))
        → (behind : List Line) (tags : List ℕ) → AreTags (captured (run (First true ∷ behind))) tags
        → SaysYes (captured (run (First true ∷ behind))) tags
    recording_says sides behind tags are =
        let lines = First true ∷ behind in
        subst (λ (seen : List Seen). AreTags seen tags → SaysYes seen tags)
        (sym (captured_run lines))
        (says (answers (Settings roles_config) behind) (after (Settings roles_config) behind)
        (roles_or_none behind roles_config) (sides behind) tags) are
