-- the recordings that the order law is about (profile)
use Rattle.std.specs.Prelude.{List, [], ◌∷◌}
use Rattle.rh_record.specs.declared.line.Line.{Line}
use Rattle.rh_record.specs.declared.line.Line.TheVariants.{First, Give}
use Rattle.law_node_history.specs.Changes.{of_line}
use Rattle.rh_world.specs.declared.config.WorldConfig.{WorldConfig}
use Rattle.rh_world.specs.Config.{AreInRange}
use Rattle.rh_world.specs.Roles as roles
use Rattle.law_world_reports.specs.Ordering.Premises.{KeepsOrder}

-- order is kept by lines in each world of roles that settings make
abbrev pub RolesKeepOrder : Type 0
RolesKeepOrder =
    (config : WorldConfig) → AreInRange config
    → KeepsOrder of_line roles.makers (roles.begun config)

-- no PDU is offered before the first line, which a recording begins with: there is no world then
abbrev pub OffersBehindFirst : List Line → Type 0
OffersBehindFirst [] = Unit {0}
OffersBehindFirst (First kind ∷ lines) = Unit {0}
OffersBehindFirst (Give side pdu ∷ lines) = ⊥
OffersBehindFirst (line ∷ lines) = OffersBehindFirst lines
