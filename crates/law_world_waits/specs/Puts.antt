-- nodes that have nothing to put (MS-RPCH 3.2; profile)
use Rattle.std.specs.Prelude.{◌≡◌, ℕ, [], Some, None}
use Rattle.rh_text.specs.declared.ends.Side.{Side}
use Rattle.rh_line.specs.declared.leg.Leg.{Leg}
use Rattle.rh_record.specs.declared.answer.Who.TheVariants as who
use Rattle.rh_shell.specs.declared.course.Course.TheVariants.{Going}
use Rattle.rh_shell.specs.NearEnds.{NearEnd}
use Rattle.rh_shell.specs.Rules.{Rules}
use Rattle.rh_shell.specs.Shells.{Shell, end_at}
use Rattle.rh_company.specs.declared.place.Place.{Place}
use Rattle.rh_company.specs.declared.place.Place.TheVariants.{Absent, Here, Gone}
use Rattle.rh_company.specs.Company.{Rulebook}
use Rattle.rh_nodes.specs.World.{World, at}
use Rattle.law_node_history.specs.Histories.{in_place, out_place}

-- of a leg all that was put was drawn, and the role puts nothing more there
pub record PutsNone {S : Type 0} (rules : Rules S) (role : S) (end : NearEnd) : Type 0 where
  pub begun : end.begun ≡ []
  pub puts : rules.put role end.leg ≡ None

-- where the node goes on and keeps the leg
abbrev pub PutsNoneOn : {S : Type 0} → Rules S → Shell S → Leg → Type 0
PutsNoneOn rules node leg =
    (end : NearEnd) → node.course ≡ Going → end_at node leg ≡ Some end
    → PutsNone rules node.role end

-- a proxy that is there
abbrev pub PutsNoneThere : {S : Type 0} → Rules S → Place S → Leg → Type 0
PutsNoneThere rules Absent leg = Unit {0}
PutsNoneThere rules (Here node legs) leg = PutsNoneOn rules node leg
PutsNoneThere rules (Gone now) leg = Unit {0}

-- so it is at both ends of a leg
pub record PutNothing {K C S I O : Type 0} (r : Rulebook C S I O) (w : World K C S I O) (leg : Leg)
    : Type 0 where
  pub client : (end : Side) → at w leg end ≡ who.Client
      → PutsNoneOn r.client w.company.client leg
  pub server : (end : Side) → at w leg end ≡ who.Server
      → PutsNoneOn r.server w.company.server leg
  pub ins : (n : ℕ) (end : Side) → at w leg end ≡ who.In n
      → PutsNoneThere r.in_proxy (in_place w.company n) leg
  pub outs : (n : ℕ) (end : Side) → at w leg end ≡ who.Out n
      → PutsNoneThere r.out_proxy (out_place w.company n) leg
