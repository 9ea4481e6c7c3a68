-- nodes that stand in a world closed (profile)
use Rattle.std.specs.Prelude.{ℕ}
use Rattle.rh_line.specs.declared.cause.Cause.{Cause}
use Rattle.rh_record.specs.declared.answer.Who.{Who}
use Rattle.rh_record.specs.declared.answer.Who.TheVariants.{Client, Server, In, Out}
use Rattle.rh_company.specs.declared.place.Place.{Place}
use Rattle.rh_company.specs.declared.place.Place.TheVariants.{Absent, Here, Gone}
use Rattle.rh_company.specs.Company.{Company, Rulebook}
use Rattle.rh_nodes.specs.Opening.{Makers, at_moment}
use Rattle.law_moves.specs.Laws.{ClosedWith}
use Rattle.law_node_history.specs.Histories.{in_place, out_place}

-- a proxy is there, closed with this cause; one that was let go is not
abbrev pub ClosedHere : {S : Type 0} → Cause → Place S → Type 0
ClosedHere why Absent = ⊥
ClosedHere why (Here node legs) = ClosedWith why node.course
ClosedHere why (Gone now) = ⊥

-- the node is there, closed with this cause
abbrev pub StandsClosed : {C S I O : Type 0} → Company C S I O → Who → Cause → Type 0
StandsClosed c Client why = ClosedWith why c.client.course
StandsClosed c Server why = ClosedWith why c.server.course
StandsClosed c (In n) why = ClosedHere why (in_place c n)
StandsClosed c (Out n) why = ClosedHere why (out_place c n)

-- no proxy is closed as it is made
pub record MakesGoing {K C S I O : Type 0} (r : Rulebook C S I O) (m : Makers K I O)
    : Type 0 where
  pub ins : (cast : K) (n now : ℕ) (why : Cause)
      → ClosedWith why (at_moment r.in_proxy (m.in_proxy cast n) now).course → ⊥
  pub outs : (cast : K) (n now : ℕ) (why : Cause)
      → ClosedWith why (at_moment r.out_proxy (m.out_proxy cast n) now).course → ⊥
