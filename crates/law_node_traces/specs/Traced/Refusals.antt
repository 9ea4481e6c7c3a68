-- why a proxy refuses its client, by what it was told (MS-RPCH 2.1.2; which fault has which refusal
-- is this profile's)
use Rattle.std.specs.Prelude.{◌≡◌, ◌⊎◌, ◌++◌, ℕ, List, ◌∷◌}
use mathlib.Core.List.{IsPrefix}
use Rattle.rh_http.specs.declared.refusal.Refusal.{Refusal}
use Rattle.rh_http.specs.declared.refusal.Refusal.TheVariants.{Unavailable}
use Rattle.rh_http.specs.Texts.{refusal_text}
use Rattle.rh_line.specs.declared.cause.Cause.{Cause}
use Rattle.rh_line.specs.declared.cause.Cause.TheVariants as cause
use Rattle.rh_line.specs.declared.leg.Leg.{Leg}
use Rattle.rh_shell.specs.declared.course.Course.TheVariants.{Going, Refusing}
use Rattle.law_moves.specs.Moving.{Event, Breaks, after_event, after_events}
use Rattle.rh_shell.specs.Rules.{Rules}
use Rattle.rh_shell.specs.Shells.{Shell}
use Rattle.law_node_history.specs.Carried.{drawn_on}

-- ---- what is drawn on a leg

-- the first events leave the node going, and all that it drew there it drew by them
pub record DrawsGoing {S : Type 0} (rules : Rules S) (first : Shell S) (leg : Leg)
    (events : List Event) : Type 0 where
  pub before : List Event
  pub behind : List Event
  pub split : events ≡ before ++ behind
  pub going : (after_events rules first before).course ≡ Going
  pub drawn : drawn_on rules first leg events ≡ drawn_on rules first leg before

-- the event behind them makes the node refuse on the leg, and what it draws from then on is a front
-- of that refusal, which has status 503 only where a leg broke
pub record DrawsRefusal {S : Type 0} (rules : Rules S) (first : Shell S) (leg : Leg)
    (events : List Event) : Type 0 where
  pub before : List Event
  pub event : Event
  pub behind : List Event
  pub split : events ≡ before ++ event ∷ behind
  pub going : (after_events rules first before).course ≡ Going
  pub why : Cause
  pub refusal : Refusal
  pub refuses : (after_event rules (after_events rules first before) event).course
      ≡ Refusing why leg (refusal_text refusal)
  pub unreached : refusal ≡ Unavailable
      → (lost : Leg) × (event ≡ Breaks lost) × (why ≡ cause.LegBroken lost)
  pub rest : List ℕ
  pub drawn : drawn_on rules first leg events ≡ drawn_on rules first leg before ++ rest
  pub front : IsPrefix rest (refusal_text refusal)

-- a node that has this leg to the server: the leg that broke is that one
abbrev pub DrawsRightly : {S : Type 0} → Rules S → Shell S → Leg → Leg → List Event → Type 0
DrawsRightly rules first server leg events =
    DrawsGoing rules first leg events
    ⊎ ((draws : DrawsRefusal rules first leg events)
    × (draws.refusal ≡ Unavailable → draws.event ≡ Breaks server))
