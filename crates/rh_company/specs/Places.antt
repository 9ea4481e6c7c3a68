-- the place of a proxy: it is made when its client's leg comes up, and let go when it is of no more
-- use (profile)
use Rattle.std.specs.Prelude.{ℕ, ◌+◌, ◌-◌, ◌==◌, List, [], Bool, true, false, min, nat_lt, ◌||◌, if◌then◌else◌, Some, None}
use Rattle.std.specs.declared.option.Option.{Option}
use Rattle.rh_rts.specs.declared.command.Cookie.{Cookie}
use Rattle.rh_line.specs.declared.cause.Cause.{Cause}
use Rattle.rh_line.specs.declared.leg.Leg.{Leg}
use Rattle.rh_shell.specs.Rules.{Rules}
use Rattle.rh_shell.specs.Shells as shell
use Rattle.rh_shell.specs.Shells.{Shell}
use Rattle.rh_company.specs.declared.event.Event.{Event}
use Rattle.rh_company.specs.declared.place.Place.{Place}
use Rattle.rh_company.specs.declared.place.Place.TheVariants.{Absent, Here, Gone}
use Rattle.rh_company.specs.Telling as telling

-- neither ended nor closed
abbrev pub is_working : {S : Type 0} → Rules S → Shell S → Bool
is_working rules node = shell.is_working rules node

-- a proxy that just was made, at this moment, with no leg up
abbrev pub made : {S : Type 0} → Rules S → ℕ → Shell S → Shell S
made rules now node = (shell.tick rules node now).0

-- nothing happens there when time passes, and no leg is wanted
abbrev pub is_idle : {S : Type 0} → Place S → Bool
is_idle Absent = true
is_idle (Here node legs) = false
is_idle (Gone now) = true

abbrev pub is_absent : {S : Type 0} → Place S → Bool
is_absent Absent = true
is_absent (Here node legs) = false
is_absent (Gone now) = false

abbrev pub last_moment : {S : Type 0} → Place S → Option ℕ
last_moment Absent = None
last_moment (Here node legs) = Some node.now
last_moment (Gone now) = Some now

abbrev pub wants : {S : Type 0} → Rules S → Leg → Place S → Bool
wants rules leg Absent = false
wants rules leg (Here node legs) = shell.wants rules node leg
wants rules leg (Gone now) = false

abbrev pub may_up : {S : Type 0} → Rules S → Leg → Place S → Bool
may_up rules leg Absent = false
may_up rules leg (Here node legs) = shell.may_up rules node leg
may_up rules leg (Gone now) = false

-- all legs of a proxy that was let go are finished
abbrev pub finished : {S : Type 0} → Rules S → Leg → Place S → Bool
finished rules leg Absent = false
finished rules leg (Here node legs) = shell.finished rules node leg
finished rules leg (Gone now) = true

-- the end of the type of a count of legs
abbrev pub most_legs : ℕ
most_legs = 4294967295

-- one leg more; their count stands still at the end of its type
abbrev pub up : {S : Type 0} → Rules S → Leg → Cookie → Place S → Place S
up rules leg cookie Absent = Absent
up rules leg cookie (Here node legs) =
    Here (shell.up rules node leg cookie) (min (legs + 1) most_legs)
up rules leg cookie (Gone now) = Gone now

abbrev pub still_here : {S : Type 0} → ℕ → Shell S × Option Cause → Place S × Option Cause
still_here legs told = (Here told.0 legs, told.1)

abbrev pub tell : {S : Type 0} → Rules S → Event → Place S → Place S × Option Cause
tell rules event Absent = (Absent, None)
tell rules event (Here node legs) = still_here legs (telling.tell rules node event)
tell rules event (Gone now) = (Gone now, None)

abbrev pub drawn_here : {S : Type 0} → ℕ → Shell S × List ℕ → Place S × List ℕ
drawn_here legs drawn = (Here drawn.0 legs, drawn.1)

abbrev pub draw : {S : Type 0} → Rules S → Leg → ℕ → Place S → Place S × List ℕ
draw rules leg room Absent = (Absent, [])
draw rules leg room (Here node legs) = drawn_here legs (shell.drawn rules node leg room)
draw rules leg room (Gone now) = (Gone now, [])

-- one leg fewer; a count that stood still does not tell any more how many there are, and stays
abbrev pub one_fewer : ℕ → ℕ
one_fewer legs = if legs == most_legs then legs else legs - 1

-- a leg is not up any more: the proxy goes with the last one, where it ended or closed
abbrev pub leave : {S : Type 0} → Rules S → Place S → Place S
leave rules Absent = Absent
leave rules (Here node legs) =
    if nat_lt 1 legs || is_working rules node then Here node (one_fewer legs) else Gone node.now
leave rules (Gone now) = Gone now
