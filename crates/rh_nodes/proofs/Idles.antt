-- places where nothing happens: what is told there changes nothing, and no leg is opened there
use Rattle.std.proofs.Common.{◌≡◌, ℕ, zero, suc, List, [], ◌∷◌, Bool, true, false, ◌&&◌, ◌||◌, if◌then◌else◌, IsTrue, nat_lt, get_or, slice_get, slice_set, Some, None, refl, ap, ◌∙◌}
use Rattle.std.proofs.lemmas.Bool.{false≢true}
use Rattle.std.specs.declared.option.Option.{Option}
use Rattle.rh_line.specs.declared.leg.Leg.{Leg}
use Rattle.rh_line.specs.declared.leg.LegKind.TheVariants.{OutServer, InServer}
use Rattle.rh_record.specs.declared.answer.Who.TheVariants as who
use Rattle.rh_shell.specs.Rules.{Rules}
use Rattle.rh_wires.specs.Numbered.{ask, act, act_by}
use Rattle.rh_company.specs.declared.event.Event.{Event}
use Rattle.rh_company.specs.declared.place.Place.{Place}
use Rattle.rh_company.specs.declared.place.Place.TheVariants.{Absent, Here, Gone}
use Rattle.rh_company.specs.Places as places
use Rattle.rh_company.specs.Company as company
use Rattle.rh_company.specs.Company.{Company, Rulebook, with_ins, with_outs}
use Rattle.rh_nodes.specs.Opening.{Makers, connect}
use Rattle.rh_rts.specs.declared.command.TheConstants.{NO_COOKIE}
use Rattle.rh_nodes.specs.Settling.{leg_at, open_next, opened}
use Rattle.rh_nodes.specs.World.{World, tell, was_told}

-- ---- one place

tell_idle : {S : Type 0} (rules_of : Rules S) (event : Event) (place : Place S)
    → IsTrue (places.is_idle place) → places.tell rules_of event place ≡ (place, None)
tell_idle rules_of event Absent h = refl
tell_idle rules_of event (Here node legs) h = absurd (false≢true h)
tell_idle rules_of event (Gone now) h = refl

wants_idle : {S : Type 0} (rules_of : Rules S) (leg : Leg) (place : Place S)
    → IsTrue (places.is_idle place) → places.wants rules_of leg place ≡ false
wants_idle rules_of leg Absent h = refl
wants_idle rules_of leg (Here node legs) h = absurd (false≢true h)
wants_idle rules_of leg (Gone now) h = refl

may_up_idle : {S : Type 0} (rules_of : Rules S) (leg : Leg) (place : Place S)
    → IsTrue (places.is_idle place) → places.may_up rules_of leg place ≡ false
may_up_idle rules_of leg Absent h = refl
may_up_idle rules_of leg (Here node legs) h = absurd (false≢true h)
may_up_idle rules_of leg (Gone now) h = refl

-- ---- a place in a list

-- what is done behind the first place
act_behind : {X A : Type 0} (does : X → X × A) (none : A) (x : X) (list : List X) (k : ℕ)
    (o : Option X)
    → act_by does none (x ∷ list) (suc k) o
    ≡ (x ∷ (act_by does none list k o).0, (act_by does none list k o).1)
act_behind does none x list k None = refl
act_behind does none x list k (Some y) = refl

-- where what stands at a number is left as it is, nothing changes
pub act_kept : {X A : Type 0} (does : X → X × A) (none : A) (blank : X) (list : List X) (k : ℕ)
    → (does (get_or list k blank) ≡ (get_or list k blank, none))
    → act does none list k ≡ (list, none)
act_kept does none blank [] k h = refl
act_kept does none blank (x ∷ list) zero h =
    ap (λ did. (slice_set (x ∷ list) 0 did.0, did.1)) h
act_kept does none blank (x ∷ list) (suc k) h =
    act_behind does none x list k (slice_get list k)
    ∙ ap (λ did. (x ∷ did.0, did.1)) (act_kept does none blank list k h)

pub tell_at_idle : {S : Type 0} (rules_of : Rules S) (event : Event) (list : List (Place S))
    (k : ℕ) → IsTrue (places.is_idle (get_or list k Absent))
    → act (places.tell rules_of event) None list k ≡ (list, None)
tell_at_idle rules_of event list k h =
    act_kept (places.tell rules_of event) None Absent list k
    (tell_idle rules_of event (get_or list k Absent) h)

-- a question that is answered by no where nothing happens
ask_no : {X : Type 0} (test : X → Bool) (blank : X) (list : List X) (k : ℕ)
    → test (get_or list k blank) ≡ false → ask test false list k ≡ false
ask_no test blank [] k h = refl
ask_no test blank (x ∷ list) zero h = h
ask_no test blank (x ∷ list) (suc k) h = ask_no test blank list k h

pub wants_at_idle : {S : Type 0} (rules_of : Rules S) (leg : Leg) (list : List (Place S)) (k : ℕ)
    → IsTrue (places.is_idle (get_or list k Absent))
    → ask (places.wants rules_of leg) false list k ≡ false
wants_at_idle rules_of leg list k h =
    ask_no (places.wants rules_of leg) Absent list k
    (wants_idle rules_of leg (get_or list k Absent) h)

pub may_up_at_idle : {S : Type 0} (rules_of : Rules S) (leg : Leg) (list : List (Place S))
    (k : ℕ) → IsTrue (places.is_idle (get_or list k Absent))
    → ask (places.may_up rules_of leg) false list k ≡ false
may_up_at_idle rules_of leg list k h =
    ask_no (places.may_up rules_of leg) Absent list k
    (may_up_idle rules_of leg (get_or list k Absent) h)

-- ---- in the world

pub tell_in_idle : {K C S I O : Type 0} (r : Rulebook C S I O) (event : Event)
    (w : World K C S I O) (k : ℕ)
    → IsTrue (places.is_idle (get_or w.company.ins k Absent))
    → tell r w (who.In k) event ≡ w
tell_in_idle r event w k h =
    ap (λ did. was_told w (who.In k) (with_ins w.company did))
    (tell_at_idle r.in_proxy event w.company.ins k h)

pub tell_out_idle : {K C S I O : Type 0} (r : Rulebook C S I O) (event : Event)
    (w : World K C S I O) (k : ℕ)
    → IsTrue (places.is_idle (get_or w.company.outs k Absent))
    → tell r w (who.Out k) event ≡ w
tell_out_idle r event w k h =
    ap (λ did. was_told w (who.Out k) (with_outs w.company did))
    (tell_at_idle r.out_proxy event w.company.outs k h)

-- ---- no leg is opened there

not_wanted : (a x y : Bool) → (a && (false && x || y && false)) ≡ false
not_wanted false x y = refl
not_wanted true x false = refl
not_wanted true x true = refl

-- a leg of the server is not opened, where the node at the client's side neither wants it nor may
-- have it up
not_opened : {W : Type 0} (leg : Leg) (w opened_to : W) (a wants may x y : Bool)
    → wants ≡ false → may ≡ false
    → opened leg (if a && (wants && x || y && may) then (opened_to, true) else (w, false))
    ≡ (w, [])
not_opened leg w opened_to a wants may x y not_wants may_not =
    ap (λ b. opened leg (if a && (b && x || y && may) then (opened_to, true) else (w, false)))
    not_wants
    ∙ ap (λ b. opened leg (if a && (false && x || y && b) then (opened_to, true) else (w, false)))
    may_not
    ∙ ap (λ b. opened leg (if b then (opened_to, true) else (w, false))) (not_wanted a x y)

pub open_out_idle : {K C S I O : Type 0} (r : Rulebook C S I O) (m : Makers K I O)
    (w : World K C S I O) (k : ℕ)
    → IsTrue (places.is_idle (get_or w.company.outs k Absent))
    → open_next r m (leg_at OutServer k) w ≡ (w, [])
open_out_idle r m w k h =
    let leg = leg_at OutServer k in
    not_opened leg w (connect r w leg NO_COOKIE) (nat_lt 0 k)
    (company.wants r w.company (who.Out k) leg) (company.may_up r w.company (who.Out k) leg)
    (company.may_up r w.company who.Server leg) (company.wants r w.company who.Server leg)
    (wants_at_idle r.out_proxy leg w.company.outs k h)
    (may_up_at_idle r.out_proxy leg w.company.outs k h)

pub open_in_idle : {K C S I O : Type 0} (r : Rulebook C S I O) (m : Makers K I O)
    (w : World K C S I O) (k : ℕ)
    → IsTrue (places.is_idle (get_or w.company.ins k Absent))
    → open_next r m (leg_at InServer k) w ≡ (w, [])
open_in_idle r m w k h =
    let leg = leg_at InServer k in
    not_opened leg w (connect r w leg NO_COOKIE) (nat_lt 0 k)
    (company.wants r w.company (who.In k) leg) (company.may_up r w.company (who.In k) leg)
    (company.may_up r w.company who.Server leg) (company.wants r w.company who.Server leg)
    (wants_at_idle r.in_proxy leg w.company.ins k h)
    (may_up_at_idle r.in_proxy leg w.company.ins k h)
