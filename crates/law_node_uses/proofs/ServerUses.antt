-- a server's node that lost no os leg of this number: it has use for that while its work goes on
use Rattle.std.specs.List.{All}
use Rattle.law_order.proofs.Vocabulary.{◌≡◌, ◌||◌, ◌&&◌, ◌∙◌, if◌then◌else◌, ℕ, List, [], ◌∷◌, Bool, true, false, true≢false, not, Some, None, refl, sym, ap, subst, All-nil, and_parts, AllByRecursion, Option}
use Rattle.rh_line.specs.declared.state.State.{State}
use Rattle.rh_line.specs.declared.state.State.TheVariants as states
use Rattle.rh_server.specs.Servers.{new_server}
use Rattle.law_moves.proofs.Vocabulary.{Cause, Leg, Passage, Shell, cause_of, close_where, give_where, recycle_where, take_where, may_up, has_room, is_at_work, is_in_use, is_working, state_of, started, with_leg, AreHeld, IsHeld, EndEvent, Event, ComesUp, Hears, Ends, Breaks, Draws, Ticks, Happens, IsClosed, IsGiven, IsRecycled, IsTaken, Follows, after_end_event, after_end_events, after_event}
use Rattle.law_moves.proofs.Lemmas.{leads_keep}
use Rattle.law_role_server.proofs.Vocabulary.{Server, is_some, only_marks, out_place, acts, out_server as os, rules as server_rules}
use Rattle.law_role_server_rows.proofs.Refusing.Writing.{has_place}
use Rattle.law_node_history.proofs.Vocabulary.{AreAcceptedAtEnd, IsAccepted, came_up, happened, is_up_of}
use Rattle.law_node_causes.proofs.LegChanges.{closed_legs, given_legs, recycled_legs, taken_legs}
use Rattle.law_node_marks.specs.Losing.{AgreeOn, KeepsLeg}
use Rattle.law_node_lasting.proofs.EventMoves.{event_follows}
use Rattle.law_node_uses.proofs.ServerOuts.{give_stands, kept_rules, marks_kept, move_stands, recycle_stands, rises, take_stands}
use Rattle.law_node_uses.proofs.ServerRows.{Stands}

and_true : (a : Bool) → (a && true) ≡ a
and_true true = refl
and_true false = refl

module _ (n : ℕ)
    (same : (node : Shell Server) (event : Event)
    → AgreeOn server_rules (marks_kept n) node.role event
    → after_event (kept_rules n) node event ≡ after_event server_rules node event) where
  -- the leg is kept there
  record At (s : Shell Server) : Type 0 where
    held : AreHeld s
    there : Stands n s.role

  agrees : (s : Server) (event : Event) → KeepsLeg (os n) event
      → AgreeOn server_rules (marks_kept n) s event
  agrees s (Ends leg) keeps =
      ap (λ (b : Bool). only_marks s leg && not b) keeps ∙ and_true (only_marks s leg)
  agrees s (Breaks leg) keeps =
      ap (λ (b : Bool). only_marks s leg && not b) keeps ∙ and_true (only_marks s leg)
  agrees s (ComesUp leg cookie) keeps = tt
  agrees s (Hears leg piece) keeps = tt
  agrees s (Draws leg room) keeps = tt
  agrees s (Ticks now) keeps = tt

  follows : (s : Shell Server) → AreHeld s → (event : Event)
      → Follows (kept_rules n) (started s.role) (after_event (kept_rules n) s event)
  follows s held event = event_follows (kept_rules n) (started s.role) s refl held event

  held_then : (s : Shell Server) → AreHeld s → (event : Event) → KeepsLeg (os n) event
      → AreHeld (after_event server_rules s event)
  held_then s held event keeps =
      subst AreHeld (same s event (agrees s.role event keeps)) (follows s held event).held

  module _ (s : Shell Server) (h : At s) where
    happens : (event : Event) → KeepsLeg (os n) event → At (after_event server_rules s event)
    happens event keeps =
        subst At (same s event (agrees s.role event keeps)) (record {
          held = f.held;
          there =
              subst (Stands n) f.role
              (leads_keep (kept_rules n) (λ (p : Passage Server). Stands n p.role)
              (move_stands n) (started s.role) f.passage f.leads h.there);
        })
      where
        f : Follows (kept_rules n) (started s.role) (after_event (kept_rules n) s event)
        f = follows s h.held event

    gives : (pdu : List ℕ) (o : Option Cause) → At (give_where acts s pdu o).0
    gives pdu (Some why) = h
    gives pdu None = record { held = h.held; there = give_stands n s.role pdu h.there }

    takes : (o : Option Cause) → At (take_where acts s o)
    takes (Some why) = h
    takes None = record { held = h.held; there = take_stands n s.role h.there }

    closes : (o : Option Cause) → At (close_where acts s o)
    closes (Some why) = h
    closes None = record { held = h.held; there = h.there }

    recycles : (x : State) → At (recycle_where acts s x).0
    recycles states.Open = record { held = h.held; there = recycle_stands n s.role h.there }
    recycles states.Opening = h
    recycles states.Ended = h
    recycles (states.Closed why) = h

  event_keeps : (s : Shell Server) → At s → (event : EndEvent) (events : List EndEvent)
      → AllByRecursion (KeepsLeg (os n)) (happened (event ∷ events))
      → At (after_end_event server_rules acts s event)
      × AllByRecursion (KeepsLeg (os n)) (happened events)
  event_keeps s h (Happens event) events keeps = (happens s h event keeps.0, keeps.1)
  event_keeps s h (IsGiven pdu) events keeps = (gives s h pdu (cause_of s.course), keeps)
  event_keeps s h IsTaken events keeps = (takes s h (cause_of s.course), keeps)
  event_keeps s h IsClosed events keeps = (closes s h (cause_of s.course), keeps)
  event_keeps s h IsRecycled events keeps = (recycles s h (state_of server_rules s), keeps)

  events_keep : (s : Shell Server) (events : List EndEvent) → At s
      → AllByRecursion (KeepsLeg (os n)) (happened events)
      → At (after_end_events server_rules acts s events)
  events_keep s [] h keeps = h
  events_keep s (event ∷ events) h keeps =
      let next = event_keeps s h event events keeps in
      events_keep (after_end_event server_rules acts s event) events next.0 next.1

  -- ---- from where it came up

  role_may : (s : Shell Server) (k : Leg) → may_up server_rules s k ≡ true
      → server_rules.may_up s.role k ≡ true
  role_may s k may =
      (and_parts (has_room server_rules s k.kind) (server_rules.may_up s.role k)
      (and_parts (is_working server_rules s)
      (has_room server_rules s k.kind && server_rules.may_up s.role k) may).1).1

  rose : (s : Shell Server) → AreHeld s → (event : Event) → IsAccepted server_rules s event
      → is_up_of (os n) event ≡ true → At (after_event server_rules s event)
  rose s held (ComesUp leg cookie) ok is = record {
    held = held_then s held (ComesUp leg cookie) tt;
    there =
        subst (λ (t : Bool).
        Stands n (if t then with_leg server_rules s leg cookie else s).role) (sym ok)
        (rises n s.role leg cookie (role_may s leg ok) is);
  }
  rose s held (Hears leg piece) ok is = absurd (true≢false (sym is))
  rose s held (Ends leg) ok is = absurd (true≢false (sym is))
  rose s held (Breaks leg) ok is = absurd (true≢false (sym is))
  rose s held (Draws leg room) ok is = absurd (true≢false (sym is))
  rose s held (Ticks now) ok is = absurd (true≢false (sym is))

  -- it comes up now, or later
  either : (s : Shell Server) → AreHeld s → (event : Event) (events : List EndEvent)
      → IsAccepted server_rules s event → KeepsLeg (os n) event
      → AllByRecursion (KeepsLeg (os n)) (happened events)
      → (AreHeld (after_event server_rules s event) → came_up (os n) (happened events) ≡ true
      → At (after_end_events server_rules acts (after_event server_rules s event) events))
      → (is_up_of (os n) event || came_up (os n) (happened events)) ≡ true
      → At (after_end_events server_rules acts (after_event server_rules s event) events)
  either s held event events ok keeps all later up = by (is_up_of (os n) event) refl up
    where
      by : (b : Bool) → is_up_of (os n) event ≡ b
          → (b || came_up (os n) (happened events)) ≡ true
          → At (after_end_events server_rules acts (after_event server_rules s event) events)
      by true now up =
          events_keep (after_event server_rules s event) events (rose s held event ok now) all
      by false now up = later (held_then s held event keeps) up

  from_rise : (s : Shell Server) (events : List EndEvent) → AreHeld s
      → AreAcceptedAtEnd server_rules acts s events → came_up (os n) (happened events) ≡ true
      → AllByRecursion (KeepsLeg (os n)) (happened events)
      → At (after_end_events server_rules acts s events)
  from_rise s [] held ok up keeps = absurd (true≢false (sym up))
  from_rise s (Happens event ∷ events) held ok up keeps =
      either s held event events ok.0 keeps.0 keeps.1
      (λ later_held later_up. from_rise (after_event server_rules s event) events later_held ok.1
      later_up keeps.1) up
  from_rise s (IsGiven pdu ∷ events) held ok up keeps =
      from_rise (after_end_event server_rules acts s (IsGiven pdu)) events
      (subst (All IsHeld) (sym (given_legs server_rules s acts pdu (cause_of s.course))) held) ok.1
      up keeps
  from_rise s (IsTaken ∷ events) held ok up keeps =
      from_rise (after_end_event server_rules acts s IsTaken) events
      (subst (All IsHeld) (sym (taken_legs server_rules s acts (cause_of s.course))) held) ok.1 up
      keeps
  from_rise s (IsClosed ∷ events) held ok up keeps =
      from_rise (after_end_event server_rules acts s IsClosed) events
      (subst (All IsHeld) (sym (closed_legs server_rules s acts (cause_of s.course))) held) ok.1 up
      keeps
  from_rise s (IsRecycled ∷ events) held ok up keeps =
      from_rise (after_end_event server_rules acts s IsRecycled) events
      (subst (All IsHeld) (sym (recycled_legs server_rules s acts (state_of server_rules s))) held)
      ok.1 up keeps

  -- ---- the leg is of use

  used : (s : Server) → Stands n s → is_at_work server_rules s ≡ true
      → is_in_use server_rules s (os n) ≡ true
  used s there works =
      by (is_at_work server_rules s) (is_some (out_place n s.outs)) works (has_place n s.outs there)
    where
      by : (a b : Bool) → a ≡ true → b ≡ true → (a && not (not b)) ≡ true
      by true true e f = refl
      by false b e f = absurd (true≢false (sym e))
      by true false e f = absurd (true≢false (sym f))

  pub in_use : (window : ℕ) (events : List EndEvent)
      → AreAcceptedAtEnd server_rules acts (new_server window) events
      → came_up (os n) (happened events) ≡ true
      → AllByRecursion (KeepsLeg (os n)) (happened events)
      → (let s = (after_end_events server_rules acts (new_server window) events).role in
      is_at_work server_rules s ≡ true → is_in_use server_rules s (os n) ≡ true)
  in_use window events ok up keeps =
      used (after_end_events server_rules acts (new_server window) events).role
      (from_rise (new_server window) events (All-nil IsHeld) ok up keeps).there
