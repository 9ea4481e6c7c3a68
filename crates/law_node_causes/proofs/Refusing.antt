-- why a node refuses a request
use Rattle.law_order.proofs.Vocabulary.{◌≡◌, ◌⊎◌, inl, inr, ℕ, ◌+◌, List, [], ◌∷◌, length, take, drop, cond, Bool, true, false, Some, None, refl, sym, ap, ◌∙◌, subst, ◌&&◌, nat_le, Option, drop-drop}
use Rattle.rh_line.specs.declared.cause.Cause.TheVariants as cause
use Rattle.rh_shell.specs.declared.stage.Stage.TheVariants as stage
use Rattle.law_moves.proofs.Vocabulary.{Cookie, Refusal, Unavailable, refusal_text, Cause, Leg, Phase, Course, Going, Closed, Refusing, Rooms, Stop, Rules, NearEnd, first_stage, is_marked, is_ended, is_finished, Turn, goes, hear, draw, Shell, begun, same_leg, end_at, with_end, place, close, refuse, stop_by, stopped, has_room, may_up, with_leg, up, bytes_at, bytes_by, lost, ended_at, ended_by, wants, is_heard, unreached_by, unreached, broken_at, broken_by, put_back, drawn_at}
use Rattle.law_moves.proofs.Vocabulary.{drawn_by, first_silent, passed_by, passed, is_working, is_working_by, state_by, Event, ComesUp, Hears, Ends, Breaks, Draws, Ticks, after_event, after_events}
use Rattle.law_moves.proofs.Lemmas.{both}
use Rattle.law_node_causes.proofs.Sorts.{end_leg}
use Rattle.law_node_causes.proofs.NoHeads.{WaitOn, event_waits, first_waits}
use Rattle.law_node_causes.proofs.HeardBytes.{IsStop, piece_stops}
use Rattle.law_node_causes.specs.Reasons.{RefusesHead}
use Rattle.law_node_causes.specs.Refusals.{IsRestOf, RefusesRequest, TellsUnreached, MayRefuse}

whole_text : (refusal : Refusal) → IsRestOf refusal (refusal_text refusal)
whole_text refusal = record { drawn = 0; is = refl }

less_text : (refusal : Refusal) (rest : List ℕ) (n : ℕ) → IsRestOf refusal rest
    → IsRestOf refusal (drop n rest)
less_text refusal rest n is = record {
  drawn = is.drawn + n;
  is = ap (drop n) is.is ∙ drop-drop n is.drawn (refusal_text refusal);
}

-- a node that closed is not at work
pub not_working : (c : Course) (f : Phase) → is_working_by (state_by c f) ≡ true → c ≡ Going
not_working Going f h = refl
not_working (Closed why) f h = absurd cc
not_working (Refusing why leg rest) f h = absurd cc

-- the same as `MayRefuse`, where a request is refused only on such a leg
abbrev pub MayRefuseAt : {S : Type 0} → Rules S → (Leg → Type 0) → S → Course → Type 0
MayRefuseAt rules On role Going = Unit {0}
MayRefuseAt rules On role (Closed why) = Unit {0}
MayRefuseAt rules On role (Refusing why leg rest) =
    (On leg × RefusesRequest why leg rest) ⊎ TellsUnreached rules role why leg rest

pub on_any : {S : Type 0} (rules : Rules S) (On : Leg → Type 0) (role : S) (c : Course)
    → MayRefuseAt rules On role c → MayRefuse rules role c
on_any rules On role Going may = tt
on_any rules On role (Closed why) may = tt
on_any rules On role (Refusing why leg rest) (inl r) = inl r.1
on_any rules On role (Refusing why leg rest) (inr t) = inr t

module _ {S : Type 0} (rules : Rules S) (On : Leg → Type 0)
    (first : (role : S) (leg : Leg) → rules.may_up role leg ≡ true
    → first_stage (rules.pipe role leg) ≡ stage.Head → On leg) where
  abbrev pub Refuses : Shell S → Type 0
  Refuses s = MayRefuseAt rules On s.role s.course

  -- a node that goes on refuses nobody
  going : (role : S) (c : Course) → c ≡ Going → MayRefuseAt rules On role c
  going role c is = subst (MayRefuseAt rules On role) (sym is) tt

  rest_refuses : (role : S) (why : Cause) (client : Leg) (rest : List ℕ) (n : ℕ)
      → MayRefuseAt rules On role (Refusing why client rest)
      → MayRefuseAt rules On role (Refusing why client (drop n rest))
  rest_refuses role why client rest n (inl r) = inl (
    r.0,
    record {
      place = r.1.place;
      fault = r.1.fault;
      cause = r.1.cause;
      text = less_text _ rest n r.1.text;
    },
  )
  rest_refuses role why client rest n (inr t) = inr (record {
    lost = t.lost;
    wanted = t.wanted;
    cause = t.cause;
    told = t.told;
    text = less_text _ rest n t.text;
  })

  module _ (s : Shell S) (may : Refuses s) (wait : WaitOn On s.legs) where
    either : (b : Bool) (t u : Shell S) → Refuses t → Refuses u → Refuses (cond b t u)
    either true t u p q = p
    either false t u p q = q

    pair : (b : Bool) (t u : Shell S × List ℕ) → Refuses t.0 → Refuses u.0
        → Refuses (cond b t u).0
    pair true t u p q = p
    pair false t u p q = q

    comes_up : (leg : Leg) (cookie : Cookie) → Refuses (up rules s leg cookie)
    comes_up leg cookie = by (may_up rules s leg) refl
      where
        by : (t : Bool) → may_up rules s leg ≡ t
            → Refuses (cond t (with_leg rules s leg cookie) s)
        by false e = may
        by true e =
            going (rules.up s.role leg cookie) s.course
            (not_working s.course (rules.phase s.role)
            (both (is_working rules s) (has_room rules s leg.kind && rules.may_up s.role leg) e).0)

    loses : (leg : Leg) (end : NearEnd) (why : Cause) → s.course ≡ Going
        → Refuses (lost rules s leg end why)
    loses leg end why is =
        either (is_finished rules s.role end) s _ may
        (either (is_ended (rules.phase s.role)) _ _ may
        (either (rules.only_marks s.role leg) _ (close s why)
        (going (rules.mark s.role leg) s.course is) tt))

    hears : (leg : Leg) (piece : List ℕ) → Refuses (bytes_by rules s leg piece s.course)
    hears leg piece = by_course s.course refl
      where
        stops : (end : NearEnd) (t : Turn S) (stop : Stop) (o : Option Refusal)
            → stop.refusal ≡ o → end.leg ≡ leg
            → (end.intake.stage ≡ stage.Head → On leg)
            → IsStop end.leg (end.intake.stage ≡ stage.Head)
            (RefusesHead rules s.role end piece) stop
            → Refuses (stop_by (with_end s leg t.end t.role) leg stop.cause o)
        stops end t stop None e same on is = tt
        stops end t stop (Some refusal) e same on is =
            let refused = is.refusal refusal e in
            let bad = refused.1 in
            inl (
              on refused.0,
              record {
                place = bad.place;
                fault = bad.fault;
                cause = bad.cause ∙ ap (λ (l : Leg). cause.BadHead l bad.place bad.fault) same;
                text = subst (λ (r : Refusal). IsRestOf r (refusal_text refusal)) bad.answer
                    (whole_text refusal);
              },
            )

        by_stop : (end : NearEnd) (t : Turn S) (o : Option Stop) → t.stop ≡ o
            → s.course ≡ Going → end.leg ≡ leg
            → (end.intake.stage ≡ stage.Head → On leg)
            → ((why : Stop) → t.stop ≡ Some why
            → IsStop end.leg (end.intake.stage ≡ stage.Head)
            (RefusesHead rules s.role end piece) why)
            → Refuses (stopped (with_end s leg t.end t.role) leg o)
        by_stop end t None e is same on all = going t.role s.course is
        by_stop end t (Some stop) e is same on all =
            stops end t stop stop.refusal refl same on (all stop e)

        by_end : (o : Option NearEnd) → s.course ≡ Going → end_at s leg ≡ o
            → Refuses (bytes_at rules s leg piece o)
        by_end None is at = may
        by_end (Some end) is at =
            let t = hear rules s.now (goes end s.role) piece in
            let same = end_leg leg s.legs end at in
            by_stop end t t.stop refl is same
            (λ h. subst On same (wait end (record { place = place leg s.legs; at = at }) h))
            (piece_stops rules s.now end s.role piece)

        by_course : (c : Course) → s.course ≡ c → Refuses (bytes_by rules s leg piece c)
        by_course Going is = by_end (end_at s leg) is refl
        by_course (Closed why) is = may
        by_course (Refusing why client rest) is = may

    ends : (leg : Leg) → Refuses (ended_by rules s leg s.course)
    ends leg = by_course s.course refl
      where
        by_end : (o : Option NearEnd) → s.course ≡ Going → Refuses (ended_at rules s leg o)
        by_end None is = may
        by_end (Some end) is = loses leg end (cause.LegEnded leg (length end.intake.held)) is

        by_course : (c : Course) → s.course ≡ c → Refuses (ended_by rules s leg c)
        by_course Going is = by_end (end_at s leg) is
        by_course (Closed why) is = may
        by_course (Refusing why client rest) is = may

    breaks : (leg : Leg) → Refuses (broken_by rules s leg s.course)
    breaks leg = by_course s.course refl
      where
        tells : (client : Leg) → wants rules s leg ≡ true
            → rules.answers_on s.role ≡ Some client
            → Refuses (refuse s (cause.LegBroken leg) client Unavailable)
        tells client wanted told = inr (record {
          lost = leg;
          wanted = (both (has_room rules s leg.kind) (rules.wants s.role leg)
              (both (is_working rules s) (has_room rules s leg.kind && rules.wants s.role leg)
              wanted).1).1;
          cause = refl;
          told = told;
          text = whole_text Unavailable;
        })

        by_client : (o : Option Leg) → wants rules s leg ≡ true → rules.answers_on s.role ≡ o
            → Refuses (unreached_by s (cause.LegBroken leg) o)
        by_client None wanted told = tt
        by_client (Some client) wanted told =
            either (is_heard (end_at s client)) (refuse s (cause.LegBroken leg) client Unavailable)
            (close s (cause.LegBroken leg)) (tells client wanted told) tt

        by_want : (t : Bool) → wants rules s leg ≡ t
            → Refuses (cond t (unreached rules s leg) s)
        by_want true e = by_client (rules.answers_on s.role) e refl
        by_want false e = may

        by_end : (o : Option NearEnd) → s.course ≡ Going → Refuses (broken_at rules s leg o)
        by_end None is = by_want (wants rules s leg) refl
        by_end (Some end) is = loses leg end (cause.LegBroken leg) is

        by_course : (c : Course) → s.course ≡ c → Refuses (broken_by rules s leg c)
        by_course Going is = by_end (end_at s leg) is
        by_course (Closed why) is = may
        by_course (Refusing why client rest) is = may

    draws : (leg : Leg) (n : ℕ) → Refuses (drawn_by rules s leg n s.course).0
    draws leg n = by_course s.course refl
      where
        by_end : (o : Option NearEnd) → s.course ≡ Going → Refuses (drawn_at rules s leg n o).0
        by_end None is = may
        by_end (Some end) is =
            let d = draw rules s.now n end s.role in
            pair (is_marked end.standing) (s, []) (put_back s leg d) may
            (going d.role s.course is)

        by_course : (c : Course) → s.course ≡ c → Refuses (drawn_by rules s leg n c).0
        by_course Going is = by_end (end_at s leg) is
        by_course (Closed why) is = may
        by_course (Refusing why client rest) is =
            pair (same_leg client leg)
            (record s { course = Refusing why client (drop n rest) }, take n rest) (s, [])
            (rest_refuses s.role why client rest n (subst (MayRefuseAt rules On s.role) is may)) may

    ticks : (now : ℕ) → Refuses (after_event rules s (Ticks now))
    ticks now = by_time (is_working rules s && nat_le s.now now) refl
      where
        by : (o : Option (Leg × ℕ)) → s.course ≡ Going
            → Refuses (passed_by rules (record s { now = now }) o)
        by None is = going _ s.course is
        by (Some silent) is = tt

        by_time : (t : Bool) → (is_working rules s && nat_le s.now now) ≡ t
            → Refuses (cond t (passed rules (record s { now = now })) s)
        by_time true e =
            by (first_silent rules s.role now s.legs None)
            (not_working s.course (rules.phase s.role)
            (both (is_working rules s) (nat_le s.now now) e).0)
        by_time false e = may

    event_refuses : (event : Event) → Refuses (after_event rules s event)
    event_refuses (ComesUp leg cookie) = comes_up leg cookie
    event_refuses (Hears leg piece) = hears leg piece
    event_refuses (Ends leg) = ends leg
    event_refuses (Breaks leg) = breaks leg
    event_refuses (Draws leg n) = draws leg n
    event_refuses (Ticks now) = ticks now

  pub run_refuses : (s : Shell S) (events : List Event) → Refuses s → WaitOn On s.legs
      → Refuses (after_events rules s events)
  run_refuses s [] may wait = may
  run_refuses s (event ∷ events) may wait =
      run_refuses (after_event rules s event) events (event_refuses s may wait event)
      (event_waits rules On first s event wait)

  pub refuses_from_start : (role : S) (rooms : Rooms) (events : List Event)
      → Refuses (after_events rules (begun role rooms) events)
  refuses_from_start role rooms events =
      run_refuses (begun role rooms) events tt (first_waits rules On first role rooms)
