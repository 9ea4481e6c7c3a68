-- whatever happens at a node, its role goes on by moves
use Rattle.law_order.proofs.Vocabulary.{◌≡◌, ℕ, List, [], ◌∷◌, ◌++◌, length, take, drop, cond, Bool, true, false, Some, None, refl, sym, ap, ◌∙◌, subst, All, slice_get, slice_set, ◌&&◌, not, nat_lt, nat_le, Option, All-nil, All-set, All-push, slice_get_within, get_or_from_slice_get}
use Rattle.rh_line.specs.declared.cause.Cause.TheVariants as cause
use Rattle.rh_shell.specs.Shells.{drawn}
use Rattle.rh_shell.specs.declared.answers.Phase.TheVariants as phase
use Rattle.rh_shell.specs.declared.stage.Stage.TheVariants as stage
use Rattle.law_moves.proofs.Vocabulary.{IsUnfinished, Cookie, refusal_text, Refusal, Unavailable, Leg, Cause, Phase, Course, Going, Closed, Refusing, Rooms, Stop, Rules, NearEnd, new_end, marked, is_marked, is_ended, is_finished, goes, hear, draw, Shell, begun, end_at, with_end, place, close, refuse, stop_by, stopped, bytes_at, bytes_by, bytes, may_up, has_room, with_leg, seated_at, free_place, up, lose, lost, ended_at, ended_by, ended, wants, is_heard, unreached_by}
use Rattle.law_moves.proofs.Vocabulary.{unreached, broken_at, broken_by, broken, put_back, drawn_at, drawn_by, same_leg, is_quiet, pinged, first_silent, passed_by, passed, tick, is_working, is_working_by, state_by, Passage, Up, Marks, Pings, MayMove, moved, started, Event, ComesUp, Hears, Ends, Breaks, Draws, Ticks, after_event, after_events, IsHeld, AreHeld, Leads, Follows, IsQuiet, PutsTo, TakesTo, LogsUnmarked, LogsDrawn, LogsHeard, Passes}
use Rattle.law_moves.proofs.Leading.{leads_none, leads_one, leads_then}
use Rattle.law_moves.proofs.TakenPieces.{piece_takes}
use Rattle.law_moves.proofs.Puttings.{draw_puts}
use Rattle.law_moves.proofs.Takings.{nothing_held as new_held}
use Rattle.law_moves.specs.Carrying.{Logs}

pub both : (a b : Bool) → (a && b) ≡ true → (a ≡ true) × (b ≡ true)
both true b h = (refl, h)
both false b h = absurd cc

pub at_work : (c : Course) (f : Phase) → is_working_by (state_by c f) ≡ true → not (is_ended f) ≡ true
at_work Going phase.Opening h = refl
at_work Going phase.Open h = refl
at_work Going phase.Ended h = absurd cc
at_work (Closed why) f h = absurd cc
at_work (Refusing why leg rest) f h = absurd cc

-- what is held of the end at a place
held_at : (ends : List NearEnd) (i : ℕ) (end : NearEnd) → slice_get ends i ≡ Some end
    → All IsHeld ends → IsHeld end
held_at ends i end at all =
    subst IsHeld (get_or_from_slice_get ends i end end at)
    (all i end (slice_get_within ends i end at))

pub seated_held : (legs : List NearEnd) (at : ℕ) (new : NearEnd) → All IsHeld legs → IsHeld new
    → All IsHeld (seated_at legs at new)
seated_held legs at new all one = by (nat_lt at (length legs))
  where
    by : (t : Bool) → All IsHeld (cond t (slice_set legs at new) (legs ++ new ∷ []))
    by true = All-set IsHeld legs at new one all
    by false = All-push IsHeld legs new all one

module _ {S : Type 0} (rules : Rules S) where
  -- moves lead to a passage whose role is the node's, and which logs this
  record Goes (p : Passage S) (L : Passage S → Type 0) (s : Shell S) : Type 0 where
    passage : Passage S
    leads : Leads rules p passage
    role : passage.role ≡ s.role
    held : AreHeld s
    logs : L passage

  -- an end in the place of what it was, and the role behind moves
  goes_end : (p q : Passage S) (L : Passage S → Type 0) (s : Shell S) (leg : Leg) (end : NearEnd)
      (role : S) → Leads rules p q → q.role ≡ role → AreHeld s → IsHeld end → L q
      → Goes p L (with_end s leg end role)
  goes_end p q L s leg end role leads is held one logs = record {
    passage = q;
    leads = leads;
    role = is;
    held = All-set IsHeld s.legs (place leg s.legs) end one held;
    logs = logs;
  }

  -- the node closes, or goes on
  goes_course : (p : Passage S) (L : Passage S → Type 0) (s : Shell S) (c : Course)
      → Goes p L s → Goes p L (record s { course = c })
  goes_course p L s c f = record {
    passage = f.passage;
    leads = f.leads;
    role = f.role;
    held = f.held;
    logs = f.logs;
  }

  stopped_by : (p : Passage S) (L : Passage S → Type 0) (s : Shell S) (leg : Leg) (why : Cause)
      (o : Option Refusal) → Goes p L s → Goes p L (stop_by s leg why o)
  stopped_by p L s leg why None f = goes_course p L s (Closed why) f
  stopped_by p L s leg why (Some refusal) f =
      goes_course p L s (Refusing why leg (refusal_text refusal)) f

  stopped_or : (p : Passage S) (L : Passage S → Type 0) (s : Shell S) (leg : Leg)
      (o : Option Stop) → Goes p L s → Goes p L (stopped s leg o)
  stopped_or p L s leg None f = f
  stopped_or p L s leg (Some stop) f = stopped_by p L s leg stop.cause stop.refusal f

  module _ (p : Passage S) (s : Shell S) (is : p.role ≡ s.role) (held : AreHeld s) where
    none : Goes p (IsQuiet p) s
    none = record {
      passage = p;
      leads = leads_none rules p;
      role = is;
      held = held;
      logs = (refl, refl);
    }

    closes : (c : Course) → Goes p (IsQuiet p) (record s { course = c })
    closes c = goes_course p (IsQuiet p) s c none

    -- ---- a leg comes up

    comes_up : (leg : Leg) (cookie : Cookie) → Goes p (IsQuiet p) (up rules s leg cookie)
    comes_up leg cookie = by (may_up rules s leg) refl
      where
        by : (t : Bool) → may_up rules s leg ≡ t
            → Goes p (IsQuiet p) (cond t (with_leg rules s leg cookie) s)
        by false e = none
        by true e =
            let work = both (is_working rules s)
            (has_room rules s leg.kind && rules.may_up s.role leg) e in
            let room = both (has_room rules s leg.kind) (rules.may_up s.role leg) work.1 in
            let may : MayMove rules s.role (Up leg cookie) =
            (at_work s.course (rules.phase s.role) work.0, room.1) in
            let new = new_end leg (rules.pipe s.role leg) s.now in
            record {
              passage = moved rules p (Up leg cookie);
              leads = leads_one rules p (Up leg cookie)
                  (subst (λ (r : S). MayMove rules r (Up leg cookie)) (sym is) may);
              role = ap (λ (r : S). rules.up r leg cookie) is;
              held = seated_held s.legs (free_place rules s.role leg.kind s.legs) new held
                  (λ fr. new_held new.intake.held refl);
              logs = (refl, refl);
            }

    -- ---- bytes come

    hears : (leg : Leg) (piece : List ℕ)
        → Goes p (λ q. Logs rules p s q (Hears leg piece)) (bytes rules s leg piece).0
    hears leg piece = by_course s.course
      where
        by_end : (o : Option NearEnd) → end_at s leg ≡ o
            → Goes p (λ q. LogsHeard rules p s piece q Going o) (bytes_at rules s leg piece o)
        by_end None e = none
        by_end (Some end) e =
            let t = hear rules s.now (goes end s.role) piece in
            let one = piece_takes rules s.now p (goes end s.role) piece is
            (held_at s.legs (place leg s.legs) end e held) in
            stopped_or p (TakesTo rules p end t piece) (with_end s leg t.end t.role) leg t.stop
            (goes_end p one.passage (TakesTo rules p end t piece) s leg t.end t.role one.leads
            one.role held one.held (record { takes = one; is = refl }))

        by_course : (c : Course)
            → Goes p (λ q. LogsHeard rules p s piece q c (end_at s leg))
            (bytes_by rules s leg piece c)
        by_course Going = by_end (end_at s leg) refl
        by_course (Closed why) = none
        by_course (Refusing why client rest) = none

    -- ---- a leg is lost

    loses : (leg : Leg) (end : NearEnd) (why : Cause) → IsHeld end
        → Goes p (IsQuiet p) (lost rules s leg end why)
    loses leg end why one = by_finished (is_finished rules s.role end)
      where
        by_marks : (t : Bool) → rules.only_marks s.role leg ≡ t
            → not (is_ended (rules.phase s.role)) ≡ true
            → Goes p (IsQuiet p)
            (cond t (with_end s leg (marked end) (rules.mark s.role leg)) (close s why))
        by_marks true e work =
            goes_end p (moved rules p (Marks leg)) (IsQuiet p) s leg (marked end)
            (rules.mark s.role leg)
            (leads_one rules p (Marks leg)
            (subst (λ (r : S). MayMove rules r (Marks leg)) (sym is) (work, e)))
            (ap (λ (r : S). rules.mark r leg) is) held one (refl, refl)
        by_marks false e work = closes (Closed why)

        by_phase : (t : Bool) → is_ended (rules.phase s.role) ≡ t
            → Goes p (IsQuiet p) (cond t (with_end s leg (marked end) s.role)
            (cond (rules.only_marks s.role leg)
            (with_end s leg (marked end) (rules.mark s.role leg)) (close s why)))
        by_phase true e =
            goes_end p p (IsQuiet p) s leg (marked end) s.role (leads_none rules p) is held one
            (refl, refl)
        by_phase false e = by_marks (rules.only_marks s.role leg) refl (ap not e)

        by_finished : (t : Bool) → Goes p (IsQuiet p) (cond t s (lose rules s leg end why))
        by_finished true = none
        by_finished false = by_phase (is_ended (rules.phase s.role)) refl

    ends : (leg : Leg) → Goes p (IsQuiet p) (ended rules s leg).0
    ends leg = by_course s.course
      where
        by_end : (o : Option NearEnd) → end_at s leg ≡ o
            → Goes p (IsQuiet p) (ended_at rules s leg o)
        by_end None e = none
        by_end (Some end) e =
            loses leg end (cause.LegEnded leg (length end.intake.held))
            (held_at s.legs (place leg s.legs) end e held)

        by_course : (c : Course) → Goes p (IsQuiet p) (ended_by rules s leg c)
        by_course Going = by_end (end_at s leg) refl
        by_course (Closed why) = none
        by_course (Refusing why client rest) = none

    breaks : (leg : Leg) → Goes p (IsQuiet p) (broken rules s leg).0
    breaks leg = by_course s.course
      where
        by_heard : (why : Cause) (client : Leg) (t : Bool)
            → Goes p (IsQuiet p) (cond t (refuse s why client Unavailable) (close s why))
        by_heard why client true = closes (Refusing why client (refusal_text Unavailable))
        by_heard why client false = closes (Closed why)

        by_client : (why : Cause) (o : Option Leg)
            → Goes p (IsQuiet p) (unreached_by s why o)
        by_client why None = closes (Closed why)
        by_client why (Some client) = by_heard why client (is_heard (end_at s client))

        by_wants : (t : Bool) → Goes p (IsQuiet p) (cond t (unreached rules s leg) s)
        by_wants true = by_client (cause.LegBroken leg) (rules.answers_on s.role)
        by_wants false = none

        by_end : (o : Option NearEnd) → end_at s leg ≡ o
            → Goes p (IsQuiet p) (broken_at rules s leg o)
        by_end None e = by_wants (wants rules s leg)
        by_end (Some end) e =
            loses leg end (cause.LegBroken leg) (held_at s.legs (place leg s.legs) end e held)

        by_course : (c : Course) → Goes p (IsQuiet p) (broken_by rules s leg c)
        by_course Going = by_end (end_at s leg) refl
        by_course (Closed why) = none
        by_course (Refusing why client rest) = none

    -- ---- bytes are drawn

    draws : (leg : Leg) (room : ℕ)
        → Goes p (λ q. Logs rules p s q (Draws leg room)) (drawn rules s leg room).0
    draws leg room = by_course s.course
      where
        by_marked : (end : NearEnd) → IsHeld end → (t : Bool)
            → Goes p (λ q. LogsUnmarked rules p s end room q t)
            (cond {A = Shell S × List ℕ} t (s, [])
            (put_back s leg (draw rules s.now room end s.role))).0
        by_marked end one true = none
        by_marked end one false =
            let d = draw rules s.now room end s.role in
            let puts = draw_puts rules s.now room p end s.role is in
            goes_end p puts.passage (PutsTo rules p end d) s leg d.end d.role puts.leads puts.role
            held
            (subst (λ i. i.stage ≡ stage.Frames → IsUnfinished i.held) (sym puts.intake) one)
            (record { puts = puts; is = refl })

        by_end : (o : Option NearEnd) → end_at s leg ≡ o
            → Goes p (λ q. LogsDrawn rules p s room q Going o) (drawn_at rules s leg room o).0
        by_end None e = none
        by_end (Some end) e =
            by_marked end (held_at s.legs (place leg s.legs) end e held) (is_marked end.standing)

        by_client : (why : Cause) (client : Leg) (rest : List ℕ) (t : Bool)
            → Goes p (IsQuiet p) (cond {A = Shell S × List ℕ} t
            (record s { course = Refusing why client (drop room rest) }, take room rest)
            (s, [])).0
        by_client why client rest true = closes (Refusing why client (drop room rest))
        by_client why client rest false = none

        by_course : (c : Course)
            → Goes p (λ q. LogsDrawn rules p s room q c (end_at s leg))
            (drawn_by rules s leg room c).0
        by_course Going = by_end (end_at s leg) refl
        by_course (Closed why) = none
        by_course (Refusing why client rest) =
            by_client why client rest (same_leg client leg)

  -- ---- time

  -- moves lead to this role, and log nothing
  record Reaches (p : Passage S) (role : S) : Type 0 where
    passage : Passage S
    leads : Leads rules p passage
    is : passage.role ≡ role
    quiet : IsQuiet p passage

  ping_one : (p : Passage S) (role : S) (leg : Leg) (t : Bool) → p.role ≡ role
      → Reaches p (cond t (rules.ping role leg) role)
  ping_one p role leg true is = record {
    passage = moved rules p (Pings leg);
    leads = leads_one rules p (Pings leg) tt;
    is = ap (λ (r : S). rules.ping r leg) is;
    quiet = (refl, refl);
  }
  ping_one p role leg false is =
      record { passage = p; leads = leads_none rules p; is = is; quiet = (refl, refl) }

  pings : (now : ℕ) (ends : List NearEnd) (p : Passage S) (role : S) → p.role ≡ role
      → Reaches p (pinged rules now ends role)
  pings now [] p role is =
      record { passage = p; leads = leads_none rules p; is = is; quiet = (refl, refl) }
  pings now (end ∷ ends) p role is =
      let one = ping_one p role end.leg (is_quiet rules role now end) is in
      let rest = pings now ends one.passage _ one.is in
      record {
        passage = rest.passage;
        leads = leads_then rules p one.passage rest.passage one.leads rest.leads;
        is = rest.is;
        quiet = (rest.quiet.0 ∙ one.quiet.0, rest.quiet.1 ∙ one.quiet.1);
      }

  passes : (p : Passage S) (s : Shell S) → p.role ≡ s.role → AreHeld s
      → Goes p (IsQuiet p) (passed rules s)
  passes p s is held = by (first_silent rules s.role s.now s.legs None)
    where
      by : (o : Option (Leg × ℕ)) → Goes p (IsQuiet p) (passed_by rules s o)
      by (Some silent) = closes p s is held (Closed (cause.Silent silent.0 silent.1 s.now))
      by None =
          let all = pings s.now s.legs p s.role is in
          record {
            passage = all.passage;
            leads = all.leads;
            role = all.is;
            held = held;
            logs = all.quiet;
          }

  ticks : (p : Passage S) (s : Shell S) (now : ℕ) → p.role ≡ s.role → AreHeld s
      → Goes p (IsQuiet p) (tick rules s now).0
  ticks p s now is held = by (is_working rules s && nat_le s.now now)
    where
      by : (t : Bool) → Goes p (IsQuiet p) (cond t (passed rules (record s { now = now })) s)
      by true = passes p (record s { now = now }) is held
      by false = none p s is held

  -- ---- events

  goes_on : (p : Passage S) (s : Shell S) (event : Event) → p.role ≡ s.role → AreHeld s
      → Goes p (λ q. Logs rules p s q event) (after_event rules s event)
  goes_on p s (ComesUp leg cookie) is held = comes_up p s is held leg cookie
  goes_on p s (Hears leg piece) is held = hears p s is held leg piece
  goes_on p s (Ends leg) is held = ends p s is held leg
  goes_on p s (Breaks leg) is held = breaks p s is held leg
  goes_on p s (Draws leg room) is held = draws p s is held leg room
  goes_on p s (Ticks now) is held = ticks p s now is held

  pub event_passes : (p : Passage S) (s : Shell S) (event : Event) → p.role ≡ s.role → AreHeld s
      → Passes rules p s event
  event_passes p s event is held =
      let g = goes_on p s event is held in
      record {
        follows = record { passage = g.passage; leads = g.leads; role = g.role; held = g.held };
        logs = g.logs;
      }

  pub event_follows : (p : Passage S) (s : Shell S) (event : Event) → p.role ≡ s.role → AreHeld s
      → Follows rules p (after_event rules s event)
  event_follows p s event is held = (event_passes p s event is held).follows

  pub events_follow : (p : Passage S) (s : Shell S) (events : List Event) → p.role ≡ s.role
      → AreHeld s → Follows rules p (after_events rules s events)
  events_follow p s [] is held =
      record { passage = p; leads = leads_none rules p; role = is; held = held }
  events_follow p s (event ∷ events) is held =
      let first = event_follows p s event is held in
      let next = events_follow first.passage (after_event rules s event) events first.role
      first.held in
      record {
        passage = next.passage;
        leads = leads_then rules p first.passage next.passage first.leads next.leads;
        role = next.role;
        held = next.held;
      }

  pub run_follows : (role : S) (rooms : Rooms) (events : List Event)
      → Follows rules (started role) (after_events rules (begun role rooms) events)
  run_follows role rooms events =
      events_follow (started role) (begun role rooms) events refl (All-nil IsHeld)
