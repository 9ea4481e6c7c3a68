-- whatever happens at a node of these rules, its role goes on by moves that they allow
use Rattle.law_order.proofs.Vocabulary.{◌≡◌, ℕ, List, [], ◌∷◌, ◌++◌, length, take, drop, cond, Bool, true, false, Some, None, arith, refl, sym, ap, ◌∙◌, subst, All, All-push, All-set, slice_set, ◌&&◌, not, nat_lt, nat_le, and_parts, Option}
use Rattle.rh_line.specs.declared.cause.Cause.TheVariants as cause
use Rattle.rh_shell.specs.declared.answers.Phase.TheVariants as phase
use Rattle.rh_shell.specs.declared.stage.Stage.TheVariants as stage
use Rattle.rh_shell.specs.Intakes.{Intake}
use Rattle.law_moves.proofs.Vocabulary.{IsUnfinished, Cookie, refusal_text, Refusal, Unavailable, Leg, Cause, Phase, Course, Going, Closed, Refusing, Stop, Rules, NearEnd, new_end, marked, is_marked, is_ended, is_finished, Drawn, draw, Turn, goes, hear, Shell, end_at, with_end, place, close, refuse, stop_by, stopped, bytes_at, bytes_by, may_up, has_room, with_leg, seated_at, free_place, up, lose, lost, ended_at, ended_by, wants, is_heard, unreached, unreached_by, broken_at, broken_by, put_back, drawn_at, drawn_by, same_leg, first_silent, passed, passed_by, is_working, is_working_by, state_by, Passage, Up, Marks, MayMove, moved, Event, ComesUp, Hears, Ends, Breaks, Draws, Ticks, after_event, IsHeld, AreHeld, Leads, Follows}
use Rattle.law_moves.proofs.Leading.{leads_none, leads_one}
use Rattle.law_node_streams.proofs.Streams.Draws.{draw_drew}
use Rattle.law_node_streams.proofs.Streams.Ends.{end_has, end_is}
use Rattle.law_node_streams.proofs.Streams.Pieces.{piece_heard}
use Rattle.law_node_streams.proofs.Streams.Pings.{pings}

at_work : (c : Course) (f : Phase) → is_working_by (state_by c f) ≡ true
    → not (is_ended f) ≡ true
at_work Going phase.Opening h = refl
at_work Going phase.Open h = refl
at_work Going phase.Ended h = absurd cc
at_work (Closed why) f h = absurd cc
at_work (Refusing why leg rest) f h = absurd cc

-- nothing is left of a frame that is whole
nothing_held : (held : List ℕ) → held ≡ [] → IsUnfinished held
nothing_held held none long =
    absurd (let size : length held ≡ 0 = ap (λ (x : List ℕ). length x) none in
    omega (arith, size, long))

seated_held : (legs : List NearEnd) (at : ℕ) (new : NearEnd) → All IsHeld legs → IsHeld new
    → All IsHeld (seated_at legs at new)
seated_held legs at new all one = by (nat_lt at (length legs))
  where
    by : (t : Bool) → All IsHeld (cond t (slice_set legs at new) (legs ++ new ∷ []))
    by true = All-set IsHeld legs at new one all
    by false = All-push IsHeld legs new all one

module _ {S : Type 0} (rules : Rules S) (p : Passage S) (s : Shell S) (is : p.role ≡ s.role)
    (held : AreHeld s) where
  abbrev To : Shell S → Type 0
  To = Follows rules p

  none : To s
  none = record { passage = p; leads = leads_none rules p; role = is; held = held }

  course : (t : Shell S) (c : Course) → To t → To (record t { course = c })
  course t c f = record { passage = f.passage; leads = f.leads; role = f.role; held = f.held }

  held_at : (k : Leg) (end : NearEnd) → end_at s k ≡ Some end → IsHeld end
  held_at k end at = end_has IsHeld k s.legs end (sym (end_is k s.legs) ∙ at) held

  with_new : (q : Passage S) (k : Leg) (end : NearEnd) (role : S) → Leads rules p q
      → q.role ≡ role → IsHeld end → To (with_end s k end role)
  with_new q k end role leads same one = record {
    passage = q;
    leads = leads;
    role = same;
    held = All-set IsHeld s.legs (place k s.legs) end one held;
  }

  stops : (t : Shell S) (k : Leg) (o : Option Stop) → To t → To (stopped t k o)
  stops t k None f = f
  stops t k (Some why) f = by why.refusal
    where
      by : (r : Option Refusal) → To (stop_by t k why.cause r)
      by None = course t (Closed why.cause) f
      by (Some refusal) = course t (Refusing why.cause k (refusal_text refusal)) f

  comes_up : (k : Leg) (cookie : Cookie) → To (up rules s k cookie)
  comes_up k cookie = by (may_up rules s k) refl
    where
      by : (t : Bool) → may_up rules s k ≡ t → To (cond t (with_leg rules s k cookie) s)
      by false e = none
      by true e =
          let work = and_parts (is_working rules s)
          (has_room rules s k.kind && rules.may_up s.role k) e in
          let room = and_parts (has_room rules s k.kind) (rules.may_up s.role k) work.1 in
          let may : MayMove rules s.role (Up k cookie) =
          (at_work s.course (rules.phase s.role) work.0, room.1) in
          let new = new_end k (rules.pipe s.role k) s.now in
          record {
            passage = moved rules p (Up k cookie);
            leads = leads_one rules p (Up k cookie)
                (subst (λ (r : S). MayMove rules r (Up k cookie)) (sym is) may);
            role = ap (λ (r : S). rules.up r k cookie) is;
            held = seated_held s.legs (free_place rules s.role k.kind s.legs) new held
                (λ fr. nothing_held new.intake.held refl);
          }

  hears : (k : Leg) (piece : List ℕ) → To (bytes_by rules s k piece s.course)
  hears k piece = by s.course
    where
      on : (o : Option NearEnd) → end_at s k ≡ o → To (bytes_at rules s k piece o)
      on None e = none
      on (Some end) e =
          let t : Turn S = hear rules s.now (goes end s.role) piece in
          let x = piece_heard rules s.now p (goes end s.role) piece is refl (held_at k end e) in
          stops (with_end s k t.end t.role) k t.stop
          (with_new x.passage k t.end t.role
          (record { moves = x.way.moves; allowed = x.way.allowed; reached = x.way.reached })
          x.role x.held)

      by : (c : Course) → To (bytes_by rules s k piece c)
      by Going = on (end_at s k) refl
      by (Closed why) = none
      by (Refusing why client rest) = none

  loses : (k : Leg) (end : NearEnd) (why : Cause) → IsHeld end → To (lost rules s k end why)
  loses k end why one = by (is_finished rules s.role end)
    where
      by_marks : (t : Bool) → rules.only_marks s.role k ≡ t
          → not (is_ended (rules.phase s.role)) ≡ true
          → To (cond t (with_end s k (marked end) (rules.mark s.role k)) (close s why))
      by_marks true e work =
          with_new (moved rules p (Marks k)) k (marked end) (rules.mark s.role k)
          (leads_one rules p (Marks k)
          (subst (λ (r : S). MayMove rules r (Marks k)) (sym is) (work, e)))
          (ap (λ (r : S). rules.mark r k) is) one
      by_marks false e work = course s (Closed why) none

      by_phase : (t : Bool) → is_ended (rules.phase s.role) ≡ t
          → To (cond t (with_end s k (marked end) s.role)
          (cond (rules.only_marks s.role k)
          (with_end s k (marked end) (rules.mark s.role k)) (close s why)))
      by_phase true e = with_new p k (marked end) s.role (leads_none rules p) is one
      by_phase false e = by_marks (rules.only_marks s.role k) refl (ap not e)

      by : (t : Bool) → To (cond t s (lose rules s k end why))
      by true = none
      by false = by_phase (is_ended (rules.phase s.role)) refl

  ends : (k : Leg) → To (ended_by rules s k s.course)
  ends k = by s.course
    where
      on : (o : Option NearEnd) → end_at s k ≡ o → To (ended_at rules s k o)
      on None e = none
      on (Some end) e =
          loses k end (cause.LegEnded k (length end.intake.held)) (held_at k end e)

      by : (c : Course) → To (ended_by rules s k c)
      by Going = on (end_at s k) refl
      by (Closed why) = none
      by (Refusing why client rest) = none

  breaks : (k : Leg) → To (broken_by rules s k s.course)
  breaks k = by s.course
    where
      heard : (why : Cause) (client : Leg) (t : Bool)
          → To (cond t (refuse s why client Unavailable) (close s why))
      heard why client true = course s (Refusing why client (refusal_text Unavailable)) none
      heard why client false = course s (Closed why) none

      told : (why : Cause) (o : Option Leg) → To (unreached_by s why o)
      told why None = course s (Closed why) none
      told why (Some client) = heard why client (is_heard (end_at s client))

      wanted : (t : Bool) → To (cond t (unreached rules s k) s)
      wanted true = told (cause.LegBroken k) (rules.answers_on s.role)
      wanted false = none

      on : (o : Option NearEnd) → end_at s k ≡ o → To (broken_at rules s k o)
      on None e = wanted (wants rules s k)
      on (Some end) e = loses k end (cause.LegBroken k) (held_at k end e)

      by : (c : Course) → To (broken_by rules s k c)
      by Going = on (end_at s k) refl
      by (Closed why) = none
      by (Refusing why client rest) = none

  draws : (k : Leg) (room : ℕ) → To (drawn_by rules s k room s.course).0
  draws k room = by s.course
    where
      marked_or : (end : NearEnd) → end_at s k ≡ Some end → (t : Bool)
          → To (cond {A = Shell S × List ℕ} t (s, [])
          (put_back s k (draw rules s.now room end s.role))).0
      marked_or end e true = none
      marked_or end e false =
          let d : Drawn S = draw rules s.now room end s.role in
          let w = draw_drew rules s.now room p end s.role is in
          with_new w.passage k d.end d.role
          (record { moves = w.way.moves; allowed = w.way.allowed; reached = w.way.reached })
          w.role
          (subst (λ (i : Intake). i.stage ≡ stage.Frames → IsUnfinished i.held)
          (sym w.beside.intake) (held_at k end e))

      on : (o : Option NearEnd) → end_at s k ≡ o → To (drawn_at rules s k room o).0
      on None e = none
      on (Some end) e = marked_or end e (is_marked end.standing)

      rest_of : (why : Cause) (client : Leg) (rest : List ℕ) (t : Bool)
          → To (cond {A = Shell S × List ℕ} t
          (record s { course = Refusing why client (drop room rest) }, take room rest)
          (s, [])).0
      rest_of why client rest true = course s (Refusing why client (drop room rest)) none
      rest_of why client rest false = none

      by : (c : Course) → To (drawn_by rules s k room c).0
      by Going = on (end_at s k) refl
      by (Closed why) = none
      by (Refusing why client rest) = rest_of why client rest (same_leg client k)

  ticks : (now : ℕ) → To (after_event rules s (Ticks now))
  ticks now = by (is_working rules s && nat_le s.now now)
    where
      silent : (o : Option (Leg × ℕ)) → To (passed_by rules (record s { now = now }) o)
      silent (Some one) = record {
        passage = p;
        leads = leads_none rules p;
        role = is;
        held = held;
      }
      silent None =
          let all = pings rules now s.legs p s.role is in
          record {
            passage = all.passage;
            leads = record {
              moves = all.way.moves;
              allowed = all.way.allowed;
              reached = all.way.reached;
            };
            role = all.role_is;
            held = held;
          }

      by : (t : Bool) → To (cond t (passed rules (record s { now = now })) s)
      by true = silent (first_silent rules s.role now s.legs None)
      by false = none

  pub event_follows : (event : Event) → To (after_event rules s event)
  event_follows (ComesUp k cookie) = comes_up k cookie
  event_follows (Hears k piece) = hears k piece
  event_follows (Ends k) = ends k
  event_follows (Breaks k) = breaks k
  event_follows (Draws k room) = draws k room
  event_follows (Ticks now) = ticks now
