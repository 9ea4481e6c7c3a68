-- an out proxy that was not told that its leg to the server is lost is over behind OUT_R1/A10
use Rattle.law_order.proofs.Vocabulary.{◌≡◌, ◌||◌, ◌&&◌, ◌==◌, ◌∙◌, ℕ, Bool, true, false, true≢false, List, [], ◌∷◌, ◌++◌, length, take, drop, cond, Some, None, nat_lt, nat_le, slice_set, refl, sym, ap, subst, and_parts, eq-eqb, All, All-nil, All-push, All-set, AllByRecursion, Option, has_handover}
use Rattle.rh_line.specs.declared.cause.Cause.TheVariants as cause
use Rattle.law_moves.proofs.Vocabulary.{Cookie, Refusal, Unavailable, Cause, Pipe, Leg, Course, Going, Closed, Refusing, Stop, NearEnd, is_ended, is_finished, is_marked, marked, new_end, Drawn, draw, Turn, goes, hear, Rules, Shell, begun, broken_at, broken_by, bytes_at, bytes_by, close, drawn_at, drawn_by, end_at, ended_at, ended_by, first_silent, free_place, has_room, is_heard, is_quiet, is_working, kind_number, lose, lost, may_up, passed, passed_by, pinged, place, put_back, refuse, same_leg, stop_by, stopped, unreached, unreached_by, wants, with_end, with_leg, Move, Passage, AreAllowed, all_moved, started, is_at_work, AreHeld, IsHeld, Follows, Event, ComesUp, Hears, Ends, Breaks, Draws, Ticks, after_event, after_events}
use Rattle.law_moves.proofs.Lemmas.{leg_is}
use Rattle.law_role_outproxy.proofs.Vocabulary.{ROOMS, OutProxyConfig, OutProxy, is_client_down, is_co, is_known, is_os, is_put, is_server_down, new_proxy, rules as proxy_rules, KeepsOrder, came_log, put_items}
use Rattle.law_role_outproxy.specs.Order.{client_leg, server_leg}
use Rattle.law_node_streams.proofs.Streams.Draws.{draw_drew}
use Rattle.law_node_streams.proofs.Streams.Ends.{end_has, end_is, end_leg, end_of}
use Rattle.law_node_streams.proofs.Streams.Pieces.{piece_heard}
use Rattle.law_node_streams.specs.Streams.{Stream}
use Rattle.law_node_ends.specs.Passed.{AsksNoEcho, HeadsAre}
use Rattle.law_node_marks.specs.Losing.{KeepsLeg, marking}
use Rattle.law_node_marks.proofs.ByMoves.{all_moved_same, itself_allowed}
use Rattle.law_node_marks.proofs.MarkingSame.{event_same}
use Rattle.law_node_marks.proofs.OutProxyOver.{Fine, mark_fine, moves_fine, over, ping_fine, up_fine}

-- rules by which no leg is only marked
abbrev quiet_rules : Rules OutProxy
quiet_rules = marking proxy_rules (λ s leg. false)

same_itself : (leg : Leg) → same_leg leg leg ≡ true
same_itself leg =
    ap (λ (t : Bool). t && (leg.number == leg.number))
    (eq-eqb (kind_number leg.kind) (kind_number leg.kind) refl)
    ∙ eq-eqb leg.number leg.number refl

own_of : (a b c d : Bool) → ((b && c) || (a && d)) ≡ true → (a || b) ≡ true
own_of true b c d e = refl
own_of false true c d e = refl
own_of false false c d e = absurd (true≢false (sym e))

other_own : (a b : Bool) → (a || b) ≡ true → b ≡ false → a ≡ true
other_own true b e f = refl
other_own false b e f = absurd (true≢false (sym e ∙ f))

module _ (config : OutProxyConfig) where
  abbrev Kept : OutProxy → Type 0
  Kept = Fine ⊥ (Unit {0}) config.number

  abbrev IsOwn : NearEnd → Type 0
  IsOwn end =
      (same_leg (client_leg config.number) end.leg || same_leg (server_leg config.number) end.leg)
      ≡ true

  -- the leg to the server was not marked, and no legs are kept but its own
  abbrev Holds : Shell OutProxy → Type 0
  Holds s = Kept s.role × All IsOwn s.legs

  -- moves that mark no leg keep this
  by_way : (s : OutProxy) (moves : List Move) (q : Passage OutProxy)
      → AreAllowed quiet_rules (started s) moves
      → all_moved quiet_rules (started s) moves ≡ q → Kept s → Kept q.role
  by_way s moves q allowed reached h =
      subst (λ (x : Passage OutProxy). Kept x.role) reached
      (moves_fine ⊥ (Unit {0}) config.number (λ s leg. false)
      (λ s leg e b. absurd (true≢false (sym e))) (started s) moves allowed (λ none. absurd none) h)

  kept_pinged : (now : ℕ) (ends : List NearEnd) (role : OutProxy) → Kept role
      → Kept (pinged proxy_rules now ends role)
  kept_pinged now [] role h = h
  kept_pinged now (end ∷ ends) role h =
      kept_pinged now ends (cond (is_quiet proxy_rules role now end)
      (proxy_rules.ping role end.leg) role) (by (is_quiet proxy_rules role now end))
    where
      by : (t : Bool) → Kept (cond t (proxy_rules.ping role end.leg) role)
      by true = ping_fine ⊥ (Unit {0}) config.number role end.leg h
      by false = h

  module _ (s : Shell OutProxy) (held : AreHeld s) (h : Holds s) where
    there : (k : Leg) (end : NearEnd) → end_at s k ≡ Some end → end_of k s.legs ≡ Some end
    there k end at = sym (end_is k s.legs) ∙ at

    owns : (k : Leg) (end : NearEnd) → end_at s k ≡ Some end → IsOwn end
    owns k end at = end_has IsOwn k s.legs end (there k end at) h.1

    changes : (k : Leg) (end new : NearEnd) (role : OutProxy) → end_at s k ≡ Some end
        → new.leg ≡ end.leg → Kept role → Holds (with_end s k new role)
    changes k end new role at legs kept = (
      kept,
      All-set IsOwn s.legs (place k s.legs) new
          (subst (λ (l : Leg).
          (same_leg (client_leg config.number) l || same_leg (server_leg config.number) l) ≡ true)
          (sym legs) (owns k end at)) h.1,
    )

    stops : (t : Shell OutProxy) (k : Leg) (o : Option Stop) → Holds t → Holds (stopped t k o)
    stops t k None x = x
    stops t k (Some why) x = by why.refusal
      where
        by : (r : Option Refusal) → Holds (stop_by t k why.cause r)
        by None = x
        by (Some refusal) = x

    hears : (k : Leg) (piece : List ℕ) → Holds (bytes_by quiet_rules s k piece s.course)
    hears k piece = by s.course
      where
        on : (o : Option NearEnd) → end_at s k ≡ o → Holds (bytes_at quiet_rules s k piece o)
        on None e = h
        on (Some end) e =
            let t : Turn OutProxy = hear quiet_rules s.now (goes end s.role) piece in
            let x = piece_heard quiet_rules s.now (started s.role) (goes end s.role) piece refl refl
            (end_has IsHeld k s.legs end (there k end e) held) in
            stops (with_end s k t.end t.role) k t.stop
            (changes k end t.end t.role e x.same.leg
            (subst Kept x.role (by_way s.role x.way.moves x.passage x.way.allowed x.way.reached
            h.0)))

        by : (c : Course) → Holds (bytes_by quiet_rules s k piece c)
        by Going = on (end_at s k) refl
        by (Closed why) = h
        by (Refusing why client rest) = h

    draws : (k : Leg) (room : ℕ) → Holds (drawn_by quiet_rules s k room s.course).0
    draws k room = by s.course
      where
        marked_or : (end : NearEnd) → end_at s k ≡ Some end → (t : Bool)
            → Holds (cond {A = Shell OutProxy × List ℕ} t (s, [])
            (put_back s k (draw quiet_rules s.now room end s.role))).0
        marked_or end e true = h
        marked_or end e false =
            let d : Drawn OutProxy = draw quiet_rules s.now room end s.role in
            let w = draw_drew quiet_rules s.now room (started s.role) end s.role refl in
            changes k end d.end d.role e w.beside.leg
            (subst Kept w.role (by_way s.role w.way.moves w.passage w.way.allowed w.way.reached
            h.0))

        on : (o : Option NearEnd) → end_at s k ≡ o
            → Holds (drawn_at quiet_rules s k room o).0
        on None e = h
        on (Some end) e = marked_or end e (is_marked end.standing)

        rest_of : (why : Cause) (client : Leg) (rest : List ℕ) (t : Bool)
            → Holds (cond {A = Shell OutProxy × List ℕ} t
            (record s { course = Refusing why client (drop room rest) }, take room rest)
            (s, [])).0
        rest_of why client rest true = h
        rest_of why client rest false = h

        by : (c : Course) → Holds (drawn_by quiet_rules s k room c).0
        by Going = on (end_at s k) refl
        by (Closed why) = h
        by (Refusing why client rest) = rest_of why client rest (same_leg client k)

    -- another leg is lost
    module _ (k : Leg) (other : same_leg k (server_leg config.number) ≡ false) where
      not_server : (b : Bool) → same_leg (server_leg config.number) k ≡ b → b ≡ false
      not_server false e = refl
      not_server true e =
          absurd (true≢false (sym (same_itself k)
          ∙ ap (same_leg k) (sym (leg_is (server_leg config.number) k e)) ∙ other))

      is_client : (end : NearEnd) → end_at s k ≡ Some end → is_co s.role k ≡ true
      is_client end at =
          ap (λ (n : ℕ). same_leg (client_leg n) k) h.0.made
          ∙ other_own (same_leg (client_leg config.number) k)
          (same_leg (server_leg config.number) k)
          (subst (λ (l : Leg).
          (same_leg (client_leg config.number) l || same_leg (server_leg config.number) l) ≡ true)
          (leg_is end.leg k (end_leg k s.legs end (there k end at))) (owns k end at))
          (not_server (same_leg (server_leg config.number) k) refl)

      loses : (end : NearEnd) (why : Cause) → end_at s k ≡ Some end
          → Holds (lost proxy_rules s k end why)
      loses end why at = by (is_finished proxy_rules s.role end)
        where
          by_marks : (t : Bool)
              → Holds (cond t (with_end s k (marked end) (proxy_rules.mark s.role k)) (close s why))
          by_marks true =
              changes k end (marked end) (proxy_rules.mark s.role k) at refl
              (mark_fine ⊥ (Unit {0}) config.number s.role k (λ b. is_client end at) h.0)
          by_marks false = h

          by_phase : (t : Bool)
              → Holds (cond t (with_end s k (marked end) s.role)
              (cond (proxy_rules.only_marks s.role k)
              (with_end s k (marked end) (proxy_rules.mark s.role k)) (close s why)))
          by_phase true = changes k end (marked end) s.role at refl h.0
          by_phase false = by_marks (proxy_rules.only_marks s.role k)

          by : (t : Bool) → Holds (cond t s (lose proxy_rules s k end why))
          by true = h
          by false = by_phase (is_ended (proxy_rules.phase s.role))

      ends : Holds (ended_by proxy_rules s k s.course)
      ends = by s.course
        where
          on : (o : Option NearEnd) → end_at s k ≡ o → Holds (ended_at proxy_rules s k o)
          on None e = h
          on (Some end) e = loses end (cause.LegEnded k (length end.intake.held)) e

          by : (c : Course) → Holds (ended_by proxy_rules s k c)
          by Going = on (end_at s k) refl
          by (Closed why) = h
          by (Refusing why client rest) = h

      breaks : Holds (broken_by proxy_rules s k s.course)
      breaks = by s.course
        where
          heard : (why : Cause) (client : Leg) (t : Bool)
              → Holds (cond t (refuse s why client Unavailable) (close s why))
          heard why client true = h
          heard why client false = h

          told : (why : Cause) (o : Option Leg) → Holds (unreached_by s why o)
          told why None = h
          told why (Some client) = heard why client (is_heard (end_at s client))

          wanted : (t : Bool) → Holds (cond t (unreached proxy_rules s k) s)
          wanted true = told (cause.LegBroken k) (proxy_rules.answers_on s.role)
          wanted false = h

          on : (o : Option NearEnd) → end_at s k ≡ o → Holds (broken_at proxy_rules s k o)
          on None e = wanted (wants proxy_rules s k)
          on (Some end) e = loses end (cause.LegBroken k) e

          by : (c : Course) → Holds (broken_by proxy_rules s k c)
          by Going = on (end_at s k) refl
          by (Closed why) = h
          by (Refusing why client rest) = h

    -- a leg comes up that may
    comes_up : (k : Leg) (cookie : Cookie) → Holds (after_event proxy_rules s (ComesUp k cookie))
    comes_up k cookie = by (may_up proxy_rules s k) refl
      where
        new : NearEnd
        new = new_end k (proxy_rules.pipe s.role k) s.now

        at : ℕ
        at = free_place proxy_rules s.role k.kind s.legs

        owned : may_up proxy_rules s k ≡ true → IsOwn new
        owned may =
            let room = (and_parts (is_working proxy_rules s)
            (has_room proxy_rules s k.kind && proxy_rules.may_up s.role k) may).1 in
            let role = (and_parts (has_room proxy_rules s k.kind) (proxy_rules.may_up s.role k)
            room).1 in
            subst (λ (n : ℕ). (same_leg (client_leg n) k || same_leg (server_leg n) k) ≡ true)
            h.0.made
            (own_of (is_co s.role k) (is_os s.role k)
            (is_known s.role.channel && is_server_down s.role.server)
            (is_client_down s.role.client) role)

        seats : IsOwn new → (t : Bool)
            → All IsOwn (cond t (slice_set s.legs at new) (s.legs ++ new ∷ []))
        seats own true = All-set IsOwn s.legs at new own h.1
        seats own false = All-push IsOwn s.legs new h.1 own

        by : (t : Bool) → may_up proxy_rules s k ≡ t
            → Holds (cond t (with_leg proxy_rules s k cookie) s)
        by true e = (
          up_fine ⊥ (Unit {0}) config.number s.role k cookie h.0,
          seats (owned e) (nat_lt at (length s.legs)),
        )
        by false e = h

    ticks : (now : ℕ) → Holds (after_event proxy_rules s (Ticks now))
    ticks now = by (is_working proxy_rules s && nat_le s.now now)
      where
        silent : (o : Option (Leg × ℕ)) → Holds (passed_by proxy_rules (record s { now = now }) o)
        silent (Some one) = h
        silent None = (kept_pinged now s.legs s.role h.0, h.1)

        by : (t : Bool) → Holds (cond t (passed proxy_rules (record s { now = now })) s)
        by true = silent (first_silent proxy_rules s.role now s.legs None)
        by false = h

    after : (event : Event) → KeepsLeg (server_leg config.number) event
        → Holds (after_event proxy_rules s event)
    after (ComesUp k cookie) keeps = comes_up k cookie
    after (Hears k piece) keeps =
        subst Holds (event_same proxy_rules (λ s leg. false) s (Hears k piece) tt) (hears k piece)
    after (Ends k) keeps = ends k keeps
    after (Breaks k) keeps = breaks k keeps
    after (Draws k room) keeps =
        subst Holds (event_same proxy_rules (λ s leg. false) s (Draws k room) tt) (draws k room)
    after (Ticks now) keeps = ticks now

  -- ---- all events

  module _ (follow : (p : Passage OutProxy) (s : Shell OutProxy) (event : Event)
      → p.role ≡ s.role → AreHeld s → Follows proxy_rules p (after_event proxy_rules s event))
    where
      all_hold : (s : Shell OutProxy) (events : List Event) → AreHeld s → Holds s
          → AllByRecursion (KeepsLeg (server_leg config.number)) events
          → Holds (after_events proxy_rules s events)
      all_hold s [] held h keeps = h
      all_hold s (event ∷ events) held h keeps =
          all_hold (after_event proxy_rules s event) events
          (follow (started s.role) s event refl held).held (after s held h event keeps.0) keeps.1

module _ (config : OutProxyConfig) (pipe : Leg → Option Pipe) (events : List Event)
    (stream : Stream proxy_rules (new_proxy config) ROOMS pipe events)
    (heads : AllByRecursion (HeadsAre (AsksNoEcho false)) stream.leads.moves)
    (keeps : AllByRecursion (KeepsLeg (server_leg config.number)) events)
    (law : KeepsOrder config.number
    (all_moved proxy_rules (started (new_proxy config)) stream.leads.moves))
    (follow : (p : Passage OutProxy) (s : Shell OutProxy) (event : Event)
    → p.role ≡ s.role → AreHeld s → Follows proxy_rules p (after_event proxy_rules s event))
  where
    abbrev role : OutProxy
    role = (after_events proxy_rules (begun (new_proxy config) ROOMS) events).role

    kept : Fine ⊥ (Unit {0}) config.number role
    kept =
        (all_hold config follow (begun (new_proxy config) ROOMS) events (All-nil IsHeld) (
          record { made = refl; answer = λ a. refl; server = λ b. refl },
          All-nil (IsOwn config),
        ) keeps).0

    quiet : Fine (Unit {0}) ⊥ config.number role
    quiet =
        subst (λ (s : OutProxy). Fine (Unit {0}) ⊥ config.number s) stream.role
        (subst (λ (p : Passage OutProxy). Fine (Unit {0}) ⊥ config.number p.role)
        (all_moved_same proxy_rules proxy_rules.only_marks (started (new_proxy config))
        stream.leads.moves ∙ stream.leads.reached)
        (moves_fine (Unit {0}) ⊥ config.number proxy_rules.only_marks (λ s leg e b. absurd b)
        (started (new_proxy config)) stream.leads.moves
        (itself_allowed proxy_rules (started (new_proxy config)) stream.leads.moves
        stream.leads.allowed) (λ a. heads)
        (record { made = refl; answer = λ a. refl; server = λ b. refl })))

    order : KeepsOrder config.number stream.passage
    order = subst (KeepsOrder config.number) stream.leads.reached law

    pub kept_over : is_at_work proxy_rules role ≡ false
        → (has_handover (put_items config.number stream.passage.put) ≡ true)
        × (has_handover (came_log stream.passage.came config.number) ≡ true)
    kept_over done =
        let put = ap (λ (s : OutProxy). is_put s.handover) stream.role
        ∙ over role (quiet.answer tt) (kept.server tt) done in (
          sym order.handover_put ∙ put,
          ap (λ (k : ℕ). has_handover (came_log stream.passage.came k))
              (sym (ap (λ (s : OutProxy). s.config.number) stream.role ∙ kept.made))
              ∙ sym order.shelved.holds.finished ∙ (order.handover_came put).0,
        )
