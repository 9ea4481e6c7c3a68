-- an is leg of which a server was not told that it is lost: it keeps it, or drew all that it put
use Rattle.std.specs.Prelude.{take as take_list}
use Rattle.law_order.proofs.Vocabulary.{◌≡◌, ◌⊎◌, inl, inr, ◌==◌, ◌&&◌, ◌||◌, ℕ, List, [], ◌∷◌, length, drop, cond, Bool, true, false, true≢false, not, nat_le, Some, None, refl, sym, ap, ◌∙◌, subst, IfSome, All, All-nil, AllByRecursion, Option}
use Rattle.rh_line.specs.declared.cause.Cause.TheVariants as cause
use Rattle.rh_line.specs.declared.state.State.{State}
use Rattle.rh_line.specs.declared.state.State.TheVariants as states
use Rattle.rh_server.specs.declared.state.Leaving.TheVariants as leaving
use Rattle.rh_server.specs.Servers.{new_server}
use Rattle.rh_shell.specs.NearEnds.{is_empty}
use Rattle.law_moves.proofs.Vocabulary.{by_test, some_is, spell, put_into, put_on, Cookie, Refusal, Unavailable, Cause, Leg, LegKind, InServer, Course, Going, Closed, Refusing, Stop, Drawn, draw, drawn, begun_now, filled, left_by, cause_of, Turn, goes, hear, NearEnd, is_ended, is_finished, is_marked, is_over, is_of, marked, new_end, Shell, broken_at, broken_by, bytes_at, bytes_by, close, drawn_at, drawn_by, end_at, ended_at, ended_by, first_silent, free_place, is_heard, is_quiet, is_working, lose, lost, may_up, passed, passed_by, pinged, put_back, refuse}
use Rattle.law_moves.proofs.Vocabulary.{same_leg, state_of, stop_by, stopped, unreached, unreached_by, wants, with_end, with_leg, give_where, take_where, close_where, recycle_where, end_started, started, is_in_use, AreHeld, EndFollows, EndPassage, EndEvent, Event, ComesUp, Hears, Ends, Breaks, Draws, Ticks, Happens, IsClosed, IsGiven, IsHeld, IsRecycled, IsTaken, after_end_event, after_end_events, after_event}
use Rattle.law_moves.proofs.Lemmas.{leg_is}
use Rattle.law_moves.proofs.Puttings.{both}
use Rattle.law_role_server.proofs.Vocabulary.{InLeg, Leaving, Server, has_left, is_lost, stays, in_leg, in_place, in_is_done, in_only_marks, phase_of, Pick, acts, give, take, recycle, rules as server_rules, leg_at}
use Rattle.law_role_server_in.proofs.Steps.{in_use}
use Rattle.law_node_history.proofs.Vocabulary.{happened}
use Rattle.law_node_causes.specs.Once.{AreNewLegsAtEnd, IsNewLeg, IsNewLegAtEnd}
use Rattle.law_node_streams.proofs.Streams.Ends.{AreApart, IsLeftOf, end_has, end_is, end_leg, end_of, same_apart, seated_apart, seated_new, seated_other, set_beside, set_here}
use Rattle.law_node_streams.proofs.Streams.Hears as hearing
use Rattle.law_node_streams.proofs.Streams.Pieces.{piece_heard}
use Rattle.law_node_marks.specs.Losing.{DrewAll, KeepsLeg, MayLose}
use Rattle.law_node_lasting.proofs.ServerLegs.{IsFound, each_found, found_number, has_kept, has_number}
use Rattle.law_node_kept.specs.Keeping.{KeptLegAtEnd}
use Rattle.law_node_kept.proofs.Hearing.{draw_keeps, hear_keeps}
use Rattle.law_node_kept.proofs.ServerKeeps.{IsStaying, Keeps, PutKeeps, Stays, close_keeps, drawn_keeps, give_keeps, mark_keeps, packet_keeps, pdu_keeps, put_keeps, recycle_keeps, take_keeps, up_keeps}

begun_leg : (now : ℕ) (end : NearEnd) (bytes : List ℕ) → (begun_now now end bytes).leg ≡ end.leg
begun_leg now end [] = refl
begun_leg now end (b ∷ bytes) = refl

left_marks : (x : Leaving) (rest : Bool) → is_lost x ≡ false → (has_left x || is_lost x) ≡ true
    → (not (stays x) || rest) ≡ true
left_marks leaving.Stays rest kept done = absurd (true≢false (sym done))
left_marks leaving.InR1B1 rest kept done = refl
left_marks leaving.Left rest kept done = refl
left_marks leaving.Lost rest kept done = absurd (true≢false kept)

module _ (n : ℕ) where
  abbrev own : Leg
  own = leg_at InServer n

  own_same : (k : Leg) → k.number == n ≡ true → k.kind ≡ InServer → same_leg k own ≡ true
  own_same k number kind = ap (λ (x : LegKind). is_of x own && (k.number == n)) kind ∙ number

  weak : (s : Server) → Stays n true s → Stays n false s
  weak s h = record {
    each = h.each;
    there = λ e. absurd (true≢false (sym e));
    work = λ e. absurd (true≢false (sym e));
  }

  -- what is used is kept
  used_stays : (s : Server) → Stays n false s → is_in_use server_rules s own ≡ true
      → Stays n true s
  used_stays s h used =
      let parts = in_use s n used in
      record {
        each = h.each;
        there = λ e. has_kept n s.ins parts.1;
        work = λ e. works (is_ended (phase_of s.stage)) parts.0;
      }
    where
      works : (b : Bool) → not b ≡ true → b ≡ false
      works false e = refl
      works true e = absurd (true≢false (sym e))

  -- all that is put on it is drawn
  abbrev IsDry : List NearEnd → Type 0
  IsDry ends = (end : NearEnd) → end_of own ends ≡ Some end → end.begun ≡ []

  -- the leg is there; or it is not lost, and all is drawn
  abbrev Main : Server → List NearEnd → Type 0
  Main role ends = Stays n true role ⊎ (Stays n false role × IsDry ends)

  abbrev pub Kept : Shell Server → Type 0
  Kept s = AreApart s.legs × Main s.role s.legs

  main_keeps : (s t : Server) (ends : List NearEnd) → Keeps n s t → Main s ends → Main t ends
  main_keeps s t ends keeps (inl h) = inl (keeps true h)
  main_keeps s t ends keeps (inr (h, dry)) = inr (keeps false h, dry)

  -- ---- one end of the leg, which is drawn

  abbrev Own : NearEnd → Server → Type 0
  Own end role =
      (end.leg ≡ own) × (Stays n true role ⊎ (Stays n false role × (end.begun ≡ [])))

  own_fills : (now : ℕ) (end : NearEnd) (role : Server) → Own end role
      → Own (filled server_rules now end role).end (filled server_rules now end role).role
  own_fills now end role h =
      by_test (λ (d : Drawn Server). Own d.end d.role)
      (is_empty end.begun && not (is_over server_rules end role))
      (put_on now end (put_into role (server_rules.put role end.leg))) (drawn end role [])
      (λ e. by (server_rules.put role end.leg) (stays_here e)
      (put_keeps n true role end.leg.number end.leg.kind (stays_here e)))
      (λ e. h)
    where
      stays_here : (is_empty end.begun && not (is_over server_rules end role)) ≡ true
          → Stays n true role
      stays_here e = here h.1
        where
          used : is_in_use server_rules role own ≡ true
          used =
              subst (λ (l : Leg). is_in_use server_rules role l ≡ true) h.0
              (hearing.in_use server_rules end role
              (both (is_empty end.begun) (is_over server_rules end role) e).1)

          here : Stays n true role ⊎ (Stays n false role × (end.begun ≡ []))
              → Stays n true role
          here (inl x) = x
          here (inr (x, dry)) = used_stays role x used

      by : (pick : Pick) → Stays n true role → PutKeeps n true pick
          → Own (put_on now end (put_into role pick)).end (put_on now end (put_into role pick)).role
      by None x keeps = (h.0, inl x)
      by (Some one) x keeps = (begun_leg now end (spell one.1) ∙ h.0, inl keeps)

  own_goes : (end : NearEnd) (role : Server) (b : ℕ) (bs : List ℕ) → end.begun ≡ b ∷ bs
      → Own end role
      → Own (left_by server_rules end role bs).end (left_by server_rules end role bs).role
  own_goes end role b [] e h = (
    h.0,
    inr (
      drawn_keeps n role end.leg.number end.leg.kind false (λ number kind. refl) (by h.1),
      refl,
    ),
  )
    where
      by : Stays n true role ⊎ (Stays n false role × (end.begun ≡ [])) → Stays n false role
      by (inl x) = weak role x
      by (inr (x, dry)) = x
  own_goes end role b (c ∷ cs) e h = (h.0, by h.1)
    where
      by : Stays n true role ⊎ (Stays n false role × (end.begun ≡ []))
          → Stays n true role ⊎ (Stays n false role × (◌≡◌ {A = List ℕ} (c ∷ cs) []))
      by (inl x) = inl x
      by (inr (x, dry)) = absurd (let bad = sym dry ∙ e in cc)

  -- ---- events

  module _ (s : Shell Server) (held : AreHeld s) (k : Kept s) where
    there : (l : Leg) (end : NearEnd) → end_at s l ≡ Some end → end_of l s.legs ≡ Some end
    there l end at = sym (end_is l s.legs) ∙ at

    -- an end changes, and the role: what of the leg's own, and of another
    module _ (l : Leg) (end new : NearEnd) (role : Server) (at : end_at s l ≡ Some end)
        (legs : new.leg ≡ end.leg)
        (beside : same_leg l own ≡ false → Keeps n s.role role)
        (here : same_leg l own ≡ true
        → Stays n true role ⊎ (Stays n false role × (new.begun ≡ []))) where
      abbrev later : List NearEnd
      later = (with_end s l new role).legs

      main_here : same_leg l own ≡ true → Main role later
      main_here e = by (here e)
        where
          found : end_of own later ≡ Some new
          found =
              ap (λ (x : Leg). end_of x later) (sym (leg_is l own e))
              ∙ set_here l s.legs end new (there l end at) legs

          by : Stays n true role ⊎ (Stays n false role × (new.begun ≡ [])) → Main role later
          by (inl h) = inl h
          by (inr (h, dry)) =
              inr (
                h,
                λ x is. ap (λ (y : NearEnd). y.begun) (some_is x new (sym is ∙ found)) ∙ dry,
              )

      main_beside : same_leg l own ≡ false → Main role later
      main_beside e = by k.1
        where
          by : Main s.role s.legs → Main role later
          by (inl h) = inl (beside e true h)
          by (inr (h, dry)) =
              inr (
                beside e false h,
                λ x is. dry x
                    (sym (set_beside l own s.legs end new (there l end at) legs e) ∙ is),
              )

      changes : Kept (with_end s l new role)
      changes = (same_apart l s.legs end new (there l end at) legs k.0, by (same_leg l own) refl)
        where
          by : (b : Bool) → same_leg l own ≡ b → Main role later
          by true e = main_here e
          by false e = main_beside e

    stops : (t : Shell Server) (l : Leg) (o : Option Stop) → Kept t → Kept (stopped t l o)
    stops t l None x = x
    stops t l (Some why) x = by why.refusal
      where
        by : (r : Option Refusal) → Kept (stop_by t l why.cause r)
        by None = x
        by (Some refusal) = x

    -- where the end keeps what is begun
    same_begun : (l : Leg) (end new : NearEnd) (role : Server) → end_at s l ≡ Some end
        → new.begun ≡ end.begun → Keeps n s.role role → same_leg l own ≡ true
        → Stays n true role ⊎ (Stays n false role × (new.begun ≡ []))
    same_begun l end new role at begun keeps e = by k.1
      where
        by : Main s.role s.legs → Stays n true role ⊎ (Stays n false role × (new.begun ≡ []))
        by (inl h) = inl (keeps true h)
        by (inr (h, dry)) =
            inr (
              keeps false h,
              begun ∙ dry end
                  (ap (λ (x : Leg). end_of x s.legs) (sym (leg_is l own e)) ∙ there l end at),
            )

    hears : (l : Leg) (piece : List ℕ) → Kept (bytes_by server_rules s l piece s.course)
    hears l piece = by s.course
      where
        on : (o : Option NearEnd) → end_at s l ≡ o → Kept (bytes_at server_rules s l piece o)
        on None e = k
        on (Some end) e =
            let t : Turn Server = hear server_rules s.now (goes end s.role) piece in
            let x = piece_heard server_rules s.now (started s.role) (goes end s.role) piece refl
            refl (end_has IsHeld l s.legs end (there l end e) held) in
            let keeps : Keeps n s.role t.role =
            hear_keeps server_rules (Keeps n s.role) (λ r leg text h. h)
            (λ r leg count bytes h has_come y. pdu_keeps n r leg count bytes has_come
            (h has_come y))
            (λ r leg count m h has_come y. packet_keeps n r leg count m has_come (h has_come y))
            s.now (goes end s.role) piece (λ has_come y. y) in
            stops (with_end s l t.end t.role) l t.stop
            (changes l end t.end t.role e x.same.leg (λ other. keeps)
            (same_begun l end t.end t.role e x.same.begun keeps))

        by : (c : Course) → Kept (bytes_by server_rules s l piece c)
        by Going = on (end_at s l) refl
        by (Closed why) = k
        by (Refusing why client rest) = k

    -- ---- what is drawn of another leg

    module _ (l : Leg) (other : same_leg l own ≡ false) where
      not_own : (x : Leg) → x ≡ l → x.number == n ≡ true → x.kind ≡ InServer → (b : Bool)
          → b ≡ false
      not_own x is number kind b =
          absurd (true≢false (sym (own_same x number kind)
          ∙ ap (λ (y : Leg). same_leg y own) is ∙ other))

      abbrev Beside : NearEnd → Server → Type 0
      Beside end role = (end.leg ≡ l) × Keeps n s.role role

      beside_fills : (now : ℕ) (end : NearEnd) (role : Server) → Beside end role
          → Beside (filled server_rules now end role).end (filled server_rules now end role).role
      beside_fills now end role h =
          by_test (λ (d : Drawn Server). Beside d.end d.role)
          (is_empty end.begun && not (is_over server_rules end role))
          (put_on now end (put_into role (server_rules.put role end.leg))) (drawn end role [])
          (λ e. by (server_rules.put role end.leg) (λ has_come x.
          put_keeps n has_come role end.leg.number end.leg.kind (h.1 has_come x)))
          (λ e. h)
        where
          by : (pick : Pick)
              → ((has_come : Bool) → Stays n has_come s.role → PutKeeps n has_come pick)
              → Beside (put_on now end (put_into role pick)).end
              (put_on now end (put_into role pick)).role
          by None keeps = h
          by (Some one) keeps = (
            begun_leg now end (spell one.1) ∙ h.0,
            λ has_come x. keeps has_come x,
          )

      beside_goes : (end : NearEnd) (role : Server) (b : ℕ) (bs : List ℕ) → end.begun ≡ b ∷ bs
          → Beside end role
          → Beside (left_by server_rules end role bs).end (left_by server_rules end role bs).role
      beside_goes end role b [] e h = (
        h.0,
        λ has_come x. drawn_keeps n role end.leg.number end.leg.kind has_come
            (λ number kind. not_own end.leg h.0 number kind has_come) (h.1 has_come x),
      )
      beside_goes end role b (c ∷ cs) e h = (h.0, h.1)

    module _ (l : Leg) (room : ℕ) (end : NearEnd) (at : end_at s l ≡ Some end) where
      abbrev d : Drawn Server
      d = draw server_rules s.now room end s.role

      leg_there : end.leg ≡ l
      leg_there = leg_is end.leg l (end_leg l s.legs end (there l end at))

      aside : (other : same_leg l own ≡ false) → Beside l other d.end d.role
      aside other =
          draw_keeps server_rules (Beside l other) (beside_fills l other)
          (beside_goes l other) s.now room end s.role (leg_there, λ has_come x. x)

      here : (same : same_leg l own ≡ true) → Own d.end d.role
      here same =
          draw_keeps server_rules Own own_fills own_goes s.now room end s.role
          (leg_there ∙ leg_is l own same, start k.1)
        where
          start : Main s.role s.legs
              → Stays n true s.role ⊎ (Stays n false s.role × (end.begun ≡ []))
          start (inl h) = inl h
          start (inr (h, dry)) =
              inr (
                h,
                dry end (ap (λ (x : Leg). end_of x s.legs) (sym (leg_is l own same))
                    ∙ there l end at),
              )

      legs : d.end.leg ≡ end.leg
      legs = by (same_leg l own) refl
        where
          by : (b : Bool) → same_leg l own ≡ b → d.end.leg ≡ end.leg
          by true e = (here e).0 ∙ sym (leg_there ∙ leg_is l own e)
          by false e = (aside e).0 ∙ sym leg_there

      drew : Kept (with_end s l d.end d.role)
      drew = changes l end d.end d.role at legs (λ e. (aside e).1) (λ e. (here e).1)

    draws : (l : Leg) (room : ℕ) → Kept (drawn_by server_rules s l room s.course).0
    draws l room = by s.course
      where
        marked_or : (end : NearEnd) → end_at s l ≡ Some end → (t : Bool)
            → Kept (cond {A = Shell Server × List ℕ} t (s, [])
            (put_back s l (draw server_rules s.now room end s.role))).0
        marked_or end e true = k
        marked_or end e false = drew l room end e

        on : (o : Option NearEnd) → end_at s l ≡ o → Kept (drawn_at server_rules s l room o).0
        on None e = k
        on (Some end) e = marked_or end e (is_marked end.standing)

        rest_of : (why : Cause) (client : Leg) (rest : List ℕ) (t : Bool)
            → Kept (cond {A = Shell Server × List ℕ} t
            (record s { course = Refusing why client (drop room rest) }, take_list room rest)
            (s, [])).0
        rest_of why client rest true = k
        rest_of why client rest false = k

        by : (c : Course) → Kept (drawn_by server_rules s l room c).0
        by Going = on (end_at s l) refl
        by (Closed why) = k
        by (Refusing why client rest) = rest_of why client rest (same_leg client l)

    -- ---- another leg is lost

    module _ (l : Leg) (other : same_leg l own ≡ false) where
      marks : (end : NearEnd) (role : Server) → end_at s l ≡ Some end → Keeps n s.role role
          → Kept (with_end s l (marked end) role)
      marks end role at keeps =
          changes l end (marked end) role at refl (λ e. keeps)
          (λ e. absurd (true≢false (sym e ∙ other)))

      mark_role : Keeps n s.role (server_rules.mark s.role l)
      mark_role = mark_keeps n s.role l.number l.kind (λ kind. by kind (l.number == n) refl)
        where
          by : l.kind ≡ InServer → (b : Bool) → l.number == n ≡ b → l.number == n ≡ false
          by kind true e = absurd (true≢false (sym (own_same l e kind) ∙ other))
          by kind false e = e

      loses : (end : NearEnd) (why : Cause) → end_at s l ≡ Some end
          → Kept (lost server_rules s l end why)
      loses end why at = by (is_finished server_rules s.role end)
        where
          by_marks : (t : Bool)
              → Kept (cond t (with_end s l (marked end) (server_rules.mark s.role l))
              (close s why))
          by_marks true = marks end (server_rules.mark s.role l) at mark_role
          by_marks false = k

          by_phase : (t : Bool)
              → Kept (cond t (with_end s l (marked end) s.role)
              (cond (server_rules.only_marks s.role l)
              (with_end s l (marked end) (server_rules.mark s.role l)) (close s why)))
          by_phase true = marks end s.role at (λ has_come x. x)
          by_phase false = by_marks (server_rules.only_marks s.role l)

          by : (t : Bool) → Kept (cond t s (lose server_rules s l end why))
          by true = k
          by false = by_phase (is_ended (server_rules.phase s.role))

      ends : Kept (ended_by server_rules s l s.course)
      ends = by s.course
        where
          on : (o : Option NearEnd) → end_at s l ≡ o → Kept (ended_at server_rules s l o)
          on None e = k
          on (Some end) e = loses end (cause.LegEnded l (length end.intake.held)) e

          by : (c : Course) → Kept (ended_by server_rules s l c)
          by Going = on (end_at s l) refl
          by (Closed why) = k
          by (Refusing why client rest) = k

      breaks : Kept (broken_by server_rules s l s.course)
      breaks = by s.course
        where
          heard : (why : Cause) (client : Leg) (t : Bool)
              → Kept (cond t (refuse s why client Unavailable) (close s why))
          heard why client true = k
          heard why client false = k

          told : (why : Cause) (o : Option Leg) → Kept (unreached_by s why o)
          told why None = k
          told why (Some client) = heard why client (is_heard (end_at s client))

          wanted : (t : Bool) → Kept (cond t (unreached server_rules s l) s)
          wanted true = told (cause.LegBroken l) (server_rules.answers_on s.role)
          wanted false = k

          on : (o : Option NearEnd) → end_at s l ≡ o → Kept (broken_at server_rules s l o)
          on None e = wanted (wants server_rules s l)
          on (Some end) e = loses end (cause.LegBroken l) e

          by : (c : Course) → Kept (broken_by server_rules s l c)
          by Going = on (end_at s l) refl
          by (Closed why) = k
          by (Refusing why client rest) = k

    -- ---- a leg comes up, and time passes

    comes_up : (l : Leg) (cookie : Cookie) → IsNewLeg server_rules s (ComesUp l cookie)
        → Kept (after_event server_rules s (ComesUp l cookie))
    comes_up l cookie fresh = by (may_up server_rules s l) refl
      where
        new : NearEnd
        new = new_end l (server_rules.pipe s.role l) s.now

        at : ℕ
        at = free_place server_rules s.role l.kind s.legs

        none : may_up server_rules s l ≡ true → end_of l s.legs ≡ None
        none may = sym (end_is l s.legs) ∙ fresh may

        main : may_up server_rules s l ≡ true
            → Main (server_rules.up s.role l cookie) (with_leg server_rules s l cookie).legs
        main may = from k.1
          where
            dry : IsDry s.legs → IsDry (with_leg server_rules s l cookie).legs
            dry before x is = by (same_leg l own) refl
              where
                by : (b : Bool) → same_leg l own ≡ b → x.begun ≡ []
                by true e =
                    ap (λ (y : NearEnd). y.begun) (some_is x new (sym is
                    ∙ ap (λ (y : Leg). end_of y (with_leg server_rules s l cookie).legs)
                    (sym (leg_is l own e))
                    ∙ seated_new s.legs at new (none may) k.0))
                by false e =
                    before x (subst (IsLeftOf (end_of own s.legs)) is
                    (seated_other s.legs at new (none may) k.0 own e))

            from : Main s.role s.legs
                → Main (server_rules.up s.role l cookie) (with_leg server_rules s l cookie).legs
            from (inl h) = inl (up_keeps n s.role l cookie true h)
            from (inr (h, before)) = inr (up_keeps n s.role l cookie false h, dry before)

        by : (t : Bool) → may_up server_rules s l ≡ t
            → Kept (cond t (with_leg server_rules s l cookie) s)
        by true e = (seated_apart s.legs at new (none e) k.0, main e)
        by false e = k

    kept_pinged : (now : ℕ) (ends : List NearEnd) (role : Server) → Main role s.legs
        → Main (pinged server_rules now ends role) s.legs
    kept_pinged now [] role h = h
    kept_pinged now (end ∷ ends) role h =
        kept_pinged now ends (cond (is_quiet server_rules role now end)
        (server_rules.ping role end.leg) role) (by (is_quiet server_rules role now end))
      where
        by : (t : Bool) → Main (cond t (server_rules.ping role end.leg) role) s.legs
        by true = h
        by false = h

    ticks : (now : ℕ) → Kept (after_event server_rules s (Ticks now))
    ticks now = by (is_working server_rules s && nat_le s.now now)
      where
        silent : (o : Option (Leg × ℕ))
            → Kept (passed_by server_rules (record s { now = now }) o)
        silent (Some one) = k
        silent None = (k.0, kept_pinged now s.legs s.role k.1)

        by : (t : Bool) → Kept (cond t (passed server_rules (record s { now = now })) s)
        by true = silent (first_silent server_rules s.role now s.legs None)
        by false = k

    after : (event : Event) → KeepsLeg own event → IsNewLeg server_rules s event
        → Kept (after_event server_rules s event)
    after (ComesUp l cookie) keeps fresh = comes_up l cookie fresh
    after (Hears l piece) keeps fresh = hears l piece
    after (Ends l) keeps fresh = ends l keeps
    after (Breaks l) keeps fresh = breaks l keeps
    after (Draws l room) keeps fresh = draws l room
    after (Ticks now) keeps fresh = ticks now

    -- ---- the calls of an end

    gives : (pdu : List ℕ) (o : Option Cause) → Kept (give_where acts s pdu o).0
    gives pdu (Some why) = k
    gives pdu None =
        (k.0, main_keeps s.role (give s.role pdu).0 s.legs (give_keeps n s.role pdu) k.1)

    takes : (o : Option Cause) → Kept (take_where acts s o)
    takes (Some why) = k
    takes None = (k.0, main_keeps s.role (take s.role) s.legs (take_keeps n s.role) k.1)

    closes : (o : Option Cause) → Kept (close_where acts s o)
    closes (Some why) = k
    closes None = (k.0, main_keeps s.role (acts.close s.role) s.legs (close_keeps n s.role) k.1)

    recycles : (x : State) → Kept (recycle_where acts s x).0
    recycles states.Open =
        (k.0, main_keeps s.role (recycle s.role).0 s.legs (recycle_keeps n s.role) k.1)
    recycles states.Opening = k
    recycles states.Ended = k
    recycles (states.Closed why) = k

  -- ---- all events

  module _ (follow : (p : EndPassage Server) (s : Shell Server) (event : EndEvent)
      → p.passage.role ≡ s.role → AreHeld s
      → EndFollows server_rules acts p (after_end_event server_rules acts s event)) where
    all_kept : (s : Shell Server) (events : List EndEvent) → AreHeld s → Kept s
        → KeptLegAtEnd own events → AreNewLegsAtEnd server_rules acts s events
        → Kept (after_end_events server_rules acts s events)
    all_kept s [] held k keeps fresh = k
    all_kept s (event ∷ events) held k keeps fresh =
        by event keeps fresh.0
        (λ now rest. all_kept (after_end_event server_rules acts s event) events
        (follow (end_started s.role) s event refl held).held now rest fresh.1)
      where
        by : (e : EndEvent) → AllByRecursion (KeepsLeg own) (happened (e ∷ events))
            → IsNewLegAtEnd server_rules s e
            → (Kept (after_end_event server_rules acts s e) → KeptLegAtEnd own events
            → Kept (after_end_events server_rules acts (after_end_event server_rules acts s event)
            events))
            → Kept (after_end_events server_rules acts (after_end_event server_rules acts s event)
            events)
        by (Happens e) keeps new rest = rest (after s held k e keeps.0 new) keeps.1
        by (IsGiven pdu) keeps new rest = rest (gives s held k pdu (cause_of s.course)) keeps
        by IsTaken keeps new rest = rest (takes s held k (cause_of s.course)) keeps
        by IsClosed keeps new rest = rest (closes s held k (cause_of s.course)) keeps
        by IsRecycled keeps new rest =
            rest (recycles s held k (state_of server_rules s)) keeps

    pub run_kept : (window : ℕ) (events : List EndEvent) → KeptLegAtEnd own events
        → AreNewLegsAtEnd server_rules acts (new_server window) events
        → Kept (after_end_events server_rules acts (new_server window) events)
    run_kept window events keeps fresh =
        all_kept (new_server window) events (All-nil IsHeld) (
          tt,
          inr (
            record {
              each = tt;
              there = λ e. absurd (true≢false (sym e));
              work = λ e. absurd (true≢false (sym e));
            },
            λ x is. absurd cc,
          ),
        ) keeps fresh

  -- ---- so a leg that it has no use for closes it not

  pub may_lose : (s : Shell Server) → Kept s → server_rules.is_done s.role own ≡ true
      → MayLose server_rules s own
  may_lose s k done work =
      by (in_leg n s.role.ins) refl (found_number n s.role.ins)
      (each_found (IsStaying n) s.role.ins (in_place n s.role.ins) (each k.1)) done
    where
      each : Main s.role s.legs → AllByRecursion (IsStaying n) s.role.ins
      each (inl h) = h.each
      each (inr (h, dry)) = h.each

      drew : has_number n s.role.ins ≡ false → Main s.role s.legs → DrewAll s own
      drew none (inl h) end at = absurd (true≢false (sym (h.there refl) ∙ none))
      drew none (inr (h, dry)) end at = dry end (sym (end_is own s.legs) ∙ at)

      by : (o : Option InLeg) → in_leg n s.role.ins ≡ o → IsFound n (has_number n s.role.ins) o
          → IfSome o (IsStaying n) → in_is_done o ≡ true
          → (server_rules.only_marks s.role own ≡ true)
          ⊎ ((server_rules.is_done s.role own ≡ true) × DrewAll s own)
      by None e found is gone = inr (done, drew found k.1)
      by (Some leg) e found is gone =
          inl (ap (in_only_marks s.role) e ∙ left_marks leg.leaving _ (is found) gone)
