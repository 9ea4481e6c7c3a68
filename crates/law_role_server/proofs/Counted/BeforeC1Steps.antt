-- what a server puts before CONN/C1, and its other steps
use Rattle.law_order.proofs.Vocabulary.{◌≡◌, ◌⊎◌, inl, inr, ℕ, ◌&&◌, Bool, true, false, if◌then◌else◌, List, [], ◌∷◌, ◌++◌, Some, None, Ok, Err, arith, refl, rules, sym, ap, ◌∙◌, subst, false≢true, and_parts, IfSome, slice_get, slice_set, find, AllByRecursion, Option, Result}
use Rattle.rh_sig.specs.declared.named.Named.TheVariants as named
use Rattle.rh_shell.specs.declared.answers.Phase.TheVariants as phase
use Rattle.rh_server.specs.declared.state.Stage.TheVariants as stage
use Rattle.rh_server.specs.declared.state.Greeting.TheVariants as greetings
use Rattle.law_moves.proofs.Vocabulary.{Ack, by_test, Cookie, Named, each_push, front_length, Leg, LegKind, ClientOut, OutServer, ClientIn, InServer, Count, Due, GiveRefused, Message, Text, Pdu, Packet, greeting as greeting_text, Waiting, taken, OnLeg, EndMove, Moves, Gives, Takes, Closes, Recycles, EndPassage, AreAllowedAtEnd, MayEndMove, end_started, end_moved, all_end_moved, end_now_at, given_by, with_first, of_kind}
use Rattle.law_moves.proofs.Lemmas.{PutKeeps, StepsKeep, moves_keep}
use Rattle.law_role_server.proofs.Vocabulary.{Stage, Tells, Leaving, InLeg, OutLeg, lets, is_ack_of, Server, phase_of, is_open, is_due, in_leg, out_place, out_cookie, removed_at, without_in, without_out, may_up_by, out_leg_up, up, up_by, take, asks, recycle, wishes, give, is_complete, completed, settled, drawn_by, in_is_drawn, mark_by, lost_in, without_ack_of, with_ack_dropped, Pick, or_else, put_in_greeting, put_tells_by, put_tells, put_b1_by, put_b1, put_ack_by, put_ack}
use Rattle.law_role_server.proofs.Vocabulary.{ack_due, put_in_by, out_greeting_at, put_out_greeting, was_put, waiting_by, waiting_at, put_waiting, gate, gate_at, may_go_at, may_end_at, is_end_due, pdu_by, put_pdu, put_end, put_pdu_or_end, next_out, settled_pick, put_open, put_out_at, put_by, acts, first, pdu, rules as server_rules, is_ack_to, is_conn_c1, in_came, out_put, often, leg_at, since_open, HaveRoom, MayGoBefore}
use Rattle.law_role_server.proofs.Counted.Dues.{FirstIsC1, C1Goes, first_goes_c1, first_left, found_may}
use Rattle.law_role_server.proofs.Counted.Adding.{of_out, settled_adds, recycle_adds, dropped_adds}
use Rattle.law_role_server.proofs.Counted.Connecting.{settled_opens}
use Rattle.law_role_server.proofs.Counted.BeforeC1.{AreAcks, acks_left, LetsC1, LetsAcks, LetsC1Go, lets_of, ack_was_put, legs_at, legs_set, legs_removed, Before, View, view, same_before, open_before, legs_before, put_before}
use Rattle.law_role_server.proofs.Counted.BeforeC1Open.{Holds, put_applied, Keeps, keeps_same, row_keeps, parts, keeps_adds, not_open, take_keeps}
use Rattle.law_role_server.proofs.Counted.BeforeC1Rows.{waits_before, packet_row}

-- ---- behind puts

settled_parts : (s : Server) → parts (settled s) ≡ parts s
settled_parts s = search rules

-- the work is not done before the server is open, nor is a successor wanted
settled_early : (s : Server) → since_open s.stage ≡ 0 → view (settled s) ≡ view s
settled_early s early =
    by_test (λ (t : Server). view t ≡ view s) (wishes (completed s)) (asks (completed s))
    (completed s)
    (λ e. absurd (not_open (completed s).stage
    (ap (λ (x : View). since_open x.at) done ∙ early)
    (and_parts (is_open (completed s).stage) _ e).0))
    (λ e. done)
  where
    done : view (completed s) ≡ view s
    done =
        by_test (λ (t : Server). view t ≡ view s) (is_complete s)
        (record s { stage = stage.Ended }) s
        (λ e. absurd (not_open s.stage early (and_parts (is_open s.stage) _ e).0)) (λ e. refl)

settled_keeps : (s : Server) → Keeps s (settled s)
settled_keeps s =
    keeps_adds of_out s (settled s) (settled_early s) (settled_opens s) (settled_parts s)
    (settled_adds s)

open_is : (at : Stage) → is_open at ≡ true → since_open at ≡ 1
open_is (stage.Open known) e = refl
open_is stage.Waits e = absurd (false≢true e)
open_is (stage.OutCame known) e = absurd (false≢true e)
open_is (stage.InCame known window timeout) e = absurd (false≢true e)
open_is stage.Ended e = absurd (false≢true e)

-- ---- what is put

module _ (n : ℕ) (put : List OnLeg) where
  -- it is not CONN/C1, and may go before
  abbrev PutOk : LegKind → Pick → Type 0
  PutOk kind pick =
      IfSome pick (λ (one : Server × Message).
      often is_conn_c1 OutServer ((leg_at kind n, one.1) ∷ []) ≡ 0
      → Before one.0 (put ++ (leg_at kind n, one.1) ∷ []))

  lifted : (kind : LegKind) (s : Server) (came : List OnLeg) (pick : Pick)
      → (Before s put → PutOk kind pick) → Holds s came put
      → PutKeeps Holds (leg_at kind n) came put pick
  lifted kind s came None ok h = tt
  lifted kind s came (Some one) ok h = λ applies.
      let were = put_applied came put (leg_at kind n, one.1) applies in
      ok (h were.0) were.1

  or_ok : (kind : LegKind) (a b : Pick) → PutOk kind a → (a ≡ None → PutOk kind b)
      → PutOk kind (or_else a b)
  or_ok kind None b h k = k refl
  or_ok kind (Some pick) b h k = h

  -- on an is leg
  quiet_ok : (s : Server) (pick : Pick)
      → IfSome pick (λ (one : Server × Message). view one.0 ≡ view s) → Before s put
      → PutOk InServer pick
  quiet_ok s None same h = tt
  quiet_ok s (Some one) same h = λ none.
      put_before one.0 put (leg_at InServer n, one.1) tt (same_before s one.0 put same h)

  in_ok : (s : Server) (o : Option InLeg) → Before s put → PutOk InServer (put_in_by s o)
  in_ok s None h = tt
  in_ok s (Some leg) h =
      or_ok InServer (put_in_greeting s leg) _
      (quiet_ok s (put_in_greeting s leg) (search rules) h)
      (λ e. or_ok InServer (put_tells s leg) _ (quiet_ok s (put_tells s leg) (tells leg.tells) h)
      (λ f. or_ok InServer (put_b1 s leg) (put_ack s leg)
      (quiet_ok s (put_b1 s leg) (b1 leg.leaving) h)
      (λ g. quiet_ok s (put_ack s leg) (ack (ack_due s leg)) h)))
    where
      tells : (t : Tells)
          → IfSome (put_tells_by s leg t) (λ (one : Server × Message). view one.0 ≡ view s)
      tells t = search rules

      b1 : (x : Leaving)
          → IfSome (put_b1_by s leg x) (λ (one : Server × Message). view one.0 ≡ view s)
      b1 x = search rules

      ack : (a : Option Ack)
          → IfSome (put_ack_by s a) (λ (one : Server × Message). view one.0 ≡ view s)
      ack a = search rules

  -- on an os leg
  greeting_ok : (s : Server) (place : ℕ) (o : Option OutLeg) → IfSome o LetsC1 → Before s put
      → PutOk OutServer (out_greeting_at s place o)
  greeting_ok s place None is h = tt
  greeting_ok s place (Some leg) is h =
      by_test (PutOk OutServer) (is_due leg.greeting) _ None
      (λ e none.
      let y : OutLeg = record leg { greeting = greetings.Put } in
      let outs : List OutLeg = slice_set s.outs place y in
      put_before (record s { outs = outs }) put (leg_at OutServer n, Text greeting_text) (tt, tt)
      (legs_before s outs put (legs_set LetsC1 s.outs place y is h.legs) h))
      (λ e. tt)

  -- nothing else goes on the leg
  abbrev NoMore : Server → Option OutLeg → Type 0
  NoMore s o =
      ((len : ℕ) → may_go_at s len o ≡ true → ⊥) × (may_end_at s o ≡ true → ⊥)

  -- an acknowledgement to an out proxy goes
  ack_ok : (s : Server) (place : ℕ) (left : Waiting) (packet : Named)
      → is_ack_to 3 packet ≡ true → since_open s.stage ≡ 1 → FirstIsC1 left.due → Before s put
      → Before (was_put (record s { waiting = left }) place packet)
      (put ++ (leg_at OutServer n, Packet packet) ∷ [])
  ack_ok s place left packet is opened first_is h =
      let t : Server = record s { waiting = left } in
      subst (λ (u : Server). Before u (put ++ (leg_at OutServer n, Packet packet) ∷ []))
      (sym (ack_was_put t place packet is))
      (put_before t put (leg_at OutServer n, Packet packet) (is, tt)
      (open_before s t put opened opened refl h.legs (λ f. first_is) h))

  -- of those that wait, and what may go where none does
  waiting_ok : (s : Server) (place : ℕ) (o : Option OutLeg) → IfSome o LetsC1
      → since_open s.stage ≡ 1 → Before s put
      → PutOk OutServer (waiting_at s place (gate_at s o))
      × (waiting_at s place (gate_at s o) ≡ None → NoMore s o)
  waiting_ok s place None is opened h = (tt, λ e. (λ len f. false≢true f, λ f. false≢true f))
  waiting_ok s place (Some leg) is opened h = by (lets_of s leg h.writes is)
    where
      may_go : Due → Bool
      may_go = lets (gate s leg)

      dues : List Due
      dues = s.waiting.due

      left : Waiting
      left = (taken (lets (gate s leg)) s.waiting).0

      Goes : Option Due → Type 0
      Goes x = PutOk OutServer (waiting_by s place (left, x))
          × (waiting_by s place (left, x) ≡ None → NoMore s (Some leg))

      -- acknowledgements alone
      acks : LetsAcks s leg → (x : Option Due) → IfSome x (λ (due : Due). may_go due ≡ true)
          → Goes x
      acks only None may = (tt, λ e. (only.no_pdu, only.no_end))
      acks only (Some due) may = (
        (λ none. ack_ok s place left due.packet (only.only due may) opened
            (first_left may_go (λ c1_due c1. stays c1_due c1 (may_go c1_due) refl) dues
            (h.first opened)) h),
        (λ e. absurd (cc)),
      )
        where
          no_both : (packet : Named) → is_conn_c1 packet ≡ true → is_ack_to 3 packet ≡ true → ⊥
          no_both (named.ConnC1 a b c) e f = false≢true f
          no_both packet e f = false≢true e

          stays : (c1_due : Due) → is_conn_c1 c1_due.packet ≡ true → (b : Bool)
              → may_go c1_due ≡ b → may_go c1_due ≡ false
          stays c1_due c1 false e = e
          stays c1_due c1 true e = absurd (no_both c1_due.packet c1 (only.only c1_due e))

      -- or CONN/C1, which is first
      first_so : (x : Option Due) → C1Goes x left.due → Goes x
      first_so None goes = absurd goes
      first_so (Some due) (inl c1) = (
        (λ none. absurd (is_one none)),
        (λ e. absurd (cc)),
      )
        where
          is_one : often is_conn_c1 OutServer ((leg_at OutServer n, Packet due.packet) ∷ []) ≡ 0
              → ⊥
          is_one none =
              let one : often is_conn_c1 OutServer
              ((leg_at OutServer n, Packet due.packet) ∷ []) ≡ 1 =
              ap {B = ℕ} (λ (b : Bool). if b then 1 else 0) c1 in
              absurd (omega (arith, one, none))
      first_so (Some due) (inr ack) = (
        (λ none. ack_ok s place left due.packet ack.0 opened ack.1 h),
        (λ e. absurd (cc)),
      )

      by : LetsAcks s leg ⊎ LetsC1Go s leg → Goes (find may_go dues)
      by (inl only) = acks only (find may_go dues) (found_may may_go dues)
      by (inr goes) =
          first_so (find may_go dues) (first_goes_c1 may_go goes dues (h.first opened))

  pdu_ok : (s : Server) (place : ℕ) (len : Option ℕ)
      → NoMore s (slice_get s.outs place) → PutOk OutServer (pdu_by s place len)
  pdu_ok s place None no_more = tt
  pdu_ok s place (Some len) no_more =
      by_test (PutOk OutServer) (may_go_at s len (slice_get s.outs place)) _ None
      (λ e. absurd (no_more.0 len e)) (λ e. tt)

  end_ok : (s : Server) (place : ℕ) → NoMore s (slice_get s.outs place)
      → PutOk OutServer (put_end s place)
  end_ok s place no_more =
      by_test (PutOk OutServer) (is_end_due s && may_end_at s (slice_get s.outs place)) _ None
      (λ e. absurd (no_more.1
      (and_parts (is_end_due s) (may_end_at s (slice_get s.outs place)) e).1)) (λ e. tt)

  next_ok : (s : Server) (place : ℕ) → is_open s.stage ≡ true → Before s put
      → PutOk OutServer (next_out s place)
  next_ok s place is h =
      let ok = waiting_ok s place (slice_get s.outs place) (legs_at LetsC1 s.outs place h.legs)
      (open_is s.stage is) h in
      or_ok OutServer (put_waiting s place) (put_pdu_or_end s place) ok.0
      (λ e. or_ok OutServer (put_pdu s place) (put_end s place)
      (pdu_ok s place (front_length s.queue) (ok.1 e)) (λ f. end_ok s place (ok.1 e)))

  settled_ok : (pick : Pick) → PutOk OutServer pick → PutOk OutServer (settled_pick pick)
  settled_ok None h = tt
  settled_ok (Some pick) h = λ none.
      settled_keeps pick.0 (put ++ (leg_at OutServer n, pick.1) ∷ []) (h none)

  out_ok : (s : Server) (place : Option ℕ) → Before s put → PutOk OutServer (put_out_at s place)
  out_ok s None h = tt
  out_ok s (Some place) h =
      or_ok OutServer (put_out_greeting s place) (put_open s place)
      (greeting_ok s place (slice_get s.outs place) (legs_at LetsC1 s.outs place h.legs) h)
      (λ e. by_test (PutOk OutServer) (is_open s.stage) (settled_pick (next_out s place)) None
      (λ f. settled_ok (next_out s place) (next_ok s place f h)) (λ f. tt))

  puts : (s : Server) (k : LegKind) (came : List OnLeg) → Holds s came put
      → PutKeeps Holds (leg_at k n) came put (put_by s n k)
  puts s InServer came h =
      lifted InServer s came (put_by s n InServer) (in_ok s (in_leg n s.ins)) h
  puts s OutServer came h =
      lifted OutServer s came (put_by s n OutServer) (out_ok s (out_place n s.outs)) h
  puts s ClientIn came h = tt
  puts s ClientOut came h = tt

-- ---- legs come up, are drawn, and lost

up_keeps : (s : Server) (leg : Leg) (cookie : Cookie) → Keeps s (up s leg cookie)
up_keeps s leg cookie put h =
    by_test (λ (t : Server). Before t put) (may_up_by s leg.number leg.kind)
    (up_by s leg.number leg.kind) s (λ e. by leg.kind) (λ e. h)
  where
    n : ℕ
    n = leg.number

    by : (k : LegKind) → Before (up_by s n k) put
    by InServer = same_before s (up_by s n InServer) put refl h
    by OutServer =
        let outs : List OutLeg = s.outs ++ out_leg_up n ∷ [] in
        same_before (record s { outs = outs }) (up_by s n OutServer) put refl
        (legs_before s outs put
        (each_push LetsC1 s.outs (out_leg_up n) h.legs (λ e. inr refl)) h)
    by ClientIn = h
    by ClientOut = h

drawn_keeps : (s : Server) (n : ℕ) (k : LegKind) → Keeps s (drawn_by s n k)
drawn_keeps s n InServer put h =
    by_test (λ (t : Server). Before t put) (in_is_drawn (in_leg n s.ins))
    (settled (without_in s n)) s
    (λ e. settled_keeps (without_in s n) put (same_before s (without_in s n) put refl h))
    (λ e. h)
drawn_keeps s n OutServer put h = h
drawn_keeps s n ClientIn put h = h
drawn_keeps s n ClientOut put h = h

lost_same : (s : Server) (n : ℕ) (o : Option InLeg) → view (lost_in s n o) ≡ view s
lost_same s n o = search rules

mark_keeps : (s : Server) (n : ℕ) (k : LegKind) → Keeps s (mark_by s n k)
mark_keeps s n InServer put h =
    settled_keeps (lost_in s n (in_leg n s.ins)) put
    (same_before s (lost_in s n (in_leg n s.ins)) put (lost_same s n (in_leg n s.ins)) h)
mark_keeps s n OutServer put h =
    settled_keeps (without_out t n) put
    (legs_before t (removed_at s.outs (out_place n s.outs)) put (gone (out_place n s.outs))
    (waits_before s t.waiting put (acks (out_cookie n s.outs)) (dropped_adds s n).firsts h))
  where
    t : Server
    t = with_ack_dropped s n

    gone : (place : Option ℕ) → AllByRecursion LetsC1 (removed_at s.outs place)
    gone None = h.legs
    gone (Some place) = legs_removed LetsC1 s.outs place h.legs

    acks : (o : Option Cookie) → AreAcks s.waiting.due → AreAcks (without_ack_of s.waiting o).due
    acks None all = all
    acks (Some cookie) all = acks_left (is_ack_of cookie) s.waiting.due all
mark_keeps s n ClientIn put h = h
mark_keeps s n ClientOut put h = h

pdu_same : (s : Server) (leg : Leg) (count : Count) (bytes : List ℕ)
    → view (pdu s leg count bytes).0 ≡ view s
pdu_same s leg count bytes = search rules

give_same : (s : Server) (bytes : List ℕ) → view (give s bytes).0 ≡ view s
give_same s bytes = search rules

pub recycle_stage : (s : Server) → (recycle s).0.stage ≡ s.stage
recycle_stage s = search rules

recycle_parts : (s : Server) → parts (recycle s).0 ≡ parts s
recycle_parts s = search rules

-- it may be asked for a replacement while it is open
recycle_keeps : (s : Server) → phase_of s.stage ≡ phase.Open → Keeps s (recycle s).0
recycle_keeps s is =
    keeps_adds of_out s (recycle s).0 (λ e. absurd (by s.stage is e))
    (ap since_open (recycle_stage s)) (recycle_parts s) (recycle_adds s)
  where
    by : (at : Stage) → phase_of at ≡ phase.Open → since_open at ≡ 0 → ⊥
    by stage.Waits e f = absurd (cc)
    by (stage.OutCame known) e f = absurd (cc)
    by (stage.InCame known window timeout) e f = absurd (cc)
    by (stage.Open known) e f = absurd (omega (arith, f))
    by stage.Ended e f = absurd (omega (arith, f))

-- ---- the role

steps : StepsKeep server_rules Holds
steps = record {
  up = λ s leg cookie came put h applies. up_keeps s leg cookie put (h applies);
  head = λ s leg text came put h. h;
  pdu = λ s leg count bytes came put.
      row_keeps s (leg, Pdu bytes) came put (pdu s leg count bytes)
      (keeps_same s (pdu s leg count bytes).0 (pdu_same s leg count bytes));
  packet = λ s leg count m. packet_row s leg.number count m leg.kind;
  put = λ s leg came put. puts leg.number put s leg.kind came;
  drawn = λ s leg came put h applies. drawn_keeps s leg.number leg.kind put (h applies);
  mark = λ s leg came put h applies. mark_keeps s leg.number leg.kind put (h applies);
  ping = λ s leg came put h. h;
}

abbrev HoldsAt : EndPassage Server → Type 0
HoldsAt p = Holds p.passage.role p.passage.came p.passage.put

given_holds : (p : EndPassage Server) (bytes : List ℕ)
    (x : Server × Result (Unit {0}) GiveRefused) → view x.0 ≡ view p.passage.role → HoldsAt p
    → HoldsAt (given_by p bytes x)
given_holds p bytes (s, Ok accepted) same h = λ applies.
    same_before p.passage.role s p.passage.put same (h applies)
given_holds p bytes (s, Err why) same h = λ applies.
    same_before p.passage.role s p.passage.put same (h applies)

first_holds : (p : EndPassage Server) (pdus : List (List ℕ)) → HoldsAt p
    → HoldsAt (with_first p pdus)
first_holds p [] h = h
first_holds p (pdu' ∷ pdus) h = h

move_holds : (p : EndPassage Server) (move : EndMove)
    → MayEndMove server_rules p.passage.role move → HoldsAt p
    → HoldsAt (end_moved server_rules acts p move)
move_holds p (Moves move) may h =
    moves_keep server_rules Holds steps p.passage (move ∷ []) h
move_holds p (Gives bytes) may h =
    given_holds p bytes (give p.passage.role bytes) (give_same p.passage.role bytes) h
move_holds p Takes may h =
    first_holds (end_now_at p (take p.passage.role)) p.passage.role.line.current.pdus
    (λ applies. take_keeps p.passage.role p.passage.put (h applies))
move_holds p Closes may h = λ applies.
    same_before p.passage.role (acts.close p.passage.role) p.passage.put refl (h applies)
move_holds p Recycles may h = λ applies.
    recycle_keeps p.passage.role may p.passage.put (h applies)

moves_hold : (p : EndPassage Server) (moves : List EndMove)
    → AreAllowedAtEnd server_rules acts p moves → HoldsAt p
    → HoldsAt (all_end_moved server_rules acts p moves)
moves_hold p [] may h = h
moves_hold p (move ∷ moves) may h =
    moves_hold (end_moved server_rules acts p move) moves may.1 (move_holds p move may.0 h)

pub c1_first : (window : ℕ) (moves : List EndMove)
    → AreAllowedAtEnd server_rules acts (end_started (first window)) moves
    → let p = (all_end_moved server_rules acts (end_started (first window)) moves).passage in
    HaveRoom p.came → in_came (is_ack_to 0) p ≡ 0 → out_put is_conn_c1 p ≡ 0
    → AllByRecursion MayGoBefore (of_kind OutServer p.put)
c1_first window moves may room no_ack no_c1 =
    (moves_hold (end_started (first window)) moves may
    (λ applies. record {
      steady = λ e. refl;
      lone = λ e. refl;
      acks = λ e. tt;
      first = λ e. absurd (omega (arith, e));
      writes = refl;
      legs = tt;
      puts = tt;
    })
    (record { room = room; no_ack = no_ack; no_c1 = no_c1 })).puts
