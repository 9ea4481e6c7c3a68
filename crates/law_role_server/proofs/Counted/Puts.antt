-- what a server puts: how far it is with its opening, and with its IN channels
use Rattle.law_order.proofs.Vocabulary.{◌≡◌, ℕ, ◌+◌, ◌≤◌, ◌==◌, ◌&&◌, Bool, true, true≢false, if◌then◌else◌, List, [], ◌∷◌, ◌++◌, Some, None, arith, refl, rules, sym, ap, ◌∙◌, false≢true, IfSome, slice_get, find, Option}
use Rattle.rh_sig.specs.declared.named.Named.TheVariants as named
use Rattle.rh_server.specs.declared.state.Stage.TheVariants as stage
use Rattle.rh_server.specs.declared.state.Tells.TheVariants as tells
use Rattle.rh_server.specs.declared.state.Leaving.TheVariants as leaving
use Rattle.rh_server.specs.declared.state.Greeting.TheVariants as greetings
use Rattle.law_moves.proofs.Vocabulary.{Ack, by_test, Named, after_tell, after_told, front_length, LegKind, ClientOut, OutServer, ClientIn, InServer, Current, Due, greeting as greeting_text, Message, Text, Packet, Waiting, taken, OnLeg}
use Rattle.law_moves.proofs.Lemmas.{PutKeeps}
use Rattle.law_role_server.proofs.Vocabulary.{Stage, Tells, Leaving, Told, InLeg, OutLeg, Gate, lets, length_of, Server, is_open, is_due, is_shut, stays, in_leg, out_place, with_in, Pick, or_else, put_in_greeting, was_current, put_tells_by, put_tells, put_b1_by, put_b1, put_ack_by, put_ack, ack_due, put_in_by, out_greeting_at, put_out_greeting, counts, was_put, waiting_by, waiting_at, put_waiting, gate_at, with_out, pdu_by, put_pdu, put_end, put_pdu_or_end, next_out}
use Rattle.law_role_server.proofs.Vocabulary.{settled_pick, put_open, put_out_at, put_by, is_conn_b3, is_conn_c1, is_in_r1_a3, is_in_r2_a3, often, leg_at, waiting_of, how_many, since_open}
use Rattle.law_role_server.proofs.Counted.Dues.{Went, one_waits, first_goes, others_have}
use Rattle.law_role_server.proofs.Counted.InLegs.{IsFoundAs, found, one_leg, many_joined}
use Rattle.law_role_server.proofs.Counted.Openings.{is_conn_b3_due, owes_b3, opening_put}
use Rattle.law_role_server.proofs.Counted.Announcing.{look}
use Rattle.law_role_server.proofs.Counted.Announced.{put_keeps}
use Rattle.law_role_server.proofs.Counted.Connecting.{seen, Holds, same_holds, IsQuietPut, put_quiet, settled_keeps, has_number, IsLeg, set_legs, owes_joined, stays_placed, leg_keeps}

-- the server is open, so nothing of it is early
opened : (at : Stage) → is_open at ≡ true → since_open at ≡ 0 → ⊥
opened (stage.Open known) e f = absurd (omega (arith, f))
opened stage.Waits e f = false≢true e
opened (stage.OutCame known) e f = false≢true e
opened (stage.InCame known window timeout) e f = false≢true e
opened stage.Ended e f = false≢true e

module _ (n : ℕ) (came put : List OnLeg) where
  abbrev pub Puts : LegKind → Pick → Type 0
  Puts kind pick = PutKeeps Holds (leg_at kind n) came put pick

  or_put : (kind : LegKind) (a b : Pick) → Puts kind a → Puts kind b → Puts kind (or_else a b)
  or_put kind None b h k = k
  or_put kind (Some pick) b h k = h

  -- ---- on an is leg

  abbrev on_is : Message → OnLeg
  on_is m = (leg_at InServer n, m)

  -- the leg changes, and what is put counts for nothing
  leg_puts : (s : Server) (leg y : InLeg) (m : Message) → IsLeg s n leg → y.number ≡ leg.number
      → y.stage ≡ leg.stage → (stays leg.leaving ≡ true → stays y.leaving ≡ true)
      → one_leg owes_b3 y ≤ one_leg owes_b3 leg
      → often is_conn_b3 InServer (on_is m ∷ []) ≡ 0 → Holds s came put
      → Holds (with_in s y) came (put ++ on_is m ∷ [])
  leg_puts s leg y m f same at stay owes none h =
      put_quiet (with_in s y) came put (on_is m) (refl, none, refl, refl) (λ e. tt)
      (leg_keeps s n leg y came put f
      (stays_placed s n leg y came put f same at stay h.answering) owes h)

  -- CONN/B3
  b3_puts : (s : Server) (leg : InLeg) (size version : ℕ) → IsLeg s n leg
      → leg.tells ≡ tells.ConnB3 → is_open s.stage ≡ true → Holds s came put
      → Holds (with_in s (record leg { tells = tells.Nothing })) came
      (put ++ on_is (Packet (named.ConnB3 size version)) ∷ [])
  b3_puts s leg size version f tell is h = record {
    opening = opening_put s.stage s.waiting.due s.waiting.due s.ins t.ins came put one (record {
      conn_c1 =
          let none_goes : often is_conn_c1 OutServer (one ∷ []) ≡ 0 = refl in
          omega (arith, none_goes);
      conn_b3 =
          let was = owes_joined s n leg f in
          let are = ap (how_many owes_b3) (set_legs s n leg y f refl)
          ∙ many_joined owes_b3 y f.before f.behind in
          omega (arith, was, are, due, none, is_b3);
      greetings = λ e. tt;
      early_b3 = λ e. absurd (opened s.stage is e);
    }) h.opening;
    answering = put_keeps (look t) s.waiting.due came put one h.answering.origins (omega arith)
        (omega arith)
        (leg_keeps s n leg y came put f
        (stays_placed s n leg y came put f refl refl (λ e. e) h.answering)
        (omega (arith, none)) h).answering;
  }
    where
      y : InLeg
      y = record leg { tells = tells.Nothing }

      t : Server
      t = with_in s (record leg { tells = tells.Nothing })

      one : OnLeg
      one = on_is (Packet (named.ConnB3 size version))

      due : one_leg owes_b3 leg ≡ 1
      due = ap {B = ℕ} (λ (what : Tells). if is_conn_b3_due what then 1 else 0) tell

      none : one_leg owes_b3 y ≡ 0
      none = refl

      is_b3 : often is_conn_b3 InServer (one ∷ []) ≡ 1
      is_b3 = refl

  in_puts : (s : Server) (o : Option InLeg) → IsFoundAs (has_number n) s.ins o → Holds s came put
      → Puts InServer (put_in_by s o)
  in_puts s None f h = tt
  in_puts s (Some leg) f h =
      or_put InServer (put_in_greeting s leg) _
      (by_test (Puts InServer) (is_due leg.greeting) _ None
      (λ e. leg_puts s leg (record leg { greeting = greetings.Put }) (Text greeting_text) f refl
      refl (λ g. g) (omega arith) refl h) (λ e. tt))
      (or_put InServer (put_tells s leg) _ (by_tells leg.tells refl)
      (or_put InServer (put_b1 s leg) (put_ack s leg) (by_leaving leg.leaving refl)
      (ack (ack_due s leg))))
    where
      owes_none : one_leg owes_b3 (record leg { tells = tells.Nothing })
          ≤ one_leg owes_b3 leg
      owes_none = omega arith

      by_tells : (what : Tells) → leg.tells ≡ what → Puts InServer (put_tells_by s leg what)
      by_tells tells.Nothing e = tt
      by_tells tells.ConnB3 e =
          by_test (Puts InServer) (is_open s.stage) _ None
          (λ is. b3_puts s leg s.line.size 1 f e is h) (λ is. tt)
      by_tells tells.InR1B2 e =
          by_test (Puts InServer) (was_current s leg) _ None
          (λ is. by_test (λ (u : Server).
          Holds (with_in u (record leg { tells = tells.Nothing })) came
          (put ++ on_is (Packet (named.InR1B2 s.line.size)) ∷ []))
          ((leg.number == s.current.leg) && is_shut s.edge)
          (record s { line = after_tell s.line Current; edge = Told }) s
          (λ g. leg_puts (record s { line = after_tell s.line Current; edge = Told }) leg
          (record leg { tells = tells.Nothing }) (Packet (named.InR1B2 s.line.size)) f refl refl
          (λ i. i) owes_none refl
          (same_holds s (record s { line = after_tell s.line Current; edge = Told }) came put refl
          h))
          (λ g. leg_puts s leg (record leg { tells = tells.Nothing })
          (Packet (named.InR1B2 s.line.size)) f refl refl (λ i. i) owes_none refl h))
          (λ is. tt)

      by_leaving : (how : Leaving) → leg.leaving ≡ how → Puts InServer (put_b1_by s leg how)
      by_leaving leaving.Stays e = tt
      by_leaving leaving.InR1B1 e =
          leg_puts s leg (record leg { leaving = leaving.Left }) (Packet named.InR1B1) f refl refl
          (λ g. absurd (true≢false (sym g ∙ ap stays e))) (omega arith) refl h
      by_leaving leaving.Left e = tt
      by_leaving leaving.Lost e = tt

      ack : (a : Option Ack) → Puts InServer (put_ack_by s a)
      ack None = tt
      ack (Some a) =
          let t : Server = record s { line = after_told s.line Current a } in
          put_quiet t came put
          (on_is (Packet (named.Ack a.received a.available s.current.cookie)))
          (refl, refl, refl, refl) (λ e. tt) (same_holds s t came put refl h)

  -- ---- on an os leg

  abbrev on_os : Message → OnLeg
  on_os m = (leg_at OutServer n, m)

  -- what leaves the server as it was
  abbrev Quiet : Server → Pick → Type 0
  Quiet s pick =
      IfSome pick (λ (one : Server × Message).
      (seen one.0 ≡ seen s) × IsQuietPut (on_os one.1))

  quiet_puts : (s : Server) (pick : Pick) → is_open s.stage ≡ true → Quiet s pick
      → Holds s came put → Puts OutServer pick
  quiet_puts s None is quiet h = tt
  quiet_puts s (Some one) is quiet h =
      same_holds s one.0 came (put ++ on_os one.1 ∷ []) quiet.0
      (put_quiet s came put (on_os one.1) quiet.1 (λ e. absurd (opened s.stage is e)) h)

  counts_same : (s : Server) (place len : ℕ) → seen (counts s place len) ≡ seen s
  counts_same s place len = search rules

  was_put_same : (s : Server) (place : ℕ) (packet : Named)
      → seen (was_put s place packet) ≡ seen s
  was_put_same s place named.OutR1A9 = counts_same s place 24
  was_put_same s place (named.AckTo destination received window cookie) =
      by_test (λ (t : Server). seen t ≡ seen s) (destination == 3) s (counts s place 56)
      (λ e. refl) (λ e. counts_same s place 56)
  was_put_same s place packet = counts_same s place (length_of packet)

  waiting_puts : (s : Server) (place : ℕ) (o : Option Gate) → is_open s.stage ≡ true
      → Holds s came put → Puts OutServer (waiting_at s place o)
  waiting_puts s place None is h = tt
  waiting_puts s place (Some gate) is h =
      by (find (lets gate) dues) (first_goes is_conn_c1 (lets gate) dues)
      (first_goes is_in_r1_a3 (lets gate) dues) (first_goes is_in_r2_a3 (lets gate) dues)
    where
      dues : List Due
      dues = s.waiting.due

      left : Waiting
      left = (taken (lets gate) s.waiting).0

      by : (x : Option Due) → Went is_conn_c1 dues left.due x → Went is_in_r1_a3 dues left.due x
          → Went is_in_r2_a3 dues left.due x → Puts OutServer (waiting_by s place (left, x))
      by None conn first second = tt
      by (Some due) conn first second =
          let t : Server = record s { waiting = left } in
          same_holds t (was_put t place due.packet) came (put ++ on_os (Packet due.packet) ∷ [])
          (was_put_same t place due.packet) (record {
            opening = opening_put s.stage dues left.due s.ins s.ins came put
                (on_os (Packet due.packet)) (record {
                  conn_c1 = one_of is_conn_c1 due.packet left.due conn;
                  conn_b3 = omega arith;
                  greetings = λ e. absurd (opened s.stage is e);
                  early_b3 = λ e. refl;
                }) h.opening;
            answering = put_keeps (look s) left.due came put (on_os (Packet due.packet))
                (others_have (lets gate) dues h.answering.origins) first second h.answering;
          })
        where
          one_of : (test : Named → Bool) (packet : Named) (others : List Due)
              → waiting_of test others + one_waits test packet ≡ waiting_of test dues
              → often test OutServer (on_os (Packet packet) ∷ []) + waiting_of test others
              ≡ waiting_of test dues
          one_of test packet others e =
              let same : often test OutServer (on_os (Packet packet) ∷ [])
              ≡ one_waits test packet = refl in omega (arith, e, same)

  next_puts : (s : Server) (place : ℕ) → is_open s.stage ≡ true → Holds s came put
      → Puts OutServer (next_out s place)
  next_puts s place is h =
      or_put OutServer (put_waiting s place) (put_pdu_or_end s place)
      (waiting_puts s place (gate_at s (slice_get s.outs place)) is h)
      (or_put OutServer (put_pdu s place) (put_end s place)
      (quiet_puts s (put_pdu s place) is (pdu_quiet (front_length s.queue)) h)
      (quiet_puts s (put_end s place) is (search rules) h))
    where
      pdu_quiet : (len : Option ℕ) → Quiet s (pdu_by s place len)
      pdu_quiet len = search rules

  settled_puts : (pick : Pick) → Puts OutServer pick → Puts OutServer (settled_pick pick)
  settled_puts None h = tt
  settled_puts (Some pick) h = settled_keeps pick.0 came (put ++ on_os pick.1 ∷ []) h

  greeting_puts : (s : Server) (place : ℕ) (o : Option OutLeg) → Holds s came put
      → Puts OutServer (out_greeting_at s place o)
  greeting_puts s place None h = tt
  greeting_puts s place (Some leg) h =
      by_test (Puts OutServer) (is_due leg.greeting) _ None
      (λ e. put_quiet (with_out s place (record leg { greeting = greetings.Put })) came put
      (on_os (Text greeting_text)) (refl, refl, refl, refl) (λ g. (tt, tt))
      (same_holds s (with_out s place (record leg { greeting = greetings.Put })) came put refl h))
      (λ e. tt)

  out_puts : (s : Server) (place : Option ℕ) → Holds s came put
      → Puts OutServer (put_out_at s place)
  out_puts s None h = tt
  out_puts s (Some place) h =
      or_put OutServer (put_out_greeting s place) (put_open s place)
      (greeting_puts s place (slice_get s.outs place) h)
      (by_test (Puts OutServer) (is_open s.stage) (settled_pick (next_out s place)) None
      (λ e. settled_puts (next_out s place) (next_puts s place e h)) (λ e. tt))

  pub puts : (s : Server) (k : LegKind) → Holds s came put → Puts k (put_by s n k)
  puts s InServer h = in_puts s (in_leg n s.ins) (found (has_number n) s.ins) h
  puts s OutServer h = out_puts s (out_place n s.outs) h
  puts s ClientIn h = tt
  puts s ClientOut h = tt
