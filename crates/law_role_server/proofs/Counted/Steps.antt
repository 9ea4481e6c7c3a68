-- the steps of a server: how far it is with its opening, and with its IN channels
use Rattle.law_order.proofs.Vocabulary.{◌≡◌, ℕ, ◌+◌, ◌≤◌, ◌==◌, ◌&&◌, Bool, true, false, true≢false, if◌then◌else◌, List, [], ◌∷◌, ◌++◌, Some, None, arith, refl, rules, sym, ap, ◌∙◌, false≢true, and_parts, Option}
use Rattle.rh_shell.specs.declared.answers.Phase.TheVariants as phase
use Rattle.rh_server.specs.declared.state.Stage.TheVariants as stage
use Rattle.rh_server.specs.declared.state.Leaving.TheVariants as leaving
use Rattle.law_moves.proofs.Vocabulary.{by_test, same_number, Cookie, Leg, LegKind, ClientOut, OutServer, ClientIn, InServer, Count, Due, Pdu, OnLeg, Passage, EndMove, end_started, all_end_moved}
use Rattle.law_moves.proofs.Lemmas.{StepsKeep, ActsKeep, end_moves_keep}
use Rattle.law_role_server.proofs.Vocabulary.{Stage, Leaving, InLeg, is_ack, Server, phase_of, is_waiting, stays, has_left, in_leg, without_in, without_out, has_room, in_leg_up, may_up_by, up, up_by, recycle, give, settled, drawn_by, in_is_drawn, mark_by, lost_in, with_ack_dropped, acts, first, pdu, rules as server_rules, is_conn_b2, is_conn_b3, often, how_many, AreAnswered, BeginOnce, since_conn_a2, since_conn_b2, since_open, OpensOnce}
use Rattle.law_role_server.proofs.Counted.Logs.{at_most_in}
use Rattle.law_role_server.proofs.Counted.InLegs.{IsFoundAs, found, many_pushed}
use Rattle.law_role_server.proofs.Counted.Openings.{owes_b3, Opening, opening_starts, opening_stays}
use Rattle.law_role_server.proofs.Counted.Announcing.{look}
use Rattle.law_role_server.proofs.Counted.Announced.{answering_starts}
use Rattle.law_role_server.proofs.Counted.LegsKept.{leg_up}
use Rattle.law_role_server.proofs.Counted.Adding.{of_out, recycle_adds, dropped_adds}
use Rattle.law_role_server.proofs.Counted.Connecting.{seen, Holds, same_holds, row_keeps, IsQuiet, Keeps, ack_alone, out_alone, alike, rest, added_keeps, settled_keeps, has_number, stays_placed, is_placed, leg_keeps, gone_keeps, take_keeps}
use Rattle.law_role_server.proofs.Counted.Rows.{packet_row}
use Rattle.law_role_server.proofs.Counted.Puts.{puts}
use Rattle.law_role_server.proofs.Counted.BeforeC1Steps.{recycle_stage}

-- ---- legs come up, are drawn, and lost

up_keeps : (s : Server) (leg : Leg) (cookie : Cookie) → Keeps s (up s leg cookie)
up_keeps s leg cookie came put h =
    by_test (λ (t : Server). Holds t came put) (may_up_by s leg.number leg.kind)
    (up_by s leg.number leg.kind) s (λ e. by leg.kind e) (λ e. h)
  where
    n : ℕ
    n = leg.number

    by : (k : LegKind) → may_up_by s n k ≡ true → Holds (up_by s n k) came put
    by InServer e = record {
      opening = opening_stays s.stage s.stage s.waiting.due s.waiting.due s.ins
          (s.ins ++ in_leg_up n ∷ []) came put (record {
            conn_a2 = refl;
            conn_b2 = refl;
            opens = refl;
            conn_c1 = refl;
            conn_b3 =
                let more : how_many owes_b3 (s.ins ++ in_leg_up n ∷ [])
                ≡ how_many owes_b3 s.ins + 0 = many_pushed owes_b3 (in_leg_up n) s.ins in
                omega (arith, more);
          }) h.opening;
      answering = leg_up (look s) (in_leg_up n) came put
          (same_number n (s.newest_in + 1) (and_parts (n == s.newest_in + 1) (has_room s.ins) e).0)
          refl refl h.answering;
    }
    by OutServer e = same_holds s (up_by s n OutServer) came put refl h
    by ClientIn e = h
    by ClientOut e = h

drawn_keeps : (s : Server) (n : ℕ) (k : LegKind) → Keeps s (drawn_by s n k)
drawn_keeps s n InServer came put h = by (in_leg n s.ins) (found (has_number n) s.ins)
  where
    by : (o : Option InLeg) → IsFoundAs (has_number n) s.ins o
        → Holds (if in_is_drawn o then settled (without_in s n) else s) came put
    by None f = settled_keeps (without_in s n) came put (gone_keeps s n None f came put tt h)
    by (Some leg) f =
        by_test (λ (t : Server). Holds t came put) (has_left leg.leaving)
        (settled (without_in s n)) s
        (λ e. settled_keeps (without_in s n) came put
        (gone_keeps s n (Some leg) f came put
        (calm leg.leaving e (is_waiting leg.stage) refl refl) h)) (λ e. h)
      where
        calm : (how : Leaving) → has_left how ≡ true → (t : Bool) → is_waiting leg.stage ≡ t
            → leg.leaving ≡ how → is_waiting leg.stage ≡ false
        calm how e false is same = is
        calm leaving.Stays e true is same = absurd (false≢true e)
        calm leaving.InR1B1 e true is same = absurd (false≢true e)
        calm leaving.Lost e true is same = absurd (false≢true e)
        calm leaving.Left e true is same =
            absurd (true≢false (sym ((is_placed s n leg came put f h.answering).waits is).2
            ∙ ap stays same))
drawn_keeps s n OutServer came put h = h
drawn_keeps s n ClientIn came put h = h
drawn_keeps s n ClientOut came put h = h

lost_keeps : (s : Server) (n : ℕ) → Keeps s (lost_in s n (in_leg n s.ins))
lost_keeps s n came put h = by (in_leg n s.ins) (found (has_number n) s.ins)
  where
    by : (o : Option InLeg) → IsFoundAs (has_number n) s.ins o → Holds (lost_in s n o) came put
    by None f = gone_keeps s n None f came put tt h
    by (Some leg) f =
        by_test (λ (t : Server). Holds t came put) (is_waiting leg.stage && stays leg.leaving) _
        (without_in s n)
        (λ e. leg_keeps s n leg (record leg { leaving = leaving.Lost }) came put f
        (stays_placed s n leg (record leg { leaving = leaving.Lost }) came put f refl refl
        (λ g. refl) h.answering) (omega arith) h)
        (λ e. gone_keeps s n (Some leg) f came put (calm (is_waiting leg.stage) refl e) h)
      where
        calm : (t : Bool) → is_waiting leg.stage ≡ t → t && stays leg.leaving ≡ false
            → is_waiting leg.stage ≡ false
        calm false is e = is
        calm true is e =
            absurd (true≢false (sym ((is_placed s n leg came put f h.answering).waits is).2 ∙ e))

mark_keeps : (s : Server) (n : ℕ) (k : LegKind) → Keeps s (mark_by s n k)
mark_keeps s n InServer came put h =
    settled_keeps (lost_in s n (in_leg n s.ins)) came put (lost_keeps s n came put h)
mark_keeps s n OutServer came put h =
    settled_keeps (without_out (with_ack_dropped s n) n) came put
    (added_keeps is_ack ack_alone s (without_out (with_ack_dropped s n) n) refl
    (alike s.stage s.stage refl) (dropped_adds s n) came put h)
mark_keeps s n ClientIn came put h = h
mark_keeps s n ClientOut came put h = h

pdu_same : (s : Server) (leg : Leg) (count : Count) (bytes : List ℕ)
    → seen (pdu s leg count bytes).0 ≡ seen s
pdu_same s leg count bytes = search rules

pdu_quiet : (leg : Leg) (bytes : List ℕ) → IsQuiet (leg, Pdu bytes)
pdu_quiet leg bytes = search rules

give_same : (s : Server) (bytes : List ℕ) → seen (give s bytes).0 ≡ seen s
give_same s bytes = search rules

recycle_rest : (s : Server) → rest (recycle s).0 ≡ rest s
recycle_rest s = search rules

-- ---- the role

steps : StepsKeep server_rules Holds
steps = record {
  up = up_keeps;
  head = λ s leg text came put h. h;
  pdu = λ s leg count bytes came put.
      row_keeps s (leg, Pdu bytes) came put (pdu_quiet leg bytes) (pdu s leg count bytes)
      (λ came put. same_holds s (pdu s leg count bytes).0 came put (pdu_same s leg count bytes));
  packet = λ s leg count m. packet_row s leg.number count m leg.kind;
  put = λ s leg came put. puts leg.number came put s leg.kind;
  drawn = λ s leg. drawn_keeps s leg.number leg.kind;
  mark = λ s leg. mark_keeps s leg.number leg.kind;
  ping = λ s leg came put h. h;
}

calls : ActsKeep acts Holds
calls = record {
  give = λ s bytes came put. same_holds s (give s bytes).0 came put (give_same s bytes);
  take = take_keeps;
  close = λ s came put h. record { opening = h.opening; answering = h.answering };
  recycle = λ s.
      added_keeps of_out out_alone s (recycle s).0 (recycle_rest s)
      (alike s.stage (recycle s).0.stage (recycle_stage s)) (recycle_adds s);
}

-- ---- stages

at_most : (at : Stage) → (since_conn_a2 at ≤ 1) × (since_conn_b2 at ≤ 1) × (since_open at ≤ 1)
at_most stage.Waits = (omega arith, omega arith, omega arith)
at_most (stage.OutCame known) = (omega arith, omega arith, omega arith)
at_most (stage.InCame known window timeout) = (omega arith, omega arith, omega arith)
at_most (stage.Open known) = (omega arith, omega arith, omega arith)
at_most stage.Ended = (omega arith, omega arith, omega arith)

one_at_most : (at : Stage) → phase_of at ≡ phase.Opening
    → since_conn_a2 at + since_conn_b2 at ≤ 1
one_at_most stage.Waits e = omega arith
one_at_most (stage.OutCame known) e = omega arith
one_at_most (stage.InCame known window timeout) e = omega arith
one_at_most (stage.Open known) e = absurd (cc)
one_at_most stage.Ended e = absurd (cc)

both_came : (at : Stage) → (phase_of at ≡ phase.Opening → ⊥)
    → (since_conn_a2 at ≡ 1) × (since_conn_b2 at ≡ 1)
both_came stage.Waits e = absurd (e refl)
both_came (stage.OutCame known) e = absurd (e refl)
both_came (stage.InCame known window timeout) e = absurd (e refl)
both_came (stage.Open known) e = (refl, refl)
both_came stage.Ended e = (refl, refl)

not_open : (at : Stage) → since_conn_a2 at + since_conn_b2 at ≤ 1 → since_open at ≡ 0
not_open stage.Waits e = refl
not_open (stage.OutCame known) e = refl
not_open (stage.InCame known window timeout) e = refl
not_open (stage.Open known) e = absurd (omega (arith, e))
not_open stage.Ended e = absurd (omega (arith, e))

b3_open : (at : Stage) (dues : List Due) (ins : List InLeg) (came put : List OnLeg)
    → Opening at dues ins came put → often is_conn_b3 InServer put ≤ since_open at
b3_open stage.Waits dues ins came put h =
    let none = (h.early refl).conn_b3 in omega (arith, none)
b3_open (stage.OutCame known) dues ins came put h =
    let none = (h.early refl).conn_b3 in omega (arith, none)
b3_open (stage.InCame known window timeout) dues ins came put h =
    let none = (h.early refl).conn_b3 in omega (arith, none)
b3_open (stage.Open known) dues ins came put h = omega (arith, h.conn_b3)
b3_open stage.Ended dues ins came put h = omega (arith, h.conn_b3)

module _ (window : ℕ) (moves : List EndMove) where
  abbrev pub p : Passage Server
  p = (all_end_moved server_rules acts (end_started (first window)) moves).passage

  kept : Holds p.role p.came p.put
  kept = end_moves_keep server_rules Holds steps acts calls (end_started (first window)) moves
      (record { opening = opening_starts; answering = answering_starts })

  pub are_answered : AreAnswered p
  are_answered =
      let h = kept.answering in record {
        in_r1 = h.in_r1;
        in_r2 = h.in_r2;
        in_r1_at_most = omega (arith, h.in_r1);
        in_r2_at_most = omega (arith, h.in_r2);
      }

  pub begin_once : BeginOnce p
  begin_once = record {
    conn_b2 = λ n.
        let all = at_most_in is_conn_b2 InServer n p.came in
        let once = (at_most p.role.stage).1 in
        let is = kept.opening.conn_b2 in omega (arith, all, once, is);
    in_r1_a2 = kept.answering.once;
  }

  pub opens_once : OpensOnce p
  opens_once =
      let h = kept.opening in
      let most = at_most p.role.stage in
      let b3 = b3_open p.role.stage p.role.waiting.due p.role.ins p.came p.put h in record {
        conn_a2 = h.conn_a2;
        conn_b2 = h.conn_b2;
        conn_c1 = h.conn_c1;
        conn_b3 = b3;
        conn_a2_once = omega (arith, h.conn_a2, most.0);
        conn_b2_once = omega (arith, h.conn_b2, most.1);
        conn_c1_once = omega (arith, h.conn_c1, most.2);
        conn_b3_once = omega (arith, b3, most.2);
        opening = λ e.
            let both = one_at_most p.role.stage e in omega (arith, h.conn_a2, h.conn_b2, both);
        opened = λ e.
            let both = both_came p.role.stage e in
            (h.conn_a2 ∙ both.0, h.conn_b2 ∙ both.1);
        early = λ e.
            let is = h.early (not_open p.role.stage (omega (arith, e, h.conn_a2, h.conn_b2))) in
            record {
              greetings = is.greetings;
              conn_b3 = is.conn_b3;
              in_r1_a2 = is.in_r1_a2;
              in_r2_a2 = is.in_r2_a2;
            };
      }
