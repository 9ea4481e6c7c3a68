-- a server's moves keep what it knows of its is legs
use Rattle.law_order.proofs.Vocabulary.{◌≡◌, ℕ, ◌+◌, ◌==◌, ◌&&◌, Bool, true, false, List, [], ◌∷◌, Some, None, Ok, Err, refl, rules, subst, false≢true, and_parts, IfSome, IsTrue, Option, Result}
use Rattle.rh_server.specs.declared.state.Leaving.TheVariants as leaving
use Rattle.law_moves.proofs.Vocabulary.{by_test, same_number, Cookie, after_take, Leg, LegKind, ClientOut, OutServer, ClientIn, InServer, GiveRefused, Message, Pdu, Packet, Row, OnLeg, Move, Up, HeadCame, PduCame, PacketCame, Puts, IsDrawn, Marks, Pings, MayMove, Passage, EndMove, Moves, Gives, Takes, Closes, Recycles, EndPassage, MayEndMove, AreAllowedAtEnd, is_at_work, is_in_use, moved, taken_by, put_by, end_moved, end_now_at, end_started, given_by, with_first}
use Rattle.law_moves.proofs.Vocabulary.{all_end_moved, of_leg}
use Rattle.law_moves.proofs.Lemmas.{RowKeeps, PutKeeps}
use Rattle.law_role_server.proofs.Vocabulary.{InLeg, Leaving, Server, has_left, is_waiting, stays, in_leg, in_place, with_in, without_in, without_out, has_room, may_up_by, up, up_by, take, recycle, give, settled, in_is_drawn, drawn_by, lost_in, mark_by, with_ack_dropped, Pick, acts, first, rules as server_rules, leg_at}
use Rattle.law_role_server_rows.proofs.InTurn.InView.{view}
use Rattle.law_role_server_rows.proofs.InTurn.InLogs.{Written, answers_begun, answers_for, answers_tell, leaves_for, leaves_once}
use Rattle.law_role_server_rows.proofs.InTurn.InPlaces.{Found, found_at}
use Rattle.law_role_server_rows.proofs.InTurn.InKept.{gone_kept, kept_start, set_kept, top_of, up_kept}
use Rattle.law_role_server_rows.proofs.InTurn.InRows.{Alive, Fine, in_use, moved_fine, same_fine}
use Rattle.law_role_server_rows.proofs.InTurn.InTakes.{Holds, packet_row, pdu_row}
use Rattle.law_role_server_rows.proofs.InTurn.InPuts.{puts, settled_fine}
use Rattle.law_role_server_rows.proofs.InTurn.Quiet.{is_opening, quiet_opening, Quiet}
use Rattle.law_role_server_rows.proofs.InTurn.Reaching.{reached_keep}
use Rattle.law_role_server_rows.specs.Putting.Greeting.{is}
use Rattle.law_role_server_rows.specs.InTurn.Answers.{AnswersOn, AnswersInOrder}

give_same : (s : Server) (bytes : List ℕ) → view (give s bytes).0 ≡ view s
give_same s bytes = search rules

recycle_same : (s : Server) → view (recycle s).0 ≡ view s
recycle_same s = search rules

stays_on : (l : Leaving) → stays l ≡ true → has_left l ≡ false
stays_on leaving.Stays e = refl
stays_on leaving.InR1B1 e = refl
stays_on leaving.Left e = absurd (false≢true e)
stays_on leaving.Lost e = refl

-- a leg in use did not leave, and the work is not done
used_at : (s : Server) (leg : Leg) → IsTrue (is_in_use server_rules s leg)
    → (is_at_work server_rules s ≡ true)
    × (leg.kind ≡ InServer → Alive (in_leg leg.number s.ins))
used_at s leg used = by leg.kind used
  where
    work : (a b : Bool) → IsTrue (a && b) → a ≡ true
    work true b used = refl
    work false b used = absurd (false≢true used)

    other : (k : LegKind) → (k ≡ InServer → ⊥) → k ≡ InServer
        → Alive (in_leg leg.number s.ins)
    other k apart e = absurd (apart e)

    apart_out : OutServer ≡ InServer → ⊥
    apart_out e = cc

    apart_client_in : ClientIn ≡ InServer → ⊥
    apart_client_in e = cc

    apart_client_out : ClientOut ≡ InServer → ⊥
    apart_client_out e = cc

    by : (k : LegKind) → IsTrue (is_in_use server_rules s (leg_at k leg.number))
        → (is_at_work server_rules s ≡ true)
        × (k ≡ InServer → Alive (in_leg leg.number s.ins))
    by InServer used = let both = in_use s leg.number used in (both.0, λ e. both.1)
    by OutServer used = (work (is_at_work server_rules s) _ used, other OutServer apart_out)
    by ClientIn used = (work (is_at_work server_rules s) _ used, other ClientIn apart_client_in)
    by ClientOut used = (work (is_at_work server_rules s) _ used, other ClientOut apart_client_out)

module _ (n : ℕ) where
  module _ (came : List OnLeg) (log : List Message) where
    abbrev FineNow : Server → Type 0
    FineNow s = Fine n s came log

    gone : (s : Server) (m : ℕ) → FineNow s → FineNow (without_in s m)
    gone s m h =
        gone_kept n came (top_of (view s)) s.newest_in s.ins log (in_place m s.ins) h

    up_fine : (s : Server) (leg : Leg) (cookie : Cookie) → FineNow s → FineNow (up s leg cookie)
    up_fine s leg cookie h =
        by_test FineNow (may_up_by s leg.number leg.kind) (up_by s leg.number leg.kind) s
        (λ e. by leg.kind e) (λ e. h)
      where
        by : (k : LegKind) → may_up_by s leg.number k ≡ true → FineNow (up_by s leg.number k)
        by InServer e =
            up_kept n came (top_of (view s)) s.newest_in leg.number s.ins log
            (same_number leg.number (s.newest_in + 1)
            (and_parts (leg.number == s.newest_in + 1) (has_room s.ins) e).0) h
        by OutServer e = h
        by ClientIn e = h
        by ClientOut e = h

    drawn_fine : (s : Server) (m : ℕ) (k : LegKind) → FineNow s → FineNow (drawn_by s m k)
    drawn_fine s m InServer h =
        by_test FineNow (in_is_drawn (in_leg m s.ins)) (settled (without_in s m)) s
        (λ e. settled_fine n (without_in s m) came log (gone s m h)) (λ e. h)
    drawn_fine s m OutServer h = h
    drawn_fine s m ClientIn h = h
    drawn_fine s m ClientOut h = h

    lost_fine : (s : Server) (m : ℕ) (o : Option InLeg) → IfSome o (Found s.ins) → FineNow s
        → FineNow (lost_in s m o)
    lost_fine s m None f h = gone s m h
    lost_fine s m (Some leg) f h =
        by_test FineNow (is_waiting leg.stage && stays leg.leaving)
        (with_in s (record leg { leaving = leaving.Lost })) (without_in s m)
        (λ e. set_kept n came (top_of (view s)) (top_of (view s)) s.newest_in s.ins log leg
        (record leg { leaving = leaving.Lost }) f refl
        (λ at q. record {
          early = q.early;
          told = λ g. let t = q.told g in (
            t.0,
            subst (λ (b : Bool). Written n came b log)
                (stays_on leg.leaving (and_parts (is_waiting leg.stage) _ e).1) t.1,
          );
          begun = q.begun;
          tells = q.tells;
          leaves = tt;
          next = q.next;
          current = q.current;
          fresh = q.fresh;
        })
        (λ apart w q. q) (λ apart a. a) h)
        (λ e. gone s m h)

    mark_fine : (s : Server) (m : ℕ) (k : LegKind) → FineNow s → FineNow (mark_by s m k)
    mark_fine s m InServer h =
        settled_fine n (lost_in s m (in_leg m s.ins)) came log
        (lost_fine s m (in_leg m s.ins) (found_at s.ins (in_place m s.ins)) h)
    mark_fine s m OutServer h =
        settled_fine n (without_out (with_ack_dropped s m) m) came log h
    mark_fine s m ClientIn h = h
    mark_fine s m ClientOut h = h

  -- ---- moves

  abbrev HoldsAt : Passage Server → Type 0
  HoldsAt p = Holds n p.role p.came p.put

  by_row : (p : Passage Server) (leg : Leg) (m : Message) (row : Server × Row)
      → RowKeeps (Holds n) (leg, m) p.came p.put row → HoldsAt (taken_by p leg m row)
  by_row p leg m (s, Ok taken) h = h
  by_row p leg m (s, Err refused) h = h

  by_put : (p : Passage Server) (leg : Leg) (pick : Pick) → HoldsAt p
      → PutKeeps (Holds n) leg p.came p.put pick → HoldsAt (put_by p leg pick)
  by_put p leg None h goes = h
  by_put p leg (Some one) h goes = goes

  move_keeps : (p : Passage Server) (move : Move) → MayMove server_rules p.role move
      → (is_opening p.role.stage ≡ true → Quiet p.role.line) → HoldsAt p
      → HoldsAt (moved server_rules p move)
  move_keeps p (Up leg cookie) may quiet h =
      up_fine p.came (of_leg (is n) p.put) p.role leg cookie h
  move_keeps p (HeadCame leg text) may quiet h = h
  move_keeps p (PduCame leg count bytes) may quiet h =
      by_row p leg (Pdu bytes) (server_rules.pdu p.role leg count bytes)
      (pdu_row n p.role leg bytes p.came p.put h)
  move_keeps p (PacketCame leg count packet) may quiet h =
      by_row p leg (Packet packet) (server_rules.packet p.role leg count packet)
      (packet_row n p.role leg.number count packet leg.kind p.came p.put
      (used_at p.role leg may).1 quiet h)
  move_keeps p (Puts leg) may quiet h =
      let used = used_at p.role leg may in
      by_put p leg (server_rules.put p.role leg) h
      (puts n p.role leg.number leg.kind used.1 used.0 quiet p.came p.put h)
  move_keeps p (IsDrawn leg) may quiet h =
      drawn_fine p.came (of_leg (is n) p.put) p.role leg.number leg.kind h
  move_keeps p (Marks leg) may quiet h =
      mark_fine p.came (of_leg (is n) p.put) p.role leg.number leg.kind h
  move_keeps p (Pings leg) may quiet h = h

  end_move_keeps : (p : EndPassage Server) (move : EndMove)
      → MayEndMove server_rules p.passage.role move
      → (is_opening p.passage.role.stage ≡ true → Quiet p.passage.role.line)
      → HoldsAt p.passage → HoldsAt (end_moved server_rules acts p move).passage
  end_move_keeps p (Moves move) may quiet h = move_keeps p.passage move may quiet h
  end_move_keeps p (Gives bytes) may quiet h =
      by (acts.give p.passage.role bytes)
      (same_fine n p.passage.role (give p.passage.role bytes).0 p.passage.came
      (of_leg (is n) p.passage.put) (give_same p.passage.role bytes) h)
    where
      by : (x : Server × Result (Unit {0}) GiveRefused)
          → Holds n x.0 p.passage.came p.passage.put → HoldsAt (given_by p bytes x).passage
      by (t, Ok accepted) k = k
      by (t, Err why) k = k
  end_move_keeps p Takes may quiet h =
      let s = p.passage.role in
      by (acts.line s).current.pdus
      (moved_fine n p.passage.came (of_leg (is n) p.passage.put) s.line.has_next
      (record s { line = after_take s.line }) h)
    where
      by : (pdus : List (List ℕ)) → Holds n (take p.passage.role) p.passage.came p.passage.put
          → HoldsAt (with_first (end_now_at p (acts.take p.passage.role)) pdus).passage
      by [] k = k
      by (pdu ∷ pdus) k = k
  end_move_keeps p Closes may quiet h = h
  end_move_keeps p Recycles may quiet h =
      same_fine n p.passage.role (recycle p.passage.role).0 p.passage.came
      (of_leg (is n) p.passage.put) (recycle_same p.passage.role) h

  pub answers_on : (window : ℕ) (moves : List EndMove)
      → AreAllowedAtEnd server_rules acts (end_started (first window)) moves
      → let p = (all_end_moved server_rules acts (end_started (first window)) moves).passage in
      AnswersOn n p.came (of_leg (is n) p.put)
  answers_on window moves may =
      (reached_keep server_rules acts (end_started (first window))
      (λ (q : EndPassage Server). HoldsAt q.passage)
      (λ q move reached allowed h.
      end_move_keeps q move allowed
      (subst (λ (r : EndPassage Server).
      is_opening r.passage.role.stage ≡ true → Quiet r.passage.role.line) reached.is
      (quiet_opening window reached.moves)) h)
      moves may
      (kept_start n [] (top_of (view (first window))) refl refl)).may

pub answers_in_order : (window : ℕ) (moves : List EndMove)
    → AreAllowedAtEnd server_rules acts (end_started (first window)) moves
    → AnswersInOrder (all_end_moved server_rules acts (end_started (first window)) moves).passage
answers_in_order window moves may =
    let p = (all_end_moved server_rules acts (end_started (first window)) moves).passage in
    let on = λ (n : ℕ). answers_on n window moves may in
    let log = λ (n : ℕ). of_leg (is n) p.put in record {
      order = on;
      acks = λ n received available cookie has.
          answers_begun n p.came received available cookie (log n) (on n) has;
      tells_once = λ n. answers_tell n p.came (log n) (on n);
      conn_b3 = λ n. (answers_for n p.came (log n) (on n)).0;
      in_r1_b2 = λ n. (answers_for n p.came (log n) (on n)).1;
      leaves_once = λ n. leaves_once n p.came (log n) (on n);
      in_r1_b1 = λ n. leaves_for n p.came (log n) (on n);
    }
