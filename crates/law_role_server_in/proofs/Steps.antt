-- a server's allowed moves keep what it knows of its is legs
use Rattle.law_order.proofs.Vocabulary.{◌≡◌, ℕ, ◌+◌, ◌==◌, ◌&&◌, Bool, true, false, not, List, [], ◌∷◌, Some, None, Ok, Err, refl, rules, sym, ap, ◌∙◌, subst, and_parts, false≢true, true≢false, IfSome, IsTrue, Option, Result}
use Rattle.rh_server.specs.declared.state.InStage.TheVariants as in_stage
use Rattle.rh_server.specs.declared.state.Leaving.TheVariants as leaving
use Rattle.law_moves.proofs.Vocabulary.{by_test, same_number, Cookie, Leg, LegKind, ClientOut, OutServer, ClientIn, InServer, GiveRefused, Message, Pdu, Packet, Row, Move, Up, HeadCame, PduCame, PacketCame, Puts, IsDrawn, Marks, Pings, MayMove, Passage, EndMove, Moves, Gives, Takes, Closes, Recycles, EndPassage, MayEndMove, AreAllowedAtEnd, is_at_work, is_in_use, moved, taken_by, put_by, end_moved, end_now_at, end_started, given_by, with_first, all_end_moved}
use Rattle.law_moves.proofs.Lemmas.{RowKeeps, PutKeeps}
use Rattle.law_role_server.proofs.Vocabulary.{InLeg, InStage, Leaving, Server, has_left, is_waiting, stays, in_leg, in_place, with_in, without_in, without_out, has_room, may_up_by, up, up_by, take, recycle, give, in_is_done, settled, in_is_drawn, drawn_by, lost_in, mark_by, with_ack_dropped, Pick, acts, first, rules as server_rules, leg_at}
use Rattle.law_role_server_rows.proofs.InTurn.InPlaces.{Found, found_at}
use Rattle.law_role_server_rows.proofs.InTurn.InKept.{is_opened}
use Rattle.law_role_server_in.proofs.Tallies.{Tally, tally}
use Rattle.law_role_server_in.proofs.Kept.{So, gone_kept, kept_start, look, top_of, up_kept}
use Rattle.law_role_server_in.proofs.Rows.{Fine, leg_same, same_fine, take_fine}
use Rattle.law_role_server_in.proofs.Takes.{Holds, IsKept, packet_row, pdu_row}
use Rattle.law_role_server_in.proofs.Puts.{puts, settled_fine}

pub give_same : (s : Server) (bytes : List ℕ) → look (give s bytes).0 ≡ look s
give_same s bytes = search rules

pub recycle_same : (s : Server) → look (recycle s).0 ≡ look s
recycle_same s = search rules

-- a leg in use is kept
pub in_use : (s : Server) (m : ℕ) → IsTrue (is_in_use server_rules s (leg_at InServer m))
    → (is_at_work server_rules s ≡ true) × IsKept (in_leg m s.ins)
in_use s m used = by (is_at_work server_rules s) (in_leg m s.ins) used
  where
    by : (a : Bool) (o : Option InLeg) → IsTrue (a && not (in_is_done o))
        → (a ≡ true) × IsKept o
    by true None used = absurd (false≢true used)
    by true (Some leg) used = (refl, tt)
    by false o used = absurd (false≢true used)

used_at : (s : Server) (leg : Leg) → IsTrue (is_in_use server_rules s leg)
    → leg.kind ≡ InServer → IsKept (in_leg leg.number s.ins)
used_at s leg used = by leg.kind used
  where
    apart_out : OutServer ≡ InServer → ⊥
    apart_out e = cc

    apart_client_in : ClientIn ≡ InServer → ⊥
    apart_client_in e = cc

    apart_client_out : ClientOut ≡ InServer → ⊥
    apart_client_out e = cc

    by : (k : LegKind) → IsTrue (is_in_use server_rules s (leg_at k leg.number))
        → k ≡ InServer → IsKept (in_leg leg.number s.ins)
    by InServer used e = (in_use s leg.number used).1
    by OutServer used e = absurd (apart_out e)
    by ClientIn used e = absurd (apart_client_in e)
    by ClientOut used e = absurd (apart_client_out e)

module _ (n : ℕ) where
  module _ (c : Tally) where
    abbrev FineNow : Server → Type 0
    FineNow s = Fine n s c

    -- a leg goes whose channel doesn't wait
    gone : (s : Server) (m : ℕ)
        → IfSome (in_leg m s.ins) (λ (leg : InLeg). n ≡ leg.number → So n (top_of s) c leg
        → is_waiting leg.stage ≡ false)
        → FineNow s → FineNow (without_in s m)
    gone s m calm h = gone_kept n (top_of s) s.newest_in s.ins c (in_place m s.ins) calm h

    -- it left
    unwaiting : (x : InStage) → (is_opened x ≡ false → ⊥) → is_waiting x ≡ false
    unwaiting in_stage.Fresh shut = refl
    unwaiting (in_stage.Waits window timeout ended) shut = absurd (shut refl)
    unwaiting in_stage.Opened shut = refl

    left_stays : (l : Leaving) → has_left l ≡ true → stays l ≡ false
    left_stays leaving.Stays e = absurd (false≢true e)
    left_stays leaving.InR1B1 e = refl
    left_stays leaving.Left e = refl
    left_stays leaving.Lost e = absurd (false≢true e)

    left_calm : (s : Server) (o : Option InLeg) → in_is_drawn o ≡ true
        → IfSome o (λ (leg : InLeg). n ≡ leg.number → So n (top_of s) c leg
        → is_waiting leg.stage ≡ false)
    left_calm s None e = tt
    left_calm s (Some leg) e =
        λ is q. unwaiting leg.stage
        (λ shut. true≢false (sym (q.calm shut) ∙ left_stays leg.leaving e))

    up_fine : (s : Server) (leg : Leg) (cookie : Cookie) → FineNow s → FineNow (up s leg cookie)
    up_fine s leg cookie h =
        by_test FineNow (may_up_by s leg.number leg.kind) (up_by s leg.number leg.kind) s
        (λ e. by leg.kind e) (λ e. h)
      where
        by : (k : LegKind) → may_up_by s leg.number k ≡ true → FineNow (up_by s leg.number k)
        by InServer e =
            up_kept n (top_of s) s.newest_in leg.number s.ins c
            (same_number leg.number (s.newest_in + 1)
            (and_parts (leg.number == s.newest_in + 1) (has_room s.ins) e).0) h
        by OutServer e = h
        by ClientIn e = h
        by ClientOut e = h

    drawn_fine : (s : Server) (m : ℕ) (k : LegKind) → FineNow s → FineNow (drawn_by s m k)
    drawn_fine s m InServer h =
        by_test FineNow (in_is_drawn (in_leg m s.ins)) (settled (without_in s m)) s
        (λ e. settled_fine n (without_in s m) c
        (gone s m (left_calm s (in_leg m s.ins) e) h)) (λ e. h)
    drawn_fine s m OutServer h = h
    drawn_fine s m ClientIn h = h
    drawn_fine s m ClientOut h = h

    lost_calm : (t u : Bool) → t && u ≡ false → u ≡ true → t ≡ false
    lost_calm false u e f = refl
    lost_calm true u e f = absurd (true≢false (sym f ∙ e))

    lost_fine : (s : Server) (m : ℕ) (o : Option InLeg) → in_leg m s.ins ≡ o
        → IfSome o (Found s.ins) → FineNow s → FineNow (lost_in s m o)
    lost_fine s m None is f h =
        gone s m (subst (λ (o : Option InLeg). IfSome o (λ (leg : InLeg). n ≡ leg.number
        → So n (top_of s) c leg → is_waiting leg.stage ≡ false)) (sym is) tt) h
    lost_fine s m (Some leg) is f h =
        by_test FineNow (is_waiting leg.stage && stays leg.leaving)
        (with_in s (record leg { leaving = leaving.Lost })) (without_in s m)
        (λ e. leg_same n c s leg (record leg { leaving = leaving.Lost }) f refl refl refl refl
        (λ at q shut. refl) h)
        (λ e. gone s m (subst (λ (o : Option InLeg). IfSome o (λ (leg : InLeg). n ≡ leg.number
        → So n (top_of s) c leg → is_waiting leg.stage ≡ false)) (sym is)
        (λ at q. calm leg q e leg.stage refl)) h)
      where
        calm : (leg : InLeg) → So n (top_of s) c leg
            → is_waiting leg.stage && stays leg.leaving ≡ false → (x : InStage)
            → leg.stage ≡ x → is_waiting leg.stage ≡ false
        calm leg q e in_stage.Fresh st = ap is_waiting st
        calm leg q e in_stage.Opened st = ap is_waiting st
        calm leg q e (in_stage.Waits window timeout ended) st =
            lost_calm (is_waiting leg.stage) (stays leg.leaving) e (q.calm (ap is_opened st))

    mark_fine : (s : Server) (m : ℕ) (k : LegKind) → FineNow s → FineNow (mark_by s m k)
    mark_fine s m InServer h =
        settled_fine n (lost_in s m (in_leg m s.ins)) c
        (lost_fine s m (in_leg m s.ins) refl (found_at s.ins (in_place m s.ins)) h)
    mark_fine s m OutServer h = settled_fine n (without_out (with_ack_dropped s m) m) c h
    mark_fine s m ClientIn h = h
    mark_fine s m ClientOut h = h

  -- ---- moves

  abbrev pub HoldsAt : Passage Server → Type 0
  HoldsAt p = Holds n p.role p.came p.put

  by_row : (p : Passage Server) (leg : Leg) (m : Message) (row : Server × Row)
      → RowKeeps (Holds n) (leg, m) p.came p.put row → HoldsAt (taken_by p leg m row)
  by_row p leg m (s, Ok taken) h = h
  by_row p leg m (s, Err refused) h = h

  by_put : (p : Passage Server) (leg : Leg) (pick : Pick) → HoldsAt p
      → PutKeeps (Holds n) leg p.came p.put pick → HoldsAt (put_by p leg pick)
  by_put p leg None h goes = h
  by_put p leg (Some one) h goes = goes

  move_keeps : (p : Passage Server) (move : Move) → MayMove server_rules p.role move
      → ((k : ℕ) → Holds k p.role p.came p.put) → HoldsAt (moved server_rules p move)
  move_keeps p (Up leg cookie) may all =
      up_fine (tally n p.came p.put) p.role leg cookie (all n)
  move_keeps p (HeadCame leg text) may all = all n
  move_keeps p (PduCame leg count bytes) may all =
      by_row p leg (Pdu bytes) (server_rules.pdu p.role leg count bytes)
      (pdu_row n p.role leg bytes p.came p.put (all n))
  move_keeps p (PacketCame leg count packet) may all =
      by_row p leg (Packet packet) (server_rules.packet p.role leg count packet)
      (packet_row n p.role leg.number count packet leg.kind p.came p.put
      (used_at p.role leg may) all)
  move_keeps p (Puts leg) may all =
      by_put p leg (server_rules.put p.role leg) (all n)
      (puts n p.role leg.number leg.kind p.came p.put (all n))
  move_keeps p (IsDrawn leg) may all =
      drawn_fine (tally n p.came p.put) p.role leg.number leg.kind (all n)
  move_keeps p (Marks leg) may all =
      mark_fine (tally n p.came p.put) p.role leg.number leg.kind (all n)
  move_keeps p (Pings leg) may all = all n

  pub end_move_keeps : (p : EndPassage Server) (move : EndMove)
      → MayEndMove server_rules p.passage.role move
      → ((k : ℕ) → Holds k p.passage.role p.passage.came p.passage.put)
      → HoldsAt (end_moved server_rules acts p move).passage
  end_move_keeps p (Moves move) may all = move_keeps p.passage move may all
  end_move_keeps p (Gives bytes) may all =
      by (acts.give p.passage.role bytes)
      (same_fine n p.passage.role (give p.passage.role bytes).0
      (tally n p.passage.came p.passage.put) (give_same p.passage.role bytes) (all n))
    where
      by : (x : Server × Result (Unit {0}) GiveRefused)
          → Holds n x.0 p.passage.came p.passage.put → HoldsAt (given_by p bytes x).passage
      by (t, Ok accepted) k = k
      by (t, Err why) k = k
  end_move_keeps p Takes may all =
      by (acts.line p.passage.role).current.pdus
      (take_fine n (tally n p.passage.came p.passage.put) p.passage.role (all n))
    where
      by : (pdus : List (List ℕ)) → Holds n (take p.passage.role) p.passage.came p.passage.put
          → HoldsAt (with_first (end_now_at p (acts.take p.passage.role)) pdus).passage
      by [] k = k
      by (pdu ∷ pdus) k = k
  end_move_keeps p Closes may all = all n
  end_move_keeps p Recycles may all =
      same_fine n p.passage.role (recycle p.passage.role).0
      (tally n p.passage.came p.passage.put) (recycle_same p.passage.role) (all n)

abbrev pub AllHold : EndPassage Server → Type 0
AllHold p = (n : ℕ) → HoldsAt n p.passage

pub moves_keep : (p : EndPassage Server) (moves : List EndMove)
    → AreAllowedAtEnd server_rules acts p moves → AllHold p
    → AllHold (all_end_moved server_rules acts p moves)
moves_keep p [] may all = all
moves_keep p (move ∷ moves) may all =
    moves_keep (end_moved server_rules acts p move) moves may.1
    (λ n. end_move_keeps n p move may.0 all)

pub known : (window : ℕ) (moves : List EndMove)
    → AreAllowedAtEnd server_rules acts (end_started (first window)) moves
    → AllHold (all_end_moved server_rules acts (end_started (first window)) moves)
known window moves may =
    moves_keep (end_started (first window)) moves may
    (λ n. kept_start n (top_of (first window)) (tally n [] []) refl refl refl refl refl refl
    refl)
