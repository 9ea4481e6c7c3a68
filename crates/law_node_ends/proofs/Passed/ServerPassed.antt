-- on an is leg for which a server has no more use, IN_R1/A6 or END/A2 came
use Rattle.law_order.proofs.Vocabulary.{◌≡◌, ◌⊎◌, inl, inr, ℕ, ◌==◌, Bool, true, false, true≢false, not, ◌&&◌, ◌||◌, nat_eq, List, [], ◌∷◌, ◌++◌, Some, None, Ok, Err, refl, rules, sym, ap, ◌∙◌, subst, and_parts, if◌then◌else◌, IfSome, Option, has_end, has_handover, TakerLaw}
use Rattle.rh_sig.specs.declared.named.Named.TheVariants as named
use Rattle.rh_shell.specs.declared.answers.Refused.TheVariants as refused
use Rattle.rh_server.specs.declared.state.InStage.TheVariants as in_stage
use Rattle.rh_server.specs.declared.out_line.Kind.TheVariants as kind
use Rattle.law_moves.proofs.Vocabulary.{by_test, same_number, test_same, Cookie, Named, each_push, Leg, LegKind, ClientOut, OutServer, ClientIn, InServer, after_take, Which, Count, is_ended, taken, is_of, Pdu, Packet, OnLeg, Up, HeadCame, PduCame, PacketCame, Puts, IsDrawn, Marks, Pings, EndMove, Moves, Gives, Takes, Closes, Recycles, EndPassage, end_started, end_moved, all_end_moved, is_in_use, AreAllowedAtEnd, MayEndMove}
use Rattle.law_moves.proofs.Lemmas.{RowKeeps, PutKeeps, ActsKeep}
use Rattle.law_role_server.proofs.Vocabulary.{InLeg, InStage, Leaving, waits, Server, has_left, in_leg, in_place, is_lost, is_put, phase_of, same_cookie, stays, with_in, without_out, Done, in_leg_up, is_first, may_up, on_conn_a2, on_conn_b2, refuse, took, unexpected, up, up_by, channel_at, on_ack, on_ack_to, on_ping_traffic, take, on_in_r1_a2, hands_over, on_in_r1_a6, on_in_r2_a2, recycle, on_out_r1_a4, on_out_r1_a8, close, drawn, end_a2_at, end_a2_on_leg, end_a2_waiting}
use Rattle.law_role_server.proofs.Vocabulary.{ended_on, give, in_is_done, in_only_marks, is_over_on, lost_in, mark_by, on_end_a2, only_marks_by, with_ack_dropped, Pick, put_by, acts, first, pdu, packet, packet_by, on_is, on_os, rules as server_rules, came_up, got, has_leg, is_up, taker_of}
use Rattle.law_node_ends.proofs.Passed.ServerLegs.{has_number, each_found, found_number, IsFound, number_last}
use Rattle.law_node_ends.proofs.Passed.Allowed.{StepsKeep, end_move_keeps, end_moves_keep}
use Rattle.law_node_ends.proofs.Passed.ServerCame.{HasPassed, came_on, ended_came, passed_last, passed_more}
use Rattle.law_node_ends.proofs.Passed.ServerKept.{keeps_conn_a2, keeps_conn_b2, keeps_end_a2, keeps_in_r1_a2, keeps_in_r1_a6, keeps_lost, keeps_moved, keeps_same, keeps_settled, same_ack, same_ack_to, same_in_r2_a2, same_out_r1_a4, same_out_r1_a8, same_pdu, same_traffic}
use Rattle.law_node_ends.proofs.Passed.ServerPuts.{keeps_drawn, keeps_up}
use Rattle.law_node_ends.proofs.Passed.ServerKept as kept
use Rattle.law_node_ends.proofs.Passed.ServerPuts as put_of
use Rattle.law_node_ends.specs.Passed.{IsDoneBehindEnd, is_leg}

-- ---- the is legs that are kept

module _ (n : ℕ) where
  abbrev IsStaying : InLeg → Type 0
  IsStaying = kept.IsStaying n

  abbrev Stays : Bool → Server → Type 0
  Stays = kept.Stays n

  abbrev Keeps : Server → Server → Type 0
  Keeps = kept.Keeps n

  abbrev Same : Server → Server → Type 0
  Same = kept.Same n

  -- ---- with what came

  module _ (has_come : Bool) where
    -- it left, or stays
    abbrev Holds : Server → List OnLeg → List OnLeg → Type 0
    Holds s came put = HasPassed n came ⊎ Stays has_come s

    hold : (s t : Server) (came put now : List OnLeg) → (Stays has_come s → Stays has_come t)
        → Holds s came put → Holds t came now
    hold s t came put now keeps (inl left) = inl left
    hold s t came put now keeps (inr stays) = inr (keeps stays)

    keep_row : (s : Server) (one : OnLeg) (came put : List OnLeg) (x : Done) → Keeps s x.0
        → Holds s came put → RowKeeps Holds one came put x
    keep_row s one came put (t, Ok taken) keeps (inl left) = inl (passed_more n came one left)
    keep_row s one came put (t, Ok taken) keeps (inr stays) = inr (keeps has_come stays)
    keep_row s one came put (t, Err why) keeps (inl left) = inl left
    keep_row s one came put (t, Err why) keeps (inr stays) = inr (keeps has_come stays)

    same_row : (s : Server) (one : OnLeg) (came put : List OnLeg) (x : Done) → Same s x.0
        → Holds s came put → RowKeeps Holds one came put x
    same_row s one came put x same = keep_row s one came put x (keeps_same n s x.0 same)

    -- IN_R1/A6 comes on this leg, or on another
    leaving_row : (s : Server) (leg : Leg) (successor : Cookie) (came put : List OnLeg)
        → is_of InServer leg ≡ true → Holds s came put
        → RowKeeps Holds (leg, Packet (named.InR1A6 successor)) came put
        (on_in_r1_a6 s leg.number successor)
    leaving_row s leg successor came put here h = by (nat_eq n leg.number) refl
      where
        one : OnLeg
        one = (leg, Packet (named.InR1A6 successor))

        left : nat_eq n leg.number ≡ true → HasPassed n (came ++ one ∷ [])
        left e =
            passed_last n came leg (Packet (named.InR1A6 successor)) refl
            (ap (λ (t : Bool). t && nat_eq n leg.number) here ∙ e)

        Row : Done → Type 0
        Row x = RowKeeps Holds one came put x

        by : (b : Bool) → nat_eq n leg.number ≡ b
            → Row (on_in_r1_a6 s leg.number successor)
        by true e =
            by_test Row ((leg.number == s.current.leg)
            && (not s.line.finished && (s.line.has_next && not (waits kind.InR1A3 s.waiting))))
            (if same_cookie s.next.cookie successor then took (hands_over s leg.number)
            else refuse s (refused.Cookie s.next.cookie successor)) (unexpected s)
            (λ t. by_test Row (same_cookie s.next.cookie successor)
            (took (hands_over s leg.number)) (refuse s (refused.Cookie s.next.cookie successor))
            (λ u. inl (left e)) (λ u. h))
            (λ t. h)
        by false e =
            keep_row s one came put (on_in_r1_a6 s leg.number successor)
            (keeps_in_r1_a6 n s leg.number successor
            (λ same. true≢false (sym (ap (λ (k : ℕ). nat_eq n k) same ∙ test_same n) ∙ e))) h

    -- END/A2 comes on this leg, or on another
    ending_row : (s : Server) (leg : Leg) (count : Count) (came put : List OnLeg)
        → is_of InServer leg ≡ true → Holds s came put
        → RowKeeps Holds (leg, Packet named.EndA2) came put (on_end_a2 s leg.number count)
    ending_row s leg count came put here h = by (nat_eq n leg.number) refl
      where
        one : OnLeg
        one = (leg, Packet named.EndA2)

        Row : Done → Type 0
        Row x = RowKeeps Holds one came put x

        Here : Type 0
        Here = HasPassed n (came ++ one ∷ [])

        on_leg : Here → (l : InLeg) (at : InStage) → Row (end_a2_on_leg s l at)
        on_leg now l in_stage.Fresh = h
        on_leg now l in_stage.Opened = h
        on_leg now l (in_stage.Waits window timeout ended) =
            by_test Row ended (unexpected s)
            (took (with_in s (record l { stage = in_stage.Waits window timeout true }))) (λ t. h)
            (λ t. inl now)

        waiting : Here → (o : Option InLeg) → Row (end_a2_waiting s o)
        waiting now None = h
        waiting now (Some l) = on_leg now l l.stage

        on_channel : Here → (o : Option Which) → Row (end_a2_at s leg.number o)
        on_channel now (Some which) =
            by_test Row (is_over_on s which) (unexpected s) _ (λ t. h) (λ t. inl now)
        on_channel now None = waiting now (in_leg leg.number s.ins)

        by : (b : Bool) → nat_eq n leg.number ≡ b → Row (on_end_a2 s leg.number count)
        by true e =
            by_test Row (is_first count) (unexpected s)
            (end_a2_at s leg.number (channel_at s leg.number)) (λ t. h)
            (λ t. on_channel
            (passed_last n came leg (Packet named.EndA2) refl
            (ap (λ (t : Bool). t && nat_eq n leg.number) here ∙ e))
            (channel_at s leg.number))
        by false e =
            keep_row s one came put (on_end_a2 s leg.number count)
            (keeps_end_a2 n s leg.number count
            (λ same. true≢false (sym (ap (λ (k : ℕ). nat_eq n k) same ∙ test_same n) ∙ e))) h

    is_row : (s : Server) (leg : Leg) (count : Count) (m : Named) (came put : List OnLeg)
        → is_of InServer leg ≡ true → Holds s came put
        → RowKeeps Holds (leg, Packet m) came put (on_is s leg.number count m)
    is_row s leg count (named.ConnB2 v connection cookie window timeout group address padding) came
        put here h =
        keep_row s (
          leg,
          Packet (named.ConnB2 v connection cookie window timeout group address
              padding),
        ) came put (on_conn_b2 s leg.number count connection cookie window timeout)
        (keeps_conn_b2 n s leg.number count connection cookie window timeout) h
    is_row s leg count (named.InR1A2 v connection predecessor successor window timeout) came put
        here h =
        keep_row s (leg, Packet (named.InR1A2 v connection predecessor successor window timeout))
        came put
        (on_in_r1_a2 s leg.number count connection predecessor successor window timeout)
        (keeps_in_r1_a2 n s leg.number count connection predecessor successor window timeout) h
    is_row s leg count (named.InR1A6 successor) came put here h =
        leaving_row s leg successor came put here h
    is_row s leg count (named.InR2A2 successor) came put here h =
        same_row s (leg, Packet (named.InR2A2 successor)) came put
        (on_in_r2_a2 s leg.number count successor) (same_in_r2_a2 n s leg.number count successor) h
    is_row s leg count (named.AckTo destination received window cookie) came put here h =
        same_row s (leg, Packet (named.AckTo destination received window cookie)) came put
        (on_ack_to s count destination received window cookie)
        (same_ack_to n s count destination received window cookie) h
    is_row s leg count (named.OutR1A8 destination successor) came put here h =
        same_row s (leg, Packet (named.OutR1A8 destination successor)) came put
        (on_out_r1_a8 s count destination successor)
        (same_out_r1_a8 n s count destination successor) h
    is_row s leg count named.EndA2 came put here h =
        ending_row s leg count came put here h
    is_row s leg count m came put here h = h

    os_row : (s : Server) (leg : Leg) (k : ℕ) (count : Count) (m : Named) (came put : List OnLeg)
        → Holds s came put → RowKeeps Holds (leg, Packet m) came put (on_os s k count m)
    os_row s leg k count (named.ConnA2 v connection cookie lifetime window) came put h =
        keep_row s (leg, Packet (named.ConnA2 v connection cookie lifetime window)) came put
        (on_conn_a2 s k count connection cookie lifetime window)
        (keeps_conn_a2 n s k count connection cookie lifetime window) h
    os_row s leg k count
        (named.OutR1A4 v connection predecessor successor lifetime window timeout) came put h =
        same_row s
        (leg, Packet (named.OutR1A4 v connection predecessor successor lifetime window timeout))
        came put
        (on_out_r1_a4 s k count connection predecessor successor lifetime window timeout)
        (same_out_r1_a4 n s k count connection predecessor successor lifetime window timeout) h
    os_row s leg k count (named.Ack received window cookie) came put h =
        same_row s (leg, Packet (named.Ack received window cookie)) came put
        (on_ack s k count received window cookie) (same_ack n s k count received window cookie) h
    os_row s leg k count (named.PingTraffic bytes) came put h =
        same_row s (leg, Packet (named.PingTraffic bytes)) came put (on_ping_traffic s count)
        (same_traffic n s count) h
    os_row s leg k count m came put h = h

    packet_row : (s : Server) (leg : Leg) (count : Count) (m : Named) (came put : List OnLeg)
        → Holds s came put → RowKeeps Holds (leg, Packet m) came put (packet s leg count m)
    packet_row s leg count m came put h = by leg.kind refl
      where
        by : (kind : LegKind) → leg.kind ≡ kind
            → RowKeeps Holds (leg, Packet m) came put (packet_by s leg.number count m kind)
        by InServer same =
            is_row s leg count m came put
            (ap (λ (kind : LegKind). is_of InServer (record { kind = kind; number = leg.number }))
            same) h
        by OutServer same = os_row s leg leg.number count m came put h
        by ClientIn same = h
        by ClientOut same = h

    -- ---- what is put

    abbrev PutStays : Pick → Type 0
    PutStays = put_of.PutStays n has_come

    puts : (s : Server) (leg : Leg) (came put : List OnLeg) → Holds s came put
        → PutKeeps Holds leg came put (put_by s leg.number leg.kind)
    puts s leg came put h =
        by (put_by s leg.number leg.kind) h
        (put_of.put_stays n has_come s leg.number leg.kind)
      where
        by : (pick : Pick) → Holds s came put → (Stays has_come s → PutStays pick)
            → PutKeeps Holds leg came put pick
        by None h keeps = tt
        by (Some one) (inl left) keeps = inl left
        by (Some one) (inr stays) keeps = inr (keeps stays)

  -- ---- the role

  same_give : (s : Server) (bytes : List ℕ) → Same s (give s bytes).0
  same_give s bytes = search rules

  same_recycle : (s : Server) → Same s (recycle s).0
  same_recycle s = search rules

  -- by the law of order
  abbrev Known : Server → List OnLeg → List OnLeg → Type 0
  Known s came put =
      (taken : List (List ℕ)) × (legs : ℕ → Bool)
      × TakerLaw (taker_of taken s) legs (λ k. came_on k came)

  -- the leg is lost where the mark or END came
  lost_here : (s : Server) (came put : List OnLeg) → Known s came put → (o : Option InLeg)
      → IsFound n (has_number n s.ins) o → IfSome o IsStaying → in_only_marks s o ≡ true
      → HasPassed n came
  lost_here s came put known None found is only = absurd (true≢false (sym only))
  lost_here s came put known (Some leg) found is only =
      ended_came known.0 known.1 s came known.2 n leg found (is found).1
      (by (stays leg.leaving) (is_put s.end_mark) (ended_on s leg (channel_at s leg.number))
      (ap stays (is found).0) only)
    where
      by : (a b c : Bool) → a ≡ true → (not a || (b && c)) ≡ true → c ≡ true
      by true true c e f = f
      by true false c e f = absurd (true≢false (sym f))
      by false b c e f = absurd (true≢false (sym e))

  mark_holds : (has_come : Bool) (s : Server) (number : ℕ) (kind : LegKind)
      (came put : List OnLeg) → Known s came put → only_marks_by s number kind ≡ true
      → Holds has_come s came put → Holds has_come (mark_by s number kind) came put
  mark_holds has_come s number kind came put known only (inl passed) = inl passed
  mark_holds has_come s number InServer came put known only (inr h) = by (number == n) refl
    where
      by : (b : Bool) → (number == n) ≡ b
          → Holds has_come (mark_by s number InServer) came put
      by true same =
          inl (lost_here s came put known (in_leg n s.ins) (found_number n s.ins)
          (each_found IsStaying s.ins (in_place n s.ins) h.each)
          (subst (λ (k : ℕ). in_only_marks s (in_leg k s.ins) ≡ true)
          (same_number number n same) only))
      by false other =
          inr (keeps_settled n (lost_in s number (in_leg number s.ins)) has_come
          (keeps_lost n s number other has_come h))
  mark_holds has_come s number OutServer came put known only (inr h) =
      inr (keeps_settled n (without_out (with_ack_dropped s number) number) has_come
      (record { each = h.each; there = h.there; work = h.work }))
  mark_holds has_come s number ClientIn came put known only (inr h) = inr h
  mark_holds has_come s number ClientOut came put known only (inr h) = inr h

  steps : (has_come : Bool)
      → StepsKeep server_rules (λ move. Unit {0}) Known (Holds has_come)
  steps has_come = record {
    up = λ s leg cookie came put works.
        hold has_come s (up s leg cookie) came put put (keeps_up n s leg cookie has_come);
    head = λ s leg text came put works none h. h;
    pdu = λ s leg count bytes came put works.
        same_row has_come s (leg, Pdu bytes) came put (pdu s leg count bytes)
        (same_pdu n s leg count bytes);
    packet = λ s leg count m came put works. packet_row has_come s leg count m came put;
    put = λ s leg came put works. puts has_come s leg came put;
    mark = λ s leg came put works only asks known.
        mark_holds has_come s leg.number leg.kind came put known only;
    drawn = λ s leg came put.
        hold has_come s (drawn s leg) came put put (keeps_drawn n s leg.number leg.kind has_come);
    ping = λ s leg came put h. h;
  }

  calls : (has_come : Bool) → ActsKeep acts (Holds has_come)
  calls has_come = record {
    give = λ s bytes came put.
        hold has_come s (give s bytes).0 came put put
        (keeps_same n s (give s bytes).0 (same_give s bytes) has_come);
    take = λ s came put.
        hold has_come s (take s) came put put
        (λ h. keeps_moved n s.line.has_next (record s { line = after_take s.line }) has_come
        (record { each = h.each; there = h.there; work = h.work }));
    close = λ s came put.
        hold has_come s (close s) came put put
        (λ h. record { each = h.each; there = h.there; work = h.work });
    recycle = λ s came put.
        hold has_come s (recycle s).0 came put put
        (keeps_same n s (recycle s).0 (same_recycle s) has_come);
  }

  -- ---- the leg comes up

  abbrev HoldsAt : Bool → EndPassage Server → Type 0
  HoldsAt has_come p = Holds has_come p.passage.role p.passage.came p.passage.put

  has_come_up : (s : Server) (leg : Leg) (cookie : Cookie)
      → (not (is_ended (phase_of s.stage))) ≡ true → may_up s leg ≡ true
      → (is_of InServer leg && nat_eq n leg.number) ≡ true → Stays false s
      → Stays true (up s leg cookie)
  has_come_up s leg cookie going may is h =
      by_test (Stays true) (may_up s leg) (up_by s leg.number leg.kind) s
      (λ t. by leg.kind
      (and_parts (is_of InServer leg) (nat_eq n leg.number) is).0)
      (λ t. absurd (true≢false (sym may ∙ t)))
    where
      same : n ≡ leg.number
      same =
          same_number n leg.number (and_parts (is_of InServer leg) (nat_eq n leg.number) is).1

      works : (b : Bool) → not b ≡ true → b ≡ false
      works false e = refl
      works true e = absurd (true≢false (sym e))

      by : (kind : LegKind)
          → is_of InServer (record { kind = kind; number = leg.number }) ≡ true
          → Stays true (up_by s leg.number kind)
      by InServer e = record {
        each = each_push IsStaying s.ins (in_leg_up leg.number) h.each (λ same. (refl, refl));
        there = λ e. number_last n s.ins (in_leg_up leg.number) (sym same);
        work = λ e. works (is_ended (phase_of s.stage)) going;
      }
      by OutServer e = absurd (true≢false (sym e))
      by ClientIn e = absurd (true≢false (sym e))
      by ClientOut e = absurd (true≢false (sym e))

  came_move : (p : EndPassage Server) (move : EndMove)
      → MayEndMove server_rules p.passage.role move → is_up n move ≡ true → HoldsAt false p
      → HoldsAt true (end_moved server_rules acts p move)
  came_move p (Moves (Up leg cookie)) may is (inl left) = inl left
  came_move p (Moves (Up leg cookie)) may is (inr stays) =
      inr (has_come_up p.passage.role leg cookie may.0 may.1 is stays)
  came_move p (Moves (HeadCame leg text)) may is h = absurd (true≢false (sym is))
  came_move p (Moves (PduCame leg count pdu)) may is h = absurd (true≢false (sym is))
  came_move p (Moves (PacketCame leg count m)) may is h = absurd (true≢false (sym is))
  came_move p (Moves (Puts leg)) may is h = absurd (true≢false (sym is))
  came_move p (Moves (IsDrawn leg)) may is h = absurd (true≢false (sym is))
  came_move p (Moves (Marks leg)) may is h = absurd (true≢false (sym is))
  came_move p (Moves (Pings leg)) may is h = absurd (true≢false (sym is))
  came_move p (Gives pdu) may is h = absurd (true≢false (sym is))
  came_move p Takes may is h = absurd (true≢false (sym is))
  came_move p Closes may is h = absurd (true≢false (sym is))
  came_move p Recycles may is h = absurd (true≢false (sym is))

  abbrev KnownAt : EndPassage Server → Type 0
  KnownAt p = Known p.passage.role p.passage.came p.passage.put

  came_moves : (p : EndPassage Server) (moves : List EndMove)
      → AreAllowedAtEnd server_rules acts p moves
      → ((front : List EndMove) → AreAllowedAtEnd server_rules acts p front
      → KnownAt (all_end_moved server_rules acts p front))
      → came_up moves n ≡ true → HoldsAt false p
      → HoldsAt true (all_end_moved server_rules acts p moves)
  came_moves p [] may known is h = absurd (true≢false (sym is))
  came_moves p (move ∷ moves) may known is h =
      by (is_up n move) refl is
      (λ later. came_moves (end_moved server_rules acts p move) moves may.1
      (λ front allowed. known (move ∷ front) (may.0, allowed)) later
      (end_move_keeps server_rules Known (Holds false) (steps false) acts (calls false) p move
      may.0 (known [] tt) h))
    where
      q : EndPassage Server
      q = end_moved server_rules acts p move

      by : (b : Bool) → is_up n move ≡ b → (b || came_up moves n) ≡ true
          → (came_up moves n ≡ true → HoldsAt true (all_end_moved server_rules acts q moves))
          → HoldsAt true (all_end_moved server_rules acts q moves)
      by true now is rest =
          end_moves_keep server_rules Known (Holds true) (steps true) acts (calls true) q moves
          may.1 (λ front allowed. known (move ∷ front) (may.0, allowed))
          (came_move p move may.0 now h)
      by false now is rest = rest is

  -- ---- a leg that is done

  in_use : (s : Server) → Stays true s → is_in_use server_rules s (is_leg n) ≡ true
  in_use s h =
      by (is_ended (phase_of s.stage)) (in_is_done (in_leg n s.ins)) (h.work refl)
      (kept (in_leg n s.ins) (found_number n s.ins)
      (each_found IsStaying s.ins (in_place n s.ins) h.each))
    where
      kept : (o : Option InLeg) → IsFound n (has_number n s.ins) o → IfSome o IsStaying
          → in_is_done o ≡ false
      kept None found is = absurd (true≢false (sym (h.there refl) ∙ found))
      kept (Some leg) found is =
          ap (λ (x : Leaving). has_left x || is_lost x) (is found).0

      by : (a b : Bool) → a ≡ false → b ≡ false → (not a && not b) ≡ true
      by false false e f = refl
      by true b e f = absurd (true≢false e)
      by false true e f = absurd (true≢false f)

abbrev start : ℕ → EndPassage Server
start window = end_started (first window)

-- the law of order holds behind all moves
abbrev pub AllKnown : ℕ → Type 0
AllKnown window =
    (moves : List EndMove) → AreAllowedAtEnd server_rules acts (start window) moves
    → (let p = all_end_moved server_rules acts (start window) moves in
    TakerLaw (taker_of p.taken p.passage.role) (has_leg moves p.passage.role) (got p))

pub server_done : (window : ℕ) → AllKnown window → (moves : List EndMove)
    → AreAllowedAtEnd server_rules acts (start window) moves
    → (let p = all_end_moved server_rules acts (start window) moves in
    (n : ℕ) → came_up moves n ≡ true
    → IsDoneBehindEnd server_rules p.passage.role (is_leg n) (got p n))
server_done window law moves may n is e =
    by (came_moves n (start window) moves may known is
    (inr (record {
      each = tt;
      there = λ f. absurd (true≢false (sym f));
      work = λ f. absurd (true≢false (sym f));
    })))
  where
    p : EndPassage Server
    p = all_end_moved server_rules acts (start window) moves

    known : (front : List EndMove) → AreAllowedAtEnd server_rules acts (start window) front
        → KnownAt n (all_end_moved server_rules acts (start window) front)
    known front allowed =
        let q = all_end_moved server_rules acts (start window) front in
        (q.taken, has_leg front q.passage.role, law front allowed)

    by : HoldsAt n true p → (has_handover (got p n) || has_end (got p n)) ≡ true
    by (inl passed) = passed
    by (inr h) = absurd (true≢false (sym (in_use n p.passage.role h) ∙ e))
