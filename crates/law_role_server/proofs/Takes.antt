-- a server takes in order: each move that is allowed keeps the law of an end that takes
use Rattle.law_order.proofs.Vocabulary.{◌≡◌, ◌≢◌, ℕ, ◌+◌, ◌<◌, ◌==◌, ◌&&◌, ◌||◌, cond, nat_eq, nat_lt, List, [], ◌∷◌, Bool, true, false, not, IsTrue, Some, None, Ok, Err, arith, refl, sym, ap, ◌∙◌, subst, nat_le, length, Option, Result, fun_ext, Log, TakerLaw}
use Rattle.rh_sig.specs.declared.named.Named.TheVariants as named
use Rattle.rh_shell.specs.declared.end_role.GiveRefused.TheVariants as give_refused
use Rattle.rh_server.specs.Servers.{pdu_by}
use Rattle.rh_server.specs.declared.state.InStage.TheVariants as in_stage
use Rattle.rh_server.specs.declared.state.Leaving.TheVariants as leaving
use Rattle.law_moves.proofs.Vocabulary.{by_test, same_number, shelves_alike, shelves_fewer, taker_starts, or_none, pdu_fault, PduFault, Cookie, Named, queue_bytes, total, Leg, LegKind, ClientOut, OutServer, ClientIn, InServer, Which, Count, GiveRefused, Message, Pdu, Packet, is_of, Move, Up, HeadCame, PduCame, PacketCame, Puts, IsDrawn, Marks, Pings, EndPassage, EndMove, Moves, Gives, Takes, Closes, Recycles, MayMove, MayEndMove, AreAllowedAtEnd, put_by, taken_by, given_by}
use Rattle.law_moves.proofs.Vocabulary.{with_first, started, end_now_at, end_started, end_moved, all_end_moved, is_at_work}
use Rattle.law_role_server.proofs.Vocabulary.{InLeg, InStage, Leaving, Server, is_put, is_closing, is_waiting, stays, has_left, in_leg, with_in, without_in, without_out, Done, may_up, may_up_by, has_room, up, up_by, channel_at, on_pdu, on_ack_to, take, on_out_r1_a8, recycle, give, give_by, settled, in_is_done, in_is_drawn, is_done, drawn_by, waits_ended, ended_on, lost_in, in_only_marks, only_marks, with_ack_dropped, mark_by, Pick, put_in, put_out, put_by as put_by_kind}
use Rattle.law_role_server.proofs.Vocabulary.{rules, acts, first, on_is, on_os, packet_by, in_items, got, is_up, came_up, has_leg, ended_by, shelves_of, taker_of}
use Rattle.law_role_server.proofs.Gives.{log_more, log_other, both}
use Rattle.law_role_server.proofs.InSpots.{Spot, spot, spots, spot_by, at, leg_spot, at_number}
use Rattle.law_role_server.proofs.TakesKept.{reads, ended_at, leaves_at, is_coming, top, Took, differ as differs}
use Rattle.law_role_server.proofs.TakesQuiet.{Quiet, still, set_quiet, quietly, RowTook, quiet_row, PickQuiet, settled_quiet, quiet_then, conn_a2_quiet, ack_to_quiet, ack_quiet, ping_quiet, a4_quiet, a8_quiet, recycle_quiet, dropped_quiet, out_quiet, in_quiet}
use Rattle.law_role_server.proofs.TakesRows.{pdu_took, end_took, a6_row, take_took}
use Rattle.law_role_server.proofs.TakesLegs.{up_took, gone_took, left_low, open_low, leg_high, in_r2_a2_row, conn_b2_row}
use Rattle.law_role_server.proofs.TakesOpens.{in_r1_a2_row}

-- up n: leg n came up
abbrev TookAt : EndPassage Server → (ℕ → Bool) → Type 0
TookAt p up = Took p.taken up (got p) (reads p.passage.role) p.passage.role.waiting

-- ---- the rows of the legs

is_row : (out : List (List ℕ)) (up : ℕ → Bool) (came : Log) (s : Server) (n : ℕ) (count : Count)
    → ((leg : Option InLeg) → in_leg n s.ins ≡ leg → leg ≢ None) → (packet : Named)
    → Took out up came (reads s) s.waiting
    → RowTook out up came n (in_items (Packet packet)) (on_is s n count packet)
is_row out up came s n count there (named.ConnA1 v1 v2 v3 v4) l = l
is_row out up came s n count there (named.ConnA2 v1 v2 v3 v4 v5) l = l
is_row out up came s n count there (named.ConnA3 v1) l = l
is_row out up came s n count there (named.ConnB1 v1 v2 v3 v4 v5 v6) l = l
is_row out up came s n count there (named.ConnB2 v1 v2 v3 v4 v5 v6 v7 v8) l =
    conn_b2_row out up came s n count v2 v3 v4 v5 there l
is_row out up came s n count there (named.ConnB3 v1 v2) l = l
is_row out up came s n count there (named.ConnC1 v1 v2 v3) l = l
is_row out up came s n count there (named.ConnC2 v1 v2 v3) l = l
is_row out up came s n count there (named.InR1A1 v1 v2 v3 v4) l = l
is_row out up came s n count there (named.InR1A2 v1 v2 v3 v4 v5 v6) l =
    in_r1_a2_row out up came s n count v2 v3 v4 v5 v6 l
is_row out up came s n count there (named.InR1A3 v1 v2 v3 v4) l = l
is_row out up came s n count there (named.InR1A4 v1 v2 v3 v4) l = l
is_row out up came s n count there (named.InR1A5 v1) l = l
is_row out up came s n count there (named.InR1A6 v1) l = a6_row out up came s n v1 l
is_row out up came s n count there named.InR1B1 l = l
is_row out up came s n count there (named.InR1B2 v1) l = l
is_row out up came s n count there (named.InR2A2 v1) l = in_r2_a2_row out up came s n count v1 l
is_row out up came s n count there (named.InR2A3 v1) l = l
is_row out up came s n count there (named.InR2A4 v1) l = l
is_row out up came s n count there (named.OutR1A1 v1) l = l
is_row out up came s n count there (named.OutR1A2 v1) l = l
is_row out up came s n count there (named.OutR1A3 v1 v2 v3 v4 v5) l = l
is_row out up came s n count there named.OutR2C1 l = l
is_row out up came s n count there (named.OutR1A4 v1 v2 v3 v4 v5 v6 v7) l = l
is_row out up came s n count there (named.OutR1A5 v1 v2 v3) l = l
is_row out up came s n count there (named.OutR1A6 v1 v2 v3) l = l
is_row out up came s n count there (named.OutR1A7 v1 v2) l = l
is_row out up came s n count there (named.OutR1A8 v1 v2) l =
    quiet_row out up came s n (on_out_r1_a8 s count v1 v2) (a8_quiet s count v1 v2) l
is_row out up came s n count there named.OutR1A9 l = l
is_row out up came s n count there named.OutR1A10 l = l
is_row out up came s n count there named.EndA1 l = l
is_row out up came s n count there named.EndA2 l = end_took out up came s n count l
is_row out up came s n count there named.EndB1 l = l
is_row out up came s n count there named.EndB2 l = l
is_row out up came s n count there (named.Ack v1 v2 v3) l = l
is_row out up came s n count there (named.AckTo v1 v2 v3 v4) l =
    quiet_row out up came s n (on_ack_to s count v1 v2 v3 v4) (ack_to_quiet s count v1 v2 v3 v4) l
is_row out up came s n count there (named.KeepAlive v1) l = l
is_row out up came s n count there (named.PingTraffic v1) l = l
is_row out up came s n count there named.Ping l = l

os_row : (s : Server) (n : ℕ) (count : Count) (packet : Named)
    → Quiet s (on_os s n count packet).0
os_row s n count (named.ConnA1 v1 v2 v3 v4) = still s
os_row s n count (named.ConnA2 v1 v2 v3 v4 v5) = conn_a2_quiet s n count v2 v3 v4 v5
os_row s n count (named.ConnA3 v1) = still s
os_row s n count (named.ConnB1 v1 v2 v3 v4 v5 v6) = still s
os_row s n count (named.ConnB2 v1 v2 v3 v4 v5 v6 v7 v8) = still s
os_row s n count (named.ConnB3 v1 v2) = still s
os_row s n count (named.ConnC1 v1 v2 v3) = still s
os_row s n count (named.ConnC2 v1 v2 v3) = still s
os_row s n count (named.InR1A1 v1 v2 v3 v4) = still s
os_row s n count (named.InR1A2 v1 v2 v3 v4 v5 v6) = still s
os_row s n count (named.InR1A3 v1 v2 v3 v4) = still s
os_row s n count (named.InR1A4 v1 v2 v3 v4) = still s
os_row s n count (named.InR1A5 v1) = still s
os_row s n count (named.InR1A6 v1) = still s
os_row s n count named.InR1B1 = still s
os_row s n count (named.InR1B2 v1) = still s
os_row s n count (named.InR2A2 v1) = still s
os_row s n count (named.InR2A3 v1) = still s
os_row s n count (named.InR2A4 v1) = still s
os_row s n count (named.OutR1A1 v1) = still s
os_row s n count (named.OutR1A2 v1) = still s
os_row s n count (named.OutR1A3 v1 v2 v3 v4 v5) = still s
os_row s n count named.OutR2C1 = still s
os_row s n count (named.OutR1A4 v1 v2 v3 v4 v5 v6 v7) =
    a4_quiet s n count v2 v3 v4 v5 v6 v7
os_row s n count (named.OutR1A5 v1 v2 v3) = still s
os_row s n count (named.OutR1A6 v1 v2 v3) = still s
os_row s n count (named.OutR1A7 v1 v2) = still s
os_row s n count (named.OutR1A8 v1 v2) = still s
os_row s n count named.OutR1A9 = still s
os_row s n count named.OutR1A10 = still s
os_row s n count named.EndA1 = still s
os_row s n count named.EndA2 = still s
os_row s n count named.EndB1 = still s
os_row s n count named.EndB2 = still s
os_row s n count (named.Ack v1 v2 v3) = ack_quiet s n count v1 v2 v3
os_row s n count (named.AckTo v1 v2 v3 v4) = still s
os_row s n count (named.KeepAlive v1) = still s
os_row s n count (named.PingTraffic v1) = ping_quiet s count
os_row s n count named.Ping = still s

abbrev is_leg : ℕ → Leg
is_leg n = record { kind = InServer; number = n }

-- a message on an is leg
in_row : (p : EndPassage Server) (up : ℕ → Bool) (n : ℕ) (m : Message) (x : Done)
    → RowTook p.taken up (got p) n (in_items m) x
    → TookAt (record p { passage = taken_by p.passage (is_leg n) m x }) up
in_row p up n m (t, Ok took) l =
    subst (λ log. Took p.taken up log (reads t) t.waiting)
    (sym (log_more in_items InServer p.passage.came (is_leg n, m) refl)) l
in_row p up n m (t, Err why) l = l

-- and on a leg of another kind
other_row : (p : EndPassage Server) (up : ℕ → Bool) (leg : Leg) (m : Message) (x : Done)
    → is_of InServer leg ≡ false → Quiet p.passage.role x.0 → TookAt p up
    → TookAt (record p { passage = taken_by p.passage leg m x }) up
other_row p up leg m (t, Ok took) other q l =
    subst (λ log. Took p.taken up log (reads t) t.waiting)
    (sym (log_other in_items InServer p.passage.came (leg, m) other))
    (quietly p.taken up (got p) p.passage.role t q l)
other_row p up leg m (t, Err why) other q l = quietly p.taken up (got p) p.passage.role t q l

pick_took : (p : EndPassage Server) (up : ℕ → Bool) (leg : Leg) (pick : Pick)
    → PickQuiet p.passage.role pick → TookAt p up
    → TookAt (record p { passage = put_by p.passage leg pick }) up
pick_took p up leg None q l = l
pick_took p up leg (Some (t, m)) q l = quietly p.taken up (got p) p.passage.role t q l

-- ---- the leg is kept

in_use : (s : Server) (n : ℕ) → not (in_is_done (in_leg n s.ins)) ≡ true
    → (leg : Option InLeg) → in_leg n s.ins ≡ leg → leg ≢ None
in_use s n e None f is = absurd (subst (λ o. not (in_is_done o) ≡ true → ⊥) (sym f) (λ t. absurd
    (cc)) e)
in_use s n e (Some leg) f is = absurd (cc)

left_leaves : (l : Leaving) → has_left l ≡ true → not (stays l) ≡ true
left_leaves leaving.Stays e = absurd (cc)
left_leaves leaving.InR1B1 e = absurd (cc)
left_leaves leaving.Left e = refl
left_leaves leaving.Lost e = absurd (cc)

ended_waits : (x : InStage) → waits_ended x ≡ true → is_waiting x ≡ true
ended_waits in_stage.Fresh e = absurd (cc)
ended_waits in_stage.Opened e = absurd (cc)
ended_waits (in_stage.Waits window timeout ended) e = refl

pub not_false : (b : Bool) → not b ≡ false → b ≡ true
not_false true e = refl
not_false false e = absurd (cc)

abbrev spot_of : ℕ → InStage → Bool → Spot
spot_of number stage stays = record { number = number; stage = stage; stays = stays }

module _ (p : EndPassage Server) (up_legs : ℕ → Bool) (n : ℕ) (l : TookAt p up_legs) where
  abbrev s : Server
  s = p.passage.role

  abbrev IsOpen : Type 0
  IsOpen = top s.line.has_next s.current.leg s.next.leg < n
      → is_coming (at n (spots s.ins)) ≡ true → ⊥

  leaves : (leg : InLeg) → in_leg n s.ins ≡ Some leg → not (stays leg.leaving) ≡ true → IsOpen
  leaves leg e go a c = left_low p.taken up_legs (got p) s n l
      (ap leaves_at (sym (leg_spot n s.ins) ∙ ap spot_by e) ∙ go) a

  drawn_open : (leg : Option InLeg) → in_leg n s.ins ≡ leg → in_is_drawn leg ≡ true → IsOpen
  drawn_open None e is a c =
      absurd (subst (λ o. is_coming o ≡ true → ⊥) (ap spot_by (sym e) ∙ leg_spot n s.ins)
      (λ t. absurd (cc)) c)
  drawn_open (Some leg) e is a c = leaves leg e (left_leaves leg.leaving is) a c

  number : (leg : InLeg) → in_leg n s.ins ≡ Some leg → leg.number ≡ n
  number leg e = at_number n (spots s.ins) (spot leg) (sym (leg_spot n s.ins) ∙ ap spot_by e)

  -- a leg that may be lost, and whose channel does not wait
  marks_open : (leg : InLeg) → in_leg n s.ins ≡ Some leg → in_only_marks s (Some leg) ≡ true
      → is_waiting leg.stage && stays leg.leaving ≡ false → IsOpen
  marks_open leg e is k = by (not (stays leg.leaving)) refl is
    where
      channel : (which : Option Which) → channel_at s leg.number ≡ which
          → stays leg.leaving ≡ true → ended_on s leg which ≡ true → IsOpen
      channel None f st o = absurd (differs (is_waiting leg.stage && stays leg.leaving)
          (ap (λ b. b && stays leg.leaving) (ended_waits leg.stage o) ∙ st) k)
      channel (Some which) f st o = λ a c. open_low s n which
          (ap (channel_at s) (sym (number leg e)) ∙ f)
          (leg_high p.taken up_legs (got p) s l) a

      by : (b : Bool) → not (stays leg.leaving) ≡ b
          → b || (is_put s.end_mark && ended_on s leg (channel_at s leg.number)) ≡ true → IsOpen
      by true go is = leaves leg e go
      by false go is = channel (channel_at s leg.number) refl
          (not_false (stays leg.leaving) go)
          (both (is_put s.end_mark) (ended_on s leg (channel_at s leg.number)) is).1

  goes : IsOpen
      → Took p.taken up_legs (got p) (reads (settled (without_in s n)))
      (settled (without_in s n)).waiting
  goes o = quietly p.taken up_legs (got p) (without_in s n) (settled (without_in s n))
      (settled_quiet (without_in s n)) (gone_took p.taken up_legs (got p) s n o l)

  -- a leg whose channel waits is lost, and that is kept
  kept_lost : (leg : InLeg) → in_leg n s.ins ≡ Some leg
      → is_waiting leg.stage && stays leg.leaving ≡ true
      → Took p.taken up_legs (got p)
      (reads (settled (with_in s (record leg { leaving = leaving.Lost }))))
      (settled (with_in s (record leg { leaving = leaving.Lost }))).waiting
  kept_lost leg e k =
      let t : Server = with_in s (record leg { leaving = leaving.Lost }) in
      quietly p.taken up_legs (got p) s (settled t)
      (quiet_then s t (settled t)
      (set_quiet s s n leg (record leg { leaving = leaving.Lost }) (still s) refl e
      (ap (λ b. spot_of leg.number leg.stage b)
      (sym (both (is_waiting leg.stage) (stays leg.leaving) k).1)))
      (settled_quiet t)) l

-- ---- each move

-- no is leg came up
same_up : (p : EndPassage Server) (up : ℕ → Bool) → TookAt p up → TookAt p (λ n. up n || false)
same_up p up l = subst (TookAt p) (fun_ext (λ n. or_none (up n))) l

up_move : (p : EndPassage Server) (up_legs : ℕ → Bool) (leg : Leg) (cookie : Cookie)
    → IsTrue (may_up p.passage.role leg) → TookAt p up_legs
    → TookAt (end_moved rules acts p (Moves (Up leg cookie)))
    (λ n. up_legs n || is_up n (Moves (Up leg cookie)))
up_move p up_legs leg cookie may l = by leg.kind may
  where
    s : Server
    s = p.passage.role

    by : (kind : LegKind) → may_up_by s leg.number kind ≡ true
        → Took p.taken (λ n. up_legs n || is_up n (Moves (Up (record {
          kind = kind;
          number = leg.number;
        }) cookie))) (got p)
        (reads (cond (may_up_by s leg.number kind) (up_by s leg.number kind) s))
        (cond (may_up_by s leg.number kind) (up_by s leg.number kind) s).waiting
    by InServer m =
        by_test (λ t. Took p.taken (λ n. up_legs n || nat_eq n leg.number) (got p) (reads t)
        t.waiting) (may_up_by s leg.number InServer) (up_by s leg.number InServer) s
        (λ e. up_took p.taken up_legs (λ n. up_legs n || nat_eq n leg.number) (got p) s leg.number
        (let is = same_number leg.number (s.newest_in + 1)
        (both (leg.number == s.newest_in + 1) (has_room s.ins) e).0 in omega (arith, is))
        (λ n. refl) l)
        (λ e. absurd (different (may_up_by s leg.number InServer) m e))
      where
        different : (b : Bool) → b ≡ true → b ≡ false → ⊥
        different true e f = absurd (cc)
        different false e f = absurd (cc)
    by OutServer m =
        by_test (λ t. Took p.taken (λ n. up_legs n || false) (got p) (reads t)
        t.waiting) (may_up_by s leg.number OutServer) (up_by s leg.number OutServer) s
        (λ e. same_up p up_legs l) (λ e. same_up p up_legs l)
    by ClientIn m = absurd (cc)
    by ClientOut m = absurd (cc)

move_took : (p : EndPassage Server) (up_legs : ℕ → Bool) (move : Move)
    → MayMove rules p.passage.role move → TookAt p up_legs
    → TookAt (end_moved rules acts p (Moves move)) (λ n. up_legs n || is_up n (Moves move))
move_took p up_legs (Up leg cookie) may l = up_move p up_legs leg cookie may.1 l
move_took p up_legs (HeadCame leg text) may l = same_up p up_legs l
move_took p up_legs (PduCame leg count bytes) may l =
    same_up (end_moved rules acts p (Moves (PduCame leg count bytes))) up_legs (by leg.kind)
  where
    by : (kind : LegKind) → TookAt (record p {
      passage = taken_by p.passage (record { kind = kind; number = leg.number }) (Pdu bytes)
          (pdu_by p.passage.role leg.number bytes kind);
    }) up_legs
    by InServer = in_row p up_legs leg.number (Pdu bytes) (on_pdu p.passage.role leg.number bytes)
        (pdu_took p.taken up_legs (got p) p.passage.role leg.number bytes l)
    by OutServer = l
    by ClientIn = l
    by ClientOut = l
move_took p up_legs (PacketCame leg count named) may l =
    same_up (end_moved rules acts p (Moves (PacketCame leg count named))) up_legs
    (by leg.kind (both (is_at_work rules s) (not (is_done s leg)) may).1)
  where
    s : Server
    s = p.passage.role

    by : (kind : LegKind) → not (is_done s (record { kind = kind; number = leg.number })) ≡ true
        → TookAt (record p {
          passage = taken_by p.passage (record { kind = kind; number = leg.number })
              (Packet named) (packet_by s leg.number count named kind);
        }) up_legs
    by InServer used = in_row p up_legs leg.number (Packet named) (on_is s leg.number count named)
        (is_row p.taken up_legs (got p) s leg.number count (in_use s leg.number used) named l)
    by OutServer used = other_row p up_legs (record { kind = OutServer; number = leg.number })
        (Packet named) (on_os s leg.number count named) refl (os_row s leg.number count named) l
    by ClientIn used = l
    by ClientOut used = l
move_took p up_legs (Puts leg) may l =
    same_up (end_moved rules acts p (Moves (Puts leg))) up_legs (by leg.kind)
  where
    by : (kind : LegKind) → TookAt (record p {
      passage = put_by p.passage (record { kind = kind; number = leg.number })
          (put_by_kind p.passage.role leg.number kind);
    }) up_legs
    by InServer = pick_took p up_legs (record { kind = InServer; number = leg.number })
        (put_in p.passage.role leg.number) (in_quiet p.passage.role leg.number) l
    by OutServer = pick_took p up_legs (record { kind = OutServer; number = leg.number })
        (put_out p.passage.role leg.number) (out_quiet p.passage.role leg.number) l
    by ClientIn = l
    by ClientOut = l
move_took p up_legs (IsDrawn leg) may l =
    same_up (end_moved rules acts p (Moves (IsDrawn leg))) up_legs (by leg.kind)
  where
    s : Server
    s = p.passage.role

    by : (kind : LegKind) → Took p.taken up_legs (got p) (reads (drawn_by s leg.number kind))
        (drawn_by s leg.number kind).waiting
    by InServer =
        by_test (λ (t : Server). Took p.taken up_legs (got p) (reads t) t.waiting)
        (in_is_drawn (in_leg leg.number s.ins)) (settled (without_in s leg.number)) s
        (λ e. goes p up_legs leg.number l
        (drawn_open p up_legs leg.number l (in_leg leg.number s.ins) refl e))
        (λ e. l)
    by OutServer = l
    by ClientIn = l
    by ClientOut = l
move_took p up_legs (Marks leg) may l =
    same_up (end_moved rules acts p (Moves (Marks leg))) up_legs (by leg.kind may.1)
  where
    s : Server
    s = p.passage.role

    lost : (kept : Option InLeg) → in_leg leg.number s.ins ≡ kept → in_only_marks s kept ≡ true
        → Took p.taken up_legs (got p) (reads (settled (lost_in s leg.number kept)))
        (settled (lost_in s leg.number kept)).waiting
    lost None e is = absurd (cc)
    lost (Some one) e is =
        by_test (λ (t : Server). Took p.taken up_legs (got p) (reads (settled t))
        (settled t).waiting) (is_waiting one.stage && stays one.leaving)
        (with_in s (record one { leaving = leaving.Lost })) (without_in s leg.number)
        (λ k. kept_lost p up_legs leg.number l one e k)
        (λ k. goes p up_legs leg.number l (marks_open p up_legs leg.number l one e is k))

    by : (kind : LegKind) → only_marks s (record { kind = kind; number = leg.number }) ≡ true
        → Took p.taken up_legs (got p) (reads (mark_by s leg.number kind))
        (mark_by s leg.number kind).waiting
    by InServer m = lost (in_leg leg.number s.ins) refl m
    by OutServer m = quietly p.taken up_legs (got p) s
        (settled (without_out (with_ack_dropped s leg.number) leg.number))
        (quiet_then s (without_out (with_ack_dropped s leg.number) leg.number)
        (settled (without_out (with_ack_dropped s leg.number) leg.number))
        (dropped_quiet s leg.number)
        (settled_quiet (without_out (with_ack_dropped s leg.number) leg.number))) l
    by ClientIn m = l
    by ClientOut m = l
move_took p up_legs (Pings leg) may l = same_up p up_legs l

-- ---- the calls of an end

give_quiet : (s : Server) (bytes : List ℕ) → Quiet s (give s bytes).0
give_quiet s bytes =
    by_test (λ (x : Server × Result (Unit {0}) GiveRefused). Quiet s x.0) (is_closing s.giving)
    (s, Err give_refused.Closing) (give_by s bytes (pdu_fault bytes)) (λ e. still s)
    (λ e. by (pdu_fault bytes))
  where
    by : (fault : Option PduFault) → Quiet s (give_by s bytes fault).0
    by (Some fault) = still s
    by None =
        by_test (λ (x : Server × Result (Unit {0}) GiveRefused). Quiet s x.0)
        (nat_le (total s.queue + length bytes) queue_bytes) _ _
        (λ e. record { same = refl; calm = λ c. c }) (λ e. still s)

given_took : (p : EndPassage Server) (up : ℕ → Bool) (bytes : List ℕ)
    (x : Server × Result (Unit {0}) GiveRefused) → Quiet p.passage.role x.0 → TookAt p up
    → TookAt (given_by p bytes x) up
given_took p up bytes (t, Ok accepted) q l = quietly p.taken up (got p) p.passage.role t q l
given_took p up bytes (t, Err refused) q l = quietly p.taken up (got p) p.passage.role t q l

first_took : (p : EndPassage Server) (up : ℕ → Bool) (s : Server) (pdus : List (List ℕ))
    → Took (with_first (record {
      passage = started p.passage.role;
      given = [];
      taken = p.taken;
    }) pdus).taken up (got p) (reads s) s.waiting
    → TookAt (with_first (end_now_at p s) pdus) up
first_took p up s [] l = l
first_took p up s (x ∷ xs) l = l

end_move_took : (p : EndPassage Server) (up_legs : ℕ → Bool) (move : EndMove)
    → MayEndMove rules p.passage.role move → TookAt p up_legs
    → TookAt (end_moved rules acts p move) (λ n. up_legs n || is_up n move)
end_move_took p up_legs (Moves move) may l = move_took p up_legs move may l
end_move_took p up_legs (Gives bytes) may l =
    same_up (end_moved rules acts p (Gives bytes)) up_legs
    (given_took p up_legs bytes (give p.passage.role bytes) (give_quiet p.passage.role bytes) l)
end_move_took p up_legs Takes may l =
    same_up (end_moved rules acts p Takes) up_legs
    (first_took p up_legs (take p.passage.role) p.passage.role.line.current.pdus
    (take_took p.taken up_legs (got p) p.passage.role p.passage.role.line.current.pdus refl l))
end_move_took p up_legs Closes may l =
    same_up (end_moved rules acts p Closes) up_legs l
end_move_took p up_legs Recycles may l =
    same_up (end_moved rules acts p Recycles) up_legs
    (quietly p.taken up_legs (got p) p.passage.role (recycle p.passage.role).0
    (recycle_quiet p.passage.role) l)

pub or_again : (a b c : Bool) → (a || b) || c ≡ a || (b || c)
or_again true b c = refl
or_again false b c = refl

all_took : (moves : List EndMove) (p : EndPassage Server) (up_legs : ℕ → Bool)
    → AreAllowedAtEnd rules acts p moves → TookAt p up_legs
    → TookAt (all_end_moved rules acts p moves) (λ n. up_legs n || came_up moves n)
all_took [] p up_legs may l = same_up p up_legs l
all_took (move ∷ moves) p up_legs may l =
    subst (TookAt (all_end_moved rules acts (end_moved rules acts p move) moves))
    (fun_ext (λ n. or_again (up_legs n) (is_up n move) (came_up moves n)))
    (all_took moves (end_moved rules acts p move) (λ n. up_legs n || is_up n move) may.1
    (end_move_took p up_legs move may.0 l))

-- ---- the law

starts : (window : ℕ) → TookAt (end_started (first window)) (λ n. false)
starts window = record {
  later = λ n. false;
  known = λ n. nat_lt 0 n;
  law = taker_starts (λ n. nat_lt 0 n) refl;
  behind = record {
    sorted = omega arith;
    present = λ n a b e. absurd (omega (arith, a, b));
    waiting = λ n e. absurd (cc);
    fresh = λ b n e. absurd (cc);
    order = λ n k a b. absurd (cc);
  };
  kept = record {
    waiting = λ n e. absurd (cc);
    between = λ e. absurd (cc);
    nothing = λ e. refl;
    followed = λ e. absurd (cc);
    opening = λ e. (refl, refl);
    reached = λ e. absurd (cc);
    leaving = λ n e. absurd (cc);
  };
  ended = λ n a. refl;
  all = λ n e. or_none (nat_lt 0 n) ∙ e;
  low = λ n e. absurd (cc);
  idle = λ e. refl;
  told = λ e. refl;
}

-- in the words of the law
tells : (moves : List EndMove) (p : EndPassage Server) → TookAt p (came_up moves)
    → TakerLaw (taker_of p.taken p.passage.role) (has_leg moves p.passage.role) (got p)
tells moves p l =
    shelves_fewer (shelves_of p.passage.role) l.known (has_leg moves p.passage.role) p.taken (got p)
    (shelves_alike _ (shelves_of p.passage.role) l.known p.taken (got p) (record {
      current = refl;
      now = refl;
      was_ended = refl;
      following = refl;
      next = refl;
      later = λ n a. ended (in_leg n p.passage.role.ins)
          ∙ ap ended_at (leg_spot n p.passage.role.ins) ∙ l.ended n a;
    }) l.law)
    l.all
  where
    ended : (leg : Option InLeg) → ended_by leg ≡ ended_at (spot_by leg)
    ended None = refl
    ended (Some leg) = refl

pub takes_in_order : (window : ℕ) (moves : List EndMove)
    → AreAllowedAtEnd rules acts (end_started (first window)) moves
    → let p = all_end_moved rules acts (end_started (first window)) moves in
    TakerLaw (taker_of p.taken p.passage.role) (has_leg moves p.passage.role) (got p)
takes_in_order window moves may =
    tells moves (all_end_moved rules acts (end_started (first window)) moves)
    (all_took moves (end_started (first window)) (λ n. false) may (starts window))
