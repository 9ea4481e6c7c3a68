-- a server's moves keep what its steps keep of its current channel, the next one and the answers
use Rattle.law_order.proofs.Vocabulary.{◌≡◌, ℕ, ◌+◌, ◌≤◌, ◌==◌, ◌&&◌, Bool, true, false, true≢false, not, if◌then◌else◌, List, [], ◌∷◌, ◌++◌, Some, None, Ok, Err, arith, refl, rules, sym, ap, ◌∙◌, subst, and_parts, not-true, IfSome, slice_get, Option, Result}
use Rattle.rh_sig.specs.declared.named.Named.TheVariants as named
use Rattle.rh_shell.specs.declared.answers.Refused.TheVariants as refused
use Rattle.rh_server.specs.declared.state.InStage.TheVariants as in_stage
use Rattle.rh_server.specs.declared.state.Leaving.TheVariants as leaving
use Rattle.rh_server.specs.declared.state.Stage.TheVariants as stage
use Rattle.rh_server.specs.declared.state.Tells.TheVariants as tells
use Rattle.rh_server.specs.declared.out_line.Kind.TheVariants as kinds
use Rattle.law_moves.proofs.Vocabulary.{Ack, by_test, same_number, Cookie, Named, Line, after_finish, after_tell, Leg, LegKind, ClientOut, OutServer, ClientIn, InServer, Which, Current, Next, Count, GiveRefused, RecycleRefused, Message, Pdu, Packet, Row, Waiting, own, count_of, of_kind, Move, Up, HeadCame, PduCame, PacketCame, Puts, IsDrawn, Marks, Pings, Passage, EndMove, Moves, Gives, Takes, Closes, Recycles, EndPassage, AreAllowedAtEnd, OnLeg, moved, taken_by, put_by}
use Rattle.law_moves.proofs.Vocabulary.{end_moved, end_now_at, given_by, with_first, all_end_moved}
use Rattle.law_moves.proofs.Lemmas.{count_append, kind_more, RowKeeps}
use Rattle.law_role_server.proofs.Vocabulary.{Told, InLeg, InStage, Leaving, OutLeg, Stage, Tells, waits, Server, is_due, is_fresh, is_open, is_shut, is_waiting, same_cookie, stays, in_leg, out_place, with_in, without_in, without_out, Done, took, refuse, unexpected, is_first, first_in, opens, with_first_in, with_first_out, may_up_by, up, up_by, conn_a2_at, on_conn_a2, conn_b2_at, on_conn_b2, channel_at, announced, has_fresh_below, hands_over, in_r1_a2_at, in_r1_a2_by}
use Rattle.law_role_server.proofs.Vocabulary.{in_r2_a2_on, leaves_by, moved_if, on_in_r1_a2, on_in_r1_a6, on_in_r2_a2, take, asks, is_under_way, last_number, recycle, wishes, completed, drawn_by, end_a2_at, end_a2_on_leg, end_a2_waiting, give, in_is_drawn, is_complete, is_over_on, lost_in, mark_by, on_end_a2, settled, with_ack_dropped, Pick, ack_due, next_out, or_else, out_greeting_at, put_ack, put_ack_by, put_b1, put_b1_by, put_in_by, put_in_greeting, put_open, put_out_at}
use Rattle.law_role_server.proofs.Vocabulary.{put_out_greeting, put_tells, put_tells_by, settled_pick, was_current, put_by as put_by_kind, acts, on_is, on_os, packet_by, rules as server_rules, AreAnswered, how_many, waits_on, is_conn_b2, is_in_r1_a2, is_in_r1_a3, is_in_r1_a6, in_came, leg_at, often, waiting_of}
use Rattle.law_role_server.proofs.TakesKept.{has_begun as is_begun}
use Rattle.law_role_server_rows.proofs.InTurn.InPuts.{open_begun}
use Rattle.law_role_server_in.proofs.Kept.{Look, look}
use Rattle.law_role_server_in.proofs.Takes.{Holds as Knows, ack_to_same, look_at, out_look, pdu_same}
use Rattle.law_role_server_in.proofs.Tallies.{none_here, often_more, once_more, other_here}
use Rattle.law_role_server_in.proofs.Puts.{Alone, or_alone, out_alone, settled_same}
use Rattle.law_role_server_in.proofs.Steps.{AllHold, end_move_keeps}
use Rattle.law_role_server_in.proofs.Standing.{Closed, Says, Stand, answered, firsts, lefts, next_fine, settles, stand, take_fine, waits_more, with_answers}

-- ---- logs

-- no IN_R1/A6 is more
left_same : (k : ℕ) (came : List OnLeg) (leg : Leg) (m : Message)
    → count_of is_in_r1_a6 (m ∷ []) ≡ 0 → lefts (came ++ (leg, m) ∷ []) k ≡ lefts came k
left_same k came leg m none =
    let more = often_more is_in_r1_a6 k came (leg, m) in
    let nothing = none_here is_in_r1_a6 k leg m none in omega (arith, more, nothing)

first_more : (k : ℕ) (came : List OnLeg) (one : OnLeg)
    → firsts came k ≤ firsts (came ++ one ∷ []) k
first_more k came one =
    let conn_b2 = often_more is_conn_b2 k came one in
    let in_r1_a2 = often_more is_in_r1_a2 k came one in omega (arith, conn_b2, in_r1_a2)

-- none is more on the legs of a kind
often_same : (test : Named → Bool) (kind : LegKind) (log : List OnLeg) (one : OnLeg)
    → count_of test (of_kind kind (one ∷ [])) ≡ 0
    → often test kind (log ++ one ∷ []) ≡ often test kind log
often_same test kind log one none =
    let joined = ap (count_of test) (kind_more kind log one) in
    let both = count_append test (of_kind kind log) (of_kind kind (one ∷ [])) in
    omega (arith, joined, both, none)

none_came : (test : Named → Bool) (leg : Leg) (m : Message) → count_of test (m ∷ []) ≡ 0
    → count_of test (of_kind InServer ((leg, m) ∷ [])) ≡ 0
none_came test leg m none = by leg.kind
  where
    by : (kind : LegKind) → count_of test (of_kind InServer ((leg_at kind leg.number, m) ∷ []))
        ≡ 0
    by InServer = none
    by OutServer = refl
    by ClientIn = refl
    by ClientOut = refl

-- ---- the same stand

-- where what is known of is legs is the same
stand_same : (p r : Passage Server) → look r.role ≡ look p.role
    → in_came is_in_r1_a2 r ≡ in_came is_in_r1_a2 p → AreAnswered p → AreAnswered r
    → stand r.role r.put ≡ stand p.role p.put
stand_same p r same came before behind =
    ap (λ (x : Look). with_answers x (answered r.role r.put)) same
    ∙ ap (with_answers (look p.role)) as_many
  where
    waiting : how_many waits_on r.role.ins ≡ how_many waits_on p.role.ins
    waiting = ap (λ (x : Look). how_many waits_on x.ins) same

    as_many : answered r.role r.put ≡ answered p.role p.put
    as_many = omega (arith, waiting, came, before.in_r1, behind.in_r1)

asks_stand : (s : Server) (put : List OnLeg) → stand (asks s) put ≡ stand s put
asks_stand s put =
    ap (with_answers (look s))
    (let more = waits_more is_in_r1_a3 s.waiting.due (own (named.OutR1A1 0)) in
    omega (arith, more))

settled_stand : (s : Server) (put : List OnLeg) → stand (settled s) put ≡ stand s put
settled_stand s put =
    by_test (λ (t : Server). stand t put ≡ stand (completed s) put) (wishes (completed s))
    (asks (completed s)) (completed s) (λ e. asks_stand (completed s) put) (λ e. refl)
    ∙ by_test (λ (t : Server). stand t put ≡ stand s put) (is_complete s)
    (record s { stage = stage.Ended }) s
    (λ e. ap (λ (b : Bool). record (stand s put) { begun = b })
    (open_begun s.stage (and_parts (is_open s.stage) _ e).0))
    (λ e. refl)

recycle_stand : (s : Server) (put : List OnLeg) → stand (recycle s).0 put ≡ stand s put
recycle_stand s put =
    by_test Same (s.writing == last_number) _ _ (λ e. refl)
    (λ e. by_test Same (is_under_way s) _ _ (λ f. refl) (λ f. asks_stand s put))
  where
    Same : Server × Result (Unit {0}) RecycleRefused → Type 0
    Same x = stand x.0 put ≡ stand s put

give_stand : (s : Server) (bytes : List ℕ) (put : List OnLeg)
    → stand (give s bytes).0 put ≡ stand s put
give_stand s bytes put = search rules

up_stand : (s : Server) (leg : Leg) (cookie : Cookie) (put : List OnLeg)
    → stand (up s leg cookie) put ≡ stand s put
up_stand s leg cookie put =
    by_test (λ (t : Server). stand t put ≡ stand s put) (may_up_by s leg.number leg.kind)
    (up_by s leg.number leg.kind) s (λ e. by leg.kind) (λ e. refl)
  where
    by : (k : LegKind) → stand (up_by s leg.number k) put ≡ stand s put
    by InServer = refl
    by OutServer = refl
    by ClientIn = refl
    by ClientOut = refl

drawn_stand : (s : Server) (m : ℕ) (k : LegKind) (put : List OnLeg)
    → stand (drawn_by s m k) put ≡ stand s put
drawn_stand s m InServer put =
    by_test (λ (t : Server). stand t put ≡ stand s put) (in_is_drawn (in_leg m s.ins))
    (settled (without_in s m)) s (λ e. settled_stand (without_in s m) put) (λ e. refl)
drawn_stand s m OutServer put = refl
drawn_stand s m ClientIn put = refl
drawn_stand s m ClientOut put = refl

lost_stand : (s : Server) (m : ℕ) (o : Option InLeg) (put : List OnLeg)
    → stand (lost_in s m o) put ≡ stand s put
lost_stand s m None put = refl
lost_stand s m (Some leg) put =
    by_test (λ (t : Server). stand t put ≡ stand s put) (is_waiting leg.stage && stays leg.leaving)
    (with_in s (record leg { leaving = leaving.Lost })) (without_in s m) (λ e. refl) (λ e. refl)

end_a2_stand : (s : Server) (m : ℕ) (count : Count) (put : List OnLeg)
    → stand (on_end_a2 s m count).0 put ≡ stand s put
end_a2_stand s m count put =
    by_test Same (is_first count) (unexpected s) (end_a2_at s m (channel_at s m)) (λ e. refl)
    (λ e. by (channel_at s m))
  where
    Same : Done → Type 0
    Same x = stand x.0 put ≡ stand s put

    staged : (leg : InLeg) (x : InStage) → Same (end_a2_on_leg s leg x)
    staged leg in_stage.Fresh = refl
    staged leg in_stage.Opened = refl
    staged leg (in_stage.Waits window timeout ended) =
        by_test Same ended (unexpected s) _ (λ e. refl) (λ e. refl)

    on : (o : Option InLeg) → Same (end_a2_waiting s o)
    on None = refl
    on (Some leg) = staged leg leg.stage

    by : (o : Option Which) → Same (end_a2_at s m o)
    by None = on (in_leg m s.ins)
    by (Some Current) = by_test Same (is_over_on s Current) (unexpected s) _ (λ e. refl) (λ e. refl)
    by (Some Next) = by_test Same (is_over_on s Next) (unexpected s) _ (λ e. refl) (λ e. refl)

in_r2_a2_stand : (s : Server) (m : ℕ) (count : Count) (successor : Cookie) (put : List OnLeg)
    → stand (on_in_r2_a2 s m count successor).0 put ≡ stand s put
in_r2_a2_stand s m count successor put =
    by_test Same _ (in_r2_a2_on s m successor (channel_at s m)) (unexpected s)
    (λ e. by (channel_at s m)) (λ e. refl)
  where
    Same : Done → Type 0
    Same x = stand x.0 put ≡ stand s put

    as_many : often is_in_r1_a3 OutServer put
        + waiting_of is_in_r1_a3 (s.waiting.due ++ own (named.InR2A3 0) ∷ [])
        ≡ answered s put
    as_many =
        let more = waits_more is_in_r1_a3 s.waiting.due (own (named.InR2A3 0)) in
        omega (arith, more)

    by : (o : Option Which) → Same (in_r2_a2_on s m successor o)
    by None = refl
    by (Some Current) = ap (with_answers (look s)) as_many
    by (Some Next) = ap (with_answers (look s)) as_many

conn_a2_look : (s : Server) (m : ℕ) (count : Count) (a b : Cookie) (c d : ℕ)
    → look (on_conn_a2 s m count a b c d).0 ≡ look s
conn_a2_look s m count a b c d =
    by_test Same (is_first count && ((m == 1) && not (waits kinds.ConnC1 s.waiting)))
    (conn_a2_at s s.stage a b c d) (unexpected s) (λ e. by s.stage refl) (λ e. refl)
  where
    Same : Done → Type 0
    Same x = look x.0 ≡ look s

    moves : (new : Stage) → is_begun new ≡ is_begun s.stage
        → look (record (with_first_out s b c d) { stage = new }) ≡ look s
    moves new begun =
        out_look s (is_begun new) b c d ∙ ap (λ (t : Bool). look_at t s) begun

    by : (x : Stage) → s.stage ≡ x → Same (conn_a2_at s x a b c d)
    by stage.Waits at = moves (stage.OutCame a) (sym (ap is_begun at))
    by (stage.InCame known window timeout) at =
        by_test Same (same_cookie known a)
        (took (opens (with_first_out s b c d) known window timeout)) _
        (λ e. moves (stage.Open known) (sym (ap is_begun at))) (λ e. refl)
    by (stage.OutCame known) at = refl
    by (stage.Open known) at = refl
    by stage.Ended at = refl

-- the first IN channel leaves the line and the packets that wait alone
record AreKept (s t : Server) : Type 0 where
  line : t.line ≡ s.line
  waiting : t.waiting ≡ s.waiting

-- ---- what is put

-- on is legs
abbrev InAlone : Server → List OnLeg → Pick → Type 0
InAlone s put pick = IfSome pick (λ (one : Server × Message). stand one.0 put ≡ stand s put)

or_same : (s : Server) (put : List OnLeg) (a b : Pick) → InAlone s put a → InAlone s put b
    → InAlone s put (or_else a b)
or_same s put None b h k = k
or_same s put (Some pick) b h k = h

in_alone : (s : Server) (put : List OnLeg) (o : Option InLeg) → InAlone s put (put_in_by s o)
in_alone s put None = tt
in_alone s put (Some leg) =
    or_same s put (put_in_greeting s leg) _
    (by_test (InAlone s put) (is_due leg.greeting) _ None (λ e. refl) (λ e. tt))
    (or_same s put (put_tells s leg) _ (told leg.tells)
    (or_same s put (put_b1 s leg) (put_ack s leg) (left leg.leaving) (ack (ack_due s leg))))
  where
    told : (t : Tells) → InAlone s put (put_tells_by s leg t)
    told tells.Nothing = tt
    told tells.ConnB3 =
        by_test (InAlone s put) (is_open s.stage) _ None (λ e. refl) (λ e. tt)
    told tells.InR1B2 =
        by_test (InAlone s put) (was_current s leg) _ None
        (λ e. by_test (λ (u : Server).
        stand (with_in u (record leg { tells = tells.Nothing })) put ≡ stand s put)
        ((leg.number == s.current.leg) && is_shut s.edge)
        (record s { line = after_tell s.line Current; edge = Told }) s (λ f. refl) (λ f. refl))
        (λ e. tt)

    left : (x : Leaving) → InAlone s put (put_b1_by s leg x)
    left leaving.Stays = tt
    left leaving.InR1B1 = refl
    left leaving.Left = tt
    left leaving.Lost = tt

    ack : (o : Option Ack) → InAlone s put (put_ack_by s o)
    ack None = tt
    ack (Some a) = refl

-- on os legs
out_at_alone : (s : Server) (place : Option ℕ) → Alone s (put_out_at s place)
out_at_alone s None = tt
out_at_alone s (Some place) =
    or_alone s (put_out_greeting s place) (put_open s place) (greets (slice_get s.outs place))
    (by_test (Alone s) (is_open s.stage) (settled_pick (next_out s place)) None
    (λ e. goes (next_out s place) (out_alone s place)) (λ e. tt))
  where
    greets : (o : Option OutLeg) → Alone s (out_greeting_at s place o)
    greets None = tt
    greets (Some leg) = by_test (Alone s) (is_due leg.greeting) _ None (λ e. refl) (λ e. tt)

    goes : (pick : Pick) → Alone s pick → Alone s (settled_pick pick)
    goes None same = tt
    goes (Some one) same = settled_same one.0 ∙ same

module _ (Q : Says) (q : Closed Q) where
  abbrev pub Holds : Server → List OnLeg → List OnLeg → Type 0
  Holds s came put = Q (stand s put) (lefts came) (firsts came)

  abbrev pub HoldsAt : Passage Server → Type 0
  HoldsAt p = Holds p.role p.came p.put

  by_stand : (x y : Stand) (l f : ℕ → ℕ) → y ≡ x → Q x l f → Q y l f
  by_stand x y l f same h = subst (λ (z : Stand). Q z l f) (sym same) h

  -- a message more, but no IN_R1/A6
  more_came : (x : Stand) (leg : Leg) (m : Message) (came : List OnLeg)
      → count_of is_in_r1_a6 (m ∷ []) ≡ 0 → Q x (lefts came) (firsts came)
      → Q x (lefts (came ++ (leg, m) ∷ [])) (firsts (came ++ (leg, m) ∷ []))
  more_came x leg m came none h =
      q.same x (lefts came) (lefts (came ++ (leg, m) ∷ [])) (firsts came)
      (firsts (came ++ (leg, m) ∷ [])) (λ k. left_same k came leg m none)
      (λ k. first_more k came (leg, m)) h

  row_same : (s : Server) (leg : Leg) (m : Message) (came put : List OnLeg) (x : Done)
      → stand x.0 put ≡ stand s put → count_of is_in_r1_a6 (m ∷ []) ≡ 0 → Holds s came put
      → RowKeeps Holds (leg, m) came put x
  row_same s leg m came put (t, Ok taken) same none h =
      more_came (stand t put) leg m came none
      (by_stand (stand s put) (stand t put) (lefts came) (firsts came) same h)
  row_same s leg m came put (t, Err why) same none h =
      by_stand (stand s put) (stand t put) (lefts came) (firsts came) same h

  by_row : (p : Passage Server) (leg : Leg) (m : Message) (row : Server × Row)
      → RowKeeps Holds (leg, m) p.came p.put row → HoldsAt (taken_by p leg m row)
  by_row p leg m (s, Ok taken) h = h
  by_row p leg m (s, Err refused) h = h

  -- nor an IN_R1/A2
  quiet_row : (p : Passage Server) (leg : Leg) (m : Message) (x : Done)
      → look x.0 ≡ look p.role → count_of is_in_r1_a6 (m ∷ []) ≡ 0
      → count_of is_in_r1_a2 (m ∷ []) ≡ 0 → AreAnswered p → AreAnswered (taken_by p leg m x)
      → HoldsAt p → HoldsAt (taken_by p leg m x)
  quiet_row p leg m (t, Ok taken) same none_left none before behind h =
      let r : Passage Server = record p { role = t; came = p.came ++ (leg, m) ∷ [] } in
      more_came (stand t p.put) leg m p.came none_left
      (by_stand (stand p.role p.put) (stand t p.put) (lefts p.came) (firsts p.came)
      (stand_same p r same
      (often_same is_in_r1_a2 InServer p.came (leg, m) (none_came is_in_r1_a2 leg m none))
      before behind) h)
  quiet_row p leg m (t, Err why) same none_left none before behind h =
      by_stand (stand p.role p.put) (stand t p.put) (lefts p.came) (firsts p.came)
      (stand_same p (record p { role = t }) same refl before behind) h

  -- ---- rows

  conn_b2_row : (s : Server) (m : ℕ) (count : Count) (a b : Cookie) (c d : ℕ) (packet : Named)
      (came put : List OnLeg) → count_of is_in_r1_a6 (Packet packet ∷ []) ≡ 0
      → Holds s came put
      → RowKeeps Holds (leg_at InServer m, Packet packet) came put (on_conn_b2 s m count a b c d)
  conn_b2_row s m count a b c d packet came put none h =
      by_test Row (is_first count && ((m == 1) && not (waits kinds.ConnC1 s.waiting)))
      (conn_b2_at s s.stage a b c d) (unexpected s) (λ t. by s.stage refl) (λ t. h)
    where
      one : OnLeg
      one = (leg_at InServer m, Packet packet)

      Row : Done → Type 0
      Row x = RowKeeps Holds one came put x

      first : Server
      first = with_first_in s b

      kept : (o : Option InLeg) → AreKept s (first_in s b o)
      kept None = record { line = refl; waiting = refl }
      kept (Some leg) = record { line = refl; waiting = refl }

      same : AreKept s first
      same = kept (in_leg 1 s.ins)

      begins : is_begun s.stage ≡ false → (t : Server) → t.line ≡ s.line
          → answered t put ≡ answered s put → Holds t (came ++ one ∷ []) put
      begins early t line as_many =
          more_came (stand t put) (leg_at InServer m) (Packet packet) came none
          (q.begins (stand s put) (stand t put) (lefts came) (firsts came) early
          (ap (λ (x : Line). x.finished) line) (ap (λ (x : Line). x.has_next) line) as_many h)

      as_before : answered first put ≡ answered s put
      as_before =
          ap (λ (w : Waiting). often is_in_r1_a3 OutServer put + waiting_of is_in_r1_a3 w.due)
          same.waiting

      with_conn_c1 : answered (opens first a c d) put ≡ answered s put
      with_conn_c1 =
          let more = waits_more is_in_r1_a3 first.waiting.due (own (named.ConnC1 1 c d)) in
          omega (arith, more, as_before)

      by : (x : Stage) → s.stage ≡ x → Row (conn_b2_at s x a b c d)
      by stage.Waits at =
          begins (ap is_begun at) (record first { stage = stage.InCame a c d }) same.line as_before
      by (stage.OutCame known) at =
          by_test Row (same_cookie known a) (took (opens first known c d)) _
          (λ e. begins (ap is_begun at) (opens first known c d) same.line with_conn_c1)
          (λ e. h)
      by (stage.InCame known window timeout) at = h
      by (stage.Open known) at = h
      by stage.Ended at = h

  in_r1_a2_row : (s : Server) (m : ℕ) (count : Count) (a b c : Cookie) (d e : ℕ)
      (packet : Named) (came put : List OnLeg) → count_of is_in_r1_a6 (Packet packet ∷ []) ≡ 0
      → Holds s came put
      → RowKeeps Holds (leg_at InServer m, Packet packet) came put
      (on_in_r1_a2 s m count a b c d e)
  in_r1_a2_row s m count a b c d e packet came put none h =
      by_test Row (is_first count && not (has_fresh_below m s.ins))
      (in_r1_a2_at s s.stage m a b c d e) (unexpected s) (λ t. by s.stage) (λ t. h)
    where
      one : OnLeg
      one = (leg_at InServer m, Packet packet)

      more : List OnLeg
      more = came ++ one ∷ []

      Row : Done → Type 0
      Row x = RowKeeps Holds one came put x

      on : (known : Cookie) (o : Option InLeg) → Row (in_r1_a2_by s known a b c d e o)
      on known None = h
      on known (Some leg) =
          by_test Row (not (is_fresh leg.stage)) _ _ (λ t. h)
          (λ t. by_test Row (not (same_cookie known a)) _ _ (λ u. h)
          (λ u. by_test Row (not (same_cookie s.newest.cookie b)) _
          (took (announced s leg c d e)) (λ w. h)
          (λ w. next_fine Q q put (lefts more) (firsts more) (with_in
          (record s { newest = record { leg = leg.number; cookie = c } })
          (record leg { cookie = c; stage = in_stage.Waits d e false }))
          (more_came (stand s put) (leg_at InServer m) (Packet packet) came none h))))

      by : (x : Stage) → Row (in_r1_a2_at s x m a b c d e)
      by (stage.Open known) = on known (in_leg m s.ins)
      by stage.Waits = h
      by (stage.OutCame known) = h
      by (stage.InCame known window timeout) = h
      by stage.Ended = h

  in_r1_a6_row : (s : Server) (m : ℕ) (successor : Cookie) (came put : List OnLeg)
      → ((k : ℕ) → Knows k s came put) → Holds s came put
      → RowKeeps Holds (leg_at InServer m, Packet (named.InR1A6 successor)) came put
      (on_in_r1_a6 s m successor)
  in_r1_a6_row s m successor came put knows h =
      by_test Row test
      (if same_cookie s.next.cookie successor then took (hands_over s m)
      else refuse s (refused.Cookie s.next.cookie successor)) (unexpected s)
      (λ e. by_test Row (same_cookie s.next.cookie successor) (took (hands_over s m))
      (refuse s (refused.Cookie s.next.cookie successor)) (λ f. goes e (in_leg m s.ins)) (λ f. h))
      (λ e. h)
    where
      one : OnLeg
      one = (leg_at InServer m, Packet (named.InR1A6 successor))

      more : List OnLeg
      more = came ++ one ∷ []

      Row : Done → Type 0
      Row x = RowKeeps Holds one came put x

      test : Bool
      test = (m == s.current.leg) && (not s.line.finished
          && (s.line.has_next && not (waits kinds.InR1A3 s.waiting)))

      has : test ≡ true → s.line.has_next ≡ true
      has e =
          (and_parts s.line.has_next _
          (and_parts (not s.line.finished) _ (and_parts (m == s.current.leg) _ e).1).1).0

      begun : test ≡ true → (b : Bool) → is_begun s.stage ≡ b → is_begun s.stage ≡ true
      begun e true t = t
      begun e false t =
          absurd (true≢false (sym (has e) ∙ ((knows s.current.leg).tail.early t).1))

      current : test ≡ true → m ≡ s.current.leg
      current e = same_number m s.current.leg (and_parts (m == s.current.leg) _ e).0

      unfinished : test ≡ true → s.line.finished ≡ false
      unfinished e =
          not-true s.line.finished
          (and_parts (not s.line.finished) _ (and_parts (m == s.current.leg) _ e).1).0

      once : test ≡ true → lefts more s.current.leg ≡ lefts came s.current.leg + 1
      once e =
          subst (λ (k : ℕ). lefts more k ≡ lefts came k + 1) (current e)
          (once_more is_in_r1_a6 m (named.InR1A6 successor) came refl)

      left : test ≡ true → 1 ≤ lefts more s.current.leg
      left e = let more = once e in omega (arith, more)

      other : test ≡ true → (k : ℕ) → (k ≡ s.current.leg → ⊥) → lefts more k ≡ lefts came k
      other e k apart =
          let all = often_more is_in_r1_a6 k came one in
          let none = other_here is_in_r1_a6 k m (Packet (named.InR1A6 successor))
          (λ is. apart (is ∙ current e)) in omega (arith, all, none)

      grown : Q (stand s put) (lefts came) (firsts more)
      grown = q.same (stand s put) (lefts came) (lefts came) (firsts came) (firsts more)
          (λ k. refl) (λ k. first_more k came one) h

      finished : test ≡ true
          → Q (record (stand s put) { finished = true }) (lefts more) (firsts more)
      finished e =
          q.finishes (stand s put) (lefts came) (lefts more) (firsts more)
          (begun e (is_begun s.stage) refl) (unfinished e) (has e)
          (let some = (knows s.current.leg).tail.began (begun e (is_begun s.stage) refl) refl in
          let most = first_more s.current.leg came one in omega (arith, some, most))
          (once e) (other e) grown

      goes : (e : test ≡ true) → (o : Option InLeg)
          → Holds (moved_if true (record (leaves_by s o) { line = after_finish s.line })) more put
      goes e None =
          subst (λ (b : Bool).
          Holds (moved_if b (record s { line = after_finish s.line })) more put) (has e)
          (settles Q q put (lefts more) (firsts more)
          (record s { line = record (s.line) { finished = true } }) (λ f. left e) (λ f. has e)
          (finished e))
      goes e (Some leg) =
          subst (λ (b : Bool).
          Holds (moved_if b (record (leaves_by s (Some leg)) { line = after_finish s.line })) more
          put) (has e)
          (settles Q q put (lefts more) (firsts more)
          (record (leaves_by s (Some leg)) { line = record (s.line) { finished = true } })
          (λ f. left e) (λ f. has e) (finished e))

  -- the server is answered before and behind
  is_row : (p : Passage Server) (m : ℕ) (count : Count) (packet : Named)
      → ((k : ℕ) → Knows k p.role p.came p.put) → AreAnswered p
      → AreAnswered (taken_by p (leg_at InServer m) (Packet packet)
      (on_is p.role m count packet))
      → HoldsAt p
      → HoldsAt (taken_by p (leg_at InServer m) (Packet packet) (on_is p.role m count packet))
  is_row p m count (named.ConnB2 v a b c d e f g) knows before behind h =
      by_row p (leg_at InServer m) (Packet (named.ConnB2 v a b c d e f g))
      (on_conn_b2 p.role m count a b c d)
      (conn_b2_row p.role m count a b c d (named.ConnB2 v a b c d e f g) p.came p.put refl h)
  is_row p m count (named.InR1A2 v a b c d e) knows before behind h =
      by_row p (leg_at InServer m) (Packet (named.InR1A2 v a b c d e))
      (on_in_r1_a2 p.role m count a b c d e)
      (in_r1_a2_row p.role m count a b c d e (named.InR1A2 v a b c d e) p.came p.put refl h)
  is_row p m count (named.InR1A6 a) knows before behind h =
      by_row p (leg_at InServer m) (Packet (named.InR1A6 a)) (on_in_r1_a6 p.role m a)
      (in_r1_a6_row p.role m a p.came p.put knows h)
  is_row p m count (named.InR2A2 a) knows before behind h =
      by_row p (leg_at InServer m) (Packet (named.InR2A2 a)) (on_in_r2_a2 p.role m count a)
      (row_same p.role (leg_at InServer m) (Packet (named.InR2A2 a)) p.came p.put
      (on_in_r2_a2 p.role m count a) (in_r2_a2_stand p.role m count a p.put) refl h)
  is_row p m count named.EndA2 knows before behind h =
      by_row p (leg_at InServer m) (Packet named.EndA2) (on_end_a2 p.role m count)
      (row_same p.role (leg_at InServer m) (Packet named.EndA2) p.came p.put
      (on_end_a2 p.role m count) (end_a2_stand p.role m count p.put) refl h)
  is_row p m count (named.AckTo a b c d) knows before behind h =
      quiet_row p (leg_at InServer m) (Packet (named.AckTo a b c d))
      (on_is p.role m count (named.AckTo a b c d)) (ack_to_same p.role count a b c d) refl refl
      before behind h
  is_row p m count packet knows before behind h =
      quiet_row p (leg_at InServer m) (Packet packet) (on_is p.role m count packet)
      (search rules) refl refl before behind h

  os_row : (p : Passage Server) (m : ℕ) (count : Count) (packet : Named) → AreAnswered p
      → AreAnswered (taken_by p (leg_at OutServer m) (Packet packet)
      (on_os p.role m count packet))
      → HoldsAt p
      → HoldsAt (taken_by p (leg_at OutServer m) (Packet packet) (on_os p.role m count packet))
  os_row p m count (named.ConnA2 v a b c d) before behind h =
      quiet_row p (leg_at OutServer m) (Packet (named.ConnA2 v a b c d))
      (on_os p.role m count (named.ConnA2 v a b c d)) (conn_a2_look p.role m count a b c d) refl
      refl before behind h
  os_row p m count (named.InR1A2 v a b c d e) before behind h = h
  os_row p m count (named.InR1A6 a) before behind h = h
  os_row p m count packet before behind h =
      quiet_row p (leg_at OutServer m) (Packet packet) (on_os p.role m count packet)
      (search rules) refl refl before behind h

  packet_row : (p : Passage Server) (m : ℕ) (count : Count) (packet : Named) (k : LegKind)
      → ((j : ℕ) → Knows j p.role p.came p.put) → AreAnswered p
      → AreAnswered (taken_by p (leg_at k m) (Packet packet) (packet_by p.role m count packet k))
      → HoldsAt p
      → HoldsAt (taken_by p (leg_at k m) (Packet packet) (packet_by p.role m count packet k))
  packet_row p m count packet InServer knows before behind h =
      is_row p m count packet knows before behind h
  packet_row p m count packet OutServer knows before behind h =
      os_row p m count packet before behind h
  packet_row p m count packet ClientIn knows before behind h = h
  packet_row p m count packet ClientOut knows before behind h = h

  -- ---- what is put

  in_puts : (p : Passage Server) (m : ℕ) (pick : Pick) → InAlone p.role p.put pick → HoldsAt p
      → HoldsAt (put_by p (leg_at InServer m) pick)
  in_puts p m None same h = h
  in_puts p m (Some one) same h =
      by_stand (stand p.role p.put)
      (stand one.0 (p.put ++ (leg_at InServer m, one.1) ∷ [])) (lefts p.came) (firsts p.came)
      (ap (λ (k : ℕ). with_answers (look one.0) (k + waiting_of is_in_r1_a3 one.0.waiting.due))
      (often_same is_in_r1_a3 OutServer p.put (leg_at InServer m, one.1) refl) ∙ same) h

  out_puts : (p : Passage Server) (m : ℕ) (pick : Pick) → Alone p.role pick → AreAnswered p
      → AreAnswered (put_by p (leg_at OutServer m) pick) → HoldsAt p
      → HoldsAt (put_by p (leg_at OutServer m) pick)
  out_puts p m None same before behind h = h
  out_puts p m (Some one) same before behind h =
      let r : Passage Server =
      record p { role = one.0; put = p.put ++ (leg_at OutServer m, one.1) ∷ [] } in
      by_stand (stand p.role p.put) (stand r.role r.put) (lefts p.came) (firsts p.came)
      (stand_same p r same refl before behind) h

  puts : (p : Passage Server) (m : ℕ) (k : LegKind) → AreAnswered p
      → AreAnswered (put_by p (leg_at k m) (put_by_kind p.role m k)) → HoldsAt p
      → HoldsAt (put_by p (leg_at k m) (put_by_kind p.role m k))
  puts p m InServer before behind h =
      in_puts p m (put_in_by p.role (in_leg m p.role.ins))
      (in_alone p.role p.put (in_leg m p.role.ins)) h
  puts p m OutServer before behind h =
      out_puts p m (put_out_at p.role (out_place m p.role.outs))
      (out_at_alone p.role (out_place m p.role.outs)) before behind h
  puts p m ClientIn before behind h = h
  puts p m ClientOut before behind h = h

  -- ---- moves

  stands : (p : Passage Server) (t : Server) → stand t p.put ≡ stand p.role p.put → HoldsAt p
      → Holds t p.came p.put
  stands p t same h =
      by_stand (stand p.role p.put) (stand t p.put) (lefts p.came) (firsts p.came) same h

  marks : (p : Passage Server) (m : ℕ) (k : LegKind) → AreAnswered p
      → AreAnswered (record p { role = mark_by p.role m k }) → HoldsAt p
      → Holds (mark_by p.role m k) p.came p.put
  marks p m InServer before behind h =
      stands p (mark_by p.role m InServer)
      (settled_stand (lost_in p.role m (in_leg m p.role.ins)) p.put
      ∙ lost_stand p.role m (in_leg m p.role.ins) p.put) h
  marks p m OutServer before behind h =
      stands p (mark_by p.role m OutServer)
      (stand_same p (record p { role = mark_by p.role m OutServer })
      (settled_same (without_out (with_ack_dropped p.role m) m)) refl before behind) h
  marks p m ClientIn before behind h = h
  marks p m ClientOut before behind h = h

  move_keeps : (p : Passage Server) (move : Move)
      → ((k : ℕ) → Knows k p.role p.came p.put) → AreAnswered p
      → AreAnswered (moved server_rules p move) → HoldsAt p
      → HoldsAt (moved server_rules p move)
  move_keeps p (Up leg cookie) knows before behind h =
      stands p (up p.role leg cookie) (up_stand p.role leg cookie p.put) h
  move_keeps p (HeadCame leg text) knows before behind h = h
  move_keeps p (PduCame leg count bytes) knows before behind h =
      quiet_row p leg (Pdu bytes) (server_rules.pdu p.role leg count bytes)
      (pdu_same p.role leg.number bytes leg.kind) refl refl before behind h
  move_keeps p (PacketCame leg count packet) knows before behind h =
      packet_row p leg.number count packet leg.kind knows before behind h
  move_keeps p (Puts leg) knows before behind h =
      puts p leg.number leg.kind before behind h
  move_keeps p (IsDrawn leg) knows before behind h =
      stands p (drawn_by p.role leg.number leg.kind)
      (drawn_stand p.role leg.number leg.kind p.put) h
  move_keeps p (Marks leg) knows before behind h =
      marks p leg.number leg.kind before behind h
  move_keeps p (Pings leg) knows before behind h = h

  end_move_stays : (p : EndPassage Server) (move : EndMove) → AllHold p
      → AreAnswered p.passage → AreAnswered (end_moved server_rules acts p move).passage
      → HoldsAt p.passage → HoldsAt (end_moved server_rules acts p move).passage
  end_move_stays p (Moves move) knows before behind h =
      move_keeps p.passage move knows before behind h
  end_move_stays p (Gives bytes) knows before behind h =
      by (acts.give p.passage.role bytes)
      (stands p.passage (give p.passage.role bytes).0
      (give_stand p.passage.role bytes p.passage.put) h)
    where
      by : (x : Server × Result (Unit {0}) GiveRefused)
          → Holds x.0 p.passage.came p.passage.put → HoldsAt (given_by p bytes x).passage
      by (t, Ok accepted) k = k
      by (t, Err why) k = k
  end_move_stays p Takes knows before behind h =
      by (acts.line p.passage.role).current.pdus
      (take_fine Q q p.passage.put (lefts p.passage.came) (firsts p.passage.came) p.passage.role
      (λ e. (knows p.passage.role.current.leg).tail.left e refl)
      (λ e. (knows 0).tail.followed e) h)
    where
      by : (pdus : List (List ℕ)) → Holds (take p.passage.role) p.passage.came p.passage.put
          → HoldsAt (with_first (end_now_at p (acts.take p.passage.role)) pdus).passage
      by [] k = k
      by (pdu ∷ pdus) k = k
  end_move_stays p Closes knows before behind h = h
  end_move_stays p Recycles knows before behind h =
      stands p.passage (recycle p.passage.role).0
      (recycle_stand p.passage.role p.passage.put) h

  -- from any passage on
  pub moves_stay : (p : EndPassage Server) (moves : List EndMove)
      → ((later : List EndMove)
      → AreAnswered (all_end_moved server_rules acts p later).passage)
      → AllHold p → AreAllowedAtEnd server_rules acts p moves → HoldsAt p.passage
      → HoldsAt (all_end_moved server_rules acts p moves).passage
  moves_stay p [] answers knows may h = h
  moves_stay p (move ∷ moves) answers knows may h =
      moves_stay (end_moved server_rules acts p move) moves (λ later. answers (move ∷ later))
      (λ n. end_move_keeps n p move may.0 knows) may.1
      (end_move_stays p move knows (answers []) (answers (move ∷ [])) h)
