-- on an is leg whose channel opened, the packet that tells its window is due, or was put
use Rattle.law_order.proofs.Vocabulary.{◌≡◌, ℕ, ◌==◌, List, [], ◌∷◌, ◌++◌, Bool, true, false, false≢true, ◌&&◌, ◌||◌, not, Some, None, Ok, Err, arith, refl, sym, ap, ◌∙◌, subst, rules, if◌then◌else◌, slice_get, IfSome, AllByRecursion, Option}
use Rattle.rh_sig.specs.declared.named.Named.TheVariants as named
use Rattle.rh_shell.specs.declared.answers.Refused.TheVariants as refused
use Rattle.rh_server.specs.Servers.{pdu_by}
use Rattle.rh_server.specs.declared.out_line.Kind.TheVariants as kind
use Rattle.rh_server.specs.declared.state.Edge.TheVariants as edges
use Rattle.rh_server.specs.declared.state.Greeting.TheVariants as greetings
use Rattle.rh_server.specs.declared.state.InStage.TheVariants as in_stage
use Rattle.rh_server.specs.declared.state.Leaving.TheVariants as leaving
use Rattle.rh_server.specs.declared.state.Stage.TheVariants as stages
use Rattle.rh_server.specs.declared.state.Tells.TheVariants as tells
use Rattle.law_moves.proofs.Vocabulary.{Ack, by_test, Cookie, Named, after_end, after_finish, after_take, each_push, front_length, Leg, LegKind, ClientOut, OutServer, ClientIn, InServer, Which, Count, Due, Message, Pdu, Packet, Waiting, taken, one_if, OnLeg, Passage, EndMove, end_started, all_end_moved}
use Rattle.law_moves.proofs.Lemmas.{each_so, leg_here, leg_rises, RowKeeps, PutKeeps, StepsKeep, ActsKeep, end_moves_keep}
use Rattle.law_moves.specs.PacketKinds.{opens_server}
use Rattle.law_role_server.proofs.Vocabulary.{InLeg, InStage, Leaving, Tells, OutLeg, Gate, Stage, lets, Server, waits, in_leg, in_place, is_due, is_fresh, is_open, is_waiting, same_cookie, stays, out_place, with_in, without_in, without_out, Done, took, refuse, unexpected, is_first, may_up_by, up, up_by, in_leg_up, first_in, opens, with_first_in, conn_b2_at, on_conn_a2, on_conn_b2, channel_at, on_ack_to, on_ack, opens_next, opens_leg, first_waiting, next_opened, becomes_current, moved_if, take, has_fresh_below, announced, in_r1_a2_by, in_r1_a2_at, on_in_r1_a2, leaves_by, hands_over, on_in_r1_a6, on_in_r2_a2}
use Rattle.law_role_server.proofs.Vocabulary.{on_out_r1_a4, on_out_r1_a8, is_over_on, end_a2_on_leg, end_a2_waiting, end_a2_at, on_end_a2, settled, in_is_drawn, drawn_by, lost_in, with_ack_dropped, mark_by, give, recycle, on_is, on_os, packet_by, Pick, or_else, put_in_greeting, told_by, was_current, put_tells_by, put_tells, put_b1_by, put_b1, ack_due, put_ack_by, put_ack, put_in_by, out_greeting_at, put_out_greeting, gate_at, was_put, waiting_by, waiting_at, put_waiting, may_go_at, pdu_by as put_pdu_by, put_pdu, put_end, put_pdu_or_end, next_out, settled_pick, put_open, put_out_at, put_by, acts, first, rules as server_rules, leg_at}
use Rattle.law_role_server_rows.proofs.Putting.Each.{each_in, each_set, each_removed, number_found}
use Rattle.law_role_server_edges.specs.Windows.{HasToldWindow, IsOpened, TellsNothing}

-- what was put on a leg only grows
told_more : (n : ℕ) (put : List OnLeg) (one : OnLeg) → HasToldWindow n put
    → HasToldWindow n (put ++ one ∷ [])
told_more n put one h =
    let rise = leg_rises opens_server (leg_at InServer n) put one in omega (arith, h, rise)

told_here : (n : ℕ) (put : List OnLeg) (m : Named) → opens_server m ≡ true
    → HasToldWindow n (put ++ (leg_at InServer n, Packet m) ∷ [])
told_here n put m is =
    let all = leg_here opens_server (leg_at InServer n) put m in
    let one = ap one_if is in omega (arith, all, one)

abbrev TellsAt : List OnLeg → InLeg → Type 0
TellsAt put leg = IsOpened leg.stage → TellsNothing leg.tells → HasToldWindow leg.number put

abbrev Legs : List OnLeg → List InLeg → Type 0
Legs put ins = AllByRecursion (TellsAt put) ins

legs_more : (put : List OnLeg) (one : OnLeg) (ins : List InLeg) → Legs put ins
    → Legs (put ++ one ∷ []) ins
legs_more put one ins =
    each_so (TellsAt put) (TellsAt (put ++ one ∷ []))
    (λ leg h opened nothing. told_more leg.number put one (h opened nothing)) ins

abbrev Holds : Server → List OnLeg → List OnLeg → Type 0
Holds s came put = Legs put s.ins

row_on : (one : OnLeg) (came put : List OnLeg) (x : Done) → Legs put x.0.ins
    → RowKeeps Holds one came put x
row_on one came put (t, Ok taken) h = h
row_on one came put (t, Err why) h = h

-- ---- what leaves the legs alone

abbrev Same : Server → Server → Type 0
Same s t = t.ins ≡ s.ins

same_conn_a2 : (s : Server) (n : ℕ) (count : Count) (a b : Cookie) (c d : ℕ)
    → Same s (on_conn_a2 s n count a b c d).0
same_conn_a2 s n count a b c d = search rules

same_ack_to : (s : Server) (count : Count) (a b c : ℕ) (d : Cookie)
    → Same s (on_ack_to s count a b c d).0
same_ack_to s count a b c d = search rules

same_ack : (s : Server) (n : ℕ) (count : Count) (a b : ℕ) (c : Cookie)
    → Same s (on_ack s n count a b c).0
same_ack s n count a b c = search rules

same_in_r2_a2 : (s : Server) (n : ℕ) (count : Count) (a : Cookie)
    → Same s (on_in_r2_a2 s n count a).0
same_in_r2_a2 s n count a = search rules

same_out_r1_a4 : (s : Server) (n : ℕ) (count : Count) (a b c : Cookie) (d e f : ℕ)
    → Same s (on_out_r1_a4 s n count a b c d e f).0
same_out_r1_a4 s n count a b c d e f = search rules

same_out_r1_a8 : (s : Server) (count : Count) (a : ℕ) (b : Cookie)
    → Same s (on_out_r1_a8 s count a b).0
same_out_r1_a8 s count a b = search rules

same_settled : (s : Server) → Same s (settled s)
same_settled s = search rules

same_give : (s : Server) (bytes : List ℕ) → Same s (give s bytes).0
same_give s bytes = search rules

same_recycle : (s : Server) → Same s (recycle s).0
same_recycle s = search rules

same_pdu : (s : Server) (n : ℕ) (bytes : List ℕ) (k : LegKind) → Same s (pdu_by s n bytes k).0
same_pdu s n bytes k = search rules

same_was_put : (s : Server) (place : ℕ) (packet : Named) → Same s (was_put s place packet)
same_was_put s place packet = search rules

same_end_put : (s : Server) (place : ℕ)
    → IfSome (put_end s place) (λ (one : Server × Message). Same s one.0)
same_end_put s place = search rules

module _ (put : List OnLeg) where
  abbrev Fine : Server → Type 0
  Fine s = Legs put s.ins

  same_fine : (s t : Server) → Same s t → Fine s → Fine t
  same_fine s t same h = subst (Legs put) (sym same) h

  -- ---- a leg changes, or is none any more

  set_fine : (s : Server) (leg : InLeg) → TellsAt put leg → Fine s → Fine (with_in s leg)
  set_fine s leg is h = each_set (TellsAt put) s.ins (in_place leg.number s.ins) leg is h

  gone_fine : (s : Server) (n : ℕ) → Fine s → Fine (without_in s n)
  gone_fine s n h = each_removed (TellsAt put) s.ins (in_place n s.ins) h

  found : (s : Server) (n : ℕ) → Fine s → IfSome (in_leg n s.ins) (TellsAt put)
  found s n h = each_in (TellsAt put) s.ins (in_place n s.ins) h

  -- ---- the next channel

  opens_fine : (s : Server) (leg : InLeg) (at : InStage) → Fine s → Fine (opens_next s leg at)
  opens_fine s leg in_stage.Fresh h = h
  opens_fine s leg in_stage.Opened h = h
  opens_fine s leg (in_stage.Waits window timeout ended) h =
      each_set (TellsAt put) s.ins (in_place leg.number s.ins)
      (record leg { stage = in_stage.Opened; tells = tells.InR1B2 })
      (λ opened nothing. absurd nothing) h

  opens_leg_fine : (s : Server) (o : Option InLeg) → Fine s → Fine (opens_leg s o)
  opens_leg_fine s None h = h
  opens_leg_fine s (Some leg) h = opens_fine s leg leg.stage h

  next_fine : (s : Server) → Fine s → Fine (next_opened s)
  next_fine s h =
      by_test Fine (s.line.has_next || waits kind.InR1A3 s.waiting) s
      (opens_leg s (first_waiting s.ins)) (λ e. h)
      (λ e. opens_leg_fine s (first_waiting s.ins) h)

  moved_fine : (had_next : Bool) (s : Server) → Fine s → Fine (moved_if had_next s)
  moved_fine had_next s h =
      by_test Fine (had_next && not s.line.has_next) (becomes_current s) s
      (λ e. next_fine (record s { current = s.next; edge = edges.Shut }) h) (λ e. h)

  -- ---- rows

  first_fine : (s : Server) (cookie : Cookie) (at : Stage) (o : Option InLeg) → Fine s
      → Fine (record (first_in s cookie o) { stage = at })
  first_fine s cookie at None h = h
  first_fine s cookie at (Some leg) h =
      each_set (TellsAt put) s.ins (in_place leg.number s.ins)
      (record leg { cookie = cookie; stage = in_stage.Opened; tells = tells.ConnB3 })
      (λ opened nothing. absurd nothing) h

  conn_b2_fine : (s : Server) (n : ℕ) (count : Count) (a b : Cookie) (c d : ℕ) → Fine s
      → Fine (on_conn_b2 s n count a b c d).0
  conn_b2_fine s n count a b c d h =
      by_test (λ (x : Done). Fine x.0)
      (is_first count && ((n == 1) && not (waits kind.ConnC1 s.waiting)))
      (conn_b2_at s s.stage a b c d) (unexpected s) (λ e. by s.stage) (λ e. h)
    where
      by : (at : Stage) → Fine (conn_b2_at s at a b c d).0
      by stages.Waits = first_fine s b (stages.InCame a c d) (in_leg 1 s.ins) h
      by (stages.OutCame known) =
          by_test (λ (x : Done). Fine x.0) (same_cookie known a)
          (took (opens (with_first_in s b) known c d)) (refuse s (refused.Cookie known a))
          (λ f. first_fine s b (stages.Open known) (in_leg 1 s.ins) h) (λ f. h)
      by (stages.InCame known in_window timeout) = h
      by (stages.Open known) = h
      by stages.Ended = h

  a2_by : (s : Server) (a b c d : Cookie) (e f : ℕ) (o : Option InLeg) → Fine s
      → Fine (in_r1_a2_by s a b c d e f o).0
  a2_by s a b c d e f None h = h
  a2_by s a b c d e f (Some leg) h =
      by_test (λ (x : Done). Fine x.0) (not (is_fresh leg.stage)) (unexpected s) _ (λ g. h)
      (λ g. by_test (λ (x : Done). Fine x.0) (not (same_cookie a b))
      (refuse s (refused.Cookie a b)) _ (λ i. h)
      (λ i. by_test (λ (x : Done). Fine x.0) (not (same_cookie s.newest.cookie c))
      (refuse s (refused.Cookie s.newest.cookie c)) (took (announced s leg d e f)) (λ j. h)
      (λ j. next_fine (with_in (record s { newest = record { leg = leg.number; cookie = d } })
      (record leg { cookie = d; stage = in_stage.Waits e f false }))
      (each_set (TellsAt put) s.ins (in_place leg.number s.ins)
      (record leg { cookie = d; stage = in_stage.Waits e f false })
      (λ opened nothing. absurd opened) h))))

  a2_at : (s : Server) (at : Stage) (n : ℕ) (a b c : Cookie) (d e : ℕ) → Fine s
      → Fine (in_r1_a2_at s at n a b c d e).0
  a2_at s (stages.Open known) n a b c d e h = a2_by s known a b c d e (in_leg n s.ins) h
  a2_at s stages.Waits n a b c d e h = h
  a2_at s (stages.OutCame known) n a b c d e h = h
  a2_at s (stages.InCame known in_window timeout) n a b c d e h = h
  a2_at s stages.Ended n a b c d e h = h

  a2_fine : (s : Server) (n : ℕ) (count : Count) (a b c : Cookie) (d e : ℕ) → Fine s
      → Fine (on_in_r1_a2 s n count a b c d e).0
  a2_fine s n count a b c d e h =
      by_test (λ (x : Done). Fine x.0) (is_first count && not (has_fresh_below n s.ins))
      (in_r1_a2_at s s.stage n a b c d e) (unexpected s) (λ f. a2_at s s.stage n a b c d e h)
      (λ f. h)

  hands_fine : (s : Server) (n : ℕ) → Fine s → Fine (hands_over s n)
  hands_fine s n h = by (in_leg n s.ins) (found s n h)
    where
      by : (o : Option InLeg) → IfSome o (TellsAt put)
          → Fine (moved_if true (record (leaves_by s o) { line = after_finish s.line }))
      by None is = moved_fine true (record s { line = after_finish s.line }) h
      by (Some leg) is =
          moved_fine true (record (leaves_by s (Some leg)) { line = after_finish s.line })
          (each_set (TellsAt put) s.ins (in_place leg.number s.ins)
          (record leg { leaving = leaving.InR1B1 }) is h)

  a6_fine : (s : Server) (n : ℕ) (successor : Cookie) → Fine s
      → Fine (on_in_r1_a6 s n successor).0
  a6_fine s n successor h =
      by_test (λ (x : Done). Fine x.0) ((n == s.current.leg)
      && (not s.line.finished && (s.line.has_next && not (waits kind.InR1A3 s.waiting))))
      (if same_cookie s.next.cookie successor then took (hands_over s n)
      else refuse s (refused.Cookie s.next.cookie successor)) (unexpected s)
      (λ e. by_test (λ (x : Done). Fine x.0) (same_cookie s.next.cookie successor)
      (took (hands_over s n)) (refuse s (refused.Cookie s.next.cookie successor))
      (λ f. hands_fine s n h) (λ f. h))
      (λ e. h)

  end_on : (s : Server) (leg : InLeg) (at : InStage) → Fine s → Fine (end_a2_on_leg s leg at).0
  end_on s leg in_stage.Fresh h = h
  end_on s leg in_stage.Opened h = h
  end_on s leg (in_stage.Waits window timeout ended) h =
      by_test (λ (x : Done). Fine x.0) ended (unexpected s)
      (took (with_in s (record leg { stage = in_stage.Waits window timeout true }))) (λ e. h)
      (λ e. set_fine s (record leg { stage = in_stage.Waits window timeout true })
      (λ opened nothing. absurd opened) h)

  end_at : (s : Server) (n : ℕ) (o : Option Which) → Fine s → Fine (end_a2_at s n o).0
  end_at s n (Some which) h =
      by_test (λ (x : Done). Fine x.0) (is_over_on s which) (unexpected s)
      (took (record s { line = after_end s.line which })) (λ e. h) (λ e. h)
  end_at s n None h = by (in_leg n s.ins)
    where
      by : (o : Option InLeg) → Fine (end_a2_waiting s o).0
      by None = h
      by (Some leg) = end_on s leg leg.stage h

  end_fine : (s : Server) (n : ℕ) (count : Count) → Fine s → Fine (on_end_a2 s n count).0
  end_fine s n count h =
      by_test (λ (x : Done). Fine x.0) (is_first count) (unexpected s)
      (end_a2_at s n (channel_at s n)) (λ e. h) (λ e. end_at s n (channel_at s n) h)

  is_fine : (s : Server) (n : ℕ) (count : Count) (m : Named) → Fine s → Fine (on_is s n count m).0
  is_fine s n count (named.ConnB2 v1 v2 v3 v4 v5 v6 v7 v8) h = conn_b2_fine s n count v2 v3 v4 v5 h
  is_fine s n count (named.InR1A2 v1 v2 v3 v4 v5 v6) h = a2_fine s n count v2 v3 v4 v5 v6 h
  is_fine s n count (named.InR1A6 v1) h = a6_fine s n v1 h
  is_fine s n count (named.InR2A2 v1) h =
      same_fine s (on_in_r2_a2 s n count v1).0 (same_in_r2_a2 s n count v1) h
  is_fine s n count (named.AckTo v1 v2 v3 v4) h =
      same_fine s (on_ack_to s count v1 v2 v3 v4).0 (same_ack_to s count v1 v2 v3 v4) h
  is_fine s n count (named.OutR1A8 v1 v2) h =
      same_fine s (on_out_r1_a8 s count v1 v2).0 (same_out_r1_a8 s count v1 v2) h
  is_fine s n count named.EndA2 h = end_fine s n count h
  is_fine s n count m h = h

  os_fine : (s : Server) (n : ℕ) (count : Count) (m : Named) → Fine s → Fine (on_os s n count m).0
  os_fine s n count (named.ConnA2 v1 v2 v3 v4 v5) h =
      same_fine s (on_conn_a2 s n count v2 v3 v4 v5).0 (same_conn_a2 s n count v2 v3 v4 v5) h
  os_fine s n count (named.OutR1A4 v1 v2 v3 v4 v5 v6 v7) h =
      same_fine s (on_out_r1_a4 s n count v2 v3 v4 v5 v6 v7).0
      (same_out_r1_a4 s n count v2 v3 v4 v5 v6 v7) h
  os_fine s n count (named.Ack v1 v2 v3) h =
      same_fine s (on_ack s n count v1 v2 v3).0 (same_ack s n count v1 v2 v3) h
  os_fine s n count (named.PingTraffic v1) h =
      by_test (λ (d : Done). Fine d.0) (is_first count) (unexpected s) (took s) (λ e. h) (λ e. h)
  os_fine s n count m h = h

  packet_fine : (s : Server) (n : ℕ) (count : Count) (m : Named) (k : LegKind) → Fine s
      → Fine (packet_by s n count m k).0
  packet_fine s n count m InServer h = is_fine s n count m h
  packet_fine s n count m OutServer h = os_fine s n count m h
  packet_fine s n count m ClientIn h = h
  packet_fine s n count m ClientOut h = h

  -- ---- legs come up, are drawn, and are lost

  up_fine : (s : Server) (leg : Leg) (cookie : Cookie) → Fine s → Fine (up s leg cookie)
  up_fine s leg cookie h =
      by_test Fine (may_up_by s leg.number leg.kind) (up_by s leg.number leg.kind) s
      (λ e. by leg.kind) (λ e. h)
    where
      by : (k : LegKind) → Fine (up_by s leg.number k)
      by InServer =
          each_push (TellsAt put) s.ins (in_leg_up leg.number) h
          (λ opened nothing. absurd opened)
      by OutServer = h
      by ClientIn = h
      by ClientOut = h

  settled_fine : (s : Server) → Fine s → Fine (settled s)
  settled_fine s = same_fine s (settled s) (same_settled s)

  drawn_fine : (s : Server) (n : ℕ) (k : LegKind) → Fine s → Fine (drawn_by s n k)
  drawn_fine s n InServer h =
      by_test Fine (in_is_drawn (in_leg n s.ins)) (settled (without_in s n)) s
      (λ e. settled_fine (without_in s n) (gone_fine s n h)) (λ e. h)
  drawn_fine s n OutServer h = h
  drawn_fine s n ClientIn h = h
  drawn_fine s n ClientOut h = h

  lost_fine : (s : Server) (n : ℕ) (o : Option InLeg) → IfSome o (TellsAt put) → Fine s
      → Fine (lost_in s n o)
  lost_fine s n None is h = gone_fine s n h
  lost_fine s n (Some leg) is h =
      by_test Fine (is_waiting leg.stage && stays leg.leaving)
      (with_in s (record leg { leaving = leaving.Lost })) (without_in s n)
      (λ e. set_fine s (record leg { leaving = leaving.Lost }) is h) (λ e. gone_fine s n h)

  mark_fine : (s : Server) (n : ℕ) (k : LegKind) → Fine s → Fine (mark_by s n k)
  mark_fine s n InServer h =
      settled_fine (lost_in s n (in_leg n s.ins))
      (lost_fine s n (in_leg n s.ins) (found s n h) h)
  mark_fine s n OutServer h = settled_fine (without_out (with_ack_dropped s n) n) h
  mark_fine s n ClientIn h = h
  mark_fine s n ClientOut h = h

  take_fine : (s : Server) → Fine s → Fine (take s)
  take_fine s h = moved_fine s.line.has_next (record s { line = after_take s.line }) h

-- ---- what is put

module _ (s : Server) (n : ℕ) (came put : List OnLeg) (h : Legs put s.ins) where
  abbrev Goes : Pick → Type 0
  Goes pick = PutKeeps Holds (leg_at InServer n) came put pick

  or_goes : (a b : Pick) → Goes a → Goes b → Goes (or_else a b)
  or_goes None b p q = q
  or_goes (Some pick) b p q = p

  -- a leg has changed
  leg_goes : (t : Server) (leg : InLeg) (m : Message) → t.ins ≡ s.ins
      → TellsAt (put ++ (leg_at InServer n, m) ∷ []) leg → Goes (Some (with_in t leg, m))
  leg_goes t leg m same is =
      set_fine (put ++ (leg_at InServer n, m) ∷ []) t leg is
      (subst (Legs (put ++ (leg_at InServer n, m) ∷ [])) (sym same)
      (legs_more put (leg_at InServer n, m) s.ins h))

  -- but not what it tells
  kept_goes : (leg y : InLeg) (m : Message) → TellsAt put leg → y.number ≡ leg.number
      → y.stage ≡ leg.stage → y.tells ≡ leg.tells → Goes (Some (with_in s y, m))
  kept_goes leg y m is number stage tell =
      leg_goes s y m refl (λ opened nothing.
      told_more y.number put (leg_at InServer n, m)
      (subst (λ (k : ℕ). HasToldWindow k put) (sym number)
      (is (subst IsOpened stage opened) (subst TellsNothing tell nothing))))

  told_same : (number : ℕ) → (told_by s number).ins ≡ s.ins
  told_same number = search rules

  tells_go : (leg : InLeg) (what : Tells) → leg.number ≡ n → Goes (put_tells_by s leg what)
  tells_go leg tells.Nothing is = tt
  tells_go leg tells.ConnB3 is =
      by_test Goes (is_open s.stage) _ None
      (λ e. leg_goes s (record leg { tells = tells.Nothing }) (Packet (named.ConnB3 s.line.size 1))
      refl (λ opened nothing. subst (λ (k : ℕ). HasToldWindow k
      (put ++ (leg_at InServer n, Packet (named.ConnB3 s.line.size 1)) ∷ [])) (sym is)
      (told_here n put (named.ConnB3 s.line.size 1) refl)))
      (λ e. tt)
  tells_go leg tells.InR1B2 is =
      by_test Goes (was_current s leg) _ None
      (λ e. leg_goes (told_by s leg.number) (record leg { tells = tells.Nothing })
      (Packet (named.InR1B2 s.line.size)) (told_same leg.number)
      (λ opened nothing. subst (λ (k : ℕ). HasToldWindow k
      (put ++ (leg_at InServer n, Packet (named.InR1B2 s.line.size)) ∷ [])) (sym is)
      (told_here n put (named.InR1B2 s.line.size) refl)))
      (λ e. tt)

  b1_goes : (leg : InLeg) (how : Leaving) → TellsAt put leg → Goes (put_b1_by s leg how)
  b1_goes leg leaving.Stays is = tt
  b1_goes leg leaving.InR1B1 is =
      kept_goes leg (record leg { leaving = leaving.Left }) (Packet named.InR1B1) is refl refl refl
  b1_goes leg leaving.Left is = tt
  b1_goes leg leaving.Lost is = tt

  ack_goes : (o : Option Ack) → Goes (put_ack_by s o)
  ack_goes None = tt
  ack_goes (Some ack) = legs_more put _ s.ins h

  in_goes : (o : Option InLeg) → IfSome o (TellsAt put)
      → IfSome o (λ (leg : InLeg). leg.number ≡ n) → Goes (put_in_by s o)
  in_goes None is number = tt
  in_goes (Some leg) is number =
      or_goes (put_in_greeting s leg) _
      (by_test Goes (is_due leg.greeting) _ None
      (λ e. kept_goes leg (record leg { greeting = greetings.Put }) _ is refl refl refl)
      (λ e. tt))
      (or_goes (put_tells s leg) _ (tells_go leg leg.tells number)
      (or_goes (put_b1 s leg) (put_ack s leg) (b1_goes leg leg.leaving is)
      (ack_goes (ack_due s leg))))

module _ (s : Server) (leg : Leg) (came put : List OnLeg) (h : Legs put s.ins) where
  abbrev GoesOut : Pick → Type 0
  GoesOut pick = PutKeeps Holds leg came put pick

  abbrev IsQuiet : Pick → Type 0
  IsQuiet pick = IfSome pick (λ (one : Server × Message). Same s one.0)

  or_quiet : (a b : Pick) → IsQuiet a → IsQuiet b → IsQuiet (or_else a b)
  or_quiet None b p q = q
  or_quiet (Some pick) b p q = p

  greeting_quiet : (place : ℕ) (o : Option OutLeg) → IsQuiet (out_greeting_at s place o)
  greeting_quiet place None = tt
  greeting_quiet place (Some x) = by_test IsQuiet (is_due x.greeting) _ None (λ e. refl) (λ e. tt)

  found_quiet : (place : ℕ) (x : Waiting × Option Due) → IsQuiet (waiting_by s place x)
  found_quiet place (w, None) = tt
  found_quiet place (w, Some due) = same_was_put (record s { waiting = w }) place due.packet

  waiting_quiet : (place : ℕ) (o : Option Gate) → IsQuiet (waiting_at s place o)
  waiting_quiet place None = tt
  waiting_quiet place (Some gate) = found_quiet place (taken (lets gate) s.waiting)

  pdu_quiet : (place : ℕ) (o : Option ℕ) → IsQuiet (put_pdu_by s place o)
  pdu_quiet place None = tt
  pdu_quiet place (Some len) =
      by_test IsQuiet (may_go_at s len (slice_get s.outs place)) _ None (λ e. refl) (λ e. tt)

  settled_quiet : (pick : Pick) → IsQuiet pick → IsQuiet (settled_pick pick)
  settled_quiet None p = tt
  settled_quiet (Some one) p = same_settled one.0 ∙ p

  out_quiet : (o : Option ℕ) → IsQuiet (put_out_at s o)
  out_quiet None = tt
  out_quiet (Some place) =
      or_quiet (put_out_greeting s place) (put_open s place)
      (greeting_quiet place (slice_get s.outs place))
      (by_test IsQuiet (is_open s.stage) (settled_pick (next_out s place)) None
      (λ e. settled_quiet (next_out s place)
      (or_quiet (put_waiting s place) (put_pdu_or_end s place)
      (waiting_quiet place (gate_at s (slice_get s.outs place)))
      (or_quiet (put_pdu s place) (put_end s place) (pdu_quiet place (front_length s.queue))
      (same_end_put s place))))
      (λ e. tt))

  quiet_goes : (pick : Pick) → IsQuiet pick → GoesOut pick
  quiet_goes None quiet = tt
  quiet_goes (Some one) quiet =
      legs_more put (leg, one.1) one.0.ins (subst (Legs put) (sym quiet) h)

put_fine : (s : Server) (n : ℕ) (k : LegKind) (came put : List OnLeg) → Legs put s.ins
    → PutKeeps Holds (leg_at k n) came put (put_by s n k)
put_fine s n InServer came put h =
    in_goes s n came put h (in_leg n s.ins) (found put s n h)
    (number_found n s.ins (in_place n s.ins) refl)
put_fine s n OutServer came put h =
    quiet_goes s (leg_at OutServer n) came put h (put_out_at s (out_place n s.outs))
    (out_quiet s (leg_at OutServer n) came put h (out_place n s.outs))
put_fine s n ClientIn came put h = tt
put_fine s n ClientOut came put h = tt

-- ---- the server

steps : StepsKeep server_rules Holds
steps = record {
  up = λ s leg cookie came put h. up_fine put s leg cookie h;
  head = λ s leg text came put h. h;
  pdu = λ s leg count bytes came put h.
      row_on (leg, Pdu bytes) came put (pdu_by s leg.number bytes leg.kind)
      (same_fine put s (pdu_by s leg.number bytes leg.kind).0
      (same_pdu s leg.number bytes leg.kind) h);
  packet = λ s leg count m came put h.
      row_on (leg, Packet m) came put (packet_by s leg.number count m leg.kind)
      (packet_fine put s leg.number count m leg.kind h);
  put = λ s leg came put h. put_fine s leg.number leg.kind came put h;
  drawn = λ s leg came put h. drawn_fine put s leg.number leg.kind h;
  mark = λ s leg came put h. mark_fine put s leg.number leg.kind h;
  ping = λ s leg came put h. h;
}

calls : ActsKeep acts Holds
calls = record {
  give = λ s bytes came put. same_fine put s (give s bytes).0 (same_give s bytes);
  take = λ s came put h. take_fine put s h;
  close = λ s came put h. h;
  recycle = λ s came put. same_fine put s (recycle s).0 (same_recycle s);
}

pub tells_each : (window : ℕ) (moves : List EndMove) (n : ℕ)
    → let p = (all_end_moved server_rules acts (end_started (first window)) moves).passage in
    IfSome (in_leg n p.role.ins) (λ (leg : InLeg).
    IsOpened leg.stage → TellsNothing leg.tells → HasToldWindow n p.put)
tells_each window moves n =
    by (in_leg n p.role.ins) (found p.put p.role n h)
    (number_found n p.role.ins (in_place n p.role.ins) refl)
  where
    p : Passage Server
    p = (all_end_moved server_rules acts (end_started (first window)) moves).passage

    h : Legs p.put p.role.ins
    h = end_moves_keep server_rules Holds steps acts calls (end_started (first window)) moves tt

    by : (o : Option InLeg) → IfSome o (TellsAt p.put)
        → IfSome o (λ (leg : InLeg). leg.number ≡ n)
        → IfSome o (λ (leg : InLeg).
        IsOpened leg.stage → TellsNothing leg.tells → HasToldWindow n p.put)
    by None is number = tt
    by (Some leg) is number = λ opened nothing.
        subst (λ (k : ℕ). HasToldWindow k p.put) number (is opened nothing)
