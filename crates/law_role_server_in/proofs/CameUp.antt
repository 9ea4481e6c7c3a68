-- each is leg that a server keeps came up
use Rattle.law_order.proofs.Vocabulary.{◌≡◌, ℕ, zero, suc, ◌==◌, ◌&&◌, ◌||◌, nat_eq, Bool, true, false, not, if◌then◌else◌, List, [], ◌∷◌, ◌++◌, Some, None, Ok, Err, refl, rules, sym, ap, ◌∙◌, subst, false≢true, IfSome, IsTrue, remove, slice_get, slice_set, AllByRecursion, Option, Result}
use Rattle.rh_sig.specs.declared.named.Named.TheVariants as named
use Rattle.rh_shell.specs.declared.answers.Refused.TheVariants as refused
use Rattle.rh_server.specs.Servers.{pdu_by}
use Rattle.rh_server.specs.declared.state.Greeting.TheVariants as greetings
use Rattle.rh_server.specs.declared.state.InStage.TheVariants as in_stage
use Rattle.rh_server.specs.declared.state.Leaving.TheVariants as leaving
use Rattle.rh_server.specs.declared.state.Stage.TheVariants as stage
use Rattle.rh_server.specs.declared.state.Tells.TheVariants as tells
use Rattle.rh_server.specs.declared.out_line.Kind.TheVariants as kinds
use Rattle.law_moves.proofs.Vocabulary.{Ack, by_test, test_same, Cookie, Named, after_finish, after_take, after_tell, Leg, LegKind, ClientOut, OutServer, ClientIn, InServer, Which, Current, Count, GiveRefused, Message, Pdu, Packet, Row, is_of, Up, HeadCame, PduCame, PacketCame, Puts, IsDrawn, Marks, Pings, Passage, EndMove, Moves, Gives, Takes, Closes, Recycles, EndPassage, taken_by, put_by, end_moved, end_now_at, end_started, given_by, with_first, all_end_moved}
use Rattle.law_role_server.proofs.Vocabulary.{Shut, Told, InLeg, InStage, Leaving, OutLeg, Stage, Tells, waits, Server, is_due, is_some, is_fresh, is_open, is_shut, is_waiting, same_cookie, stays, in_at, in_leg, in_place, out_place, removed_at, set_at, with_in, without_in, without_out, Done, took, refuse, unexpected, is_first, first_in, in_leg_up, may_up_by, opens, up, up_by, with_first_in, conn_b2_at, on_conn_a2, on_conn_b2, channel_at, announced, becomes_current}
use Rattle.law_role_server.proofs.Vocabulary.{first_waiting, hands_over, has_fresh_below, in_r1_a2_at, in_r1_a2_by, leaves, leaves_by, moved_if, next_opened, on_in_r1_a2, on_in_r1_a6, on_in_r2_a2, opens_leg, opens_next, take, waiting_place, recycle, drawn_by, end_a2_at, end_a2_on_leg, end_a2_waiting, give, in_is_drawn, is_over_on, lost_in, mark_by, on_end_a2, settled, with_ack_dropped, Pick, or_else, put_in_greeting, was_current, put_tells_by, put_tells, put_b1_by, put_b1}
use Rattle.law_role_server.proofs.Vocabulary.{ack_due, put_ack_by, put_ack, put_in_by, out_greeting_at, put_out_greeting, next_out, settled_pick, put_open, put_out_at, put_by as put_by_kind, acts, first, on_is, on_os, packet_by, rules as server_rules, came_up, is_up}
use Rattle.law_role_server_rows.proofs.Putting.Each.{number_found}
use Rattle.law_role_server_in.proofs.Kept.{Look, look}
use Rattle.law_role_server_in.proofs.Puts.{Alone, out_alone, settled_same}
use Rattle.law_role_server_in.proofs.Takes.{ack_to_same, pdu_same}

-- ---- rows that leave the legs alone

in_r2_a2_same : (s : Server) (m : ℕ) (count : Count) (a : Cookie)
    → (on_in_r2_a2 s m count a).0.ins ≡ s.ins
in_r2_a2_same s m count a = search rules

conn_a2_same : (s : Server) (m : ℕ) (count : Count) (a b : Cookie) (c d : ℕ)
    → (on_conn_a2 s m count a b c d).0.ins ≡ s.ins
conn_a2_same s m count a b c d = search rules

give_same : (s : Server) (bytes : List ℕ) → (give s bytes).0.ins ≡ s.ins
give_same s bytes = search rules

recycle_same : (s : Server) → (recycle s).0.ins ≡ s.ins
recycle_same s = search rules

-- came n: leg n came up
module _ (came : ℕ → Bool) where
  abbrev pub IsUp : InLeg → Type 0
  IsUp leg = came leg.number ≡ true

  abbrev pub AreUp : List InLeg → Type 0
  AreUp legs = AllByRecursion IsUp legs

  abbrev Fine : Server → Type 0
  Fine s = AreUp s.ins

  put_at : (legs : List InLeg) (place : ℕ) (z : InLeg) → IsUp z → AreUp legs
      → AreUp (slice_set legs place z)
  put_at [] place z is h = tt
  put_at (x ∷ legs) zero z is h = (is, h.1)
  put_at (x ∷ legs) (suc place) z is h = (h.0, put_at legs place z is h.1)

  set_up : (legs : List InLeg) (z : InLeg) (place : Option ℕ) → IsUp z → AreUp legs
      → AreUp (set_at legs z place)
  set_up legs z None is h = h
  set_up legs z (Some place) is h = put_at legs place z is h

  off : (legs : List InLeg) (place : ℕ) → AreUp legs → AreUp (remove legs place)
  off [] zero h = tt
  off [] (suc place) h = tt
  off (x ∷ legs) zero h = h.1
  off (x ∷ legs) (suc place) h = (h.0, off legs place h.1)

  removed_up : (legs : List InLeg) (place : Option ℕ) → AreUp legs
      → AreUp (removed_at legs place)
  removed_up legs None h = h
  removed_up legs (Some place) h = off legs place h

  pushed_up : (legs : List InLeg) (z : InLeg) → IsUp z → AreUp legs → AreUp (legs ++ z ∷ [])
  pushed_up [] z is h = (is, tt)
  pushed_up (x ∷ legs) z is h = (h.0, pushed_up legs z is h.1)

  got : (legs : List InLeg) (place : ℕ) → AreUp legs → IfSome (slice_get legs place) IsUp
  got [] place h = tt
  got (x ∷ legs) zero h = h.0
  got (x ∷ legs) (suc place) h = got legs place h.1

  pub in_up : (legs : List InLeg) (place : Option ℕ) → AreUp legs
      → IfSome (in_at legs place) IsUp
  in_up legs None h = tt
  in_up legs (Some place) h = got legs place h

  same_up : (s t : Server) → t.ins ≡ s.ins → Fine s → Fine t
  same_up s t same h = subst AreUp (sym same) h

  look_up : (s t : Server) → look t ≡ look s → Fine s → Fine t
  look_up s t same h = same_up s t (ap (λ (l : Look). l.ins) same) h

  with_up : (s : Server) (z : InLeg) → IsUp z → Fine s → Fine (with_in s z)
  with_up s z is h = set_up s.ins z (in_place z.number s.ins) is h

  -- ---- channels

  next_up : (s : Server) → Fine s → Fine (next_opened s)
  next_up s h =
      by_test Fine (s.line.has_next || waits kinds.InR1A3 s.waiting) s
      (opens_leg s (first_waiting s.ins)) (λ e. h)
      (λ e. by (first_waiting s.ins) (in_up s.ins (waiting_place s.ins) h))
    where
      on : (leg : InLeg) (x : InStage) → IsUp leg → Fine (opens_next s leg x)
      on leg in_stage.Fresh is = h
      on leg in_stage.Opened is = h
      on leg (in_stage.Waits window timeout ended) is =
          with_up s (record leg { stage = in_stage.Opened; tells = tells.InR1B2 }) is h

      by : (o : Option InLeg) → IfSome o IsUp → Fine (opens_leg s o)
      by None is = h
      by (Some leg) is = on leg leg.stage is

  moved_up : (had_next : Bool) (s : Server) → Fine s → Fine (moved_if had_next s)
  moved_up had_next s h =
      by_test Fine (had_next && not s.line.has_next) (becomes_current s) s
      (λ e. next_up (record s { current = s.next; edge = Shut }) h) (λ e. h)

  -- ---- rows

  conn_b2_up : (s : Server) (m : ℕ) (count : Count) (a b : Cookie) (c d : ℕ) → Fine s
      → Fine (on_conn_b2 s m count a b c d).0
  conn_b2_up s m count a b c d h =
      by_test Row (is_first count && ((m == 1) && not (waits kinds.ConnC1 s.waiting)))
      (conn_b2_at s s.stage a b c d) (unexpected s) (λ e. by s.stage) (λ e. h)
    where
      Row : Done → Type 0
      Row x = Fine x.0

      on : (o : Option InLeg) → IfSome o IsUp → Fine (first_in s b o)
      on None is = h
      on (Some leg) is =
          with_up s (record leg { cookie = b; stage = in_stage.Opened; tells = tells.ConnB3 }) is
          h

      begins : Fine (with_first_in s b)
      begins = on (in_leg 1 s.ins) (in_up s.ins (in_place 1 s.ins) h)

      by : (x : Stage) → Row (conn_b2_at s x a b c d)
      by stage.Waits = begins
      by (stage.OutCame known) =
          by_test Row (same_cookie known a) (took (opens (with_first_in s b) known c d)) _
          (λ e. begins) (λ e. h)
      by (stage.InCame known window timeout) = h
      by (stage.Open known) = h
      by stage.Ended = h

  in_r1_a2_up : (s : Server) (m : ℕ) (count : Count) (a b c : Cookie) (d e : ℕ) → Fine s
      → Fine (on_in_r1_a2 s m count a b c d e).0
  in_r1_a2_up s m count a b c d e h =
      by_test Row (is_first count && not (has_fresh_below m s.ins))
      (in_r1_a2_at s s.stage m a b c d e) (unexpected s) (λ t. by s.stage) (λ t. h)
    where
      Row : Done → Type 0
      Row x = Fine x.0

      on : (known : Cookie) (o : Option InLeg) → IfSome o IsUp
          → Row (in_r1_a2_by s known a b c d e o)
      on known None is = h
      on known (Some leg) is =
          by_test Row (not (is_fresh leg.stage)) _ _ (λ t. h)
          (λ t. by_test Row (not (same_cookie known a)) _ _ (λ u. h)
          (λ u. by_test Row (not (same_cookie s.newest.cookie b)) _
          (took (announced s leg c d e)) (λ w. h)
          (λ w. next_up (with_in
          (record s { newest = record { leg = leg.number; cookie = c } })
          (record leg { cookie = c; stage = in_stage.Waits d e false }))
          (with_up s (record leg { cookie = c; stage = in_stage.Waits d e false }) is h))))

      by : (x : Stage) → Row (in_r1_a2_at s x m a b c d e)
      by (stage.Open known) = on known (in_leg m s.ins) (in_up s.ins (in_place m s.ins) h)
      by stage.Waits = h
      by (stage.OutCame known) = h
      by (stage.InCame known window timeout) = h
      by stage.Ended = h

  in_r1_a6_up : (s : Server) (m : ℕ) (a : Cookie) → Fine s → Fine (on_in_r1_a6 s m a).0
  in_r1_a6_up s m a h =
      by_test Row ((m == s.current.leg) && (not s.line.finished
      && (s.line.has_next && not (waits kinds.InR1A3 s.waiting))))
      (if same_cookie s.next.cookie a then took (hands_over s m)
      else refuse s (refused.Cookie s.next.cookie a)) (unexpected s)
      (λ e. by_test Row (same_cookie s.next.cookie a) (took (hands_over s m))
      (refuse s (refused.Cookie s.next.cookie a))
      (λ f. moved_up true (record (leaves s m) { line = after_finish s.line })
      (on (in_leg m s.ins) (in_up s.ins (in_place m s.ins) h))) (λ f. h))
      (λ e. h)
    where
      Row : Done → Type 0
      Row x = Fine x.0

      on : (o : Option InLeg) → IfSome o IsUp → Fine (leaves_by s o)
      on None is = h
      on (Some leg) is = with_up s (record leg { leaving = leaving.InR1B1 }) is h

  end_a2_up : (s : Server) (m : ℕ) (count : Count) → Fine s → Fine (on_end_a2 s m count).0
  end_a2_up s m count h =
      by_test Row (is_first count) (unexpected s) (end_a2_at s m (channel_at s m)) (λ e. h)
      (λ e. by (channel_at s m))
    where
      Row : Done → Type 0
      Row x = Fine x.0

      staged : (leg : InLeg) (x : InStage) → IsUp leg → Row (end_a2_on_leg s leg x)
      staged leg in_stage.Fresh is = h
      staged leg in_stage.Opened is = h
      staged leg (in_stage.Waits window timeout ended) is =
          by_test Row ended (unexpected s) _ (λ e. h)
          (λ e. with_up s (record leg { stage = in_stage.Waits window timeout true }) is h)

      on : (o : Option InLeg) → IfSome o IsUp → Row (end_a2_waiting s o)
      on None is = h
      on (Some leg) is = staged leg leg.stage is

      by : (o : Option Which) → Row (end_a2_at s m o)
      by None = on (in_leg m s.ins) (in_up s.ins (in_place m s.ins) h)
      by (Some which) = by_test Row (is_over_on s which) (unexpected s) _ (λ e. h) (λ e. h)

  is_row : (s : Server) (m : ℕ) (count : Count) (packet : Named) → Fine s
      → Fine (on_is s m count packet).0
  is_row s m count (named.ConnB2 v a b c d e f g) h = conn_b2_up s m count a b c d h
  is_row s m count (named.InR1A2 v a b c d e) h = in_r1_a2_up s m count a b c d e h
  is_row s m count (named.InR1A6 a) h = in_r1_a6_up s m a h
  is_row s m count (named.InR2A2 a) h =
      same_up s (on_in_r2_a2 s m count a).0 (in_r2_a2_same s m count a) h
  is_row s m count named.EndA2 h = end_a2_up s m count h
  is_row s m count (named.AckTo a b c d) h =
      look_up s (on_is s m count (named.AckTo a b c d)).0 (ack_to_same s count a b c d) h
  is_row s m count packet h = same_up s (on_is s m count packet).0 (search rules) h

  os_row : (s : Server) (m : ℕ) (count : Count) (packet : Named) → Fine s
      → Fine (on_os s m count packet).0
  os_row s m count (named.ConnA2 v a b c d) h =
      same_up s (on_conn_a2 s m count a b c d).0 (conn_a2_same s m count a b c d) h
  os_row s m count packet h = same_up s (on_os s m count packet).0 (search rules) h

  packet_row : (s : Server) (m : ℕ) (count : Count) (packet : Named) (k : LegKind) → Fine s
      → Fine (packet_by s m count packet k).0
  packet_row s m count packet InServer h = is_row s m count packet h
  packet_row s m count packet OutServer h = os_row s m count packet h
  packet_row s m count packet ClientIn h = h
  packet_row s m count packet ClientOut h = h

  -- ---- what is put

  abbrev PickUp : Pick → Type 0
  PickUp pick = IfSome pick (λ (one : Server × Message). Fine one.0)

  or_up : (a b : Pick) → PickUp a → PickUp b → PickUp (or_else a b)
  or_up None b p q = q
  or_up (Some pick) b p q = p

  in_puts : (s : Server) (o : Option InLeg) → IfSome o IsUp → Fine s → PickUp (put_in_by s o)
  in_puts s None is h = tt
  in_puts s (Some leg) is h =
      or_up (put_in_greeting s leg) _
      (by_test PickUp (is_due leg.greeting) _ None
      (λ e. with_up s (record leg { greeting = greetings.Put }) is h) (λ e. tt))
      (or_up (put_tells s leg) _ (told leg.tells)
      (or_up (put_b1 s leg) (put_ack s leg) (left leg.leaving) (ack (ack_due s leg))))
    where
      plain : Fine (with_in s (record leg { tells = tells.Nothing }))
      plain = with_up s (record leg { tells = tells.Nothing }) is h

      told : (t : Tells) → PickUp (put_tells_by s leg t)
      told tells.Nothing = tt
      told tells.ConnB3 = by_test PickUp (is_open s.stage) _ None (λ e. plain) (λ e. tt)
      told tells.InR1B2 =
          by_test PickUp (was_current s leg) _ None
          (λ e. by_test (λ (u : Server). Fine (with_in u (record leg { tells = tells.Nothing })))
          ((leg.number == s.current.leg) && is_shut s.edge)
          (record s { line = after_tell s.line Current; edge = Told }) s (λ f. plain)
          (λ f. plain)) (λ e. tt)

      left : (x : Leaving) → PickUp (put_b1_by s leg x)
      left leaving.Stays = tt
      left leaving.InR1B1 = with_up s (record leg { leaving = leaving.Left }) is h
      left leaving.Left = tt
      left leaving.Lost = tt

      ack : (o : Option Ack) → PickUp (put_ack_by s o)
      ack None = tt
      ack (Some a) = h

  out_puts : (s : Server) (place : Option ℕ) → Fine s → PickUp (put_out_at s place)
  out_puts s None h = tt
  out_puts s (Some place) h =
      or_up (put_out_greeting s place) (put_open s place) (greets (slice_get s.outs place))
      (by_test PickUp (is_open s.stage) (settled_pick (next_out s place)) None
      (λ e. alone (next_out s place) (out_alone s place)) (λ e. tt))
    where
      greets : (o : Option OutLeg) → PickUp (out_greeting_at s place o)
      greets None = tt
      greets (Some leg) = by_test PickUp (is_due leg.greeting) _ None (λ e. h) (λ e. tt)

      alone : (pick : Pick) → Alone s pick → PickUp (settled_pick pick)
      alone None same = tt
      alone (Some one) same = look_up s (settled one.0) (settled_same one.0 ∙ same) h

  put_up : (s : Server) (m : ℕ) (k : LegKind) → Fine s → PickUp (put_by_kind s m k)
  put_up s m InServer h = in_puts s (in_leg m s.ins) (in_up s.ins (in_place m s.ins) h) h
  put_up s m OutServer h = out_puts s (out_place m s.outs) h
  put_up s m ClientIn h = tt
  put_up s m ClientOut h = tt

  -- ---- legs

  leg_up : (s : Server) (leg : Leg) (cookie : Cookie)
      → (is_of InServer leg ≡ true → came leg.number ≡ true) → Fine s → Fine (up s leg cookie)
  leg_up s leg cookie is h =
      by_test Fine (may_up_by s leg.number leg.kind) (up_by s leg.number leg.kind) s
      (λ e. by leg.kind is) (λ e. h)
    where
      by : (k : LegKind)
          → (is_of InServer (record { kind = k; number = leg.number }) ≡ true
          → came leg.number ≡ true)
          → Fine (up_by s leg.number k)
      by InServer is = pushed_up s.ins (in_leg_up leg.number) (is refl) h
      by OutServer is = h
      by ClientIn is = h
      by ClientOut is = h

  settled_up : (s : Server) → Fine s → Fine (settled s)
  settled_up s h = look_up s (settled s) (settled_same s) h

  drawn_up : (s : Server) (m : ℕ) (k : LegKind) → Fine s → Fine (drawn_by s m k)
  drawn_up s m InServer h =
      by_test Fine (in_is_drawn (in_leg m s.ins)) (settled (without_in s m)) s
      (λ e. settled_up (without_in s m) (removed_up s.ins (in_place m s.ins) h)) (λ e. h)
  drawn_up s m OutServer h = h
  drawn_up s m ClientIn h = h
  drawn_up s m ClientOut h = h

  mark_up : (s : Server) (m : ℕ) (k : LegKind) → Fine s → Fine (mark_by s m k)
  mark_up s m InServer h =
      settled_up (lost_in s m (in_leg m s.ins))
      (lost (in_leg m s.ins) (in_up s.ins (in_place m s.ins) h))
    where
      lost : (o : Option InLeg) → IfSome o IsUp → Fine (lost_in s m o)
      lost None is = removed_up s.ins (in_place m s.ins) h
      lost (Some leg) is =
          by_test Fine (is_waiting leg.stage && stays leg.leaving)
          (with_in s (record leg { leaving = leaving.Lost })) (without_in s m)
          (λ e. with_up s (record leg { leaving = leaving.Lost }) is h)
          (λ e. removed_up s.ins (in_place m s.ins) h)
  mark_up s m OutServer h = settled_up (without_out (with_ack_dropped s m) m) h
  mark_up s m ClientIn h = h
  mark_up s m ClientOut h = h

  -- ---- moves

  by_row : (p : Passage Server) (leg : Leg) (m : Message) (row : Server × Row) → Fine row.0
      → Fine (taken_by p leg m row).role
  by_row p leg m (s, Ok taken) h = h
  by_row p leg m (s, Err why) h = h

  by_put : (p : Passage Server) (leg : Leg) (pick : Pick) → Fine p.role → PickUp pick
      → Fine (put_by p leg pick).role
  by_put p leg None h goes = h
  by_put p leg (Some one) h goes = goes

  move_up : (p : EndPassage Server) (move : EndMove)
      → ((n : ℕ) → is_up n move ≡ true → came n ≡ true) → Fine p.passage.role
      → Fine (end_moved server_rules acts p move).passage.role
  move_up p (Moves (Up leg cookie)) is h =
      leg_up p.passage.role leg cookie
      (λ e. is leg.number (both (is_of InServer leg) (nat_eq leg.number leg.number) e
      (test_same leg.number))) h
    where
      both : (a b : Bool) → a ≡ true → b ≡ true → a && b ≡ true
      both a b e f = ap (λ (t : Bool). t && b) e ∙ f
  move_up p (Moves (HeadCame leg text)) is h = h
  move_up p (Moves (PduCame leg count bytes)) is h =
      by_row p.passage leg (Pdu bytes) (server_rules.pdu p.passage.role leg count bytes)
      (look_up p.passage.role (pdu_by p.passage.role leg.number bytes leg.kind).0
      (pdu_same p.passage.role leg.number bytes leg.kind) h)
  move_up p (Moves (PacketCame leg count packet)) is h =
      by_row p.passage leg (Packet packet)
      (server_rules.packet p.passage.role leg count packet)
      (packet_row p.passage.role leg.number count packet leg.kind h)
  move_up p (Moves (Puts leg)) is h =
      by_put p.passage leg (server_rules.put p.passage.role leg) h
      (put_up p.passage.role leg.number leg.kind h)
  move_up p (Moves (IsDrawn leg)) is h = drawn_up p.passage.role leg.number leg.kind h
  move_up p (Moves (Marks leg)) is h = mark_up p.passage.role leg.number leg.kind h
  move_up p (Moves (Pings leg)) is h = h
  move_up p (Gives bytes) is h =
      by (acts.give p.passage.role bytes)
      (same_up p.passage.role (give p.passage.role bytes).0 (give_same p.passage.role bytes) h)
    where
      by : (x : Server × Result (Unit {0}) GiveRefused) → Fine x.0
          → Fine (given_by p bytes x).passage.role
      by (t, Ok accepted) k = k
      by (t, Err why) k = k
  move_up p Takes is h =
      by (acts.line p.passage.role).current.pdus
      (moved_up p.passage.role.line.has_next
      (record (p.passage.role) { line = after_take p.passage.role.line }) h)
    where
      by : (pdus : List (List ℕ)) → Fine (take p.passage.role)
          → Fine (with_first (end_now_at p (acts.take p.passage.role)) pdus).passage.role
      by [] k = k
      by (pdu ∷ pdus) k = k
  move_up p Closes is h = h
  move_up p Recycles is h =
      same_up p.passage.role (recycle p.passage.role).0 (recycle_same p.passage.role) h

  moves_up : (p : EndPassage Server) (moves : List EndMove)
      → ((n : ℕ) → came_up moves n ≡ true → came n ≡ true) → Fine p.passage.role
      → Fine (all_end_moved server_rules acts p moves).passage.role
  moves_up p [] is h = h
  moves_up p (move ∷ moves) is h =
      moves_up (end_moved server_rules acts p move) moves
      (λ n e. is n (later (is_up n move) (came_up moves n) e))
      (move_up p move (λ n e. is n (ap (λ (b : Bool). b || came_up moves n) e)) h)
    where
      later : (a b : Bool) → b ≡ true → a || b ≡ true
      later true b e = refl
      later false b e = e

pub all_up : (window : ℕ) (moves : List EndMove) → AreUp (came_up moves)
    (all_end_moved server_rules acts (end_started (first window)) moves).passage.role.ins
all_up window moves =
    moves_up (came_up moves) (end_started (first window)) moves (λ n e. e) tt

pub kept_up : (window : ℕ) (moves : List EndMove) (n : ℕ)
    → IsTrue (is_some (in_leg n
    (all_end_moved server_rules acts (end_started (first window)) moves).passage.role.ins))
    → IsTrue (came_up moves n)
kept_up window moves n =
    by (in_leg n legs) (in_up (came_up moves) legs (in_place n legs) (all_up window moves))
    (number_found n legs (in_place n legs) refl)
  where
    legs : List InLeg
    legs = (all_end_moved server_rules acts (end_started (first window)) moves).passage.role.ins

    by : (o : Option InLeg) → IfSome o (IsUp (came_up moves))
        → IfSome o (λ (leg : InLeg). leg.number ≡ n) → IsTrue (is_some o)
        → IsTrue (came_up moves n)
    by None is number kept = absurd (false≢true kept)
    by (Some leg) is number kept =
        subst (λ (k : ℕ). came_up moves k ≡ true) number is
