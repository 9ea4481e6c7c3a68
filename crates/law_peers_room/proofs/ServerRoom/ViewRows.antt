-- what comes to a server, and what else happens there but puts, keeps each fact of its OUT channels
-- and of what waits for them that the steps keep
use Rattle.law_order.proofs.Vocabulary.{◌≡◌, inl, inr, ℕ, ◌+◌, ◌≤◌, ◌==◌, ◌&&◌, ◌||◌, Bool, true, false, nat_lt, not, if◌then◌else◌, List, Some, None, Ok, Err, refl, sym, ap, ◌∙◌, subst, rules, and_parts, false≢true, IfSome, slice_get, remove, list_any, Option, Result}
use Rattle.rh_sig.specs.declared.named.Named.TheVariants as named
use Rattle.rh_shell.specs.declared.answers.Refused.TheVariants as refused
use Rattle.rh_shell.specs.Waiting as waits
use Rattle.rh_server.specs.declared.state.InStage.TheVariants as in_stage
use Rattle.rh_server.specs.declared.state.Replacement.TheVariants as replacement
use Rattle.rh_server.specs.declared.state.Stage.TheVariants as stage
use Rattle.rh_server.specs.declared.out_line.Kind.TheVariants as kinds
use Rattle.rh_server.specs.OutLines as lines
use Rattle.law_moves.proofs.Vocabulary.{by_test, same_number, Cookie, Named, Leg, LegKind, ClientOut, OutServer, ClientIn, InServer, Which, Current, Next, after_finish, after_take, Count, Forwarded, RecycleRefused, Waiting, added, are_one, key_of, own, pushed, takes, to_forward, with_due, merged}
use Rattle.law_role_inproxy.proofs.Putting.Tests.{not_so}
use Rattle.law_role_server.proofs.Vocabulary.{InLeg, InStage, OutLeg, Replacement, Stage, acked, Shut, Server, is_fresh, is_open, is_steady, in_leg, cookie_by, out_at, out_leg, out_place, out_cookie, same_cookie, with_in, without_in, without_out, removed_at, Done, took, refuse, unexpected, is_first, opens, first_in, with_first_in, first_out_at, with_first_out, out_leg_up, may_up_by, has_room, up, up_by, conn_a2_at, on_conn_a2, conn_b2_at, on_conn_b2, channel_at, channel_leg, forward_by}
use Rattle.law_role_server.proofs.Vocabulary.{forwards, forwards_to, forwards_writing, on_ack_to, out_server, acked_at, acked_cookie, acked_in, on_ack, on_ping_traffic, announced, becomes_current, first_waiting, hands_over, has_fresh_below, in_r1_a2_at, in_r1_a2_by, in_r2_a2_on, leaves_by, moved_if, next_opened, on_in_r1_a2, on_in_r1_a6, on_in_r2_a2, opens_leg, opens_next, take, answered_by, answered_on, asks, confirms, is_asked, is_under_way, last_number, may_answer}
use Rattle.law_role_server.proofs.Vocabulary.{on_out_r1_a4, on_out_r1_a8, out_r1_a4_at, out_r1_a4_by, out_r1_a8_at, recycle, wanted_by, wishes, completed, drawn_by, give, in_is_drawn, is_complete, lost_in, mark_by, on_end_a2, settled, with_ack_dropped, without_ack_of, on_is, on_os, packet_by, pdu}
use Rattle.law_role_server.proofs.Gives.{found as number_found}
use Rattle.law_peers_room.proofs.ServerRoom.Ahead.{same_cookies}
use Rattle.law_peers_room.proofs.ServerRoom.Apart.{IsAck}
use Rattle.law_peers_room.proofs.ServerRoom.Meters.{is_answered, is_begun}
use Rattle.law_peers_room.proofs.ServerRoom.Owners.{Owned, has_leg, leg_found}
use Rattle.law_peers_room.proofs.ServerRoom.Views.{AreKept, IsOther, View, had_out, has_out, view}
use Rattle.law_peers_room.specs.ServerRoom.Overtaking.{IsLong}

-- ---- tests

pub steady_so : (a b : Bool) → (not a || b) ≡ false → a ≡ true
steady_so true b e = refl
steady_so false b e = absurd cc

asked_so : (x : Replacement) → is_asked x ≡ true → is_steady x ≡ false
asked_so replacement.Steady e = absurd cc
asked_so replacement.Asked e = refl
asked_so (replacement.Answered successor) e = refl
asked_so replacement.Confirmed e = refl

asked_none : (x : Replacement) → is_asked x ≡ true → is_answered x ≡ false
asked_none replacement.Steady e = absurd cc
asked_none replacement.Asked e = refl
asked_none (replacement.Answered successor) e = absurd cc
asked_none replacement.Confirmed e = absurd cc

-- the acknowledgement is for the channel of a leg
owned_ack : (s : Server) (received window : ℕ) (cookie : Cookie) → has_leg cookie s.outs ≡ true
    → Owned s.outs (to_forward (named.AckTo 3 received window cookie))
owned_ack s received window cookie is other e =
    subst (λ (c : Cookie). has_leg c s.outs ≡ true) (cookies cookie other e) is
  where
    cookies : (a b : Cookie)
        → are_one (Some (record { destination = 3; channel = a }))
        (Some (record { destination = 3; channel = b })) ≡ true → a ≡ b
    cookies a b e = same_cookies a b e

-- no replacement is under way where one is wished for
pub wishes_steady : (s : Server) → wishes s ≡ true → is_steady s.replacement ≡ true
wishes_steady s e =
    steady_so (is_steady s.replacement) (lines.waits kinds.OutR1 s.waiting)
    (not_so (is_under_way s)
    (and_parts (not (is_under_way s)) (wanted_by (out_leg s.writing s.outs))
    (and_parts (nat_lt s.writing last_number) _ (and_parts (is_open s.stage) _ e).1).1).0)

module _ (least : ℕ) (F : View → Type 0) (keeps : AreKept least F) where
  abbrev pub Serves : Server → Type 0
  Serves s = F (view s)

  same_serves : (s t : Server) → view t ≡ view s → Serves s → Serves t
  same_serves s t same h = subst F (sym same) h

  -- ---- what waits

  added_serves : (s : Server) (packet : Named) → IsOther (own packet) → key_of packet ≡ None
      → Serves s → Serves (record s { waiting = added s.waiting packet })
  added_serves s packet other none h = keeps.adds (view s) packet other none h

  asks_serves : (s : Server) → is_steady s.replacement ≡ true → Serves s → Serves (asks s)
  asks_serves s steady h = keeps.asks (view s) steady h

  pub completed_serves : (s : Server) → Serves s → Serves (completed s)
  completed_serves s h =
      by_test Serves (is_complete s) (record s { stage = stage.Ended }) s
      (λ e. keeps.ended (view s) h) (λ e. h)

  pub settled_serves : (s : Server) → Serves s → Serves (settled s)
  settled_serves s h =
      by_test Serves (wishes (completed s)) (asks (completed s)) (completed s)
      (λ e. asks_serves (completed s) (wishes_steady (completed s) e) (completed_serves s h))
      (λ e. completed_serves s h)

  pub recycles : (s : Server) → Serves s → Serves (recycle s).0
  recycles s h =
      by_test Recycles (s.writing == last_number) _ _ (λ e. h)
      (λ e. by_test Recycles (is_under_way s) _ _ (λ f. h)
      (λ f. asks_serves s (steady_so (is_steady s.replacement)
      (lines.waits kinds.OutR1 s.waiting) f) h))
    where
      Recycles : Server × Result (Unit {0}) RecycleRefused → Type 0
      Recycles x = Serves x.0

  -- ---- IN channels

  opens_serves : (s : Server) (leg : InLeg) (x : InStage) → Serves s
      → Serves (opens_next s leg x)
  opens_serves s leg in_stage.Fresh h = h
  opens_serves s leg in_stage.Opened h = h
  opens_serves s leg (in_stage.Waits window timeout ended) h =
      added_serves s (named.InR1A3 0 1 window timeout) (refl, refl) refl h

  next_serves : (s : Server) → Serves s → Serves (next_opened s)
  next_serves s h =
      by_test Serves (s.line.has_next || lines.waits kinds.InR1A3 s.waiting) s
      (opens_leg s (first_waiting s.ins)) (λ e. h) (λ e. by (first_waiting s.ins))
    where
      by : (o : Option InLeg) → Serves (opens_leg s o)
      by None = h
      by (Some leg) = opens_serves s leg leg.stage h

  moved_serves : (b : Bool) (s : Server) → Serves s → Serves (moved_if b s)
  moved_serves b s h =
      by_test Serves (b && not s.line.has_next) (becomes_current s) s
      (λ e. next_serves (record s { current = s.next; edge = Shut }) h) (λ e. h)

  pub take_serves : (s : Server) → Serves s → Serves (take s)
  take_serves s h =
      moved_serves s.line.has_next (record s { line = after_take s.line }) h

  abbrev RowServes : Done → Type 0
  RowServes x = Serves x.0

  conn_b2_row : (s : Server) (n : ℕ) (count : Count) (a b : Cookie) (c d : ℕ) → Serves s
      → RowServes (on_conn_b2 s n count a b c d)
  conn_b2_row s n count a b c d h =
      by_test RowServes
      (is_first count && ((n == 1) && not (lines.waits kinds.ConnC1 s.waiting)))
      (conn_b2_at s s.stage a b c d) (unexpected s) (λ e. by s.stage refl) (λ e. h)
    where
      early : (o : Option InLeg) (now : Stage) → is_begun s.stage ≡ false
          → has_out now ≡ has_out s.stage → had_out now ≡ had_out s.stage
          → Serves (record (first_in s b o) { stage = now })
      early None now e out had = keeps.came_in (view s) now e out had h
      early (Some leg) now e out had = keeps.came_in (view s) now e out had h

      opened : (o : Option InLeg) (known : Cookie) → s.stage ≡ stage.OutCame known
          → Serves (opens (first_in s b o) known c d)
      opened o known e =
          added_serves (record (first_in s b o) { stage = stage.Open known })
          (named.ConnC1 1 c d) (refl, refl) refl
          (early o (stage.Open known) (ap is_begun e) (sym (ap has_out e)) (sym (ap had_out e)))

      by : (x : Stage) → s.stage ≡ x → RowServes (conn_b2_at s x a b c d)
      by stage.Waits e =
          early (in_leg 1 s.ins) (stage.InCame a c d) (ap is_begun e) (sym (ap has_out e))
          (sym (ap had_out e))
      by (stage.OutCame known) e =
          by_test RowServes (same_cookie known a) (took (opens (with_first_in s b) known c d)) _
          (λ f. opened (in_leg 1 s.ins) known e) (λ f. h)
      by (stage.InCame known window timeout) e = h
      by (stage.Open known) e = h
      by stage.Ended e = h

  in_r1_a2_row : (s : Server) (n : ℕ) (count : Count) (a b c : Cookie) (d e : ℕ) → Serves s
      → RowServes (on_in_r1_a2 s n count a b c d e)
  in_r1_a2_row s n count a b c d e h =
      by_test RowServes (is_first count && not (has_fresh_below n s.ins))
      (in_r1_a2_at s s.stage n a b c d e) (unexpected s) (λ f. by s.stage) (λ f. h)
    where
      on : (known : Cookie) (o : Option InLeg) → RowServes (in_r1_a2_by s known a b c d e o)
      on known None = h
      on known (Some leg) =
          by_test RowServes (not (is_fresh leg.stage)) (unexpected s) _ (λ f. h)
          (λ f. by_test RowServes (not (same_cookie known a))
          (refuse s (refused.Cookie known a)) _ (λ g. h)
          (λ g. by_test RowServes (not (same_cookie s.newest.cookie b))
          (refuse s (refused.Cookie s.newest.cookie b)) (took (announced s leg c d e)) (λ i. h)
          (λ i. next_serves
          (with_in (record s { newest = record { leg = leg.number; cookie = c } })
          (record leg { cookie = c; stage = in_stage.Waits d e false })) h)))

      by : (x : Stage) → RowServes (in_r1_a2_at s x n a b c d e)
      by stage.Waits = h
      by (stage.OutCame known) = h
      by (stage.InCame known window timeout) = h
      by (stage.Open known) = on known (in_leg n s.ins)
      by stage.Ended = h

  in_r1_a6_row : (s : Server) (n : ℕ) (successor : Cookie) → Serves s
      → RowServes (on_in_r1_a6 s n successor)
  in_r1_a6_row s n successor h =
      by_test RowServes _ (if same_cookie s.next.cookie successor
      then took (hands_over s n)
      else refuse s (refused.Cookie s.next.cookie successor)) (unexpected s)
      (λ e. by_test RowServes (same_cookie s.next.cookie successor) (took (hands_over s n)) _
      (λ f. by (in_leg n s.ins)) (λ f. h)) (λ e. h)
    where
      by : (o : Option InLeg)
          → Serves (moved_if true (record (leaves_by s o) { line = after_finish s.line }))
      by None = moved_serves true (record s { line = after_finish s.line }) h
      by (Some leg) =
          moved_serves true (record (leaves_by s (Some leg)) { line = after_finish s.line }) h

  in_r2_a2_row : (s : Server) (n : ℕ) (count : Count) (successor : Cookie) → Serves s
      → RowServes (on_in_r2_a2 s n count successor)
  in_r2_a2_row s n count successor h =
      by_test RowServes _ (in_r2_a2_on s n successor (channel_at s n)) (unexpected s)
      (λ e. by (channel_at s n)) (λ e. h)
    where
      by : (o : Option Which) → RowServes (in_r2_a2_on s n successor o)
      by None = h
      by (Some Current) = added_serves s (named.InR2A3 0) (refl, refl) refl h
      by (Some Next) = added_serves s (named.InR2A3 0) (refl, refl) refl h

  -- ---- acknowledgements that are forwarded

  module _ (to received window : ℕ) (cookie : Cookie)
      (is : IsAck (named.AckTo to received window cookie)) where
    abbrev ack : Named
    ack = named.AckTo to received window cookie

    forward_serves : (s : Server) (n : ℕ) → Owned s.outs (to_forward ack) → Serves s
        → RowServes (forwards s n ack)
    forward_serves s n owned h =
        by_test Answers (list_any (takes ack) s.waiting.due)
        (with_due s.waiting (merged s.waiting.due ack), true)
        (if nat_lt (waits.count Forwarded s.waiting.due) s.waiting.room
        then (pushed s.waiting (to_forward ack), true) else (s.waiting, false))
        (λ e. keeps.merges (view s) ack (record { destination = to; channel = cookie }) is
        refl h)
        (λ e. by_test Answers (nat_lt (waits.count Forwarded s.waiting.due) s.waiting.room)
        (pushed s.waiting (to_forward ack), true) (s.waiting, false)
        (λ f. keeps.forwards (view s) ack (refl, refl) is owned e h)
        (λ f. h))
      where
        Answers : Waiting × Bool → Type 0
        Answers x = RowServes (forward_by s n x)

    writing_serves : (s : Server) → Owned s.outs (to_forward ack) → Serves s
        → RowServes (forwards_writing s ack)
    writing_serves s owned h =
        by_test RowServes _ (refuse s (refused.Full (out_server s.writing)))
        (forwards s s.writing ack) (λ e. h) (λ e. forward_serves s s.writing owned h)

  ack_to_row : (s : Server) (count : Count) (to received window : ℕ) (cookie : Cookie)
      → Serves s → RowServes (on_ack_to s count to received window cookie)
  ack_to_row s count to received window cookie h =
      by_test RowServes (is_first count) (unexpected s) _ (λ e. h)
      (λ e. by_test RowServes (to == 0)
      (forwards_writing s (named.AckTo 0 received window cookie)) _
      (λ f. writing_serves 0 received window cookie (inl refl) s
      (λ other g. absurd (false≢true g)) h)
      (λ f. by_test RowServes (to == 3)
      (forwards_to s (named.AckTo 3 received window cookie) (channel_leg cookie s.outs))
      (unexpected s) (λ g. by (channel_leg cookie s.outs) refl) (λ g. h)))
    where
      by : (o : Option ℕ) → channel_leg cookie s.outs ≡ o
          → RowServes (forwards_to s (named.AckTo 3 received window cookie) o)
      by None is = h
      by (Some n) is =
          let owned = owned_ack s received window cookie (leg_found cookie s.outs n is) in
          by_test RowServes (n == s.writing)
          (forwards_writing s (named.AckTo 3 received window cookie))
          (forwards s n (named.AckTo 3 received window cookie))
          (λ e. writing_serves 3 received window cookie (inr refl) s owned h)
          (λ e. forward_serves 3 received window cookie (inr refl) s n owned h)

  a8_row : (s : Server) (count : Count) (to : ℕ) (successor : Cookie) → Serves s
      → RowServes (on_out_r1_a8 s count to successor)
  a8_row s count to successor h =
      by_test RowServes _ (out_r1_a8_at s successor s.replacement) (unexpected s)
      (λ e. by s.replacement refl) (λ e. h)
    where
      by : (x : Replacement) → s.replacement ≡ x → RowServes (out_r1_a8_at s successor x)
      by replacement.Steady e = h
      by replacement.Asked e = h
      by replacement.Confirmed e = h
      by (replacement.Answered cookie) e =
          by_test RowServes (same_cookie cookie successor) (took (confirms s)) _
          (λ f. keeps.confirms (view s) (ap is_answered e) (ap is_steady e) h)
          (λ f. h)

  end_same : (s : Server) (n : ℕ) (count : Count) → view (on_end_a2 s n count).0 ≡ view s
  end_same s n count = search rules

  is_row : (s : Server) (n : ℕ) (count : Count) (m : Named) → Serves s
      → RowServes (on_is s n count m)
  is_row s n count (named.ConnB2 v a b c d e f g) h = conn_b2_row s n count a b c d h
  is_row s n count (named.InR1A2 v a b c d e) h = in_r1_a2_row s n count a b c d e h
  is_row s n count (named.InR1A6 successor) h = in_r1_a6_row s n successor h
  is_row s n count (named.InR2A2 successor) h = in_r2_a2_row s n count successor h
  is_row s n count (named.AckTo to received window cookie) h =
      ack_to_row s count to received window cookie h
  is_row s n count (named.OutR1A8 to successor) h = a8_row s count to successor h
  is_row s n count named.EndA2 h =
      same_serves s (on_end_a2 s n count).0 (end_same s n count) h
  is_row s n count m h = h

  -- ---- OUT channels

  -- where it is taken, its lifetime is no less
  abbrev pub LongServes : Type 0 → Done → Type 0
  LongServes L (t, Ok taken) = L → Serves t
  LongServes L (t, Err why) = Serves t

  conn_a2_row : (s : Server) (n : ℕ) (count : Count) (a b : Cookie) (c d : ℕ) → Serves s
      → LongServes (least ≤ c) (on_conn_a2 s n count a b c d)
  conn_a2_row s n count a b c d h =
      by_test Answers (is_first count && ((n == 1) && not (lines.waits kinds.ConnC1 s.waiting)))
      (conn_a2_at s s.stage a b c d) (unexpected s) (λ e. by s.stage refl) (λ e. h)
    where
      Answers : Done → Type 0
      Answers x = LongServes (least ≤ c) x

      early : (place : Option ℕ) → out_place 1 s.outs ≡ place → (o : Option OutLeg)
          → out_at s.outs place ≡ o → (now : Stage) → is_begun s.stage ≡ false
          → had_out s.stage ≡ false → had_out now ≡ true → least ≤ c
          → Serves (record (first_out_at s b c d place o) { stage = now })
      early None is o at now e had now_out long = keeps.came_out (view s) now e had now_out h
      early (Some place) is None at now e had now_out long =
          keeps.came_out (view s) now e had now_out h
      early (Some place) is (Some leg) at now e had now_out long =
          keeps.first_out (view s) now place leg _ e had now_out at
          (number_found 1 s.outs place leg is at) refl refl long h

      here : (now : Stage) → is_begun s.stage ≡ false → had_out s.stage ≡ false
          → had_out now ≡ true → least ≤ c
          → Serves (record (with_first_out s b c d) { stage = now })
      here now e had now_out long =
          early (out_place 1 s.outs) refl (out_at s.outs (out_place 1 s.outs)) refl now e had
          now_out long

      by : (x : Stage) → s.stage ≡ x → Answers (conn_a2_at s x a b c d)
      by stage.Waits e =
          λ long. here (stage.OutCame a) (ap is_begun e) (ap had_out e) refl long
      by (stage.InCame known window timeout) e =
          by_test Answers (same_cookie known a)
          (took (opens (with_first_out s b c d) known window timeout)) _
          (λ f long. added_serves (record (with_first_out s b c d) { stage = stage.Open known })
          (named.ConnC1 1 window timeout) (refl, refl) refl
          (here (stage.Open known) (ap is_begun e) (ap had_out e) refl long))
          (λ f. h)
      by (stage.OutCame known) e = h
      by (stage.Open known) e = h
      by stage.Ended e = h

  a4_row : (s : Server) (n : ℕ) (count : Count) (a b c : Cookie) (d e f : ℕ) → Serves s
      → LongServes (least ≤ d) (on_out_r1_a4 s n count a b c d e f)
  a4_row s n count a b c d e f h =
      by_test Answers (may_answer s n count) (out_r1_a4_at s s.stage n a b c d e f)
      (unexpected s)
      (λ g. let both = and_parts (n == s.writing + 1) _ (and_parts (is_first count) _ g).1 in
      by_stage s.stage refl (same_number n (s.writing + 1) both.0)
      (and_parts (is_asked s.replacement) _ both.1).0)
      (λ g. h)
    where
      Answers : Done → Type 0
      Answers x = LongServes (least ≤ d) x

      answers : is_open s.stage ≡ true → is_asked s.replacement ≡ true
          → n ≡ s.writing + 1 → (place : Option ℕ)
          → out_place n s.outs ≡ place → (o : Option OutLeg) → out_at s.outs place ≡ o
          → Answers (answered_by s c d e f place o)
      answers begun how next (Some place) is (Some leg) at =
          λ long. keeps.answered (view s) c f place leg _ begun at
          (number_found n s.outs place leg is at ∙ next) refl refl long
          (asked_so s.replacement how) (asked_none s.replacement how) h
      answers begun how next (Some place) is None at = h
      answers begun how next None is o at = h

      by_writing : is_open s.stage ≡ true → is_asked s.replacement ≡ true
          → n ≡ s.writing + 1 → (known : Cookie)
          (o : Option Cookie) → Answers (out_r1_a4_by s n known a b c d e f o)
      by_writing begun how next known None = h
      by_writing begun how next known (Some writing) =
          by_test Answers (not (same_cookie known a)) (refuse s (refused.Cookie known a)) _
          (λ g. h)
          (λ g. by_test Answers (not (same_cookie writing b))
          (refuse s (refused.Cookie writing b)) (answered_on s n c d e f) (λ i. h)
          (λ i. answers begun how next (out_place n s.outs) refl
          (out_at s.outs (out_place n s.outs)) refl))

      by_stage : (at : Stage) → s.stage ≡ at → n ≡ s.writing + 1
          → is_asked s.replacement ≡ true → Answers (out_r1_a4_at s at n a b c d e f)
      by_stage (stage.Open known) at next how =
          by_writing (ap is_open at) how next known (out_cookie s.writing s.outs)
      by_stage stage.Waits at next how = h
      by_stage (stage.OutCame connection) at next how = h
      by_stage (stage.InCame connection in_window timeout) at next how = h
      by_stage stage.Ended at next how = h

  ack_row : (s : Server) (n : ℕ) (count : Count) (received window : ℕ) (cookie : Cookie)
      → Serves s → RowServes (on_ack s n count received window cookie)
  ack_row s n count received window cookie h =
      by_test RowServes (is_first count) (unexpected s) _ (λ e. h)
      (λ e. by (out_cookie n s.outs))
    where
      at : (place : ℕ) (o : Option OutLeg) → slice_get s.outs place ≡ o
          → RowServes (acked_at s place received window o)
      at place None is = h
      at place (Some leg) is =
          keeps.leg_set (view s) place leg (acked leg received window).0 is refl refl refl h

      found : (o : Option ℕ) → RowServes (acked_in s received window o)
      found None = h
      found (Some place) = at place (slice_get s.outs place) refl

      by : (o : Option Cookie) → RowServes (acked_cookie s n received window cookie o)
      by None = h
      by (Some known) =
          by_test RowServes (same_cookie known cookie)
          (acked_in s received window (out_place n s.outs)) _
          (λ f. found (out_place n s.outs)) (λ f. h)

  long_of : (L : Type 0) (x : Done) → RowServes x → LongServes L x
  long_of L (t, Ok taken) h = λ long. h
  long_of L (t, Err why) h = h

  os_row : (s : Server) (n : ℕ) (count : Count) (m : Named) → Serves s
      → LongServes (IsLong least m) (on_os s n count m)
  os_row s n count (named.ConnA2 v a b c d) h =
      conn_a2_row s n count a b c d h
  os_row s n count (named.OutR1A4 v a b c d e f) h = a4_row s n count a b c d e f h
  os_row s n count (named.Ack received window cookie) h =
      long_of (Unit {0}) (on_ack s n count received window cookie)
      (ack_row s n count received window cookie h)
  os_row s n count (named.PingTraffic bytes) h =
      long_of (Unit {0}) (on_ping_traffic s count)
      (by_test RowServes (is_first count) (unexpected s) (took s) (λ e. h) (λ e. h))
  os_row s n count m h = h

  pub packet_row : (s : Server) (n : ℕ) (count : Count) (m : Named) (k : LegKind) → Serves s
      → LongServes (IsLong least m) (packet_by s n count m k)
  packet_row s n count m InServer h =
      long_of (IsLong least m) (on_is s n count m) (is_row s n count m h)
  packet_row s n count m OutServer h = os_row s n count m h
  packet_row s n count m ClientIn h = h
  packet_row s n count m ClientOut h = h

  -- ---- what else happens

  pdu_same : (s : Server) (leg : Leg) (count : Count) (bytes : List ℕ)
      → view (pdu s leg count bytes).0 ≡ view s
  pdu_same s leg count bytes = search rules

  pub pdu_row : (s : Server) (leg : Leg) (count : Count) (bytes : List ℕ) → Serves s
      → Serves (pdu s leg count bytes).0
  pdu_row s leg count bytes h =
      same_serves s (pdu s leg count bytes).0 (pdu_same s leg count bytes) h

  give_same : (s : Server) (bytes : List ℕ) → view (give s bytes).0 ≡ view s
  give_same s bytes = search rules

  pub give_serves : (s : Server) (bytes : List ℕ) → Serves s → Serves (give s bytes).0
  give_serves s bytes h = same_serves s (give s bytes).0 (give_same s bytes) h

  pub up_serves : (s : Server) (leg : Leg) (cookie : Cookie) → Serves s
      → Serves (up s leg cookie)
  up_serves s leg cookie h =
      by_test Serves (may_up_by s leg.number leg.kind) (up_by s leg.number leg.kind) s
      (λ e. by leg.kind e) (λ e. h)
    where
      by : (k : LegKind) → may_up_by s leg.number k ≡ true → Serves (up_by s leg.number k)
      by InServer e = h
      by OutServer e =
          keeps.came_up (view s) (out_leg_up leg.number)
          (same_number leg.number (s.newest_out + 1)
          (and_parts (leg.number == s.newest_out + 1) (has_room s.outs) e).0) refl refl h
      by ClientIn e = h
      by ClientOut e = h

  pub drawn_serves : (s : Server) (n : ℕ) (k : LegKind) → Serves s → Serves (drawn_by s n k)
  drawn_serves s n InServer h =
      by_test Serves (in_is_drawn (in_leg n s.ins)) (settled (without_in s n)) s
      (λ e. settled_serves (without_in s n) h) (λ e. h)
  drawn_serves s n OutServer h = h
  drawn_serves s n ClientIn h = h
  drawn_serves s n ClientOut h = h

  lost_serves : (s : Server) (n : ℕ) (o : Option InLeg) → Serves s → Serves (lost_in s n o)
  lost_serves s n None h = h
  lost_serves s n (Some leg) h =
      by_test Serves _ (with_in s _) (without_in s n) (λ e. h) (λ e. h)

  gone_serves : (s : Server) (place : Option ℕ) → Serves s
      → Serves (record s {
        outs = removed_at s.outs place;
        waiting = without_ack_of s.waiting (cookie_by (out_at s.outs place));
      })
  gone_serves s None h = h
  gone_serves s (Some place) h = at (slice_get s.outs place) refl
    where
      Gone : Option Cookie → Type 0
      Gone cookie =
          Serves (record s {
            outs = remove s.outs place;
            waiting = without_ack_of s.waiting cookie;
          })

      bare : (o : Option OutLeg) → slice_get s.outs place ≡ o
          → IfSome o (λ (leg : OutLeg). leg.cookie ≡ None) → Gone None
      bare o is none =
          keeps.bare_gone (view s) place
          (subst (λ o. IfSome o (λ (leg : OutLeg). leg.cookie ≡ None)) (sym is) none) h

      of : (leg : OutLeg) → slice_get s.outs place ≡ Some leg → (cookie : Option Cookie)
          → leg.cookie ≡ cookie → Gone cookie
      of leg is None e = bare (Some leg) is e
      of leg is (Some cookie) e = keeps.leg_gone (view s) place leg cookie is e h

      at : (o : Option OutLeg) → slice_get s.outs place ≡ o → Gone (cookie_by o)
      at None is = bare None is tt
      at (Some leg) is = of leg is leg.cookie refl

  pub mark_serves : (s : Server) (n : ℕ) (k : LegKind) → Serves s → Serves (mark_by s n k)
  mark_serves s n InServer h =
      settled_serves (lost_in s n (in_leg n s.ins)) (lost_serves s n (in_leg n s.ins) h)
  mark_serves s n OutServer h =
      settled_serves (without_out (with_ack_dropped s n) n)
      (gone_serves s (out_place n s.outs) h)
  mark_serves s n ClientIn h = h
  mark_serves s n ClientOut h = h
