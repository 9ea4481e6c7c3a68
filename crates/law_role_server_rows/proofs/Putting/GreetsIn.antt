-- a server greets first on its is legs
use Rattle.law_order.proofs.Vocabulary.{◌≡◌, ℕ, zero, suc, ◌==◌, ◌&&◌, ◌||◌, ◌+◌, Bool, true, false, not, if◌then◌else◌, List, ◌++◌, [], ◌∷◌, Some, None, Ok, Err, refl, rules, sym, ap, ◌∙◌, subst, and_parts, append-nil, IfSome, slice_get, slice_set, Option}
use Rattle.rh_sig.specs.declared.named.Named.TheVariants as named
use Rattle.rh_shell.specs.declared.answers.Refused.TheVariants as refused
use Rattle.rh_server.specs.declared.state.Greeting.TheVariants as greeting
use Rattle.rh_server.specs.declared.state.Stage.TheVariants as stage
use Rattle.rh_server.specs.declared.state.InStage.TheVariants as in_stage
use Rattle.rh_server.specs.declared.state.Tells.TheVariants as tells
use Rattle.rh_server.specs.declared.state.Leaving.TheVariants as leaving
use Rattle.rh_server.specs.declared.state.EndMark.TheVariants as end_mark
use Rattle.rh_server.specs.declared.out_line.Kind.TheVariants as kinds
use Rattle.law_moves.proofs.Vocabulary.{Ack, by_test, same_number, Cookie, Named, after_tell, after_told, after_finish, after_take, Leg, LegKind, ClientOut, OutServer, ClientIn, InServer, Which, Current, Next, front_length, greeting as greeting_text, Count, Message, Text, Pdu, Packet, Waiting, taken, Due, OnLeg, EndMove, end_started, all_end_moved, of_leg}
use Rattle.law_moves.proofs.Lemmas.{leg_more, RowKeeps, PutKeeps, StepsKeep, ActsKeep, end_moves_keep}
use Rattle.law_role_server.proofs.Vocabulary.{Told, Shut, Greeting, Stage, InStage, Tells, Leaving, InLeg, OutLeg, Gate, lets, waits, length_of, Server, is_open, is_due, is_shut, is_fresh, is_waiting, stays, same_cookie, in_at, in_leg, in_place, out_place, set_at, removed_at, with_in, without_in, without_out, Done, took, refuse, unexpected, is_first, has_room, may_up_by, up_by, in_leg_up, opens, first_in, with_first_in, conn_b2_at, on_conn_b2, channel_at, opens_next}
use Rattle.law_role_server.proofs.Vocabulary.{opens_leg, first_waiting, waiting_place, next_opened, becomes_current, moved_if, announced, in_r1_a2_by, in_r1_a2_at, on_in_r1_a2, leaves_by, leaves, hands_over, on_in_r1_a6, in_r2_a2_on, on_in_r2_a2, recycle, give, settled, in_is_drawn, drawn_by, with_ack_dropped, lost_in, mark_by, end_a2_on_leg, end_a2_waiting, is_over_on, end_a2_at, on_end_a2, Pick, or_else, told_by, was_current, put_tells_by, put_tells, put_b1_by, put_b1}
use Rattle.law_role_server.proofs.Vocabulary.{put_ack_by, put_ack, ack_due, put_in_by, out_greeting_at, put_out_greeting, gate_at, counts, was_put, waiting_by, waiting_at, put_waiting, may_go_at, pdu_by, put_pdu, may_end_at, is_end_due, put_end, put_pdu_or_end, next_out, settled_pick, put_open, put_out_at, put_out, put_by, acts, first, on_is, on_os, packet_by, pdu, rules as server_rules}
use Rattle.law_role_server.proofs.Numbered.{once_at}
use Rattle.law_role_server_rows.proofs.Putting.Each.{number_found}
use Rattle.law_role_server_rows.proofs.Putting.Greets.{IsAs, IsSo, Greets, greets_start, greets_removed, greets_up, greets_frame, greets_text, greets_other, greets_let, greets_newer}
use Rattle.law_role_server_rows.proofs.Putting.GreetsOut.{is_when_due, is_when_put, greets_out}
use Rattle.law_role_server_rows.proofs.InTurn.InPlaces.{found_at, Found}
use Rattle.law_role_server_rows.proofs.InTurn.InKept.{number_of}
use Rattle.law_role_server_rows.specs.Putting.Copying.{leg_at}
use Rattle.law_role_server_rows.specs.Putting.Greeting.{is, IsFrame, MayGreet, GreetsFirst}

record Seen : Type 0 where
  ins : List InLeg
  newest : ℕ

abbrev seen : Server → Seen
seen s = record { ins = s.ins; newest = s.newest_in }

abbrev greets_of : InLeg → Greeting
greets_of leg = leg.greeting

-- ---- what leaves these alone

os_same : (s : Server) (n : ℕ) (count : Count) (m : Named) → seen (on_os s n count m).0 ≡ seen s
os_same s n count (named.ConnA2 v a b c d) = search rules
os_same s n count (named.OutR1A4 v a b c d e f) = search rules
os_same s n count (named.Ack a b c) = search rules
os_same s n count (named.PingTraffic a) = search rules
os_same s n count m = refl

ack_to_same : (s : Server) (n : ℕ) (count : Count) (a b c : ℕ) (d : Cookie)
    → seen (on_is s n count (named.AckTo a b c d)).0 ≡ seen s
ack_to_same s n count a b c d = search rules

a8_same : (s : Server) (n : ℕ) (count : Count) (a : ℕ) (b : Cookie)
    → seen (on_is s n count (named.OutR1A8 a b)).0 ≡ seen s
a8_same s n count a b = search rules

pdu_same : (s : Server) (leg : Leg) (count : Count) (bytes : List ℕ)
    → seen (pdu s leg count bytes).0 ≡ seen s
pdu_same s leg count bytes = search rules

settled_same : (s : Server) → seen (settled s) ≡ seen s
settled_same s = search rules

give_same : (s : Server) (bytes : List ℕ) → seen (give s bytes).0 ≡ seen s
give_same s bytes = search rules

recycle_same : (s : Server) → seen (recycle s).0 ≡ seen s
recycle_same s = search rules

-- what is put on an os leg
abbrev Alone : Server → Pick → Type 0
Alone s pick = IfSome pick (λ (one : Server × Message). seen one.0 ≡ seen s)

or_alone : (s : Server) (a b : Pick) → Alone s a → Alone s b → Alone s (or_else a b)
or_alone s None b h k = k
or_alone s (Some pick) b h k = h

counts_same : (s : Server) (place len : ℕ) → seen (counts s place len) ≡ seen s
counts_same s place len = search rules

was_put_same : (s : Server) (place : ℕ) (packet : Named)
    → seen (was_put s place packet) ≡ seen s
was_put_same s place named.OutR1A9 = counts_same s place 24
was_put_same s place (named.AckTo to received window cookie) =
    by_test (λ (t : Server). seen t ≡ seen s) (to == 3) s (counts s place 56) (λ e. refl)
    (λ e. counts_same s place 56)
was_put_same s place packet = counts_same s place (length_of packet)

settled_alone : (s : Server) (pick : Pick) → Alone s pick → Alone s (settled_pick pick)
settled_alone s None h = tt
settled_alone s (Some pick) h = settled_same pick.0 ∙ h

out_same : (s : Server) (n : ℕ) → Alone s (put_out s n)
out_same s n = at (out_place n s.outs)
  where
    greets : (place : ℕ) (o : Option OutLeg) → Alone s (out_greeting_at s place o)
    greets place None = tt
    greets place (Some leg) =
        by_test (Alone s) (is_due leg.greeting) _ None (λ e. refl) (λ e. tt)

    goes_out : (place : ℕ) (w : Waiting) (o : Option Due) → Alone s (waiting_by s place (w, o))
    goes_out place w None = tt
    goes_out place w (Some due) = was_put_same (record s { waiting = w }) place due.packet

    waiting : (place : ℕ) (o : Option Gate) → Alone s (waiting_at s place o)
    waiting place None = tt
    waiting place (Some gate) =
        goes_out place (taken (lets gate) s.waiting).0 (taken (lets gate) s.waiting).1

    sends : (place : ℕ) (len : Option ℕ) → Alone s (pdu_by s place len)
    sends place None = tt
    sends place (Some len) =
        by_test (Alone s) (may_go_at s len (slice_get s.outs place)) _ None (λ e. refl) (λ e. tt)

    ends : (place : ℕ) → Alone s (put_end s place)
    ends place =
        by_test (Alone s) (is_end_due s && may_end_at s (slice_get s.outs place))
        (Some (record (counts s place 24) { end_mark = end_mark.Put }, Packet named.EndB1)) None
        (λ e. counts_same s place 24) (λ e. tt)

    at : (place : Option ℕ) → Alone s (put_out_at s place)
    at None = tt
    at (Some place) =
        or_alone s (put_out_greeting s place) (put_open s place)
        (greets place (slice_get s.outs place))
        (by_test (Alone s) (is_open s.stage) (settled_pick (next_out s place)) None
        (λ e. settled_alone s (next_out s place)
        (or_alone s (put_waiting s place) (put_pdu_or_end s place)
        (waiting place (gate_at s (slice_get s.outs place)))
        (or_alone s (put_pdu s place) (put_end s place) (sends place (front_length s.queue))
        (ends place)))) (λ e. tt))

-- ---- a leg that is kept

set_none : (legs : List InLeg) (i : ℕ) (y : InLeg) → slice_get legs i ≡ None
    → slice_set legs i y ≡ legs
set_none [] i y e = refl
set_none (x ∷ legs) zero y e = absurd cc
set_none (x ∷ legs) (suc i) y e = ap (λ (l : List InLeg). x ∷ l) (set_none legs i y e)

module _ (n : ℕ) where
  abbrev Of : Seen → List Message → Type 0
  Of x log = Greets number_of greets_of n x.newest x.ins log

  abbrev Keeps : Server → Server → Type 0
  Keeps s t = (log : List Message) → Of (seen s) log → Of (seen t) log

  same_keeps : (s t : Server) → seen t ≡ seen s → Keeps s t
  same_keeps s t same log h = subst (λ (x : Seen). Of x log) (sym same) h

  -- a leg that is kept changes, but for its number and whether it was greeted
  leg_keeps : (s : Server) (leg y : InLeg) → Found s.ins leg → y.number ≡ leg.number
      → y.greeting ≡ leg.greeting → Keeps s (with_in s y)
  leg_keeps s leg y f same alike log h =
      by (in_place y.number s.ins) (number_found y.number s.ins (in_place y.number s.ins) refl)
    where
      by : (place : Option ℕ) → IfSome (in_at s.ins place) (λ (x : InLeg). x.number ≡ y.number)
          → Greets number_of greets_of n s.newest_in (set_at s.ins y place) log
      by None is = h
      by (Some place) is = at_place (slice_get s.ins place) refl is
        where
          at_place : (o : Option InLeg) → slice_get s.ins place ≡ o
              → IfSome o (λ (x : InLeg). x.number ≡ y.number)
              → Greets number_of greets_of n s.newest_in (slice_set s.ins place y) log
          at_place None at is =
              subst (λ (l : List InLeg). Greets number_of greets_of n s.newest_in l log)
              (sym (set_none s.ins place y at)) h
          at_place (Some x) at is =
              greets_let number_of greets_of n s.newest_in s.ins place x y log at (sym is)
              (λ e. subst (λ (g : Greeting). IsAs log g) (sym alike)
              (once_at number_of n (IsSo number_of greets_of n log) s.ins f.place leg f.at
              (ap (λ (k : ℕ). k == n) (sym (is ∙ same)) ∙ e) h.legs)) h

  gone_keeps : (s : Server) (m : ℕ) → Keeps s (without_in s m)
  gone_keeps s m log h = by (in_place m s.ins)
    where
      by : (place : Option ℕ)
          → Greets number_of greets_of n s.newest_in (removed_at s.ins place) log
      by None = h
      by (Some place) = greets_removed number_of greets_of n s.newest_in s.ins place log h

  -- ---- channels

  opens_keeps : (s : Server) (leg : InLeg) (x : InStage) → Found s.ins leg
      → Keeps s (opens_next s leg x)
  opens_keeps s leg in_stage.Fresh f = λ log h. h
  opens_keeps s leg in_stage.Opened f = λ log h. h
  opens_keeps s leg (in_stage.Waits window timeout ended) f =
      leg_keeps s leg (record leg { stage = in_stage.Opened; tells = tells.InR1B2 }) f refl refl

  next_keeps : (s : Server) → Keeps s (next_opened s)
  next_keeps s =
      by_test (Keeps s) (s.line.has_next || waits kinds.InR1A3 s.waiting) s
      (opens_leg s (first_waiting s.ins)) (λ e log h. h)
      (λ e. by (first_waiting s.ins) (found_at s.ins (waiting_place s.ins)))
    where
      by : (o : Option InLeg) → IfSome o (Found s.ins) → Keeps s (opens_leg s o)
      by None f = λ log h. h
      by (Some leg) f = opens_keeps s leg leg.stage f

  moved_keeps : (had_next : Bool) (s : Server) → Keeps s (moved_if had_next s)
  moved_keeps had_next s =
      by_test (Keeps s) (had_next && not s.line.has_next) (becomes_current s) s
      (λ e. next_keeps (record s { current = s.next; edge = Shut })) (λ e log h. h)

  -- ---- rows

  abbrev RowAlone : Server → Done → Type 0
  RowAlone s x = Keeps s x.0

  first_keeps : (s : Server) (cookie : Cookie) → Keeps s (with_first_in s cookie)
  first_keeps s cookie = by (in_leg 1 s.ins) (found_at s.ins (in_place 1 s.ins))
    where
      by : (o : Option InLeg) → IfSome o (Found s.ins) → Keeps s (first_in s cookie o)
      by None f = λ log h. h
      by (Some leg) f =
          leg_keeps s leg
          (record leg { cookie = cookie; stage = in_stage.Opened; tells = tells.ConnB3 }) f refl
          refl

  conn_b2_keeps : (s : Server) (m : ℕ) (count : Count) (a b : Cookie) (c d : ℕ)
      → RowAlone s (on_conn_b2 s m count a b c d)
  conn_b2_keeps s m count a b c d =
      by_test (RowAlone s) _ (conn_b2_at s s.stage a b c d) (unexpected s) (λ e. by s.stage)
      (λ e log h. h)
    where
      by : (x : Stage) → RowAlone s (conn_b2_at s x a b c d)
      by stage.Waits = first_keeps s b
      by (stage.OutCame known) =
          by_test (RowAlone s) (same_cookie known a)
          (took (opens (with_first_in s b) known c d)) _ (λ e. first_keeps s b) (λ e log h. h)
      by (stage.InCame known in_window timeout) = λ log h. h
      by (stage.Open known) = λ log h. h
      by stage.Ended = λ log h. h

  in_r1_a2_keeps : (s : Server) (m : ℕ) (count : Count) (a b c : Cookie) (d e : ℕ)
      → RowAlone s (on_in_r1_a2 s m count a b c d e)
  in_r1_a2_keeps s m count a b c d e =
      by_test (RowAlone s) _ (in_r1_a2_at s s.stage m a b c d e) (unexpected s)
      (λ t. by_stage s.stage) (λ t log h. h)
    where
      announces : (leg : InLeg) → Found s.ins leg → Keeps s (announced s leg c d e)
      announces leg f log h =
          let y = record leg { cookie = c; stage = in_stage.Waits d e false } in
          let told = record s { newest = record { leg = leg.number; cookie = c } } in
          next_keeps (with_in told y) log (leg_keeps s leg y f refl refl log h)

      on_leg : (known : Cookie) (o : Option InLeg) → IfSome o (Found s.ins)
          → RowAlone s (in_r1_a2_by s known a b c d e o)
      on_leg known None f = λ log h. h
      on_leg known (Some leg) f =
          by_test (RowAlone s) (not (is_fresh leg.stage)) _ _ (λ t log h. h)
          (λ t. by_test (RowAlone s) (not (same_cookie known a)) _ _ (λ u log h. h)
          (λ u. by_test (RowAlone s) (not (same_cookie s.newest.cookie b)) _
          (took (announced s leg c d e)) (λ v log h. h) (λ v. announces leg f)))

      by_stage : (x : Stage) → RowAlone s (in_r1_a2_at s x m a b c d e)
      by_stage (stage.Open known) =
          on_leg known (in_leg m s.ins) (found_at s.ins (in_place m s.ins))
      by_stage stage.Waits = λ log h. h
      by_stage (stage.OutCame known) = λ log h. h
      by_stage (stage.InCame known in_window timeout) = λ log h. h
      by_stage stage.Ended = λ log h. h

  in_r1_a6_keeps : (s : Server) (m : ℕ) (successor : Cookie)
      → RowAlone s (on_in_r1_a6 s m successor)
  in_r1_a6_keeps s m successor =
      by_test (RowAlone s)
      ((m == s.current.leg) && (not s.line.finished
      && (s.line.has_next && not (waits kinds.InR1A3 s.waiting))))
      (if same_cookie s.next.cookie successor then took (hands_over s m)
      else refuse s (refused.Cookie s.next.cookie successor)) (unexpected s)
      (λ e. by_test (RowAlone s) (same_cookie s.next.cookie successor) (took (hands_over s m))
      (refuse s (refused.Cookie s.next.cookie successor))
      (λ f log h. moved_keeps true (record (leaves s m) { line = after_finish s.line }) log
      (by (in_leg m s.ins) (found_at s.ins (in_place m s.ins)) log h)) (λ f log h. h))
      (λ e log h. h)
    where
      by : (o : Option InLeg) → IfSome o (Found s.ins) → Keeps s (leaves_by s o)
      by None f = λ log h. h
      by (Some leg) f = leg_keeps s leg (record leg { leaving = leaving.InR1B1 }) f refl refl

  in_r2_a2_keeps : (s : Server) (m : ℕ) (count : Count) (successor : Cookie)
      → RowAlone s (on_in_r2_a2 s m count successor)
  in_r2_a2_keeps s m count successor =
      by_test (RowAlone s) _ (in_r2_a2_on s m successor (channel_at s m)) (unexpected s)
      (λ e. by (channel_at s m)) (λ e log h. h)
    where
      by : (which : Option Which) → RowAlone s (in_r2_a2_on s m successor which)
      by None = λ log h. h
      by (Some Current) = λ log. greets_newer number_of greets_of n s.newest_in s.ins log
      by (Some Next) = λ log. greets_newer number_of greets_of n s.newest_in s.ins log

  end_a2_keeps : (s : Server) (m : ℕ) (count : Count) → RowAlone s (on_end_a2 s m count)
  end_a2_keeps s m count =
      by_test (RowAlone s) (is_first count) (unexpected s) (end_a2_at s m (channel_at s m))
      (λ e log h. h) (λ e. on_channel (channel_at s m))
    where
      staged_by : (leg : InLeg) (x : InStage) → Found s.ins leg
          → RowAlone s (end_a2_on_leg s leg x)
      staged_by leg in_stage.Fresh f = λ log h. h
      staged_by leg in_stage.Opened f = λ log h. h
      staged_by leg (in_stage.Waits window timeout ended) f =
          by_test (RowAlone s) ended (unexpected s) _ (λ e log h. h)
          (λ e. leg_keeps s leg (record leg { stage = in_stage.Waits window timeout true }) f refl
          refl)

      on_leg : (o : Option InLeg) → IfSome o (Found s.ins) → RowAlone s (end_a2_waiting s o)
      on_leg None f = λ log h. h
      on_leg (Some leg) f = staged_by leg leg.stage f

      on_channel : (which : Option Which) → RowAlone s (end_a2_at s m which)
      on_channel None = on_leg (in_leg m s.ins) (found_at s.ins (in_place m s.ins))
      on_channel (Some which) =
          by_test (RowAlone s) (is_over_on s which) (unexpected s) _ (λ e log h. h)
          (λ e log h. h)

  is_keeps : (s : Server) (m : ℕ) (count : Count) (packet : Named)
      → RowAlone s (on_is s m count packet)
  is_keeps s m count (named.ConnB2 v a b c d e f g) = conn_b2_keeps s m count a b c d
  is_keeps s m count (named.InR1A2 v a b c d e) = in_r1_a2_keeps s m count a b c d e
  is_keeps s m count (named.InR1A6 a) = in_r1_a6_keeps s m a
  is_keeps s m count (named.InR2A2 a) = in_r2_a2_keeps s m count a
  is_keeps s m count (named.AckTo a b c d) =
      same_keeps s (on_is s m count (named.AckTo a b c d)).0 (ack_to_same s m count a b c d)
  is_keeps s m count (named.OutR1A8 a b) =
      same_keeps s (on_is s m count (named.OutR1A8 a b)).0 (a8_same s m count a b)
  is_keeps s m count named.EndA2 = end_a2_keeps s m count
  is_keeps s m count packet = λ log h. h

  packet_keeps : (s : Server) (m : ℕ) (count : Count) (packet : Named) (k : LegKind)
      → RowAlone s (packet_by s m count packet k)
  packet_keeps s m count packet InServer = is_keeps s m count packet
  packet_keeps s m count packet OutServer =
      same_keeps s (on_os s m count packet).0 (os_same s m count packet)
  packet_keeps s m count packet ClientIn = λ log h. h
  packet_keeps s m count packet ClientOut = λ log h. h

  -- ---- legs come up, are drawn, and lost

  up_keeps : (s : Server) (m : ℕ) (k : LegKind) → may_up_by s m k ≡ true → Keeps s (up_by s m k)
  up_keeps s m InServer e log h =
      greets_up number_of greets_of n s.newest_in s.ins (in_leg_up m) log
      (same_number m (s.newest_in + 1) (and_parts (m == s.newest_in + 1) (has_room s.ins) e).0)
      refl h
  up_keeps s m OutServer e log h = h
  up_keeps s m ClientIn e log h = h
  up_keeps s m ClientOut e log h = h

  settled_keeps : (s t : Server) → Keeps s t → Keeps s (settled t)
  settled_keeps s t keeps log h = same_keeps t (settled t) (settled_same t) log (keeps log h)

  drawn_keeps : (s : Server) (m : ℕ) (k : LegKind) → Keeps s (drawn_by s m k)
  drawn_keeps s m InServer =
      by_test (Keeps s) (in_is_drawn (in_leg m s.ins)) (settled (without_in s m)) s
      (λ e. settled_keeps s (without_in s m) (gone_keeps s m)) (λ e log h. h)
  drawn_keeps s m OutServer = λ log h. h
  drawn_keeps s m ClientIn = λ log h. h
  drawn_keeps s m ClientOut = λ log h. h

  lost_keeps : (s : Server) (m : ℕ) (o : Option InLeg) → IfSome o (Found s.ins)
      → Keeps s (lost_in s m o)
  lost_keeps s m None f = gone_keeps s m
  lost_keeps s m (Some leg) f =
      by_test (Keeps s) (is_waiting leg.stage && stays leg.leaving)
      (with_in s (record leg { leaving = leaving.Lost })) (without_in s m)
      (λ e. leg_keeps s leg (record leg { leaving = leaving.Lost }) f refl refl)
      (λ e. gone_keeps s m)

  mark_keeps : (s : Server) (m : ℕ) (k : LegKind) → Keeps s (mark_by s m k)
  mark_keeps s m InServer =
      settled_keeps s (lost_in s m (in_leg m s.ins))
      (lost_keeps s m (in_leg m s.ins) (found_at s.ins (in_place m s.ins)))
  mark_keeps s m OutServer =
      settled_keeps s (without_out (with_ack_dropped s m) m) (λ log h. h)
  mark_keeps s m ClientIn = λ log h. h
  mark_keeps s m ClientOut = λ log h. h

  -- ---- what is put

  abbrev Holds : Server → List OnLeg → List OnLeg → Type 0
  Holds s came put = Of (seen s) (of_leg (is n) put)

  row_holds : (s : Server) (one : OnLeg) (came put : List OnLeg) (x : Done) → RowAlone s x
      → Holds s came put → RowKeeps Holds one came put x
  row_holds s one came put (t, Ok taken) keeps h = keeps (of_leg (is n) put) h
  row_holds s one came put (t, Err why) keeps h = keeps (of_leg (is n) put) h

  log_more : (m : ℕ) (put : List OnLeg) (one : Message) (t : Server)
      → (m ≡ n → Of (seen t) (of_leg (is n) put ++ one ∷ []))
      → ((m == n) ≡ false → Of (seen t) (of_leg (is n) put))
      → Of (seen t) (of_leg (is n) (put ++ (is m, one) ∷ []))
  log_more m put one t here other =
      subst (λ (ms : List Message). Of (seen t) ms) (sym (leg_more (is n) put (is m, one)))
      (by_test (λ (ms : List Message). Of (seen t) (of_leg (is n) put ++ ms)) (m == n)
      (one ∷ []) [] (λ e. here (same_number m n e))
      (λ e. subst (λ (ms : List Message). Of (seen t) ms)
      (sym (append-nil (of_leg (is n) put))) (other e)))

  module _ (m : ℕ) (came put : List OnLeg) where
    abbrev InPuts : Pick → Type 0
    InPuts pick = PutKeeps Holds (is m) came put pick

    or_put : (a b : Pick) → InPuts a → InPuts b → InPuts (or_else a b)
    or_put None b h k = k
    or_put (Some pick) b h k = h

    -- a frame is put on a leg that was greeted
    module _ (s : Server) (place : ℕ) (x : InLeg) (at : slice_get s.ins place ≡ Some x)
        (same : x.number ≡ m) (greeted : x.greeting ≡ greeting.Put) (h : Holds s came put) where
      frame_put : (t : Server) (one : Message) → Keeps s t → IsFrame one
          → Of (seen t) (of_leg (is n) (put ++ (is m, one) ∷ []))
      frame_put t one keeps frame =
          log_more m put one t
          (λ e. keeps (of_leg (is n) put ++ one ∷ [])
          (greets_frame number_of greets_of n s.newest_in s.ins place x (of_leg (is n) put) one
          at (same ∙ e) greeted frame h))
          (λ e. keeps (of_leg (is n) put) h)

      found : Found s.ins x
      found = record { place = place; at = at }

      tells_put : (t : Tells) → InPuts (put_tells_by s x t)
      tells_put tells.Nothing = tt
      tells_put tells.ConnB3 =
          let y : InLeg = record x { tells = tells.Nothing } in
          by_test InPuts (is_open s.stage)
          (Some (with_in s y, Packet (named.ConnB3 s.line.size 1))) None
          (λ e. frame_put (with_in s y) (Packet (named.ConnB3 s.line.size 1))
          (leg_keeps s x y found refl refl) tt)
          (λ e. tt)
      tells_put tells.InR1B2 =
          let y : InLeg = record x { tells = tells.Nothing } in
          by_test InPuts (was_current s x)
          (Some (with_in (told_by s x.number) y, Packet (named.InR1B2 s.line.size))) None
          (λ e. frame_put (with_in (told_by s x.number) y) (Packet (named.InR1B2 s.line.size))
          (by_test (λ (u : Server). Keeps s (with_in u y))
          ((x.number == s.current.leg) && is_shut s.edge)
          (record s { line = after_tell s.line Current; edge = Told }) s
          (λ f. leg_keeps s x y found refl refl) (λ f. leg_keeps s x y found refl refl)) tt)
          (λ e. tt)

      b1_put : (l : Leaving) → InPuts (put_b1_by s x l)
      b1_put leaving.Stays = tt
      b1_put leaving.InR1B1 =
          frame_put (with_in s (record x { leaving = leaving.Left })) (Packet named.InR1B1)
          (leg_keeps s x (record x { leaving = leaving.Left }) found refl refl) tt
      b1_put leaving.Left = tt
      b1_put leaving.Lost = tt

      ack_put : (a : Option Ack) → InPuts (put_ack_by s a)
      ack_put None = tt
      ack_put (Some a) =
          frame_put (record s { line = after_told s.line Current a })
          (Packet (named.Ack a.received a.available s.current.cookie)) (λ log k. k) tt

      frames_put : InPuts (or_else (put_tells s x) (or_else (put_b1 s x) (put_ack s x)))
      frames_put =
          or_put (put_tells s x) (or_else (put_b1 s x) (put_ack s x)) (tells_put x.tells)
          (or_put (put_b1 s x) (put_ack s x) (b1_put x.leaving) (ack_put (ack_due s x)))

    in_puts : (s : Server) (place : Option ℕ) → in_place m s.ins ≡ place → Holds s came put
        → IfSome (in_at s.ins place) (λ (x : InLeg). x.number ≡ m)
        → InPuts (put_in_by s (in_at s.ins place))
    in_puts s None placed h same = tt
    in_puts s (Some place) placed h same = by (slice_get s.ins place) refl same
      where
        by : (o : Option InLeg) → slice_get s.ins place ≡ o
            → IfSome o (λ (x : InLeg). x.number ≡ m) → InPuts (put_in_by s o)
        by None at same = tt
        by (Some x) at same =
            let y : InLeg = record x { greeting = greeting.Put } in
            by_test (λ (pick : Pick). InPuts (or_else pick
            (or_else (put_tells s x) (or_else (put_b1 s x) (put_ack s x)))))
            (is_due x.greeting) (Some (with_in s y, Text greeting_text)) None
            (λ e. subst (λ (p : Option ℕ). Greets number_of greets_of n s.newest_in
            (set_at s.ins y p) (of_leg (is n) (put ++ (is m, Text greeting_text) ∷ [])))
            (sym (ap (λ (k : ℕ). in_place k s.ins) same ∙ placed))
            (log_more m put (Text greeting_text) (record s { ins = slice_set s.ins place y })
            (λ f. greets_text number_of greets_of n s.newest_in s.ins place x y
            (of_leg (is n) put) at (same ∙ f) refl (is_when_due x.greeting e) refl h)
            (λ f. greets_other number_of greets_of n s.newest_in s.ins place x y
            (of_leg (is n) put) at refl (ap (λ (k : ℕ). k == n) same ∙ f) h)))
            (λ e. frames_put s place x at same (is_when_put x.greeting e) h)

    out_puts : (s : Server) (pick : Pick)
        → IfSome pick (λ (one : Server × Message). seen one.0 ≡ seen s) → Holds s came put
        → PutKeeps Holds (leg_at OutServer m) came put pick
    out_puts s None same h = tt
    out_puts s (Some one) same h =
        subst (λ (ms : List Message). Of (seen one.0) ms)
        (sym (leg_more (is n) put (leg_at OutServer m, one.1) ∙ append-nil (of_leg (is n) put)))
        (same_keeps s one.0 same (of_leg (is n) put) h)

    puts : (s : Server) (k : LegKind) → Holds s came put
        → PutKeeps Holds (leg_at k m) came put (put_by s m k)
    puts s InServer h =
        in_puts s (in_place m s.ins) refl h (number_found m s.ins (in_place m s.ins) refl)
    puts s OutServer h = out_puts s (put_out s m) (out_same s m) h
    puts s ClientIn h = tt
    puts s ClientOut h = tt

  -- ---- the role

  steps : StepsKeep server_rules Holds
  steps = record {
    up = λ s leg cookie came put h.
        by_test (λ (t : Server). Holds t came put) (may_up_by s leg.number leg.kind)
        (up_by s leg.number leg.kind) s
        (λ e. up_keeps s leg.number leg.kind e (of_leg (is n) put) h) (λ e. h);
    head = λ s leg text came put h. h;
    pdu = λ s leg count bytes came put.
        row_holds s (leg, Pdu bytes) came put (pdu s leg count bytes)
        (same_keeps s (pdu s leg count bytes).0 (pdu_same s leg count bytes));
    packet = λ s leg count m came put.
        row_holds s (leg, Packet m) came put (packet_by s leg.number count m leg.kind)
        (packet_keeps s leg.number count m leg.kind);
    put = λ s leg came put. puts leg.number came put s leg.kind;
    drawn = λ s leg came put. drawn_keeps s leg.number leg.kind (of_leg (is n) put);
    mark = λ s leg came put. mark_keeps s leg.number leg.kind (of_leg (is n) put);
    ping = λ s leg came put h. h;
  }

  calls : ActsKeep acts Holds
  calls = record {
    give = λ s bytes came put.
        same_keeps s (give s bytes).0 (give_same s bytes) (of_leg (is n) put);
    take = λ s came put.
        moved_keeps s.line.has_next (record s { line = after_take s.line }) (of_leg (is n) put);
    close = λ s came put h. h;
    recycle = λ s came put. same_keeps s (recycle s).0 (recycle_same s) (of_leg (is n) put);
  }

  greets_in : (window : ℕ) (moves : List EndMove)
      → MayGreet (of_leg (is n)
      (all_end_moved server_rules acts (end_started (first window)) moves).passage.put)
  greets_in window moves =
      (end_moves_keep server_rules Holds steps acts calls (end_started (first window))
      moves (greets_start number_of greets_of n)).may

pub greets_first : (window : ℕ) (moves : List EndMove)
    → GreetsFirst (all_end_moved server_rules acts (end_started (first window)) moves).passage
greets_first window moves = record {
  out_proxies = greets_out window moves;
  in_proxies = λ n. greets_in n window moves;
}
