-- the newest IN number that a server gave, by its is legs that came up and what came
use Rattle.law_order.proofs.Vocabulary.{◌≡◌, ℕ, ◌+◌, ◌≤◌, ◌==◌, ◌&&◌, Bool, true, not, if◌then◌else◌, List, [], ◌∷◌, ◌++◌, Some, None, Ok, Err, arith, refl, rules, ap, ◌∙◌, and_parts, IfSome, slice_get, Option, Result}
use Rattle.rh_sig.specs.declared.named.Named.TheVariants as named
use Rattle.rh_server.specs.Servers.{pdu_by}
use Rattle.rh_server.specs.declared.state.Leaving.TheVariants as leaving
use Rattle.rh_server.specs.declared.state.Tells.TheVariants as tells
use Rattle.law_moves.proofs.Vocabulary.{Ack, by_test, same_number, Cookie, Named, after_tell, Leg, LegKind, ClientOut, OutServer, ClientIn, InServer, Which, Current, Next, Count, GiveRefused, Message, Pdu, Packet, Row, is_of, count_of, of_kind, OnLeg, Up, HeadCame, PduCame, PacketCame, Puts, IsDrawn, Marks, Pings, Passage, EndMove, Moves, Gives, Takes, Closes, Recycles, EndPassage, taken_by, put_by, end_moved, end_now_at, end_started, given_by, with_first, all_end_moved}
use Rattle.law_moves.proofs.Lemmas.{RowKeeps, count_append, kind_more}
use Rattle.law_role_server.proofs.Vocabulary.{Told, InLeg, Leaving, OutLeg, Stage, Tells, Server, is_due, is_open, is_shut, is_waiting, stays, in_leg, out_place, with_in, without_in, without_out, Done, unexpected, is_first, has_room, may_up_by, up, up_by, on_conn_a2, on_conn_b2, channel_at, has_fresh_below, in_r1_a2_at, in_r2_a2_on, on_in_r1_a2, on_in_r1_a6, on_in_r2_a2, take, recycle, drawn_by, give, in_is_drawn, lost_in, mark_by, on_end_a2, settled, with_ack_dropped, Pick}
use Rattle.law_role_server.proofs.Vocabulary.{or_else, put_in_greeting, told_by, was_current, put_tells_by, put_tells, put_b1_by, put_b1, ack_due, put_ack_by, put_ack, put_in_by, out_greeting_at, put_out_greeting, next_out, settled_pick, put_open, put_out_at, put_by as put_by_kind, acts, first, on_is, on_os, packet_by, rules as server_rules, is_in_r2_a2, leg_at, often}
use Rattle.law_role_server_in.proofs.Kept.{Look, look}
use Rattle.law_role_server_in.proofs.Puts.{Alone, out_alone, settled_same}
use Rattle.law_role_server_in.proofs.Takes.{ack_to_same, pdu_same}
use Rattle.law_role_server_in.specs.Refusing.{in_ups}

abbrev Same : Server → Server → Type 0
Same s t = t.newest_in ≡ s.newest_in

by_look : (s t : Server) → look t ≡ look s → Same s t
by_look s t same = ap (λ (l : Look). l.newest) same

-- ---- rows

conn_b2_same : (s : Server) (m : ℕ) (count : Count) (a b : Cookie) (c d : ℕ)
    → Same s (on_conn_b2 s m count a b c d).0
conn_b2_same s m count a b c d = search rules

in_r1_a2_stage : (s : Server) (m : ℕ) (x : Stage) (a b c : Cookie) (d e : ℕ)
    → Same s (in_r1_a2_at s x m a b c d e).0
in_r1_a2_stage s m x a b c d e = search rules

in_r1_a2_same : (s : Server) (m : ℕ) (count : Count) (a b c : Cookie) (d e : ℕ)
    → Same s (on_in_r1_a2 s m count a b c d e).0
in_r1_a2_same s m count a b c d e =
    by_test (λ (x : Done). Same s x.0) (is_first count && not (has_fresh_below m s.ins))
    (in_r1_a2_at s s.stage m a b c d e) (unexpected s)
    (λ t. in_r1_a2_stage s m s.stage a b c d e) (λ t. refl)

in_r1_a6_same : (s : Server) (m : ℕ) (a : Cookie) → Same s (on_in_r1_a6 s m a).0
in_r1_a6_same s m a = search rules

end_a2_same : (s : Server) (m : ℕ) (count : Count) → Same s (on_end_a2 s m count).0
end_a2_same s m count = search rules

conn_a2_same : (s : Server) (m : ℕ) (count : Count) (a b : Cookie) (c d : ℕ)
    → Same s (on_conn_a2 s m count a b c d).0
conn_a2_same s m count a b c d = search rules

-- ---- what is put

abbrev PickSame : Server → Pick → Type 0
PickSame s pick = IfSome pick (λ (one : Server × Message). Same s one.0)

or_same : (s : Server) (a b : Pick) → PickSame s a → PickSame s b → PickSame s (or_else a b)
or_same s None b p q = q
or_same s (Some pick) b p q = p

told_same : (s : Server) (m : ℕ) → Same s (told_by s m)
told_same s m =
    by_test (Same s) ((m == s.current.leg) && is_shut s.edge)
    (record s { line = after_tell s.line Current; edge = Told }) s (λ e. refl) (λ e. refl)

in_same : (s : Server) (o : Option InLeg) → PickSame s (put_in_by s o)
in_same s None = tt
in_same s (Some leg) =
    or_same s (put_in_greeting s leg) _
    (by_test (PickSame s) (is_due leg.greeting) _ None (λ e. refl) (λ e. tt))
    (or_same s (put_tells s leg) _ (tells_same leg.tells)
    (or_same s (put_b1 s leg) (put_ack s leg) (leaves leg.leaving) (ack (ack_due s leg))))
  where
    tells_same : (t : Tells) → PickSame s (put_tells_by s leg t)
    tells_same tells.Nothing = tt
    tells_same tells.ConnB3 = by_test (PickSame s) (is_open s.stage) _ None (λ e. refl) (λ e. tt)
    tells_same tells.InR1B2 =
        by_test (PickSame s) (was_current s leg) _ None (λ e. told_same s leg.number) (λ e. tt)

    leaves : (x : Leaving) → PickSame s (put_b1_by s leg x)
    leaves leaving.Stays = tt
    leaves leaving.InR1B1 = refl
    leaves leaving.Left = tt
    leaves leaving.Lost = tt

    ack : (o : Option Ack) → PickSame s (put_ack_by s o)
    ack None = tt
    ack (Some a) = refl

out_same : (s : Server) (place : Option ℕ) → PickSame s (put_out_at s place)
out_same s None = tt
out_same s (Some place) =
    or_same s (put_out_greeting s place) (put_open s place) (greets (slice_get s.outs place))
    (by_test (PickSame s) (is_open s.stage) (settled_pick (next_out s place)) None
    (λ e. alone (next_out s place) (out_alone s place)) (λ e. tt))
  where
    greets : (o : Option OutLeg) → PickSame s (out_greeting_at s place o)
    greets None = tt
    greets (Some leg) = by_test (PickSame s) (is_due leg.greeting) _ None (λ e. refl) (λ e. tt)

    alone : (pick : Pick) → Alone s pick → PickSame s (settled_pick pick)
    alone None same = tt
    alone (Some one) same =
        by_look s (settled one.0) (settled_same one.0 ∙ same)

put_same : (s : Server) (m : ℕ) (k : LegKind) → PickSame s (put_by_kind s m k)
put_same s m InServer = in_same s (in_leg m s.ins)
put_same s m OutServer = out_same s (out_place m s.outs)
put_same s m ClientIn = tt
put_same s m ClientOut = tt

drawn_same : (s : Server) (m : ℕ) (k : LegKind) → Same s (drawn_by s m k)
drawn_same s m InServer =
    by_test (Same s) (in_is_drawn (in_leg m s.ins)) (settled (without_in s m)) s
    (λ e. by_look (without_in s m) (settled (without_in s m)) (settled_same (without_in s m)))
    (λ e. refl)
drawn_same s m OutServer = refl
drawn_same s m ClientIn = refl
drawn_same s m ClientOut = refl

mark_same : (s : Server) (m : ℕ) (k : LegKind) → Same s (mark_by s m k)
mark_same s m InServer =
    let t : Server = lost_in s m (in_leg m s.ins) in
    by_look t (settled t) (settled_same t) ∙ lost (in_leg m s.ins)
  where
    lost : (o : Option InLeg) → Same s (lost_in s m o)
    lost None = refl
    lost (Some leg) =
        by_test (Same s) (is_waiting leg.stage && stays leg.leaving)
        (with_in s (record leg { leaving = leaving.Lost })) (without_in s m) (λ e. refl)
        (λ e. refl)
mark_same s m OutServer =
    let t : Server = without_out (with_ack_dropped s m) m in
    by_look t (settled t) (settled_same t)
mark_same s m ClientIn = refl
mark_same s m ClientOut = refl

take_same : (s : Server) → Same s (take s)
take_same s = search rules

give_same : (s : Server) (bytes : List ℕ) → Same s (give s bytes).0
give_same s bytes = search rules

recycle_same : (s : Server) → Same s (recycle s).0
recycle_same s = search rules

-- ---- the numbers that were given

module _ (ups : ℕ) where
  abbrev pub Within : Server → List OnLeg → List OnLeg → Type 0
  Within s came put = s.newest_in ≤ ups + often is_in_r2_a2 InServer came

  more : (came : List OnLeg) (one : OnLeg) → often is_in_r2_a2 InServer (came ++ one ∷ [])
      ≡ often is_in_r2_a2 InServer came + often is_in_r2_a2 InServer (one ∷ [])
  more came one =
      ap (count_of is_in_r2_a2) (kind_more InServer came one)
      ∙ count_append is_in_r2_a2 (of_kind InServer came) (of_kind InServer (one ∷ []))

  same_row : (s : Server) (one : OnLeg) (came put : List OnLeg) (x : Done) → Same s x.0
      → Within s came put → RowKeeps Within one came put x
  same_row s one came put (t, Ok taken) same h =
      let all = more came one in omega (arith, all, same, h)
  same_row s one came put (t, Err why) same h = omega (arith, same, h)

  in_r2_a2_row : (s : Server) (m : ℕ) (count : Count) (successor : Cookie)
      (came put : List OnLeg) → Within s came put
      → RowKeeps Within (leg_at InServer m, Packet (named.InR2A2 successor)) came put
      (on_in_r2_a2 s m count successor)
  in_r2_a2_row s m count successor came put h =
      by_test Row _ (in_r2_a2_on s m successor (channel_at s m)) (unexpected s)
      (λ e. by (channel_at s m)) (λ e. h)
    where
      one : OnLeg
      one = (leg_at InServer m, Packet (named.InR2A2 successor))

      Row : Done → Type 0
      Row x = RowKeeps Within one came put x

      up_one : s.newest_in + 1 ≤ ups + often is_in_r2_a2 InServer (came ++ one ∷ [])
      up_one =
          let all : often is_in_r2_a2 InServer (came ++ one ∷ [])
          ≡ often is_in_r2_a2 InServer came + 1 = more came one in omega (arith, all, h)

      by : (o : Option Which) → Row (in_r2_a2_on s m successor o)
      by None = h
      by (Some Current) = up_one
      by (Some Next) = up_one

  is_row : (s : Server) (m : ℕ) (count : Count) (packet : Named) (came put : List OnLeg)
      → Within s came put
      → RowKeeps Within (leg_at InServer m, Packet packet) came put (on_is s m count packet)
  is_row s m count (named.ConnB2 v a b c d e f g) came put h =
      same_row s _ came put (on_conn_b2 s m count a b c d) (conn_b2_same s m count a b c d) h
  is_row s m count (named.InR1A2 v a b c d e) came put h =
      same_row s _ came put (on_in_r1_a2 s m count a b c d e) (in_r1_a2_same s m count a b c d e) h
  is_row s m count (named.InR1A6 a) came put h =
      same_row s _ came put (on_in_r1_a6 s m a) (in_r1_a6_same s m a) h
  is_row s m count (named.InR2A2 a) came put h = in_r2_a2_row s m count a came put h
  is_row s m count named.EndA2 came put h =
      same_row s _ came put (on_end_a2 s m count) (end_a2_same s m count) h
  is_row s m count (named.AckTo a b c d) came put h =
      same_row s _ came put (on_is s m count (named.AckTo a b c d))
      (by_look s (on_is s m count (named.AckTo a b c d)).0 (ack_to_same s count a b c d)) h
  is_row s m count packet came put h =
      same_row s (leg_at InServer m, Packet packet) came put (on_is s m count packet)
      (search rules) h

  os_row : (s : Server) (m : ℕ) (count : Count) (packet : Named) (came put : List OnLeg)
      → Within s came put
      → RowKeeps Within (leg_at OutServer m, Packet packet) came put (on_os s m count packet)
  os_row s m count (named.ConnA2 v a b c d) came put h =
      same_row s _ came put (on_conn_a2 s m count a b c d) (conn_a2_same s m count a b c d) h
  os_row s m count packet came put h =
      same_row s (leg_at OutServer m, Packet packet) came put (on_os s m count packet)
      (search rules) h

  packet_row : (s : Server) (m : ℕ) (count : Count) (packet : Named) (k : LegKind)
      (came put : List OnLeg) → Within s came put
      → RowKeeps Within (leg_at k m, Packet packet) came put (packet_by s m count packet k)
  packet_row s m count packet InServer came put h = is_row s m count packet came put h
  packet_row s m count packet OutServer came put h = os_row s m count packet came put h
  packet_row s m count packet ClientIn came put h = h
  packet_row s m count packet ClientOut came put h = h

  -- ---- moves, but legs that come up

  abbrev pub WithinAt : Passage Server → Type 0
  WithinAt p = Within p.role p.came p.put

  by_row : (p : Passage Server) (leg : Leg) (m : Message) (row : Server × Row)
      → RowKeeps Within (leg, m) p.came p.put row → WithinAt (taken_by p leg m row)
  by_row p leg m (s, Ok taken) h = h
  by_row p leg m (s, Err refused) h = h

  by_put : (p : Passage Server) (leg : Leg) (pick : Pick) → PickSame p.role pick → WithinAt p
      → WithinAt (put_by p leg pick)
  by_put p leg None same h = h
  by_put p leg (Some one) same h = omega (arith, same, h)

-- a leg comes up
up_within : (ups : ℕ) (s : Server) (leg : Leg) (cookie : Cookie) (came put : List OnLeg)
    → Within ups s came put
    → Within (ups + (if is_of InServer leg then 1 else 0)) (up s leg cookie) came put
up_within ups s leg cookie came put h =
    by_test (λ (t : Server). Within (ups + (if is_of InServer leg then 1 else 0)) t came put)
    (may_up_by s leg.number leg.kind) (up_by s leg.number leg.kind) s (λ e. by leg.kind e)
    (λ e. omega (arith, h))
  where
    by : (k : LegKind) → may_up_by s leg.number k ≡ true
        → Within (ups + (if is_of InServer (leg_at k leg.number) then 1 else 0))
        (up_by s leg.number k) came put
    by InServer e =
        let is = same_number leg.number (s.newest_in + 1)
        (and_parts (leg.number == s.newest_in + 1) (has_room s.ins) e).0 in
        omega (arith, is, h)
    by OutServer e = omega (arith, h)
    by ClientIn e = omega (arith, h)
    by ClientOut e = omega (arith, h)

move_within : (ups : ℕ) (p : EndPassage Server) (move : EndMove) → WithinAt ups p.passage
    → WithinAt (ups + in_ups (move ∷ [])) (end_moved server_rules acts p move).passage
move_within ups p (Moves (Up leg cookie)) h =
    let k = up_within ups p.passage.role leg cookie p.passage.came p.passage.put h in
    omega (arith, k)
move_within ups p (Moves (HeadCame leg text)) h = omega (arith, h)
move_within ups p (Moves (PduCame leg count bytes)) h =
    let k = by_row ups p.passage leg (Pdu bytes)
    (server_rules.pdu p.passage.role leg count bytes)
    (same_row ups p.passage.role (leg, Pdu bytes) p.passage.came p.passage.put
    (pdu_by p.passage.role leg.number bytes leg.kind)
    (by_look p.passage.role (pdu_by p.passage.role leg.number bytes leg.kind).0
    (pdu_same p.passage.role leg.number bytes leg.kind)) h) in
    omega (arith, k)
move_within ups p (Moves (PacketCame leg count packet)) h =
    let k = by_row ups p.passage leg (Packet packet)
    (server_rules.packet p.passage.role leg count packet)
    (packet_row ups p.passage.role leg.number count packet leg.kind p.passage.came
    p.passage.put h) in
    omega (arith, k)
move_within ups p (Moves (Puts leg)) h =
    let k = by_put ups p.passage leg (server_rules.put p.passage.role leg)
    (put_same p.passage.role leg.number leg.kind) h in
    omega (arith, k)
move_within ups p (Moves (IsDrawn leg)) h =
    let same = drawn_same p.passage.role leg.number leg.kind in omega (arith, h, same)
move_within ups p (Moves (Marks leg)) h =
    let same = mark_same p.passage.role leg.number leg.kind in omega (arith, h, same)
move_within ups p (Moves (Pings leg)) h = omega (arith, h)
move_within ups p (Gives bytes) h =
    by (acts.give p.passage.role bytes) (give_same p.passage.role bytes)
  where
    by : (x : Server × Result (Unit {0}) GiveRefused) → Same p.passage.role x.0
        → WithinAt (ups + 0) (given_by p bytes x).passage
    by (t, Ok accepted) same = omega (arith, h, same)
    by (t, Err why) same = omega (arith, h, same)
move_within ups p Takes h =
    by (acts.line p.passage.role).current.pdus
  where
    same : Same p.passage.role (take p.passage.role)
    same = take_same p.passage.role

    by : (pdus : List (List ℕ))
        → WithinAt (ups + 0) (with_first (end_now_at p (acts.take p.passage.role)) pdus).passage
    by [] = omega (arith, h, same)
    by (pdu ∷ pdus) = omega (arith, h, same)
move_within ups p Closes h = omega (arith, h)
move_within ups p Recycles h =
    let same = recycle_same p.passage.role in omega (arith, h, same)

moves_within : (ups : ℕ) (p : EndPassage Server) (moves : List EndMove) → WithinAt ups p.passage
    → WithinAt (ups + in_ups moves) (all_end_moved server_rules acts p moves).passage
moves_within ups p [] h = omega (arith, h)
moves_within ups p (move ∷ moves) h =
    let k = moves_within (ups + in_ups (move ∷ [])) (end_moved server_rules acts p move) moves
    (move_within ups p move h) in
    let both = ups_more move moves in
    omega (arith, k, both)
  where
    ups_more : (move : EndMove) (moves : List EndMove)
        → in_ups (move ∷ moves) ≡ in_ups (move ∷ []) + in_ups moves
    ups_more (Moves (Up leg cookie)) moves = by (is_of InServer leg)
      where
        by : (b : Bool) → (if b then 1 else 0) + in_ups moves
            ≡ ((if b then 1 else 0) + 0) + in_ups moves
        by b = omega arith
    ups_more move moves = omega arith

pub numbers_given : (window : ℕ) (moves : List EndMove)
    → WithinAt (in_ups moves)
    (all_end_moved server_rules acts (end_started (first window)) moves).passage
numbers_given window moves =
    let k = moves_within 0 (end_started (first window)) moves (omega arith) in
    omega (arith, k)
