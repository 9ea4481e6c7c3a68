-- a server writes in turn
use Rattle.law_order.proofs.Vocabulary.{◌≡◌, ℕ, ◌+◌, ◌==◌, ◌&&◌, Bool, true, false, not, List, [], ◌∷◌, ◌++◌, Some, None, Ok, Err, arith, refl, rules, sym, ap, ◌∙◌, subst, false≢true, and_parts, not-true, IfSome, slice_get, find, Option, Result}
use Rattle.rh_sig.specs.declared.named.Named.TheVariants as named
use Rattle.rh_server.specs.declared.state.EndMark.TheVariants as end_mark
use Rattle.rh_server.specs.declared.state.Leaving.TheVariants as leaving
use Rattle.rh_server.specs.declared.state.Tells.TheVariants as tells
use Rattle.law_moves.proofs.Vocabulary.{Ack, by_test, same_number, pdu_fault, PduFault, Cookie, Named, front_length, Leg, LegKind, ClientOut, OutServer, ClientIn, InServer, Count, Due, GiveRefused, first_of, Message, Pdu, Packet, Waiting, taken, OnLeg, EndMove, end_started, all_end_moved}
use Rattle.law_moves.proofs.Lemmas.{RowKeeps, PutKeeps, StepsKeep, ActsKeep, end_moves_keep}
use Rattle.law_role_server.proofs.Vocabulary.{InLeg, OutLeg, Leaving, Tells, Gate, lets, lets_packet, length_of, Server, is_open, is_closing, is_put, is_nil, is_due, is_some, in_leg, out_place, without_in, without_out, Done, up, take, recycle, give, give_by, settled, in_is_drawn, drawn_by, with_ack_dropped, lost_in, mark_by, Pick, or_else, put_in_greeting, told_by, was_current, put_tells_by, put_tells, put_b1_by, put_b1, put_ack_by, put_ack, ack_due, put_in_by}
use Rattle.law_role_server.proofs.Vocabulary.{out_greeting_at, put_out_greeting, counts, was_put, waiting_by, waiting_at, put_waiting, gate, gate_at, may_go_at, goes, pdu_by, put_pdu, is_end_due, may_end_at, put_end, put_pdu_or_end, next_out, settled_pick, put_open, put_out_at, put_by, acts, first, on_is, on_os, packet_by, pdu, rules as server_rules}
use Rattle.law_role_server.proofs.Counted.Replacing.{found_number}
use Rattle.law_role_server.proofs.Counted.Dues.{found_may}
use Rattle.law_role_server_rows.proofs.Putting.Turns.{let_stands, Seen, seen, Kept, Holds, same_holds, more}
use Rattle.law_role_server_rows.specs.Putting.Puts.{Turn, behind, behind_all, first_turn, os, Stands, WritesInTurn}

-- ---- rows

is_same : (s : Server) (n : ℕ) (count : Count) (m : Named) → seen (on_is s n count m).0 ≡ seen s
is_same s n count (named.ConnB2 v a b c d e f g) = search rules
is_same s n count (named.InR1A2 v a b c d e) = search rules
is_same s n count (named.InR1A6 a) = search rules
is_same s n count (named.InR2A2 a) = search rules
is_same s n count (named.AckTo a b c d) = search rules
is_same s n count (named.OutR1A8 a b) = search rules
is_same s n count named.EndA2 = search rules
is_same s n count m = refl

os_same : (s : Server) (n : ℕ) (count : Count) (m : Named) → seen (on_os s n count m).0 ≡ seen s
os_same s n count (named.ConnA2 v a b c d) = search rules
os_same s n count (named.OutR1A4 v a b c d e f) = search rules
os_same s n count (named.Ack a b c) = search rules
os_same s n count (named.PingTraffic a) = search rules
os_same s n count m = refl

packet_same : (s : Server) (n : ℕ) (count : Count) (m : Named) (k : LegKind)
    → seen (packet_by s n count m k).0 ≡ seen s
packet_same s n count m InServer = is_same s n count m
packet_same s n count m OutServer = os_same s n count m
packet_same s n count m ClientIn = refl
packet_same s n count m ClientOut = refl

pdu_same : (s : Server) (leg : Leg) (count : Count) (bytes : List ℕ)
    → seen (pdu s leg count bytes).0 ≡ seen s
pdu_same s leg count bytes = search rules

row_same : (s : Server) (one : OnLeg) (came put : List OnLeg) (x : Done) → seen x.0 ≡ seen s
    → Holds s came put → RowKeeps Holds one came put x
row_same s one came put (t, Ok took) same h = same_holds s t (came ++ one ∷ []) put same h
row_same s one came put (t, Err why) same h = same_holds s t came put same h

up_same : (s : Server) (leg : Leg) (cookie : Cookie) → seen (up s leg cookie) ≡ seen s
up_same s leg cookie = search rules

settled_same : (s : Server) → seen (settled s) ≡ seen s
settled_same s = search rules

drawn_same : (s : Server) (n : ℕ) (k : LegKind) → seen (drawn_by s n k) ≡ seen s
drawn_same s n InServer =
    by_test (λ (t : Server). seen t ≡ seen s) (in_is_drawn (in_leg n s.ins))
    (settled (without_in s n)) s (λ e. settled_same (without_in s n)) (λ e. refl)
drawn_same s n OutServer = refl
drawn_same s n ClientIn = refl
drawn_same s n ClientOut = refl

lost_same : (s : Server) (n : ℕ) (o : Option InLeg) → seen (lost_in s n o) ≡ seen s
lost_same s n o = search rules

mark_same : (s : Server) (n : ℕ) (k : LegKind) → seen (mark_by s n k) ≡ seen s
mark_same s n InServer =
    settled_same (lost_in s n (in_leg n s.ins)) ∙ lost_same s n (in_leg n s.ins)
mark_same s n OutServer = settled_same (without_out (with_ack_dropped s n) n)
mark_same s n ClientIn = refl
mark_same s n ClientOut = refl

take_same : (s : Server) → seen (take s) ≡ seen s
take_same s = search rules

recycle_same : (s : Server) → seen (recycle s).0 ≡ seen s
recycle_same s = search rules

told_same : (s : Server) (n : ℕ) → seen (told_by s n) ≡ seen s
told_same s n = search rules

counts_same : (s : Server) (place len : ℕ) → seen (counts s place len) ≡ seen s
counts_same s place len = search rules

-- behind END/B1 no PDU is accepted
give_holds : (s : Server) (bytes : List ℕ) (came put : List OnLeg) → Holds s came put
    → Holds (give s bytes).0 came put
give_holds s bytes came put h =
    by_test Gives (is_closing s.giving) (s, Err _) (give_by s bytes (pdu_fault bytes)) (λ e. h)
    (λ e. by e (pdu_fault bytes))
  where
    Gives : Server × Result (Unit {0}) GiveRefused → Type 0
    Gives x = Holds x.0 came put

    by : is_closing s.giving ≡ false → (fault : Option PduFault) → Gives (give_by s bytes fault)
    by e (Some fault) = h
    by e None =
        by_test Gives _ (record s { queue = s.queue ++ bytes ∷ [] }, Ok tt) _
        (λ f. record {
          stand = h.stand;
          writing = h.writing;
          ended = h.ended;
          over = λ o. absurd (false≢true (sym e ∙ (h.over o).0));
        })
        (λ f. h)

-- ---- what is put

-- the turn behind a packet
abbrev after : Named → Seen → Seen
after named.OutR1A9 x = record {
  writing = x.writing + 1;
  end_mark = end_mark.Unput;
  giving = x.giving;
  queue = x.queue;
}
after packet x = x

was_put_seen : (s : Server) (place : ℕ) (packet : Named)
    → seen (was_put s place packet) ≡ after packet (seen s)
was_put_seen s place named.OutR1A9 = ap (after named.OutR1A9) (counts_same s place 24)
was_put_seen s place (named.AckTo destination received window cookie) =
    by_test (λ (t : Server). seen t ≡ seen s) (destination == 3) s (counts s place 56) (λ e. refl)
    (λ e. counts_same s place 56)
was_put_seen s place packet = counts_same s place (length_of packet)

nil_none : (queue : List (List ℕ)) → is_nil queue ≡ true → is_some (front_length queue) ≡ false
nil_none [] e = refl
nil_none (pdu ∷ queue) e = absurd (false≢true e)

module _ (n : ℕ) (kind : LegKind) (came put : List OnLeg) where
  abbrev leg : Leg
  leg = record { kind = kind; number = n }

  abbrev pub Puts : Pick → Type 0
  Puts pick = PutKeeps Holds leg came put pick

  pub or_put : (a b : Pick) → Puts a → Puts b → Puts (or_else a b)
  or_put None b h k = k
  or_put (Some pick) b h k = h

  -- what leaves the turn alone
  abbrev pub Quiet : Server → Pick → Type 0
  Quiet s pick =
      IfSome pick (λ (one : Server × Message).
      (seen one.0 ≡ seen s)
      × ((t : Turn) → (behind t one.1 ≡ t) × Stands t (leg, one.1)))

  pub quiet_puts : (s : Server) (pick : Pick) → Quiet s pick → Holds s came put → Puts pick
  quiet_puts s None quiet h = tt
  quiet_puts s (Some one) quiet h =
      let at = quiet.1 (behind_all first_turn put) in
      same_holds s one.0 came (put ++ (leg, one.1) ∷ []) quiet.0
      (more (seen s) (seen s) put (leg, one.1) at.1
      (subst (λ (t : Turn). s.writing ≡ t.writing) (sym at.0) h.writing)
      (subst (λ (t : Turn). is_put s.end_mark ≡ t.ended) (sym at.0) h.ended)
      (subst (λ (t : Turn). t.over ≡ true
      → (is_closing s.giving ≡ true) × (is_nil s.queue ≡ true)) (sym at.0) h.over) h)

  pub settled_puts : (pick : Pick) → Puts pick → Puts (settled_pick pick)
  settled_puts None h = tt
  settled_puts (Some pick) h =
      same_holds pick.0 (settled pick.0) came (put ++ (leg, pick.1) ∷ []) (settled_same pick.0) h

module _ (n : ℕ) (came put : List OnLeg) where
  -- ---- on an is leg

  in_puts : (s : Server) (o : Option InLeg) → Holds s came put
      → Puts n InServer came put (put_in_by s o)
  in_puts s None h = tt
  in_puts s (Some leg) h =
      or_put n InServer came put (put_in_greeting s leg) _
      (quiet (put_in_greeting s leg)
      (by_test (Quiet n InServer came put s) (is_due leg.greeting) _ None
      (λ e. (refl, λ t. (refl, refl))) (λ e. tt)))
      (or_put n InServer came put (put_tells s leg) _
      (quiet (put_tells s leg) (told leg.tells))
      (or_put n InServer came put (put_b1 s leg) (put_ack s leg)
      (quiet (put_b1 s leg) (b1 leg.leaving)) (quiet (put_ack s leg) (ack (ack_due s leg)))))
    where
      quiet : (pick : Pick) → Quiet n InServer came put s pick → Puts n InServer came put pick
      quiet pick is = quiet_puts n InServer came put s pick is h

      told : (t : Tells) → Quiet n InServer came put s (put_tells_by s leg t)
      told tells.Nothing = tt
      told tells.ConnB3 =
          by_test (Quiet n InServer came put s) (is_open s.stage) _ None
          (λ e. (refl, λ t. (refl, refl))) (λ e. tt)
      told tells.InR1B2 =
          by_test (Quiet n InServer came put s) (was_current s leg) _ None
          (λ e. (told_same s leg.number, λ t. (refl, refl))) (λ e. tt)

      b1 : (x : Leaving) → Quiet n InServer came put s (put_b1_by s leg x)
      b1 leaving.Stays = tt
      b1 leaving.InR1B1 = (refl, λ t. (refl, refl))
      b1 leaving.Left = tt
      b1 leaving.Lost = tt

      ack : (a : Option Ack) → Quiet n InServer came put s (put_ack_by s a)
      ack None = tt
      ack (Some a) = (refl, λ t. (refl, refl))

  -- ---- on an os leg

  abbrev OutPuts : Pick → Type 0
  OutPuts pick = Puts n OutServer came put pick

  -- the leg that writes is the one whose turn it is
  now : (s : Server) (place : ℕ) (leg : OutLeg) → out_place n s.outs ≡ Some place
      → slice_get s.outs place ≡ Some leg → Holds s came put → leg.number == s.writing ≡ true
      → os n ≡ os (behind_all first_turn put).writing
  now s place leg is at h e =
      ap os (sym (found_number n place s.outs leg is at)
      ∙ same_number leg.number s.writing e ∙ h.writing)

  packet_kept : (g : Gate) (x : Seen) (packet : Named)
      → (g.is_writing ≡ true → os n ≡ os (behind_all first_turn put).writing)
      → lets_packet g packet ≡ true → Kept x put
      → Kept (after packet x) (put ++ (os n, Packet packet) ∷ [])
  packet_kept g x named.OutR1A9 turn may h =
      more x (after named.OutR1A9 x) put (os n, Packet named.OutR1A9)
      (let_stands g (behind_all first_turn put) n named.OutR1A9 turn may)
      (let is = h.writing in omega (arith, is)) refl h.over h
  packet_kept g x named.EndB1 turn may h =
      absurd (false≢true (and_parts g.is_writing false may).1)
  packet_kept g x packet turn may h =
      more x x put (os n, Packet packet)
      (let_stands g (behind_all first_turn put) n packet turn may) h.writing h.ended h.over h

  waiting_puts : (s : Server) (place : ℕ) (o : Option OutLeg) → out_place n s.outs ≡ Some place
      → slice_get s.outs place ≡ o → Holds s came put
      → OutPuts (waiting_at s place (gate_at s o))
  waiting_puts s place None is at h = tt
  waiting_puts s place (Some leg) is at h = by (find may_go dues) (found_may may_go dues)
    where
      may_go : Due → Bool
      may_go = lets (gate s leg)

      dues : List Due
      dues = s.waiting.due

      left : Waiting
      left = (taken (lets (gate s leg)) s.waiting).0

      by : (x : Option Due) → IfSome x (λ (due : Due). may_go due ≡ true)
          → OutPuts (waiting_by s place (left, x))
      by None may = tt
      by (Some due) may =
          let t : Server = record s { waiting = left } in
          subst (λ (x : Seen). Kept x (put ++ (os n, Packet due.packet) ∷ []))
          (sym (was_put_seen t place due.packet))
          (packet_kept (gate s leg) (seen s) due.packet (now s place leg is at h) may h)

  pdu_puts : (s : Server) (place : ℕ) (o : Option OutLeg) → out_place n s.outs ≡ Some place
      → slice_get s.outs place ≡ o → Holds s came put → OutPuts (put_pdu s place)
  pdu_puts s place o is at h = by (front_length s.queue) refl
    where
      turn : Turn
      turn = behind_all first_turn put

      here : (len : ℕ) (o : Option OutLeg) → slice_get s.outs place ≡ o
          → may_go_at s len o ≡ true → os n ≡ os (behind_all first_turn put).writing
      here len None at may = absurd (false≢true may)
      here len (Some leg) at may =
          now s place leg is at h (and_parts (leg.number == s.writing) _ may).0

      not_over : (len : ℕ) → front_length s.queue ≡ Some len → (b : Bool)
          → (behind_all first_turn put).over ≡ b → b ≡ false
      not_over len some false e = refl
      not_over len some true e =
          absurd (false≢true (sym (nil_none s.queue (h.over e).1) ∙ ap is_some some))

      by : (l : Option ℕ) → front_length s.queue ≡ l → OutPuts (pdu_by s place l)
      by None some = tt
      by (Some len) some =
          by_test OutPuts (may_go_at s len (slice_get s.outs place))
          (Some (goes s place len, Pdu (first_of s.queue))) None
          (λ e.
          let none = not_over len some (behind_all first_turn put).over refl in
          more (seen s) (seen (goes s place len)) put (os n, Pdu (first_of s.queue))
          (here len (slice_get s.outs place) refl e, none) h.writing h.ended
          (λ f. absurd (false≢true (sym none ∙ f))) h)
          (λ e. tt)

  end_puts : (s : Server) (place : ℕ) → out_place n s.outs ≡ Some place
      → Holds s came put → OutPuts (put_end s place)
  end_puts s place is h =
      by_test OutPuts (is_end_due s && may_end_at s (slice_get s.outs place))
      (Some (record (counts s place 24) { end_mark = end_mark.Put }, Packet named.EndB1)) None
      (λ e.
      let both = and_parts (is_end_due s) (may_end_at s (slice_get s.outs place)) e in
      let due = and_parts (is_closing s.giving) _ both.0 in
      let bare = and_parts (not (is_put s.end_mark)) (is_nil s.queue) due.1 in
      subst (λ (x : Seen). Kept (ended x) (put ++ (os n, Packet named.EndB1) ∷ []))
      (sym (counts_same s place 24))
      (more (seen s) (ended (seen s)) put (os n, Packet named.EndB1) (
        here (slice_get s.outs place) refl both.1,
        sym h.ended ∙ not-true (is_put s.end_mark) bare.0,
      )
      h.writing refl (λ f. (due.0, bare.1)) h))
      (λ e. tt)
    where
      ended : Seen → Seen
      ended x = record {
        writing = x.writing;
        end_mark = end_mark.Put;
        giving = x.giving;
        queue = x.queue;
      }

      here : (o : Option OutLeg) → slice_get s.outs place ≡ o → may_end_at s o ≡ true
          → os n ≡ os (behind_all first_turn put).writing
      here None at may = absurd (false≢true may)
      here (Some leg) at may =
          now s place leg is at h (and_parts (leg.number == s.writing) _ may).0

  next_puts : (s : Server) (place : ℕ) → out_place n s.outs ≡ Some place → Holds s came put
      → OutPuts (next_out s place)
  next_puts s place is h =
      or_put n OutServer came put (put_waiting s place) (put_pdu_or_end s place)
      (waiting_puts s place (slice_get s.outs place) is refl h)
      (or_put n OutServer came put (put_pdu s place) (put_end s place)
      (pdu_puts s place (slice_get s.outs place) is refl h) (end_puts s place is h))

  out_puts : (s : Server) (place : Option ℕ) → out_place n s.outs ≡ place → Holds s came put
      → OutPuts (put_out_at s place)
  out_puts s None is h = tt
  out_puts s (Some place) is h =
      or_put n OutServer came put (put_out_greeting s place) (put_open s place)
      (quiet_puts n OutServer came put s (put_out_greeting s place)
      (greeting (slice_get s.outs place)) h)
      (by_test OutPuts (is_open s.stage) (settled_pick (next_out s place)) None
      (λ e. settled_puts n OutServer came put (next_out s place) (next_puts s place is h))
      (λ e. tt))
    where
      greeting : (o : Option OutLeg) → Quiet n OutServer came put s (out_greeting_at s place o)
      greeting None = tt
      greeting (Some leg) =
          by_test (Quiet n OutServer came put s) (is_due leg.greeting) _ None
          (λ e. (refl, λ t. (refl, refl))) (λ e. tt)

  pub puts : (s : Server) (k : LegKind) → Holds s came put → Puts n k came put (put_by s n k)
  puts s InServer h = in_puts s (in_leg n s.ins) h
  puts s OutServer h = out_puts s (out_place n s.outs) refl h
  puts s ClientIn h = tt
  puts s ClientOut h = tt

-- ---- the role

steps : StepsKeep server_rules Holds
steps = record {
  up = λ s leg cookie came put. same_holds s (up s leg cookie) came put (up_same s leg cookie);
  head = λ s leg text came put h. h;
  pdu = λ s leg count bytes came put h.
      row_same s (leg, Pdu bytes) came put (pdu s leg count bytes) (pdu_same s leg count bytes) h;
  packet = λ s leg count m came put h.
      row_same s (leg, Packet m) came put (packet_by s leg.number count m leg.kind)
      (packet_same s leg.number count m leg.kind) h;
  put = λ s leg came put. puts leg.number came put s leg.kind;
  drawn = λ s leg came put.
      same_holds s (drawn_by s leg.number leg.kind) came put (drawn_same s leg.number leg.kind);
  mark = λ s leg came put.
      same_holds s (mark_by s leg.number leg.kind) came put (mark_same s leg.number leg.kind);
  ping = λ s leg came put h. h;
}

calls : ActsKeep acts Holds
calls = record {
  give = give_holds;
  take = λ s came put. same_holds s (take s) came put (take_same s);
  close = λ s came put h. record {
    stand = h.stand;
    writing = h.writing;
    ended = h.ended;
    over = λ o. (refl, (h.over o).1);
  };
  recycle = λ s came put. same_holds s (recycle s).0 came put (recycle_same s);
}

pub kept : (window : ℕ) (moves : List EndMove)
    → let p = (all_end_moved server_rules acts (end_started (first window)) moves).passage in
    Holds p.role p.came p.put
kept window moves =
    end_moves_keep server_rules Holds steps acts calls (end_started (first window)) moves
    (record { stand = tt; writing = refl; ended = refl; over = λ e. absurd (false≢true e) })

pub in_turn : (window : ℕ) (moves : List EndMove)
    → WritesInTurn (all_end_moved server_rules acts (end_started (first window)) moves).passage.put
in_turn window moves = (kept window moves).stand
