-- a server receives from an in proxy within its window
use Rattle.rh_window.specs.Receiving as windows
use Rattle.law_order.proofs.Vocabulary.{◌≡◌, ℕ, suc, ◌+◌, ◌≤◌, ◌<◌, ◌==◌, List, [], ◌∷◌, ◌++◌, length, Bool, true, false, true≢false, if◌then◌else◌, ◌&&◌, ◌||◌, not, Some, None, Ok, Err, arith, refl, sym, ap, ◌∙◌, subst, rules, false≢true, and_parts, nat_tests, slice_get, IfSome, AllByRecursion, Option, Result, append-nil, Log, TakerLaw}
use Rattle.rh_sig.specs.declared.named.Named.TheVariants as named
use Rattle.rh_line.specs.Lines.{taken as taken_line}
use Rattle.rh_line.specs.Lines as lines
use Rattle.rh_shell.specs.declared.answers.Refused.TheVariants as refused
use Rattle.rh_server.specs.Servers.{pdu_by}
use Rattle.rh_server.specs.declared.state.Greeting.TheVariants as greetings
use Rattle.rh_server.specs.declared.out_line.Kind.TheVariants as kind
use Rattle.rh_server.specs.declared.state.Edge.TheVariants as edges
use Rattle.rh_server.specs.declared.state.InStage.TheVariants as in_stage
use Rattle.rh_server.specs.declared.state.Leaving.TheVariants as leaving
use Rattle.rh_server.specs.declared.state.Stage.TheVariants as stages
use Rattle.rh_server.specs.declared.state.Tells.TheVariants as tells
use Rattle.law_moves.proofs.Vocabulary.{IsWindow, Receiver, Ack, by_test, same_number, Cookie, Named, Incoming, Line, admitted, released, settled as settled_line, moved_on, is_empty, total, due, after_admit, after_open_next, after_tell, after_told, front_length, LineFault, Window, Over, Leg, LegKind, ClientOut, OutServer, ClientIn, InServer, Which, Current, Next, Count, Due, Message, Text, Pdu, Packet, same_leg, Waiting, taken as taken_out, greeting as greeting_text, EndMove}
use Rattle.law_moves.proofs.Vocabulary.{AreAllowedAtEnd, end_started, all_end_moved, of_leg}
use Rattle.law_moves.proofs.Lemmas.{bytes_rise, all_append, each_so}
use Rattle.law_role_client.proofs.Receiving.Windows.{IsBehind}
use Rattle.law_role_server.proofs.Vocabulary.{Edge, InStage, InLeg, Leaving, OutLeg, Stage, Tells, Server, is_open, is_due, is_shut, is_fresh, is_waiting, stays, same_cookie, in_place, in_at, in_leg, set_at, removed_at, with_in, without_in, without_out, out_place, waits, Gate, lets, Done, took, refuse, unexpected, is_first, may_up_by, in_leg_up, up, up_by, opens, first_in, with_first_in, conn_b2_at, on_conn_a2, on_conn_b2, channel_at, admitted_by, admitted_on, on_ack_to}
use Rattle.law_role_server.proofs.Vocabulary.{on_ack, on_ping_traffic, ended_if, opens_next, opens_leg, waiting_place, first_waiting, next_opened, becomes_current, moved_if, take, has_fresh_below, announced, in_r1_a2_by, in_r1_a2_at, on_in_r1_a2, leaves_by, hands_over, on_in_r1_a6, on_in_r2_a2, recycle, on_out_r1_a4, on_out_r1_a8, give, is_over_on, end_a2_on_leg, end_a2_waiting, end_a2_at, on_end_a2, settled, in_is_drawn, drawn_by, with_ack_dropped, lost_in, mark_by, Pick}
use Rattle.law_role_server.proofs.Vocabulary.{or_else, put_in_greeting, told_by, was_current, put_tells_by, put_tells, put_b1_by, put_b1, put_ack_by, put_ack, next_in, put_in_by, out_greeting_at, put_out_greeting, gate_at, counts, was_put, waiting_by, waiting_at, put_waiting, may_go_at, pdu_by as put_pdu_by, put_pdu, is_end_due, may_end_at, put_end, put_pdu_or_end, next_out, settled_pick, put_open, put_out_at, put_out, put_by as put_by_kind, on_is, on_os, packet_by, first}
use Rattle.law_role_server.proofs.Vocabulary.{acts as server_acts, rules as server_rules, taker_of}
use Rattle.law_role_server.proofs.Counted.Openings.{is_conn_b3_due as is_conn_b3}
use Rattle.law_node_history.proofs.Lemmas.{same_itself}
use Rattle.law_role_server_rows.proofs.Refusing.Places.{all_at, all_set, all_removed, found_passes}
use Rattle.law_role_windows.proofs.Held.ServerLine.{told_admitted as admitted_told}
use Rattle.law_role_windows.specs.Held.{Holds}
use Rattle.law_world_windows.proofs.Legs.{on}
use Rattle.law_world_windows.proofs.Counts.{edges_within, all_later}
use Rattle.law_world_windows.proofs.Receiving.{Receives, came_more, put_within, admitted_size, received_more, refused_behind, IsDueAck, due_is, room_of}
use Rattle.law_world_windows.proofs.Steps.{RowKeeps, PutKeeps, StepsKeep, ActsKeep, end_moves_keep}
use Rattle.law_world_windows.specs.Holding.{held_by_server}
use Rattle.law_world_windows.specs.Hops.{HasRoom, HasRoomOn, is_leg, pdu_bytes, edge_told, edge_in, greatest_edge, IsNoWindow, IsTrueAck, RefusesBehind, ReceivesWithin}

-- ---- what is known of a server's legs

-- a leg on which IN_R1/A6 came is at most the current one, and CONN/B3 is due on the first alone
record IsLegOf (current : ℕ) (leg : InLeg) : Type 0 where
  left : stays leg.leaving ≡ false → leg.number ≤ current
  first : is_conn_b3 leg.tells ≡ true → leg.number ≡ 1

-- neither CONN/B2 nor what opens the server came
abbrev is_opening : Stage → Bool
is_opening stages.Waits = true
is_opening (stages.OutCame connection) = true
is_opening (stages.InCame connection window timeout) = false
is_opening (stages.Open connection) = false
is_opening stages.Ended = false

-- what the facts are about
record Seen : Type 0 where
  current : Receiver
  next : Receiver
  has_next : Bool
  finished : Bool
  edge : Edge
  -- the legs of both channels
  leg : ℕ
  next_leg : ℕ
  ins : List InLeg

abbrev seen : Server → Seen
seen s = record {
  current = s.line.current.window;
  next = s.line.next.window;
  has_next = s.line.has_next;
  finished = s.line.finished;
  edge = s.edge;
  leg = s.current.leg;
  next_leg = s.next.leg;
  ins = s.ins;
}

-- of is leg n: behind the current one no window was told; what came is counted by the window of its
-- channel, which told what was put
record ReceivesOf (window n : ℕ) (x : Seen) (came put : List Message) : Type 0 where
  from_one : 1 ≤ x.leg
  size : x.current.size ≡ window
  next_size : x.next.size ≡ window
  later : x.leg < n → greatest_edge put ≡ 0
  now : x.leg ≡ n → Receives x.current came put
  behind : x.has_next ≡ true → x.next_leg ≡ n → x.next.received ≤ pdu_bytes came
  next_shut : x.next.told ≡ 0
  followed : x.finished ≡ true → x.has_next ≡ true
  shut : is_shut x.edge ≡ true → (x.current.told ≡ 0) × (1 < x.leg)
  told : is_shut x.edge ≡ false → window ≤ x.current.told
  legs : AllByRecursion (IsLegOf x.leg) x.ins
  acks : AllByRecursion (IsTrueAck (pdu_bytes came)) put
  room : greatest_edge put ≤ pdu_bytes came + window

-- until CONN/B2 comes the first leg is the current one
record Kept (window n : ℕ) (s : Server) (came put : List Message) : Type 0 where
  window_of : ReceivesOf window n (seen s) came put
  opening : is_opening s.stage ≡ true → (s.current.leg ≡ 1) × (s.line.has_next ≡ false)

-- what laws of a server tell of it: the next channel's leg is behind the current one, and what is
-- held is within the windows
pub record Known (window : ℕ) (s : Server) : Type 0 where
  pub above : s.line.has_next ≡ true → s.current.leg < s.next.leg
  pub holds : Holds window s.line

-- a row leaves these alone; no stage comes again
record Same (s t : Server) : Type 0 where
  same : seen t ≡ seen s
  stage : is_opening t.stage ≡ true → is_opening s.stage ≡ true

-- ---- what leaves these alone

quiet : (s t : Server) → seen t ≡ seen s → t.stage ≡ s.stage → Same s t
quiet s t same stage = record {
  same = same;
  stage = λ e. ap is_opening (sym stage) ∙ e;
}

conn_a2_same : (s : Server) (n : ℕ) (count : Count) (a b : Cookie) (c d : ℕ)
    → Same s (on_conn_a2 s n count a b c d).0
conn_a2_same s n count a b c d = record { same = search rules; stage = search rules }

ack_to_same : (s : Server) (count : Count) (a b c : ℕ) (d : Cookie)
    → Same s (on_ack_to s count a b c d).0
ack_to_same s count a b c d = quiet s _ (search rules) (search rules)

ack_same : (s : Server) (n : ℕ) (count : Count) (a b : ℕ) (c : Cookie)
    → Same s (on_ack s n count a b c).0
ack_same s n count a b c = record { same = search rules; stage = search rules }

ping_same : (s : Server) (count : Count) → Same s (on_ping_traffic s count).0
ping_same s count = record { same = search rules; stage = search rules }

in_r2_a2_same : (s : Server) (n : ℕ) (count : Count) (a : Cookie)
    → Same s (on_in_r2_a2 s n count a).0
in_r2_a2_same s n count a = record { same = search rules; stage = search rules }

out_r1_a4_same : (s : Server) (n : ℕ) (count : Count) (a b c : Cookie) (d e f : ℕ)
    → Same s (on_out_r1_a4 s n count a b c d e f).0
out_r1_a4_same s n count a b c d e f = record { same = search rules; stage = search rules }

out_r1_a8_same : (s : Server) (count : Count) (a : ℕ) (b : Cookie)
    → Same s (on_out_r1_a8 s count a b).0
out_r1_a8_same s count a b = record { same = search rules; stage = search rules }

settled_same : (s : Server) → Same s (settled s)
settled_same s = record { same = search rules; stage = search rules }

give_same : (s : Server) (bytes : List ℕ) → Same s (give s bytes).0
give_same s bytes = record { same = search rules; stage = search rules }

recycle_same : (s : Server) → Same s (recycle s).0
recycle_same s = record { same = search rules; stage = search rules }

same_then : (s t u : Server) → Same s t → Same t u → Same s u
same_then s t u a b = record {
  same = b.same ∙ a.same;
  stage = λ e. a.stage (b.stage e);
}

-- ---- what is put on an os leg

abbrev PickSame : Server → Pick → Type 0
PickSame s pick = IfSome pick (λ (one : Server × Message). Same s one.0)

or_same : (s : Server) (a b : Pick) → PickSame s a → PickSame s b → PickSame s (or_else a b)
or_same s None b p q = q
or_same s (Some pick) b p q = p

counts_same : (s : Server) (place len : ℕ) → Same s (counts s place len)
counts_same s place len = record { same = search rules; stage = search rules }

was_put_same : (s : Server) (place : ℕ) (packet : Named) → Same s (was_put s place packet)
was_put_same s place packet = record { same = search rules; stage = search rules }

waiting_same : (s : Server) (place : ℕ) (x : Waiting × Option Due)
    → PickSame s (waiting_by s place x)
waiting_same s place (w, None) = tt
waiting_same s place (w, Some due) =
    let t : Server = record s { waiting = w } in
    same_then s t (was_put t place due.packet) (quiet s t refl refl)
    (was_put_same t place due.packet)

gate_same : (s : Server) (place : ℕ) (o : Option Gate) → PickSame s (waiting_at s place o)
gate_same s place None = tt
gate_same s place (Some gate) = waiting_same s place (taken_out (lets gate) s.waiting)

out_pdu_same : (s : Server) (place : ℕ) (o : Option ℕ) → PickSame s (put_pdu_by s place o)
out_pdu_same s place None = tt
out_pdu_same s place (Some len) =
    by_test (PickSame s) (may_go_at s len (slice_get s.outs place)) _ None
    (λ e. quiet s _ refl refl) (λ e. tt)

out_end_same : (s : Server) (place : ℕ) → PickSame s (put_end s place)
out_end_same s place =
    by_test (PickSame s) (is_end_due s && may_end_at s (slice_get s.outs place)) _ None
    (λ e. same_then s (counts s place 24) _ (counts_same s place 24) (quiet _ _ refl refl))
    (λ e. tt)

next_out_same : (s : Server) (place : ℕ) → PickSame s (next_out s place)
next_out_same s place =
    or_same s (put_waiting s place) (put_pdu_or_end s place)
    (gate_same s place (gate_at s (slice_get s.outs place)))
    (or_same s (put_pdu s place) (put_end s place)
    (out_pdu_same s place (front_length s.queue)) (out_end_same s place))

out_greeting_same : (s : Server) (place : ℕ) (o : Option OutLeg)
    → PickSame s (out_greeting_at s place o)
out_greeting_same s place None = tt
out_greeting_same s place (Some leg) =
    by_test (PickSame s) (is_due leg.greeting) _ None (λ e. quiet s _ refl refl) (λ e. tt)

out_settled_same : (s : Server) (pick : Pick) → PickSame s pick → PickSame s (settled_pick pick)
out_settled_same s None same = tt
out_settled_same s (Some pick) same =
    same_then s pick.0 (settled pick.0) same (settled_same pick.0)

out_same : (s : Server) (number : ℕ) → PickSame s (put_out s number)
out_same s number = by (out_place number s.outs)
  where
    by : (o : Option ℕ) → PickSame s (put_out_at s o)
    by None = tt
    by (Some place) =
        or_same s (put_out_greeting s place) (put_open s place)
        (out_greeting_same s place (slice_get s.outs place))
        (by_test (PickSame s) (is_open s.stage) (settled_pick (next_out s place)) None
        (λ e. out_settled_same s (next_out s place) (next_out_same s place)) (λ e. tt))

-- ---- legs

module _ (current : ℕ) where
  abbrev AreLegs : List InLeg → Type 0
  AreLegs ins = AllByRecursion (IsLegOf current) ins

  leg_set : (ins : List InLeg) (leg : InLeg) → IsLegOf current leg → AreLegs ins
      → AreLegs (set_at ins leg (in_place leg.number ins))
  leg_set ins leg is all = by (in_place leg.number ins)
    where
      by : (place : Option ℕ) → AreLegs (set_at ins leg place)
      by None = all
      by (Some place) = all_set (IsLegOf current) ins place leg is all

  leg_gone : (ins : List InLeg) (n : ℕ) → AreLegs ins → AreLegs (removed_at ins (in_place n ins))
  leg_gone ins n all = by (in_place n ins)
    where
      by : (place : Option ℕ) → AreLegs (removed_at ins place)
      by None = all
      by (Some place) = all_removed (IsLegOf current) ins place all

  leg_at : (ins : List InLeg) (place : Option ℕ) → AreLegs ins
      → IfSome (in_at ins place) (IsLegOf current)
  leg_at ins None all = tt
  leg_at ins (Some place) all = all_at (IsLegOf current) ins place all

-- the leg that is found by a number has it
numbered : (ins : List InLeg) (n : ℕ) (leg : InLeg) → in_leg n ins ≡ Some leg → leg.number ≡ n
numbered ins n leg e = by (in_place n ins) refl e
  where
    by : (place : Option ℕ) → in_place n ins ≡ place → in_at ins place ≡ Some leg
        → leg.number ≡ n
    by None p f = absurd cc
    by (Some place) p f =
        same_number leg.number n
        (found_passes (λ (one : InLeg). one.number == n) ins place leg p f)

known_leg : (P : InLeg → Type 0) (o : Option InLeg) (leg : InLeg) → o ≡ Some leg → IfSome o P
    → P leg
known_leg P o leg e is = subst (λ (x : Option InLeg). IfSome x P) e is

module _ (window n : ℕ) (is : IsWindow window) where
  abbrev leg : Leg
  leg = is_leg n

  abbrev Of : Seen → List Message → List Message → Type 0
  Of x came put = ReceivesOf window n x came put

  abbrev Fine : Server → List Message → List Message → Type 0
  Fine s came put = Kept window n s came put

  same_kept : (s t : Server) (came put : List Message) → Same s t → Fine s came put
      → Fine t came put
  same_kept s t came put same h = record {
    window_of = subst (λ (x : Seen). Of x came put) (sym same.same) h.window_of;
    opening = λ e.
        let before = h.opening (same.stage e) in (
          ap (λ (x : Seen). x.leg) same.same ∙ before.0,
          ap (λ (x : Seen). x.has_next) same.same ∙ before.1,
        );
  }

  -- ---- what came and was put besides

  came_on : (x : Seen) (came put more : List Message) → Of x came put → Of x (came ++ more) put
  came_on x came put more h = record {
    from_one = h.from_one;
    size = h.size;
    next_size = h.next_size;
    later = h.later;
    now = λ e. came_more x.current came put more (h.now e);
    behind = λ there e.
        let rise = bytes_rise came more in let before = h.behind there e in
        omega (arith, rise, before);
    next_shut = h.next_shut;
    followed = h.followed;
    shut = h.shut;
    told = h.told;
    legs = h.legs;
    acks = all_later (pdu_bytes came) (pdu_bytes (came ++ more)) put (bytes_rise came more) h.acks;
    room = let rise = bytes_rise came more in let before = h.room in omega (arith, rise, before);
  }

  kept_on : (s : Server) (came put more : List Message) → Fine s came put
      → Fine s (came ++ more) put
  kept_on s came put more h =
      record { window_of = came_on (seen s) came put more h.window_of; opening = h.opening }

  -- what was put there tells a window or not
  put_on : (x : Seen) (came put more : List Message)
      → (x.leg < n → greatest_edge more ≡ 0)
      → (x.leg ≡ n → greatest_edge more ≤ x.current.told)
      → AllByRecursion (IsTrueAck (pdu_bytes came)) more
      → greatest_edge more ≤ pdu_bytes came + window → Of x came put → Of x came (put ++ more)
  put_on x came put more none within true_acks room h = record {
    from_one = h.from_one;
    size = h.size;
    next_size = h.next_size;
    later = λ e.
        let all = edges_within 0 put more
        (let before = h.later e in omega (arith, before))
        (let here = none e in omega (arith, here)) in
        omega (arith, all);
    now = λ e. put_within x.current came put more (within e) (h.now e);
    behind = h.behind;
    next_shut = h.next_shut;
    followed = h.followed;
    shut = h.shut;
    told = h.told;
    legs = h.legs;
    acks = all_append (IsTrueAck (pdu_bytes came)) put more h.acks true_acks;
    room = edges_within (pdu_bytes came + window) put more h.room room;
  }

  -- a message on the leg of that number: it tells nothing, or its number is at most the current one
  put_quiet : (x : Seen) (number : ℕ) (came put : List Message) (m : Message) → edge_in m ≡ 0
      → IsTrueAck (pdu_bytes came) m → Of x came put
      → Of x came (put ++ on leg (is_leg number) m)
  put_quiet x number came put m none true_ack h =
      by (same_leg (is_leg number) leg)
    where
      by : (t : Bool) → Of x came (put ++ (if t then m ∷ [] else []))
      by true =
          put_on x came put (m ∷ []) (λ e. grind (arith, nat_tests, none))
          (λ e. grind (arith, nat_tests, none)) (true_ack, tt) (grind (arith, nat_tests, none)) h
      by false =
          put_on x came put [] (λ e. refl) (λ e. omega arith) tt (omega arith) h

  put_told : (x : Seen) (number : ℕ) (came put : List Message) (m : Message) → number ≤ x.leg
      → (number ≡ x.leg → edge_in m ≤ x.current.told)
      → (number ≡ n → IsTrueAck (pdu_bytes came) m)
      → (number ≡ n → edge_in m ≤ pdu_bytes came + window) → Of x came put
      → Of x came (put ++ on leg (is_leg number) m)
  put_told x number came put m low within true_ack room h =
      by (number == n) refl
    where
      by : (t : Bool) → number == n ≡ t → Of x came (put ++ (if t then m ∷ [] else []))
      by true e =
          let same = same_number number n e in
          put_on x came put (m ∷ []) (λ f. absurd (omega (arith, same, low, f)))
          (λ f. let edge = within (same ∙ sym f) in grind (arith, nat_tests, edge))
          (true_ack same, tt) (let edge = room same in grind (arith, nat_tests, edge)) h
      by false e =
          put_on x came put [] (λ f. refl) (λ f. omega arith) tt (omega arith) h

  -- ---- legs

  other_legs : (x : Seen) (ins : List InLeg) (came put : List Message)
      → AllByRecursion (IsLegOf x.leg) ins → Of x came put → Of (record x { ins = ins }) came put
  other_legs x ins came put all h = record {
    from_one = h.from_one;
    size = h.size;
    next_size = h.next_size;
    later = h.later;
    now = h.now;
    behind = h.behind;
    next_shut = h.next_shut;
    followed = h.followed;
    shut = h.shut;
    told = h.told;
    legs = all;
    acks = h.acks;
    room = h.room;
  }

  with_leg : (s : Server) (l : InLeg) (came put : List Message) → IsLegOf s.current.leg l
      → Fine s came put → Fine (with_in s l) came put
  with_leg s l came put is_l h = record {
    window_of = other_legs (seen s) (set_at s.ins l (in_place l.number s.ins)) came put
        (leg_set s.current.leg s.ins l is_l h.window_of.legs) h.window_of;
    opening = h.opening;
  }

  gone_kept : (s : Server) (number : ℕ) (came put : List Message) → Fine s came put
      → Fine (without_in s number) came put
  gone_kept s number came put h = record {
    window_of = other_legs (seen s) (removed_at s.ins (in_place number s.ins)) came put
        (leg_gone s.current.leg s.ins number h.window_of.legs) h.window_of;
    opening = h.opening;
  }

  -- the leg of a number is one of these
  its_leg : (s : Server) (number : ℕ) (l : InLeg) (came put : List Message)
      → in_leg number s.ins ≡ Some l → Fine s came put → IsLegOf s.current.leg l
  its_leg s number l came put e h =
      known_leg (IsLegOf s.current.leg) (in_leg number s.ins) l e
      (leg_at s.current.leg s.ins (in_place number s.ins) h.window_of.legs)

  -- ---- PDUs

  here : (number : ℕ) (m : Message) → number ≡ n → on leg (is_leg number) m ≡ m ∷ []
  here number m e =
      ap (λ (t : Bool). if t then m ∷ [] else [])
      (subst (λ (k : ℕ). same_leg (is_leg k) leg ≡ true) (sym e) (same_itself leg))

  came_pdu : (c : Incoming) (number : ℕ) (came : List Message) (bytes : List ℕ) → number ≡ n
      → c.window.received ≤ pdu_bytes came
      → (admitted c bytes).window.received ≤ pdu_bytes (came ++ on leg (is_leg number) (Pdu bytes))
  came_pdu c number came bytes e before =
      subst (λ (more : List Message). (admitted c bytes).window.received
      ≤ pdu_bytes (came ++ more)) (sym (here number (Pdu bytes) e))
      (received_more c came bytes before)

  pdu_now : (s : Server) (number : ℕ) (bytes : List ℕ) (came put : List Message)
      → number ≡ s.current.leg → Fine s came put
      → Fine (record s { line = after_admit s.line Current bytes })
      (came ++ on leg (is_leg number) (Pdu bytes)) put
  pdu_now s number bytes came put e h =
      let w = h.window_of in
      let more = on leg (is_leg number) (Pdu bytes) in
      let c = s.line.current in record {
        window_of = record {
          from_one = w.from_one;
          size = admitted_size c bytes ∙ w.size;
          next_size = w.next_size;
          later = w.later;
          now = λ f. record {
            received = came_pdu c number came bytes (e ∙ f) (w.now f).received;
            told =
                let same = admitted_told c bytes in let before = (w.now f).told in
                omega (arith, same, before);
          };
          behind = λ there f.
              let rise = bytes_rise came more in let before = w.behind there f in
              omega (arith, rise, before);
          next_shut = w.next_shut;
          followed = w.followed;
          shut = λ f. (admitted_told c bytes ∙ (w.shut f).0, (w.shut f).1);
          told = λ f.
              let same = admitted_told c bytes in let before = w.told f in
              omega (arith, same, before);
          legs = w.legs;
          acks = all_later (pdu_bytes came) (pdu_bytes (came ++ more)) put (bytes_rise came more)
              w.acks;
          room =
              let rise = bytes_rise came more in let before = w.room in
              omega (arith, rise, before);
        };
        opening = h.opening;
      }

  pdu_next : (s : Server) (number : ℕ) (bytes : List ℕ) (came put : List Message)
      → number ≡ s.next.leg → Fine s came put
      → Fine (record s { line = after_admit s.line Next bytes })
      (came ++ on leg (is_leg number) (Pdu bytes)) put
  pdu_next s number bytes came put e h =
      let w = h.window_of in
      let more = on leg (is_leg number) (Pdu bytes) in
      let c = s.line.next in record {
        window_of = record {
          from_one = w.from_one;
          size = w.size;
          next_size = admitted_size c bytes ∙ w.next_size;
          later = w.later;
          now = λ f. came_more s.line.current.window came put more (w.now f);
          behind = λ there f. came_pdu c number came bytes (e ∙ f) (w.behind there f);
          next_shut = admitted_told c bytes ∙ w.next_shut;
          followed = w.followed;
          shut = w.shut;
          told = w.told;
          legs = w.legs;
          acks = all_later (pdu_bytes came) (pdu_bytes (came ++ more)) put (bytes_rise came more)
              w.acks;
          room =
              let rise = bytes_rise came more in let before = w.room in
              omega (arith, rise, before);
        };
        opening = h.opening;
      }

  pdu_row : (s : Server) (number : ℕ) (bytes : List ℕ) (came put : List Message)
      → Fine s came put
      → RowKeeps Fine leg (is_leg number) (Pdu bytes) came put (pdu_by s number bytes InServer)
  pdu_row s number bytes came put h =
      by_test Row (is_open s.stage) (admitted_on s bytes (channel_at s number)) (unexpected s)
      (λ e. by_test (λ (o : Option Which). Row (admitted_on s bytes o))
      ((number == s.current.leg) && not s.line.finished) (Some Current) _
      (λ f. by Current (lines.admit_verdict s.line Current bytes)
      (pdu_now s number bytes came put (same_number number s.current.leg
      (and_parts (number == s.current.leg) (not s.line.finished) f).0) h))
      (λ f. by_test (λ (o : Option Which). Row (admitted_on s bytes o))
      (s.line.has_next && (number == s.next.leg)) (Some Next) None
      (λ g. by Next (lines.admit_verdict s.line Next bytes)
      (pdu_next s number bytes came put (same_number number s.next.leg
      (and_parts s.line.has_next (number == s.next.leg) g).1) h))
      (λ g. h)))
      (λ e. h)
    where
      Row : Done → Type 0
      Row x = RowKeeps Fine leg (is_leg number) (Pdu bytes) came put x

      by : (which : Which) (v : Result (Unit {0}) LineFault)
          → Fine (record s { line = after_admit s.line which bytes })
          (came ++ on leg (is_leg number) (Pdu bytes)) put
          → Row (admitted_by s which bytes v)
      by which (Ok taken) f = f
      by which (Err (Window exceeded)) f = h
      by which (Err Over) f = h

  -- ---- rows

  -- whatever comes is no less
  row_on : (other : Leg) (m : Message) (came put : List Message) (x : Done) → Fine x.0 came put
      → RowKeeps Fine leg other m came put x
  row_on other m came put (t, Ok taken) h = kept_on t came put (on leg other m) h
  row_on other m came put (t, Err why) h = h

  -- ---- the next channel

  opens_kept : (s : Server) (o : Option InLeg) (came put : List Message)
      → is_opening s.stage ≡ false → s.line.size ≡ window
      → IfSome o (IsLegOf s.current.leg) → Fine s came put → Fine (opens_leg s o) came put
  opens_kept s None came put opened size is_l h = h
  opens_kept s (Some l) came put opened size is_l h = by l.stage
    where
      opens : (line : Line) → line.current.window ≡ s.line.current.window
          → line.next.window ≡ windows.shut s.line.size → line.has_next ≡ true
          → Of (record (seen s) {
            current = line.current.window;
            next = line.next.window;
            has_next = line.has_next;
            finished = line.finished;
            next_leg = l.number;
          }) came put
      opens line same fresh there =
          let w = h.window_of in
          subst (λ (r : Receiver). Of (record (seen s) {
            current = r;
            next = line.next.window;
            has_next = line.has_next;
            finished = line.finished;
            next_leg = l.number;
          }) came put) (sym same)
          (subst (λ (r : Receiver). Of (record (seen s) {
            next = r;
            has_next = line.has_next;
            finished = line.finished;
            next_leg = l.number;
          }) came put) (sym fresh) (record {
            from_one = w.from_one;
            size = w.size;
            next_size = size;
            later = w.later;
            now = w.now;
            behind = λ a b. omega arith;
            next_shut = refl;
            followed = λ e. there;
            shut = w.shut;
            told = w.told;
            legs = w.legs;
            acks = w.acks;
            room = w.room;
          }))

      opened_line : Bool → Line
      opened_line ended = ended_if ended (after_open_next s.line true)

      waits_leg : (ended : Bool) → Of (record (seen s) {
        current = (opened_line ended).current.window;
        next = (opened_line ended).next.window;
        has_next = (opened_line ended).has_next;
        finished = (opened_line ended).finished;
        next_leg = l.number;
      }) came put
      waits_leg false = opens (opened_line false) refl refl refl
      waits_leg true = opens (opened_line true) refl refl refl

      by : (stage : InStage) → Fine (opens_next s l stage) came put
      by in_stage.Fresh = h
      by in_stage.Opened = h
      by (in_stage.Waits in_window timeout ended) = record {
        window_of = other_legs _ _ came put
            (leg_set s.current.leg s.ins
            (record l { stage = in_stage.Opened; tells = tells.InR1B2 })
            (record { left = is_l.left; first = λ e. absurd (false≢true e) })
            h.window_of.legs)
            (waits_leg ended);
        opening = λ e. absurd (true≢false (sym e ∙ opened));
      }

  next_kept : (s : Server) (came put : List Message) → is_opening s.stage ≡ false
      → s.line.size ≡ window → Fine s came put → Fine (next_opened s) came put
  next_kept s came put opened size h =
      by_test (λ (t : Server). Fine t came put)
      (s.line.has_next || waits kind.InR1A3 s.waiting) s (opens_leg s (first_waiting s.ins))
      (λ e. h)
      (λ e. opens_kept s (first_waiting s.ins) came put opened size
      (leg_at s.current.leg s.ins (waiting_place s.ins) h.window_of.legs) h)

  -- the next channel becomes the current one: nothing was told there
  current_kept : (s : Server) (l : Line) (came put : List Message) → l.has_next ≡ true
      → s.current.leg < s.next.leg → l.size ≡ window
      → Fine (record s { line = l }) came put
      → Fine (becomes_current (record s { line = moved_on l })) came put
  current_kept s l came put there above size h =
      next_kept t came put opened size (record {
        window_of = record {
          from_one = let one = w.from_one in omega (arith, one, above);
          size = w.next_size;
          next_size = size;
          later = λ e. w.later (omega (arith, e, above));
          now = λ e. record {
            received = w.behind there e;
            told =
                let none = w.later (omega (arith, e, above)) in omega (arith, none);
          };
          behind = λ f e. absurd (false≢true f);
          next_shut = refl;
          followed = λ e. absurd (false≢true e);
          shut = λ e. (w.next_shut, let one = w.from_one in omega (arith, one, above));
          told = λ e. absurd (true≢false e);
          legs = each_so (IsLegOf s.current.leg) (IsLegOf s.next.leg)
              (λ one is_l. record {
                left = λ e. let low = is_l.left e in omega (arith, low, above);
                first = is_l.first;
              }) s.ins w.legs;
          acks = w.acks;
          room = w.room;
        };
        opening = λ e. absurd (true≢false (sym e ∙ opened));
      })
    where
      t : Server
      t = record s { line = moved_on l; current = s.next; edge = edges.Shut }

      w : Of (seen (record s { line = l })) came put
      w = h.window_of

      opened : is_opening s.stage ≡ false
      opened = by (is_opening s.stage) refl
        where
          by : (b : Bool) → is_opening s.stage ≡ b → b ≡ false
          by true e = absurd (true≢false (sym there ∙ (h.opening e).1))
          by false e = refl

  not_moved : (had has : Bool) → has ≡ had → had && not has ≡ true → false ≡ true
  not_moved true true e f = f
  not_moved true false e f = e
  not_moved false has e f = f

  settles_kept : (s : Server) (l : Line) (came put : List Message)
      → (l.has_next ≡ true → s.current.leg < s.next.leg) → l.size ≡ window
      → Fine (record s { line = l }) came put
      → Fine (moved_if l.has_next (record s { line = settled_line l })) came put
  settles_kept s l came put above size h =
      by (l.finished && is_empty l.current.pdus)
      (λ e. h.window_of.followed (and_parts l.finished (is_empty l.current.pdus) e).0)
    where
      moves : (had : Bool) → l.has_next ≡ had → had ≡ true
          → Fine (moved_if had (record s { line = moved_on l })) came put
      moves true e f = current_kept s l came put e (above e) size h
      moves false e f = absurd (false≢true f)

      by : (b : Bool) → (b ≡ true → l.has_next ≡ true)
          → Fine (moved_if l.has_next (record s { line = if b then moved_on l else l })) came put
      by true there = moves l.has_next refl (there refl)
      by false there =
          by_test (λ (t : Server). Fine t came put) (l.has_next && not l.has_next)
          (becomes_current (record s { line = l })) (record s { line = l })
          (λ f. absurd (false≢true (not_moved l.has_next l.has_next refl f))) (λ f. h)

  -- ---- a PDU is taken

  take_kept : (s : Server) (came put : List Message) → Known window s → Fine s came put
      → Fine (take s) came put
  take_kept s came put known h = by s.line.current.pdus
    where
      released_kept : (pdu : List ℕ) (pdus : List (List ℕ))
          → Fine (record s {
            line = record s.line { current = released (pdu ∷ pdus) s.line.current };
          }) came put
      released_kept pdu pdus =
          let w = h.window_of in record {
            window_of = record {
              from_one = w.from_one;
              size = w.size;
              next_size = w.next_size;
              later = w.later;
              now = λ e. record { received = (w.now e).received; told = (w.now e).told };
              behind = w.behind;
              next_shut = w.next_shut;
              followed = w.followed;
              shut = w.shut;
              told = w.told;
              legs = w.legs;
              acks = w.acks;
              room = w.room;
            };
            opening = h.opening;
          }

      by : (pdus : List (List ℕ))
          → Fine (moved_if s.line.has_next (record s { line = taken_line pdus s.line })) came put
      by [] =
          by_test (λ (t : Server). Fine t came put) (s.line.has_next && not s.line.has_next)
          (becomes_current s) s
          (λ f. absurd (false≢true (not_moved s.line.has_next s.line.has_next refl f))) (λ f. h)
      by (pdu ∷ pdus) =
          settles_kept s (record s.line { current = released (pdu ∷ pdus) s.line.current }) came put
          known.above known.holds.size (released_kept pdu pdus)

  -- ---- CONN/B2

  first_kept : (s : Server) (cookie : Cookie) (o : Option InLeg) (came put : List Message)
      → in_leg 1 s.ins ≡ o → s.current.leg ≡ 1 → Fine s came put
      → Of (seen (first_in s cookie o)) came put
  first_kept s cookie None came put e one h = h.window_of
  first_kept s cookie (Some l) came put e one h =
      let is_l = its_leg s 1 l came put e h in
      let l' : InLeg = record l {
        cookie = cookie;
        stage = in_stage.Opened;
        tells = tells.ConnB3;
      } in
      subst (λ (k : ℕ). Of (record (seen s) {
        leg = k;
        ins = set_at s.ins l' (in_place l.number s.ins);
      }) came put) one
      (other_legs (seen s) (set_at s.ins l' (in_place l.number s.ins)) came put
      (leg_set s.current.leg s.ins l'
      (record { left = is_l.left; first = λ f. numbered s.ins 1 l e }) h.window_of.legs)
      h.window_of)

  conn_b2_kept : (s : Server) (number : ℕ) (count : Count) (a b : Cookie) (c d : ℕ)
      (came put : List Message) → Fine s came put
      → Fine (on_conn_b2 s number count a b c d).0 came put
  conn_b2_kept s number count a b c d came put h =
      by_test (λ (x : Done). Fine x.0 came put) _ (conn_b2_at s s.stage a b c d) (unexpected s)
      (λ e. by s.stage refl) (λ e. h)
    where
      opened : (t : Stage) → s.stage ≡ t → is_opening t ≡ true
          → Of (seen (with_first_in s b)) came put
      opened t e f =
          first_kept s b (in_leg 1 s.ins) came put refl (h.opening (ap is_opening e ∙ f)).0 h

      by : (stage : Stage) → s.stage ≡ stage → Fine (conn_b2_at s stage a b c d).0 came put
      by stages.Waits e = record {
        window_of = opened stages.Waits e refl;
        opening = λ f. absurd (false≢true f);
      }
      by (stages.OutCame known) e =
          by_test (λ (x : Done). Fine x.0 came put) (same_cookie known a)
          (took (opens (with_first_in s b) known c d)) (refuse s (refused.Cookie known a))
          (λ f. record {
            window_of = opened (stages.OutCame known) e refl;
            opening = λ g. absurd (false≢true g);
          })
          (λ f. h)
      by (stages.InCame known in_window timeout) e = h
      by (stages.Open known) e = h
      by stages.Ended e = h

  -- ---- IN_R1/A2

  a2_leg : (s : Server) (number : ℕ) (a b c d : Cookie) (e f : ℕ) (o : Option InLeg)
      (came put : List Message) → in_leg number s.ins ≡ o → is_opening s.stage ≡ false
      → Known window s → Fine s came put → Fine (in_r1_a2_by s a b c d e f o).0 came put
  a2_leg s number a b c d e f None came put at opened known h = h
  a2_leg s number a b c d e f (Some l) came put at opened known h =
      by_test (λ (x : Done). Fine x.0 came put) (not (is_fresh l.stage)) (unexpected s) _ (λ g. h)
      (λ g. by_test (λ (x : Done). Fine x.0 came put) (not (same_cookie a b))
      (refuse s (refused.Cookie a b)) _ (λ g. h)
      (λ g. by_test (λ (x : Done). Fine x.0 came put) (not (same_cookie s.newest.cookie c))
      (refuse s (refused.Cookie s.newest.cookie c)) (took (announced s l d e f)) (λ g. h)
      (λ g. next_kept t came put opened known.holds.size
      (with_leg r waiting came put (record { left = is_l.left; first = is_l.first })
      (record { window_of = h.window_of; opening = h.opening })))))
    where
      is_l : IsLegOf s.current.leg l
      is_l = its_leg s number l came put at h

      waiting : InLeg
      waiting = record l { cookie = d; stage = in_stage.Waits e f false }

      r : Server
      r = record s { newest = record { leg = l.number; cookie = d } }

      t : Server
      t = with_in r waiting

  a2_stage : (s : Server) (stage : Stage) (number : ℕ) (a b c : Cookie) (d e : ℕ)
      (came put : List Message) → s.stage ≡ stage → Known window s → Fine s came put
      → Fine (in_r1_a2_at s stage number a b c d e).0 came put
  a2_stage s (stages.Open known) number a b c d e came put at k h =
      a2_leg s number known a b c d e (in_leg number s.ins) came put refl (ap is_opening at) k h
  a2_stage s stages.Waits number a b c d e came put at k h = h
  a2_stage s (stages.OutCame known) number a b c d e came put at k h = h
  a2_stage s (stages.InCame known in_window timeout) number a b c d e came put at k h = h
  a2_stage s stages.Ended number a b c d e came put at k h = h

  in_r1_a2_kept : (s : Server) (number : ℕ) (count : Count) (a b c : Cookie) (d e : ℕ)
      (came put : List Message) → Known window s → Fine s came put
      → Fine (on_in_r1_a2 s number count a b c d e).0 came put
  in_r1_a2_kept s number count a b c d e came put k h =
      by_test (λ (x : Done). Fine x.0 came put)
      (is_first count && not (has_fresh_below number s.ins))
      (in_r1_a2_at s s.stage number a b c d e) (unexpected s)
      (λ f. a2_stage s s.stage number a b c d e came put refl k h) (λ f. h)

  -- ---- IN_R1/A6

  hands_kept : (s : Server) (number : ℕ) (came put : List Message) → number ≡ s.current.leg
      → s.line.has_next ≡ true → Known window s → Fine s came put
      → Fine (hands_over s number) came put
  hands_kept s number came put same there k h =
      subst (λ (had : Bool). Fine (moved_if had
      (record (leaves_by s (in_leg number s.ins)) { line = settled_line l })) came put) there
      (by (in_leg number s.ins) refl)
    where
      l : Line
      l = record s.line { finished = true }

      finished : (t : Server) → t.line ≡ s.line → Fine t came put
          → Fine (record t { line = l }) came put
      finished t e f =
          let w : Of (record (seen t) {
            current = s.line.current.window;
            next = s.line.next.window;
            has_next = s.line.has_next;
            finished = s.line.finished;
          }) came put = subst (λ (x : Line). Of (record (seen t) {
            current = x.current.window;
            next = x.next.window;
            has_next = x.has_next;
            finished = x.finished;
          }) came put) e f.window_of in record {
            window_of = record {
              from_one = w.from_one;
              size = w.size;
              next_size = w.next_size;
              later = w.later;
              now = w.now;
              behind = w.behind;
              next_shut = w.next_shut;
              followed = λ g. there;
              shut = w.shut;
              told = w.told;
              legs = w.legs;
              acks = w.acks;
              room = w.room;
            };
            opening = λ g.
                ((f.opening g).0, ap (λ (x : Line). x.has_next) (sym e) ∙ (f.opening g).1);
          }

      by : (o : Option InLeg) → in_leg number s.ins ≡ o
          → Fine (moved_if l.has_next (record (leaves_by s o) { line = settled_line l })) came put
      by None e =
          settles_kept s l came put k.above k.holds.size (finished s refl h)
      by (Some one) e =
          let is_l = its_leg s number one came put e h in
          let t : Server = leaves_by s (Some one) in
          settles_kept t l came put k.above k.holds.size
          (finished t refl (with_leg s (record one { leaving = leaving.InR1B1 }) came put (record {
            left = λ f.
                let is = numbered s.ins number one e in omega (arith, is, same);
            first = is_l.first;
          }) h))

  in_r1_a6_kept : (s : Server) (number : ℕ) (cookie : Cookie) (came put : List Message)
      → Known window s → Fine s came put → Fine (on_in_r1_a6 s number cookie).0 came put
  in_r1_a6_kept s number cookie came put k h =
      by_test (λ (d : Done). Fine d.0 came put)
      ((number == s.current.leg)
      && (not s.line.finished && (s.line.has_next && not (waits kind.InR1A3 s.waiting))))
      (if same_cookie s.next.cookie cookie then took (hands_over s number)
      else refuse s (refused.Cookie s.next.cookie cookie))
      (unexpected s)
      (λ e. by_test (λ (d : Done). Fine d.0 came put) (same_cookie s.next.cookie cookie)
      (took (hands_over s number)) (refuse s (refused.Cookie s.next.cookie cookie))
      (λ f. hands_kept s number came put
      (same_number number s.current.leg (and_parts (number == s.current.leg) _ e).0)
      (there e) k h) (λ f. h))
      (λ e. h)
    where
      there : (number == s.current.leg)
          && (not s.line.finished && (s.line.has_next && not (waits kind.InR1A3 s.waiting))) ≡ true
          → s.line.has_next ≡ true
      there e =
          (and_parts s.line.has_next (not (waits kind.InR1A3 s.waiting))
          (and_parts (not s.line.finished) _ (and_parts (number == s.current.leg) _ e).1).1).0

  -- ---- END/A2

  end_on_leg : (s : Server) (number : ℕ) (o : Option InLeg) (came put : List Message)
      → in_leg number s.ins ≡ o → Fine s came put → Fine (end_a2_waiting s o).0 came put
  end_on_leg s number None came put at h = h
  end_on_leg s number (Some l) came put at h = by l.stage
    where
      by : (stage : InStage) → Fine (end_a2_on_leg s l stage).0 came put
      by in_stage.Fresh = h
      by in_stage.Opened = h
      by (in_stage.Waits in_window timeout ended) =
          let is_l = its_leg s number l came put at h in
          by_test (λ (d : Done). Fine d.0 came put) ended (unexpected s) _ (λ e. h)
          (λ e. with_leg s (record l { stage = in_stage.Waits in_window timeout true }) came put
          (record { left = is_l.left; first = is_l.first }) h)

  end_at : (s : Server) (number : ℕ) (o : Option Which) (came put : List Message)
      → Fine s came put → Fine (end_a2_at s number o).0 came put
  end_at s number None came put h =
      end_on_leg s number (in_leg number s.ins) came put refl h
  end_at s number (Some Current) came put h =
      by_test (λ (d : Done). Fine d.0 came put) (is_over_on s Current) (unexpected s) _ (λ e. h)
      (λ e. record { window_of = h.window_of; opening = h.opening })
  end_at s number (Some Next) came put h =
      by_test (λ (d : Done). Fine d.0 came put) (is_over_on s Next) (unexpected s) _ (λ e. h)
      (λ e. record { window_of = h.window_of; opening = h.opening })

  end_kept : (s : Server) (number : ℕ) (count : Count) (came put : List Message)
      → Fine s came put → Fine (on_end_a2 s number count).0 came put
  end_kept s number count came put h =
      by_test (λ (d : Done). Fine d.0 came put) (is_first count) (unexpected s)
      (end_a2_at s number (channel_at s number)) (λ e. h)
      (λ e. end_at s number (channel_at s number) came put h)

  -- ---- all packets

  is_kept : (s : Server) (number : ℕ) (count : Count) (packet : Named) (came put : List Message)
      → Known window s → Fine s came put → Fine (on_is s number count packet).0 came put
  is_kept s number count (named.ConnB2 v1 v2 v3 v4 v5 v6 v7 v8) came put k h =
      conn_b2_kept s number count v2 v3 v4 v5 came put h
  is_kept s number count (named.InR1A2 v1 v2 v3 v4 v5 v6) came put k h =
      in_r1_a2_kept s number count v2 v3 v4 v5 v6 came put k h
  is_kept s number count (named.InR1A6 v1) came put k h =
      in_r1_a6_kept s number v1 came put k h
  is_kept s number count (named.InR2A2 v1) came put k h =
      same_kept s (on_in_r2_a2 s number count v1).0 came put (in_r2_a2_same s number count v1) h
  is_kept s number count (named.AckTo v1 v2 v3 v4) came put k h =
      same_kept s (on_ack_to s count v1 v2 v3 v4).0 came put (ack_to_same s count v1 v2 v3 v4) h
  is_kept s number count (named.OutR1A8 v1 v2) came put k h =
      same_kept s (on_out_r1_a8 s count v1 v2).0 came put (out_r1_a8_same s count v1 v2) h
  is_kept s number count named.EndA2 came put k h = end_kept s number count came put h
  is_kept s number count packet came put k h = h

  os_kept : (s : Server) (number : ℕ) (count : Count) (packet : Named) (came put : List Message)
      → Fine s came put → Fine (on_os s number count packet).0 came put
  os_kept s number count (named.ConnA2 v1 v2 v3 v4 v5) came put h =
      same_kept s (on_conn_a2 s number count v2 v3 v4 v5).0 came put
      (conn_a2_same s number count v2 v3 v4 v5) h
  os_kept s number count (named.OutR1A4 v1 v2 v3 v4 v5 v6 v7) came put h =
      same_kept s (on_out_r1_a4 s number count v2 v3 v4 v5 v6 v7).0 came put
      (out_r1_a4_same s number count v2 v3 v4 v5 v6 v7) h
  os_kept s number count (named.Ack v1 v2 v3) came put h =
      same_kept s (on_ack s number count v1 v2 v3).0 came put (ack_same s number count v1 v2 v3) h
  os_kept s number count (named.PingTraffic v1) came put h =
      same_kept s (on_ping_traffic s count).0 came put (ping_same s count) h
  os_kept s number count packet came put h = h

  packet_kept : (s : Server) (number : ℕ) (count : Count) (packet : Named) (kind : LegKind)
      (came put : List Message) → Known window s → Fine s came put
      → Fine (packet_by s number count packet kind).0 came put
  packet_kept s number count packet InServer came put k h =
      is_kept s number count packet came put k h
  packet_kept s number count packet OutServer came put k h =
      os_kept s number count packet came put h
  packet_kept s number count packet ClientIn came put k h = h
  packet_kept s number count packet ClientOut came put k h = h

  -- ---- legs come up, are drawn and lost

  up_kept : (s : Server) (other : Leg) (cookie : Cookie) (came put : List Message)
      → Fine s came put → Fine (up s other cookie) came put
  up_kept s other cookie came put h =
      by_test (λ (t : Server). Fine t came put) (may_up_by s other.number other.kind)
      (up_by s other.number other.kind) s (λ e. by other.kind) (λ e. h)
    where
      by : (kind : LegKind) → Fine (up_by s other.number kind) came put
      by InServer = record {
        window_of = other_legs (seen s) (s.ins ++ in_leg_up other.number ∷ []) came put
            (all_append (IsLegOf s.current.leg) s.ins (in_leg_up other.number ∷ [])
            h.window_of.legs
            (record { left = λ e. absurd (true≢false e); first = λ e. absurd (false≢true e) }, tt))
            h.window_of;
        opening = h.opening;
      }
      by OutServer = record { window_of = h.window_of; opening = h.opening }
      by ClientIn = h
      by ClientOut = h

  settles : (s : Server) (came put : List Message) → Fine s came put
      → Fine (settled s) came put
  settles s came put h = same_kept s (settled s) came put (settled_same s) h

  drawn_kept : (s : Server) (number : ℕ) (kind : LegKind) (came put : List Message)
      → Fine s came put → Fine (drawn_by s number kind) came put
  drawn_kept s number InServer came put h =
      by_test (λ (t : Server). Fine t came put) (in_is_drawn (in_leg number s.ins))
      (settled (without_in s number)) s
      (λ e. settles (without_in s number) came put (gone_kept s number came put h)) (λ e. h)
  drawn_kept s number OutServer came put h = h
  drawn_kept s number ClientIn came put h = h
  drawn_kept s number ClientOut came put h = h

  lost_kept : (s : Server) (number : ℕ) (o : Option InLeg) (came put : List Message)
      → in_leg number s.ins ≡ o → Fine s came put → Fine (lost_in s number o) came put
  lost_kept s number None came put at h = gone_kept s number came put h
  lost_kept s number (Some l) came put at h =
      let is_l = its_leg s number l came put at h in
      by_test (λ (t : Server). Fine t came put) (is_waiting l.stage && stays l.leaving) _ _
      (λ e. with_leg s (record l { leaving = leaving.Lost }) came put
      (record { left = λ f. absurd (true≢false f); first = is_l.first }) h)
      (λ e. gone_kept s number came put h)

  mark_kept : (s : Server) (number : ℕ) (kind : LegKind) (came put : List Message)
      → Fine s came put → Fine (mark_by s number kind) came put
  mark_kept s number InServer came put h =
      settles (lost_in s number (in_leg number s.ins)) came put
      (lost_kept s number (in_leg number s.ins) came put refl h)
  mark_kept s number OutServer came put h =
      settles (without_out (with_ack_dropped s number) number) came put
      (record { window_of = h.window_of; opening = h.opening })
  mark_kept s number ClientIn came put h = h
  mark_kept s number ClientOut came put h = h

  -- ---- what is put on an is leg

  abbrev Puts : ℕ → List Message → List Message → Pick → Type 0
  Puts number came put pick = PutKeeps Fine leg (is_leg number) came put pick

  or_put : (number : ℕ) (came put : List Message) (a b : Pick) → Puts number came put a
      → Puts number came put b → Puts number came put (or_else a b)
  or_put number came put None b h k = k
  or_put number came put (Some pick) b h k = h

  -- the leg says another thing, and what was put tells nothing
  leg_put : (s : Server) (number : ℕ) (l : InLeg) (m : Message) (came put : List Message)
      → edge_in m ≡ 0 → IsTrueAck (pdu_bytes came) m → IsLegOf s.current.leg l
      → Fine s came put → Fine (with_in s l) came (put ++ on leg (is_leg number) m)
  leg_put s number l m came put none true_ack is_l h =
      with_leg s l came (put ++ on leg (is_leg number) m) is_l (record {
        window_of = put_quiet (seen s) number came put m none true_ack h.window_of;
        opening = h.opening;
      })

  -- the window is told: the leg is the current one or one before it
  window_put : (s : Server) (number : ℕ) (l : InLeg) (packet : Named) (came put : List Message)
      → edge_told packet ≡ window → IsTrueAck (pdu_bytes came) (Packet packet)
      → number ≤ s.current.leg → (number ≡ s.current.leg → window ≤ s.line.current.window.told)
      → IsLegOf s.current.leg l → Fine s came put
      → Fine (with_in s l) came (put ++ on leg (is_leg number) (Packet packet))
  window_put s number l packet came put told true_ack low within is_l h =
      with_leg s l came (put ++ on leg (is_leg number) (Packet packet)) is_l (record {
        window_of = put_told (seen s) number came put (Packet packet) low
            (λ e. let edge = within e in omega (arith, told, edge)) (λ e. true_ack)
            (λ e. omega (arith, told)) h.window_of;
        opening = h.opening;
      })

  conn_b3_put : (s : Server) (number : ℕ) (l : InLeg) (came put : List Message)
      → in_leg number s.ins ≡ Some l → l.tells ≡ tells.ConnB3 → Known window s → Fine s came put
      → Fine (with_in s (record l { tells = tells.Nothing })) came
      (put ++ on leg (is_leg number) (Packet (named.ConnB3 s.line.size 1)))
  conn_b3_put s number l came put at due k h =
      let is_l = its_leg s number l came put at h in
      let one : number ≡ 1 =
      sym (numbered s.ins number l at) ∙ is_l.first (ap is_conn_b3 due) in
      let w = h.window_of in
      window_put s number (record l { tells = tells.Nothing }) (named.ConnB3 s.line.size 1) came put
      k.holds.size tt (let first = w.from_one in omega (arith, first, one))
      (λ e. w.told (not_shut (sym e ∙ one)))
      (record { left = is_l.left; first = λ e. absurd (false≢true e) }) h
    where
      not_shut : s.current.leg ≡ 1 → is_shut s.edge ≡ false
      not_shut e = by (is_shut s.edge) refl
        where
          by : (b : Bool) → is_shut s.edge ≡ b → b ≡ false
          by true f =
              let above = (h.window_of.shut f).1 in absurd (omega (arith, above, e))
          by false f = refl

  -- IN_R1/B2 tells the window where that is shut
  told_kept : (s : Server) (came put : List Message) → is_shut s.edge ≡ true → Fine s came put
      → Fine (record s { line = after_tell s.line Current; edge = edges.Told }) came put
  told_kept s came put shut h =
      let w = h.window_of in
      let none = (w.shut shut).0 in
      let size = w.size in record {
        window_of = record {
          from_one = w.from_one;
          size = w.size;
          next_size = w.next_size;
          later = w.later;
          now = λ e. record {
            received = (w.now e).received;
            told = let before = (w.now e).told in omega (arith, before, none);
          };
          behind = w.behind;
          next_shut = w.next_shut;
          followed = w.followed;
          shut = λ e. absurd (false≢true e);
          told = λ e. omega (arith, size);
          legs = w.legs;
          acks = w.acks;
          room = w.room;
        };
        opening = h.opening;
      }

  in_r1_b2_put : (s : Server) (number : ℕ) (l : InLeg) (came put : List Message)
      → in_leg number s.ins ≡ Some l → was_current s l ≡ true → Known window s → Fine s came put
      → Fine (with_in (told_by s l.number) (record l { tells = tells.Nothing })) came
      (put ++ on leg (is_leg number) (Packet (named.InR1B2 s.line.size)))
  in_r1_b2_put s number l came put at was k h =
      by ((l.number == s.current.leg) && is_shut s.edge) refl
    where
      is_l : IsLegOf s.current.leg l
      is_l = its_leg s number l came put at h

      same : l.number ≡ number
      same = numbered s.ins number l at

      is_next : IsLegOf s.current.leg (record l { tells = tells.Nothing })
      is_next = record { left = is_l.left; first = λ e. absurd (false≢true e) }

      low : number ≤ s.current.leg
      low = at_most (l.number == s.current.leg) refl was
        where
          at_most : (b : Bool) → l.number == s.current.leg ≡ b
              → b || not (stays l.leaving) ≡ true → number ≤ s.current.leg
          at_most true e f =
              let here = same_number l.number s.current.leg e in omega (arith, here, same)
          at_most false e f =
              let left = is_l.left (turned (stays l.leaving) f) in omega (arith, left, same)
            where
              turned : (b : Bool) → not b ≡ true → b ≡ false
              turned true e = absurd (false≢true e)
              turned false e = refl

      was_told : (l.number == s.current.leg) && is_shut s.edge ≡ false → number ≡ s.current.leg
          → is_shut s.edge ≡ false
      was_told e f = second (l.number == s.current.leg) (is_shut s.edge) (current f) e
        where
          current : number ≡ s.current.leg → (l.number == s.current.leg) ≡ true
          current f = grind (arith, nat_tests, f, same)

          second : (a b : Bool) → a ≡ true → a && b ≡ false → b ≡ false
          second true b e f = f
          second false b e f = absurd (false≢true e)

      by : (b : Bool) → (l.number == s.current.leg) && is_shut s.edge ≡ b
          → Fine (with_in (if b then
          record s { line = after_tell s.line Current; edge = edges.Told } else s)
          (record l { tells = tells.Nothing })) came
          (put ++ on leg (is_leg number) (Packet (named.InR1B2 s.line.size)))
      by true e =
          let size = h.window_of.size in
          window_put (record s { line = after_tell s.line Current; edge = edges.Told }) number
          (record l { tells = tells.Nothing }) (named.InR1B2 s.line.size) came put k.holds.size tt
          low (λ f. omega (arith, size)) is_next
          (told_kept s came put
          (and_parts (l.number == s.current.leg) (is_shut s.edge) e).1 h)
      by false e =
          window_put s number (record l { tells = tells.Nothing }) (named.InR1B2 s.line.size) came
          put k.holds.size tt low (λ f. h.window_of.told (was_told e f)) is_next h

  tells_put : (s : Server) (number : ℕ) (l : InLeg) (what : Tells) (came put : List Message)
      → in_leg number s.ins ≡ Some l → l.tells ≡ what → Known window s → Fine s came put
      → Puts number came put (put_tells_by s l what)
  tells_put s number l tells.Nothing came put at due k h = tt
  tells_put s number l tells.ConnB3 came put at due k h =
      by_test (Puts number came put) (is_open s.stage) _ None
      (λ e. conn_b3_put s number l came put at due k h) (λ e. tt)
  tells_put s number l tells.InR1B2 came put at due k h =
      by_test (Puts number came put) (was_current s l) _ None
      (λ e. in_r1_b2_put s number l came put at e k h) (λ e. tt)

  b1_put : (s : Server) (number : ℕ) (l : InLeg) (how : Leaving) (came put : List Message)
      → in_leg number s.ins ≡ Some l → l.leaving ≡ how → Fine s came put
      → Puts number came put (put_b1_by s l how)
  b1_put s number l leaving.Stays came put at e h = tt
  b1_put s number l leaving.Left came put at e h = tt
  b1_put s number l leaving.Lost came put at e h = tt
  b1_put s number l leaving.InR1B1 came put at e h =
      let is_l = its_leg s number l came put at h in
      leg_put s number (record l { leaving = leaving.Left }) (Packet named.InR1B1) came put refl tt
      (record { left = λ f. is_l.left (ap stays e); first = is_l.first }) h

  -- an acknowledgement is of what came, and tells where the window reaches
  ack_kept : (s : Server) (number : ℕ) (ack : Ack) (cookie : Cookie) (came put : List Message)
      → number ≡ s.current.leg → due s.line Current ≡ Some ack → Known window s
      → Fine s came put
      → Fine (record s { line = after_told s.line Current ack }) came
      (put ++ on leg (is_leg number) (Packet (named.Ack ack.received ack.available cookie)))
  ack_kept s number ack cookie came put same e k h =
      record {
        window_of = put_told (seen t) number came put
            (Packet (named.Ack ack.received ack.available cookie)) (omega (arith, same))
            (λ f. omega arith)
            (λ f.
            let received = d.received in
            let before = (w.now (sym same ∙ f)).received in
            let available = d.size in
            let size = w.size in
            let greatest = is.greatest in (
              omega (arith, received, before),
              omega (arith, available, size, greatest),
            ))
            (λ f.
            let received = d.received in
            let before = (w.now (sym same ∙ f)).received in
            let available = d.size in
            let size = w.size in
            omega (arith, received, before, available, size)) told;
        opening = h.opening;
      }
    where
      w : Of (seen s) came put
      w = h.window_of

      d : IsDueAck s.line.current.window ack
      d = due_is s.line.current window ack k.holds.current.within e

      t : Server
      t = record s { line = after_told s.line Current ack }

      told : Of (seen t) came put
      told =
          let more = d.more in record {
            from_one = w.from_one;
            size = w.size;
            next_size = w.next_size;
            later = w.later;
            now = λ f. record {
              received = (w.now f).received;
              told = let before = (w.now f).told in omega (arith, before, more);
            };
            behind = w.behind;
            next_shut = w.next_shut;
            followed = w.followed;
            shut = λ f.
                let none = (w.shut f).0 in let some = d.opened in
                absurd (omega (arith, none, some));
            told = λ f. let before = w.told f in omega (arith, before, more);
            legs = w.legs;
            acks = w.acks;
            room = w.room;
          }

  ack_put : (s : Server) (number : ℕ) (l : InLeg) (came put : List Message)
      → in_leg number s.ins ≡ Some l → Known window s → Fine s came put
      → Puts number came put (put_ack s l)
  ack_put s number l came put at k h =
      by_test (λ (o : Option Ack). Puts number came put (put_ack_by s o))
      ((l.number == s.current.leg) && (not s.line.finished && not s.line.current.ended))
      (due s.line Current) None
      (λ e. by (due s.line Current) refl (sym (numbered s.ins number l at)
      ∙ same_number l.number s.current.leg (and_parts (l.number == s.current.leg) _ e).0))
      (λ e. tt)
    where
      by : (o : Option Ack) → due s.line Current ≡ o → number ≡ s.current.leg
          → Puts number came put (put_ack_by s o)
      by None e same = tt
      by (Some ack) e same = ack_kept s number ack s.current.cookie came put same e k h

  next_in_put : (s : Server) (number : ℕ) (l : InLeg) (came put : List Message)
      → in_leg number s.ins ≡ Some l → Known window s → Fine s came put
      → Puts number came put (next_in s l)
  next_in_put s number l came put at k h =
      let is_l = its_leg s number l came put at h in
      or_put number came put (put_in_greeting s l) _
      (by_test (Puts number came put) (is_due l.greeting) _ None
      (λ e. leg_put s number (record l { greeting = greetings.Put }) (Text greeting_text) came put
      refl tt (record { left = is_l.left; first = is_l.first }) h) (λ e. tt))
      (or_put number came put (put_tells s l) _ (tells_put s number l l.tells came put at refl k h)
      (or_put number came put (put_b1 s l) (put_ack s l)
      (b1_put s number l l.leaving came put at refl h)
      (ack_put s number l came put at k h)))

  in_put : (s : Server) (number : ℕ) (o : Option InLeg) (came put : List Message)
      → in_leg number s.ins ≡ o → Known window s → Fine s came put
      → Puts number came put (put_in_by s o)
  in_put s number None came put at k h = tt
  in_put s number (Some l) came put at k h = next_in_put s number l came put at k h

  -- ---- what is put on any leg

  put_kept : (s : Server) (number : ℕ) (kind : LegKind) (came put : List Message)
      → Known window s → Fine s came put
      → PutKeeps Fine leg (record { kind = kind; number = number }) came put
      (put_by_kind s number kind)
  put_kept s number InServer came put k h =
      in_put s number (in_leg number s.ins) came put refl k h
  put_kept s number OutServer came put k h = by (put_out s number) (out_same s number)
    where
      by : (pick : Pick) → PickSame s pick
          → PutKeeps Fine leg (record { kind = OutServer; number = number }) came put pick
      by None same = tt
      by (Some one) same =
          subst (λ (all : List Message). Fine one.0 came all) (sym (append-nil put))
          (same_kept s one.0 came put same h)
  put_kept s number ClientIn came put k h = tt
  put_kept s number ClientOut came put k h = tt

  -- ---- the server

  pdu_kept : (s : Server) (number : ℕ) (bytes : List ℕ) (kind : LegKind)
      (came put : List Message) → Fine s came put
      → RowKeeps Fine leg (record { kind = kind; number = number }) (Pdu bytes) came put
      (pdu_by s number bytes kind)
  pdu_kept s number bytes InServer came put h = pdu_row s number bytes came put h
  pdu_kept s number bytes OutServer came put h = h
  pdu_kept s number bytes ClientIn came put h = h
  pdu_kept s number bytes ClientOut came put h = h

  steps : StepsKeep server_rules leg (Known window) Fine
  steps = record {
    up = λ s other cookie came put k. up_kept s other cookie came put;
    head = λ s other text came put k h. h;
    pdu = λ s other count bytes came put k.
        pdu_kept s other.number bytes other.kind came put;
    packet = λ s other count packet came put k h.
        row_on other (Packet packet) came put
        (packet_by s other.number count packet other.kind)
        (packet_kept s other.number count packet other.kind came put k h);
    put = λ s other came put k. put_kept s other.number other.kind came put k;
    drawn = λ s other came put k. drawn_kept s other.number other.kind came put;
    mark = λ s other came put k. mark_kept s other.number other.kind came put;
    ping = λ s other came put k h. h;
  }

  calls : ActsKeep server_acts (Known window) Fine
  calls = record {
    give = λ s bytes came put k.
        same_kept s (give s bytes).0 came put (give_same s bytes);
    take = take_kept;
    close = λ s came put k h. record { window_of = h.window_of; opening = h.opening };
    recycle = λ s came put k. same_kept s (recycle s).0 came put (recycle_same s);
  }

  starts : Fine (first window) [] []
  starts = record {
    window_of = record {
      from_one = omega arith;
      size = refl;
      next_size = refl;
      later = λ e. refl;
      now = λ e. record { received = omega arith; told = omega arith };
      behind = λ there e. omega arith;
      next_shut = refl;
      followed = λ e. absurd (false≢true e);
      shut = λ e. absurd (false≢true e);
      told = λ e. omega arith;
      legs = tt;
      acks = tt;
      room = omega arith;
    };
    opening = λ e. (refl, refl);
  }

  -- ---- what is refused

  refused_pdu : (s : Server) (pdu : List ℕ) (came put : List Message) → Known window s
      → Fine s came put
      → RefusesBehind (greatest_edge put) (pdu_bytes came + length pdu)
      (pdu_by s n pdu InServer).1
  refused_pdu s pdu came put k h =
      by_test Row (is_open s.stage) (admitted_on s pdu (channel_at s n)) (unexpected s)
      (λ e. by_test (λ (o : Option Which). Row (admitted_on s pdu o))
      ((n == s.current.leg) && not s.line.finished) (Some Current) _
      (λ f. by Current (h.window_of.now (sym (same_number n s.current.leg
      (and_parts (n == s.current.leg) (not s.line.finished) f).0))))
      (λ f. by_test (λ (o : Option Which). Row (admitted_on s pdu o))
      (s.line.has_next && (n == s.next.leg)) (Some Next) None
      (λ g. by Next (next (and_parts s.line.has_next (n == s.next.leg) g).0
      (same_number n s.next.leg (and_parts s.line.has_next (n == s.next.leg) g).1)))
      (λ g. tt)))
      (λ e. tt)
    where
      Row : Done → Type 0
      Row x = RefusesBehind (greatest_edge put) (pdu_bytes came + length pdu) x.1

      next : s.line.has_next ≡ true → n ≡ s.next.leg → Receives s.line.next.window came put
      next there e =
          let none = h.window_of.later (let above = k.above there in omega (arith, above, e)) in
          record { received = h.window_of.behind there (sym e); told = omega (arith, none) }

      verdict : (which : Which) (v : Result (Unit {0}) LineFault)
          → IsBehind (greatest_edge put) (pdu_bytes came + length pdu) v
          → Row (admitted_by s which pdu v)
      verdict which (Ok taken) is_behind = tt
      verdict which (Err (Window exceeded)) is_behind = is_behind
      verdict which (Err Over) is_behind = tt

      by : (which : Which) → Receives (lines.channel_of s.line which).window came put
          → Row (admitted_on s pdu (Some which))
      by which r =
          verdict which (lines.admit_verdict s.line which pdu)
          (refused_behind (lines.channel_of s.line which) came put pdu r)

  -- ---- what is held

  abbrev Room : List Message → List Message → ℕ → Type 0
  Room came put holds = HasRoom window holds came put

  has_room : (s : Server) (came put : List Message) → Known window s → Fine s came put
      → Room came put (held_by_server n s)
  has_room s came put k h =
      let w = h.window_of in
      by_test (Room came put) (s.current.leg == n) (total s.line.current.pdus)
      (if s.line.has_next && (s.next.leg == n) then total s.line.next.pdus else 0)
      (λ e. room_of s.line.current window came put k.holds.current.within
      (w.now (same_number s.current.leg n e)))
      (λ e. by_test (Room came put) (s.line.has_next && (s.next.leg == n))
      (total s.line.next.pdus) 0
      (λ f. next (and_parts s.line.has_next (s.next.leg == n) f).0
      (same_number s.next.leg n (and_parts s.line.has_next (s.next.leg == n) f).1))
      (λ f. record { held = omega arith; told = let room = w.room in omega (arith, room) }))
    where
      next : s.line.has_next ≡ true → s.next.leg ≡ n → Room came put (total s.line.next.pdus)
      next there e =
          let above = k.above there in
          let none = h.window_of.later (omega (arith, above, e)) in
          room_of s.line.next window came put (k.holds.next there).within
          (record { received = h.window_of.behind there e; told = omega (arith, none) })

-- ---- no packet is refused for a window

is_no_window : (s : Server) (n : ℕ) (count : Count) (packet : Named)
    → IsNoWindow (on_is s n count packet).1
is_no_window s n count (named.ConnB2 v1 v2 v3 v4 v5 v6 v7 v8) = search rules
is_no_window s n count (named.InR1A2 v1 v2 v3 v4 v5 v6) = search rules
is_no_window s n count (named.InR1A6 v1) = search rules
is_no_window s n count (named.InR2A2 v1) = search rules
is_no_window s n count (named.AckTo v1 v2 v3 v4) = search rules
is_no_window s n count (named.OutR1A8 v1 v2) = search rules
is_no_window s n count named.EndA2 = search rules
is_no_window s n count packet = tt

-- ---- the law

pub known_by : (window : ℕ) (taken : List (List ℕ)) (s : Server) (legs : ℕ → Bool) (came : Log)
    → Holds window s.line → TakerLaw (taker_of taken s) legs came → Known window s
known_by window taken s legs came holds law = record {
  above = λ there.
      subst (λ (b : Bool). s.current.leg < (if b then s.next.leg else suc s.current.leg)) there
      law.above;
  holds = holds;
}

abbrev pub AllKnown : ℕ → Type 0
AllKnown window =
    (moves : List EndMove)
    → AreAllowedAtEnd server_rules server_acts (end_started (first window)) moves
    → Known window
    (all_end_moved server_rules server_acts (end_started (first window)) moves).passage.role

pub server_receives : (window n : ℕ) (moves : List EndMove) → IsWindow window → AllKnown window
    → AreAllowedAtEnd server_rules server_acts (end_started (first window)) moves
    → ReceivesWithin server_rules (is_leg n)
    (all_end_moved server_rules server_acts (end_started (first window)) moves).passage
server_receives window n moves is known allowed =
    let start = end_started (first window) in
    let p = (all_end_moved server_rules server_acts start moves).passage in
    let leg = is_leg n in
    let h = end_moves_keep server_rules leg (Known window) (Kept window n) (steps window n is)
    server_acts (calls window n is) start moves allowed known (starts window n is) in
    record {
      refuses = λ count pdu.
          refused_pdu window n is p.role pdu (of_leg leg p.came) (of_leg leg p.put)
          (known moves allowed) h;
      packets = λ count packet. is_no_window p.role n count packet;
      acks = h.window_of.acks;
    }

pub server_has_room : (window n : ℕ) (moves : List EndMove) → IsWindow window → AllKnown window
    → AreAllowedAtEnd server_rules server_acts (end_started (first window)) moves
    → HasRoomOn window (held_by_server n) (is_leg n)
    (all_end_moved server_rules server_acts (end_started (first window)) moves).passage
server_has_room window n moves is known allowed =
    let start = end_started (first window) in
    let p = (all_end_moved server_rules server_acts start moves).passage in
    let leg = is_leg n in
    has_room window n is p.role (of_leg leg p.came) (of_leg leg p.put) (known moves allowed)
    (end_moves_keep server_rules leg (Known window) (Kept window n) (steps window n is)
    server_acts (calls window n is) start moves allowed known (starts window n is))
