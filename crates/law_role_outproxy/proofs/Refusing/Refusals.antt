-- why an out proxy's rows refuse, from what its state tells of what came to it
use Rattle.rh_window.specs.Receiving as windows
use Rattle.law_order.proofs.Vocabulary.{◌≡◌, ◌⊎◌, ℕ, ◌≤◌, ◌==◌, ◌&&◌, ◌||◌, Bool, true, false, true≢false, inl, inr, if◌then◌else◌, List, length, None, Ok, Err, is_some, not, refl, sym, ap, ◌∙◌, subst, arith, Option, Result, nat_tests, bytes_eq-Decides}
use Rattle.rh_sig.specs.declared.named.Named.TheVariants as named
use Rattle.rh_line.specs.declared.line_fault.LineFault.TheVariants as line_fault
use Rattle.rh_line.specs.Lines as lines
use Rattle.rh_shell.specs.declared.answers.Count.TheVariants as count
use Rattle.rh_shell.specs.declared.answers.Refused.TheVariants as refused
use Rattle.rh_shell.specs.Waiting as waits
use Rattle.rh_outproxy.specs.Acknowledging.{ack_by}
use Rattle.rh_outproxy.specs.declared.state.Channel.TheVariants as channels
use Rattle.law_moves.proofs.Vocabulary.{BadAck, WindowExceeded, ack_verdict, by_test, Cookie, TO_OUT_PROXY, Named, Asked, Leg, Count, Waiting, Move, Passage, of_leg, count_of, packets, Tells, is_conn_a1, is_conn_c1, is_out_r1_a3}
use Rattle.law_role_outproxy.proofs.Vocabulary.{Channel, OutProxy, joined, is_successor, has_come, is_client_marked, Done, is_co, is_os, is_first, is_second, is_joined, is_carrying, takes_pdus, same_cookie, taken, unexpected, forwarded, forwarded_by, passed_on, was_up, told_length, new_length, successor_length, conn_c1_by, on_ack, acked, ack_row, on_ack_to, on_pdu, line_row, admitted, packet, on_co, on_os, last_asked, IsNotAsked, from_client, IsUnjoined, CarriesNone}
use Rattle.law_role_outproxy.proofs.Vocabulary.{TakesNone, PassesNone, UnexpectedFromClient, UnexpectedFromServer, Unexpected}
use Rattle.law_role_outproxy.proofs.Refusing.Told.{seen, Told, Counts}
use Rattle.law_role_outproxy.proofs.Refusing.MovesKeep.{is_client, is_server}
use Rattle.law_role_outproxy.specs.Refusing.{from_server}

-- ---- answers

-- where the row answers that the message is unexpected, this is so
abbrev Says : Type 0 → Done → Type 0
Says Q x = x.1 ≡ Err refused.Unexpected → Q

taken_says : {Q : Type 0} (s : OutProxy) → Says Q (taken s)
taken_says s e = absurd cc

-- a packet that is forwarded is taken, or there is no room
forwarded_says : {Q : Type 0} (s : OutProxy) (m : Named) → Says Q (forwarded s m)
forwarded_says {Q} s m =
    by_test (Says Q) (is_client_marked s.client) (taken s)
    (forwarded_by s (waits.forwarded s.waiting m)) (λ e. taken_says s)
    (λ e. by (waits.forwarded s.waiting m))
  where
    by : (r : Waiting × Bool) → Says Q (forwarded_by s r)
    by (w, true) f = absurd cc
    by (w, false) f = absurd cc

-- ---- tests

one_fails : (a b : Bool) → (a && b) ≡ false → (a ≡ false) ⊎ (b ≡ false)
one_fails true b e = inr e
one_fails false b e = inl refl

is_came : (b : Bool) → not b ≡ false → b ≡ true
is_came true e = refl
is_came false e = absurd cc

pub no_leg : (a up b other : Bool) → a ≡ false → b ≡ false → ((a && up) || (b && other)) ≡ true → ⊥
no_leg false up false other e f g = absurd cc
no_leg true up b other e f g = absurd cc
no_leg false up true other e f g = absurd cc

not_first : (number : Count) (n : ℕ) → Tells number n → is_first number ≡ false → 1 ≤ n
not_first count.Zero n tells e = absurd cc
not_first count.One n tells e = omega (arith, tells)
not_first count.More n tells e = omega (arith, tells)

not_second : (number : Count) (n : ℕ) → Tells number n → is_second number ≡ false → n ≡ 1 → ⊥
not_second count.Zero n tells e is = omega (arith, tells, is)
not_second count.One n tells e is = absurd cc
not_second count.More n tells e is = omega (arith, tells, is)

other_number : (a b : ℕ) → (a == b) ≡ false → a ≡ b → ⊥
other_number a b e is = grind (arith, nat_tests)

pub same_number : (a b : ℕ) → (a == b) ≡ true → a ≡ b
same_number a b e = grind (arith, nat_tests)

pub other_cookie : (a b : Cookie) → same_cookie a b ≡ false → a ≡ b → ⊥
other_cookie a b e is =
    true≢false (sym ((bytes_eq-Decides a.0 b.0).1 (ap (λ (c : Cookie). c.0) is)) ∙ e)

module _ (n : ℕ) (p : Passage OutProxy) (h : Told n (seen p.role) p.came) where
  abbrev s : OutProxy
  s = p.role

  abbrev Known : Channel → Type 0
  Known c =
      Counts c (packets (from_client n p)) (count_of is_conn_a1 (from_client n p))
      (count_of is_out_r1_a3 (from_client n p)) (count_of is_conn_c1 (from_server n p))

  -- ---- what a condition that fails tells

  unjoined : (c : Channel) → Known c → is_some (joined c) ≡ false → IsUnjoined n p
  unjoined channels.Unknown k e = (k.2, k.3)
  unjoined (channels.New connection cookie) k e = (k.1, k.2)
  unjoined (channels.Joined connection cookie) k e = absurd cc
  unjoined (channels.Successor connection predecessor cookie) k e = absurd cc

  carries : is_carrying s ≡ false → CarriesNone n p
  carries e = by (one_fails (is_joined s) (not (has_come s.handover)) e)
    where
      by : (is_joined s ≡ false) ⊎ (not (has_come s.handover) ≡ false) → CarriesNone n p
      by (inl e) = inl (unjoined s.channel h.channel e)
      by (inr e) = inr (h.handover (is_came (has_come s.handover) e))

  takes : takes_pdus s ≡ false → TakesNone n p
  takes e = by (one_fails (is_carrying s) (not (has_come s.end)) e)
    where
      by : (is_carrying s ≡ false) ⊎ (not (has_come s.end) ≡ false) → TakesNone n p
      by (inl e) = inl (carries e)
      by (inr e) = inr (h.end (is_came (has_come s.end) e))

  passes : (to : ℕ) → (is_carrying s && (to == 0)) ≡ false → PassesNone n p to
  passes to e = by (one_fails (is_carrying s) (to == 0) e)
    where
      by : (is_carrying s ≡ false) ⊎ ((to == 0) ≡ false) → PassesNone n p to
      by (inl e) = inr (carries e)
      by (inr e) = inl (other_number to 0 e)

  -- ---- from the server

  passed_says : (to : ℕ) (m : Named) → Says (PassesNone n p to) (passed_on s to m)
  passed_says to m =
      by_test (Says (PassesNone n p to)) (is_carrying s && (to == 0)) (forwarded s m)
      (unexpected s) (λ e. forwarded_says s m) (λ e f. passes to e)

  c1_says : (version size timeout : ℕ) (c : Channel) → Known c
      → Says ((count_of is_conn_a1 (from_client n p) ≡ 0)
      ⊎ (1 ≤ count_of is_conn_c1 (from_server n p))) (conn_c1_by c s version size timeout)
  c1_says version size timeout channels.Unknown k = λ f. inl k.1
  c1_says version size timeout (channels.New connection cookie) k =
      forwarded_says (record s { channel = channels.Joined connection cookie })
      (named.ConnC2 version size timeout)
  c1_says version size timeout (channels.Joined connection cookie) k = λ f. inr k.2
  c1_says version size timeout (channels.Successor connection predecessor cookie) k =
      λ f. inl k.1

  acked_says : {Q : Type 0} (r : Result (Unit {0}) BadAck)
      → ack_row r ≡ Err refused.Unexpected → Q
  acked_says (Ok taken) f = absurd cc
  acked_says (Err bad) f = absurd cc

  own_ack_says : (received available : ℕ) (of : Cookie) (c : Channel) → Known c
      → Says (IsUnjoined n p) (ack_by (joined c) s received available of)
  own_ack_says received available of channels.Unknown k = λ f. unjoined channels.Unknown k refl
  own_ack_says received available of (channels.New connection cookie) k =
      λ f. unjoined (channels.New connection cookie) k refl
  own_ack_says received available of (channels.Joined connection cookie) k =
      by_test (Says (IsUnjoined n p)) (same_cookie cookie of) (acked s received available) _
      (λ e. acked_says (ack_verdict s.window received available))
      (λ e f. absurd cc)
  own_ack_says received available of (channels.Successor connection predecessor cookie) k =
      by_test (Says (IsUnjoined n p)) (same_cookie cookie of) (acked s received available) _
      (λ e. acked_says (ack_verdict s.window received available))
      (λ e f. absurd cc)

  ack_says : (to received available : ℕ) (of : Cookie)
      → Says (UnexpectedFromServer n p (named.AckTo to received available of))
      (on_ack_to s to received available of)
  ack_says to received available of =
      by_test (Says (UnexpectedFromServer n p (named.AckTo to received available of)))
      (to == TO_OUT_PROXY) (on_ack s received available of) _
      (λ e f. inl (
        same_number to TO_OUT_PROXY e,
        own_ack_says received available of s.channel h.channel f,
      ))
      (λ e f. inr (
        other_number to TO_OUT_PROXY e,
        passed_says to (named.AckTo 0 received available of) f,
      ))

  server_says : (m : Named) → Says (UnexpectedFromServer n p m) (on_os s m)
  server_says (named.ConnC1 version size timeout) =
      c1_says version size timeout s.channel h.channel
  server_says (named.AckTo to received available of) = ack_says to received available of
  server_says (named.InR1A3 to version size timeout) =
      passed_says to (named.InR1A4 0 version size timeout)
  server_says (named.InR2A3 to) = passed_says to (named.InR2A4 0)
  server_says (named.OutR1A1 to) = passed_says to (named.OutR1A2 0)
  server_says (named.OutR1A5 to version timeout) = passed_says to (named.OutR1A6 0 version timeout)
  server_says named.OutR1A9 =
      by_test (Says (CarriesNone n p)) (is_carrying s) _ (unexpected s) (λ e f. absurd cc)
      (λ e f. carries e)
  server_says named.EndB1 =
      by_test (Says (TakesNone n p)) (takes_pdus s) _ (unexpected s) (λ e f. absurd cc)
      (λ e f. takes e)
  server_says m = λ e. tt

  -- the line refuses nothing behind END, since none is told to it
  line_says : (bytes : List ℕ) → Says (TakesNone n p) (admitted s bytes)
  line_says bytes =
      subst (λ (b : Bool). line_row (if b then Err line_fault.Over else
      lines.by_window (windows.admit_verdict s.line.current.window (length bytes)))
      ≡ Err refused.Unexpected → TakesNone n p) (sym h.ended)
      (by (windows.admit_verdict s.line.current.window (length bytes)))
    where
      by : (r : Result (Unit {0}) WindowExceeded)
          → line_row (lines.by_window r) ≡ Err refused.Unexpected → TakesNone n p
      by (Ok taken) f = absurd cc
      by (Err exceeded) f = absurd cc

  pub pdu_says : (bytes : List ℕ) → Says (TakesNone n p) (on_pdu s bytes)
  pdu_says bytes =
      by_test (Says (TakesNone n p)) (takes_pdus s) (admitted s bytes) (unexpected s)
      (λ e. line_says bytes) (λ e f. takes e)

  -- ---- from the client

  module _ (moves : List Move) (asks : s.request ≡ last_asked None moves) where
    not_asked : (length : ℕ) → told_length s.request length ≡ false → IsNotAsked length moves
    not_asked length e =
        subst (λ (o : Option Asked). told_length o length ≡ false) asks e

    first_fails : (number : Count) (length : ℕ) → Tells number (packets (from_client n p))
        → (is_first number && told_length s.request length) ≡ false
        → (1 ≤ packets (from_client n p)) ⊎ IsNotAsked length moves
    first_fails number length tells e =
        by (one_fails (is_first number) (told_length s.request length) e)
      where
        by : (is_first number ≡ false) ⊎ (told_length s.request length ≡ false)
            → (1 ≤ packets (from_client n p)) ⊎ IsNotAsked length moves
        by (inl e) = inl (not_first number (packets (from_client n p)) tells e)
        by (inr e) = inr (not_asked length e)

    no_successor : (c : Channel) → Known c → is_successor c ≡ false
        → count_of is_out_r1_a3 (from_client n p) ≡ 0
    no_successor channels.Unknown k e = k.2
    no_successor (channels.New connection cookie) k e = k.1
    no_successor (channels.Joined connection cookie) k e = k.1
    no_successor (channels.Successor connection predecessor cookie) k e = absurd cc

    second_fails : (number : Count) → Tells number (packets (from_client n p))
        → (is_second number && is_successor s.channel) ≡ false
        → (packets (from_client n p) ≡ 1 → ⊥) ⊎ (count_of is_out_r1_a3 (from_client n p) ≡ 0)
    second_fails number tells e = by (one_fails (is_second number) (is_successor s.channel) e)
      where
        by : (is_second number ≡ false) ⊎ (is_successor s.channel ≡ false)
            → (packets (from_client n p) ≡ 1 → ⊥)
            ⊎ (count_of is_out_r1_a3 (from_client n p) ≡ 0)
        by (inl e) = inl (not_second number (packets (from_client n p)) tells e)
        by (inr e) = inr (no_successor s.channel h.channel e)

    client_says : (number : Count) (m : Named) → Tells number (packets (from_client n p))
        → Says (UnexpectedFromClient n p moves m) (on_co s number m)
    client_says number (named.ConnA1 version connection cookie size) tells =
        by_test (Says ((1 ≤ packets (from_client n p)) ⊎ IsNotAsked new_length moves))
        (is_first number && told_length s.request new_length) _ (unexpected s)
        (λ e f. absurd cc) (λ e f. first_fails number new_length tells e)
    client_says number (named.OutR1A3 version connection predecessor cookie size) tells =
        by_test (Says ((1 ≤ packets (from_client n p)) ⊎ IsNotAsked successor_length moves))
        (is_first number && told_length s.request successor_length) _ (unexpected s)
        (λ e f. absurd cc) (λ e f. first_fails number successor_length tells e)
    client_says number named.OutR2C1 tells =
        by_test (Says (UnexpectedFromClient n p moves named.OutR2C1))
        (is_second number && is_successor s.channel) (taken s) (unexpected s)
        (λ e. taken_says s) (λ e f. second_fails number tells e)
    client_says number m tells = λ e. tt

    -- ---- on each leg

    pub packet_says : (leg : Leg) (number : Count) (m : Named) → was_up s leg ≡ true
        → Tells number (packets (of_leg leg p.came))
        → Says (Unexpected n p moves leg m) (packet s leg number m)
    packet_says leg number m is_up tells =
        by_test (Says (Unexpected n p moves leg m)) (is_co s leg) (on_co s number m)
        (if is_os s leg then on_os s m else unexpected s)
        (λ e. subst (λ (l : Leg). Tells number (packets (of_leg l p.came))
        → Says (Unexpected n p moves l m) (on_co s number m)) (is_client n s leg h.is e)
        (client_says number m) tells)
        (λ e. by_test (Says (Unexpected n p moves leg m)) (is_os s leg) (on_os s m) (unexpected s)
        (λ f. subst (λ (l : Leg). Says (Unexpected n p moves l m) (on_os s m))
        (is_server n s leg h.is f) (server_says m))
        (λ f. absurd (no_leg _ _ _ _ e f is_up)))
