-- what comes to an out proxy keeps what it puts to its client in order
use Rattle.law_order.proofs.Vocabulary.{◌≡◌, inl, inr, ℕ, ◌≤◌, ◌==◌, ◌&&◌, ◌||◌, not, Bool, true, false, true≢false, List, [], ◌∷◌, ◌++◌, Some, None, is_some, Ok, Err, refl, sym, ap, ◌∙◌, subst, rules, and_parts, eqb-true, Option}
use Rattle.rh_sig.specs.declared.named.Named.TheVariants as named
use Rattle.rh_shell.specs.Waiting as waits
use Rattle.rh_outproxy.specs.declared.state.Answer.TheVariants as answers
use Rattle.rh_outproxy.specs.declared.state.Channel.TheVariants as channels
use Rattle.rh_outproxy.specs.declared.state.Mark.TheVariants as marks
use Rattle.rh_outproxy.specs.declared.state.Ping.TheVariants as pings
use Rattle.law_moves.proofs.Vocabulary.{by_test, Cookie, TO_OUT_PROXY, Named, Asked, Leg, Count, Due, FORWARDED_ROOM, Message, Pdu, Packet, Waiting, to_forward, OnLeg, of_leg, Has, Tells, packets}
use Rattle.law_moves.proofs.Lemmas.{RowKeeps, has_last, leg_more, here_more}
use Rattle.law_role_outproxy.proofs.Vocabulary.{Answer, Channel, OutProxyConfig, OutProxy, has_come, is_client_marked, is_known, is_server_down, is_successor, joined, Done, is_carrying, is_first, is_joined, takes_pdus, taken, unexpected, forwarded, forwarded_by, passed_on, up, told_length, new_length, successor_length, opened, on_out_r2_c1, conn_c1_by, admitted, on_pdu, on_ack, on_ack_to, on_end_b1, on_out_r1_a9, on_co, on_os, co_leg, os_leg, PassesPacket, OpensClient}
use Rattle.law_role_outproxy.proofs.Putting.Goes.{unknown}
use Rattle.law_role_outproxy.proofs.Putting.Forms.{IsKept, forwarded_each, forwarded_first, forwarded_kept, forwarded_opening, forwarded_room}
use Rattle.law_role_outproxy.proofs.Putting.Standing.{Core, Seen, core_of, seen, is_still, IsQuiet, is_opened, IsDown, due_by, Kind, At, Stands, stands_came, kind_opens}

-- ---- what leaves all alone

same_c1 : (s : OutProxy) (number : Count) → seen (on_out_r2_c1 s number).0 ≡ seen s
same_c1 s number = search rules

core_admitted : (s : OutProxy) (bytes : List ℕ) → core_of (admitted s bytes).0 ≡ core_of s
core_admitted s bytes = search rules

same_ack : (s : OutProxy) (received available : ℕ) (cookie : Cookie)
    → seen (on_ack s received available cookie).0 ≡ seen s
same_ack s received available cookie = search rules

-- ---- tests

pub not_still : (down opened : Bool) → ((down || not opened) ≡ true → ⊥)
    → (down ≡ false) × (opened ≡ true)
not_still true opened h = absurd (h refl)
not_still false true h = (refl, refl)
not_still false false h = absurd (h refl)

pub still_by : (down opened : Bool) → down ≡ false → opened ≡ true → (down || not opened) ≡ false
still_by true opened e f = absurd cc
still_by false true e f = refl
still_by false false e f = absurd cc

down_still : (down opened : Bool) → down ≡ true → (down || not opened) ≡ true
down_still true opened e = refl
down_still false opened e = absurd cc

new_still : (down opened : Bool) → opened ≡ false → (down || not opened) ≡ true
new_still true opened e = refl
new_still false true e = absurd cc
new_still false false e = refl

module _ (config : OutProxyConfig) where
  abbrev co : Leg
  co = co_leg config.number

  abbrev os : Leg
  os = os_leg config.number

  abbrev Holds : OutProxy → List OnLeg → List OnLeg → Type 0
  Holds s came put = Stands config (seen s) (of_leg os came) (of_leg co put)

  pub same_holds : (s t : OutProxy) (came put : List OnLeg) → seen t ≡ seen s → Holds s came put
      → Holds t came put
  same_holds s t came put same h =
      subst (λ (x : Seen). Stands config x (of_leg os came) (of_leg co put)) (sym same) h

  came_one : (s : OutProxy) (came put : List OnLeg) (one : OnLeg) → Holds s came put
      → Holds s (came ++ one ∷ []) put
  came_one s came put one h =
      subst (λ (ms : List Message). Stands config (seen s) ms (of_leg co put))
      (sym (leg_more os came one))
      (stands_came config (seen s) (of_leg os came) (of_leg os (one ∷ [])) (of_leg co put) h)

  -- once the leg to the server is up and the channel is open, the rest may change
  pub core_holds : (s t : OutProxy) (came put : List OnLeg) → core_of t ≡ core_of s
      → is_server_down s.server ≡ false → is_some (joined s.channel) ≡ true → Holds s came put
      → Holds t came put
  core_holds s t came put same up open' h = record {
    still = λ e.
        absurd (true≢false (sym e ∙ ap is_still same
        ∙ still_by (is_server_down s.server) (is_some (joined s.channel)) up open'));
    silent = λ e.
        absurd (true≢false (sym e ∙ ap (λ (k : Core). is_server_down k.server) same ∙ up));
    room = ap (λ (k : Core). k.waiting.room) same ∙ h.room;
    at = subst (λ (k : Core). At config (is_server_down k.server) k (of_leg os came)
        (of_leg co put)) (sym same) h.at;
  }

  abbrev Row : List OnLeg → List OnLeg → OnLeg → Done → Type 0
  Row came put one x = RowKeeps Holds one came put x

  same_row : (one : OnLeg) (s : OutProxy) (came put : List OnLeg) → Holds s came put → (x : Done)
      → seen x.0 ≡ seen s → Row came put one x
  same_row one s came put h (t, Ok taken) same =
      came_one t came put one (same_holds s t came put same h)
  same_row one s came put h (t, Err why) same = same_holds s t came put same h

  core_row : (one : OnLeg) (s : OutProxy) (came put : List OnLeg) → Holds s came put → (x : Done)
      → core_of x.0 ≡ core_of s → is_server_down s.server ≡ false
      → is_some (joined s.channel) ≡ true → Row came put one x
  core_row one s came put h (t, Ok taken) same up open' =
      came_one t came put one (core_holds s t came put same up open' h)
  core_row one s came put h (t, Err why) same up open' = core_holds s t came put same up open' h

  module _ (s : OutProxy) (came put : List OnLeg) (h : Holds s came put) where
    -- ---- what comes from the client

    -- while no channel is known the leg to the server is down
    pub unknown_down : is_known s.channel ≡ false → is_server_down s.server ≡ true
    unknown_down none = by (is_server_down s.server) refl h.at
      where
        no_kind : (c : Channel) (ms : List Message) (dues : List Due) → is_known c ≡ false
            → Kind config (of_leg os came) c ms dues → ⊥
        no_kind channels.Unknown ms dues e k = k
        no_kind (channels.New connection cookie) ms dues e k = absurd cc
        no_kind (channels.Joined connection cookie) ms dues e k = absurd cc
        no_kind (channels.Successor connection predecessor cookie) ms dues e k = absurd cc

        by : (b : Bool) → is_server_down s.server ≡ b
            → At config b (core_of s) (of_leg os came) (of_leg co put)
            → is_server_down s.server ≡ true
        by true e k = e
        by false e k = absurd (no_kind s.channel _ s.waiting.due none k.1)

    pub at_down : is_server_down s.server ≡ true
        → IsDown s.answer s.request s.channel (of_leg co put)
    at_down e =
        subst (λ (b : Bool). At config b (core_of s) (of_leg os came) (of_leg co put)) e h.at

    no_length : (o : Option Asked) (n : ℕ) → told_length o n ≡ true → o ≡ None → ⊥
    no_length None n e f = absurd cc
    no_length (Some asked) n e f = absurd cc

    opens_down : (x : Answer) (c : Channel) (n : ℕ) → told_length s.request n ≡ true
        → IsDown x s.request s.channel (of_leg co put)
        → IsDown x s.request c (of_leg co put)
    opens_down answers.Awaited c n e k = k
    opens_down answers.EchoDue c n e k = absurd (no_length s.request n e k.0)
    opens_down answers.EchoPut c n e k = absurd (no_length s.request n e k.0)
    opens_down answers.EchoDrawn c n e k = absurd (no_length s.request n e k.0)
    opens_down answers.ResponseDue c n e k = absurd k
    opens_down answers.TimeoutDue c n e k = absurd k
    opens_down answers.Put c n e k = absurd k

    pub down_holds : (t : OutProxy) (log : List OnLeg) → is_server_down t.server ≡ true
        → IsQuiet (seen t) → t.ping ≡ pings.NotDue → is_opened t.channel ≡ false
        → t.waiting.room ≡ FORWARDED_ROOM
        → IsDown t.answer t.request t.channel (of_leg co log) → Holds t came log
    down_holds t log down quiet silent none room k = record {
      still = λ e. quiet;
      silent = λ e. (silent, none);
      room = room;
      at = subst (λ (b : Bool). At config b (core_of t) (of_leg os came) (of_leg co log))
          (sym down) k;
    }

    pub quiet_down : is_server_down s.server ≡ true → IsQuiet (seen s)
    quiet_down down = h.still (down_still (is_server_down s.server) (is_some (joined s.channel))
        down)

    opened_row : (one : OnLeg) (c : Channel) (size n : ℕ) → is_known s.channel ≡ false
        → told_length s.request n ≡ true → is_opened c ≡ false
        → Holds (opened s c size) (came ++ one ∷ []) put
    opened_row one c size n none asked fresh' =
        let down = unknown_down none in
        let q = quiet_down down in
        came_one (opened s c size) came put one
        (down_holds (opened s c size) put down (record {
          pdus = q.pdus;
          dues = q.dues;
          end = q.end;
          handover = q.handover;
          client = q.client;
        }) (h.silent down).0 fresh' h.room (opens_down s.answer c n asked (at_down down)))

    pub co_row : (number : Count) (m : Named) → Tells number (packets (of_leg co came))
        → (is_known s.channel ≡ true → 1 ≤ packets (of_leg co came))
        → Row came put (co, Packet m) (on_co s number m)
    co_row number (named.ConnA1 version connection cookie size) tells known =
        by_test (Row came put (co, Packet (named.ConnA1 version connection cookie size)))
        (is_first number && told_length s.request new_length) _ (unexpected s)
        (λ e. let both = and_parts (is_first number) (told_length s.request new_length) e in
        opened_row (co, Packet (named.ConnA1 version connection cookie size))
        (channels.New connection cookie) size new_length
        (unknown s.channel number (packets (of_leg co came)) both.0 tells known) both.1 refl)
        (λ e. h)
    co_row number (named.OutR1A3 version connection predecessor cookie size) tells known =
        by_test
        (Row came put (co, Packet (named.OutR1A3 version connection predecessor cookie size)))
        (is_first number && told_length s.request successor_length) _ (unexpected s)
        (λ e. let both = and_parts (is_first number) (told_length s.request successor_length) e in
        opened_row (co, Packet (named.OutR1A3 version connection predecessor cookie size))
        (channels.Successor connection predecessor cookie) size successor_length
        (unknown s.channel number (packets (of_leg co came)) both.0 tells known) both.1 refl)
        (λ e. h)
    co_row number named.OutR2C1 tells known =
        same_row (co, Packet named.OutR2C1) s came put h (on_out_r2_c1 s number)
        (same_c1 s number)
    co_row number m tells known = h

    -- ---- what comes from the server, whose leg is up

    module _ (up' : is_server_down s.server ≡ false) where
      pub at_up : At config false (core_of s) (of_leg os came) (of_leg co put)
      at_up =
          subst (λ (b : Bool). At config b (core_of s) (of_leg os came) (of_leg co put)) up' h.at

      -- a packet waits that passes
      kind_forwards : (log : List Message) (c : Channel) (ms : List Message) (m : Named)
          → is_some (joined c) ≡ true → PassesPacket log m
          → Kind config log c ms s.waiting.due
          → Kind config log c ms (waits.forwarded s.waiting m).0.due
      kind_forwards log channels.Unknown ms m e is k = k
      kind_forwards log (channels.New connection cookie) ms m e is k = absurd cc
      kind_forwards log (channels.Joined connection cookie) ms m e is (inl k) =
          inl (k.0, forwarded_opening log s.waiting m is k.1)
      kind_forwards log (channels.Joined connection cookie) ms m e is (inr k) =
          inr (k.0, forwarded_each log s.waiting m is k.1)
      kind_forwards log (channels.Successor connection predecessor cookie) ms m e is k =
          (k.0, forwarded_each log s.waiting m is k.1)

      waits_holds : (log : List OnLeg) (w : Waiting) → Holds s log put
          → is_some (joined s.channel) ≡ true → w.room ≡ FORWARDED_ROOM
          → Kind config (of_leg os log) s.channel
          (of_leg co put ++ due_by config s.answer (is_successor s.channel)) w.due
          → Holds (record s { waiting = w }) log put
      waits_holds log w k open' room kind = record {
        still = λ e.
            absurd (true≢false (sym e
            ∙ still_by (is_server_down s.server) (is_some (joined s.channel)) up' open'));
        silent = λ e. absurd (true≢false (sym e ∙ up'));
        room = room;
        at = subst (λ (b : Bool). At config b (core_of (record s { waiting = w })) (of_leg os log)
            (of_leg co put)) (sym up') (at_up.0, kind);
      }

      at_log : (log : List OnLeg) → Holds s log put
          → Kind config (of_leg os log) s.channel
          (of_leg co put ++ due_by config s.answer (is_successor s.channel)) s.waiting.due
      at_log log k =
          (subst (λ (b : Bool). At config b (core_of s) (of_leg os log) (of_leg co put)) up'
          k.at).1

      forwards : (log : List OnLeg) (m : Named) → Holds s log put
          → is_some (joined s.channel) ≡ true → PassesPacket (of_leg os log) m
          → Holds (record s { waiting = (waits.forwarded s.waiting m).0 }) log put
      forwards log m k open' is =
          waits_holds log (waits.forwarded s.waiting m).0 k open'
          (forwarded_room s.waiting m ∙ h.room)
          (kind_forwards (of_leg os log) s.channel _ m open' is (at_log log k))

      -- dropped, or it waits, or there is no room
      forwarded_row : (on : OnLeg) (m : Named) → is_some (joined s.channel) ≡ true
          → PassesPacket (of_leg os (came ++ on ∷ [])) m
          → Row came put on (forwarded s m)
      forwarded_row on m open' is =
          by_test (Row came put on) (is_client_marked s.client) (taken s) _
          (λ e. came_one s came put on h)
          (λ e. by (waits.forwarded s.waiting m) (forwarded_kept s.waiting m)
          (forwards (came ++ on ∷ []) m (came_one s came put on h) open' is))
        where
          by : (x : Waiting × Bool) → IsKept s.waiting x
              → Holds (record s { waiting = x.0 }) (came ++ on ∷ []) put
              → Row came put on (forwarded_by s x)
          by (w, true) e k = k
          by (w, false) e k =
              subst (λ (v : Waiting). Holds (record s { waiting = v }) came put) (sym e) h

      is_open : is_carrying s ≡ true → is_some (joined s.channel) ≡ true
      is_open e = (and_parts (is_joined s) (not (has_come s.handover)) e).0

      passed_row : (m other : Named) (to : ℕ)
          → (to ≡ 0 → PassesPacket (of_leg os (came ++ (os, Packet m) ∷ [])) other)
          → Row came put (os, Packet m) (passed_on s to other)
      passed_row m other to is =
          by_test (Row came put (os, Packet m)) (is_carrying s && (to == 0)) (forwarded s other)
          (unexpected s)
          (λ e. let both = and_parts (is_carrying s) (to == 0) e in
          forwarded_row (os, Packet m) other (is_open both.0) (is (eqb-true to 0 both.1)))
          (λ e. h)

      came_last : (m : Named) → Has m (of_leg os (came ++ (os, Packet m) ∷ []))
      came_last m =
          subst (Has m) (sym (here_more os came (Packet m))) (has_last m (of_leg os came))

      -- with destination 0
      last_to : (m : ℕ → Named) (to : ℕ) → to ≡ 0
          → Has (m 0) (of_leg os (came ++ (os, Packet (m to)) ∷ []))
      last_to m to e =
          subst (λ (n : ℕ). Has (m n) (of_leg os (came ++ (os, Packet (m to)) ∷ []))) e
          (came_last (m to))

      -- CONN/C1: nothing waits, and there is room
      c1_row : (m : Named) (c : Channel) → s.channel ≡ c → (version size timeout : ℕ)
          → m ≡ named.ConnC1 version size timeout
          → Row came put (os, Packet m) (conn_c1_by c s version size timeout)
      c1_row m channels.Unknown e version size timeout is = h
      c1_row m (channels.New connection cookie) e version size timeout is =
          by_test (Row came put (os, Packet m)) (is_client_marked s.client) (taken t) _
          (λ f. absurd (true≢false (sym f ∙ q.client)))
          (λ f. subst (λ (x : Waiting × Bool). Row came put (os, Packet m) (forwarded_by t x))
          (sym (forwarded_first s.waiting (named.ConnC2 version size timeout) h.room q.dues))
          now)
        where
          t : OutProxy
          t = record s { channel = channels.Joined connection cookie }

          q : IsQuiet (seen s)
          q = h.still (new_still (is_server_down s.server) (is_some (joined s.channel))
              (ap (λ (c : Channel). is_some (joined c)) e))

          log : List OnLeg
          log = came ++ (os, Packet m) ∷ []

          opens : OpensClient (of_leg os log) (named.ConnC2 version size timeout)
          opens = subst (λ (x : Named). Has x (of_leg os log)) is (came_last m)

          w : Waiting
          w = record {
            room = FORWARDED_ROOM;
            due = to_forward (named.ConnC2 version size timeout) ∷ [];
          }

          kind : Kind config (of_leg os log) (channels.New connection cookie)
              (of_leg co put ++ due_by config s.answer false) s.waiting.due
          kind = subst (λ (c : Channel). Kind config (of_leg os log) c
              (of_leg co put ++ due_by config s.answer (is_successor c)) s.waiting.due) e
              (at_log log (came_one s came put (os, Packet m) h))

          now : Holds (record t { waiting = w }) log put
          now = record {
            still = λ f. absurd (true≢false (sym f
                ∙ still_by (is_server_down s.server) true up' refl));
            silent = λ f. absurd (true≢false (sym f ∙ up'));
            room = refl;
            at = subst (λ (b : Bool). At config b (core_of (record t { waiting = w }))
                (of_leg os log) (of_leg co put)) (sym up') (
                  at_up.0,
                  kind_opens config (of_leg os log) connection cookie _
                      (named.ConnC2 version size timeout) s.waiting.due opens kind,
                );
          }
      c1_row m (channels.Joined connection cookie) e version size timeout is = h
      c1_row m (channels.Successor connection predecessor cookie) e version size timeout is = h

      ack_row : (to received available : ℕ) (cookie : Cookie)
          → Row came put (os, Packet (named.AckTo to received available cookie))
          (on_ack_to s to received available cookie)
      ack_row to received available cookie =
          by_test (Row came put (os, Packet (named.AckTo to received available cookie)))
          (to == TO_OUT_PROXY) (on_ack s received available cookie)
          (passed_on s to (named.AckTo 0 received available cookie))
          (λ e. same_row (os, Packet (named.AckTo to received available cookie)) s came put h
          (on_ack s received available cookie) (same_ack s received available cookie))
          (λ e. passed_row (named.AckTo to received available cookie)
          (named.AckTo 0 received available cookie) to
          (λ f. (
            refl,
            last_to (λ (n : ℕ). named.AckTo n received available cookie) to f,
          )))

      a9_row : Row came put (os, Packet named.OutR1A9) (on_out_r1_a9 s)
      a9_row =
          by_test (Row came put (os, Packet named.OutR1A9)) (is_carrying s)
          (taken (record s { handover = marks.Came })) (unexpected s)
          (λ e. core_row (os, Packet named.OutR1A9) s came put h
          (taken (record s { handover = marks.Came })) refl up' (is_open e))
          (λ e. h)

      end_row : Row came put (os, Packet named.EndB1) (on_end_b1 s)
      end_row =
          by_test (Row came put (os, Packet named.EndB1)) (takes_pdus s)
          (taken (record s { end = marks.Came })) (unexpected s)
          (λ e. core_row (os, Packet named.EndB1) s came put h
          (taken (record s { end = marks.Came })) refl up'
          (is_open (and_parts (is_carrying s) (not (has_come s.end)) e).0))
          (λ e. h)

      pub pdu_row : (bytes : List ℕ) → Row came put (os, Pdu bytes) (on_pdu s bytes)
      pdu_row bytes =
          by_test (Row came put (os, Pdu bytes)) (takes_pdus s) (admitted s bytes) (unexpected s)
          (λ e. core_row (os, Pdu bytes) s came put h (admitted s bytes) (core_admitted s bytes)
          up' (is_open (and_parts (is_carrying s) (not (has_come s.end)) e).0))
          (λ e. h)

      pub os_row : (m : Named) → Row came put (os, Packet m) (on_os s m)
      os_row (named.ConnC1 version size timeout) =
          c1_row (named.ConnC1 version size timeout) s.channel refl version size timeout refl
      os_row (named.AckTo to received available cookie) = ack_row to received available cookie
      os_row (named.InR1A3 to version size timeout) =
          passed_row (named.InR1A3 to version size timeout) (named.InR1A4 0 version size timeout)
          to (λ f. (
            refl,
            last_to (λ (n : ℕ). named.InR1A3 n version size timeout) to f,
          ))
      os_row (named.InR2A3 to) =
          passed_row (named.InR2A3 to) (named.InR2A4 0) to
          (λ f. (
            refl,
            last_to (λ (n : ℕ). named.InR2A3 n) to f,
          ))
      os_row (named.OutR1A1 to) =
          passed_row (named.OutR1A1 to) (named.OutR1A2 0) to
          (λ f. (
            refl,
            last_to (λ (n : ℕ). named.OutR1A1 n) to f,
          ))
      os_row (named.OutR1A5 to version timeout) =
          passed_row (named.OutR1A5 to version timeout) (named.OutR1A6 0 version timeout) to
          (λ f. (
            refl,
            last_to (λ (n : ℕ). named.OutR1A5 n version timeout) to f,
          ))
      os_row named.OutR1A9 = a9_row
      os_row named.EndB1 = end_row
      os_row m = h
