-- what an in proxy puts on its is leg acknowledges in order
use Rattle.rh_window.specs.Receiving as windows
use Rattle.law_order.proofs.Vocabulary.{◌≡◌, ◌⊎◌, inl, inr, ℕ, suc, ◌+◌, ◌-◌, ◌≤◌, ◌==◌, ◌&&◌, ◌||◌, Bool, true, false, nat_lt, not, List, [], ◌∷◌, ◌++◌, length, Some, None, refl, sym, ap, ◌∙◌, subst, arith, nat_tests, IfSome, Option}
use Rattle.rh_sig.specs.declared.named.Named.TheVariants as named
use Rattle.rh_line.specs.Lines as line
use Rattle.rh_shell.specs.Waiting as waiting
use Rattle.rh_inproxy.specs.declared.state.Handover.TheVariants as handovers
use Rattle.law_moves.proofs.Vocabulary.{may_send, after_sent, Receiver, Sender, Ack, by_test, Cookie, Named, Which, Current, Next, Due, Message, Pdu, Packet, OnLeg, count_of}
use Rattle.law_moves.proofs.Lemmas.{count_append}
use Rattle.law_role_inproxy.proofs.Vocabulary.{Entry, Connects, Replaces, Handover, InProxyConfig, Joining, TellsServer, Told, Follows, Opener, Opening, AwaitsClient, AwaitsPacket, WantsServer, Announces, Announced, Successor, Absent, Up, Joined, ack_due, ack_by, current_ack, next_ack, put_acks, Pick, or_else, put_end, settled, settled_pick, told_by as tells_by, one_less, put_in_r2_a2, mark_by, put_in_r1_a6, announcement, first_by, put_first, is_absent, next_pdu, passed}
use Rattle.law_role_inproxy.proofs.Vocabulary.{put_pdu, next, waiting_by, put_waiting, put_control, put_early, put_stream, put_behind, put_mark, InProxy, followed, has_a5, has_opened, put_ping}
use Rattle.law_role_inproxy.proofs.Putting.Goes.{no_other, none_waits, none_so}
use Rattle.law_role_inproxy.proofs.Putting.Sounds.{told}
use Rattle.law_role_server.proofs.Vocabulary.{is_in_r2_a2}
use Rattle.law_peers_room.proofs.ServerRoom.Channels.{seen, Same, IsUsedLeg, IsIdle, IsBehind, MayWait, Wait, Known, Moves, same_moves, moves_on, settles}
use Rattle.law_peers_room.proofs.ServerRoom.Rows.{same_settled}
use Rattle.law_peers_room.specs.ServerRoom.Acks.{IsUsed, IsOfTwo, Acknowledge}

-- ---- one message more

more_at : (came : List OnLeg) (n : ℕ) (ms : List Message) (m : Message) → Acknowledge came n ms
    → Acknowledge came (n + count_of is_in_r2_a2 ms) (m ∷ []) → Acknowledge came n (ms ++ m ∷ [])
more_at came n [] m h is =
    let same : n + 0 ≡ n = omega arith in
    subst (λ (k : ℕ). Acknowledge came k (m ∷ [])) same is
more_at came n (Packet (named.InR2A2 successor) ∷ ms) m h is =
    let same : n + suc (count_of is_in_r2_a2 ms) ≡ suc n + count_of is_in_r2_a2 ms = omega arith in
    more_at came (suc n) ms m h
    (subst (λ (k : ℕ). Acknowledge came k (m ∷ [])) same is)
more_at came n (Packet (named.AckTo to received available channel) ∷ ms) m h is =
    (h.0, more_at came n ms m h.1 is)
more_at came n (other ∷ ms) m h is = more_at came n ms m h is

-- a packet that waited
waited_is : (came : List OnLeg) (n : ℕ) (packet : Named) → MayWait packet
    → (count_of is_in_r2_a2 (Packet packet ∷ []) ≡ 0) × Acknowledge came n (Packet packet ∷ [])
waited_is came n (named.AckTo to received available channel) is =
    (refl, (λ zero. absurd (omega (arith, zero, is)), tt))
waited_is came n (named.OutR1A8 to successor) is = (refl, tt)
waited_is came n packet is = absurd is

first_is : (came : List OnLeg) (n : ℕ) (s : InProxy) (o : Opener) (entry : Entry)
    → (count_of is_in_r2_a2 (Packet (announcement s o entry) ∷ []) ≡ 0)
    × Acknowledge came n (Packet (announcement s o entry) ∷ [])
first_is came n s o (Connects group) = (refl, tt)
first_is came n s o (Replaces predecessor) = (refl, tt)

-- ---- tests

-- nothing is due for a channel on which no RPC PDU came
behind_edge : (told size released : ℕ) → released ≡ 0 → size ≤ told
    → nat_lt told (released + size) ≡ true → ⊥
behind_edge told size released none least less = grind (arith, nat_tests)

second : (a b c d : Bool) → a && b && c && d ≡ true → b ≡ true
second false b c d e = absurd cc
second true false c d e = absurd cc
second true true c d e = refl

idle_due : (pdus : List (List ℕ)) (r : Receiver) → IsIdle pdus r → windows.due r ≡ None
idle_due pdus r idle =
    by_test (λ (o : Option Ack). o ≡ None) (windows.is_due r)
    (Some (record { received = r.received; available = windows.edge_of r - r.received })) None
    (λ e. absurd (behind_edge r.told r.size r.released idle.released idle.told
    (second (nat_lt 0 r.told) (nat_lt r.told (windows.edge_of r)) _ _ e)))
    (λ e. refl)

idle_ack : (s : InProxy) (which : Which) → line.due s.line which ≡ None → ack_due s which ≡ None
idle_ack s which none =
    by_test (λ (o : Option Ack). o ≡ None)
    ((line.channel_of s.line which).ended || has_a5 s which) None (line.due s.line which)
    (λ e. refl) (λ e. none)

-- the server was told of it
abbrev IsTold : Successor → Type 0
IsTold (Joined leg (TellsServer behind)) = ⊥
IsTold successor = Unit {0}

-- ---- what stands on the leg

pub record Stands (config : InProxyConfig) (came : List OnLeg) (ms : List Message) (s : InProxy)
    : Type 0 where
  pub known : Known config (seen s) came
  pub last : config.number + count_of is_in_r2_a2 ms ≡ told s.current.number s.successor
  pub stream : Acknowledge came config.number ms

pub still : (config : InProxyConfig) (came : List OnLeg) (ms : List Message) (s t : InProxy)
    → Moves config came s t → Stands config came ms s → Stands config came ms t
still config came ms s t moves h = record {
  known = moves.known;
  last = h.last ∙ sym moves.last;
  stream = h.stream;
}

module _ (config : InProxyConfig) (came : List OnLeg) (ms : List Message) (s : InProxy)
    (h : Stands config came ms s) where
  abbrev pub Goes : Pick → Type 0
  Goes pick =
      IfSome pick (λ (one : InProxy × Message).
      Stands config came (ms ++ one.1 ∷ []) one.0)

  abbrev n : ℕ
  n = s.current.number

  -- the last ci leg that the server was told
  abbrev reached : ℕ
  reached = told n s.successor

  or_goes : (a b : Pick) → Goes a → (a ≡ None → Goes b) → Goes (or_else a b)
  or_goes None b one other = other refl
  or_goes (Some pick) b one other = one

  more : (t : InProxy) (m : Message) → Known config (seen t) came
      → reached + count_of is_in_r2_a2 (m ∷ []) ≡ told t.current.number t.successor
      → Acknowledge came reached (m ∷ []) → Stands config came (ms ++ m ∷ []) t
  more t m known last is = record {
    known = known;
    last = let both = count_append is_in_r2_a2 ms (m ∷ []) in
        let before = h.last in omega (arith, both, before, last);
    stream = more_at came config.number ms m h.stream
        (subst (λ (k : ℕ). Acknowledge came k (m ∷ [])) (sym h.last) is);
  }

  plain_goes : (t : InProxy) (m : Message) → Moves config came s t
      → (count_of is_in_r2_a2 (m ∷ []) ≡ 0) × Acknowledge came reached (m ∷ [])
      → Stands config came (ms ++ m ∷ []) t
  plain_goes t m moves is =
      more t m moves.known
      (let none = is.0 in let same = moves.last in omega (arith, none, same)) is.1

  same_goes : (t : InProxy) (m : Message) → Same s t
      → (count_of is_in_r2_a2 (m ∷ []) ≡ 0) × Acknowledge came reached (m ∷ [])
      → Stands config came (ms ++ m ∷ []) t
  same_goes t m same is = plain_goes t m (same_moves config came s t same h.known) is

  with_next : (z : Successor) → s.successor ≡ z
      → Known config (record (seen s) { successor = z }) came
  with_next z e =
      subst (λ (y : Successor). Known config (record (seen s) { successor = y }) came) e h.known

  -- ---- the first packet

  first_goes : (o : Opening) → s.opening ≡ o → Goes (first_by s o)
  first_goes AwaitsClient e = tt
  first_goes AwaitsPacket e = tt
  first_goes (WantsServer o) e = tt
  first_goes (Announced o) e = tt
  first_goes (Announces o) e =
      same_goes (record s { opening = Announced o }) (Packet (announcement s o o.entry))
      (ap (λ (x : Opening). record (seen s) { opened = has_opened x }) (sym e))
      (first_is came reached s o o.entry)

  -- ---- IN_R2/A2

  told_goes : (z : Successor) → s.successor ≡ z → Goes (tells_by s z)
  told_goes Absent e = tt
  told_goes (Up number) e = tt
  told_goes (Joined leg Told) e = tt
  told_goes (Joined leg Follows) e = tt
  told_goes (Joined leg (TellsServer b)) e =
      by_test Goes (b == 0)
      (Some (record s { successor = Joined leg Told }, Packet (named.InR2A2 leg.cookie))) None
      (λ f.
      let k = with_next (Joined leg (TellsServer b)) e in
      more (record s { successor = Joined leg Told }) (Packet (named.InR2A2 leg.cookie))
      (record {
        same = k.same;
        joined = k.joined;
        finished = k.finished;
        begun = k.begun;
        now = k.now;
        later = k.later;
        waits = k.waits;
        behind = tt;
      })
      (let now = ap (told n) e in omega (arith, now)) tt)
      (λ f. tt)

  -- ---- packets that wait

  less : (z : Successor) (due : Due) (dues : List Due) → s.successor ≡ z
      → s.waiting.due ≡ due ∷ dues
      → Moves config came s
      (record s { waiting = waiting.with_due s.waiting dues; successor = one_less z })
  less z due dues e f =
      let k = with_next z e in
      let waits = subst Wait f k.waits in
      let behind = subst (IsBehind z) f k.behind in
      by z e k waits.1 behind
    where
      by : (y : Successor) → s.successor ≡ y
          → Known config (record (seen s) { successor = y }) came → Wait dues
          → IsBehind y (due ∷ dues)
          → Moves config came s
          (record s { waiting = waiting.with_due s.waiting dues; successor = one_less y })
      by Absent g k waits behind = record {
        known = record {
          same = k.same;
          joined = k.joined;
          finished = k.finished;
          begun = k.begun;
          now = k.now;
          later = k.later;
          waits = waits;
          behind = tt;
        };
        last = ap (told n) (sym g);
      }
      by (Up number) g k waits behind = record {
        known = record {
          same = k.same;
          joined = k.joined;
          finished = k.finished;
          begun = k.begun;
          now = k.now;
          later = k.later;
          waits = waits;
          behind = tt;
        };
        last = ap (told n) (sym g);
      }
      by (Joined leg Told) g k waits behind = record {
        known = record {
          same = k.same;
          joined = k.joined;
          finished = k.finished;
          begun = k.begun;
          now = k.now;
          later = k.later;
          waits = waits;
          behind = tt;
        };
        last = ap (told n) (sym g);
      }
      by (Joined leg Follows) g k waits behind = record {
        known = record {
          same = k.same;
          joined = k.joined;
          finished = k.finished;
          begun = k.begun;
          now = k.now;
          later = k.later;
          waits = waits;
          behind = tt;
        };
        last = ap (told n) (sym g);
      }
      by (Joined leg (TellsServer b)) g k waits behind = record {
        known = record {
          same = k.same;
          joined = k.joined;
          finished = k.finished;
          begun = k.begun;
          now = k.now;
          later = k.later;
          waits = waits;
          behind = omega (arith, behind);
        };
        last = ap (told n) (sym g);
      }

  waiting_goes : (dues : List Due) → s.waiting.due ≡ dues → Goes (waiting_by s dues)
  waiting_goes [] e = tt
  waiting_goes (due ∷ dues) e =
      plain_goes
      (record s { waiting = waiting.with_due s.waiting dues; successor = one_less s.successor })
      (Packet due.packet) (less s.successor due dues refl e)
      (waited_is came reached due.packet (subst Wait e h.known.waits).0)

  -- ---- acknowledgements

  ack_goes : (which : Which) (cookie : Cookie) (o : Option Ack) → IsOfTwo came reached cookie
      → ((ack : Ack) → Known config (seen (record s { line = line.after_told s.line which ack }))
      came)
      → Goes (ack_by s which cookie o)
  ack_goes which cookie None of known = tt
  ack_goes which cookie (Some ack) of known =
      more (record s { line = line.after_told s.line which ack })
      (Packet (named.AckTo 0 ack.received ack.available cookie)) (known ack)
      (by which) (λ e. of, tt)
    where
      by : (w : Which) → reached + 0 ≡ told n s.successor
      by w = omega arith

  current_goes : Goes (current_ack s)
  current_goes = by h.known.now
    where
      of_two : (z : Successor) → IsUsedLeg came s.current
          → IsOfTwo came (told n z) s.current.cookie
      of_two Absent used = inl used
      of_two (Up number) used = inl used
      of_two (Joined leg (TellsServer b)) used = inl used
      of_two (Joined leg Told) used = inr (n, refl, used)
      of_two (Joined leg Follows) used = inr (n, refl, used)

      by : ((has_opened s.opening ≡ true) × IsUsedLeg came s.current)
          ⊎ IsIdle s.line.current.pdus s.line.current.window
          → Goes (current_ack s)
      by (inr idle) =
          subst (λ (o : Option Ack). Goes (ack_by s Current s.current.cookie o))
          (sym (idle_ack s Current (idle_due s.line.current.pdus s.line.current.window idle))) tt
      by (inl used) =
          let k = h.known in
          ack_goes Current s.current.cookie (ack_due s Current) (of_two s.successor used.1)
          (λ ack. record {
            same = k.same;
            joined = k.joined;
            finished = k.finished;
            begun = k.begun;
            now = inl used;
            later = k.later;
            waits = k.waits;
            behind = k.behind;
          })

  next_goes : (z : Successor) → s.successor ≡ z → IsTold z → Goes (next_ack s z)
  next_goes Absent e is = tt
  next_goes (Up number) e is = tt
  next_goes (Joined leg (TellsServer b)) e is = absurd is
  next_goes (Joined leg stage) e is =
      by (with_next (Joined leg stage) e).later.3
    where
      k : Known config (record (seen s) { successor = Joined leg stage }) came
      k = with_next (Joined leg stage) e

      reached_is : (x : Joining) → IsTold (Joined leg x) → told n (Joined leg x) ≡ suc n
      reached_is (TellsServer b) is = absurd is
      reached_is Told is = refl
      reached_is Follows is = refl

      by : IsUsedLeg came leg ⊎ IsIdle s.line.next.pdus s.line.next.window
          → Goes (ack_by s Next leg.cookie (ack_due s Next))
      by (inr idle) =
          subst (λ (o : Option Ack). Goes (ack_by s Next leg.cookie o))
          (sym (idle_ack s Next (idle_due s.line.next.pdus s.line.next.window idle))) tt
      by (inl used) =
          ack_goes Next leg.cookie (ack_due s Next)
          (inl (subst (λ (i : ℕ). IsUsed came i leg.cookie)
          (k.later.1 ∙ sym (ap (told n) e ∙ reached_is stage is)) used))
          (λ ack. subst (λ (y : Successor). Known config
          (record (seen (record s { line = line.after_told s.line Next ack })) { successor = y })
          came) (sym e)
          (record {
            same = k.same;
            joined = k.joined;
            finished = k.finished;
            begun = k.begun;
            now = k.now;
            later = (k.later.0, k.later.1, k.later.2, inl used);
            waits = k.waits;
            behind = k.behind;
          }))

  -- ---- RPC PDUs

  passed_moves : (window : Sender) (pdus : List (List ℕ)) (pdu : List ℕ)
      → s.line.current.pdus ≡ pdu ∷ pdus
      → Moves config came s
      (followed (record s { line = line.after_take s.line; window = window }))
  passed_moves window pdus pdu e =
      subst (λ (all : List (List ℕ)). Moves config came s
      (followed (record s { line = line.taken all s.line; window = window }))) (sym e)
      (let t : InProxy = record s {
        line = record (s.line) { current = line.released (pdu ∷ pdus) s.line.current };
        window = window;
      } in
      let k = h.known in
      let goes : Moves config came s t = record {
        known = record {
          same = k.same;
          joined = k.joined;
          finished = k.finished;
          begun = k.begun;
          now = used k.now;
          later = k.later;
          waits = k.waits;
          behind = k.behind;
        };
        last = refl;
      } in
      moves_on config came s t _ goes (settles config came t goes.known))
    where
      used : ((has_opened s.opening ≡ true) × IsUsedLeg came s.current)
          ⊎ IsIdle s.line.current.pdus s.line.current.window
          → ((has_opened s.opening ≡ true) × IsUsedLeg came s.current)
          ⊎ IsIdle pdus (windows.after_release s.line.current.window (length pdu))
      used (inl is) = inl is
      used (inr idle) = absurd (let no = sym e ∙ idle.none in cc)

  pdu_goes : (pdus : List (List ℕ)) → s.line.current.pdus ≡ pdus → Goes (next_pdu s pdus)
  pdu_goes [] e = tt
  pdu_goes (pdu ∷ pdus) e =
      by_test Goes (may_send s.window (length pdu))
      (Some (passed s (length pdu), Pdu pdu)) None
      (λ f. plain_goes (passed s (length pdu)) (Pdu pdu)
      (passed_moves (after_sent s.window (length pdu)) pdus pdu e) (refl, tt))
      (λ f. tt)

  -- ---- marks

  mark_goes : (handover : Handover) → Goes (mark_by s handover)
  mark_goes handovers.Before = tt
  mark_goes handovers.Passed = tt
  mark_goes (handovers.Came cookie) =
      same_goes (record s { handover = handovers.Passed }) (Packet (named.InR1A6 cookie)) refl
      (refl, tt)

  behind_goes : Goes (put_behind s)
  behind_goes =
      or_goes (put_mark s) (put_ping s)
      (or_goes (put_end s) (put_in_r1_a6 s)
      (by_test Goes (s.line.current.ended && not s.end_put && line.is_empty s.line.current.pdus)
      (Some (record s { end_put = true }, Packet named.EndA2)) None
      (λ e. same_goes (record s { end_put = true }) (Packet named.EndA2) refl (refl, tt))
      (λ e. tt))
      (λ no_end. by_test Goes (is_absent s.successor && line.is_empty s.line.current.pdus)
      (mark_by s s.handover) None (λ e. mark_goes s.handover) (λ e. tt)))
      (λ no_mark. by_test Goes s.ping_due
      (Some (record s { ping_due = false }, Packet named.Ping)) None
      (λ e. same_goes (record s { ping_due = false }) (Packet named.Ping) refl (refl, tt))
      (λ e. tt))

  -- ---- the next message

  -- none waits, and IN_R2/A2 is not due
  is_told : put_early s ≡ None → IsTold s.successor
  is_told none =
      let two = no_other (put_first s) (or_else (put_in_r2_a2 s) (put_waiting s)) none in
      let parts = no_other (put_in_r2_a2 s) (put_waiting s) two.1 in
      by s.successor parts.0
      (subst (IsBehind s.successor) (none_waits s s.waiting.due parts.1) h.known.behind)
    where
      by : (z : Successor) → tells_by s z ≡ None → IsBehind z [] → IsTold z
      by Absent e behind = tt
      by (Up number) e behind = tt
      by (Joined leg Told) e behind = tt
      by (Joined leg Follows) e behind = tt
      by (Joined leg (TellsServer b)) e behind =
          let one : InProxy × Message =
          (record s { successor = Joined leg Told }, Packet (named.InR2A2 leg.cookie)) in
          not_zero b (none_so (b == 0) one e) behind
        where
          not_zero : (b : ℕ) → (b == 0) ≡ false → b ≤ 0 → ⊥
          not_zero b e least = grind (arith, nat_tests)

  message_goes : Goes (next s)
  message_goes =
      or_goes (put_control s) (put_stream s)
      (or_goes (put_early s) (put_acks s)
      (or_goes (put_first s) (or_else (put_in_r2_a2 s) (put_waiting s)) (first_goes s.opening refl)
      (λ e. or_goes (put_in_r2_a2 s) (put_waiting s) (told_goes s.successor refl)
      (λ f. waiting_goes s.waiting.due refl)))
      (λ e. or_goes (current_ack s) (next_ack s s.successor) current_goes
      (λ f. next_goes s.successor refl (is_told e))))
      (λ e. or_goes (put_pdu s) (put_behind s) (pdu_goes s.line.current.pdus refl)
      (λ f. behind_goes))

  pub server_goes : Goes (settled_pick (next s))
  server_goes = by (next s) message_goes
    where
      by : (pick : Pick) → Goes pick → Goes (settled_pick pick)
      by None k = tt
      by (Some pick) k =
          still config came (ms ++ pick.1 ∷ []) pick.0 (settled pick.0)
          (same_moves config came pick.0 (settled pick.0) (same_settled pick.0) k.known) k
