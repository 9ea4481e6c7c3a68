-- while CONN/B1 and Pings alone came from the client, an in proxy's first channel is as it began,
-- and nothing waits
use Rattle.rh_window.specs.Receiving as windows
use Rattle.law_order.proofs.Vocabulary.{◌≡◌, ℕ, ◌==◌, Bool, true, false, List, [], ◌∷◌, ◌++◌, length, Some, None, Ok, Err, arith, refl, rules, sym, ap, ◌∙◌, subst, false≢true, nat_tests, if◌then◌else◌, IfSome, is_ok, ◌||◌, not, ◌&&◌, AllByRecursion, list_any, Option, Result}
use Rattle.rh_line.specs.Lines as line
use Rattle.rh_shell.specs.Waiting as waits
use Rattle.rh_inproxy.specs.Passing.{pdu_by}
use Rattle.rh_inproxy.specs.declared.state.Opening.TheVariants as openings
use Rattle.rh_inproxy.specs.Machine as machine
use Rattle.law_moves.proofs.Vocabulary.{may_send, Ack, by_test, Cookie, Named, ConnB1, InR1A1, InR1A5, InR2A2, AckTo, OutR1A7, OutR1A8, KeepAlive, EndA1, Ping, Line, Incoming, first_line, Leg, LineFault, Window, Over, Which, Current, Next, ClientIn, Count, Due, Message, Pdu, Packet, Move, OnLeg, all_moved, started, of_kind}
use Rattle.law_moves.proofs.Lemmas.{RowKeeps, PutKeeps, StepsKeep, moves_keep, all_append, kind_more}
use Rattle.law_role_inproxy.proofs.Vocabulary.{InProxyConfig, Entry, Connects, Replaces, TellsServer, Told, Follows, Opener, Opening, Successor, Absent, Up, Joined, Work, Done, Pick, or_else, unexpected, InProxy, first, channel_of, has_a5, is_client_leg, is_server_leg, announcement, first_by, put_first, echo_by, put_echo, up, head, drawn, ack_due, ack_by, current_ack, next_ack, put_acks, forwarded, forward_by, put_end, mark, settled, settled_pick, is_newest, told_by}
use Rattle.law_role_inproxy.proofs.Vocabulary.{put_in_r2_a2, put_in_r1_a6, passed, next_pdu, put_pdu, put as put_of, next, waiting_by, put_waiting, put_control, put_early, put_stream, put_behind, put_mark, put_ping, ping, pdu, packet, on_channel, on_channel_by, on_ci, on_is, rules as proxy_rules}
use Rattle.law_role_client.proofs.Vocabulary.{is_greeting}
use Rattle.law_role_windows.specs.Acknowledging.Acks.{OfPacket}
use Rattle.law_peers_expects.proofs.OutProxyExpects.Logs.{all_front, all_behind}
use Rattle.law_peers_expects.specs.OutProxyExpects.Early.{HasGreeted, IsQuiet, PutsQuietly}

-- what the facts are about
pub record Seen : Type 0 where
  pub line : Line
  pub dues : List Due

abbrev seen : InProxy → Seen
seen s = record { line = s.line; dues = s.waiting.due }

abbrev Same : InProxy → InProxy → Type 0
Same s t = seen t ≡ seen s

-- ---- what leaves these alone

same_up : (s : InProxy) (leg : Leg) → Same s (up s leg)
same_up s leg = search rules

same_head : (s : InProxy) (leg : Leg) (text : List ℕ) → Same s (head s leg text).0
same_head s leg text = search rules

same_drawn : (s : InProxy) (leg : Leg) → Same s (drawn s leg)
same_drawn s leg = search rules

same_settled : (s : InProxy) → Same s (settled s)
same_settled s = search rules

same_mark : (s : InProxy) (leg : Leg) → Same s (mark s leg)
same_mark s leg =
    same_settled (if is_newest s leg then record s { newest_lost = true } else s)
    ∙ by_test (Same s) (is_newest s leg) _ s (λ e. refl) (λ e. refl)

same_ping : (s : InProxy) (leg : Leg) → Same s (ping s leg)
same_ping s leg = search rules

-- a row that refuses leaves them alone
abbrev RefusedSame : InProxy → Done → Type 0
RefusedSame s (t, Ok taken) = Unit {0}
RefusedSame s (t, Err why) = Same s t

-- ---- what holds

-- the first channel is open, nothing waits, and nothing that is early was put
pub record Still (window : ℕ) (x : Seen) (put : List OnLeg) : Type 0 where
  pub line_is : x.line ≡ first_line window
  pub none : x.dues ≡ []
  pub quiet : AllByRecursion (OfPacket IsQuiet) put

greeted_before : (came : List OnLeg) (one : OnLeg) → HasGreeted (came ++ one ∷ [])
    → HasGreeted came
greeted_before came one greeted =
    all_front (λ (m : Message). is_greeting m ≡ true) (of_kind ClientIn came)
    (of_kind ClientIn (one ∷ []))
    (subst (AllByRecursion (λ (m : Message). is_greeting m ≡ true)) (kind_more ClientIn came one)
    greeted)

greeted_last : (came : List OnLeg) (leg : Leg) (m : Message) → is_client_leg leg ≡ true
    → HasGreeted (came ++ (leg, m) ∷ []) → is_greeting m ≡ true
greeted_last came leg m e greeted =
    (subst (λ (t : Bool).
    AllByRecursion (λ (x : Message). is_greeting x ≡ true) (if t then m ∷ [] else [])) e
    (all_behind (λ (x : Message). is_greeting x ≡ true) (of_kind ClientIn came)
    (of_kind ClientIn ((leg, m) ∷ []))
    (subst (AllByRecursion (λ (x : Message). is_greeting x ≡ true))
    (kind_more ClientIn came (leg, m)) greeted))).0

module _ (window : ℕ) where
  abbrev Holds : InProxy → List OnLeg → List OnLeg → Type 0
  Holds s came put = HasGreeted came → Still window (seen s) put

  same_holds : (s t : InProxy) (came put : List OnLeg) → Same s t → Holds s came put
      → Holds t came put
  same_holds s t came put same h greeted =
      subst (λ (x : Seen). Still window x put) (sym same) (h greeted)

  -- ---- rows

  module _ (s : InProxy) (leg : Leg) (came put : List OnLeg) (h : Holds s came put) where
    row_by : (m : Message) (x : Done) → RefusedSame s x
        → (HasGreeted (came ++ (leg, m) ∷ []) → Same s x.0)
        → RowKeeps Holds (leg, m) came put x
    row_by m (t, Ok taken) refused taken_so = λ greeted.
        same_holds s t came put (taken_so greeted) h (greeted_before came (leg, m) greeted)
    row_by m (t, Err why) refused taken_so = same_holds s t came put refused h

    same_row : (m : Message) (x : Done) → Same s x.0 → RowKeeps Holds (leg, m) came put x
    same_row m x same = row_by m x (refused_so x same) (λ greeted. same)
      where
        refused_so : (y : Done) → Same s y.0 → RefusedSame s y
        refused_so (t, Ok taken) e = tt
        refused_so (t, Err why) e = e

    -- what no greeting is, is not taken yet
    other_row : (m : Message) (x : Done) → is_client_leg leg ≡ true → is_greeting m ≡ false
        → RefusedSame s x → RowKeeps Holds (leg, m) came put x
    other_row m x e other refused =
        row_by m x refused
        (λ greeted. absurd (false≢true (sym other ∙ greeted_last came leg m e greeted)))

  -- ---- RPC PDUs

  refused_channel : (c : Incoming) (bytes : List ℕ) (fault : LineFault)
      → line.channel_verdict c bytes ≡ Err fault → line.admitted c bytes ≡ c
  refused_channel c bytes fault e =
      ap (λ (v : Result (Unit {0}) LineFault).
      if is_ok v then record c {
        pdus = c.pdus ++ bytes ∷ [];
        window = windows.after_admit c.window (length bytes);
      } else c) e

  module _ (s : InProxy) (bytes : List ℕ) where
    admitted_refused : (which : Which) (v : Result (Unit {0}) LineFault)
        → line.admit_verdict s.line which bytes ≡ v
        → RefusedSame s
        (pdu_by (record s { line = line.after_admit s.line which bytes }) v)
    admitted_refused which (Ok admitted) e = tt
    admitted_refused Current (Err (Window exceeded)) e =
        ap (λ (c : Incoming). record (seen s) { line = record (s.line) { current = c } })
        (refused_channel s.line.current bytes (Window exceeded) e)
    admitted_refused Current (Err Over) e =
        ap (λ (c : Incoming). record (seen s) { line = record (s.line) { current = c } })
        (refused_channel s.line.current bytes Over e)
    admitted_refused Next (Err (Window exceeded)) e =
        ap (λ (c : Incoming). record (seen s) { line = record (s.line) { next = c } })
        (refused_channel s.line.next bytes (Window exceeded) e)
    admitted_refused Next (Err Over) e =
        ap (λ (c : Incoming). record (seen s) { line = record (s.line) { next = c } })
        (refused_channel s.line.next bytes Over e)

    pdu_refused : (o : Option Which) → RefusedSame s (machine.pdu_by s o bytes)
    pdu_refused None = refl
    pdu_refused (Some which) =
        by_test (RefusedSame s) (has_a5 s which || line.is_ended s.line) (unexpected s)
        (pdu_by (record s { line = line.after_admit s.line which bytes })
        (line.admit_verdict s.line which bytes))
        (λ e. refl) (λ e. admitted_refused which (line.admit_verdict s.line which bytes) refl)

  pdu_row : (s : InProxy) (leg : Leg) (count : Count) (bytes : List ℕ) (came put : List OnLeg)
      → Holds s came put → RowKeeps Holds (leg, Pdu bytes) came put (pdu s leg count bytes)
  pdu_row s leg count bytes came put h =
      by_test (RowKeeps Holds (leg, Pdu bytes) came put) (is_client_leg leg)
      (machine.pdu_by s (channel_of s leg.number) bytes) (unexpected s)
      (λ e. other_row s leg came put h (Pdu bytes)
      (machine.pdu_by s (channel_of s leg.number) bytes) e refl
      (pdu_refused s bytes (channel_of s leg.number)))
      (λ e. h)

  -- ---- packets

  module _ (s : InProxy) where
    forward_refused : (named : Named) → RefusedSame s (forwarded s named)
    forward_refused named =
        by_test (λ (r : waits.Waiting × Bool). RefusedSame s (forward_by s r))
        (list_any (waits.takes named) s.waiting.due)
        (waits.with_due s.waiting (waits.merged s.waiting.due named), true)
        _
        (λ e. tt)
        (λ e. by_test (λ (r : waits.Waiting × Bool). RefusedSame s (forward_by s r)) _
        (waits.pushed s.waiting (waits.to_forward named), true) (s.waiting, false)
        (λ f. tt) (λ f. refl))

    channel_refused : (which : Which) (named : Named) → RefusedSame s (on_channel s which named)
    channel_refused which (AckTo to received available channel) =
        by_test (RefusedSame s) (not (has_a5 s which) && (to == 3))
        (forwarded s (AckTo 3 received available channel)) (unexpected s)
        (λ e. forward_refused (AckTo 3 received available channel)) (λ e. refl)
    channel_refused which (OutR1A7 to successor) =
        by_test (RefusedSame s) (not (has_a5 s which) && (to == 2))
        (forwarded s (OutR1A8 2 successor)) (unexpected s)
        (λ e. forward_refused (OutR1A8 2 successor)) (λ e. refl)
    channel_refused which (KeepAlive keepalive) = search rules
    channel_refused which EndA1 = search rules
    channel_refused which (InR1A5 successor) = search rules
    channel_refused which named = refl

    by_channel_refused : (o : Option Which) (named : Named)
        → RefusedSame s (on_channel_by s o named)
    by_channel_refused None named = refl
    by_channel_refused (Some which) named = channel_refused which named

    ping_same : (o : Option Which) → Same s (on_channel_by s o Ping).0
    ping_same None = refl
    ping_same (Some which) = refl

    b1_same : (n v1 : ℕ) (v2 v3 : Cookie) (v4 v5 : ℕ) (v6 : Cookie)
        → Same s (on_ci s n (ConnB1 v1 v2 v3 v4 v5 v6)).0
    b1_same n v1 v2 v3 v4 v5 v6 = search rules

    a1_refused : (n v1 : ℕ) (v2 v3 v4 : Cookie) → RefusedSame s (on_ci s n (InR1A1 v1 v2 v3 v4))
    a1_refused n v1 v2 v3 v4 = search rules

    is_same : (named : Named) → Same s (on_is s named).0
    is_same named = search rules

  module _ (s : InProxy) (leg : Leg) (came put : List OnLeg) (h : Holds s came put)
      (e : is_client_leg leg ≡ true) where
    abbrev Row : Named → Type 0
    Row named = RowKeeps Holds (leg, Packet named) came put (on_ci s leg.number named)

    other : (named : Named) → is_greeting (Packet named) ≡ false
        → on_ci s leg.number named
        ≡ on_channel_by s (channel_of s leg.number) named → Row named
    other named early same =
        subst (λ (x : Done). RowKeeps Holds (leg, Packet named) came put x) (sym same)
        (other_row s leg came put h (Packet named)
        (on_channel_by s (channel_of s leg.number) named) e early
        (by_channel_refused s (channel_of s leg.number) named))

    ci_row : (named : Named) → Row named
    ci_row (ConnB1 v1 v2 v3 v4 v5 v6) =
        same_row s leg came put h (Packet (ConnB1 v1 v2 v3 v4 v5 v6))
        (on_ci s leg.number (ConnB1 v1 v2 v3 v4 v5 v6))
        (b1_same s leg.number v1 v2 v3 v4 v5 v6)
    ci_row (InR1A1 v1 v2 v3 v4) =
        other_row s leg came put h (Packet (InR1A1 v1 v2 v3 v4))
        (on_ci s leg.number (InR1A1 v1 v2 v3 v4)) e refl (a1_refused s leg.number v1 v2 v3 v4)
    ci_row Ping =
        same_row s leg came put h (Packet Ping)
        (on_channel_by s (channel_of s leg.number) Ping)
        (ping_same s (channel_of s leg.number))
    ci_row named = other named refl refl

  packet_row : (s : InProxy) (leg : Leg) (count : Count) (named : Named) (came put : List OnLeg)
      → Holds s came put
      → RowKeeps Holds (leg, Packet named) came put (packet s leg count named)
  packet_row s leg count named came put h =
      by_test (RowKeeps Holds (leg, Packet named) came put) (is_client_leg leg)
      (on_ci s leg.number named)
      (if is_server_leg s leg then on_is s named else unexpected s)
      (λ e. ci_row s leg came put h e named)
      (λ e. by_test (RowKeeps Holds (leg, Packet named) came put) (is_server_leg s leg)
      (on_is s named) (unexpected s)
      (λ f. same_row s leg came put h (Packet named) (on_is s named) (is_same s named)) (λ f. h))

  -- ---- puts

  -- no acknowledgement is due for a first channel as it began, nor for one that is not there
  first_due : (which : Which) → windows.is_due (line.channel_of (first_line window) which).window
      ≡ true → ⊥
  first_due Current e = grind (arith, nat_tests, e)
  first_due Next e = grind (arith, nat_tests, e)

  module _ (leg : Leg) (came put : List OnLeg) where
    abbrev Puts : Pick → Type 0
    Puts pick = PutKeeps Holds leg came put pick

    abbrev Quiet : InProxy → Pick → Type 0
    Quiet s pick =
        IfSome pick (λ (one : InProxy × Message). Same s one.0 × OfPacket IsQuiet (leg, one.1))

    put_one : (t : InProxy) (m : Message) → OfPacket IsQuiet (leg, m) → Holds t came put
        → Holds t came (put ++ (leg, m) ∷ [])
    put_one t m quiet h greeted =
        let k = h greeted in
        record {
          line_is = k.line_is;
          none = k.none;
          quiet = all_append (OfPacket IsQuiet) put ((leg, m) ∷ []) k.quiet (quiet, tt);
        }

    quiet_put : (s : InProxy) (pick : Pick) → Quiet s pick → Holds s came put → Puts pick
    quiet_put s None quiet h = tt
    quiet_put s (Some one) quiet h =
        put_one one.0 one.1 quiet.1 (same_holds s one.0 came put quiet.0 h)

    or_put : (a b : Pick) → Puts a → Puts b → Puts (or_else a b)
    or_put None b h k = k
    or_put (Some pick) b h k = h

    module _ (s : InProxy) (h : Holds s came put) where
      announced : (o : Opener) (entry : Entry)
          → OfPacket IsQuiet (leg, Packet (announcement s o entry))
      announced o (Connects group) = tt
      announced o (Replaces predecessor) = tt

      quiet_first : (o : Opening) → Quiet s (first_by s o)
      quiet_first (openings.Announces o) = (refl, announced o o.entry)
      quiet_first openings.AwaitsClient = tt
      quiet_first openings.AwaitsPacket = tt
      quiet_first (openings.WantsServer o) = tt
      quiet_first (openings.Announced o) = tt

      quiet_told : (z : Successor) → Quiet s (told_by s z)
      quiet_told Absent = tt
      quiet_told (Up number) = tt
      quiet_told (Joined client Told) = tt
      quiet_told (Joined client Follows) = tt
      quiet_told (Joined client (TellsServer behind)) =
          by_test (Quiet s) (behind == 0)
          (Some (record s { successor = Joined client Told }, Packet (InR2A2 client.cookie))) None
          (λ f. (refl, tt)) (λ f. tt)

      waiting_put : (dues : List Due) → s.waiting.due ≡ dues → Puts (waiting_by s dues)
      waiting_put [] e = tt
      waiting_put (due ∷ dues) e = λ greeted. absurd (let none = (h greeted).none in cc)

      -- ---- acknowledgements

      none_due : (which : Which) → HasGreeted came
          → windows.is_due (line.channel_of s.line which).window ≡ true → ⊥
      none_due which greeted e =
          first_due which
          (subst (λ (l : Line). windows.is_due (line.channel_of l which).window ≡ true)
          (h greeted).line_is e)

      due_else : (b : Bool) (o : Option Ack) (P : Ack → Type 0) → IfSome o P
          → IfSome (if b then None else o) P
      due_else true o P k = tt
      due_else false o P k = k

      ack_none : (which : Which) → IfSome (ack_due s which) (λ (ack : Ack). HasGreeted came → ⊥)
      ack_none which =
          due_else ((line.channel_of s.line which).ended || has_a5 s which)
          (line.due s.line which) (λ (ack : Ack). HasGreeted came → ⊥)
          (by_test (λ (o : Option Ack). IfSome o (λ (ack : Ack). HasGreeted came → ⊥))
          (windows.is_due (line.channel_of s.line which).window) _ None
          (λ e greeted. none_due which greeted e) (λ e. tt))

      ack_put : (which : Which) (cookie : Cookie) (o : Option Ack)
          → IfSome o (λ (ack : Ack). HasGreeted came → ⊥) → Puts (ack_by s which cookie o)
      ack_put which cookie None none = tt
      ack_put which cookie (Some ack) none = λ greeted. absurd (none greeted)

      next_put : (z : Successor) → Puts (next_ack s z)
      next_put Absent = tt
      next_put (Up number) = tt
      next_put (Joined client stage) = ack_put Next client.cookie (ack_due s Next) (ack_none Next)

      -- ---- the rest

      front_put : (pdus : List (List ℕ)) → s.line.current.pdus ≡ pdus → Puts (next_pdu s pdus)
      front_put [] e = tt
      front_put (bytes ∷ pdus) e =
          by_test Puts (may_send s.window (length bytes))
          (Some (passed s (length bytes), Pdu bytes)) None
          (λ f greeted. absurd (
          let none = ap (λ (l : Line). l.current.pdus) (h greeted).line_is in cc))
          (λ f. tt)

      quiet_end : Quiet s (put_end s)
      quiet_end = search rules

      quiet_mark : Quiet s (put_in_r1_a6 s)
      quiet_mark = search rules

      quiet_ping : Quiet s (put_ping s)
      quiet_ping = search rules

      quiet_echo : (work : Work) (n : ℕ) → Quiet s (echo_by s work n)
      quiet_echo work n = search rules

      server_put : Puts (next s)
      server_put =
          or_put (put_control s) (put_stream s)
          (or_put (put_early s) (put_acks s)
          (or_put (put_first s) _ (quiet_put s (put_first s) (quiet_first s.opening) h)
          (or_put (put_in_r2_a2 s) (put_waiting s)
          (quiet_put s (put_in_r2_a2 s) (quiet_told s.successor) h)
          (waiting_put s.waiting.due refl)))
          (or_put (current_ack s) (next_ack s s.successor)
          (ack_put Current s.current.cookie (ack_due s Current) (ack_none Current))
          (next_put s.successor)))
          (or_put (put_pdu s) (put_behind s) (front_put s.line.current.pdus refl)
          (or_put (put_mark s) (put_ping s)
          (or_put (put_end s) (put_in_r1_a6 s) (quiet_put s (put_end s) quiet_end h)
          (quiet_put s (put_in_r1_a6 s) quiet_mark h))
          (quiet_put s (put_ping s) quiet_ping h)))

      settled_put : (pick : Pick) → Puts pick → Puts (settled_pick pick)
      settled_put None k = tt
      settled_put (Some pick) k =
          same_holds pick.0 (settled pick.0) came (put ++ (leg, pick.1) ∷ [])
          (same_settled pick.0) k

      puts : Puts (put_of s leg)
      puts =
          by_test Puts (is_client_leg leg) (put_echo s leg.number)
          (if is_server_leg s leg then settled_pick (next s) else None)
          (λ e. quiet_put s (put_echo s leg.number) (quiet_echo s.work leg.number) h)
          (λ e. by_test Puts (is_server_leg s leg) (settled_pick (next s)) None
          (λ f. settled_put (next s) server_put) (λ f. tt))

  keeps : StepsKeep proxy_rules Holds
  keeps = record {
    up = λ s leg cookie came put h. same_holds s (up s leg) came put (same_up s leg) h;
    head = λ s leg text came put h.
        same_holds s (head s leg text).0 came put (same_head s leg text) h;
    pdu = pdu_row;
    packet = packet_row;
    put = λ s leg came put h. puts leg came put s h;
    drawn = λ s leg came put h. same_holds s (drawn s leg) came put (same_drawn s leg) h;
    mark = λ s leg came put h. same_holds s (mark s leg) came put (same_mark s leg) h;
    ping = λ s leg came put h. same_holds s (ping s leg) came put (same_ping s leg) h;
  }

pub puts_quietly : (config : InProxyConfig) (moves : List Move)
    → PutsQuietly (all_moved proxy_rules (started (first config)) moves)
puts_quietly config moves greeted =
    (moves_keep proxy_rules (Holds config.window) (keeps config.window) (started (first config))
    moves (λ none. record { line_is = refl; none = refl; quiet = tt }) greeted).quiet
