-- an in proxy holds RPC PDUs back until the server told its window
use Rattle.law_order.proofs.Vocabulary.{◌≡◌, ℕ, ◌+◌, ◌≤◌, ◌&&◌, ◌||◌, Bool, true, false, true≢false, not, if◌then◌else◌, List, [], ◌∷◌, length, Some, None, Ok, Err, refl, sym, ap, ◌∙◌, subst, arith, rules, nat_tests, AllByRecursion, IfSome, is_ok, nat_le, Option, Result}
use Rattle.rh_sig.specs.declared.named.Named.TheVariants as named
use Rattle.rh_line.specs.Lines as line
use Rattle.rh_inproxy.specs.Passing as passing
use Rattle.law_moves.proofs.Vocabulary.{BadAck, Ack, ack_verdict, after_acked, may_send, unsent, Sender, by_test, Cookie, Named, Leg, LineFault, Window, Over, Which, Current, Next, Incoming, Line, Count, Due, Message, Text, Pdu, Packet}
use Rattle.law_moves.proofs.Lemmas.{all_append}
use Rattle.law_role_inproxy.proofs.Vocabulary.{Edge, Unknown, Known, InProxyConfig, TellsServer, Told, Follows, Opener, Opening, Successor, Absent, Up, Joined, acked, acked_by, ack_by, ack_due, ack_for, current_ack, next_ack, on_ack, on_ack_to, Done, Pick, taken, unexpected, is_newest, mark, on_end_a1, put_end, settled, finish_by, finished, hand_over, handed_over, is_newcomer, join, joined, on_in_r1_a5, on_in_r1_b1, on_later_in_r1_a1, put_in_r1_a6, put_in_r2_a2, told_by}
use Rattle.law_role_inproxy.proofs.Vocabulary.{drawn, first_by, head, is_first, is_unknown, on_conn_b1, on_first_in_r1_a1, opener_of, put_echo, put_first, up, on_out_r1_a7, next_pdu, on_pdu, passed, put as put_of, put_waiting, waiting_by, InProxy, channel_of, has_a5, is_client_leg, same_cookie, on_keep_alive, ping, put_ping, on_channel_by, on_ci, pdu, pdu_by}
use Rattle.law_role_inproxy.proofs.Putting.Picks.{put_so}

-- what the facts are about
pub record Near : Type 0 where
  pub config : InProxyConfig
  pub edge : Edge
  pub window : Sender
  -- the RPC PDUs of the current channel and of the next one
  pub pdus : List (List ℕ)
  pub later : List (List ℕ)

abbrev pub near : InProxy → Near
near s = record {
  config = s.config;
  edge = s.edge;
  window = s.window;
  pdus = s.line.current.pdus;
  later = s.line.next.pdus;
}

abbrev pub Alike : InProxy → InProxy → Type 0
Alike s t = near t ≡ near s

-- ---- what leaves these alone

pub alike_up : (s : InProxy) (leg : Leg) → Alike s (up s leg)
alike_up s leg = search rules

pub alike_head : (s : InProxy) (leg : Leg) (text : List ℕ) → Alike s (head s leg text).0
alike_head s leg text = search rules

alike_connect : (s : InProxy) (number : ℕ) (connection channel : Cookie) (keepalive : ℕ)
    (group : Cookie) → Alike s (on_conn_b1 s number connection channel keepalive group).0
alike_connect s number connection channel keepalive group = search rules

alike_forward : (s : InProxy) (which : Which) (to received available : ℕ) (channel : Cookie)
    → Alike s (on_ack_to s which to received available channel).0
alike_forward s which to received available channel = search rules

alike_answer : (s : InProxy) (which : Which) (to : ℕ) (successor : Cookie)
    → Alike s (on_out_r1_a7 s which to successor).0
alike_answer s which to successor = search rules

alike_alive : (s : InProxy) (which : Which) (keepalive : ℕ)
    → Alike s (on_keep_alive s which keepalive).0
alike_alive s which keepalive = search rules

alike_end : (s : InProxy) (which : Which) → Alike s (on_end_a1 s which).0
alike_end s Current = search rules
alike_end s Next = search rules

pub alike_let_go : (s : InProxy) → Alike s (on_in_r1_b1 s).0
alike_let_go s = search rules

pub alike_drawn : (s : InProxy) (leg : Leg) → Alike s (drawn s leg)
alike_drawn s leg = search rules

alike_settled : (s : InProxy) → Alike s (settled s)
alike_settled s = search rules

pub alike_mark : (s : InProxy) (leg : Leg) → Alike s (mark s leg)
alike_mark s leg =
    alike_settled (if is_newest s leg then record s { newest_lost = true } else s)
    ∙ by_test (Alike s) (is_newest s leg) _ s (λ e. refl) (λ e. refl)

pub alike_ping : (s : InProxy) (leg : Leg) → Alike s (ping s leg)
alike_ping s leg = search rules

-- ---- what is known

-- none of them is without bytes
abbrev pub AllLong : List (List ℕ) → Type 0
AllLong pdus = AllByRecursion (λ (bytes : List ℕ). 1 ≤ length bytes) pdus

-- until the server told its window, nothing may be sent
abbrev pub IsTold : ℕ → Edge → Sender → Type 0
IsTold told Unknown window = window ≡ unsent 0
IsTold told Known window = 1 ≤ told

-- where the server told it so often
pub record Fair (n told : ℕ) (x : Near) : Type 0 where
  pub number : x.config.number ≡ n
  pub window : IsTold told x.edge x.window
  pub pdus : AllLong x.pdus
  pub later : AllLong x.later

pub told_later : (told more : ℕ) (edge : Edge) (window : Sender) → told ≤ more
    → IsTold told edge window → IsTold more edge window
told_later told more Unknown window e h = h
told_later told more Known window e h = omega (arith, e, h)

was_told : (told : ℕ) (edge : Edge) (window : Sender) → is_unknown edge ≡ false
    → IsTold told edge window → 1 ≤ told
was_told told Unknown window e h = absurd cc
was_told told Known window e h = h

any_window : (told : ℕ) (edge : Edge) (window : Sender) → is_unknown edge ≡ false
    → 1 ≤ told → IsTold told edge window
any_window told Unknown window e h = absurd cc
any_window told Known window e h = h

none_fits : (len : ℕ) → 1 ≤ len → nat_le (0 + len) 0 ≡ false
none_fits len e = grind (arith, nat_tests)

knows : (told : ℕ) (edge : Edge) (window : Sender) (len : ℕ) → IsTold told edge window
    → 1 ≤ len → may_send window len ≡ true → is_unknown edge ≡ false
knows told Known window len h long may = refl
knows told Unknown window len h long may =
    absurd (true≢false (sym (subst (λ (w : Sender). may_send w len ≡ true) h may)
    ∙ none_fits len long))

module _ (n told : ℕ) where
  abbrev pub IsFair : InProxy → Type 0
  IsFair s = Fair n told (near s)

  pub alike_fair : (s t : InProxy) → Alike s t → IsFair s → IsFair t
  alike_fair s t same h = subst (Fair n told) (sym same) h

  -- ---- lines

  abbrev LineLong : Line → Type 0
  LineLong l = AllLong l.current.pdus × AllLong l.next.pdus

  settled_long : (l : Line) → LineLong l → LineLong (line.settled l)
  settled_long l h =
      by_test LineLong (l.finished && line.is_empty l.current.pdus) (line.moved_on l) l
      (λ e. (h.1, tt)) (λ e. h)

  admitted_long : (c : Incoming) (bytes : List ℕ) → 1 ≤ length bytes → AllLong c.pdus
      → AllLong (line.admitted c bytes).pdus
  admitted_long c bytes long h =
      by_test (λ (i : Incoming). AllLong i.pdus) (is_ok (line.channel_verdict c bytes)) _ c
      (λ e. all_append (λ (b : List ℕ). 1 ≤ length b) c.pdus (bytes ∷ []) h (long, tt))
      (λ e. h)

  with_line : (s : InProxy) (l : Line) → LineLong l → IsFair s → IsFair (record s { line = l })
  with_line s l long h = record {
    number = h.number;
    window = h.window;
    pdus = long.0;
    later = long.1;
  }

  -- ---- RPC PDUs that come

  pdu_by_same : (s : InProxy) (r : Result (Unit {0}) LineFault) → (passing.pdu_by s r).0 ≡ s
  pdu_by_same s (Ok admitted) = refl
  pdu_by_same s (Err (Window exceeded)) = refl
  pdu_by_same s (Err Over) = refl

  admits : (s : InProxy) (which : Which) (bytes : List ℕ) → 1 ≤ length bytes → IsFair s
      → IsFair (record s { line = line.after_admit s.line which bytes })
  admits s Current bytes long h =
      with_line s (line.after_admit s.line Current bytes)
      (admitted_long s.line.current bytes long h.pdus, h.later) h
  admits s Next bytes long h =
      with_line s (line.after_admit s.line Next bytes)
      (h.pdus, admitted_long s.line.next bytes long h.later) h

  on_pdu_fair : (s : InProxy) (which : Which) (bytes : List ℕ) → 1 ≤ length bytes → IsFair s
      → IsFair (on_pdu s which bytes).0
  on_pdu_fair s which bytes long h =
      by_test (λ (x : Done). IsFair x.0) (has_a5 s which || line.is_ended s.line) (unexpected s)
      (passing.pdu_by (record s { line = line.after_admit s.line which bytes })
      (line.admit_verdict s.line which bytes))
      (λ e. h)
      (λ e. subst IsFair
      (sym (pdu_by_same (record s { line = line.after_admit s.line which bytes })
      (line.admit_verdict s.line which bytes)))
      (admits s which bytes long h))

  pdu_fair_by : (s : InProxy) (o : Option Which) (bytes : List ℕ) → 1 ≤ length bytes → IsFair s
      → IsFair (pdu_by s o bytes).0
  pdu_fair_by s None bytes long h = h
  pdu_fair_by s (Some which) bytes long h = on_pdu_fair s which bytes long h

  pub pdu_fair : (s : InProxy) (leg : Leg) (count : Count) (bytes : List ℕ) → 1 ≤ length bytes
      → IsFair s → IsFair (pdu s leg count bytes).0
  pdu_fair s leg count bytes long h =
      by_test (λ (x : Done). IsFair x.0) (is_client_leg leg)
      (pdu_by s (channel_of s leg.number) bytes) (unexpected s)
      (λ e. pdu_fair_by s (channel_of s leg.number) bytes long h) (λ e. h)

  -- ---- packets on a ci leg

  join_fair : (s : InProxy) (o : Opener) (number : ℕ) (connection predecessor channel : Cookie)
      → IsFair s → IsFair (join s o number connection predecessor channel).0
  join_fair s o number connection predecessor channel h =
      by_test (λ (x : Done). IsFair x.0) (not (same_cookie o.connection connection)) _ _ (λ e. h)
      (λ e. by_test (λ (x : Done). IsFair x.0) (not (same_cookie s.current.cookie predecessor)) _
      (taken (joined s number channel)) (λ f. h)
      (λ f. record { number = h.number; window = h.window; pdus = h.pdus; later = tt }))

  later_fair : (s : InProxy) (o : Option Opener) (number : ℕ)
      (connection predecessor channel : Cookie) → IsFair s
      → IsFair (on_later_in_r1_a1 s o number connection predecessor channel).0
  later_fair s None number connection predecessor channel h = h
  later_fair s (Some o) number connection predecessor channel h =
      by_test (λ (x : Done). IsFair x.0) (is_newcomer s.successor number)
      (join s o number connection predecessor channel) (unexpected s)
      (λ e. join_fair s o number connection predecessor channel h) (λ e. h)

  finish_fair : (s : InProxy) (z : Successor) (cookie : Cookie) → IsFair s
      → IsFair (finish_by s z cookie).0
  finish_fair s Absent cookie h = alike_fair s (handed_over s cookie).0 refl h
  finish_fair s (Up number) cookie h = h
  finish_fair s (Joined leg (TellsServer behind)) cookie h = h
  finish_fair s (Joined leg Follows) cookie h = h
  finish_fair s (Joined leg Told) cookie h =
      by_test (λ (x : Done). IsFair x.0) (same_cookie leg.cookie cookie)
      (taken (finished s leg)) _
      (λ e.
      let long = settled_long (record (s.line) { finished = true }) (h.pdus, h.later) in
      record { number = h.number; window = h.window; pdus = long.0; later = long.1 })
      (λ e. h)

  leave_fair : (s : InProxy) (which : Which) (cookie : Cookie) → IsFair s
      → IsFair (on_in_r1_a5 s which cookie).0
  leave_fair s which cookie h =
      by_test (λ (x : Done). IsFair x.0) (has_a5 s which) (unexpected s)
      (hand_over s which cookie) (λ e. h) (λ e. by which)
    where
      by : (w : Which) → IsFair (hand_over s w cookie).0
      by Current = finish_fair s s.successor cookie h
      by Next = alike_fair s (handed_over s cookie).0 refl h

  channel_fair : (s : InProxy) (o : Option Which) (m : Named) → IsFair s
      → IsFair (on_channel_by s o m).0
  channel_fair s None m h = h
  channel_fair s (Some which) (named.AckTo to received available channel) h =
      alike_fair s (on_ack_to s which to received available channel).0
      (alike_forward s which to received available channel) h
  channel_fair s (Some which) (named.OutR1A7 to successor) h =
      alike_fair s (on_out_r1_a7 s which to successor).0 (alike_answer s which to successor) h
  channel_fair s (Some which) (named.KeepAlive keepalive) h =
      alike_fair s (on_keep_alive s which keepalive).0 (alike_alive s which keepalive) h
  channel_fair s (Some which) named.EndA1 h =
      alike_fair s (on_end_a1 s which).0 (alike_end s which) h
  channel_fair s (Some which) (named.InR1A5 successor) h = leave_fair s which successor h
  channel_fair s (Some which) m h = h

  pub ci_fair : (s : InProxy) (number : ℕ) (m : Named) → IsFair s
      → IsFair (on_ci s number m).0
  ci_fair s number (named.ConnB1 version connection channel lifetime keepalive group) h =
      alike_fair s (on_conn_b1 s number connection channel keepalive group).0
      (alike_connect s number connection channel keepalive group) h
  ci_fair s number (named.InR1A1 version connection predecessor channel) h =
      by_test (λ (x : Done). IsFair x.0) (is_first s number)
      (on_first_in_r1_a1 s connection predecessor channel)
      (on_later_in_r1_a1 s (opener_of s.opening) number connection predecessor channel)
      (λ e. alike_fair s (on_first_in_r1_a1 s connection predecessor channel).0 refl h)
      (λ e. later_fair s (opener_of s.opening) number connection predecessor channel h)
  ci_fair s number m h = channel_fair s (channel_of s number) m h

  -- ---- acknowledgements of the server

  acked_same : (s : InProxy) (r : Result (Unit {0}) BadAck) → (acked_by s r).0 ≡ s
  acked_same s (Ok applied) = refl
  acked_same s (Err bad) = refl

  for_fair : (s : InProxy) (o : Option Opener) (received available : ℕ) (channel : Cookie)
      → is_unknown s.edge ≡ false → IsFair s
      → IsFair (ack_for s o received available channel).0
  for_fair s None received available channel known h = h
  for_fair s (Some o) received available channel known h =
      by_test (λ (x : Done). IsFair x.0) (same_cookie o.channel channel)
      (acked s received available) _
      (λ e. subst IsFair
      (sym (acked_same (record s { window = after_acked s.window received available })
      (ack_verdict s.window received available)))
      (record {
        number = h.number;
        window = any_window told s.edge (after_acked s.window received available) known
            (was_told told s.edge s.window known h.window);
        pdus = h.pdus;
        later = h.later;
      }))
      (λ e. h)

  pub ack_fair : (s : InProxy) (received available : ℕ) (channel : Cookie) → IsFair s
      → IsFair (on_ack s received available channel).0
  ack_fair s received available channel h =
      by_test (λ (x : Done). IsFair x.0) (is_unknown s.edge) (unexpected s)
      (ack_for s (opener_of s.opening) received available channel) (λ e. h)
      (λ e. for_fair s (opener_of s.opening) received available channel e h)

  -- ---- puts

  abbrev pub IsSent : Message → Type 0
  IsSent (Text bytes) = Unit {0}
  IsSent (Pdu bytes) = 1 ≤ told
  IsSent (Packet packet) = Unit {0}

  abbrev pub PickFair : Pick → Type 0
  PickFair pick = IfSome pick (λ (one : InProxy × Message). IsFair one.0 × IsSent one.1)

  abbrev is_pdu : Message → Bool
  is_pdu (Text bytes) = false
  is_pdu (Pdu bytes) = true
  is_pdu (Packet packet) = false

  abbrev Shown : Type 0
  Shown = Near × Bool

  abbrev shown : InProxy → Bool → Shown
  shown s b = (near s, b)

  -- what is put is no RPC PDU
  abbrev PickQuiet : InProxy → Pick → Type 0
  PickQuiet s pick =
      IfSome pick (λ (one : InProxy × Message). shown one.0 (is_pdu one.1) ≡ shown s false)

  no_pdu : (m : Message) → is_pdu m ≡ false → IsSent m
  no_pdu (Text bytes) e = tt
  no_pdu (Pdu bytes) e = absurd cc
  no_pdu (Packet packet) e = tt

  quiet_fair : (s : InProxy) → IsFair s → (pick : Pick) → PickQuiet s pick → PickFair pick
  quiet_fair s h None q = tt
  quiet_fair s h (Some one) q = (
    alike_fair s one.0 (ap (λ (x : Shown). x.0) q) h,
    no_pdu one.1 (ap (λ (x : Shown). x.1) q),
  )

  module _ (s : InProxy) where
    quiet_first : (o : Opening) → PickQuiet s (first_by s o)
    quiet_first o = search rules

    quiet_told : (z : Successor) → PickQuiet s (told_by s z)
    quiet_told z = search rules

    quiet_waiting : (dues : List Due) → PickQuiet s (waiting_by s dues)
    quiet_waiting dues = search rules

    quiet_ack : (which : Which) (cookie : Cookie) (o : Option Ack)
        → PickQuiet s (ack_by s which cookie o)
    quiet_ack Current cookie o = search rules
    quiet_ack Next cookie o = search rules

    quiet_next : (z : Successor) → PickQuiet s (next_ack s z)
    quiet_next Absent = tt
    quiet_next (Up number) = tt
    quiet_next (Joined leg stage) = quiet_ack Next leg.cookie (ack_due s Next)

    quiet_end : PickQuiet s (put_end s)
    quiet_end = search rules

    quiet_mark : PickQuiet s (put_in_r1_a6 s)
    quiet_mark = search rules

    quiet_ping : PickQuiet s (put_ping s)
    quiet_ping = search rules

    quiet_echo : (number : ℕ) → PickQuiet s (put_echo s number)
    quiet_echo number = search rules

    module _ (h : IsFair s) where
      quiet : (pick : Pick) → PickQuiet s pick → PickFair pick
      quiet pick q = quiet_fair s h pick q

      taken_long : (pdus : List (List ℕ)) → AllLong pdus → LineLong (line.taken pdus s.line)
      taken_long [] long = (h.pdus, h.later)
      taken_long (bytes ∷ pdus) long =
          settled_long (record (s.line) { current = line.released (bytes ∷ pdus) s.line.current })
          (long.1, h.later)

      pdu_goes : (pdus : List (List ℕ)) → s.line.current.pdus ≡ pdus → PickFair (next_pdu s pdus)
      pdu_goes [] e = tt
      pdu_goes (bytes ∷ pdus) e =
          by_test PickFair (may_send s.window (length bytes))
          (Some (passed s (length bytes), Pdu bytes)) None
          (λ may.
          let all = subst AllLong e h.pdus in
          let known = knows told s.edge s.window (length bytes) h.window all.0 may in
          let some = was_told told s.edge s.window known h.window in
          let long = taken_long s.line.current.pdus h.pdus in (
            record {
              number = h.number;
              window = any_window told s.edge _ known some;
              pdus = long.0;
              later = long.1;
            },
            some,
          ))
          (λ may. tt)

      pub puts_fair : (leg : Leg) → PickFair (put_of s leg)
      puts_fair leg =
          put_so (λ (one : InProxy × Message). IsFair one.0 × IsSent one.1) s (record {
            first = quiet (put_first s) (quiet_first s.opening);
            joining = quiet (put_in_r2_a2 s) (quiet_told s.successor);
            waiting = quiet (put_waiting s) (quiet_waiting s.waiting.due);
            current = quiet (current_ack s)
                (quiet_ack Current s.current.cookie (ack_due s Current));
            later = quiet (next_ack s s.successor) (quiet_next s.successor);
            pdu = pdu_goes s.line.current.pdus refl;
            ending = quiet (put_end s) quiet_end;
            leaving = quiet (put_in_r1_a6 s) quiet_mark;
            ping = quiet (put_ping s) quiet_ping;
            echo = λ number. quiet (put_echo s number) (quiet_echo number);
            settling = λ t m both.
                (alike_fair t (settled t) (alike_settled t) both.0, both.1);
          }) leg
