-- each message that an in proxy puts may go on its pipe
use Rattle.rh_window.specs.Receiving.{after_told}
use Rattle.rh_window.specs.Sending as windows
use Rattle.law_order.proofs.Vocabulary.{◌≡◌, ℕ, ◌^◌, ◌<◌, true, false, not, ◌&&◌, ◌||◌, List, [], ◌∷◌, length, arith, refl, Some, None, IfSome, nat_eq, Option}
use Rattle.rh_sig.proofs.Members as members
use Rattle.rh_sig.specs.declared.named.Named.TheVariants as named
use Rattle.rh_line.specs.Lines as line
use Rattle.rh_inproxy.specs.declared.state.Work.TheVariants as work
use Rattle.law_moves.proofs.Vocabulary.{GREATEST_WINDOW, IsWindow, Ack, by_test, Cookie, Pipe, IsU, Named, GREATEST_TIMEOUT, carries, row_of, IsTimeout, name_of_named, Which, Current, Next, Due, Text, Pdu, Packet, with_due, IsFine, MayGo, MayGoOn}
use Rattle.law_role_inproxy.proofs.Vocabulary.{Entry, Connects, Replaces, Handover, Before, Came, Passed, TellsServer, Told, Follows, Opener, Opening, AwaitsClient, AwaitsPacket, WantsServer, Announces, Announced, Successor, Absent, Up, Joined, Work, ack_by, ack_due, current_ack, next_ack, put_acks, Pick, or_else, is_over, settled, settled_pick, mark_by, one_less, put_in_r1_a6, put_in_r2_a2, told_by, announcement, echo_answer, echo_by, first_by, is_absent, put_first, next_pdu}
use Rattle.law_role_inproxy.proofs.Vocabulary.{passed, put_pdu, next, put_behind, put_control, put_early, put_mark, put_stream, put_waiting, waiting_by, InProxy, IsConfig, has_a5, put_ping, HasSizes}
use Rattle.law_role_inproxy.proofs.LegibleKeeps.{IsSized, IsEntry, IsOpener, IsOpening, IsSuccessor, IsHandover, MayWait, IsSound, IsAck, opening_is, successor_is, handover_is, waiting_is, line_is, channel_is, channel_at, settles, acknowledges}

-- ---- packets of an is leg

-- the row of its name lists the pipe
pub to_server : (packet : Named) → carries (row_of (name_of_named packet)).pipes IsU ≡ true
    → IsFine packet → MayGo IsU packet
to_server packet e fine = record {
  fine = fine;
  carried = members.carried (row_of (name_of_named packet)).pipes IsU e;
}

window_below : (n : ℕ) → IsWindow n → n < 2 ^ 32
window_below n is =
    let greatest : GREATEST_WINDOW ≡ 262144 = refl in omega (arith, is.greatest, greatest)

timeout_below : (n : ℕ) → IsTimeout n → n < 2 ^ 32
timeout_below n is =
    let greatest : GREATEST_TIMEOUT ≡ 14400000 = refl in omega (arith, is.1, greatest)

announces : (s : InProxy) (o : Opener) (entry : Entry) → IsConfig s.config → HasSizes s.config
    → IsOpener o → IsEntry entry → MayGo IsU (announcement s o entry)
announces s o (Connects group) ranges sizes is e =
    let window = window_below s.config.window ranges.window in
    let timeout = timeout_below s.config.timeout ranges.timeout in
    to_server (announcement s o (Connects group)) refl
    (record {
      sizes = (
        omega arith,
        (is.connection, (is.channel, (window, (timeout, (e, ((sizes.address, refl), tt)))))),
      );
      ranges = (refl, (tt, (tt, (ranges.window, (ranges.timeout, (tt, (tt, tt)))))));
      destination = tt;
    })
announces s o (Replaces predecessor) ranges sizes is e =
    let window = window_below s.config.window ranges.window in
    let timeout = timeout_below s.config.timeout ranges.timeout in
    to_server (announcement s o (Replaces predecessor)) refl
    (record {
      sizes = (
        omega arith,
        (is.connection, (e, (is.channel, (window, (timeout, tt))))),
      );
      ranges = (refl, (tt, (tt, (tt, (ranges.window, (ranges.timeout, tt))))));
      destination = tt;
    })

follower_named : (cookie : Cookie) → IsSized cookie → MayGo IsU (named.InR2A2 cookie)
follower_named cookie is =
    to_server (named.InR2A2 cookie) refl
    (record { sizes = (is, tt); ranges = (tt, tt); destination = tt })

successor_named : (cookie : Cookie) → IsSized cookie → MayGo IsU (named.InR1A6 cookie)
successor_named cookie is =
    to_server (named.InR1A6 cookie) refl
    (record { sizes = (is, tt); ranges = (tt, tt); destination = tt })

ack_named : (received available : ℕ) (cookie : Cookie) → received < 2 ^ 32
    → available < 2 ^ 32 → IsSized cookie
    → MayGo IsU (named.AckTo 0 received available cookie)
ack_named received available cookie r a is =
    to_server (named.AckTo 0 received available cookie) refl
    (record {
      sizes = (omega arith, ((r, a, is), tt));
      ranges = (tt, (tt, tt));
      destination = omega arith;
    })

end_named : MayGo IsU named.EndA2
end_named =
    to_server named.EndA2 refl (record { sizes = (tt, tt); ranges = (tt, tt); destination = tt })

ping_named : MayGo IsU named.Ping
ping_named = to_server named.Ping refl (record { sizes = tt; ranges = tt; destination = tt })

-- ---- what may be put, in turn

-- the message may go on the pipe, and leaves a proxy that keeps what it may put
abbrev pub SoundPick : Option Pipe → Pick → Type 0
SoundPick pipe None = Unit {0}
SoundPick pipe (Some pick) = IsSound pick.0 × MayGoOn pipe pick.1

-- on the is leg
abbrev pub GoesOn : Pick → Type 0
GoesOn pick = SoundPick (Some IsU) pick

in_turn : (one other : Pick) → GoesOn one → GoesOn other → GoesOn (or_else one other)
in_turn None other first then_other = then_other
in_turn (Some pick) other first then_other = first

first_goes : (s : InProxy) (opening : Opening) → IsOpening opening → IsSound s
    → GoesOn (first_by s opening)
first_goes s AwaitsClient is k = tt
first_goes s AwaitsPacket is k = tt
first_goes s (WantsServer o) is k = tt
first_goes s (Announced o) is k = tt
first_goes s (Announces o) is k = (
  opening_is s (Announced o) tt k,
  announces s o o.entry k.ranges k.sizes is is.entry,
)

told_goes : (s : InProxy) (successor : Successor) → IsSuccessor successor → IsSound s
    → GoesOn (told_by s successor)
told_goes s Absent is k = tt
told_goes s (Up number) is k = tt
told_goes s (Joined leg Told) is k = tt
told_goes s (Joined leg Follows) is k = tt
told_goes s (Joined leg (TellsServer behind)) is k =
    by_test GoesOn (nat_eq behind 0)
    (Some (record s { successor = Joined leg Told }, Packet (named.InR2A2 leg.cookie))) None
    (λ e. (successor_is s (Joined leg Told) is k, follower_named leg.cookie is))
    (λ e. tt)

one_less_is : (successor : Successor) → IsSuccessor successor
    → IsSuccessor (one_less successor)
one_less_is Absent is = is
one_less_is (Up number) is = is
one_less_is (Joined leg (TellsServer behind)) is = is
one_less_is (Joined leg Told) is = is
one_less_is (Joined leg Follows) is = is

waiting_goes : (s : InProxy) (dues : List Due) → MayWait dues → IsSound s
    → GoesOn (waiting_by s dues)
waiting_goes s [] may k = tt
waiting_goes s (due ∷ dues) may k = (
  successor_is (record s { waiting = with_due s.waiting dues }) (one_less s.successor)
      (one_less_is s.successor k.behind) (waiting_is s (with_due s.waiting dues) may.1 k),
  may.0,
)

ack_goes : (s : InProxy) (which : Which) (cookie : Cookie) (ack : Option Ack) → IsSized cookie
    → IfSome ack (IsAck (line.channel_of s.line which).window) → IsSound s
    → GoesOn (ack_by s which cookie ack)
ack_goes s which cookie None sized is k = tt
ack_goes s which cookie (Some ack) sized is k =
    let c = line.channel_of s.line which in (
      channel_is s which (line.with_window c (after_told c.window ack))
          (record { each = (channel_at s which k).each; within = is.within }) k,
      ack_named ack.received ack.available cookie is.received is.available sized,
    )

due_fits : (s : InProxy) (which : Which) → IsSound s
    → IfSome (ack_due s which) (IsAck (line.channel_of s.line which).window)
due_fits s which k =
    by_test (λ (ack : Option Ack). IfSome ack (IsAck (line.channel_of s.line which).window))
    ((line.channel_of s.line which).ended || has_a5 s which) None (line.due s.line which)
    (λ e. tt)
    (λ e. acknowledges (line.channel_of s.line which).window (channel_at s which k).within)

next_ack_goes : (s : InProxy) (successor : Successor) → IsSuccessor successor → IsSound s
    → GoesOn (next_ack s successor)
next_ack_goes s Absent is k = tt
next_ack_goes s (Up number) is k = tt
next_ack_goes s (Joined leg stage) is k =
    ack_goes s Next leg.cookie (ack_due s Next) is (due_fits s Next k) k

-- ---- RPC PDUs, marks and Pings

pdu_goes : (s : InProxy) (pdus : List (List ℕ))
    → IsSound (record s {
      line = record (s.line) { current = record (s.line.current) { pdus = pdus } };
    })
    → GoesOn
    (next_pdu
    (record s { line = record (s.line) { current = record (s.line.current) { pdus = pdus } } })
    pdus)
pdu_goes s [] k = tt
pdu_goes s (pdu ∷ pdus) k =
    let before = record s {
      line = record (s.line) { current = record (s.line.current) { pdus = pdu ∷ pdus } };
    } in
    let after = record s {
      line = record (s.line) {
        current =
            line.released (pdu ∷ pdus) (record (s.line.current) { pdus = pdu ∷ pdus });
      };
      window = windows.after_sent s.window (length pdu);
    } in
    by_test GoesOn (windows.may_send s.window (length pdu))
    (Some (passed before (length pdu), Pdu pdu)) None
    (λ e. (
      settles after
          (line_is before after.line
          (record { each = k.current.each.1; within = k.current.within }) k.following k),
      k.current.each.0,
    ))
    (λ e. tt)

mark_goes : (s : InProxy) (handover : Handover) → IsHandover handover → IsSound s
    → GoesOn (mark_by s handover)
mark_goes s Before is k = tt
mark_goes s Passed is k = tt
mark_goes s (Came cookie) is k = (handover_is s Passed tt k, successor_named cookie is)

marks_go : (s : InProxy) → IsSound s → GoesOn (put_mark s)
marks_go s k =
    by_test (λ (pick : Pick). GoesOn (or_else pick (put_in_r1_a6 s)))
    (s.line.current.ended && not s.end_put && line.is_empty s.line.current.pdus)
    (Some (record s { end_put = true }, Packet named.EndA2)) None
    (λ e. (k, end_named))
    (λ e. by_test GoesOn (is_absent s.successor && line.is_empty s.line.current.pdus)
    (mark_by s s.handover) None
    (λ f. mark_goes s s.handover k.handed k) (λ f. tt))

ping_goes : (s : InProxy) → IsSound s → GoesOn (put_ping s)
ping_goes s k =
    by_test GoesOn s.ping_due (Some (record s { ping_due = false }, Packet named.Ping)) None
    (λ e. (k, ping_named)) (λ e. tt)

-- ---- the next message

next_goes : (s : InProxy) → IsSound s → GoesOn (next s)
next_goes s k =
    in_turn (put_control s) (put_stream s)
    (in_turn (put_early s) (put_acks s)
    (in_turn (put_first s) (or_else (put_in_r2_a2 s) (put_waiting s))
    (first_goes s s.opening k.opener k)
    (in_turn (put_in_r2_a2 s) (put_waiting s) (told_goes s s.successor k.behind k)
    (waiting_goes s s.waiting.due k.waits k)))
    (in_turn (current_ack s) (next_ack s s.successor)
    (ack_goes s Current s.current.cookie (ack_due s Current) k.channel (due_fits s Current k) k)
    (next_ack_goes s s.successor k.behind k)))
    (in_turn (put_pdu s) (put_behind s) (pdu_goes s s.line.current.pdus k)
    (in_turn (put_mark s) (put_ping s) (marks_go s k) (ping_goes s k)))

-- the work may be done by it
pub settled_is : (s : InProxy) → IsSound s → IsSound (settled s)
settled_is s k =
    by_test IsSound (is_over s) (record s { work = work.Done }) s (λ e. k) (λ e. k)

settled_goes : (pick : Pick) → GoesOn pick → GoesOn (settled_pick pick)
settled_goes None goes = tt
settled_goes (Some pick) goes = (settled_is pick.0 goes.0, goes.1)

pub server_goes : (s : InProxy) → IsSound s → GoesOn (settled_pick (next s))
server_goes s k = settled_goes (next s) (next_goes s k)

-- the answer to an echo request is no frame
pub echo_goes : (pipe : Option Pipe) (s : InProxy) (w : Work) (n : ℕ) → IsSound s
    → SoundPick pipe (echo_by s w n)
echo_goes pipe s work.Underway n k = tt
echo_goes pipe s (work.EchoPut asked_on) n k = tt
echo_goes pipe s work.Done n k = tt
echo_goes pipe s (work.EchoDue asked_on) n k =
    by_test (SoundPick pipe) (nat_eq asked_on n)
    (Some (record s { work = work.EchoPut asked_on }, Text echo_answer)) None
    (λ e. (k, tt)) (λ e. tt)
