-- each message that an in proxy puts keeps its law of order
use Rattle.rh_window.specs.Sending as windows
use Rattle.law_order.proofs.Vocabulary.{◌≡◌, ℕ, Bool, true, false, not, ◌&&◌, List, [], ◌∷◌, ◌++◌, length, refl, Some, None, nat_eq, ◌||◌, Option, Item, Piece, Stop, Log, PassesPdu, PassesEnd, PassesHandover}
use Rattle.rh_sig.specs.declared.named.Named.TheVariants as named
use Rattle.rh_line.specs.Lines as line
use Rattle.rh_inproxy.specs.declared.state.Work.TheVariants as work
use Rattle.law_moves.proofs.Vocabulary.{Ack, by_test, passer_step, Cookie, Current, Next, Due, Pdu, Packet}
use Rattle.law_role_inproxy.proofs.Vocabulary.{Entry, Connects, Replaces, Handover, Before, Came, Passed, ClientLeg, Joining, TellsServer, Told, Follows, Opener, Opening, AwaitsClient, AwaitsPacket, WantsServer, Announces, Announced, Successor, Absent, Up, Joined, ack_by, ack_due, current_ack, next_ack, put_acks, Pick, or_else, is_over, settled, settled_pick, has_passed, mark_by, one_less, put_in_r1_a6, put_in_r2_a2, told_by, announcement, first_by, is_absent, put_first}
use Rattle.law_role_inproxy.proofs.Vocabulary.{next_pdu, passed, put_pdu, next, put_behind, put_control, put_early, put_mark, put_stream, put_waiting, waiting_by, InProxy, put_ping, item_put, passer_of}
use Rattle.law_role_inproxy.proofs.OrderKeeps.{Kept, both, nothing_there, quiet_put, settles}
use Rattle.law_role_inproxy.proofs.Putting.Tests.{not_so}

-- what is put keeps the law, with the item that it is
abbrev pub KeptPick : ℕ → Log → List Item → Pick → Type 0
KeptPick first came put None = Unit {0}
KeptPick first came put (Some pick) = Kept first came (put ++ item_put pick.1) pick.0

in_turn : (first : ℕ) (came : Log) (put : List Item) (one other : Pick)
    → KeptPick first came put one → KeptPick first came put other
    → KeptPick first came put (or_else one other)
in_turn first came put None other k l = l
in_turn first came put (Some pick) other k l = k

-- ---- packets that are no items

plain_announcement : (s : InProxy) (o : Opener) (entry : Entry)
    → item_put (Packet (announcement s o entry)) ≡ []
plain_announcement s o (Connects group) = refl
plain_announcement s o (Replaces predecessor) = refl

first_keeps : (first : ℕ) (came : Log) (put : List Item) (s : InProxy) (opening : Opening)
    → Kept first came put s → KeptPick first came put (first_by s opening)
first_keeps first came put s AwaitsClient k = tt
first_keeps first came put s AwaitsPacket k = tt
first_keeps first came put s (WantsServer o) k = tt
first_keeps first came put s (Announced o) k = tt
first_keeps first came put s (Announces o) k =
    quiet_put first came put (item_put (Packet (announcement s o o.entry)))
    (record s { opening = Announced o }) (plain_announcement s o o.entry)
    (record { sound = k.sound; law = k.law })

told_keeps : (first : ℕ) (came : Log) (put : List Item) (s : InProxy) (successor : Successor)
    → Kept first came put (record s { successor = successor })
    → KeptPick first came put (told_by (record s { successor = successor }) successor)
told_keeps first came put s Absent k = tt
told_keeps first came put s (Up number) k = tt
told_keeps first came put s (Joined leg Told) k = tt
told_keeps first came put s (Joined leg Follows) k = tt
told_keeps first came put s (Joined leg (TellsServer behind)) k =
    by_test (KeptPick first came put) (nat_eq behind 0)
    (Some (record s { successor = Joined leg Told }, Packet (named.InR2A2 leg.cookie))) None
    (λ e. quiet_put first came put [] (record s { successor = Joined leg Told }) refl
    (record {
      sound = record {
        joined = k.sound.joined;
        behind = k.sound.behind;
        unmarked = k.sound.unmarked;
        finished = k.sound.finished;
        marked = k.sound.marked;
        plain = k.sound.plain;
      };
      law = k.law;
    }))
    (λ e. tt)

-- IN_R2/A2 counts what goes before it, and no more
counts_down : (first : ℕ) (came : Log) (put : List Item) (s : InProxy) (successor : Successor)
    → Kept first came put (record s { successor = successor })
    → Kept first came put (record s { successor = one_less successor })
counts_down first came put s Absent k = k
counts_down first came put s (Up number) k = k
counts_down first came put s (Joined leg (TellsServer behind)) k =
    record {
      sound = record {
        joined = k.sound.joined;
        behind = k.sound.behind;
        unmarked = k.sound.unmarked;
        finished = k.sound.finished;
        marked = k.sound.marked;
        plain = k.sound.plain;
      };
      law = k.law;
    }
counts_down first came put s (Joined leg Told) k = k
counts_down first came put s (Joined leg Follows) k = k

waiting_keeps : (first : ℕ) (came : Log) (put : List Item) (s : InProxy) (dues : List Due)
    → Kept first came put
    (record s { waiting = record (s.waiting) { due = dues } })
    → KeptPick first came put
    (waiting_by (record s { waiting = record (s.waiting) { due = dues } }) dues)
waiting_keeps first came put s [] k = tt
waiting_keeps first came put s (due ∷ dues) k =
    quiet_put first came put (item_put (Packet due.packet))
    (record s {
      waiting = record (s.waiting) { due = dues };
      successor = one_less s.successor;
    }) k.sound.plain.0
    (counts_down first came put
    (record s { waiting = record (s.waiting) { due = dues } }) s.successor
    (record {
      sound = record {
        joined = k.sound.joined;
        behind = k.sound.behind;
        unmarked = k.sound.unmarked;
        finished = k.sound.finished;
        marked = k.sound.marked;
        plain = k.sound.plain.1;
      };
      law = k.law;
    }))

ack_keeps : (first : ℕ) (came : Log) (put : List Item) (s : InProxy) (cookie : Cookie)
    (ack : Option Ack) → Kept first came put s
    → KeptPick first came put (ack_by s Current cookie ack)
ack_keeps first came put s cookie None k = tt
ack_keeps first came put s cookie (Some ack) k =
    quiet_put first came put [] (record s { line = line.after_told s.line Current ack }) refl
    (record { sound = k.sound; law = k.law })

next_ack_by : (first : ℕ) (came : Log) (put : List Item) (s : InProxy) (leg : ClientLeg)
    (stage : Joining) (cookie : Cookie) (ack : Option Ack)
    → Kept first came put (record s { successor = Joined leg stage })
    → KeptPick first came put
    (ack_by (record s { successor = Joined leg stage }) Next cookie ack)
next_ack_by first came put s leg stage cookie None k = tt
next_ack_by first came put s leg stage cookie (Some ack) k =
    quiet_put first came put []
    (record s {
      line = line.after_told s.line Next ack;
      successor = Joined leg stage;
    }) refl
    (record { sound = k.sound; law = k.law })

next_ack_keeps : (first : ℕ) (came : Log) (put : List Item) (s : InProxy)
    (successor : Successor) → Kept first came put (record s { successor = successor })
    → KeptPick first came put (next_ack (record s { successor = successor }) successor)
next_ack_keeps first came put s Absent k = tt
next_ack_keeps first came put s (Up number) k = tt
next_ack_keeps first came put s (Joined leg stage) k =
    next_ack_by first came put s leg stage leg.cookie
    (ack_due (record s { successor = Joined leg stage }) Next) k

ping_keeps : (first : ℕ) (came : Log) (put : List Item) (s : InProxy) → Kept first came put s
    → KeptPick first came put (put_ping s)
ping_keeps first came put s k =
    by_test (KeptPick first came put) s.ping_due
    (Some (record s { ping_due = false }, Packet named.Ping)) None
    (λ e. quiet_put first came put [] (record s { ping_due = false }) refl
    (record { sound = k.sound; law = k.law }))
    (λ e. tt)

-- ---- RPC PDUs

-- the front PDU went, and the channel may be finished by it
pdu_passes : (first : ℕ) (came : Log) (put : List Item) (s : InProxy) (pdu : List ℕ)
    (pdus : List (List ℕ))
    → Kept first came put
    (record s {
      line = record (s.line) { current = record (s.line.current) { pdus = pdu ∷ pdus } };
    })
    → Kept first came (put ++ Piece pdu ∷ [])
    (passed
    (record s {
      line = record (s.line) { current = record (s.line.current) { pdus = pdu ∷ pdus } };
    }) (length pdu))
pdu_passes first came put s pdu pdus k =
    settles first came (put ++ Piece pdu ∷ [])
    (record s {
      line = record (s.line) {
        current =
            line.released (pdu ∷ pdus) (record (s.line.current) { pdus = pdu ∷ pdus });
      };
      window = windows.after_sent s.window (length pdu);
    })
    (record {
      sound = k.sound;
      law = passer_step
          (passer_of (record s {
            line = record (s.line) { current = record (s.line.current) { pdus = pdu ∷ pdus } };
          })) first came put (PassesPdu pdu pdus) k.law refl;
    })

pdu_keeps : (first : ℕ) (came : Log) (put : List Item) (s : InProxy) (pdus : List (List ℕ))
    → Kept first came put
    (record s { line = record (s.line) { current = record (s.line.current) { pdus = pdus } } })
    → KeptPick first came put
    (next_pdu
    (record s { line = record (s.line) { current = record (s.line.current) { pdus = pdus } } })
    pdus)
pdu_keeps first came put s [] k = tt
pdu_keeps first came put s (pdu ∷ pdus) k =
    by_test (KeptPick first came put) (windows.may_send s.window (length pdu))
    (Some (
      passed
          (record s {
            line = record (s.line) { current = record (s.line.current) { pdus = pdu ∷ pdus } };
          }) (length pdu),
      Pdu pdu,
    )) None
    (λ e. pdu_passes first came put s pdu pdus k)
    (λ e. tt)

-- ---- marks

three : (a b c : Bool) → a && b && c ≡ true → (a ≡ true) × (b ≡ true) × (c ≡ true)
three false b c e = absurd cc
three true false c e = absurd cc
three true true false e = absurd cc
three true true true e = (refl, refl, refl)

-- END is due no more
put_already : (over end_put empty : Bool) → over && not end_put && empty ≡ false → empty ≡ true
    → over ≡ true → end_put ≡ true
put_already false end_put empty e there o = absurd cc
put_already true true empty e there o = refl
put_already true false true e there o = absurd cc
put_already true false false e there o = absurd cc

-- where END was not put, IN_R1/A6 was not
not_yet : (passed over end_put : Bool) → (passed ≡ true → over ≡ true → end_put ≡ true)
    → over ≡ true → end_put ≡ false → passed ≡ false
not_yet false over end_put m o e = refl
not_yet true over end_put m o e = let t = m refl o in absurd cc

pub ended_now : (before now : Bool) → now ≡ true → before || now ≡ true
ended_now true now e = refl
ended_now false now e = e

end_passes : (first : ℕ) (came : Log) (put : List Item) (s : InProxy) → Kept first came put s
    → s.line.current.ended && not s.end_put && line.is_empty s.line.current.pdus ≡ true
    → Kept first came (put ++ Stop ∷ []) (record s { end_put = true })
end_passes first came put s k e =
    let is = three s.line.current.ended (not s.end_put) (line.is_empty s.line.current.pdus) e in
    let unput = not_so s.end_put is.1 in
    record {
      sound = record {
        joined = k.sound.joined;
        behind = k.sound.behind;
        unmarked = k.sound.unmarked;
        finished = k.sound.finished;
        marked = λ passed over. refl;
        plain = k.sound.plain;
      };
      law = passer_step (passer_of s) first came put PassesEnd k.law (
        ended_now s.line.was_ended s.line.current.ended is.0,
        nothing_there s.line.current.pdus is.2,
        unput,
        not_yet (has_passed s.handover) s.line.current.ended s.end_put k.sound.marked
            is.0 unput,
      );
    }

mark_passes : (first : ℕ) (came : Log) (put : List Item) (s : InProxy) (successor : Successor)
    (handover : Handover) → is_absent successor ≡ true → s.line.current.pdus ≡ []
    → (s.line.current.ended ≡ true → s.end_put ≡ true)
    → Kept first came put (record s { successor = successor; handover = handover })
    → KeptPick first came put
    (mark_by (record s { successor = successor; handover = handover }) handover)
mark_passes first came put s (Up number) handover absent none ended k = absurd cc
mark_passes first came put s (Joined leg stage) handover absent none ended k = absurd cc
mark_passes first came put s Absent Before absent none ended k = tt
mark_passes first came put s Absent Passed absent none ended k = tt
mark_passes first came put s Absent (Came cookie) absent none ended k = record {
  sound = record {
    joined = k.sound.joined;
    behind = tt;
    unmarked = tt;
    finished = k.sound.finished;
    marked = λ passed. ended;
    plain = k.sound.plain;
  };
  law = passer_step (passer_of (record s { successor = Absent; handover = Came cookie })) first
      came put PassesHandover k.law (refl, none, refl);
}

mark_keeps : (first : ℕ) (came : Log) (put : List Item) (s : InProxy) → Kept first came put s
    → KeptPick first came put (put_mark s)
mark_keeps first came put s k =
    by_test (λ (pick : Pick). KeptPick first came put (or_else pick (put_in_r1_a6 s)))
    (s.line.current.ended && not s.end_put && line.is_empty s.line.current.pdus)
    (Some (record s { end_put = true }, Packet named.EndA2)) None
    (λ e. end_passes first came put s k e)
    (λ e. by_test (KeptPick first came put)
    (is_absent s.successor && line.is_empty s.line.current.pdus) (mark_by s s.handover) None
    (λ f. let is = both (is_absent s.successor) (line.is_empty s.line.current.pdus) f in
    mark_passes first came put s s.successor s.handover is.0
    (nothing_there s.line.current.pdus is.1)
    (put_already s.line.current.ended s.end_put (line.is_empty s.line.current.pdus) e is.1) k)
    (λ f. tt))

-- ---- the next message

pub settled_keeps : (first : ℕ) (came : Log) (put : List Item) (s : InProxy)
    → Kept first came put s → Kept first came put (settled s)
settled_keeps first came put s k =
    by_test (Kept first came put) (is_over s) (record s { work = work.Done }) s
    (λ e. record { sound = k.sound; law = k.law })
    (λ e. k)

next_keeps : (first : ℕ) (came : Log) (put : List Item) (s : InProxy) → Kept first came put s
    → KeptPick first came put (next s)
next_keeps first came put s k =
    in_turn first came put (put_control s) (put_stream s)
    (in_turn first came put (put_early s) (put_acks s)
    (in_turn first came put (put_first s) (or_else (put_in_r2_a2 s) (put_waiting s))
    (first_keeps first came put s s.opening k)
    (in_turn first came put (put_in_r2_a2 s) (put_waiting s)
    (told_keeps first came put s s.successor k)
    (waiting_keeps first came put s s.waiting.due k)))
    (in_turn first came put (current_ack s) (next_ack s s.successor)
    (ack_keeps first came put s s.current.cookie (ack_due s Current) k)
    (next_ack_keeps first came put s s.successor k)))
    (in_turn first came put (put_pdu s) (put_behind s)
    (pdu_keeps first came put s s.line.current.pdus k)
    (in_turn first came put (put_mark s) (put_ping s)
    (mark_keeps first came put s k)
    (ping_keeps first came put s k)))

-- the work may be done by it
settled_pick_keeps : (first : ℕ) (came : Log) (put : List Item) (pick : Pick)
    → KeptPick first came put pick → KeptPick first came put (settled_pick pick)
settled_pick_keeps first came put None k = tt
settled_pick_keeps first came put (Some pick) k =
    settled_keeps first came (put ++ item_put pick.1) pick.0 k

pub put_keeps : (first : ℕ) (came : Log) (put : List Item) (s : InProxy) → Kept first came put s
    → KeptPick first came put (settled_pick (next s))
put_keeps first came put s k =
    settled_pick_keeps first came put (next s) (next_keeps first came put s k)
