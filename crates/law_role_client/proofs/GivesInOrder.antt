-- a client gives in order: each move keeps the law of an end that gives
use Rattle.law_order.proofs.Vocabulary.{◌≡◌, ℕ, suc, ◌+◌, ◌==◌, Bool, true, false, not, ◌&&◌, nat_lt, nat_le, ◌||◌, if◌then◌else◌, List, [], ◌∷◌, ◌++◌, length, Some, None, Ok, Err, arith, rules, refl, sym, subst, Option, Result, Handover, Log, more, Giver, GiverLaw, Giving, Accepts, PutsPdu, PutsEnd, HandsOver, gives, given_items, sent_by}
use Rattle.law_order.specs.Giving as giving
use Rattle.rh_sig.specs.declared.named.Named.TheVariants as named
use Rattle.rh_shell.specs.declared.answers.Phase.TheVariants as phase
use Rattle.rh_shell.specs.declared.end_role.GiveRefused.TheVariants as give_refused
use Rattle.rh_client.specs.declared.replacement.InStage.TheVariants as in_stage
use Rattle.rh_client.specs.declared.replacement.OutStage.TheVariants as out_stage
use Rattle.rh_client.specs.declared.replacement.Waits.TheVariants as waits
use Rattle.rh_client.specs.Channels as channels
use Rattle.rh_client.specs.Putting as putting
use Rattle.rh_client.specs.Client as client
use Rattle.law_moves.proofs.Vocabulary.{Ack, may_put, fits, by_test, same_number, more_none, giver_step, giver_starts, giver_same, checked, pdu_fault, PduFault, Cookie, Named, CONN_B1_LEN, IN_R1_A1_LEN, IN_R1_A5_LEN, OUT_R1_A7_LEN, END_A1_LEN, ACK_TO_LEN, PING_LEN, ClientConfig, in_request, is_empty, after_finish, after_told, after_take, behind, front_length, total, queue_bytes, Leg, LegKind, ClientOut, OutServer, ClientIn, InServer, Which, Current, Next, first_of, Row}
use Rattle.law_moves.proofs.Vocabulary.{Message, Text, Pdu, Packet, Count, RecycleRefused, Last, Passage, EndPassage, EndMove, Up, HeadCame, PduCame, PacketCame, Puts, IsDrawn, Marks, Pings, Moves, Gives, Takes, Recycles, taken_by, given_by, with_first, end_moved, all_end_moved}
use Rattle.law_moves.specs.Moves as moves
use Rattle.law_role_client.proofs.Vocabulary.{Opening, NotUp, Request, First, Second, Put, LAST_NUMBER, Replacement, NoneUnderWay, In, Out, Waits, ClientRole, unopened_in, unopened_out, metered, is_named, is_in, Done, taken, unexpected, is_open, is_writing, is_in_successor, is_current, is_out_successor, is_over, begin_in, begin_out, after_in, after_out, up_by, on_conn_a3, on_conn_c2, ack_due, cookie_of, on_pdu, on_ack_to, ack_named, acked, ack_row, on_in_r1_a4, on_in_r2_a4}
use Rattle.law_role_client.proofs.Vocabulary.{recycle_by, wish_by, wished, wants_successor, handed_over, succeeded, ended_or, pass_by, passed, a10_by, on_out_r1_a2, on_out_r1_a6, Given, give, give_pdu, take, drawn_by, on_end_b2, ping_by, Pick, or_else, conn_b1, in_r1_a1, begun_in, with_end_put, without_ping, put_in_r1_a5, put_out_r1_a7, put_by, put_conn_b1, put_in_r1_a1, put_current, put_out_successor, put_out, due_by, put_due, ack_by, put_ack_of, put_ack, lets_pdu, put_pdu}
use Rattle.law_role_client.proofs.Vocabulary.{is_end_due, put_end, put_ping, put_successor_ping, put_next, put_writing, put_in_successor, put_in, settled_or_wished, settled_pick, rules as client_rules, acts, on_packet, packet_by, packet, pdu, up_items, put_log, giver_of, GivesInOrder, client_started, client_moved}
use Rattle.law_role_client.proofs.ClientLogs.{log_here, log_other, of_kind, of_other}

-- ---- what the law reads

record Side : Type 0 where
  queue : List (List ℕ)
  closing : Bool
  writing : ℕ
  end_put : Bool
  -- an IN channel is replaced; the number of its successor, and whether END was put there
  replaces : Bool
  successor : ℕ
  successor_end : Bool

abbrev side : ClientRole → Side
side s = record {
  queue = s.queue;
  closing = s.is_closing;
  writing = s.writing.number;
  end_put = s.writing.is_end_put;
  replaces = is_in s.replacement;
  successor = s.in_successor.number;
  successor_end = s.in_successor.is_end_put;
}

abbrev giver_by : List (List ℕ) → Side → Giver
giver_by given d = record {
  given = given;
  queue = d.queue;
  closing = d.closing;
  writing = d.writing;
  end_put = d.end_put;
}

-- the successor has the next number, and END was not put on it
abbrev IsNext : Bool → ℕ → ℕ → Bool → Type 0
IsNext true writing successor ended = (successor ≡ suc writing) × (ended ≡ false)
IsNext false writing successor ended = Unit {0}

record Kept (given : List (List ℕ)) (d : Side) (sent : Log) : Type 0 where
  law : GiverLaw (giver_by given d) sent
  next : IsNext d.replaces d.writing d.successor d.successor_end

same : (given : List (List ℕ)) (d e : Side) (sent : Log) → e ≡ d → Kept given d sent
    → Kept given e sent
same given d e sent q l = subst (λ x. Kept given x sent) (sym q) l

-- ---- replacements

begin_in_kept : (given : List (List ℕ)) (s : ClientRole) (w : Bool) (sent : Log)
    → GiverLaw (giver_of given s) sent → Kept given (side (begin_in s w)) sent
begin_in_kept given s w sent l =
    by_test (λ f. Kept given (side f) sent) (nat_lt s.writing.number LAST_NUMBER)
    (record s {
      in_successor = unopened_in (s.writing.number + 1) s.config.lifetime;
      replacement = In in_stage.Asked w;
    })
    (record s { replacement = NoneUnderWay })
    (λ e. record { law = l; next = (omega arith, refl) }) (λ e. record { law = l; next = tt })

begin_out_kept : (given : List (List ℕ)) (s : ClientRole) (w : Waits) (sent : Log)
    → GiverLaw (giver_of given s) sent → Kept given (side (begin_out s w)) sent
begin_out_kept given s w sent l =
    by_test (λ f. Kept given (side f) sent) (nat_lt s.current.number LAST_NUMBER)
    (record s {
      out_successor = unopened_out (s.current.number + 1);
      replacement = Out out_stage.Asked w;
    })
    (record s { replacement = NoneUnderWay })
    (λ e. record { law = l; next = tt }) (λ e. record { law = l; next = tt })

after_in_kept : (given : List (List ℕ)) (s : ClientRole) (w : Bool) (sent : Log)
    → GiverLaw (giver_of given s) sent → Kept given (side (after_in s w)) sent
after_in_kept given s true sent l = begin_out_kept given s waits.Nothing sent l
after_in_kept given s false sent l = record { law = l; next = tt }

after_out_kept : (given : List (List ℕ)) (s : ClientRole) (w : Waits) (sent : Log)
    → GiverLaw (giver_of given s) sent → Kept given (side (after_out s w)) sent
after_out_kept given s waits.Nothing sent l = record { law = l; next = tt }
after_out_kept given s waits.In sent l = begin_in_kept given s false sent l
after_out_kept given s waits.Out sent l = begin_out_kept given s waits.Nothing sent l
after_out_kept given s waits.InThenOut sent l = begin_in_kept given s true sent l
after_out_kept given s waits.OutThenIn sent l = begin_out_kept given s waits.In sent l

wish_kept : (given : List (List ℕ)) (s : ClientRole) (r : Replacement) (sent : Log)
    → Kept given (side s) sent → Kept given (side (wish_by s r)) sent
wish_kept given s NoneUnderWay sent l = begin_in_kept given s false sent l.law
wish_kept given s (In stage w) sent l = l
wish_kept given s (Out stage w) sent l = record { law = l.law; next = tt }

settled_kept : (given : List (List ℕ)) (s : ClientRole) (sent : Log)
    → Kept given (side s) sent → Kept given (side (settled_or_wished s)) sent
settled_kept given s sent l =
    by_test (λ f. Kept given (side f) sent) (is_over s) (record s { phase = phase.Ended })
    (wished s) (λ e. l)
    (λ e. by_test (λ f. Kept given (side f) sent) (wants_successor s) (wish_by s s.replacement) s
    (λ o. wish_kept given s s.replacement sent l) (λ o. l))

ended_or_kept : (given : List (List ℕ)) (s : ClientRole) (w : Waits) (sent : Log)
    → Kept given (side s) sent → Kept given (side (ended_or s w)) sent
ended_or_kept given s w sent l =
    by_test (λ f. Kept given (side f) sent) (is_over s) (record s { phase = phase.Ended })
    (after_out s w) (λ e. l) (λ e. after_out_kept given s w sent l.law)

pass_kept : (given : List (List ℕ)) (s : ClientRole) (r : Replacement) (sent : Log)
    → Kept given (side s) sent → Kept given (side (pass_by s r)) sent
pass_kept given s NoneUnderWay sent l = l
pass_kept given s (In stage w) sent l = l
pass_kept given s (Out out_stage.Asked w) sent l = l
pass_kept given s (Out out_stage.Answered w) sent l = l
pass_kept given s (Out out_stage.Switched w) sent l = l
pass_kept given s (Out out_stage.Finished w) sent l =
    by_test (λ f. Kept given (side f) sent) s.line.has_next s (ended_or (succeeded s) w) (λ e. l)
    (λ e. ended_or_kept given (succeeded s) w sent (record { law = l.law; next = tt }))

recycle_kept : (given : List (List ℕ)) (s : ClientRole) (r : Replacement) (sent : Log)
    → Kept given (side s) sent → Kept given (side (recycle_by s r).0) sent
recycle_kept given s NoneUnderWay sent l =
    by_test (λ (x : ClientRole × Result (Unit {0}) RecycleRefused). Kept given (side x.0) sent)
    (nat_lt s.writing.number LAST_NUMBER) (begin_in s false, Ok tt) (s, Err Last)
    (λ e. begin_in_kept given s false sent l.law) (λ e. l)
recycle_kept given s (In stage w) sent l = l
recycle_kept given s (Out stage w) sent l = l

-- ---- rows

abbrev RowKeeps : List (List ℕ) → Log → ClientRole → ClientRole → Type 0
RowKeeps given sent s f = Kept given (side s) sent → Kept given (side f) sent

a10_kept : (given : List (List ℕ)) (sent : Log) (s : ClientRole) (n : ℕ) (r : Replacement)
    → s.replacement ≡ r → RowKeeps given sent s (a10_by s n r).0
a10_kept given sent s n NoneUnderWay e l = l
a10_kept given sent s n (In stage w) e l = l
a10_kept given sent s n (Out out_stage.Asked w) e l = l
a10_kept given sent s n (Out out_stage.Answered w) e l = l
a10_kept given sent s n (Out out_stage.Switched w) e l =
    let f : ClientRole = record s {
      line = after_finish s.line;
      replacement = Out out_stage.Finished w;
    } in
    by_test (λ (x : Done). Kept given (side x.0) sent) (s.line.has_next && is_current s n)
    (taken (passed f)) (unexpected s)
    (λ o. pass_kept given f f.replacement sent (record { law = l.law; next = tt })) (λ o. l)
a10_kept given sent s n (Out out_stage.Finished w) e l = l

-- of two answers that leave it alone
either : (s : ClientRole) (b : Bool) (x y : Done) → side x.0 ≡ side s → side y.0 ≡ side s
    → side (if b then x else y).0 ≡ side s
either s true x y l m = l
either s false x y l m = m

ack_side : (s : ClientRole) (to r a : ℕ) (of : Cookie)
    → side (on_ack_to s to r a of).0 ≡ side s
ack_side s to r a of =
    either s (is_open s.phase && to == 0) (ack_named s r a of) (unexpected s)
    (either s (is_named s.writing of)
    (record s { writing = acked s.writing r a }, ack_row s.writing r a) _ refl
    (either s (is_named s.in_successor of)
    (record s { in_successor = acked s.in_successor r a }, ack_row s.in_successor r a) _ refl
    (either s (is_named s.leaving of)
    (record s { leaving = acked s.leaving r a }, ack_row s.leaving r a) (taken s) refl refl)))
    refl

row_gives : (given : List (List ℕ)) (sent : Log) (s : ClientRole) (n : ℕ) (count : Count)
    (packet : Named) → RowKeeps given sent s (on_packet s n count packet).0
row_gives given sent s n count (named.ConnA3 t) l =
    same given (side s) (side (on_conn_a3 s n count t).0) sent (search rules) l
row_gives given sent s n count (named.ConnC2 v w t) l =
    same given (side s) (side (on_conn_c2 s n w t).0) sent (search rules) l
row_gives given sent s n count (named.AckTo to r a of) l =
    same given (side s) (side (on_ack_to s to r a of).0) sent (ack_side s to r a of) l
row_gives given sent s n count (named.InR1A4 to v w t) l =
    same given (side s) (side (on_in_r1_a4 s to w t).0) sent (search rules) l
row_gives given sent s n count (named.InR2A4 to) l =
    same given (side s) (side (on_in_r2_a4 s to).0) sent (search rules) l
row_gives given sent s n count (named.OutR1A2 to) l =
    same given (side s) (side (on_out_r1_a2 s n to).0) sent (search rules) l
row_gives given sent s n count (named.OutR1A6 to v t) l =
    same given (side s) (side (on_out_r1_a6 s n to t).0) sent (search rules) l
row_gives given sent s n count named.OutR1A10 l = a10_kept given sent s n s.replacement refl l
row_gives given sent s n count named.EndB2 l =
    same given (side s) (side (on_end_b2 s n).0) sent (search rules) l
row_gives given sent s n count (named.ConnA1 v c d w) l = l
row_gives given sent s n count (named.ConnA2 v c d life w) l = l
row_gives given sent s n count (named.ConnB1 v c d life k g) l = l
row_gives given sent s n count (named.ConnB2 v c d w t g a b) l = l
row_gives given sent s n count (named.ConnB3 w v) l = l
row_gives given sent s n count (named.ConnC1 v w t) l = l
row_gives given sent s n count (named.InR1A1 v c d e) l = l
row_gives given sent s n count (named.InR1A2 v c d e w t) l = l
row_gives given sent s n count (named.InR1A3 to v w t) l = l
row_gives given sent s n count (named.InR1A5 c) l = l
row_gives given sent s n count (named.InR1A6 c) l = l
row_gives given sent s n count named.InR1B1 l = l
row_gives given sent s n count (named.InR1B2 w) l = l
row_gives given sent s n count (named.InR2A2 c) l = l
row_gives given sent s n count (named.InR2A3 to) l = l
row_gives given sent s n count (named.OutR1A1 to) l = l
row_gives given sent s n count (named.OutR1A3 v c d e w) l = l
row_gives given sent s n count named.OutR2C1 l = l
row_gives given sent s n count (named.OutR1A4 v c d e life w t) l = l
row_gives given sent s n count (named.OutR1A5 to v t) l = l
row_gives given sent s n count (named.OutR1A7 to c) l = l
row_gives given sent s n count (named.OutR1A8 to c) l = l
row_gives given sent s n count named.OutR1A9 l = l
row_gives given sent s n count named.EndA1 l = l
row_gives given sent s n count named.EndA2 l = l
row_gives given sent s n count named.EndB1 l = l
row_gives given sent s n count (named.Ack r w c) l = l
row_gives given sent s n count (named.KeepAlive k) l = l
row_gives given sent s n count (named.PingTraffic b) l = l
row_gives given sent s n count named.Ping l = l

packet_kept : (given : List (List ℕ)) (sent : Log) (s : ClientRole) (n : ℕ) (count : Count)
    (packet : Named) (k : LegKind) → RowKeeps given sent s (packet_by s n count packet k).0
packet_kept given sent s n count packet ClientOut l =
    by_test (λ (x : Done). Kept given (side x.0) sent) (is_current s n || is_out_successor s n)
    (on_packet s n count packet) (unexpected s)
    (λ e. row_gives given sent s n count packet l) (λ e. l)
packet_kept given sent s n count packet OutServer l = l
packet_kept given sent s n count packet ClientIn l = l
packet_kept given sent s n count packet InServer l = l

pdu_kept : (given : List (List ℕ)) (sent : Log) (s : ClientRole) (n : ℕ) (bytes : List ℕ)
    (k : LegKind) → RowKeeps given sent s (client.pdu_by s n bytes k).0
pdu_kept given sent s n bytes ClientOut l =
    same given (side s) (side (on_pdu s n bytes).0) sent (search rules) l
pdu_kept given sent s n bytes OutServer l = l
pdu_kept given sent s n bytes ClientIn l = l
pdu_kept given sent s n bytes InServer l = l

up_kept : (given : List (List ℕ)) (sent : Log) (s : ClientRole) (n : ℕ) (cookie : Cookie)
    (k : LegKind) → RowKeeps given sent s (up_by s n cookie k)
up_kept given sent s n cookie k l =
    same given (side s) (side (up_by s n cookie k)) sent (search rules) l

drawn_kept : (given : List (List ℕ)) (sent : Log) (s : ClientRole) (n : ℕ) (k : LegKind)
    → RowKeeps given sent s (drawn_by s n k)
drawn_kept given sent s n k l =
    same given (side s) (side (drawn_by s n k)) sent (search rules) l

ping_kept : (given : List (List ℕ)) (sent : Log) (s : ClientRole) (n : ℕ) (k : LegKind)
    → RowKeeps given sent s (ping_by s n k)
ping_kept given sent s n k l =
    same given (side s) (side (ping_by s n k)) sent (search rules) l

-- ---- puts on IN channels

-- behind a put on channel n
abbrev PickKept : List (List ℕ) → Log → ℕ → Pick → Type 0
PickKept given sent n None = Unit {0}
PickKept given sent n (Some pick) = Kept given (side pick.0) (more n (up_items pick.1) sent)

or_kept : (given : List (List ℕ)) (sent : Log) (n : ℕ) (p q : Pick) → PickKept given sent n p
    → PickKept given sent n q → PickKept given sent n (or_else p q)
or_kept given sent n None q a b = b
or_kept given sent n (Some pick) q a b = a

-- a message that order is not about
quiet : (given : List (List ℕ)) (sent : Log) (n : ℕ) (f : ClientRole) (m : Message)
    → up_items m ≡ [] → Kept given (side f) sent → PickKept given sent n (Some (f, m))
quiet given sent n f m e l =
    subst (λ items. Kept given (side f) (more n items sent)) (sym e)
    (subst (Kept given (side f)) (sym (more_none n sent)) l)

-- where it may go
quiet_if : (given : List (List ℕ)) (sent : Log) (n : ℕ) (b : Bool) (f : ClientRole) (m : Message)
    → up_items m ≡ [] → Kept given (side f) sent
    → PickKept given sent n (if b then Some (f, m) else None)
quiet_if given sent n b f m e l =
    by_test (PickKept given sent n) b (Some (f, m)) None
    (λ o. quiet given sent n f m e l) (λ o. tt)

abbrev giver_at : List (List ℕ) → List (List ℕ) → Bool → ℕ → Bool → Giver
giver_at given queue closing writing end_put = record {
  given = given;
  queue = queue;
  closing = closing;
  writing = writing;
  end_put = end_put;
}

-- the successor is the writing channel
handed : (given queue : List (List ℕ)) (closing : Bool) (w n : ℕ) (e : Bool) → n ≡ suc w
    → e ≡ false
    → giver_at given queue closing n e ≡ giver_at given queue closing (suc w) false
handed given queue closing w n e a b = cc

a5_kept : (given : List (List ℕ)) (sent : Log) (s : ClientRole) (w : Bool)
    → Kept given (side s) sent
    → IsNext true s.writing.number s.in_successor.number s.in_successor.is_end_put
    → PickKept given sent s.writing.number (put_in_r1_a5 s w)
a5_kept given sent s w l next =
    by_test (PickKept given sent s.writing.number) (fits s.writing.meter IN_R1_A5_LEN)
    (Some (handed_over s w, Packet (named.InR1A5 s.in_successor.cookie))) None
    (λ o. after_in_kept given (record s {
      leaving = s.writing;
      writing = s.in_successor;
      in_successor = unopened_in 0 s.config.lifetime;
    }) w (more s.writing.number (Handover ∷ []) sent)
    (giver_same (gives (giver_by given (side s)) HandsOver) _ _
    (handed given s.queue s.is_closing s.writing.number s.in_successor.number
    s.in_successor.is_end_put next.0 next.1)
    (giver_step (giver_by given (side s)) sent HandsOver l.law tt)))
    (λ o. tt)

a7_kept : (given : List (List ℕ)) (sent : Log) (s : ClientRole) (w : Waits)
    → Kept given (side s) sent → PickKept given sent s.writing.number (put_out_r1_a7 s w)
a7_kept given sent s w l =
    let f : ClientRole = record s {
      writing = metered s.writing OUT_R1_A7_LEN;
      replacement = Out out_stage.Switched w;
    } in
    quiet_if given sent s.writing.number (fits s.writing.meter OUT_R1_A7_LEN) f
    (Packet (named.OutR1A7 2 s.out_successor.cookie)) refl (record { law = l.law; next = tt })

due_kept : (given : List (List ℕ)) (sent : Log) (s : ClientRole) (r : Replacement)
    → s.replacement ≡ r → Kept given (side s) sent
    → PickKept given sent s.writing.number (due_by s r)
due_kept given sent s NoneUnderWay e l = tt
due_kept given sent s (In in_stage.Asked w) e l = tt
due_kept given sent s (In in_stage.Answered w) e l =
    a5_kept given sent s w l
    (subst (λ r. IsNext (is_in r) s.writing.number s.in_successor.number s.in_successor.is_end_put)
    e l.next)
due_kept given sent s (Out out_stage.Asked w) e l = tt
due_kept given sent s (Out out_stage.Answered w) e l = a7_kept given sent s w l
due_kept given sent s (Out out_stage.Switched w) e l = tt
due_kept given sent s (Out out_stage.Finished w) e l = tt

ack_kept : (given : List (List ℕ)) (sent : Log) (s : ClientRole) (which : Which)
    (ack : Option Ack) → Kept given (side s) sent
    → PickKept given sent s.writing.number (ack_by s which ack)
ack_kept given sent s which None l = tt
ack_kept given sent s which (Some ack) l =
    by_test (PickKept given sent s.writing.number) (may_put s.writing.meter ACK_TO_LEN)
    (Some (
      record s {
        line = after_told s.line which ack;
        writing = metered s.writing ACK_TO_LEN;
      },
      Packet (named.AckTo 3 ack.received ack.available (cookie_of s which)),
    )) None
    (λ o. subst (Kept given (side s)) (sym (more_none s.writing.number sent)) l) (λ o. tt)

put_ack_kept : (given : List (List ℕ)) (sent : Log) (s : ClientRole) → Kept given (side s) sent
    → PickKept given sent s.writing.number (put_ack s)
unfolding put_ack put_ack_of
put_ack_kept given sent s l =
    or_kept given sent s.writing.number (ack_by s Current (ack_due s Current))
    (ack_by s Next (ack_due s Next)) (ack_kept given sent s Current (ack_due s Current) l)
    (ack_kept given sent s Next (ack_due s Next) l)

-- the front PDU stands before those behind it
in_front : (queue : List (List ℕ)) (len : ℕ) → front_length queue ≡ Some len
    → queue ≡ first_of queue ∷ behind queue
in_front [] len e = absurd (cc)
in_front (pdu ∷ pdus) len e = refl

pdu_put_kept : (given : List (List ℕ)) (sent : Log) (s : ClientRole) (len : Option ℕ)
    → front_length s.queue ≡ len → Kept given (side s) sent
    → PickKept given sent s.writing.number (putting.pdu_by s len)
pdu_put_kept given sent s None e l = tt
pdu_put_kept given sent s (Some len) e l =
    by_test (PickKept given sent s.writing.number) (lets_pdu s len)
    (Some (
      record s { queue = behind s.queue; writing = channels.sent s.writing len },
      Pdu (first_of s.queue),
    )) None
    (λ o. record {
      law = giver_step (giver_by given (side s)) sent
          (PutsPdu (first_of s.queue) (behind s.queue)) l.law (in_front s.queue len e);
      next = l.next;
    })
    (λ o. tt)

put_pdu_kept : (given : List (List ℕ)) (sent : Log) (s : ClientRole) → Kept given (side s) sent
    → PickKept given sent s.writing.number (put_pdu s)
unfolding put_pdu
put_pdu_kept given sent s l = pdu_put_kept given sent s (front_length s.queue) refl l

may_end : (o c : Bool) (q : List (List ℕ)) (p f : Bool)
    → ((o && c) && (is_empty q && not p)) && f ≡ true → (c ≡ true) × (q ≡ []) × (p ≡ false)
may_end false c q p f e = absurd (cc)
may_end true false q p f e = absurd (cc)
may_end true true (x ∷ q) p f e = absurd (cc)
may_end true true [] true f e = absurd (cc)
may_end true true [] false f e = (refl, refl, refl)

put_end_kept : (given : List (List ℕ)) (sent : Log) (s : ClientRole) → Kept given (side s) sent
    → PickKept given sent s.writing.number (put_end s)
unfolding put_end
put_end_kept given sent s l =
    by_test (PickKept given sent s.writing.number)
    (is_end_due s && fits s.writing.meter END_A1_LEN)
    (Some (
      record s { writing = with_end_put (metered s.writing END_A1_LEN) },
      Packet named.EndA1,
    )) None
    (λ e. record {
      law = giver_step (giver_by given (side s)) sent PutsEnd l.law
          (may_end (is_open s.phase) s.is_closing s.queue s.writing.is_end_put
          (fits s.writing.meter END_A1_LEN) e);
      next = l.next;
    })
    (λ e. tt)

put_ping_kept : (given : List (List ℕ)) (sent : Log) (s : ClientRole) → Kept given (side s) sent
    → PickKept given sent s.writing.number (put_ping s)
unfolding put_ping
put_ping_kept given sent s l =
    quiet_if given sent s.writing.number
    (s.writing.is_ping_due && may_put s.writing.meter PING_LEN)
    (record s { writing = without_ping (metered s.writing PING_LEN) }) (Packet named.Ping) refl l

put_due_kept : (given : List (List ℕ)) (sent : Log) (s : ClientRole) → Kept given (side s) sent
    → PickKept given sent s.writing.number (put_due s)
unfolding put_due
put_due_kept given sent s l = due_kept given sent s s.replacement refl l

put_next_kept : (given : List (List ℕ)) (sent : Log) (s : ClientRole) → Kept given (side s) sent
    → PickKept given sent s.writing.number (put_next s)
unfolding put_next
put_next_kept given sent s l =
    let n = s.writing.number in
    or_kept given sent n (put_due s) _ (put_due_kept given sent s l)
    (or_kept given sent n (put_ack s) _ (put_ack_kept given sent s l)
    (or_kept given sent n (put_pdu s) _ (put_pdu_kept given sent s l)
    (or_kept given sent n (put_end s) (put_ping s) (put_end_kept given sent s l)
    (put_ping_kept given sent s l))))

put_conn_b1_kept : (given : List (List ℕ)) (sent : Log) (s : ClientRole)
    → Kept given (side s) sent → PickKept given sent s.writing.number (put_conn_b1 s)
unfolding put_conn_b1
put_conn_b1_kept given sent s l =
    quiet_if given sent s.writing.number (may_put s.writing.meter CONN_B1_LEN)
    (record s { writing = begun_in (metered s.writing CONN_B1_LEN) Put }) (Packet (conn_b1 s)) refl
    l

put_writing_kept : (given : List (List ℕ)) (sent : Log) (s : ClientRole) (o : Opening)
    → Kept given (side s) sent → PickKept given sent s.writing.number (put_writing s o)
unfolding put_writing
put_writing_kept given sent s NotUp l = tt
put_writing_kept given sent s Request l =
    quiet given sent s.writing.number (record s { writing = begun_in s.writing First })
    (Text (in_request s.config)) refl l
put_writing_kept given sent s First l = put_conn_b1_kept given sent s l
put_writing_kept given sent s Second l = tt
put_writing_kept given sent s Put l = put_next_kept given sent s l

put_in_successor_kept : (given : List (List ℕ)) (sent : Log) (s : ClientRole) (n : ℕ)
    (o : Opening) → Kept given (side s) sent → PickKept given sent n (put_in_successor s o)
unfolding put_in_successor put_in_r1_a1 put_successor_ping
put_in_successor_kept given sent s n NotUp l = tt
put_in_successor_kept given sent s n Request l =
    quiet given sent n (record s { in_successor = begun_in s.in_successor First })
    (Text (in_request s.config)) refl l
put_in_successor_kept given sent s n First l =
    quiet_if given sent n (may_put s.in_successor.meter IN_R1_A1_LEN)
    (record s { in_successor = begun_in (metered s.in_successor IN_R1_A1_LEN) Put })
    (Packet (in_r1_a1 s)) refl l
put_in_successor_kept given sent s n Second l = tt
put_in_successor_kept given sent s n Put l =
    quiet_if given sent n (s.in_successor.is_ping_due && may_put s.in_successor.meter PING_LEN)
    (record s { in_successor = without_ping (metered s.in_successor PING_LEN) })
    (Packet named.Ping) refl l

put_in_kept : (given : List (List ℕ)) (sent : Log) (s : ClientRole) (n : ℕ)
    → Kept given (side s) sent → PickKept given sent n (put_in s n)
unfolding put_in
put_in_kept given sent s n l =
    by_test (PickKept given sent n) (is_writing s n) (put_writing s s.writing.opening)
    (if is_in_successor s n then put_in_successor s s.in_successor.opening else None)
    (λ e. subst (λ k. PickKept given sent k (put_writing s s.writing.opening))
    (sym (same_number n s.writing.number e)) (put_writing_kept given sent s s.writing.opening l))
    (λ e. by_test (PickKept given sent n) (is_in_successor s n)
    (put_in_successor s s.in_successor.opening) None
    (λ o. put_in_successor_kept given sent s n s.in_successor.opening l) (λ o. tt))

-- ---- puts on OUT channels

abbrev OtherKept : List (List ℕ) → Log → Pick → Type 0
OtherKept given sent None = Unit {0}
OtherKept given sent (Some pick) = Kept given (side pick.0) sent

put_out_kept : (given : List (List ℕ)) (sent : Log) (s : ClientRole) (n : ℕ)
    → Kept given (side s) sent → OtherKept given sent (put_out s n)
unfolding put_out put_current put_out_successor
put_out_kept given sent s n l =
    by_test (OtherKept given sent) (is_current s n) (put_current s s.current.opening)
    (if is_out_successor s n then put_out_successor s s.out_successor.opening else None)
    (λ e. current s.current.opening)
    (λ e. by_test (OtherKept given sent) (is_out_successor s n)
    (put_out_successor s s.out_successor.opening) None
    (λ o. successor s.out_successor.opening) (λ o. tt))
  where
    current : (o : Opening) → OtherKept given sent (put_current s o)
    current NotUp = tt
    current Request = l
    current First = l
    current Second = tt
    current Put = tt

    successor : (o : Opening) → OtherKept given sent (put_out_successor s o)
    successor NotUp = tt
    successor Request = l
    successor First = l
    successor Second = l
    successor Put = tt

-- ---- moves

abbrev Holds : List (List ℕ) → Passage ClientRole → Type 0
Holds given p = Kept given (side p.role) (put_log p.put)

taken_holds : (given : List (List ℕ)) (p : Passage ClientRole) (leg : Leg) (m : Message)
    (row : ClientRole × Row) → Kept given (side row.0) (put_log p.put)
    → Holds given (taken_by p leg m row)
taken_holds given p leg m (role, Ok took) l = l
taken_holds given p leg m (role, Err refused) l = l

in_holds : (given : List (List ℕ)) (p : Passage ClientRole) (leg : Leg) (pick : Pick)
    → leg.kind ≡ ClientIn → Holds given p → PickKept given (put_log p.put) leg.number pick
    → Holds given (moves.put_by p leg (settled_pick pick))
in_holds given p leg None k l o = l
in_holds given p leg (Some (f, m)) k l o =
    subst (Kept given (side (settled_or_wished f)))
    (sym (log_here up_items ClientIn p.put leg m (of_kind ClientIn leg k)))
    (settled_kept given f (more leg.number (up_items m) (put_log p.put)) o)

out_holds : (given : List (List ℕ)) (p : Passage ClientRole) (leg : Leg) (pick : Pick)
    → leg.kind ≡ ClientOut → Holds given p → OtherKept given (put_log p.put) pick
    → Holds given (moves.put_by p leg (settled_pick pick))
out_holds given p leg None k l o = l
out_holds given p leg (Some (f, m)) k l o =
    subst (Kept given (side (settled_or_wished f)))
    (sym (log_other up_items ClientIn p.put leg m (of_other ClientIn ClientOut leg k refl)))
    (settled_kept given f (put_log p.put) o)

puts_holds : (given : List (List ℕ)) (p : Passage ClientRole) (leg : Leg) (k : LegKind)
    → leg.kind ≡ k → Holds given p
    → Holds given (moves.put_by p leg (settled_pick (putting.put_by p.role leg.number k)))
unfolding put_by
puts_holds given p leg ClientOut e l =
    out_holds given p leg (put_out p.role leg.number) e l
    (put_out_kept given (put_log p.put) p.role leg.number l)
puts_holds given p leg ClientIn e l =
    in_holds given p leg (put_in p.role leg.number) e l
    (put_in_kept given (put_log p.put) p.role leg.number l)
puts_holds given p leg OutServer e l = l
puts_holds given p leg InServer e l = l

move_holds : (given : List (List ℕ)) (p : Passage ClientRole) (move : moves.Move)
    → Holds given p → Holds given (moves.moved client_rules p move)
move_holds given p (Up leg cookie) l =
    up_kept given (put_log p.put) p.role leg.number cookie leg.kind l
move_holds given p (HeadCame leg text) l = l
move_holds given p (PduCame leg count bytes) l =
    taken_holds given p leg (Pdu bytes) (pdu p.role leg count bytes)
    (pdu_kept given (put_log p.put) p.role leg.number bytes leg.kind l)
move_holds given p (PacketCame leg count named) l =
    taken_holds given p leg (Packet named) (packet p.role leg count named)
    (packet_kept given (put_log p.put) p.role leg.number count named leg.kind l)
move_holds given p (Puts leg) l = puts_holds given p leg leg.kind refl l
move_holds given p (IsDrawn leg) l =
    drawn_kept given (put_log p.put) p.role leg.number leg.kind l
move_holds given p (Marks leg) l = l
move_holds given p (Pings leg) l =
    ping_kept given (put_log p.put) p.role leg.number leg.kind l

-- ---- the calls of an end

-- an act that puts nothing
unput : (g : Giver) (act : Giving) (log : Log) → given_items act ≡ []
    → GiverLaw (gives g act) (sent_by g act log) → GiverLaw (gives g act) log
unput g act log e l =
    subst (GiverLaw (gives g act)) (more_none g.writing log)
    (subst (λ items. GiverLaw (gives g act) (more g.writing items log)) e l)

abbrev EndHolds : EndPassage ClientRole → Type 0
EndHolds p = Holds p.given p.passage

give_holds : (p : EndPassage ClientRole) (bytes : List ℕ) → EndHolds p
    → EndHolds (given_by p bytes (give p.passage.role bytes))
give_holds p bytes l =
    by_test (λ (x : Given). EndHolds (given_by p bytes x)) p.passage.role.is_closing
    (p.passage.role, Err give_refused.Closing)
    (give_pdu p.passage.role bytes (checked (pdu_fault bytes))) (λ e. l)
    (λ e. valid e (checked (pdu_fault bytes)))
  where
    s : ClientRole
    s = p.passage.role

    valid : s.is_closing ≡ false → (verdict : Result (Unit {0}) PduFault)
        → EndHolds (given_by p bytes (give_pdu s bytes verdict))
    valid e (Err fault) = l
    valid e (Ok accepted) =
        by_test (λ (x : Given). EndHolds (given_by p bytes x))
        (nat_le (total s.queue + length bytes) queue_bytes)
        (record s { queue = s.queue ++ bytes ∷ [] }, Ok tt)
        (s, Err (give_refused.Full (total s.queue) (length bytes)))
        (λ o. record {
          law = unput (giver_by p.given (side s)) (Accepts bytes) (put_log p.passage.put) refl
              (giver_step (giver_by p.given (side s)) (put_log p.passage.put) (Accepts bytes)
              l.law e);
          next = l.next;
        })
        (λ o. l)

first_holds : (p : EndPassage ClientRole) (pdus : List (List ℕ)) → EndHolds p
    → EndHolds (with_first p pdus)
first_holds p [] l = l
first_holds p (bytes ∷ pdus) l = l

end_holds : (p : EndPassage ClientRole) (move : EndMove) → EndHolds p
    → EndHolds (end_moved client_rules acts p move)
end_holds p (Moves move) l = move_holds p.given p.passage move l
end_holds p (Gives bytes) l = give_holds p bytes l
end_holds p Takes l =
    first_holds (moves.end_now_at p (take p.passage.role)) p.passage.role.line.current.pdus
    (pass_kept p.given (record (p.passage.role) { line = after_take p.passage.role.line })
    p.passage.role.replacement (put_log p.passage.put) l)
end_holds p moves.Closes l = record {
  law = unput (giver_by p.given (side p.passage.role)) giving.Closes (put_log p.passage.put) refl
      (giver_step (giver_by p.given (side p.passage.role)) (put_log p.passage.put) giving.Closes
      l.law tt);
  next = l.next;
}
end_holds p Recycles l =
    recycle_kept p.given p.passage.role p.passage.role.replacement (put_log p.passage.put) l

all_hold : (p : EndPassage ClientRole) (all : List EndMove) → EndHolds p
    → EndHolds (all_end_moved client_rules acts p all)
all_hold p [] l = l
all_hold p (move ∷ all) l =
    all_hold (end_moved client_rules acts p move) all (end_holds p move l)

pub gives_in_order : (config : ClientConfig) (all : List EndMove)
    → GivesInOrder (client_moved config all)
gives_in_order config all =
    (all_hold (client_started config) all (record { law = giver_starts; next = tt })).law
