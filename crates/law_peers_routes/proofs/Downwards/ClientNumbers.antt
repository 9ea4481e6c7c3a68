-- the numbers of a client's OUT channels are above 0, and so nothing comes on a leg of number 0
use Rattle.law_order.proofs.Vocabulary.{◌≡◌, ℕ, ◌+◌, ◌<◌, ◌==◌, ◌&&◌, ◌||◌, not, Bool, true, false, nat_lt, if◌then◌else◌, Some, None, Ok, Err, IfSome, arith, rules, refl, sym, subst, Option, Result}
use Rattle.rh_sig.specs.declared.named.Named.TheVariants as named
use Rattle.rh_shell.specs.declared.answers.Phase.TheVariants as phase
use Rattle.rh_client.specs.declared.replacement.InStage.TheVariants as in_stage
use Rattle.rh_client.specs.declared.replacement.OutStage.TheVariants as out_stage
use Rattle.rh_client.specs.declared.replacement.Waits.TheVariants as waits
use Rattle.rh_client.specs.Putting as putting
use Rattle.law_moves.proofs.Vocabulary.{Ack, may_put, fits, by_test, Cookie, Named, CONN_B1_LEN, IN_R1_A1_LEN, IN_R1_A5_LEN, OUT_R1_A7_LEN, END_A1_LEN, ACK_TO_LEN, PING_LEN, after_finish, front_length, LegKind, ClientOut, OutServer, ClientIn, InServer, Which, Current, Next, Message, Packet, Count, RecycleRefused, Last}
use Rattle.law_role_client.proofs.Vocabulary.{Opening, NotUp, Request, First, Second, Put, LAST_NUMBER, Replacement, NoneUnderWay, In, Out, Waits, ClientRole, unopened_in, unopened_out, is_named, is_out, has_out, with_out, Done, taken, unexpected, is_open, is_current, is_out_successor, is_writing, is_in_successor, is_over, begin_in, begin_out, after_in, after_out, on_conn_a3, on_conn_c2, on_ack_to, ack_named, ack_due, recycle_by, wish_by, wished, wants_successor, on_in_r1_a4}
use Rattle.law_role_client.proofs.Vocabulary.{on_in_r2_a4, handed_over, succeeded, ended_or, pass_by, passed, a2_by, a10_by, on_out_r1_a6, on_end_b2, Pick, or_else, due_by, put_due, ack_by, put_ack_of, put_ack, put_pdu, put_end, put_ping, put_successor_ping, put_next, put_conn_b1, put_in_r1_a1, put_writing, put_in_successor, put_in, put_current, put_out_successor, put_out, put_by, settled_or_wished, settled_pick, packet_by, on_packet}

-- ---- what numbers are told by

pub record Numbers : Type 0 where
  pub current : ℕ
  pub replaces : Bool
  pub successor : ℕ

abbrev pub numbers : ClientRole → Numbers
numbers s = record {
  current = s.current.number;
  replaces = is_out s.replacement;
  successor = s.out_successor.number;
}

pub record AreAbove (d : Numbers) : Type 0 where
  pub current : 0 < d.current
  pub successor : d.replaces ≡ true → 0 < d.successor

abbrev pub Above : ClientRole → Type 0
Above s = AreAbove (numbers s)

abbrev Same : ClientRole → ClientRole → Type 0
Same s t = numbers t ≡ numbers s

pub same_above : (s t : ClientRole) → Same s t → Above s → Above t
same_above s t same a = subst AreAbove (sym same) a

-- no OUT channel is replaced any more, or none yet
none : (n k m : ℕ) (b : Bool) → AreAbove (record { current = n; replaces = b; successor = k })
    → AreAbove (record { current = n; replaces = false; successor = m })
none n k m b a = record { current = a.current; successor = λ o. absurd cc }

-- where the replacement is told by its case
abbrev AboveBy : ClientRole → Replacement → Type 0
AboveBy s r = AreAbove (record {
  current = s.current.number;
  replaces = is_out r;
  successor = s.out_successor.number;
})

by_replacement : (s : ClientRole) (r : Replacement) → s.replacement ≡ r → Above s → AboveBy s r
by_replacement s r e a = subst (AboveBy s) e a

-- ---- replacements

begin_in_above : (s : ClientRole) (w : Bool) → Above s → Above (begin_in s w)
begin_in_above s w a =
    by_test Above (nat_lt s.writing.number LAST_NUMBER)
    (record s {
      in_successor = unopened_in (s.writing.number + 1) s.config.lifetime;
      replacement = In in_stage.Asked w;
    })
    (record s { replacement = NoneUnderWay })
    (λ e. none s.current.number s.out_successor.number _ _ a)
    (λ e. none s.current.number s.out_successor.number _ _ a)

begin_out_above : (s : ClientRole) (w : Waits) → Above s → Above (begin_out s w)
begin_out_above s w a =
    by_test Above (nat_lt s.current.number LAST_NUMBER)
    (record s {
      out_successor = unopened_out (s.current.number + 1);
      replacement = Out out_stage.Asked w;
    })
    (record s { replacement = NoneUnderWay })
    (λ e. record { current = a.current; successor = λ o. omega arith })
    (λ e. none s.current.number s.out_successor.number _ _ a)

after_in_above : (s : ClientRole) (w : Bool) → Above s → Above (after_in s w)
after_in_above s true a = begin_out_above s waits.Nothing a
after_in_above s false a = none s.current.number s.out_successor.number _ _ a

after_out_above : (s : ClientRole) (w : Waits) → Above s → Above (after_out s w)
after_out_above s waits.Nothing a = none s.current.number s.out_successor.number _ _ a
after_out_above s waits.In a = begin_in_above s false a
after_out_above s waits.Out a = begin_out_above s waits.Nothing a
after_out_above s waits.InThenOut a = begin_in_above s true a
after_out_above s waits.OutThenIn a = begin_out_above s waits.In a

wish_above : (s : ClientRole) (r : Replacement) → s.replacement ≡ r → Above s
    → Above (wish_by s r)
wish_above s NoneUnderWay e a = begin_in_above s false a
wish_above s (In stage w) e a = a
wish_above s (Out stage w) e a = by_replacement s (Out stage w) e a

settled_above : (s : ClientRole) → Above s → Above (settled_or_wished s)
settled_above s a =
    by_test Above (is_over s) (record s { phase = phase.Ended }) (wished s) (λ e. a)
    (λ e. by_test Above (wants_successor s) (wish_by s s.replacement) s
    (λ o. wish_above s s.replacement refl a) (λ o. a))

pub recycle_above : (s : ClientRole) (r : Replacement) → Above s → Above (recycle_by s r).0
recycle_above s NoneUnderWay a =
    by_test (λ (x : ClientRole × Result (Unit {0}) RecycleRefused). Above x.0)
    (nat_lt s.writing.number LAST_NUMBER) (begin_in s false, Ok tt) (s, Err Last)
    (λ o. begin_in_above s false a) (λ o. a)
recycle_above s (In stage w) a = a
recycle_above s (Out stage w) a = a

-- the successor is the current channel
pub passed_above : (s : ClientRole) (r : Replacement) → s.replacement ≡ r → Above s
    → Above (pass_by s r)
passed_above s NoneUnderWay e a = a
passed_above s (In stage w) e a = a
passed_above s (Out out_stage.Asked w) e a = a
passed_above s (Out out_stage.Answered w) e a = a
passed_above s (Out out_stage.Switched w) e a = a
passed_above s (Out out_stage.Finished w) e a =
    let next : Above (succeeded s) = record {
      current = (by_replacement s (Out out_stage.Finished w) e a).successor refl;
      successor = λ o. absurd cc;
    } in
    by_test Above s.line.has_next s (ended_or (succeeded s) w) (λ o. a)
    (λ o. by_test Above (is_over (succeeded s)) (record (succeeded s) { phase = phase.Ended })
    (after_out (succeeded s) w) (λ i. next) (λ i. after_out_above (succeeded s) w next))

-- ---- rows

a2_above : (s : ClientRole) (n : ℕ) (r : Replacement) → s.replacement ≡ r → Above s
    → Above (a2_by s n r).0
a2_above s n NoneUnderWay e a = begin_out_above s waits.Nothing a
a2_above s n (In stage true) e a = a
a2_above s n (In stage false) e a = none s.current.number s.out_successor.number _ _ a
a2_above s n (Out stage w) e a =
    by_test (λ (x : Done). Above x.0) (is_out_successor s n && not (has_out w))
    (taken (record s { replacement = Out stage (with_out w) })) (unexpected s)
    (λ o. by_replacement s (Out stage w) e a) (λ o. a)

a10_above : (s : ClientRole) (n : ℕ) (r : Replacement) → s.replacement ≡ r → Above s
    → Above (a10_by s n r).0
a10_above s n NoneUnderWay e a = a
a10_above s n (In stage w) e a = a
a10_above s n (Out out_stage.Asked w) e a = a
a10_above s n (Out out_stage.Answered w) e a = a
a10_above s n (Out out_stage.Switched w) e a =
    let t : ClientRole = record s {
      line = after_finish s.line;
      replacement = Out out_stage.Finished w;
    } in
    by_test (λ (x : Done). Above x.0) (s.line.has_next && is_current s n) (taken (passed t))
    (unexpected s)
    (λ o. passed_above t (Out out_stage.Finished w) refl
    (by_replacement s (Out out_stage.Switched w) e a))
    (λ o. a)
a10_above s n (Out out_stage.Finished w) e a = a

same_ack_to : (s : ClientRole) (to received available : ℕ) (of : Cookie)
    → Same s (on_ack_to s to received available of).0
same_ack_to s to received available of =
    by_test (λ (d : Done). Same s d.0) (is_open s.phase && to == 0)
    (ack_named s received available of) (unexpected s)
    (λ e. by_test (λ (d : Done). Same s d.0) (is_named s.writing of) _ _ (λ f. refl)
    (λ f. by_test (λ (d : Done). Same s d.0) (is_named s.in_successor of) _ _ (λ g. refl)
    (λ g. by_test (λ (d : Done). Same s d.0) (is_named s.leaving of) _ _ (λ h. refl)
    (λ h. refl))))
    (λ e. refl)

row_above : (s : ClientRole) (n : ℕ) (count : Count) (m : Named) → Above s
    → Above (on_packet s n count m).0
row_above s n count (named.ConnA3 t) a =
    same_above s (on_conn_a3 s n count t).0 (search rules) a
row_above s n count (named.ConnC2 v w t) a =
    same_above s (on_conn_c2 s n w t).0 (search rules) a
row_above s n count (named.AckTo to r v of) a =
    same_above s (on_ack_to s to r v of).0 (same_ack_to s to r v of) a
row_above s n count (named.InR1A4 to v w t) a =
    same_above s (on_in_r1_a4 s to w t).0 (search rules) a
row_above s n count (named.InR2A4 to) a = same_above s (on_in_r2_a4 s to).0 (search rules) a
row_above s n count (named.OutR1A2 to) a =
    by_test (λ (x : Done). Above x.0) (is_open s.phase && (to == 0 && nat_lt n LAST_NUMBER))
    (a2_by s n s.replacement) (unexpected s) (λ o. a2_above s n s.replacement refl a) (λ o. a)
row_above s n count (named.OutR1A6 to v t) a =
    same_above s (on_out_r1_a6 s n to t).0 (search rules) a
row_above s n count named.OutR1A10 a = a10_above s n s.replacement refl a
row_above s n count named.EndB2 a = same_above s (on_end_b2 s n).0 (search rules) a
row_above s n count m a = a

pub packet_above : (s : ClientRole) (n : ℕ) (count : Count) (m : Named) (kind : LegKind) → Above s
    → Above (packet_by s n count m kind).0
packet_above s n count m ClientOut a =
    by_test (λ (d : Done). Above d.0) (is_current s n || is_out_successor s n)
    (on_packet s n count m) (unexpected s) (λ e. row_above s n count m a) (λ e. a)
packet_above s n count m OutServer a = a
packet_above s n count m ClientIn a = a
packet_above s n count m InServer a = a

-- ---- puts

abbrev pub PickAbove : Pick → Type 0
PickAbove pick = IfSome pick (λ (put : ClientRole × Message). Above put.0)

or_above : (p q : Pick) → PickAbove p → PickAbove q → PickAbove (or_else p q)
or_above None q a b = b
or_above (Some pick) q a b = a

due_above : (s : ClientRole) (r : Replacement) → s.replacement ≡ r → Above s
    → PickAbove (due_by s r)
due_above s NoneUnderWay e a = tt
due_above s (In in_stage.Asked w) e a = tt
due_above s (In in_stage.Answered w) e a =
    by_test PickAbove (fits s.writing.meter IN_R1_A5_LEN)
    (Some (handed_over s w, Packet (named.InR1A5 s.in_successor.cookie))) None
    (λ o. after_in_above (record s {
      leaving = s.writing;
      writing = s.in_successor;
      in_successor = unopened_in 0 s.config.lifetime;
    }) w a) (λ o. tt)
due_above s (Out out_stage.Asked w) e a = tt
due_above s (Out out_stage.Answered w) e a =
    by_test PickAbove (fits s.writing.meter OUT_R1_A7_LEN) _ None
    (λ o. by_replacement s (Out out_stage.Answered w) e a) (λ o. tt)
due_above s (Out out_stage.Switched w) e a = tt
due_above s (Out out_stage.Finished w) e a = tt

ack_above : (s : ClientRole) (which : Which) (ack : Option Ack) → Above s
    → PickAbove (ack_by s which ack)
ack_above s which None a = tt
ack_above s which (Some ack) a =
    by_test PickAbove (may_put s.writing.meter ACK_TO_LEN) _ None (λ o. a) (λ o. tt)

pdu_above : (s : ClientRole) (len : Option ℕ) → Above s → PickAbove (putting.pdu_by s len)
pdu_above s None a = tt
pdu_above s (Some len) a =
    by_test PickAbove (putting.lets_pdu s len) _ None (λ o. a) (λ o. tt)

put_next_above : (s : ClientRole) → Above s → PickAbove (put_next s)
unfolding put_next put_due put_ack put_ack_of put_pdu put_end put_ping
put_next_above s a =
    or_above (due_by s s.replacement) _ (due_above s s.replacement refl a)
    (or_above (put_ack s) _
    (or_above (ack_by s Current (ack_due s Current)) (ack_by s Next (ack_due s Next))
    (ack_above s Current (ack_due s Current) a) (ack_above s Next (ack_due s Next) a))
    (or_above (put_pdu s) _ (pdu_above s (front_length s.queue) a)
    (or_above (put_end s) (put_ping s)
    (by_test PickAbove (putting.is_end_due s && fits s.writing.meter END_A1_LEN) _ None
    (λ o. a) (λ o. tt))
    (by_test PickAbove (s.writing.is_ping_due && may_put s.writing.meter PING_LEN) _ None
    (λ o. a) (λ o. tt)))))

put_writing_above : (s : ClientRole) (o : Opening) → Above s → PickAbove (put_writing s o)
unfolding put_writing put_conn_b1
put_writing_above s NotUp a = tt
put_writing_above s Request a = a
put_writing_above s First a =
    by_test PickAbove (may_put s.writing.meter CONN_B1_LEN) _ None (λ o. a) (λ o. tt)
put_writing_above s Second a = tt
put_writing_above s Put a = put_next_above s a

put_in_successor_above : (s : ClientRole) (o : Opening) → Above s
    → PickAbove (put_in_successor s o)
unfolding put_in_successor put_in_r1_a1 put_successor_ping
put_in_successor_above s NotUp a = tt
put_in_successor_above s Request a = a
put_in_successor_above s First a =
    by_test PickAbove (may_put s.in_successor.meter IN_R1_A1_LEN) _ None (λ o. a) (λ o. tt)
put_in_successor_above s Second a = tt
put_in_successor_above s Put a =
    by_test PickAbove (s.in_successor.is_ping_due && may_put s.in_successor.meter PING_LEN) _ None
    (λ o. a) (λ o. tt)

put_in_above : (s : ClientRole) (n : ℕ) → Above s → PickAbove (put_in s n)
unfolding put_in
put_in_above s n a =
    by_test PickAbove (is_writing s n) (put_writing s s.writing.opening)
    (if is_in_successor s n then put_in_successor s s.in_successor.opening else None)
    (λ e. put_writing_above s s.writing.opening a)
    (λ e. by_test PickAbove (is_in_successor s n) (put_in_successor s s.in_successor.opening) None
    (λ o. put_in_successor_above s s.in_successor.opening a) (λ o. tt))

current_above : (s : ClientRole) (o : Opening) → Above s → PickAbove (put_current s o)
unfolding put_current
current_above s NotUp a = tt
current_above s Request a = a
current_above s First a = a
current_above s Second a = tt
current_above s Put a = tt

successor_above : (s : ClientRole) (o : Opening) → Above s → PickAbove (put_out_successor s o)
unfolding put_out_successor
successor_above s NotUp a = tt
successor_above s Request a = a
successor_above s First a = a
successor_above s Second a = a
successor_above s Put a = tt

pub put_by_above : (s : ClientRole) (n : ℕ) (kind : LegKind) → Above s → PickAbove (put_by s n kind)
unfolding put_by put_out
put_by_above s n ClientOut a =
    by_test PickAbove (is_current s n) (put_current s s.current.opening)
    (if is_out_successor s n then put_out_successor s s.out_successor.opening else None)
    (λ e. current_above s s.current.opening a)
    (λ e. by_test PickAbove (is_out_successor s n)
    (put_out_successor s s.out_successor.opening) None
    (λ o. successor_above s s.out_successor.opening a) (λ o. tt))
put_by_above s n ClientIn a = put_in_above s n a
put_by_above s n OutServer a = tt
put_by_above s n InServer a = tt

pub settled_pick_above : (p : Pick) → PickAbove p → PickAbove (settled_pick p)
settled_pick_above None a = tt
settled_pick_above (Some pick) a = settled_above pick.0 a
