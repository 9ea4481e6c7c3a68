-- whatever moves a client makes: once OUT_R1/A10 came and until the last PDU of that channel is
-- taken, its line has a next channel; so a take where no PDU is there leaves it as it is
use Rattle.law_order.proofs.Vocabulary.{◌≡◌, ℕ, ◌+◌, ◌==◌, Bool, true, false, not, ◌&&◌, ◌||◌, if◌then◌else◌, nat_lt, List, Some, None, Ok, Err, Option, Result, rules, refl, sym, ap, ◌∙◌, subst, true≢false}
use Rattle.rh_sig.specs.declared.named.Named.TheVariants as named
use Rattle.rh_line.specs.Lines as lines
use Rattle.rh_shell.specs.declared.answers.Phase.TheVariants as phase
use Rattle.rh_client.specs.declared.replacement.InStage.TheVariants as in_stage
use Rattle.rh_client.specs.declared.replacement.OutStage.TheVariants as out_stage
use Rattle.rh_client.specs.declared.replacement.Waits.TheVariants as waits
use Rattle.rh_client.specs.Client as client
use Rattle.rh_client.specs.Putting as putting
use Rattle.law_moves.proofs.Vocabulary.{by_test, Ack, ACK_TO_LEN, CONN_B1_LEN, ClientConfig, ClientIn, ClientOut, Cookie, Count, EndMove, END_A1_LEN, IN_R1_A1_LEN, IN_R1_A5_LEN, InServer, Last, Leg, LegKind, Message, Named, OUT_R1_A7_LEN, OnLeg, OutServer, PING_LEN, Packet, Pdu, RecycleRefused, Which, Current, Next, after_end, after_finish, after_open_next, after_take, channel_of, fits, front_length, may_put}
use Rattle.law_moves.proofs.Lemmas.{Fact, PutKeeps, RowKeeps}
use Rattle.law_role_client.proofs.Vocabulary.{AreAllowedMoves, ClientRole, Done, In, LAST_NUMBER, NoneUnderWay, NotUp, Opening, Out, Pick, Put, Replacement, Request, First, Second, Waits, a10_by, a2_by, ack_by, ack_due, ack_named, ack_row, acked, acts, after_in, after_out, begin_in, begin_out, client_moved, client_started, drawn_by, due_by, end_channel, end_on, ended_or, give, handed_over, has_out, is_current, is_finished, is_in_successor, is_named, is_open, is_out_successor, is_over, is_writing, on_ack_to, on_conn_a3, on_conn_c2, on_in_r1_a4, on_in_r2_a4, on_out_r1_a6, on_packet, or_else, out_up, packet_by, pass_by, passed, pdu_channel, pdu_on, ping_by, put_ack, put_ack_of, put_conn_b1, put_current, put_due, put_end, put_in, put_in_r1_a1, put_in_successor, put_next, put_out, put_out_successor, put_pdu, put_ping, put_successor_ping, put_writing, recycle_by, settled, settled_or_wished, settled_pick, succeeded, taken, unexpected, unopened_in, unopened_out, up_by, wants_successor, wish_by, wished, with_next, with_out, metered}
use Rattle.law_role_client.proofs.Counted.Allowed.{AllowedKeep, allowed_moves_keep}
use Rattle.law_world_rest.specs.Steady.{TakesNothing}

-- ---- what is kept

abbrev HasNext : ClientRole → Type 0
HasNext s = is_finished s.replacement ≡ true → s.line.has_next ≡ true

record Seen : Type 0 where
  has_next : Bool
  finished : Bool

abbrev seen : ClientRole → Seen
seen s = record { has_next = s.line.has_next; finished = is_finished s.replacement }

-- what leaves that alone keeps it
same_has : (s t : ClientRole) → seen t ≡ seen s → HasNext s → HasNext t
same_has s t same has =
    subst (λ (x : Seen). x.finished ≡ true → x.has_next ≡ true) (sym same) has

not_finished : (s : ClientRole) → is_finished s.replacement ≡ false → HasNext s
not_finished s none is = absurd (true≢false (sym is ∙ none))

-- ---- replacements

begin_in_has : (s : ClientRole) (w : Bool) → HasNext (begin_in s w)
begin_in_has s w =
    by_test HasNext (nat_lt s.writing.number LAST_NUMBER) (record s {
      in_successor = unopened_in (s.writing.number + 1) s.config.lifetime;
      replacement = In in_stage.Asked w;
    })
    (record s { replacement = NoneUnderWay }) (λ e is. absurd cc) (λ e is. absurd cc)

begin_out_has : (s : ClientRole) (w : Waits) → HasNext (begin_out s w)
begin_out_has s w =
    by_test HasNext (nat_lt s.current.number LAST_NUMBER) (record s {
      out_successor = unopened_out (s.current.number + 1);
      replacement = Out out_stage.Asked w;
    })
    (record s { replacement = NoneUnderWay }) (λ e is. absurd cc) (λ e is. absurd cc)

after_in_has : (s : ClientRole) (w : Bool) → HasNext (after_in s w)
after_in_has s true = begin_out_has s waits.Nothing
after_in_has s false = λ is. absurd cc

after_out_has : (s : ClientRole) (w : Waits) → HasNext (after_out s w)
after_out_has s waits.Nothing = λ is. absurd cc
after_out_has s waits.In = begin_in_has s false
after_out_has s waits.Out = begin_out_has s waits.Nothing
after_out_has s waits.InThenOut = begin_in_has s true
after_out_has s waits.OutThenIn = begin_out_has s waits.In

ended_or_has : (s : ClientRole) (w : Waits) → HasNext (ended_or (succeeded s) w)
ended_or_has s w =
    by_test HasNext (is_over (succeeded s)) (record (succeeded s) { phase = phase.Ended })
    (after_out (succeeded s) w) (λ e is. absurd cc) (λ e. after_out_has (succeeded s) w)

-- behind a pass it is so, whatever was before
pass_has : (s : ClientRole) (r : Replacement) → s.replacement ≡ r → HasNext (pass_by s r)
pass_has s NoneUnderWay e = not_finished s (ap is_finished e)
pass_has s (In stage w) e = not_finished s (ap is_finished e)
pass_has s (Out out_stage.Asked w) e = not_finished s (ap is_finished e)
pass_has s (Out out_stage.Answered w) e = not_finished s (ap is_finished e)
pass_has s (Out out_stage.Switched w) e = not_finished s (ap is_finished e)
pass_has s (Out out_stage.Finished w) e =
    by_test HasNext s.line.has_next s (ended_or (succeeded s) w) (λ has is. has)
    (λ none. ended_or_has s w)

passed_has : (s : ClientRole) → HasNext (passed s)
passed_has s = pass_has s s.replacement refl

wish_has : (s : ClientRole) (r : Replacement) → s.replacement ≡ r → HasNext s
    → HasNext (wish_by s r)
wish_has s NoneUnderWay e has = begin_in_has s false
wish_has s (In stage w) e has = has
wish_has s (Out stage w) e has = λ is. has (ap is_finished e ∙ is)

wished_has : (s : ClientRole) → HasNext s → HasNext (wished s)
wished_has s has =
    by_test HasNext (wants_successor s) (wish_by s s.replacement) s
    (λ e. wish_has s s.replacement refl has) (λ e. has)

settled_or_wished_has : (s : ClientRole) → HasNext s → HasNext (settled_or_wished s)
settled_or_wished_has s has =
    by_test HasNext (is_over s) (record s { phase = phase.Ended }) (wished s) (λ e. has)
    (λ e. wished_has s has)

settled_has : (s : ClientRole) → HasNext s → HasNext (settled s)
settled_has s has =
    by_test HasNext (is_over s) (record s { phase = phase.Ended }) s (λ e. has) (λ e. has)

recycle_has : (s : ClientRole) (r : Replacement) → HasNext s → HasNext (recycle_by s r).0
recycle_has s NoneUnderWay has =
    by_test (λ (x : ClientRole × Result (Unit {0}) RecycleRefused). HasNext x.0)
    (nat_lt s.writing.number LAST_NUMBER) (begin_in s false, Ok tt) (s, Err Last)
    (λ e. begin_in_has s false) (λ e. has)
recycle_has s (In stage w) has = has
recycle_has s (Out stage w) has = has

-- ---- rows

abbrev RowHas : Done → Type 0
RowHas done = HasNext done.0

a2_has : (s : ClientRole) (n : ℕ) (r : Replacement) → s.replacement ≡ r → HasNext s
    → RowHas (a2_by s n r)
a2_has s n NoneUnderWay e has = begin_out_has s waits.Nothing
a2_has s n (In stage false) e has = λ is. absurd cc
a2_has s n (In stage true) e has = has
a2_has s n (Out stage w) e has =
    by_test RowHas (is_out_successor s n && not (has_out w))
    (taken (record s { replacement = Out stage (with_out w) })) (unexpected s)
    (λ f is. has (ap is_finished e ∙ is)) (λ f. has)

a10_has : (s : ClientRole) (n : ℕ) (r : Replacement) → HasNext s → RowHas (a10_by s n r)
a10_has s n NoneUnderWay has = has
a10_has s n (In stage w) has = has
a10_has s n (Out out_stage.Asked w) has = has
a10_has s n (Out out_stage.Answered w) has = has
a10_has s n (Out out_stage.Switched w) has =
    by_test RowHas (s.line.has_next && is_current s n)
    (taken (passed (record s {
      line = after_finish s.line;
      replacement = Out out_stage.Finished w;
    })))
    (unexpected s)
    (λ e. passed_has (record s {
      line = after_finish s.line;
      replacement = Out out_stage.Finished w;
    })) (λ e. has)
a10_has s n (Out out_stage.Finished w) has = has

end_has : (s : ClientRole) (o : Option Which) → HasNext s → RowHas (end_on s o)
end_has s None has = has
end_has s (Some which) has =
    by_test RowHas (channel_of s.line which).ended (unexpected s)
    (taken (settled (record s { line = after_end s.line which }))) (λ e. has)
    (λ e. settled_has (record s { line = after_end s.line which }) (with_end which))
  where
    with_end : (which : Which) → HasNext (record s { line = after_end s.line which })
    with_end Current = has
    with_end Next = has

admit_has : (s : ClientRole) (bytes : List ℕ) (o : Option Which) → HasNext s
    → RowHas (pdu_on s bytes o)
admit_has s bytes None has = has
admit_has s bytes (Some Current) has = has
admit_has s bytes (Some Next) has = has

pdu_has : (s : ClientRole) (n : ℕ) (bytes : List ℕ) (kind : LegKind) → HasNext s
    → RowHas (client.pdu_by s n bytes kind)
pdu_has s n bytes ClientOut has = admit_has s bytes (pdu_channel s n) has
pdu_has s n bytes OutServer has = has
pdu_has s n bytes ClientIn has = has
pdu_has s n bytes InServer has = has

-- of two answers that leave alone what is kept
either : (s : ClientRole) (test : Bool) (x y : Done) → seen x.0 ≡ seen s → seen y.0 ≡ seen s
    → seen (if test then x else y).0 ≡ seen s
either s true x y a b = a
either s false x y a b = b

ack_seen : (s : ClientRole) (to received available : ℕ) (of : Cookie)
    → seen (on_ack_to s to received available of).0 ≡ seen s
ack_seen s to received available of =
    either s (is_open s.phase && to == 0) (ack_named s received available of) (unexpected s)
    (either s (is_named s.writing of) (
      record s { writing = acked s.writing received available },
      ack_row s.writing received available,
    ) _ refl
    (either s (is_named s.in_successor of) (
      record s { in_successor = acked s.in_successor received available },
      ack_row s.in_successor received available,
    ) _ refl
    (either s (is_named s.leaving of) (
      record s { leaving = acked s.leaving received available },
      ack_row s.leaving received available,
    ) (taken s) refl refl)))
    refl

row_has : (s : ClientRole) (n : ℕ) (count : Count) (packet : Named) → HasNext s
    → RowHas (on_packet s n count packet)
row_has s n count (named.ConnA3 timeout) has =
    same_has s (on_conn_a3 s n count timeout).0 (search rules) has
row_has s n count (named.ConnC2 version window timeout) has =
    same_has s (on_conn_c2 s n window timeout).0 (search rules) has
row_has s n count (named.AckTo to received available of) has =
    same_has s (on_ack_to s to received available of).0 (ack_seen s to received available of) has
row_has s n count (named.InR1A4 to version window timeout) has =
    same_has s (on_in_r1_a4 s to window timeout).0 (search rules) has
row_has s n count (named.InR2A4 to) has =
    same_has s (on_in_r2_a4 s to).0 (search rules) has
row_has s n count (named.OutR1A2 to) has =
    by_test RowHas (is_open s.phase && (to == 0 && nat_lt n LAST_NUMBER))
    (a2_by s n s.replacement) (unexpected s) (λ e. a2_has s n s.replacement refl has) (λ e. has)
row_has s n count (named.OutR1A6 to version timeout) has =
    same_has s (on_out_r1_a6 s n to timeout).0 (search rules) has
row_has s n count named.OutR1A10 has = a10_has s n s.replacement has
row_has s n count named.EndB2 has =
    by_test RowHas (is_open s.phase) (end_on s (end_channel s n)) (unexpected s)
    (λ e. end_has s (end_channel s n) has) (λ e. has)
row_has s n count packet has = has

packet_has : (s : ClientRole) (n : ℕ) (count : Count) (packet : Named) (kind : LegKind)
    → HasNext s → RowHas (packet_by s n count packet kind)
packet_has s n count packet ClientOut has =
    by_test RowHas (is_current s n || is_out_successor s n) (on_packet s n count packet)
    (unexpected s) (λ e. row_has s n count packet has) (λ e. has)
packet_has s n count packet OutServer has = has
packet_has s n count packet ClientIn has = has
packet_has s n count packet InServer has = has

-- ---- puts

abbrev PickHas : Pick → Type 0
PickHas None = Unit {0}
PickHas (Some pick) = HasNext pick.0

or_has : (a b : Pick) → PickHas a → PickHas b → PickHas (or_else a b)
or_has None b x y = y
or_has (Some pick) b x y = x

has_if : (test : Bool) (f : ClientRole) (m : Message) → HasNext f
    → PickHas (if test then Some (f, m) else None)
has_if true f m has = has
has_if false f m has = tt

due_has : (s : ClientRole) (r : Replacement) → PickHas (due_by s r)
due_has s NoneUnderWay = tt
due_has s (In in_stage.Asked w) = tt
due_has s (In in_stage.Answered w) =
    has_if (fits s.writing.meter IN_R1_A5_LEN) (handed_over s w) _
    (after_in_has (record s {
      leaving = s.writing;
      writing = s.in_successor;
      in_successor = unopened_in 0 s.config.lifetime;
    }) w)
due_has s (Out out_stage.Asked w) = tt
due_has s (Out out_stage.Answered w) =
    has_if (fits s.writing.meter OUT_R1_A7_LEN) (record s {
      writing = metered s.writing OUT_R1_A7_LEN;
      replacement = Out out_stage.Switched w;
    }) _ (λ is. absurd cc)
due_has s (Out out_stage.Switched w) = tt
due_has s (Out out_stage.Finished w) = tt

ack_has : (s : ClientRole) (which : Which) (ack : Option Ack) → HasNext s
    → PickHas (ack_by s which ack)
ack_has s which None has = tt
ack_has s Current (Some ack) has = has_if (may_put s.writing.meter ACK_TO_LEN) _ _ has
ack_has s Next (Some ack) has = has_if (may_put s.writing.meter ACK_TO_LEN) _ _ has

sends_has : (s : ClientRole) (len : Option ℕ) → HasNext s → PickHas (putting.pdu_by s len)
sends_has s None has = tt
sends_has s (Some len) has = has_if (putting.lets_pdu s len) _ _ has

next_has : (s : ClientRole) → HasNext s → PickHas (put_next s)
unfolding put_next put_due put_ack put_ack_of put_pdu put_end put_ping
next_has s has =
    or_has (due_by s s.replacement) _ (due_has s s.replacement)
    (or_has (or_else (ack_by s Current (ack_due s Current)) (ack_by s Next (ack_due s Next))) _
    (or_has (ack_by s Current (ack_due s Current)) (ack_by s Next (ack_due s Next))
    (ack_has s Current (ack_due s Current) has) (ack_has s Next (ack_due s Next) has))
    (or_has (putting.pdu_by s (front_length s.queue)) _
    (sends_has s (front_length s.queue) has)
    (or_has _ _
    (has_if (putting.is_end_due s && fits s.writing.meter END_A1_LEN) _ _ has)
    (has_if (s.writing.is_ping_due && may_put s.writing.meter PING_LEN) _ _ has))))

writing_has : (s : ClientRole) (o : Opening) → HasNext s → PickHas (put_writing s o)
unfolding put_writing put_conn_b1
writing_has s NotUp has = tt
writing_has s Request has = has
writing_has s First has = has_if (may_put s.writing.meter CONN_B1_LEN) _ _ has
writing_has s Second has = tt
writing_has s Put has = next_has s has

in_successor_has : (s : ClientRole) (o : Opening) → HasNext s
    → PickHas (put_in_successor s o)
unfolding put_in_successor put_in_r1_a1 put_successor_ping
in_successor_has s NotUp has = tt
in_successor_has s Request has = has
in_successor_has s First has = has_if (may_put s.in_successor.meter IN_R1_A1_LEN) _ _ has
in_successor_has s Second has = tt
in_successor_has s Put has =
    has_if (s.in_successor.is_ping_due && may_put s.in_successor.meter PING_LEN) _ _ has

in_has : (s : ClientRole) (n : ℕ) → HasNext s → PickHas (put_in s n)
unfolding put_in
in_has s n has =
    by_test PickHas (is_writing s n) (put_writing s s.writing.opening)
    (if is_in_successor s n then put_in_successor s s.in_successor.opening else None)
    (λ e. writing_has s s.writing.opening has)
    (λ e. by_test PickHas (is_in_successor s n) (put_in_successor s s.in_successor.opening) None
    (λ o. in_successor_has s s.in_successor.opening has) (λ o. tt))

current_has : (s : ClientRole) (o : Opening) → HasNext s → PickHas (put_current s o)
unfolding put_current
current_has s NotUp has = tt
current_has s Request has = has
current_has s First has = has
current_has s Second has = tt
current_has s Put has = tt

out_successor_has : (s : ClientRole) (o : Opening) → HasNext s
    → PickHas (put_out_successor s o)
unfolding put_out_successor
out_successor_has s NotUp has = tt
out_successor_has s Request has = has
out_successor_has s First has = has
out_successor_has s Second has = has
out_successor_has s Put has = tt

out_has : (s : ClientRole) (n : ℕ) → HasNext s → PickHas (put_out s n)
unfolding put_out
out_has s n has =
    by_test PickHas (is_current s n) (put_current s s.current.opening)
    (if is_out_successor s n then put_out_successor s s.out_successor.opening else None)
    (λ e. current_has s s.current.opening has)
    (λ e. by_test PickHas (is_out_successor s n) (put_out_successor s s.out_successor.opening) None
    (λ o. out_successor_has s s.out_successor.opening has) (λ o. tt))

put_has : (s : ClientRole) (n : ℕ) (kind : LegKind) → HasNext s
    → PickHas (putting.put_by s n kind)
unfolding putting.put_by
put_has s n ClientOut has = out_has s n has
put_has s n ClientIn has = in_has s n has
put_has s n OutServer has = tt
put_has s n InServer has = tt

puts_has : (pick : Pick) → PickHas pick → PickHas (settled_pick pick)
puts_has None has = tt
puts_has (Some pick) has = settled_or_wished_has pick.0 has

-- ---- a leg is up

opened_has : (s : ClientRole) → HasNext s → HasNext (record s { line = with_next s.line })
opened_has s has =
    by_test (λ line. HasNext (record s { line = line })) s.line.has_next s.line
    (after_open_next s.line false) (λ e. has) (λ e is. refl)

up_has : (s : ClientRole) (n : ℕ) (cookie : Cookie) (kind : LegKind) → HasNext s
    → HasNext (up_by s n cookie kind)
up_has s n cookie ClientOut has =
    by_test HasNext (is_current s n) (record s { current = out_up s.current cookie })
    (record s { out_successor = out_up s.out_successor cookie; line = with_next s.line })
    (λ e. has) (λ e. opened_has s has)
up_has s n cookie ClientIn has = same_has s (up_by s n cookie ClientIn) (search rules) has
up_has s n cookie OutServer has = has
up_has s n cookie InServer has = has

-- ---- all moves

drawn_seen : (s : ClientRole) (n : ℕ) (kind : LegKind) → seen (drawn_by s n kind) ≡ seen s
drawn_seen s n kind = search rules

ping_seen : (s : ClientRole) (n : ℕ) (kind : LegKind) → seen (ping_by s n kind) ≡ seen s
ping_seen s n kind = search rules

give_seen : (s : ClientRole) (bytes : List ℕ) → seen (give s bytes).0 ≡ seen s
give_seen s bytes = search rules

abbrev Kept : Fact ClientRole
Kept s came put = HasNext s

by_row : (one : OnLeg) (came put : List OnLeg) (done : Done) → RowHas done
    → RowKeeps Kept one came put done
by_row one came put (s, Ok took) has = has
by_row one came put (s, Err why) has = has

by_pick : (leg : Leg) (came put : List OnLeg) (pick : Pick) → PickHas pick
    → PutKeeps Kept leg came put pick
by_pick leg came put None has = tt
by_pick leg came put (Some pick) has = has

steps_keep : AllowedKeep client.rules acts Kept
steps_keep = record {
  up = λ s leg cookie came put may has. up_has s leg.number cookie leg.kind has;
  head = λ s leg text came put has. has;
  pdu = λ s leg count bytes came put has.
      by_row (leg, Pdu bytes) came put (client.pdu_by s leg.number bytes leg.kind)
      (pdu_has s leg.number bytes leg.kind has);
  packet = λ s leg count packet came put has.
      by_row (leg, Packet packet) came put (packet_by s leg.number count packet leg.kind)
      (packet_has s leg.number count packet leg.kind has);
  puts = λ s leg came put has.
      by_pick leg came put (putting.put s leg)
      (puts_has (putting.put_by s leg.number leg.kind) (put_has s leg.number leg.kind has));
  drawn = λ s leg came put has.
      same_has s (drawn_by s leg.number leg.kind) (drawn_seen s leg.number leg.kind) has;
  mark = λ s leg came put has. has;
  ping = λ s leg came put has.
      same_has s (ping_by s leg.number leg.kind) (ping_seen s leg.number leg.kind) has;
  give = λ s bytes came put has.
      same_has s (give s bytes).0 (give_seen s bytes) has;
  take = λ s came put has. passed_has (record s { line = after_take s.line });
  close = λ s came put has. has;
  recycle = λ s came put open' has. recycle_has s s.replacement has;
}

has_next : (config : ClientConfig) (moves : List EndMove) → AreAllowedMoves config moves
    → HasNext (client_moved config moves).passage.role
has_next config moves allowed =
    allowed_moves_keep client.rules acts Kept steps_keep (client_started config) moves allowed
    (λ is. absurd cc)

-- ---- a take

-- where it has a next channel, a pass changes nothing
passes_on : (s : ClientRole) (r : Replacement) → (is_finished r ≡ true → s.line.has_next ≡ true)
    → pass_by s r ≡ s
passes_on s NoneUnderWay has = refl
passes_on s (In stage w) has = refl
passes_on s (Out out_stage.Asked w) has = refl
passes_on s (Out out_stage.Answered w) has = refl
passes_on s (Out out_stage.Switched w) has = refl
passes_on s (Out out_stage.Finished w) has =
    ap (λ (t : Bool). if t then s else ended_or (succeeded s) w) (has refl)

takes_none : (s : ClientRole) → HasNext s → TakesNothing acts s
takes_none s has none =
    ap (λ (pdus : List (List ℕ)). passed (record s { line = lines.taken pdus s.line })) none
    ∙ passes_on s s.replacement has

pub client_takes : (config : ClientConfig) (moves : List EndMove) → AreAllowedMoves config moves
    → TakesNothing acts (client_moved config moves).passage.role
client_takes config moves allowed =
    takes_none (client_moved config moves).passage.role (has_next config moves allowed)
