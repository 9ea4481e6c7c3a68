-- a client's channels go up by their numbers, and no leg that is done comes in use again
use Rattle.law_order.proofs.Vocabulary.{◌≡◌, ℕ, ◌<◌, ◌==◌, ◌&&◌, ◌||◌, Bool, true, false, nat_lt, Some, None, arith, rules, refl, sym, ap, subst, ◌∙◌, IfSome, if◌then◌else◌, Option, nat_tests}
use Rattle.rh_sig.specs.declared.named.Named.TheVariants as named
use Rattle.rh_shell.specs.declared.answers.Phase.TheVariants as phase
use Rattle.rh_client.specs.declared.replacement.InStage.TheVariants as in_stage
use Rattle.rh_client.specs.declared.replacement.OutStage.TheVariants as out_stage
use Rattle.rh_client.specs.declared.replacement.Waits.TheVariants as waits
use Rattle.law_moves.proofs.Vocabulary.{Ack, fits, by_test, Cookie, Named, IN_R1_A5_LEN, after_finish, after_take, LegKind, ClientOut, OutServer, ClientIn, InServer, Which, Current, Next, Count, Phase, is_ended, Message, Packet}
use Rattle.law_role_client.proofs.Vocabulary.{Opening, NotUp, Request, First, Second, Put, LAST_NUMBER, Replacement, NoneUnderWay, In, Out, InStage, Waits, ClientRole, is_named, unopened_in, is_in, is_out, is_finished, Done, first, is_current, is_in_successor, is_out_successor, is_writing, is_open, is_over, taken, unexpected, begin_in, begin_out, after_in, after_out, up, ack_due, ack_named, on_ack_to, recycle, recycle_by, wish_by, wants_successor, wished, handed_over}
use Rattle.law_role_client.proofs.Vocabulary.{answer_by, a2_by, a6_by, a10_by, succeeded, ended_or, pass_by, passed, give, close, drawn, is_done_by, ping, Pick, ack_by, out_due, due_by, or_else, put_ack, put_ack_of, put_by, put_conn_b1, put_current, put_due, put_end, put_in, put_in_r1_a1, put_in_successor, put_next, put_out, put_out_successor, put_pdu, put_ping, put_successor_ping, put_writing, settled_or_wished, settled_pick, rules as client_rules, acts as client_acts, pdu}
use Rattle.law_role_client.proofs.Vocabulary.{on_packet, packet_by}
use Rattle.law_node_causes.proofs.ClientSteps.{with_replacement}
use Rattle.law_node_causes.proofs.ServerLegs.{Newest as Far, Grows as Goes}
use Rattle.law_node_causes.specs.Numbers.{ClientIsNumbered}
use Rattle.law_node_causes.specs.Once.{ComesUpOnce, KeepsUp}
use Rattle.law_node_ends.proofs.Unused.Behind.{behind, below}
use Rattle.law_node_ends.proofs.Unused.Staying.{StaysDone, Keeps, RoleKeeps, EndKeeps, either}

-- ---- how far its channels are

abbrev far : ClientRole → Far
far s = record {
  ins = s.writing.number;
  outs = behind (is_finished s.replacement) s.current.number;
}

abbrev GoesOn : ClientRole → ClientRole → Type 0
GoesOn s t = Goes (far s) (far t)

abbrev Same : ClientRole → ClientRole → Type 0
Same s t = far t ≡ far s

goes_self : (s : ClientRole) → GoesOn s s
goes_self s = record { ins = omega arith; outs = omega arith }

goes_same : (s t : ClientRole) → Same s t → GoesOn s t
goes_same s t same = subst (Goes (far s)) (sym same) (goes_self s)

goes_then : (x y z : Far) → Goes x y → Goes y z → Goes x z
goes_then x y z p q = record {
  ins = omega (arith, p.ins, q.ins);
  outs = omega (arith, p.outs, q.outs);
}

-- ---- which legs are done

is_behind : (n c : ℕ) (finished : Bool)
    → (if n == c then finished else nat_lt n c) ≡ nat_lt n (behind finished c)
is_behind n c true = grind (arith, nat_tests)
is_behind n c false = grind (arith, nat_tests)

goes_done : (s t : ClientRole) → GoesOn s t → StaysDone client_rules s t
goes_done s t goes leg = by leg.kind
  where
    by : (kind : LegKind) → is_done_by s leg.number kind ≡ true
        → is_done_by t leg.number kind ≡ true
    by ClientOut h =
        is_behind leg.number t.current.number (is_finished t.replacement)
        ∙ below leg.number (far s).outs (far t).outs goes.outs
        (sym (is_behind leg.number s.current.number (is_finished s.replacement)) ∙ h)
    by ClientIn h = below leg.number s.writing.number t.writing.number goes.ins h
    by OutServer h = absurd cc
    by InServer h = absurd cc

-- ---- replacements

begin_in_same : (s : ClientRole) (w : Bool) → Same (with_replacement s NoneUnderWay) (begin_in s w)
begin_in_same s w = search rules

begin_out_same : (s : ClientRole) (w : Waits)
    → Same (with_replacement s NoneUnderWay) (begin_out s w)
begin_out_same s w = search rules

after_in_same : (s : ClientRole) (w : Bool) → Same (with_replacement s NoneUnderWay) (after_in s w)
after_in_same s true = begin_out_same s waits.Nothing
after_in_same s false = refl

after_out_same : (s : ClientRole) (w : Waits)
    → Same (with_replacement s NoneUnderWay) (after_out s w)
after_out_same s waits.Nothing = refl
after_out_same s waits.In = begin_in_same s false
after_out_same s waits.Out = begin_out_same s waits.Nothing
after_out_same s waits.InThenOut = begin_in_same s true
after_out_same s waits.OutThenIn = begin_out_same s waits.In

ended_same : (s : ClientRole) (w : Waits)
    → Same (with_replacement s NoneUnderWay) (ended_or (with_replacement s NoneUnderWay) w)
ended_same s w =
    by_test (Same (with_replacement s NoneUnderWay)) (is_over (with_replacement s NoneUnderWay))
    (record s { phase = phase.Ended; replacement = NoneUnderWay })
    (after_out (with_replacement s NoneUnderWay) w)
    (λ e. refl) (λ e. after_out_same (with_replacement s NoneUnderWay) w)

-- the successor takes the place of the writing channel
handed_goes : (s : ClientRole) (stage : InStage) (w v : Bool)
    → s.writing.number < s.in_successor.number
    → GoesOn (with_replacement s (In stage w)) (handed_over s v)
handed_goes s stage w v above =
    subst (Goes (far (with_replacement s (In stage w)))) (sym (after_in_same (record s {
      leaving = s.writing;
      writing = s.in_successor;
      in_successor = unopened_in 0 s.config.lifetime;
    }) v)) (record { ins = omega (arith, above); outs = omega arith })

-- and that of the current one
pass_goes : (s : ClientRole) (r : Replacement)
    → (is_out r ≡ true → s.current.number < s.out_successor.number)
    → GoesOn (with_replacement s r) (pass_by (with_replacement s r) r)
pass_goes s (Out out_stage.Finished w) above =
    let now : ClientRole = with_replacement s (Out out_stage.Finished w) in
    let higher : s.current.number < s.out_successor.number = above refl in
    by_test (GoesOn now) s.line.has_next now (ended_or (succeeded now) w)
    (λ e. goes_self now)
    (λ e. subst (Goes (far now)) (sym (ended_same (succeeded now) w))
    (record { ins = omega arith; outs = omega (arith, higher) }))
pass_goes s r above = goes_self (with_replacement s r)

-- ---- rows

ack_to_goes : (s : ClientRole) (to received available : ℕ) (of : Cookie)
    → GoesOn s (on_ack_to s to received available of).0
ack_to_goes s to received available of =
    either (GoesOn s) (is_open s.phase && to == 0) (ack_named s received available of)
    (unexpected s)
    (either (GoesOn s) (is_named s.writing of) _ _ (goes_self s)
    (either (GoesOn s) (is_named s.in_successor of) _ _ (goes_self s)
    (either (GoesOn s) (is_named s.leaving of) _ (taken s) (goes_self s) (goes_self s))))
    (goes_self s)

answer_same : (s : ClientRole) (window timeout : ℕ) (r : Replacement)
    → Same (with_replacement s r) (answer_by (with_replacement s r) window timeout r).0
answer_same s window timeout (In stage w) = search rules
answer_same s window timeout r = refl

a2_same : (s : ClientRole) (n : ℕ) (r : Replacement)
    → Same (with_replacement s r) (a2_by (with_replacement s r) n r).0
a2_same s n NoneUnderWay = begin_out_same s waits.Nothing
a2_same s n (In stage false) = refl
a2_same s n (In stage true) = refl
a2_same s n (Out stage w) = search rules

a6_same : (s : ClientRole) (timeout : ℕ) (r : Replacement)
    → Same (with_replacement s r) (a6_by (with_replacement s r) timeout r).0
a6_same s timeout (Out stage w) = search rules
a6_same s timeout r = refl

a10_goes : (s : ClientRole) (n : ℕ) (r : Replacement)
    → (is_out r ≡ true → s.current.number < s.out_successor.number)
    → GoesOn (with_replacement s r) (a10_by (with_replacement s r) n r).0
a10_goes s n (Out out_stage.Switched w) above =
    let now : ClientRole = with_replacement s (Out out_stage.Switched w) in
    let next : ClientRole = record s {
      line = after_finish s.line;
      replacement = Out out_stage.Finished w;
    } in
    either (GoesOn now) (s.line.has_next && is_current s n) (taken (passed next)) (unexpected now)
    (goes_then (far now) (far next) (far (passed next))
    (record { ins = omega arith; outs = omega arith })
    (pass_goes next (Out out_stage.Finished w) above))
    (goes_self now)
a10_goes s n r above = goes_self (with_replacement s r)

-- a row whose answer leaves them alone, where its condition holds
if_same : (s : ClientRole) (b : Bool) (x : Done) → Same s x.0
    → GoesOn s (if b then x else unexpected s).0
if_same s b x same =
    either (GoesOn s) b x (unexpected s) (goes_same s x.0 same) (goes_self s)

on_packet_goes : (s : ClientRole) (n : ℕ) (count : Count) (packet : Named)
    → ClientIsNumbered s → GoesOn s (on_packet s n count packet).0
on_packet_goes s n count (named.ConnA3 v1) are =
    goes_same s (on_packet s n count (named.ConnA3 v1)).0 (search rules)
on_packet_goes s n count (named.ConnC2 v1 v2 v3) are =
    goes_same s (on_packet s n count (named.ConnC2 v1 v2 v3)).0 (search rules)
on_packet_goes s n count (named.AckTo v1 v2 v3 v4) are = ack_to_goes s v1 v2 v3 v4
on_packet_goes s n count (named.InR1A4 v1 v2 v3 v4) are =
    if_same s (v1 == 0) (answer_by s v3 v4 s.replacement) (answer_same s v3 v4 s.replacement)
on_packet_goes s n count (named.InR2A4 v1) are =
    if_same s (v1 == 0) (answer_by s s.writing.told s.writing.timeout s.replacement)
    (answer_same s s.writing.told s.writing.timeout s.replacement)
on_packet_goes s n count (named.OutR1A2 v1) are =
    if_same s (is_open s.phase && (v1 == 0 && nat_lt n LAST_NUMBER)) (a2_by s n s.replacement)
    (a2_same s n s.replacement)
on_packet_goes s n count (named.OutR1A6 v1 v2 v3) are =
    if_same s (v1 == 0 && is_current s n) (a6_by s v3 s.replacement)
    (a6_same s v3 s.replacement)
on_packet_goes s n count named.OutR1A10 are = a10_goes s n s.replacement are.outs.behind
on_packet_goes s n count named.EndB2 are =
    goes_same s (on_packet s n count named.EndB2).0 (search rules)
on_packet_goes s n count packet are = goes_self s

packet_goes : (s : ClientRole) (n : ℕ) (count : Count) (packet : Named) (kind : LegKind)
    → ClientIsNumbered s → GoesOn s (packet_by s n count packet kind).0
packet_goes s n count packet ClientOut are =
    either (GoesOn s) (is_current s n || is_out_successor s n) (on_packet s n count packet)
    (unexpected s) (on_packet_goes s n count packet are) (goes_self s)
packet_goes s n count packet OutServer are = goes_self s
packet_goes s n count packet ClientIn are = goes_self s
packet_goes s n count packet InServer are = goes_self s

-- ---- puts

abbrev PickGoes : ClientRole → Pick → Type 0
PickGoes s pick = IfSome pick (λ (put : ClientRole × Message). GoesOn s put.0)

abbrev PickIsSame : ClientRole → Pick → Type 0
PickIsSame s pick = IfSome pick (λ (put : ClientRole × Message). Same s put.0)

pick_same : (s : ClientRole) (pick : Pick) → PickIsSame s pick → PickGoes s pick
pick_same s None h = tt
pick_same s (Some put) h = goes_same s put.0 h

or_goes : (s : ClientRole) (a b : Pick) → PickGoes s a → PickGoes s b → PickGoes s (or_else a b)
or_goes s None b first later = later
or_goes s (Some pick) b first later = first

put_out_same : (s : ClientRole) (n : ℕ) → PickIsSame s (put_out s n)
unfolding put_out put_current put_out_successor
put_out_same s n = search rules

due_goes : (s : ClientRole) (r : Replacement)
    → (is_in r ≡ true → s.writing.number < s.in_successor.number)
    → PickGoes (with_replacement s r) (due_by (with_replacement s r) r)
due_goes s NoneUnderWay above = tt
due_goes s (In in_stage.Asked w) above = tt
due_goes s (In in_stage.Answered w) above =
    let now : ClientRole = with_replacement s (In in_stage.Answered w) in
    by_test (PickGoes now) (fits s.writing.meter IN_R1_A5_LEN)
    (Some (handed_over s w, Packet (named.InR1A5 s.in_successor.cookie))) None
    (λ e. handed_goes s in_stage.Answered w w (above refl)) (λ e. tt)
due_goes s (Out stage w) above =
    let now : ClientRole = with_replacement s (Out stage w) in
    pick_same now (out_due now w stage) (search rules)

put_due_goes : (s : ClientRole) → ClientIsNumbered s → PickGoes s (put_due s)
unfolding put_due
put_due_goes s are = due_goes s s.replacement are.ins.behind

ack_same : (s : ClientRole) (which : Which) (ack : Option Ack)
    → PickIsSame s (ack_by s which ack)
ack_same s which ack = search rules

put_ack_goes : (s : ClientRole) → PickGoes s (put_ack s)
unfolding put_ack put_ack_of
put_ack_goes s =
    let first = ack_by s Current (ack_due s Current) in
    let later = ack_by s Next (ack_due s Next) in
    or_goes s first later (pick_same s first (ack_same s Current (ack_due s Current)))
    (pick_same s later (ack_same s Next (ack_due s Next)))

put_pdu_same : (s : ClientRole) → PickIsSame s (put_pdu s)
unfolding put_pdu
put_pdu_same s = search rules

put_end_same : (s : ClientRole) → PickIsSame s (put_end s)
unfolding put_end
put_end_same s = search rules

put_ping_same : (s : ClientRole) → PickIsSame s (put_ping s)
unfolding put_ping
put_ping_same s = search rules

put_next_goes : (s : ClientRole) → ClientIsNumbered s → PickGoes s (put_next s)
unfolding put_next
put_next_goes s are =
    or_goes s (put_due s) _ (put_due_goes s are)
    (or_goes s (put_ack s) _ (put_ack_goes s)
    (or_goes s (put_pdu s) _ (pick_same s (put_pdu s) (put_pdu_same s))
    (or_goes s (put_end s) (put_ping s) (pick_same s (put_end s) (put_end_same s))
    (pick_same s (put_ping s) (put_ping_same s)))))

first_same : (s : ClientRole) → PickIsSame s (put_conn_b1 s)
unfolding put_conn_b1
first_same s = search rules

put_writing_goes : (s : ClientRole) (opening : Opening) → ClientIsNumbered s
    → PickGoes s (put_writing s opening)
unfolding put_writing
put_writing_goes s NotUp are = tt
put_writing_goes s Request are = record { ins = omega arith; outs = omega arith }
put_writing_goes s First are = pick_same s (put_conn_b1 s) (first_same s)
put_writing_goes s Second are = tt
put_writing_goes s Put are = put_next_goes s are

put_in_successor_same : (s : ClientRole) (opening : Opening)
    → PickIsSame s (put_in_successor s opening)
unfolding put_in_successor put_in_r1_a1 put_successor_ping
put_in_successor_same s opening = search rules

put_in_goes : (s : ClientRole) (n : ℕ) → ClientIsNumbered s → PickGoes s (put_in s n)
unfolding put_in
put_in_goes s n are =
    let other = put_in_successor s s.in_successor.opening in
    by_test (PickGoes s) (is_writing s n) (put_writing s s.writing.opening) _
    (λ e. put_writing_goes s s.writing.opening are)
    (λ e. by_test (PickGoes s) (is_in_successor s n) other None
    (λ o. pick_same s other (put_in_successor_same s s.in_successor.opening)) (λ o. tt))

put_goes : (s : ClientRole) (n : ℕ) (kind : LegKind) → ClientIsNumbered s
    → PickGoes s (put_by s n kind)
unfolding put_by
put_goes s n ClientOut are = pick_same s (put_out s n) (put_out_same s n)
put_goes s n ClientIn are = put_in_goes s n are
put_goes s n OutServer are = tt
put_goes s n InServer are = tt

wish_same : (s : ClientRole) (r : Replacement)
    → Same (with_replacement s r) (wish_by (with_replacement s r) r)
wish_same s NoneUnderWay = begin_in_same s false
wish_same s r = refl

settled_same : (s : ClientRole) → Same s (settled_or_wished s)
settled_same s =
    by_test (Same s) (is_over s) (record s { phase = phase.Ended }) (wished s) (λ e. refl)
    (λ e. by_test (Same s) (wants_successor s) (wish_by s s.replacement) s
    (λ o. wish_same s s.replacement) (λ o. refl))

settled_goes : (s : ClientRole) (pick : Pick) → PickGoes s pick
    → IfSome (settled_pick pick) (λ (put : ClientRole × Message). StaysDone client_rules s put.0)
settled_goes s None goes = tt
settled_goes s (Some (t, message)) goes =
    let u = settled_or_wished t in
    goes_done s u (goes_then (far s) (far t) (far u) goes (goes_same t u (settled_same t)))

-- ---- the work that ended stays so

abbrev StaysEnded : ClientRole → ClientRole → Type 0
StaysEnded s t = is_ended s.phase ≡ true → is_ended t.phase ≡ true

same_phase : (s t : ClientRole) → t.phase ≡ s.phase → StaysEnded s t
same_phase s t same e = ap is_ended same ∙ e

after_out_phase : (s : ClientRole) (w : Waits) → (after_out s w).phase ≡ s.phase
after_out_phase s w = search rules

pass_ended : (s : ClientRole) (r : Replacement) → StaysEnded s (pass_by s r)
pass_ended s (Out out_stage.Finished w) e =
    by_test (StaysEnded s) s.line.has_next s (ended_or (succeeded s) w) (λ f o. o)
    (λ f. by_test (StaysEnded s) (is_over (succeeded s))
    (record (succeeded s) { phase = phase.Ended }) (after_out (succeeded s) w) (λ g o. refl)
    (λ g. same_phase s (after_out (succeeded s) w) (after_out_phase (succeeded s) w))) e
pass_ended s r e = e

-- what leaves its channels and its phase alone
pub record Told : Type 0 where
  pub far : Far
  pub phase : Phase

abbrev told : ClientRole → Told
told s = record { far = far s; phase = s.phase }

keeps_same : (s t : ClientRole) → told t ≡ told s → Keeps client_rules s t
keeps_same s t same = record {
  ended = same_phase s t (ap (λ (x : Told). x.phase) same);
  done = goes_done s t (goes_same s t (ap (λ (x : Told). x.far) same));
}

recycle_same : (s : ClientRole) (r : Replacement)
    → told (recycle_by (with_replacement s r) r).0 ≡ told (with_replacement s r)
recycle_same s NoneUnderWay = search rules
recycle_same s r = refl

-- ---- the laws

pub client_keeps : ComesUpOnce client_rules ClientIsNumbered
    → RoleKeeps client_rules ClientIsNumbered
client_keeps once = record {
  kept = once.kept;
  up = λ s leg cookie other are work may e.
      goes_done s (up s leg cookie) (goes_same s (up s leg cookie) (search rules)) other;
  head = λ s leg text are may. goes_done s s (goes_self s);
  pdu = λ s leg count bytes are may.
      let t = (pdu s leg count bytes).0 in goes_done s t (goes_same s t (search rules));
  packet = λ s leg count named are may.
      goes_done s (packet_by s leg.number count named leg.kind).0
      (packet_goes s leg.number count named leg.kind are);
  put = λ s leg are may.
      settled_goes s (put_by s leg.number leg.kind) (put_goes s leg.number leg.kind are);
  drawn = λ s leg are. keeps_same s (drawn s leg) (search rules);
  mark = λ s leg are work may. goes_done s s (goes_self s);
  ping = λ s leg are. keeps_same s (ping s leg) (search rules);
}

pub calls_keep : KeepsUp client_rules client_acts ClientIsNumbered
    → EndKeeps client_rules client_acts ClientIsNumbered
calls_keep once = record {
  kept = once.kept;
  give = λ s bytes are. keeps_same s (give s bytes).0 (search rules);
  take = λ s are.
      let t : ClientRole = record s { line = after_take s.line } in
      record {
        ended = pass_ended t t.replacement;
        done = goes_done s (passed t) (pass_goes t t.replacement are.outs.behind);
      };
  close = λ s are. keeps_same s (close s) refl;
  recycle = λ s are. keeps_same s (recycle s).0 (recycle_same s s.replacement);
}
