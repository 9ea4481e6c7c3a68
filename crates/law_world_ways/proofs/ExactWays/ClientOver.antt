-- the work of a client is done only where it gave and took all, and no replacement is under way
use Rattle.std.specs.Option.{is_some}
use Rattle.law_order.proofs.Vocabulary.{◌≡◌, ◌<◌, ◌≤◌, ℕ, ◌==◌, ◌&&◌, ◌||◌, List, [], ◌∷◌, Bool, true, false, not, nat_lt, Some, None, Ok, Err, arith, rules, refl, sym, ap, ◌∙◌, subst, IfSome, IsTrue, if◌then◌else◌, and_parts, nat_tests, Option, Result, Item, has_end, has_handover, TakerLaw}
use Rattle.rh_sig.specs.declared.named.Named.TheVariants as named
use Rattle.rh_shell.specs.declared.answers.Phase.TheVariants as phase
use Rattle.rh_client.specs.declared.replacement.InStage.TheVariants as in_stage
use Rattle.rh_client.specs.declared.replacement.OutStage.TheVariants as out_stage
use Rattle.rh_client.specs.declared.replacement.Waits.TheVariants as waits
use Rattle.law_moves.proofs.Vocabulary.{Ack, fits, by_test, Cookie, Named, IN_R1_A5_LEN, ClientConfig, after_end, after_finish, after_take, channel_of, Leg, LegKind, ClientOut, OutServer, ClientIn, InServer, Which, Current, Next, Count, Phase, GiveRefused, is_ended, Message, Packet, Pdu, Move, Up, HeadCame, PduCame, PacketCame, Puts, IsDrawn, Marks, Pings, Passage, EndMove, EndPassage, Moves, Gives, Takes, Closes, Recycles, AreAllowedAtEnd, MayEndMove, MayMove, all_end_moved}
use Rattle.law_moves.proofs.Vocabulary.{end_moved, end_now_at, given_by, is_in_use, moved, put_by as put_there, taken_by, with_first, EndLeads}
use Rattle.law_role_client.proofs.Vocabulary.{Opening, NotUp, Request, First, Second, Put, LAST_NUMBER, Replacement, NoneUnderWay, In, Out, Waits, ClientRole, ack_due, ack_named, on_ack_to, is_named, unopened_in, is_none, acts, on_packet, packet_by, pdu, rules as client_rules, close, drawn, end_channel, end_on, give, take, answer_by, handed_over, recycle, recycle_by, wants_successor, wish_by, wished, on_conn_c2, up, a10_by, a2_by, a6_by, ended_or, pass_by, passed, succeeded}
use Rattle.law_role_client.proofs.Vocabulary.{Pick, ack_by, due_by, or_else, put_ack, put_ack_of, put_by, put_conn_b1, put_current, put_due, put_end, put_in, put_in_r1_a1, put_in_successor, put_next, put_out, put_out_successor, put_pdu, put_ping, put_successor_ping, put_writing, settled_or_wished, settled_pick, Done, after_in, after_out, begin_out, is_current, is_in_successor, is_open, is_opening, is_out_successor, is_over, is_writing, settled, taken, unexpected, ping}
use Rattle.law_role_client.proofs.Vocabulary.{AreAllowedMoves, GivesInOrder, TakesInOrder, came_log, client_moved, client_started, has_leg, put_log, taker_of}
use Rattle.law_role_client.proofs.TakesInOrder.{takes_in_order}
use Rattle.law_node_streams.proofs.Streams.EndMoves.{leads_one}

-- ---- its work is done where all is

abbrev Over : ClientRole → Type 0
Over s = s.phase ≡ phase.Ended → is_over s ≡ true

-- so it is behind what is done while the work is not
abbrev Fine : ClientRole → ClientRole → Type 0
Fine s t = (s.phase ≡ phase.Ended → ⊥) → Over t

abbrev Same : ClientRole → ClientRole → Type 0
Same s t = t.phase ≡ s.phase

fine_same : (s t : ClientRole) → Same s t → Fine s t
fine_same s t same = λ work ended. absurd (work (sym same ∙ ended))

fine_self : (s : ClientRole) → Fine s s
fine_self s = fine_same s s refl

fine_then : (s t u : ClientRole) → Same s t → Fine t u → Fine s u
fine_then s t u same fine = λ work. fine (λ ended. work (sym same ∙ ended))

either : (s : ClientRole) (b : Bool) (x y : Done) → Fine s x.0 → Fine s y.0
    → Fine s (if b then x else y).0
either s b x y then_so else_so =
    by_test (λ (z : Done). Fine s z.0) b x y (λ e. then_so) (λ e. else_so)

-- ---- the work may be done

ended_fine : (s : ClientRole) → is_over s ≡ true → Over (record s { phase = phase.Ended })
ended_fine s over = λ e. over

after_out_same : (s : ClientRole) (w : Waits) → Same s (after_out s w)
after_out_same s w = search rules

ended_or_fine : (s : ClientRole) (w : Waits) → Fine s (ended_or s w)
ended_or_fine s w =
    by_test (Fine s) (is_over s) (record s { phase = phase.Ended }) (after_out s w)
    (λ over work. ended_fine s over) (λ e. fine_same s (after_out s w) (after_out_same s w))

pass_fine : (s : ClientRole) (r : Replacement) → Fine s (pass_by s r)
pass_fine s (Out out_stage.Finished w) =
    by_test (Fine s) s.line.has_next s (ended_or (succeeded s) w) (λ e. fine_self s)
    (λ e. fine_then s (succeeded s) (ended_or (succeeded s) w) refl
    (ended_or_fine (succeeded s) w))
pass_fine s r = fine_self s

settled_fine : (s : ClientRole) → Fine s (settled s)
settled_fine s =
    by_test (Fine s) (is_over s) (record s { phase = phase.Ended }) s
    (λ over work. ended_fine s over) (λ e. fine_self s)

wish_same : (s : ClientRole) (r : Replacement) → Same s (wish_by s r)
wish_same s r = search rules

wished_same : (s : ClientRole) → Same s (wished s)
wished_same s =
    by_test (Same s) (wants_successor s) (wish_by s s.replacement) s
    (λ o. wish_same s s.replacement) (λ o. refl)

put_settled : (s : ClientRole) → Fine s (settled_or_wished s)
put_settled s =
    by_test (Fine s) (is_over s) (record s { phase = phase.Ended }) (wished s)
    (λ over work. ended_fine s over) (λ e. fine_same s (wished s) (wished_same s))

-- ---- rows

ack_to_fine : (s : ClientRole) (to received available : ℕ) (of : Cookie)
    → Fine s (on_ack_to s to received available of).0
ack_to_fine s to received available of =
    either s (is_open s.phase && to == 0) (ack_named s received available of) (unexpected s)
    (either s (is_named s.writing of) _ _ (fine_self s)
    (either s (is_named s.in_successor of) _ _ (fine_self s)
    (either s (is_named s.leaving of) _ (taken s) (fine_self s) (fine_self s))))
    (fine_self s)

answer_same : (s : ClientRole) (window timeout : ℕ) (r : Replacement)
    → Same s (answer_by s window timeout r).0
answer_same s window timeout r = search rules

a2_same : (s : ClientRole) (n : ℕ) (r : Replacement) → Same s (a2_by s n r).0
a2_same s n r = search rules

a6_same : (s : ClientRole) (timeout : ℕ) (r : Replacement) → Same s (a6_by s timeout r).0
a6_same s timeout r = search rules

a10_fine : (s : ClientRole) (n : ℕ) (r : Replacement) → Fine s (a10_by s n r).0
a10_fine s n (Out out_stage.Switched w) =
    let next : ClientRole = record s {
      line = after_finish s.line;
      replacement = Out out_stage.Finished w;
    } in
    either s (s.line.has_next && is_current s n) (taken (passed next)) (unexpected s)
    (fine_then s next (passed next) refl (pass_fine next (Out out_stage.Finished w)))
    (fine_self s)
a10_fine s n r = fine_self s

end_on_fine : (s : ClientRole) (o : Option Which) → Fine s (end_on s o).0
end_on_fine s None = fine_self s
end_on_fine s (Some which) =
    let next : ClientRole = record s { line = after_end s.line which } in
    either s (channel_of s.line which).ended (unexpected s) (taken (settled next)) (fine_self s)
    (fine_then s next (settled next) refl (settled_fine next))

-- where its condition holds
if_same : (s : ClientRole) (b : Bool) (x : Done) → Same s x.0
    → Fine s (if b then x else unexpected s).0
if_same s b x same = either s b x (unexpected s) (fine_same s x.0 same) (fine_self s)

c2_fine : (s : ClientRole) (n window timeout : ℕ) → Fine s (on_conn_c2 s n window timeout).0
c2_fine s n window timeout =
    either s
    ((n == 1 && is_current s n) && (is_opening s.phase && is_some s.current.timeout)) _
    (unexpected s) (λ work ended. absurd cc) (fine_self s)

row_fine : (s : ClientRole) (n : ℕ) (count : Count) (packet : Named)
    → Fine s (on_packet s n count packet).0
row_fine s n count (named.ConnA3 v1) =
    fine_same s (on_packet s n count (named.ConnA3 v1)).0 (search rules)
row_fine s n count (named.ConnC2 v1 v2 v3) = c2_fine s n v2 v3
row_fine s n count (named.AckTo v1 v2 v3 v4) = ack_to_fine s v1 v2 v3 v4
row_fine s n count (named.InR1A4 v1 v2 v3 v4) =
    if_same s (v1 == 0) (answer_by s v3 v4 s.replacement) (answer_same s v3 v4 s.replacement)
row_fine s n count (named.InR2A4 v1) =
    if_same s (v1 == 0) (answer_by s s.writing.told s.writing.timeout s.replacement)
    (answer_same s s.writing.told s.writing.timeout s.replacement)
row_fine s n count (named.OutR1A2 v1) =
    if_same s (is_open s.phase && (v1 == 0 && nat_lt n LAST_NUMBER)) (a2_by s n s.replacement)
    (a2_same s n s.replacement)
row_fine s n count (named.OutR1A6 v1 v2 v3) =
    if_same s (v1 == 0 && is_current s n) (a6_by s v3 s.replacement)
    (a6_same s v3 s.replacement)
row_fine s n count named.OutR1A10 = a10_fine s n s.replacement
row_fine s n count named.EndB2 =
    either s (is_open s.phase) (end_on s (end_channel s n)) (unexpected s)
    (end_on_fine s (end_channel s n)) (fine_self s)
row_fine s n count packet = fine_self s

packet_fine : (s : ClientRole) (n : ℕ) (count : Count) (packet : Named) (kind : LegKind)
    → Fine s (packet_by s n count packet kind).0
packet_fine s n count packet ClientOut =
    either s (is_current s n || is_out_successor s n) (on_packet s n count packet)
    (unexpected s) (row_fine s n count packet) (fine_self s)
packet_fine s n count packet OutServer = fine_self s
packet_fine s n count packet ClientIn = fine_self s
packet_fine s n count packet InServer = fine_self s

-- ---- puts

abbrev PickSame : ClientRole → Pick → Type 0
PickSame s pick = IfSome pick (λ (put : ClientRole × Message). Same s put.0)

or_same : (s : ClientRole) (a b : Pick) → PickSame s a → PickSame s b → PickSame s (or_else a b)
or_same s None b first later = later
or_same s (Some pick) b first later = first

put_out_same : (s : ClientRole) (n : ℕ) → PickSame s (put_out s n)
unfolding put_out put_current put_out_successor
put_out_same s n = search rules

begin_out_same : (s : ClientRole) (w : Waits) → Same s (begin_out s w)
begin_out_same s w = search rules

after_in_same : (s : ClientRole) (w : Bool) → Same s (after_in s w)
after_in_same s true = begin_out_same s waits.Nothing
after_in_same s false = refl

handed_same : (s : ClientRole) (w : Bool) → Same s (handed_over s w)
handed_same s w =
    after_in_same (record s {
      leaving = s.writing;
      writing = s.in_successor;
      in_successor = unopened_in 0 s.config.lifetime;
    }) w

due_same : (s : ClientRole) (r : Replacement) → PickSame s (due_by s r)
due_same s NoneUnderWay = tt
due_same s (In in_stage.Asked w) = tt
due_same s (In in_stage.Answered w) =
    by_test (PickSame s) (fits s.writing.meter IN_R1_A5_LEN)
    (Some (handed_over s w, Packet (named.InR1A5 s.in_successor.cookie))) None
    (λ e. handed_same s w) (λ e. tt)
due_same s (Out stage w) = search rules

put_due_same : (s : ClientRole) → PickSame s (put_due s)
unfolding put_due
put_due_same s = due_same s s.replacement

ack_same : (s : ClientRole) (which : Which) (ack : Option Ack) → PickSame s (ack_by s which ack)
ack_same s which ack = search rules

put_ack_same : (s : ClientRole) → PickSame s (put_ack s)
unfolding put_ack put_ack_of
put_ack_same s =
    or_same s (ack_by s Current (ack_due s Current)) (ack_by s Next (ack_due s Next))
    (ack_same s Current (ack_due s Current)) (ack_same s Next (ack_due s Next))

put_pdu_same : (s : ClientRole) → PickSame s (put_pdu s)
unfolding put_pdu
put_pdu_same s = search rules

put_end_same : (s : ClientRole) → PickSame s (put_end s)
unfolding put_end
put_end_same s = search rules

put_ping_same : (s : ClientRole) → PickSame s (put_ping s)
unfolding put_ping
put_ping_same s = search rules

put_next_same : (s : ClientRole) → PickSame s (put_next s)
unfolding put_next
put_next_same s =
    or_same s (put_due s) _ (put_due_same s)
    (or_same s (put_ack s) _ (put_ack_same s)
    (or_same s (put_pdu s) _ (put_pdu_same s)
    (or_same s (put_end s) (put_ping s) (put_end_same s) (put_ping_same s))))

first_same : (s : ClientRole) → PickSame s (put_conn_b1 s)
unfolding put_conn_b1
first_same s = search rules

put_writing_same : (s : ClientRole) (opening : Opening) → PickSame s (put_writing s opening)
unfolding put_writing
put_writing_same s NotUp = tt
put_writing_same s Request = refl
put_writing_same s First = first_same s
put_writing_same s Second = tt
put_writing_same s Put = put_next_same s

put_in_successor_same : (s : ClientRole) (opening : Opening)
    → PickSame s (put_in_successor s opening)
unfolding put_in_successor put_in_r1_a1 put_successor_ping
put_in_successor_same s opening = search rules

put_in_same : (s : ClientRole) (n : ℕ) → PickSame s (put_in s n)
unfolding put_in
put_in_same s n =
    let other = put_in_successor s s.in_successor.opening in
    by_test (PickSame s) (is_writing s n) (put_writing s s.writing.opening) _
    (λ e. put_writing_same s s.writing.opening)
    (λ e. by_test (PickSame s) (is_in_successor s n) other None
    (λ o. put_in_successor_same s s.in_successor.opening) (λ o. tt))

put_same : (s : ClientRole) (n : ℕ) (kind : LegKind) → PickSame s (put_by s n kind)
unfolding put_by
put_same s n ClientOut = put_out_same s n
put_same s n ClientIn = put_in_same s n
put_same s n OutServer = tt
put_same s n InServer = tt

-- ---- moves

-- of an answer, and of a put
by_row : (p : Passage ClientRole) (leg : Leg) (message : Message) (x : Done)
    → Over x.0 → Over (taken_by p leg message x).role
by_row p leg message (role, Ok taken) h = h
by_row p leg message (role, Err refused) h = h

by_pick : (p : Passage ClientRole) (leg : Leg) (pick : Pick)
    → (p.role.phase ≡ phase.Ended → ⊥) → PickSame p.role pick → Over p.role
    → Over (put_there p leg (settled_pick pick)).role
by_pick p leg None work same over = over
by_pick p leg (Some put) work same over =
    fine_then p.role put.0 (settled_or_wished put.0) same (put_settled put.0) work

-- where its phase and what is over stay
keeps : (s t : ClientRole) → t.phase ≡ s.phase → is_over t ≡ is_over s → Over s → Over t
keeps s t same over_same over = λ ended. over_same ∙ over (sym same ∙ ended)

at_work : (s : ClientRole) → not (is_ended s.phase) ≡ true → s.phase ≡ phase.Ended → ⊥
at_work s work ended =
    let bad : false ≡ true = ap (λ (f : Phase). not (is_ended f)) (sym ended) ∙ work in
    absurd cc

in_use : (s : ClientRole) (leg : Leg) → IsTrue (is_in_use client_rules s leg)
    → s.phase ≡ phase.Ended → ⊥
in_use s leg may =
    at_work s (and_parts (not (is_ended s.phase)) (not (client_rules.is_done s leg)) may).0

move_over : (p : Passage ClientRole) (move : Move) → MayMove client_rules p.role move
    → Over p.role → Over (moved client_rules p move).role
move_over p (Up leg cookie) may over =
    fine_same p.role (up p.role leg cookie) (search rules) (at_work p.role may.0)
move_over p (HeadCame leg text) may over = over
move_over p (PduCame leg count bytes) may over =
    by_row p leg (Pdu bytes) (pdu p.role leg count bytes)
    (fine_same p.role (pdu p.role leg count bytes).0 (search rules) (in_use p.role leg may.0))
move_over p (PacketCame leg count packet) may over =
    by_row p leg (Packet packet) (packet_by p.role leg.number count packet leg.kind)
    (packet_fine p.role leg.number count packet leg.kind (in_use p.role leg may))
move_over p (Puts leg) may over =
    by_pick p leg (put_by p.role leg.number leg.kind) (in_use p.role leg may)
    (put_same p.role leg.number leg.kind) over
move_over p (IsDrawn leg) may over =
    keeps p.role (drawn p.role leg) (search rules) (search rules) over
move_over p (Marks leg) may over = over
move_over p (Pings leg) may over =
    keeps p.role (ping p.role leg) (search rules) (search rules) over

-- ---- the calls of an end

over_parts : (a b c d : Bool) → ((a && b) && (c && d)) ≡ true
    → (a ≡ true) × (b ≡ true) × (c ≡ true) × (d ≡ true)
over_parts true true true true e = (refl, refl, refl, refl)
over_parts false b c d e = absurd cc
over_parts true false c d e = absurd cc
over_parts true true false d e = absurd cc
over_parts true true true false e = absurd cc

over_all : (a b c d : Bool) → a ≡ true → b ≡ true → c ≡ true → d ≡ true
    → ((a && b) && (c && d)) ≡ true
over_all true true true true e f g h = refl
over_all false b c d e f g h = absurd cc
over_all true false c d e f g h = absurd cc
over_all true true false d e f g h = absurd cc
over_all true true true false e f g h = absurd cc

pub parts : (s : ClientRole) → is_over s ≡ true
    → (s.is_closing ≡ true) × (s.writing.is_end_put ≡ true) × (s.line.current.ended ≡ true)
    × (is_none s.replacement ≡ true)
parts s e =
    over_parts s.is_closing s.writing.is_end_put s.line.current.ended (is_none s.replacement) e

close_over : (s : ClientRole) → Over s → Over (close s)
close_over s over = λ ended.
    let p = parts s (over ended) in
    over_all true s.writing.is_end_put s.line.current.ended (is_none s.replacement) refl p.1 p.2
    p.3

-- where no replacement is under way, a take goes on with the channel
none_passes : (s : ClientRole) (r : Replacement) → is_none r ≡ true → pass_by s r ≡ s
none_passes s NoneUnderWay e = refl
none_passes s (In stage w) e = absurd cc
none_passes s (Out stage w) e = absurd cc

-- which ended where it did
take_over : (s : ClientRole)
    → (is_none s.replacement ≡ true
    → (after_take s.line).current.ended ≡ s.line.current.ended)
    → Over s → Over (take s)
take_over s same over = by s.phase refl
  where
    t : ClientRole
    t = record s { line = after_take s.line }

    work : (f : Phase) → s.phase ≡ f → (f ≡ phase.Ended → ⊥) → Over (take s)
    work f e not_ended =
        fine_then s t (passed t) refl (pass_fine t t.replacement)
        (λ ended. not_ended (sym e ∙ ended))

    by : (f : Phase) → s.phase ≡ f → Over (take s)
    by phase.Opening e = work phase.Opening e (λ bad. absurd cc)
    by phase.Open e = work phase.Open e (λ bad. absurd cc)
    by phase.Ended e =
        let p = parts s (over e) in
        subst Over (sym (none_passes t s.replacement p.3))
        (λ ended. over_all s.is_closing s.writing.is_end_put t.line.current.ended
        (is_none s.replacement) p.0 p.1 (same p.3 ∙ p.2) p.3)

first_same_passage : (x : EndPassage ClientRole) (pdus : List (List ℕ))
    → (with_first x pdus).passage ≡ x.passage
first_same_passage x [] = refl
first_same_passage x (pdu ∷ pdus) = refl

by_given : (p : EndPassage ClientRole) (bytes : List ℕ)
    (x : ClientRole × Result (Unit {0}) GiveRefused) → Over x.0
    → Over (given_by p bytes x).passage.role
by_given p bytes (role, Ok accepted) h = h
by_given p bytes (role, Err refused) h = h

recycle_same : (s : ClientRole) (r : Replacement) → Same s (recycle_by s r).0
recycle_same s r = search rules

abbrev pub Passed : List Item → Type 0
Passed items = (has_handover items || has_end items) ≡ true

pub handed : (items : List Item) → has_handover items ≡ true → Passed items
handed items e = ap (λ (t : Bool). t || has_end items) e

pub ended_there : (items : List Item) → has_end items ≡ true → Passed items
ended_there items e = by (has_handover items) (has_end items) e
  where
    by : (a b : Bool) → b ≡ true → (a || b) ≡ true
    by true b f = refl
    by false b f = f

module _ (config : ClientConfig) where
  abbrev Reached : EndPassage ClientRole → Type 0
  Reached p = EndLeads client_rules acts (client_started config) p

  in_order : (p : EndPassage ClientRole) → Reached p → TakesInOrder p
  in_order p leads =
      subst TakesInOrder leads.reached (takes_in_order config leads.moves leads.allowed)

  -- END stands on the channel that is current before and behind a take
  same_end : (p : EndPassage ClientRole) → Reached p
      → (let s = p.passage.role in
      is_none s.replacement ≡ true → (after_take s.line).current.ended ≡ s.line.current.ended)
  same_end p leads none =
      let s = p.passage.role in
      let t : ClientRole = record s { line = after_take s.line } in
      let q = end_moved client_rules acts p Takes in
      let same : q.passage ≡ record (p.passage) { role = t } =
      first_same_passage (end_now_at p (take s)) s.line.current.pdus
      ∙ ap (λ (r : ClientRole). record (p.passage) { role = r })
      (none_passes t s.replacement none) in
      let behind : TakerLaw (taker_of q.taken t) has_leg (came_log p.passage.came) =
      subst (λ (x : Passage ClientRole).
      TakerLaw (taker_of q.taken x.role) has_leg (came_log x.came)) same
      (in_order q (leads_one client_rules acts (client_started config) p Takes leads tt)) in
      behind.holds.ended ∙ sym (in_order p leads).holds.ended

  end_over : (p : EndPassage ClientRole) (move : EndMove) → Reached p
      → MayEndMove client_rules p.passage.role move → Over p.passage.role
      → Over (end_moved client_rules acts p move).passage.role
  end_over p (Moves move) leads may over = move_over p.passage move may over
  end_over p (Gives bytes) leads may over =
      let s = p.passage.role in
      by_given p bytes (give s bytes)
      (keeps s (give s bytes).0 (search rules) (search rules) over)
  end_over p Takes leads may over =
      let s = p.passage.role in
      subst (λ (x : Passage ClientRole). Over x.role)
      (sym (first_same_passage (end_now_at p (take s)) s.line.current.pdus))
      (take_over s (same_end p leads) over)
  end_over p Closes leads may over = close_over p.passage.role over
  end_over p Recycles leads may over =
      let s = p.passage.role in
      fine_same s (recycle s).0 (recycle_same s s.replacement)
      (λ ended. absurd (let bad : phase.Open ≡ phase.Ended = sym may ∙ ended in cc))

  all_over : (p : EndPassage ClientRole) (moves : List EndMove) → Reached p
      → AreAllowedAtEnd client_rules acts p moves → Over p.passage.role
      → Over (all_end_moved client_rules acts p moves).passage.role
  all_over p [] leads may over = over
  all_over p (move ∷ moves) leads may over =
      all_over (end_moved client_rules acts p move) moves
      (leads_one client_rules acts (client_started config) p move leads may.0) may.1
      (end_over p move leads may.0 over)

  pub over_done : (moves : List EndMove) → AreAllowedMoves config moves
      → (client_moved config moves).passage.role.phase ≡ phase.Ended
      → is_over (client_moved config moves).passage.role ≡ true
  over_done moves allowed =
      all_over (client_started config) moves
      (record { moves = []; allowed = tt; reached = refl }) allowed (λ ended. absurd cc)

  -- ---- so its channels passed

  pub gave_all : (moves : List EndMove) → AreAllowedMoves config moves
      → (let p = client_moved config moves in
      GivesInOrder p → p.passage.role.phase ≡ phase.Ended → (n : ℕ) → 0 < n
      → n ≤ p.passage.role.writing.number → Passed (put_log p.passage.put n))
  gave_all moves allowed law ended n some within =
      by (nat_lt n (client_moved config moves).passage.role.writing.number) refl
    where
      s : ClientRole
      s = (client_moved config moves).passage.role

      by : (t : Bool) → nat_lt n s.writing.number ≡ t
          → Passed (put_log (client_moved config moves).passage.put n)
      by true e =
          handed (put_log (client_moved config moves).passage.put n)
          (law.handed n some (grind (arith, nat_tests)))
      by false e =
          let here : n ≡ s.writing.number = grind (arith, nat_tests) in
          ended_there (put_log (client_moved config moves).passage.put n)
          (ap (λ (k : ℕ). has_end (put_log (client_moved config moves).passage.put k)) here
          ∙ sym law.end_put ∙ (parts s (over_done moves allowed ended)).1)

  pub took_all : (moves : List EndMove) → AreAllowedMoves config moves
      → (let p = client_moved config moves in
      p.passage.role.phase ≡ phase.Ended → (n : ℕ) → 0 < n
      → n ≤ p.passage.role.current.number → Passed (came_log p.passage.came n))
  took_all moves allowed ended n some within =
      by (nat_lt n (client_moved config moves).passage.role.current.number) refl
    where
      s : ClientRole
      s = (client_moved config moves).passage.role

      law : TakesInOrder (client_moved config moves)
      law = takes_in_order config moves allowed

      by : (t : Bool) → nat_lt n s.current.number ≡ t
          → Passed (came_log (client_moved config moves).passage.came n)
      by true e =
          handed (came_log (client_moved config moves).passage.came n)
          (law.past n (grind (arith, nat_tests)) (grind (arith, nat_tests)))
      by false e =
          let here : n ≡ s.current.number = grind (arith, nat_tests) in
          ended_there (came_log (client_moved config moves).passage.came n)
          (ap (λ (k : ℕ). has_end (came_log (client_moved config moves).passage.came k)) here
          ∙ sym law.holds.ended ∙ (parts s (over_done moves allowed ended)).2)
