-- what is known of a client's channels stays so behind each row
use Rattle.std.specs.Option.{is_some}
use Rattle.law_order.proofs.Vocabulary.{◌≡◌, ℕ, suc, ◌+◌, ◌==◌, ◌≤◌, Bool, true, false, true≢false, not, ◌&&◌, ◌||◌, nat_lt, nat_tests, if◌then◌else◌, List, [], ◌∷◌, ◌++◌, Some, None, Ok, Err, arith, refl, rules, sym, ap, ◌∙◌, subst, and_parts, bytes_eq, bytes_eq-Decides, Option, Result}
use Rattle.rh_sig.specs.declared.named.Named.TheVariants as named
use Rattle.rh_line.specs.Lines as lines
use Rattle.rh_shell.specs.declared.answers.Phase.TheVariants as phase
use Rattle.rh_client.specs.declared.replacement.InStage.TheVariants as in_stage
use Rattle.rh_client.specs.declared.replacement.OutStage.TheVariants as out_stage
use Rattle.rh_client.specs.declared.replacement.Waits.TheVariants as waits
use Rattle.law_moves.proofs.Vocabulary.{ack_verdict, after_acked, BadAck, by_test, same_number, Cookie, Named, Incoming, after_admit, after_finish, Leg, LegKind, ClientOut, OutServer, ClientIn, InServer, Which, Current, Next, Count, Message, Text, Pdu, Packet, OnLeg, Up, PacketCame, EndMove, Moves}
use Rattle.law_moves.proofs.Lemmas.{Fact, RowKeeps, each_so}
use Rattle.law_role_client.proofs.Vocabulary.{InChannel, LAST_NUMBER, Opening, NotUp, Request, First, Second, Put, Replacement, NoneUnderWay, In, Out, Waits, ClientRole, is_named, is_put, is_asked, is_up, is_in, is_out, has_out, with_out, told_in, Done, ci, unexpected, taken, settled, is_open, is_opening, is_writing, is_in_successor, is_current, is_out_successor, is_switched, on_conn_a3, on_conn_c2, pdu_channel, pdu_on, acked, ack_row, ack_row_by, ack_named, on_ack_to, end_channel, end_on, answer_by}
use Rattle.law_role_client.proofs.Vocabulary.{a2_by, on_out_r1_a2, a6_by, on_out_r1_a6, a10_by, passed, was_up, was_up_by, pdu_by, packet_by, on_packet, once_if}
use Rattle.law_role_client.proofs.Counted.Rows.{not_false}
use Rattle.law_role_client.proofs.Counted.Views.{Way, way_of}
use Rattle.law_role_client.proofs.Receiving.Rows.{asked_up}
use Rattle.law_role_edges.proofs.Knowing.{acked_known, acked_rises}
use Rattle.law_role_client_edges.specs.Knowing.{is_window, is_window_packet, told_by_packet, told_last, came_since, IsWithin, IsWithinEdge}
use Rattle.law_role_client_edges.proofs.Lists.{windows, windows_rise, told_stays, told_next, since_more, since_last}
use Rattle.law_role_client_edges.proofs.Facts.{InSeen, seen, seen_by, in_seen, Same, none_is, is_answered_way, KnowsEdge, IsOwn, same_holds, by_replacement, live, heard, heard_by}
use Rattle.law_role_client_edges.proofs.Replaced.{Of, Holds, begin_out_holds, settled_holds, settles, open_is, current_changes, next_changes}

-- ---- rows that leave all this alone

same_conn_a3 : (s : ClientRole) (n : ℕ) (count : Count) (timeout : ℕ)
    → Same s (on_conn_a3 s n count timeout).0
same_conn_a3 s n count timeout = search rules

admitted_told : (c : Incoming) (bytes : List ℕ)
    → (lines.admitted c bytes).window.told ≡ c.window.told
admitted_told c bytes = search rules

admitted_released : (c : Incoming) (bytes : List ℕ)
    → (lines.admitted c bytes).window.released ≡ c.window.released
admitted_released c bytes = search rules

admitted_size : (c : Incoming) (bytes : List ℕ)
    → (lines.admitted c bytes).window.size ≡ c.window.size
admitted_size c bytes = search rules

admitted_ended : (c : Incoming) (bytes : List ℕ) → (lines.admitted c bytes).ended ≡ c.ended
admitted_ended c bytes = search rules

put_up : (o : Opening) → is_put o ≡ true → is_up o ≡ true
put_up NotUp e = absurd (true≢false (sym e))
put_up Request e = absurd (true≢false (sym e))
put_up First e = absurd (true≢false (sym e))
put_up Second e = absurd (true≢false (sym e))
put_up Put e = refl

-- ---- acknowledgements

-- a channel has the cookie, and one that has it and is up is named
named_is : (c : InChannel) (of : Cookie) → is_named c of ≡ true
    → (is_up c.opening ≡ true) × (of ≡ c.cookie)
named_is c of e =
    let parts = and_parts (is_up c.opening) (bytes_eq c.cookie.0 of.0) e in
    let same : c.cookie.0 ≡ of.0 = (bytes_eq-Decides c.cookie.0 of.0).0 parts.1 in
    let cookie : List ℕ → Cookie = λ bytes. record { 0 = bytes } in
    (parts.0, sym (ap cookie same))

named_so : (c : InChannel) (of : Cookie) → is_up c.opening ≡ true → of ≡ c.cookie
    → is_named c of ≡ true
named_so c of up same = by (is_up c.opening) (bytes_eq c.cookie.0 of.0) up
    ((bytes_eq-Decides c.cookie.0 of.0).1 (ap (λ (x : Cookie). x.0) (sym same)))
  where
    by : (a b : Bool) → a ≡ true → b ≡ true → a && b ≡ true
    by true true e f = refl
    by true false e f = absurd (true≢false (sym f))
    by false b e f = absurd (true≢false (sym e))

-- ---- which leg was up

up_of : (a b c u d v : Bool) → (a && b) || ((c && u) || (d && v)) ≡ true → b ≡ false
    → d ≡ false → u ≡ true
up_of a true c u d v e f g = absurd (true≢false f)
up_of a b c u true v e f g = absurd (true≢false g)
up_of a b c true d v e f g = refl
up_of true false true false false v e f g = absurd (true≢false (sym e))
up_of true false false false false v e f g = absurd (true≢false (sym e))
up_of false false true false false v e f g = absurd (true≢false (sym e))
up_of false false false false false v e f g = absurd (true≢false (sym e))

not_below : (n k : ℕ) → n ≡ k → nat_lt n k ≡ false
not_below n k e = grind (arith, nat_tests, e)

-- ---- higher edges

packet_high : (cookie : Cookie) (low high : ℕ) → low ≤ high → (m : Named)
    → IsWithin cookie low m → IsWithin cookie high m
packet_high cookie low high more (named.AckTo to received available of) is =
    λ client same. let before = is client same in omega (arith, more, before)
packet_high cookie low high more m is = tt

within_high : (cookie : Cookie) (low high : ℕ) → low ≤ high → (one : OnLeg)
    → IsWithinEdge cookie low one → IsWithinEdge cookie high one
within_high cookie low high more (leg, Text bytes) is = tt
within_high cookie low high more (leg, Pdu bytes) is = tt
within_high cookie low high more (leg, Packet m) is = packet_high cookie low high more m is

knows_high : (c : InSeen) (edge : ℕ) (came : List OnLeg) → c.edge ≤ edge → KnowsEdge c came
    → KnowsEdge (record c { edge = edge }) came
knows_high c edge came more k =
    let window = k.window in
    record {
      window = omega (arith, window, more);
      acks =
          each_so (IsWithinEdge c.cookie c.edge) (IsWithinEdge c.cookie edge)
          (within_high c.cookie c.edge edge more) (came_since c.number came) k.acks;
    }

module _ (Answers Rises : Type 0) (Comes : Leg → Cookie → Type 0) where
  -- the facts that each step keeps
  abbrev pub Fits : Fact ClientRole
  Fits s came put = Holds Answers Rises Comes came put s

  -- what is known of a packet that comes, and of a move
  abbrev pub OfPacket : ClientRole → Leg → Named → Type 0
  OfPacket s leg (named.ConnC2 version window timeout) =
      (Rises → was_up s leg ≡ true) × (Answers → was_up s (ci 1) ≡ true)
  OfPacket s leg m = Unit {0}

  abbrev pub OfMove : ClientRole → EndMove → Type 0
  OfMove s (Moves (Up leg cookie)) = Comes leg cookie
  OfMove s (Moves (PacketCame leg count m)) = OfPacket s leg m
  OfMove s move = Unit {0}

  module _ (s : ClientRole) (leg : Leg) (came put : List OnLeg) (h : Fits s came put) where
    abbrev Row : Message → Done → Type 0
    Row m x = RowKeeps Fits (leg, m) came put x

    at : (r : Replacement) → s.replacement ≡ r
        → Of Answers Rises Comes came put (seen_by s r)
    at r e = by_replacement Answers Rises Comes s r came put e h

    -- a message that tells no edge comes
    more : (m : Message) (t : ClientRole) → is_window m ≡ false
        → ((cookie : Cookie) (edge : ℕ) → IsWithinEdge cookie edge (leg, m)) → Fits t came put
        → Fits t (came ++ (leg, m) ∷ []) put
    more m t other none k =
        heard Answers Rises Comes (seen t) came put (leg, m) other none k

    -- a row that holds without it
    keep_row : (m : Message) (x : Done) → is_window m ≡ false
        → ((cookie : Cookie) (edge : ℕ) → IsWithinEdge cookie edge (leg, m)) → Fits x.0 came put
        → Row m x
    keep_row m (t, Ok took) other none k = more m t other none k
    keep_row m (t, Err why) other none k = k

    same_row : (m : Message) (x : Done) → is_window m ≡ false
        → ((cookie : Cookie) (edge : ℕ) → IsWithinEdge cookie edge (leg, m)) → Same s x.0
        → Row m x
    same_row m x other none same =
        keep_row m x other none (same_holds Answers Rises Comes s x.0 came put same h)

    -- ---- RPC PDUs

    admits : (bytes : List ℕ) (which : Which) → is_open s.phase ≡ true
        → Fits (record s { line = after_admit s.line which bytes }) came put
    admits bytes Current o =
        current_changes Answers Rises Comes came put (seen s)
        (lines.admitted s.line.current bytes) (open_is s.phase o).0
        (admitted_told s.line.current bytes)
        (λ e. admitted_ended s.line.current bytes ∙ e) h
    admits bytes Next o =
        next_changes Answers Rises Comes came put (seen s) (lines.admitted s.line.next bytes)
        (open_is s.phase o).0 (admitted_told s.line.next bytes)
        (admitted_released s.line.next bytes) (admitted_size s.line.next bytes) h

    admit_row_by : (bytes : List ℕ) (which : Which) → is_open s.phase ≡ true
        → Row (Pdu bytes) (pdu_on s bytes (Some which))
    admit_row_by bytes which o =
        keep_row (Pdu bytes) (pdu_on s bytes (Some which)) refl (λ cookie edge. tt)
        (admits bytes which o)

    pdu_row : (bytes : List ℕ) → Row (Pdu bytes) (pdu_on s bytes (pdu_channel s leg.number))
    pdu_row bytes =
        by_test On (not (is_open s.phase)) None _ (λ e. h)
        (λ e. let o = not_false (is_open s.phase) e in
        by_test On (is_current s leg.number) (Some Current) _
        (λ f. admit_row_by bytes Current o)
        (λ f. by_test On (is_switched s && is_out_successor s leg.number) (Some Next) None
        (λ g. admit_row_by bytes Next o) (λ g. h)))
      where
        On : Option Which → Type 0
        On which = Row (Pdu bytes) (pdu_on s bytes which)

    -- ---- END

    ended : (which : Which) → is_open s.phase ≡ true
        → Fits (record s { line = lines.after_end s.line which }) came put
    ended Current o =
        current_changes Answers Rises Comes came put (seen s) (lines.with_end s.line.current)
        (open_is s.phase o).0 refl (λ e. refl) h
    ended Next o =
        next_changes Answers Rises Comes came put (seen s) (lines.with_end s.line.next)
        (open_is s.phase o).0 refl refl refl h

    end_row : (which : Option Which) → is_open s.phase ≡ true
        → Row (Packet named.EndB2) (end_on s which)
    end_row None o = h
    end_row (Some which) o =
        by_test (Row (Packet named.EndB2)) (lines.channel_of s.line which).ended (unexpected s)
        (taken (settled t)) (λ e. h)
        (λ e. keep_row (Packet named.EndB2) (taken (settled t)) refl (λ cookie edge. tt)
        (settled_holds Answers Rises Comes came put t (ended which o)))
      where
        t : ClientRole
        t = record s { line = lines.after_end s.line which }

    -- ---- OUT_R1/A2, OUT_R1/A6 and OUT_R1/A10

    a2_fits : (n : ℕ) (r : Replacement) → s.replacement ≡ r → is_open s.phase ≡ true
        → Fits (a2_by s n r).0 came put
    a2_fits n NoneUnderWay e o =
        begin_out_holds Answers Rises Comes came put s waits.Nothing (open_is s.phase o)
        (at NoneUnderWay e)
    a2_fits n (In stage true) e o = h
    a2_fits n (In stage false) e o = at (In stage false) e
    a2_fits n (Out stage waiting) e o =
        by_test (λ (x : Done). Fits x.0 came put)
        (is_out_successor s n && not (has_out waiting))
        (taken (record s { replacement = Out stage (with_out waiting) })) (unexpected s)
        (λ f. at (Out stage waiting) e) (λ f. h)

    a2_row : (n to : ℕ) → Fits (on_out_r1_a2 s n to).0 came put
    a2_row n to =
        by_test (λ (x : Done). Fits x.0 came put)
        (is_open s.phase && (to == 0 && nat_lt n LAST_NUMBER)) (a2_by s n s.replacement)
        (unexpected s)
        (λ e. a2_fits n s.replacement refl (and_parts (is_open s.phase) _ e).0) (λ e. h)

    -- the first packet of the successor was put, so that its leg came up
    answers : (waiting : Waits) (timeout : ℕ) → s.replacement ≡ Out out_stage.Asked waiting
        → is_asked s.out_successor.opening ≡ true
        → Fits (record s {
          out_successor = record (s.out_successor) { timeout = Some timeout };
          replacement = Out out_stage.Answered waiting;
        }) came put
    answers waiting timeout e asked =
        let k = at (Out out_stage.Asked waiting) e in
        let is = live Answers Rises Comes (seen_by s (Out out_stage.Asked waiting)) came put refl k
        in record {
          fresh = λ f. absurd (true≢false (sym f ∙ is.0));
          ins = record {
            follows = k.ins.follows;
            next_up = k.ins.next_up;
            next_in = k.ins.next_in;
            before = k.ins.before;
            comes = k.ins.comes;
            next_comes = k.ins.next_comes;
            leaving_comes = k.ins.leaving_comes;
            counted = k.ins.counted;
            up = k.ins.up;
            told = k.ins.told;
            next_told = k.ins.next_told;
            leaving_told = k.ins.leaving_told;
            knows = k.ins.knows;
            knows_next = k.ins.knows_next;
            knows_leaving = k.ins.knows_leaving;
          };
          outs = record {
            follows = λ f. k.outs.follows refl;
            next_up = λ f. asked_up s.out_successor.opening asked;
            up = k.outs.up;
            size_is = k.outs.size_is;
            acked = k.outs.acked;
            next_window = k.outs.next_window;
            next_held = k.outs.next_held;
            next_size = k.outs.next_size;
            begun = k.outs.begun;
            next_begun = k.outs.next_begun;
            finished = k.outs.finished;
            there = λ f. absurd (true≢false (sym f));
          };
          over = λ f. absurd (true≢false (sym f ∙ is.1));
        }

    a6_fits : (timeout : ℕ) (r : Replacement) → s.replacement ≡ r
        → Fits (a6_by s timeout r).0 came put
    a6_fits timeout NoneUnderWay e = h
    a6_fits timeout (In stage out_waits) e = h
    a6_fits timeout (Out out_stage.Asked waiting) e =
        by_test (λ (x : Done). Fits x.0 came put) (is_asked s.out_successor.opening) _
        (unexpected s) (λ f. answers waiting timeout e f) (λ f. h)
    a6_fits timeout (Out out_stage.Answered waiting) e = h
    a6_fits timeout (Out out_stage.Switched waiting) e = h
    a6_fits timeout (Out out_stage.Finished waiting) e = h

    a6_row : (n to timeout : ℕ) → Fits (on_out_r1_a6 s n to timeout).0 came put
    a6_row n to timeout =
        by_test (λ (x : Done). Fits x.0 came put) (to == 0 && is_current s n)
        (a6_by s timeout s.replacement) (unexpected s)
        (λ e. a6_fits timeout s.replacement refl) (λ e. h)

    finishes : (waiting : Waits) → s.replacement ≡ Out out_stage.Switched waiting
        → s.line.has_next ≡ true
        → Fits (record s {
          line = record (s.line) { finished = true };
          replacement = Out out_stage.Finished waiting;
        }) came put
    finishes waiting e there =
        let k = at (Out out_stage.Switched waiting) e in
        let is =
        live Answers Rises Comes (seen_by s (Out out_stage.Switched waiting)) came put refl k in
        record {
          fresh = λ f. absurd (true≢false (sym f ∙ is.0));
          ins = record {
            follows = k.ins.follows;
            next_up = k.ins.next_up;
            next_in = k.ins.next_in;
            before = k.ins.before;
            comes = k.ins.comes;
            next_comes = k.ins.next_comes;
            leaving_comes = k.ins.leaving_comes;
            counted = k.ins.counted;
            up = k.ins.up;
            told = k.ins.told;
            next_told = k.ins.next_told;
            leaving_told = k.ins.leaving_told;
            knows = k.ins.knows;
            knows_next = k.ins.knows_next;
            knows_leaving = k.ins.knows_leaving;
          };
          outs = record {
            follows = λ f. k.outs.follows refl;
            next_up = λ f. k.outs.next_up refl;
            up = k.outs.up;
            size_is = k.outs.size_is;
            acked = k.outs.acked;
            next_window = k.outs.next_window;
            next_held = k.outs.next_held;
            next_size = k.outs.next_size;
            begun = k.outs.begun;
            next_begun = k.outs.next_begun;
            finished = refl;
            there = λ f. there;
          };
          over = λ f. absurd (true≢false (sym f ∙ is.1));
        }

    a10_row : (n : ℕ) (r : Replacement) → s.replacement ≡ r
        → Row (Packet named.OutR1A10) (a10_by s n r)
    a10_row n NoneUnderWay e = h
    a10_row n (In stage out_waits) e = h
    a10_row n (Out out_stage.Asked waiting) e = h
    a10_row n (Out out_stage.Answered waiting) e = h
    a10_row n (Out out_stage.Finished waiting) e = h
    a10_row n (Out out_stage.Switched waiting) e =
        by_test (Row (Packet named.OutR1A10)) (s.line.has_next && is_current s n)
        (taken (passed (record s {
          line = after_finish s.line;
          replacement = Out out_stage.Finished waiting;
        }))) (unexpected s)
        (λ f. keep_row (Packet named.OutR1A10) (taken (passed (record s {
          line = after_finish s.line;
          replacement = Out out_stage.Finished waiting;
        }))) refl (λ cookie edge. tt)
        (settles Answers Rises Comes came put (record s {
          line = record (s.line) { finished = true };
          replacement = Out out_stage.Finished waiting;
        }) (finishes waiting e (and_parts s.line.has_next (is_current s n) f).0)))
        (λ f. h)

    -- ---- CONN/C2

    opens : (m : Named) (window timeout : ℕ) → is_window_packet m ≡ true
        → told_by_packet 0 m ≡ window
        → ((cookie : Cookie) (edge : ℕ) → IsWithin cookie edge m)
        → is_opening s.phase ≡ true → (Rises → is_up s.current.opening ≡ true)
        → (Answers → is_up s.writing.opening ≡ true)
        → Fits (record s { phase = phase.Open; writing = told_in s.writing window timeout })
        (came ++ (leg, Packet m) ∷ []) put
    opens m window timeout is tells none o now_up in_up =
        let f = h.fresh o in
        let rise = windows_rise came (leg, Packet m) is in
        let before = f.none in
        let number = f.first in
        record {
          fresh = λ e. absurd (true≢false (sym e));
          ins = record {
            follows = h.ins.follows;
            next_up = h.ins.next_up;
            next_in = h.ins.next_in;
            before = λ e. absurd (true≢false (sym o ∙ (h.ins.before e).1));
            comes = h.ins.comes;
            next_comes = h.ins.next_comes;
            leaving_comes = h.ins.leaving_comes;
            counted = λ e.
                subst (λ (w : Way). windows (came ++ (leg, Packet m) ∷ [])
                ≡ s.writing.number + once_if (is_answered_way w)) (sym f.way_is)
                (omega (arith, rise, before, number));
            up = λ a e. in_up a;
            told = λ e.
                subst (λ (n : ℕ). window ≡ told_last 0 n (came ++ (leg, Packet m) ∷ []))
                (sym f.first)
                (sym (told_next 0 0 came (leg, Packet m) f.none is ∙ tells));
            next_told = λ e. absurd (true≢false (sym e ∙ ap is_answered_way f.way_is));
            leaving_told = λ e. absurd (true≢false (sym o ∙ (h.ins.before e).1));
            knows = λ a e own. record {
              window = omega arith;
              acks =
                  since_last (IsWithinEdge s.writing.cookie window) s.writing.number came
                  (leg, Packet m) (omega (arith, before, number));
            };
            knows_next = λ a e own. absurd (true≢false (sym e ∙ ap is_answered_way f.way_is));
            knows_leaving = λ a e own. absurd (true≢false (sym o ∙ (h.ins.before e).1));
          };
          outs = record {
            follows = h.outs.follows;
            next_up = h.outs.next_up;
            up = λ a e. now_up a;
            size_is = h.outs.size_is;
            acked = h.outs.acked;
            next_window = h.outs.next_window;
            next_held = h.outs.next_held;
            next_size = h.outs.next_size;
            begun = h.outs.begun;
            next_begun = h.outs.next_begun;
            finished = h.outs.finished;
            there = h.outs.there;
          };
          over = λ e. absurd (true≢false (sym e));
        }

    c2_row : (version window timeout : ℕ) → leg.kind ≡ ClientOut
        → (Rises → was_up s leg ≡ true) × (Answers → was_up s (ci 1) ≡ true)
        → Row (Packet (named.ConnC2 version window timeout))
        (on_conn_c2 s leg.number window timeout)
    c2_row version window timeout out was =
        by_test (Row (Packet (named.ConnC2 version window timeout)))
        ((leg.number == 1 && is_current s leg.number)
        && (is_opening s.phase && is_some s.current.timeout)) _ (unexpected s)
        (λ e.
        let parts = and_parts (leg.number == 1 && is_current s leg.number)
        (is_opening s.phase && is_some s.current.timeout) e in
        let o = (and_parts (is_opening s.phase) (is_some s.current.timeout) parts.1).0 in
        let current = same_number leg.number s.current.number
        (and_parts (leg.number == 1) (is_current s leg.number) parts.0).1 in
        let f = h.fresh o in
        let none = none_is s.replacement f.way_is in
        opens (named.ConnC2 version window timeout) window timeout refl refl
        (λ cookie edge. tt) o
        (λ a. up_of (nat_lt 0 leg.number) (nat_lt leg.number s.current.number)
        (is_current s leg.number) (is_up s.current.opening) (is_out_successor s leg.number)
        (is_up s.out_successor.opening)
        (subst (λ (k : LegKind). was_up_by s leg.number k ≡ true) out (was.0 a))
        (not_below leg.number s.current.number current)
        (ap (λ (r : Replacement). is_out r && leg.number == s.out_successor.number) none))
        (λ a. up_of (nat_lt 0 1) (nat_lt 1 s.writing.number) (is_writing s 1)
        (is_up s.writing.opening) (is_in_successor s 1) (is_up s.in_successor.opening)
        (was.1 a) (not_below 1 s.writing.number (sym f.first))
        (ap (λ (r : Replacement). is_in r && 1 == s.in_successor.number) none)))
        (λ e. h)

    -- ---- IN_R1/A4 and IN_R2/A4

    answered : (m : Named) (out_waits : Bool) (window timeout : ℕ) → is_window_packet m ≡ true
        → told_by_packet s.writing.told m ≡ window
        → ((cookie : Cookie) (edge : ℕ) → IsWithin cookie edge m)
        → s.replacement ≡ In in_stage.Asked out_waits → is_put s.in_successor.opening ≡ true
        → Fits (record s {
          in_successor = told_in s.in_successor window timeout;
          replacement = In in_stage.Answered out_waits;
        }) (came ++ (leg, Packet m) ∷ []) put
    answered m out_waits window timeout is tells none e asked =
        let k = at (In in_stage.Asked out_waits) e in
        let open' =
        live Answers Rises Comes (seen_by s (In in_stage.Asked out_waits)) came put refl k in
        let rise = windows_rise came (leg, Packet m) is in
        let all = k.ins.counted open'.0 in
        let number = k.ins.follows refl in
        record {
          fresh = λ f. absurd (true≢false (sym f ∙ open'.0));
          ins = record {
            follows = λ f. number;
            next_up = λ f. put_up s.in_successor.opening asked;
            next_in = λ f. refl;
            before = k.ins.before;
            comes = k.ins.comes;
            next_comes = k.ins.next_comes;
            leaving_comes = k.ins.leaving_comes;
            counted = λ f. omega (arith, rise, all);
            up = k.ins.up;
            told = λ f.
                k.ins.told f
                ∙ sym (told_stays 0 s.writing.number came (leg, Packet m) (omega (arith, all)));
            next_told = λ f.
                subst (λ (n : ℕ). window ≡ told_last 0 n (came ++ (leg, Packet m) ∷ []))
                (sym number)
                (sym (told_next 0 s.writing.number came (leg, Packet m) (omega (arith, all)) is
                ∙ (ap (λ (n : ℕ). told_by_packet n m) (sym (k.ins.told open'.0)) ∙ tells)));
            leaving_told = λ f.
                k.ins.leaving_told f
                ∙ sym (told_stays 0 s.leaving.number came (leg, Packet m)
                (let low = (k.ins.before f).0 in omega (arith, low, all)));
            knows = λ a f own. since (in_seen s.writing) (k.ins.knows a f own);
            knows_next = λ a f own. record {
              window = omega arith;
              acks =
                  since_last (IsWithinEdge s.in_successor.cookie window) s.in_successor.number
                  came (leg, Packet m) (omega (arith, all, number));
            };
            knows_leaving = λ a f own. since (in_seen s.leaving) (k.ins.knows_leaving a f own);
          };
          outs = record {
            follows = k.outs.follows;
            next_up = k.outs.next_up;
            up = k.outs.up;
            size_is = k.outs.size_is;
            acked = k.outs.acked;
            next_window = k.outs.next_window;
            next_held = k.outs.next_held;
            next_size = k.outs.next_size;
            begun = k.outs.begun;
            next_begun = k.outs.next_begun;
            finished = k.outs.finished;
            there = k.outs.there;
          };
          over = λ f. absurd (true≢false (sym f ∙ open'.1));
        }
      where
        since : (c : InSeen) → KnowsEdge c came → KnowsEdge c (came ++ (leg, Packet m) ∷ [])
        since c knows = record {
          window = knows.window;
          acks =
              since_more (IsWithinEdge c.cookie c.edge) c.number came (leg, Packet m)
              (none c.cookie c.edge) knows.acks;
        }

    answer_row : (m : Named) (window timeout : ℕ) (r : Replacement) → s.replacement ≡ r
        → is_window_packet m ≡ true → told_by_packet s.writing.told m ≡ window
        → ((cookie : Cookie) (edge : ℕ) → IsWithin cookie edge m)
        → Row (Packet m) (answer_by s window timeout r)
    answer_row m window timeout NoneUnderWay e is tells none = h
    answer_row m window timeout (In in_stage.Asked out_waits) e is tells none =
        by_test (Row (Packet m)) (is_put s.in_successor.opening) _ (unexpected s)
        (λ f. answered m out_waits window timeout is tells none e f) (λ f. h)
    answer_row m window timeout (In in_stage.Answered out_waits) e is tells none = h
    answer_row m window timeout (Out stage waiting) e is tells none = h

    -- for the client, which has the destination 0
    answer_if : (m : Named) (to window timeout : ℕ) → is_window_packet m ≡ true
        → told_by_packet s.writing.told m ≡ window
        → ((cookie : Cookie) (edge : ℕ) → IsWithin cookie edge m)
        → Row (Packet m)
        (if to == 0 then answer_by s window timeout s.replacement else unexpected s)
    answer_if m to window timeout is tells none =
        by_test (Row (Packet m)) (to == 0) (answer_by s window timeout s.replacement)
        (unexpected s) (λ e. answer_row m window timeout s.replacement refl is tells none)
        (λ e. h)

    -- ---- acknowledgements

    module _ (to received available : ℕ) (of : Cookie) where
      abbrev ack : Named
      ack = named.AckTo to received available of

      abbrev OfAck : Cookie → ℕ → Type 0
      OfAck cookie edge = IsWithinEdge cookie edge (leg, Packet ack)

      -- it is of another channel
      never : (cookie : Cookie) (edge : ℕ) → (of ≡ cookie → ⊥) → OfAck cookie edge
      never cookie edge so = λ client same. absurd (so same)

      unnamed : (c : InChannel) → is_named c of ≡ false → is_up c.opening ≡ true
          → of ≡ c.cookie → ⊥
      unnamed c e up same = true≢false (sym (named_so c of up same) ∙ e)

      -- a cookie of one channel is that of no other one
      other : (n : ℕ) (cookie : Cookie) (c : InSeen) → Comes (ci n) cookie → of ≡ cookie
          → IsOwn Answers Rises Comes c → (n ≡ c.number → ⊥) → of ≡ c.cookie → ⊥
      other n cookie c comes is own so same =
          so (own n (subst (λ (x : Cookie). Comes (ci n) x) (sym is ∙ same) comes))

      abbrev Acked : InChannel → ℕ
      Acked c = (after_acked c.window received available).edge

      in_number : is_answered_way (way_of s.replacement) ≡ true
          → s.in_successor.number ≡ suc s.writing.number
      in_number e = h.ins.follows (h.ins.next_in (h.ins.next_up e))

      -- of the writing channel
      writing_high : Fits (record s { writing = acked s.writing received available }) came put
      writing_high = record {
        fresh = h.fresh;
        ins = record {
          follows = h.ins.follows;
          next_up = h.ins.next_up;
          next_in = h.ins.next_in;
          before = h.ins.before;
          comes = h.ins.comes;
          next_comes = h.ins.next_comes;
          leaving_comes = h.ins.leaving_comes;
          counted = h.ins.counted;
          up = h.ins.up;
          told = h.ins.told;
          next_told = h.ins.next_told;
          leaving_told = h.ins.leaving_told;
          knows = λ a o own.
              knows_high (in_seen s.writing) (Acked s.writing) came
              (acked_rises s.writing.window received available) (h.ins.knows a o own);
          knows_next = h.ins.knows_next;
          knows_leaving = h.ins.knows_leaving;
        };
        outs = h.outs;
        over = h.over;
      }

      in_successor_high : Fits
          (record s { in_successor = acked s.in_successor received available }) came put
      in_successor_high = record {
        fresh = h.fresh;
        ins = record {
          follows = h.ins.follows;
          next_up = h.ins.next_up;
          next_in = h.ins.next_in;
          before = h.ins.before;
          comes = h.ins.comes;
          next_comes = h.ins.next_comes;
          leaving_comes = h.ins.leaving_comes;
          counted = h.ins.counted;
          up = h.ins.up;
          told = h.ins.told;
          next_told = h.ins.next_told;
          leaving_told = h.ins.leaving_told;
          knows = h.ins.knows;
          knows_next = λ a o own.
              knows_high (in_seen s.in_successor) (Acked s.in_successor) came
              (acked_rises s.in_successor.window received available) (h.ins.knows_next a o own);
          knows_leaving = h.ins.knows_leaving;
        };
        outs = h.outs;
        over = h.over;
      }

      leaving_high : Fits (record s { leaving = acked s.leaving received available }) came put
      leaving_high = record {
        fresh = h.fresh;
        ins = record {
          follows = h.ins.follows;
          next_up = h.ins.next_up;
          next_in = h.ins.next_in;
          before = h.ins.before;
          comes = h.ins.comes;
          next_comes = h.ins.next_comes;
          leaving_comes = h.ins.leaving_comes;
          counted = h.ins.counted;
          up = h.ins.up;
          told = h.ins.told;
          next_told = h.ins.next_told;
          leaving_told = h.ins.leaving_told;
          knows = h.ins.knows;
          knows_next = h.ins.knows_next;
          knows_leaving = λ a o own.
              knows_high (in_seen s.leaving) (Acked s.leaving) came
              (acked_rises s.leaving.window received available) (h.ins.knows_leaving a o own);
        };
        outs = h.outs;
        over = h.over;
      }

      -- it is applied, or refused
      applied : (c : InChannel) (t : ClientRole)
          → (ack_verdict c.window received available ≡ Ok tt
          → Fits t (came ++ (leg, Packet ack) ∷ []) put)
          → Fits t came put → Row (Packet ack) (t, ack_row c received available)
      applied c t taken' refused = by (ack_verdict c.window received available) refl
        where
          by : (v : Result (Unit {0}) BadAck) → ack_verdict c.window received available ≡ v
              → Row (Packet ack) (t, ack_row_by v)
          by (Ok tt) e = taken' e
          by (Err bad) e = refused

      on_writing : is_named s.writing of ≡ true
          → Row (Packet ack) (
            record s { writing = acked s.writing received available },
            ack_row s.writing received available,
          )
      on_writing e =
          let is = named_is s.writing of e in
          let comes = h.ins.comes is.0 in
          applied s.writing (record s { writing = acked s.writing received available })
          (λ fine. heard_by Answers Rises Comes
          (seen (record s { writing = acked s.writing received available })) came put
          (leg, Packet ack) writing_high refl
          (λ a o own client same. acked_known s.writing.window received available fine)
          (λ a f own. never s.in_successor.cookie s.in_successor.window.edge
          (other s.writing.number s.writing.cookie (in_seen s.in_successor) comes is.1 own
          (λ same. let next = in_number f in omega (arith, same, next))))
          (λ a f own. never s.leaving.cookie s.leaving.window.edge
          (other s.writing.number s.writing.cookie (in_seen s.leaving) comes is.1 own
          (λ same. let below = (h.ins.before f).0 in omega (arith, same, below)))))
          writing_high

      on_in_successor : is_named s.writing of ≡ false → is_named s.in_successor of ≡ true
          → Row (Packet ack) (
            record s { in_successor = acked s.in_successor received available },
            ack_row s.in_successor received available,
          )
      on_in_successor not_writing e =
          let is = named_is s.in_successor of e in
          let comes = h.ins.next_comes is.0 in
          let next = h.ins.follows (h.ins.next_in is.0) in
          applied s.in_successor
          (record s { in_successor = acked s.in_successor received available })
          (λ fine. heard_by Answers Rises Comes
          (seen (record s { in_successor = acked s.in_successor received available })) came put
          (leg, Packet ack) in_successor_high refl
          (λ a o own. never s.writing.cookie s.writing.window.edge
          (unnamed s.writing not_writing (h.ins.up a o)))
          (λ a f own client same. acked_known s.in_successor.window received available fine)
          (λ a f own. never s.leaving.cookie s.leaving.window.edge
          (other s.in_successor.number s.in_successor.cookie (in_seen s.leaving) comes is.1 own
          (λ same. let below = (h.ins.before f).0 in omega (arith, same, below, next)))))
          in_successor_high

      on_leaving : is_named s.writing of ≡ false → is_named s.in_successor of ≡ false
          → Row (Packet ack) (
            record s { leaving = acked s.leaving received available },
            ack_row s.leaving received available,
          )
      on_leaving not_writing not_next =
          applied s.leaving (record s { leaving = acked s.leaving received available })
          (λ fine. heard_by Answers Rises Comes
          (seen (record s { leaving = acked s.leaving received available })) came put
          (leg, Packet ack) leaving_high refl
          (λ a o own. never s.writing.cookie s.writing.window.edge
          (unnamed s.writing not_writing (h.ins.up a o)))
          (λ a f own. never s.in_successor.cookie s.in_successor.window.edge
          (unnamed s.in_successor not_next (h.ins.next_up f)))
          (λ a f own client same. acked_known s.leaving.window received available fine))
          leaving_high

      on_none : is_named s.writing of ≡ false → is_named s.in_successor of ≡ false
          → is_named s.leaving of ≡ false → Fits s (came ++ (leg, Packet ack) ∷ []) put
      on_none not_writing not_next not_leaving =
          heard_by Answers Rises Comes (seen s) came put (leg, Packet ack) h refl
          (λ a o own. never s.writing.cookie s.writing.window.edge
          (unnamed s.writing not_writing (h.ins.up a o)))
          (λ a f own. never s.in_successor.cookie s.in_successor.window.edge
          (unnamed s.in_successor not_next (h.ins.next_up f)))
          (λ a f own. never s.leaving.cookie s.leaving.window.edge
          (unnamed s.leaving not_leaving f))

      ack_to_row : Row (Packet ack) (on_ack_to s to received available of)
      ack_to_row =
          by_test (Row (Packet ack)) (is_open s.phase && to == 0)
          (ack_named s received available of) (unexpected s)
          (λ e. by_test (Row (Packet ack)) (is_named s.writing of) _ _ (λ f. on_writing f)
          (λ f. by_test (Row (Packet ack)) (is_named s.in_successor of) _ _
          (λ g. on_in_successor f g)
          (λ g. by_test (Row (Packet ack)) (is_named s.leaving of) _ (taken s)
          (λ k. on_leaving f g) (λ k. on_none f g k))))
          (λ e. h)

    -- ---- the table

    table_row : (count : Count) (m : Named) → leg.kind ≡ ClientOut
        → OfPacket s leg m
        → Row (Packet m) (on_packet s leg.number count m)
    table_row count (named.ConnA3 t) out of_it =
        same_row (Packet (named.ConnA3 t)) (on_conn_a3 s leg.number count t) refl
        (λ cookie edge. tt) (same_conn_a3 s leg.number count t)
    table_row count (named.ConnC2 v w t) out of_it = c2_row v w t out of_it
    table_row count (named.AckTo to r a of) out of_it = ack_to_row to r a of
    table_row count (named.InR1A4 to v w t) out of_it =
        answer_if (named.InR1A4 to v w t) to w t refl refl (λ cookie edge. tt)
    table_row count (named.InR2A4 to) out of_it =
        answer_if (named.InR2A4 to) to s.writing.told s.writing.timeout refl refl
        (λ cookie edge. tt)
    table_row count (named.OutR1A2 to) out of_it =
        keep_row (Packet (named.OutR1A2 to)) (on_out_r1_a2 s leg.number to) refl
        (λ cookie edge. tt) (a2_row leg.number to)
    table_row count (named.OutR1A6 to v t) out of_it =
        keep_row (Packet (named.OutR1A6 to v t)) (on_out_r1_a6 s leg.number to t) refl
        (λ cookie edge. tt) (a6_row leg.number to t)
    table_row count named.OutR1A10 out of_it = a10_row leg.number s.replacement refl
    table_row count named.EndB2 out of_it =
        by_test (Row (Packet named.EndB2)) (is_open s.phase)
        (end_on s (end_channel s leg.number)) (unexpected s)
        (λ e. end_row (end_channel s leg.number) e) (λ e. h)
    table_row count m out of_it = h

  -- ---- by the kind of the leg

  pub pdu_fits : (s : ClientRole) (leg : Leg) (kind : LegKind) (bytes : List ℕ)
      (came put : List OnLeg) → Fits s came put
      → RowKeeps Fits (leg, Pdu bytes) came put (pdu_by s leg.number bytes kind)
  pdu_fits s leg ClientOut bytes came put h = pdu_row s leg came put h bytes
  pdu_fits s leg OutServer bytes came put h = h
  pdu_fits s leg ClientIn bytes came put h = h
  pdu_fits s leg InServer bytes came put h = h

  pub packet_fits : (s : ClientRole) (leg : Leg) (kind : LegKind) (count : Count) (m : Named)
      (came put : List OnLeg) → leg.kind ≡ kind → OfPacket s leg m
      → Fits s came put
      → RowKeeps Fits (leg, Packet m) came put (packet_by s leg.number count m kind)
  packet_fits s leg ClientOut count m came put e of_it h =
      by_test (RowKeeps Fits (leg, Packet m) came put)
      (is_current s leg.number || is_out_successor s leg.number)
      (on_packet s leg.number count m) (unexpected s)
      (λ f. table_row s leg came put h count m e of_it) (λ f. h)
  packet_fits s leg OutServer count m came put e of_it h = h
  packet_fits s leg ClientIn count m came put e of_it h = h
  packet_fits s leg InServer count m came put e of_it h = h
