-- the rows of a server: how far it is with its opening, and with its IN channels
use Rattle.law_order.proofs.Vocabulary.{◌≡◌, ℕ, ◌+◌, ◌≤◌, ◌==◌, ◌&&◌, ◌||◌, not, Bool, true, false, true≢false, List, [], ◌∷◌, ◌++◌, nat_lt, Some, None, arith, refl, rules, sym, ap, ◌∙◌, subst, false≢true, and_parts, not-true, not-false, or_parts, Option}
use Rattle.rh_sig.specs.declared.named.Named.TheVariants as named
use Rattle.rh_shell.specs.declared.answers.Refused.TheVariants as refused
use Rattle.rh_server.specs.declared.state.Stage.TheVariants as stage
use Rattle.rh_server.specs.declared.state.InStage.TheVariants as in_stage
use Rattle.rh_server.specs.declared.state.Leaving.TheVariants as leaving
use Rattle.rh_server.specs.declared.out_line.Kind.TheVariants as kind
use Rattle.law_moves.proofs.Vocabulary.{by_test, same_number, Cookie, Named, Line, after_end, after_finish, LegKind, ClientOut, OutServer, ClientIn, InServer, Which, Current, Next, Count, Packet, own, OnLeg, count_of}
use Rattle.law_moves.proofs.Lemmas.{RowKeeps}
use Rattle.law_role_server.proofs.Vocabulary.{Stage, InStage, InLeg, is_ack, waits, Server, is_open, is_fresh, is_waiting, same_cookie, in_leg, with_in, Done, took, refuse, unexpected, is_first, channel_at, on_ack_to, on_ack, on_ping_traffic, next_opened, moved_if, announced, in_r1_a2_by, in_r1_a2_at, on_in_r1_a2, has_fresh_below, leaves_by, hands_over, on_in_r1_a6, in_r2_a2_on, on_in_r2_a2, opens_leg, first_waiting, carries_next, on_out_r1_a4, on_out_r1_a8, is_over_on}
use Rattle.law_role_server.proofs.Vocabulary.{end_a2_on_leg, end_a2_waiting, end_a2_at, on_end_a2, packet_by, on_is, on_os, is_conn_a2, is_conn_b2, is_conn_c1, is_in_r1_a2, is_in_r1_a3, is_in_r2_a2, often, leg_at, waiting_of, how_many, since_open}
use Rattle.law_role_server.proofs.Counted.Dues.{push_waits, none_waits}
use Rattle.law_role_server.proofs.Counted.InLegs.{IsFoundAs, found, one_leg, many_joined}
use Rattle.law_role_server.proofs.Counted.Openings.{owes_b3, Opening, opening_came}
use Rattle.law_role_server.proofs.Counted.Announcing.{Look, look, Placed, Answering, Ready, a3_kind, line_keeps, finishes_on, next_opens}
use Rattle.law_role_server.proofs.Counted.Announced.{carried_keeps, announced_waits, announced_ready}
use Rattle.law_role_server.proofs.Counted.Adding.{of_out, next_adds, moved_adds, ack_to_adds, out_r1_a4_adds, out_r1_a8_adds}
use Rattle.law_role_server.proofs.Counted.Connecting.{seen, Holds, same_holds, row_keeps, Keeps, ack_alone, out_alone, alike, added_keeps, has_number, IsLeg, its_number, set_legs, owes_joined, leg_keeps, opening_opens, next_owes, moved_owes, a3_alone, is_placed}
use Rattle.law_role_server.proofs.Counted.OpeningRows.{conn_a2_row, conn_b2_row}

-- ---- IN_R1/A2

next_stage : (s : Server) → (next_opened s).stage ≡ s.stage
next_stage s = search rules

announced_row : (s : Server) (known : Cookie) (n : ℕ) (leg : InLeg) (successor : Cookie)
    (window timeout : ℕ) (m : Named) (came put : List OnLeg) → s.stage ≡ stage.Open known
    → IsLeg s n leg → is_fresh leg.stage ≡ true → has_fresh_below n s.ins ≡ false
    → often is_conn_a2 OutServer ((leg_at InServer n, Packet m) ∷ []) ≡ 0
    → often is_conn_b2 InServer ((leg_at InServer n, Packet m) ∷ []) ≡ 0
    → count_of is_in_r1_a2 (Packet m ∷ []) ≡ 1 → count_of is_in_r2_a2 (Packet m ∷ []) ≡ 0
    → Holds s came put
    → Holds (announced s leg successor window timeout)
    (came ++ (leg_at InServer n, Packet m) ∷ []) put
announced_row s known n leg successor window timeout m came put at f fresh below no_a2 no_b2 is1
    is2 h = record {
      opening =
          subst (λ (z : Stage). Opening z t.waiting.due t.ins new put) (sym (next_stage v ∙ at))
          (opening_came (stage.Open known) (stage.Open known) s.waiting.due t.waiting.due s.ins
          t.ins came put (leg_at InServer n, Packet m) (record {
            conn_a2 = omega (arith, no_a2);
            conn_b2 = omega (arith, no_b2);
            conn_c1 =
                let same = (next_adds v).counts is_conn_c1 a3_alone in omega (arith, same);
            conn_b3 = omega (arith, owes);
            opens = omega arith;
            in_r1_a2 = λ e. absurd (omega (arith, e));
            in_r2_a2 = λ e. absurd (omega (arith, e));
          })
          (subst (λ (z : Stage). Opening z s.waiting.due s.ins came put) at h.opening));
      answering = by s.line.has_next refl;
    }
  where
    y : InLeg
    y = record leg { cookie = successor; stage = in_stage.Waits window timeout false }

    v : Server
    v =
        with_in (record s { newest = record { leg = leg.number; cookie = successor } })
        (record leg { cookie = successor; stage = in_stage.Waits window timeout false })

    t : Server
    t = announced s leg successor window timeout

    new : List OnLeg
    new = came ++ (leg_at InServer n, Packet m) ∷ []

    legs : v.ins ≡ f.before ++ y ∷ f.behind
    legs = set_legs s n leg y f refl

    owes : how_many owes_b3 t.ins ≤ how_many owes_b3 s.ins
    owes =
        let was = owes_joined s n leg f in
        let are = ap (how_many owes_b3) legs ∙ many_joined owes_b3 y f.before f.behind in
        let less = next_owes v in
        let same : one_leg owes_b3 y ≡ one_leg owes_b3 leg = refl in
        omega (arith, was, are, less, same)

    number : leg.number ≡ n
    number = its_number s n leg f

    no_fresh : has_fresh_below leg.number s.ins ≡ false
    no_fresh = subst (λ (k : ℕ). has_fresh_below k s.ins ≡ false) (sym number) below

    waits_so : s.line.has_next ≡ true
        → Answering (record (look s) { ins = f.before ++ y ∷ f.behind })
        (came ++ (leg_at InServer leg.number, Packet m) ∷ []) put
    waits_so =
        announced_waits (look s) leg y f.before f.behind (Packet m) came put f.joined refl refl
        fresh refl refl no_fresh is1 is2 h.answering

    ready_so : s.line.has_next ≡ false
        → Ready (record (look s) { ins = f.before ++ y ∷ f.behind })
        (came ++ (leg_at InServer leg.number, Packet m) ∷ []) put
    ready_so =
        announced_ready (look s) leg y f.before f.behind (Packet m) came put f.joined refl refl
        fresh refl refl no_fresh is1 is2 h.answering

    by : (b : Bool) → s.line.has_next ≡ b → Answering (look t) new put
    by true e =
        by_test (λ (w : Server). Answering (look w) new put)
        (v.line.has_next || waits kind.InR1A3 v.waiting) v (opens_leg v (first_waiting v.ins))
        (λ g. subst (λ (k : ℕ). Answering (look v) (came ++ (leg_at InServer k, Packet m) ∷ []) put)
        number
        (subst (λ (xs : List InLeg). Answering (record (look s) { ins = xs })
        (came ++ (leg_at InServer leg.number, Packet m) ∷ []) put) (sym legs) (waits_so e)))
        (λ g. absurd (true≢false (sym e ∙ (or_parts v.line.has_next _ g).0)))
    by false e =
        next_opens v new put
        (subst (λ (k : ℕ). Ready (look v) (came ++ (leg_at InServer k, Packet m) ∷ []) put) number
        (subst (λ (xs : List InLeg). Ready (record (look s) { ins = xs })
        (came ++ (leg_at InServer leg.number, Packet m) ∷ []) put) (sym legs) (ready_so e)))

in_r1_a2_row : (s : Server) (n : ℕ) (count : Count) (v : ℕ) (a b c : Cookie) (d e : ℕ)
    (came put : List OnLeg) → Holds s came put
    → RowKeeps Holds (leg_at InServer n, Packet (named.InR1A2 v a b c d e)) came put
    (on_in_r1_a2 s n count a b c d e)
in_r1_a2_row s n count v a b c d e came put h =
    by_test Row (is_first count && not (has_fresh_below n s.ins))
    (in_r1_a2_at s s.stage n a b c d e) (unexpected s)
    (λ f. by_stage (not-true (has_fresh_below n s.ins) (and_parts (is_first count) _ f).1) s.stage
    refl)
    (λ f. h)
  where
    Row : Done → Type 0
    Row x = RowKeeps Holds (leg_at InServer n, Packet (named.InR1A2 v a b c d e)) came put x

    by_leg : has_fresh_below n s.ins ≡ false → (known : Cookie) → s.stage ≡ stage.Open known
        → (o : Option InLeg) → IsFoundAs (has_number n) s.ins o
        → Row (in_r1_a2_by s known a b c d e o)
    by_leg below known at None none = h
    by_leg below known at (Some leg) f =
        by_test Row (not (is_fresh leg.stage)) (unexpected s) _ (λ g. h)
        (λ g. by_test Row (not (same_cookie known a)) (refuse s (refused.Cookie known a)) _
        (λ i. h)
        (λ i. by_test Row (not (same_cookie s.newest.cookie b))
        (refuse s (refused.Cookie s.newest.cookie b)) (took (announced s leg c d e)) (λ j. h)
        (λ j. announced_row s known n leg c d e (named.InR1A2 v a b c d e) came put at f
        (not-false (is_fresh leg.stage) g) below refl refl refl refl h)))

    by_stage : has_fresh_below n s.ins ≡ false → (at : Stage) → s.stage ≡ at
        → Row (in_r1_a2_at s at n a b c d e)
    by_stage below (stage.Open known) at =
        by_leg below known at (in_leg n s.ins) (found (has_number n) s.ins)
    by_stage below stage.Waits at = h
    by_stage below (stage.OutCame known) at = h
    by_stage below (stage.InCame known window timeout) at = h
    by_stage below stage.Ended at = h

-- ---- IN_R1/A6

moved_stage : (had_next : Bool) (s : Server) → (moved_if had_next s).stage ≡ s.stage
moved_stage had_next s = search rules

finish_keeps : (s : Server) (line : Line) → line.has_next ≡ s.line.has_next
    → s.line.has_next ≡ true → waiting_of is_in_r1_a3 s.waiting.due ≡ 0
    → Keeps s (moved_if true (record s { line = after_finish line }))
finish_keeps s line same more none came put h =
    let t : Server = record s { line = after_finish line } in record {
      opening = opening_opens s (moved_if true t) came put (moved_stage true t) (moved_adds true t)
          (moved_owes true t) h.opening;
      answering = line_keeps true s (after_finish line) came put more
          (finishes_on s line same more none) h.answering;
    }

hands_keeps : (s : Server) (n : ℕ) → n ≡ s.current.leg → s.line.has_next ≡ true
    → waiting_of is_in_r1_a3 s.waiting.due ≡ 0 → Keeps s (hands_over s n)
hands_keeps s n current more none came put h =
    by (in_leg n s.ins) (found (has_number n) s.ins)
  where
    by : (o : Option InLeg) → IsFoundAs (has_number n) s.ins o
        → Holds (moved_if true (record (leaves_by s o) { line = after_finish s.line })) came put
    by None f = finish_keeps s s.line refl more none came put h
    by (Some leg) f =
        finish_keeps (with_in s y) s.line refl more none came put
        (leg_keeps s n leg y came put f (record {
          number = refl;
          fresh = λ e. e;
          waits = refl;
          placed = record {
            fresh = λ e.
                let above = (is.fresh e).1 more in
                absurd (omega (arith, above, top, number, current));
            waits = λ e.
                let above = (is.waits e).1 in
                absurd (omega (arith, above, top, number, current));
          };
        }) (omega arith) h)
      where
        y : InLeg
        y = record leg { leaving = leaving.InR1B1 }

        is : Placed s.line.has_next s.current.leg s.next.leg came leg
        is = is_placed s n leg came put f h.answering

        top : s.current.leg ≤ s.next.leg
        top = (h.answering.behind more).0

        number : leg.number ≡ n
        number = its_number s n leg f

in_r1_a6_keeps : (s : Server) (n : ℕ) (successor : Cookie)
    → Keeps s (on_in_r1_a6 s n successor).0
in_r1_a6_keeps s n successor came put h =
    by_test Row ((n == s.current.leg)
    && (not s.line.finished && (s.line.has_next && not (waits kind.InR1A3 s.waiting)))) _
    (unexpected s)
    (λ e.
    let one = and_parts (n == s.current.leg) _ e in
    let two = (and_parts (not s.line.finished) _ one.1).1 in
    let three = and_parts s.line.has_next _ two in
    by_test Row (same_cookie s.next.cookie successor) (took (hands_over s n))
    (refuse s (refused.Cookie s.next.cookie successor))
    (λ f. hands_keeps s n (same_number n s.current.leg one.0) three.0
    (none_waits kind.InR1A3 is_in_r1_a3 a3_kind s.waiting.due h.answering.origins
    (not-true (waits kind.InR1A3 s.waiting) three.1)) came put h)
    (λ f. h))
    (λ e. h)
  where
    Row : Done → Type 0
    Row x = Holds x.0 came put

-- ---- IN_R2/A2

in_r2_a2_row : (s : Server) (n : ℕ) (count : Count) (successor : Cookie) (came put : List OnLeg)
    → Holds s came put
    → RowKeeps Holds (leg_at InServer n, Packet (named.InR2A2 successor)) came put
    (on_in_r2_a2 s n count successor)
in_r2_a2_row s n count successor came put h =
    by_test Row (not (is_first count) && (is_open s.stage
    && (not (waits kind.InR2A3 s.waiting) && nat_lt s.newest_in 4294967295)))
    (in_r2_a2_on s n successor (channel_at s n)) (unexpected s)
    (λ e. by (opened s.stage (and_parts (is_open s.stage) _
    (and_parts (not (is_first count)) _ e).1).0) (channel_at s n))
    (λ e. h)
  where
    Row : Done → Type 0
    Row x = RowKeeps Holds (leg_at InServer n, Packet (named.InR2A2 successor)) came put x

    opened : (at : Stage) → is_open at ≡ true → since_open at ≡ 1
    opened (stage.Open known) e = refl
    opened stage.Waits e = absurd (false≢true e)
    opened (stage.OutCame known) e = absurd (false≢true e)
    opened (stage.InCame known window timeout) e = absurd (false≢true e)
    opened stage.Ended e = absurd (false≢true e)

    one : OnLeg
    one = (leg_at InServer n, Packet (named.InR2A2 successor))

    carried : since_open s.stage ≡ 1 → (t : Server) → t.stage ≡ s.stage
        → look t ≡ record (look s) {
          dues = s.waiting.due ++ own (named.InR2A3 0) ∷ [];
          newest = s.newest_in + 1;
        }
        → Holds t (came ++ (leg_at InServer n, Packet (named.InR2A2 successor)) ∷ []) put
    carried is t at same = record {
      opening =
          subst (λ (z : Stage). Opening z t.waiting.due t.ins new put) (sym at)
          (subst (λ (x : Look). Opening s.stage x.dues x.ins new put) (sym same)
          (opening_came s.stage s.stage s.waiting.due
          (s.waiting.due ++ own (named.InR2A3 0) ∷ []) s.ins s.ins came put one (record {
            conn_a2 = omega arith;
            conn_b2 = omega arith;
            conn_c1 = omega (arith, more);
            conn_b3 = omega arith;
            opens = omega arith;
            in_r1_a2 = λ e. refl;
            in_r2_a2 = λ e. absurd (omega (arith, e, is));
          }) h.opening));
      answering = subst (λ (x : Look). Answering x new put) (sym same)
          (carried_keeps (look s) n successor came put h.answering);
    }
      where
        new : List OnLeg
        new = came ++ (leg_at InServer n, Packet (named.InR2A2 successor)) ∷ []

        more : waiting_of is_conn_c1 (s.waiting.due ++ own (named.InR2A3 0) ∷ [])
            ≡ waiting_of is_conn_c1 s.waiting.due + 0
        more = push_waits is_conn_c1 s.waiting.due (own (named.InR2A3 0))

    by : since_open s.stage ≡ 1 → (o : Option Which) → Row (in_r2_a2_on s n successor o)
    by is None = h
    by is (Some Current) = carried is (carries_next s n successor Current) refl refl
    by is (Some Next) = carried is (carries_next s n successor Next) refl refl

-- ---- END/A2

end_a2_keeps : (s : Server) (n : ℕ) (count : Count) → Keeps s (on_end_a2 s n count).0
end_a2_keeps s n count came put h =
    by_test Row (is_first count) (unexpected s) (end_a2_at s n (channel_at s n)) (λ e. h)
    (λ e. by (channel_at s n))
  where
    Row : Done → Type 0
    Row x = Holds x.0 came put

    line : (which : Which)
        → seen (record s { line = after_end s.line which }) ≡ seen s
    line Current = refl
    line Next = refl

    by_leg : (leg : InLeg) (at : InStage) → leg.stage ≡ at → IsLeg s n leg
        → Row (end_a2_on_leg s leg at)
    by_leg leg in_stage.Fresh is f = h
    by_leg leg in_stage.Opened is f = h
    by_leg leg (in_stage.Waits window timeout ended) is f =
        by_test Row ended (unexpected s) _ (λ e. h)
        (λ e. leg_keeps s n leg (record leg { stage = in_stage.Waits window timeout true }) came put
        f (record {
          number = refl;
          fresh = λ g. absurd (false≢true g);
          waits = sym (ap is_waiting is);
          placed = record {
            fresh = λ g. absurd (false≢true g);
            waits = λ g. (is_placed s n leg came put f h.answering).waits (ap is_waiting is);
          };
        }) (omega arith) h)

    by_found : (o : Option InLeg) → IsFoundAs (has_number n) s.ins o → Row (end_a2_waiting s o)
    by_found None f = h
    by_found (Some leg) f = by_leg leg leg.stage refl f

    by : (o : Option Which) → Row (end_a2_at s n o)
    by None = by_found (in_leg n s.ins) (found (has_number n) s.ins)
    by (Some which) =
        by_test Row (is_over_on s which) (unexpected s) _ (λ e. h)
        (λ e. same_holds s (record s { line = after_end s.line which }) came put (line which) h)

-- ---- all packets

is_row : (s : Server) (n : ℕ) (count : Count) (m : Named) (came put : List OnLeg)
    → Holds s came put
    → RowKeeps Holds (leg_at InServer n, Packet m) came put (on_is s n count m)
is_row s n count (named.ConnB2 v a b c d e f g) came put h =
    conn_b2_row s n count v a b c d (named.ConnB2 v a b c d e f g) came put h refl refl refl refl
is_row s n count (named.InR1A2 v a b c d e) came put h =
    in_r1_a2_row s n count v a b c d e came put h
is_row s n count (named.InR1A6 a) came put h =
    row_keeps s (leg_at InServer n, Packet (named.InR1A6 a)) came put (refl, refl, refl, refl)
    (on_in_r1_a6 s n a) (in_r1_a6_keeps s n a) h
is_row s n count (named.InR2A2 a) came put h = in_r2_a2_row s n count a came put h
is_row s n count (named.AckTo a b c d) came put h =
    row_keeps s (leg_at InServer n, Packet (named.AckTo a b c d)) came put
    (refl, refl, refl, refl) (on_ack_to s count a b c d)
    (added_keeps is_ack ack_alone s (on_ack_to s count a b c d).0 (search rules)
    (alike s.stage (on_ack_to s count a b c d).0.stage (search rules))
    (ack_to_adds s count a b c d)) h
is_row s n count (named.OutR1A8 a b) came put h =
    row_keeps s (leg_at InServer n, Packet (named.OutR1A8 a b)) came put (refl, refl, refl, refl)
    (on_out_r1_a8 s count a b)
    (added_keeps of_out out_alone s (on_out_r1_a8 s count a b).0 (search rules)
    (alike s.stage (on_out_r1_a8 s count a b).0.stage (search rules))
    (out_r1_a8_adds s count a b)) h
is_row s n count named.EndA2 came put h =
    row_keeps s (leg_at InServer n, Packet named.EndA2) came put (refl, refl, refl, refl)
    (on_end_a2 s n count) (end_a2_keeps s n count) h
is_row s n count m came put h = h

os_row : (s : Server) (n : ℕ) (count : Count) (m : Named) (came put : List OnLeg)
    → Holds s came put
    → RowKeeps Holds (leg_at OutServer n, Packet m) came put (on_os s n count m)
os_row s n count (named.ConnA2 v a b c d) came put h =
    conn_a2_row s n count v a b c d came put h
os_row s n count (named.OutR1A4 v a b c d e f) came put h =
    row_keeps s (leg_at OutServer n, Packet (named.OutR1A4 v a b c d e f)) came put
    (refl, refl, refl, refl) (on_out_r1_a4 s n count a b c d e f)
    (added_keeps of_out out_alone s (on_out_r1_a4 s n count a b c d e f).0 (search rules)
    (alike s.stage (on_out_r1_a4 s n count a b c d e f).0.stage (search rules))
    (out_r1_a4_adds s n count a b c d e f)) h
os_row s n count (named.Ack a b c) came put h =
    row_keeps s (leg_at OutServer n, Packet (named.Ack a b c)) came put (refl, refl, refl, refl)
    (on_ack s n count a b c)
    (λ came put. same_holds s (on_ack s n count a b c).0 came put (search rules)) h
os_row s n count (named.PingTraffic a) came put h =
    row_keeps s (leg_at OutServer n, Packet (named.PingTraffic a)) came put
    (refl, refl, refl, refl) (on_ping_traffic s count)
    (λ came put. same_holds s (on_ping_traffic s count).0 came put (search rules)) h
os_row s n count m came put h = h

pub packet_row : (s : Server) (n : ℕ) (count : Count) (m : Named) (k : LegKind)
    (came put : List OnLeg) → Holds s came put
    → RowKeeps Holds (leg_at k n, Packet m) came put (packet_by s n count m k)
packet_row s n count m InServer came put h = is_row s n count m came put h
packet_row s n count m OutServer came put h = os_row s n count m came put h
packet_row s n count m ClientIn came put h = h
packet_row s n count m ClientOut came put h = h
