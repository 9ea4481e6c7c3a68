-- what a server takes keeps what it knows of its is legs
use Rattle.law_order.proofs.Vocabulary.{◌≡◌, ℕ, ◌+◌, ◌≤◌, ◌<◌, ◌==◌, nat_lt, ◌&&◌, cond, Bool, true, false, true≢false, not, if◌then◌else◌, List, [], ◌∷◌, ◌++◌, is_ok, Some, None, Ok, Err, arith, refl, rules, sym, ap, ◌∙◌, subst, false≢true, and_parts, not-false, nat_tests, IfSome, Option, Result}
use Rattle.rh_sig.specs.declared.named.Named.TheVariants as named
use Rattle.rh_line.specs.declared.line_fault.LineFault.TheVariants as line_fault
use Rattle.rh_shell.specs.declared.answers.Refused.TheVariants as refused
use Rattle.rh_server.specs.declared.state.Newest.{Newest}
use Rattle.rh_server.specs.Servers.{pdu_by}
use Rattle.rh_server.specs.declared.state.InStage.TheVariants as in_stage
use Rattle.rh_server.specs.declared.state.Leaving.TheVariants as leaving
use Rattle.rh_server.specs.declared.state.Stage.TheVariants as stage
use Rattle.rh_server.specs.declared.out_line.Kind.TheVariants as kinds
use Rattle.law_moves.proofs.Vocabulary.{by_test, other_number, same_number, test_same, Cookie, Named, Incoming, admit_verdict, admitted, after_end, after_finish, channel_verdict, Leg, LegKind, ClientOut, OutServer, ClientIn, InServer, LineFault, Which, Current, Next, Count, Message, Pdu, Packet, Waiting, forwarded, takes, count_of, OnLeg}
use Rattle.law_moves.proofs.Lemmas.{RowKeeps}
use Rattle.law_role_server.proofs.Vocabulary.{InLeg, InStage, Stage, has, waits, Server, is_fresh, is_open, is_waiting, same_cookie, in_leg, in_place, Done, took, refuse, unexpected, is_first, opens, with_first_in, first_in, with_first_out, conn_a2_at, on_conn_a2, conn_b2_at, on_conn_b2, admitted_by, admitted_on, channel_at, channel_leg, forward_by, forwards, forwards_to, forwards_writing, is_full, on_ack_to, out_server, announced, has_fresh_below, newest_by, in_r1_a2_by}
use Rattle.law_role_server.proofs.Vocabulary.{in_r1_a2_at, on_in_r1_a2, leaves_by, leaves, hands_over, moved_if, on_in_r1_a6, in_r2_a2_on, on_in_r2_a2, end_a2_on_leg, end_a2_waiting, is_over_on, end_a2_at, on_end_a2, on_is, on_os, packet_by, is_conn_b2, is_end_a2, is_in_r1_a2, is_in_r1_a6, leg_at, often_at}
use Rattle.law_role_server.proofs.Numbered.{absent_at}
use Rattle.law_role_server.proofs.TakesRows.{on_next}
use Rattle.law_role_server.proofs.TakesKept.{has_begun as is_begun}
use Rattle.law_role_server_rows.proofs.InTurn.InPlaces.{Found, found_at}
use Rattle.law_role_server_rows.proofs.Putting.Each.{number_found}
use Rattle.law_role_server_rows.proofs.InTurn.InKept.{is_opened, number_of}
use Rattle.law_role_server_in.proofs.Tallies.{Grows, Still, Tally, began, carried_came, carried_names, carried_other, named_at, named_own, now_often, other_came, quiet_came, tally}
use Rattle.law_role_server_in.proofs.Kept.{Kept, Look, Top, kept_more, leg_at_place, look, newer_kept, renamed_kept, set_kept, so_top, top_kept, top_of}
use Rattle.law_role_server_in.proofs.Rows.{Fine, announces, first_fine, leg_same, same_fine, settles}
use Rattle.law_role_server_in.specs.Refusing.{named_by, successor_by}

-- ---- which channel it is

at_current : (a f h b : Bool)
    → (cond (a && not f) (Some Current) (cond (h && b) (Some Next) None)) ≡ Some Current
    → a ≡ true
at_current true false h b e = refl
at_current true true true true e = absurd (cc)
at_current true true true false e = absurd (cc)
at_current true true false b e = absurd (cc)
at_current false f true true e = absurd (cc)
at_current false f true false e = absurd (cc)
at_current false f false b e = absurd (cc)

pub on_current : (s : Server) (m : ℕ) → channel_at s m ≡ Some Current → m ≡ s.current.leg
on_current s m e =
    same_number m s.current.leg
    (at_current (m == s.current.leg) s.line.finished s.line.has_next (m == s.next.leg) e)

-- ---- rows that leave it alone

abbrev pub look_at : Bool → Server → Look
look_at begun s =
    record { top = record (top_of s) { begun = begun }; newest = s.newest_in; ins = s.ins }

pub out_look : (s : Server) (begun : Bool) (b : Cookie) (c d : ℕ)
    → look_at begun (with_first_out s b c d) ≡ look_at begun s
out_look s begun b c d = search rules

forward_same : (s : Server) (m : ℕ) (x : Waiting × Bool) → look (forward_by s m x).0 ≡ look s
forward_same s m (w, true) = refl
forward_same s m (w, false) = refl

writing_same : (s : Server) (packet : Named) → look (forwards_writing s packet).0 ≡ look s
writing_same s packet =
    by_test (λ (x : Done). look x.0 ≡ look s) (is_full s && not (has (takes packet) s.waiting))
    (refuse s (refused.Full (out_server s.writing))) (forwards s s.writing packet) (λ e. refl)
    (λ e. forward_same s s.writing (forwarded s.waiting packet))

to_same : (s : Server) (packet : Named) (o : Option ℕ) → look (forwards_to s packet o).0 ≡ look s
to_same s packet None = refl
to_same s packet (Some number) =
    by_test (λ (x : Done). look x.0 ≡ look s) (number == s.writing) (forwards_writing s packet)
    (forwards s number packet) (λ e. writing_same s packet)
    (λ e. forward_same s number (forwarded s.waiting packet))

pub ack_to_same : (s : Server) (count : Count) (a b c : ℕ) (d : Cookie)
    → look (on_ack_to s count a b c d).0 ≡ look s
ack_to_same s count a b c d =
    by_test Same (is_first count) (unexpected s) _ (λ e. refl)
    (λ e. by_test Same (a == 0) (forwards_writing s (named.AckTo 0 b c d)) _
    (λ f. writing_same s (named.AckTo 0 b c d))
    (λ f. by_test Same (a == 3)
    (forwards_to s (named.AckTo 3 b c d) (channel_leg d s.outs)) (unexpected s)
    (λ g. to_same s (named.AckTo 3 b c d) (channel_leg d s.outs)) (λ g. refl)))
  where
    Same : Done → Type 0
    Same x = look x.0 ≡ look s

admitted_ended : (c : Incoming) (pdu : List ℕ) → (admitted c pdu).ended ≡ c.ended
admitted_ended c pdu =
    by_test (λ (x : Incoming). x.ended ≡ c.ended) (is_ok (channel_verdict c pdu)) _ c
    (λ e. refl) (λ e. refl)

admit_same : (s : Server) (which : Which) (pdu : List ℕ) (v : Result (Unit {0}) LineFault)
    → look (admitted_by s which pdu v).0 ≡ look s
admit_same s Current pdu (Ok admits) =
    ap (λ (b : Bool). record (look s) { top = record (top_of s) { now_ended = b } })
    (admitted_ended s.line.current pdu)
admit_same s Next pdu (Ok admits) =
    ap (λ (b : Bool). record (look s) { top = record (top_of s) { next_ended = b } })
    (admitted_ended s.line.next pdu)
admit_same s which pdu (Err (line_fault.Window exceeded)) = refl
admit_same s which pdu (Err line_fault.Over) = refl

pub pdu_same : (s : Server) (m : ℕ) (bytes : List ℕ) (k : LegKind)
    → look (pdu_by s m bytes k).0 ≡ look s
pdu_same s m bytes InServer =
    by_test (λ (x : Done). look x.0 ≡ look s) (is_open s.stage)
    (admitted_on s bytes (channel_at s m)) (unexpected s) (λ e. by (channel_at s m)) (λ e. refl)
  where
    by : (o : Option Which) → look (admitted_on s bytes o).0 ≡ look s
    by None = refl
    by (Some which) = admit_same s which bytes (admit_verdict s.line which bytes)
pdu_same s m bytes OutServer = refl
pdu_same s m bytes ClientIn = refl
pdu_same s m bytes ClientOut = refl

-- it announces no channel
record IsQuiet (m : Message) : Type 0 where
  conn_b2 : count_of is_conn_b2 (m ∷ []) ≡ 0
  in_r1_a2 : count_of is_in_r1_a2 (m ∷ []) ≡ 0
  names : Still named_by m
  succeeds : Still successor_by m

-- a leg that is kept
abbrev pub IsKept : Option InLeg → Type 0
IsKept None = ⊥
IsKept (Some leg) = Unit {0}

module _ (n : ℕ) where
  abbrev pub Holds : Server → List OnLeg → List OnLeg → Type 0
  Holds s came put = Fine n s (tally n came put)

  grows_fine : (s : Server) (c d : Tally) → Grows c d → Fine n s c → Fine n s d
  grows_fine s c d g h = kept_more n (top_of s) s.newest_in s.ins c d g h

  row_same : (s : Server) (leg : Leg) (m : Message) (came put : List OnLeg) (x : Done)
      → look x.0 ≡ look s → IsQuiet m → Holds s came put → RowKeeps Holds (leg, m) came put x
  row_same s leg m came put (t, Ok taken) same q h =
      same_fine n s t (tally n (came ++ (leg, m) ∷ []) put) same
      (grows_fine s (tally n came put) (tally n (came ++ (leg, m) ∷ []) put)
      (quiet_came n came put leg m q.conn_b2 q.in_r1_a2 q.names q.succeeds) h)
  row_same s leg m came put (t, Err why) same q h =
      same_fine n s t (tally n came put) same h

  -- ---- CONN/B2

  conn_b2_row : (s : Server) (m : ℕ) (count : Count) (a b : Cookie) (c d : ℕ)
      (packet : Named) (came put : List OnLeg)
      → count_of is_conn_b2 (Packet packet ∷ []) + count_of is_in_r1_a2 (Packet packet ∷ []) ≡ 1
      → ((before : Option Cookie) → named_by packet before ≡ Some b)
      → IsKept (in_leg m s.ins) → Holds s came put
      → RowKeeps Holds (leg_at InServer m, Packet packet) came put (on_conn_b2 s m count a b c d)
  conn_b2_row s m count a b c d packet came put counts names kept h =
      by_test (RowOn m) (is_first count && ((m == 1) && not (waits kinds.ConnC1 s.waiting)))
      (conn_b2_at s s.stage a b c d) (unexpected s)
      (λ t.
      let one = same_number m 1 (and_parts (m == 1) _ (and_parts (is_first count) _ t).1).0 in
      subst (λ (k : ℕ). RowOn k (conn_b2_at s s.stage a b c d)) (sym one)
      (by s.stage refl (subst (λ (k : ℕ). IsKept (in_leg k s.ins)) one kept)))
      (λ t. h)
    where
      RowOn : ℕ → Done → Type 0
      RowOn k x = RowKeeps Holds (leg_at InServer k, Packet packet) came put x

      more : List OnLeg
      more = came ++ (leg_at InServer 1, Packet packet) ∷ []

      on_leg : (new : Stage) → is_begun s.stage ≡ false → is_begun new ≡ true
          → (o : Option InLeg) → IsKept o → IfSome o (Found s.ins)
          → IfSome o (λ (leg : InLeg). leg.number ≡ 1)
          → Holds (record (first_in s b o) { stage = new }) more put
      on_leg new early begun None kept f number = absurd kept
      on_leg new early begun (Some leg) kept f number =
          first_fine n s new b leg (tally n came put) (tally n more put) f number early begun h
          (λ is. began n 1 packet b came put counts names is)
          (λ apart. other_came n 1 came put (Packet packet) apart)

      opened : (new : Stage) → is_begun s.stage ≡ false → is_begun new ≡ true
          → IsKept (in_leg 1 s.ins) → Holds (record (with_first_in s b) { stage = new }) more put
      opened new early begun kept =
          on_leg new early begun (in_leg 1 s.ins) kept (found_at s.ins (in_place 1 s.ins))
          (number_found 1 s.ins (in_place 1 s.ins) refl)

      by : (x : Stage) → s.stage ≡ x → IsKept (in_leg 1 s.ins)
          → RowOn 1 (conn_b2_at s x a b c d)
      by stage.Waits at kept = opened (stage.InCame a c d) (ap is_begun at) refl kept
      by (stage.OutCame known) at kept =
          by_test (RowOn 1) (same_cookie known a) (took (opens (with_first_in s b) known c d)) _
          (λ e. opened (stage.Open known) (ap is_begun at) refl kept)
          (λ e. h)
      by (stage.InCame known window timeout) at kept = h
      by (stage.Open known) at kept = h
      by stage.Ended at kept = h

  -- ---- IN_R1/A2

  in_r1_a2_row : (s : Server) (m : ℕ) (count : Count) (a b c : Cookie) (d e : ℕ)
      (packet : Named) (came put : List OnLeg) → is_in_r1_a2 packet ≡ true
      → count_of is_conn_b2 (Packet packet ∷ []) + count_of is_in_r1_a2 (Packet packet ∷ []) ≡ 1
      → ((before : Option Cookie) → named_by packet before ≡ Some c)
      → ((before : Option Cookie) → successor_by packet before ≡ Some c)
      → ((k : ℕ) → Fine k s (tally k came put))
      → RowKeeps Holds (leg_at InServer m, Packet packet) came put
      (on_in_r1_a2 s m count a b c d e)
  in_r1_a2_row s m count a b c d e packet came put passes counts names succeeds all =
      by_test Row (is_first count && not (has_fresh_below m s.ins))
      (in_r1_a2_at s s.stage m a b c d e) (unexpected s)
      (λ t. by (not_true (has_fresh_below m s.ins) (and_parts (is_first count) _ t).1)
      s.stage refl)
      (λ t. all n)
    where
      one : OnLeg
      one = (leg_at InServer m, Packet packet)

      more : List OnLeg
      more = came ++ one ∷ []

      Row : Done → Type 0
      Row x = RowKeeps Holds one came put x

      came_now : 1 ≤ often_at is_in_r1_a2 InServer m more
      came_now = now_often is_in_r1_a2 m packet came passes

      not_true : (t : Bool) → not t ≡ true → t ≡ false
      not_true true t = absurd (false≢true t)
      not_true false t = refl

      announces_on : (known : Cookie) → s.stage ≡ stage.Open known → (leg : InLeg)
          → Found s.ins leg → leg.number ≡ m → is_fresh leg.stage ≡ true
          → has_fresh_below m s.ins ≡ false → Fine n (announced s leg c d e) (tally n more put)
      announces_on known at leg f number fresh below =
          announces n s leg c d e (tally n came put) (tally n more put) f fresh (ap is_begun at)
          (within leg f) (higher leg f fresh (ap is_begun at))
          (ap (λ (k : ℕ). has_fresh_below k s.ins) number ∙ below) (all n)
          (λ is. (
            began n m packet c came put counts names (is ∙ number),
            subst (λ (k : ℕ). 1 ≤ often_at is_in_r1_a2 InServer k more) (sym (is ∙ number))
                came_now,
            subst (λ (k : ℕ). named_at successor_by k more ≡ Some c) (sym (is ∙ number))
                (named_own successor_by m came packet ∙ succeeds (named_at successor_by m came)),
          ))
          (λ apart. other_came n m came put (Packet packet) (λ is. apart (is ∙ sym number)))
        where
          within : (leg : InLeg) → Found s.ins leg → leg.number ≤ s.newest_in
          within leg f = by (nat_lt s.newest_in leg.number) refl
            where
              less : (x y : ℕ) → nat_lt x y ≡ true → x < y
              less x y t = grind (arith, nat_tests, t)

              most : (x y : ℕ) → nat_lt x y ≡ false → y ≤ x
              most x y t = grind (arith, nat_tests, t)

              by : (t : Bool) → nat_lt s.newest_in leg.number ≡ t → leg.number ≤ s.newest_in
              by true t =
                  let u = (all leg.number).unborn (less s.newest_in leg.number t) in
                  absurd (true≢false (sym (test_same leg.number)
                  ∙ absent_at number_of leg.number s.ins f.place leg f.at u.absent))
              by false t = most s.newest_in leg.number t

          higher : (leg : InLeg) → Found s.ins leg → is_fresh leg.stage ≡ true
              → is_begun s.stage ≡ true → s.newest.leg < leg.number
          higher leg f fresh begun =
              (leg_at_place leg.number (top_of s) s.newest_in s.ins
              (tally leg.number came put) leg f refl (all leg.number)).above begun fresh

      on_leg : (known : Cookie) → s.stage ≡ stage.Open known → has_fresh_below m s.ins ≡ false
          → (o : Option InLeg) → IfSome o (Found s.ins)
          → IfSome o (λ (leg : InLeg). leg.number ≡ m) → Row (in_r1_a2_by s known a b c d e o)
      on_leg known at below None f number = all n
      on_leg known at below (Some leg) f number =
          by_test Row (not (is_fresh leg.stage)) _ _ (λ t. all n)
          (λ t. by_test Row (not (same_cookie known a)) _ _ (λ u. all n)
          (λ u. by_test Row (not (same_cookie s.newest.cookie b)) _
          (took (announced s leg c d e)) (λ w. all n)
          (λ w. announces_on known at leg f number (not-false (is_fresh leg.stage) t) below)))

      by : has_fresh_below m s.ins ≡ false → (x : Stage) → s.stage ≡ x
          → Row (in_r1_a2_at s x m a b c d e)
      by below (stage.Open known) at =
          on_leg known at below (in_leg m s.ins) (found_at s.ins (in_place m s.ins))
          (number_found m s.ins (in_place m s.ins) refl)
      by below stage.Waits at = all n
      by below (stage.OutCame known) at = all n
      by below (stage.InCame known window timeout) at = all n
      by below stage.Ended at = all n

  -- ---- IN_R1/A6

  in_r1_a6_row : (s : Server) (m : ℕ) (successor : Cookie) (came put : List OnLeg)
      → Holds s came put
      → RowKeeps Holds (leg_at InServer m, Packet (named.InR1A6 successor)) came put
      (on_in_r1_a6 s m successor)
  in_r1_a6_row s m successor came put h =
      by_test Row test
      (if same_cookie s.next.cookie successor then took (hands_over s m)
      else refuse s (refused.Cookie s.next.cookie successor)) (unexpected s)
      (λ e. by_test Row (same_cookie s.next.cookie successor) (took (hands_over s m))
      (refuse s (refused.Cookie s.next.cookie successor))
      (λ f. subst (λ (b : Bool). Fine n (moved_if b
      (record (leaves s m) { line = after_finish s.line })) d)
      (kept_next (has e)) (settles n d (finishes (leaves s m)) (finished e))) (λ f. h))
      (λ e. h)
    where
      one : OnLeg
      one = (leg_at InServer m, Packet (named.InR1A6 successor))

      more : List OnLeg
      more = came ++ one ∷ []

      d : Tally
      d = tally n more put

      Row : Done → Type 0
      Row x = RowKeeps Holds one came put x

      test : Bool
      test = (m == s.current.leg) && (not s.line.finished
          && (s.line.has_next && not (waits kinds.InR1A3 s.waiting)))

      has : test ≡ true → s.line.has_next ≡ true
      has e =
          (and_parts s.line.has_next _
          (and_parts (not s.line.finished) _ (and_parts (m == s.current.leg) _ e).1).1).0

      finishes : Server → Server
      finishes t = record t { line = record (s.line) { finished = true } }

      kept_next : s.line.has_next ≡ true
          → (finishes (leaves s m)).line.has_next ≡ true
      kept_next e = e

      now : Fine n s d
      now = grows_fine s (tally n came put) d
          (quiet_came n came put (leg_at InServer m) (Packet (named.InR1A6 successor))
          refl refl (λ before. refl) (λ before. refl)) h

      begun : test ≡ true → (b : Bool) → is_begun s.stage ≡ b → is_begun s.stage ≡ true
      begun e true f = f
      begun e false f = absurd (true≢false (sym (has e) ∙ (h.tail.early f).1))

      current : test ≡ true → m ≡ s.current.leg
      current e = same_number m s.current.leg (and_parts (m == s.current.leg) _ e).0

      left : test ≡ true → (o : Option InLeg) → IfSome o (Found s.ins)
          → IfSome o (λ (leg : InLeg). leg.number ≡ m) → Fine n (leaves_by s o) d
      left e None f number = now
      left e (Some leg) f number =
          leg_same n d s leg (record leg { leaving = leaving.InR1B1 }) f refl refl refl refl
          (λ is q shut. absurd (true≢false
          (sym (q.current (begun e (is_begun s.stage) refl) (is ∙ number ∙ current e)) ∙ shut)))
          now

      finish : (e : test ≡ true) → (ins : List InLeg)
          → Kept n (top_of s) s.newest_in ins d
          → Kept n (record (top_of s) { finished = true }) s.newest_in ins d
      finish e ins k =
          top_kept n (top_of s) y s.newest_in ins d
          (λ o. o)
          (λ leg q. so_top n (top_of s) y d leg (λ o. o) q.current q.next q.above q)
          (λ a. record { current = a.current; next = a.next; above = a.above })
          (λ t. record {
            left = λ f is. came_here (is ∙ sym (current e));
            now_over = t.now_over;
            next_over = t.next_over;
            followed = λ f. has e;
            early = t.early;
            once = t.once;
            none_first = t.none_first;
            began = t.began;
            next_began = t.next_began;
            named = t.named;
            beyond = t.beyond;
            next_named = t.next_named;
          }) k
        where
          y : Top
          y = record (top_of s) { finished = true }

          came_here : n ≡ m → 1 ≤ d.left
          came_here is =
              subst (λ (k : ℕ). 1 ≤ often_at is_in_r1_a6 InServer k more) (sym is)
              (now_often is_in_r1_a6 m (named.InR1A6 successor) came refl)

      finished : test ≡ true → Fine n (finishes (leaves s m)) d
      finished e =
          by (in_leg m s.ins) (found_at s.ins (in_place m s.ins))
          (number_found m s.ins (in_place m s.ins) refl)
        where
          by : (o : Option InLeg) → IfSome o (Found s.ins)
              → IfSome o (λ (leg : InLeg). leg.number ≡ m) → Fine n (finishes (leaves_by s o)) d
          by None f number = finish e s.ins now
          by (Some leg) f number =
              finish e (leaves_by s (Some leg)).ins (left e (Some leg) f number)

  -- ---- IN_R2/A2

  in_r2_a2_row : (s : Server) (m : ℕ) (count : Count) (successor : Cookie)
      (came put : List OnLeg) → Holds s came put
      → RowKeeps Holds (leg_at InServer m, Packet (named.InR2A2 successor)) came put
      (on_in_r2_a2 s m count successor)
  in_r2_a2_row s m count successor came put h =
      by_test Row _ (in_r2_a2_on s m successor (channel_at s m)) (unexpected s)
      (λ e. by (channel_at s m)) (λ e. h)
    where
      one : OnLeg
      one = (leg_at InServer m, Packet (named.InR2A2 successor))

      Row : Done → Type 0
      Row x = RowKeeps Holds one came put x

      more : List OnLeg
      more = came ++ one ∷ []

      d : Tally
      d = record (tally n more put) { named = named_at named_by n came }

      now : Kept n (top_of s) (s.newest_in + 1) s.ins d
      now = newer_kept n (top_of s) s.newest_in s.ins d
          (grows_fine s (tally n came put) d (carried_came n m came put successor) h)

      named : (cookie : Cookie)
          → (is_begun s.stage ≡ true → n ≡ s.newest.leg
          → named_at named_by n more ≡ Some cookie)
          → Kept n (record (top_of s) { newest_cookie = cookie }) (s.newest_in + 1) s.ins
          (tally n more put)
      named cookie names =
          renamed_kept n (top_of s) (s.newest_in + 1) s.ins d (named_at named_by n more) cookie
          names now

      newer : (w : Newest) → w ≡ newest_by s.newest m successor
          → Kept n (record (top_of s) { newest_leg = w.leg; newest_cookie = w.cookie })
          (s.newest_in + 1) s.ins (tally n more put)
      newer w is =
          subst (λ (v : Newest).
          Kept n (record (top_of s) { newest_leg = v.leg; newest_cookie = v.cookie })
          (s.newest_in + 1) s.ins (tally n more put)) (sym is)
          (by_test (λ (v : Newest).
          Kept n (record (top_of s) { newest_leg = v.leg; newest_cookie = v.cookie })
          (s.newest_in + 1) s.ins (tally n more put)) (m == s.newest.leg)
          (record (s.newest) { cookie = successor }) s.newest
          (λ e. named successor
          (λ b is. carried_names n m came successor (is ∙ sym (same_number m s.newest.leg e))))
          (λ e. named s.newest.cookie
          (λ b is. carried_other n m came successor
          (λ same. other_number m s.newest.leg e (sym same ∙ is))
          ∙ h.tail.named b is)))

      by : (which : Option Which) → Row (in_r2_a2_on s m successor which)
      by None = h
      by (Some Current) = newer (newest_by s.newest m successor) refl
      by (Some Next) = newer (newest_by s.newest m successor) refl

  -- ---- END/A2

  end_a2_row : (s : Server) (m : ℕ) (count : Count) (came put : List OnLeg) → Holds s came put
      → RowKeeps Holds (leg_at InServer m, Packet named.EndA2) came put (on_end_a2 s m count)
  end_a2_row s m count came put h =
      by_test Row (is_first count) (unexpected s) (end_a2_at s m (channel_at s m)) (λ e. h)
      (λ e. on_channel (channel_at s m) refl)
    where
      one : OnLeg
      one = (leg_at InServer m, Packet named.EndA2)

      d : Tally
      d = tally n (came ++ one ∷ []) put

      Row : Done → Type 0
      Row x = RowKeeps Holds one came put x

      now : Fine n s d
      now = grows_fine s (tally n came put) d
          (quiet_came n came put (leg_at InServer m) (Packet named.EndA2) refl refl
          (λ before. refl) (λ before. refl)) h

      came_here : n ≡ m → 1 ≤ d.over
      came_here is =
          subst (λ (k : ℕ). 1 ≤ often_at is_end_a2 InServer k (came ++ one ∷ [])) (sym is)
          (now_often is_end_a2 m named.EndA2 came refl)

      staged_by : (leg : InLeg) (x : InStage) → leg.stage ≡ x → leg.number ≡ m
          → Found s.ins leg → Row (end_a2_on_leg s leg x)
      staged_by leg in_stage.Fresh at number f = h
      staged_by leg in_stage.Opened at number f = h
      staged_by leg (in_stage.Waits window timeout ended) at number f =
          by_test Row ended (unexpected s) _ (λ e. h)
          (λ e. set_kept n (top_of s) (top_of s) d d s.newest_in s.ins leg
          (record leg { stage = in_stage.Waits window timeout true }) f refl
          (λ is q. record {
            fresh = λ g. absurd (false≢true g);
            stale = λ g. q.stale (ap is_fresh at);
            waits = λ g. q.waits (ap is_waiting at);
            ended = λ g. came_here (is ∙ number);
            opened = λ g. absurd (false≢true g);
            untold = λ g. q.untold (ap is_opened at);
            calm = λ g. q.calm (ap is_opened at);
            current = λ g k. sym (ap is_opened at) ∙ q.current g k;
            next = λ g k. sym (ap is_opened at) ∙ q.next g k;
            above = λ g k. absurd (false≢true k);
            cookie = λ g. q.cookie (ap is_waiting at);
            positive = q.positive;
          })
          (λ apart w q. q) (λ apart. (refl, refl)) (λ apart o. o) (λ apart less a. a) now.tail
          now)

      on_leg : (o : Option InLeg) → IfSome o (Found s.ins)
          → IfSome o (λ (leg : InLeg). leg.number ≡ m) → Row (end_a2_waiting s o)
      on_leg None f number = h
      on_leg (Some leg) f number = staged_by leg leg.stage refl number f

      over_on : (which : Which) → channel_at s m ≡ Some which
          → Fine n (record s { line = after_end s.line which }) d
      over_on Current at =
          let y : Top = record (top_of s) { now_ended = true } in
          top_kept n (top_of s) y s.newest_in s.ins d
          (λ o. o)
          (λ leg q. so_top n (top_of s) y d leg (λ o. o) q.current q.next q.above q)
          (λ a. record { current = a.current; next = a.next; above = a.above })
          (λ t. record {
            left = t.left;
            now_over = λ e is. came_here (is ∙ sym (on_current s m at));
            next_over = t.next_over;
            followed = t.followed;
            early = t.early;
            once = t.once;
            none_first = t.none_first;
            began = t.began;
            next_began = t.next_began;
            named = t.named;
            beyond = t.beyond;
            next_named = t.next_named;
          }) now
      over_on Next at =
          let y : Top = record (top_of s) { next_ended = true } in
          top_kept n (top_of s) y s.newest_in s.ins d
          (λ o. o)
          (λ leg q. so_top n (top_of s) y d leg (λ o. o) q.current q.next q.above q)
          (λ a. record { current = a.current; next = a.next; above = a.above })
          (λ t. record {
            left = t.left;
            now_over = t.now_over;
            next_over = λ e f is. came_here (is ∙ sym (on_next s m at).1);
            followed = t.followed;
            early = t.early;
            once = t.once;
            none_first = t.none_first;
            began = t.began;
            next_began = t.next_began;
            named = t.named;
            beyond = t.beyond;
            next_named = t.next_named;
          }) now

      on_channel : (which : Option Which) → channel_at s m ≡ which → Row (end_a2_at s m which)
      on_channel None at =
          on_leg (in_leg m s.ins) (found_at s.ins (in_place m s.ins))
          (number_found m s.ins (in_place m s.ins) refl)
      on_channel (Some which) at =
          by_test Row (is_over_on s which) (unexpected s) _ (λ e. h) (λ e. over_on which at)

  -- ---- all packets

  is_row : (s : Server) (m : ℕ) (count : Count) (packet : Named) (came put : List OnLeg)
      → IsKept (in_leg m s.ins) → ((k : ℕ) → Fine k s (tally k came put))
      → RowKeeps Holds (leg_at InServer m, Packet packet) came put (on_is s m count packet)
  is_row s m count (named.ConnB2 v a b c d e f g) came put kept all =
      conn_b2_row s m count a b c d (named.ConnB2 v a b c d e f g) came put refl
      (λ before. refl) kept (all n)
  is_row s m count (named.InR1A2 v a b c d e) came put kept all =
      in_r1_a2_row s m count a b c d e (named.InR1A2 v a b c d e) came put refl refl
      (λ before. refl) (λ before. refl) all
  is_row s m count (named.InR1A6 a) came put kept all = in_r1_a6_row s m a came put (all n)
  is_row s m count (named.InR2A2 a) came put kept all = in_r2_a2_row s m count a came put (all n)
  is_row s m count named.EndA2 came put kept all = end_a2_row s m count came put (all n)
  is_row s m count (named.AckTo a b c d) came put kept all =
      row_same s (leg_at InServer m) (Packet (named.AckTo a b c d)) came put
      (on_ack_to s count a b c d) (ack_to_same s count a b c d)
      (record {
        conn_b2 = refl;
        in_r1_a2 = refl;
        names = λ before. refl;
        succeeds = λ before. refl;
      }) (all n)
  is_row s m count packet came put kept all =
      row_same s (leg_at InServer m) (Packet packet) came put (on_is s m count packet)
      (search rules)
      (record {
        conn_b2 = refl;
        in_r1_a2 = refl;
        names = λ before. refl;
        succeeds = λ before. refl;
      }) (all n)

  conn_a2_row : (s : Server) (m : ℕ) (count : Count) (a b : Cookie) (c d : ℕ) (packet : Named)
      (came put : List OnLeg) → IsQuiet (Packet packet) → Holds s came put
      → RowKeeps Holds (leg_at OutServer m, Packet packet) came put (on_conn_a2 s m count a b c d)
  conn_a2_row s m count a b c d packet came put q h =
      by_test Row (is_first count && ((m == 1) && not (waits kinds.ConnC1 s.waiting)))
      (conn_a2_at s s.stage a b c d) (unexpected s) (λ e. by s.stage refl) (λ e. h)
    where
      one : OnLeg
      one = (leg_at OutServer m, Packet packet)

      Row : Done → Type 0
      Row x = RowKeeps Holds one came put x

      moves : (new : Stage) → is_begun new ≡ is_begun s.stage
          → Holds (record (with_first_out s b c d) { stage = new }) (came ++ one ∷ []) put
      moves new begun =
          same_fine n s (record (with_first_out s b c d) { stage = new })
          (tally n (came ++ one ∷ []) put)
          (out_look s (is_begun new) b c d ∙ ap (λ (t : Bool). look_at t s) begun)
          (grows_fine s (tally n came put) (tally n (came ++ one ∷ []) put)
          (quiet_came n came put (leg_at OutServer m) (Packet packet) q.conn_b2 q.in_r1_a2 q.names
          q.succeeds)
          h)

      by : (x : Stage) → s.stage ≡ x → Row (conn_a2_at s x a b c d)
      by stage.Waits at = moves (stage.OutCame a) (sym (ap is_begun at))
      by (stage.InCame known window timeout) at =
          by_test Row (same_cookie known a)
          (took (opens (with_first_out s b c d) known window timeout)) _
          (λ e. moves (stage.Open known) (sym (ap is_begun at))) (λ e. h)
      by (stage.OutCame known) at = h
      by (stage.Open known) at = h
      by stage.Ended at = h

  os_row : (s : Server) (m : ℕ) (count : Count) (packet : Named) (came put : List OnLeg)
      → Holds s came put
      → RowKeeps Holds (leg_at OutServer m, Packet packet) came put (on_os s m count packet)
  os_row s m count (named.ConnA2 v a b c d) came put h =
      conn_a2_row s m count a b c d (named.ConnA2 v a b c d) came put
      (record {
        conn_b2 = refl;
        in_r1_a2 = refl;
        names = λ before. refl;
        succeeds = λ before. refl;
      }) h
  os_row s m count (named.ConnB2 v a b c d e f g) came put h = h
  os_row s m count (named.InR1A2 v a b c d e) came put h = h
  os_row s m count (named.InR2A2 a) came put h = h
  os_row s m count packet came put h =
      row_same s (leg_at OutServer m) (Packet packet) came put (on_os s m count packet)
      (search rules)
      (record {
        conn_b2 = refl;
        in_r1_a2 = refl;
        names = λ before. refl;
        succeeds = λ before. refl;
      }) h

  pub packet_row : (s : Server) (m : ℕ) (count : Count) (packet : Named) (k : LegKind)
      (came put : List OnLeg) → (k ≡ InServer → IsKept (in_leg m s.ins))
      → ((j : ℕ) → Fine j s (tally j came put))
      → RowKeeps Holds (leg_at k m, Packet packet) came put (packet_by s m count packet k)
  packet_row s m count packet InServer came put kept all =
      is_row s m count packet came put (kept refl) all
  packet_row s m count packet OutServer came put kept all =
      os_row s m count packet came put (all n)
  packet_row s m count packet ClientIn came put kept all = all n
  packet_row s m count packet ClientOut came put kept all = all n

  pub pdu_row : (s : Server) (leg : Leg) (bytes : List ℕ) (came put : List OnLeg)
      → Holds s came put
      → RowKeeps Holds (leg, Pdu bytes) came put (pdu_by s leg.number bytes leg.kind)
  pdu_row s leg bytes came put h =
      row_same s leg (Pdu bytes) came put (pdu_by s leg.number bytes leg.kind)
      (pdu_same s leg.number bytes leg.kind)
      (record {
        conn_b2 = refl;
        in_r1_a2 = refl;
        names = λ before. refl;
        succeeds = λ before. refl;
      }) h
