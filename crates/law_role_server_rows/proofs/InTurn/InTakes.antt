-- what a server takes keeps what it knows of its is legs
use Rattle.law_order.proofs.Vocabulary.{◌≡◌, ℕ, ◌+◌, ◌==◌, ◌&&◌, Bool, true, false, not, if◌then◌else◌, List, [], ◌∷◌, ◌++◌, Some, None, Ok, Err, refl, rules, sym, ap, ◌∙◌, subst, false≢true, true≢false, and_parts, not-false, IfSome, Option}
use Rattle.rh_sig.specs.declared.named.Named.TheVariants as named
use Rattle.rh_shell.specs.declared.answers.Refused.TheVariants as refused
use Rattle.rh_server.specs.Servers.{pdu_by}
use Rattle.rh_server.specs.declared.state.InStage.TheVariants as in_stage
use Rattle.rh_server.specs.declared.state.Stage.TheVariants as stage
use Rattle.rh_server.specs.declared.out_line.Kind.TheVariants as kinds
use Rattle.law_moves.proofs.Vocabulary.{by_test, same_number, Cookie, Named, after_finish, Leg, LegKind, ClientOut, OutServer, ClientIn, InServer, Which, Current, Next, Count, Pdu, Packet, Waiting, forwarded, takes, OnLeg, of_leg}
use Rattle.law_moves.proofs.Lemmas.{RowKeeps}
use Rattle.law_role_server.proofs.Vocabulary.{InLeg, InStage, Stage, has, waits, Server, is_fresh, same_cookie, in_leg, in_place, Done, took, refuse, unexpected, is_first, opens, with_first_in, with_first_out, conn_a2_at, on_conn_a2, conn_b2_at, on_conn_b2, channel_at, channel_leg, forward_by, forwards, forwards_to, forwards_writing, is_full, on_ack_to, out_server, announced, in_r1_a2_by, in_r1_a2_at, on_in_r1_a2, leaves_by, leaves, hands_over, on_in_r1_a6, in_r2_a2_on}
use Rattle.law_role_server.proofs.Vocabulary.{on_in_r2_a2, end_a2_on_leg, end_a2_waiting, is_over_on, end_a2_at, on_end_a2, on_is, on_os, packet_by, is_conn_b2, is_in_r1_a2, is_in_r1_a6, leg_at}
use Rattle.law_role_server.proofs.TakesKept.{has_begun as is_begun}
use Rattle.law_role_server_rows.proofs.Putting.Each.{number_found}
use Rattle.law_role_server_rows.proofs.InTurn.InView.{view, view_at}
use Rattle.law_role_server_rows.proofs.InTurn.InPlaces.{Found, found_at}
use Rattle.law_role_server_rows.proofs.InTurn.InKept.{is_opened, Kept, begun_if, top_of, BegunBy, more_kept, newer_kept, set_kept}
use Rattle.law_role_server_rows.proofs.InTurn.InRows.{Alive, Fine, announces, begins_now, came_now, first_fine, leaves_fine, moved_fine, same_fine, stage_fine, waits_so}
use Rattle.law_role_server_rows.proofs.InTurn.Quiet.{is_opening, Quiet}
use Rattle.law_role_server_rows.specs.Putting.Copying.{Begins, CameAt}
use Rattle.law_role_server_rows.specs.Putting.Greeting.{is}
use Rattle.law_role_server_rows.specs.InTurn.Answers.{Came}

out_view : (s : Server) (new : Stage) (b : Cookie) (c d : ℕ)
    → view_at new (with_first_out s b c d) ≡ view_at new s
out_view s new b c d = search rules

-- ---- acknowledgements that are forwarded

forward_same : (s : Server) (m : ℕ) (x : Waiting × Bool) → view (forward_by s m x).0 ≡ view s
forward_same s m (w, true) = refl
forward_same s m (w, false) = refl

writing_same : (s : Server) (packet : Named) → view (forwards_writing s packet).0 ≡ view s
writing_same s packet =
    by_test (λ (x : Done). view x.0 ≡ view s) (is_full s && not (has (takes packet) s.waiting))
    (refuse s (refused.Full (out_server s.writing))) (forwards s s.writing packet) (λ e. refl)
    (λ e. forward_same s s.writing (forwarded s.waiting packet))

to_same : (s : Server) (packet : Named) (o : Option ℕ) → view (forwards_to s packet o).0 ≡ view s
to_same s packet None = refl
to_same s packet (Some number) =
    by_test (λ (x : Done). view x.0 ≡ view s) (number == s.writing) (forwards_writing s packet)
    (forwards s number packet) (λ e. writing_same s packet)
    (λ e. forward_same s number (forwarded s.waiting packet))

ack_to_same : (s : Server) (count : Count) (a b c : ℕ) (d : Cookie)
    → view (on_ack_to s count a b c d).0 ≡ view s
ack_to_same s count a b c d =
    by_test Same (is_first count) (unexpected s) _ (λ e. refl)
    (λ e. by_test Same (a == 0) (forwards_writing s (named.AckTo 0 b c d)) _
    (λ f. writing_same s (named.AckTo 0 b c d))
    (λ f. by_test Same (a == 3)
    (forwards_to s (named.AckTo 3 b c d) (channel_leg d s.outs)) (unexpected s)
    (λ g. to_same s (named.AckTo 3 b c d) (channel_leg d s.outs)) (λ g. refl)))
  where
    Same : Done → Type 0
    Same x = view x.0 ≡ view s

module _ (n : ℕ) where
  abbrev pub Holds : Server → List OnLeg → List OnLeg → Type 0
  Holds s came put = Fine n s came (of_leg (is n) put)

  -- one more came
  more : (s : Server) (came put : List OnLeg) (one : OnLeg) → Holds s came put
      → Holds s (came ++ one ∷ []) put
  more s came put one h =
      more_kept n came one (top_of (view s)) s.newest_in s.ins (of_leg (is n) put) h

  pub row_same : (s : Server) (one : OnLeg) (came put : List OnLeg) (x : Done)
      → view x.0 ≡ view s → Holds s came put → RowKeeps Holds one came put x
  row_same s one came put (t, Ok taken) same h =
      same_fine n s t (came ++ one ∷ []) (of_leg (is n) put) same (more s came put one h)
  row_same s one came put (t, Err why) same h =
      same_fine n s t came (of_leg (is n) put) same h

  -- ---- is legs

  conn_b2_row : (s : Server) (m : ℕ) (count : Count) (v : ℕ) (a b : Cookie) (c d : ℕ)
      (packet : Named) (came put : List OnLeg) → Begins b packet → is_conn_b2 packet ≡ true
      → Alive (in_leg m s.ins) → Holds s came put
      → RowKeeps Holds (leg_at InServer m, Packet packet) came put (on_conn_b2 s m count a b c d)
  conn_b2_row s m count v a b c d packet came put begins passes alive h =
      by_test (RowOn m) (is_first count && ((m == 1) && not (waits kinds.ConnC1 s.waiting)))
      (conn_b2_at s s.stage a b c d) (unexpected s)
      (λ t.
      let one = same_number m 1 (and_parts (m == 1) _ (and_parts (is_first count) _ t).1).0 in
      subst (λ (k : ℕ). RowOn k (conn_b2_at s s.stage a b c d)) (sym one)
      (by s.stage refl (subst (λ (k : ℕ). Alive (in_leg k s.ins)) one alive)))
      (λ t. h)
    where
      RowOn : ℕ → Done → Type 0
      RowOn k x = RowKeeps Holds (leg_at InServer k, Packet packet) came put x

      opened : (new : Stage) → is_opening s.stage ≡ true → is_begun s.stage ≡ false
          → is_begun new ≡ true → Alive (in_leg 1 s.ins)
          → Holds (record (with_first_in s b) { stage = new })
          (came ++ (leg_at InServer 1, Packet packet) ∷ []) put
      opened new opening begun goes alive =
          first_fine n (came ++ (leg_at InServer 1, Packet packet) ∷ []) (of_leg (is n) put) s new
          b (in_leg 1 s.ins) alive (found_at s.ins (in_place 1 s.ins))
          (number_found 1 s.ins (in_place 1 s.ins) refl) opening begun goes
          (begins_now b 1 packet came begins) (came_now is_conn_b2 1 packet came passes)
          (more s came put (leg_at InServer 1, Packet packet) h)

      by : (x : Stage) → s.stage ≡ x → Alive (in_leg 1 s.ins)
          → RowOn 1 (conn_b2_at s x a b c d)
      by stage.Waits at alive =
          opened (stage.InCame a c d) (ap is_opening at) (ap is_begun at) refl alive
      by (stage.OutCame known) at alive =
          by_test (RowOn 1) (same_cookie known a) (took (opens (with_first_in s b) known c d)) _
          (λ e. opened (stage.Open known) (ap is_opening at) (ap is_begun at) refl alive)
          (λ e. h)
      by (stage.InCame known window timeout) at alive = h
      by (stage.Open known) at alive = h
      by stage.Ended at alive = h

  in_r1_a2_row : (s : Server) (m : ℕ) (count : Count) (a b c : Cookie) (d e : ℕ)
      (packet : Named) (came put : List OnLeg) → Begins c packet → is_in_r1_a2 packet ≡ true
      → Holds s came put
      → RowKeeps Holds (leg_at InServer m, Packet packet) came put
      (on_in_r1_a2 s m count a b c d e)
  in_r1_a2_row s m count a b c d e packet came put begins passes h =
      by_test Row _ (in_r1_a2_at s s.stage m a b c d e) (unexpected s) (λ t. by s.stage refl)
      (λ t. h)
    where
      one : OnLeg
      one = (leg_at InServer m, Packet packet)

      Row : Done → Type 0
      Row x = RowKeeps Holds one came put x

      on_leg : (known : Cookie) → s.stage ≡ stage.Open known → (o : Option InLeg)
          → IfSome o (Found s.ins) → IfSome o (λ (leg : InLeg). leg.number ≡ m)
          → Row (in_r1_a2_by s known a b c d e o)
      on_leg known at None f number = h
      on_leg known at (Some leg) f number =
          by_test Row (not (is_fresh leg.stage)) _ _ (λ t. h)
          (λ t. by_test Row (not (same_cookie known a)) _ _ (λ u. h)
          (λ u. by_test Row (not (same_cookie s.newest.cookie b)) _
          (took (announced s leg c d e)) (λ w. h)
          (λ w. announces n (came ++ one ∷ []) (of_leg (is n) put) s leg c d e f
          (not-false (is_fresh leg.stage) t) (ap is_begun at)
          (subst (λ (k : ℕ). CameAt InServer k (Begins c) (came ++ one ∷ [])
          × Came is_in_r1_a2 k (came ++ one ∷ [])) (sym number)
          (begins_now c m packet came begins, came_now is_in_r1_a2 m packet came passes))
          (more s came put one h))))

      by : (x : Stage) → s.stage ≡ x → Row (in_r1_a2_at s x m a b c d e)
      by (stage.Open known) at =
          on_leg known at (in_leg m s.ins) (found_at s.ins (in_place m s.ins))
          (number_found m s.ins (in_place m s.ins) refl)
      by stage.Waits at = h
      by (stage.OutCame known) at = h
      by (stage.InCame known window timeout) at = h
      by stage.Ended at = h

  in_r1_a6_row : (s : Server) (m : ℕ) (successor : Cookie) (packet : Named)
      (came put : List OnLeg) → is_in_r1_a6 packet ≡ true → Alive (in_leg m s.ins)
      → (is_opening s.stage ≡ true → Quiet s.line) → Holds s came put
      → RowKeeps Holds (leg_at InServer m, Packet packet) came put (on_in_r1_a6 s m successor)
  in_r1_a6_row s m successor packet came put passes alive quiet h =
      by_test Row test
      (if same_cookie s.next.cookie successor then took (hands_over s m)
      else refuse s (refused.Cookie s.next.cookie successor)) (unexpected s)
      (λ e. by_test Row (same_cookie s.next.cookie successor) (took (hands_over s m))
      (refuse s (refused.Cookie s.next.cookie successor))
      (λ f. moved_fine n (came ++ one ∷ []) (of_leg (is n) put) true
      (record (leaves s m) { line = after_finish s.line })
      (by e (in_leg m s.ins) alive (found_at s.ins (in_place m s.ins))
      (number_found m s.ins (in_place m s.ins) refl))) (λ f. h))
      (λ e. h)
    where
      one : OnLeg
      one = (leg_at InServer m, Packet packet)

      Row : Done → Type 0
      Row x = RowKeeps Holds one came put x

      test : Bool
      test = (m == s.current.leg) && (not s.line.finished
          && (s.line.has_next && not (waits kinds.InR1A3 s.waiting)))

      opening : test ≡ true → (b : Bool) → is_opening s.stage ≡ b → b ≡ false
      opening e true is =
          absurd (true≢false (sym (and_parts s.line.has_next _
          (and_parts (not s.line.finished) _ (and_parts (m == s.current.leg) _ e).1).1).0
          ∙ (quiet is).alone))
      opening e false is = refl

      by : test ≡ true → (o : Option InLeg) → Alive o → IfSome o (Found s.ins)
          → IfSome o (λ (leg : InLeg). leg.number ≡ m)
          → Holds (leaves_by s o) (came ++ one ∷ []) put
      by e None alive f number = absurd alive
      by e (Some leg) alive f number =
          let shut = opening e (is_opening s.stage) refl in
          leaves_fine n (came ++ one ∷ []) (of_leg (is n) put) s leg f alive
          (number ∙ same_number m s.current.leg (and_parts (m == s.current.leg) _ e).0) shut
          (begun_if s.stage shut)
          (subst (λ (k : ℕ). Came is_in_r1_a6 k (came ++ one ∷ [])) (sym number)
          (came_now is_in_r1_a6 m packet came passes))
          (more s came put one h)

  in_r2_a2_row : (s : Server) (m : ℕ) (count : Count) (successor : Cookie) (packet : Named)
      (came put : List OnLeg) → Holds s came put
      → RowKeeps Holds (leg_at InServer m, Packet packet) came put
      (on_in_r2_a2 s m count successor)
  in_r2_a2_row s m count successor packet came put h =
      by_test Row _ (in_r2_a2_on s m successor (channel_at s m)) (unexpected s)
      (λ e. by (channel_at s m)) (λ e. h)
    where
      one : OnLeg
      one = (leg_at InServer m, Packet packet)

      Row : Done → Type 0
      Row x = RowKeeps Holds one came put x

      newer : Kept n (came ++ one ∷ []) (top_of (view s)) (s.newest_in + 1) s.ins
          (of_leg (is n) put)
      newer =
          newer_kept n (came ++ one ∷ []) (top_of (view s)) s.newest_in s.ins (of_leg (is n) put)
          (more s came put one h)

      by : (which : Option Which) → Row (in_r2_a2_on s m successor which)
      by None = h
      by (Some Current) = newer
      by (Some Next) = newer

  end_a2_row : (s : Server) (m : ℕ) (count : Count) (packet : Named) (came put : List OnLeg)
      → Holds s came put
      → RowKeeps Holds (leg_at InServer m, Packet packet) came put (on_end_a2 s m count)
  end_a2_row s m count packet came put h =
      by_test Row (is_first count) (unexpected s) (end_a2_at s m (channel_at s m)) (λ e. h)
      (λ e. on_channel (channel_at s m))
    where
      one : OnLeg
      one = (leg_at InServer m, Packet packet)

      Row : Done → Type 0
      Row x = RowKeeps Holds one came put x

      now : Holds s (came ++ one ∷ []) put
      now = more s came put one h

      staged_by : (leg : InLeg) (x : InStage) → leg.stage ≡ x → Found s.ins leg
          → Row (end_a2_on_leg s leg x)
      staged_by leg in_stage.Fresh at f = h
      staged_by leg in_stage.Opened at f = h
      staged_by leg (in_stage.Waits window timeout ended) at f =
          by_test Row ended (unexpected s) _ (λ e. h)
          (λ e. set_kept n (came ++ one ∷ []) (top_of (view s)) (top_of (view s)) s.newest_in
          s.ins (of_leg (is n) put) leg
          (record leg { stage = in_stage.Waits window timeout true }) f refl
          (λ same q. waits_so n (came ++ one ∷ []) (of_leg (is n) put) (top_of (view s)) leg
          leg.cookie window timeout true (ap is_opened at)
          (λ b. false≢true (sym (ap is_fresh at) ∙ q.fresh b))
          (subst (BegunBy n (came ++ one ∷ []) leg.cookie) at q.begun) q)
          (λ apart w q. q) (λ apart a. a) now)

      on_leg : (o : Option InLeg) → IfSome o (Found s.ins) → Row (end_a2_waiting s o)
      on_leg None f = h
      on_leg (Some leg) f = staged_by leg leg.stage refl f

      on_channel : (which : Option Which) → Row (end_a2_at s m which)
      on_channel None = on_leg (in_leg m s.ins) (found_at s.ins (in_place m s.ins))
      on_channel (Some which) =
          by_test Row (is_over_on s which) (unexpected s) _ (λ e. h) (λ e. now)

  is_row : (s : Server) (m : ℕ) (count : Count) (packet : Named) (came put : List OnLeg)
      → Alive (in_leg m s.ins) → (is_opening s.stage ≡ true → Quiet s.line) → Holds s came put
      → RowKeeps Holds (leg_at InServer m, Packet packet) came put (on_is s m count packet)
  is_row s m count (named.ConnB2 v a b c d e f g) came put alive quiet h =
      conn_b2_row s m count v a b c d (named.ConnB2 v a b c d e f g) came put refl refl alive h
  is_row s m count (named.InR1A2 v a b c d e) came put alive quiet h =
      in_r1_a2_row s m count a b c d e (named.InR1A2 v a b c d e) came put refl refl h
  is_row s m count (named.InR1A6 a) came put alive quiet h =
      in_r1_a6_row s m a (named.InR1A6 a) came put refl alive quiet h
  is_row s m count (named.InR2A2 a) came put alive quiet h =
      in_r2_a2_row s m count a (named.InR2A2 a) came put h
  is_row s m count named.EndA2 came put alive quiet h =
      end_a2_row s m count named.EndA2 came put h
  is_row s m count (named.AckTo a b c d) came put alive quiet h =
      row_same s (leg_at InServer m, Packet (named.AckTo a b c d)) came put
      (on_ack_to s count a b c d) (ack_to_same s count a b c d) h
  is_row s m count packet came put alive quiet h =
      row_same s (leg_at InServer m, Packet packet) came put (on_is s m count packet)
      (search rules) h

  -- ---- os legs

  conn_a2_row : (s : Server) (m : ℕ) (count : Count) (a b : Cookie) (c d : ℕ) (packet : Named)
      (came put : List OnLeg) → Holds s came put
      → RowKeeps Holds (leg_at OutServer m, Packet packet) came put (on_conn_a2 s m count a b c d)
  conn_a2_row s m count a b c d packet came put h =
      by_test Row (is_first count && ((m == 1) && not (waits kinds.ConnC1 s.waiting)))
      (conn_a2_at s s.stage a b c d) (unexpected s) (λ e. by s.stage refl) (λ e. h)
    where
      one : OnLeg
      one = (leg_at OutServer m, Packet packet)

      Row : Done → Type 0
      Row x = RowKeeps Holds one came put x

      moves : (new : Stage) → (is_opening s.stage ≡ false → is_opening new ≡ false)
          → is_begun new ≡ is_begun s.stage
          → Holds (record (with_first_out s b c d) { stage = new }) (came ++ one ∷ []) put
      moves new opens begun =
          stage_fine n s (record (with_first_out s b c d) { stage = new }) new
          (came ++ one ∷ []) (of_leg (is n) put) (out_view s new b c d) opens begun
          (more s came put one h)

      by : (x : Stage) → s.stage ≡ x → Row (conn_a2_at s x a b c d)
      by stage.Waits at =
          moves (stage.OutCame a) (λ e. absurd (false≢true (sym e ∙ ap is_opening at)))
          (sym (ap is_begun at))
      by (stage.InCame known window timeout) at =
          by_test Row (same_cookie known a)
          (took (opens (with_first_out s b c d) known window timeout)) _
          (λ e. moves (stage.Open known) (λ f. refl) (sym (ap is_begun at))) (λ e. h)
      by (stage.OutCame known) at = h
      by (stage.Open known) at = h
      by stage.Ended at = h

  os_row : (s : Server) (m : ℕ) (count : Count) (packet : Named) (came put : List OnLeg)
      → Holds s came put
      → RowKeeps Holds (leg_at OutServer m, Packet packet) came put (on_os s m count packet)
  os_row s m count (named.ConnA2 v a b c d) came put h =
      conn_a2_row s m count a b c d (named.ConnA2 v a b c d) came put h
  os_row s m count packet came put h =
      row_same s (leg_at OutServer m, Packet packet) came put (on_os s m count packet)
      (search rules) h

  pub packet_row : (s : Server) (m : ℕ) (count : Count) (packet : Named) (k : LegKind)
      (came put : List OnLeg) → (k ≡ InServer → Alive (in_leg m s.ins))
      → (is_opening s.stage ≡ true → Quiet s.line) → Holds s came put
      → RowKeeps Holds (leg_at k m, Packet packet) came put (packet_by s m count packet k)
  packet_row s m count packet InServer came put alive quiet h =
      is_row s m count packet came put (alive refl) quiet h
  packet_row s m count packet OutServer came put alive quiet h =
      os_row s m count packet came put h
  packet_row s m count packet ClientIn came put alive quiet h = h
  packet_row s m count packet ClientOut came put alive quiet h = h

  pdu_same : (s : Server) (m : ℕ) (bytes : List ℕ) (k : LegKind)
      → view (pdu_by s m bytes k).0 ≡ view s
  pdu_same s m bytes k = search rules

  pub pdu_row : (s : Server) (leg : Leg) (bytes : List ℕ) (came put : List OnLeg)
      → Holds s came put
      → RowKeeps Holds (leg, Pdu bytes) came put (pdu_by s leg.number bytes leg.kind)
  pdu_row s leg bytes came put h =
      row_same s (leg, Pdu bytes) came put (pdu_by s leg.number bytes leg.kind)
      (pdu_same s leg.number bytes leg.kind) h
