-- what a client puts are events of its replacements
use Rattle.law_order.proofs.Vocabulary.{◌≡◌, inl, ℕ, ◌==◌, Bool, true, false, true≢false, not, ◌&&◌, if◌then◌else◌, List, [], ◌∷◌, ◌++◌, Some, None, refl, sym, ◌∙◌, subst, and_parts, IfSome, Option}
use Rattle.rh_sig.specs.declared.named.Named.TheVariants as named
use Rattle.rh_shell.specs.declared.answers.Phase.TheVariants as phase
use Rattle.rh_client.specs.Putting.{pdu_by}
use Rattle.rh_client.specs.declared.replacement.InStage.TheVariants as in_stage
use Rattle.rh_client.specs.declared.replacement.OutStage.TheVariants as out_stage
use Rattle.law_moves.proofs.Vocabulary.{Ack, may_put, fits, by_test, same_number, CONN_B1_LEN, IN_R1_A1_LEN, IN_R1_A5_LEN, OUT_R1_A7_LEN, END_A1_LEN, ACK_TO_LEN, PING_LEN, in_request, out_request, due, front_length, Leg, LegKind, ClientOut, OutServer, ClientIn, InServer, Which, Current, Next, Phase, Message, Text, Packet, OnLeg}
use Rattle.law_moves.proofs.Lemmas.{PutKeeps}
use Rattle.law_role_client.proofs.Vocabulary.{Opening, NotUp, Request, First, Second, Put, CONN_A1_LEN, OUT_R1_A3_C1_LEN, Replacement, NoneUnderWay, In, Out, Waits, ClientRole, metered, unopened_in, is_put, is_asked, is_in, is_out, is_open, is_opening, is_writing, is_in_successor, is_current, is_out_successor, may_ack, ack_due, cookie_of, handed_over, Pick, or_else, conn_b1, conn_a1, in_r1_a1, out_r1_a3, begun_in, with_end_put, put_in_r1_a5, put_out_r1_a7, put_by, put_conn_b1}
use Rattle.law_role_client.proofs.Vocabulary.{put_in_r1_a1, put_current, put_out_successor, put_out, due_by, put_due, ack_by, put_ack_of, put_ack, lets_pdu, put_pdu, is_end_due, put_end, put_ping, put_successor_ping, put_next, put_writing, put_in_successor, put_in, settled_pick}
use Rattle.law_role_client.proofs.Counted.Views.{View, view, view_by, marks, unmarked, IsGreeting, IsDue, EventsKeep}
use Rattle.law_role_client.proofs.ClientLogs.{of_other}
use Rattle.law_role_client.proofs.Counted.Replacements as replacements
use Rattle.law_role_client.proofs.Counted.Rows as rows

pub not_both : (p : Phase) → is_open p ≡ true → is_opening p ≡ true → ⊥
not_both phase.Opening e o = absurd (cc)
not_both phase.Open e o = absurd (cc)
not_both phase.Ended e o = absurd (cc)

-- one is due on the line, or there is a next channel
is_due : (s : ClientRole) (which : Which) (ack : Ack) → ack_due s which ≡ Some ack
    → IsDue (view s) which ack
is_due s Current ack e = by (may_ack s Current) e
  where
    by : (b : Bool) → (if b then due s.line Current else None) ≡ Some ack
        → due s.line Current ≡ Some ack
    by true e = e
    by false e = absurd (cc)
is_due s Next ack e = by s.line.has_next (not s.line.next.ended) e
  where
    by : (b c : Bool) → (if b && c then due s.line Next else None) ≡ Some ack → b ≡ true
    by true c e = refl
    by false c e = absurd (cc)

module _ (P : View → List OnLeg → List OnLeg → Type 0) (events : EventsKeep P) (leg : Leg)
    (came put : List OnLeg) where
  abbrev Holds : ClientRole → List OnLeg → List OnLeg → Type 0
  Holds = replacements.Holds P events

  abbrev pub Puts : Pick → Type 0
  Puts pick = PutKeeps Holds leg came put pick

  -- a message that is none of these packets, and leaves the rest alone
  abbrev Quiet : ClientRole → Pick → Type 0
  Quiet s pick =
      IfSome pick (λ (one : ClientRole × Message).
      (view one.0 ≡ view s) × (marks one.1 ≡ unmarked)
      × (is_opening s.phase ≡ true → IsGreeting (leg, one.1)))

  quiet_put : (s : ClientRole) (pick : Pick) → Quiet s pick → Holds s came put → Puts pick
  quiet_put s None quiet h = tt
  quiet_put s (Some one) quiet h =
      replacements.same_holds P events s one.0 came (put ++ (leg, one.1) ∷ []) quiet.0
      (events.goes (view s) came put (leg, one.1) quiet.1 quiet.2 h)

  or_put : (a b : Pick) → Puts a → Puts b → Puts (or_else a b)
  or_put None b h k = k
  or_put (Some pick) b h k = h

  -- ---- on the writing channel

  a5_put : (s : ClientRole) (w : Bool) → leg.kind ≡ ClientIn → leg.number ≡ s.writing.number
      → P (view_by s (In in_stage.Answered w)) came put → Puts (put_in_r1_a5 s w)
  a5_put s w k at h =
      by_test Puts (fits s.writing.meter IN_R1_A5_LEN)
      (Some (handed_over s w, Packet (named.InR1A5 s.in_successor.cookie))) None
      (λ e. replacements.after_in_holds P events (record s {
        leaving = s.writing;
        writing = s.in_successor;
        in_successor = unopened_in 0 s.config.lifetime;
      }) w came (put ++ (leg, Packet (named.InR1A5 s.in_successor.cookie)) ∷ [])
      (events.hands_over (view_by s (In in_stage.Answered w)) w s.in_successor.is_end_put came put
      (leg, Packet (named.InR1A5 s.in_successor.cookie)) refl refl k at h))
      (λ e. tt)

  a7_put : (s : ClientRole) (w : Waits) → leg.kind ≡ ClientIn
      → P (view_by s (Out out_stage.Answered w)) came put → Puts (put_out_r1_a7 s w)
  a7_put s w k h =
      by_test Puts (fits s.writing.meter OUT_R1_A7_LEN)
      (Some (
        record s {
          writing = metered s.writing OUT_R1_A7_LEN;
          replacement = Out out_stage.Switched w;
        },
        Packet (named.OutR1A7 2 s.out_successor.cookie),
      )) None
      (λ e. events.switches (view_by s (Out out_stage.Answered w)) came put
      (leg, Packet (named.OutR1A7 2 s.out_successor.cookie)) refl refl k h)
      (λ e. tt)

  due_put : (s : ClientRole) (r : Replacement) → s.replacement ≡ r → leg.kind ≡ ClientIn
      → leg.number ≡ s.writing.number → Holds s came put → Puts (due_by s r)
  due_put s NoneUnderWay e k at h = tt
  due_put s (In in_stage.Asked w) e k at h = tt
  due_put s (In in_stage.Answered w) e k at h =
      a5_put s w k at (replacements.at_replacement P events s (In in_stage.Answered w) came put e h)
  due_put s (Out out_stage.Asked w) e k at h = tt
  due_put s (Out out_stage.Answered w) e k at h =
      a7_put s w k (replacements.at_replacement P events s (Out out_stage.Answered w) came put e h)
  due_put s (Out out_stage.Switched w) e k at h = tt
  due_put s (Out out_stage.Finished w) e k at h = tt

  ack_put : (s : ClientRole) (which : Which) (o : Option Ack) → ack_due s which ≡ o
      → Holds s came put → Puts (ack_by s which o)
  ack_put s which None e h = tt
  ack_put s which (Some ack) e h =
      by_test Puts (may_put s.writing.meter ACK_TO_LEN) _ None
      (λ t. events.acks (view s) which ack came put
      (leg, Packet (named.AckTo 3 ack.received ack.available (cookie_of s which))) refl
      (is_due s which ack e) h)
      (λ t. tt)

  quiet_pdu : (s : ClientRole) (len : Option ℕ) → Quiet s (pdu_by s len)
  quiet_pdu s None = tt
  quiet_pdu s (Some len) =
      by_test (Quiet s) (lets_pdu s len) _ None
      (λ e. (
        refl,
        refl,
        λ opening.
            absurd (not_both s.phase (and_parts (is_open s.phase) _ e).0 opening),
      ))
      (λ e. tt)

  quiet_ping : (s : ClientRole) → Quiet s (put_ping s)
  unfolding put_ping
  quiet_ping s =
      by_test (Quiet s) (s.writing.is_ping_due && may_put s.writing.meter PING_LEN) _ None
      (λ e. (refl, refl, λ opening on. refl)) (λ e. tt)

  end_put : (s : ClientRole) → Holds s came put → Puts (put_end s)
  unfolding put_end
  end_put s h =
      by_test Puts (is_end_due s && fits s.writing.meter END_A1_LEN)
      (Some (
        record s { writing = with_end_put (metered s.writing END_A1_LEN) },
        Packet named.EndA1,
      )) None
      (λ e. let open' =
      (and_parts (is_open s.phase) s.is_closing
      (and_parts (is_open s.phase && s.is_closing) _
      (and_parts (is_end_due s) (fits s.writing.meter END_A1_LEN) e).0).0).0 in
      events.goes (record (view s) { end_put = true }) came put (leg, Packet named.EndA1) refl
      (λ opening. absurd (not_both s.phase open' opening))
      (events.closes (view s) came put open' h))
      (λ e. tt)

  next_put : (s : ClientRole) → leg.kind ≡ ClientIn → leg.number ≡ s.writing.number
      → Holds s came put → Puts (put_next s)
  unfolding put_next put_due put_ack put_ack_of put_pdu
  next_put s k at h =
      or_put (due_by s s.replacement) _ (due_put s s.replacement refl k at h)
      (or_put (or_else (ack_by s Current (ack_due s Current)) (ack_by s Next (ack_due s Next))) _
      (or_put (ack_by s Current (ack_due s Current)) (ack_by s Next (ack_due s Next))
      (ack_put s Current (ack_due s Current) refl h) (ack_put s Next (ack_due s Next) refl h))
      (or_put (pdu_by s (front_length s.queue)) _
      (quiet_put s (pdu_by s (front_length s.queue)) (quiet_pdu s (front_length s.queue)) h)
      (or_put (put_end s) (put_ping s) (end_put s h)
      (quiet_put s (put_ping s) (quiet_ping s) h))))

  -- where so much was put of what its leg begins with
  writing_begun : (s : ClientRole) (o : Opening) → s.writing.opening ≡ o → Holds s came put
      → P (record (view s) { writing_begun = is_put o }) came put
  writing_begun s o e h =
      subst (λ (x : Opening). P (record (view s) { writing_begun = is_put x }) came put) e h

  writing_put : (s : ClientRole) (o : Opening) → s.writing.opening ≡ o → leg.kind ≡ ClientIn
      → leg.number ≡ s.writing.number → Holds s came put → Puts (put_writing s o)
  unfolding put_writing put_conn_b1
  writing_put s NotUp e k at h = tt
  writing_put s Request e k at h =
      events.goes (record (view s) { writing_begun = false }) came put
      (leg, Text (in_request s.config)) refl (λ opening on. refl) (writing_begun s Request e h)
  writing_put s First e k at h =
      by_test Puts (may_put s.writing.meter CONN_B1_LEN)
      (Some (
        record s { writing = begun_in (metered s.writing CONN_B1_LEN) Put },
        Packet (conn_b1 s),
      )) None
      (λ t. events.begins_writing (view s) came put (leg, Packet (conn_b1 s)) refl (λ on. refl)
      refl (inl refl) k at (writing_begun s First e h))
      (λ t. tt)
  writing_put s Second e k at h = tt
  writing_put s Put e k at h = next_put s k at h

  -- ---- on its successor

  in_begun : (s : ClientRole) (o : Opening) → s.in_successor.opening ≡ o → Holds s came put
      → P (record (view s) { in_asked = is_put o }) came put
  in_begun s o e h =
      subst (λ (x : Opening). P (record (view s) { in_asked = is_put x }) came put) e h

  in_successor_put : (s : ClientRole) (o : Opening) → s.in_successor.opening ≡ o
      → leg.kind ≡ ClientIn → leg.number ≡ s.in_successor.number
      → is_in s.replacement ≡ true → Holds s came put → Puts (put_in_successor s o)
  unfolding put_in_successor put_in_r1_a1 put_successor_ping
  in_successor_put s NotUp e k at is h = tt
  in_successor_put s Request e k at is h =
      events.goes (record (view s) { in_asked = false }) came put
      (leg, Text (in_request s.config)) refl (λ opening on. refl) (in_begun s Request e h)
  in_successor_put s First e k at is h =
      by_test Puts (may_put s.in_successor.meter IN_R1_A1_LEN)
      (Some (
        record s { in_successor = begun_in (metered s.in_successor IN_R1_A1_LEN) Put },
        Packet (in_r1_a1 s),
      )) None
      (λ t. events.asks_in (view s) came put (leg, Packet (in_r1_a1 s)) refl refl k at
      (rows.in_way_of s.replacement is) (in_begun s First e h))
      (λ t. tt)
  in_successor_put s Second e k at is h = tt
  in_successor_put s Put e k at is h =
      by_test Puts (s.in_successor.is_ping_due && may_put s.in_successor.meter PING_LEN) _ None
      (λ t. events.goes (view s) came put (leg, Packet named.Ping) refl (λ opening on. refl) h)
      (λ t. tt)

  in_put : (s : ClientRole) → leg.kind ≡ ClientIn → Holds s came put
      → Puts (put_in s leg.number)
  unfolding put_in
  in_put s k h =
      by_test Puts (is_writing s leg.number) (put_writing s s.writing.opening)
      (if is_in_successor s leg.number then put_in_successor s s.in_successor.opening else None)
      (λ e. writing_put s s.writing.opening refl k (same_number leg.number s.writing.number e) h)
      (λ e. by_test Puts (is_in_successor s leg.number)
      (put_in_successor s s.in_successor.opening) None
      (λ t. let parts = and_parts (is_in s.replacement) (leg.number == s.in_successor.number) t in
      in_successor_put s s.in_successor.opening refl k
      (same_number leg.number s.in_successor.number parts.1) parts.0 h)
      (λ t. tt))

  -- ---- on OUT channels

  not_in : leg.kind ≡ ClientOut → (m : Message) → IsGreeting (leg, m)
  not_in k m on = absurd (true≢false (sym on ∙ of_other ClientIn ClientOut leg k refl))

  current_begun : (s : ClientRole) (o : Opening) → s.current.opening ≡ o → Holds s came put
      → P (record (view s) { current_begun = is_asked o }) came put
  current_begun s o e h =
      subst (λ (x : Opening). P (record (view s) { current_begun = is_asked x }) came put) e h

  current_put : (s : ClientRole) (o : Opening) → s.current.opening ≡ o → leg.kind ≡ ClientOut
      → leg.number ≡ s.current.number → Holds s came put → Puts (put_current s o)
  unfolding put_current
  current_put s NotUp e k at h = tt
  current_put s Request e k at h =
      let m : Message = Text (out_request s.config CONN_A1_LEN) in
      events.goes (record (view s) { current_begun = false }) came put (leg, m) refl
      (λ opening. not_in k m) (current_begun s Request e h)
  current_put s First e k at h =
      events.begins_current (view s) came put (leg, Packet (conn_a1 s)) refl
      (not_in k (Packet (conn_a1 s))) refl (inl refl) k at (current_begun s First e h)
  current_put s Second e k at h = tt
  current_put s Put e k at h = tt

  out_begun : (s : ClientRole) (o : Opening) → s.out_successor.opening ≡ o → Holds s came put
      → P (record (view s) { out_asked = is_asked o }) came put
  out_begun s o e h =
      subst (λ (x : Opening). P (record (view s) { out_asked = is_asked x }) came put) e h

  out_successor_put : (s : ClientRole) (o : Opening) → s.out_successor.opening ≡ o
      → leg.kind ≡ ClientOut → leg.number ≡ s.out_successor.number
      → is_out s.replacement ≡ true → Holds s came put → Puts (put_out_successor s o)
  unfolding put_out_successor
  out_successor_put s NotUp e k at is h = tt
  out_successor_put s Request e k at is h =
      events.goes (record (view s) { out_asked = false }) came put
      (leg, Text (out_request s.config OUT_R1_A3_C1_LEN)) refl
      (λ opening. not_in k (Text (out_request s.config OUT_R1_A3_C1_LEN)))
      (out_begun s Request e h)
  out_successor_put s First e k at is h =
      events.asks_out (view s) s.config.window came put (leg, Packet (out_r1_a3 s)) refl refl k at
      (rows.is_past s.replacement is) (out_begun s First e h)
  out_successor_put s Second e k at is h =
      events.goes (record (view s) { out_asked = true }) came put
      (leg, Packet named.OutR2C1) refl
      (λ opening. not_in k (Packet named.OutR2C1)) (out_begun s Second e h)
  out_successor_put s Put e k at is h = tt

  out_put : (s : ClientRole) → leg.kind ≡ ClientOut → Holds s came put
      → Puts (put_out s leg.number)
  unfolding put_out
  out_put s k h =
      by_test Puts (is_current s leg.number) (put_current s s.current.opening)
      (if is_out_successor s leg.number then put_out_successor s s.out_successor.opening else None)
      (λ e. current_put s s.current.opening refl k (same_number leg.number s.current.number e) h)
      (λ e. by_test Puts (is_out_successor s leg.number)
      (put_out_successor s s.out_successor.opening) None
      (λ t. let parts = and_parts (is_out s.replacement) (leg.number == s.out_successor.number) t in
      out_successor_put s s.out_successor.opening refl k
      (same_number leg.number s.out_successor.number parts.1) parts.0 h)
      (λ t. tt))

  -- ---- a put

  settled_put : (pick : Pick) → Puts pick → Puts (settled_pick pick)
  settled_put None h = tt
  settled_put (Some pick) h =
      replacements.settled_or_wished_holds P events pick.0 came (put ++ (leg, pick.1) ∷ []) h

  pub puts_by : (s : ClientRole) (k : LegKind) → leg.kind ≡ k → Holds s came put
      → Puts (settled_pick (put_by s leg.number k))
  unfolding put_by
  puts_by s ClientOut e h = settled_put (put_out s leg.number) (out_put s e h)
  puts_by s ClientIn e h = settled_put (put_in s leg.number) (in_put s e h)
  puts_by s OutServer e h = tt
  puts_by s InServer e h = tt
