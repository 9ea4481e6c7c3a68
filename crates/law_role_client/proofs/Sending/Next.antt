-- the next message of a leg, as a client puts it
use Rattle.law_order.proofs.Vocabulary.{◌≡◌, ◌⊎◌, ℕ, ◌==◌, ◌&&◌, if◌then◌else◌, List, [], ◌∷◌, ◌++◌, Some, None, inl, inr, refl, sym, ap, subst, false≢true, and_parts, Option}
use Rattle.rh_sig.specs.declared.named.Named.TheVariants as named
use Rattle.rh_client.specs.declared.replacement.InStage.TheVariants as in_stage
use Rattle.rh_client.specs.declared.replacement.OutStage.TheVariants as out_stage
use Rattle.law_moves.proofs.Vocabulary.{Ack, may_put, fits, by_test, same_number, test_same, Cookie, Named, CONN_B1_LEN, IN_R1_A1_LEN, IN_R1_A5_LEN, OUT_R1_A7_LEN, END_A1_LEN, ACK_TO_LEN, PING_LEN, in_request, out_request, after_told, Leg, LegKind, ClientOut, OutServer, ClientIn, InServer, Which, Current, Next, Message, Text, Packet, OnLeg, of_leg, HasBegunIn, BeginsIn, BeginsOut}
use Rattle.law_moves.proofs.Lemmas.{last_one_so}
use Rattle.law_role_client.proofs.Vocabulary.{Opening, NotUp, Request, First, Second, Put, CONN_A1_LEN, OUT_R1_A3_C1_LEN, Replacement, NoneUnderWay, In, Out, ClientRole, is_up, is_put, metered, is_in, is_out, ci, co, is_writing, is_in_successor, is_current, is_out_successor, ack_due, cookie_of, handed_over, Pick, conn_a1, conn_b1, in_r1_a1, out_r1_a3, begun_in, begun_out, with_end_put, without_ping, put_conn_b1, put_in_r1_a1, put_current, put_out_successor, put_out, due_by}
use Rattle.law_role_client.proofs.Vocabulary.{put_due, ack_by, put_ack_of, put_ack, put_pdu, is_end_due, put_end, put_ping, put_successor_ping, put_next, put_writing, put_in_successor, put_in, settled_pick, put_by, or_else}
use Rattle.law_role_client.proofs.Sending.Logs.{leg_here}
use Rattle.law_role_client.proofs.Sending.Facts.{seen_in, BeginsSo, Kept, was_put}
use Rattle.law_role_client.proofs.Sending.Channels.{known_begun, with_writing, with_successor, with_current, with_out_successor}
use Rattle.law_role_client.proofs.Sending.Changes.{quiet, turned, settled_kept, handed_kept}
use Rattle.law_role_client.proofs.Sending.Puts.{Puts, or_put, IsPlain, text_plain, none_begun, plain_put, pdu_put}

only : {A : Type 0} → A ⊎ ⊥ → A
only (inl is) = is
only (inr never) = absurd never

-- a packet that begins nothing
packet_plain : (packet : Named) → ((cookie : Cookie) → BeginsIn cookie packet → ⊥)
    → ((cookie : Cookie) → BeginsOut cookie packet → ⊥) → IsPlain (Packet packet)
packet_plain packet no_in no_out = record {
  bytes = refl;
  ins = λ cookie is. no_in cookie (only is);
  outs = λ cookie is. no_out cookie (only is);
}

module _ (Comes : Leg → Cookie → Type 0) where
  -- ---- behind what the writing channel begins with

  due_put : (s : ClientRole) (came put : List OnLeg) → Kept Comes s came put
      → Puts Comes (ci s.writing.number) came put (put_due s)
  unfolding put_due
  due_put s came put h = by s.replacement refl
    where
      a5 : Named
      a5 = named.InR1A5 s.in_successor.cookie

      a7 : Named
      a7 = named.OutR1A7 2 s.out_successor.cookie

      by : (r : Replacement) → s.replacement ≡ r
          → Puts Comes (ci s.writing.number) came put (due_by s r)
      by NoneUnderWay e = tt
      by (In in_stage.Asked out_waits) e = tt
      by (In in_stage.Answered out_waits) e =
          by_test (Puts Comes (ci s.writing.number) came put) (fits s.writing.meter IN_R1_A5_LEN)
          (Some (handed_over s out_waits, Packet (named.InR1A5 s.in_successor.cookie))) None
          (λ f. was_put Comes (handed_over s out_waits) came put
          (ci s.writing.number, Packet (named.InR1A5 s.in_successor.cookie)) refl
          (none_begun Comes (ci s.writing.number)
          (Packet (named.InR1A5 s.in_successor.cookie))
          (packet_plain a5 (λ c never. never) (λ c never. never)))
          (handed_kept Comes s out_waits came put (ap is_in e) h))
          (λ f. tt)
      by (Out out_stage.Asked waiting) e = tt
      by (Out out_stage.Answered waiting) e =
          let t : ClientRole = record s {
            writing = metered s.writing OUT_R1_A7_LEN;
            replacement = Out out_stage.Switched waiting;
          } in
          by_test (Puts Comes (ci s.writing.number) came put) (fits s.writing.meter OUT_R1_A7_LEN)
          (Some (t, Packet (named.OutR1A7 2 s.out_successor.cookie))) None
          (λ f. plain_put Comes s t (ci s.writing.number)
          (Packet (named.OutR1A7 2 s.out_successor.cookie)) came put
          (quiet s t (turned s (Out out_stage.Switched waiting) (sym (ap is_in e))) refl)
          (packet_plain a7 (λ c never. never) (λ c never. never)) h)
          (λ f. tt)
      by (Out out_stage.Switched waiting) e = tt
      by (Out out_stage.Finished waiting) e = tt

  ack_put : (s : ClientRole) (which : Which) (o : Option Ack) (came put : List OnLeg)
      → Kept Comes s came put → Puts Comes (ci s.writing.number) came put (ack_by s which o)
  ack_put s which None came put h = tt
  ack_put s which (Some ack) came put h =
      let t : ClientRole = record s {
        line = after_told s.line which ack;
        writing = metered s.writing ACK_TO_LEN;
      } in
      let packet = named.AckTo 3 ack.received ack.available (cookie_of s which) in
      by_test (Puts Comes (ci s.writing.number) came put) (may_put s.writing.meter ACK_TO_LEN)
      (Some (t, Packet packet)) None
      (λ e. plain_put Comes s t (ci s.writing.number) (Packet packet) came put
      (quiet s t refl refl) (packet_plain packet (λ c never. never) (λ c never. never)) h)
      (λ e. tt)

  acks_put : (s : ClientRole) (came put : List OnLeg) → Kept Comes s came put
      → Puts Comes (ci s.writing.number) came put (put_ack s)
  unfolding put_ack put_ack_of
  acks_put s came put h =
      or_put Comes (ci s.writing.number) came put (ack_by s Current (ack_due s Current))
      (ack_by s Next (ack_due s Next)) (ack_put s Current (ack_due s Current) came put h)
      (ack_put s Next (ack_due s Next) came put h)

  end_put : (s : ClientRole) (came put : List OnLeg) → Kept Comes s came put
      → Puts Comes (ci s.writing.number) came put (put_end s)
  unfolding put_end
  end_put s came put h =
      let t : ClientRole = record s {
        writing = with_end_put (metered s.writing END_A1_LEN);
      } in
      by_test (Puts Comes (ci s.writing.number) came put)
      (is_end_due s && fits s.writing.meter END_A1_LEN)
      (Some (t, Packet named.EndA1)) None
      (λ e. plain_put Comes s t (ci s.writing.number) (Packet named.EndA1) came put
      (quiet s t refl refl) (packet_plain named.EndA1 (λ c never. never) (λ c never. never)) h)
      (λ e. tt)

  ping_put : (s : ClientRole) (came put : List OnLeg) → Kept Comes s came put
      → Puts Comes (ci s.writing.number) came put (put_ping s)
  unfolding put_ping
  ping_put s came put h =
      let t : ClientRole = record s { writing = without_ping (metered s.writing PING_LEN) } in
      by_test (Puts Comes (ci s.writing.number) came put)
      (s.writing.is_ping_due && may_put s.writing.meter PING_LEN)
      (Some (t, Packet named.Ping)) None
      (λ e. plain_put Comes s t (ci s.writing.number) (Packet named.Ping) came put
      (quiet s t refl refl) (packet_plain named.Ping (λ c never. never) (λ c never. never)) h)
      (λ e. tt)

  pdus_put : (s : ClientRole) (came put : List OnLeg) → s.writing.opening ≡ Put
      → Kept Comes s came put → Puts Comes (ci s.writing.number) came put (put_pdu s)
  unfolding put_pdu
  pdus_put s came put e h = pdu_put Comes s s.queue came put refl (ap is_put e) h

  next_put : (s : ClientRole) (came put : List OnLeg) → s.writing.opening ≡ Put
      → Kept Comes s came put → Puts Comes (ci s.writing.number) came put (put_next s)
  unfolding put_next
  next_put s came put e h =
      let leg = ci s.writing.number in
      or_put Comes leg came put (put_due s)
      (or_else (put_ack s) (or_else (put_pdu s) (or_else (put_end s) (put_ping s))))
      (due_put s came put h)
      (or_put Comes leg came put (put_ack s)
      (or_else (put_pdu s) (or_else (put_end s) (put_ping s))) (acks_put s came put h)
      (or_put Comes leg came put (put_pdu s) (or_else (put_end s) (put_ping s))
      (pdus_put s came put e h)
      (or_put Comes leg came put (put_end s) (put_ping s) (end_put s came put h)
      (ping_put s came put h))))

  -- ---- what a leg begins with

  begins_in : (n : ℕ) (cookie : Cookie) (packet : Named)
      → ((x : Cookie) → BeginsIn x packet → cookie ≡ x)
      → ((x : Cookie) → BeginsOut x packet → ⊥) → Comes (ci n) cookie
      → BeginsSo Comes (ci n) (Packet packet)
  begins_in n cookie packet is never comes = (
    λ k x e begun. subst (λ (y : Cookie). Comes (ci k) y) (is x (only begun))
        (subst (λ (j : ℕ). Comes (ci j) cookie) (same_number n k e) comes),
    λ k x e begun. absurd (never x (only begun)),
  )

  begins_out : (n : ℕ) (cookie : Cookie) (packet : Named)
      → ((x : Cookie) → BeginsIn x packet → ⊥)
      → ((x : Cookie) → BeginsOut x packet → cookie ≡ x) → Comes (co n) cookie
      → BeginsSo Comes (co n) (Packet packet)
  begins_out n cookie packet never is comes = (
    λ k x e begun. absurd (never x (only begun)),
    λ k x e begun. subst (λ (y : Cookie). Comes (co k) y) (is x (only begun))
        (subst (λ (j : ℕ). Comes (co j) cookie) (same_number n k e) comes),
  )

  -- the packet that begins an IN channel was put there
  begun_there : (n : ℕ) (cookie : Cookie) (packet : Named) (put : List OnLeg)
      → BeginsIn cookie packet
      → HasBegunIn cookie (of_leg (ci n) (put ++ (ci n, Packet packet) ∷ []))
  begun_there n cookie packet put is =
      subst (λ (ms : List Message). HasBegunIn cookie ms)
      (sym (leg_here (ci n) put (ci n, Packet packet) (test_same n)))
      (last_one_so (BeginsIn cookie) (of_leg (ci n) put) packet is)

  writing_put : (s : ClientRole) (o : Opening) (came put : List OnLeg) → s.writing.opening ≡ o
      → Kept Comes s came put → Puts Comes (ci s.writing.number) came put (put_writing s o)
  unfolding put_writing put_conn_b1
  writing_put s NotUp came put e h = tt
  writing_put s Request came put e h =
      let text : Message = Text (in_request s.config) in
      let one : OnLeg = (ci s.writing.number, text) in
      let k = was_put Comes s came put one refl
      (none_begun Comes (ci s.writing.number) text (text_plain (in_request s.config))) h in
      with_writing Comes s (begun_in s.writing First) came (put ++ one ∷ []) refl
      (known_begun Comes (seen_in s.writing) First came (put ++ one ∷ []) (ap is_up e) refl
      (λ f. absurd (false≢true f)) k.so.writing) k.still k
  writing_put s First came put e h =
      let leg = ci s.writing.number in
      let c = begun_in (metered s.writing CONN_B1_LEN) Put in
      by_test (Puts Comes leg came put) (may_put s.writing.meter CONN_B1_LEN)
      (Some (record s { writing = c }, Packet (conn_b1 s))) None
      (λ f.
      let one : OnLeg = (leg, Packet (conn_b1 s)) in
      let k = was_put Comes s came put one refl
      (begins_in s.writing.number s.writing.cookie (conn_b1 s) (λ x is. is) (λ x never. never)
      (h.so.writing.comes (ap is_up e))) h in
      with_writing Comes s c came (put ++ one ∷ []) refl
      (known_begun Comes (seen_in s.writing) Put came (put ++ one ∷ []) (ap is_up e) refl
      (λ g. begun_there s.writing.number s.writing.cookie (conn_b1 s) put refl) k.so.writing)
      k.still k)
      (λ f. tt)
  writing_put s Second came put e h = tt
  writing_put s Put came put e h = next_put s came put e h

  successor_put : (s : ClientRole) (o : Opening) (came put : List OnLeg)
      → s.in_successor.opening ≡ o → Kept Comes s came put
      → Puts Comes (ci s.in_successor.number) came put (put_in_successor s o)
  unfolding put_in_successor put_in_r1_a1 put_successor_ping
  successor_put s NotUp came put e h = tt
  successor_put s Request came put e h =
      let text : Message = Text (in_request s.config) in
      let one : OnLeg = (ci s.in_successor.number, text) in
      let k = was_put Comes s came put one refl
      (none_begun Comes (ci s.in_successor.number) text (text_plain (in_request s.config)))
      h in
      with_successor Comes s (begun_in s.in_successor First) came (put ++ one ∷ []) refl
      (known_begun Comes (seen_in s.in_successor) First came (put ++ one ∷ []) (ap is_up e) refl
      (λ f. absurd (false≢true f)) k.so.in_successor) k
  successor_put s First came put e h =
      let leg = ci s.in_successor.number in
      let c = begun_in (metered s.in_successor IN_R1_A1_LEN) Put in
      by_test (Puts Comes leg came put) (may_put s.in_successor.meter IN_R1_A1_LEN)
      (Some (record s { in_successor = c }, Packet (in_r1_a1 s))) None
      (λ f.
      let one : OnLeg = (leg, Packet (in_r1_a1 s)) in
      let k = was_put Comes s came put one refl
      (begins_in s.in_successor.number s.in_successor.cookie (in_r1_a1 s) (λ x is. is)
      (λ x never. never) (h.so.in_successor.comes (ap is_up e))) h in
      with_successor Comes s c came (put ++ one ∷ []) refl
      (known_begun Comes (seen_in s.in_successor) Put came (put ++ one ∷ []) (ap is_up e) refl
      (λ g. begun_there s.in_successor.number s.in_successor.cookie (in_r1_a1 s) put refl)
      k.so.in_successor) k)
      (λ f. tt)
  successor_put s Second came put e h = tt
  successor_put s Put came put e h =
      let leg = ci s.in_successor.number in
      let t : ClientRole = record s {
        in_successor = without_ping (metered s.in_successor PING_LEN);
      } in
      by_test (Puts Comes leg came put)
      (s.in_successor.is_ping_due && may_put s.in_successor.meter PING_LEN)
      (Some (t, Packet named.Ping)) None
      (λ f. plain_put Comes s t leg (Packet named.Ping) came put (quiet s t refl refl)
      (packet_plain named.Ping (λ c never. never) (λ c never. never)) h)
      (λ f. tt)

  current_put : (s : ClientRole) (o : Opening) (came put : List OnLeg) → s.current.opening ≡ o
      → Kept Comes s came put → Puts Comes (co s.current.number) came put (put_current s o)
  unfolding put_current
  current_put s NotUp came put e h = tt
  current_put s Request came put e h =
      let text : Message = Text (out_request s.config CONN_A1_LEN) in
      let one : OnLeg = (co s.current.number, text) in
      with_current Comes s (begun_out s.current First) came (put ++ one ∷ [])
      (λ f. h.so.current (ap is_up e))
      (was_put Comes s came put one refl
      (none_begun Comes (co s.current.number) text
      (text_plain (out_request s.config CONN_A1_LEN))) h)
  current_put s First came put e h =
      let one : OnLeg = (co s.current.number, Packet (conn_a1 s)) in
      with_current Comes s (begun_out s.current Put) came (put ++ one ∷ [])
      (λ f. h.so.current (ap is_up e))
      (was_put Comes s came put one refl
      (begins_out s.current.number s.current.cookie (conn_a1 s) (λ x never. never) (λ x is. is)
      (h.so.current (ap is_up e))) h)
  current_put s Second came put e h = tt
  current_put s Put came put e h = tt

  out_successor_put : (s : ClientRole) (o : Opening) (came put : List OnLeg)
      → s.out_successor.opening ≡ o → Kept Comes s came put
      → Puts Comes (co s.out_successor.number) came put (put_out_successor s o)
  unfolding put_out_successor
  out_successor_put s NotUp came put e h = tt
  out_successor_put s Request came put e h =
      let text : Message = Text (out_request s.config OUT_R1_A3_C1_LEN) in
      let one : OnLeg = (co s.out_successor.number, text) in
      with_out_successor Comes s (begun_out s.out_successor First) came (put ++ one ∷ [])
      (λ f. h.so.out_successor (ap is_up e))
      (was_put Comes s came put one refl
      (none_begun Comes (co s.out_successor.number) text
      (text_plain (out_request s.config OUT_R1_A3_C1_LEN))) h)
  out_successor_put s First came put e h =
      let one : OnLeg = (co s.out_successor.number, Packet (out_r1_a3 s)) in
      with_out_successor Comes s (begun_out s.out_successor Second) came (put ++ one ∷ [])
      (λ f. h.so.out_successor (ap is_up e))
      (was_put Comes s came put one refl
      (begins_out s.out_successor.number s.out_successor.cookie (out_r1_a3 s) (λ x never. never)
      (λ x is. is) (h.so.out_successor (ap is_up e))) h)
  out_successor_put s Second came put e h =
      let leg = co s.out_successor.number in
      let one : OnLeg = (leg, Packet named.OutR2C1) in
      with_out_successor Comes s (begun_out s.out_successor Put) came (put ++ one ∷ [])
      (λ f. h.so.out_successor (ap is_up e))
      (was_put Comes s came put one refl
      (none_begun Comes leg (Packet named.OutR2C1)
      (packet_plain named.OutR2C1 (λ c never. never) (λ c never. never))) h)
  out_successor_put s Put came put e h = tt

  -- ---- on a leg

  in_put : (s : ClientRole) (n : ℕ) (came put : List OnLeg) → Kept Comes s came put
      → Puts Comes (ci n) came put (put_in s n)
  unfolding put_in
  in_put s n came put h =
      by_test (Puts Comes (ci n) came put) (is_writing s n) (put_writing s s.writing.opening)
      (if is_in_successor s n then put_in_successor s s.in_successor.opening else None)
      (λ e. subst (λ (k : ℕ). Puts Comes (ci k) came put (put_writing s s.writing.opening))
      (sym (same_number n s.writing.number e))
      (writing_put s s.writing.opening came put refl h))
      (λ e. by_test (Puts Comes (ci n) came put) (is_in_successor s n)
      (put_in_successor s s.in_successor.opening) None
      (λ f. subst
      (λ (k : ℕ). Puts Comes (ci k) came put (put_in_successor s s.in_successor.opening))
      (sym (same_number n s.in_successor.number
      (and_parts (is_in s.replacement) (n == s.in_successor.number) f).1))
      (successor_put s s.in_successor.opening came put refl h))
      (λ f. tt))

  out_put : (s : ClientRole) (n : ℕ) (came put : List OnLeg) → Kept Comes s came put
      → Puts Comes (co n) came put (put_out s n)
  unfolding put_out
  out_put s n came put h =
      by_test (Puts Comes (co n) came put) (is_current s n) (put_current s s.current.opening)
      (if is_out_successor s n then put_out_successor s s.out_successor.opening else None)
      (λ e. subst (λ (k : ℕ). Puts Comes (co k) came put (put_current s s.current.opening))
      (sym (same_number n s.current.number e))
      (current_put s s.current.opening came put refl h))
      (λ e. by_test (Puts Comes (co n) came put) (is_out_successor s n)
      (put_out_successor s s.out_successor.opening) None
      (λ f. subst
      (λ (k : ℕ). Puts Comes (co k) came put (put_out_successor s s.out_successor.opening))
      (sym (same_number n s.out_successor.number
      (and_parts (is_out s.replacement) (n == s.out_successor.number) f).1))
      (out_successor_put s s.out_successor.opening came put refl h))
      (λ f. tt))

  settled_put : (leg : Leg) (came put : List OnLeg) (pick : Pick) → Puts Comes leg came put pick
      → Puts Comes leg came put (settled_pick pick)
  settled_put leg came put None h = tt
  settled_put leg came put (Some one) h =
      settled_kept Comes one.0 came (put ++ (leg, one.1) ∷ []) h

  pub put_kept : (s : ClientRole) (n : ℕ) (kind : LegKind) (came put : List OnLeg)
      → Kept Comes s came put
      → Puts Comes (record { kind = kind; number = n }) came put (settled_pick (put_by s n kind))
  unfolding put_by
  put_kept s n ClientOut came put h =
      settled_put (co n) came put (put_out s n) (out_put s n came put h)
  put_kept s n ClientIn came put h =
      settled_put (ci n) came put (put_in s n) (in_put s n came put h)
  put_kept s n OutServer came put h = tt
  put_kept s n InServer came put h = tt
