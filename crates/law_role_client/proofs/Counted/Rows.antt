-- what comes to a client, its legs and what it is given, are events of its replacements
use Rattle.std.specs.Option.{is_some}
use Rattle.law_order.proofs.Vocabulary.{◌≡◌, ◌⊎◌, inl, inr, ℕ, ◌==◌, Bool, true, false, not, ◌&&◌, ◌||◌, nat_lt, if◌then◌else◌, List, [], ◌∷◌, ◌++◌, Some, None, Ok, Err, rules, refl, sym, ap, ◌∙◌, subst, and_parts, Option}
use Rattle.rh_sig.specs.declared.named.Named.TheVariants as named
use Rattle.rh_shell.specs.declared.answers.Phase.TheVariants as phase
use Rattle.rh_client.specs.declared.replacement.InStage.TheVariants as in_stage
use Rattle.rh_client.specs.declared.replacement.OutStage.TheVariants as out_stage
use Rattle.rh_client.specs.declared.replacement.Waits.TheVariants as waits
use Rattle.rh_client.specs.Client as client
use Rattle.law_moves.proofs.Vocabulary.{by_test, same_number, Cookie, Named, admit_verdict, after_admit, after_end, after_finish, channel_of, Leg, LegKind, ClientOut, OutServer, ClientIn, InServer, Which, Count, Row, Pdu, Packet, OnLeg}
use Rattle.law_moves.proofs.Lemmas.{Fact, RowKeeps}
use Rattle.law_role_client.proofs.Vocabulary.{Opening, NotUp, Request, First, Second, Put, LAST_NUMBER, Replacement, NoneUnderWay, In, Out, OutStage, ClientRole, is_up, is_put, is_asked, told_in, is_named, in_up, out_up, is_in, is_out, has_out, with_out, Done, taken, unexpected, settled, is_open, is_opening, is_writing, is_in_successor, is_current, is_out_successor, up_by, wants_by, on_conn_a3, on_conn_c2, with_next, pdu_on, admit_row, on_ack_to, ack_named, acked, ack_row}
use Rattle.law_role_client.proofs.Vocabulary.{answer_by, passed, a2_by, a6_by, a10_by, on_out_r1_a2, on_out_r1_a6, give, drawn_by, on_end_b2, end_on, end_channel, ping_by, on_packet, packet_by}
use Rattle.law_role_client.proofs.Counted.Views.{View, view, view_by, way_of, out_way, is_in_way, is_out_way, newest_out, marks, unmarked, EventsKeep}
use Rattle.law_role_client.proofs.Counted.Replacements.{at_replacement, same_holds, begin_out_holds, settled_holds, passed_holds}
use Rattle.law_role_client.proofs.Sending.Laws.{not_so as not_true}
use Rattle.law_role_client.proofs.Counted.Replacements as replacements

first_of : (a b c : Bool) → a || (b && c) ≡ true → b ≡ false → a ≡ true
first_of true b c e o = refl
first_of false true c e o = absurd (cc)
first_of false false c e o = absurd (cc)

second_of : (a b c d : Bool) → (a && not b) || (c && not d) ≡ true → a ≡ false
    → (c ≡ true) × (d ≡ false)
second_of true b c d e o = absurd (cc)
second_of false b true true e o = absurd (cc)
second_of false b true false e o = (refl, refl)
second_of false b false d e o = absurd (cc)

either_of : (a b c d : Bool) → (a && not b) || (c && not d) ≡ true → (b ≡ false) ⊎ (c ≡ true)
either_of true false c d e = inl refl
either_of true true true d e = inr refl
either_of true true false d e = absurd (cc)
either_of false b true d e = inr refl
either_of false b false d e = absurd (cc)

pub not_false : (b : Bool) → not b ≡ false → b ≡ true
not_false true e = refl
not_false false e = absurd (cc)

pub in_way_of : (r : Replacement) → is_in r ≡ true → is_in_way (way_of r) ≡ true
in_way_of NoneUnderWay e = absurd (cc)
in_way_of (In in_stage.Asked w) e = refl
in_way_of (In in_stage.Answered w) e = refl
in_way_of (Out stage w) e = absurd (cc)

pub is_past : (r : Replacement) → is_out r ≡ true → is_out_way (way_of r) ≡ true
is_past NoneUnderWay e = absurd (cc)
is_past (In stage w) e = absurd (cc)
is_past (Out out_stage.Asked w) e = refl
is_past (Out out_stage.Answered w) e = refl
is_past (Out out_stage.Switched w) e = refl
is_past (Out out_stage.Finished w) e = refl

newest_is : (stage : OutStage) (a b : ℕ) → (if is_out_way (out_way stage) then a else b) ≡ a
newest_is out_stage.Asked a b = refl
newest_is out_stage.Answered a b = refl
newest_is out_stage.Switched a b = refl
newest_is out_stage.Finished a b = refl

module _ (P : Fact View) (events : EventsKeep P) where
  abbrev Holds : Fact ClientRole
  Holds = replacements.Holds P events

  -- ---- rows

  quiet_row : (s : ClientRole) (one : OnLeg) (came put : List OnLeg)
      → marks one.1 ≡ unmarked → Holds s came put → (x : Done) → view x.0 ≡ view s
      → RowKeeps Holds one came put x
  quiet_row s one came put other h (t, Ok took) same =
      events.comes (view t) came put one other (same_holds P events s t came put same h)
  quiet_row s one came put other h (t, Err refused) same = same_holds P events s t came put same h

  c2_row : (s : ClientRole) (leg : Leg) (v window timeout : ℕ) (came put : List OnLeg)
      → leg.kind ≡ ClientOut → Holds s came put
      → RowKeeps Holds (leg, Packet (named.ConnC2 v window timeout)) came put
      (on_conn_c2 s leg.number window timeout)
  c2_row s leg v window timeout came put k h =
      by_test (RowKeeps Holds (leg, Packet (named.ConnC2 v window timeout)) came put)
      ((leg.number == 1 && is_current s leg.number)
      && (is_opening s.phase && is_some s.current.timeout))
      (taken (record s { phase = phase.Open; writing = told_in s.writing window timeout }))
      (unexpected s)
      (λ e. events.opens (view s) came put (leg, Packet (named.ConnC2 v window timeout)) refl k
      (and_parts _ _ (and_parts _ _ e).1).0 h)
      (λ e. h)

  answer_row : (s : ClientRole) (leg : Leg) (m : Named) (window timeout : ℕ) (r : Replacement)
      (came put : List OnLeg) → s.replacement ≡ r
      → marks (Packet m) ≡ record unmarked { answers_in = true } → leg.kind ≡ ClientOut
      → Holds s came put
      → RowKeeps Holds (leg, Packet m) came put (answer_by s window timeout r)
  answer_row s leg m window timeout NoneUnderWay came put e is k h = h
  answer_row s leg m window timeout (In in_stage.Asked w) came put e is k h =
      by_test (RowKeeps Holds (leg, Packet m) came put) (is_put s.in_successor.opening)
      (taken (record s {
        in_successor = told_in s.in_successor window timeout;
        replacement = In in_stage.Answered w;
      }))
      (unexpected s)
      (λ asked. events.answers_in (view_by s (In in_stage.Asked w)) came put (leg, Packet m) is k
      asked (at_replacement P events s (In in_stage.Asked w) came put e h))
      (λ o. h)
  answer_row s leg m window timeout (In in_stage.Answered w) came put e is k h = h
  answer_row s leg m window timeout (Out stage w) came put e is k h = h

  -- for the client, which has the destination 0
  answer_if : (s : ClientRole) (leg : Leg) (m : Named) (to window timeout : ℕ)
      (came put : List OnLeg) → marks (Packet m) ≡ record unmarked { answers_in = true }
      → leg.kind ≡ ClientOut → Holds s came put
      → RowKeeps Holds (leg, Packet m) came put
      (if to == 0 then answer_by s window timeout s.replacement else unexpected s)
  answer_if s leg m to window timeout came put is k h =
      by_test (RowKeeps Holds (leg, Packet m) came put) (to == 0)
      (answer_by s window timeout s.replacement) (unexpected s)
      (λ e. answer_row s leg m window timeout s.replacement came put refl is k h) (λ e. h)

  -- an OUT channel that is not replaced is the newest one
  a2_now : (s : ClientRole) (leg : Leg) (to : ℕ) (r : Replacement) (came put : List OnLeg)
      → s.replacement ≡ r → is_out r ≡ false → leg.kind ≡ ClientOut
      → is_current s leg.number || is_out_successor s leg.number ≡ true
      → nat_lt leg.number LAST_NUMBER ≡ true → nat_lt s.current.number LAST_NUMBER ≡ true
  a2_now s leg to r came put e none k there lower =
      subst (λ (n : ℕ). nat_lt n LAST_NUMBER ≡ true)
      (same_number leg.number s.current.number
      (first_of (is_current s leg.number) (is_out s.replacement)
      (leg.number == s.out_successor.number) there (ap is_out e ∙ none)))
      lower

  a2_row : (s : ClientRole) (leg : Leg) (to : ℕ) (r : Replacement) (came put : List OnLeg)
      → s.replacement ≡ r → leg.kind ≡ ClientOut
      → is_current s leg.number || is_out_successor s leg.number ≡ true
      → is_open s.phase ≡ true → nat_lt leg.number LAST_NUMBER ≡ true → Holds s came put
      → RowKeeps Holds (leg, Packet (named.OutR1A2 to)) came put (a2_by s leg.number r)
  a2_row s leg to NoneUnderWay came put e k there open' lower h =
      let one : OnLeg = (leg, Packet (named.OutR1A2 to)) in
      begin_out_holds P events s waits.Out (came ++ one ∷ []) put refl
      (events.wants_out (view_by s NoneUnderWay) came put one refl k open' refl
      (a2_now s leg to NoneUnderWay came put e refl k there lower)
      (at_replacement P events s NoneUnderWay came put e h))
  a2_row s leg to (In in_stage.Asked false) came put e k there open' lower h =
      events.wants_out (view_by s (In in_stage.Asked false)) came put
      (leg, Packet (named.OutR1A2 to)) refl k open' refl
      (a2_now s leg to (In in_stage.Asked false) came put e refl k there lower)
      (at_replacement P events s (In in_stage.Asked false) came put e h)
  a2_row s leg to (In in_stage.Answered false) came put e k there open' lower h =
      events.wants_out (view_by s (In in_stage.Answered false)) came put
      (leg, Packet (named.OutR1A2 to)) refl k open' refl
      (a2_now s leg to (In in_stage.Answered false) came put e refl k there lower)
      (at_replacement P events s (In in_stage.Answered false) came put e h)
  a2_row s leg to (In stage true) came put e k there open' lower h = h
  a2_row s leg to (Out stage w) came put e k there open' lower h =
      by_test (RowKeeps Holds (leg, Packet (named.OutR1A2 to)) came put)
      (is_out_successor s leg.number && not (has_out w))
      (taken (record s { replacement = Out stage (with_out w) })) (unexpected s)
      (λ t. let parts = and_parts (is_out_successor s leg.number) (not (has_out w)) t in
      let number : leg.number ≡ s.out_successor.number =
      same_number leg.number s.out_successor.number
      (and_parts (is_out s.replacement) (leg.number == s.out_successor.number) parts.0).1 in
      let newest : nat_lt (newest_out (view_by s (Out stage w))) LAST_NUMBER ≡ true =
      subst (λ (n : ℕ). nat_lt n LAST_NUMBER ≡ true)
      (number ∙ sym (newest_is stage s.out_successor.number s.current.number)) lower in
      events.wants_out (view_by s (Out stage w)) came put (leg, Packet (named.OutR1A2 to)) refl k
      open' (not_true (has_out w) parts.1) newest
      (at_replacement P events s (Out stage w) came put e h))
      (λ t. h)

  a2_if : (s : ClientRole) (leg : Leg) (to : ℕ) (came put : List OnLeg) → leg.kind ≡ ClientOut
      → is_current s leg.number || is_out_successor s leg.number ≡ true → Holds s came put
      → RowKeeps Holds (leg, Packet (named.OutR1A2 to)) came put (on_out_r1_a2 s leg.number to)
  a2_if s leg to came put k there h =
      by_test (RowKeeps Holds (leg, Packet (named.OutR1A2 to)) came put)
      (is_open s.phase && (to == 0 && nat_lt leg.number LAST_NUMBER))
      (a2_by s leg.number s.replacement) (unexpected s)
      (λ e. let parts = and_parts (is_open s.phase) _ e in
      a2_row s leg to s.replacement came put refl k there parts.0 (and_parts _ _ parts.1).1 h)
      (λ e. h)

  a6_row : (s : ClientRole) (leg : Leg) (to v timeout : ℕ) (r : Replacement)
      (came put : List OnLeg) → s.replacement ≡ r → leg.kind ≡ ClientOut
      → leg.number ≡ s.current.number → Holds s came put
      → RowKeeps Holds (leg, Packet (named.OutR1A6 to v timeout)) came put (a6_by s timeout r)
  a6_row s leg to v timeout NoneUnderWay came put e k at h = h
  a6_row s leg to v timeout (In stage w) came put e k at h = h
  a6_row s leg to v timeout (Out out_stage.Asked w) came put e k at h =
      by_test (RowKeeps Holds (leg, Packet (named.OutR1A6 to v timeout)) came put)
      (is_asked s.out_successor.opening)
      (taken (record s {
        out_successor = record (s.out_successor) { timeout = Some timeout };
        replacement = Out out_stage.Answered w;
      }))
      (unexpected s)
      (λ asked. events.answers_out (view_by s (Out out_stage.Asked w)) came put
      (leg, Packet (named.OutR1A6 to v timeout)) refl k at asked
      (at_replacement P events s (Out out_stage.Asked w) came put e h))
      (λ o. h)
  a6_row s leg to v timeout (Out out_stage.Answered w) came put e k at h = h
  a6_row s leg to v timeout (Out out_stage.Switched w) came put e k at h = h
  a6_row s leg to v timeout (Out out_stage.Finished w) came put e k at h = h

  a6_if : (s : ClientRole) (leg : Leg) (to v timeout : ℕ) (came put : List OnLeg)
      → leg.kind ≡ ClientOut → Holds s came put
      → RowKeeps Holds (leg, Packet (named.OutR1A6 to v timeout)) came put
      (on_out_r1_a6 s leg.number to timeout)
  a6_if s leg to v timeout came put k h =
      by_test (RowKeeps Holds (leg, Packet (named.OutR1A6 to v timeout)) came put)
      (to == 0 && is_current s leg.number) (a6_by s timeout s.replacement) (unexpected s)
      (λ e. a6_row s leg to v timeout s.replacement came put refl k
      (same_number leg.number s.current.number (and_parts _ _ e).1) h)
      (λ e. h)

  a10_row : (s : ClientRole) (leg : Leg) (r : Replacement) (came put : List OnLeg)
      → s.replacement ≡ r → leg.kind ≡ ClientOut → Holds s came put
      → RowKeeps Holds (leg, Packet named.OutR1A10) came put (a10_by s leg.number r)
  a10_row s leg NoneUnderWay came put e k h = h
  a10_row s leg (In stage w) came put e k h = h
  a10_row s leg (Out out_stage.Asked w) came put e k h = h
  a10_row s leg (Out out_stage.Answered w) came put e k h = h
  a10_row s leg (Out out_stage.Switched w) came put e k h =
      let f : ClientRole = record s {
        line = after_finish s.line;
        replacement = Out out_stage.Finished w;
      } in
      let one : OnLeg = (leg, Packet named.OutR1A10) in
      by_test (RowKeeps Holds one came put) (s.line.has_next && is_current s leg.number)
      (taken (passed f)) (unexpected s)
      (λ t. passed_holds P events f (came ++ one ∷ []) put
      (events.finishes (view_by (record s { line = after_finish s.line })
      (Out out_stage.Switched w)) came put one refl k
      (same_number leg.number s.current.number (and_parts _ _ t).1)
      (events.fills (view_by s (Out out_stage.Switched w)) (after_finish s.line) came put
      (inr refl) (at_replacement P events s (Out out_stage.Switched w) came put e h))))
      (λ t. h)
  a10_row s leg (Out out_stage.Finished w) came put e k h = h

  end_row : (s : ClientRole) (leg : Leg) (o : Option Which) (came put : List OnLeg)
      → is_open s.phase ≡ true → Holds s came put
      → RowKeeps Holds (leg, Packet named.EndB2) came put (end_on s o)
  end_row s leg None came put open' h = h
  end_row s leg (Some which) came put open' h =
      let one : OnLeg = (leg, Packet named.EndB2) in
      by_test (RowKeeps Holds one came put) (channel_of s.line which).ended (unexpected s)
      (taken (settled (record s { line = after_end s.line which })))
      (λ e. h)
      (λ e. settled_holds P events (record s { line = after_end s.line which })
      (came ++ one ∷ []) put
      (events.fills (view s) (after_end s.line which) (came ++ one ∷ []) put (inl open')
      (events.comes (view s) came put one refl h)))

  end_if : (s : ClientRole) (leg : Leg) (came put : List OnLeg) → Holds s came put
      → RowKeeps Holds (leg, Packet named.EndB2) came put (on_end_b2 s leg.number)
  end_if s leg came put h =
      by_test (RowKeeps Holds (leg, Packet named.EndB2) came put) (is_open s.phase)
      (end_on s (end_channel s leg.number)) (unexpected s)
      (λ e. end_row s leg (end_channel s leg.number) came put e h) (λ e. h)

  -- ---- the other rows leave it alone

  -- of two answers that do
  either : (s : ClientRole) (b : Bool) (x y : Done) → view x.0 ≡ view s → view y.0 ≡ view s
      → view (if b then x else y).0 ≡ view s
  either s true x y l m = l
  either s false x y l m = m

  same_ack : (s : ClientRole) (to r a : ℕ) (of : Cookie)
      → view (on_ack_to s to r a of).0 ≡ view s
  same_ack s to r a of =
      either s (is_open s.phase && to == 0) (ack_named s r a of) (unexpected s)
      (either s (is_named s.writing of)
      (record s { writing = acked s.writing r a }, ack_row s.writing r a) _ refl
      (either s (is_named s.in_successor of)
      (record s { in_successor = acked s.in_successor r a }, ack_row s.in_successor r a) _ refl
      (either s (is_named s.leaving of)
      (record s { leaving = acked s.leaving r a }, ack_row s.leaving r a) (taken s) refl refl)))
      refl

  same_a3 : (s : ClientRole) (n : ℕ) (count : Count) (timeout : ℕ)
      → view (on_conn_a3 s n count timeout).0 ≡ view s
  same_a3 s n count timeout = search rules

  admitted_row : (s : ClientRole) (one : OnLeg) (which : Which) (bytes : List ℕ) (row : Row)
      (came put : List OnLeg) → marks one.1 ≡ unmarked → is_open s.phase ≡ true
      → Holds s came put
      → RowKeeps Holds one came put (record s { line = after_admit s.line which bytes }, row)
  admitted_row s one which bytes (Ok admitted) came put other open' h =
      events.fills (view s) (after_admit s.line which bytes) (came ++ one ∷ []) put (inl open')
      (events.comes (view s) came put one other h)
  admitted_row s one which bytes (Err why) came put other open' h =
      events.fills (view s) (after_admit s.line which bytes) came put (inl open') h

  on_channel : (s : ClientRole) (leg : Leg) (bytes : List ℕ) (o : Option Which)
      (came put : List OnLeg) → is_open s.phase ≡ true → Holds s came put
      → RowKeeps Holds (leg, Pdu bytes) came put (pdu_on s bytes o)
  on_channel s leg bytes None came put open' h = h
  on_channel s leg bytes (Some which) came put open' h =
      admitted_row s (leg, Pdu bytes) which bytes
      (admit_row (admit_verdict s.line which bytes)) came put refl open' h

  pub pdu_row : (s : ClientRole) (leg : Leg) (bytes : List ℕ) (k : LegKind)
      (came put : List OnLeg) → Holds s came put
      → RowKeeps Holds (leg, Pdu bytes) came put (client.pdu_by s leg.number bytes k)
  pdu_row s leg bytes ClientOut came put h =
      by_test (λ (o : Option Which).
      RowKeeps Holds (leg, Pdu bytes) came put (pdu_on s bytes o))
      (not (is_open s.phase)) None _ (λ e. h)
      (λ e. on_channel s leg bytes _ came put (not_false (is_open s.phase) e) h)
  pdu_row s leg bytes OutServer came put h = h
  pdu_row s leg bytes ClientIn came put h = h
  pdu_row s leg bytes InServer came put h = h

  row : (s : ClientRole) (leg : Leg) (count : Count) (m : Named) (came put : List OnLeg)
      → leg.kind ≡ ClientOut → is_current s leg.number || is_out_successor s leg.number ≡ true
      → Holds s came put
      → RowKeeps Holds (leg, Packet m) came put (on_packet s leg.number count m)
  row s leg count (named.ConnA3 t) came put k there h =
      quiet_row s (leg, Packet (named.ConnA3 t)) came put refl h (on_conn_a3 s leg.number count t)
      (same_a3 s leg.number count t)
  row s leg count (named.ConnC2 v w t) came put k there h = c2_row s leg v w t came put k h
  row s leg count (named.AckTo to r a of) came put k there h =
      quiet_row s (leg, Packet (named.AckTo to r a of)) came put refl h (on_ack_to s to r a of)
      (same_ack s to r a of)
  row s leg count (named.InR1A4 to v w t) came put k there h =
      answer_if s leg (named.InR1A4 to v w t) to w t came put refl k h
  row s leg count (named.InR2A4 to) came put k there h =
      answer_if s leg (named.InR2A4 to) to s.writing.told s.writing.timeout came put refl k h
  row s leg count (named.OutR1A2 to) came put k there h = a2_if s leg to came put k there h
  row s leg count (named.OutR1A6 to v t) came put k there h = a6_if s leg to v t came put k h
  row s leg count named.OutR1A10 came put k there h =
      a10_row s leg s.replacement came put refl k h
  row s leg count named.EndB2 came put k there h = end_if s leg came put h
  row s leg count m came put k there h = h

  pub packet_row : (s : ClientRole) (leg : Leg) (count : Count) (m : Named) (k : LegKind)
      (came put : List OnLeg) → leg.kind ≡ k → Holds s came put
      → RowKeeps Holds (leg, Packet m) came put (packet_by s leg.number count m k)
  packet_row s leg count m ClientOut came put e h =
      by_test (RowKeeps Holds (leg, Packet m) came put)
      (is_current s leg.number || is_out_successor s leg.number)
      (on_packet s leg.number count m) (unexpected s)
      (λ there. row s leg count m came put e there h) (λ t. h)
  packet_row s leg count m OutServer came put e h = h
  packet_row s leg count m ClientIn came put e h = h
  packet_row s leg count m InServer came put e h = h

  -- ---- legs, and what is given

  not_asked_in : (o : Opening) → is_up o ≡ false → is_put o ≡ false
  not_asked_in NotUp e = refl
  not_asked_in Request e = absurd (cc)
  not_asked_in First e = absurd (cc)
  not_asked_in Second e = absurd (cc)
  not_asked_in Put e = absurd (cc)

  not_asked_out : (o : Opening) → is_up o ≡ false → is_asked o ≡ false
  not_asked_out NotUp e = refl
  not_asked_out Request e = absurd (cc)
  not_asked_out First e = absurd (cc)
  not_asked_out Second e = absurd (cc)
  not_asked_out Put e = absurd (cc)

  -- a leg is wanted, and is up
  pub up_holds : (s : ClientRole) (n : ℕ) (cookie : Cookie) (k : LegKind) (came put : List OnLeg)
      → wants_by s n k ≡ true → Holds s came put → Holds (up_by s n cookie k) came put
  up_holds s n cookie ClientOut came put wanted h =
      by_test (λ (t : ClientRole). Holds t came put) (is_current s n)
      (record s { current = out_up s.current cookie })
      (record s { out_successor = out_up s.out_successor cookie; line = with_next s.line })
      (λ e. events.ups_current (view s) cookie came put (current e) h)
      (λ e. let parts =
      second_of (is_current s n) (is_up s.current.opening) (is_out_successor s n)
      (is_up s.out_successor.opening) wanted e in
      events.fills (record (view s) { out_asked = false; out_cookie = cookie })
      (with_next s.line) came put
      (inr (is_past s.replacement
      (and_parts (is_out s.replacement) (n == s.out_successor.number) parts.0).0))
      (events.ups_out (view s) cookie came put
      (subst (λ (b : Bool). P (record (view s) { out_asked = b }) came put)
      (not_asked_out s.out_successor.opening parts.1) h)))
    where
      current : is_current s n ≡ true
          → (is_asked s.current.opening ≡ false)
          ⊎ ((is_out_way (way_of s.replacement) ≡ true)
          × (s.out_successor.number ≡ s.current.number))
      current e =
          by (either_of (is_current s n) (is_up s.current.opening) (is_out_successor s n)
          (is_up s.out_successor.opening) wanted)
        where
          by : (is_up s.current.opening ≡ false) ⊎ (is_out_successor s n ≡ true)
              → (is_asked s.current.opening ≡ false)
              ⊎ ((is_out_way (way_of s.replacement) ≡ true)
              × (s.out_successor.number ≡ s.current.number))
          by (inl down) = inl (not_asked_out s.current.opening down)
          by (inr is) =
              let parts = and_parts (is_out s.replacement) (n == s.out_successor.number) is in
              inr (
                is_past s.replacement parts.0,
                sym (same_number n s.out_successor.number parts.1)
                    ∙ same_number n s.current.number e,
              )
  up_holds s n cookie ClientIn came put wanted h =
      by_test (λ (t : ClientRole). Holds t came put) (is_writing s n)
      (record s { writing = in_up s.writing cookie })
      (record s { in_successor = in_up s.in_successor cookie })
      (λ e. events.ups_writing (view s) cookie came put (writing e) h)
      (λ e. events.ups_in (view s) cookie came put
      (subst (λ (b : Bool). P (record (view s) { in_asked = b }) came put)
      (not_asked_in s.in_successor.opening
      (second_of (is_writing s n) (is_up s.writing.opening) (is_in_successor s n)
      (is_up s.in_successor.opening) wanted e).1)
      h))
    where
      writing : is_writing s n ≡ true
          → (is_put s.writing.opening ≡ false)
          ⊎ ((is_in_way (way_of s.replacement) ≡ true)
          × (s.in_successor.number ≡ s.writing.number))
      writing e =
          by (either_of (is_writing s n) (is_up s.writing.opening) (is_in_successor s n)
          (is_up s.in_successor.opening) wanted)
        where
          by : (is_up s.writing.opening ≡ false) ⊎ (is_in_successor s n ≡ true)
              → (is_put s.writing.opening ≡ false)
              ⊎ ((is_in_way (way_of s.replacement) ≡ true)
              × (s.in_successor.number ≡ s.writing.number))
          by (inl down) = inl (not_asked_in s.writing.opening down)
          by (inr is) =
              let parts = and_parts (is_in s.replacement) (n == s.in_successor.number) is in
              inr (
                in_way_of s.replacement parts.0,
                sym (same_number n s.in_successor.number parts.1)
                    ∙ same_number n s.writing.number e,
              )
  up_holds s n cookie OutServer came put wanted h = h
  up_holds s n cookie InServer came put wanted h = h

  pub same_drawn : (s : ClientRole) (n : ℕ) (k : LegKind) → view (drawn_by s n k) ≡ view s
  same_drawn s n k = search rules

  pub same_ping : (s : ClientRole) (n : ℕ) (k : LegKind) → view (ping_by s n k) ≡ view s
  same_ping s n k = search rules

  pub same_give : (s : ClientRole) (bytes : List ℕ) → view (give s bytes).0 ≡ view s
  same_give s bytes = search rules
