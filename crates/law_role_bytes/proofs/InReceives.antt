-- the window of an in proxy's current channel counts what came on the channel's ci leg
use Rattle.rh_window.specs.declared.recv_window.Ack as told
use Rattle.law_order.proofs.Vocabulary.{◌≡◌, ◌⊎◌, inl, inr, nat_tests, ℕ, suc, ◌+◌, ◌==◌, Bool, true, false, not, ◌&&◌, ◌||◌, List, [], ◌∷◌, ◌++◌, length, Some, None, Ok, Err, arith, refl, sym, ap, ◌∙◌, subst, rules, and_parts, eqb-true, if◌then◌else◌, nat_le, IfSome, Option, Result}
use Rattle.rh_line.specs.Lines as line
use Rattle.rh_shell.specs.declared.answers.Refused.TheVariants as refused
use Rattle.rh_inproxy.specs.Machine as machine
use Rattle.rh_inproxy.specs.Passing as passing
use Rattle.rh_inproxy.specs.declared.opening.TheConstants.{GREATEST_LENGTHS}
use Rattle.rh_inproxy.specs.declared.state.Opening.TheVariants as openings
use Rattle.rh_inproxy.specs.declared.state.Joining.TheVariants as joinings
use Rattle.rh_inproxy.specs.declared.state.Successor.TheVariants as successors
use Rattle.rh_inproxy.specs.declared.state.Work.TheVariants as works
use Rattle.rh_sig.specs.declared.named.Named.TheVariants.{AckTo, ConnB1, EndA1, InR1A1, InR1A5, KeepAlive, OutR1A7}
use Rattle.law_moves.proofs.Vocabulary.{may_send, after_sent, by_test, same_number, test_other, Cookie, Named, Line, LineFault, Window, Over, Incoming, channel_verdict, is_empty, moved_on, released, settled as settled_line, Leg, Which, Current, Next, Count, Due, Message, Pdu, Packet, same_leg, OnLeg, Move, AreAllowed, all_moved, started, of_leg, pdu_bytes}
use Rattle.law_moves.proofs.Lemmas.{PutKeeps, RowKeeps, leg_is, other_more}
use Rattle.law_role_inproxy.proofs.Vocabulary.{ClientLeg, InProxyConfig, Opener, Opening, Successor, Work, Told, Follows, Handover, Before, Came, Passed, Done, Pick, unexpected, refuse, taken, InProxy, first, channel_of, next_of, has_opened, has_come, has_a5, is_joined, is_absent, is_client_leg, is_server_leg, same_cookie, up, accepts, accepts_later, accepted, connected, may_accept, wants, head, drawn, is_first, on_conn_b1, on_first_in_r1_a1, on_in_r1_a1, on_later_in_r1_a1, opener_of, is_newcomer, join, joined, finish_by, finished, followed, follows, hand_over, on_in_r1_a5, on_end_a1, is_newest, mark, settled, settled_pick, ack_by, ack_due, echo_by, first_by, mark_by, one_less, told_by, waiting_by, next, next_ack, next_pdu, current_ack, or_else, passed, put as put_of, put_acks, put_behind, put_control, put_early, put_echo, put_end, put_first, put_in_r1_a6, put_in_r2_a2, put_mark, put_pdu, put_ping, put_stream, put_waiting, ping, pdu, packet, on_channel, on_channel_by, on_ci, on_is, on_pdu, on_ack_to, on_keep_alive, on_out_r1_a7, ci_leg, rules as proxy_rules}
use Rattle.law_role_outproxy.proofs.Sending.Legs.{bytes_here, bytes_still}
use Rattle.law_role_bytes.proofs.Steps.{StepsKeep, moves_keep}
use Rattle.law_role_bytes.proofs.Windows.{admitted_same, admitted_more, admitted_released}
use Rattle.law_role_bytes.specs.Bytes.{CountsCame}

-- ---- what the facts are about

pub record Seen : Type 0 where
  received : ℕ
  -- of the next channel
  released : ℕ
  number : ℕ
  successor : Successor

abbrev pub seen : InProxy → Seen
seen s = record {
  received = s.line.current.window.received;
  released = s.line.next.window.released;
  number = s.current.number;
  successor = s.successor;
}

-- a ci leg behind the current one has the number behind it
abbrev pub IsBehind : ℕ → Successor → Type 0
IsBehind number successors.Absent = Unit {0}
IsBehind number (successors.Up newcomer) = newcomer ≡ suc number
IsBehind number (successors.Joined leg stage) = leg.number ≡ suc number

pub record Counts (x : Seen) (came : List OnLeg) : Type 0 where
  pub counted : x.received ≡ pdu_bytes (of_leg (ci_leg x.number) came)
  pub released : x.released ≡ 0
  pub behind : IsBehind x.number x.successor

abbrev pub Kept : InProxy → List OnLeg → List OnLeg → Type 0
Kept s came put = Counts (seen s) came

-- what is known of the next channel
pub record Known (s : InProxy) (came put : List OnLeg) : Type 0 where
  pub there : s.line.has_next ≡ is_joined s.successor
  pub followed : s.line.finished ≡ true → s.line.has_next ≡ true
  pub next : s.line.has_next ≡ true → s.line.next.window.released ≡ 0
      → CountsCame (ci_leg (suc s.current.number)) came s.line.next.window

-- the successor is told apart by its number alone
abbrev IsSameBehind : Successor → Successor → Type 0
IsSameBehind old new = (number : ℕ) → IsBehind number old → IsBehind number new

record Same (s t : InProxy) : Type 0 where
  received : t.line.current.window.received ≡ s.line.current.window.received
  released : t.line.next.window.released ≡ s.line.next.window.released
  number : t.current.number ≡ s.current.number
  successor : IsSameBehind s.successor t.successor

quiet : (s t : InProxy) → seen t ≡ seen s → Same s t
quiet s t same = record {
  received = ap (λ (x : Seen). x.received) same;
  released = ap (λ (x : Seen). x.released) same;
  number = ap (λ (x : Seen). x.number) same;
  successor = λ number. subst (IsBehind number) (sym (ap (λ (x : Seen). x.successor) same));
}

same_kept : (s t : InProxy) (came put : List OnLeg) → Same s t → Kept s came put
    → Kept t came put
same_kept s t came put same h = record {
  counted =
      same.received ∙ h.counted
      ∙ sym (ap (λ (n : ℕ). pdu_bytes (of_leg (ci_leg n) came)) same.number);
  released = same.released ∙ h.released;
  behind = subst (λ (n : ℕ). IsBehind n t.successor) (sym same.number)
      (same.successor s.current.number h.behind);
}

-- ---- what leaves these alone

same_head : (s : InProxy) (leg : Leg) (text : List ℕ) → Same s (head s leg text).0
same_head s leg text = quiet s _ (search rules)

same_drawn : (s : InProxy) (leg : Leg) → Same s (drawn s leg)
same_drawn s leg = quiet s _ (search rules)

same_settled : (s : InProxy) → Same s (settled s)
same_settled s = quiet s _ (search rules)

same_mark : (s : InProxy) (leg : Leg) → Same s (mark s leg)
same_mark s leg =
    let t : InProxy = if is_newest s leg then record s { newest_lost = true } else s in
    quiet s (mark s leg) (same t ∙ by_test (λ (x : InProxy). seen x ≡ seen s) (is_newest s leg) _ s
    (λ e. refl) (λ e. refl))
  where
    same : (t : InProxy) → seen (settled t) ≡ seen t
    same t = search rules

same_ping : (s : InProxy) (leg : Leg) → Same s (ping s leg)
same_ping s leg = quiet s _ (search rules)

same_conn_b1 : (s : InProxy) (n : ℕ) (a b : Cookie) (c : ℕ) (d : Cookie)
    → Same s (on_conn_b1 s n a b c d).0
same_conn_b1 s n a b c d = quiet s _ (search rules)

same_first_a1 : (s : InProxy) (a b c : Cookie) → Same s (on_first_in_r1_a1 s a b c).0
same_first_a1 s a b c = quiet s _ (search rules)

same_is : (s : InProxy) (named : Named) → Same s (on_is s named).0
same_is s named = quiet s _ (search rules)

same_ack_to : (s : InProxy) (which : Which) (a b c : ℕ) (d : Cookie)
    → Same s (on_ack_to s which a b c d).0
same_ack_to s which a b c d = quiet s _ (search rules)

same_end : (s : InProxy) (which : Which) → Same s (on_end_a1 s which).0
same_end s Current = quiet s _ (search rules)
same_end s Next = quiet s _ (search rules)

module _ (came put : List OnLeg) where
  abbrev Fine : InProxy → Type 0
  Fine s = Kept s came put

  -- ---- the line moves on

  -- behind the last PDU of a finished channel the next one is current
  module _ (s : InProxy) (l : Line) (there : l.has_next ≡ is_joined s.successor)
      (followed_by : l.finished ≡ true → l.has_next ≡ true)
      (next_came : l.has_next ≡ true → l.next.window.released ≡ 0
      → CountsCame (ci_leg (suc s.current.number)) came l.next.window)
      (h : Fine (record s { line = l })) where
    stays : (has : Bool) (z : Successor) → has ≡ is_joined z
        → (follows has s.current z ≡ (s.current, z))
    stays true successors.Absent e = absurd cc
    stays true (successors.Up number) e = absurd cc
    stays true (successors.Joined leg stage) e = refl
    stays false successors.Absent e = refl
    stays false (successors.Up number) e = refl
    stays false (successors.Joined leg stage) e = absurd cc

    here : Fine (followed (record s { line = l }))
    here =
        subst (λ (now : ClientLeg × Successor). Counts (record {
          received = l.current.window.received;
          released = l.next.window.released;
          number = now.0.number;
          successor = now.1;
        }) came) (sym (stays l.has_next s.successor there)) h

    moves : l.has_next ≡ true → (z : Successor) → is_joined z ≡ true
        → IsBehind s.current.number z
        → Counts (record {
          received = l.next.window.received;
          released = 0;
          number = (follows false s.current z).0.number;
          successor = (follows false s.current z).1;
        }) came
    moves more successors.Absent e behind = absurd cc
    moves more (successors.Up number) e behind = absurd cc
    moves more (successors.Joined leg stage) e behind = record {
      counted =
          next_came more h.released
          ∙ ap (λ (n : ℕ). pdu_bytes (of_leg (ci_leg n) came)) (sym behind);
      released = refl;
      behind = tt;
    }

    pub settles : Fine (followed (record s { line = settled_line l }))
    settles =
        by_test (λ (x : Line). Fine (followed (record s { line = x })))
        (l.finished && is_empty l.current.pdus) (moved_on l) l
        (λ e.
        let more = followed_by (and_parts l.finished (is_empty l.current.pdus) e).0 in
        moves more s.successor (sym there ∙ more) h.behind)
        (λ e. here)

  -- ---- legs come up

  first_two : (a b c d : Bool) → a && b && c && d ≡ true → a ≡ true
  first_two true b c d e = refl
  first_two false b c d e = absurd cc

  comes : (s : InProxy) (n : ℕ) → accepts_later s n ≡ true → Fine s
      → Fine (record s { successor = successors.Up n; newest_lost = false })
  comes s n later h = record {
    counted = h.counted;
    released = h.released;
    behind =
        let is = eqb-true n (s.current.number + 1)
        (first_two (n == s.current.number + 1) (is_absent s.successor)
        (nat_le s.lengths GREATEST_LENGTHS) (not (has_come s.handover)) later) in
        omega (arith, is);
  }

  accepted_kept : (s : InProxy) (o : Opening) (n : ℕ) → accepts s o n ≡ true → Fine s
      → Fine (accepted s o n)
  accepted_kept s openings.AwaitsClient n e h = h
  accepted_kept s openings.AwaitsPacket n e h = absurd cc
  accepted_kept s (openings.WantsServer o) n e h = comes s n e h
  accepted_kept s (openings.Announces o) n e h = comes s n e h
  accepted_kept s (openings.Announced o) n e h = comes s n e h

  connected_kept : (s : InProxy) (o : Opening) → Fine s → Fine (connected s o)
  connected_kept s (openings.WantsServer o) h = h
  connected_kept s openings.AwaitsClient h = h
  connected_kept s openings.AwaitsPacket h = h
  connected_kept s (openings.Announces o) h = h
  connected_kept s (openings.Announced o) h = h

  up_kept : (s : InProxy) (leg : Leg) → Fine s → Fine (up s leg)
  up_kept s leg h =
      by_test Fine (may_accept s leg) (accepted s s.opening leg.number)
      (if wants s leg then connected s s.opening else s)
      (λ e. accepted_kept s s.opening leg.number
      (and_parts (is_client_leg leg) (accepts s s.opening leg.number) e).1 h)
      (λ e. by_test Fine (wants s leg) (connected s s.opening) s
      (λ f. connected_kept s s.opening h) (λ f. h))

  -- ---- what is no PDU

  quiet_row : (one : OnLeg) (x : Done) → pdu_bytes (one.1 ∷ []) ≡ 0 → Fine x.0
      → RowKeeps Kept one came put x
  quiet_row one (t, Ok done) none h = record {
    counted = h.counted ∙ sym (bytes_still (ci_leg t.current.number) came one none);
    released = h.released;
    behind = h.behind;
  }
  quiet_row one (t, Err why) none h = h

  -- IN_R1/A1
  join_kept : (s : InProxy) (o : Opener) (number : ℕ) (a b c : Cookie) (z : Successor)
      → is_newcomer z number ≡ true → IsBehind s.current.number z → Fine s
      → Fine (join s o number a b c).0
  join_kept s o number a b c successors.Absent e behind h = absurd cc
  join_kept s o number a b c (successors.Joined leg stage) e behind h = absurd cc
  join_kept s o number a b c (successors.Up newcomer) e behind h =
      by_test Row (not (same_cookie o.connection a)) (refuse s (refused.Cookie o.connection a)) _
      (λ f. h)
      (λ f. by_test Row (not (same_cookie s.current.cookie b))
      (refuse s (refused.Cookie s.current.cookie b)) (taken (joined s number c)) (λ g. h)
      (λ g. record {
        counted = h.counted;
        released = refl;
        behind = sym (same_number newcomer number e) ∙ behind;
      }))
    where
      Row : Done → Type 0
      Row x = Fine x.0

  later_kept : (s : InProxy) (o : Option Opener) (number : ℕ) (a b c : Cookie) → Fine s
      → Fine (on_later_in_r1_a1 s o number a b c).0
  later_kept s None number a b c h = h
  later_kept s (Some o) number a b c h =
      by_test (λ (x : Done). Fine x.0) (is_newcomer s.successor number) (join s o number a b c)
      (unexpected s) (λ e. join_kept s o number a b c s.successor e h.behind h) (λ e. h)

  in_r1_a1_kept : (s : InProxy) (number : ℕ) (a b c : Cookie) → Fine s
      → Fine (on_in_r1_a1 s number a b c).0
  in_r1_a1_kept s number a b c h =
      by_test (λ (x : Done). Fine x.0) (is_first s number) (on_first_in_r1_a1 s a b c)
      (on_later_in_r1_a1 s (opener_of s.opening) number a b c)
      (λ e. same_kept s (on_first_in_r1_a1 s a b c).0 came put (same_first_a1 s a b c) h)
      (λ e. later_kept s (opener_of s.opening) number a b c h)

  -- IN_R1/A5
  finished_kept : (s : InProxy) (leg : ClientLeg) → s.successor ≡ successors.Joined leg Told
      → Known s came put → Fine s → Fine (finished s leg)
  finished_kept s leg is k h =
      settles (record s { successor = successors.Joined leg Follows })
      (record s.line { finished = true }) (k.there ∙ ap is_joined is)
      (λ e. k.there ∙ ap is_joined is) k.next (record {
        counted = h.counted;
        released = h.released;
        behind = subst (IsBehind s.current.number) is h.behind;
      })

  finish_kept : (s : InProxy) (z : Successor) (cookie : Cookie) → s.successor ≡ z
      → Known s came put → Fine s → Fine (finish_by s z cookie).0
  finish_kept s successors.Absent cookie is k h = h
  finish_kept s (successors.Up number) cookie is k h = h
  finish_kept s (successors.Joined leg Told) cookie is k h =
      by_test (λ (x : Done). Fine x.0) (same_cookie leg.cookie cookie) (taken (finished s leg))
      (refuse s (refused.Cookie leg.cookie cookie)) (λ e. finished_kept s leg is k h) (λ e. h)
  finish_kept s (successors.Joined leg Follows) cookie is k h = h
  finish_kept s (successors.Joined leg (joinings.TellsServer behind)) cookie is k h = h

  a5_kept : (s : InProxy) (which : Which) (cookie : Cookie) → Known s came put → Fine s
      → Fine (on_in_r1_a5 s which cookie).0
  a5_kept s which cookie k h =
      by_test (λ (x : Done). Fine x.0) (has_a5 s which) (unexpected s) (hand_over s which cookie)
      (λ e. h) (λ e. by which)
    where
      by : (w : Which) → Fine (hand_over s w cookie).0
      by Current = finish_kept s s.successor cookie refl k h
      by Next = h

  channel_kept : (s : InProxy) (which : Which) (named : Named) → Known s came put → Fine s
      → Fine (on_channel s which named).0
  channel_kept s which (InR1A5 successor) k h = a5_kept s which successor k h
  channel_kept s which EndA1 k h =
      same_kept s (on_end_a1 s which).0 came put (same_end s which) h
  channel_kept s which (AckTo a b c d) k h =
      same_kept s (on_ack_to s which a b c d).0 came put (same_ack_to s which a b c d) h
  channel_kept s which (OutR1A7 a b) k h =
      same_kept s (on_out_r1_a7 s which a b).0 came put (quiet s _ (search rules)) h
  channel_kept s which (KeepAlive a) k h =
      same_kept s (on_keep_alive s which a).0 came put (quiet s _ (search rules)) h
  channel_kept s which packet k h = h

  ci_kept : (s : InProxy) (n : ℕ) (named : Named) → Known s came put → Fine s
      → Fine (on_ci s n named).0
  ci_kept s n (ConnB1 v1 v2 v3 v4 v5 v6) k h =
      same_kept s (on_conn_b1 s n v2 v3 v5 v6).0 came put (same_conn_b1 s n v2 v3 v5 v6) h
  ci_kept s n (InR1A1 v1 v2 v3 v4) k h = in_r1_a1_kept s n v2 v3 v4 h
  ci_kept s n packet k h = by (channel_of s n)
    where
      by : (o : Option Which) → Fine (on_channel_by s o packet).0
      by None = h
      by (Some which) = channel_kept s which packet k h

  packet_kept : (s : InProxy) (leg : Leg) (count : Count) (named : Named) → Known s came put
      → Fine s → Fine (packet s leg count named).0
  packet_kept s leg count named k h =
      by_test (λ (x : Done). Fine x.0) (is_client_leg leg) (on_ci s leg.number named)
      (if is_server_leg s leg then on_is s named else unexpected s)
      (λ e. ci_kept s leg.number named k h)
      (λ e. by_test (λ (x : Done). Fine x.0) (is_server_leg s leg) (on_is s named) (unexpected s)
      (λ f. same_kept s (on_is s named).0 came put (same_is s named) h) (λ f. h))

  -- ---- PDUs

  module _ (s : InProxy) (number : ℕ) (bytes : List ℕ) (h : Fine s) where
    abbrev one : OnLeg
    one = (ci_leg number, Pdu bytes)

    abbrev Row : Done → Type 0
    Row x = RowKeeps Kept one came put x

    -- one that is refused changes nothing
    unchanged : (which : Which) (fault : LineFault)
        → channel_verdict (line.channel_of s.line which) bytes ≡ Err fault
        → Fine (record s { line = line.after_admit s.line which bytes })
    unchanged Current fault e = record {
      counted = ap (λ (d : Incoming). d.window.received) (admitted_same s.line.current bytes fault e)
          ∙ h.counted;
      released = h.released;
      behind = h.behind;
    }
    unchanged Next fault e = record {
      counted = h.counted;
      released = ap (λ (d : Incoming). d.window.released)
          (admitted_same s.line.next bytes fault e) ∙ h.released;
      behind = h.behind;
    }

    counts : (which : Which)
        → ((number ≡ s.current.number) × (which ≡ Current))
        ⊎ ((number ≡ suc s.current.number) × (which ≡ Next))
        → channel_verdict (line.channel_of s.line which) bytes ≡ Ok tt
        → Kept (record s { line = line.after_admit s.line which bytes }) (came ++ one ∷ []) put
    counts Current (inl is) e = record {
      counted =
          let more = admitted_more s.line.current bytes e in
          let before = h.counted in
          let all = subst (λ (n : ℕ). pdu_bytes (of_leg (ci_leg n)
          (came ++ (ci_leg number, Pdu bytes) ∷ []))
          ≡ pdu_bytes (of_leg (ci_leg n) came) + pdu_bytes (Pdu bytes ∷ [])) is.0
          (bytes_here (ci_leg number) came (Pdu bytes)) in omega (arith, more, before, all);
      released = h.released;
      behind = h.behind;
    }
    counts Next (inr is) e = record {
      counted =
          h.counted
          ∙ sym (ap pdu_bytes (other_more (ci_leg s.current.number) came one
          (test_other number s.current.number
          (λ (f : number ≡ s.current.number).
          let next = is.0 in absurd (omega (arith, next, f))))));
      released = admitted_released s.line.next bytes ∙ h.released;
      behind = h.behind;
    }
    counts Current (inr is) e = absurd (let bad = is.1 in cc)
    counts Next (inl is) e = absurd (let bad = is.1 in cc)

    admits : (which : Which)
        → ((number ≡ s.current.number) × (which ≡ Current))
        ⊎ ((number ≡ suc s.current.number) × (which ≡ Next))
        → Row (on_pdu s which bytes)
    admits which is =
        by_test Row (has_a5 s which || line.is_ended s.line) (unexpected s)
        (passing.pdu_by (record s { line = line.after_admit s.line which bytes })
        (line.admit_verdict s.line which bytes))
        (λ e. h) (λ e. by (channel_verdict (line.channel_of s.line which) bytes) refl)
      where
        by : (v : Result (Unit {0}) LineFault)
            → channel_verdict (line.channel_of s.line which) bytes ≡ v
            → Row (passing.pdu_by (record s { line = line.after_admit s.line which bytes }) v)
        by (Ok done) e = counts which is e
        by (Err (Window exceeded)) e = unchanged which (Window exceeded) e
        by (Err Over) e = unchanged which Over e

    next_row : (z : Successor) → IsBehind s.current.number z
        → Row (machine.pdu_by s (next_of z number) bytes)
    next_row successors.Absent behind = h
    next_row (successors.Up newcomer) behind = h
    next_row (successors.Joined leg stage) behind =
        by_test (λ (o : Option Which). Row (machine.pdu_by s o bytes)) (leg.number == number)
        (Some Next) None
        (λ e. admits Next (inr (sym (same_number leg.number number e) ∙ behind, refl))) (λ e. h)

    pdu_row : Row (machine.pdu_by s (channel_of s number) bytes)
    pdu_row =
        by_test (λ (o : Option Which). Row (machine.pdu_by s o bytes))
        (has_opened s.opening && (s.current.number == number)) (Some Current)
        (next_of s.successor number)
        (λ e. admits Current (inl (
          sym (same_number s.current.number number
              (and_parts (has_opened s.opening) (s.current.number == number) e).1),
          refl,
        )))
        (λ e. next_row s.successor h.behind)

  client_leg : (leg : Leg) → is_client_leg leg ≡ true → ci_leg leg.number ≡ leg
  client_leg leg e = leg_is (ci_leg leg.number) leg (on_number e)
    where
      on_number : is_client_leg leg ≡ true → same_leg (ci_leg leg.number) leg ≡ true
      on_number e = grind (arith, nat_tests, e)

  pdu_kept : (s : InProxy) (leg : Leg) (count : Count) (bytes : List ℕ) → Fine s
      → RowKeeps Kept (leg, Pdu bytes) came put (pdu s leg count bytes)
  pdu_kept s leg count bytes h =
      by_test (RowKeeps Kept (leg, Pdu bytes) came put) (is_client_leg leg)
      (machine.pdu_by s (channel_of s leg.number) bytes) (unexpected s)
      (λ e. subst (λ (l : Leg). RowKeeps Kept (l, Pdu bytes) came put
      (machine.pdu_by s (channel_of s leg.number) bytes)) (client_leg leg e)
      (pdu_row s leg.number bytes h))
      (λ e. h)

  -- ---- what is put

  abbrev PickKept : Pick → Type 0
  PickKept pick = IfSome pick (λ (one : InProxy × Message). Fine one.0)

  or_kept : (a b : Pick) → PickKept a → PickKept b → PickKept (or_else a b)
  or_kept None b h k = k
  or_kept (Some pick) b h k = h

  settled_kept : (pick : Pick) → PickKept pick → PickKept (settled_pick pick)
  settled_kept None h = tt
  settled_kept (Some pick) h =
      same_kept pick.0 (settled pick.0) came put (same_settled pick.0) h

  module _ (s : InProxy) (k : Known s came put) (h : Fine s) where
    first_put : PickKept (put_first s)
    first_put = by s.opening
      where
        by : (o : Opening) → PickKept (first_by s o)
        by (openings.Announces o) = h
        by openings.AwaitsClient = tt
        by openings.AwaitsPacket = tt
        by (openings.WantsServer o) = tt
        by (openings.Announced o) = tt

    told_put : (z : Successor) → IsBehind s.current.number z
        → PickKept (told_by s z)
    told_put successors.Absent behind = tt
    told_put (successors.Up number) behind = tt
    told_put (successors.Joined leg Told) behind = tt
    told_put (successors.Joined leg Follows) behind = tt
    told_put (successors.Joined leg (joinings.TellsServer count)) behind =
        by_test PickKept (count == 0) _ None
        (λ e. record { counted = h.counted; released = h.released; behind = behind }) (λ e. tt)

    less : (z : Successor) → IsBehind s.current.number z
        → IsBehind s.current.number (one_less z)
    less successors.Absent behind = tt
    less (successors.Up number) behind = behind
    less (successors.Joined leg Told) behind = behind
    less (successors.Joined leg Follows) behind = behind
    less (successors.Joined leg (joinings.TellsServer count)) behind = behind

    waiting_put : (dues : List Due) → PickKept (waiting_by s dues)
    waiting_put [] = tt
    waiting_put (due ∷ dues) = record {
      counted = h.counted;
      released = h.released;
      behind = less s.successor h.behind;
    }

    ack_put : (which : Which) (cookie : Cookie) (o : Option told.Ack)
        → PickKept (ack_by s which cookie o)
    ack_put which cookie None = tt
    ack_put Current cookie (Some ack) =
        record { counted = h.counted; released = h.released; behind = h.behind }
    ack_put Next cookie (Some ack) =
        record { counted = h.counted; released = h.released; behind = h.behind }

    next_ack_put : (z : Successor) → PickKept (next_ack s z)
    next_ack_put successors.Absent = tt
    next_ack_put (successors.Up number) = tt
    next_ack_put (successors.Joined leg stage) = ack_put Next leg.cookie (ack_due s Next)

    -- a PDU is taken from the line
    passed_kept : (len : ℕ) → Fine (passed s len)
    passed_kept len = by s.line.current.pdus
      where
        by : (pdus : List (List ℕ))
            → Fine (followed (record s {
              line = line.taken pdus s.line;
              window = after_sent s.window len;
            }))
        by [] = here (record s { window = after_sent s.window len }) s.line k.there k.followed k.next h
        by (pdu ∷ pdus) =
            settles (record s { window = after_sent s.window len })
            (record s.line { current = released (pdu ∷ pdus) s.line.current }) k.there k.followed
            k.next (record { counted = h.counted; released = h.released; behind = h.behind })

    front_put : (pdus : List (List ℕ)) → PickKept (next_pdu s pdus)
    front_put [] = tt
    front_put (pdu ∷ pdus) =
        by_test PickKept (may_send s.window (length pdu)) _ None
        (λ may. passed_kept (length pdu)) (λ e. tt)

    end_put : PickKept (put_end s)
    end_put =
        by_test PickKept
        (s.line.current.ended && not s.end_put && line.is_empty s.line.current.pdus) _ None
        (λ e. h) (λ e. tt)

    mark_put : (handover : Handover) → PickKept (mark_by s handover)
    mark_put Before = tt
    mark_put (Came cookie) = h
    mark_put Passed = tt

    server_put : PickKept (next s)
    server_put =
        or_kept (put_control s) (put_stream s)
        (or_kept (put_early s) (put_acks s)
        (or_kept (put_first s) (or_else (put_in_r2_a2 s) (put_waiting s)) first_put
        (or_kept (put_in_r2_a2 s) (put_waiting s) (told_put s.successor h.behind)
        (waiting_put s.waiting.due)))
        (or_kept (current_ack s) (next_ack s s.successor)
        (ack_put Current s.current.cookie (ack_due s Current)) (next_ack_put s.successor)))
        (or_kept (put_pdu s) (put_behind s) (front_put s.line.current.pdus)
        (or_kept (put_mark s) (put_ping s)
        (or_kept (put_end s) (put_in_r1_a6 s) end_put
        (by_test PickKept (is_absent s.successor && line.is_empty s.line.current.pdus)
        (mark_by s s.handover) None (λ e. mark_put s.handover) (λ e. tt)))
        (by_test PickKept s.ping_due _ None (λ e. h) (λ e. tt))))

    echo_put : (work : Work) (number : ℕ) → PickKept (echo_by s work number)
    echo_put works.Underway number = tt
    echo_put (works.EchoPut asked_on) number = tt
    echo_put works.Done number = tt
    echo_put (works.EchoDue asked_on) number =
        by_test PickKept (asked_on == number) _ None (λ e. h) (λ e. tt)

    puts : (leg : Leg) → PickKept (put_of s leg)
    puts leg =
        by_test PickKept (is_client_leg leg) (put_echo s leg.number)
        (if is_server_leg s leg then settled_pick (next s) else None)
        (λ e. echo_put s.work leg.number)
        (λ e. by_test PickKept (is_server_leg s leg) (settled_pick (next s)) None
        (λ f. settled_kept (next s) server_put) (λ f. tt))

-- ---- the role

put_kept : (s : InProxy) (leg : Leg) (came put : List OnLeg) → Known s came put
    → Kept s came put → PutKeeps Kept leg came put (put_of s leg)
put_kept s leg came put k h = by (put_of s leg) (puts came put s k h leg)
  where
    by : (pick : Pick) → IfSome pick (λ (one : InProxy × Message). Kept one.0 came put)
        → PutKeeps Kept leg came put pick
    by None kept = tt
    by (Some _) kept = kept

steps : StepsKeep proxy_rules Known Kept
steps = record {
  up = λ s leg cookie came put k. up_kept came put s leg;
  head = λ s leg text came put k.
      same_kept s (head s leg text).0 came put (same_head s leg text);
  pdu = λ s leg count bytes came put k. pdu_kept came put s leg count bytes;
  packet = λ s leg count named came put k h.
      quiet_row came put (leg, Packet named) (packet s leg count named) refl
      (packet_kept came put s leg count named k h);
  put = put_kept;
  drawn = λ s leg came put k. same_kept s (drawn s leg) came put (same_drawn s leg);
  mark = λ s leg came put k. same_kept s (mark s leg) came put (same_mark s leg);
  ping = λ s leg came put k. same_kept s (ping s leg) came put (same_ping s leg);
}

pub in_proxy_received : (config : InProxyConfig) (moves : List Move)
    → ((front : List Move) → AreAllowed proxy_rules (started (first config)) front
    → (let p = all_moved proxy_rules (started (first config)) front in
    Known p.role p.came p.put))
    → AreAllowed proxy_rules (started (first config)) moves
    → (let p = all_moved proxy_rules (started (first config)) moves in
    CountsCame (ci_leg p.role.current.number) p.came p.role.line.current.window)
in_proxy_received config moves known allowed =
    (moves_keep proxy_rules Known Kept steps (started (first config)) moves allowed known
    (record { counted = refl; released = refl; behind = tt })).counted
