-- the legs and the PDUs that come to an in proxy, and the channels that it reads
use Rattle.law_order.proofs.Vocabulary.{◌≡◌, ℕ, ◌+◌, ◌≤◌, ◌==◌, Bool, true, false, true≢false, not, ◌&&◌, ◌||◌, List, [], ◌∷◌, ◌++◌, Some, None, Ok, Err, arith, refl, rules, sym, ap, ◌∙◌, subst, and_parts, eqb-true, nat_tests, if◌then◌else◌, nat_le, Option, Result}
use Rattle.rh_line.specs.Lines as line
use Rattle.rh_inproxy.specs.declared.opening.TheConstants.{GREATEST_LENGTHS}
use Rattle.rh_inproxy.specs.declared.state.ClientLeg.{ClientLeg}
use Rattle.rh_inproxy.specs.declared.state.Opening.{Opening}
use Rattle.rh_inproxy.specs.declared.state.Successor.{Successor}
use Rattle.rh_inproxy.specs.declared.state.Successor.TheVariants.{Absent, Up, Joined}
use Rattle.rh_inproxy.specs.Answers.{Done, unexpected}
use Rattle.rh_inproxy.specs.State.{InProxy, channel_of, next_of, has_opened, has_come, has_a5, is_joined, is_client_leg}
use Rattle.rh_inproxy.specs.Opening.{up, accepts, accepts_later, accepted, connected, wants, may_accept, head, drawn, is_absent, opened}
use Rattle.rh_inproxy.specs.Ending.{is_newest, mark, settled}
use Rattle.rh_inproxy.specs.Passing.{on_pdu, pdu_by}
use Rattle.rh_inproxy.specs.Putting.{next}
use Rattle.rh_inproxy.specs.Time.{ping}
use Rattle.rh_inproxy.specs.Machine.{pdu}
use Rattle.rh_inproxy.specs.declared.state.Opening.TheVariants as openings
use Rattle.rh_inproxy.specs.Machine as machine
use Rattle.law_moves.proofs.Vocabulary.{by_test, Line, Incoming, LineFault, Window, Over, Leg, Which, Current, Next, Count, Due, Message, Pdu, same_leg, count, OnLeg, of_leg}
use Rattle.law_moves.proofs.Lemmas.{RowKeeps}
use Rattle.law_role_client.proofs.Receiving.Windows.{leg_counts, refused_same, admitted_told}
use Rattle.law_role_windows.proofs.Acknowledging.InAcks.{IsTold, told_rises, AreAcks, acks_so}
use Rattle.law_role_windows.proofs.Acknowledging.InChannels.{admitted_counts, IsBehind, WasTold, Channels, Tells, tells_more, opened_joined}
use Rattle.law_role_windows.specs.Acknowledging.Acks.{ci_leg as ci}

-- what the facts are about
pub record Seen : Type 0 where
  pub opened : Bool
  pub line : Line
  pub current : ClientLeg
  pub successor : Successor
  pub dues : List Due

abbrev pub seen : InProxy → Seen
seen s = record {
  opened = has_opened s.opening;
  line = s.line;
  current = s.current;
  successor = s.successor;
  dues = s.waiting.due;
}

abbrev pub Same : InProxy → InProxy → Type 0
Same s t = seen t ≡ seen s

-- ---- what leaves these alone

pub same_head : (s : InProxy) (leg : Leg) (text : List ℕ) → Same s (head s leg text).0
same_head s leg text = search rules

pub same_drawn : (s : InProxy) (leg : Leg) → Same s (drawn s leg)
same_drawn s leg = search rules

pub same_settled : (s : InProxy) → Same s (settled s)
same_settled s = search rules

pub same_mark : (s : InProxy) (leg : Leg) → Same s (mark s leg)
same_mark s leg =
    same_settled (if is_newest s leg then record s { newest_lost = true } else s)
    ∙ by_test (Same s) (is_newest s leg) _ s (λ e. refl) (λ e. refl)

pub same_ping : (s : InProxy) (leg : Leg) → Same s (ping s leg)
same_ping s leg = search rules

module _ (window : ℕ) where
  abbrev pub Of : Seen → List OnLeg → List OnLeg → Type 0
  Of x came put = Tells window x.opened x.line x.current x.successor x.dues came put

  abbrev pub Holds : InProxy → List OnLeg → List OnLeg → Type 0
  Holds s came put = Of (seen s) came put

  pub same_holds : (s t : InProxy) (came put : List OnLeg) → Same s t → Holds s came put
      → Holds t came put
  same_holds s t came put same h = subst (λ (x : Seen). Of x came put) (sym same) h

  pub opened_by : (s : InProxy) (came put : List OnLeg) → Holds s came put
      → is_joined s.successor ≡ true → has_opened s.opening ≡ true
  opened_by s came put h e =
      opened_joined window (has_opened s.opening) s.line s.current s.successor s.waiting.due came
      put e h

  -- where more is told of the channels
  pub acks_rise : (s : InProxy) (came put : List OnLeg) (now next : ℕ)
      → s.line.current.window.told ≤ now → s.line.next.window.told ≤ next → Holds s came put
      → AreAcks window came (IsTold s.current.number now s.successor next) put
  acks_rise s came put now next a b h =
      acks_so window came (WasTold s.line s.current s.successor)
      (IsTold s.current.number now s.successor next)
      (told_rises s.current.number s.line.current.window.told now s.line.next.window.told next
      s.successor a b) put h.channels.acks

  module _ (s : InProxy) (leg : Leg) (came put : List OnLeg) (h : Holds s came put) where
    -- a row that holds without the message
    pub keep_row : (m : Message) (x : Done) → Holds x.0 came put
        → RowKeeps Holds (leg, m) came put x
    keep_row m (t, Ok taken') k =
        tells_more window (has_opened t.opening) t.line t.current t.successor t.waiting.due came
        put (leg, m) k
    keep_row m (t, Err why) k = k

    pub same_row : (m : Message) (x : Done) → Same s x.0 → RowKeeps Holds (leg, m) came put x
    same_row m x same = keep_row m x (same_holds s x.0 came put same h)

    pub more : (m : Message) → Holds s (came ++ (leg, m) ∷ []) put
    more m =
        tells_more window (has_opened s.opening) s.line s.current s.successor s.waiting.due came put
        (leg, m) h

    pub here : (n : ℕ) → is_client_leg leg ≡ true → (n == leg.number) ≡ true
        → same_leg leg (ci n) ≡ true
    here n e f = grind (arith, nat_tests, e, f)

    -- ---- RPC PDUs

    current_pdu : (bytes : List ℕ) → same_leg leg (ci s.current.number) ≡ true
        → has_opened s.opening ≡ true
        → RowKeeps Holds (leg, Pdu bytes) came put (on_pdu s Current bytes)
    current_pdu bytes on opened =
        by_test (RowKeeps Holds (leg, Pdu bytes) came put)
        (has_a5 s Current || line.is_ended s.line) (unexpected s)
        (pdu_by t (line.channel_verdict c bytes)) (λ e. h)
        (λ e. by (line.channel_verdict c bytes) refl)
      where
        c : Incoming
        c = s.line.current

        t : InProxy
        t = record s { line = line.after_admit s.line Current bytes }

        after : List OnLeg
        after = came ++ (leg, Pdu bytes) ∷ []

        refuses : (fault : LineFault) → line.channel_verdict c bytes ≡ Err fault
            → Holds t came put
        refuses fault e =
            subst (λ (d : Incoming). Holds (record s { line = record (s.line) { current = d } })
            came put) (sym (refused_same c bytes fault e)) h

        by : (v : Result (Unit {0}) LineFault) → line.channel_verdict c bytes ≡ v
            → RowKeeps Holds (leg, Pdu bytes) came put (pdu_by t v)
        by (Ok admitted) e =
            let k = more (Pdu bytes) in
            record {
              channels = record {
                size = k.channels.size;
                there = k.channels.there;
                finished = k.channels.finished;
                number = k.channels.number;
                now = admitted_counts window c bytes (of_leg (ci s.current.number) came)
                    (of_leg (ci s.current.number) after)
                    (leg_counts (ci s.current.number) leg came bytes on) h.channels.now;
                behind = k.channels.behind;
                acks = acks_rise s after put (line.admitted c bytes).window.told
                    s.line.next.window.told
                    (let same = admitted_told c bytes in omega (arith, same)) (omega arith) k;
              };
              shut = λ f. absurd (true≢false (sym opened ∙ f));
              begun = k.begun;
              others = k.others;
            }
        by (Err (Window exceeded)) e = refuses (Window exceeded) e
        by (Err Over) e = refuses Over e

    next_pdu_row : (bytes : List ℕ) (z : Successor) → z ≡ s.successor
        → is_client_leg leg ≡ true
        → RowKeeps Holds (leg, Pdu bytes) came put
        (machine.pdu_by s (next_of z leg.number) bytes)
    next_pdu_row bytes Absent same e = h
    next_pdu_row bytes (Up number) same e = h
    next_pdu_row bytes (Joined client stage) same e =
        by_test (λ (o : Option Which).
        RowKeeps Holds (leg, Pdu bytes) came put (machine.pdu_by s o bytes))
        (client.number == leg.number) (Some Next) None
        (λ f. by_test (RowKeeps Holds (leg, Pdu bytes) came put)
        (has_a5 s Next || line.is_ended s.line) (unexpected s)
        (pdu_by t (line.channel_verdict c bytes)) (λ g. h)
        (λ g. by (here client.number e f) (line.channel_verdict c bytes) refl))
        (λ f. h)
      where
        c : Incoming
        c = s.line.next

        t : InProxy
        t = record s { line = line.after_admit s.line Next bytes }

        after : List OnLeg
        after = came ++ (leg, Pdu bytes) ∷ []

        opened : has_opened s.opening ≡ true
        opened = opened_by s came put h (ap is_joined (sym same))

        refuses : (fault : LineFault) → line.channel_verdict c bytes ≡ Err fault
            → Holds t came put
        refuses fault e' =
            subst (λ (d : Incoming). Holds (record s { line = record (s.line) { next = d } })
            came put) (sym (refused_same c bytes fault e')) h

        old : IsBehind window (Joined client stage) c came
        old = subst (λ (y : Successor). IsBehind window y c came) (sym same) h.channels.behind

        now : IsBehind window (Joined client stage) c after
        now =
            subst (λ (y : Successor). IsBehind window y c after) (sym same)
            (more (Pdu bytes)).channels.behind

        by : same_leg leg (ci client.number) ≡ true → (v : Result (Unit {0}) LineFault)
            → line.channel_verdict c bytes ≡ v
            → RowKeeps Holds (leg, Pdu bytes) came put (pdu_by t v)
        by on (Ok admitted) e' =
            let k = more (Pdu bytes) in
            record {
              channels = record {
                size = k.channels.size;
                there = k.channels.there;
                finished = k.channels.finished;
                number = k.channels.number;
                now = k.channels.now;
                acks = acks_rise s after put s.line.current.window.told
                    (line.admitted c bytes).window.told (omega arith)
                    (let same' = admitted_told c bytes in omega (arith, same')) k;
                behind =
                    subst (λ (y : Successor).
                    IsBehind window y (line.admitted c bytes) after) same (
                      admitted_counts window c bytes (of_leg (ci client.number) came)
                          (of_leg (ci client.number) after)
                          (leg_counts (ci client.number) leg came bytes on) old.0,
                      now.1,
                    );
              };
              shut = λ f. absurd (true≢false (sym opened ∙ f));
              begun = k.begun;
              others = k.others;
            }
        by on (Err (Window exceeded)) e' = refuses (Window exceeded) e'
        by on (Err Over) e' = refuses Over e'

    pub pdu_row : (count : Count) (bytes : List ℕ)
        → RowKeeps Holds (leg, Pdu bytes) came put (pdu s leg count bytes)
    pdu_row count bytes =
        by_test (RowKeeps Holds (leg, Pdu bytes) came put) (is_client_leg leg)
        (machine.pdu_by s (channel_of s leg.number) bytes) (unexpected s)
        (λ e. by_test (λ (o : Option Which).
        RowKeeps Holds (leg, Pdu bytes) came put (machine.pdu_by s o bytes))
        (has_opened s.opening && (s.current.number == leg.number)) (Some Current)
        (next_of s.successor leg.number)
        (λ f.
        let both = and_parts (has_opened s.opening) (s.current.number == leg.number) f in
        current_pdu bytes (here s.current.number e both.1) both.0)
        (λ f. next_pdu_row bytes s.successor refl e))
        (λ e. h)

  -- ---- legs come up

  first_two : (a b c d : Bool) → a && b && c && d ≡ true → (a ≡ true) × (b ≡ true)
  first_two true true c d e = (refl, refl)
  first_two true false c d e = absurd cc
  first_two false b c d e = absurd cc

  comes : (s : InProxy) (n : ℕ) (came put : List OnLeg) → accepts_later s n ≡ true
      → Holds s came put → Holds (record s { successor = Up n; newest_lost = false }) came put
  comes s n came put later h = by s.successor both.1 h.channels
    where
      both : ((n == s.current.number + 1) ≡ true) × (is_absent s.successor ≡ true)
      both =
          first_two (n == s.current.number + 1) (is_absent s.successor)
          (nat_le s.lengths GREATEST_LENGTHS) (not (has_come s.handover)) later

      by : (z : Successor) → is_absent z ≡ true → Channels window s.line s.current z came put
          → Holds (record s { successor = Up n; newest_lost = false }) came put
      by Absent f k = record {
        channels = record {
          size = k.size;
          there = k.there;
          finished = k.finished;
          number = eqb-true n (s.current.number + 1) both.0;
          now = k.now;
          behind = tt;
          acks = k.acks;
        };
        shut = h.shut;
        begun = h.begun;
        others = h.others;
      }
      by (Up number) f k = absurd cc
      by (Joined client stage) f k = absurd cc

  accepted_holds : (s : InProxy) (o : Opening) (n : ℕ) (came put : List OnLeg)
      → s.opening ≡ o → accepts s o n ≡ true → Holds s came put
      → Holds (accepted s o n) came put
  accepted_holds s openings.AwaitsClient n came put e f h =
      same_holds s (record s { opening = openings.AwaitsPacket }) came put
      (ap (λ (o : Opening). record (seen s) { opened = has_opened o }) (sym e)) h
  accepted_holds s openings.AwaitsPacket n came put e f h = absurd cc
  accepted_holds s (openings.WantsServer o) n came put e f h =
      comes s n came put f h
  accepted_holds s (openings.Announces o) n came put e f h =
      comes s n came put f h
  accepted_holds s (openings.Announced o) n came put e f h =
      comes s n came put f h

  connected_holds : (s : InProxy) (o : Opening) (came put : List OnLeg) → s.opening ≡ o
      → Holds s came put → Holds (connected s o) came put
  connected_holds s (openings.WantsServer o) came put e h =
      same_holds s (record s { opening = openings.Announces o }) came put
      (ap (λ (x : Opening). record (seen s) { opened = has_opened x }) (sym e)) h
  connected_holds s openings.AwaitsClient came put e h = h
  connected_holds s openings.AwaitsPacket came put e h = h
  connected_holds s (openings.Announces o) came put e h = h
  connected_holds s (openings.Announced o) came put e h = h

  pub up_holds : (s : InProxy) (leg : Leg) (came put : List OnLeg) → Holds s came put
      → Holds (up s leg) came put
  up_holds s leg came put h =
      by_test (λ (t : InProxy). Holds t came put) (may_accept s leg)
      (accepted s s.opening leg.number) (if wants s leg then connected s s.opening else s)
      (λ e. accepted_holds s s.opening leg.number came put refl
      (and_parts (is_client_leg leg) (accepts s s.opening leg.number) e).1 h)
      (λ e. by_test (λ (t : InProxy). Holds t came put) (wants s leg) (connected s s.opening) s
      (λ f. connected_holds s s.opening came put refl h) (λ f. h))
