-- before IN_R1/A6 each message that an in proxy puts on its is leg stands there in its order
use Rattle.law_order.proofs.Vocabulary.{◌≡◌, ℕ, suc, ◌-◌, ◌≤◌, ◌==◌, ◌&&◌, Bool, true, false, not, if◌then◌else◌, List, [], ◌∷◌, ◌++◌, length, Some, None, inl, refl, sym, ap, ◌∙◌, subst, arith, and_parts, Option}
use Rattle.rh_sig.specs.declared.named.Named.TheVariants as named
use Rattle.rh_line.specs.Lines as line
use Rattle.rh_shell.specs.Waiting as waiting
use Rattle.rh_inproxy.specs.declared.state.Handover.TheVariants as handovers
use Rattle.law_moves.proofs.Vocabulary.{may_send, after_sent, Sender, Ack, by_test, Cookie, Which, Current, Next, Due, Message, Pdu, Packet, OnLeg, BeginsIn}
use Rattle.law_role_inproxy.proofs.Vocabulary.{ClientLeg, Handover, InProxyConfig, TellsServer, Told, Follows, Opening, AwaitsClient, AwaitsPacket, WantsServer, Announces, Announced, Successor, Absent, Up, Joined, ack_due, ack_by, current_ack, next_ack, put_acks, Pick, or_else, is_announced, put_end, told_by as tells_by, one_less, put_in_r2_a2, mark_by, put_in_r1_a6, put_first, is_absent, next_pdu, passed, put_pdu, next, waiting_by, put_waiting, put_control, put_early}
use Rattle.law_role_inproxy.proofs.Vocabulary.{put_stream, put_behind, put_mark, InProxy, followed, put_ping, IsPlain}
use Rattle.law_role_inproxy.proofs.Putting.Fronts.{plain_first, more_at}
use Rattle.law_role_inproxy.proofs.Putting.Sounds.{seen, Same, Sound, Moves, IsOpening, HasBegun, IsLeaving, IsQuiet, Held, Waits, told, told_by, last, begins, same_moves, moves_on, settles}
use Rattle.law_role_inproxy.proofs.Putting.Tests.{joined_any, finishing}
use Rattle.law_role_inproxy.proofs.Putting.Stands.{Stands}
use Rattle.law_role_inproxy.proofs.OrderKeeps.{nothing_there}
use Rattle.law_role_inproxy.proofs.Putting.Stands as stands
use Rattle.law_role_inproxy.specs.Putting.Puts.{Came}

-- ---- tests

no_end_due : (ended end_put empty : Bool) → empty ≡ true → ended && not end_put && empty ≡ false
    → ended && not end_put ≡ false
no_end_due false end_put empty e f = refl
no_end_due true true empty e f = refl
no_end_due true false true e f = absurd cc
no_end_due true false false e f = absurd cc

pub no_other : (a b : Pick) → or_else a b ≡ None → (a ≡ None) × (b ≡ None)
no_other None b e = (refl, e)
no_other (Some pick) b e = absurd cc

pub none_waits : (s : InProxy) (dues : List Due) → waiting_by s dues ≡ None → dues ≡ []
none_waits s [] e = refl
none_waits s (due ∷ dues) e = absurd cc

pub none_so : {X : Type 0} (b : Bool) (x : X) → (if b then Some x else None) ≡ None → b ≡ false
none_so true x e = absurd cc
none_so false x e = refl

not_put : (s : InProxy) → put_end s ≡ None
    → s.line.current.ended && not s.end_put && line.is_empty s.line.current.pdus ≡ false
not_put s e =
    let one : InProxy × Message = (record s { end_put = true }, Packet named.EndA2) in
    none_so (s.line.current.ended && not s.end_put && line.is_empty s.line.current.pdus) one e

abbrev value : Option ℕ → ℕ
value None = 0
value (Some n) = n

at_least_told : (n k : ℕ) (z : Successor) → told n z ≡ k → n ≤ k
at_least_told n k Absent e = omega (arith, e)
at_least_told n k (Up number) e = omega (arith, e)
at_least_told n k (Joined leg (TellsServer b)) e = omega (arith, e)
at_least_told n k (Joined leg Told) e = omega (arith, e)
at_least_told n k (Joined leg Follows) e = omega (arith, e)

told_at_least : (n k : ℕ) (z : Successor) (handover : Handover)
    → told_by n z handover ≡ Some k → n ≤ k
told_at_least n k z handovers.Before e = at_least_told n k z (ap value e)
told_at_least n k z (handovers.Came cookie) e = at_least_told n k z (ap value e)
told_at_least n k z handovers.Passed e = absurd cc

module _ (config : InProxyConfig) (came : List OnLeg) (ms : List Message) (s : InProxy)
    (h : Stands config came ms s) (announced : is_announced s.opening ≡ true)
    (k : ℕ) (unmarked : last (seen s) ≡ Some k) where
  abbrev Goes : Pick → Type 0
  Goes pick = stands.Goes config came ms s h pick

  abbrev n : ℕ
  n = s.current.number

  or_goes : (a b : Pick) → Goes a → (a ≡ None → Goes b) → Goes (or_else a b)
  or_goes a b = stands.or_stands config came ms s h a b

  plain_goes : (t : InProxy) (m : Message) → Moves config came s t → IsPlain came k m
      → Stands config came (ms ++ m ∷ []) t
  plain_goes t m moves is =
      stands.more config came ms s h announced t m moves.sound (moves.announced ∙ announced)
      (λ rest stands e.
      let one = plain_first came k m is in
      let both = more_at came config.number k rest m (e ∙ unmarked) one.0 stands in
      (both.0, both.1 ∙ one.1 ∙ sym unmarked ∙ sym moves.last))

  same_goes : (t : InProxy) (m : Message) → Same s t → IsPlain came k m
      → Stands config came (ms ++ m ∷ []) t
  same_goes t m same is = plain_goes t m (same_moves config came s t same h.sound) is

  unmarked_quiet : (z : Successor) (handover : Handover) (dues : List Due)
      (pdus : List (List ℕ)) (ended end_put : Bool) → told_by n z handover ≡ Some k
      → IsQuiet handover dues pdus ended end_put
  unmarked_quiet z handovers.Before dues pdus ended end_put e = tt
  unmarked_quiet z (handovers.Came cookie) dues pdus ended end_put e = tt
  unmarked_quiet z handovers.Passed dues pdus ended end_put e = absurd cc

  -- ---- IN_R2/A2

  untold_last : (leg : ClientLeg) (b : ℕ) (handover : Handover)
      → IsLeaving came n handover (Joined leg (TellsServer b))
      → (told_by n (Joined leg (TellsServer b)) handover ≡ Some n)
      × (told_by n (Joined leg Told) handover ≡ Some (suc n))
  untold_last leg b handovers.Before l = (refl, refl)
  untold_last leg b (handovers.Came cookie) l = (refl, refl)
  untold_last leg b handovers.Passed l = absurd l

  with_next : (z : Successor) → s.successor ≡ z
      → Sound config (record (seen s) { successor = z }) came
  with_next z e =
      subst (λ (y : Successor). Sound config (record (seen s) { successor = y }) came) e h.sound

  told_goes : (z : Successor) → s.successor ≡ z → Goes (tells_by s z)
  told_goes Absent e = tt
  told_goes (Up number) e = tt
  told_goes (Joined leg Told) e = tt
  told_goes (Joined leg Follows) e = tt
  told_goes (Joined leg (TellsServer b)) e =
      by_test Goes (b == 0)
      (Some (record s { successor = Joined leg Told }, Packet (named.InR2A2 leg.cookie))) None
      (λ f.
      let k = with_next (Joined leg (TellsServer b)) e in
      let lasts = untold_last leg b s.handover k.leaving in
      stands.more config came ms s h announced (record s { successor = Joined leg Told })
      (Packet (named.InR2A2 leg.cookie))
      (record {
        same = k.same;
        joined = k.joined;
        finished = k.finished;
        opening = joined_any config came s.current leg (TellsServer b) Told s.opening k.opening;
        next = k.next;
        leaving = finishing config came n leg (TellsServer b) Told s.handover k.leaving;
        waits = k.waits;
        held = k.held;
        held_next = k.held_next;
        quiet = k.quiet;
      })
      announced
      (λ rest stands now.
      let both = more_at came config.number n rest (Packet (named.InR2A2 leg.cookie))
      (now ∙ ap (λ (y : Successor). told_by n y s.handover) e ∙ lasts.0) (k.next.1, tt) stands in
      (both.0, both.1 ∙ sym lasts.1)))
      (λ f. tt)

  -- ---- packets that wait

  less_moves : (t : InProxy) → Sound config (seen t) came
      → Moves config came t (record t { successor = one_less t.successor })
  less_moves t k = by t.successor refl
    where
      same : (z : Successor) → t.successor ≡ z
          → Moves config came t (record t { successor = z })
      same z e =
          same_moves config came t (record t { successor = z })
          (ap (λ (y : Successor). record (seen t) { successor = y }) (sym e)) k

      by : (z : Successor) → t.successor ≡ z
          → Moves config came t (record t { successor = one_less z })
      by Absent e = same Absent e
      by (Up number) e = same (Up number) e
      by (Joined leg Told) e = same (Joined leg Told) e
      by (Joined leg Follows) e = same (Joined leg Follows) e
      by (Joined leg (TellsServer b)) e =
          let j = subst (λ (y : Successor). Sound config (record (seen t) { successor = y }) came)
          e k in record {
            sound = record {
              same = j.same;
              joined = j.joined;
              finished = j.finished;
              opening = joined_any config came t.current leg (TellsServer b)
                  (TellsServer (b - 1)) t.opening j.opening;
              next = j.next;
              leaving = finishing config came t.current.number leg (TellsServer b)
                  (TellsServer (b - 1)) t.handover j.leaving;
              waits = j.waits;
              held = j.held;
              held_next = j.held_next;
              quiet = j.quiet;
            };
            last = by_handover leg b t.handover
                ∙ ap (λ (y : Successor). told_by t.current.number y t.handover) (sym e);
            announced = refl;
            opened = λ e. e;
          }
        where
          by_handover : (leg : ClientLeg) (b : ℕ) (handover : Handover)
              → told_by t.current.number (Joined leg (TellsServer (b - 1))) handover
              ≡ told_by t.current.number (Joined leg (TellsServer b)) handover
          by_handover leg b handovers.Before = refl
          by_handover leg b (handovers.Came cookie) = refl
          by_handover leg b handovers.Passed = refl

  waiting_goes : (dues : List Due) → s.waiting.due ≡ dues → Goes (waiting_by s dues)
  waiting_goes [] e = tt
  waiting_goes (due ∷ dues) e =
      let t : InProxy = record s { waiting = waiting.with_due s.waiting dues } in
      let k = h.sound in
      let each = subst (λ (all : List Due). Waits came all) e k.waits in
      let goes : Moves config came s t = record {
        sound = record {
          same = k.same;
          joined = k.joined;
          finished = k.finished;
          opening = k.opening;
          next = k.next;
          leaving = k.leaving;
          waits = each.1;
          held = k.held;
          held_next = k.held_next;
          quiet = unmarked_quiet s.successor s.handover dues s.line.current.pdus
              s.line.current.ended s.end_put unmarked;
        };
        last = refl;
        announced = refl;
        opened = λ e. e;
      } in
      plain_goes (record t { successor = one_less t.successor }) (Packet due.packet)
      (moves_on config came s t _ goes (less_moves t goes.sound)) each.0

  -- ---- acknowledgements

  ack_goes : (which : Which) (cookie : Cookie) (o : Option Ack) → Came (BeginsIn cookie) came
      → Goes (ack_by s which cookie o)
  ack_goes which cookie None begun = tt
  ack_goes which cookie (Some ack) begun =
      same_goes (record s { line = line.after_told s.line which ack })
      (Packet (named.AckTo 0 ack.received ack.available cookie)) (by which) (inl (refl, begun))
    where
      by : (w : Which) → Same s (record s { line = line.after_told s.line w ack })
      by Current = refl
      by Next = refl

  begun_by : (o : Opening) → is_announced o ≡ true
      → IsOpening config came s.current s.successor o → HasBegun came s.current
  begun_by AwaitsClient e is = absurd cc
  begun_by AwaitsPacket e is = absurd cc
  begun_by (WantsServer o) e is = absurd cc
  begun_by (Announces o) e is = absurd cc
  begun_by (Announced o) e is = is

  next_ack_goes : (z : Successor) → s.successor ≡ z → Goes (next_ack s z)
  next_ack_goes Absent e = tt
  next_ack_goes (Up number) e = tt
  next_ack_goes (Joined leg stage) e =
      let k = with_next (Joined leg stage) e in
      ack_goes Next leg.cookie (ack_due s Next)
      (leg.number, begins config came leg n k.next.0 k.next.1)

  -- ---- RPC PDUs

  passed_moves : (window : Sender) (pdus : List (List ℕ)) (pdu : List ℕ)
      → s.line.current.pdus ≡ pdu ∷ pdus
      → Moves config came s
      (followed (record s { line = line.after_take s.line; window = window }))
  passed_moves window pdus pdu e =
      subst (λ (all : List (List ℕ)). Moves config came s
      (followed (record s { line = line.taken all s.line; window = window }))) (sym e)
      (let t : InProxy = record s {
        line = record (s.line) { current = line.released (pdu ∷ pdus) s.line.current };
        window = window;
      } in
      let known = h.sound in
      let goes : Moves config came s t = record {
        sound = record {
          same = known.same;
          joined = known.joined;
          finished = known.finished;
          opening = known.opening;
          next = known.next;
          leaving = known.leaving;
          waits = known.waits;
          held = (subst (Held came n) e known.held).1;
          held_next = known.held_next;
          quiet = unmarked_quiet s.successor s.handover s.waiting.due pdus
              s.line.current.ended s.end_put unmarked;
        };
        last = refl;
        announced = refl;
        opened = λ e. e;
      } in
      moves_on config came s t _ goes (settles config came t goes.sound))

  pdu_goes : (pdus : List (List ℕ)) → s.line.current.pdus ≡ pdus → Goes (next_pdu s pdus)
  pdu_goes [] e = tt
  pdu_goes (pdu ∷ pdus) e =
      by_test Goes (may_send s.window (length pdu))
      (Some (passed s (length pdu), Pdu pdu)) None
      (λ f. plain_goes (passed s (length pdu)) (Pdu pdu)
      (passed_moves (after_sent s.window (length pdu)) pdus pdu e) (
        n,
        told_at_least n k s.successor s.handover unmarked,
        (subst (Held came n) e h.sound.held).0,
      ))
      (λ f. tt)

  -- ---- marks

  mark_goes : (handover : Handover) → s.handover ≡ handover → is_absent s.successor ≡ true
      → s.waiting.due ≡ [] → s.line.current.pdus ≡ []
      → s.line.current.ended && not s.end_put ≡ false → Goes (mark_by s handover)
  mark_goes handovers.Before e alone no_due no_pdu no_end = tt
  mark_goes handovers.Passed e alone no_due no_pdu no_end = tt
  mark_goes (handovers.Came cookie) e alone no_due no_pdu no_end = by s.successor refl
    where
      by : (z : Successor) → s.successor ≡ z → Goes (mark_by s (handovers.Came cookie))
      by (Up number) f = absurd cc
      by (Joined leg stage) f = absurd cc
      by Absent f =
          let known = h.sound in
          let leaves = subst (λ (z : Successor). IsLeaving came n (handovers.Came cookie) z) f
          (subst (λ (x : Handover). IsLeaving came n x s.successor) e known.leaving) in
          stands.more config came ms s h announced (record s { handover = handovers.Passed })
          (Packet (named.InR1A6 cookie))
          (record {
            same = known.same;
            joined = known.joined;
            finished = known.finished;
            opening = known.opening;
            next = known.next;
            leaving = subst (λ (z : Successor). IsLeaving came n handovers.Passed z) (sym f) tt;
            waits = known.waits;
            held = known.held;
            held_next = known.held_next;
            quiet = (no_due, no_pdu, no_end);
          })
          announced
          (λ rest stands now.
          more_at came config.number n rest (Packet (named.InR1A6 cookie))
          (now ∙ ap (λ (x : Handover). told_by n s.successor x) e
          ∙ ap (λ (z : Successor). told_by n z (handovers.Came cookie)) f)
          (leaves, tt) stands)

  -- ---- the next message

  end_goes : Goes (put_end s)
  end_goes =
      by_test Goes (s.line.current.ended && not s.end_put && line.is_empty s.line.current.pdus)
      (Some (record s { end_put = true }, Packet named.EndA2)) None
      (λ e. let h' = h.sound in
      plain_goes (record s { end_put = true }) (Packet named.EndA2)
      (record {
        sound = record {
          same = h'.same;
          joined = h'.joined;
          finished = h'.finished;
          opening = h'.opening;
          next = h'.next;
          leaving = h'.leaving;
          waits = h'.waits;
          held = h'.held;
          held_next = h'.held_next;
          quiet = unmarked_quiet s.successor s.handover s.waiting.due s.line.current.pdus
              s.line.current.ended true unmarked;
        };
        last = refl;
        announced = refl;
        opened = λ e. e;
      }) tt)
      (λ e. tt)

  behind_goes : s.waiting.due ≡ [] → Goes (put_behind s)
  behind_goes none =
      or_goes (put_mark s) (put_ping s)
      (or_goes (put_end s) (put_in_r1_a6 s) end_goes
      (λ no_end. by_test Goes (is_absent s.successor && line.is_empty s.line.current.pdus)
      (mark_by s s.handover) None
      (λ e.
      let parts = and_parts (is_absent s.successor) (line.is_empty s.line.current.pdus) e in
      mark_goes s.handover refl parts.0 none (nothing_there s.line.current.pdus parts.1)
      (no_end_due s.line.current.ended s.end_put (line.is_empty s.line.current.pdus) parts.1
      (not_put s no_end)))
      (λ e. tt)))
      (λ no_mark. by_test Goes s.ping_due
      (Some (record s { ping_due = false }, Packet named.Ping)) None
      (λ e. same_goes (record s { ping_due = false }) (Packet named.Ping) refl tt) (λ e. tt))

  pub unmarked_goes : stands.Goes config came ms s h (next s)
  unmarked_goes =
      or_goes (put_control s) (put_stream s)
      (or_goes (put_early s) (put_acks s)
      (or_goes (put_first s) (or_else (put_in_r2_a2 s) (put_waiting s))
      (stands.no_first config came ms s h announced s.opening announced)
      (λ e. or_goes (put_in_r2_a2 s) (put_waiting s) (told_goes s.successor refl)
      (λ f. waiting_goes s.waiting.due refl)))
      (λ e. or_goes (current_ack s) (next_ack s s.successor)
      (ack_goes Current s.current.cookie (ack_due s Current)
      (n, begun_by s.opening announced h.sound.opening))
      (λ f. next_ack_goes s.successor refl)))
      (λ e. or_goes (put_pdu s) (put_behind s) (pdu_goes s.line.current.pdus refl)
      (λ f. behind_goes (none_waits s s.waiting.due
      (no_other (put_in_r2_a2 s) (put_waiting s)
      (no_other (put_first s) (or_else (put_in_r2_a2 s) (put_waiting s))
      (no_other (put_early s) (put_acks s) e).0).1).1)))
