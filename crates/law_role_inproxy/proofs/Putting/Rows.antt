-- what comes to an in proxy changes nothing on its is leg, and is known
use Rattle.rh_window.specs.Receiving as windows
use Rattle.law_order.proofs.Vocabulary.{◌≡◌, ℕ, suc, ◌==◌, ◌&&◌, ◌||◌, Bool, true, false, not, if◌then◌else◌, List, [], ◌∷◌, ◌++◌, length, Some, None, Ok, Err, inr, refl, sym, ap, ◌∙◌, subst, and_parts, Option, is_ok, Result}
use Rattle.rh_sig.specs.declared.named.Named.TheVariants as named
use Rattle.rh_line.specs.Lines as line
use Rattle.rh_shell.specs.declared.answers.Refused.TheVariants as refused
use Rattle.rh_shell.specs.Waiting as waiting
use Rattle.rh_inproxy.specs.Passing as passing
use Rattle.rh_inproxy.specs.Machine as machine
use Rattle.rh_inproxy.specs.declared.state.Handover.TheVariants as handovers
use Rattle.law_moves.proofs.Vocabulary.{by_test, same_number, neither, Cookie, Named, Incoming, LineFault, Window, Over, Leg, Which, Current, Next, Count, Refused, Due, Forwarded, of_leg, OnLeg, BeginsIn}
use Rattle.law_moves.proofs.Lemmas.{all_append}
use Rattle.law_role_inproxy.proofs.Vocabulary.{ClientLeg, InProxyConfig, TellsServer, Told, Follows, Opener, Opening, AwaitsClient, AwaitsPacket, WantsServer, Announces, Announced, Successor, Absent, Up, Joined, Done, taken, refuse, unexpected, forward_by, forwarded, is_announced, has_later, on_end_a1, is_newcomer, joined, join, on_later_in_r1_a1, on_in_r1_a5, finished, finish_by, handed_over, hand_over, is_first, awaits_packet, opened, opener, opener_of, kept_for, leg_of}
use Rattle.law_role_inproxy.proofs.Vocabulary.{on_first_in_r1_a1, InProxy, channel_of, has_a5, has_come, has_opened, hands_over, is_client_leg, is_joined, is_server_leg, next_of, same_cookie, on_keep_alive, pdu, packet, on_channel, on_channel_by, on_ci, on_is, KEEPALIVE, Connects, Replaces, CameOn, CameFirst, HasPdu, Joins, Leaves, Switches, Acknowledges, IsPlainPacket}
use Rattle.law_role_inproxy.proofs.Putting.Sounds.{seen, Same, Sound, Moves, IsOpener, IsOpening, IsLeaving, IsNext, IsQuiet, told_by, same_moves, moves_on, settles}
use Rattle.law_role_inproxy.proofs.Putting.Tests.{same_keep_alive, same_is, not_so, awaits_is, opened_any, joining, finishing, joined_any, leaving_next, uncome, unpassed, none_of, same_told, untold}
use Rattle.law_role_inproxy.proofs.Putting.Waiting as waits
use Rattle.law_role_inproxy.specs.Putting.Puts as puts

-- ---- rows

-- before what comes, and behind it where it is taken
module _ (config : InProxyConfig) (came later : List OnLeg) (s : InProxy)
    (h : Sound config (seen s) came) (k : Sound config (seen s) later) where
  abbrev pub Row : Done → Type 0
  Row (t, Ok taken) = Moves config later s t
  Row (t, Err why) = Moves config came s t

  same_row : (x : Done) → Same s x.0 → Row x
  same_row (t, Ok taken) same = same_moves config later s t same k
  same_row (t, Err why) same = same_moves config came s t same h

  refused_row : (why : Refused) → Row (refuse s why)
  refused_row why = same_moves config came s s refl h

  abbrev number_of : Which → ℕ
  number_of Current = s.current.number
  number_of Next = suc s.current.number

  abbrev IsThere : Which → Type 0
  IsThere Current = Unit {0}
  IsThere Next = is_joined s.successor ≡ true

  channel_at : (P : Option Which → Type 0) (number : ℕ) → P None
      → ((which : Which) → IsThere which → number_of which ≡ number → P (Some which))
      → P (channel_of s number)
  channel_at P number none some =
      by_test P (has_opened s.opening && (s.current.number == number)) (Some Current)
      (next_of s.successor number)
      (λ e. some Current tt (same_number s.current.number number
      (and_parts (has_opened s.opening) (s.current.number == number) e).1))
      (λ e. by s.successor refl k.next)
    where
      by : (z : Successor) → s.successor ≡ z → IsNext later s.current.number z
          → P (next_of z number)
      by Absent e next = none
      by (Up leg) e next = none
      by (Joined leg stage) e next =
          by_test P (leg.number == number) (Some Next) None
          (λ f. some Next (ap is_joined e) (sym next.0 ∙ same_number leg.number number f))
          (λ f. none)

  -- where no IN_R1/A5 came on the channel, IN_R1/A6 was not put
  any_quiet : (which : Which) → has_a5 s which ≡ false → (dues : List Due)
      (pdus : List (List ℕ)) (ended end_put : Bool) → IsQuiet s.handover dues pdus ended end_put
  any_quiet Current e dues pdus ended end_put =
      unpassed later s.current.number s.successor s.handover dues pdus ended end_put k.leaving e
  any_quiet Next e dues pdus ended end_put = uncome s.handover dues pdus ended end_put e

  -- ---- RPC PDUs

  abbrev grown : List ℕ → Bool → Incoming → Incoming
  grown bytes admitted c =
      if admitted then record c {
        pdus = c.pdus ++ bytes ∷ [];
        window = windows.after_admit c.window (length bytes);
      } else c

  verdict_row : (which : Which) (bytes : List ℕ) (v : Result (Unit {0}) LineFault)
      → has_a5 s which ≡ false → HasPdu bytes (of_leg (puts.ci (number_of which)) later)
      → Row (passing.pdu_by (record s {
        line = line.with_channel s.line which
            (grown bytes (is_ok v) (line.channel_of s.line which));
      }) v)
  verdict_row Current bytes (Ok admitted) e here = record {
    sound = record {
      same = k.same;
      joined = k.joined;
      finished = k.finished;
      opening = k.opening;
      next = k.next;
      leaving = k.leaving;
      waits = k.waits;
      held = all_append
          (λ (pdu : List ℕ). HasPdu pdu (of_leg (puts.ci s.current.number) later))
          s.line.current.pdus (bytes ∷ []) k.held (here, tt);
      held_next = k.held_next;
      quiet = any_quiet Current e s.waiting.due (s.line.current.pdus ++ bytes ∷ [])
          s.line.current.ended s.end_put;
    };
    last = refl;
    announced = refl;
    opened = λ e. e;
  }
  verdict_row Next bytes (Ok admitted) e here = record {
    sound = record {
      same = k.same;
      joined = k.joined;
      finished = k.finished;
      opening = k.opening;
      next = k.next;
      leaving = k.leaving;
      waits = k.waits;
      held = k.held;
      held_next = all_append
          (λ (pdu : List ℕ). HasPdu pdu (of_leg (puts.ci (suc s.current.number)) later))
          s.line.next.pdus (bytes ∷ []) k.held_next (here, tt);
      quiet = k.quiet;
    };
    last = refl;
    announced = refl;
    opened = λ e. e;
  }
  verdict_row Current bytes (Err (Window exceeded)) e here = refused_row (refused.Window exceeded)
  verdict_row Next bytes (Err (Window exceeded)) e here = refused_row (refused.Window exceeded)
  verdict_row Current bytes (Err Over) e here = refused_row refused.Unexpected
  verdict_row Next bytes (Err Over) e here = refused_row refused.Unexpected

  pub pdu_row : (leg : Leg) (count : Count) (bytes : List ℕ)
      → (is_client_leg leg ≡ true → HasPdu bytes (of_leg (puts.ci leg.number) later))
      → Row (pdu s leg count bytes)
  pdu_row leg count bytes here =
      by_test Row (is_client_leg leg) (machine.pdu_by s (channel_of s leg.number) bytes)
      (unexpected s)
      (λ e. channel_at (λ (o : Option Which). Row (machine.pdu_by s o bytes)) leg.number
      (refused_row refused.Unexpected)
      (λ which there is.
      by_test Row (has_a5 s which || line.is_ended s.line) (unexpected s)
      (passing.pdu_by (record s { line = line.after_admit s.line which bytes })
      (line.admit_verdict s.line which bytes))
      (λ f. refused_row refused.Unexpected)
      (λ f. verdict_row which bytes (line.admit_verdict s.line which bytes)
      (neither (has_a5 s which) (line.is_ended s.line) f).0
      (subst (λ (n : ℕ). HasPdu bytes (of_leg (puts.ci n) later)) (sym is) (here e)))))
      (λ e. refused_row refused.Unexpected)

  -- ---- END

  end_row : (which : Which) → Row (on_end_a1 s which)
  end_row which =
      by_test Row
      (has_a5 s which || (line.channel_of s.line which).ended || has_later s which)
      (unexpected s) (taken (record s { line = line.after_end s.line which }))
      (λ e. refused_row refused.Unexpected)
      (λ e. by which (none_of (has_a5 s which) (line.channel_of s.line which).ended
      (has_later s which) e))
    where
      by : (w : Which) → has_a5 s w ≡ false
          → Row (taken (record s { line = line.after_end s.line w }))
      by Next e =
          same_moves config later s (record s { line = line.after_end s.line Next }) refl k
      by Current e = record {
        sound = record {
          same = k.same;
          joined = k.joined;
          finished = k.finished;
          opening = k.opening;
          next = k.next;
          leaving = k.leaving;
          waits = k.waits;
          held = k.held;
          held_next = k.held_next;
          quiet = any_quiet Current e s.waiting.due s.line.current.pdus true s.end_put;
        };
        last = refl;
        announced = refl;
        opened = λ e. e;
      }

  -- ---- what is forwarded

  forward_row : (m : Named) → IsPlainPacket later m
      → ((dues : List Due)
      → IsQuiet s.handover dues s.line.current.pdus s.line.current.ended s.end_put)
      → Row (forwarded s m)
  forward_row m is quiet =
      by (waiting.forwarded s.waiting m)
      (waits.forwarded_joins (IsPlainPacket later) s.waiting m is k.waits)
    where
      by : (r : waiting.Waiting × Bool) → waits.Joins (IsPlainPacket later) s.waiting r
          → Row (forward_by s r)
      by (w, true) each = record {
        sound = record {
          same = k.same;
          joined = k.joined;
          finished = k.finished;
          opening = k.opening;
          next = k.next;
          leaving = k.leaving;
          waits = each;
          held = k.held;
          held_next = k.held_next;
          quiet = quiet w.due;
        };
        last = refl;
        announced = refl;
        opened = λ e. e;
      }
      by (w, false) same =
          same_moves config came s (record s { waiting = w })
          (ap (λ (v : waiting.Waiting). record (seen s) { waiting = v }) same) h

  -- ---- the first packet

  opened_row : (number : ℕ) (o : Opener) (keepalive : ℕ) → is_first s number ≡ true
      → (has_opened s.opening ≡ false → number ≡ config.number → IsOpener config later o o.entry)
      → CameOn number (BeginsIn o.channel) later → Row (opened s o keepalive)
  opened_row number o keepalive e opens begins =
      let parts = and_parts (awaits_packet s.opening) (s.current.number == number) e in
      let is = awaits_is s.opening parts.0 in
      let first = subst (IsOpening config later s.current s.successor) is k.opening in
      let number_is = same_number s.current.number number parts.1 in record {
        sound = record {
          same = k.same;
          joined = k.joined;
          finished = k.finished;
          opening = (
            opens (ap has_opened is) (sym number_is ∙ first.0),
            subst (λ (n : ℕ). CameOn n (BeginsIn o.channel) later) (sym number_is) begins,
          );
          next = k.next;
          leaving = k.leaving;
          waits = k.waits;
          held = k.held;
          held_next = k.held_next;
          quiet = k.quiet;
        };
        last = refl;
        announced = sym (ap is_announced is);
        opened = λ f. absurd cc;
      }

  -- ---- a later ci leg

  joined_row : (leg : ℕ) (channel : Cookie) → has_opened s.opening ≡ true
      → s.successor ≡ Up leg → CameOn leg (Joins channel) later → Row (taken (joined s leg channel))
  joined_row leg channel has e came_there =
      let up = subst (λ (z : Successor). Sound config (record (seen s) { successor = z }) later)
      e k in
      let now = Joined (leg_of leg channel) (TellsServer (waiting.count Forwarded s.waiting.due))
      in record {
        sound = record {
          same = k.same;
          joined = refl;
          finished = up.finished;
          opening = opened_any config later s.current s.successor now s.opening has k.opening;
          next = (up.next, subst (λ (n : ℕ). CameOn n (Joins channel) later) up.next came_there);
          leaving = joining config later s.current.number leg (leg_of leg channel)
              (TellsServer (waiting.count Forwarded s.waiting.due)) s.handover up.leaving;
          waits = k.waits;
          held = k.held;
          held_next = tt;
          quiet = k.quiet;
        };
        last = untold s.current.number now (Up leg) s.handover (λ n. refl)
            ∙ ap (λ (z : Successor). told_by s.current.number z s.handover) (sym e);
        announced = refl;
        opened = λ e. e;
      }

  later_row : (number : ℕ) (connection predecessor channel : Cookie)
      → CameOn number (Joins channel) later
      → Row (on_later_in_r1_a1 s (opener_of s.opening) number connection predecessor channel)
  later_row number connection predecessor channel came_there = by s.opening refl
    where
      joins : (o : Opener) (z : Successor) → s.successor ≡ z → has_opened s.opening ≡ true
          → Row (if is_newcomer z number
          then join s o number connection predecessor channel else unexpected s)
      joins o Absent e has = refused_row refused.Unexpected
      joins o (Joined leg stage) e has = refused_row refused.Unexpected
      joins o (Up leg) e has =
          by_test Row (leg == number) (join s o number connection predecessor channel)
          (unexpected s)
          (λ f. by_test Row (not (same_cookie o.connection connection))
          (refuse s (refused.Cookie o.connection connection))
          (if not (same_cookie s.current.cookie predecessor)
          then refuse s (refused.Cookie s.current.cookie predecessor)
          else taken (joined s number channel))
          (λ g. refused_row (refused.Cookie o.connection connection))
          (λ g. by_test Row (not (same_cookie s.current.cookie predecessor))
          (refuse s (refused.Cookie s.current.cookie predecessor))
          (taken (joined s number channel))
          (λ i. refused_row (refused.Cookie s.current.cookie predecessor))
          (λ i. joined_row number channel has
          (e ∙ ap (λ (n : ℕ). Up n) (same_number leg number f)) came_there)))
          (λ f. refused_row refused.Unexpected)

      by : (o : Opening) → s.opening ≡ o
          → Row (on_later_in_r1_a1 s (opener_of o) number connection predecessor channel)
      by AwaitsClient e = refused_row refused.Unexpected
      by AwaitsPacket e = refused_row refused.Unexpected
      by (WantsServer o) e = joins o s.successor refl (ap has_opened e)
      by (Announces o) e = joins o s.successor refl (ap has_opened e)
      by (Announced o) e = joins o s.successor refl (ap has_opened e)

  -- ---- IN_R1/A5

  handed_row : (cookie : Cookie) → has_come s.handover ≡ false
      → IsLeaving later s.current.number (handovers.Came cookie) s.successor
      → Row (handed_over s cookie)
  handed_row cookie none leaves = record {
    sound = record {
      same = k.same;
      joined = k.joined;
      finished = k.finished;
      opening = k.opening;
      next = k.next;
      leaving = leaves;
      waits = k.waits;
      held = k.held;
      held_next = k.held_next;
      quiet = tt;
    };
    last = same_told s.current.number cookie s.successor s.handover none;
    announced = refl;
    opened = λ e. e;
  }

  finished_row : (leg : ClientLeg) → s.successor ≡ Joined leg Told → Row (taken (finished s leg))
  finished_row leg e =
      let t : InProxy = record s {
        line = record (s.line) { finished = true };
        successor = Joined leg Follows;
      } in
      let told = subst (λ (z : Successor). Sound config (record (seen s) { successor = z }) later)
      e k in
      let goes : Moves config later s t = record {
        sound = record {
          same = k.same;
          joined = told.joined;
          finished = refl;
          opening = joined_any config later s.current leg Told Follows s.opening told.opening;
          next = told.next;
          leaving = finishing config later s.current.number leg Told Follows s.handover
              told.leaving;
          waits = k.waits;
          held = k.held;
          held_next = k.held_next;
          quiet = k.quiet;
        };
        last = untold s.current.number (Joined leg Follows) (Joined leg Told) s.handover
            (λ n. refl) ∙ ap (λ (z : Successor). told_by s.current.number z s.handover) (sym e);
        announced = refl;
        opened = λ e. e;
      } in
      moves_on config later s t (finished s leg) goes (settles config later t goes.sound)

  finish_row : (z : Successor) (cookie : Cookie) → s.successor ≡ z
      → hands_over z s.handover ≡ false → CameOn s.current.number (Leaves cookie) later
      → Row (finish_by s z cookie)
  finish_row Absent cookie e none here =
      handed_row cookie none
      (subst (IsLeaving later s.current.number (handovers.Came cookie)) (sym e) here)
  finish_row (Joined leg Told) cookie e none here =
      by_test Row (same_cookie leg.cookie cookie) (taken (finished s leg))
      (refuse s (refused.Cookie leg.cookie cookie)) (λ f. finished_row leg e)
      (λ f. refused_row (refused.Cookie leg.cookie cookie))
  finish_row (Joined leg Follows) cookie e none here = refused_row refused.Unexpected
  finish_row (Joined leg (TellsServer behind)) cookie e none here =
      refused_row refused.Unexpected
  finish_row (Up number) cookie e none here = refused_row refused.Unexpected

  -- ---- behind the first packet of a ci leg

  a5_row : (which : Which) (cookie : Cookie) → IsThere which
      → CameOn (number_of which) (Leaves cookie) later → Row (on_in_r1_a5 s which cookie)
  a5_row which cookie there here =
      by_test Row (has_a5 s which) (unexpected s) (hand_over s which cookie)
      (λ e. refused_row refused.Unexpected) (λ e. by which e there here)
    where
      by : (w : Which) → has_a5 s w ≡ false → IsThere w → CameOn (number_of w) (Leaves cookie) later
          → Row (hand_over s w cookie)
      by Current e there here = finish_row s.successor cookie refl e here
      by Next e there here =
          handed_row cookie e
          (leaving_next config later s.current.number cookie s.successor there here)

  going : (which : Which) (to : Bool) → not (has_a5 s which) && to ≡ true → (dues : List Due)
      → IsQuiet s.handover dues s.line.current.pdus s.line.current.ended s.end_put
  going which to e dues =
      any_quiet which (not_so (has_a5 s which) (and_parts (not (has_a5 s which)) to e).0) dues
      s.line.current.pdus s.line.current.ended s.end_put

  channel_row : (which : Which) (m : Named) → IsThere which
      → ((Is : Named → Type 0) → Is m → CameOn (number_of which) Is later)
      → Row (on_channel s which m)
  channel_row which (named.AckTo to received available channel) there here =
      by_test Row (not (has_a5 s which) && (to == 3))
      (forwarded s (named.AckTo 3 received available channel)) (unexpected s)
      (λ e. forward_row (named.AckTo 3 received available channel)
      (inr (
        refl,
        (
          number_of which,
          here (Acknowledges received available channel)
              (same_number to 3 (and_parts (not (has_a5 s which)) (to == 3) e).1, refl, refl, refl),
        ),
      )) (going which (to == 3) e))
      (λ e. refused_row refused.Unexpected)
  channel_row which (named.OutR1A7 to successor) there here =
      by_test Row (not (has_a5 s which) && (to == 2)) (forwarded s (named.OutR1A8 2 successor))
      (unexpected s)
      (λ e. forward_row (named.OutR1A8 2 successor) (
        refl,
        (
          number_of which,
          here (Switches successor)
              (same_number to 2 (and_parts (not (has_a5 s which)) (to == 2) e).1, refl),
        ),
      ) (going which (to == 2) e))
      (λ e. refused_row refused.Unexpected)
  channel_row which (named.KeepAlive keepalive) there here =
      same_row (on_keep_alive s which keepalive) (same_keep_alive s which keepalive)
  channel_row which named.EndA1 there here = end_row which
  channel_row which (named.InR1A5 successor) there here =
      a5_row which successor there (here (Leaves successor) refl)
  channel_row which m there here = refused_row refused.Unexpected

  -- ---- on a leg

  module _ (number : ℕ) (m : Named)
      (here : (Is : Named → Type 0) → Is m → CameOn number Is later) where
    at : (n : ℕ) → n ≡ number → (Is : Named → Type 0) → Is m → CameOn n Is later
    at n e Is is = subst (λ (j : ℕ). CameOn j Is later) (sym e) (here Is is)

    by_channel_row : Row (on_channel_by s (channel_of s number) m)
    by_channel_row =
        channel_at (λ (o : Option Which). Row (on_channel_by s o m)) number
        (refused_row refused.Unexpected)
        (λ which there is. channel_row which m there (at (number_of which) is))

  ci_row : (number : ℕ) (m : Named)
      → ((Is : Named → Type 0) → Is m → CameOn number Is later)
      → (has_opened s.opening ≡ false → number ≡ config.number → (Is : Named → Type 0) → Is m
      → CameFirst config.number Is later) → Row (on_ci s number m)
  ci_row number (named.ConnB1 version connection channel lifetime keepalive group) here front =
      by_test Row (is_first s number)
      (opened s (opener connection channel (Connects group)) (kept_for keepalive))
      (unexpected s)
      (λ e. opened_row number (opener connection channel (Connects group)) (kept_for keepalive) e
      (λ new is. front new is (puts.Connects connection channel group) (refl, refl, refl))
      (here (BeginsIn channel) refl))
      (λ e. refused_row refused.Unexpected)
  ci_row number (named.InR1A1 version connection predecessor channel) here front =
      by_test Row (is_first s number) (on_first_in_r1_a1 s connection predecessor channel)
      (on_later_in_r1_a1 s (opener_of s.opening) number connection predecessor channel)
      (λ e. opened_row number (opener connection channel (Replaces predecessor)) KEEPALIVE e
      (λ new is. front new is (puts.Replaces connection predecessor channel) (refl, refl, refl))
      (here (BeginsIn channel) refl))
      (λ e. later_row number connection predecessor channel (here (Joins channel) refl))
  ci_row number m here front = by_channel_row number m here

  pub packet_row : (leg : Leg) (count : Count) (m : Named)
      → (is_client_leg leg ≡ true → (Is : Named → Type 0) → Is m → CameOn leg.number Is later)
      → (is_client_leg leg ≡ true → has_opened s.opening ≡ false → leg.number ≡ config.number
      → (Is : Named → Type 0) → Is m → CameFirst config.number Is later)
      → Row (packet s leg count m)
  packet_row leg count m here front =
      by_test Row (is_client_leg leg) (on_ci s leg.number m)
      (if is_server_leg s leg then on_is s m else unexpected s)
      (λ e. ci_row leg.number m (here e) (front e))
      (λ e. by_test Row (is_server_leg s leg) (on_is s m) (unexpected s)
      (λ f. same_row (on_is s m) (same_is s m)) (λ f. refused_row refused.Unexpected))
