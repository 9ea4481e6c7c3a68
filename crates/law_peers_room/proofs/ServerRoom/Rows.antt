-- what comes to an in proxy keeps what is known of its channels
use Rattle.rh_window.specs.Receiving as windows
use Rattle.law_order.proofs.Vocabulary.{◌≡◌, ◌⊎◌, inl, inr, ℕ, suc, ◌+◌, ◌≤◌, ◌==◌, ◌&&◌, ◌||◌, Bool, true, false, true≢false, not, if◌then◌else◌, List, [], ◌∷◌, ◌++◌, length, Some, None, Ok, Err, refl, sym, ap, ◌∙◌, subst, rules, arith, and_parts, eqb-true, count_by-le-length, is_ok, nat_le, Option, Result}
use Rattle.rh_sig.specs.declared.named.Named.TheVariants as named
use Rattle.rh_line.specs.Lines as line
use Rattle.rh_shell.specs.declared.answers.Refused.TheVariants as refused
use Rattle.rh_shell.specs.Waiting as waiting
use Rattle.rh_inproxy.specs.Machine as machine
use Rattle.rh_inproxy.specs.Passing as passing
use Rattle.law_moves.proofs.Vocabulary.{by_test, same_number, Cookie, Named, Incoming, Leg, LineFault, Window, Over, Which, Current, Next, Count, Refused, Due, Forwarded, OnLeg, of_leg, BeginsIn}
use Rattle.law_role_inproxy.proofs.Vocabulary.{GREATEST_LENGTHS, KEEPALIVE, ClientLeg, Connects, Replaces, InProxyConfig, TellsServer, Told, Follows, Opener, Opening, AwaitsClient, AwaitsPacket, WantsServer, Announces, Announced, Successor, Absent, Up, Joined, forward_by, forwarded, on_ack, Done, taken, refuse, unexpected, is_newest, mark, on_end_a1, settled, is_newcomer, joined, join, on_later_in_r1_a1, on_in_r1_a5, on_in_r1_b1, on_in_r1_b2, finished, finish_by, handed_over}
use Rattle.law_role_inproxy.proofs.Vocabulary.{hand_over, pdu, packet, on_channel, on_channel_by, on_ci, on_is, accepted, accepts, accepts_later, awaits_packet, connected, drawn, head, is_absent, is_first, kept_for, may_accept, on_conn_b3, on_first_in_r1_a1, opened, opener, opener_of, up, wants, InProxy, channel_of, has_a5, has_come, has_opened, is_client_leg, is_joined, is_server_leg, next_of, same_cookie, on_keep_alive, ping, CameOn, HasPdu, ci}
use Rattle.law_role_inproxy.proofs.Putting.Tests.{absent_alone}
use Rattle.law_role_inproxy.proofs.Putting.Sounds.{told}
use Rattle.law_peers_room.proofs.ServerRoom.Channels.{seen, Same, IsUsedLeg, IsIdle, IsLater, IsBehind, MayWait, Known, Moves, same_moves, moves_on, settles}
use Rattle.law_peers_room.proofs.ServerRoom.Dues.{Joins, forwarded_joins}

-- ---- what leaves the channels alone

pub same_head : (s : InProxy) (leg : Leg) (text : List ℕ) → Same s (head s leg text).0
same_head s leg text = search rules

pub same_drawn : (s : InProxy) (leg : Leg) → Same s (drawn s leg)
same_drawn s leg = search rules

pub same_settled : (s : InProxy) → Same s (settled s)
same_settled s = search rules

pub same_mark : (s : InProxy) (leg : Leg) → Same s (mark s leg)
same_mark s leg =
    same_settled (if is_newest s leg then record s { newest_lost = true } else s)
    ∙ by_test (Same s) (is_newest s leg) _ s (λ e. refl) (λ e. refl)

pub same_ping : (s : InProxy) (leg : Leg) → Same s (ping s leg)
same_ping s leg = search rules

same_keep_alive : (s : InProxy) (which : Which) (keepalive : ℕ)
    → Same s (on_keep_alive s which keepalive).0
same_keep_alive s which keepalive = search rules

same_b3 : (s : InProxy) (size : ℕ) → Same s (on_conn_b3 s size).0
same_b3 s size = search rules

same_b2 : (s : InProxy) (size : ℕ) → Same s (on_in_r1_b2 s size).0
same_b2 s size = search rules

same_b1 : (s : InProxy) → Same s (on_in_r1_b1 s).0
same_b1 s = search rules

same_ack : (s : InProxy) (received available : ℕ) (channel : Cookie)
    → Same s (on_ack s received available channel).0
same_ack s received available channel = search rules

same_is : (s : InProxy) (m : Named) → Same s (on_is s m).0
same_is s (named.ConnB3 size version) = same_b3 s size
same_is s (named.InR1B2 size) = same_b2 s size
same_is s named.InR1B1 = same_b1 s
same_is s (named.Ack received available channel) = same_ack s received available channel
same_is s m = refl

same_end : (s : InProxy) (which : Which) → Same s (on_end_a1 s which).0
same_end s Current = search rules
same_end s Next = search rules

same_handed : (s : InProxy) (cookie : Cookie) → Same s (handed_over s cookie).0
same_handed s cookie = refl

-- ---- a leg comes up

first_two : (a b c d : Bool) → a && b && c && d ≡ true → (a ≡ true) × (b ≡ true)
first_two false b c d e = absurd cc
first_two true false c d e = absurd cc
first_two true true c d e = (refl, refl)

module _ (config : InProxyConfig) (came : List OnLeg) (s : InProxy)
    (h : Known config (seen s) came) where
  abbrev Goes : InProxy → Type 0
  Goes t = Moves config came s t

  still : Goes s
  still = same_moves config came s s refl h

  newcomer : (number : ℕ) → accepts_later s number ≡ true
      → Goes (record s { successor = Up number; newest_lost = false })
  newcomer number e =
      by s.successor refl
      (first_two (number == s.current.number + 1) (is_absent s.successor)
      (nat_le s.lengths GREATEST_LENGTHS) (not (has_come s.handover)) e)
    where
      by : (z : Successor) → s.successor ≡ z
          → ((number == s.current.number + 1) ≡ true) × (is_absent s.successor ≡ true)
          → Goes (record s { successor = Up number; newest_lost = false })
      by (Up k) f may = let is = sym (ap is_absent f) ∙ may.1 in absurd cc
      by (Joined leg stage) f may = let is = sym (ap is_absent f) ∙ may.1 in absurd cc
      by Absent f may =
          let alone = absent_alone s.successor may.1 in
          let is = eqb-true number (s.current.number + 1) may.0 in record {
            known = record {
              same = h.same;
              joined = h.joined ∙ alone.0;
              finished = h.finished ∙ alone.1;
              begun = h.begun;
              now = h.now;
              later = omega (arith, is);
              waits = h.waits;
              behind = tt;
            };
            last = ap (told s.current.number) (sym f);
          }

  opens : (now : Opening) → has_opened now ≡ has_opened s.opening
      → Goes (record s { opening = now })
  opens now same =
      same_moves config came s (record s { opening = now })
      (ap (λ (b : Bool). record (seen s) { opened = b }) same) h

  pub up_moves : (leg : Leg) → Goes (up s leg)
  up_moves leg =
      by_test Goes (may_accept s leg) (accepted s s.opening leg.number)
      (if wants s leg then connected s s.opening else s)
      (λ e. comes s.opening refl
      (and_parts (is_client_leg leg) (accepts s s.opening leg.number) e).1)
      (λ e. by_test Goes (wants s leg) (connected s s.opening) s (λ f. connects s.opening refl)
      (λ f. still))
    where
      comes : (o : Opening) → s.opening ≡ o → accepts s o leg.number ≡ true
          → Goes (accepted s o leg.number)
      comes AwaitsClient e may = opens AwaitsPacket (sym (ap has_opened e))
      comes AwaitsPacket e may = absurd cc
      comes (WantsServer o) e may = newcomer leg.number may
      comes (Announces o) e may = newcomer leg.number may
      comes (Announced o) e may = newcomer leg.number may

      connects : (o : Opening) → s.opening ≡ o → Goes (connected s o)
      connects AwaitsClient e = still
      connects AwaitsPacket e = still
      connects (Announces o) e = still
      connects (Announced o) e = still
      connects (WantsServer o) e = opens (Announces o) (sym (ap has_opened e))

-- ---- rows

awaits_unopened : (o : Opening) → awaits_packet o ≡ true → has_opened o ≡ false
awaits_unopened AwaitsClient e = absurd cc
awaits_unopened AwaitsPacket e = refl
awaits_unopened (WantsServer o) e = absurd cc
awaits_unopened (Announces o) e = absurd cc
awaits_unopened (Announced o) e = absurd cc

-- before what comes, and behind it where it is taken
module _ (config : InProxyConfig) (came later : List OnLeg) (s : InProxy)
    (h : Known config (seen s) came) (k : Known config (seen s) later) where
  abbrev pub Row : Done → Type 0
  Row (t, Ok taken) = Moves config later s t
  Row (t, Err why) = Moves config came s t

  same_row : (x : Done) → Same s x.0 → Row x
  same_row (t, Ok taken) same = same_moves config later s t same k
  same_row (t, Err why) same = same_moves config came s t same h

  refused_row : (why : Refused) → Row (refuse s why)
  refused_row why = same_moves config came s s refl h

  abbrev number_of : Which → ℕ
  number_of Current = s.current.number
  number_of Next = suc s.current.number

  abbrev IsThere : Which → Type 0
  IsThere Current = has_opened s.opening ≡ true
  IsThere Next = is_joined s.successor ≡ true

  channel_at : (P : Option Which → Type 0) (number : ℕ) → P None
      → ((which : Which) → IsThere which → number_of which ≡ number → P (Some which))
      → P (channel_of s number)
  channel_at P number none some =
      by_test P (has_opened s.opening && (s.current.number == number)) (Some Current)
      (next_of s.successor number)
      (λ e. let parts = and_parts (has_opened s.opening) (s.current.number == number) e in
      some Current parts.0 (same_number s.current.number number parts.1))
      (λ e. by s.successor refl k.later)
    where
      by : (z : Successor) → s.successor ≡ z
          → IsLater later (has_opened s.opening) s.current.number z s.line.next.pdus
          s.line.next.window
          → P (next_of z number)
      by Absent e next = none
      by (Up leg) e next = none
      by (Joined leg stage) e next =
          by_test P (leg.number == number) (Some Next) None
          (λ f. some Next (ap is_joined e) (sym next.1 ∙ same_number leg.number number f))
          (λ f. none)

  -- ---- RPC PDUs

  abbrev grown : List ℕ → Bool → Incoming → Incoming
  grown bytes admitted c =
      if admitted then record c {
        pdus = c.pdus ++ bytes ∷ [];
        window = windows.after_admit c.window (length bytes);
      } else c

  -- the next channel is used
  used_later : (bytes : List ℕ) (z : Successor) → is_joined z ≡ true
      → HasPdu bytes (of_leg (ci (suc s.current.number)) later) → (c : Incoming)
      → IsLater later (has_opened s.opening) s.current.number z s.line.next.pdus
      s.line.next.window
      → IsLater later (has_opened s.opening) s.current.number z c.pdus c.window
  used_later bytes Absent there here c next = absurd cc
  used_later bytes (Up number) there here c next = absurd cc
  used_later bytes (Joined leg stage) there here c next = (
    next.0,
    next.1,
    next.2,
    inl (record {
      begun = next.2;
      sent = (bytes, subst (λ (n : ℕ). HasPdu bytes (of_leg (ci n) later)) (sym next.1) here);
    }),
  )

  verdict_row : (which : Which) (bytes : List ℕ) (v : Result (Unit {0}) LineFault)
      → IsThere which → HasPdu bytes (of_leg (ci (number_of which)) later)
      → Row (passing.pdu_by (record s {
        line = line.with_channel s.line which
            (grown bytes (is_ok v) (line.channel_of s.line which));
      }) v)
  verdict_row Current bytes (Ok admitted) there here = record {
    known = record {
      same = k.same;
      joined = k.joined;
      finished = k.finished;
      begun = k.begun;
      now = inl (there, record { begun = k.begun there; sent = (bytes, here) });
      later = k.later;
      waits = k.waits;
      behind = k.behind;
    };
    last = refl;
  }
  verdict_row Next bytes (Ok admitted) there here = record {
    known = record {
      same = k.same;
      joined = k.joined;
      finished = k.finished;
      begun = k.begun;
      now = k.now;
      later = used_later bytes s.successor there here (grown bytes true s.line.next) k.later;
      waits = k.waits;
      behind = k.behind;
    };
    last = refl;
  }
  verdict_row Current bytes (Err (Window exceeded)) there here =
      refused_row (refused.Window exceeded)
  verdict_row Next bytes (Err (Window exceeded)) there here =
      refused_row (refused.Window exceeded)
  verdict_row Current bytes (Err Over) there here = refused_row refused.Unexpected
  verdict_row Next bytes (Err Over) there here = refused_row refused.Unexpected

  pub pdu_row : (leg : Leg) (count : Count) (bytes : List ℕ)
      → (is_client_leg leg ≡ true → HasPdu bytes (of_leg (ci leg.number) later))
      → Row (pdu s leg count bytes)
  pdu_row leg count bytes here =
      by_test Row (is_client_leg leg) (machine.pdu_by s (channel_of s leg.number) bytes)
      (unexpected s)
      (λ e. channel_at (λ (o : Option Which). Row (machine.pdu_by s o bytes)) leg.number
      (refused_row refused.Unexpected)
      (λ which there is.
      by_test Row (has_a5 s which || line.is_ended s.line) (unexpected s)
      (passing.pdu_by (record s { line = line.after_admit s.line which bytes })
      (line.admit_verdict s.line which bytes))
      (λ f. refused_row refused.Unexpected)
      (λ f. verdict_row which bytes (line.admit_verdict s.line which bytes) there
      (subst (λ (n : ℕ). HasPdu bytes (of_leg (ci n) later)) (sym is) (here e)))))
      (λ e. refused_row refused.Unexpected)

  -- ---- what is forwarded

  still_behind : (z : Successor) (n m : ℕ) → n ≤ m
      → (dues others : List Due) → length dues ≡ n → length others ≡ m
      → IsBehind z dues → IsBehind z others
  still_behind Absent n m le dues others a b h = tt
  still_behind (Up number) n m le dues others a b h = tt
  still_behind (Joined leg Told) n m le dues others a b h = tt
  still_behind (Joined leg Follows) n m le dues others a b h = tt
  still_behind (Joined leg (TellsServer behind)) n m le dues others a b h =
      omega (arith, le, a, b, h)

  forward_row : (m : Named) → MayWait m → Row (forwarded s m)
  forward_row m is = by (waiting.forwarded s.waiting m) (forwarded_joins s.waiting m is h.waits)
    where
      known : (all : List OnLeg) (w : waiting.Waiting) → Joins s.waiting.due w.due
          → Known config (seen s) all → Known config (seen (record s { waiting = w })) all
      known all w joins x = record {
        same = x.same;
        joined = x.joined;
        finished = x.finished;
        begun = x.begun;
        now = x.now;
        later = x.later;
        waits = joins.each;
        behind = still_behind s.successor (length s.waiting.due) (length w.due) joins.more
            s.waiting.due w.due refl refl x.behind;
      }

      by : (r : waiting.Waiting × Bool) → Joins s.waiting.due r.0.due → Row (forward_by s r)
      by (w, true) joins = record { known = known later w joins k; last = refl }
      by (w, false) joins = record { known = known came w joins h; last = refl }

  -- ---- the first packet

  idle_alone : ((has_opened s.opening ≡ true) × IsUsedLeg later s.current)
      ⊎ IsIdle s.line.current.pdus s.line.current.window
      → has_opened s.opening ≡ false → IsIdle s.line.current.pdus s.line.current.window
  idle_alone (inl used) new = absurd (true≢false (sym used.0 ∙ new))
  idle_alone (inr idle) new = idle

  later_alone : (z : Successor) → has_opened s.opening ≡ false
      → IsLater later (has_opened s.opening) s.current.number z s.line.next.pdus
      s.line.next.window
      → IsLater later true s.current.number z s.line.next.pdus s.line.next.window
  later_alone Absent new next = tt
  later_alone (Up number) new next = next
  later_alone (Joined leg stage) new next = absurd (true≢false (sym next.0 ∙ new))

  opened_row : (number : ℕ) (o : Opener) (keepalive : ℕ) → is_first s number ≡ true
      → CameOn number (BeginsIn o.channel) later → Row (opened s o keepalive)
  opened_row number o keepalive e begins =
      let parts = and_parts (awaits_packet s.opening) (s.current.number == number) e in
      let new = awaits_unopened s.opening parts.0 in
      let number_is = same_number s.current.number number parts.1 in record {
        known = record {
          same = k.same;
          joined = k.joined;
          finished = k.finished;
          begun = λ f. subst (λ (n : ℕ). CameOn n (BeginsIn o.channel) later) (sym number_is)
              begins;
          now = inr (idle_alone k.now new);
          later = later_alone s.successor new k.later;
          waits = k.waits;
          behind = k.behind;
        };
        last = refl;
      }

  -- ---- a later ci leg

  joined_row : (leg : ℕ) (channel : Cookie) → has_opened s.opening ≡ true
      → s.successor ≡ Up leg → CameOn leg (BeginsIn channel) later
      → Row (taken (joined s leg channel))
  joined_row leg channel has e begins =
      let up = subst (λ (z : Successor). Known config (record (seen s) { successor = z }) later)
      e k in record {
        known = record {
          same = k.same;
          joined = refl;
          finished = up.finished;
          begun = k.begun;
          now = k.now;
          later = (
            has,
            up.later,
            begins,
            inr (record { none = refl; released = refl; told = omega arith }),
          );
          waits = k.waits;
          behind = count_by-le-length (waiting.is_of Forwarded) s.waiting.due;
        };
        last = ap (told s.current.number) (sym e);
      }

  later_row : (number : ℕ) (connection predecessor channel : Cookie)
      → CameOn number (BeginsIn channel) later
      → Row (on_later_in_r1_a1 s (opener_of s.opening) number connection predecessor channel)
  later_row number connection predecessor channel begins = by s.opening refl
    where
      joins : (o : Opener) (z : Successor) → s.successor ≡ z → has_opened s.opening ≡ true
          → Row (if is_newcomer z number
          then join s o number connection predecessor channel else unexpected s)
      joins o Absent e has = refused_row refused.Unexpected
      joins o (Joined leg stage) e has = refused_row refused.Unexpected
      joins o (Up leg) e has =
          by_test Row (leg == number) (join s o number connection predecessor channel)
          (unexpected s)
          (λ f. by_test Row (not (same_cookie o.connection connection))
          (refuse s (refused.Cookie o.connection connection))
          (if not (same_cookie s.current.cookie predecessor)
          then refuse s (refused.Cookie s.current.cookie predecessor)
          else taken (joined s number channel))
          (λ g. refused_row (refused.Cookie o.connection connection))
          (λ g. by_test Row (not (same_cookie s.current.cookie predecessor))
          (refuse s (refused.Cookie s.current.cookie predecessor))
          (taken (joined s number channel))
          (λ i. refused_row (refused.Cookie s.current.cookie predecessor))
          (λ i. joined_row number channel has
          (e ∙ ap (λ (n : ℕ). Up n) (same_number leg number f)) begins)))
          (λ f. refused_row refused.Unexpected)

      by : (o : Opening) → s.opening ≡ o
          → Row (on_later_in_r1_a1 s (opener_of o) number connection predecessor channel)
      by AwaitsClient e = refused_row refused.Unexpected
      by AwaitsPacket e = refused_row refused.Unexpected
      by (WantsServer o) e = joins o s.successor refl (ap has_opened e)
      by (Announces o) e = joins o s.successor refl (ap has_opened e)
      by (Announced o) e = joins o s.successor refl (ap has_opened e)

  -- ---- IN_R1/A5

  finished_row : (leg : ClientLeg) → s.successor ≡ Joined leg Told → Row (taken (finished s leg))
  finished_row leg e =
      let t : InProxy = record s {
        line = record (s.line) { finished = true };
        successor = Joined leg Follows;
      } in
      let told_then =
      subst (λ (z : Successor). Known config (record (seen s) { successor = z }) later) e k in
      let goes : Moves config later s t = record {
        known = record {
          same = k.same;
          joined = told_then.joined;
          finished = refl;
          begun = k.begun;
          now = k.now;
          later = told_then.later;
          waits = k.waits;
          behind = tt;
        };
        last = ap (told s.current.number) (sym e);
      } in
      moves_on config later s t (finished s leg) goes (settles config later t goes.known)

  finish_row : (z : Successor) (cookie : Cookie) → s.successor ≡ z → Row (finish_by s z cookie)
  finish_row Absent cookie e = same_row (handed_over s cookie) (same_handed s cookie)
  finish_row (Joined leg Told) cookie e =
      by_test Row (same_cookie leg.cookie cookie) (taken (finished s leg))
      (refuse s (refused.Cookie leg.cookie cookie)) (λ f. finished_row leg e)
      (λ f. refused_row (refused.Cookie leg.cookie cookie))
  finish_row (Joined leg Follows) cookie e = refused_row refused.Unexpected
  finish_row (Joined leg (TellsServer behind)) cookie e = refused_row refused.Unexpected
  finish_row (Up number) cookie e = refused_row refused.Unexpected

  a5_row : (which : Which) (cookie : Cookie) → Row (on_in_r1_a5 s which cookie)
  a5_row which cookie =
      by_test Row (has_a5 s which) (unexpected s) (hand_over s which cookie)
      (λ e. refused_row refused.Unexpected) (λ e. by which)
    where
      by : (w : Which) → Row (hand_over s w cookie)
      by Current = finish_row s.successor cookie refl
      by Next = same_row (handed_over s cookie) (same_handed s cookie)

  -- ---- behind the first packet of a ci leg

  channel_row : (which : Which) (m : Named) → Row (on_channel s which m)
  channel_row which (named.AckTo to received available channel) =
      by_test Row (not (has_a5 s which) && (to == 3))
      (forwarded s (named.AckTo 3 received available channel)) (unexpected s)
      (λ e. forward_row (named.AckTo 3 received available channel) refl)
      (λ e. refused_row refused.Unexpected)
  channel_row which (named.OutR1A7 to successor) =
      by_test Row (not (has_a5 s which) && (to == 2)) (forwarded s (named.OutR1A8 2 successor))
      (unexpected s) (λ e. forward_row (named.OutR1A8 2 successor) tt)
      (λ e. refused_row refused.Unexpected)
  channel_row which (named.KeepAlive keepalive) =
      same_row (on_keep_alive s which keepalive) (same_keep_alive s which keepalive)
  channel_row which named.EndA1 = same_row (on_end_a1 s which) (same_end s which)
  channel_row which (named.InR1A5 successor) = a5_row which successor
  channel_row which m = refused_row refused.Unexpected

  by_channel_row : (number : ℕ) (m : Named) → Row (on_channel_by s (channel_of s number) m)
  by_channel_row number m = by (channel_of s number)
    where
      by : (o : Option Which) → Row (on_channel_by s o m)
      by None = refused_row refused.Unexpected
      by (Some which) = channel_row which m

  ci_row : (number : ℕ) (m : Named)
      → ((Is : Named → Type 0) → Is m → CameOn number Is later) → Row (on_ci s number m)
  ci_row number (named.ConnB1 version connection channel lifetime keepalive group) here =
      by_test Row (is_first s number)
      (opened s (opener connection channel (Connects group)) (kept_for keepalive))
      (unexpected s)
      (λ e. opened_row number (opener connection channel (Connects group)) (kept_for keepalive) e
      (here (BeginsIn channel) refl))
      (λ e. refused_row refused.Unexpected)
  ci_row number (named.InR1A1 version connection predecessor channel) here =
      by_test Row (is_first s number) (on_first_in_r1_a1 s connection predecessor channel)
      (on_later_in_r1_a1 s (opener_of s.opening) number connection predecessor channel)
      (λ e. opened_row number (opener connection channel (Replaces predecessor)) KEEPALIVE e
      (here (BeginsIn channel) refl))
      (λ e. later_row number connection predecessor channel (here (BeginsIn channel) refl))
  ci_row number m here = by_channel_row number m

  pub packet_row : (leg : Leg) (count : Count) (m : Named)
      → (is_client_leg leg ≡ true → (Is : Named → Type 0) → Is m → CameOn leg.number Is later)
      → Row (packet s leg count m)
  packet_row leg count m here =
      by_test Row (is_client_leg leg) (on_ci s leg.number m)
      (if is_server_leg s leg then on_is s m else unexpected s)
      (λ e. ci_row leg.number m (here e))
      (λ e. by_test Row (is_server_leg s leg) (on_is s m) (unexpected s)
      (λ f. same_row (on_is s m) (same_is s m)) (λ f. refused_row refused.Unexpected))
