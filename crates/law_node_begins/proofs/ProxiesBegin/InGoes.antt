-- what the rows and puts of an in proxy leave as it is, or change in one way
use Rattle.rh_window.specs.declared.recv_window.Ack as told
use Rattle.law_order.proofs.Vocabulary.{◌≡◌, ◌⊎◌, inl, inr, ℕ, ◌==◌, List, [], ◌∷◌, length, Bool, true, false, ◌&&◌, not, Some, None, refl, sym, ap, ◌∙◌, subst, rules, if◌then◌else◌, IfSome, Option, and_parts, eqb-true}
use Rattle.rh_sig.specs.declared.named.Named.TheVariants.{Ack}
use Rattle.rh_line.specs.Lines as line
use Rattle.rh_shell.specs.declared.answers.Refused.TheVariants as refused
use Rattle.rh_inproxy.specs.declared.opening.TheConstants.{KEEPALIVE}
use Rattle.rh_inproxy.specs.declared.state.ClientLeg.{ClientLeg}
use Rattle.rh_inproxy.specs.declared.state.Handover.{Handover}
use Rattle.rh_inproxy.specs.declared.state.Handover.TheVariants.{Before, Came, Passed}
use Rattle.rh_inproxy.specs.declared.state.InProxyConfig.{InProxyConfig}
use Rattle.rh_inproxy.specs.declared.state.Joining.{Joining}
use Rattle.rh_inproxy.specs.declared.state.Joining.TheVariants.{TellsServer, Told, Follows}
use Rattle.rh_inproxy.specs.declared.state.Opener.{Opener}
use Rattle.rh_inproxy.specs.declared.state.Opening.{Opening}
use Rattle.rh_inproxy.specs.declared.state.Opening.TheVariants.{AwaitsClient, AwaitsPacket, WantsServer, Announces, Announced}
use Rattle.rh_inproxy.specs.declared.state.Successor.{Successor}
use Rattle.rh_inproxy.specs.declared.state.Successor.TheVariants.{Absent, Joined}
use Rattle.rh_inproxy.specs.declared.state.Work.{Work}
use Rattle.rh_inproxy.specs.Answers.{Done, Pick, or_else, taken, refuse, unexpected}
use Rattle.rh_inproxy.specs.State.{InProxy, channel_of, has_opened, has_a5, follows, is_client_leg, is_server_leg, same_cookie}
use Rattle.rh_inproxy.specs.Opening.{drawn, drawn_by, first_by, is_absent, is_first, leg_of, newest_by, on_first_in_r1_a1, opened, opener_of, put_first, kept_for}
use Rattle.rh_inproxy.specs.Acknowledging.{on_ack_to, ack_due, ack_by, current_ack, next_ack, put_acks}
use Rattle.rh_inproxy.specs.Ending.{is_newest, is_over, on_end_a1, mark, put_end, settled, settled_pick}
use Rattle.rh_inproxy.specs.InReplacement.{has_passed, is_newcomer, joined, join, on_later_in_r1_a1, on_in_r1_a5, told_by, put_in_r2_a2, one_less, finished, finish_by, hand_over, mark_by, put_in_r1_a6}
use Rattle.rh_inproxy.specs.OutReplacement.{on_out_r1_a7}
use Rattle.rh_inproxy.specs.Passing.{next_pdu, put_pdu}
use Rattle.rh_inproxy.specs.Putting.{next, waiting_by, put_waiting, put_control, put_early, put_stream, put_behind, put_mark}
use Rattle.rh_inproxy.specs.Time.{on_keep_alive, ping, put_ping}
use Rattle.rh_inproxy.specs.Machine.{packet, pdu, on_ci, on_is, on_channel_by}
use Rattle.rh_inproxy.specs.declared.state.Successor.TheVariants as successors
use Rattle.rh_inproxy.specs.declared.state.Work.TheVariants as works
use Rattle.law_moves.proofs.Vocabulary.{may_send, by_test, Cookie, Named, ConnB1, ConnB3, InR1A1, InR1A5, InR1B1, InR1B2, OutR1A7, EndA1, AckTo, KeepAlive, Leg, Which, Current, Next, Count, Due, Message, same_leg, IsNoText}
use Rattle.law_moves.proofs.Lemmas.{leg_is}
use Rattle.law_node_begins.specs.ProxiesBegin.Pipes.{ci}

-- what these facts are about
pub record Seen : Type 0 where
  pub config : InProxyConfig
  pub opening : Opening
  pub work : Work
  pub current : ClientLeg
  pub successor : Successor
  pub handover : Handover

abbrev pub seen : InProxy → Seen
seen s = record {
  config = s.config;
  opening = s.opening;
  work = s.work;
  current = s.current;
  successor = s.successor;
  handover = s.handover;
}

-- the number of the newest ci leg
abbrev pub newest_of : Seen → ℕ
newest_of a = newest_by a.current a.successor

pub alone : (c : ClientLeg) (z : Successor) → is_absent z ≡ true → newest_by c z ≡ c.number
alone c Absent e = refl
alone c (successors.Up n) e = absurd cc
alone c (Joined leg x) e = absurd cc

-- another leg than a ci leg
pub not_client : (leg : Leg) (k : ℕ) → is_client_leg leg ≡ false → same_leg leg (ci k) ≡ false
not_client leg k e =
    elim (same_leg leg (ci k)) as (λ t. same_leg leg (ci k) ≡ t → t ≡ false) [
      | true ↦ λ h. let no = ap is_client_leg (sym (leg_is leg (ci k) h)) ∙ e in absurd cc
      | false ↦ λ h. refl
    ] refl

-- the work is done, or as it was; the first packet of all came, or it is as before whether it came;
-- the newest ci leg is the same, and the current one is as before or the newest; none is behind it
-- where none was, and none once IN_R1/A6 was put
pub record Goes (First : Type 0) (a b : Seen) : Type 0 where
  pub config : b.config ≡ a.config
  pub work : (b.work ≡ a.work) ⊎ (b.work ≡ works.Done)
  pub opened : (has_opened b.opening ≡ has_opened a.opening)
      ⊎ (First × (has_opened b.opening ≡ true))
  pub absent : is_absent a.successor ≡ true → is_absent b.successor ≡ true
  pub newest : newest_of b ≡ newest_of a
  pub current : (b.current.number ≡ a.current.number) ⊎ (b.current.number ≡ newest_of a)
  pub passed : (has_passed a.handover ≡ true → is_absent a.successor ≡ true)
      → has_passed b.handover ≡ true → is_absent b.successor ≡ true

abbrev Same : InProxy → InProxy → Type 0
Same s t = seen t ≡ seen s

-- rows that leave all of it as it is

same_ack_to : (s : InProxy) (which : Which) (a b c : ℕ) (d : Cookie)
    → Same s (on_ack_to s which a b c d).0
same_ack_to s which a b c d = search rules

same_out_r1_a7 : (s : InProxy) (which : Which) (a : ℕ) (b : Cookie)
    → Same s (on_out_r1_a7 s which a b).0
same_out_r1_a7 s which a b = search rules

same_keep_alive : (s : InProxy) (which : Which) (a : ℕ) → Same s (on_keep_alive s which a).0
same_keep_alive s which a = search rules

same_end : (s : InProxy) (which : Which) → Same s (on_end_a1 s which).0
same_end s which = search rules

same_pdu : (s : InProxy) (leg : Leg) (count : Count) (bytes : List ℕ)
    → Same s (pdu s leg count bytes).0
same_pdu s leg count bytes = search rules

-- a ci leg behind the current one, at some stage
abbrev with_next : Seen → Successor → Seen
with_next a z = record a { successor = z }

module _ {First : Type 0} where
  pub stays : (a : Seen) → Goes First a a
  stays a = record {
    config = refl;
    work = inl refl;
    opened = inl refl;
    absent = λ e. e;
    newest = refl;
    current = inl refl;
    passed = λ h p. h p;
  }

  same : (s t : InProxy) → Same s t → Goes First (seen s) (seen t)
  same s t e = subst (λ (x : Seen). Goes First (seen s) x) (sym e) (stays (seen s))

  -- the work is done besides
  with_done : (a b : Seen) → Goes First a b → Goes First a (record b { work = works.Done })
  with_done a b g = record {
    config = g.config;
    work = inr refl;
    opened = g.opened;
    absent = g.absent;
    newest = g.newest;
    current = g.current;
    passed = g.passed;
  }

  settled_goes : (a : Seen) (s : InProxy) → Goes First a (seen s) → Goes First a (seen (settled s))
  settled_goes a s g =
      by_test (λ (t : InProxy). Goes First a (seen t)) (is_over s) (record s { work = works.Done })
      s (λ e. with_done a (seen s) g) (λ e. g)

  -- ---- channels that follow

  joined_on : (a : Seen) (leg : ClientLeg) (x y : Joining)
      → Goes First (with_next a (Joined leg x)) (with_next a (Joined leg y))
  joined_on a leg x y = record {
    config = refl;
    work = inl refl;
    opened = inl refl;
    absent = λ e. absurd cc;
    newest = refl;
    current = inl refl;
    passed = λ h p. let no = h p in absurd cc;
  }

  -- the ci leg behind follows, or does not yet
  followed_goes : (a : Seen) (leg : ClientLeg) (x y : Joining) (has_next : Bool)
      → Goes First (with_next a (Joined leg x)) (record a {
        current = (follows has_next a.current (Joined leg y)).0;
        successor = (follows has_next a.current (Joined leg y)).1;
      })
  followed_goes a leg x y true = joined_on a leg x y
  followed_goes a leg x y false = record {
    config = refl;
    work = inl refl;
    opened = inl refl;
    absent = λ e. absurd cc;
    newest = refl;
    current = inr refl;
    passed = λ h p. refl;
  }

  follows_goes : (a : Seen) (z : Successor) (has_next : Bool)
      → Goes First (with_next a z) (record a {
        current = (follows has_next a.current z).0;
        successor = (follows has_next a.current z).1;
      })
  follows_goes a (Joined leg x) has_next = followed_goes a leg x x has_next
  follows_goes a Absent true = stays (with_next a Absent)
  follows_goes a Absent false = stays (with_next a Absent)
  follows_goes a (successors.Up n) true = stays (with_next a (successors.Up n))
  follows_goes a (successors.Up n) false = stays (with_next a (successors.Up n))

  -- ---- rows of a channel

  -- IN_R1/A5 came on the newest ci leg
  handed_goes : (a : Seen) (cookie : Cookie) → Goes First a (record a { handover = Came cookie })
  handed_goes a cookie = record {
    config = refl;
    work = inl refl;
    opened = inl refl;
    absent = λ e. e;
    newest = refl;
    current = inl refl;
    passed = λ h p. absurd cc;
  }

  finish_goes : (s : InProxy) (z : Successor) (cookie : Cookie)
      → Goes First (with_next (seen s) z)
      (seen (finish_by (record s { successor = z }) z cookie).0)
  finish_goes s Absent cookie = handed_goes (with_next (seen s) Absent) cookie
  finish_goes s (successors.Up n) cookie = stays (with_next (seen s) (successors.Up n))
  finish_goes s (Joined leg (TellsServer behind)) cookie =
      stays (with_next (seen s) (Joined leg (TellsServer behind)))
  finish_goes s (Joined leg Follows) cookie = stays (with_next (seen s) (Joined leg Follows))
  finish_goes s (Joined leg Told) cookie =
      let t : InProxy = record s { successor = Joined leg Told } in
      by_test (λ (d : Done). Goes First (with_next (seen s) (Joined leg Told)) (seen d.0))
      (same_cookie leg.cookie cookie) (taken (finished t leg))
      (refuse t (refused.Cookie leg.cookie cookie))
      (λ e. followed_goes (seen s) leg Told Follows (line.after_finish s.line).has_next)
      (λ e. stays (with_next (seen s) (Joined leg Told)))

  a5_goes : (s : InProxy) (which : Which) (cookie : Cookie)
      → Goes First (seen s) (seen (on_in_r1_a5 s which cookie).0)
  a5_goes s which cookie =
      by_test (λ (d : Done). Goes First (seen s) (seen d.0)) (has_a5 s which) (unexpected s)
      (hand_over s which cookie) (λ e. stays (seen s)) (λ e. by which)
    where
      by : (w : Which) → Goes First (seen s) (seen (hand_over s w cookie).0)
      by Current = finish_goes s s.successor cookie
      by Next = handed_goes (seen s) cookie

  channel_goes : (s : InProxy) (o : Option Which) (named : Named)
      → Goes First (seen s) (seen (on_channel_by s o named).0)
  channel_goes s None named = stays (seen s)
  channel_goes s (Some which) (AckTo a b c d) =
      same s (on_ack_to s which a b c d).0 (same_ack_to s which a b c d)
  channel_goes s (Some which) (OutR1A7 a b) =
      same s (on_out_r1_a7 s which a b).0 (same_out_r1_a7 s which a b)
  channel_goes s (Some which) (KeepAlive a) =
      same s (on_keep_alive s which a).0 (same_keep_alive s which a)
  channel_goes s (Some which) EndA1 = same s (on_end_a1 s which).0 (same_end s which)
  channel_goes s (Some which) (InR1A5 cookie) = a5_goes s which cookie
  channel_goes s (Some which) named = stays (seen s)

  -- ---- IN_R1/A1 on a later ci leg

  joins_goes : (a : Seen) (z : Successor) (n : ℕ) (cookie : Cookie) (x : Joining)
      → is_newcomer z n ≡ true
      → Goes First (with_next a z) (with_next a (Joined (leg_of n cookie) x))
  joins_goes a Absent n cookie x e = absurd cc
  joins_goes a (Joined leg y) n cookie x e = absurd cc
  joins_goes a (successors.Up m) n cookie x e = record {
    config = refl;
    work = inl refl;
    opened = inl refl;
    absent = λ f. absurd cc;
    newest = sym (eqb-true m n e);
    current = inl refl;
    passed = λ h p. let no = h p in absurd cc;
  }

  join_goes : (s : InProxy) (o : Opener) (n : ℕ) (a b c : Cookie)
      → is_newcomer s.successor n ≡ true → Goes First (seen s) (seen (join s o n a b c).0)
  join_goes s o n a b c e =
      by_test (λ (d : Done). Goes First (seen s) (seen d.0)) (not (same_cookie o.connection a))
      (refuse s (refused.Cookie o.connection a))
      (if not (same_cookie s.current.cookie b) then refuse s (refused.Cookie s.current.cookie b)
      else taken (joined s n c))
      (λ f. stays (seen s))
      (λ f. by_test (λ (d : Done). Goes First (seen s) (seen d.0))
      (not (same_cookie s.current.cookie b)) (refuse s (refused.Cookie s.current.cookie b))
      (taken (joined s n c)) (λ g. stays (seen s))
      (λ g. joins_goes (seen s) s.successor n c _ e))

  later_goes : (s : InProxy) (o : Option Opener) (n : ℕ) (a b c : Cookie)
      → Goes First (seen s) (seen (on_later_in_r1_a1 s o n a b c).0)
  later_goes s None n a b c = stays (seen s)
  later_goes s (Some o) n a b c =
      by_test (λ (d : Done). Goes First (seen s) (seen d.0)) (is_newcomer s.successor n)
      (join s o n a b c) (unexpected s) (λ e. join_goes s o n a b c e) (λ e. stays (seen s))

  -- ---- what comes from the server, PDUs, and marks

  pub pdu_goes : (s : InProxy) (leg : Leg) (count : Count) (bytes : List ℕ)
      → Goes First (seen s) (seen (pdu s leg count bytes).0)
  pdu_goes s leg count bytes = same s (pdu s leg count bytes).0 (same_pdu s leg count bytes)

  is_goes : (s : InProxy) (named : Named) → Goes First (seen s) (seen (on_is s named).0)
  is_goes s (ConnB3 size version) = same s (on_is s (ConnB3 size version)).0 (search rules)
  is_goes s (InR1B2 size) = same s (on_is s (InR1B2 size)).0 (search rules)
  is_goes s (Ack a b c) = same s (on_is s (Ack a b c)).0 (search rules)
  is_goes s InR1B1 =
      by_test (λ (d : Done). Goes First (seen s) (seen d.0)) (has_passed s.handover)
      (taken (record s { work = works.Done })) (unexpected s)
      (λ e. with_done (seen s) (seen s) (stays (seen s))) (λ e. stays (seen s))
  is_goes s named = stays (seen s)

  pub mark_goes : (s : InProxy) (leg : Leg) → Goes First (seen s) (seen (mark s leg))
  mark_goes s leg =
      let t : InProxy = if is_newest s leg then record s { newest_lost = true } else s in
      settled_goes (seen s) t
      (by_test (λ (t : InProxy). Goes First (seen s) (seen t)) (is_newest s leg)
      (record s { newest_lost = true }) s (λ e. stays (seen s)) (λ e. stays (seen s)))

  pub ping_goes : (s : InProxy) (leg : Leg) → Goes First (seen s) (seen (ping s leg))
  ping_goes s leg =
      by_test (λ (t : InProxy). Goes First (seen s) (seen t)) (is_server_leg s leg)
      (record s { ping_due = true }) s (λ e. stays (seen s)) (λ e. stays (seen s))

  drawn_work : (s : InProxy) (work : Work) (n : ℕ) → Goes First (seen s) (seen (drawn_by s work n))
  drawn_work s works.Underway n = stays (seen s)
  drawn_work s (works.EchoDue m) n = stays (seen s)
  drawn_work s works.Done n = stays (seen s)
  drawn_work s (works.EchoPut m) n =
      by_test (λ (t : InProxy). Goes First (seen s) (seen t)) (m == n)
      (record s { work = works.Done }) s
      (λ e. with_done (seen s) (seen s) (stays (seen s))) (λ e. stays (seen s))

  pub drawn_goes : (s : InProxy) (leg : Leg) → Goes First (seen s) (seen (drawn s leg))
  drawn_goes s leg =
      by_test (λ (t : InProxy). Goes First (seen s) (seen t)) (is_client_leg leg)
      (drawn_by s s.work leg.number) s (λ e. drawn_work s s.work leg.number)
      (λ e. stays (seen s))

-- ---- the first packet of all

-- the first ci leg is up, and it is the one of this number
abbrev pub IsFirst : InProxy → ℕ → Type 0
IsFirst s n = is_first s n ≡ true

newest_same : (a b : ClientLeg) (z : Successor) → a.number ≡ b.number
    → newest_by a z ≡ newest_by b z
newest_same a b Absent e = e
newest_same a b (successors.Up n) e = refl
newest_same a b (Joined leg x) e = refl

opened_goes : (s : InProxy) (o : Opener) (keepalive n : ℕ) → is_first s n ≡ true
    → Goes (IsFirst s n) (seen s) (seen (opened s o keepalive).0)
opened_goes s o keepalive n e = record {
  config = refl;
  work = inl refl;
  opened = inr (e, refl);
  absent = λ f. f;
  newest = newest_same (leg_of s.current.number o.channel) s.current s.successor refl;
  current = inl refl;
  passed = λ h p. h p;
}

abbrev GoesFirst : InProxy → ℕ → Done → Type 0
GoesFirst s n d = Goes (IsFirst s n) (seen s) (seen d.0)

ci_goes : (s : InProxy) (n : ℕ) (named : Named) → GoesFirst s n (on_ci s n named)
ci_goes s n (ConnB1 version connection channel lifetime keepalive group) =
    by_test (GoesFirst s n) (is_first s n) (opened s _ (kept_for keepalive)) (unexpected s)
    (λ e. opened_goes s _ (kept_for keepalive) n e) (λ e. stays (seen s))
ci_goes s n (InR1A1 version a b c) =
    by_test (GoesFirst s n) (is_first s n) (on_first_in_r1_a1 s a b c)
    (on_later_in_r1_a1 s (opener_of s.opening) n a b c)
    (λ e. opened_goes s _ KEEPALIVE n e) (λ e. later_goes s (opener_of s.opening) n a b c)
ci_goes s n named = channel_goes s (channel_of s n) named

-- a packet came on this leg, maybe the first of all
pub record FirstOn (s : InProxy) (leg : Leg) : Type 0 where
  pub client : is_client_leg leg ≡ true
  pub first : is_first s leg.number ≡ true

with_leg : (First Other : Type 0) (a b : Seen) → (First → Other) → Goes First a b → Goes Other a b
with_leg First Other a b f g = record {
  config = g.config;
  work = g.work;
  opened = by g.opened;
  absent = g.absent;
  newest = g.newest;
  current = g.current;
  passed = g.passed;
}
  where
    by : (has_opened b.opening ≡ has_opened a.opening) ⊎ (First × (has_opened b.opening ≡ true))
        → (has_opened b.opening ≡ has_opened a.opening) ⊎ (Other × (has_opened b.opening ≡ true))
    by (inl e) = inl e
    by (inr e) = inr (f e.0, e.1)

pub packet_goes : (s : InProxy) (leg : Leg) (count : Count) (named : Named)
    → Goes (FirstOn s leg) (seen s) (seen (packet s leg count named).0)
packet_goes s leg count named =
    by_test (λ (d : Done). Goes (FirstOn s leg) (seen s) (seen d.0)) (is_client_leg leg)
    (on_ci s leg.number named) (if is_server_leg s leg then on_is s named else unexpected s)
    (λ e. with_leg (IsFirst s leg.number) (FirstOn s leg) (seen s)
    (seen (on_ci s leg.number named).0)
    (λ f. record { client = e; first = f }) (ci_goes s leg.number named))
    (λ e. by_test (λ (d : Done). Goes (FirstOn s leg) (seen s) (seen d.0)) (is_server_leg s leg)
    (on_is s named) (unexpected s) (λ f. is_goes s named) (λ f. stays (seen s)))

-- ---- what is put on the is leg

-- no text is put, and the proxy goes on
abbrev pub GoesPut : Seen → Pick → Type 0
GoesPut a pick = IfSome pick (λ (x : InProxy × Message). Goes ⊥ a (seen x.0) × IsNoText x.1)

or_goes : (a : Seen) (x y : Pick) → GoesPut a x → GoesPut a y → GoesPut a (or_else x y)
or_goes a None y h k = k
or_goes a (Some x) y h k = h

first_goes : (s : InProxy) (o : Opening)
    → GoesPut (record (seen s) { opening = o }) (first_by (record s { opening = o }) o)
first_goes s AwaitsClient = tt
first_goes s AwaitsPacket = tt
first_goes s (WantsServer o) = tt
first_goes s (Announced o) = tt
first_goes s (Announces o) = (
  record {
    config = refl;
    work = inl refl;
    opened = inl refl;
    absent = λ e. e;
    newest = refl;
    current = inl refl;
    passed = λ h p. h p;
  },
  tt,
)

told_goes : (s : InProxy) (z : Successor)
    → GoesPut (with_next (seen s) z) (told_by (record s { successor = z }) z)
told_goes s Absent = tt
told_goes s (successors.Up n) = tt
told_goes s (Joined leg Told) = tt
told_goes s (Joined leg Follows) = tt
told_goes s (Joined leg (TellsServer behind)) =
    by_test (GoesPut (with_next (seen s) (Joined leg (TellsServer behind)))) (behind == 0) _ None
    (λ e. (joined_on (seen s) leg (TellsServer behind) Told, tt)) (λ e. tt)

one_less_goes : (a : Seen) (z : Successor) → Goes ⊥ (with_next a z) (with_next a (one_less z))
one_less_goes a Absent = stays (with_next a Absent)
one_less_goes a (successors.Up n) = stays (with_next a (successors.Up n))
one_less_goes a (Joined leg Told) = stays (with_next a (Joined leg Told))
one_less_goes a (Joined leg Follows) = stays (with_next a (Joined leg Follows))
one_less_goes a (Joined leg (TellsServer behind)) = joined_on a leg (TellsServer behind) _

waiting_goes : (s : InProxy) (dues : List Due) → GoesPut (seen s) (waiting_by s dues)
waiting_goes s [] = tt
waiting_goes s (due ∷ dues) = (one_less_goes (seen s) s.successor, tt)

ack_goes : (s : InProxy) (which : Which) (cookie : Cookie) (o : Option told.Ack)
    → GoesPut (seen s) (ack_by s which cookie o)
ack_goes s which cookie None = tt
ack_goes s which cookie (Some ack) = (stays (seen s), tt)

next_ack_goes : (s : InProxy) (z : Successor) → GoesPut (seen s) (next_ack s z)
next_ack_goes s Absent = tt
next_ack_goes s (successors.Up n) = tt
next_ack_goes s (Joined leg x) = ack_goes s Next leg.cookie (ack_due s Next)

pdu_put : (s : InProxy) (pdus : List (List ℕ)) → GoesPut (seen s) (next_pdu s pdus)
pdu_put s [] = tt
pdu_put s (pdu ∷ pdus) =
    by_test (GoesPut (seen s)) (may_send s.window (length pdu)) _ None
    (λ e. (follows_goes (seen s) s.successor (line.after_take s.line).has_next, tt)) (λ e. tt)

end_put : (s : InProxy) → GoesPut (seen s) (put_end s)
end_put s =
    by_test (GoesPut (seen s))
    (s.line.current.ended && not s.end_put && line.is_empty s.line.current.pdus) _ None
    (λ e. (stays (seen s), tt)) (λ e. tt)

passed_put : (s : InProxy) (h : Handover) → is_absent s.successor ≡ true
    → GoesPut (seen s) (mark_by s h)
passed_put s Before e = tt
passed_put s Passed e = tt
passed_put s (Came cookie) e = (
  record {
    config = refl;
    work = inl refl;
    opened = inl refl;
    absent = λ f. f;
    newest = refl;
    current = inl refl;
    passed = λ h p. e;
  },
  tt,
)

a6_put : (s : InProxy) → GoesPut (seen s) (put_in_r1_a6 s)
a6_put s =
    by_test (GoesPut (seen s)) (is_absent s.successor && line.is_empty s.line.current.pdus)
    (mark_by s s.handover) None
    (λ e. passed_put s s.handover
    (and_parts (is_absent s.successor) (line.is_empty s.line.current.pdus) e).0) (λ e. tt)

ping_put : (s : InProxy) → GoesPut (seen s) (put_ping s)
ping_put s = by_test (GoesPut (seen s)) s.ping_due _ None (λ e. (stays (seen s), tt)) (λ e. tt)

next_goes : (s : InProxy) → GoesPut (seen s) (next s)
next_goes s =
    or_goes (seen s) (put_control s) (put_stream s)
    (or_goes (seen s) (put_early s) (put_acks s)
    (or_goes (seen s) (put_first s) (or_else (put_in_r2_a2 s) (put_waiting s))
    (first_goes s s.opening)
    (or_goes (seen s) (put_in_r2_a2 s) (put_waiting s) (told_goes s s.successor)
    (waiting_goes s s.waiting.due)))
    (or_goes (seen s) (current_ack s) (next_ack s s.successor)
    (ack_goes s Current s.current.cookie (ack_due s Current)) (next_ack_goes s s.successor)))
    (or_goes (seen s) (put_pdu s) (put_behind s) (pdu_put s s.line.current.pdus)
    (or_goes (seen s) (put_mark s) (put_ping s)
    (or_goes (seen s) (put_end s) (put_in_r1_a6 s) (end_put s) (a6_put s)) (ping_put s)))

settled_put : (a : Seen) (pick : Pick) → GoesPut a pick → GoesPut a (settled_pick pick)
settled_put a None h = tt
settled_put a (Some x) h = (settled_goes a x.0 h.0, h.1)

pub server_goes : (s : InProxy) → GoesPut (seen s) (settled_pick (next s))
server_goes s = settled_put (seen s) (next s) (next_goes s)
