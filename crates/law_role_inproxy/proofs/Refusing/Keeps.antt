-- what is known of an in proxy's legs holds behind all its moves
use Rattle.law_order.proofs.Vocabulary.{◌≡◌, ℕ, suc, ◌<◌, ◌==◌, ◌&&◌, Bool, true, false, not, if◌then◌else◌, List, [], ◌∷◌, ◌++◌, Some, None, Ok, Err, refl, sym, ap, subst, ◌∙◌, arith, rules, and_parts, eqb-true, nat_tests, IfSome, length, Option}
use Rattle.rh_sig.specs.declared.named.Named.TheVariants as named
use Rattle.rh_line.specs.Lines as line
use Rattle.rh_shell.specs.declared.answers.Refused.TheVariants as refused
use Rattle.rh_inproxy.specs.declared.state.Opening.TheVariants as openings
use Rattle.law_moves.proofs.Vocabulary.{may_send, Ack, by_test, Cookie, Named, Leg, Which, Current, Next, Count, Due, Message, Pdu, Packet, one_if, OnLeg, Move, started, all_moved, BeginsIn, count_of, is_conn_b1, is_in_r1_a1, opens_server}
use Rattle.law_moves.proofs.Lemmas.{RowKeeps, PutKeeps, StepsKeep, moves_keep, leg_is, leg_here}
use Rattle.law_role_inproxy.proofs.Vocabulary.{Known, Connects, Replaces, InProxyConfig, TellsServer, Told, Follows, Opener, Opening, Successor, Absent, Up, Joined, on_ack, on_ack_to, ack_due, ack_by, current_ack, next_ack, put_acks, Done, Pick, is_some, or_else, refuse, taken, unexpected, mark, on_end_a1, put_end, settled, settled_pick, is_newcomer, joined, join, on_later_in_r1_a1, on_in_r1_a5, finish_by, finished, hand_over, handed_over, on_in_r1_b1, one_less, put_in_r1_a6}
use Rattle.law_role_inproxy.proofs.Vocabulary.{put_in_r2_a2, told_by, up, may_accept, accepts, accepts_later, accepted, wants, connected, head, drawn, first_by, is_absent, is_connection, is_first, is_replacement, is_unknown, awaits_packet, leg_of, opened, opener, opener_of, on_first_in_r1_a1, kept_for, put_echo, put_first, with_edge, on_out_r1_a7, next_pdu, passed, put_pdu, put as put_of, next, waiting_by, put_waiting, put_control, put_early, put_stream, put_behind, put_mark}
use Rattle.law_role_inproxy.proofs.Vocabulary.{InProxy, first, channel_of, has_a5, has_opened, is_client_leg, is_server_leg, next_of, same_cookie, on_keep_alive, ping, put_ping, pdu, packet, on_channel, on_channel_by, on_ci, on_is, rules as proxy_rules, is_leg, any, ci_leg}
use Rattle.law_role_inproxy.proofs.Refusing.Legs.{All, IsBehind, IsPlain, Opens, Same, Starts, bound, client_is, client_within, grows, grows_to, last, pdu_within, plain, seen, server_within, Within}
use Rattle.law_role_inproxy.proofs.Refusing.Steps.{absent_is, awaits_none, begins, comes_behind, connects_some, finish_next, follow, is_opened, kept, newcomer_is, replaces_some, rises, same_ack, same_ack_to, same_a7, same_b1, same_drawn, same_end, same_head, same_keep_alive, same_mark, same_pdu, same_ping, same_settled, take_next}

abbrev pub Fact : ℕ → InProxy → List OnLeg → List OnLeg → Type 0
Fact n s came put = All n (seen s) came

abbrev a5_on : ℕ → Cookie → OnLeg
a5_on k cookie = (ci_leg k, Packet (named.InR1A5 cookie))

abbrev a1_on : ℕ → ℕ → Cookie → Cookie → Cookie → OnLeg
a1_on k version connection predecessor channel =
    (ci_leg k, Packet (named.InR1A1 version connection predecessor channel))

less_same : (z : Successor) → plain (one_less z) ≡ plain z
less_same Absent = refl
less_same (Up number) = refl
less_same (Joined leg (TellsServer behind)) = refl
less_same (Joined leg Told) = refl
less_same (Joined leg Follows) = refl

module _ (n : ℕ) (s : InProxy) (came put : List OnLeg) (h : All n (seen s) came) where
  abbrev pub limit : ℕ
  limit = bound n (opener_of s.opening) s.current (plain s.successor)

  abbrev Holds : InProxy → Type 0
  Holds t = All n (seen t) came

  -- ---- where a channel's packets come

  least : (z : Successor) → IsBehind s.current.number (plain z)
      → s.current.number < suc (last s.current (plain z))
  least Absent b = omega arith
  least (Up number) b = omega arith
  least (Joined leg stage) b = omega (arith, b)

  below_current : (o : Option Opener) → is_some o ≡ true
      → s.current.number < bound n o s.current (plain s.successor)
  below_current None e = absurd cc
  below_current (Some o) e = least s.successor h.behind

  below_next : (o : Option Opener) (z : Successor) (k : ℕ) (which : Which)
      → Starts n o s.current (plain z) → next_of z k ≡ Some which
      → k < bound n o s.current (plain z)
  below_next o Absent k which b e = absurd cc
  below_next o (Up number) k which b e = absurd cc
  below_next None (Joined leg stage) k which b e = absurd (let c = b.1 in cc)
  below_next (Some o) (Joined leg stage) k which b e = by (leg.number == k) refl e
    where
      by : (t : Bool) → (leg.number == k) ≡ t → (if t then Some Next else None) ≡ Some which
          → k < suc leg.number
      by true t e = let is : leg.number ≡ k = eqb-true leg.number k t in omega (arith, is)
      by false t e = absurd cc

  pub channel_below : (k : ℕ) (which : Which) → channel_of s k ≡ Some which → k < limit
  channel_below k which e = by (has_opened s.opening && (s.current.number == k)) refl e
    where
      by : (t : Bool) → (has_opened s.opening && (s.current.number == k)) ≡ t
          → (if t then Some Current else next_of s.successor k) ≡ Some which → k < limit
      by true t e =
          let parts = and_parts (has_opened s.opening) (s.current.number == k) t in
          subst (λ (j : ℕ). j < limit) (eqb-true s.current.number k parts.1)
          (below_current (opener_of s.opening) (sym (is_opened s.opening) ∙ parts.0))
      by false t e = below_next (opener_of s.opening) s.successor k which h.start e

  -- ---- rows

  abbrev Row : OnLeg → Done → Type 0
  Row one x = RowKeeps (Fact n) one came put x

  same_row : (one : OnLeg) (x : Done) → Same s x.0 → IsPlain one.1 → Within limit one
      → Row one x
  same_row one (t, Ok taken) same is within =
      kept n s t (came ++ one ∷ []) same (grows n (seen s) came one h is within)
  same_row one (t, Err why) same is within = kept n s t came same h

  a5_row : (k : ℕ) (which : Which) (cookie : Cookie) → k < limit
      → Row (ci_leg k, Packet (named.InR1A5 cookie)) (on_in_r1_a5 s which cookie)
  a5_row k which cookie below =
      by_test (Row (a5_on k cookie)) (has_a5 s which) (unexpected s) (hand_over s which cookie)
      (λ e. h) (λ e. hands which)
    where
      plain_one : IsPlain (Packet (named.InR1A5 cookie))
      plain_one = record { connects = refl; replaces = refl; window = refl }

      handed : Row (a5_on k cookie) (handed_over s cookie)
      handed =
          same_row (a5_on k cookie) (handed_over s cookie) refl plain_one
          (client_within k limit (Packet (named.InR1A5 cookie)) below)

      finishes : (z : Successor) → s.successor ≡ z → Row (a5_on k cookie) (finish_by s z cookie)
      finishes Absent e = handed
      finishes (Up number) e = h
      finishes (Joined leg (TellsServer behind)) e = h
      finishes (Joined leg Follows) e = h
      finishes (Joined leg Told) e =
          by_test (Row (a5_on k cookie)) (same_cookie leg.cookie cookie) (taken (finished s leg))
          (refuse s (refused.Cookie leg.cookie cookie))
          (λ t. follow n (line.after_finish s.line).has_next (seen s) (Joined leg Follows)
          (came ++ a5_on k cookie ∷ []) (finish_next s.line)
          (subst (λ (z : Successor).
          All n (record (seen s) { heir = plain z }) (came ++ a5_on k cookie ∷ [])) e
          (grows n (seen s) came (a5_on k cookie) h plain_one
          (client_within k limit (Packet (named.InR1A5 cookie)) below))))
          (λ t. h)

      hands : (which : Which) → Row (a5_on k cookie) (hand_over s which cookie)
      hands Current = finishes s.successor refl
      hands Next = handed

  channel_row : (k : ℕ) (which : Which) (m : Named) → k < limit
      → Row (ci_leg k, Packet m) (on_channel s which m)
  channel_row k which (named.AckTo to received available channel) below =
      same_row (ci_leg k, Packet (named.AckTo to received available channel))
      (on_ack_to s which to received available channel)
      (same_ack_to s which to received available channel)
      (record { connects = refl; replaces = refl; window = refl })
      (client_within k limit (Packet (named.AckTo to received available channel)) below)
  channel_row k which (named.OutR1A7 to successor) below =
      same_row (ci_leg k, Packet (named.OutR1A7 to successor)) (on_out_r1_a7 s which to successor)
      (same_a7 s which to successor)
      (record { connects = refl; replaces = refl; window = refl })
      (client_within k limit (Packet (named.OutR1A7 to successor)) below)
  channel_row k which (named.KeepAlive keepalive) below =
      same_row (ci_leg k, Packet (named.KeepAlive keepalive)) (on_keep_alive s which keepalive)
      (same_keep_alive s which keepalive)
      (record { connects = refl; replaces = refl; window = refl })
      (client_within k limit (Packet (named.KeepAlive keepalive)) below)
  channel_row k which named.EndA1 below =
      same_row (ci_leg k, Packet named.EndA1) (on_end_a1 s which) (same_end s which)
      (record { connects = refl; replaces = refl; window = refl })
      (client_within k limit (Packet named.EndA1) below)
  channel_row k which (named.InR1A5 successor) below = a5_row k which successor below
  channel_row k which m below = h

  by_channel_row : (k : ℕ) (o : Option Which) (m : Named) → channel_of s k ≡ o
      → Row (ci_leg k, Packet m) (on_channel_by s o m)
  by_channel_row k None m e = h
  by_channel_row k (Some which) m e = channel_row k which m (channel_below k which e)

  opens_row : (k : ℕ) (m : Named) (o : Opener) → is_first s k ≡ true → Opens o m
      → BeginsIn o.channel m → count_of opens_server (Packet m ∷ []) ≡ 0
      → (is_connection (Some o) ≡ false → count_of is_conn_b1 (Packet m ∷ []) ≡ 0)
      → (is_replacement (Some o) ≡ false → count_of (is_in_r1_a1 any) (Packet m ∷ []) ≡ 0)
      → All n (record (seen s) {
        opener = Some o;
        current = leg_of s.current.number o.channel;
      })
      (came ++ (ci_leg k, Packet m) ∷ [])
  opens_row k m o e opens starts no_window no_b1 no_a1 =
      let parts = and_parts (awaits_packet s.opening) (s.current.number == k) e in
      let unopened : All n (record (seen s) { opener = None }) came =
      subst (λ (p : Option Opener). All n (record (seen s) { opener = p }) came)
      (awaits_none s.opening parts.0) h in
      let absent : plain s.successor ≡ Absent = unopened.start.1 in
      let alone = subst (λ (z : Successor).
      All n (record (seen s) { opener = None; heir = z }) came) absent unopened in
      let new = begins n s.config.number s.edge s.current s.line.has_next o m came alone opens
      starts no_window no_b1 no_a1 in
      let back = subst (λ (z : Successor).
      All n (record (seen s) {
        opener = Some o;
        current = leg_of s.current.number o.channel;
        heir = z;
      }) (came ++ (ci_leg s.current.number, Packet m) ∷ [])) (sym absent) new in
      subst (λ (j : ℕ).
      All n (record (seen s) { opener = Some o; current = leg_of s.current.number o.channel })
      (came ++ (ci_leg j, Packet m) ∷ [])) (eqb-true s.current.number k parts.1) back

  joined_row : (k : ℕ) (o : Opener) (version : ℕ) (connection predecessor channel : Cookie)
      → opener_of s.opening ≡ Some o → s.successor ≡ Up k
      → All n (seen (joined s k channel))
      (came ++ (ci_leg k, Packet (named.InR1A1 version connection predecessor channel)) ∷ [])
  joined_row k o version connection predecessor channel e up =
      let m = named.InR1A1 version connection predecessor channel in
      let asked : All n (record (seen s) { opener = Some o }) came =
      subst (λ (p : Option Opener). All n (record (seen s) { opener = p }) came) e h in
      let newcomer = subst (λ (z : Successor).
      All n (record (seen s) { opener = Some o; heir = plain z }) came) up asked in
      let new = comes_behind n s.config.number s.edge s.current s.line.has_next o k channel m came
      newcomer refl refl refl in
      subst (λ (p : Option Opener).
      All n (record (seen s) { opener = p; heir = Joined (leg_of k channel) Told; has_next = true })
      (came ++ (ci_leg k, Packet m) ∷ [])) (sym e) new

  later_row : (k : ℕ) (version : ℕ) (connection predecessor channel : Cookie)
      (o : Option Opener) → opener_of s.opening ≡ o
      → Row (a1_on k version connection predecessor channel)
      (on_later_in_r1_a1 s o k connection predecessor channel)
  later_row k version connection predecessor channel None e = h
  later_row k version connection predecessor channel (Some o) e =
      by_test (Row (a1_on k version connection predecessor channel)) (is_newcomer s.successor k)
      (join s o k connection predecessor channel) (unexpected s)
      (λ t. by_test (Row (a1_on k version connection predecessor channel))
      (not (same_cookie o.connection connection))
      (refuse s (refused.Cookie o.connection connection))
      (if not (same_cookie s.current.cookie predecessor)
      then refuse s (refused.Cookie s.current.cookie predecessor)
      else taken (joined s k channel)) (λ a. h)
      (λ a. by_test (Row (a1_on k version connection predecessor channel))
      (not (same_cookie s.current.cookie predecessor))
      (refuse s (refused.Cookie s.current.cookie predecessor)) (taken (joined s k channel))
      (λ b. h)
      (λ b. joined_row k o version connection predecessor channel e
      (newcomer_is s.successor k t)))) (λ t. h)

  ci_row : (k : ℕ) (m : Named) → Row (ci_leg k, Packet m) (on_ci s k m)
  ci_row k (named.ConnB1 version connection channel lifetime keepalive group) =
      by_test (Row (
        ci_leg k,
        Packet (named.ConnB1 version connection channel lifetime keepalive group),
      )) (is_first s k)
      (opened s (opener connection channel (Connects group)) (kept_for keepalive)) (unexpected s)
      (λ e. opens_row k (named.ConnB1 version connection channel lifetime keepalive group)
      (opener connection channel (Connects group)) e (refl, refl) refl refl (λ t. absurd cc)
      (λ t. refl)) (λ e. h)
  ci_row k (named.InR1A1 version connection predecessor channel) =
      by_test (Row (ci_leg k, Packet (named.InR1A1 version connection predecessor channel)))
      (is_first s k) (on_first_in_r1_a1 s connection predecessor channel)
      (on_later_in_r1_a1 s (opener_of s.opening) k connection predecessor channel)
      (λ e. opens_row k (named.InR1A1 version connection predecessor channel)
      (opener connection channel (Replaces predecessor)) e (refl, refl) refl refl (λ t. refl)
      (λ t. absurd cc))
      (λ e. later_row k version connection predecessor channel (opener_of s.opening) refl)
  ci_row k m = by_channel_row k (channel_of s k) m refl

  edge_row : (m : Named) → is_unknown s.edge ≡ true → is_some (opener_of s.opening) ≡ true
      → opens_server m ≡ true → count_of is_conn_b1 (Packet m ∷ []) ≡ 0
      → count_of (is_in_r1_a1 any) (Packet m ∷ []) ≡ 0
      → All n (record (seen s) { edge = Known }) (came ++ (is_leg n, Packet m) ∷ [])
  edge_row m unknown some is no_b1 no_a1 =
      let before = h.window in
      let left = ap one_if unknown in
      let here = leg_here opens_server (is_leg n) came m in
      let one = ap one_if is in
      grows_to n (seen s) came (is_leg n, Packet m) h Known no_b1 no_a1
      (server_within n limit (Packet m)) (omega (arith, before, left, here, one)) (λ e. some)

  is_row : (m : Named) → Row (is_leg n, Packet m) (on_is s m)
  is_row (named.ConnB3 size version) =
      by_test (Row (is_leg n, Packet (named.ConnB3 size version)))
      (is_connection (opener_of s.opening) && is_unknown s.edge) (with_edge s size) (unexpected s)
      (λ e. let parts = and_parts (is_connection (opener_of s.opening)) (is_unknown s.edge) e in
      edge_row (named.ConnB3 size version) parts.1
      (connects_some (opener_of s.opening) parts.0) refl refl refl) (λ e. h)
  is_row (named.InR1B2 size) =
      by_test (Row (is_leg n, Packet (named.InR1B2 size)))
      (is_replacement (opener_of s.opening) && is_unknown s.edge) (with_edge s size) (unexpected s)
      (λ e. let parts = and_parts (is_replacement (opener_of s.opening)) (is_unknown s.edge) e in
      edge_row (named.InR1B2 size) parts.1
      (replaces_some (opener_of s.opening) parts.0) refl refl refl) (λ e. h)
  is_row named.InR1B1 =
      same_row (is_leg n, Packet named.InR1B1) (on_in_r1_b1 s) (same_b1 s)
      (record { connects = refl; replaces = refl; window = refl })
      (server_within n limit (Packet named.InR1B1))
  is_row (named.Ack received available channel) =
      same_row (is_leg n, Packet (named.Ack received available channel))
      (on_ack s received available channel) (same_ack s received available channel)
      (record { connects = refl; replaces = refl; window = refl })
      (server_within n limit (Packet (named.Ack received available channel)))
  is_row m = h

  pub server_is : (leg : Leg) → is_server_leg s leg ≡ true → is_leg n ≡ leg
  server_is leg e = sym (ap is_leg h.number) ∙ leg_is (is_leg s.config.number) leg e

  packet_row : (leg : Leg) (count : Count) (m : Named)
      → Row (leg, Packet m) (packet s leg count m)
  packet_row leg count m =
      by_test (Row (leg, Packet m)) (is_client_leg leg) (on_ci s leg.number m)
      (if is_server_leg s leg then on_is s m else unexpected s)
      (λ e. subst (λ (l : Leg). Row (l, Packet m) (on_ci s leg.number m)) (client_is leg e)
      (ci_row leg.number m))
      (λ e. by_test (Row (leg, Packet m)) (is_server_leg s leg) (on_is s m) (unexpected s)
      (λ f. subst (λ (l : Leg). Row (l, Packet m) (on_is s m)) (server_is leg f) (is_row m))
      (λ f. h))

  pdu_row : (leg : Leg) (count : Count) (bytes : List ℕ)
      → Row (leg, Pdu bytes) (pdu s leg count bytes)
  pdu_row leg count bytes =
      same_row (leg, Pdu bytes) (pdu s leg count bytes) (same_pdu s leg count bytes)
      (record { connects = refl; replaces = refl; window = refl }) (pdu_within leg limit bytes)

  -- ---- legs that come up

  up_keeps : (leg : Leg) → All n (seen (up s leg)) came
  up_keeps leg =
      by_test Holds (may_accept s leg) (accepted s s.opening leg.number)
      (if wants s leg then connected s s.opening else s)
      (λ e. accepts_row s.opening refl
      (and_parts (is_client_leg leg) (accepts s s.opening leg.number) e).1)
      (λ e. by_test Holds (wants s leg) (connected s s.opening) s
      (λ f. connects_row s.opening refl) (λ f. h))
    where
      rises_to : (number : ℕ) → is_some (opener_of s.opening) ≡ true
          → accepts_later s number ≡ true
          → Holds (record s { successor = Up number; newest_lost = false })
      rises_to number some e =
          let at : number ≡ suc s.current.number = grind (arith, nat_tests) in
          let free : is_absent s.successor ≡ true = grind (arith, nat_tests) in
          let alone = subst (λ (z : Successor). All n (record (seen s) { heir = plain z }) came)
          (absent_is s.successor free) h in rises n (seen s) number came alone some at

      accepts_row : (o : Opening) → s.opening ≡ o → accepts s o leg.number ≡ true
          → Holds (accepted s o leg.number)
      accepts_row openings.AwaitsClient e may =
          kept n s (record s { opening = openings.AwaitsPacket }) came
          (ap (λ (p : Opening). record (seen s) { opener = opener_of p }) (sym e)) h
      accepts_row openings.AwaitsPacket e may = absurd cc
      accepts_row (openings.WantsServer o) e may =
          rises_to leg.number (ap (λ (p : Opening). is_some (opener_of p)) e) may
      accepts_row (openings.Announces o) e may =
          rises_to leg.number (ap (λ (p : Opening). is_some (opener_of p)) e) may
      accepts_row (openings.Announced o) e may =
          rises_to leg.number (ap (λ (p : Opening). is_some (opener_of p)) e) may

      connects_row : (o : Opening) → s.opening ≡ o → Holds (connected s o)
      connects_row (openings.WantsServer o) e =
          kept n s (record s { opening = openings.Announces o }) came
          (ap (λ (p : Opening). record (seen s) { opener = opener_of p }) (sym e)) h
      connects_row openings.AwaitsClient e = h
      connects_row openings.AwaitsPacket e = h
      connects_row (openings.Announces o) e = h
      connects_row (openings.Announced o) e = h

  -- ---- puts

  abbrev Puts : Pick → Type 0
  Puts pick = IfSome pick (λ (one : InProxy × Message). Holds one.0)

  abbrev Quiet : Pick → Type 0
  Quiet pick = IfSome pick (λ (one : InProxy × Message). Same s one.0)

  quiet_puts : (pick : Pick) → Quiet pick → Puts pick
  quiet_puts None q = tt
  quiet_puts (Some one) q = kept n s one.0 came q h

  or_puts : (a b : Pick) → Puts a → Puts b → Puts (or_else a b)
  or_puts None b p q = q
  or_puts (Some pick) b p q = p

  settled_puts : (pick : Pick) → Puts pick → Puts (settled_pick pick)
  settled_puts None p = tt
  settled_puts (Some pick) p = kept n pick.0 (settled pick.0) came (same_settled pick.0) p

  first_puts : (o : Opening) → s.opening ≡ o → Puts (first_by s o)
  first_puts (openings.Announces o) e =
      kept n s (record s { opening = openings.Announced o }) came
      (ap (λ (p : Opening). record (seen s) { opener = opener_of p }) (sym e)) h
  first_puts openings.AwaitsClient e = tt
  first_puts openings.AwaitsPacket e = tt
  first_puts (openings.WantsServer o) e = tt
  first_puts (openings.Announced o) e = tt

  told_puts : (z : Successor) → s.successor ≡ z → Puts (told_by s z)
  told_puts Absent e = tt
  told_puts (Up number) e = tt
  told_puts (Joined leg Told) e = tt
  told_puts (Joined leg Follows) e = tt
  told_puts (Joined leg (TellsServer behind)) e =
      by_test Puts (behind == 0)
      (Some (record s { successor = Joined leg Told }, Packet (named.InR2A2 leg.cookie))) None
      (λ t. subst (λ (z : Successor). All n (record (seen s) { heir = plain z }) came) e h)
      (λ t. tt)

  waiting_puts : (dues : List Due) → Puts (waiting_by s dues)
  waiting_puts [] = tt
  waiting_puts (due ∷ dues) =
      subst (λ (z : Successor). All n (record (seen s) { heir = z }) came)
      (sym (less_same s.successor)) h

  pdu_puts : (pdus : List (List ℕ)) → Puts (next_pdu s pdus)
  pdu_puts [] = tt
  pdu_puts (one ∷ pdus) =
      by_test Puts (may_send s.window (length one)) (Some (passed s (length one), Pdu one)) None
      (λ t. follow n (line.after_take s.line).has_next (seen s) s.successor came
      (take_next s.line s.line.current.pdus) h) (λ t. tt)

  quiet_ack : (which : Which) (cookie : Cookie) (o : Option Ack)
      → Quiet (ack_by s which cookie o)
  quiet_ack which cookie o = search rules

  quiet_next : (z : Successor) → Quiet (next_ack s z)
  quiet_next Absent = tt
  quiet_next (Up number) = tt
  quiet_next (Joined leg stage) = quiet_ack Next leg.cookie (ack_due s Next)

  quiet_end : Quiet (put_end s)
  quiet_end = search rules

  quiet_mark : Quiet (put_in_r1_a6 s)
  quiet_mark = search rules

  quiet_ping : Quiet (put_ping s)
  quiet_ping = search rules

  quiet_echo : (number : ℕ) → Quiet (put_echo s number)
  quiet_echo number = search rules

  next_puts : Puts (next s)
  next_puts =
      or_puts (put_control s) (put_stream s)
      (or_puts (put_early s) (put_acks s)
      (or_puts (put_first s) _ (first_puts s.opening refl)
      (or_puts (put_in_r2_a2 s) (put_waiting s) (told_puts s.successor refl)
      (waiting_puts s.waiting.due)))
      (or_puts (current_ack s) (next_ack s s.successor)
      (quiet_puts (current_ack s) (quiet_ack Current s.current.cookie (ack_due s Current)))
      (quiet_puts (next_ack s s.successor) (quiet_next s.successor))))
      (or_puts (put_pdu s) (put_behind s) (pdu_puts s.line.current.pdus)
      (or_puts (put_mark s) (put_ping s)
      (or_puts (put_end s) (put_in_r1_a6 s) (quiet_puts (put_end s) quiet_end)
      (quiet_puts (put_in_r1_a6 s) quiet_mark))
      (quiet_puts (put_ping s) quiet_ping)))

  puts : (leg : Leg) → Puts (put_of s leg)
  puts leg =
      by_test Puts (is_client_leg leg) (put_echo s leg.number)
      (if is_server_leg s leg then settled_pick (next s) else None)
      (λ e. quiet_puts (put_echo s leg.number) (quiet_echo leg.number))
      (λ e. by_test Puts (is_server_leg s leg) (settled_pick (next s)) None
      (λ f. settled_puts (next s) next_puts) (λ f. tt))

  put_row : (leg : Leg) (pick : Pick) → Puts pick → PutKeeps (Fact n) leg came put pick
  put_row leg None p = tt
  put_row leg (Some one) p = p

-- ---- the role

module _ (n : ℕ) where
  pub steps : StepsKeep proxy_rules (Fact n)
  steps = record {
    up = λ s leg cookie came put h. up_keeps n s came put h leg;
    head = λ s leg text came put h. kept n s (head s leg text).0 came (same_head s leg text) h;
    pdu = λ s leg count bytes came put h. pdu_row n s came put h leg count bytes;
    packet = λ s leg count m came put h. packet_row n s came put h leg count m;
    put = λ s leg came put h. put_row n s came put h leg (put_of s leg) (puts n s came put h leg);
    drawn = λ s leg came put h. kept n s (drawn s leg) came (same_drawn s leg) h;
    mark = λ s leg came put h. kept n s (mark s leg) came (same_mark s leg) h;
    ping = λ s leg came put h. kept n s (ping s leg) came (same_ping s leg) h;
  }

pub start : (config : InProxyConfig) → All config.number (seen (first config)) []
start config = record {
  number = refl;
  from = omega arith;
  start = (refl, refl);
  behind = tt;
  joined = refl;
  used = λ k a b. absurd (omega (arith, a, b));
  fresh = λ k a. refl;
  opened = tt;
  joins = tt;
  connects = λ e. refl;
  replaces = λ e. refl;
  window = refl;
  told = λ e. absurd cc;
}

pub legs_are_known : (config : InProxyConfig) (moves : List Move)
    → (let p = all_moved proxy_rules (started (first config)) moves in
    All config.number (seen p.role) p.came)
legs_are_known config moves =
    moves_keep proxy_rules (Fact config.number) (steps config.number) (started (first config))
    moves (start config)
