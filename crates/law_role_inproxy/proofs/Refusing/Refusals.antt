-- what is so where a row of an in proxy refuses
use Rattle.rh_window.specs.Receiving as windows
use Rattle.law_order.proofs.Vocabulary.{◌≡◌, ℕ, zero, suc, ◌+◌, ◌<◌, ◌≤◌, ◌==◌, ◌&&◌, ◌||◌, Bool, true, false, not, if◌then◌else◌, List, length, Some, None, Ok, Err, inl, inr, refl, sym, ap, subst, ◌∙◌, arith, eqb-true, or_cases, nat_tests, ◌⊎◌, Option, Result}
use Rattle.rh_sig.specs.declared.named.Named.TheVariants as named
use Rattle.rh_line.specs.Lines as line
use Rattle.rh_shell.specs.declared.answers.Refused.TheVariants as refused
use Rattle.rh_inproxy.specs.Passing.{pdu_by}
use Rattle.rh_inproxy.specs.declared.state.Opening.TheVariants as openings
use Rattle.rh_inproxy.specs.declared.state.Work.TheVariants as work
use Rattle.law_moves.proofs.Vocabulary.{WindowExceeded, ack_verdict, after_acked, by_test, other_number, Cookie, Named, LineFault, Over, Leg, ClientIn, Which, Current, Next, Count, one_if, Passage, is_in_use, of_leg, BeginsIn, Has, HasBegunIn, HasOne, count_of, is_in_r1_a6, opens_server}
use Rattle.law_moves.proofs.Lemmas.{one_so, leg_is}
use Rattle.law_role_inproxy.proofs.Vocabulary.{TellsServer, Told, Follows, Opener, Opening, Connects, Successor, Absent, Up, Joined, ack_for, acked, forwarded, Done, is_some, refuse, taken, unexpected, has_later, finish_by, finished, hand_over, has_passed, is_newcomer, join, joined, on_in_r1_a5, on_later_in_r1_a1, had_client, was_up, is_connection, is_first, is_replacement, is_unknown, kept_for, newest, newest_by, on_first_in_r1_a1, opened, opener, opener_of, with_edge}
use Rattle.law_role_inproxy.proofs.Vocabulary.{awaits_packet, InProxy, channel_of, hands_over, has_a5, is_client_leg, is_server_leg, same_cookie, on_channel, on_channel_by, on_ci, on_is, packet, pdu, rules, pdu_by as machine_pdu_by, is_leg, HasPacket, IsEnded, IsLeft, IsNew, IsUntold, is_in_r2_a2, Mismatch, NamesConnection, RefusesFor, Unexpected, UnexpectedOnClient, UnexpectedOnServer, UnexpectedPdu, UnexpectedPduBy, ci_leg}
use Rattle.law_role_inproxy.proofs.Refusing.Legs.{All, IsBehind, Joins, Opened, Opens, Starts, bound, client_is, last, plain, seen}
use Rattle.law_role_inproxy.proofs.Refusing.Steps.{newcomer_is}
use Rattle.law_role_inproxy.proofs.Refusing.Answered.{Refuses, acks, begins_so, differs, forwards, names_so, not_same, one_fails, so_mismatch, so_unexpected}
use Rattle.law_role_inproxy.proofs.Refusing.Channels.{At, Carries}
use Rattle.law_role_inproxy.proofs.Refusing.Told.{told}
use Rattle.law_role_inproxy.specs.Refusing.{HasPdu}

module _ (n : ℕ) (p : Passage InProxy) (known : All n (seen p.role) p.came)
    (carries : Carries p)
    (tells : n + count_of is_in_r2_a2 (of_leg (is_leg n) p.put)
    ≤ told p.role.current.number p.role.successor)
    (names : (cookie : Cookie) → Has (named.InR2A2 cookie) (of_leg (is_leg n) p.put)
    → (j : ℕ) × (j ≤ told p.role.current.number p.role.successor)
    × HasBegunIn cookie (of_leg (ci_leg j) p.came)) where
  abbrev s : InProxy
  s = p.role

  abbrev c : ℕ
  c = p.role.current.number

  -- ---- rows of a channel

  abbrev On : ℕ → Named → Done → Type 0
  On k m x = Refuses (UnexpectedOnClient n p k m) (Mismatch n p (ci_leg k) m) x

  unmet : (k : ℕ) (which : Which) (to want : ℕ) → At s k which
      → (not (has_a5 s which) && (to == want)) ≡ false
      → (to ≡ want → ⊥) ⊎ IsNew p k ⊎ IsLeft p k
  unmet k which to want at e = by (has_a5 s which) refl e
    where
      by : (t : Bool) → has_a5 s which ≡ t → (not t && (to == want)) ≡ false
          → (to ≡ want → ⊥) ⊎ IsNew p k ⊎ IsLeft p k
      by true t e = inr (inr (carries.left k which at t))
      by false t e = inl (other_number to want e)

  stops : (k : ℕ) (which : Which) → At s k which
      → (has_a5 s which || (line.channel_of s.line which).ended || has_later s which) ≡ true
      → IsNew p k ⊎ IsLeft p k ⊎ IsEnded p k ⊎ HasPdu p (suc k)
  stops k which at e =
      by (or_cases (has_a5 s which || (line.channel_of s.line which).ended) (has_later s which) e)
    where
      one : (has_a5 s which ≡ true) ⊎ ((line.channel_of s.line which).ended ≡ true)
          → IsNew p k ⊎ IsLeft p k ⊎ IsEnded p k ⊎ HasPdu p (suc k)
      one (inl t) = inr (inl (carries.left k which at t))
      one (inr t) = inr (inr (inl (carries.ended k which at t)))

      later : (w : Which) → At s k w → has_later s w ≡ true
          → IsNew p k ⊎ IsLeft p k ⊎ IsEnded p k ⊎ HasPdu p (suc k)
      later Current at t = inr (inr (inr (carries.has_pdu k at t)))
      later Next at t = absurd cc

      by : ((has_a5 s which || (line.channel_of s.line which).ended) ≡ true)
          ⊎ (has_later s which ≡ true)
          → IsNew p k ⊎ IsLeft p k ⊎ IsEnded p k ⊎ HasPdu p (suc k)
      by (inl t) = one (or_cases (has_a5 s which) (line.channel_of s.line which).ended t)
      by (inr t) = later which at t

  next_up : (k : ℕ) → had_client s.opening ≡ true → c ≡ k → suc k ≤ newest s
      → was_up s (ci_leg (suc k)) ≡ true
  next_up k had at up =
      let from = known.from in
      let number = known.number in
      let least : s.config.number ≤ suc k = omega (arith, from, number, at) in
      grind (arith, nat_tests)

  untold : (k : ℕ) (z : Successor) → s.successor ≡ z → had_client s.opening ≡ true → c ≡ k
      → newest_by s.current z ≡ suc c
      → n + count_of is_in_r2_a2 (of_leg (is_leg n) p.put) ≤ c → told c z ≡ c → IsUntold n p k
  untold k z e had at is tells untold_is =
      let newest_is = ap (newest_by s.current) e in
      let told_is = ap (told c) e in (
        next_up k had at (omega (arith, newest_is, is, at)),
        omega (arith, at, tells),
        λ cookie has. let found = names cookie has in
            let below = found.1 in
            (found.0, omega (arith, below, told_is, untold_is, at), found.2),
      )

  a5_by : (k : ℕ) (z : Successor) (cookie : Cookie) → s.successor ≡ z
      → had_client s.opening ≡ true → c ≡ k → IsBehind c (plain z) → Joins (plain z) p.came
      → n + count_of is_in_r2_a2 (of_leg (is_leg n) p.put) ≤ told c z
      → On k (named.InR1A5 cookie) (finish_by s z cookie)
  a5_by k Absent cookie e had at b j tells = tt
  a5_by k (Up number) cookie e had at b j tells =
      inr (inr (untold k (Up number) e had at b tells refl))
  a5_by k (Joined leg (TellsServer behind)) cookie e had at b j tells =
      inr (inr (untold k (Joined leg (TellsServer behind)) e had at b tells refl))
  a5_by k (Joined leg Follows) cookie e had at b j tells =
      inr (inl (carries.left k Current at
      (ap (λ (z : Successor). hands_over z s.handover) e)))
  a5_by k (Joined leg Told) cookie e had at b j tells =
      by_test (On k (named.InR1A5 cookie)) (same_cookie leg.cookie cookie)
      (taken (finished s leg)) (refuse s (refused.Cookie leg.cookie cookie)) (λ t. tt)
      (λ t. (
        differs leg.cookie cookie t,
        (
          refl,
          subst (λ (i : ℕ). HasOne (BeginsIn leg.cookie) (of_leg (ci_leg i) p.came)) (b ∙ ap suc at)
              j,
        ),
      ))

  a5_row : (k : ℕ) (which : Which) (cookie : Cookie) → had_client s.opening ≡ true → At s k which
      → On k (named.InR1A5 cookie) (on_in_r1_a5 s which cookie)
  a5_row k which cookie had at =
      by_test (On k (named.InR1A5 cookie)) (has_a5 s which) (unexpected s)
      (hand_over s which cookie) (λ e. inr (inl (carries.left k which at e))) (λ e. by which at)
    where
      by : (w : Which) → At s k w → On k (named.InR1A5 cookie) (hand_over s w cookie)
      by Current at = a5_by k s.successor cookie refl had at known.behind known.joins tells
      by Next at = tt

  -- it is neither CONN/B1 nor IN_R1/A1
  abbrev IsOther : Named → Type 0
  IsOther (named.ConnB1 version connection channel lifetime keepalive group) = ⊥
  IsOther (named.InR1A1 version connection predecessor channel) = ⊥
  IsOther m = Unit {0}

  channel_row : (k : ℕ) (which : Which) (m : Named) → IsOther m
      → had_client s.opening ≡ true → At s k which
      → On k m (on_channel s which m)
  channel_row k which (named.ConnB1 version connection channel lifetime keepalive group) no_row
      had at = absurd no_row
  channel_row k which (named.InR1A1 version connection predecessor channel) no_row had at =
      absurd no_row
  channel_row k which (named.AckTo to received available channel) other had at =
      by_test (On k (named.AckTo to received available channel))
      (not (has_a5 s which) && (to == 3)) (forwarded s (named.AckTo 3 received available channel))
      (unexpected s)
      (λ e. forwards (UnexpectedOnClient n p k (named.AckTo to received available channel))
      (Mismatch n p (ci_leg k) (named.AckTo to received available channel)) s
      (named.AckTo 3 received available channel)) (λ e. unmet k which to 3 at e)
  channel_row k which (named.OutR1A7 to successor) other had at =
      by_test (On k (named.OutR1A7 to successor)) (not (has_a5 s which) && (to == 2))
      (forwarded s (named.OutR1A8 2 successor)) (unexpected s)
      (λ e. forwards (UnexpectedOnClient n p k (named.OutR1A7 to successor))
      (Mismatch n p (ci_leg k) (named.OutR1A7 to successor)) s (named.OutR1A8 2 successor))
      (λ e. unmet k which to 2 at e)
  channel_row k which (named.KeepAlive keepalive) other had at =
      by_test (On k (named.KeepAlive keepalive)) (has_a5 s which) (unexpected s)
      (taken (record s { keepalive = kept_for keepalive })) (λ e. inr (carries.left k which at e))
      (λ e. tt)
  channel_row k which named.EndA1 other had at =
      by_test (On k named.EndA1)
      (has_a5 s which || (line.channel_of s.line which).ended || has_later s which)
      (unexpected s) (taken (record s { line = line.after_end s.line which }))
      (λ e. stops k which at e) (λ e. tt)
  channel_row k which (named.InR1A5 successor) other had at = a5_row k which successor had at
  channel_row k which m other had at = tt

  new_so : (k : ℕ) (m : Named) → IsOther m → IsNew p k → UnexpectedOnClient n p k m
  new_so k (named.ConnB1 version connection channel lifetime keepalive group) other new =
      absurd other
  new_so k (named.InR1A1 version connection predecessor channel) other new = absurd other
  new_so k (named.AckTo to received available channel) other new = inr (inl new)
  new_so k (named.OutR1A7 to successor) other new = inr (inl new)
  new_so k (named.KeepAlive keepalive) other new = inl new
  new_so k named.EndA1 other new = inl new
  new_so k (named.InR1A5 successor) other new = inl new
  new_so k m other new = tt

  by_channel_row : (k : ℕ) (o : Option Which) (m : Named) → IsOther m → c ≤ k
      → had_client s.opening ≡ true → channel_of s k ≡ o → On k m (on_channel_by s o m)
  by_channel_row k None m other from had e = new_so k m other (carries.is_new k from e)
  by_channel_row k (Some which) m other from had e =
      channel_row k which m other had (carries.at k which e)

  -- ---- first packets

  used_at : (k : ℕ) → is_some (opener_of s.opening) ≡ true → n ≤ k
      → k ≤ last s.current (plain s.successor) → HasPacket p k
  used_at k some from up = known.used k from (by (opener_of s.opening) some)
    where
      by : (o : Option Opener) → is_some o ≡ true → k < bound n o s.current (plain s.successor)
      by None e = absurd cc
      by (Some o) e = omega (arith, up)

  least : (z : Successor) → IsBehind c (plain z) → c ≤ last s.current (plain z)
  least Absent b = omega arith
  least (Up number) b = omega arith
  least (Joined leg stage) b = omega (arith, b)

  -- the first ci leg is up, and nothing came
  unopened : had_client s.opening ≡ true → opener_of s.opening ≡ None → is_first s n ≡ true
  unopened had none =
      let starts : (c ≡ n) × (plain s.successor ≡ Absent) =
      subst (λ (o : Option Opener). Starts n o s.current (plain s.successor)) none known.start in
      let awaits = by s.opening had none in
      let at = starts.0 in
      let same : (c == n) ≡ true = grind (arith, nat_tests) in
      both awaits same
    where
      by : (o : Opening) → had_client o ≡ true → opener_of o ≡ None → awaits_packet o ≡ true
      by openings.AwaitsClient had none = absurd cc
      by openings.AwaitsPacket had none = refl
      by (openings.WantsServer o) had none = absurd cc
      by (openings.Announces o) had none = absurd cc
      by (openings.Announced o) had none = absurd cc

      both : awaits_packet s.opening ≡ true → (c == n) ≡ true
          → (awaits_packet s.opening && (c == n)) ≡ true
      both a b = grind (arith, nat_tests)

  b1_row : (k : ℕ) → had_client s.opening ≡ true → n ≤ k → is_first s k ≡ false
      → (k ≡ n → ⊥) ⊎ HasPacket p k
  b1_row k had from e = by (opener_of s.opening) refl (k == n) refl
    where
      by : (o : Option Opener) → opener_of s.opening ≡ o → (t : Bool) → (k == n) ≡ t
          → (k ≡ n → ⊥) ⊎ HasPacket p k
      by None none t f =
          inl (λ is. let yes = subst (λ (j : ℕ). is_first s j ≡ true) (sym is)
          (unopened had none) in absurd cc)
      by (Some o) some false f = inl (other_number k n f)
      by (Some o) some true f =
          let is : k ≡ n = eqb-true k n f in
          let up = least s.successor known.behind in
          let first = known.from in
          inr (used_at k (ap (λ (q : Option Opener). is_some q) some) from
          (omega (arith, is, up, first)))

  opened_by : (o : Opener) → opener_of s.opening ≡ Some o → Opened n (Some o) s.current p.came
  opened_by o e =
      subst (λ (q : Option Opener). Opened n q s.current p.came) e known.opened

  not_newcomer : (z : Successor) (k : ℕ) → IsBehind c (plain z) → is_newcomer z k ≡ false
      → k ≤ newest_by s.current z → k ≤ last s.current (plain z)
  not_newcomer Absent k b e up = up
  not_newcomer (Up number) k b e up = grind (arith, nat_tests)
  not_newcomer (Joined leg stage) k b e up = up

  newest_first : (z : Successor) (k : ℕ) → plain z ≡ Absent → k ≤ newest_by s.current z → k ≤ c
  newest_first Absent k e up = up
  newest_first (Up number) k e up = absurd cc
  newest_first (Joined leg stage) k e up = absurd cc

  join_row : (k : ℕ) (o : Opener) (version : ℕ) (connection predecessor channel : Cookie)
      → opener_of s.opening ≡ Some o → k ≡ suc c
      → On k (named.InR1A1 version connection predecessor channel)
      (join s o k connection predecessor channel)
  join_row k o version connection predecessor channel e is =
      let begun = opened_by o e in
      by_test (On k (named.InR1A1 version connection predecessor channel))
      (not (same_cookie o.connection connection))
      (refuse s (refused.Cookie o.connection connection))
      (if not (same_cookie s.current.cookie predecessor)
      then refuse s (refused.Cookie s.current.cookie predecessor)
      else taken (joined s k channel))
      (λ a. (
        not_same o.connection connection a,
        inl (
          refl,
          one_so (Opens o) (NamesConnection o.connection) (names_so o) (of_leg (ci_leg n) p.came)
              begun.0,
        ),
      ))
      (λ a. by_test (On k (named.InR1A1 version connection predecessor channel))
      (not (same_cookie s.current.cookie predecessor))
      (refuse s (refused.Cookie s.current.cookie predecessor)) (taken (joined s k channel))
      (λ b. (not_same s.current.cookie predecessor b, inr (refl, (c, is, begun.1)))) (λ b. tt))

  later_row : (k : ℕ) (version : ℕ) (connection predecessor channel : Cookie)
      (o : Option Opener) → opener_of s.opening ≡ o → had_client s.opening ≡ true → n ≤ k
      → k ≤ newest s → is_first s k ≡ false
      → On k (named.InR1A1 version connection predecessor channel)
      (on_later_in_r1_a1 s o k connection predecessor channel)
  later_row k version connection predecessor channel None e had from up not_first =
      let starts : (c ≡ n) × (plain s.successor ≡ Absent) =
      subst (λ (q : Option Opener). Starts n q s.current (plain s.successor)) e known.start in
      let at = starts.0 in
      let below = newest_first s.successor k starts.1 up in
      let is : n ≡ k = omega (arith, at, below, from) in
      let yes = subst (λ (j : ℕ). is_first s j ≡ true) is (unopened had e) in absurd cc
  later_row k version connection predecessor channel (Some o) e had from up not_first =
      by_test (On k (named.InR1A1 version connection predecessor channel))
      (is_newcomer s.successor k) (join s o k connection predecessor channel) (unexpected s)
      (λ t. join_row k o version connection predecessor channel e
      (subst (λ (z : Successor). IsBehind c (plain z)) (newcomer_is s.successor k t)
      known.behind))
      (λ t. used_at k (ap (λ (q : Option Opener). is_some q) e) from
      (not_newcomer s.successor k known.behind t up))

  -- ---- rows

  ci_row : (k : ℕ) (m : Named) → c ≤ k → had_client s.opening ≡ true → n ≤ k → k ≤ newest s
      → On k m (on_ci s k m)
  ci_row k (named.ConnB1 version connection channel lifetime keepalive group) busy had from up =
      by_test (On k (named.ConnB1 version connection channel lifetime keepalive group))
      (is_first s k) (opened s (opener connection channel (Connects group)) (kept_for keepalive))
      (unexpected s) (λ e. tt) (λ e. b1_row k had from e)
  ci_row k (named.InR1A1 version connection predecessor channel) busy had from up =
      by_test (On k (named.InR1A1 version connection predecessor channel)) (is_first s k)
      (on_first_in_r1_a1 s connection predecessor channel)
      (on_later_in_r1_a1 s (opener_of s.opening) k connection predecessor channel) (λ e. tt)
      (λ e. later_row k version connection predecessor channel (opener_of s.opening) refl had from
      up e)
  ci_row k m busy had from up = by_channel_row k (channel_of s k) m tt busy had refl

  abbrev OnPdu : ℕ → Done → Type 0
  OnPdu k x = Refuses (UnexpectedPdu p (ci_leg k)) (λ expected got. ⊥) x

  verdict_row : (k : ℕ) (which : Which) (bytes : List ℕ) (t : InProxy) → At s k which
      → OnPdu k (pdu_by t (line.admit_verdict s.line which bytes))
  verdict_row k which bytes t at =
      by_test (λ (v : Result (Unit {0}) LineFault). OnPdu k (pdu_by t v))
      (line.channel_of s.line which).ended (Err Over)
      (line.by_window (windows.admit_verdict (line.channel_of s.line which).window (length bytes)))
      (λ e. inr (inr (k, omega arith, carries.ended k which at e)))
      (λ e. by (windows.admit_verdict (line.channel_of s.line which).window (length bytes)))
    where
      by : (v : Result (Unit {0}) WindowExceeded) → OnPdu k (pdu_by t (line.by_window v))
      by (Ok admitted) = tt
      by (Err exceeded) = tt

  pdu_row : (k : ℕ) (o : Option Which) (bytes : List ℕ) → c ≤ k → channel_of s k ≡ o
      → OnPdu k (machine_pdu_by s o bytes)
  pdu_row k None bytes busy e = inl (carries.is_new k busy e)
  pdu_row k (Some which) bytes busy e =
      by_test (OnPdu k) (has_a5 s which || line.is_ended s.line) (unexpected s)
      (pdu_by (record s { line = line.after_admit s.line which bytes })
      (line.admit_verdict s.line which bytes))
      (λ t. by (or_cases (has_a5 s which) (line.is_ended s.line) t))
      (λ t. verdict_row k which bytes (record s { line = line.after_admit s.line which bytes })
      (carries.at k which e))
    where
      by : (has_a5 s which ≡ true) ⊎ (line.is_ended s.line ≡ true)
          → UnexpectedPduBy p k ClientIn
      by (inl t) = inr (inl (carries.left k which (carries.at k which e) t))
      by (inr t) = inr (inr (carries.ended_before k which (carries.at k which e) t))

  -- ---- from the server

  abbrev OnIs : Named → Done → Type 0
  OnIs m x = Refuses (UnexpectedOnServer n p m) (Mismatch n p (is_leg n) m) x

  is_told : is_unknown s.edge ≡ false → 1 ≤ count_of opens_server (of_leg (is_leg n) p.came)
  is_told e =
      let window = known.window in
      let left = ap one_if e in omega (arith, window, left)

  ack_row : (o : Option Opener) (received available : ℕ) (channel : Cookie)
      → opener_of s.opening ≡ o → is_unknown s.edge ≡ false
      → OnIs (named.Ack received available channel) (ack_for s o received available channel)
  ack_row None received available channel q e =
      let some = known.told e in
      let none = ap (λ (o : Option Opener). is_some o) q in absurd cc
  ack_row (Some o) received available channel q e =
      by_test (OnIs (named.Ack received available channel)) (same_cookie o.channel channel)
      (acked s received available) (refuse s (refused.Cookie o.channel channel))
      (λ t. acks (UnexpectedOnServer n p (named.Ack received available channel))
      (Mismatch n p (is_leg n) (named.Ack received available channel))
      (record s { window = after_acked s.window received available })
      (ack_verdict s.window received available))
      (λ t. (
        differs o.channel channel t,
        (
          refl,
          one_so (Opens o) (BeginsIn o.channel) (begins_so o) (of_leg (ci_leg n) p.came)
              (opened_by o q).0,
        ),
      ))

  module _ (passes : 1 ≤ count_of is_in_r1_a6 (of_leg (is_leg n) p.put)
      → has_passed p.role.handover ≡ true) where
    unpassed : (k : ℕ) → (1 ≤ k → has_passed s.handover ≡ true) → has_passed s.handover ≡ false
        → k ≡ 0
    unpassed zero f e = refl
    unpassed (suc k) f e = let yes = f (omega arith) in absurd cc

    is_row : (m : Named) → OnIs m (on_is s m)
    is_row (named.ConnB3 size version) =
        by_test (OnIs (named.ConnB3 size version))
        (is_connection (opener_of s.opening) && is_unknown s.edge) (with_edge s size)
        (unexpected s) (λ e. tt)
        (λ e. by (one_fails (is_connection (opener_of s.opening)) (is_unknown s.edge) e))
      where
        by : (is_connection (opener_of s.opening) ≡ false) ⊎ (is_unknown s.edge ≡ false)
            → UnexpectedOnServer n p (named.ConnB3 size version)
        by (inl t) = inl (known.connects t)
        by (inr t) = inr (is_told t)
    is_row (named.InR1B2 size) =
        by_test (OnIs (named.InR1B2 size))
        (is_replacement (opener_of s.opening) && is_unknown s.edge) (with_edge s size)
        (unexpected s) (λ e. tt)
        (λ e. by (one_fails (is_replacement (opener_of s.opening)) (is_unknown s.edge) e))
      where
        by : (is_replacement (opener_of s.opening) ≡ false) ⊎ (is_unknown s.edge ≡ false)
            → UnexpectedOnServer n p (named.InR1B2 size)
        by (inl t) = inl (known.replaces t)
        by (inr t) = inr (is_told t)
    is_row named.InR1B1 =
        by_test (OnIs named.InR1B1) (has_passed s.handover)
        (taken (record s { work = work.Done })) (unexpected s) (λ e. tt)
        (λ e. unpassed (count_of is_in_r1_a6 (of_leg (is_leg n) p.put)) passes e)
    is_row (named.Ack received available channel) =
        by_test (OnIs (named.Ack received available channel)) (is_unknown s.edge) (unexpected s)
        (ack_for s (opener_of s.opening) received available channel)
        (λ e. let window = known.window in
        let left = ap one_if e in omega (arith, window, left))
        (λ e. ack_row (opener_of s.opening) received available channel refl e)
    is_row m = tt

    -- ---- on its legs

    -- a leg that was up is a ci leg or the is leg
    by_leg : (P : Leg → Type 0) (leg : Leg) → was_up s leg ≡ true → ((k : ℕ) → P (ci_leg k))
        → P (is_leg n) → P leg
    by_leg P leg up on_ci on_is = by (is_client_leg leg) refl
      where
        by : (t : Bool) → is_client_leg leg ≡ t → P leg
        by true t = subst P (client_is leg t) (on_ci leg.number)
        by false t =
            let server : is_server_leg s leg ≡ true = grind (arith, nat_tests) in
            subst P (sym (ap is_leg known.number) ∙ leg_is (is_leg s.config.number) leg server)
            on_is

    use_from : (k : ℕ) → is_in_use rules s (ci_leg k) ≡ true → c ≤ k
    use_from k e = grind (arith, nat_tests)

    up_had : (k : ℕ) → was_up s (ci_leg k) ≡ true → had_client s.opening ≡ true
    up_had k e = grind (arith, nat_tests)

    up_from : (k : ℕ) → was_up s (ci_leg k) ≡ true → n ≤ k
    up_from k e =
        let at = known.number in
        let least : s.config.number ≤ k = grind (arith, nat_tests) in omega (arith, at, least)

    up_to : (k : ℕ) → was_up s (ci_leg k) ≡ true → k ≤ newest s
    up_to k e = grind (arith, nat_tests)

    abbrev Packets : Leg → Type 0
    Packets leg = (count : Count) (m : Named) → is_in_use rules s leg ≡ true
        → was_up s leg ≡ true
        → Refuses (Unexpected n p leg m) (Mismatch n p leg m) (packet s leg count m)

    packets_refused : (leg : Leg) → was_up s leg ≡ true → Packets leg
    packets_refused leg up =
        by_leg Packets leg up
        (λ k count m busy is.
        ci_row k m (use_from k busy) (up_had k is) (up_from k is) (up_to k is))
        (λ count m busy is. by_test (OnIs m) (is_server_leg s (is_leg n)) (on_is s m)
        (unexpected s) (λ e. is_row m) (λ e. not_there e))
      where
        not_there : {A : Type 0} → is_server_leg s (is_leg n) ≡ false → A
        not_there e = let at = known.number in absurd (grind (arith, nat_tests))

    abbrev Pdus : Leg → Type 0
    Pdus leg = (count : Count) (bytes : List ℕ) → is_in_use rules s leg ≡ true
        → was_up s leg ≡ true
        → Refuses (UnexpectedPdu p leg) (λ expected got. ⊥) (pdu s leg count bytes)

    pdus_refused : (leg : Leg) → was_up s leg ≡ true → Pdus leg
    pdus_refused leg up =
        by_leg Pdus leg up
        (λ k count bytes busy is. pdu_row k (channel_of s k) bytes (use_from k busy) refl)
        (λ count bytes busy is. tt)

    pub refusals : RefusesFor n p
    refusals = record {
      unexpected = λ leg count m busy up e.
          so_unexpected (Unexpected n p leg m) (Mismatch n p leg m) (packet s leg count m)
          (packets_refused leg up count m busy up) e;
      unexpected_pdu = λ leg count bytes busy up e.
          so_unexpected (UnexpectedPdu p leg) (λ expected got. ⊥) (pdu s leg count bytes)
          (pdus_refused leg up count bytes busy up) e;
      mismatch = λ leg count m expected got busy up e.
          so_mismatch (Unexpected n p leg m) (Mismatch n p leg m) (packet s leg count m) expected
          got (packets_refused leg up count m busy up) e;
      no_mismatch = λ leg count bytes expected got busy up e.
          so_mismatch (UnexpectedPdu p leg) (λ expected got. ⊥) (pdu s leg count bytes) expected
          got (pdus_refused leg up count bytes busy up) e;
    }
