-- what comes next from an in proxy is what the server expects, of packets that announce a successor
use Rattle.law_order.proofs.Vocabulary.{◌≡◌, ◌⊎◌, ℕ, suc, ◌+◌, ◌<◌, ◌≤◌, nat_lt, Bool, true, false, List, [], Err, inl, inr, sym, ap, ◌∙◌, refl, subst, arith, nat_tests, IsTrue}
use Rattle.rh_shell.specs.declared.answers.Refused.TheVariants as refused
use Rattle.law_moves.proofs.Vocabulary.{Cookie, Named, InR1A2, InR2A2, InServer, OutServer, Count, Refused, Message, Packet, Passage, is_in_use, of_leg, all_read_of, packets, Tells, HasOne, HasComeUp}
use Rattle.law_moves.proofs.Lemmas.{one_so}
use Rattle.law_role_inproxy.proofs.Vocabulary.{InProxy, is_leg, IsFront, Joins}
use Rattle.law_role_inproxy.specs.Putting.Puts as puts
use Rattle.law_role_client.proofs.Vocabulary.{ClientRole, ci, in_answered, in_asked}
use Rattle.law_role_server.proofs.Vocabulary.{rules as server_rules, Server, came_up, is_conn_b2, is_in_r1_a2, is_in_r2_a2}
use Rattle.law_role_outproxy.proofs.Counted.OutProxyOnce.{at_most_all as count_most}
use Rattle.law_role_server_rows.specs.Refusing.Cookies.{IsConnection}
use Rattle.law_role_server_rows.specs.Refusing.Refusing.{IsOther}
use Rattle.law_peers_moments.specs.Expecting.{IsAhead, IsAmiss}
use Rattle.law_peers_moments.specs.Moments.{IsMoment, Moves, Numbers}
use Rattle.law_role_server_in.specs.Refusing.{NewestNames, UnexpectedInR1A2, UnexpectedInR2A2, came_at}
use Rattle.law_peers_in_channels.proofs.InSuccessors.Moment.{Knows, replaces_is}
use Rattle.law_peers_in_channels.proofs.InSuccessors.Numbered.{asked_numbered}
use Rattle.law_peers_in_channels.proofs.InSuccessors.Refused.{Either, neither, not_first, not_second, with_other}
use Rattle.law_peers_in_channels.proofs.InSuccessors.Streams.{next_first, next_joins}
use Rattle.law_peers_in_channels.proofs.InChannels.Announces.{IsInR1A1, joins_in_r1_a1 as joins_is}
use Rattle.law_peers_in_channels.proofs.InSuccessors.Begins as begins
use Rattle.law_peers_in_channels.proofs.InSuccessors.Moment as at
use Rattle.law_peers_in_channels.proofs.InSuccessors.Streams as streams
use Rattle.law_peers_in_channels.specs.ServerExpects.Expected.{ExpectsThose}
use Rattle.law_peers_in_channels.specs.InChannels.{IsNextChannel, channels}
use Rattle.law_peers_in_channels.specs.InSuccessors.Successors.{Announces}

module _ (numbers : Numbers) (reader : ℕ → ℕ) (moves : Moves)
    (moment : IsMoment numbers reader moves) (know : Knows numbers reader moves) (n : ℕ) where
  abbrev client : Passage ClientRole
  client = at.client numbers reader moves moment know

  abbrev server : Passage Server
  server = at.server numbers reader moves moment know

  abbrev proxy : Passage InProxy
  proxy = at.proxy numbers reader moves moment know n

  abbrev came : List Message
  came = at.came numbers reader moves moment know n

  abbrev Ahead : Named → Type 0
  Ahead m =
      IsAhead server (is_leg n) (all_read_of (at.put numbers reader moves moment know n)) (Packet m)

  -- ---- IN_R1/A2

  module _ (version : ℕ) (connection predecessor successor : Cookie) (window timeout : ℕ)
      (ahead : Ahead (InR1A2 version connection predecessor successor window timeout)) where
    abbrev Replaces : Named → Type 0
    Replaces = puts.Replaces connection predecessor successor

    first : (came ≡ []) × IsFront Replaces (of_leg (ci (numbers.ins n).number) proxy.came)
    first =
        next_first (numbers.ins n) proxy.came version connection predecessor successor window
        timeout came
        (at.ahead_so numbers reader moves moment know n
        (Packet (InR1A2 version connection predecessor successor window timeout)) ahead)

    asked : HasOne Replaces (of_leg (ci n) client.put)
    asked =
        at.was_put numbers reader moves moment know Replaces n n
        (at.first_own numbers reader moves moment know Replaces n first.1)

    asked_any : HasOne IsInR1A1 (of_leg (ci n) client.put)
    asked_any =
        one_so Replaces IsInR1A1 (replaces_is connection predecessor successor)
        (of_leg (ci n) client.put) asked

    next : IsNextChannel server n
    next =
        know.next.in_r1_a2 n version connection predecessor successor window timeout ahead

    below : begins.IsNextTo numbers.client moves.client know.channels_begin n connection predecessor
    below =
        begins.replaces_next numbers.client moves.client know.channels_begin n connection
        predecessor successor asked

    first_expected : UnexpectedInR1A2 server n → ⊥
    first_expected (inl later) =
        let none = ap packets first.0 in omega (arith, none, later)
    first_expected (inr (inl opening)) =
        at.never_opening numbers reader moves moment know n asked_any opening
    first_expected (inr (inr fresh)) =
        let is = next.next in
        let less = fresh.below in
        let some = at.own_began numbers reader moves moment know fresh.leg
        (know.kept fresh.leg fresh.kept) (omega (arith, is, less)) in
        let none = fresh.none in
        omega (arith, some, none)

    -- the server expects the channel below
    names_it : (expected : Cookie) → NewestNames server expected → expected ≡ predecessor
    names_it expected newest = by below.follows
      where
        same : suc below.below ≡ channels server
        same =
            let is = next.next in
            let number = below.number in omega (arith, is, number)

        up : HasComeUp moves.client (ci (channels server)) expected
        up =
            at.expected_up numbers reader moves moment know expected (omega (arith, same)) newest

        by : HasComeUp moves.client (ci (suc below.below)) predecessor
            ⊎ ((below.below ≡ 0)
            × begins.Early numbers.client moves.client know.channels_begin (ci 1))
            → expected ≡ predecessor
        by (inl comes) =
            moment.now.cookies.one (ci (channels server)) expected predecessor up
            (subst (λ (k : ℕ). HasComeUp moves.client (ci k) predecessor) same comes)
        by (inr early) = absurd (know.late early.1)

    module _ (count : Count) (expected got : Cookie)
        (r : (server_rules.packet server.role (is_leg n) count
        (InR1A2 version connection predecessor successor window timeout)).1
        ≡ Err (refused.Cookie expected got)) where
      abbrev other : Cookie
      other = neither connection expected

      differ : IsOther connection expected got
          ⊎ (IsOther predecessor expected got × NewestNames server expected)
          → expected ≡ got → ⊥
      differ (inl is) = is.differs
      differ (inr is) = is.0.differs

      differs : expected ≡ got → ⊥
      differs =
          differ (know.refuses_in.in_r1_a2_cookie n count version connection predecessor successor
          window timeout expected got r)

      of_rows : (IsOther connection expected connection
          × (IsConnection OutServer expected server.came
          ⊎ IsConnection InServer expected server.came))
          ⊎ IsOther other expected connection → ⊥
      of_rows (inl is) =
          is.0.differs
          (sym (at.connection_is numbers reader moves moment know expected is.1) ∙ below.of)
      of_rows (inr is) = not_first connection expected is.is_got

      of_in_rows : got ≡ predecessor → IsOther connection expected other
          ⊎ (IsOther other expected other × NewestNames server expected) → ⊥
      of_in_rows same (inl is) = not_first connection expected (sym is.is_got)
      of_in_rows same (inr is) = differs (names_it expected is.1 ∙ sym same)

      by_other : Either server.role n count connection predecessor other successor window timeout
          expected got
          (server_rules.packet server.role (is_leg n) count
          (InR1A2 version connection other successor window timeout)) → ⊥
      by_other (inl is) =
          of_rows (know.refuses.mismatch (is_leg n) count
          (InR1A2 version connection other successor window timeout) expected connection is.1)
      by_other (inr is) =
          of_in_rows is.0
          (know.refuses_in.in_r1_a2_cookie n count version connection other successor window timeout
          expected other (is.1 (λ e. not_second connection expected (sym e))))

      first_named : ⊥
      first_named =
          by_other (with_other server.role n count connection predecessor other successor window
          timeout expected got r)

  -- ---- IN_R2/A2

  module _ (successor : Cookie) (ahead : Ahead (InR2A2 successor)) where
    abbrev number : ℕ
    number = suc (n + came_at is_in_r2_a2 server n)

    another : streams.IsAnother (numbers.ins n) proxy.came (numbers.ins n).number came successor
    another =
        next_joins (numbers.ins n) proxy.came came successor
        (at.ahead_so numbers reader moves moment know n (Packet (InR2A2 successor)) ahead)

    joins : HasOne (Joins successor) (of_leg (ci number) proxy.came)
    joins =
        subst (λ (k : ℕ). HasOne (Joins successor)
        (of_leg (ci (suc (k + came_at is_in_r2_a2 server n))) proxy.came))
        (moment.now.made.in_number n) another.joins

    was_asked : HasOne IsInR1A1 (of_leg (ci number) client.put)
    was_asked =
        at.was_put numbers reader moves moment know IsInR1A1 n number
        (one_so (Joins successor) IsInR1A1 (joins_is successor) (of_leg (ci number) proxy.came)
        joins)

    announces : IsNextChannel server number
    announces = (know.next.in_r2_a2 n successor ahead).1

    -- the client asked for it, and waits for its answer
    waits : in_answered client < in_asked client
    waits =
        let is = announces.next in
        let first = at.conn_b2_one numbers reader moves moment know number was_asked in
        let most = (at.asked_number numbers reader moves moment know number was_asked).1 in
        let a4 = know.round.a4_behind_a3 in
        let a3 = know.round.a3_behind_a2 in
        omega (arith, is, first, most, a4, a3)

    -- no is leg of that number came up, nor one behind
    most_up : (k : ℕ) → IsTrue (came_up moves.server k) → k ≤ channels server
    most_up k up = by (nat_lt k number) refl
      where
        by : (b : Bool) → nat_lt k number ≡ b → k ≤ channels server
        by true e =
            let less : k < number = grind (arith, nat_tests, e) in
            let is = announces.next in omega (arith, less, is)
        by false e =
            let least : number ≤ k = grind (arith, nat_tests, e) in
            let is = announces.next in
            let first = at.conn_b2_one numbers reader moves moment know number was_asked in
            let most = at.own_most numbers reader moves moment know k up waits in
            let a4 = know.round.a4_behind_a3 in
            let a3 = know.round.a3_behind_a2 in
            let a1 = know.round.a1_behind_a4 in
            let same : k ≡ number = omega (arith, least, is, first, most, a4, a3, a1) in
            let own = (know.connected k up).read in
            let reads = at.reads numbers reader moves moment know (Joins successor) n number joins
            in
            let here = ap reader same in
            absurd (omega (arith, same, own, reads, here))

    later_expected : UnexpectedInR2A2 server n → ⊥
    later_expected (inl none) =
        let some = (know.next.in_r2_a2 n successor ahead).0 in
        let first = count_most is_conn_b2 came in
        let next = count_most is_in_r1_a2 came in
        omega (arith, none, some, first, next)
    later_expected (inr (inl opening)) =
        at.never_opening numbers reader moves moment know number was_asked opening
    later_expected (inr (inr (inl waits_still))) =
        let all = announces.answered in
        let most = know.answered.in_r1_at_most in
        omega (arith, waits_still, all, most)
    later_expected (inr (inr (inr (inl last)))) =
        let few = at.few_given numbers reader moves moment know most_up in
        let is = announces.next in
        let most = (at.asked_number numbers reader moves moment know number was_asked).1 in
        let numbered = asked_numbered client know.replaces know.numbered in
        omega (arith, last, few, is, most, numbered)
    later_expected (inr (inr (inr (inr (inl none))))) =
        let some = (know.next.in_r2_a2 n successor ahead).0 in omega (arith, none, some)
    later_expected (inr (inr (inr (inr (inr (inl unopened)))))) =
        let waits_still = unopened.answered in
        let all = announces.answered in
        let most = know.answered.in_r2_at_most in
        omega (arith, waits_still, all, most)
    later_expected (inr (inr (inr (inr (inr (inr left)))))) =
        let stays = another.stays in omega (arith, left, stays)

  -- ---- either

  module _ (count : Count) (used : IsTrue (is_in_use server_rules server.role (is_leg n)))
      (tells : Tells count (packets came)) where
    by_why : (m : Named) → Announces m → Ahead m → (why : Refused)
        → (server_rules.packet server.role (is_leg n) count m).1 ≡ Err why → IsAmiss why → ⊥
    by_why (InR1A2 version connection predecessor successor window timeout) is ahead
        refused.Unexpected r amiss =
        first_expected version connection predecessor successor window timeout ahead
        (know.refuses_in.in_r1_a2 n count version connection predecessor successor window timeout
        used tells r)
    by_why (InR1A2 version connection predecessor successor window timeout) is ahead
        (refused.Cookie expected got) r amiss =
        first_named version connection predecessor successor window timeout ahead count expected
        got r
    by_why (InR1A2 version connection predecessor successor window timeout) is ahead why r amiss =
        amiss
    by_why (InR2A2 successor) is ahead refused.Unexpected r amiss =
        later_expected successor ahead (know.refuses_in.in_r2_a2 n count successor used tells r)
    by_why (InR2A2 successor) is ahead (refused.Cookie expected got) r amiss =
        know.refuses.mismatch (is_leg n) count (InR2A2 successor) expected got r
    by_why (InR2A2 successor) is ahead why r amiss = amiss
    by_why m is ahead why r amiss = is

  pub expects : ExpectsThose Announces server_rules server (is_leg n)
      (all_read_of (at.put numbers reader moves moment know n))
  expects count m why is used tells ahead r amiss = by_why count used tells m is ahead why r amiss
