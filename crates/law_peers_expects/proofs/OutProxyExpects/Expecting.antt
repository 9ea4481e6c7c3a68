-- what comes next to an out proxy from its server is no reason to refuse it
use Rattle.law_order.proofs.Vocabulary.{◌≡◌, ◌⊎◌, ℕ, zero, suc, ◌+◌, ◌≤◌, Bool, true, false, if◌then◌else◌, ◌&&◌, List, [], ◌∷◌, ◌++◌, Err, inl, inr, refl, sym, ap, ◌∙◌, subst, arith, false≢true, and_parts, nat_tests, append_assoc, nat_le, nat_lt, AllByRecursion}
use Rattle.rh_sig.specs.declared.named.Named.TheVariants as named
use Rattle.rh_shell.specs.declared.answers.Refused.TheVariants as refused
use Rattle.rh_server.specs.declared.state.Stage.TheVariants as stage
use Rattle.law_moves.proofs.Vocabulary.{test_other, Cookie, Named, ClientOut, OutServer, Count, Refused, Message, Text, Pdu, Packet, OnLeg, Passage, of_leg, all_read_of, count_of, of_kind, BeginsOut, Has, HasBegunOut, HasOne, Tells, packets}
use Rattle.law_moves.proofs.Lemmas.{one_so}
use Rattle.law_moves.specs.PacketKinds as at_proxy
use Rattle.law_role_client.proofs.Vocabulary.{NamesOuts}
use Rattle.law_role_client.specs.Counted.Counting as at_client
use Rattle.law_role_server.proofs.Vocabulary.{Stage, since_conn_a2, since_open}
use Rattle.law_role_server.specs.Counted.Counting as at_server
use Rattle.law_node_history.proofs.Vocabulary.{leg_at}
use Rattle.law_role_outproxy.proofs.Vocabulary.{rules as out_rules, OutProxy, IsOpenedBy, NamesNew, NamesSuccessor, OpensAsAsked, OpensWhatCame, CarriesNone, IsUnjoined, MismatchFromServer, PassesNone, RefusesFor, TakesNone, UnexpectedFromServer, from_client}
use Rattle.law_role_outproxy.specs.Refusing.{from_server}
use Rattle.law_role_server_rows.specs.Putting.Copying.{Copies}
use Rattle.law_role_server_rows.specs.Putting.Greeting.{IsFrame}
use Rattle.law_role_server_rows.specs.Putting.Puts.{behind_all, first_turn, os, PacketStands, Stands}
use Rattle.law_role_server_rows.specs.Refusing.Cookies.{IsOutChannel, OpensOut}
use Rattle.law_role_server_rows.specs.InTurn.Channels.{IsToOutProxy, IsWritten, MayFollowEnd}
use Rattle.law_peers_moments.proofs.Joining.{co_front, os_front}
use Rattle.law_peers_moments.proofs.Read.{front_count, front_one}
use Rattle.law_peers_moments.specs.Expecting.{Expects, IsAhead, IsAmiss}
use Rattle.law_peers_moments.specs.Moments.{IsMoment, Moves, Numbers, Passages, passages}
use Rattle.law_peers_expects.proofs.OutProxyExpects.Logs.{all_behind, has_in, here_in, leg_counts, part, read_all_count, some_leg, split, Split}
use Rattle.law_peers_expects.proofs.OutProxyExpects.Ordered.{EarlyLaws, ServerLaws, c1_before, c1_on, c1_on_first, none_before_c1, one_behind, stands}
use Rattle.law_peers_expects.proofs.InProxyExpects.Counts.{conn_a1 as same_a1, conn_c1 as same_c1}
use Rattle.law_peers_expects.proofs.InProxyExpects.Fronts.{same_counts}
use Rattle.law_peers_expects.specs.OutProxyExpects.Early.{HaveLifetimes}

-- ---- tests that are the same

same_a4 : (n : Named) → at_server.is_out_r1_a4 n ≡ at_proxy.is_out_r1_a4 n
same_a4 (named.OutR1A4 version connection predecessor successor lifetime window timeout) = refl
same_a4 packet = refl

same_a2 : (n : Named) → at_server.is_conn_a2 n ≡ at_proxy.is_conn_a2 n
same_a2 (named.ConnA2 version connection channel lifetime window) = refl
same_a2 packet = refl

a9_is : (n : Named) → at_proxy.is_out_r1_a9 n ≡ true → n ≡ named.OutR1A9
a9_is named.OutR1A9 e = refl
a9_is packet e = absurd (false≢true e)

end_is : (n : Named) → at_proxy.is_end_b1 n ≡ true → n ≡ named.EndB1
end_is named.EndB1 e = refl
end_is packet e = absurd (false≢true e)

-- ---- what is written

written_frame : (m : Message) → IsWritten m → IsFrame m
written_frame (Text bytes) written = absurd written
written_frame (Pdu pdu) written = tt
written_frame (Packet packet) written = tt

written_or_passed : (m : Message) → IsWritten m → IsToOutProxy m → ⊥
written_or_passed (Text bytes) written passed = written
written_or_passed (Pdu pdu) written passed = passed
written_or_passed (Packet packet) written passed = false≢true (sym written ∙ passed)

-- ---- channels that begin

one_has : (P : Named → Type 0) (ms : List Message) → HasOne P ms
    → (n : Named) × (Has n ms × P n)
one_has P [] h = absurd h
one_has P (Text bytes ∷ ms) h = let rest = one_has P ms h in (rest.0, (inr rest.1.0, rest.1.1))
one_has P (Pdu pdu ∷ ms) h = let rest = one_has P ms h in (rest.0, (inr rest.1.0, rest.1.1))
one_has P (Packet packet ∷ ms) (inl is) = (packet, (inl refl, is))
one_has P (Packet packet ∷ ms) (inr more) =
    let rest = one_has P ms more in (rest.0, (inr rest.1.0, rest.1.1))

-- by CONN/A1 or by OUT_R1/A3
begun_counts : (cookie : Cookie) (ms : List Message) → HasBegunOut cookie ms
    → (1 ≤ count_of at_proxy.is_conn_a1 ms) ⊎ (1 ≤ count_of at_proxy.is_out_r1_a3 ms)
begun_counts cookie [] h = absurd h
begun_counts cookie (Text bytes ∷ ms) h = begun_counts cookie ms h
begun_counts cookie (Pdu pdu ∷ ms) h = begun_counts cookie ms h
begun_counts cookie (Packet (named.ConnA1 version connection channel window) ∷ ms) h =
    inl (omega arith)
begun_counts cookie
    (Packet (named.OutR1A3 version connection predecessor channel window) ∷ ms) h =
    inr (omega arith)
begun_counts cookie (Packet packet ∷ ms) (inl none) = absurd none
begun_counts cookie (Packet packet ∷ ms) (inr more) = begun_counts cookie ms more

begun_new : (connection channel cookie : Cookie) → channel ≡ cookie → (ms : List Message)
    → HasOne (NamesNew connection channel) ms → HasBegunOut cookie ms
begun_new connection channel cookie same ms h =
    one_so (NamesNew connection channel) (BeginsOut cookie) so ms h
  where
    so : (n : Named) → NamesNew connection channel n → BeginsOut cookie n
    so (named.ConnA1 version other own window) is = is.1 ∙ same
    so packet is = absurd is

begun_successor : (connection predecessor successor cookie : Cookie) → successor ≡ cookie
    → (ms : List Message) → HasOne (NamesSuccessor connection predecessor successor) ms
    → HasBegunOut cookie ms
begun_successor connection predecessor successor cookie same ms h =
    one_so (NamesSuccessor connection predecessor successor) (BeginsOut cookie) so ms h
  where
    so : (n : Named) → NamesSuccessor connection predecessor successor n → BeginsOut cookie n
    so (named.OutR1A3 version other before own window) is = is.2 ∙ same
    so packet is = absurd is

-- it began as the client asked
begun_so : (cookie : Cookie) (came : List Message) (n : Named) → OpensOut cookie n
    → IsOpenedBy came n → HasBegunOut cookie came
begun_so cookie came (named.ConnA2 version connection channel lifetime window) opens is =
    begun_new connection channel cookie opens came is
begun_so cookie came
    (named.OutR1A4 version connection predecessor successor lifetime window timeout) opens is =
    begun_successor connection predecessor successor cookie opens came is
begun_so cookie came packet opens is = absurd opens

-- where CONN/C1 was put or is due, CONN/A2 came
opened_by_a2 : (s : Stage) → 1 ≤ since_open s → since_conn_a2 s ≡ 1
opened_by_a2 stage.Waits open' = absurd (omega (arith, open'))
opened_by_a2 (stage.OutCame connection) open' = absurd (omega (arith, open'))
opened_by_a2 (stage.InCame connection window timeout) open' = absurd (omega (arith, open'))
opened_by_a2 (stage.Open connection) open' = refl
opened_by_a2 stage.Ended open' = refl

-- one that stands on the legs from the first on stands on the first
counted : (b : Bool) → 1 ≤ at_client.once_if b → b ≡ true
counted true more = refl
counted false more = absurd (omega (arith, more))

first_number : (total n : ℕ) → total ≤ 1 → nat_le 1 n ≡ true → nat_lt n (1 + total) ≡ true
    → n ≡ 1
first_number total n once least most = grind (arith, nat_tests, once, least, most)

only_first : (total n : ℕ) → total ≤ 1
    → 1 ≤ at_client.once_if (true && at_client.is_among 1 total n) → n ≡ 1
only_first total n once more =
    let parts = and_parts (nat_le 1 n) (nat_lt n (1 + total))
    (counted (at_client.is_among 1 total n) more) in
    first_number total n once parts.0 parts.1

-- ---- at a moment

-- what the other roles see to
pub record SeeToIt (numbers : Numbers) (moves : Moves) : Type 0 where
  pub client : NamesOuts numbers.client.connection (passages numbers moves).client
  pub opens : (n : ℕ) → OpensWhatCame n ((passages numbers moves).outs n)
  pub asked : (n : ℕ) → OpensAsAsked n ((passages numbers moves).outs n)
  pub refuses : (n : ℕ) → RefusesFor n (moves.outs n) ((passages numbers moves).outs n)
  -- an acknowledgement to an out proxy has the cookie of the channel of its leg
  pub acks : (n received available : ℕ) (cookie : Cookie)
      → Has (named.AckTo 3 received available cookie)
      (of_leg (os n) (passages numbers moves).server.put)
      → IsOutChannel n cookie (passages numbers moves).server.came

module _ (numbers : Numbers) (reader : ℕ → ℕ) (moves : Moves) (server : ServerLaws)
    (early : EarlyLaws) (lifetimes : HaveLifetimes numbers)
    (moment : IsMoment numbers reader moves) (see : SeeToIt numbers moves) where
  abbrev all : Passages
  all = passages numbers moves

  up_counts : (test : Named → Bool) (n : ℕ)
      → count_of test (of_leg (os n) all.server.came)
      ≤ count_of test (of_leg (os n) (all.outs n).put)
  up_counts test n =
      front_count test (of_leg (os n) all.server.came) (of_leg (os n) (all.outs n).put)
      (os_front reader all moment.now.joined n)

  -- OUT_R1/A4 that came at the server is for an OUT_R1/A3 that came at the proxy
  a3_came : (n : ℕ) → 1 ≤ count_of at_server.is_out_r1_a4 (of_leg (os n) all.server.came)
      → 1 ≤ count_of at_proxy.is_out_r1_a3 (from_client n (all.outs n))
  a3_came n some =
      let way = up_counts at_server.is_out_r1_a4 n in
      let same = same_counts at_server.is_out_r1_a4 at_proxy.is_out_r1_a4 same_a4
      (of_leg (os n) (all.outs n).put) in
      let opens = (see.opens n).successor in
      omega (arith, some, way, same, opens)

  -- CONN/A1 comes at the first proxy
  first_by_a1 : (n : ℕ) → 1 ≤ count_of at_proxy.is_conn_a1 (from_client n (all.outs n)) → n ≡ 1
  first_by_a1 n some =
      let way = front_count at_proxy.is_conn_a1 (from_client n (all.outs n))
      (of_leg (leg_at ClientOut n) all.client.put) (co_front reader all moment.now.joined n) in
      let same = same_counts at_proxy.is_conn_a1 at_client.is_conn_a1 same_a1
      (of_leg (leg_at ClientOut n) all.client.put) in
      let stands = see.client.begins_on (leg_at ClientOut n) in
      let once = see.client.once in
      only_first (at_client.total at_client.is_conn_a1 ClientOut all.client.put) n once
      (omega (arith, some, way, same, stands))

  -- and so does CONN/A2
  a1_came : 1 ≤ at_server.out_came at_server.is_conn_a2 all.server
      → 1 ≤ count_of at_proxy.is_conn_a1 (from_client 1 (all.outs 1))
  a1_came some =
      let on = some_leg at_server.is_conn_a2 OutServer all.server.came some in
      let came = here on.0 on.1 in
      subst (λ (k : ℕ). 1 ≤ count_of at_proxy.is_conn_a1 (from_client k (all.outs k)))
      (first_by_a1 on.0 came) came
    where
      here : (n : ℕ) → 1 ≤ count_of at_server.is_conn_a2 (of_leg (os n) all.server.came)
          → 1 ≤ count_of at_proxy.is_conn_a1 (from_client n (all.outs n))
      here n more =
          let way = up_counts at_server.is_conn_a2 n in
          let same = same_counts at_server.is_conn_a2 at_proxy.is_conn_a2 same_a2
          (of_leg (os n) (all.outs n).put) in
          let opens = (see.opens n).connection in
          omega (arith, more, way, same, opens)

  -- an OUT channel that began at the server began as the client asked
  begun_at : (n : ℕ) (cookie : Cookie) → IsOutChannel n cookie all.server.came
      → HasBegunOut cookie (from_client n (all.outs n))
  begun_at n cookie is =
      let put = front_one (OpensOut cookie) (of_leg (os n) all.server.came)
      (of_leg (os n) (all.outs n).put) (os_front reader all moment.now.joined n) is in
      let one = one_has (OpensOut cookie) (of_leg (os n) (all.outs n).put) put in
      begun_so cookie (from_client n (all.outs n)) one.0 one.1.1 (see.asked n one.0 one.1.0)

  module _ (n : ℕ) (m : Message)
      (next : Split (os n) all.server.put (of_leg (os n) (all.outs n).came) m) where
    abbrev p : Passage OutProxy
    p = all.outs n

    -- what came is what was put before
    came_counts : (test : Named → Bool) → test named.Ping ≡ false
        → count_of test (from_server n p) ≡ count_of test (of_leg (os n) next.before)
    came_counts test other =
        sym (ap (count_of test) next.came_before)
        ∙ read_all_count test other (of_leg (os n) next.before)

    stand : Stands (behind_all first_turn next.before) (os n, m)
    stand =
        stands numbers reader moves server early lifetimes moment n m next.before next.behind
        next.is

    -- CONN/C1 came, where this is the first channel
    c1_came : n ≡ 1 → 1 ≤ count_of at_server.is_conn_c1 (of_kind OutServer next.before)
        → 1 ≤ count_of at_proxy.is_conn_c1 (from_server n p)
    c1_came first some =
        let on = subst (λ (k : ℕ).
        1 ≤ count_of at_server.is_conn_c1 (of_leg (os k) next.before)) (sym first)
        (c1_on numbers reader moves server early lifetimes moment next.before
        ((os n, m) ∷ next.behind) next.is some) in
        let same = same_counts at_server.is_conn_c1 at_proxy.is_conn_c1 same_c1
        (of_leg (os n) next.before) in
        let came = came_counts at_proxy.is_conn_c1 refl in
        omega (arith, on, same, came)

    -- ---- where it writes: behind as many OUT_R1/A9 as there are channels before this one

    abbrev IsOn : Type 0
    IsOn = n ≡ suc (count_of at_server.is_out_r1_a9 (of_kind OutServer next.before))

    is_on : IsWritten m → IsOn
    is_on written =
        (server.begun numbers.window moves.server).in_turn n m next.before next.behind next.is
        written

    -- so the channel of this leg began
    a3_on : 2 ≤ n → IsWritten m → 1 ≤ count_of at_proxy.is_out_r1_a3 (from_client n p)
    a3_on later written =
        let on = is_on written in
        let order = server.order numbers.window moves.server in
        let legs = server.legs numbers.window moves.server in
        let now = one_behind numbers reader moves server early lifetimes moment
        at_server.is_out_r1_a9 n m next.before next.behind in
        let put = ap (λ (l : List OnLeg). count_of at_server.is_out_r1_a9 (of_kind OutServer l))
        next.is in
        let a = order.a9_behind_a8 in
        let b = order.a8_behind_a5 in
        let c = order.a5_behind_a4 in
        let one = legs.a4.each n later (omega (arith, later, on, now, put, a, b, c)) in
        a3_came n (omega (arith, one))

    abbrev IsNoC1 : Type 0
    IsNoC1 = count_of at_server.is_conn_c1 (m ∷ []) ≡ 0

    c1_went : IsFrame m → IsNoC1
        → 1 ≤ count_of at_server.is_conn_c1 (of_kind OutServer next.before)
    c1_went =
        c1_before numbers reader moves server early lifetimes moment n m next.before next.behind
        next.is

    -- OUT_R1/A3 or CONN/C1 came
    is_joined : IsWritten m → IsNoC1 → IsUnjoined n p → ⊥
    is_joined written other unjoined =
        by (count_of at_server.is_out_r1_a9 (of_kind OutServer next.before)) refl
      where
        by : (c : ℕ) → count_of at_server.is_out_r1_a9 (of_kind OutServer next.before) ≡ c → ⊥
        by zero e =
            let on = is_on written in
            let c1 = c1_came (omega (arith, on, e)) (c1_went (written_frame m written) other) in
            let none = unjoined.1 in
            omega (arith, c1, none)
        by (suc c) e =
            let on = is_on written in
            let a3 = a3_on (omega (arith, on, e)) written in
            let none = unjoined.0 in
            omega (arith, a3, none)

    -- this message on the leg, and a packet before it
    on_leg : of_leg (os n) all.server.put
        ≡ of_leg (os n) next.before ++ m ∷ of_leg (os n) next.behind
    on_leg = ap (of_leg (os n)) next.is ∙ here_in (os n) next.before m next.behind

    behind_part : (P : Message → Type 0) (a b : List Message) (x : Message)
        → of_leg (os n) next.before ≡ a ++ x ∷ b
        → ((after : List Message) → of_leg (os n) all.server.put ≡ a ++ x ∷ after
        → AllByRecursion P after) → P m
    behind_part P a b x e each =
        (all_behind P b (m ∷ of_leg (os n) next.behind)
        (each (b ++ m ∷ of_leg (os n) next.behind)
        (on_leg
        ∙ ap (λ (ms : List Message). ms ++ m ∷ of_leg (os n) next.behind) e
        ∙ append_assoc a (x ∷ b) (m ∷ of_leg (os n) next.behind)))).0

    -- no OUT_R1/A9 came
    carries : IsWritten m → IsNoC1 → CarriesNone n p → ⊥
    carries written other (inl unjoined) = is_joined written other unjoined
    carries written other (inr handed) =
        let came = came_counts at_proxy.is_out_r1_a9 refl in
        let found = part at_proxy.is_out_r1_a9 (of_leg (os n) next.before)
        (omega (arith, handed, came)) in
        written_or_passed m written
        (behind_part IsToOutProxy found.before found.behind (Packet named.OutR1A9)
        (found.is ∙ ap (λ (x : Named). found.before ++ Packet x ∷ found.behind)
        (a9_is found.named found.passes))
        (λ after. (server.begun numbers.window moves.server).behind_out_r1_a9 n found.before after))

    -- behind END/B1 no RPC PDU and no END/B1 comes
    follows_end : 1 ≤ count_of at_proxy.is_end_b1 (from_server n p) → MayFollowEnd m
    follows_end some =
        let came = came_counts at_proxy.is_end_b1 refl in
        let found = part at_proxy.is_end_b1 (of_leg (os n) next.before)
        (omega (arith, some, came)) in
        behind_part MayFollowEnd found.before found.behind (Packet named.EndB1)
        (found.is ∙ ap (λ (x : Named). found.before ++ Packet x ∷ found.behind)
        (end_is found.named found.passes))
        (λ after. (server.begun numbers.window moves.server).behind_end n found.before after)

    -- ---- what it copies

    copied : Copies numbers.window all.server.came (os n, m)
    copied =
        (all_behind (Copies numbers.window all.server.came) next.before
        ((os n, m) ∷ next.behind)
        (subst (AllByRecursion (Copies numbers.window all.server.came)) next.is
        (server.copies numbers.window moves.server))).0

    -- an acknowledgement to the proxy is for the channel that its client began
    ack_begun : (to received available : ℕ) (cookie : Cookie) → to ≡ 3
        → m ≡ Packet (named.AckTo to received available cookie)
        → HasBegunOut cookie (from_client n p)
    ack_begun to received available cookie is e =
        begun_at n cookie (see.acks n received available cookie
        (subst (λ (k : ℕ). Has (named.AckTo k received available cookie)
        (of_leg (os n) all.server.put)) is
        (subst (Has (named.AckTo to received available cookie)) (sym here)
        (has_in (named.AckTo to received available cookie) (of_leg (os n) next.before)
        (of_leg (os n) next.behind)))))
      where
        here : of_leg (os n) all.server.put
            ≡ of_leg (os n) next.before
            ++ Packet (named.AckTo to received available cookie) ∷ of_leg (os n) next.behind
        here =
            on_leg
            ∙ ap (λ (x : Message). of_leg (os n) next.before ++ x ∷ of_leg (os n) next.behind) e

    ack_joined : (to received available : ℕ) (cookie : Cookie) → to ≡ 3
        → m ≡ Packet (named.AckTo to received available cookie) → IsUnjoined n p → ⊥
    ack_joined to received available cookie is e unjoined =
        by (begun_counts cookie (from_client n p) (ack_begun to received available cookie is e))
      where
        by : (1 ≤ count_of at_proxy.is_conn_a1 (from_client n p))
            ⊎ (1 ≤ count_of at_proxy.is_out_r1_a3 (from_client n p)) → ⊥
        by (inl a1) =
            let c1 = c1_came (first_by_a1 n a1) (c1_went (subst IsFrame (sym e) tt)
            (ap (λ (x : Message). count_of at_server.is_conn_c1 (x ∷ [])) e)) in
            let none = unjoined.1 in
            omega (arith, c1, none)
        by (inr a3) = let none = unjoined.0 in omega (arith, a3, none)

    -- ---- CONN/C1

    c1_expected : (packet : Named) → m ≡ Packet packet → at_server.is_conn_c1 packet ≡ true
        → IsWritten m
        → (count_of at_proxy.is_conn_a1 (from_client n p) ≡ 0)
        ⊎ (1 ≤ count_of at_proxy.is_conn_c1 (from_server n p)) → ⊥
    c1_expected packet e is written reason = by reason
      where
        some : 1 ≤ count_of at_server.is_conn_c1 (m ∷ [])
        some =
            let same = ap (λ (x : Message). count_of at_server.is_conn_c1 (x ∷ [])) e in
            let one = ap {B = ℕ} (λ (t : Bool). if t then 1 else 0) is in
            omega (arith, same, one)

        first : n ≡ 1
        first =
            c1_on_first numbers reader moves server early lifetimes moment n m next.before
            next.behind next.is some written

        by : (count_of at_proxy.is_conn_a1 (from_client n p) ≡ 0)
            ⊎ (1 ≤ count_of at_proxy.is_conn_c1 (from_server n p)) → ⊥
        by (inl none) =
            let opens = server.opens numbers.window moves.server in
            let put = ap (λ (l : List OnLeg). count_of at_server.is_conn_c1 (of_kind OutServer l))
            next.is in
            let both = one_behind numbers reader moves server early lifetimes moment
            at_server.is_conn_c1 n m next.before next.behind in
            let due = opens.conn_c1 in
            let a2 = opened_by_a2 all.server.role.stage (omega (arith, due, put, both, some)) in
            let came = opens.conn_a2 in
            let a1 = subst (λ (k : ℕ).
            1 ≤ count_of at_proxy.is_conn_a1 (from_client k (all.outs k)))
            (sym first) (a1_came (omega (arith, came, a2))) in
            omega (arith, a1, none)
        by (inr again) =
            let came = came_counts at_proxy.is_conn_c1 refl in
            let same = same_counts at_server.is_conn_c1 at_proxy.is_conn_c1 same_c1
            (of_leg (os n) next.before) in
            let legs = leg_counts at_server.is_conn_c1 OutServer n next.before in
            let none = none_before_c1 numbers reader moves server early lifetimes moment n m
            next.before next.behind next.is some in
            omega (arith, again, came, same, legs, none)

    -- ---- packets

    module _ (packet : Named) (e : m ≡ Packet packet) where
      stands_as : PacketStands (behind_all first_turn next.before) (os n) packet
      stands_as =
          subst (λ (x : Message). Stands (behind_all first_turn next.before) (os n, x)) e stand

      copies_as : Copies numbers.window all.server.came (os n, Packet packet)
      copies_as =
          subst (λ (x : Message). Copies numbers.window all.server.came (os n, x)) e copied

      written_as : at_server.is_ack_to 3 packet ≡ false → IsWritten m
      written_as other = subst IsWritten (sym e) other

      no_c1 : at_server.is_conn_c1 packet ≡ false → IsNoC1
      no_c1 other =
          ap (λ (x : Message). count_of at_server.is_conn_c1 (x ∷ [])) e
          ∙ ap (λ (t : Bool). if t then 1 else 0) other

      passes : at_server.is_ack_to 3 packet ≡ false → (to : ℕ) → to ≡ 0
          → at_server.is_conn_c1 packet ≡ false → PassesNone n p to → ⊥
      passes other to is no_conn_c1 (inl apart) = apart is
      passes other to is no_conn_c1 (inr none) =
          carries (written_as other) (no_c1 no_conn_c1) none

    expected : (packet : Named) → m ≡ Packet packet → UnexpectedFromServer n p packet → ⊥
    expected (named.ConnC1 version window timeout) e reason =
        c1_expected (named.ConnC1 version window timeout) e refl
        (written_as (named.ConnC1 version window timeout) e refl) reason
    expected (named.AckTo to received available cookie) e (inl own) =
        ack_joined to received available cookie own.0 e own.1
    expected (named.AckTo to received available cookie) e (inr other) =
        by (copies_as packet e).0
      where
        packet : Named
        packet = named.AckTo to received available cookie

        by : (to ≡ 0) ⊎ (to ≡ 3) → ⊥
        by (inl client) = passes packet e (test_other to 3 other.0) to client refl other.1
        by (inr proxy) = other.0 proxy
    expected (named.InR1A3 to version window timeout) e reason =
        passes (named.InR1A3 to version window timeout) e refl to
        (copies_as (named.InR1A3 to version window timeout) e).0.0 refl reason
    expected (named.InR2A3 to) e reason =
        passes (named.InR2A3 to) e refl to (copies_as (named.InR2A3 to) e) refl reason
    expected (named.OutR1A1 to) e reason =
        passes (named.OutR1A1 to) e refl to (copies_as (named.OutR1A1 to) e) refl reason
    expected (named.OutR1A5 to version timeout) e reason =
        passes (named.OutR1A5 to version timeout) e refl to
        (copies_as (named.OutR1A5 to version timeout) e).0.0 refl reason
    expected named.OutR1A9 e reason =
        carries (written_as named.OutR1A9 e refl) (no_c1 named.OutR1A9 e refl) reason
    expected named.EndB1 e (inl none) =
        carries (written_as named.EndB1 e refl) (no_c1 named.EndB1 e refl) none
    expected named.EndB1 e (inr some) = subst MayFollowEnd e (follows_end some)
    expected (named.ConnB3 size version) e reason =
        let kind = stands_as (named.ConnB3 size version) e in absurd cc
    expected named.InR1B1 e reason = let kind = stands_as named.InR1B1 e in absurd cc
    expected (named.InR1B2 size) e reason = let kind = stands_as (named.InR1B2 size) e in absurd cc
    expected (named.Ack received window cookie) e reason =
        let kind = stands_as (named.Ack received window cookie) e in absurd cc
    expected packet e reason = stands_as packet e

    cookie_expected : (packet : Named) (wanted got : Cookie) → m ≡ Packet packet
        → MismatchFromServer n p wanted got packet → ⊥
    cookie_expected (named.AckTo to received available cookie) wanted got e reason =
        reason.3 (subst (λ (c : Cookie). HasBegunOut c (from_client n p)) (sym reason.1)
        (ack_begun to received available cookie reason.0 e))
    cookie_expected packet wanted got e reason = reason

    -- ---- RPC PDUs

    pdu_expected : (bytes : List ℕ) → m ≡ Pdu bytes → TakesNone n p → ⊥
    pdu_expected bytes e (inl none) =
        carries (subst IsWritten (sym e) tt)
        (ap (λ (x : Message). count_of at_server.is_conn_c1 (x ∷ [])) e) none
    pdu_expected bytes e (inr some) = subst MayFollowEnd e (follows_end some)

  -- ---- what is refused

  ahead : (n : ℕ) (m : Message)
      → IsAhead (all.outs n) (os n) (all_read_of (of_leg (os n) all.server.put)) m
      → Split (os n) all.server.put (of_leg (os n) (all.outs n).came) m
  ahead n m front =
      split (os n) m all.server.put (of_leg (os n) (all.outs n).came) front.0
      (sym front.1 ∙ append_assoc (of_leg (os n) (all.outs n).came) (m ∷ []) front.0)

  pub expects : (n : ℕ)
      → Expects out_rules (all.outs n) (os n) (all_read_of (of_leg (os n) all.server.put))
  expects n = record {
    packet = λ count packet why used up tells next refuses amiss.
        by_packet count packet why up tells (ahead n (Packet packet) next) refuses amiss;
    pdu = λ count bytes why used up next refuses amiss.
        by_pdu count bytes why up (ahead n (Pdu bytes) next) refuses amiss;
  }
    where
      by_packet : (count : Count) (packet : Named) (why : Refused)
          → out_rules.was_up (all.outs n).role (os n) ≡ true
          → Tells count (packets (of_leg (os n) (all.outs n).came))
          → Split (os n) all.server.put (of_leg (os n) (all.outs n).came) (Packet packet)
          → (out_rules.packet (all.outs n).role (os n) count packet).1 ≡ Err why → IsAmiss why
          → ⊥
      by_packet count packet refused.Unexpected up tells next refuses amiss =
          expected n (Packet packet) next packet refl
          ((see.refuses n).packet (os n) count packet up tells refuses)
      by_packet count packet (refused.Cookie wanted got) up tells next refuses amiss =
          cookie_expected n (Packet packet) next packet wanted got refl
          ((see.refuses n).cookie (os n) count packet wanted got refuses)
      by_packet count packet why up tells next refuses amiss = amiss

      by_pdu : (count : Count) (bytes : List ℕ) (why : Refused)
          → out_rules.was_up (all.outs n).role (os n) ≡ true
          → Split (os n) all.server.put (of_leg (os n) (all.outs n).came) (Pdu bytes)
          → (out_rules.pdu (all.outs n).role (os n) count bytes).1 ≡ Err why → IsAmiss why → ⊥
      by_pdu count bytes refused.Unexpected up next refuses amiss =
          pdu_expected n (Pdu bytes) next bytes refl
          ((see.refuses n).pdu (os n) count bytes up refuses)
      by_pdu count bytes (refused.Cookie wanted got) up next refuses amiss =
          (see.refuses n).pdu_cookie (os n) count bytes wanted got refuses
      by_pdu count bytes why up next refuses amiss = amiss
