-- what comes next from an in proxy is what the server expects, but for packets that announce a
-- successor of an IN channel, or hand over to it
use Rattle.law_order.proofs.Vocabulary.{◌≡◌, ◌⊎◌, ℕ, suc, ◌+◌, ◌≤◌, IsTrue, List, [], ◌∷◌, ◌++◌, Err, inl, inr, sym, ◌∙◌, subst, arith, IsPrefix}
use Rattle.rh_shell.specs.declared.answers.Refused.TheVariants as refused
use Rattle.law_moves.proofs.Vocabulary.{Cookie, Named, AckTo, ConnB1, ConnB2, EndA2, InR1A2, InR1A6, InR2A2, OutR1A8, InServer, Count, Message, Pdu, Packet, OnLeg, Passage, is_in_use, of_leg, all_read_of, packets, Tells, count_of, HasOne, of_kind}
use Rattle.law_moves.proofs.Lemmas.{one_so}
use Rattle.law_role_inproxy.proofs.Vocabulary.{InProxy, CameFirst, HasPdu, IsPlainPacket, IsStream, PutsInOrder, EndsLast, MayFollowEnd, SendsWhereTold}
use Rattle.law_role_inproxy.specs.Putting.Puts as puts
use Rattle.law_role_inproxy.specs.Putting.Standing as standing
use Rattle.law_role_client.proofs.Vocabulary.{ci, co}
use Rattle.law_role_server.proofs.Vocabulary.{rules as server_rules, Server, in_came, out_put}
use Rattle.law_role_server.specs.Counted.Counting as at_server
use Rattle.law_role_server_rows.specs.Refusing.Refusing.{MismatchIn, RefusesFor, UnexpectedIn}
use Rattle.law_peers_moments.proofs.Joining.{in_front, is_back, is_front}
use Rattle.law_peers_moments.proofs.Read.{front_count, front_one}
use Rattle.law_peers_moments.specs.Moments.{IsMoment, Moves, Numbers, client_behind, in_behind, passages, server_behind}
use Rattle.law_role_server_in.specs.Refusing.{IsUnopened, RefusesInFor, UnexpectedEndA2, UnexpectedPdu, came_at, first_at}
use Rattle.law_role_server_in.specs.Refusing as in_rows
use Rattle.law_peers_expects.proofs.InProxyExpects.Fronts.{same_counts}
use Rattle.law_peers_in_channels.proofs.ServerExpects.Confirmed.{Confirming, next_is, one_asked}
use Rattle.law_peers_in_channels.proofs.ServerExpects.Confirms.{is_leg}
use Rattle.law_peers_in_channels.proofs.ServerExpects.Connections.{Asks, Connecting, all_same, channel_is, connection_is}
use Rattle.law_peers_in_channels.proofs.ServerExpects.Ended.{none_ended}
use Rattle.law_peers_in_channels.proofs.ServerExpects.FirstIn.{IsConnB1, IsConnB2, conn_b1_first, passes_conn_b2}
use Rattle.law_peers_in_channels.proofs.ServerExpects.Logs.{some_counted, some_leg}
use Rattle.law_peers_in_channels.proofs.ServerExpects.Moment.{OpensOuts}
use Rattle.law_peers_in_channels.proofs.ServerExpects.NoCookie.{no_cookie}
use Rattle.law_peers_in_channels.proofs.ServerExpects.OpenFirst.{OpensByServer, no_pdu_put, pdu_front, pdu_stands}
use Rattle.law_peers_in_channels.proofs.ServerExpects.Refused.{not_other, nothing_before, one_before}
use Rattle.law_peers_in_channels.proofs.ServerExpects.Streams.{IsFirstMessage, IsLaterMessage, came_before, conn_b2_asked, connects_conn_b1, first_begins, first_one, next_message, next_of}
use Rattle.law_peers_in_channels.proofs.PdusInTurn.Ahead.{same_conn_b3 as conn_b3, same_in_r1_b2 as in_r1_b2}
use Rattle.law_peers_in_channels.specs.ServerExpects.Expected.{AnnouncesNone, ExpectsPdus, ExpectsThose}

-- ---- packets

conn_b1_asks : (connection channel group : Cookie) (m : Named)
    → puts.Connects connection channel group m → Asks connection m
conn_b1_asks connection channel group
    (ConnB1 version of own lifetime keepalive in_group) h = sym h.0
conn_b1_asks connection channel group m h = absurd h

-- ---- what else is known of a moment

pub record ExpectingIns (numbers : Numbers) (moves : Moves) : Type 0 where
  pub refuses : RefusesFor (server_behind numbers moves).passage
  pub refuses_in : RefusesInFor (server_behind numbers moves).passage
  pub puts : (m : ℕ) → PutsInOrder (numbers.ins m) (in_behind numbers moves m)
  pub sends : (m : ℕ) → SendsWhereTold (numbers.ins m) (in_behind numbers moves m)
  pub ends : (m : ℕ)
      → EndsLast (of_leg (is_leg (numbers.ins m).number) (in_behind numbers moves m).put)
  pub number : (m : ℕ) → (numbers.ins m).number ≡ m
  pub opens : OpensByServer (passages numbers moves)

module _ (numbers : Numbers) (reader : ℕ → ℕ) (moves : Moves)
    (moment : IsMoment numbers reader moves) (opens : OpensOuts numbers moves)
    (ins : Connecting numbers moves) (confirming : Confirming numbers)
    (law : ExpectingIns numbers moves) where
  abbrev server : Passage Server
  server = (server_behind numbers moves).passage

  abbrev proxy : ℕ → Passage InProxy
  proxy n = in_behind numbers moves n

  abbrev client_put : List OnLeg
  client_put = (client_behind numbers moves).passage.put

  stream : (n : ℕ) → IsStream (numbers.ins n) (proxy n).came (of_leg (is_leg n) (proxy n).put)
  stream n =
      subst (λ (k : ℕ). IsStream (numbers.ins n) (proxy n).came (of_leg (is_leg k) (proxy n).put))
      (law.number n) (law.puts n)

  -- what came first at an in proxy the client put
  asked_front : (P : Named → Type 0) (n : ℕ)
      → HasOne P (of_leg (ci (numbers.ins n).number) (proxy n).came)
      → HasOne P (of_leg (ci n) client_put)
  asked_front P n has =
      front_one P (of_leg (ci n) (proxy n).came) (of_leg (ci n) client_put)
      (in_front reader (passages numbers moves) moment.now.joined n n)
      (subst (λ (k : ℕ). HasOne P (of_leg (ci k) (proxy n).came)) (law.number n) has)

  -- ---- CONN/B2

  conn_b1_alone : (n : ℕ) → HasOne IsConnB1 (of_leg (ci n) client_put) → n ≡ 1
  conn_b1_alone =
      conn_b1_first numbers.client.connection (client_behind numbers moves).passage ins.client

  conn_b2_first : (n : ℕ) → HasOne IsConnB2 (of_leg (is_leg n) (proxy n).put) → n ≡ 1
  conn_b2_first n has =
      conn_b1_alone n
      (asked_front IsConnB1 n
      (conn_b2_asked (numbers.ins n) (proxy n).came (of_leg (is_leg n) (proxy n).put) (stream n)
      has))

  conn_b2_came_first : (n : ℕ) → HasOne IsConnB2 (of_leg (is_leg n) server.came) → n ≡ 1
  conn_b2_came_first n has =
      conn_b2_first n
      (front_one IsConnB2 (of_leg (is_leg n) server.came) (of_leg (is_leg n) (proxy n).put)
      (is_front reader (passages numbers moves) moment.now.joined n) has)

  module _ (n : ℕ) where
    abbrev came : List Message
    came = of_leg (is_leg n) server.came

    abbrev put : List Message
    put = of_leg (is_leg n) (proxy n).put

    abbrev IsNew : Message → Type 0
    IsNew m = IsFirstMessage (numbers.ins n) (proxy n).came came m

    abbrev IsLater : Message → Type 0
    IsLater m = IsLaterMessage (numbers.ins n) (proxy n).came came m

    abbrev IsAhead : Message → Type 0
    IsAhead m = IsPrefix (came ++ m ∷ []) (all_read_of put)

    conn_b2_alone : came ≡ [] → n ≡ 1 → 1 ≤ in_came at_server.is_conn_b2 server → ⊥
    conn_b2_alone none e some =
        let leg = some_leg IsConnB2 InServer server.came
        (some_counted IsConnB2 at_server.is_conn_b2 passes_conn_b2 (of_kind InServer server.came)
        some) in
        subst (HasOne IsConnB2) none
        (subst (λ (k : ℕ). HasOne IsConnB2 (of_leg (is_leg k) server.came))
        (conn_b2_came_first leg.0 leg.1 ∙ sym e) leg.1)

    -- it names the client's connection
    conn_b2_connection : (connection channel group : Cookie)
        → CameFirst (numbers.ins n).number (puts.Connects connection channel group) (proxy n).came
        → numbers.client.connection ≡ connection
    conn_b2_connection connection channel group first =
        all_same connection numbers.client.connection (ci n) [] client_put ins.client.names
        (asked_front (Asks connection) n
        (one_so (puts.Connects connection channel group) (Asks connection)
        (conn_b1_asks connection channel group)
        (of_leg (ci (numbers.ins n).number) (proxy n).came)
        (first_one (puts.Connects connection channel group)
        (of_leg (ci (numbers.ins n).number) (proxy n).came) first)))

    conn_b2_number : (connection channel group : Cookie)
        → CameFirst (numbers.ins n).number (puts.Connects connection channel group) (proxy n).came
        → n ≡ 1
    conn_b2_number connection channel group first =
        conn_b1_alone n
        (one_so (puts.Connects connection channel group) IsConnB1
        (connects_conn_b1 connection channel group) (of_leg (ci n) client_put)
        (asked_front (puts.Connects connection channel group) n
        (first_one (puts.Connects connection channel group)
        (of_leg (ci (numbers.ins n).number) (proxy n).came) first)))

    -- ---- behind the first packet

    -- a channel began on the leg
    began : (m : Message) → IsLater m → first_at server n ≡ 0 → ⊥
    began m later none =
        let some = subst (λ (ms : List Message).
        1 ≤ count_of at_server.is_conn_b2 ms + count_of at_server.is_in_r1_a2 ms)
        (sym later.stands)
        (first_begins (numbers.ins n) (proxy n).came later.packet later.rest later.first) in
        omega (arith, some, none)

    -- it was not left
    not_left : (m : Message) → IsLater m → 1 ≤ came_at at_server.is_in_r1_a6 server n → ⊥
    not_left m later left = let stays = later.stays in omega (arith, stays, left)

    -- nor ended, before what may not follow END/A2
    not_ended : (m : Message) → (MayFollowEnd m → ⊥) → IsAhead m
        → 1 ≤ came_at at_server.is_end_a2 server n → ⊥
    not_ended m barred ahead some =
        let next = next_of came m put ahead in
        let most = came_before at_server.is_end_a2 came put m next in
        let ends = subst (λ (k : ℕ). EndsLast (of_leg (is_leg k) (proxy n).put)) (law.number n)
        (law.ends n) in
        let none = none_ended m next.later barred next.before
        (subst EndsLast next.stands ends) in
        omega (arith, most, none, some)

    -- ---- why packets are unexpected

    abbrev Unexpected : Named → Type 0
    Unexpected EndA2 = UnexpectedEndA2 server n
    Unexpected m = UnexpectedIn server (is_leg n) m

    unexpected_for : (count : Count) (m : Named)
        → IsTrue (is_in_use server_rules server.role (is_leg n)) → Tells count (packets came)
        → (server_rules.packet server.role (is_leg n) count m).1 ≡ Err refused.Unexpected
        → Unexpected m
    unexpected_for count EndA2 used tells refuses =
        law.refuses_in.end_a2 n count used tells refuses
    unexpected_for count m used tells refuses =
        law.refuses.unexpected (is_leg n) count m used tells refuses

    -- ---- none is unexpected

    new_unexpected : (m : Named) → AnnouncesNone m → IsNew (Packet m) → Unexpected m → ⊥
    new_unexpected (ConnB2 version connection channel window timeout group address padding) is new
        u = by u
      where
        number : n ≡ 1
        number = conn_b2_number connection channel group new.first.4

        by : UnexpectedIn server (is_leg n)
            (ConnB2 version connection channel window timeout group address padding) → ⊥
        by (inl later) = nothing_before came new.none later
        by (inr (inl elsewhere)) = elsewhere number
        by (inr (inr some)) = conn_b2_alone new.none number some
    new_unexpected (InR1A2 version connection predecessor successor window timeout) is new u = is
    new_unexpected m is new u = absurd new.first

    later_unexpected : (m : Named) → AnnouncesNone m → IsAhead (Packet m) → IsLater (Packet m)
        → Unexpected m → ⊥
    later_unexpected (AckTo to received window cookie) is ahead later u = by u later.behind
      where
        by : UnexpectedIn server (is_leg n) (AckTo to received window cookie)
            → IsPlainPacket (proxy n).came (AckTo to received window cookie) → ⊥
        by (inl first) plain = one_before came later.packet later.rest later.stands first
        by (inr elsewhere) (inl own) = elsewhere.0 own.0
        by (inr elsewhere) (inr other) = elsewhere.1 other.0
    later_unexpected (OutR1A8 to successor) is ahead later u = by u
      where
        by : UnexpectedIn server (is_leg n) (OutR1A8 to successor) → ⊥
        by (inl first) = one_before came later.packet later.rest later.stands first
        by (inr (inl elsewhere)) = elsewhere later.behind.0
        by (inr (inr answered)) =
            let asked = one_asked numbers reader moves moment confirming n to successor ahead in
            omega (arith, asked, answered)
    later_unexpected EndA2 is ahead later u = by u
      where
        by : UnexpectedEndA2 server n → ⊥
        by (inl first) = one_before came later.packet later.rest later.stands first
        by (inr (inl none)) = began (Packet EndA2) later none
        by (inr (inr (inl left))) = not_left (Packet EndA2) later left
        by (inr (inr (inr ended))) = not_ended (Packet EndA2) (λ may. may) ahead ended
    later_unexpected (InR2A2 successor) is ahead later u = is
    later_unexpected (InR1A6 successor) is ahead later u = is
    later_unexpected m is ahead later u = absurd later.behind

    -- ---- nor of another cookie

    module _ (expected got : Cookie) where
      new_mismatch : (m : Named) → AnnouncesNone m → IsNew (Packet m)
          → MismatchIn server m expected got → ⊥
      new_mismatch (ConnB2 version connection channel window timeout group address padding) is new
          bad =
          not_other connection expected got
          (sym (connection_is numbers reader moves moment.now.joined opens ins expected
          (inl bad.1)) ∙ conn_b2_connection connection channel group new.first.4) bad.0
      new_mismatch (InR1A2 version connection predecessor successor window timeout) is new bad = is
      new_mismatch m is new bad = absurd new.first

      later_mismatch : (m : Named) → AnnouncesNone m → IsAhead (Packet m) → IsLater (Packet m)
          → MismatchIn server m expected got → ⊥
      later_mismatch (ConnB2 version connection channel window timeout group address padding) is
          ahead later bad = later.behind
      later_mismatch (InR1A2 version connection predecessor successor window timeout) is ahead
          later bad = is
      later_mismatch (InR1A6 successor) is ahead later bad = is
      later_mismatch (OutR1A8 to successor) is ahead later bad =
          not_other successor expected got
          (moment.now.cookies.one (co (suc (suc (out_put at_server.is_out_r1_a9 server)))) expected
          successor
          (channel_is numbers reader moves moment.now.joined opens ins
          (suc (suc (out_put at_server.is_out_r1_a9 server))) expected bad.1)
          (next_is numbers reader moves moment confirming n to successor ahead)) bad.0
      later_mismatch m is ahead later bad = bad

    -- ---- RPC PDUs

    -- the window was told where one was put
    not_untold : (bytes : List ℕ) → IsAhead (Pdu bytes) → IsUnopened server n → ⊥
    not_untold bytes ahead unopened =
        let next = next_of came (Pdu bytes) put ahead in
        let has = subst (HasPdu bytes) (sym next.stands) (pdu_stands bytes next.before next.later)
        in
        let told = subst (λ (k : ℕ). HasPdu bytes (of_leg (is_leg k) (proxy n).put)
        → 1 ≤ count_of standing.is_conn_b3 (of_leg (is_leg k) (proxy n).came)
        + count_of standing.is_in_r1_b2 (of_leg (is_leg k) (proxy n).came)) (law.number n)
        (law.sends n bytes) has in
        let back = is_back reader (passages numbers moves) moment.now.joined n in
        let heard : List Message = of_leg (is_leg n) (proxy n).came in
        let answers : List Message = of_leg (is_leg n) server.put in
        let conn = front_count standing.is_conn_b3 heard answers back in
        let replaced = front_count standing.is_in_r1_b2 heard answers back in
        let same_conn = same_counts standing.is_conn_b3 at_server.is_conn_b3 conn_b3 answers in
        let same_replaced = same_counts standing.is_in_r1_b2 in_rows.is_in_r1_b2 in_r1_b2 answers in
        let none = unopened.untold in
        omega (arith, told, conn, replaced, same_conn, same_replaced, none)

    pdu_unexpected : (bytes : List ℕ) → IsAhead (Pdu bytes)
        → IsNew (Pdu bytes) ⊎ IsLater (Pdu bytes) → UnexpectedPdu server n → ⊥
    pdu_unexpected bytes ahead (inl new) u = new.first
    pdu_unexpected bytes ahead (inr later) u = by u
      where
        by : UnexpectedPdu server n → ⊥
        by (inl opening) =
            let k = later.behind.0 in
            no_pdu_put reader (passages numbers moves) moment.now.joined law.opens opening k bytes
            (pdu_front bytes (of_leg (ci k) (proxy n).came) (of_leg (ci k) client_put)
            (in_front reader (passages numbers moves) moment.now.joined n k) later.behind.1)
        by (inr (inl (inl none))) = began (Pdu bytes) later none
        by (inr (inl (inr (inl unopened)))) = not_untold bytes ahead unopened
        by (inr (inl (inr (inr left)))) = not_left (Pdu bytes) later left
        by (inr (inr ended)) = not_ended (Pdu bytes) (λ may. may) ahead ended

    -- ---- what the server refuses

    step : (m : Message) → IsAhead m → IsNew m ⊎ IsLater m
    step m ahead =
        next_message (numbers.ins n) (proxy n).came came m put (stream n) (next_of came m put ahead)

    unexpected : (m : Named) → AnnouncesNone m → IsAhead (Packet m)
        → IsNew (Packet m) ⊎ IsLater (Packet m) → Unexpected m → ⊥
    unexpected m is ahead (inl new) = new_unexpected m is new
    unexpected m is ahead (inr later) = later_unexpected m is ahead later

    mismatch : (expected got : Cookie) (m : Named) → AnnouncesNone m → IsAhead (Packet m)
        → IsNew (Packet m) ⊎ IsLater (Packet m) → MismatchIn server m expected got → ⊥
    mismatch expected got m is ahead (inl new) = new_mismatch expected got m is new
    mismatch expected got m is ahead (inr later) = later_mismatch expected got m is ahead later

    pub expects_those : ExpectsThose AnnouncesNone server_rules server (is_leg n)
        (all_read_of put)
    expects_those count m refused.Unexpected is used tells ahead refuses amiss =
        unexpected m is ahead (step (Packet m) ahead) (unexpected_for count m used tells refuses)
    expects_those count m (refused.Cookie expected got) is used tells ahead refuses amiss =
        mismatch expected got m is ahead (step (Packet m) ahead)
        (law.refuses.mismatch (is_leg n) count m expected got refuses)
    expects_those count m why is used tells ahead refuses amiss = absurd amiss

    pub expects_pdus : ExpectsPdus server_rules server (is_leg n) (all_read_of put)
    expects_pdus count bytes refused.Unexpected used up ahead refuses amiss =
        pdu_unexpected bytes ahead (step (Pdu bytes) ahead)
        (law.refuses_in.pdu n count bytes used refuses)
    expects_pdus count bytes (refused.Cookie expected got) used up ahead refuses amiss =
        no_cookie server.role bytes expected got n refuses
    expects_pdus count bytes why used up ahead refuses amiss = absurd amiss
