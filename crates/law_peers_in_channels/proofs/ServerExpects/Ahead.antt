-- what comes next from an out proxy is what the server expects
use Rattle.law_order.proofs.Vocabulary.{◌≡◌, ◌⊎◌, ℕ, suc, ◌+◌, ◌<◌, ◌≤◌, nat_lt, Bool, true, false, IsTrue, List, [], ◌∷◌, ◌++◌, Err, inl, inr, refl, sym, ap, ◌∙◌, subst, arith, nat_tests, IsPrefix}
use Rattle.rh_sig.specs.declared.named.Named.TheVariants.{Ack}
use Rattle.rh_shell.specs.declared.answers.Refused.TheVariants as refused
use Rattle.law_moves.proofs.Vocabulary.{Cookie, Named, ConnA2, OutR1A3, OutR1A4, OutServer, Count, Refused, Message, Packet, Pdu, Passage, is_in_use, of_leg, all_read_of, packets, Tells, count_of, HasOne, of_kind, HasComeUp}
use Rattle.law_role_client.proofs.Vocabulary.{co, is_among, is_out_r1_a3, once_if, ReplacesOuts, out_asked}
use Rattle.law_role_server.proofs.Vocabulary.{rules as server_rules, Server, is_conn_a2, is_out_r1_a1, is_out_r1_a4, is_out_r1_a9, out_came, out_put, AreInTurn, ArePutInTurn}
use Rattle.law_role_outproxy.proofs.Vocabulary.{os_leg, NamesSuccessor, OpensServer}
use Rattle.law_role_client_rows.specs.Putting.{OpenedBefore}
use Rattle.law_role_server_rows.specs.Refusing.Cookies.{IsOutChannel, OpensOut}
use Rattle.law_role_server_rows.specs.Refusing.Refusing.{MismatchOut, RefusesFor, UnexpectedOut}
use Rattle.law_peers_moments.specs.GoingRound.{GoRound}
use Rattle.law_peers_moments.specs.Expecting.{Expects, IsAmiss}
use Rattle.law_peers_moments.specs.Moments.{AreJoined, HaveCookies, Moves, Numbers, client_behind, out_behind, passages, server_behind}
use Rattle.law_peers_in_channels.proofs.ServerExpects.Connections.{Connecting, channel_is, connection_is}
use Rattle.law_peers_in_channels.proofs.ServerExpects.Logs.{counted_some, some_counted, some_leg}
use Rattle.law_peers_in_channels.proofs.ServerExpects.Moment.{IsConnA2, OpensOuts, passes_conn_a2}
use Rattle.law_peers_in_channels.proofs.ServerExpects.Refused.{not_other, nothing_before, one_before}
use Rattle.law_peers_in_channels.proofs.ServerExpects.Opened.{IsFirstPacket, IsLaterPacket, IsNext, next_packet, no_acks, no_pdu}
use Rattle.law_peers_in_channels.proofs.ServerExpects.Moment as at

-- ---- numbers

among : (n k count : ℕ) → count ≡ once_if (is_among 2 k n) → 1 ≤ count
    → (2 ≤ n) × (n < 2 + k)
among n k count e some =
    (grind (arith, nat_tests, e, some), grind (arith, nat_tests, e, some))

-- it is not among those from 2 on
beyond : (n k : ℕ) → 2 ≤ n → (n < 2 + k → ⊥) → 2 + k ≤ n
beyond n k least none = by (nat_lt n (2 + k)) refl
  where
    by : (b : Bool) → nat_lt n (2 + k) ≡ b → 2 + k ≤ n
    by true e = absurd (none (grind (arith, nat_tests, e)))
    by false e = grind (arith, nat_tests, e)

-- ---- packets

names_out_r1_a3 : (connection predecessor successor : Cookie) (m : Named)
    → NamesSuccessor connection predecessor successor m → is_out_r1_a3 m ≡ true
names_out_r1_a3 connection predecessor successor
    (OutR1A3 version other before own window) h = refl
names_out_r1_a3 connection predecessor successor m h = absurd h

-- ---- what else is known of a moment

pub record Expecting (numbers : Numbers) (moves : Moves) : Type 0 where
  pub refuses : RefusesFor (server_behind numbers moves).passage
  pub in_turn : AreInTurn (server_behind numbers moves).passage
  pub on_legs : ArePutInTurn (server_behind numbers moves).passage
  pub asks : ReplacesOuts (client_behind numbers moves).passage
  pub round : GoRound (client_behind numbers moves).passage (server_behind numbers moves).passage
  pub cookies : HaveCookies moves.client
  pub late : OpenedBefore numbers.client moves.client (co 1) → ⊥

module _ (numbers : Numbers) (reader : ℕ → ℕ) (moves : Moves)
    (joined : AreJoined reader (passages numbers moves)) (opens : OpensOuts numbers moves)
    (ins : Connecting numbers moves) (law : Expecting numbers moves) (n : ℕ) where
  abbrev server : Passage Server
  server = (server_behind numbers moves).passage

  abbrev came : List Message
  came = at.came_on numbers reader moves joined opens n

  abbrev asked : List Message
  asked = at.asked_on numbers reader moves joined opens n

  abbrev IsFirst : Named → Type 0
  IsFirst m = IsFirstPacket (numbers.outs n) asked came m

  abbrev IsLater : Named → Type 0
  IsLater m = IsLaterPacket (numbers.outs n) asked came m

  -- ---- CONN/A2

  conn_a2_alone : came ≡ [] → n ≡ 1 → 1 ≤ out_came is_conn_a2 server → ⊥
  conn_a2_alone none e some =
      let leg = some_leg IsConnA2 OutServer server.came
      (some_counted IsConnA2 is_conn_a2 passes_conn_a2 (of_kind OutServer server.came) some) in
      let first = at.conn_a2_on_first numbers reader moves joined opens leg.0
      (at.on_leg numbers reader moves joined opens IsConnA2 (λ received available channel is. is)
      leg.0 leg.1) in
      subst (HasOne IsConnA2) none
      (subst (λ (k : ℕ). HasOne IsConnA2 (of_leg (os_leg k) server.came)) (first ∙ sym e) leg.1)

  -- ---- OUT_R1/A4

  -- where it comes next, and that it is asked for
  record IsDue : Type 0 where
    place : n ≡ suc (suc (out_put is_out_r1_a9 server))
    wanted : out_put is_out_r1_a1 server
        ≤ out_came is_out_r1_a4 server → ⊥

  out_r1_a4_due : (connection predecessor successor : Cookie) → came ≡ []
      → HasOne (NamesSuccessor connection predecessor successor) asked → IsDue
  out_r1_a4_due connection predecessor successor none has =
      let client = (client_behind numbers moves).passage in
      let put = counted_some (NamesSuccessor connection predecessor successor) is_out_r1_a3
      (names_out_r1_a3 connection predecessor successor) (of_leg (co n) client.put)
      (at.asked_front numbers reader moves joined opens
      (NamesSuccessor connection predecessor successor) n has) in
      let stands = among n (out_asked client) (count_of is_out_r1_a3 (of_leg (co n) client.put))
      (law.asks.asks_on (co n)) put in
      let behind = beyond n (out_came is_out_r1_a4 server) stands.0
      (λ (less : n < 2 + out_came is_out_r1_a4 server).
      let one = law.on_legs.a4.each n stands.0 less in
      let nothing = ap (count_of is_out_r1_a4) none in omega (arith, one, nothing)) in
      let less = stands.1 in
      let asks = law.round.outs.a3_behind_a2 in
      let wishes = law.round.outs.a2_behind_a1 in
      let one = law.in_turn.a1_behind_a9 in
      let ends = law.in_turn.a9_behind_a8 in
      let confirms = law.in_turn.a8_behind_a5 in
      let answers = law.in_turn.a5_behind_a4 in record {
        place = omega (arith, behind, less, asks, wishes, one, ends, confirms, answers);
        wanted = λ all.
            omega (arith, behind, less, asks, wishes, one, ends, confirms, answers, all);
      }

  -- the channel before it is the one that the server writes on
  predecessor_is : (connection predecessor successor expected : Cookie) → IsDue
      → IsNext numbers.client (HasComeUp moves.client) (OpenedBefore numbers.client moves.client) n
      connection predecessor successor
      → IsOutChannel (suc (out_put is_out_r1_a9 server)) expected
      server.came
      → expected ≡ predecessor
  predecessor_is connection predecessor successor expected due next channel = by next.follows
    where
      writing : ℕ
      writing = suc (out_put is_out_r1_a9 server)

      Comes : ℕ → Cookie → Type 0
      Comes k cookie = HasComeUp moves.client (co k) cookie

      same : suc next.below ≡ writing
      same = let a = due.place in let b = next.number in omega (arith, a, b)

      by : Comes (suc next.below) predecessor
          ⊎ ((next.below ≡ 0) × OpenedBefore numbers.client moves.client (co 1))
          → expected ≡ predecessor
      by (inr early) = absurd (law.late early.1)
      by (inl comes) =
          law.cookies.one (co writing) expected predecessor
          (channel_is numbers reader moves joined opens ins writing expected channel)
          (subst (λ (k : ℕ). Comes k predecessor) same comes)

  -- ---- acknowledgements

  ack_begun : (cookie : Cookie) (m : Named) (rest : List Message) → came ≡ Packet m ∷ rest
      → OpensServer (numbers.outs n) asked cookie m
      → count_of is_conn_a2 came ≡ 0 → count_of is_out_r1_a4 came ≡ 0 → ⊥
  ack_begun cookie (ConnA2 version connection channel lifetime window) rest e h new next
      = let is = ap (count_of is_conn_a2) e in omega (arith, is, new)
  ack_begun cookie (OutR1A4 version connection predecessor successor lifetime window timeout) rest e
      h new next =
      let is = ap (count_of is_out_r1_a4) e in omega (arith, is, next)
  ack_begun cookie m rest e h new next = absurd h

  opens_one : (expected cookie : Cookie) (m : Named)
      → OpensServer (numbers.outs n) asked cookie m → OpensOut expected m → expected ≡ cookie
  opens_one expected cookie (ConnA2 version connection channel lifetime window) h is =
      sym is ∙ h.1
  opens_one expected cookie
      (OutR1A4 version connection predecessor successor lifetime window timeout) h is =
      sym is ∙ h.1
  opens_one expected cookie m h is = absurd h

  ack_channel : (expected : Cookie) (m : Named) (later : IsLater m)
      → HasOne (OpensOut expected) came → expected ≡ later.cookie
  ack_channel expected m later has = by (subst (HasOne (OpensOut expected)) later.behind has)
    where
      by : OpensOut expected later.packet ⊎ HasOne (OpensOut expected) later.rest
          → expected ≡ later.cookie
      by (inl is) = opens_one expected later.cookie later.packet later.opens is
      by (inr more) =
          absurd (no_acks (numbers.outs n) asked (OpensOut expected)
          (λ received available channel no'. no') later.cookie later.rest later.acks more)

  -- ---- none is unexpected

  first_unexpected : (m : Named) → IsFirst m
      → UnexpectedOut server (os_leg n) m → ⊥
  first_unexpected (ConnA2 version connection channel lifetime window) first u = by u
    where
      new : n ≡ 1
      new = (at.is_right numbers reader moves joined opens n first.cookie
          (ConnA2 version connection channel lifetime window) first.opens).first

      by : UnexpectedOut server (os_leg n)
          (ConnA2 version connection channel lifetime window) → ⊥
      by (inl later) = nothing_before came first.none later
      by (inr (inl elsewhere)) = elsewhere new
      by (inr (inr some)) = conn_a2_alone first.none new some
  first_unexpected (OutR1A4 version connection predecessor successor lifetime window timeout)
      first u = by u
    where
      due : IsDue
      due = out_r1_a4_due connection predecessor successor first.none first.opens.5

      by : UnexpectedOut server (os_leg n)
          (OutR1A4 version connection predecessor successor lifetime window timeout) → ⊥
      by (inl later) = nothing_before came first.none later
      by (inr (inl elsewhere)) = elsewhere due.place
      by (inr (inr answered)) = due.wanted answered
  first_unexpected m first u = absurd first.opens

  later_unexpected : (m : Named) → IsLater m
      → UnexpectedOut server (os_leg n) m → ⊥
  later_unexpected (Ack received available channel) later u = by u
    where
      by : UnexpectedOut server (os_leg n)
          (Ack received available channel) → ⊥
      by (inl first) = one_before came later.packet later.rest later.behind first
      by (inr unbegun) =
          ack_begun later.cookie later.packet later.rest later.behind later.opens unbegun.0
          unbegun.1
  later_unexpected m later u = absurd later.acked

  -- ---- nor of another cookie

  module _ (expected got : Cookie) where
    abbrev Mismatch : Named → Type 0
    Mismatch m = MismatchOut server n m expected got

    first_mismatch : (m : Named) → IsFirst m → Mismatch m → ⊥
    first_mismatch (ConnA2 version connection channel lifetime window) first bad =
        let new = at.is_right numbers reader moves joined opens n first.cookie
        (ConnA2 version connection channel lifetime window) first.opens in
        not_other connection expected got
        (sym (connection_is numbers reader moves joined opens ins expected (inr bad.1)) ∙ new.of)
        bad.0
    first_mismatch (OutR1A4 version connection predecessor successor lifetime window timeout)
        first bad = by bad
      where
        next : IsNext numbers.client (HasComeUp moves.client)
            (OpenedBefore numbers.client moves.client) n connection predecessor successor
        next = at.is_right numbers reader moves joined opens n first.cookie
            (OutR1A4 version connection predecessor successor lifetime window timeout) first.opens

        by : Mismatch (OutR1A4 version connection predecessor successor lifetime window timeout)
            → ⊥
        by (inl bad) =
            not_other connection expected got
            (sym (connection_is numbers reader moves joined opens ins expected bad.1) ∙ next.of)
            bad.0
        by (inr bad) =
            not_other predecessor expected got
            (predecessor_is connection predecessor successor expected
            (out_r1_a4_due connection predecessor successor first.none first.opens.5) next bad.1)
            bad.0
    first_mismatch m first bad = absurd first.opens

    later_mismatch : (m : Named) → IsLater m → Mismatch m → ⊥
    later_mismatch (Ack received available channel) later bad =
        not_other channel expected got
        (ack_channel expected (Ack received available channel) later bad.1 ∙ sym later.acked) bad.0
    later_mismatch m later bad = absurd later.acked

  -- ---- what the server refuses

  abbrev all : List Message
  all = all_read_of (of_leg (os_leg n) (out_behind numbers moves n).put)

  next : (m : Named) → IsPrefix (came ++ Packet m ∷ []) all → IsFirst m ⊎ IsLater m
  next m ahead =
      next_packet (numbers.outs n) asked came m
      (at.so_far numbers reader moves joined opens n (came ++ Packet m ∷ []) ahead)

  unexpected : (m : Named) → IsFirst m ⊎ IsLater m
      → UnexpectedOut server (os_leg n) m → ⊥
  unexpected m (inl first) = first_unexpected m first
  unexpected m (inr later) = later_unexpected m later

  mismatch : (expected got : Cookie) (m : Named) → IsFirst m ⊎ IsLater m
      → MismatchOut server n m expected got → ⊥
  mismatch expected got m (inl first) = first_mismatch expected got m first
  mismatch expected got m (inr later) = later_mismatch expected got m later

  refuses_none : (count : Count) (m : Named) (why : Refused)
      → IsTrue (is_in_use server_rules server.role (os_leg n)) → Tells count (packets came)
      → IsFirst m ⊎ IsLater m
      → (server_rules.packet server.role (os_leg n) count m).1 ≡ Err why → IsAmiss why → ⊥
  refuses_none count m refused.Unexpected used tells step refuses amiss =
      unexpected m step (law.refuses.unexpected (os_leg n) count m used tells refuses)
  refuses_none count m (refused.Cookie expected got) used tells step refuses amiss =
      mismatch expected got m step
      (law.refuses.mismatch (os_leg n) count m expected got refuses)
  refuses_none count m why used tells step refuses amiss = absurd amiss

  pub expects : Expects server_rules server (os_leg n) all
  expects = record {
    packet = λ count m why used up tells ahead.
        refuses_none count m why used tells (next m ahead);
    pdu = λ count bytes why used up ahead refuses amiss.
        no_pdu (numbers.outs n) asked came bytes
        (at.so_far numbers reader moves joined opens n (came ++ Pdu bytes ∷ []) ahead);
  }
