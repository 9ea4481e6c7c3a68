-- a moment of a virtual connection, by what came at the server on its is legs and what the client
-- put
use Rattle.law_order.proofs.Vocabulary.{◌≡◌, ◌⊎◌, ℕ, zero, suc, ◌+◌, ◌<◌, ◌≤◌, nat_lt, Bool, true, false, List, [], ◌∷◌, ◌++◌, inl, inr, refl, sym, ◌∙◌, subst, arith, nat_tests, IsTrue}
use Rattle.law_moves.proofs.Vocabulary.{Cookie, Named, InR1A1, ClientIn, InServer, OutServer, Message, Passage, of_leg, all_read_of, BeginsIn, HasOne, HasComeUp, count_on}
use Rattle.law_moves.proofs.Lemmas.{some_legs, sum_rises, sum_plus as sum_both}
use Rattle.law_role_inproxy.proofs.Vocabulary.{InProxy, is_leg, IsStream, PutsInOrder}
use Rattle.law_role_inproxy.specs.Putting.Puts as puts
use Rattle.law_role_client.proofs.Vocabulary.{ClientRole, rules as client_rules, ci, is_in_r1_a1, EachBehind, NamesOut, ReplacesIns, in_answered, in_asked}
use Rattle.law_role_server.proofs.Vocabulary.{Server, in_leg, is_some, came_up, AreAnswered, in_came, is_conn_b2, is_in_r1_a2, is_in_r2_a2}
use Rattle.law_node_causes.specs.Numbers.{ClientIsNumbered}
use Rattle.law_role_outproxy.proofs.Vocabulary.{OutProxy, NamesNew, co_leg, os_leg, IsToServer, PutsToServer}
use Rattle.law_role_client_rows.specs.Putting.{OpenedBefore, OpensInChannels}
use Rattle.law_role_server_rows.specs.Refusing.Cookies.{Connects, IsConnection}
use Rattle.law_role_server_rows.specs.Refusing.Refusing as rows
use Rattle.law_peers_moments.proofs.Joining.{co_front, in_front, in_reads, is_front, os_front}
use Rattle.law_peers_moments.proofs.Read.{front_one}
use Rattle.law_peers_moments.specs.GoingRound.{InGoesRound}
use Rattle.law_peers_moments.specs.Expecting.{IsAhead}
use Rattle.law_peers_moments.specs.Moments.{IsMoment, Moves, Numbers, client_behind, in_behind, out_behind, passages, server_behind}
use Rattle.law_role_server_in.specs.Refusing.{IsOpening, NewestNames, RefusesInFor, came_at, first_at, in_ups}
use Rattle.law_peers_in_channels.proofs.ServerExpects.Logs.{counted_some, leg_of_all, some_leg}
use Rattle.law_peers_in_channels.proofs.ServerExpects.Streams.{first_one}
use Rattle.law_peers_in_channels.proofs.InSuccessors.Connections.{connects_asked, new_of, stream_asked}
use Rattle.law_peers_in_channels.proofs.InSuccessors.Numbered.{asked_on, up_most}
use Rattle.law_peers_in_channels.proofs.InSuccessors.Opened.{Opening, conn_b2_came, not_opening}
use Rattle.law_peers_in_channels.proofs.InSuccessors.Streams.{came_stream, last_begun}
use Rattle.law_peers_in_channels.proofs.InSuccessors.Sums.{reader_behind}
use Rattle.law_peers_in_channels.proofs.InSuccessors.Ups.{came_up_at, ups_at, ups_summed}
use Rattle.law_peers_in_channels.proofs.InChannels.Announces.{IsInR1A1}
use Rattle.law_peers_in_channels.proofs.InChannels.Told.{in_r1_a1_counts}
use Rattle.law_peers_in_channels.proofs.InSuccessors.Begins as begins
use Rattle.law_peers_in_channels.specs.InChannels.{AnnounceNext, AreAnnounced, IsAnnouncedOn, channels}
use Rattle.law_peers_in_channels.specs.InSuccessors.Connected.{AreConnected}

-- ---- packets

pub replaces_is : (connection predecessor successor : Cookie) (m : Named)
    → puts.Replaces connection predecessor successor m → IsInR1A1 m
replaces_is connection predecessor successor (InR1A1 version of before own) h = tt
replaces_is connection predecessor successor m h = absurd h

-- ---- what is known

pub record Knows (numbers : Numbers) (reader : ℕ → ℕ) (moves : Moves) : Type 0 where
  pub announced : AreAnnounced reader (server_behind numbers moves).passage
  pub next : AnnounceNext numbers moves
  -- the server
  pub refuses : rows.RefusesFor (server_behind numbers moves).passage
  pub refuses_in : RefusesInFor (server_behind numbers moves).passage
  pub given : (server_behind numbers moves).passage.role.newest_in
      ≤ in_ups moves.server + in_came is_in_r2_a2 (server_behind numbers moves).passage
  pub kept : (n : ℕ)
      → IsTrue (is_some (in_leg n (server_behind numbers moves).passage.role.ins))
      → IsTrue (came_up moves.server n)
  pub up_once : (n : ℕ) → ups_at moves.server n ≤ 1
  pub answered : AreAnswered (server_behind numbers moves).passage
  -- the proxies
  pub connected : AreConnected reader moves
  pub in_order : (m : ℕ) → PutsInOrder (numbers.ins m) (in_behind numbers moves m)
  pub outs : (n : ℕ) → PutsToServer (numbers.outs n) (out_behind numbers moves n)
  -- the client
  pub channels_begin : OpensInChannels numbers.client moves.client
  pub late : OpenedBefore numbers.client moves.client (ci 1) → ⊥
  pub names : EachBehind (NamesOut numbers.client.connection) []
      (client_behind numbers moves).passage.put
  pub replaces : ReplacesIns (client_behind numbers moves).passage
  pub numbered : ClientIsNumbered (client_behind numbers moves).passage.role
  pub was_up : (n : ℕ) (cookie : Cookie) → HasComeUp moves.client (ci n) cookie
      → client_rules.was_up (client_behind numbers moves).passage.role (ci n) ≡ true
  -- the ends
  pub opens : Opening (passages numbers moves)
  pub round : InGoesRound (client_behind numbers moves).passage
      (server_behind numbers moves).passage

module _ (numbers : Numbers) (reader : ℕ → ℕ) (moves : Moves)
    (moment : IsMoment numbers reader moves) (know : Knows numbers reader moves) where
  abbrev pub client : Passage ClientRole
  client = (client_behind numbers moves).passage

  abbrev pub server : Passage Server
  server = (server_behind numbers moves).passage

  abbrev pub proxy : ℕ → Passage InProxy
  proxy n = in_behind numbers moves n

  abbrev out : ℕ → Passage OutProxy
  out n = out_behind numbers moves n

  -- what came on an is leg, and what was put there
  abbrev pub came : ℕ → List Message
  came n = of_leg (is_leg n) server.came

  abbrev pub put : ℕ → List Message
  put n = of_leg (is_leg n) (proxy n).put

  number : (n : ℕ) → (numbers.ins n).number ≡ n
  number = moment.now.made.in_number

  -- ---- streams

  abbrev pub Stream : ℕ → List Message → Type 0
  Stream n ms = IsStream (numbers.ins n) (proxy n).came ms

  put_so : (n : ℕ) → Stream n (put n)
  put_so n =
      subst (λ (k : ℕ). Stream n (of_leg (is_leg k) (proxy n).put)) (number n) (know.in_order n)

  came_so : (n : ℕ) → Stream n (came n)
  came_so n =
      came_stream (numbers.ins n) (proxy n).came (came n) (put n)
      (is_front reader (passages numbers moves) moment.now.joined n) (put_so n)

  pub ahead_so : (n : ℕ) (message : Message)
      → IsAhead server (is_leg n) (all_read_of (put n)) message
      → Stream n (came n ++ message ∷ [])
  ahead_so n message ahead =
      came_stream (numbers.ins n) (proxy n).came (came n ++ message ∷ []) (put n) ahead (put_so n)

  -- ---- what came at an in proxy

  abbrev asked_at : ℕ → ℕ → List Message
  asked_at n k = of_leg (ci k) (proxy n).came

  -- the client put it
  pub was_put : (P : Named → Type 0) (n k : ℕ) → HasOne P (asked_at n k)
      → HasOne P (of_leg (ci k) client.put)
  was_put P n k has =
      front_one P (asked_at n k) (of_leg (ci k) client.put)
      (in_front reader (passages numbers moves) moment.now.joined n k) has

  pub reads : (P : Named → Type 0) (n k : ℕ) → HasOne P (asked_at n k) → reader k ≡ n
  reads P n k has = in_reads reader (passages numbers moves) moment.now.joined P n k has

  -- on the ci leg of its own number
  pub at_own : (P : Named → Type 0) (n more : ℕ)
      → HasOne P (asked_at n ((numbers.ins n).number + more)) → HasOne P (asked_at n (n + more))
  at_own P n more has =
      subst (λ (k : ℕ). HasOne P (asked_at n (k + more))) (number n) has

  pub first_own : (P : Named → Type 0) (n : ℕ)
      → puts.CameFirst (numbers.ins n).number P (proxy n).came → HasOne P (asked_at n n)
  first_own P n first =
      subst (λ (k : ℕ). HasOne P (asked_at n k)) (number n)
      (first_one P (asked_at n (numbers.ins n).number) first)

  -- ---- IN_R1/A1 that were put

  counts_asked : (k : ℕ) → HasOne IsInR1A1 (of_leg (ci k) client.put)
      → 1 ≤ count_on is_in_r1_a1 ClientIn client.put k
  counts_asked k has =
      counted_some IsInR1A1 is_in_r1_a1 in_r1_a1_counts (of_leg (ci k) client.put) has

  pub asked_some : (k : ℕ) → HasOne IsInR1A1 (of_leg (ci k) client.put) → 1 ≤ in_asked client
  asked_some k has =
      let here = counts_asked k has in
      let all = leg_of_all is_in_r1_a1 ClientIn client.put k in omega (arith, here, all)

  pub asked_number : (k : ℕ) → HasOne IsInR1A1 (of_leg (ci k) client.put)
      → (2 ≤ k) × (k ≤ in_asked client + 1)
  asked_number k has = asked_on client know.replaces k (counts_asked k has)

  pub never_opening : (k : ℕ) → HasOne IsInR1A1 (of_leg (ci k) client.put)
      → IsOpening server → ⊥
  never_opening k has =
      not_opening reader (passages numbers moves) moment.now.joined know.opens
      (asked_some k has)

  pub conn_b2_one : (k : ℕ) → HasOne IsInR1A1 (of_leg (ci k) client.put)
      → in_came is_conn_b2 server ≡ 1
  conn_b2_one k has =
      conn_b2_came reader (passages numbers moves) moment.now.joined know.opens
      (asked_some k has)

  -- ---- is legs that came up at the server

  -- where a channel was announced for each, it began there
  pub own_began : (n : ℕ) → IsTrue (came_up moves.server n) → n ≤ channels server
      → 1 ≤ first_at server n
  own_began n up most =
      let own = know.connected n up in
      let on = know.announced.each n own.positive most in
      let same = sym (know.announced.read on.0 n on.1) ∙ own.read in
      subst (λ (k : ℕ). 1 ≤ first_at server k) same on.1.began

  -- none has a higher number than the client asked for, where it waits for an answer
  pub own_most : (n : ℕ) → IsTrue (came_up moves.server n) → in_answered client < in_asked client
      → n ≤ in_asked client + 1
  own_most n up waits =
      let came = (know.connected n up).opened in
      up_most client know.replaces waits n (know.was_up n came.0 came.1)

  -- ---- how many numbers are given

  -- where none came up behind the channels that were announced
  pub few_given : ((n : ℕ) → IsTrue (came_up moves.server n) → n ≤ channels server)
      → server.role.newest_in ≤ channels server
  few_given most =
      let ups = ups_summed moves.server (suc (channels server))
      (λ k up. let less = most k up in omega (arith, less)) in
      let each = sum_rises (ups_at moves.server) (first_at server) began (suc (channels server)) in
      let sum = sum_both (count_on is_conn_b2 InServer server.came)
      (count_on is_in_r1_a2 InServer server.came) (suc (channels server)) in
      let first = some_legs is_conn_b2 InServer server.came (suc (channels server)) in
      let later = some_legs is_in_r1_a2 InServer server.came (suc (channels server)) in
      let given = know.given in
      omega (arith, ups, each, sum, first, later, given)
    where
      began : (k : ℕ) → ups_at moves.server k ≤ first_at server k
      began k = by (ups_at moves.server k) refl (know.up_once k)
        where
          by : (j : ℕ) → ups_at moves.server k ≡ j → j ≤ 1 → j ≤ first_at server k
          by zero e once = omega arith
          by (suc j) e once =
              let up = came_up_at k moves.server (omega (arith, e)) in
              let some = own_began k up (most k up) in omega (arith, once, some)

  -- ---- cookies

  from_out_proxies : (cookie : Cookie) → IsConnection OutServer cookie server.came
      → numbers.client.connection ≡ cookie
  from_out_proxies cookie has =
      let leg = some_leg (Connects cookie) OutServer server.came has in
      let n = leg.0 in
      let to_server = subst
      (λ (k : ℕ). IsToServer (numbers.outs n) (of_leg (co_leg k) (out n).came)
      (of_leg (os_leg k) (out n).put)) (moment.now.made.out_number n) (know.outs n) in
      let asked = connects_asked (numbers.outs n) (of_leg (co_leg n) (out n).came) cookie
      (of_leg (os_leg n) (out n).put) to_server
      (front_one (Connects cookie) (of_leg (os_leg n) server.came) (of_leg (os_leg n) (out n).put)
      (os_front reader (passages numbers moves) moment.now.joined n) leg.1) in
      new_of numbers.client.connection cookie asked.0 (co_leg n) client.put know.names
      (front_one (NamesNew cookie asked.0) (of_leg (co_leg n) (out n).came)
      (of_leg (co_leg n) client.put)
      (co_front reader (passages numbers moves) moment.now.joined n) asked.1)

  from_in_proxies : (cookie : Cookie) → IsConnection InServer cookie server.came
      → numbers.client.connection ≡ cookie
  from_in_proxies cookie has =
      let leg = some_leg (Connects cookie) InServer server.came has in
      let n = leg.0 in
      let asked = stream_asked (numbers.ins n) (proxy n).came cookie (came n) (came_so n) leg.1 in
      let k = (numbers.ins n).number in
      begins.connects_of numbers.client moves.client know.channels_begin k cookie asked.channel
      asked.group (was_put (puts.Connects cookie asked.channel asked.group) n k asked.came)

  -- all connections that came are the client's
  pub connection_is : (cookie : Cookie)
      → IsConnection OutServer cookie server.came ⊎ IsConnection InServer cookie server.came
      → numbers.client.connection ≡ cookie
  connection_is cookie (inl has) = from_out_proxies cookie has
  connection_is cookie (inr has) = from_in_proxies cookie has

  -- ---- the newest channel

  -- it is on the newest leg, as the last that was announced
  pub record IsNewest (leg : ℕ) : Type 0 where
    pub last : channels server ≡ leg + came_at is_in_r2_a2 server leg

  pub newest_is : (leg : ℕ) → 1 ≤ channels server → 1 ≤ first_at server leg
      → ((n : ℕ) → leg < n → first_at server n ≡ 0) → IsNewest leg
  newest_is leg some began newest =
      by (reader_behind reader moment.now.read leg (know.announced.read leg leg here)
      (channels server) first.1)
    where
      here : IsAnnouncedOn server leg leg
      here = record { began = began; least = omega arith; most = omega arith }

      top : IsAnnouncedOn server leg (leg + came_at is_in_r2_a2 server leg)
      top = record { began = began; least = omega arith; most = omega arith }

      first : (1 ≤ leg) × (leg ≤ channels server)
      first = know.announced.only leg leg here

      last : (m : ℕ) × IsAnnouncedOn server m (channels server)
      last = know.announced.each (channels server) some (omega arith)

      m : ℕ
      m = last.0

      itself : IsAnnouncedOn server m m
      itself = record { began = last.1.began; least = omega arith; most = omega arith }

      not_above : (b : Bool) → nat_lt leg m ≡ b → m ≤ leg
      not_above true e =
          let none = newest m (grind (arith, nat_tests, e)) in
          let some = last.1.began in absurd (omega (arith, none, some))
      not_above false e = grind (arith, nat_tests, e)

      at : m ≡ leg → IsNewest leg
      at same =
          let most = subst (λ (k : ℕ). channels server ≤ k + came_at is_in_r2_a2 server k) same
          last.1.most in
          let least = (know.announced.only leg (leg + came_at is_in_r2_a2 server leg) top).1 in
          record { last = omega (arith, most, least) }

      by : (reader (channels server) ≡ 0) ⊎ (leg ≤ reader (channels server)) → IsNewest leg
      by (inl none) =
          let reads = know.announced.read m (channels server) last.1 in
          let least = (know.announced.only m m itself).0 in
          absurd (omega (arith, none, reads, least))
      by (inr least) =
          let reads = know.announced.read m (channels server) last.1 in
          let most = not_above (nat_lt leg m) refl in
          at (omega (arith, least, reads, most))

  -- what is expected is the cookie under which the last channel that was announced came up
  pub expected_up : (expected : Cookie) → 1 ≤ channels server → NewestNames server expected
      → HasComeUp moves.client (ci (channels server)) expected
  expected_up expected some names =
      let leg = names.leg in
      let named = last_begun (numbers.ins leg) (proxy leg).came (came leg) expected (came_so leg)
      names.names in
      let at = newest_is leg some named.began names.newest in
      let own = at_own (BeginsIn expected) leg (came_at is_in_r2_a2 server leg) named.begun in
      let has = subst (λ (k : ℕ). HasOne (BeginsIn expected) (asked_at leg k)) (sym at.last) own in
      begins.begun_up numbers.client moves.client know.channels_begin (channels server) expected
      (was_put (BeginsIn expected) leg (channels server) has)
