-- what came at the server before a channel is replaced
use Rattle.law_order.proofs.Vocabulary.{◌≡◌, ℕ, zero, suc, ◌+◌, ◌<◌, ◌≤◌, true, List, None, inl, inr, refl, sym, ◌∙◌, subst, arith, nat_tests}
use Rattle.law_moves.proofs.Vocabulary.{Cookie, Named, ConnA2, OutR1A3, OutR1A4, ClientOut, OutServer, Message, Passage, of_leg, of_kind, count_of, HasComeUp, HasOne}
use Rattle.law_moves.proofs.Lemmas.{by_proxies, one_so}
use Rattle.law_moves.specs.PacketKinds as at_proxy
use Rattle.law_role_inproxy.proofs.Vocabulary.{PutsInOrder}
use Rattle.law_role_client.proofs.Vocabulary.{ClientRole, ci, co, is_among, once_if, is_out_r1_a3, NamesIns, opened, ReplacesIns, ReplacesOuts, in_asked, out_asked}
use Rattle.law_role_client_rows.specs.Putting.{OpenedBefore, OpensInChannels, OpensOutChannels}
use Rattle.law_role_server.proofs.Vocabulary.{Stage, Server, is_conn_a2, is_conn_c1, is_out_r1_a4, out_came, out_put, ArePutInTurn, since_open}
use Rattle.law_role_server.specs.Counted.Opening.{since_conn_a2}
use Rattle.rh_audit.specs.declared.packet.First.{First}
use Rattle.rh_server.specs.declared.state.Stage.TheVariants as stages
use Rattle.law_role_outproxy.proofs.Vocabulary.{co_leg, os_leg, IsToServer, PutsToServer}
use Rattle.law_peers_moments.proofs.GoingRound.Fronts.{are_fronts}
use Rattle.law_peers_moments.proofs.Joining.{co_front, os_front}
use Rattle.law_peers_moments.proofs.Read.{front_one}
use Rattle.law_peers_moments.specs.GoingRound.{GoRound}
use Rattle.law_peers_moments.specs.Moments.{IsMoment, Moves, Numbers, Passages, client_behind, in_behind, out_behind, passages, server_behind}
use Rattle.law_peers_in_channels.proofs.InChannels.Announces.{IsInR1A1}
use Rattle.law_peers_in_channels.proofs.InChannels.Told.{in_r1_a1_counts}
use Rattle.law_peers_in_channels.proofs.InSuccessors.Numbered.{asked_on}
use Rattle.law_peers_in_channels.proofs.InSuccessors.Opened.{Opening, conn_b2_came}
use Rattle.law_peers_in_channels.proofs.ServerExpects.Logs.{counted_some, some_counted, some_leg}
use Rattle.law_peers_in_channels.specs.InChannels.{AreAnnounced, IsAnnouncedOn, channels}
use Rattle.law_peers_chains.proofs.Channels.{IsConnA2, IsOne, IsOpening, IsOutR1A3, conn_a2_asked, out_begins}
use Rattle.law_peers_chains.proofs.Fronts.{Begins, new}

-- ---- what the roles keep

pub record Knows (numbers : Numbers) (reader : ℕ → ℕ) (moves : Moves) : Type 0 where
  pub in_channels : OpensInChannels numbers.client moves.client
  pub out_channels : OpensOutChannels numbers.client moves.client
  pub late_in : OpenedBefore numbers.client moves.client (ci 1) → ⊥
  pub late_out : OpenedBefore numbers.client moves.client (co 1) → ⊥
  pub replaces_ins : ReplacesIns (client_behind numbers moves).passage
  pub replaces_outs : ReplacesOuts (client_behind numbers moves).passage
  pub names : NamesIns numbers.client.connection (client_behind numbers moves).passage
  pub in_order : (m : ℕ) → PutsInOrder (numbers.ins m) (in_behind numbers moves m)
  pub outs : (n : ℕ) → PutsToServer (numbers.outs n) (out_behind numbers moves n)
  pub announced : AreAnnounced reader (server_behind numbers moves).passage
  pub put_in_turn : ArePutInTurn (server_behind numbers moves).passage
  pub opens : Opening (passages numbers moves)
  pub round : GoRound (client_behind numbers moves).passage
      (server_behind numbers moves).passage

-- ---- packets

passes_conn_a2 : (m : Named) → is_conn_a2 m ≡ true → IsConnA2 m
passes_conn_a2 (ConnA2 version connection channel lifetime window) e = tt
passes_conn_a2 m e = absurd cc

opens_conn_a2 : (m : Named) → IsConnA2 m → IsOpening m
opens_conn_a2 (ConnA2 version connection channel lifetime window) h = tt
opens_conn_a2 m h = absurd h

passes_out_r1_a4 : (m : Named) → is_out_r1_a4 m ≡ true → IsOpening m
passes_out_r1_a4 (OutR1A4 version connection predecessor successor lifetime window timeout) e = tt
passes_out_r1_a4 m e = absurd cc

out_r1_a3_counts : (m : Named) → IsOutR1A3 m → is_out_r1_a3 m ≡ true
out_r1_a3_counts (OutR1A3 version connection predecessor successor window) h = refl
out_r1_a3_counts m h = absurd h

since_first : (stage : Stage) → since_open stage ≤ since_conn_a2 stage
since_first stages.Waits = omega arith
since_first (stages.OutCame connection) = omega arith
since_first (stages.InCame connection window timeout) = omega arith
since_first (stages.Open connection) = omega arith
since_first stages.Ended = omega arith

among_most : (n count all : ℕ) → count ≡ once_if (is_among 2 all n) → 1 ≤ count → n ≤ all + 1
among_most n count all e some = grind (arith, nat_tests, e, some)

module _ (numbers : Numbers) (reader : ℕ → ℕ) (moves : Moves)
    (moment : IsMoment numbers reader moves) (know : Knows numbers reader moves) where
  abbrev pub all : Passages
  all = passages numbers moves

  abbrev pub client : Passage ClientRole
  client = all.client

  abbrev pub server : Passage Server
  server = all.server

  -- ---- IN channels

  -- where IN_R1/A1 was put on a channel, the one below it was announced
  pub announced_below : (below : ℕ)
      → HasOne IsInR1A1 (of_leg (ci (suc (suc below))) client.put)
      → (m : ℕ) × IsAnnouncedOn server m (suc below)
  announced_below below has =
      let some = counted_some IsInR1A1 _ in_r1_a1_counts
      (of_leg (ci (suc (suc below))) client.put) has in
      let most = (asked_on client know.replaces_ins (suc (suc below)) some).1 in
      let asked : 1 ≤ in_asked client = omega (arith, most) in
      let one = conn_b2_came reader all moment.now.joined know.opens asked in
      let round = know.round.ins in
      let waits = round.a1_behind_a4 in
      let answered = round.a4_behind_a3 in
      let taken = round.a3_behind_a2 in
      let enough : suc below ≤ channels server =
      omega (arith, most, one, waits, answered, taken) in
      know.announced.each (suc below) (omega arith) enough

  -- ---- OUT channels

  opened_by : opened client ≤ out_put is_conn_c1 server
  opened_by =
      let f = are_fronts reader all moment.now.joined in
      by_proxies at_proxy.is_conn_c1 at_proxy.is_conn_c2 OutServer ClientOut client.came
      server.put (λ n. (all.outs n).came) (λ n. (all.outs n).put)
      (f.co_down at_proxy.is_conn_c2) (λ n. (know.opens.outs n).connection)
      (f.os_down at_proxy.is_conn_c1)

  was_opened : 1 ≤ out_asked client → 1 ≤ opened client
  was_opened asked = by (opened client) refl
    where
      by : (k : ℕ) → opened client ≡ k → 1 ≤ k
      by zero e =
          let none = (know.opens.client.unused e).asked_out in absurd (omega (arith, none, asked))
      by (suc k) e = omega arith

  conn_a2_came : 1 ≤ out_asked client → 1 ≤ out_came is_conn_a2 server
  conn_a2_came asked =
      let some = was_opened asked in
      let by = opened_by in
      let put = know.opens.server.conn_c1 in
      let came = know.opens.server.conn_a2 in
      let both = since_first server.role.stage in omega (arith, some, by, put, came, both)

  -- ---- what an out proxy opened

  abbrev asked_at : ℕ → List Message
  asked_at n = of_leg (co_leg n) (all.outs n).came

  abbrev opened_at : ℕ → List Message
  opened_at n = of_leg (os_leg n) (all.outs n).put

  pub to_server : (n : ℕ) → IsToServer (numbers.outs n) (asked_at n) (opened_at n)
  to_server n =
      subst (λ (k : ℕ). IsToServer (numbers.outs n) (of_leg (co_leg k) (all.outs n).came)
      (of_leg (os_leg k) (all.outs n).put)) (moment.now.made.out_number n) (know.outs n)

  abbrev pub Out : ℕ → Cookie → Type 0
  Out n cookie = HasComeUp moves.client (co n) cookie

  -- what came of the client's first packet there is that of its channel
  pub out_is : (n : ℕ) (begun : First) → HasOne (Begins begun) (of_leg (co n) client.put)
      → IsOne Out n begun
  out_is n begun has =
      out_begins numbers.client (HasComeUp moves.client) (OpenedBefore numbers.client moves.client)
      know.late_out n (of_leg (co n) client.put) (know.out_channels n) begun has

  pub asked_out : (P : Named → Type 0) (n : ℕ) → HasOne P (asked_at n)
      → HasOne P (of_leg (co n) client.put)
  asked_out P n has =
      front_one P (asked_at n) (of_leg (co n) client.put)
      (co_front reader all moment.now.joined n) has

  first_number : (n : ℕ) (begun : First) → begun.predecessor ≡ None → IsOne Out n begun → n ≡ 1
  first_number n begun none (inl new) = new.number
  first_number n begun none (inr next) = absurd (let both = sym none ∙ next.some in cc)

  conn_a2_first : (n : ℕ) → HasOne IsConnA2 (of_leg (os_leg n) server.came) → n ≡ 1
  conn_a2_first n has =
      let asked = conn_a2_asked (numbers.outs n) (asked_at n) (opened_at n) (to_server n)
      (front_one IsConnA2 (of_leg (os_leg n) server.came) (opened_at n)
      (os_front reader all moment.now.joined n) has) in
      first_number n (new asked.0) refl
      (out_is n (new asked.0) (asked_out (Begins (new asked.0)) n asked.1))

  -- where OUT_R1/A3 was put on a channel, the one below it began at the server
  pub begun_below : (below : ℕ)
      → HasOne IsOutR1A3 (of_leg (co (suc (suc below))) client.put)
      → HasOne IsOpening (of_leg (os_leg (suc below)) server.came)
  begun_below below has = by below most
    where
      most : suc (suc below) ≤ out_asked client + 1
      most =
          let some = counted_some IsOutR1A3 is_out_r1_a3 out_r1_a3_counts
          (of_leg (co (suc (suc below))) client.put) has in
          among_most (suc (suc below))
          (count_of is_out_r1_a3 (of_leg (co (suc (suc below))) client.put)) (out_asked client)
          (know.replaces_outs.asks_on (co (suc (suc below)))) some

      by : (k : ℕ) → suc (suc k) ≤ out_asked client + 1
          → HasOne IsOpening (of_leg (os_leg (suc k)) server.came)
      by zero enough =
          let some = conn_a2_came (omega (arith, enough)) in
          let leg = some_leg IsConnA2 OutServer server.came
          (some_counted IsConnA2 is_conn_a2 passes_conn_a2 (of_kind OutServer server.came) some) in
          one_so IsConnA2 IsOpening opens_conn_a2 (of_leg (os_leg 1) server.came)
          (subst (λ (n : ℕ). HasOne IsConnA2 (of_leg (os_leg n) server.came))
          (conn_a2_first leg.0 leg.1) leg.1)
      by (suc j) enough =
          let round = know.round.outs in
          let a = round.a9_behind_a8 in
          let b = round.a8_behind_a7 in
          let c = round.a7_behind_a6 in
          let d = round.a6_behind_a5 in
          let e = round.a5_behind_a4 in
          let f = round.a3_behind_a2 in
          let g = round.a2_behind_a1 in
          let h = round.a1_behind_a9 in
          let some : suc (suc j) < 2 + out_came is_out_r1_a4 server =
          omega (arith, enough, a, b, c, d, e, f, g, h) in
          let one = know.put_in_turn.a4.each (suc (suc j)) (omega arith) some in
          some_counted IsOpening is_out_r1_a4 passes_out_r1_a4
          (of_leg (os_leg (suc (suc j))) server.came) (omega (arith, one))
