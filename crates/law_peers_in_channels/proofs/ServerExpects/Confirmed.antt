-- at each moment of a virtual connection OUT_R1/A8 came at the server in the order of the channels,
-- and the next one is that of the next channel
use Rattle.law_order.proofs.Vocabulary.{◌≡◌, ℕ, suc, ◌+◌, ◌≤◌, Bool, true, List, [], ◌∷◌, ◌++◌, length, append_assoc, inl, inr, refl, sym, ap, ◌∙◌, subst, arith, IsPrefix}
use Rattle.law_moves.proofs.Vocabulary.{Cookie, Named, OutR1A8, ClientIn, ClientOut, InServer, OutServer, Packet, OnLeg, EndMove, EndPassage, Passage, all_end_moved, end_moved, end_started, of_leg, all_read_of, count_of, of_kind, HasComeUp, count_on}
use Rattle.law_moves.proofs.Lemmas.{count_append}
use Rattle.law_moves.specs.PacketKinds as at_proxy
use Rattle.law_role_inproxy.proofs.Vocabulary.{PutsForWhatCame}
use Rattle.law_role_client.proofs.Vocabulary.{co}
use Rattle.law_role_server.proofs.Vocabulary.{acts, first, rules as server_rules, Server, in_came, out_put, AreInTurn}
use Rattle.law_role_server.specs.Counted.Counting as at_server
use Rattle.law_role_client_rows.specs.Putting.{SwitchesInOrder}
use Rattle.law_node_streams.proofs.Streams.Rising.{come_up_more}
use Rattle.law_peers_moments.proofs.Joining.{is_front}
use Rattle.law_peers_moments.proofs.Read.{front_count}
use Rattle.law_peers_moments.proofs.GoingRound.Rounding.{any}
use Rattle.law_peers_moments.specs.GoingRound.{GoRound}
use Rattle.law_peers_moments.specs.Moments.{AreJoined, AreMade, IsMoment, IsPast, Moves, Numbers, client_behind, in_behind, passages, server_behind}
use Rattle.law_peers_in_channels.proofs.ServerExpects.Confirms.{ahead_counts, all_within, is_leg, kind_here, more_in_order, next_confirms}
use Rattle.law_peers_in_channels.proofs.ServerExpects.Cookies.{is_same}
use Rattle.law_peers_in_channels.proofs.ServerExpects.Fronts.{IsOneMore, all_fronts, behind_all, one_more}
use Rattle.law_peers_in_channels.proofs.ServerExpects.InOrder.{AreOwn, InOrder, all_confirmed, confirms, in_order_so, last_in_order, named_in, switched_in_order, switches}

-- the server behind these moves
abbrev pub server_at : Numbers → List EndMove → EndPassage Server
server_at numbers moves = all_end_moved server_rules acts (end_started (first numbers.window)) moves

-- what is known of each moment
pub record Confirming (numbers : Numbers) : Type 0 where
  pub paid : (moves : Moves) → AreMade numbers moves → (m : ℕ)
      → PutsForWhatCame m (in_behind numbers moves m)
  pub switches : (moves : Moves) → AreMade numbers moves
      → SwitchesInOrder numbers.client moves.client
  pub turns : (moves : List EndMove) → AreInTurn (server_at numbers moves).passage
  pub round : (reader : ℕ → ℕ) (moves : Moves) → AreMade numbers moves
      → AreJoined reader (passages numbers moves)
      → GoRound (client_behind numbers moves).passage (server_behind numbers moves).passage

-- a server's OUT_R1/A5 are at most one more than OUT_R1/A8
one_left : (p : Passage Server) → AreInTurn p
    → out_put at_server.is_out_r1_a5 p ≤ suc (in_came at_server.is_out_r1_a8 p)
one_left p h =
    let ends = h.a9_behind_a8 in
    let answers = h.a5_behind_a4 in
    let begins = h.a4_behind_a1 in
    let one = h.a1_behind_a9 in
    omega (arith, ends, answers, begins, one)

module _ (numbers : Numbers) (reader : ℕ → ℕ) (moves : Moves)
    (moment : IsMoment numbers reader moves) (law : Confirming numbers) where
  abbrev Comes : ℕ → Cookie → Type 0
  Comes n cookie = HasComeUp moves.client (co n) cookie

  are : AreOwn Comes
  are = record {
    one = λ n. moment.now.cookies.one (co n);
    own = moment.now.cookies.own ClientOut;
  }

  abbrev confirmed : List OnLeg → List Cookie
  confirmed log = named_in confirms (of_kind InServer log)

  abbrev switched : Moves → List Cookie
  switched these = named_in switches (of_kind ClientIn (client_behind numbers these).passage.put)

  asked_at : (past : IsPast numbers moves) → InOrder Comes 1 (switched past.moves_then)
  asked_at past =
      let before = past.moves_then in
      in_order_so (λ (n : ℕ) (c : Cookie). HasComeUp before.client (co n) c) Comes
      (λ (n : ℕ) (c : Cookie) (up : HasComeUp before.client (co n) c).
      subst (λ (ms : List EndMove). HasComeUp ms (co n) c) past.client.1
      (come_up_more before.client past.client.0 (co n) c up)) 1 (switched before)
      (switched_in_order (HasComeUp before.client) 1
      (of_kind ClientIn (client_behind numbers before).passage.put)
      (law.switches before past.then_joined.made))

  -- ---- fronts of the server's moves

  abbrev IsAt : List EndMove → Type 0
  IsAt front = InOrder Comes 1 (confirmed (server_at numbers front).passage.came)

  -- at a moment where one more came
  more_at : (past : IsPast numbers moves) (before : List OnLeg) (one : OnLeg)
      → (server_behind numbers past.moves_then).passage.came ≡ before ++ one ∷ []
      → out_put at_server.is_out_r1_a5 (server_behind numbers past.moves_then).passage
      ≤ suc (count_of at_server.is_out_r1_a8 (of_kind InServer before))
      → InOrder Comes 1 (confirmed before) → InOrder Comes 1 (confirmed (before ++ one ∷ []))
  more_at past before one came left known =
      let these = past.moves_then in
      let joined = past.then_joined.joined in
      let outs = (law.round past.reader_then these past.then_joined.made joined).outs in
      let switched = outs.a7_behind_a6 in
      let answered = outs.a6_behind_a5 in
      more_in_order numbers past.reader_then these joined (law.paid these past.then_joined.made)
      Comes are (asked_at past) before known (omega (arith, left, switched, answered)) one
      (λ of k.
      subst (λ (log : List OnLeg). count_on (at_proxy.is_out_r1_a8 of) InServer log k
      ≤ count_on (at_proxy.is_out_r1_a8 of) InServer (in_behind numbers these k).put k) came
      (front_count (at_proxy.is_out_r1_a8 of)
      (of_leg (is_leg k) (server_behind numbers these).passage.came)
      (of_leg (is_leg k) (in_behind numbers these k).put)
      (is_front past.reader_then (passages numbers these) joined k)))

  next_front : (front : List EndMove) (move : EndMove) (later : List EndMove)
      → moves.server ≡ front ++ move ∷ later → IsAt front → IsAt (front ++ move ∷ [])
  next_front front move later e known =
      by (one_more server_rules acts (server_at numbers front) move)
      (moment.server_past (front ++ move ∷ []) later
      (e ∙ sym (append_assoc front (move ∷ []) later)))
    where
      p : Passage Server
      p = (server_at numbers front).passage

      q : Passage Server
      q = (end_moved server_rules acts (server_at numbers front) move).passage

      same : (server_at numbers (front ++ move ∷ [])).passage ≡ q
      same = ap (λ (x : EndPassage Server). x.passage)
          (behind_all server_rules acts (end_started (first numbers.window)) front move)

      by : IsOneMore server_rules acts p q
          → (past : IsPast numbers moves) × (past.moves_then.server ≡ front ++ move ∷ [])
          → IsAt (front ++ move ∷ [])
      by (inl still) past =
          subst (λ (x : Passage Server). InOrder Comes 1 (confirmed x.came)) (sym same)
          (subst (λ (log : List OnLeg). InOrder Comes 1 (confirmed log)) (sym still) known)
      by (inr more) past =
          let now : (server_behind numbers past.0.moves_then).passage ≡ q =
          ap (λ (ms : List EndMove). (server_at numbers ms).passage) past.1 ∙ same in
          let put : out_put at_server.is_out_r1_a5 (server_behind numbers past.0.moves_then).passage
          ≡ out_put at_server.is_out_r1_a5 p =
          ap (out_put at_server.is_out_r1_a5) now
          ∙ ap (at_server.often at_server.is_out_r1_a5 OutServer) more.2 in
          let left = one_left p (law.turns front) in
          subst (λ (x : Passage Server). InOrder Comes 1 (confirmed x.came)) (sym same)
          (subst (λ (log : List OnLeg). InOrder Comes 1 (confirmed log)) (sym more.1)
          (more_at past.0 p.came more.0
          (ap (λ (x : Passage Server). x.came) now ∙ more.1) (omega (arith, put, left)) known))

  abbrev server : Passage Server
  server = (server_behind numbers moves).passage

  in_order : InOrder Comes 1 (confirmed server.came)
  in_order = all_fronts IsAt moves.server next_front tt

  -- ---- the next

  module _ (n to : ℕ) (cookie : Cookie)
      (ahead : IsPrefix (of_leg (is_leg n) server.came ++ Packet (OutR1A8 to cookie) ∷ [])
      (all_read_of (of_leg (is_leg n) (in_behind numbers moves n).put))) where
    abbrev one : OnLeg
    one = (is_leg n, Packet (OutR1A8 to cookie))

    within_now : (test : Named → Bool) (k : ℕ)
        → count_on test InServer (server.came ++ one ∷ []) k
        ≤ count_on test InServer (in_behind numbers moves k).put k
    within_now test =
        ahead_counts test server.came n (Packet (OutR1A8 to cookie))
        (λ k. of_leg (is_leg k) (in_behind numbers moves k).put)
        (is_front reader (passages numbers moves) moment.now.joined) ahead

    paid : (m : ℕ) → PutsForWhatCame m (in_behind numbers moves m)
    paid = law.paid moves moment.now.made

    round : GoRound (client_behind numbers moves).passage server
    round = law.round reader moves moment.now.made moment.now.joined

    -- one more was put, and so is asked for
    pub one_asked : suc (in_came at_server.is_out_r1_a8 server)
        ≤ out_put at_server.is_out_r1_a5 server
    one_asked =
        let all = all_within numbers reader moves moment.now.joined paid (server.came ++ one ∷ [])
        (within_now (at_proxy.is_out_r1_a8 any)) in
        let more = ap (count_of at_server.is_out_r1_a8)
        (kind_here InServer server.came one true refl) in
        let both = count_append at_server.is_out_r1_a8 (of_kind InServer server.came)
        (Packet (OutR1A8 to cookie) ∷ []) in
        let switched = round.outs.a7_behind_a6 in
        let answered = round.outs.a6_behind_a5 in
        omega (arith, all, more, both, switched, answered)

    -- it is that of the channel behind the writing one
    pub next_is : Comes (suc (suc (out_put at_server.is_out_r1_a9 server))) cookie
    next_is =
        let left = one_left server (law.turns moves.server) in
        let switched = round.outs.a7_behind_a6 in
        let answered = round.outs.a6_behind_a5 in
        let ends = (law.turns moves.server).a9_behind_a8 in
        let answers = (law.turns moves.server).a5_behind_a4 in
        let begins = (law.turns moves.server).a4_behind_a1 in
        let one = (law.turns moves.server).a1_behind_a9 in
        let more = one_asked in
        let all = all_confirmed (of_kind InServer server.came) in
        let last = last_in_order Comes 1 (confirmed server.came) cookie
        (next_confirms numbers reader moves moment.now.joined paid Comes are
        (switched_in_order (HasComeUp moves.client) 1
        (of_kind ClientIn (client_behind numbers moves).passage.put)
        (law.switches moves moment.now.made)) server.came in_order
        (omega (arith, left, switched, answered)) (is_leg n) to cookie refl
        (within_now (at_proxy.is_out_r1_a8 (is_same cookie)))) in
        let same : suc (1 + length (confirmed server.came))
        ≡ suc (suc (out_put at_server.is_out_r1_a9 server)) =
        omega (arith, all, more, ends, answers, begins, one) in
        subst (λ (k : ℕ). Comes k cookie) same last
