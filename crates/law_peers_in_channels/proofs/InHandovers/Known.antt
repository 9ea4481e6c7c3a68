-- fronts of a server's moves behind which so many IN channels were announced, and all are answered
use Rattle.law_order.proofs.Vocabulary.{◌≡◌, ℕ, suc, ◌+◌, ◌<◌, ◌≤◌, Bool, true, false, List, [], ◌∷◌, ◌++◌, append_assoc, refl, sym, ap, ◌∙◌, subst, arith, nat_tests, nat_le}
use Rattle.law_moves.proofs.Vocabulary.{EndMove, EndPassage, Passage, all_end_moved, end_moved, end_started}
use Rattle.law_role_server.proofs.Vocabulary.{acts, first, rules, Server, in_came, is_conn_a2, is_conn_b2, is_in_r1_a2, is_in_r1_a3, out_came, out_put, OpensOnce}
use Rattle.law_role_server.specs.Counted.Answering as at_server
use Rattle.law_peers_moments.specs.GoingRound.{GoRound, announced, taken_in}
use Rattle.law_peers_moments.specs.Moments.{AreJoined, AreMade, IsMoment, IsPast, Moves, Numbers, client_behind, passages, server_behind}
use Rattle.law_peers_in_channels.proofs.ServerExpects.Fronts.{IsOneMore, behind_all, one_more}
use Rattle.law_peers_in_channels.proofs.InHandovers.Crossing.{Crossing, crossing}
use Rattle.law_peers_in_channels.proofs.InHandovers.Rising.{IsAnnouncedBy, announced_by}
use Rattle.law_peers_in_channels.specs.InChannels.{AreAnnounced, AreAnswered, passed}

-- what is known of a moment
pub record Known (numbers : Numbers) (reader : ℕ → ℕ) (moves : Moves) : Type 0 where
  pub order : (front later : List EndMove) → moves.server ≡ front ++ later
      → AreAnnounced reader (passed numbers front)
  pub answered : AreAnswered numbers moves.server
  pub answers : (moves : List EndMove) → at_server.AreAnswered (passed numbers moves)
  pub opens : (moves : List EndMove) → OpensOnce (passed numbers moves)
  pub round : (reader : ℕ → ℕ) (moves : Moves) → AreMade numbers moves
      → AreJoined reader (passages numbers moves)
      → GoRound (client_behind numbers moves).passage (server_behind numbers moves).passage

-- where an IN channel was announced behind the first one, CONN/B2 came
pub connected : (p : Passage Server) → OpensOnce p → 1 ≤ announced p
    → in_came is_conn_b2 p ≡ 1
connected p h some = by (nat_le (out_came is_conn_a2 p + in_came is_conn_b2 p) 1) refl
  where
    by : (b : Bool) → nat_le (out_came is_conn_a2 p + in_came is_conn_b2 p) 1 ≡ b
        → in_came is_conn_b2 p ≡ 1
    by true e =
        let early = h.early (grind (arith, nat_tests, e)) in
        let first = early.in_r1_a2 in
        let later = early.in_r2_a2 in absurd (omega (arith, first, later, some))
    by false e =
        let outs = h.conn_a2_once in
        let ins = h.conn_b2_once in grind (arith, nat_tests, e, outs, ins)

-- all that were announced are answered, so none of IN_R1/A2 waits
pub none_waits : (p : Passage Server) → at_server.AreAnswered p → announced p ≤ taken_in p
    → in_came is_in_r1_a2 p ≤ out_put is_in_r1_a3 p
none_waits p h all = let later = h.in_r2_at_most in omega (arith, later, all)

module _ (numbers : Numbers) (reader : ℕ → ℕ) (moves : Moves)
    (moment : IsMoment numbers reader moves) (known : Known numbers reader moves) where
  abbrev start : EndPassage Server
  start = end_started (first numbers.window)

  ahead_then : (past : IsPast numbers moves)
      → announced (passed numbers past.moves_then.server)
      ≤ suc (taken_in (passed numbers past.moves_then.server))
  ahead_then past =
      let round = (known.round past.reader_then past.moves_then past.then_joined.made
      past.then_joined.joined).ins in
      let answers = round.a4_behind_a3 in
      let asked = round.a2_behind_a1 in
      let one = round.a1_behind_a4 in omega (arith, answers, asked, one)

  -- at most one is not answered
  one_ahead : (front later : List EndMove) → moves.server ≡ front ++ later
      → announced (passed numbers front) ≤ suc (taken_in (passed numbers front))
  one_ahead front later e =
      let past = moment.server_past front later e in
      subst (λ (ms : List EndMove).
      announced (passed numbers ms) ≤ suc (taken_in (passed numbers ms))) past.1
      (ahead_then past.0)

  -- the move that announced one more than so many, behind the answers to these
  pub record Next (count : ℕ) : Type 0 where
    pub front : List EndMove
    pub move : EndMove
    pub later : List EndMove
    pub is : moves.server ≡ front ++ move ∷ later
    pub so_many : announced (passed numbers front) ≡ count
    pub are_answered : count ≤ taken_in (passed numbers front)
    pub behind : IsAnnouncedBy (passed numbers front) (passed numbers (front ++ move ∷ []))

  pub behind_is : (count : ℕ) (next : Next count)
      → moves.server ≡ (next.front ++ next.move ∷ []) ++ next.later
  behind_is count next =
      next.is ∙ sym (append_assoc next.front (next.move ∷ []) next.later)

  pub next_announced : (count : ℕ) → count < announced (passed numbers moves.server)
      → Next count
  next_announced count more =
      by (crossing rules acts (λ (p : EndPassage Server). announced p.passage) (suc count) start
      moves.server (omega arith) (omega (arith, more)))
    where
      by : Crossing rules acts (λ (p : EndPassage Server). announced p.passage) (suc count) start
          moves.server
          → Next count
      by at =
          let same : passed numbers (at.front ++ at.move ∷ [])
          ≡ (end_moved rules acts (all_end_moved rules acts start at.front) at.move).passage =
          ap (λ (x : EndPassage Server). x.passage)
          (behind_all rules acts start at.front at.move) in
          let above : suc count ≤ announced (passed numbers (at.front ++ at.move ∷ [])) =
          subst (λ (p : Passage Server). suc count ≤ announced p) (sym same) at.above in
          let below = at.below in
          let behind = announced_by (passed numbers at.front)
          (passed numbers (at.front ++ at.move ∷ []))
          (subst (λ (q : Passage Server). IsOneMore rules acts (passed numbers at.front) q)
          (sym same) (one_more rules acts (all_end_moved rules acts start at.front) at.move))
          (omega (arith, below, above)) in
          let most = one_ahead (at.front ++ at.move ∷ []) at.later
          (at.is ∙ sym (append_assoc at.front (at.move ∷ []) at.later)) in
          let next = behind.next in
          let still = behind.still in
          record {
            front = at.front;
            move = at.move;
            later = at.later;
            is = at.is;
            so_many = omega (arith, below, above, next);
            are_answered = omega (arith, above, most, still);
            behind = behind;
          }
