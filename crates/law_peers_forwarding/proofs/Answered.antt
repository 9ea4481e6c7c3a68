-- one answer for an IN channel at most is due at a server
use Rattle.law_order.proofs.Vocabulary.{◌≡◌, ℕ, suc, ◌+◌, ◌≤◌, List, ◌++◌, subst, arith}
use Rattle.law_moves.proofs.Vocabulary.{EndMove, Passage}
use Rattle.law_role_server.proofs.Vocabulary.{Server, AreAnswered, how_many, waits_on}
use Rattle.law_peers_moments.specs.GoingRound.{GoRound, announced, taken_in}
use Rattle.law_peers_moments.specs.Moments.{AreJoined, AreMade, IsMoment, IsPast, Moves, Numbers, client_behind, passages, server_behind}
use Rattle.law_peers_in_channels.specs.InChannels.{passed}
use Rattle.law_peers_forwarding.specs.ServerFull.Taken.{due_in}
use Rattle.law_peers_forwarding.specs.Passing.{OneIsDue}

-- each announcement was answered, or its answer is due, or its channel waits
pub all_answered : (p : Passage Server) → AreAnswered p
    → taken_in p + due_in p.role + how_many waits_on p.role.ins ≡ announced p
all_answered p h =
    let begun = h.in_r1 in
    let next = h.in_r2 in omega (arith, begun, next)

module _ (numbers : Numbers) (reader : ℕ → ℕ) (moves : Moves)
    (moment : IsMoment numbers reader moves)
    (round : (reader : ℕ → ℕ) (moves : Moves) → AreMade numbers moves
    → AreJoined reader (passages numbers moves)
    → GoRound (client_behind numbers moves).passage (server_behind numbers moves).passage) where
  ahead_then : (past : IsPast numbers moves)
      → announced (passed numbers past.moves_then.server)
      ≤ suc (taken_in (passed numbers past.moves_then.server))
  ahead_then past =
      let ins = (round past.reader_then past.moves_then past.then_joined.made
      past.then_joined.joined).ins in
      let answers = ins.a4_behind_a3 in
      let asked = ins.a2_behind_a1 in
      let one = ins.a1_behind_a4 in omega (arith, answers, asked, one)

  -- one announcement at most was not answered
  pub one_ahead : (front later : List EndMove) → moves.server ≡ front ++ later
      → announced (passed numbers front) ≤ suc (taken_in (passed numbers front))
  one_ahead front later e =
      let past = moment.server_past front later e in
      subst (λ (ms : List EndMove).
      announced (passed numbers ms) ≤ suc (taken_in (passed numbers ms))) past.1
      (ahead_then past.0)

  pub one_is_due : ((moves : List EndMove) → AreAnswered (passed numbers moves))
      → OneIsDue numbers.window moves.server
  one_is_due answered front later e =
      let all = all_answered (passed numbers front) (answered front) in
      let most = one_ahead front later e in omega (arith, all, most)
