-- no more IN channels are announced than were answered, but for the first and one that is asked for
use Rattle.law_order.proofs.Vocabulary.{◌≡◌, ℕ, ◌+◌, ◌≤◌, List, ◌++◌, subst, arith}
use Rattle.rh_server.specs.declared.state.Stage.TheVariants as stage
use Rattle.law_moves.proofs.Vocabulary.{EndMove}
use Rattle.law_role_server.proofs.Vocabulary.{Stage, OpensOnce, since_conn_b2}
use Rattle.law_peers_moments.specs.GoingRound.{GoRound, taken_in}
use Rattle.law_peers_moments.specs.Moments.{AreJoined, AreMade, IsMoment, IsPast, Moves, Numbers, client_behind, passages, server_behind}
use Rattle.law_role_server_in.specs.Handovers.{passed}
use Rattle.law_peers_in_channels.specs.InChannels.{channels}

pub once : (x : Stage) → since_conn_b2 x ≤ 1
once stage.Waits = omega arith
once (stage.OutCame connection) = omega arith
once (stage.InCame connection window timeout) = omega arith
once (stage.Open connection) = omega arith
once stage.Ended = omega arith

module _ (numbers : Numbers) (reader : ℕ → ℕ) (moves : Moves)
    (moment : IsMoment numbers reader moves)
    (rounds : (reader : ℕ → ℕ) (moves : Moves) → AreMade numbers moves
    → AreJoined reader (passages numbers moves)
    → GoRound (client_behind numbers moves).passage (server_behind numbers moves).passage)
    (opens : (front : List EndMove) → OpensOnce (passed numbers.window front)) where
  pub few_open : (front later : List EndMove) → moves.server ≡ front ++ later
      → channels (passed numbers.window front) ≤ taken_in (passed numbers.window front) + 2
  few_open front later is =
      subst (λ (ms : List EndMove).
      channels (passed numbers.window ms) ≤ taken_in (passed numbers.window ms) + 2) past.1 then_few
    where
      past : (x : IsPast numbers moves) × (x.moves_then.server ≡ front)
      past = moment.server_past front later is

      then_few : channels (passed numbers.window past.0.moves_then.server)
          ≤ taken_in (passed numbers.window past.0.moves_then.server) + 2
      then_few =
          let round = rounds past.0.reader_then past.0.moves_then past.0.then_joined.made
          past.0.then_joined.joined in
          let answered = round.ins.a4_behind_a3 in
          let told = round.ins.a2_behind_a1 in
          let asked = round.ins.a1_behind_a4 in
          let first = (opens past.0.moves_then.server).conn_b2 in
          let one = once (passed numbers.window past.0.moves_then.server).role.stage in
          omega (arith, answered, told, asked, first, one)
