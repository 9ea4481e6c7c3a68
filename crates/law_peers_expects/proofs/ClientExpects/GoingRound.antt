-- what goes round at a moment: the packets that the server puts for its client on OUT channels, and
-- what the client puts for them
use Rattle.law_order.proofs.Vocabulary.{◌≡◌, ℕ, ◌+◌, ◌≤◌, Bool, true, List, [], ◌∷◌, ◌++◌, subst, arith, IsPrefix}
use Rattle.rh_outproxy.specs.Machine as out_proxy
use Rattle.rh_client.specs.Client as client
use Rattle.rh_client.specs.State as client_state
use Rattle.rh_server.specs.Servers as server
use Rattle.law_moves.proofs.Vocabulary.{Named, ClientConfig, ClientOut, OutServer, Packet, AreAllowedAtEnd, EndMove, Move, Passage, all_end_moved, all_moved, end_started, started, of_leg, all_read_of, count_of, count_on}
use Rattle.law_role_client.proofs.Vocabulary.{ClientRole, co, AsksWhereWanted, ReplacesOuts}
use Rattle.law_role_client.specs.Counted.Counting as at_client
use Rattle.law_role_server.proofs.Vocabulary.{Server, ArePutInTurn}
use Rattle.law_role_server.specs.Counted.Counting as at_server
use Rattle.law_role_outproxy.proofs.Vocabulary.{OutProxyConfig, new_proxy, ForwardsWhatCame, os_leg}
use Rattle.law_peers_moments.proofs.Joining.{co_back, os_back}
use Rattle.law_peers_moments.proofs.Read.{front_count}
use Rattle.law_peers_moments.specs.Moments.{AreJoined, AreMade, IsJoined, Moves, Numbers, Passages, client_behind, passages, server_behind}
use Rattle.law_peers_moments.specs.GoingRound.{GoRound}
use Rattle.law_peers_expects.proofs.ClientExpects.Ahead.{ahead_counts}
use Rattle.law_peers_expects.proofs.ClientExpects.Forwarding.{Forwarding, wish}
use Rattle.law_peers_expects.proofs.ClientExpects.Wishes.{AreAsked}

-- ---- the laws

abbrev pub ClientLaw : (Passage ClientRole → Type 0) → Type 0
ClientLaw P =
    (config : ClientConfig) (moves : List EndMove)
    → AreAllowedAtEnd client.rules client.acts (end_started (client_state.first config)) moves
    → P (all_end_moved client.rules client.acts (end_started (client_state.first config))
    moves).passage

abbrev pub ServerLaw : (Passage Server → Type 0) → Type 0
ServerLaw P =
    (window : ℕ) (moves : List EndMove)
    → P (all_end_moved server.rules server.acts (end_started (server.first window))
    moves).passage

pub record RoundLaws : Type 0 where
  pub replaces : ClientLaw ReplacesOuts
  pub asks : ClientLaw AsksWhereWanted
  pub turns : ServerLaw ArePutInTurn
  pub forwards : (config : OutProxyConfig) (moves : List Move)
      → ForwardsWhatCame config.number
      (all_moved out_proxy.rules (started (new_proxy config)) moves)
  pub round : (numbers : Numbers) (reader : ℕ → ℕ) (moves : Moves) → AreMade numbers moves
      → AreJoined reader (passages numbers moves)
      → GoRound (client_behind numbers moves).passage (server_behind numbers moves).passage

-- ---- a moment

module _ (laws : RoundLaws) (numbers : Numbers) (reader : ℕ → ℕ) (moves : Moves)
    (moment : IsJoined numbers reader moves) where
  abbrev all : Passages
  all = passages numbers moves

  pub round_at : GoRound all.client all.server
  round_at = laws.round numbers reader moves moment.made moment.joined

  pub replaces_at : ReplacesOuts all.client
  replaces_at = laws.replaces numbers.client moves.client moment.made.client

  pub turns_at : ArePutInTurn all.server
  turns_at = laws.turns numbers.window moves.server

  forwards_at : (n : ℕ) → ForwardsWhatCame n (all.outs n)
  forwards_at n =
      subst (λ (k : ℕ). ForwardsWhatCame k (all.outs n)) (moment.made.out_number n)
      (laws.forwards (numbers.outs n) (moves.outs n))

  -- what stands there is an answer to what the server put
  module _ (before behind : Named → Bool) (way : Forwarding before behind) (n : ℕ) where
    from_server : count_of way.put (of_leg (co n) (all.outs n).put)
        ≤ count_on before OutServer all.server.put n
    from_server =
        let passes = way.passes n (all.outs n) (forwards_at n) in
        let front = front_count way.came (of_leg (os_leg n) (all.outs n).came)
        (of_leg (os_leg n) all.server.put) (os_back reader all moment.joined n) in
        let same = way.first (of_leg (os_leg n) all.server.put) in
        omega (arith, passes, front, same)

    pub came_of : count_on behind ClientOut all.client.came n
        ≤ count_on before OutServer all.server.put n
    came_of =
        let front = front_count way.put (of_leg (co n) all.client.came)
        (of_leg (co n) (all.outs n).put) (co_back reader all moment.joined n) in
        let same = way.last (of_leg (co n) all.client.came) in
        let put = from_server in
        omega (arith, front, same, put)

    pub next_of_put : (packet : Named) → way.put packet ≡ true
        → IsPrefix (of_leg (co n) all.client.came ++ Packet packet ∷ [])
        (all_read_of (of_leg (co n) (all.outs n).put))
        → count_on behind ClientOut all.client.came n + 1
        ≤ count_on before OutServer all.server.put n
    next_of_put packet is ahead =
        let more = ahead_counts way.put packet (of_leg (co n) all.client.came)
        (of_leg (co n) (all.outs n).put) is ahead in
        let same = way.last (of_leg (co n) all.client.came) in
        let put = from_server in
        omega (arith, more, same, put)

  -- as many OUT_R1/A2 came on each OUT channel as the server put OUT_R1/A1 there at most
  pub are_asked : AreAsked all.client all.server
  are_asked = record {
    on = came_of at_server.is_out_r1_a1 at_client.is_out_r1_a2 wish;
    each = turns_at.a1;
    one =
        let outs = round_at.outs in
        let a = outs.a1_behind_a9 in
        let b = outs.a9_behind_a8 in
        let d = outs.a8_behind_a7 in
        let e = outs.a7_behind_a6 in
        let f = replaces_at.asked in
        omega (arith, a, b, d, e, f);
  }
