-- the laws of the roles at a moment
use Rattle.law_order.proofs.Vocabulary.{◌≡◌, ℕ, List, ◌∙◌, subst}
use Rattle.rh_outproxy.specs.Machine as out_proxy
use Rattle.rh_client.specs.Client as client
use Rattle.rh_client.specs.State as client_state
use Rattle.law_moves.proofs.Vocabulary.{ClientConfig, ClientOut, AreAllowed, AreAllowedAtEnd, EndMove, Move, all_end_moved, all_moved, end_started, started, of_leg, AreCounted, AreInTurn}
use Rattle.law_role_client.proofs.Vocabulary.{StandsOnEach, is_out_r1_a2, NamesOuts}
use Rattle.law_role_client.specs.Counted.Opening as client_opens
use Rattle.law_role_server.specs.Counted.Opening as server_opens
use Rattle.law_role_outproxy.proofs.Vocabulary.{OutProxyConfig, new_proxy, KeepsOrder, IsToClient, PutsToClient, co_leg, os_leg}
use Rattle.law_role_outproxy.proofs.OrderKept.{starts, steps}
use Rattle.law_role_client_rows.specs.Refusing.{Refuses}
use Rattle.law_role_server_rows.specs.InTurn.Channels.{WritesOnBegun}
use Rattle.law_role_server_rows.specs.InTurn.Numbers.{HasNumbers}
use Rattle.law_peers_moments.specs.Moments.{IsJoined, IsMoment, Moves, Numbers, Passages, client_behind, passages}
use Rattle.law_peers_expects.proofs.ClientExpects.GoingRound.{ClientLaw, RoundLaws, ServerLaw}

pub record Laws : Type 0 where
  pub rounds : RoundLaws
  pub wanted : (numbers : Numbers) (reader : ℕ → ℕ) (moves : Moves)
      → IsMoment numbers reader moves
      → StandsOnEach is_out_r1_a2 ClientOut 1 (client_behind numbers moves).passage.came
  pub opens : ClientLaw client_opens.OpensOnce
  pub refuses : ClientLaw Refuses
  pub names : (config : ClientConfig) (moves : List EndMove)
      → AreAllowedAtEnd client.rules client.acts (end_started (client_state.first config)) moves
      → NamesOuts config.connection
      (all_end_moved client.rules client.acts (end_started (client_state.first config))
      moves).passage
  pub server_opens : ServerLaw server_opens.OpensOnce
  pub writes : ServerLaw WritesOnBegun
  pub counts : ServerLaw HasNumbers
  pub order : (config : OutProxyConfig) (moves : List Move)
      → AreAllowed out_proxy.rules (started (new_proxy config)) moves
      → KeepsOrder config.number (all_moved out_proxy.rules (started (new_proxy config)) moves)
  pub puts : (config : OutProxyConfig) (moves : List Move)
      → AreAllowed out_proxy.rules (started (new_proxy config)) moves
      → AreCounted out_proxy.rules (started (new_proxy config)) moves
      → AreInTurn out_proxy.rules (new_proxy config) moves
      → PutsToClient config (all_moved out_proxy.rules (started (new_proxy config)) moves)

-- ---- of an out proxy

module _ (laws : Laws) (numbers : Numbers) (reader : ℕ → ℕ) (moves : Moves)
    (moment : IsJoined numbers reader moves) where
  abbrev all : Passages
  all = passages numbers moves

  pub puts_at : (n : ℕ) → IsToClient (numbers.outs n) (of_leg (co_leg n) (all.outs n).came)
      (of_leg (os_leg n) (all.outs n).came) (of_leg (co_leg n) (all.outs n).put)
  puts_at n =
      subst (λ (k : ℕ). IsToClient (numbers.outs n) (of_leg (co_leg k) (all.outs n).came)
      (of_leg (os_leg k) (all.outs n).came) (of_leg (co_leg k) (all.outs n).put))
      (moment.made.out_number n)
      (laws.puts (numbers.outs n) (moves.outs n) (moment.made.outs n) (moment.made.outs_counted n)
      (moment.made.outs_turn n))

  pub order_at : (n : ℕ) → KeepsOrder n (all.outs n)
  order_at n =
      subst (λ (k : ℕ). KeepsOrder k (all.outs n)) (moment.made.out_number n)
      (laws.order (numbers.outs n) (moves.outs n) (moment.made.outs n))

  pub number_at : (n : ℕ) → (all.outs n).role.config.number ≡ n
  number_at n =
      (steps (numbers.outs n).number (started (new_proxy (numbers.outs n))) (moves.outs n)
      (moment.made.outs n) (starts (numbers.outs n))).number ∙ moment.made.out_number n
