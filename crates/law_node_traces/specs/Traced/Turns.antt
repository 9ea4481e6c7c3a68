-- what each node hears in its turn (profile)
use Rattle.std.specs.Prelude.{ℕ}
use Rattle.law_node_history.specs.Carried.{happened}
use Rattle.law_node_history.specs.Histories.{History}
use Rattle.law_node_streams.specs.Streams.{HearsInTurn}

-- at each node pieces come only on legs that came up before
pub record HearInTurn (h : History) : Type 0 where
  pub client : HearsInTurn (happened h.client)
  pub server : HearsInTurn (happened h.server)
  pub ins : (n : ℕ) → HearsInTurn (h.ins n)
  pub outs : (n : ℕ) → HearsInTurn (h.outs n)
