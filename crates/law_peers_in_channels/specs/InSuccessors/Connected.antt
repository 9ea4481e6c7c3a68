-- the is legs that come up for a server are those of in proxies that were made for an IN channel of
-- the client (MS-RPCH 3.2.3; profile)
use Rattle.std.specs.Prelude.{ℕ, ◌≡◌, ◌≤◌, IsTrue}
use Rattle.rh_rts.specs.declared.command.Cookie.{Cookie}
use Rattle.rh_client.specs.State.{ci}
use Rattle.law_moves.specs.Passages.Rising.{HasComeUp}
use Rattle.law_role_server.specs.Order.{came_up}
use Rattle.law_peers_moments.specs.Moments.{Moves}

-- channel n came up at the client, and the in proxy of its number reads it
pub record IsConnected (reader : ℕ → ℕ) (moves : Moves) (n : ℕ) : Type 0 where
  pub positive : 1 ≤ n
  pub read : reader n ≡ n
  pub opened : (cookie : Cookie) × HasComeUp moves.client (ci n) cookie

abbrev pub AreConnected : (ℕ → ℕ) → Moves → Type 0
AreConnected reader moves = (n : ℕ) → IsTrue (came_up moves.server n) → IsConnected reader moves n
