-- what is asked of the numbers of a virtual connection, and of the cookies of its OUT channels
use Rattle.std.specs.Prelude.{ℕ}
use Rattle.rh_window.specs.Sides.{IsWindow}
use Rattle.rh_client.specs.State.{co}
use Rattle.rh_server.specs.States.{no_cookie}
use Rattle.law_moves.specs.Passages.Rising.{HasComeUp}
use Rattle.law_peers_moments.specs.Moments.{Moves, Numbers}
use Rattle.law_peers_expects.specs.OutProxyExpects.Early.{HaveLifetimes}

-- the client's window and the lifetimes of out proxies are in range, and no OUT leg of the client
-- comes up with the cookie that stands for none (MS-RPCH 2.2.3.1, 2.2.3.5)
pub record AreFit (numbers : Numbers) (moves : Moves) : Type 0 where
  pub window : IsWindow numbers.client.window
  pub lifetimes : HaveLifetimes numbers
  pub cookies : (n : ℕ) → HasComeUp moves.client (co n) no_cookie → ⊥
