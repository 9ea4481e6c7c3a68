-- on which is legs a server tells its window (MS-RPCH 3.2.1; successors are this profile's)
use Rattle.std.specs.Prelude.{ℕ, ◌+◌, ◌<◌, ◌≤◌, List, IsTrue}
use Rattle.rh_server.specs.States.{Server}
use Rattle.law_moves.specs.Moves.{EndMove, Passage}
use Rattle.law_role_server.specs.Order.{came_up}
use Rattle.law_role_server.specs.Counted.Counting.{is_conn_b3, is_in_r1_a6}
use Rattle.law_role_server_in.specs.Refusing.{came_at, first_at, is_in_r1_b2, put_at}

-- it did on is leg n, by CONN/B3 or IN_R1/B2
abbrev pub IsTold : Passage Server → ℕ → Type 0
IsTold p n = 1 ≤ put_at is_conn_b3 p n + put_at is_in_r1_b2 p n

-- only where IN_R1/A6 came on each leg below that came up, so on each on which a channel began
pub record TellsBehind (moves : List EndMove) (p : Passage Server) : Type 0 where
  pub up : (m n : ℕ) → IsTold p n → m < n → IsTrue (came_up moves m)
      → 1 ≤ came_at is_in_r1_a6 p m
  pub begun : (m n : ℕ) → IsTold p n → m < n → 1 ≤ first_at p m → 1 ≤ came_at is_in_r1_a6 p m
