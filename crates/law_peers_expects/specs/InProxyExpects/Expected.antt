-- on which ci legs of an in proxy it can be asked what comes next (profile)
use Rattle.std.specs.Prelude.{ℕ, ◌≡◌, List, true, IsTrue}
use Rattle.std.specs.List.{list_any}
use Rattle.rh_inproxy.specs.Machine.{rules}
use Rattle.rh_inproxy.specs.State.{InProxy}
use Rattle.rh_client.specs.State.{ci}
use Rattle.law_moves.specs.Moves.{Move, Passage}
use Rattle.law_node_streams.specs.Streams.{is_up_on}
use Rattle.law_peers_moments.specs.Moments.{Moves}

-- a ci leg that was up came up by one of the moves
abbrev pub CameUpByMoves : List Move → Passage InProxy → Type 0
CameUpByMoves moves p =
    (n : ℕ) → IsTrue (rules.was_up p.role (ci n)) → list_any (is_up_on (ci n)) moves ≡ true

-- the ci legs that came up at an in proxy are those that it reads
abbrev pub AreReadWhereUp : (ℕ → ℕ) → Moves → Type 0
AreReadWhereUp reader moves =
    (m n : ℕ) → list_any (is_up_on (ci n)) (moves.ins m) ≡ true → reader n ≡ m
