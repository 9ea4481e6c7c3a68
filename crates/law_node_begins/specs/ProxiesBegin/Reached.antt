-- the ci legs that came up, by the moves of an in proxy (profile)
use Rattle.std.specs.Prelude.{ℕ, ◌≡◌, ◌⊎◌, List, Bool, true}
use Rattle.std.specs.List.{list_any}
use Rattle.rh_line.specs.declared.leg.Leg.{Leg}
use Rattle.rh_inproxy.specs.declared.state.InProxyConfig.{InProxyConfig}
use Rattle.law_moves.specs.Moves.{Move}
use Rattle.law_node_streams.specs.Streams.{is_up_on}
use Rattle.law_node_begins.specs.ProxiesBegin.Pipes.{ci}

-- the leg came up by one of the moves
abbrev pub came_up_by : Leg → List Move → Bool
came_up_by leg moves = list_any (is_up_on leg) moves

-- it is the number of the first ci leg, or that ci leg came up
abbrev pub IsKnown : InProxyConfig → List Move → ℕ → Type 0
IsKnown config moves number =
    (number ≡ config.number) ⊎ (came_up_by (ci number) moves ≡ true)
