-- what the hops of a client ask of a world (profile)
use Rattle.std.specs.Prelude.{◌≡◌, ℕ}
use Rattle.law_world_order.specs.Flows.{Numbers}

-- all in proxies have one window: a successor that its predecessor's proxy reads goes on in that of
-- the channel before (MS-RPCH 3.2)
abbrev pub HasOneWindow : Numbers → Type 0
HasOneWindow numbers = (m n : ℕ) → (numbers.ins m).window ≡ (numbers.ins n).window
