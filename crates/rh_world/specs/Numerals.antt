-- the numbers of a world, written out
use Rattle.std.specs.Prelude.{◌≡◌, [], ◌∷◌}
use Rattle.rh_world.specs.declared.roles.TheConstants.{PORT, CLIENT_ADDRESS}

pub record AreFixed : Type 0 where
  -- the server's port and the client's address (profile)
  pub port : PORT ≡ 593
  pub client_address : CLIENT_ADDRESS ≡ 127 ∷ 0 ∷ 0 ∷ 1 ∷ []
