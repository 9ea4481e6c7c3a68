-- the numbers of a shell, written out
use Rattle.std.specs.Prelude.{◌≡◌}
use Rattle.rh_shell.specs.declared.waiting.TheConstants.{FORWARDED_ROOM, OWN_ROOM}
use Rattle.rh_shell.specs.declared.text.TheConstants.{GREETING_LEN}

pub record AreFixed : Type 0 where
  -- the most packets to be forwarded that wait for a leg, and of a role's own (profile)
  pub forwarded_room : FORWARDED_ROOM ≡ 16
  pub own_room : OWN_ROOM ≡ 8
  -- the bytes of a greeting (profile)
  pub greeting_length : GREETING_LEN ≡ 14
