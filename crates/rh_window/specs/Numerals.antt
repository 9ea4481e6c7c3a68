-- the numbers of windows, written out
use Rattle.std.specs.Prelude.{◌≡◌}
use Rattle.rh_window.specs.declared.range.TheConstants.{LEAST_WINDOW, GREATEST_WINDOW, DEFAULT_WINDOW}
use Rattle.rh_window.specs.declared.fault.TheConstants.{FLOW_CONTROL_ACK}

pub record AreFixed : Type 0 where
  -- the range of a window, in bytes (profile)
  pub least_window : LEAST_WINDOW ≡ 8_192
  pub greatest_window : GREATEST_WINDOW ≡ 262_144
  -- the window where nothing else is said (profile)
  pub default_window : DEFAULT_WINDOW ≡ 65_536
  -- the type of the command that acknowledges (MS-RPCH 2.2.3)
  pub acknowledges : FLOW_CONTROL_ACK ≡ 1
