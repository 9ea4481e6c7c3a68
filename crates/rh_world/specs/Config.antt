-- the numbers of a world (profile)
use Rattle.std.specs.Prelude.{ℕ, true, false, IsTrue, if◌then◌else◌, ◌==◌}
use Rattle.rh_window.specs.declared.range.TheConstants.{DEFAULT_WINDOW}
use Rattle.rh_keep.specs.declared.range.TheConstants.{DEFAULT_LIFETIME}
use Rattle.rh_sig.specs.declared.ranges.TheConstants.{DEFAULT_TIMEOUT}
use Rattle.rh_http.specs.declared.config.TheConstants.{KEEPALIVE}
use Rattle.rh_record.specs.declared.line.Key.{Key}
use Rattle.rh_record.specs.declared.line.Key.TheVariants.{Cwin, Iwin, Owin, Swin, Ilife, Olife, Itime, Otime, Keep, Same}
use Rattle.rh_record.specs.Words.{takes}
use Rattle.rh_world.specs.declared.config.WorldConfig.{WorldConfig}

-- each number is a value of its key
pub record AreInRange (config : WorldConfig) : Type 0 where
  pub cwin : IsTrue (takes Cwin config.cwin)
  pub iwin : IsTrue (takes Iwin config.iwin)
  pub owin : IsTrue (takes Owin config.owin)
  pub swin : IsTrue (takes Swin config.swin)
  pub ilife : IsTrue (takes Ilife config.ilife)
  pub olife : IsTrue (takes Olife config.olife)
  pub itime : IsTrue (takes Itime config.itime)
  pub otime : IsTrue (takes Otime config.otime)
  pub keep : IsTrue (takes Keep config.keep)

-- a direct world, and the numbers that stand where no line sets them
abbrev pub direct_config : WorldConfig
direct_config = record {
  direct = true;
  cwin = DEFAULT_WINDOW;
  iwin = DEFAULT_WINDOW;
  owin = DEFAULT_WINDOW;
  swin = DEFAULT_WINDOW;
  ilife = DEFAULT_LIFETIME;
  olife = DEFAULT_LIFETIME;
  itime = DEFAULT_TIMEOUT;
  otime = DEFAULT_TIMEOUT;
  keep = KEEPALIVE;
  same = false;
}

-- a world of roles, and the same numbers
abbrev pub roles_config : WorldConfig
roles_config = record direct_config { direct = false }

-- the number of a key is this value
abbrev pub setting : WorldConfig → Key → ℕ → WorldConfig
setting config Cwin value = record config { cwin = value }
setting config Iwin value = record config { iwin = value }
setting config Owin value = record config { owin = value }
setting config Swin value = record config { swin = value }
setting config Ilife value = record config { ilife = value }
setting config Olife value = record config { olife = value }
setting config Itime value = record config { itime = value }
setting config Otime value = record config { otime = value }
setting config Keep value = record config { keep = value }
setting config Same value = record config { same = value == 1 }

-- the same, where the key takes the value
abbrev pub with_number : WorldConfig → Key → ℕ → WorldConfig
with_number config key value =
    if takes key value then setting config key value else config
