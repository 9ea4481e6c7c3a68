-- settings keep the numbers of a world in their ranges
use Rattle.law_order.proofs.Vocabulary.{◌≡◌, ℕ, Bool, true, false, IsTrue, if◌then◌else◌, refl, rules}
use Rattle.rh_record.specs.declared.line.Key.TheVariants.{Cwin, Iwin, Owin, Swin, Ilife, Olife, Itime, Otime, Keep, Same}
use Rattle.law_node_history.proofs.Vocabulary.{Key, takes}
use Rattle.law_world_reports.proofs.Vocabulary.{WorldConfig, AreInRange, roles_config, setting, with_number}

pub first_in_range : AreInRange roles_config
first_in_range = record {
  cwin = refl;
  iwin = refl;
  owin = refl;
  swin = refl;
  ilife = refl;
  olife = refl;
  itime = refl;
  otime = refl;
  keep = refl;
}

set_in_range : (config : WorldConfig) (key : Key) (value : ℕ) → IsTrue (takes key value)
    → AreInRange config → AreInRange (setting config key value)
set_in_range config Cwin value is r = search rules
set_in_range config Iwin value is r = search rules
set_in_range config Owin value is r = search rules
set_in_range config Swin value is r = search rules
set_in_range config Ilife value is r = search rules
set_in_range config Olife value is r = search rules
set_in_range config Itime value is r = search rules
set_in_range config Otime value is r = search rules
set_in_range config Keep value is r = search rules
set_in_range config Same value is r = search rules

pub number_in_range : (config : WorldConfig) (key : Key) (value : ℕ) → AreInRange config
    → AreInRange (with_number config key value)
number_in_range config key value r = by (takes key value) refl
  where
    by : (b : Bool) → takes key value ≡ b
        → AreInRange (if b then setting config key value else config)
    by true e = set_in_range config key value e r
    by false e = r
