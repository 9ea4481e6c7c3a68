-- what an audit tells where all is well (profile)
use Rattle.std.specs.Prelude.{◌≡◌, ℕ, List, []}
use Rattle.rh_audit.specs.declared.fault.AuditFault.{AuditFault}
use Rattle.rh_audit.specs.declared.prefixed.Prefixed.{Prefixed}
use Rattle.rh_audit.specs.declared.prefixed.Prefixed.TheVariants.{Yes}

-- the PDUs that were seen on the far legs are a front of those on the near ones
pub record IsYes (told : Prefixed) : Type 0 where
  pub far : ℕ
  pub near : ℕ
  pub is : told ≡ Yes far near

-- no fault, and yes both ways
pub record FindsNothing (told : List AuditFault) (up down : Prefixed) : Type 0 where
  pub faults : told ≡ []
  pub up_yes : IsYes up
  pub down_yes : IsYes down
