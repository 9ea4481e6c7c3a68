-- what an out proxy forwards of the replacement of an IN channel (profile)
use Rattle.std.specs.Prelude.{ℕ}
use Rattle.rh_rts.specs.declared.command.TheConstants.{TO_CLIENT}
use Rattle.rh_sig.specs.declared.named.Named.TheVariants.{InR1A4, InR2A4}
use Rattle.rh_outproxy.specs.OutProxy.{OutProxy}
use Rattle.rh_outproxy.specs.Rows.{Done, passed_on}

-- IN_R1/A3 is forwarded as A4
abbrev pub on_in_r1_a3 : OutProxy → ℕ → ℕ → ℕ → ℕ → Done
on_in_r1_a3 s to version size timeout =
    passed_on s to (InR1A4 TO_CLIENT version size timeout)

-- IN_R2/A3 is forwarded as A4
abbrev pub on_in_r2_a3 : OutProxy → ℕ → Done
on_in_r2_a3 s to = passed_on s to (InR2A4 TO_CLIENT)
