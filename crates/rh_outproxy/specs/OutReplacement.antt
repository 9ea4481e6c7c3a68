-- the replacement of an OUT channel at the proxy of the predecessor (profile)
use Rattle.std.specs.Prelude.{ℕ, if◌then◌else◌}
use Rattle.rh_rts.specs.declared.command.TheConstants.{TO_CLIENT}
use Rattle.rh_sig.specs.declared.named.Named.TheVariants.{OutR1A2, OutR1A6}
use Rattle.rh_outproxy.specs.declared.state.Mark.TheVariants.{Came}
use Rattle.rh_outproxy.specs.OutProxy.{OutProxy}
use Rattle.rh_outproxy.specs.Rows.{Done, is_carrying, taken, unexpected, passed_on}

-- OUT_R1/A1 is forwarded as A2
abbrev pub on_out_r1_a1 : OutProxy → ℕ → Done
on_out_r1_a1 s to = passed_on s to (OutR1A2 TO_CLIENT)

-- OUT_R1/A5 is forwarded as A6
abbrev pub on_out_r1_a5 : OutProxy → ℕ → ℕ → ℕ → Done
on_out_r1_a5 s to version timeout = passed_on s to (OutR1A6 TO_CLIENT version timeout)

-- OUT_R1/A9: no A9 came. A10 is a mark behind the channel's PDUs and END
abbrev pub on_out_r1_a9 : OutProxy → Done
on_out_r1_a9 s =
    if is_carrying s then taken (record s { handover = Came }) else unexpected s
