-- outbound replacement: an in proxy passes on that the client has the successor (profile)
use Rattle.std.specs.Prelude.{ℕ, ◌==◌, ◌&&◌, not, if◌then◌else◌}
use Rattle.rh_rts.specs.declared.command.Cookie.{Cookie}
use Rattle.rh_rts.specs.declared.command.TheConstants.{TO_SERVER}
use Rattle.rh_sig.specs.declared.named.Named.TheVariants.{OutR1A8}
use Rattle.rh_line.specs.declared.which.Which.{Which}
use Rattle.rh_inproxy.specs.Acknowledging.{forwarded}
use Rattle.rh_inproxy.specs.Answers.{Done, unexpected}
use Rattle.rh_inproxy.specs.State.{InProxy, has_a5}

-- OUT_R1/A7 on a ci leg: no IN_R1/A5 came there. It goes on as OUT_R1/A8
abbrev pub on_out_r1_a7 : InProxy → Which → ℕ → Cookie → Done
on_out_r1_a7 s which to successor =
    if not (has_a5 s which) && (to == TO_SERVER)
    then forwarded s (OutR1A8 TO_SERVER successor)
    else unexpected s
