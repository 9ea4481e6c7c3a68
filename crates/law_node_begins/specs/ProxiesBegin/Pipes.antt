-- the legs of proxies by their numbers, and the pipes that proxies read there (MS-RPCH 2.2.4)
use Rattle.std.specs.Prelude.{ℕ, if◌then◌else◌, Some, None}
use Rattle.std.specs.declared.option.Option.{Option}
use Rattle.rh_sig.specs.declared.name.Pipe.{Pipe}
use Rattle.rh_sig.specs.declared.name.Pipe.TheVariants.{CiU, IsD, CoU, OsD}
use Rattle.rh_line.specs.declared.leg.Leg.{Leg}
use Rattle.rh_line.specs.declared.leg.LegKind.TheVariants.{ClientIn, InServer, ClientOut, OutServer}
use Rattle.rh_shell.specs.Shells.{is_of, same_leg}
use Rattle.rh_inproxy.specs.declared.state.InProxyConfig.{InProxyConfig}
use Rattle.rh_outproxy.specs.declared.state.OutProxyConfig.{OutProxyConfig}

abbrev pub ci : ℕ → Leg
ci number = record { kind = ClientIn; number = number }

abbrev pub is : ℕ → Leg
is number = record { kind = InServer; number = number }

abbrev pub co : ℕ → Leg
co number = record { kind = ClientOut; number = number }

abbrev pub os : ℕ → Leg
os number = record { kind = OutServer; number = number }

-- an in proxy reads its clients on each ci leg, and the server on the is leg of its number
abbrev pub in_pipe : InProxyConfig → Leg → Option Pipe
in_pipe config leg =
    if is_of ClientIn leg then Some CiU
    else (if same_leg (is config.number) leg then Some IsD else None)

-- an out proxy reads its client on the co leg of its number, and the server on the others
abbrev pub out_pipe : OutProxyConfig → Leg → Option Pipe
out_pipe config leg = if same_leg (co config.number) leg then Some CoU else Some OsD
