-- whether a node goes on (profile)
use Rattle.std.specs.Prelude.{Bool, true, false}
use Rattle.rh_line.specs.declared.state.State.TheVariants as state
use Rattle.rh_machines.specs.declared.event.NodeReply.{NodeReply}
use Rattle.rh_machines.specs.declared.event.NodeReply.TheVariants as reply

-- a machine that replies so may still take and give PDUs, and connect legs
abbrev pub says_live : NodeReply → Bool
says_live (reply.State state.Opening) = true
says_live (reply.State state.Open) = true
says_live other = false
