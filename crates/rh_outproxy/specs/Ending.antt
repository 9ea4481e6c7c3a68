-- the clean end of a channel, and legs that are lost (profile)
use Rattle.std.specs.Prelude.{◌&&◌, ◌||◌, Bool, if◌then◌else◌, Some, None}
use Rattle.std.specs.declared.option.Option.{Option}
use Rattle.rh_line.specs.declared.leg.Leg.{Leg}
use Rattle.rh_outproxy.specs.declared.state.Answer.TheVariants.{EchoDrawn}
use Rattle.rh_outproxy.specs.declared.state.ClientLeg.TheVariants as clients
use Rattle.rh_outproxy.specs.declared.state.Mark.TheVariants.{Came}
use Rattle.rh_outproxy.specs.declared.state.ServerLeg.TheVariants as servers
use Rattle.rh_outproxy.specs.OutProxy.{OutProxy, is_over, is_client_up, is_echo_put, is_put}
use Rattle.rh_outproxy.specs.Rows.{Done, co, is_co, takes_pdus, taken, unexpected}

-- END/B1: no A9, no END. END/B2 is a mark behind the channel's PDUs
abbrev pub on_end_b1 : OutProxy → Done
on_end_b1 s = if takes_pdus s then taken (record s { end = Came }) else unexpected s

-- both legs are finished at once
abbrev pub is_done : OutProxy → Leg → Bool
is_done s leg = is_over s

-- the answer to an echo request is all that is drawn
abbrev pub drawn : OutProxy → Leg → OutProxy
drawn s leg =
    if is_co s leg && is_echo_put s.answer then record s { answer = EchoDrawn } else s

-- the proxy goes on where the client's leg is lost behind END/B2 or A10, and the server's behind
-- END/B2
abbrev pub only_marks : OutProxy → Leg → Bool
only_marks s leg = is_put s.end || (is_co s leg && is_put s.handover)

abbrev pub mark : OutProxy → Leg → OutProxy
mark s leg =
    if is_co s leg then record s { client = clients.Marked }
    else record s { server = servers.Marked }

-- the client is told on its leg that the server cannot be connected
abbrev pub answers_on : OutProxy → Option Leg
answers_on s = if is_client_up s.client then Some (co s) else None
