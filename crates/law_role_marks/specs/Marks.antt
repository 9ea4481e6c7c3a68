-- marks of proxies that go on: the legs that they may lose before their own work is done (profile)
use Rattle.std.specs.Prelude.{◌&&◌, ◌||◌, Bool, not}
use Rattle.rh_line.specs.declared.leg.Leg.{Leg}
use Rattle.rh_inproxy.specs.Ending.{is_newest}
use Rattle.rh_inproxy.specs.Ending as in_ending
use Rattle.rh_inproxy.specs.State.{InProxy, has_come}
use Rattle.rh_outproxy.specs.Ending as out_ending
use Rattle.rh_outproxy.specs.OutProxy.{OutProxy}
use Rattle.rh_outproxy.specs.Rows.{is_co}

-- an out proxy loses its leg to the client
abbrev pub marks_client : OutProxy → Leg → Bool
marks_client s leg = out_ending.only_marks s leg && is_co s leg

-- an in proxy loses the newest ci leg behind IN_R1/A5 alone
abbrev pub marks_handed : InProxy → Leg → Bool
marks_handed s leg =
    in_ending.only_marks s leg && (not (is_newest s leg) || has_come s.handover)
