-- how an out proxy's legs come up and its channel opens (MS-RPCH 3.2; the forms with OUT_R are this
-- profile's)
use Rattle.std.specs.Prelude.{ℕ, ◌==◌, ◌&&◌, ◌||◌, List, Bool, false, not, nat_le, if◌then◌else◌, Some, None, Ok, Err}
use Rattle.std.specs.declared.option.Option.{Option}
use Rattle.std.specs.declared.result.Result.{Result}
use Rattle.rh_rts.specs.declared.command.Cookie.{Cookie}
use Rattle.rh_http.specs.declared.lengths.TheConstants.{OPENS_OUT, REPLACES_OUT}
use Rattle.rh_http.specs.declared.fault.HttpFault.{HttpFault}
use Rattle.rh_http.specs.Lengths.{greatest_echo}
use Rattle.rh_http.specs.Heads.Verdicts.{Asked, request_verdict}
use Rattle.rh_sig.specs.declared.name.Pipe.{Pipe}
use Rattle.rh_sig.specs.declared.name.Pipe.TheVariants.{CoU, OsD}
use Rattle.rh_sig.specs.declared.named.Named.{Named}
use Rattle.rh_sig.specs.declared.named.Named.TheVariants.{ConnA2, ConnC2, OutR1A4}
use Rattle.rh_sig.specs.declared.ranges.TheConstants.{PROTOCOL_VERSION}
use Rattle.rh_window.specs.Sending.{unsent}
use Rattle.rh_line.specs.declared.leg.Leg.{Leg}
use Rattle.rh_shell.specs.declared.answers.Behind.TheVariants.{Frames, PassedOver}
use Rattle.rh_shell.specs.declared.answers.Count.{Count}
use Rattle.rh_shell.specs.declared.answers.HeadRefused.{HeadRefused}
use Rattle.rh_shell.specs.declared.answers.HeadRefused.TheVariants as head_refused
use Rattle.rh_shell.specs.declared.answers.HeadTaken.{HeadTaken}
use Rattle.rh_outproxy.specs.declared.state.Answer.TheVariants as answers
use Rattle.rh_outproxy.specs.declared.state.Channel.{Channel}
use Rattle.rh_outproxy.specs.declared.state.Channel.TheVariants as channels
use Rattle.rh_outproxy.specs.declared.state.ClientLeg.TheVariants as clients
use Rattle.rh_outproxy.specs.declared.state.ServerLeg.TheVariants as servers
use Rattle.rh_outproxy.specs.OutProxy.{OutProxy, is_client_down, is_server_down, is_known, is_successor}
use Rattle.rh_outproxy.specs.Rows.{Done, is_co, is_os, is_first, is_second, taken, unexpected, forwarded}

-- ---- legs

-- the server's leg is wanted once the first packet came from the client
abbrev pub wants : OutProxy → Leg → Bool
wants s leg = is_os s leg && (is_known s.channel && is_server_down s.server)

-- the client's leg is accepted once
abbrev pub may_up : OutProxy → Leg → Bool
may_up s leg = wants s leg || (is_co s leg && is_client_down s.client)

abbrev pub was_up : OutProxy → Leg → Bool
was_up s leg =
    (is_co s leg && not (is_client_down s.client))
    || (is_os s leg && not (is_server_down s.server))

-- with the server's leg the first packet there and the response to the client become due
abbrev pub up : OutProxy → Leg → Cookie → OutProxy
up s leg cookie =
    if is_co s leg then record s { client = clients.Up }
    else record s { server = servers.FirstDue; answer = answers.ResponseDue }

abbrev pub pipe : OutProxy → Leg → Option Pipe
pipe s leg = if is_co s leg then Some CoU else Some OsD

-- ---- the request

-- an echo request is answered; any other is for a channel
abbrev pub asked : OutProxy → Asked → OutProxy × Result HeadTaken HeadRefused
asked s request =
    if nat_le request.length greatest_echo
    then (
      record s { answer = answers.EchoDue },
      Ok (record { behind = PassedOver; length = request.length }),
    )
    else (
      record s { request = Some request },
      Ok (record { behind = Frames; length = request.length }),
    )

abbrev pub head_by : OutProxy → Result Asked HttpFault → OutProxy × Result HeadTaken HeadRefused
head_by s (Ok request) = asked s request
head_by s (Err fault) = (s, Err (head_refused.Request fault))

-- the request for an OUT channel
abbrev pub head : OutProxy → Leg → List ℕ → OutProxy × Result HeadTaken HeadRefused
head s leg text = head_by s (request_verdict false text)

-- the request told this length
abbrev pub told_length : Option Asked → ℕ → Bool
told_length None n = false
told_length (Some request) n = request.length == n

-- ---- rows

-- the Content-Length with which a client asks for a channel: the bytes of CONN/A1, and those of
-- OUT_R1/A3 and OUT_R2/C1
abbrev pub new_length : ℕ
new_length = OPENS_OUT

abbrev pub successor_length : ℕ
successor_length = REPLACES_OUT

-- the channel begins, with the client's window
abbrev pub opened : OutProxy → Channel → ℕ → OutProxy
opened s channel size = record s { channel = channel; window = unsent size }

-- CONN/A1 comes first, behind a request for a new channel (MS-RPCH 2.2.4)
abbrev pub on_conn_a1 : OutProxy → Count → Cookie → Cookie → ℕ → Done
on_conn_a1 s count connection cookie size =
    if is_first count && told_length s.request new_length
    then taken (opened s (channels.New connection cookie) size)
    else unexpected s

-- OUT_R1/A3 comes first, behind a request for a successor (profile)
abbrev pub on_out_r1_a3 : OutProxy → Count → Cookie → Cookie → Cookie → ℕ → Done
on_out_r1_a3 s count connection predecessor cookie size =
    if is_first count && told_length s.request successor_length
    then taken (opened s (channels.Successor connection predecessor cookie) size)
    else unexpected s

-- OUT_R2/C1 comes second, behind OUT_R1/A3, and does nothing (profile)
abbrev pub on_out_r2_c1 : OutProxy → Count → Done
on_out_r2_c1 s count =
    if is_second count && is_successor s.channel then taken s else unexpected s

-- CONN/C1: CONN/A1 came, and no C1 came. It is forwarded as C2 (MS-RPCH 2.2.4)
abbrev pub conn_c1_by : Channel → OutProxy → ℕ → ℕ → ℕ → Done
conn_c1_by channels.Unknown s version size timeout = unexpected s
conn_c1_by (channels.New connection cookie) s version size timeout =
    forwarded (record s { channel = channels.Joined connection cookie })
    (ConnC2 version size timeout)
conn_c1_by (channels.Joined connection cookie) s version size timeout = unexpected s
conn_c1_by (channels.Successor connection predecessor cookie) s version size timeout = unexpected s

abbrev pub on_conn_c1 : OutProxy → ℕ → ℕ → ℕ → Done
on_conn_c1 s version size timeout = conn_c1_by s.channel s version size timeout

-- ---- what goes first to the server

-- CONN/A2 or OUT_R1/A4, with the proxy's own numbers
abbrev pub first_packet : OutProxy → Channel → Option Named
first_packet s channels.Unknown = None
first_packet s (channels.New connection cookie) =
    Some (ConnA2 PROTOCOL_VERSION connection cookie s.config.lifetime s.config.window)
first_packet s (channels.Joined connection cookie) =
    Some (ConnA2 PROTOCOL_VERSION connection cookie s.config.lifetime s.config.window)
first_packet s (channels.Successor connection predecessor cookie) = Some (
    OutR1A4 PROTOCOL_VERSION connection predecessor cookie s.config.lifetime s.config.window
    s.config.timeout
    )
