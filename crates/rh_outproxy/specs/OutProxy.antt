-- what contracts see of an out proxy's role (MS-RPCH 3.2)
use Rattle.std.specs.Prelude.{ℕ, List, Bool, true, false, Some, None, ◌||◌, if◌then◌else◌}
use Rattle.std.specs.declared.option.Option.{Option}
use Rattle.rh_rts.specs.declared.command.Cookie.{Cookie}
use Rattle.rh_http.specs.declared.request.Request.{Request}
use Rattle.rh_http.specs.declared.host.Host.{Host}
use Rattle.rh_http.specs.Requests.{host_text}
use Rattle.rh_http.specs.Heads.Verdicts.{Asked, asked}
use Rattle.rh_window.specs.Sides.{Sender}
use Rattle.rh_window.specs.Sending.{unsent}
use Rattle.rh_line.specs.Lines.{Line, first_line}
use Rattle.rh_shell.specs.declared.answers.Phase.{Phase}
use Rattle.rh_shell.specs.declared.answers.Phase.TheVariants as phases
use Rattle.rh_shell.specs.declared.waiting.TheConstants.{FORWARDED_ROOM}
use Rattle.rh_shell.specs.Waiting.{Waiting, empty}
use Rattle.rh_outproxy.specs.declared.state.OutProxyConfig.{OutProxyConfig}
use Rattle.rh_outproxy.specs.declared.state.Answer.{Answer}
use Rattle.rh_outproxy.specs.declared.state.Answer.TheVariants as answers
use Rattle.rh_outproxy.specs.declared.state.Channel.{Channel}
use Rattle.rh_outproxy.specs.declared.state.Channel.TheVariants as channels
use Rattle.rh_outproxy.specs.declared.state.ClientLeg.{ClientLeg}
use Rattle.rh_outproxy.specs.declared.state.ClientLeg.TheVariants as clients
use Rattle.rh_outproxy.specs.declared.state.Mark.{Mark}
use Rattle.rh_outproxy.specs.declared.state.Mark.TheVariants as marks
use Rattle.rh_outproxy.specs.declared.state.Ping.{Ping}
use Rattle.rh_outproxy.specs.declared.state.Ping.TheVariants as pings
use Rattle.rh_outproxy.specs.declared.state.ServerLeg.{ServerLeg}
use Rattle.rh_outproxy.specs.declared.state.ServerLeg.TheVariants as servers

pub record OutProxy : Type 0 where
  pub config : OutProxyConfig
  -- the leg from the client, and the request for a channel that was taken there
  pub client : ClientLeg
  pub request : Option Asked
  -- what goes first to the client
  pub answer : Answer
  -- which channel it is, and whether its opening came to its end
  pub channel : Channel
  -- the leg to the server
  pub server : ServerLeg
  -- what came from the server, and the window towards the client
  pub line : Line
  pub window : Sender
  -- what is to be forwarded to the client
  pub waiting : Waiting
  -- END and the handover mark
  pub end : Mark
  pub handover : Mark
  -- whether a Ping is due to the client, and the bytes of those that were put
  pub ping : Ping
  pub pinged : ℕ

-- no leg is up
abbrev pub new_proxy : OutProxyConfig → OutProxy
new_proxy config = record {
  config = config;
  client = clients.Down;
  request = None;
  answer = answers.Awaited;
  channel = channels.Unknown;
  server = servers.Down;
  line = first_line config.window;
  window = unsent 0;
  waiting = empty FORWARDED_ROOM;
  end = marks.Awaited;
  handover = marks.Awaited;
  ping = pings.NotDue;
  pinged = 0;
}

-- ---- stages

abbrev pub is_client_down : ClientLeg → Bool
is_client_down clients.Down = true
is_client_down leg = false

abbrev pub is_client_up : ClientLeg → Bool
is_client_up clients.Up = true
is_client_up leg = false

abbrev pub is_client_marked : ClientLeg → Bool
is_client_marked clients.Marked = true
is_client_marked leg = false

abbrev pub is_server_down : ServerLeg → Bool
is_server_down servers.Down = true
is_server_down leg = false

abbrev pub is_server_first : ServerLeg → Bool
is_server_first servers.FirstDue = true
is_server_first leg = false

abbrev pub is_server_marked : ServerLeg → Bool
is_server_marked servers.Marked = true
is_server_marked leg = false

-- the mark came from the server
abbrev pub has_come : Mark → Bool
has_come marks.Awaited = false
has_come mark = true

-- it came, and is to be put
abbrev pub is_due : Mark → Bool
is_due marks.Came = true
is_due mark = false

abbrev pub is_put : Mark → Bool
is_put marks.Put = true
is_put mark = false

abbrev pub is_ping_due : Ping → Bool
is_ping_due pings.Due = true
is_ping_due ping = false

-- the answer to an echo request was drawn to its end
abbrev pub is_echo_drawn : Answer → Bool
is_echo_drawn answers.EchoDrawn = true
is_echo_drawn answer = false

abbrev pub is_echo_put : Answer → Bool
is_echo_put answers.EchoPut = true
is_echo_put answer = false

-- the OUT response was put
abbrev pub is_response_put : Answer → Bool
is_response_put answers.TimeoutDue = true
is_response_put answers.Put = true
is_response_put answer = false

-- the first packet came from the client
abbrev pub is_known : Channel → Bool
is_known channels.Unknown = false
is_known channel = true

abbrev pub is_successor : Channel → Bool
is_successor (channels.Successor connection predecessor cookie) = true
is_successor channel = false

-- the channel's cookie, where OUT_R1/A3 or CONN/C1 came
abbrev pub joined : Channel → Option Cookie
joined channels.Unknown = None
joined (channels.New connection cookie) = None
joined (channels.Joined connection cookie) = Some cookie
joined (channels.Successor connection predecessor cookie) = Some cookie

-- ---- how far it has come

-- an echo request was answered, the server's leg is lost in order, or OUT_R1/A10 was put
abbrev pub is_over : OutProxy → Bool
is_over s = is_echo_drawn s.answer || (is_server_marked s.server || is_put s.handover)

-- it is Opening until the server's leg is up, and then Open
abbrev pub phase : OutProxy → Phase
phase s =
    if is_over s then phases.Ended
    else (if is_server_down s.server then phases.Opening else phases.Open)

-- ---- the server that the client asked for

abbrev pub asked_some : Option Request → Option Asked
asked_some None = None
asked_some (Some request) = Some (asked request)

-- its host and port
abbrev pub server_of : Option Asked → Option (List ℕ × ℕ)
server_of None = None
server_of (Some asked) = Some (asked.host, asked.port)

abbrev pub server_told : Option (Host × ℕ) → Option (List ℕ × ℕ)
server_told None = None
server_told (Some target) = Some (host_text target.0, target.1)
