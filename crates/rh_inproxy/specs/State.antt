-- what contracts see of an in proxy, and which channel a client's leg carries (MS-RPCH 3.2; what it
-- leaves open, and several ci legs over one is leg, are this profile's)
use Rattle.std.specs.Prelude.{ℕ, ◌≤◌, ◌==◌, ◌&&◌, List, Bool, true, false, if◌then◌else◌, replicate, Some, None}
use Rattle.std.specs.Str.{bytes_eq}
use Rattle.std.specs.declared.option.Option.{Option}
use Rattle.rh_rts.specs.declared.command.Cookie.{Cookie}
use Rattle.rh_http.specs.declared.host.Host.{Host}
use Rattle.rh_http.specs.Requests.{host_text}
use Rattle.rh_window.specs.Sides.{Sender, IsWindow}
use Rattle.rh_window.specs.Sending.{unsent}
use Rattle.rh_sig.specs.Values.{IsTimeout}
use Rattle.rh_line.specs.Lines.{Line, first_line}
use Rattle.rh_line.specs.declared.leg.Leg.{Leg}
use Rattle.rh_line.specs.declared.leg.LegKind.TheVariants.{ClientIn, InServer}
use Rattle.rh_line.specs.declared.which.Which.{Which}
use Rattle.rh_line.specs.declared.which.Which.TheVariants.{Current, Next}
use Rattle.rh_shell.specs.Shells.{is_of, same_leg}
use Rattle.rh_shell.specs.Waiting.{Waiting, empty}
use Rattle.rh_shell.specs.declared.waiting.TheConstants.{FORWARDED_ROOM}
use Rattle.rh_rts.specs.declared.command.TheConstants.{COOKIE_LEN}
use Rattle.rh_inproxy.specs.declared.state.InProxyConfig.{InProxyConfig}
use Rattle.rh_inproxy.specs.declared.state.Target.{Target}
use Rattle.rh_inproxy.specs.declared.state.Opening.{Opening}
use Rattle.rh_inproxy.specs.declared.state.Opening.TheVariants.{AwaitsClient, AwaitsPacket}
use Rattle.rh_inproxy.specs.declared.state.Work.{Work}
use Rattle.rh_inproxy.specs.declared.state.Work.TheVariants.{Underway}
use Rattle.rh_inproxy.specs.declared.state.ClientLeg.{ClientLeg}
use Rattle.rh_inproxy.specs.declared.state.Joining.{Joining}
use Rattle.rh_inproxy.specs.declared.state.Joining.TheVariants.{Follows}
use Rattle.rh_inproxy.specs.declared.state.Successor.{Successor}
use Rattle.rh_inproxy.specs.declared.state.Successor.TheVariants.{Absent, Joined}
use Rattle.rh_inproxy.specs.declared.state.Handover.{Handover}
use Rattle.rh_inproxy.specs.declared.state.Handover.TheVariants.{Before}
use Rattle.rh_inproxy.specs.declared.state.Edge.{Edge}
use Rattle.rh_inproxy.specs.declared.state.Edge.TheVariants.{Unknown}

pub record InProxy : Type 0 where
  pub config : InProxyConfig
  -- the server's host and port, as the first request tells them
  pub target : Option (List ℕ × ℕ)
  pub opening : Opening
  pub work : Work
  -- in milliseconds
  pub keepalive : ℕ
  -- the Content-Lengths of the requests so far, in bytes
  pub lengths : ℕ
  -- the PDUs that came on the current channel and on the next one
  pub line : Line
  -- the ci leg of the current channel, and the one behind it
  pub current : ClientLeg
  pub successor : Successor
  -- IN_R1/A5 on the newest ci leg, and the mark that follows from it
  pub handover : Handover
  -- the newest ci leg ended, and the proxy went on
  pub newest_lost : Bool
  -- what is to be forwarded on the is leg
  pub waiting : Waiting
  pub window : Sender
  pub edge : Edge
  -- END/A2 was put
  pub end_put : Bool
  pub ping_due : Bool

-- the numbers of a configuration are in their ranges (profile)
pub record IsConfig (config : InProxyConfig) : Type 0 where
  pub number : 1 ≤ config.number
  pub window : IsWindow config.window
  pub timeout : IsTimeout config.timeout

-- ---- the first state

abbrev pub no_cookie : Cookie
no_cookie = record { 0 = replicate COOKIE_LEN 0 }

abbrev pub first_leg : ℕ → ClientLeg
first_leg number = record { number = number; cookie = no_cookie }

-- no leg is up
abbrev pub first : InProxyConfig → InProxy
first config = record {
  config = config;
  target = None;
  opening = AwaitsClient;
  work = Underway;
  keepalive = 0;
  lengths = 0;
  line = first_line config.window;
  current = first_leg config.number;
  successor = Absent;
  handover = Before;
  newest_lost = false;
  waiting = empty FORWARDED_ROOM;
  window = unsent 0;
  edge = Unknown;
  end_put = false;
  ping_due = false;
}

-- ---- targets

abbrev pub target_of : Option Target → Option (List ℕ × ℕ)
target_of None = None
target_of (Some target) = Some (host_text target.host, target.port)

abbrev pub pair_of : Option (Host × ℕ) → Option (List ℕ × ℕ)
pair_of None = None
pair_of (Some pair) = Some (host_text pair.0, pair.1)

-- ---- legs and channels

abbrev pub same_cookie : Cookie → Cookie → Bool
same_cookie a b = bytes_eq a.0 b.0

-- the leg to the server, which has the number of the first ci leg
abbrev pub is_server_leg : InProxy → Leg → Bool
is_server_leg s leg = same_leg (record { kind = InServer; number = s.config.number }) leg

abbrev pub is_client_leg : Leg → Bool
is_client_leg leg = is_of ClientIn leg

-- the first packet on the first ci leg came
abbrev pub has_opened : Opening → Bool
has_opened AwaitsClient = false
has_opened AwaitsPacket = false
has_opened opening = true

-- a ci leg is behind the current one, and its first packet came
abbrev pub is_joined : Successor → Bool
is_joined (Joined leg stage) = true
is_joined successor = false

abbrev pub next_of : Successor → ℕ → Option Which
next_of (Joined leg stage) number = if leg.number == number then Some Next else None
next_of successor number = None

-- the channel of the ci leg of this number; none where no first packet came on it
abbrev pub channel_of : InProxy → ℕ → Option Which
channel_of s number =
    if has_opened s.opening && (s.current.number == number) then Some Current
    else next_of s.successor number

-- ---- handing over

abbrev pub has_come : Handover → Bool
has_come Before = false
has_come handover = true

abbrev pub is_followed : Joining → Bool
is_followed Follows = true
is_followed stage = false

-- IN_R1/A5 came on the current ci leg
abbrev pub hands_over : Successor → Handover → Bool
hands_over (Joined leg stage) handover = is_followed stage
hands_over successor handover = has_come handover

-- IN_R1/A5 came on the ci leg of this channel
abbrev pub has_a5 : InProxy → Which → Bool
has_a5 s Current = hands_over s.successor s.handover
has_a5 s Next = has_come s.handover

-- where the line has moved on, the ci leg behind is the current one
abbrev pub follows : Bool → ClientLeg → Successor → ClientLeg × Successor
follows false current (Joined leg stage) = (leg, Absent)
follows has_next current successor = (current, successor)

abbrev pub followed : InProxy → InProxy
followed s =
    let now = follows s.line.has_next s.current s.successor in
    record s { current = now.0; successor = now.1 }
