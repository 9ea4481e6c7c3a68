-- what a client keeps of its channels (MS-RPCH 3.2.2; successors are this profile's)
use Rattle.std.specs.Prelude.{ℕ, ◌&&◌, Bool, true, false, replicate, if◌then◌else◌, None}
use Rattle.std.specs.Str.{bytes_eq}
use Rattle.rh_rts.specs.declared.command.Cookie.{Cookie}
use Rattle.rh_keep.specs.Meters.{started, may_put, after_put}
use Rattle.rh_window.specs.Sending.{unsent, after_sent}
use Rattle.rh_rts.specs.declared.command.TheConstants.{COOKIE_LEN}
use Rattle.rh_client.specs.declared.channels.Opening.{Opening}
use Rattle.rh_client.specs.declared.channels.Opening.TheVariants.{NotUp, Request, First, Second, Put}
use Rattle.rh_client.specs.declared.channels.InChannel.{InChannel}
use Rattle.rh_client.specs.declared.channels.OutChannel.{OutChannel}
use Rattle.rh_client.specs.declared.channels.TheConstants.{UNTOLD_TIMEOUT}

-- what stands for a cookie that isn't known
abbrev pub no_cookie : Cookie
no_cookie = record { 0 = replicate COOKIE_LEN 0 }

-- ---- how much was put of what a leg begins with

abbrev pub is_up : Opening → Bool
is_up NotUp = false
is_up Request = true
is_up First = true
is_up Second = true
is_up Put = true

abbrev pub is_put : Opening → Bool
is_put Put = true
is_put opening = false

-- the first packet was put
abbrev pub is_asked : Opening → Bool
is_asked Second = true
is_asked Put = true
is_asked opening = false

-- ---- IN channels

-- its leg is not up
abbrev pub unopened_in : ℕ → ℕ → InChannel
unopened_in number lifetime = record {
  number = number;
  cookie = no_cookie;
  opening = NotUp;
  meter = started lifetime 0;
  window = unsent 0;
  told = 0;
  timeout = UNTOLD_TIMEOUT;
  is_end_put = false;
  is_ping_due = false;
}

-- its leg is up, with a cookie
abbrev pub in_up : InChannel → Cookie → InChannel
in_up c cookie = record c { cookie = cookie; opening = Request }

-- its leg is up, and has this cookie
abbrev pub is_named : InChannel → Cookie → Bool
is_named c cookie = is_up c.opening && bytes_eq c.cookie.0 cookie.0

-- its in proxy told its window and its timeout: the edge of the channel is the window
abbrev pub told_in : InChannel → ℕ → ℕ → InChannel
told_in c window timeout =
    record c { window = unsent window; told = window; timeout = timeout }

-- so many bytes count in its lifetime
abbrev pub metered : InChannel → ℕ → InChannel
metered c len = record c { meter = after_put c.meter len }

-- they do where they leave the reserve
abbrev pub counted : InChannel → ℕ → InChannel
counted c len = if may_put c.meter len then metered c len else c

-- a PDU of so many bytes counts in its window and its lifetime
abbrev pub sent : InChannel → ℕ → InChannel
sent c len = record c { window = after_sent c.window len; meter = after_put c.meter len }

-- ---- OUT channels

-- its leg is not up
abbrev pub unopened_out : ℕ → OutChannel
unopened_out number =
    record { number = number; cookie = no_cookie; opening = NotUp; timeout = None }

-- its leg is up, with a cookie
abbrev pub out_up : OutChannel → Cookie → OutChannel
out_up c cookie = record c { cookie = cookie; opening = Request }
