-- the opening of a client's channels (MS-RPCH 3.2.2.4; of successors, this profile's)
use Rattle.std.specs.Prelude.{ℕ, ◌==◌, ◌&&◌, ◌||◌, List, Bool, false, not, if◌then◌else◌, nat_lt, Some, None, Ok, Err}
use Rattle.std.specs.Option.{is_some}
use Rattle.std.specs.declared.option.Option.{Option}
use Rattle.std.specs.declared.result.Result.{Result}
use Rattle.rh_rts.specs.declared.command.Cookie.{Cookie}
use Rattle.rh_http.specs.declared.lengths.TheConstants.{SUCCESS}
use Rattle.rh_http.specs.declared.fault.HttpFault.{HttpFault}
use Rattle.rh_http.specs.declared.response.Response.{Response}
use Rattle.rh_http.specs.Heads.Verdicts.{response_verdict}
use Rattle.rh_sig.specs.declared.name.Pipe.{Pipe}
use Rattle.rh_sig.specs.declared.name.Pipe.TheVariants.{CoD}
use Rattle.rh_line.specs.Lines.{Line, after_open_next}
use Rattle.rh_line.specs.declared.leg.Leg.{Leg}
use Rattle.rh_line.specs.declared.leg.LegKind.{LegKind}
use Rattle.rh_line.specs.declared.leg.LegKind.TheVariants.{ClientOut, OutServer, ClientIn, InServer}
use Rattle.rh_shell.specs.declared.answers.Behind.TheVariants.{Frames}
use Rattle.rh_shell.specs.declared.answers.Count.{Count}
use Rattle.rh_shell.specs.declared.answers.HeadRefused.{HeadRefused}
use Rattle.rh_shell.specs.declared.answers.HeadRefused.TheVariants as head_refused
use Rattle.rh_shell.specs.declared.answers.HeadTaken.{HeadTaken}
use Rattle.rh_shell.specs.declared.answers.Phase.TheVariants as phase
use Rattle.rh_shell.specs.Hearing.{is_zero}
use Rattle.rh_client.specs.declared.state.ClientRole.{ClientRole}
use Rattle.rh_client.specs.Channels.{is_up, in_up, out_up, told_in}
use Rattle.rh_client.specs.State.{Done, taken, unexpected, is_opening, is_writing, is_in_successor, is_current, is_out_successor}

-- ---- legs

-- the writing channel's, or its successor's, is asked for until it is up
abbrev pub wants_in : ClientRole → ℕ → Bool
wants_in s n =
    (is_writing s n && not (is_up s.writing.opening))
    || (is_in_successor s n && not (is_up s.in_successor.opening))

abbrev pub wants_out : ClientRole → ℕ → Bool
wants_out s n =
    (is_current s n && not (is_up s.current.opening))
    || (is_out_successor s n && not (is_up s.out_successor.opening))

abbrev pub wants_by : ClientRole → ℕ → LegKind → Bool
wants_by s n ClientOut = wants_out s n
wants_by s n ClientIn = wants_in s n
wants_by s n OutServer = false
wants_by s n InServer = false

abbrev pub wants : ClientRole → Leg → Bool
wants s leg = wants_by s leg.number leg.kind

-- channels below the writing one had legs, as had those below the current one
abbrev pub was_in_up : ClientRole → ℕ → Bool
was_in_up s n =
    (nat_lt 0 n && nat_lt n s.writing.number)
    || ((is_writing s n && is_up s.writing.opening)
    || (is_in_successor s n && is_up s.in_successor.opening))

abbrev pub was_out_up : ClientRole → ℕ → Bool
was_out_up s n =
    (nat_lt 0 n && nat_lt n s.current.number)
    || ((is_current s n && is_up s.current.opening)
    || (is_out_successor s n && is_up s.out_successor.opening))

abbrev pub was_up_by : ClientRole → ℕ → LegKind → Bool
was_up_by s n ClientOut = was_out_up s n
was_up_by s n ClientIn = was_in_up s n
was_up_by s n OutServer = false
was_up_by s n InServer = false

abbrev pub was_up : ClientRole → Leg → Bool
was_up s leg = was_up_by s leg.number leg.kind

-- the successor's channel stands behind the current one, and its window is told with its first
-- packet
abbrev pub with_next : Line → Line
with_next line = if line.has_next then line else after_open_next line false

abbrev pub up_in : ClientRole → ℕ → Cookie → ClientRole
up_in s n cookie =
    if is_writing s n then record s { writing = in_up s.writing cookie }
    else record s { in_successor = in_up s.in_successor cookie }

abbrev pub up_out : ClientRole → ℕ → Cookie → ClientRole
up_out s n cookie =
    if is_current s n then record s { current = out_up s.current cookie }
    else record s {
      out_successor = out_up s.out_successor cookie;
      line = with_next s.line;
    }

abbrev pub up_by : ClientRole → ℕ → Cookie → LegKind → ClientRole
up_by s n cookie ClientOut = up_out s n cookie
up_by s n cookie ClientIn = up_in s n cookie
up_by s n cookie OutServer = s
up_by s n cookie InServer = s

-- a leg is up, and the cookie names its channel
abbrev pub up : ClientRole → Leg → Cookie → ClientRole
up s leg cookie = up_by s leg.number cookie leg.kind

-- packets come on OUT channels alone
abbrev pub pipe_by : LegKind → Option Pipe
pipe_by ClientOut = Some CoD
pipe_by OutServer = None
pipe_by ClientIn = None
pipe_by InServer = None

-- ---- heads

-- an OUT channel is opened by a response of status 200 (MS-RPCH 2.1.2); an IN channel has no
-- response before its end, so that any refuses it
abbrev pub success : ℕ
success = SUCCESS

abbrev pub opened_by : Response → Result HeadTaken HeadRefused
opened_by response =
    if response.status == success
    then Ok (record { behind = Frames; length = response.length })
    else Err (head_refused.Status response.status)

abbrev pub head_by : LegKind → Result Response HttpFault → Result HeadTaken HeadRefused
head_by kind (Err fault) = Err (head_refused.Response fault)
head_by ClientOut (Ok response) = opened_by response
head_by OutServer (Ok response) = Err (head_refused.Status response.status)
head_by ClientIn (Ok response) = Err (head_refused.Status response.status)
head_by InServer (Ok response) = Err (head_refused.Status response.status)

abbrev pub head : ClientRole → Leg → List ℕ → ClientRole × Result HeadTaken HeadRefused
head s leg text = (s, head_by leg.kind (response_verdict text))

-- ---- packets

-- CONN/A3, the first on co1: the out proxy's timeout is kept (MS-RPCH 3.2.2.5)
abbrev pub on_conn_a3 : ClientRole → ℕ → Count → ℕ → Done
on_conn_a3 s n count timeout =
    if n == 1 && (is_current s n && is_zero count)
    then taken (record s { current = record (s.current) { timeout = Some timeout } })
    else unexpected s

-- CONN/C2 on co1 behind CONN/A3: the in proxy's window is the edge of the first IN channel, its
-- timeout is kept, and the client is Open (MS-RPCH 3.2.2.5)
abbrev pub on_conn_c2 : ClientRole → ℕ → ℕ → ℕ → Done
on_conn_c2 s n window timeout =
    if (n == 1 && is_current s n) && (is_opening s.phase && is_some s.current.timeout)
    then taken (record s { phase = phase.Open; writing = told_in s.writing window timeout })
    else unexpected s
