-- half steps: one node alone is told something (profile)
use Rattle.std.specs.Prelude.{ℕ, ◌==◌, ◌&&◌, not, [], Bool, true, false, nat_le, nat_lt, if◌then◌else◌, Some, None}
use Rattle.std.specs.declared.option.Option.{Option}
use Rattle.rh_rts.specs.declared.command.Cookie.{Cookie}
use Rattle.rh_text.specs.declared.ends.Side.{Side}
use Rattle.rh_text.specs.declared.ends.Side.TheVariants as side
use Rattle.rh_line.specs.declared.leg.Leg.{Leg}
use Rattle.rh_line.specs.declared.leg.LegKind.{LegKind}
use Rattle.rh_line.specs.declared.leg.LegKind.TheVariants.{ClientOut, OutServer, ClientIn, InServer}
use Rattle.rh_record.specs.declared.answer.Who.{Who}
use Rattle.rh_record.specs.declared.answer.Who.TheVariants.{Client, Server, In, Out}
use Rattle.rh_wires.specs.Legs as legs
use Rattle.rh_wires.specs.Numbered.{ask}
use Rattle.rh_company.specs.declared.event.Event.TheVariants.{Breaks, Ends, Passes}
use Rattle.rh_company.specs.Company as company
use Rattle.rh_company.specs.Company.{Rulebook}
use Rattle.rh_company.specs.Cookies.{was_had, with_other}
use Rattle.rh_company.specs.Places.{is_absent}
use Rattle.rh_nodes.specs.declared.half.Half.{Half}
use Rattle.rh_nodes.specs.declared.half.Half.TheVariants as halves
use Rattle.rh_nodes.specs.Breaking.{lose}
use Rattle.rh_nodes.specs.Opening.{Makers, at_moment, with_in, with_out}
use Rattle.rh_nodes.specs.World.{World, at, tell}

-- ---- where a node stands

abbrev pub is_same : Who → Who → Bool
is_same Client Client = true
is_same Server Server = true
is_same (In a) (In b) = a == b
is_same (Out a) (Out b) = a == b
is_same _ _ = false

-- the end of a leg at which a node stands; an in proxy stands at the IN legs that it reads
abbrev pub end_of : {K C S I O : Type 0} → World K C S I O → Who → Leg → Option Side
end_of w who leg =
    if is_same who (at w leg side.Client) then Some side.Client
    else (if is_same who (at w leg side.Server) then Some side.Server else None)

-- ---- up

-- the leg of the client is to a proxy of its own
abbrev pub make_out : {K C S I O : Type 0} → Rulebook C S I O → Makers K I O → World K C S I O → ℕ
    → World K C S I O
make_out r m w number =
    if nat_lt 0 number && ask is_absent true w.company.outs number
    then with_out w number (at_moment r.out_proxy (m.out_proxy w.cast number) w.now)
    else w

abbrev pub make_in : {K C S I O : Type 0} → Rulebook C S I O → Makers K I O → World K C S I O → ℕ
    → World K C S I O
make_in r m w number =
    if nat_lt 0 number && ask is_absent true w.company.ins number
    then with_in w number (at_moment r.in_proxy (m.in_proxy w.cast number) w.now)
    else w

abbrev pub make_by : {K C S I O : Type 0} → Rulebook C S I O → Makers K I O → World K C S I O → ℕ
    → LegKind → World K C S I O
make_by r m w number ClientOut = make_out r m w number
make_by r m w number OutServer = w
make_by r m w number ClientIn = make_in r m w number
make_by r m w number InServer = w

abbrev pub make_proxy : {K C S I O : Type 0} → Rulebook C S I O → Makers K I O → World K C S I O
    → Leg → World K C S I O
make_proxy r m w leg = make_by r m w leg.number leg.kind

abbrev pub up_at : {K C S I O : Type 0} → Rulebook C S I O → World K C S I O → Who → Leg → Side
    → Cookie → World K C S I O
up_at r w who leg end cookie = record w {
  company = company.up r w.company who leg cookie;
  legs = legs.raise leg end w.legs;
}

abbrev pub with_cookie : {K C S I O : Type 0} → World K C S I O → Cookie → World K C S I O
with_cookie w cookie = record w { cookies = with_other w.cookies cookie }

-- the client, with a cookie that no leg has had
abbrev pub up_client : {K C S I O : Type 0} → Rulebook C S I O → Makers K I O → World K C S I O
    → Leg → Cookie → World K C S I O × Bool
up_client r m w leg cookie =
    if not (was_had w.cookies cookie) && company.may_up r w.company Client leg
    then (
      up_at r (make_proxy r m (with_cookie w cookie) leg) Client leg side.Client cookie,
      true,
    )
    else (w, false)

abbrev pub up_end : {K C S I O : Type 0} → Rulebook C S I O → World K C S I O → Who → Leg → Cookie
    → Option Side → World K C S I O × Bool
up_end r w who leg cookie None = (w, false)
up_end r w who leg cookie (Some end) =
    if company.may_up r w.company who leg then (up_at r w who leg end cookie, true)
    else (w, false)

abbrev pub up_other : {K C S I O : Type 0} → Rulebook C S I O → World K C S I O → Who → Leg
    → Cookie → World K C S I O × Bool
up_other r w who leg cookie = up_end r w who leg cookie (end_of w who leg)

abbrev pub up_half : {K C S I O : Type 0} → Rulebook C S I O → Makers K I O → World K C S I O
    → Who → Leg → Cookie → World K C S I O × Bool
up_half r m w Client leg cookie = up_client r m w leg cookie
up_half r m w Server leg cookie = up_other r w Server leg cookie
up_half r m w (In number) leg cookie = up_other r w (In number) leg cookie
up_half r m w (Out number) leg cookie = up_other r w (Out number) leg cookie

-- ---- lost

-- the node wants the leg, and is told that it cannot be connected
abbrev pub refused_half : {K C S I O : Type 0} → Rulebook C S I O → World K C S I O → Who → Leg
    → World K C S I O × Bool
refused_half r w who leg =
    if company.wants r w.company who leg then (tell r w who (Breaks leg), true) else (w, false)

abbrev pub broken_end : {K C S I O : Type 0} → Rulebook C S I O → World K C S I O → Who → Leg
    → Option Side → World K C S I O × Bool
broken_end r w who leg None = refused_half r w who leg
broken_end r w who leg (Some end) =
    if legs.is_up leg end w.legs then (lose r w leg end (Breaks leg), true)
    else refused_half r w who leg

abbrev pub broken_half : {K C S I O : Type 0} → Rulebook C S I O → World K C S I O → Who → Leg
    → World K C S I O × Bool
broken_half r w who leg = broken_end r w who leg (end_of w who leg)

abbrev pub ended_end : {K C S I O : Type 0} → Rulebook C S I O → World K C S I O → Leg
    → Option Side → World K C S I O × Bool
ended_end r w leg None = (w, false)
ended_end r w leg (Some end) =
    if legs.is_up leg end w.legs then (lose r w leg end (Ends leg), true) else (w, false)

abbrev pub ended_half : {K C S I O : Type 0} → Rulebook C S I O → World K C S I O → Who → Leg
    → World K C S I O × Bool
ended_half r w who leg = ended_end r w leg (end_of w who leg)

-- ---- time

abbrev pub tick_from : {K C S I O : Type 0} → Rulebook C S I O → World K C S I O → Who → ℕ
    → Option ℕ → World K C S I O × Bool
tick_from r w who now None = (w, false)
tick_from r w who now (Some last) =
    if nat_le last now then (tell r w who (Passes now), true) else (w, false)

abbrev pub tick_half : {K C S I O : Type 0} → Rulebook C S I O → World K C S I O → Who → ℕ
    → World K C S I O × Bool
tick_half r w who now = tick_from r w who now (company.last_moment w.company who)

-- ---- a half step

abbrev pub half_by : {K C S I O : Type 0} → Rulebook C S I O → Makers K I O → World K C S I O
    → Half → World K C S I O × Bool
half_by r m w (halves.Up who leg cookie) = up_half r m w who leg cookie
half_by r m w (halves.Broken who leg) = broken_half r w who leg
half_by r m w (halves.Ended who leg) = ended_half r w who leg
half_by r m w (halves.Tick who now) = tick_half r w who now

-- no node that it closes is told of
abbrev pub untold : {K C S I O : Type 0} → World K C S I O × Bool → World K C S I O × Bool
untold (w, ok) = (record w { closed = [] }, ok)

abbrev pub half : {K C S I O : Type 0} → Rulebook C S I O → Makers K I O → World K C S I O → Half
    → World K C S I O × Bool
half r m w step = untold (half_by r m w step)
