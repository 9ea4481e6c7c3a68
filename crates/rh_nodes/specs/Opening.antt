-- the lines that connect a leg (profile)
use Rattle.std.specs.Prelude.{ℕ, ◌-◌, ◌==◌, ◌&&◌, ◌||◌, List, Bool, true, false, nat_lt, if◌then◌else◌}
use Rattle.rh_rts.specs.declared.command.Cookie.{Cookie}
use Rattle.rh_text.specs.declared.ends.Side.TheVariants as side
use Rattle.rh_line.specs.declared.leg.Leg.{Leg}
use Rattle.rh_line.specs.declared.leg.LegKind.{LegKind}
use Rattle.rh_line.specs.declared.leg.LegKind.TheVariants.{ClientOut, OutServer, ClientIn, InServer}
use Rattle.rh_record.specs.declared.answer.Who.{Who}
use Rattle.rh_record.specs.declared.answer.Who.TheVariants as who
use Rattle.rh_shell.specs.Rules.{Rules}
use Rattle.rh_shell.specs.Shells as shell
use Rattle.rh_shell.specs.Shells.{Shell}
use Rattle.rh_company.specs.declared.place.Place.{Place}
use Rattle.rh_company.specs.declared.place.Place.TheVariants.{Absent, Here}
use Rattle.rh_rts.specs.declared.command.TheConstants.{NO_COOKIE}
use Rattle.rh_wires.specs.Numbered.{ask, put_at}
use Rattle.rh_wires.specs.Legs as legs
use Rattle.rh_wires.specs.Readers.{reader_of, with_reader}
use Rattle.rh_company.specs.Places.{is_absent}
use Rattle.rh_company.specs.Company as company
use Rattle.rh_company.specs.Company.{Company, Rulebook}
use Rattle.rh_company.specs.Cookies.{Cookies, draw}
use Rattle.rh_nodes.specs.World.{World, at}

-- how proxies are made
pub record Makers (K I O : Type 0) : Type 0 where
  pub in_proxy : K → ℕ → Shell I
  pub out_proxy : K → ℕ → Shell O

abbrev pub makers_of : {K I O : Type 0} → (K → ℕ → Shell I) → (K → ℕ → Shell O) → Makers K I O
makers_of in_proxy out_proxy = record { in_proxy = in_proxy; out_proxy = out_proxy }

-- ---- a leg is up for both of its ends

abbrev pub up_at_both : {K C S I O : Type 0} → Rulebook C S I O → World K C S I O → Leg → Cookie
    → Who → Who → World K C S I O
up_at_both r w leg cookie client server = record w {
  company = company.up r (company.up r w.company client leg cookie) server leg cookie;
  legs = legs.raise leg side.Server (legs.raise leg side.Client w.legs);
}

abbrev pub connect : {K C S I O : Type 0} → Rulebook C S I O → World K C S I O → Leg → Cookie
    → World K C S I O
connect r w leg cookie = up_at_both r w leg cookie (at w leg side.Client) (at w leg side.Server)

abbrev pub connect_with : {K C S I O : Type 0} → Rulebook C S I O → World K C S I O → Leg
    → Cookies × Cookie → World K C S I O
connect_with r w leg drawn = connect r (record w { cookies = drawn.0 }) leg drawn.1

-- a leg of the client, with the next cookie
abbrev pub connect_client : {K C S I O : Type 0} → Rulebook C S I O → World K C S I O → Leg
    → World K C S I O
connect_client r w leg = connect_with r w leg (draw w.cookies)

-- ---- a leg of the client, to a proxy of its own

-- a node that just was made, at this moment
abbrev pub at_moment : {S : Type 0} → Rules S → Shell S → ℕ → Shell S
at_moment rules node now = (shell.tick rules node now).0

abbrev pub with_out : {K C S I O : Type 0} → World K C S I O → ℕ → Shell O → World K C S I O
with_out w number node = record w {
  company = record w.company { outs = put_at Absent w.company.outs number (Here node 0) };
}

abbrev pub with_in : {K C S I O : Type 0} → World K C S I O → ℕ → Shell I → World K C S I O
with_in w number node = record w {
  company = record w.company { ins = put_at Absent w.company.ins number (Here node 0) };
  readers = with_reader w.readers number number;
}

-- the client wants the leg, and its proxy wasn't made
abbrev pub may_make : {K C S I O P : Type 0} → Rulebook C S I O → World K C S I O → List (Place P)
    → Leg → Bool
may_make r w list leg =
    nat_lt 0 leg.number && company.wants r w.company who.Client leg
    && ask is_absent true list leg.number

abbrev pub open_out_to : {K C S I O : Type 0} → Rulebook C S I O → World K C S I O → Leg → Shell O
    → World K C S I O × Bool
open_out_to r w leg node =
    if shell.may_up r.out_proxy node leg
    then (connect_client r (with_out w leg.number node) leg, true)
    else (w, false)

abbrev pub open_client_out : {K C S I O : Type 0} → Rulebook C S I O → (K → ℕ → Shell O)
    → World K C S I O → Leg → World K C S I O × Bool
open_client_out r make w leg =
    if may_make r w w.company.outs leg
    then open_out_to r w leg (at_moment r.out_proxy (make w.cast leg.number) w.now)
    else (w, false)

abbrev pub open_in_to : {K C S I O : Type 0} → Rulebook C S I O → World K C S I O → Leg → Shell I
    → World K C S I O × Bool
open_in_to r w leg node =
    if shell.may_up r.in_proxy node leg
    then (connect_client r (with_in w leg.number node) leg, true)
    else (w, false)

abbrev pub open_client_in : {K C S I O : Type 0} → Rulebook C S I O → (K → ℕ → Shell I)
    → World K C S I O → Leg → World K C S I O × Bool
open_client_in r make w leg =
    if may_make r w w.company.ins leg
    then open_in_to r w leg (at_moment r.in_proxy (make w.cast leg.number) w.now)
    else (w, false)

-- ---- a leg of the server

-- the node at one end wants the leg, and the node at the other may have it up
abbrev pub is_wanted_by : {C S I O : Type 0} → Rulebook C S I O → Company C S I O → Leg → Who
    → Who → Bool
is_wanted_by r c leg client server =
    company.wants r c client leg && company.may_up r c server leg
    || company.wants r c server leg && company.may_up r c client leg

abbrev pub is_wanted : {K C S I O : Type 0} → Rulebook C S I O → World K C S I O → Leg → Bool
is_wanted r w leg = is_wanted_by r w.company leg (at w leg side.Client) (at w leg side.Server)

abbrev pub open_server : {K C S I O : Type 0} → Rulebook C S I O → World K C S I O → Leg
    → World K C S I O × Bool
open_server r w leg =
    if nat_lt 0 leg.number && is_wanted r w leg
    then (connect r w leg NO_COOKIE, true)
    else (w, false)

-- ---- the line

abbrev pub open_by : {K C S I O : Type 0} → Rulebook C S I O → Makers K I O → World K C S I O
    → Leg → LegKind → World K C S I O × Bool
open_by r m w leg ClientOut = open_client_out r m.out_proxy w leg
open_by r m w leg OutServer = open_server r w leg
open_by r m w leg ClientIn = open_client_in r m.in_proxy w leg
open_by r m w leg InServer = open_server r w leg

abbrev pub open_leg : {K C S I O : Type 0} → Rulebook C S I O → Makers K I O → World K C S I O
    → Leg → World K C S I O × Bool
open_leg r m w leg = open_by r m w leg leg.kind

-- ---- an IN leg of the client, to the proxy that reads the channel before it

abbrev pub reader_before : {K C S I O : Type 0} → World K C S I O → ℕ → ℕ
reader_before w number = if number == 0 then 0 else reader_of w.readers (number - 1)

abbrev pub may_open_same : {K C S I O : Type 0} → Rulebook C S I O → World K C S I O → Leg → Bool
may_open_same r w leg = company.may_up r w.company (who.In (reader_before w leg.number)) leg

abbrev pub read_on : {K C S I O : Type 0} → World K C S I O → ℕ → World K C S I O
read_on w number =
    record w { readers = with_reader w.readers number (reader_before w number) }

abbrev pub is_client_in : LegKind → Bool
is_client_in ClientOut = false
is_client_in OutServer = false
is_client_in ClientIn = true
is_client_in InServer = false

abbrev pub open_same : {K C S I O : Type 0} → Rulebook C S I O → World K C S I O → Leg
    → World K C S I O × Bool
open_same r w leg =
    if is_client_in leg.kind && company.wants r w.company who.Client leg && may_open_same r w leg
    then (connect_client r (read_on w leg.number) leg, true)
    else (w, false)
