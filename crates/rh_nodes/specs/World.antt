-- the world of roles (profile)
use Rattle.std.specs.Prelude.{ℕ, ◌+◌, List, [], Bool, false}
use Rattle.std.specs.declared.option.Option.{Option}
use Rattle.rh_rts.specs.declared.command.Cookie.{Cookie}
use Rattle.rh_text.specs.declared.ends.Side.{Side}
use Rattle.rh_text.specs.declared.ends.Side.TheVariants as side
use Rattle.rh_line.specs.declared.cause.Cause.{Cause}
use Rattle.rh_line.specs.declared.leg.Leg.{Leg}
use Rattle.rh_line.specs.declared.leg.LegKind.{LegKind}
use Rattle.rh_line.specs.declared.leg.LegKind.TheVariants.{ClientOut, OutServer, ClientIn, InServer}
use Rattle.rh_record.specs.declared.answer.Who.{Who}
use Rattle.rh_record.specs.declared.answer.Who.TheVariants as who
use Rattle.rh_shell.specs.Shells.{Shell}
use Rattle.rh_wires.specs.declared.counts.Counts.{Counts}
use Rattle.rh_wires.specs.declared.legs.Legs.{Legs}
use Rattle.rh_wires.specs.Counts as counts
use Rattle.rh_wires.specs.Legs as legs
use Rattle.rh_wires.specs.Readers.{reader_of}
use Rattle.rh_company.specs.declared.closing.Closing.{Closing}
use Rattle.rh_company.specs.declared.event.Event.{Event}
use Rattle.rh_company.specs.Closings.{noted}
use Rattle.rh_company.specs.Company as company
use Rattle.rh_company.specs.Company.{Company, Rulebook}
use Rattle.rh_company.specs.Cookies.{Cookies, cookie_of, from}

-- K makes the nodes, and C, S, I and O are the states of the roles
pub record World (K C S I O : Type 0) : Type 0 where
  pub cast : K
  pub company : Company C S I O
  pub legs : Legs
  -- for each IN leg of the client the number of the in proxy that reads it
  pub readers : List ℕ
  pub cookies : Cookies
  -- the moment, in milliseconds
  pub now : ℕ
  -- the PDUs that went towards the server, and towards the client
  pub up : Counts
  pub down : Counts
  -- a take was answered Ended
  pub client_ended : Bool
  pub server_ended : Bool
  -- settling opens an IN successor at the proxy of its predecessor, where it may
  pub same : Bool
  -- the nodes that closed since the last line
  pub closed : List Closing

-- a client and a server with no legs; the cookies behind the base are the connection's, the
-- group's, and then those of the client's legs
abbrev pub started : {K C S I O : Type 0} → (K → Cookie → Cookie → Shell C) → (K → Shell S) → K
    → ℕ → Bool → World K C S I O
started client server cast base same = record {
  cast = cast;
  company = record {
    client = client cast (cookie_of (base + 1)) (cookie_of (base + 2));
    server = server cast;
    ins = [];
    outs = [];
  };
  legs = legs.none;
  readers = [];
  cookies = from (base + 3);
  now = 0;
  up = counts.none;
  down = counts.none;
  client_ended = false;
  server_ended = false;
  same = same;
  closed = [];
}

-- the node at an end of a leg, where this in proxy reads it
abbrev pub node_by : ℕ → ℕ → LegKind → Side → Who
node_by reader number ClientOut side.Client = who.Client
node_by reader number ClientOut side.Server = who.Out number
node_by reader number OutServer side.Client = who.Out number
node_by reader number OutServer side.Server = who.Server
node_by reader number ClientIn side.Client = who.Client
node_by reader number ClientIn side.Server = who.In reader
node_by reader number InServer side.Client = who.In number
node_by reader number InServer side.Server = who.Server

abbrev pub node_at : ℕ → Leg → Side → Who
node_at reader leg end = node_by reader leg.number leg.kind end

abbrev pub at : {K C S I O : Type 0} → World K C S I O → Leg → Side → Who
at w leg end = node_at (reader_of w.readers leg.number) leg end

-- a node was told something, and is noted where that closed it
abbrev pub was_told : {K C S I O : Type 0} → World K C S I O → Who
    → Company C S I O × Option Cause → World K C S I O
was_told w node told =
    record w { company = told.0; closed = noted w.closed node told.1 }

abbrev pub tell : {K C S I O : Type 0} → Rulebook C S I O → World K C S I O → Who → Event
    → World K C S I O
tell r w node event = was_told w node (company.tell r w.company node event)
