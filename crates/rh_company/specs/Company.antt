-- the nodes of a virtual connection (profile)
use Rattle.std.specs.Prelude.{ℕ, List, [], Bool, false, Some, None}
use Rattle.std.specs.declared.option.Option.{Option}
use Rattle.rh_rts.specs.declared.command.Cookie.{Cookie}
use Rattle.rh_line.specs.declared.cause.Cause.{Cause}
use Rattle.rh_line.specs.declared.leg.Leg.{Leg}
use Rattle.rh_record.specs.declared.answer.Who.{Who}
use Rattle.rh_record.specs.declared.answer.Who.TheVariants.{Client, Server, In, Out}
use Rattle.rh_shell.specs.Rules.{Rules}
use Rattle.rh_shell.specs.Shells as shell
use Rattle.rh_shell.specs.Shells.{Shell}
use Rattle.rh_wires.specs.Numbered.{ask, act, change}
use Rattle.rh_company.specs.declared.event.Event.{Event}
use Rattle.rh_company.specs.declared.place.Place.{Place}
use Rattle.rh_company.specs.Telling as telling
use Rattle.rh_company.specs.Places as places

-- the two ends, and the proxies by their numbers; C, S, I and O are the states of the roles
pub record Company (C S I O : Type 0) : Type 0 where
  pub client : Shell C
  pub server : Shell S
  pub ins : List (Place I)
  pub outs : List (Place O)

-- the rules of each role
pub record Rulebook (C S I O : Type 0) : Type 0 where
  pub client : Rules C
  pub server : Rules S
  pub in_proxy : Rules I
  pub out_proxy : Rules O

abbrev pub rules_of : {C S I O : Type 0} → Rules C → Rules S → Rules I → Rules O
    → Rulebook C S I O
rules_of client server in_proxy out_proxy = record {
  client = client;
  server = server;
  in_proxy = in_proxy;
  out_proxy = out_proxy;
}

-- ---- what is asked of a node

abbrev pub wants : {C S I O : Type 0} → Rulebook C S I O → Company C S I O → Who → Leg → Bool
wants r c Client leg = shell.wants r.client c.client leg
wants r c Server leg = shell.wants r.server c.server leg
wants r c (In number) leg = ask (places.wants r.in_proxy leg) false c.ins number
wants r c (Out number) leg = ask (places.wants r.out_proxy leg) false c.outs number

abbrev pub may_up : {C S I O : Type 0} → Rulebook C S I O → Company C S I O → Who → Leg → Bool
may_up r c Client leg = shell.may_up r.client c.client leg
may_up r c Server leg = shell.may_up r.server c.server leg
may_up r c (In number) leg = ask (places.may_up r.in_proxy leg) false c.ins number
may_up r c (Out number) leg = ask (places.may_up r.out_proxy leg) false c.outs number

abbrev pub finished : {C S I O : Type 0} → Rulebook C S I O → Company C S I O → Who → Leg → Bool
finished r c Client leg = shell.finished r.client c.client leg
finished r c Server leg = shell.finished r.server c.server leg
finished r c (In number) leg = ask (places.finished r.in_proxy leg) false c.ins number
finished r c (Out number) leg = ask (places.finished r.out_proxy leg) false c.outs number

abbrev pub last_moment : {C S I O : Type 0} → Company C S I O → Who → Option ℕ
last_moment c Client = Some c.client.now
last_moment c Server = Some c.server.now
last_moment c (In number) = ask places.last_moment None c.ins number
last_moment c (Out number) = ask places.last_moment None c.outs number

-- ---- what happens at a node

abbrev pub with_client : {C S I O A : Type 0} → Company C S I O → Shell C × A
    → Company C S I O × A
with_client c did = (record c { client = did.0 }, did.1)

abbrev pub with_server : {C S I O A : Type 0} → Company C S I O → Shell S × A
    → Company C S I O × A
with_server c did = (record c { server = did.0 }, did.1)

abbrev pub with_ins : {C S I O A : Type 0} → Company C S I O → List (Place I) × A
    → Company C S I O × A
with_ins c did = (record c { ins = did.0 }, did.1)

abbrev pub with_outs : {C S I O A : Type 0} → Company C S I O → List (Place O) × A
    → Company C S I O × A
with_outs c did = (record c { outs = did.0 }, did.1)

-- a leg is up for a node
abbrev pub up : {C S I O : Type 0} → Rulebook C S I O → Company C S I O → Who → Leg → Cookie
    → Company C S I O
up r c Client leg cookie = record c { client = shell.up r.client c.client leg cookie }
up r c Server leg cookie = record c { server = shell.up r.server c.server leg cookie }
up r c (In number) leg cookie =
    record c { ins = change (places.up r.in_proxy leg cookie) c.ins number }
up r c (Out number) leg cookie =
    record c { outs = change (places.up r.out_proxy leg cookie) c.outs number }

-- a node is told something: the nodes afterwards, and the cause with which that closed it
abbrev pub tell : {C S I O : Type 0} → Rulebook C S I O → Company C S I O → Who → Event
    → Company C S I O × Option Cause
tell r c Client event = with_client c (telling.tell r.client c.client event)
tell r c Server event = with_server c (telling.tell r.server c.server event)
tell r c (In number) event = with_ins c (act (places.tell r.in_proxy event) None c.ins number)
tell r c (Out number) event =
    with_outs c (act (places.tell r.out_proxy event) None c.outs number)

-- a leg is not up for a node any more
abbrev pub leave : {C S I O : Type 0} → Rulebook C S I O → Company C S I O → Who
    → Company C S I O
leave r c Client = c
leave r c Server = c
leave r c (In number) = record c { ins = change (places.leave r.in_proxy) c.ins number }
leave r c (Out number) = record c { outs = change (places.leave r.out_proxy) c.outs number }

-- up to so many bytes are drawn that a node puts on a leg
abbrev pub draw : {C S I O : Type 0} → Rulebook C S I O → Company C S I O → Who → Leg → ℕ
    → Company C S I O × List ℕ
draw r c Client leg room = with_client c (shell.drawn r.client c.client leg room)
draw r c Server leg room = with_server c (shell.drawn r.server c.server leg room)
draw r c (In number) leg room =
    with_ins c (act (places.draw r.in_proxy leg room) [] c.ins number)
draw r c (Out number) leg room =
    with_outs c (act (places.draw r.out_proxy leg room) [] c.outs number)
