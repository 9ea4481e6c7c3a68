-- what really happens to a world of roles: small changes, of which each line, each round of
-- settling and each half step is a list (profile)
use Rattle.std.specs.Prelude.{◌&&◌, not, ◌≡◌, ◌==◌, ◌≤◌, ◌||◌, ◌⊎◌, ℕ, List, [], ◌∷◌, length, Bool, true, false, IsTrue, nat_lt}
use Rattle.std.specs.List.{list_all}
use Rattle.rh_text.specs.declared.ends.Dir.{Dir}
use Rattle.rh_text.specs.declared.ends.Side.{Side}
use Rattle.rh_text.specs.declared.ends.Side.TheVariants as side
use Rattle.rh_rts.specs.declared.command.Cookie.{Cookie}
use Rattle.rh_rts.specs.declared.command.TheConstants.{COOKIE_LEN}
use Rattle.rh_line.specs.declared.leg.Leg.{Leg}
use Rattle.rh_line.specs.declared.leg.LegKind.{LegKind}
use Rattle.rh_line.specs.declared.leg.LegKind.TheVariants.{ClientOut, OutServer, ClientIn, InServer}
use Rattle.rh_record.specs.declared.answer.Answer.{Answer}
use Rattle.rh_record.specs.declared.answer.Answer.TheVariants as answer
use Rattle.rh_record.specs.declared.answer.Who.{Who}
use Rattle.rh_record.specs.declared.answer.Who.TheVariants as who
use Rattle.rh_record.specs.declared.line.Line.{Line}
use Rattle.rh_wires.specs.Legs as legs
use Rattle.rh_wires.specs.Numbered.{ask}
use Rattle.rh_wires.specs.Wires.{sender, receiver}
use Rattle.rh_company.specs.declared.event.Event.{Event}
use Rattle.rh_company.specs.declared.event.Event.TheVariants.{Comes, Ends, Breaks, Passes}
use Rattle.rh_company.specs.Company as company
use Rattle.rh_company.specs.Company.{Rulebook}
use Rattle.rh_company.specs.Cookies.{Cookies}
use Rattle.rh_company.specs.Places.{is_absent}
use Rattle.rh_nodes.specs.declared.half.Half.{Half}
use Rattle.rh_nodes.specs.Breaking.{without}
use Rattle.rh_nodes.specs.Carrying.{sent, draw_into, fed}
use Rattle.rh_nodes.specs.Giving.{Deeds, give, take, close, recycle_in, recycle_out}
use Rattle.rh_nodes.specs.Halves.{up_at, half}
use Rattle.rh_nodes.specs.Opening.{Makers, at_moment, with_in, with_out, read_on, reader_before}
use Rattle.rh_nodes.specs.Settling.{leg_at}
use Rattle.rh_nodes.specs.Steps.{step}
use Rattle.rh_nodes.specs.Time as time
use Rattle.rh_nodes.specs.World.{World, at, tell}

pub data Change : Type 0 where
  -- a node is told that a leg ended or broke, or the moment
  IsTold : Who → Event → Change
  -- so many bytes in flight, or all where there are fewer, are fed to the node that they go to
  IsFed : Leg → Dir → ℕ → Change
  -- up to so many bytes are drawn from the node that puts there, and are in flight
  IsDrawn : Leg → Dir → ℕ → Change
  -- a leg is up for the node at an end, or down
  GoesUp : Who → Leg → Side → Cookie → Change
  -- or by a half step up, where the node at the other end may not be there
  RaisesAlone : Who → Leg → Side → Cookie → Change
  GoesDown : Who → Leg → Side → Change
  -- a leg of the client is up for it, to a proxy that is made for it and is told the moment
  OpensIn : ℕ → Cookie → Change
  OpensOut : ℕ → Cookie → Change
  -- or to the in proxy that reads the channel before, for which it is up as well
  OpensSame : ℕ → Cookie → Change
  -- an end is given a PDU, is asked for one, or is told that none will be given any more
  Gives : Side → List ℕ → Change
  Takes : Side → Change
  Closes : Side → Change
  -- a channel is to be replaced
  RecyclesIn : Change
  RecyclesOut : Change
  -- the moment, in milliseconds
  MovesTo : ℕ → Change
  -- the cookies that were had
  Draws : Cookies → Change
  -- the nodes that closed were told
  Reports : Change

abbrev pub changed : {K C S I O : Type 0} → Rulebook C S I O → Makers K I O → Deeds C S
    → World K C S I O → Change → World K C S I O
changed r m d w (IsTold node event) = tell r w node event
changed r m d w (IsFed leg dir count) =
    (fed r w leg dir (legs.take_out leg dir count w.legs)).0
changed r m d w (IsDrawn leg dir count) =
    (sent w (draw_into r w.company w.legs (at w leg (sender dir)) leg dir count)).0
changed r m d w (GoesUp node leg end cookie) = up_at r w node leg end cookie
changed r m d w (RaisesAlone node leg end cookie) = up_at r w node leg end cookie
changed r m d w (GoesDown node leg end) = without r w node leg end
changed r m d w (OpensIn number cookie) =
    up_at r (with_in w number (at_moment r.in_proxy (m.in_proxy w.cast number) w.now))
    who.Client (leg_at ClientIn number) side.Client cookie
changed r m d w (OpensOut number cookie) =
    up_at r (with_out w number (at_moment r.out_proxy (m.out_proxy w.cast number) w.now))
    who.Client (leg_at ClientOut number) side.Client cookie
changed r m d w (OpensSame number cookie) =
    up_at r (up_at r (read_on w number) who.Client (leg_at ClientIn number) side.Client cookie)
    (who.In (reader_before w number)) (leg_at ClientIn number) side.Server cookie
changed r m d w (Gives end pdu) = (give d w end pdu).0
changed r m d w (Takes end) = (take d w end).0
changed r m d w (Closes end) = (close d w end).0
changed r m d w RecyclesIn = (recycle_in d.client r.client w).0
changed r m d w RecyclesOut = (recycle_out d.server r.server w).0
changed r m d w (MovesTo now) = time.at_moment now w
changed r m d w (Draws cookies) = record w { cookies = cookies }
changed r m d w Reports = record w { closed = [] }

-- ---- where a change may be

-- a node stands at an end of a leg that is up for it
pub record HasUp {K C S I O : Type 0} (w : World K C S I O) (node : Who) (leg : Leg) (end : Side)
    : Type 0 where
  pub stands : at w leg end ≡ node
  pub up : IsTrue (legs.is_up leg end w.legs)

-- the node may have the leg up, or asks for it
abbrev pub may_have : {K C S I O : Type 0} → Rulebook C S I O → World K C S I O → Who → Leg → Bool
may_have r w node leg = company.may_up r w.company node leg || company.wants r w.company node leg

-- the node stands at that end; the client, which no other node has at its end of its legs, is
-- asked for nothing but the end
abbrev pub StandsAt : {K C S I O : Type 0} → World K C S I O → Who → Leg → Side → Type 0
StandsAt w node leg end = (at w leg end ≡ node) ⊎ ((node ≡ who.Client) × (end ≡ side.Client))

-- an IN leg of the client comes up for it as its proxy is made, or as the proxy of the channel
-- before has it up; by itself only where its proxy was made before, and there is no in proxy 0
abbrev pub is_led_by : {K C S I O : Type 0} → World K C S I O → ℕ → LegKind → Bool
is_led_by w number ClientIn =
    not (nat_lt 0 number && ask is_absent true w.company.ins number)
is_led_by w number ClientOut = true
is_led_by w number OutServer = true
is_led_by w number InServer = true

-- and an IN leg of a proxy for the server where that proxy was made before
abbrev pub is_joined_by : {K C S I O : Type 0} → World K C S I O → ℕ → LegKind → Bool
is_joined_by w number InServer = not (ask is_absent true w.company.ins number)
is_joined_by w number ClientOut = true
is_joined_by w number OutServer = true
is_joined_by w number ClientIn = true

abbrev pub is_led : {K C S I O : Type 0} → World K C S I O → Who → Leg → Bool
is_led w who.Client leg = is_led_by w leg.number leg.kind
is_led w who.Server leg = is_joined_by w leg.number leg.kind
is_led w node leg = true

-- bytes come from flight alone; a leg ends or breaks for a node that has it up, or breaks for one
-- that wants it; time passes for all
abbrev pub MayBeTold : {K C S I O : Type 0} → Rulebook C S I O → World K C S I O → Who → Event
    → Type 0
MayBeTold r w node (Comes leg piece) = ⊥
MayBeTold r w node (Ends leg) = (end : Side) × HasUp w node leg end
MayBeTold r w node (Breaks leg) =
    ((end : Side) × HasUp w node leg end) ⊎ IsTrue (company.wants r w.company node leg)
MayBeTold r w node (Passes now) = Unit {0}

-- a proxy is made once, for a leg of its number that the client may have
abbrev pub MayMake : {K C S I O : Type 0} → Rulebook C S I O → World K C S I O → Bool → Leg
    → Type 0
MayMake r w absent leg =
    IsTrue (nat_lt 0 leg.number) × IsTrue absent × IsTrue (may_have r w who.Client leg)

abbrev pub MayChange : {K C S I O : Type 0} → Rulebook C S I O → World K C S I O → Change
    → Type 0
MayChange r w (IsTold node event) = MayBeTold r w node event
MayChange r w (IsFed leg dir count) = IsTrue (legs.is_up leg (receiver dir) w.legs)
MayChange r w (IsDrawn leg dir count) = IsTrue (legs.is_up leg (sender dir) w.legs)
MayChange r w (GoesUp node leg end cookie) =
    IsTrue (may_have r w node leg) × StandsAt w node leg end × IsTrue (is_led w node leg)
MayChange r w (RaisesAlone node leg end cookie) =
    IsTrue (may_have r w node leg) × StandsAt w node leg end
MayChange r w (GoesDown node leg end) = HasUp w node leg end
MayChange r w (OpensIn number cookie) =
    MayMake r w (ask is_absent true w.company.ins number) (leg_at ClientIn number)
MayChange r w (OpensOut number cookie) =
    MayMake r w (ask is_absent true w.company.outs number) (leg_at ClientOut number)
MayChange r w (OpensSame number cookie) =
    IsTrue (may_have r w who.Client (leg_at ClientIn number))
    × IsTrue (may_have r w (who.In (reader_before w number)) (leg_at ClientIn number))
MayChange r w (Gives end pdu) = Unit {0}
MayChange r w (Takes end) = Unit {0}
MayChange r w (Closes end) = Unit {0}
MayChange r w RecyclesIn = Unit {0}
MayChange r w RecyclesOut = Unit {0}
MayChange r w (MovesTo now) = w.now ≤ now
MayChange r w (Draws cookies) = Unit {0}
MayChange r w Reports = Unit {0}

-- ---- lists of changes, from the first to the last

abbrev pub all_changed : {K C S I O : Type 0} → Rulebook C S I O → Makers K I O → Deeds C S
    → World K C S I O → List Change → World K C S I O
all_changed r m d w [] = w
all_changed r m d w (change ∷ changes) = all_changed r m d (changed r m d w change) changes

-- each may be where it is
abbrev pub AreAllowed : {K C S I O : Type 0} → Rulebook C S I O → Makers K I O → Deeds C S
    → World K C S I O → List Change → Type 0
AreAllowed r m d w [] = Unit {0}
AreAllowed r m d w (change ∷ changes) =
    MayChange r w change × AreAllowed r m d (changed r m d w change) changes

-- changes that may be lead from one world to the other
pub record Leads {K C S I O : Type 0} (r : Rulebook C S I O) (m : Makers K I O) (d : Deeds C S)
    (w v : World K C S I O) : Type 0 where
  pub changes : List Change
  pub allowed : AreAllowed r m d w changes
  pub reached : all_changed r m d w changes ≡ v

-- a whole cookie (MS-RPCH 2.2.3.1)
abbrev pub is_whole : Cookie → Bool
is_whole cookie = length cookie.0 == COOKIE_LEN

-- a change that lines make, which have legs up with whole cookies; half steps may make others
abbrev pub of_line : Change → Bool
of_line (RaisesAlone node leg end cookie) = false
of_line (GoesUp node leg end cookie) = is_whole cookie
of_line (OpensIn number cookie) = is_whole cookie
of_line (OpensOut number cookie) = is_whole cookie
of_line (OpensSame number cookie) = is_whole cookie
of_line change = true

-- one that isn't the report of the nodes that closed
abbrev pub is_work : Change → Bool
is_work Reports = false
is_work change = of_line change

-- nor an act at an end
abbrev pub is_quiet : Change → Bool
is_quiet (Gives end pdu) = false
is_quiet (Takes end) = false
is_quiet (Closes end) = false
is_quiet RecyclesIn = false
is_quiet RecyclesOut = false
is_quiet Reports = false
is_quiet change = of_line change

-- changes of one kind
pub record WorksBy {K C S I O : Type 0} (kind : Change → Bool) (r : Rulebook C S I O)
    (m : Makers K I O) (d : Deeds C S) (w v : World K C S I O) : Type 0 where
  pub leads : Leads r m d w v
  pub work : list_all kind leads.changes ≡ true

-- all of them are changes that lines make
abbrev pub ByLines : {K C S I O : Type 0} → Rulebook C S I O → Makers K I O → Deeds C S
    → World K C S I O → World K C S I O → Type 0
ByLines r m d w v = WorksBy of_line r m d w v

-- and none of them is a report
abbrev pub Works : {K C S I O : Type 0} → Rulebook C S I O → Makers K I O → Deeds C S
    → World K C S I O → World K C S I O → Type 0
Works r m d w v = WorksBy is_work r m d w v

-- nor an act at an end
abbrev pub Quietly : {K C S I O : Type 0} → Rulebook C S I O → Makers K I O → Deeds C S
    → World K C S I O → World K C S I O → Type 0
Quietly r m d w v = WorksBy is_quiet r m d w v

-- ---- what is answered meanwhile

-- an answer that tells of no act at an end, and of no node that closed
abbrev pub is_silent : Answer → Bool
is_silent (answer.Give end given) = false
is_silent (answer.Take end taken) = false
is_silent (answer.Close end) = false
is_silent (answer.NodeClosed node why) = false
is_silent one = true

-- changes of one kind lead to what was done, and its answers are of one kind
pub record GoesBy {K C S I O : Type 0} (kind : Change → Bool) (tells : Answer → Bool)
    (r : Rulebook C S I O) (m : Makers K I O) (d : Deeds C S) (w : World K C S I O)
    (did : World K C S I O × List Answer) : Type 0 where
  pub works : WorksBy kind r m d w did.0
  pub others : list_all tells did.1 ≡ true

abbrev pub GoesQuietly : {K C S I O : Type 0} → Rulebook C S I O → Makers K I O → Deeds C S
    → World K C S I O → World K C S I O × List Answer → Type 0
GoesQuietly r m d w did = GoesBy is_quiet is_silent r m d w did

-- ---- lines and half steps in any order

pub data Turn : Type 0 where
  IsLine : Line → Turn
  IsHalf : Half → Turn

abbrev pub after_turn : {K C S I O : Type 0} → Rulebook C S I O → Makers K I O → Deeds C S
    → World K C S I O → Turn → World K C S I O
after_turn r m d w (IsLine line) = (step r m d line w).0
after_turn r m d w (IsHalf one) = (half r m w one).0

abbrev pub after_turns : {K C S I O : Type 0} → Rulebook C S I O → Makers K I O → Deeds C S
    → World K C S I O → List Turn → World K C S I O
after_turns r m d w [] = w
after_turns r m d w (turn ∷ turns) = after_turns r m d (after_turn r m d w turn) turns
