-- the cookies with which the legs of the client come up (MS-RPCH 2.2.3.1)
use Rattle.std.specs.Prelude.{◌≡◌, ◌≤◌, ◌<◌, ◌+◌, ◌-◌, ◌^◌, ◌++◌, ◌⊎◌, ℕ, List, [], ◌∷◌, length, Bool}
use Rattle.rh_rts.specs.declared.command.Cookie.{Cookie}
use Rattle.rh_line.specs.declared.leg.Leg.{Leg}
use Rattle.rh_line.specs.declared.leg.LegKind.TheVariants.{ClientIn, ClientOut}
use Rattle.rh_record.specs.declared.answer.Who.TheVariants as who
use Rattle.rh_company.specs.Company.{Rulebook}
use Rattle.rh_company.specs.Cookies.{Cookies, cookie_of}
use Rattle.rh_nodes.specs.Giving.{Deeds}
use Rattle.rh_nodes.specs.Opening.{Makers}
use Rattle.rh_nodes.specs.Settling.{leg_at}
use Rattle.rh_nodes.specs.World.{World}
use Rattle.law_moves.specs.Moving.{Event, ComesUp}
use Rattle.law_node_history.specs.Changes.{Change, GoesUp, RaisesAlone, OpensIn, OpensOut, OpensSame, WorksBy, of_line}

-- the leg that a change has up for the client, with its cookie
abbrev pub risen : Change → List (Leg × Cookie)
risen (GoesUp who.Client leg end cookie) = (leg, cookie) ∷ []
risen (RaisesAlone who.Client leg end cookie) = (leg, cookie) ∷ []
risen (OpensIn number cookie) = (leg_at ClientIn number, cookie) ∷ []
risen (OpensOut number cookie) = (leg_at ClientOut number, cookie) ∷ []
risen (OpensSame number cookie) = (leg_at ClientIn number, cookie) ∷ []
risen change = []

abbrev pub all_risen : List Change → List (Leg × Cookie)
all_risen [] = []
all_risen (change ∷ changes) = risen change ++ all_risen changes

-- the count of cookies has not come to the end of its type
abbrev pub AreLeft : Cookies → Type 0
AreLeft cookies = cookies.next < 2 ^ 64 - 1

-- their cookies are those of numbers that rise, from the one up to below the other
abbrev pub AreDrawn : ℕ → List (Leg × Cookie) → ℕ → Type 0
AreDrawn low [] high = low ≤ high
AreDrawn low (one ∷ legs) high =
    (number : ℕ) × (low ≤ number) × (one.1 ≡ cookie_of number) × AreDrawn (number + 1) legs high

-- each leg of the client that came up did so with a cookie that was drawn for it, between these
-- counts; and where no other cookies were had, none was drawn for anything else
pub record AreDrawnFor (legs : List (Leg × Cookie)) (before after : Cookies) : Type 0 where
  pub numbers : AreLeft after → AreDrawn before.next legs after.next
  pub others : before.others ≡ [] → after.others ≡ []
  pub count : before.others ≡ [] → after.next ≤ before.next + length legs

-- changes of one kind, by which each leg of the client comes up with a cookie that was drawn for it
pub record DrawsBy {K C S I O : Type 0} (kind : Change → Bool) (r : Rulebook C S I O)
    (m : Makers K I O) (d : Deeds C S) (w v : World K C S I O) : Type 0 where
  pub works : WorksBy kind r m d w v
  pub drawn : AreDrawnFor (all_risen works.leads.changes) w.cookies v.cookies

-- all of them are changes that lines make
abbrev pub DrawnByLines : {K C S I O : Type 0} → Rulebook C S I O → Makers K I O → Deeds C S
    → World K C S I O → World K C S I O → Type 0
DrawnByLines r m d w v = DrawsBy of_line r m d w v

-- at one of these events of a node the leg came up, with this cookie
abbrev pub RoseWith : List Event → Leg → Cookie → Type 0
RoseWith [] leg cookie = ⊥
RoseWith (event ∷ events) leg cookie =
    (event ≡ ComesUp leg cookie) ⊎ RoseWith events leg cookie

-- no two legs came up with one cookie
abbrev pub HaveOwnCookies : List Event → Type 0
HaveOwnCookies events =
    (one other : Leg) (cookie : Cookie) → RoseWith events one cookie
    → RoseWith events other cookie → one ≡ other
