-- a proxy that was told that its leg to the server broke was so by a line that reports it
use Rattle.rh_text.specs.declared.ends.Side.TheVariants as side
use Rattle.law_order.proofs.Vocabulary.{◌≡◌, ◌⊎◌, inl, inr, ℕ, List, [], ◌∷◌, ◌++◌, append_assoc, Bool, ◌||◌, true, false, Some, None, refl, sym, ap, ◌∙◌, subst, ⊎_elim, Option, if◌then◌else◌, true≢false, append-nil}
use Rattle.rh_line.specs.declared.cause.Cause.TheVariants as cause
use Rattle.rh_record.specs.declared.answer.Answer.TheVariants as answer
use Rattle.rh_record.specs.declared.answer.Who.TheVariants as who
use Rattle.rh_wires.specs.Legs as legs
use Rattle.rh_company.specs.Company as company
use Rattle.law_moves.proofs.Vocabulary.{Dir, U, D, Cookie, Cause, Leg, LegKind, ClientIn, ClientOut, InServer, OutServer, ClosedWith}
use Rattle.law_moves.specs.Moving as moving
use Rattle.law_node_history.proofs.Vocabulary.{Answer, Who, Line, First, Set, reader_of, receiver, sender, Event, Comes, Ends, Breaks, Passes, Place, Absent, Here, Gone, lines as closed_lines, is_same, reader_before, leg_at, step_line, at, node_by, IsTraced, LegsComeUpOnce, came_up, events_of, Change, IsTold, IsFed, IsDrawn, GoesUp, RaisesAlone, OpensIn, OpensOut, OpensSame, Reports, AreAllowed, ByLines, Leads, all_changed, changed, ClosesNode, HasClosed, IsOneOf, told_by}
use Rattle.law_node_history.proofs.Vocabulary.{History, all_noted, at_place, heard, in_place, made_by, noted, nothing, out_place, to_node, told_to}
use Rattle.law_node_history.proofs.Lemmas.{came_append, tell_closes, cast_stays, changed_append, leads_more, same_who, traced_first, change_is_traced, is_up_at, works_by_lines, works_more, works_none, works_then, one_of_both}
use Rattle.rh_world.specs.Roles as roles
use Rattle.law_world_reports.proofs.Vocabulary.{AnyWorld, Before, Direct, Settings, Roles, WorldConfig, act, after, prepared, step, AreInRange, IsLicensedAt, IsRefusedIn, AreShown, IsShown, ShownWorks, Shows}
use Rattle.law_world_reports.proofs.Bounded.Reached.{IsRecorded, behind_lines}
use Rattle.law_world_reports.proofs.Closed.Going.{one_before}
use Rattle.law_world_order.proofs.Recorded.{new}
use Rattle.law_world_honest.specs.Refusals.Refused.{IsUnreached}
use Rattle.law_world_honest.specs.Refusals.Reported.{ReportsBreak}

-- ---- what changes tell

module _ (P : roles.World → Option (Who × Event) → Type 0) where
  abbrev AllTold : roles.World → List Change → Type 0
  AllTold w [] = Unit {0}
  AllTold w (c ∷ cs) =
      P w (told_by w c) × AllTold (changed roles.rules roles.makers roles.deeds w c) cs

  told_append : (w : roles.World) (cs ds : List Change) → AllTold w cs
      → AllTold (all_changed roles.rules roles.makers roles.deeds w cs) ds
      → AllTold w (cs ++ ds)
  told_append w [] ds a b = b
  told_append w (c ∷ cs) ds a b =
      (a.0, told_append (changed roles.rules roles.makers roles.deeds w c) cs ds a.1 b)

told_as : (P Q : roles.World → Option (Who × Event) → Type 0)
    → ((w : roles.World) (o : Option (Who × Event)) → P w o → Q w o)
    → (w : roles.World) (cs : List Change) → AllTold P w cs → AllTold Q w cs
told_as P Q so w [] all = tt
told_as P Q so w (c ∷ cs) all = (
  so w (told_by w c) all.0,
  told_as P Q so (changed roles.rules roles.makers roles.deeds w c) cs all.1,
)

shown_told : (answers : List Answer) (w : roles.World) (cs : List Change)
    → AreShown roles.rules roles.makers roles.deeds answers w cs
    → AllTold (IsShown answers) w cs
shown_told answers w [] all = tt
shown_told answers w (c ∷ cs) all =
    (all.0, shown_told answers (changed roles.rules roles.makers roles.deeds w c) cs all.1)

-- ---- where a proxy is told that its leg to the server broke, it had that leg up, or a line
-- reports the break

abbrev Explained : List Line → roles.World → Leg → Type 0
Explained lines w leg = (legs.is_up leg side.Client w.legs ≡ true) ⊎ ReportsBreak lines leg

-- the kind of a proxy's leg to the server
abbrev pub to_server : Who → Option LegKind
to_server (who.Out n) = Some OutServer
to_server (who.In n) = Some InServer
to_server node = None

abbrev ReportedAt : List Line → roles.World → Who → Event → Type 0
ReportedAt lines w node (Breaks leg) = to_server node ≡ Some leg.kind → Explained lines w leg
ReportedAt lines w node event = Unit {0}

-- if a node is told something
abbrev Tells : (Who → Event → Type 0) → roles.World → Option (Who × Event) → Type 0
Tells P w None = Unit {0}
Tells P w (Some told) = P told.0 told.1

abbrev Reported : List Line → roles.World → Option (Who × Event) → Type 0
Reported lines w = Tells (ReportedAt lines w) w

-- a proxy puts towards the server there
server_end : (reader number : ℕ) (kind : LegKind) (dir : Dir) (node : Who)
    → to_server node ≡ Some kind → node_by reader number kind (sender dir) ≡ node → dir ≡ U
server_end reader number kind U node own is = refl
server_end reader number OutServer D node own is =
    absurd (let bad : to_server who.Server ≡ Some OutServer = ap to_server is ∙ own in cc)
server_end reader number InServer D node own is =
    absurd (let bad : to_server who.Server ≡ Some InServer = ap to_server is ∙ own in cc)
server_end reader number ClientOut D node own is =
    absurd (let bad : to_server (who.Out number) ≡ Some ClientOut = ap to_server is ∙ own in cc)
server_end reader number ClientIn D node own is =
    absurd (let bad : to_server (who.In reader) ≡ Some ClientIn = ap to_server is ∙ own in cc)

module _ (some all : List Answer) (are_in : (x : Answer) → IsOneOf x some → IsOneOf x all)
    (w : roles.World) (leg : Leg) where
  loss_told : (node : Who) → ((dir : Dir) → at w leg (sender dir) ≡ node → dir ≡ U)
      → Shows some w node (Breaks leg)
      → (legs.is_up leg side.Client w.legs ≡ true) ⊎ IsOneOf (answer.BreakLeg leg true) all
  loss_told node up (inl broken) = inr (are_in (answer.BreakLeg leg true) broken)
  loss_told node up (inr lost) =
      inl (subst (λ (dir : Dir). legs.is_up leg (sender dir) w.legs ≡ true)
      (up lost.dir lost.puts) lost.up)

module _ (some all : List Answer) (are_in : (x : Answer) → IsOneOf x some → IsOneOf x all)
    (lines : List Line)
    (told : (leg : Leg) → IsOneOf (answer.BreakLeg leg true) all → ReportsBreak lines leg) where
  explained : (w : roles.World) (leg : Leg)
      → (legs.is_up leg side.Client w.legs ≡ true) ⊎ IsOneOf (answer.BreakLeg leg true) all
      → Explained lines w leg
  explained w leg (inl up) = inl up
  explained w leg (inr broken) = inr (told leg broken)

  node_reported : (w : roles.World) (node : Who) (event : Event) → Shows some w node event
      → ReportedAt lines w node event
  node_reported w node (Breaks leg) shown = λ own.
      explained w leg
      (loss_told some all are_in w leg node
      (λ dir e.
      server_end (reader_of w.readers leg.number) leg.number leg.kind dir node own e) shown)
  node_reported w node (Comes leg piece) shown = tt
  node_reported w node (Ends leg) shown = tt
  node_reported w node (Passes now) shown = tt

  reported : (w : roles.World) (o : Option (Who × Event)) → IsShown some w o
      → Reported lines w o
  reported w None shown = tt
  reported w (Some told) shown = node_reported w told.0 told.1 shown

-- more lines
module _ (lines more : List Line) where
  break_more : (leg : Leg) → ReportsBreak lines leg → ReportsBreak (lines ++ more) leg
  break_more leg r = record {
    before = r.before;
    line = r.line;
    behind = r.behind ++ more;
    split =
        ap (λ (l : List Line). l ++ more) r.split ∙ append_assoc r.before (r.line ∷ r.behind) more;
    told = r.told;
  }

  explained_more : (w : roles.World) (leg : Leg) → Explained lines w leg
      → Explained (lines ++ more) w leg
  explained_more w leg (inl up) = inl up
  explained_more w leg (inr broken) = inr (break_more leg broken)

  node_more : (w : roles.World) (node : Who) (event : Event) → ReportedAt lines w node event
      → ReportedAt (lines ++ more) w node event
  node_more w node (Breaks leg) h = λ own. explained_more w leg (h own)
  node_more w node (Comes leg piece) h = tt
  node_more w node (Ends leg) h = tt
  node_more w node (Passes now) h = tt

  reported_more : (w : roles.World) (o : Option (Who × Event)) → Reported lines w o
      → Reported (lines ++ more) w o
  reported_more w None h = tt
  reported_more w (Some told) h = node_more w told.0 told.1 h

-- ---- along a recording

-- a world of roles came from a new one by changes of lines, which report such losses
pub record IsReported (w : roles.World) (lines : List Line) : Type 0 where
  pub config : WorldConfig
  pub ranges : AreInRange config
  pub run : ByLines roles.rules roles.makers roles.deeds (roles.begun config) w
  pub told : AllTold (Reported lines) (roles.begun config) run.leads.changes

abbrev pub AreReported : AnyWorld → List Line → Type 0
AreReported Before lines = Unit {0}
AreReported (Direct w) lines = Unit {0}
AreReported (Settings config) lines = Unit {0}
AreReported (Roles w) lines = IsReported w lines

begun_reported : (config : WorldConfig) (lines : List Line) → AreInRange config
    → IsReported (roles.begun config) lines
begun_reported config lines ranges = record {
  config = config;
  ranges = ranges;
  run = works_none roles.rules roles.makers roles.deeds (roles.begun config);
  told = tt;
}

prepared_reported : (world : AnyWorld) (line : Line) (lines : List Line) → IsRecorded world
    → AreReported world lines → AreReported (prepared world line) lines
prepared_reported Before (First false) lines is h = tt
prepared_reported Before (First true) lines is h = tt
prepared_reported Before line lines is h = tt
prepared_reported (Direct w) line lines is h = tt
prepared_reported (Settings config) (Set key value) lines is h = tt
prepared_reported (Settings config) line lines is h = begun_reported config lines is
prepared_reported (Roles w) line lines is h = h

module _ (shown : (line : Line) (w : roles.World)
    → ShownWorks roles.rules roles.makers roles.deeds
    (step_line roles.rules roles.makers roles.deeds line w).1 w
    (step_line roles.rules roles.makers roles.deeds line w).0) where
  step_reported : (before : List Line) (line : Line) (w : roles.World)
      → (step (after Before before) line).1 ≡ (roles.step line w).1 → IsReported w before
      → IsReported (roles.step line w).0 (before ++ line ∷ [])
  step_reported before line w answers h =
      let did = step_line roles.rules roles.makers roles.deeds line w in
      let works = shown line w in
      let lines = before ++ line ∷ [] in
      let first = roles.begun h.config in
      let more = works.works.leads.changes in
      record {
        config = h.config;
        ranges = h.ranges;
        run =
            works_then roles.rules roles.makers roles.deeds first w (roles.step line w).0 h.run
            (works_more roles.rules roles.makers roles.deeds w did.0 Reports
            (works_by_lines roles.rules roles.makers roles.deeds w did.0 works.works) tt refl);
        told =
            told_append (Reported lines) first h.run.leads.changes (more ++ Reports ∷ [])
            (told_as (Reported before) (Reported lines) (reported_more before (line ∷ [])) first
            h.run.leads.changes h.told)
            (subst (λ (x : roles.World). AllTold (Reported lines) x (more ++ Reports ∷ []))
            (sym h.run.leads.reached)
            (told_append (Reported lines) w more (Reports ∷ [])
            (told_as (IsShown did.1) (Reported lines)
            (reported did.1 (roles.step line w).1
            (λ x one. one_before x did.1 (closed_lines did.0.closed) one) lines
            (λ leg loss. record {
              before = before;
              line = line;
              behind = [];
              split = refl;
              told =
                  subst (IsOneOf (answer.BreakLeg leg true)) (sym answers) loss;
            })) w more (shown_told did.1 w more works.shown)) (tt, tt)));
      }

  act_reported : (before : List Line) (line : Line) (world : AnyWorld)
      → prepared (after Before before) line ≡ world → AreReported world before
      → AreReported (act world line).0 (before ++ line ∷ [])
  act_reported before line Before is h = tt
  act_reported before line (Direct w) is h = tt
  act_reported before line (Settings config) is h = tt
  act_reported before line (Roles w) is h =
      step_reported before line w (ap (λ (x : AnyWorld). (act x line).1) is) h

  after_one : (world : AnyWorld) (xs : List Line) (line : Line)
      → after world (xs ++ line ∷ []) ≡ (step (after world xs) line).0
  after_one world [] line = refl
  after_one world (x ∷ xs) line = after_one (step world x).0 xs line

  recorded_from : (done rest : List Line) → AreReported (after Before done) done
      → AreReported (after Before (done ++ rest)) (done ++ rest)
  recorded_from done [] h =
      subst (λ (l : List Line). AreReported (after Before l) l) (sym (append-nil done)) h
  recorded_from done (line ∷ rest) h =
      subst (λ (l : List Line). AreReported (after Before l) l)
      (append_assoc done (line ∷ []) rest)
      (recorded_from (done ++ line ∷ []) rest
      (subst (λ (x : AnyWorld). AreReported x (done ++ line ∷ []))
      (sym (after_one Before done line))
      (act_reported done line (prepared (after Before done) line) refl
      (prepared_reported (after Before done) line done (behind_lines Before done tt) h))))

  recorded : (before : List Line) (line : Line)
      → AreReported (prepared (after Before before) line) before
  recorded before line =
      prepared_reported (after Before before) line before (behind_lines Before before tt)
      (recorded_from [] before tt)

-- ---- what happened at a proxy was told it by a change

among_one : (event : moving.Event) (events before behind : List moving.Event)
    → events ≡ before ++ event ∷ behind → IsOneOf event events
among_one event events before behind is = subst (IsOneOf event) (sym is) (by before)
  where
    by : (xs : List moving.Event) → IsOneOf event (xs ++ event ∷ behind)
    by [] = inl refl
    by (x ∷ xs) = inr (by xs)

in_node : (one other : Who) (event wanted : moving.Event)
    → IsOneOf wanted (to_node one other event) → (one ≡ other) × (event ≡ wanted)
in_node one other event wanted = by (is_same one other) refl
  where
    by : (t : Bool) → is_same one other ≡ t
        → IsOneOf wanted (if t then event ∷ [] else []) → (one ≡ other) × (event ≡ wanted)
    by true e (inl is) = (same_who one other e, is)
    by true e (inr none) = absurd none
    by false e none = absurd none

-- only what is told breaks a leg
broke_by : (event : Event) (leg : Leg) → heard event ≡ moving.Breaks leg → event ≡ Breaks leg
broke_by (Comes other piece) leg e = absurd cc
broke_by (Ends other) leg e = absurd cc
broke_by (Breaks other) leg e =
    let same : other ≡ leg = cc in ap Breaks same
broke_by (Passes now) leg e = absurd cc

module _ (P : Who → Event → Type 0) (node : Who) (leg : Leg) where
  -- what happens else is no break
  else_broke : (one : Who) (event : moving.Event) → (event ≡ moving.Breaks leg → ⊥)
      → IsOneOf (moving.Breaks leg) (to_node one node event) → P node (Breaks leg)
  else_broke one event other h = absurd (other (in_node one node event (moving.Breaks leg) h).1)

  up_broke : (one : Who) (beside : Leg) (cookie : Cookie)
      → IsOneOf (moving.Breaks leg) (to_node one node (moving.ComesUp beside cookie))
      → P node (Breaks leg)
  up_broke one beside cookie = else_broke one (moving.ComesUp beside cookie) (λ e. absurd cc)

  told_broke : (w : roles.World) (c : Change) → Tells P w (told_by w c)
      → IsOneOf (moving.Breaks leg) (told_to w c node) → P node (Breaks leg)
  told_broke w (IsTold other event) h one =
      let is = in_node other node (heard event) (moving.Breaks leg) one in
      subst (λ (x : Who). P x (Breaks leg)) is.0
      (subst (P other) (broke_by event leg is.1) h)
  told_broke w (IsFed other dir count) h one =
      else_broke (at w other (receiver dir))
      (moving.Hears other (legs.take_out other dir count w.legs).1) (λ e. absurd cc) one
  told_broke w (IsDrawn other dir count) h one =
      else_broke (at w other (sender dir)) (moving.Draws other count) (λ e. absurd cc) one
  told_broke w (GoesUp other beside end cookie) h one = up_broke other beside cookie one
  told_broke w (RaisesAlone other beside end cookie) h one = up_broke other beside cookie one
  told_broke w (OpensIn number cookie) h one =
      up_broke who.Client (leg_at ClientIn number) cookie one
  told_broke w (OpensOut number cookie) h one =
      up_broke who.Client (leg_at ClientOut number) cookie one
  told_broke w (OpensSame number cookie) h one =
      by (one_of_both (moving.Breaks leg)
      (to_node who.Client node (moving.ComesUp (leg_at ClientIn number) cookie))
      (to_node (who.In (reader_before w number)) node
      (moving.ComesUp (leg_at ClientIn number) cookie)) one)
    where
      by : IsOneOf (moving.Breaks leg)
          (to_node who.Client node (moving.ComesUp (leg_at ClientIn number) cookie))
          ⊎ IsOneOf (moving.Breaks leg) (to_node (who.In (reader_before w number)) node
          (moving.ComesUp (leg_at ClientIn number) cookie))
          → P node (Breaks leg)
      by (inl h) = up_broke who.Client (leg_at ClientIn number) cookie h
      by (inr h) = up_broke (who.In (reader_before w number)) (leg_at ClientIn number) cookie h
  told_broke w change h one = absurd one

  made_broke : (w : roles.World) (c : Change) → IsOneOf (moving.Breaks leg) (made_by w c node)
      → ⊥
  made_broke w (OpensIn number cookie) one =
      let is = in_node (who.In number) node (moving.Ticks w.now) (moving.Breaks leg) one in
      absurd (let bad = is.1 in cc)
  made_broke w (OpensOut number cookie) one =
      let is = in_node (who.Out number) node (moving.Ticks w.now) (moving.Breaks leg) one in
      absurd (let bad = is.1 in cc)
  made_broke w change one = one

  place_broke : {S : Type 0} (place : Place S) (w : roles.World) (c : Change)
      → Tells P w (told_by w c)
      → IsOneOf (moving.Breaks leg) (at_place place (told_to w c node) (made_by w c node))
      → P node (Breaks leg)
  place_broke Absent w c h one = absurd (made_broke w c one)
  place_broke (Here shell legs) w c h one = told_broke w c h one
  place_broke (Gone now) w c h one = absurd one

-- one of the things in two lists is in the one or in the other
split_cases : {X : Type 0} (x : X) (xs ys before behind : List X)
    → xs ++ ys ≡ before ++ x ∷ behind
    → ((rest : List X) × (xs ≡ before ++ x ∷ rest))
    ⊎ ((front : List X) × (before ≡ xs ++ front) × (ys ≡ front ++ x ∷ behind))
split_cases x [] ys before behind e = inr (before, refl, e)
split_cases x (a ∷ xs) ys [] behind e =
    let same : a ≡ x = cc in inl (xs, ap (λ h. h ∷ xs) same)
split_cases {X} x (a ∷ xs) ys (b ∷ before) behind e = by (split_cases x xs ys before behind tails)
  where
    tails : xs ++ ys ≡ before ++ x ∷ behind
    tails = cc

    same : a ≡ b
    same = cc

    by : ((rest : List X) × (xs ≡ before ++ x ∷ rest))
        ⊎ ((front : List X) × (before ≡ xs ++ front) × (ys ≡ front ++ x ∷ behind))
        → ((rest : List X) × (a ∷ xs ≡ b ∷ (before ++ x ∷ rest)))
        ⊎ ((front : List X) × (b ∷ before ≡ a ∷ (xs ++ front)) × (ys ≡ front ++ x ∷ behind))
    by (inl h) = let is = h.1 in inl (h.0, cc)
    by (inr h) = let is = h.1 in inr (h.0, cc, h.2)

-- wherever the leg broke it had come up, or else there is such a line
module _ (leg : Leg) (R : Type 0) where
  abbrev IsFine : List moving.Event → Type 0
  IsFine events =
      (before behind : List moving.Event) → events ≡ before ++ moving.Breaks leg ∷ behind
      → (came_up leg before ≡ true) ⊎ R

  fine_none : IsFine []
  fine_none [] behind e = absurd cc
  fine_none (x ∷ before) behind e = absurd cc

  fine_more : (events more : List moving.Event) → IsFine events
      → (IsOneOf (moving.Breaks leg) more → (came_up leg events ≡ true) ⊎ R)
      → IsFine (events ++ more)
  fine_more events more fine new before behind e =
      ⊎_elim (λ (old : (rest : List moving.Event)
      × (events ≡ before ++ moving.Breaks leg ∷ rest)). fine before old.0 old.1)
      (λ (now : (front : List moving.Event)
      × (before ≡ events ++ front) × (more ≡ front ++ moving.Breaks leg ∷ behind)).
      ⊎_elim (λ up. inl (ap (came_up leg) now.1 ∙ came_append leg events now.0
      ∙ ap (λ (b : Bool). b || came_up leg now.0) up)) (λ r. inr r)
      (new (among_one (moving.Breaks leg) more now.0 behind now.2)))
      (split_cases (moving.Breaks leg) events more before behind e)

abbrev Once : roles.World → WorldConfig → Type 0
Once first cast = LegsComeUpOnce roles.rules roles.makers roles.deeds first.company cast

abbrev Traces : roles.World → roles.World → History → Type 0
Traces first w h = IsTraced roles.rules roles.makers roles.deeds first.company w h

once_stays : (first w : roles.World) → Once first w.cast → (c : Change)
    → Once first (changed roles.rules roles.makers roles.deeds w c).cast
once_stays first w once c =
    subst (Once first) (sym (cast_stays roles.rules roles.makers roles.deeds w c)) once

-- a proxy that is at the client's end of this leg to the server, by its place in a world
pub record IsProxy {S : Type 0} (node : Who) (leg : Leg) (place : roles.World → Place S)
    : Type 0 where
  pub starts : events_of nothing node ≡ []
  pub grows : (w : roles.World) (h : History) (c : Change)
      → events_of (noted w h c) node
      ≡ events_of h node ++ at_place (place w) (told_to w c node) (made_by w c node)
  pub puts : (w : roles.World) → at w leg side.Client ≡ node
  pub own : to_server node ≡ Some leg.kind

pub an_out_proxy : (n : ℕ)
    → IsProxy (who.Out n) (leg_at OutServer n) (λ (w : roles.World). out_place w.company n)
an_out_proxy n =
    record { starts = refl; grows = λ w h c. refl; puts = λ w. refl; own = refl }

pub an_in_proxy : (n : ℕ)
    → IsProxy (who.In n) (leg_at InServer n) (λ (w : roles.World). in_place w.company n)
an_in_proxy n =
    record { starts = refl; grows = λ w h c. refl; puts = λ w. refl; own = refl }

module _ {S : Type 0} {node : Who} {leg : Leg} {place : roles.World → Place S}
    (proxy : IsProxy node leg place) (lines : List Line) where
  abbrev HasReported : History → Type 0
  HasReported h = IsFine leg (ReportsBreak lines leg) (events_of h node)

  known : (first w : roles.World) (h : History) → Traces first w h
      → ReportedAt lines w node (Breaks leg)
      → (came_up leg (events_of h node) ≡ true) ⊎ ReportsBreak lines leg
  known first w h t told =
      ⊎_elim (λ up. inl (ap (λ (x : Who). came_up leg (events_of h x)) (sym (proxy.puts w))
      ∙ (t.carried.each leg U).put_up (sym (is_up_at w.legs leg side.Client) ∙ up)))
      (λ broken. inr broken) (told proxy.own)

  all_fine : (first w : roles.World) (h : History) (cs : List Change)
      → AreAllowed roles.rules roles.makers roles.deeds w cs → Once first w.cast
      → Traces first w h → AllTold (Reported lines) w cs → HasReported h
      → HasReported (all_noted roles.rules roles.makers roles.deeds w h cs)
  all_fine first w h [] allowed once t all fine = fine
  all_fine first w h (c ∷ cs) allowed once t all fine =
      all_fine first (changed roles.rules roles.makers roles.deeds w c) (noted w h c) cs allowed.1
      (once_stays first w once c)
      (change_is_traced roles.rules roles.makers roles.deeds first.company w h t once c allowed.0)
      all.1
      (subst (IsFine leg (ReportsBreak lines leg)) (sym (proxy.grows w h c))
      (fine_more leg (ReportsBreak lines leg) (events_of h node)
      (at_place (place w) (told_to w c node) (made_by w c node)) fine
      (λ one. known first w h t
      (place_broke (ReportedAt lines w) node leg (place w) w c all.0 one))))

  loss : (w : roles.World) (is : IsReported w lines)
      → Once (roles.begun is.config) is.config
      → IsUnreached leg (events_of (all_noted roles.rules roles.makers roles.deeds
      (roles.begun is.config) nothing is.run.leads.changes) node)
      → ReportsBreak lines leg
  loss w is once lost =
      let first = roles.begun is.config in
      ⊎_elim (λ up. absurd (true≢false (sym up ∙ lost.never))) (λ broken. broken)
      (all_fine first first nothing is.run.leads.changes is.run.leads.allowed once
      (traced_first roles.rules roles.makers roles.deeds first (new is.config)) is.told
      (subst (IsFine leg (ReportsBreak lines leg)) (sym proxy.starts)
      (fine_none leg (ReportsBreak lines leg))) lost.before lost.behind lost.split)

-- ---- a client that a line closed is closed behind the line

module _ (why : Cause) where
  told_closed : (w : roles.World) (other : Who) (event said : Event)
      → ◌≡◌ {A = Option (Who × Event)} (Some (other, event)) (Some (who.Client, said))
      → (company.tell roles.rules w.company who.Client said).1 ≡ Some why
      → HasClosed (company.tell roles.rules w.company other event).0 who.Client why
  told_closed w other event said e closes =
      let pair : ◌≡◌ {A = Who × Event} (other, event) (who.Client, said) = cc in
      subst (λ (p : Who × Event).
      HasClosed (company.tell roles.rules w.company p.0 p.1).0 who.Client why) (sym pair)
      (tell_closes roles.rules why w.company who.Client said closes)

  closed_behind : (w : roles.World) (c : Change) → ClosesNode roles.rules w c who.Client why
      → HasClosed (changed roles.rules roles.makers roles.deeds w c).company who.Client why
  closed_behind w (IsTold other event) closes =
      told_closed w other event closes.event closes.told closes.closes
  closed_behind w (IsFed leg dir count) closes =
      told_closed w (at w leg (receiver dir)) (Comes leg (legs.take_out leg dir count w.legs).1)
      closes.event closes.told closes.closes
  closed_behind w change closes = absurd (let bad = closes.told in cc)

allowed_behind : (w : roles.World) (cs ds : List Change)
    → AreAllowed roles.rules roles.makers roles.deeds w (cs ++ ds)
    → AreAllowed roles.rules roles.makers roles.deeds
    (all_changed roles.rules roles.makers roles.deeds w cs) ds
allowed_behind w [] ds a = a
allowed_behind w (c ∷ cs) ds a =
    allowed_behind (changed roles.rules roles.makers roles.deeds w c) cs ds a.1

module _ (ever : (why : Cause) (node : Who) (w v : roles.World)
    → Leads roles.rules roles.makers roles.deeds w v → HasClosed w.company node why
    → HasClosed v.company node why)
    (line : Line) (w : roles.World) (why : Cause)
    (is : IsLicensedAt w line who.Client why) where
  line_closed : HasClosed (roles.step line w).0.company who.Client why
  line_closed =
      let did = step_line roles.rules roles.makers roles.deeds line w in
      let there =
      all_changed roles.rules roles.makers roles.deeds w is.closed.before in
      let u = changed roles.rules roles.makers roles.deeds there is.closed.change in
      let rest : Leads roles.rules roles.makers roles.deeds u did.0 = record {
        changes = is.closed.after;
        allowed =
            (allowed_behind w is.closed.before (is.closed.change ∷ is.closed.after)
            (subst (AreAllowed roles.rules roles.makers roles.deeds w) is.closed.split
            is.shown.works.leads.allowed)).1;
        reached =
            sym (changed_append roles.rules roles.makers roles.deeds w is.closed.before
            (is.closed.change ∷ is.closed.after))
            ∙ ap (all_changed roles.rules roles.makers roles.deeds w) (sym is.closed.split)
            ∙ is.shown.works.leads.reached;
      } in
      ever why who.Client u (roles.step line w).0
      (leads_more roles.rules roles.makers roles.deeds u did.0 Reports rest tt)
      (closed_behind why there is.closed.change is.closed.closes)

-- ---- a line that reports the client as refused

module _ (shown : (line : Line) (w : roles.World)
    → ShownWorks roles.rules roles.makers roles.deeds
    (step_line roles.rules roles.makers roles.deeds line w).1 w
    (step_line roles.rules roles.makers roles.deeds line w).0)
    (ever : (why : Cause) (node : Who) (w v : roles.World)
    → Leads roles.rules roles.makers roles.deeds w v → HasClosed w.company node why
    → HasClosed v.company node why)
    (before : List Line) (line : Line) (node : Who) (leg : Leg) (status : ℕ) where
  -- the client is closed behind the line
  concluded : (R : Type 0) → IsRefusedIn (prepared (after Before before) line) line node leg status
      → ((v : roles.World) → IsReported v (before ++ line ∷ [])
      → ClosedWith (cause.HttpRefused leg status) v.company.client.course → R)
      → R
  concluded R refused go =
      by (prepared (after Before before) line) refl (recorded shown before line) refused
    where
      by : (world : AnyWorld) → prepared (after Before before) line ≡ world
          → AreReported world before → IsRefusedIn world line node leg status → R
      by Before is reported refused = absurd refused
      by (Direct w) is reported refused = absurd refused
      by (Settings config) is reported refused = absurd refused
      by (Roles w) is reported refused =
          go (roles.step line w).0 (act_reported shown before line (Roles w) is reported)
          (line_closed ever line w (cause.HttpRefused leg status)
          (subst (λ (x : Who). IsLicensedAt w line x (cause.HttpRefused leg status))
          refused.1.client refused.0))

  -- and where a proxy was told then that its leg to the server broke, a line reports it
  pub reported_loss : {S : Type 0} {other : Who} {server : Leg} {place : roles.World → Place S}
      → IsProxy other server place
      → ((config : WorldConfig) → Once (roles.begun config) config)
      → ((config : WorldConfig) → AreInRange config → (v : roles.World)
      → (run : ByLines roles.rules roles.makers roles.deeds (roles.begun config) v)
      → ClosedWith (cause.HttpRefused leg status) v.company.client.course
      → (status ≡ 503) × IsUnreached server (events_of (all_noted roles.rules roles.makers
      roles.deeds (roles.begun config) nothing run.leads.changes) other))
      → IsRefusedIn (prepared (after Before before) line) line node leg status
      → (status ≡ 503) × ReportsBreak (before ++ line ∷ []) server
  reported_loss {S} {other} {server} {place} proxy once lost refused =
      concluded ((status ≡ 503) × ReportsBreak (before ++ line ∷ []) server) refused
      (λ v rep closed.
      let two = lost rep.config rep.ranges v rep.run closed in
      (two.0, loss proxy (before ++ line ∷ []) v rep (once rep.config) two.1))
