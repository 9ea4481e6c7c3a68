-- what is fed to a node of a recording closes it for its role alone; up to the change that closes
-- it the legs of the client have cookies of their own
use Rattle.law_order.proofs.Vocabulary.{◌≡◌, true, List, [], ◌∷◌, ◌++◌, append_assoc, sym, ap, ◌∙◌, subst, list_all, and_parts, list_all-append}
use Rattle.law_moves.proofs.Vocabulary.{Cause, Event}
use Rattle.law_node_history.proofs.Vocabulary.{Who, Line, Rulebook, Deeds, Makers, step, step_line, World, happened, AreAllowed, ByLines, Change, MayChange, all_changed, changed, is_work, of_line, ClosesNode, AreLeft, DrawnByLines, HaveOwnCookies, all_noted, nothing}
use Rattle.law_node_history.proofs.Lemmas.{draws_by_lines, draws_then, own_cookies, all_wider, work_of_line, works_then}
use Rattle.rh_world.specs.Config as config_ranges
use Rattle.rh_world.specs.Roles as roles
use Rattle.law_node_traces.proofs.Traced.ByChanges.{lines_by_changes}
use Rattle.law_node_traces.proofs.Vocabulary.{ByChanges}
use Rattle.law_world_reports.proofs.Vocabulary.{AnyWorld, Before, Direct, Settings, Roles, act, after, prepared, WorldConfig, IsLicensed, midst, IsLicensedIn}
use Rattle.law_world_reports.proofs.Bounded.Reached.{IsRecorded, behind_lines, prepared_is_recorded, reached_draws}
use Rattle.law_world_reports.proofs.Closed.Refused.{leads_midst}
use Rattle.law_world_reports.proofs.Closed.Showing.{shown_draws}
use Rattle.law_world_order.proofs.Recorded.{in_range, ours}
use Rattle.law_world_order.proofs.Vocabulary.{numbers_of, AreInRange, AreLeftIn}

-- ---- the world in the midst of a line

module _ {K C S I O : Type 0} (r : Rulebook C S I O) (m : Makers K I O) (d : Deeds C S) where
  allowed_behind : (w : World K C S I O) (cs ds : List Change) → AreAllowed r m d w (cs ++ ds)
      → AreAllowed r m d (all_changed r m d w cs) ds
  allowed_behind w [] ds a = a
  allowed_behind w (c ∷ cs) ds a = allowed_behind (changed r m d w c) cs ds a.1

  pub work_midst : (w : World K C S I O) (line : Line) (node : Who) (why : Cause)
      (is : IsLicensed r m d line w node why) → list_all is_work is.closed.before ≡ true
  work_midst w line node why is =
      (and_parts (list_all is_work is.closed.before)
      (list_all is_work (is.closed.change ∷ is.closed.after))
      (sym (list_all-append is_work is.closed.before (is.closed.change ∷ is.closed.after))
      ∙ subst (λ (cs : List Change). list_all is_work cs ≡ true) is.closed.split
      is.shown.works.work)).0

  -- it is reached by lines, where the world before the line is
  abbrev pub by_lines_midst : (first : World K C S I O) (line : Line) (w : World K C S I O)
      (node : Who) (why : Cause) → ByLines r m d first w
      → (is : IsLicensed r m d line w node why)
      → ByLines r m d first (midst r m d line w node why is)
  by_lines_midst first line w node why lines is =
      works_then r m d first w (midst r m d line w node why is) lines (record {
        leads = leads_midst r m d line w node why is;
        work =
            all_wider is_work of_line work_of_line is.closed.before
            (work_midst w line node why is);
      })

  may_midst : (line : Line) (w : World K C S I O) (node : Who) (why : Cause)
      (is : IsLicensed r m d line w node why)
      → MayChange r (midst r m d line w node why is) is.closed.change
  may_midst line w node why is =
      (allowed_behind w is.closed.before (is.closed.change ∷ is.closed.after)
      (subst (λ (cs : List Change). AreAllowed r m d w cs) is.closed.split
      is.shown.works.leads.allowed)).0

  -- the cookies differ while those of the world behind the line are left
  own_in_midst : (first : World K C S I O) (line : Line) (w : World K C S I O) (node : Who)
      (why : Cause) (draws : DrawnByLines r m d first w) (is : IsLicensed r m d line w node why)
      → AreLeft (step r m d line w).0.cookies
      → HaveOwnCookies (happened (all_noted r m d first nothing
      (by_lines_midst first line w node why draws.works is).leads.changes).client)
  own_in_midst first line w node why draws is left =
      let did = (step_line r m d line w).0 in
      let cs = draws.works.leads.changes in
      let rest = is.closed.change ∷ is.closed.after in
      own_cookies r m d first did
      (draws_then r m d first w did draws
      (draws_by_lines r m d w did (shown_draws r m d (step_line r m d line w).1 w did is.shown)))
      left (cs ++ is.closed.before) rest
      (ap (λ (more : List Change). cs ++ more) is.closed.split
      ∙ sym (append_assoc cs is.closed.before rest))

-- ---- a line of a recording

-- so it is of what happened at the client until the change that closes a node, where cookies are
-- left behind the line
abbrev pub InMidst : (List Event → Type 0) → Type 0
InMidst Fits =
    (config : WorldConfig) (line : Line) (w : roles.World) (node : Who) (why : Cause)
    (draws : DrawnByLines roles.rules roles.makers roles.deeds (roles.begun config) w)
    (is : IsLicensed roles.rules roles.makers roles.deeds line w node why)
    → AreLeft (step roles.rules roles.makers roles.deeds line w).0.cookies
    → Fits (happened (all_noted roles.rules roles.makers roles.deeds (roles.begun config) nothing
    (by_lines_midst roles.rules roles.makers roles.deeds (roles.begun config) line w node why
    draws.works is).leads.changes).client)

own_midst : InMidst HaveOwnCookies
own_midst config line w node why draws is left =
    own_in_midst roles.rules roles.makers roles.deeds (roles.begun config) line w node why draws is
    left

module _ (Fits : List Event → Type 0) (midst_fits : InMidst Fits) where
  -- what follows of each change that closes the node so: the changes before it are those of lines
  abbrev pub Follows : AnyWorld → Who → Cause → Type 0 → Type 0
  Follows behind node why X =
      (config : WorldConfig) → config_ranges.AreInRange config → (v : roles.World)
      → (by : ByLines roles.rules roles.makers roles.deeds (roles.begun config) v)
      → (AreLeftIn behind → Fits (happened (all_noted roles.rules roles.makers roles.deeds
      (roles.begun config) nothing by.leads.changes).client))
      → (change : Change) → MayChange roles.rules v change
      → ClosesNode roles.rules v change node why → X

  of_any : (node : Who) (why : Cause) (X : Type 0) (world : AnyWorld) → IsRecorded world
      → (line : Line) → Follows (act world line).0 node why X → IsLicensedIn world line node why
      → X
  of_any node why X Before h line law is = absurd is
  of_any node why X (Direct w) h line law is = absurd is
  of_any node why X (Settings config) h line law is = absurd is
  of_any node why X (Roles w) h line law is =
      let first = roles.begun h.config in
      law h.config h.ranges (midst roles.rules roles.makers roles.deeds line w node why is)
      (by_lines_midst roles.rules roles.makers roles.deeds first line w node why h.lines is)
      (midst_fits h.config line w node why (reached_draws w h) is)
      is.closed.change (may_midst roles.rules roles.makers roles.deeds line w node why is)
      is.closed.closes

  pub of_reached : (node : Who) (why : Cause) (X : Type 0) (before : List Line) (line : Line)
      → Follows (act (prepared (after Before before) line) line).0 node why X
      → IsLicensedIn (prepared (after Before before) line) line node why → X
  of_reached node why X before line law is =
      of_any node why X (prepared (after Before before) line)
      (prepared_is_recorded (after Before before) line (behind_lines Before before tt)) line law is

-- and of each change behind others, where settings made the world
pub of_recording : (node : Who) (why : Cause) (X : Type 0)
    → ((config : WorldConfig) → AreInRange (numbers_of (ours config)) → (v : roles.World)
    → ByChanges roles.rules roles.makers roles.deeds (roles.begun config) v
    → (change : Change) → MayChange roles.rules v change
    → ClosesNode roles.rules v change node why → X)
    → (before : List Line) (line : Line)
    → IsLicensedIn (prepared (after Before before) line) line node why → X
of_recording node why X law before line =
    of_reached HaveOwnCookies own_midst node why X before line (λ config ranges v by own.
    law config (in_range config ranges) v
    (lines_by_changes roles.rules roles.makers roles.deeds (roles.begun config) v by))

-- and where the cookies differ, since there are some left behind the line
pub of_recording_apart : (node : Who) (why : Cause) (X : Type 0)
    → ((config : WorldConfig) → AreInRange (numbers_of (ours config)) → (v : roles.World)
    → (by : ByChanges roles.rules roles.makers roles.deeds (roles.begun config) v)
    → HaveOwnCookies (happened (all_noted roles.rules roles.makers roles.deeds
    (roles.begun config) nothing by.leads.changes).client)
    → (change : Change) → MayChange roles.rules v change
    → ClosesNode roles.rules v change node why → X)
    → (before : List Line) (line : Line)
    → AreLeftIn (act (prepared (after Before before) line) line).0
    → IsLicensedIn (prepared (after Before before) line) line node why → X
of_recording_apart node why X law before line left =
    of_reached HaveOwnCookies own_midst node why X before line (λ config ranges v by own.
    law config (in_range config ranges) v
    (lines_by_changes roles.rules roles.makers roles.deeds (roles.begun config) v by) (own left))
