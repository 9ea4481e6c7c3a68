-- up to the change that closes a node of a recording no leg of its client came up under the cookie
-- of zeros, and the cookies differ
use Rattle.law_order.proofs.Vocabulary.{◌≡◌, ◌<◌, arith, true, List, ◌∷◌, ◌++◌, append_assoc, sym, ap, ◌∙◌, list_all}
use Rattle.law_moves.proofs.Vocabulary.{Cause}
use Rattle.law_role_client.proofs.Vocabulary.{co}
use Rattle.law_role_server.proofs.Vocabulary.{no_cookie}
use Rattle.law_node_history.proofs.Vocabulary.{Who, Line, Rulebook, Deeds, Makers, step, step_line, World, happened, Change, MayChange, of_line, ClosesNode, AreLeft, DrawnByLines, all_noted, nothing}
use Rattle.law_node_history.proofs.Lemmas.{draws_by_lines, draws_then, own_cookies}
use Rattle.rh_world.specs.Roles as roles
use Rattle.law_node_traces.proofs.Traced.ByChanges.{lines_by_changes}
use Rattle.law_node_traces.proofs.Vocabulary.{ByChanges}
use Rattle.law_world_reports.proofs.Vocabulary.{Before, act, after, prepared, WorldConfig, IsLicensed, IsLicensedIn}
use Rattle.law_world_reports.proofs.Closed.Showing.{shown_draws}
use Rattle.law_world_order.proofs.Recorded.{in_range, ours}
use Rattle.law_world_order.proofs.Distinct.{own_distinct, rose}
use Rattle.law_world_order.proofs.Vocabulary.{numbers_of, AreInRange, AreLeftIn}
use Rattle.law_world_honest.proofs.Honesty.Recorded.{InMidst, by_lines_midst, of_reached}
use Rattle.law_world_expected.proofs.Zeros.{some_cookies}
use Rattle.law_world_expected.specs.Roles.{HaveCookies}

-- ---- the world in the midst of a line

module _ {K C S I O : Type 0} (r : Rulebook C S I O) (m : Makers K I O) (d : Deeds C S)
    (first : World K C S I O) (line : Line) (w : World K C S I O) (node : Who) (why : Cause)
    (draws : DrawnByLines r m d first w) (is : IsLicensed r m d line w node why)
    (left : AreLeft (step r m d line w).0.cookies) where
  abbrev did : World K C S I O
  did = (step_line r m d line w).0

  abbrev drew : DrawnByLines r m d first did
  drew =
      draws_then r m d first w did draws
      (draws_by_lines r m d w did (shown_draws r m d (step_line r m d line w).1 w did is.shown))

  split : drew.works.leads.changes
      ≡ (draws.works.leads.changes ++ is.closed.before) ++ is.closed.change ∷ is.closed.after
  split =
      ap (λ (more : List Change). draws.works.leads.changes ++ more) is.closed.split
      ∙ sym (append_assoc draws.works.leads.changes is.closed.before
      (is.closed.change ∷ is.closed.after))

  -- the cookies differ while those of the world behind the line are left, and none is of zeros
  in_midst : 0 < first.cookies.next → HaveCookies (happened (all_noted r m d first nothing
      (by_lines_midst r m d first line w node why draws.works is).leads.changes).client)
  in_midst above = record {
    distinct = own_distinct (happened (all_noted r m d first nothing
        (draws.works.leads.changes ++ is.closed.before)).client)
        (own_cookies r m d first did drew left (draws.works.leads.changes ++ is.closed.before)
        (is.closed.change ∷ is.closed.after) split);
    some = λ n came.
        some_cookies r m d first did drew left above
        (draws.works.leads.changes ++ is.closed.before) (is.closed.change ∷ is.closed.after)
        split (co n)
        (rose (happened (all_noted r m d first nothing
        (draws.works.leads.changes ++ is.closed.before)).client) (co n) no_cookie came);
  }

-- ---- a line of a recording

have_midst : InMidst HaveCookies
have_midst config line w node why draws is left =
    in_midst roles.rules roles.makers roles.deeds (roles.begun config) line w node why draws is left
    (omega arith)

-- and where the cookies differ, since there are some left behind the line
pub of_recording : (node : Who) (why : Cause) (X : Type 0)
    → ((config : WorldConfig) → AreInRange (numbers_of (ours config)) → (v : roles.World)
    → (by : ByChanges roles.rules roles.makers roles.deeds (roles.begun config) v)
    → list_all of_line by.leads.changes ≡ true
    → HaveCookies (happened (all_noted roles.rules roles.makers roles.deeds
    (roles.begun config) nothing by.leads.changes).client)
    → (change : Change) → MayChange roles.rules v change
    → ClosesNode roles.rules v change node why → X)
    → (before : List Line) (line : Line)
    → AreLeftIn (act (prepared (after Before before) line) line).0
    → IsLicensedIn (prepared (after Before before) line) line node why → X
of_recording node why X law before line left =
    of_reached HaveCookies have_midst node why X before line (λ config ranges v by own.
    law config (in_range config ranges) v
    (lines_by_changes roles.rules roles.makers roles.deeds (roles.begun config) v by) by.work
    (own left))
