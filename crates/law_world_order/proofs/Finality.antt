-- behind a clean end nothing is taken, and behind close nothing given, whatever changes
use Rattle.std.proofs.Common.{◌≡◌, ◌++◌, ℕ, List, [], ◌∷◌, true, refl, sym, ap, ◌∙◌, subst}
use Rattle.std.proofs.lemmas.List.{append_assoc, append-nil}
use Rattle.rh_text.specs.declared.ends.Side.{Side}
use Rattle.rh_text.specs.declared.ends.Side.TheVariants as side
use Rattle.rh_line.specs.declared.cause.Cause.{Cause}
use Rattle.rh_line.specs.declared.state.Take.TheVariants as takes
use Rattle.rh_record.specs.Events.Events.{other}
use Rattle.rh_record.specs.Events.Order.{IsPrefix}
use Rattle.rh_shell.specs.Rules.{Rules, Acts}
use Rattle.rh_shell.specs.Shells.{Shell}
use Rattle.rh_inproxy.specs.State.{InProxy}
use Rattle.rh_outproxy.specs.OutProxy.{OutProxy}
use Rattle.rh_client.specs.declared.state.ClientRole.{ClientRole}
use Rattle.rh_server.specs.States.{Server, is_closing}
use Rattle.rh_company.specs.Company.{Rulebook}
use Rattle.rh_nodes.specs.Giving.{Deeds}
use Rattle.rh_nodes.specs.Opening.{Makers}
use Rattle.rh_nodes.specs.World.{World}
use Rattle.law_moves.specs.Moving.{EndEvent, after_end_event, after_end_events}
use Rattle.law_node_history.specs.Changes.{Change, Leads, all_changed, changed}
use Rattle.law_node_history.specs.Closes.{HasClosed}
use Rattle.law_node_history.specs.Histories.{AreRuns, History, all_noted, noted, nothing}
use Rattle.law_node_history.proofs.Working.{works_then}
use Rattle.law_node_streams.specs.Streams.{all_given, all_taken, taken_by}
use Rattle.law_node_traces.specs.Traced.Cookies.{ByChanges, has_whole_cookie}
use Rattle.law_node_traces.specs.Traced.Ours.{deeds, rules}
use Rattle.law_node_traces.specs.Traced.Recordings.{history_at}
use Rattle.law_world_reports.specs.Telling.{GoesOn, StandsStill, end_events, end_given, end_taken, next_take, node_of}
use Rattle.law_world_reports.specs.Ordering.Ends.{GivesUntilClosing, IsClosing}
use Rattle.law_world_reports.specs.Ordering.Premises.{KeepsOrder}
use Rattle.law_world_reports.proofs.Ordering.Ordering.{nothing_more}
use Rattle.law_world_order.specs.FinalTurns.{IsFinal, history_then}

-- ---- lists

noted_then : {K C S I O : Type 0} (r : Rulebook C S I O) (m : Makers K I O) (d : Deeds C S)
    (w : World K C S I O) (h : History) (cs ds : List Change)
    → all_noted r m d w h (cs ++ ds)
    ≡ all_noted r m d (all_changed r m d w cs) (all_noted r m d w h cs) ds
noted_then r m d w h [] ds = refl
noted_then r m d w h (c ∷ cs) ds =
    noted_then r m d (changed r m d w c) (noted w h c) cs ds

module _ {S : Type 0} (rules_of_end : Rules S) (acts : Acts S) where
  taken_then : (s : Shell S) (xs ys : List EndEvent)
      → all_taken rules_of_end acts s (xs ++ ys)
      ≡ all_taken rules_of_end acts s xs
      ++ all_taken rules_of_end acts (after_end_events rules_of_end acts s xs) ys
  taken_then s [] ys = refl
  taken_then s (x ∷ xs) ys =
      let t = after_end_event rules_of_end acts s x in
      ap (λ more. taken_by acts s x ++ more) (taken_then t xs ys)
      ∙ sym (append_assoc (taken_by acts s x) (all_taken rules_of_end acts t xs)
      (all_taken rules_of_end acts (after_end_events rules_of_end acts t xs) ys))

-- ---- what the laws of histories and of order say of new roles

pub record Finals {K : Type 0} (m : Makers K InProxy OutProxy)
    (w : World K ClientRole Server InProxy OutProxy) : Type 0 where
  pub goes_on : (v : World K ClientRole Server InProxy OutProxy) (h : History)
      (later : List Change) (end : Side)
      → GoesOn (end_events (all_noted rules m deeds v h later) end) (end_events h end)
  pub runs : (v : World K ClientRole Server InProxy OutProxy) (leads : Leads rules m deeds w v)
      → AreRuns rules m deeds w.company v (all_noted rules m deeds w nothing leads.changes)
  pub still : (v u : World K ClientRole Server InProxy OutProxy) (h : History)
      (leads : Leads rules m deeds v u) (end : Side) (why : Cause)
      → AreRuns rules m deeds w.company v h → HasClosed v.company (node_of end) why
      → StandsStill rules m deeds w.company v h leads.changes end
  pub client : GivesUntilClosing rules.client deeds.client (λ (s : ClientRole). s.is_closing)
      w.company.client
  pub server : GivesUntilClosing rules.server deeds.server (λ (s : Server). is_closing s.giving)
      w.company.server
  pub keeps : KeepsOrder has_whole_cookie m w

module _ {K : Type 0} (m : Makers K InProxy OutProxy)
    (w : World K ClientRole Server InProxy OutProxy) (law : Finals m w)
    (v u : World K ClientRole Server InProxy OutProxy) (by : ByChanges rules m deeds w v)
    (on : ByChanges rules m deeds v u) where
  abbrev here : History
  here = history_at m w v by.leads

  abbrev later : History
  later = history_then m w v u by on

  closing_gives : (end : Side) → IsClosing v end
      → end_given rules deeds w.company later end ≡ end_given rules deeds w.company here end
  closing_gives side.Client closing =
      let more = law.goes_on v here on.leads.changes side.Client in
      ap (all_given rules.client deeds.client w.company.client) more.1
      ∙ law.client.told here.client more.0
      (subst (λ (s : Shell ClientRole). s.role.is_closing ≡ true) (law.runs v by.leads).client
      closing)
  closing_gives side.Server closing =
      let more = law.goes_on v here on.leads.changes side.Server in
      ap (all_given rules.server deeds.server w.company.server) more.1
      ∙ law.server.told here.server more.0
      (subst (λ (s : Shell Server). is_closing s.role.giving ≡ true) (law.runs v by.leads).server
      closing)

  -- what is taken goes on
  taken_on : (end : Side) → (more : List (List ℕ))
      × (end_taken rules deeds w.company later end
      ≡ end_taken rules deeds w.company here end ++ more)
  taken_on side.Client =
      let more = law.goes_on v here on.leads.changes side.Client in
      let first = w.company.client in (
        all_taken rules.client deeds.client
            (after_end_events rules.client deeds.client first here.client) more.0,
        ap (all_taken rules.client deeds.client first) more.1
            ∙ taken_then rules.client deeds.client first here.client more.0,
      )
  taken_on side.Server =
      let more = law.goes_on v here on.leads.changes side.Server in
      let first = w.company.server in (
        all_taken rules.server deeds.server
            (after_end_events rules.server deeds.server first here.server) more.0,
        ap (all_taken rules.server deeds.server first) more.1
            ∙ taken_then rules.server deeds.server first here.server more.0,
      )

  abbrev both : ByChanges rules m deeds w u
  both = works_then rules m deeds w v u by on

  history_is : history_at m w u both.leads ≡ later
  history_is =
      noted_then rules m deeds w nothing by.leads.changes on.leads.changes
      ∙ ap (λ (x : World K ClientRole Server InProxy OutProxy).
      all_noted rules m deeds x here on.leads.changes) by.leads.reached

  ended_gives : (end : Side) → next_take deeds v end ≡ takes.Ended
      → end_given rules deeds w.company later (other end)
      ≡ end_given rules deeds w.company here (other end)
  ended_gives end ended = closing_gives (other end) (law.keeps.clean v by end ended).closing

  ended_takes : (end : Side) → next_take deeds v end ≡ takes.Ended
      → end_taken rules deeds w.company later end ≡ end_taken rules deeds w.company here end
  ended_takes end ended =
      let took = end_taken rules deeds w.company here end in
      let all = (law.keeps.clean v by end ended).all in
      let more = taken_on end in
      let front = subst (λ (h : History). IsPrefix (end_taken rules deeds w.company h end)
      (end_given rules deeds w.company h (other end))) history_is (law.keeps.front u both end) in
      let none : more.0 ≡ [] =
      nothing_more took more.0 (subst (λ xs. IsPrefix (took ++ more.0) xs)
      (ended_gives end ended ∙ sym all)
      (subst (λ xs. IsPrefix xs (end_given rules deeds w.company later (other end))) more.1
      front)) in
      more.1 ∙ ap (λ xs. took ++ xs) none ∙ append-nil took

  pub is_final : IsFinal m w v u
  is_final = record {
    by = by;
    on = on;
    takes_none = ended_takes;
    gives_none = ended_gives;
    closing = closing_gives;
    closed = λ end why closed.
        law.still v u here on.leads end why (law.runs v by.leads) closed;
  }
