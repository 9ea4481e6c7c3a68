-- what was taken and given at each moment is in the order that reports are told in
use mathlib.Core.List as lists
use Rattle.rh_text.specs.declared.ends.Side.TheVariants as side
use Rattle.law_order.proofs.Vocabulary.{◌≡◌, ℕ, List, sym, ◌∙◌, ap, subst}
use Rattle.rh_line.specs.declared.state.Take.TheVariants as takes
use Rattle.rh_client.specs.Client as client
use Rattle.rh_server.specs.Servers as server
use Rattle.law_moves.proofs.Vocabulary.{Side, Shell, after_end_events}
use Rattle.law_role_inproxy.proofs.Vocabulary.{InProxy}
use Rattle.law_role_client.proofs.Vocabulary.{ClientRole}
use Rattle.law_role_server.proofs.Vocabulary.{Server, is_closing}
use Rattle.law_node_history.proofs.Vocabulary.{other, IsPrefix, reader_of, Makers, World, of_line, AreRuns}
use Rattle.law_role_outproxy.proofs.Vocabulary.{OutProxy}
use Rattle.law_node_streams.specs.Streams.{all_given, all_taken}
use Rattle.law_node_traces.proofs.Traced.ByChanges.{lines_by_changes}
use Rattle.law_node_traces.proofs.Vocabulary.{ByChanges, has_whole_cookie, AreOurs, deeds, rules, is_made, history_at}
use Rattle.law_world_reports.proofs.Vocabulary.{end_given, end_taken, next_take, HasAll, KeepsOrder}
use Rattle.law_world_order.proofs.Fronts.{Ended, IsInOrder, in_order}
use Rattle.law_world_order.proofs.Vocabulary.{Directions, numbers_of}

front_of : (front all : List (List ℕ)) → lists.IsPrefix front all → IsPrefix front all
front_of front all p = (p.0, sym p.1)

module _ {K : Type 0} (m : Makers K InProxy OutProxy)
    (w : World K ClientRole Server InProxy OutProxy) (ours : AreOurs m w.company w.cast)
    (law : Ended) (joined : (v : World K ClientRole Server InProxy OutProxy)
    (by : ByChanges rules m deeds w v)
    → Directions (numbers_of ours) v (history_at m w v by.leads))
    (runs : (v : World K ClientRole Server InProxy OutProxy)
    (by : ByChanges rules m deeds w v)
    → AreRuns rules m deeds w.company v (history_at m w v by.leads)) where
  moment : (v : World K ClientRole Server InProxy OutProxy) (by : ByChanges rules m deeds w v)
      → IsInOrder ours.config ours.window (history_at m w v by.leads).client
      (history_at m w v by.leads).server
  moment v by =
      let h = history_at m w v by.leads in
      let both = joined v by in
      in_order law ours.config ours.window ours.in_config ours.out_config h.client h.server h.ins
      h.outs (is_made v.company) (reader_of v.readers) both.down both.up

  -- what holds by the first client and the first server
  at_ends : (P : Shell ClientRole → Shell Server → Type 0)
      → P (client.first_client ours.config) (server.new_server ours.window)
      → P w.company.client w.company.server
  at_ends P p =
      subst (λ (c : Shell ClientRole). P c w.company.server) (sym ours.client)
      (subst (λ (s : Shell Server). P (client.first_client ours.config) s)
      (sym ours.server) p)

  front : (v : World K ClientRole Server InProxy OutProxy) (by : ByChanges rules m deeds w v)
      (end : Side)
      → IsPrefix (end_taken rules deeds w.company (history_at m w v by.leads) end)
      (end_given rules deeds w.company (history_at m w v by.leads) (other end))
  front v by side.Client =
      let h = history_at m w v by.leads in
      at_ends (λ (c : Shell ClientRole) (s : Shell Server).
      IsPrefix (all_taken rules.client deeds.client c h.client)
      (all_given rules.server deeds.server s h.server))
      (front_of _ _ (moment v by).down)
  front v by side.Server =
      let h = history_at m w v by.leads in
      at_ends (λ (c : Shell ClientRole) (s : Shell Server).
      IsPrefix (all_taken rules.server deeds.server s h.server)
      (all_given rules.client deeds.client c h.client))
      (front_of _ _ (moment v by).up)

  -- the ends are what their histories made of the first ones
  client_is : (v : World K ClientRole Server InProxy OutProxy) (by : ByChanges rules m deeds w v)
      → v.company.client
      ≡ after_end_events rules.client deeds.client (client.first_client ours.config)
      (history_at m w v by.leads).client
  client_is v by =
      (runs v by).client
      ∙ ap (λ (c : Shell ClientRole). after_end_events rules.client deeds.client c
      (history_at m w v by.leads).client) ours.client

  server_is : (v : World K ClientRole Server InProxy OutProxy) (by : ByChanges rules m deeds w v)
      → v.company.server
      ≡ after_end_events rules.server deeds.server (server.new_server ours.window)
      (history_at m w v by.leads).server
  server_is v by =
      (runs v by).server
      ∙ ap (λ (s : Shell Server). after_end_events rules.server deeds.server s
      (history_at m w v by.leads).server) ours.server

  clean : (v : World K ClientRole Server InProxy OutProxy) (by : ByChanges rules m deeds w v)
      (end : Side) → next_take deeds v end ≡ takes.Ended → HasAll m w v by.leads end
  clean v by side.Client ended =
      let h = history_at m w v by.leads in
      let all = (moment v by).down_ended v.company.client (client_is v by) ended in
      record {
        all = at_ends (λ (c : Shell ClientRole) (s : Shell Server).
            all_taken rules.client deeds.client c h.client
            ≡ all_given rules.server deeds.server s h.server) all.0;
        closing = ap (λ (s : Shell Server). is_closing s.role.giving) (server_is v by) ∙ all.1;
      }
  clean v by side.Server ended =
      let h = history_at m w v by.leads in
      let all = (moment v by).up_ended v.company.server (server_is v by) ended in
      record {
        all = at_ends (λ (c : Shell ClientRole) (s : Shell Server).
            all_taken rules.server deeds.server s h.server
            ≡ all_given rules.client deeds.client c h.client) all.0;
        closing = ap (λ (c : Shell ClientRole). c.role.is_closing) (client_is v by) ∙ all.1;
      }

  pub keeps_order : KeepsOrder has_whole_cookie m w
  keeps_order = record { front = front; clean = clean }

-- what changes of all kinds keep, those of lines do
pub lines_keep_order : {K : Type 0} (m : Makers K InProxy OutProxy)
    (w : World K ClientRole Server InProxy OutProxy) → KeepsOrder has_whole_cookie m w
    → KeepsOrder of_line m w
lines_keep_order m w keeps = record {
  front = λ v lines. keeps.front v (lines_by_changes rules m deeds w v lines);
  clean = λ v lines. keeps.clean v (lines_by_changes rules m deeds w v lines);
}
