-- what is known of a recording of the real roles (profile)
use Rattle.rh_inproxy.specs.State.{InProxy}
use Rattle.rh_outproxy.specs.OutProxy.{OutProxy}
use Rattle.rh_client.specs.declared.state.ClientRole.{ClientRole}
use Rattle.rh_server.specs.States.{Server}
use Rattle.rh_nodes.specs.Opening.{Makers}
use Rattle.rh_nodes.specs.World.{World}
use Rattle.law_node_history.specs.Carried.{IsTraced, LegsComeUpOnce}
use Rattle.law_node_history.specs.Changes.{Leads}
use Rattle.law_node_history.specs.Histories.{History, all_noted, nothing}
use Rattle.law_node_traces.specs.Traced.Numbers.{AreRead, is_made}
use Rattle.law_node_traces.specs.Traced.Ours.{rules, deeds}
use Rattle.law_node_traces.specs.Traced.Turns.{HearInTurn}

-- what happened until a moment of a run
abbrev pub history_at : {K : Type 0} (m : Makers K InProxy OutProxy)
    (w v : World K ClientRole Server InProxy OutProxy) → Leads rules m deeds w v → History
history_at m w v leads = all_noted rules m deeds w nothing leads.changes

-- what changes from a new world lead to: the history traces nodes and legs, pieces are heard in
-- turn, and readers have their numbers
pub record IsKnown {K : Type 0} (m : Makers K InProxy OutProxy)
    (w v : World K ClientRole Server InProxy OutProxy) (leads : Leads rules m deeds w v)
    : Type 0 where
  pub once : LegsComeUpOnce rules m deeds w.company v.cast
  pub traced : IsTraced rules m deeds w.company v
      (all_noted rules m deeds w nothing leads.changes)
  pub in_turn : HearInTurn (all_noted rules m deeds w nothing leads.changes)
  pub read : AreRead v.readers (is_made v.company)
