-- what holds of the ends at each moment of a run, from which the order of its report follows
-- (profile)
use Rattle.std.specs.Prelude.{◌≡◌, Bool}
use Rattle.rh_text.specs.declared.ends.Side.{Side}
use Rattle.rh_line.specs.declared.state.Take.TheVariants as takes
use Rattle.rh_record.specs.Events.Events.{other}
use Rattle.rh_record.specs.Events.Order.{IsPrefix}
use Rattle.rh_inproxy.specs.State.{InProxy}
use Rattle.rh_outproxy.specs.OutProxy.{OutProxy}
use Rattle.rh_client.specs.declared.state.ClientRole.{ClientRole}
use Rattle.rh_server.specs.States.{Server}
use Rattle.rh_nodes.specs.Opening.{Makers}
use Rattle.rh_nodes.specs.World.{World}
use Rattle.law_node_history.specs.Changes.{Change, Leads, WorksBy}
use Rattle.law_node_traces.specs.Traced.Ours.{deeds, rules}
use Rattle.law_node_traces.specs.Traced.Recordings.{history_at}
use Rattle.law_world_reports.specs.Telling.{end_given, end_taken, next_take}
use Rattle.law_world_reports.specs.Ordering.Ends.{IsClosing}

-- all that the other end gave was taken at this one, and the other was told to close
pub record HasAll {K : Type 0} (m : Makers K InProxy OutProxy)
    (w v : World K ClientRole Server InProxy OutProxy) (leads : Leads rules m deeds w v)
    (end : Side) : Type 0 where
  pub all : end_taken rules deeds w.company (history_at m w v leads) end
      ≡ end_given rules deeds w.company (history_at m w v leads) (other end)
  pub closing : IsClosing v (other end)

-- at each moment that changes of one kind reach, what an end took is a front of what the other
-- gave, and where a take would be answered Ended it is all of that
pub record KeepsOrder {K : Type 0} (kind : Change → Bool) (m : Makers K InProxy OutProxy)
    (w : World K ClientRole Server InProxy OutProxy) : Type 0 where
  pub front : (v : World K ClientRole Server InProxy OutProxy)
      (by : WorksBy kind rules m deeds w v) (end : Side)
      → IsPrefix (end_taken rules deeds w.company (history_at m w v by.leads) end)
      (end_given rules deeds w.company (history_at m w v by.leads) (other end))
  pub clean : (v : World K ClientRole Server InProxy OutProxy)
      (by : WorksBy kind rules m deeds w v) (end : Side) → next_take deeds v end ≡ takes.Ended
      → HasAll m w v by.leads end
