-- what holds of a world of roles behind any lines and half steps (profile)
use Rattle.std.specs.Prelude.{◌≡◌}
use Rattle.rh_text.specs.declared.ends.Side.{Side}
use Rattle.rh_line.specs.declared.state.Take.TheVariants as takes
use Rattle.rh_record.specs.Events.Events.{other}
use Rattle.rh_record.specs.Events.Order.{IsPrefix}
use Rattle.rh_inproxy.specs.State.{InProxy}
use Rattle.rh_outproxy.specs.OutProxy.{OutProxy}
use Rattle.rh_client.specs.declared.state.ClientRole.{ClientRole}
use Rattle.rh_server.specs.States.{Server}
use Rattle.rh_nodes.specs.Opening.{Makers}
use Rattle.rh_nodes.specs.World.{World}
use Rattle.law_node_traces.specs.Traced.Cookies.{ByChanges}
use Rattle.law_node_traces.specs.Traced.Ours.{deeds, rules}
use Rattle.law_node_traces.specs.Traced.Recordings.{history_at}
use Rattle.law_world_reports.specs.Telling.{end_given, end_taken, next_take}
use Rattle.law_world_reports.specs.Ordering.Premises.{HasAll}
use Rattle.law_world_order.specs.Directions.{BothMark}
use Rattle.law_world_order.specs.Flows.{Numbers}

-- changes lead there; by their history what an end took is a front of what the other gave, and all
-- of it where a take would be answered Ended; and nothing stands behind a mark
pub record IsInOrder {K : Type 0} (numbers : Numbers) (m : Makers K InProxy OutProxy)
    (w v : World K ClientRole Server InProxy OutProxy) : Type 0 where
  pub by : ByChanges rules m deeds w v
  pub front : (end : Side)
      → IsPrefix (end_taken rules deeds w.company (history_at m w v by.leads) end)
      (end_given rules deeds w.company (history_at m w v by.leads) (other end))
  pub clean : (end : Side) → next_take deeds v end ≡ takes.Ended → HasAll m w v by.leads end
  pub marks : BothMark numbers v (history_at m w v by.leads)
