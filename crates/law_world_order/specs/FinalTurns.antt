-- what passes an end no more, whatever lines and half steps come (profile)
use Rattle.std.specs.Prelude.{◌≡◌}
use Rattle.rh_text.specs.declared.ends.Side.{Side}
use Rattle.rh_line.specs.declared.cause.Cause.{Cause}
use Rattle.rh_line.specs.declared.state.Take.TheVariants as takes
use Rattle.rh_record.specs.Events.Events.{other}
use Rattle.rh_inproxy.specs.State.{InProxy}
use Rattle.rh_outproxy.specs.OutProxy.{OutProxy}
use Rattle.rh_client.specs.declared.state.ClientRole.{ClientRole}
use Rattle.rh_server.specs.States.{Server}
use Rattle.rh_nodes.specs.Opening.{Makers}
use Rattle.rh_nodes.specs.World.{World}
use Rattle.law_node_history.specs.Closes.{HasClosed}
use Rattle.law_node_history.specs.Histories.{History, all_noted}
use Rattle.law_node_traces.specs.Traced.Cookies.{ByChanges}
use Rattle.law_node_traces.specs.Traced.Ours.{deeds, rules}
use Rattle.law_node_traces.specs.Traced.Recordings.{history_at}
use Rattle.law_world_reports.specs.Telling.{StandsStill, end_given, end_taken, next_take, node_of}
use Rattle.law_world_reports.specs.Ordering.Ends.{IsClosing}

-- what happened until one world, and then until another
abbrev pub history_then : {K : Type 0} (m : Makers K InProxy OutProxy)
    (w v u : World K ClientRole Server InProxy OutProxy) → ByChanges rules m deeds w v
    → ByChanges rules m deeds v u → History
history_then m w v u by on =
    all_noted rules m deeds v (history_at m w v by.leads) on.leads.changes

-- from the one world to the other: where a take at an end would be answered Ended, nothing is taken
-- there any more, and the other end gives nothing; an end that was told to close gives nothing; and
-- one that closed gives and takes nothing
pub record IsFinal {K : Type 0} (m : Makers K InProxy OutProxy)
    (w v u : World K ClientRole Server InProxy OutProxy) : Type 0 where
  pub by : ByChanges rules m deeds w v
  pub on : ByChanges rules m deeds v u
  pub takes_none : (end : Side) → next_take deeds v end ≡ takes.Ended
      → end_taken rules deeds w.company (history_then m w v u by on) end
      ≡ end_taken rules deeds w.company (history_at m w v by.leads) end
  pub gives_none : (end : Side) → next_take deeds v end ≡ takes.Ended
      → end_given rules deeds w.company (history_then m w v u by on) (other end)
      ≡ end_given rules deeds w.company (history_at m w v by.leads) (other end)
  pub closing : (end : Side) → IsClosing v end
      → end_given rules deeds w.company (history_then m w v u by on) end
      ≡ end_given rules deeds w.company (history_at m w v by.leads) end
  pub closed : (end : Side) (why : Cause) → HasClosed v.company (node_of end) why
      → StandsStill rules m deeds w.company v (history_at m w v by.leads) on.leads.changes end
