-- each node of a world of roles holds at most its window, whatever happened there
use Rattle.law_order.proofs.Vocabulary.{◌≡◌, ℕ, List, refl, sym, subst}
use Rattle.rh_line.specs.Lines as lines
use Rattle.rh_inproxy.specs.Machine as in_proxies
use Rattle.rh_outproxy.specs.Machine as out_proxies
use Rattle.rh_client.specs.Client as clients
use Rattle.rh_server.specs.Servers as servers
use Rattle.rh_server.specs.States as states
use Rattle.law_moves.proofs.Vocabulary.{Server, IsWindow, ClientConfig, Rules, Shell, begun, EndEvent, after_events, after_end_events}
use Rattle.law_moves.specs.Moving as moving
use Rattle.law_role_inproxy.proofs.Vocabulary.{InProxyConfig, InProxy}
use Rattle.law_role_client.proofs.Vocabulary.{ClientRole}
use Rattle.law_node_history.proofs.Vocabulary.{Line, Place, Absent, Here, Gone, cookie_of, Leads, Turn, after_turns, History, AreRuns, IsRun, all_noted, nothing, in_place, out_place}
use Rattle.law_node_history.proofs.Lemmas.{cast_kept, leads_turns, begins, changes_are_noted}
use Rattle.law_role_outproxy.proofs.Vocabulary.{ROOMS, OutProxyConfig, OutProxy, new_proxy}
use Rattle.rh_world.specs.Roles as roles
use Rattle.law_role_windows.specs.Held.{Holds}
use Rattle.law_world_reports.proofs.Vocabulary.{in_window, AnyWorld, Before, Direct, Settings, Roles, WorldConfig, AreInRange, after}
use Rattle.law_world_reports.proofs.Bounded.Reached.{IsRecorded, behind_lines}
use Rattle.law_world_reports.specs.Bounded.{HoldsHere, HoldWindows, WindowsHold}

-- what each role holds, whatever happens at its node
pub record RolesHold : Type 0 where
  pub client : (config : ClientConfig) (events : List EndEvent) → IsWindow config.window
      → Holds config.window
      (after_end_events clients.rules clients.acts (clients.first_client config) events).role.line
  pub server : (window : ℕ) (events : List EndEvent) → IsWindow window
      → Holds window
      (after_end_events servers.rules servers.acts (servers.new_server window) events).role.line
  pub in_proxy : (config : InProxyConfig) (events : List moving.Event) → IsWindow config.window
      → Holds config.window
      (after_events in_proxies.rules (in_proxies.first_node config) events).role.line
  pub out_proxy : (config : OutProxyConfig) (events : List moving.Event)
      → IsWindow config.window
      → Holds config.window
      (after_events out_proxies.rules (begun (new_proxy config) ROOMS) events).role.line

abbrev pub LeadsTo : WorldConfig → roles.World → Type 0
LeadsTo config world = Leads roles.rules roles.makers roles.deeds (roles.begun config) world

-- ---- the numbers stay

pub same_cast : (config : WorldConfig) (world : roles.World) → LeadsTo config world
    → world.cast ≡ config
same_cast config world leads =
    cast_kept roles.rules roles.makers roles.deeds (roles.begun config) world leads

-- ---- the nodes

place_holds : {S : Type 0} (rules : Rules S) (line : S → lines.Line) (window : ℕ)
    (made : Shell S) (events : List moving.Event) (place : Place S)
    → Holds window (line (after_events rules made events).role)
    → IsRun rules made events place → HoldsHere line window place
place_holds rules line window made events Absent holds run = tt
place_holds {S} rules line window made events (Here node legs) holds run =
    subst (λ (x : Shell S). Holds window (line x.role)) (sym run) holds
place_holds rules line window made events (Gone now) holds run = tt

module _ (law : RolesHold) where
  runs_hold : (config : WorldConfig) (world : roles.World) (h : History)
      → AreInRange config → world.cast ≡ config
      → AreRuns roles.rules roles.makers roles.deeds (roles.begun config).company world h
      → HoldWindows world
  runs_hold config world h ranges cast runs =
      let here = subst AreInRange (sym cast) ranges in
      let first = roles.client_config config (cookie_of 1) (cookie_of 2) in
      record {
        client = subst (λ (x : WorldConfig). Holds x.cwin world.company.client.role.line)
            (sym cast)
            (subst (λ (x : Shell ClientRole). Holds config.cwin x.role.line)
            (sym runs.client) (law.client first h.client (in_window config.cwin ranges.cwin)));
        server = subst (λ (x : WorldConfig). Holds x.swin world.company.server.role.line)
            (sym cast)
            (subst (λ (x : Shell states.Server). Holds config.swin x.role.line)
            (sym runs.server)
            (law.server config.swin h.server (in_window config.swin ranges.swin)));
        ins = λ n. place_holds in_proxies.rules (λ (x : InProxy). x.line) world.cast.iwin
            (roles.in_proxy world.cast n) (h.ins n) (in_place world.company n)
            (law.in_proxy (roles.in_config world.cast n) (h.ins n)
            (in_window world.cast.iwin here.iwin))
            (runs.ins n);
        outs = λ n. place_holds out_proxies.rules (λ (x : OutProxy). x.line) world.cast.owin
            (roles.out_proxy world.cast n) (h.outs n) (out_place world.company n)
            (law.out_proxy (roles.out_config world.cast n) (h.outs n)
            (in_window world.cast.owin here.owin))
            (runs.outs n);
      }

  pub reached_hold : (config : WorldConfig) (world : roles.World) → AreInRange config
      → LeadsTo config world → HoldWindows world
  reached_hold config world ranges leads =
      let first = roles.begun config in
      runs_hold config world
      (all_noted roles.rules roles.makers roles.deeds first nothing leads.changes) ranges
      (same_cast config world leads)
      (changes_are_noted roles.rules roles.makers roles.deeds first.company first world nothing
      leads
      (begins roles.rules roles.makers roles.deeds first
      (record { ins = refl; outs = refl; low = refl; unread = refl })))

  pub turns_hold : (config : WorldConfig) (turns : List Turn) → AreInRange config
      → HoldWindows
      (after_turns roles.rules roles.makers roles.deeds (roles.begun config) turns)
  turns_hold config turns ranges =
      reached_hold config
      (after_turns roles.rules roles.makers roles.deeds (roles.begun config) turns) ranges
      (leads_turns roles.rules roles.makers roles.deeds turns (roles.begun config))

-- ---- recordings

module _ (law : (config : WorldConfig) (world : roles.World) → AreInRange config
    → LeadsTo config world → HoldWindows world) where
  recorded_hold : (world : AnyWorld) → IsRecorded world → WindowsHold world
  recorded_hold Before h = tt
  recorded_hold (Direct world) h = tt
  recorded_hold (Settings config) h = tt
  recorded_hold (Roles world) h = law h.config world h.ranges h.lines.leads

  pub windows_hold : (lines : List Line) → WindowsHold (after Before lines)
  windows_hold lines = recorded_hold (after Before lines) (behind_lines Before lines tt)

  pub windows_hold_from : (config : WorldConfig) (lines : List Line) → AreInRange config
      → WindowsHold (after (Settings config) lines)
  windows_hold_from config lines ranges =
      recorded_hold (after (Settings config) lines) (behind_lines (Settings config) lines ranges)
