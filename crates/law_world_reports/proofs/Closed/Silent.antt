-- only a client and an in proxy fall silent, by what happened at them
use Rattle.law_order.proofs.Vocabulary.{◌≡◌, ℕ, List, Some, None, refl, sym, ◌∙◌, subst}
use Rattle.rh_line.specs.declared.cause.Cause.TheVariants as cause
use Rattle.rh_inproxy.specs.Machine as in_proxies
use Rattle.rh_outproxy.specs.Machine as out_proxies
use Rattle.rh_client.specs.Client as clients
use Rattle.rh_server.specs.States as states
use Rattle.rh_server.specs.Servers as servers
use Rattle.rh_company.specs.Company as company
use Rattle.rh_company.specs.Places as places
use Rattle.law_moves.proofs.Vocabulary.{ClientConfig, Cause, Leg, Rules, Shell, EndEvent, after_end_events, after_events}
use Rattle.law_moves.specs.Moving as moving
use Rattle.law_role_inproxy.proofs.Vocabulary.{InProxyConfig}
use Rattle.law_node_history.proofs.Vocabulary.{Who, Client, Server, In, Out, Line, Event, Place, Absent, Here, Gone, cookie_of, World, IsRun, all_noted, in_place, nothing}
use Rattle.law_node_history.proofs.Lemmas.{cast_kept, answered}
use Rattle.law_node_causes.specs.Closings.{ClosesWith}
use Rattle.law_node_causes.specs.Watching.{ClientFellSilent, InProxyFellSilent}
use Rattle.law_role_outproxy.proofs.Vocabulary.{OutProxy}
use Rattle.rh_world.specs.Roles as roles
use Rattle.law_world_reports.proofs.Vocabulary.{AnyWorld, Before, Direct, Settings, Roles, midst, IsLicensedAt, IsLicensedIn}
use Rattle.law_world_reports.proofs.Closed.Recorded.{IsReached, Reached}
use Rattle.law_world_reports.proofs.Closed.Refused.{midst_runs, never_at}
use Rattle.law_world_reports.specs.Closed.Silences.{FellSilent, IsSilentAt, IsSilentIn}

-- ---- nodes

-- a proxy is what happened at it
run_closes : {S : Type 0} (rules : Rules S) (made : Shell S) (events : List moving.Event)
    (event : Event) (why : Cause) (p : Place S) → IsRun rules made events p
    → (places.tell rules event p).1 ≡ Some why
    → ClosesWith rules (after_events rules made events) event why
run_closes rules made events event why Absent run e = absurd cc
run_closes rules made events event why (Here node legs) run e =
    subst (λ s. ClosesWith rules s event why) run e
run_closes rules made events event why (Gone now) run e = absurd cc

-- what each role's rules say of it
pub record SilentEach : Type 0 where
  pub client : (config : ClientConfig) (events : List EndEvent) (event : Event) (leg : Leg)
      (since now : ℕ)
      → ClosesWith clients.rules
      (after_end_events clients.rules clients.acts (clients.first_client config) events) event
      (cause.Silent leg since now)
      → ClientFellSilent config events event leg since now
  pub in_proxy : (config : InProxyConfig) (events : List moving.Event) (event : Event) (leg : Leg)
      (since now : ℕ)
      → ClosesWith in_proxies.rules
      (after_events in_proxies.rules (in_proxies.first_node config) events) event
      (cause.Silent leg since now)
      → InProxyFellSilent config events event leg since now
  pub out_proxy : (node : Shell OutProxy) (event : Event) (leg : Leg) (since now : ℕ)
      → ClosesWith out_proxies.rules node event (cause.Silent leg since now) → ⊥
  pub server : (node : Shell states.Server) (event : Event) (leg : Leg) (since now : ℕ)
      → ClosesWith servers.rules node event (cause.Silent leg since now) → ⊥

module _ (law : SilentEach) (line : Line) (w : roles.World) (h : IsReached w) (leg : Leg)
    (since now : ℕ) where
  abbrev why : Cause
  why = cause.Silent leg since now

  fell_by : (node : Who) (is : IsLicensedAt w line node why)
      → (company.tell roles.rules
      (midst roles.rules roles.makers roles.deeds line w node why is).company node
      is.closed.closes.event).1 ≡ Some why
      → FellSilent h.config
      (all_noted roles.rules roles.makers roles.deeds (roles.begun h.config) nothing
      (midst_runs line w node why h is).0.changes) node is.closed.closes.event leg since now
  fell_by Client is e =
      let runs = midst_runs line w Client why h is in
      law.client (roles.client_config h.config (cookie_of 1) (cookie_of 2))
      (all_noted roles.rules roles.makers roles.deeds (roles.begun h.config) nothing
      runs.0.changes).client is.closed.closes.event leg since now
      (subst (λ s. ClosesWith clients.rules s is.closed.closes.event why) runs.1.client e)
  fell_by Server is e =
      let v = midst roles.rules roles.makers roles.deeds line w Server why is in
      absurd (law.server v.company.server is.closed.closes.event leg since now e)
  fell_by (In n) is e =
      let event = is.closed.closes.event in
      let v = midst roles.rules roles.makers roles.deeds line w (In n) why is in
      let runs = midst_runs line w (In n) why h is in
      let past = (all_noted roles.rules roles.makers roles.deeds (roles.begun h.config) nothing
      runs.0.changes).ins n in
      let cast : v.cast ≡ h.config =
      cast_kept roles.rules roles.makers roles.deeds (roles.begun h.config) v runs.0 in
      subst (λ config. InProxyFellSilent (roles.in_config config n) past event leg since now) cast
      (law.in_proxy (roles.in_config v.cast n) past event leg since now
      (run_closes in_proxies.rules (roles.in_proxy v.cast n) past event why (in_place v.company n)
      (runs.1.ins n)
      (sym (answered Absent (places.tell in_proxies.rules event) None refl v.company.ins n) ∙ e)))
  fell_by (Out n) is e =
      let event = is.closed.closes.event in
      let c = (midst roles.rules roles.makers roles.deeds line w (Out n) why is).company in
      absurd (never_at out_proxies.rules event why
      (λ node. law.out_proxy node event leg since now) c.outs n e)

  pub silent_at : (node : Who) (is : IsLicensedAt w line node why)
      → IsSilentAt w line node leg since now is
  silent_at node is = record {
    told = is.shows;
    config = h.config;
    leads = (midst_runs line w node why h is).0;
    fell = fell_by node is is.closed.closes.closes;
  }

-- in whatever recording
pub silent_in : SilentEach → (world : AnyWorld) (line : Line) (node : Who) (leg : Leg)
    (since now : ℕ) → Reached world → IsLicensedIn world line node (cause.Silent leg since now)
    → IsSilentIn world line node leg since now
silent_in law Before line node leg since now h is = absurd is
silent_in law (Direct w) line node leg since now h is = absurd is
silent_in law (Settings config) line node leg since now h is = absurd is
silent_in law (Roles w) line node leg since now h is =
    (is, silent_at law line w h leg since now node is)
