-- which legs fall silent, since when, and for how long
use Rattle.law_order.proofs.Vocabulary.{◌≡◌, ℕ, ◌≤◌, ◌-◌, List, cond, Bool, true, false, Some, None, refl, sym, ap, ◌∙◌, subst, ◌&&◌, not}
use Rattle.rh_line.specs.declared.cause.Cause.TheVariants as cause
use Rattle.rh_inproxy.specs.declared.state.InProxyConfig.{InProxyConfig}
use Rattle.rh_inproxy.specs.State.{first, channel_of, is_client_leg}
use Rattle.rh_inproxy.specs.Time.{a5_came}
use Rattle.rh_inproxy.specs.Machine as in_proxy
use Rattle.rh_client.specs.Client as client
use Rattle.rh_client.specs.State as clients
use Rattle.rh_company.specs.declared.event.Event as told
use Rattle.rh_company.specs.declared.event.Event.TheVariants as happened
use Rattle.law_moves.proofs.Vocabulary.{ClientConfig, Leg, ClientIn, NearEnd, Rules, Shell, EndEvent, Event, after_end_events, after_events, Follows, EndFollows, started, end_started}
use Rattle.law_moves.proofs.Lemmas.{both}
use Rattle.law_node_causes.proofs.Sorts.{not_so, of_kind}
use Rattle.law_node_causes.proofs.ClientTimes.{watches}
use Rattle.law_node_causes.proofs.ClosedBy.{closes, from_event}
use Rattle.law_node_causes.proofs.RoleRefusals.{in_config}
use Rattle.law_node_causes.proofs.Touches.{since_there, since_there_at_end}
use Rattle.law_node_causes.specs.Closings.{ClosesWith}
use Rattle.law_node_causes.specs.Moments.{last_touched, last_touched_at_end}
use Rattle.law_node_causes.specs.Once.{AreNewLegs, AreNewLegsAtEnd}
use Rattle.law_node_causes.specs.Reasons.{StandsIn, FallsSilent}
use Rattle.law_node_causes.specs.Watching.{in_proxy_limit, InProxyFellSilent, ClientFellSilent}

-- an end of the leg was silent as long as the role allows
record IsSilentLeg {S : Type 0} (rules : Rules S) (node : Shell S) (leg : Leg) (since now : ℕ)
    : Type 0 where
  end : NearEnd
  there : StandsIn node.legs end
  of_leg : end.leg ≡ leg
  last_at : end.since ≡ since
  limit : ℕ
  watched : rules.silence node.role leg ≡ Some limit
  long : limit ≤ now - since

module _ {S : Type 0} (rules : Rules S) (node : Shell S) (event : told.Event) (leg : Leg)
    (since now : ℕ) (h : ClosesWith rules node event (cause.Silent leg since now)) where
  moment : event ≡ happened.Passes now
  moment = from_event rules node event (cause.Silent leg since now) h

  silent_leg : IsSilentLeg rules node leg since now
  silent_leg =
      let f : FallsSilent rules node now (cause.Silent leg since now) =
      closes rules node (happened.Passes now) (cause.Silent leg since now)
      (subst (λ (e : told.Event). ClosesWith rules node e (cause.Silent leg since now)) moment h) in
      let same = f.cause in
      let of_leg : f.end.leg ≡ leg = cc in
      let of_since : f.end.since ≡ since = cc in
      record {
        end = f.end;
        there = f.first.there;
        of_leg = of_leg;
        last_at = of_since;
        limit = f.first.silent.limit;
        watched = subst (λ (l : Leg). rules.silence node.role l ≡ Some f.first.silent.limit) of_leg
            f.first.silent.watched;
        long = subst (λ (n : ℕ). f.first.silent.limit ≤ now - n) of_since f.first.silent.long;
      }

  -- a role that watches no leg does not close so
  pub never_silent : ((role : S) (l : Leg) → rules.silence role l ≡ None) → ⊥
  never_silent none =
      let s = silent_leg in
      let no : None ≡ Some s.limit = sym (none node.role leg) ∙ s.watched in
      absurd cc

-- ---- an in proxy

in_watched : (config : InProxyConfig) (leg : Leg) (handed_over : Bool) (limit : ℕ)
    → in_proxy_limit config leg handed_over ≡ Some limit
    → (leg.kind ≡ ClientIn) × (config.timeout ≡ limit) × (handed_over ≡ false)
in_watched config leg handed_over limit = by (is_client_leg leg && not handed_over) refl
  where
    by : (t : Bool) → (is_client_leg leg && not handed_over) ≡ t
        → cond t (Some config.timeout) None ≡ Some limit
        → (leg.kind ≡ ClientIn) × (config.timeout ≡ limit) × (handed_over ≡ false)
    by true e h =
        let parts = both (is_client_leg leg) (not handed_over) e in
        (of_kind ClientIn leg.kind parts.0, (cc), not_so handed_over parts.1)
    by false e h = absurd cc

pub in_silent : (config : InProxyConfig) (events : List Event)
    → AreNewLegs in_proxy.rules (in_proxy.first_node config) events
    → Follows in_proxy.rules (started (first config))
    (after_events in_proxy.rules (in_proxy.first_node config) events)
    → (event : told.Event) (leg : Leg) (since now : ℕ)
    → ClosesWith in_proxy.rules (after_events in_proxy.rules (in_proxy.first_node config) events)
    event (cause.Silent leg since now)
    → InProxyFellSilent config events event leg since now
in_silent config events new f event leg since now h =
    let node = after_events in_proxy.rules (in_proxy.first_node config) events in
    let s = silent_leg in_proxy.rules node event leg since now h in
    let handed = a5_came node.role (channel_of node.role leg.number) in
    let same : in_proxy_limit config leg handed ≡ Some s.limit =
    ap (λ (x : InProxyConfig). in_proxy_limit x leg handed) (sym (in_config config node f))
    ∙ s.watched in
    let watched = in_watched config leg handed s.limit same in
    record {
      moment = moment in_proxy.rules node event leg since now h;
      kind = watched.0;
      before = watched.2;
      long = subst (λ (n : ℕ). n ≤ now - since) (sym watched.1) s.long;
      last = ap (λ (l : Leg).
          last_touched in_proxy.rules l (in_proxy.first_node config) events None) (sym s.of_leg)
          ∙ since_there in_proxy.rules (first config) in_proxy.rooms events s.end new s.there
          ∙ ap Some s.last_at;
    }

-- ---- a client

pub client_silent : (config : ClientConfig) (events : List EndEvent)
    → AreNewLegsAtEnd client.rules client.acts (client.first_client config) events
    → EndFollows client.rules client.acts (end_started (clients.first config))
    (after_end_events client.rules client.acts (client.first_client config) events)
    → (event : told.Event) (leg : Leg) (since now : ℕ)
    → ClosesWith client.rules
    (after_end_events client.rules client.acts (client.first_client config) events) event
    (cause.Silent leg since now)
    → ClientFellSilent config events event leg since now
client_silent config events new f event leg since now h =
    let node = after_end_events client.rules client.acts (client.first_client config) events in
    let s = silent_leg client.rules node event leg since now h in
    let w = watches config node f in
    record {
      moment = moment client.rules node event leg since now h;
      watches = w;
      limit = s.limit;
      watched = w.watched leg s.limit s.watched;
      long = s.long;
      last = ap (λ (l : Leg).
          last_touched_at_end client.rules client.acts l (client.first_client config) events None)
          (sym s.of_leg)
          ∙ since_there_at_end client.rules client.acts (clients.first config) client.rooms events
          s.end new s.there
          ∙ ap Some s.last_at;
    }
