-- no node falls silent before the least timeout
use Rattle.law_order.proofs.Vocabulary.{◌≡◌, ◌≤◌, ◌-◌, ℕ, zero, suc, List, [], Some, None, refl, sym, ap, ◌∙◌, subst, arith, IsPrefix}
use Rattle.rh_sig.specs.declared.ranges.TheConstants.{LEAST_TIMEOUT}
use Rattle.rh_line.specs.declared.cause.Cause.TheVariants as cause
use Rattle.rh_record.specs.declared.answer.Who.TheVariants as who
use Rattle.rh_client.specs.Client as clients
use Rattle.rh_client.specs.Time.{silence}
use Rattle.rh_inproxy.specs.Machine as machine
use Rattle.rh_company.specs.Company as company
use Rattle.rh_company.specs.Places as places
use Rattle.law_moves.proofs.Vocabulary.{ClientConfig, Cause, Dir, Side, Leg, Rules, Shell, AreFine, EndEvent, after_end_events, after_events}
use Rattle.law_moves.specs.Moving.{Event as Happening}
use Rattle.law_role_inproxy.proofs.Vocabulary.{InProxyConfig, InProxy}
use Rattle.law_role_client.proofs.Vocabulary.{ClientRole}
use Rattle.law_role_server.proofs.Vocabulary.{Server}
use Rattle.law_node_history.proofs.Vocabulary.{Who, sender, receiver, Event, Passes, Place, Absent, Here, Gone, Makers, World, IsTraced, drawn_by, end_node, events_of, heard_on, Change, ClosesNode, History, IsNew, IsRun, in_place, out_place}
use Rattle.law_node_history.proofs.Lemmas.{answered, cast_kept}
use Rattle.law_node_causes.specs.Closings.{ClosesWith, ComesFrom, MayClose}
use Rattle.law_node_causes.specs.Watching.{ClientFellSilent, InProxyFellSilent}
use Rattle.law_role_outproxy.proofs.Vocabulary.{OutProxy}
use Rattle.law_node_traces.proofs.Vocabulary.{AreOurs, ByChanges, IsKnown, deeds, history_at, rules}
use Rattle.law_world_order.proofs.Heard.{heard_fine}
use Rattle.law_world_order.proofs.Legs.{Reads}
use Rattle.law_world_order.proofs.Vocabulary.{AllFine, AreInRange, IsFlowing, numbers_of}
use Rattle.law_world_calm.proofs.LongTimes.{long_watched}

-- what this stands on
pub record SilenceLaws (K : Type 0) : Type 0 where
  pub client : (config : ClientConfig) (events : List EndEvent) (event : Event) (leg : Leg)
      (since now : ℕ)
      → ClosesWith clients.rules
      (after_end_events clients.rules clients.acts (clients.first_client config) events) event
      (cause.Silent leg since now) → ClientFellSilent config events event leg since now
  pub in_proxy : (config : InProxyConfig) (events : List Happening) (event : Event) (leg : Leg)
      (since now : ℕ)
      → ClosesWith machine.rules
      (after_events machine.rules (machine.first_node config) events) event
      (cause.Silent leg since now) → InProxyFellSilent config events event leg since now
  pub out_proxy : (node : Shell OutProxy) (event : Event) (leg : Leg) (since now : ℕ)
      → ClosesWith rules.out_proxy node event (cause.Silent leg since now) → ⊥
  pub server : (node : Shell Server) (event : Event) (leg : Leg) (since now : ℕ)
      → ClosesWith rules.server node event (cause.Silent leg since now) → ⊥
  pub comes : (node : Shell ClientRole) (event : Event) (why : Cause)
      → ClosesWith clients.rules node event why → ComesFrom clients.rules node event why
  pub may : (node : Shell ClientRole) (event : Event) (why : Cause)
      → ClosesWith clients.rules node event why → MayClose clients.rules node event why
  pub reads : Reads
  pub known : (m : Makers K InProxy OutProxy)
      (w v : World K ClientRole Server InProxy OutProxy) → IsNew w → AreOurs m w.company w.cast
      → (by : ByChanges rules m deeds w v) → IsKnown m w v by.leads
  pub flowing : (m : Makers K InProxy OutProxy)
      (w v : World K ClientRole Server InProxy OutProxy) → IsNew w
      → (ours : AreOurs m w.company w.cast) → AreInRange (numbers_of ours)
      → (by : ByChanges rules m deeds w v)
      → IsFlowing (numbers_of ours) w v (history_at m w v by.leads)
  pub drawn : (m : Makers K InProxy OutProxy)
      (w v : World K ClientRole Server InProxy OutProxy) (h : History)
      → IsTraced rules m deeds w.company v h → (leg : Leg) (dir : Dir)
      → IsPrefix (heard_on leg (events_of h (end_node v.readers leg (receiver dir))))
      (drawn_by rules m deeds w.company v.cast h (end_node v.readers leg (sender dir)) leg)
  pub alone : (m : Makers K InProxy OutProxy)
      (w v : World K ClientRole Server InProxy OutProxy) (h : History)
      → IsTraced rules m deeds w.company v h → (node : Who) (leg : Leg)
      → ((end : Side) → end_node v.readers leg end ≡ node → ⊥)
      → heard_on leg (events_of h node) ≡ []

late : (limit since now : ℕ) → LEAST_TIMEOUT ≤ limit → limit ≤ now - since → LEAST_TIMEOUT ≤ now
late limit since now least long = omega (arith, least, long)

-- a proxy is what happened at it
run_closes : {S : Type 0} (rules : Rules S) (made : Shell S) (events : List Happening)
    (event : Event) (why : Cause) (p : Place S) → IsRun rules made events p
    → (places.tell rules event p).1 ≡ Some why
    → ClosesWith rules (after_events rules made events) event why
run_closes rules made events event why Absent run e = absurd cc
run_closes rules made events event why (Here node count) run e =
    subst (λ s. ClosesWith rules s event why) run e
run_closes rules made events event why (Gone now) run e = absurd cc

never_there : {S : Type 0} (rules : Rules S) (event : Event) (why : Cause)
    → ((node : Shell S) → ClosesWith rules node event why → ⊥) → (p : Place S)
    → (places.tell rules event p).1 ≡ Some why → ⊥
never_there rules event why never Absent e = absurd cc
never_there rules event why never (Here node count) e = never node e
never_there rules event why never (Gone now) e = absurd cc

module _ {K : Type 0} (law : SilenceLaws K) (m : Makers K InProxy OutProxy)
    (w : World K ClientRole Server InProxy OutProxy) (new : IsNew w)
    (ours : AreOurs m w.company w.cast) (ranges : AreInRange (numbers_of ours))
    (v : World K ClientRole Server InProxy OutProxy) (by : ByChanges rules m deeds w v)
    (leg : Leg) (since now : ℕ) where
  abbrev why : Cause
  why = cause.Silent leg since now

  abbrev h : History
  h = history_at m w v by.leads

  known : IsKnown m w v by.leads
  known = law.known m w v new ours by

  flowing : IsFlowing (numbers_of ours) w v h
  flowing = law.flowing m w v new ours ranges by

  -- ---- a client

  client_is : v.company.client
      ≡ after_end_events clients.rules clients.acts (clients.first_client ours.config) h.client
  client_is =
      known.traced.runs.client
      ∙ ap (λ (s : Shell ClientRole). after_end_events clients.rules clients.acts s h.client)
      ours.client

  client_watches : (watched : Leg) (limit : ℕ) → silence v.company.client.role watched ≡ Some limit
      → LEAST_TIMEOUT ≤ limit
  client_watches watched limit e =
      let f = flowing.flows.client in
      long_watched ours.config f.leads.moves
      (subst (λ p. AreFine p.passage.came) (sym f.leads.reached) fine.client) watched limit
      (subst (λ p. silence p.passage.role watched ≡ Some limit) (sym f.leads.reached)
      (ap (λ s. silence s watched) f.role
      ∙ ap (λ (s : Shell ClientRole). silence s.role watched) (sym client_is) ∙ e))
    where
      fine : AllFine (numbers_of ours) h flowing.flows
      fine =
          heard_fine law.reads m w.company w.cast ours h h v.readers v.readers
          (λ leg dir. subst (λ (k : K). IsPrefix
          (heard_on leg (events_of h (end_node v.readers leg (receiver dir))))
          (drawn_by rules m deeds w.company k h (end_node v.readers leg (sender dir)) leg))
          (cast_kept rules m deeds w v by.leads) (law.drawn m w v h known.traced leg dir))
          (law.alone m w v h known.traced) flowing.flows flowing.begun flowing.legible
          flowing.flows

  client_late : (event : Event) → ClosesWith clients.rules v.company.client event why
      → LEAST_TIMEOUT ≤ now
  client_late event closes =
      let moment : event ≡ Passes now = law.comes v.company.client event why closes in
      let falls = subst (λ (e : Event). MayClose clients.rules v.company.client e why) moment
      (law.may v.company.client event why closes) in
      let silent = falls.first.silent in
      let same = falls.cause in
      let began : since ≡ falls.end.since = cc in
      late silent.limit since now (client_watches falls.end.leg silent.limit silent.watched)
      (subst (λ (n : ℕ). silent.limit ≤ now - n) (sym began) silent.long)

  -- ---- an in proxy

  in_late : (n : ℕ) (event : Event)
      → (places.tell rules.in_proxy event (in_place v.company n)).1 ≡ Some why
      → LEAST_TIMEOUT ≤ now
  in_late zero event closes =
      absurd (let none = known.traced.zero in
      let bad : (places.tell rules.in_proxy event Absent).1 ≡ Some why =
      subst (λ (p : Place InProxy). (places.tell rules.in_proxy event p).1 ≡ Some why) none closes
      in cc)
  in_late (suc n) event closes =
      let fell = law.in_proxy (ours.in_config (suc n)) (h.ins (suc n)) event leg since now
      (run_closes rules.in_proxy (machine.first_node (ours.in_config (suc n))) (h.ins (suc n)) event
      why (in_place v.company (suc n)) run closes) in
      late (ours.in_config (suc n)).timeout since now (ranges.ins n).timeout.0 fell.long
    where
      run : IsRun rules.in_proxy (machine.first_node (ours.in_config (suc n))) (h.ins (suc n))
          (in_place v.company (suc n))
      run =
          subst (λ (s : Shell InProxy). IsRun rules.in_proxy s (h.ins (suc n))
          (in_place v.company (suc n)))
          (ap (λ (k : K). m.in_proxy k (suc n)) (cast_kept rules m deeds w v by.leads)
          ∙ ours.ins (suc n)) (known.traced.runs.ins (suc n))

  -- ---- each node

  node_late : (node : Who) (event : Event)
      → (company.tell rules v.company node event).1 ≡ Some why → LEAST_TIMEOUT ≤ now
  node_late who.Client event closes = client_late event closes
  node_late who.Server event closes =
      absurd (law.server v.company.server event leg since now closes)
  node_late (who.In n) event closes =
      in_late n event
      (sym (answered Absent (places.tell rules.in_proxy event) None refl v.company.ins n) ∙ closes)
  node_late (who.Out n) event closes =
      absurd (never_there rules.out_proxy event why
      (λ node. law.out_proxy node event leg since now) (out_place v.company n)
      (sym (answered Absent (places.tell rules.out_proxy event) None refl v.company.outs n)
      ∙ closes))

  pub silence_is_late : (change : Change) (node : Who) → ClosesNode rules v change node why
      → LEAST_TIMEOUT ≤ now
  silence_is_late change node closes = node_late node closes.event closes.closes
