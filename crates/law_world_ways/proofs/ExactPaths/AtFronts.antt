-- fronts of the changes that lead to a world of roles: what is known behind each
use Rattle.rh_text.specs.declared.ends.Side.TheVariants as side
use Rattle.law_order.proofs.Vocabulary.{◌≡◌, ◌≢◌, ◌⊎◌, inl, inr, ◌<◌, ◌≤◌, ℕ, List, [], ◌++◌, Bool, true, false, true≢false, not, Some, arith, refl, sym, ap, ◌∙◌, subst, AllByRecursion, list_all, and_parts, cases_lt, IsPrefix}
use Rattle.rh_record.specs.declared.answer.Who.TheVariants as who
use Rattle.rh_inproxy.specs.Machine as in_proxy
use Rattle.rh_inproxy.specs.State as in_state
use Rattle.rh_outproxy.specs.Machine as out_proxy
use Rattle.rh_client.specs.Client as client
use Rattle.rh_client.specs.State as client_state
use Rattle.rh_server.specs.Servers as server
use Rattle.rh_wires.specs.Wires.{is_up}
use Rattle.rh_wires.specs.Legs as legs
use Rattle.rh_wires.specs.Legs as legs
use Rattle.rh_company.specs.Company as company
use Rattle.rh_company.specs.Places as places
use Rattle.rh_company.specs.Company as company
use Rattle.rh_company.specs.Places as places
use Rattle.law_moves.proofs.Vocabulary.{Dir, Side, prefix_self, Pipe, ClientConfig, Leg, Going, Rooms, Acts, Rules, Shell, begun, finished, EndEvent, Event, after_end_events, after_events, is_at_work, is_in_use}
use Rattle.law_role_inproxy.proofs.Vocabulary.{InProxyConfig, InProxy}
use Rattle.law_role_inproxy.specs.Order as in_order
use Rattle.law_role_client.proofs.Vocabulary.{ClientRole, put_log}
use Rattle.law_role_server.proofs.Vocabulary.{Server, sent}
use Rattle.law_node_history.proofs.Vocabulary.{reader_of, sender, Absent, Gone, Makers, World, at, AreAccepted, AreAcceptedAtEnd, ComesUpOnce, ComesUpOnceAtEnd, LegsComeUpOnce, came_up, events_of, happened, wire_at, AreAllowed, ByLines, Change, all_changed, of_line, History, IsNew, all_noted, in_place, nothing, out_place}
use Rattle.law_node_history.proofs.Lemmas.{cast_kept, asked, traced_first, is_up_at}
use Rattle.law_node_causes.proofs.OnceUp.{AllFollow, AllFollowAtEnd}
use Rattle.law_role_outproxy.proofs.Vocabulary.{ROOMS, OutProxyConfig, OutProxy, new_proxy, put_items}
use Rattle.law_node_streams.specs.Streams.{HasPipes, NeverRefuses, StaysUnused, StaysUnusedAtEnd, Stream}
use Rattle.law_node_streams.specs.Grown.{EndGrowing, Growing}
use Rattle.law_node_ends.specs.Passed.{AsksNoEcho, HeadsAre}
use Rattle.law_node_begins.specs.ProxiesBegin.Pipes.{ci, co, in_pipe, is, os, out_pipe}
use Rattle.law_node_traces.proofs.Traced.ByChanges.{lines_by_changes}
use Rattle.law_node_traces.proofs.Vocabulary.{is_gone, was_let_go, ByChanges, ComeUpByLines, ComeUpInOrder, AreOurs, deeds, rules, IsKnown, history_at}
use Rattle.law_peers_routes.specs.Downwards.{client_reads, proxy_reads, server_reads}
use Rattle.law_world_order.proofs.Marked.{RouteLaws}
use Rattle.law_world_order.proofs.Pasts.Family.{EndNodeGrows, NodeGrows}
use Rattle.law_world_order.proofs.Moments.{OurWorld}
use Rattle.law_world_order.proofs.Vocabulary.{Numbers, numbers_of}
use Rattle.law_world_ways.proofs.ExactWays.Passing.{InLaw, OutLaw, ServerLaw}
use Rattle.law_world_ways.proofs.ExactPaths.Drawn.{finished_empty, nothing_left, place_empty}
use Rattle.law_world_ways.proofs.ExactPaths.Finished.{finished_unused, place_unused}
use Rattle.law_world_ways.proofs.ExactPaths.Fronts.{IsEnded, all_front, allowed_front}
use Rattle.law_world_ways.proofs.ExactPaths.Grown.{client_grown, end_going_before, going_before, in_grown, out_grown, server_grown}
use Rattle.law_world_ways.proofs.ExactPaths.Left.{left_by_change, reader_stays}
use Rattle.law_world_ways.proofs.ExactPaths.Marks.{run_clean, run_clean_at_end, unmarked}
use Rattle.law_world_ways.proofs.ExactPaths.Puts.{ClientMarks, InMarks, OutMarks, ServerMarks, ServerUses, client_puts, in_puts, out_puts, server_puts, server_uses}
use Rattle.law_world_ways.proofs.ExactPaths.Receivers.{ClientOrder, InOrder, OutOrder, ServerOrder}
use Rattle.law_world_ways.proofs.ExactPaths.ServerStays.{writing_stays}
use Rattle.law_world_ways.proofs.ExactPaths.Streams.{ClientStream, InStream, OutStream, ServerStream}
use Rattle.law_world_ways.proofs.ExactPaths.Told.{told_by_change}
use Rattle.law_world_ways.specs.LiveIntakes.{ReadsLeg}
use Rattle.law_world_ways.specs.OnPaths.Legs.{has_passed, was_left, was_told, was_up}
use Rattle.law_world_ways.specs.OnPaths.Lost.{was_lost}
use Rattle.law_world_ways.specs.OnPaths.OnWay.{left_on}
use Rattle.law_world_ways.specs.OnPaths.Ways.{AreOnTheirWay, client_node, in_node, out_node, server_node}
use Rattle.law_world_ways.specs.ExactWays.Keeping.{KeepsIfOfUse, KnowsLeg}
use Rattle.law_world_ways.specs.ExactPaths.GoingOn.{AllGoOn}

-- ---- the laws that this stands on

-- of nodes
pub record NodeLaws : Type 0 where
  pub keeps_client : (config : ClientConfig) (events : List EndEvent) (leg : Leg)
      → AreAcceptedAtEnd client.rules client.acts (client.first_client config) events
      → came_up leg (happened events) ≡ true → was_lost leg (happened events) ≡ false
      → KeepsIfOfUse client.rules
      (after_end_events client.rules client.acts (client.first_client config) events) leg
  pub keeps_server : (window : ℕ) (events : List EndEvent) (leg : Leg)
      → AreAcceptedAtEnd server.rules server.acts (server.new_server window) events
      → came_up leg (happened events) ≡ true → was_lost leg (happened events) ≡ false
      → KeepsIfOfUse server.rules
      (after_end_events server.rules server.acts (server.new_server window) events) leg
  pub keeps_in : (config : InProxyConfig) (events : List Event) (leg : Leg)
      → AreAccepted in_proxy.rules (in_proxy.first_node config) events
      → came_up leg events ≡ true → was_lost leg events ≡ false
      → KeepsIfOfUse in_proxy.rules
      (after_events in_proxy.rules (in_proxy.first_node config) events) leg
  pub keeps_out : (config : OutProxyConfig) (events : List Event) (leg : Leg)
      → AreAccepted out_proxy.rules (begun (new_proxy config) ROOMS) events
      → came_up leg events ≡ true → was_lost leg events ≡ false
      → KeepsIfOfUse out_proxy.rules
      (after_events out_proxy.rules (begun (new_proxy config) ROOMS) events) leg
  pub knows_client : (config : ClientConfig) (events : List EndEvent) (leg : Leg)
      → AreAcceptedAtEnd client.rules client.acts (client.first_client config) events
      → KnowsLeg client.rules
      (after_end_events client.rules client.acts (client.first_client config) events) leg
      (came_up leg (happened events))
  pub knows_server : (window : ℕ) (events : List EndEvent) (leg : Leg)
      → AreAcceptedAtEnd server.rules server.acts (server.new_server window) events
      → KnowsLeg server.rules
      (after_end_events server.rules server.acts (server.new_server window) events) leg
      (came_up leg (happened events))
  pub knows_in : (config : InProxyConfig) (events : List Event) (leg : Leg)
      → AreAccepted in_proxy.rules (in_proxy.first_node config) events
      → KnowsLeg in_proxy.rules
      (after_events in_proxy.rules (in_proxy.first_node config) events) leg (came_up leg events)
  pub knows_out : (config : OutProxyConfig) (events : List Event) (leg : Leg)
      → AreAccepted out_proxy.rules (begun (new_proxy config) ROOMS) events
      → KnowsLeg out_proxy.rules
      (after_events out_proxy.rules (begun (new_proxy config) ROOMS) events) leg
      (came_up leg events)
  pub routes : RouteLaws
  pub out_law : OutLaw
  pub in_law : InLaw
  pub server_law : ServerLaw
  pub client_order : ClientOrder
  pub server_order : ServerOrder
  pub in_order : InOrder
  pub out_order : OutOrder
  pub client_grows : EndNodeGrows client.rules client.acts
  pub server_grows : EndNodeGrows server.rules server.acts
  pub in_grows : NodeGrows in_proxy.rules
  pub out_grows : NodeGrows out_proxy.rules
  pub in_pipes : (config : InProxyConfig)
      → HasPipes in_proxy.rules (in_state.first config) (in_pipe config)
  pub out_pipes : (config : OutProxyConfig)
      → HasPipes out_proxy.rules (new_proxy config) (out_pipe config)
  pub in_unused : (config : InProxyConfig)
      → StaysUnused in_proxy.rules (in_state.first config)
  pub out_unused : (config : OutProxyConfig) → StaysUnused out_proxy.rules (new_proxy config)
  pub client_unused : (config : ClientConfig)
      → StaysUnusedAtEnd client.rules client.acts (client_state.first config)
  pub server_unused : (window : ℕ)
      → StaysUnusedAtEnd server.rules server.acts (server.first window)
  pub client_follows : AllFollowAtEnd client.rules client.acts
  pub server_follows : AllFollowAtEnd server.rules server.acts
  pub in_follows : AllFollow in_proxy.rules
  pub out_follows : AllFollow out_proxy.rules
  pub client_refuses : NeverRefuses client.rules
  pub server_refuses : NeverRefuses server.rules
  pub client_marks : ClientMarks
  pub server_marks : ServerMarks
  pub server_uses : ServerUses
  pub in_marks : InMarks
  pub out_marks : OutMarks

-- and of a world of new roles whose numbers are in their ranges
pub record WorldLaws {K : Type 0} (m : Makers K InProxy OutProxy) (w : OurWorld K)
    (ours : AreOurs m w.company w.cast) : Type 0 where
  pub once : LegsComeUpOnce rules m deeds w.company w.cast
  pub known : (v : OurWorld K) (by : ByChanges rules m deeds w v) → IsKnown m w v by.leads
  pub order : (v : OurWorld K) (by : ByChanges rules m deeds w v)
      → ComeUpInOrder v (history_at m w v by.leads)
  pub led : (v : OurWorld K) (lines : ByLines rules m deeds w v)
      → ComeUpByLines v (all_noted rules m deeds w nothing lines.leads.changes)
  pub ways : (v : OurWorld K) (by : ByChanges rules m deeds w v)
      → AreOnTheirWay (numbers_of ours) v (history_at m w v by.leads)
  pub live_client : (v : OurWorld K) (by : ByChanges rules m deeds w v) (leg : Leg)
      → ReadsLeg (client_node (numbers_of ours) (history_at m w v by.leads)) leg
  pub live_server : (v : OurWorld K) (by : ByChanges rules m deeds w v) (leg : Leg)
      → ReadsLeg (server_node (numbers_of ours) (history_at m w v by.leads)) leg
  pub live_in : (v : OurWorld K) (by : ByChanges rules m deeds w v) (n : ℕ) (leg : Leg)
      → ReadsLeg (in_node (numbers_of ours) (history_at m w v by.leads) n) leg
  pub live_out : (v : OurWorld K) (by : ByChanges rules m deeds w v) (n : ℕ) (leg : Leg)
      → ReadsLeg (out_node (numbers_of ours) (history_at m w v by.leads) n) leg
  pub in_echoes : (v : OurWorld K) (by : ByChanges rules m deeds w v) (n : ℕ)
      (stream : Stream in_proxy.rules (in_state.first (ours.in_config n)) in_proxy.rooms
      (in_pipe (ours.in_config n)) ((history_at m w v by.leads).ins n))
      → AllByRecursion (HeadsAre (AsksNoEcho true)) stream.leads.moves
  pub out_echoes : (v : OurWorld K) (by : ByChanges rules m deeds w v) (n : ℕ)
      (stream : Stream out_proxy.rules (new_proxy (ours.out_config n)) ROOMS
      (proxy_reads (ours.out_config n)) ((history_at m w v by.leads).outs n))
      → AllByRecursion (HeadsAre (AsksNoEcho false)) stream.leads.moves
  pub low : (v : OurWorld K) (by : ByChanges rules m deeds w v)
      → (leg : Leg) (end : Side)
      → was_let_go v.company (at v leg end) ≡ true → legs.is_up leg end v.legs ≡ false

-- ---- behind each front

module _ {K : Type 0} (m : Makers K InProxy OutProxy) (w : OurWorld K) (new : IsNew w)
    (ours : AreOurs m w.company w.cast) (node : NodeLaws) (law : WorldLaws m w ours)
    (changes : List Change) (allowed : AreAllowed rules m deeds w changes)
    (works : list_all of_line changes ≡ true)
    (going : AllGoOn (numbers_of ours) (all_noted rules m deeds w nothing changes)) where
  abbrev pub W : List Change → OurWorld K
  W e = all_changed rules m deeds w e

  abbrev pub H : List Change → History
  H e = all_noted rules m deeds w nothing e

  abbrev pub At : List Change → Type 0
  At e = IsPrefix e changes

  abbrev pub numbers : Numbers
  numbers = numbers_of ours

  pub allowed_here : (e : List Change) → At e → AreAllowed rules m deeds w e
  allowed_here e here =
      allowed_front rules m deeds w w e here.0
      (subst (AreAllowed rules m deeds w) (sym here.1) allowed)

  abbrev pub lines_front : (e : List Change) → At e → ByLines rules m deeds w (W e)
  lines_front e here = record {
    leads = record { changes = e; allowed = allowed_here e here; reached = refl };
    work =
        all_front of_line e here.0
        (subst (λ (cs : List Change). list_all of_line cs ≡ true) (sym here.1) works);
  }

  abbrev pub by_front : (e : List Change) → At e → ByChanges rules m deeds w (W e)
  by_front e here = lines_by_changes rules m deeds w (W e) (lines_front e here)

  pub known : (e : List Change) (here : At e) → IsKnown m w (W e) (by_front e here).leads
  known e here = law.known (W e) (by_front e here)

  pub ways : (e : List Change) (here : At e) → AreOnTheirWay numbers (W e) (H e)
  ways e here = law.ways (W e) (by_front e here)

  pub order : (e : List Change) (here : At e) → ComeUpInOrder (W e) (H e)
  order e here = law.order (W e) (by_front e here)

  pub led : (e : List Change) (here : At e) → ComeUpByLines (W e) (H e)
  led e here = law.led (W e) (lines_front e here)

  same_cast : (e : List Change) (here : At e) → (W e).cast ≡ w.cast
  same_cast e here = cast_kept rules m deeds w (W e) (by_front e here).leads

  -- ---- legs came up where they might

  pub client_accepted : (e : List Change) (here : At e)
      → AreAcceptedAtEnd client.rules client.acts (client.first_client ours.config) (H e).client
  client_accepted e here =
      subst (λ (s : Shell ClientRole). AreAcceptedAtEnd client.rules client.acts s (H e).client)
      ours.client (known e here).traced.accepted.client

  pub server_accepted : (e : List Change) (here : At e)
      → AreAcceptedAtEnd server.rules server.acts (server.new_server ours.window) (H e).server
  server_accepted e here =
      subst (λ (s : Shell Server). AreAcceptedAtEnd server.rules server.acts s (H e).server)
      ours.server (known e here).traced.accepted.server

  pub in_accepted : (e : List Change) (here : At e) (n : ℕ)
      → AreAccepted in_proxy.rules (in_proxy.first_node (ours.in_config n)) ((H e).ins n)
  in_accepted e here n =
      subst (λ (s : Shell InProxy). AreAccepted in_proxy.rules s ((H e).ins n))
      (ap (λ (k : K). m.in_proxy k n) (same_cast e here) ∙ ours.ins n)
      ((known e here).traced.accepted.ins n)

  pub out_accepted : (e : List Change) (here : At e) (n : ℕ)
      → AreAccepted out_proxy.rules (begun (new_proxy (ours.out_config n)) ROOMS) ((H e).outs n)
  out_accepted e here n =
      subst (λ (s : Shell OutProxy). AreAccepted out_proxy.rules s ((H e).outs n))
      (ap (λ (k : K). m.out_proxy k n) (same_cast e here) ∙ ours.outs n)
      ((known e here).traced.accepted.outs n)

  -- ---- streams grow

  pub client_growing : (e : List Change) (here : At e)
      → EndGrowing client.rules client.acts (client_state.first ours.config) client.rooms
      client_reads (H e).client
  client_growing e here =
      node.client_grows (client_state.first ours.config) client.rooms client_reads (H e).client
      (λ s leg. refl) node.client_refuses (node.client_unused ours.config)
      (subst (λ (s : Shell ClientRole). ComesUpOnceAtEnd client.rules client.acts s) ours.client
      law.once.client) (client_accepted e here) (known e here).in_turn.client

  pub server_growing : (e : List Change) (here : At e)
      → EndGrowing server.rules server.acts (server.first ours.window) server.rooms server_reads
      (H e).server
  server_growing e here =
      node.server_grows (server.first ours.window) server.rooms server_reads (H e).server
      (λ s leg. refl) node.server_refuses (node.server_unused ours.window)
      (subst (λ (s : Shell Server). ComesUpOnceAtEnd server.rules server.acts s) ours.server
      law.once.server) (server_accepted e here) (known e here).in_turn.server

  pub in_growing : (e : List Change) (here : At e) (n : ℕ)
      → Growing in_proxy.rules (in_state.first (ours.in_config n)) in_proxy.rooms
      (in_pipe (ours.in_config n)) ((H e).ins n)
  in_growing e here n =
      node.in_grows (in_state.first (ours.in_config n)) in_proxy.rooms
      (in_pipe (ours.in_config n)) ((H e).ins n) (node.in_pipes (ours.in_config n))
      (node.in_unused (ours.in_config n))
      (subst (λ (s : Shell InProxy). ComesUpOnce in_proxy.rules s) (ours.ins n) (law.once.ins n))
      (in_accepted e here n) ((known e here).in_turn.ins n)

  pub out_growing : (e : List Change) (here : At e) (n : ℕ)
      → Growing out_proxy.rules (new_proxy (ours.out_config n)) ROOMS
      (proxy_reads (ours.out_config n)) ((H e).outs n)
  out_growing e here n =
      let config = ours.out_config n in
      node.out_grows (new_proxy config) ROOMS (proxy_reads config) ((H e).outs n)
      (λ moves leg allowed.
      node.out_pipes config moves leg allowed ∙ sym (node.out_pipes config [] leg tt))
      (node.out_unused config)
      (subst (λ (s : Shell OutProxy). ComesUpOnce out_proxy.rules s) (ours.outs n)
      (law.once.outs n))
      (out_accepted e here n) ((known e here).in_turn.outs n)

  -- ---- nodes go on

  to_last : (e : List Change) (here : At e) {X : Type 0} (part : History → List X)
      → IsPrefix (part (H e)) (part (H (e ++ here.0)))
      → IsPrefix (part (H e)) (part (H changes))
  to_last e here part p =
      subst (λ (cs : List Change). IsPrefix (part (H e)) (part (H cs))) here.1 p

  pub client_goes : (e : List Change) → At e → (client_node numbers (H e)).course ≡ Going
  client_goes e here =
      end_going_before client.rules client.acts (client.first_client ours.config) (H e).client
      (H changes).client
      (to_last e here (λ h. h.client) (client_grown rules m deeds w e here.0)) going.client

  pub server_goes : (e : List Change) → At e → (server_node numbers (H e)).course ≡ Going
  server_goes e here =
      end_going_before server.rules server.acts (server.new_server ours.window) (H e).server
      (H changes).server
      (to_last e here (λ h. h.server) (server_grown rules m deeds w e here.0)) going.server

  pub in_goes : (e : List Change) → At e → (n : ℕ) → (in_node numbers (H e) n).course ≡ Going
  in_goes e here n =
      going_before in_proxy.rules (in_proxy.first_node (ours.in_config n)) ((H e).ins n)
      ((H changes).ins n)
      (to_last e here (λ h. h.ins n) (in_grown rules m deeds w e here.0 n)) (going.ins n)

  pub out_goes : (e : List Change) → At e → (n : ℕ) → (out_node numbers (H e) n).course ≡ Going
  out_goes e here n =
      going_before out_proxy.rules (begun (new_proxy (ours.out_config n)) ROOMS) ((H e).outs n)
      ((H changes).outs n)
      (to_last e here (λ h. h.outs n) (out_grown rules m deeds w e here.0 n)) (going.outs n)

  -- ---- what they have finished is of no more use

  pub client_unused : (e : List Change) (here : At e) (leg : Leg)
      → company.finished rules (W e).company who.Client leg ≡ true
      → came_up leg (happened (H e).client) ≡ true
      → was_lost leg (happened (H e).client) ≡ false
      → is_in_use client.rules (client_node numbers (H e)).role leg ≡ false
  client_unused e here leg done up untold =
      finished_unused client.rules (client_node numbers (H e)) leg (client_goes e here)
      (subst (λ (s : Shell ClientRole). finished client.rules s leg ≡ true)
      (ways e here).nodes.client done)
      (node.keeps_client ours.config (H e).client leg (client_accepted e here) up untold
      (client_goes e here))

  pub server_unused : (e : List Change) (here : At e) (leg : Leg)
      → company.finished rules (W e).company who.Server leg ≡ true
      → came_up leg (happened (H e).server) ≡ true
      → was_lost leg (happened (H e).server) ≡ false
      → is_in_use server.rules (server_node numbers (H e)).role leg ≡ false
  server_unused e here leg done up untold =
      finished_unused server.rules (server_node numbers (H e)) leg (server_goes e here)
      (subst (λ (s : Shell Server). finished server.rules s leg ≡ true)
      (ways e here).nodes.server done)
      (node.keeps_server ours.window (H e).server leg (server_accepted e here) up untold
      (server_goes e here))

  pub in_unused : (e : List Change) (here : At e) (n : ℕ) (leg : Leg)
      → company.finished rules (W e).company (who.In n) leg ≡ true
      → came_up leg ((H e).ins n) ≡ true → was_lost leg ((H e).ins n) ≡ false
      → is_in_use in_proxy.rules (in_node numbers (H e) n).role leg ≡ false
  in_unused e here n leg done up untold =
      place_unused in_proxy.rules (in_proxy.first_node (ours.in_config n)) ((H e).ins n) leg
      (in_goes e here n)
      (node.keeps_in (ours.in_config n) ((H e).ins n) leg (in_accepted e here n) up untold
      (in_goes e here n)) (in_place (W e).company n) ((ways e here).nodes.ins n)
      (sym (asked Absent (places.finished in_proxy.rules leg) (W e).company.ins n) ∙ done)

  pub out_unused : (e : List Change) (here : At e) (n : ℕ) (leg : Leg)
      → company.finished rules (W e).company (who.Out n) leg ≡ true
      → came_up leg ((H e).outs n) ≡ true → was_lost leg ((H e).outs n) ≡ false
      → is_in_use out_proxy.rules (out_node numbers (H e) n).role leg ≡ false
  out_unused e here n leg done up untold =
      place_unused out_proxy.rules (begun (new_proxy (ours.out_config n)) ROOMS) ((H e).outs n) leg
      (out_goes e here n)
      (node.keeps_out (ours.out_config n) ((H e).outs n) leg (out_accepted e here n) up untold
      (out_goes e here n)) (out_place (W e).company n) ((ways e here).nodes.outs n)
      (sym (asked Absent (places.finished out_proxy.rules leg) (W e).company.outs n) ∙ done)

  -- a leg that is up for a node came up there
  pub rose : (e : List Change) → At e → (leg : Leg) (dir : Dir)
      → legs.is_up leg (sender dir) (W e).legs ≡ true
      → was_up (W e) (H e) leg (sender dir) ≡ true
  rose e here leg dir up =
      ((known e here).traced.carried.each leg dir).put_up
      (sym (is_up_at (W e).legs leg (sender dir)) ∙ up)

  -- ---- nothing is begun there

  pub client_drawn : (e : List Change) (here : At e) (leg : Leg) (up : Bool)
      → company.finished rules (W e).company who.Client leg ≡ true
      → was_lost leg (happened (H e).client) ≡ false
      → left_on (client_node numbers (H e)) leg up (was_lost leg (happened (H e).client))
      ≡ Some []
  client_drawn e here leg up done untold =
      let s = client_node numbers (H e) in
      nothing_left s leg up (was_lost leg (happened (H e).client)) (client_goes e here) untold
      (finished_empty client.rules s leg (client_goes e here)
      (unmarked client.rules leg s
      (run_clean_at_end client.rules leg client.acts node.client_follows
      (client_state.first ours.config) client.rooms (H e).client untold))
      (subst (λ (x : Shell ClientRole). finished client.rules x leg ≡ true)
      (ways e here).nodes.client done))

  pub server_drawn : (e : List Change) (here : At e) (leg : Leg) (up : Bool)
      → company.finished rules (W e).company who.Server leg ≡ true
      → was_lost leg (happened (H e).server) ≡ false
      → left_on (server_node numbers (H e)) leg up (was_lost leg (happened (H e).server))
      ≡ Some []
  server_drawn e here leg up done untold =
      let s = server_node numbers (H e) in
      nothing_left s leg up (was_lost leg (happened (H e).server)) (server_goes e here) untold
      (finished_empty server.rules s leg (server_goes e here)
      (unmarked server.rules leg s
      (run_clean_at_end server.rules leg server.acts node.server_follows
      (server.first ours.window) server.rooms (H e).server untold))
      (subst (λ (x : Shell Server). finished server.rules x leg ≡ true)
      (ways e here).nodes.server done))

  -- a leg that is up for a proxy is of one that was not let go
  still_here : (e : List Change) → At e → (leg : Leg) (end : Side)
      → legs.is_up leg end (W e).legs ≡ true
      → was_let_go (W e).company (at (W e) leg end) ≡ false
  still_here e here leg end up = by (was_let_go (W e).company (at (W e) leg end)) refl
    where
      by : (b : Bool) → was_let_go (W e).company (at (W e) leg end) ≡ b
          → was_let_go (W e).company (at (W e) leg end) ≡ false
      by true gone =
          absurd (true≢false (sym up ∙ law.low (W e) (by_front e here) leg end gone))
      by false stays = stays

  pub in_drawn : (e : List Change) (here : At e) (n : ℕ)
      → legs.is_up (is n) side.Client (W e).legs ≡ true
      → company.finished rules (W e).company (who.In n) (is n) ≡ true
      → was_lost (is n) ((H e).ins n) ≡ false
      → left_on (in_node numbers (H e) n) (is n) (came_up (is n) ((H e).ins n))
      (was_lost (is n) ((H e).ins n)) ≡ Some []
  in_drawn e here n up done untold =
      let s = in_node numbers (H e) n in
      nothing_left s (is n) (came_up (is n) ((H e).ins n)) (was_lost (is n) ((H e).ins n))
      (in_goes e here n) untold
      (place_empty in_proxy.rules (in_proxy.first_node (ours.in_config n)) ((H e).ins n) (is n)
      (in_goes e here n)
      (unmarked in_proxy.rules (is n) s
      (run_clean in_proxy.rules (is n) node.in_follows (in_state.first (ours.in_config n))
      in_proxy.rooms ((H e).ins n) untold)) (in_place (W e).company n)
      ((ways e here).nodes.ins n) not_gone
      (sym (asked Absent (places.finished in_proxy.rules (is n)) (W e).company.ins n) ∙ done))
    where
      not_gone : (now : ℕ) → in_place (W e).company n ≡ Gone now → ⊥
      not_gone now gone =
          true≢false (sym (ap is_gone gone) ∙ still_here e here (is n) side.Client up)

  pub out_drawn : (e : List Change) (here : At e) (n : ℕ)
      → legs.is_up (co n) side.Server (W e).legs ≡ true
      → company.finished rules (W e).company (who.Out n) (co n) ≡ true
      → was_lost (co n) ((H e).outs n) ≡ false
      → left_on (out_node numbers (H e) n) (co n) (came_up (co n) ((H e).outs n))
      (was_lost (co n) ((H e).outs n)) ≡ Some []
  out_drawn e here n up done untold =
      let s = out_node numbers (H e) n in
      nothing_left s (co n) (came_up (co n) ((H e).outs n)) (was_lost (co n) ((H e).outs n))
      (out_goes e here n) untold
      (place_empty out_proxy.rules (begun (new_proxy (ours.out_config n)) ROOMS) ((H e).outs n)
      (co n) (out_goes e here n)
      (unmarked out_proxy.rules (co n) s
      (run_clean out_proxy.rules (co n) node.out_follows (new_proxy (ours.out_config n)) ROOMS
      ((H e).outs n) untold)) (out_place (W e).company n)
      ((ways e here).nodes.outs n) not_gone
      (sym (asked Absent (places.finished out_proxy.rules (co n)) (W e).company.outs n) ∙ done))
    where
      not_gone : (now : ℕ) → out_place (W e).company n ≡ Gone now → ⊥
      not_gone now gone =
          true≢false (sym (ap is_gone gone) ∙ still_here e here (co n) side.Server up)

  -- ---- behind its last use a node put the mark or END

  pub client_put : (e : List Change) (here : At e) (n : ℕ)
      → company.finished rules (W e).company who.Client (ci n) ≡ true
      → came_up (ci n) (happened (H e).client) ≡ true
      → was_lost (ci n) (happened (H e).client) ≡ false
      → (s : ClientStream numbers (H e)) → has_passed (put_log s.passage.passage.put n) ≡ true
  client_put e here n done up untold s =
      client_puts node.client_marks ours.config n (H e).client s up
      (client_unused e here (ci n) done up untold)

  -- up to the channel on which the server writes at last
  pub server_put : (e : List Change) (here : At e) (n : ℕ)
      → n ≤ (server_node numbers (H changes)).role.writing
      → company.finished rules (W e).company who.Server (os n) ≡ true
      → came_up (os n) (happened (H e).server) ≡ true
      → was_lost (os n) (happened (H e).server) ≡ false
      → (s : ServerStream numbers (H e)) → has_passed (sent s.passage n) ≡ true
  server_put e here n within done up untold s = by (cases_lt writing n)
    where
      writing : ℕ
      writing = (server_node numbers (H e)).role.writing

      unused : is_in_use server.rules (server_node numbers (H e)).role (os n) ≡ false
      unused = server_unused e here (os n) done up untold

      rests : writing < n → is_at_work server.rules (server_node numbers (H e)).role ≡ false
      rests behind = of (is_at_work server.rules (server_node numbers (H e)).role) refl
        where
          of : (b : Bool) → is_at_work server.rules (server_node numbers (H e)).role ≡ b
              → is_at_work server.rules (server_node numbers (H e)).role ≡ false
          of true work =
              absurd (true≢false (sym (server_uses ours.window n (H e).server s up
              node.server_uses behind work) ∙ unused))
          of false work = work

      last : writing < n → (server_node numbers (H changes)).role.writing ≡ writing
      last behind =
          writing_stays ours.window (H e).server (H changes).server
          (to_last e here (λ h. h.server) (server_grown rules m deeds w e here.0))
          (server_growing changes (prefix_self changes)) (rests behind)

      by : (writing < n) ⊎ (n ≤ writing) → has_passed (sent s.passage n) ≡ true
      by (inl behind) = absurd (let same = last behind in omega (arith, within, same, behind))
      by (inr low) = server_puts ours.window n (H e).server s up node.server_marks low unused

  pub in_put : (e : List Change) (here : At e) (n : ℕ)
      → company.finished rules (W e).company (who.In n) (is n) ≡ true
      → came_up (is n) ((H e).ins n) ≡ true → was_lost (is n) ((H e).ins n) ≡ false
      → (s : InStream numbers (H e) n) → has_passed (in_order.put_items s.passage.put) ≡ true
  in_put e here n done up untold s =
      in_puts node.in_marks (ours.in_config n) n ((H e).ins n) s
      (law.in_echoes (W e) (by_front e here) n s) (in_unused e here n (is n) done up untold)

  pub out_put : (e : List Change) (here : At e) (n : ℕ)
      → company.finished rules (W e).company (who.Out n) (co n) ≡ true
      → came_up (co n) ((H e).outs n) ≡ true → was_lost (co n) ((H e).outs n) ≡ false
      → (s : OutStream numbers (H e) n) → has_passed (put_items n s.passage.put) ≡ true
  out_put e here n done up untold s =
      out_puts node.out_marks (ours.out_config n) n (ours.out_number n) ((H e).outs n) s
      (law.out_echoes (W e) (by_front e here) n s) (out_unused e here n (co n) done up untold)

  -- ---- legs are lost by changes that end them

  pub told_ends : (leg : Leg) (e : List Change) → At e → (end : Side)
      → was_told (W e) (H e) leg end ≡ true → IsEnded e leg
  told_ends leg e here end told = told_by_change leg rules m deeds w e (at (W e) leg end) told

  not_up : (b : Bool) → not b ≡ true → b ≡ false
  not_up true e = absurd (true≢false (sym e))
  not_up false e = refl

  pub left_ends : (leg : Leg) (e : List Change) → At e → (end : Side)
      → was_left (W e) (H e) leg end ≡ true → IsEnded e leg
  left_ends leg e here end left =
      let parts = and_parts (came_up leg
      (events_of (H e) (at (W e) leg end)))
      (not (is_up end (wire_at (W e).legs leg))) left in
      left_by_change rules m deeds w new law.once e (allowed_here e here) leg end parts.0
      (not_up (is_up end (wire_at (W e).legs leg)) parts.1)

  -- ---- the reader of an IN channel stays

  pub same_reader : (e more : List Change) → At (e ++ more) → (n : ℕ)
      → reader_of (W e).readers n ≢ 0
      → reader_of (W (e ++ more)).readers n ≡ reader_of (W e).readers n
  same_reader e more here n some =
      reader_stays rules m deeds w.company w nothing (traced_first rules m deeds w new) law.once e
      more (allowed_here (e ++ more) here) n some
