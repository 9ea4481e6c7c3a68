-- what is known where no node closed and a leg ends: the end that ends it has no use for it, drew
-- all, and what it put came
use Rattle.std.specs.List.{AllByRecursion}
use Rattle.rh_text.specs.declared.ends.Side.TheVariants as side
use Rattle.law_order.proofs.Vocabulary.{◌≡◌, ◌≢◌, ◌⊎◌, inl, inr, Some, Option, ◌<◌, ◌≤◌, ◌==◌, ◌&&◌, ◌||◌, ◌++◌, not, ℕ, zero, suc, List, [], Bool, true, false, true≢false, if◌then◌else◌, arith, refl, sym, ap, ◌∙◌, subst, cases_Bool, eq-eqb, lt-ltb, and_parts, reader, Item, has_handover}
use Rattle.rh_client.specs.Client as client
use Rattle.rh_client.specs.State as client_state
use Rattle.rh_inproxy.specs.Machine as in_proxy
use Rattle.rh_inproxy.specs.State as in_state
use Rattle.rh_server.specs.Servers as server
use Rattle.rh_shell.specs.declared.answers.Phase.TheVariants as phases
use Rattle.rh_record.specs.declared.answer.Who.TheVariants as who
use Rattle.rh_wires.specs.Legs as legs
use Rattle.rh_wires.specs.Wires as wires
use Rattle.rh_company.specs.Company as company
use Rattle.rh_company.specs.Places as places
use Rattle.law_moves.proofs.Vocabulary.{U, D, Side, Leg, Pipe, CiU, IsU, Shell, ClientConfig, finished, is_in_use, is_at_work, ended, Going, EndMove, EndPassage, EndEvent, Event, after_end_events, after_events, Passage, Move, AreAllowed, all_moved, started}
use Rattle.law_role_inproxy.proofs.Vocabulary.{InProxyConfig, InProxy, item_came, put_items}
use Rattle.law_role_inproxy.specs.Order as in_order
use Rattle.law_role_client.proofs.Vocabulary.{ClientRole, AreAllowedMoves, client_moved, put_log}
use Rattle.law_role_server.proofs.Vocabulary.{Server, got, in_items}
use Rattle.law_node_history.proofs.Vocabulary.{reader_of, Place, Absent, Here, Gone, Makers, at, IsTraced, AreAccepted, AreAcceptedAtEnd, came_up, happened, is_finished, is_up, wire_at, History, IsRun, in_place}
use Rattle.law_node_history.proofs.Lemmas.{asked, is_up_at, not_both}
use Rattle.law_role_outproxy.proofs.Vocabulary.{OutProxy}
use Rattle.law_role_marks.specs.Marks.{marks_handed}
use Rattle.law_node_streams.specs.Streams.{EndStream, Stream}
use Rattle.law_node_ends.specs.Passed.{AsksNoEcho, HeadsAre}
use Rattle.law_node_begins.specs.EndsBegin.{client_reads, server_reads}
use Rattle.law_node_begins.specs.ProxiesBegin.Pipes.{ci, in_pipe, is}
use Rattle.law_node_traces.proofs.Vocabulary.{is_made, AreOurs, AreRead, ComeUpInOrder, ComeUpByLines, deeds, rules}
use Rattle.law_node_traces.specs.LetGo.{is_gone, was_let_go}
use Rattle.law_peers_routes.specs.Upwards.{has_leg}
use Rattle.law_node_marks.specs.Losing.{AllAgree, DrewAll}
use Rattle.law_world_order.proofs.Moments.{OurWorld}
use Rattle.law_world_order.proofs.Vocabulary.{Numbers, numbers_of, up_route_of}
use Rattle.law_world_ways.proofs.ExactWays.ReadBy.{read_by}
use Rattle.law_world_ways.specs.LiveIntakes.{ReadsLeg}
use Rattle.law_world_ways.specs.OnPaths.Legs.{was_told, was_up}
use Rattle.law_world_ways.specs.OnPaths.Lost.{was_lost}
use Rattle.law_world_ways.specs.OnPaths.OnWay.{is_lost, items_on_way}
use Rattle.law_world_ways.specs.OnPaths.Ways.{AreOnTheirWay, client_node, in_node, server_node, up_far, up_near}
use Rattle.law_world_ways.specs.ExactPaths.GoingOn.{AllGoOn}
use Rattle.law_world_ways.specs.ExactPaths.Over.{IsOverUpwards}
use Rattle.law_world_ways.specs.ExactWays.Keeping.{KeepsIfOfUse}
use Rattle.law_world_marks.specs.GoingOn.{GoOnWhereOver}
use Rattle.law_world_marks.specs.WentRound.{WentRound}
use Rattle.law_world_unclosed.proofs.Untold.{IsUntold}
use Rattle.law_node_kept.specs.Keeping.{KeptLeg, KeptLegAtEnd}
use Rattle.law_world_ended.proofs.Agreeing.{all_kept}
use Rattle.law_world_ended.proofs.AllCame.{all_came}
use Rattle.law_world_ended.proofs.Finished.{finished_unused, place_unused}

-- ---- the laws of nodes that this stands on

pub record NodeLaws : Type 0 where
  pub keeps_client : (config : ClientConfig) (events : List EndEvent) (leg : Leg)
      → AreAcceptedAtEnd client.rules client.acts (client.first_client config) events
      → came_up leg (happened events) ≡ true → was_lost leg (happened events) ≡ false
      → KeepsIfOfUse client.rules
      (after_end_events client.rules client.acts (client.first_client config) events) leg
  pub keeps_server : (window : ℕ) (events : List EndEvent) (leg : Leg)
      → AreAcceptedAtEnd server.rules server.acts (server.new_server window) events
      → came_up leg (happened events) ≡ true → was_lost leg (happened events) ≡ false
      → KeepsIfOfUse server.rules
      (after_end_events server.rules server.acts (server.new_server window) events) leg
  pub keeps_in : (config : InProxyConfig) (events : List Event) (leg : Leg)
      → AreAccepted in_proxy.rules (in_proxy.first_node config) events
      → came_up leg events ≡ true → was_lost leg events ≡ false
      → KeepsIfOfUse in_proxy.rules
      (after_events in_proxy.rules (in_proxy.first_node config) events) leg
  pub drew_client : (config : ClientConfig) (events : List EndEvent) (leg : Leg)
      → KeptLegAtEnd leg events
      → (let node = after_end_events client.rules client.acts (client.first_client config) events
      in node.course ≡ Going → finished client.rules node leg ≡ true → DrewAll node leg)
  pub drew_in : (config : InProxyConfig) (events : List Event) (leg : Leg)
      → KeptLeg leg events
      → (let node = after_events in_proxy.rules (in_proxy.first_node config) events in
      node.course ≡ Going → finished in_proxy.rules node leg ≡ true → DrewAll node leg)
  pub client_put : (config : ClientConfig) (moves : List EndMove) → AreAllowedMoves config moves
      → (let p = client_moved config moves in (n : ℕ) → 0 < n
      → is_at_work client.rules p.passage.role ≡ true
      → is_in_use client.rules p.passage.role (ci n) ≡ false
      → has_handover (put_log p.passage.put n) ≡ true)
  pub client_rests : (config : ClientConfig) (events more : List EndEvent)
      → (let node = after_end_events client.rules client.acts (client.first_client config) events
      in node.role.phase ≡ phases.Ended
      → (after_end_events client.rules client.acts node more).role.phase ≡ phases.Ended)
  pub in_handed : (config : InProxyConfig) (moves : List Move)
      → AreAllowed in_proxy.rules (started (in_state.first config)) moves
      → (let p = all_moved in_proxy.rules (started (in_state.first config)) moves in (n : ℕ)
      → has_handover (in_order.came_log p.came n) ≡ true
      → marks_handed p.role (ci n) ≡ in_proxy.rules.only_marks p.role (ci n))
  pub in_unused : (config : InProxyConfig) (pipe : Leg → Option Pipe) (events : List Event)
      (stream : Stream in_proxy.rules (in_state.first config) in_proxy.rooms pipe events)
      → AllByRecursion (HeadsAre (AsksNoEcho true)) stream.leads.moves
      → AllAgree in_proxy.rules marks_handed (in_proxy.first_node config) events
      → (n : ℕ) → config.number ≤ n
      → (let s = (after_events in_proxy.rules (in_proxy.first_node config) events).role in
      is_in_use in_proxy.rules s (ci n) ≡ false
      → marks_handed s (ci n) ≡ in_proxy.rules.only_marks s (ci n))
  pub in_over : (config : InProxyConfig) (pipe : Leg → Option Pipe) (events : List Event)
      (stream : Stream in_proxy.rules (in_state.first config) in_proxy.rooms pipe events)
      → AllByRecursion (HeadsAre (AsksNoEcho true)) stream.leads.moves
      → AllAgree in_proxy.rules marks_handed (in_proxy.first_node config) events
      → is_at_work in_proxy.rules
      (after_events in_proxy.rules (in_proxy.first_node config) events).role ≡ false
      → has_handover (put_items stream.passage.put) ≡ true
  pub server_done : (window : ℕ) (events : List EndEvent) (n : ℕ)
      → KeptLegAtEnd (is n) events
      → (let node = after_end_events server.rules server.acts (server.new_server window) events in
      server.rules.is_done node.role (is n) ≡ true
      → (ended server.rules node (is n)).0.course ≡ node.course)
  pub server_handed : (window : ℕ) (pipe : Leg → Option Pipe) (events : List EndEvent)
      (stream : EndStream server.rules server.acts (server.first window) server.rooms pipe events)
      (n : ℕ) → has_handover (got stream.passage n) ≡ true
      → (let node = after_end_events server.rules server.acts (server.new_server window) events in
      (server.rules.is_done node.role (is n) ≡ true → DrewAll node (is n))
      → (ended server.rules node (is n)).0.course ≡ node.course)
  pub server_over : (node : Shell Server) (leg : Leg)
      → is_at_work server.rules node.role ≡ false
      → (ended server.rules node leg).0.course ≡ node.course

-- ---- and what is known of a world and its history

pub record At {K : Type 0} (m : Makers K InProxy OutProxy) (first : OurWorld K)
    (ours : AreOurs m first.company first.cast) (w : OurWorld K) (h : History) : Type 0 where
  pub cast : w.cast ≡ first.cast
  pub traced : IsTraced rules m deeds first.company w h
  pub read : AreRead w.readers (is_made w.company)
  pub going : AllGoOn (numbers_of ours) h
  pub ways : AreOnTheirWay (numbers_of ours) w h
  pub heads : (n : ℕ)
      → AllByRecursion (HeadsAre (AsksNoEcho true)) (ways.directions.up.proxies n).leads.moves
  pub live_in : (n : ℕ) (leg : Leg) → ReadsLeg (in_node (numbers_of ours) h n) leg
  pub live_server : (leg : Leg) → ReadsLeg (server_node (numbers_of ours) h) leg
  pub round : (client_node (numbers_of ours) h).role.phase ≡ phases.Ended
      → WentRound (numbers_of ours) h
  pub order : ComeUpInOrder w h
  pub led : ComeUpByLines w h
  pub low : (leg : Leg) (end : Side) → was_let_go w.company (at w leg end) ≡ true
      → legs.is_up leg end w.legs ≡ false
  pub go_on : GoOnWhereOver (numbers_of ours) w h

module _ (laws : NodeLaws) {K : Type 0} (m : Makers K InProxy OutProxy) (first w : OurWorld K)
    (h : History) (ours : AreOurs m first.company first.cast) (a : At m first ours w h)
    (untold : IsUntold rules m deeds first.company w h) where
  abbrev pub numbers : Numbers
  numbers = numbers_of ours

  module _ (leg : Leg) (up : (end : Side) → legs.is_up leg end w.legs ≡ true) where
    -- no node was told of a leg that is up for it
    pub not_told : (end : Side) → was_told w h leg end ≡ false
    not_told end = by (cases_Bool (was_told w h leg end))
      where
        by : (was_told w h leg end ≡ true) ⊎ (was_told w h leg end ≡ false)
            → was_told w h leg end ≡ false
        by (inl told) =
            not_both (wires.is_up end (wire_at w.legs leg))
            (sym (is_up_at w.legs leg end) ∙ up end) (untold.down leg end told)
        by (inr rest) = rest

    -- and it came up there
    pub rose : (end : Side) → was_up w h leg end ≡ true
    rose side.Client =
        (a.traced.carried.each leg U).put_up (sym (is_up_at w.legs leg side.Client) ∙ up side.Client)
    rose side.Server =
        (a.traced.carried.each leg D).put_up (sym (is_up_at w.legs leg side.Server) ∙ up side.Server)

    pub over : is_finished rules leg U w ≡ true → IsOverUpwards rules w h leg
    over done = record { up = up; untold = not_told; done = done }

  -- ---- the client, which has finished a ci leg

  client_accepted : AreAcceptedAtEnd client.rules client.acts (client.first_client ours.config)
      h.client
  client_accepted =
      subst (λ (s : Shell ClientRole). AreAcceptedAtEnd client.rules client.acts s h.client)
      ours.client a.traced.accepted.client

  server_accepted : AreAcceptedAtEnd server.rules server.acts (server.new_server ours.window)
      h.server
  server_accepted =
      subst (λ (s : Shell Server). AreAcceptedAtEnd server.rules server.acts s h.server)
      ours.server a.traced.accepted.server

  in_accepted : (n : ℕ)
      → AreAccepted in_proxy.rules (in_proxy.first_node (ours.in_config n)) (h.ins n)
  in_accepted n =
      subst (λ (s : Shell InProxy). AreAccepted in_proxy.rules s (h.ins n))
      (ap (λ (k : K). m.in_proxy k n) a.cast ∙ ours.ins n) (a.traced.accepted.ins n)

  module _ (n : ℕ) (up : (end : Side) → legs.is_up (ci n) end w.legs ≡ true)
      (done : company.finished rules w.company who.Client (ci n) ≡ true) where
    client_done : finished client.rules (client_node numbers h) (ci n) ≡ true
    client_done =
        subst (λ (s : Shell ClientRole). finished client.rules s (ci n) ≡ true) a.ways.nodes.client
        done

    client_unused : is_in_use client.rules (client_node numbers h).role (ci n) ≡ false
    client_unused =
        finished_unused client.rules (client_node numbers h) (ci n) a.going.client client_done
        (laws.keeps_client ours.config h.client (ci n) client_accepted (rose (ci n) up side.Client)
        (not_told (ci n) up side.Client) a.going.client)

    client_drew : DrewAll (client_node numbers h) (ci n)
    client_drew =
        laws.drew_client ours.config h.client (ci n)
        (all_kept (ci n) (happened h.client) (not_told (ci n) up side.Client)) a.going.client
        client_done

    abbrev giver : EndStream client.rules client.acts (client_state.first ours.config) client.rooms
        client_reads h.client
    giver = a.ways.directions.up.giver

    -- so while it works it put IN_R1/A5 there
    client_handed : 0 < n → is_at_work client.rules (client_node numbers h).role ≡ true
        → has_handover (put_log giver.passage.passage.put n) ≡ true
    client_handed some work =
        subst (λ (q : EndPassage ClientRole). is_at_work client.rules q.passage.role ≡ true
        → is_in_use client.rules q.passage.role (ci n) ≡ false
        → has_handover (put_log q.passage.put n) ≡ true) giver.leads.reached
        (laws.client_put ours.config giver.leads.moves giver.leads.allowed n some)
        (subst (λ (s : ClientRole). is_at_work client.rules s ≡ true) (sym giver.role) work)
        (subst (λ (s : ClientRole). is_in_use client.rules s (ci n) ≡ false) (sym giver.role)
        client_unused)

    abbrev k : ℕ
    k = reader_of w.readers n

    abbrev stream : Stream in_proxy.rules (in_state.first (ours.in_config k)) in_proxy.rooms
        (in_pipe (ours.in_config k)) (h.ins k)
    stream = a.ways.directions.up.proxies k

    -- and it came to the in proxy, or that has no use for the leg
    pub in_handed_over : 0 < n → k ≢ 0 → legs.is_clear (ci n) U w.legs ≡ true
        → is_at_work client.rules (client_node numbers h).role ≡ true
        → (has_handover (in_order.came_log stream.passage.came n) ≡ true)
        ⊎ (is_in_use in_proxy.rules (in_node numbers h k).role (ci n) ≡ false)
    in_handed_over some read clear work =
        by (all_came w h (ci n) U (Some CiU) (client_node numbers h) in_proxy.rules
        (in_node numbers h k) item_came a.going.client (a.going.ins k) up
        (rose (ci n) up side.Server) (not_told (ci n) up side.Client)
        (laws.keeps_in (ours.in_config k) (h.ins k) (ci n) (in_accepted k)
        (rose (ci n) up side.Server) (not_told (ci n) up side.Server) (a.going.ins k))
        (a.live_in k (ci n)) client_drew clear (put_log giver.passage.passage.put n)
        (in_order.came_log stream.passage.came n) arrives)
      where
        same : reader (up_route_of a.ways.directions).legs n ≡ k
        same = read_by w.readers (is_made w.company) a.read n read

        arrives : is_lost (up_near numbers w h n) ≡ false
            → put_log giver.passage.passage.put n
            ≡ in_order.came_log stream.passage.came n
            ++ items_on_way item_came (up_near numbers w h n)
        arrives kept =
            subst (λ (j : ℕ). put_log giver.passage.passage.put n
            ≡ in_order.came_log (a.ways.directions.up.proxies j).passage.came n
            ++ items_on_way item_came (up_near numbers w h n)) same
            (a.ways.up.arrives.near n some kept)

        by : (put_log giver.passage.passage.put n ≡ in_order.came_log stream.passage.came n)
            ⊎ (is_in_use in_proxy.rules (in_node numbers h k).role (ci n) ≡ false)
            → (has_handover (in_order.came_log stream.passage.came n) ≡ true)
            ⊎ (is_in_use in_proxy.rules (in_node numbers h k).role (ci n) ≡ false)
        by (inl all) = inl (ap has_handover (sym all) ∙ client_handed some work)
        by (inr none) = inr none

  -- ---- an in proxy, which has finished a leg

  module _ (k : ℕ) (leg : Leg) (rose_there : came_up leg (h.ins k) ≡ true)
      (untold_there : was_lost leg (h.ins k) ≡ false)
      (done : company.finished rules w.company (who.In k) leg ≡ true) where
    there : places.finished in_proxy.rules leg (in_place w.company k) ≡ true
    there = sym (asked Absent (places.finished in_proxy.rules leg) w.company.ins k) ∙ done

    pub in_unused : is_in_use in_proxy.rules (in_node numbers h k).role leg ≡ false
    in_unused =
        place_unused in_proxy.rules (in_proxy.first_node (ours.in_config k)) (h.ins k) leg
        (a.going.ins k)
        (laws.keeps_in (ours.in_config k) (h.ins k) leg (in_accepted k) rose_there untold_there
        (a.going.ins k)) (in_place w.company k) (a.ways.nodes.ins k) there

    in_drew : ((now : ℕ) → in_place w.company k ≡ Gone now → ⊥)
        → DrewAll (in_node numbers h k) leg
    in_drew stays = by (in_place w.company k) refl (a.ways.nodes.ins k) there
      where
        by : (place : Place InProxy) → in_place w.company k ≡ place
            → IsRun in_proxy.rules (in_proxy.first_node (ours.in_config k)) (h.ins k) place
            → places.finished in_proxy.rules leg place ≡ true → DrewAll (in_node numbers h k) leg
        by Absent is run finished_there = absurd (true≢false (sym finished_there))
        by (Here node count) is run finished_there =
            laws.drew_in (ours.in_config k) (h.ins k) leg (all_kept leg (h.ins k) untold_there)
            (a.going.ins k)
            (subst (λ (s : Shell InProxy). finished in_proxy.rules s leg ≡ true) run
            finished_there)
        by (Gone now) is run finished_there = absurd (stays now is)

  -- by the rules that only mark what was handed over
  module _ (k n : ℕ) (from : k ≤ n)
      (agree : AllAgree in_proxy.rules marks_handed (in_proxy.first_node (ours.in_config k))
      (h.ins k)) where
    abbrev Agrees : Type 0
    Agrees =
        marks_handed (in_node numbers h k).role (ci n)
        ≡ in_proxy.rules.only_marks (in_node numbers h k).role (ci n)

    abbrev own_stream : Stream in_proxy.rules (in_state.first (ours.in_config k)) in_proxy.rooms
        (in_pipe (ours.in_config k)) (h.ins k)
    own_stream = a.ways.directions.up.proxies k

    pub may_lose_unused : is_in_use in_proxy.rules (in_node numbers h k).role (ci n) ≡ false
        → Agrees
    may_lose_unused =
        laws.in_unused (ours.in_config k) (in_pipe (ours.in_config k)) (h.ins k) own_stream
        (a.heads k) agree n (subst (λ (j : ℕ). j ≤ n) (sym (ours.in_number k)) from)

    pub may_lose_handed : has_handover (in_order.came_log own_stream.passage.came n) ≡ true
        → Agrees
    may_lose_handed came =
        subst (λ (s : InProxy). marks_handed s (ci n) ≡ in_proxy.rules.only_marks s (ci n))
        own_stream.role
        (subst (λ (p : Passage InProxy). has_handover (in_order.came_log p.came n) ≡ true
        → marks_handed p.role (ci n) ≡ in_proxy.rules.only_marks p.role (ci n))
        own_stream.leads.reached
        (laws.in_handed (ours.in_config k) own_stream.leads.moves own_stream.leads.allowed n) came)

  -- ---- the server, for which an is leg ends

  module _ (n : ℕ) (up : (end : Side) → legs.is_up (is n) end w.legs ≡ true)
      (ended_up : is_finished rules (is n) U w ≡ true)
      (agree : AllAgree in_proxy.rules marks_handed (in_proxy.first_node (ours.in_config n))
      (h.ins n)) where
    parts : (company.finished rules w.company (who.In n) (is n) ≡ true)
        × (legs.is_clear (is n) U w.legs ≡ true)
    parts =
        and_parts (company.finished rules w.company (who.In n) (is n))
        (legs.is_clear (is n) U w.legs) ended_up

    abbrev taker : EndStream server.rules server.acts (server.first ours.window) server.rooms
        server_reads h.server
    taker = a.ways.directions.up.taker

    abbrev far_stream : Stream in_proxy.rules (in_state.first (ours.in_config n)) in_proxy.rooms
        (in_pipe (ours.in_config n)) (h.ins n)
    far_stream = a.ways.directions.up.proxies n

    not_gone : (now : ℕ) → in_place w.company n ≡ Gone now → ⊥
    not_gone now gone =
        true≢false (sym (up side.Client) ∙ a.low (is n) side.Client (gone_is now gone))
      where
        gone_is : (now : ℕ) → in_place w.company n ≡ Gone now
            → was_let_go w.company (who.In n) ≡ true
        gone_is now e = ap is_gone e

    -- an in proxy that was made reads the channel of its number
    is_there : is_made w.company n ≡ true
    is_there = by (is_made w.company n) refl
      where
        by : (b : Bool) → is_made w.company n ≡ b → is_made w.company n ≡ true
        by true e = e
        by false e =
            absurd (true≢false (sym (rose (is n) up side.Client)
            ∙ ap (came_up (is n)) (a.order.unmade n e)))

    some : 0 < n
    some = by n is_there
      where
        by : (j : ℕ) → is_made w.company j ≡ true → 0 < j
        by zero e = absurd (true≢false (sym e ∙ a.order.none))
        by (suc j) e = omega arith

    has_one : has_leg (reader_of w.readers) n ≡ true
    has_one =
        ap (λ (t : Bool). t && (reader_of w.readers n == n || reader_of w.readers n == 0))
        (lt-ltb 0 n some)
        ∙ first_of (reader_of w.readers n == n) (reader_of w.readers n == 0)
        (eq-eqb (reader_of w.readers n) n (a.order.own n is_there))
      where
        first_of : (x y : Bool) → x ≡ true → (x || y) ≡ true
        first_of true y e = refl
        first_of false y e = absurd (true≢false (sym e))

    if_there : (b : Bool) (items : List Item) → b ≡ true → (if b then items else []) ≡ items
    if_there true items e = refl
    if_there false items e = absurd (true≢false (sym e))

    -- the in proxy is over: it put IN_R1/A6
    proxy_over : is_at_work in_proxy.rules (in_node numbers h n).role ≡ false
    proxy_over =
        stopped (is_at_work in_proxy.rules (in_node numbers h n).role)
        (in_unused n (is n) (rose (is n) up side.Client) (not_told (is n) up side.Client) parts.0)
      where
        stopped : (b : Bool) → (b && true) ≡ false → b ≡ false
        stopped true e = absurd (true≢false e)
        stopped false e = refl

    proxy_put : has_handover (put_items far_stream.passage.put) ≡ true
    proxy_put =
        laws.in_over (ours.in_config n) (in_pipe (ours.in_config n)) (h.ins n) far_stream
        (a.heads n) agree proxy_over

    -- it came, or the server has no use for the leg
    server_got : (has_handover (got taker.passage n) ≡ true)
        ⊎ (is_in_use server.rules (server_node numbers h).role (is n) ≡ false)
    server_got =
        by (all_came w h (is n) U (Some IsU) (in_node numbers h n) server.rules
        (server_node numbers h) in_items (a.going.ins n) a.going.server up
        (rose (is n) up side.Server) (not_told (is n) up side.Client)
        (laws.keeps_server ours.window h.server (is n) server_accepted
        (rose (is n) up side.Server) (not_told (is n) up side.Server) a.going.server)
        (a.live_server (is n))
        (in_drew n (is n) (rose (is n) up side.Client) (not_told (is n) up side.Client) parts.0
        not_gone) parts.1 (put_items far_stream.passage.put) (got taker.passage n) arrives)
      where
        arrives : is_lost (up_far numbers w h n) ≡ false
            → put_items far_stream.passage.put
            ≡ got taker.passage n ++ items_on_way in_items (up_far numbers w h n)
        arrives kept =
            sym (if_there (has_leg (reader_of w.readers) n) (put_items far_stream.passage.put)
            has_one)
            ∙ a.ways.up.arrives.far n kept
            ∙ ap (λ (items : List Item). got taker.passage n ++ items)
            (if_there (has_leg (reader_of w.readers) n)
            (items_on_way in_items (up_far numbers w h n)) has_one)

        by : (put_items far_stream.passage.put ≡ got taker.passage n)
            ⊎ (is_in_use server.rules (server_node numbers h).role (is n) ≡ false)
            → (has_handover (got taker.passage n) ≡ true)
            ⊎ (is_in_use server.rules (server_node numbers h).role (is n) ≡ false)
        by (inl all) = inl (ap has_handover (sym all) ∙ proxy_put)
        by (inr none) = inr none

    -- so it goes on, if it has use for the leg
    pub server_goes_handed : server.rules.is_done (server_node numbers h).role (is n) ≡ false
        → (ended server.rules (server_node numbers h) (is n)).0.course ≡ Going
    server_goes_handed undone = by server_got ∙ a.going.server
      where
        stopped : (b : Bool) → server.rules.is_done (server_node numbers h).role (is n) ≡ false
            → (b && not (server.rules.is_done (server_node numbers h).role (is n))) ≡ false
            → b ≡ false
        stopped true e f = absurd (true≢false (ap (λ (t : Bool). not t) (sym e) ∙ f))
        stopped false e f = refl

        by : (has_handover (got taker.passage n) ≡ true)
            ⊎ (is_in_use server.rules (server_node numbers h).role (is n) ≡ false)
            → (ended server.rules (server_node numbers h) (is n)).0.course
            ≡ (server_node numbers h).course
        by (inl handed) =
            laws.server_handed ours.window server_reads h.server taker n handed
            (λ done. absurd (true≢false (sym done ∙ undone)))
        by (inr none) =
            laws.server_over (server_node numbers h) (is n)
            (stopped (is_at_work server.rules (server_node numbers h).role) undone none)

  -- whether the client's work is done or not
  pub server_goes : (n : ℕ) (up : (end : Side) → legs.is_up (is n) end w.legs ≡ true)
      → is_finished rules (is n) U w ≡ true
      → ((client_node numbers h).role.phase ≡ phases.Ended)
      ⊎ AllAgree in_proxy.rules marks_handed (in_proxy.first_node (ours.in_config n)) (h.ins n)
      → (ended server.rules (server_node numbers h) (is n)).0.course ≡ Going
  server_goes n up done marked =
      by (server.rules.is_done (server_node numbers h).role (is n)) refl marked
    where
      by : (b : Bool) → server.rules.is_done (server_node numbers h).role (is n) ≡ b
          → ((client_node numbers h).role.phase ≡ phases.Ended)
          ⊎ AllAgree in_proxy.rules marks_handed (in_proxy.first_node (ours.in_config n)) (h.ins n)
          → (ended server.rules (server_node numbers h) (is n)).0.course ≡ Going
      by true e so =
          laws.server_done ours.window h.server n
          (all_kept (is n) (happened h.server) (not_told (is n) up side.Server)) e
          ∙ a.going.server
      by false e (inl ended_client) =
          a.go_on.in_servers n (over (is n) up done) (a.round ended_client).end_put
          (λ f. absurd (true≢false (sym f ∙ e)))
      by false e (inr agree) = server_goes_handed n up done agree e
