-- where the end nearer the server has finished a leg, the node that loses it goes on
use Rattle.std.specs.List.{AllByRecursion}
use Rattle.rh_text.specs.declared.ends.Side.TheVariants as side
use Rattle.rh_shell.specs.declared.answers.Phase.TheVariants as phases
use Rattle.rh_company.specs.Company as company
use Rattle.rh_company.specs.Places as places
use Rattle.rh_inproxy.specs.Machine as in_proxy
use Rattle.rh_inproxy.specs.State as in_state
use Rattle.rh_outproxy.specs.Machine as out_proxy
use Rattle.rh_outproxy.specs.OutProxy.{is_put}
use Rattle.rh_client.specs.Client as client
use Rattle.rh_client.specs.State as client_state
use Rattle.rh_server.specs.Servers as server
use Rattle.rh_wires.specs.Legs as legs
use Rattle.rh_record.specs.declared.answer.Who.TheVariants as who
use Rattle.law_order.proofs.Vocabulary.{◌≡◌, ◌⊎◌, inl, inr, ◌<◌, ◌||◌, ◌++◌, ◌∙◌, if◌then◌else◌, ℕ, Bool, true, false, true≢false, not, List, [], Some, refl, sym, ap, subst, Option, append-nil, and_parts, lt-ltb, Item, has_handover, Route}
use Rattle.law_moves.proofs.Vocabulary.{D, CoD, Side, Pipe, ClientConfig, Leg, Going, NearEnd, is_marked, is_useless, Message, Rooms, Phase, Shell, begun, end_at, ended, finished, is_ended, EndMove, EndPassage, is_at_work, is_in_use, Event, EndEvent, after_events, after_end_events, of_leg, Has, InR1B1, messages_read}
use Rattle.law_role_inproxy.proofs.Vocabulary.{InProxyConfig, InProxy}
use Rattle.law_role_server.proofs.Vocabulary.{Server}
use Rattle.law_role_client.proofs.Vocabulary.{ClientRole, AreAllowedMoves, client_moved, came_log, down_items, has_leg}
use Rattle.law_node_history.proofs.Vocabulary.{Carriage, IsCarried, IsDone, IsUnheard, carriage, Absent, Gone, Here, Place, Makers, at, AreAccepted, AreAcceptedAtEnd, IsHeard, IsRun, came_up, end_drawn_on, happened, heard_on, ledger, Leads, History, in_place, out_place}
use Rattle.law_node_history.proofs.Lemmas.{asked, cast_kept, is_up_at}
use Rattle.law_role_outproxy.proofs.Vocabulary.{ROOMS, OutProxyConfig, OutProxy, new_proxy}
use Rattle.law_role_outproxy.specs.Order as out_order
use Rattle.law_node_streams.specs.Streams.{EndStream, Stream}
use Rattle.law_node_ends.specs.Passed.{AsksNoEcho, HeadsAre}
use Rattle.law_node_begins.specs.ProxiesBegin.Pipes.{co, in_pipe, is}
use Rattle.law_node_traces.proofs.Vocabulary.{is_gone, was_let_go, AreOurs, deeds, rules, IsKnown, history_at}
use Rattle.law_peers_routes.specs.Downwards.{client_reads, proxy_reads}
use Rattle.law_node_marks.specs.Losing.{DrewAll, MayLose}
use Rattle.law_world_order.proofs.Moments.{OurWorld}
use Rattle.law_world_order.proofs.Vocabulary.{Numbers, down_route_of, numbers_of}
use Rattle.law_world_ways.proofs.ExactWays.LegGoes.{unused}
use Rattle.law_world_ways.specs.LiveIntakes.{ReadsLeg}
use Rattle.law_world_ways.specs.OnPaths.Lost.{was_lost}
use Rattle.law_world_ways.specs.OnPaths.OnWay.{is_lost, items_on_way}
use Rattle.law_world_ways.specs.OnPaths.Ways.{AreOnTheirWay, client_node, down_far, down_on, in_node, out_node}
use Rattle.law_world_ways.specs.ExactWays.Keeping.{KeepsEnd, KeepsIfOfUse}
use Rattle.law_world_ways.specs.ExactPaths.GoingOn.{AllGoOn}
use Rattle.law_world_downwards.proofs.Came.{came_or_left, clear_is}
use Rattle.law_world_downwards.proofs.Keeping.{alone, out_rests}
use Rattle.law_world_downwards.proofs.OverLegs.{drew_all, finished_there, goes_unused, left}
use Rattle.law_world_downwards.specs.Over.{DrewInR1B1, IsOverDownwards}

-- ---- the laws that this stands on

pub record ClientLaws : Type 0 where
  pub unmarked_out : (first : OutProxy) (rooms : Rooms) (events : List Event) (leg : Leg)
      → was_lost leg events ≡ false → (end : NearEnd)
      → end_at (after_events out_proxy.rules (begun first rooms) events) leg ≡ Some end
      → is_marked end.standing ≡ false
  pub keeps_out : (config : OutProxyConfig) (events : List Event) (leg : Leg)
      → AreAccepted out_proxy.rules (begun (new_proxy config) ROOMS) events
      → came_up leg events ≡ true → was_lost leg events ≡ false
      → KeepsIfOfUse out_proxy.rules
      (after_events out_proxy.rules (begun (new_proxy config) ROOMS) events) leg
  pub keeps_client : (config : ClientConfig) (events : List EndEvent) (leg : Leg)
      → AreAcceptedAtEnd client.rules client.acts (client.first_client config) events
      → came_up leg (happened events) ≡ true → was_lost leg (happened events) ≡ false
      → KeepsIfOfUse client.rules
      (after_end_events client.rules client.acts (client.first_client config) events) leg
  pub handed : (config : OutProxyConfig) (pipe : Leg → Option Pipe) (events : List Event)
      (stream : Stream out_proxy.rules (new_proxy config) ROOMS pipe events)
      → is_put (after_events out_proxy.rules (begun (new_proxy config) ROOMS)
      events).role.handover
      ≡ has_handover (out_order.put_items config.number stream.passage.put)
  pub client_leaves : (config : ClientConfig) (moves : List EndMove)
      → AreAllowedMoves config moves
      → (let p = client_moved config moves in (n : ℕ)
      → has_handover (came_log p.passage.came n) ≡ true
      → is_in_use client.rules p.passage.role (co n) ≡ false)
  pub client_loses : (node : Shell ClientRole) (leg : Leg) → MayLose client.rules node leg
      → (ended client.rules node leg).0.course ≡ node.course

pub record InLaws : Type 0 where
  pub keeps_in : (config : InProxyConfig) (events : List Event) (leg : Leg)
      → AreAccepted in_proxy.rules (in_proxy.first_node config) events
      → came_up leg events ≡ true → was_lost leg events ≡ false
      → KeepsIfOfUse in_proxy.rules
      (after_events in_proxy.rules (in_proxy.first_node config) events) leg
  pub in_loses : (node : Shell InProxy) (leg : Leg) → MayLose in_proxy.rules node leg
      → (ended in_proxy.rules node leg).0.course ≡ node.course
  pub in_told : (config : InProxyConfig) (pipe : Leg → Option Pipe) (events : List Event)
      (stream : Stream in_proxy.rules (in_state.first config) in_proxy.rooms pipe events)
      → AllByRecursion (HeadsAre (AsksNoEcho true)) stream.leads.moves → (n : ℕ)
      → Has InR1B1 (of_leg (is n) stream.passage.came) → (leg : Leg)
      → (let node = after_events in_proxy.rules (in_proxy.first_node config) events in
      (ended in_proxy.rules node leg).0.course ≡ node.course)

-- an in proxy that has none for its leg to the server is done
in_rests : (s : InProxy) (n : ℕ) → is_in_use in_proxy.rules s (is n) ≡ false
    → is_at_work in_proxy.rules s ≡ false
in_rests s n e = alone (is_at_work in_proxy.rules s) e

if_there : (b : Bool) (items : List Item) → b ≡ true → (if b then items else []) ≡ items
if_there true items e = refl
if_there false items e = absurd (true≢false (sym e))

none_if : (b : Bool) → ◌≡◌ {A = List Item} (if b then [] else []) []
none_if true = refl
none_if false = refl

-- ---- what was heard

-- on a leg that is up at both ends, what was drawn was fed or is in flight
carried_whole : (c : Carriage) → IsCarried c → c.puts ≡ true → c.takes ≡ true
    → c.drawn ≡ c.fed ++ c.flight
carried_whole c is puts takes = by is.lost refl
  where
    none : IsUnheard c ⊎ IsDone c.did_take c.takes → ⊥
    none (inl done) = true≢false (sym puts ∙ done.0.1)
    none (inr done) = true≢false (sym takes ∙ done.1)

    by : (lost : Bool) → is.lost ≡ lost → c.drawn ≡ c.fed ++ c.flight
    by false e = is.wire.whole e
    by true e = absurd (none (is.over e))

heard_there : {S : Type 0} (made : Shell S) (events : List Event) (leg : Leg) (fed : List ℕ)
    (place : Place S) → (place ≡ Absent → events ≡ [])
    → IsHeard place (heard_on leg events) fed → ((now : ℕ) → place ≡ Gone now → ⊥)
    → heard_on leg events ≡ fed
heard_there made events leg fed Absent idle heard stays =
    ap (heard_on leg) (idle refl) ∙ sym heard
heard_there made events leg fed (Here node legs) idle heard stays = heard
heard_there made events leg fed (Gone now) idle heard stays = absurd (stays now refl)

-- ---- at a moment

module _ {K : Type 0} (m : Makers K InProxy OutProxy) (w v : OurWorld K)
    (ours : AreOurs m w.company w.cast) (leads : Leads rules m deeds w v)
    (known : IsKnown m w v leads)
    (low : (leg : Leg) (end : Side) → was_let_go v.company (at v leg end) ≡ true
    → legs.is_up leg end v.legs ≡ false)
    (ways : AreOnTheirWay (numbers_of ours) v (history_at m w v leads))
    (going : AllGoOn (numbers_of ours) (history_at m w v leads)) where
  abbrev h : History
  h = history_at m w v leads

  abbrev numbers : Numbers
  numbers = numbers_of ours

  same_cast : v.cast ≡ w.cast
  same_cast = cast_kept rules m deeds w v leads

  -- ---- the client, whose out proxy has finished a leg

  module _ (law : ClientLaws) (n : ℕ) (some : 0 < n)
      (over : IsOverDownwards rules v h (co n))
      (reads : ReadsLeg (client_node numbers h) (co n)) where
    abbrev stream : Stream out_proxy.rules (new_proxy (numbers.outs n)) ROOMS
        (proxy_reads (numbers.outs n)) (h.outs n)
    stream = ways.directions.down.proxies n

    abbrev taker : EndStream client.rules client.acts (client_state.first numbers.client)
        client.rooms client_reads h.client
    taker = ways.directions.down.taker

    abbrev r : Route
    r = down_route_of ways.directions

    over_parts : (company.finished rules v.company (who.Out n) (co n) ≡ true)
        × (legs.is_clear (co n) D v.legs ≡ true)
    over_parts =
        and_parts (company.finished rules v.company (who.Out n) (co n))
        (legs.is_clear (co n) D v.legs) over.done

    out_accepted : AreAccepted out_proxy.rules (begun (new_proxy (numbers.outs n)) ROOMS) (h.outs n)
    out_accepted =
        subst (λ (s : Shell OutProxy). AreAccepted out_proxy.rules s (h.outs n))
        (ap (λ (k : K). m.out_proxy k n) same_cast ∙ ours.outs n)
        (known.traced.accepted.outs n)

    client_accepted : AreAcceptedAtEnd client.rules client.acts
        (client.first_client numbers.client) h.client
    client_accepted =
        subst (λ (s : Shell ClientRole). AreAcceptedAtEnd client.rules client.acts s h.client)
        ours.client known.traced.accepted.client

    out_rose : came_up (co n) (h.outs n) ≡ true
    out_rose =
        (known.traced.carried.each (co n) D).put_up
        (sym (is_up_at v.legs (co n) side.Server) ∙ over.up side.Server)

    client_rose : came_up (co n) (happened h.client) ≡ true
    client_rose =
        (known.traced.carried.each (co n) D).take_up
        (sym (is_up_at v.legs (co n) side.Client) ∙ over.up side.Client)

    out_stays : (now : ℕ) → out_place v.company n ≡ Gone now → ⊥
    out_stays now gone =
        true≢false (sym (over.up side.Server) ∙ low (co n) side.Server (ap is_gone gone))

    out_done : finished out_proxy.rules (out_node numbers h n) (co n) ≡ true
    out_done =
        finished_there out_proxy.rules (begun (new_proxy (numbers.outs n)) ROOMS) (h.outs n) (co n)
        (out_place v.company n) (ways.nodes.outs n) out_stays
        (sym (asked Absent (places.finished out_proxy.rules (co n)) v.company.outs n)
        ∙ over_parts.0)

    out_unmarked : (end : NearEnd) → end_at (out_node numbers h n) (co n) ≡ Some end
        → is_marked end.standing ≡ false
    out_unmarked =
        law.unmarked_out (new_proxy (numbers.outs n)) ROOMS (h.outs n) (co n)
        (over.untold side.Server)

    out_drew : DrewAll (out_node numbers h n) (co n)
    out_drew =
        drew_all out_proxy.rules (out_node numbers h n) (co n) (going.outs n) out_unmarked out_done

    out_at_rest : is_at_work out_proxy.rules (out_node numbers h n).role ≡ false
    out_at_rest =
        out_rests (out_node numbers h n).role (co n)
        (left out_proxy.rules (out_node numbers h n) (co n) (going.outs n) out_unmarked out_done
        (law.keeps_out (numbers.outs n) (h.outs n) (co n) out_accepted out_rose
        (over.untold side.Server) (going.outs n)))

    client_kept : KeepsEnd (client_node numbers h) (co n)
        ⊎ (is_in_use client.rules (client_node numbers h).role (co n) ≡ false)
    client_kept =
        law.keeps_client numbers.client h.client (co n) client_accepted client_rose
        (over.untold side.Client) going.client

    -- it put OUT_R1/A10
    module _ (handed : is_put (out_node numbers h n).role.handover ≡ true) where
      put : has_handover (out_order.put_items n stream.passage.put) ≡ true
      put =
          subst (λ (k : ℕ). has_handover (out_order.put_items k stream.passage.put) ≡ true)
          (ways.directions.down.numbered n)
          (sym (law.handed (numbers.outs n) (proxy_reads (numbers.outs n)) (h.outs n) stream)
          ∙ handed)

      put_far : has_handover (r.put n) ≡ true
      put_far =
          ap has_handover (if_there (has_leg n) (out_order.put_items n stream.passage.put)
          (lt-ltb 0 n some))
          ∙ put

      -- which came, and the client has no use for the leg any more
      by_way : down_far numbers v h n ≡ Some [] → has_handover (r.got n) ≡ true
      by_way none =
          let stands : (down_on numbers v h).far n ≡ [] =
          ap (λ (o : Option (List Message)). if has_leg n then items_on_way down_items o else [])
          none ∙ none_if (has_leg n) in
          let all : r.put n ≡ r.got n =
          ways.down.arrives.far n (ap is_lost none)
          ∙ ap (λ (items : List Item). r.got n ++ items) stands ∙ append-nil (r.got n) in
          sym (ap has_handover all) ∙ put_far

      behind_mark : has_handover (r.got n) ≡ true
          → is_in_use client.rules (client_node numbers h).role (co n) ≡ false
      behind_mark came =
          subst (λ (s : ClientRole). is_in_use client.rules s (co n) ≡ false) taker.role
          (subst (λ (p : EndPassage ClientRole). has_handover (came_log p.passage.came n) ≡ true
          → is_in_use client.rules p.passage.role (co n) ≡ false) taker.leads.reached
          (law.client_leaves numbers.client taker.leads.moves taker.leads.allowed n) came)

      client_left : is_in_use client.rules (client_node numbers h).role (co n) ≡ false
      client_left =
          by (came_or_left v h (co n) D (Some CoD) (out_node numbers h n) client.rules
          (client_node numbers h) (going.outs n) going.client over.up (over.untold side.Server)
          out_drew over_parts.1 client_kept reads)
        where
          by : (down_far numbers v h n ≡ Some [])
              ⊎ (is_in_use client.rules (client_node numbers h).role (co n) ≡ false)
              → is_in_use client.rules (client_node numbers h).role (co n) ≡ false
          by (inl none) = behind_mark (by_way none)
          by (inr none) = none

    -- or the client's work is done
    abbrev pub IsHandedOrDone : Type 0
    IsHandedOrDone =
        (is_put (out_node numbers h n).role.handover ≡ true)
        ⊎ ((client_node numbers h).role.phase ≡ phases.Ended)

    pub client_goes : (is_at_work out_proxy.rules (out_node numbers h n).role ≡ false
        → IsHandedOrDone)
        → DrewAll (client_node numbers h) (co n)
        → (ended client.rules (client_node numbers h) (co n)).0.course ≡ Going
    client_goes when drew = by (when out_at_rest) ∙ going.client
      where
        by : IsHandedOrDone
            → (ended client.rules (client_node numbers h) (co n)).0.course
            ≡ (client_node numbers h).course
        by (inl handed) =
            goes_unused client.rules (client_node numbers h) (co n)
            (law.client_loses (client_node numbers h) (co n)) (client_left handed) drew
        by (inr done) =
            law.client_loses (client_node numbers h) (co n)
            (λ work. absurd (true≢false (sym work ∙ ap (λ (f : Phase). not (is_ended f)) done)))

  -- ---- an in proxy, whose server has finished its leg

  module _ (law : InLaws) (n : ℕ) (over : IsOverDownwards rules v h (is n))
      (heads : AllByRecursion (HeadsAre (AsksNoEcho true))
      (ways.directions.up.proxies n).leads.moves)
      (reads : ReadsLeg (in_node numbers h n) (is n)) (drew : DrewInR1B1 numbers h n) where
    abbrev in_stream : Stream in_proxy.rules (in_state.first (numbers.ins n)) in_proxy.rooms
        (in_pipe (numbers.ins n)) (h.ins n)
    in_stream = ways.directions.up.proxies n

    in_accepted : AreAccepted in_proxy.rules (in_proxy.first_node (numbers.ins n)) (h.ins n)
    in_accepted =
        subst (λ (s : Shell InProxy). AreAccepted in_proxy.rules s (h.ins n))
        (ap (λ (k : K). m.in_proxy k n) same_cast ∙ ours.ins n) (known.traced.accepted.ins n)

    in_rose : came_up (is n) (h.ins n) ≡ true
    in_rose =
        (known.traced.carried.each (is n) D).take_up
        (sym (is_up_at v.legs (is n) side.Client) ∙ over.up side.Client)

    in_stays : (now : ℕ) → in_place v.company n ≡ Gone now → ⊥
    in_stays now gone =
        true≢false (sym (over.up side.Client) ∙ low (is n) side.Client (ap is_gone gone))

    idle : (place : Place InProxy)
        → IsRun in_proxy.rules (in_proxy.first_node (numbers.ins n)) (h.ins n) place
        → place ≡ Absent → h.ins n ≡ []
    idle Absent run none = run
    idle (Here node legs) run none = absurd cc
    idle (Gone now) run none = absurd cc

    abbrev drawn : List ℕ
    drawn =
        end_drawn_on server.rules server.acts (server.new_server numbers.window) (is n) h.server

    heard : heard_on (is n) (h.ins n) ≡ drawn
    heard =
        heard_there (in_proxy.first_node (numbers.ins n)) (h.ins n) (is n) (h.fed (who.In n) (is n))
        (in_place v.company n) (idle (in_place v.company n) (ways.nodes.ins n))
        (known.traced.heard.ins n (is n)) in_stays
        ∙ sym (append-nil (h.fed (who.In n) (is n)))
        ∙ ap (λ (bytes : List ℕ). h.fed (who.In n) (is n) ++ bytes)
        (sym (clear_is D (is n) v
        (and_parts (company.finished rules v.company who.Server (is n))
        (legs.is_clear (is n) D v.legs) over.done).1))
        ∙ sym (carried_whole
        (carriage (ledger rules m deeds w.company v.cast h) v.legs v.readers (is n) D)
        (known.traced.carried.each (is n) D)
        (sym (is_up_at v.legs (is n) side.Server) ∙ over.up side.Server)
        (sym (is_up_at v.legs (is n) side.Client) ∙ over.up side.Client))
        ∙ ap (λ (s : Shell Server). end_drawn_on server.rules server.acts s (is n) h.server)
        ours.server

    module _ (leg : Leg) where
      in_done : is_in_use in_proxy.rules (in_node numbers h n).role (is n) ≡ false
          → (ended in_proxy.rules (in_node numbers h n) leg).0.course
          ≡ (in_node numbers h n).course
      in_done none =
          law.in_loses (in_node numbers h n) leg
          (λ work. absurd (true≢false (sym work
          ∙ in_rests (in_node numbers h n).role n none)))

      told : (k : KeepsEnd (in_node numbers h n) (is n))
          → is_useless in_proxy.rules k.end (in_node numbers h n).role ≡ false
          → Has InR1B1 (of_leg (is n) in_stream.passage.came)
      told k of_use =
          let read = (in_stream.seats (is n) k.end (going.ins n) k.at).reads
          (ap (λ (b : Bool). b || is_useless in_proxy.rules k.end (in_node numbers h n).role)
          k.unmarked ∙ of_use) (reads (going.ins n) k.end k.at) in
          subst (Has InR1B1)
          (sym (read.all ∙ ap (messages_read (in_pipe (numbers.ins n) (is n))) heard)) drew

      pub in_goes : (ended in_proxy.rules (in_node numbers h n) leg).0.course ≡ Going
      in_goes =
          by (law.keeps_in (numbers.ins n) (h.ins n) (is n) in_accepted in_rose
          (over.untold side.Client) (going.ins n))
          ∙ going.ins n
        where
          of_end : (k : KeepsEnd (in_node numbers h n) (is n)) → (t : Bool)
              → is_useless in_proxy.rules k.end (in_node numbers h n).role ≡ t
              → (ended in_proxy.rules (in_node numbers h n) leg).0.course
              ≡ (in_node numbers h n).course
          of_end k true over =
              in_done (unused in_proxy.rules (in_node numbers h n) (is n) k.end k.at over)
          of_end k false of_use =
              law.in_told (numbers.ins n) (in_pipe (numbers.ins n)) (h.ins n) in_stream heads n
              (told k of_use) leg

          by : KeepsEnd (in_node numbers h n) (is n)
              ⊎ (is_in_use in_proxy.rules (in_node numbers h n).role (is n) ≡ false)
              → (ended in_proxy.rules (in_node numbers h n) leg).0.course
              ≡ (in_node numbers h n).course
          by (inl k) =
              of_end k (is_useless in_proxy.rules k.end (in_node numbers h n).role) refl
          by (inr none) = in_done none
