-- no hop that lies on one leg closes a node of it for a window
use Rattle.law_order.proofs.Vocabulary.{◌≡◌, ℕ, ◌+◌, List, [], ◌∷◌, ◌++◌, length, refl, sym, ap, ◌∙◌, subst, Some, AllByRecursion, Option, IsPrefix}
use Rattle.rh_line.specs.declared.cause.Cause.TheVariants as cause
use Rattle.rh_record.specs.declared.answer.Who.TheVariants as who
use Rattle.rh_shell.specs.declared.answers.Refused.TheVariants as refused
use Rattle.rh_inproxy.specs.Machine as in_proxy
use Rattle.rh_inproxy.specs.State as in_state
use Rattle.rh_outproxy.specs.Machine as out_proxy
use Rattle.rh_server.specs.Servers as server
use Rattle.rh_wires.specs.Legs as legs
use Rattle.law_moves.proofs.Vocabulary.{U, D, Pipe, IsU, IsD, OsU, OsD, Cause, Leg, ClientOut, OutServer, ClientIn, InServer, Refused, Shell, begun, spelled, Passage, EndPassage, all_moved, started, Hears, after_events, of_leg, ReadsBack, Begins, messages_read, ReadsWell}
use Rattle.law_role_inproxy.proofs.Vocabulary.{InProxyConfig, InProxy}
use Rattle.law_role_inproxy.specs.Legible as in_legible
use Rattle.law_role_client.proofs.Vocabulary.{ClientRole}
use Rattle.law_role_server.proofs.Vocabulary.{Server}
use Rattle.law_role_server.specs.Legible as server_legible
use Rattle.law_node_history.proofs.Vocabulary.{Comes, Here, Makers, leg_at, World, drawn_by, drawn_on, end_drawn_on, happened, heard_on, IsFed, MayChange, changed, History, IsRun, in_place, out_place}
use Rattle.law_node_causes.specs.Closings.{ClosesWith}
use Rattle.law_role_outproxy.proofs.Vocabulary.{ROOMS, OutProxyConfig, OutProxy, new_proxy}
use Rattle.law_role_outproxy.specs.Legible as out_legible
use Rattle.law_node_streams.proofs.Streams.LegLogs.{on_leg}
use Rattle.law_node_begins.specs.ProxiesBegin.Pipes as pipes
use Rattle.law_node_traces.proofs.Vocabulary.{ByChanges, AreOurs, deeds, rules}
use Rattle.law_peers_routes.specs.Downwards as down
use Rattle.law_world_order.proofs.Heard.{from_in, from_out, from_server, reads_on}
use Rattle.law_world_order.proofs.Vocabulary.{IsFlowing, numbers_of, AreInRange}
use Rattle.law_world_honest.proofs.Honesty.Drawn.{free_by}
use Rattle.law_world_honest.proofs.Honesty.Fed.{strict_on}
use Rattle.law_world_honest.specs.Honesty.Honest.{well_on}
use Rattle.law_world_windows.proofs.Fed.{piece, in_events, out_events, heard_behind}
use Rattle.law_world_windows.proofs.Hop.{never_exceeded, never_out_of_range}
use Rattle.law_world_windows.proofs.Moment.{now, known, flowing, behind, flowing_behind, well_behind, drawn_before, drawn_now, closes_at}
use Rattle.law_world_windows.proofs.Nodes.{NodeStream, node_stops}
use Rattle.law_world_windows.proofs.OneByte.{AtByte}
use Rattle.law_world_windows.proofs.Pieces.{FedFronts, fed_fronts}
use Rattle.law_world_windows.proofs.Servers.{short, server_passage, server_stops}
use Rattle.law_world_windows.proofs.Stopping.{StopsAt, Way}
use Rattle.law_world_windows.specs.Known.{HopLaws, Laws}
use Rattle.law_world_windows.specs.Hops.{is_leg, os_leg, ReceivesWithin, SendsWithin}

module _ {K : Type 0} (hop : HopLaws) (m : Makers K InProxy OutProxy)
    (w : World K ClientRole Server InProxy OutProxy) (ours : AreOurs m w.company w.cast)
    (ranges : AreInRange (numbers_of ours)) where
  -- ---- of streams

  module _ (u : World K ClientRole Server InProxy OutProxy) (h : History)
      (flowing : IsFlowing (numbers_of ours) w u h) where
    abbrev server_at : Passage Server
    server_at = flowing.flows.server.passage.passage

    pub server_receives : (n : ℕ) → ReceivesWithin server.rules (is_leg n) server_at
    server_receives n =
        let f = flowing.flows.server in
        subst (λ (p : EndPassage Server). ReceivesWithin server.rules (is_leg n) p.passage)
        f.leads.reached
        (hop.server_receives ours.window n f.leads.moves ranges.window f.leads.allowed)

    pub server_sends : (n : ℕ) → SendsWithin server.rules (os_leg n) server_at
    server_sends n =
        let f = flowing.flows.server in
        subst (λ (p : EndPassage Server). SendsWithin server.rules (os_leg n) p.passage)
        f.leads.reached (hop.server_sends ours.window n f.leads.moves f.leads.allowed)

    pub in_sends : (n : ℕ)
        → SendsWithin in_proxy.rules (is_leg n) (flowing.flows.ins n).passage
    in_sends n =
        let f = flowing.flows.ins n in
        subst (λ (p : Passage InProxy). SendsWithin in_proxy.rules (is_leg n) p) f.leads.reached
        (subst (λ (k : ℕ). SendsWithin in_proxy.rules (is_leg k)
        (all_moved in_proxy.rules (started (in_state.first (ours.in_config n))) f.leads.moves))
        (ours.in_number n) (hop.in_sends (ours.in_config n) f.leads.moves f.leads.allowed))

    pub out_receives : (n : ℕ)
        → ReceivesWithin out_proxy.rules (os_leg n) (flowing.flows.outs n).passage
    out_receives n =
        let f = flowing.flows.outs n in
        subst (λ (p : Passage OutProxy). ReceivesWithin out_proxy.rules (os_leg n) p)
        f.leads.reached
        (subst (λ (k : ℕ). ReceivesWithin out_proxy.rules (os_leg k)
        (all_moved out_proxy.rules (started (new_proxy (ours.out_config n))) f.leads.moves))
        (ours.out_number n)
        (hop.out_receives (ours.out_config n) f.leads.moves (ranges.outs n).window f.leads.allowed))

    -- ---- what each of them drew is of what it put

    server_back : (leg : Leg) → AllByRecursion (ReadsBack (server_legible.pipe_put leg))
        (of_leg leg server_at.put)
    server_back leg =
        on_leg server_legible.pipe_put ReadsBack leg server_at.put flowing.legible.server.read_back

    pub server_way : (leg : Leg) (bytes : List ℕ)
        → Begins (server_legible.pipe_put leg) (of_leg leg server_at.put)
        → IsPrefix bytes (drawn_by rules m deeds w.company w.cast h who.Server leg)
        → Way (server_legible.pipe_put leg) (of_leg leg server_at.put) bytes
    server_way leg bytes begins p = record {
      begins = begins;
      reads_back = server_back leg;
      drawn = end_drawn_on server.rules server.acts (server.new_server ours.window) leg h.server;
      spells = flowing.flows.server.drawn leg;
      front = from_server m w.company w.cast ours h leg bytes p;
    }

    in_spells : (n : ℕ) → IsPrefix (drawn_on in_proxy.rules
        (in_proxy.first_node (ours.in_config n)) (is_leg n) (h.ins n))
        (spelled (of_leg (is_leg n) (flowing.flows.ins n).passage.put))
    in_spells n =
        (flowing.flows.ins n).unrefused (is_leg n)
        (free_by (leg_at ClientIn (ours.in_config n).number)
        (leg_at InServer (ours.in_config n).number) (is_leg n)
        (after_events in_proxy.rules (in_proxy.first_node (ours.in_config n)) (h.ins n)).course
        (hop.in_refuses (ours.in_config n) (h.ins n)) (λ e. absurd cc))

    in_back : (n : ℕ) → AllByRecursion (ReadsBack (Some IsU))
        (of_leg (is_leg n) (flowing.flows.ins n).passage.put)
    in_back n =
        on_leg in_legible.pipe_put ReadsBack (is_leg n) (flowing.flows.ins n).passage.put
        (flowing.legible.ins n).read_back

    pub in_way : (n : ℕ) (bytes : List ℕ)
        → IsPrefix bytes (drawn_by rules m deeds w.company w.cast h (who.In n) (is_leg n))
        → Way (Some IsU) (of_leg (is_leg n) (flowing.flows.ins n).passage.put) bytes
    in_way n bytes p = record {
      begins = flowing.begun.in_server n;
      reads_back = in_back n;
      drawn = drawn_on in_proxy.rules (in_proxy.first_node (ours.in_config n)) (is_leg n) (h.ins n);
      spells = in_spells n;
      front = from_in m w.company w.cast ours h n (is_leg n) bytes p;
    }

    out_spells : (n : ℕ) → IsPrefix (drawn_on out_proxy.rules
        (begun (new_proxy (ours.out_config n)) ROOMS) (os_leg n) (h.outs n))
        (spelled (of_leg (os_leg n) (flowing.flows.outs n).passage.put))
    out_spells n =
        (flowing.flows.outs n).unrefused (os_leg n)
        (free_by (leg_at ClientOut (ours.out_config n).number)
        (leg_at OutServer (ours.out_config n).number) (os_leg n)
        (after_events out_proxy.rules (begun (new_proxy (ours.out_config n)) ROOMS)
        (h.outs n)).course
        (hop.out_refuses (ours.out_config n) (h.outs n)) (λ e. absurd cc))

    out_back : (n : ℕ) → AllByRecursion (ReadsBack (Some OsU))
        (of_leg (os_leg n) (flowing.flows.outs n).passage.put)
    out_back n =
        on_leg out_legible.pipe_put ReadsBack (os_leg n) (flowing.flows.outs n).passage.put
        (flowing.legible.outs n).read_back

    pub out_way : (n : ℕ) (bytes : List ℕ)
        → IsPrefix bytes (drawn_by rules m deeds w.company w.cast h (who.Out n) (os_leg n))
        → Way (Some OsU) (of_leg (os_leg n) (flowing.flows.outs n).passage.put) bytes
    out_way n bytes p = record {
      begins = flowing.begun.out_server n;
      reads_back = out_back n;
      drawn = drawn_on out_proxy.rules (begun (new_proxy (ours.out_config n)) ROOMS) (os_leg n)
          (h.outs n);
      spells = out_spells n;
      front = from_out m w.company w.cast ours h n (os_leg n) bytes p;
    }

    -- what the in proxy took there
    pub in_came : (n : ℕ) → IsPrefix (of_leg (is_leg n) (flowing.flows.ins n).passage.came)
        (messages_read (Some IsD) (heard_on (is_leg n) (h.ins n)))
    in_came n =
        subst (λ (p : Option Pipe). IsPrefix
        (of_leg (is_leg n) (flowing.flows.ins n).passage.came)
        (messages_read p (heard_on (is_leg n) (h.ins n))))
        (sym (reads_on ours n n InServer D))
        ((flowing.flows.ins n).read (is_leg n))

  -- ---- a server

  module _ (v : World K ClientRole Server InProxy OutProxy) (law : Laws m w ours)
      (by : ByChanges rules m deeds w v) (n : ℕ) where
    pub server_window : (may : (count : ℕ) → MayChange rules v (IsFed (is_leg n) U count))
        (l : Leg) (reached edge count : ℕ)
        → ClosesWith server.rules v.company.server
        (Comes (is_leg n) (legs.take_out (is_leg n) U count v.legs).1)
        (cause.WindowExceeded l reached edge) → ⊥
    server_window may l reached edge count closes =
        never_exceeded server.rules in_proxy.rules leg
        (server_passage m w v ours law by leg may refl hop.readings hop.nodes.server r why refl count
        closes)
        (f.flows.ins n).passage stops.message stops.joined
        (record { reached = reached; edge = edge }) (server_receives u g then_f n)
        (in_sends v h f n) stops.refuses
      where
        leg : Leg
        leg = is_leg n

        why : Cause
        why = cause.WindowExceeded l reached edge

        r : Refused
        r = refused.Window (record { reached = reached; edge = edge })

        h : History
        h = now m w v ours law by (is_leg n) U may

        f : IsFlowing (numbers_of ours) w v h
        f = flowing m w v ours law by (is_leg n) U may

        k : ℕ
        k = short m w v ours law by (is_leg n) may refl hop.readings hop.nodes.server r why refl count
            closes

        u : World K ClientRole Server InProxy OutProxy
        u = changed rules m deeds v (IsFed (is_leg n) U k)

        g : History
        g = behind m w v ours law by (is_leg n) U may k

        then_f : IsFlowing (numbers_of ours) w u g
        then_f = flowing_behind m w v ours law by (is_leg n) U may k

        stops : StopsAt server.rules (server_at u g then_f).role (is_leg n) r
            (of_leg (is_leg n) (server_at u g then_f).came)
            (of_leg (is_leg n) (server_at u g then_f).put)
            (of_leg (is_leg n) (f.flows.ins n).passage.came)
            (of_leg (is_leg n) (f.flows.ins n).passage.put)
        stops = server_stops m w v ours law by leg may refl hop.readings hop.nodes.server r why refl count
            closes (f.flows.ins n).passage (Some IsU) (Some IsD) refl refl refl
            (λ bytes. in_way v h f n bytes) (heard_on leg (h.ins n))
            (from_server m w.company w.cast ours h leg (heard_on leg (h.ins n))
            (drawn_now m w v ours law by leg U may D))
            (in_came v h f n) (then_f.begun.server_in n)

    pub server_range : (may : (count : ℕ) → MayChange rules v (IsFed (os_leg n) U count))
        (l : Leg) (command value count : ℕ)
        → ClosesWith server.rules v.company.server
        (Comes (os_leg n) (legs.take_out (os_leg n) U count v.legs).1)
        (cause.OutOfRange l command value) → ⊥
    server_range may l command value count closes =
        never_out_of_range server.rules out_proxy.rules leg
        (server_passage m w v ours law by leg may refl hop.readings hop.nodes.server r why refl count
        closes)
        (f.flows.outs n).passage stops.message stops.joined command value
        (server_sends u g then_f n) (out_receives v h f n) stops.refuses
      where
        leg : Leg
        leg = os_leg n

        why : Cause
        why = cause.OutOfRange l command value

        r : Refused
        r = refused.OutOfRange command value

        h : History
        h = now m w v ours law by (os_leg n) U may

        f : IsFlowing (numbers_of ours) w v h
        f = flowing m w v ours law by (os_leg n) U may

        k : ℕ
        k = short m w v ours law by (os_leg n) may refl hop.readings hop.nodes.server r why refl count
            closes

        u : World K ClientRole Server InProxy OutProxy
        u = changed rules m deeds v (IsFed (os_leg n) U k)

        g : History
        g = behind m w v ours law by (os_leg n) U may k

        then_f : IsFlowing (numbers_of ours) w u g
        then_f = flowing_behind m w v ours law by (os_leg n) U may k

        stops : StopsAt server.rules (server_at u g then_f).role (os_leg n) r
            (of_leg (os_leg n) (server_at u g then_f).came)
            (of_leg (os_leg n) (server_at u g then_f).put)
            (of_leg (os_leg n) (f.flows.outs n).passage.came)
            (of_leg (os_leg n) (f.flows.outs n).passage.put)
        stops = server_stops m w v ours law by leg may refl hop.readings hop.nodes.server r why refl count
            closes (f.flows.outs n).passage (Some OsU) (Some OsD) refl refl refl
            (λ bytes. out_way v h f n bytes) (heard_on leg (h.outs n))
            (from_server m w.company w.cast ours h leg (heard_on leg (h.outs n))
            (drawn_now m w v ours law by leg U may D))
            ((f.flows.outs n).read leg) (then_f.begun.server_out n)

    -- ---- an in proxy

    pub in_range : (may : (count : ℕ) → MayChange rules v (IsFed (is_leg n) D count))
        (node : Shell InProxy) (up : ℕ) → in_place v.company n ≡ Here node up
        → (l : Leg) (command value count : ℕ)
        → ClosesWith in_proxy.rules node
        (Comes (is_leg n) (legs.take_out (is_leg n) D count v.legs).1)
        (cause.OutOfRange l command value) → ⊥
    in_range may node up there l command value count closes =
        never_out_of_range in_proxy.rules server.rules leg before.stream.passage (server_at v h f)
        stops.message stops.joined command value before.law (server_receives v h f n) stops.refuses
      where
        leg : Leg
        leg = is_leg n

        config : InProxyConfig
        config = ours.in_config n

        why : Cause
        why = cause.OutOfRange l command value

        r : Refused
        r = refused.OutOfRange command value

        h : History
        h = now m w v ours law by (is_leg n) D may

        f : IsFlowing (numbers_of ours) w v h
        f = flowing m w v ours law by (is_leg n) D may

        run : node ≡ after_events in_proxy.rules (in_proxy.first_node (ours.in_config n)) (h.ins n)
        run =
            subst (IsRun in_proxy.rules (m.in_proxy v.cast n) (h.ins n)) there
            ((known m w v ours law by (is_leg n) D may).traced.runs.ins n)
            ∙ ap (λ (s : Shell InProxy). after_events in_proxy.rules s (h.ins n))
            (ap (λ (c : K). m.in_proxy c n) f.cast ∙ ours.ins n)

        byte : AtByte in_proxy.rules (is_leg n) node
            (legs.take_out (is_leg n) D count v.legs).1 why
        byte = closes_at in_proxy.rules hop.nodes.ins node (is_leg n)
            (legs.take_out (is_leg n) D count v.legs).1 why closes

        fronts : FedFronts (is_leg n) D v.legs byte.front byte.byte
        fronts = fed_fronts (is_leg n) D v.legs count byte.front byte.behind byte.byte byte.split

        k : ℕ
        k = length byte.front

        u : World K ClientRole Server InProxy OutProxy
        u = changed rules m deeds v (IsFed (is_leg n) D k)

        g : History
        g = behind m w v ours law by (is_leg n) D may k

        then_f : IsFlowing (numbers_of ours) w u g
        then_f = flowing_behind m w v ours law by (is_leg n) D may k

        X : Passage InProxy → Type 0
        X p = SendsWithin in_proxy.rules (is_leg n) p

        before : NodeStream in_proxy.rules (in_state.first config) in_proxy.rooms
            (pipes.in_pipe config) (is_leg n) (Some IsU) X
            (h.ins n ++ Hears (is_leg n) byte.front ∷ [])
        before =
            subst (NodeStream in_proxy.rules (in_state.first config) in_proxy.rooms
            (pipes.in_pipe config) (is_leg n) (Some IsU) X)
            (in_events v h n (is_leg n) D k refl node up there
            ∙ ap (λ (bytes : List ℕ). h.ins n ++ Hears (is_leg n) bytes ∷ []) fronts.is)
            (record {
              stream = then_f.flows.ins n;
              begins = then_f.begun.in_server n;
              reads_back = in_back u g then_f n;
              spells = in_spells u g then_f n;
              law = in_sends u g then_f n;
            })

        heard : List ℕ
        heard = heard_on (is_leg n) (h.ins n) ++ (byte.front ++ byte.byte ∷ [])

        next : heard_on (is_leg n) ((behind m w v ours law by (is_leg n) D may (k + 1)).ins n)
            ≡ heard
        next =
            ap (heard_on (is_leg n)) (in_events v h n (is_leg n) D (k + 1) refl node up there)
            ∙ heard_behind (is_leg n) (h.ins n)
            (piece v h (is_leg n) D (who.In n) refl (k + 1))
            ∙ ap (λ (bytes : List ℕ). heard_on (is_leg n) (h.ins n) ++ bytes) fronts.more

        stops : StopsAt in_proxy.rules before.stream.passage.role (is_leg n) r
            (of_leg (is_leg n) before.stream.passage.came)
            (of_leg (is_leg n) before.stream.passage.put)
            (of_leg (is_leg n) (server_at v h f).came) (of_leg (is_leg n) (server_at v h f).put)
        stops = node_stops hop.readings (well_on InServer D) (strict_on InServer D).ranges
            in_proxy.rules (in_state.first config) in_proxy.rooms (pipes.in_pipe config) leg
            (h.ins n) node run r why refl (legs.take_out (is_leg n) D count v.legs).1 byte
            (Some IsU) X before (server_at v h f) (Some IsD)
            (sym (reads_on ours n n InServer D))
            (heard_on leg (happened h.server))
            (subst (ReadsWell (well_on InServer D) (Some IsD)) next
            (well_behind m w v ours law by leg D may (k + 1)))
            (server_way v h f leg heard (f.begun.server_in n)
            (subst (λ (bytes : List ℕ). IsPrefix bytes
            (drawn_by rules m deeds w.company w.cast h who.Server leg)) next
            (drawn_before m w v ours law by leg D may (k + 1))))
            (from_in m w.company w.cast ours h n leg (heard_on leg (happened h.server))
            (drawn_now m w v ours law by leg D may U))
            (f.flows.server.read leg)

    -- ---- an out proxy

    pub out_window : (may : (count : ℕ) → MayChange rules v (IsFed (os_leg n) D count))
        (node : Shell OutProxy) (up : ℕ) → out_place v.company n ≡ Here node up
        → (l : Leg) (reached edge count : ℕ)
        → ClosesWith out_proxy.rules node
        (Comes (os_leg n) (legs.take_out (os_leg n) D count v.legs).1)
        (cause.WindowExceeded l reached edge) → ⊥
    out_window may node up there l reached edge count closes =
        never_exceeded out_proxy.rules server.rules leg before.stream.passage (server_at v h f)
        stops.message stops.joined (record { reached = reached; edge = edge }) before.law
        (server_sends v h f n) stops.refuses
      where
        leg : Leg
        leg = os_leg n

        config : OutProxyConfig
        config = ours.out_config n

        why : Cause
        why = cause.WindowExceeded l reached edge

        r : Refused
        r = refused.Window (record { reached = reached; edge = edge })

        h : History
        h = now m w v ours law by (os_leg n) D may

        f : IsFlowing (numbers_of ours) w v h
        f = flowing m w v ours law by (os_leg n) D may

        run : node ≡ after_events out_proxy.rules
            (begun (new_proxy (ours.out_config n)) ROOMS) (h.outs n)
        run =
            subst (IsRun out_proxy.rules (m.out_proxy v.cast n) (h.outs n)) there
            ((known m w v ours law by (os_leg n) D may).traced.runs.outs n)
            ∙ ap (λ (s : Shell OutProxy). after_events out_proxy.rules s (h.outs n))
            (ap (λ (c : K). m.out_proxy c n) f.cast ∙ ours.outs n)

        byte : AtByte out_proxy.rules (os_leg n) node
            (legs.take_out (os_leg n) D count v.legs).1 why
        byte = closes_at out_proxy.rules hop.nodes.outs node (os_leg n)
            (legs.take_out (os_leg n) D count v.legs).1 why closes

        fronts : FedFronts (os_leg n) D v.legs byte.front byte.byte
        fronts = fed_fronts (os_leg n) D v.legs count byte.front byte.behind byte.byte byte.split

        k : ℕ
        k = length byte.front

        u : World K ClientRole Server InProxy OutProxy
        u = changed rules m deeds v (IsFed (os_leg n) D k)

        g : History
        g = behind m w v ours law by (os_leg n) D may k

        then_f : IsFlowing (numbers_of ours) w u g
        then_f = flowing_behind m w v ours law by (os_leg n) D may k

        X : Passage OutProxy → Type 0
        X p = ReceivesWithin out_proxy.rules (os_leg n) p

        before : NodeStream out_proxy.rules (new_proxy config) ROOMS (down.proxy_reads config)
            (os_leg n) (Some OsU) X (h.outs n ++ Hears (os_leg n) byte.front ∷ [])
        before =
            subst (NodeStream out_proxy.rules (new_proxy config) ROOMS (down.proxy_reads config)
            (os_leg n) (Some OsU) X)
            (out_events v h n (os_leg n) D k refl node up there
            ∙ ap (λ (bytes : List ℕ). h.outs n ++ Hears (os_leg n) bytes ∷ []) fronts.is)
            (record {
              stream = then_f.flows.outs n;
              begins = then_f.begun.out_server n;
              reads_back = out_back u g then_f n;
              spells = out_spells u g then_f n;
              law = out_receives u g then_f n;
            })

        heard : List ℕ
        heard = heard_on (os_leg n) (h.outs n) ++ (byte.front ++ byte.byte ∷ [])

        next : heard_on (os_leg n) ((behind m w v ours law by (os_leg n) D may (k + 1)).outs n)
            ≡ heard
        next =
            ap (heard_on (os_leg n)) (out_events v h n (os_leg n) D (k + 1) refl node up there)
            ∙ heard_behind (os_leg n) (h.outs n)
            (piece v h (os_leg n) D (who.Out n) refl (k + 1))
            ∙ ap (λ (bytes : List ℕ). heard_on (os_leg n) (h.outs n) ++ bytes) fronts.more

        stops : StopsAt out_proxy.rules before.stream.passage.role (os_leg n) r
            (of_leg (os_leg n) before.stream.passage.came)
            (of_leg (os_leg n) before.stream.passage.put)
            (of_leg (os_leg n) (server_at v h f).came) (of_leg (os_leg n) (server_at v h f).put)
        stops = node_stops hop.readings (well_on OutServer D) (strict_on OutServer D).ranges
            out_proxy.rules (new_proxy config) ROOMS (down.proxy_reads config) leg
            (h.outs n) node run r why refl (legs.take_out (os_leg n) D count v.legs).1 byte
            (Some OsU) X before (server_at v h f) (Some OsD) refl
            (heard_on leg (happened h.server))
            (subst (ReadsWell (well_on OutServer D) (Some OsD)) next
            (well_behind m w v ours law by leg D may (k + 1)))
            (server_way v h f leg heard (f.begun.server_out n)
            (subst (λ (bytes : List ℕ). IsPrefix bytes
            (drawn_by rules m deeds w.company w.cast h who.Server leg)) next
            (drawn_before m w v ours law by leg D may (k + 1))))
            (from_out m w.company w.cast ours h n leg (heard_on leg (happened h.server))
            (drawn_now m w v ours law by leg D may U))
            (f.flows.server.read leg)
