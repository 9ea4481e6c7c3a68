-- the moment before the byte of a fed piece that closes a node since what came is amiss, at which
-- all is joined
use Rattle.law_order.proofs.Vocabulary.{◌≡◌, ℕ, ◌+◌, List, [], ◌∷◌, ◌++◌, length, map, refl, sym, ap, ◌∙◌, subst, Some, IsPrefix}
use Rattle.rh_record.specs.declared.answer.Who.TheVariants as who
use Rattle.rh_inproxy.specs.Machine as in_proxy
use Rattle.rh_inproxy.specs.State as in_state
use Rattle.rh_outproxy.specs.Machine as out_proxy
use Rattle.rh_client.specs.Client as client
use Rattle.rh_client.specs.State as client_state
use Rattle.rh_server.specs.Servers as server
use Rattle.rh_wires.specs.Legs as legs
use Rattle.law_moves.proofs.Vocabulary.{Dir, prefix_trans, Cause, Leg, Refused, Message, Rules, Shell, begun, Passage, EndEvent, Happens, after_end_events, after_events, of_leg, all_read_of, messages_read, Answers, ReadsWell}
use Rattle.law_moves.specs.Moving as moving
use Rattle.law_role_inproxy.proofs.Vocabulary.{InProxy}
use Rattle.law_role_client.proofs.Vocabulary.{ClientRole}
use Rattle.law_role_server.proofs.Vocabulary.{Server}
use Rattle.law_node_history.proofs.Vocabulary.{Who, reader_of, receiver, sender, Comes, Here, Makers, World, at, IsTraced, LegsComeUpOnce, drawn_by, end_node, events_of, happened, heard_on, IsFed, MayChange, changed, History, IsRun, in_place, noted, nothing, out_place}
use Rattle.law_node_history.proofs.Lemmas.{happened_append, works_more}
use Rattle.law_node_causes.specs.Closings.{ClosesWith}
use Rattle.law_role_outproxy.proofs.Vocabulary.{ROOMS, OutProxy, new_proxy}
use Rattle.law_peers_moments.specs.Moments.{Passages, put_by}
use Rattle.law_node_begins.specs.ProxiesBegin.Pipes as pipes
use Rattle.law_node_traces.proofs.Vocabulary.{ByChanges, AreOurs, deeds, rules, IsKnown, history_at, HearInTurn}
use Rattle.law_peers_routes.specs.Downwards as down
use Rattle.law_world_order.proofs.Heard.{node_reads, reads_on}
use Rattle.law_world_order.proofs.Legs.{Reads}
use Rattle.law_world_order.proofs.Joined.{all, reads_put}
use Rattle.law_world_order.proofs.Vocabulary.{IsFlowing, Numbers, numbers_of, read_on}
use Rattle.law_world_windows.proofs.Fed.{heard_behind, in_events, out_events, piece, told_here}
use Rattle.law_world_windows.proofs.Moment.{behind, closes_at, drawn_before, known, noted_append, now}
use Rattle.law_world_windows.proofs.OneByte.{AtByte}
use Rattle.law_world_windows.proofs.Pieces.{FedFronts, fed_fronts}
use Rattle.law_world_windows.proofs.ClientHops.Moments.{drawn_more}
use Rattle.law_world_windows.specs.Known.{Laws, NodeLaws, Readings}
use Rattle.law_world_expected.proofs.Amiss.Bytes.{HaveNames}
use Rattle.law_world_expected.proofs.Amiss.ByStreams.{StopsThere, end_stops, stream_stops}
use Rattle.law_world_expected.proofs.Amiss.Stops.{AmissAt}
use Rattle.law_world_expected.specs.Amiss.{amiss_by}

-- ---- the laws that this stands on

-- what is said of the streams of a world
abbrev pub OfStreams : {K : Type 0} → Numbers → World K ClientRole Server InProxy OutProxy
    → Type 1
OfStreams {K} numbers w =
    (u : World K ClientRole Server InProxy OutProxy) (h : History) → IsFlowing numbers w u h
    → Type 0

-- it has streams of which that holds
pub record Flowing {K : Type 0} (numbers : Numbers)
    (w : World K ClientRole Server InProxy OutProxy) (Holds : OfStreams numbers w)
    (u : World K ClientRole Server InProxy OutProxy) (h : History) : Type 0 where
  pub flows : IsFlowing numbers w u h
  pub holds : Holds u h flows

-- so it is of all worlds that changes lead to
abbrev pub AllFlow : {K : Type 0} (m : Makers K InProxy OutProxy)
    (w : World K ClientRole Server InProxy OutProxy) (ours : AreOurs m w.company w.cast)
    → OfStreams (numbers_of ours) w → Type 0
AllFlow {K} m w ours Holds =
    (v : World K ClientRole Server InProxy OutProxy) (by : ByChanges rules m deeds w v)
    → Flowing (numbers_of ours) w Holds v (history_at m w v by.leads)

module _ {K : Type 0} (law_reads : Reads) (readings : Readings) (m : Makers K InProxy OutProxy)
    (w v : World K ClientRole Server InProxy OutProxy) (ours : AreOurs m w.company w.cast)
    (law : Laws m w ours) (Holds : OfStreams (numbers_of ours) w)
    (flow : AllFlow m w ours Holds) (by : ByChanges rules m deeds w v) (leg : Leg)
    (dir : Dir) (may : (count : ℕ) → MayChange rules v (IsFed leg dir count)) where
  -- ---- behind so many bytes

  module _ (count : ℕ) where
    abbrev pub world : World K ClientRole Server InProxy OutProxy
    world = changed rules m deeds v (IsFed leg dir count)

    abbrev pub story : History
    story = behind m w v ours law by leg dir may count

    -- the story is that of the changes and this one
    pub same_story : history_at m w world
        (works_more rules m deeds w v (IsFed leg dir count) by (may count) refl).leads ≡ story
    same_story =
        noted_append rules m deeds w nothing by.leads.changes (IsFed leg dir count)
        ∙ ap (λ (x : World K ClientRole Server InProxy OutProxy).
        noted x (now m w v ours law by leg dir may) (IsFed leg dir count)) by.leads.reached

    pub flowing : Flowing (numbers_of ours) w Holds world story
    flowing =
        subst (Flowing (numbers_of ours) w Holds world) same_story
        (flow world (works_more rules m deeds w v (IsFed leg dir count) by (may count) refl))

    abbrev pub flows : IsFlowing (numbers_of ours) w world story
    flows = flowing.flows

    known_then : IsKnown m w world
        (works_more rules m deeds w v (IsFed leg dir count) by (may count) refl).leads
    known_then =
        law.known world
        (works_more rules m deeds w v (IsFed leg dir count) by (may count) refl).leads

    pub traced : IsTraced rules m deeds w.company world story
    traced = subst (IsTraced rules m deeds w.company world) same_story known_then.traced

    pub turns : HearInTurn story
    turns = subst HearInTurn same_story known_then.in_turn

    pub once : LegsComeUpOnce rules m deeds w.company world.cast
    once = known_then.once

    abbrev pub passages : Passages
    passages = all law_reads m w world ours story flows

    -- the nodes then
    abbrev pub client_shell : Shell ClientRole
    client_shell =
        after_end_events client.rules client.acts
        (begun (client_state.first ours.config) client.rooms) story.client

    abbrev pub server_shell : Shell Server
    server_shell =
        after_end_events server.rules server.acts (begun (server.first ours.window) server.rooms)
        story.server

    abbrev pub in_shell : ℕ → Shell InProxy
    in_shell n =
        after_events in_proxy.rules (begun (in_state.first (ours.in_config n)) in_proxy.rooms)
        (story.ins n)

    abbrev pub out_shell : ℕ → Shell OutProxy
    out_shell n =
        after_events out_proxy.rules (begun (new_proxy (ours.out_config n)) ROOMS) (story.outs n)

    -- the messages that were put at the other end of the leg
    abbrev pub put_there : List Message
    put_there = of_leg leg (put_by passages (end_node v.readers leg (sender dir)))

    abbrev next_heard : ℕ → List ℕ
    next_heard next =
        heard_on leg (events_of (behind m w v ours law by leg dir may next)
        (at v leg (receiver dir)))

    -- what is heard with one byte more was drawn there
    next_drew : (next : ℕ) → IsPrefix (next_heard next)
        (drawn_by rules m deeds w.company w.cast story
        (end_node v.readers leg (sender dir)) leg)
    next_drew next =
        let puts = end_node v.readers leg (sender dir) in
        let h = now m w v ours law by leg dir may in
        prefix_trans (next_heard next) (drawn_by rules m deeds w.company w.cast h puts leg)
        (drawn_by rules m deeds w.company w.cast story puts leg)
        (drawn_before m w v ours law by leg dir may next)
        (drawn_more m w v h (IsFed leg dir count) puts leg)

    next_read : (next : ℕ)
        → IsPrefix (messages_read (read_on leg.kind dir) (next_heard next))
        (all_read_of put_there)
    next_read next =
        reads_put law_reads m w world ours story flows v.readers leg dir (next_heard next)
        (next_drew next)

  -- ---- a piece closes the node that it is fed to

  module _ (r : Refused) (well : Answers) (named : HaveNames well r)
      (fits : (next : ℕ) → ReadsWell well (read_on leg.kind dir)
      (heard_on leg (events_of (behind m w v ours law by leg dir may next)
      (at v leg (receiver dir))))) (why : Cause) (tells : amiss_by why ≡ Some r) (count : ℕ)
      (node : Who) (here : at v leg (receiver dir) ≡ node) where
    abbrev pub fed_bytes : List ℕ
    fed_bytes = (legs.take_out leg dir count v.legs).1

    -- a node closes so behind so many bytes: by its role and its shell then, and what it heard
    pub record AmissThen {S : Type 0} (its : Rules S) (k : ℕ) (p : Passage S) (s : Shell S)
        (heard : List ℕ) : Type 0 where
      pub byte : ℕ
      pub role : p.role ≡ s.role
      pub stops : AmissAt its leg (read_on leg.kind dir) r s (of_leg leg p.came)
          (all_read_of (put_there k)) heard byte
      pub drew : IsPrefix (heard ++ byte ∷ []) (drawn_by rules m deeds w.company w.cast (story k)
          (end_node v.readers leg (sender dir)) leg)

    then_by : {S : Type 0} (its : Rules S) (k : ℕ) (p : Passage S) (s : Shell S)
        (heard : List ℕ) → p.role ≡ s.role
        → StopsThere its leg (read_on leg.kind dir) r s (of_leg leg p.came)
        (all_read_of (put_there k)) heard (next_heard k (k + 1))
        → AmissThen its k p s heard
    then_by its k p s heard role there = record {
      byte = there.byte;
      role = role;
      stops = there.at;
      drew = subst (λ (xs : List ℕ). IsPrefix xs (drawn_by rules m deeds w.company w.cast
          (story k) (end_node v.readers leg (sender dir)) leg)) there.next_is
          (next_drew k (k + 1));
    }

    reads_here : node_reads ours node leg ≡ read_on leg.kind dir
    reads_here =
        ap (λ (x : Who). node_reads ours x leg) (sym here)
        ∙ sym (reads_on ours (reader_of v.readers leg.number) leg.number leg.kind dir)

    heard_here : (next : ℕ)
        → heard_on leg (events_of (behind m w v ours law by leg dir may next)
        (at v leg (receiver dir)))
        ≡ heard_on leg (events_of (behind m w v ours law by leg dir may next) node)
    heard_here next =
        ap (λ (x : Who).
        heard_on leg (events_of (behind m w v ours law by leg dir may next) x)) here

    -- the client
    module _ (law_node : NodeLaws client.rules) (is : node ≡ who.Client)
        (closes : ClosesWith client.rules v.company.client (Comes leg fed_bytes) why) where
      abbrev client_past : List EndEvent
      client_past = (now m w v ours law by leg dir may).client

      client_byte : AtByte client.rules leg v.company.client fed_bytes why
      client_byte = closes_at client.rules law_node v.company.client leg fed_bytes why closes

      client_fronts : FedFronts leg dir v.legs client_byte.front client_byte.byte
      client_fronts =
          fed_fronts leg dir v.legs count client_byte.front client_byte.behind client_byte.byte
          client_byte.split

      client_later : (next : ℕ) → (behind m w v ours law by leg dir may next).client
          ≡ client_past ++ Happens (moving.Hears leg (legs.take_out leg dir next v.legs).1) ∷ []
      client_later next =
          ap (λ (es : List moving.Event). client_past ++ (map Happens es ++ []))
          (told_here v (now m w v ours law by leg dir may) leg dir who.Client (here ∙ is) next)

      client_heard : (next : ℕ)
          → heard_on leg (happened (behind m w v ours law by leg dir may next).client)
          ≡ heard_on leg (happened client_past) ++ (legs.take_out leg dir next v.legs).1
      client_heard next =
          let bytes = (legs.take_out leg dir next v.legs).1 in
          ap (λ (es : List EndEvent). heard_on leg (happened es)) (client_later next)
          ∙ ap (heard_on leg)
          (happened_append client_past (Happens (moving.Hears leg bytes) ∷ []))
          ∙ heard_behind leg (happened client_past) bytes

      pub client_then : (k : ℕ) × AmissThen client.rules k (passages k).client
          (client_shell k)
          (heard_on leg (happened (story k).client))
      client_then =
          let k = length client_byte.front in (
            k,
            then_by client.rules k (passages k).client
                (client_shell k) (heard_on leg (happened (story k).client))
                (flows k).flows.client.role
                (end_stops readings client.rules leg (read_on leg.kind dir) r well
                named why tells (all_read_of (put_there k)) (client_state.first ours.config)
                client.rooms down.client_reads
                (sym (ap (λ (x : Who). node_reads ours x leg) is) ∙ reads_here) v.company.client
                fed_bytes client_byte (next_heard k (k + 1))
                (fits (k + 1)) (next_read k (k + 1))
                client.acts client_past (story k).client (flows k).flows.client
                ((known m w v ours law by leg dir may).traced.runs.client
                ∙ ap (λ (s : Shell ClientRole).
                after_end_events client.rules client.acts s client_past) ours.client)
                (client_later k ∙ ap (λ (bytes : List ℕ).
                client_past ++ Happens (moving.Hears leg bytes) ∷ []) client_fronts.is)
                (client_heard k
                ∙ ap (λ (bytes : List ℕ). heard_on leg (happened client_past) ++ bytes)
                client_fronts.is)
                (heard_here (k + 1)
                ∙ ap (λ (x : Who).
                heard_on leg (events_of (behind m w v ours law by leg dir may (k + 1)) x)) is
                ∙ client_heard (k + 1)
                ∙ ap (λ (bytes : List ℕ). heard_on leg (happened client_past) ++ bytes)
                client_fronts.more)),
          )

    -- the server
    module _ (law_node : NodeLaws server.rules) (is : node ≡ who.Server)
        (closes : ClosesWith server.rules v.company.server (Comes leg fed_bytes) why) where
      abbrev server_past : List EndEvent
      server_past = (now m w v ours law by leg dir may).server

      server_byte : AtByte server.rules leg v.company.server fed_bytes why
      server_byte = closes_at server.rules law_node v.company.server leg fed_bytes why closes

      server_fronts : FedFronts leg dir v.legs server_byte.front server_byte.byte
      server_fronts =
          fed_fronts leg dir v.legs count server_byte.front server_byte.behind server_byte.byte
          server_byte.split

      server_later : (next : ℕ) → (behind m w v ours law by leg dir may next).server
          ≡ server_past ++ Happens (moving.Hears leg (legs.take_out leg dir next v.legs).1) ∷ []
      server_later next =
          ap (λ (es : List moving.Event). server_past ++ (map Happens es ++ []))
          (told_here v (now m w v ours law by leg dir may) leg dir who.Server (here ∙ is) next)

      server_heard : (next : ℕ)
          → heard_on leg (happened (behind m w v ours law by leg dir may next).server)
          ≡ heard_on leg (happened server_past) ++ (legs.take_out leg dir next v.legs).1
      server_heard next =
          let bytes = (legs.take_out leg dir next v.legs).1 in
          ap (λ (es : List EndEvent). heard_on leg (happened es)) (server_later next)
          ∙ ap (heard_on leg)
          (happened_append server_past (Happens (moving.Hears leg bytes) ∷ []))
          ∙ heard_behind leg (happened server_past) bytes

      pub server_then : (k : ℕ) × AmissThen server.rules k (passages k).server
          (server_shell k)
          (heard_on leg (happened (story k).server))
      server_then =
          let k = length server_byte.front in (
            k,
            then_by server.rules k (passages k).server
                (server_shell k) (heard_on leg (happened (story k).server))
                (flows k).flows.server.role
                (end_stops readings server.rules leg (read_on leg.kind dir) r well
                named why tells (all_read_of (put_there k)) (server.first ours.window) server.rooms
                down.server_reads
                (sym (ap (λ (x : Who). node_reads ours x leg) is) ∙ reads_here) v.company.server
                fed_bytes server_byte (next_heard k (k + 1))
                (fits (k + 1)) (next_read k (k + 1))
                server.acts server_past (story k).server (flows k).flows.server
                ((known m w v ours law by leg dir may).traced.runs.server
                ∙ ap (λ (s : Shell Server). after_end_events server.rules server.acts s server_past)
                ours.server)
                (server_later k ∙ ap (λ (bytes : List ℕ).
                server_past ++ Happens (moving.Hears leg bytes) ∷ []) server_fronts.is)
                (server_heard k
                ∙ ap (λ (bytes : List ℕ). heard_on leg (happened server_past) ++ bytes)
                server_fronts.is)
                (heard_here (k + 1)
                ∙ ap (λ (x : Who).
                heard_on leg (events_of (behind m w v ours law by leg dir may (k + 1)) x)) is
                ∙ server_heard (k + 1)
                ∙ ap (λ (bytes : List ℕ). heard_on leg (happened server_past) ++ bytes)
                server_fronts.more)),
          )

    -- an in proxy
    module _ (law_node : NodeLaws in_proxy.rules) (n : ℕ) (is : node ≡ who.In n)
        (shell : Shell InProxy) (up : ℕ) (there : in_place v.company n ≡ Here shell up)
        (closes : ClosesWith in_proxy.rules shell (Comes leg fed_bytes) why) where
      in_byte : AtByte in_proxy.rules leg shell fed_bytes why
      in_byte = closes_at in_proxy.rules law_node shell leg fed_bytes why closes

      in_fronts : FedFronts leg dir v.legs in_byte.front in_byte.byte
      in_fronts =
          fed_fronts leg dir v.legs count in_byte.front in_byte.behind in_byte.byte
          in_byte.split

      in_run : shell ≡ after_events in_proxy.rules
          (begun (in_state.first (ours.in_config n)) in_proxy.rooms)
          ((now m w v ours law by leg dir may).ins n)
      in_run =
          let h = now m w v ours law by leg dir may in
          subst (IsRun in_proxy.rules (m.in_proxy v.cast n) (h.ins n)) there
          ((known m w v ours law by leg dir may).traced.runs.ins n)
          ∙ ap (λ (s : Shell InProxy). after_events in_proxy.rules s (h.ins n))
          (ap (λ (c : K). m.in_proxy c n) (law.flowing v by).cast ∙ ours.ins n)

      pub in_then : (k : ℕ) × AmissThen in_proxy.rules k ((passages k).ins n)
          (in_shell k n)
          (heard_on leg ((story k).ins n))
      in_then =
          let k = length in_byte.front in
          let h = now m w v ours law by leg dir may in (
            k,
            then_by in_proxy.rules k ((passages k).ins n)
                (in_shell k n)
                (heard_on leg ((story k).ins n)) ((flows k).flows.ins n).role
                (stream_stops readings in_proxy.rules leg (read_on leg.kind dir) r
                well named why tells (all_read_of (put_there k))
                (in_state.first (ours.in_config n)) in_proxy.rooms
                (pipes.in_pipe (ours.in_config n))
                (sym (ap (λ (x : Who). node_reads ours x leg) is) ∙ reads_here) shell fed_bytes
                in_byte (next_heard k (k + 1))
                (fits (k + 1)) (next_read k (k + 1))
                (h.ins n) ((story k).ins n) ((flows k).flows.ins n) in_run
                (in_events v h n leg dir k (here ∙ is) shell up there
                ∙ ap (λ (bytes : List ℕ). h.ins n ++ moving.Hears leg bytes ∷ [])
                in_fronts.is)
                (heard_here (k + 1)
                ∙ ap (λ (x : Who).
                heard_on leg (events_of (behind m w v ours law by leg dir may (k + 1)) x)) is
                ∙ ap (heard_on leg)
                (in_events v h n leg dir (k + 1) (here ∙ is) shell up there)
                ∙ heard_behind leg (h.ins n)
                (piece v h leg dir (who.In n) (here ∙ is) (k + 1))
                ∙ ap (λ (bytes : List ℕ). heard_on leg (h.ins n) ++ bytes)
                in_fronts.more)),
          )

    -- an out proxy
    module _ (law_node : NodeLaws out_proxy.rules) (n : ℕ) (is : node ≡ who.Out n)
        (shell : Shell OutProxy) (up : ℕ) (there : out_place v.company n ≡ Here shell up)
        (closes : ClosesWith out_proxy.rules shell (Comes leg fed_bytes) why) where
      out_byte : AtByte out_proxy.rules leg shell fed_bytes why
      out_byte = closes_at out_proxy.rules law_node shell leg fed_bytes why closes

      out_fronts : FedFronts leg dir v.legs out_byte.front out_byte.byte
      out_fronts =
          fed_fronts leg dir v.legs count out_byte.front out_byte.behind out_byte.byte
          out_byte.split

      out_run : shell ≡ after_events out_proxy.rules
          (begun (new_proxy (ours.out_config n)) ROOMS) ((now m w v ours law by leg dir may).outs n)
      out_run =
          let h = now m w v ours law by leg dir may in
          subst (IsRun out_proxy.rules (m.out_proxy v.cast n) (h.outs n)) there
          ((known m w v ours law by leg dir may).traced.runs.outs n)
          ∙ ap (λ (s : Shell OutProxy). after_events out_proxy.rules s (h.outs n))
          (ap (λ (c : K). m.out_proxy c n) (law.flowing v by).cast ∙ ours.outs n)

      pub out_then : (k : ℕ) × AmissThen out_proxy.rules k ((passages k).outs n)
          (out_shell k n)
          (heard_on leg ((story k).outs n))
      out_then =
          let k = length out_byte.front in
          let h = now m w v ours law by leg dir may in (
            k,
            then_by out_proxy.rules k ((passages k).outs n)
                (out_shell k n)
                (heard_on leg ((story k).outs n)) ((flows k).flows.outs n).role
                (stream_stops readings out_proxy.rules leg (read_on leg.kind dir) r
                well named why tells (all_read_of (put_there k))
                (new_proxy (ours.out_config n)) ROOMS (down.proxy_reads (ours.out_config n))
                (sym (ap (λ (x : Who). node_reads ours x leg) is) ∙ reads_here) shell fed_bytes
                out_byte (next_heard k (k + 1))
                (fits (k + 1)) (next_read k (k + 1))
                (h.outs n) ((story k).outs n) ((flows k).flows.outs n) out_run
                (out_events v h n leg dir k (here ∙ is) shell up there
                ∙ ap (λ (bytes : List ℕ). h.outs n ++ moving.Hears leg bytes ∷ [])
                out_fronts.is)
                (heard_here (k + 1)
                ∙ ap (λ (x : Who).
                heard_on leg (events_of (behind m w v ours law by leg dir may (k + 1)) x)) is
                ∙ ap (heard_on leg)
                (out_events v h n leg dir (k + 1) (here ∙ is) shell up there)
                ∙ heard_behind leg (h.outs n)
                (piece v h leg dir (who.Out n) (here ∙ is) (k + 1))
                ∙ ap (λ (bytes : List ℕ). heard_on leg (h.outs n) ++ bytes)
                out_fronts.more)),
          )
