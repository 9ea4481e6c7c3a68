-- the moment before the byte of a fed piece that closes a node, at which all is joined
use Rattle.law_order.proofs.Vocabulary.{◌≡◌, ℕ, ◌+◌, List, [], ◌∷◌, ◌++◌, length, map, refl, sym, ap, ◌∙◌, subst, Some, IsPrefix}
use Rattle.rh_record.specs.declared.answer.Who.TheVariants as who
use Rattle.rh_inproxy.specs.Machine as in_proxy
use Rattle.rh_inproxy.specs.State as in_state
use Rattle.rh_outproxy.specs.Machine as out_proxy
use Rattle.rh_client.specs.Client as client
use Rattle.rh_client.specs.State as client_state
use Rattle.rh_wires.specs.Legs as legs
use Rattle.law_moves.proofs.Vocabulary.{Dir, prefix_trans, Cause, Leg, Refused, Message, Shell, begun, EndEvent, Happens, after_end_events, after_events, of_leg, all_read_of, messages_read}
use Rattle.law_moves.specs.Moving as moving
use Rattle.law_role_inproxy.proofs.Vocabulary.{InProxy}
use Rattle.law_role_client.proofs.Vocabulary.{ClientRole}
use Rattle.law_role_server.proofs.Vocabulary.{Server}
use Rattle.law_node_history.proofs.Vocabulary.{Who, reader_of, receiver, sender, Comes, Here, Makers, World, at, IsTraced, drawn_by, end_node, events_of, happened, heard_on, Change, IsFed, MayChange, changed, History, IsRun, in_place, noted, nothing, out_place}
use Rattle.law_node_history.proofs.Lemmas.{drawn_append, end_drawn_append, happened_append, works_more}
use Rattle.law_node_causes.specs.Closings.{ClosesWith}
use Rattle.law_role_outproxy.proofs.Vocabulary.{ROOMS, OutProxy, new_proxy}
use Rattle.law_peers_moments.specs.Moments.{AreJoined, Passages, put_by}
use Rattle.law_node_begins.specs.ProxiesBegin.Pipes as pipes
use Rattle.law_node_traces.proofs.Vocabulary.{ByChanges, AreOurs, deeds, rules}
use Rattle.law_peers_routes.specs.Downwards as down
use Rattle.law_world_order.proofs.Heard.{node_reads, reads_on}
use Rattle.law_world_order.proofs.Joined.{AreAlone, all, joined_at, reads_put}
use Rattle.law_world_order.proofs.Legs.{Reads}
use Rattle.law_world_order.proofs.Vocabulary.{IsFlowing, numbers_of, read_on}
use Rattle.law_world_honest.proofs.Honesty.Fed.{strict_on}
use Rattle.law_world_honest.specs.Honesty.Honest.{well_on}
use Rattle.law_world_windows.proofs.Fed.{heard_behind, in_events, out_events, piece, told_here}
use Rattle.law_world_windows.proofs.Moment.{behind, closes_at, drawn_before, flowing_behind, known, noted_append, now, well_behind}
use Rattle.law_world_windows.proofs.OneByte.{AtByte}
use Rattle.law_world_windows.proofs.Pieces.{FedFronts, fed_fronts}
use Rattle.law_world_windows.proofs.ClientHops.Stops.{IsNext, end_next, stream_next}
use Rattle.law_world_windows.specs.Known.{Laws, NodeLaws, Readings}
use Rattle.law_world_windows.specs.Refusing.{refused_by}

-- what a node drew it has drawn whatever changes
pub drawn_more : {K : Type 0} (m : Makers K InProxy OutProxy)
    (w v : World K ClientRole Server InProxy OutProxy) (h : History) (change : Change)
    (node : Who) (leg : Leg)
    → IsPrefix (drawn_by rules m deeds w.company w.cast h node leg)
    (drawn_by rules m deeds w.company w.cast (noted v h change) node leg)
drawn_more m w v h change who.Client leg =
    (_, sym (end_drawn_append client.rules client.acts leg w.company.client h.client _))
drawn_more m w v h change who.Server leg =
    (_, sym (end_drawn_append rules.server deeds.server leg w.company.server h.server _))
drawn_more m w v h change (who.In n) leg =
    (_, sym (drawn_append in_proxy.rules leg (m.in_proxy w.cast n) (h.ins n) _))
drawn_more m w v h change (who.Out n) leg =
    (_, sym (drawn_append out_proxy.rules leg (m.out_proxy w.cast n) (h.outs n) _))

module _ {K : Type 0} (law_reads : Reads) (readings : Readings) (m : Makers K InProxy OutProxy)
    (w v : World K ClientRole Server InProxy OutProxy) (ours : AreOurs m w.company w.cast)
    (law : Laws m w ours) (alone : AreAlone m w) (by : ByChanges rules m deeds w v) (leg : Leg)
    (dir : Dir) (may : (count : ℕ) → MayChange rules v (IsFed leg dir count)) where
  -- ---- behind so many bytes

  module _ (count : ℕ) where
    abbrev pub world : World K ClientRole Server InProxy OutProxy
    world = changed rules m deeds v (IsFed leg dir count)

    abbrev pub story : History
    story = behind m w v ours law by leg dir may count

    abbrev pub flows : IsFlowing (numbers_of ours) w world story
    flows = flowing_behind m w v ours law by leg dir may count

    abbrev pub passages : Passages
    passages = all law_reads m w world ours story flows

    traced : IsTraced rules m deeds w.company world story
    traced =
        let by_then = works_more rules m deeds w v (IsFed leg dir count) by (may count) refl in
        subst (IsTraced rules m deeds w.company world)
        (noted_append rules m deeds w nothing by.leads.changes (IsFed leg dir count)
        ∙ ap (λ (x : World K ClientRole Server InProxy OutProxy).
        noted x (now m w v ours law by leg dir may) (IsFed leg dir count)) by.leads.reached)
        (law.known world by_then.leads).traced

    pub joined : AreJoined (reader_of v.readers) passages
    joined =
        joined_at law_reads m w ours world story flows (law.drawn world story traced)
        (alone world story traced)

    -- the messages that were put at the other end of the leg
    abbrev pub all_put : List Message
    all_put = all_read_of (of_leg leg (put_by passages (end_node v.readers leg (sender dir))))

    -- of which is what is heard with one byte more
    next_read : (next : ℕ)
        → IsPrefix (messages_read (read_on leg.kind dir)
        (heard_on leg (events_of (behind m w v ours law by leg dir may next)
        (at v leg (receiver dir))))) all_put
    next_read next =
        let puts = end_node v.readers leg (sender dir) in
        let h = now m w v ours law by leg dir may in
        reads_put law_reads m w world ours story flows v.readers leg dir
        (heard_on leg (events_of (behind m w v ours law by leg dir may next)
        (at v leg (receiver dir))))
        (prefix_trans _ (drawn_by rules m deeds w.company w.cast h puts leg) _
        (drawn_before m w v ours law by leg dir may next)
        (drawn_more m w v h (IsFed leg dir count) puts leg))

  -- ---- a piece closes the node that it is fed to

  module _ (r : Refused) (why : Cause) (tells : refused_by why ≡ Some r) (count : ℕ)
      (node : Who) (here : at v leg (receiver dir) ≡ node) where
    abbrev pub fed_bytes : List ℕ
    fed_bytes = (legs.take_out leg dir count v.legs).1

    reads_here : node_reads ours node leg ≡ read_on leg.kind dir
    reads_here =
        ap (λ (x : Who). node_reads ours x leg) (sym here)
        ∙ sym (reads_on ours (reader_of v.readers leg.number) leg.number leg.kind dir)

    abbrev next_heard : ℕ → List ℕ
    next_heard next =
        heard_on leg (events_of (behind m w v ours law by leg dir may next)
        (at v leg (receiver dir)))

    heard_here : (next : ℕ) → next_heard next
        ≡ heard_on leg (events_of (behind m w v ours law by leg dir may next) node)
    heard_here next =
        ap (λ (x : Who).
        heard_on leg (events_of (behind m w v ours law by leg dir may next) x)) here

    -- the client
    module _ (law_node : NodeLaws client.rules) (is : node ≡ who.Client)
        (closes : ClosesWith client.rules v.company.client (Comes leg fed_bytes) why) where
      abbrev past : List EndEvent
      past = (now m w v ours law by leg dir may).client

      byte : AtByte client.rules leg v.company.client fed_bytes why
      byte = closes_at client.rules law_node v.company.client leg fed_bytes why closes

      fronts : FedFronts leg dir v.legs byte.front byte.byte
      fronts = fed_fronts leg dir v.legs count byte.front byte.behind byte.byte byte.split

      later : (next : ℕ) → (behind m w v ours law by leg dir may next).client
          ≡ past ++ Happens (moving.Hears leg (legs.take_out leg dir next v.legs).1) ∷ []
      later next =
          ap (λ (es : List moving.Event). past ++ (map Happens es ++ []))
          (told_here v (now m w v ours law by leg dir may) leg dir who.Client (here ∙ is) next)

      heard_later : (next : ℕ)
          → heard_on leg (happened (behind m w v ours law by leg dir may next).client)
          ≡ heard_on leg (happened past) ++ (legs.take_out leg dir next v.legs).1
      heard_later next =
          let bytes = (legs.take_out leg dir next v.legs).1 in
          ap (λ (es : List EndEvent). heard_on leg (happened es)) (later next)
          ∙ ap (heard_on leg) (happened_append past (Happens (moving.Hears leg bytes) ∷ []))
          ∙ heard_behind leg (happened past) bytes

      pub client_next : (k : ℕ) × IsNext client.rules (passages k).client.role leg r
          (of_leg leg (passages k).client.came) (all_put k)
      client_next =
          let k = length byte.front in (
            k,
            end_next readings (well_on leg.kind dir) (strict_on leg.kind dir).ranges client.rules
                (client_state.first ours.config) client.rooms down.client_reads leg
                (read_on leg.kind dir)
                (sym (ap (λ (x : Who). node_reads ours x leg) is) ∙ reads_here) r why tells
                (all_put k) v.company.client fed_bytes byte (next_heard (k + 1))
                (well_behind m w v ours law by leg dir may (k + 1)) (next_read k (k + 1))
                client.acts past (story k).client (flows k).flows.client
                ((known m w v ours law by leg dir may).traced.runs.client
                ∙ ap (λ (s : Shell ClientRole). after_end_events client.rules client.acts s past)
                ours.client)
                (later k ∙ ap (λ (bytes : List ℕ).
                past ++ Happens (moving.Hears leg bytes) ∷ []) fronts.is)
                (heard_later k
                ∙ ap (λ (bytes : List ℕ). heard_on leg (happened past) ++ bytes) fronts.is)
                (heard_here (k + 1)
                ∙ ap (λ (x : Who).
                heard_on leg (events_of (behind m w v ours law by leg dir may (k + 1)) x)) is
                ∙ heard_later (k + 1)
                ∙ ap (λ (bytes : List ℕ). heard_on leg (happened past) ++ bytes) fronts.more),
          )

    -- an in proxy
    module _ (law_node : NodeLaws in_proxy.rules) (n : ℕ) (is : node ≡ who.In n)
        (shell : Shell InProxy) (up : ℕ) (there : in_place v.company n ≡ Here shell up)
        (closes : ClosesWith in_proxy.rules shell (Comes leg fed_bytes) why) where
      in_byte : AtByte in_proxy.rules leg shell fed_bytes why
      in_byte = closes_at in_proxy.rules law_node shell leg fed_bytes why closes

      in_fronts : FedFronts leg dir v.legs in_byte.front in_byte.byte
      in_fronts =
          fed_fronts leg dir v.legs count in_byte.front in_byte.behind in_byte.byte in_byte.split

      in_run : shell ≡ after_events in_proxy.rules
          (begun (in_state.first (ours.in_config n)) in_proxy.rooms)
          ((now m w v ours law by leg dir may).ins n)
      in_run =
          let h = now m w v ours law by leg dir may in
          subst (IsRun in_proxy.rules (m.in_proxy v.cast n) (h.ins n)) there
          ((known m w v ours law by leg dir may).traced.runs.ins n)
          ∙ ap (λ (s : Shell InProxy). after_events in_proxy.rules s (h.ins n))
          (ap (λ (c : K). m.in_proxy c n) (flows 0).cast ∙ ours.ins n)

      pub in_next : (k : ℕ) × IsNext in_proxy.rules ((passages k).ins n).role leg r
          (of_leg leg ((passages k).ins n).came) (all_put k)
      in_next =
          let k = length in_byte.front in
          let h = now m w v ours law by leg dir may in (
            k,
            stream_next readings (well_on leg.kind dir) (strict_on leg.kind dir).ranges
                in_proxy.rules (in_state.first (ours.in_config n)) in_proxy.rooms
                (pipes.in_pipe (ours.in_config n)) leg (read_on leg.kind dir)
                (sym (ap (λ (x : Who). node_reads ours x leg) is) ∙ reads_here) r why tells
                (all_put k) shell fed_bytes in_byte (next_heard (k + 1))
                (well_behind m w v ours law by leg dir may (k + 1)) (next_read k (k + 1))
                (h.ins n) ((story k).ins n) ((flows k).flows.ins n) in_run
                (in_events v h n leg dir k (here ∙ is) shell up there
                ∙ ap (λ (bytes : List ℕ). h.ins n ++ moving.Hears leg bytes ∷ []) in_fronts.is)
                (heard_here (k + 1)
                ∙ ap (λ (x : Who).
                heard_on leg (events_of (behind m w v ours law by leg dir may (k + 1)) x)) is
                ∙ ap (heard_on leg) (in_events v h n leg dir (k + 1) (here ∙ is) shell up there)
                ∙ heard_behind leg (h.ins n)
                (piece v h leg dir (who.In n) (here ∙ is) (k + 1))
                ∙ ap (λ (bytes : List ℕ). heard_on leg (h.ins n) ++ bytes) in_fronts.more),
          )

    -- an out proxy
    module _ (law_node : NodeLaws out_proxy.rules) (n : ℕ) (is : node ≡ who.Out n)
        (shell : Shell OutProxy) (up : ℕ) (there : out_place v.company n ≡ Here shell up)
        (closes : ClosesWith out_proxy.rules shell (Comes leg fed_bytes) why) where
      out_byte : AtByte out_proxy.rules leg shell fed_bytes why
      out_byte = closes_at out_proxy.rules law_node shell leg fed_bytes why closes

      out_fronts : FedFronts leg dir v.legs out_byte.front out_byte.byte
      out_fronts =
          fed_fronts leg dir v.legs count out_byte.front out_byte.behind out_byte.byte
          out_byte.split

      out_run : shell ≡ after_events out_proxy.rules
          (begun (new_proxy (ours.out_config n)) ROOMS)
          ((now m w v ours law by leg dir may).outs n)
      out_run =
          let h = now m w v ours law by leg dir may in
          subst (IsRun out_proxy.rules (m.out_proxy v.cast n) (h.outs n)) there
          ((known m w v ours law by leg dir may).traced.runs.outs n)
          ∙ ap (λ (s : Shell OutProxy). after_events out_proxy.rules s (h.outs n))
          (ap (λ (c : K). m.out_proxy c n) (flows 0).cast ∙ ours.outs n)

      pub out_next : (k : ℕ) × IsNext out_proxy.rules ((passages k).outs n).role leg r
          (of_leg leg ((passages k).outs n).came) (all_put k)
      out_next =
          let k = length out_byte.front in
          let h = now m w v ours law by leg dir may in (
            k,
            stream_next readings (well_on leg.kind dir) (strict_on leg.kind dir).ranges
                out_proxy.rules (new_proxy (ours.out_config n)) ROOMS
                (down.proxy_reads (ours.out_config n)) leg (read_on leg.kind dir)
                (sym (ap (λ (x : Who). node_reads ours x leg) is) ∙ reads_here) r why tells
                (all_put k) shell fed_bytes out_byte (next_heard (k + 1))
                (well_behind m w v ours law by leg dir may (k + 1)) (next_read k (k + 1))
                (h.outs n) ((story k).outs n) ((flows k).flows.outs n) out_run
                (out_events v h n leg dir k (here ∙ is) shell up there
                ∙ ap (λ (bytes : List ℕ). h.outs n ++ moving.Hears leg bytes ∷ []) out_fronts.is)
                (heard_here (k + 1)
                ∙ ap (λ (x : Who).
                heard_on leg (events_of (behind m w v ours law by leg dir may (k + 1)) x)) is
                ∙ ap (heard_on leg) (out_events v h n leg dir (k + 1) (here ∙ is) shell up there)
                ∙ heard_behind leg (h.outs n)
                (piece v h leg dir (who.Out n) (here ∙ is) (k + 1))
                ∙ ap (λ (bytes : List ℕ). heard_on leg (h.outs n) ++ bytes) out_fronts.more),
          )
