-- a server closes for no window and no acknowledgement of a hop
use Rattle.rh_text.specs.declared.ends.Side.TheVariants as side
use Rattle.law_order.proofs.Vocabulary.{◌≡◌, ℕ, ◌+◌, List, [], ◌∷◌, ◌++◌, length, sym, ap, ◌∙◌, subst, Some, AllByRecursion, Option, IsPrefix}
use Rattle.rh_record.specs.declared.answer.Who.TheVariants as who
use Rattle.rh_server.specs.Servers as server
use Rattle.rh_wires.specs.Legs as legs
use Rattle.law_moves.proofs.Vocabulary.{U, prefix_trans, Pipe, Cause, Leg, Refused, Shell, bytes, ClosedWith, Passage, after_end_events, of_leg, ReadsBack, Begins, messages_read, ReadsWell}
use Rattle.law_role_inproxy.proofs.Vocabulary.{InProxy}
use Rattle.law_role_client.proofs.Vocabulary.{ClientRole}
use Rattle.law_role_server.proofs.Vocabulary.{Server}
use Rattle.law_role_server.specs.Legible as server_legible
use Rattle.law_node_history.proofs.Vocabulary.{Who, receiver, sender, Comes, Makers, World, at, drawn_by, end_drawn_on, end_node, events_of, happened, heard_on, IsFed, MayChange, changed, History, told_to}
use Rattle.law_node_history.proofs.Lemmas.{end_drawn_more}
use Rattle.law_node_causes.specs.Closings.{ClosesWith}
use Rattle.law_role_outproxy.proofs.Vocabulary.{OutProxy}
use Rattle.law_node_streams.proofs.Streams.LegLogs.{on_leg}
use Rattle.law_node_streams.specs.Streams.{Seated}
use Rattle.law_node_traces.proofs.Vocabulary.{ByChanges, AreOurs, deeds, rules}
use Rattle.law_peers_routes.specs.Downwards as down
use Rattle.law_world_order.proofs.Vocabulary.{IsFlowing, numbers_of, read_on}
use Rattle.law_world_honest.proofs.Honesty.Fed.{strict_on}
use Rattle.law_world_honest.specs.Honesty.Honest.{well_on}
use Rattle.law_world_windows.proofs.Fed.{piece, server_heard, server_behind}
use Rattle.law_world_windows.proofs.Moment.{now, known, behind, flowing_behind, well_behind, drawn_before, closes_at, one_behind}
use Rattle.law_world_windows.proofs.OneByte.{AtByte}
use Rattle.law_world_windows.proofs.Pieces.{FedFronts, fed_fronts}
use Rattle.law_world_windows.proofs.Stopping.{StopsAt, Way, stops_at}
use Rattle.law_world_windows.specs.Known.{Laws, NodeLaws, Readings}
use Rattle.law_world_windows.specs.Refusing.{refused_by}

module _ {K : Type 0} (m : Makers K InProxy OutProxy)
    (w v : World K ClientRole Server InProxy OutProxy) (ours : AreOurs m w.company w.cast)
    (law : Laws m w ours) (by : ByChanges rules m deeds w v) (leg : Leg)
    (may : (count : ℕ) → MayChange rules v (IsFed leg U count))
    (here : at v leg (receiver U) ≡ who.Server) (readings : Readings)
    (node : NodeLaws server.rules) (r : Refused) (why : Cause) (tells : refused_by why ≡ Some r)
    (count : ℕ)
    (closes : ClosesWith server.rules v.company.server
    (Comes leg (legs.take_out leg U count v.legs).1) why) where
  abbrev pub first : Shell Server
  first = server.new_server ours.window

  abbrev pub h : History
  h = now m w v ours law by leg U may

  run : v.company.server ≡ after_end_events server.rules server.acts first h.server
  run =
      (known m w v ours law by leg U may).traced.runs.server
      ∙ ap (λ (s : Shell Server). after_end_events server.rules server.acts s h.server) ours.server

  -- the byte that closes it, and what was fed before
  abbrev pub byte : AtByte server.rules leg v.company.server
      (legs.take_out leg U count v.legs).1 why
  byte = closes_at server.rules node v.company.server leg (legs.take_out leg U count v.legs).1 why
      closes

  abbrev pub short : ℕ
  short = length byte.front

  fronts : FedFronts leg U v.legs byte.front byte.byte
  fronts = fed_fronts leg U v.legs count byte.front byte.behind byte.byte byte.split

  abbrev pub then_history : History
  then_history = behind m w v ours law by leg U may short

  abbrev pub then_flowing : IsFlowing (numbers_of ours) w
      (changed rules m deeds v (IsFed leg U short))
      then_history
  then_flowing = flowing_behind m w v ours law by leg U may short

  abbrev pub server_passage : Passage Server
  server_passage = then_flowing.flows.server.passage.passage

  abbrev then_server : Shell Server
  then_server = after_end_events server.rules server.acts first then_history.server

  then_is : then_server ≡ (bytes server.rules v.company.server leg byte.front).0
  then_is =
      server_behind first v h run leg U here short
      ∙ ap (λ (front : List ℕ). (bytes server.rules v.company.server leg front).0) fronts.is

  -- ---- what was heard

  abbrev heard : ℕ → List ℕ
  heard n = heard_on leg (happened (behind m w v ours law by leg U may n).server)

  one_more : heard short ++ byte.byte ∷ [] ≡ heard (short + 1)
  one_more =
      one_behind (heard_on leg (happened h.server)) byte.front
      (piece v h leg U who.Server here (short + 1)) byte.byte (heard short)
      (server_heard first v h run leg U here short
      ∙ ap (λ (front : List ℕ). heard_on leg (happened h.server) ++ front) fronts.is)
      fronts.more
      ∙ sym (server_heard first v h run leg U here (short + 1))

  module _ {T : Type 0} (q : Passage T) (pipe back_pipe : Option Pipe)
      (reads : down.server_reads leg ≡ pipe) (reads_on : read_on leg.kind U ≡ pipe)
      (puts_on : server_legible.pipe_put leg ≡ back_pipe)
      (ahead : (bytes : List ℕ) → IsPrefix bytes (drawn_by rules m deeds w.company w.cast h
      (end_node v.readers leg (sender U)) leg) → Way pipe (of_leg leg q.put) bytes)
      (other_heard : List ℕ)
      (other_front : IsPrefix other_heard
      (end_drawn_on server.rules server.acts first leg h.server))
      (other_came : IsPrefix (of_leg leg q.came) (messages_read back_pipe other_heard))
      (begins : Begins back_pipe (of_leg leg server_passage.put)) where
    back : Way back_pipe (of_leg leg server_passage.put) other_heard
    back = record {
      begins = begins;
      reads_back = subst (λ (p : Option Pipe).
          AllByRecursion (ReadsBack p) (of_leg leg server_passage.put)) puts_on
          (on_leg server_legible.pipe_put ReadsBack leg server_passage.put
          then_flowing.legible.server.read_back);
      drawn = end_drawn_on server.rules server.acts first leg then_history.server;
      spells = then_flowing.flows.server.drawn leg;
      front = prefix_trans other_heard (end_drawn_on server.rules server.acts first leg h.server)
          (end_drawn_on server.rules server.acts first leg then_history.server) other_front (
            _,
            sym
                (end_drawn_more server.rules server.acts first v.company.server h.server
                (told_to v (IsFed leg U short) who.Server) (IsFed leg U short) side.Server run leg),
          );
    }

    well : ReadsWell (well_on leg.kind U) pipe (heard short ++ byte.byte ∷ [])
    well =
        subst (λ (p : Option Pipe).
        ReadsWell (well_on leg.kind U) p (heard short ++ byte.byte ∷ [])) reads_on
        (subst (ReadsWell (well_on leg.kind U) (read_on leg.kind U)) (sym one_more)
        (subst (λ (x : Who). ReadsWell (well_on leg.kind U) (read_on leg.kind U) (heard_on leg
        (events_of (behind m w v ours law by leg U may (short + 1)) x))) here
        (well_behind m w v ours law by leg U may (short + 1))))

    front : IsPrefix (heard short ++ byte.byte ∷ []) (drawn_by rules m deeds w.company w.cast h
        (end_node v.readers leg (sender U)) leg)
    front =
        subst (λ (bytes : List ℕ). IsPrefix bytes (drawn_by rules m deeds w.company w.cast h
        (end_node v.readers leg (sender U)) leg)) (sym one_more)
        (subst (λ (x : Who). IsPrefix (heard_on leg
        (events_of (behind m w v ours law by leg U may (short + 1)) x))
        (drawn_by rules m deeds w.company w.cast h (end_node v.readers leg (sender U)) leg)) here
        (drawn_before m w v ours law by leg U may (short + 1)))

    -- a row refuses the next message of what was put at the other end
    pub server_stops : StopsAt server.rules server_passage.role leg r
        (of_leg leg server_passage.came) (of_leg leg server_passage.put) (of_leg leg q.came)
        (of_leg leg q.put)
    server_stops =
        let f = then_flowing.flows.server in
        subst (λ (role : Server). StopsAt server.rules role leg r (of_leg leg server_passage.came)
        (of_leg leg server_passage.put) (of_leg leg q.came) (of_leg leg q.put)) (sym f.role)
        (stops_at readings (well_on leg.kind U) (strict_on leg.kind U).ranges server.rules leg pipe
        back_pipe r why tells then_server byte.byte (of_leg leg server_passage.came)
        (of_leg leg server_passage.put) (of_leg leg q.came) (of_leg leg q.put) (heard short)
        other_heard (end_drawn_on server.rules server.acts first leg then_history.server)
        (ap (λ (s : Shell Server). s.course) then_is ∙ byte.going)
        (subst (λ (s : Shell Server).
        ClosedWith why (bytes server.rules s leg (byte.byte ∷ [])).0.course) (sym then_is)
        byte.closed)
        (λ end going at.
        subst (λ (p : Option Pipe). Seated server.rules then_server.role p
        (of_leg leg server_passage.came) (of_leg leg server_passage.put) (heard short)
        (end_drawn_on server.rules server.acts first leg then_history.server) end) reads
        (f.seats leg end going at)) well (ahead (heard short ++ byte.byte ∷ []) front) other_came
        back)
