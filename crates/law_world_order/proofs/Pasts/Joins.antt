-- what came at each node is of what was put at the other end of its leg, also where one end heard
-- what comes by the next change: that was drawn before
use Rattle.rh_text.specs.declared.ends.Side.TheVariants as side
use Rattle.law_order.proofs.Vocabulary.{◌≡◌, ℕ, List, [], sym, ap, ◌∙◌, subst, Option, IsPrefix}
use Rattle.rh_record.specs.declared.answer.Who.TheVariants as who
use Rattle.rh_client.specs.Client as client
use Rattle.rh_client.specs.State as client_state
use Rattle.rh_server.specs.Servers as server
use Rattle.law_moves.proofs.Vocabulary.{Dir, U, D, Side, nil_front, prefix_self, prefix_trans, Pipe, Leg, LegKind, ClientOut, OutServer, ClientIn, InServer, EndMove, EndPassage, Passage, end_started, Event, of_leg, all_read_of, messages_read}
use Rattle.law_role_inproxy.proofs.Vocabulary.{InProxy}
use Rattle.law_role_client.proofs.Vocabulary.{ClientRole}
use Rattle.law_role_server.proofs.Vocabulary.{Server}
use Rattle.law_node_history.proofs.Vocabulary.{Who, reader_of, receiver, sender, Makers, leg_at, World, drawn_by, end_node, events_of, happened, heard_on, History}
use Rattle.law_role_outproxy.proofs.Vocabulary.{OutProxy}
use Rattle.law_peers_moments.specs.Moments.{AreJoined}
use Rattle.law_peers_moments.specs.Moments as moments
use Rattle.law_node_traces.proofs.Vocabulary.{AreOurs, deeds, rules}
use Rattle.law_peers_routes.specs.Downwards as down
use Rattle.law_world_order.proofs.Heard.{node_reads, reads_on}
use Rattle.law_world_order.proofs.Legs.{Reads}
use Rattle.law_world_order.proofs.Joined.{all, reads_put}
use Rattle.law_world_order.proofs.Pasts.Lists.{leg_front, logs_front, read_front}
use Rattle.law_world_order.proofs.Pasts.Made.{moves_with}
use Rattle.law_world_order.proofs.Vocabulary.{Flows, IsFlowing, numbers_of, read_on, numbers}

-- an end stands at the same legs, whoever reads
same_end : (readers others : List ℕ) (node : Who) → ((k : ℕ) → who.In k ≡ node → ⊥)
    → (kind : LegKind) (n : ℕ) (end : Side) → end_node readers (leg_at kind n) end ≡ node
    → end_node others (leg_at kind n) end ≡ node
same_end readers others node never ClientIn n side.Client e = e
same_end readers others node never ClientIn n side.Server e = absurd (never (reader_of readers n) e)
same_end readers others node never InServer n side.Client e = e
same_end readers others node never InServer n side.Server e = e
same_end readers others node never ClientOut n side.Client e = e
same_end readers others node never ClientOut n side.Server e = e
same_end readers others node never OutServer n side.Client e = e
same_end readers others node never OutServer n side.Server e = e

module _ {K : Type 0} (reads : Reads) (m : Makers K InProxy OutProxy)
    (w u : World K ClientRole Server InProxy OutProxy) (ours : AreOurs m w.company w.cast)
    (h : History) (flowing : IsFlowing (numbers_of ours) w u h) where
  abbrev pub f : Flows (numbers_of ours) h
  f = flowing.flows

  abbrev pub passed : moments.Passages
  passed = all reads m w u ours h flowing

  -- by this history nodes heard what others had drawn here
  pub record HeardOf (g : History) : Type 0 where
    pub readers : List ℕ
    pub drew : (leg : Leg) (dir : Dir)
        → IsPrefix (heard_on leg (events_of g (end_node readers leg (receiver dir))))
        (drawn_by rules m deeds w.company w.cast h (end_node u.readers leg (sender dir)) leg)
    pub alone : (node : Who) (leg : Leg) → ((end : Side) → end_node readers leg end ≡ node → ⊥)
        → heard_on leg (events_of g node) ≡ []

  module _ (here : (leg : Leg) (dir : Dir)
      → IsPrefix (heard_on leg (events_of h (end_node u.readers leg (receiver dir))))
      (drawn_by rules m deeds w.company w.cast h (end_node u.readers leg (sender dir)) leg))
      (apart : (node : Who) (leg : Leg) → ((end : Side) → end_node u.readers leg end ≡ node → ⊥)
      → heard_on leg (events_of h node) ≡ [])
      (g k : History) (at_client : HeardOf g) (at_server : HeardOf k) where
    -- what each node heard, the client until the one history and the server until the other
    abbrev events : Who → List Event
    events who.Client = happened g.client
    events who.Server = happened k.server
    events (who.In n) = h.ins n
    events (who.Out n) = h.outs n

    drew_on : (kind : LegKind) (n : ℕ) (dir : Dir)
        → IsPrefix (heard_on (leg_at kind n)
        (events (end_node u.readers (leg_at kind n) (receiver dir))))
        (drawn_by rules m deeds w.company w.cast h (end_node u.readers (leg_at kind n) (sender dir))
        (leg_at kind n))
    drew_on ClientIn n U = here (leg_at ClientIn n) U
    drew_on ClientIn n D = at_client.drew (leg_at ClientIn n) D
    drew_on InServer n U = at_server.drew (leg_at InServer n) U
    drew_on InServer n D = here (leg_at InServer n) D
    drew_on ClientOut n U = here (leg_at ClientOut n) U
    drew_on ClientOut n D = at_client.drew (leg_at ClientOut n) D
    drew_on OutServer n U = at_server.drew (leg_at OutServer n) U
    drew_on OutServer n D = here (leg_at OutServer n) D

    alone_on : (node : Who) (leg : Leg)
        → ((end : Side) → end_node u.readers leg end ≡ node → ⊥)
        → heard_on leg (events node) ≡ []
    alone_on who.Client leg away =
        at_client.alone who.Client leg (λ end is.
        away end (same_end at_client.readers u.readers who.Client (λ k e. absurd cc) leg.kind
        leg.number end is))
    alone_on who.Server leg away =
        at_server.alone who.Server leg (λ end is.
        away end (same_end at_server.readers u.readers who.Server (λ k e. absurd cc) leg.kind
        leg.number end is))
    alone_on (who.In n) leg away = apart (who.In n) leg away
    alone_on (who.Out n) leg away = apart (who.Out n) leg away

    -- ---- the ends' moves go on, within those of later streams

    module _ (of_client of_server : List EndMove) (later : Flows (numbers_of ours) g)
        (later_server : Flows (numbers_of ours) k)
        (on_client : IsPrefix f.client.leads.moves of_client)
        (within_client : IsPrefix of_client later.client.leads.moves)
        (on_server : IsPrefix f.server.leads.moves of_server)
        (within_server : IsPrefix of_server later_server.server.leads.moves) where
      abbrev moves : moments.Moves
      moves = moves_with ours h f of_client of_server

      abbrev now : moments.Passages
      now = moments.passages (numbers ours) moves

      abbrev first_client : EndPassage ClientRole
      first_client = end_started (client_state.first ours.config)

      abbrev first_server : EndPassage Server
      first_server = end_started (server.first ours.window)

      puts : (node : Who) → IsPrefix (moments.put_by passed node) (moments.put_by now node)
      puts who.Client =
          subst (λ (p : EndPassage ClientRole). IsPrefix p.passage.put now.client.put)
          f.client.leads.reached
          (logs_front client.rules client.acts first_client f.client.leads.moves of_client
          on_client).1
      puts who.Server =
          subst (λ (p : EndPassage Server). IsPrefix p.passage.put now.server.put)
          f.server.leads.reached
          (logs_front server.rules server.acts first_server f.server.leads.moves of_server
          on_server).1
      puts (who.In n) =
          subst (λ (p : Passage InProxy). IsPrefix p.put (now.ins n).put) (f.ins n).leads.reached
          (prefix_self (now.ins n).put)
      puts (who.Out n) =
          subst (λ (p : Passage OutProxy). IsPrefix p.put (now.outs n).put)
          (f.outs n).leads.reached (prefix_self (now.outs n).put)

      heard : (node : Who) (leg : Leg)
          → IsPrefix (of_leg leg (moments.came_to now node))
          (messages_read (node_reads ours node leg) (heard_on leg (events node)))
      heard who.Client leg =
          let came = later.client.passage.passage.came in
          prefix_trans (of_leg leg now.client.came) (of_leg leg came)
          (messages_read (down.client_reads leg) (heard_on leg (happened g.client)))
          (leg_front leg now.client.came came
          (subst (λ (p : EndPassage ClientRole). IsPrefix now.client.came p.passage.came)
          later.client.leads.reached
          (logs_front client.rules client.acts first_client of_client later.client.leads.moves
          within_client).0)) (later.client.read leg)
      heard who.Server leg =
          let came = later_server.server.passage.passage.came in
          prefix_trans (of_leg leg now.server.came) (of_leg leg came)
          (messages_read (down.server_reads leg) (heard_on leg (happened k.server)))
          (leg_front leg now.server.came came
          (subst (λ (p : EndPassage Server). IsPrefix now.server.came p.passage.came)
          later_server.server.leads.reached
          (logs_front server.rules server.acts first_server of_server
          later_server.server.leads.moves within_server).0)) (later_server.server.read leg)
      heard (who.In n) leg =
          subst (λ (p : Passage InProxy). IsPrefix (of_leg leg p.came)
          (messages_read (node_reads ours (who.In n) leg) (heard_on leg (h.ins n))))
          (sym (f.ins n).leads.reached) ((f.ins n).read leg)
      heard (who.Out n) leg =
          subst (λ (p : Passage OutProxy). IsPrefix (of_leg leg p.came)
          (messages_read (node_reads ours (who.Out n) leg) (heard_on leg (h.outs n))))
          (sym (f.outs n).leads.reached) ((f.outs n).read leg)

      front : (leg : Leg) (dir : Dir)
          → (let takes = end_node u.readers leg (receiver dir) in
          let gives = end_node u.readers leg (sender dir) in
          IsPrefix (of_leg leg (moments.came_to now takes))
          (all_read_of (of_leg leg (moments.put_by now gives))))
      front leg dir =
          let takes = end_node u.readers leg (receiver dir) in
          let gives = end_node u.readers leg (sender dir) in
          let came = of_leg leg (moments.came_to now takes) in
          let bytes = heard_on leg (events takes) in
          let before = of_leg leg (moments.put_by passed gives) in
          let put = of_leg leg (moments.put_by now gives) in
          prefix_trans came (all_read_of before) (all_read_of put)
          (prefix_trans came (messages_read (read_on leg.kind dir) bytes) (all_read_of before)
          (subst (λ (pipe : Option Pipe). IsPrefix came (messages_read pipe bytes))
          (sym (reads_on ours (reader_of u.readers leg.number) leg.number leg.kind dir))
          (heard takes leg))
          (reads_put reads m w u ours h flowing u.readers leg dir bytes
          (drew_on leg.kind leg.number dir)))
          (read_front before put
          (leg_front leg (moments.put_by passed gives) (moments.put_by now gives) (puts gives)))

      elsewhere : (node : Who) (leg : Leg)
          → ((end : Side) → end_node u.readers leg end ≡ node → ⊥)
          → of_leg leg (moments.came_to now node) ≡ []
      elsewhere node leg away =
          let came = heard node leg in
          nil_front (of_leg leg (moments.came_to now node)) came.0
          (came.1 ∙ ap (messages_read (node_reads ours node leg)) (alone_on node leg away))

      pub are_joined : AreJoined (reader_of u.readers) now
      are_joined = record { front = front; elsewhere = elsewhere }
