-- one more change leaves all that came to the nodes fine
use Rattle.rh_text.specs.declared.ends.Side.TheVariants as side
use Rattle.law_order.proofs.Vocabulary.{◌≡◌, ℕ, Bool, true, false, List, [], refl, sym, ap, ◌∙◌, subst, inl, if◌then◌else◌, Some, None, AllByRecursion, Option, true≢false, IsPrefix}
use Rattle.rh_record.specs.declared.answer.Who.TheVariants as who
use Rattle.rh_inproxy.specs.Machine as in_proxy
use Rattle.rh_outproxy.specs.Machine as out_proxy
use Rattle.rh_client.specs.Client as client
use Rattle.rh_server.specs.Servers as server
use Rattle.law_moves.proofs.Vocabulary.{Dir, U, D, Side, Pipe, IsD, CoU, OsD, Leg, LegKind, ClientOut, OutServer, ClientIn, InServer, Message, Shell, begun, same_leg, of_leg, IsFineMessage, Begins, messages_read}
use Rattle.law_role_inproxy.proofs.Vocabulary.{InProxy}
use Rattle.law_role_inproxy.specs.Legible as in_legible
use Rattle.law_role_client.proofs.Vocabulary.{ClientRole}
use Rattle.law_role_client.specs.Legible as client_legible
use Rattle.law_role_server.proofs.Vocabulary.{Server}
use Rattle.law_role_server.specs.Legible as server_legible
use Rattle.law_node_history.proofs.Vocabulary.{Who, reader_of, receiver, sender, Company, is_same, Makers, leg_at, World, node_by, drawn_by, drawn_on, end_drawn_on, end_node, events_of, heard_on, History}
use Rattle.law_node_history.proofs.Lemmas.{who_itself, same_who, same_itself}
use Rattle.law_role_outproxy.proofs.Vocabulary.{OutProxy, new_proxy, ROOMS}
use Rattle.law_role_outproxy.specs.Legible as out_legible
use Rattle.law_node_begins.specs.ProxiesBegin.Pipes as pipes
use Rattle.law_node_traces.proofs.Vocabulary.{AreOurs, deeds, rules}
use Rattle.law_peers_routes.specs.Downwards as down
use Rattle.law_world_order.proofs.Legs.{Reads, of_legs}
use Rattle.law_world_order.proofs.Fine.{Source, from_nothing, from_source, sourced}
use Rattle.law_world_order.proofs.Vocabulary.{AllFine, AllLegible, AreBegun, Flows, numbers_of, read_on}

-- ---- what each node reads

module _ {K : Type 0} {m : Makers K InProxy OutProxy}
    {first : Company ClientRole Server InProxy OutProxy} {cast : K}
    (ours : AreOurs m first cast) where
  abbrev pub node_reads : Who → Leg → Option Pipe
  node_reads who.Client leg = down.client_reads leg
  node_reads who.Server leg = down.server_reads leg
  node_reads (who.In n) leg = pipes.in_pipe (ours.in_config n) leg
  node_reads (who.Out n) leg = down.proxy_reads (ours.out_config n) leg

  its_own : (kind : LegKind) (a b : ℕ) → a ≡ b → same_leg (leg_at kind a) (leg_at kind b) ≡ true
  its_own kind a b same =
      subst (λ (n : ℕ). same_leg (leg_at kind a) (leg_at kind n) ≡ true) same
      (same_itself (leg_at kind a))

  pub reads_on : (reader n : ℕ) (kind : LegKind) (dir : Dir)
      → read_on kind dir ≡ node_reads (node_by reader n kind (receiver dir)) (leg_at kind n)
  reads_on reader n ClientOut U =
      sym (ap (λ (t : Bool). if t then Some CoU else Some OsD)
      (its_own ClientOut (ours.out_config n).number n (ours.out_number n)))
  reads_on reader n ClientOut D = refl
  reads_on reader n OutServer U = refl
  reads_on reader n OutServer D = refl
  reads_on reader n ClientIn U = refl
  reads_on reader n ClientIn D = refl
  reads_on reader n InServer U = refl
  reads_on reader n InServer D =
      sym (ap (λ (t : Bool). if t then Some IsD else None)
      (its_own InServer (ours.in_config n).number n (ours.in_number n)))

-- ---- what each node drew

-- by the cast of the first world
pub as_first : {K : Type 0} (m : Makers K InProxy OutProxy)
    (w v : World K ClientRole Server InProxy OutProxy) → v.cast ≡ w.cast → (h : History)
    (node : Who) (leg : Leg) (bytes : List ℕ)
    → IsPrefix bytes (drawn_by rules m deeds w.company v.cast h node leg)
    → IsPrefix bytes (drawn_by rules m deeds w.company w.cast h node leg)
as_first {K} m w v cast h node leg bytes p =
    subst (λ (k : K). IsPrefix bytes (drawn_by rules m deeds w.company k h node leg)) cast p

module _ {K : Type 0} (m : Makers K InProxy OutProxy)
    (first : Company ClientRole Server InProxy OutProxy) (cast : K)
    (ours : AreOurs m first cast) (h : History) where
  -- ---- from the ends

  pub from_client : (leg : Leg) (heard : List ℕ)
      → IsPrefix heard (drawn_by rules m deeds first cast h who.Client leg)
      → IsPrefix heard (end_drawn_on client.rules client.acts (client.first_client ours.config)
      leg h.client)
  from_client leg heard p =
      subst (λ (node : Shell ClientRole). IsPrefix heard
      (end_drawn_on client.rules client.acts node leg h.client)) ours.client p

  pub from_server : (leg : Leg) (heard : List ℕ)
      → IsPrefix heard (drawn_by rules m deeds first cast h who.Server leg)
      → IsPrefix heard (end_drawn_on server.rules server.acts (server.new_server ours.window)
      leg h.server)
  from_server leg heard p =
      subst (λ (node : Shell Server). IsPrefix heard
      (end_drawn_on server.rules server.acts node leg h.server)) ours.server p

  pub from_in : (n : ℕ) (leg : Leg) (heard : List ℕ)
      → IsPrefix heard (drawn_by rules m deeds first cast h (who.In n) leg)
      → IsPrefix heard (drawn_on in_proxy.rules (in_proxy.first_node (ours.in_config n)) leg
      (h.ins n))
  from_in n leg heard p =
      subst (λ (node : Shell InProxy). IsPrefix heard
      (drawn_on in_proxy.rules node leg (h.ins n))) (ours.ins n) p

  pub from_out : (n : ℕ) (leg : Leg) (heard : List ℕ)
      → IsPrefix heard (drawn_by rules m deeds first cast h (who.Out n) leg)
      → IsPrefix heard (drawn_on out_proxy.rules
      (begun (new_proxy (ours.out_config n)) ROOMS) leg (h.outs n))
  from_out n leg heard p =
      subst (λ (node : Shell OutProxy). IsPrefix heard
      (drawn_on out_proxy.rules node leg (h.outs n))) (ours.outs n) p

module _ {K : Type 0} (law : Reads) (m : Makers K InProxy OutProxy)
    (first : Company ClientRole Server InProxy OutProxy) (cast : K)
    (ours : AreOurs m first cast) (h behind : History) (readers later : List ℕ)
    (before : (leg : Leg) (dir : Dir)
    → IsPrefix (heard_on leg (events_of behind (end_node later leg (receiver dir))))
    (drawn_by rules m deeds first cast h (end_node readers leg (sender dir)) leg))
    (alone : (node : Who) (leg : Leg) → ((end : Side) → end_node later leg end ≡ node → ⊥)
    → heard_on leg (events_of behind node) ≡ [])
    (f : Flows (numbers_of ours) h) (starts : AreBegun (numbers_of ours) h f)
    (legible : AllLegible (numbers_of ours) h f) (g : Flows (numbers_of ours) behind) where
  -- ---- each node, on each leg

  abbrev put_by : Who → Leg → List Message
  put_by who.Client leg = of_leg leg f.client.passage.passage.put
  put_by who.Server leg = of_leg leg f.server.passage.passage.put
  put_by (who.In n) leg = of_leg leg (f.ins n).passage.put
  put_by (who.Out n) leg = of_leg leg (f.outs n).passage.put

  abbrev came_to : Who → Leg → List Message
  came_to who.Client leg = of_leg leg g.client.passage.passage.came
  came_to who.Server leg = of_leg leg g.server.passage.passage.came
  came_to (who.In n) leg = of_leg leg (g.ins n).passage.came
  came_to (who.Out n) leg = of_leg leg (g.outs n).passage.came

  is_read : (node : Who) (leg : Leg)
      → IsPrefix (came_to node leg)
      (messages_read (node_reads ours node leg) (heard_on leg (events_of behind node)))
  is_read who.Client leg = g.client.read leg
  is_read who.Server leg = g.server.read leg
  is_read (who.In n) leg = (g.ins n).read leg
  is_read (who.Out n) leg = (g.outs n).read leg

  abbrev drawn_there : Who → Leg → List ℕ
  drawn_there who.Client leg =
      end_drawn_on client.rules client.acts (client.first_client ours.config) leg h.client
  drawn_there who.Server leg =
      end_drawn_on server.rules server.acts (server.new_server ours.window) leg h.server
  drawn_there (who.In n) leg =
      drawn_on in_proxy.rules (in_proxy.first_node (ours.in_config n)) leg (h.ins n)
  drawn_there (who.Out n) leg =
      drawn_on out_proxy.rules (begun (new_proxy (ours.out_config n)) ROOMS) leg (h.outs n)

  from_node : (node : Who) (leg : Leg) (heard : List ℕ)
      → IsPrefix heard (drawn_by rules m deeds first cast h node leg)
      → IsPrefix heard (drawn_there node leg)
  from_node who.Client = from_client m first cast ours h
  from_node who.Server = from_server m first cast ours h
  from_node (who.In n) = from_in m first cast ours h n
  from_node (who.Out n) = from_out m first cast ours h n

  -- ---- what was put on each direction of a leg

  module _ (leg : Leg) where
    client_source : Begins (client_legible.pipe_put leg) (put_by who.Client leg)
        → Source (client_legible.pipe_put leg) (put_by who.Client leg) (drawn_there who.Client leg)
    client_source begins =
        sourced client_legible.pipe_put f.client.passage.passage.put legible.client leg
        (drawn_there who.Client leg) begins (inl (f.client.drawn leg))

    server_source : Begins (server_legible.pipe_put leg) (put_by who.Server leg)
        → Source (server_legible.pipe_put leg) (put_by who.Server leg) (drawn_there who.Server leg)
    server_source begins =
        sourced server_legible.pipe_put f.server.passage.passage.put legible.server leg
        (drawn_there who.Server leg) begins (inl (f.server.drawn leg))

  source : (kind : LegKind) (n : ℕ) (dir : Dir)
      → (let node = end_node readers (leg_at kind n) (sender dir) in
      Source (read_on kind dir) (put_by node (leg_at kind n)) (drawn_there node (leg_at kind n)))
  source ClientIn n U = client_source (leg_at ClientIn n) (starts.client_in n)
  source ClientOut n U = client_source (leg_at ClientOut n) (starts.client_out n)
  source InServer n D = server_source (leg_at InServer n) (starts.server_in n)
  source OutServer n D = server_source (leg_at OutServer n) (starts.server_out n)
  source ClientIn n D =
      let k = reader_of readers n in
      sourced in_legible.pipe_put (f.ins k).passage.put (legible.ins k) (leg_at ClientIn n)
      (drawn_there (who.In k) (leg_at ClientIn n)) (starts.in_client k n)
      (starts.in_client_drew k n)
  source InServer n U =
      sourced in_legible.pipe_put (f.ins n).passage.put (legible.ins n) (leg_at InServer n)
      (drawn_there (who.In n) (leg_at InServer n)) (starts.in_server n) (starts.in_server_drew n)
  source ClientOut n D =
      sourced out_legible.pipe_put (f.outs n).passage.put (legible.outs n) (leg_at ClientOut n)
      (drawn_there (who.Out n) (leg_at ClientOut n)) (starts.out_client n)
      (starts.out_client_drew n)
  source OutServer n U =
      sourced out_legible.pipe_put (f.outs n).passage.put (legible.outs n) (leg_at OutServer n)
      (drawn_there (who.Out n) (leg_at OutServer n)) (starts.out_server n)
      (starts.out_server_drew n)

  -- so what the node at its end took of that is fine
  end_fine : (leg : Leg) (dir : Dir)
      → AllByRecursion IsFineMessage (came_to (end_node later leg (receiver dir)) leg)
  end_fine leg dir =
      let puts = end_node readers leg (sender dir) in
      let takes = end_node later leg (receiver dir) in
      let heard = heard_on leg (events_of behind takes) in
      from_source law (read_on leg.kind dir) (put_by puts leg) (came_to takes leg)
      (drawn_there puts leg) heard (source leg.kind leg.number dir)
      (from_node puts leg heard (before leg dir))
      (subst (λ (pipe : Option Pipe). IsPrefix (came_to takes leg) (messages_read pipe heard))
      (sym (reads_on ours (reader_of later leg.number) leg.number leg.kind dir))
      (is_read takes leg))

  node_fine : (node : Who) (leg : Leg) → AllByRecursion IsFineMessage (came_to node leg)
  node_fine node leg =
      by (is_same (end_node later leg side.Client) node) refl
      (is_same (end_node later leg side.Server) node) refl
    where
      here : (end : Side) → is_same (end_node later leg end) node ≡ true
          → AllByRecursion IsFineMessage (came_to (end_node later leg end) leg)
          → AllByRecursion IsFineMessage (came_to node leg)
      here end e fine =
          subst (λ (x : Who). AllByRecursion IsFineMessage (came_to x leg))
          (same_who (end_node later leg end) node e) fine

      apart : (end : Side) → is_same (end_node later leg end) node ≡ false
          → end_node later leg end ≡ node → ⊥
      apart end e is =
          true≢false (sym (who_itself node) ∙ sym (ap (λ (x : Who). is_same x node) is) ∙ e)

      by : (c : Bool) → is_same (end_node later leg side.Client) node ≡ c → (s : Bool)
          → is_same (end_node later leg side.Server) node ≡ s
          → AllByRecursion IsFineMessage (came_to node leg)
      by true e s k = here side.Client e (end_fine leg D)
      by false e true k = here side.Server k (end_fine leg U)
      by false e false k =
          from_nothing (node_reads ours node leg) (came_to node leg)
          (heard_on leg (events_of behind node)) (alone node leg none) (is_read node leg)
        where
          none : (end : Side) → end_node later leg end ≡ node → ⊥
          none side.Client = apart side.Client e
          none side.Server = apart side.Server k

  -- ---- all of it

  pub heard_fine : AllFine (numbers_of ours) behind g
  heard_fine = record {
    client = of_legs IsFineMessage same_itself g.client.passage.passage.came
        (λ leg. node_fine who.Client leg);
    server = of_legs IsFineMessage same_itself g.server.passage.passage.came
        (λ leg. node_fine who.Server leg);
    ins = λ k. of_legs IsFineMessage same_itself (g.ins k).passage.came
        (λ leg. node_fine (who.In k) leg);
    outs = λ k. of_legs IsFineMessage same_itself (g.outs k).passage.came
        (λ leg. node_fine (who.Out k) leg);
  }
