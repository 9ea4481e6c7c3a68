-- whatever a change of a world is, it closes no node for a window or an acknowledgement of a hop
-- between a client and its proxies
use Rattle.law_order.proofs.Vocabulary.{◌≡◌, ℕ, List, [], ◌∷◌, ◌++◌, refl, sym, ◌∙◌, subst, Some, None, IsPrefix}
use Rattle.rh_line.specs.declared.cause.Cause.TheVariants as cause
use Rattle.rh_record.specs.declared.answer.Who.TheVariants as who
use Rattle.rh_shell.specs.declared.answers.Refused.TheVariants as refused
use Rattle.rh_inproxy.specs.Machine as in_proxy
use Rattle.rh_outproxy.specs.Machine as out_proxy
use Rattle.rh_client.specs.Client as client
use Rattle.rh_wires.specs.Legs as legs
use Rattle.rh_company.specs.Company as company
use Rattle.rh_company.specs.Places as places
use Rattle.law_moves.proofs.Vocabulary.{Dir, U, D, Cause, Leg, LegKind, ClientOut, OutServer, ClientIn, InServer, Message, Shell, EndMove, IsFineMessage, of_leg, all_read_of}
use Rattle.law_role_inproxy.proofs.Vocabulary.{InProxy}
use Rattle.law_role_client.proofs.Vocabulary.{ClientRole, ci, co}
use Rattle.law_role_server.proofs.Vocabulary.{Server}
use Rattle.law_node_history.proofs.Vocabulary.{Who, reader_of, receiver, Event, Comes, Place, Absent, Here, Gone, Makers, leg_at, World, at, happened, Change, IsFed, MayChange, ClosesNode, History, in_place, out_place}
use Rattle.law_node_history.proofs.Lemmas.{answered}
use Rattle.law_node_causes.specs.Closings.{ClosesWith}
use Rattle.law_role_outproxy.proofs.Vocabulary.{OutProxy}
use Rattle.law_peers_moments.specs.Moments.{AreJoined, Passages}
use Rattle.law_node_traces.proofs.Vocabulary.{ByChanges, AreOurs, deeds, rules, history_at}
use Rattle.law_world_order.proofs.Joined.{AreAlone, put_is_fine}
use Rattle.law_world_order.proofs.Legs.{Reads}
use Rattle.law_world_order.proofs.Vocabulary.{IsFlowing, numbers_of, AreDistinct, AreInRange}
use Rattle.law_world_honest.proofs.Honesty.Closing.{by_fed}
use Rattle.law_world_honest.proofs.Honesty.Fed.{told_what, told_who}
use Rattle.law_world_windows.proofs.Moment.{comes_of, known}
use Rattle.law_world_windows.proofs.ClientHops.Honest.{RoleLaws, are_honest, distinct_behind}
use Rattle.law_world_windows.proofs.ClientHops.Moments.{client_next, flows, in_next, joined, out_next, passages, story, world}
use Rattle.law_world_windows.proofs.ClientHops.Refusing.{client_range, client_window, in_range, in_window, out_range, out_range_none, out_window}
use Rattle.law_world_windows.proofs.ClientHops.Routes.{AreHonest}
use Rattle.law_world_windows.proofs.Closing.{in_number, out_number}
use Rattle.law_world_windows.specs.Known.{Laws, NodesLaws, Readings}
use Rattle.law_world_windows.specs.Hops.{os_leg}
use Rattle.law_world_windows.specs.Refusing.{RefusesMessage}
use Rattle.law_world_windows.specs.ClientHops.{HasOneWindow}

module _ {K : Type 0} (roles : RoleLaws) (nodes : NodesLaws) (reads : Reads) (readings : Readings)
    (m : Makers K InProxy OutProxy) (w : World K ClientRole Server InProxy OutProxy)
    (ours : AreOurs m w.company w.cast) (ranges : AreInRange (numbers_of ours))
    (one : HasOneWindow (numbers_of ours)) (law : Laws m w ours) (alone : AreAlone m w)
    (v : World K ClientRole Server InProxy OutProxy) (by : ByChanges rules m deeds w v)
    (distinct : AreDistinct (happened (history_at m w v by.leads).client)) where
  -- ---- a moment at which a byte closes a node

  module _ (leg : Leg) (dir : Dir) (may : MayChange rules v (IsFed leg dir 0)) (count : ℕ) where
    abbrev then_world : World K ClientRole Server InProxy OutProxy
    then_world = world reads readings m w v ours law alone by leg dir (λ k. may) count

    abbrev then_story : History
    then_story = story reads readings m w v ours law alone by leg dir (λ k. may) count

    abbrev then_flows : IsFlowing (numbers_of ours) w then_world then_story
    then_flows = flows reads readings m w v ours law alone by leg dir (λ k. may) count

    abbrev then_all : Passages
    then_all = passages reads readings m w v ours law alone by leg dir (λ k. may) count

    then_joined : AreJoined (reader_of v.readers) then_all
    then_joined = joined reads readings m w v ours law alone by leg dir (λ k. may) count

    abbrev then_moves : List EndMove
    then_moves = then_flows.flows.client.leads.moves

    apart : AreDistinct (happened then_story.client)
    apart =
        distinct_behind w.company.client v (history_at m w v by.leads) leg dir count
        (known m w v ours law by leg dir (λ k. may)).traced.runs.client distinct

    honest : AreHonest (ours.in_config 1).window then_moves then_all
    honest =
        are_honest roles reads m w ours ranges then_world then_story then_flows
        then_joined one apart

    -- a message that is the next of what an out proxy put for its client is fine
    next_fine : (k : ℕ) (came : List Message) (x : Message)
        → IsPrefix (came ++ x ∷ []) (all_read_of (of_leg (co k) (then_all.outs k).put))
        → IsFineMessage x
    next_fine k came x p =
        put_is_fine reads m w then_world ours then_story then_flows k came x p

  -- ---- what is told to a node

  abbrev event : Leg → Dir → ℕ → Event
  event leg dir count = Comes leg (legs.take_out leg dir count v.legs).1

  abbrev May : Leg → Dir → Type 0
  May leg dir = MayChange rules v (IsFed leg dir 0)

  -- a node that the piece is told to closes so
  abbrev Fed : Who → Cause → Type 0
  Fed node why =
      (leg : Leg) (dir : Dir) (count : ℕ) → May leg dir → at v leg (receiver dir) ≡ node
      → (company.tell rules v.company node (event leg dir count)).1 ≡ Some why → ⊥

  fed : (node : Who) (why : Cause) → Fed node why → (leg : Leg) (dir : Dir) (count : ℕ)
      → MayChange rules v (IsFed leg dir count)
      → ClosesNode rules v (IsFed leg dir count) node why → ⊥
  fed node why never leg dir count may is =
      never leg dir count may (told_who _ _ _ _ is.told)
      (subst (λ (e : Event). (company.tell rules v.company node e).1 ≡ Some why)
      (sym (told_what _ _ _ _ is.told)) is.closes)

  -- ---- the client

  client_range_fed : (n command value : ℕ)
      → Fed who.Client (cause.OutOfRange (co n) command value)
  client_range_fed n command value leg dir count may here closes =
      subst (λ (x : Leg). May x dir → at v x (receiver dir) ≡ who.Client
      → ClosesWith client.rules v.company.client (event x dir count) why → ⊥)
      (nodes.client.amiss v.company.client (event leg dir count) why closes).cause (by_dir dir)
      may here closes
    where
      why : Cause
      why = cause.OutOfRange (co n) command value

      by_dir : (dir : Dir) → May (co n) dir → at v (co n) (receiver dir) ≡ who.Client
          → ClosesWith client.rules v.company.client (event (co n) dir count)
          (cause.OutOfRange (co n) command value) → ⊥
      by_dir U may here closes = absurd cc
      by_dir D may here closes =
          let next = client_next reads readings m w v ours law alone by (co n) D (λ k. may)
          (refused.OutOfRange command value) (cause.OutOfRange (co n) command value) refl count
          who.Client refl nodes.client refl closes in
          client_range (reader_of v.readers) (then_all (co n) D may next.0)
          (then_joined (co n) D may next.0)
          (ours.in_config 1).window (then_moves (co n) D may next.0)
          (honest (co n) D may next.0) n next.1.message next.1.ahead command value
          next.1.refuses

  client_window_fed : (n reached edge : ℕ)
      → Fed who.Client (cause.WindowExceeded (co n) reached edge)
  client_window_fed n reached edge leg dir count may here closes =
      subst (λ (x : Leg). May x dir → at v x (receiver dir) ≡ who.Client
      → ClosesWith client.rules v.company.client (event x dir count) why → ⊥)
      (nodes.client.amiss v.company.client (event leg dir count) why closes).cause (by_dir dir)
      may here closes
    where
      why : Cause
      why = cause.WindowExceeded (co n) reached edge

      by_dir : (dir : Dir) → May (co n) dir → at v (co n) (receiver dir) ≡ who.Client
          → ClosesWith client.rules v.company.client (event (co n) dir count)
          (cause.WindowExceeded (co n) reached edge) → ⊥
      by_dir U may here closes = absurd cc
      by_dir D may here closes =
          let next = client_next reads readings m w v ours law alone by (co n) D (λ k. may)
          (refused.Window (record { reached = reached; edge = edge }))
          (cause.WindowExceeded (co n) reached edge) refl count who.Client refl nodes.client refl
          closes in
          client_window (reader_of v.readers) (then_all (co n) D may next.0)
          (then_joined (co n) D may next.0) (ours.in_config 1).window
          (then_moves (co n) D may next.0)
          (honest (co n) D may next.0) n next.1.message
          (next_fine (co n) D may next.0 n
          (of_leg (co n) (then_all (co n) D may next.0).client.came) next.1.message next.1.ahead)
          next.1.ahead (record { reached = reached; edge = edge }) next.1.refuses

  -- ---- an in proxy

  module _ (k : ℕ) (why : Cause) where
    -- a leg at which it may be told so, and it is there
    abbrev InFed : Leg → Type 0
    InFed leg =
        (dir : Dir) (count : ℕ) (node : Shell InProxy) (up : ℕ)
        → in_place v.company k ≡ Here node up → May leg dir → at v leg (receiver dir) ≡ who.In k
        → ClosesWith in_proxy.rules node (event leg dir count) why → ⊥

    in_fed : ((leg : Leg) (count : ℕ) (node : Shell InProxy) (dir : Dir)
        → ClosesWith in_proxy.rules node (event leg dir count) why → InFed leg)
        → Fed (who.In k) why
    in_fed never leg dir count may here closes =
        per (in_place v.company k) refl
        (sym (answered Absent (places.tell in_proxy.rules (event leg dir count)) None refl
        v.company.ins k) ∙ closes)
      where
        per : (place : Place InProxy) → in_place v.company k ≡ place
            → (places.tell in_proxy.rules (event leg dir count) place).1 ≡ Some why → ⊥
        per Absent there closes = absurd cc
        per (Gone now) there closes = absurd cc
        per (Here node up) there closes =
            never leg count node dir closes dir count node up there may here closes

    abbrev OutFed : Leg → Type 0
    OutFed leg =
        (dir : Dir) (count : ℕ) (node : Shell OutProxy) (up : ℕ)
        → out_place v.company k ≡ Here node up → May leg dir
        → at v leg (receiver dir) ≡ who.Out k
        → ClosesWith out_proxy.rules node (event leg dir count) why → ⊥

    out_fed : ((leg : Leg) (count : ℕ) (node : Shell OutProxy) (dir : Dir)
        → ClosesWith out_proxy.rules node (event leg dir count) why → OutFed leg)
        → Fed (who.Out k) why
    out_fed never leg dir count may here closes =
        per (out_place v.company k) refl
        (sym (answered Absent (places.tell out_proxy.rules (event leg dir count)) None refl
        v.company.outs k) ∙ closes)
      where
        per : (place : Place OutProxy) → out_place v.company k ≡ place
            → (places.tell out_proxy.rules (event leg dir count) place).1 ≡ Some why → ⊥
        per Absent there closes = absurd cc
        per (Gone now) there closes = absurd cc
        per (Here node up) there closes =
            never leg count node dir closes dir count node up there may here closes

  in_window_at : (k n reached edge : ℕ) → InFed k (cause.WindowExceeded (ci n) reached edge) (ci n)
  in_window_at k n reached edge D count node up there may here closes = absurd cc
  in_window_at k n reached edge U count node up there may here closes =
      let next = in_next reads readings m w v ours law alone by (ci n) U (λ j. may)
      (refused.Window (record { reached = reached; edge = edge }))
      (cause.WindowExceeded (ci n) reached edge) refl count (who.In k) here nodes.ins k refl node
      up there closes in
      in_window (reader_of v.readers) (then_all (ci n) U may next.0)
      (then_joined (ci n) U may next.0)
      (ours.in_config 1).window (then_moves (ci n) U may next.0)
      (honest (ci n) U may next.0) k n (in_number (reader_of v.readers n) k here)
      next.1.message next.1.ahead (record { reached = reached; edge = edge }) next.1.refuses

  in_window_fed : (k n reached edge : ℕ)
      → Fed (who.In k) (cause.WindowExceeded (ci n) reached edge)
  in_window_fed k n reached edge =
      in_fed k (cause.WindowExceeded (ci n) reached edge) (λ leg count node dir closes.
      subst (InFed k (cause.WindowExceeded (ci n) reached edge))
      (nodes.ins.amiss node (event leg dir count) (cause.WindowExceeded (ci n) reached edge)
      closes).cause (in_window_at k n reached edge))

  in_range_at : (k n command value : ℕ)
      → InFed k (cause.OutOfRange (ci n) command value) (ci n)
  in_range_at k n command value D count node up there may here closes = absurd cc
  in_range_at k n command value U count node up there may here closes =
      let next = in_next reads readings m w v ours law alone by (ci n) U (λ j. may)
      (refused.OutOfRange command value) (cause.OutOfRange (ci n) command value) refl count
      (who.In k) here nodes.ins k refl node up there closes in
      in_range (reader_of v.readers) (then_all (ci n) U may next.0)
      (then_joined (ci n) U may next.0)
      (ours.in_config 1).window (then_moves (ci n) U may next.0)
      (honest (ci n) U may next.0) k n next.1.message command value next.1.refuses

  in_range_fed : (k n command value : ℕ)
      → Fed (who.In k) (cause.OutOfRange (ci n) command value)
  in_range_fed k n command value =
      in_fed k (cause.OutOfRange (ci n) command value) (λ leg count node dir closes.
      subst (InFed k (cause.OutOfRange (ci n) command value))
      (nodes.ins.amiss node (event leg dir count) (cause.OutOfRange (ci n) command value)
      closes).cause (in_range_at k n command value))

  -- ---- an out proxy

  out_window_at : (k n reached edge : ℕ)
      → OutFed k (cause.WindowExceeded (co n) reached edge) (co n)
  out_window_at k n reached edge D count node up there may here closes = absurd cc
  out_window_at k n reached edge U count node up there may here closes =
      let next = out_next reads readings m w v ours law alone by (co n) U (λ j. may)
      (refused.Window (record { reached = reached; edge = edge }))
      (cause.WindowExceeded (co n) reached edge) refl count (who.Out k) here nodes.outs k refl
      node up there closes in
      out_window (reader_of v.readers) (then_all (co n) U may next.0)
      (then_joined (co n) U may next.0)
      (ours.in_config 1).window (then_moves (co n) U may next.0)
      (honest (co n) U may next.0) k next.1.message
      (record { reached = reached; edge = edge })
      (subst (λ (j : ℕ). RefusesMessage out_proxy.rules
      ((then_all (co n) U may next.0).outs k).role (co j)
      (refused.Window (record { reached = reached; edge = edge })) next.1.message)
      (out_number n k here) next.1.refuses)

  out_window_fed : (k n reached edge : ℕ)
      → Fed (who.Out k) (cause.WindowExceeded (co n) reached edge)
  out_window_fed k n reached edge =
      out_fed k (cause.WindowExceeded (co n) reached edge) (λ leg count node dir closes.
      subst (OutFed k (cause.WindowExceeded (co n) reached edge))
      (nodes.outs.amiss node (event leg dir count) (cause.WindowExceeded (co n) reached edge)
      closes).cause (out_window_at k n reached edge))

  -- on each leg that it has
  out_range_at : (k : ℕ) (l leg : Leg) (command value : ℕ)
      → OutFed k (cause.OutOfRange l command value) leg
  out_range_at k l leg command value = per leg.kind leg.number
    where
      per : (kind : LegKind) (n : ℕ)
          → OutFed k (cause.OutOfRange l command value) (leg_at kind n)
      per ClientIn n U count node up there may here closes = absurd cc
      per ClientIn n D count node up there may here closes = absurd cc
      per InServer n U count node up there may here closes = absurd cc
      per InServer n D count node up there may here closes = absurd cc
      per ClientOut n D count node up there may here closes = absurd cc
      per OutServer n U count node up there may here closes = absurd cc
      per ClientOut n U count node up there may here closes =
          let next = out_next reads readings m w v ours law alone by (co n) U (λ j. may)
          (refused.OutOfRange command value) (cause.OutOfRange l command value) refl count
          (who.Out k) here nodes.outs k refl node up there closes in
          out_range_none (reader_of v.readers) (then_all (co n) U may next.0)
          (then_joined (co n) U may next.0) (ours.in_config 1).window
          (then_moves (co n) U may next.0)
          (honest (co n) U may next.0) k next.1.message command value
          (subst (λ (j : ℕ). RefusesMessage out_proxy.rules
          ((then_all (co n) U may next.0).outs k).role (co j)
          (refused.OutOfRange command value) next.1.message) (out_number n k here)
          next.1.refuses)
      per OutServer n D count node up there may here closes =
          let next = out_next reads readings m w v ours law alone by (os_leg n) D (λ j. may)
          (refused.OutOfRange command value) (cause.OutOfRange l command value) refl count
          (who.Out k) here nodes.outs k refl node up there closes in
          let all = then_all (os_leg n) D may next.0 in
          let both = subst (λ (j : ℕ).
          IsPrefix (of_leg (os_leg j) (all.outs k).came ++ next.1.message ∷ [])
          (all_read_of (of_leg (os_leg j) all.server.put))
          × RefusesMessage out_proxy.rules (all.outs k).role (os_leg j)
          (refused.OutOfRange command value) next.1.message) (out_number n k here)
          (next.1.ahead, next.1.refuses) in
          out_range (reader_of v.readers) all (then_joined (os_leg n) D may next.0)
          (ours.in_config 1).window (then_moves (os_leg n) D may next.0)
          (honest (os_leg n) D may next.0) k
          next.1.message both.0 command value both.1

  out_range_fed : (k : ℕ) (l : Leg) (command value : ℕ)
      → Fed (who.Out k) (cause.OutOfRange l command value)
  out_range_fed k l command value =
      out_fed k (cause.OutOfRange l command value) (λ leg count node dir closes.
      out_range_at k l leg command value)

  -- ---- any change

  module _ (change : Change) (may : MayChange rules v change) where
    pub no_in_window : (k n reached edge : ℕ)
        → ClosesNode rules v change (who.In k) (cause.WindowExceeded (ci n) reached edge) → ⊥
    no_in_window k n reached edge is =
        let why = cause.WindowExceeded (ci n) reached edge in
        by_fed v (who.In k) why ⊥ (fed (who.In k) why (in_window_fed k n reached edge))
        (comes_of nodes) change may is (λ S rules shell comes. comes)

    pub no_in_range : (k n command value : ℕ)
        → ClosesNode rules v change (who.In k) (cause.OutOfRange (ci n) command value) → ⊥
    no_in_range k n command value is =
        let why = cause.OutOfRange (ci n) command value in
        by_fed v (who.In k) why ⊥ (fed (who.In k) why (in_range_fed k n command value))
        (comes_of nodes) change may is (λ S rules shell comes. comes)

    pub no_client_range : (n command value : ℕ)
        → ClosesNode rules v change who.Client (cause.OutOfRange (co n) command value) → ⊥
    no_client_range n command value is =
        let why = cause.OutOfRange (co n) command value in
        by_fed v who.Client why ⊥ (fed who.Client why (client_range_fed n command value))
        (comes_of nodes) change may is (λ S rules shell comes. comes)

    pub no_client_window : (n reached edge : ℕ)
        → ClosesNode rules v change who.Client (cause.WindowExceeded (co n) reached edge) → ⊥
    no_client_window n reached edge is =
        let why = cause.WindowExceeded (co n) reached edge in
        by_fed v who.Client why ⊥ (fed who.Client why (client_window_fed n reached edge))
        (comes_of nodes) change may is (λ S rules shell comes. comes)

    pub no_out_range : (k : ℕ) (leg : Leg) (command value : ℕ)
        → ClosesNode rules v change (who.Out k) (cause.OutOfRange leg command value) → ⊥
    no_out_range k leg command value is =
        let why = cause.OutOfRange leg command value in
        by_fed v (who.Out k) why ⊥ (fed (who.Out k) why (out_range_fed k leg command value))
        (comes_of nodes) change may is (λ S rules shell comes. comes)

    pub no_out_window : (k n reached edge : ℕ)
        → ClosesNode rules v change (who.Out k) (cause.WindowExceeded (co n) reached edge) → ⊥
    no_out_window k n reached edge is =
        let why = cause.WindowExceeded (co n) reached edge in
        by_fed v (who.Out k) why ⊥ (fed (who.Out k) why (out_window_fed k n reached edge))
        (comes_of nodes) change may is (λ S rules shell comes. comes)
