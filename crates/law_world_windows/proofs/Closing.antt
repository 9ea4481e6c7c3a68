-- whatever a change of a world is, it closes no node for the window of a hop on one leg
use Rattle.law_order.proofs.Vocabulary.{◌≡◌, ℕ, refl, sym, ◌∙◌, subst, Some, None}
use Rattle.rh_line.specs.declared.cause.Cause.TheVariants as cause
use Rattle.rh_record.specs.declared.answer.Who.TheVariants as who
use Rattle.rh_inproxy.specs.Machine as in_proxy
use Rattle.rh_outproxy.specs.Machine as out_proxy
use Rattle.rh_server.specs.Servers as server
use Rattle.rh_wires.specs.Legs as legs
use Rattle.rh_company.specs.Company as company
use Rattle.rh_company.specs.Places as places
use Rattle.law_moves.proofs.Vocabulary.{Dir, U, D, Cause, Leg, Shell}
use Rattle.law_role_inproxy.proofs.Vocabulary.{InProxy}
use Rattle.law_role_client.proofs.Vocabulary.{ClientRole}
use Rattle.law_role_server.proofs.Vocabulary.{Server}
use Rattle.law_node_history.proofs.Vocabulary.{Who, receiver, Event, Comes, Place, Absent, Here, Gone, Makers, World, at, Change, IsFed, MayChange, ClosesNode, in_place, out_place}
use Rattle.law_node_history.proofs.Lemmas.{answered}
use Rattle.law_node_causes.specs.Closings.{ClosesWith}
use Rattle.law_role_outproxy.proofs.Vocabulary.{OutProxy}
use Rattle.law_node_traces.proofs.Vocabulary.{ByChanges, AreOurs, deeds, rules}
use Rattle.law_world_order.proofs.Vocabulary.{numbers_of, AreInRange}
use Rattle.law_world_honest.proofs.Honesty.Closing.{by_fed}
use Rattle.law_world_honest.proofs.Honesty.Fed.{told_what, told_who}
use Rattle.law_world_windows.proofs.HopsKept.{in_range, out_window, server_range, server_window}
use Rattle.law_world_windows.proofs.Moment.{comes_of}
use Rattle.law_world_windows.specs.Known.{HopLaws, Laws}
use Rattle.law_world_windows.specs.Hops.{is_leg, os_leg}

pub in_number : (a b : ℕ) → who.In a ≡ who.In b → a ≡ b
in_number a b e = cc

pub out_number : (a b : ℕ) → who.Out a ≡ who.Out b → a ≡ b
out_number a b e = cc

module _ {K : Type 0} (hop : HopLaws) (m : Makers K InProxy OutProxy)
    (w : World K ClientRole Server InProxy OutProxy) (ours : AreOurs m w.company w.cast)
    (ranges : AreInRange (numbers_of ours)) (law : Laws m w ours)
    (v : World K ClientRole Server InProxy OutProxy) (by : ByChanges rules m deeds w v) where
  abbrev event : Leg → Dir → ℕ → Event
  event leg dir count = Comes leg (legs.take_out leg dir count v.legs).1

  abbrev May : Leg → Dir → Type 0
  May leg dir = MayChange rules v (IsFed leg dir 0)

  -- a node that the piece is told to closes so
  abbrev Fed : Who → Cause → Type 0
  Fed node why =
      (leg : Leg) (dir : Dir) (count : ℕ) → May leg dir → at v leg (receiver dir) ≡ node
      → (company.tell rules v.company node (event leg dir count)).1 ≡ Some why → ⊥

  fed : (node : Who) (why : Cause) → Fed node why → (leg : Leg) (dir : Dir) (count : ℕ)
      → MayChange rules v (IsFed leg dir count)
      → ClosesNode rules v (IsFed leg dir count) node why → ⊥
  fed node why never leg dir count may is =
      never leg dir count may (told_who _ _ _ _ is.told)
      (subst (λ (e : Event). (company.tell rules v.company node e).1 ≡ Some why)
      (sym (told_what _ _ _ _ is.told)) is.closes)

  -- ---- the server

  server_window_fed : (n reached edge : ℕ)
      → Fed who.Server (cause.WindowExceeded (is_leg n) reached edge)
  server_window_fed n reached edge leg dir count may here closes =
      subst (λ (x : Leg). May x dir → at v x (receiver dir) ≡ who.Server
      → ClosesWith server.rules v.company.server (event x dir count) why → ⊥)
      (hop.nodes.server.amiss v.company.server (event leg dir count) why closes).cause (by_dir dir) may here
      closes
    where
      why : Cause
      why = cause.WindowExceeded (is_leg n) reached edge

      by_dir : (dir : Dir) → May (is_leg n) dir → at v (is_leg n) (receiver dir) ≡ who.Server
          → ClosesWith server.rules v.company.server (event (is_leg n) dir count)
          (cause.WindowExceeded (is_leg n) reached edge) → ⊥
      by_dir U may here closes =
          server_window hop m w ours ranges v law by n (λ k. may) (is_leg n) reached edge count
          closes
      by_dir D may here closes = absurd cc

  server_range_fed : (n command value : ℕ)
      → Fed who.Server (cause.OutOfRange (os_leg n) command value)
  server_range_fed n command value leg dir count may here closes =
      subst (λ (x : Leg). May x dir → at v x (receiver dir) ≡ who.Server
      → ClosesWith server.rules v.company.server (event x dir count) why → ⊥)
      (hop.nodes.server.amiss v.company.server (event leg dir count) why closes).cause (by_dir dir) may here
      closes
    where
      why : Cause
      why = cause.OutOfRange (os_leg n) command value

      by_dir : (dir : Dir) → May (os_leg n) dir → at v (os_leg n) (receiver dir) ≡ who.Server
          → ClosesWith server.rules v.company.server (event (os_leg n) dir count)
          (cause.OutOfRange (os_leg n) command value) → ⊥
      by_dir U may here closes =
          server_range hop m w ours ranges v law by n (λ k. may) (os_leg n) command value count
          closes
      by_dir D may here closes = absurd cc

  -- ---- the proxies

  in_range_fed : (k n command value : ℕ)
      → Fed (who.In k) (cause.OutOfRange (is_leg n) command value)
  in_range_fed k n command value leg dir count may here closes =
      by_place (in_place v.company k) refl
      (sym (answered Absent (places.tell in_proxy.rules (event leg dir count)) None refl
      v.company.ins k) ∙ closes)
    where
      why : Cause
      why = cause.OutOfRange (is_leg n) command value

      by_dir : (node : Shell InProxy) (up : ℕ) → in_place v.company k ≡ Here node up → (dir : Dir)
          → May (is_leg n) dir → at v (is_leg n) (receiver dir) ≡ who.In k
          → ClosesWith in_proxy.rules node (event (is_leg n) dir count)
          (cause.OutOfRange (is_leg n) command value) → ⊥
      by_dir node up there U may here closes = absurd cc
      by_dir node up there D may here closes =
          in_range hop m w ours ranges v law by n (λ j. may) node up
          (subst (λ (j : ℕ). in_place v.company j ≡ Here node up) (sym (in_number n k here)) there)
          (is_leg n) command value count closes

      by_place : (place : Place InProxy) → in_place v.company k ≡ place
          → (places.tell in_proxy.rules (event leg dir count) place).1
          ≡ Some (cause.OutOfRange (is_leg n) command value) → ⊥
      by_place Absent there closes = absurd cc
      by_place (Gone now) there closes = absurd cc
      by_place (Here node up) there closes =
          subst (λ (x : Leg). May x dir → at v x (receiver dir) ≡ who.In k
          → ClosesWith in_proxy.rules node (event x dir count) why → ⊥)
          (hop.nodes.ins.amiss node (event leg dir count) why closes).cause (by_dir node up there dir) may here
          closes

  out_window_fed : (k n reached edge : ℕ)
      → Fed (who.Out k) (cause.WindowExceeded (os_leg n) reached edge)
  out_window_fed k n reached edge leg dir count may here closes =
      by_place (out_place v.company k) refl
      (sym (answered Absent (places.tell out_proxy.rules (event leg dir count)) None refl
      v.company.outs k) ∙ closes)
    where
      why : Cause
      why = cause.WindowExceeded (os_leg n) reached edge

      by_dir : (node : Shell OutProxy) (up : ℕ) → out_place v.company k ≡ Here node up
          → (dir : Dir) → May (os_leg n) dir → at v (os_leg n) (receiver dir) ≡ who.Out k
          → ClosesWith out_proxy.rules node (event (os_leg n) dir count)
          (cause.WindowExceeded (os_leg n) reached edge) → ⊥
      by_dir node up there U may here closes = absurd cc
      by_dir node up there D may here closes =
          out_window hop m w ours ranges v law by n (λ j. may) node up
          (subst (λ (j : ℕ). out_place v.company j ≡ Here node up) (sym (out_number n k here))
          there) (os_leg n) reached edge count closes

      by_place : (place : Place OutProxy) → out_place v.company k ≡ place
          → (places.tell out_proxy.rules (event leg dir count) place).1
          ≡ Some (cause.WindowExceeded (os_leg n) reached edge) → ⊥
      by_place Absent there closes = absurd cc
      by_place (Gone now) there closes = absurd cc
      by_place (Here node up) there closes =
          subst (λ (x : Leg). May x dir → at v x (receiver dir) ≡ who.Out k
          → ClosesWith out_proxy.rules node (event x dir count) why → ⊥)
          (hop.nodes.outs.amiss node (event leg dir count) why closes).cause (by_dir node up there dir) may
          here closes

  -- ---- any change

  module _ (change : Change) (may : MayChange rules v change) where
    pub no_server_window : (n reached edge : ℕ)
        → ClosesNode rules v change who.Server (cause.WindowExceeded (is_leg n) reached edge) → ⊥
    no_server_window n reached edge is =
        let why = cause.WindowExceeded (is_leg n) reached edge in
        by_fed v who.Server why ⊥ (fed who.Server why (server_window_fed n reached edge))
        (comes_of hop.nodes) change may is (λ S rules shell comes. comes)

    pub no_server_range : (n command value : ℕ)
        → ClosesNode rules v change who.Server (cause.OutOfRange (os_leg n) command value) → ⊥
    no_server_range n command value is =
        let why = cause.OutOfRange (os_leg n) command value in
        by_fed v who.Server why ⊥ (fed who.Server why (server_range_fed n command value))
        (comes_of hop.nodes) change may is (λ S rules shell comes. comes)

    pub no_in_range : (k n command value : ℕ)
        → ClosesNode rules v change (who.In k) (cause.OutOfRange (is_leg n) command value) → ⊥
    no_in_range k n command value is =
        let why = cause.OutOfRange (is_leg n) command value in
        by_fed v (who.In k) why ⊥ (fed (who.In k) why (in_range_fed k n command value))
        (comes_of hop.nodes) change may is (λ S rules shell comes. comes)

    pub no_out_window : (k n reached edge : ℕ)
        → ClosesNode rules v change (who.Out k) (cause.WindowExceeded (os_leg n) reached edge) → ⊥
    no_out_window k n reached edge is =
        let why = cause.WindowExceeded (os_leg n) reached edge in
        by_fed v (who.Out k) why ⊥ (fed (who.Out k) why (out_window_fed k n reached edge))
        (comes_of hop.nodes) change may is (λ S rules shell comes. comes)
