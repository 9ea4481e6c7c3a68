-- whatever a change of a world is, it closes no node for a window or an acknowledgement
use Rattle.law_order.proofs.Vocabulary.{◌≡◌, ℕ, List, inl, inr, refl, sym, ◌∙◌, subst, Some, None}
use Rattle.rh_line.specs.declared.cause.Cause.TheVariants as cause
use Rattle.rh_record.specs.declared.answer.Who.TheVariants as who
use Rattle.rh_shell.specs.declared.answers.Refused.TheVariants as refused
use Rattle.rh_inproxy.specs.Machine as in_proxy
use Rattle.rh_outproxy.specs.Machine as out_proxy
use Rattle.rh_client.specs.Client as client
use Rattle.rh_server.specs.Servers as server
use Rattle.rh_wires.specs.Legs as legs
use Rattle.rh_company.specs.Company as company
use Rattle.rh_company.specs.Places as places
use Rattle.law_moves.proofs.Vocabulary.{Dir, WindowExceeded, Cause, Leg, LegKind, ClientOut, OutServer, ClientIn, InServer, Refused, Rules, Shell}
use Rattle.law_role_inproxy.proofs.Vocabulary.{InProxy}
use Rattle.law_role_client.proofs.Vocabulary.{ClientRole, ci, co}
use Rattle.law_role_server.proofs.Vocabulary.{Server}
use Rattle.law_node_history.proofs.Vocabulary.{Who, Event, Comes, Place, Absent, Here, Gone, leg_at, World, Change, IsFed, MayChange, ClosesNode, in_place, out_place}
use Rattle.law_node_history.proofs.Lemmas.{answered}
use Rattle.law_node_causes.specs.Closings.{ClosesWith}
use Rattle.law_role_outproxy.proofs.Vocabulary.{OutProxy}
use Rattle.law_node_traces.proofs.Vocabulary.{rules}
use Rattle.law_world_honest.proofs.Honesty.Closing.{by_fed}
use Rattle.law_world_honest.proofs.Honesty.Fed.{told_what}
use Rattle.law_world_honest.specs.Honesty.Causes.{RowRefuses}
use Rattle.law_world_honest.specs.Honesty.Honest.{IsOfNode}
use Rattle.law_world_windows.proofs.Moment.{comes_of}
use Rattle.law_world_windows.specs.Hops.{is_leg, os_leg}
use Rattle.law_world_windows.specs.Known.{NodesLaws}
use Rattle.law_world_windows.specs.Windowed.{PacketFits, PduFits, RefusesOn}

-- ---- the laws that this stands on

pub record EachRefusesOn : Type 0 where
  pub client : RefusesOn client.rules ClientOut ClientOut
  pub server : RefusesOn server.rules InServer OutServer
  pub ins : RefusesOn in_proxy.rules ClientIn InServer
  pub outs : RefusesOn out_proxy.rules OutServer OutServer

abbrev pub ExceedsForRow : {S : Type 0} → Rules S → Type 0
ExceedsForRow {S} rules =
    (node : Shell S) (event : Event) (leg : Leg) (reached edge : ℕ)
    → ClosesWith rules node event (cause.WindowExceeded leg reached edge)
    → RowRefuses rules leg (refused.Window (record { reached = reached; edge = edge }))

pub record EachExceeds : Type 0 where
  pub client : ExceedsForRow client.rules
  pub server : ExceedsForRow server.rules
  pub ins : ExceedsForRow in_proxy.rules
  pub outs : ExceedsForRow out_proxy.rules

-- ---- what a row refuses is on a leg of its kind

module _ {S : Type 0} (its : Rules S) (windows ranges : LegKind)
    (law : RefusesOn its windows ranges) (leg : Leg) where
  window_on : (exceeded : WindowExceeded) → RowRefuses its leg (refused.Window exceeded)
      → leg.kind ≡ windows
  window_on exceeded (inl packet) =
      absurd (subst (PacketFits ranges leg.kind packet.2) packet.3
      (law.packets packet.0 leg packet.1 packet.2))
  window_on exceeded (inr pdu) =
      subst (PduFits windows leg.kind) pdu.3 (law.pdus pdu.0 leg pdu.1 pdu.2)

  range_on : (command value : ℕ) → RowRefuses its leg (refused.OutOfRange command value)
      → leg.kind ≡ ranges
  range_on command value (inl packet) =
      (subst (PacketFits ranges leg.kind packet.2) packet.3
      (law.packets packet.0 leg packet.1 packet.2)).1
  range_on command value (inr pdu) =
      absurd (subst (PduFits windows leg.kind) pdu.3 (law.pdus pdu.0 leg pdu.1 pdu.2))

-- a row of the node's role refuses so on the leg
abbrev NodeRefuses : Leg → Refused → Who → Type 0
NodeRefuses leg why who.Client = RowRefuses client.rules leg why
NodeRefuses leg why who.Server = RowRefuses server.rules leg why
NodeRefuses leg why (who.In n) = RowRefuses in_proxy.rules leg why
NodeRefuses leg why (who.Out n) = RowRefuses out_proxy.rules leg why

-- ---- what follows at each role's node follows at any

module _ {K : Type 0} (v : World K ClientRole Server InProxy OutProxy) (event : Event)
    (why : Cause) (X : Who → Type 0)
    (at_client : ClosesWith client.rules v.company.client event why → X who.Client)
    (at_server : ClosesWith server.rules v.company.server event why → X who.Server)
    (at_in : (n : ℕ) (s : Shell InProxy) → ClosesWith in_proxy.rules s event why → X (who.In n))
    (at_out : (n : ℕ) (s : Shell OutProxy) → ClosesWith out_proxy.rules s event why
    → X (who.Out n)) where
  in_by : (n : ℕ) (place : Place InProxy)
      → (places.tell in_proxy.rules event place).1 ≡ Some why → X (who.In n)
  in_by n Absent e = absurd cc
  in_by n (Here node up) e = at_in n node e
  in_by n (Gone now) e = absurd cc

  out_by : (n : ℕ) (place : Place OutProxy)
      → (places.tell out_proxy.rules event place).1 ≡ Some why → X (who.Out n)
  out_by n Absent e = absurd cc
  out_by n (Here node up) e = at_out n node e
  out_by n (Gone now) e = absurd cc

  of_node : (node : Who) → (company.tell rules v.company node event).1 ≡ Some why → X node
  of_node who.Client e = at_client e
  of_node who.Server e = at_server e
  of_node (who.In n) e =
      in_by n (in_place v.company n)
      (sym (answered Absent (places.tell in_proxy.rules event) None refl v.company.ins n) ∙ e)
  of_node (who.Out n) e =
      out_by n (out_place v.company n)
      (sym (answered Absent (places.tell out_proxy.rules event) None refl v.company.outs n) ∙ e)

-- ---- a row of the node refuses

module _ {K : Type 0} (v : World K ClientRole Server InProxy OutProxy) (change : Change)
    (node : Who) (leg : Leg) where
  window_refused : EachExceeds → (reached edge : ℕ)
      → ClosesNode rules v change node (cause.WindowExceeded leg reached edge)
      → NodeRefuses leg (refused.Window (record { reached = reached; edge = edge })) node
  window_refused each reached edge is =
      of_node v is.event (cause.WindowExceeded leg reached edge)
      (NodeRefuses leg (refused.Window (record { reached = reached; edge = edge })))
      (each.client v.company.client is.event leg reached edge)
      (each.server v.company.server is.event leg reached edge)
      (λ n s. each.ins s is.event leg reached edge)
      (λ n s. each.outs s is.event leg reached edge) node is.closes

  module _ (command value : ℕ) where
    abbrev why : Cause
    why = cause.OutOfRange leg command value

    -- a piece that closes it so came on that leg
    came_there : NodesLaws → (on : Leg) (piece : List ℕ)
        → (company.tell rules v.company node (Comes on piece)).1 ≡ Some why → leg ≡ on
    came_there each on piece closes =
        of_node v (Comes on piece) why (λ (x : Who). leg ≡ on)
        (λ e. (each.client.amiss v.company.client (Comes on piece) why e).cause)
        (λ e. (each.server.amiss v.company.server (Comes on piece) why e).cause)
        (λ n s e. (each.ins.amiss s (Comes on piece) why e).cause)
        (λ n s e. (each.outs.amiss s (Comes on piece) why e).cause) node closes

    of_node_row : (one : Who) (on : Leg) (dir : Dir) (heard : List ℕ)
        → IsOfNode one on dir heard why → NodeRefuses on (refused.OutOfRange command value) one
    of_node_row who.Client on dir heard is = is
    of_node_row who.Server on dir heard is = is
    of_node_row (who.In n) on dir heard is = is
    of_node_row (who.Out n) on dir heard is = is

    range_refused : NodesLaws → MayChange rules v change
        → ((on : Leg) (dir : Dir) (count : ℕ) → MayChange rules v (IsFed on dir count)
        → ClosesNode rules v (IsFed on dir count) node why
        → (heard : List ℕ) × IsOfNode node on dir heard why)
        → ClosesNode rules v change node why
        → NodeRefuses leg (refused.OutOfRange command value) node
    range_refused each may fed is =
        by_fed v node why (NodeRefuses leg (refused.OutOfRange command value) node)
        (λ on dir count fed_may closes.
        let of_role = fed on dir count fed_may closes in
        let piece = (legs.take_out on dir count v.legs).1 in
        let same = came_there each on piece
        (subst (λ (e : Event). (company.tell rules v.company node e).1 ≡ Some why)
        (sym (told_what _ _ _ _ closes.told)) closes.closes) in
        subst (λ (l : Leg). NodeRefuses l (refused.OutOfRange command value) node) (sym same)
        (of_node_row node on dir of_role.0 of_role.1))
        (comes_of each) change may is (λ S its shell from. from)

-- ---- no node

-- no hop closes a node, on the legs where the rows of its role refuse
pub record NoHop {K : Type 0} (v : World K ClientRole Server InProxy OutProxy) (change : Change)
    : Type 0 where
  pub client_window : (n reached edge : ℕ)
      → ClosesNode rules v change who.Client (cause.WindowExceeded (co n) reached edge) → ⊥
  pub client_range : (n command value : ℕ)
      → ClosesNode rules v change who.Client (cause.OutOfRange (co n) command value) → ⊥
  pub server_window : (n reached edge : ℕ)
      → ClosesNode rules v change who.Server (cause.WindowExceeded (is_leg n) reached edge) → ⊥
  pub server_range : (n command value : ℕ)
      → ClosesNode rules v change who.Server (cause.OutOfRange (os_leg n) command value) → ⊥
  pub in_window : (k n reached edge : ℕ)
      → ClosesNode rules v change (who.In k) (cause.WindowExceeded (ci n) reached edge) → ⊥
  pub in_range : (k n command value : ℕ)
      → ClosesNode rules v change (who.In k) (cause.OutOfRange (is_leg n) command value) → ⊥
  pub out_window : (k n reached edge : ℕ)
      → ClosesNode rules v change (who.Out k) (cause.WindowExceeded (os_leg n) reached edge) → ⊥
  pub out_range : (k n command value : ℕ)
      → ClosesNode rules v change (who.Out k) (cause.OutOfRange (os_leg n) command value) → ⊥

module _ {K : Type 0} (rows : EachRefusesOn) (v : World K ClientRole Server InProxy OutProxy)
    (change : Change) (hop : NoHop v change) where
  -- what no node closes with on a leg of this kind, none does on one that is of it
  at_kind : (leg : Leg) (kind : LegKind) (node : Who) (why : Leg → Cause)
      → (ClosesNode rules v change node (why (leg_at kind leg.number)) → ⊥) → leg.kind ≡ kind
      → ClosesNode rules v change node (why leg) → ⊥
  at_kind leg kind node why never same closes =
      never (subst (λ (k : LegKind). ClosesNode rules v change node (why (leg_at k leg.number)))
      same closes)

  window_never : (leg : Leg) (reached edge : ℕ) (node : Who)
      → NodeRefuses leg (refused.Window (record { reached = reached; edge = edge })) node
      → ClosesNode rules v change node (cause.WindowExceeded leg reached edge) → ⊥
  window_never leg reached edge who.Client row =
      at_kind leg ClientOut who.Client (λ l. cause.WindowExceeded l reached edge)
      (hop.client_window leg.number reached edge)
      (window_on client.rules ClientOut ClientOut rows.client leg _ row)
  window_never leg reached edge who.Server row =
      at_kind leg InServer who.Server (λ l. cause.WindowExceeded l reached edge)
      (hop.server_window leg.number reached edge)
      (window_on server.rules InServer OutServer rows.server leg _ row)
  window_never leg reached edge (who.In k) row =
      at_kind leg ClientIn (who.In k) (λ l. cause.WindowExceeded l reached edge)
      (hop.in_window k leg.number reached edge)
      (window_on in_proxy.rules ClientIn InServer rows.ins leg _ row)
  window_never leg reached edge (who.Out k) row =
      at_kind leg OutServer (who.Out k) (λ l. cause.WindowExceeded l reached edge)
      (hop.out_window k leg.number reached edge)
      (window_on out_proxy.rules OutServer OutServer rows.outs leg _ row)

  range_never : (leg : Leg) (command value : ℕ) (node : Who)
      → NodeRefuses leg (refused.OutOfRange command value) node
      → ClosesNode rules v change node (cause.OutOfRange leg command value) → ⊥
  range_never leg command value who.Client row =
      at_kind leg ClientOut who.Client (λ l. cause.OutOfRange l command value)
      (hop.client_range leg.number command value)
      (range_on client.rules ClientOut ClientOut rows.client leg command value row)
  range_never leg command value who.Server row =
      at_kind leg OutServer who.Server (λ l. cause.OutOfRange l command value)
      (hop.server_range leg.number command value)
      (range_on server.rules InServer OutServer rows.server leg command value row)
  range_never leg command value (who.In k) row =
      at_kind leg InServer (who.In k) (λ l. cause.OutOfRange l command value)
      (hop.in_range k leg.number command value)
      (range_on in_proxy.rules ClientIn InServer rows.ins leg command value row)
  range_never leg command value (who.Out k) row =
      at_kind leg OutServer (who.Out k) (λ l. cause.OutOfRange l command value)
      (hop.out_range k leg.number command value)
      (range_on out_proxy.rules OutServer OutServer rows.outs leg command value row)

  pub no_window : EachExceeds → (node : Who) (leg : Leg) (reached edge : ℕ)
      → ClosesNode rules v change node (cause.WindowExceeded leg reached edge) → ⊥
  no_window each node leg reached edge closes =
      window_never leg reached edge node
      (window_refused v change node leg each reached edge closes) closes

  pub no_range : NodesLaws → MayChange rules v change → (node : Who) (leg : Leg)
      (command value : ℕ)
      → ((on : Leg) (dir : Dir) (count : ℕ) → MayChange rules v (IsFed on dir count)
      → ClosesNode rules v (IsFed on dir count) node (cause.OutOfRange leg command value)
      → (heard : List ℕ) × IsOfNode node on dir heard (cause.OutOfRange leg command value))
      → ClosesNode rules v change node (cause.OutOfRange leg command value) → ⊥
  no_range each may node leg command value fed closes =
      range_never leg command value node
      (range_refused v change node leg command value each may fed closes) closes
