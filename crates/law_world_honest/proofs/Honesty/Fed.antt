-- what is fed to each node closes it for its role alone
use Rattle.rh_text.specs.declared.ends.Side.TheVariants as side
use Rattle.law_order.proofs.Vocabulary.{◌≡◌, ℕ, Bool, List, [], ◌∷◌, ◌++◌, refl, sym, ap, ◌∙◌, subst, Some, None, if◌then◌else◌, Option, append-nil}
use Rattle.rh_record.specs.declared.answer.Who.TheVariants as who
use Rattle.rh_inproxy.specs.Machine as in_proxy
use Rattle.rh_inproxy.specs.State as in_state
use Rattle.rh_outproxy.specs.Machine as out_proxy
use Rattle.rh_client.specs.Client as client
use Rattle.rh_client.specs.State as client_state
use Rattle.rh_server.specs.Servers as server
use Rattle.rh_wires.specs.Legs as legs
use Rattle.rh_company.specs.Company as company
use Rattle.rh_company.specs.Places as places
use Rattle.law_moves.proofs.Vocabulary.{Dir, U, D, Pipe, Cause, Leg, LegKind, ClientOut, OutServer, ClientIn, InServer, Going, Rooms, NearEnd, Acts, Message, Rules, Shell, begun, end_at, EndEvent, after_end_events, after_events, of_leg, Answers, ReadsWell, is_named, is_packet}
use Rattle.law_moves.specs.Moving as moving
use Rattle.law_role_inproxy.proofs.Vocabulary.{InProxy}
use Rattle.law_role_client.proofs.Vocabulary.{ClientRole}
use Rattle.law_role_server.proofs.Vocabulary.{Server}
use Rattle.law_node_history.proofs.Vocabulary.{Who, reader_of, receiver, Event, Comes, Place, Absent, Here, Gone, is_same, Makers, World, at, IsTraced, drawn_on, end_drawn_on, events_of, happened, heard_on, Change, IsFed, ClosesNode, History, IsRun, at_place, in_place, made_by, noted, out_place, to_node, told_to}
use Rattle.law_node_history.proofs.Lemmas.{happened_more, heard_append, answered, same_itself, who_itself as same_who}
use Rattle.law_node_causes.specs.Closings.{ClosesWith}
use Rattle.law_role_outproxy.proofs.Vocabulary.{ROOMS, OutProxy, new_proxy}
use Rattle.law_node_streams.specs.Streams.{EndStream, Seated, Stream}
use Rattle.law_node_traces.proofs.Vocabulary.{AreOurs, deeds, rules}
use Rattle.law_world_order.proofs.Heard.{node_reads, reads_on}
use Rattle.law_world_order.proofs.Vocabulary.{IsFlowing, numbers_of, read_on}
use Rattle.law_world_honest.specs.Honesty.Causes.{AreStrict, IsOfHeard}
use Rattle.law_world_honest.specs.Honesty.Honest.{IsOfNode, well_on}

-- ---- the laws that this stands on

abbrev ClosesForRole : {S : Type 0} → Rules S → Type 0
ClosesForRole {S} rules =
    (well : Answers) (node : Shell S) (leg : Leg) (piece : List ℕ) (why : Cause)
    (pipe : Option Pipe) (came put : List Message) (heard drawn : List ℕ) → AreStrict well
    → ReadsWell well pipe (heard ++ piece)
    → ((end : NearEnd) → node.course ≡ Going → end_at node leg ≡ Some end
    → Seated rules node.role pipe came put heard drawn end)
    → ClosesWith rules node (Comes leg piece) why → IsOfHeard rules leg pipe (heard ++ piece) why

pub record EachCloses : Type 0 where
  pub client : ClosesForRole client.rules
  pub server : ClosesForRole server.rules
  pub ins : ClosesForRole in_proxy.rules
  pub outs : ClosesForRole out_proxy.rules

named_strict : AreStrict is_named
named_strict = record { packets = λ fault. refl; ranges = λ command value. refl }

packet_strict : AreStrict is_packet
packet_strict = record { packets = λ fault. refl; ranges = λ command value. refl }

pub strict_on : (kind : LegKind) (dir : Dir) → AreStrict (well_on kind dir)
strict_on ClientOut D = packet_strict
strict_on ClientIn D = packet_strict
strict_on ClientOut U = named_strict
strict_on ClientIn U = named_strict
strict_on OutServer U = named_strict
strict_on OutServer D = named_strict
strict_on InServer U = named_strict
strict_on InServer D = named_strict

-- ---- what is told to the node

who_in : Who → Option (Who × Event) → Who
who_in other None = other
who_in other (Some told) = told.0

what_in : Event → Option (Who × Event) → Event
what_in other None = other
what_in other (Some told) = told.1

pub told_who : (a b : Who) (x y : Event)
    → ◌≡◌ {A = Option (Who × Event)} (Some (a, x)) (Some (b, y)) → a ≡ b
unfolding who_in
told_who a b x y e = ap (who_in a) e

pub told_what : (a b : Who) (x y : Event)
    → ◌≡◌ {A = Option (Who × Event)} (Some (a, x)) (Some (b, y)) → x ≡ y
unfolding what_in
told_what a b x y e = ap (what_in x) e

piece_told : (one node : Who) (leg : Leg) (piece : List ℕ) → one ≡ node
    → heard_on leg (to_node one node (moving.Hears leg piece)) ≡ piece
piece_told one node leg piece e =
    ap (λ (t : Bool). heard_on leg (if t then moving.Hears leg piece ∷ [] else []))
    (ap (λ (x : Who). is_same x node) e ∙ same_who node)
    ∙ ap (λ (t : Bool). (if t then piece else []) ++ []) (same_itself leg) ∙ append-nil piece

-- ---- what a node heard with a piece that is fed to it

module _ {K : Type 0} (v : World K ClientRole Server InProxy OutProxy) (h : History) (leg : Leg)
    (dir : Dir) (count : ℕ) where
  abbrev fed : Change
  fed = IsFed leg dir count

  abbrev pub fed_piece : List ℕ
  fed_piece = (legs.take_out leg dir count v.legs).1

  abbrev pub hears : List ℕ
  hears = heard_on leg (events_of (noted v h fed) (at v leg (receiver dir)))

  pub hears_is : (node : Who) → at v leg (receiver dir) ≡ node → (before : List moving.Event)
      → events_of (noted v h fed) node ≡ before ++ told_to v fed node
      → hears ≡ heard_on leg before ++ fed_piece
  hears_is node here before is =
      ap (λ (x : Who). heard_on leg (events_of (noted v h fed) x)) here
      ∙ ap (heard_on leg) is ∙ heard_append leg before (told_to v fed node)
      ∙ ap (λ (bytes : List ℕ). heard_on leg before ++ bytes)
      (piece_told (at v leg (receiver dir)) node leg fed_piece here)

-- ---- what closes it

module _ {K : Type 0} (each : EachCloses) (m : Makers K InProxy OutProxy)
    (w v : World K ClientRole Server InProxy OutProxy) (ours : AreOurs m w.company w.cast)
    (h : History) (traced : IsTraced rules m deeds w.company v h)
    (flowing : IsFlowing (numbers_of ours) w v h) (leg : Leg) (dir : Dir) (count : ℕ) where
  abbrev change : Change
  change = IsFed leg dir count

  abbrev piece : List ℕ
  piece = fed_piece v h leg dir count

  -- what the node heard there, with the piece
  abbrev all : List ℕ
  all = hears v h leg dir count

  abbrev well : Answers
  well = well_on leg.kind dir

  abbrev pipe : Option Pipe
  pipe = read_on leg.kind dir

  abbrev Told : Who → Type 0
  Told node = at v leg (receiver dir) ≡ node

  module _ (reads : ReadsWell well pipe all) (why : Cause) where
    -- a node of any role that the piece closes, by its events before
    closes_for : {S : Type 0} (its : Rules S) → ClosesForRole its → (node : Who) → Told node
        → (now : Shell S) (before : List moving.Event) (came put : List Message) (drawn : List ℕ)
        → events_of (noted v h change) node ≡ before ++ told_to v change node
        → ((end : NearEnd) → now.course ≡ Going → end_at now leg ≡ Some end
        → Seated its now.role (node_reads ours node leg) came put (heard_on leg before) drawn end)
        → ClosesWith its now (Comes leg piece) why → IsOfHeard its leg pipe all why
    closes_for its closes_as node here now before came put drawn noted_is seats closes =
        let same : pipe ≡ node_reads ours node leg =
        reads_on ours (reader_of v.readers leg.number) leg.number leg.kind dir
        ∙ ap (λ (x : Who). node_reads ours x leg) here in
        let behind = hears_is v h leg dir count node here before noted_is in
        subst (λ (bytes : List ℕ). IsOfHeard its leg pipe bytes why) (sym behind)
        (closes_as well now leg piece why pipe came put (heard_on leg before) drawn
        (strict_on leg.kind dir) (subst (ReadsWell well pipe) behind reads) (λ end going sits.
        subst (λ (p : Option Pipe).
        Seated its now.role p came put (heard_on leg before) drawn end) (sym same)
        (seats end going sits)) closes)

    -- an end with its stream
    end_closes : {S : Type 0} (its : Rules S) (acts : Acts S) → ClosesForRole its → (node : Who)
        → Told node → (start : S) (rooms : Rooms) (made now : Shell S) (before : List EndEvent)
        → EndStream its acts start rooms (node_reads ours node) before → made ≡ begun start rooms
        → now ≡ after_end_events its acts made before
        → events_of (noted v h change) node ≡ happened before ++ told_to v change node
        → ClosesWith its now (Comes leg piece) why → IsOfHeard its leg pipe all why
    end_closes {S} its acts closes_as node here start rooms made now before f is run noted_is
        closes =
        closes_for its closes_as node here (after_end_events its acts (begun start rooms) before)
        (happened before) (of_leg leg f.passage.passage.came) (of_leg leg f.passage.passage.put)
        (end_drawn_on its acts (begun start rooms) leg before) noted_is (f.seats leg)
        (subst (λ (s : Shell S). ClosesWith its s (Comes leg piece) why)
        (run ∙ ap (λ (s : Shell S). after_end_events its acts s before) is) closes)

    -- a proxy with its stream
    proxy_closes : {S : Type 0} (its : Rules S) → ClosesForRole its → (node : Who) → Told node
        → (start : S) (rooms : Rooms) (made : Shell S) (before : List moving.Event)
        → Stream its start rooms (node_reads ours node) before → made ≡ begun start rooms
        → (place : Place S)
        → events_of (noted v h change) node
        ≡ before ++ at_place place (told_to v change node) (made_by v change node)
        → (places.tell its (Comes leg piece) place).1 ≡ Some why → IsRun its made before place
        → IsOfHeard its leg pipe all why
    proxy_closes its closes_as node here start rooms made before f is Absent noted_is closes run =
        absurd cc
    proxy_closes its closes_as node here start rooms made before f is (Gone now) noted_is closes
        run =
        absurd cc
    proxy_closes {S} its closes_as node here start rooms made before f is (Here now n) noted_is
        closes run =
        closes_for its closes_as node here (after_events its (begun start rooms) before) before
        (of_leg leg f.passage.came) (of_leg leg f.passage.put)
        (drawn_on its (begun start rooms) leg before) noted_is (f.seats leg)
        (subst (λ (s : Shell S). ClosesWith its s (Comes leg piece) why)
        (run ∙ ap (λ (s : Shell S). after_events its s before) is) closes)

    -- ---- any node

    node_closes : (node : Who) → Told node
        → (company.tell rules v.company node (Comes leg piece)).1 ≡ Some why
        → IsOfNode node leg dir all why
    node_closes who.Client here closes =
        end_closes client.rules client.acts each.client who.Client here
        (client_state.first ours.config) client.rooms w.company.client v.company.client h.client
        flowing.flows.client ours.client traced.runs.client
        (happened_more rules.client deeds.client w.company.client v.company.client h.client
        (told_to v change who.Client) change side.Client traced.runs.client) closes
    node_closes who.Server here closes =
        end_closes server.rules server.acts each.server who.Server here
        (server.first ours.window) server.rooms w.company.server v.company.server h.server
        flowing.flows.server ours.server traced.runs.server
        (happened_more rules.server deeds.server w.company.server v.company.server h.server
        (told_to v change who.Server) change side.Server traced.runs.server) closes
    node_closes (who.In n) here closes =
        proxy_closes in_proxy.rules each.ins (who.In n) here (in_state.first (ours.in_config n))
        in_proxy.rooms (m.in_proxy v.cast n) (h.ins n) (flowing.flows.ins n)
        (ap (λ (c : K). m.in_proxy c n) flowing.cast ∙ ours.ins n) (in_place v.company n) refl
        (sym (answered Absent (places.tell in_proxy.rules (Comes leg piece)) None refl
        v.company.ins n) ∙ closes) (traced.runs.ins n)
    node_closes (who.Out n) here closes =
        proxy_closes out_proxy.rules each.outs (who.Out n) here (new_proxy (ours.out_config n))
        ROOMS (m.out_proxy v.cast n) (h.outs n) (flowing.flows.outs n)
        (ap (λ (c : K). m.out_proxy c n) flowing.cast ∙ ours.outs n) (out_place v.company n) refl
        (sym (answered Absent (places.tell out_proxy.rules (Comes leg piece)) None refl
        v.company.outs n) ∙ closes) (traced.runs.outs n)

    pub fed_closes : (node : Who) → ClosesNode rules v change node why
        → IsOfNode node leg dir all why
    fed_closes node is =
        let here : at v leg (receiver dir) ≡ node = told_who _ _ _ _ is.told in
        let event : Comes leg piece ≡ is.event = told_what _ _ _ _ is.told in
        node_closes node here
        (subst (λ (e : Event). (company.tell rules v.company node e).1 ≡ Some why) (sym event)
        is.closes)
