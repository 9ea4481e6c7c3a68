-- whatever a change of a world is, it closes no node since what came was not to come there, as far
-- as its role expects what comes at each moment
use Rattle.law_order.proofs.Vocabulary.{◌≡◌, ◌≤◌, ℕ, zero, suc, List, arith, refl, sym, ◌∙◌, subst, Some, None}
use Rattle.rh_line.specs.declared.cause.Cause.TheVariants as cause
use Rattle.rh_record.specs.declared.answer.Who.TheVariants as who
use Rattle.rh_shell.specs.declared.answers.Refused.TheVariants as refused
use Rattle.rh_inproxy.specs.Machine as in_proxy
use Rattle.rh_outproxy.specs.Machine as out_proxy
use Rattle.rh_client.specs.Client as client
use Rattle.rh_server.specs.Servers as server
use Rattle.rh_wires.specs.Legs as legs
use Rattle.rh_company.specs.Company as company
use Rattle.rh_company.specs.Places as places
use Rattle.law_moves.proofs.Vocabulary.{Dir, U, D, CiU, IsU, IsD, CoU, OsU, OsD, Cause, Leg, LegKind, ClientOut, OutServer, ClientIn, InServer, Refused, Rules, Shell, EndPassage, Passage, of_leg, all_read_of}
use Rattle.law_role_inproxy.proofs.Vocabulary.{InProxy}
use Rattle.law_role_client.proofs.Vocabulary.{ClientRole, ci, co}
use Rattle.law_role_server.proofs.Vocabulary.{Server}
use Rattle.law_node_history.proofs.Vocabulary.{Who, reader_of, receiver, Event, Comes, Place, Absent, Here, Gone, Makers, leg_at, World, at, Change, IsFed, MayChange, ClosesNode, in_place, out_place, IsNew}
use Rattle.law_node_history.proofs.Lemmas.{answered}
use Rattle.law_node_causes.specs.Closings.{ClosesWith}
use Rattle.law_node_causes.specs.Reasons.{ComesAmiss}
use Rattle.law_role_outproxy.proofs.Vocabulary.{OutProxy}
use Rattle.law_peers_moments.specs.Expecting.{Expects, HasNoPingFirst, IsAmiss}
use Rattle.law_peers_moments.specs.Moments.{Moves, Numbers, in_behind, out_behind, server_behind}
use Rattle.law_node_traces.proofs.Vocabulary.{ByChanges, AreOurs, deeds, rules, history_at}
use Rattle.law_world_order.proofs.Legs.{Reads}
use Rattle.law_world_order.proofs.Vocabulary.{IsFlowing, numbers_of, AreInRange, moves_of, numbers}
use Rattle.law_world_honest.proofs.Honesty.Closing.{IsOfPiece, by_fed}
use Rattle.law_world_honest.proofs.Honesty.Fed.{told_what, told_who}
use Rattle.law_world_honest.specs.Honesty.Honest.{well_on}
use Rattle.law_world_windows.proofs.Moment.{comes_of, well_behind}
use Rattle.law_world_windows.proofs.Closing.{in_number, out_number}
use Rattle.law_world_windows.specs.Known.{Laws, NodesLaws, Readings}
use Rattle.law_world_windows.specs.Hops.{is_leg, os_leg}
use Rattle.law_world_expected.proofs.Amiss.AtNodes.{in_next, out_next, server_next}
use Rattle.law_world_expected.proofs.Amiss.Moments.{AllFlow, OfStreams, flowing, flows, story, world}
use Rattle.law_world_expected.proofs.Amiss.Next.{never_amiss}
use Rattle.law_world_expected.proofs.Facts.{IsKept}
use Rattle.law_world_expected.specs.Amiss.{amiss_by}
use Rattle.law_world_expected.specs.Known.{RolesKnow}
use Rattle.law_world_expected.specs.Roles.{Facts, InExpectsClient, InExpectsServer, NeverCloses, OutExpectsClient, OutExpectsServer, Premise, RefusesNone, ServerExpectsIn, ServerExpectsOut, WorldsExpect}

-- ---- a moment

-- that holds of the moves by which the streams of a world lead, where this is said of the world
abbrev pub AtMoment : {K : Type 0} {m : Makers K InProxy OutProxy}
    {w : World K ClientRole Server InProxy OutProxy} → Premise K → Facts
    → (ours : AreOurs m w.company w.cast) → OfStreams (numbers_of ours) w
AtMoment {K} {m} {w} Fits Holds ours u h f =
    Fits m w u h → Holds (reader_of u.readers) (moves_of f)

-- so it is at each moment of a world of which it is said
pub flow_of : {K : Type 0} (Fits : Premise K) (Holds : Numbers → Facts) → WorldsExpect K Fits Holds
    → (m : Makers K InProxy OutProxy) (w : World K ClientRole Server InProxy OutProxy) → IsNew w
    → (ours : AreOurs m w.company w.cast) → AreInRange (numbers_of ours)
    → AllFlow m w ours (AtMoment Fits (Holds (numbers ours)) ours)
flow_of Fits Holds expect m w new ours ranges u by =
    let here = expect m w new ours ranges u by in
    record { flows = here.flowing; holds = here.expects }

-- a piece on another leg closes no node with a cause that names this one
abbrev pub NamesLeg : Leg → Cause → Type 1
NamesLeg l why =
    (S : Type 0) (its : Rules S) (node : Shell S) (leg : Leg) (piece : List ℕ)
    → ComesAmiss its node leg piece why → l ≡ leg

-- with neither cause, where so with each that names the leg
pub refuses_none : {K : Type 0} (v : World K ClientRole Server InProxy OutProxy) (node : Who)
    (l : Leg)
    → ((why : Cause) (r : Refused) → amiss_by why ≡ Some r → IsAmiss r
    → ((event : Event) → IsOfPiece event why) → NamesLeg l why → NeverCloses v node why)
    → RefusesNone v node l
refuses_none v node l never = (
  λ place. never (cause.Unexpected l place) refused.Unexpected refl tt
      (λ event S its shell comes. comes) (λ S its shell leg piece amiss. amiss.cause),
  λ expected got. never (cause.CookieMismatch l expected got) (refused.Cookie expected got) refl tt
      (λ event S its shell comes. comes) (λ S its shell leg piece amiss. amiss.cause),
)

module _ {K : Type 0} (roles : RolesKnow) (nodes : NodesLaws) (reads : Reads) (readings : Readings)
    (m : Makers K InProxy OutProxy) (w : World K ClientRole Server InProxy OutProxy)
    (ours : AreOurs m w.company w.cast) (law : Laws m w ours)
    (Fits : Premise K) (keeps : IsKept m w Fits) (Holds : Facts)
    (flow : AllFlow m w ours (AtMoment Fits Holds ours))
    (v : World K ClientRole Server InProxy OutProxy) (by : ByChanges rules m deeds w v)
    (fits : Fits m w v (history_at m w v by.leads)) where
  abbrev May : Leg → Dir → Type 0
  May leg dir = MayChange rules v (IsFed leg dir 0)

  abbrev event : Leg → Dir → ℕ → Event
  event leg dir count = Comes leg (legs.take_out leg dir count v.legs).1

  -- ---- the moment before the byte

  module _ (leg : Leg) (dir : Dir) (may : May leg dir) (count : ℕ) where
    abbrev then_flows : IsFlowing (numbers_of ours) w
        (world reads readings m w v ours law (AtMoment Fits Holds ours) flow by leg dir (λ k. may)
        count)
        (story reads readings m w v ours law (AtMoment Fits Holds ours) flow by leg dir (λ k. may)
        count)
    then_flows =
        flows reads readings m w v ours law (AtMoment Fits Holds ours) flow by leg dir (λ k. may)
        count

    moment : Holds (reader_of v.readers) (moves_of then_flows)
    moment =
        (flowing reads readings m w v ours law (AtMoment Fits Holds ours) flow by leg dir (λ k. may)
        count).holds (keeps v by leg dir count may fits)

  -- that holds there too
  abbrev pub Gives : (Numbers → Facts) → Type 0
  Gives More =
      (reader : ℕ → ℕ) (moves : Moves) → Holds reader moves → More (numbers ours) reader moves

  -- there is no in proxy 0
  from_one : (k : ℕ) (node : Shell InProxy) (up : ℕ) → in_place v.company k ≡ Here node up → 1 ≤ k
  from_one zero node up there =
      absurd (let bad : Absent ≡ Here node up =
      sym (law.known v by.leads).traced.zero ∙ there in cc)
  from_one (suc k) node up there = omega arith

  -- ---- what is told to a node

  module _ (why : Cause) (r : Refused) (tells : amiss_by why ≡ Some r) (amiss : IsAmiss r)
      (of_piece : (event : Event) → IsOfPiece event why) where
    -- a node that the piece is told to closes so
    abbrev Fed : Who → Type 0
    Fed node =
        (leg : Leg) (dir : Dir) (count : ℕ) → May leg dir → at v leg (receiver dir) ≡ node
        → (company.tell rules v.company node (event leg dir count)).1 ≡ Some why → ⊥

    fed : (node : Who) → Fed node → (leg : Leg) (dir : Dir) (count : ℕ)
        → MayChange rules v (IsFed leg dir count)
        → ClosesNode rules v (IsFed leg dir count) node why → ⊥
    fed node never leg dir count may is =
        never leg dir count may (told_who _ _ _ _ is.told)
        (subst (λ (e : Event). (company.tell rules v.company node e).1 ≡ Some why)
        (sym (told_what _ _ _ _ is.told)) is.closes)

    any : (node : Who) → Fed node → (change : Change) → MayChange rules v change
        → ClosesNode rules v change node why → ⊥
    any node never change may is =
        by_fed v node why ⊥ (fed node never) (comes_of nodes) change may is (of_piece is.event)

    -- ---- an in proxy

    module _ (k : ℕ) where
      abbrev InAt : Leg → Type 0
      InAt leg =
          (dir : Dir) (count : ℕ) (node : Shell InProxy) (up : ℕ)
          → in_place v.company k ≡ Here node up → May leg dir
          → at v leg (receiver dir) ≡ who.In k
          → ClosesWith in_proxy.rules node (event leg dir count) why → ⊥

      in_at_client : Gives InExpectsClient → (n : ℕ) → InAt (ci n)
      in_at_client expects n D count node up there may here closes = absurd cc
      in_at_client expects n U count node up there may here closes =
          let next = in_next roles reads readings m w v ours law (AtMoment Fits Holds ours) flow by
          (ci n) U (λ j. may) r (well_on ClientIn U) (λ e. refl)
          (well_behind m w v ours law by (ci n) U (λ j. may)) why tells
          count (who.In k) here nodes.ins k refl
          node up there closes in
          let flowed = then_flows (ci n) U may next.0 in
          let moves : Moves = moves_of flowed in
          let now = moment (ci n) U may next.0 in
          let put = of_leg (ci n) flowed.flows.client.passage.passage.put in
          never_amiss in_proxy.rules (flowed.flows.ins k).passage (ci n) (Some CiU) put r amiss
          (subst (λ (p : Passage InProxy). Expects in_proxy.rules p (ci n) (all_read_of put))
          (flowed.flows.ins k).leads.reached
          (subst (λ (p : EndPassage ClientRole).
          Expects in_proxy.rules (in_behind (numbers ours) moves k) (ci n)
          (all_read_of (of_leg (ci n) p.passage.put))) flowed.flows.client.leads.reached
          ((expects (reader_of v.readers) moves now).next k n
          (in_number (reader_of v.readers n) k here) (from_one k node up there)))) (λ upward.
          subst (λ (p : EndPassage ClientRole). HasNoPingFirst (of_leg (ci n) p.passage.put))
          flowed.flows.client.leads.reached
          ((expects (reader_of v.readers) moves now).first n)) next.1

      in_at_server : Gives InExpectsServer → (n : ℕ) → InAt (is_leg n)
      in_at_server expects n U count node up there may here closes = absurd cc
      in_at_server expects n D count node up there may here closes =
          let next = in_next roles reads readings m w v ours law (AtMoment Fits Holds ours) flow by
          (is_leg n) D (λ j. may) r (well_on InServer D) (λ e. refl)
          (well_behind m w v ours law by (is_leg n) D (λ j. may)) why tells
          count (who.In k) here nodes.ins
          k refl node up there closes in
          let flowed = then_flows (is_leg n) D may next.0 in
          let moves : Moves = moves_of flowed in
          let now = moment (is_leg n) D may next.0 in
          let put = of_leg (is_leg n) flowed.flows.server.passage.passage.put in
          never_amiss in_proxy.rules (flowed.flows.ins k).passage (is_leg n) (Some IsD) put r amiss
          (subst (λ (j : ℕ). Expects in_proxy.rules (flowed.flows.ins j).passage (is_leg n)
          (all_read_of put)) (in_number n k here)
          (subst (λ (p : Passage InProxy). Expects in_proxy.rules p (is_leg n) (all_read_of put))
          (flowed.flows.ins n).leads.reached
          (subst (λ (p : EndPassage Server).
          Expects in_proxy.rules (in_behind (numbers ours) moves n) (is_leg n)
          (all_read_of (of_leg (is_leg n) p.passage.put))) flowed.flows.server.leads.reached
          ((expects (reader_of v.readers) moves now).next n)))) (λ upward. absurd cc) next.1

      in_there : ((leg : Leg) (dir : Dir) (count : ℕ) (node : Shell InProxy) (up : ℕ)
          → in_place v.company k ≡ Here node up → May leg dir
          → at v leg (receiver dir) ≡ who.In k
          → ClosesWith in_proxy.rules node (event leg dir count) why → ⊥) → Fed (who.In k)
      in_there never leg dir count may here closes =
          per (in_place v.company k) refl
          (sym (answered Absent (places.tell in_proxy.rules (event leg dir count)) None refl
          v.company.ins k) ∙ closes)
        where
          per : (place : Place InProxy) → in_place v.company k ≡ place
              → (places.tell in_proxy.rules (event leg dir count) place).1 ≡ Some why → ⊥
          per Absent there closes = absurd cc
          per (Gone now) there closes = absurd cc
          per (Here node up) there closes = never leg dir count node up there may here closes

      pub no_in_amiss : Gives InExpectsClient → Gives InExpectsServer
          → (change : Change) → MayChange rules v change → ClosesNode rules v change (who.In k) why
          → ⊥
      no_in_amiss client_expects server_expects =
          any (who.In k) (in_there (λ leg. per leg.kind leg.number))
        where
          per : (kind : LegKind) (n : ℕ) → InAt (leg_at kind n)
          per ClientIn n dir count node up there may here closes =
              in_at_client client_expects n dir count node up there may here
              closes
          per InServer n dir count node up there may here closes =
              in_at_server server_expects n dir count node up there may here
              closes
          per ClientOut n U count node up there may here closes = absurd cc
          per ClientOut n D count node up there may here closes = absurd cc
          per OutServer n U count node up there may here closes = absurd cc
          per OutServer n D count node up there may here closes = absurd cc

      -- ---- an out proxy

      abbrev OutAt : Leg → Type 0
      OutAt leg =
          (dir : Dir) (count : ℕ) (node : Shell OutProxy) (up : ℕ)
          → out_place v.company k ≡ Here node up → May leg dir
          → at v leg (receiver dir) ≡ who.Out k
          → ClosesWith out_proxy.rules node (event leg dir count) why → ⊥

      out_at_client : Gives OutExpectsClient → (n : ℕ) → OutAt (co n)
      out_at_client expects n D count node up there may here closes = absurd cc
      out_at_client expects n U count node up there may here closes =
          let next = out_next roles reads readings m w v ours law (AtMoment Fits Holds ours) flow by
          (co n) U (λ j. may) r (well_on ClientOut U) (λ e. refl)
          (well_behind m w v ours law by (co n) U (λ j. may)) why tells
          count (who.Out k) here nodes.outs k
          refl node up there closes in
          let flowed = then_flows (co n) U may next.0 in
          let moves : Moves = moves_of flowed in
          let now = moment (co n) U may next.0 in
          let put = of_leg (co n) flowed.flows.client.passage.passage.put in
          never_amiss out_proxy.rules (flowed.flows.outs k).passage (co n) (Some CoU) put r amiss
          (subst (λ (j : ℕ). Expects out_proxy.rules (flowed.flows.outs j).passage (co n)
          (all_read_of put)) (out_number n k here)
          (subst (λ (p : Passage OutProxy). Expects out_proxy.rules p (co n) (all_read_of put))
          (flowed.flows.outs n).leads.reached
          (subst (λ (p : EndPassage ClientRole).
          Expects out_proxy.rules (out_behind (numbers ours) moves n) (co n)
          (all_read_of (of_leg (co n) p.passage.put))) flowed.flows.client.leads.reached
          ((expects (reader_of v.readers) moves now).next n)))) (λ upward.
          subst (λ (p : EndPassage ClientRole). HasNoPingFirst (of_leg (co n) p.passage.put))
          flowed.flows.client.leads.reached
          ((expects (reader_of v.readers) moves now).first n)) next.1

      out_at_server : Gives OutExpectsServer → (n : ℕ) → OutAt (os_leg n)
      out_at_server expects n U count node up there may here closes = absurd cc
      out_at_server expects n D count node up there may here closes =
          let next = out_next roles reads readings m w v ours law (AtMoment Fits Holds ours) flow by
          (os_leg n) D (λ j. may) r (well_on OutServer D) (λ e. refl)
          (well_behind m w v ours law by (os_leg n) D (λ j. may)) why tells
          count (who.Out k) here nodes.outs
          k refl node up there closes in
          let flowed = then_flows (os_leg n) D may next.0 in
          let moves : Moves = moves_of flowed in
          let now = moment (os_leg n) D may next.0 in
          let put = of_leg (os_leg n) flowed.flows.server.passage.passage.put in
          never_amiss out_proxy.rules (flowed.flows.outs k).passage (os_leg n) (Some OsD) put
          r amiss
          (subst (λ (j : ℕ). Expects out_proxy.rules (flowed.flows.outs j).passage (os_leg n)
          (all_read_of put)) (out_number n k here)
          (subst (λ (p : Passage OutProxy). Expects out_proxy.rules p (os_leg n) (all_read_of put))
          (flowed.flows.outs n).leads.reached
          (subst (λ (p : EndPassage Server).
          Expects out_proxy.rules (out_behind (numbers ours) moves n) (os_leg n)
          (all_read_of (of_leg (os_leg n) p.passage.put))) flowed.flows.server.leads.reached
          ((expects (reader_of v.readers) moves now).next n)))) (λ upward. absurd cc) next.1

      out_there : ((leg : Leg) (dir : Dir) (count : ℕ) (node : Shell OutProxy) (up : ℕ)
          → out_place v.company k ≡ Here node up → May leg dir
          → at v leg (receiver dir) ≡ who.Out k
          → ClosesWith out_proxy.rules node (event leg dir count) why → ⊥) → Fed (who.Out k)
      out_there never leg dir count may here closes =
          per (out_place v.company k) refl
          (sym (answered Absent (places.tell out_proxy.rules (event leg dir count)) None refl
          v.company.outs k) ∙ closes)
        where
          per : (place : Place OutProxy) → out_place v.company k ≡ place
              → (places.tell out_proxy.rules (event leg dir count) place).1 ≡ Some why → ⊥
          per Absent there closes = absurd cc
          per (Gone now) there closes = absurd cc
          per (Here node up) there closes = never leg dir count node up there may here closes

      -- on the one leg that the cause names
      out_on : (l : Leg) → NamesLeg l why → OutAt l → Fed (who.Out k)
      out_on l names never =
          out_there (λ leg dir count node up there may here closes.
          subst OutAt
          (names OutProxy out_proxy.rules node leg (legs.take_out leg dir count v.legs).1
          (nodes.outs.amiss node (event leg dir count) why closes)) never dir count node up there
          may here closes)

      pub no_out_amiss_of_client : Gives OutExpectsClient → (n : ℕ) → NamesLeg (co n) why
          → (change : Change) → MayChange rules v change
          → ClosesNode rules v change (who.Out k) why → ⊥
      no_out_amiss_of_client expects n names =
          any (who.Out k) (out_on (co n) names (out_at_client expects n))

      pub no_out_amiss_of_server : Gives OutExpectsServer → (n : ℕ)
          → NamesLeg (os_leg n) why → (change : Change) → MayChange rules v change
          → ClosesNode rules v change (who.Out k) why → ⊥
      no_out_amiss_of_server expects n names =
          any (who.Out k) (out_on (os_leg n) names (out_at_server expects n))

    -- ---- the server

    abbrev ServerAt : Leg → Type 0
    ServerAt leg =
        (dir : Dir) (count : ℕ) → May leg dir → at v leg (receiver dir) ≡ who.Server
        → ClosesWith server.rules v.company.server (event leg dir count) why → ⊥

    server_at_in : Gives ServerExpectsIn
        → (n : ℕ) → ServerAt (is_leg n)
    server_at_in expects n D count may here closes = absurd cc
    server_at_in expects n U count may here closes =
        let next = server_next roles reads readings m w v ours law (AtMoment Fits Holds ours) flow
        by (is_leg n) U (λ j. may) r (well_on InServer U) (λ e. refl)
        (well_behind m w v ours law by (is_leg n) U (λ j. may)) why tells
        count who.Server here nodes.server
        refl closes in
        let flowed = then_flows (is_leg n) U may next.0 in
        let moves : Moves = moves_of flowed in
        let now = moment (is_leg n) U may next.0 in
        let put = of_leg (is_leg n) (flowed.flows.ins n).passage.put in
        never_amiss server.rules flowed.flows.server.passage.passage (is_leg n) (Some IsU) put
        r amiss
        (subst (λ (p : EndPassage Server).
        Expects server.rules p.passage (is_leg n) (all_read_of put))
        flowed.flows.server.leads.reached
        (subst (λ (p : Passage InProxy).
        Expects server.rules (server_behind (numbers ours) moves).passage (is_leg n)
        (all_read_of (of_leg (is_leg n) p.put))) (flowed.flows.ins n).leads.reached
        ((expects (reader_of v.readers) moves now).next n))) (λ upward.
        subst (λ (p : Passage InProxy). HasNoPingFirst (of_leg (is_leg n) p.put))
        (flowed.flows.ins n).leads.reached
        ((expects (reader_of v.readers) moves now).first n)) next.1

    server_at_out : Gives ServerExpectsOut → (n : ℕ) → ServerAt (os_leg n)
    server_at_out expects n D count may here closes = absurd cc
    server_at_out expects n U count may here closes =
        let next = server_next roles reads readings m w v ours law (AtMoment Fits Holds ours) flow
        by (os_leg n) U (λ j. may) r (well_on OutServer U) (λ e. refl)
        (well_behind m w v ours law by (os_leg n) U (λ j. may)) why tells
        count who.Server here nodes.server
        refl closes in
        let flowed = then_flows (os_leg n) U may next.0 in
        let moves : Moves = moves_of flowed in
        let now = moment (os_leg n) U may next.0 in
        let put = of_leg (os_leg n) (flowed.flows.outs n).passage.put in
        never_amiss server.rules flowed.flows.server.passage.passage (os_leg n) (Some OsU) put
        r amiss
        (subst (λ (p : EndPassage Server).
        Expects server.rules p.passage (os_leg n) (all_read_of put))
        flowed.flows.server.leads.reached
        (subst (λ (p : Passage OutProxy).
        Expects server.rules (server_behind (numbers ours) moves).passage (os_leg n)
        (all_read_of (of_leg (os_leg n) p.put))) (flowed.flows.outs n).leads.reached
        ((expects (reader_of v.readers) moves now).next n))) (λ upward.
        subst (λ (p : Passage OutProxy). HasNoPingFirst (of_leg (os_leg n) p.put))
        (flowed.flows.outs n).leads.reached
        ((expects (reader_of v.readers) moves now).first n)) next.1

    server_on : (l : Leg) → NamesLeg l why → ServerAt l → Fed who.Server
    server_on l names never leg dir count may here closes =
        subst ServerAt
        (names Server server.rules v.company.server leg (legs.take_out leg dir count v.legs).1
        (nodes.server.amiss v.company.server (event leg dir count) why closes)) never dir count
        may here closes

    pub no_server_amiss_of_in : Gives ServerExpectsIn → (n : ℕ) → NamesLeg (is_leg n) why
        → (change : Change) → MayChange rules v change → ClosesNode rules v change who.Server why
        → ⊥
    no_server_amiss_of_in expects n names =
        any who.Server (server_on (is_leg n) names (server_at_in expects n))

    pub no_server_amiss_of_out : Gives ServerExpectsOut → (n : ℕ) → NamesLeg (os_leg n) why
        → (change : Change) → MayChange rules v change → ClosesNode rules v change who.Server why
        → ⊥
    no_server_amiss_of_out expects n names =
        any who.Server (server_on (os_leg n) names (server_at_out expects n))
