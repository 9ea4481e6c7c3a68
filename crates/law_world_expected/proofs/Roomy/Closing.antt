-- whatever a change of a world is, it closes no node for a full leg, as far as its role has room
-- for what comes at each moment
use Rattle.law_order.proofs.Vocabulary.{◌≡◌, ◌≤◌, ℕ, zero, suc, arith, refl, sym, ◌∙◌, subst, Some}
use Rattle.rh_line.specs.declared.cause.Cause.TheVariants as cause
use Rattle.rh_record.specs.declared.answer.Who.TheVariants as who
use Rattle.rh_shell.specs.declared.answers.Refused.TheVariants as refused
use Rattle.rh_inproxy.specs.Machine as in_proxy
use Rattle.rh_outproxy.specs.Machine as out_proxy
use Rattle.rh_client.specs.Client as client
use Rattle.rh_server.specs.Servers as server
use Rattle.law_moves.proofs.Vocabulary.{Dir, U, D, CiU, IsU, IsD, CoU, OsU, OsD, Cause, Leg, LegKind, ClientOut, OutServer, ClientIn, InServer, Refused, Shell, EndPassage, Passage, of_leg, all_read_of}
use Rattle.law_role_inproxy.proofs.Vocabulary.{InProxy}
use Rattle.law_role_client.proofs.Vocabulary.{ClientRole, ci}
use Rattle.law_role_server.proofs.Vocabulary.{Server}
use Rattle.law_node_history.proofs.Vocabulary.{reader_of, receiver, Absent, Here, Makers, leg_at, World, at, Change, IsFed, MayChange, ClosesNode, in_place}
use Rattle.law_role_outproxy.proofs.Vocabulary.{OutProxy}
use Rattle.law_peers_moments.specs.Moments.{Moves, Numbers, in_behind, out_behind, server_behind}
use Rattle.law_node_traces.proofs.Vocabulary.{ByChanges, AreOurs, deeds, rules, history_at}
use Rattle.law_world_order.proofs.Legs.{Reads}
use Rattle.law_world_order.proofs.Vocabulary.{IsFlowing, numbers_of, read_on, moves_of, numbers}
use Rattle.law_world_honest.specs.Honesty.Honest.{well_on}
use Rattle.law_world_windows.proofs.Closing.{in_number, out_number}
use Rattle.law_world_windows.specs.Known.{Laws, NodesLaws, Readings}
use Rattle.law_world_windows.specs.Hops.{is_leg, os_leg}
use Rattle.law_world_expected.proofs.Amiss.AtNodes.{passages_then, put_then}
use Rattle.law_world_expected.proofs.Amiss.Bytes.{HaveNames}
use Rattle.law_world_expected.proofs.Amiss.Closing.{client_closes, in_closes, out_closes, server_closes}
use Rattle.law_world_expected.proofs.Amiss.Moments.{AllFlow, flowing, flows, story, world}
use Rattle.law_world_expected.proofs.Closing.{AtMoment}
use Rattle.law_world_expected.proofs.Facts.{IsKept}
use Rattle.law_world_expected.proofs.Roomy.Full.{never_full}
use Rattle.law_world_expected.proofs.Roomy.Rows.{client_packets, client_pdus, in_packets, in_pdus, out_packets, out_pdus, server_packets, server_pdus}
use Rattle.law_world_expected.specs.Amiss.{AmissNext}
use Rattle.law_world_expected.specs.Known.{ClientKnows, RolesKnow}
use Rattle.law_world_expected.specs.Roles.{Facts, Premise}
use Rattle.law_world_expected.specs.Roomy.{InHasRoom, NextFindsRoom, OutHasRoom, ServerHasRoom}

-- a full leg is no packet without a name
names : (full : Leg) (leg : Leg) (dir : Dir)
    → HaveNames (well_on leg.kind dir) (refused.Full full)
names full leg dir e = absurd cc

module _ {K : Type 0} (roles : RolesKnow) (each : NodesLaws) (reads : Reads) (readings : Readings)
    (m : Makers K InProxy OutProxy) (w : World K ClientRole Server InProxy OutProxy)
    (ours : AreOurs m w.company w.cast) (law : Laws m w ours)
    (Fits : Premise K) (keeps : IsKept m w Fits) (Holds : Facts)
    (flow : AllFlow m w ours (AtMoment Fits Holds ours))
    (v : World K ClientRole Server InProxy OutProxy) (by : ByChanges rules m deeds w v)
    (fits : Fits m w v (history_at m w v by.leads)) (full : Leg) where
  abbrev why : Cause
  why = cause.ControlFull full

  abbrev r : Refused
  r = refused.Full full

  abbrev May : Leg → Dir → Type 0
  May leg dir = (count : ℕ) → MayChange rules v (IsFed leg dir count)

  -- ---- the moment before the byte

  module _ (leg : Leg) (dir : Dir) (may : May leg dir) (count : ℕ) where
    abbrev then_flows : IsFlowing (numbers_of ours) w
        (world reads readings m w v ours law (AtMoment Fits Holds ours) flow by leg dir may count)
        (story reads readings m w v ours law (AtMoment Fits Holds ours) flow by leg dir may count)
    then_flows =
        flows reads readings m w v ours law (AtMoment Fits Holds ours) flow by leg dir may count

    moment : Holds (reader_of v.readers) (moves_of then_flows)
    moment =
        (flowing reads readings m w v ours law (AtMoment Fits Holds ours) flow by leg dir may
        count).holds (keeps v by leg dir count (may count) fits)

  -- that holds there too
  abbrev pub Gives : (Numbers → Facts) → Type 0
  Gives More =
      (reader : ℕ → ℕ) (moves : Moves) → Holds reader moves → More (numbers ours) reader moves

  -- ---- an in proxy

  -- there is no in proxy 0
  from_one : (k : ℕ) (node : Shell InProxy) (up : ℕ) → in_place v.company k ≡ Here node up → 1 ≤ k
  from_one zero node up there =
      absurd (let bad : Absent ≡ Here node up =
      sym (law.known v by.leads).traced.zero ∙ there in cc)
  from_one (suc k) node up there = omega arith

  in_at : Gives InHasRoom → (k : ℕ) → 1 ≤ k → (kind : LegKind) (n : ℕ) (dir : Dir)
      → (may : May (leg_at kind n) dir) → at v (leg_at kind n) (receiver dir) ≡ who.In k
      → (count : ℕ) → AmissNext in_proxy.rules
      ((passages_then roles reads readings m w v ours law (AtMoment Fits Holds ours) flow by
      (leg_at kind n) dir may count).ins k)
      (leg_at kind n) (read_on kind dir)
      (put_then roles reads readings m w v ours law (AtMoment Fits Holds ours) flow by
      (leg_at kind n) dir may count) r → ⊥
  in_at gives k from ClientIn n U may here count next =
      let flowed = then_flows (ci n) U may count in
      let moves : Moves = moves_of flowed in
      let put = of_leg (ci n) flowed.flows.client.passage.passage.put in
      never_full in_proxy.rules (flowed.flows.ins k).passage (ci n) (Some CiU) put full in_pdus
      (subst (λ (p : Passage InProxy). NextFindsRoom in_proxy.rules p (ci n) (all_read_of put))
      (flowed.flows.ins k).leads.reached
      (subst (λ (p : EndPassage ClientRole).
      NextFindsRoom in_proxy.rules (in_behind (numbers ours) moves k) (ci n)
      (all_read_of (of_leg (ci n) p.passage.put))) flowed.flows.client.leads.reached
      (gives (reader_of v.readers) moves (moment (ci n) U may count) k n
      (in_number (reader_of v.readers n) k here) from))) next
  in_at gives k from InServer n D may here count next =
      let flowed = then_flows (is_leg n) D may count in
      let p = (flowed.flows.ins k).passage in
      never_full in_proxy.rules p (is_leg n) (Some IsD)
      (of_leg (is_leg n) flowed.flows.server.passage.passage.put) full in_pdus
      (λ packets named used up tells ahead. in_packets p.role n packets named) next
  in_at gives k from ClientIn n D may here count next = absurd cc
  in_at gives k from InServer n U may here count next = absurd cc
  in_at gives k from ClientOut n U may here count next = absurd cc
  in_at gives k from ClientOut n D may here count next = absurd cc
  in_at gives k from OutServer n U may here count next = absurd cc
  in_at gives k from OutServer n D may here count next = absurd cc

  pub no_in_full : Gives InHasRoom → (k : ℕ) (change : Change) → MayChange rules v change
      → ClosesNode rules v change (who.In k) why → ⊥
  no_in_full gives k change may is =
      let c = in_closes roles each reads readings m w v ours law (AtMoment Fits Holds ours) flow by
      why r refl (names full) k change may is in
      in_at gives k (from_one k c.node c.up c.there) c.leg.kind c.leg.number c.dir c.may c.here
      c.count c.next

  -- ---- an out proxy

  out_at : Gives OutHasRoom → (k : ℕ) (kind : LegKind) (n : ℕ) (dir : Dir)
      → (may : May (leg_at kind n) dir) → at v (leg_at kind n) (receiver dir) ≡ who.Out k
      → (count : ℕ) → AmissNext out_proxy.rules
      ((passages_then roles reads readings m w v ours law (AtMoment Fits Holds ours) flow by
      (leg_at kind n) dir may count).outs k)
      (leg_at kind n) (read_on kind dir)
      (put_then roles reads readings m w v ours law (AtMoment Fits Holds ours) flow by
      (leg_at kind n) dir may count) r → ⊥
  out_at gives k OutServer n D may here count next =
      let flowed = then_flows (os_leg n) D may count in
      let moves : Moves = moves_of flowed in
      let put = of_leg (os_leg n) flowed.flows.server.passage.passage.put in
      never_full out_proxy.rules (flowed.flows.outs k).passage (os_leg n) (Some OsD) put full
      out_pdus
      (subst (λ (j : ℕ). NextFindsRoom out_proxy.rules (flowed.flows.outs j).passage (os_leg n)
      (all_read_of put)) (out_number n k here)
      (subst (λ (p : Passage OutProxy).
      NextFindsRoom out_proxy.rules p (os_leg n) (all_read_of put))
      (flowed.flows.outs n).leads.reached
      (subst (λ (p : EndPassage Server).
      NextFindsRoom out_proxy.rules (out_behind (numbers ours) moves n) (os_leg n)
      (all_read_of (of_leg (os_leg n) p.passage.put))) flowed.flows.server.leads.reached
      (gives (reader_of v.readers) moves (moment (os_leg n) D may count) n)))) next
  out_at gives k ClientOut n U may here count next =
      let flowed = then_flows (leg_at ClientOut n) U may count in
      let p = (flowed.flows.outs k).passage in
      never_full out_proxy.rules p (leg_at ClientOut n) (Some CoU)
      (of_leg (leg_at ClientOut n) flowed.flows.client.passage.passage.put) full out_pdus
      (λ packets named used up tells ahead. out_packets p.role n packets named) next
  out_at gives k ClientOut n D may here count next = absurd cc
  out_at gives k OutServer n U may here count next = absurd cc
  out_at gives k ClientIn n U may here count next = absurd cc
  out_at gives k ClientIn n D may here count next = absurd cc
  out_at gives k InServer n U may here count next = absurd cc
  out_at gives k InServer n D may here count next = absurd cc

  pub no_out_full : Gives OutHasRoom → (k : ℕ) (change : Change) → MayChange rules v change
      → ClosesNode rules v change (who.Out k) why → ⊥
  no_out_full gives k change may is =
      let c = out_closes roles each reads readings m w v ours law (AtMoment Fits Holds ours) flow by
      why r refl (names full) k change may is in
      out_at gives k c.leg.kind c.leg.number c.dir c.may c.here c.count c.next

  -- ---- the server

  server_at : Gives ServerHasRoom → (kind : LegKind) (n : ℕ) (dir : Dir)
      → (may : May (leg_at kind n) dir) → at v (leg_at kind n) (receiver dir) ≡ who.Server
      → (count : ℕ) → AmissNext server.rules
      (passages_then roles reads readings m w v ours law (AtMoment Fits Holds ours) flow by
      (leg_at kind n) dir may count).server
      (leg_at kind n) (read_on kind dir)
      (put_then roles reads readings m w v ours law (AtMoment Fits Holds ours) flow by
      (leg_at kind n) dir may count) r → ⊥
  server_at gives InServer n U may here count next =
      let flowed = then_flows (is_leg n) U may count in
      let moves : Moves = moves_of flowed in
      let put = of_leg (is_leg n) (flowed.flows.ins n).passage.put in
      never_full server.rules flowed.flows.server.passage.passage (is_leg n) (Some IsU) put full
      server_pdus
      (subst (λ (p : EndPassage Server).
      NextFindsRoom server.rules p.passage (is_leg n) (all_read_of put))
      flowed.flows.server.leads.reached
      (subst (λ (p : Passage InProxy).
      NextFindsRoom server.rules (server_behind (numbers ours) moves).passage (is_leg n)
      (all_read_of (of_leg (is_leg n) p.put))) (flowed.flows.ins n).leads.reached
      (gives (reader_of v.readers) moves (moment (is_leg n) U may count) n))) next
  server_at gives OutServer n U may here count next =
      let flowed = then_flows (os_leg n) U may count in
      let p = flowed.flows.server.passage.passage in
      never_full server.rules p (os_leg n) (Some OsU)
      (of_leg (os_leg n) (flowed.flows.outs n).passage.put) full server_pdus
      (λ packets named used up tells ahead. server_packets p.role n packets named) next
  server_at gives InServer n D may here count next = absurd cc
  server_at gives OutServer n D may here count next = absurd cc
  server_at gives ClientIn n U may here count next = absurd cc
  server_at gives ClientIn n D may here count next = absurd cc
  server_at gives ClientOut n U may here count next = absurd cc
  server_at gives ClientOut n D may here count next = absurd cc

  pub no_server_full : Gives ServerHasRoom → (change : Change) → MayChange rules v change
      → ClosesNode rules v change who.Server why → ⊥
  no_server_full gives change may is =
      let c = server_closes roles each reads readings m w v ours law (AtMoment Fits Holds ours) flow
      by why r refl (names full) change may is in
      server_at gives c.leg.kind c.leg.number c.dir c.may c.here c.count c.next

  -- ---- the client

  -- on any leg, since no row of it forwards
  pub no_client_full : ClientKnows → (change : Change) → MayChange rules v change
      → ClosesNode rules v change who.Client why → ⊥
  no_client_full client_roles change may is =
      let c = client_closes roles each reads readings m w v ours law (AtMoment Fits Holds ours) flow
      by why r refl (names full) client_roles change may is in
      let p = (passages_then roles reads readings m w v ours law (AtMoment Fits Holds ours) flow by
      c.leg c.dir c.may c.count).client in
      never_full client.rules p c.leg (read_on c.leg.kind c.dir)
      (put_then roles reads readings m w v ours law (AtMoment Fits Holds ours) flow by
      c.leg c.dir c.may c.count) full client_pdus
      (λ packets named used up tells ahead.
      client_packets c.leg.kind p.role c.leg.number packets named) c.next
