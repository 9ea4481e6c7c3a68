-- whatever a change of a world is, it closes no out proxy since what its client put was not to come
-- there
use Rattle.law_order.proofs.Vocabulary.{◌≡◌, ℕ, List, refl, sym, ◌∙◌, subst, Some, None}
use Rattle.rh_record.specs.declared.answer.Who.TheVariants as who
use Rattle.rh_outproxy.specs.Machine as out_proxy
use Rattle.rh_wires.specs.Legs as legs
use Rattle.rh_company.specs.Company as company
use Rattle.rh_company.specs.Places as places
use Rattle.law_moves.proofs.Vocabulary.{Dir, U, D, CoU, ClientConfig, Cause, Leg, ClientOut, Refused, Shell, end_at, EndPassage, of_leg, all_read_of, EndMove}
use Rattle.law_role_inproxy.proofs.Vocabulary.{InProxy}
use Rattle.law_role_client.proofs.Vocabulary.{ClientRole, co, AreAllowedMoves, client_moved}
use Rattle.law_role_server.proofs.Vocabulary.{Server}
use Rattle.law_node_history.proofs.Vocabulary.{receiver, Event, Comes, Place, Absent, Here, Gone, Makers, World, at, Change, IsFed, MayChange, ClosesNode, out_place}
use Rattle.law_node_history.proofs.Lemmas.{answered}
use Rattle.law_node_causes.specs.Closings.{ClosesWith}
use Rattle.law_role_outproxy.proofs.Vocabulary.{OutProxy}
use Rattle.law_role_client_rows.specs.InTurn.Pings.{BeginsWithoutPing}
use Rattle.law_peers_moments.specs.Expecting.{Expects, HasNoPingFirst, IsAmiss}
use Rattle.law_node_traces.proofs.Vocabulary.{ByChanges, AreOurs, deeds, rules}
use Rattle.law_world_order.proofs.Legs.{Reads}
use Rattle.law_world_honest.proofs.Honesty.Closing.{IsOfPiece, by_fed}
use Rattle.law_world_honest.proofs.Honesty.Fed.{told_what, told_who}
use Rattle.law_world_honest.specs.Honesty.Honest.{well_on}
use Rattle.law_world_windows.proofs.Moment.{comes_of, well_behind}
use Rattle.law_world_windows.proofs.Closing.{out_number}
use Rattle.law_world_windows.specs.Known.{Laws, NodesLaws, Readings}
use Rattle.law_world_expected.proofs.Amiss.Next.{never_amiss}
use Rattle.law_world_expected.proofs.Amiss.AtNodes.{out_amiss}
use Rattle.law_world_expected.proofs.Amiss.Moments.{AllFlow, flowing, out_shell}
use Rattle.law_world_expected.proofs.Closing.{NamesLeg}
use Rattle.law_world_expected.proofs.Facts.{no_ping}
use Rattle.law_world_expected.specs.Amiss.{amiss_by}
use Rattle.law_world_expected.specs.Known.{RolesKnow}
use Rattle.law_world_expected.specs.Roles.{OutsServe}

abbrev pub PutsNoPingFirst : Type 0
PutsNoPingFirst =
    (config : ClientConfig) (moves : List EndMove) → AreAllowedMoves config moves
    → BeginsWithoutPing (client_moved config moves).passage.put

module _ {K : Type 0} (roles : RolesKnow) (nodes : NodesLaws) (reads : Reads) (readings : Readings)
    (pings : PutsNoPingFirst) (m : Makers K InProxy OutProxy)
    (w : World K ClientRole Server InProxy OutProxy) (ours : AreOurs m w.company w.cast)
    (law : Laws m w ours) (flow : AllFlow m w ours (OutsServe ours))
    (v : World K ClientRole Server InProxy OutProxy) (by : ByChanges rules m deeds w v) where
  abbrev May : Leg → Dir → Type 0
  May leg dir = MayChange rules v (IsFed leg dir 0)

  abbrev event : Leg → Dir → ℕ → Event
  event leg dir count = Comes leg (legs.take_out leg dir count v.legs).1

  module _ (why : Cause) (r : Refused) (tells : amiss_by why ≡ Some r) (amiss : IsAmiss r)
      (of_piece : (event : Event) → IsOfPiece event why) (k n : ℕ) (names : NamesLeg (co n) why)
    where
      abbrev OutAt : Leg → Type 0
      OutAt leg =
          (dir : Dir) (count : ℕ) (node : Shell OutProxy) (up : ℕ)
          → out_place v.company k ≡ Here node up → May leg dir
          → at v leg (receiver dir) ≡ who.Out k
          → ClosesWith out_proxy.rules node (event leg dir count) why → ⊥

      out_at : OutAt (co n)
      out_at D count node up there may here closes = absurd cc
      out_at U count node up there may here closes =
          let was = out_amiss roles reads readings m w v ours law (OutsServe ours) flow by (co n) U
          (λ j. may) r (well_on ClientOut U) (λ e. refl)
          (well_behind m w v ours law by (co n) U (λ j. may)) why tells count (who.Out k) here
          nodes.outs k refl node up there closes in
          let then_flowing = flowing reads readings m w v ours law (OutsServe ours) flow by (co n) U
          (λ j. may) was.count_then in
          let same = out_number n k here in
          let f = then_flowing.flows.flows in
          let put = of_leg (co n) f.client.passage.passage.put in
          never_amiss out_proxy.rules (f.outs k).passage (co n) (Some CoU) put r amiss
          (subst (λ (j : ℕ). Expects out_proxy.rules (f.outs k).passage (co j)
          (all_read_of (of_leg (co j) f.client.passage.passage.put))) (sym same)
          (then_flowing.holds k was.end was.going
          (subst (λ (j : ℕ). end_at (out_shell reads readings m w v ours law (OutsServe ours) flow
          by (co n) U (λ i. may) was.count_then k) (co j) ≡ Some was.end) same was.at) was.frames))
          (λ upward.
          subst (λ (p : EndPassage ClientRole). HasNoPingFirst (of_leg (co n) p.passage.put))
          f.client.leads.reached
          (no_ping (of_leg (co n) (client_moved ours.config f.client.leads.moves).passage.put)
          ((pings ours.config f.client.leads.moves f.client.leads.allowed).outs n)))
          was.amiss_there

      out_fed : (leg : Leg) (dir : Dir) (count : ℕ) → May leg dir
          → at v leg (receiver dir) ≡ who.Out k
          → (company.tell rules v.company (who.Out k) (event leg dir count)).1 ≡ Some why → ⊥
      out_fed leg dir count may here closes =
          per (out_place v.company k) refl
          (sym (answered Absent (places.tell out_proxy.rules (event leg dir count)) None refl
          v.company.outs k) ∙ closes)
        where
          per : (place : Place OutProxy) → out_place v.company k ≡ place
              → (places.tell out_proxy.rules (event leg dir count) place).1 ≡ Some why → ⊥
          per Absent there closes = absurd cc
          per (Gone now) there closes = absurd cc
          per (Here node up) there closes =
              subst OutAt
              (names OutProxy out_proxy.rules node leg (legs.take_out leg dir count v.legs).1
              (nodes.outs.amiss node (event leg dir count) why closes)) out_at dir count node up
              there may here closes

      fed : (leg : Leg) (dir : Dir) (count : ℕ) → MayChange rules v (IsFed leg dir count)
          → ClosesNode rules v (IsFed leg dir count) (who.Out k) why → ⊥
      fed leg dir count may is =
          out_fed leg dir count may (told_who _ _ _ _ is.told)
          (subst (λ (e : Event). (company.tell rules v.company (who.Out k) e).1 ≡ Some why)
          (sym (told_what _ _ _ _ is.told)) is.closes)

      pub no_out_amiss_at_end : (change : Change) → MayChange rules v change
          → ClosesNode rules v change (who.Out k) why → ⊥
      no_out_amiss_at_end change may is =
          by_fed v (who.Out k) why ⊥ fed (comes_of nodes) change may is (of_piece is.event)
