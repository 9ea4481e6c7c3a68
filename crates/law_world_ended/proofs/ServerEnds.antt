-- where an is leg ends that its in proxy has finished, the server goes on
use Rattle.law_order.proofs.Vocabulary.{◌≡◌, ◌⊎◌, inl, inr, ℕ, true, None, sym, subst}
use Rattle.rh_inproxy.specs.Machine as in_proxy
use Rattle.rh_server.specs.Servers as server
use Rattle.rh_shell.specs.declared.answers.Phase.TheVariants as phases
use Rattle.rh_company.specs.Company as company
use Rattle.rh_nodes.specs.Opening.{Makers}
use Rattle.law_moves.proofs.Vocabulary.{Dir, U, D, Leg, LegKind, ClientOut, OutServer, ClientIn, InServer, Going, Shell, ended}
use Rattle.law_role_inproxy.proofs.Vocabulary.{InProxy}
use Rattle.law_role_server.proofs.Vocabulary.{Server}
use Rattle.law_node_history.proofs.Vocabulary.{receiver, Ends, leg_at, at, History}
use Rattle.law_role_outproxy.proofs.Vocabulary.{OutProxy}
use Rattle.law_role_marks.specs.Marks.{marks_handed}
use Rattle.law_node_begins.specs.ProxiesBegin.Pipes.{is}
use Rattle.law_node_traces.proofs.Vocabulary.{AreOurs, deeds, rules}
use Rattle.law_node_marks.specs.Losing.{AllAgree}
use Rattle.law_world_order.proofs.Moments.{OurWorld}
use Rattle.law_world_order.proofs.Vocabulary.{numbers_of}
use Rattle.law_world_ways.proofs.EndsInTime.Both.{up_for}
use Rattle.law_world_ways.specs.OnPaths.Ways.{client_node}
use Rattle.law_world_calm.proofs.Steps.{EndsLeg, MayStep}
use Rattle.law_world_unclosed.proofs.Going.{node_silent}
use Rattle.law_world_unclosed.proofs.Untold.{IsUntold}
use Rattle.law_world_unclosed.specs.Late.{is_late}
use Rattle.law_world_ended.specs.Handed.{EndBehindMarks}
use Rattle.law_world_ended.specs.StillLate.{is_still_late}
use Rattle.law_world_ended.proofs.Facts.{At, NodeLaws, server_goes}

module _ (laws : NodeLaws) {K : Type 0} (m : Makers K InProxy OutProxy) (first w : OurWorld K)
    (h : History) (ours : AreOurs m first.company first.cast) (a : At m first ours w h)
    (untold : IsUntold rules m deeds first.company w h)
    (marked : EndBehindMarks (numbers_of ours) h) where
  abbrev Silent : Leg → Dir → Type 0
  Silent leg dir = (company.tell rules w.company (at w leg (receiver dir)) (Ends leg)).1 ≡ None

  server_silent : (n : ℕ) → MayStep rules m deeds w (EndsLeg (leg_at InServer n) U)
      → Silent (leg_at InServer n) U
  server_silent n may =
      node_silent server.rules (is n) w.company.server
      (subst (λ (s : Shell Server). (ended server.rules s (is n)).0.course ≡ Going)
      (sym a.ways.nodes.server)
      (server_goes laws m first w h ours a untold n (λ end. up_for w (is n) end may.0 may.1) may.2
      (by marked)))
    where
      by : EndBehindMarks (numbers_of ours) h
          → ((client_node (numbers_of ours) h).role.phase ≡ phases.Ended)
          ⊎ AllAgree in_proxy.rules marks_handed (in_proxy.first_node (ours.in_config n)) (h.ins n)
      by (inl done) = inl done
      by (inr handed) = inr (handed n)

  -- every other leg ends as late as before
  pub silent_or_late : (leg : Leg) (dir : Dir) → MayStep rules m deeds w (EndsLeg leg dir)
      → Silent leg dir ⊎ (is_late (at w leg (receiver dir)) leg.kind ≡ true)
      → Silent leg dir ⊎ (is_still_late (at w leg (receiver dir)) leg.kind ≡ true)
  silent_or_late leg dir = by leg.kind leg.number dir
    where
      by : (kind : LegKind) (n : ℕ) (dir : Dir)
          → MayStep rules m deeds w (EndsLeg (leg_at kind n) dir)
          → Silent (leg_at kind n) dir
          ⊎ (is_late (at w (leg_at kind n) (receiver dir)) kind ≡ true)
          → Silent (leg_at kind n) dir
          ⊎ (is_still_late (at w (leg_at kind n) (receiver dir)) kind ≡ true)
      by ClientOut n U may so = so
      by ClientOut n D may so = so
      by OutServer n U may so = so
      by OutServer n D may so = so
      by ClientIn n U may so = so
      by ClientIn n D may so = so
      by InServer n U may so = inl (server_silent n may)
      by InServer n D may so = so
