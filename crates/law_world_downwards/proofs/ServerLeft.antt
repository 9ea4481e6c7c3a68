-- where the server has finished an os leg its work is done
use Rattle.rh_text.specs.declared.ends.Side.TheVariants as side
use Rattle.rh_company.specs.Company as company
use Rattle.rh_record.specs.declared.answer.Who.TheVariants as who
use Rattle.rh_server.specs.Servers as server
use Rattle.rh_wires.specs.Legs as legs
use Rattle.law_order.proofs.Vocabulary.{◌≡◌, ◌⊎◌, inl, inr, ◌∙◌, ℕ, Bool, true, false, refl, sym, subst, and_parts}
use Rattle.law_moves.proofs.Vocabulary.{D, Shell, finished, is_at_work}
use Rattle.law_role_inproxy.proofs.Vocabulary.{InProxy}
use Rattle.law_role_server.proofs.Vocabulary.{Server}
use Rattle.law_node_history.proofs.Vocabulary.{Makers, AreAcceptedAtEnd, came_up, happened, Leads, History}
use Rattle.law_node_history.proofs.Lemmas.{is_up_at}
use Rattle.law_role_outproxy.proofs.Vocabulary.{OutProxy}
use Rattle.law_node_begins.specs.ProxiesBegin.Pipes.{os}
use Rattle.law_node_traces.proofs.Vocabulary.{AreOurs, deeds, rules, IsKnown, history_at}
use Rattle.law_world_order.proofs.Moments.{OurWorld}
use Rattle.law_world_order.proofs.Vocabulary.{Numbers, numbers_of}
use Rattle.law_world_ways.specs.OnPaths.Ways.{AreOnTheirWay, server_node}
use Rattle.law_world_ways.specs.ExactPaths.GoingOn.{AllGoOn}
use Rattle.law_world_downwards.proofs.ServerOver.{ServerLaws, finished_rests}
use Rattle.law_world_downwards.specs.Over.{IsOverDownwards}

-- by a test
pub either_way : {A B : Type 0} (b : Bool) → (b ≡ true → A) → (b ≡ false → B) → A ⊎ B
either_way true f g = inl (f refl)
either_way false f g = inr (g refl)

module _ (law : ServerLaws) {K : Type 0} (m : Makers K InProxy OutProxy) (w v : OurWorld K)
    (ours : AreOurs m w.company w.cast) (leads : Leads rules m deeds w v)
    (known : IsKnown m w v leads)
    (ways : AreOnTheirWay (numbers_of ours) v (history_at m w v leads))
    (going : AllGoOn (numbers_of ours) (history_at m w v leads)) (n : ℕ)
    (over : IsOverDownwards rules v (history_at m w v leads) (os n)) where
  abbrev h : History
  h = history_at m w v leads

  abbrev numbers : Numbers
  numbers = numbers_of ours

  accepted : AreAcceptedAtEnd server.rules server.acts (server.new_server numbers.window) h.server
  accepted =
      subst (λ (s : Shell Server). AreAcceptedAtEnd server.rules server.acts s h.server)
      ours.server known.traced.accepted.server

  rose : came_up (os n) (happened h.server) ≡ true
  rose =
      (known.traced.carried.each (os n) D).put_up
      (sym (is_up_at v.legs (os n) side.Server) ∙ over.up side.Server)

  pub server_rests : is_at_work server.rules (server_node numbers h).role ≡ false
  server_rests =
      finished_rests law numbers.window h.server n accepted rose (over.untold side.Server)
      going.server
      (subst (λ (s : Shell Server). finished server.rules s (os n) ≡ true) ways.nodes.server
      (and_parts (company.finished rules v.company who.Server (os n))
      (legs.is_clear (os n) D v.legs) over.done).0)
