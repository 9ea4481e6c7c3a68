-- a node that goes on keeps each leg that is up for it, unless it has finished that
use Rattle.law_order.proofs.Vocabulary.{◌≡◌, ◌==◌, ◌&&◌, true, false, true≢false, if◌then◌else◌, Some, None, Option, refl, sym, ap, ◌∙◌, subst}
use Rattle.rh_shell.specs.Shells as shell
use Rattle.law_moves.proofs.Vocabulary.{Going, Leg, NearEnd, Rules, Side, Client, Server, U, D, Shell, end_at, finished_at, finished_by}
use Rattle.law_moves.proofs.Lemmas.{leg_is}
use Rattle.law_node_history.proofs.Vocabulary.{AreCarried, Company, Deeds, History, Makers, Rulebook, World, at, came_up, events_of, is_up, ledger}
use Rattle.law_node_history.proofs.Lemmas.{is_up_at}
use Rattle.law_node_streams.proofs.Streams.Ends.{end_is, end_leg}
use Rattle.law_world_ways.proofs.EndsInTime.Both.{up_for}
use Rattle.law_world_ways.specs.EndsInTime.Both.{AreUpAtBoth}
use Rattle.law_world_waits.specs.Puts.{PutsNoneOn}

-- ---- a leg that is up came up for the nodes at its ends

module _ {K C S I O : Type 0} (r : Rulebook C S I O) (m : Makers K I O) (d : Deeds C S)
    (first : Company C S I O) (cast : K) (v : World K C S I O) (h : History)
    (carried : AreCarried (ledger r m d first cast h) v.legs v.readers) (both : AreUpAtBoth v)
    (leg : Leg) (up : is_up v leg ≡ true) where
  pub rose : (end : Side) → came_up leg (events_of h (at v leg end)) ≡ true
  rose Client =
      (carried.each leg U).put_up (sym (is_up_at v.legs leg Client) ∙ up_for v leg Client both up)
  rose Server =
      (carried.each leg D).put_up (sym (is_up_at v.legs leg Server) ∙ up_for v leg Server both up)

-- ---- a node that knows a leg and has not finished it keeps it

module _ {S : Type 0} (rules : Rules S) (node : Shell S) (leg : Leg) (going : node.course ≡ Going)
    (unfinished : shell.finished rules node leg ≡ false)
    (known : rules.was_up node.role leg ≡ true) (none : PutsNoneOn rules node leg) where
  pub puts_none : rules.put node.role leg ≡ None
  puts_none = by (end_at node leg) refl
    where
      by : (end : Option NearEnd) → end_at node leg ≡ end → rules.put node.role leg ≡ None
      by None is =
          absurd (true≢false (sym known
          ∙ sym (ap (finished_by rules node leg) going ∙ ap (finished_at rules node leg) is)
          ∙ unfinished))
      by (Some end) is =
          subst (λ (one : Leg). rules.put node.role one ≡ None)
          (leg_is end.leg leg (end_leg leg node.legs end (sym (end_is leg node.legs) ∙ is)))
          (none end going is).puts
