-- an in proxy that did not lose its newest ci leg before IN_R1/A5 came there is over behind
-- IN_R1/A6
use Rattle.law_order.proofs.Vocabulary.{◌≡◌, ◌||◌, ◌∙◌, ℕ, true, false, true≢false, not, List, [], sym, ap, subst, and_parts, AllByRecursion, has_handover}
use Rattle.rh_inproxy.specs.declared.state.Opening.TheVariants as openings
use Rattle.rh_inproxy.specs.declared.state.Work.TheVariants as works
use Rattle.law_moves.proofs.Vocabulary.{InR1B1, is_ended, Rules, of_leg, Has, AreAllowed, Move, Passage, started, all_moved, is_at_work}
use Rattle.law_role_inproxy.proofs.Vocabulary.{InProxyConfig, Opening, Work, InProxy, first, has_come, has_passed, is_newest, phase_by, rules as proxy_rules, KeepsOrder, put_items, ci_leg, is_leg}
use Rattle.law_node_ends.specs.Passed.{AsksNoEcho, HeadsAre}
use Rattle.law_role_marks.specs.Marks.{marks_handed}
use Rattle.law_node_marks.specs.Losing.{marking}
use Rattle.law_node_marks.proofs.ByMoves.{all_moved_same, are_allowed, itself_allowed}
use Rattle.law_node_marks.proofs.InProxyHeld.{Held, held_behind}
use Rattle.law_node_marks.proofs.InProxyRows.{IsWork}

abbrev kept_rules : Rules InProxy
kept_rules = marking proxy_rules marks_handed

module _ (config : InProxyConfig) (moves : List Move)
    (may : AreAllowed kept_rules (started (first config)) moves)
    (asks : AllByRecursion (HeadsAre (AsksNoEcho true)) moves)
    (law : (moves : List Move) → AreAllowed proxy_rules (started (first config)) moves
    → KeepsOrder config.number (all_moved proxy_rules (started (first config)) moves)) where
  abbrev p : Passage InProxy
  p = all_moved kept_rules (started (first config)) moves

  order : KeepsOrder config.number p
  order =
      subst (KeepsOrder config.number)
      (sym (all_moved_same proxy_rules marks_handed (started (first config)) moves))
      (law moves (are_allowed proxy_rules marks_handed
      (λ s leg e. (and_parts (proxy_rules.only_marks s leg)
      (not (is_newest s leg) || has_come s.handover) e).0)
      (started (first config)) moves may))

  held : Held (Unit {0}) p
  held =
      held_behind (Unit {0}) marks_handed
      (λ s leg e k. (and_parts (proxy_rules.only_marks s leg)
      (not (is_newest s leg) || has_come s.handover) e).1) config moves may asks

  passed : is_at_work proxy_rules p.role ≡ false → has_passed p.role.handover ≡ true
  passed done = by p.role.work p.role.opening held.all.works done
    where
      by : (w : Work) (o : Opening) → IsWork (Unit {0}) p.role w
          → not (is_ended (phase_by w o)) ≡ false → has_passed p.role.handover ≡ true
      by works.Done o is e = is tt
      by (works.EchoDue number) o is e = absurd is
      by (works.EchoPut number) o is e = absurd is
      by works.Underway openings.AwaitsClient is e = absurd (true≢false e)
      by works.Underway openings.AwaitsPacket is e = absurd (true≢false e)
      by works.Underway (openings.WantsServer opener) is e = absurd (true≢false e)
      by works.Underway (openings.Announces opener) is e = absurd (true≢false e)
      by works.Underway (openings.Announced opener) is e = absurd (true≢false e)

  pub over_behind_mark : is_at_work proxy_rules p.role ≡ false
      → has_handover (put_items p.put) ≡ true
  over_behind_mark done = sym order.handover_put ∙ passed done

-- ---- by its own rules

module _ (config : InProxyConfig) (moves : List Move)
    (may : AreAllowed proxy_rules (started (first config)) moves)
    (asks : AllByRecursion (HeadsAre (AsksNoEcho true)) moves) where
  held_all : Held ⊥ (all_moved proxy_rules (started (first config)) moves)
  held_all =
      subst (Held ⊥)
      (all_moved_same proxy_rules proxy_rules.only_marks (started (first config)) moves)
      (held_behind ⊥ proxy_rules.only_marks (λ s leg e none. absurd none) config moves
      (itself_allowed proxy_rules (started (first config)) moves may) asks)

  pub unput_on_client : (n : ℕ)
      → of_leg (ci_leg n) (all_moved proxy_rules (started (first config)) moves).put ≡ []
  unput_on_client = held_all.unput

  -- behind IN_R1/B1 the work is done
  pub done_behind_b1 : (n : ℕ)
      → Has InR1B1 (of_leg (is_leg n)
      (all_moved proxy_rules (started (first config)) moves).came)
      → is_at_work proxy_rules (all_moved proxy_rules (started (first config)) moves).role
      ≡ false
  done_behind_b1 n told =
      let s = (all_moved proxy_rules (started (first config)) moves).role in
      ap (λ (w : Work). not (is_ended (phase_by w s.opening))) (held_all.told n told)
