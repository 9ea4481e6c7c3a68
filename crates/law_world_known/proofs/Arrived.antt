-- all that was put on a leg came, where nothing is in flight and nothing begun
use Rattle.law_order.proofs.Vocabulary.{◌≡◌, ◌⊎◌, inl, inr, ℕ, List, [], ◌++◌, Bool, true, false, true≢false, refl, sym, ap, ◌∙◌, append-nil, ◌||◌, ◌&&◌, ◌∷◌, None, Some, Option}
use Rattle.rh_shell.specs.NearEnds.{is_empty}
use Rattle.rh_shell.specs.Shells as shell
use Rattle.law_moves.proofs.Vocabulary.{Going, Leg, NearEnd, is_marked, is_over, is_useless, Rules, Shell, end_at, finished_at, finished_by}
use Rattle.law_node_history.proofs.Vocabulary.{Carriage, IsCarried, IsDone, IsUnheard}
use Rattle.law_world_waits.specs.Puts.{PutsNoneOn}

-- ---- between the nodes

-- on a leg that is up for both of its ends
pub up_carried : (c : Carriage) → IsCarried c → c.puts ≡ true → c.takes ≡ true → c.flight ≡ []
    → c.drawn ≡ c.fed
up_carried c is puts takes none = by is.lost refl
  where
    not_lost : IsUnheard c ⊎ IsDone c.did_take c.takes → ⊥
    not_lost (inl done) = true≢false (sym puts ∙ done.0.1)
    not_lost (inr done) = true≢false (sym takes ∙ done.1)

    by : (lost : Bool) → is.lost ≡ lost → c.drawn ≡ c.fed
    by false e =
        is.wire.whole e ∙ ap (λ (flight : List ℕ). c.fed ++ flight) none ∙ append-nil c.fed
    by true e = absurd (not_lost (is.over e))

-- ---- at a node

-- it keeps the leg and has use for it, and nothing is begun there
pub record IsSeated {S : Type 0} (rules : Rules S) (node : Shell S) (leg : Leg) : Type 0 where
  pub end : NearEnd
  pub at : end_at node leg ≡ Some end
  pub begun : end.begun ≡ []
  pub of_use : is_over rules end node.role ≡ false

in_use : (marked useless : Bool) (begun : List ℕ) → begun ≡ []
    → (marked || (useless && is_empty begun)) ≡ false → (marked || useless) ≡ false
in_use true useless begun is none = absurd cc
in_use false false begun is none = refl
in_use false true [] is none = absurd cc
in_use false true (b ∷ bs) is none = absurd cc

module _ {S : Type 0} (rules : Rules S) (node : Shell S) (leg : Leg) (going : node.course ≡ Going)
    (unfinished : shell.finished rules node leg ≡ false)
    (known : rules.was_up node.role leg ≡ true) (none : PutsNoneOn rules node leg) where
  pub is_seated : IsSeated rules node leg
  is_seated = by (end_at node leg) refl
    where
      at_end : (o : Option NearEnd) → end_at node leg ≡ o → finished_at rules node leg o ≡ false
      at_end o is =
          sym (ap (finished_by rules node leg) going ∙ ap (finished_at rules node leg) is)
          ∙ unfinished

      by : (o : Option NearEnd) → end_at node leg ≡ o → IsSeated rules node leg
      by None is = absurd (true≢false (sym known ∙ at_end None is))
      by (Some end) is =
          let begun = (none end going is).begun in record {
            end = end;
            at = is;
            begun = begun;
            of_use = in_use (is_marked end.standing) (is_useless rules end node.role) end.begun
                begun (at_end (Some end) is);
          }
