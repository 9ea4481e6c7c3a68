-- packets that wait stay apart
use Rattle.law_order.proofs.Vocabulary.{◌≡◌, ◌||◌, Bool, true, false, List, [], ◌∷◌, ◌++◌, refl, ap, ◌∙◌, AllByRecursion, list_any, Option}
use Rattle.law_moves.proofs.Vocabulary.{by_test, Named, each_push, Due, Key, key_of, are_one, better, merged, takes, to_forward}
use Rattle.law_moves.proofs.Lemmas.{each_so}
use Rattle.law_peers_room.proofs.InRoom.Turns.{better_key}
use Rattle.law_peers_room.specs.InRoom.Waiting.{AreApart}

-- none behind it is one with it
abbrev IsApart : Due → Due → Type 0
IsApart due other = takes other.packet due ≡ false

abbrev StandsApart : Due → List Due → Type 0
StandsApart due dues = AllByRecursion (IsApart due) dues

none_takes : (packet : Named) (due : Due) (dues : List Due)
    → list_any (takes packet) (due ∷ dues) ≡ false
    → (takes packet due ≡ false) × (list_any (takes packet) dues ≡ false)
none_takes packet due dues e = by (takes packet due) (list_any (takes packet) dues) e
  where
    by : (a b : Bool) → (a || b) ≡ false → (a ≡ false) × (b ≡ false)
    by true b e = absurd cc
    by false b e = (refl, e)

pub push_apart : (packet : Named) (dues : List Due) → list_any (takes packet) dues ≡ false
    → AreApart dues → AreApart (dues ++ to_forward packet ∷ [])
push_apart packet [] e h = (tt, tt)
push_apart packet (due ∷ dues) e h =
    let none = none_takes packet due dues e in (
      each_push (IsApart due) dues (to_forward packet) h.0 none.0,
      push_apart packet dues none.1 h.1,
    )

-- merging leaves the keys
first_better : (packet : Named) (due other : Due) → takes packet due ≡ true → IsApart due other
    → IsApart (better due packet) other
first_better packet due other e h =
    ap (λ (k : Option Key). are_one k (key_of other.packet)) (better_key packet due e) ∙ h

other_better : (packet : Named) (due other : Due) → takes packet other ≡ true
    → IsApart due other → IsApart due (better other packet)
other_better packet due other e h =
    ap (λ (k : Option Key). are_one (key_of due.packet) k) (better_key packet other e) ∙ h

stands_merged : (packet : Named) (due : Due) (dues : List Due) → StandsApart due dues
    → StandsApart due (merged dues packet)
stands_merged packet due [] h = tt
stands_merged packet due (other ∷ dues) h =
    by_test (StandsApart due) (takes packet other) (better other packet ∷ dues)
    (other ∷ merged dues packet) (λ e. (other_better packet due other e h.0, h.1))
    (λ e. (h.0, stands_merged packet due dues h.1))

pub merged_apart : (packet : Named) (dues : List Due) → AreApart dues
    → AreApart (merged dues packet)
merged_apart packet [] h = tt
merged_apart packet (due ∷ dues) h =
    by_test AreApart (takes packet due) (better due packet ∷ dues) (due ∷ merged dues packet)
    (λ e. (
      each_so (IsApart due) (IsApart (better due packet))
          (λ other apart. first_better packet due other e apart) dues h.0,
      h.1,
    ))
    (λ e. (stands_merged packet due dues h.0, merged_apart packet dues h.1))
