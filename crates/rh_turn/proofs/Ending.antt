-- How a turn begins, and how it ends.
use Rattle.std.proofs.Common.{◌≡◌, ◌≢◌, ℕ, zero, suc, ◌<◌, false, List, [], ◌∷◌, set, length, Some, refl, sym, ap, ◌∙◌, subst, ⊎_elim, arith}
use Rattle.std.specs.Prelude.{nat_lt}
use Rattle.std.specs.List.{sum_by}
use Rattle.std.specs.declared.option.Option.{Option}
use Rattle.std.proofs.lemmas.Bool.Decides.{nat_tests}
use mathlib.Core.Option.{some, some-injective, some-ne-none}
use lib.ListN.{get_elem?}
use Rattle.atomic_table.specs.Table.{opening, Final, Seen}
use Rattle.atomic_table.proofs.Lists.{at_set}
use Rattle.rh_turn.specs.declared.view.View.{View}
use Rattle.rh_turn.specs.declared.view.Stage.TheVariants.{Idle}
use Rattle.rh_turn.specs.History.{state_after, times, one_if, AreAll}
use Rattle.rh_turn.specs.Rule.{Dealt, ticket, turn, place, parts, has, Fits, AreSeats, Account, slot_of, Kept, first_view}
use Rattle.rh_turn.specs.Steps.{spent}
use Rattle.rh_turn.proofs.Beginnings.{begins_whole}
use Rattle.rh_turn.proofs.Sums.{sum_set, sum_at, sum_none, one_if-false}
use Rattle.rh_turn.proofs.Seats.{spent_has}

none_below : (k : ℕ) → 0 ≡ one_if (nat_lt k 0)
none_below k = grind (arith, nat_tests)

module _ {E : Type 0} {seats : ℕ} {views : List (View E)} {a : Account E}
    (are : AreSeats seats views a) (id : ℕ) (v : View E) (at : get_elem? views id ≡ some v)
    (all_parts : v.parts ≡ seats) where
  -- beside the seat that has all parts no seat has anything
  alone : (d : Dealt) → sum_by (has d) views ≡ has d v
  alone d =
      let changed = sum_set (has d) views id v spent at in
      let nothing = spent_has E d in
      let rest = sum_set (has parts) views id v spent at in
      let was = are.dealt parts in
      let others : sum_by (has d) (set views id spent) ≡ 0 =
      sum_none (has d) (set views id spent) (λ i u there.
      let part = sum_at (has parts) (set views id spent) i u there in
      ⊎_elim (λ (h : (i ≡ id) × (spent ≡ u)). subst (λ x. has d x ≡ 0) h.1 nothing)
      (λ (h : (i ≢ id) × (get_elem? views i ≡ some u)).
      (are.fits i u h.1).spent (omega arith) d)
      (at_set views id i spent u there)) in
      omega arith

  all_mine : (k : ℕ) → times k v.mine ≡ one_if (nat_lt k (length a.log))
  all_mine k = let mine = alone (place k) in let was = are.dealt (place k) in omega arith

  -- and it has seen all
  whole : v.seen ≡ a.log
  whole =
      let fits = are.fits id v at in
      let end = fits.within (length v.seen) in
      let mine = all_mine (length v.seen) in
      begins_whole v.seen a.log fits.begins (grind (arith, nat_tests))

module _ {S E : Type 0} (next : S → E → S) (first : S) (seats : ℕ) where
  pub opens : 0 < seats → Kept {S = S} {E = E} next first seats
      (opening (0 ∷ 0 ∷ 0 ∷ []) (Some first ∷ []) (first_view seats))
  opens some_part = (
    record { tickets = 0; serving = 0; log = []; is_held = false },
    record {
      words_are = refl;
      in_range = omega arith;
      at_rest = λ free. refl;
      slot_is = refl;
      seats_are = record {
        dealt = elim [
          | ticket k ↦ omega arith
          | turn ↦ refl
          | place k ↦ none_below k
          | parts ↦ omega arith
        ];
        fits = only;
      };
    },
  )
    where
      only : (i : ℕ) (v : View E) → get_elem? (first_view seats ∷ []) i ≡ some v → Fits [] 0 v
      only zero v at = subst (Fits [] 0) (some-injective (first_view seats) v at) (record {
        begins = ([], refl);
        knows = tt;
        within = λ k some_time. absurd (omega arith);
        spent = λ none_left. absurd (omega arith);
      })
      only (suc i) v at = absurd (some-ne-none v (sym at))

  -- the seat that has all parts has seen all of the history, whose state is in the slot, and all
  -- places are its own
  pub closes : (id : ℕ) (v : View E) (words : List ℕ) (slots : List (Option S)) → v.stage ≡ Idle
      → v.parts ≡ seats → Final (Seen (Kept next first seats) id v) words slots
      → (get_elem? slots 0 ≡ some (Some (state_after next first v.seen))) × AreAll v.mine v.seen
  closes id v words slots is_idle all_parts end =
      let kept = end.1.0.1 in
      let are = kept.seats_are in
      let all = whole are id v end.1.1 all_parts in
      let mine = alone are id v end.1.1 all_parts turn in
      let held = are.dealt turn in
      let free : has turn v ≡ 0 = ap (λ stage. has turn (record v { stage = stage })) is_idle in
      let account = end.1.0.0 in
      let rest : account.is_held ≡ false = one_if-false account.is_held (omega arith) in
      let home : end.0.homes ≡ some (Some (state_after next first v.seen)) ∷ [] = kept.slot_is
      ∙ (ap (λ b. slot_of next first b account.log ∷ []) rest
      ∙ ap (λ es. some (Some (state_after next first es)) ∷ []) (sym all)) in (
        end.4 0 (Some (state_after next first v.seen)) (ap (λ hs. get_elem? hs 0) home),
        λ k. all_mine are id v end.1.1 all_parts k
            ∙ ap (λ es. one_if (nat_lt k (length es))) (sym all),
      )
